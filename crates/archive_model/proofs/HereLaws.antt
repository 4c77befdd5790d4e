-- A dump that is found whole, and held once, stands on the slots that a play takes.
use Rattle.std.proofs.Common.{◌≡◌, suc, Bool, true, Some, List, [], ◌∷◌, map, take, refl, ap, ◌∙◌, arith}
use Rattle.std.specs.Prelude.{All, Contains, find, ◌==◌, ◌&&◌}
use Rattle.std.proofs.lemmas.Bool.{and_parts}
use Rattle.std.proofs.lemmas.List.Elements.{All-nil, All-cons, All-contains}
use Rattle.budb_changes.specs.declared.records.TapePart.{TapePart}
use Rattle.budb_changes.specs.declared.records.DumpRecordFields.{DumpRecordFields}
use Rattle.tape_text.specs.Wholes.{tape_part}
use Rattle.tape_scan.specs.Slots.{Slot, Located, IsClosedAt, IsFound}
use Rattle.archive_model.specs.Holding.{place_of, holds}
use Rattle.archive_model.specs.Clones.{IsHere}
use Rattle.archive_model.specs.Archives.{told_here, all_here, AreHeldOnce}
use Rattle.archive_model.proofs.FoundLaws.{own_place, whole_linked, tapes_of_found, contains_found, part_lies, lies_held}
use Rattle.archive_model.proofs.SlotLaws.{only_slot, told_get, told_back}

module _ (slots : List Slot) (parts : List Located) (d : DumpRecordFields) (found : IsFound slots parts d) (once : AreHeldOnce (d ∷ []) slots) where
  part_here : (l : Located) → Contains parts l → IsHere (all_here slots) d l.found
  part_here l member =
      let c : IsClosedAt slots l = All-contains (IsClosedAt slots) parts l found.closed member in
      let place : place_of d l.found.part.head.tape ≡ Some (tape_part l.found) =
      ap (λ (ts : List TapePart). find (λ x. x.tape == l.found.part.head.tape) ts) (tapes_of_found slots parts d found) ∙ own_place (map (λ x. x.found) parts) l.found (whole_linked slots parts d found) (contains_found parts l member) in
      let held : holds d l.found.part.head.tape c.here.items ≡ true = lies_held d l.found.part.head.tape (tape_part l.found) c.here.items place refl (part_lies slots parts d l c found member) in
      let test : Slot → Bool = λ t. t.here && holds d l.found.part.head.tape t.items in
      let x = only_slot test 0 (all_here slots) l.slot (told_here c.here) (told_get slots l.slot c.here c.at) held (λ j t at hit.
      (let u = told_back slots j t at in
      once d l.found.part.head.tape j l.slot u.0 c.here (0, omega arith, refl) u.1 c.at (ap (λ (v : Slot). holds d l.found.part.head.tape v.items) u.2 ∙ (and_parts t.here (holds d l.found.part.head.tape t.items) hit).1) held)) in
      record {
        slot = x.0;
        holder = x.1;
        tape = c.closed.tape;
        is = c.closed.is;
        there = c.closed.there;
        front = ap (λ (t : Slot). take l.found.end t.items) x.2 ∙ c.closed.front;
      }

  all_parts : (ls : List Located) → ((l : Located) → Contains ls l → Contains parts l) → All (IsHere (all_here slots) d) (map (λ l. l.found) ls)
  all_parts [] sub = All-nil (IsHere (all_here slots) d)
  all_parts (l ∷ ls) sub = All-cons (IsHere (all_here slots) d) l.found (map (λ x. x.found) ls) (part_here l (sub l (0, omega arith, refl))) (all_parts ls (λ m there. sub m (suc there.0, omega (arith, there.1), there.2)))

  -- all of its parts are on the slots that hold it
  pub found_is_here : All (IsHere (all_here slots) d) (map (λ l. l.found) parts)
  found_is_here = all_parts parts (λ l there. there)
