-- Dumps that are forgotten, a tape that is cut, and a dump that is found whole and then listed.
use Rattle.std.proofs.Common.{◌≡◌, ◌⊎◌, ℕ, suc, ◌≤◌, Bool, true, false, not, Some, List, [], ◌∷◌, ◌++◌, length, map, take, refl, sym, ap, subst, ◌∙◌, arith, inl, inr, append-nil, length-take, ◌<◌}
use Rattle.std.specs.Prelude.{Result, Contains, slice_get, find, ◌==◌}
use Rattle.std.proofs.lemmas.Bool.{or_parts, or_from}
use Rattle.std.proofs.lemmas.List.{take_all}
use Rattle.std.proofs.lemmas.List.Elements.{All-nil, All-cons, All-contains, Contains-append_left, Contains-push, Contains-push_cases}
use Rattle.vnode_model.specs.declared.volumes.VolumeFields.{VolumeFields}
use Rattle.budb_changes.specs.declared.records.TapePart.{TapePart}
use Rattle.budb_changes.specs.declared.records.DumpRecordFields.{DumpRecordFields}
use Rattle.budb_fold.specs.Database.{is_dump, has_dump, without}
use Rattle.tape_text.specs.Items.{Item}
use Rattle.tape_text.specs.Wholes.{tape_part}
use Rattle.tape_scan.specs.Slots.{Slot, Located, IsClosedAt, IsFound}
use Rattle.archive_model.specs.Holding.{place_of, holds}
use Rattle.archive_model.specs.Archives.{Refusal, IsUnlisted, AreHolders, IsKept}
use Rattle.archive_model.specs.Turns.{with_items, remaining}
use Rattle.archive_model.proofs.Alike.{IsLeftAt, AreLeft}
use Rattle.tape_scan.proofs.ListLaws.{of_filter, same_or_not}
use Rattle.archive_model.proofs.HoldLaws.{lies_within}
use Rattle.archive_model.proofs.KeepLaws.{held_uncut}
use Rattle.archive_model.proofs.ManyTapeLaws.{differs}
use Rattle.tape_scan.proofs.ClosedLaws.{found_once}
use Rattle.archive_model.proofs.FoundLaws.{own_place, whole_linked, tapes_of_found, contains_found, part_lies, lies_held}
use Rattle.archive_model.proofs.PutLaws.{with_get}
use Rattle.archive_model.proofs.CutLaws.{remaining_kept}

module _ (listed records : List DumpRecordFields) (slots : List Slot) (contents : ℕ → List ℕ → Result VolumeFields Refusal) (kept : IsKept listed slots contents records) (above : (d : DumpRecordFields) → Contains listed d → d.parent < d.id) where
  -- ---- forgetting

  as_it_was : (few : List DumpRecordFields) → ((d : DumpRecordFields) → Contains few d → Contains listed d) → (k : ℕ) (s : Slot) → slice_get slots k ≡ Some s → IsLeftAt few slots k s.items
  as_it_was few sub k s at = record {
    here = s;
    at = at;
    count = length s.items;
    rest = [];
    torn = inl refl;
    is = sym (append-nil (take (length s.items) s.items) ∙ take_all (length s.items) s.items (omega arith));
    ends = λ d tape p there place held.
        (let within : p.end ≤ length s.items = lies_within d p s.items (kept.lie d k s (kept.dumps.complete d (inl (sub d there))) at tape p place held) in
        omega (arith, within, length-take (length s.items) s.items));
  }

  fewer : (is_so : DumpRecordFields → Bool) (d : DumpRecordFields) → Contains (without is_so listed) d → Contains listed d
  fewer is_so d there = (of_filter (λ (x : DumpRecordFields). not (is_so x)) listed d there).0

  -- Where some dumps are forgotten, those that are found whole stay dumps; the others are dumps no more.
  pub forgetting_keeps : (is_so : DumpRecordFields → Bool) → IsKept (without is_so listed) slots contents (remaining (without is_so listed) slots records)
  forgetting_keeps is_so = remaining_kept listed (without is_so listed) records slots slots contents kept (fewer is_so) (as_it_was (without is_so listed) (fewer is_so)) above

  -- ---- cutting

  module _ (k n : ℕ) (s : Slot) (at : slice_get slots k ≡ Some s) (behind : (d : DumpRecordFields) (tape : ℕ) (p : TapePart) → Contains listed d → place_of d tape ≡ Some p → holds d tape (take n s.items) ≡ true → p.end ≤ n) where
    left_by_cut : AreLeft listed slots (with_items k (take n s.items) slots)
    left_by_cut j t at_j = elim (with_get k (take n s.items) slots j t at_j) [
      | inl here ↦ record {
        here = s;
        at = subst (λ (m : ℕ). slice_get slots m ≡ Some s) (sym here.0) at;
        count = n;
        rest = [];
        torn = inl refl;
        is = here.1 ∙ sym (append-nil (take n s.items));
        ends = λ d tape p there place held.
            (let short : holds d tape (take n s.items) ≡ true = subst (λ (l : List Item). holds d tape l ≡ true) here.1 held in
            let end : p.end ≤ n = behind d tape p there place short in
            let within : p.end ≤ length s.items = lies_within d p s.items (kept.lie d k s (kept.dumps.complete d (inl there)) at tape p place (uncut d tape short)) in
            omega (arith, end, within, length-take n s.items));
      }
      | inr other ↦ as_it_was listed (λ d there. there) j t other.1
    ]
      where
        uncut : (d : DumpRecordFields) (tape : ℕ) → holds d tape (take n s.items) ≡ true → holds d tape s.items ≡ true
        uncut d tape held = held_uncut (place_of d tape) d tape n s.items held

    -- A cut behind all that is held of listed dumps keeps them. A dump that isn't listed stays one where it is whole yet.
    pub cutting_keeps : IsKept listed (with_items k (take n s.items) slots) contents (remaining listed (with_items k (take n s.items) slots) records)
    cutting_keeps = remaining_kept listed listed records slots (with_items k (take n s.items) slots) contents kept (λ d there. there) left_by_cut above

-- ---- listing a dump that is found

without_push : (xs : List DumpRecordFields) (d : DumpRecordFields) (id : ℕ) → has_dump (xs ++ d ∷ []) id ≡ false → has_dump xs id ≡ false
without_push [] d id none = refl
without_push (x ∷ xs) d id none =
    let parts = or_parts (is_dump id x) (has_dump (xs ++ d ∷ []) id) none in
    or_from (is_dump id x) (has_dump xs id) parts.0 (without_push xs d id parts.1)

none_push : (xs : List DumpRecordFields) (d : DumpRecordFields) (id : ℕ) → has_dump xs id ≡ false → (d.id ≡ id → ⊥) → has_dump (xs ++ d ∷ []) id ≡ false
none_push [] d id none other = or_from (is_dump id d) false (differs d.id id other) refl
none_push (x ∷ xs) d id none other =
    let parts = or_parts (is_dump id x) (has_dump xs id) none in
    or_from (is_dump id x) (has_dump (xs ++ d ∷ []) id) parts.0 (none_push xs d id parts.1 other)

module _ (listed records : List DumpRecordFields) (slots : List Slot) (contents : ℕ → List ℕ → Result VolumeFields Refusal) (kept : IsKept listed slots contents records)
    (d : DumpRecordFields) (un : IsUnlisted listed slots d) where
  there : Contains records d
  there = kept.dumps.complete d (inr un)

  is_unlisted : (e : DumpRecordFields) → Contains records e → (e.id ≡ d.id → ⊥) → Contains listed e ⊎ IsUnlisted listed slots e → Contains (listed ++ d ∷ []) e ⊎ IsUnlisted (listed ++ d ∷ []) slots e
  is_unlisted e e_there other (inl old) = inl (Contains-append_left listed (d ∷ []) e old)
  is_unlisted e e_there other (inr u) = inr (record { parts = u.parts; found = u.found; unlisted = none_push listed d e.id u.unlisted (λ same. other (sym same)); above = u.above })

  pub holders : (parts : List Located) → IsFound slots parts d → (ls : List Located) → ((l : Located) → Contains ls l → Contains parts l) → AreHolders d ls slots
  holders parts found [] sub = All-nil (λ (l : Located). (s : Slot) × (slice_get slots l.slot ≡ Some s) × (holds d l.found.part.head.tape s.items ≡ true))
  holders parts found (l ∷ ls) sub =
      let member : Contains parts l = sub l (0, omega arith, refl) in
      let c : IsClosedAt slots l = All-contains (IsClosedAt slots) parts l found.closed member in
      let place : place_of d l.found.part.head.tape ≡ Some (tape_part l.found) =
      ap (λ (ts : List TapePart). find (λ x. x.tape == l.found.part.head.tape) ts) (tapes_of_found slots parts d found) ∙ own_place (map (λ x. x.found) parts) l.found (whole_linked slots parts d found) (contains_found parts l member) in
      let held : holds d l.found.part.head.tape c.here.items ≡ true = lies_held d l.found.part.head.tape (tape_part l.found) c.here.items place refl (part_lies slots parts d l c found member) in
      All-cons (λ (m : Located). (s : Slot) × (slice_get slots m.slot ≡ Some s) × (holds d m.found.part.head.tape s.items ≡ true)) l ls (c.here, c.at, held) (holders parts found ls (λ m in_ls. sub m (suc in_ls.0, omega (arith, in_ls.1), in_ls.2)))

  -- A dump that is found whole and then listed was a dump before: all are kept.
  pub listing_keeps : IsKept (listed ++ d ∷ []) slots contents records
  listing_keeps = record {
    dumps = record {
      sound = λ e e_there. elim (same_or_not e.id d.id) [
        | inl same ↦ inl (subst (Contains (listed ++ d ∷ [])) (kept.ids_once d e there e_there (sym same)) (Contains-push listed d))
        | inr other ↦ is_unlisted e e_there other (kept.dumps.sound e e_there)
      ];
      complete = λ e is. elim is [
        | inl is_listed ↦ elim (Contains-push_cases listed d e is_listed) [
          | inl old ↦ kept.dumps.complete e (inl old)
          | inr new ↦ subst (Contains records) new there
        ]
        | inr u ↦ kept.dumps.complete e (inr (record { parts = u.parts; found = u.found; unlisted = without_push listed d e.id u.unlisted; above = u.above }))
      ];
    };
    ids_once = kept.ids_once;
    held_once = kept.held_once;
    heads_once = kept.heads_once;
    lie = kept.lie;
    whole = λ e is_listed held. elim (Contains-push_cases listed d e is_listed) [
      | inl old ↦ kept.whole e old held
      | inr new ↦ subst (λ (x : DumpRecordFields). (parts : List Located) × IsFound slots parts x × AreHolders x parts slots) new (un.parts, un.found, holders un.parts un.found un.parts (λ l in_parts. in_parts))
    ];
    agree = λ e x parts is_listed found same. elim (Contains-push_cases listed d e is_listed) [
      | inl old ↦ kept.agree e x parts old found same
      | inr new ↦ found_once slots kept.heads_once parts un.parts x d found un.found (same ∙ sym (ap (λ (y : DumpRecordFields). y.id) new)) ∙ new
    ];
    contents_are = kept.contents_are;
  }
