-- What keeps a plant's dumps: tapes that begin as before and get no head of a dump that stays.
use Rattle.std.proofs.Common.{◌≡◌, ℕ, zero, suc, ◌≤◌, Bool, true, false, Option, Some, None, List, [], ◌∷◌, ◌++◌, length, map, take, refl, sym, ap, subst, ◌∙◌, arith, inl, inr}
use Rattle.std.specs.Prelude.{Result, All, Contains, find, slice_get, ◌==◌}
use Rattle.std.specs.List.{flat_map}
use Rattle.std.proofs.lemmas.Bool.{and_parts, and_from, eqb-true}
use Rattle.std.proofs.lemmas.List.Elements.{All-nil, All-cons, All-contains, Contains-append_cases}
use Rattle.vnode_model.specs.declared.volumes.VolumeFields.{VolumeFields}
use Rattle.tape_frames.specs.declared.frame.Frame.{Frame}
use Rattle.budb_changes.specs.declared.records.TapePart.{TapePart}
use Rattle.budb_changes.specs.declared.records.VolRecordFields.{VolRecordFields}
use Rattle.budb_changes.specs.declared.records.DumpRecordFields.{DumpRecordFields}
use Rattle.bk_text.specs.Blanks.{is_same_text}
use Rattle.tape_text.specs.Items.{Item}
use Rattle.tape_text.specs.Texts.{Fragment}
use Rattle.tape_text.specs.Wholes.{Lying, tape_part}
use Rattle.tape_scan.specs.Slots.{Slot, Located, IsClosedAt, IsFound, AreHeadsOnce}
use Rattle.archive_model.specs.Holding.{place_of, is_label_frame, is_head_frame, is_so, holds_at, holds, called_by, called_for, called_at, called_of, placed_from, LiesOn}
use Rattle.archive_model.specs.Plays.{StandsOn, records_of, PlaysOver}
use Rattle.archive_model.specs.Archives.{Need, needs, needs_of, is_unheld, all_here, Refusal, AreDumps, AreContents, AreHeldOnce, IsHeld, AreHolders, IsKept}
use Rattle.tape_scan.specs.Scans.{IsClosedIn}
use Rattle.archive_model.proofs.Alike.{AreAlike}
use Rattle.tape_scan.proofs.ListLaws.{take_of_append, contains_map}
use Rattle.archive_model.proofs.HoldLaws.{lies_by_front, lies_stands_too}
use Rattle.archive_model.proofs.KeepLaws.{held_before}
use Rattle.tape_scan.proofs.ClosedLaws.{closed_by_front}
use Rattle.archive_model.proofs.FoundLaws.{own_place, whole_linked, tapes_of_found, contains_found}
use Rattle.archive_model.proofs.SlotLaws.{in_map, in_flat, passes_none, find_is, stands_here, need_held, held_need}
use Rattle.archive_model.proofs.RecordLaws.{AreIdsOnce, chain_of_more, records_of_more, chain_records_there, plays_too}

-- ---- tapes that begin alike

so_longer : (test : Frame → Bool) (n : ℕ) (xs ys : List Item) → is_so test (slice_get xs n) ≡ true → is_so test (slice_get (xs ++ ys) n) ≡ true
so_longer test n [] ys so = absurd (cc)
so_longer test zero (x ∷ xs) ys so = so
so_longer test (suc n) (x ∷ xs) ys so = so_longer test n xs ys so

-- what a tape holds a longer one holds
pub held_longer : (o : Option TapePart) (d : DumpRecordFields) (tape : ℕ) (xs ys : List Item) → holds_at o d tape xs ≡ true → holds_at o d tape (xs ++ ys) ≡ true
held_longer None d tape xs ys held = held
held_longer (Some p) d tape xs ys held =
    let both = and_parts (is_so (is_label_frame d.initial tape) (slice_get xs 0)) (is_so (is_head_frame d.id tape) (slice_get xs p.first)) held in
    and_from (is_so (is_label_frame d.initial tape) (slice_get (xs ++ ys) 0)) (is_so (is_head_frame d.id tape) (slice_get (xs ++ ys) p.first)) (so_longer (is_label_frame d.initial tape) 0 xs ys both.0) (so_longer (is_head_frame d.id tape) p.first xs ys both.1)

-- where a tape holds something a record has a place for it
pub held_place : (o : Option TapePart) (d : DumpRecordFields) (tape : ℕ) (items : List Item) → holds_at o d tape items ≡ true → (p : TapePart) × (o ≡ Some p)
held_place None d tape items held = absurd (cc)
held_place (Some p) d tape items held = (p, refl)

front_same : (n : ℕ) (xs ys zs : List Item) → n ≤ length xs → take n (xs ++ ys) ≡ take n (xs ++ zs)
front_same n xs ys zs le = take_of_append n xs ys le ∙ sym (take_of_append n xs zs le)

-- ---- what is called for

called_is : (o : Option (ℕ × VolRecordFields)) (d : DumpRecordFields) (c : Lying) → ((v : ℕ × VolRecordFields) → o ≡ Some v → Contains (placed_from 0 d.volumes) v) → Contains (called_at d.id o) c → Contains (called_by d) c
called_is None d c from there = absurd (omega (arith, there.1))
called_is (Some v) d c from there = in_flat (called_of d.id) (placed_from 0 d.volumes) v c (from v refl) there

-- what is called for of a name is among all that is
pub called_among : (d : DumpRecordFields) (name : List ℕ) (c : Lying) → Contains (called_for d name) c → Contains (called_by d) c
called_among d name c there = called_is (find (λ v. is_same_text v.1.name name) (placed_from 0 d.volumes)) d c (λ v is. (find_is (λ x. is_same_text x.1.name name) (placed_from 0 d.volumes) v is).0) there

-- ---- the law

module _ (listed listed2 records records2 : List DumpRecordFields) (slots slots2 : List Slot) (contents : ℕ → List ℕ → Result VolumeFields Refusal)
    (kept : IsKept listed slots contents records)
    (stay : (d : DumpRecordFields) → Contains records2 d → Contains records d)
    (listed_stay : (d : DumpRecordFields) → Contains listed2 d → Contains listed d)
    (listed_there : (d : DumpRecordFields) → Contains listed2 d → Contains records2 d)
    (alike : AreAlike records2 slots slots2) where
  pub ids : AreIdsOnce records2
  ids d e a b same = kept.ids_once d e (stay d a) (stay e b) same

  pub before : (d : DumpRecordFields) (tape k : ℕ) (s : Slot) → Contains records2 d → (at : slice_get slots2 k ≡ Some s) → holds d tape s.items ≡ true → holds d tape (alike k s at).here.items ≡ true
  before d tape k s there at held =
      let a = alike k s at in
      let short : holds_at (place_of d tape) d tape a.common ≡ true = held_before (place_of d tape) d tape a.common a.more (a.heads d there) (ap (λ (l : List Item). holds_at (place_of d tape) d tape l) (sym a.new_is) ∙ held) in
      ap (λ (l : List Item). holds_at (place_of d tape) d tape l) a.old_is ∙ held_longer (place_of d tape) d tape a.common a.gone short

  pub once : AreHeldOnce records2 slots2
  once d tape j k s t there at_j at_k held_j held_k = kept.held_once d tape j k (alike j s at_j).here (alike k t at_k).here (stay d there) (alike j s at_j).at (alike k t at_k).at (before d tape j s there at_j held_j) (before d tape k t there at_k held_k)

  fronts : (k : ℕ) (s : Slot) (at : slice_get slots2 k ≡ Some s) (n : ℕ) → n ≤ length (alike k s at).common → take n s.items ≡ take n (alike k s at).here.items
  fronts k s at n le =
      let a = alike k s at in
      ap (λ (l : List Item). take n l) a.new_is ∙ front_same n a.common a.more a.gone le ∙ ap (λ (l : List Item). take n l) (sym a.old_is)

  lies_before : (d : DumpRecordFields) (tape k : ℕ) (s : Slot) (p : TapePart) → Contains records2 d → (at : slice_get slots2 k ≡ Some s) → place_of d tape ≡ Some p → holds d tape s.items ≡ true → LiesOn d p (alike k s at).here.items
  lies_before d tape k s p there at place held = kept.lie d k (alike k s at).here (stay d there) (alike k s at).at tape p place (before d tape k s there at held)

  pub lies_now : (d : DumpRecordFields) (tape k : ℕ) (s : Slot) (p : TapePart) (there : Contains records2 d) (at : slice_get slots2 k ≡ Some s) (place : place_of d tape ≡ Some p) (held : holds d tape s.items ≡ true) → LiesOn d p s.items
  lies_now d tape k s p there at place held =
      lies_by_front d p (alike k s at).here.items s.items (fronts k s at p.end ((alike k s at).ends d tape p there place held)) (lies_before d tape k s p there at place held)

  -- ---- whole dumps

  held_back : (d : DumpRecordFields) → Contains records2 d → IsHeld d slots2 → IsHeld d slots
  held_back d there held p tape = (let h = held p tape in (h.0, (alike h.0 h.1 h.2).here, (alike h.0 h.1 h.2).at, before d p.tape h.0 h.1 there h.2 h.3))

  record Stays (d : DumpRecordFields) (l : Located) : Type 0 where
    closed : IsClosedAt slots2 l
    slot : Slot
    at : slice_get slots2 l.slot ≡ Some slot
    held : holds d l.found.part.head.tape slot.items ≡ true

  part_stays : (d : DumpRecordFields) (parts : List Located) (l : Located) → Contains records2 d → IsHeld d slots2 → IsFound slots parts d → AreHolders d parts slots → Contains parts l → Stays d l
  part_stays d parts l there held found holders member =
      let closed : IsClosedAt slots l = All-contains (IsClosedAt slots) parts l found.closed member in
      let holder = All-contains (λ (x : Located). (s : Slot) × (slice_get slots x.slot ≡ Some s) × (holds d x.found.part.head.tape s.items ≡ true)) parts l holders member in
      let tape : Contains d.tapes (tape_part l.found) = subst (λ (ts : List TapePart). Contains ts (tape_part l.found)) (sym (tapes_of_found slots parts d found)) (in_map tape_part (map (λ x. x.found) parts) l.found (contains_found parts l member)) in
      let place : place_of d l.found.part.head.tape ≡ Some (tape_part l.found) =
      ap (λ (ts : List TapePart). find (λ x. x.tape == l.found.part.head.tape) ts) (tapes_of_found slots parts d found) ∙ own_place (map (λ x. x.found) parts) l.found (whole_linked slots parts d found) (contains_found parts l member) in
      let h = held (tape_part l.found) tape in
      let a = alike h.0 h.1 h.2 in
      let same : h.0 ≡ l.slot = kept.held_once d l.found.part.head.tape h.0 l.slot a.here holder.0 (stay d there) a.at holder.1 (before d l.found.part.head.tape h.0 h.1 there h.2 h.3) holder.2 in
      let at : slice_get slots2 l.slot ≡ Some h.1 = subst (λ (n : ℕ). slice_get slots2 n ≡ Some h.1) same h.2 in
      let at_old : slice_get slots l.slot ≡ Some a.here = subst (λ (n : ℕ). slice_get slots n ≡ Some a.here) same a.at in
      let slot : closed.here ≡ a.here = (let e : Some closed.here ≡ Some a.here = sym closed.at ∙ at_old in cc) in
      let stands : IsClosedIn a.here.items l.found = subst (λ (s : Slot). IsClosedIn s.items l.found) slot closed.closed in
      let now : IsClosedIn h.1.items l.found = closed_by_front a.here.items h.1.items l.found (fronts h.0 h.1 h.2 l.found.end (a.ends d l.found.part.head.tape (tape_part l.found) there place h.3)) stands in
      record { closed = record { here = h.1; at = at; closed = now }; slot = h.1; at = at; held = h.3 }

  all_stay : (d : DumpRecordFields) (parts : List Located) → ((l : Located) → Contains parts l → Stays d l) → All (IsClosedAt slots2) parts × AreHolders d parts slots2
  all_stay d [] each = (All-nil (IsClosedAt slots2), All-nil (λ (l : Located). (s : Slot) × (slice_get slots2 l.slot ≡ Some s) × (holds d l.found.part.head.tape s.items ≡ true)))
  all_stay d (l ∷ parts) each =
      let here = each l (0, omega arith, refl) in
      let rest = all_stay d parts (λ m there. each m (suc there.0, omega (arith, there.1), there.2)) in (
        All-cons (IsClosedAt slots2) l parts here.closed rest.0,
        All-cons (λ (m : Located). (s : Slot) × (slice_get slots2 m.slot ≡ Some s) × (holds d m.found.part.head.tape s.items ≡ true)) l parts (here.slot, here.at, here.held) rest.1,
      )

  pub whole_stays : (d : DumpRecordFields) → Contains listed2 d → IsHeld d slots2 → (parts : List Located) × IsFound slots2 parts d × AreHolders d parts slots2
  whole_stays d there held =
      let record_there = listed_there d there in
      let old = kept.whole d (listed_stay d there) (held_back d record_there held) in
      let all = all_stay d old.0 (λ l member. part_stays d old.0 l record_there held old.1 old.2 member) in
      (old.0, record { closed = all.0; whole = old.1.whole; record_is = old.1.record_is }, all.1)

  -- ---- contents

  need_before : (n : Need) → Contains records2 n.dump → (k : ℕ) × (s : Slot) × (slice_get slots2 k ≡ Some s) × (holds n.dump n.tape s.items ≡ true) → is_unheld slots n ≡ false
  need_before n there (k, s, at, held) = held_need slots n k (alike k s at).here (alike k s at).at (before n.dump n.tape k s there at held)

  need_of : (name : List ℕ) (ds : List DumpRecordFields) (n : Need) → Contains (flat_map (needs_of name) ds) n → Contains ds n.dump
  need_of name [] n there = absurd (omega (arith, there.1))
  need_of name (d ∷ ds) n there = elim (Contains-append_cases (needs_of name d) (flat_map (needs_of name) ds) n there) [
    | inl here ↦
        (let c = contains_map (λ (x : Lying). record { dump = d; tape = x.tape }) (called_for d name) n here in
        (0, omega arith, ap (λ (m : Need). m.dump) c.2))
    | inr later ↦ (let rest = need_of name ds n later in (suc rest.0, omega (arith, rest.1), rest.2))
  ]

  both_stand : (d : DumpRecordFields) (name : List ℕ) (c : Lying) → Contains records2 d → Contains (called_for d name) c → (k : ℕ) × (s : Slot) × (slice_get slots2 k ≡ Some s) × (holds d c.tape s.items ≡ true) → (f : Fragment) × StandsOn (all_here slots) d c f × StandsOn (all_here slots2) d c f
  both_stand d name c there called (k, s, at, held) =
      let a = alike k s at in
      let p = held_place (place_of d c.tape) d c.tape s.items held in
      let number : c.tape ≡ p.0.tape = sym (eqb-true p.0.tape c.tape (find_is (λ (x : TapePart). x.tape == c.tape) d.tapes p.0 p.1).1) in
      let same : take p.0.end s.items ≡ take p.0.end a.here.items = fronts k s at p.0.end (a.ends d c.tape p.0 there p.1 held) in
      let old = lies_stands_too d p.0 a.here.items s.items c same (lies_before d c.tape k s p.0 there at p.1 held) (called_among d name c called) number in (
        old.0,
        stands_here slots d c old.0 k a.here a.at (before d c.tape k s there at held) (λ j t at_j held_j. kept.held_once d c.tape j k t a.here (stay d there) at_j a.at held_j (before d c.tape k s there at held)) old.1,
        stands_here slots2 d c old.0 k s at held (λ j t at_j held_j. once d c.tape j k t s there at_j at held_j held) old.2,
      )

  pub contents_stay : AreContents slots2 contents records2
  contents_stay d name chain there is held =
      let over = chain_of_more records2 records kept.ids_once stay d.id name chain is in
      let same : records_of records chain ≡ records_of records2 chain = records_of_more records2 records kept.ids_once stay chain over.1 in
      let none : find (is_unheld slots) (needs records2 chain name) ≡ None =
      passes_none (is_unheld slots) (needs records2 chain name) (λ n needed.
      need_before n (chain_records_there records2 chain n.dump (need_of name (records_of records2 chain) n needed)) (need_held slots2 (needs records2 chain name) n held needed)) in
      let old = kept.contents_are d name chain (stay d there) over.0 (ap (λ (ds : List DumpRecordFields). find (is_unheld slots) (flat_map (needs_of name) ds)) same ∙ none) in
      let plays : PlaysOver (all_here slots) name None (records_of records2 chain) old.0 = subst (λ (ds : List DumpRecordFields). PlaysOver (all_here slots) name None ds old.0) same old.1 in (
        old.0,
        plays_too (all_here slots) (all_here slots2) name (records_of records2 chain) None old.0 (λ e in_chain c called.
            both_stand e name c (chain_records_there records2 chain e in_chain) called
            (need_held slots2 (needs records2 chain name) (record { dump = e; tape = c.tape }) held (in_flat (needs_of name) (records_of records2 chain) e (record { dump = e; tape = c.tape }) in_chain (in_map (λ (x : Lying). record { dump = e; tape = x.tape }) (called_for e name) c called)))) plays,
        old.2,
      )

  -- what stays of the dumps is kept
  pub quiet_keeps : AreDumps listed2 slots2 records2 → AreHeadsOnce slots2 → ((parts : List Located) (d : DumpRecordFields) → IsFound slots2 parts d → IsFound slots parts d) → IsKept listed2 slots2 contents records2
  quiet_keeps dumps heads found_before = record {
    dumps = dumps;
    ids_once = ids;
    held_once = once;
    heads_once = heads;
    lie = λ d k s there at tape p place held. lies_now d tape k s p there at place held;
    whole = whole_stays;
    agree = λ d e parts there found same. kept.agree d e parts (listed_stay d there) (found_before parts e found) same;
    contents_are = contents_stay;
  }
