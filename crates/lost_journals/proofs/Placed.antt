-- Tapes of an archive in whichever slots, each in one at most, and blank tapes in the others: what is left of its dumps is kept there.
use Rattle.std.proofs.Common.{◌≡◌, ◌⊎◌, ℕ, zero, suc, ◌<◌, Bool, true, false, Some, None, List, [], ◌∷◌, map, refl, sym, ap, subst, ◌∙◌, arith, inl, inr}
use Rattle.std.specs.Prelude.{Result, All, Contains, slice_get, find, filter, ◌==◌, ◌||◌}
use Rattle.std.specs.List.{flat_map, list_any, list_all}
use Rattle.std.proofs.lemmas.Bool.{cases_Bool, and_parts, and_from, eqb-true, eq-eqb}
use Rattle.std.proofs.lemmas.List.Elements.{All-nil, All-cons, All-head, All-tail, All-contains}
use Rattle.vnode_model.specs.declared.volumes.VolumeFields.{VolumeFields}
use Rattle.budb_changes.specs.declared.records.TapePart.{TapePart}
use Rattle.budb_changes.specs.declared.records.DumpRecordFields.{DumpRecordFields}
use Rattle.budb_fold.specs.Database.{is_dump, has_dump}
use Rattle.tape_text.specs.Items.{Item}
use Rattle.tape_text.specs.Texts.{Part, Fragment}
use Rattle.tape_text.specs.Parts.{FoundPart}
use Rattle.tape_text.specs.Wholes.{Lying, IsWhole, tape_part, record_by}
use Rattle.tape_scan.specs.Scans.{IsClosedIn, IsBegunIn}
use Rattle.tape_scan.specs.Slots.{Slot, Located, IsClosedAt, IsBegunAt, IsFound, AreHeadsOnce}
use Rattle.tape_scan.proofs.ListLaws.{contains_filter, contains_map, of_filter}
use Rattle.archive_model.specs.Clones.{part_in}
use Rattle.archive_model.specs.Holding.{place_of, called_for, holds, LiesOn}
use Rattle.archive_model.specs.Plays.{StandsAt, StandsOn, records_of, PlaysOver}
use Rattle.archive_model.specs.Archives.{Need, needs, needs_of, is_unheld, all_here, Refusal, IsDump, AreContents, IsHeld, AreHolders, IsKept}
use Rattle.archive_model.proofs.CutLaws.{any_is, any_from}
use Rattle.archive_model.proofs.FairLaws.{of_flat}
use Rattle.archive_model.proofs.FoundLaws.{map_twice, contains_found, tapes_of_found, found_held}
use Rattle.archive_model.proofs.HoldLaws.{lies_stands}
use Rattle.archive_model.proofs.QuietLaws.{held_place, called_among}
use Rattle.archive_model.proofs.RecordLaws.{chain_of_more, records_of_more, chain_records_there, plays_too}
use Rattle.archive_model.proofs.SlotLaws.{in_map, in_flat, passes_none, find_is, stands_here, need_held, held_need}
use Rattle.lost_journals.proofs.Found.{nothing_held, blank_closed, blank_begun, found_dump}

-- ---- tests of lists

all_is : {X : Type 0} (test : X → Bool) (xs : List X) (x : X) → list_all test xs ≡ true → Contains xs x → test x ≡ true
all_is test [] x all there = absurd (omega (arith, there.1))
all_is test (y ∷ xs) x all (zero, within, is) = ap test (sym is) ∙ (and_parts (test y) (list_all test xs) all).0
all_is test (y ∷ xs) x all (suc k, within, is) = all_is test xs x (and_parts (test y) (list_all test xs) all).1 (k, omega (arith, within), is)

all_from : {X : Type 0} (test : X → Bool) (xs : List X) → ((x : X) → Contains xs x → test x ≡ true) → list_all test xs ≡ true
all_from test [] each = refl
all_from test (y ∷ xs) each = and_from (test y) (list_all test xs) (each y (0, omega arith, refl)) (all_from test xs (λ x there. each x (suc there.0, omega (arith, there.1), there.2)))

slot_at : (slots : List Slot) (s : Slot) → Contains slots s → (k : ℕ) × (slice_get slots k ≡ Some s)
slot_at [] s there = absurd (omega (arith, there.1))
slot_at (t ∷ slots) s (zero, within, is) = (0, ap (λ (x : Slot). Some x) is)
slot_at (t ∷ slots) s (suc k, within, is) = (let rest = slot_at slots s (k, omega (arith, within), is) in (suc rest.0, rest.1))

slot_there : (slots : List Slot) (k : ℕ) (s : Slot) → slice_get slots k ≡ Some s → Contains slots s
slot_there [] k s at = absurd (cc)
slot_there (t ∷ slots) zero s at = (0, omega arith, cc)
slot_there (t ∷ slots) (suc k) s at = (let rest = slot_there slots k s at in (suc rest.0, omega (arith, rest.1), rest.2))

other_of : (a b : Bool) → (a || b) ≡ true → a ≡ false → b ≡ true
other_of true b is off = absurd (cc)
other_of false b is off = is

from_first : (a b : Bool) → a ≡ true → (a || b) ≡ true
from_first true b is = refl
from_first false b is = absurd (cc)

from_other : (a b : Bool) → b ≡ true → (a || b) ≡ true
from_other true b is = refl
from_other false b is = is

-- the dump of a need is among those of a chain
pub need_of : (name : List ℕ) (ds : List DumpRecordFields) (n : Need) → Contains (flat_map (needs_of name) ds) n → Contains ds n.dump
need_of name ds n there =
    let d = of_flat (needs_of name) ds n there in
    let c = contains_map (λ (x : Lying). record { dump = d.0; tape = x.tape }) (called_for d.0 name) n d.2 in
    subst (Contains ds) (ap (λ (m : Need). m.dump) c.2) d.1

-- each tape of a record is held
is_held : List Slot → DumpRecordFields → Bool
is_held slots d = list_all (λ (p : TapePart). list_any (λ (s : Slot). holds d p.tape s.items) slots) d.tapes

held_by : (slots : List Slot) (d : DumpRecordFields) → is_held slots d ≡ true → IsHeld d slots
unfolding is_held
held_by slots d held p tape =
    let one = any_is (λ (s : Slot). holds d p.tape s.items) slots (all_is (λ (x : TapePart). list_any (λ (s : Slot). holds d x.tape s.items) slots) d.tapes p held tape) in
    let k = slot_at slots one.0 one.1 in
    (k.0, one.0, k.1, one.2)

held_test : (slots : List Slot) (d : DumpRecordFields) → IsHeld d slots → is_held slots d ≡ true
unfolding is_held
held_test slots d held = all_from (λ (x : TapePart). list_any (λ (s : Slot). holds d x.tape s.items) slots) d.tapes (λ p tape.
    (let h = held p tape in any_from (λ (s : Slot). holds d p.tape s.items) slots h.1 (slot_there slots h.0 h.1 h.2) h.3))

-- ---- slots with tapes of others

module _ (records : List DumpRecordFields) (slots : List Slot) (contents : ℕ → List ℕ → Result VolumeFields Refusal) (kept : IsKept records slots contents records) (slots2 : List Slot) (place : ℕ → ℕ)
    (from : (k : ℕ) (s : Slot) → slice_get slots2 k ≡ Some s → (s.items ≡ []) ⊎ ((t : Slot) × (slice_get slots (place k) ≡ Some t) × (s.items ≡ t.items)))
    (once : (j k : ℕ) (s t : Slot) → slice_get slots2 j ≡ Some s → slice_get slots2 k ≡ Some t → (s.items ≡ [] → ⊥) → (t.items ≡ [] → ⊥) → place j ≡ place k → j ≡ k) where
  record Origin (k : ℕ) (s : Slot) : Type 0 where
    slot : Slot
    at : slice_get slots (place k) ≡ Some slot
    same : s.items ≡ slot.items
    some : s.items ≡ [] → ⊥

  origin_by : (k : ℕ) (s : Slot) → (s.items ≡ []) ⊎ ((t : Slot) × (slice_get slots (place k) ≡ Some t) × (s.items ≡ t.items)) → (s.items ≡ [] → ⊥) → Origin k s
  origin_by k s (inl blank) some = absurd (some blank)
  origin_by k s (inr t) some = record { slot = t.0; at = t.1; same = t.2; some = some }

  origin : (k : ℕ) (s : Slot) → slice_get slots2 k ≡ Some s → (s.items ≡ [] → ⊥) → Origin k s
  origin k s at some = origin_by k s (from k s at) some

  -- ---- what is held

  held_origin : (d : DumpRecordFields) (tape k : ℕ) (s : Slot) → slice_get slots2 k ≡ Some s → holds d tape s.items ≡ true → Origin k s
  held_origin d tape k s at held = origin k s at (λ blank. nothing_held (place_of d tape) d tape (subst (λ (l : List Item). holds d tape l ≡ true) blank held))

  held_there : (d : DumpRecordFields) (tape k : ℕ) (s : Slot) (o : Origin k s) → holds d tape s.items ≡ true → holds d tape o.slot.items ≡ true
  held_there d tape k s o held = subst (λ (l : List Item). holds d tape l ≡ true) o.same held

  held_once : (d : DumpRecordFields) (tape j k : ℕ) (s t : Slot) → Contains records d → slice_get slots2 j ≡ Some s → slice_get slots2 k ≡ Some t → holds d tape s.items ≡ true → holds d tape t.items ≡ true → j ≡ k
  held_once d tape j k s t there at_j at_k held_j held_k =
      let a = held_origin d tape j s at_j held_j in
      let b = held_origin d tape k t at_k held_k in
      once j k s t at_j at_k a.some b.some (kept.held_once d tape (place j) (place k) a.slot b.slot there a.at b.at (held_there d tape j s a held_j) (held_there d tape k t b held_k))

  held_all : (d : DumpRecordFields) → IsHeld d slots2 → IsHeld d slots
  held_all d held p tape =
      let h = held p tape in
      let o = held_origin d p.tape h.0 h.1 h.2 h.3 in
      (place h.0, o.slot, o.at, held_there d p.tape h.0 h.1 o h.3)

  lies_there : (d : DumpRecordFields) (tape k : ℕ) (s : Slot) (p : TapePart) → Contains records d → (o : Origin k s) → place_of d tape ≡ Some p → holds d tape s.items ≡ true → LiesOn d p o.slot.items
  lies_there d tape k s p there o is held = kept.lie d (place k) o.slot there o.at tape p is (held_there d tape k s o held)

  -- ---- what is found

  moved : Located → Located
  moved l = record { slot = place l.slot; found = l.found }

  closed_moved : (l : Located) → IsClosedAt slots2 l → IsClosedAt slots (moved l)
  unfolding moved
  closed_moved l c =
      let o = origin l.slot c.here c.at (λ blank. blank_closed l.found (subst (λ (is : List Item). IsClosedIn is l.found) blank c.closed)) in
      record { here = o.slot; at = o.at; closed = subst (λ (is : List Item). IsClosedIn is l.found) o.same c.closed }

  all_moved : (ls : List Located) → All (IsClosedAt slots2) ls → All (IsClosedAt slots) (map moved ls)
  all_moved [] closed = All-nil (IsClosedAt slots)
  all_moved (l ∷ ls) closed = All-cons (IsClosedAt slots) (moved l) (map moved ls) (closed_moved l (All-head (IsClosedAt slots2) l ls closed)) (all_moved ls (All-tail (IsClosedAt slots2) l ls closed))

  same_founds : (ls : List Located) → map (λ (l : Located). l.found) (map moved ls) ≡ map (λ (l : Located). l.found) ls
  unfolding moved
  same_founds [] = refl
  same_founds (l ∷ ls) = ap (λ (t : List FoundPart). l.found ∷ t) (same_founds ls)

  same_parts : (ls : List Located) → map (λ (l : Located). l.found.part) (map moved ls) ≡ map (λ (l : Located). l.found.part) ls
  unfolding moved
  same_parts [] = refl
  same_parts (l ∷ ls) = ap (λ (t : List Part). l.found.part ∷ t) (same_parts ls)

  found_moved : (ls : List Located) (d : DumpRecordFields) → IsFound slots2 ls d → IsFound slots (map moved ls) d
  found_moved ls d found = record { closed = all_moved ls found.closed; whole = subst IsWhole (sym (same_parts ls)) found.whole; record_is = ap record_by (same_founds ls) ∙ found.record_is }

  pub found_there : (ls : List Located) (d : DumpRecordFields) → IsFound slots2 ls d → (ms : List Located) × IsFound slots ms d
  found_there ls d found = (map moved ls, found_moved ls d found)

  begun_origin : (l : Located) (b : IsBegunAt slots2 l) → Origin l.slot b.here
  begun_origin l b = origin l.slot b.here b.at (λ blank. blank_begun l.found (subst (λ (is : List Item). IsBegunIn is l.found) blank b.begun))

  begun_moved : (l : Located) (b : IsBegunAt slots2 l) → IsBegunAt slots (moved l)
  unfolding moved
  begun_moved l b = (let o = begun_origin l b in record { here = o.slot; at = o.at; begun = subst (λ (is : List Item). IsBegunIn is l.found) o.same b.begun })

  heads_once : AreHeadsOnce slots2
  unfolding moved
  heads_once l m a b id part =
      let both = kept.heads_once (moved l) (moved m) (begun_moved l a) (begun_moved m b) id part in
      (once l.slot m.slot a.here b.here a.at b.at (begun_origin l a).some (begun_origin m b).some both.0, both.1)

  -- ---- whole dumps

  record Stays (d : DumpRecordFields) (l : Located) : Type 0 where
    slot : ℕ
    here : Slot
    at : slice_get slots2 slot ≡ Some here
    closed : IsClosedIn here.items l.found
    held : holds d l.found.part.head.tape here.items ≡ true

  part_stays : (d : DumpRecordFields) (parts : List Located) (l : Located) → Contains records d → IsHeld d slots2 → IsFound slots parts d → AreHolders d parts slots → Contains parts l → Stays d l
  part_stays d parts l there held found holders member =
      let closed : IsClosedAt slots l = All-contains (IsClosedAt slots) parts l found.closed member in
      let holder = All-contains (λ (x : Located). (s : Slot) × (slice_get slots x.slot ≡ Some s) × (holds d x.found.part.head.tape s.items ≡ true)) parts l holders member in
      let tape : Contains d.tapes (tape_part l.found) = subst (λ (ts : List TapePart). Contains ts (tape_part l.found)) (sym (tapes_of_found slots parts d found)) (in_map tape_part (map (λ x. x.found) parts) l.found (contains_found parts l member)) in
      let h = held (tape_part l.found) tape in
      let o = held_origin d l.found.part.head.tape h.0 h.1 h.2 h.3 in
      let same : place h.0 ≡ l.slot = kept.held_once d l.found.part.head.tape (place h.0) l.slot o.slot holder.0 there o.at holder.1 (held_there d l.found.part.head.tape h.0 h.1 o h.3) holder.2 in
      let slot : closed.here ≡ o.slot = (let e : Some closed.here ≡ Some o.slot = sym closed.at ∙ ap (λ (n : ℕ). slice_get slots n) (sym same) ∙ o.at in cc) in
      let now : IsClosedIn h.1.items l.found = subst (λ (is : List Item). IsClosedIn is l.found) (ap (λ (x : Slot). x.items) slot ∙ sym o.same) closed.closed in
      record { slot = h.0; here = h.1; at = h.2; closed = now; held = h.3 }

  record AllStay (d : DumpRecordFields) (ls ms : List Located) : Type 0 where
    founds : map (λ (l : Located). l.found) ms ≡ map (λ (l : Located). l.found) ls
    closed : All (IsClosedAt slots2) ms
    holders : AreHolders d ms slots2

  all_stay : (d : DumpRecordFields) (ls : List Located) → ((l : Located) → Contains ls l → Stays d l) → (ms : List Located) × AllStay d ls ms
  all_stay d [] each = ([], record { founds = refl; closed = All-nil (IsClosedAt slots2); holders = All-nil (λ (l : Located). (s : Slot) × (slice_get slots2 l.slot ≡ Some s) × (holds d l.found.part.head.tape s.items ≡ true)) })
  all_stay d (l ∷ ls) each =
      let s = each l (0, omega arith, refl) in
      let rest = all_stay d ls (λ m there. each m (suc there.0, omega (arith, there.1), there.2)) in
      let here : Located = record { slot = s.slot; found = l.found } in (
        here ∷ rest.0,
        record {
          founds = ap (λ (t : List FoundPart). l.found ∷ t) rest.1.founds;
          closed = All-cons (IsClosedAt slots2) here rest.0 (record { here = s.here; at = s.at; closed = s.closed }) rest.1.closed;
          holders = All-cons (λ (m : Located). (t : Slot) × (slice_get slots2 m.slot ≡ Some t) × (holds d m.found.part.head.tape t.items ≡ true)) here rest.0 (s.here, s.at, s.held) rest.1.holders;
        },
      )

  whole_stays : (d : DumpRecordFields) → Contains records d → IsHeld d slots2 → (parts : List Located) × IsFound slots2 parts d × AreHolders d parts slots2
  whole_stays d there held =
      let old = kept.whole d there (held_all d held) in
      let all = all_stay d old.0 (λ l member. part_stays d old.0 l there held old.1 old.2 member) in
      let whole : IsWhole (map (λ (l : Located). l.found.part) all.0) = subst IsWhole (map_twice old.0 ∙ ap (λ (qs : List FoundPart). map part_in qs) (sym all.1.founds) ∙ sym (map_twice all.0)) old.1.whole in
      (all.0, record { closed = all.1.closed; whole = whole; record_is = ap record_by all.1.founds ∙ old.1.record_is }, all.1.holders)

  -- ---- what is left of the dumps

  module _ (listed2 : List DumpRecordFields) (are : (d : DumpRecordFields) → Contains listed2 d → Contains records d) (parents : (d : DumpRecordFields) → Contains records d → d.parent < d.id) where
    abbrev is_left : DumpRecordFields → Bool
    is_left d = has_dump listed2 d.id || is_held slots2 d

    pub left : List DumpRecordFields
    left = filter is_left records

    was : (d : DumpRecordFields) → IsDump listed2 slots2 d → Contains records d
    was d (inl there) = are d there
    was d (inr un) = kept.dumps.complete d (found_dump records records slots contents kept (map moved un.parts) d (found_moved un.parts d un.found) un.above)

    left_was : (d : DumpRecordFields) → Contains left d → Contains records d × (is_left d ≡ true)
    unfolding left
    left_was d there = of_filter is_left records d there

    sound : (d : DumpRecordFields) → Contains left d → IsDump listed2 slots2 d
    sound d there =
        let one = left_was d there in
        elim (cases_Bool (has_dump listed2 d.id)) [
          | inl some ↦
              (let e = any_is (is_dump d.id) listed2 some in
              inl (subst (Contains listed2) (kept.ids_once e.0 d (are e.0 e.1) one.0 (eqb-true e.0.id d.id e.2)) e.1))
          | inr none ↦
              (let held : is_held slots2 d ≡ true = other_of (has_dump listed2 d.id) (is_held slots2 d) one.1 none in
              let whole = whole_stays d one.0 (held_by slots2 d held) in
              inr (record { parts = whole.0; found = whole.1; unlisted = none; above = parents d one.0 }))
        ]

    tested : (d : DumpRecordFields) → IsDump listed2 slots2 d → is_left d ≡ true
    tested d (inl there) = from_first (has_dump listed2 d.id) (is_held slots2 d) (any_from (is_dump d.id) listed2 d there (eq-eqb d.id d.id refl))
    tested d (inr un) = from_other (has_dump listed2 d.id) (is_held slots2 d) (held_test slots2 d (found_held slots2 un.parts d un.found))

    complete : (d : DumpRecordFields) → IsDump listed2 slots2 d → Contains left d
    unfolding left
    complete d is = contains_filter is_left records d (was d is) (tested d is)

    -- ---- contents

    pub stay : (d : DumpRecordFields) → Contains left d → Contains records d
    stay d there = (left_was d there).0

    need_before : (n : Need) → (k : ℕ) × (s : Slot) × (slice_get slots2 k ≡ Some s) × (holds n.dump n.tape s.items ≡ true) → is_unheld slots n ≡ false
    need_before n (k, s, at, held) = (let o = held_origin n.dump n.tape k s at held in held_need slots n (place k) o.slot o.at (held_there n.dump n.tape k s o held))

    both_stand : (d : DumpRecordFields) (name : List ℕ) (c : Lying) → Contains records d → Contains (called_for d name) c → (k : ℕ) × (s : Slot) × (slice_get slots2 k ≡ Some s) × (holds d c.tape s.items ≡ true)
        → (f : Fragment) × StandsOn (all_here slots) d c f × StandsOn (all_here slots2) d c f
    both_stand d name c there called (k, s, at, held) =
        let o = held_origin d c.tape k s at held in
        let before = held_there d c.tape k s o held in
        let p = held_place (place_of d c.tape) d c.tape s.items held in
        let number : c.tape ≡ p.0.tape = sym (eqb-true p.0.tape c.tape (find_is (λ (x : TapePart). x.tape == c.tape) d.tapes p.0 p.1).1) in
        let f = lies_stands d p.0 o.slot.items c (lies_there d c.tape k s p.0 there o p.1 held) (called_among d name c called) number in (
          f.0,
          stands_here slots d c f.0 (place k) o.slot o.at before (λ j t at_j held_j. kept.held_once d c.tape j (place k) t o.slot there at_j o.at held_j before) f.1,
          stands_here slots2 d c f.0 k s at held (λ j t at_j held_j. held_once d c.tape j k t s there at_j at held_j held) (subst (λ (is : List Item). StandsAt c is f.0) (sym o.same) f.1),
        )

    contents_stay : AreContents slots2 contents left
    contents_stay d name chain there is held =
        let over = chain_of_more left records kept.ids_once stay d.id name chain is in
        let same : records_of records chain ≡ records_of left chain = records_of_more left records kept.ids_once stay chain over.1 in
        let none : find (is_unheld slots) (needs left chain name) ≡ None = passes_none (is_unheld slots) (needs left chain name) (λ n needed. need_before n (need_held slots2 (needs left chain name) n held needed)) in
        let old = kept.contents_are d name chain (stay d there) over.0 (ap (λ (ds : List DumpRecordFields). find (is_unheld slots) (flat_map (needs_of name) ds)) same ∙ none) in
        let plays : PlaysOver (all_here slots) name None (records_of left chain) old.0 = subst (λ (ds : List DumpRecordFields). PlaysOver (all_here slots) name None ds old.0) same old.1 in (
          old.0,
          plays_too (all_here slots) (all_here slots2) name (records_of left chain) None old.0 (λ e in_chain c called.
              both_stand e name c (stay e (chain_records_there left chain e in_chain)) called
              (need_held slots2 (needs left chain name) (record { dump = e; tape = c.tape }) held (in_flat (needs_of name) (records_of left chain) e (record { dump = e; tape = c.tape }) in_chain (in_map (λ (x : Lying). record { dump = e; tape = x.tape }) (called_for e name) c called)))) plays,
          old.2,
        )

    -- the slots keep what is left of the dumps, of which some are listed
    pub placed_kept : IsKept listed2 slots2 contents left
    placed_kept = record {
      dumps = record { sound = sound; complete = complete };
      ids_once = λ d e d_there e_there same. kept.ids_once d e (stay d d_there) (stay e e_there) same;
      held_once = λ d tape j k s t there. held_once d tape j k s t (stay d there);
      heads_once = heads_once;
      lie = λ d k s there at tape p is held.
          (let o = held_origin d tape k s at held in
          subst (λ (items : List Item). LiesOn d p items) (sym o.same) (lies_there d tape k s p (stay d there) o is held));
      whole = λ d there held. whole_stays d (are d there) held;
      agree = λ d e parts there found same. kept.agree d e (map moved parts) (are d there) (found_moved parts e found) same;
      contents_are = contents_stay;
    }
