-- What a crash leaves of a plant that holds an archive settled holds it with the tapes that are left.
use Rattle.std.proofs.Common.{◌≡◌, ◌⊎◌, ℕ, zero, suc, ◌≤◌, Bool, true, Some, None, List, [], ◌∷◌, ◌++◌, length, map, take, refl, ap, subst, ◌∙◌, arith, inl, inr, length-take}
use Rattle.std.specs.Prelude.{slice_get}
use Rattle.std.proofs.lemmas.List.{take_all}
use Rattle.budb_changes.specs.declared.records.DumpRecordFields.{DumpRecordFields}
use Rattle.plant_core.specs.Crashes.{State, LeftIn, IsTorn}
use Rattle.plant_core.specs.Records.{Record}
use Rattle.plant_core.specs.Stock.{Stock}
use Rattle.tape_text.specs.Items.{Item, Nothing, Read}
use Rattle.tape_scan.specs.Slots.{Slot}
use Rattle.archive_model.specs.Holding.{holds}
use Rattle.archive_model.specs.Archives.{Archive, listed_of, Holds}
use Rattle.archive_model.specs.Settled.{HoldsSettled}
use Rattle.archive_model.specs.Turns.{is_here, remaining}
use Rattle.archive_model.proofs.Alike.{AreLeft}
use Rattle.archive_model.proofs.HoldLaws.{lies_within}
use Rattle.archive_model.proofs.TornLaws.{torn_reads}
use Rattle.archive_model.proofs.ListedLaws.{parents_below}
use Rattle.archive_model.proofs.CutLaws.{held_left, remaining_kept}

-- a slot in an image: a front of its items as long as what is settled of them at least, perhaps with one behind that says nothing
pub record IsTornAt (slots : List Slot) (settled : ℕ → ℕ) (image : ℕ → List Record) (k : ℕ) (new : Slot) : Type 0 where
  pub here : Slot
  pub at : slice_get slots k ≡ Some here
  pub count : ℕ
  pub rest : List Item
  pub torn : (rest ≡ []) ⊎ (rest ≡ Nothing ∷ [])
  pub low : settled k ≤ count
  pub is : new.items ≡ take count here.items ++ rest
  pub read : Read (image k) new.items

torn_number : (t : Slot) (slots : List Slot) (settled : ℕ → ℕ) (image : ℕ → List Record) (new : Slot) (others : List Slot) → IsTornAt (t ∷ slots) settled image 0 new → ((k : ℕ) (s : Slot) → slice_get others k ≡ Some s → IsTornAt slots (λ j. settled (suc j)) (λ j. image (suc j)) k s)
    → (k : ℕ) (s : Slot) → slice_get (new ∷ others) k ≡ Some s → IsTornAt (t ∷ slots) settled image k s
torn_number t slots settled image new others first rest zero s at = (let same : new ≡ s = cc in subst (λ (x : Slot). IsTornAt (t ∷ slots) settled image 0 x) same first)
torn_number t slots settled image new others first rest (suc k) s at =
    let r = rest k s at in
    record { here = r.here; at = r.at; count = r.count; rest = r.rest; torn = r.torn; low = r.low; is = r.is; read = r.read }

-- the slots of an image
pub torn_slots : (slots : List Slot) (tape image : ℕ → List Record) (settled : ℕ → ℕ) → ((k : ℕ) (s : Slot) → slice_get slots k ≡ Some s → Read (tape k) s.items) → ((k : ℕ) → IsTorn (settled k) (tape k) (image k))
    → (new : List Slot) × ((k : ℕ) (s : Slot) → slice_get new k ≡ Some s → IsTornAt slots settled image k s) × (map is_here new ≡ map is_here slots)
torn_slots [] tape image settled read torn = ([], (λ k s at. absurd (cc)), refl)
torn_slots (t ∷ slots) tape image settled read torn =
    let first = torn_reads (settled 0) (tape 0) (image 0) t.items (torn 0) (read 0 t refl) in
    let rest = torn_slots slots (λ k. tape (suc k)) (λ k. image (suc k)) (λ k. settled (suc k)) (λ k s at. read (suc k) s at) (λ k. torn (suc k)) in
    let new : Slot = record t { items = take first.0 t.items ++ first.1 } in
    (new ∷ rest.0, torn_number t slots settled image new rest.0 (record { here = t; at = refl; count = first.0; rest = first.1; torn = first.3; low = first.2; is = refl; read = first.4 }) rest.1, ap (λ (l : List Bool). t.here ∷ l) rest.2)

-- where an image has no slot there was none
none_before : (slots new : List Slot) (k : ℕ) → map is_here new ≡ map is_here slots → slice_get new k ≡ None → slice_get slots k ≡ None
none_before [] new k same none = refl
none_before (t ∷ slots) [] k same none = absurd (cc)
none_before (t ∷ slots) (u ∷ new) zero same none = absurd (cc)
none_before (t ∷ slots) (u ∷ new) (suc k) same none = (let rest : map is_here new ≡ map is_here slots = cc in none_before slots new k rest none)

-- a blank tape stays blank
torn_nothing : (settled : ℕ) (whole tape : List Record) → whole ≡ [] → IsTorn settled whole tape → tape ≡ []
torn_nothing settled whole tape blank torn = elim torn.is [
  | inl clean ↦ clean ∙ ap (λ (l : List Record). take torn.count l) blank ∙ take_nothing torn.count
  | inr ragged ↦ absurd (omega (arith, ragged.0, ap length blank))
]
  where
    take_nothing : (n : ℕ) → take n [] ≡ (let none : List Record = [] in none)
    take_nothing zero = refl
    take_nothing (suc n) = refl

module _ (s : State) (c : Stock) (a : Archive) (records : List DumpRecordFields) (held : HoldsSettled s a records) (left : LeftIn s c)
    (made : (new : List Slot) × ((k : ℕ) (t : Slot) → slice_get new k ≡ Some t → IsTornAt a.slots s.settled c.tape k t) × (map is_here new ≡ map is_here a.slots)) where
  pub left_by : AreLeft (listed_of a) a.slots made.0
  left_by k t at = (let r = made.1 k t at in record {
    here = r.here;
    at = r.at;
    count = r.count;
    rest = r.rest;
    torn = r.torn;
    is = r.is;
    ends = λ d tape p there place holds_new.
        (let holds_old : holds d tape r.here.items ≡ true = held_left r.here.items t.items (take r.count r.here.items) r.rest r.count refl r.torn r.is d tape holds_new in
        let settled : p.end ≤ s.settled k = held.settled k r.here d tape p r.at there place holds_old in
        let within : p.end ≤ length r.here.items = lies_within d p r.here.items (held.seen.kept.lie d k r.here (held.seen.kept.dumps.complete d (inl there)) r.at tape p place holds_old) in
        omega (arith, settled, within, r.low, length-take r.count r.here.items));
  })

  pub image_by : Holds c (record a { slots = made.0 }) (remaining (listed_of a) made.0 records)
  image_by = record {
    changes = held.seen.changes;
    log = left.log ∙ ap (λ (l : List ℕ). Some l) (take_all s.log_settled s.log (omega (arith, held.log))) ∙ held.seen.log;
    tapes = λ k t at. (made.1 k t at).read;
    others = λ k none. torn_nothing (s.settled k) (s.tape k) (c.tape k) (held.seen.others k (none_before a.slots made.0 k made.2 none)) (left.tapes k);
    kept = remaining_kept (listed_of a) (listed_of a) records a.slots made.0 a.contents held.seen.kept (λ d there. there) left_by (parents_below a.log);
  }
