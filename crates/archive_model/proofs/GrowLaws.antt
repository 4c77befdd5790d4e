-- Frames that are put one behind another within a part, and ids that no head on a tape has.
use Rattle.std.proofs.Common.{◌≡◌, ℕ, ◌<◌, ◌≤◌, Some, List, [], ◌∷◌, ◌++◌, map, subst, arith, inl, inr}
use Rattle.std.specs.Prelude.{All, Contains, slice_get}
use Rattle.std.proofs.lemmas.List.Elements.{All-head, All-tail, All-contains}
use Rattle.tape_frames.specs.declared.frame.Frame.TheVariants as frames
use Rattle.tape_frames.specs.declared.dump_head.DumpHeadFields.{DumpHeadFields}
use Rattle.budb_changes.specs.declared.records.DumpRecordFields.{DumpRecordFields}
use Rattle.budb_fold.specs.Database.{after}
use Rattle.budb_fold.proofs.FoldKeeps.{kept_after}
use Rattle.plant_core.specs.Crashes.{State}
use Rattle.plant_core.specs.Effects.{puts, comes}
use Rattle.plant_core.specs.Stock.{Stock}
use Rattle.tape_text.specs.Items.{Item, Says, Filemark, Nothing, record_for, IsFitItem}
use Rattle.tape_scan.specs.Slots.{Slot, Located, IsClosedAt, IsFound}
use Rattle.archive_model.specs.Holding.{HasNoHead}
use Rattle.archive_model.specs.Archives.{Archive, Holds}
use Rattle.archive_model.specs.Settled.{HoldsSettled, AreHeld, growing}
use Rattle.archive_model.specs.Turns.{with_slot, IsFreshHead, EndsNoPart, IsWithinPart, HasOwnHeads}
use Rattle.tape_scan.proofs.ClosedLaws.{closed_is_begun}
use Rattle.tape_scan.proofs.HeadLaws.{begun_head}
use Rattle.archive_model.proofs.DumpLaws.{mid_put_holds}
use Rattle.archive_model.proofs.JobLaws.{slot_with, slots_twice}

-- ---- frames within a part

within_no_head : (id : ℕ) (i : Item) → IsWithinPart i → HasNoHead id (i ∷ [])
within_no_head id (Says (frames.Label a)) is = absurd is
within_no_head id (Says (frames.DumpHead a)) is = absurd is
within_no_head id (Says (frames.VolHead a)) is = tt
within_no_head id (Says (frames.Data a)) is = tt
within_no_head id (Says (frames.VolEnd a)) is = tt
within_no_head id (Says (frames.DumpEnd a)) is = absurd is
within_no_head id Filemark is = absurd is
within_no_head id Nothing is = absurd is

within_fresh : (slots : List Slot) (i : Item) → IsWithinPart i → IsFreshHead slots i
within_fresh slots i is h same = absurd (subst IsWithinPart same is)

within_no_end : (items : List Item) (i : Item) → IsWithinPart i → EndsNoPart items i
within_no_end items i is same = absurd (subst IsWithinPart same is)

-- they are put one behind another, and keep all
pub frames_hold : (s : State) (a : Archive) (records : List DumpRecordFields) (k : ℕ) (t : Slot) → slice_get a.slots k ≡ Some t → (items is : List Item) → All IsWithinPart is → All IsFitItem is → HoldsSettled s (with_slot a k items) records
    → AreHeld s (map (λ i. puts k (record_for i)) is) (growing a records k items is)
frames_hold s a records k t at items [] within fit held = held
frames_hold s a records k t at items (i ∷ is) within fit held =
    let one : IsWithinPart i = All-head IsWithinPart i is within in
    let put = mid_put_holds s (with_slot a k items) records held k (record t { items = items }) (slot_with k items a.slots t at) i (All-head IsFitItem i is fit) (λ d there. within_no_head d.id i one) (within_fresh (with_slot a k items).slots i one) (within_no_end items i one) in
    let next : HoldsSettled (comes (puts k (record_for i)) s) (with_slot a k (items ++ i ∷ [])) records = subst (λ (b : Archive). HoldsSettled (comes (puts k (record_for i)) s) b records) (slots_twice a k (items ++ i ∷ []) items) put in
    (held, frames_hold (comes (puts k (record_for i)) s) a records k t at (items ++ i ∷ []) is (All-tail IsWithinPart i is within) (All-tail IsFitItem i is fit) next)

-- ---- ids that no head has

first_head : (slots : List Slot) (parts : List Located) (d : DumpRecordFields) → IsFound slots parts d → (k : ℕ) × (n : ℕ) × (s : Slot) × (h : DumpHeadFields) × (slice_get slots k ≡ Some s) × (slice_get s.items n ≡ Some (Says (frames.DumpHead h))) × (h.id ≡ d.id)
first_head slots [] d found = absurd found.whole.begins
first_head slots (l ∷ ls) d found =
    let c = All-head (IsClosedAt slots) l ls found.closed in
    let b = closed_is_begun c.here.items l.found c.closed in
    (l.slot, l.found.first, c.here, l.found.part.head, c.at, begun_head c.here.items l.found b, (let e = found.record_is in cc))

-- Where all heads on tapes have ids below one, and so have all listed dumps, it is above the ids of all dumps, and no head has it.
pub ids_below : (stock : Stock) (a : Archive) (records : List DumpRecordFields) (id : ℕ) → Holds stock a records → ((k : ℕ) (s : Slot) (n : ℕ) (h : DumpHeadFields) → slice_get a.slots k ≡ Some s → slice_get s.items n ≡ Some (Says (frames.DumpHead h)) → h.id < id)
    → (after a.log).greatest < id → (e : DumpRecordFields) → Contains records e → e.id < id
ids_below stock a records id held heads greatest e there = elim (held.kept.dumps.sound e there) [
  | inl is_listed ↦
      (let below : e.id ≤ (after a.log).greatest = All-contains (λ (x : DumpRecordFields). x.id ≤ (after a.log).greatest) (after a.log).listed e (kept_after a.log).most is_listed in
      omega (arith, below, greatest))
  | inr un ↦
      (let h = first_head a.slots un.parts e un.found in
      let below : h.3.id < id = heads h.0 h.2 h.1 h.3 h.4 h.5 in
      omega (arith, below, h.6))
]

pub none_of_id : (slots : List Slot) (id : ℕ) → ((k : ℕ) (s : Slot) (n : ℕ) (h : DumpHeadFields) → slice_get slots k ≡ Some s → slice_get s.items n ≡ Some (Says (frames.DumpHead h)) → h.id < id) → HasOwnHeads slots [] id
none_of_id slots id heads k s n h at is same = absurd (let below : h.id < id = heads k s n h at is in omega (arith, below, same))
