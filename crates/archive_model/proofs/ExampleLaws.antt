-- Two steps put together from the laws: the end of a volume, and a label.
use Rattle.std.proofs.Common.{◌≡◌, ℕ, zero, suc, ◌+◌, ◌<◌, ◌≤◌, true, false, Some, List, [], ◌∷◌, ◌++◌, length, refl, sym, ap, subst, ◌∙◌, arith, inl, inr, append_assoc}
use Rattle.std.specs.Prelude.{Result, Contains, slice_get, ◌==◌}
use Rattle.std.proofs.lemmas.Bool.{eq-eqb}
use Rattle.std.proofs.lemmas.List.Elements.{All-contains}
use Rattle.tape_frames.specs.declared.frame.Frame.TheVariants as frames
use Rattle.tape_frames.specs.declared.label.LabelFields.{LabelFields}
use Rattle.tape_frames.specs.declared.vol_end.VolEndFields.{VolEndFields}
use Rattle.tape_frames.specs.declared.dump_end.DumpEndFields.{DumpEndFields}
use Rattle.vnode_model.specs.declared.volumes.VolumeFields.{VolumeFields}
use Rattle.budb_changes.specs.declared.records.VolRecordFields.{VolRecordFields}
use Rattle.budb_changes.specs.declared.change.Change.TheVariants.{Done}
use Rattle.budb_changes.specs.Bytes.{encoded}
use Rattle.budb_changes.specs.Forms.{AreChanges}
use Rattle.budb_fold.specs.Database.{has_dump, fits_record}
use Rattle.budb_fold.specs.Lookups.{volume_of}
use Rattle.budb_changes.specs.declared.records.DumpRecordFields.{DumpRecordFields}
use Rattle.plant_core.specs.Crashes.{State}
use Rattle.tape_text.specs.Items.{Item, Says, Filemark, record_for, IsFitItem}
use Rattle.tape_scan.specs.Slots.{Slot, Located, IsClosedAt, IsFound}
use Rattle.archive_model.specs.Holding.{HasNoHead}
use Rattle.tape_text.specs.Parts.{FoundPart}
use Rattle.archive_model.specs.Archives.{Archive, Refusal, listed_of, AreHeldOnce}
use Rattle.tape_scan.specs.Scans.{IsClosedIn}
use Rattle.plant_core.specs.Effects.{commits, puts, settles, comes}
use Rattle.archive_model.specs.Settled.{HoldsSettled, AreHeld}
use Rattle.archive_model.specs.Turns.{with_items, with_slot, IsFreshHead, EndsNoPart, GivesNext, HasOwnHeads}
use Rattle.archive_model.proofs.PutLaws.{with_there}
use Rattle.tape_scan.proofs.ListLaws.{push_same, same_or_not}
use Rattle.archive_model.proofs.StepLaws.{read_length, settling_holds, listing_commit}
use Rattle.archive_model.proofs.DumpLaws.{mid_put_holds, dump_end_holds}
use Rattle.archive_model.proofs.OwnLaws.{own_held_once, parts_settled}
use Rattle.tape_scan.proofs.ClosedLaws.{closed_within}
use Rattle.archive_model.proofs.ManyTapeLaws.{differs}

pub with_twice : (k : ℕ) (x y : List Item) (slots : List Slot) → with_items k x (with_items k y slots) ≡ with_items k x slots
with_twice k x y [] = refl
with_twice zero x y (s ∷ slots) = refl
with_twice (suc k) x y (s ∷ slots) = ap (λ (l : List Slot). s ∷ l) (with_twice k x y slots)

pub two_puts : (a : Archive) (k : ℕ) (xs : List Item) (i j : Item) (t : Slot) → t.items ≡ xs ++ i ∷ [] → with_slot (with_slot a k (xs ++ i ∷ [])) k (t.items ++ j ∷ []) ≡ with_slot a k (xs ++ i ∷ j ∷ [])
two_puts a k xs i j t is =
    let items : t.items ++ j ∷ [] ≡ xs ++ i ∷ j ∷ [] = ap (λ (l : List Item). l ++ j ∷ []) is ∙ append_assoc xs (i ∷ []) (j ∷ []) in
    ap (λ (l : List Item). with_slot (with_slot a k (xs ++ i ∷ [])) k l) items ∙ ap (λ (l : List Slot). record { log = a.log; slots = l; contents = a.contents }) (with_twice k (xs ++ i ∷ j ∷ []) (xs ++ i ∷ []) a.slots)

mark_behind : (xs : List Item) (i : Item) → ((e : DumpEndFields) → i ≡ Says (frames.DumpEnd e) → ⊥) → EndsNoPart (xs ++ i ∷ []) Filemark
mark_behind xs i other same before e is = other e (push_same xs before i (Says (frames.DumpEnd e)) is).1

module _ (s : State) (a : Archive) (records : List DumpRecordFields) (held : HoldsSettled s a records) (k : ℕ) (t : Slot) (at : slice_get a.slots k ≡ Some t) where
  -- a frame that is no head and no part's end, its filemark, and the settling
  pub marked_holds : (i : Item) → IsFitItem i → ((d : DumpRecordFields) → Contains records d → HasNoHead d.id (i ∷ [])) → IsFreshHead a.slots i → (i ≡ Filemark → ⊥) → ((e : DumpEndFields) → i ≡ Says (frames.DumpEnd e) → ⊥)
      → AreHeld s (puts k (record_for i) ∷ puts k (record_for Filemark) ∷ settles k ∷ [])
      (record { archive = a; records = records } ∷ record { archive = with_slot a k (t.items ++ i ∷ []); records = records } ∷ record { archive = with_slot a k (t.items ++ i ∷ Filemark ∷ []); records = records } ∷ record { archive = with_slot a k (t.items ++ i ∷ Filemark ∷ []); records = records } ∷ [])
  marked_holds i fit unnamed fresh no_mark no_end =
      let first : HoldsSettled (comes (puts k (record_for i)) s) (with_slot a k (t.items ++ i ∷ [])) records = mid_put_holds s a records held k t at i fit unnamed fresh (λ same. absurd (no_mark same)) in
      let there = with_there k (t.items ++ i ∷ []) a.slots t at in
      let second = mid_put_holds (comes (puts k (record_for i)) s) (with_slot a k (t.items ++ i ∷ [])) records first k there.0 there.1 Filemark tt (λ d in_records. tt) (λ h same. absurd (cc))
      (subst (λ (l : List Item). EndsNoPart l Filemark) (sym there.2) (mark_behind t.items i no_end)) in
      let both : HoldsSettled (comes (puts k (record_for Filemark)) (comes (puts k (record_for i)) s)) (with_slot a k (t.items ++ i ∷ Filemark ∷ [])) records =
      subst (λ (b : Archive). HoldsSettled (comes (puts k (record_for Filemark)) (comes (puts k (record_for i)) s)) b records) (two_puts a k t.items i Filemark there.0 there.2) second in
      (held, (first, (both, settling_holds (comes (puts k (record_for Filemark)) (comes (puts k (record_for i)) s)) (with_slot a k (t.items ++ i ∷ Filemark ∷ [])) records k both)))

  -- the step of a volume's end
  pub volume_end_holds : (e : VolEndFields) → IsFitItem (Says (frames.VolEnd e)) → AreHeld s (puts k (record_for (Says (frames.VolEnd e))) ∷ puts k (record_for Filemark) ∷ settles k ∷ [])
      (record { archive = a; records = records } ∷ record { archive = with_slot a k (t.items ++ Says (frames.VolEnd e) ∷ []); records = records } ∷ record { archive = with_slot a k (t.items ++ Says (frames.VolEnd e) ∷ Filemark ∷ []); records = records } ∷ record { archive = with_slot a k (t.items ++ Says (frames.VolEnd e) ∷ Filemark ∷ []); records = records } ∷ [])
  volume_end_holds e fit = marked_holds (Says (frames.VolEnd e)) fit (λ d in_records. tt) (λ h same. absurd (cc)) (λ same. absurd (cc)) (λ x same. absurd (cc))

  -- a label and its filemark
  pub label_holds : (l : LabelFields) → IsFitItem (Says (frames.Label l)) → AreHeld s (puts k (record_for (Says (frames.Label l))) ∷ puts k (record_for Filemark) ∷ settles k ∷ [])
      (record { archive = a; records = records } ∷ record { archive = with_slot a k (t.items ++ Says (frames.Label l) ∷ []); records = records } ∷ record { archive = with_slot a k (t.items ++ Says (frames.Label l) ∷ Filemark ∷ []); records = records } ∷ record { archive = with_slot a k (t.items ++ Says (frames.Label l) ∷ Filemark ∷ []); records = records } ∷ [])
  label_holds l fit = marked_holds (Says (frames.Label l)) fit (λ d in_records. tt) (λ h same. absurd (cc)) (λ same. absurd (cc)) (λ x same. absurd (cc))

-- The step of a dump's end, behind its last frame. What is asked is what a job knows: its id is no dump's and no dump's parent; each head of
-- its id is that of one of its parts; and its parts on other tapes are settled.
pub dump_done_holds : (s : State) (a : Archive) (records : List DumpRecordFields) → HoldsSettled s a records → (k : ℕ) (t : Slot) → slice_get a.slots k ≡ Some t → (q : FoundPart) (d : DumpRecordFields) (parts : List Located) (contents2 : ℕ → List ℕ → Result VolumeFields Refusal)
    → IsClosedIn (t.items ++ Filemark ∷ []) q → q.end ≡ length t.items + 1 → IsFound (with_items k (t.items ++ Filemark ∷ []) a.slots) parts d → q.part.head.id ≡ d.id → ((e : DumpRecordFields) → Contains records e → e.id ≡ d.id → ⊥) → ((e : DumpRecordFields) → Contains records e → e.parent ≡ d.id → ⊥) → HasOwnHeads (with_items k (t.items ++ Filemark ∷ []) a.slots) parts d.id
    → ((l : Located) → Contains parts l → (l.slot ≡ k → ⊥) → l.found.end ≤ s.settled l.slot) → fits_record d (listed_of a) ≡ true → has_dump (listed_of a) d.id ≡ false → d.parent < d.id → AreChanges (Done d ∷ [])
    → ((id : ℕ) (name : List ℕ) → (id ≡ d.id → ⊥) → contents2 id name ≡ a.contents id name) → ((name : List ℕ) (v : VolRecordFields) → volume_of d name ≡ Some v → GivesNext (with_items k (t.items ++ Filemark ∷ []) a.slots) contents2 d name v)
    → AreHeld s (puts k (record_for Filemark) ∷ settles k ∷ commits (encoded (Done d ∷ [])) ∷ []) (record { archive = a; records = records } ∷ record { archive = record { log = a.log; slots = with_items k (t.items ++ Filemark ∷ []) a.slots; contents = contents2 }; records = records ++ d ∷ [] } ∷ record { archive = record { log = a.log; slots = with_items k (t.items ++ Filemark ∷ []) a.slots; contents = contents2 }; records = records ++ d ∷ [] } ∷ record { archive = record { log = a.log ++ Done d ∷ []; slots = with_items k (t.items ++ Filemark ∷ []) a.slots; contents = contents2 }; records = records ++ d ∷ [] } ∷ [])
dump_done_holds s a records held k t at q d parts contents2 closed end found id new no_child own others_settled fit unlisted above form others gives =
    let once : AreHeldOnce (d ∷ []) (with_items k (t.items ++ Filemark ∷ []) a.slots) = own_held_once (with_items k (t.items ++ Filemark ∷ []) a.slots) parts d found own in
    let put = dump_end_holds s a records held k t at q d parts contents2 closed end found id new no_child unlisted above once others gives in
    let settled = settling_holds (comes (puts k (record_for Filemark)) s) (record { log = a.log; slots = with_items k (t.items ++ Filemark ∷ []) a.slots; contents = contents2 }) (records ++ d ∷ []) k put in
    let each : (l : Located) → Contains parts l → l.found.end ≤ (comes (settles k) (comes (puts k (record_for Filemark)) s)).settled l.slot = λ l there.
    (let c : IsClosedAt (with_items k (t.items ++ Filemark ∷ []) a.slots) l = All-contains (IsClosedAt (with_items k (t.items ++ Filemark ∷ []) a.slots)) parts l found.closed there in
    let within : l.found.end ≤ length c.here.items = closed_within c.here.items l.found c.closed in
    let long : length ((comes (puts k (record_for Filemark)) s).tape l.slot) ≡ length c.here.items = read_length ((comes (puts k (record_for Filemark)) s).tape l.slot) c.here.items (put.seen.tapes l.slot c.here c.at) in
    elim (same_or_not l.slot k) [
      | inl same ↦ (let test : (l.slot == k) ≡ true = eq-eqb l.slot k same in rw test (omega (arith, within, rw test at long)))
      | inr other ↦ (let test : (l.slot == k) ≡ false = differs l.slot k other in rw test (others_settled l there other))
    ]) in
    let done = listing_commit (comes (settles k) (comes (puts k (record_for Filemark)) s)) (record { log = a.log; slots = with_items k (t.items ++ Filemark ∷ []) a.slots; contents = contents2 }) (records ++ d ∷ []) (Done d) d settled form (inl refl) fit (record { parts = parts; found = found; unlisted = unlisted; above = above })
    (parts_settled (comes (settles k) (comes (puts k (record_for Filemark)) s)) (with_items k (t.items ++ Filemark ∷ []) a.slots) parts d found once each) in
    (held, (put, (settled, done)))
