-- The steps of a dump on a state that holds an archive settled.
use Rattle.std.proofs.Common.{◌≡◌, ℕ, ◌+◌, ◌<◌, ◌≤◌, true, false, Some, List, [], ◌∷◌, ◌++◌, length, take, arith, inl}
use Rattle.std.specs.Prelude.{Result, Contains, slice_get}
use Rattle.vnode_model.specs.declared.volumes.VolumeFields.{VolumeFields}
use Rattle.budb_changes.specs.declared.records.TapePart.{TapePart}
use Rattle.budb_changes.specs.declared.records.VolRecordFields.{VolRecordFields}
use Rattle.budb_changes.specs.declared.records.DumpRecordFields.{DumpRecordFields}
use Rattle.budb_fold.specs.Database.{has_dump}
use Rattle.budb_fold.specs.Lookups.{volume_of}
use Rattle.plant_core.specs.Crashes.{State, seen_in}
use Rattle.tape_text.specs.Items.{Item, Filemark, record_for, IsFitItem}
use Rattle.tape_text.specs.Parts.{FoundPart}
use Rattle.tape_scan.specs.Slots.{Slot, Located, IsClosedAt, IsFound}
use Rattle.archive_model.specs.Holding.{place_of, holds, HasNoHead}
use Rattle.archive_model.specs.Archives.{Archive, Refusal, listed_of, AreHeldOnce, Holds}
use Rattle.tape_scan.specs.Scans.{IsClosedIn}
use Rattle.plant_core.specs.Effects.{Effect, comes, come, puts, cuts}
use Rattle.archive_model.specs.Settled.{HoldsSettled, Kept, AreHeld}
use Rattle.archive_model.specs.Turns.{with_items, IsFreshHead, EndsNoPart, GivesNext, StillHeld, remaining}
use Rattle.archive_model.proofs.PutLaws.{mid_put_keeps}
use Rattle.archive_model.proofs.EndLaws.{part_end_keeps, dump_end_given}
use Rattle.archive_model.proofs.StepLaws.{read_length, put_holds, cut_holds}
use Rattle.archive_model.proofs.HoldLaws.{lies_within}
use Rattle.archive_model.proofs.StillLaws.{cut_still_held}
use Rattle.archive_model.proofs.KeepLaws.{held_uncut}

module _ (s : State) (a : Archive) (records : List DumpRecordFields) (held : HoldsSettled s a records) (k : ℕ) (t : Slot) (at : slice_get a.slots k ≡ Some t) where
  -- a record that is put in mid-dump
  pub mid_put_holds : (i : Item) → IsFitItem i → ((d : DumpRecordFields) → Contains records d → HasNoHead d.id (i ∷ [])) → IsFreshHead a.slots i → EndsNoPart t.items i
      → HoldsSettled (comes (puts k (record_for i)) s) (record { log = a.log; slots = with_items k (t.items ++ i ∷ []) a.slots; contents = a.contents }) records
  mid_put_holds i fit unnamed fresh ends =
      put_holds s a records records a.contents k t i held at fit (λ d there. unnamed d (held.seen.kept.dumps.complete d (inl there))) (mid_put_keeps (listed_of a) records a.slots a.contents held.seen.kept k t at i unnamed fresh ends)

  -- the filemark of a part whose dump goes on
  pub part_end_holds : (q : FoundPart) → IsClosedIn (t.items ++ Filemark ∷ []) q → q.end ≡ length t.items + 1 → q.part.end.more ≡ 1 → ((l : Located) → IsClosedAt a.slots l → l.found.part.head.id ≡ q.part.head.id → l.found.part.end.more ≡ 0 → ⊥)
      → HoldsSettled (comes (puts k (record_for Filemark)) s) (record { log = a.log; slots = with_items k (t.items ++ Filemark ∷ []) a.slots; contents = a.contents }) records
  part_end_holds q closed end goes_on none_ends =
      put_holds s a records records a.contents k t Filemark held at tt (λ d there. tt) (part_end_keeps (listed_of a) records a.slots a.contents held.seen.kept k t at q closed end goes_on none_ends)

  -- the filemark that ends a dump
  pub dump_end_holds : (q : FoundPart) (d : DumpRecordFields) (parts : List Located) (contents2 : ℕ → List ℕ → Result VolumeFields Refusal) → IsClosedIn (t.items ++ Filemark ∷ []) q → q.end ≡ length t.items + 1
      → IsFound (with_items k (t.items ++ Filemark ∷ []) a.slots) parts d → q.part.head.id ≡ d.id → ((e : DumpRecordFields) → Contains records e → e.id ≡ d.id → ⊥) → ((e : DumpRecordFields) → Contains records e → e.parent ≡ d.id → ⊥) → has_dump (listed_of a) d.id ≡ false → d.parent < d.id
      → AreHeldOnce (d ∷ []) (with_items k (t.items ++ Filemark ∷ []) a.slots) → ((id : ℕ) (name : List ℕ) → (id ≡ d.id → ⊥) → contents2 id name ≡ a.contents id name) → ((name : List ℕ) (v : VolRecordFields) → volume_of d name ≡ Some v → GivesNext (with_items k (t.items ++ Filemark ∷ []) a.slots) contents2 d name v)
      → HoldsSettled (comes (puts k (record_for Filemark)) s) (record { log = a.log; slots = with_items k (t.items ++ Filemark ∷ []) a.slots; contents = contents2 }) (records ++ d ∷ [])
  dump_end_holds q d parts contents2 closed end found id new no_child unlisted above once others gives =
      put_holds s a records (records ++ d ∷ []) contents2 k t Filemark held at tt (λ e there. tt)
      (dump_end_given (listed_of a) records a.slots a.contents held.seen.kept k t at q closed end d parts found id new no_child unlisted above once contents2 others gives)

  -- a cut behind all that is held there of listed dumps
  pub cut_holds_all : (n : ℕ) → ((d : DumpRecordFields) (tape : ℕ) (p : TapePart) → Contains (listed_of a) d → place_of d tape ≡ Some p → holds d tape t.items ≡ true → p.end ≤ n)
      → HoldsSettled (comes (cuts k n) s) (record a { slots = with_items k (take n t.items) a.slots }) (remaining (listed_of a) (with_items k (take n t.items) a.slots) records) × StillHeld (listed_of a) a.slots (with_items k (take n t.items) a.slots)
  cut_holds_all n behind =
      (cut_holds s a records k n t held at (λ d tape p there place short. behind d tape p there place (held_uncut (place_of d tape) d tape n t.items short)), cut_still_held (listed_of a) records a.slots a.contents held.seen.kept k n t at behind)

-- a state all of which is settled holds settled what it holds
pub rest_holds : (s : State) (a : Archive) (records : List DumpRecordFields) → Holds (seen_in s) a records → s.log_settled ≡ length s.log → ((k : ℕ) → s.settled k ≡ length (s.tape k)) → HoldsSettled s a records
rest_holds s a records held log tapes = record {
  seen = held;
  log = log;
  settled = λ k t d tape p at there place holds_it.
      (let within : p.end ≤ length t.items = lies_within d p t.items (held.kept.lie d k t (held.kept.dumps.complete d (inl there)) at tape p place holds_it) in
      omega (arith, within, read_length (s.tape k) t.items (held.tapes k t at), tapes k));
}

none_left : (es : List Effect) (s : State) → AreHeld s es [] → ⊥
none_left [] s held = held
none_left (e ∷ es) s held = held

-- archives that are held while effects come, and then while others do
pub held_then : (s : State) (es fs : List Effect) (archives : List Kept) (a : Kept) (more : List Kept) → AreHeld s es (archives ++ a ∷ []) → AreHeld (come es s) fs (a ∷ more) → AreHeld s (es ++ fs) (archives ++ a ∷ more)
held_then s [] fs [] a more held then = then
held_then s [] fs (b ∷ []) a more held then = absurd held
held_then s [] fs (b ∷ c ∷ archives) a more held then = absurd held
held_then s (e ∷ es) fs [] a more held then = absurd (none_left es (comes e s) held.1)
held_then s (e ∷ es) fs (b ∷ archives) a more held then = (held.0, held_then (comes e s) es fs archives a more held.1 then)
