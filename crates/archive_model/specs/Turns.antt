-- What an effect, or a crash, makes of slots that keep dumps.
use Rattle.std.specs.Prelude.{◌≡◌, zero, suc, ℕ, ◌-◌, Bool, true, false, ◌&&◌, ◌||◌, Option, Some, None, Result, Ok, Err, List, [], ◌∷◌, ◌++◌, filter, find, slice_get, Contains}
use Rattle.std.specs.List.{list_any, list_all}
use Rattle.vnode_model.specs.declared.volumes.VolumeFields.{VolumeFields}
use Rattle.vnode_model.specs.declared.increments.IncrementFields.{IncrementFields}
use Rattle.vnode_model.specs.Limits.{AreVolume}
use Rattle.vnode_model.specs.Increments.{applied, Follows}
use Rattle.tape_frames.specs.declared.frame.Frame.TheVariants as frames
use Rattle.tape_frames.specs.declared.dump_head.DumpHeadFields.{DumpHeadFields}
use Rattle.tape_frames.specs.declared.dump_end.DumpEndFields.{DumpEndFields}
use Rattle.budb_changes.specs.declared.records.VolRecordFields.{VolRecordFields}
use Rattle.budb_changes.specs.declared.records.DumpRecordFields.{DumpRecordFields}
use Rattle.budb_changes.specs.declared.change.Change.{Change}
use Rattle.budb_changes.specs.declared.change.Change.TheVariants.{AddSet, DelSet, AddEntry, DelEntry, AddLevel, SetExpiry, DelLevel, AddHost, DelHost, Begin, Take, Done1, Forget, Found1, Done, Found}
use Rattle.budb_fold.specs.Database.{is_dump, has_dump}
use Rattle.budb_fold.specs.Chains.{IsChain}
use Rattle.tape_text.specs.Items.{Item, Says, Filemark, Nothing}
use Rattle.tape_scan.specs.Slots.{Slot, Located, IsBegunAt}
use Rattle.archive_model.specs.Holding.{holds, called_for}
use Rattle.archive_model.specs.Plays.{HasStream, PlayFault, Plays}
use Rattle.archive_model.specs.Archives.{Archive, Refusal, needs, is_unheld, all_here, refused_by}

-- the slots with other items on one of them
abbrev pub with_items : ℕ → List Item → List Slot → List Slot
with_items k items [] = []
with_items zero items (s ∷ slots) = record s { items = items } ∷ slots
with_items (suc k) items (s ∷ slots) = s ∷ with_items k items slots

-- an archive with another log, with other items on a slot, and with other contents
abbrev pub with_log : Archive → List Change → Archive
with_log a log = record { log = log; slots = a.slots; contents = a.contents }

-- an archive with these items on the slot of a number, counted from 0
abbrev pub with_slot : Archive → ℕ → List Item → Archive
with_slot a k items = record { log = a.log; slots = with_items k items a.slots; contents = a.contents }

-- an archive with other contents of its dumps
abbrev pub with_contents : Archive → (ℕ → List ℕ → Result VolumeFields Refusal) → Archive
with_contents a contents = record { log = a.log; slots = a.slots; contents = contents }

-- ---- a record that is put

-- the head of a part that is put is of no part that is begun on these slots
abbrev pub IsFreshHead : List Slot → Item → Type 0
IsFreshHead slots i = (h : DumpHeadFields) → i ≡ Says (frames.DumpHead h) → (l : Located) → IsBegunAt slots l → l.found.part.head.id ≡ h.id → l.found.part.head.part ≡ h.part → ⊥

-- what is put is no filemark behind a part's end
abbrev pub EndsNoPart : List Item → Item → Type 0
EndsNoPart items i = i ≡ Filemark → (before : List Item) (e : DumpEndFields) → items ≡ before ++ Says (frames.DumpEnd e) ∷ [] → ⊥

-- a frame that stands within a part
abbrev pub IsWithinPart : Item → Type 0
IsWithinPart (Says (frames.Label a)) = ⊥
IsWithinPart (Says (frames.DumpHead a)) = ⊥
IsWithinPart (Says (frames.VolHead a)) = Unit {0}
IsWithinPart (Says (frames.Data a)) = Unit {0}
IsWithinPart (Says (frames.VolEnd a)) = Unit {0}
IsWithinPart (Says (frames.DumpEnd a)) = ⊥
IsWithinPart Filemark = ⊥
IsWithinPart Nothing = ⊥

-- each head of this id, wherever it stands, is that of one of these parts
abbrev pub HasOwnHeads : List Slot → List Located → ℕ → Type 0
HasOwnHeads slots parts id =
    (k : ℕ) (s : Slot) (n : ℕ) (h : DumpHeadFields) → slice_get slots k ≡ Some s → slice_get s.items n ≡ Some (Says (frames.DumpHead h)) → h.id ≡ id → (l : Located) × Contains parts l × (l.slot ≡ k) × (l.found.first ≡ n)

-- ---- a dump more

-- The contents of a dump are what playing it gives, where its chain is complete and all of its tapes are held.
abbrev pub ContentsGrow : List Slot → (ℕ → List ℕ → Result VolumeFields Refusal) → List DumpRecordFields → DumpRecordFields → Type 0
ContentsGrow slots contents records d =
    (name ids : List ℕ) → IsChain records d.id name (Ok ids) → find (is_unheld slots) (needs records ids name) ≡ None
    → (outcome : Result VolumeFields PlayFault) × Plays (all_here slots) records ids name outcome × (contents d.id name ≡ refused_by outcome)

-- What a dump's tapes give of a volume, and its contents: an increment; of a volume dumped whole, the volume that it makes of none; of
-- another, the one that it makes of the parent's contents, or the refusal that the parent's contents are.
pub record GivesNext (slots : List Slot) (contents : ℕ → List ℕ → Result VolumeFields Refusal) (d : DumpRecordFields) (name : List ℕ) (v : VolRecordFields) : Type 0 where
  pub increment : IncrementFields
  pub stream : HasStream (all_here slots) d (called_for d name) increment
  pub whole : v.from ≡ 0 → (new : VolumeFields) × (applied None increment ≡ Ok new) × (contents d.id name ≡ Ok new)
  pub follows : (v.from ≡ 0 → ⊥) → (old : VolumeFields) → contents d.parent name ≡ Ok old → (new : VolumeFields) × (applied (Some old) increment ≡ Ok new) × (contents d.id name ≡ Ok new)
  pub faulty : (v.from ≡ 0 → ⊥) → (r : Refusal) → contents d.parent name ≡ Err r → contents d.id name ≡ Err r

-- A dump's contents of a volume are its clone; where it wasn't dumped whole and the parent's contents are a refusal, that refusal. The
-- clone follows the parent's contents since the from time.
pub record IsClone (contents : ℕ → List ℕ → Result VolumeFields Refusal) (d : DumpRecordFields) (name : List ℕ) (v : VolRecordFields) (clone : VolumeFields) : Type 0 where
  pub whole : v.from ≡ 0 → contents d.id name ≡ Ok clone
  pub follows : (v.from ≡ 0 → ⊥) → (old : VolumeFields) → contents d.parent name ≡ Ok old → AreVolume old.vnodes × Follows old v.from clone × (contents d.id name ≡ Ok clone)
  pub faulty : (v.from ≡ 0 → ⊥) → (r : Refusal) → contents d.parent name ≡ Err r → contents d.id name ≡ Err r

-- each listed dump is held where it was
abbrev pub StillHeld : List DumpRecordFields → List Slot → List Slot → Type 0
StillHeld listed slots slots2 =
    (d : DumpRecordFields) (tape k : ℕ) (s : Slot) → Contains listed d → slice_get slots k ≡ Some s → holds d tape s.items ≡ true → (t : Slot) × (slice_get slots2 k ≡ Some t) × (holds d tape t.items ≡ true)

-- ---- what is left

-- a slot is here
abbrev pub is_here : Slot → Bool
is_here s = s.here

-- a record is there and is a filemark
abbrev pub is_filemark : Option Item → Bool
is_filemark None = false
is_filemark (Some Filemark) = true
is_filemark (Some (Says f)) = false
is_filemark (Some Nothing) = false

-- each tape of a record is held, as far as the record's last filemark on it
abbrev pub is_there : List Slot → DumpRecordFields → Bool
is_there slots d = list_all (λ p. list_any (λ s. holds d p.tape s.items && is_filemark (slice_get s.items (p.end - 1))) slots) d.tapes

-- of these dumps those that still are dumps
abbrev pub remaining : List DumpRecordFields → List Slot → List DumpRecordFields → List DumpRecordFields
remaining listed slots records = filter (λ d. has_dump listed d.id || is_there slots d) records

-- ---- changes

-- a change after which the same dumps are listed, whatever they are
abbrev pub TouchesNoDump : Change → Type 0
TouchesNoDump (AddSet set) = Unit {0}
TouchesNoDump (DelSet set) = Unit {0}
TouchesNoDump (AddEntry set server partition pattern) = Unit {0}
TouchesNoDump (DelEntry set number) = Unit {0}
TouchesNoDump (AddLevel level expiry) = Unit {0}
TouchesNoDump (SetExpiry level expiry) = Unit {0}
TouchesNoDump (DelLevel level) = Unit {0}
TouchesNoDump (AddHost host port) = Unit {0}
TouchesNoDump (DelHost port) = Unit {0}
TouchesNoDump (Begin id) = Unit {0}
TouchesNoDump (Take initial) = ⊥
TouchesNoDump (Done1 dump) = ⊥
TouchesNoDump (Forget id) = ⊥
TouchesNoDump (Found1 dump) = ⊥
TouchesNoDump (Done dump) = ⊥
TouchesNoDump (Found dump) = ⊥

-- a dump of one of these ids
abbrev pub is_one_of : List ℕ → DumpRecordFields → Bool
is_one_of ids d = list_any (λ id. is_dump id d) ids

-- none of these changes lists a dump or takes one from the list
abbrev pub AllUntouched : List Change → Type 0
AllUntouched [] = Unit {0}
AllUntouched (c ∷ cs) = TouchesNoDump c × AllUntouched cs
