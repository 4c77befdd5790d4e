-- TAPES SINCE A MOMENT: what they are to what they were then, as far as dumps of some ids are concerned, and the dumps where those that were
-- listed then are listed again.
use Rattle.std.specs.Prelude.{◌≡◌, ◌<◌, ◌≤◌, ℕ, true, not, Some, Result, List, ◌++◌, length, filter, slice_get, Contains}
use Rattle.vnode_model.specs.declared.volumes.VolumeFields.{VolumeFields}
use Rattle.budb_changes.specs.declared.records.TapePart.{TapePart}
use Rattle.budb_changes.specs.declared.records.DumpRecordFields.{DumpRecordFields}
use Rattle.budb_changes.specs.declared.records.VolRecordFields.{VolRecordFields}
use Rattle.budb_fold.specs.Database.{has_dump}
use Rattle.budb_fold.specs.Lookups.{volume_of}
use Rattle.tape_text.specs.Items.{Item}
use Rattle.tape_text.specs.Parts.{FoundPart}
use Rattle.tape_text.specs.Wholes.{Lying}
use Rattle.tape_scan.specs.Scans.{IsClosedIn}
use Rattle.tape_scan.specs.Slots.{Slot, Located, IsFound}
use Rattle.archive_model.specs.Holding.{place_of, holds, called_for, HasNoHead, Lies}
use Rattle.archive_model.specs.Archives.{Archive, Refusal}
use Rattle.archive_model.specs.Turns.{GivesNext}

-- ids: those up to one, and those that aren't one
pub data Ids : Type 0 where
  UpTo : ℕ → Ids
  OtherThan : ℕ → Ids

-- a dump's id is one of these: not above the greatest, or not the one that is left out
abbrev pub IsIn : Ids → ℕ → Type 0
IsIn (UpTo greatest) id = id ≤ greatest
IsIn (OtherThan own) id = id ≡ own → ⊥

-- A tape, and what it was at some moment, for dumps of such ids: they begin alike; behind that items are gone, and others have come, none of
-- which is a head of such a dump; no part of such a dump is closed but where they are alike; and what is held of such a dump, which lay there if it
-- was held, ends where they are alike. So it is whether or not the dump is listed.
pub record IsSince (which : Ids) (old new : List Item) : Type 0 where
  pub common : List Item
  pub gone : List Item
  pub more : List Item
  pub old_is : old ≡ common ++ gone
  pub new_is : new ≡ common ++ more
  pub heads : (id : ℕ) → IsIn which id → HasNoHead id more
  pub closed : (q : FoundPart) → IsClosedIn new q → IsIn which q.part.head.id → q.end ≤ length common
  pub ends : (d : DumpRecordFields) (tape : ℕ) (p : TapePart) → IsIn which d.id → Lies d old → place_of d tape ≡ Some p → holds d tape new ≡ true → p.end ≤ length common

-- so each tape is
abbrev pub AreSince : Ids → List Slot → List Slot → Type 0
AreSince which slots slots2 = (k : ℕ) (s : Slot) → slice_get slots2 k ≡ Some s → (t : Slot) × (slice_get slots k ≡ Some t) × IsSince which t.items s.items

-- the dumps of an archive that lists none, where some are listed: these, and those of another id
abbrev pub with_listed : List DumpRecordFields → List DumpRecordFields → List DumpRecordFields
with_listed listed records = listed ++ filter (λ d. not (has_dump listed d.id)) records

-- what is held of a dump lies there, and no tape of it is held twice
pub record LiesOnce (d : DumpRecordFields) (slots : List Slot) : Type 0 where
  pub lie : (k : ℕ) (s : Slot) → slice_get slots k ≡ Some s → Lies d s.items
  pub once : (tape j k : ℕ) (s t : Slot) → slice_get slots j ≡ Some s → slice_get slots k ≡ Some t → holds d tape s.items ≡ true → holds d tape t.items ≡ true → j ≡ k

-- the tapes are held on which a dump's record calls for fragments of a volume
abbrev pub IsHeldFor : DumpRecordFields → List ℕ → List Slot → Type 0
IsHeldFor d name slots = (c : Lying) → Contains (called_for d name) c → (k : ℕ) × (s : Slot) × (slice_get slots k ≡ Some s) × (holds d c.tape s.items ≡ true)

-- each dump that is found whole and came since gives what it has of a volume over what its parent has
abbrev pub AreGivenSince : ℕ → List Slot → (ℕ → List ℕ → Result VolumeFields Refusal) → Type 0
AreGivenSince greatest slots contents =
    (parts : List Located) (d : DumpRecordFields) (name : List ℕ) (v : VolRecordFields) → IsFound slots parts d → d.parent < d.id → greatest < d.id → volume_of d name ≡ Some v → GivesNext slots contents d name v

-- An archive, and one that came of it, whatever their journals list: the tapes are since then what they are for dumps of ids up to the greatest of
-- the first one, such dumps have what they had, and each other dump gives what it has over what its parent has.
pub record ComesOf (greatest : ℕ) (a b : Archive) : Type 0 where
  pub tapes : AreSince (UpTo greatest) a.slots b.slots
  pub contents : (id : ℕ) (name : List ℕ) → id ≤ greatest → b.contents id name ≡ a.contents id name
  pub given : AreGivenSince greatest b.slots b.contents
