-- What a crash leaves of a tape reads as a front of its items, perhaps with a record behind that says nothing.
use Rattle.std.proofs.Common.{◌≡◌, ◌⊎◌, ℕ, zero, suc, ◌≤◌, List, [], ◌∷◌, ◌++◌, take, refl, arith, inl, inr, append-nil}
use Rattle.plant_core.specs.Records.{Record, bad}
use Rattle.plant_core.specs.Crashes.{IsTorn}
use Rattle.budb_changes.specs.declared.records.TapePart.{TapePart}
use Rattle.budb_changes.specs.declared.records.DumpRecordFields.{DumpRecordFields}
use Rattle.tape_text.specs.Items.{Item, Nothing, Read, record_for, IsFitItem}
use Rattle.archive_model.specs.Holding.{LiesOn}
use Rattle.tape_text.proofs.ItemLaws.{read_append, reads_as_put}
use Rattle.archive_model.proofs.HoldLaws.{append_keeps, cut_keeps}

pub read_take : (n : ℕ) (rs : List Record) (is : List Item) → Read rs is → Read (take n rs) (take n is)
read_take zero rs is read = tt
read_take (suc n) [] [] read = tt
read_take (suc n) [] (i ∷ is) read = absurd read
read_take (suc n) (r ∷ rs) [] read = absurd read
read_take (suc n) (r ∷ rs) (i ∷ is) read = (read.0, read_take n rs is read.1)

-- a tape with a frame or a filemark more reads as its items with that one more
pub put_reads : (rs : List Record) (is : List Item) (i : Item) → Read rs is → IsFitItem i → Read (rs ++ record_for i ∷ []) (is ++ i ∷ [])
put_reads rs is i read fit = read_append rs (record_for i ∷ []) is (i ∷ []) read (reads_as_put i fit, tt)

-- what a crash may leave of a tape
pub torn_reads : (settled : ℕ) (whole tape : List Record) (is : List Item) → IsTorn settled whole tape → Read whole is → (count : ℕ) × (rest : List Item) × (settled ≤ count) × ((rest ≡ []) ⊎ (rest ≡ Nothing ∷ [])) × Read tape (take count is ++ rest)
torn_reads settled whole tape is torn read = elim torn.is [
  | inl clean ↦ (torn.count, [], torn.low, inl refl, rw (clean, append-nil (take torn.count is)) (read_take torn.count whole is read))
  | inr ragged ↦ (torn.count, Nothing ∷ [], torn.low, inr refl, rw ragged.1 (read_append (take torn.count whole) (bad ∷ []) (take torn.count is) (Nothing ∷ []) (read_take torn.count whole is read) (tt, tt)))
]

-- what lies settled on a tape lies in each image of it
pub torn_keeps : (d : DumpRecordFields) (p : TapePart) (items rest : List Item) (settled count : ℕ) → p.end ≤ settled → settled ≤ count → LiesOn d p items → LiesOn d p (take count items ++ rest)
torn_keeps d p items rest settled count within more lies = append_keeps d p (take count items) rest (cut_keeps d p items count (omega arith) lies)
