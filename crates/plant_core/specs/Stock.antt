-- A log, tapes and an output: all that is found after a crash.
use Rattle.std.specs.Prelude.{◌≡◌, ℕ, List, [], Option, Some}
use Rattle.plant_core.specs.Records.{Record}

-- the bytes of the log, or none where the log is damaged; the records of the tape in each slot, also where the slot isn't here;
-- and the bytes that were told
pub record Stock : Type 0 where
  pub log : Option (List ℕ)
  pub tape : ℕ → List Record
  pub told : List ℕ

-- an empty log that isn't damaged, no record on any tape, and nothing told
pub record IsNothing (c : Stock) : Type 0 where
  pub log : c.log ≡ Some []
  pub tapes : (k : ℕ) → c.tape k ≡ []
  pub told : c.told ≡ []
