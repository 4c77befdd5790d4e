-- What a plant's tapes are like in a world.
use Rattle.std.specs.Prelude.{ℕ, ◌<◌, ◌≤◌, length, IsTrue}
use Rattle.backup_session.specs.Worlds.{World}

-- Each slot that is here has a number below 65,535, and no tape has more records than a number of four bytes counts. A plant has no other
-- tapes, and the record of a dump tells slots, records and filemarks by such numbers.
pub record HasTapes (w : World) : Type 0 where
  pub slots : (k : ℕ) → IsTrue (w.setting.present k) → k < 65535
  pub records : (k : ℕ) → length (w.state.tape k) ≤ 4294967295
