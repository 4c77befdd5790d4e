-- That a journal is emptied, for good, and all else stays as it was.
use Rattle.std.specs.Prelude.{◌≡◌, ◌≢◌, ℕ, List, []}
use Rattle.media_core.specs.declared.event.Event.{Event}
use Rattle.media_core.specs.Events.{Contents, blank, after}

-- of a file the same is read, and a crash may leave the same
pub record SameFile (old new : Contents) (k : ℕ) : Type 0 where
  pub bytes : new.bytes k ≡ old.bytes k
  pub synced : new.synced k ≡ old.synced k
  pub loose : new.loose k ≡ old.loose k

-- File 0 is empty, and so in each image, since none is longer than what is read. The other files and the output are as they
-- were, and so in each image.
pub record IsEmptied (old new : Contents) : Type 0 where
  pub bytes : new.bytes 0 ≡ []
  pub others : (k : ℕ) → k ≢ 0 → SameFile old new k
  pub told : new.told ≡ old.told
  pub told_first : new.told_first ≡ old.told_first
  pub pieces : new.pieces ≡ old.pieces

-- the same of what was asked
abbrev pub NoJournal : List Event → List Event → Type 0
NoJournal old new = IsEmptied (after old blank) (after new blank)
