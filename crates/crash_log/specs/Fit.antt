-- That the state of a log fits its file.
use Rattle.std.specs.Prelude.{◌≡◌, ◌≢◌, ◌⊎◌, ◌↔◌, ℕ, ◌+◌, ◌<◌, ◌≤◌, Bool, false, List, length, MatchBool, IsTrue}
use Rattle.crash_moments.specs.Moments.{Moments}
use Rattle.media_core.specs.Media.{Image}
pub use Rattle.media_core.specs.Still.{IsStill}
use Rattle.crash_log.specs.Log.{span, Place, IsFine, gate_at, place_at, is_good, successor}
use Rattle.crash_log.specs.State.{base_of, other_of, place_in, settled_bytes, put_bytes, empty_state}
use Rattle.crash_log.specs.declared.state.LogState.{LogState}
use Rattle.crash_log.specs.declared.state.Needs.{Needs}
use Rattle.crash_log.specs.declared.state.Needs.TheVariants.{Nothing, Blank, Damaged, Stale}

-- the slot at the base is open, and names these bytes
pub record Stands (base : ℕ) (p : Place) (log file : List ℕ) : Type 0 where
  pub gate : gate_at base file ≡ 1
  pub place : place_at base file ≡ p
  pub bytes : span p.start p.size file ≡ log
  pub within : p.start + p.size ≤ length file

-- The slot at the base is good, and yields to one with this turn: the turn is its successor, or they are equal and it is
-- the second slot.
pub record Yields (base turn : ℕ) (file : List ℕ) : Type 0 where
  pub gate : gate_at base file ≡ 1
  pub fine : IsFine (place_at base file)
  pub within : (place_at base file).start + (place_at base file).size ≤ length file
  pub follows : (turn ≡ successor (place_at base file).turn) ⊎ ((base ≡ 4096) × (turn ≡ (place_at base file).turn))

-- the other slot is closed, or yields
abbrev pub Other : Bool → ℕ → ℕ → List ℕ → Type 0
Other is_open base turn file = MatchBool is_open (Yields base turn file) (gate_at base file ≢ 1)

-- moments of which a crash leaves just what reads give
abbrev pub as_read : {D : Type 0} → (D → Image) → Moments D Image
as_read seen = record {
  moment = λ s. 0;
  may_leave = λ s c. c ≡ seen s;
  left_since = λ s t c. c ≡ seen s;
  counts_now = λ s t c le left. left;
  only_now = λ s c left. left;
}

-- Nothing has to be done first. Each image that these moments may leave has the settled log, and the file has what was put.
pub record IsReady {D : Type 0} (moments : Moments D Image) (seen : D → Image) (log : LogState) (media : D) : Type 0 where
  pub fine : IsFine (place_in log)
  pub put : log.start + (log.size + log.more) ≤ length ((seen media).file log.file)
  pub stands : (c : Image) → moments.may_leave media c → Stands (base_of log) (place_in log) (settled_bytes log ((seen media).file log.file)) (c.file log.file)
  pub other : (c : Image) → moments.may_leave media c → Other log.other_open (other_of log) log.turn (c.file log.file)

-- the same, and where nothing was put no write to the file waits for a sync
pub record IsSound {D : Type 0} (moments : Moments D Image) (seen : D → Image) (log : LogState) (media : D) : Type 0 where
  pub ready : IsReady moments seen log media
  pub quiet : log.more ≡ 0 → IsStill moments seen log.file media

-- the file is blank
pub record IsBlank {D : Type 0} (moments : Moments D Image) (seen : D → Image) (log : LogState) (media : D) : Type 0 where
  pub still : IsStill moments seen log.file media
  pub short : length ((seen media).file log.file) < 8192
  pub empty : log ≡ empty_state log.file log.limit Blank

-- the file is damaged, and these gates are 1
pub record IsBad {D : Type 0} (moments : Moments D Image) (seen : D → Image) (is_first is_second : Bool) (log : LogState) (media : D) : Type 0 where
  pub still : IsStill moments seen log.file media
  pub long : 8192 ≤ length ((seen media).file log.file)
  pub first : IsTrue is_first ↔ (gate_at 0 ((seen media).file log.file) ≡ 1)
  pub second : IsTrue is_second ↔ (gate_at 4096 ((seen media).file log.file) ≡ 1)
  pub first_bad : is_good 0 ((seen media).file log.file) ≡ false
  pub second_bad : is_good 4096 ((seen media).file log.file) ≡ false
  pub empty : log ≡ empty_state log.file log.limit (Damaged is_first is_second)

-- the other gate is 1 though its slot isn't good
pub record IsStale {D : Type 0} (moments : Moments D Image) (seen : D → Image) (log : LogState) (media : D) : Type 0 where
  pub still : IsStill moments seen log.file media
  pub fine : IsFine (place_in log)
  pub none : log.more ≡ 0
  pub shut : log.other_open ≡ false
  pub gate : gate_at (other_of log) ((seen media).file log.file) ≡ 1
  pub stands : Stands (base_of log) (place_in log) (settled_bytes log ((seen media).file log.file)) ((seen media).file log.file)
  pub other_bad : is_good (other_of log) ((seen media).file log.file) ≡ false

-- a state fits its file by what has to be done first: nothing, formatting (blank or damaged), or closing a stale gate
abbrev pub FitsAs : {D : Type 0} → Needs → Moments D Image → (D → Image) → LogState → D → Type 0
FitsAs Nothing moments seen log media = IsSound moments seen log media
FitsAs Blank moments seen log media = IsBlank moments seen log media
FitsAs (Damaged first second) moments seen log media = IsBad moments seen first second log media
FitsAs Stale moments seen log media = IsStale moments seen log media

-- Each image that these moments may leave has the settled log, and reads give it with what was put. Where nothing was put no
-- write to the file waits for a sync.
abbrev pub Fits : {D : Type 0} → Moments D Image → (D → Image) → LogState → D → Type 0
Fits moments seen log media = FitsAs log.needs moments seen log media

-- nothing changes behind the slots
pub record SameBehind (old new : List ℕ) : Type 0 where
  pub bytes : (a n : ℕ) → 8192 ≤ a → span a n new ≡ span a n old
  pub long : length old ≤ length new

-- nothing changes of the bytes of the log
pub record SameLog (log : LogState) (old new : List ℕ) : Type 0 where
  pub settled : settled_bytes log new ≡ settled_bytes log old
  pub put : put_bytes log new ≡ put_bytes log old
