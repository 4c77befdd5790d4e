-- What the decoding of a block answers.
use Rattle.std.specs.Prelude.{◌≡◌, ℕ, ◌<◌, List, Result, Ok, Err}
use Rattle.bk_text.specs.Places.{FailsAt}
use Rattle.tape_frames.specs.declared.frame.Frame.{Frame}
use Rattle.tape_frames.specs.declared.fault.FrameFault.{FrameFault}
use Rattle.tape_frames.specs.declared.fault.FrameFault.TheVariants.{NotFrame, Memory}
use Rattle.tape_frames.specs.Frames.{Fits, spelling, IsSpelled}

-- The frame whose block it is; where it is no frame's, the place at which it stops being one; unless memory runs out.
abbrev pub Decodes : List ℕ → Result Frame FrameFault → Type 0
Decodes block (Ok f) = Fits f × (block ≡ spelling f)
Decodes block (Err (NotFrame at)) = (at < 16384) × FailsAt IsSpelled block at
Decodes block (Err Memory) = Unit {0}
