-- Reading byte by byte.
use Rattle.std.specs.Prelude.{◌≡◌, ◌↔◌, ℕ, List, Option, Some, None, Bool, true, false}
use Rattle.dump_stream.specs.declared.form.Form.{Form}
use Rattle.dump_stream.specs.declared.form.Verdict.TheVariants.{More}
use Rattle.dump_stream.specs.declared.sofar.Sofar.{Sofar}
use Rattle.dump_stream.specs.declared.sofar.Sofar.TheVariants.{Ended}
use Rattle.dump_stream.specs.declared.machine.Machine.{Machine}
use Rattle.vnode_model.specs.declared.increments.Increment.{Increment}
use Rattle.dump_stream.specs.Forms.{IsWhole, Judges}
use Rattle.dump_stream.specs.Machine.{Payload, after, Rest}

-- the rest behind a tag whose first bytes are p
abbrev pub Inside : Form → Sofar → ℕ → List ℕ → List ℕ → Increment → Type 0
Inside form sofar tag p bytes i = Payload form p (λ q r. Rest (after sofar tag q) r i) bytes

-- These bytes end a stream that says i: from between two fields (None), or from behind a tag and its first bytes p.
abbrev pub RestAt : Option Form → Sofar → ℕ → List ℕ → List ℕ → Increment → Type 0
RestAt None sofar tag p bytes i = Rest sofar bytes i
RestAt (Some form) sofar tag p bytes i = Inside form sofar tag p bytes i

-- from here these bytes end a stream, and the stream says i
abbrev pub Ends : Machine → List ℕ → Increment → Type 0
Ends m bytes i = RestAt m.form m.sofar m.tag m.payload bytes i

-- the bytes p so far begin the form and aren't all of it; between two fields (None) nothing is said
abbrev pub GoesOnAt : Option Form → List ℕ → Type 0
GoesOnAt None p = Unit {0}
GoesOnAt (Some form) p = Judges (IsWhole form) p More

-- behind a tag, the bytes so far begin what may stand there and aren't all of it
abbrev pub GoesOn : Machine → Type 0
GoesOn m = GoesOnAt m.form m.payload

-- What ended a stream from the old place ends it from the new one, and nothing else does.
abbrev pub Moves : (List ℕ → Increment → Type 0) → Machine → Type 0
Moves Before new = GoesOn new × ((bytes : List ℕ) (i : Increment) → Before bytes i ↔ Ends new bytes i)

-- nothing ends a stream
abbrev pub IsDead : (List ℕ → Increment → Type 0) → Type 0
IsDead Before = (bytes : List ℕ) (i : Increment) → Before bytes i → ⊥

-- Where the byte fits (true), the machine moves on to the new place; where it doesn't, nothing ends a stream.
abbrev pub Steps : (List ℕ → Increment → Type 0) → Bool → Machine → Type 0
Steps Before true new = Moves Before new
Steps Before false new = IsDead Before

-- a stream has ended, and says i
abbrev pub EndsWith : Machine → Increment → Type 0
EndsWith m i = (m.form ≡ None) × (m.sofar ≡ Ended i)

-- a stream has ended, whatever it says
abbrev pub HasEnded : Machine → Type 0
HasEnded m = (i : Increment) × EndsWith m i
