-- What the parse of a text answers.
use Rattle.std.specs.Prelude.{◌≡◌, ℕ, List, Result, Ok, Err}
use Rattle.bk_text.specs.declared.texts.TextFault.{TextFault}
use Rattle.bk_text.specs.declared.texts.TextFault.TheVariants.{BadText, Memory}
use Rattle.bk_text.specs.Places.{FailsAt}

-- A text of the form is kept, and another one is refused at its place, unless memory runs out.
abbrev pub Parses : (List ℕ → Type 0) → List ℕ → Result (List ℕ) TextFault → Type 0
Parses Form text (Ok kept) = Form text × (kept ≡ text)
Parses Form text (Err (BadText at)) = FailsAt Form text at
Parses Form text (Err Memory) = Unit {0}
