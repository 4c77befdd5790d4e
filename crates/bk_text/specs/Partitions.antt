-- A partition's name as it is read.
use Rattle.std.specs.Prelude.{◌≡◌, ◌⊎◌, ℕ, List, [], ◌∷◌, ◌==◌, if◌then◌else◌, Result, Ok, Err}
use Rattle.bk_text.specs.declared.texts.TextFault.{TextFault}
use Rattle.bk_text.specs.declared.texts.TextFault.TheVariants.{BadText, Memory}
use Rattle.bk_text.specs.Alphabets.{IsName}
use Rattle.bk_text.specs.Places.{FailsAt}

-- a name, perhaps behind one slash
abbrev pub NamesPart : List ℕ → List ℕ → Type 0
NamesPart text name = IsName name × ((text ≡ name) ⊎ (text ≡ 47 ∷ name))

-- a text that some partition's name is read from: the name, perhaps behind one slash
abbrev pub IsPartText : List ℕ → Type 0
IsPartText text = (name : List ℕ) × NamesPart text name

-- the name is kept without the slash, and any other text is refused at its place, unless memory runs out
abbrev pub ParsesPart : List ℕ → Result (List ℕ) TextFault → Type 0
ParsesPart text (Ok kept) = NamesPart text kept
ParsesPart text (Err (BadText at)) = FailsAt IsPartText text at
ParsesPart text (Err Memory) = Unit {0}

-- a text with no slash at its front
abbrev pub IsBare : List ℕ → Type 0
IsBare text = (more : List ℕ) → text ≡ 47 ∷ more → ⊥

-- a text without the slash that may stand at its front
abbrev pub without_slash : List ℕ → List ℕ
without_slash [] = []
without_slash (b ∷ rest) = if b == 47 then rest else b ∷ rest
