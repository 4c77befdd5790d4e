-- The alphabets of the code, as the forms of names have them.
use Rattle.std.specs.Prelude.{◌≡◌, ℕ, ◌<◌, List, ⊤}
use Rattle.bk_text.specs.declared.words.Alphabet.{Alphabet}
use Rattle.bk_text.specs.declared.words.Alphabet.TheVariants.{Plain, NoPeriod, AnyFirst, Printable}
use Rattle.bk_text.specs.Alphabets.{IsNameByte, IsSetNameByte, IsNoDash, IsWord}
use Rattle.bk_text.specs.Patterns.{IsPatternByte}

-- a byte that a text of this alphabet may have behind its first one
abbrev pub Allowed : Alphabet → ℕ → Type 0
Allowed Plain = IsNameByte
Allowed NoPeriod = IsSetNameByte
Allowed AnyFirst = IsNameByte
Allowed Printable = IsPatternByte

-- what the first byte must be besides: no '-' in `Plain` and `NoPeriod`, any allowed byte in the others
abbrev pub AllowedFirst : Alphabet → ℕ → Type 0
AllowedFirst Plain = IsNoDash
AllowedFirst NoPeriod = IsNoDash
AllowedFirst AnyFirst = λ b. ⊤
AllowedFirst Printable = λ b. ⊤

-- a text of this alphabet of 1 to so many bytes
abbrev pub IsWordOf : Alphabet → ℕ → List ℕ → Type 0
IsWordOf alphabet = IsWord (Allowed alphabet) (AllowedFirst alphabet)

-- a byte that such a text may have at this place
abbrev pub MayStand : Alphabet → ℕ → ℕ → ℕ → Type 0
MayStand alphabet most at b = (at < most) × Allowed alphabet b × (at ≡ 0 → AllowedFirst alphabet b)
