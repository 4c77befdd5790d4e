-- The forms of texts that stand behind their length in one byte.
use Rattle.std.specs.Prelude.{ℕ, List}
use Rattle.bk_text.specs.Alphabets.{IsName, IsHost, IsSetName, IsTapeName}
use Rattle.bk_text.specs.declared.words.Alphabet.{Alphabet}
use Rattle.bk_text.specs.declared.words.Alphabet.TheVariants.{Plain, NoPeriod, AnyFirst}
use Rattle.byte_formats.specs.declared.text.Text.{Text}
use Rattle.byte_formats.specs.declared.text.Text.TheVariants.{Name, Host, SetName, TapeName, Base}
use Rattle.byte_formats.specs.Forms.{IsBase, base_most}

-- the form of each kind of text
abbrev pub IsText : Text → List ℕ → Type 0
IsText Name = IsName
IsText Host = IsHost
IsText SetName = IsSetName
IsText TapeName = IsTapeName
IsText Base = IsBase

-- which bytes a text may have, and how many at most
abbrev pub alphabet_of : Text → Alphabet
alphabet_of Name = Plain
alphabet_of Host = Plain
alphabet_of SetName = NoPeriod
alphabet_of TapeName = AnyFirst
alphabet_of Base = AnyFirst

-- how many bytes a text of each kind has at most
abbrev pub most_of : Text → ℕ
most_of Name = 31
most_of Host = 63
most_of SetName = 31
most_of TapeName = 80
most_of Base = base_most
