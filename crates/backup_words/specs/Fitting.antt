-- What the readers of values ask of words. It is no part of what a line says.
use Rattle.std.specs.Prelude.{◌≡◌, ◌⊎◌, ℕ, ◌<◌, List, [], ◌∷◌, length, All, false, None, IsTrue}
use Rattle.bk_text.specs.Alphabets.{IsName, IsHost, IsSetName, IsTapeName}
use Rattle.bk_text.specs.Blanks.{is_blank}
use Rattle.bk_text.specs.LevelPaths.{IsLevelPath}
use Rattle.backup_words.specs.declared.options.Rule.{Rule}
use Rattle.backup_words.specs.declared.options.TextForm.{TextForm}
use Rattle.backup_words.specs.declared.options.TextForm.TheVariants.{SetName, Name, NewName, Host, Part, AnyHost, AnyPart, TapeName, LevelPath, Extension, Any}
use Rattle.bk_text.specs.Partitions.{without_slash}
use Rattle.backup_words.specs.Forms.{is_any}
use Rattle.backup_words.specs.Words.{is_missing}
use Rattle.backup_words.specs.Values.{rule_fault}

-- a word as a line has it: it has a byte, and no space or tab
pub record IsPlainWord (word : List ℕ) : Type 0 where
  pub some : 0 < length word
  pub each : All (λ b. is_blank b ≡ false) word

-- a word of a form
abbrev pub IsText : TextForm → List ℕ → Type 0
IsText SetName word = IsSetName word
IsText Name word = IsName word
IsText NewName word = IsName word
IsText Host word = IsHost word
IsText Part word = IsName (without_slash word)
IsText AnyHost word = IsTrue (is_any word) ⊎ IsHost word
IsText AnyPart word = IsTrue (is_any word) ⊎ IsName (without_slash word)
IsText TapeName word = IsTapeName word
IsText LevelPath word = IsLevelPath word
IsText Extension word = Unit {0}
IsText Any word = Unit {0}

-- an option that is there where it has to, and whose values fit
pub record Fits (words : List (List ℕ)) (rule : Rule) : Type 0 where
  pub there : is_missing words rule ≡ false
  pub good : rule_fault words rule ≡ None

-- each option of these rules fits
abbrev pub AllFit : List (List ℕ) → List Rule → Type 0
AllFit words [] = Unit {0}
AllFit words (rule ∷ rules) = Fits words rule × AllFit words rules
