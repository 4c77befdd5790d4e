-- Tests of the forms of values; those of names and levels are `Rattle.bk_text.specs.Tests`.
use Rattle.std.specs.Prelude.{ℕ, List, Bool, true, not, ◌&&◌, ◌||◌, nat_eq, nat_le, codes, if◌then◌else◌, Option, Some, None}
use Rattle.std.specs.List.{ends_with}
use Rattle.bk_text.specs.declared.words.Alphabet.TheVariants.{AnyFirst}
use Rattle.bk_text.specs.Bases.{backup_ending}
use Rattle.bk_text.specs.Digits.{digits_of}
use Rattle.bk_text.specs.Tests.{word_test, name_test, host_test, set_name_test, tape_name_test, part_test, level_path_test}
use Rattle.backup_words.specs.Kinds.{is_same}
use Rattle.backup_words.specs.declared.options.TextForm.{TextForm}
use Rattle.backup_words.specs.declared.options.TextForm.TheVariants.{SetName, Name, NewName, Host, Part, AnyHost, AnyPart, TapeName, LevelPath, Extension, Any}

-- ".*", which is any server or partition
abbrev pub is_any : List ℕ → Bool
is_any word = is_same word (codes ".*")

-- a word that ends in ".backup"
abbrev pub ends_in_backup : List ℕ → Bool
ends_in_backup word = ends_with nat_eq word backup_ending

-- a word of a form
abbrev pub is_text : TextForm → List ℕ → Bool
is_text SetName word = set_name_test word
is_text Name word = name_test word
is_text NewName word = name_test word && not (ends_in_backup word)
is_text Host word = host_test word
is_text Part word = part_test word
is_text AnyHost word = is_any word || host_test word
is_text AnyPart word = is_any word || part_test word
is_text TapeName word = tape_name_test word
is_text LevelPath word = level_path_test word
is_text Extension word = word_test AnyFirst 30 word && not (ends_in_backup word)
is_text Any word = true

-- a number that isn't below the least and not above the most
abbrev pub within : ℕ → ℕ → Option ℕ → Option ℕ
within least most None = None
within least most (Some n) = if nat_le least n && nat_le n most then Some n else None

-- a number of one to ten digits within limits
abbrev pub number_within : ℕ → ℕ → List ℕ → Option ℕ
number_within least most word = within least most (digits_of 1 10 word)
