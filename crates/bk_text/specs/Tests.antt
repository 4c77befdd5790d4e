-- Tests of the forms of texts: each holds of exactly the texts of its form.
use Rattle.std.specs.Prelude.{ℕ, List, length, Bool, true, not, ◌&&◌, ◌==◌, nat_lt, nat_le, slice_index}
use Rattle.std.specs.List.{list_all}
use Rattle.bk_text.specs.declared.words.Alphabet.{Alphabet}
use Rattle.bk_text.specs.declared.words.Alphabet.TheVariants.{Plain, NoPeriod, AnyFirst, Printable}
use Rattle.bk_text.specs.LevelPaths.{elements_of}
use Rattle.bk_text.specs.Partitions.{without_slash}

-- a byte of 33 to 126
abbrev pub is_printable : ℕ → Bool
is_printable b = nat_lt 32 b && nat_lt b 127

-- a byte of a name: 33 to 126 without '/'
abbrev pub is_name_byte : ℕ → Bool
is_name_byte b = is_printable b && not (b == 47)

-- whether a text of this alphabet may have this byte behind its first one
abbrev pub is_allowed : Alphabet → ℕ → Bool
is_allowed Plain b = is_name_byte b
is_allowed NoPeriod b = is_name_byte b && not (b == 46)
is_allowed AnyFirst b = is_name_byte b
is_allowed Printable b = is_printable b

-- whether a byte may begin a text of this alphabet, where it is allowed in it: in a name '-' may not
abbrev pub is_allowed_first : Alphabet → ℕ → Bool
is_allowed_first Plain b = not (b == 45)
is_allowed_first NoPeriod b = not (b == 45)
is_allowed_first AnyFirst b = true
is_allowed_first Printable b = true

-- 1 to so many bytes of an alphabet
unfoldable pub word_test : Alphabet → ℕ → List ℕ → Bool
word_test alphabet most text =
    nat_lt 0 (length text) && (nat_le (length text) most && (is_allowed_first alphabet (slice_index text 0) && list_all (is_allowed alphabet) text))

-- a volume's name
abbrev pub name_test : List ℕ → Bool
name_test = word_test Plain 31

-- a server's name
abbrev pub host_test : List ℕ → Bool
host_test = word_test Plain 63

-- a volume set's name
abbrev pub set_name_test : List ℕ → Bool
set_name_test = word_test NoPeriod 31

-- the name on a tape's label
abbrev pub tape_name_test : List ℕ → Bool
tape_name_test = word_test AnyFirst 80

-- a partition's name, perhaps behind one slash
abbrev pub part_test : List ℕ → Bool
part_test text = name_test (without_slash text)

-- an element of a level's path
abbrev pub element_test : List ℕ → Bool
element_test = word_test AnyFirst 28

-- a level's path: each element behind a slash, and at most 256 bytes in all
unfoldable pub level_path_test : List ℕ → Bool
level_path_test text = (slice_index text 0 == 47) && (nat_le (length text) 256 && list_all element_test (elements_of text))
