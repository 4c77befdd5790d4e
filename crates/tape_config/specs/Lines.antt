-- What a line of a configuration says.
use Rattle.std.specs.Prelude.{ℕ, List, [], ◌∷◌, Bool, ◌==◌, ◌&&◌, slice_index, if◌then◌else◌, Option, Some, None}
use Rattle.tape_config.specs.declared.line.Entry.TheVariants.{Device, NameCheck}
use Rattle.tape_config.specs.declared.line.Line.{Line}
use Rattle.tape_config.specs.declared.line.Line.TheVariants.{Nothing, Says}
use Rattle.tape_config.specs.Numbers.{plain_of, size_of, capacity_of}
use Rattle.bk_text.specs.Blanks.{words_of, is_same_text, is_same_word}
use Rattle.bk_text.specs.Tests.{host_test}
use Rattle.tape_config.specs.Words.{slots_of, switch_of, name_check_word, cell_word}

-- a port offset: 0 to 58510
abbrev pub offset_of : List ℕ → Option ℕ
offset_of word = plain_of 58510 word

-- a device line, where each of its words is one
abbrev pub device_line : Option ℕ → Option ℕ → Option (ℕ × ℕ) → Option ℕ → Option Line
device_line (Some capacity) (Some filemark) (Some slots) (Some offset) =
    Some (Says (Device (record { offset = offset; capacity = capacity_of capacity; filemark = filemark; first = slots.0; last = slots.1 })))
device_line _ _ _ _ = None

-- a line on name checking
abbrev pub check_line : Option Bool → Option ℕ → Option Line
check_line (Some on) (Some offset) = Some (Says (NameCheck offset on))
check_line _ _ = None

-- A line of two words is a device line with both sizes absent, one of three is on name checking, and one of four is a
-- device line. A line without words says nothing.
abbrev pub words_say : List (List ℕ) → Option Line
words_say [] = Some Nothing
words_say (one ∷ []) = None
words_say (device ∷ offset ∷ []) = device_line (Some 0) (Some 0) (slots_of device) (offset_of offset)
words_say (name ∷ switch ∷ offset ∷ []) = if is_same_word name name_check_word then check_line (switch_of switch) (offset_of offset) else None
words_say (capacity ∷ filemark ∷ device ∷ offset ∷ []) = device_line (size_of capacity) (size_of filemark) (slots_of device) (offset_of offset)
words_say (_ ∷ _ ∷ _ ∷ _ ∷ _ ∷ _) = None

-- what a line says that doesn't name the cell: nothing where it begins with '#'
abbrev pub line_says : List ℕ → Option Line
line_says line = if slice_index line 0 == 35 then Some Nothing else words_say (words_of line)

-- the cell's name, where two words are `cell` and a server's name
abbrev pub words_name : List (List ℕ) → Option (List ℕ)
words_name [] = None
words_name (one ∷ []) = None
words_name (word ∷ name ∷ []) = if is_same_text word cell_word && host_test name then Some name else None
words_name (_ ∷ _ ∷ _ ∷ _) = None

-- the name of the cell, where a line says it
abbrev pub cell_of : List ℕ → Option (List ℕ)
cell_of line = words_name (words_of line)
