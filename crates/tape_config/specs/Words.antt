-- The words of a configuration line.
use Rattle.std.specs.Prelude.{ℕ, List, drop, Bool, ◌==◌, nat_eq, nat_le, if◌then◌else◌, Option, Some, None, true, false, codes}
use Rattle.std.specs.List.{starts_with, before_first, after_first}
use Rattle.bk_text.specs.Blanks.{is_same_word}
use Rattle.tape_config.specs.Numbers.{plain_of}

-- the first word of a line on name checking, in either case, and of the one that names the cell
abbrev pub name_check_word : List ℕ
name_check_word = codes "name_check"

-- the first word of the line that names the cell, in lower case alone
abbrev pub cell_word : List ℕ
cell_word = codes "cell"

-- yes or no, in either case
abbrev pub switch_of : List ℕ → Option Bool
switch_of word = if is_same_word word (codes "yes") then Some true else if is_same_word word (codes "no") then Some false else None

-- two slots, of which the second isn't below the first
abbrev pub in_order : Option ℕ → Option ℕ → Option (ℕ × ℕ)
in_order (Some first) (Some last) = if nat_le first last then Some (first, last) else None
in_order _ _ = None

-- what stands in front of the slots of a device
abbrev pub slots_word : List ℕ
slots_word = codes "slots:"

-- the byte '-', which stands between a device's first slot and its last
abbrev pub is_dash : ℕ → Bool
is_dash b = b == 45

-- the slots of a device: slots:a-b
abbrev pub slots_of : List ℕ → Option (ℕ × ℕ)
slots_of word =
    if starts_with nat_eq word slots_word
    then in_order (plain_of 65535 (before_first is_dash (drop 6 word))) (plain_of 65535 (after_first is_dash (drop 6 word)))
    else None
