-- The labels of tapes.
use Rattle.std.specs.Prelude.{ℕ, List, [], ◌∷◌, ◌++◌, codes}
use Rattle.backup_replies.specs.Texts.{then_word, then_number, line_feed, ok_line}

-- a name; `-` where there is none
abbrev pub name_or_dash : List ℕ → List ℕ
name_or_dash [] = codes "-"
name_or_dash (b ∷ name) = b ∷ name

-- a tape that was labeled: its AFS name and its permanent name, and its slot
abbrev pub labeled_lines : List ℕ → List ℕ → ℕ → List ℕ
labeled_lines afs permanent slot = codes "label" ++ then_word (name_or_dash afs) ++ then_word (name_or_dash permanent) ++ codes " slot" ++ then_number slot ++ line_feed ++ ok_line

-- a label that was read: its names, its initial id and its tape, and its slot
abbrev pub label_lines : List ℕ → List ℕ → ℕ → ℕ → ℕ → List ℕ
label_lines afs permanent initial tape slot =
    codes "label" ++ then_word (name_or_dash afs) ++ then_word (name_or_dash permanent) ++ codes " initial" ++ then_number initial ++ codes " tape" ++ then_number tape ++ codes " slot" ++ then_number slot ++ line_feed ++ ok_line
