-- WHAT IS TOLD, byte by byte: whether some line of it begins with `refused`.
use Rattle.std.specs.Prelude.{ℕ, List, [], ◌∷◌, Bool, false, length, drop, ◌||◌, ◌==◌, if◌then◌else◌, codes}
use Rattle.std.specs.List.{fold}
use Rattle.backup_replies.specs.Texts.{is_feed}

-- the word by which a line refuses
abbrev pub word : List ℕ
word = codes "refused"

-- What is known of a text: whether some line of it begins with the word; and what is due of the word in its last line, where all of that
-- line is a front of it. Nothing is due where the line begins otherwise, or has the word.
pub record Watched : Type 0 where
  pub refused : Bool
  pub due : List ℕ

-- of no text
abbrev pub at_start : Watched
at_start = record { refused = false; due = word }

-- bytes that begin with this one
abbrev pub begins_with : List ℕ → ℕ → Bool
begins_with [] b = false
begins_with (c ∷ cs) b = c == b

-- one byte more
abbrev pub with_byte : Watched → ℕ → Watched
with_byte w b =
    if is_feed b then record { refused = w.refused; due = word }
    else (if begins_with w.due b then record { refused = w.refused || (length w.due == 1); due = drop 1 w.due } else record { refused = w.refused; due = [] })

-- a text more
abbrev pub with_text : Watched → List ℕ → Watched
with_text w text = fold with_byte w text
