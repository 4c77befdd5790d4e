-- The reading of a log.
use Rattle.std.specs.Prelude.{zero, suc, ℕ, ◌-◌, List, [], ◌∷◌, length, ◌==◌, if◌then◌else◌, Result, Ok, Err}
use Rattle.bk_text.specs.declared.words.Alphabet.TheVariants.{Printable}
use Rattle.byte_formats.specs.declared.text.Text.TheVariants.{Name, Host, SetName}
use Rattle.budb_changes.specs.declared.version.Version.TheVariants.{One, Two}
use Rattle.budb_changes.specs.declared.change.Change.{Change}
use Rattle.budb_changes.specs.declared.change.Change.TheVariants.{AddSet, DelSet, AddEntry, DelEntry, AddLevel, SetExpiry, DelLevel, AddHost, DelHost, Begin, Take, Done1, Forget, Found1, Done, Found}
use Rattle.log_readings.specs.Readers.{Read, Reader, read_as, read_both, read_pair, read_one, read_two, read_four}
use Rattle.log_readings.specs.Texts.{read_word, read_text, read_text2, read_level, read_any}
use Rattle.log_readings.specs.Records.{read_expiry, read_dump}

-- the fields of an entry of a set
unfoldable pub read_entry : Reader Change
read_entry =
    read_as (λ p. AddEntry p.0 p.1.0 p.1.1.0 p.1.1.1)
    (read_pair (read_text SetName) (read_pair (read_any (read_text Host)) (read_pair (read_any (read_text Name)) (read_text2 1 128 (read_word Printable)))))

-- the fields of a change of a kind
unfoldable pub read_fields : ℕ → Reader Change
read_fields kind =
    if kind == 1 then read_as (λ set. AddSet set) (read_text SetName)
    else if kind == 2 then read_as (λ set. DelSet set) (read_text SetName)
    else if kind == 3 then read_entry
    else if kind == 4 then read_as (λ p. DelEntry p.0 p.1) (read_pair (read_text SetName) read_four)
    else if kind == 5 then read_as (λ p. AddLevel p.0 p.1) (read_pair read_level read_expiry)
    else if kind == 6 then read_as (λ p. SetExpiry p.0 p.1) (read_pair read_level read_expiry)
    else if kind == 7 then read_as (λ level. DelLevel level) read_level
    else if kind == 8 then read_as (λ p. AddHost p.0 p.1) (read_pair (read_text Host) (read_two 0 65535))
    else if kind == 9 then read_as (λ port. DelHost port) (read_two 0 65535)
    else if kind == 10 then read_as (λ id. Begin id) read_four
    else if kind == 11 then read_as (λ initial. Take initial) read_four
    else if kind == 12 then read_as (λ dump. Done1 dump) (read_dump One)
    else if kind == 13 then read_as (λ id. Forget id) read_four
    else if kind == 14 then read_as (λ dump. Found1 dump) (read_dump One)
    else if kind == 15 then read_as (λ dump. Done dump) (read_dump Two)
    else read_as (λ dump. Found dump) (read_dump Two)

-- a change: its kind in a byte, and its fields
unfoldable pub read_change : Reader Change
read_change = read_as (λ p. p.1) (read_both (read_one 1 16) read_fields)

-- a change, and those behind it
unfoldable pub with_change : Change → Result (List Change) ℕ → Result (List Change) ℕ
with_change change (Ok changes) = Ok (change ∷ changes)
with_change change (Err left) = Err left

unfoldable pub change_and : (List ℕ → Result (List Change) ℕ) → Read Change → Result (List Change) ℕ
change_and more (Ok taken) = with_change taken.0 (more taken.1)
change_and more (Err left) = Err left

-- Changes one behind another up to the end of the bytes, in so many turns: as many as there are bytes are enough, since a change has one or
-- more. Where no change goes on so, how many bytes are left from the first one that doesn't fit.
unfoldable pub read_changes : ℕ → List ℕ → Result (List Change) ℕ
read_changes zero bytes = Ok []
read_changes (suc n) [] = Ok []
read_changes (suc n) (b ∷ bytes) = change_and (λ rest. read_changes n rest) (read_change (b ∷ bytes))

-- as a place from the front
unfoldable pub from_front : ℕ → Result (List Change) ℕ → Result (List Change) ℕ
from_front size (Ok changes) = Ok changes
from_front size (Err left) = Err (size - left)

-- The reading of a log: the changes that these bytes spell, or the place of the first byte with which no list of changes goes on,
-- which is the length where the bytes are a front of such a list and no list themselves.
unfoldable pub reading_of : List ℕ → Result (List Change) ℕ
reading_of bytes = from_front (length bytes) (read_changes (length bytes) bytes)
