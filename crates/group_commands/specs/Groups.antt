-- A GROUP THAT IS OPEN: the dumps that it holds and their kills, and what it takes.
use Rattle.std.specs.Prelude.{◌≡◌, ◌≢◌, ℕ, ◌+◌, ◌-◌, ◌≤◌, List, [], ◌∷◌, ◌++◌, length, Bool, false, ◌&&◌, ◌==◌, nat_le, if◌then◌else◌, Option, Some, None, slice_get, codes}
use Rattle.std.specs.List.{list_any}
use Rattle.backup_words.specs.declared.command.DumpCommand.{DumpCommand}
use Rattle.backup_replies.specs.declared.refusals.Refusal.TheVariants.{BadOption, BadValue, PortBusy, GroupFull}
use Rattle.backup_replies.specs.Texts.{refused_word, refused_number, ok_line}
use Rattle.backup_replies.specs.Groups.{held_line}
use Rattle.job_pool.specs.declared.turn.Kill.{Kill}

-- By which schedule its dumps take turns; the dumps that it holds, in order; and the kills in order, each of a held dump by its place, which counts from 0.
pub record GroupView : Type 0 where
  pub schedule : ℕ
  pub held : List DumpCommand
  pub kills : List Kill

-- a group that was opened just now
abbrev pub opened : ℕ → GroupView
opened schedule = record { schedule = schedule; held = []; kills = [] }

-- ---- what is so of it

-- it is dumped to tapes of its own, and no trial
pub record IsHeld (a : DumpCommand) : Type 0 where
  pub fresh : a.append ≡ false
  pub real : a.trial ≡ false

-- It holds at most 16 dumps, each to tapes of its own and no trial, and no two of them to one port.
pub record IsGroup (g : GroupView) : Type 0 where
  pub few : length g.held ≤ 16
  pub each : (n : ℕ) (a : DumpCommand) → slice_get g.held n ≡ Some a → IsHeld a
  pub ports : (n k : ℕ) (a b : DumpCommand) → slice_get g.held n ≡ Some a → slice_get g.held k ≡ Some b → n ≢ k → a.offset ≢ b.offset

-- ---- a dump is held

-- it goes to this port
abbrev pub is_to_port : ℕ → DumpCommand → Bool
is_to_port offset a = a.offset == offset

-- the first of its options that a group doesn't take
abbrev pub barred_option : DumpCommand → Option (List ℕ)
barred_option a = if a.append then Some (codes "-append") else if a.trial then Some (codes "-n") else None

-- why a dump without such an option isn't held: its port is taken, or the group is full
abbrev pub room_refusal : GroupView → DumpCommand → Option (List ℕ)
room_refusal g a =
    if list_any (is_to_port a.offset) g.held then Some (refused_number PortBusy a.offset) else
    if nat_le 16 (length g.held) then Some (refused_number GroupFull 16) else None

-- why a dump isn't held, in the order of the refusals' numbers: 02, 32, 35
abbrev pub hold_refusal : GroupView → DumpCommand → Option (List ℕ) → Option (List ℕ)
hold_refusal g a (Some word) = Some (refused_word BadOption word)
hold_refusal g a None = room_refusal g a

-- what a line in a group leaves of it, and what it tells
pub record Told : Type 0 where
  pub group : GroupView
  pub text : List ℕ

-- a refusal leaves the group as it was
abbrev pub held_or : GroupView → DumpCommand → Option (List ℕ) → Told
held_or g a (Some text) = record { group = g; text = text }
held_or g a None = record { group = record g { held = g.held ++ a ∷ [] }; text = held_line (length g.held + 1) }

-- A DUMP IN A GROUP is held, and counted from 1; or it is refused.
unfoldable pub hold : GroupView → DumpCommand → Told
hold g a = held_or g a (hold_refusal g a (barred_option a))

-- ---- a kill

-- A KILL of a held dump, which counts from 1. Another number is no value of its option.
unfoldable pub kill : GroupView → ℕ → ℕ → Told
kill g job after =
    if nat_le 1 job && nat_le job (length g.held) then record { group = record g { kills = g.kills ++ record { job = job - 1; after = after } ∷ [] }; text = ok_line }
    else record { group = g; text = refused_word BadValue (codes "-job") }
