-- THE PLAN OF MOUNTS: which tapes a restore of several volumes loads, each once.
use Rattle.std.specs.Prelude.{◌≡◌, ℕ, Bool, true, ◌&&◌, ◌||◌, ◌==◌, nat_lt, if◌then◌else◌, Option, Some, None, Result, Ok, Err, List, [], ◌∷◌, map}
use Rattle.std.specs.List.{flat_map, fold, insert, list_any, position_or_len}
use Rattle.budb_changes.specs.declared.records.DumpRecordFields.{DumpRecordFields}
use Rattle.budb_fold.specs.Lookups.{VolumeDump, latest}
use Rattle.tape_frames.specs.TapeNames.{numbered}
use Rattle.archive_model.specs.Archives.{Need, needs}
use Rattle.restore_chain.specs.Answers.{chain_in}
use Rattle.mount_plan.specs.declared.plan.MountNeed.{MountNeed}

-- ---- what each name needs

-- the tapes of a complete chain; an incomplete one needs none
abbrev pub needs_along : List DumpRecordFields → VolumeDump → Result (List ℕ) ℕ → List Need
needs_along listed one (Ok ids) = needs listed ids one.volume.name
needs_along listed one (Err missing) = []

-- the tapes that a volume's dump needs with its chain, in playing order; none where no dump has the volume
abbrev pub needs_of_latest : List DumpRecordFields → Option VolumeDump → List Need
needs_of_latest listed None = []
needs_of_latest listed (Some one) = needs_along listed one (chain_in listed one.dump.id one.volume.name)

-- the tapes on which the chain of a name's latest dump lies, in playing order
abbrev pub needs_of_name : List DumpRecordFields → Option ℕ → List ℕ → List Need
needs_of_name listed before name = needs_of_latest listed (latest listed name before)

-- ---- each once, in order

-- a dump's id, the tape's number, and by what the tape is known
abbrev pub told : Need → MountNeed
told n = record { dump = n.dump.id; initial = n.dump.initial; tape = n.tape; name = numbered n.dump.base n.tape }

-- two needs are of one dump, by its id, and of one tape, by its number
abbrev pub is_same : MountNeed → MountNeed → Bool
is_same a b = (a.dump == b.dump) && (a.tape == b.tape)

-- by the dump's id, and then by the tape's number
abbrev pub is_below : MountNeed → MountNeed → Bool
is_below a b = nat_lt a.dump b.dump || ((a.dump == b.dump) && nat_lt a.tape b.tape)

-- one more among needs: in front of the first one that it is below, where it isn't there already
abbrev pub among : List MountNeed → MountNeed → List MountNeed
among needs need = if list_any (is_same need) needs then needs else insert needs (position_or_len (is_below need) needs) need

-- these needs, each once, by the dump's id and then by the tape's number
abbrev pub once_in_order : List MountNeed → List MountNeed
once_in_order needs = fold among [] needs

-- The needs of all names, each once, by dump and then tape.
abbrev pub mounts : List DumpRecordFields → Option ℕ → List (List ℕ) → List MountNeed
mounts listed before names = once_in_order (map told (flat_map (needs_of_name listed before) names))

-- each one is below all behind it
abbrev pub AreOrdered : List MountNeed → Type 0
AreOrdered [] = Unit {0}
AreOrdered (a ∷ []) = Unit {0}
AreOrdered (a ∷ b ∷ needs) = (is_below a b ≡ true) × AreOrdered (b ∷ needs)
