-- HOW MANY LOADS OF TAPES it takes at most to restore volumes that are taken sixteen at a time.
use Rattle.std.specs.Prelude.{ℕ, zero, suc, ◌+◌, ◌/◌, Option, Some, None, List, [], ◌∷◌, length, map, take, drop}
use Rattle.std.specs.List.{sum_by}
use Rattle.volume_sets.specs.declared.sets.SetEntry.{SetEntry}
use Rattle.budb_changes.specs.declared.records.DumpRecordFields.{DumpRecordFields}
use Rattle.tape_scan.specs.Slots.{Slot}
use Rattle.mount_plan.specs.Mounts.{mounts}
use Rattle.mount_plan.specs.Passes.{most_loads}
use Rattle.backup_words.specs.declared.command.Wanted.{Wanted}
use Rattle.restore_commands.specs.Choices.{set_choices}

-- ---- batches

-- so many batches of sixteen, in order; the last one may be smaller
abbrev pub first_batches : ℕ → List Wanted → List (List Wanted)
first_batches zero choices = []
first_batches (suc n) choices = take 16 choices ∷ first_batches n (drop 16 choices)

-- all that were chosen, sixteen at a time
abbrev pub batches : List Wanted → List (List Wanted)
batches choices = first_batches ((length choices + 15) / 16) choices

-- the names of the volumes that are wanted, in order
abbrev pub names_in : List Wanted → List (List ℕ)
names_in choices = map (λ choice. choice.name) choices

-- ---- loads

-- the most loads that a batch takes: those of the tapes on which the chains of its volumes lie, each once for each dump on it
abbrev pub loads_together : List Slot → List DumpRecordFields → List Wanted → ℕ
loads_together slots listed batch = most_loads slots listed (mounts listed None (names_in batch))

-- THE BOUND: the sum over the batches.
abbrev pub batch_loads : List Slot → List DumpRecordFields → List Wanted → ℕ
batch_loads slots listed choices = sum_by (loads_together slots listed) (batches choices)

-- the bound for the volumes of a volume set; where there is no such set nothing is loaded
abbrev pub entries_loads : List Slot → List DumpRecordFields → Option (List SetEntry) → ℕ
entries_loads slots listed None = 0
entries_loads slots listed (Some entries) = batch_loads slots listed (set_choices listed entries)
