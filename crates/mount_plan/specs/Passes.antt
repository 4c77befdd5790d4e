-- ONE PASS OVER NEEDS: how many loads it takes at most.
use Rattle.std.specs.Prelude.{ℕ, Option, Some, None, List}
use Rattle.std.specs.List.{sum_by}
use Rattle.budb_changes.specs.declared.records.DumpRecordFields.{DumpRecordFields}
use Rattle.budb_fold.specs.Lookups.{record_of}
use Rattle.tape_scan.specs.Slots.{Slot}
use Rattle.restore_chain.specs.Strays.{loads_for}
use Rattle.mount_plan.specs.declared.plan.MountNeed.{MountNeed}

-- the most loads that it takes to find this tape of a dump, 0 where the dump isn't listed
abbrev pub loads_by : List Slot → ℕ → Option DumpRecordFields → ℕ
loads_by slots tape None = 0
loads_by slots tape (Some d) = loads_for slots (record { dump = d; tape = tape })

-- the most loads that it takes to find the tape of a need
abbrev pub loads_of : List Slot → List DumpRecordFields → MountNeed → ℕ
loads_of slots listed need = loads_by slots need.tape (record_of listed need.dump)

-- THE BOUND: for each need one load for the slot that holds it, and one for each slot that has its label and doesn't hold it.
abbrev pub most_loads : List Slot → List DumpRecordFields → List MountNeed → ℕ
most_loads slots listed needs = sum_by (loads_of slots listed) needs
