-- One need more in a pass.
use Rattle.std.proofs.Common.{◌≡◌, ◌<◌, ◌≤◌, ◌+◌, ℕ, List, [], ◌∷◌, ◌++◌, length, take, get_or, map, sym, ap, ◌∙◌}
use Rattle.std.specs.Prelude.{Option}
use Rattle.std.specs.List.{sum_by}
use Rattle.std.proofs.lemmas.List.{map-append, take_more}
use Rattle.std.proofs.lemmas.List.Sums.{sum_by_more, sum_by-take-le}
use Rattle.budb_changes.specs.declared.records.DumpRecordFields.{DumpRecordFields}
use Rattle.tape_scan.specs.Slots.{Slot}
use Rattle.mount_plan.specs.declared.plan.MountNeed.{MountNeed}
use Rattle.mount_plan.specs.Passes.{loads_of, most_loads}

-- so many and one more
one_more : (needs : List MountNeed) (i : ℕ) (n : MountNeed) → i < length needs → n ≡ get_or needs i n → take (i + 1) needs ≡ take i needs ++ n ∷ []
one_more needs i n within is = take_more needs i n within ∙ ap (λ (m : MountNeed). take i needs ++ m ∷ []) (sym is)

pub most_more : (slots : List Slot) (listed : List DumpRecordFields) (needs : List MountNeed) (i : ℕ) (n : MountNeed) → i < length needs → n ≡ get_or needs i n
    → most_loads slots listed (take (i + 1) needs) ≡ most_loads slots listed (take i needs) + loads_of slots listed n
most_more slots listed needs i n within is = sum_by_more (loads_of slots listed) needs i n within ∙ ap (λ (m : MountNeed). sum_by (loads_of slots listed) (take i needs) + loads_of slots listed m) (sym is)

pub most_within : (slots : List Slot) (listed : List DumpRecordFields) (needs : List MountNeed) (i : ℕ) → most_loads slots listed (take i needs) ≤ most_loads slots listed needs
most_within slots listed needs i = sum_by-take-le (loads_of slots listed) needs i
