-- What the play of a plan is to the archive that the tapes hold.
use Rattle.std.proofs.Common.{◌≡◌, ◌≢◌, ℕ, Option, Some, None, Ok, Err, List, refl, sym, ap, ◌∙◌, subst}
use Rattle.std.specs.Prelude.{Result}
use Rattle.vnode_model.specs.declared.volumes.VolumeFields.{VolumeFields}
use Rattle.budb_changes.specs.declared.records.DumpRecordFields.{DumpRecordFields}
use Rattle.budb_fold.specs.Lookups.{VolumeDump, latest}
use Rattle.plant_core.specs.Stock.{Stock}
use Rattle.tape_scan.specs.Slots.{Slot}
use Rattle.archive_model.specs.Plays.{PlayFault, BadOnTape, Lacks, Large, records_of, Plays}
use Rattle.archive_model.specs.Archives.{Archive, Holds, listed_of, needs, refused_by, LooksUp}
use Rattle.archive_model.specs.Clones.{Cloned, AreWritten, last_of}
use Rattle.archive_model.proofs.KeepLaws.{written_plays}
use Rattle.archive_model.proofs.LookLaws.{looks_up_once}
use Rattle.archive_model.proofs.OnceLaws.{plays_once}
use Rattle.archive_model.proofs.PlayedLaws.{played_is_looked_up}
use Rattle.restore_chain.specs.declared.chain_plan.ChainPlan.{ChainPlan}
use Rattle.restore_chain.specs.declared.fault.RestoreFault.{RestoreFault}
use Rattle.restore_chain.specs.declared.fault.RestoreFault.TheVariants as faults
use Rattle.restore_chain.specs.Planning.{PlansChain, PlansFor, Plans}
use Rattle.restore_chain.specs.Restoring.{Tells, IsPlanOf, PlaysPlan, RestoresFrom}
use Rattle.restore_chain.proofs.LocatedLaws.{all_there}
use Rattle.restore_chain.proofs.PlanLaws.{leads}
use Rattle.restore_chain.proofs.PlayLaws.{tells_so}
use Rattle.restore_chain.proofs.VolumeLaws.{one_there}

-- ---- a plan is one that may be played

planned_by : (slots : List Slot) (listed : List DumpRecordFields) (found : Option VolumeDump) (plan : ChainPlan) → PlansFor slots listed found (Ok plan) → (one : VolumeDump) × (found ≡ Some one) × PlansChain slots listed one plan
planned_by slots listed None plan plans = absurd plans
planned_by slots listed (Some one) plan plans = (one, refl, plans)

pub planned : (slots : List Slot) (listed : List DumpRecordFields) (name : List ℕ) (before : Option ℕ) (plan : ChainPlan) → Plans slots listed name before (Ok plan) → IsPlanOf slots listed plan
planned slots listed name before plan plans = (let x = planned_by slots listed (latest listed name before) plan plans in (x.0, x.2))

-- ---- a play has one answer

told : PlayFault → RestoreFault
told (BadOnTape tape place) = faults.BadOnTape tape place
told (Lacks number uniq) = faults.BaseLacks number
told Large = faults.TooLarge

told_of : Result VolumeFields PlayFault → Result VolumeFields RestoreFault
told_of (Ok volume) = Ok volume
told_of (Err fault) = Err (told fault)

record IsTold (IsSo : Result VolumeFields PlayFault → Type 0) (r : Result VolumeFields RestoreFault) : Type 0 where
  outcome : Result VolumeFields PlayFault
  is : IsSo outcome
  same : r ≡ told_of outcome

is_told : (IsSo : Result VolumeFields PlayFault → Type 0) (r : Result VolumeFields RestoreFault) → r ≢ Err faults.Failed → r ≢ Err faults.Memory → Tells IsSo r → IsTold IsSo r
unfolding told told_of
is_told IsSo (Ok volume) failed memory tells = record { outcome = Ok volume; is = tells; same = refl }
is_told IsSo (Err faults.NoDump) failed memory tells = absurd tells
is_told IsSo (Err (faults.MissingDump id)) failed memory tells = absurd tells
is_told IsSo (Err (faults.MissingTape name initial)) failed memory tells = absurd tells
is_told IsSo (Err (faults.BaseLacks number)) failed memory tells = record { outcome = Err (Lacks number tells.0); is = tells.1; same = refl }
is_told IsSo (Err (faults.BadOnTape tape place)) failed memory tells = record { outcome = Err (BadOnTape tape place); is = tells; same = refl }
is_told IsSo (Err faults.TooLarge) failed memory tells = record { outcome = Err Large; is = tells; same = refl }
is_told IsSo (Err faults.Failed) failed memory tells = absurd (failed refl)
is_told IsSo (Err faults.Memory) failed memory tells = absurd (memory refl)

pub plays_plan_once : (slots : List Slot) (listed : List DumpRecordFields) (plan : ChainPlan) (x y : Result VolumeFields RestoreFault) → x ≢ Err faults.Failed → x ≢ Err faults.Memory → y ≢ Err faults.Failed → y ≢ Err faults.Memory
    → PlaysPlan slots listed plan x → PlaysPlan slots listed plan y → x ≡ y
plays_plan_once slots listed plan x y x_failed x_memory y_failed y_memory px py =
    let a = is_told (Plays slots listed plan.dumps plan.name) x x_failed x_memory px in
    let b = is_told (Plays slots listed plan.dumps plan.name) y y_failed y_memory py in
    a.same ∙ ap told_of (plays_once slots plan.name None (records_of listed plan.dumps) a.outcome b.outcome a.is b.is) ∙ sym b.same

-- ---- a play of a plan is a look-up

restored_for : (a : Archive) (records : List DumpRecordFields) (stock : Stock) → Holds stock a records → (name : List ℕ) (before : Option ℕ) (one : VolumeDump) (plan : ChainPlan) (r : Result VolumeFields RestoreFault) → latest (listed_of a) name before ≡ Some one
    → PlansChain a.slots (listed_of a) one plan → PlaysPlan a.slots (listed_of a) plan r → RestoresFrom a name before r
restored_for a records stock holds name before one plan r found plans plays =
    tells_so (Plays a.slots (listed_of a) plan.dumps plan.name) (λ outcome. LooksUp a name before (refused_by outcome)) r
    (λ outcome is. played_is_looked_up a records holds.kept name before one plan.dumps outcome found plans.chain
    (all_there a.slots (needs (listed_of a) plan.dumps one.volume.name) plan.tapes plans.tapes)
    (subst (λ (n : List ℕ). Plays a.slots (listed_of a) plan.dumps n outcome) plans.name is))
    plays

pub restored : (stock : Stock) (a : Archive) (records : List DumpRecordFields) → Holds stock a records → (name : List ℕ) (before : Option ℕ) (plan : ChainPlan) (r : Result VolumeFields RestoreFault)
    → Plans a.slots (listed_of a) name before (Ok plan) → PlaysPlan a.slots (listed_of a) plan r → RestoresFrom a name before r
restored stock a records holds name before plan r plans plays =
    let x = planned_by a.slots (listed_of a) (latest (listed_of a) name before) plan plans in
    restored_for a records stock holds name before x.0 plan r x.1 x.2 plays

-- ---- what was written of clones

pub written_restored : (slots : List Slot) (listed : List DumpRecordFields) (plan : ChainPlan) (cs : List Cloned) (v : VolumeFields) (r : Result VolumeFields RestoreFault)
    → AreWritten slots plan.name None (records_of listed plan.dumps) cs → last_of None cs ≡ Some v → PlaysPlan slots listed plan r → r ≢ Err faults.Failed → r ≢ Err faults.Memory → r ≡ Ok v
written_restored slots listed plan cs v r written last plays failed memory =
    plays_plan_once slots listed plan r (Ok v) failed memory (λ is. absurd (cc)) (λ is. absurd (cc)) plays (written_plays slots plan.name (records_of listed plan.dumps) cs v written last)

-- ---- a dump that has its clone as its contents

contents_of : (outcome : Result VolumeFields PlayFault) (v : VolumeFields) → refused_by outcome ≡ Ok v → outcome ≡ Ok v
contents_of (Ok w) v is = let same : w ≡ v = cc in ap Ok same
contents_of (Err fault) v is = absurd (cc)

told_ok : (v : VolumeFields) → told_of (Ok v) ≡ Ok v
unfolding told_of
told_ok v = refl

pub clone_played : (stock : Stock) (a : Archive) (records : List DumpRecordFields) → Holds stock a records
    → (name : List ℕ) (before : Option ℕ) (one : VolumeDump) (v : VolumeFields) → latest (listed_of a) name before ≡ Some one
    → a.contents one.dump.id one.volume.name ≡ Ok v
    → (plan : ChainPlan) (r : Result VolumeFields RestoreFault) → Plans a.slots (listed_of a) name before (Ok plan) → PlaysPlan a.slots (listed_of a) plan r
    → r ≢ Err faults.Failed → r ≢ Err faults.Memory → r ≡ Ok v
clone_played stock a records holds name before one v found contents plan r plans plays failed memory =
    let to = leads a name before plan plans in
    let same : to.one ≡ one = one_there (latest (listed_of a) name before) to.one one to.latest_is found in
    let t = is_told (λ outcome. LooksUp a name before (refused_by outcome)) r failed memory (restored stock a records holds name before plan r plans plays) in
    let own : refused_by t.outcome ≡ a.contents to.one.dump.id to.one.volume.name =
    looks_up_once a name before (refused_by t.outcome) (a.contents to.one.dump.id to.one.volume.name) t.is to.looked_up in
    t.same ∙ ap told_of (contents_of t.outcome v (own ∙ ap (λ (o : VolumeDump). a.contents o.dump.id o.volume.name) same ∙ contents)) ∙ told_ok v
