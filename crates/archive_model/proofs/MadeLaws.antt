-- What a play makes is a volume.
use Rattle.std.proofs.Common.{◌≡◌, ℕ, Option, Some, None, List, [], ◌∷◌, refl, sym, ap, subst, ◌∙◌}
use Rattle.std.specs.Prelude.{Result, Ok, Err, Contains, find}
use Rattle.vnode_model.specs.declared.volumes.VolumeFields.{VolumeFields}
use Rattle.vnode_model.specs.declared.increments.IncrementFields.{IncrementFields}
use Rattle.vnode_model.specs.declared.applying.ApplyFault.{ApplyFault}
use Rattle.vnode_model.specs.declared.applying.ApplyFault.TheVariants as faults
use Rattle.vnode_model.specs.Limits.{AreVolume}
use Rattle.vnode_model.specs.Increments.{applied}
use Rattle.vnode_model.specs.Chains.{IsBase}
use Rattle.vnode_model.proofs.ChainLaws.{applied_fit}
use Rattle.dump_stream.proofs.SaidLaws.{said_allowed}
use Rattle.budb_changes.specs.declared.records.DumpRecordFields.{DumpRecordFields}
use Rattle.std.specs.List.{flat_map}
use Rattle.budb_fold.specs.Chains.{IsChain}
use Rattle.tape_scan.specs.Slots.{Slot}
use Rattle.archive_model.specs.Holding.{called_for}
use Rattle.tape_writer.specs.Filling.{fragment_bytes}
use Rattle.archive_model.specs.Plays.{Spot, Gives, PlayFault, after_applied, after_given, records_of, PlaysOver}
use Rattle.archive_model.specs.Archives.{Refusal, needs, is_unheld, all_here, refused_by, IsKept}

module _ (slots : List Slot) (name : List ℕ) where
  made_by : (ds : List DumpRecordFields) (v : VolumeFields) (r : Result VolumeFields ApplyFault) → ((w : VolumeFields) → r ≡ Ok w → AreVolume w.vnodes) → ((w : VolumeFields) → AreVolume w.vnodes → PlaysOver slots name (Some w) ds (Ok v) → AreVolume v.vnodes)
      → after_applied r (λ volume. PlaysOver slots name (Some volume) ds (Ok v)) (Ok v) → AreVolume v.vnodes
  made_by ds v (Ok w) fit more on = more w (fit w refl) on
  made_by ds v (Err (faults.BaseLacks number uniq)) fit more on = absurd (cc)
  made_by ds v (Err faults.TooLarge) fit more on = absurd (cc)
  made_by ds v (Err faults.Memory) fit more on = absurd on

  given_by : (d : DumpRecordFields) (ds : List DumpRecordFields) (base : Option VolumeFields) (v : VolumeFields) (given : Result IncrementFields Spot) → IsBase base → Gives slots d (called_for d name) given
      → ((w : VolumeFields) → AreVolume w.vnodes → PlaysOver slots name (Some w) ds (Ok v) → AreVolume v.vnodes) → after_given d base given (λ volume. PlaysOver slots name (Some volume) ds (Ok v)) (Ok v) → AreVolume v.vnodes
  given_by d ds base v (Ok i) fit gives more on = made_by ds v (applied base i) (λ w is. applied_fit base i w fit (said_allowed (flat_map fragment_bytes gives.fragments) i gives.spells).fit is) more on
  given_by d ds base v (Err spot) fit gives more on = absurd (cc)

  pub made_volume : (ds : List DumpRecordFields) (base : Option VolumeFields) (v : VolumeFields) → IsBase base → PlaysOver slots name base ds (Ok v) → AreVolume v.vnodes
  made_volume [] None v fit plays = absurd plays
  made_volume [] (Some b) v fit plays = (let same : b ≡ v = cc in subst (λ (x : VolumeFields). AreVolume x.vnodes) same fit)
  made_volume (d ∷ ds) base v fit plays = given_by d ds base v plays.0 fit plays.1 (λ w good on. made_volume ds (Some w) v good on) plays.2

ok_outcome : (outcome : Result VolumeFields PlayFault) (v : VolumeFields) → refused_by outcome ≡ Ok v → outcome ≡ Ok v
ok_outcome (Ok w) v is = (let same : w ≡ v = cc in ap Ok same)
ok_outcome (Err fault) v is = absurd (cc)

-- the contents of a dump that can be played are a volume, where they are none but a volume
pub contents_are_volume : (listed records : List DumpRecordFields) (slots : List Slot) (contents : ℕ → List ℕ → Result VolumeFields Refusal) → IsKept listed slots contents records → (d : DumpRecordFields) (name ids : List ℕ) (v : VolumeFields)
    → Contains records d → IsChain records d.id name (Ok ids) → find (is_unheld slots) (needs records ids name) ≡ None → contents d.id name ≡ Ok v → AreVolume v.vnodes
contents_are_volume listed records slots contents kept d name ids v there chain held is =
    let old = kept.contents_are d name ids there chain held in
    let same : old.0 ≡ Ok v = ok_outcome old.0 v (sym old.2 ∙ is) in
    made_volume (all_here slots) name (records_of records ids) None v tt (subst (λ (o : Result VolumeFields PlayFault). PlaysOver (all_here slots) name None (records_of records ids) o) same old.1)
