-- A chain of clones plays to its last one.
use Rattle.std.proofs.Common.{◌≡◌, ℕ, Option, Some, None, Ok, List, [], ◌∷◌, sym, subst}
use Rattle.vnode_model.specs.declared.volumes.VolumeFields.{VolumeFields}
use Rattle.vnode_model.specs.Limits.{AreVolume}
use Rattle.vnode_model.specs.Increments.{applied, selected}
use Rattle.vnode_model.proofs.ApplyLaws.{restores}
use Rattle.vnode_model.proofs.ChainLaws.{whole_restores}
use Rattle.budb_changes.specs.declared.records.DumpRecordFields.{DumpRecordFields}
use Rattle.tape_scan.specs.Slots.{Slot}
use Rattle.archive_model.specs.Plays.{PlaysOver}
use Rattle.archive_model.specs.Clones.{Cloned, IsNext, HaveClones, last_of}

-- the base of a step is none, or a volume
abbrev pub IsFitBase : Option VolumeFields → Type 0
IsFitBase None = Unit {0}
IsFitBase (Some base) = AreVolume base.vnodes

-- the increment of a clone over the one before it gives the clone
applied_next : (base : Option VolumeFields) (c : Cloned) → IsFitBase base → AreVolume c.volume.vnodes → IsNext base c → applied base (selected c.volume c.from c.time) ≡ Ok c.volume
applied_next None c fit fine next = subst (λ (f : ℕ). applied None (selected c.volume f c.time) ≡ Ok c.volume) (sym next) (whole_restores c.volume c.time fine)
applied_next (Some old) c fit fine next = restores old c.volume c.from c.time fit fine next

pub chain_plays : (slots : List Slot) (name : List ℕ) (base : Option VolumeFields) (ds : List DumpRecordFields) (cs : List Cloned) (v : VolumeFields) → IsFitBase base → HaveClones slots name base ds cs → last_of base cs ≡ Some v → PlaysOver slots name base ds (Ok v)
chain_plays slots name None [] [] v fit have last = absurd (cc)
chain_plays slots name (Some b) [] [] v fit have last = cc
chain_plays slots name base [] (c ∷ cs) v fit have last = absurd have
chain_plays slots name base (d ∷ ds) [] v fit have last = absurd have
chain_plays slots name base (d ∷ ds) (c ∷ cs) v fit have last =
    let same = applied_next base c fit have.1 have.2 in
    let rest : PlaysOver slots name (Some c.volume) ds (Ok v) = chain_plays slots name (Some c.volume) ds cs v have.1 have.3 last in
    (Ok (selected c.volume c.from c.time), have.0, rw same rest)
