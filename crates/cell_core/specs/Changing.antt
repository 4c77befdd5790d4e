-- Changes of a volume's vnodes, and answers of the parts of a call.
use Rattle.std.specs.Prelude.{ℕ, List, Result}
use Rattle.vnode_model.specs.declared.vnodes.Vnode.{Vnode}
use Rattle.vnode_model.specs.declared.headers.HeaderFields.{HeaderFields}
use Rattle.vnode_model.specs.declared.volumes.VolumeFields.{VolumeFields}
use Rattle.cell_core.specs.declared.fault.CellFault.{CellFault}
use Rattle.cell_core.specs.declared.changes.Change.{Change}
use Rattle.cell_core.specs.declared.changes.Change.TheVariants.{Write, Remove}
use Rattle.cell_core.specs.declared.stored.Stored.{Stored}
use Rattle.cell_core.specs.Volumes.{written_volume, volume_without}
use Rattle.cell_core.specs.Calls.{Creation}
use Rattle.cell_core.specs.Answers.{Answers}

-- a volume of these parts
abbrev pub volume_from : HeaderFields → List Vnode → VolumeFields
volume_from header vnodes = record { header = header; vnodes = vnodes }

-- what a change makes of a volume
abbrev pub outcome_of : Change → ℕ → VolumeFields → Result VolumeFields CellFault
outcome_of (Write number body) now volume = written_volume number body.now now volume
outcome_of (Remove number) now volume = volume_without number now volume

-- ---- answers of what never fails: of a change of anything, of a new volume, and of a value alone

-- the state that is due is left; where the due refusal or want of memory is answered, the state is as before
abbrev pub Settles : {T : Type 0} → Result T CellFault → T → Result (Unit {0}) CellFault → T → Type 0
Settles {T = T} due old result new = Answers {T = T} ⊥ (λ (done : Unit {0}) (state : T). state) due old result new

-- the list that is due is left, and the new volume's id told; at a refusal or want of memory the list is as before
abbrev pub SettlesNew : Result Creation CellFault → List Stored → Result ℕ CellFault → List Stored → Type 0
SettlesNew due old result new = Answers {T = Creation} ⊥ (λ (id : ℕ) (list : List Stored). record { id = id; list = list }) due old result new

-- the value that is due is given, or the refusal that is due; want of memory may come for any
abbrev pub Gives : {T : Type 0} → Result T CellFault → Result T CellFault → Type 0
Gives {T = T} due result = Answers {T = T} ⊥ (λ (value : T) (state : Unit {0}). value) due tt result tt
