-- What a dump is refused by once its set, its level and its port are there, in the order of the refusals' numbers.
use Rattle.std.specs.Prelude.{ℕ, List, [], ◌∷◌, length, Bool, true, false, ◌==◌, if◌then◌else◌, Option, Some, None, Result, Ok, Err, slice_get}
use Rattle.vnode_model.specs.declared.listed.VolEntry.{VolEntry}
use Rattle.vnode_model.specs.declared.listed.EntryState.{EntryState}
use Rattle.vnode_model.specs.declared.listed.EntryState.TheVariants.{Good, Bad}
use Rattle.dump_job.specs.declared.fault.JobFault.{JobFault}
use Rattle.dump_job.specs.declared.fault.JobFault.TheVariants as fault
use Rattle.dump_courses.specs.declared.stop.DumpStop.{DumpStop}
use Rattle.dump_courses.specs.declared.stop.DumpStop.TheVariants as stop
use Rattle.dump_job.specs.declared.first_tapes.FirstTape.{FirstTape}
use Rattle.dump_job.specs.declared.order.DumpOrder.{DumpOrder}
use Rattle.backup_replies.specs.declared.refusals.Refusal.TheVariants.{NoTape, NothingToAppend, CapacityTooSmall, NoVolumes, IdsSpent, LogFull, BadImage}
use Rattle.backup_replies.specs.Texts.{refused_alone, refused_word, refused_number, refused_at}

-- ---- refusals of a tape

-- The line of a refusal of a dump of this set to the port of this offset: 40, 41, 44, 52 or 84. What isn't one of these stops the session,
-- and has none.
abbrev pub fault_line : List ℕ → ℕ → JobFault → List ℕ
fault_line set offset fault.NothingToAppend = refused_word NothingToAppend set
fault_line set offset (fault.NoTape name) = refused_word NoTape name
fault_line set offset fault.CapacityTooSmall = refused_number CapacityTooSmall offset
fault_line set offset fault.IdsSpent = refused_alone IdsSpent
fault_line set offset (fault.LogFull size) = refused_number LogFull size
fault_line set offset fault.Failed = []
fault_line set offset fault.Memory = []

-- what stops the session isn't told
abbrev pub passed_on : JobFault → Result JobFault DumpStop
passed_on fault.NothingToAppend = Ok fault.NothingToAppend
passed_on (fault.NoTape name) = Ok (fault.NoTape name)
passed_on fault.CapacityTooSmall = Ok fault.CapacityTooSmall
passed_on fault.IdsSpent = Ok fault.IdsSpent
passed_on (fault.LogFull size) = Ok (fault.LogFull size)
passed_on fault.Failed = Err stop.Plant
passed_on fault.Memory = Err stop.Memory

-- the line by which an order is refused
abbrev pub fault_text : DumpOrder → JobFault → List ℕ
fault_text o f = fault_line o.set o.port.offset f

-- 40, 41 and 44 are answered before it is asked whether the set has volumes, and 52 and 84 behind that.
abbrev pub is_early : JobFault → Bool
is_early fault.NothingToAppend = true
is_early (fault.NoTape name) = true
is_early fault.CapacityTooSmall = true
is_early fault.IdsSpent = false
is_early (fault.LogFull size) = false
is_early fault.Failed = false
is_early fault.Memory = false

-- the line of a refusal that comes before the question whether the set has volumes
abbrev pub early_by : DumpOrder → Option JobFault → Option (List ℕ)
early_by o None = None
early_by o (Some f) = if is_early f then Some (fault_text o f) else None

-- the line of a refusal that comes after that question
abbrev pub late_by : DumpOrder → Option JobFault → Option (List ℕ)
late_by o None = None
late_by o (Some f) = if is_early f then None else Some (fault_text o f)

-- ---- refusals of volumes

-- 50: the set has no volumes
abbrev pub none_of : DumpOrder → Option (List ℕ)
none_of o = if length o.volumes == 0 then Some (refused_word NoVolumes o.set) else None

-- 85: the first bad image among the set's volumes, in the cell's order
abbrev pub bad_by : List ℕ → EntryState → Option (List ℕ) → Option (List ℕ)
bad_by name (Good id kind latest) rest = rest
bad_by name (Bad at) rest = Some (refused_at BadImage name at)

-- a volume that is no good image refuses the dump; else this is said
abbrev pub bad_or : Option VolEntry → Option (List ℕ) → Option (List ℕ)
bad_or None rest = rest
bad_or (Some e) rest = bad_by e.name e.state rest

-- of the volumes at these places the first one that is no good image, where there is one
abbrev pub first_bad : List VolEntry → List ℕ → Option (List ℕ)
first_bad cell [] = None
first_bad cell (place ∷ places) = bad_or (slice_get cell place) (first_bad cell places)

-- ---- in order

-- the first of two refusals
abbrev pub or_else : Option (List ℕ) → Option (List ℕ) → Option (List ℕ)
or_else (Some text) other = Some text
or_else None other = other

-- A trial asks no tape, id or log: 50, 85.
abbrev pub trial_refusal : List VolEntry → DumpOrder → Option (List ℕ)
trial_refusal cell o = or_else (none_of o) (first_bad cell o.volumes)

-- by what the search for the first tape is refused, if it is: 41 or 40, 44; 50; 52, 84; 85
abbrev pub refusal_by : List VolEntry → DumpOrder → Option JobFault → Option (List ℕ)
refusal_by cell o f = or_else (early_by o f) (or_else (none_of o) (or_else (late_by o f) (first_bad cell o.volumes)))

-- what a search for the first tape was refused by, if it was
abbrev pub fault_of : Result FirstTape JobFault → Option JobFault
fault_of (Ok tape) = None
fault_of (Err f) = Some f
