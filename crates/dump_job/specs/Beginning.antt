-- How a dump begins: its id, the tape on which it begins, what it is refused by, and what it has then.
use Rattle.std.specs.Prelude.{◌≡◌, ℕ, ◌+◌, ◌*◌, ◌<◌, ◌≤◌, min, max, Bool, nat_le, nat_lt, if◌then◌else◌, Option, Some, None, Result, Ok, Err, List, [], ◌∷◌, ◌++◌, length, IsTrue}
use Rattle.std.specs.Option.{unwrap_or}
use Rattle.std.specs.List.{last_or}
use Rattle.bk_text.specs.Alphabets.{IsTapeName}
use Rattle.bk_text.specs.LevelPaths.{elements_of}
use Rattle.byte_formats.specs.Forms.{IsMaybe, base_most}
use Rattle.plant_core.specs.declared.plant.Plant.{Ghosts as Plant}
use Rattle.plant_core.specs.Effects.{Effect, commits}
use Rattle.plant_core.specs.Records.{NoBad}
use Rattle.plant_effects.specs.Runs.{state_of}
use Rattle.tape_config.specs.declared.port.PortFields.{PortFields}
use Rattle.tape_frames.specs.declared.label.LabelFields.{LabelFields}
use Rattle.tape_frames.specs.declared.dump_head.DumpHeadFields.{DumpHeadFields}
use Rattle.tape_frames.specs.TapeNames.{numbered}
use Rattle.tape_scan.specs.Slots.{Slot}
use Rattle.tape_writer.specs.Room.{Counts, HasRoom, with_label}
use Rattle.budb_changes.specs.declared.change.Change.{Change}
use Rattle.budb_changes.specs.declared.change.Change.TheVariants.{Begin}
use Rattle.budb_changes.specs.declared.records.DumpRecordFields.{DumpRecordFields}
use Rattle.budb_changes.specs.Bytes.{encoded}
use Rattle.budb_changes.specs.Forms.{AreChanges}
use Rattle.budb_fold.specs.declared.database.Database.{Database}
use Rattle.budb_fold.specs.Database.{after_from}
use Rattle.budb_fold.specs.Lookups.{record_of}
use Rattle.budb.specs.Views.{BudbView}
use Rattle.budb.specs.Kept.{Keeps}
use Rattle.tape_choice.specs.declared.wanting.Wanting.{Wanting}
use Rattle.tape_choice.specs.declared.choosing.Chosen.{Chosen}
use Rattle.tape_choice.specs.declared.places.Place.{Place}
use Rattle.tape_choice.specs.declared.places.Appending.{Appending}
use Rattle.tape_choice.specs.declared.places.Appending.TheVariants.{NoSet, NotFound, Found}
use Rattle.tape_scan.specs.Looking.{HasSlots}
use Rattle.tape_choice.specs.Choice.{chosen, choice_of, takes, initials_above, permanent_in}
use Rattle.tape_choice.specs.Append.{AreWhole, appending}
use Rattle.dump_job.specs.declared.fault.JobFault.{JobFault}
use Rattle.dump_job.specs.declared.fault.JobFault.TheVariants.{NothingToAppend, NoTape, CapacityTooSmall, IdsSpent, LogFull}
use Rattle.dump_job.specs.declared.order.DumpOrder.{DumpOrder}
use Rattle.dump_job.specs.declared.first_tapes.FirstTape.{FirstTape}
use Rattle.dump_job.specs.declared.fields.JobFields.{JobFields}
use Rattle.dump_job.specs.declared.fields.Phase.TheVariants as phase
use Rattle.dump_job.specs.Reels.{records_on, counts_on, has_room}
use Rattle.dump_job.specs.Taping.{IsFor}
use Rattle.dump_job.specs.Faults.{Answers, DoneBehindLoads}

-- ---- its id and its name

-- The id of a new dump: the time, or one more than the greatest id that was begun or recorded where that is greater. Where the ids are
-- spent, the dump that is then refused counts as one of the last id.
abbrev pub new_id : ℕ → ℕ → ℕ
new_id time greatest = min 4294967295 (max time (greatest + 1))

-- no id is left above the greatest one
abbrev pub are_spent : ℕ → Bool
are_spent greatest = nat_le 4294967295 greatest

-- the last element of a level's path
abbrev pub last_element : List ℕ → List ℕ
last_element path = unwrap_or (last_or None (elements_of path)) []

-- what the names of the tapes of a new dump set begin with: the volume set, a period, and the last element of the level
abbrev pub base_of : DumpOrder → List ℕ
base_of o = o.set ++ 46 ∷ last_element o.level

-- ---- a tape that is taken

-- what a dump of this dump set wants of a tape
abbrev pub wanting_of : DumpOrder → List DumpRecordFields → ℕ → List ℕ → Wanting
wanting_of o listed initial name = record {
  name = name;
  checked = o.port.name_check;
  time = o.time;
  initial = initial;
  parents = initials_above listed o.parent;
  used = [];
}

-- the new label of a tape, which keeps the permanent name of the old one
abbrev pub new_label : ℕ → List ℕ → ℕ → Option LabelFields → LabelFields
new_label initial base number old = record { initial = initial; tape = number; afs = numbered base number; permanent = permanent_in old }

-- a first tape that is taken: it gets a new label, keeps its permanent name, and is cut to nothing
abbrev pub taken_tape : ℕ → List ℕ → ℕ → Chosen → FirstTape
taken_tape initial base number c = record {
  initial = initial;
  base = base;
  tape = number;
  label = Some (new_label initial base number c.label);
  permanent = permanent_in c.label;
  uses = 1;
  reel = record { slot = c.slot; blocks = 0; marks = 0 };
  take = c.take;
}

-- that tape, or the refusal that tells the name that was looked for
abbrev pub taken_or_none : ℕ → List ℕ → ℕ → Option Chosen → Result FirstTape JobFault
taken_or_none initial base number None = Err (NoTape (numbered base number))
taken_or_none initial base number (Some c) = Ok (taken_tape initial base number c)

-- The tape of this number of a dump set, by the choice of tapes. No tape has a number above 4,294,967,295.
abbrev pub next_tape : DumpOrder → List DumpRecordFields → List Slot → ℕ → List ℕ → ℕ → Result FirstTape JobFault
next_tape o listed slots initial base number =
    if nat_le number 4294967295 then taken_or_none initial base number (choice_of listed (chosen listed (wanting_of o listed initial (numbered base number)) o.port slots))
    else Err (NoTape (numbered base number))

-- ---- a tape that is appended to

-- how much of a port's tape is used at a place
abbrev pub counts_at : PortFields → Place → Counts
counts_at port p = record { port = port; blocks = p.blocks; marks = p.marks }

-- a first tape that is appended to: it keeps its label, and the records up to the place stay
abbrev pub place_tape : Place → FirstTape
place_tape p = record {
  initial = p.initial;
  base = p.base;
  tape = p.tape;
  label = None;
  permanent = p.permanent;
  uses = p.uses;
  reel = record { slot = p.slot; blocks = p.blocks; marks = p.marks };
  take = None;
}

-- Behind a place the dump begins where 5 blocks and 2 filemarks are left, and else on the next tape of the dump set.
abbrev pub tape_behind : DumpOrder → List DumpRecordFields → List Slot → Place → Result FirstTape JobFault
tape_behind o listed slots p =
    if has_room 5 2 (counts_at o.port p) then Ok (place_tape p) else next_tape o listed slots p.initial p.base (p.tape + 1)

-- A dump set of an initial id above the dump's own can't be appended to: no head could tell it. Its last tape counts as one that isn't
-- found.
abbrev pub tape_within : DumpOrder → List DumpRecordFields → List Slot → ℕ → Place → Result FirstTape JobFault
tape_within o listed slots id p = if nat_le p.initial id then tape_behind o listed slots p else Err (NoTape (numbered p.base p.tape))

-- the first tape of a dump that is appended, by what was found; or what it is refused by
abbrev pub tape_by : DumpOrder → List DumpRecordFields → List Slot → ℕ → Appending → Result FirstTape JobFault
tape_by o listed slots id NoSet = Err NothingToAppend
tape_by o listed slots id (NotFound base tape) = Err (NoTape (numbered base tape))
tape_by o listed slots id (Found p) = tape_within o listed slots id p

-- ---- the tape on which a dump begins

-- the first tape of a dump set of its own, or the place behind the last dump of its volume set
abbrev pub tape_found : DumpOrder → List DumpRecordFields → List Slot → (ℕ → Bool) → ℕ → Result FirstTape JobFault
tape_found o listed slots whole id =
    if o.append then tape_by o listed slots id (appending listed o.set o.port whole slots) else next_tape o listed slots id (base_of o) 1

-- ---- what is committed

-- the commit of a begin: the id is begun, and the dump set that the first tape held is forgotten
abbrev pub begin_changes : ℕ → Option ℕ → List Change
begin_changes id take = Begin id ∷ takes take

-- the length that a log has with this commit
abbrev pub length_with : ℕ → ℕ → Option ℕ → ℕ
length_with size id take = size + length (encoded (begin_changes id take))

-- ---- what a dump is refused by where a tape was found

-- nothing of a port's tape is used
abbrev pub fresh : PortFields → Counts
fresh port = record { port = port; blocks = 0; marks = 0 }

-- the first tape, or the refusal of a log of more than 268,435,456 bytes
abbrev pub unless_full : ℕ → FirstTape → Result FirstTape JobFault
unless_full size t = if nat_lt 268435456 size then Err (LogFull size) else Ok t

-- the same, where an id is left at all
abbrev pub unless_spent : ℕ → ℕ → ℕ → FirstTape → Result FirstTape JobFault
unless_spent size greatest id t = if are_spent greatest then Err IdsSpent else unless_full (length_with size id t.take) t

-- A fresh tape takes 6 blocks and 3 filemarks; this is asked where the dump is appended too.
abbrev pub unless_refused : DumpOrder → ℕ → ℕ → ℕ → FirstTape → Result FirstTape JobFault
unless_refused o size greatest id t = if has_room 6 3 (fresh o.port) then unless_spent size greatest id t else Err CapacityTooSmall

-- the first tape that was found, or what refuses it: tapes too small, no id left, a log too long
abbrev pub tape_passed : DumpOrder → ℕ → ℕ → ℕ → Result FirstTape JobFault → Result FirstTape JobFault
tape_passed o size greatest id (Ok t) = unless_refused o size greatest id t
tape_passed o size greatest id (Err fault) = Err fault

-- the id that a dump of this order gets
abbrev pub id_of : DumpOrder → Database → ℕ
id_of o db = new_id o.time db.greatest

-- The tape on which a dump begins, or the first of the refusals: nothing to append to, no tape, tapes that are too small, no id left, a
-- log that would be too long.
abbrev pub first_tape : Database → List Slot → (ℕ → Bool) → DumpOrder → ℕ → Result FirstTape JobFault
first_tape db slots whole o size = tape_passed o size db.greatest (id_of o db) (tape_found o db.listed slots whole (id_of o db))

-- ---- what a dump has when it is begun

-- the head of the first part
abbrev pub first_head : DumpOrder → ℕ → FirstTape → DumpHeadFields
first_head o id t = record {
  id = id;
  initial = t.initial;
  parent = o.parent;
  expires = o.expires;
  tape = t.tape;
  part = 1;
  volumes = length o.volumes;
  set = o.set;
  level = o.level;
  base = t.base;
  cell = o.cell;
  permanent = t.permanent;
  uses = t.uses;
}

-- what a dump has that was begun: no volume is in hand, and its tape step is next
abbrev pub begun_job : DumpOrder → List DumpRecordFields → ℕ → FirstTape → JobFields
begun_job o listed id t = record {
  port = o.port;
  time = o.time;
  places = o.volumes;
  parent = record_of listed o.parent;
  head = first_head o id t;
  spare = Some (first_head o id t);
  label = t.label;
  reel = t.reel;
  first = 0;
  filled = [];
  hand = None;
  volumes = [];
  phase = phase.Tape;
}

-- ---- what is so of it whatever stands on tapes

-- A tape that is appended to has room for the smallest part; one that is taken is counted as blank.
abbrev pub IsBlankOrRoomy : Option LabelFields → Counts → Type 0
IsBlankOrRoomy None c = HasRoom 5 2 c
IsBlankOrRoomy (Some label) c = (c.blocks ≡ 0) × (c.marks ≡ 0)

-- A first tape is in a slot of the port that is here, its dump set, its number and its uses count from 1, and it has room for the
-- smallest part.
pub record IsStart (present : ℕ → Bool) (port : PortFields) (t : FirstTape) : Type 0 where
  pub here : IsTrue (present t.reel.slot)
  pub first : port.first ≤ t.reel.slot
  pub last : t.reel.slot ≤ port.last
  pub initial : 1 ≤ t.initial
  pub tape : 1 ≤ t.tape
  pub base : length t.base ≤ base_most
  pub permanent : IsMaybe IsTapeName t.permanent
  pub uses : 1 ≤ t.uses
  pub marks : t.reel.marks ≤ t.reel.blocks
  pub room : IsBlankOrRoomy t.label (counts_on port t.reel)

-- The tape in a slot has as many records as stay, and none is bad where any stay.
pub record Stands {D : Type 0} (P : Plant D) (slot count : ℕ) (plant : D) : Type 0 where
  pub records : P.tells → count ≤ length ((state_of P plant).tape slot)
  pub whole : P.tells → 0 < count → NoBad ((state_of P plant).tape slot)

-- where a place was found, the tape in its slot has the records up to it, and none is bad
abbrev pub FoundStands : {D : Type 0} → Plant D → Appending → D → Type 0
FoundStands P NoSet plant = Unit {0}
FoundStands P (NotFound base tape) plant = Unit {0}
FoundStands P (Found p) plant = Stands P p.slot p.end plant

-- what the tape step asks of a dump that is begun
pub record IsReady {D : Type 0} (P : Plant D) (job : JobFields) (plant : D) : Type 0 where
  pub fit : IsFor P job.reel.slot (records_on job.reel) plant
  pub marks : job.reel.marks ≤ job.reel.blocks
  pub few : job.reel.blocks * 16384 ≤ job.port.capacity
  pub room : HasRoom 5 2 (with_label job.label (counts_on job.port job.reel))
  pub spare : job.spare ≡ Some job.head
  pub uses : 1 ≤ job.head.uses

-- ---- what a begin does

-- A dump was begun: it has what is due on the tape that is due, and its begin is one commit, behind the loads of the search.
pub record IsBegun {D : Type 0} (P : Plant D) (o : DumpOrder) (budb budb_after : BudbView) (old new : D) (job : JobFields) : Type 0 where
  pub tape : FirstTape
  pub is : job ≡ begun_job o budb.database.listed (id_of o budb.database) tape
  pub right : P.tells → (slots : List Slot) (whole : ℕ → Bool) → HasSlots P slots old → AreWhole P whole old → first_tape budb.database slots whole o (P.view old).log_size ≡ Ok tape
  pub form : AreChanges (begin_changes (id_of o budb.database) tape.take)
  pub database : budb_after.database ≡ after_from (begin_changes (id_of o budb.database) tape.take) budb.database
  pub keeps : P.tells → (log : List Change) → Keeps log (state_of P old).log budb → Keeps (log ++ begin_changes (id_of o budb.database) tape.take) (state_of P new).log budb_after
  pub done : DoneBehindLoads P (commits (encoded (begin_changes (id_of o budb.database) tape.take)) ∷ []) old new
  pub log_size : (P.view new).log_size ≡ length_with (P.view old).log_size (id_of o budb.database) tape.take

-- the one commit of a begin; none where it is refused
abbrev pub begin_effects : ℕ → Result FirstTape JobFault → List Effect
begin_effects id (Ok t) = commits (encoded (begin_changes id t.take)) ∷ []
begin_effects id (Err fault) = []

-- An order passes where a dump that is begun by it has a tape, and is refused as its begin is.
abbrev pub Checks : Result FirstTape JobFault → Result (Unit {0}) JobFault → Type 0
Checks told (Ok none) = (t : FirstTape) × (told ≡ Ok t)
Checks told (Err fault) = Answers {T = FirstTape} told (Err fault)

-- where a begin is refused, the order is refused by the same, unless the outside or memory refused; of one that is begun nothing is said
abbrev pub Refuses : Result FirstTape JobFault → Result JobFields JobFault → Type 0
Refuses told (Ok job) = Unit {0}
Refuses told (Err fault) = Answers {T = FirstTape} told (Err fault)
