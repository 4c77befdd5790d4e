-- What a begin does: loads, and then one commit.
use Rattle.std.proofs.Common.{◌≡◌, ℕ, ◌+◌, ◌*◌, ◌≤◌, List, [], ◌∷◌, ◌++◌, map, length, refl, sym, ◌∙◌, ap, subst, arith, length-append}
use Rattle.std.specs.Prelude.{Option, Some, None, Bool, IsTrue}
use Rattle.byte_formats.specs.Bytes.{four}
use Rattle.plant_core.specs.declared.plant.Plant.{Ghosts as Plant}
use Rattle.plant_core.specs.Effects.{Effect, commits, settles}
use Rattle.plant_core.specs.Records.{Record, NoBad}
use Rattle.plant_effects.specs.Runs.{state_of, Done, Leaves, StaysQuiet}
use Rattle.plant_effects.proofs.Joining.{done_both, leaves_both, leaves_more}
use Rattle.tape_config.specs.declared.port.PortFields.{PortFields}
use Rattle.tape_frames.specs.declared.label.LabelFields.{LabelFields}
use Rattle.tape_writer.specs.Room.{HasRoom, with_label}
use Rattle.budb_changes.specs.declared.change.Change.{Change}
use Rattle.budb_changes.specs.declared.records.DumpRecordFields.{DumpRecordFields}
use Rattle.budb_changes.specs.Bytes.{encoded, encoded_change, kind_of, fields_of}
use Rattle.budb.specs.Views.{BudbView}
use Rattle.budb.specs.Kept.{Keeps}
use Rattle.tape_scan.specs.Looking.{Loads, LeavesLoads}
use Rattle.tape_scan.proofs.Looking.{settling_keeps_log}
use Rattle.dump_job.specs.declared.order.DumpOrder.{DumpOrder}
use Rattle.dump_job.specs.declared.first_tapes.FirstTape.{FirstTape}
use Rattle.dump_job.specs.declared.fields.JobFields.{JobFields}
use Rattle.dump_job.specs.Reels.{records_on}
use Rattle.dump_job.specs.Faults.{DoneBehindLoads, LeavesBehindLoads}
use Rattle.dump_job.specs.Beginning.{begin_changes, length_with, begun_job, fresh, IsBlankOrRoomy, IsStart, Stands, IsReady}

-- ---- how long the changes of a begin are

four_long : (n : ℕ) → length (four n) ≡ 4
unfolding four
four_long n = refl

begin_alone : (id : ℕ) → length (encoded (begin_changes id None)) ≡ 5
unfolding encoded encoded_change kind_of fields_of
begin_alone id = omega (arith, four_long id, length-append (10 ∷ four id) [])

begin_taking : (id initial : ℕ) → length (encoded (begin_changes id (Some initial))) ≡ 10
unfolding encoded encoded_change kind_of fields_of
begin_taking id initial = omega (arith, four_long id, four_long initial, length-append (10 ∷ four id) ((11 ∷ four initial) ++ []), length-append (11 ∷ four initial) [])

pub length_alone : (size id : ℕ) → size + 5 ≡ length_with size id None
length_alone size id = sym (ap (λ (n : ℕ). size + n) (begin_alone id))

pub length_taking : (size id initial : ℕ) → size + 5 + 5 ≡ length_with size id (Some initial)
length_taking size id initial = let long = begin_taking id initial in omega (arith, long)

-- ---- room

few_by : (blocks more capacity : ℕ) → (blocks + 5) * 16384 + more ≤ capacity → blocks * 16384 ≤ capacity
few_by blocks more capacity room = omega (arith, room)

room_few : (port : PortFields) (blocks marks : ℕ) → HasRoom 5 2 (record { port = port; blocks = blocks; marks = marks }) → blocks * 16384 ≤ port.capacity
room_few port blocks marks room = few_by blocks ((marks + 2) * port.filemark) port.capacity room

start_room : (port : PortFields) (label : Option LabelFields) (blocks marks : ℕ) → IsBlankOrRoomy label (record { port = port; blocks = blocks; marks = marks }) → HasRoom 6 3 (fresh port)
    → HasRoom 5 2 (with_label label (record { port = port; blocks = blocks; marks = marks }))
start_room port None blocks marks room least = room
start_room port (Some l) blocks marks room least = rw (room.0, room.1) least

start_few : (port : PortFields) (label : Option LabelFields) (blocks marks : ℕ) → IsBlankOrRoomy label (record { port = port; blocks = blocks; marks = marks }) → blocks * 16384 ≤ port.capacity
start_few port None blocks marks room = room_few port blocks marks room
start_few port (Some l) blocks marks room = let none : blocks ≡ 0 = room.0 in omega (arith, none)

-- ---- loads and then a commit

module _ {D : Type 0} (P : Plant D) where
  pub keeps_loaded : (log : List Change) (budb : BudbView) (old mid : D) → P.tells → Loads P old mid → Keeps log (state_of P old).log budb → Keeps log (state_of P mid).log budb
  keeps_loaded log budb old mid tells loads keeps = subst (λ (bytes : List ℕ). Keeps log bytes budb) (sym ((loads.done.state tells).log ∙ settling_keeps_log loads.away (state_of P old))) keeps

  pub done_behind : (es : List Effect) (old mid new : D) → Loads P old mid → Done P es mid new → DoneBehindLoads P es old new
  done_behind es old mid new loads done = record { away = loads.away; done = done_both P (map settles loads.away) es old mid new loads.done done }

  pub leaves_behind : (es : List Effect) (old mid new : D) → Loads P old mid → Leaves P es mid new → LeavesBehindLoads P es old new
  leaves_behind es old mid new loads leaves = record { away = loads.away; leaves = leaves_both P (map settles loads.away) es old mid new loads.done loads.leaves leaves }

  pub leaves_loads_alone : (es : List Effect) (old new : D) → LeavesLoads P old new → LeavesBehindLoads P es old new
  leaves_loads_alone es old new left = record { away = left.away; leaves = leaves_more P (map settles left.away) es old new left.leaves }

  -- a commit leaves what stands on tapes
  pub committed_tape : (bytes : List ℕ) (k : ℕ) (old new : D) → P.tells → Done P (commits bytes ∷ []) old new → (state_of P new).tape k ≡ (state_of P old).tape k
  committed_tape bytes k old new tells done = (done.state tells).tape k

  -- the conditions of the tape step
  pub ready : (o : DumpOrder) (listed : List DumpRecordFields) (id : ℕ) (t : FirstTape) (bytes : List ℕ) (mid new : D) (job : JobFields) → IsStart (P.view mid).present o.port t
      → Stands P t.reel.slot (records_on t.reel) mid → HasRoom 6 3 (fresh o.port) → Done P (commits bytes ∷ []) mid new → StaysQuiet P mid new → job ≡ begun_job o listed id t → IsReady P job new
  ready o listed id t bytes mid new job start stands least done stays is = subst (λ (j : JobFields). IsReady P j new) (sym is) (record {
    fit = record {
      sound = done.sound;
      here = subst (λ (present : ℕ → Bool). IsTrue (present t.reel.slot)) (sym stays.stays.present) start.here;
      records = λ tells. subst (λ (tape : List Record). records_on t.reel ≤ length tape) (sym (committed_tape bytes t.reel.slot mid new tells done)) (stands.records tells);
      whole = λ tells some. subst NoBad (sym (committed_tape bytes t.reel.slot mid new tells done)) (stands.whole tells some);
    };
    marks = start.marks;
    few = start_few o.port t.label t.reel.blocks t.reel.marks start.room;
    room = start_room o.port t.label t.reel.blocks t.reel.marks start.room least;
    spare = refl;
    uses = start.uses;
  })
