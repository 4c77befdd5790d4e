-- A command's turn doesn't ask what is settled: of two worlds of which reads give the same it is the same.
use Rattle.std.proofs.Common.{◌≡◌, ℕ, ◌<◌, Some, None, List, [], ◌∷◌, refl, ap, subst}
use Rattle.std.specs.Prelude.{Option, IsTrue}
use Rattle.plant_core.specs.Crashes.{State, seen_in}
use Rattle.plant_core.specs.Effects.{tells, come}
use Rattle.plant_core.specs.Records.{Record}
use Rattle.tape_answers.specs.Slots.{slots_of}
use Rattle.budb_changes.specs.declared.records.DumpRecordFields.{DumpRecordFields}
use Rattle.budb_fold.specs.Database.{after}
use Rattle.archive_model.specs.Archives.{Holds}
use Rattle.dump_laws.specs.Rest.{settled_whole}
use Rattle.dump_laws.proofs.ReadLaws.{ReadsAlike, reads_come, alike_at_rest}
use Rattle.backup_words.specs.declared.command.Command.{Command}
use Rattle.backup_words.specs.declared.command.Command.TheVariants.{Database, Tape, Cell, Dump, Group, Restore}
use Rattle.backup_words.specs.declared.command.GroupCommand.{GroupCommand}
use Rattle.backup_words.specs.declared.command.GroupCommand.TheVariants.{Together, Kill, End, Jobs}
use Rattle.group_commands.specs.Groups.{GroupView}
use Rattle.backup_session.specs.Asks.{asks}
use Rattle.backup_session.specs.Bounded.{HasTapes}
use Rattle.backup_session.specs.Dumps.{scene_of, answered}
use Rattle.backup_session.specs.Groups.{ended_turn, group_in, in_group, group_alone}
use Rattle.backup_session.specs.Machine.{carried, alone, done_in, turn}
use Rattle.backup_session.specs.Restores.{archive_turn}
use Rattle.backup_session.specs.Scanning.{adding, slots_turn}
use Rattle.backup_session.specs.Tapes.{tape_turn}
use Rattle.backup_session.specs.Verdicts.{verdict}
use Rattle.backup_session.specs.Worlds.{World, Turn, archive_of, after_turn, at_moment}
use Rattle.script_journals.specs.Worlds.{HasGroupForm}
use Rattle.session_archives.specs.Held.{HoldsWorld}
use Rattle.session_archives.specs.Ready.{IsInOrder, IsReady, FitsBackFor}
use Rattle.session_archives.proofs.Images.{world_at_rest}
use Rattle.session_archives.proofs.DumpReads.{dump_same}
use Rattle.session_archives.proofs.GroupReads.{group_same}
use Rattle.session_archives.proofs.ReadingBack.{where_rested}

-- ---- commands

module _ (w : World) (t : State) (alike : ReadsAlike w.state t) where
  abbrev there : World
  there = record w { state = t }

  group_alone_same : (command : GroupCommand) → group_alone there command ≡ group_alone w command
  group_alone_same (Together schedule) = refl
  group_alone_same (Kill job after) = refl
  group_alone_same End = refl
  group_alone_same Jobs = refl

  alone_same : (command : Command) → alone there command ≡ alone w command
  unfolding adding slots_turn
  alone_same (Database command) = ap (λ (f : ℕ → List Record). carried (record w { state = record t { tape = f } }) (verdict (after w.log) command)) alike.tape
  alone_same (Tape command) = ap (λ (f : ℕ → List Record). tape_turn (record w { state = record t { tape = f } }) command) alike.tape
  alone_same (Cell command) = refl
  alone_same (Dump command) = ap (answered w) (dump_same (scene_of w) t alike command)
  alone_same (Group command) = group_alone_same command
  alone_same (Restore command) = ap (λ (f : ℕ → List Record). archive_turn (record w { state = record t { tape = f } }) command) alike.tape

  group_in_same : (g : GroupView) (command : GroupCommand) → group_in there g command ≡ group_in w g command
  group_in_same g (Together schedule) = refl
  group_in_same g (Kill job after) = refl
  group_in_same g End = ap (ended_turn w) (group_same (scene_of w) t alike g)
  group_in_same g Jobs = refl

  in_same : (g : GroupView) (command : Command) → in_group there g command ≡ in_group w g command
  in_same g (Database command) = refl
  in_same g (Tape command) = refl
  in_same g (Cell command) = refl
  in_same g (Dump command) = refl
  in_same g (Group command) = group_in_same g command
  in_same g (Restore command) = refl

  done_same : (o : Option GroupView) (command : Command) → done_in there o command ≡ done_in w o command
  done_same None command = alone_same command
  done_same (Some g) command = in_same g command

pub turn_same : (w : World) (t : State) (now : ℕ) (command : Command) → ReadsAlike w.state t → turn (record w { state = t }) now command ≡ turn w now command
unfolding turn
turn_same w t now command alike = done_same (at_moment w now) t alike w.groups.open command

-- ---- a world of which not all is settled

-- the same world, settled whole
abbrev pub at_rest : World → World
at_rest w = record w { state = settled_whole w.state }

module _ (w : World) (now : ℕ) (command : Command) where
  abbrev its_turn : Turn
  its_turn = turn w now command

  turn_at_rest : turn (at_rest w) now command ≡ its_turn
  turn_at_rest = turn_same w (settled_whole w.state) now command (alike_at_rest w.state)

  back : ReadsAlike (after_turn w its_turn).state (after_turn (at_rest w) its_turn).state
  back = reads_come (tells its_turn.reply ∷ []) (come its_turn.effects w.state) (come its_turn.effects (settled_whole w.state)) (reads_come its_turn.effects w.state (settled_whole w.state) (alike_at_rest w.state))

  -- the plant holds the archive of the world, as reads give it
  pub holds_at_rest : (records : List DumpRecordFields) → Holds (seen_in w.state) (archive_of w) records → ((k : ℕ) → IsTrue (w.setting.present k) → k < w.setting.slots) → HasTapes w → HasGroupForm w.groups.open → HoldsWorld (at_rest w)
  holds_at_rest records held within has group = world_at_rest (at_rest w) records held (record { log = refl; tapes = λ k. refl }) within (record { slots = has.slots; records = has.records }) group

  pub ready_at_rest : IsReady (at_moment w now) → IsReady (at_moment (at_rest w) now)
  ready_at_rest ready = record { order = ready.order; name = ready.name; ports = ready.ports; apart = ready.apart }

  -- what is read back fits it too
  pub fits_at_rest : FitsBackFor (at_moment w now) command → FitsBackFor (at_moment (at_rest w) now) command
  fits_at_rest fits = where_rested (at_moment w now) (asks command) fits

  -- so it does behind the command
  pub reads_hold : HoldsWorld (after_turn (at_rest w) (turn (at_rest w) now command)) → let v = after_turn w (turn w now command) in (behind : List DumpRecordFields) × Holds (seen_in v.state) (archive_of v) behind
  reads_hold held =
      let there : HoldsWorld (after_turn (at_rest w) its_turn) = subst (λ (t : Turn). HoldsWorld (after_turn (at_rest w) t)) turn_at_rest held in (
        there.records,
        subst (λ (y : List ℕ × (ℕ → List Record) × List ℕ). Holds (record { log = Some y.0; tape = y.1; told = y.2 }) (record { log = its_turn.log; slots = slots_of w.setting.slots w.setting.present y.1; contents = its_turn.contents }) there.records)
            (λ i. (back.log i, back.tape i, back.told i)) there.holds.seen,
      )

  -- and the world is ready behind it where it is so settled whole
  pub reads_ready : IsReady (after_turn (at_rest w) (turn (at_rest w) now command)) → IsReady (after_turn w (turn w now command))
  reads_ready ready =
      let there : IsReady (after_turn (at_rest w) its_turn) = subst (λ (t : Turn). IsReady (after_turn (at_rest w) t)) turn_at_rest ready in
      record {
        order = subst (λ (f : ℕ → List Record). IsInOrder (after_turn w its_turn).cell its_turn.time (record { log = its_turn.log; slots = slots_of w.setting.slots w.setting.present f; contents = its_turn.contents })) back.tape there.order;
        name = there.name;
        ports = there.ports;
        apart = there.apart;
      }
