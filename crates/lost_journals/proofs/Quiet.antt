-- A scan leaves the tapes, and what the dumps have, as they were.
use Rattle.std.proofs.Common.{◌≡◌, ℕ, Bool, true, false, List, [], ◌∷◌, ◌++◌, refl, ap, ◌∙◌}
use Rattle.std.specs.Prelude.{nat_lt, if◌then◌else◌, Option, Some, None, Result, Ok, Err}
use Rattle.std.specs.List.{fold, flat_map}
use Rattle.plant_core.specs.Crashes.{State}
use Rattle.plant_core.specs.Effects.{come}
use Rattle.plant_effects.proofs.States.{come_append}
use Rattle.tape_config.specs.declared.port.PortFields.{PortFields}
use Rattle.tape_scan.specs.declared.sections.Sections.{Sections}
use Rattle.tape_scan.specs.declared.assembling.Found.{Found}
use Rattle.tape_answers.specs.Assembling.{found_in}
use Rattle.budb_changes.specs.declared.records.DumpRecordFields.{DumpRecordFields}
use Rattle.budb_changes.specs.declared.change.Change.TheVariants as change
use Rattle.budb_fold.specs.Database.{after, has_dump}
use Rattle.backup_replies.specs.Texts.{ok_line}
use Rattle.backup_replies.specs.Scans.{found_line}
use Rattle.backup_words.specs.declared.command.Command.TheVariants.{Tape}
use Rattle.backup_words.specs.declared.command.TapeCommand.TheVariants.{Scantape}
use Rattle.backup_session.specs.Worlds.{World, Turn, before_reply, at_moment}
use Rattle.backup_session.specs.Turns.{said, length_with}
use Rattle.backup_session.specs.Scanning.{stopped_line, left_line, port_of, slots_here, scans_of, has_wrong_parent, Step, says, recorded, added_if, then_turn, with_front, with_dump, adding, dumps_turn, then_said, tapes_turn, slots_turn, scan_turn}
use Rattle.group_commands.specs.Groups.{GroupView}
use Rattle.backup_session.specs.Machine.{done_in, turn}

pub record IsQuiet (w : World) (t : Turn) : Type 0 where
  pub tape : (come t.effects w.state).tape ≡ w.state.tape
  pub contents : t.contents ≡ w.contents

said_quiet : (w : World) (text : List ℕ) → IsQuiet w (said w text)
said_quiet w text = record { tape = refl; contents = refl }

recorded_quiet : (w : World) (d : DumpRecordFields) → IsQuiet w (recorded w d)
recorded_quiet w d = record { tape = refl; contents = refl }

either : (w : World) (b : Bool) (s t : Step) → IsQuiet w s.turn → IsQuiet w t.turn → IsQuiet w (if b then s else t).turn
either w true s t is_s is_t = is_s
either w false s t is_s is_t = is_t

one_quiet : (w : World) (full : Bool) (d : DumpRecordFields) → IsQuiet w (added_if w full d).turn
one_quiet w full d =
    either w (has_dump (after w.log).listed d.id) _ _ (said_quiet w _)
    (either w (has_wrong_parent d) _ _ (said_quiet w _) (either w full _ _ (said_quiet w []) (either w (nat_lt 268435456 (length_with w (change.Found d ∷ []))) _ _ (said_quiet w _) (recorded_quiet w d))))

both_quiet : (w : World) (s t : Turn) → IsQuiet w s → IsQuiet (before_reply w s) t → IsQuiet w (then_turn s t)
both_quiet w s t first second = record { tape = ap (λ (x : State). x.tape) (come_append s.effects t.effects w.state) ∙ second.tape ∙ first.tape; contents = second.contents ∙ first.contents }

front_quiet : (w : World) (text : List ℕ) (t : Turn) → IsQuiet w t → IsQuiet w (with_front text t)
front_quiet w text t is = record { tape = is.tape; contents = is.contents }

behind_quiet : (w : World) (t : Turn) (text : List ℕ) → IsQuiet w t → IsQuiet w (then_said t text)
behind_quiet w t text is = record { tape = is.tape; contents = is.contents }

step_quiet : (w : World) (s : Step) (d : DumpRecordFields) → IsQuiet w s.turn → IsQuiet w (with_dump w s d).turn
step_quiet w s d so_far =
    let v = before_reply w s.turn in
    let next = added_if v s.full d in
    both_quiet w s.turn (with_front (found_line d) next.turn) so_far (front_quiet v (found_line d) next.turn (one_quiet v s.full d))

steps_quiet : (w : World) (s : Step) (ds : List DumpRecordFields) → IsQuiet w s.turn → IsQuiet w (fold (with_dump w) s ds).turn
steps_quiet w s [] so_far = so_far
steps_quiet w s (d ∷ ds) so_far = steps_quiet w (with_dump w s d) ds (step_quiet w s d so_far)

adding_quiet : (w : World) (ds : List DumpRecordFields) → IsQuiet w (adding w ds).turn
unfolding adding
adding_quiet w ds = steps_quiet w (says w false []) ds (said_quiet w [])

dumps_quiet : (w : World) (dbadd : Bool) (ds : List DumpRecordFields) → IsQuiet w (dumps_turn w dbadd ds)
dumps_quiet w true ds = adding_quiet w ds
dumps_quiet w false ds = said_quiet w _

tapes_quiet : (w : World) (dbadd : Bool) (tapes : List Sections) (found : Found) → IsQuiet w (tapes_turn w dbadd tapes found)
tapes_quiet w dbadd tapes found =
    let text = flat_map stopped_line tapes in
    let t = dumps_turn w dbadd found.whole in
    let rest : IsQuiet w t = dumps_quiet w dbadd found.whole in
    behind_quiet w (then_turn (said w text) t) (flat_map left_line found.parts ++ ok_line) (both_quiet w (said w text) t (said_quiet w text) (record { tape = rest.tape; contents = rest.contents }))

slots_quiet : (w : World) (dbadd : Bool) (slots : List ℕ) → IsQuiet w (slots_turn w dbadd slots)
unfolding slots_turn
slots_quiet w dbadd slots = tapes_quiet w dbadd (scans_of w.state.tape slots) (found_in (scans_of w.state.tape slots))

scan_quiet : (w : World) (dbadd : Bool) (port : Result PortFields (List ℕ)) → IsQuiet w (scan_turn w dbadd port)
scan_quiet w dbadd (Err text) = said_quiet w text
scan_quiet w dbadd (Ok port) = slots_quiet w dbadd (slots_here w.setting.present port)

done_quiet : (w : World) (dbadd : Bool) (offset : ℕ) (o : Option GroupView) → IsQuiet w (done_in w o (Tape (Scantape dbadd offset)))
done_quiet w dbadd offset None = scan_quiet w dbadd (port_of w.setting.config (after w.log).hosts offset)
done_quiet w dbadd offset (Some g) = said_quiet w _

pub turn_quiet : (w : World) (now : ℕ) (dbadd : Bool) (offset : ℕ) → IsQuiet w (turn w now (Tape (Scantape dbadd offset)))
unfolding turn
turn_quiet w now dbadd offset =
    let s = done_quiet (at_moment w now) dbadd offset w.groups.open in
    record { tape = s.tape; contents = s.contents }
