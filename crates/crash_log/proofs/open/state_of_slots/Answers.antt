use Rattle.std.proofs.Common.{◌≡◌, ◌==◌, ℕ, List, length, sym, ◌∙◌, ap, subst, arith}
use Rattle.media_core.specs.Media.{Image}
use Rattle.crash_log.specs.Log.{successor}
use Rattle.crash_log.specs.Opened.{IsSlot, IsOpened, slot_good, opened_state}
use Rattle.crash_log.specs.declared.state.LogState.{LogState}
use Rattle.crash_log.proofs.OpenedLemmas.{opened_slots, state_file, state_limit}
use Rattle.crash_log.specs.Fit.{as_read}
use Rattle.crash_log.proofs.Reading.{still_read}
use Rattle.crash_log.proofs.open.state_of_slots.Goals as goal

pub returns-clause-opened : goal.returns-clause-opened
returns-clause-opened g c = λ told.
    let m = g.M.Media in
    let f = c.args.f in
    let now = c.read_slots.new.media in
    let first = c.in_ok-first.first in
    let second = c.in_ok-first.second in
    let seen = c.read_slots.ensures.seen told in
    let file : (m.seen c.args.media.now).file f ≡ (m.seen now).file f = sym (ap (λ (i : Image). i.file f) seen) in
    let long : c.args.long ≡ length ((m.seen now).file f) = c.requires.long told ∙ ap length file in
    subst (λ (s : LogState). IsOpened (as_read m.seen) m.seen f now s) (sym (c.choose.ensures.state ∙ ap (λ (n : ℕ). opened_state first second f c.args.limit n) long))
    (opened_slots (as_read m.seen) m.seen now f c.args.limit (still_read m.seen f now) first second (omega (arith, long, c.requires.slots))
    (subst (λ (l : List ℕ). IsSlot 0 l first) file (c.in_ok-first.ensures.first told)) (subst (λ (l : List ℕ). IsSlot 4096 l second) file (c.in_ok-first.ensures.second told)))

pub returns-clause-file : goal.returns-clause-file
returns-clause-file g c =
    let first = c.in_ok-first.first in
    let second = c.in_ok-first.second in
    ap (λ (s : LogState). s.file) c.choose.ensures.state ∙ state_file (slot_good first c.args.long) (slot_good second c.args.long) (second.turn == successor first.turn) first second c.args.f c.args.limit

pub returns-clause-limit : goal.returns-clause-limit
returns-clause-limit g c =
    let first = c.in_ok-first.first in
    let second = c.in_ok-first.second in
    ap (λ (s : LogState). s.limit) c.choose.ensures.state ∙ state_limit (slot_good first c.args.long) (slot_good second c.args.long) (second.turn == successor first.turn) first second c.args.f c.args.limit
