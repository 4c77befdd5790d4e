use Rattle.std.proofs.Common.{◌++◌, length, take, sym, ◌∙◌, ap, arith, rules}
use Rattle.std.proofs.lemmas.List.{take_all}
use Rattle.media_core.proofs.DiskModel.{always_read, told_is_front}
use Rattle.media_core.proofs.Memory.{failed_once, tell_shows, tell_leads, tell_leads_as, tell_absent}
use Rattle.media_core.proofs.mem.MemMediaMedia.tell.Goals as goal

pub invariant_of-self-in-Ok-clause-files_kept : goal.invariant_of-self-in-Ok-clause-files_kept
invariant_of-self-in-Ok-clause-files_kept c = λ k.
    let m = c.args.self.now in
    let shows = tell_shows m.past.items c.keep_tell.new.past.items c.args.piece.now c.in-Ok.ensures.past in
    m.files_kept k ∙ sym (ap (λ s. s.file k) shows)

pub invariant_of-self-in-Ok-clause-told_kept : goal.invariant_of-self-in-Ok-clause-told_kept
invariant_of-self-in-Ok-clause-told_kept c =
    let m = c.args.self.now in
    let shows = tell_shows m.past.items c.keep_tell.new.past.items c.args.piece.now c.in-Ok.ensures.past in
    c.in-Ok.ensures.ok ∙ ap (λ l. l ++ c.args.piece.now) m.told_kept ∙ sym (ap (λ s. s.told) shows)

pub invariant_of-self-in-Ok-clause-reads_left : goal.invariant_of-self-in-Ok-clause-reads_left
invariant_of-self-in-Ok-clause-reads_left c = (always_read c.keep_tell.new.past.items).files

pub invariant_of-self-in-Ok-clause-told_last : goal.invariant_of-self-in-Ok-clause-told_last
invariant_of-self-in-Ok-clause-told_last c = (always_read c.keep_tell.new.past.items).last

pub invariant_of-self-in-Ok-clause-fronts : goal.invariant_of-self-in-Ok-clause-fronts
invariant_of-self-in-Ok-clause-fronts c = told_is_front c.keep_tell.new.past.items

pub invariant_of-self-in-Ok-clause-absent : goal.invariant_of-self-in-Ok-clause-absent
invariant_of-self-in-Ok-clause-absent c = tell_absent (length c.args.self.now.away.items) c.args.self.now.past.items _ _ c.args.self.now.absent c.in-Ok.ensures.past

pub returns-then-eq-2-clause-crash : goal.returns-then-eq-2-clause-crash
returns-then-eq-2-clause-crash c = tell_leads c.args.self.now _ c.args.piece.now c.in-Ok.ensures.past

pub returns-else-eq-2-clause-crash : goal.returns-else-eq-2-clause-crash
returns-else-eq-2-clause-crash c =
    tell_leads_as c.args.self.now _ c.args.piece.now (take (length c.args.piece.now) c.args.piece.now) (take_all (length c.args.piece.now) c.args.piece.now (omega arith)) c.in-Ok.ensures.past

pub returns-in-Err-clause-cause : goal.returns-in-Err-clause-cause
returns-in-Err-clause-cause c = failed_once _ c.args.self.now.failures.tell_faults c.begin_tell-turn.new.self.tell_faults c.refuse_tell.new.self.tell_faults c.begin_tell-turn.ensures.later c.refuse_tell.ensures.later (search rules)
