use Rattle.std.proofs.Common.{rules, ◌≡◌, length, sym, ◌∙◌, ap}
use Rattle.media_core.specs.Events.{seen_after}
use Rattle.media_core.proofs.DiskModel.{always_read, told_is_front}
use Rattle.media_core.proofs.Memory.{failed_once, sync_leads, sync_keeps, sync_shows, sync_absent}
use Rattle.media_core.proofs.mem.MemMediaMedia.sync.Goals as goal

pub invariant_of-self-in-Ok-clause-files_kept : goal.invariant_of-self-in-Ok-clause-files_kept
invariant_of-self-in-Ok-clause-files_kept c = λ k.
    let m = c.args.self.now in
    let shows : seen_after c.keep_sync.new.past.items ≡ seen_after m.past.items = ap seen_after c.in-Ok.ensures.ok ∙ sync_shows m.past.items c.args.f in
    m.files_kept k ∙ sym (ap (λ s. s.file k) shows)

pub invariant_of-self-in-Ok-clause-told_kept : goal.invariant_of-self-in-Ok-clause-told_kept
invariant_of-self-in-Ok-clause-told_kept c =
    let m = c.args.self.now in
    let shows : seen_after c.keep_sync.new.past.items ≡ seen_after m.past.items = ap seen_after c.in-Ok.ensures.ok ∙ sync_shows m.past.items c.args.f in
    m.told_kept ∙ sym (ap (λ s. s.told) shows)

pub invariant_of-self-in-Ok-clause-absent : goal.invariant_of-self-in-Ok-clause-absent
invariant_of-self-in-Ok-clause-absent c = sync_absent (length c.args.self.now.away.items) c.args.self.now.past.items _ _ c.args.self.now.absent c.in-Ok.ensures.ok

pub returns-in-Ok-clause-durable : goal.returns-in-Ok-clause-durable
returns-in-Ok-clause-durable c = sync_keeps c.args.self.now.past.items _ c.args.f c.in-Ok.ensures.ok

pub returns-in-Ok-clause-crash : goal.returns-in-Ok-clause-crash
returns-in-Ok-clause-crash c = sync_leads c.args.self.now _ c.args.f c.in-Ok.ensures.ok

pub invariant_of-self-in-Ok-clause-reads_left : goal.invariant_of-self-in-Ok-clause-reads_left
invariant_of-self-in-Ok-clause-reads_left c = (always_read c.keep_sync.new.past.items).files

pub invariant_of-self-in-Ok-clause-told_last : goal.invariant_of-self-in-Ok-clause-told_last
invariant_of-self-in-Ok-clause-told_last c = (always_read c.keep_sync.new.past.items).last

pub invariant_of-self-in-Ok-clause-fronts : goal.invariant_of-self-in-Ok-clause-fronts
invariant_of-self-in-Ok-clause-fronts c = told_is_front c.keep_sync.new.past.items

pub returns-in-Err-clause-cause : goal.returns-in-Err-clause-cause
returns-in-Err-clause-cause c = failed_once _ c.args.self.now.failures.faults c.begin.new.self.faults c.refuse.new.self.faults c.begin.ensures.later c.refuse.ensures.later (search rules)
