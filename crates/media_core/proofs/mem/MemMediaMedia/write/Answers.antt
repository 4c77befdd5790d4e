use Rattle.std.proofs.Common.{◌<◌, ◌≤◌, length, sym, ◌∙◌, ap, arith, rules}
use Rattle.media_core.specs.Events.{file_bytes}
use Rattle.media_core.specs.Presence.{here_below}
use Rattle.media_core.proofs.DiskModel.{always_read, told_is_front}
use Rattle.media_core.proofs.Memory.{failed_once, write_shows, write_told, write_leads, write_absent}
use Rattle.media_core.proofs.mem.MemMediaMedia.write.Goals as goal

pub keep_write-requires-clause-here : goal.keep_write-requires-clause-here
keep_write-requires-clause-here c =
    let away : c.args.f < length c.args.self.now.away.items = here_below c.args.self.now.away.items c.args.f c.requires.here in
    omega (arith, c.args.self.now.same_count)

pub invariant_of-self-in-Ok-clause-files_kept : goal.invariant_of-self-in-Ok-clause-files_kept
invariant_of-self-in-Ok-clause-files_kept c =
    let m = c.args.self.now in
    let within : c.args.at ≤ length (file_bytes m.files.items c.args.f) = omega (arith, ap length (m.files_kept c.args.f), c.requires.at) in
    write_shows m.files.items c.keep_write.new.files.items m.past.items c.keep_write.new.past.items c.args.f c.args.at c.args.from.now m.files_kept within c.in-Ok.ensures.ok c.in-Ok.ensures.past

pub invariant_of-self-in-Ok-clause-told_kept : goal.invariant_of-self-in-Ok-clause-told_kept
invariant_of-self-in-Ok-clause-told_kept c = c.args.self.now.told_kept ∙ sym (write_told c.args.self.now.past.items _ _ _ _ c.in-Ok.ensures.past)

pub invariant_of-self-in-Ok-clause-absent : goal.invariant_of-self-in-Ok-clause-absent
invariant_of-self-in-Ok-clause-absent c =
    let away : c.args.f < length c.args.self.now.away.items = here_below c.args.self.now.away.items c.args.f c.requires.here in
    write_absent (length c.args.self.now.away.items) c.args.self.now.past.items _ _ _ _ away c.args.self.now.absent c.in-Ok.ensures.past

pub returns-then-eq-2-clause-told : goal.returns-then-eq-2-clause-told
returns-then-eq-2-clause-told c = write_told c.args.self.now.past.items _ _ _ _ c.in-Ok.ensures.past

pub returns-else-eq-2-clause-told : goal.returns-else-eq-2-clause-told
returns-else-eq-2-clause-told c = write_told c.args.self.now.past.items _ _ _ _ c.in-Ok.ensures.past

pub returns-then-eq-2-clause-crash : goal.returns-then-eq-2-clause-crash
returns-then-eq-2-clause-crash c = write_leads c.args.self.now _ c.args.f c.args.at c.args.from.now c.requires.at c.in-Ok.ensures.past

pub returns-else-eq-2-clause-crash : goal.returns-else-eq-2-clause-crash
returns-else-eq-2-clause-crash c = write_leads c.args.self.now _ c.args.f c.args.at c.args.from.now c.requires.at c.in-Ok.ensures.past

pub invariant_of-self-in-Ok-clause-reads_left : goal.invariant_of-self-in-Ok-clause-reads_left
invariant_of-self-in-Ok-clause-reads_left c = (always_read c.keep_write.new.past.items).files

pub invariant_of-self-in-Ok-clause-told_last : goal.invariant_of-self-in-Ok-clause-told_last
invariant_of-self-in-Ok-clause-told_last c = (always_read c.keep_write.new.past.items).last

pub invariant_of-self-in-Ok-clause-fronts : goal.invariant_of-self-in-Ok-clause-fronts
invariant_of-self-in-Ok-clause-fronts c = told_is_front c.keep_write.new.past.items

pub returns-in-Err-clause-cause : goal.returns-in-Err-clause-cause
returns-in-Err-clause-cause c = failed_once _ c.args.self.now.failures.faults c.begin-turn.new.self.faults c.refuse.new.self.faults c.begin-turn.ensures.later c.refuse.ensures.later (search rules)
