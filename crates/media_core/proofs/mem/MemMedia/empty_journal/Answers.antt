use Rattle.std.proofs.Common.{◌≢◌, sym, ◌∙◌, arith}
use Rattle.media_core.specs.Events.{after, blank}
use Rattle.media_core.proofs.Emptying.{emptied_shown, same_left}
use Rattle.media_core.proofs.DiskModel.{always_read, told_is_front}
use Rattle.media_core.proofs.mem.MemMedia.empty_journal.Goals as goal

pub invariant_of-self-clause-files_kept : goal.invariant_of-self-clause-files_kept
invariant_of-self-clause-files_kept c =
    let m = c.args.self.now in
    emptied_shown m.files.items c.empty_first.new.files.items m.past.items c.empty_in_all.new.past.items m.files_kept c.empty_first.ensures.first c.empty_first.ensures.others c.empty_in_all.ensures

pub invariant_of-self-clause-told_kept : goal.invariant_of-self-clause-told_kept
invariant_of-self-clause-told_kept c = c.args.self.now.told_kept ∙ sym c.empty_in_all.ensures.told

pub invariant_of-self-clause-absent : goal.invariant_of-self-clause-absent
invariant_of-self-clause-absent c = λ k bytes past left.
    let m = c.args.self.now in
    let some = m.some_files in
    let ne : k ≢ 0 = λ is. absurd (omega (arith, is, past, some)) in
    m.absent k bytes past (same_left (after m.past.items blank) (after c.empty_in_all.new.past.items blank) k bytes (c.empty_in_all.ensures.others k ne) left)

pub invariant_of-self-clause-reads_left : goal.invariant_of-self-clause-reads_left
invariant_of-self-clause-reads_left c = (always_read c.empty_in_all.new.past.items).files

pub invariant_of-self-clause-told_last : goal.invariant_of-self-clause-told_last
invariant_of-self-clause-told_last c = (always_read c.empty_in_all.new.past.items).last

pub invariant_of-self-clause-fronts : goal.invariant_of-self-clause-fronts
invariant_of-self-clause-fronts c = told_is_front c.empty_in_all.new.past.items
