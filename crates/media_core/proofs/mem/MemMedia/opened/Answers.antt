use Rattle.std.proofs.Common.{◌≡◌, length, arith, rules}
use Rattle.media_core.proofs.Files.{file_bytes_past}
use Rattle.media_core.proofs.Memory.{opened_absent, opened_still, opened_told}
use Rattle.media_core.proofs.DiskModel.{always_read, told_is_front}
use Rattle.media_core.proofs.mem.MemMedia.opened.Goals as goal

pub invariant_of-result-clause-absent : goal.invariant_of-result-clause-absent
invariant_of-result-clause-absent c =
    let count : length c.in_ok-copy.copy.items ≡ length c.args.away.items = search rules in
    opened_absent (length c.args.away.items) c.new-past.result.items _ c.in_ok-copy.copy c.in_ok-told_copy.told_copy c.new-past.ensures.items c.in_ok-push.ensures.items
    (λ k past. file_bytes_past c.in_ok-copy.copy.items k (omega (arith, count, past)))

pub invariant_of-result-clause-reads_left : goal.invariant_of-result-clause-reads_left
invariant_of-result-clause-reads_left c = (always_read c.push.new.self.items).files

pub invariant_of-result-clause-told_last : goal.invariant_of-result-clause-told_last
invariant_of-result-clause-told_last c = (always_read c.push.new.self.items).last

pub invariant_of-result-clause-fronts : goal.invariant_of-result-clause-fronts
invariant_of-result-clause-fronts c = told_is_front c.push.new.self.items

pub returns-clause-fresh : goal.returns-clause-fresh
returns-clause-fresh c =
    record {
      files = λ k image left. opened_still c.new-past.result.items c.push.new.self.items c.in_ok-copy.copy c.in_ok-told_copy.told_copy c.new-past.ensures.items c.in_ok-push.ensures.items image k left;
      told = λ image left. opened_told c.new-past.result.items c.push.new.self.items c.in_ok-copy.copy c.in_ok-told_copy.told_copy c.new-past.ensures.items c.in_ok-push.ensures.items image left;
    }
