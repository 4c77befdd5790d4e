use Rattle.std.proofs.Common.{◌≡◌, Bool, false, replicate, List, ◌∙◌, ap, rules}
use Rattle.media_core.specs.Presence.{is_here}
use Rattle.media_core.proofs.Memory.{all_here, new_still, new_told}
use Rattle.media_core.proofs.DiskModel.{always_read, told_is_front}
use Rattle.media_core.proofs.mem.MemMedia.new.Goals as goal

pub invariant_of-result-clause-journal : goal.invariant_of-result-clause-journal
invariant_of-result-clause-journal c =
    let is : c.in_ok-away.away.items ≡ replicate c.args.files false = search rules in
    ap (λ (l : List Bool). is_here l 0) is ∙ all_here c.args.files 0 c.requires.some

pub returns-clause-present : goal.returns-clause-present
returns-clause-present c = λ k below.
    let is : c.in_ok-away.away.items ≡ replicate c.args.files false = search rules in
    ap (λ (l : List Bool). is_here l k) is ∙ all_here c.args.files k below

pub invariant_of-result-clause-reads_left : goal.invariant_of-result-clause-reads_left
invariant_of-result-clause-reads_left c = (always_read c.new-2.result.items).files

pub invariant_of-result-clause-told_last : goal.invariant_of-result-clause-told_last
invariant_of-result-clause-told_last c = (always_read c.new-2.result.items).last

pub invariant_of-result-clause-fronts : goal.invariant_of-result-clause-fronts
invariant_of-result-clause-fronts c = told_is_front c.new-2.result.items

pub returns-clause-fresh : goal.returns-clause-fresh
returns-clause-fresh c =
    record {
      files = λ k image left. new_still c.new-2.result.items image k c.new-2.ensures.items left;
      told = λ image left. new_told c.new-2.result.items image c.new-2.ensures.items left;
    }
