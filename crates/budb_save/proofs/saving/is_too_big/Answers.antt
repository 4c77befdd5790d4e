use Rattle.std.proofs.Common.{◌≡◌, ℕ, ◌+◌, sym, ◌∙◌, ap, arith}
use Rattle.std.specs.Prelude.{min, nat_lt}
use Rattle.tape_config.specs.declared.port.PortFields.{PortFields}
use Rattle.tape_writer.specs.Room.{taken_by}
use Rattle.budb_save.specs.Saves.{piece_count}
use Rattle.budb_save.proofs.SavingLaws.{capped, fit_few}
use Rattle.budb_save.proofs.saving.is_too_big.Goals as goal

pub returns-clause-is : goal.returns-clause-is
returns-clause-is c =
    let port = c.args.port.now in
    let n = c.min-count.result in
    let is : n ≡ min c.args.count 4000000001 = omega (arith, c.min-count.ensures) in
    ap (λ (q : PortFields). nat_lt q.capacity (taken_by q (piece_count n + 2) 2)) c.fields-fields.ensures.value ∙ ap (λ (m : ℕ). nat_lt port.capacity (taken_by port (piece_count m + 2) 2)) is
    ∙ capped port c.args.count c.fields-fields.ensures.within.capacity

pub returns-clause-few : goal.returns-clause-few
returns-clause-few c = λ fits. fit_few c.args.port.now c.args.count c.fields-fields.ensures.within.capacity (sym (returns-clause-is c) ∙ fits)
