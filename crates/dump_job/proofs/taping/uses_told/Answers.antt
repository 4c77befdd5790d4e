use Rattle.std.proofs.Common.{◌≡◌, ◌<◌, sym, ap, subst, length, arith}
use Rattle.std.specs.Prelude.{slice_index_or}
use Rattle.plant_core.specs.declared.record.Kind.{Kind}
use Rattle.plant_core.specs.Records.{Record, Shows}
use Rattle.plant_effects.specs.Runs.{state_of}
use Rattle.tape_text.specs.Items.{Nothing, ReadsAs}
use Rattle.tape_writer.specs.Filling.{uses_in}
use Rattle.dump_job.proofs.Uses.{read_length, item_at, past_two, block_uses, shown_block, shown_other}
use Rattle.dump_job.proofs.taping.uses_told.Goals as goal

pub returns-then-tape_len-lt3-clause-uses : goal.returns-then-tape_len-lt3-clause-uses
returns-then-tape_len-lt3-clause-uses g c = λ tells k items at read.
    let P = g.P.Plant in
    let old = c.args.plant.now in
    let same : (P.view old).records ≡ length ((state_of P old).tape k) = g.met.P.Plant.records_told old k tells c.requires.sound at in
    let long = read_length ((state_of P old).tape k) items read in
    let told : c.tape_len.result ≡ (P.view old).records = c.tape_len.ensures in
    let few : length items < 3 = omega arith in
    sym (ap uses_in (past_two items few))

pub returns-in-Block-clause-uses : goal.returns-in-Block-clause-uses
returns-in-Block-clause-uses g c = λ tells k items at read.
    let P = g.P.Plant in
    let into = c.get_record.new.into in
    let shows = c.in_ok-kind.ensures.found tells k at in
    let reads = item_at ((state_of P c.args.plant.now).tape k) items 2 shows.found read shows.is in
    let block = shown_block shows.found into (subst (λ (q : Kind). Shows shows.found q into) c.in-Block.is shows.shown) in
    block_uses into c.uses_of.result (slice_index_or items 2 Nothing) c.uses_of.ensures.head c.uses_of.ensures.other c.one_frame.ensures (subst (λ (r : Record). ReadsAs r (slice_index_or items 2 Nothing)) block reads)

pub returns-in-Mark-clause-uses : goal.returns-in-Mark-clause-uses
returns-in-Mark-clause-uses g c = λ tells k items at read.
    let P = g.P.Plant in
    let into = c.get_record.new.into in
    let shows = c.in_ok-kind.ensures.found tells k at in
    let reads = item_at ((state_of P c.args.plant.now).tape k) items 2 shows.found read shows.is in
    shown_other shows.found c.in_ok-kind.kind into (slice_index_or items 2 Nothing) shows.shown (λ is. let e = c.in-Mark.is in absurd (cc)) reads

pub returns-in-Bad-clause-uses : goal.returns-in-Bad-clause-uses
returns-in-Bad-clause-uses g c = λ tells k items at read.
    let P = g.P.Plant in
    let into = c.get_record.new.into in
    let shows = c.in_ok-kind.ensures.found tells k at in
    let reads = item_at ((state_of P c.args.plant.now).tape k) items 2 shows.found read shows.is in
    shown_other shows.found c.in_ok-kind.kind into (slice_index_or items 2 Nothing) shows.shown (λ is. let e = c.in-Bad.is in absurd (cc)) reads
