use Rattle.std.proofs.Common.{length, sym, ◌∙◌, ap, arith}
use Rattle.budb_fold.specs.Database.{is_initial, without}
use Rattle.budb_index.proofs.Initials.{fewer, set_without}
use Rattle.budb_index.proofs.index.Index.drop_set.Goals as goal

pub loop-id-smaller : goal.loop-id-smaller
loop-id-smaller g c =
    let own = c.first_of_initial.ensures.some c.in-Some.id c.in-Some.is in
    let less = fewer c.in-Some.id c.loop-id.self.listed own.dump own.found in
    let now = ap length c.drop_dump.ensures.listed in
    omega (arith, less, now)

pub loop-id-preserved : goal.loop-id-preserved
loop-id-preserved g c =
    let own = c.first_of_initial.ensures.some c.in-Some.id c.in-Some.is in
    record {
      listed = ap (without (is_initial c.args.initial_id)) c.drop_dump.ensures.listed ∙ set_without c.args.initial_id c.in-Some.id c.loop-id.self.listed own.each ∙ c.loop-id.invariant.listed;
      records = omega (arith, c.loop-id.invariant.records, c.drop_dump.ensures.records);
      frags = omega (arith, c.loop-id.invariant.frags, c.drop_dump.ensures.frags);
    }

pub returns-clause-listed : goal.returns-clause-listed
returns-clause-listed g c =
    sym (c.first_of_initial.ensures.none c.in_default.is) ∙ c.loop-id.invariant.listed
