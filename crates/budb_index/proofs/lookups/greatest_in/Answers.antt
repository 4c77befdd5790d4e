use Rattle.std.proofs.Common.{◌≡◌, ℕ, List, [], ◌∷◌, Option, length, sym, ◌∙◌, ap, arith}
use Rattle.budb_changes.specs.declared.records.DumpRecordFields.{DumpRecordFields}
use Rattle.budb_fold.specs.Lookups.{greatest_id}
use Rattle.budb_links.specs.Linked.{listed}
use Rattle.budb_index.specs.Walks.{set_left, greater}
use Rattle.budb_index.proofs.Greatest.{at_level, greatest_of_set, one_more, none_more}
use Rattle.budb_index.proofs.lookups.greatest_in.Goals as goal

pub loop-dump-init : goal.loop-dump-init
loop-dump-init g c =
    let whole = c.first_of_set-at.ensures.whole in
    record {
      stands = c.first_of_set-at.ensures.stands;
      greatest = ap (λ (l : List DumpRecordFields). greatest_id (at_level c.args.level.now l)) whole ∙ greatest_of_set (listed c.args.links.now) c.args.key.now c.args.level.now;
      cost = omega (arith, ap length whole, c.first_of_set-at.ensures.cost);
    }

pub loop-dump-preserved : goal.loop-dump-preserved
loop-dump-preserved g c =
    let level = c.args.level.now in
    let dump = c.in-Some.dump.now in
    let es = c.args.links.now.entries in
    let rest = set_left c.args.key.now c.next_of_set.new.at es in
    let left : set_left c.args.key.now c.loop-dump.at es ≡ dump ∷ rest = c.in-Some.ensures.next in
    let so_far = c.loop-dump.greatest in
    record {
      stands = c.next_of_set.ensures.stands;
      greatest = ap (λ (o : Option ℕ). greater o (greatest_id (at_level level rest))) c.greatest_with-greatest.ensures
          ∙ one_more level dump rest so_far
          ∙ sym (ap (λ (l : List DumpRecordFields). greater so_far (greatest_id (at_level level l))) left)
          ∙ c.loop-dump.invariant.greatest;
      cost = omega (arith, c.loop-dump.invariant.cost, c.next_of_set.ensures.cost);
    }

pub loop-dump-smaller : goal.loop-dump-smaller
loop-dump-smaller g c =
    let es = c.args.links.now.entries in
    let rest = set_left c.args.key.now c.next_of_set.new.at es in
    let left : set_left c.args.key.now c.loop-dump.at es ≡ c.in-Some.dump.now ∷ rest = c.in-Some.ensures.next in
    omega (arith, ap length left)

pub returns-clause-greatest : goal.returns-clause-greatest
returns-clause-greatest g c =
    let level = c.args.level.now in
    let es = c.args.links.now.entries in
    let left : set_left c.args.key.now c.loop-dump.at es ≡ [] = c.in_default.ensures.next in
    let so_far = c.loop-dump.greatest in
    sym (none_more so_far) ∙ sym (ap (λ (l : List DumpRecordFields). greater so_far (greatest_id (at_level level l))) left) ∙ c.loop-dump.invariant.greatest
