use Rattle.std.proofs.Common.{List, [], ◌∷◌, ◌++◌, length, take, sym, ◌∙◌, ap, arith}
use Rattle.budb_changes.specs.declared.records.DumpRecordFields.{DumpRecordFields}
use Rattle.budb_links.specs.Frags.{dump_frags}
use Rattle.budb_fold.specs.Lookups.{record_of}
use Rattle.budb_index.proofs.Once.{once_from}
use Rattle.budb_index.proofs.Taking.{one_further, frags_further, frags_within, fresh_before}
use Rattle.budb_index.proofs.index.Index.fill.Goals as goal

pub insert-requires-clause-frag_room : goal.insert-requires-clause-frag_room
insert-requires-clause-frag_room g c =
    let own = ap (λ (d : DumpRecordFields). length (dump_frags d)) c.in_ok-clone.ensures.cases in
    let within = frags_within c.args.listed.now c.loop-dump.dump-index c.dump-item.result c.loop-dump-test.true c.dump-item.is in
    omega (arith, own, within, c.loop-dump.invariant.frags)

pub insert-requires-clause-fresh : goal.insert-requires-clause-fresh
insert-requires-clause-fresh g c =
    let i = c.loop-dump.dump-index in
    let xs = c.args.listed.now in
    ap (λ (l : List DumpRecordFields). record_of l c.in_ok-clone.field-0.id) c.loop-dump.invariant.listed
    ∙ ap (λ (d : DumpRecordFields). record_of (take i xs) d.id) c.in_ok-clone.ensures.cases
    ∙ fresh_before xs i c.dump-item.result (once_from xs c.requires.once) c.loop-dump-test.true c.dump-item.is

pub loop-dump-preserved : goal.loop-dump-preserved
loop-dump-preserved g c =
    let i = c.loop-dump.dump-index in
    let xs = c.args.listed.now in
    let x = c.dump-item.result in
    let d = c.in_ok-clone.field-0 in
    let copy = c.in_ok-clone.ensures.cases in
    let own = ap (λ (d : DumpRecordFields). length (dump_frags d)) copy in
    let further = frags_further xs i x c.loop-dump-test.true c.dump-item.is in
    record {
      listed = c.insert.ensures.listed
          ∙ ap (λ (l : List DumpRecordFields). l ++ d ∷ []) c.loop-dump.invariant.listed
          ∙ ap (λ (e : DumpRecordFields). take i xs ++ e ∷ []) copy
          ∙ sym (one_further xs i x c.loop-dump-test.true c.dump-item.is);
      records = omega (arith, c.loop-dump.invariant.records, c.insert.ensures.records);
      frags = omega (arith, own, further, c.loop-dump.invariant.frags, c.insert.ensures.frags);
      cost = omega (arith, own, further, c.loop-dump.invariant.cost, c.insert.ensures.cost);
    }
