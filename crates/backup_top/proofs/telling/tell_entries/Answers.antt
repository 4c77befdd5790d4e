use Rattle.std.proofs.Common.{◌∙◌, ap, arith}
use Rattle.std.specs.List.{flat_map}
use Rattle.std.proofs.lemmas.List.{take_all}
use Rattle.backup_top.specs.Replies.{entry_line}
use Rattle.backup_top.proofs.TellLaws.{line_more, line_part, lines_upto, lines_through, only_more}
use Rattle.backup_top.proofs.ImageLaws.{on_same, on_both, on_wider}
use Rattle.backup_top.proofs.telling.tell_entries.Goals as goal

pub returns-in-Err-clause-told : goal.returns-in-Err-clause-told
returns-in-Err-clause-told g c = λ told. record {
  ok = tt;
  err = line_part entry_line c.args.entries.now c.loop-entry.entry-index c.entry-item.result _ _ _ c.loop-entry-test.true c.entry-item.is (c.loop-entry.invariant.0 told) (c.in-Err.ensures.told _ c.line_of_entry.ensures told).err;
}

pub loop-entry-preserved : goal.loop-entry-preserved
loop-entry-preserved g c = (
  λ told. line_more entry_line c.args.entries.now c.loop-entry.entry-index c.entry-item.result _ _ _ c.loop-entry-test.true c.entry-item.is (c.loop-entry.invariant.0 told) (c.in-Ok.ensures.told _ c.line_of_entry.ensures told).ok,
  (
    only_more _ _ _ _ _ _ _ _ _ _ c.loop-entry.invariant.1.0 c.in-Ok.ensures.only,
    λ told. on_same g.M.Media.time _ _ _ _ _ (lines_upto entry_line c.args.entries.now c.loop-entry.entry-index c.entry-item.result c.loop-entry-test.true c.entry-item.is)
        (on_both g.M.Media.time _ _ _ _ c.args.media.now _ _ (c.loop-entry.invariant.0 told) (c.loop-entry.invariant.1.1 told) (c.in-Ok.ensures.images _ c.line_of_entry.ensures told)),
    c.in-Ok.ensures.cause.stays (λ is. absurd (cc)) ∙ c.loop-entry.invariant.1.2,
  ),
)

pub returns-in-Err-clause-only : goal.returns-in-Err-clause-only
returns-in-Err-clause-only g c = only_more _ _ _ _ _ _ _ _ _ _ c.loop-entry.invariant.1.0 c.in-Err.ensures.only

pub returns-in-Err-clause-images : goal.returns-in-Err-clause-images
returns-in-Err-clause-images g c = λ told.
    on_same g.M.Media.time _ _ _ _ _ (lines_through entry_line c.args.entries.now c.loop-entry.entry-index c.entry-item.result c.loop-entry-test.true c.entry-item.is)
    (on_wider g.M.Media.time _ _ _ c.args.media.now _
    (on_both g.M.Media.time _ _ _ _ c.args.media.now _ _ (c.loop-entry.invariant.0 told) (c.loop-entry.invariant.1.1 told) (c.in-Err.ensures.images _ c.line_of_entry.ensures told)))

pub returns-clause-images : goal.returns-clause-images
returns-clause-images g c = λ told.
    on_same g.M.Media.time _ _ _ _ _ (ap (flat_map entry_line) (take_all c.loop-entry.entry-index c.args.entries.now (omega (arith, c.loop-entry-test.false)))) (c.loop-entry.invariant.1.1 told)
