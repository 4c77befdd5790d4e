use Rattle.std.proofs.Common.{subst, sym}
use Rattle.std.proofs.lemmas.Result.{err_from_is_err_and}
use Rattle.budb_changes.specs.declared.records.DumpRecordFields.{DumpRecordFields}
use Rattle.byte_formats.specs.Formats.{Took}
use Rattle.budb_changes.specs.Formats.{heading, cell_form, tapes_form, volumes_form, dump_form}
use Rattle.byte_formats.proofs.FormatLaws.{stops_first, stops_second, took_both, stops_like, took_like}
use Rattle.budb_changes.proofs.Layouts.{sole_heading, sole_tapes, sole_volumes, has_cell, cell_named, dump_0, dump_1, dump_2, has_dump_1, has_dump_2, like_dump}
use Rattle.budb_changes.proofs.record_reading.read_dump.Goals as goal

pub returns-in_err-heading : goal.returns-in_err-heading
returns-in_err-heading c =
    let p = err_from_is_err_and c.from_residual.result c.from_residual.ensures.1 in
    rw (p.1, p.2) (stops_like (dump_0 c.args.version) (dump_form c.args.version) (like_dump c.args.version) _ _ (stops_first heading (λ x. dump_1 c.args.version) _ _ (λ x is. has_dump_1 c.args.version) c.in_err-heading.ensures))

pub returns-in_err-tapes : goal.returns-in_err-tapes
returns-in_err-tapes c =
    let p = err_from_is_err_and c.from_residual-in_err-tapes.result c.from_residual-in_err-tapes.ensures.1 in
    rw (p.1, p.2) (stops_like (dump_0 c.args.version) (dump_form c.args.version) (like_dump c.args.version) _ _ (stops_second heading (λ x. dump_1 c.args.version) _ _ _ _ sole_heading c.in_ok-heading.ensures (stops_first (tapes_form c.args.version) (λ x. dump_2 c.args.version) _ _ (λ x is. has_dump_2 c.args.version) c.in_err-tapes.ensures)))

pub returns-in_err-volumes : goal.returns-in_err-volumes
returns-in_err-volumes c =
    let p = err_from_is_err_and c.from_residual-in_err-volumes.result c.from_residual-in_err-volumes.ensures.1 in
    rw (p.1, p.2) (stops_like (dump_0 c.args.version) (dump_form c.args.version) (like_dump c.args.version) _ _ (stops_second heading (λ x. dump_1 c.args.version) _ _ _ _ sole_heading c.in_ok-heading.ensures (stops_second (tapes_form c.args.version) (λ x. dump_2 c.args.version) _ _ _ _ (sole_tapes c.args.version) c.in_ok-tapes.ensures (stops_first volumes_form (λ x. cell_form c.args.version) _ _ (λ x is. has_cell c.args.version) c.in_err-volumes.ensures))))

pub returns-in_err-cell : goal.returns-in_err-cell
returns-in_err-cell c =
    let p = err_from_is_err_and c.from_residual-in_err-cell.result c.from_residual-in_err-cell.ensures.1 in
    rw (p.1, p.2) (stops_like (dump_0 c.args.version) (dump_form c.args.version) (like_dump c.args.version) _ _ (stops_second heading (λ x. dump_1 c.args.version) _ _ _ _ sole_heading c.in_ok-heading.ensures (stops_second (tapes_form c.args.version) (λ x. dump_2 c.args.version) _ _ _ _ (sole_tapes c.args.version) c.in_ok-tapes.ensures (stops_second volumes_form (λ x. cell_form c.args.version) _ _ _ _ sole_volumes c.in_ok-volumes.ensures c.in_err-cell.ensures))))

pub new-dump-requires : goal.new-dump-requires
new-dump-requires c = record {
  base = c.in_ok-heading.ensures.is.1.1.1.short;
  few_tapes = c.in_ok-tapes.ensures.is.0;
  named = λ k d lt. (c.in_ok-tapes.ensures.is.1 k d lt).0.permanent;
  few_volumes = c.in_ok-volumes.ensures.is.0;
  cell = cell_named c.args.version _ c.in_ok-cell.ensures.is;
}

pub returns : goal.returns
unfolding like_dump
returns c = subst (λ (v : DumpRecordFields). Took (dump_form c.args.version) c.args.bytes.now v c.in_ok-cell.rest.now) (sym c.new-dump.ensures) (took_like (dump_0 c.args.version) (dump_form c.args.version) (like_dump c.args.version) _ _ _ (took_both heading (λ x. dump_1 c.args.version) _ _ _ _ _ c.in_ok-heading.ensures (took_both (tapes_form c.args.version) (λ x. dump_2 c.args.version) _ _ _ _ _ c.in_ok-tapes.ensures (took_both volumes_form (λ x. cell_form c.args.version) _ _ _ _ _ c.in_ok-volumes.ensures c.in_ok-cell.ensures))))
