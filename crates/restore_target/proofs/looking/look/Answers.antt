use Rattle.std.proofs.Common.{List, [], ◌∷◌, ◌++◌, sym, ◌∙◌, ap}
use Rattle.std.specs.Prelude.{map, slice_get}
use Rattle.cell_core.specs.declared.stored.Stored.{Stored}
use Rattle.restore_target.specs.declared.looking.Seen.{Seen}
use Rattle.restore_target.specs.Seen.{seen_of}
use Rattle.restore_target.proofs.Fronts.{front_more}
use Rattle.restore_target.proofs.looking.look.Goals as goal

pub loop-i-preserved : goal.loop-i-preserved
loop-i-preserved g c =
    let C = g.C.Cell in
    let e = c.in_ok-seen.ensures in
    let so_far = c.loop-i.invariant in
    record {
      seen = λ told.
          c.in_ok-push.ensures.ok ∙ ap (λ (l : List Seen). l ++ c.in_ok-seen.seen ∷ []) (so_far.seen told)
          ∙ sym (front_more (map seen_of (C.list c.args.cell.now)) c.loop-i.i c.in_ok-seen.seen (ap (λ (l : List Stored). slice_get (map seen_of l) c.loop-i.i) (sym (so_far.list told)) ∙ e.seen told));
      list = λ told. e.list told ∙ so_far.list told;
      size = e.size ∙ so_far.size;
      faults = e.cause.stays (λ failed. cc) ∙ so_far.faults;
    }
