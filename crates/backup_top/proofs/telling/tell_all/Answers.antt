use Rattle.std.proofs.Common.{◌∙◌, arith, take}
use Rattle.std.proofs.lemmas.List.{take_all}
use Rattle.backup_top.proofs.TellLaws.{more_told, part_told, rest_length, grows_more, part_taken, part_rest}
use Rattle.backup_top.proofs.ImageLaws.{on_piece, on_same}
use Rattle.backup_top.proofs.telling.tell_all.Goals as goal

pub loop-at-preserved : goal.loop-at-preserved
loop-at-preserved g c =
    let so_far = c.loop-at.invariant.0 in
    let only = c.loop-at.invariant.1 in (
      record {
        within = omega (arith, c.in-Ok.ensures.front, rest_length c.loop-at.at c.args.piece.now, so_far.within);
        told = λ told. more_told c.loop-at.at c.in-Ok.count c.args.piece.now _ _ _ (so_far.told told) (c.in-Ok.ensures.told told);
        images = λ told. on_same g.M.Media.time _ _ _ _ _ (part_taken c.loop-at.at c.in-Ok.count c.args.piece.now) (on_piece g.M.Media.time (take c.loop-at.at c.args.piece.now) _ _ _ c.args.media.now _ _ (so_far.told told) (so_far.images told) (c.in-Ok.ensures.crash told));
      },
      record {
        files = λ told. c.in-Ok.ensures.files told ∙ only.files told;
        images = λ told. grows_more g.M.Media.time _ _ c.args.media.now _ _ (only.images told) (c.in-Ok.ensures.crash told);
        same_count = c.in-Ok.ensures.count ∙ only.same_count;
        same_present = c.in-Ok.ensures.present ∙ only.same_present;
        faults_stay = omega (arith, c.in-Ok.ensures.faults, only.faults_stay);
        tell_faults_stay = omega (arith, c.in-Ok.ensures.cause.later, only.tell_faults_stay);
      },
      c.in-Ok.ensures.cause.stays ∙ c.loop-at.invariant.2,
    )

pub returns-in-Err-clause-told : goal.returns-in-Err-clause-told
returns-in-Err-clause-told g c = λ told. record {
  ok = tt;
  err = part_told c.loop-at.at c.args.piece.now _ _ _ (c.loop-at.invariant.0.told told) (c.in-Err.ensures.part told);
}

pub returns-in-Err-clause-only : goal.returns-in-Err-clause-only
returns-in-Err-clause-only g c =
    let only = c.loop-at.invariant.1 in
    record {
      files = λ told. c.in-Err.ensures.files told ∙ only.files told;
      images = λ told. grows_more g.M.Media.time _ _ c.args.media.now _ _ (only.images told) (c.in-Err.ensures.crash told);
      same_count = c.in-Err.ensures.count ∙ only.same_count;
      same_present = c.in-Err.ensures.present ∙ only.same_present;
      faults_stay = omega (arith, c.in-Err.ensures.faults, only.faults_stay);
      tell_faults_stay = omega (arith, c.in-Err.ensures.cause.later, only.tell_faults_stay);
    }

pub returns-in-Err-clause-images : goal.returns-in-Err-clause-images
returns-in-Err-clause-images g c = λ told.
    let so_far = c.loop-at.invariant.0 in
    on_same g.M.Media.time _ _ _ _ _ (part_rest c.loop-at.at c.args.piece.now) (on_piece g.M.Media.time (take c.loop-at.at c.args.piece.now) _ _ _ c.args.media.now _ _ (so_far.told told) (so_far.images told) (c.in-Err.ensures.crash told))

pub returns-clause-images : goal.returns-clause-images
returns-clause-images g c = λ told.
    let so_far = c.loop-at.invariant.0 in
    on_same g.M.Media.time _ _ _ _ _ (take_all c.loop-at.at c.args.piece.now (omega (arith, c.loop-at-test.false))) (so_far.images told)
