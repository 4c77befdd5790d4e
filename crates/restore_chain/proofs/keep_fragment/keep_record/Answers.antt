use Rattle.std.proofs.Common.{◌≡◌, ◌+◌, ◌∷◌, ◌++◌, [], Some, true, refl, sym, subst, slice_get}
use Rattle.std.specs.Prelude.{◌==◌}
use Rattle.tape_frames.specs.declared.frame.Frame.TheVariants as frames
use Rattle.tape_frames.specs.Layouts.{FitsData}
use Rattle.tape_text.specs.Items.{Says}
use Rattle.restore_chain.specs.Playing.{lying_of, end_of, TakesPiece, HasSeen}
use Rattle.restore_chain.proofs.PieceLaws.{bad_here, stands_whole, stands_more, seen_more, said_of, same_of, other_of}
use Rattle.restore_chain.proofs.keep_fragment.keep_record.Goals as goal

pub returns-in-Bad-clause-keeps : goal.returns-in-Bad-clause-keeps
returns-in-Bad-clause-keeps g c = λ told items ds reads stands seen.
    let call = lying_of c.args.called.now in
    bad_here call items c.args.place ds c.args.seen.now c.in-Ok.found c.is_fit_call.ensures stands seen seen.small (c.in-Ok.ensures.said told items reads) c.in-Bad.ensures

pub returns-in-End-clause-keeps : goal.returns-in-End-clause-keeps
returns-in-End-clause-keeps g c = λ told items ds reads stands seen.
    let call = lying_of c.args.called.now in
    let e = c.in-End.ensures in (
      stands_whole call items c.args.place ds c.args.seen.now c.is_fit_call.ensures stands seen seen.small e.1
          (said_of items c.args.place c.in-Ok.found (frames.VolEnd (end_of call c.args.seen.now.sum)) (c.in-Ok.ensures.said told items reads) e.0),
      refl,
    )

pub returns-in-Ok-push-clause-keeps : goal.returns-in-Ok-push-clause-keeps
returns-in-Ok-push-clause-keeps g c = λ told items ds reads stands seen.
    let call = lying_of c.args.called.now in
    let d = c.in-Piece.piece in
    let e = c.in-Piece.ensures in
    let there : slice_get items c.args.place ≡ Some (Says (frames.Data d)) = said_of items c.args.place c.in-Ok.found (frames.Data d) (c.in-Ok.ensures.said told items reads) e.0 in (
      d,
      stands_more call items c.args.place ds d stands there,
      subst (HasSeen call (ds ++ d ∷ [])) (sym c.with.ensures)
          (subst (λ n. HasSeen call (ds ++ d ∷ []) (record { sum = c.args.seen.now.sum + n; some = true; is_open = (n == 16352) })) (sym c.used_in-used.ensures.used)
          (seen_more call ds c.args.seen.now d _ seen e.1 c.used_in-used.ensures.fits (same_of d.used 16352) (other_of d.used 16352))),
      c.in-Ok-push.ensures.ok,
    )
