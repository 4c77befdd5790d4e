use Rattle.std.proofs.Common.{◌≡◌, ◌∷◌, ◌++◌, [], Some, refl, sym, subst, slice_get}
use Rattle.tape_frames.specs.declared.frame.Frame.TheVariants as frames
use Rattle.tape_frames.specs.declared.data.DataFields.{DataFields}
use Rattle.tape_frames.specs.Layouts.{FitsData}
use Rattle.tape_text.specs.Items.{Says}
use Rattle.restore_chain.specs.Playing.{lying_of, end_of, TakesPiece, HasSeen}
use Rattle.restore_chain.proofs.PieceLaws.{bad_here, stands_whole, stands_more, seen_more, said_of, same_of, other_of}
use Rattle.restore_chain.proofs.play_fragment.play_record.Goals as goal

pub returns-in-Bad-clause-steps : goal.returns-in-Bad-clause-steps
returns-in-Bad-clause-steps g c = λ told items pieces reads stands seen.
    let call = lying_of c.args.called.now in
    bad_here call items c.args.place pieces c.args.seen.now c.in-Ok.found c.is_fit_call.ensures stands seen seen.small (c.in-Ok.ensures.said told items reads) c.in-Bad.ensures

pub returns-in-End-clause-steps : goal.returns-in-End-clause-steps
returns-in-End-clause-steps g c = λ told items pieces reads stands seen.
    let call = lying_of c.args.called.now in
    let e = c.in-End.ensures in (
      stands_whole call items c.args.place pieces c.args.seen.now c.is_fit_call.ensures stands seen seen.small e.1
          (said_of items c.args.place c.in-Ok.found (frames.VolEnd (end_of call c.args.seen.now.sum)) (c.in-Ok.ensures.said told items reads) e.0),
      refl,
    )

pub returns-in-Ok-take-clause-steps : goal.returns-in-Ok-take-clause-steps
returns-in-Ok-take-clause-steps g c = λ told items pieces reads stands seen.
    let call = lying_of c.args.called.now in
    let d = c.fields-fields.result.now in
    let same : d ≡ c.in-Piece.piece = c.fields-fields.ensures.value in
    let e = c.in-Piece.ensures in
    let taken : TakesPiece call c.args.seen.now d = subst (TakesPiece call c.args.seen.now) (sym same) e.1 in
    let there : slice_get items c.args.place ≡ Some (Says (frames.Data d)) = subst (λ (x : DataFields). slice_get items c.args.place ≡ Some (Says (frames.Data x))) (sym same) (said_of items c.args.place c.in-Ok.found (frames.Data c.in-Piece.piece) (c.in-Ok.ensures.said told items reads) e.0) in (
      d,
      stands_more call items c.args.place pieces d stands there,
      subst (HasSeen call (pieces ++ d ∷ [])) (sym c.with.ensures) (seen_more call pieces c.args.seen.now d _ seen taken (subst FitsData (sym same) c.fields-fields.ensures.fits) (same_of d.used 16352) (other_of d.used 16352)),
      c.in-Ok-take.ensures.joins,
    )
