use Rattle.std.proofs.Common.{◌≡◌, List, Some, slice_get}
use Rattle.tape_frames.specs.declared.frame.Frame.TheVariants as frames
use Rattle.tape_text.specs.Items.{Item, Says}
use Rattle.restore_chain.specs.Playing.{lying_of, ReadsLoaded}
use Rattle.restore_chain.proofs.ReadLaws.{HasRead}
use Rattle.restore_chain.proofs.KeepLaws.{KeepsTo}
use Rattle.restore_chain.proofs.keep_fragment.keep_frames.Given as goal

abbrev pub invariant-loop-place : goal.invariant-loop-place
invariant-loop-place g l =
    let P = g.P.Plant in
    record {
      goes : P.tells → (items : List Item) → ReadsLoaded P items l.fn.plant → slice_get items l.fn.called.at ≡ Some (Says (frames.VolHead l.fn.called.head)) → KeepsTo (lying_of l.fn.called) items l.place l.seen l.pieces;
      read : HasRead P l.fn.plant l.plant;
    }
