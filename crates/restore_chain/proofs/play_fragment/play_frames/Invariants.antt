use Rattle.std.proofs.Common.{◌≡◌, [], List, Some, slice_get}
use Rattle.plant_effects.specs.Runs.{Done, Leaves, SameNumbers, StaysQuiet}
use Rattle.dump_stream.specs.Inputs.{IsOpen}
use Rattle.tape_frames.specs.declared.frame.Frame.TheVariants as frames
use Rattle.tape_text.specs.Items.{Item, Says}
use Rattle.restore_chain.specs.Playing.{lying_of, ReadsLoaded}
use Rattle.restore_chain.proofs.FragmentLaws.{GoesTo}
use Rattle.restore_chain.proofs.play_fragment.play_frames.Given as goal

abbrev pub invariant-loop-place : goal.invariant-loop-place
invariant-loop-place g l =
    let P = g.P.Plant in
    record {
      goes : P.tells → (items : List Item) → ReadsLoaded P items l.fn.plant → slice_get items l.fn.called.at ≡ Some (Says (frames.VolHead l.fn.called.head)) → GoesTo (lying_of l.fn.called) items l.place l.seen l.fn.joined l.joined;
      is_open : IsOpen l.joined.input;
      done : Done P [] l.fn.plant l.plant;
      leaves : Leaves P [] l.fn.plant l.plant;
      numbers : SameNumbers P l.fn.plant l.plant;
      stays : StaysQuiet P l.fn.plant l.plant;
      faults : (P.view l.plant).faults ≡ (P.view l.fn.plant).faults;
    }
