use Rattle.std.proofs.Common.{ap, Some}
use Rattle.plant_core.specs.Records.{block_with}
use Rattle.tape_text.specs.Items.{Item, Says}
use Rattle.restore_chain.specs.Planning.{frame_of}
use Rattle.restore_chain.proofs.reading.frame_in.Goals as goal

pub returns-in-Ok : goal.returns-in-Ok
returns-in-Ok c = λ i reads. ap (λ (j : Item). frame_of (Some j)) (c.one_item.ensures (block_with c.args.block.now) (Says c.in-Ok.frame) i c.in-Ok.ensures reads)
