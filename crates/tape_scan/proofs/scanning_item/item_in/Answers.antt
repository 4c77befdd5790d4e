use Rattle.std.proofs.Common.{refl}
use Rattle.tape_frames.specs.declared.frame.Frame.TheVariants as frames
use Rattle.tape_text.specs.Items.{Says}
use Rattle.tape_scan.proofs.scanning_item.item_in.Goals as goal

pub returns-in-Some : goal.returns-in-Some
returns-in-Some c =
    let h = c.in-Some.ensures in
    (Says (frames.Data h.fields), (h.fields, refl, h.told), (h.fits, h.is))
