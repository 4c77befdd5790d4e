use Rattle.std.proofs.Common.{◌≡◌, ◌+◌, ◌-◌, ◌≤◌, ◌++◌, length, take, drop, replicate, ap, arith, length-append}
use Rattle.std.proofs.lemmas.List.{length-take-le}
use borrow.Rule.Slice.PartMut.{put_mid}
use Rattle.tape_frames.specs.Blocks.{padded}
use Rattle.tape_frames.proofs.Pages.{put_written, page_in, page_out}
use Rattle.tape_frames.proofs.page.Page.piece.Goals as goal

pub invariant_of-self : goal.invariant_of-self
invariant_of-self c =
    let at = c.self.inside.at in
    let b = c.self.inside.bytes in
    let new = c.copy_from_slice.new.self in
    let kept : (length b ≡ 16384) × (at ≤ 16384) × (drop at b ≡ replicate (16384 - at) 0) = c.self.invariant in
    let long : length (take at b) ≡ at = length-take-le at b (omega (arith, kept.0, kept.1)) in
    let same : length new ≡ length c.args.bytes.now = ap length c.copy_from_slice.ensures.after in
    let room : at + length new ≤ 16384 = omega (arith, c.requires, ap length c.self.view_is, long, same) in
    let whole : put_mid at (at + length c.args.bytes.now - at) b new ≡ padded 16384 (take at b ++ new)
    = put_written 16384 at (at + length c.args.bytes.now - at) b (take at b) new long (page_in 16384 at b long kept.2) room (omega (arith, same)) in
    page_out 16384 (at + length c.args.bytes.now) (put_mid at (at + length c.args.bytes.now - at) b new) (take at b ++ new) (omega (arith, length-append (take at b) new, long, same)) (omega (arith, room, same)) whole
