use Rattle.std.proofs.Common.{◌≡◌, ◌+◌, ◌-◌, ◌≤◌, ◌++◌, ℕ, List, length, take, drop, replicate, ap, ◌∙◌, arith, length-append}
use Rattle.std.proofs.lemmas.List.{length-take-le, length-replicate}
use Rattle.tape_frames.proofs.Pages.{blank_written, page_in, page_out, page_seen}
use Rattle.tape_frames.proofs.page.Page.zeros.Goals as goal

pub invariant_of-self : goal.invariant_of-self
invariant_of-self c =
    let at = c.self.inside.at in
    let b = c.self.inside.bytes in
    let kept : (length b ≡ 16384) × (at ≤ 16384) × (drop at b ≡ replicate (16384 - at) 0) = c.self.invariant in
    let long : length (take at b) ≡ at = length-take-le at b (omega (arith, kept.0, kept.1)) in
    let room : at + c.args.count ≤ 16384 = omega (arith, c.requires, ap length c.self.view_is, long) in
    page_out 16384 (at + c.args.count) b (take at b ++ replicate c.args.count 0) (omega (arith, length-append (take at b) (replicate c.args.count 0), length-replicate {A = ℕ} c.args.count 0, long)) room
    (blank_written 16384 b (take at b) c.args.count (page_in 16384 at b long kept.2) (omega (arith, room, long)))

pub returns-clause-value : goal.returns-clause-value
returns-clause-value c =
    let at = c.self.inside.at in
    let b = c.self.inside.bytes in
    let kept : (length b ≡ 16384) × (at ≤ 16384) × (drop at b ≡ replicate (16384 - at) 0) = c.self.invariant in
    let long : length (take at b) ≡ at = length-take-le at b (omega (arith, kept.0, kept.1)) in
    let room : at + c.args.count ≤ 16384 = omega (arith, c.requires, ap length c.self.view_is, long) in
    page_seen 16384 (at + c.args.count) b (take at b ++ replicate c.args.count 0) (omega (arith, length-append (take at b) (replicate c.args.count 0), length-replicate {A = ℕ} c.args.count 0, long))
    (blank_written 16384 b (take at b) c.args.count (page_in 16384 at b long kept.2) (omega (arith, room, long)))
    ∙ ap (λ (x : List ℕ). x ++ replicate c.args.count 0) c.self.view_is
