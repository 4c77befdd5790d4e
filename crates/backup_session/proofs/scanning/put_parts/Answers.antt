use Rattle.std.proofs.Common.{◌≡◌, ℕ, ◌+◌, List, [], ◌∷◌, ◌++◌, take, get_or, sym, ◌∙◌, ap, arith}
use Rattle.std.specs.List.{flat_map}
use Rattle.std.proofs.lemmas.List.{take_more, flat_map_more}
use Rattle.tape_scan.specs.declared.assembling.PartId.{PartId}
use Rattle.backup_session.specs.Scanning.{left_line}
use Rattle.backup_session.proofs.scanning.put_parts.Goals as goal

pub loop-part-preserved : goal.loop-part-preserved
loop-part-preserved c =
    let parts = c.args.parts.now in
    let i : ℕ = c.loop-part.part-index in
    let part : PartId = get_or parts i (record { id = 0; tape = 0 }) in
    let more : take (i + 1) parts ≡ take i parts ++ part ∷ [] = take_more parts i (record { id = 0; tape = 0 }) (omega (arith, c.loop-part-test.true)) in
    c.in_ok-put_part.ensures ∙ ap (λ (l : List ℕ). l ++ left_line part) c.loop-part.invariant ∙ flat_map_more left_line c.args.lines.now (take i parts) part ∙ ap (λ (ps : List PartId). c.args.lines.now ++ flat_map left_line ps) (sym more)
