use Rattle.std.proofs.Common.{ℕ, List, ◌∷◌, ◌≡◌, ◌+◌, ◌-◌, ◌∙◌, sym, ap, length, take, drop, arith}
use Rattle.std.proofs.lemmas.List.{take_all, length-drop}
use Rattle.std.specs.Str.Lines.{lines}
use Rattle.tape_config.proofs.ConfigLaws.{line_whole, line_first}
use Rattle.tape_config.proofs.config.split_line.Goals as goal

whole : (text : List ℕ) (k : ℕ) → take (length text - k) (drop k text) ≡ drop k text
whole text k = take_all (length text - k) (drop k text) (omega (arith, length-drop k text))

pub returns-then-end-bytes-clause-is : goal.returns-then-end-bytes-clause-is
returns-then-end-bytes-clause-is c = line_whole c.args.bytes.now c.requires (omega (arith, c.place_of-end.ensures.is, c.if-end-bytes.true))

pub returns-clause-is : goal.returns-clause-is
returns-clause-is c =
    let bytes = c.args.bytes.now in
    let end = c.place_of-end.result in
    line_first bytes end c.place_of-end.ensures.is (omega (arith, c.place_of-end.ensures.within, c.if-end-bytes.false))
    ∙ ap (λ (l : List ℕ). l ∷ lines (drop (end + 1) bytes)) (sym c.without_return.ensures) ∙ ap (λ (l : List ℕ). c.without_return.result.now ∷ lines l) (sym (whole bytes (end + 1)))
