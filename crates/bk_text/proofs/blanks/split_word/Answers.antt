use Rattle.std.proofs.Common.{ℕ, List, ◌∷◌, ◌≡◌, ◌<◌, ◌-◌, ◌∙◌, sym, ap, length, take, drop, arith}
use Rattle.std.proofs.lemmas.Bool.{eqb-false}
use Rattle.std.proofs.lemmas.List.{take_all, length-drop}
use Rattle.bk_text.specs.Blanks.{words_of}
use Rattle.bk_text.proofs.BlankLaws.{first_word}
use Rattle.bk_text.proofs.blanks.split_word.Goals as goal

pos : (n : ℕ) → (n ≡ 0 → ⊥) → 0 < n
pos n ne = omega arith

whole : (text : List ℕ) (k : ℕ) → take (length text - k) (drop k text) ≡ drop k text
whole text k = take_all (length text - k) (drop k text) (omega (arith, length-drop k text))

pub returns : goal.returns
returns c =
    let line = c.skip_blanks-line.result.now in
    let end = c.word_end-end.result in
    let some : 0 < length line = pos _ (eqb-false _ _ (sym c.is_empty.ensures ∙ c.if-is_empty.false)) in
    sym c.skip_blanks-line.ensures.same ∙ first_word line end some (c.skip_blanks-line.ensures.first some) c.word_end-end.ensures.is ∙ ap (λ (l : List ℕ). take end line ∷ words_of l) (sym (whole line end))
