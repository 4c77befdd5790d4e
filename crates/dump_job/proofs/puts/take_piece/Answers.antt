use Rattle.std.proofs.Common.{◌≡◌, ◌≤◌, ℕ, min, List, [], ◌∷◌, length, take, drop, ◌∙◌, ap, refl, arith}
use Rattle.std.proofs.lemmas.List.{length-take-le, drop-replicate, length-replicate}
use Rattle.std.proofs.lemmas.Slice.{drop-append-drop}
use Rattle.dump_job.proofs.puts.take_piece.Goals as goal

some_of : (s : List ℕ) → (s ≡ [] → ⊥) → 1 ≤ length s
some_of [] never = absurd (never refl)
some_of (x ∷ xs) never = omega arith

pub new-requires : goal.new-requires
new-requires c =
    let n = c.next-used.result in
    let s = c.args.hand.now.stream in
    let some : 1 ≤ length s = some_of s c.requires in
    let is : n ≡ min 16352 (length s) = c.next-used.ensures.count ∙ ap (λ (k : ℕ). min k (length s)) (length-replicate {A = ℕ} 16352 0) in
    let few : n ≤ length s = omega arith in
    (omega arith, omega arith, ap (drop n) c.next-used.ensures.given ∙ drop-append-drop n _ (take n s) n (omega arith) (length-take-le n s few) ∙ drop-replicate n 16352 0)
