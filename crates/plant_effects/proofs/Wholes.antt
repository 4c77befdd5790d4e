-- A tape whose records are read one after the other, up to the first bad one.
use Rattle.std.proofs.Common.{◌≡◌, ◌≢◌, inl, inr, ℕ, ◌+◌, ◌<◌, ◌≤◌, List, length, Some, slice_get, refl, sym, ◌∙◌, ap, subst, arith}
use Rattle.std.proofs.lemmas.Bool.{cases_lt}
use Rattle.std.proofs.lemmas.Option.{slice_get_within}
use Rattle.plant_core.specs.declared.record.Kind.{Kind}
use Rattle.plant_core.specs.declared.record.Kind.TheVariants.{Bad}
use Rattle.plant_core.specs.Records.{Record, block_with, mark, bad, Shows, ShowsAt, NoBad}

-- none of the first records is bad
abbrev pub NoneBefore : ℕ → List Record → Type 0
NoneBefore n tape = (i : ℕ) → i < n → slice_get tape i ≢ Some bad

bad_shows : (found : Record) (kind : Kind) (into : List ℕ) → Shows found kind into → found ≡ bad → kind ≡ Bad
bad_shows (block_with bytes) kind into shown is = absurd (cc)
bad_shows mark kind into shown is = absurd (cc)
bad_shows bad kind into shown is = shown

shows_bad : (found : Record) (kind : Kind) (into : List ℕ) → Shows found kind into → kind ≡ Bad → found ≡ bad
shows_bad (block_with bytes) kind into shown is = let no = shown.0 in absurd (cc)
shows_bad mark kind into shown is = absurd (cc)
shows_bad bad kind into shown is = refl

pub one_more : (tape : List Record) (n : ℕ) (kind : Kind) (into : List ℕ) → NoneBefore n tape → ShowsAt tape n kind into → kind ≢ Bad → NoneBefore (n + 1) tape
one_more tape n kind into none at fine i below = elim (cases_lt i n) [
  | inl before ↦ none i before
  | inr past ↦ λ is.
      let here : i ≡ n = omega (arith, below, past) in
      let same : slice_get tape n ≡ Some bad = subst (λ (j : ℕ). slice_get tape j ≡ Some bad) here is in
      let found : at.found ≡ bad = let e = sym at.is ∙ same in cc in
      fine (bad_shows at.found kind into at.shown found)
]

pub found_bad : (tape : List Record) (n : ℕ) (kind : Kind) (into : List ℕ) → ShowsAt tape n kind into → kind ≡ Bad → NoBad tape → ⊥
found_bad tape n kind into at is none = none n (at.is ∙ ap (λ (r : Record). Some r) (shows_bad at.found kind into at.shown is))

pub all_whole : (tape : List Record) (n : ℕ) → length tape ≤ n → NoneBefore n tape → NoBad tape
all_whole tape n past none i is = none i (omega (arith, slice_get_within tape i bad is, past)) is
