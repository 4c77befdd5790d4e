-- The records of tapes, one after the other.
use Rattle.std.proofs.Common.{◌≡◌, ℕ, ◌+◌, ◌<◌, List, [], ◌∷◌, length, take, refl, sym, ◌∙◌, ap, arith}
use Rattle.std.specs.Prelude.{cond, ◌==◌, if◌then◌else◌, Bool, true, false, Option, Some, None}
use Rattle.std.specs.List.{count_by}
use Rattle.plant_core.specs.declared.record.Kind.{Kind}
use Rattle.plant_core.specs.Records.{Record, block_with, mark, bad, Shows, ShowsAt}
use Rattle.plant_core.specs.Crashes.{State, Alike, IsSettled}
use Rattle.plant_core.specs.Effects.{settles, comes, come, putting_away}
use Rattle.rehearsal.specs.Counts.{is_block, is_mark, on_tapes, one_of}
use Rattle.rehearsal.proofs.Counting.{count_more}

shown_block : (found : Record) (kind : Kind) (into : List ℕ) → Shows found kind into → cond (is_block found) 1 0 ≡ (one_of kind).blocks
shown_block (block_with bytes) kind into shown = ap (λ (k : Kind). (one_of k).blocks) (sym shown.0)
shown_block mark kind into shown = ap (λ (k : Kind). (one_of k).blocks) (sym shown)
shown_block bad kind into shown = ap (λ (k : Kind). (one_of k).blocks) (sym shown)

shown_mark : (found : Record) (kind : Kind) (into : List ℕ) → Shows found kind into → cond (is_mark found) 1 0 ≡ (one_of kind).marks
shown_mark (block_with bytes) kind into shown = ap (λ (k : Kind). (one_of k).marks) (sym shown.0)
shown_mark mark kind into shown = ap (λ (k : Kind). (one_of k).marks) (sym shown)
shown_mark bad kind into shown = ap (λ (k : Kind). (one_of k).marks) (sym shown)

pub more_blocks : (tape : List Record) (i : ℕ) (kind : Kind) (into : List ℕ) (so_far : ℕ) → ShowsAt tape i kind into → so_far ≡ count_by is_block (take i tape) → so_far + (one_of kind).blocks ≡ count_by is_block (take (i + 1) tape)
more_blocks tape i kind into so_far at is = ap (λ (n : ℕ). n + (one_of kind).blocks) is ∙ ap (λ (n : ℕ). count_by is_block (take i tape) + n) (sym (shown_block at.found kind into at.shown)) ∙ sym (count_more is_block tape i at.found at.is)

pub more_marks : (tape : List Record) (i : ℕ) (kind : Kind) (into : List ℕ) (so_far : ℕ) → ShowsAt tape i kind into → so_far ≡ count_by is_mark (take i tape) → so_far + (one_of kind).marks ≡ count_by is_mark (take (i + 1) tape)
more_marks tape i kind into so_far at is = ap (λ (n : ℕ). n + (one_of kind).marks) is ∙ ap (λ (n : ℕ). count_by is_mark (take i tape) + n) (sym (shown_mark at.found kind into at.shown)) ∙ sym (count_more is_mark tape i at.found at.is)

pub one_is_few : (kind : Kind) → ((one_of kind).blocks < 2) × ((one_of kind).marks < 2)
one_is_few Kind.Block = (omega arith, omega arith)
one_is_few Kind.Mark = (omega arith, omega arith)
one_is_few Kind.Bad = (omega arith, omega arith)

-- ---- loading settled tapes changes nothing

settling : (s : State) (k j : ℕ) → IsSettled s → (b : Bool) → (if b then length (s.tape j) else s.settled j) ≡ s.settled j
settling s k j settled true = sym (settled.tapes j)
settling s k j settled false = refl

settles_nothing : (s : State) (k : ℕ) → IsSettled s → Alike s (comes (settles k) s)
settles_nothing s k settled = record { log = refl; tape = λ j. refl; told = refl; log_settled = refl; settled = λ j. settling s k j settled (j == k) }

alike_self : (s : State) → Alike s s
alike_self s = record { log = refl; tape = λ k. refl; told = refl; log_settled = refl; settled = λ k. refl }

away : (s : State) (k slot : ℕ) → IsSettled s → (b : Bool) → Alike s (come (if b then [] else settles k ∷ []) s)
away s k slot settled true = alike_self s
away s k slot settled false = settles_nothing s k settled

pub loads_nothing : (s : State) (loaded : Option ℕ) (slot : ℕ) → IsSettled s → Alike s (come (putting_away loaded slot) s)
loads_nothing s None slot settled = alike_self s
loads_nothing s (Some k) slot settled = away s k slot settled (k == slot)

-- ---- the four tapes

pub settled_alike : (s t : State) → Alike s t → IsSettled s → IsSettled t
settled_alike s t alike settled = record {
  log = alike.log_settled ∙ settled.log ∙ ap length (sym alike.log);
  tapes = λ k. alike.settled k ∙ settled.tapes k ∙ ap length (sym (alike.tape k));
}

-- what is counted on one tape after the other, which stay as they are, is counted on all of them
pub four : (p : Record → Bool) (s t u v : State) (a b c d : ℕ) → Alike s t → Alike s u → Alike s v → a ≡ count_by p (s.tape 0) → b ≡ count_by p (t.tape 1) → c ≡ count_by p (u.tape 2) → d ≡ count_by p (v.tape 3) → a + b + c + d ≡ on_tapes p s.tape
four p s t u v a b c d second third fourth is_a is_b is_c is_d =
    let b2 = is_b ∙ ap (count_by p) (second.tape 1) in
    let c2 = is_c ∙ ap (count_by p) (third.tape 2) in
    let d2 = is_d ∙ ap (count_by p) (fourth.tape 3) in
    λ i. is_a i + b2 i + c2 i + d2 i
