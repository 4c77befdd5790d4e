-- Logs: changes one behind another.
use Rattle.std.proofs.Common.{◌≡◌, ℕ, ◌+◌, ◌-◌, ◌<◌, ◌≤◌, List, [], ◌∷◌, ◌++◌, length, take, refl, sym, ap, ◌∙◌, append_assoc, arith, length-append}
use Rattle.std.specs.Prelude.{All}
use Rattle.std.specs.List.{flat_map}
use Rattle.std.proofs.lemmas.List.{append-nil, take_at, flat_map_more}
use Rattle.std.proofs.lemmas.List.Elements.{All-push, All-head, All-tail}
use Rattle.bk_text.specs.Places.{FailsAt}
use Rattle.budb_changes.specs.declared.change.Change.{Change}
use Rattle.budb_changes.specs.Bytes.{encoded_change, encoded}
use Rattle.budb_changes.specs.Forms.{IsChange, AreChanges, IsLog}
use Rattle.byte_formats.specs.Formats.{Took, Sticks}
use Rattle.budb_changes.specs.Formats.{change_form}
use Rattle.budb_changes.proofs.ChangeKinds.{sole_change}

change_some : (c : Change) → 1 ≤ length (encoded_change c)
unfolding encoded_change
change_some c = omega arith

-- changes behind those that were read
record Tail (xs ys : List Change) (r : List ℕ) : Type 0 where
  behind : List Change
  each : All IsChange behind
  bytes : r ≡ flat_map encoded_change behind
  joined : ys ≡ xs ++ behind

tail_of : (xs ys : List Change) (r : List ℕ) → All IsChange xs → All IsChange ys → flat_map encoded_change xs ++ r ≡ flat_map encoded_change ys → Tail xs ys r
tail_of [] ys r isx isy e = record { behind = ys; each = isy; bytes = e; joined = refl }
tail_of (x ∷ xs) [] r isx isy e =
    absurd (omega (arith, ap length e, change_some x, length-append (encoded_change x ++ flat_map encoded_change xs) r, length-append (encoded_change x) (flat_map encoded_change xs)))
tail_of (x ∷ xs) (y ∷ ys) r isx isy e =
    let e2 : encoded_change x ++ (flat_map encoded_change xs ++ r) ≡ encoded_change y ++ flat_map encoded_change ys = sym (append_assoc (encoded_change x) (flat_map encoded_change xs) r) ∙ e in
    let one = sole_change.same x y (flat_map encoded_change xs ++ r) (flat_map encoded_change ys) (All-head IsChange x xs isx) (All-head IsChange y ys isy) e2 in
    let more = tail_of xs ys r (All-tail IsChange x xs isx) (All-tail IsChange y ys isy) one.1 in
    record { behind = more.behind; each = more.each; bytes = more.bytes; joined = ap (λ (z : Change). z ∷ ys) (sym one.0) ∙ ap (λ (zs : List Change). x ∷ zs) more.joined }

first_here : (good bad rest : List ℕ) (left : ℕ) (s : Sticks change_form rest left) (b : ℕ) (behind after : List ℕ) (zs : List Change) → s.bad ≡ b ∷ behind → All IsChange zs → s.good ++ (b ∷ after) ≡ flat_map encoded_change zs → ⊥
first_here good bad rest left s b behind after [] e is eq = omega (arith, ap length eq, length-append s.good (b ∷ after))
first_here good bad rest left s b behind after (z ∷ zs) e is eq = s.here b behind e z (flat_map encoded_change zs) after (All-head IsChange z zs is) eq

whole_here : (rest : List ℕ) (left : ℕ) (s : Sticks change_form rest left) (zs : List Change) (bad : List ℕ) → s.bad ≡ bad → 0 < length rest → All IsChange zs → rest ≡ flat_map encoded_change zs → ⊥
whole_here rest left s [] bad e some is eq = omega (arith, some, ap length eq)
whole_here rest left s (z ∷ zs) (b ∷ behind) e some is eq =
    first_here s.good s.bad rest left s b behind behind (z ∷ zs) e is (ap (λ (x : List ℕ). s.good ++ x) (sym e) ∙ sym s.joined ∙ eq)
whole_here rest left s (z ∷ zs) [] e some is eq =
    let all : s.good ≡ flat_map encoded_change (z ∷ zs) = sym (append-nil s.good) ∙ ap (λ (x : List ℕ). s.good ++ x) (sym e) ∙ sym s.joined ∙ eq in
    let e2 : encoded_change s.value ++ [] ≡ encoded_change z ++ (flat_map encoded_change zs ++ s.more)
    = append-nil (encoded_change s.value) ∙ s.begun ∙ ap (λ (x : List ℕ). x ++ s.more) all ∙ append_assoc (encoded_change z) (flat_map encoded_change zs) s.more in
    let one = sole_change.same s.value z [] (flat_map encoded_change zs ++ s.more) s.is (All-head IsChange z zs is) e2 in
    omega (arith, s.wanting, ap length one.1, length-append (flat_map encoded_change zs) s.more)

pub log_fails : (xs : List Change) (bytes rest : List ℕ) (left at : ℕ) → AreChanges xs → bytes ≡ flat_map encoded_change xs ++ rest → 0 < length rest → Sticks change_form rest left → at ≡ length bytes - left → FailsAt IsLog bytes at
unfolding encoded
log_fails xs bytes rest left at is joined some s at_is = record {
  within = omega (arith, at_is);
  before = (s.more, (xs ++ s.value ∷ [], All-push IsChange xs s.value is s.is, begun));
  here = λ lt (more, (ys, isy, eq)). here s.bad refl lt more ys isy eq;
  not_whole = λ (ys, isy, eq). let t = tail_of xs ys rest is isy (sym joined ∙ eq) in whole_here rest left s t.behind s.bad refl some t.each t.bytes;
}
  where
    parts : bytes ≡ (flat_map encoded_change xs ++ s.good) ++ s.bad
    parts = joined ∙ ap (λ (x : List ℕ). flat_map encoded_change xs ++ x) s.joined ∙ sym (append_assoc (flat_map encoded_change xs) s.good s.bad)

    long : length (flat_map encoded_change xs ++ s.good) ≡ at
    long = omega (arith, at_is, ap length parts, length-append (flat_map encoded_change xs ++ s.good) s.bad, s.count)

    taken : take at bytes ≡ (flat_map encoded_change xs ++ s.good)
    taken = ap (take at) parts ∙ take_at (flat_map encoded_change xs ++ s.good) s.bad at long

    begun : take at bytes ++ s.more ≡ flat_map encoded_change (xs ++ s.value ∷ [])
    begun = ap (λ (x : List ℕ). x ++ s.more) taken ∙ append_assoc (flat_map encoded_change xs) s.good s.more
        ∙ ap (λ (x : List ℕ). flat_map encoded_change xs ++ x) (sym s.begun) ∙ flat_map_more encoded_change [] xs s.value

    here : (bad : List ℕ) → s.bad ≡ bad → at < length bytes → (more : List ℕ) (ys : List Change) → All IsChange ys → take (at + 1) bytes ++ more ≡ flat_map encoded_change ys → ⊥
    here [] e lt more ys isy eq = omega (arith, lt, long, ap length parts, length-append (flat_map encoded_change xs ++ s.good) s.bad, ap length e)
    here (b ∷ behind) e lt more ys isy eq =
        let next : bytes ≡ ((flat_map encoded_change xs ++ s.good) ++ b ∷ []) ++ behind = parts ∙ ap (λ (x : List ℕ). (flat_map encoded_change xs ++ s.good) ++ x) e ∙ sym (append_assoc (flat_map encoded_change xs ++ s.good) (b ∷ []) behind) in
        let seen : take (at + 1) bytes ≡ (flat_map encoded_change xs ++ s.good) ++ b ∷ [] = ap (take (at + 1)) next ∙ take_at ((flat_map encoded_change xs ++ s.good) ++ b ∷ []) behind (at + 1) (omega (arith, long, length-append (flat_map encoded_change xs ++ s.good) (b ∷ []))) in
        let e2 : flat_map encoded_change xs ++ (s.good ++ (b ∷ more)) ≡ flat_map encoded_change ys
        = sym (append_assoc (flat_map encoded_change xs) s.good (b ∷ more)) ∙ sym (append_assoc (flat_map encoded_change xs ++ s.good) (b ∷ []) more) ∙ ap (λ (x : List ℕ). x ++ more) (sym seen) ∙ eq in
        let t = tail_of xs ys (s.good ++ (b ∷ more)) is isy e2 in
        first_here s.good s.bad rest left s b behind more t.behind e t.each t.bytes

-- a list is known by its bytes
pub same_changes : (a b : List Change) → AreChanges a → AreChanges b → encoded a ≡ encoded b → a ≡ b
unfolding encoded
same_changes a b isa isb e =
    let t = tail_of a b [] isa isb (append-nil (flat_map encoded_change a) ∙ e) in
    sym (t.joined ∙ ap (λ (x : List Change). a ++ x) (no_more t.behind t.bytes) ∙ append-nil a)
  where
    no_more : (zs : List Change) → [] ≡ flat_map encoded_change zs → zs ≡ []
    no_more [] e = refl
    no_more (z ∷ zs) e = absurd (omega (arith, ap length e, change_some z, length-append (encoded_change z) (flat_map encoded_change zs)))

pub no_longer : (c d : Change) (more : List ℕ) → IsChange c → IsChange d → encoded_change c ++ more ≡ encoded_change d → (c ≡ d) × (more ≡ [])
no_longer c d more isc isd e = sole_change.same c d more [] isc isd (e ∙ sym (append-nil (encoded_change d)))

-- one change more
pub one_more : (xs : List Change) (c : Change) (bytes rest after : List ℕ) → AreChanges xs → bytes ≡ flat_map encoded_change xs ++ rest → Took change_form rest c after → AreChanges (xs ++ c ∷ []) × (bytes ≡ flat_map encoded_change (xs ++ c ∷ []) ++ after)
one_more xs c bytes rest after is joined took = (
  All-push IsChange xs c is took.is,
  joined ∙ ap (λ (x : List ℕ). flat_map encoded_change xs ++ x) took.joined ∙ sym (append_assoc (flat_map encoded_change xs) (encoded_change c) after)
      ∙ ap (λ (x : List ℕ). x ++ after) (flat_map_more encoded_change [] xs c),
)

pub fewer : (c : Change) (rest after : List ℕ) → Took change_form rest c after → length after < length rest
fewer c rest after took = omega (arith, ap length took.joined, change_some c, length-append (encoded_change c) after)
