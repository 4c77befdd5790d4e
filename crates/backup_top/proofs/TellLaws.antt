-- How a piece is told in parts.
use Rattle.std.proofs.Common.{◌≡◌, inl, inr, ℕ, ◌+◌, ◌-◌, ◌<◌, ◌≤◌, get_or, Bool, List, [], ◌∷◌, ◌++◌, length, take, drop, refl, sym, ◌∙◌, ap, subst, arith, append_assoc}
use Rattle.std.proofs.lemmas.List.{take-append-drop, take_rest, length-drop, drop_more, take_more, append-nil}
use Rattle.std.proofs.lemmas.List.Concat.{flat_map-append}
use Rattle.std.specs.List.{flat_map}
use Rattle.std.proofs.Math.Seq.{take-add}
use Rattle.crash_moments.specs.Moments.{Moments, Leads}
use Rattle.crash_moments.specs.Telling.{ToldPart}
use Rattle.crash_moments.proofs.Joining.{stays, joined, weakened}
use Rattle.media_core.specs.Media.{Image, Tells}
use Rattle.backup_top.specs.Tells.{ToldFront, TellsOn, OnlyGrows, OnlyTells}

-- what is behind a place, as the code slices it
rest_is : (at : ℕ) (p : List ℕ) → take (length p - at) (drop at p) ≡ drop at p
rest_is at p = take_rest p at

pub more_told : (at n : ℕ) (p before mid after : List ℕ) → mid ≡ before ++ take at p → after ≡ mid ++ take n (take (length p - at) (drop at p)) → after ≡ before ++ take (at + n) p
more_told at n p before mid after first second =
    second ∙ ap (λ (l : List ℕ). mid ++ take n l) (rest_is at p) ∙ ap (λ (l : List ℕ). l ++ take n (drop at p)) first ∙ append_assoc before (take at p) (take n (drop at p)) ∙ ap (λ (l : List ℕ). before ++ l) (sym (take-add at n p))

-- a failed call leaves a front
pub part_told : (at : ℕ) (p before mid after : List ℕ) → mid ≡ before ++ take at p → ToldPart (take (length p - at) (drop at p)) mid after → ToldFront p before after
part_told at p before mid after first (n, second) = (take (at + n) p, (drop (at + n) p, sym (take-append-drop (at + n) p)), more_told at n p before mid after first second)

pub rest_length : (at : ℕ) (p : List ℕ) → length (take (length p - at) (drop at p)) ≡ length p - at
rest_length at p = ap length (rest_is at p) ∙ length-drop at p

-- the part of a piece that was told, and what of the rest is taken now
pub part_taken : (at n : ℕ) (p : List ℕ) → take at p ++ take n (take (length p - at) (drop at p)) ≡ take (at + n) p
part_taken at n p = ap (λ (l : List ℕ). take at p ++ take n l) (rest_is at p) ∙ sym (take-add at n p)

pub part_rest : (at : ℕ) (p : List ℕ) → take at p ++ take (length p - at) (drop at p) ≡ p
part_rest at p = ap (λ (l : List ℕ). take at p ++ l) (rest_is at p) ∙ take-append-drop at p

-- what was told so far of a piece
pub record TellingAt {D : Type 0} (tells : Type 0) (seen : D → Image) (time : Moments D Image) (at : ℕ) (piece : List ℕ) (old new : D) : Type 0 where
  pub within : at ≤ length piece
  pub told : tells → (seen new).told ≡ (seen old).told ++ take at piece
  pub images : tells → Leads time old new (TellsOn (take at piece) (seen old).told)

-- nothing is a front
pub none_told : (lines told : List ℕ) → ToldFront lines told told
none_told lines told = ([], (lines, refl), sym (append-nil told))

-- a front of the second lines, behind the first ones
pub second_told : (first second before mid after : List ℕ) → mid ≡ before ++ first → ToldFront second mid after → ToldFront (first ++ second) before after
second_told first second before mid after told (front, (rest, heads), is) =
    (first ++ front, (rest, ap (λ (l : List ℕ). first ++ l) heads ∙ sym (append_assoc first front rest)), is ∙ ap (λ (l : List ℕ). l ++ front) told ∙ append_assoc before first front)

-- a front of the first lines
pub first_told : (first second before after : List ℕ) → ToldFront first before after → ToldFront (first ++ second) before after
first_told first second before after (front, (rest, heads), is) = (front, (rest ++ second, ap (λ (l : List ℕ). l ++ second) heads ∙ append_assoc front rest second), is)

-- the lines of the elements before a place, of the one there, and of those behind it
pub lines_split : {X : Type 0} (line : X → List ℕ) (xs : List X) (i : ℕ) (d : X) → i < length xs
    → flat_map line xs ≡ flat_map line (take i xs) ++ (line (get_or xs i d) ++ flat_map line (drop (i + 1) xs))
lines_split {X = X} line xs i d within =
    ap (flat_map line) (sym (take-append-drop i xs) ∙ ap (λ (l : List X). take i xs ++ l) (drop_more xs i d within))
    ∙ flat_map-append line (take i xs) (get_or xs i d ∷ drop (i + 1) xs)

-- the lines so far and that of the element there are those up to it; with those behind it they are all
pub lines_upto : {X : Type 0} (line : X → List ℕ) (xs : List X) (i : ℕ) (x : X) → i < length xs → x ≡ get_or xs i x → flat_map line (take i xs) ++ line x ≡ flat_map line (take (i + 1) xs)
lines_upto {X = X} line xs i x within is =
    sym (ap (flat_map line) (take_more xs i x within ∙ ap (λ (y : X). take i xs ++ y ∷ []) (sym is)) ∙ flat_map-append line (take i xs) (x ∷ []) ∙ ap (λ (l : List ℕ). flat_map line (take i xs) ++ l) (append-nil (line x)))

pub lines_through : {X : Type 0} (line : X → List ℕ) (xs : List X) (i : ℕ) (x : X) → i < length xs → x ≡ get_or xs i x
    → (flat_map line (take i xs) ++ line x) ++ flat_map line (drop (i + 1) xs) ≡ flat_map line xs
lines_through {X = X} line xs i x within is =
    append_assoc (flat_map line (take i xs)) (line x) (flat_map line (drop (i + 1) xs))
    ∙ sym (lines_split line xs i x within ∙ ap (λ (y : X). flat_map line (take i xs) ++ (line y ++ flat_map line (drop (i + 1) xs))) (sym is))

-- one element's line more
pub line_more : {X : Type 0} (line : X → List ℕ) (xs : List X) (i : ℕ) (x : X) (before mid after : List ℕ) → i < length xs → x ≡ get_or xs i x
    → mid ≡ before ++ flat_map line (take i xs) → after ≡ mid ++ line x → after ≡ before ++ flat_map line (take (i + 1) xs)
line_more {X = X} line xs i x before mid after within is first second =
    let upto : flat_map line (take (i + 1) xs) ≡ flat_map line (take i xs) ++ line x = ap (flat_map line) (take_more xs i x within ∙ ap (λ (y : X). take i xs ++ y ∷ []) (sym is)) ∙ flat_map-append line (take i xs) (x ∷ []) ∙ ap (λ (l : List ℕ). flat_map line (take i xs) ++ l) (append-nil (line x)) in
    second ∙ ap (λ (l : List ℕ). l ++ line x) first ∙ append_assoc before (flat_map line (take i xs)) (line x) ∙ ap (λ (l : List ℕ). before ++ l) (sym upto)

-- an element's line was told in part
pub line_part : {X : Type 0} (line : X → List ℕ) (xs : List X) (i : ℕ) (x : X) (before mid after : List ℕ) → i < length xs → x ≡ get_or xs i x
    → mid ≡ before ++ flat_map line (take i xs) → ToldFront (line x) mid after → ToldFront (flat_map line xs) before after
line_part {X = X} line xs i x before mid after within is first part =
    let whole : flat_map line xs ≡ flat_map line (take i xs) ++ (line x ++ flat_map line (drop (i + 1) xs)) = lines_split line xs i x within ∙ ap (λ (y : X). flat_map line (take i xs) ++ (line y ++ flat_map line (drop (i + 1) xs))) (sym is) in
    subst (λ (l : List ℕ). ToldFront l before after) (sym whole)
    (second_told (flat_map line (take i xs)) (line x ++ flat_map line (drop (i + 1) xs)) before mid after first (first_told (line x) (flat_map line (drop (i + 1) xs)) mid after part))

-- nothing was told yet
same_grows : (old new : Image) → new ≡ old → OnlyGrows old new
same_grows old new same = record { files = λ k. ap (λ (i : Image). i.file k) same; told = ([], ap (λ (i : Image). i.told) same ∙ sym (append-nil old.told)) }

pub still_grows : {D : Type 0} (time : Moments D Image) (s : D) → Leads time s s OnlyGrows
still_grows time s = weakened time s s (λ a b. b ≡ a) OnlyGrows (stays time s) (λ a b was same. same_grows a b same)

tells_grows : (taken piece : List ℕ) (old new : Image) → Tells taken piece old new → OnlyGrows old new
tells_grows taken piece old new step = record {
  files = step.files;
  told = elim step.told [
    | inl same ↦ ([], same ∙ sym (append-nil old.told))
    | inr (all, (n, more)) ↦ (take n piece, more ∙ ap (λ (l : List ℕ). l ++ take n piece) (sym all))
  ];
}

grows_twice : (a b c : Image) → OnlyGrows a b → OnlyGrows b c → OnlyGrows a c
grows_twice a b c first second = record {
  files = λ k. second.files k ∙ first.files k;
  told =
      let (one, is_one) = first.told in
      let (two, is_two) = second.told in
      (one ++ two, is_two ∙ ap (λ (l : List ℕ). l ++ two) is_one ∙ append_assoc a.told one two);
}

both_grow : {D : Type 0} (time : Moments D Image) (old mid new : D) → Leads time old mid OnlyGrows → Leads time mid new OnlyGrows → Leads time old new OnlyGrows
both_grow time old mid new first second = joined time old mid new OnlyGrows OnlyGrows OnlyGrows first second (λ a b was step. step) (λ a b c was step left next. grows_twice a b c step next)

-- one piece more
pub grows_more : {D : Type 0} (time : Moments D Image) (taken piece : List ℕ) (old mid new : D) → Leads time old mid OnlyGrows → Leads time mid new (Tells taken piece) → Leads time old new OnlyGrows
grows_more time taken piece old mid new first second = both_grow time old mid new first (weakened time mid new (Tells taken piece) OnlyGrows second (λ a b was step. tells_grows taken piece a b step))

-- one call after another
pub only_more : {D : Type 0} (tells : Type 0) (seen : D → Image) (time : Moments D Image) (count : D → ℕ) (present : D → ℕ → Bool) (faults tell_faults : D → ℕ) (old mid new : D)
    → OnlyTells tells seen time count present faults tell_faults old mid → OnlyTells tells seen time count present faults tell_faults mid new → OnlyTells tells seen time count present faults tell_faults old new
only_more tells seen time count present faults tell_faults old mid new first second = record {
  files = λ told. second.files told ∙ first.files told;
  images = λ told. both_grow time old mid new (first.images told) (second.images told);
  same_count = second.same_count ∙ first.same_count;
  same_present = second.same_present ∙ first.same_present;
  faults_stay = omega (arith, first.faults_stay, second.faults_stay);
  tell_faults_stay = omega (arith, first.tell_faults_stay, second.tell_faults_stay);
}

-- the first lines, and then the second ones
pub both_told : (first second before mid after : List ℕ) → mid ≡ before ++ first → after ≡ mid ++ second → after ≡ before ++ (first ++ second)
both_told first second before mid after one two = two ∙ ap (λ (l : List ℕ). l ++ second) one ∙ append_assoc before first second
