-- Forms of values one behind another: how places and values are handed on.
use Rattle.std.proofs.Common.{◌≡◌, ℕ, ◌+◌, ◌-◌, ◌<◌, ◌≤◌, List, [], ◌∷◌, ◌++◌, length, take, drop, replicate, get_or, refl, sym, ap, subst, ◌∙◌, append_assoc, arith, length-append, length-drop}
use Rattle.std.specs.Prelude.{All}
use Rattle.std.specs.List.{flat_map}
use Rattle.std.proofs.lemmas.List.{append-nil, length-take-le, take_at, drop_at, take-append-drop, take-append-le, take_more, drop_more, length-replicate, length_push, flat_map_more, nil_from_length}
use Rattle.std.proofs.lemmas.List.Concat.{flat_map-append}
use Rattle.std.proofs.lemmas.List.Elements.{All-nil, All-cons, All-head, All-tail, All-append, All-push, All-replicate}
use Rattle.bk_text.specs.Places.{Begun, FailsAt, OfLength}
use Rattle.byte_formats.specs.declared.fault.ReadFault.{ReadFault}
use Rattle.byte_formats.specs.declared.fault.ReadFault.TheVariants.{Bad, Memory}
use Rattle.byte_formats.specs.Formats.{Format, Took, Sticks, Stops, both, times, stated}

-- a value and what stands behind it are known by their bytes
pub record Sole {X : Type 0} (F : Format X) : Type 0 where
  pub same : (x y : X) (r s : List ℕ) → F.Is x → F.Is y → F.spelled x ++ r ≡ F.spelled y ++ s → (x ≡ y) × (r ≡ s)

-- there is a value
pub record Has {X : Type 0} (F : Format X) : Type 0 where
  pub value : X
  pub is : F.Is value

pub split_same : (a b r s : List ℕ) → length a ≡ length b → a ++ r ≡ b ++ s → (a ≡ b) × (r ≡ s)
split_same a b r s long e = (
  sym (take_at a r (length a) refl) ∙ ap (take (length a)) e ∙ take_at b s (length a) (sym long),
  sym (drop_at a r (length a) refl) ∙ ap (drop (length a)) e ∙ drop_at b s (length a) (sym long),
)

-- ---- two values

pub both_first : {X Y : Type 0} (F : Format X) (G : X → Format Y) (bytes : List ℕ) (left : ℕ) → ((x : X) → F.Is x → Has (G x)) → Sticks F bytes left → Sticks (both F G) bytes left
both_first F G bytes left some s =
    let t = some s.value s.is in
    let tail : List ℕ = (G s.value).spelled t.value in
    record {
      good = s.good;
      bad = s.bad;
      joined = s.joined;
      count = s.count;
      value = (s.value, t.value);
      is = (s.is, t.is);
      more = s.more ++ tail;
      wanting = omega (arith, s.wanting, length-append s.more tail);
      begun = ap (λ (x : List ℕ). x ++ tail) s.begun ∙ append_assoc s.good s.more tail;
      here = λ b behind e p rest after is eq. s.here b behind e p.0 ((G p.0).spelled p.1 ++ rest) after is.0 (eq ∙ append_assoc (F.spelled p.0) ((G p.0).spelled p.1) rest);
    }

pub both_second : {X Y : Type 0} (F : Format X) (G : X → Format Y) (bytes : List ℕ) (x : X) (rest : List ℕ) (left : ℕ) → Sole F → Took F bytes x rest → Sticks (G x) rest left → Sticks (both F G) bytes left
both_second {X} {Y} F G bytes x rest left sole took s = record {
  good = F.spelled x ++ s.good;
  bad = s.bad;
  joined = took.joined ∙ ap (λ (y : List ℕ). F.spelled x ++ y) s.joined ∙ sym (append_assoc (F.spelled x) s.good s.bad);
  count = s.count;
  value = (x, s.value);
  is = (took.is, s.is);
  more = s.more;
  wanting = s.wanting;
  begun = ap (λ (y : List ℕ). F.spelled x ++ y) s.begun ∙ sym (append_assoc (F.spelled x) s.good s.more);
  here = λ b behind e p r after is eq.
      let e2 : F.spelled x ++ (s.good ++ (b ∷ after)) ≡ F.spelled p.0 ++ ((G p.0).spelled p.1 ++ r)
      = sym (append_assoc (F.spelled x) s.good (b ∷ after)) ∙ eq ∙ append_assoc (F.spelled p.0) ((G p.0).spelled p.1) r in
      let two = sole.same x p.0 (s.good ++ (b ∷ after)) ((G p.0).spelled p.1 ++ r) took.is is.0 e2 in
      s.here b behind e p.1 r after (subst (λ (z : X). (G z).Is p.1) (sym two.0) is.1) (subst (λ (z : X). s.good ++ (b ∷ after) ≡ (G z).spelled p.1 ++ r) (sym two.0) two.1);
}

pub stops_first : {X Y : Type 0} (F : Format X) (G : X → Format Y) (bytes : List ℕ) (fault : ReadFault) → ((x : X) → F.Is x → Has (G x)) → Stops F bytes fault → Stops (both F G) bytes fault
stops_first F G bytes (Bad left) some s = both_first F G bytes left some s
stops_first F G bytes Memory some s = tt

pub stops_second : {X Y : Type 0} (F : Format X) (G : X → Format Y) (bytes : List ℕ) (x : X) (rest : List ℕ) (fault : ReadFault) → Sole F → Took F bytes x rest → Stops (G x) rest fault → Stops (both F G) bytes fault
stops_second F G bytes x rest (Bad left) sole took s = both_second F G bytes x rest left sole took s
stops_second F G bytes x rest Memory sole took s = tt

pub took_both : {X Y : Type 0} (F : Format X) (G : X → Format Y) (bytes : List ℕ) (x : X) (rest : List ℕ) (y : Y) (more : List ℕ) → Took F bytes x rest → Took (G x) rest y more → Took (both F G) bytes (x, y) more
took_both F G bytes x rest y more first second = record {
  is = (first.is, second.is);
  joined = first.joined ∙ ap (λ (z : List ℕ). F.spelled x ++ z) second.joined ∙ sym (append_assoc (F.spelled x) ((G x).spelled y) more);
}

pub sole_both : {X Y : Type 0} (F : Format X) (G : X → Format Y) → Sole F → ((x : X) → F.Is x → Sole (G x)) → Sole (both F G)
sole_both {X} {Y} F G first second = record { same = go }
  where
    go : (p q : X × Y) (r s : List ℕ) → (both F G).Is p → (both F G).Is q → (both F G).spelled p ++ r ≡ (both F G).spelled q ++ s → (p ≡ q) × (r ≡ s)
    go (a, b) (c, d) r s isp isq e =
        let e2 : F.spelled a ++ ((G a).spelled b ++ r) ≡ F.spelled c ++ ((G c).spelled d ++ s)
        = sym (append_assoc (F.spelled a) ((G a).spelled b) r) ∙ e ∙ append_assoc (F.spelled c) ((G c).spelled d) s in
        let one = first.same a c ((G a).spelled b ++ r) ((G c).spelled d ++ s) isp.0 isq.0 e2 in
        let is : (G a).Is d = subst (λ (z : X). (G z).Is d) (sym one.0) isq.1 in
        let e3 : (G a).spelled b ++ r ≡ (G a).spelled d ++ s = subst (λ (z : X). (G a).spelled b ++ r ≡ (G z).spelled d ++ s) (sym one.0) one.1 in
        let two = (second a isp.0).same b d r s isp.1 is e3 in
        (ap (λ (z : X). (z, b)) one.0 ∙ ap (λ (z : Y). (c, z)) two.0, two.1)

pub has_both : {X Y : Type 0} (F : Format X) (G : X → Format Y) (f : Has F) → Has (G f.value) → Has (both F G)
has_both F G f g = record { value = (f.value, g.value); is = (f.is, g.is) }

-- ---- the same values seen as others

pub record Like {X Z : Type 0} (F : Format X) (G : Format Z) : Type 0 where
  pub to : X → Z
  pub from : Z → X
  pub there : (x : X) → F.Is x → G.Is (to x)
  pub back : (z : Z) → G.Is z → F.Is (from z)
  pub again : (x : X) → F.Is x → from (to x) ≡ x
  pub restored : (z : Z) → G.Is z → to (from z) ≡ z
  pub same : (z : Z) → G.Is z → G.spelled z ≡ F.spelled (from z)

pub like_sticks : {X Z : Type 0} (F : Format X) (G : Format Z) (like : Like F G) (bytes : List ℕ) (left : ℕ) → Sticks F bytes left → Sticks G bytes left
like_sticks F G like bytes left s = record {
  good = s.good;
  bad = s.bad;
  joined = s.joined;
  count = s.count;
  value = like.to s.value;
  is = like.there s.value s.is;
  more = s.more;
  wanting = s.wanting;
  begun = like.same (like.to s.value) (like.there s.value s.is) ∙ ap F.spelled (like.again s.value s.is) ∙ s.begun;
  here = λ b behind e z rest after is eq. s.here b behind e (like.from z) rest after (like.back z is) (eq ∙ ap (λ (y : List ℕ). y ++ rest) (like.same z is));
}

pub stops_like : {X Z : Type 0} (F : Format X) (G : Format Z) (like : Like F G) (bytes : List ℕ) (fault : ReadFault) → Stops F bytes fault → Stops G bytes fault
stops_like F G like bytes (Bad left) s = like_sticks F G like bytes left s
stops_like F G like bytes Memory s = tt

pub took_like : {X Z : Type 0} (F : Format X) (G : Format Z) (like : Like F G) (bytes : List ℕ) (x : X) (rest : List ℕ) → Took F bytes x rest → Took G bytes (like.to x) rest
took_like F G like bytes x rest took = record {
  is = like.there x took.is;
  joined = took.joined ∙ ap (λ (y : List ℕ). y ++ rest) (sym (like.same (like.to x) (like.there x took.is) ∙ ap F.spelled (like.again x took.is)));
}

pub sole_like : {X Z : Type 0} (F : Format X) (G : Format Z) → Like F G → Sole F → Sole G
sole_like F G like sole = record {
  same = λ z w r s isz isw e.
      let e2 = sym (ap (λ (y : List ℕ). y ++ r) (like.same z isz)) ∙ e ∙ ap (λ (y : List ℕ). y ++ s) (like.same w isw) in
      let one = sole.same (like.from z) (like.from w) r s (like.back z isz) (like.back w isw) e2 in
      (sym (like.restored z isz) ∙ ap like.to one.0 ∙ like.restored w isw, one.1);
}

pub has_like : {X Z : Type 0} (F : Format X) (G : Format Z) (like : Like F G) → Has F → Has G
has_like F G like f = record { value = like.to f.value; is = like.there f.value f.is }

-- ---- many values

pub sole_all : {X : Type 0} (F : Format X) → Sole F → (xs ys : List X) (r s : List ℕ) → length xs ≡ length ys → All F.Is xs → All F.Is ys → flat_map F.spelled xs ++ r ≡ flat_map F.spelled ys ++ s → (xs ≡ ys) × (r ≡ s)
sole_all F sole [] [] r s long isx isy e = (refl, e)
sole_all F sole [] (y ∷ ys) r s long isx isy e = absurd (omega (arith, long))
sole_all F sole (x ∷ xs) [] r s long isx isy e = absurd (omega (arith, long))
sole_all {X} F sole (x ∷ xs) (y ∷ ys) r s long isx isy e =
    let e2 : F.spelled x ++ (flat_map F.spelled xs ++ r) ≡ F.spelled y ++ (flat_map F.spelled ys ++ s)
    = sym (append_assoc (F.spelled x) (flat_map F.spelled xs) r) ∙ e ∙ append_assoc (F.spelled y) (flat_map F.spelled ys) s in
    let one = sole.same x y (flat_map F.spelled xs ++ r) (flat_map F.spelled ys ++ s) (All-head F.Is x xs isx) (All-head F.Is y ys isy) e2 in
    let two = sole_all F sole xs ys r s (omega (arith, long)) (All-tail F.Is x xs isx) (All-tail F.Is y ys isy) one.1 in
    (ap (λ (z : X). z ∷ xs) one.0 ∙ ap (λ (zs : List X). y ∷ zs) two.0, two.1)

pub sole_times : {X : Type 0} (n : ℕ) (F : Format X) → Sole F → Sole (times n F)
sole_times n F sole = record { same = λ xs ys r s isx isy e. sole_all F sole xs ys r s (isx.0 ∙ sym isy.0) isx.1 isy.1 e }

pub has_times : {X : Type 0} (n : ℕ) (F : Format X) → Has F → Has (times n F)
has_times n F f = record { value = replicate n f.value; is = (length-replicate n f.value, All-replicate F.Is n f.value f.is) }

-- values behind those that were read
pub record Next {X : Type 0} (F : Format X) (bytes rest : List ℕ) : Type 0 where
  pub value : X
  pub is : F.Is value
  pub behind : List ℕ
  pub joined : bytes ≡ F.spelled value ++ (behind ++ rest)

pub next_of : {X : Type 0} (F : Format X) → Sole F → (xs ys : List X) (r s : List ℕ) → length xs < length ys → All F.Is xs → All F.Is ys → flat_map F.spelled xs ++ r ≡ flat_map F.spelled ys ++ s → Next F r s
next_of F sole xs [] r s lt isx isy e = absurd (omega (arith, lt))
next_of F sole [] (y ∷ ys) r s lt isx isy e = record {
  value = y;
  is = All-head F.Is y ys isy;
  behind = flat_map F.spelled ys;
  joined = e ∙ append_assoc (F.spelled y) (flat_map F.spelled ys) s;
}
next_of F sole (x ∷ xs) (y ∷ ys) r s lt isx isy e =
    let e2 : F.spelled x ++ (flat_map F.spelled xs ++ r) ≡ F.spelled y ++ (flat_map F.spelled ys ++ s)
    = sym (append_assoc (F.spelled x) (flat_map F.spelled xs) r) ∙ e ∙ append_assoc (F.spelled y) (flat_map F.spelled ys) s in
    let one = sole.same x y (flat_map F.spelled xs ++ r) (flat_map F.spelled ys ++ s) (All-head F.Is x xs isx) (All-head F.Is y ys isy) e2 in
    next_of F sole xs ys r s (omega (arith, lt)) (All-tail F.Is x xs isx) (All-tail F.Is y ys isy) one.1

times_sticks : {X : Type 0} (n : ℕ) (F : Format X) (xs : List X) (bytes rest : List ℕ) (left : ℕ) → Sole F → Has F → length xs < n → All F.Is xs → bytes ≡ flat_map F.spelled xs ++ rest → Sticks F rest left → Sticks (times n F) bytes left
times_sticks {X} n F xs bytes rest left sole has lt all joined s =
    let fill : List X = replicate (n - length xs - 1) has.value in
    let tail : List ℕ = flat_map F.spelled fill in
    let front : List ℕ = flat_map F.spelled xs in
    let value : List X = xs ++ (s.value ∷ fill) in
    let long : length value ≡ n = omega (arith, lt, length-append xs (s.value ∷ fill), length-replicate {A = X} (n - length xs - 1) has.value) in
    record {
      good = front ++ s.good;
      bad = s.bad;
      joined = joined ∙ ap (λ (y : List ℕ). front ++ y) s.joined ∙ sym (append_assoc front s.good s.bad);
      count = s.count;
      value = value;
      is = (long, All-append F.Is xs (s.value ∷ fill) all (All-cons F.Is s.value fill s.is (All-replicate F.Is (n - length xs - 1) has.value has.is)));
      more = s.more ++ tail;
      wanting = omega (arith, s.wanting, length-append s.more tail);
      begun = flat_map-append F.spelled xs (s.value ∷ fill)
          ∙ ap (λ (y : List ℕ). front ++ y) (ap (λ (y : List ℕ). y ++ tail) s.begun ∙ append_assoc s.good s.more tail)
          ∙ sym (append_assoc front s.good (s.more ++ tail));
      here = λ b behind e ys r after is eq.
          let e2 : front ++ (s.good ++ (b ∷ after)) ≡ flat_map F.spelled ys ++ r = sym (append_assoc front s.good (b ∷ after)) ∙ eq in
          let next = next_of F sole xs ys (s.good ++ (b ∷ after)) r (omega (arith, lt, is.0)) all is.1 e2 in
          s.here b behind e next.value (next.behind ++ r) after next.is next.joined;
    }

pub stops_times : {X : Type 0} (n : ℕ) (F : Format X) (xs : List X) (bytes rest : List ℕ) (fault : ReadFault) → Sole F → Has F → length xs < n → All F.Is xs → bytes ≡ flat_map F.spelled xs ++ rest → Stops F rest fault → Stops (times n F) bytes fault
stops_times n F xs bytes rest (Bad left) sole has lt all joined s = times_sticks n F xs bytes rest left sole has lt all joined s
stops_times n F xs bytes rest Memory sole has lt all joined s = tt

-- one value more
pub record More {X : Type 0} (F : Format X) (ys : List X) (bytes after : List ℕ) (n : ℕ) : Type 0 where
  pub long : length ys ≡ n
  pub each : All F.Is ys
  pub joined : bytes ≡ flat_map F.spelled ys ++ after

pub times_more : {X : Type 0} (F : Format X) (xs : List X) (x : X) (ys : List X) (bytes rest after : List ℕ) (n : ℕ) → ys ≡ xs ++ x ∷ [] → length xs ≡ n → All F.Is xs → bytes ≡ flat_map F.spelled xs ++ rest → Took F rest x after → More F ys bytes after (n + 1)
times_more {X} F xs x ys bytes rest after n pushed long all joined took = record {
  long = omega (arith, ap length pushed, length_push xs x, long);
  each = subst (All F.Is) (sym pushed) (All-push F.Is xs x all took.is);
  joined = joined ∙ ap (λ (z : List ℕ). flat_map F.spelled xs ++ z) took.joined ∙ sym (append_assoc (flat_map F.spelled xs) (F.spelled x) after)
      ∙ ap (λ (z : List ℕ). z ++ after) (flat_map_more F.spelled [] xs x) ∙ ap (λ (zs : List X). flat_map F.spelled zs ++ after) (sym pushed);
}

pub times_none : {X : Type 0} (F : Format X) (ys : List X) (bytes : List ℕ) → ys ≡ [] → More F ys bytes bytes 0
times_none {X} F ys bytes none = record {
  long = ap length none;
  each = subst (All F.Is) (sym none) (All-nil F.Is);
  joined = ap (λ (zs : List X). flat_map F.spelled zs ++ bytes) (sym none);
}

pub took_times : {X : Type 0} (n : ℕ) (F : Format X) (xs : List X) (bytes rest : List ℕ) → length xs ≡ n → All F.Is xs → bytes ≡ flat_map F.spelled xs ++ rest → Took (times n F) bytes xs rest
took_times n F xs bytes rest long all joined = record { is = (long, all); joined = joined }

-- ---- texts of a stated length

pub sole_stated : (n : ℕ) (Form : List ℕ → Type 0) → Sole (stated n Form)
sole_stated n Form = record { same = λ x y r s isx isy e. split_same x y r s (isx.1 ∙ sym isy.1) e }

pub stated_stuck : (n : ℕ) (Form : List ℕ → Type 0) (front tail rest : List ℕ) (at left : ℕ) → length front ≤ n → at < length front → rest ≡ front ++ tail → left ≡ length rest - at → FailsAt (OfLength n Form) front at → Sticks (stated n Form) rest left
stated_stuck n Form front tail rest at left within lt joined is f =
    let seen : length (take at front) ≡ at = length-take-le at front (omega arith) in
    record {
      good = take at front;
      bad = drop at front ++ tail;
      joined = joined ∙ ap (λ (x : List ℕ). x ++ tail) (sym (take-append-drop at front)) ∙ append_assoc (take at front) (drop at front) tail;
      count = omega (arith, is, ap length joined, length-append front tail, length-append (drop at front) tail, length-drop at front, lt);
      value = take at front ++ f.before.0;
      is = f.before.1;
      more = f.before.0;
      wanting = omega (arith, f.before.1.1, length-append (take at front) f.before.0, seen, lt, within);
      begun = refl;
      here = go;
    }
  where
    go : (b : ℕ) (behind : List ℕ) → drop at front ++ tail ≡ b ∷ behind → (x r after : List ℕ) → OfLength n Form x → take at front ++ (b ∷ after) ≡ x ++ r → ⊥
    go b behind e x r after isx eq =
        let byte : get_or front at 0 ≡ b = let d = drop_more front at 0 lt in let e2 : (get_or front at 0 ∷ drop (at + 1) front) ++ tail ≡ b ∷ behind = ap (λ (y : List ℕ). y ++ tail) (sym d) ∙ e in cc in
        let more_is : take (at + 1) front ≡ take at front ++ (b ∷ []) = take_more front at 0 lt ∙ ap (λ (y : ℕ). take at front ++ (y ∷ [])) byte in
        let long : length (take (at + 1) front) ≡ at + 1 = length-take-le (at + 1) front (omega arith) in
        let eq2 : take (at + 1) front ++ after ≡ x ++ r = ap (λ (y : List ℕ). y ++ after) more_is ∙ append_assoc (take at front) (b ∷ []) after ∙ eq in
        let x_front : take (at + 1) x ≡ take (at + 1) front
        = sym (take-append-le (at + 1) x r (omega (arith, isx.1, lt, within))) ∙ ap (take (at + 1)) (sym eq2) ∙ take_at (take (at + 1) front) after (at + 1) long in
        let x_is : x ≡ take (at + 1) front ++ drop (at + 1) x = sym (take-append-drop (at + 1) x) ∙ ap (λ (y : List ℕ). y ++ drop (at + 1) x) x_front in
        f.here lt (drop (at + 1) x, subst (OfLength n Form) x_is isx)

pub stated_short : (n : ℕ) (Form : List ℕ → Type 0) (front tail rest : List ℕ) → length front < n → (length front < n → tail ≡ []) → rest ≡ front ++ tail → Begun (OfLength n Form) front → Sticks (stated n Form) rest 0
stated_short n Form front tail rest lt none joined begun = record {
  good = front;
  bad = [];
  joined = joined ∙ ap (λ (y : List ℕ). front ++ y) (none lt);
  count = refl;
  value = front ++ begun.0;
  is = begun.1;
  more = begun.0;
  wanting = omega (arith, begun.1.1, length-append front begun.0, lt);
  begun = refl;
  here = λ b behind e. absurd (cc e);
}

pub stated_took : (n : ℕ) (Form : List ℕ → Type 0) (front tail rest : List ℕ) → length front ≤ n → n ≤ length front → rest ≡ front ++ tail → Begun (OfLength n Form) front → Took (stated n Form) rest front tail
stated_took n Form front tail rest low high joined begun =
    let none : begun.0 ≡ [] = nil_from_length begun.0 (omega (arith, begun.1.1, length-append front begun.0, low, high)) in
    record {
      is = subst (OfLength n Form) (ap (λ (y : List ℕ). front ++ y) none ∙ append-nil front) begun.1;
      joined = joined;
    }
