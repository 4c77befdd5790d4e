-- Readers that answer what a format says: those of formats that are put together from others.
use Rattle.std.proofs.Common.{zero, suc, ◌≡◌, ℕ, ◌≤◌, List, [], ◌∷◌, length, refl, sym, subst, ◌∙◌, arith, lit<, Bool, true, false, ◌&&◌, nat_le}
use Rattle.std.specs.Prelude.{Ok, Err, if◌then◌else◌}
use Rattle.std.specs.List.{flat_map}
use Rattle.std.proofs.lemmas.Bool.{le-leb, leb-true, and_parts, and_from, false≢true}
use Rattle.std.proofs.lemmas.List.Elements.{All-nil, All-cons, All-head, All-tail}
use Rattle.byte_formats.specs.Formats.{Format, Took, Sticks, both, pair, times, one_in, absent}
use Rattle.byte_formats.proofs.FormatLaws.{Sole, Has, Like, both_first, both_second, took_both, sole_both, has_both, like_sticks, took_like, sole_like, has_like, sole_times, has_times}
use Rattle.byte_formats.proofs.Maybe.{sole_absent, has_absent, took_absent}
use Rattle.log_readings.specs.Readers.{Read, Reader, read_byte, taken_as, read_as, go_on, read_both, read_pair, read_times, read_absent, read_one}

-- what is read at the front of these bytes is a value of the format, or no value goes on there
abbrev pub Answers : {X : Type 0} → Format X → List ℕ → Read X → Type 0
Answers F bytes (Ok taken) = Took F bytes taken.0 taken.1
Answers F bytes (Err left) = Sticks F bytes left

-- a format of which each value is known by its bytes, with a value and its reader
pub record Reads {X : Type 0} (F : Format X) (read : Reader X) : Type 0 where
  pub sole : Sole F
  pub has : Has F
  pub answers : (bytes : List ℕ) → Answers F bytes (read bytes)

-- ---- one byte

abbrev pub one_of : (ℕ → Type 0) → Format ℕ
one_of Fits = record { Is = Fits; spelled = λ b. b ∷ [] }

sole_of : (Fits : ℕ → Type 0) → Sole (one_of Fits)
sole_of Fits = record { same = go }
  where
    go : (x y : ℕ) (r s : List ℕ) → Fits x → Fits y → x ∷ r ≡ y ∷ s → (x ≡ y) × (r ≡ s)
    go x y r s isx isy e = (cc, cc)

byte_wanting : (Fits : ℕ → Type 0) (some : ℕ) → Fits some → Sticks (one_of Fits) [] 0
byte_wanting Fits some is = record {
  good = [];
  bad = [];
  joined = refl;
  count = refl;
  value = some;
  is = is;
  more = some ∷ [];
  wanting = lit< tt;
  begun = refl;
  here = λ b behind e. absurd (cc e);
}

byte_stuck : (Fits : ℕ → Type 0) (some : ℕ) → Fits some → (a : ℕ) (r : List ℕ) → (Fits a → ⊥) → Sticks (one_of Fits) (a ∷ r) (length (a ∷ r))
byte_stuck Fits some is a r not = record {
  good = [];
  bad = a ∷ r;
  joined = refl;
  count = refl;
  value = some;
  is = is;
  more = some ∷ [];
  wanting = lit< tt;
  begun = refl;
  here = go;
}
  where
    go : (b : ℕ) (behind : List ℕ) → a ∷ r ≡ b ∷ behind → (x : ℕ) (rest after : List ℕ) → Fits x → b ∷ after ≡ x ∷ rest → ⊥
    go b behind e x rest after fits eq =
        let same : x ≡ a = let one : a ≡ b = cc in let other : b ≡ x = cc in sym other ∙ sym one in
        not (subst Fits same fits)

pub reads_byte : (Fits : ℕ → Type 0) (test : ℕ → Bool) (some : ℕ) → Fits some → ((b : ℕ) → test b ≡ true → Fits b) → ((b : ℕ) → Fits b → test b ≡ true) → Reads (one_of Fits) (read_byte test)
unfolding read_byte
reads_byte Fits test some is pass passes = record { sole = sole_of Fits; has = record { value = some; is = is }; answers = go }
  where
    by : (b : ℕ) (rest : List ℕ) (t : Bool) → test b ≡ t → Answers (one_of Fits) (b ∷ rest) (if t then Ok (b, rest) else Err (length (b ∷ rest)))
    by b rest true e = record { is = pass b e; joined = refl }
    by b rest false e = byte_stuck Fits some is b rest (λ fits. false≢true (sym e ∙ passes b fits))

    go : (bytes : List ℕ) → Answers (one_of Fits) bytes (read_byte test bytes)
    go [] = byte_wanting Fits some is
    go (b ∷ rest) = by b rest (test b) refl

pub reads_one : (low high : ℕ) → low ≤ high → Reads (one_in low high) (read_one low high)
unfolding read_one
reads_one low high le = reads_byte (λ n. (low ≤ n) × (n ≤ high)) (λ b. nat_le low b && nat_le b high) low (omega arith, le)
    (λ b e. let p = and_parts (nat_le low b) (nat_le b high) e in (leb-true low b p.0, leb-true b high p.1))
    (λ b is. and_from (nat_le low b) (nat_le b high) (le-leb low b is.0) (le-leb b high is.1))

-- ---- the same values seen as others

pub reads_like : {X Z : Type 0} (F : Format X) (G : Format Z) (read : Reader X) (like : Like F G) → Reads F read → Reads G (read_as like.to read)
unfolding read_as taken_as
reads_like {X} F G read like r = record { sole = sole_like F G like r.sole; has = has_like F G like r.has; answers = λ bytes. go bytes (read bytes) (r.answers bytes) }
  where
    go : (bytes : List ℕ) (out : Read X) → Answers F bytes out → Answers G bytes (taken_as like.to out)
    go bytes (Ok taken) took = took_like F G like bytes taken.0 taken.1 took
    go bytes (Err left) s = like_sticks F G like bytes left s

-- ---- two values

pub reads_both : {X Y : Type 0} (F : Format X) (G : X → Format Y) (read : Reader X) (next : X → Reader Y) → Reads F read → ((x : X) → F.Is x → Reads (G x) (next x)) → Reads (both F G) (read_both read next)
unfolding read_both go_on taken_as
reads_both {X} {Y} F G read next first second = record {
  sole = sole_both F G first.sole (λ x is. (second x is).sole);
  has = has_both F G first.has (second first.has.value first.has.is).has;
  answers = λ bytes. go bytes (read bytes) (first.answers bytes);
}
  where
    behind : (bytes : List ℕ) (x : X) (rest : List ℕ) → Took F bytes x rest → (out : Read Y) → Answers (G x) rest out → Answers (both F G) bytes (taken_as (λ y. (x, y)) out)
    behind bytes x rest took (Ok taken) more = took_both F G bytes x rest taken.0 taken.1 took more
    behind bytes x rest took (Err left) s = both_second F G bytes x rest left first.sole took s

    go : (bytes : List ℕ) (out : Read X) → Answers F bytes out → Answers (both F G) bytes (go_on next out)
    go bytes (Ok taken) took = behind bytes taken.0 taken.1 took (next taken.0 taken.1) ((second taken.0 took.is).answers taken.1)
    go bytes (Err left) s = both_first F G bytes left (λ x is. (second x is).has) s

pub reads_pair : {X Y : Type 0} (F : Format X) (G : Format Y) (read : Reader X) (next : Reader Y) → Reads F read → Reads G next → Reads (pair F G) (read_pair read next)
unfolding read_pair
reads_pair F G read next first second = reads_both F (λ x. G) read (λ x. next) first (λ x is. second)

-- ---- many values

-- a list's first value and the others
abbrev pub apart : {X : Type 0} → X → List X → X × List X
apart none [] = (none, [])
apart none (x ∷ xs) = (x, xs)

times_back : {X : Type 0} (n : ℕ) (F : Format X) (none : X) (xs : List X) → (times (suc n) F).Is xs → (pair F (times n F)).Is (apart none xs)
times_back n F none [] is = absurd (omega (arith, is.0))
times_back n F none (x ∷ xs) is = (All-head F.Is x xs is.1, (omega (arith, is.0), All-tail F.Is x xs is.1))

times_restored : {X : Type 0} (n : ℕ) (F : Format X) (none : X) (xs : List X) → (times (suc n) F).Is xs → (apart none xs).0 ∷ (apart none xs).1 ≡ xs
times_restored n F none [] is = absurd (omega (arith, is.0))
times_restored n F none (x ∷ xs) is = refl

times_same : {X : Type 0} (n : ℕ) (F : Format X) (none : X) (xs : List X) → (times (suc n) F).Is xs → flat_map F.spelled xs ≡ (pair F (times n F)).spelled (apart none xs)
times_same n F none [] is = absurd (omega (arith, is.0))
times_same n F none (x ∷ xs) is = refl

unfoldable like_times : {X : Type 0} (n : ℕ) (F : Format X) (none : X) → Like (pair F (times n F)) (times (suc n) F)
like_times n F none = record {
  to = λ p. p.0 ∷ p.1;
  from = apart none;
  there = λ p is. (omega (arith, is.1.0), All-cons F.Is p.0 p.1 is.0 is.1.1);
  back = times_back n F none;
  again = λ p is. refl;
  restored = times_restored n F none;
  same = times_same n F none;
}

pub reads_times : {X : Type 0} (n : ℕ) (F : Format X) (read : Reader X) → Reads F read → Reads (times n F) (read_times n read)
unfolding read_times like_times
reads_times zero F read r = record { sole = sole_times zero F r.sole; has = has_times zero F r.has; answers = λ bytes. record { is = (refl, All-nil F.Is); joined = refl } }
reads_times (suc n) F read r = reads_like (pair F (times n F)) (times (suc n) F) (read_pair read (read_times n read)) (like_times n F r.has.value) (reads_pair F (times n F) read (read_times n read) r (reads_times n F read r))

-- ---- a value that has no bytes

pub reads_absent : {X : Type 0} (value : X) → Reads (absent value) (read_absent value)
unfolding read_absent
reads_absent value = record { sole = sole_absent value; has = has_absent value; answers = λ bytes. took_absent value bytes }
