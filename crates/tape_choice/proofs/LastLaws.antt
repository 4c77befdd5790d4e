-- The greatest of numbers, and dumps that are found by their ids.
use Rattle.std.proofs.Common.{suc, ◌≡◌, ◌⊎◌, inl, inr, ℕ, ◌+◌, ◌<◌, max, Bool, true, false, List, [], ◌∷◌, ◌++◌, length, get_or, map, drop, refl, sym, ◌∙◌, ap, arith, drop-cons}
use Rattle.std.specs.Prelude.{Option, Some, None, find, ◌&&◌, ◌||◌, ◌==◌}
use Rattle.std.specs.List.{filter, flat_map, list_any}
use Rattle.std.specs.Option.{unwrap_or}
use Rattle.std.proofs.lemmas.Bool.{cases_lt, eqb-true, eq-eqb}
use Rattle.bk_text.specs.Blanks.{is_same_text}
use Rattle.budb_changes.specs.declared.records.TapePart.{TapePart}
use Rattle.budb_changes.specs.declared.records.DumpRecordFields.{DumpRecordFields}
use Rattle.budb_fold.specs.Database.{is_dump, is_initial}
use Rattle.budb_fold.specs.Lookups.{greatest_id}
use Rattle.archive_model.specs.Holding.{place_of}
use Rattle.archive_model.proofs.SlotLaws.{find_is}
use Rattle.tape_choice.specs.declared.places.Appending.{Appending}
use Rattle.tape_choice.specs.declared.places.Appending.TheVariants.{NoSet, NotFound}
use Rattle.tape_choice.specs.Append.{greatest, tapes_in, with_id, latest_of, append_set, no_tape}
use Rattle.tape_choice.specs.Surveys.{joined}

pub joined_joined : (a b c : Option ℕ) → joined (joined a b) c ≡ joined a (joined b c)
joined_joined None b c = refl
joined_joined (Some m) None c = ap (λ (n : ℕ). Some n) (flat m (unwrap_or c 0))
  where
    flat : (m n : ℕ) → max (max m 0) n ≡ max m n
    flat m n = omega arith
joined_joined (Some m) (Some n) c = ap (λ (n : ℕ). Some n) (flat m n (unwrap_or c 0))
  where
    flat : (m n o : ℕ) → max (max m n) o ≡ max m (max n o)
    flat m n o = omega arith

pub greatest_append : (xs ys : List ℕ) → greatest (xs ++ ys) ≡ joined (greatest xs) (greatest ys)
greatest_append [] ys = refl
greatest_append (x ∷ xs) ys = ap (λ (o : Option ℕ). joined (Some x) o) (greatest_append xs ys) ∙ sym (joined_joined (Some x) (greatest xs) (greatest ys))

pub find_filter : {X : Type 0} (p q : X → Bool) (xs : List X) → find q (filter p xs) ≡ find (λ x. p x && q x) xs
find_filter p q [] = refl
find_filter p q (x ∷ xs) = go (p x) (q x) refl refl (find_filter p q xs)
  where
    go : (a b : Bool) → p x ≡ a → q x ≡ b → find q (filter p xs) ≡ find (λ y. p y && q y) xs → find q (filter p (x ∷ xs)) ≡ find (λ y. p y && q y) (x ∷ xs)
    go true true e f rest = rw (e, f) refl
    go true false e f rest = rw (e, f) rest
    go false b e f rest = rw e rest

-- ---- the last tape

pub tape_step : (listed : List DumpRecordFields) (initial : ℕ) (last new all : Option ℕ) (i : ℕ) (d : DumpRecordFields) → i < length listed → d ≡ get_or listed i d → new ≡ joined last (greatest (tapes_in initial d))
    → joined last (greatest (flat_map (tapes_in initial) (drop i listed))) ≡ all → joined new (greatest (flat_map (tapes_in initial) (drop (i + 1) listed))) ≡ all
tape_step listed initial last new all i d below at grown so_far =
    let rest = flat_map (tapes_in initial) (drop (i + 1) listed) in
    let one : i + 1 ≡ suc i = omega arith in
    let cut : drop i listed ≡ get_or listed i d ∷ drop (i + 1) listed = drop-cons listed i d below ∙ ap (λ (n : ℕ). get_or listed i d ∷ drop n listed) (sym one) in
    let here : drop i listed ≡ d ∷ drop (i + 1) listed = cut ∙ ap (λ (e : DumpRecordFields). e ∷ drop (i + 1) listed) (sym at) in
    ap (λ (o : Option ℕ). joined o (greatest rest)) grown ∙ joined_joined last (greatest (tapes_in initial d)) (greatest rest) ∙ ap (joined last) (sym (greatest_append (tapes_in initial d) rest))
    ∙ ap (λ (ds : List DumpRecordFields). joined last (greatest (flat_map (tapes_in initial) ds))) (sym here) ∙ so_far

-- ---- dumps by their greatest ids

pub last_found : (p : DumpRecordFields → Bool) (listed : List DumpRecordFields) (id : ℕ) → Some id ≡ greatest_id (filter p listed) → find (λ d. p d && is_dump id d) listed ≡ latest_of (filter p listed)
last_found p listed id is = sym (find_filter p (is_dump id) listed) ∙ ap (with_id (filter p listed)) is

pub place_is : (d : DumpRecordFields) (tape : ℕ) (p : TapePart) → place_of d tape ≡ Some p → place_of d p.tape ≡ Some p
place_is d tape p is =
    let same : p.tape ≡ tape = eqb-true p.tape tape (find_is (λ (q : TapePart). q.tape == tape) d.tapes p is).1 in
    ap (place_of d) same ∙ is

-- ---- a volume set that is listed has a dump set

max_is : (a b n : ℕ) → max a b ≡ n → (a ≡ n) ⊎ (b ≡ n)
max_is a b n is = elim (cases_lt a b) [
  | inl less ↦ inr (omega arith)
  | inr more ↦ inl (omega arith)
]

or_true : (a : Bool) → (a || true) ≡ true
or_true true = refl
or_true false = refl

any_greatest : (f : DumpRecordFields → ℕ) (ds : List DumpRecordFields) (n : ℕ) → greatest (map f ds) ≡ Some n → list_any (λ d. f d == n) ds ≡ true
any_greatest f [] n is = absurd (cc)
any_greatest f (d ∷ ds) n is = go (greatest (map f ds)) refl (any_greatest f ds n)
  where
    go : (o : Option ℕ) → greatest (map f ds) ≡ o → (greatest (map f ds) ≡ Some n → list_any (λ e. f e == n) ds ≡ true) → list_any (λ e. f e == n) (d ∷ ds) ≡ true
    go None none again =
        let same : max (f d) 0 ≡ n = let e : Some (max (f d) 0) ≡ Some n = rw none at is in cc in
        let hit : (f d == n) ≡ true = eq-eqb (f d) n (omega arith) in
        rw hit refl
    go (Some m) some again =
        let same : max (f d) m ≡ n = let e : Some (max (f d) m) ≡ Some n = rw some at is in cc in
        elim (max_is (f d) m n same) [
          | inl here ↦ (let hit : (f d == n) ≡ true = eq-eqb (f d) n here in rw hit refl)
          | inr there ↦
              (let rest : list_any (λ e. f e == n) ds ≡ true = again (some ∙ ap (λ (k : ℕ). Some k) there) in
              ap (λ (b : Bool). (f d == n) || b) rest ∙ or_true (f d == n))
        ]

any_filter : (p q : DumpRecordFields → Bool) (ds : List DumpRecordFields) → list_any q (filter p ds) ≡ true → list_any q ds ≡ true
any_filter p q [] is = is
any_filter p q (d ∷ ds) is = go (p d) (q d) refl refl (any_filter p q ds)
  where
    go : (a b : Bool) → p d ≡ a → q d ≡ b → (list_any q (filter p ds) ≡ true → list_any q ds ≡ true) → list_any q (d ∷ ds) ≡ true
    go a true e f again = rw f refl
    go true false e f again = let rest : list_any q (filter p ds) ≡ true = rw (e, f) at is in rw f (again rest)
    go false false e f again = let rest : list_any q (filter p ds) ≡ true = rw e at is in rw f (again rest)

find_any : (q : DumpRecordFields → Bool) (ds : List DumpRecordFields) → list_any q ds ≡ true → find q ds ≡ None → ⊥
find_any q [] some none = cc
find_any q (d ∷ ds) some none = go (q d) refl (find_any q ds)
  where
    go : (a : Bool) → q d ≡ a → (list_any q ds ≡ true → find q ds ≡ None → ⊥) → ⊥
    go true e again = let found : Some d ≡ None = rw e at none in cc
    go false e again = again (rw e at some) (rw e at none)

some_in : (p : DumpRecordFields → Bool) (ds : List DumpRecordFields) → list_any p ds ≡ true → greatest_id (filter p ds) ≡ None → ⊥
some_in p [] some none = cc
some_in p (d ∷ ds) some none = go (p d) refl (some_in p ds)
  where
    go : (a : Bool) → p d ≡ a → (list_any p ds ≡ true → greatest_id (filter p ds) ≡ None → ⊥) → ⊥
    go true e again = let found : Some (max d.id (unwrap_or (greatest_id (filter p ds)) 0)) ≡ None = rw e at none in cc
    go false e again = again (rw e at some) (rw e at none)

ids_are : (ds : List DumpRecordFields) → greatest_id ds ≡ greatest (map (λ d. d.id) ds)
ids_are [] = refl
ids_are (d ∷ ds) = ap (λ (o : Option ℕ). Some (max d.id (unwrap_or o 0))) (ids_are ds)

latest_some : (p : DumpRecordFields → Bool) (ds : List DumpRecordFields) → list_any p ds ≡ true → latest_of (filter p ds) ≡ None → ⊥
latest_some p ds some none = go (greatest_id (filter p ds)) refl
  where
    go : (o : Option ℕ) → greatest_id (filter p ds) ≡ o → ⊥
    go None e = some_in p ds some e
    go (Some id) e =
        let found : find (is_dump id) (filter p ds) ≡ None = rw e at none in
        find_any (is_dump id) (filter p ds) (any_greatest (λ d. d.id) (filter p ds) id (sym (ids_are (filter p ds)) ∙ e)) found

-- where a set has listed dumps something is told of it
pub set_told : (listed : List DumpRecordFields) (set : List ℕ) (initial : ℕ) (told : Appending) → Some initial ≡ append_set listed set → told ≡ no_tape (latest_of (filter (is_initial initial) listed)) → told ≡ NoSet → append_set listed set ≡ None
set_told listed set initial told is told_is none =
    let any : list_any (is_initial initial) listed ≡ true = any_filter (λ d. is_same_text d.set set) (is_initial initial) listed (any_greatest (λ d. d.initial) (filter (λ d. is_same_text d.set set) listed) initial (sym is)) in
    absurd (go (latest_of (filter (is_initial initial) listed)) refl any)
  where
    go : (o : Option DumpRecordFields) → latest_of (filter (is_initial initial) listed) ≡ o → list_any (is_initial initial) listed ≡ true → ⊥
    go None e any = latest_some (is_initial initial) listed any e
    go (Some d) e any = let found : told ≡ NotFound d.base 0 = rw e at told_is in cc
