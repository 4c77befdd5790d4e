-- Sums over the front of a list, an element more.
use Rattle.std.proofs.Common.{◌≡◌, ◌≢◌, ℕ, zero, suc, ◌+◌, ◌<◌, ◌≤◌, List, [], ◌∷◌, ◌++◌, length, take, get_or, Bool, true, false, cond, Option, Some, None, refl, sym, ◌∙◌, ap, arith}
use Rattle.std.specs.Prelude.{◌||◌, ◌==◌, is_some}
use Rattle.std.specs.Option.{option_copied}
use Rattle.std.specs.List.{cons_option, AllByRecursion}
use Rattle.std.proofs.lemmas.List.{take_more, append-nil, length-append}
use Rattle.std.proofs.lemmas.List.Elements.{filter_map-append}
use Rattle.budb_changes.specs.declared.records.DumpRecordFields.{DumpRecordFields}
use Rattle.budb_changes.specs.declared.change.Change.{Change}
use Rattle.budb_links.specs.Frags.{Fragment, dump_frags, frags_of}
use Rattle.budb_links.proofs.FragLists.{frags_append}
use Rattle.budb_fold.specs.Lookups.{record_of}
use Rattle.budb_fold.specs.Database.{has_dump, fits_record}
use Rattle.budb_fold.proofs.FoldKeeps.{fit_parts, not_true}
use denote.Ref.{Bor}
use Rattle.budb_index.specs.Kept.{AreOnce}
use Rattle.budb_index.proofs.Once.{no_record}
use Rattle.budb_index.specs.declared.relistings.Relisting.{Relisting}
use Rattle.budb_index.specs.Relistings.{relisting_of, relistings_of, records_of, records_in, fragments_of, fragments_in}

-- the front with an element more
pub one_further : {X : Type 0} (xs : List X) (i : ℕ) (x : X) → i < length xs → x ≡ get_or xs i x → take (i + 1) xs ≡ take i xs ++ x ∷ []
one_further xs i x within is = take_more xs i x within ∙ ap (λ (y : _). take i xs ++ y ∷ []) (sym is)

pub frags_further : (xs : List DumpRecordFields) (i : ℕ) (x : DumpRecordFields) → i < length xs → x ≡ get_or xs i x → length (frags_of (take (i + 1) xs)) ≡ length (frags_of (take i xs)) + length (dump_frags x)
frags_further xs i x within is =
    ap (λ (l : List DumpRecordFields). length (frags_of l)) (one_further xs i x within is)
    ∙ ap length (frags_append (take i xs) (x ∷ []))
    ∙ length-append (frags_of (take i xs)) (frags_of (x ∷ []))
    ∙ ap (λ (l : List Fragment). length (frags_of (take i xs)) + length l) (append-nil (dump_frags x))

pub frags_within : (xs : List DumpRecordFields) (i : ℕ) (x : DumpRecordFields) → i < length xs → x ≡ get_or xs i x → length (frags_of (take i xs)) + length (dump_frags x) ≤ length (frags_of xs)
frags_within [] i x within is = absurd (omega (arith, within))
frags_within (y ∷ ys) zero x within is =
    let same = ap (λ (d : DumpRecordFields). length (dump_frags d)) is in
    omega (arith, same, length-append (dump_frags y) (frags_of ys))
frags_within (y ∷ ys) (suc i) x within is =
    let rest = frags_within ys i x (omega (arith, within)) is in
    omega (arith, rest, length-append (dump_frags y) (frags_of ys), length-append (dump_frags y) (frags_of (take i ys)))

-- ---- ids

other_at : (own : ℕ) (xs : List DumpRecordFields) (i : ℕ) (x : DumpRecordFields) → AllByRecursion (λ d. d.id ≢ own) xs → i < length xs → x ≡ get_or xs i x → own ≢ x.id
other_at own [] i x all within is = absurd (omega (arith, within))
other_at own (y ∷ ys) zero x all within is =
    λ same. all.0 (ap (λ (d : DumpRecordFields). d.id) (sym is) ∙ sym same)
other_at own (y ∷ ys) (suc i) x all within is = other_at own ys i x all.1 (omega (arith, within)) is

others_before : (xs : List DumpRecordFields) (i : ℕ) (x : DumpRecordFields) → AreOnce xs → i < length xs → x ≡ get_or xs i x → AllByRecursion (λ d. d.id ≢ x.id) (take i xs)
others_before [] i x once within is = absurd (omega (arith, within))
others_before (y ∷ ys) zero x once within is = tt
others_before (y ∷ ys) (suc i) x once within is =
    (other_at y.id ys i x once.0 (omega (arith, within)) is, others_before ys i x once.1 (omega (arith, within)) is)

-- the id of a record isn't among those before it
pub fresh_before : (xs : List DumpRecordFields) (i : ℕ) (x : DumpRecordFields) → AreOnce xs → i < length xs → x ≡ get_or xs i x → record_of (take i xs) x.id ≡ None
fresh_before xs i x once within is = no_record x.id (take i xs) (others_before xs i x once within is)

-- ---- relistings

records_append : (xs ys : List Relisting) → records_in (xs ++ ys) ≡ records_in xs + records_in ys
records_append [] ys = omega arith
records_append (x ∷ xs) ys = let rest = records_append xs ys in omega (arith, rest)

fragments_append : (xs ys : List Relisting) → fragments_in (xs ++ ys) ≡ fragments_in xs + fragments_in ys
fragments_append [] ys = omega arith
fragments_append (x ∷ xs) ys = let rest = fragments_append xs ys in omega (arith, rest)

pub records_further : (xs : List Relisting) (i : ℕ) (x : Relisting) → i < length xs → x ≡ get_or xs i x → records_in (take (i + 1) xs) ≡ records_in (take i xs) + records_of x
records_further xs i x within is =
    let last : records_of x + 0 ≡ records_of x = omega arith in
    ap records_in (one_further xs i x within is) ∙ records_append (take i xs) (x ∷ []) ∙ ap (λ (n : ℕ). records_in (take i xs) + n) last

pub fragments_further : (xs : List Relisting) (i : ℕ) (x : Relisting) → i < length xs → x ≡ get_or xs i x → fragments_in (take (i + 1) xs) ≡ fragments_in (take i xs) + fragments_of x
fragments_further xs i x within is =
    let last : fragments_of x + 0 ≡ fragments_of x = omega arith in
    ap fragments_in (one_further xs i x within is) ∙ fragments_append (take i xs) (x ∷ []) ∙ ap (λ (n : ℕ). fragments_in (take i xs) + n) last

pub relistings_further : (xs : List Change) (i : ℕ) (x : Change) → i < length xs → x ≡ get_or xs i x → relistings_of (take (i + 1) xs) ≡ relistings_of (take i xs) ++ cons_option (relisting_of x) []
relistings_further xs i x within is =
    ap relistings_of (one_further xs i x within is) ∙ filter_map-append relisting_of (take i xs) (x ∷ [])

-- ---- whether an id is listed

pub some_copied : (o : Option (Bor DumpRecordFields)) → is_some (option_copied o) ≡ is_some o
some_copied None = refl
some_copied (Some b) = refl

pub found_any : (id : ℕ) (dumps : List DumpRecordFields) → is_some (record_of dumps id) ≡ has_dump dumps id
found_any id [] = refl
found_any id (d ∷ ds) = go (d.id == id) (found_any id ds)
  where
    go : (b : Bool) → is_some (record_of ds id) ≡ has_dump ds id → is_some (cond b (Some d) (record_of ds id)) ≡ (b || has_dump ds id)
    go true rest = refl
    go false rest = rest

-- a record that fits has an id that isn't listed
pub fits_fresh : (dump : DumpRecordFields) (dumps : List DumpRecordFields) → fits_record dump dumps ≡ true → record_of dumps dump.id ≡ None
fits_fresh dump dumps fits =
    none_of (record_of dumps dump.id) (found_any dump.id dumps ∙ not_true (has_dump dumps dump.id) (fit_parts dump dumps fits).new)
  where
    none_of : (o : Option DumpRecordFields) → is_some o ≡ false → o ≡ None
    none_of None h = refl
    none_of (Some d) h = absurd (let none : ⊥ = cc in none)
