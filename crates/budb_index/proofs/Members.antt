-- Members of lists, and what is read at their places.
use Rattle.std.proofs.Common.{◌≡◌, ◌≢◌, ◌⊎◌, inl, inr, ℕ, List, [], ◌∷◌, map, Bool, true, false, cond, Some, refl, sym, ◌∙◌, ap, subst}
use Rattle.std.specs.List.{filter, AllByRecursion}
use Rattle.std.proofs.lemmas.Bool.{eq-eqb, ne_eqb, cond-true, cond-false}
use Rattle.budb_changes.specs.declared.records.DumpRecordFields.{DumpRecordFields}
use Rattle.budb_links.specs.Entries.{Entry, places_of, record_at}
use Rattle.budb_links.specs.Frags.{Placed, frag_places, frag_at}
use Rattle.budb_links.specs.Keyed.{Differ}
use Rattle.budb_fold.specs.Lookups.{record_of}
use Rattle.budb_index.specs.Kept.{AreOnce}

-- one of these
abbrev pub Among : {X : Type 0} → X → List X → Type 0
Among x [] = ⊥
Among x (y ∷ ys) = (y ≡ x) ⊎ Among x ys

pub all_among : {X : Type 0} (P : X → Type 0) (xs : List X) (x : X) → AllByRecursion P xs → Among x xs → P x
all_among P [] x all h = absurd h
all_among P (y ∷ ys) x all (inl same) = subst P same all.0
all_among P (y ∷ ys) x all (inr h) = all_among P ys x all.1 h

pub among_filter : {X : Type 0} (t : X → Bool) (xs : List X) (x : X) → Among x (filter t xs) → Among x xs × (t x ≡ true)
among_filter t [] x h = absurd h
among_filter t (y ∷ ys) x h = go (t y) refl h (among_filter t ys x)
  where
    go : (b : Bool) → t y ≡ b → Among x (cond b (y ∷ filter t ys) (filter t ys)) → (Among x (filter t ys) → Among x ys × (t x ≡ true)) → Among x (y ∷ ys) × (t x ≡ true)
    go true hit (inl same) later = (inl same, subst (λ (z : _). t z ≡ true) same hit)
    go true hit (inr h) later = let r = later h in (inr r.0, r.1)
    go false miss h later = let r = later h in (inr r.0, r.1)

pub among_mapped : {X Y : Type 0} (f : X → Y) (xs : List X) (x : X) → Among x xs → Among (f x) (map f xs)
among_mapped f [] x h = absurd h
among_mapped f (y ∷ ys) x (inl same) = inl (ap f same)
among_mapped f (y ∷ ys) x (inr h) = inr (among_mapped f ys x h)

-- ---- what is read

pub record_read : (es : List Entry) (e : Entry) → Among e es → Differ (places_of es) → record_at e.place es ≡ Some e.dump
record_read [] e h d = absurd h
record_read (x ∷ es) e (inl same) d =
    cond-true _ (Some x.dump) (record_at e.place es) (eq-eqb x.place e.place (ap (λ (z : Entry). z.place) same)) ∙ ap (λ (z : Entry). Some z.dump) same
record_read (x ∷ es) e (inr h) d =
    let apart : e.place ≢ x.place = all_among (λ (n : ℕ). n ≢ x.place) (places_of es) e.place d.0 (among_mapped (λ (z : Entry). z.place) es e h) in
    cond-false _ (Some x.dump) (record_at e.place es) (ne_eqb x.place e.place (λ same. apart (sym same))) ∙ record_read es e h d.1

pub frag_read : (ps : List Placed) (p : Placed) → Among p ps → Differ (frag_places ps) → frag_at p.place ps ≡ Some p.fragment.which
frag_read [] p h d = absurd h
frag_read (x ∷ ps) p (inl same) d =
    cond-true _ (Some x.fragment.which) (frag_at p.place ps) (eq-eqb x.place p.place (ap (λ (z : Placed). z.place) same)) ∙ ap (λ (z : Placed). Some z.fragment.which) same
frag_read (x ∷ ps) p (inr h) d =
    let apart : p.place ≢ x.place = all_among (λ (n : ℕ). n ≢ x.place) (frag_places ps) p.place d.0 (among_mapped (λ (z : Placed). z.place) ps p h) in
    cond-false _ (Some x.fragment.which) (frag_at p.place ps) (ne_eqb x.place p.place (λ same. apart (sym same))) ∙ frag_read ps p h d.1

pub record_in : (dumps : List DumpRecordFields) (dump : DumpRecordFields) → Among dump dumps → AreOnce dumps → record_of dumps dump.id ≡ Some dump
record_in [] dump h once = absurd h
record_in (x ∷ dumps) dump (inl same) once =
    cond-true _ (Some x) (record_of dumps dump.id) (eq-eqb x.id dump.id (ap (λ (z : DumpRecordFields). z.id) same)) ∙ ap Some same
record_in (x ∷ dumps) dump (inr h) once =
    let apart : dump.id ≢ x.id = all_among (λ (d : DumpRecordFields). d.id ≢ x.id) dumps dump once.0 h in
    cond-false _ (Some x) (record_of dumps dump.id) (ne_eqb x.id dump.id (λ same. apart (sym same))) ∙ record_in dumps dump h once.1
