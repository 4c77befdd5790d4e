-- The pairs of the dumps that have a volume are those of all dumps, name by name and dump by dump alike.
use Rattle.std.proofs.Common.{◌≡◌, ◌⊎◌, inl, inr, ℕ, List, [], ◌∷◌, ◌++◌, map, Bool, true, false, Option, Some, None, refl, sym, ◌∙◌, ap, subst, ⊎_elim}
use Rattle.std.specs.Prelude.{is_some}
use Rattle.std.specs.List.{filter, filter_map, flat_map, cons_option}
use Rattle.std.proofs.lemmas.Bool.{cases_Bool}
use Rattle.budb_changes.specs.declared.records.VolRecordFields.{VolRecordFields}
use Rattle.budb_changes.specs.declared.records.DumpRecordFields.{DumpRecordFields}
use Rattle.budb_links.proofs.Places.{filter_keeps, filter_drops}
use Rattle.budb_fold.specs.Lookups.{VolumeDump, volume_of, dump_by, is_before}
use Rattle.budb_fold.specs.Chains.{dump_of, volume_in}
use Rattle.budb_index.specs.Kept.{AreOnce}
use Rattle.budb_index.specs.Holders.{has_volume, holders}
use Rattle.budb_index.specs.Latest.{name_dumps}
use Rattle.budb_index.proofs.Members.{Among, among_filter, record_in}

-- ---- by the ids of those that have the volume

module _ (listed : List DumpRecordFields) (once : AreOnce listed) (name : List ℕ) where
  one_pair : (d : DumpRecordFields) (ds : List DumpRecordFields) (o : Option VolRecordFields) → Among d listed → volume_of d name ≡ o → filter_map (dump_of listed name) (holders ds name) ≡ name_dumps name ds → filter_map (dump_of listed name) (holders (d ∷ ds) name) ≡ dump_by d o ++ name_dumps name ds
  one_pair d ds None among none rest =
      ap (λ (l : List DumpRecordFields). filter_map (dump_of listed name) (map (λ (x : DumpRecordFields). x.id) l)) (filter_drops (has_volume name) d ds (ap is_some none)) ∙ rest
  one_pair d ds (Some v) among some rest =
      let found : dump_of listed name d.id ≡ Some (record { dump = d; volume = v }) =
      ap (λ (o : Option DumpRecordFields). volume_in o name) (record_in listed d among once) ∙ ap (λ (o : Option VolRecordFields). Rattle.budb_fold.specs.Chains.with_volume d o) some
      in
      ap (λ (l : List DumpRecordFields). filter_map (dump_of listed name) (map (λ (x : DumpRecordFields). x.id) l)) (filter_keeps (has_volume name) d ds (ap is_some some))
      ∙ ap (λ (o : Option VolumeDump). cons_option o (filter_map (dump_of listed name) (holders ds name))) found
      ∙ ap (λ (l : List VolumeDump). record { dump = d; volume = v } ∷ l) rest

  pairs_from : (ds : List DumpRecordFields) → ((d : DumpRecordFields) → Among d ds → Among d listed) → filter_map (dump_of listed name) (holders ds name) ≡ name_dumps name ds
  pairs_from [] all = refl
  pairs_from (d ∷ ds) all =
      one_pair d ds (volume_of d name) (all d (inl refl)) refl (pairs_from ds (λ x h. all x (inr h)))

  pub pairs_are : filter_map (dump_of listed name) (holders listed name) ≡ name_dumps name listed
  pairs_are = pairs_from listed (λ d h. h)

-- ---- members

pub among_left : {X : Type 0} (xs ys : List X) (x : X) → Among x xs → Among x (xs ++ ys)
among_left [] ys x h = absurd h
among_left (z ∷ xs) ys x (inl same) = inl same
among_left (z ∷ xs) ys x (inr h) = inr (among_left xs ys x h)

pub among_right : {X : Type 0} (xs ys : List X) (x : X) → Among x ys → Among x (xs ++ ys)
among_right [] ys x h = h
among_right (z ∷ xs) ys x h = inr (among_right xs ys x h)

pub among_parts : {X : Type 0} (xs ys : List X) (x : X) → Among x (xs ++ ys) → Among x xs ⊎ Among x ys
among_parts [] ys x h = inr h
among_parts (z ∷ xs) ys x (inl same) = inl (inl same)
among_parts (z ∷ xs) ys x (inr h) =
    ⊎_elim (λ (a : Among x xs). inl (inr a)) (λ (b : Among x ys). inr b) (among_parts xs ys x h)

pub kept_among : {X : Type 0} (t : X → Bool) (xs : List X) (x : X) → Among x xs → t x ≡ true → Among x (filter t xs)
kept_among t [] x h is = absurd h
kept_among t (y ∷ ys) x (inl same) is =
    subst (Among x) (sym (filter_keeps t y ys (ap t same ∙ is))) (inl same)
kept_among t (y ∷ ys) x (inr h) is =
    let rest = kept_among t ys x h is in
    ⊎_elim
    (λ (hit : t y ≡ true). subst (Among x) (sym (filter_keeps t y ys hit)) (inr rest))
    (λ (miss : t y ≡ false). subst (Among x) (sym (filter_drops t y ys miss)) rest)
    (cases_Bool (t y))

pub among_flat : {X Y : Type 0} (f : X → List Y) (xs : List X) (y : Y) → Among y (flat_map f xs) → (x : X) × Among x xs × Among y (f x)
among_flat f [] y h = absurd h
among_flat f (x ∷ xs) y h =
    ⊎_elim
    (λ (a : Among y (f x)). (x, inl refl, a))
    (λ (b : Among y (flat_map f xs)). let r = among_flat f xs y b in (r.0, inr r.1, r.2))
    (among_parts (f x) (flat_map f xs) y h)

pub flat_among : {X Y : Type 0} (f : X → List Y) (xs : List X) (x : X) (y : Y) → Among x xs → Among y (f x) → Among y (flat_map f xs)
flat_among f [] x y h a = absurd h
flat_among f (z ∷ xs) x y (inl same) a =
    among_left (f z) (flat_map f xs) y (subst (λ (w : _). Among y (f w)) (sym same) a)
flat_among f (z ∷ xs) x y (inr h) a = among_right (f z) (flat_map f xs) y (flat_among f xs x y h a)

-- a pair of a listed dump and its volume of one of these names, with a clone time below the bound
pub record IsPair (listed : List DumpRecordFields) (names : List (List ℕ)) (before : Option ℕ) (one : VolumeDump) : Type 0 where
  pub name : List ℕ
  pub named : Among name names
  pub dump : Among one.dump listed
  pub volume : volume_of one.dump name ≡ Some one.volume
  pub early : is_before before one ≡ true

by_dump : (d : DumpRecordFields) (o : Option VolRecordFields) (one : VolumeDump) → Among one (dump_by d o) → (one.dump ≡ d) × (o ≡ Some one.volume)
by_dump d None one h = absurd h
by_dump d (Some v) one (inl same) =
    (ap (λ (x : VolumeDump). x.dump) (sym same), ap (λ (x : VolumeDump). Some x.volume) same)
by_dump d (Some v) one (inr h) = absurd h

dump_by_one : (one : VolumeDump) (o : Option VolRecordFields) → o ≡ Some one.volume → Among one (dump_by one.dump o)
dump_by_one one o is = subst (λ (x : Option VolRecordFields). Among one (dump_by one.dump x)) (sym is) (inl refl)

module _ (listed : List DumpRecordFields) (names : List (List ℕ)) (before : Option ℕ) where
  abbrev pub by_dumps : List VolumeDump
  by_dumps =
      filter (is_before before) (flat_map (λ dump. flat_map (λ n. dump_by dump (volume_of dump n)) names) listed)

  abbrev pub by_names : List VolumeDump
  by_names = flat_map (λ n. filter (is_before before) (name_dumps n listed)) names

  pub pair_by_dumps : (one : VolumeDump) → Among one by_dumps → IsPair listed names before one
  pair_by_dumps one h =
      let f = among_filter (is_before before) (flat_map (λ (dump : DumpRecordFields). flat_map (λ n. dump_by dump (volume_of dump n)) names) listed) one h in
      let d = among_flat (λ (dump : DumpRecordFields). flat_map (λ n. dump_by dump (volume_of dump n)) names) listed one f.0 in
      let n = among_flat (λ (n : List ℕ). dump_by d.0 (volume_of d.0 n)) names one d.2 in
      let p = by_dump d.0 (volume_of d.0 n.0) one n.2 in
      record {
        name = n.0;
        named = n.1;
        dump = subst (λ (x : DumpRecordFields). Among x listed) (sym p.0) d.1;
        volume = ap (λ (x : DumpRecordFields). volume_of x n.0) p.0 ∙ p.1;
        early = f.1;
      }

  pub dumps_by_pair : (one : VolumeDump) → IsPair listed names before one → Among one by_dumps
  dumps_by_pair one p =
      kept_among (is_before before) (flat_map (λ (dump : DumpRecordFields). flat_map (λ n. dump_by dump (volume_of dump n)) names) listed) one
      (flat_among (λ (dump : DumpRecordFields). flat_map (λ n. dump_by dump (volume_of dump n)) names) listed one.dump one p.dump
      (flat_among (λ (n : List ℕ). dump_by one.dump (volume_of one.dump n)) names p.name one p.named (dump_by_one one (volume_of one.dump p.name) p.volume)))
      p.early

  pub pair_by_names : (one : VolumeDump) → Among one by_names → IsPair listed names before one
  pair_by_names one h =
      let n = among_flat (λ (n : List ℕ). filter (is_before before) (name_dumps n listed)) names one h in
      let f = among_filter (is_before before) (name_dumps n.0 listed) one n.2 in
      let d = among_flat (λ (dump : DumpRecordFields). dump_by dump (volume_of dump n.0)) listed one f.0 in
      let p = by_dump d.0 (volume_of d.0 n.0) one d.2 in
      record {
        name = n.0;
        named = n.1;
        dump = subst (λ (x : DumpRecordFields). Among x listed) (sym p.0) d.1;
        volume = ap (λ (x : DumpRecordFields). volume_of x n.0) p.0 ∙ p.1;
        early = f.1;
      }

  pub names_by_pair : (one : VolumeDump) → IsPair listed names before one → Among one by_names
  names_by_pair one p =
      flat_among (λ (n : List ℕ). filter (is_before before) (name_dumps n listed)) names p.name one p.named
      (kept_among (is_before before) (name_dumps p.name listed) one
      (flat_among (λ (dump : DumpRecordFields). dump_by dump (volume_of dump p.name)) listed one.dump one p.dump (dump_by_one one (volume_of one.dump p.name) p.volume))
      p.early)
