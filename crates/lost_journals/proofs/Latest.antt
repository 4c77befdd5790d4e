-- Which dump of a volume is the latest is told by the dumps that are listed, in whatever order.
use Rattle.std.proofs.Common.{◌≡◌, ◌⊎◌, ℕ, zero, suc, ◌+◌, Bool, true, false, Option, Some, None, List, [], ◌∷◌, ◌++◌, length, refl, sym, ap, subst, ◌∙◌, arith, inl, inr, length-append}
use Rattle.std.specs.Prelude.{Contains, not, ◌||◌, ◌&&◌, ◌==◌, nat_eq, nat_lt, if◌then◌else◌}
use Rattle.std.specs.List.{list_any, flat_map, ends_with}
use Rattle.std.proofs.lemmas.Bool.{cases_Bool, false≢true}
use Rattle.std.proofs.lemmas.Bool.Decides.{nat_tests}
use Rattle.bk_text.specs.Bases.{backup_ending}
use Rattle.bk_text.specs.Blanks.{is_same_text}
use Rattle.budb_changes.specs.declared.records.VolRecordFields.{VolRecordFields}
use Rattle.budb_changes.specs.declared.records.DumpRecordFields.{DumpRecordFields}
use Rattle.budb_fold.specs.Lookups.{VolumeDump, volume_of, names_for, dump_by, is_before, volume_dumps, beats, latest}
use Rattle.budb_fold.proofs.LatestLaws.{none_is_latest}
use Rattle.tape_scan.proofs.ListLaws.{contains_filter, of_filter}
use Rattle.archive_model.proofs.CutLaws.{any_from}
use Rattle.archive_model.proofs.FairLaws.{of_flat}
use Rattle.archive_model.proofs.RecordLaws.{AreIdsOnce}
use Rattle.archive_model.proofs.SlotLaws.{in_flat, find_is}
use Rattle.archive_model.proofs.SourceLaws.{same_text}

-- ---- pairs of a dump and a volume

by_one : (d : DumpRecordFields) (o : Option VolRecordFields) (x : VolumeDump) → Contains (dump_by d o) x → (x.dump ≡ d) × (o ≡ Some x.volume)
by_one d None x there = absurd (omega (arith, there.1))
by_one d (Some v) x (zero, within, is) = (sym (ap (λ (y : VolumeDump). y.dump) is), ap (λ (y : VolumeDump). Some y.volume) is)
by_one d (Some v) x (suc k, within, is) = absurd (omega (arith, within))

one_by : (x : VolumeDump) (o : Option VolRecordFields) → o ≡ Some x.volume → Contains (dump_by x.dump o) x
one_by x o is = subst (λ (p : Option VolRecordFields). Contains (dump_by x.dump p) x) (sym is) (0, omega arith, refl)

module _ (name : List ℕ) (before : Option ℕ) where
  abbrev under : DumpRecordFields → List VolumeDump
  under dump = flat_map (λ n. dump_by dump (volume_of dump n)) (names_for name)

  -- a listed dump with a volume that it has under one of the names
  record IsPair (listed : List DumpRecordFields) (x : VolumeDump) : Type 0 where
    there : Contains listed x.dump
    word : List ℕ
    names : Contains (names_for name) word
    volume : volume_of x.dump word ≡ Some x.volume
    early : is_before before x ≡ true

  pair_of : (listed : List DumpRecordFields) (x : VolumeDump) → Contains (volume_dumps listed name before) x → IsPair listed x
  pair_of listed x there =
      let f = of_filter (is_before before) (flat_map under listed) x there in
      let d = of_flat under listed x f.0 in
      let n = of_flat (λ (w : List ℕ). dump_by d.0 (volume_of d.0 w)) (names_for name) x d.2 in
      let one = by_one d.0 (volume_of d.0 n.0) x n.2 in
      record {
        there = subst (Contains listed) (sym one.0) d.1;
        word = n.0;
        names = n.1;
        volume = subst (λ (y : DumpRecordFields). volume_of y n.0 ≡ Some x.volume) (sym one.0) one.1;
        early = f.1;
      }

  pair_there : (listed : List DumpRecordFields) (x : VolumeDump) → IsPair listed x → Contains (volume_dumps listed name before) x
  pair_there listed x p =
      contains_filter (is_before before) (flat_map under listed) x
      (in_flat under listed x.dump x p.there (in_flat (λ (w : List ℕ). dump_by x.dump (volume_of x.dump w)) (names_for name) p.word x p.names (one_by x (volume_of x.dump p.word) p.volume))) p.early

  pair_also : (few all : List DumpRecordFields) → ((d : DumpRecordFields) → Contains few d → Contains all d) → (x : VolumeDump) → Contains (volume_dumps few name before) x → Contains (volume_dumps all name before) x
  pair_also few all sub x there =
      let p = pair_of few x there in
      pair_there all x (record { there = sub x.dump p.there; word = p.word; names = p.names; volume = p.volume; early = p.early })

  -- ---- names

  in_two : {X : Type 0} (a b x : X) → Contains (a ∷ b ∷ []) x → (x ≡ a) ⊎ (x ≡ b)
  in_two a b x (zero, within, is) = inl (sym is)
  in_two a b x (suc zero, within, is) = inr (sym is)
  in_two a b x (suc (suc k), within, is) = absurd (omega (arith, within))

  in_one : {X : Type 0} (a x : X) → Contains (a ∷ []) x → x ≡ a
  in_one a x (zero, within, is) = sym is
  in_one a x (suc k, within, is) = absurd (omega (arith, within))

  words_are : (b : Bool) (w : List ℕ) → Contains (if b then name ∷ [] else name ∷ (name ++ backup_ending) ∷ []) w → (w ≡ name) ⊎ (w ≡ name ++ backup_ending)
  words_are true w there = inl (in_one name w there)
  words_are false w there = in_two name (name ++ backup_ending) w there

  word_is : (w : List ℕ) → Contains (names_for name) w → (w ≡ name) ⊎ (w ≡ name ++ backup_ending)
  word_is w there = words_are (ends_with nat_eq name backup_ending) w there

  longer : name ++ backup_ending ≡ name → ⊥
  longer same = absurd (let e : length (name ++ backup_ending) ≡ length name = ap length same in let l : length (name ++ backup_ending) ≡ length name + 7 = length-append name backup_ending in omega (arith, e, l))

  named : (d : DumpRecordFields) (w : List ℕ) (v : VolRecordFields) → volume_of d w ≡ Some v → is_same_text v.name w ≡ true
  named d w v is = (find_is (λ (u : VolRecordFields). is_same_text u.name w) d.volumes v is).1

  some_volume : (v u : VolRecordFields) → Some v ≡ Some u → v ≡ u
  some_volume v u same = cc

  -- one name alone is told from both
  apart : (d : DumpRecordFields) (w : List ℕ) (v u : VolRecordFields) → volume_of d name ≡ Some v → w ≡ name ++ backup_ending → volume_of d w ≡ Some u → is_same_text v.name name ≡ is_same_text u.name name → ⊥
  apart d w v u first is second flags =
      let of_u : u.name ≡ name = same_text u.name name (sym flags ∙ named d name v first) in
      longer (sym is ∙ sym (same_text u.name w (named d w u second)) ∙ of_u)

  same_volume : (d : DumpRecordFields) (w z : List ℕ) (v u : VolRecordFields) → (w ≡ name) ⊎ (w ≡ name ++ backup_ending) → (z ≡ name) ⊎ (z ≡ name ++ backup_ending) → volume_of d w ≡ Some v → volume_of d z ≡ Some u
      → is_same_text v.name name ≡ is_same_text u.name name → v ≡ u
  same_volume d w z v u (inl own) (inl other) first second flags = some_volume v u (sym first ∙ ap (volume_of d) (own ∙ sym other) ∙ second)
  same_volume d w z v u (inl own) (inr other) first second flags = absurd (apart d z v u (ap (volume_of d) (sym own) ∙ first) other second flags)
  same_volume d w z v u (inr own) (inl other) first second flags = absurd (apart d w u v (ap (volume_of d) (sym other) ∙ second) own first (sym flags))
  same_volume d w z v u (inr own) (inr other) first second flags = some_volume v u (sym first ∙ ap (volume_of d) (own ∙ sym other) ∙ second)

  -- ---- two of which neither goes before the other

  record AreEven (x y : VolumeDump) : Type 0 where
    ids : x.dump.id ≡ y.dump.id
    flags : is_same_text x.volume.name name ≡ is_same_text y.volume.name name

  evenly : (c d i j : ℕ) (s t : Bool) → (nat_lt d c || ((d == c) && (nat_lt j i || ((j == i) && s && not t)))) ≡ false → (nat_lt c d || ((c == d) && (nat_lt i j || ((i == j) && t && not s)))) ≡ false → (i ≡ j) × (s ≡ t)
  evenly c d i j true true first second = (grind (arith, nat_tests), refl)
  evenly c d i j false false first second = (grind (arith, nat_tests), refl)
  evenly c d i j true false first second = absurd (grind (arith, nat_tests))
  evenly c d i j false true first second = absurd (grind (arith, nat_tests))

  even : (x y : VolumeDump) → beats name x y ≡ false → beats name y x ≡ false → AreEven x y
  even x y first second =
      let both = evenly x.volume.clone y.volume.clone x.dump.id y.dump.id (is_same_text x.volume.name name) (is_same_text y.volume.name name) first second in
      record { ids = both.0; flags = both.1 }

  -- ---- the latest one

  not_false : (b : Bool) → not b ≡ true → b ≡ false
  not_false true is = sym is
  not_false false is = refl

  any_none : {X : Type 0} (test : X → Bool) (xs : List X) (x : X) → list_any test xs ≡ false → Contains xs x → test x ≡ false
  any_none test xs x none there = elim (cases_Bool (test x)) [
    | inl hit ↦ absurd (false≢true (sym none ∙ any_from test xs x there hit))
    | inr miss ↦ miss
  ]

  module _ (few all : List DumpRecordFields) (once : AreIdsOnce few) (sub : (d : DumpRecordFields) → Contains few d → Contains all d) (back : (d : DumpRecordFields) → Contains all d → Contains few d) where
    same_pair : (x y : VolumeDump) → Contains (volume_dumps few name before) x → Contains (volume_dumps few name before) y → beats name x y ≡ false → beats name y x ≡ false → y ≡ x
    same_pair x y x_there y_there first second =
        let p = pair_of few x x_there in
        let q = pair_of few y y_there in
        let both = even x y first second in
        let dump : y.dump ≡ x.dump = once y.dump x.dump q.there p.there (sym both.ids) in
        let volume : y.volume ≡ x.volume =
        same_volume x.dump q.word p.word y.volume x.volume (word_is q.word q.names) (word_is p.word p.names) (subst (λ (d : DumpRecordFields). volume_of d q.word ≡ Some y.volume) dump q.volume) p.volume (sym both.flags) in
        λ i. record { dump = dump i; volume = volume i }

    latest_by : (x : VolumeDump) (o : Option VolumeDump) → latest few name before ≡ Some x → latest all name before ≡ o → o ≡ Some x
    latest_by x None is none =
        let mine = find_is (λ (one : VolumeDump). not (list_any (λ other. beats name other one) (volume_dumps few name before))) (volume_dumps few name before) x is in
        let empty : volume_dumps all name before ≡ [] = none_is_latest name (volume_dumps all name before) none in
        absurd (let there : Contains [] x = subst (λ (l : List VolumeDump). Contains l x) empty (pair_also few all sub x mine.0) in omega (arith, there.1))
    latest_by x (Some y) is other =
        let mine = find_is (λ (one : VolumeDump). not (list_any (λ z. beats name z one) (volume_dumps few name before))) (volume_dumps few name before) x is in
        let theirs = find_is (λ (one : VolumeDump). not (list_any (λ z. beats name z one) (volume_dumps all name before))) (volume_dumps all name before) y other in
        let y_there : Contains (volume_dumps few name before) y = pair_also all few back y theirs.0 in
        let x_there : Contains (volume_dumps all name before) x = pair_also few all sub x mine.0 in
        let first : beats name x y ≡ false = any_none (λ (z : VolumeDump). beats name z y) (volume_dumps all name before) x (not_false (list_any (λ z. beats name z y) (volume_dumps all name before)) theirs.1) x_there in
        let second : beats name y x ≡ false = any_none (λ (z : VolumeDump). beats name z x) (volume_dumps few name before) y (not_false (list_any (λ z. beats name z x) (volume_dumps few name before)) mine.1) y_there in
        ap (λ (z : VolumeDump). Some z) (same_pair x y mine.0 y_there first second)

    pub latest_also : (x : VolumeDump) → latest few name before ≡ Some x → latest all name before ≡ Some x
    latest_also x is = latest_by x (latest all name before) is refl
