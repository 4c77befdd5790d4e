-- The best of the pairs of a volume's names is its latest dump.
use Rattle.std.proofs.Common.{◌≡◌, ◌⊎◌, inl, inr, ℕ, List, [], ◌∷◌, ◌++◌, length, Bool, true, false, cond, Option, Some, None, refl, sym, ◌∙◌, ap, subst, arith, ⊎_elim}
use Rattle.std.specs.Prelude.{not, ◌||◌, nat_eq}
use Rattle.std.specs.List.{filter, find, list_any, flat_map, ends_with}
use Rattle.std.proofs.lemmas.Bool.{cases_Bool, cond-true, cond-false, false≢true}
use Rattle.std.proofs.lemmas.Bool.Decides.{nat_tests}
use Rattle.std.proofs.lemmas.List.{append-nil, length-append}
use Rattle.bk_text.specs.Bases.{backup_ending}
use Rattle.bk_text.specs.Blanks.{is_same_text}
use Rattle.budb_changes.specs.declared.records.VolRecordFields.{VolRecordFields}
use Rattle.budb_changes.specs.declared.records.DumpRecordFields.{DumpRecordFields}
use Rattle.budb_links.proofs.KeyLaws.{same_text, text_same}
use Rattle.budb_fold.specs.Lookups.{VolumeDump, record_of, volume_of, is_before, beats, names_for, volume_dumps, latest}
use Rattle.budb_index.specs.Kept.{AreOnce}
use Rattle.budb_index.specs.Latest.{better, best_of, name_dumps}
use Rattle.budb_index.proofs.Members.{Among, record_in}
use Rattle.budb_index.proofs.Pairs.{IsPair, by_names, pair_by_dumps, dumps_by_pair, pair_by_names, names_by_pair}

-- ---- the order of pairs

module _ (name : List ℕ) where
  not_back : (a b : VolumeDump) → beats name a b ≡ true → beats name b a ≡ false
  not_back a b h = grind (arith, nat_tests)

  not_on : (a b c : VolumeDump) → beats name a b ≡ false → beats name b c ≡ false → beats name a c ≡ false
  not_on a b c h k = grind (arith, nat_tests)

  same_clone : (a b : VolumeDump) → beats name a b ≡ false → beats name b a ≡ false → a.dump.id ≡ b.dump.id
  same_clone a b h k = grind (arith, nat_tests)

  same_own : (a b : VolumeDump) → beats name a b ≡ false → beats name b a ≡ false → is_same_text a.volume.name name ≡ is_same_text b.volume.name name
  same_own a b h k = grind (arith, nat_tests)

  -- ---- the best of some

  -- one of these, or the one that there was, and none of them goes before it
  record Top (held : VolumeDump) (others : List VolumeDump) : Type 0 where
    one : VolumeDump
    is : best_of name (Some held) others ≡ Some one
    among : (one ≡ held) ⊎ Among one others
    first : beats name held one ≡ false
    unbeaten : (other : VolumeDump) → Among other others → beats name other one ≡ false

  not_itself : (a : VolumeDump) → beats name a a ≡ false
  not_itself a = grind (arith, nat_tests)

  top_next : (held next : VolumeDump) (others : List VolumeDump) → ((x : VolumeDump) → Top x others) → Top held (next ∷ others)
  top_next held next others tops =
      ⊎_elim
      (λ (goes : beats name next held ≡ true).
      let t = tops next in
      record {
        one = t.one;
        is = ap (λ (o : Option VolumeDump). best_of name o others) (cond-true _ (Some next) (Some held) goes) ∙ t.is;
        among = inr (⊎_elim (λ (h : t.one ≡ next). inl (sym h)) (λ (h : Among t.one others). inr h) t.among);
        first = not_on held next t.one (not_back next held goes) t.first;
        unbeaten = λ other h. ⊎_elim (λ (same : next ≡ other). subst (λ (x : VolumeDump). beats name x t.one ≡ false) same t.first) (λ (later : Among other others). t.unbeaten other later) h;
      })
      (λ (stays : beats name next held ≡ false).
      let t = tops held in
      record {
        one = t.one;
        is = ap (λ (o : Option VolumeDump). best_of name o others) (cond-false _ (Some next) (Some held) stays) ∙ t.is;
        among = ⊎_elim (λ (h : t.one ≡ held). inl h) (λ (h : Among t.one others). inr (inr h)) t.among;
        first = t.first;
        unbeaten = λ other h. ⊎_elim (λ (same : next ≡ other). subst (λ (x : VolumeDump). beats name x t.one ≡ false) same (not_on next held t.one stays t.first)) (λ (later : Among other others). t.unbeaten other later) h;
      })
      (cases_Bool (beats name next held))

  top_of : (others : List VolumeDump) (held : VolumeDump) → Top held others
  top_of [] held = record { one = held; is = refl; among = inl refl; first = not_itself held; unbeaten = λ other h. absurd h }
  top_of (next ∷ others) held = top_next held next others (top_of others)

  pub best_behind : (xs ys : List VolumeDump) (best : Option VolumeDump) → best_of name (best_of name best xs) ys ≡ best_of name best (xs ++ ys)
  best_behind [] ys best = refl
  best_behind (x ∷ xs) ys best = best_behind xs ys (better name best x)

-- ---- what is found

any_false : {X : Type 0} (p : X → Bool) (xs : List X) → ((x : X) → Among x xs → p x ≡ false) → list_any p xs ≡ false
any_false p [] none = refl
any_false p (x ∷ xs) none = neither (p x) (list_any p xs) (none x (inl refl)) (any_false p xs (λ y h. none y (inr h)))
  where
    neither : (a b : Bool) → a ≡ false → b ≡ false → (a || b) ≡ false
    neither true b off none' = off
    neither false b off none' = none'

false_of : {X : Type 0} (p : X → Bool) (xs : List X) (x : X) → list_any p xs ≡ false → Among x xs → p x ≡ false
false_of p [] x none h = absurd h
false_of p (y ∷ ys) x none h = go (p y) refl none h (false_of p ys x)
  where
    go : (b : Bool) → p y ≡ b → (b || list_any p ys) ≡ false → (y ≡ x) ⊎ Among x ys → (list_any p ys ≡ false → Among x ys → p x ≡ false) → p x ≡ false
    go true is off among rest = absurd (false≢true (sym off))
    go false is off (inl same) rest = sym (ap p same) ∙ is
    go false is off (inr later) rest = rest off later

find_one : {X : Type 0} (t : X → Bool) (xs : List X) (x : X) → Among x xs → t x ≡ true → ((y : X) → Among y xs → t y ≡ true → y ≡ x) → find t xs ≡ Some x
find_one t [] x h is only = absurd h
find_one t (y ∷ ys) x h is only =
    go (t y) refl h (λ later. find_one t ys x later is (λ z k. only z (inr k)))
  where
    go : (b : Bool) → t y ≡ b → (y ≡ x) ⊎ Among x ys → (Among x ys → find t ys ≡ Some x) → cond b (Some y) (find t ys) ≡ Some x
    go true hit among rest = ap Some (only y (inl refl) hit)
    go false miss (inl same) rest = absurd (false≢true (sym miss ∙ ap t same ∙ is))
    go false miss (inr later) rest = rest later

-- ---- one name for each pair

named_by : (vs : List VolRecordFields) (name : List ℕ) (v : VolRecordFields) → find (λ volume. is_same_text volume.name name) vs ≡ Some v → v.name ≡ name
named_by [] name v found = absurd (let no : ⊥ = cc in no)
named_by (w ∷ vs) name v found =
    ⊎_elim
    (λ (hit : is_same_text w.name name ≡ true).
    let both : Some w ≡ Some v = sym (cond-true _ (Some w) (find (λ volume. is_same_text volume.name name) vs) hit) ∙ found in
    let same : w ≡ v = cc in
    ap (λ (x : VolRecordFields). x.name) (sym same) ∙ same_text w.name name hit)
    (λ (miss : is_same_text w.name name ≡ false). named_by vs name v (sym (cond-false _ (Some w) (find (λ volume. is_same_text volume.name name) vs) miss) ∙ found))
    (cases_Bool (is_same_text w.name name))

longer : (name : List ℕ) → is_same_text (name ++ backup_ending) name ≡ true → ⊥
longer name same =
    let long = ap length (same_text (name ++ backup_ending) name same) in
    let more = length-append name backup_ending in
    omega (arith, long, more)

-- the name itself and that of its backup volume are told apart by whether they are the name
one_name : (name : List ℕ) (b : Bool) (m n : List ℕ) → Among m (cond b (name ∷ []) (name ∷ (name ++ backup_ending) ∷ [])) → Among n (cond b (name ∷ []) (name ∷ (name ++ backup_ending) ∷ [])) → is_same_text m name ≡ is_same_text n name → m ≡ n
one_name name true m n (inl a) (inl c) same = sym a ∙ c
one_name name true m n (inl a) (inr c) same = absurd c
one_name name true m n (inr a) c same = absurd a
one_name name false m n (inl a) (inl c) same = sym a ∙ c
one_name name false m n (inl a) (inr (inl c)) same =
    absurd (longer name (ap (λ (l : List ℕ). is_same_text l name) c ∙ sym same ∙ text_same m name (sym a)))
one_name name false m n (inr (inl a)) (inl c) same =
    absurd (longer name (ap (λ (l : List ℕ). is_same_text l name) a ∙ same ∙ text_same n name (sym c)))
one_name name false m n (inr (inl a)) (inr (inl c)) same = sym a ∙ c
one_name name false m n (inr (inr a)) c same = absurd a
one_name name false m n (inr (inl a)) (inr (inr c)) same = absurd c
one_name name false m n (inl a) (inr (inr c)) same = absurd c

module _ (listed : List DumpRecordFields) (once : AreOnce listed) (name : List ℕ) (before : Option ℕ) where
  abbrev names : List (List ℕ)
  names = names_for name

  pair_is : (a b : VolumeDump) → a.dump ≡ b.dump → a.volume ≡ b.volume → a ≡ b
  pair_is a b d v =
      ap (λ (x : DumpRecordFields). record { dump = x; volume = a.volume }) d ∙ ap (λ (x : VolRecordFields). record { dump = b.dump; volume = x }) v

  -- two pairs of which none goes before the other are one
  one_pair : (a b : VolumeDump) → IsPair listed names before a → IsPair listed names before b → beats name a b ≡ false → beats name b a ≡ false → a ≡ b
  one_pair a b p q h k =
      let id = same_clone name a b h k in
      let dumps : Some a.dump ≡ Some b.dump = sym (record_in listed a.dump p.dump once) ∙ ap (record_of listed) id ∙ record_in listed b.dump q.dump once in
      let dump : a.dump ≡ b.dump = cc in
      let own = sym (ap (λ (l : List ℕ). is_same_text l name) (named_by a.dump.volumes p.name a.volume p.volume)) ∙ same_own name a b h k ∙ ap (λ (l : List ℕ). is_same_text l name) (named_by b.dump.volumes q.name b.volume q.volume) in
      let of : p.name ≡ q.name = one_name name (ends_with nat_eq name backup_ending) p.name q.name p.named q.named own in
      let volumes : Some a.volume ≡ Some b.volume = sym p.volume ∙ ap (λ (d : DumpRecordFields). volume_of d p.name) dump ∙ ap (volume_of b.dump) of ∙ q.volume in
      let volume : a.volume ≡ b.volume = cc in
      pair_is a b dump volume

  abbrev all : List VolumeDump
  all = volume_dumps listed name before

  abbrev is_unbeaten : VolumeDump → Bool
  is_unbeaten one = not (list_any (λ other. beats name other one) all)

  found_best : (one : VolumeDump) → Among one all → ((other : VolumeDump) → Among other all → beats name other one ≡ false) → latest listed name before ≡ Some one
  found_best one among unbeaten =
      find_one is_unbeaten all one among (ap not (any_false (λ other. beats name other one) all unbeaten))
      (λ y h passes.
      let free = false_of (λ other. beats name other y) all one (not_true (list_any (λ other. beats name other y) all) passes) among in
      one_pair y one (pair_by_dumps listed names before y h) (pair_by_dumps listed names before one among) (unbeaten y h) free)
    where
      not_true : (b : Bool) → not b ≡ true → b ≡ false
      not_true true h = absurd (false≢true h)
      not_true false h = refl

  none_found : (xs : List VolumeDump) → xs ≡ [] → find is_unbeaten xs ≡ None
  none_found xs none = ap (find is_unbeaten) none

  empty : (xs : List VolumeDump) → ((x : VolumeDump) → Among x xs → ⊥) → xs ≡ []
  empty [] none = refl
  empty (x ∷ xs) none = absurd (none x (inl refl))

  by_names_first : (xs : List VolumeDump) → by_names listed names before ≡ xs → best_of name None xs ≡ latest listed name before
  by_names_first [] is =
      sym (none_found all (empty all (λ x h. subst (Among x) is (names_by_pair listed names before x (pair_by_dumps listed names before x h)))))
  by_names_first (held ∷ others) is =
      let t = top_of name others held in
      let inside = subst (Among t.one) (sym is) (⊎_elim (λ (h : t.one ≡ held). inl (sym h)) (λ (h : Among t.one others). inr h) t.among) in
      t.is
      ∙ sym (found_best t.one (dumps_by_pair listed names before t.one (pair_by_names listed names before t.one inside))
      (λ other h.
      let named = subst (Among other) is (names_by_pair listed names before other (pair_by_dumps listed names before other h)) in
      ⊎_elim (λ (same : held ≡ other). subst (λ (x : VolumeDump). beats name x t.one ≡ false) same t.first) (λ (later : Among other others). t.unbeaten other later) named))

  pub best_is_latest : best_of name None (by_names listed names before) ≡ latest listed name before
  best_is_latest = by_names_first (by_names listed names before) refl

  abbrev of_name : List ℕ → List VolumeDump
  of_name n = filter (is_before before) (name_dumps n listed)

  -- of a backup volume's name
  pub latest_alone : ends_with nat_eq name backup_ending ≡ true → best_of name None (of_name name) ≡ latest listed name before
  latest_alone is =
      ap (best_of name None) (sym (append-nil (of_name name)) ∙ sym (ap (flat_map of_name) (cond-true (ends_with nat_eq name backup_ending) (name ∷ []) (name ∷ (name ++ backup_ending) ∷ []) is)))
      ∙ best_is_latest

  -- of a base name, and that of its backup volume
  pub latest_of_both : ends_with nat_eq name backup_ending ≡ false → best_of name (best_of name None (of_name name)) (of_name (name ++ backup_ending)) ≡ latest listed name before
  latest_of_both is =
      best_behind name (of_name name) (of_name (name ++ backup_ending)) None
      ∙ ap (best_of name None) (ap (λ (l : List VolumeDump). of_name name ++ l) (sym (append-nil (of_name (name ++ backup_ending)))) ∙ sym (ap (flat_map of_name) (cond-false (ends_with nat_eq name backup_ending) (name ∷ []) (name ∷ (name ++ backup_ending) ∷ []) is)))
      ∙ best_is_latest
