-- The record of a whole dump calls for just the fragments of its parts, over several tapes too.
use Rattle.std.proofs.Common.{◌≡◌, ◌⊎◌, ℕ, zero, suc, ◌+◌, ◌<◌, ◌≤◌, true, false, List, [], ◌∷◌, ◌++◌, length, map, refl, sym, ap, subst, ◌∙◌, arith, inl, inr, append_assoc, append-nil, length-append}
use Rattle.std.specs.Prelude.{All, filter, ◌==◌}
use Rattle.std.specs.List.{flat_map}
use Rattle.std.proofs.lemmas.Bool.{cases_Bool, eqb-true, eq-eqb}
use Rattle.std.proofs.lemmas.List.Elements.{All-nil, All-cons, All-head, All-tail, All-weaker, filter-append}
use Rattle.tape_frames.specs.declared.vol_head.VolHeadFields.{VolHeadFields}
use Rattle.budb_changes.specs.declared.records.VolRecordFields.{VolRecordFields}
use Rattle.tape_text.specs.Texts.{Linked, NextVolume}
use Rattle.tape_text.specs.Wholes.{Lying, frag_of, next_head, volume_record, volume_records}
use Rattle.archive_model.specs.Holding.{called_head, called_frags, called_of, placed_from}
use Rattle.tape_scan.proofs.ListLaws.{All_join}

-- ---- fragments one behind another

-- as over tapes, but told of where they lie
abbrev pub Next : Lying → Lying → Type 0
Next l m = ((l.last ≡ 0) × (m.head ≡ next_head l.head)) ⊎ ((l.last ≡ 1) × NextVolume l.head m.head)

abbrev pub StartsAt : ℕ → List Lying → Type 0
StartsAt n [] = Unit {0}
StartsAt n (l ∷ ls) = (l.head.index ≡ n) × (l.head.fragment ≡ 1)

-- the last one ends its volume
abbrev pub EndsVolume : List Lying → Type 0
EndsVolume [] = Unit {0}
EndsVolume (l ∷ []) = l.last ≡ 1
EndsVolume (l ∷ m ∷ ls) = EndsVolume (m ∷ ls)

-- the head of another fragment of the same volume
abbrev pub numbered : VolHeadFields → ℕ → VolHeadFields
numbered h k = record h { fragment = k }

-- the fragments of a volume from one number on, up to its last
abbrev pub IsGroup : VolHeadFields → ℕ → List Lying → Type 0
IsGroup h k [] = ⊥
IsGroup h k (l ∷ []) = (l.head ≡ numbered h k) × (l.last ≡ 1)
IsGroup h k (l ∷ m ∷ ls) = (l.head ≡ numbered h k) × (l.last ≡ 0) × IsGroup h (k + 1) (m ∷ ls)

record Group (h : VolHeadFields) (k : ℕ) (l : Lying) (ls : List Lying) : Type 0 where
  pub tail : List Lying
  pub more : List Lying
  pub joined : ls ≡ tail ++ more
  pub is : IsGroup h k (l ∷ tail)
  pub starts : StartsAt (h.index + 1) more
  pub linked : Linked Next more
  pub ends : EndsVolume more

group : (h : VolHeadFields) (k : ℕ) (l : Lying) (ls : List Lying) → l.head ≡ numbered h k → Linked Next (l ∷ ls) → EndsVolume (l ∷ ls) → Group h k l ls
group h k l [] head linked ends = record { tail = []; more = []; joined = refl; is = (head, ends); starts = tt; linked = tt; ends = tt }
group h k l (m ∷ ms) head linked ends = elim linked.0 [
  | inl goes ↦
      (let next : m.head ≡ numbered h (k + 1) = goes.1 ∙ ap next_head head in
      let rest = group h (k + 1) m ms next linked.1 ends in
      record {
        tail = m ∷ rest.tail;
        more = rest.more;
        joined = ap (λ t. m ∷ t) rest.joined;
        is = (head, goes.0, rest.is);
        starts = rest.starts;
        linked = rest.linked;
        ends = rest.ends;
      })
  | inr done ↦ record {
    tail = [];
    more = m ∷ ms;
    joined = refl;
    is = (head, done.0);
    starts = (done.1.0 ∙ ap (λ (x : VolHeadFields). x.index + 1) head, done.1.1);
    linked = linked.1;
    ends = ends;
  }
]

-- ---- filters over groups

pub differs : (a b : ℕ) → (a ≡ b → ⊥) → (a == b) ≡ false
differs a b not = elim (cases_Bool (a == b)) [
  | inl same ↦ absurd (not (eqb-true a b same))
  | inr no_match ↦ no_match
]

-- all of a group have the volume's index
same_index : (h : VolHeadFields) (k : ℕ) (ls : List Lying) → IsGroup h k ls → filter (λ m. m.head.index == h.index) ls ≡ ls
same_index h k [] is = absurd is
same_index h k (l ∷ []) is = let here : (l.head.index == h.index) ≡ true = eq-eqb l.head.index h.index (ap (λ (x : VolHeadFields). x.index) is.0) in rw here refl
same_index h k (l ∷ m ∷ ls) is =
    let here : (l.head.index == h.index) ≡ true = eq-eqb l.head.index h.index (ap (λ (x : VolHeadFields). x.index) is.0) in
    rw here (ap (λ t. l ∷ t) (same_index h (k + 1) (m ∷ ls) is.2))

-- only the first is the first
none_first : (h : VolHeadFields) (k : ℕ) (ls : List Lying) → IsGroup h k ls → 2 ≤ k → filter (λ m. m.head.fragment == 1) ls ≡ []
none_first h k [] is le = refl
none_first h k (l ∷ []) is le =
    let number : l.head.fragment ≡ k = ap (λ (x : VolHeadFields). x.fragment) is.0 in
    let here : (l.head.fragment == 1) ≡ false = differs l.head.fragment 1 (λ same. omega arith) in
    rw here refl
none_first h k (l ∷ m ∷ ls) is le =
    let number : l.head.fragment ≡ k = ap (λ (x : VolHeadFields). x.fragment) is.0 in
    let here : (l.head.fragment == 1) ≡ false = differs l.head.fragment 1 (λ same. omega arith) in
    rw here (none_first h (k + 1) (m ∷ ls) is.2 (omega arith))

tail_not_first : (h : VolHeadFields) (l : Lying) (tail : List Lying) → IsGroup h 1 (l ∷ tail) → filter (λ m. m.head.fragment == 1) tail ≡ []
tail_not_first h l [] is = refl
tail_not_first h l (m ∷ ls) is = none_first h 2 (m ∷ ls) is.2 (omega arith)

below_none : (n : ℕ) (ls : List Lying) → All (λ l. l.head.index < n) ls → filter (λ m. m.head.index == n) ls ≡ []
below_none n [] below = refl
below_none n (l ∷ ls) below =
    let low : l.head.index < n = All-head (λ (m : Lying). m.head.index < n) l ls below in
    let apart : (l.head.index == n) ≡ false = differs l.head.index n (λ same. omega arith) in
    rw apart (below_none n ls (All-tail (λ (m : Lying). m.head.index < n) l ls below))

-- indexes don't fall
above_none : (n m : ℕ) (l : Lying) (ls : List Lying) → n < l.head.index → Linked Next (l ∷ ls) → filter (λ k. k.head.index == n) (l ∷ ls) ≡ []
above_none n m l [] lt linked = let apart : (l.head.index == n) ≡ false = differs l.head.index n (λ same. omega arith) in rw apart refl
above_none n m l (k ∷ ls) lt linked =
    let apart : (l.head.index == n) ≡ false = differs l.head.index n (λ same. omega arith) in
    let higher : n < k.head.index = elim linked.0 [
      | inl goes ↦ omega (arith, ap (λ (x : VolHeadFields). x.index) goes.1)
      | inr done ↦ omega (arith, done.1.0)
    ] in
    rw apart (above_none n m k ls higher linked.1)

starts_none : (n : ℕ) (ls : List Lying) → StartsAt (n + 1) ls → Linked Next ls → filter (λ k. k.head.index == n) ls ≡ []
starts_none n [] starts linked = refl
starts_none n (l ∷ ls) starts linked = above_none n n l ls (omega (arith, starts.0)) linked

group_below : (h : VolHeadFields) (k : ℕ) (ls : List Lying) → IsGroup h k ls → All (λ m. m.head.index < h.index + 1) ls
group_below h k [] is = All-nil (λ (m : Lying). m.head.index < h.index + 1)
group_below h k (l ∷ []) is = All-cons (λ (m : Lying). m.head.index < h.index + 1) l [] (omega (arith, ap (λ (x : VolHeadFields). x.index) is.0)) (All-nil (λ (m : Lying). m.head.index < h.index + 1))
group_below h k (l ∷ m ∷ ls) is = All-cons (λ (m : Lying). m.head.index < h.index + 1) l (m ∷ ls) (omega (arith, ap (λ (x : VolHeadFields). x.index) is.0)) (group_below h (k + 1) (m ∷ ls) is.2)

All_behind : {X : Type 0} (P : X → Type 0) (xs ys : List X) → All P (xs ++ ys) → All P ys
All_behind P [] ys all = all
All_behind P (x ∷ xs) ys all = All_behind P xs ys (All-tail P x (xs ++ ys) all)

-- ---- what a record calls for

-- the fields of a volume's record are its head's
pub record Fields (h : VolHeadFields) (v : VolRecordFields) : Type 0 where
  pub name : v.name ≡ h.name
  pub id : v.id ≡ h.volume
  pub server : v.server ≡ h.server
  pub partition : v.partition ≡ h.partition
  pub clone : v.clone ≡ h.clone
  pub from : v.from ≡ h.from

called_is : (id n k : ℕ) (h : VolHeadFields) (v : VolRecordFields) → h.dump ≡ id → h.index ≡ n → Fields h v → called_head id n k v ≡ numbered h k
called_is id n k h v dump index fields = rw (fields.name, fields.id, fields.server, fields.partition, fields.clone, fields.from, sym dump, sym index) refl

lying_same : (l : Lying) (h : VolHeadFields) (last : ℕ) → l.head ≡ h → l.last ≡ last → record { tape = l.tape; at = l.at; head = h; last = last } ≡ l
lying_same l h last head ends = rw (sym head, sym ends) refl

called_group : (id n k : ℕ) (h : VolHeadFields) (v : VolRecordFields) (ls : List Lying) → h.dump ≡ id → h.index ≡ n → Fields h v → IsGroup h k ls → called_frags id n k v (map frag_of ls) ≡ ls
called_group id n k h v [] dump index fields is = absurd is
called_group id n k h v (l ∷ []) dump index fields is =
    let same : record { tape = l.tape; at = l.at; head = called_head id n k v; last = 1 } ≡ l = lying_same l (called_head id n k v) 1 (is.0 ∙ sym (called_is id n k h v dump index fields)) is.1 in
    ap (λ x. x ∷ []) same
called_group id n k h v (l ∷ m ∷ ls) dump index fields is =
    let same : record { tape = l.tape; at = l.at; head = called_head id n k v; last = 0 } ≡ l = lying_same l (called_head id n k v) 0 (is.0 ∙ sym (called_is id n k h v dump index fields)) is.1 in
    let rest = called_group id n (k + 1) h v (m ∷ ls) dump index fields is.2 in
    cc

eta_head : (h : VolHeadFields) → h.fragment ≡ 1 → h ≡ numbered h 1
eta_head h one = ap (λ (k : ℕ). numbered h k) one

called_all : (fuel id n : ℕ) (before ls : List Lying) → length ls ≤ fuel → All (λ l. l.head.index < n) before → StartsAt n ls → Linked Next ls → EndsVolume ls → All (λ l. l.head.dump ≡ id) ls
    → flat_map (called_of id) (placed_from n (map (volume_record (before ++ ls)) (filter (λ l. l.head.fragment == 1) ls))) ≡ ls
called_all fuel id n before [] short below starts linked ends dumps = refl
called_all zero id n before (l ∷ ls) short below starts linked ends dumps = absurd (omega arith)
called_all (suc fuel) id n before (l ∷ ls) short below starts linked ends dumps =
    let g = group l.head 1 l ls (eta_head l.head starts.1) linked ends in
    let index : l.head.index ≡ n = starts.0 in
    let here : (l.head.fragment == 1) ≡ true = eq-eqb l.head.fragment 1 starts.1 in
    let only_more : filter (λ (m : Lying). m.head.fragment == 1) ls ≡ filter (λ (m : Lying). m.head.fragment == 1) g.more =
    ap (λ t. filter (λ (m : Lying). m.head.fragment == 1) t) g.joined ∙ filter-append (λ (m : Lying). m.head.fragment == 1) g.tail g.more ∙ ap (λ t. t ++ filter (λ (m : Lying). m.head.fragment == 1) g.more) (tail_not_first l.head l g.tail g.is) in
    let all_is : before ++ (l ∷ ls) ≡ (before ++ (l ∷ g.tail)) ++ g.more = ap (λ t. before ++ (l ∷ t)) g.joined ∙ sym (append_assoc before (l ∷ g.tail) g.more) in
    let own : filter (λ (m : Lying). m.head.index == l.head.index) (before ++ (l ∷ ls)) ≡ l ∷ g.tail =
    ap (λ t. filter (λ (m : Lying). m.head.index == l.head.index) (before ++ (l ∷ t))) g.joined ∙ filter-append (λ (m : Lying). m.head.index == l.head.index) before ((l ∷ g.tail) ++ g.more)
    ∙ ap (λ t. t ++ filter (λ (m : Lying). m.head.index == l.head.index) ((l ∷ g.tail) ++ g.more)) (below_none l.head.index before (subst (λ (i : ℕ). All (λ (m : Lying). m.head.index < i) before) (sym index) below))
    ∙ filter-append (λ (m : Lying). m.head.index == l.head.index) (l ∷ g.tail) g.more
    ∙ ap (λ t. filter (λ (m : Lying). m.head.index == l.head.index) (l ∷ g.tail) ++ t) (starts_none l.head.index g.more g.starts g.linked)
    ∙ append-nil (filter (λ (m : Lying). m.head.index == l.head.index) (l ∷ g.tail)) ∙ same_index l.head 1 (l ∷ g.tail) g.is in
    let frags : (volume_record (before ++ (l ∷ ls)) l).frags ≡ map frag_of (l ∷ g.tail) = ap (λ t. map frag_of t) own in
    let dump : l.head.dump ≡ id = All-head (λ (m : Lying). m.head.dump ≡ id) l ls dumps in
    let first : called_of id (n, volume_record (before ++ (l ∷ ls)) l) ≡ l ∷ g.tail =
    ap (λ t. called_frags id n 1 (volume_record (before ++ (l ∷ ls)) l) t) frags
    ∙ called_group id n 1 l.head (volume_record (before ++ (l ∷ ls)) l) (l ∷ g.tail) dump index (record { name = refl; id = refl; server = refl; partition = refl; clone = refl; from = refl }) g.is in
    let shorter : length g.more ≤ fuel = omega (arith, ap length g.joined, length-append g.tail g.more) in
    let wider : All (λ (m : Lying). m.head.index < n + 1) (before ++ (l ∷ g.tail)) =
    All_join (λ (m : Lying). m.head.index < n + 1) before (l ∷ g.tail) (All-weaker (λ (m : Lying). m.head.index < n) (λ (m : Lying). m.head.index < n + 1) (λ m lt. omega arith) before below)
    (subst (λ (i : ℕ). All (λ (m : Lying). m.head.index < i + 1) (l ∷ g.tail)) index (group_below l.head 1 (l ∷ g.tail) g.is)) in
    let behind : All (λ (m : Lying). m.head.dump ≡ id) g.more = All_behind (λ (m : Lying). m.head.dump ≡ id) g.tail g.more (subst (λ (t : List Lying). All (λ (m : Lying). m.head.dump ≡ id) t) g.joined (All-tail (λ (m : Lying). m.head.dump ≡ id) l ls dumps)) in
    let rest = called_all fuel id (n + 1) (before ++ (l ∷ g.tail)) g.more shorter wider (subst (λ (i : ℕ). StartsAt (i + 1) g.more) index g.starts) g.linked g.ends behind in
    let moved : flat_map (called_of id) (placed_from (n + 1) (map (volume_record (before ++ (l ∷ ls))) (filter (λ (m : Lying). m.head.fragment == 1) ls))) ≡ g.more =
    ap (λ t. flat_map (called_of id) (placed_from (n + 1) (map (volume_record (before ++ (l ∷ ls))) t))) only_more
    ∙ ap (λ t. flat_map (called_of id) (placed_from (n + 1) (map (volume_record t) (filter (λ (m : Lying). m.head.fragment == 1) g.more)))) all_is ∙ rest in
    rw here (ap (λ t. t ++ flat_map (called_of id) (placed_from (n + 1) (map (volume_record (before ++ (l ∷ ls))) (filter (λ (m : Lying). m.head.fragment == 1) ls)))) first
    ∙ ap (λ t. (l ∷ g.tail) ++ t) moved ∙ ap (λ t. l ∷ t) (sym g.joined))

-- The record that such fragments give calls for just them, in order.
pub calls_for_all : (id : ℕ) (ls : List Lying) → StartsAt 0 ls → Linked Next ls → EndsVolume ls → All (λ l. l.head.dump ≡ id) ls → flat_map (called_of id) (placed_from 0 (volume_records ls)) ≡ ls
calls_for_all id ls starts linked ends dumps = called_all (length ls) id 0 [] ls (omega arith) (All-nil (λ (m : Lying). m.head.index < 0)) starts linked ends dumps
