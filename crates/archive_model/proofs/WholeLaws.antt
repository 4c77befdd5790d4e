-- Each tape of a whole dump lies by the record that its parts give.
use Rattle.std.proofs.Common.{◌≡◌, ◌⊎◌, ℕ, zero, suc, ◌+◌, ◌<◌, ◌≤◌, Bool, true, false, List, [], ◌∷◌, ◌++◌, length, map, take, refl, sym, ap, subst, ◌∙◌, arith, inl, inr, append-nil}
use Rattle.std.specs.Prelude.{All, Contains, filter, ◌==◌, if◌then◌else◌}
use Rattle.std.specs.List.{flat_map}
use Rattle.std.proofs.lemmas.Bool.{and_parts, eqb-true, eq-eqb}
use Rattle.std.proofs.lemmas.List.{length-map}
use Rattle.std.proofs.lemmas.List.Elements.{All-nil, All-cons, All-head, All-tail, All-weaker, All-contains, filter-append}
use Rattle.tape_frames.specs.declared.label.LabelFields.{LabelFields}
use Rattle.tape_frames.specs.declared.dump_head.DumpHeadFields.{DumpHeadFields}
use Rattle.budb_changes.specs.declared.records.TapePart.{TapePart}
use Rattle.tape_text.specs.Items.{Item}
use Rattle.tape_text.specs.Texts.{Fragment, Tape, tape_items, Linked, NextFragment, NextVolume, Begins, ends_dump, IsOf, IsPart, IsTape}
use Rattle.tape_text.specs.Parts.{FoundFragment, FoundPart, fragment_len, parts_of, fragments_at, fragments_of}
use Rattle.tape_text.specs.Wholes.{tape_part, Agree, GoesOn, Ends, NextTape, IsWhole, EndsWhole, next_head, Lying, lying_as, lying_in, volume_record, volume_records, record_with}
use Rattle.archive_model.specs.Holding.{called_by, EndsOnLast, LiesOn}
use Rattle.archive_model.specs.Clones.{ArePlaced, part_in}
use Rattle.archive_model.proofs.SlotLaws.{in_map}
use Rattle.archive_model.proofs.ManyTapeLaws.{Next, StartsAt, EndsVolume, differs, calls_for_all}
use Rattle.tape_scan.proofs.ListLaws.{All_join, contains_map}

-- ---- one behind another

-- a list begins with what goes on behind a fragment
abbrev pub FirstFrom : Fragment → List Lying → Type 0
FirstFrom f [] = ⊥
FirstFrom f (l ∷ ls) = ((f.end.last ≡ 0) × (l.head ≡ next_head f.head)) ⊎ ((f.end.last ≡ 1) × NextVolume f.head l.head)

ends_weaker : (P Q : Fragment → Type 0) → ((f : Fragment) → P f → Q f) → (fs : List Fragment) → Ends P fs → Ends Q fs
ends_weaker P Q weaker [] ends = ends
ends_weaker P Q weaker (f ∷ []) ends = weaker f ends
ends_weaker P Q weaker (f ∷ g ∷ fs) ends = ends_weaker P Q weaker (g ∷ fs) ends

bridge : (tape at : ℕ) (fs : List Fragment) (ys : List Lying) → Linked NextFragment fs → Ends (λ f. FirstFrom f ys) fs → Linked Next ys → Linked Next (map (lying_as tape) (fragments_at at fs) ++ ys)
bridge tape at [] ys linked ends more = absurd ends
bridge tape at (f ∷ []) [] linked ends more = tt
bridge tape at (f ∷ []) (y ∷ ys) linked ends more = (ends, more)
bridge tape at (f ∷ g ∷ fs) ys linked ends more = (inr linked.0, bridge tape (at + fragment_len f) (g ∷ fs) ys linked.1 ends more)

linked_in : (tape at : ℕ) (fs : List Fragment) → Linked NextFragment fs → Linked Next (map (lying_as tape) (fragments_at at fs) ++ [])
linked_in tape at [] linked = tt
linked_in tape at (f ∷ []) linked = tt
linked_in tape at (f ∷ g ∷ fs) linked = (inr linked.0, linked_in tape (at + fragment_len f) (g ∷ fs) linked.1)

first_from : (tape at : ℕ) (gs : List Fragment) (more : List Lying) (f : Fragment) → Begins (λ g. GoesOn f g) gs → FirstFrom f (map (lying_as tape) (fragments_at at gs) ++ more)
first_from tape at [] more f begins = absurd begins
first_from tape at (g ∷ gs) more f begins = begins

linked_all : (q : FoundPart) (qs : List FoundPart) → ArePlaced (q ∷ qs) → Linked NextTape (map part_in (q ∷ qs)) → Linked Next (flat_map lying_in (q ∷ qs))
linked_all q [] placed linked = linked_in q.part.head.tape (q.first + 1) q.part.fragments (All-head (λ (p : FoundPart). (label : LabelFields) × IsPart label p.part) q [] placed).1.linked
linked_all q (r ∷ qs) placed linked =
    let rest = linked_all r qs (All-tail (λ (p : FoundPart). (label : LabelFields) × IsPart label p.part) q (r ∷ qs) placed) linked.1 in
    bridge q.part.head.tape (q.first + 1) q.part.fragments (flat_map lying_in (r ∷ qs)) (All-head (λ (p : FoundPart). (label : LabelFields) × IsPart label p.part) q (r ∷ qs) placed).1.linked
    (ends_weaker (λ (f : Fragment). Begins (λ g. GoesOn f g) r.part.fragments) (λ (f : Fragment). FirstFrom f (flat_map lying_in (r ∷ qs)))
    (λ f begins. first_from r.part.head.tape (r.first + 1) r.part.fragments (flat_map lying_in qs) f begins) q.part.fragments linked.0.goes_on) rest

-- ---- the first and the last

starts_in : (part tape at : ℕ) (fs : List Fragment) (more : List Lying) → Begins (λ f. part ≡ 1 → (f.head.index ≡ 0) × (f.head.fragment ≡ 1)) fs → part ≡ 1 → StartsAt 0 (map (lying_as tape) (fragments_at at fs) ++ more)
starts_in part tape at [] more begins first = absurd begins
starts_in part tape at (f ∷ fs) more begins first = begins first

-- the last one ends the last of so many volumes
abbrev pub EndsAll : ℕ → List Lying → Type 0
EndsAll volumes [] = ⊥
EndsAll volumes (l ∷ []) = (l.last ≡ 1) × (l.head.index + 1 ≡ volumes)
EndsAll volumes (l ∷ m ∷ ls) = EndsAll volumes (m ∷ ls)

ends_in : (volumes tape at : ℕ) (fs : List Fragment) → ends_dump volumes fs ≡ true → EndsAll volumes (map (lying_as tape) (fragments_at at fs) ++ [])
ends_in volumes tape at [] ends = absurd (cc)
ends_in volumes tape at (f ∷ []) ends = let both = and_parts (f.end.last == 1) (f.head.index + 1 == volumes) ends in (eqb-true f.end.last 1 both.0, eqb-true (f.head.index + 1) volumes both.1)
ends_in volumes tape at (f ∷ g ∷ fs) ends = ends_in volumes tape (at + fragment_len f) (g ∷ fs) ends

ends_behind : (volumes : ℕ) (xs ys : List Lying) → EndsAll volumes ys → EndsAll volumes (xs ++ ys)
ends_behind volumes [] ys ends = ends
ends_behind volumes (x ∷ []) [] ends = absurd ends
ends_behind volumes (x ∷ []) (y ∷ ys) ends = ends
ends_behind volumes (x ∷ z ∷ xs) ys ends = ends_behind volumes (z ∷ xs) ys ends

ends_by_more : (b : Bool) (more : ℕ) → more ≡ (if b then 0 else 1) → more ≡ 0 → b ≡ true
ends_by_more true more is none = refl
ends_by_more false more is none = absurd (omega (arith, is, none))

ends_all : (volumes : ℕ) (q : FoundPart) (qs : List FoundPart) → ArePlaced (q ∷ qs) → q.part.head.volumes ≡ volumes → Linked NextTape (map part_in (q ∷ qs)) → EndsWhole (map part_in (q ∷ qs)) → EndsAll volumes (flat_map lying_in (q ∷ qs))
ends_all volumes q [] placed count linked ends =
    let good = (All-head (λ (p : FoundPart). (label : LabelFields) × IsPart label p.part) q [] placed).1 in
    subst (λ (v : ℕ). EndsAll v (flat_map lying_in (q ∷ []))) count
    (ends_in q.part.head.volumes q.part.head.tape (q.first + 1) q.part.fragments (ends_by_more (ends_dump q.part.head.volumes q.part.fragments) q.part.end.more good.more ends))
ends_all volumes q (r ∷ qs) placed count linked ends =
    ends_behind volumes (lying_in q) (flat_map lying_in (r ∷ qs))
    (ends_all volumes r qs (All-tail (λ (p : FoundPart). (label : LabelFields) × IsPart label p.part) q (r ∷ qs) placed) (linked.0.agree.volumes ∙ count) linked.1 ends)

ends_volume : (volumes : ℕ) (ls : List Lying) → EndsAll volumes ls → EndsVolume ls
ends_volume volumes [] ends = tt
ends_volume volumes (l ∷ []) ends = ends.0
ends_volume volumes (l ∷ m ∷ ls) ends = ends_volume volumes (m ∷ ls) ends

-- ---- counts

-- behind a first fragment there are as many first ones as indexes up to the last
count_firsts : (volumes : ℕ) (l : Lying) (ls : List Lying) → 1 ≤ l.head.fragment → Linked Next (l ∷ ls) → EndsAll volumes (l ∷ ls) → length (filter (λ m. m.head.fragment == 1) ls) + (l.head.index + 1) ≡ volumes
count_firsts volumes l [] some linked ends = omega (arith, ends.1)
count_firsts volumes l (m ∷ ls) some linked ends = elim linked.0 [
  | inl goes ↦
      (let number : m.head.fragment ≡ l.head.fragment + 1 = ap (λ x. x.fragment) goes.1 in
      let index : m.head.index ≡ l.head.index = ap (λ x. x.index) goes.1 in
      let not_first : (m.head.fragment == 1) ≡ false = differs m.head.fragment 1 (λ same. omega arith) in
      let rest = count_firsts volumes m ls (omega arith) linked.1 ends in
      rw not_first (omega (arith, rest)))
  | inr done ↦
      (let is_first : (m.head.fragment == 1) ≡ true = eq-eqb m.head.fragment 1 done.1.1 in
      let rest = count_firsts volumes m ls (omega (arith, done.1.1)) linked.1 ends in
      rw is_first (omega (arith, rest, done.1.0)))
]

count_all : (volumes : ℕ) (ls : List Lying) → StartsAt 0 ls → Linked Next ls → EndsAll volumes ls → volumes ≡ length (volume_records ls)
count_all volumes [] starts linked ends = absurd ends
count_all volumes (l ∷ ls) starts linked ends =
    let is_first : (l.head.fragment == 1) ≡ true = eq-eqb l.head.fragment 1 starts.1 in
    let rest = count_firsts volumes l ls (omega (arith, starts.1)) linked ends in
    let all_first : length (filter (λ (m : Lying). m.head.fragment == 1) (l ∷ ls)) ≡ volumes = rw is_first (omega (arith, rest, starts.0)) in
    omega (arith, all_first, length-map (filter (λ (m : Lying). m.head.fragment == 1) (l ∷ ls)) (volume_record (l ∷ ls)))

-- ---- heads and tapes

agree_on : (a b c : DumpHeadFields) → Agree a b → Agree b c → Agree a c
agree_on a b c first second = record {
  id = second.id ∙ first.id;
  initial = second.initial ∙ first.initial;
  parent = second.parent ∙ first.parent;
  expires = second.expires ∙ first.expires;
  volumes = second.volumes ∙ first.volumes;
  set = second.set ∙ first.set;
  level = second.level ∙ first.level;
  base = second.base ∙ first.base;
  cell = second.cell ∙ first.cell;
}

pub all_agree : (h : DumpHeadFields) (q : FoundPart) (qs : List FoundPart) → Agree h q.part.head → Linked NextTape (map part_in (q ∷ qs)) → All (λ r. Agree h r.part.head) (q ∷ qs)
all_agree h q [] agree linked = All-cons (λ (r : FoundPart). Agree h r.part.head) q [] agree (All-nil (λ (r : FoundPart). Agree h r.part.head))
all_agree h q (r ∷ qs) agree linked =
    All-cons (λ (p : FoundPart). Agree h p.part.head) q (r ∷ qs) agree (all_agree h r qs (agree_on h q.part.head r.part.head agree linked.0.agree) linked.1)

later_tapes : (tape : ℕ) (q : FoundPart) (qs : List FoundPart) → tape < q.part.head.tape → Linked NextTape (map part_in (q ∷ qs)) → All (λ r. tape < r.part.head.tape) (q ∷ qs)
later_tapes tape q [] lt linked = All-cons (λ (r : FoundPart). tape < r.part.head.tape) q [] lt (All-nil (λ (r : FoundPart). tape < r.part.head.tape))
later_tapes tape q (r ∷ qs) lt linked = All-cons (λ (p : FoundPart). tape < p.part.head.tape) q (r ∷ qs) lt (later_tapes tape r qs (omega (arith, linked.0.tape)) linked.1)

all_on : (tape : ℕ) (gs : List FoundFragment) → filter (λ l. l.tape == tape) (map (lying_as tape) gs) ≡ map (lying_as tape) gs
all_on tape [] = refl
all_on tape (g ∷ gs) = let here : (tape == tape) ≡ true = eq-eqb tape tape refl in rw here (ap (λ t. lying_as tape g ∷ t) (all_on tape gs))

none_on : (tape other : ℕ) (gs : List FoundFragment) → (other ≡ tape → ⊥) → filter (λ l. l.tape == tape) (map (lying_as other) gs) ≡ []
none_on tape other [] not = refl
none_on tape other (g ∷ gs) not = let apart : (other == tape) ≡ false = differs other tape not in rw apart (none_on tape other gs not)

none_later : (tape : ℕ) (qs : List FoundPart) → All (λ r. tape < r.part.head.tape) qs → filter (λ l. l.tape == tape) (flat_map lying_in qs) ≡ []
none_later tape [] later = refl
none_later tape (q ∷ qs) later =
    let lt : tape < q.part.head.tape = All-head (λ (r : FoundPart). tape < r.part.head.tape) q qs later in
    filter-append (λ (l : Lying). l.tape == tape) (lying_in q) (flat_map lying_in qs)
    ∙ ap (λ t. t ++ filter (λ (l : Lying). l.tape == tape) (flat_map lying_in qs)) (none_on tape q.part.head.tape (fragments_of q) (λ same. omega arith))
    ∙ none_later tape qs (All-tail (λ (r : FoundPart). tape < r.part.head.tape) q qs later)

pub later_of : (q : FoundPart) (qs : List FoundPart) → Linked NextTape (map part_in (q ∷ qs)) → All (λ r. q.part.head.tape < r.part.head.tape) qs
later_of q [] linked = All-nil (λ (r : FoundPart). q.part.head.tape < r.part.head.tape)
later_of q (r ∷ qs) linked = later_tapes q.part.head.tape r qs (omega (arith, linked.0.tape)) linked.1

pub tail_linked : (q : FoundPart) (qs : List FoundPart) → Linked NextTape (map part_in (q ∷ qs)) → Linked NextTape (map part_in qs)
tail_linked q [] linked = tt
tail_linked q (r ∷ qs) linked = linked.1

-- of all fragments those on one part's tape are that part's
on_tape : (qs : List FoundPart) (q : FoundPart) → Linked NextTape (map part_in qs) → Contains qs q → filter (λ l. l.tape == q.part.head.tape) (flat_map lying_in qs) ≡ lying_in q
on_tape [] q linked there = absurd (omega (arith, there.1))
on_tape (p ∷ qs) q linked (zero, within, is) =
    subst (λ (x : FoundPart). filter (λ (l : Lying). l.tape == x.part.head.tape) (flat_map lying_in (p ∷ qs)) ≡ lying_in x) is
    (filter-append (λ (l : Lying). l.tape == p.part.head.tape) (lying_in p) (flat_map lying_in qs)
    ∙ ap (λ t. filter (λ (l : Lying). l.tape == p.part.head.tape) (lying_in p) ++ t) (none_later p.part.head.tape qs (later_of p qs linked))
    ∙ append-nil (filter (λ (l : Lying). l.tape == p.part.head.tape) (lying_in p)) ∙ all_on p.part.head.tape (fragments_of p))
on_tape (p ∷ qs) q linked (suc k, within, is) =
    let there : Contains qs q = (k, omega (arith, within), is) in
    let lt : p.part.head.tape < q.part.head.tape = All-contains (λ (r : FoundPart). p.part.head.tape < r.part.head.tape) qs q (later_of p qs linked) there in
    filter-append (λ (l : Lying). l.tape == q.part.head.tape) (lying_in p) (flat_map lying_in qs)
    ∙ ap (λ t. t ++ filter (λ (l : Lying). l.tape == q.part.head.tape) (flat_map lying_in qs)) (none_on q.part.head.tape p.part.head.tape (fragments_of p) (λ same. omega arith))
    ∙ on_tape qs q (tail_linked p qs linked) there

-- ---- dumps

-- ---- which part ends the dump

-- the part on the tape with the greatest number
greatest_ends : (qs : List FoundPart) (r : FoundPart) → Linked NextTape (map part_in qs) → EndsWhole (map part_in qs) → Contains qs r → ((x : FoundPart) → Contains qs x → x.part.head.tape ≤ r.part.head.tape) → r.part.end.more ≡ 0
greatest_ends [] r linked ends there most = absurd (omega (arith, there.1))
greatest_ends (q ∷ []) r linked ends (zero, within, is) most = ap (λ (x : FoundPart). x.part.end.more) (sym is) ∙ ends
greatest_ends (q ∷ []) r linked ends (suc k, within, is) most = absurd (omega (arith, within))
greatest_ends (q ∷ y ∷ qs) r linked ends (zero, within, is) most =
    let next : y.part.head.tape ≡ q.part.head.tape + 1 = linked.0.tape in
    let high : y.part.head.tape ≤ r.part.head.tape = most y (1, omega arith, refl) in
    absurd (omega (arith, next, high, ap (λ (x : FoundPart). x.part.head.tape) is))
greatest_ends (q ∷ y ∷ qs) r linked ends (suc k, within, is) most = greatest_ends (y ∷ qs) r linked.1 ends (k, omega (arith, within), is) (λ x there. most x (suc there.0, omega (arith, there.1), there.2))

only_one : (q r : FoundPart) → Contains (q ∷ []) r → q ≡ r
only_one q r (zero, within, is) = is
only_one q r (suc k, within, is) = absurd (omega (arith, within))

-- one on a tape before another's goes on
lesser_goes_on : (qs : List FoundPart) (r x : FoundPart) → Linked NextTape (map part_in qs) → Contains qs r → Contains qs x → r.part.head.tape < x.part.head.tape → r.part.end.more ≡ 1
lesser_goes_on [] r x linked there other before = absurd (omega (arith, there.1))
lesser_goes_on (q ∷ []) r x linked there other before = absurd (omega (arith, before, ap (λ (y : FoundPart). y.part.head.tape) (only_one q r there), ap (λ (y : FoundPart). y.part.head.tape) (only_one q x other)))
lesser_goes_on (q ∷ y ∷ qs) r x linked (zero, within, is) other before = ap (λ (z : FoundPart). z.part.end.more) (sym is) ∙ linked.0.more
lesser_goes_on (q ∷ y ∷ qs) r x linked (suc k, within, is) (zero, within2, is2) before =
    let later : q.part.head.tape < r.part.head.tape = All-contains (λ (z : FoundPart). q.part.head.tape < z.part.head.tape) (y ∷ qs) r (later_of q (y ∷ qs) linked) (k, omega (arith, within), is) in
    absurd (omega (arith, later, before, ap (λ (z : FoundPart). z.part.head.tape) is2))
lesser_goes_on (q ∷ y ∷ qs) r x linked (suc k, within, is) (suc n, within2, is2) before = lesser_goes_on (y ∷ qs) r x linked.1 (k, omega (arith, within), is) (n, omega (arith, within2), is2) before

ends_on_last : (qs : List FoundPart) (r : FoundPart) → Linked NextTape (map part_in qs) → EndsWhole (map part_in qs) → Contains qs r → EndsOnLast (map tape_part qs) r.part.head.tape r.part.end.more
ends_on_last qs r linked ends there = record {
  last = λ most. greatest_ends qs r linked ends there (λ x other. most (tape_part x) (in_map tape_part qs x other));
  before = λ p named later.
      (let x = contains_map tape_part qs p named in
      lesser_goes_on qs r x.0 linked there x.1 (subst (λ (n : ℕ). r.part.head.tape < n) (sym (ap (λ (y : TapePart). y.tape) x.2)) later));
}

dumps_in : (id tape at : ℕ) (fs : List Fragment) → All (λ f. f.head.dump ≡ id) fs → All (λ l. l.head.dump ≡ id) (map (lying_as tape) (fragments_at at fs))
dumps_in id tape at [] all = All-nil (λ (l : Lying). l.head.dump ≡ id)
dumps_in id tape at (f ∷ fs) all =
    All-cons (λ (l : Lying). l.head.dump ≡ id) (lying_as tape (record { fragment = f; at = at })) (map (lying_as tape) (fragments_at (at + fragment_len f) fs)) (All-head (λ (g : Fragment). g.head.dump ≡ id) f fs all) (dumps_in id tape (at + fragment_len f) fs (All-tail (λ (g : Fragment). g.head.dump ≡ id) f fs all))

dumps_all : (h : DumpHeadFields) (qs : List FoundPart) → ArePlaced qs → All (λ r. Agree h r.part.head) qs → All (λ l. l.head.dump ≡ h.id) (flat_map lying_in qs)
dumps_all h [] placed agree = All-nil (λ (l : Lying). l.head.dump ≡ h.id)
dumps_all h (q ∷ qs) placed agree =
    let good = (All-head (λ (p : FoundPart). (label : LabelFields) × IsPart label p.part) q qs placed).1 in
    let same : q.part.head.id ≡ h.id = (All-head (λ (r : FoundPart). Agree h r.part.head) q qs agree).id in
    let own : All (λ (f : Fragment). f.head.dump ≡ h.id) q.part.fragments = All-weaker (IsOf q.part.head.id q.part.head.volumes) (λ (f : Fragment). f.head.dump ≡ h.id) (λ f is. is.0 ∙ same) q.part.fragments good.each in
    All_join (λ (l : Lying). l.head.dump ≡ h.id) (lying_in q) (flat_map lying_in qs) (dumps_in h.id q.part.head.tape (q.first + 1) q.part.fragments own)
    (dumps_all h qs (All-tail (λ (p : FoundPart). (label : LabelFields) × IsPart label p.part) q qs placed) (All-tail (λ (r : FoundPart). Agree h r.part.head) q qs agree))

-- ---- each tape lies

pub agree_self : (h : DumpHeadFields) → Agree h h
agree_self h = record { id = refl; initial = refl; parent = refl; expires = refl; volumes = refl; set = refl; level = refl; base = refl; cell = refl }

module _ (q : FoundPart) (qs : List FoundPart) (placed : ArePlaced (q ∷ qs)) (whole : IsWhole (map part_in (q ∷ qs))) where
  starts_all : StartsAt 0 (flat_map lying_in (q ∷ qs))
  starts_all =
      starts_in q.part.head.part q.part.head.tape (q.first + 1) q.part.fragments (flat_map lying_in qs) (All-head (λ (p : FoundPart). (label : LabelFields) × IsPart label p.part) q qs placed).1.begins whole.begins

  agrees : All (λ r. Agree q.part.head r.part.head) (q ∷ qs)
  agrees = all_agree q.part.head q qs (agree_self q.part.head) whole.linked

  pub whole_called : called_by (record_with q.part.head (q ∷ qs)) ≡ flat_map lying_in (q ∷ qs)
  whole_called =
      calls_for_all q.part.head.id (flat_map lying_in (q ∷ qs)) starts_all (linked_all q qs placed whole.linked) (ends_volume q.part.head.volumes (flat_map lying_in (q ∷ qs)) (ends_all q.part.head.volumes q qs placed refl whole.linked whole.ends))
      (dumps_all q.part.head (q ∷ qs) placed agrees)

  pub whole_count : q.part.head.volumes ≡ length (volume_records (flat_map lying_in (q ∷ qs)))
  whole_count = count_all q.part.head.volumes (flat_map lying_in (q ∷ qs)) starts_all (linked_all q qs placed whole.linked) (ends_all q.part.head.volumes q qs placed refl whole.linked whole.ends)

  pub whole_lies : (t : Tape) (r : FoundPart) (items : List Item) → IsTape t → Contains (parts_of t) r → Contains (q ∷ qs) r → take r.end items ≡ tape_items t → LiesOn (record_with q.part.head (q ∷ qs)) (tape_part r) items
  whole_lies t r items is there member front =
      let agree : Agree q.part.head r.part.head = All-contains (λ (p : FoundPart). Agree q.part.head p.part.head) (q ∷ qs) r agrees member in
      record {
        tape = t;
        is = is;
        front = front;
        found = r;
        there = there;
        place = refl;
        heads = record {
          id = agree.id;
          initial = agree.initial;
          parent = agree.parent;
          expires = agree.expires;
          volumes = agree.volumes ∙ whole_count;
          set = agree.set;
          level = agree.level;
          base = agree.base;
          cell = agree.cell;
        };
        frags = sym (ap (λ (cs : List Lying). filter (λ (l : Lying). l.tape == r.part.head.tape) cs) whole_called ∙ on_tape (q ∷ qs) r whole.linked member);
        ends = ends_on_last (q ∷ qs) r whole.linked whole.ends member;
      }
