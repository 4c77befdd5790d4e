-- A part that a scan finds closed ends a front that is a tape; and a part put behind a tape makes one.
use Rattle.std.proofs.Common.{◌≡◌, ℕ, zero, suc, ◌+◌, ◌≤◌, List, [], ◌∷◌, ◌++◌, length, take, refl, sym, ap, subst, ◌∙◌, arith, append_assoc, append-nil, length-append, length-take}
use Rattle.std.specs.Prelude.{All, Contains, sum_by}
use Rattle.std.specs.List.{flat_map}
use Rattle.std.proofs.lemmas.Bool.{leb-true}
use Rattle.std.proofs.lemmas.List.{take_all}
use Rattle.std.proofs.lemmas.List.Concat.{flat_map-append}
use Rattle.std.proofs.lemmas.List.Sums.{sum_by-cons}
use Rattle.std.proofs.lemmas.List.Elements.{All-nil, All-cons, Contains-append_left}
use Rattle.tape_frames.specs.declared.frame.Frame.TheVariants as frames
use Rattle.tape_text.specs.Items.{Item, Says, Filemark, IsFitItem}
use Rattle.tape_text.specs.Texts.{Part, Tape, part_items, tape_items, Linked, NextPart, IsPart, AgreeInUses, IsTape}
use Rattle.tape_text.specs.Parts.{FoundPart, part_len, part_marks, parts_at, parts_of}
use Rattle.tape_scan.specs.Scans.{is_closed, Scan, closed, with_part, next_found, IsClosedIn}
use Rattle.tape_scan.proofs.ScanLaws.{part_length}
use Rattle.tape_scan.proofs.ListLaws.{take_of_append, take_of_take, of_filter, All_front, Linked_front, All_join}

-- ---- what a filter keeps

-- ---- the parts up to one

parts_split : (at marks : ℕ) (all : List Part) (p : FoundPart) → Contains (parts_at at marks all) p → (ps : List Part) × (rest : List Part) × (all ≡ ps ++ p.part ∷ rest) × (p.end ≡ at + length (flat_map part_items (ps ++ p.part ∷ []))) × Contains (parts_at at marks (ps ++ p.part ∷ [])) p
parts_split at marks [] p there = absurd (omega (arith, there.1))
parts_split at marks (q ∷ all) p (zero, within, is) =
    let part : q ≡ p.part = ap (λ (x : FoundPart). x.part) is in
    let end : p.end ≡ at + part_len q = ap (λ (x : FoundPart). x.end) (sym is) in
    let long : length (flat_map part_items (p.part ∷ [])) ≡ part_len p.part = omega (arith, length-append (part_items p.part) [], part_length p.part) in
    ([], all, ap (λ (x : Part). x ∷ all) part, omega (arith, end, long, ap part_len part), subst (λ (x : Part). Contains (parts_at at marks (x ∷ [])) p) part (zero, omega arith, is))
parts_split at marks (q ∷ all) p (suc k, within, is) =
    let rest = parts_split (at + part_len q) (marks + part_marks q) all p (k, omega (arith, within), is) in (
      q ∷ rest.0,
      rest.1,
      ap (λ (t : List Part). q ∷ t) rest.2,
      omega (arith, rest.3, length-append (part_items q) (flat_map part_items (rest.0 ++ p.part ∷ [])), part_length q),
      (suc rest.4.0, omega (arith, rest.4.1), rest.4.2),
    )

-- the first parts of a tape are a tape
tape_front : (t : Tape) (ps : List Part) (q : Part) (rest : List Part) → t.parts ≡ (ps ++ q ∷ []) ++ rest → IsTape t → IsTape (record { label = t.label; parts = ps ++ q ∷ [] }) × (tape_items t ≡ tape_items (record { label = t.label; parts = ps ++ q ∷ [] }) ++ flat_map part_items rest)
tape_front t ps q rest same is =
    let items : tape_items t ≡ tape_items (record { label = t.label; parts = ps ++ q ∷ [] }) ++ flat_map part_items rest =
    ap (λ (l : List Item). Says (frames.Label t.label) ∷ Filemark ∷ l) (ap (λ (x : List Part). flat_map part_items x) same ∙ flat_map-append part_items (ps ++ q ∷ []) rest) in
    let agree : AgreeInUses ((ps ++ q ∷ []) ++ rest) = subst AgreeInUses same is.uses in (
      record {
        fit = All_front IsFitItem (tape_items (record { label = t.label; parts = ps ++ q ∷ [] })) (flat_map part_items rest) (subst (All IsFitItem) items is.fit);
        none = λ zero_label. absurd (let nothing : [] ≡ (ps ++ q ∷ []) ++ rest = sym (is.none zero_label) ∙ same in let long = ap length nothing in omega (arith, long, length-append (ps ++ q ∷ []) rest, length-append ps (q ∷ [])));
        each = All_front (IsPart t.label) (ps ++ q ∷ []) rest (subst (All (IsPart t.label)) same is.each);
        linked = Linked_front NextPart (ps ++ q ∷ []) rest (subst (Linked NextPart) same is.linked);
        uses = λ a b a_there b_there. agree a b (Contains-append_left (ps ++ q ∷ []) rest a a_there) (Contains-append_left (ps ++ q ∷ []) rest b b_there);
      },
      items,
    )

-- a closed part ends a front that is a tape
pub closed_stands : (items : List Item) (s : Scan items) (p : FoundPart) → Contains (closed s) p → (t : Tape) × IsTape t × Contains (parts_of t) p × (take p.end items ≡ tape_items t)
closed_stands items s p there =
    let kept = of_filter (is_closed s.count) (parts_of s.front.text.whole) p there in
    let short : p.end ≤ s.count = leb-true p.end s.count kept.1 in
    let split = parts_split 2 1 s.front.text.whole.parts p kept.0 in
    let parts : s.front.text.whole.parts ≡ (split.0 ++ p.part ∷ []) ++ split.1 = split.2 ∙ sym (append_assoc split.0 (p.part ∷ []) split.1) in
    let front = tape_front s.front.text.whole split.0 p.part split.1 parts s.front.text.is in
    let whole : tape_items (record { label = s.front.text.whole.label; parts = split.0 ++ p.part ∷ [] }) ++ flat_map part_items split.1 ≡ take s.count items ++ s.front.text.more = sym front.1 ∙ s.front.text.joined in
    let within : p.end ≤ length (take s.count items) = omega (arith, short, s.front.within, length-take s.count items) in
    let left : take p.end (take s.count items ++ s.front.text.more) ≡ take p.end items = take_of_append p.end (take s.count items) s.front.text.more within ∙ take_of_take p.end s.count items short in
    let size : p.end ≡ length (tape_items (record { label = s.front.text.whole.label; parts = split.0 ++ p.part ∷ [] })) = omega (arith, split.3) in
    let right : take p.end (tape_items (record { label = s.front.text.whole.label; parts = split.0 ++ p.part ∷ [] }) ++ flat_map part_items split.1) ≡ tape_items (record { label = s.front.text.whole.label; parts = split.0 ++ p.part ∷ [] }) =
    take_of_append p.end (tape_items (record { label = s.front.text.whole.label; parts = split.0 ++ p.part ∷ [] })) (flat_map part_items split.1) (omega (arith, size)) ∙ take_own p.end (tape_items (record { label = s.front.text.whole.label; parts = split.0 ++ p.part ∷ [] })) (omega (arith, size)) in
    (record { label = s.front.text.whole.label; parts = split.0 ++ p.part ∷ [] }, front.0, split.4, sym left ∙ ap (λ (l : List Item). take p.end l) (sym whole) ∙ right)
  where
    take_own : (n : ℕ) (l : List Item) → length l ≤ n → take n l ≡ l
    take_own zero [] le = refl
    take_own zero (x ∷ l) le = absurd (omega arith)
    take_own (suc n) [] le = refl
    take_own (suc n) (x ∷ l) le = ap (λ t. x ∷ t) (take_own n l (omega arith))

-- ---- a part more

pub Linked_push : {X : Type 0} (Next : X → X → Type 0) (xs : List X) (x : X) → Linked Next xs → ((before : List X) (y : X) → xs ≡ before ++ y ∷ [] → Next y x) → Linked Next (xs ++ x ∷ [])
Linked_push Next [] x linked next = tt
Linked_push Next (y ∷ []) x linked next = (next [] y refl, tt)
Linked_push Next (y ∷ z ∷ xs) x linked next = (linked.0, Linked_push Next (z ∷ xs) x linked.1 (λ before w same. next (y ∷ before) w (ap (λ t. y ∷ t) same)))

parts_push : (at marks : ℕ) (ps : List Part) (p : Part)
    → Contains (parts_at at marks (ps ++ p ∷ [])) (record { part = p; first = at + length (flat_map part_items ps); end = at + length (flat_map part_items ps) + part_len p; marks = marks + sum_by part_marks ps + part_marks p })
parts_push at marks [] p =
    let same : at ≡ at + 0 = omega arith in
    let none : marks ≡ marks + sum_by part_marks [] = omega arith in
    subst (λ (m : ℕ). Contains (parts_at at marks (p ∷ [])) (record { part = p; first = at + 0; end = at + 0 + part_len p; marks = m + part_marks p })) none
    (subst (λ (n : ℕ). Contains (parts_at at marks (p ∷ [])) (record { part = p; first = n; end = n + part_len p; marks = marks + part_marks p })) same (zero, omega arith, refl))
parts_push at marks (q ∷ ps) p =
    let rest = parts_push (at + part_len q) (marks + part_marks q) ps p in
    let long : length (flat_map part_items (q ∷ ps)) ≡ part_len q + length (flat_map part_items ps) = omega (arith, length-append (part_items q) (flat_map part_items ps), part_length q) in
    let same : at + part_len q + length (flat_map part_items ps) ≡ at + length (flat_map part_items (q ∷ ps)) = omega (arith, long) in
    let counted : marks + part_marks q + sum_by part_marks ps ≡ marks + sum_by part_marks (q ∷ ps) = omega (arith, sum_by-cons part_marks q ps) in
    let there : Contains (parts_at (at + part_len q) (marks + part_marks q) (ps ++ p ∷ []))
    (record { part = p; first = at + length (flat_map part_items (q ∷ ps)); end = at + length (flat_map part_items (q ∷ ps)) + part_len p; marks = marks + sum_by part_marks (q ∷ ps) + part_marks p }) =
    subst (λ (m : ℕ). Contains (parts_at (at + part_len q) (marks + part_marks q) (ps ++ p ∷ [])) (record { part = p; first = at + length (flat_map part_items (q ∷ ps)); end = at + length (flat_map part_items (q ∷ ps)) + part_len p; marks = m + part_marks p })) counted
    (subst (λ (n : ℕ). Contains (parts_at (at + part_len q) (marks + part_marks q) (ps ++ p ∷ [])) (record { part = p; first = n; end = n + part_len p; marks = marks + part_marks q + sum_by part_marks ps + part_marks p })) same rest) in
    (suc there.0, omega (arith, there.1), there.2)

-- a part behind all of a tape's makes a tape, whose last part it is
pub one_part_more : (t : Tape) (p : Part) → IsTape t → (t.label.initial ≡ 0 → ⊥) → IsPart t.label p → All IsFitItem (part_items p) → ((before : List Part) (q : Part) → t.parts ≡ before ++ q ∷ [] → NextPart q p) → AgreeInUses (t.parts ++ p ∷ [])
    → IsTape (with_part t p) × (tape_items t ++ part_items p ≡ tape_items (with_part t p)) × Contains (parts_of (with_part t p)) (next_found t p)
one_part_more t p is some good fit next uses =
    let items : tape_items t ++ part_items p ≡ tape_items (with_part t p) =
    ap (λ (l : List Item). Says (frames.Label t.label) ∷ Filemark ∷ l) (ap (λ (l : List Item). flat_map part_items t.parts ++ l) (sym (append-nil (part_items p))) ∙ sym (flat_map-append part_items t.parts (p ∷ []))) in
    let size : 2 + length (flat_map part_items t.parts) ≡ length (tape_items t) = omega arith in (
      record {
        fit = subst (All IsFitItem) items (All_join IsFitItem (tape_items t) (part_items p) is.fit fit);
        none = λ zero_label. absurd (some zero_label);
        each = All_join (IsPart t.label) t.parts (p ∷ []) is.each (All-cons (IsPart t.label) p [] good (All-nil (IsPart t.label)));
        linked = Linked_push NextPart t.parts p is.linked next;
        uses = uses;
      },
      items,
      subst (λ (n : ℕ). Contains (parts_of (with_part t p)) (record { part = p; first = n; end = n + part_len p; marks = 1 + sum_by part_marks t.parts + part_marks p })) size (parts_push 2 1 t.parts p),
    )

-- and it is closed there
pub next_closed : (t : Tape) (p : Part) → IsTape (with_part t p) → tape_items t ++ part_items p ≡ tape_items (with_part t p) → Contains (parts_of (with_part t p)) (next_found t p) → IsClosedIn (tape_items t ++ part_items p) (next_found t p)
next_closed t p is items there = record {
  tape = with_part t p;
  is = is;
  there = there;
  front = take_all (length (tape_items t) + part_len p) (tape_items t ++ part_items p) (omega (arith, length-append (tape_items t) (part_items p), part_length p)) ∙ items;
}
