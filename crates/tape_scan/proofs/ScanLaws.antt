-- A scan finds the parts that stand on a tape's front.
use Rattle.std.proofs.Common.{◌≡◌, ℕ, zero, suc, ◌+◌, ◌<◌, ◌≤◌, List, [], ◌∷◌, ◌++◌, length, take, drop, refl, sym, ap, subst, ◌∙◌, arith, append_assoc, length-append, length-take}
use Rattle.std.specs.Prelude.{All, Contains}
use Rattle.std.specs.List.{flat_map}
use Rattle.std.proofs.lemmas.Bool.{le-leb}
use Rattle.std.proofs.lemmas.List.{take-append-drop, length-map}
use Rattle.std.proofs.lemmas.List.Elements.{All-nil, All-cons, All-weaker, All-contains, Contains-append_left}
use Rattle.std.proofs.lemmas.List.Sums.{sum_by-cons}
use Rattle.tape_text.specs.Items.{Item}
use Rattle.tape_text.specs.Texts.{Fragment, Part, Tape, fragment_items, part_items, tape_items, IsTape, IsText}
use Rattle.tape_text.specs.Parts.{FoundPart, fragment_len, fragments_len, part_len, part_marks, parts_at, parts_of}
use Rattle.tape_scan.specs.Scans.{is_closed, Scan, closed}
use Rattle.tape_text.proofs.TextLaws.{parts_front}
use Rattle.tape_scan.proofs.ListLaws.{contains_filter}

-- ---- fronts of lists

take_again : {X : Type 0} (n : ℕ) (l : List X) → take (length (take n l)) l ≡ take n l
take_again zero l = refl
take_again (suc n) [] = refl
take_again (suc n) (x ∷ l) = ap (λ t. x ∷ t) (take_again n l)

take_front : {X : Type 0} (m n : ℕ) (l : List X) → m ≤ n → take m (take n l) ≡ take m l
take_front zero n l le = refl
take_front (suc m) zero l le = absurd (omega arith)
take_front (suc m) (suc n) [] le = refl
take_front (suc m) (suc n) (x ∷ l) le = ap (λ t. x ∷ t) (take_front m n l (omega arith))

-- a list begins with a front of it
pub front_and_rest : {X : Type 0} (m n : ℕ) (l : List X) → m ≤ n → take n l ≡ take m l ++ drop m (take n l)
front_and_rest m n l le = sym (take-append-drop m (take n l)) ∙ ap (λ t. t ++ drop m (take n l)) (take_front m n l le)

-- ---- lengths

pub fragment_length : (f : Fragment) → length (fragment_items f) ≡ fragment_len f
fragment_length f = simp (length-append, length-map) (omega arith)

fragments_length : (fs : List Fragment) → length (flat_map fragment_items fs) ≡ fragments_len fs
fragments_length [] = refl
fragments_length (f ∷ fs) = omega (arith, length-append (fragment_items f) (flat_map fragment_items fs), fragment_length f, fragments_length fs, sum_by-cons fragment_len f fs)

pub part_length : (p : Part) → length (part_items p) ≡ part_len p
part_length p = simp (length-append) (omega (arith, fragments_length p.fragments))

-- ---- places

-- the places of the first parts don't depend on those behind them
pub parts_at_more : (at marks : ℕ) (ps os : List Part) → (others : List FoundPart) × (parts_at at marks (ps ++ os) ≡ parts_at at marks ps ++ others)
parts_at_more at marks [] os = (parts_at at marks os, refl)
parts_at_more at marks (p ∷ ps) os =
    let rest = parts_at_more (at + part_len p) (marks + part_marks p) ps os in
    (rest.0, ap (λ t. record { part = p; first = at; end = at + part_len p; marks = marks + part_marks p } ∷ t) rest.1)

-- they end within the parts' items
pub parts_end : (at marks : ℕ) (ps : List Part) → All (λ p. p.end ≤ at + length (flat_map part_items ps)) (parts_at at marks ps)
parts_end at marks [] = All-nil (λ (p : FoundPart). p.end ≤ at + 0)
parts_end at marks (p ∷ ps) =
    let long : length (flat_map part_items (p ∷ ps)) ≡ part_len p + length (flat_map part_items ps) = omega (arith, length-append (part_items p) (flat_map part_items ps), part_length p) in
    All-cons (λ (q : FoundPart). q.end ≤ at + length (flat_map part_items (p ∷ ps))) (record { part = p; first = at; end = at + part_len p; marks = marks + part_marks p }) (parts_at (at + part_len p) (marks + part_marks p) ps) (omega arith)
    (All-weaker (λ (q : FoundPart). q.end ≤ at + part_len p + length (flat_map part_items ps)) (λ (q : FoundPart). q.end ≤ at + length (flat_map part_items (p ∷ ps))) (λ q le. omega arith) (parts_at (at + part_len p) (marks + part_marks p) ps) (parts_end (at + part_len p) (marks + part_marks p) ps))

-- ---- a front that is a tape stands in every scan

module _ (items : List Item) (s : Scan items) (t : Tape) (count : ℕ) (is : IsTape t) (front : take count items ≡ tape_items t) where
  size : ℕ
  size = length (tape_items t)

  fronted : take (length (tape_items t)) items ≡ tape_items t
  fronted = ap (λ l. take (length l) items) (sym front) ∙ take_again count items ∙ front

  size_within : length (tape_items t) ≤ length items
  size_within = omega (arith, ap length front, length-take count items)

  -- any front of it is a text
  text_within : (n : ℕ) → n ≤ length (tape_items t) → IsText (take n items)
  text_within n le = record {
    whole = t;
    more = drop n (take (length (tape_items t)) items);
    is = is;
    joined = sym fronted ∙ front_and_rest n (length (tape_items t)) items le;
  }

  not_shorter : s.count < length (tape_items t) → ⊥
  not_shorter less = s.front.stops (omega (arith, size_within)) (text_within (s.count + 1) (omega arith))

  pub scan_is_long : length (tape_items t) ≤ s.count
  scan_is_long = omega (arith, not_shorter)

  whole_front : tape_items s.front.text.whole ≡ tape_items t ++ (drop (length (tape_items t)) (take s.count items) ++ s.front.text.more)
  whole_front =
      s.front.text.joined ∙ ap (λ l. l ++ s.front.text.more) (front_and_rest (length (tape_items t)) s.count items scan_is_long ∙ ap (λ l. l ++ drop (length (tape_items t)) (take s.count items)) fronted)
      ∙ append_assoc (tape_items t) (drop (length (tape_items t)) (take s.count items)) s.front.text.more

  parts_same : (os : List Part) × (s.front.text.whole.parts ≡ t.parts ++ os)
  parts_same =
      let same : flat_map part_items s.front.text.whole.parts ≡ flat_map part_items t.parts ++ (drop (length (tape_items t)) (take s.count items) ++ s.front.text.more) = (let w = whole_front in cc) in
      let found = parts_front s.front.text.whole.parts t.parts (drop (length (tape_items t)) (take s.count items) ++ s.front.text.more) same in
      (found.0, found.1)

  pub scan_finds : (p : FoundPart) → Contains (parts_of t) p → Contains (closed s) p
  scan_finds p there =
      let more = parts_at_more 2 1 t.parts parts_same.0 in
      let in_whole : Contains (parts_of s.front.text.whole) p =
      subst (λ (ps : List Part). Contains (parts_at 2 1 ps) p) (sym parts_same.1) (subst (λ (l : List FoundPart). Contains l p) (sym more.1) (Contains-append_left (parts_of t) more.0 p there)) in
      let ends : p.end ≤ 2 + length (flat_map part_items t.parts) = All-contains (λ (q : FoundPart). q.end ≤ 2 + length (flat_map part_items t.parts)) (parts_of t) p (parts_end 2 1 t.parts) there in
      contains_filter (is_closed s.count) (parts_of s.front.text.whole) p in_whole (le-leb p.end s.count (omega (arith, scan_is_long, ends)))
