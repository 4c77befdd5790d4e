-- Where the parts and fragments of a tape stand among its items.
use Rattle.std.proofs.Common.{◌≡◌, ℕ, zero, suc, ◌+◌, ◌≤◌, Some, List, [], ◌∷◌, ◌++◌, length, take, drop, refl, sym, ap, subst, ◌∙◌, arith, append_assoc, length-append}
use Rattle.std.specs.Prelude.{All, Contains, slice_get}
use Rattle.std.specs.List.{flat_map}
use Rattle.tape_frames.specs.declared.frame.Frame.TheVariants as frames
use Rattle.std.proofs.lemmas.List.Elements.{All-nil, All-cons, All-head, All-tail}
use Rattle.tape_text.specs.Items.{Item, Says, Filemark}
use Rattle.tape_text.specs.Texts.{Fragment, Part, Tape, fragment_frames, fragment_items, part_items, tape_items}
use Rattle.tape_text.specs.Parts.{FoundFragment, FoundPart, fragment_len, part_len, part_marks, parts_at, parts_of, fragments_at, fragments_of}
use Rattle.tape_scan.proofs.ScanLaws.{fragment_length, part_length}

-- a piece of a list, with what stands before it and behind it
pub record Amid {X : Type 0} (all piece : List X) (at : ℕ) : Type 0 where
  pub before : List X
  pub behind : List X
  pub joined : all ≡ before ++ (piece ++ behind)
  pub count : at ≡ length before

-- a piece of a piece
pub amid_again : {X : Type 0} (all piece inner : List X) (at within : ℕ) → Amid all piece at → Amid piece inner within → Amid all inner (at + within)
amid_again all piece inner at within a b = record {
  before = a.before ++ b.before;
  behind = b.behind ++ a.behind;
  joined =
      a.joined ∙ ap (λ t. a.before ++ (t ++ a.behind)) b.joined ∙ ap (λ t. a.before ++ t) (append_assoc b.before (inner ++ b.behind) a.behind ∙ ap (λ t. b.before ++ t) (append_assoc inner b.behind a.behind))
      ∙ sym (append_assoc a.before b.before (inner ++ (b.behind ++ a.behind)));
  count = omega (arith, a.count, b.count, length-append a.before b.before);
}

-- a piece behind more of a list
pub amid_behind : {X : Type 0} (front all piece : List X) (at : ℕ) → Amid all piece at → Amid (front ++ all) piece (length front + at)
amid_behind front all piece at a = record {
  before = front ++ a.before;
  behind = a.behind;
  joined = ap (λ t. front ++ t) a.joined ∙ sym (append_assoc front a.before (piece ++ a.behind));
  count = omega (arith, a.count, length-append front a.before);
}

pub amid_more : {X : Type 0} (all piece more : List X) (at : ℕ) → Amid all piece at → Amid (all ++ more) piece at
amid_more all piece more at a = record {
  before = a.before;
  behind = a.behind ++ more;
  joined = ap (λ t. t ++ more) a.joined ∙ append_assoc a.before (piece ++ a.behind) more ∙ ap (λ t. a.before ++ t) (append_assoc piece a.behind more);
  count = a.count;
}

pub amid_first : {X : Type 0} (piece behind : List X) → Amid (piece ++ behind) piece 0
amid_first piece behind = record { before = []; behind = behind; joined = refl; count = refl }

all_left : {X : Type 0} (P : X → Type 0) (xs ys : List X) → All P (xs ++ ys) → All P xs
all_left P [] ys all = All-nil P
all_left P (x ∷ xs) ys all = All-cons P x xs (All-head P x (xs ++ ys) all) (all_left P xs ys (All-tail P x (xs ++ ys) all))

all_right : {X : Type 0} (P : X → Type 0) (xs ys : List X) → All P (xs ++ ys) → All P ys
all_right P [] ys all = all
all_right P (x ∷ xs) ys all = all_right P xs ys (All-tail P x (xs ++ ys) all)

-- what is so of all is so of a piece
pub amid_all : {X : Type 0} (P : X → Type 0) (all piece : List X) (at : ℕ) → Amid all piece at → All P all → All P piece
amid_all P all piece at a each = all_left P piece a.behind (all_right P a.before (piece ++ a.behind) (subst (All P) a.joined each))

drop_front : {X : Type 0} (xs ys : List X) → drop (length xs) (xs ++ ys) ≡ ys
drop_front [] ys = refl
drop_front (x ∷ xs) ys = drop_front xs ys

take_whole : {X : Type 0} (xs ys : List X) → take (length xs) (xs ++ ys) ≡ xs
take_whole [] ys = refl
take_whole (x ∷ xs) ys = ap (λ t. x ∷ t) (take_whole xs ys)

-- it is read from its place on
pub amid_read : {X : Type 0} (all piece : List X) (at : ℕ) → Amid all piece at → take (length piece) (drop at all) ≡ piece
amid_read all piece at a =
    let dropped : drop at all ≡ piece ++ a.behind = rw (a.count, a.joined) (drop_front a.before (piece ++ a.behind)) in
    ap (λ t. take (length piece) t) dropped ∙ take_whole piece a.behind

-- ---- parts and fragments

-- a part that is found stands at its first, and its end is behind it
pub parts_amid : (at marks : ℕ) (ps : List Part) (q : FoundPart) → Contains (parts_at at marks ps) q → (n : ℕ) × (q.first ≡ at + n) × Amid (flat_map part_items ps) (part_items q.part) n × (q.end ≡ q.first + part_len q.part)
parts_amid at marks [] q there = absurd (omega (arith, there.1))
parts_amid at marks (p ∷ ps) q (zero, within, is) =
    let first : q.first ≡ at = ap (λ (x : FoundPart). x.first) (sym is) in
    let end : q.end ≡ at + part_len p = ap (λ (x : FoundPart). x.end) (sym is) in
    let part : p ≡ q.part = ap (λ (x : FoundPart). x.part) is in (
      0,
      omega arith,
      subst (λ (x : Part). Amid (flat_map part_items (p ∷ ps)) (part_items x) 0) part (amid_first (part_items p) (flat_map part_items ps)),
      omega (arith, first, end, ap part_len part),
    )
parts_amid at marks (p ∷ ps) q (suc k, within, is) =
    let rest = parts_amid (at + part_len p) (marks + part_marks p) ps q (k, omega (arith, within), is) in
    (length (part_items p) + rest.0, omega (arith, rest.1, part_length p), amid_behind (part_items p) (flat_map part_items ps) (part_items q.part) rest.0 rest.2, rest.3)

-- a fragment that is found stands at its place
pub fragments_amid : (at : ℕ) (fs : List Fragment) (g : FoundFragment) → Contains (fragments_at at fs) g → (n : ℕ) × (g.at ≡ at + n) × Amid (flat_map fragment_items fs) (fragment_frames g.fragment) n
fragments_amid at [] g there = absurd (omega (arith, there.1))
fragments_amid at (f ∷ fs) g (zero, within, is) =
    let first : g.at ≡ at = ap (λ (x : FoundFragment). x.at) (sym is) in
    let fragment : f ≡ g.fragment = ap (λ (x : FoundFragment). x.fragment) is in
    let here : Amid (fragment_items f ++ flat_map fragment_items fs) (fragment_frames f) 0 = amid_more (fragment_items f) (fragment_frames f) (flat_map fragment_items fs) 0 (amid_first (fragment_frames f) (Filemark ∷ [])) in
    (0, omega arith, subst (λ (x : Fragment). Amid (flat_map fragment_items (f ∷ fs)) (fragment_frames x) 0) fragment here)
fragments_amid at (f ∷ fs) g (suc k, within, is) =
    let rest = fragments_amid (at + fragment_len f) fs g (k, omega (arith, within), is) in
    (length (fragment_items f) + rest.0, omega (arith, rest.1, fragment_length f), amid_behind (fragment_items f) (flat_map fragment_items fs) (fragment_frames g.fragment) rest.0 rest.2)

-- a fragment of a part of a tape stands at its place among the tape's items
pub stands_amid : (t : Tape) (q : FoundPart) (g : FoundFragment) → Contains (parts_of t) q → Contains (fragments_of q) g → Amid (tape_items t) (fragment_frames g.fragment) g.at
stands_amid t q g part fragment =
    let p = parts_amid 2 1 t.parts q part in
    let f = fragments_amid (q.first + 1) q.part.fragments g fragment in
    let in_part : Amid (part_items q.part) (fragment_frames g.fragment) (1 + f.0) =
    amid_behind (Says (frames.DumpHead q.part.head) ∷ []) (flat_map fragment_items q.part.fragments ++ Says (frames.DumpEnd q.part.end) ∷ Filemark ∷ []) (fragment_frames g.fragment) f.0
    (amid_more (flat_map fragment_items q.part.fragments) (fragment_frames g.fragment) (Says (frames.DumpEnd q.part.end) ∷ Filemark ∷ []) f.0 f.2) in
    let in_parts = amid_again (flat_map part_items t.parts) (part_items q.part) (fragment_frames g.fragment) p.0 (1 + f.0) p.2 in_part in
    let in_tape : Amid (tape_items t) (fragment_frames g.fragment) (2 + (p.0 + (1 + f.0))) =
    amid_behind (Says (frames.Label t.label) ∷ Filemark ∷ []) (flat_map part_items t.parts) (fragment_frames g.fragment) (p.0 + (1 + f.0)) in_parts in
    let place : 2 + (p.0 + (1 + f.0)) ≡ g.at = omega (arith, p.1, f.1) in
    subst (λ (n : ℕ). Amid (tape_items t) (fragment_frames g.fragment) n) place in_tape

pub found_part_is : (at marks : ℕ) (ps : List Part) (q : FoundPart) → Contains (parts_at at marks ps) q → Contains ps q.part
found_part_is at marks [] q there = absurd (omega (arith, there.1))
found_part_is at marks (p ∷ ps) q (zero, within, is) = (0, omega arith, ap (λ (x : FoundPart). x.part) is)
found_part_is at marks (p ∷ ps) q (suc k, within, is) =
    let rest = found_part_is (at + part_len p) (marks + part_marks p) ps q (k, omega (arith, within), is) in
    (suc rest.0, omega (arith, rest.1), rest.2)

pub found_fragment_is : (at : ℕ) (fs : List Fragment) (g : FoundFragment) → Contains (fragments_at at fs) g → Contains fs g.fragment
found_fragment_is at [] g there = absurd (omega (arith, there.1))
found_fragment_is at (f ∷ fs) g (zero, within, is) = (0, omega arith, ap (λ (x : FoundFragment). x.fragment) is)
found_fragment_is at (f ∷ fs) g (suc k, within, is) =
    let rest = found_fragment_is (at + fragment_len f) fs g (k, omega (arith, within), is) in
    (suc rest.0, omega (arith, rest.1), rest.2)

item_behind : (xs : List Item) (y : Item) (ys : List Item) → slice_get (xs ++ y ∷ ys) (length xs) ≡ Some y
item_behind [] y ys = refl
item_behind (x ∷ xs) y ys = item_behind xs y ys

pub item_amid : (all : List Item) (i : Item) (piece : List Item) (n : ℕ) → Amid all (i ∷ piece) n → slice_get all n ≡ Some i
item_amid all i piece n a = ap (λ (l : List Item). slice_get l n) a.joined ∙ ap (λ (k : ℕ). slice_get (a.before ++ (i ∷ piece ++ a.behind)) k) a.count ∙ item_behind a.before i (piece ++ a.behind)

-- the head of a part of a tape is its record at the part's first
pub head_stands : (t : Tape) (q : FoundPart) (more : List Item) → Contains (parts_of t) q → slice_get (tape_items t ++ more) q.first ≡ Some (Says (frames.DumpHead q.part.head))
head_stands t q more there =
    let p = parts_amid 2 1 t.parts q there in
    let amid : Amid (tape_items t ++ more) (part_items q.part) (2 + p.0) = amid_more (tape_items t) (part_items q.part) more (2 + p.0) (amid_behind (Says (frames.Label t.label) ∷ Filemark ∷ []) (flat_map part_items t.parts) (part_items q.part) p.0 p.2) in
    let place : 2 + p.0 ≡ q.first = omega (arith, p.1) in
    subst (λ (n : ℕ). slice_get (tape_items t ++ more) n ≡ Some (Says (frames.DumpHead q.part.head))) place
    (item_amid (tape_items t ++ more) (Says (frames.DumpHead q.part.head)) (flat_map fragment_items q.part.fragments ++ Says (frames.DumpEnd q.part.end) ∷ Filemark ∷ []) (2 + p.0) amid)

pub part_long : (p : Part) → 3 ≤ part_len p
part_long p = omega arith
