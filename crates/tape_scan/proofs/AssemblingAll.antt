-- All parts that several scans tell, each with its place.
use Rattle.std.proofs.Common.{◌≡◌, ℕ, zero, suc, ◌+◌, ◌<◌, ◌≤◌, true, Some, List, [], ◌∷◌, ◌++◌, map, refl, sym, ap, subst, ◌∙◌, arith, inl, inr, IsSome}
use Rattle.std.specs.Prelude.{All, AllPairs, Contains, slice_get}
use Rattle.std.specs.List.{flat_map}
use Rattle.std.proofs.lemmas.Bool.{leb-true, lt-ltb}
use Rattle.std.proofs.lemmas.Bool.Decides.{leb_tells}
use Rattle.std.proofs.lemmas.List.{map-append}
use Rattle.std.proofs.lemmas.List.Elements.{All-nil, All-cons, All-weaker, Contains-append_left, Contains-append_right, Contains-append_cases}
use Rattle.std.proofs.lemmas.List.Kept.{AllPairs-cons, AllPairs-filter}
use Rattle.tape_text.specs.Texts.{Part}
use Rattle.tape_text.specs.Parts.{FoundPart, part_len, part_marks, parts_at, parts_of}
use Rattle.tape_scan.specs.declared.sections.PartFound.{PartFound}
use Rattle.tape_scan.specs.declared.sections.Sections.{Sections}
use Rattle.tape_scan.specs.Scans.{Scan, begun, closed, is_begun, is_closed, IsClosedIn}
use Rattle.tape_scan.specs.Slots.{Slot, Located, IsClosedAt, IsBegunAt}
use Rattle.tape_scan.specs.Scanned.{IsEarlier, IsSame}
use Rattle.tape_scan.specs.Sections.{told_part}
use Rattle.tape_scan.specs.Assembled.{AreScans}
use Rattle.tape_scan.proofs.ListLaws.{contains_map, contains_filter, of_filter}
use Rattle.tape_scan.proofs.PlaceLaws.{part_long}
use Rattle.tape_scan.proofs.ClosedLaws.{scanned_closed}
use Rattle.tape_scan.proofs.HeadLaws.{scanned_begun, begun_scanned}
use Rattle.tape_scan.proofs.AssemblingTold.{told_whole, told_closed, closed_end, IsFair, is_fair}

-- a part with what is told of it
pub record Both : Type 0 where
  pub at : Located
  pub told : PartFound

-- all parts that are told stand begun, and closed where they are told to be; each part that does is among them, in order
pub record IsAll (slots : List Slot) (zs : List Both) : Type 0 where
  pub begun : (z : Both) → Contains zs z → IsBegunAt slots z.at
  pub heads : (z : Both) → Contains zs z → z.told.head ≡ z.at.found.part.head
  pub closed : (z : Both) → Contains zs z → IsSome z.told.end → IsClosedAt slots z.at × IsFair z.at.found × (z.told ≡ told_whole z.at.found)
  pub all_begun : (l : Located) → IsBegunAt slots l → (z : Both) × Contains zs z × IsSame l z.at
  pub all_closed : (l : Located) → IsClosedAt slots l → (z : Both) × Contains zs z × (z.at ≡ l)
  pub told_closed : (z : Both) → Contains zs z → IsClosedAt slots z.at → IsFair z.at.found × (z.told ≡ told_whole z.at.found)
  pub in_order : AllPairs (λ y z. IsEarlier y.at z.at) zs

-- ---- lists in order

pub pairs_rest : {X : Type 0} (R : X → X → Type 0) (x : X) (xs : List X) → AllPairs R (x ∷ xs) → AllPairs R xs
pairs_rest R x xs all i j d lt within = all (suc i) (suc j) d (omega arith) (omega arith)

pub pairs_first : {X : Type 0} (R : X → X → Type 0) (x : X) (xs : List X) → AllPairs R (x ∷ xs) → All (R x) xs
pairs_first R x xs all k d within = all 0 (suc k) d (omega arith) (omega arith)

all_both_lists : {X : Type 0} (P : X → Type 0) (xs ys : List X) → All P xs → ((y : X) → Contains ys y → P y) → All P (xs ++ ys)
all_both_lists P [] ys all more = each P ys more
  where
    each : {X : Type 0} (P : X → Type 0) (ys : List X) → ((y : X) → Contains ys y → P y) → All P ys
    each P [] more = All-nil P
    each P (y ∷ ys) more = All-cons P y ys (more y (0, omega arith, refl)) (each P ys (λ z there. more z (suc there.0, omega (arith, there.1), there.2)))
all_both_lists P (x ∷ xs) ys all more = All-cons P x (xs ++ ys) (all 0 x (omega arith)) (all_both_lists P xs ys (λ k d lt. all (suc k) d (omega arith)) more)

pairs_append : {X : Type 0} (R : X → X → Type 0) (xs ys : List X) → AllPairs R xs → AllPairs R ys → ((x y : X) → Contains xs x → Contains ys y → R x y) → AllPairs R (xs ++ ys)
pairs_append R [] ys in_x in_y across = in_y
pairs_append R (x ∷ xs) ys in_x in_y across =
    AllPairs-cons R x (xs ++ ys) (all_both_lists (R x) xs ys (pairs_first R x xs in_x) (λ y there. across x y (0, omega arith, refl) there))
    (pairs_append R xs ys (pairs_rest R x xs in_x) in_y (λ z y there. across z y (suc there.0, omega (arith, there.1), there.2)))

all_map : {X Y : Type 0} (P : Y → Type 0) (f : X → Y) (xs : List X) → All (λ x. P (f x)) xs → All P (map f xs)
all_map P f [] all = All-nil P
all_map P f (x ∷ xs) all = All-cons P (f x) (map f xs) (all 0 x (omega arith)) (all_map P f xs (λ k d lt. all (suc k) d (omega arith)))

pairs_map : {X Y : Type 0} (R : Y → Y → Type 0) (f : X → Y) (xs : List X) → AllPairs (λ x y. R (f x) (f y)) xs → AllPairs R (map f xs)
pairs_map R f [] all = λ i j d lt within. absurd (omega (arith, within))
pairs_map R f (x ∷ xs) all = AllPairs-cons R (f x) (map f xs) (all_map (R (f x)) f xs (pairs_first (λ a b. R (f a) (f b)) x xs all)) (pairs_map R f xs (pairs_rest (λ a b. R (f a) (f b)) x xs all))

contains_to : {X Y : Type 0} (f : X → Y) (xs : List X) (x : X) → Contains xs x → Contains (map f xs) (f x)
contains_to f [] x there = absurd (omega (arith, there.1))
contains_to f (y ∷ xs) x (zero, within, is) = (0, omega arith, ap f is)
contains_to f (y ∷ xs) x (suc k, within, is) = let rest = contains_to f xs x (k, omega (arith, within), is) in (suc rest.0, omega (arith, rest.1), rest.2)

-- ---- parts of one tape

behind : (at marks : ℕ) (ps : List Part) → All (λ (q : FoundPart). at ≤ q.first) (parts_at at marks ps)
behind at marks [] = All-nil (λ (q : FoundPart). at ≤ q.first)
behind at marks (p ∷ ps) =
    All-cons (λ (q : FoundPart). at ≤ q.first) (record { part = p; first = at; end = at + part_len p; marks = marks + part_marks p }) (parts_at (at + part_len p) (marks + part_marks p) ps) (omega arith)
    (All-weaker (λ (q : FoundPart). at + part_len p ≤ q.first) (λ (q : FoundPart). at ≤ q.first) (λ q le. omega (arith, le)) (parts_at (at + part_len p) (marks + part_marks p) ps) (behind (at + part_len p) (marks + part_marks p) ps))

parts_ascend : (at marks : ℕ) (ps : List Part) → AllPairs (λ (p q : FoundPart). p.first < q.first) (parts_at at marks ps)
parts_ascend at marks [] = λ i j d lt within. absurd (omega (arith, within))
parts_ascend at marks (p ∷ ps) =
    AllPairs-cons (λ (x y : FoundPart). x.first < y.first) (record { part = p; first = at; end = at + part_len p; marks = marks + part_marks p }) (parts_at (at + part_len p) (marks + part_marks p) ps)
    (All-weaker (λ (q : FoundPart). at + part_len p ≤ q.first) (λ (q : FoundPart). at < q.first) (λ q le. let long = part_long p in omega (arith, le, long)) (parts_at (at + part_len p) (marks + part_marks p) ps) (behind (at + part_len p) (marks + part_marks p) ps))
    (parts_ascend (at + part_len p) (marks + part_marks p) ps)

-- ---- parts of all tapes

abbrev pub both_at : ℕ → ℕ → FoundPart → Both
both_at slot count p = record { at = record { slot = slot; found = p }; told = told_part count p }

abbrev pub all_from : (first : ℕ) (slots : List Slot) (tapes : List Sections) → AreScans slots tapes → List Both
all_from first [] [] scans = []
all_from first (s ∷ ss) (t ∷ ts) scans = map (both_at first scans.0.0.count) (begun scans.0.0) ++ all_from (suc first) ss ts scans.1
all_from first [] (t ∷ ts) scans = absurd scans
all_from first (s ∷ ss) [] scans = absurd scans

-- where one of them comes from
pub record Origin (slots : List Slot) (first : ℕ) (z : Both) : Type 0 where
  pub index : ℕ
  pub here : Slot
  pub scan : Scan here.items
  pub at : slice_get slots index ≡ Some here
  pub slot : z.at.slot ≡ first + index
  pub there : Contains (begun scan) z.at.found
  pub told : z.told ≡ told_part scan.count z.at.found

origin_here : (s : Slot) (ss : List Slot) (first : ℕ) (scan : Scan s.items) (z : Both) → Contains (map (both_at first scan.count) (begun scan)) z → Origin (s ∷ ss) first z
origin_here s ss first scan z member =
    let found = contains_map (both_at first scan.count) (begun scan) z member in
    let part : found.0 ≡ z.at.found = ap (λ (b : Both). b.at.found) found.2 in
    record {
      index = 0;
      here = s;
      scan = scan;
      at = refl;
      slot = let slot = ap (λ (b : Both). b.at.slot) found.2 in omega (arith, slot);
      there = subst (Contains (begun scan)) part found.1;
      told = sym (ap (λ (b : Both). b.told) found.2) ∙ ap (told_part scan.count) part;
    }

pub origin : (first : ℕ) (slots : List Slot) (tapes : List Sections) (scans : AreScans slots tapes) (z : Both) → Contains (all_from first slots tapes scans) z → Origin slots first z
origin first [] [] scans z member = absurd (omega (arith, member.1))
origin first (s ∷ ss) (t ∷ ts) scans z member = elim (Contains-append_cases (map (both_at first scans.0.0.count) (begun scans.0.0)) (all_from (suc first) ss ts scans.1) z member) [
  | inl here ↦ origin_here s ss first scans.0.0 z here
  | inr more ↦
      (let rest = origin (suc first) ss ts scans.1 z more in
      record { index = suc rest.index; here = rest.here; scan = rest.scan; at = rest.at; slot = omega (arith, rest.slot); there = rest.there; told = rest.told })
]
origin first [] (t ∷ ts) scans z member = absurd scans
origin first (s ∷ ss) [] scans z member = absurd scans

-- the scan of a slot, all of whose parts are among them
pub record Source (slots : List Slot) (all : List Both) (slot : ℕ) (here : Slot) : Type 0 where
  pub scan : Scan here.items
  pub each : (p : FoundPart) → Contains (begun scan) p → Contains all (both_at slot scan.count p)

some_here : (s t : Slot) → Some s ≡ Some t → s ≡ t
some_here s t same = cc

pub source : (first : ℕ) (slots : List Slot) (tapes : List Sections) (scans : AreScans slots tapes) (i : ℕ) (here : Slot) → slice_get slots i ≡ Some here → Source slots (all_from first slots tapes scans) (first + i) here
source first [] [] scans i here at = absurd (cc)
source first (s ∷ ss) (t ∷ ts) scans zero here at =
    let place : first ≡ first + 0 = omega arith in
    subst (λ (h : Slot). Source (s ∷ ss) (all_from first (s ∷ ss) (t ∷ ts) scans) (first + 0) h) (some_here s here at)
    (subst (λ (n : ℕ). Source (s ∷ ss) (all_from first (s ∷ ss) (t ∷ ts) scans) n s) place
    (record {
      scan = scans.0.0;
      each = λ p there. Contains-append_left (map (both_at first scans.0.0.count) (begun scans.0.0)) (all_from (suc first) ss ts scans.1) (both_at first scans.0.0.count p) (contains_to (both_at first scans.0.0.count) (begun scans.0.0) p there);
    }))
source first (s ∷ ss) (t ∷ ts) scans (suc i) here at =
    let rest = source (suc first) ss ts scans.1 i here at in
    let place : suc first + i ≡ first + suc i = omega arith in
    subst (λ (n : ℕ). Source (s ∷ ss) (all_from first (s ∷ ss) (t ∷ ts) scans) n here) place
    (record {
      scan = rest.scan;
      each = λ p there. Contains-append_right (map (both_at first scans.0.0.count) (begun scans.0.0)) (all_from (suc first) ss ts scans.1) (both_at (suc first + i) rest.scan.count p) (rest.each p there);
    })
source first [] (t ∷ ts) scans i here at = absurd scans
source first (s ∷ ss) [] scans i here at = absurd scans

all_ordered : (first : ℕ) (slots : List Slot) (tapes : List Sections) (scans : AreScans slots tapes) → AllPairs (λ y z. IsEarlier y.at z.at) (all_from first slots tapes scans)
all_ordered first [] [] scans = λ i j d lt within. absurd (omega (arith, within))
all_ordered first (s ∷ ss) (t ∷ ts) scans =
    pairs_append (λ (y z : Both). IsEarlier y.at z.at) (map (both_at first scans.0.0.count) (begun scans.0.0)) (all_from (suc first) ss ts scans.1)
    (pairs_map (λ (y z : Both). IsEarlier y.at z.at) (both_at first scans.0.0.count) (begun scans.0.0)
    (λ i j d lt within. inr (refl, AllPairs-filter (λ (p q : FoundPart). p.first < q.first) (is_begun scans.0.0.count) (parts_of scans.0.0.front.text.whole) (parts_ascend 2 1 scans.0.0.front.text.whole.parts) i j d lt within)))
    (all_ordered (suc first) ss ts scans.1)
    (λ y z in_y in_z.
    let a = origin_here s ss first scans.0.0 y in_y in
    let b = origin (suc first) ss ts scans.1 z in_z in
    let slot = contains_slot first scans.0.0.count (begun scans.0.0) y in_y in
    inl (omega (arith, slot, b.slot)))
  where
    contains_slot : (slot count : ℕ) (ps : List FoundPart) (y : Both) → Contains (map (both_at slot count) ps) y → y.at.slot ≡ slot
    contains_slot slot count ps y member = let found = contains_map (both_at slot count) ps y member in sym (ap (λ (b : Both). b.at.slot) found.2)
all_ordered first [] (t ∷ ts) scans = absurd scans
all_ordered first (s ∷ ss) [] scans = absurd scans

-- what is told of them is what the scans tell
pub all_told : (first : ℕ) (slots : List Slot) (tapes : List Sections) (scans : AreScans slots tapes) → map (λ (z : Both). z.told) (all_from first slots tapes scans) ≡ flat_map (λ (t : Sections). t.parts) tapes
all_told first [] [] scans = refl
all_told first (s ∷ ss) (t ∷ ts) scans =
    map-append (λ (z : Both). z.told) (map (both_at first scans.0.0.count) (begun scans.0.0)) (all_from (suc first) ss ts scans.1)
    ∙ ap (λ (l : List PartFound). l ++ map (λ (z : Both). z.told) (all_from (suc first) ss ts scans.1)) (tolds first scans.0.0.count (begun scans.0.0) ∙ sym (ap (λ (x : Sections). x.parts) scans.0.1))
    ∙ ap (λ (l : List PartFound). t.parts ++ l) (all_told (suc first) ss ts scans.1)
  where
    tolds : (slot count : ℕ) (ps : List FoundPart) → map (λ (z : Both). z.told) (map (both_at slot count) ps) ≡ map (told_part count) ps
    tolds slot count [] = refl
    tolds slot count (p ∷ ps) = ap (λ (l : List PartFound). told_part count p ∷ l) (tolds slot count ps)
all_told first [] (t ∷ ts) scans = absurd scans
all_told first (s ∷ ss) [] scans = absurd scans

-- ---- what stands begun and closed

open_end : (count : ℕ) (p : FoundPart) → IsSome (told_part count p).end → is_closed count p ≡ true
open_end count p some = elim (leb_tells p.end count) [
  | inl both ↦ both.0
  | inr both ↦ absurd (let off = both.0 in let never = rw off at some in cc never)
]

module _ (slots : List Slot) (z : Both) (o : Origin slots 0 z) where
  at_slot : slice_get slots z.at.slot ≡ Some o.here
  at_slot = ap (λ (n : ℕ). slice_get slots n) (o.slot ∙ zero_less o.index) ∙ o.at
    where
      zero_less : (n : ℕ) → 0 + n ≡ n
      zero_less n = omega arith

  in_whole : Contains (parts_of o.scan.front.text.whole) z.at.found
  in_whole = (of_filter (is_begun o.scan.count) (parts_of o.scan.front.text.whole) z.at.found o.there).0

  pub origin_begun : IsBegunAt slots z.at
  origin_begun = record { here = o.here; at = at_slot; begun = scanned_begun o.here.items o.scan z.at.found o.there }

  origin_told : is_closed o.scan.count z.at.found ≡ true → IsFair z.at.found × (z.told ≡ told_whole z.at.found)
  origin_told closed = (is_fair o.scan.front.text.whole z.at.found o.scan.front.text.is in_whole, o.told ∙ told_closed o.scan.count z.at.found closed (closed_end o.scan.front.text.whole z.at.found in_whole))

  pub origin_closed : IsSome z.told.end → IsClosedAt slots z.at × IsFair z.at.found × (z.told ≡ told_whole z.at.found)
  origin_closed some =
      let closed = open_end o.scan.count z.at.found (subst (λ (p : PartFound). IsSome p.end) o.told some) in
      let rest = origin_told closed in
      (record { here = o.here; at = at_slot; closed = (scanned_closed o.here.items o.scan z.at.found).0 (contains_filter (is_closed o.scan.count) (parts_of o.scan.front.text.whole) z.at.found in_whole closed) }, rest.0, rest.1)

  pub closed_told : IsClosedAt slots z.at → IsFair z.at.found × (z.told ≡ told_whole z.at.found)
  closed_told c =
      let here : c.here ≡ o.here = some_here c.here o.here (sym c.at ∙ at_slot) in
      let member = (scanned_closed o.here.items o.scan z.at.found).1 (subst (λ (h : Slot). IsClosedIn h.items z.at.found) here c.closed) in
      origin_told (of_filter (is_closed o.scan.count) (parts_of o.scan.front.text.whole) z.at.found member).1

module _ (slots : List Slot) (zs : List Both) (sources : (i : ℕ) (here : Slot) → slice_get slots i ≡ Some here → Source slots zs i here) where
  pub begun_source : (l : Located) → IsBegunAt slots l → (z : Both) × Contains zs z × IsSame l z.at
  begun_source l b =
      let s = sources l.slot b.here b.at in
      let q = begun_scanned b.here.items s.scan l.found b.begun in
      (both_at l.slot s.scan.count q.0, s.each q.0 q.1, (refl, sym q.2))

  pub closed_source : (l : Located) → IsClosedAt slots l → (z : Both) × Contains zs z × (z.at ≡ l)
  closed_source l c =
      let s = sources l.slot c.here c.at in
      let member = of_filter (is_closed s.scan.count) (parts_of s.scan.front.text.whole) l.found ((scanned_closed c.here.items s.scan l.found).1 c.closed) in
      let end = closed_end s.scan.front.text.whole l.found member.0 in
      let le : l.found.end ≤ s.scan.count = leb-true l.found.end s.scan.count member.1 in
      let long = part_long l.found.part in
      let begins = contains_filter (is_begun s.scan.count) (parts_of s.scan.front.text.whole) l.found member.0 (lt-ltb l.found.first s.scan.count (omega (arith, end, le, long))) in
      (both_at l.slot s.scan.count l.found, s.each l.found begins, refl)

pub is_all : (slots : List Slot) (tapes : List Sections) (scans : AreScans slots tapes) → IsAll slots (all_from 0 slots tapes scans)
is_all slots tapes scans =
    let zs = all_from 0 slots tapes scans in
    let sources : (i : ℕ) (here : Slot) → slice_get slots i ≡ Some here → Source slots zs i here = λ i here at. subst (λ (n : ℕ). Source slots zs n here) (zero_plus i) (source 0 slots tapes scans i here at) in
    record {
      begun = λ z member. origin_begun slots z (origin 0 slots tapes scans z member);
      heads = λ z member. ap (λ (p : PartFound). p.head) (origin 0 slots tapes scans z member).told;
      closed = λ z member. origin_closed slots z (origin 0 slots tapes scans z member);
      all_begun = begun_source slots zs sources;
      all_closed = closed_source slots zs sources;
      told_closed = λ z member. closed_told slots z (origin 0 slots tapes scans z member);
      in_order = all_ordered 0 slots tapes scans;
    }
  where
    zero_plus : (n : ℕ) → 0 + n ≡ n
    zero_plus n = omega arith
