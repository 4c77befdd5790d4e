-- What scans tell of closed parts is all that whole dumps and their records need.
use Rattle.std.proofs.Common.{◌≡◌, ◌↔◌, ℕ, zero, suc, ◌+◌, ◌≤◌, Bool, true, false, Some, List, [], ◌∷◌, ◌++◌, map, length, refl, ap, ◌∙◌, arith, inl, inr}
use Rattle.std.specs.Prelude.{All, Contains, ◌==◌, nat_lt, filter, if◌then◌else◌}
use Rattle.std.specs.List.{flat_map}
use Rattle.std.proofs.lemmas.Bool.{leb-true, lt-ltb, eqb-true}
use Rattle.std.proofs.lemmas.Bool.Decides.{eqb_tells}
use Rattle.std.proofs.lemmas.List.Elements.{All-head, All-tail, All-contains, Contains-get_or, Contains-push}
use Rattle.std.proofs.lemmas.List.Sums.{sum_by-cons}
use Rattle.tape_frames.specs.declared.frame.Frame.TheVariants as frames
use Rattle.budb_changes.specs.declared.records.TapePart.{TapePart}
use Rattle.tape_text.specs.Items.{Says, IsFitItem}
use Rattle.tape_text.specs.Texts.{Fragment, Tape, Begins, data_item, fragment_frames, tape_items, ends_dump, IsPart, IsTape}
use Rattle.tape_text.specs.Parts.{FoundFragment, FoundPart, fragment_len, fragments_len, part_len, fragments_at, fragments_of, parts_of}
use Rattle.tape_text.specs.Wholes.{Lying, GoesOn, Ends, NextTape, lying_as, lying_in, tape_part, volume_records, record_by}
use Rattle.tape_scan.specs.declared.sections.FragFound.{FragFound}
use Rattle.tape_scan.specs.declared.sections.PartFound.{PartFound}
use Rattle.tape_scan.specs.Scans.{is_closed}
use Rattle.tape_scan.specs.Sections.{told_fragment, is_headed, told_part}
use Rattle.tape_scan.specs.AssembledSteps.{ToldGoesOn, AreGoneOn, BeginsSo, ToldNext, IsEnding}
use Rattle.tape_scan.specs.AssembledRecords.{told_tape, told_last, told_lying, all_lying, told_record}
use Rattle.tape_scan.proofs.PlaceLaws.{amid_all, parts_amid, stands_amid, found_part_is}

-- ---- what is told of a closed part

abbrev pub whole_fragment : FoundFragment → FragFound
whole_fragment f = record { head = f.fragment.head; at = f.at; last = Some (f.fragment.end.last == 1) }

abbrev pub told_whole : FoundPart → PartFound
told_whole p = record { head = p.part.head; first = p.first; end = Some p.end; marks = p.marks; more = p.part.end.more == 1; frags = map whole_fragment (fragments_of p) }

told_all : (count at : ℕ) (fs : List Fragment) → at + fragments_len fs ≤ count → map (told_fragment count) (filter (is_headed count) (fragments_at at fs)) ≡ map whole_fragment (fragments_at at fs)
told_all count at [] le = refl
told_all count at (f ∷ fs) le =
    let long = sum_by-cons fragment_len f fs in
    let headed : nat_lt at count ≡ true = lt-ltb at count (omega (arith, long, le)) in
    let ended : nat_lt (at + length f.pieces + 1) count ≡ true = lt-ltb (at + length f.pieces + 1) count (omega (arith, long, le)) in
    let rest = told_all count (at + fragment_len f) fs (omega (arith, long, le)) in
    rw (headed, ended) (ap (λ (t : List FragFound). whole_fragment (record { fragment = f; at = at }) ∷ t) rest)

pub closed_end : (t : Tape) (p : FoundPart) → Contains (parts_of t) p → p.end ≡ p.first + part_len p.part
closed_end t p there = (parts_amid 2 1 t.parts p there).3

pub told_closed : (count : ℕ) (p : FoundPart) → is_closed count p ≡ true → p.end ≡ p.first + part_len p.part → told_part count p ≡ told_whole p
told_closed count p closed end =
    let le : p.end ≤ count = leb-true p.end count closed in
    let frags = told_all count (p.first + 1) p.part.fragments (omega (arith, le, end)) in
    rw closed (ap (λ (fs : List FragFound). record { head = p.part.head; first = p.first; end = Some p.end; marks = p.marks; more = p.part.end.more == 1; frags = fs }) frags)

-- ---- numbers that are 0 or 1

-- the numbers of a part's ends are 0 or 1
pub record IsFair (p : FoundPart) : Type 0 where
  pub more : p.part.end.more ≤ 1
  pub lasts : All (λ g. g.fragment.end.last ≤ 1) (fragments_of p)

one_or_none : (b : Bool) (n : ℕ) → n ≡ (if b then 0 else 1) → n ≤ 1
one_or_none true n is = omega (arith, is)
one_or_none false n is = omega (arith, is)

last_fits : (t : Tape) (p : FoundPart) (g : FoundFragment) → IsTape t → Contains (parts_of t) p → Contains (fragments_of p) g → g.fragment.end.last ≤ 1
last_fits t p g is there fragment =
    let frames_fit = amid_all IsFitItem (tape_items t) (fragment_frames g.fragment) g.at (stands_amid t p g there fragment) is.fit in
    (All-contains IsFitItem (fragment_frames g.fragment) (Says (frames.VolEnd g.fragment.end)) frames_fit (Contains-push (Says (frames.VolHead g.fragment.head) ∷ map data_item g.fragment.pieces) (Says (frames.VolEnd g.fragment.end)))).last

pub is_fair : (t : Tape) (p : FoundPart) → IsTape t → Contains (parts_of t) p → IsFair p
is_fair t p is there = record {
  more = let part = All-contains (IsPart t.label) t.parts p.part is.each (found_part_is 2 1 t.parts p there) in one_or_none (ends_dump p.part.head.volumes p.part.fragments) p.part.end.more part.more;
  lasts = λ k d lt. last_fits t p _ is there (Contains-get_or (fragments_of p) k d lt);
}

none_told : (n : ℕ) → n ≤ 1 → (n == 1) ≡ false → n ≡ 0
none_told n le off = elim (eqb_tells n 1) [
  | inl both ↦ absurd (let on = both.0 in cc (on, off))
  | inr other ↦ (let not = other.1 in omega (arith, le, not))
]

-- ---- the next part

goes_told : (f g : FoundFragment) → f.fragment.end.last ≤ 1 → ToldGoesOn (whole_fragment f) (whole_fragment g) ↔ GoesOn f.fragment g.fragment
goes_told f g le = (
  (λ told. elim told [
    | inl goes ↦ inl (none_told f.fragment.end.last le (some_bool (f.fragment.end.last == 1) false goes.0), goes.1)
    | inr goes ↦ inr (eqb-true f.fragment.end.last 1 (some_bool (f.fragment.end.last == 1) true goes.0), goes.1)
  ]),
  (λ is. elim is [
    | inl goes ↦ inl (ap (λ (n : ℕ). Some (n == 1)) goes.0, goes.1)
    | inr goes ↦ inr (ap (λ (n : ℕ). Some (n == 1)) goes.0, goes.1)
  ]),
)
  where
    some_bool : (a b : Bool) → Some a ≡ Some b → a ≡ b
    some_bool a b same = cc

begins_told : (f : FoundFragment) (at : ℕ) (gs : List Fragment) → f.fragment.end.last ≤ 1 → BeginsSo (λ g. ToldGoesOn (whole_fragment f) g) (map whole_fragment (fragments_at at gs)) ↔ Begins (λ g. GoesOn f.fragment g) gs
begins_told f at [] le = ((λ h. h), (λ h. h))
begins_told f at (g ∷ gs) le = goes_told f (record { fragment = g; at = at }) le

ends_told : (at to : ℕ) (fs gs : List Fragment) → All (λ g. g.fragment.end.last ≤ 1) (fragments_at at fs) → AreGoneOn (map whole_fragment (fragments_at at fs)) (map whole_fragment (fragments_at to gs)) ↔ Ends (λ f. Begins (λ g. GoesOn f g) gs) fs
ends_told at to [] gs lasts = ((λ h. h), (λ h. h))
ends_told at to (f ∷ []) gs lasts = begins_told (record { fragment = f; at = at }) to gs (All-head (λ (g : FoundFragment). g.fragment.end.last ≤ 1) (record { fragment = f; at = at }) [] lasts)
ends_told at to (f ∷ g ∷ fs) gs lasts =
    ends_told (at + fragment_len f) to (g ∷ fs) gs (All-tail (λ (x : FoundFragment). x.fragment.end.last ≤ 1) (record { fragment = f; at = at }) (fragments_at (at + fragment_len f) (g ∷ fs)) lasts)

pub next_told : (p q : FoundPart) → IsFair p → ToldNext (told_whole p) (told_whole q) ↔ NextTape p.part q.part
next_told p q fair =
    let goes = ends_told (p.first + 1) (q.first + 1) p.part.fragments q.part.fragments fair.lasts in (
      (λ told. record { more = eqb-true p.part.end.more 1 told.more; agree = told.agree; part = told.part; tape = told.tape; goes_on = goes.0 told.goes_on }),
      (λ next. record { closed = refl; next_closed = refl; more = ap (λ (n : ℕ). n == 1) next.more; agree = next.agree; part = next.part; tape = next.tape; goes_on = goes.1 next.goes_on }),
    )

pub ending_told : (p : FoundPart) → IsFair p → IsEnding (told_whole p) ↔ (p.part.end.more ≡ 0)
ending_told p fair = ((λ told. none_told p.part.end.more fair.more told.1), (λ none. (refl, ap (λ (n : ℕ). n == 1) none)))

-- ---- the record

told_bit : (n : ℕ) → n ≤ 1 → told_last (Some (n == 1)) ≡ n
told_bit zero le = refl
told_bit (suc zero) le = refl
told_bit (suc (suc n)) le = absurd (omega (arith, le))

lying_told : (tape at : ℕ) (fs : List Fragment) → All (λ g. g.fragment.end.last ≤ 1) (fragments_at at fs) → map (told_lying tape) (map whole_fragment (fragments_at at fs)) ≡ map (lying_as tape) (fragments_at at fs)
lying_told tape at [] lasts = refl
lying_told tape at (f ∷ fs) lasts =
    let last = told_bit f.end.last (All-head (λ (g : FoundFragment). g.fragment.end.last ≤ 1) (record { fragment = f; at = at }) (fragments_at (at + fragment_len f) fs) lasts) in
    let rest = lying_told tape (at + fragment_len f) fs (All-tail (λ (g : FoundFragment). g.fragment.end.last ≤ 1) (record { fragment = f; at = at }) (fragments_at (at + fragment_len f) fs) lasts) in
    ap (λ (n : ℕ). record { tape = tape; at = at; head = f.head; last = n } ∷ map (told_lying tape) (map whole_fragment (fragments_at (at + fragment_len f) fs))) last
    ∙ ap (λ (t : List Lying). lying_as tape (record { fragment = f; at = at }) ∷ t) rest

all_lying_told : (ps : List FoundPart) → All IsFair ps → all_lying (map told_whole ps) ≡ flat_map lying_in ps
all_lying_told [] fair = refl
all_lying_told (p ∷ ps) fair =
    ap (λ (t : List Lying). t ++ all_lying (map told_whole ps)) (lying_told p.part.head.tape (p.first + 1) p.part.fragments (All-head IsFair p ps fair).lasts)
    ∙ ap (λ (t : List Lying). lying_in p ++ t) (all_lying_told ps (All-tail IsFair p ps fair))

tapes_told : (ps : List FoundPart) → map told_tape (map told_whole ps) ≡ map tape_part ps
tapes_told [] = refl
tapes_told (p ∷ ps) = ap (λ (t : List TapePart). tape_part p ∷ t) (tapes_told ps)

pub record_told : (ps : List FoundPart) → All IsFair ps → told_record (map told_whole ps) ≡ record_by ps
record_told [] fair = refl
record_told (p ∷ ps) fair =
    ap (λ (ts : List TapePart). Some (record {
      id = p.part.head.id;
      initial = p.part.head.initial;
      parent = p.part.head.parent;
      expires = p.part.head.expires;
      set = p.part.head.set;
      level = p.part.head.level;
      base = p.part.head.base;
      tapes = ts;
      volumes = volume_records (all_lying (map told_whole (p ∷ ps)));
      cell = p.part.head.cell;
    })) (tapes_told (p ∷ ps))
    ∙ ap (λ (ls : List Lying). Some (record {
      id = p.part.head.id;
      initial = p.part.head.initial;
      parent = p.part.head.parent;
      expires = p.part.head.expires;
      set = p.part.head.set;
      level = p.part.head.level;
      base = p.part.head.base;
      tapes = map tape_part (p ∷ ps);
      volumes = volume_records ls;
      cell = p.part.head.cell;
    })) (all_lying_told (p ∷ ps) fair)
