-- ARCHIVES THAT BRING NO DUMP: what stands behind an effect has no dump and no dump's head that wasn't there in front of it.
use Rattle.std.proofs.Common.{◌≡◌, ◌⊎◌, ℕ, zero, suc, ◌≤◌, true, false, Some, List, [], ◌∷◌, ◌++◌, take, refl, sym, ap, subst, ◌∙◌, arith, inl, inr}
use Rattle.std.specs.Prelude.{Contains, slice_get}
use Rattle.std.specs.List.{flat_map}
use Rattle.std.proofs.lemmas.Bool.{cases_Bool, eqb-true, eq-eqb}
use Rattle.std.proofs.lemmas.List.Elements.{All-weaker, Contains-push_cases, Contains-append_left}
use Rattle.tape_frames.specs.declared.frame.Frame.TheVariants as frames
use Rattle.tape_frames.specs.declared.dump_head.DumpHeadFields.{DumpHeadFields}
use Rattle.budb_changes.specs.declared.records.DumpRecordFields.{DumpRecordFields}
use Rattle.budb_changes.specs.declared.change.Change.{Change}
use Rattle.budb_fold.specs.Database.{is_dump, has_dump, after}
use Rattle.tape_text.specs.Items.{Item, Says}
use Rattle.tape_text.specs.Texts.{Part, Tape, part_items, tape_items}
use Rattle.tape_text.specs.Parts.{FoundPart, parts_at, parts_of}
use Rattle.tape_scan.specs.Slots.{Slot, Located, IsClosedAt, IsFound}
use Rattle.archive_model.specs.Archives.{Archive, listed_of, IsDump, IsUnlisted, IsKept}
use Rattle.archive_model.specs.Turns.{with_log}
use Rattle.archive_model.proofs.CutLaws.{any_is, any_from}

-- A dump's head stands on some tape of these slots.
abbrev pub StandsSomewhere : List Slot → DumpHeadFields → Type 0
StandsSomewhere slots h = (k : ℕ) × (s : Slot) × (n : ℕ) × (slice_get slots k ≡ Some s) × (slice_get s.items n ≡ Some (Says (frames.DumpHead h)))

-- ---- a tape without a dump's head

-- no dump's head stands there
pub record IsBare (items : List Item) : Type 0 where
  pub no_head : (n : ℕ) (h : DumpHeadFields) → slice_get items n ≡ Some (Says (frames.DumpHead h)) → ⊥

-- each slot says what it said, or it is bare
abbrev pub SaysOrIsBare : List Slot → List Slot → Type 0
SaysOrIsBare slots slots2 = (k : ℕ) (s : Slot) → slice_get slots2 k ≡ Some s → ((t : Slot) × (slice_get slots k ≡ Some t) × (t.items ≡ s.items)) ⊎ IsBare s.items

says_itself : (slots : List Slot) → SaysOrIsBare slots slots
says_itself slots k s at = inl (s, at, refl)

says_then : (slots between behind : List Slot) → SaysOrIsBare slots between → SaysOrIsBare between behind → SaysOrIsBare slots behind
says_then slots between behind first second k s at = elim (second k s at) [
  | inl same ↦ elim (first k same.0 same.1) [
    | inl old ↦ inl (old.0, old.1, old.2 ∙ same.2)
    | inr bare ↦ inr (subst IsBare same.2 bare)
  ]
  | inr bare ↦ inr bare
]

-- ---- an archive and one behind it

-- Each dump of the second is one of the first, and so is each head; and the greatest id that was begun or recorded is
-- no less. Each slot says what it said, or is bare.
pub record BringsNone (a b : Archive) : Type 0 where
  pub dumps : (d : DumpRecordFields) → IsDump (listed_of b) b.slots d → IsDump (listed_of a) a.slots d
  pub heads : (h : DumpHeadFields) → StandsSomewhere b.slots h → StandsSomewhere a.slots h
  pub greatest : (after a.log).greatest ≤ (after b.log).greatest
  pub says : SaysOrIsBare a.slots b.slots

pub brings_itself : (a : Archive) → BringsNone a a
brings_itself a = record { dumps = λ d is. is; heads = λ h is. is; greatest = omega arith; says = says_itself a.slots }

pub brings_then : (a b c : Archive) → BringsNone a b → BringsNone b c → BringsNone a c
brings_then a b c first second = record {
  dumps = λ d is. first.dumps d (second.dumps d is);
  heads = λ h is. first.heads h (second.heads h is);
  greatest = omega (arith, first.greatest, second.greatest);
  says = says_then a.slots b.slots c.slots first.says second.says;
}

-- ---- a log that lists no more dumps

has_it : (listed : List DumpRecordFields) (id : ℕ) (d : DumpRecordFields) → Contains listed d → d.id ≡ id → has_dump listed id ≡ true
has_it listed id d there same = any_from (is_dump id) listed d there (eq-eqb d.id id same)

of_id : (listed : List DumpRecordFields) (id : ℕ) → has_dump listed id ≡ true → (d : DumpRecordFields) × Contains listed d × (d.id ≡ id)
of_id listed id has = (let d = any_is (is_dump id) listed has in (d.0, d.1, eqb-true d.0.id id d.2))

-- one that is found whole and isn't listed was listed, or it was the same then
found_before : (listed more : List DumpRecordFields) (slots : List Slot) (agree : (d e : DumpRecordFields) (parts : List Located) → Contains more d → IsFound slots parts e → e.id ≡ d.id → e ≡ d) (d : DumpRecordFields) → IsUnlisted listed slots d → IsDump more slots d
found_before listed more slots agree d un = elim (cases_Bool (has_dump more d.id)) [
  | inl has ↦ (let e = of_id more d.id has in inl (subst (Contains more) (sym (agree e.0 d un.parts e.1 un.found (sym e.2))) e.1))
  | inr none ↦ inr (record { parts = un.parts; found = un.found; unlisted = none; above = un.above })
]

pub fewer_bring : (a : Archive) (records : List DumpRecordFields) (log : List Change) → IsKept (listed_of a) a.slots a.contents records → ((d : DumpRecordFields) → Contains (after log).listed d → Contains (listed_of a) d) → (after a.log).greatest ≤ (after log).greatest → BringsNone a (with_log a log)
fewer_bring a records log kept fewer grown = record {
  dumps = λ d is. elim is [
    | inl listed ↦ inl (fewer d listed)
    | inr un ↦ found_before (after log).listed (listed_of a) a.slots kept.agree d un
  ];
  heads = λ h is. is;
  greatest = grown;
  says = says_itself a.slots;
}

-- ---- a dump that lay there, and is listed now

pub listing_brings : (a : Archive) (log : List Change) (d : DumpRecordFields) → (after log).listed ≡ listed_of a ++ d ∷ [] → IsUnlisted (listed_of a) a.slots d → (after a.log).greatest ≤ (after log).greatest → BringsNone a (with_log a log)
listing_brings a log d more un grown = record {
  dumps = λ e is. elim is [
    | inl listed ↦ elim (Contains-push_cases (listed_of a) d e (subst (λ (l : List DumpRecordFields). Contains l e) more listed)) [
      | inl old ↦ inl old
      | inr same ↦ inr (subst (IsUnlisted (listed_of a) a.slots) same un)
    ]
    | inr lies ↦ inr (record { parts = lies.parts; found = lies.found; unlisted = still_unlisted e lies.unlisted; above = lies.above })
  ];
  heads = λ h is. is;
  greatest = grown;
  says = says_itself a.slots;
}
  where
    still_unlisted : (e : DumpRecordFields) → has_dump (after log).listed e.id ≡ false → has_dump (listed_of a) e.id ≡ false
    still_unlisted e none = elim (cases_Bool (has_dump (listed_of a) e.id)) [
      | inl has ↦
          (let f = of_id (listed_of a) e.id has in
          let there : Contains (after log).listed f.0 = subst (λ (l : List DumpRecordFields). Contains l f.0) (sym more) (Contains-append_left (listed_of a) (d ∷ []) f.0 f.1) in
          let both : false ≡ true = sym none ∙ has_it (after log).listed e.id f.0 there f.2 in
          absurd (cc))
      | inr out ↦ out
    ]

-- ---- where each slot says what it said, or is bare

no_part : (first marks : ℕ) (q : FoundPart) → Contains (parts_at first marks []) q → ⊥
no_part first marks q there = absurd (omega (arith, there.1))

-- where a tape has a part its third item is a head
third_is_head : (t : Tape) (ps : List Part) → t.parts ≡ ps → (q : FoundPart) → Contains (parts_at 2 1 ps) q → (h : DumpHeadFields) × (slice_get (tape_items t) 2 ≡ Some (Says (frames.DumpHead h)))
third_is_head t [] is q there = absurd (no_part 2 1 q there)
third_is_head t (p ∷ ps) is q there = (p.head, ap (λ (l : List Part). slice_get (flat_map part_items l) 0) is)

-- what stands in a front stands in the whole
in_front : (count : ℕ) (xs : List Item) (n : ℕ) (i : Item) → slice_get (take count xs) n ≡ Some i → slice_get xs n ≡ Some i
in_front zero xs n i at = absurd (cc)
in_front (suc count) [] n i at = absurd (cc)
in_front (suc count) (x ∷ xs) zero i at = at
in_front (suc count) (x ∷ xs) (suc n) i at = in_front count xs n i at

bare_without : (items : List Item) (count : ℕ) (t : Tape) (q : FoundPart) → IsBare items → take count items ≡ tape_items t → Contains (parts_of t) q → ⊥
bare_without items count t q bare front there =
    let third = third_is_head t t.parts refl q there in
    bare.no_head 2 third.0 (in_front count items 2 (Says (frames.DumpHead third.0)) (ap (λ (l : List Item). slice_get l 2) front ∙ third.1))

pub bare_brings : (a : Archive) (slots : List Slot) → SaysOrIsBare a.slots slots → BringsNone a (record { log = a.log; slots = slots; contents = a.contents })
bare_brings a slots says = record {
  dumps = λ d is. elim is [
    | inl listed ↦ inl listed
    | inr un ↦ inr (record {
      parts = un.parts;
      found = record { closed = All-weaker (IsClosedAt slots) (IsClosedAt a.slots) closed un.parts un.found.closed; whole = un.found.whole; record_is = un.found.record_is };
      unlisted = un.unlisted;
      above = un.above;
    })
  ];
  heads = λ h (k, s, n, at, is). elim (says k s at) [
    | inl same ↦ (k, same.0, n, same.1, ap (λ (l : List Item). slice_get l n) same.2 ∙ is)
    | inr bare ↦ absurd (bare.no_head n h is)
  ];
  greatest = omega arith;
  says = says;
}
  where
    closed : (l : Located) → IsClosedAt slots l → IsClosedAt a.slots l
    closed l c = elim (says l.slot c.here c.at) [
      | inl same ↦ record { here = same.0; at = same.1; closed = record { tape = c.closed.tape; is = c.closed.is; there = c.closed.there; front = ap (λ (i : List Item). take l.found.end i) same.2 ∙ c.closed.front } }
      | inr bare ↦ absurd (bare_without c.here.items l.found.end c.closed.tape l.found bare c.closed.front c.closed.there)
    ]
