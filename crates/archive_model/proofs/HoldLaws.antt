-- What lies on a tape stands there for a play, stays under appends and cuts behind it, and goes with its label.
use Rattle.std.proofs.Common.{◌≡◌, ℕ, zero, suc, ◌+◌, ◌≤◌, true, Option, Some, None, List, [], ◌∷◌, ◌++◌, length, map, take, drop, refl, sym, ap, subst, ◌∙◌, arith, inl, inr, length-take}
use Rattle.std.specs.Prelude.{Contains, filter, ◌==◌, not, slice_get}
use Rattle.std.specs.List.{flat_map}
use Rattle.std.proofs.lemmas.Bool.{cases_Bool, and_parts, eqb-true, eq-eqb}
use Rattle.std.proofs.lemmas.List.{take-append-drop}
use Rattle.std.proofs.lemmas.List.Elements.{All-contains, filter_passes}
use Rattle.tape_frames.specs.declared.frame.Frame.TheVariants as frames
use Rattle.budb_changes.specs.declared.records.TapePart.{TapePart}
use Rattle.budb_changes.specs.declared.records.DumpRecordFields.{DumpRecordFields}
use Rattle.budb_fold.specs.Database.{is_initial, without}
use Rattle.tape_text.specs.Items.{Item, Says, Filemark, Nothing, IsFitItem}
use Rattle.tape_text.specs.Texts.{Fragment, Tape, fragment_frames, part_items, tape_items, IsFragment, IsOf, IsPart, IsTape}
use Rattle.tape_text.specs.Parts.{FoundFragment, FoundPart, parts_of, fragments_of}
use Rattle.tape_text.specs.Wholes.{Lying, lying_as}
use Rattle.archive_model.specs.Holding.{place_of, is_label_frame, is_head_frame, is_so, holds_at, holds, called_by, LiesOn, HasInitial, HasNoHead}
use Rattle.archive_model.specs.Plays.{StandsAt}
use Rattle.tape_scan.proofs.ScanLaws.{parts_end}
use Rattle.tape_scan.proofs.ListLaws.{contains_filter, contains_map, take_of_append, take_of_take}
use Rattle.tape_scan.proofs.PlaceLaws.{Amid, amid_more, amid_read, amid_all, stands_amid, found_part_is, found_fragment_is}

-- ---- members

-- ---- what lies stands for a play

pub fragment_is : (t : Tape) (q : FoundPart) (g : FoundFragment) → IsTape t → Contains (parts_of t) q → Contains (fragments_of q) g → IsFragment g.fragment
fragment_is t q g is part fragment =
    let good : IsPart t.label q.part = All-contains (IsPart t.label) t.parts q.part is.each (found_part_is 2 1 t.parts q part) in
    (All-contains (IsOf q.part.head.id q.part.head.volumes) q.part.fragments g.fragment good.each (found_fragment_is (q.first + 1) q.part.fragments g fragment)).2

-- a fragment that a record calls for on a tape is one of the part that lies there
called_found : (d : DumpRecordFields) (p : TapePart) (items : List Item) (c : Lying) (lies : LiesOn d p items) → Contains (called_by d) c → c.tape ≡ p.tape → (g : FoundFragment) × Contains (fragments_of lies.found) g × (lying_as lies.found.part.head.tape g ≡ c)
called_found d p items c lies there tape =
    let named : Contains (filter (λ (b : Lying). b.tape == p.tape) (called_by d)) c = contains_filter (λ (b : Lying). b.tape == p.tape) (called_by d) c there (eq-eqb c.tape p.tape tape) in
    let mapped : Contains (map (lying_as lies.found.part.head.tape) (fragments_of lies.found)) c = subst (λ (l : List Lying). Contains l c) (sym lies.frags) named in
    contains_map (lying_as lies.found.part.head.tape) (fragments_of lies.found) c mapped

found_stands : (d : DumpRecordFields) (p : TapePart) (items : List Item) (c : Lying) (lies : LiesOn d p items) (g : FoundFragment) → Contains (fragments_of lies.found) g → lying_as lies.found.part.head.tape g ≡ c → StandsAt c items g.fragment
found_stands d p items c lies g there same =
    let at : g.at ≡ c.at = ap (λ (b : Lying). b.at) same in
    let amid = stands_amid lies.tape lies.found g lies.there there in
    let longer : Amid items (fragment_frames g.fragment) g.at =
    subst (λ (l : List Item). Amid l (fragment_frames g.fragment) g.at) (ap (λ t. t ++ drop p.end items) (sym lies.front) ∙ take-append-drop p.end items) (amid_more (tape_items lies.tape) (fragment_frames g.fragment) (drop p.end items) g.at amid) in record {
      is = record { head = ap (λ (b : Lying). b.head) same; last = ap (λ (b : Lying). b.last) same; is = fragment_is lies.tape lies.found g lies.is lies.there there; fit = amid_all IsFitItem (tape_items lies.tape) (fragment_frames g.fragment) g.at amid lies.is.fit };
      there = subst (λ (n : ℕ). take (length (fragment_frames g.fragment)) (drop n items) ≡ fragment_frames g.fragment) at (amid_read items (fragment_frames g.fragment) g.at longer);
    }

pub lies_stands : (d : DumpRecordFields) (p : TapePart) (items : List Item) (c : Lying) → LiesOn d p items → Contains (called_by d) c → c.tape ≡ p.tape → (f : Fragment) × StandsAt c items f
lies_stands d p items c lies there tape =
    let g = called_found d p items c lies there tape in
    (g.0.fragment, found_stands d p items c lies g.0 g.1 g.2)

-- and the same fragment stands wherever the tape begins alike up to the record's end
pub lies_stands_too : (d : DumpRecordFields) (p : TapePart) (items others : List Item) (c : Lying) → take p.end others ≡ take p.end items → LiesOn d p items → Contains (called_by d) c → c.tape ≡ p.tape → (f : Fragment) × StandsAt c items f × StandsAt c others f
lies_stands_too d p items others c same lies there tape =
    let g = called_found d p items c lies there tape in
    let too : LiesOn d p others = record { tape = lies.tape; is = lies.is; front = same ∙ lies.front; found = lies.found; there = lies.there; place = lies.place; heads = lies.heads; frags = lies.frags; ends = lies.ends } in
    (g.0.fragment, found_stands d p items c lies g.0 g.1 g.2, found_stands d p others c too g.0 g.1 g.2)

-- ---- a tape that grows, and one that is cut behind what lies on it

-- what lies on a tape ends within it
pub lies_within : (d : DumpRecordFields) (p : TapePart) (items : List Item) → LiesOn d p items → p.end ≤ length items
lies_within d p items lies =
    let ends : lies.found.end ≤ 2 + length (flat_map part_items lies.tape.parts) = All-contains (λ (q : FoundPart). q.end ≤ 2 + length (flat_map part_items lies.tape.parts)) (parts_of lies.tape) lies.found (parts_end 2 1 lies.tape.parts) lies.there in
    let same : lies.found.end ≡ p.end = ap (λ (x : TapePart). x.end) lies.place in
    omega (arith, ends, same, ap length lies.front, length-take p.end items)

-- the same front
pub lies_by_front : (d : DumpRecordFields) (p : TapePart) (items others : List Item) → take p.end others ≡ take p.end items → LiesOn d p items → LiesOn d p others
lies_by_front d p items others same lies = record {
  tape = lies.tape;
  is = lies.is;
  front = same ∙ lies.front;
  found = lies.found;
  there = lies.there;
  place = lies.place;
  heads = lies.heads;
  frags = lies.frags;
  ends = lies.ends;
}

pub append_keeps : (d : DumpRecordFields) (p : TapePart) (items more : List Item) → LiesOn d p items → LiesOn d p (items ++ more)
append_keeps d p items more lies = lies_by_front d p items (items ++ more) (take_of_append p.end items more (lies_within d p items lies)) lies

pub cut_keeps : (d : DumpRecordFields) (p : TapePart) (items : List Item) (n : ℕ) → p.end ≤ n → LiesOn d p items → LiesOn d p (take n items)
cut_keeps d p items n le lies = lies_by_front d p items (take n items) (take_of_take p.end n items le) lies

-- ---- labels

label_of : (initial other tape : ℕ) (items : List Item) → HasInitial initial items → is_so (is_label_frame other tape) (slice_get items 0) ≡ true → other ≡ initial
label_of initial other tape [] has so = absurd has
label_of initial other tape (Says (frames.Label a) ∷ items) has so = sym (eqb-true a.initial other (and_parts (a.initial == other) (a.tape == tape) so).0) ∙ has
label_of initial other tape (Says (frames.DumpHead a) ∷ items) has so = absurd has
label_of initial other tape (Says (frames.VolHead a) ∷ items) has so = absurd has
label_of initial other tape (Says (frames.Data a) ∷ items) has so = absurd has
label_of initial other tape (Says (frames.VolEnd a) ∷ items) has so = absurd has
label_of initial other tape (Says (frames.DumpEnd a) ∷ items) has so = absurd has
label_of initial other tape (Filemark ∷ items) has so = absurd has
label_of initial other tape (Nothing ∷ items) has so = absurd has

held_initial_at : (o : Option TapePart) (initial tape : ℕ) (d : DumpRecordFields) (items : List Item) → HasInitial initial items → holds_at o d tape items ≡ true → d.initial ≡ initial
held_initial_at None initial tape d items has held = absurd (cc)
held_initial_at (Some p) initial tape d items has held =
    label_of initial d.initial tape items has (and_parts (is_so (is_label_frame d.initial tape) (slice_get items 0)) (is_so (is_head_frame d.id tape) (slice_get items p.first)) held).0

-- a slot holds tapes of its label's dump set alone
pub held_initial : (initial tape : ℕ) (d : DumpRecordFields) (items : List Item) → HasInitial initial items → holds d tape items ≡ true → d.initial ≡ initial
held_initial initial tape d items has held = held_initial_at (place_of d tape) initial tape d items has held

-- Taking a tape forgets its dump set: no dump that is listed then is held there. Every other dump stays listed.
pub taken_holds_none : (initial tape : ℕ) (listed : List DumpRecordFields) (d : DumpRecordFields) (items : List Item) → HasInitial initial items → Contains (without (is_initial initial) listed) d → holds d tape items ≡ true → ⊥
taken_holds_none initial tape listed d items has there held =
    let other : not (d.initial == initial) ≡ true = All-contains (λ (e : DumpRecordFields). not (e.initial == initial) ≡ true) (without (is_initial initial) listed) d (filter_passes (λ (e : DumpRecordFields). not (e.initial == initial)) listed) there in
    let same : (d.initial == initial) ≡ true = eq-eqb d.initial initial (held_initial initial tape d items has held) in
    absurd (cc)

pub others_stay : (initial : ℕ) (listed : List DumpRecordFields) (d : DumpRecordFields) → Contains listed d → (d.initial ≡ initial → ⊥) → Contains (without (is_initial initial) listed) d
others_stay initial listed d there other =
    contains_filter (λ (e : DumpRecordFields). not (e.initial == initial)) listed d there
    (elim (cases_Bool (d.initial == initial)) [
      | inl same ↦ absurd (other (eqb-true d.initial initial same))
      | inr differs ↦ rw differs refl
    ])

-- ---- tapes without a head

pub head_none : (id tape n : ℕ) (items : List Item) → HasNoHead id items → is_so (is_head_frame id tape) (slice_get items n) ≡ true → ⊥
head_none id tape n [] none so = absurd (cc)
head_none id tape zero (Says (frames.DumpHead a) ∷ items) none so = none.0 (eqb-true a.id id (and_parts (a.id == id) (a.tape == tape) so).0)
head_none id tape zero (Says (frames.Label a) ∷ items) none so = absurd (cc)
head_none id tape zero (Says (frames.VolHead a) ∷ items) none so = absurd (cc)
head_none id tape zero (Says (frames.Data a) ∷ items) none so = absurd (cc)
head_none id tape zero (Says (frames.VolEnd a) ∷ items) none so = absurd (cc)
head_none id tape zero (Says (frames.DumpEnd a) ∷ items) none so = absurd (cc)
head_none id tape zero (Filemark ∷ items) none so = absurd (cc)
head_none id tape zero (Nothing ∷ items) none so = absurd (cc)
head_none id tape (suc n) (Says (frames.DumpHead a) ∷ items) none so = head_none id tape n items none.1 so
head_none id tape (suc n) (Says (frames.Label a) ∷ items) none so = head_none id tape n items none so
head_none id tape (suc n) (Says (frames.VolHead a) ∷ items) none so = head_none id tape n items none so
head_none id tape (suc n) (Says (frames.Data a) ∷ items) none so = head_none id tape n items none so
head_none id tape (suc n) (Says (frames.VolEnd a) ∷ items) none so = head_none id tape n items none so
head_none id tape (suc n) (Says (frames.DumpEnd a) ∷ items) none so = head_none id tape n items none so
head_none id tape (suc n) (Filemark ∷ items) none so = head_none id tape n items none so
head_none id tape (suc n) (Nothing ∷ items) none so = head_none id tape n items none so

unheaded_at : (o : Option TapePart) (d : DumpRecordFields) (tape : ℕ) (items : List Item) → HasNoHead d.id items → holds_at o d tape items ≡ true → ⊥
unheaded_at None d tape items none held = absurd (cc)
unheaded_at (Some p) d tape items none held = head_none d.id tape p.first items none (and_parts (is_so (is_label_frame d.initial tape) (slice_get items 0)) (is_so (is_head_frame d.id tape) (slice_get items p.first)) held).1

-- a tape without a head of a dump isn't held for it
pub unheaded : (d : DumpRecordFields) (tape : ℕ) (items : List Item) → HasNoHead d.id items → holds d tape items ≡ true → ⊥
unheaded d tape items none held = unheaded_at (place_of d tape) d tape items none held
