-- What a scan has read begins a tape text, where each item continued the text before it.
use Rattle.std.proofs.Common.{◌≡◌, ◌≢◌, ◌⊎◌, ℕ, zero, suc, ◌+◌, ◌≤◌, Bool, true, false, Option, Some, List, [], ◌∷◌, ◌++◌, map, refl, sym, ap, subst, ◌∙◌, arith, inl, inr, append-nil}
use Rattle.std.specs.Prelude.{All, Contains, sum_by, ◌==◌, if◌then◌else◌}
use Rattle.std.specs.List.{flat_map}
use Rattle.std.proofs.lemmas.Bool.{eqb-true, eqb-false}
use Rattle.std.proofs.lemmas.List.{map-append}
use Rattle.std.proofs.lemmas.List.Concat.{flat_map-append}
use Rattle.std.proofs.lemmas.List.Sums.{sum_by-cons, sum_by-append}
use Rattle.std.proofs.lemmas.List.Elements.{All-nil, All-cons, All-head, All-tail, All-push}
use Rattle.tape_frames.specs.declared.frame.Frame.TheVariants as frames
use Rattle.tape_frames.specs.declared.dump_head.DumpHeadFields.{DumpHeadFields}
use Rattle.tape_frames.specs.declared.vol_head.VolHeadFields.{VolHeadFields}
use Rattle.tape_frames.specs.declared.data.DataFields.{DataFields}
use Rattle.tape_frames.specs.declared.vol_end.VolEndFields.{VolEndFields}
use Rattle.tape_frames.specs.declared.dump_end.DumpEndFields.{DumpEndFields}
use Rattle.tape_frames.specs.Layouts.{FitsDumpHead, FitsVolHead}
use Rattle.tape_text.specs.Items.{Item, Says, Filemark, IsFitItem}
use Rattle.tape_text.specs.Texts.{Fragment, Part, Tape, data_item, fragment_items, part_items, used_of, AreFilled, IsPiece, IsFragment, IsOf, NextFragment, Linked, Begins, ends_dump, IsPart, NextPart, AgreeInUses, IsTape}
use Rattle.tape_text.specs.Parts.{fragments_len, part_len, part_marks, fragments_at, parts_at, parts_of, uses_told}
use Rattle.tape_scan.specs.Scans.{with_part}
use Rattle.tape_scan.specs.declared.sections.FragFound.{FragFound}
use Rattle.tape_scan.specs.declared.sections.PartFound.{PartFound}
use Rattle.tape_scan.specs.Steps.{last_of, HeadBehind, OpensPart, FragmentBehind, OpensFragment, AddsPiece, EndsFragment, EndBehind, EndsPart}
use Rattle.tape_scan.proofs.ListLaws.{All_join}
use Rattle.tape_scan.proofs.FrontLaws.{one_part_more, Linked_push}
use Rattle.tape_scan.proofs.ReachedTold.{parts_at_append}
use Rattle.tape_scan.proofs.ReachedLists.{by_last, last_frag, found_behind, last_part, ends_dump_at, push_filled, full_filled, told_by_one, one_tells}
use Rattle.tape_scan.proofs.Reached.{tape_len, closed_frag, closed_part, tape_at, part_at, frag_at, is_some, are_full, whole_part, whole_fragment}

-- the first fragment of a dump's first part is the first of all
abbrev pub FirstOf : ℕ → Fragment → Type 0
FirstOf part f = part ≡ 1 → (f.head.index ≡ 0) × (f.head.fragment ≡ 1)

-- a part that was opened, and its fragments so far
pub record GoodPart (t : Tape) (h : DumpHeadFields) (fs : List Fragment) : Type 0 where
  pub tape : IsTape t
  pub fit : FitsDumpHead h
  pub opens : OpensPart (tape_at t 0) h
  pub fits : All IsFitItem (flat_map fragment_items fs)
  pub begins : (fs ≡ []) ⊎ Begins (FirstOf h.part) fs
  pub each : All (IsOf h.id h.volumes) fs
  pub linked : Linked NextFragment fs

-- a fragment that was opened, and its pieces so far
pub record GoodFragment (t : Tape) (h : DumpHeadFields) (fs : List Fragment) (v : VolHeadFields) (ds : List DataFields) : Type 0 where
  pub part : GoodPart t h fs
  pub fit : FitsVolHead v
  pub opens : OpensFragment (part_at t h fs) v
  pub fits : All IsFitItem (map data_item ds)
  pub pieces : All (IsPiece v.dump v.index) ds
  pub filled : (ds ≡ []) ⊎ AreFilled 1 ds
  pub sum : used_of ds ≤ 4294967295

-- ---- a part is opened

pub good_part : (t : Tape) (h : DumpHeadFields) → IsTape t → FitsDumpHead h → OpensPart (tape_at t 0) h → GoodPart t h []
good_part t h is fit opens = record { tape = is; fit = fit; opens = opens; fits = All-nil IsFitItem; begins = inl refl; each = All-nil (IsOf h.id h.volumes); linked = tt }

-- ---- a fragment is opened, gets pieces and its end

pub good_fragment : (t : Tape) (h : DumpHeadFields) (fs : List Fragment) (v : VolHeadFields) → GoodPart t h fs → FitsVolHead v → OpensFragment (part_at t h fs) v → GoodFragment t h fs v []
good_fragment t h fs v part fit opens = record { part = part; fit = fit; opens = opens; fits = All-nil IsFitItem; pieces = All-nil (IsPiece v.dump v.index); filled = inl refl; sum = omega arith }

pub good_piece : (t : Tape) (h : DumpHeadFields) (fs : List Fragment) (v : VolHeadFields) (ds : List DataFields) (d : DataFields) → GoodFragment t h fs v ds → IsFitItem (data_item d) → AddsPiece (frag_at t fs v ds) d → GoodFragment t h fs v (ds ++ d ∷ [])
good_piece t h fs v ds d good fit adds = record {
  part = good.part;
  fit = good.fit;
  opens = good.opens;
  fits = subst (All IsFitItem) (sym (map-append data_item ds (d ∷ []))) (All-push IsFitItem (map data_item ds) (data_item d) good.fits fit);
  pieces = All-push (IsPiece v.dump v.index) ds d good.pieces (adds.dump, adds.index);
  filled = inr (push_filled ds d adds.full);
  sum = omega (arith, adds.bytes, sum_by-append (λ (x : DataFields). x.used) ds (d ∷ []), sum_by-cons (λ (x : DataFields). x.used) d []);
}

filled_some : (last : ℕ) (ds : List DataFields) → (ds ≡ []) ⊎ AreFilled 1 ds → is_some ds ≡ true → (are_full ds ≡ true) ⊎ (last ≡ 1) → AreFilled last ds
filled_some last [] filled some full = absurd (cc)
filled_some last (d ∷ ds) (inl none) some full = absurd (cc)
filled_some last (d ∷ ds) (inr filled) some (inl full) = full_filled last (d ∷ ds) filled full
filled_some last (d ∷ ds) (inr filled) some (inr is) = subst (λ (n : ℕ). AreFilled n (d ∷ ds)) (sym is) filled

whole_is : (t : Tape) (h : DumpHeadFields) (fs : List Fragment) (v : VolHeadFields) (ds : List DataFields) (e : VolEndFields) → GoodFragment t h fs v ds → EndsFragment (frag_at t fs v ds) e → IsFragment (whole_fragment v ds e)
whole_is t h fs v ds e good ends = record {
  pieces = good.pieces;
  filled = filled_some e.last ds good.filled ends.some ends.filled;
  dump = ends.dump;
  index = ends.index;
  fragment = ends.fragment;
  bytes = ends.bytes;
}

-- behind the fragment before it stands its head
behind_last : (part : ℕ) (at : ℕ) (fs : List Fragment) (v : VolHeadFields) (ds : List DataFields) (e : VolEndFields) → FragmentBehind part (last_of (map closed_frag (fragments_at at fs))) v → (before : List Fragment) (g : Fragment) → fs ≡ before ++ g ∷ [] → NextFragment g (whole_fragment v ds e)
behind_last part at fs v ds e next before g same =
    let there : FragmentBehind part (last_of (map closed_frag (fragments_at at (before ++ g ∷ [])))) v = subst (λ (l : List Fragment). FragmentBehind part (last_of (map closed_frag (fragments_at at l))) v) same next in
    let found : FragmentBehind part (Some (closed_frag (record { fragment = g; at = at + fragments_len before }))) v = subst (λ (o : Option FragFound). FragmentBehind part o v) (last_frag at before g) there in
    (eqb-true g.end.last 1 found.0, found.1)

first_begins : (part : ℕ) (at : ℕ) (fs : List Fragment) (v : VolHeadFields) (ds : List DataFields) (e : VolEndFields) → (fs ≡ []) ⊎ Begins (FirstOf part) fs → FragmentBehind part (last_of (map closed_frag (fragments_at at fs))) v → Begins (FirstOf part) (fs ++ whole_fragment v ds e ∷ [])
first_begins part at [] v ds e begins next = next
first_begins part at (f ∷ fs) v ds e (inl none) next = absurd (cc)
first_begins part at (f ∷ fs) v ds e (inr begins) next = begins

fits_fragment : (v : VolHeadFields) (ds : List DataFields) (e : VolEndFields) → IsFitItem (Says (frames.VolHead v)) → All IsFitItem (map data_item ds) → IsFitItem (Says (frames.VolEnd e)) → All IsFitItem (fragment_items (whole_fragment v ds e))
fits_fragment v ds e head pieces end =
    All_join IsFitItem (Says (frames.VolHead v) ∷ map data_item ds ++ Says (frames.VolEnd e) ∷ []) (Filemark ∷ [])
    (All-cons IsFitItem (Says (frames.VolHead v)) (map data_item ds ++ Says (frames.VolEnd e) ∷ []) head (All-push IsFitItem (map data_item ds) (Says (frames.VolEnd e)) pieces end))
    (All-cons IsFitItem Filemark [] tt (All-nil IsFitItem))

pub good_end : (t : Tape) (h : DumpHeadFields) (fs : List Fragment) (v : VolHeadFields) (ds : List DataFields) (e : VolEndFields) → GoodFragment t h fs v ds → IsFitItem (Says (frames.VolEnd e)) → EndsFragment (frag_at t fs v ds) e → GoodPart t h (fs ++ whole_fragment v ds e ∷ [])
good_end t h fs v ds e good fit ends =
    let f : Fragment = whole_fragment v ds e in
    let items : flat_map fragment_items (fs ++ whole_fragment v ds e ∷ []) ≡ flat_map fragment_items fs ++ fragment_items (whole_fragment v ds e) =
    flat_map-append fragment_items fs (whole_fragment v ds e ∷ []) ∙ ap (λ (l : List Item). flat_map fragment_items fs ++ l) (append-nil (fragment_items (whole_fragment v ds e))) in
    record {
      tape = good.part.tape;
      fit = good.part.fit;
      opens = good.part.opens;
      fits = subst (All IsFitItem) (sym items) (All_join IsFitItem (flat_map fragment_items fs) (fragment_items (whole_fragment v ds e)) good.part.fits (fits_fragment v ds e good.fit good.fits fit));
      begins = inr (first_begins h.part (tape_len t + 1) fs v ds e good.part.begins good.opens.next);
      each = All-push (IsOf h.id h.volumes) fs (whole_fragment v ds e) good.part.each (good.opens.dump, good.opens.index, whole_is t h fs v ds e good ends);
      linked = Linked_push NextFragment fs (whole_fragment v ds e) good.part.linked (behind_last h.part (tape_len t + 1) fs v ds e good.opens.next);
    }

-- ---- a part gets its end

-- a part behind a tape's last one
zero_or_one : (b : Bool) (n : ℕ) → n ≡ (if b then 0 else 1) → (n == 1) ≡ false → n ≡ 0
zero_or_one true n is not_one = is
zero_or_one false n is not_one = absurd (eqb-false n 1 not_one is)

part_behind : (t : Tape) (h : DumpHeadFields) (fs : List Fragment) (e : DumpEndFields) → IsTape t → HeadBehind (last_of (map closed_part (parts_of t))) h → (before : List Part) (q : Part) → t.parts ≡ before ++ q ∷ [] → NextPart q (whole_part h fs e)
part_behind t h fs e is next before q same =
    let there : HeadBehind (last_of (map closed_part (parts_at 2 1 (before ++ q ∷ [])))) h = subst (λ (l : List Part). HeadBehind (last_of (map closed_part (parts_at 2 1 l))) h) same next in
    let at2 : ℕ = 2 + sum_by part_len before in
    let marks2 : ℕ = 1 + sum_by part_marks before in
    let found : HeadBehind (Some (closed_part (found_behind (2 + sum_by part_len before) (1 + sum_by part_marks before) q))) h =
    subst (λ (o : Option PartFound). HeadBehind o h) (last_part 2 1 before q (2 + sum_by part_len before) (1 + sum_by part_marks before) (parts_at_append 2 1 before (q ∷ []) (2 + sum_by part_len before) (1 + sum_by part_marks before) refl refl)) there in
    let is_part : IsPart t.label q = last_all (IsPart t.label) before q (subst (All (IsPart t.label)) same is.each) in
    (zero_or_one (ends_dump q.head.volumes q.fragments) q.end.more is_part.more found.0, found.1, found.2)
  where
    last_all : (P : Part → Type 0) (before : List Part) (q : Part) → All P (before ++ q ∷ []) → P q
    last_all P [] q all = All-head P q [] all
    last_all P (x ∷ before) q all = last_all P before q (All-tail P x (before ++ q ∷ []) all)

first_or_last : (ps : List Part) (p q : Part) → Contains (ps ++ p ∷ []) q → Contains ps q ⊎ (p ≡ q)
first_or_last [] p q (zero, within, is) = inr is
first_or_last [] p q (suc k, within, is) = absurd (omega arith)
first_or_last (x ∷ ps) p q (zero, within, is) = inl (0, omega arith, is)
first_or_last (x ∷ ps) p q (suc k, within, is) = elim (first_or_last ps p q (k, omega (arith, within), is)) [
  | inl there ↦ inl (suc there.0, omega (arith, there.1), there.2)
  | inr same ↦ inr same
]

-- a part before tells the uses that are told
as_told : (ps : List Part) (q : Part) → AgreeInUses ps → Contains ps q → (q.head.uses ≡ 0 → ⊥) → q.head.uses ≡ uses_told ps
as_told ps q agree there tells =
    let one = told_by_one ps (one_tells ps q there tells) in
    agree q one.0 there one.1 tells (λ none. one_tells ps q there tells (sym one.2 ∙ none)) ∙ one.2

uses_agree : (ps : List Part) (p : Part) → AgreeInUses ps → (p.head.uses ≢ 0 → uses_told ps ≢ 0 → p.head.uses ≡ uses_told ps) → AgreeInUses (ps ++ p ∷ [])
uses_agree ps p agree told a b a_there b_there a_tells b_tells = elim (first_or_last ps p a a_there) [
  | inl a_before ↦ elim (first_or_last ps p b b_there) [
    | inl b_before ↦ agree a b a_before b_before a_tells b_tells
    | inr b_last ↦
        (let own : p.head.uses ≡ b.head.uses = ap (λ (x : Part). x.head.uses) b_last in
        as_told ps a agree a_before a_tells ∙ sym (told (λ none. b_tells (sym own ∙ none)) (one_tells ps a a_before a_tells)) ∙ own)
  ]
  | inr a_last ↦ elim (first_or_last ps p b b_there) [
    | inl b_before ↦
        (let own : p.head.uses ≡ a.head.uses = ap (λ (x : Part). x.head.uses) a_last in
        sym own ∙ told (λ none. a_tells (sym own ∙ none)) (one_tells ps b b_before b_tells) ∙ sym (as_told ps b agree b_before b_tells))
    | inr b_last ↦ ap (λ (x : Part). x.head.uses) (sym a_last ∙ b_last)
  ]
]

-- behind the last fragment stands its end
end_more : (volumes at : ℕ) (fs : List Fragment) (e : DumpEndFields) → EndBehind volumes (last_of (map closed_frag (fragments_at at fs))) e → e.more ≡ (if ends_dump volumes fs then 0 else 1)
end_more volumes at fs e ends = elim (by_last fs) [
  | inl none ↦ absurd (subst (λ (l : List Fragment). EndBehind volumes (last_of (map closed_frag (fragments_at at l))) e) none ends)
  | inr p ↦
      (let there : EndBehind volumes (last_of (map closed_frag (fragments_at at (p.0 ++ p.1 ∷ [])))) e = subst (λ (l : List Fragment). EndBehind volumes (last_of (map closed_frag (fragments_at at l))) e) p.2 ends in
      let found : EndBehind volumes (Some (closed_frag (record { fragment = p.1; at = at + fragments_len p.0 }))) e = subst (λ (o : Option FragFound). EndBehind volumes o e) (last_frag at p.0 p.1) there in
      found ∙ ap (λ (b : Bool). if b then 0 else 1) (sym (ends_dump_at volumes p.0 p.1) ∙ ap (λ (l : List Fragment). ends_dump volumes l) (sym p.2)))
]

some_begin : (part volumes at : ℕ) (fs : List Fragment) (e : DumpEndFields) → (fs ≡ []) ⊎ Begins (FirstOf part) fs → EndBehind volumes (last_of (map closed_frag (fragments_at at fs))) e → Begins (FirstOf part) fs
some_begin part volumes at [] e begins ends = absurd ends
some_begin part volumes at (f ∷ fs) e (inl none) ends = absurd (cc)
some_begin part volumes at (f ∷ fs) e (inr begins) ends = begins

is_part : (t : Tape) (h : DumpHeadFields) (fs : List Fragment) (e : DumpEndFields) → GoodPart t h fs → EndsPart (part_at t h fs) e → IsPart t.label (whole_part h fs e)
is_part t h fs e good ends = record {
  initial = good.opens.initial;
  tape = good.opens.tape;
  name = good.opens.name;
  permanent = good.opens.permanent;
  begins = some_begin h.part h.volumes (tape_len t + 1) fs e good.begins ends.more;
  each = good.each;
  linked = good.linked;
  dump = ends.dump;
  more = end_more h.volumes (tape_len t + 1) fs e ends.more;
}

fits_part : (h : DumpHeadFields) (fs : List Fragment) (e : DumpEndFields) → IsFitItem (Says (frames.DumpHead h)) → All IsFitItem (flat_map fragment_items fs) → IsFitItem (Says (frames.DumpEnd e)) → All IsFitItem (part_items (whole_part h fs e))
fits_part h fs e head fits end =
    All-cons IsFitItem (Says (frames.DumpHead h)) (flat_map fragment_items fs ++ Says (frames.DumpEnd e) ∷ Filemark ∷ []) head
    (All_join IsFitItem (flat_map fragment_items fs) (Says (frames.DumpEnd e) ∷ Filemark ∷ []) fits (All-cons IsFitItem (Says (frames.DumpEnd e)) (Filemark ∷ []) end (All-cons IsFitItem Filemark [] tt (All-nil IsFitItem))))

pub good_tape : (t : Tape) (h : DumpHeadFields) (fs : List Fragment) (e : DumpEndFields) → GoodPart t h fs → IsFitItem (Says (frames.DumpEnd e)) → EndsPart (part_at t h fs) e → IsTape (with_part t (whole_part h fs e))
good_tape t h fs e good fit ends =
    let carries : t.label.initial ≡ 0 → ⊥ = λ none. absurd (omega (arith, good.fit.initial.0, good.opens.initial, none)) in
    let made = one_part_more t (whole_part h fs e) good.tape carries (is_part t h fs e good ends) (fits_part h fs e good.fit good.fits fit) (part_behind t h fs e good.tape good.opens.next) (uses_agree t.parts (whole_part h fs e) good.tape.uses good.opens.uses) in
    made.0
