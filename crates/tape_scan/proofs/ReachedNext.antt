-- One item that continues the text: what the code makes of it, and a whole tape that has it.
use Rattle.std.proofs.Common.{◌≡◌, ℕ, ◌+◌, Bool, true, List, [], ◌∷◌, ◌++◌, length, map, refl, sym, ap, ◌∙◌, arith, append_assoc, append-nil, length-append}
use Rattle.std.specs.Prelude.{sum_by, ◌==◌, if◌then◌else◌}
use Rattle.std.specs.List.{flat_map}
use Rattle.std.proofs.lemmas.List.{map-append}
use Rattle.std.proofs.lemmas.List.Sums.{sum_by-cons, sum_by-append}
use Rattle.tape_frames.specs.declared.frame.Frame.TheVariants as frames
use Rattle.tape_frames.specs.declared.label.LabelFields.{LabelFields}
use Rattle.tape_frames.specs.declared.dump_head.DumpHeadFields.{DumpHeadFields}
use Rattle.tape_frames.specs.declared.vol_head.VolHeadFields.{VolHeadFields}
use Rattle.tape_frames.specs.declared.data.DataFields.{DataFields}
use Rattle.tape_frames.specs.declared.vol_end.VolEndFields.{VolEndFields}
use Rattle.tape_frames.specs.declared.dump_end.DumpEndFields.{DumpEndFields}
use Rattle.tape_frames.specs.Layouts.{FitsLabel}
use Rattle.tape_text.specs.Items.{Item, Says, Filemark, Nothing, IsFitItem}
use Rattle.tape_text.specs.Texts.{Fragment, Part, Tape, fragment_items, part_items, used_of, room, IsTape}
use Rattle.tape_text.specs.Parts.{FoundFragment, FoundPart, fragment_len, fragments_len, part_len, part_marks, fragments_at, parts_at, parts_of, uses_told}
use Rattle.tape_scan.specs.Scans.{with_part}
use Rattle.tape_scan.specs.declared.sections.FragFound.{FragFound}
use Rattle.tape_scan.specs.declared.sections.PartFound.{PartFound}
use Rattle.tape_scan.specs.declared.scanning_walk.TapeSoFar.{TapeSoFar}
use Rattle.tape_scan.specs.declared.scanning_walk.PartSoFar.{PartSoFar}
use Rattle.tape_scan.specs.declared.scanning_walk.FragmentSoFar.{FragmentSoFar}
use Rattle.tape_scan.specs.declared.scanning_walk.Walk.TheVariants as walks
use Rattle.tape_scan.specs.Steps.{Continues, after, with_piece, frag_found, with_frag, one_mark, with_closed}
use Rattle.tape_scan.proofs.OpenedLaws.{label_tape}
use Rattle.tape_scan.proofs.ReachedTold.{parts_at_append, fragments_at_append, tape_long}
use Rattle.tape_scan.proofs.ReachedLists.{found_behind, full_push, some_push, told_push}
use Rattle.tape_scan.proofs.ReachedGood.{GoodPart, GoodFragment, good_part, good_fragment, good_piece, good_end, good_tape}
use Rattle.tape_scan.proofs.ReachedAhead.{part_shape, fragment_shape}
use Rattle.tape_scan.proofs.Reached.{Reached, at_front, labeled, between, in_part, in_fragment, behind_fragment, behind_part, next, tape_len, at_of, closed_frag, closed_part, tape_at, part_at, frag_at, is_some, are_full, walk_at, Rest, longer, whole_part, whole_fragment, whole_tape, part_rest, rest_items, Stands}

-- what was read begins a text
abbrev pub Good : Reached → Type 0
Good at_front = Unit {0}
Good (labeled l) = FitsLabel l
Good (between t) = IsTape t
Good (in_part t h fs) = GoodPart t h fs
Good (in_fragment t h fs v ds) = GoodFragment t h fs v ds
Good (behind_fragment t h fs f) = GoodPart t h (fs ++ f ∷ [])
Good (behind_part t p) = IsTape (with_part t p)

-- ---- what the code makes of it

same_fragment_so_far : (v : VolHeadFields) (at : ℕ) (some some2 full full2 : Bool) (bytes bytes2 : ℕ) → some ≡ some2 → full ≡ full2 → bytes ≡ bytes2
    → record { head = v; at = at; some = some; full = full; bytes = bytes } ≡ (let f : FragmentSoFar = record { head = v; at = at; some = some2; full = full2; bytes = bytes2 } in f)
same_fragment_so_far v at some some2 full full2 bytes bytes2 a b c = cc

piece_after : (t : Tape) (fs : List Fragment) (v : VolHeadFields) (ds : List DataFields) (d : DataFields) → are_full ds ≡ true → frag_at t fs v (ds ++ d ∷ []) ≡ with_piece (frag_at t fs v ds) d
piece_after t fs v ds d full =
    let long : used_of (ds ++ d ∷ []) ≡ used_of ds + d.used = omega (arith, sum_by-append (λ (x : DataFields). x.used) ds (d ∷ []), sum_by-cons (λ (x : DataFields). x.used) d []) in
    same_fragment_so_far v (tape_len t + 1 + fragments_len fs) (is_some (ds ++ d ∷ [])) true (are_full (ds ++ d ∷ [])) (d.used == room) (used_of (ds ++ d ∷ [])) (used_of ds + d.used) (some_push ds d) (full_push ds d full) long

frag_after : (t : Tape) (h : DumpHeadFields) (fs : List Fragment) (v : VolHeadFields) (ds : List DataFields) (e : VolEndFields) → part_at t h (fs ++ whole_fragment v ds e ∷ []) ≡ with_frag (part_at t h fs) (frag_found (frag_at t fs v ds) e)
frag_after t h fs v ds e =
    ap (λ (l : List FragFound). let p : PartSoFar = record { head = h; first = tape_len t; frags = l } in p)
    (ap (λ (l : List FoundFragment). map closed_frag l) (fragments_at_append (tape_len t + 1) fs (whole_fragment v ds e ∷ []) (tape_len t + 1 + fragments_len fs) refl)
    ∙ map-append closed_frag (fragments_at (tape_len t + 1) fs) (record { fragment = whole_fragment v ds e; at = tape_len t + 1 + fragments_len fs } ∷ []))

mark_after : (t : Tape) (fs : List Fragment) (f : Fragment) → tape_at t (length (fs ++ f ∷ [])) ≡ one_mark (tape_at t (length fs))
mark_after t fs f =
    let long : 1 + sum_by part_marks t.parts + length (fs ++ f ∷ []) ≡ 1 + sum_by part_marks t.parts + length fs + 1 = omega (arith, length-append fs (f ∷ [])) in
    ap (λ (n : ℕ). let x : TapeSoFar = record { label = t.label; parts = map closed_part (parts_of t); marks = n; uses = uses_told t.parts } in x) long

same_tape_so_far : (l : LabelFields) (parts parts2 : List PartFound) (marks marks2 uses uses2 : ℕ) → parts ≡ parts2 → marks ≡ marks2 → uses ≡ uses2
    → record { label = l; parts = parts; marks = marks; uses = uses } ≡ (let t : TapeSoFar = record { label = l; parts = parts2; marks = marks2; uses = uses2 } in t)
same_tape_so_far l parts parts2 marks marks2 uses uses2 a b c = cc

same_found : (p : Part) (first end end2 marks marks2 : ℕ) → end ≡ end2 → marks ≡ marks2 → closed_part (record { part = p; first = first; end = end; marks = marks }) ≡ closed_part (record { part = p; first = first; end = end2; marks = marks2 })
same_found p first end end2 marks marks2 a b = cc

part_after : (t : Tape) (p : Part)
    → tape_at (with_part t p) 0 ≡ with_closed (at_of (behind_part t p)) (tape_at t (length p.fragments)) (part_at t p.head p.fragments) (p.end.more == 1)
part_after t p =
    let long = tape_long t in
    let marks : ℕ = 1 + sum_by part_marks t.parts in
    let found : parts_at 2 1 (t.parts ++ p ∷ []) ≡ parts_at 2 1 t.parts ++ found_behind (tape_len t) (1 + sum_by part_marks t.parts) p ∷ [] = parts_at_append 2 1 t.parts (p ∷ []) (tape_len t) (1 + sum_by part_marks t.parts) long refl in
    let here : closed_part (found_behind (tape_len t) (1 + sum_by part_marks t.parts) p) ≡ closed_part (record { part = p; first = tape_len t; end = tape_len t + 1 + fragments_len p.fragments + 1 + 1; marks = 1 + sum_by part_marks t.parts + length p.fragments + 1 }) =
    same_found p (tape_len t) (tape_len t + part_len p) (tape_len t + 1 + fragments_len p.fragments + 1 + 1) (1 + sum_by part_marks t.parts + part_marks p) (1 + sum_by part_marks t.parts + length p.fragments + 1) (omega arith) (omega arith) in
    same_tape_so_far t.label (map closed_part (parts_at 2 1 (t.parts ++ p ∷ [])))
    (map closed_part (parts_of t) ++ closed_part (record { part = p; first = tape_len t; end = tape_len t + 1 + fragments_len p.fragments + 1 + 1; marks = 1 + sum_by part_marks t.parts + length p.fragments + 1 }) ∷ [])
    (1 + sum_by part_marks (t.parts ++ p ∷ []) + 0) (1 + sum_by part_marks t.parts + length p.fragments + 1)
    (uses_told (t.parts ++ p ∷ [])) (if uses_told t.parts == 0 then p.head.uses else uses_told t.parts)
    (ap (λ (l : List FoundPart). map closed_part l) found ∙ map-append closed_part (parts_of t) (found_behind (tape_len t) (1 + sum_by part_marks t.parts) p ∷ []) ∙ ap (λ (x : PartFound). map closed_part (parts_of t) ++ x ∷ []) here)
    (omega (arith, sum_by-append part_marks t.parts (p ∷ []), sum_by-cons part_marks p []))
    (told_push t.parts p)

-- ---- all of a step

pub record Went (s : Reached) (i : Item) : Type 0 where
  pub good : Good (next s i)
  pub count : at_of (next s i) ≡ at_of s + 1
  pub walk : walk_at (next s i) ≡ after (at_of s) (walk_at s) i
  pub back : (w : Tape) (more : List Item) → Stands (next s i) w more → Stands s w (i ∷ more)

went_label : (l : LabelFields) → FitsLabel l → Went at_front (Says (frames.Label l))
went_label l fit = record {
  good = fit;
  count = omega arith;
  walk = refl;
  back = λ w more stands. record { rest = record { label = l; parts = stands.rest }; whole = stands.whole; items = ap (λ (x : List Item). Says (frames.Label l) ∷ x) stands.items };
}

went_labeled : (l : LabelFields) → FitsLabel l → Went (labeled l) Filemark
went_labeled l fit = record {
  good = label_tape l fit;
  count = omega arith;
  walk = refl;
  back = λ w more stands. record { rest = stands.rest; whole = stands.whole; items = ap (λ (x : List Item). Filemark ∷ x) stands.items };
}

back_between : (t : Tape) (h : DumpHeadFields) (w : Tape) (more : List Item) (rest : Rest (in_part t h [])) → whole_tape (in_part t h []) rest ≡ w → rest_items (in_part t h []) rest ≡ more → Stands (between t) w (Says (frames.DumpHead h) ∷ more)
back_between t h w more (gs, e, ps) whole items = record {
  rest = whole_part h gs e ∷ ps;
  whole = whole;
  items = part_shape (whole_part h gs e) (flat_map part_items ps) ∙ ap (λ (x : List Item). Says (frames.DumpHead h) ∷ x) items;
}

went_between : (t : Tape) (h : DumpHeadFields) → GoodPart t h [] → Went (between t) (Says (frames.DumpHead h))
went_between t h good = record {
  good = good;
  count = omega arith;
  walk = refl;
  back = λ w more stands. back_between t h w more stands.rest stands.whole stands.items;
}

back_part : (t : Tape) (h : DumpHeadFields) (fs : List Fragment) (v : VolHeadFields) (w : Tape) (more : List Item) (rest : Rest (in_fragment t h fs v [])) → whole_tape (in_fragment t h fs v []) rest ≡ w → rest_items (in_fragment t h fs v []) rest ≡ more
    → Stands (in_part t h fs) w (Says (frames.VolHead v) ∷ more)
back_part t h fs v w more (es, ve, gs, e, ps) whole items = record {
  rest = (whole_fragment v es ve ∷ gs, e, ps);
  whole = whole;
  items =
      append_assoc (fragment_items (whole_fragment v es ve)) (flat_map fragment_items gs) (Says (frames.DumpEnd e) ∷ Filemark ∷ flat_map part_items ps) ∙ fragment_shape (whole_fragment v es ve) (part_rest gs e ps)
      ∙ ap (λ (x : List Item). Says (frames.VolHead v) ∷ x) items;
}

went_part : (t : Tape) (h : DumpHeadFields) (fs : List Fragment) (v : VolHeadFields) → GoodFragment t h fs v [] → Went (in_part t h fs) (Says (frames.VolHead v))
went_part t h fs v good = record {
  good = good;
  count = omega arith;
  walk = refl;
  back = λ w more stands. back_part t h fs v w more stands.rest stands.whole stands.items;
}

went_part_end : (t : Tape) (h : DumpHeadFields) (fs : List Fragment) (e : DumpEndFields) → IsTape (with_part t (whole_part h fs e)) → Went (in_part t h fs) (Says (frames.DumpEnd e))
went_part_end t h fs e good = record {
  good = good;
  count = omega arith;
  walk = refl;
  back = λ w more stands. record {
    rest = ([], e, stands.rest);
    whole = ap (λ (l : List Fragment). longer t (whole_part h l e ∷ stands.rest)) (append-nil fs) ∙ stands.whole;
    items = ap (λ (x : List Item). Says (frames.DumpEnd e) ∷ x) stands.items;
  };
}

back_piece : (t : Tape) (h : DumpHeadFields) (fs : List Fragment) (v : VolHeadFields) (ds : List DataFields) (d : DataFields) (w : Tape) (more : List Item) (rest : Rest (in_fragment t h fs v (ds ++ d ∷ []))) → whole_tape (in_fragment t h fs v (ds ++ d ∷ [])) rest ≡ w
    → rest_items (in_fragment t h fs v (ds ++ d ∷ [])) rest ≡ more → Stands (in_fragment t h fs v ds) w (Says (frames.Data d) ∷ more)
back_piece t h fs v ds d w more (es, ve, gs, e, ps) whole items = record {
  rest = (d ∷ es, ve, gs, e, ps);
  whole = ap (λ (l : List DataFields). longer t (whole_part h (fs ++ whole_fragment v l ve ∷ gs) e ∷ ps)) (sym (append_assoc ds (d ∷ []) es)) ∙ whole;
  items = ap (λ (x : List Item). Says (frames.Data d) ∷ x) items;
}

went_piece : (t : Tape) (h : DumpHeadFields) (fs : List Fragment) (v : VolHeadFields) (ds : List DataFields) (d : DataFields) → are_full ds ≡ true → GoodFragment t h fs v (ds ++ d ∷ []) → Went (in_fragment t h fs v ds) (Says (frames.Data d))
went_piece t h fs v ds d full good = record {
  good = good;
  count = omega (arith, length-append ds (d ∷ []));
  walk = ap (λ (f : FragmentSoFar). walks.InFragment (tape_at t (length fs)) (part_at t h fs) f) (piece_after t fs v ds d full);
  back = λ w more stands. back_piece t h fs v ds d w more stands.rest stands.whole stands.items;
}

back_end : (t : Tape) (h : DumpHeadFields) (fs : List Fragment) (v : VolHeadFields) (ds : List DataFields) (ve : VolEndFields) (w : Tape) (more : List Item) (rest : Rest (behind_fragment t h fs (whole_fragment v ds ve)))
    → whole_tape (behind_fragment t h fs (whole_fragment v ds ve)) rest ≡ w → rest_items (behind_fragment t h fs (whole_fragment v ds ve)) rest ≡ more → Stands (in_fragment t h fs v ds) w (Says (frames.VolEnd ve) ∷ more)
back_end t h fs v ds ve w more (gs, e, ps) whole items = record {
  rest = ([], ve, gs, e, ps);
  whole = ap (λ (l : List DataFields). longer t (whole_part h (fs ++ whole_fragment v l ve ∷ gs) e ∷ ps)) (append-nil ds) ∙ whole;
  items = ap (λ (x : List Item). Says (frames.VolEnd ve) ∷ x) items;
}

went_end : (t : Tape) (h : DumpHeadFields) (fs : List Fragment) (v : VolHeadFields) (ds : List DataFields) (ve : VolEndFields) → GoodPart t h (fs ++ whole_fragment v ds ve ∷ []) → Went (in_fragment t h fs v ds) (Says (frames.VolEnd ve))
went_end t h fs v ds ve good = record {
  good = good;
  count = omega arith;
  walk = ap (λ (p : PartSoFar). walks.BehindFragment (tape_at t (length fs)) p) (frag_after t h fs v ds ve);
  back = λ w more stands. back_end t h fs v ds ve w more stands.rest stands.whole stands.items;
}

back_mark : (t : Tape) (h : DumpHeadFields) (fs : List Fragment) (f : Fragment) (w : Tape) (more : List Item) (rest : Rest (in_part t h (fs ++ f ∷ []))) → whole_tape (in_part t h (fs ++ f ∷ [])) rest ≡ w → rest_items (in_part t h (fs ++ f ∷ [])) rest ≡ more
    → Stands (behind_fragment t h fs f) w (Filemark ∷ more)
back_mark t h fs f w more (gs, e, ps) whole items = record {
  rest = (gs, e, ps);
  whole = ap (λ (l : List Fragment). longer t (whole_part h l e ∷ ps)) (sym (append_assoc fs (f ∷ []) gs)) ∙ whole;
  items = ap (λ (x : List Item). Filemark ∷ x) items;
}

went_mark : (t : Tape) (h : DumpHeadFields) (fs : List Fragment) (f : Fragment) → GoodPart t h (fs ++ f ∷ []) → Went (behind_fragment t h fs f) Filemark
went_mark t h fs f good = record {
  good = good;
  count = omega (arith, sum_by-append fragment_len fs (f ∷ []), sum_by-cons fragment_len f []);
  walk = ap (λ (x : TapeSoFar). walks.InPart x (part_at t h (fs ++ f ∷ []))) (mark_after t fs f);
  back = λ w more stands. back_mark t h fs f w more stands.rest stands.whole stands.items;
}

went_close : (t : Tape) (p : Part) → IsTape (with_part t p) → Went (behind_part t p) Filemark
went_close t p good = record {
  good = good;
  count = omega (arith, tape_long t, tape_long (with_part t p), sum_by-append part_len t.parts (p ∷ []), sum_by-cons part_len p []);
  walk = ap (λ (x : TapeSoFar). walks.Between x) (part_after t p);
  back = λ w more stands. record {
    rest = stands.rest;
    whole = ap (λ (l : List Part). let x : Tape = record { label = t.label; parts = l } in x) (sym (append_assoc t.parts (p ∷ []) stands.rest)) ∙ stands.whole;
    items = ap (λ (x : List Item). Filemark ∷ x) stands.items;
  };
}

-- an item that continues the text is taken
pub went : (s : Reached) (i : Item) → Good s → IsFitItem i → Continues (walk_at s) i → Went s i
went at_front (Says (frames.Label l)) good fit goes = went_label l fit
went at_front (Says (frames.DumpHead h)) good fit goes = absurd goes
went at_front (Says (frames.VolHead v)) good fit goes = absurd goes
went at_front (Says (frames.Data d)) good fit goes = absurd goes
went at_front (Says (frames.VolEnd e)) good fit goes = absurd goes
went at_front (Says (frames.DumpEnd e)) good fit goes = absurd goes
went at_front Filemark good fit goes = absurd goes
went at_front Nothing good fit goes = absurd goes
went (labeled l) (Says f) good fit goes = absurd goes
went (labeled l) Filemark good fit goes = went_labeled l good
went (labeled l) Nothing good fit goes = absurd goes
went (between t) (Says (frames.Label l)) good fit goes = absurd goes
went (between t) (Says (frames.DumpHead h)) good fit goes = went_between t h (good_part t h good fit goes)
went (between t) (Says (frames.VolHead v)) good fit goes = absurd goes
went (between t) (Says (frames.Data d)) good fit goes = absurd goes
went (between t) (Says (frames.VolEnd e)) good fit goes = absurd goes
went (between t) (Says (frames.DumpEnd e)) good fit goes = absurd goes
went (between t) Filemark good fit goes = absurd goes
went (between t) Nothing good fit goes = absurd goes
went (in_part t h fs) (Says (frames.Label l)) good fit goes = absurd goes
went (in_part t h fs) (Says (frames.DumpHead d)) good fit goes = absurd goes
went (in_part t h fs) (Says (frames.VolHead v)) good fit goes = went_part t h fs v (good_fragment t h fs v good fit goes)
went (in_part t h fs) (Says (frames.Data d)) good fit goes = absurd goes
went (in_part t h fs) (Says (frames.VolEnd e)) good fit goes = absurd goes
went (in_part t h fs) (Says (frames.DumpEnd e)) good fit goes = went_part_end t h fs e (good_tape t h fs e good fit goes)
went (in_part t h fs) Filemark good fit goes = absurd goes
went (in_part t h fs) Nothing good fit goes = absurd goes
went (in_fragment t h fs v ds) (Says (frames.Label l)) good fit goes = absurd goes
went (in_fragment t h fs v ds) (Says (frames.DumpHead d)) good fit goes = absurd goes
went (in_fragment t h fs v ds) (Says (frames.VolHead w)) good fit goes = absurd goes
went (in_fragment t h fs v ds) (Says (frames.Data d)) good fit goes = went_piece t h fs v ds d goes.full (good_piece t h fs v ds d good fit goes)
went (in_fragment t h fs v ds) (Says (frames.VolEnd e)) good fit goes = went_end t h fs v ds e (good_end t h fs v ds e good fit goes)
went (in_fragment t h fs v ds) (Says (frames.DumpEnd e)) good fit goes = absurd goes
went (in_fragment t h fs v ds) Filemark good fit goes = absurd goes
went (in_fragment t h fs v ds) Nothing good fit goes = absurd goes
went (behind_fragment t h fs f) (Says g) good fit goes = absurd goes
went (behind_fragment t h fs f) Filemark good fit goes = went_mark t h fs f good
went (behind_fragment t h fs f) Nothing good fit goes = absurd goes
went (behind_part t p) (Says f) good fit goes = absurd goes
went (behind_part t p) Filemark good fit goes = went_close t p good
went (behind_part t p) Nothing good fit goes = absurd goes
