-- In a whole tape each item continues the text before it, as the code asks.
use Rattle.std.proofs.Common.{◌≡◌, ◌≢◌, ℕ, suc, ◌+◌, Bool, Option, Some, List, [], ◌∷◌, ◌++◌, map, refl, sym, ap, subst, ◌∙◌, arith, inl, inr, append_assoc, append-nil}
use Rattle.std.specs.Prelude.{All, Contains, sum_by, if◌then◌else◌}
use Rattle.std.specs.List.{flat_map}
use Rattle.std.proofs.lemmas.Bool.{eq-eqb, ne_eqb}
use Rattle.std.proofs.lemmas.List.Sums.{sum_by-cons, sum_by-append}
use Rattle.std.proofs.lemmas.List.Elements.{Contains-append_left}
use Rattle.tape_frames.specs.declared.frame.Frame.TheVariants as frames
use Rattle.tape_frames.specs.declared.dump_head.DumpHeadFields.{DumpHeadFields}
use Rattle.tape_frames.specs.declared.vol_head.VolHeadFields.{VolHeadFields}
use Rattle.tape_frames.specs.declared.data.DataFields.{DataFields}
use Rattle.tape_frames.specs.declared.vol_end.VolEndFields.{VolEndFields}
use Rattle.tape_frames.specs.declared.dump_end.DumpEndFields.{DumpEndFields}
use Rattle.tape_frames.specs.Layouts.{FitsVolEnd}
use Rattle.tape_text.specs.Items.{Item, Says, Filemark, IsFitItem}
use Rattle.tape_text.specs.Texts.{Fragment, Part, Tape, data_item, fragment_items, part_items, IsPiece, IsFragment, IsOf, NextFragment, Linked, Begins, ends_dump, IsPart, NextPart, AgreeInUses, IsTape}
use Rattle.tape_text.specs.Parts.{fragments_len, part_len, part_marks, fragments_at, parts_at, uses_told}
use Rattle.tape_scan.specs.declared.sections.FragFound.{FragFound}
use Rattle.tape_scan.specs.declared.sections.PartFound.{PartFound}
use Rattle.tape_scan.specs.Steps.{last_of, HeadBehind, OpensPart, FragmentBehind, OpensFragment, AddsPiece, EndsFragment, EndBehind, EndsPart, Continues}
use Rattle.tape_scan.proofs.ReachedTold.{parts_at_append}
use Rattle.tape_scan.proofs.ReachedLists.{by_last, last_frag, found_behind, last_part, linked_at, all_at, ends_dump_at, front_full, filled_or_last, some_filled, told_by_one}
use Rattle.tape_scan.proofs.ReachedGood.{FirstOf}
use Rattle.tape_scan.proofs.ReachedAhead.{part_shape, fragment_shape}
use Rattle.tape_scan.proofs.Reached.{Reached, at_front, labeled, between, in_part, in_fragment, behind_fragment, behind_part, tape_len, closed_frag, closed_part, tape_at, part_at, frag_at, walk_at, Rest, longer, whole_part, whole_fragment, whole_tape, part_rest, fragment_rest, rest_items}

-- ---- a part's head

there_at : (xs : List Part) (x : Part) (ys : List Part) → Contains (xs ++ x ∷ ys) x
there_at [] x ys = (0, omega arith, refl)
there_at (y ∷ xs) x ys = (let rest = there_at xs x ys in (suc rest.0, omega (arith, rest.1), rest.2))

uses_behind : (ps : List Part) (p : Part) (qs : List Part) → AgreeInUses (ps ++ p ∷ qs) → p.head.uses ≢ 0 → uses_told ps ≢ 0 → p.head.uses ≡ uses_told ps
uses_behind ps p qs agree tells told =
    let one = told_by_one ps told in
    agree p one.0 (there_at ps p qs) (Contains-append_left ps (p ∷ qs) one.0 one.1) tells (λ none. told (sym one.2 ∙ none)) ∙ one.2

head_behind : (ps : List Part) (p : Part) (qs : List Part) → Linked NextPart (ps ++ p ∷ qs) → HeadBehind (last_of (map closed_part (parts_at 2 1 ps))) p.head
head_behind ps p qs linked = elim (by_last ps) [
  | inl none ↦ subst (λ (l : List Part). HeadBehind (last_of (map closed_part (parts_at 2 1 l))) p.head) (sym none) tt
  | inr b ↦
      (let next : NextPart b.1 p = linked_at NextPart b.0 b.1 p qs (subst (λ (l : List Part). Linked NextPart (l ++ p ∷ qs)) b.2 linked) in
      let found : HeadBehind (Some (closed_part (found_behind (2 + sum_by part_len b.0) (1 + sum_by part_marks b.0) b.1))) p.head =
      (ne_eqb b.1.end.more 1 (λ one. absurd (omega (arith, one, next.0))), next.1, next.2) in
      let there : HeadBehind (last_of (map closed_part (parts_at 2 1 (b.0 ++ b.1 ∷ [])))) p.head =
      subst (λ (o : Option PartFound). HeadBehind o p.head) (sym (last_part 2 1 b.0 b.1 (2 + sum_by part_len b.0) (1 + sum_by part_marks b.0) (parts_at_append 2 1 b.0 (b.1 ∷ []) (2 + sum_by part_len b.0) (1 + sum_by part_marks b.0) refl refl))) found in
      subst (λ (l : List Part). HeadBehind (last_of (map closed_part (parts_at 2 1 l))) p.head) (sym b.2) there)
]

follows_between : (t : Tape) (p : Part) (ps : List Part) → IsTape (longer t (p ∷ ps)) → OpensPart (tape_at t 0) p.head
follows_between t p ps is =
    let part : IsPart t.label p = all_at (IsPart t.label) t.parts p ps is.each in
    record {
      initial = part.initial;
      tape = part.tape;
      name = part.name;
      permanent = part.permanent;
      uses = uses_behind t.parts p ps is.uses;
      next = head_behind t.parts p ps is.linked;
    }

-- ---- a fragment's head

fragment_behind : (part at : ℕ) (fs : List Fragment) (g : Fragment) (gs : List Fragment) → Begins (FirstOf part) (fs ++ g ∷ gs) → Linked NextFragment (fs ++ g ∷ gs) → FragmentBehind part (last_of (map closed_frag (fragments_at at fs))) g.head
fragment_behind part at fs g gs begins linked = elim (by_last fs) [
  | inl none ↦
      (let first : Begins (FirstOf part) ([] ++ g ∷ gs) = subst (λ (l : List Fragment). Begins (FirstOf part) (l ++ g ∷ gs)) none begins in
      subst (λ (l : List Fragment). FragmentBehind part (last_of (map closed_frag (fragments_at at l))) g.head) (sym none) first)
  | inr b ↦
      (let next : NextFragment b.1 g = linked_at NextFragment b.0 b.1 g gs (subst (λ (l : List Fragment). Linked NextFragment (l ++ g ∷ gs)) b.2 linked) in
      let found : FragmentBehind part (Some (closed_frag (record { fragment = b.1; at = at + fragments_len b.0 }))) g.head = (eq-eqb b.1.end.last 1 next.0, next.1) in
      let there : FragmentBehind part (last_of (map closed_frag (fragments_at at (b.0 ++ b.1 ∷ [])))) g.head = subst (λ (o : Option FragFound). FragmentBehind part o g.head) (sym (last_frag at b.0 b.1)) found in
      subst (λ (l : List Fragment). FragmentBehind part (last_of (map closed_frag (fragments_at at l))) g.head) (sym b.2) there)
]

part_there : (t : Tape) (p : Part) (ps : List Part) → IsTape (longer t (p ∷ ps)) → IsPart t.label p
part_there t p ps is = all_at (IsPart t.label) t.parts p ps is.each

follows_part : (t : Tape) (h : DumpHeadFields) (fs : List Fragment) (g : Fragment) (gs : List Fragment) (e : DumpEndFields) (ps : List Part) → IsTape (longer t (whole_part h (fs ++ g ∷ gs) e ∷ ps)) → OpensFragment (part_at t h fs) g.head
follows_part t h fs g gs e ps is =
    let part = part_there t (whole_part h (fs ++ g ∷ gs) e) ps is in
    let own : IsOf h.id h.volumes g = all_at (IsOf h.id h.volumes) fs g gs part.each in
    record { dump = own.0; index = own.1; next = fragment_behind h.part (tape_len t + 1) fs g gs part.begins part.linked }

-- ---- a part's end

end_behind : (volumes at part : ℕ) (fs : List Fragment) (e : DumpEndFields) → Begins (FirstOf part) fs → e.more ≡ (if ends_dump volumes fs then 0 else 1) → EndBehind volumes (last_of (map closed_frag (fragments_at at fs))) e
end_behind volumes at part fs e begins more = elim (by_last fs) [
  | inl none ↦ absurd (subst (λ (l : List Fragment). Begins (FirstOf part) l) none begins)
  | inr b ↦
      (let found : EndBehind volumes (Some (closed_frag (record { fragment = b.1; at = at + fragments_len b.0 }))) e =
      more ∙ ap (λ (x : Bool). if x then 0 else 1) (ap (λ (l : List Fragment). ends_dump volumes l) b.2 ∙ ends_dump_at volumes b.0 b.1) in
      let there : EndBehind volumes (last_of (map closed_frag (fragments_at at (b.0 ++ b.1 ∷ [])))) e = subst (λ (o : Option FragFound). EndBehind volumes o e) (sym (last_frag at b.0 b.1)) found in
      subst (λ (l : List Fragment). EndBehind volumes (last_of (map closed_frag (fragments_at at l))) e) (sym b.2) there)
]

follows_part_end : (t : Tape) (h : DumpHeadFields) (fs : List Fragment) (e : DumpEndFields) (ps : List Part) → IsTape (longer t (whole_part h (fs ++ []) e ∷ ps)) → EndsPart (part_at t h fs) e
follows_part_end t h fs e ps is =
    let part : IsPart t.label (whole_part h fs e) = subst (λ (l : List Fragment). IsPart t.label (whole_part h l e)) (append-nil fs) (part_there t (whole_part h (fs ++ []) e) ps is) in
    record { dump = part.dump; more = end_behind h.volumes (tape_len t + 1) h.part fs e part.begins part.more }

-- ---- a piece, and a fragment's end

fragment_there : (t : Tape) (h : DumpHeadFields) (fs : List Fragment) (f : Fragment) (gs : List Fragment) (e : DumpEndFields) (ps : List Part) → IsTape (longer t (whole_part h (fs ++ f ∷ gs) e ∷ ps)) → IsFragment f
fragment_there t h fs f gs e ps is = (let part = part_there t (whole_part h (fs ++ f ∷ gs) e) ps is in (all_at (IsOf h.id h.volumes) fs f gs part.each).2)

follows_piece : (t : Tape) (h : DumpHeadFields) (fs : List Fragment) (v : VolHeadFields) (ds : List DataFields) (d : DataFields) (es : List DataFields) (ve : VolEndFields) (gs : List Fragment) (e : DumpEndFields) (ps : List Part)
    → IsTape (longer t (whole_part h (fs ++ whole_fragment v (ds ++ d ∷ es) ve ∷ gs) e ∷ ps)) → FitsVolEnd ve → AddsPiece (frag_at t fs v ds) d
follows_piece t h fs v ds d es ve gs e ps is fit =
    let f = fragment_there t h fs (whole_fragment v (ds ++ d ∷ es) ve) gs e ps is in
    let own : IsPiece v.dump v.index d = all_at (IsPiece v.dump v.index) ds d es f.pieces in
    record {
      dump = own.0;
      index = own.1;
      full = front_full ve.last ds d es f.filled;
      bytes = omega (arith, f.bytes, fit.bytes, sum_by-append (λ (x : DataFields). x.used) ds (d ∷ es), sum_by-cons (λ (x : DataFields). x.used) d es);
    }

follows_end : (t : Tape) (h : DumpHeadFields) (fs : List Fragment) (v : VolHeadFields) (ds : List DataFields) (ve : VolEndFields) (gs : List Fragment) (e : DumpEndFields) (ps : List Part)
    → IsTape (longer t (whole_part h (fs ++ whole_fragment v (ds ++ []) ve ∷ gs) e ∷ ps)) → EndsFragment (frag_at t fs v ds) ve
follows_end t h fs v ds ve gs e ps is =
    let f : IsFragment (whole_fragment v ds ve) = subst (λ (l : List DataFields). IsFragment (whole_fragment v l ve)) (append-nil ds) (fragment_there t h fs (whole_fragment v (ds ++ []) ve) gs e ps is) in
    record {
      some = some_filled ve.last ds f.filled;
      filled = filled_or_last ve.last ds f.filled;
      dump = f.dump;
      index = f.index;
      fragment = f.fragment;
      bytes = f.bytes;
    }

-- ---- all of it

first_is : (i j : Item) (is js : List Item) → i ∷ is ≡ j ∷ js → i ≡ j
first_is i j is js same = cc

-- the item that stands next continues the text
pub follows : (s : Reached) (rest : Rest s) (i : Item) (more : List Item) → IsTape (whole_tape s rest) → All IsFitItem (i ∷ more) → rest_items s rest ≡ i ∷ more → Continues (walk_at s) i
follows at_front w i more is fit same = subst (λ (x : Item). Continues (walk_at at_front) x) (first_is (Says (frames.Label w.label)) i (Filemark ∷ flat_map part_items w.parts) more same) tt
follows (labeled l) ps i more is fit same = subst (λ (x : Item). Continues (walk_at (labeled l)) x) (first_is Filemark i (flat_map part_items ps) more same) tt
follows (between t) [] i more is fit same = absurd (cc)
follows (between t) (p ∷ ps) i more is fit same =
    subst (λ (x : Item). Continues (walk_at (between t)) x) (first_is (Says (frames.DumpHead p.head)) i (part_rest p.fragments p.end ps) more (sym (part_shape p (flat_map part_items ps)) ∙ same)) (follows_between t p ps is)
follows (in_part t h fs) ([], e, ps) i more is fit same =
    subst (λ (x : Item). Continues (walk_at (in_part t h fs)) x) (first_is (Says (frames.DumpEnd e)) i (Filemark ∷ flat_map part_items ps) more same) (follows_part_end t h fs e ps is)
follows (in_part t h fs) (g ∷ gs, e, ps) i more is fit same =
    let shaped : Says (frames.VolHead g.head) ∷ fragment_rest g.pieces g.end (part_rest gs e ps) ≡ i ∷ more =
    sym (fragment_shape g (part_rest gs e ps)) ∙ sym (append_assoc (fragment_items g) (flat_map fragment_items gs) (Says (frames.DumpEnd e) ∷ Filemark ∷ flat_map part_items ps)) ∙ same in
    subst (λ (x : Item). Continues (walk_at (in_part t h fs)) x) (first_is (Says (frames.VolHead g.head)) i (fragment_rest g.pieces g.end (part_rest gs e ps)) more shaped) (follows_part t h fs g gs e ps is)
follows (in_fragment t h fs v ds) ([], ve, gs, e, ps) i more is fit same =
    subst (λ (x : Item). Continues (walk_at (in_fragment t h fs v ds)) x) (first_is (Says (frames.VolEnd ve)) i (Filemark ∷ part_rest gs e ps) more same) (follows_end t h fs v ds ve gs e ps is)
follows (in_fragment t h fs v ds) (d ∷ es, ve, gs, e, ps) i more is fit same =
    let fits : All IsFitItem (map data_item (d ∷ es) ++ Says (frames.VolEnd ve) ∷ Filemark ∷ part_rest gs e ps) = subst (All IsFitItem) (sym same) fit in
    let ends : FitsVolEnd ve = all_at IsFitItem (map data_item (d ∷ es)) (Says (frames.VolEnd ve)) (Filemark ∷ part_rest gs e ps) fits in
    subst (λ (x : Item). Continues (walk_at (in_fragment t h fs v ds)) x) (first_is (Says (frames.Data d)) i (fragment_rest es ve (part_rest gs e ps)) more same) (follows_piece t h fs v ds d es ve gs e ps is ends)
follows (behind_fragment t h fs f) (gs, e, ps) i more is fit same = subst (λ (x : Item). Continues (walk_at (behind_fragment t h fs f)) x) (first_is Filemark i (part_rest gs e ps) more same) tt
follows (behind_part t p) ps i more is fit same = subst (λ (x : Item). Continues (walk_at (behind_part t p)) x) (first_is Filemark i (flat_map part_items ps) more same) tt
