-- In a whole tape each item continues the text before it.
use Rattle.std.proofs.Common.{◌≡◌, List, [], ◌∷◌, ◌++◌, map, refl, sym, ap, subst, ◌∙◌, append_assoc}
use Rattle.std.specs.List.{flat_map}
use Rattle.tape_frames.specs.declared.frame.Frame.TheVariants as frames
use Rattle.tape_frames.specs.declared.label.LabelFields.{LabelFields}
use Rattle.tape_frames.specs.declared.dump_head.DumpHeadFields.{DumpHeadFields}
use Rattle.tape_frames.specs.declared.vol_head.VolHeadFields.{VolHeadFields}
use Rattle.tape_frames.specs.declared.data.DataFields.{DataFields}
use Rattle.tape_frames.specs.declared.vol_end.VolEndFields.{VolEndFields}
use Rattle.tape_frames.specs.declared.dump_end.DumpEndFields.{DumpEndFields}
use Rattle.tape_text.specs.Items.{Item, Says, Filemark}
use Rattle.tape_text.specs.Texts.{Fragment, Part, Tape, data_item, fragment_items, part_items}
use Rattle.tape_scan.proofs.Reached.{Reached, at_front, labeled, between, in_part, in_fragment, behind_fragment, behind_part, next, run, Rest, longer, whole_part, whole_fragment, whole_tape, part_rest, fragment_rest, rest_items, Stands}

first_item : (i j : Item) (is js : List Item) → i ∷ is ≡ j ∷ js → i ≡ j
first_item i j is js same = cc

other_items : (i j : Item) (is js : List Item) → i ∷ is ≡ j ∷ js → is ≡ js
other_items i j is js same = cc

none_first : (i : Item) (is : List Item) → [] ≡ i ∷ is → ⊥
none_first i is same = cc

-- the item that stands next, and what stands behind it
pub part_shape : (p : Part) (xs : List Item) → part_items p ++ xs ≡ Says (frames.DumpHead p.head) ∷ (flat_map fragment_items p.fragments ++ Says (frames.DumpEnd p.end) ∷ Filemark ∷ xs)
part_shape p xs = simp append_assoc

pub fragment_shape : (f : Fragment) (xs : List Item) → fragment_items f ++ xs ≡ Says (frames.VolHead f.head) ∷ (map data_item f.pieces ++ Says (frames.VolEnd f.end) ∷ Filemark ∷ xs)
fragment_shape f xs = simp append_assoc

-- what stands next, by where the scan stands
record Ahead (s : Reached) (rest : Rest s) (i : Item) (more : List Item) : Type 0 where
  then : Rest (next s i)
  whole : whole_tape (next s i) then ≡ whole_tape s rest
  items : rest_items (next s i) then ≡ more

ahead_front : (w : Tape) (more : List Item) → (Filemark ∷ flat_map part_items w.parts ≡ more) → Ahead at_front w (Says (frames.Label w.label)) more
ahead_front w more same = record { then = w.parts; whole = refl; items = same }

ahead_label : (l : LabelFields) (ps : List Part) (more : List Item) → flat_map part_items ps ≡ more → Ahead (labeled l) ps Filemark more
ahead_label l ps more same = record { then = ps; whole = refl; items = same }

ahead_between : (t : Tape) (p : Part) (ps : List Part) (more : List Item) → part_rest p.fragments p.end ps ≡ more → Ahead (between t) (p ∷ ps) (Says (frames.DumpHead p.head)) more
ahead_between t p ps more same = record { then = (p.fragments, p.end, ps); whole = refl; items = same }

ahead_part : (t : Tape) (h : DumpHeadFields) (fs : List Fragment) (g : Fragment) (gs : List Fragment) (e : DumpEndFields) (ps : List Part) (more : List Item)
    → fragment_rest g.pieces g.end (part_rest gs e ps) ≡ more → Ahead (in_part t h fs) (g ∷ gs, e, ps) (Says (frames.VolHead g.head)) more
ahead_part t h fs g gs e ps more same = record { then = (g.pieces, g.end, gs, e, ps); whole = refl; items = same }

ahead_part_end : (t : Tape) (h : DumpHeadFields) (fs : List Fragment) (e : DumpEndFields) (ps : List Part) (more : List Item) → Filemark ∷ flat_map part_items ps ≡ more → Ahead (in_part t h fs) ([], e, ps) (Says (frames.DumpEnd e)) more
ahead_part_end t h fs e ps more same = record { then = ps; whole = ap (λ (gs : List Fragment). longer t (whole_part h gs e ∷ ps)) (sym (none_behind fs)); items = same }
  where
    none_behind : (fs : List Fragment) → fs ++ [] ≡ fs
    none_behind [] = refl
    none_behind (f ∷ fs) = ap (λ (l : List Fragment). f ∷ l) (none_behind fs)

ahead_fragment : (t : Tape) (h : DumpHeadFields) (fs : List Fragment) (v : VolHeadFields) (ds : List DataFields) (d : DataFields) (es : List DataFields) (ve : VolEndFields) (gs : List Fragment) (e : DumpEndFields) (ps : List Part) (more : List Item)
    → fragment_rest es ve (part_rest gs e ps) ≡ more → Ahead (in_fragment t h fs v ds) (d ∷ es, ve, gs, e, ps) (Says (frames.Data d)) more
ahead_fragment t h fs v ds d es ve gs e ps more same = record {
  then = (es, ve, gs, e, ps);
  whole = ap (λ (l : List DataFields). longer t (whole_part h (fs ++ whole_fragment v l ve ∷ gs) e ∷ ps)) (append_assoc ds (d ∷ []) es);
  items = same;
}

ahead_fragment_end : (t : Tape) (h : DumpHeadFields) (fs : List Fragment) (v : VolHeadFields) (ds : List DataFields) (ve : VolEndFields) (gs : List Fragment) (e : DumpEndFields) (ps : List Part) (more : List Item)
    → Filemark ∷ part_rest gs e ps ≡ more → Ahead (in_fragment t h fs v ds) ([], ve, gs, e, ps) (Says (frames.VolEnd ve)) more
ahead_fragment_end t h fs v ds ve gs e ps more same = record {
  then = (gs, e, ps);
  whole = ap (λ (l : List DataFields). longer t (whole_part h (fs ++ whole_fragment v l ve ∷ gs) e ∷ ps)) (sym (none_behind ds));
  items = same;
}
  where
    none_behind : (xs : List DataFields) → xs ++ [] ≡ xs
    none_behind [] = refl
    none_behind (x ∷ xs) = ap (λ (l : List DataFields). x ∷ l) (none_behind xs)

ahead_behind_fragment : (t : Tape) (h : DumpHeadFields) (fs : List Fragment) (f : Fragment) (gs : List Fragment) (e : DumpEndFields) (ps : List Part) (more : List Item) → part_rest gs e ps ≡ more → Ahead (behind_fragment t h fs f) (gs, e, ps) Filemark more
ahead_behind_fragment t h fs f gs e ps more same = record { then = (gs, e, ps); whole = ap (λ (l : List Fragment). longer t (whole_part h l e ∷ ps)) (append_assoc fs (f ∷ []) gs); items = same }

ahead_behind_part : (t : Tape) (p : Part) (ps : List Part) (more : List Item) → flat_map part_items ps ≡ more → Ahead (behind_part t p) ps Filemark more
ahead_behind_part t p ps more same = record { then = ps; whole = ap (λ (l : List Part). record { label = t.label; parts = l }) (append_assoc t.parts (p ∷ []) ps); items = same }

along : (s : Reached) (rest : Rest s) (i j : Item) (more : List Item) → i ≡ j → Ahead s rest i more → Ahead s rest j more
along s rest i j more same ahead = subst (λ (x : Item). Ahead s rest x more) same ahead

ahead : (s : Reached) (rest : Rest s) (i : Item) (more : List Item) → rest_items s rest ≡ i ∷ more → Ahead s rest i more
ahead at_front w i more same =
    along at_front w (Says (frames.Label w.label)) i more (first_item (Says (frames.Label w.label)) i (Filemark ∷ flat_map part_items w.parts) more same)
    (ahead_front w more (other_items (Says (frames.Label w.label)) i (Filemark ∷ flat_map part_items w.parts) more same))
ahead (labeled l) ps i more same =
    along (labeled l) ps Filemark i more (first_item Filemark i (flat_map part_items ps) more same) (ahead_label l ps more (other_items Filemark i (flat_map part_items ps) more same))
ahead (between t) [] i more same = absurd (none_first i more same)
ahead (between t) (p ∷ ps) i more same =
    let shaped : Says (frames.DumpHead p.head) ∷ part_rest p.fragments p.end ps ≡ i ∷ more = sym (part_shape p (flat_map part_items ps)) ∙ same in
    along (between t) (p ∷ ps) (Says (frames.DumpHead p.head)) i more (first_item (Says (frames.DumpHead p.head)) i (part_rest p.fragments p.end ps) more shaped)
    (ahead_between t p ps more (other_items (Says (frames.DumpHead p.head)) i (part_rest p.fragments p.end ps) more shaped))
ahead (in_part t h fs) ([], e, ps) i more same =
    along (in_part t h fs) ([], e, ps) (Says (frames.DumpEnd e)) i more (first_item (Says (frames.DumpEnd e)) i (Filemark ∷ flat_map part_items ps) more same)
    (ahead_part_end t h fs e ps more (other_items (Says (frames.DumpEnd e)) i (Filemark ∷ flat_map part_items ps) more same))
ahead (in_part t h fs) (g ∷ gs, e, ps) i more same =
    let shaped : Says (frames.VolHead g.head) ∷ fragment_rest g.pieces g.end (part_rest gs e ps) ≡ i ∷ more =
    sym (fragment_shape g (part_rest gs e ps)) ∙ sym (append_assoc (fragment_items g) (flat_map fragment_items gs) (Says (frames.DumpEnd e) ∷ Filemark ∷ flat_map part_items ps)) ∙ same in
    along (in_part t h fs) (g ∷ gs, e, ps) (Says (frames.VolHead g.head)) i more (first_item (Says (frames.VolHead g.head)) i (fragment_rest g.pieces g.end (part_rest gs e ps)) more shaped)
    (ahead_part t h fs g gs e ps more (other_items (Says (frames.VolHead g.head)) i (fragment_rest g.pieces g.end (part_rest gs e ps)) more shaped))
ahead (in_fragment t h fs v ds) ([], ve, gs, e, ps) i more same =
    along (in_fragment t h fs v ds) ([], ve, gs, e, ps) (Says (frames.VolEnd ve)) i more (first_item (Says (frames.VolEnd ve)) i (Filemark ∷ part_rest gs e ps) more same)
    (ahead_fragment_end t h fs v ds ve gs e ps more (other_items (Says (frames.VolEnd ve)) i (Filemark ∷ part_rest gs e ps) more same))
ahead (in_fragment t h fs v ds) (d ∷ es, ve, gs, e, ps) i more same =
    along (in_fragment t h fs v ds) (d ∷ es, ve, gs, e, ps) (Says (frames.Data d)) i more (first_item (Says (frames.Data d)) i (fragment_rest es ve (part_rest gs e ps)) more same)
    (ahead_fragment t h fs v ds d es ve gs e ps more (other_items (Says (frames.Data d)) i (fragment_rest es ve (part_rest gs e ps)) more same))
ahead (behind_fragment t h fs f) (gs, e, ps) i more same =
    along (behind_fragment t h fs f) (gs, e, ps) Filemark i more (first_item Filemark i (part_rest gs e ps) more same)
    (ahead_behind_fragment t h fs f gs e ps more (other_items Filemark i (part_rest gs e ps) more same))
ahead (behind_part t p) ps i more same =
    along (behind_part t p) ps Filemark i more (first_item Filemark i (flat_map part_items ps) more same) (ahead_behind_part t p ps more (other_items Filemark i (flat_map part_items ps) more same))

-- one item on it stands in the same tape
pub stands_next : (s : Reached) (w : Tape) (i : Item) (more : List Item) → Stands s w (i ∷ more) → Stands (next s i) w more
stands_next s w i more stands = (let a = ahead s stands.rest i more stands.items in record { rest = a.then; whole = a.whole ∙ stands.whole; items = a.items })

-- and behind any front
pub stands_on : (s : Reached) (w : Tape) (is more : List Item) → Stands s w (is ++ more) → Stands (run s is) w more
stands_on s w [] more stands = stands
stands_on s w (i ∷ is) more stands = stands_on (next s i) w is more (stands_next s w i (is ++ more) stands)
