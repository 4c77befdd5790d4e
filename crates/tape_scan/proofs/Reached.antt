-- Where a scan stands, by all that it has read, and what that is to the code.
use Rattle.std.proofs.Common.{◌≡◌, ℕ, ◌+◌, Bool, true, false, List, [], ◌∷◌, ◌++◌, length, map}
use Rattle.std.specs.Prelude.{◌&&◌, ◌==◌, sum_by, Some}
use Rattle.std.specs.List.{flat_map}
use Rattle.tape_frames.specs.declared.frame.Frame.TheVariants as frames
use Rattle.tape_frames.specs.declared.label.LabelFields.{LabelFields}
use Rattle.tape_frames.specs.declared.dump_head.DumpHeadFields.{DumpHeadFields}
use Rattle.tape_frames.specs.declared.vol_head.VolHeadFields.{VolHeadFields}
use Rattle.tape_frames.specs.declared.data.DataFields.{DataFields}
use Rattle.tape_frames.specs.declared.vol_end.VolEndFields.{VolEndFields}
use Rattle.tape_frames.specs.declared.dump_end.DumpEndFields.{DumpEndFields}
use Rattle.tape_text.specs.Items.{Item, Says, Filemark}
use Rattle.tape_text.specs.Texts.{Fragment, Part, Tape, data_item, fragment_items, part_items, tape_items, room, used_of}
use Rattle.tape_text.specs.Parts.{FoundFragment, FoundPart, fragments_len, part_marks, fragments_at, fragments_of, parts_of, uses_told}
use Rattle.tape_scan.specs.declared.sections.FragFound.{FragFound}
use Rattle.tape_scan.specs.declared.sections.PartFound.{PartFound}
use Rattle.tape_scan.specs.declared.scanning_walk.TapeSoFar.{TapeSoFar}
use Rattle.tape_scan.specs.declared.scanning_walk.PartSoFar.{PartSoFar}
use Rattle.tape_scan.specs.declared.scanning_walk.FragmentSoFar.{FragmentSoFar}
use Rattle.tape_scan.specs.declared.scanning_walk.Walk.{Walk}
use Rattle.tape_scan.specs.declared.scanning_walk.Walk.TheVariants as walks
use Rattle.tape_scan.specs.Scans.{with_part}

-- in front of all; behind the label; behind closed parts; in a part behind so many fragments; in a fragment behind so many
-- pieces; behind a fragment's end; behind a part's end
pub data Reached : Type 0 where
  at_front : Reached
  labeled : LabelFields → Reached
  between : Tape → Reached
  in_part : Tape → DumpHeadFields → List Fragment → Reached
  in_fragment : Tape → DumpHeadFields → List Fragment → VolHeadFields → List DataFields → Reached
  behind_fragment : Tape → DumpHeadFields → List Fragment → Fragment → Reached
  behind_part : Tape → Part → Reached

-- where it stands behind one item more
abbrev pub next : Reached → Item → Reached
next at_front (Says (frames.Label l)) = labeled l
next (labeled l) Filemark = between (record { label = l; parts = [] })
next (between t) (Says (frames.DumpHead h)) = in_part t h []
next (in_part t h fs) (Says (frames.VolHead v)) = in_fragment t h fs v []
next (in_part t h fs) (Says (frames.DumpEnd e)) = behind_part t (record { head = h; fragments = fs; end = e })
next (in_fragment t h fs v ds) (Says (frames.Data d)) = in_fragment t h fs v (ds ++ d ∷ [])
next (in_fragment t h fs v ds) (Says (frames.VolEnd e)) = behind_fragment t h fs (record { head = v; pieces = ds; end = e })
next (behind_fragment t h fs f) Filemark = in_part t h (fs ++ f ∷ [])
next (behind_part t p) Filemark = between (with_part t p)
next s i = s

-- and behind several
abbrev pub run : Reached → List Item → Reached
run s [] = s
run s (i ∷ is) = run (next s i) is

-- how many items it has read
abbrev pub tape_len : Tape → ℕ
tape_len t = length (tape_items t)

abbrev pub at_of : Reached → ℕ
at_of at_front = 0
at_of (labeled l) = 1
at_of (between t) = tape_len t
at_of (in_part t h fs) = tape_len t + 1 + fragments_len fs
at_of (in_fragment t h fs v ds) = tape_len t + 1 + fragments_len fs + 1 + length ds
at_of (behind_fragment t h fs f) = tape_len t + 1 + fragments_len fs + 1 + length f.pieces + 1
at_of (behind_part t p) = tape_len t + 1 + fragments_len p.fragments + 1

-- ---- the same to the code

abbrev pub closed_frag : FoundFragment → FragFound
closed_frag f = record { head = f.fragment.head; at = f.at; last = Some (f.fragment.end.last == 1) }

abbrev pub closed_part : FoundPart → PartFound
closed_part p = record { head = p.part.head; first = p.first; end = Some p.end; marks = p.marks; more = p.part.end.more == 1; frags = map closed_frag (fragments_of p) }

abbrev pub tape_at : Tape → ℕ → TapeSoFar
tape_at t marks = record { label = t.label; parts = map closed_part (parts_of t); marks = 1 + sum_by part_marks t.parts + marks; uses = uses_told t.parts }

abbrev pub part_at : Tape → DumpHeadFields → List Fragment → PartSoFar
part_at t h fs = record { head = h; first = tape_len t; frags = map closed_frag (fragments_at (tape_len t + 1) fs) }

abbrev pub is_some : List DataFields → Bool
is_some [] = false
is_some (d ∷ ds) = true

abbrev pub are_full : List DataFields → Bool
are_full [] = true
are_full (d ∷ ds) = (d.used == room) && are_full ds

abbrev pub frag_at : Tape → List Fragment → VolHeadFields → List DataFields → FragmentSoFar
frag_at t fs v ds = record { head = v; at = tape_len t + 1 + fragments_len fs; some = is_some ds; full = are_full ds; bytes = used_of ds }

abbrev pub walk_at : Reached → Walk
walk_at at_front = walks.Nothing
walk_at (labeled l) = walks.Labeled l
walk_at (between t) = walks.Between (tape_at t 0)
walk_at (in_part t h fs) = walks.InPart (tape_at t (length fs)) (part_at t h fs)
walk_at (in_fragment t h fs v ds) = walks.InFragment (tape_at t (length fs)) (part_at t h fs) (frag_at t fs v ds)
walk_at (behind_fragment t h fs f) = walks.BehindFragment (tape_at t (length fs)) (part_at t h (fs ++ f ∷ []))
walk_at (behind_part t p) = walks.BehindPart (tape_at t (length p.fragments)) (part_at t p.head p.fragments) (p.end.more == 1)

-- ---- a whole tape that it may be in

-- what may stand behind it
abbrev pub Rest : Reached → Type 0
Rest at_front = Tape
Rest (labeled l) = List Part
Rest (between t) = List Part
Rest (in_part t h fs) = List Fragment × DumpEndFields × List Part
Rest (in_fragment t h fs v ds) = List DataFields × VolEndFields × List Fragment × DumpEndFields × List Part
Rest (behind_fragment t h fs f) = List Fragment × DumpEndFields × List Part
Rest (behind_part t p) = List Part

abbrev pub longer : Tape → List Part → Tape
longer t ps = record { label = t.label; parts = t.parts ++ ps }

abbrev pub whole_part : DumpHeadFields → List Fragment → DumpEndFields → Part
whole_part h fs e = record { head = h; fragments = fs; end = e }

abbrev pub whole_fragment : VolHeadFields → List DataFields → VolEndFields → Fragment
whole_fragment v ds e = record { head = v; pieces = ds; end = e }

abbrev pub whole_tape : (s : Reached) → Rest s → Tape
whole_tape at_front w = w
whole_tape (labeled l) ps = record { label = l; parts = ps }
whole_tape (between t) ps = longer t ps
whole_tape (in_part t h fs) (gs, e, ps) = longer t (whole_part h (fs ++ gs) e ∷ ps)
whole_tape (in_fragment t h fs v ds) (es, ve, gs, e, ps) = longer t (whole_part h (fs ++ whole_fragment v (ds ++ es) ve ∷ gs) e ∷ ps)
whole_tape (behind_fragment t h fs f) (gs, e, ps) = longer t (whole_part h (fs ++ f ∷ gs) e ∷ ps)
whole_tape (behind_part t p) ps = longer t (p ∷ ps)

-- the items behind it
abbrev pub part_rest : List Fragment → DumpEndFields → List Part → List Item
part_rest gs e ps = flat_map fragment_items gs ++ Says (frames.DumpEnd e) ∷ Filemark ∷ flat_map part_items ps

abbrev pub fragment_rest : List DataFields → VolEndFields → List Item → List Item
fragment_rest es ve more = map data_item es ++ Says (frames.VolEnd ve) ∷ Filemark ∷ more

abbrev pub rest_items : (s : Reached) → Rest s → List Item
rest_items at_front w = tape_items w
rest_items (labeled l) ps = Filemark ∷ flat_map part_items ps
rest_items (between t) ps = flat_map part_items ps
rest_items (in_part t h fs) (gs, e, ps) = part_rest gs e ps
rest_items (in_fragment t h fs v ds) (es, ve, gs, e, ps) = fragment_rest es ve (part_rest gs e ps)
rest_items (behind_fragment t h fs f) (gs, e, ps) = Filemark ∷ part_rest gs e ps
rest_items (behind_part t p) ps = Filemark ∷ flat_map part_items ps

-- it stands in this whole tape, behind which these items follow
pub record Stands (s : Reached) (w : Tape) (more : List Item) : Type 0 where
  pub rest : Rest s
  pub whole : whole_tape s rest ≡ w
  pub items : rest_items s rest ≡ more
