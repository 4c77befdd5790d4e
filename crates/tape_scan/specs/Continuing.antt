-- Tests of whether a record continues a text, by where a scan stands in it.
use Rattle.std.specs.Prelude.{ℕ, ◌+◌, Bool, true, false, not, ◌&&◌, ◌||◌, ◌==◌, nat_le, nat_lt, if◌then◌else◌, Option, Some, None, List}
use Rattle.std.specs.Ordering.{nat_cmp, is_lt}
use Rattle.std.specs.Cmp.Lexicographic.{slice_cmp}
use Rattle.bk_text.specs.Blanks.{is_same_text}
use Rattle.tape_frames.specs.declared.frame.Frame.TheVariants as frames
use Rattle.tape_frames.specs.declared.dump_head.DumpHeadFields.{DumpHeadFields}
use Rattle.tape_frames.specs.declared.vol_head.VolHeadFields.{VolHeadFields}
use Rattle.tape_frames.specs.declared.data.DataFields.{DataFields}
use Rattle.tape_frames.specs.declared.vol_end.VolEndFields.{VolEndFields}
use Rattle.tape_frames.specs.declared.dump_end.DumpEndFields.{DumpEndFields}
use Rattle.tape_frames.specs.TapeNames.{numbered}
use Rattle.tape_text.specs.Items as items
use Rattle.tape_text.specs.Items.{Item}
use Rattle.tape_scan.specs.declared.sections.FragFound.{FragFound}
use Rattle.tape_scan.specs.declared.sections.PartFound.{PartFound}
use Rattle.tape_scan.specs.declared.scanning_walk.TapeSoFar.{TapeSoFar}
use Rattle.tape_scan.specs.declared.scanning_walk.PartSoFar.{PartSoFar}
use Rattle.tape_scan.specs.declared.scanning_walk.FragmentSoFar.{FragmentSoFar}
use Rattle.tape_scan.specs.declared.scanning_walk.Walk.{Walk}
use Rattle.tape_scan.specs.declared.scanning_walk.Walk.TheVariants.{Nothing, Labeled, Between, InPart, InFragment, BehindFragment, BehindPart}
use Rattle.tape_scan.specs.Steps.{last_of, is_last, ends_last}

-- one name stands before another in byte order
abbrev pub is_before : List ℕ → List ℕ → Bool
is_before a b = is_lt (slice_cmp nat_cmp a b)

-- behind a volume's end comes the next volume, whose name is greater
abbrev pub is_next_volume : VolHeadFields → VolHeadFields → Bool
is_next_volume a b = (b.index == a.index + 1) && ((b.fragment == 1) && is_before a.name b.name)

-- Behind a part that ends its dump comes part 1 of a dump with a greater id; behind the label comes any part.
abbrev pub head_behind : Option PartFound → DumpHeadFields → Bool
head_behind None h = true
head_behind (Some p) h = not p.more && (nat_lt p.head.id h.id && (h.part == 1))

unfoldable pub opens_part : TapeSoFar → DumpHeadFields → Bool
opens_part t h =
    (h.initial == t.label.initial) && ((h.tape == t.label.tape) && (is_same_text t.label.afs (numbered h.base h.tape)
    && (((h.uses == 0) || is_same_text h.permanent t.label.permanent) && (((h.uses == 0) || ((t.uses == 0) || (h.uses == t.uses))) && head_behind (last_of t.parts) h))))

-- Part 1 of a dump begins with fragment 1 of volume 0; behind a fragment that ends its volume comes the next volume.
abbrev pub fragment_behind : ℕ → Option FragFound → VolHeadFields → Bool
fragment_behind part None v = not (part == 1) || ((v.index == 0) && (v.fragment == 1))
fragment_behind part (Some f) v = is_last f.last && is_next_volume f.head v

unfoldable pub opens_fragment : PartSoFar → VolHeadFields → Bool
opens_fragment p v = (v.dump == p.head.id) && (nat_lt v.index p.head.volumes && fragment_behind p.head.part (last_of p.frags) v)

unfoldable pub adds_piece : FragmentSoFar → DataFields → Bool
adds_piece f d = (d.dump == f.head.dump) && ((d.index == f.head.index) && (f.full && nat_le (f.bytes + d.used) 4294967295))

unfoldable pub ends_fragment : FragmentSoFar → VolEndFields → Bool
ends_fragment f e =
    f.some && ((f.full || (e.last == 1)) && ((e.dump == f.head.dump) && ((e.index == f.head.index) && ((e.fragment == f.head.fragment) && (e.bytes == f.bytes)))))

-- A part's end tells 0 more where the last fragment ends the last of so many volumes, else 1; there is a fragment.
abbrev pub end_behind : ℕ → Option FragFound → DumpEndFields → Bool
end_behind volumes None e = false
end_behind volumes (Some f) e = e.more == (if ends_last volumes f then 0 else 1)

unfoldable pub ends_part : PartSoFar → DumpEndFields → Bool
ends_part p e = (e.dump == p.head.id) && end_behind p.head.volumes (last_of p.frags) e

-- this record continues a text in which a scan stands here
abbrev pub continues : Walk → Item → Bool
continues Nothing (items.Says (frames.Label l)) = true
continues (Labeled l) items.Filemark = true
continues (Between t) (items.Says (frames.DumpHead h)) = opens_part t h
continues (InPart t p) (items.Says (frames.VolHead v)) = opens_fragment p v
continues (InPart t p) (items.Says (frames.DumpEnd e)) = ends_part p e
continues (InFragment t p f) (items.Says (frames.Data d)) = adds_piece f d
continues (InFragment t p f) (items.Says (frames.VolEnd e)) = ends_fragment f e
continues (BehindFragment t p) items.Filemark = true
continues (BehindPart t p more) items.Filemark = true
continues w i = false
