-- The tests of a scan's steps tell exactly which records continue a text.
use Rattle.std.proofs.Common.{◌≡◌, ◌≢◌, ◌⊎◌, ℕ, ◌+◌, ◌<◌, ◌≤◌, true, false, List}
use Rattle.std.specs.Prelude.{if◌then◌else◌, Option, Some, None}
use Rattle.std.specs.Bool.{Decides}
use Rattle.std.specs.Ordering.{nat_cmp}
use Rattle.std.specs.Cmp.Lexicographic.{slice_cmp}
use Rattle.std.proofs.lemmas.Bool.Decides.{Decides-eqb, Decides-like, Decides-and, Decides-or, Decides-ltb}
use Rattle.tape_frames.specs.declared.frame.Frame.TheVariants as frames
use Rattle.tape_frames.specs.declared.dump_head.DumpHeadFields.{DumpHeadFields}
use Rattle.tape_frames.specs.declared.vol_head.VolHeadFields.{VolHeadFields}
use Rattle.tape_frames.specs.declared.data.DataFields.{DataFields}
use Rattle.tape_frames.specs.declared.vol_end.VolEndFields.{VolEndFields}
use Rattle.tape_frames.specs.declared.dump_end.DumpEndFields.{DumpEndFields}
use Rattle.tape_frames.specs.TapeNames.{numbered}
use Rattle.tape_text.specs.Items as items
use Rattle.tape_text.specs.Items.{Item}
use Rattle.tape_text.specs.Texts.{IsBefore, NextVolume}
use Rattle.tape_scan.specs.declared.sections.FragFound.{FragFound}
use Rattle.tape_scan.specs.declared.sections.PartFound.{PartFound}
use Rattle.tape_scan.specs.declared.scanning_walk.TapeSoFar.{TapeSoFar}
use Rattle.tape_scan.specs.declared.scanning_walk.PartSoFar.{PartSoFar}
use Rattle.tape_scan.specs.declared.scanning_walk.FragmentSoFar.{FragmentSoFar}
use Rattle.tape_scan.specs.declared.scanning_walk.Walk.{Walk}
use Rattle.tape_scan.specs.declared.scanning_walk.Walk.TheVariants.{Nothing, Labeled, Between, InPart, InFragment, BehindFragment, BehindPart}
use Rattle.tape_scan.specs.Steps.{last_of, is_last, ends_last, HeadBehind, OpensPart, FragmentBehind, OpensFragment, AddsPiece, EndsFragment, EndBehind, EndsPart, Continues}
use Rattle.tape_scan.specs.Continuing.{is_before, is_next_volume, head_behind, opens_part, fragment_behind, opens_fragment, adds_piece, ends_fragment, end_behind, ends_part, continues}
use Rattle.tape_scan.proofs.Deciding.{upto, is_itself, is_off, never, always, where_same, where_other, same_text, less_there}

before : (a b : List ℕ) → Decides (is_before a b) (IsBefore a b)
before a b = less_there (slice_cmp nat_cmp a b)

pub next_volume : (a b : VolHeadFields) → Decides (is_next_volume a b) (NextVolume a b)
next_volume a b = Decides-like _ (λ (p : (b.index ≡ a.index + 1) × ((b.fragment ≡ 1) × IsBefore a.name b.name)). (p.0, p.1.0, p.1.1)) (λ q. (q.0, (q.1, q.2)))
    (Decides-and _ _ (Decides-eqb b.index (a.index + 1)) (Decides-and _ _ (Decides-eqb b.fragment 1) (before a.name b.name)))

head_next : (o : Option PartFound) (h : DumpHeadFields) → Decides (head_behind o h) (HeadBehind o h)
head_next None h = always tt
head_next (Some p) h = Decides-like _ (λ (q : (p.more ≡ false) × ((p.head.id < h.id) × (h.part ≡ 1))). (q.0, q.1.0, q.1.1)) (λ q. (q.0, (q.1, q.2)))
    (Decides-and _ _ (is_off p.more) (Decides-and _ _ (Decides-ltb p.head.id h.id) (Decides-eqb h.part 1)))

part_opened : (t : TapeSoFar) (h : DumpHeadFields) → Decides (opens_part t h) (OpensPart t h)
unfolding opens_part
part_opened t h = Decides-like _
    (λ (p : (h.initial ≡ t.label.initial) × ((h.tape ≡ t.label.tape) × ((t.label.afs ≡ numbered h.base h.tape) × ((h.uses ≢ 0 → h.permanent ≡ t.label.permanent) × ((h.uses ≢ 0 → t.uses ≢ 0 → h.uses ≡ t.uses) × HeadBehind (last_of t.parts) h))))).
    record { initial = p.0; tape = p.1.0; name = p.1.1.0; permanent = p.1.1.1.0; uses = p.1.1.1.1.0; next = p.1.1.1.1.1 })
    (λ o. (o.initial, (o.tape, (o.name, (o.permanent, (o.uses, o.next))))))
    (Decides-and _ _ (Decides-eqb h.initial t.label.initial) (Decides-and _ _ (Decides-eqb h.tape t.label.tape) (Decides-and _ _ (same_text t.label.afs (numbered h.base h.tape))
    (Decides-and _ _ (where_other h.uses 0 _ (same_text h.permanent t.label.permanent)) (Decides-and _ _ (where_other h.uses 0 _ (where_other t.uses 0 _ (Decides-eqb h.uses t.uses))) (head_next (last_of t.parts) h))))))

fragment_next : (part : ℕ) (o : Option FragFound) (v : VolHeadFields) → Decides (fragment_behind part o v) (FragmentBehind part o v)
fragment_next part None v = where_same part 1 _ (Decides-and _ _ (Decides-eqb v.index 0) (Decides-eqb v.fragment 1))
fragment_next part (Some f) v = Decides-and _ _ (is_itself (is_last f.last)) (next_volume f.head v)

fragment_opened : (p : PartSoFar) (v : VolHeadFields) → Decides (opens_fragment p v) (OpensFragment p v)
unfolding opens_fragment
fragment_opened p v = Decides-like _
    (λ (q : (v.dump ≡ p.head.id) × ((v.index < p.head.volumes) × FragmentBehind p.head.part (last_of p.frags) v)). record { dump = q.0; index = q.1.0; next = q.1.1 })
    (λ o. (o.dump, (o.index, o.next)))
    (Decides-and _ _ (Decides-eqb v.dump p.head.id) (Decides-and _ _ (Decides-ltb v.index p.head.volumes) (fragment_next p.head.part (last_of p.frags) v)))

piece_added : (f : FragmentSoFar) (d : DataFields) → Decides (adds_piece f d) (AddsPiece f d)
unfolding adds_piece
piece_added f d = Decides-like _
    (λ (p : (d.dump ≡ f.head.dump) × ((d.index ≡ f.head.index) × ((f.full ≡ true) × (f.bytes + d.used ≤ 4294967295)))). record { dump = p.0; index = p.1.0; full = p.1.1.0; bytes = p.1.1.1 })
    (λ a. (a.dump, (a.index, (a.full, a.bytes))))
    (Decides-and _ _ (Decides-eqb d.dump f.head.dump) (Decides-and _ _ (Decides-eqb d.index f.head.index) (Decides-and _ _ (is_itself f.full) (upto (f.bytes + d.used) 4294967295))))

fragment_ended : (f : FragmentSoFar) (e : VolEndFields) → Decides (ends_fragment f e) (EndsFragment f e)
unfolding ends_fragment
fragment_ended f e = Decides-like _
    (λ (p : (f.some ≡ true) × (((f.full ≡ true) ⊎ (e.last ≡ 1)) × ((e.dump ≡ f.head.dump) × ((e.index ≡ f.head.index) × ((e.fragment ≡ f.head.fragment) × (e.bytes ≡ f.bytes)))))).
    record { some = p.0; filled = p.1.0; dump = p.1.1.0; index = p.1.1.1.0; fragment = p.1.1.1.1.0; bytes = p.1.1.1.1.1 })
    (λ n. (n.some, (n.filled, (n.dump, (n.index, (n.fragment, n.bytes))))))
    (Decides-and _ _ (is_itself f.some) (Decides-and _ _ (Decides-or _ _ (is_itself f.full) (Decides-eqb e.last 1)) (Decides-and _ _ (Decides-eqb e.dump f.head.dump) (Decides-and _ _ (Decides-eqb e.index f.head.index)
    (Decides-and _ _ (Decides-eqb e.fragment f.head.fragment) (Decides-eqb e.bytes f.bytes))))))

end_next : (volumes : ℕ) (o : Option FragFound) (e : DumpEndFields) → Decides (end_behind volumes o e) (EndBehind volumes o e)
end_next volumes None e = never (λ no. no)
end_next volumes (Some f) e = Decides-eqb e.more (if ends_last volumes f then 0 else 1)

part_ended : (p : PartSoFar) (e : DumpEndFields) → Decides (ends_part p e) (EndsPart p e)
unfolding ends_part
part_ended p e = Decides-like _
    (λ (q : (e.dump ≡ p.head.id) × EndBehind p.head.volumes (last_of p.frags) e). record { dump = q.0; more = q.1 })
    (λ n. (n.dump, n.more))
    (Decides-and _ _ (Decides-eqb e.dump p.head.id) (end_next p.head.volumes (last_of p.frags) e))

pub goes : (walk : Walk) (item : Item) → Decides (continues walk item) (Continues walk item)
goes Nothing (items.Says (frames.Label l)) = always tt
goes (Labeled l) items.Filemark = always tt
goes (Between t) (items.Says (frames.DumpHead h)) = part_opened t h
goes (InPart t p) (items.Says (frames.VolHead v)) = fragment_opened p v
goes (InPart t p) (items.Says (frames.DumpEnd e)) = part_ended p e
goes (InFragment t p f) (items.Says (frames.Data d)) = piece_added f d
goes (InFragment t p f) (items.Says (frames.VolEnd e)) = fragment_ended f e
goes (BehindFragment t p) items.Filemark = always tt
goes (BehindPart t p more) items.Filemark = always tt
goes walk item = never (λ no. no)
