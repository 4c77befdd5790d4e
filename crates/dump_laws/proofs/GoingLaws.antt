-- What stays as it is when items are put on the tape in hand.
use Rattle.std.proofs.Common.{◌≡◌, ℕ, ◌≤◌, false, Some, List, [], ◌∷◌, ◌++◌, refl, sym, ap, subst, ◌∙◌, arith, inl, inr, append_assoc, append-nil, length-append}
use Rattle.std.specs.Prelude.{◌==◌, Option, All, slice_get}
use Rattle.std.specs.List.{flat_map}
use Rattle.std.proofs.lemmas.Bool.{eqb-true, cases_Bool}
use Rattle.std.proofs.lemmas.List.Elements.{All-nil, All-cons}
use Rattle.tape_frames.specs.declared.frame.Frame.{Frame}
use Rattle.tape_frames.specs.declared.frame.Frame.TheVariants as frames
use Rattle.tape_frames.specs.declared.data.DataFields.{DataFields}
use Rattle.tape_frames.specs.declared.dump_head.DumpHeadFields.{DumpHeadFields}
use Rattle.tape_frames.specs.declared.vol_head.VolHeadFields.{VolHeadFields}
use Rattle.tape_frames.specs.declared.vol_end.VolEndFields.{VolEndFields}
use Rattle.budb_changes.specs.declared.records.DumpRecordFields.{DumpRecordFields}
use Rattle.plant_core.specs.Crashes.{State}
use Rattle.plant_core.specs.Effects.{puts, comes, come}
use Rattle.tape_text.specs.Items.{Item, Says, Filemark, record_for, IsFitItem}
use Rattle.tape_text.specs.Texts.{Fragment, fragment_items, tape_items, IsOf, NextFragment}
use Rattle.tape_scan.specs.Slots.{Slot, Located}
use Rattle.tape_writer.specs.Puts.{puts_on}
use Rattle.tape_writer.proofs.Standing.{stands}
use Rattle.archive_model.specs.Archives.{Archive}
use Rattle.archive_model.specs.Settled.{HoldsSettled}
use Rattle.archive_model.specs.Turns.{with_slot, IsWithinPart}
use Rattle.archive_model.proofs.GrowLaws.{frames_hold}
use Rattle.archive_model.proofs.JobLaws.{slot_with, with_same}
use Rattle.dump_job.specs.declared.fields.Hand.{Hand}
use Rattle.dump_job.specs.declared.fields.JobFields.{JobFields}
use Rattle.dump_job.specs.declared.fields.Phase.{Phase}
use Rattle.dump_job.specs.Reels.{with_more}
use Rattle.dump_laws.specs.Neighbours.{LastIs}
use Rattle.dump_laws.specs.Made.{Made, opening_items, part_begun, items_begun, MayBegin, MayCome}
use Rattle.dump_laws.specs.Writing.{FragmentsFit, VolumesFit}
use Rattle.dump_laws.specs.Running.{basis_of, Goes, IsOpen}
use Rattle.dump_laws.proofs.NeighbourLaws.{first_more, all_more, linked_more, ends_last, flat_more}
use Rattle.dump_laws.proofs.OwnLaws.{IsNoHead, own_put, all_closed_elsewhere}
use Rattle.dump_laws.proofs.StreamLaws.{with_fragment}

-- ---- a frame within a part

with_its_items : (s : State) (a : Archive) (records : List DumpRecordFields) (k : ℕ) (t : Slot) → slice_get a.slots k ≡ Some t → HoldsSettled s a records → HoldsSettled s (with_slot a k t.items) records
with_its_items s a records k t at held = subst (λ (l : List Slot). HoldsSettled s (record { log = a.log; slots = l; contents = a.contents }) records) (sym (with_same k a.slots t at)) held

pub frame_put_holds : (s : State) (a : Archive) (records : List DumpRecordFields) → HoldsSettled s a records → (k : ℕ) (t : Slot) → slice_get a.slots k ≡ Some t → (f : Frame) → IsFitItem (Says f) → IsWithinPart (Says f)
    → HoldsSettled (comes (puts k (record_for (Says f))) s) (with_slot a k (t.items ++ Says f ∷ [])) records
frame_put_holds s a records held k t at f fit within =
    (frames_hold s a records k t at t.items (Says f ∷ []) (All-cons IsWithinPart (Says f) [] within (All-nil IsWithinPart)) (All-cons IsFitItem (Says f) [] fit (All-nil IsFitItem)) (with_its_items s a records k t at held)).1

-- ---- what is settled elsewhere

pub other_settled : (k j : ℕ) (items : List Item) (s : State) → (j ≡ k → ⊥) → (come (puts_on k items) s).settled j ≡ s.settled j
other_settled k j items s other =
    let unlike : (j == k) ≡ false = elim (cases_Bool (j == k)) [
      | inl same ↦ absurd (other (eqb-true j k same))
      | inr miss ↦ miss
    ] in
    (stands k items s).settled j ∙ rw unlike refl

-- ---- what is so at every step

pub goes_put : (s : State) (a : Archive) (records : List DumpRecordFields) (j : JobFields) (m : Made) → Goes s a records j m → (t : Slot) (items : List Item) → slice_get a.slots j.reel.slot ≡ Some t
    → (blocks marks : ℕ) (hand : Option Hand) (p : Phase) (fs : List Fragment) (ps : List DataFields)
    → HoldsSettled (come (puts_on j.reel.slot items) s) (with_slot a j.reel.slot (t.items ++ items)) records → VolumesFit a.contents (basis_of j) j.volumes (record m { fragments = fs; pieces = ps })
    → Goes (come (puts_on j.reel.slot items) s) (with_slot a j.reel.slot (t.items ++ items)) records (record j { reel = with_more blocks marks j.reel; hand = hand; phase = p }) (record m { fragments = fs; pieces = ps })
goes_put s a records j m g t items at blocks marks hand p fs ps held volumes = record {
  held = held;
  new = g.new;
  parent = g.parent;
  ended = g.ended;
  filled = g.filled;
  closed = all_closed_elsewhere j.reel.slot (t.items ++ items) a.slots m.ended g.apart g.closed;
  settled = λ l there. subst (λ (n : ℕ). l.found.end ≤ n) (sym (other_settled j.reel.slot l.slot items s (g.apart l there))) (g.settled l there);
  apart = g.apart;
  count = g.count;
  volumes = volumes;
}

-- ---- the tape in hand

begun_more : (h : DumpHeadFields) (m : Made) (opened more : List Item) → items_begun h m opened ++ more ≡ items_begun h m (opened ++ more)
begun_more h m opened more =
    append_assoc (tape_items m.front) (part_begun h m.fragments opened) more ∙ ap (λ (l : List Item). tape_items m.front ++ l) (append_assoc (Says (frames.DumpHead h) ∷ flat_map fragment_items m.fragments) opened more)

-- a frame more
pub open_put : (a : Archive) (j : JobFields) (m : Made) (opened : List Item) (o : IsOpen a j m opened) (f : Frame) → IsNoHead (Says f) → (hand : Option Hand) (p : Phase) (ps : List DataFields)
    → IsOpen (with_slot a j.reel.slot (o.slot.items ++ Says f ∷ [])) (record j { reel = with_more 1 0 j.reel; hand = hand; phase = p }) (record m { pieces = ps }) (opened ++ Says f ∷ [])
open_put a j m opened o f none hand p ps = record {
  slot = record o.slot { items = o.slot.items ++ Says f ∷ [] };
  at = slot_with j.reel.slot (o.slot.items ++ Says f ∷ []) a.slots o.slot o.at;
  items = ap (λ (l : List Item). l ++ Says f ∷ []) o.items ∙ begun_more j.head m opened (Says f ∷ []);
  front = o.front;
  first = o.first;
  marks = omega (arith, o.marks);
  count = omega (arith, o.count, length-append o.slot.items (Says f ∷ []));
  fragments = o.fragments;
  own = own_put a.slots m.ended j.head.id j.reel.slot j.first j.reel.slot o.slot (Says f ∷ []) o.at (All-cons IsNoHead (Says f) [] none (All-nil IsNoHead)) o.own;
}

-- the end of a fragment and a filemark
ended_shape : (head : VolHeadFields) (pieces : List DataFields) (e : VolEndFields) → opening_items head pieces ++ Says (frames.VolEnd e) ∷ Filemark ∷ [] ≡ fragment_items (record { head = head; pieces = pieces; end = e })
ended_shape head pieces e = sym (append_assoc (opening_items head pieces) (Says (frames.VolEnd e) ∷ []) (Filemark ∷ []))

begun_ended : (h : DumpHeadFields) (m : Made) (f : Fragment) → items_begun h m (fragment_items f) ≡ items_begun h (with_fragment m f) []
begun_ended h m f =
    let tape : List Item = tape_items m.front in
    ap (λ (l : List Item). tape ++ (Says (frames.DumpHead h) ∷ l)) (sym (flat_more fragment_items m.fragments f) ∙ sym (append-nil (flat_map fragment_items (m.fragments ++ f ∷ []))))

end_no_head : (e : VolEndFields) → All IsNoHead (Says (frames.VolEnd e) ∷ Filemark ∷ [])
end_no_head e = All-cons IsNoHead (Says (frames.VolEnd e)) (Filemark ∷ []) (λ h same. absurd (cc)) (All-cons IsNoHead Filemark [] (λ h same. absurd (cc)) (All-nil IsNoHead))

pub open_ended : (a : Archive) (j : JobFields) (m : Made) (head : VolHeadFields) (e : VolEndFields) (o : IsOpen a j m (opening_items head m.pieces)) (p : Phase) → FragmentsFit j.head.id j.head.volumes m.ended (m.fragments ++ record { head = head; pieces = m.pieces; end = e } ∷ [])
    → IsOpen (with_slot a j.reel.slot (o.slot.items ++ Says (frames.VolEnd e) ∷ Filemark ∷ [])) (record j { reel = with_more 1 1 j.reel; phase = p }) (with_fragment m (record { head = head; pieces = m.pieces; end = e })) []
open_ended a j m head e o p fit =
    let f : Fragment = record { head = head; pieces = m.pieces; end = e } in
    let ends : List Item = Says (frames.VolEnd e) ∷ Filemark ∷ [] in
    record {
      slot = record o.slot { items = o.slot.items ++ ends };
      at = slot_with j.reel.slot (o.slot.items ++ ends) a.slots o.slot o.at;
      items = ap (λ (l : List Item). l ++ ends) o.items ∙ begun_more j.head m (opening_items head m.pieces) ends ∙ ap (items_begun j.head m) (ended_shape head m.pieces e) ∙ begun_ended j.head m f;
      front = o.front;
      first = o.first;
      marks = omega (arith, o.marks, length-append m.fragments (f ∷ []));
      count = omega (arith, o.count, length-append o.slot.items ends);
      fragments = fit;
      own = own_put a.slots m.ended j.head.id j.reel.slot j.first j.reel.slot o.slot ends o.at (end_no_head e) o.own;
    }

-- ---- the fragments of the part in hand

come_begin : (ended : List Located) (fs : List Fragment) (head : VolHeadFields) → MayCome ended fs head → fs ≡ [] → MayBegin ended head
come_begin ended [] head comes none = comes
come_begin ended (f ∷ fs) head comes none = absurd (cc)

come_last : (ended : List Located) (fs : List Fragment) (f : Fragment) → MayCome ended fs f.head → LastIs (λ g. NextFragment g f) fs
come_last ended [] f comes = tt
come_last ended (g ∷ fs) f comes = ends_last (λ x. NextFragment x f) (g ∷ fs) comes

pub fragments_more : (id volumes : ℕ) (ended : List Located) (fs : List Fragment) (f : Fragment) → FragmentsFit id volumes ended fs → MayCome ended fs f.head → IsOf id volumes f → FragmentsFit id volumes ended (fs ++ f ∷ [])
fragments_more id volumes ended fs f fit comes is = record {
  begins = first_more (λ g. MayBegin ended g.head) fs f fit.begins (come_begin ended fs f.head comes);
  each = all_more (IsOf id volumes) fs f fit.each is;
  linked = linked_more NextFragment fs f fit.linked (come_last ended fs f comes);
}
