-- What a dump puts behind the part in hand leaves all other dumps on its tape.
use Rattle.std.proofs.Common.{◌≡◌, ℕ, Some, List, [], ◌∷◌, ◌++◌, map, sym, subst, ◌∙◌, append_assoc}
use Rattle.std.specs.List.{flat_map}
use Rattle.tape_frames.specs.declared.data.DataFields.{DataFields}
use Rattle.tape_frames.specs.declared.dump_head.DumpHeadFields.{DumpHeadFields}
use Rattle.tape_frames.specs.declared.frame.Frame.TheVariants as frames
use Rattle.tape_text.specs.Items.{Item, Says, Filemark}
use Rattle.tape_text.specs.Texts.{Fragment, data_item, fragment_items}
use Rattle.tape_scan.specs.Slots.{Slot}
use Rattle.archive_model.specs.Archives.{Archive}
use Rattle.archive_model.specs.Holding.{HasNoHead}
use Rattle.archive_model.specs.Turns.{with_items}
use Rattle.archive_model.proofs.ExampleLaws.{with_twice}
use Rattle.saved_archives.specs.Since.{AreSince, OtherThan}
use Rattle.saved_archives.proofs.SinceLaws.{no_head_both}
use Rattle.saved_archives.proofs.CutLaws.{on_since}
use Rattle.dump_job.specs.declared.fields.JobFields.{JobFields}
use Rattle.dump_laws.specs.Made.{Made, part_begun}
use Rattle.dump_laws.specs.Running.{IsOpen}
use Rattle.dump_laws.proofs.PutLaws.{AreOwn}

pub pieces_none : (id : ℕ) (pieces : List DataFields) (more : List Item) → HasNoHead id more → HasNoHead id (map data_item pieces ++ more)
pieces_none id [] more none = none
pieces_none id (p ∷ pieces) more none = pieces_none id pieces more none

pub only_pieces_none : (id : ℕ) (pieces : List DataFields) → HasNoHead id (map data_item pieces)
only_pieces_none id [] = tt
only_pieces_none id (p ∷ pieces) = only_pieces_none id pieces

fragment_none : (id : ℕ) (f : Fragment) → HasNoHead id (fragment_items f)
fragment_none id f = no_head_both id (map data_item f.pieces ++ Says (frames.VolEnd f.end) ∷ []) (Filemark ∷ []) (pieces_none id f.pieces (Says (frames.VolEnd f.end) ∷ []) tt) tt

fragments_none : (id : ℕ) (fs : List Fragment) → HasNoHead id (flat_map fragment_items fs)
fragments_none id [] = tt
fragments_none id (f ∷ fs) = no_head_both id (fragment_items f) (flat_map fragment_items fs) (fragment_none id f) (fragments_none id fs)

part_own : (id : ℕ) (h : DumpHeadFields) (fs : List Fragment) (opened : List Item) → (h.id ≡ id → ⊥) → HasNoHead id opened → HasNoHead id (part_begun h fs opened)
part_own id h fs opened other none = (other, no_head_both id (flat_map fragment_items fs) opened (fragments_none id fs) none)

module _ (a : Archive) (j : JobFields) (m : Made) (opened : List Item) (o : IsOpen a j m opened) (own : ℕ) (same : own ≡ j.head.id) (none : (id : ℕ) → HasNoHead id opened) where
  pub open_since : (more : List Item) → AreOwn own more → AreSince (OtherThan own) a.slots (with_items j.reel.slot (o.slot.items ++ more) a.slots)
  open_since more owns =
      on_since (OtherThan own) a.slots j.reel.slot o.slot o.at m.front (part_begun j.head m.fragments opened) more o.items
      (λ id other. no_head_both id (part_begun j.head m.fragments opened) more (part_own id j.head m.fragments opened (λ head. other (sym head ∙ sym same)) (none id)) (owns id other))

  -- put in two steps
  pub twice_since : (first next : List Item) → AreOwn own (first ++ next) → AreSince (OtherThan own) a.slots (with_items j.reel.slot ((o.slot.items ++ first) ++ next) (with_items j.reel.slot (o.slot.items ++ first) a.slots))
  twice_since first next owns =
      subst (λ (l : List Slot). AreSince (OtherThan own) a.slots l) (sym (with_twice j.reel.slot ((o.slot.items ++ first) ++ next) (o.slot.items ++ first) a.slots))
      (subst (λ (l : List Item). AreSince (OtherThan own) a.slots (with_items j.reel.slot l a.slots)) (sym (append_assoc o.slot.items first next)) (open_since (first ++ next) owns))
