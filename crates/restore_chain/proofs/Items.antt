-- What records say, and what is shown of them.
use Rattle.std.proofs.Common.{◌≡◌, ℕ, Bool, true, Option, Some, None, List, [], ◌∷◌, refl, sym, ap, ◌∙◌}
use Rattle.std.specs.Prelude.{slice_get, ◌&&◌}
use Rattle.plant_core.specs.declared.record.Kind.{Kind}
use Rattle.plant_core.specs.Records.{Record, block_with, ShowsFirst, Shows}
use Rattle.tape_frames.specs.declared.frame.Frame.{Frame}
use Rattle.tape_frames.specs.Frames.{IsSpelled}
use Rattle.tape_text.specs.Items.{Item, Says, Filemark, Nothing, ReadsAs, Read}
use Rattle.budb_changes.specs.declared.records.TapePart.{TapePart}
use Rattle.budb_changes.specs.declared.records.DumpRecordFields.{DumpRecordFields}
use Rattle.archive_model.specs.Holding.{place_of, is_so, is_label_frame, is_head_frame, holds_at, holds}
use Rattle.restore_chain.specs.Planning.{frame_of, is_frame}
use Rattle.restore_chain.specs.Playing.{IsSaidAt}

-- a block that spells no frame says none
pub spells_none : (bytes : List ℕ) (i : Item) → (IsSpelled bytes → ⊥) → ReadsAs (block_with bytes) i → None ≡ frame_of (Some i)
spells_none bytes (Says f) none reads = absurd (none (f, reads.0, reads.1))
spells_none bytes Filemark none reads = absurd reads
spells_none bytes Nothing none reads = refl

-- what is shown of the first record is what its item says
pub shown_first : (rs : List Record) (is : List Item) (kind : Kind) (into : List ℕ) (frame : Option Frame) → Read rs is → ShowsFirst rs (Some kind) into
    → ((r : Record) (i : Item) → Shows r kind into → ReadsAs r i → frame ≡ frame_of (Some i)) → frame ≡ frame_of (slice_get is 0)
shown_first [] is kind into frame read shown says = absurd (cc)
shown_first (r ∷ rs) [] kind into frame read shown says = absurd read
shown_first (r ∷ rs) (i ∷ is) kind into frame read (k, (same, shows)) says = says r i (let e : k ≡ kind = cc in rw (← e) shows) read.0

pub shown_none : (rs : List Record) (is : List Item) (into : List ℕ) → Read rs is → ShowsFirst rs None into → None ≡ frame_of (slice_get is 0)
shown_none [] [] into read shown = refl
shown_none [] (i ∷ is) into read shown = absurd read
shown_none (r ∷ rs) is into read (k, (same, shows)) = absurd (cc)

-- a test of the frame that an item says
pub so_is : (test : Frame → Bool) (o : Option Item) (frame : Option Frame) → frame ≡ frame_of o → is_frame test frame ≡ is_so test o
so_is test o frame is = ap (is_frame test) is ∙ of_item o
  where
    of_item : (o : Option Item) → is_frame test (frame_of o) ≡ is_so test o
    of_item None = refl
    of_item (Some (Says f)) = refl
    of_item (Some Filemark) = refl
    of_item (Some Nothing) = refl

-- what a record is as a frame is what its item says
pub said_frame : (items : List Item) (place : ℕ) (frame : Option Frame) → IsSaidAt items place frame → frame ≡ frame_of (slice_get items place)
said_frame items place (Some f) said = sym (ap frame_of said)
said_frame items place None said = of_item (slice_get items place) said
  where
    of_item : (o : Option Item) → ((f : Frame) → o ≡ Some (Says f) → ⊥) → None ≡ frame_of o
    of_item None none = refl
    of_item (Some (Says f)) none = absurd (none f refl)
    of_item (Some Filemark) none = refl
    of_item (Some Nothing) none = refl

-- a slot holds a tape by its label and its head
pub holds_by : (d : DumpRecordFields) (tape : ℕ) (items : List Item) (p : TapePart) (initial id : ℕ) (label head : Bool) → place_of d tape ≡ Some p → initial ≡ d.initial → id ≡ d.id
    → label ≡ is_so (is_label_frame initial tape) (slice_get items 0) → label ≡ true → head ≡ is_so (is_head_frame id tape) (slice_get items p.first) → head ≡ holds d tape items
holds_by d tape items p initial id label head place same_initial same_id label_is hit head_is =
    let labeled : is_so (is_label_frame d.initial tape) (slice_get items 0) ≡ true = ap (λ (n : ℕ). is_so (is_label_frame n tape) (slice_get items 0)) (sym same_initial) ∙ sym label_is ∙ hit in
    let headed : head ≡ is_so (is_head_frame d.id tape) (slice_get items p.first) = head_is ∙ ap (λ (n : ℕ). is_so (is_head_frame n tape) (slice_get items p.first)) same_id in
    headed ∙ sym (ap (λ (o : Option TapePart). holds_at o d tape items) place ∙ ap (λ (b : Bool). b && is_so (is_head_frame d.id tape) (slice_get items p.first)) labeled)
