-- What the records of a tape say, and the uses that they tell.
use Rattle.std.proofs.Common.{◌≡◌, ◌≢◌, ℕ, zero, suc, ◌<◌, Option, Some, None, List, [], ◌∷◌, length, refl, sym, ◌∙◌, ap, subst, arith}
use Rattle.std.specs.Prelude.{slice_get, slice_index_or}
use Rattle.plant_core.specs.declared.record.Kind.{Kind}
use Rattle.plant_core.specs.declared.record.Kind.TheVariants.{Block}
use Rattle.plant_core.specs.Records.{Record, block_with, mark, bad, Shows}
use Rattle.tape_frames.specs.declared.frame.Frame.{Frame}
use Rattle.tape_frames.specs.declared.frame.Frame.TheVariants as frames
use Rattle.tape_frames.specs.declared.dump_head.DumpHeadFields.{DumpHeadFields}
use Rattle.tape_frames.specs.Blocks.{dump_head_block}
use Rattle.tape_frames.specs.Frames.{Fits, spelling}
use Rattle.tape_frames.specs.Layouts.{FitsDumpHead}
use Rattle.tape_text.specs.Items.{Item, Says, Filemark, Nothing, ReadsAs, Read}
use Rattle.tape_writer.specs.Filling.{uses_in}
use Rattle.dump_job.specs.declared.fields.JobFields.{JobFields}
use Rattle.dump_job.specs.declared.fields.Phase.{Phase}
use Rattle.dump_job.specs.declared.fields.Reel.{Reel}
use Rattle.dump_job.specs.Taping.{head_with, reel_begun, head_at, phase_begun, taped}

pub read_length : (tape : List Record) (items : List Item) → Read tape items → length items ≡ length tape
read_length [] [] read = refl
read_length [] (i ∷ is) read = absurd read
read_length (r ∷ rs) [] read = absurd read
read_length (r ∷ rs) (i ∷ is) read = omega (arith, read_length rs is read.1)

pub item_at : (tape : List Record) (items : List Item) (i : ℕ) (r : Record) → Read tape items → slice_get tape i ≡ Some r → ReadsAs r (slice_index_or items i Nothing)
item_at [] [] i r read is = absurd (cc)
item_at [] (y ∷ ys) i r read is = absurd read
item_at (x ∷ xs) [] i r read is = absurd read
item_at (x ∷ xs) (y ∷ ys) zero r read is = let e : x ≡ r = cc in subst (λ (q : Record). ReadsAs q y) e read.0
item_at (x ∷ xs) (y ∷ ys) (suc i) r read is = item_at xs ys i r read.1 is

pub past_two : (items : List Item) → length items < 3 → slice_index_or items 2 Nothing ≡ Nothing
past_two [] few = refl
past_two (a ∷ []) few = refl
past_two (a ∷ b ∷ []) few = refl
past_two (a ∷ b ∷ d ∷ is) few = absurd (omega arith)

abbrev OneFrame : Type 0
OneFrame = (f g : Frame) → Fits f → Fits g → spelling f ≡ spelling g → f ≡ g

pub block_uses : (bytes : List ℕ) (uses : ℕ) (i : Item) → ((a : DumpHeadFields) → FitsDumpHead a → bytes ≡ dump_head_block a → uses ≡ a.uses)
    → (((a : DumpHeadFields) → FitsDumpHead a → bytes ≡ dump_head_block a → ⊥) → uses ≡ 0) → OneFrame → ReadsAs (block_with bytes) i → uses ≡ uses_in i
block_uses bytes uses (Says (frames.Label l)) head other one reads = other (λ a fits is. let e = one (frames.Label l) (frames.DumpHead a) reads.0 fits (sym reads.1 ∙ is) in absurd (cc))
block_uses bytes uses (Says (frames.DumpHead h)) head other one reads = head h reads.0 reads.1
block_uses bytes uses (Says (frames.VolHead l)) head other one reads = other (λ a fits is. let e = one (frames.VolHead l) (frames.DumpHead a) reads.0 fits (sym reads.1 ∙ is) in absurd (cc))
block_uses bytes uses (Says (frames.Data l)) head other one reads = other (λ a fits is. let e = one (frames.Data l) (frames.DumpHead a) reads.0 fits (sym reads.1 ∙ is) in absurd (cc))
block_uses bytes uses (Says (frames.VolEnd l)) head other one reads = other (λ a fits is. let e = one (frames.VolEnd l) (frames.DumpHead a) reads.0 fits (sym reads.1 ∙ is) in absurd (cc))
block_uses bytes uses (Says (frames.DumpEnd l)) head other one reads = other (λ a fits is. let e = one (frames.DumpEnd l) (frames.DumpHead a) reads.0 fits (sym reads.1 ∙ is) in absurd (cc))
block_uses bytes uses Filemark head other one reads = absurd reads
block_uses bytes uses Nothing head other one reads = other (λ a fits is. reads (frames.DumpHead a, fits, is))

pub shown_block : (r : Record) (into : List ℕ) → Shows r Block into → r ≡ block_with into
shown_block (block_with bytes) into shown = ap block_with (sym shown.1)
shown_block mark into shown = absurd (cc)
shown_block bad into shown = absurd (cc)

pub shown_other : (r : Record) (kind : Kind) (into : List ℕ) (i : Item) → Shows r kind into → kind ≢ Block → ReadsAs r i → 0 ≡ uses_in i
shown_other (block_with bytes) kind into i shown never reads = absurd (never shown.0)
shown_other mark kind into (Says f) shown never reads = absurd reads
shown_other mark kind into Filemark shown never reads = refl
shown_other mark kind into Nothing shown never reads = absurd reads
shown_other bad kind into (Says f) shown never reads = absurd reads
shown_other bad kind into Filemark shown never reads = absurd reads
shown_other bad kind into Nothing shown never reads = refl

-- what the tape step makes of a job, part by part
pub taped_is : (j : JobFields) (uses : ℕ) (head : DumpHeadFields) (spare : Option DumpHeadFields) (reel : Reel) (first : ℕ) (phase : Phase)
    → head ≡ head_with uses j.head → spare ≡ None → reel ≡ reel_begun j.label j.reel → first ≡ head_at j.label j.reel → phase ≡ phase_begun j.hand
    → record j { head = head; spare = spare; reel = reel; first = first; phase = phase } ≡ taped uses j
taped_is j uses head spare reel first phase a b d e f = cc
