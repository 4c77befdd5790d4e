-- What is counted of records, one after the other.
use Rattle.std.proofs.Common.{zero, suc, ◌≡◌, ℕ, ◌+◌, Bool, true, false, List, [], ◌∷◌, ◌++◌, length, take, refl, sym, ◌∙◌, ap, subst, arith}
use Rattle.std.specs.Prelude.{Option, Some, slice_get, ◌==◌, if◌then◌else◌}
use Rattle.std.specs.List.{count_by}
use Rattle.std.proofs.lemmas.Bool.{eqb-true}
use Rattle.std.proofs.lemmas.Option.{slice_get_within, get_or_from_slice_get}
use Rattle.std.proofs.lemmas.List.Sums.{count_by_more_yes, count_by_more_no}
use Rattle.plant_core.specs.declared.record.Kind.{Kind}
use Rattle.plant_core.specs.declared.record.Kind.TheVariants.{Block}
use Rattle.plant_core.specs.Records.{Record, block_with, mark, bad, Shows}
use Rattle.tape_frames.specs.declared.dump_head.DumpHeadFields.{DumpHeadFields}
use Rattle.tape_frames.specs.declared.frame.Frame.{Frame}
use Rattle.tape_frames.specs.declared.frame.Frame.TheVariants as frames
use Rattle.tape_frames.specs.Layouts.{FitsDumpHead}
use Rattle.tape_frames.specs.Blocks.{dump_head_block}
use Rattle.tape_frames.specs.Frames.{Fits, spelling}
use Rattle.tape_text.specs.Items.{Item, Says, Filemark, Nothing, ReadsAs, Read}
use Rattle.tape_writer.specs.Filling.{uses_in}
use Rattle.archive_model.specs.Holding.{is_so, is_head_frame}
use Rattle.tape_choice.specs.Reads.{frame_of}
use Rattle.tape_choice.specs.Append.{is_mark, uses_told}
use Rattle.tape_choice.specs.Surveys.{survey_of, with_item, is_head_in}

-- ---- lists of records and of items

pub read_length : (tape : List Record) (items : List Item) → Read tape items → length tape ≡ length items
read_length [] [] read = refl
read_length [] (i ∷ is) read = absurd read
read_length (r ∷ rs) [] read = absurd read
read_length (r ∷ rs) (i ∷ is) read = ap suc (read_length rs is read.1)

pub record ReadAt (items : List Item) (n : ℕ) (r : Record) : Type 0 where
  pub item : Item
  pub at : slice_get items n ≡ Some item
  pub reads : ReadsAs r item

pub read_at : (tape : List Record) (items : List Item) (n : ℕ) (r : Record) → Read tape items → slice_get tape n ≡ Some r → ReadAt items n r
read_at [] items n r read at = absurd (cc)
read_at (q ∷ rs) [] n r read at = absurd read
read_at (q ∷ rs) (i ∷ is) zero r read at =
    let same : q ≡ r = cc in
    record { item = i; at = refl; reads = subst (λ (x : Record). ReadsAs x i) same read.0 }
read_at (q ∷ rs) (i ∷ is) (suc n) r read at =
    let rest = read_at rs is n r read.1 at in
    record { item = rest.item; at = rest.at; reads = rest.reads }

take_one : {X : Type 0} (xs : List X) (n : ℕ) (x : X) → slice_get xs n ≡ Some x → take (suc n) xs ≡ take n xs ++ x ∷ []
take_one [] n x at = absurd (cc)
take_one (y ∷ ys) zero x at = let same : y ≡ x = cc in ap (λ z. z ∷ []) same
take_one (y ∷ ys) (suc n) x at = ap (λ zs. y ∷ zs) (take_one ys n x at)

-- ---- one item more

marks_more : (items : List Item) (n : ℕ) (i : Item) → slice_get items n ≡ Some i → count_by is_mark (take (n + 1) items) ≡ (if is_mark i then count_by is_mark (take n items) + 1 else count_by is_mark (take n items))
marks_more items n i at = go (is_mark i) refl
  where
    go : (a : Bool) → is_mark i ≡ a → count_by is_mark (take (n + 1) items) ≡ (if is_mark i then count_by is_mark (take n items) + 1 else count_by is_mark (take n items))
    go true e = rw e (count_by_more_yes is_mark items n i (slice_get_within items n i at) (ap is_mark (get_or_from_slice_get items n i i at) ∙ e))
    go false e = rw e (count_by_more_no is_mark items n i (slice_get_within items n i at) (ap is_mark (get_or_from_slice_get items n i i at) ∙ e))

one_use : (i : Item) → uses_told (i ∷ []) ≡ uses_in i
one_use i = go (uses_in i == 0) refl
  where
    go : (a : Bool) → (uses_in i == 0) ≡ a → uses_told (i ∷ []) ≡ uses_in i
    go true e = rw e (sym (eqb-true (uses_in i) 0 e))
    go false e = rw e refl

uses_more : (items : List Item) (i : Item) → uses_told (items ++ i ∷ []) ≡ (if uses_told items == 0 then uses_in i else uses_told items)
uses_more [] i = one_use i
uses_more (x ∷ xs) i = go (uses_in x == 0) refl (uses_more xs i)
  where
    go : (a : Bool) → (uses_in x == 0) ≡ a → uses_told (xs ++ i ∷ []) ≡ (if uses_told xs == 0 then uses_in i else uses_told xs) → uses_told ((x ∷ xs) ++ i ∷ []) ≡ (if uses_told (x ∷ xs) == 0 then uses_in i else uses_told (x ∷ xs))
    go true e again = rw e again
    go false e again = rw e (rw e refl)

pub survey_more : (items : List Item) (n : ℕ) (i : Item) → slice_get items n ≡ Some i → with_item (survey_of (take n items)) i ≡ survey_of (take (n + 1) items)
survey_more items n i at =
    let one : n + 1 ≡ suc n = omega arith in
    let uses : uses_told (take (n + 1) items) ≡ (if uses_told (take n items) == 0 then uses_in i else uses_told (take n items)) = ap (λ (m : ℕ). uses_told (take m items)) one ∙ ap uses_told (take_one items n i at) ∙ uses_more (take n items) i in
    let marks = marks_more items n i at in
    sym (λ j. record { marks = marks j; uses = uses j })

-- ---- what a record shows

-- the uses of a frame, by those of its block
frame_uses : ((f g : Frame) → Fits f → Fits g → spelling f ≡ spelling g → f ≡ g) → (uses : ℕ) (bytes : List ℕ)
    → ((a : DumpHeadFields) → FitsDumpHead a → bytes ≡ dump_head_block a → uses ≡ a.uses) → (((a : DumpHeadFields) → FitsDumpHead a → bytes ≡ dump_head_block a → ⊥) → uses ≡ 0)
    → (f : Frame) → Fits f → bytes ≡ spelling f → uses ≡ uses_in (Says f)
frame_uses one uses bytes head other (frames.DumpHead a) fits is = head a fits is
frame_uses one uses bytes head other (frames.Label a) fits is = other (λ h fine same. let e = one (frames.DumpHead h) (frames.Label a) fine fits (sym same ∙ is) in cc)
frame_uses one uses bytes head other (frames.VolHead a) fits is = other (λ h fine same. let e = one (frames.DumpHead h) (frames.VolHead a) fine fits (sym same ∙ is) in cc)
frame_uses one uses bytes head other (frames.Data a) fits is = other (λ h fine same. let e = one (frames.DumpHead h) (frames.Data a) fine fits (sym same ∙ is) in cc)
frame_uses one uses bytes head other (frames.VolEnd a) fits is = other (λ h fine same. let e = one (frames.DumpHead h) (frames.VolEnd a) fine fits (sym same ∙ is) in cc)
frame_uses one uses bytes head other (frames.DumpEnd a) fits is = other (λ h fine same. let e = one (frames.DumpHead h) (frames.DumpEnd a) fine fits (sym same ∙ is) in cc)

pub block_uses : ((f g : Frame) → Fits f → Fits g → spelling f ≡ spelling g → f ≡ g) → (uses : ℕ) (into : List ℕ)
    → ((a : DumpHeadFields) → FitsDumpHead a → into ≡ dump_head_block a → uses ≡ a.uses) → (((a : DumpHeadFields) → FitsDumpHead a → into ≡ dump_head_block a → ⊥) → uses ≡ 0)
    → (r : Record) (i : Item) (kind : Kind) → Shows r kind into → ReadsAs r i → kind ≡ Block → uses ≡ uses_in i
block_uses one uses into head other (block_with bytes) (Says f) kind shows reads is = frame_uses one uses into head other f reads.0 (shows.1 ∙ reads.1)
block_uses one uses into head other (block_with bytes) Filemark kind shows reads is = absurd reads
block_uses one uses into head other (block_with bytes) Nothing kind shows reads is = other (λ a fits same. reads (frames.DumpHead a, fits, sym shows.1 ∙ same))
block_uses one uses into head other mark i kind shows reads is = absurd (cc)
block_uses one uses into head other bad i kind shows reads is = absurd (cc)

-- ---- heads and labels

head_of_frame : (id tape : ℕ) (i : Item) → is_head_in id tape (frame_of i) ≡ is_so (is_head_frame id tape) (Some i)
head_of_frame id tape (Says f) = refl
head_of_frame id tape Filemark = refl
head_of_frame id tape Nothing = refl

pub block_head : (id tape : ℕ) (frame : Option Frame) (into : List ℕ) → ((j : Item) → ReadsAs (block_with into) j → frame ≡ frame_of j)
    → (r : Record) (i : Item) (kind : Kind) → Shows r kind into → ReadsAs r i → kind ≡ Block → is_head_in id tape frame ≡ is_so (is_head_frame id tape) (Some i)
block_head id tape frame into said (block_with bytes) i kind shows reads is =
    ap (is_head_in id tape) (said i (subst (λ (b : List ℕ). ReadsAs (block_with b) i) (sym shows.1) reads)) ∙ head_of_frame id tape i
block_head id tape frame into said mark i kind shows reads is = absurd (cc)
block_head id tape frame into said bad i kind shows reads is = absurd (cc)

pub other_head : (id tape : ℕ) (r : Record) (i : Item) (kind : Kind) (into : List ℕ) → Shows r kind into → ReadsAs r i → (kind ≡ Block → ⊥) → false ≡ is_so (is_head_frame id tape) (Some i)
other_head id tape (block_with bytes) i kind into shows reads is = absurd (is shows.0)
other_head id tape mark (Says f) kind into shows reads is = absurd reads
other_head id tape mark Filemark kind into shows reads is = refl
other_head id tape mark Nothing kind into shows reads is = absurd reads
other_head id tape bad (Says f) kind into shows reads is = absurd reads
other_head id tape bad Filemark kind into shows reads is = absurd reads
other_head id tape bad Nothing kind into shows reads is = refl
