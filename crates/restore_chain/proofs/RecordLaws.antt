-- What a record of a tape is as a frame, by what was shown of it.
use Rattle.std.proofs.Common.{◌≡◌, ℕ, zero, suc, ◌≤◌, List, [], ◌∷◌, length, Option, Some, None, slice_get, refl, ◌∙◌, ap, subst, arith}
use Rattle.std.proofs.lemmas.Option.{slice_get_within}
use Rattle.plant_core.specs.declared.record.Kind.TheVariants.{Block, Mark, Bad}
use Rattle.plant_core.specs.Records.{Record, block_with, mark, bad, Shows, ShowsAt}
use Rattle.tape_frames.specs.declared.frame.Frame.{Frame}
use Rattle.tape_text.specs.Items.{Item, Says, ReadsAs, Read}
use Rattle.restore_chain.specs.Playing.{IsFrameOf, IsSaidAt}

-- a record says one thing
abbrev pub OneItem : Type 0
OneItem = (r : Record) (i j : Item) → ReadsAs r i → ReadsAs r j → i ≡ j

-- the item of a record
pub read_at : (tape : List Record) (items : List Item) (place : ℕ) (r : Record) → Read tape items → slice_get tape place ≡ Some r → (i : Item) × (slice_get items place ≡ Some i) × ReadsAs r i
read_at [] items place r read is = absurd (let lt = slice_get_within [] place r is in omega arith)
read_at (x ∷ xs) [] place r read is = absurd read
read_at (x ∷ xs) (i ∷ is) zero r read found = let e : x ≡ r = cc in (i, refl, subst (λ (y : Record). ReadsAs y i) e read.0)
read_at (x ∷ xs) (i ∷ is) (suc place) r read found = read_at xs is place r read.1 found

pub read_length : (tape : List Record) (items : List Item) → Read tape items → length items ≡ length tape
read_length [] [] read = refl
read_length [] (i ∷ is) read = absurd read
read_length (x ∷ xs) [] read = absurd read
read_length (x ∷ xs) (i ∷ is) read = ap suc (read_length xs is read.1)

-- a record that isn't there says no frame
pub none_past : (tape : List Record) (items : List Item) (place : ℕ) → Read tape items → length tape ≤ place → IsSaidAt items place None
none_past tape items place read past f is = absurd (let lt = slice_get_within items place (Says f) is in omega (arith, read_length tape items read))

same_some : (o : Option Item) (i j : Item) → o ≡ Some i → o ≡ Some j → i ≡ j
same_some o i j a b = cc

-- a block, and a mark or a bad record
block_said : OneItem → (bytes : List ℕ) (items : List Item) (place : ℕ) (found : Option Frame) → ((i : Item) × (slice_get items place ≡ Some i) × ReadsAs (block_with bytes) i) → IsFrameOf bytes found → IsSaidAt items place found
block_said one bytes items place (Some f) at is = at.1 ∙ ap Some (one (block_with bytes) at.0 (Says f) at.2 is)
block_said one bytes items place None at is = λ f said. let same : at.0 ≡ Says f = same_some (slice_get items place) at.0 (Says f) at.1 said in let reads : ReadsAs (block_with bytes) (Says f) = subst (ReadsAs (block_with bytes)) same at.2 in is (f, reads.0, reads.1)

other_said : (r : Record) → ((f : Frame) → ReadsAs r (Says f) → ⊥) → (items : List Item) (place : ℕ) → ((i : Item) × (slice_get items place ≡ Some i) × ReadsAs r i) → IsSaidAt items place None
other_said r never items place at f said = never f (subst (ReadsAs r) (same_some (slice_get items place) at.0 (Says f) at.1 said) at.2)

pub shown_block : OneItem → (tape : List Record) (items : List Item) (place : ℕ) (into : List ℕ) (found : Option Frame) → Read tape items → ShowsAt tape place Block into → IsFrameOf into found → IsSaidAt items place found
shown_block one tape items place into found read at is = by at.found refl at.shown
  where
    by : (r : Record) → at.found ≡ r → Shows r Block into → IsSaidAt items place found
    by (block_with bytes) same shown = block_said one bytes items place found (read_at tape items place (block_with bytes) read (at.is ∙ ap Some same)) (subst (λ (l : List ℕ). IsFrameOf l found) shown.1 is)
    by mark same shown = absurd (cc)
    by bad same shown = absurd (cc)

pub shown_mark : (tape : List Record) (items : List Item) (place : ℕ) (into : List ℕ) → Read tape items → ShowsAt tape place Mark into → IsSaidAt items place None
shown_mark tape items place into read at = by at.found refl at.shown
  where
    by : (r : Record) → at.found ≡ r → Shows r Mark into → IsSaidAt items place None
    by (block_with bytes) same shown = let no = shown.0 in absurd (cc)
    by mark same shown = other_said mark (λ f no. no) items place (read_at tape items place mark read (at.is ∙ ap Some same))
    by bad same shown = absurd (cc)

pub shown_bad : (tape : List Record) (items : List Item) (place : ℕ) (into : List ℕ) → Read tape items → ShowsAt tape place Bad into → IsSaidAt items place None
shown_bad tape items place into read at = by at.found refl at.shown
  where
    by : (r : Record) → at.found ≡ r → Shows r Bad into → IsSaidAt items place None
    by (block_with bytes) same shown = let no = shown.0 in absurd (cc)
    by mark same shown = absurd (cc)
    by bad same shown = other_said bad (λ f no. no) items place (read_at tape items place bad read (at.is ∙ ap Some same))
