-- What records say is one thing, and what is put is read.
use Rattle.std.proofs.Common.{◌≡◌, ◌↔◌, List, [], ◌∷◌, ◌++◌, refl, sym, ap, subst}
use Rattle.plant_core.specs.Records.{Record, block_with, mark, bad}
use Rattle.tape_frames.specs.declared.frame.Frame.{Frame}
use Rattle.tape_text.specs.Items.{Item, Says, Filemark, Nothing, ReadsAs, Read, record_for, IsFitItem}
use Rattle.tape_frames.specs.Frames.{Fits, spelling}

-- a block is that of at most one frame
abbrev pub OneFrame : Type 0
OneFrame = (f g : Frame) → Fits f → Fits g → spelling f ≡ spelling g → f ≡ g

pub same_item : OneFrame → (r : Record) (i j : Item) → ReadsAs r i → ReadsAs r j → i ≡ j
same_item one (block_with bytes) (Says f) (Says g) a b = ap Says (one f g a.0 b.0 (cc (a.1, b.1)))
same_item one (block_with bytes) (Says f) Filemark a b = absurd b
same_item one (block_with bytes) (Says f) Nothing a b = absurd (b (f, a.0, a.1))
same_item one (block_with bytes) Filemark j a b = absurd a
same_item one (block_with bytes) Nothing (Says g) a b = absurd (a (g, b.0, b.1))
same_item one (block_with bytes) Nothing Filemark a b = absurd b
same_item one (block_with bytes) Nothing Nothing a b = refl
same_item one mark (Says f) j a b = absurd a
same_item one mark Filemark (Says g) a b = absurd b
same_item one mark Filemark Filemark a b = refl
same_item one mark Filemark Nothing a b = absurd b
same_item one mark Nothing j a b = absurd a
same_item one bad (Says f) j a b = absurd a
same_item one bad Filemark j a b = absurd a
same_item one bad Nothing (Says g) a b = absurd b
same_item one bad Nothing Filemark a b = absurd b
same_item one bad Nothing Nothing a b = refl

pub reads_as_put : (i : Item) → IsFitItem i → ReadsAs (record_for i) i
reads_as_put (Says f) fit = (fit, refl)
reads_as_put Filemark fit = tt
reads_as_put Nothing fit = absurd fit

own_record : (r : Record) (i : Item) → IsFitItem i → ReadsAs r i → r ≡ record_for i
own_record (block_with bytes) (Says f) fit reads = ap block_with reads.1
own_record (block_with bytes) Filemark fit reads = absurd reads
own_record r Nothing fit reads = absurd fit
own_record mark (Says f) fit reads = absurd reads
own_record mark Filemark fit reads = refl
own_record bad (Says f) fit reads = absurd reads
own_record bad Filemark fit reads = absurd reads

pub by_its_record : (r : Record) (i : Item) → IsFitItem i → (ReadsAs r i ↔ (r ≡ record_for i))
by_its_record r i fit = (own_record r i fit, λ (is : r ≡ record_for i). subst (λ (x : Record). ReadsAs x i) (sym is) (reads_as_put i fit))

pub same_items : OneFrame → (rs : List Record) (is js : List Item) → Read rs is → Read rs js → is ≡ js
same_items one [] [] [] a b = refl
same_items one [] [] (j ∷ js) a b = absurd b
same_items one [] (i ∷ is) js a b = absurd a
same_items one (r ∷ rs) [] js a b = absurd a
same_items one (r ∷ rs) (i ∷ is) [] a b = absurd b
same_items one (r ∷ rs) (i ∷ is) (j ∷ js) a b =
    let first : i ≡ j = same_item one r i j a.0 b.0 in
    let rest : is ≡ js = same_items one rs is js a.1 b.1 in
    cc

pub read_append : (rs qs : List Record) (is js : List Item) → Read rs is → Read qs js → Read (rs ++ qs) (is ++ js)
read_append [] qs [] js read more = more
read_append [] qs (i ∷ is) js read more = absurd read
read_append (r ∷ rs) qs [] js read more = absurd read
read_append (r ∷ rs) qs (i ∷ is) js read more = (read.0, read_append rs qs is js read.1 more)
