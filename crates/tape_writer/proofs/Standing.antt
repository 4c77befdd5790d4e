-- What is put stands behind what stood there, and is read.
use Rattle.std.proofs.Common.{◌≡◌, ◌↔◌, ℕ, ◌+◌, ◌*◌, ◌≤◌, Bool, true, false, List, [], ◌∷◌, ◌++◌, length, map, refl, sym, ap, subst, ◌∙◌, arith, append_assoc, append-nil, length-append}
use Rattle.std.specs.Prelude.{◌==◌, if◌then◌else◌, All}
use Rattle.std.proofs.lemmas.Bool.Decides.{nat_tests}
use Rattle.std.proofs.lemmas.List.Elements.{All-head, All-tail}
use Rattle.plant_core.specs.Crashes.{State, Alike}
use Rattle.plant_core.specs.Effects.{come}
use Rattle.plant_core.specs.Records.{Record, mark}
use Rattle.plant_effects.proofs.States.{alike_both}
use Rattle.tape_config.specs.declared.port.PortFields.{PortFields}
use Rattle.tape_frames.specs.declared.data.DataFields.{DataFields}
use Rattle.tape_frames.specs.declared.frame.Frame.{Frame}
use Rattle.tape_frames.specs.declared.label.LabelFields.{LabelFields}
use Rattle.tape_text.specs.Items.{Item, Says, Filemark, Nothing, Read, record_for, IsFitItem}
use Rattle.tape_text.specs.Texts.{Fragment, Part}
use Rattle.tape_text.proofs.ItemLaws.{reads_as_put, read_append}
use Rattle.tape_writer.specs.Puts.{put_on, puts_on, settled_by, with_items}
use Rattle.tape_writer.specs.Filling.{taken, Stays}

-- ---- the state

tape_nil : (b : Bool) (tape : List Record) → tape ≡ (if b then tape ++ [] else tape)
tape_nil true tape = sym (append-nil tape)
tape_nil false tape = refl

same_if : (b : Bool) (n : ℕ) → n ≡ (if b then n else n)
same_if true n = refl
same_if false n = refl

-- a record, and then others
tape_more : (b : Bool) (tape rest : List Record) (r : Record) → (if b then (if b then tape ++ r ∷ [] else tape) ++ rest else (if b then tape ++ r ∷ [] else tape)) ≡ (if b then tape ++ r ∷ rest else tape)
tape_more true tape rest r = append_assoc tape (r ∷ []) rest
tape_more false tape rest r = refl

settled_more : (b : Bool) (tape : List Record) (r : Record) (settled : ℕ) (is : List Item) → (if b then settled_by (length (if b then tape ++ r ∷ [] else tape)) settled is else settled) ≡ (if b then settled_by (length tape + 1) settled is else settled)
settled_more true tape r settled is = ap (λ (n : ℕ). settled_by n settled is) (length-append tape (r ∷ []))
settled_more false tape r settled is = refl

settled_all : (b : Bool) (tape : List Record) (r : Record) (settled : ℕ) (is : List Item)
    → (if b then settled_by (length (if b then tape ++ r ∷ [] else tape)) (if b then length (if b then tape ++ r ∷ [] else tape) else settled) is else (if b then length (if b then tape ++ r ∷ [] else tape) else settled))
    ≡ (if b then settled_by (length tape + 1) (length tape + 1) is else settled)
settled_all true tape r settled is = ap (λ (n : ℕ). settled_by n n is) (length-append tape (r ∷ []))
settled_all false tape r settled is = refl

frame_then : (k : ℕ) (f : Frame) (is : List Item) (s : State) → Alike (with_items k (Says f ∷ is) s) (with_items k is (come (put_on k (Says f)) s))
frame_then k f is s = record {
  log = refl;
  tape = λ j. tape_more (j == k) (s.tape j) (map record_for is) (record_for (Says f));
  told = refl;
  log_settled = refl;
  settled = λ j. settled_more (j == k) (s.tape j) (record_for (Says f)) (s.settled j) is;
}

filemark_then : (k : ℕ) (is : List Item) (s : State) → Alike (with_items k (Filemark ∷ is) s) (with_items k is (come (put_on k Filemark) s))
filemark_then k is s = record {
  log = refl;
  tape = λ j. tape_more (j == k) (s.tape j) (map record_for is) mark;
  told = refl;
  log_settled = refl;
  settled = λ j. settled_all (j == k) (s.tape j) mark (s.settled j) is;
}

nothing_then : (k : ℕ) (is : List Item) (s : State) → Alike (with_items k (Nothing ∷ is) s) (with_items k is (come (put_on k Nothing) s))
nothing_then k is s = record {
  log = refl;
  tape = λ j. tape_more (j == k) (s.tape j) (map record_for is) (record_for Nothing);
  told = refl;
  log_settled = refl;
  settled = λ j. settled_more (j == k) (s.tape j) (record_for Nothing) (s.settled j) is;
}

pub stands : (k : ℕ) (items : List Item) (s : State) → Alike (with_items k items s) (come (puts_on k items) s)
unfolding puts_on
stands k [] s = record { log = refl; tape = λ j. tape_nil (j == k) (s.tape j); told = refl; log_settled = refl; settled = λ j. same_if (j == k) (s.settled j) }
stands k (Says f ∷ is) s = let mid = come (put_on k (Says f)) s in alike_both (with_items k (Says f ∷ is) s) (with_items k is mid) (come (puts_on k is) mid) (frame_then k f is s) (stands k is mid)
stands k (Filemark ∷ is) s = let mid = come (put_on k Filemark) s in alike_both (with_items k (Filemark ∷ is) s) (with_items k is mid) (come (puts_on k is) mid) (filemark_then k is s) (stands k is mid)
stands k (Nothing ∷ is) s = let mid = come (put_on k Nothing) s in alike_both (with_items k (Nothing ∷ is) s) (with_items k is mid) (come (puts_on k is) mid) (nothing_then k is s) (stands k is mid)

-- ---- the items

if_here : (k : ℕ) (x y : List Record) → (if k == k then x else y) ≡ x
if_here k x y = grind (arith, nat_tests)

all_read : (items : List Item) → All IsFitItem items → Read (map record_for items) items
all_read [] fit = tt
all_read (i ∷ is) fit = (reads_as_put i (All-head IsFitItem i is fit), all_read is (All-tail IsFitItem i is fit))

pub reads_put : (k : ℕ) (items before : List Item) (s : State) → All IsFitItem items → Read (s.tape k) before → Read ((come (puts_on k items) s).tape k) (before ++ items)
reads_put k items before s fit read =
    let is : (come (puts_on k items) s).tape k ≡ s.tape k ++ map record_for items = (stands k items s).tape k ∙ if_here k (s.tape k ++ map record_for items) (s.tape k) in
    subst (λ (tape : List Record). Read tape (before ++ items)) (sym is) (read_append (s.tape k) (map record_for items) before items read (all_read items fit))

-- ---- the smallest part

pub smallest : (port : PortFields) (label : LabelFields) (old : List Item) (p : Part) (f : Fragment) (d : DataFields) → p.fragments ≡ f ∷ [] → f.pieces ≡ d ∷ [] → Stays port (taken label old) p ↔ (6 * 16384 + 3 * port.filemark ≤ port.capacity)
smallest port label old p f d one piece = rw (one, piece) (λ h. omega arith, λ h. omega arith)
