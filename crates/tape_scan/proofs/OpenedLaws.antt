-- A tape text is a whole tape, and a front of one more part.
use Rattle.std.proofs.Common.{◌≡◌, ◌⊎◌, ◌≤◌, List, [], ◌∷◌, ◌++◌, length, take, drop, refl, sym, ap, subst, ◌∙◌, arith, inl, inr, append_assoc, append-nil, length-drop}
use Rattle.std.specs.Prelude.{All}
use Rattle.std.specs.List.{flat_map}
use Rattle.std.proofs.lemmas.List.{take-append-drop}
use Rattle.std.proofs.lemmas.List.Concat.{flat_map-append}
use Rattle.std.proofs.lemmas.List.Elements.{All-nil, All-cons, All-head, Contains-append_left}
use Rattle.tape_frames.specs.declared.frame.Frame.TheVariants as frames
use Rattle.tape_frames.specs.declared.label.LabelFields.{LabelFields}
use Rattle.tape_text.specs.Items.{Item, Says, Filemark, IsFitItem}
use Rattle.tape_text.specs.Texts.{Part, Tape, part_items, tape_items, Linked, NextPart, IsPart, AgreeInUses, IsTape, IsText}
use Rattle.tape_scan.specs.Scans.{with_part, IsOpened, IsTapeOpened}
use Rattle.tape_scan.proofs.ListLaws.{take_of_append, either, All_front, Linked_front}

cancel : (xs ys zs : List Item) → xs ++ ys ≡ xs ++ zs → ys ≡ zs
cancel [] ys zs same = same
cancel (x ∷ xs) ys zs same = (let rest : xs ++ ys ≡ xs ++ zs = cc in cancel xs ys zs rest)

take_front : (xs ys : List Item) → take (length xs) (xs ++ ys) ≡ xs
take_front [] ys = refl
take_front (x ∷ xs) ys = ap (λ (l : List Item). x ∷ l) (take_front xs ys)

-- of two ways to split a list the shorter front begins the longer one
longer_front : (xs ys us vs : List Item) → xs ++ ys ≡ us ++ vs → length xs ≤ length us → (us ≡ xs ++ drop (length xs) us) × (ys ≡ drop (length xs) us ++ vs)
longer_front xs ys us vs same le =
    let front : take (length xs) us ≡ xs = sym (take_of_append (length xs) us vs le) ∙ ap (λ (l : List Item). take (length xs) l) (sym same) ∙ take_front xs ys in
    let whole : us ≡ xs ++ drop (length xs) us = sym (take-append-drop (length xs) us) ∙ ap (λ (l : List Item). l ++ drop (length xs) us) front in
    (whole, cancel xs ys (drop (length xs) us ++ vs) (same ∙ ap (λ (l : List Item). l ++ vs) whole ∙ append_assoc xs (drop (length xs) us) vs))

some_item : (xs : List Item) → 1 ≤ length xs → (x : Item) × (more : List Item) × (xs ≡ x ∷ more)
some_item [] some = absurd (omega arith)
some_item (x ∷ xs) some = (x, xs, refl)

-- the parts that stand wholly in a front, and what it has of the next one
record Split (ps : List Part) (rest : List Item) : Type 0 where
  done : List Part
  left : List Part
  joined : ps ≡ done ++ left
  opened : List Item
  is : rest ≡ flat_map part_items done ++ opened
  next : (opened ≡ []) ⊎ ((p : Part) × (others : List Part) × (left ≡ p ∷ others) × IsOpened p opened)

split : (ps : List Part) (rest more : List Item) → flat_map part_items ps ≡ rest ++ more → Split ps rest
split [] [] more same = record { done = []; left = []; joined = refl; opened = []; is = refl; next = inl refl }
split [] (x ∷ rest) more same = absurd (cc)
split (p ∷ ps) rest more same = elim (either (length rest) (length (part_items p))) [
  | inl short ↦
      (let front = longer_front rest more (part_items p) (flat_map part_items ps) (sym same) (omega arith) in
      let next = some_item (drop (length rest) (part_items p)) (omega (arith, short, length-drop (length rest) (part_items p))) in
      record { done = []; left = p ∷ ps; joined = refl; opened = rest; is = refl; next = inr (p, ps, refl, record { next = next.0; more = next.1; joined = front.0 ∙ ap (λ (l : List Item). rest ++ l) next.2 }) })
  | inr long ↦
      (let front = longer_front (part_items p) (flat_map part_items ps) rest more same long in
      let later = split ps (drop (length (part_items p)) rest) more front.1 in
      record {
        done = p ∷ later.done;
        left = later.left;
        joined = ap (λ (l : List Part). p ∷ l) later.joined;
        opened = later.opened;
        is = front.0 ∙ ap (λ (l : List Item). part_items p ++ l) later.is ∙ sym (append_assoc (part_items p) (flat_map part_items later.done) later.opened);
        next = later.next;
      })
]

-- the first parts of a tape are a tape
first_parts : (t : Tape) (ps rest : List Part) → t.parts ≡ ps ++ rest → IsTape t → IsTape (record { label = t.label; parts = ps })
first_parts t ps rest same is =
    let items : tape_items t ≡ tape_items (record { label = t.label; parts = ps }) ++ flat_map part_items rest =
    ap (λ (l : List Item). Says (frames.Label t.label) ∷ Filemark ∷ l) (ap (λ (x : List Part). flat_map part_items x) same ∙ flat_map-append part_items ps rest) in
    let agree : AgreeInUses (ps ++ rest) = subst AgreeInUses same is.uses in record {
      fit = All_front IsFitItem (tape_items (record { label = t.label; parts = ps })) (flat_map part_items rest) (subst (All IsFitItem) items is.fit);
      none = λ zero_label. none_left ps rest (sym same ∙ is.none zero_label);
      each = All_front (IsPart t.label) ps rest (subst (All (IsPart t.label)) same is.each);
      linked = Linked_front NextPart ps rest (subst (Linked NextPart) same is.linked);
      uses = λ a b a_there b_there. agree a b (Contains-append_left ps rest a a_there) (Contains-append_left ps rest b b_there);
    }
  where
    none_left : (xs ys : List Part) → xs ++ ys ≡ [] → xs ≡ []
    none_left [] ys none = refl
    none_left (x ∷ xs) ys none = absurd (cc)

opened_by : (w : Tape) (rest : List Item) → IsTape w → Split w.parts rest → IsTapeOpened (Says (frames.Label w.label) ∷ Filemark ∷ rest)
opened_by w rest is s =
    let t : Tape = record { label = w.label; parts = s.done } in
    let items : Says (frames.Label w.label) ∷ Filemark ∷ rest ≡ tape_items t ++ s.opened = ap (λ (l : List Item). Says (frames.Label w.label) ∷ Filemark ∷ l) s.is in
    record {
      tape = t;
      is = first_parts w s.done s.left s.joined is;
      opened = s.opened;
      items_are = items;
      part = elim s.next [
        | inl none ↦ inl none
        | inr next ↦ inr (next.0, first_parts w (s.done ++ next.0 ∷ []) next.1 (s.joined ∙ ap (λ (l : List Part). s.done ++ l) next.2 ∙ sym (append_assoc s.done (next.0 ∷ []) next.1)) is, next.3)
      ];
    }

-- A text is empty, a label alone, or a whole tape with a front of one more part.
pub text_opened : (items : List Item) → IsText items → (items ≡ []) ⊎ (((l : LabelFields) × IsFitItem (Says (frames.Label l)) × (items ≡ Says (frames.Label l) ∷ [])) ⊎ IsTapeOpened items)
text_opened [] text = inl refl
text_opened (x ∷ []) text = (let joined : tape_items text.whole ≡ x ∷ text.more = text.joined in inr (inl (text.whole.label, All-head IsFitItem (Says (frames.Label text.whole.label)) (Filemark ∷ flat_map part_items text.whole.parts) text.is.fit, (let first : x ≡ Says (frames.Label text.whole.label) = cc in ap (λ (i : Item). i ∷ []) first))))
text_opened (x ∷ y ∷ rest) text =
    let joined : tape_items text.whole ≡ x ∷ y ∷ (rest ++ text.more) = text.joined in
    let first : Says (frames.Label text.whole.label) ≡ x = cc in
    let second : Filemark ≡ y = cc in
    let behind : flat_map part_items text.whole.parts ≡ rest ++ text.more = cc in
    let both : Says (frames.Label text.whole.label) ∷ Filemark ∷ rest ≡ x ∷ y ∷ rest = cc in
    inr (inr (subst IsTapeOpened both (opened_by text.whole rest text.is (split text.whole.parts rest text.more behind))))

-- and each such list of items is a text
pub opened_text : (items : List Item) → IsTapeOpened items → IsText items
opened_text items o = elim o.part [
  | inl none ↦ record {
    whole = o.tape;
    more = [];
    is = o.is;
    joined = sym (append-nil (tape_items o.tape)) ∙ ap (λ (l : List Item). l ++ []) (sym (append-nil (tape_items o.tape)) ∙ ap (λ (l : List Item). tape_items o.tape ++ l) (sym none) ∙ sym o.items_are);
  }
  | inr p ↦ record {
    whole = with_part o.tape p.0;
    more = p.2.next ∷ p.2.more;
    is = p.1;
    joined =
        ap (λ (l : List Item). Says (frames.Label o.tape.label) ∷ Filemark ∷ l) (flat_map-append part_items o.tape.parts (p.0 ∷ []) ∙ ap (λ (l : List Item). flat_map part_items o.tape.parts ++ l) (append-nil (part_items p.0)))
        ∙ ap (λ (l : List Item). tape_items o.tape ++ l) p.2.joined ∙ sym (append_assoc (tape_items o.tape) o.opened (p.2.next ∷ p.2.more)) ∙ ap (λ (l : List Item). l ++ p.2.next ∷ p.2.more) (sym o.items_are);
  }
]

-- a label that fits makes a tape without parts
pub label_tape : (l : LabelFields) → IsFitItem (Says (frames.Label l)) → IsTape (record { label = l; parts = [] })
label_tape l fit = record {
  fit = All-cons IsFitItem (Says (frames.Label l)) (Filemark ∷ []) fit (All-cons IsFitItem Filemark [] tt (All-nil IsFitItem));
  none = λ zero_label. refl;
  each = All-nil (IsPart l);
  linked = tt;
  uses = λ a b there. absurd (omega (arith, there.1));
}

pub label_text : (l : LabelFields) → IsFitItem (Says (frames.Label l)) → IsText (Says (frames.Label l) ∷ [])
label_text l fit = record { whole = record { label = l; parts = [] }; more = Filemark ∷ []; is = label_tape l fit; joined = refl }

abbrev no_label : LabelFields
no_label = record { initial = 0; tape = 0; afs = []; permanent = [] }

pub nothing_text : IsText []
nothing_text =
    let fit : IsFitItem (Says (frames.Label no_label)) = record { initial = omega arith; tape = omega arith; afs = inr refl; permanent = inr refl; carries = inl (refl, refl) } in
    record { whole = record { label = no_label; parts = [] }; more = tape_items (record { label = no_label; parts = [] }); is = label_tape no_label fit; joined = refl }
