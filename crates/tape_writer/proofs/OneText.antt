-- What a dump puts on its tapes is one thing.
use Rattle.std.proofs.Common.{◌≡◌, inr, ℕ, ◌≤◌, Option, Some, None, List, [], ◌∷◌, ◌++◌, map, refl, sym, subst, append-nil, append_assoc}
use Rattle.std.specs.Prelude.{All}
use Rattle.std.specs.List.{flat_map}
use Rattle.std.proofs.lemmas.List.Elements.{All-nil, All-cons, All-head, All-tail}
use Rattle.tape_config.specs.declared.port.PortFields.{PortFields}
use Rattle.tape_frames.specs.declared.data.DataFields.{DataFields}
use Rattle.tape_frames.specs.declared.frame.Frame.TheVariants as frames
use Rattle.tape_frames.specs.Layouts.{FitsData}
use Rattle.tape_text.specs.Items.{Item, Says, Filemark, IsFitItem}
use Rattle.tape_text.specs.Texts.{Fragment, Part, data_item, fragment_items, Linked, NextFragment, Begins}
use Rattle.tape_text.specs.Wholes.{GoesOn, Ends, NextTape, EndsWhole}
use Rattle.tape_writer.specs.Filling.{Start, Dumping, AreOn, AreFull}

-- ---- lists

pub Begins_map : (P Q : Fragment → Type 0) → ((f : Fragment) → P f → Q f) → (fs : List Fragment) → Begins P fs → Begins Q fs
Begins_map P Q turn [] is = absurd is
Begins_map P Q turn (f ∷ fs) is = turn f is

Begins_more : (P : Fragment → Type 0) (fs gs : List Fragment) → Begins P fs → Begins P (fs ++ gs)
Begins_more P [] gs is = absurd is
Begins_more P (f ∷ fs) gs is = is

pub Ends_map : (P Q : Fragment → Type 0) → ((f : Fragment) → P f → Q f) → (fs : List Fragment) → Ends P fs → Ends Q fs
Ends_map P Q turn [] is = absurd is
Ends_map P Q turn (f ∷ []) is = turn f is
Ends_map P Q turn (f ∷ g ∷ fs) is = Ends_map P Q turn (g ∷ fs) is

pub last_of : List Fragment → Option Fragment
last_of [] = None
last_of (f ∷ []) = Some f
last_of (f ∷ g ∷ fs) = last_of (g ∷ fs)

pub Ends_last : (P : Fragment → Type 0) (fs : List Fragment) → Ends P fs → (f : Fragment) × (last_of fs ≡ Some f) × P f
unfolding last_of
Ends_last P [] is = absurd is
Ends_last P (f ∷ []) is = (f, refl, is)
Ends_last P (f ∷ g ∷ fs) is = Ends_last P (g ∷ fs) is

pub some_same : (f g : Fragment) → Some f ≡ Some g → f ≡ g
some_same f g same = cc

All_map_items : (ds : List DataFields) (rest : List Item) → All IsFitItem (map data_item ds ++ rest) → All FitsData ds × All IsFitItem rest
All_map_items [] rest fit = (All-nil FitsData, fit)
All_map_items (d ∷ ds) rest fit =
    let more = All_map_items ds rest (All-tail IsFitItem (data_item d) (map data_item ds ++ rest) fit) in
    (All-cons FitsData d ds (All-head IsFitItem (data_item d) (map data_item ds ++ rest) fit) more.0, more.1)

-- ---- the fragments of parts

abbrev pub fragments_in : List Part → List Fragment
fragments_in ps = flat_map (λ p. p.fragments) ps

inside_goes : (fs : List Fragment) → Linked NextFragment fs → Linked GoesOn fs
inside_goes [] linked = tt
inside_goes (f ∷ []) linked = tt
inside_goes (f ∷ g ∷ fs) linked = (inr linked.0, inside_goes (g ∷ fs) linked.1)

join : (fs gs : List Fragment) → Linked GoesOn fs → Linked GoesOn gs → Ends (λ f. Begins (λ g. GoesOn f g) gs) fs → Linked GoesOn (fs ++ gs)
join [] gs one two is = absurd is
join (f ∷ []) [] one two is = absurd is
join (f ∷ []) (g ∷ gs) one two is = (is, two)
join (f ∷ h ∷ fs) gs one two is = (one.0, join (h ∷ fs) gs one.1 two is)

-- the parts of a dump that are left, on their tapes
pub record Run (port : PortFields) (name : List ℕ) (volumes : List Dumping) (starts : List Start) (ps : List Part) : Type 0 where
  pub on : AreOn port name starts ps
  pub full : AreFull port starts ps
  pub linked : Linked NextTape ps
  pub ends : EndsWhole ps

pub all_linked : (port : PortFields) (name : List ℕ) (starts : List Start) (ps : List Part) → AreOn port name starts ps → Linked NextTape ps → Linked GoesOn (fragments_in ps)
all_linked port name [] [] on linked = tt
all_linked port name [] (p ∷ ps) on linked = absurd on
all_linked port name (s ∷ ss) [] on linked = absurd on
all_linked port name (s ∷ ss) (p ∷ []) on linked = subst (Linked GoesOn) (sym (append-nil p.fragments)) (inside_goes p.fragments on.0.part.linked)
all_linked port name (s ∷ ss) (p ∷ q ∷ ps) on linked = join p.fragments (fragments_in (q ∷ ps)) (inside_goes p.fragments on.0.part.linked) (all_linked port name ss (q ∷ ps) on.1 linked.1)
    (Ends_map (λ (f : Fragment). Begins (λ (g : Fragment). GoesOn f g) q.fragments) (λ (f : Fragment). Begins (λ (g : Fragment). GoesOn f g) (fragments_in (q ∷ ps)))
    (λ f is. Begins_more (λ (g : Fragment). GoesOn f g) q.fragments (fragments_in ps) is) p.fragments linked.0.goes_on)

-- what fits of a part's fragments
pub fit_fragments : (fs : List Fragment) (rest : List Item) → All IsFitItem (flat_map fragment_items fs ++ rest) → All (λ f. All FitsData f.pieces × (f.end.last ≤ 1)) fs
fit_fragments [] rest fit = All-nil (λ (f : Fragment). All FitsData f.pieces × (f.end.last ≤ 1))
fit_fragments (f ∷ fs) rest fit =
    let behind = flat_map fragment_items fs ++ rest in
    let shaped : All IsFitItem (Says (frames.VolHead f.head) ∷ map data_item f.pieces ++ Says (frames.VolEnd f.end) ∷ Filemark ∷ behind) = subst (All IsFitItem) (shape f fs rest) fit in
    let pieces = All_map_items f.pieces (Says (frames.VolEnd f.end) ∷ Filemark ∷ behind) (All-tail IsFitItem (Says (frames.VolHead f.head)) (map data_item f.pieces ++ Says (frames.VolEnd f.end) ∷ Filemark ∷ behind) shaped) in
    let end = All-head IsFitItem (Says (frames.VolEnd f.end)) (Filemark ∷ behind) pieces.1 in
    let others : All IsFitItem behind = All-tail IsFitItem Filemark behind (All-tail IsFitItem (Says (frames.VolEnd f.end)) (Filemark ∷ behind) pieces.1) in
    All-cons (λ (g : Fragment). All FitsData g.pieces × (g.end.last ≤ 1)) f fs (pieces.0, end.last) (fit_fragments fs rest others)
  where
    shape : (f : Fragment) (fs : List Fragment) (rest : List Item) → flat_map fragment_items (f ∷ fs) ++ rest ≡ Says (frames.VolHead f.head) ∷ map data_item f.pieces ++ Says (frames.VolEnd f.end) ∷ Filemark ∷ (flat_map fragment_items fs ++ rest)
    shape f fs rest = simp append_assoc
