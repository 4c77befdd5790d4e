-- No fragment begins another, and no part: so what a tape's front says is one thing.
use Rattle.std.proofs.Common.{◌≡◌, ℕ, List, [], ◌∷◌, ◌++◌, map, take, drop, refl, sym, ap, ◌∙◌, append_assoc}
use Rattle.std.proofs.lemmas.List.{take-append-drop}
use Rattle.std.specs.List.{flat_map}
use Rattle.tape_frames.specs.declared.frame.Frame.TheVariants as frames
use Rattle.tape_frames.specs.declared.dump_head.DumpHeadFields.{DumpHeadFields}
use Rattle.tape_frames.specs.declared.vol_head.VolHeadFields.{VolHeadFields}
use Rattle.tape_frames.specs.declared.data.DataFields.{DataFields}
use Rattle.tape_frames.specs.declared.vol_end.VolEndFields.{VolEndFields}
use Rattle.tape_frames.specs.declared.dump_end.DumpEndFields.{DumpEndFields}
use Rattle.tape_text.specs.Items.{Item, Says, Filemark}
use Rattle.tape_text.specs.Texts.{Fragment, Part, data_item, fragment_items, part_items, IsText}

-- two lists of Data frames, each with an end behind it
pub pieces_apart : (ps qs : List DataFields) (a b : VolEndFields) (us vs : List Item) → map data_item ps ++ Says (frames.VolEnd a) ∷ us ≡ map data_item qs ++ Says (frames.VolEnd b) ∷ vs → (ps ≡ qs) × (a ≡ b) × (us ≡ vs)
pieces_apart [] [] a b us vs same = (refl, cc, cc)
pieces_apart [] (q ∷ qs) a b us vs same = absurd (cc)
pieces_apart (p ∷ ps) [] a b us vs same = absurd (cc)
pieces_apart (p ∷ ps) (q ∷ qs) a b us vs same =
    let first : p ≡ q = cc in
    let rest : map data_item ps ++ Says (frames.VolEnd a) ∷ us ≡ map data_item qs ++ Says (frames.VolEnd b) ∷ vs = cc in
    let parts = pieces_apart ps qs a b us vs rest in
    let both : ps ≡ qs = parts.0 in
    (cc, parts.1, parts.2)

fragment_shape : (f : Fragment) (xs : List Item) → fragment_items f ++ xs ≡ Says (frames.VolHead f.head) ∷ map data_item f.pieces ++ Says (frames.VolEnd f.end) ∷ Filemark ∷ xs
fragment_shape f xs = simp append_assoc

pub same_fragment : (a b : VolHeadFields) (ps qs : List DataFields) (c d : VolEndFields) → a ≡ b → ps ≡ qs → c ≡ d → record { head = a; pieces = ps; end = c } ≡ (let f : Fragment = record { head = b; pieces = qs; end = d } in f)
same_fragment a b ps qs c d h p e = cc

pub fragments_apart : (f g : Fragment) (xs ys : List Item) → fragment_items f ++ xs ≡ fragment_items g ++ ys → (f ≡ g) × (xs ≡ ys)
fragments_apart f g xs ys same =
    let shaped : Says (frames.VolHead f.head) ∷ map data_item f.pieces ++ Says (frames.VolEnd f.end) ∷ Filemark ∷ xs ≡ Says (frames.VolHead g.head) ∷ map data_item g.pieces ++ Says (frames.VolEnd g.end) ∷ Filemark ∷ ys =
    sym (fragment_shape f xs) ∙ same ∙ fragment_shape g ys in
    let heads : f.head ≡ g.head = cc in
    let rest : map data_item f.pieces ++ Says (frames.VolEnd f.end) ∷ Filemark ∷ xs ≡ map data_item g.pieces ++ Says (frames.VolEnd g.end) ∷ Filemark ∷ ys = cc in
    let parts = pieces_apart f.pieces g.pieces f.end g.end (Filemark ∷ xs) (Filemark ∷ ys) rest in
    let behind : Filemark ∷ xs ≡ Filemark ∷ ys = parts.2 in
    (same_fragment f.head g.head f.pieces g.pieces f.end g.end heads parts.0 parts.1, cc)

-- ---- parts

-- two lists of fragments, each with the end of a part behind it
fragments_end : (fs gs : List Fragment) (a b : DumpEndFields) (us vs : List Item) → flat_map fragment_items fs ++ Says (frames.DumpEnd a) ∷ us ≡ flat_map fragment_items gs ++ Says (frames.DumpEnd b) ∷ vs → (fs ≡ gs) × (a ≡ b) × (us ≡ vs)
fragments_end [] [] a b us vs same = (refl, cc, cc)
fragments_end [] (g ∷ gs) a b us vs same = absurd (cc)
fragments_end (f ∷ fs) [] a b us vs same = absurd (cc)
fragments_end (f ∷ fs) (g ∷ gs) a b us vs same =
    let regrouped : fragment_items f ++ (flat_map fragment_items fs ++ Says (frames.DumpEnd a) ∷ us) ≡ fragment_items g ++ (flat_map fragment_items gs ++ Says (frames.DumpEnd b) ∷ vs) =
    sym (append_assoc (fragment_items f) (flat_map fragment_items fs) (Says (frames.DumpEnd a) ∷ us)) ∙ same ∙ append_assoc (fragment_items g) (flat_map fragment_items gs) (Says (frames.DumpEnd b) ∷ vs) in
    let first = fragments_apart f g (flat_map fragment_items fs ++ Says (frames.DumpEnd a) ∷ us) (flat_map fragment_items gs ++ Says (frames.DumpEnd b) ∷ vs) regrouped in
    let rest = fragments_end fs gs a b us vs first.1 in
    let here : f ≡ g = first.0 in
    let there : fs ≡ gs = rest.0 in
    (cc, rest.1, rest.2)

part_shape : (p : Part) (xs : List Item) → part_items p ++ xs ≡ Says (frames.DumpHead p.head) ∷ flat_map fragment_items p.fragments ++ Says (frames.DumpEnd p.end) ∷ Filemark ∷ xs
part_shape p xs = simp append_assoc

same_part : (a b : DumpHeadFields) (fs gs : List Fragment) (c d : DumpEndFields) → a ≡ b → fs ≡ gs → c ≡ d → record { head = a; fragments = fs; end = c } ≡ (let p : Part = record { head = b; fragments = gs; end = d } in p)
same_part a b fs gs c d h f e = cc

pub parts_apart : (p q : Part) (xs ys : List Item) → part_items p ++ xs ≡ part_items q ++ ys → (p ≡ q) × (xs ≡ ys)
parts_apart p q xs ys same =
    let shaped : Says (frames.DumpHead p.head) ∷ flat_map fragment_items p.fragments ++ Says (frames.DumpEnd p.end) ∷ Filemark ∷ xs ≡ Says (frames.DumpHead q.head) ∷ flat_map fragment_items q.fragments ++ Says (frames.DumpEnd q.end) ∷ Filemark ∷ ys =
    sym (part_shape p xs) ∙ same ∙ part_shape q ys in
    let heads : p.head ≡ q.head = cc in
    let rest : flat_map fragment_items p.fragments ++ Says (frames.DumpEnd p.end) ∷ Filemark ∷ xs ≡ flat_map fragment_items q.fragments ++ Says (frames.DumpEnd q.end) ∷ Filemark ∷ ys = cc in
    let parts = fragments_end p.fragments q.fragments p.end q.end (Filemark ∷ xs) (Filemark ∷ ys) rest in
    let behind : Filemark ∷ xs ≡ Filemark ∷ ys = parts.2 in
    (same_part p.head q.head p.fragments q.fragments p.end q.end heads parts.0 parts.1, cc)

-- parts that begin with the items of others begin with them
pub parts_front : (us ts : List Part) (rest : List Item) → flat_map part_items us ≡ flat_map part_items ts ++ rest → (os : List Part) × (us ≡ ts ++ os) × (rest ≡ flat_map part_items os)
parts_front us [] rest same = (us, refl, sym same)
parts_front [] (t ∷ ts) rest same = absurd (cc)
parts_front (u ∷ us) (t ∷ ts) rest same =
    let regrouped : part_items u ++ flat_map part_items us ≡ part_items t ++ (flat_map part_items ts ++ rest) = same ∙ append_assoc (part_items t) (flat_map part_items ts) rest in
    let first = parts_apart u t (flat_map part_items us) (flat_map part_items ts ++ rest) regrouped in
    let others = parts_front us ts rest first.1 in
    let here : u ≡ t = first.0 in
    let there : us ≡ ts ++ others.0 = others.1 in
    (others.0, cc, others.2)

-- a front of a text is one
pub front_is_text : (items : List Item) (n : ℕ) → IsText items → IsText (take n items)
front_is_text items n t = record {
  whole = t.whole;
  more = drop n items ++ t.more;
  is = t.is;
  joined = t.joined ∙ ap (λ (l : List Item). l ++ t.more) (sym (take-append-drop n items)) ∙ append_assoc (take n items) (drop n items) t.more;
}
