-- Parts are found where they are put.
use Rattle.std.proofs.Common.{◌≡◌, ℕ, ◌+◌, List, [], ◌∷◌, ◌++◌, length, map, refl, ap, ◌∙◌, arith, length-append}
use Rattle.std.specs.Prelude.{sum_by}
use Rattle.std.specs.List.{flat_map}
use Rattle.std.proofs.lemmas.List.Sums.{sum_by-cons}
use Rattle.tape_frames.specs.declared.data.DataFields.{DataFields}
use Rattle.tape_frames.specs.declared.frame.Frame.TheVariants as frames
use Rattle.tape_frames.specs.declared.label.LabelFields.{LabelFields}
use Rattle.tape_text.specs.Items.{Item, Says, Filemark}
use Rattle.tape_text.specs.Texts.{Fragment, Part, Tape, data_item, fragment_items, part_items, tape_items}
use Rattle.tape_text.specs.Parts.{FoundPart, fragment_len, fragments_len, part_len, part_marks, parts_at, parts_of}
use Rattle.tape_writer.specs.Filling.{fragment_blocks, part_blocks, taken, appended, placed}

-- blocks and filemarks are all that a part has
fragments_count : (fs : List Fragment) → fragments_len fs ≡ sum_by fragment_blocks fs + length fs
fragments_count [] = refl
fragments_count (f ∷ fs) = omega (arith, fragments_count fs, sum_by-cons fragment_len f fs, sum_by-cons fragment_blocks f fs)

part_count : (p : Part) → part_len p ≡ part_blocks p + part_marks p
part_count p = omega (arith, fragments_count p.fragments)

parts_count : (ps : List Part) → sum_by part_len ps ≡ sum_by part_blocks ps + sum_by part_marks ps
parts_count [] = refl
parts_count (p ∷ ps) = omega (arith, part_count p, parts_count ps, sum_by-cons part_len p ps, sum_by-cons part_blocks p ps, sum_by-cons part_marks p ps)

-- as many items
pieces_length : (ds : List DataFields) → length (map data_item ds) ≡ length ds
pieces_length [] = refl
pieces_length (d ∷ ds) = omega (arith, pieces_length ds)

fragment_length : (f : Fragment) → length (fragment_items f) ≡ fragment_len f
fragment_length f =
    let end : List Item = Says (frames.VolEnd f.end) ∷ [] in
    let head : List Item = Says (frames.VolHead f.head) ∷ map data_item f.pieces in
    let mark : List Item = Filemark ∷ [] in
    omega (arith, length-append (head ++ end) mark, length-append head end, pieces_length f.pieces)

fragments_length : (fs : List Fragment) → length (flat_map fragment_items fs) ≡ fragments_len fs
fragments_length [] = refl
fragments_length (f ∷ fs) = omega (arith, length-append (fragment_items f) (flat_map fragment_items fs), fragment_length f, fragments_length fs, sum_by-cons fragment_len f fs)

part_length : (p : Part) → length (part_items p) ≡ part_len p
part_length p =
    let end : List Item = Says (frames.DumpEnd p.end) ∷ Filemark ∷ [] in
    omega (arith, length-append (flat_map fragment_items p.fragments) end, fragments_length p.fragments)

parts_length : (ps : List Part) → length (flat_map part_items ps) ≡ sum_by part_len ps
parts_length [] = refl
parts_length (p ∷ ps) = omega (arith, length-append (part_items p) (flat_map part_items ps), part_length p, parts_length ps, sum_by-cons part_len p ps)

pub stands_behind : (t : Tape) → (appended t).blocks + (appended t).marks ≡ length (tape_items t)
stands_behind t = omega (arith, parts_length t.parts, parts_count t.parts)

-- one part more
parts_more : (at marks : ℕ) (ps : List Part) (p : Part)
    → parts_at at marks (ps ++ p ∷ []) ≡ parts_at at marks ps ++ record { part = p; first = at + sum_by part_len ps; end = at + sum_by part_len ps + part_len p; marks = marks + sum_by part_marks ps + part_marks p } ∷ []
parts_more at marks [] p =
    let first : at ≡ at + 0 = omega arith in
    let end : at + part_len p ≡ at + 0 + part_len p = omega arith in
    let count : marks + part_marks p ≡ marks + 0 + part_marks p = omega arith in
    λ i. record { part = p; first = first i; end = end i; marks = count i } ∷ []
parts_more at marks (q ∷ ps) p =
    let first : at + part_len q + sum_by part_len ps ≡ at + sum_by part_len (q ∷ ps) = omega (arith, sum_by-cons part_len q ps) in
    let end : at + part_len q + sum_by part_len ps + part_len p ≡ at + sum_by part_len (q ∷ ps) + part_len p = omega (arith, sum_by-cons part_len q ps) in
    let count : marks + part_marks q + sum_by part_marks ps + part_marks p ≡ marks + sum_by part_marks (q ∷ ps) + part_marks p = omega (arith, sum_by-cons part_marks q ps) in
    let here : FoundPart = record { part = q; first = at; end = at + part_len q; marks = marks + part_marks q } in
    ap (λ (l : List FoundPart). here ∷ l) (parts_more (at + part_len q) (marks + part_marks q) ps p)
    ∙ (λ i. here ∷ parts_at (at + part_len q) (marks + part_marks q) ps ++ record { part = p; first = first i; end = end i; marks = count i } ∷ [])

pub found_behind : (t : Tape) (p : Part) → parts_of (record t { parts = t.parts ++ p ∷ [] }) ≡ parts_of t ++ placed (appended t ∷ []) (p ∷ [])
found_behind t p =
    let first : 2 + sum_by part_len t.parts ≡ (appended t).blocks + (appended t).marks = omega (arith, parts_count t.parts) in
    let end : 2 + sum_by part_len t.parts + part_len p ≡ (appended t).blocks + (appended t).marks + part_len p = omega (arith, parts_count t.parts) in
    parts_more 2 1 t.parts p ∙ (λ i. parts_of t ++ record { part = p; first = first i; end = end i; marks = 1 + sum_by part_marks t.parts + part_marks p } ∷ [])

pub found_there : (label : LabelFields) (old : List Item) (p : Part) → parts_of (record { label = label; parts = p ∷ [] }) ≡ placed (taken label old ∷ []) (p ∷ [])
found_there label old p = refl
