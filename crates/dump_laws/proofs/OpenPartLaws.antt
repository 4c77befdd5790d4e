-- Behind a tape's text a part in hand isn't closed: no end of a part stands there.
use Rattle.std.proofs.Common.{◌≡◌, ℕ, zero, suc, ◌+◌, ◌-◌, ◌≤◌, Some, List, [], ◌∷◌, ◌++◌, length, map, take, refl, sym, ap, subst, ◌∙◌, arith}
use Rattle.std.specs.Prelude.{All, Contains, slice_get}
use Rattle.std.specs.List.{flat_map}
use Rattle.std.proofs.lemmas.List.Elements.{All-nil, All-cons, All-contains}
use Rattle.tape_frames.specs.declared.frame.Frame.TheVariants as frames
use Rattle.tape_frames.specs.declared.data.DataFields.{DataFields}
use Rattle.tape_frames.specs.declared.dump_head.DumpHeadFields.{DumpHeadFields}
use Rattle.tape_frames.specs.declared.dump_end.DumpEndFields.{DumpEndFields}
use Rattle.tape_text.specs.Items.{Item, Says, Filemark}
use Rattle.tape_text.specs.Texts.{Fragment, Part, Tape, data_item, fragment_items, part_items, tape_items}
use Rattle.tape_text.specs.Parts.{FoundPart, fragments_len, parts_of}
use Rattle.tape_scan.specs.Scans.{IsClosedIn}
use Rattle.tape_scan.proofs.ListLaws.{All_join}
use Rattle.tape_scan.proofs.PlaceLaws.{Amid, amid_again, amid_behind, parts_amid, item_amid}
use Rattle.dump_laws.specs.Made.{part_begun}
use Rattle.dump_laws.proofs.NeighbourLaws.{get_behind}
use Rattle.dump_laws.proofs.PartLaws.{fragments_length}

-- an item that isn't the end of a part
abbrev IsNoEnd : Item → Type 0
IsNoEnd i = (e : DumpEndFields) → i ≡ Says (frames.DumpEnd e) → ⊥

pieces_no_end : (ds : List DataFields) → All IsNoEnd (map data_item ds)
pieces_no_end [] = All-nil IsNoEnd
pieces_no_end (d ∷ ds) = All-cons IsNoEnd (data_item d) (map data_item ds) (λ e same. absurd (cc)) (pieces_no_end ds)

fragment_no_end : (f : Fragment) → All IsNoEnd (fragment_items f)
fragment_no_end f =
    let mark : All IsNoEnd (Filemark ∷ []) = All-cons IsNoEnd Filemark [] (λ e same. absurd (cc)) (All-nil IsNoEnd) in
    let end : All IsNoEnd (Says (frames.VolEnd f.end) ∷ []) = All-cons IsNoEnd (Says (frames.VolEnd f.end)) [] (λ e same. absurd (cc)) (All-nil IsNoEnd) in
    let front : All IsNoEnd (Says (frames.VolHead f.head) ∷ map data_item f.pieces) = All-cons IsNoEnd (Says (frames.VolHead f.head)) (map data_item f.pieces) (λ e same. absurd (cc)) (pieces_no_end f.pieces) in
    All_join IsNoEnd (Says (frames.VolHead f.head) ∷ map data_item f.pieces ++ Says (frames.VolEnd f.end) ∷ []) (Filemark ∷ []) (All_join IsNoEnd (Says (frames.VolHead f.head) ∷ map data_item f.pieces) (Says (frames.VolEnd f.end) ∷ []) front end) mark

fragments_no_end : (fs : List Fragment) → All IsNoEnd (flat_map fragment_items fs)
fragments_no_end [] = All-nil IsNoEnd
fragments_no_end (f ∷ fs) = All_join IsNoEnd (fragment_items f) (flat_map fragment_items fs) (fragment_no_end f) (fragments_no_end fs)

begun_no_end : (h : DumpHeadFields) (fs : List Fragment) → All IsNoEnd (part_begun h fs [])
begun_no_end h fs = All-cons IsNoEnd (Says (frames.DumpHead h)) (flat_map fragment_items fs ++ []) (λ e same. absurd (cc)) (All_join IsNoEnd (flat_map fragment_items fs) [] (fragments_no_end fs) (All-nil IsNoEnd))

-- where a part's end stands
end_amid : (p : Part) → Amid (part_items p) (Says (frames.DumpEnd p.end) ∷ Filemark ∷ []) (1 + fragments_len p.fragments)
end_amid p = record { before = Says (frames.DumpHead p.head) ∷ flat_map fragment_items p.fragments; behind = []; joined = refl; count = omega (arith, fragments_length p.fragments) }

end_stands : (t : Tape) (q : FoundPart) → Contains (parts_of t) q → slice_get (tape_items t) (q.first + (1 + fragments_len q.part.fragments)) ≡ Some (Says (frames.DumpEnd q.part.end))
end_stands t q there =
    let p = parts_amid 2 1 t.parts q there in
    let part : Amid (tape_items t) (part_items q.part) (2 + p.0) = amid_behind (Says (frames.Label t.label) ∷ Filemark ∷ []) (flat_map part_items t.parts) (part_items q.part) p.0 p.2 in
    let end : Amid (tape_items t) (Says (frames.DumpEnd q.part.end) ∷ Filemark ∷ []) (2 + p.0 + (1 + fragments_len q.part.fragments)) = amid_again (tape_items t) (part_items q.part) (Says (frames.DumpEnd q.part.end) ∷ Filemark ∷ []) (2 + p.0) (1 + fragments_len q.part.fragments) part (end_amid q.part) in
    let place : 2 + p.0 + (1 + fragments_len q.part.fragments) ≡ q.first + (1 + fragments_len q.part.fragments) = omega (arith, p.1) in
    subst (λ (n : ℕ). slice_get (tape_items t) n ≡ Some (Says (frames.DumpEnd q.part.end))) place (item_amid (tape_items t) (Says (frames.DumpEnd q.part.end)) (Filemark ∷ []) (2 + p.0 + (1 + fragments_len q.part.fragments)) end)

pub get_uncut : (n m : ℕ) (xs : List Item) (i : Item) → slice_get (take n xs) m ≡ Some i → slice_get xs m ≡ Some i
get_uncut zero m xs i is = absurd (cc)
get_uncut (suc n) m [] i is = absurd (cc)
get_uncut (suc n) zero (x ∷ xs) i is = is
get_uncut (suc n) (suc m) (x ∷ xs) i is = get_uncut n m xs i is

in_get : (ys : List Item) (n : ℕ) (i : Item) → slice_get ys n ≡ Some i → Contains ys i
in_get [] n i is = absurd (cc)
in_get (y ∷ ys) zero i is = (0, omega arith, cc)
in_get (y ∷ ys) (suc n) i is = (let rest = in_get ys n i is in (suc rest.0, omega (arith, rest.1), rest.2))

-- no part that begins where the part in hand does, or behind it, is closed
pub open_not_closed : (items : List Item) (t : Tape) (h : DumpHeadFields) (fs : List Fragment) (q : FoundPart) → items ≡ tape_items t ++ part_begun h fs [] → IsClosedIn items q → length (tape_items t) ≤ q.first → ⊥
open_not_closed items t h fs q same closed le =
    let n : ℕ = q.first + (1 + fragments_len q.part.fragments) in
    let front : slice_get (take q.end items) n ≡ Some (Says (frames.DumpEnd q.part.end)) = ap (λ (l : List Item). slice_get l n) closed.front ∙ end_stands closed.tape q closed.there in
    let all : slice_get items n ≡ Some (Says (frames.DumpEnd q.part.end)) = get_uncut q.end n items (Says (frames.DumpEnd q.part.end)) front in
    let behind : slice_get (part_begun h fs []) (n - length (tape_items t)) ≡ Some (Says (frames.DumpEnd q.part.end)) =
    sym (get_behind (tape_items t) (part_begun h fs []) n (omega (arith, le))) ∙ ap (λ (l : List Item). slice_get l n) (sym same) ∙ all in
    All-contains IsNoEnd (part_begun h fs []) (Says (frames.DumpEnd q.part.end)) (begun_no_end h fs) (in_get (part_begun h fs []) (n - length (tape_items t)) (Says (frames.DumpEnd q.part.end)) behind) q.part.end refl
