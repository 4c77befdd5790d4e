-- The tape that a dump is appended to is one on which its part may be put.
use Rattle.std.proofs.Common.{◌≡◌, ℕ, zero, suc, ◌+◌, true, false, Option, Some, None, List, [], ◌∷◌, ◌++◌, length, map, take, refl, sym, ap, ◌∙◌, arith, inl, inr, length-append}
use Rattle.std.specs.Prelude.{◌==◌, All, Contains, slice_get, sum_by}
use Rattle.std.specs.List.{flat_map}
use Rattle.std.proofs.lemmas.Bool.{eq-eqb, eqb-true, cases_Bool}
use Rattle.std.proofs.lemmas.List.Elements.{All-nil, All-cons, All-head, All-tail}
use Rattle.std.proofs.lemmas.List.Sums.{sum_by-cons}
use Rattle.tape_frames.specs.declared.frame.Frame.TheVariants as frames
use Rattle.tape_frames.specs.declared.data.DataFields.{DataFields}
use Rattle.tape_frames.specs.declared.label.LabelFields.{LabelFields}
use Rattle.budb_changes.specs.declared.records.TapePart.{TapePart}
use Rattle.budb_changes.specs.declared.records.DumpRecordFields.{DumpRecordFields}
use Rattle.tape_text.specs.Items.{Item, Says, Filemark, Nothing}
use Rattle.tape_text.specs.Texts.{Fragment, Part, Tape, data_item, fragment_items, part_items, tape_items, TellsUses, IsTape, AgreeInUses}
use Rattle.tape_text.specs.Parts.{FoundPart, part_len, part_marks, parts_at, parts_of}
use Rattle.tape_scan.proofs.ScanLaws.{part_length}
use Rattle.tape_scan.proofs.ListLaws.{All_join}
use Rattle.tape_writer.specs.Filling.{uses_in}
use Rattle.tape_choice.specs.Reads.{frame_of, label_from, label_in}
use Rattle.tape_choice.specs.Append.{uses_told}
use Rattle.archive_model.specs.Holding.{place_of, is_label_frame, is_head_frame, is_so, holds_at, holds}
use Rattle.dump_laws.proofs.ChosenLaws.{and_left, and_right}

-- ---- the label

label_first : (n : ℕ) (items : List Item) (i : Item) (rest : List Item) → take n items ≡ i ∷ rest → label_in items ≡ label_from (frame_of i)
label_first zero items i rest is = absurd (cc)
label_first (suc n) [] i rest is = absurd (cc)
label_first (suc n) (x ∷ items) i rest is = (let same : x ≡ i = cc in ap (λ (y : Item). label_from (frame_of y)) same)

pub its_label : (n : ℕ) (items : List Item) (t : Tape) → take n items ≡ tape_items t → label_in items ≡ Some t.label
its_label n items t is = label_first n items (Says (frames.Label t.label)) (Filemark ∷ flat_map part_items t.parts) is

-- what is held on a tape has its label's initial id and number
label_says : (initial tape : ℕ) (items : List Item) (a : LabelFields) → is_so (is_label_frame initial tape) (slice_get items 0) ≡ true → label_in items ≡ Some a → (a.initial ≡ initial) × (a.tape ≡ tape)
label_says initial tape [] a so is = absurd (cc)
label_says initial tape (Filemark ∷ items) a so is = absurd (cc)
label_says initial tape (Nothing ∷ items) a so is = absurd (cc)
label_says initial tape (Says (frames.DumpHead b) ∷ items) a so is = absurd (cc)
label_says initial tape (Says (frames.VolHead b) ∷ items) a so is = absurd (cc)
label_says initial tape (Says (frames.Data b) ∷ items) a so is = absurd (cc)
label_says initial tape (Says (frames.VolEnd b) ∷ items) a so is = absurd (cc)
label_says initial tape (Says (frames.DumpEnd b) ∷ items) a so is = absurd (cc)
label_says initial tape (Says (frames.Label b) ∷ items) a so is =
    let same : b ≡ a = cc in
    let first : b.initial ≡ initial = eqb-true b.initial initial (and_left (b.initial == initial) (b.tape == tape) so) in
    let second : b.tape ≡ tape = eqb-true b.tape tape (and_right (b.initial == initial) (b.tape == tape) so) in
    (ap (λ (x : LabelFields). x.initial) (sym same) ∙ first, ap (λ (x : LabelFields). x.tape) (sym same) ∙ second)

held_says : (o : Option TapePart) (d : DumpRecordFields) (tape : ℕ) (items : List Item) (a : LabelFields) → holds_at o d tape items ≡ true → label_in items ≡ Some a → (a.initial ≡ d.initial) × (a.tape ≡ tape)
held_says None d tape items a held is = absurd (cc)
held_says (Some p) d tape items a held is = label_says d.initial tape items a (and_left (is_so (is_label_frame d.initial tape) (slice_get items 0)) (is_so (is_head_frame d.id tape) (slice_get items p.first)) held) is

pub label_of_held : (d : DumpRecordFields) (tape : ℕ) (items : List Item) (a : LabelFields) → holds d tape items ≡ true → label_in items ≡ Some a → (a.initial ≡ d.initial) × (a.tape ≡ tape)
label_of_held d tape items a held is = held_says (place_of d tape) d tape items a held is

-- ---- the last part

-- the part that ends where all parts do is the last one
pub last_of_parts : (at marks : ℕ) (ps : List Part) (q : FoundPart) → Contains (parts_at at marks ps) q → q.end ≡ at + sum_by part_len ps → (before : List Part) × (ps ≡ before ++ q.part ∷ []) × (q.marks ≡ marks + sum_by part_marks ps)
last_of_parts at marks [] q there end = absurd (omega (arith, there.1))
last_of_parts at marks (p ∷ []) q (zero, within, is) end = ([], ap (λ (x : FoundPart). x.part ∷ []) is, (let e : marks + part_marks p ≡ q.marks = ap (λ (x : FoundPart). x.marks) is in omega (arith, e, sum_by-cons part_marks p [])))
last_of_parts at marks (p ∷ r ∷ ps) q (zero, within, is) end = absurd (let e : at + part_len p ≡ q.end = ap (λ (x : FoundPart). x.end) is in omega (arith, e, end, sum_by-cons part_len p (r ∷ ps), sum_by-cons part_len r ps))
last_of_parts at marks (p ∷ ps) q (suc k, within, is) end =
    let rest = last_of_parts (at + part_len p) (marks + part_marks p) ps q (k, omega (arith, within), is) (omega (arith, end, sum_by-cons part_len p ps)) in
    (p ∷ rest.0, ap (λ (l : List Part). p ∷ l) rest.1, omega (arith, rest.2, sum_by-cons part_marks p ps))

parts_long : (ps : List Part) → length (flat_map part_items ps) ≡ sum_by part_len ps
parts_long [] = refl
parts_long (p ∷ ps) = omega (arith, length-append (part_items p) (flat_map part_items ps), part_length p, parts_long ps, sum_by-cons part_len p ps)

pub last_found : (t : Tape) (q : FoundPart) → Contains (parts_of t) q → q.end ≡ length (tape_items t) → (before : List Part) × (t.parts ≡ before ++ q.part ∷ []) × (q.marks ≡ 1 + sum_by part_marks t.parts)
last_found t q there end = last_of_parts 2 1 t.parts q there (omega (arith, end, parts_long t.parts))

pub snoc_same : (xs ys : List Part) (x y : Part) → xs ++ x ∷ [] ≡ ys ++ y ∷ [] → x ≡ y
snoc_same [] [] x y same = cc
snoc_same [] (b ∷ []) x y same = absurd (cc)
snoc_same [] (b ∷ c ∷ ys) x y same = absurd (cc)
snoc_same (a ∷ []) [] x y same = absurd (cc)
snoc_same (a ∷ c ∷ xs) [] x y same = absurd (cc)
snoc_same (a ∷ xs) (b ∷ ys) x y same = (let rest : xs ++ x ∷ [] ≡ ys ++ y ∷ [] = cc in snoc_same xs ys x y rest)

-- ---- its uses

-- an item that tells no uses
abbrev TellsNone : Item → Type 0
TellsNone i = uses_in i ≡ 0

pieces_tell_none : (ds : List DataFields) → All TellsNone (map data_item ds)
pieces_tell_none [] = All-nil TellsNone
pieces_tell_none (d ∷ ds) = All-cons TellsNone (data_item d) (map data_item ds) refl (pieces_tell_none ds)

fragment_tells_none : (f : Fragment) → All TellsNone (fragment_items f)
fragment_tells_none f =
    let mark : All TellsNone (Filemark ∷ []) = All-cons TellsNone Filemark [] refl (All-nil TellsNone) in
    let end : All TellsNone (Says (frames.VolEnd f.end) ∷ []) = All-cons TellsNone (Says (frames.VolEnd f.end)) [] refl (All-nil TellsNone) in
    let front : All TellsNone (Says (frames.VolHead f.head) ∷ map data_item f.pieces) = All-cons TellsNone (Says (frames.VolHead f.head)) (map data_item f.pieces) refl (pieces_tell_none f.pieces) in
    All_join TellsNone (Says (frames.VolHead f.head) ∷ map data_item f.pieces ++ Says (frames.VolEnd f.end) ∷ []) (Filemark ∷ []) (All_join TellsNone (Says (frames.VolHead f.head) ∷ map data_item f.pieces) (Says (frames.VolEnd f.end) ∷ []) front end) mark

fragments_tell_none : (fs : List Fragment) → All TellsNone (flat_map fragment_items fs)
fragments_tell_none [] = All-nil TellsNone
fragments_tell_none (f ∷ fs) = All_join TellsNone (fragment_items f) (flat_map fragment_items fs) (fragment_tells_none f) (fragments_tell_none fs)

told_behind : (xs ys : List Item) → All TellsNone xs → uses_told (xs ++ ys) ≡ uses_told ys
told_behind [] ys all = refl
told_behind (x ∷ xs) ys all = (let none : (uses_in x == 0) ≡ true = eq-eqb (uses_in x) 0 (All-head TellsNone x xs all) in rw none (told_behind xs ys (All-tail TellsNone x xs all)))

part_rest : (p : Part) → All TellsNone (flat_map fragment_items p.fragments ++ Says (frames.DumpEnd p.end) ∷ Filemark ∷ [])
part_rest p = All_join TellsNone (flat_map fragment_items p.fragments) (Says (frames.DumpEnd p.end) ∷ Filemark ∷ []) (fragments_tell_none p.fragments) (All-cons TellsNone (Says (frames.DumpEnd p.end)) (Filemark ∷ []) refl (All-cons TellsNone Filemark [] refl (All-nil TellsNone)))

tail_agrees : (p : Part) (ps : List Part) → AgreeInUses (p ∷ ps) → AgreeInUses ps
tail_agrees p ps agree x y in_x in_y = agree x y (suc in_x.0, omega (arith, in_x.1), in_x.2) (suc in_y.0, omega (arith, in_y.1), in_y.2)

later_in : (p : Part) (ps : List Part) (q : Part) → Contains (p ∷ ps) q → p.head.uses ≡ 0 → TellsUses q → Contains ps q
later_in p ps q (zero, within, is) none tells = absurd (tells (ap (λ (x : Part). x.head.uses) (sym is) ∙ none))
later_in p ps q (suc k, within, is) none tells = (k, omega (arith, within), is)

uses_of_parts : (ps : List Part) (q : Part) → AgreeInUses ps → Contains ps q → TellsUses q → uses_told (flat_map part_items ps) ≡ q.head.uses
uses_of_parts [] q agree there tells = absurd (omega (arith, there.1))
uses_of_parts (p ∷ ps) q agree there tells = elim (cases_Bool (p.head.uses == 0)) [
  | inl hit ↦
      (let none : p.head.uses ≡ 0 = eqb-true p.head.uses 0 hit in
      rw hit (told_behind (flat_map fragment_items p.fragments ++ Says (frames.DumpEnd p.end) ∷ Filemark ∷ []) (flat_map part_items ps) (part_rest p) ∙ uses_of_parts ps q (tail_agrees p ps agree) (later_in p ps q there none tells) tells))
  | inr miss ↦
      (let some : TellsUses p = λ none. absurd (let hit : (p.head.uses == 0) ≡ true = eq-eqb p.head.uses 0 none in let e : true ≡ false = sym hit ∙ miss in cc) in
      rw miss (agree p q (0, omega arith, refl) there some tells))
]

pub uses_of_tape : (t : Tape) (q : Part) → IsTape t → Contains t.parts q → TellsUses q → uses_told (tape_items t) ≡ q.head.uses
uses_of_tape t q is there tells = uses_of_parts t.parts q is.uses there tells
