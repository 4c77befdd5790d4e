-- The part in hand, once it is ended, is a part of a tape, and goes on behind the ended ones.
use Rattle.std.proofs.Common.{◌≡◌, ℕ, ◌+◌, List, [], ◌∷◌, ◌++◌, length, map, refl, sym, ap, subst, ◌∙◌, arith, inl, inr, append_assoc, append-nil, length-append}
use Rattle.std.specs.Prelude.{All, Contains, if◌then◌else◌}
use Rattle.std.specs.List.{flat_map}
use Rattle.std.proofs.lemmas.List.Elements.{All-nil, All-cons, All-head, All-tail}
use Rattle.std.proofs.lemmas.List.Sums.{sum_by-cons}
use Rattle.plant_core.specs.Records.{Record, block_with, mark, bad}
use Rattle.tape_frames.specs.declared.frame.Frame.TheVariants as frames
use Rattle.tape_frames.specs.declared.dump_head.DumpHeadFields.{DumpHeadFields}
use Rattle.tape_frames.specs.declared.dump_end.DumpEndFields.{DumpEndFields}
use Rattle.tape_frames.specs.declared.data.DataFields.{DataFields}
use Rattle.tape_frames.specs.declared.vol_head.VolHeadFields.{VolHeadFields}
use Rattle.tape_text.specs.Items.{Item, Says, Filemark, Nothing, ReadsAs, Read, IsFitItem}
use Rattle.tape_text.specs.Texts.{Fragment, Part, Tape, data_item, fragment_items, part_items, tape_items, ends_dump, TellsUses, IsPart, AgreeInUses}
use Rattle.tape_text.specs.Parts.{fragment_len, fragments_len}
use Rattle.tape_text.specs.Wholes.{Ends, NextTape}
use Rattle.tape_scan.specs.Scans.{IsClosedIn, next_found}
use Rattle.tape_scan.specs.Slots.{Located}
use Rattle.tape_scan.proofs.ScanLaws.{fragment_length}
use Rattle.tape_scan.proofs.FrontLaws.{one_part_more, next_closed}
use Rattle.tape_scan.proofs.ListLaws.{All_join}
use Rattle.tape_text.specs.Texts.{IsTape}
use Rattle.dump_laws.specs.Neighbours.{LastIs, GoesTo}
use Rattle.dump_laws.specs.Made.{part_at, part_begun, MayBegin}
use Rattle.dump_laws.specs.Writing.{IsEnded, IsNextHead, EndedFit, FrontFits, FragmentsFit}
use Rattle.dump_laws.proofs.NeighbourLaws.{first_begins, last_map, in_more, all_so}

-- ---- a part of its tape

may_begin_first : (ended : List Located) (h : VolHeadFields) (part : ℕ) → part ≡ length ended + 1 → MayBegin ended h → part ≡ 1 → (h.index ≡ 0) × (h.fragment ≡ 1)
may_begin_first [] h part number begins one = begins
may_begin_first (l ∷ ls) h part number begins one = absurd (omega (arith, number, one))

pub is_part : (t : Tape) (h : DumpHeadFields) (ended : List Located) (fs : List Fragment) (e : DumpEndFields) → FrontFits t h → FragmentsFit h.id h.volumes ended fs → (fs ≡ [] → ⊥) → h.part ≡ length ended + 1 → e.dump ≡ h.id → e.more ≡ (if ends_dump h.volumes fs then 0 else 1)
    → IsPart t.label (record { head = h; fragments = fs; end = e })
is_part t h ended fs e front fit some number dump more = record {
  initial = front.initial;
  tape = front.number;
  name = front.name;
  permanent = λ tells. front.permanent;
  begins = first_begins (λ f. MayBegin ended f.head) (λ f. h.part ≡ 1 → (f.head.index ≡ 0) × (f.head.fragment ≡ 1)) fs some (λ f begins one. may_begin_first ended f.head h.part number begins one) fit.begins;
  each = fit.each;
  linked = fit.linked;
  dump = dump;
  more = more;
}

-- ---- behind the ended parts

next_tapes : (h : DumpHeadFields) (count : ℕ) (f : Fragment) (fs : List Fragment) (e : DumpEndFields) (l : Located) → IsEnded h count l → IsNextHead h l → Ends (λ g. GoesTo g f.head) l.found.part.fragments → NextTape l.found.part (record { head = h; fragments = f ∷ fs; end = e })
next_tapes h count f fs e l is next goes = record { more = is.more; agree = is.agree; part = next.0; tape = next.1; goes_on = goes }

begun_behind : (ended : List Located) (f : Fragment) → MayBegin ended f.head → LastIs (λ l. Ends (λ g. GoesTo g f.head) l.found.part.fragments) ended
begun_behind [] f begins = tt
begun_behind (l ∷ ls) f begins = begins

behind_all : (h : DumpHeadFields) (count : ℕ) (f : Fragment) (fs : List Fragment) (e : DumpEndFields) (ended : List Located) → All (IsEnded h count) ended → LastIs (IsNextHead h) ended → LastIs (λ l. Ends (λ g. GoesTo g f.head) l.found.part.fragments) ended
    → LastIs (λ l. NextTape l.found.part (record { head = h; fragments = f ∷ fs; end = e })) ended
behind_all h count f fs e [] each next goes = tt
behind_all h count f fs e (l ∷ []) each next goes = next_tapes h count f fs e l (All-head (IsEnded h count) l [] each) next goes
behind_all h count f fs e (l ∷ m ∷ ls) each next goes = behind_all h count f fs e (m ∷ ls) (All-tail (IsEnded h count) l (m ∷ ls) each) next goes

pub next_part : (h : DumpHeadFields) (ended : List Located) (fs : List Fragment) (e : DumpEndFields) → EndedFit h ended → FragmentsFit h.id h.volumes ended fs → (fs ≡ [] → ⊥) → LastIs (λ p. NextTape p (record { head = h; fragments = fs; end = e })) (map part_at ended)
next_part h ended [] e fit fragments some = absurd (some refl)
next_part h ended (f ∷ fs) e fit fragments some =
    last_map (λ p. NextTape p (record { head = h; fragments = f ∷ fs; end = e })) part_at ended (behind_all h (length ended) f fs e ended fit.each fit.next (begun_behind ended f fragments.begins))

-- ---- what stands of it fits

abbrev IsSaid : Item → Type 0
IsSaid (Says f) = Unit {0}
IsSaid Filemark = Unit {0}
IsSaid Nothing = ⊥

fit_of : (r : Record) (i : Item) → ReadsAs r i → IsSaid i → IsFitItem i
fit_of r Nothing reads said = absurd said
fit_of r Filemark reads said = tt
fit_of (block_with bytes) (Says f) reads said = reads.0
fit_of mark (Says f) reads said = absurd reads
fit_of bad (Says f) reads said = absurd reads

all_fit : (rs : List Record) (is : List Item) → Read rs is → All IsSaid is → All IsFitItem is
all_fit [] [] read said = All-nil IsFitItem
all_fit [] (i ∷ is) read said = absurd read
all_fit (r ∷ rs) [] read said = absurd read
all_fit (r ∷ rs) (i ∷ is) read said = All-cons IsFitItem i is (fit_of r i read.0 (All-head IsSaid i is said)) (all_fit rs is read.1 (All-tail IsSaid i is said))

fit_said : (i : Item) → IsFitItem i → IsSaid i
fit_said (Says f) fit = tt
fit_said Filemark fit = tt
fit_said Nothing fit = fit

pieces_said : (ds : List DataFields) → All IsSaid (map data_item ds)
pieces_said [] = All-nil IsSaid
pieces_said (d ∷ ds) = All-cons IsSaid (data_item d) (map data_item ds) tt (pieces_said ds)

fragment_said : (f : Fragment) → All IsSaid (fragment_items f)
fragment_said f =
    let mark : All IsSaid (Filemark ∷ []) = All-cons IsSaid Filemark [] tt (All-nil IsSaid) in
    let end : All IsSaid (Says (frames.VolEnd f.end) ∷ []) = All-cons IsSaid (Says (frames.VolEnd f.end)) [] tt (All-nil IsSaid) in
    let front : All IsSaid (Says (frames.VolHead f.head) ∷ map data_item f.pieces) = All-cons IsSaid (Says (frames.VolHead f.head)) (map data_item f.pieces) tt (pieces_said f.pieces) in
    All_join IsSaid (Says (frames.VolHead f.head) ∷ map data_item f.pieces ++ Says (frames.VolEnd f.end) ∷ []) (Filemark ∷ []) (All_join IsSaid (Says (frames.VolHead f.head) ∷ map data_item f.pieces) (Says (frames.VolEnd f.end) ∷ []) front end) mark

fragments_said : (fs : List Fragment) → All IsSaid (flat_map fragment_items fs)
fragments_said [] = All-nil IsSaid
fragments_said (f ∷ fs) = All_join IsSaid (fragment_items f) (flat_map fragment_items fs) (fragment_said f) (fragments_said fs)

pub all_behind : {X : Type 0} (P : X → Type 0) (xs ys : List X) → All P (xs ++ ys) → All P ys
all_behind P [] ys all = all
all_behind P (x ∷ xs) ys all = all_behind P xs ys (All-tail P x (xs ++ ys) all)

-- the part in hand with nothing open, and its end, are the part
pub part_shape : (h : DumpHeadFields) (fs : List Fragment) (e : DumpEndFields) → part_begun h fs [] ++ Says (frames.DumpEnd e) ∷ Filemark ∷ [] ≡ part_items (record { head = h; fragments = fs; end = e })
part_shape h fs e = ap (λ (l : List Item). (Says (frames.DumpHead h) ∷ l) ++ Says (frames.DumpEnd e) ∷ Filemark ∷ []) (append-nil (flat_map fragment_items fs))

pub begun_fits : (rs : List Record) (t : Tape) (h : DumpHeadFields) (fs : List Fragment) (items : List Item) → IsTape t → Read rs items → items ≡ tape_items t ++ part_begun h fs [] → All IsFitItem (part_begun h fs [])
begun_fits rs t h fs items is read same =
    let begun : All IsSaid (part_begun h fs []) = All-cons IsSaid (Says (frames.DumpHead h)) (flat_map fragment_items fs ++ []) tt (All_join IsSaid (flat_map fragment_items fs) [] (fragments_said fs) (All-nil IsSaid)) in
    let said : All IsSaid (tape_items t ++ part_begun h fs []) = All_join IsSaid (tape_items t) (part_begun h fs []) (all_so IsFitItem IsSaid (tape_items t) fit_said is.fit) begun in
    all_behind IsFitItem (tape_items t) (part_begun h fs []) (all_fit rs (tape_items t ++ part_begun h fs []) (subst (Read rs) same read) said)

-- ---- the tape with it

agree_uses : (t : Tape) (p : Part) → AgreeInUses t.parts → ((q : Part) → Contains t.parts q → TellsUses q → q.head.uses ≡ p.head.uses) → AgreeInUses (t.parts ++ p ∷ [])
agree_uses t p old uses x y in_x in_y tells_x tells_y = elim (in_more t.parts p x in_x) [
  | inl a ↦ elim (in_more t.parts p y in_y) [
    | inl b ↦ old x y a b tells_x tells_y
    | inr b ↦ uses x a tells_x ∙ ap (λ (q : Part). q.head.uses) b
  ]
  | inr a ↦ elim (in_more t.parts p y in_y) [
    | inl b ↦ ap (λ (q : Part). q.head.uses) (sym a) ∙ sym (uses y b tells_y)
    | inr b ↦ ap (λ (q : Part). q.head.uses) (sym a) ∙ ap (λ (q : Part). q.head.uses) b
  ]
]

-- The part that ends behind what stands on a tape is closed there, with the tape up to its end.
pub ended_closes : (rs : List Record) (t : Tape) (h : DumpHeadFields) (ended : List Located) (fs : List Fragment) (e : DumpEndFields) (items : List Item) → FrontFits t h → FragmentsFit h.id h.volumes ended fs → (fs ≡ [] → ⊥) → h.part ≡ length ended + 1
    → e.dump ≡ h.id → e.more ≡ (if ends_dump h.volumes fs then 0 else 1) → IsFitItem (Says (frames.DumpEnd e)) → Read rs items → items ≡ tape_items t ++ part_begun h fs []
    → IsClosedIn (items ++ Says (frames.DumpEnd e) ∷ Filemark ∷ []) (next_found t (record { head = h; fragments = fs; end = e }))
ended_closes rs t h ended fs e items front fit some number dump more end_fits read same =
    let p : Part = record { head = h; fragments = fs; end = e } in
    let ends : List Item = Says (frames.DumpEnd e) ∷ Filemark ∷ [] in
    let ends_fit : All IsFitItem ends = All-cons IsFitItem (Says (frames.DumpEnd e)) (Filemark ∷ []) end_fits (All-cons IsFitItem Filemark [] tt (All-nil IsFitItem)) in
    let fits : All IsFitItem (part_items p) = subst (All IsFitItem) (part_shape h fs e) (All_join IsFitItem (part_begun h fs []) ends (begun_fits rs t h fs items front.tape read same) ends_fit) in
    let made = one_part_more t p front.tape front.some (is_part t h ended fs e front fit some number dump more) fits front.behind (agree_uses t p front.tape.uses front.uses) in
    let stands : tape_items t ++ part_items p ≡ items ++ ends = ap (λ (l : List Item). tape_items t ++ l) (sym (part_shape h fs e)) ∙ sym (append_assoc (tape_items t) (part_begun h fs []) ends) ∙ ap (λ (l : List Item). l ++ ends) (sym same) in
    subst (λ (l : List Item). IsClosedIn l (next_found t p)) stands (next_closed t p made.0 made.1 made.2)

-- ---- its place

pub fragments_length : (fs : List Fragment) → length (flat_map fragment_items fs) ≡ fragments_len fs
fragments_length [] = refl
fragments_length (f ∷ fs) = omega (arith, length-append (fragment_items f) (flat_map fragment_items fs), fragment_length f, fragments_length fs, sum_by-cons fragment_len f fs)

-- it ends where its end and a filemark were put
pub ends_there : (t : Tape) (h : DumpHeadFields) (fs : List Fragment) (e : DumpEndFields) (items : List Item) → items ≡ tape_items t ++ part_begun h fs [] → (next_found t (record { head = h; fragments = fs; end = e })).end ≡ length items + 2
ends_there t h fs e items same =
    omega (arith, ap length same, length-append (tape_items t) (part_begun h fs []), length-append (flat_map fragment_items fs) [], fragments_length fs)
