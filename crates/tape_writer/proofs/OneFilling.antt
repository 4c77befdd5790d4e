-- Two fillings of the same tapes by the same dump are one.
use Rattle.std.proofs.Common.{◌≡◌, inl, inr, ℕ, ◌+◌, ◌≤◌, Bool, true, false, Option, Some, None, List, [], ◌∷◌, ◌++◌, length, refl, sym, ap, subst, ◌∙◌, arith}
use Rattle.std.specs.Prelude.{All, ◌&&◌, ◌==◌, if◌then◌else◌, slice_get, sum_by}
use Rattle.std.proofs.lemmas.Bool.{cases_Bool, eqb-true, eq-eqb}
use Rattle.std.proofs.lemmas.List.{append_cancel_left}
use Rattle.std.proofs.lemmas.List.Elements.{All-nil, All-cons, All-head, All-tail, All-append}
use Rattle.std.proofs.lemmas.Option.{slice_get_cases}
use Rattle.tape_config.specs.declared.port.PortFields.{PortFields}
use Rattle.tape_frames.specs.declared.dump_head.DumpHeadFields.{DumpHeadFields}
use Rattle.tape_frames.specs.declared.frame.Frame.TheVariants as frames
use Rattle.tape_frames.specs.Layouts.{FitsData}
use Rattle.tape_text.specs.Items.{Says, Filemark, IsFitItem}
use Rattle.tape_text.specs.Texts.{Fragment, Part, Linked, ends_dump, Begins, IsOf}
use Rattle.tape_text.specs.Parts.{part_marks}
use Rattle.tape_text.specs.Wholes.{GoesOn, Ends, NextTape}
use Rattle.tape_writer.specs.Filling.{Start, Dumping, fragment_blocks, part_blocks, HasNoRoomBehind, head_of, of_index, IsPut, AreOn, TapeText}
use Rattle.tape_writer.proofs.OneFragment.{IsWell, HasHead, Follows, bytes_at, bytes_at-append}
use Rattle.tape_writer.proofs.OneTape.{SameBytes, LeftAt, Side, same_fragments}
use Rattle.tape_writer.proofs.OneText.{Begins_map, Ends_map, last_of, Ends_last, some_same, fragments_in, all_linked, fit_fragments, Run}

-- ---- what holds of all fragments

zip_well : (dump id n : ℕ) (volumes : List Dumping) (fs : List Fragment) → n ≡ length volumes → All (IsOf id n) fs → All (λ f. All FitsData f.pieces × (f.end.last ≤ 1)) fs → All (HasHead dump volumes) fs → All (IsWell dump volumes) fs
zip_well dump id n volumes [] count of fits heads = All-nil (IsWell dump volumes)
zip_well dump id n volumes (f ∷ fs) count of fits heads =
    let here = All-head (IsOf id n) f fs of in
    let fit = All-head (λ (g : Fragment). All FitsData g.pieces × (g.end.last ≤ 1)) f fs fits in
    let well : IsWell dump volumes f = record {
      own = here.2;
      within = omega (arith, here.1, count);
      fits = fit.0;
      head = All-head (HasHead dump volumes) f fs heads;
      last = fit.1;
    } in
    All-cons (IsWell dump volumes) f fs well
    (zip_well dump id n volumes fs count (All-tail (IsOf id n) f fs of) (All-tail (λ (g : Fragment). All FitsData g.pieces × (g.end.last ≤ 1)) f fs fits) (All-tail (HasHead dump volumes) f fs heads))

All_front : {X : Type 0} (P : X → Type 0) (xs ys : List X) → All P (xs ++ ys) → All P xs
All_front P [] ys all = All-nil P
All_front P (x ∷ xs) ys all = All-cons P x xs (All-head P x (xs ++ ys) all) (All_front P xs ys (All-tail P x (xs ++ ys) all))

All_back : {X : Type 0} (P : X → Type 0) (xs ys : List X) → All P (xs ++ ys) → All P ys
All_back P [] ys all = all
All_back P (x ∷ xs) ys all = All_back P xs ys (All-tail P x (xs ++ ys) all)

part_well : (port : PortFields) (name : List ℕ) (dump : ℕ) (volumes : List Dumping) (s : Start) (p : Part) → IsPut port name s p → p.head.volumes ≡ length volumes → All (HasHead dump volumes) p.fragments → All (IsWell dump volumes) p.fragments
part_well port name dump volumes s p put count heads =
    zip_well dump p.head.id p.head.volumes volumes p.fragments count put.part.each
    (fit_fragments p.fragments (Says (frames.DumpEnd p.end) ∷ Filemark ∷ []) (All-tail IsFitItem (Says (frames.DumpHead p.head)) _ put.fit)) heads

all_well : (port : PortFields) (name : List ℕ) (dump : ℕ) (volumes : List Dumping) (starts : List Start) (p : Part) (ps : List Part) → AreOn port name starts (p ∷ ps) → Linked NextTape (p ∷ ps) → p.head.volumes ≡ length volumes → All (HasHead dump volumes) (fragments_in (p ∷ ps)) → All (IsWell dump volumes) (fragments_in (p ∷ ps))
all_well port name dump volumes [] p ps on linked count heads = absurd on
all_well port name dump volumes (s ∷ ss) p [] on linked count heads =
    All-append (IsWell dump volumes) p.fragments [] (part_well port name dump volumes s p on.0 count (All_front (HasHead dump volumes) p.fragments [] heads)) (All-nil (IsWell dump volumes))
all_well port name dump volumes (s ∷ ss) p (q ∷ ps) on linked count heads =
    All-append (IsWell dump volumes) p.fragments (fragments_in (q ∷ ps)) (part_well port name dump volumes s p on.0 count (All_front (HasHead dump volumes) p.fragments (fragments_in (q ∷ ps)) heads))
    (all_well port name dump volumes ss q ps on.1 linked.1 (linked.0.agree.volumes ∙ count) (All_back (HasHead dump volumes) p.fragments (fragments_in (q ∷ ps)) heads))

-- ---- how a tape is left

both_true : (a b : Bool) → (a && b) ≡ true → (a ≡ true) × (b ≡ true)
both_true true true is = (refl, refl)
both_true true false is = absurd (cc)
both_true false b is = absurd (cc)

ended : (n : ℕ) (fs : List Fragment) → ends_dump n fs ≡ true → Ends (λ f. (f.end.last ≡ 1) × (f.head.index + 1 ≡ n)) fs
ended n [] is = absurd (cc)
ended n (f ∷ []) is = let two = both_true (f.end.last == 1) (f.head.index + 1 == n) is in (eqb-true f.end.last 1 two.0, eqb-true (f.head.index + 1) n two.1)
ended n (f ∷ g ∷ fs) is = ended n (g ∷ fs) is

more_false : (b : Bool) (more : ℕ) → more ≡ 0 → more ≡ (if b then 0 else 1) → b ≡ true
more_false true more zero is = refl
more_false false more zero is = absurd (omega (arith, zero, is))

some_fragments : (P : Fragment → Type 0) (fs gs : List Fragment) → Begins P fs → fs ++ gs ≡ [] → ⊥
some_fragments P [] gs is none = is
some_fragments P (f ∷ fs) gs is none = absurd (cc)

leaves_of : (port : PortFields) (name : List ℕ) (volumes : List Dumping) (s : Start) (ss : List Start) (p : Part) (ps : List Part) → Run port name volumes (s ∷ ss) (p ∷ ps) → p.head.volumes ≡ length volumes
    → Ends (LeftAt port (length volumes) (s.blocks + part_blocks p) (s.marks + part_marks p) (fragments_in ps)) p.fragments
leaves_of port name volumes s ss p [] run count =
    let dump_ends = more_false (ends_dump p.head.volumes p.fragments) p.end.more run.ends run.on.0.part.more in
    Ends_map (λ (f : Fragment). (f.end.last ≡ 1) × (f.head.index + 1 ≡ length volumes)) (LeftAt port (length volumes) (s.blocks + part_blocks p) (s.marks + part_marks p) []) (λ f is. inl is) p.fragments
    (subst (λ (n : ℕ). Ends (λ (f : Fragment). (f.end.last ≡ 1) × (f.head.index + 1 ≡ n)) p.fragments) count (ended p.head.volumes p.fragments dump_ends))
leaves_of port name volumes s [] p (q ∷ ps) run count = absurd run.on.1
leaves_of port name volumes s (t ∷ ss) p (q ∷ ps) run count =
    Ends_map (HasNoRoomBehind port s p) (LeftAt port (length volumes) (s.blocks + part_blocks p) (s.marks + part_marks p) (fragments_in (q ∷ ps)))
    (λ f is. inr (some_fragments (λ (g : Fragment). q.head.part ≡ 1 → (g.head.index ≡ 0) × (g.head.fragment ≡ 1)) q.fragments (fragments_in ps) run.on.1.0.part.begins, is)) p.fragments run.full.0

side_of : (port : PortFields) (name : List ℕ) (dump : ℕ) (volumes : List Dumping) (s : Start) (ss : List Start) (p : Part) (ps : List Part) → Run port name volumes (s ∷ ss) (p ∷ ps) → p.head.volumes ≡ length volumes → All (HasHead dump volumes) (fragments_in (p ∷ ps))
    → Side port dump volumes (s.blocks + part_blocks p) (s.marks + part_marks p) p.fragments (fragments_in ps)
side_of port name dump volumes s ss p ps run count heads = record {
  linked = all_linked port name (s ∷ ss) (p ∷ ps) run.on run.linked;
  inside = run.on.0.part.linked;
  well = all_well port name dump volumes (s ∷ ss) p ps run.on run.linked count heads;
  stays = run.on.0.stays;
  leaves = leaves_of port name volumes s ss p ps run count;
}

-- ---- parts

same_list : (port : PortFields) (dump : ℕ) (volumes : List Dumping) (prev : Option Fragment) (b m : ℕ) (fs gs xs ys : List Fragment) → Begins (Follows prev) fs → Begins (Follows prev) gs
    → Side port dump volumes (b + (sum_by fragment_blocks fs + 2)) (m + (length fs + 1)) fs xs → Side port dump volumes (b + (sum_by fragment_blocks gs + 2)) (m + (length gs + 1)) gs ys → SameBytes (length volumes) (fs ++ xs) (gs ++ ys) → fs ≡ gs
same_list port dump volumes prev b m [] gs xs ys a c one two same = absurd a
same_list port dump volumes prev b m (f ∷ fs) [] xs ys a c one two same = absurd c
same_list port dump volumes prev b m (f ∷ fs) (g ∷ gs) xs ys a c one two same =
    same_fragments port dump volumes prev (b + 2) (m + 1) (b + (sum_by fragment_blocks (f ∷ fs) + 2)) (m + (length (f ∷ fs) + 1)) (b + (sum_by fragment_blocks (g ∷ gs) + 2)) (m + (length (g ∷ gs) + 1)) f fs g gs xs ys
    (omega arith) (omega arith) (omega arith) (omega arith) one two a c same

same_behind : (n : ℕ) (fs xs ys : List Fragment) → SameBytes n (fs ++ xs) (fs ++ ys) → SameBytes n xs ys
same_behind n fs xs ys same i below = append_cancel_left (bytes_at i fs) (bytes_at i xs) (bytes_at i ys) (sym (bytes_at-append i fs xs) ∙ same i below ∙ bytes_at-append i fs ys)

same_part : (port : PortFields) (name : List ℕ) (s : Start) (p q : Part) → IsPut port name s p → IsPut port name s q → p.head ≡ q.head → p.fragments ≡ q.fragments → p ≡ q
same_part port name s p q a b head fragments =
    let dump : p.end.dump ≡ q.end.dump = a.part.dump ∙ ap (λ (h : DumpHeadFields). h.id) head ∙ sym b.part.dump in
    let tape : p.end.tape ≡ q.end.tape = a.end ∙ ap (λ (h : DumpHeadFields). h.tape) head ∙ sym b.end in
    let ends : ends_dump p.head.volumes p.fragments ≡ ends_dump q.head.volumes q.fragments = λ i. ends_dump (head i).volumes (fragments i) in
    let more : p.end.more ≡ q.end.more = a.part.more ∙ ap (λ (b : Bool). if b then 0 else 1) ends ∙ sym b.part.more in
    λ i. record { head = head i; fragments = fragments i; end = record { dump = dump i; tape = tape i; more = more i } }

tells : (n : ℕ) → 1 ≤ n → n ≡ 0 → ⊥
tells n some none = absurd (omega (arith, some, none))

next_heads : (port : PortFields) (name : List ℕ) (s : Start) (p q r : Part) → NextTape p q → NextTape p r → IsPut port name s q → IsPut port name s r → q.head ≡ r.head
next_heads port name s p q r n m a b =
    let id : q.head.id ≡ r.head.id = n.agree.id ∙ sym m.agree.id in
    let initial : q.head.initial ≡ r.head.initial = n.agree.initial ∙ sym m.agree.initial in
    let parent : q.head.parent ≡ r.head.parent = n.agree.parent ∙ sym m.agree.parent in
    let expires : q.head.expires ≡ r.head.expires = n.agree.expires ∙ sym m.agree.expires in
    let tape : q.head.tape ≡ r.head.tape = n.tape ∙ sym m.tape in
    let part : q.head.part ≡ r.head.part = n.part ∙ sym m.part in
    let volumes : q.head.volumes ≡ r.head.volumes = n.agree.volumes ∙ sym m.agree.volumes in
    let set : q.head.set ≡ r.head.set = n.agree.set ∙ sym m.agree.set in
    let level : q.head.level ≡ r.head.level = n.agree.level ∙ sym m.agree.level in
    let base : q.head.base ≡ r.head.base = n.agree.base ∙ sym m.agree.base in
    let cell : q.head.cell ≡ r.head.cell = a.cell ∙ sym b.cell in
    let permanent : q.head.permanent ≡ r.head.permanent = a.part.permanent (tells q.head.uses a.some) ∙ sym (b.part.permanent (tells r.head.uses b.some)) in
    let uses : q.head.uses ≡ r.head.uses = a.uses ∙ sym b.uses in
    λ i. record {
      id = id i;
      initial = initial i;
      parent = parent i;
      expires = expires i;
      tape = tape i;
      part = part i;
      volumes = volumes i;
      set = set i;
      level = level i;
      base = base i;
      cell = cell i;
      permanent = permanent i;
      uses = uses i;
    }

-- the first parts are the same, with all their fragments
first_part : (port : PortFields) (name : List ℕ) (dump : ℕ) (volumes : List Dumping) (prev : Option Fragment) (s : Start) (ss : List Start) (p : Part) (ps : List Part) (q : Part) (qs : List Part) → Run port name volumes (s ∷ ss) (p ∷ ps) → Run port name volumes (s ∷ ss) (q ∷ qs)
    → p.head ≡ q.head → p.head.volumes ≡ length volumes → All (HasHead dump volumes) (fragments_in (p ∷ ps)) → All (HasHead dump volumes) (fragments_in (q ∷ qs)) → Begins (Follows prev) p.fragments → Begins (Follows prev) q.fragments
    → SameBytes (length volumes) (fragments_in (p ∷ ps)) (fragments_in (q ∷ qs)) → (p.fragments ≡ q.fragments) × (p ≡ q)
first_part port name dump volumes prev s ss p ps q qs one two head count hp hq a c same =
    let count_q : q.head.volumes ≡ length volumes = ap (λ (h : DumpHeadFields). h.volumes) (sym head) ∙ count in
    let fragments = same_list port dump volumes prev s.blocks s.marks p.fragments q.fragments (fragments_in ps) (fragments_in qs) a c (side_of port name dump volumes s ss p ps one count hp) (side_of port name dump volumes s ss q qs two count_q hq) same in
    (fragments, same_part port name s p q one.on.0 two.on.0 head fragments)

same_parts : (port : PortFields) (name : List ℕ) (dump : ℕ) (volumes : List Dumping) (prev : Option Fragment) (starts : List Start) (p : Part) (ps : List Part) (q : Part) (qs : List Part) → Run port name volumes starts (p ∷ ps) → Run port name volumes starts (q ∷ qs)
    → p.head ≡ q.head → p.head.volumes ≡ length volumes → All (HasHead dump volumes) (fragments_in (p ∷ ps)) → All (HasHead dump volumes) (fragments_in (q ∷ qs)) → Begins (Follows prev) p.fragments → Begins (Follows prev) q.fragments
    → SameBytes (length volumes) (fragments_in (p ∷ ps)) (fragments_in (q ∷ qs)) → p ∷ ps ≡ q ∷ qs
same_parts port name dump volumes prev [] p ps q qs one two head count hp hq a c same = absurd one.on
same_parts port name dump volumes prev (s ∷ ss) p [] q [] one two head count hp hq a c same = ap (λ (x : Part). x ∷ []) (first_part port name dump volumes prev s ss p [] q [] one two head count hp hq a c same).1
same_parts port name dump volumes prev (s ∷ []) p [] q (r ∷ qs) one two head count hp hq a c same = absurd two.on.1
same_parts port name dump volumes prev (s ∷ t ∷ ss) p [] q (r ∷ qs) one two head count hp hq a c same = absurd one.on.1
same_parts port name dump volumes prev (s ∷ []) p (o ∷ ps) q qs one two head count hp hq a c same = absurd one.on.1
same_parts port name dump volumes prev (s ∷ t ∷ ss) p (o ∷ ps) q [] one two head count hp hq a c same = absurd two.on.1
same_parts port name dump volumes prev (s ∷ t ∷ ss) p (o ∷ ps) q (r ∷ qs) one two head count hp hq a c same =
    let first = first_part port name dump volumes prev s (t ∷ ss) p (o ∷ ps) q (r ∷ qs) one two head count hp hq a c same in
    let here : p ≡ q = first.1 in
    let e = Ends_last (λ (f : Fragment). Begins (λ (g : Fragment). GoesOn f g) o.fragments) p.fragments one.linked.0.goes_on in
    let d = Ends_last (λ (f : Fragment). Begins (λ (g : Fragment). GoesOn f g) r.fragments) q.fragments two.linked.0.goes_on in
    let last : d.0 ≡ e.0 = some_same d.0 e.0 (sym d.1 ∙ ap last_of (sym first.0) ∙ e.1) in
    let heads = next_heads port name t p o r one.linked.0 (subst (λ (x : Part). NextTape x r) (sym here) two.linked.0) one.on.1.0 two.on.1.0 in
    let rest : o ∷ ps ≡ r ∷ qs = same_parts port name dump volumes (Some e.0) (t ∷ ss) o ps r qs
    (record { on = one.on.1; full = one.full.1; linked = one.linked.1; ends = one.ends })
    (record { on = two.on.1; full = two.full.1; linked = two.linked.1; ends = two.ends })
    heads (one.linked.0.agree.volumes ∙ count) (All_back (HasHead dump volumes) p.fragments (fragments_in (o ∷ ps)) hp) (All_back (HasHead dump volumes) q.fragments (fragments_in (r ∷ qs)) hq)
    e.2 (subst (λ (x : Fragment). Begins (λ (g : Fragment). GoesOn x g) r.fragments) last d.2)
    (same_behind (length volumes) p.fragments (fragments_in (o ∷ ps)) (fragments_in (r ∷ qs)) (subst (λ (fs : List Fragment). SameBytes (length volumes) (p.fragments ++ fragments_in (o ∷ ps)) (fs ++ fragments_in (r ∷ qs))) (sym first.0) same)) in
    λ i. here i ∷ rest i

-- ---- the whole

-- each fragment has the head of its volume
heads_each : (dump : ℕ) (volumes : List Dumping) (fs : List Fragment) → ((i : ℕ) (v : Dumping) → slice_get volumes i ≡ Some v → All (λ f. f.head ≡ head_of dump i f.head.fragment v) (of_index i fs)) → All (HasHead dump volumes) fs
heads_each dump volumes [] all = All-nil (HasHead dump volumes)
heads_each dump volumes (f ∷ fs) all = All-cons (HasHead dump volumes) f fs
    (λ v at. All-head (λ (g : Fragment). g.head ≡ head_of dump f.head.index g.head.fragment v) f (of_index f.head.index fs) (subst (λ (l : List Fragment). All (λ (g : Fragment). g.head ≡ head_of dump f.head.index g.head.fragment v) l) (own_index f fs) (all f.head.index v at)))
    (heads_each dump volumes fs (λ i v at. tail_of i v (all i v at)))
  where
    own_index : (f : Fragment) (fs : List Fragment) → of_index f.head.index (f ∷ fs) ≡ f ∷ of_index f.head.index fs
    own_index f fs = let here : (f.head.index == f.head.index) ≡ true = eq-eqb f.head.index f.head.index refl in rw here refl

    tail_of : (i : ℕ) (v : Dumping) → All (λ g. g.head ≡ head_of dump i g.head.fragment v) (of_index i (f ∷ fs)) → All (λ g. g.head ≡ head_of dump i g.head.fragment v) (of_index i fs)
    tail_of i v all = elim (cases_Bool (f.head.index == i)) [
      | inl here ↦ All-tail (λ (g : Fragment). g.head ≡ head_of dump i g.head.fragment v) f (of_index i fs) (rw here at all)
      | inr other ↦ rw other at all
    ]

begins_first : (port : PortFields) (name : List ℕ) (starts : List Start) (p : Part) (ps : List Part) → AreOn port name starts (p ∷ ps) → p.head.part ≡ 1 → Begins (Follows None) p.fragments
begins_first port name [] p ps on part = absurd on
begins_first port name (s ∷ ss) p ps on part = Begins_map (λ (f : Fragment). p.head.part ≡ 1 → (f.head.index ≡ 0) × (f.head.fragment ≡ 1)) (Follows None) (λ f is. is part) p.fragments on.0.part.begins

pub one_filling : (port : PortFields) (name : List ℕ) (head : DumpHeadFields) (volumes : List Dumping) (starts : List Start) (ps qs : List Part) → TapeText port name head volumes starts ps → TapeText port name head volumes starts qs → ps ≡ qs
one_filling port name head volumes starts [] qs a b = absurd a.whole.begins
one_filling port name head volumes starts (p ∷ ps) [] a b = absurd b.whole.begins
one_filling port name head volumes starts (p ∷ ps) (q ∷ qs) a b =
    same_parts port name head.id volumes None starts p ps q qs
    (record { on = a.on; full = a.full; linked = a.whole.linked; ends = a.whole.ends })
    (record { on = b.on; full = b.full; linked = b.whole.linked; ends = b.whole.ends })
    (a.begins ∙ sym b.begins) (ap (λ (h : DumpHeadFields). h.volumes) a.begins ∙ a.count)
    (heads_each head.id volumes (fragments_in (p ∷ ps)) (λ i v at. (a.dumped i v at).heads)) (heads_each head.id volumes (fragments_in (q ∷ qs)) (λ i v at. (b.dumped i v at).heads))
    (begins_first port name starts p ps a.on a.whole.begins) (begins_first port name starts q qs b.on b.whole.begins)
    (λ i below. elim (slice_get_cases volumes i).1 [
      | inl found ↦ (a.dumped i found.0 found.2).stream ∙ sym (b.dumped i found.0 found.2).stream
      | inr past ↦ absurd (omega (arith, past.0, below))
    ])
