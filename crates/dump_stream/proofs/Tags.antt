-- One tag of what is still to come: it is one that form_at allows, and what follows is the rest after it.
use Rattle.std.proofs.Common.{◌≡◌, ◌⊎◌, ℕ, ◌+◌, ◌<◌, Bool, true, false, cond, eqb, ltb, List, [], ◌∷◌, ◌++◌, length, map, Option, Some, None, refl, sym, ap, subst, ◌∙◌, append_assoc, ◌-◌, inl, inr, lit<}
use Rattle.std.specs.List.{flat_map}
use Rattle.std.specs.Prelude.{◌&&◌}
use Rattle.std.proofs.lemmas.Bool.{cases_eq, ne_eqb, lt-ltb, ltb-true, and_parts}
use Rattle.std.proofs.lemmas.List.{append-nil, length_push}
use Rattle.std.proofs.lemmas.List.Elements.{All-nil, All-from_recursion}
use Rattle.dump_stream.specs.declared.form.Form.{Form}
use Rattle.dump_stream.specs.declared.form.Form.TheVariants as forms
use Rattle.dump_stream.specs.declared.sofar.Field.{Field}
use Rattle.dump_stream.specs.declared.sofar.Sofar.{Sofar}
use Rattle.dump_stream.specs.declared.sofar.Sofar.TheVariants.{Start, Dump, Volume, Vnode, Ended}
use Rattle.dump_stream.specs.declared.sofar.DumpHead.{DumpHead}
use Rattle.vnode_model.specs.declared.increments.Entry.{Entry}
use Rattle.vnode_model.specs.declared.increments.Increment.{Increment}
use Rattle.dump_stream.specs.Forms.{IsWhole, opening, closing, number_from}
use Rattle.dump_stream.specs.Fields.{spelled, has, used, body_of}
use Rattle.dump_stream.specs.Stream.{dump_table, header_table, vnode_table, dump_of, entry_of, entry, is_typed, Section, section, AreSections}
use Rattle.vnode_model.specs.Limits.{all_data}
use Rattle.dump_stream.specs.Machine.{Fields, Payload, with_entry, begun, form_at, after, Sections, AfterVnode, AfterHeader, AfterDump, Rest}
use Rattle.dump_stream.proofs.Laws.{Fields_tag, Fields_behind, Fields_from, Fields_nil}

-- this tag may come, and what follows is the rest after it
abbrev pub TagThen : Sofar → ℕ → List ℕ → Increment → Type 0
TagThen s tag bs i = (form : Form) × (form_at s tag ≡ Some form) × Payload form [] (λ p r. Rest (after s tag p) r i) bs

-- ---- sections

with_entries : Increment → List Entry → Increment
with_entries made es = record made { entries = es }

-- The next byte begins a section or the end.
abbrev NextSection : ℕ → ℕ → ℕ → Increment → Increment → ℕ → List ℕ → Type 0
NextSection count room last made i tag bs =
    ((tag ≡ 4) × (bs ≡ closing) × (i ≡ made))
    ⊎ ((tag ≡ 3) × (count < 65536) × Payload (forms.Vnode last) [] (λ p. Fields (vnode_table (number_from 0 p) room) [] (AfterVnode made room (number_from 0 p) (number_from 4 p) i)) bs)

same_made : (made : Increment) → record made { entries = made.entries ++ [] } ≡ made
same_made made = ap (λ (es : List Entry). record made { entries = es }) (append-nil made.entries)

sections_at : (count room last : ℕ) (made i : Increment) (tag : ℕ) (bs : List ℕ) → count ≡ length made.entries
    → (ss : List Section) → AreSections count room last ss → tag ∷ bs ≡ flat_map section ss ++ 4 ∷ closing → i ≡ record made { entries = made.entries ++ map entry ss }
    → NextSection count room last made i tag bs
sections_at count room last made i tag bs counted [] listed e says = inl (cc, cc, says ∙ same_made made)
sections_at count room last made i tag bs counted (s ∷ ss) listed e says =
    let same : tag ≡ 3 = cc in
    let rest : List ℕ = flat_map section ss ++ 4 ∷ closing in
    let e1 : bs ≡ ((s.head ++ flat_map spelled s.fields) ++ flat_map section ss) ++ 4 ∷ closing = cc in
    let e2 : bs ≡ s.head ++ (flat_map spelled s.fields ++ rest) =
    e1 ∙ append_assoc (s.head ++ flat_map spelled s.fields) (flat_map section ss) (4 ∷ closing) ∙ append_assoc s.head (flat_map spelled s.fields) rest in
    let n = number_from 0 s.head in
    let uniq = number_from 4 s.head in
    let behind : Sections (length made.entries + 1) (room - length (body_of s.fields)) n (with_entry made (entry_of n uniq s.fields)) i rest = (
      ss,
      subst (λ (k : ℕ). AreSections (k + 1) (room - length (body_of s.fields)) n ss) counted listed.2,
      refl,
      says ∙ ap (λ (es : List Entry). record made { entries = es }) (sym (append_assoc made.entries (entry s ∷ []) (map entry ss))),
    ) in
    inr (
      same,
      listed.0,
      (
        s.head,
        flat_map spelled s.fields ++ rest,
        e2,
        listed.1.numbered,
        (s.fields, rest, listed.1.listed, refl, (listed.1.typed, behind)),
      ),
    )

Sections_next : (count room last : ℕ) (made i : Increment) (tag : ℕ) (bs : List ℕ) → count ≡ length made.entries
    → Sections count room last made i (tag ∷ bs) → NextSection count room last made i tag bs
Sections_next count room last made i tag bs counted h = sections_at count room last made i tag bs counted h.0 h.1 h.2 h.3

pub Sections_end : (count room last : ℕ) (made : Increment) → Sections count room last made made (4 ∷ closing)
Sections_end count room last made = ([], tt, refl, sym (same_made made))

Sections_more : (count room last : ℕ) (made i : Increment) (bs : List ℕ) → count ≡ length made.entries → count < 65536
    → Payload (forms.Vnode last) [] (λ p. Fields (vnode_table (number_from 0 p) room) [] (AfterVnode made room (number_from 0 p) (number_from 4 p) i)) bs
    → Sections count room last made i (3 ∷ bs)
Sections_more count room last made i bs counted few h =
    let p = h.0 in
    let n = number_from 0 p in
    let inner = h.4 in
    let behind = inner.4.1 in
    let ss = behind.0 in
    let s : Section = record { head = p; fields = inner.0 } in
    let bytes_are : bs ≡ ((p ++ flat_map spelled inner.0) ++ flat_map section ss) ++ 4 ∷ closing =
    h.2 ∙ ap (λ (x : List ℕ). p ++ x) inner.3 ∙ ap (λ (x : List ℕ). p ++ (flat_map spelled inner.0 ++ x)) behind.2
    ∙ sym (append_assoc (p ++ flat_map spelled inner.0) (flat_map section ss) (4 ∷ closing) ∙ append_assoc p (flat_map spelled inner.0) (flat_map section ss ++ 4 ∷ closing)) in (
      s ∷ ss,
      (few, record { numbered = h.3; listed = inner.2; typed = inner.4.0 }, subst (λ (k : ℕ). AreSections (k + 1) (room - length (body_of inner.0)) n ss) (sym counted) behind.1),
      ap (λ (x : List ℕ). 3 ∷ x) bytes_are,
      behind.3 ∙ ap (λ (es : List Entry). record made { entries = es }) (append_assoc made.entries (entry s ∷ []) (map entry ss)),
    )

-- ---- each place

pub Some≢None : {A : Type 0} (x : A) → None ≡ Some x → ⊥
Some≢None x e = cc

all_nil : (p r front : List ℕ) → p ≡ front ++ r → length r ≡ 0 → p ≡ front
all_nil p [] front e len = e ∙ append-nil front
all_nil p (b ∷ r) front e len = absurd cc

-- a test that gave a form
pub chosen : (b : Bool) (o : Option Form) (form : Form) → cond b o None ≡ Some form → (b ≡ true) × (o ≡ Some form)
chosen true o form e = (refl, e)
chosen false o form e = absurd (Some≢None form e)

pub free : (b : Bool) (o : Option Form) (form : Form) → cond b None o ≡ Some form → (b ≡ false) × (o ≡ Some form)
free true o form e = absurd (Some≢None form e)
free false o form e = (refl, e)

opening_whole : IsWhole forms.Opening opening
opening_whole = (All-from_recursion (λ b. b < 256) opening (lit< tt, (lit< tt, (lit< tt, (lit< tt, (lit< tt, (lit< tt, (lit< tt, (lit< tt, tt)))))))), ([], refl, refl))

closing_whole : IsWhole forms.Closing closing
closing_whole = (All-from_recursion (λ b. b < 256) closing (lit< tt, (lit< tt, (lit< tt, (lit< tt, tt)))), ([], refl, refl))

nothing_whole : IsWhole (forms.Exact 0) []
nothing_whole = (All-nil (λ b. b < 256), ([], refl, refl))

start_to : (tag : ℕ) (bs : List ℕ) (i : Increment) → Rest Start (tag ∷ bs) i → TagThen Start tag bs i
start_to tag bs i h =
    let same : 1 ≡ tag = cc h.1 in
    let rest_is : bs ≡ opening ++ h.0 = cc h.1 in
    subst (λ (t : ℕ). TagThen Start t bs i) same (forms.Opening, refl, (opening, h.0, rest_is, opening_whole, h.2))

start_from : (tag : ℕ) (bs : List ℕ) (i : Increment) → TagThen Start tag bs i → Rest Start (tag ∷ bs) i
start_from tag bs i h = elim (cases_eq tag 1) [
  | inl is ↦
      let h1 : TagThen Start 1 bs i = subst (λ (t : ℕ). TagThen Start t bs i) is h in
      let form_is : h1.0 ≡ forms.Opening = cc h1.1 in
      let whole : IsWhole forms.Opening h1.2.0 = subst (λ (f : Form). IsWhole f h1.2.0) form_is h1.2.3 in
      let payload_is : h1.2.0 ≡ opening = all_nil h1.2.0 whole.1.0 opening whole.1.1 whole.1.2 in
      (h1.2.1, rw is (ap (λ (x : List ℕ). 1 ∷ x) (h1.2.2 ∙ ap (λ (x : List ℕ). x ++ h1.2.1) payload_is)), h1.2.4)
  | inr not ↦ absurd (Some≢None h.0 (let e : eqb tag 1 ≡ false = ne_eqb tag 1 not in rw e at h.1))
]

dump_to : (fs : List Field) (tag : ℕ) (bs : List ℕ) (i : Increment) → Rest (Dump fs) (tag ∷ bs) i → TagThen (Dump fs) tag bs i
dump_to fs tag bs i h = elim (Fields_tag dump_table fs (AfterDump i) tag bs h) [
  | inl k ↦
      let same : 2 ≡ tag = cc k.2 in
      let rest_is : k.1 ≡ bs = cc k.2 in
      let at : form_at (Dump fs) 2 ≡ Some (forms.Exact 0) = rw k.0 refl in
      subst (λ (t : ℕ). TagThen (Dump fs) t bs i) same (forms.Exact 0, at, ([], bs, refl, nothing_whole, subst (Fields header_table [] (AfterHeader (dump_of fs) i)) rest_is k.3))
  | inr k ↦
      let not : tag ≡ 2 → ⊥ = λ is. Some≢None k.0 (subst (λ (t : ℕ). dump_table t ≡ Some k.0) is k.1) in
      let e : eqb tag 2 ≡ false = ne_eqb tag 2 not in
      (k.0, rw (e, k.2) k.1, rw e k.3)
]

dump_from : (fs : List Field) (tag : ℕ) (bs : List ℕ) (i : Increment) → TagThen (Dump fs) tag bs i → Rest (Dump fs) (tag ∷ bs) i
dump_from fs tag bs i h = elim (cases_eq tag 2) [
  | inl is ↦
      let h1 : TagThen (Dump fs) 2 bs i = subst (λ (t : ℕ). TagThen (Dump fs) t bs i) is h in
      let a = chosen (has 110 fs) (Some (forms.Exact 0)) h1.0 h1.1 in
      let form_is : h1.0 ≡ forms.Exact 0 = cc a.1 in
      let whole : IsWhole (forms.Exact 0) h1.2.0 = subst (λ (f : Form). IsWhole f h1.2.0) form_is h1.2.3 in
      let payload_is : h1.2.0 ≡ [] = all_nil h1.2.0 whole.1.0 [] whole.1.1 whole.1.2 in
      let rest_is : h1.2.1 ≡ bs = sym (h1.2.2 ∙ ap (λ (x : List ℕ). x ++ h1.2.1) payload_is) in
      let behind : AfterDump i fs (2 ∷ bs) = (a.0, bs, refl, subst (Fields header_table [] (AfterHeader (dump_of fs) i)) rest_is h1.2.4) in
      Fields_behind dump_table fs (AfterDump i) (tag ∷ bs) (rw is behind)
  | inr not ↦
      let e : eqb tag 2 ≡ false = ne_eqb tag 2 not in
      let a = free (used tag fs) (dump_table tag) h.0 (rw e at h.1) in
      Fields_from dump_table fs (AfterDump i) tag bs (h.0, a.1, a.0, rw e at h.2)
]

header_to : (dump : DumpHead) (fs : List Field) (tag : ℕ) (bs : List ℕ) (i : Increment) → Rest (Volume dump fs) (tag ∷ bs) i → TagThen (Volume dump fs) tag bs i
header_to dump fs tag bs i h = elim (Fields_tag header_table fs (AfterHeader dump i) tag bs h) [
  | inl k ↦
      let made = begun dump fs in
      elim (Sections_next 0 all_data 0 made i tag bs refl k.1) [
        | inl e ↦
            let at : form_at (Volume dump fs) 4 ≡ Some forms.Closing = rw k.0 refl in
            rw e.0 (forms.Closing, at, (closing, [], e.1 ∙ sym (append-nil closing), closing_whole, (refl, e.2)))
        | inr m ↦
            let at : form_at (Volume dump fs) 3 ≡ Some (forms.Vnode 0) = rw k.0 refl in
            rw m.0 (forms.Vnode 0, at, m.2)
      ]
  | inr k ↦
      let not3 : tag ≡ 3 → ⊥ = λ is. Some≢None k.0 (subst (λ (t : ℕ). header_table t ≡ Some k.0) is k.1) in
      let not4 : tag ≡ 4 → ⊥ = λ is. Some≢None k.0 (subst (λ (t : ℕ). header_table t ≡ Some k.0) is k.1) in
      let e3 : eqb tag 3 ≡ false = ne_eqb tag 3 not3 in
      let e4 : eqb tag 4 ≡ false = ne_eqb tag 4 not4 in
      (k.0, rw (e3, e4, k.2) k.1, rw (e3, e4) k.3)
]

-- the end: what was behind the byte 4, and nothing behind that
closed : (made i : Increment) (bs q r : List ℕ) (form : Form) → form ≡ forms.Closing → bs ≡ q ++ r → IsWhole form q → (r ≡ []) × (i ≡ made) → (bs ≡ closing) × (i ≡ made)
closed made i bs q r form form_is e whole rest =
    let whole1 : IsWhole forms.Closing q = subst (λ (f : Form). IsWhole f q) form_is whole in
    let q_is : q ≡ closing = all_nil q whole1.1.0 closing whole1.1.1 whole1.1.2 in
    (e ∙ ap (λ (x : List ℕ). q ++ x) rest.0 ∙ append-nil q ∙ q_is, rest.1)

Sections_closed : (count room last : ℕ) (made i : Increment) (bs : List ℕ) → (bs ≡ closing) × (i ≡ made) → Sections count room last made i (4 ∷ bs)
Sections_closed count room last made i bs h = subst (λ (x : Increment). Sections count room last made x (4 ∷ bs)) (sym h.1) (rw h.0 (Sections_end count room last made))

header_from : (dump : DumpHead) (fs : List Field) (tag : ℕ) (bs : List ℕ) (i : Increment) → TagThen (Volume dump fs) tag bs i → Rest (Volume dump fs) (tag ∷ bs) i
header_from dump fs tag bs i h = elim (cases_eq tag 3) [
  | inl is ↦
      let h1 : TagThen (Volume dump fs) 3 bs i = subst (λ (t : ℕ). TagThen (Volume dump fs) t bs i) is h in
      let a = chosen (has 110 fs) (Some (forms.Vnode 0)) h1.0 h1.1 in
      let form_is : h1.0 ≡ forms.Vnode 0 = cc a.1 in
      let then = subst (λ (f : Form). Payload f [] (λ p. Fields (vnode_table (number_from 0 p) all_data) [] (AfterVnode (begun dump fs) all_data (number_from 0 p) (number_from 4 p) i)) bs) form_is h1.2 in
      let behind : AfterHeader dump i fs (3 ∷ bs) = (a.0, Sections_more 0 all_data 0 (begun dump fs) i bs refl (lit< tt) then) in
      Fields_behind header_table fs (AfterHeader dump i) (tag ∷ bs) (rw is behind)
  | inr not3 ↦ elim (cases_eq tag 4) [
    | inl is ↦
        let h1 : TagThen (Volume dump fs) 4 bs i = subst (λ (t : ℕ). TagThen (Volume dump fs) t bs i) is h in
        let a = chosen (has 110 fs) (Some forms.Closing) h1.0 h1.1 in
        let form_is : h1.0 ≡ forms.Closing = cc a.1 in
        let ends = closed (begun dump fs) i bs h1.2.0 h1.2.1 h1.0 form_is h1.2.2 h1.2.3 h1.2.4 in
        let behind : AfterHeader dump i fs (4 ∷ bs) = (a.0, Sections_closed 0 all_data 0 (begun dump fs) i bs ends) in
        Fields_behind header_table fs (AfterHeader dump i) (tag ∷ bs) (rw is behind)
    | inr not4 ↦
        let e3 : eqb tag 3 ≡ false = ne_eqb tag 3 not3 in
        let e4 : eqb tag 4 ≡ false = ne_eqb tag 4 not4 in
        let a = free (used tag fs) (header_table tag) h.0 (rw (e3, e4) at h.1) in
        Fields_from header_table fs (AfterHeader dump i) tag bs (h.0, a.1, a.0, rw (e3, e4) at h.2)
  ]
]

vnode_to : (made : Increment) (room n uniq : ℕ) (fs : List Field) (tag : ℕ) (bs : List ℕ) (i : Increment) → Rest (Vnode made room n uniq fs) (tag ∷ bs) i → TagThen (Vnode made room n uniq fs) tag bs i
vnode_to made room n uniq fs tag bs i h = elim (Fields_tag (vnode_table n room) fs (AfterVnode made room n uniq i) tag bs h) [
  | inl k ↦
      let count = length made.entries + 1 in
      elim (Sections_next count (room - length (body_of fs)) n (with_entry made (entry_of n uniq fs)) i tag bs (sym (length_push made.entries (entry_of n uniq fs))) k.1) [
        | inl e ↦
            let at : form_at (Vnode made room n uniq fs) 4 ≡ Some forms.Closing = rw k.0 refl in
            rw e.0 (forms.Closing, at, (closing, [], e.1 ∙ sym (append-nil closing), closing_whole, (refl, e.2)))
        | inr m ↦
            let few : ltb count 65536 ≡ true = lt-ltb _ _ m.1 in
            let at : form_at (Vnode made room n uniq fs) 3 ≡ Some (forms.Vnode n) = rw (k.0, few) refl in
            rw m.0 (forms.Vnode n, at, m.2)
      ]
  | inr k ↦
      let not3 : tag ≡ 3 → ⊥ = λ is. Some≢None k.0 (subst (λ (t : ℕ). vnode_table n room t ≡ Some k.0) is k.1) in
      let not4 : tag ≡ 4 → ⊥ = λ is. Some≢None k.0 (subst (λ (t : ℕ). vnode_table n room t ≡ Some k.0) is k.1) in
      let e3 : eqb tag 3 ≡ false = ne_eqb tag 3 not3 in
      let e4 : eqb tag 4 ≡ false = ne_eqb tag 4 not4 in
      (k.0, rw (e3, e4, k.2) k.1, rw (e3, e4) k.3)
]

vnode_from : (made : Increment) (room n uniq : ℕ) (fs : List Field) (tag : ℕ) (bs : List ℕ) (i : Increment) → TagThen (Vnode made room n uniq fs) tag bs i → Rest (Vnode made room n uniq fs) (tag ∷ bs) i
vnode_from made room n uniq fs tag bs i h = elim (cases_eq tag 3) [
  | inl is ↦
      let count = length made.entries + 1 in
      let made1 = with_entry made (entry_of n uniq fs) in
      let h1 : TagThen (Vnode made room n uniq fs) 3 bs i = subst (λ (t : ℕ). TagThen (Vnode made room n uniq fs) t bs i) is h in
      let a = chosen (is_typed fs && ltb count 65536) (Some (forms.Vnode n)) h1.0 h1.1 in
      let both = and_parts (is_typed fs) (ltb count 65536) a.0 in
      let form_is : h1.0 ≡ forms.Vnode n = cc a.1 in
      let then = subst (λ (f : Form). Payload f [] (λ p. Fields (vnode_table (number_from 0 p) (room - length (body_of fs))) [] (AfterVnode made1 (room - length (body_of fs)) (number_from 0 p) (number_from 4 p) i)) bs) form_is h1.2 in
      let behind : AfterVnode made room n uniq i fs (3 ∷ bs) = (both.0, Sections_more count (room - length (body_of fs)) n made1 i bs (sym (length_push made.entries (entry_of n uniq fs))) (ltb-true _ _ both.1) then) in
      Fields_behind (vnode_table n room) fs (AfterVnode made room n uniq i) (tag ∷ bs) (rw is behind)
  | inr not3 ↦ elim (cases_eq tag 4) [
    | inl is ↦
        let h1 : TagThen (Vnode made room n uniq fs) 4 bs i = subst (λ (t : ℕ). TagThen (Vnode made room n uniq fs) t bs i) is h in
        let a = chosen (is_typed fs) (Some forms.Closing) h1.0 h1.1 in
        let form_is : h1.0 ≡ forms.Closing = cc a.1 in
        let ends = closed (with_entry made (entry_of n uniq fs)) i bs h1.2.0 h1.2.1 h1.0 form_is h1.2.2 h1.2.3 h1.2.4 in
        let behind : AfterVnode made room n uniq i fs (4 ∷ bs) = (a.0, Sections_closed (length made.entries + 1) (room - length (body_of fs)) n (with_entry made (entry_of n uniq fs)) i bs ends) in
        Fields_behind (vnode_table n room) fs (AfterVnode made room n uniq i) (tag ∷ bs) (rw is behind)
    | inr not4 ↦
        let e3 : eqb tag 3 ≡ false = ne_eqb tag 3 not3 in
        let e4 : eqb tag 4 ≡ false = ne_eqb tag 4 not4 in
        let a = free (used tag fs) (vnode_table n room tag) h.0 (rw (e3, e4) at h.1) in
        Fields_from (vnode_table n room) fs (AfterVnode made room n uniq i) tag bs (h.0, a.1, a.0, rw (e3, e4) at h.2)
  ]
]

-- ---- the law of a tag

pub Rest_tag : (s : Sofar) (tag : ℕ) (bs : List ℕ) (i : Increment) → Rest s (tag ∷ bs) i → TagThen s tag bs i
Rest_tag Start tag bs i h = start_to tag bs i h
Rest_tag (Dump fs) tag bs i h = dump_to fs tag bs i h
Rest_tag (Volume dump fs) tag bs i h = header_to dump fs tag bs i h
Rest_tag (Vnode made room n uniq fs) tag bs i h = vnode_to made room n uniq fs tag bs i h
Rest_tag (Ended made) tag bs i h = absurd cc

pub Rest_from : (s : Sofar) (tag : ℕ) (bs : List ℕ) (i : Increment) → TagThen s tag bs i → Rest s (tag ∷ bs) i
Rest_from Start tag bs i h = start_from tag bs i h
Rest_from (Dump fs) tag bs i h = dump_from fs tag bs i h
Rest_from (Volume dump fs) tag bs i h = header_from dump fs tag bs i h
Rest_from (Vnode made room n uniq fs) tag bs i h = vnode_from made room n uniq fs tag bs i h
Rest_from (Ended made) tag bs i h = absurd (Some≢None h.0 h.1)

-- ---- the end of the bytes

sections_none : (ss : List Section) → [] ≡ flat_map section ss ++ 4 ∷ closing → ⊥
sections_none [] e = cc
sections_none (s ∷ ss) e = cc

pub Rest_nil : (s : Sofar) (i : Increment) → Rest s [] i → s ≡ Ended i
Rest_nil Start i h = absurd cc
Rest_nil (Dump fs) i h = absurd (let k = Fields_nil dump_table fs (AfterDump i) h in cc)
Rest_nil (Volume dump fs) i h = absurd (let k = Fields_nil header_table fs (AfterHeader dump i) h in sections_none k.1.0 k.1.2)
Rest_nil (Vnode made room n uniq fs) i h = absurd (let k = Fields_nil (vnode_table n room) fs (AfterVnode made room n uniq i) h in sections_none k.1.0 k.1.2)
Rest_nil (Ended made) i h = ap (λ (x : Increment). Ended x) (sym h.1)
