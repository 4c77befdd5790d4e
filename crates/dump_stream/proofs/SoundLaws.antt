-- The fields so far are fields of their section, and the entries so far are fit.
use Rattle.std.proofs.Common.{◌≡◌, ◌⊎◌, ℕ, ◌+◌, ◌-◌, ◌%◌, ◌<◌, ◌≤◌, min, Bool, true, false, cond, eqb, ltb, List, [], ◌∷◌, ◌++◌, length, map, take, drop, replicate, Option, Some, None, refl, sym, ap, subst, ◌∙◌, append_assoc, inl, inr, arith, length-append, length-drop}
use Rattle.std.specs.Prelude.{is_some, IfSome, IsSome, IsSomeAnd, sum_by, slice_index, ◌&&◌}
use Rattle.std.proofs.lemmas.List.{append-nil, take-append-le, take_all}
use Rattle.std.proofs.lemmas.List.Elements.{All-nil, All-push, All-get_or, All-weaker}
use Rattle.std.proofs.lemmas.List.Quantifiers.{all_pairs_push}
use Rattle.std.proofs.lemmas.List.Sums.{sum_by-append}
use Rattle.std.proofs.lemmas.Bool.{cases_eq, cases_Bool, ne_eqb, eqb-true, and_parts, ltb-true}
use Rattle.vnode_model.specs.declared.vnodes.VnodeKind.TheVariants.{File, Directory, Symlink}
use Rattle.vnode_model.specs.declared.increments.Entry.{Entry}
use Rattle.vnode_model.specs.declared.increments.IncrementFields.{IncrementFields}
use Rattle.vnode_model.specs.Headers.{IsMessage, IsVolHeader}
use Rattle.vnode_model.specs.Limits.{StandsBefore, KindFits, AccessFits, IsFit, AreFit, number_of, data_len, most_vnodes, most_data, all_data, ComesAfter}
use Rattle.dump_stream.specs.declared.form.Form.{Form}
use Rattle.dump_stream.specs.declared.form.Form.TheVariants as forms
use Rattle.dump_stream.specs.declared.sofar.Field.{Field}
use Rattle.dump_stream.specs.declared.sofar.Sofar.{Sofar}
use Rattle.dump_stream.specs.declared.sofar.Sofar.TheVariants.{Start, Dump, Volume, Vnode, Ended}
use Rattle.dump_stream.specs.declared.sofar.DumpHead.{DumpHead}
use Rattle.dump_stream.specs.Forms.{IsWhole, number_from, size_len}
use Rattle.dump_stream.specs.Fields.{Table, IsField, AreFields, has, used, payload_of, byte, string, bytes_or, body, body_of}
use Rattle.dump_stream.specs.Stream.{dump_table, header_table, vnode_table, header_of, entry_of, kind_of, is_typed}
use Rattle.dump_stream.specs.Machine.{with_field, with_entry, form_at, after}
use Rattle.dump_stream.specs.Sound.{IsSound, IsNameThere, IsAccessWhole, MayFollow}
use Rattle.dump_stream.proofs.Tags.{chosen, free, Some≢None}

-- ---- fields

fields_pushed : (table : Table) (before fs : List Field) (f : Field) → AreFields table before fs → IsField table f → used f.tag (before ++ fs) ≡ false → AreFields table before (fs ++ f ∷ [])
fields_pushed table before [] f h k new = (k, subst (λ (x : List Field). used f.tag x ≡ false) (append-nil before) new, tt)
fields_pushed table before (g ∷ fs) f h k new =
    (h.0, h.1, fields_pushed table (before ++ g ∷ []) fs f h.2 k (subst (λ (x : List Field). used f.tag x ≡ false) (sym (append_assoc before (g ∷ []) fs)) new))

one_form : (o : Option Form) (f g : Form) → o ≡ Some f → o ≡ Some g → f ≡ g
one_form o f g d e = cc

-- the bytes behind a tag have the form that the table says
pub payload_fits : (table : Table) (before fs : List Field) (tag : ℕ) (form : Form) → AreFields table before fs → table tag ≡ Some form → IfSome (payload_of tag fs) (IsWhole form)
payload_fits table before [] tag form h at = tt
payload_fits table before (f ∷ fs) tag form h at = elim (cases_Bool (eqb f.tag tag)) [
  | inl e ↦
      let same : f.tag ≡ tag = eqb-true f.tag tag e in
      let at2 : table f.tag ≡ Some form = ap table same ∙ at in
      let form_is : h.0.0 ≡ form = one_form (table f.tag) h.0.0 form h.0.1 at2 in
      rw e (subst (λ (x : Form). IsWhole x f.payload) form_is h.0.2)
  | inr e ↦ rw e (payload_fits table (before ++ f ∷ []) fs tag form h.2 at)
]

-- a tag that the table lacks is no field's
pub payload_none : (table : Table) (before fs : List Field) (tag : ℕ) → AreFields table before fs → table tag ≡ None → payload_of tag fs ≡ None
payload_none table before [] tag h at = refl
payload_none table before (f ∷ fs) tag h at = elim (cases_Bool (eqb f.tag tag)) [
  | inl e ↦
      let same : f.tag ≡ tag = eqb-true f.tag tag e in
      absurd (Some≢None h.0.0 (sym at ∙ ap table (sym same) ∙ h.0.1))
  | inr e ↦ rw e (payload_none table (before ++ f ∷ []) fs tag h.2 at)
]

pub there : (o : Option (List ℕ)) (P : List ℕ → Type 0) → IfSome o P → is_some o ≡ true → IsSomeAnd o P
there None P h e = absurd cc
there (Some p) P h e = h

added : (table : Table) (fs : List Field) (tag : ℕ) (form : Form) (p : List ℕ) → AreFields table [] fs → cond (used tag fs) None (table tag) ≡ Some form → IsWhole form p → AreFields table [] (with_field fs tag p)
added table fs tag form p h at whole =
    let a = free (used tag fs) (table tag) form at in
    fields_pushed table [] fs (record { tag = tag; payload = p }) h (form, a.1, whole) a.0

-- ---- the headers

pub front_is : (text : List ℕ) (x : ℕ) → take (length (text ++ x ∷ []) - 1) (text ++ x ∷ []) ≡ text
front_is text x =
    let len : length (text ++ x ∷ []) - 1 ≡ length text = omega (arith, length-append text (x ∷ [])) in
    ap (λ (n : ℕ). take n (text ++ x ∷ [])) len ∙ take-append-le (length text) text (x ∷ []) (omega arith) ∙ take_all (length text) text (omega arith)

message_fits : (o : Option (List ℕ)) → IfSome o (IsWhole forms.Text) → IsMessage (string o)
message_fits None h = record { short = omega arith; each = All-nil (λ b. b ≡ 0 → ⊥) }
message_fits (Some p) h = subst IsMessage (sym (ap (λ (x : List ℕ). take (length x - 1) x) h.1.1 ∙ front_is h.1.0 0)) h.1.2

volume_kind_fits : (o : Option (List ℕ)) → IfSome o (IsWhole forms.VolumeKind) → byte o ≤ 2
volume_kind_fits None h = omega arith
volume_kind_fits (Some p) h = let at : slice_index p 0 ≡ h.1.0 = ap (λ (x : List ℕ). slice_index x 0) h.1.1 in omega (arith, at, h.1.2)

pub header_fits : (fs : List Field) → AreFields header_table [] fs → IsVolHeader (header_of fs)
header_fits fs h = record {
  kind = volume_kind_fits (payload_of 116 fs) (payload_fits header_table [] fs 116 forms.VolumeKind h refl);
  offline = message_fits (payload_of 79 fs) (payload_fits header_table [] fs 79 forms.Text h refl);
  message = message_fits (payload_of 77 fs) (payload_fits header_table [] fs 77 forms.Text h refl);
}

-- at the end of a header its name is there
pub named_dump : (fs : List Field) → IsSound (Dump fs) → IsSome (form_at (Dump fs) 2) → IsNameThere fs
named_dump fs h some = elim (cases_Bool (has 110 fs)) [
  | inl e ↦ there (payload_of 110 fs) (IsWhole forms.Name) (payload_fits dump_table [] fs 110 forms.Name h refl) e
  | inr absent ↦ absurd (let none : false ≡ true = rw absent at some in cc)
]

pub named_volume : (fs : List Field) → AreFields header_table [] fs → has 110 fs ≡ true → IsNameThere fs
named_volume fs h e = there (payload_of 110 fs) (IsWhole forms.Name) (payload_fits header_table [] fs 110 forms.Name h refl) e

pub named_header : (dump : DumpHead) (fs : List Field) (tag : ℕ) → (tag ≡ 3) ⊎ (tag ≡ 4) → IsSound (Volume dump fs) → IsSome (form_at (Volume dump fs) tag) → IsNameThere fs
named_header dump fs tag mark h some = elim (cases_Bool (has 110 fs)) [
  | inl e ↦ named_volume fs h e
  | inr absent ↦ elim mark [
    | inl is ↦ absurd (let some3 : IsSome (form_at (Volume dump fs) 3) = subst (λ (t : ℕ). IsSome (form_at (Volume dump fs) t)) is some in let none : false ≡ true = rw absent at some3 in cc)
    | inr is ↦ absurd (let some4 : IsSome (form_at (Volume dump fs) 4) = subst (λ (t : ℕ). IsSome (form_at (Volume dump fs) t)) is some in let none : false ≡ true = rw absent at some4 in cc)
  ]
]

-- ---- a vnode's section

not_odd : (n : ℕ) → (n % 2 ≡ 1 → ⊥) → n % 2 ≡ 0
not_odd n not = elim (cases_eq (n % 2) 0) [
  | inl e ↦ e
  | inr e ↦ absurd (not (omega (arith, e)))
]

pub is_odd : (n : ℕ) → eqb (n % 2) 1 ≡ true → n % 2 ≡ 1
is_odd n e = eqb-true (n % 2) 1 e

pub is_even : (n : ℕ) → eqb (n % 2) 1 ≡ false → n % 2 ≡ 0
is_even n e = not_odd n (λ odd. let t : eqb (n % 2) 1 ≡ true = rw odd refl in let none : false ≡ true = cc in absurd cc)

pub access_len : (o : Option (List ℕ)) → IfSome o (IsWhole (forms.Exact 192)) → IfSome o (λ p. length p ≡ 192)
access_len None h = tt
access_len (Some p) h = ap length h.1.1 ∙ h.1.2

pub access_whole : (n room : ℕ) (fs : List Field) → AreFields (vnode_table n room) [] fs → IsAccessWhole fs
access_whole n room fs h = elim (cases_Bool (eqb (n % 2) 1)) [
  | inl e ↦
      let at : vnode_table n room 65 ≡ Some (forms.Exact 192) = rw e refl in
      access_len (payload_of 65 fs) (payload_fits (vnode_table n room) [] fs 65 (forms.Exact 192) h at)
  | inr e ↦
      let at : vnode_table n room 65 ≡ None = rw e refl in
      let none : payload_of 65 fs ≡ None = payload_none (vnode_table n room) [] fs 65 h at in
      rw none tt
]

directory_kind : (o : Option (List ℕ)) → IsSomeAnd o (IsWhole (forms.Kind true)) → kind_of (byte o) ≡ Directory
directory_kind None h = absurd h
directory_kind (Some p) h =
    let at : slice_index p 0 ≡ 2 = ap (λ (x : List ℕ). slice_index x 0) h.1.1 ∙ h.1.2 in
    rw at refl

other_kind : (o : Option (List ℕ)) → IsSomeAnd o (IsWhole (forms.Kind false)) → (kind_of (byte o) ≡ File) ⊎ (kind_of (byte o) ≡ Symlink)
other_kind None h = absurd h
other_kind (Some p) h = elim h.1.2 [
  | inl e ↦ inl (let at : slice_index p 0 ≡ 1 = ap (λ (x : List ℕ). slice_index x 0) h.1.1 ∙ e in rw at refl)
  | inr e ↦ inr (let at : slice_index p 0 ≡ 3 = ap (λ (x : List ℕ). slice_index x 0) h.1.1 ∙ e in rw at refl)
]

abbrev KindAndAccess : ℕ → List Field → Type 0
KindAndAccess n fs = KindFits (kind_of (byte (payload_of 116 fs))) n × AccessFits (kind_of (byte (payload_of 116 fs))) (bytes_or (payload_of 65 fs) (replicate 192 0))

typed_kind : (n room : ℕ) (fs : List Field) (directory : Bool) → eqb (n % 2) 1 ≡ directory → AreFields (vnode_table n room) [] fs → has 116 fs ≡ true → IsSomeAnd (payload_of 116 fs) (IsWhole (forms.Kind directory))
typed_kind n room fs directory e h typed =
    let at : vnode_table n room 116 ≡ Some (forms.Kind directory) = ap (λ (d : Bool). Some (forms.Kind d)) e in
    there (payload_of 116 fs) (IsWhole (forms.Kind directory)) (payload_fits (vnode_table n room) [] fs 116 (forms.Kind directory) h at) typed

kind_and_access : (n room : ℕ) (fs : List Field) → AreFields (vnode_table n room) [] fs → has 116 fs ≡ true → KindAndAccess n fs
kind_and_access n room fs h typed = elim (cases_Bool (eqb (n % 2) 1)) [
  | inl e ↦
      let kind : kind_of (byte (payload_of 116 fs)) ≡ Directory = directory_kind (payload_of 116 fs) (typed_kind n room fs true e h typed) in
      rw kind (is_odd n e, tt)
  | inr e ↦
      let at : vnode_table n room 65 ≡ None = rw e refl in
      let none : payload_of 65 fs ≡ None = payload_none (vnode_table n room) [] fs 65 h at in
      elim (other_kind (payload_of 116 fs) (typed_kind n room fs false e h typed)) [
        | inl kind ↦ rw (kind, none) (is_even n e, refl)
        | inr kind ↦ rw (kind, none) (is_even n e, refl)
      ]
]

-- data has its limit
data_small : (wide : Bool) (limit : ℕ) (p : List ℕ) → IsWhole (forms.Data wide limit) p → length (drop (size_len wide) p) ≤ limit
data_small wide limit p h = omega (arith, length-drop (size_len wide) p, h.1.0, h.1.1)

body_within : (limit : ℕ) (o w : Option (List ℕ)) → IfSome o (IsWhole (forms.Data false limit)) → IfSome w (IsWhole (forms.Data true limit)) → length (body o w) ≤ limit
body_within limit None None h k = omega arith
body_within limit None (Some q) h k = data_small true limit q k
body_within limit (Some p) w h k = data_small false limit p h

pub body_small : (n room : ℕ) (fs : List Field) → AreFields (vnode_table n room) [] fs → length (body_of fs) ≤ min most_data room
body_small n room fs h =
    let limit = min most_data room in
    body_within limit (payload_of 102 fs) (payload_of 104 fs) (payload_fits (vnode_table n room) [] fs 102 (forms.Data false limit) h refl) (payload_fits (vnode_table n room) [] fs 104 (forms.Data true limit) h refl)

pub entry_fits : (n room uniq : ℕ) (fs : List Field) → AreFields (vnode_table n room) [] fs → is_typed fs ≡ true → IsFit (entry_of n uniq fs)
entry_fits n room uniq [] h typed = tt
entry_fits n room uniq (f ∷ fs) h typed =
    let k = kind_and_access n room (f ∷ fs) h typed in
    let small = body_small n room (f ∷ fs) h in
    record { kind = k.0; access = k.1; body = omega (arith, small) }

pub entry_number : (n uniq : ℕ) (fs : List Field) → number_of (entry_of n uniq fs) ≡ n
entry_number n uniq [] = refl
entry_number n uniq (f ∷ fs) = refl

pub entry_data : (n uniq : ℕ) (fs : List Field) → data_len (entry_of n uniq fs) ≡ length (body_of fs)
entry_data n uniq [] = refl
entry_data n uniq (f ∷ fs) = refl

-- ---- entries

map_push : (es : List Entry) (e : Entry) → map number_of (es ++ e ∷ []) ≡ map number_of es ++ number_of e ∷ []
map_push [] e = refl
map_push (d ∷ es) e = ap (λ (x : List ℕ). number_of d ∷ x) (map_push es e)

sum_push : (es : List Entry) (e : Entry) → sum_by data_len (es ++ e ∷ []) ≡ sum_by data_len es + data_len e
sum_push es e = sum_by-append data_len es (e ∷ []) ∙ omega arith

pub none_fit : AreFit []
none_fit = record {
  few = omega arith;
  numbered = All-nil (λ n. 1 ≤ n);
  ordered = λ i j d lt within. absurd (omega arith);
  each = All-nil IsFit;
  small = omega arith;
}

pub pushed_fit : (es : List Entry) (room n : ℕ) (e : Entry) → MayFollow es room n → IsFit e → number_of e ≡ n → data_len e ≤ room → AreFit (es ++ e ∷ [])
pushed_fit es room n e h fits number small = record {
  few = omega (arith, h.few, length-append es (e ∷ []));
  numbered = rw (map_push es e) (All-push (λ (k : ℕ). 1 ≤ k) (map number_of es) (number_of e) h.fit.numbered (rw number h.numbered));
  ordered = rw (map_push es e) (all_pairs_push StandsBefore (map number_of es) (number_of e) h.fit.ordered (λ k d lt. rw number (All-get_or (λ (m : ℕ). StandsBefore m n) (map number_of es) k d lt h.behind)));
  each = All-push IsFit es e h.fit.each fits;
  small = omega (arith, sum_push es e, h.room_left);
}

before_trans : (a b c : ℕ) → StandsBefore a b → StandsBefore b c → StandsBefore a c
before_trans a b c (inl h) (inl k) = absurd (let e : 0 ≡ 1 = sym h.1 ∙ k.0 in cc)
before_trans a b c (inl h) (inr k) = inl (h.0, sym k.0 ∙ h.1)
before_trans a b c (inr h) (inl k) = inl (h.0 ∙ k.0, k.1)
before_trans a b c (inr h) (inr k) = inr (h.0 ∙ k.0, omega (arith, h.1, k.1))

next_after : (last n : ℕ) → 1 ≤ last → ComesAfter last n → StandsBefore last n
next_after last n some h = elim h.1 [
  | inl none ↦ absurd (omega (arith, none))
  | inr before ↦ before
]

pub first_follows : (n : ℕ) → ComesAfter 0 n → MayFollow [] all_data n
first_follows n h = record {
  fit = none_fit;
  few = omega arith;
  numbered = h.0;
  behind = All-nil (λ m. StandsBefore m n);
  room_left = omega arith;
}

pub next_follows : (es : List Entry) (room n next : ℕ) (e : Entry) → MayFollow es room n → IsFit e → number_of e ≡ n → data_len e ≤ room → length es + 1 < most_vnodes → ComesAfter n next → MayFollow (es ++ e ∷ []) (room - data_len e) next
next_follows es room n next e h fits number small few after =
    let before = next_after n next h.numbered after in
    record {
      fit = pushed_fit es room n e h fits number small;
      few = omega (arith, length-append es (e ∷ []));
      numbered = after.0;
      behind = rw (map_push es e) (All-push (λ (m : ℕ). StandsBefore m next) (map number_of es) (number_of e)
          (All-weaker (λ (m : ℕ). StandsBefore m n) (λ (m : ℕ). StandsBefore m next) (λ m b. before_trans m n next b before) (map number_of es) h.behind) (rw number before));
      room_left = omega (arith, sum_push es e, h.room_left);
    }

-- ---- each place

pub entry_pushed : (made : IncrementFields) (room n uniq : ℕ) (fs : List Field) → IsSound (Vnode made room n uniq fs) → is_typed fs ≡ true → AreFit (with_entry made (entry_of n uniq fs)).entries
entry_pushed made room n uniq fs h typed =
    let small = body_small n room fs h.0 in
    pushed_fit made.entries room n (entry_of n uniq fs) h.1 (entry_fits n room uniq fs h.0 typed) (entry_number n uniq fs) (omega (arith, small, entry_data n uniq fs))

entry_followed : (made : IncrementFields) (room n uniq next : ℕ) (fs : List Field) → IsSound (Vnode made room n uniq fs) → is_typed fs ≡ true → length made.entries + 1 < most_vnodes → ComesAfter n next
    → MayFollow (made.entries ++ entry_of n uniq fs ∷ []) (room - length (body_of fs)) next
entry_followed made room n uniq next fs h typed few after =
    let small = body_small n room fs h.0 in
    let len = entry_data n uniq fs in
    subst (λ (k : ℕ). MayFollow (made.entries ++ entry_of n uniq fs ∷ []) (room - k) next) len
    (next_follows made.entries room n next (entry_of n uniq fs) h.1 (entry_fits n room uniq fs h.0 typed) (entry_number n uniq fs) (omega (arith, small, len)) few after)

follows_of : (form : Form) (last : ℕ) (p : List ℕ) → form ≡ forms.Vnode last → IsWhole form p → ComesAfter last (number_from 0 p)
follows_of form last p e whole = let w : IsWhole (forms.Vnode last) p = subst (λ (f : Form). IsWhole f p) e whole in w.1.1

sound_volume : (dump : DumpHead) (fs : List Field) (tag : ℕ) (form : Form) (p : List ℕ) → IsSound (Volume dump fs) → form_at (Volume dump fs) tag ≡ Some form → IsWhole form p → IsSound (after (Volume dump fs) tag p)
sound_volume dump fs tag form p h at whole = elim (cases_eq tag 3) [
  | inl is ↦
      let at3 : form_at (Volume dump fs) 3 ≡ Some form = subst (λ (t : ℕ). form_at (Volume dump fs) t ≡ Some form) is at in
      let a = chosen (has 110 fs) (Some (forms.Vnode 0)) form at3 in
      let form_is : form ≡ forms.Vnode 0 = cc a.1 in
      rw is (tt, first_follows (number_from 0 p) (follows_of form 0 p form_is whole))
  | inr not3 ↦ elim (cases_eq tag 4) [
    | inl is ↦ rw is none_fit
    | inr not4 ↦
        let e3 : eqb tag 3 ≡ false = ne_eqb tag 3 not3 in
        let e4 : eqb tag 4 ≡ false = ne_eqb tag 4 not4 in
        rw (e3, e4) (added header_table fs tag form p h (rw (e3, e4) at at) whole)
  ]
]

sound_vnode : (made : IncrementFields) (room n uniq : ℕ) (fs : List Field) (tag : ℕ) (form : Form) (p : List ℕ) → IsSound (Vnode made room n uniq fs) → form_at (Vnode made room n uniq fs) tag ≡ Some form → IsWhole form p
    → IsSound (after (Vnode made room n uniq fs) tag p)
sound_vnode made room n uniq fs tag form p h at whole = elim (cases_eq tag 3) [
  | inl is ↦
      let at3 : form_at (Vnode made room n uniq fs) 3 ≡ Some form = subst (λ (t : ℕ). form_at (Vnode made room n uniq fs) t ≡ Some form) is at in
      let a = chosen (is_typed fs && ltb (length made.entries + 1) most_vnodes) (Some (forms.Vnode n)) form at3 in
      let both = and_parts (is_typed fs) (ltb (length made.entries + 1) most_vnodes) a.0 in
      let form_is : form ≡ forms.Vnode n = cc a.1 in
      rw is (tt, entry_followed made room n uniq (number_from 0 p) fs h both.0 (ltb-true _ _ both.1) (follows_of form n p form_is whole))
  | inr not3 ↦ elim (cases_eq tag 4) [
    | inl is ↦
        let at4 : form_at (Vnode made room n uniq fs) 4 ≡ Some form = subst (λ (t : ℕ). form_at (Vnode made room n uniq fs) t ≡ Some form) is at in
        let a = chosen (is_typed fs) (Some forms.Closing) form at4 in
        rw is (entry_pushed made room n uniq fs h a.0)
    | inr not4 ↦
        let e3 : eqb tag 3 ≡ false = ne_eqb tag 3 not3 in
        let e4 : eqb tag 4 ≡ false = ne_eqb tag 4 not4 in
        rw (e3, e4) (added (vnode_table n room) fs tag form p h.0 (rw (e3, e4) at at) whole, h.1)
  ]
]

pub sound_after : (s : Sofar) (tag : ℕ) (form : Form) (p : List ℕ) → IsSound s → form_at s tag ≡ Some form → IsWhole form p → IsSound (after s tag p)
sound_after Start tag form p h at whole = tt
sound_after (Dump fs) tag form p h at whole = elim (cases_eq tag 2) [
  | inl is ↦ rw is tt
  | inr not ↦ let e : eqb tag 2 ≡ false = ne_eqb tag 2 not in rw e (added dump_table fs tag form p h (rw e at at) whole)
]
sound_after (Volume dump fs) tag form p h at whole = sound_volume dump fs tag form p h at whole
sound_after (Vnode made room n uniq fs) tag form p h at whole = sound_vnode made room n uniq fs tag form p h at whole
sound_after (Ended made) tag form p h at whole = h
