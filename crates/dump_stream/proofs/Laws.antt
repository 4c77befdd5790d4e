-- One byte of what is still to come.
use Rattle.std.proofs.Common.{◌≡◌, ◌⊎◌, ℕ, false, List, [], ◌∷◌, ◌++◌, Some, refl, sym, ap, subst, ◌∙◌, append_assoc, inl, inr}
use Rattle.std.specs.List.{flat_map}
use Rattle.std.proofs.lemmas.List.{append-nil}
use Rattle.dump_stream.specs.declared.form.Form.{Form}
use Rattle.dump_stream.specs.declared.sofar.Field.{Field}
use Rattle.dump_stream.specs.Forms.{IsWhole}
use Rattle.dump_stream.specs.Fields.{Table, AreFields, spelled, used}
use Rattle.dump_stream.specs.Machine.{Fields, Payload, with_field}

-- ---- behind a tag

one_more : (p : List ℕ) (b : ℕ) (q : List ℕ) → p ++ b ∷ q ≡ (p ++ b ∷ []) ++ q
one_more p b q = sym (append_assoc p (b ∷ []) q)

more_at : (form : Form) (p bs : List ℕ) (b : ℕ) (K : List ℕ → List ℕ → Type 0) → (IsWhole form p → ⊥)
    → (q rest : List ℕ) → b ∷ bs ≡ q ++ rest → IsWhole form (p ++ q) → K (p ++ q) rest → Payload form (p ++ b ∷ []) K bs
more_at form p bs b K not_yet [] rest e whole k = absurd (not_yet (subst (IsWhole form) (append-nil p) whole))
more_at form p bs b K not_yet (c ∷ q) rest e whole k =
    let same : c ≡ b = cc in
    let rest_is : bs ≡ q ++ rest = cc in
    let whole_is : p ++ c ∷ q ≡ (p ++ b ∷ []) ++ q = ap (λ (x : ℕ). p ++ x ∷ q) same ∙ one_more p b q in
    (q, rest, rest_is, subst (IsWhole form) whole_is whole, subst (λ (x : List ℕ). K x rest) whole_is k)

-- the bytes behind the tag aren't whole: the next byte is one of them
pub Payload_more : (form : Form) (p bs : List ℕ) (b : ℕ) (K : List ℕ → List ℕ → Type 0) → (IsWhole form p → ⊥)
    → Payload form p K (b ∷ bs) → Payload form (p ++ b ∷ []) K bs
Payload_more form p bs b K not_yet h = more_at form p bs b K not_yet h.0 h.1 h.2 h.3 h.4

pub Payload_back : (form : Form) (p bs : List ℕ) (b : ℕ) (K : List ℕ → List ℕ → Type 0)
    → Payload form (p ++ b ∷ []) K bs → Payload form p K (b ∷ bs)
Payload_back form p bs b K h =
    let whole_is : (p ++ b ∷ []) ++ h.0 ≡ p ++ b ∷ h.0 = sym (one_more p b h.0) in
    (b ∷ h.0, h.1, ap (λ (x : List ℕ). b ∷ x) h.2, subst (IsWhole form) whole_is h.3, subst (λ (x : List ℕ). K x h.1) whole_is h.4)

-- no bytes of a form begin others of it
abbrev pub IsPrefixFree : Form → Type 0
IsPrefixFree form = (p q : List ℕ) → IsWhole form p → IsWhole form (p ++ q) → q ≡ []

pub Payload_whole : (form : Form) (p bs : List ℕ) (K : List ℕ → List ℕ → Type 0) → IsPrefixFree form → IsWhole form p
    → Payload form p K bs → K p bs
Payload_whole form p bs K free whole h =
    let none : h.0 ≡ [] = free p h.0 whole h.3 in
    let whole_is : p ++ h.0 ≡ p = ap (λ (x : List ℕ). p ++ x) none ∙ append-nil p in
    let rest_is : h.1 ≡ bs = sym (h.2 ∙ ap (λ (x : List ℕ). x ++ h.1) none) in
    subst (λ (x : List ℕ). K x bs) whole_is (subst (K (p ++ h.0)) rest_is h.4)

pub Payload_from : (form : Form) (p bs : List ℕ) (K : List ℕ → List ℕ → Type 0) → IsWhole form p → K p bs → Payload form p K bs
Payload_from form p bs K whole k =
    ([], bs, refl, subst (IsWhole form) (sym (append-nil p)) whole, subst (λ (x : List ℕ). K x bs) (sym (append-nil p)) k)

-- ---- between fields

-- a field of the table that did not come before, by its tag
abbrev pub Tagged : Table → List Field → (List Field → List ℕ → Type 0) → ℕ → List ℕ → Type 0
Tagged table fs K tag bs = (form : Form) × (table tag ≡ Some form) × (used tag fs ≡ false) × Payload form [] (λ p. Fields table (with_field fs tag p) K) bs

tag_at : (table : Table) (before : List Field) (K : List Field → List ℕ → Type 0) (tag : ℕ) (bs : List ℕ)
    → (fs : List Field) (rest : List ℕ) → AreFields table before fs → tag ∷ bs ≡ flat_map spelled fs ++ rest → K (before ++ fs) rest
    → K before (tag ∷ bs) ⊎ Tagged table before K tag bs
tag_at table before K tag bs [] rest listed e k =
    inl (subst (λ (x : List Field). K x (tag ∷ bs)) (append-nil before) (subst (K (before ++ [])) (sym e) k))
tag_at table before K tag bs (f ∷ fs) rest listed e k =
    let same : f.tag ≡ tag = cc in
    let bytes_are : bs ≡ (f.payload ++ flat_map spelled fs) ++ rest = cc in
    inr (subst (λ (t : ℕ). (form : Form) × (table t ≡ Some form) × (used t before ≡ false) × Payload form [] (λ p. Fields table (with_field before t p) K) bs) same (
      listed.0.0,
      listed.0.1,
      listed.1,
      (
        f.payload,
        flat_map spelled fs ++ rest,
        bytes_are ∙ append_assoc f.payload (flat_map spelled fs) rest,
        listed.0.2,
        (fs, rest, listed.2, refl, subst (λ (x : List Field). K x rest) (sym (append_assoc before (f ∷ []) fs)) k),
      ),
    ))

-- the next byte is a tag of the table, or belongs to what comes behind the fields
pub Fields_tag : (table : Table) (before : List Field) (K : List Field → List ℕ → Type 0) (tag : ℕ) (bs : List ℕ)
    → Fields table before K (tag ∷ bs) → K before (tag ∷ bs) ⊎ Tagged table before K tag bs
Fields_tag table before K tag bs h = tag_at table before K tag bs h.0 h.1 h.2 h.3 h.4

pub Fields_behind : (table : Table) (before : List Field) (K : List Field → List ℕ → Type 0) (bs : List ℕ)
    → K before bs → Fields table before K bs
Fields_behind table before K bs k = ([], bs, tt, refl, subst (λ (x : List Field). K x bs) (sym (append-nil before)) k)

pub Fields_from : (table : Table) (before : List Field) (K : List Field → List ℕ → Type 0) (tag : ℕ) (bs : List ℕ)
    → Tagged table before K tag bs → Fields table before K (tag ∷ bs)
Fields_from table before K tag bs h =
    let f : Field = record { tag = tag; payload = h.3.0 } in
    let inner = h.3.4 in (
      f ∷ inner.0,
      inner.1,
      ((h.0, h.1, h.3.3), h.2, inner.2),
      ap (λ (x : List ℕ). tag ∷ x) (h.3.2 ∙ ap (λ (x : List ℕ). h.3.0 ++ x) inner.3 ∙ sym (append_assoc h.3.0 (flat_map spelled inner.0) inner.1)),
      subst (λ (x : List Field). K x inner.1) (append_assoc before (f ∷ []) inner.0) inner.4,
    )

-- nothing is left: what comes behind the fields is nothing too
nil_at : (table : Table) (before : List Field) (K : List Field → List ℕ → Type 0)
    → (fs : List Field) (rest : List ℕ) → [] ≡ flat_map spelled fs ++ rest → K (before ++ fs) rest → K before []
nil_at table before K [] rest e k = subst (λ (x : List Field). K x []) (append-nil before) (subst (K (before ++ [])) (sym e) k)
nil_at table before K (f ∷ fs) rest e k = absurd cc

pub Fields_nil : (table : Table) (before : List Field) (K : List Field → List ℕ → Type 0) → Fields table before K [] → K before []
Fields_nil table before K h = nil_at table before K h.0 h.1 h.3 h.4
