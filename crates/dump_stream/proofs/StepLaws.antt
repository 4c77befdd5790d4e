-- One byte of a machine.
use Rattle.std.proofs.Common.{◌≡◌, ◌↔◌, ℕ, Bool, true, false, List, [], ◌∷◌, ◌++◌, Option, Some, None, sym, ap, subst, ◌∙◌, append_assoc}
use Rattle.std.proofs.lemmas.List.{append-nil}
use Rattle.dump_stream.specs.declared.form.Form.{Form}
use Rattle.dump_stream.specs.declared.form.Verdict.TheVariants.{More}
use Rattle.dump_stream.specs.declared.sofar.Sofar.{Sofar}
use Rattle.dump_stream.specs.declared.machine.Machine.{Machine}
use Rattle.vnode_model.specs.declared.increments.Increment.{Increment}
use Rattle.dump_stream.specs.Forms.{IsWhole, Judges}
use Rattle.dump_stream.specs.Machine.{Payload, form_at, after, Rest}
use Rattle.dump_stream.specs.Steps.{Inside, RestAt, Ends, GoesOnAt, GoesOn, Moves, IsDead, Steps}
use Rattle.dump_stream.proofs.Laws.{Payload_more, Payload_back, Payload_whole, Payload_from}
use Rattle.dump_stream.proofs.Tags.{Rest_tag, Rest_from}
use Rattle.dump_stream.proofs.FormLaws.{prefix_free}

-- what is said of one set of ends holds of a like one
Steps_like : (A B : List ℕ → Increment → Type 0) (fits : Bool) (new : Machine) → ((bytes : List ℕ) (i : Increment) → A bytes i ↔ B bytes i) → Steps B fits new → Steps A fits new
Steps_like A B true new like h = (h.0, λ bytes i. (λ a. (h.1 bytes i).0 ((like bytes i).0 a), λ e. (like bytes i).1 ((h.1 bytes i).1 e)))
Steps_like A B false new like h = λ bytes i a. h bytes i ((like bytes i).0 a)

pub settled : (form : Form) (s : Sofar) (tag : ℕ) (p : List ℕ) → IsWhole form p → (bytes : List ℕ) (i : Increment)
    → Inside form s tag p bytes i ↔ Rest (after s tag p) bytes i
settled form s tag p whole bytes i =
    let K : List ℕ → List ℕ → Type 0 = λ q r. Rest (after s tag q) r i in
    (λ h. Payload_whole form p bytes K (prefix_free form) whole h, λ h. Payload_from form p bytes K whole h)

form_is : (o : Option Form) (form f : Form) → o ≡ Some form → o ≡ Some f → f ≡ form
form_is o form f e g = cc

-- a tag that may come
tagged : (s : Sofar) (tag : ℕ) (form : Form) → form_at s tag ≡ Some form → (bytes : List ℕ) (i : Increment) → Rest s (tag ∷ bytes) i ↔ Inside form s tag [] bytes i
tagged s tag form at bytes i = (
  λ h. let t = Rest_tag s tag bytes i h in subst (λ (f : Form). Inside f s tag [] bytes i) (form_is (form_at s tag) form t.0 at t.1) t.2,
  λ h. Rest_from s tag bytes i (form, at, h),
)

-- a tag that may not come
pub untagged : (s : Sofar) (tag : ℕ) → form_at s tag ≡ None → IsDead (λ bytes. Rest s (tag ∷ bytes))
untagged s tag at bytes i h = let t = Rest_tag s tag bytes i h in absurd cc

pub step_tag : (s : Sofar) (tag : ℕ) (form : Form) (fits : Bool) (new : Machine) → form_at s tag ≡ Some form
    → Steps (Inside form s tag []) fits new → Steps (λ bytes. Rest s (tag ∷ bytes)) fits new
step_tag s tag form fits new at h = Steps_like (λ bytes. Rest s (tag ∷ bytes)) (Inside form s tag []) fits new (tagged s tag form at) h

pub step_more : (form : Form) (s : Sofar) (tag : ℕ) (p : List ℕ) (byte : ℕ) (fits : Bool) (new : Machine) → Judges (IsWhole form) p More
    → Steps (Inside form s tag (p ++ byte ∷ [])) fits new → Steps (λ bytes. Inside form s tag p (byte ∷ bytes)) fits new
step_more form s tag p byte fits new going h =
    Steps_like (λ bytes. Inside form s tag p (byte ∷ bytes)) (Inside form s tag (p ++ byte ∷ [])) fits new
    (λ bytes i. let K : List ℕ → List ℕ → Type 0 = λ q r. Rest (after s tag q) r i in
    (λ e. Payload_more form p bytes byte K going.0 e, λ e. Payload_back form p bytes byte K e)) h

-- ---- many bytes at once

-- bytes that don't make the form whole belong to what is still to come
gulped_to : (form : Form) (q p bs : List ℕ) (K : List ℕ → List ℕ → Type 0) → Judges (IsWhole form) (p ++ q) More → Payload form p K (q ++ bs) → Payload form (p ++ q) K bs
gulped_to form [] p bs K going h = subst (λ (x : List ℕ). Payload form x K bs) (sym (append-nil p)) h
gulped_to form (b ∷ q) p bs K going h =
    let grown : p ++ b ∷ q ≡ (p ++ b ∷ []) ++ q = sym (append_assoc p (b ∷ []) q) in
    let not_yet : IsWhole form p → ⊥ = λ whole. let none : (b ∷ q) ++ going.1 ≡ [] = prefix_free form p ((b ∷ q) ++ going.1) whole (subst (IsWhole form) (append_assoc p (b ∷ q) going.1) going.2) in cc in
    subst (λ (x : List ℕ). Payload form x K bs) (sym grown)
    (gulped_to form q (p ++ b ∷ []) bs K (subst (λ (x : List ℕ). Judges (IsWhole form) x More) grown going) (Payload_more form p (q ++ bs) b K not_yet h))

gulped_back : (form : Form) (q p bs : List ℕ) (K : List ℕ → List ℕ → Type 0) → Payload form (p ++ q) K bs → Payload form p K (q ++ bs)
gulped_back form q p bs K h =
    let grown : (p ++ q) ++ h.0 ≡ p ++ (q ++ h.0) = append_assoc p q h.0 in
    (q ++ h.0, h.1, ap (λ (x : List ℕ). q ++ x) h.2 ∙ sym (append_assoc q h.0 h.1), subst (IsWhole form) grown h.3, subst (λ (x : List ℕ). K x h.1) grown h.4)

pub gulped : (form : Form) (s : Sofar) (tag : ℕ) (p q : List ℕ) → Judges (IsWhole form) (p ++ q) More → (bytes : List ℕ) (i : Increment) → Inside form s tag p (q ++ bytes) i ↔ Inside form s tag (p ++ q) bytes i
gulped form s tag p q going bytes i =
    let K : List ℕ → List ℕ → Type 0 = λ x r. Rest (after s tag x) r i in
    (λ h. gulped_to form q p bytes K going h, λ h. gulped_back form q p bytes K h)

-- ---- the same at a machine

pub at_none : (m : Machine) (byte : ℕ) (fits : Bool) (new : Machine) → m.form ≡ None
    → Steps (λ bytes. Rest m.sofar (byte ∷ bytes)) fits new → Steps (λ bytes. Ends m (byte ∷ bytes)) fits new
at_none m byte fits new e h = subst (λ (o : Option Form). Steps (λ bytes. RestAt o m.sofar m.tag m.payload (byte ∷ bytes)) fits new) (sym e) h

pub at_some : (m : Machine) (byte : ℕ) (form : Form) (fits : Bool) (new : Machine) → m.form ≡ Some form
    → Steps (λ bytes. Inside form m.sofar m.tag m.payload (byte ∷ bytes)) fits new → Steps (λ bytes. Ends m (byte ∷ bytes)) fits new
at_some m byte form fits new e h = subst (λ (o : Option Form). Steps (λ bytes. RestAt o m.sofar m.tag m.payload (byte ∷ bytes)) fits new) (sym e) h

pub goes_on : (m : Machine) (form : Form) → m.form ≡ Some form → GoesOn m → Judges (IsWhole form) m.payload More
goes_on m form e h = subst (λ (o : Option Form). GoesOnAt o m.payload) e h

-- a machine that took bytes which don't make the form whole
pub gulped_at : (m : Machine) (form : Form) (q p : List ℕ) → m.form ≡ Some form → p ≡ m.payload ++ q → Judges (IsWhole form) (m.payload ++ q) More → Moves (λ bytes. Ends m (q ++ bytes)) (record m { payload = p })
gulped_at m form q p e p_is going =
    let Taken : Option Form → List ℕ → Type 0 = λ o x. GoesOnAt o x × ((bytes : List ℕ) (i : Increment) → RestAt o m.sofar m.tag m.payload (q ++ bytes) i ↔ RestAt o m.sofar m.tag x bytes i) in
    let taken : Taken (Some form) (m.payload ++ q) = (going, gulped form m.sofar m.tag m.payload q going) in
    subst (λ (o : Option Form). Taken o p) (sym e) (subst (λ (x : List ℕ). Taken (Some form) x) (sym p_is) taken)
