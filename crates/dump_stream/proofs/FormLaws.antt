-- What each form says of bytes that begin it.
use Rattle.std.proofs.Common.{◌≡◌, ℕ, zero, suc, ◌+◌, ◌-◌, ◌*◌, ◌%◌, ◌<◌, ◌≤◌, Bool, true, false, List, [], ◌∷◌, ◌++◌, length, drop, get_or, eqb, ltb, replicate, refl, sym, ap, subst, ◌∙◌, append_assoc, arith, inl, inr, lit<, length-append}
use Rattle.std.specs.Prelude.{◌&&◌, ◌≢◌}
use Rattle.std.specs.List.{AllByRecursion, starts_with}
use Rattle.std.proofs.lemmas.Slice.Eq.{starts_is}
use Rattle.std.proofs.lemmas.Bool.{cases_eq, cases_lt, both_ways, and_parts, ltb-true}
use Rattle.std.proofs.lemmas.Bool.Decides.{Decides-eqb}
use Rattle.std.proofs.lemmas.List.{append-nil, nil_from_length, get_or_append_left, length-replicate, get_or_past, get_or-replicate, get_or-append_right}
use Rattle.std.proofs.lemmas.List.Elements.{All-from_get_or, All-nil, All-tail, All-get_or, All-append, All-replicate, All-from_recursion, recursion_from_All}
use Rattle.dump_stream.specs.declared.form.Form.{Form}
use Rattle.dump_stream.specs.declared.form.Form.TheVariants as forms
use Rattle.dump_stream.specs.declared.form.Verdict.TheVariants.{Whole, More, Never}
use Rattle.bk_text.specs.Alphabets.{IsName, IsNameByte}
use Rattle.vnode_model.specs.Headers.{IsMessage}
use Rattle.vnode_model.specs.Limits.{ComesAfter}
use Rattle.dump_stream.specs.Forms.{IsBytes, IsFixed, IsFixedBytes, size_len, size_in, number_from, opening, closing, HasForm, IsWhole, Judges}

abbrev pub all_below : List ℕ → Bool
all_below [] = true
all_below (b ∷ p) = ltb b 256 && all_below p

-- two ways to cut a list: the shorter front begins the longer one
pub front_part : (a b c d : List ℕ) → a ++ b ≡ c ++ d → length a ≤ length c → (r : List ℕ) × (c ≡ a ++ r) × (b ≡ r ++ d)
front_part [] b c d e le = (c, refl, e)
front_part (x ∷ a) b [] d e le = absurd (omega arith)
front_part (x ∷ a) b (y ∷ c) d e le =
    let same : y ≡ x = cc in
    let rest : a ++ b ≡ c ++ d = cc in
    let h = front_part a b c d rest (omega arith) in
    (h.0, ap (λ (t : ℕ). t ∷ c) same ∙ ap (λ (t : List ℕ). x ∷ t) h.1, h.2)

-- the lengths of a list and its parts
parts_length : (p a b : List ℕ) → p ≡ a ++ b → length p ≡ length a + length b
parts_length p a b e = ap length e ∙ length-append a b

-- bytes that are written out
pub literal : (p : List ℕ) → all_below p ≡ true → IsBytes p
literal p h = All-from_recursion (λ (x : ℕ). x < 256) p (go p h)
  where
    go : (p : List ℕ) → all_below p ≡ true → AllByRecursion (λ (x : ℕ). x < 256) p
    go [] h = tt
    go (b ∷ p) h = let both = and_parts (ltb b 256) (all_below p) h in (ltb-true b 256 both.0, go p both.1)

zeros : ℕ → List ℕ
zeros count = replicate count 0

zeros_bytes : (count : ℕ) → IsBytes (zeros count)
unfolding zeros
zeros_bytes count = All-replicate (λ (x : ℕ). x < 256) count 0 (lit< tt)

zeros_length : (count : ℕ) → length (zeros count) ≡ count
unfolding zeros
zeros_length count = length-replicate count 0

-- ---- these bytes, and so many more

pub fixed_within : (front p r : List ℕ) (count : ℕ) → IsBytes front → front ≡ p ++ r → length p < length front → Judges (IsFixedBytes front count) p More
fixed_within front p r count fits e lt = (
  λ w. omega (arith, parts_length p front w.1.0 w.1.1, w.1.2),
  r ++ zeros count,
  (let regrouped : front ++ zeros count ≡ p ++ (r ++ zeros count) = ap (λ (x : List ℕ). x ++ zeros count) e ∙ append_assoc p r (zeros count) in (
    subst IsBytes regrouped (All-append (λ (x : ℕ). x < 256) front (zeros count) fits (zeros_bytes count)),
    (zeros count, sym regrouped, zeros_length count),
  )),
)

pub fixed_apart_short : (front p : List ℕ) (count : ℕ) → length p < length front → ((r : List ℕ) → front ≡ p ++ r → ⊥) → Judges (IsFixedBytes front count) p Never
fixed_apart_short front p count lt apart q w =
    let h = front_part p q front w.1.0 w.1.1 (omega arith) in
    apart h.0 h.1

pub fixed_apart_long : (front p : List ℕ) (count : ℕ) → length front ≤ length p → ((r : List ℕ) → p ≡ front ++ r → ⊥) → Judges (IsFixedBytes front count) p Never
fixed_apart_long front p count le apart q w =
    let h = front_part front w.1.0 p q (sym w.1.1) le in
    apart h.0 h.1

pub fixed_more : (front p r : List ℕ) (count : ℕ) → IsBytes p → p ≡ front ++ r → length p < length front + count → Judges (IsFixedBytes front count) p More
fixed_more front p r count fits e lt =
    let more = length front + count - length p in (
      λ w. omega (arith, parts_length p front w.1.0 w.1.1, w.1.2),
      zeros more,
      (
        All-append (λ (x : ℕ). x < 256) p (zeros more) fits (zeros_bytes more),
        (
          r ++ zeros more,
          ap (λ (x : List ℕ). x ++ zeros more) e ∙ append_assoc front r (zeros more),
          omega (arith, length-append r (zeros more), zeros_length more, parts_length p front r e),
        ),
      ),
    )

pub fixed_whole : (front p r : List ℕ) (count : ℕ) → IsBytes p → p ≡ front ++ r → length p ≡ length front + count → Judges (IsFixedBytes front count) p Whole
fixed_whole front p r count fits e len = (fits, (r, e, omega (arith, parts_length p front r e)))

pub fixed_long : (front p : List ℕ) (count : ℕ) → length front + count < length p → Judges (IsFixedBytes front count) p Never
fixed_long front p count lt q w = omega (arith, parts_length (p ++ q) front w.1.0 w.1.1, length-append p q, w.1.2)

pub begins_true : (s p : List ℕ) (r : Bool) → r ≡ starts_with eqb s p → r ≡ true → s ≡ p ++ drop (length p) s
begins_true s p r e t = (starts_is Decides-eqb s p r e).0 t

pub begins_false : (s p : List ℕ) (r : Bool) → r ≡ starts_with eqb s p → r ≡ false → (rest : List ℕ) → s ≡ p ++ rest → ⊥
begins_false s p r e f rest parts = both_ways r f ((starts_is Decides-eqb s p r e).1 rest parts)

-- what a slice of bytes is known to be
pub bytes_from : (p : List ℕ) → ((i : ℕ) → get_or p i 0 < 256) → IsBytes p
bytes_from p h = All-from_get_or (λ (x : ℕ). x < 256) p 0 (λ i lt. h i)

-- ---- names

not_nil : (a : List ℕ) (x : ℕ) (q : List ℕ) → (a ++ x ∷ []) ++ q ≡ [] → ⊥
not_nil [] x q e = cc
not_nil (y ∷ a) x q e = cc

-- a 0 byte ends a name
zero_ends : (a b q : List ℕ) → AllByRecursion (λ x. 0 < x) b → (a ++ 0 ∷ []) ++ q ≡ b ++ 0 ∷ [] → (a ≡ b) × (q ≡ [])
zero_ends [] [] q each e = (refl, cc)
zero_ends [] (y ∷ b) q each e = let same : y ≡ 0 = cc in absurd (omega (arith, each.0))
zero_ends (x ∷ a) [] q each e = absurd (let tail : (a ++ 0 ∷ []) ++ q ≡ [] = cc in not_nil a 0 q tail)
zero_ends (x ∷ a) (y ∷ b) q each e =
    let same : x ≡ y = cc in
    let tail : (a ++ 0 ∷ []) ++ q ≡ b ++ 0 ∷ [] = cc in
    let h = zero_ends a b q each.1 tail in
    (ap (λ (t : ℕ). t ∷ a) same ∙ ap (λ (t : List ℕ). y ∷ t) h.0, h.1)

-- bytes that don't end in 0 begin a name itself
front_of_name : (a : List ℕ) (x : ℕ) (q b : List ℕ) → (x ≡ 0 → ⊥) → (a ++ x ∷ []) ++ q ≡ b ++ 0 ∷ [] → (r : List ℕ) × (b ≡ (a ++ x ∷ []) ++ r)
front_of_name [] x q [] nonzero e = absurd (nonzero cc)
front_of_name [] x q (y ∷ b) nonzero e = (b, let same : y ≡ x = cc in ap (λ (t : ℕ). t ∷ b) same)
front_of_name (z ∷ a) x q [] nonzero e = absurd (let tail : (a ++ x ∷ []) ++ q ≡ [] = cc in not_nil a x q tail)
front_of_name (z ∷ a) x q (y ∷ b) nonzero e =
    let same : y ≡ z = cc in
    let tail : (a ++ x ∷ []) ++ q ≡ b ++ 0 ∷ [] = cc in
    let h = front_of_name a x q b nonzero tail in
    (h.0, ap (λ (t : ℕ). t ∷ b) same ∙ ap (λ (t : List ℕ). z ∷ t) h.1)

nonzero_of : (name : List ℕ) → AllByRecursion IsNameByte name → AllByRecursion (λ x. 0 < x) name
nonzero_of [] h = tt
nonzero_of (x ∷ name) h = (omega (arith, h.0.0), nonzero_of name h.1)

each_of : (name : List ℕ) → IsName name → AllByRecursion IsNameByte name
each_of name h = recursion_from_All IsNameByte name h.each

front_each : (a r : List ℕ) → AllByRecursion IsNameByte (a ++ r) → AllByRecursion IsNameByte a
front_each [] r h = tt
front_each (x ∷ a) r h = (h.0, front_each a r h.1)

name_front : (a r : List ℕ) → 0 < length a → IsName (a ++ r) → IsName a
name_front a r some h = record {
  some = some;
  short = omega (arith, h.short, length-append a r);
  first = λ e. h.first (get_or_append_left a r 0 0 some ∙ e);
  each = All-from_recursion IsNameByte a (front_each a r (each_of (a ++ r) h));
}

a_whole_name : IsWhole forms.Name (97 ∷ 0 ∷ [])
a_whole_name = (
  literal (97 ∷ 0 ∷ []) refl,
  (97 ∷ [], refl, record { some = lit< tt; short = omega arith; first = λ e. cc; each = All-from_recursion IsNameByte (97 ∷ []) ((lit< tt, lit< tt, λ e. cc), tt) }),
)

pub name_none : (p : List ℕ) → length p ≡ 0 → Judges (IsWhole forms.Name) p More
name_none p len =
    let none : p ≡ [] = nil_from_length p len in
    (λ w. omega (arith, ap length w.1.1, length-append w.1.0 (0 ∷ [])), 97 ∷ 0 ∷ [], rw none a_whole_name)

-- a list of name bytes doesn't end in 0
ends_nonzero : (p name : List ℕ) → AllByRecursion (λ x. 0 < x) p → p ≡ name ++ 0 ∷ [] → ⊥
ends_nonzero [] [] each e = cc
ends_nonzero [] (y ∷ name) each e = cc
ends_nonzero (x ∷ p) [] each e = let same : x ≡ 0 = cc in omega (arith, each.0)
ends_nonzero (x ∷ p) (y ∷ name) each e = let tail : p ≡ name ++ 0 ∷ [] = cc in ends_nonzero p name each.1 tail

pub name_goes_on : (p : List ℕ) → IsBytes p → IsName p → Judges (IsWhole forms.Name) p More
name_goes_on p fits h = (
  λ w. ends_nonzero p w.1.0 (nonzero_of p (each_of p h)) w.1.1,
  0 ∷ [],
  (All-append (λ (x : ℕ). x < 256) p (0 ∷ []) fits (literal (0 ∷ []) refl), (p, refl, h)),
)

pub name_bad : (p name : List ℕ) → p ≡ name ++ 0 ∷ [] → (IsName name → ⊥) → Judges (IsWhole forms.Name) p Never
name_bad p name p_is bad q w =
    let e : (name ++ 0 ∷ []) ++ q ≡ w.1.0 ++ 0 ∷ [] = ap (λ (x : List ℕ). x ++ q) (sym p_is) ∙ w.1.1 in
    let h = zero_ends name w.1.0 q (nonzero_of w.1.0 (each_of w.1.0 w.1.2)) e in
    bad (subst IsName (sym h.0) w.1.2)

pub name_bad_front : (p a : List ℕ) (x : ℕ) → p ≡ a ++ x ∷ [] → (x ≡ 0 → ⊥) → (IsName p → ⊥) → Judges (IsWhole forms.Name) p Never
name_bad_front p a x p_is nonzero bad q w =
    let e : (a ++ x ∷ []) ++ q ≡ w.1.0 ++ 0 ∷ [] = ap (λ (t : List ℕ). t ++ q) (sym p_is) ∙ w.1.1 in
    let h = front_of_name a x q w.1.0 nonzero e in
    let name : IsName (p ++ h.0) = subst IsName (h.1 ∙ ap (λ (t : List ℕ). t ++ h.0) (sym p_is)) w.1.2 in
    bad (name_front p h.0 (omega (arith, ap length p_is, length-append a (x ∷ []))) name)

-- ---- messages

positive : (x : ℕ) → x ≢ 0 → 0 < x
positive zero not = absurd (not refl)
positive (suc x) not = omega arith

texts : (t : List ℕ) → IsMessage t → AllByRecursion (λ x. 0 < x) t
texts t h = each_positive t (recursion_from_All (λ x. x ≢ 0) t h.each)
  where
    each_positive : (t : List ℕ) → AllByRecursion (λ x. x ≢ 0) t → AllByRecursion (λ x. 0 < x) t
    each_positive [] h = tt
    each_positive (x ∷ t) h = (positive x h.0, each_positive t h.1)

front_nonzero : (a r : List ℕ) → AllByRecursion (λ x. x ≢ 0) (a ++ r) → AllByRecursion (λ x. x ≢ 0) a
front_nonzero [] r h = tt
front_nonzero (x ∷ a) r h = (h.0, front_nonzero a r h.1)

text_front : (a r : List ℕ) → IsMessage (a ++ r) → IsMessage a
text_front a r h = record {
  short = omega (arith, h.short, length-append a r);
  each = All-from_recursion (λ x. x ≢ 0) a (front_nonzero a r (recursion_from_All (λ x. x ≢ 0) (a ++ r) h.each));
}

no_text : IsMessage []
no_text = record { short = omega arith; each = All-nil (λ x. x ≢ 0) }

pub text_none : (p : List ℕ) → length p ≡ 0 → Judges (IsWhole forms.Text) p More
text_none p len =
    let none : p ≡ [] = nil_from_length p len in
    (λ w. omega (arith, ap length w.1.1, length-append w.1.0 (0 ∷ [])), 0 ∷ [], rw none (literal (0 ∷ []) refl, ([], refl, no_text)))

pub text_goes_on : (p : List ℕ) → IsBytes p → IsMessage p → Judges (IsWhole forms.Text) p More
text_goes_on p fits h = (
  λ w. ends_nonzero p w.1.0 (texts p h) w.1.1,
  0 ∷ [],
  (All-append (λ (x : ℕ). x < 256) p (0 ∷ []) fits (literal (0 ∷ []) refl), (p, refl, h)),
)

pub text_bad : (p t : List ℕ) → p ≡ t ++ 0 ∷ [] → (IsMessage t → ⊥) → Judges (IsWhole forms.Text) p Never
text_bad p t p_is bad q w =
    let e : (t ++ 0 ∷ []) ++ q ≡ w.1.0 ++ 0 ∷ [] = ap (λ (x : List ℕ). x ++ q) (sym p_is) ∙ w.1.1 in
    let h = zero_ends t w.1.0 q (texts w.1.0 w.1.2) e in
    bad (subst IsMessage (sym h.0) w.1.2)

pub text_bad_front : (p a : List ℕ) (x : ℕ) → p ≡ a ++ x ∷ [] → (x ≡ 0 → ⊥) → (IsMessage p → ⊥) → Judges (IsWhole forms.Text) p Never
text_bad_front p a x p_is nonzero bad q w =
    let e : (a ++ x ∷ []) ++ q ≡ w.1.0 ++ 0 ∷ [] = ap (λ (t : List ℕ). t ++ q) (sym p_is) ∙ w.1.1 in
    let h = front_of_name a x q w.1.0 nonzero e in
    bad (text_front p h.0 (subst IsMessage (h.1 ∙ ap (λ (t : List ℕ). t ++ h.0) (sym p_is)) w.1.2))

text_ends : (p q : List ℕ) → HasForm forms.Text p → HasForm forms.Text (p ++ q) → q ≡ []
text_ends p q h k =
    let e : (h.0 ++ 0 ∷ []) ++ q ≡ k.0 ++ 0 ∷ [] = ap (λ (x : List ℕ). x ++ q) (sym h.1) ∙ k.1 in
    (zero_ends h.0 k.0 q (texts k.0 k.2) e).1

pub volume_kind_none : (p : List ℕ) → length p < 1 → Judges (IsWhole forms.VolumeKind) p More
volume_kind_none p lt =
    let none : p ≡ [] = nil_from_length p (omega arith) in
    (λ w. omega (arith, ap length w.1.1), 0 ∷ [], rw none (literal (0 ∷ []) refl, (0, refl, omega arith)))

-- ---- data behind its length

-- bytes that are added make no byte less
no_less : (p q : List ℕ) (i : ℕ) → get_or p i 0 ≤ get_or (p ++ q) i 0
no_less p q i = elim (cases_lt i (length p)) [
  | inl lt ↦ omega (arith, get_or_append_left p q 0 i lt)
  | inr le ↦ omega (arith, get_or_past p i 0 le)
]

size_grows : (wide : Bool) (p q : List ℕ) → size_in wide p ≤ size_in wide (p ++ q)
size_grows true p q = omega (arith, no_less p q 0, no_less p q 1, no_less p q 2, no_less p q 3, no_less p q 4, no_less p q 5, no_less p q 6, no_less p q 7)
size_grows false p q = omega (arith, no_less p q 0, no_less p q 1, no_less p q 2, no_less p q 3)

size_kept : (wide : Bool) (p q : List ℕ) → ((i : ℕ) → i < size_len wide → get_or (p ++ q) i 0 ≡ get_or p i 0) → size_in wide (p ++ q) ≡ size_in wide p
size_kept true p q h = omega (arith, h 0 (lit< tt), h 1 (lit< tt), h 2 (lit< tt), h 3 (lit< tt), h 4 (lit< tt), h 5 (lit< tt), h 6 (lit< tt), h 7 (lit< tt))
size_kept false p q h = omega (arith, h 0 (lit< tt), h 1 (lit< tt), h 2 (lit< tt), h 3 (lit< tt))

zeros_past : (count i : ℕ) → get_or (zeros count) i 0 ≡ 0
unfolding zeros
zeros_past count i = elim (cases_lt i count) [
  | inl lt ↦ get_or-replicate count i 0 0 lt
  | inr le ↦ get_or_past (replicate count 0) i 0 (omega (arith, length-replicate {A = ℕ} count 0))
]

zeros_change_nothing : (p : List ℕ) (count i : ℕ) → get_or (p ++ zeros count) i 0 ≡ get_or p i 0
zeros_change_nothing p count i = elim (cases_lt i (length p)) [
  | inl lt ↦ get_or_append_left p (zeros count) 0 i lt
  | inr le ↦ get_or-append_right p (zeros count) (length p) i 0 refl le ∙ zeros_past count (i - length p) ∙ sym (get_or_past p i 0 le)
]

pub data_too_large : (wide : Bool) (limit : ℕ) (p : List ℕ) → limit < size_in wide p → Judges (IsWhole (forms.Data wide limit)) p Never
data_too_large wide limit p lt q w = omega (arith, size_grows wide p q, w.1.0)

pub data_more : (wide : Bool) (limit : ℕ) (p : List ℕ) → IsBytes p → size_in wide p ≤ limit → length p < size_len wide + size_in wide p → Judges (IsWhole (forms.Data wide limit)) p More
data_more wide limit p fits le lt =
    let count = size_len wide + size_in wide p - length p in
    let same : size_in wide (p ++ zeros count) ≡ size_in wide p = size_kept wide p (zeros count) (λ i below. zeros_change_nothing p count i) in (
      λ w. omega (arith, w.1.1),
      zeros count,
      (
        All-append (λ (x : ℕ). x < 256) p (zeros count) fits (zeros_bytes count),
        (omega (arith, same), omega (arith, same, length-append p (zeros count), zeros_length count)),
      ),
    )

-- behind a length, so many bytes may stand, whichever they are
pub data_free : (wide : Bool) (limit : ℕ) (p q : List ℕ) → IsBytes p → IsBytes q → size_len wide ≤ length p → size_in wide p ≤ limit → length p + length q < size_len wide + size_in wide p → Judges (IsWhole (forms.Data wide limit)) (p ++ q) More
data_free wide limit p q fits more long le lt =
    let same : size_in wide (p ++ q) ≡ size_in wide p = size_kept wide p q (λ i below. get_or_append_left p q 0 i (omega arith)) in
    data_more wide limit (p ++ q) (All-append (λ (x : ℕ). x < 256) p q fits more) (omega (arith, same)) (omega (arith, same, length-append p q))

-- where no byte is added nothing changes
pub none_free : (form : Form) (p q : List ℕ) → Judges (IsWhole form) p More → length q ≤ 0 → Judges (IsWhole form) (p ++ q) More
none_free form p q h le =
    let none : q ≡ [] = nil_from_length q (omega arith) in
    subst (λ (x : List ℕ). Judges (IsWhole form) x More) (sym (ap (λ (x : List ℕ). p ++ x) none ∙ append-nil p)) h

pub data_long : (wide : Bool) (limit : ℕ) (p : List ℕ) → size_len wide + size_in wide p < length p → Judges (IsWhole (forms.Data wide limit)) p Never
data_long wide limit p lt q w =
    let same : size_in wide (p ++ q) ≡ size_in wide p = size_kept wide p q (λ i below. get_or_append_left p q 0 i (omega arith)) in
    omega (arith, same, w.1.1, length-append p q)

data_ends : (wide : Bool) (limit : ℕ) (p q : List ℕ) → HasForm (forms.Data wide limit) p → HasForm (forms.Data wide limit) (p ++ q) → q ≡ []
data_ends wide limit p q h k =
    let same : size_in wide (p ++ q) ≡ size_in wide p = size_kept wide p q (λ i below. get_or_append_left p q 0 i (omega (arith, h.1))) in
    nil_from_length q (omega (arith, same, h.1, k.1, length-append p q))

-- ---- kinds

pub kind_none : (directory : Bool) (p : List ℕ) → length p < 1 → Judges (IsWhole (forms.Kind directory)) p More
kind_none true p lt =
    let none : p ≡ [] = nil_from_length p (omega arith) in
    (λ w. omega (arith, ap length w.1.1), 2 ∷ [], rw none (literal (2 ∷ []) refl, (2, refl, refl)))
kind_none false p lt =
    let none : p ≡ [] = nil_from_length p (omega arith) in
    (λ w. omega (arith, ap length w.1.1), 1 ∷ [], rw none (literal (1 ∷ []) refl, (1, refl, inl refl)))

-- ---- a vnode's number

-- the greatest even number that begins so
abbrev pub greatest : List ℕ → ℕ
greatest p = get_or p 0 255 * 16777216 + get_or p 1 255 * 65536 + get_or p 2 255 * 256 + 254

four_zeros : List ℕ
four_zeros = 0 ∷ 0 ∷ 0 ∷ 0 ∷ []

vnode_short : (last : ℕ) (p : List ℕ) → length p < 8 → IsWhole (forms.Vnode last) p → ⊥
vnode_short last p lt w = omega (arith, w.1.0)

vnode_filled : (last : ℕ) (p : List ℕ) → IsBytes p → length p < 4 → ComesAfter last (greatest p) → (q : List ℕ) × IsWhole (forms.Vnode last) (p ++ q)
vnode_filled last [] fits lt h = (
  255 ∷ 255 ∷ 255 ∷ 254 ∷ 0 ∷ 0 ∷ 0 ∷ 0 ∷ [],
  (All-append (λ (x : ℕ). x < 256) [] (255 ∷ 255 ∷ 255 ∷ 254 ∷ 0 ∷ 0 ∷ 0 ∷ 0 ∷ []) fits (literal (255 ∷ 255 ∷ 255 ∷ 254 ∷ 0 ∷ 0 ∷ 0 ∷ 0 ∷ []) refl), (refl, h)),
)
vnode_filled last (a ∷ []) fits lt h = (
  255 ∷ 255 ∷ 254 ∷ 0 ∷ 0 ∷ 0 ∷ 0 ∷ [],
  (All-append (λ (x : ℕ). x < 256) (a ∷ []) (255 ∷ 255 ∷ 254 ∷ 0 ∷ 0 ∷ 0 ∷ 0 ∷ []) fits (literal (255 ∷ 255 ∷ 254 ∷ 0 ∷ 0 ∷ 0 ∷ 0 ∷ []) refl), (refl, h)),
)
vnode_filled last (a ∷ b ∷ []) fits lt h = (
  255 ∷ 254 ∷ 0 ∷ 0 ∷ 0 ∷ 0 ∷ [],
  (All-append (λ (x : ℕ). x < 256) (a ∷ b ∷ []) (255 ∷ 254 ∷ 0 ∷ 0 ∷ 0 ∷ 0 ∷ []) fits (literal (255 ∷ 254 ∷ 0 ∷ 0 ∷ 0 ∷ 0 ∷ []) refl), (refl, h)),
)
vnode_filled last (a ∷ b ∷ c ∷ []) fits lt h = (
  254 ∷ 0 ∷ 0 ∷ 0 ∷ 0 ∷ [],
  (All-append (λ (x : ℕ). x < 256) (a ∷ b ∷ c ∷ []) (254 ∷ 0 ∷ 0 ∷ 0 ∷ 0 ∷ []) fits (literal (254 ∷ 0 ∷ 0 ∷ 0 ∷ 0 ∷ []) refl), (refl, h)),
)
vnode_filled last (a ∷ b ∷ c ∷ d ∷ p) fits lt h = absurd (omega arith)

pub vnode_begun : (last : ℕ) (p : List ℕ) → IsBytes p → length p < 4 → ComesAfter last (greatest p) → Judges (IsWhole (forms.Vnode last)) p More
vnode_begun last p fits lt h = let filled = vnode_filled last p fits lt h in (vnode_short last p (omega arith), filled.0, filled.1)

pub vnode_goes_on : (last : ℕ) (p : List ℕ) → IsBytes p → 4 ≤ length p → length p < 8 → ComesAfter last (number_from 0 p) → Judges (IsWhole (forms.Vnode last)) p More
vnode_goes_on last p fits le lt h =
    let more = 8 - length p in
    let at : (i : ℕ) → i < 4 → get_or (p ++ zeros more) i 0 ≡ get_or p i 0 = λ i below. get_or_append_left p (zeros more) 0 i (omega arith) in (
      vnode_short last p lt,
      zeros more,
      (
        All-append (λ (x : ℕ). x < 256) p (zeros more) fits (zeros_bytes more),
        (
          omega (arith, length-append p (zeros more), zeros_length more),
          rw (at 0 (lit< tt), at 1 (lit< tt), at 2 (lit< tt), at 3 (lit< tt)) h,
        ),
      ),
    )

byte_at : (q : List ℕ) (i : ℕ) → IsBytes q → get_or q i 0 ≤ 255
byte_at q i h = elim (cases_lt i (length q)) [
  | inl lt ↦ omega (arith, All-get_or (λ (x : ℕ). x < 256) q i 0 lt h)
  | inr le ↦ omega (arith, get_or_past q i 0 le)
]

-- bytes that are still to come are at most 255
up_to : (p q : List ℕ) (i : ℕ) → IsBytes (p ++ q) → get_or (p ++ q) i 0 ≤ get_or p i 255
up_to [] q i h = byte_at q i h
up_to (x ∷ p) q zero h = omega arith
up_to (x ∷ p) q (suc i) h = up_to p q i (All-tail (λ (x : ℕ). x < 256) x (p ++ q) h)

-- where a number comes after, an even one that is not less but by one does too
reaches : (last n g : ℕ) → g % 2 ≡ 0 → 1 ≤ g → n ≤ g + 1 → ComesAfter last n → ComesAfter last g
reaches last n g even some le h = elim h.1 [
  | inl none ↦ (some, inl none)
  | inr before ↦ elim before [
    | inl k ↦ (some, inr (inl (k.0, even)))
    | inr k ↦ elim (cases_eq (last % 2) 1) [
      | inl odd ↦ (some, inr (inl (odd, even)))
      | inr not ↦ (some, inr (inr (omega (arith, even, not), omega (arith, even, not, k.0, k.1, le))))
    ]
  ]
]

pub vnode_ends : (last : ℕ) (p : List ℕ) → (ComesAfter last (greatest p) → ⊥) → Judges (IsWhole (forms.Vnode last)) p Never
vnode_ends last p none q w =
    let most : number_from 0 (p ++ q) ≤ greatest p + 1 = omega (arith, up_to p q 0 w.0, up_to p q 1 w.0, up_to p q 2 w.0, byte_at (p ++ q) 3 w.0) in
    none (reaches last (number_from 0 (p ++ q)) (greatest p) (omega arith) (omega arith) most w.1.1)

-- ---- no bytes of a form begin others of it

fixed_ends : (front p q : List ℕ) (count : ℕ) → IsFixed front count p → IsFixed front count (p ++ q) → q ≡ []
fixed_ends front p q count h k =
    nil_from_length q (omega (arith, parts_length p front h.0 h.1, parts_length (p ++ q) front k.0 k.1, length-append p q, h.2, k.2))

name_ends : (p q : List ℕ) → HasForm forms.Name p → HasForm forms.Name (p ++ q) → q ≡ []
name_ends p q h k =
    let e : (h.0 ++ 0 ∷ []) ++ q ≡ k.0 ++ 0 ∷ [] = ap (λ (x : List ℕ). x ++ q) (sym h.1) ∙ k.1 in
    (zero_ends h.0 k.0 q (nonzero_of k.0 (each_of k.0 k.2)) e).1

pub prefix_free : (form : Form) (p q : List ℕ) → IsWhole form p → IsWhole form (p ++ q) → q ≡ []
prefix_free (forms.Exact count) p q h k = fixed_ends [] p q count h.1 k.1
prefix_free forms.Opening p q h k = fixed_ends opening p q 0 h.1 k.1
prefix_free forms.Closing p q h k = fixed_ends closing p q 0 h.1 k.1
prefix_free forms.Times p q h k = fixed_ends (0 ∷ 2 ∷ []) p q 8 h.1 k.1
prefix_free forms.Week p q h k = fixed_ends (0 ∷ 7 ∷ []) p q 28 h.1 k.1
prefix_free forms.Text p q h k = text_ends p q h.1 k.1
prefix_free forms.VolumeKind p q h k = nil_from_length q (omega (arith, ap length h.1.1, ap length k.1.1, length-append p q))
prefix_free (forms.Data wide limit) p q h k = data_ends wide limit p q h.1 k.1
prefix_free forms.Name p q h k = name_ends p q h.1 k.1
prefix_free (forms.Kind directory) p q h k = nil_from_length q (omega (arith, ap length h.1.1, ap length k.1.1, length-append p q))
prefix_free (forms.Vnode last) p q h k = nil_from_length q (omega (arith, h.1.0, k.1.0, length-append p q))
