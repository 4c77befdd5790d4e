-- The bytes of a fragment fix its pieces.
use Rattle.std.proofs.Common.{◌≡◌, inl, inr, ℕ, ◌+◌, ◌*◌, ◌-◌, ◌<◌, ◌≤◌, List, [], ◌∷◌, ◌++◌, length, drop, replicate, refl, sym, ap, ◌∙◌, arith, append-nil, length-append}
use Rattle.std.specs.Prelude.{All}
use Rattle.std.specs.List.{flat_map}
use Rattle.std.proofs.lemmas.List.{take-append-drop, length-take-le}
use Rattle.std.proofs.lemmas.List.Elements.{All-nil, All-cons, All-head, All-tail}
use Rattle.std.proofs.lemmas.List.Sums.{sum_by-cons}
use Rattle.tape_frames.specs.declared.data.DataFields.{DataFields}
use Rattle.tape_frames.specs.Layouts.{FitsData}
use Rattle.tape_text.specs.Texts.{AreFilled, IsPiece, used_of}
use Rattle.tape_writer.specs.Filling.{bytes_of}

-- a piece of this dump and this volume
abbrev pub IsGood : ℕ → ℕ → DataFields → Type 0
IsGood dump index d = FitsData d × IsPiece dump index d

pub all_both : {X : Type 0} (P Q : X → Type 0) (xs : List X) → All P xs → All Q xs → All (λ x. P x × Q x) xs
all_both P Q [] ps qs = All-nil (λ x. P x × Q x)
all_both P Q (x ∷ xs) ps qs = All-cons (λ y. P y × Q y) x xs (All-head P x xs ps, All-head Q x xs qs) (all_both P Q xs (All-tail P x xs ps) (All-tail Q x xs qs))

pub same_front : (a b x y : List ℕ) → length a ≡ length b → a ++ x ≡ b ++ y → (a ≡ b) × (x ≡ y)
same_front [] [] x y len same = (refl, same)
same_front [] (b ∷ bs) x y len same = absurd (omega (arith, len))
same_front (a ∷ ar) [] x y len same = absurd (omega (arith, len))
same_front (a ∷ ar) (b ∷ br) x y len same =
    let first : a ≡ b = cc in
    let rest : ar ++ x ≡ br ++ y = cc in
    let both = same_front ar br x y (omega (arith, len)) rest in
    let there : ar ≡ br = both.0 in
    (cc, both.1)

bytes_length : (d : DataFields) → FitsData d → length (bytes_of d) ≡ d.used
bytes_length d fit = length-take-le d.used d.bytes (omega (arith, fit.used, fit.size))

same_piece : (dump index : ℕ) (d e : DataFields) → IsGood dump index d → IsGood dump index e → bytes_of d ≡ bytes_of e → d ≡ e
same_piece dump index d e gd ge same =
    let used : d.used ≡ e.used = sym (bytes_length d gd.0) ∙ ap length same ∙ bytes_length e ge.0 in
    let rest : drop d.used d.bytes ≡ drop e.used e.bytes = gd.0.rest ∙ ap (λ (n : ℕ). replicate (16352 - n) 0) used ∙ sym ge.0.rest in
    let joined : bytes_of d ++ drop d.used d.bytes ≡ bytes_of e ++ drop e.used e.bytes = λ i. same i ++ rest i in
    let bytes : d.bytes ≡ e.bytes = sym (take-append-drop d.used d.bytes) ∙ joined ∙ take-append-drop e.used e.bytes in
    let dumps : d.dump ≡ e.dump = gd.1.0 ∙ sym ge.1.0 in
    let indexes : d.index ≡ e.index = gd.1.1 ∙ sym ge.1.1 in
    λ i. record { dump = dumps i; index = indexes i; used = used i; bytes = bytes i }

-- each but the last one is full
pub filled_any : (last : ℕ) (ds : List DataFields) → AreFilled last ds → AreFilled 1 ds
filled_any last [] f = f
filled_any last (d ∷ []) f = inr refl
filled_any last (d ∷ e ∷ ds) f = (f.0, filled_any last (e ∷ ds) f.1)

pub same_pieces : (dump index : ℕ) (ds es : List DataFields) → length ds ≡ length es → AreFilled 1 ds → AreFilled 1 es → All (IsGood dump index) ds → All (IsGood dump index) es → flat_map bytes_of ds ≡ flat_map bytes_of es → ds ≡ es
same_pieces dump index [] es len fd fe gd ge same = absurd fd
same_pieces dump index (d ∷ ds) [] len fd fe gd ge same = absurd fe
same_pieces dump index (d ∷ []) (e ∷ []) len fd fe gd ge same =
    let here : bytes_of d ≡ bytes_of e = sym (append-nil (bytes_of d)) ∙ same ∙ append-nil (bytes_of e) in
    let one : d ≡ e = same_piece dump index d e (All-head (IsGood dump index) d [] gd) (All-head (IsGood dump index) e [] ge) here in
    ap (λ (x : DataFields). x ∷ []) one
same_pieces dump index (d ∷ []) (e ∷ f ∷ es) len fd fe gd ge same = absurd (omega (arith, len))
same_pieces dump index (d ∷ c ∷ ds) (e ∷ []) len fd fe gd ge same = absurd (omega (arith, len))
same_pieces dump index (d ∷ c ∷ ds) (e ∷ f ∷ es) len fd fe gd ge same =
    let hd = All-head (IsGood dump index) d (c ∷ ds) gd in
    let he = All-head (IsGood dump index) e (f ∷ es) ge in
    let lens : length (bytes_of d) ≡ length (bytes_of e) = bytes_length d hd.0 ∙ fd.0 ∙ sym (bytes_length e he.0 ∙ fe.0) in
    let split = same_front (bytes_of d) (bytes_of e) (flat_map bytes_of (c ∷ ds)) (flat_map bytes_of (f ∷ es)) lens same in
    let one : d ≡ e = same_piece dump index d e hd he split.0 in
    let rest : c ∷ ds ≡ f ∷ es = same_pieces dump index (c ∷ ds) (f ∷ es) (omega (arith, len)) fd.1 fe.1 (All-tail (IsGood dump index) d (c ∷ ds) gd) (All-tail (IsGood dump index) e (f ∷ es) ge) split.1 in
    λ i. one i ∷ rest i

-- ---- how many bytes pieces have

pub used_length : (dump index : ℕ) (ds : List DataFields) → All (IsGood dump index) ds → length (flat_map bytes_of ds) ≡ used_of ds
used_length dump index [] good = refl
used_length dump index (d ∷ ds) good =
    let here = bytes_length d (All-head (IsGood dump index) d ds good).0 in
    let rest = used_length dump index ds (All-tail (IsGood dump index) d ds good) in
    omega (arith, here, rest, length-append (bytes_of d) (flat_map bytes_of ds), sum_by-cons (λ (x : DataFields). x.used) d ds)

pub at_most : (dump index : ℕ) (ds : List DataFields) → All (IsGood dump index) ds → used_of ds ≤ length ds * 16352
at_most dump index [] good = omega arith
at_most dump index (d ∷ ds) good =
    let here = (All-head (IsGood dump index) d ds good).0.used in
    let rest = at_most dump index ds (All-tail (IsGood dump index) d ds good) in
    omega (arith, here, rest, sum_by-cons (λ (x : DataFields). x.used) d ds)

pub at_least : (dump index : ℕ) (ds : List DataFields) → AreFilled 1 ds → All (IsGood dump index) ds → length ds * 16352 < used_of ds + 16352
at_least dump index [] filled good = absurd filled
at_least dump index (d ∷ []) filled good =
    let here = (All-head (IsGood dump index) d [] good).0.used in
    omega (arith, here, sum_by-cons (λ (x : DataFields). x.used) d [])
at_least dump index (d ∷ e ∷ ds) filled good =
    let rest = at_least dump index (e ∷ ds) filled.1 (All-tail (IsGood dump index) d (e ∷ ds) good) in
    omega (arith, rest, filled.0, sum_by-cons (λ (x : DataFields). x.used) d (e ∷ ds))

pub exactly : (ds : List DataFields) → AreFilled 0 ds → used_of ds ≡ length ds * 16352
exactly [] filled = absurd filled
exactly (d ∷ []) filled = elim filled [
  | inl full ↦ omega (arith, full, sum_by-cons (λ (x : DataFields). x.used) d [])
  | inr one ↦ absurd (omega (arith, one))
]
exactly (d ∷ e ∷ ds) filled = omega (arith, filled.0, exactly (e ∷ ds) filled.1, sum_by-cons (λ (x : DataFields). x.used) d (e ∷ ds))
