-- The block of a label has its fields, and a block whose fields are a label's is that label's.
use Rattle.std.proofs.Common.{zero, suc, ◌≡◌, ◌⊎◌, inl, inr, ℕ, ◌+◌, ◌-◌, ◌<◌, ◌≤◌, ◌^◌, Bool, true, false, not, List, [], ◌∷◌, ◌++◌, length, take, drop, get_or, replicate, IsTrue, refl, sym, ◌∙◌, ap, arith, append_assoc}
use Rattle.std.specs.Prelude.{nat_le, ◌==◌, ◌&&◌, ◌||◌, ◌↔◌, if◌then◌else◌, Option, Some, None}
use Rattle.std.specs.Int.{w32, to_be_bytes, from_be_bytes}
use Rattle.std.proofs.lemmas.Nat.{from_be_bytes-to_be_bytes_4}
use Rattle.std.proofs.lemmas.Bool.{eqb-true, eqb-false, eq-eqb, ne_eqb, le-leb, leb-true, and_parts, and_from, not-true, not_from_false}
use Rattle.std.proofs.lemmas.Cmp.{nat_list_eq_equiv}
use Rattle.std.proofs.Math.Seq.{take-append_seam, drop-append_seam}
use Rattle.byte_formats.specs.Bytes.{four, text1}
use Rattle.byte_formats.specs.Forms.{IsMaybe}
use Rattle.bk_text.specs.Alphabets.{IsTapeName}
use Rattle.bk_text.specs.Tests.{tape_name_test}
use Rattle.bk_text.specs.Blanks.{is_same_text}
use Rattle.tape_frames.specs.declared.label.LabelFields.{LabelFields}
use Rattle.tape_frames.specs.declared.frame.Frame.{Frame}
use Rattle.tape_frames.specs.declared.frame.Frame.TheVariants.{Label, DumpHead, VolHead, Data, VolEnd, DumpEnd}
use Rattle.tape_frames.specs.Layouts.{FitsLabel}
use Rattle.tape_frames.specs.Frames.{Fits, spelling, IsSpelled}
use Rattle.backup_session.specs.Labels.{number_at, text_at, fields_in, is_name_or_none, is_label, label_from, label_in}

-- ---- the fields of a label's block

-- what stands behind the length of the AFS name
behind : List ℕ → List ℕ → ℕ → List ℕ
behind afs permanent zeros = (afs ++ (length permanent ∷ permanent)) ++ replicate zeros 0

-- the zeros of a label's block
zeros_of : LabelFields → ℕ
zeros_of a = 16384 - length (65 ∷ 70 ∷ 83 ∷ 84 ∷ 1 ∷ 1 ∷ 0 ∷ 0 ∷ (to_be_bytes w32 a.initial ++ (to_be_bytes w32 a.tape ++ ((length a.afs ∷ a.afs) ++ (length a.permanent ∷ a.permanent)))))

behind_is : (a : LabelFields) → drop 17 (spelling (Label a)) ≡ behind a.afs a.permanent (zeros_of a)
unfolding four text1 behind zeros_of
behind_is a = refl

initial_is : (a : LabelFields) → number_at 8 (spelling (Label a)) ≡ from_be_bytes w32 (to_be_bytes w32 a.initial)
unfolding four text1
initial_is a = refl

tape_is : (a : LabelFields) → number_at 12 (spelling (Label a)) ≡ from_be_bytes w32 (to_be_bytes w32 a.tape)
unfolding four text1
tape_is a = refl

length_is : (a : LabelFields) → get_or (spelling (Label a)) 16 0 ≡ length a.afs
unfolding four text1
length_is a = refl

-- a text, then another one behind its length
afs_is : (afs permanent : List ℕ) (zeros : ℕ) → take (length afs) (behind afs permanent zeros) ≡ afs
unfolding behind
afs_is afs permanent zeros = ap (take (length afs)) (append_assoc afs (length permanent ∷ permanent) (replicate zeros 0)) ∙ take-append_seam afs ((length permanent ∷ permanent) ++ replicate zeros 0)

rest_is : (afs permanent : List ℕ) (zeros : ℕ) → drop (length afs) (behind afs permanent zeros) ≡ length permanent ∷ (permanent ++ replicate zeros 0)
unfolding behind
rest_is afs permanent zeros = ap (drop (length afs)) (append_assoc afs (length permanent ∷ permanent) (replicate zeros 0)) ∙ drop-append_seam afs ((length permanent ∷ permanent) ++ replicate zeros 0)

get_drop : (n : ℕ) (l : List ℕ) → get_or l n 0 ≡ get_or (drop n l) 0 0
get_drop zero l = refl
get_drop (suc n) [] = refl
get_drop (suc n) (x ∷ l) = get_drop n l

drop_more : (n : ℕ) (l : List ℕ) → drop (n + 1) l ≡ drop 1 (drop n l)
drop_more zero l = refl
drop_more (suc n) [] = ap (λ (m : ℕ). drop m []) (over n)
  where
    over : (n : ℕ) → suc n + 1 ≡ suc (n + 1)
    over n = omega arith
drop_more (suc n) (x ∷ l) = ap (λ (m : ℕ). drop m (x ∷ l)) (over n) ∙ drop_more n l
  where
    over : (n : ℕ) → suc n + 1 ≡ suc (n + 1)
    over n = omega arith

permanent_is : (afs permanent : List ℕ) (zeros : ℕ) → text_at (length afs) (behind afs permanent zeros) ≡ permanent
permanent_is afs permanent zeros =
    let n = length afs in
    let all = behind afs permanent zeros in
    let rest = rest_is afs permanent zeros in
    ap (λ (m : ℕ). take m (drop (length afs + 1) (behind afs permanent zeros))) (get_drop n all ∙ ap (λ (l : List ℕ). get_or l 0 0) rest)
    ∙ ap (take (length permanent)) (drop_more n all ∙ ap (drop 1) rest) ∙ take-append_seam permanent (replicate zeros 0)

below : (n : ℕ) → n ≤ 4294967295 → n < 2 ^ 32
below n le = omega arith

pub fields_again : (a : LabelFields) → FitsLabel a → fields_in (spelling (Label a)) ≡ a
fields_again a fits =
    let s = spelling (Label a) in
    let initial : number_at 8 (spelling (Label a)) ≡ a.initial = initial_is a ∙ from_be_bytes-to_be_bytes_4 a.initial (below a.initial fits.initial) in
    let tape : number_at 12 (spelling (Label a)) ≡ a.tape = tape_is a ∙ from_be_bytes-to_be_bytes_4 a.tape (below a.tape fits.tape) in
    let afs : take (get_or (spelling (Label a)) 16 0) (drop 17 (spelling (Label a))) ≡ a.afs = ap (λ (n : ℕ). take n (drop 17 (spelling (Label a)))) (length_is a) ∙ ap (take (length a.afs)) (behind_is a) ∙ afs_is a.afs a.permanent (zeros_of a) in
    let permanent : text_at (get_or (spelling (Label a)) 16 0) (drop 17 (spelling (Label a))) ≡ a.permanent = ap (λ (n : ℕ). text_at n (drop 17 (spelling (Label a)))) (length_is a) ∙ ap (text_at (length a.afs)) (behind_is a) ∙ permanent_is a.afs a.permanent (zeros_of a) in
    λ i. record { initial = initial i; tape = tape i; afs = afs i; permanent = permanent i }

-- ---- the fields that a label may have

or_true : (b : Bool) → (b || true) ≡ true
or_true true = refl
or_true false = refl

name_true : ((text : List ℕ) → IsTrue (tape_name_test text) ↔ IsTapeName text) → (text : List ℕ) → IsMaybe IsTapeName text → is_name_or_none text ≡ true
name_true tests text (inl is) = ap (λ (b : Bool). b || (length text == 0)) ((tests text).1 is)
name_true tests text (inr none) = ap (λ (t : List ℕ). tape_name_test t || (length t == 0)) none ∙ or_true (tape_name_test [])

name_is : ((text : List ℕ) → IsTrue (tape_name_test text) ↔ IsTapeName text) → (text : List ℕ) → is_name_or_none text ≡ true → IsMaybe IsTapeName text
name_is tests text is = go (tape_name_test text) refl is
  where
    none : (t : List ℕ) → (length t == 0) ≡ true → t ≡ []
    none [] e = refl
    none (x ∷ t) e = let f : length (x ∷ t) ≡ 0 = eqb-true (length (x ∷ t)) 0 e in absurd (omega arith)

    go : (b : Bool) → tape_name_test text ≡ b → (b || (length text == 0)) ≡ true → IsMaybe IsTapeName text
    go true e o = inl ((tests text).0 e)
    go false e o = inr (none text o)

carries_true : (a : LabelFields) → FitsLabel a → (((a.initial == 0) && (a.tape == 0)) || (not (a.initial == 0) && (not (a.tape == 0) && not (length a.afs == 0)))) ≡ true
carries_true a fits = go fits.carries
  where
    some : (l : List ℕ) → (l ≡ [] → ⊥) → (length l == 0) ≡ false
    some [] ne = absurd (ne refl)
    some (x ∷ l) ne = ne_eqb (length (x ∷ l)) 0 (λ e. omega arith)

    go : ((a.initial ≡ 0) × (a.tape ≡ 0)) ⊎ ((a.initial ≡ 0 → ⊥) × (a.tape ≡ 0 → ⊥) × (a.afs ≡ [] → ⊥)) → (((a.initial == 0) && (a.tape == 0)) || (not (a.initial == 0) && (not (a.tape == 0) && not (length a.afs == 0)))) ≡ true
    go (inl both) = ap (λ (b : Bool). b || (not (a.initial == 0) && (not (a.tape == 0) && not (length a.afs == 0)))) (and_from (a.initial == 0) (a.tape == 0) (eq-eqb a.initial 0 both.0) (eq-eqb a.tape 0 both.1))
    go (inr none) = ap (λ (b : Bool). ((a.initial == 0) && (a.tape == 0)) || b) (and_from (not (a.initial == 0)) (not (a.tape == 0) && not (length a.afs == 0)) (not_from_false (a.initial == 0) (ne_eqb a.initial 0 none.0))
        (and_from (not (a.tape == 0)) (not (length a.afs == 0)) (not_from_false (a.tape == 0) (ne_eqb a.tape 0 none.1)) (not_from_false (length a.afs == 0) (some a.afs none.2)))) ∙ or_true ((a.initial == 0) && (a.tape == 0))

carries_is : (a : LabelFields) → (((a.initial == 0) && (a.tape == 0)) || (not (a.initial == 0) && (not (a.tape == 0) && not (length a.afs == 0)))) ≡ true → ((a.initial ≡ 0) × (a.tape ≡ 0)) ⊎ ((a.initial ≡ 0 → ⊥) × (a.tape ≡ 0 → ⊥) × (a.afs ≡ [] → ⊥))
carries_is a is = go ((a.initial == 0) && (a.tape == 0)) refl is
  where
    differs : (m n : ℕ) → not (m == n) ≡ true → m ≡ n → ⊥
    differs m n e same = eqb-false m n (not-true (m == n) e) same

    go : (b : Bool) → ((a.initial == 0) && (a.tape == 0)) ≡ b → (b || (not (a.initial == 0) && (not (a.tape == 0) && not (length a.afs == 0)))) ≡ true → ((a.initial ≡ 0) × (a.tape ≡ 0)) ⊎ ((a.initial ≡ 0 → ⊥) × (a.tape ≡ 0 → ⊥) × (a.afs ≡ [] → ⊥))
    go true e o = let p = and_parts (a.initial == 0) (a.tape == 0) e in inl (eqb-true a.initial 0 p.0, eqb-true a.tape 0 p.1)
    go false e o =
        let p = and_parts (not (a.initial == 0)) (not (a.tape == 0) && not (length a.afs == 0)) o in
        let q = and_parts (not (a.tape == 0)) (not (length a.afs == 0)) p.1 in
        inr (differs a.initial 0 p.0, differs a.tape 0 q.0, λ none. differs (length a.afs) 0 q.1 (ap length none))

-- a label's fields pass
label_true : ((text : List ℕ) → IsTrue (tape_name_test text) ↔ IsTapeName text) → (a : LabelFields) → FitsLabel a → is_label a ≡ true
label_true tests a fits =
    and_from _ _ (le-leb a.initial 4294967295 fits.initial) (and_from _ _ (le-leb a.tape 4294967295 fits.tape) (and_from _ _ (name_true tests a.afs fits.afs) (and_from _ _ (name_true tests a.permanent fits.permanent) (carries_true a fits))))

-- fields that pass are a label's
label_is : ((text : List ℕ) → IsTrue (tape_name_test text) ↔ IsTapeName text) → (a : LabelFields) → is_label a ≡ true → FitsLabel a
label_is tests a is =
    let p = and_parts (nat_le a.initial 4294967295) _ is in
    let q = and_parts (nat_le a.tape 4294967295) _ p.1 in
    let r = and_parts (is_name_or_none a.afs) _ q.1 in
    let s = and_parts (is_name_or_none a.permanent) _ r.1 in
    record {
      initial = leb-true a.initial 4294967295 p.0;
      tape = leb-true a.tape 4294967295 q.0;
      afs = name_is tests a.afs r.0;
      permanent = name_is tests a.permanent s.0;
      carries = carries_is a s.1;
    }

-- ---- labels in blocks

same_from_eq : (xs ys : List ℕ) → is_same_text xs ys ≡ true → xs ≡ ys
same_from_eq [] [] e = refl
same_from_eq [] (y ∷ ys) e = let f : false ≡ true = e in cc
same_from_eq (x ∷ xs) [] e = let f : false ≡ true = e in cc
same_from_eq (x ∷ xs) (y ∷ ys) e = let p = and_parts (x == y) (is_same_text xs ys) e in λ i. eqb-true x y p.0 i ∷ same_from_eq xs ys p.1 i

choice : List ℕ → LabelFields → Option LabelFields
choice bytes a = if is_label a && is_same_text bytes (spelling (Label a)) then Some a else None

-- a label's block
pub label_there : ((text : List ℕ) → IsTrue (tape_name_test text) ↔ IsTapeName text) → (bytes : List ℕ) (a : LabelFields) → FitsLabel a → bytes ≡ spelling (Label a) → Some a ≡ label_in bytes
unfolding choice
label_there tests bytes a fits is =
    sym (ap (choice bytes) (ap fields_in is ∙ fields_again a fits)
    ∙ ap (λ (b : Bool). if b then Some a else None) (and_from (is_label a) (is_same_text bytes (spelling (Label a))) (label_true tests a fits) (ap (λ (l : List ℕ). is_same_text l (spelling (Label a))) is ∙ nat_list_eq_equiv.refl (spelling (Label a)))))

-- any other block
pub no_label : ((text : List ℕ) → IsTrue (tape_name_test text) ↔ IsTapeName text) → (bytes : List ℕ) → ((a : LabelFields) → FitsLabel a → bytes ≡ spelling (Label a) → ⊥) → None ≡ label_in bytes
unfolding choice
no_label tests bytes never = sym (ap (λ (b : Bool). if b then Some (fields_in bytes) else None) (go (is_label (fields_in bytes)) (is_same_text bytes (spelling (Label (fields_in bytes)))) refl refl))
  where
    go : (x y : Bool) → is_label (fields_in bytes) ≡ x → is_same_text bytes (spelling (Label (fields_in bytes))) ≡ y → (x && y) ≡ false
    go false y e f = refl
    go true false e f = refl
    go true true e f = absurd (never (fields_in bytes) (label_is tests (fields_in bytes) e) (same_from_eq bytes (spelling (Label (fields_in bytes))) f))

-- a frame's block
pub frame_label : ((text : List ℕ) → IsTrue (tape_name_test text) ↔ IsTapeName text) → ((f g : Frame) → Fits f → Fits g → spelling f ≡ spelling g → f ≡ g) → (bytes : List ℕ) (f : Frame) → Fits f → bytes ≡ spelling f → label_from f ≡ label_in bytes
frame_label tests one bytes (Label a) fits is = label_there tests bytes a fits is
frame_label tests one bytes (DumpHead h) fits is = no_label tests bytes (λ a label same. let e : DumpHead h ≡ Label a = one (DumpHead h) (Label a) fits label (sym is ∙ same) in cc)
frame_label tests one bytes (VolHead h) fits is = no_label tests bytes (λ a label same. let e : VolHead h ≡ Label a = one (VolHead h) (Label a) fits label (sym is ∙ same) in cc)
frame_label tests one bytes (Data h) fits is = no_label tests bytes (λ a label same. let e : Data h ≡ Label a = one (Data h) (Label a) fits label (sym is ∙ same) in cc)
frame_label tests one bytes (VolEnd h) fits is = no_label tests bytes (λ a label same. let e : VolEnd h ≡ Label a = one (VolEnd h) (Label a) fits label (sym is ∙ same) in cc)
frame_label tests one bytes (DumpEnd h) fits is = no_label tests bytes (λ a label same. let e : DumpEnd h ≡ Label a = one (DumpEnd h) (Label a) fits label (sym is ∙ same) in cc)

-- a block of no frame
pub nothing_label : ((text : List ℕ) → IsTrue (tape_name_test text) ↔ IsTapeName text) → (bytes : List ℕ) → (IsSpelled bytes → ⊥) → None ≡ label_in bytes
nothing_label tests bytes never = no_label tests bytes (λ a label same. never (Label a, label, same))
