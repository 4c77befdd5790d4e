-- A frame's block is read as that frame, and each record as what it says.
use Rattle.std.proofs.Common.{◌≡◌, inl, inr, ℕ, ◌-◌, ◌<◌, ◌≤◌, ◌^◌, Bool, true, false, List, [], ◌∷◌, ◌++◌, length, take, drop, replicate, refl, sym, ◌∙◌, ap, subst, arith, append_assoc}
use Rattle.std.specs.Prelude.{◌==◌, ◌&&◌, if◌then◌else◌, Option, Some, None}
use Rattle.std.specs.Int.{w16, to_be_bytes, from_be_bytes}
use Rattle.std.proofs.lemmas.Nat.{from_be_bytes-to_be_bytes_2, from_be_bytes-to_be_bytes_4}
use Rattle.std.proofs.lemmas.Bool.{eqb-true, cases_Bool, and_from}
use Rattle.std.proofs.Math.Seq.{take-append_seam, drop-append_seam}
use Rattle.byte_formats.specs.Bytes.{two, four, text1, text2}
use Rattle.bk_text.specs.Blanks.{is_same_text}
use Rattle.plant_core.specs.Records.{Record, block_with, mark, bad}
use Rattle.tape_frames.specs.declared.label.LabelFields.{LabelFields}
use Rattle.tape_frames.specs.declared.dump_head.DumpHeadFields.{DumpHeadFields}
use Rattle.tape_frames.specs.declared.vol_head.VolHeadFields.{VolHeadFields}
use Rattle.tape_frames.specs.declared.data.DataFields.{DataFields}
use Rattle.tape_frames.specs.declared.vol_end.VolEndFields.{VolEndFields}
use Rattle.tape_frames.specs.declared.dump_end.DumpEndFields.{DumpEndFields}
use Rattle.tape_frames.specs.declared.frame.Frame.{Frame}
use Rattle.tape_frames.specs.declared.frame.Frame.TheVariants.{Label, DumpHead, VolHead, Data, VolEnd, DumpEnd}
use Rattle.tape_frames.specs.Layouts.{label_bytes, plain_head_bytes, dump_head_bytes, vol_head_bytes, data_bytes, vol_end_bytes, dump_end_bytes, FitsLabel, FitsDumpHead, FitsVolHead, FitsData, FitsVolEnd, FitsDumpEnd}
use Rattle.tape_frames.specs.Blocks.{block_of}
use Rattle.tape_frames.specs.Frames.{Fits, spelling, IsSpelled}
use Rattle.tape_text.specs.Items.{ReadsAs, Read}
use Rattle.tape_answers.specs.FieldTests.{frame_test}
use Rattle.tape_answers.specs.Reading.{number_then, text_then, long_text_then, label_at, plain_head_at, dump_head_at, vol_head_at, data_at, vol_end_at, dump_end_at, fields_at, likely_frame, frame_if, frame_in, item_for, item_of, items_of}
use Rattle.tape_scan.proofs.Deciding.{same_text}
use Rattle.tape_answers.proofs.FieldLaws.{Forms, frame_fits}

-- ---- one field

below : (n : ℕ) → n ≤ 4294967295 → n < 2 ^ 32
below n le = omega arith

number_step : {X : Type 0} (go : ℕ → List ℕ → X) (n : ℕ) (more z : List ℕ) → n ≤ 4294967295 → number_then go ((four n ++ more) ++ z) ≡ go n (more ++ z)
unfolding number_then four
number_step go n more z le = ap (λ (k : ℕ). go k (more ++ z)) (from_be_bytes-to_be_bytes_4 n (below n le))

number_last : {X : Type 0} (go : ℕ → List ℕ → X) (n : ℕ) (z : List ℕ) → n ≤ 4294967295 → number_then go (four n ++ z) ≡ go n z
unfolding number_then four
number_last go n z le = ap (λ (k : ℕ). go k z) (from_be_bytes-to_be_bytes_4 n (below n le))

text_last : {X : Type 0} (go : List ℕ → List ℕ → X) (t z : List ℕ) → text_then go (text1 t ++ z) ≡ go t z
unfolding text_then text1
text_last go t z = λ i. go (take-append_seam t z i) (drop-append_seam t z i)

text_step : {X : Type 0} (go : List ℕ → List ℕ → X) (t more z : List ℕ) → text_then go ((text1 t ++ more) ++ z) ≡ go t (more ++ z)
text_step go t more z = ap (text_then go) (append_assoc (text1 t) more z) ∙ text_last go t (more ++ z)

long_text_step : {X : Type 0} (go : List ℕ → List ℕ → X) (t more z : List ℕ) → length t ≤ 65535 → long_text_then go ((text2 t ++ more) ++ z) ≡ go t (more ++ z)
unfolding long_text_then text2 two
long_text_step go t more z le =
    let long : from_be_bytes w16 (to_be_bytes w16 (length t)) ≡ length t = from_be_bytes-to_be_bytes_2 (length t) (omega arith) in
    ap (λ (n : ℕ). go (take n ((t ++ more) ++ z)) (drop n ((t ++ more) ++ z))) long
    ∙ ap (λ (l : List ℕ). go (take (length t) l) (drop (length t) l)) (append_assoc t more z)
    ∙ (λ i. go (take-append_seam t (more ++ z) i) (drop-append_seam t (more ++ z) i))

-- ---- the fields of each kind

label_again : (a : LabelFields) (z : List ℕ) → FitsLabel a → label_at (label_bytes a ++ z) ≡ a
label_again a z f =
    number_step _ a.initial (four a.tape ++ (text1 a.afs ++ text1 a.permanent)) z f.initial
    ∙ number_step _ a.tape (text1 a.afs ++ text1 a.permanent) z f.tape
    ∙ text_step _ a.afs (text1 a.permanent) z
    ∙ text_last _ a.permanent z

path_short : (a : DumpHeadFields) → FitsDumpHead a → length a.level ≤ 65535
path_short a f = omega (arith, f.level.short)

plain_again : (a : DumpHeadFields) (z : List ℕ) → FitsDumpHead a → a.uses ≡ 0 → plain_head_at (plain_head_bytes a ++ z) ≡ a
plain_again a z f none =
    number_step _ a.id _ z f.id
    ∙ number_step _ a.initial _ z (omega (arith, f.id, f.initial.1))
    ∙ number_step _ a.parent _ z f.parent
    ∙ number_step _ a.expires _ z f.expires
    ∙ number_step _ a.tape _ z f.tape.1
    ∙ number_step _ a.part _ z f.part.1
    ∙ number_step _ a.volumes _ z f.volumes.1
    ∙ text_step _ a.set _ z
    ∙ long_text_step _ a.level _ z (path_short a f)
    ∙ text_last _ a.base z
    ∙ (λ i. record a { cell = sym (f.plain none).0 i; permanent = sym (f.plain none).1 i; uses = sym none i })

head_again : (a : DumpHeadFields) (z : List ℕ) → FitsDumpHead a → dump_head_at (dump_head_bytes a ++ z) ≡ a
head_again a z f =
    number_step _ a.id _ z f.id
    ∙ number_step _ a.initial _ z (omega (arith, f.id, f.initial.1))
    ∙ number_step _ a.parent _ z f.parent
    ∙ number_step _ a.expires _ z f.expires
    ∙ number_step _ a.tape _ z f.tape.1
    ∙ number_step _ a.part _ z f.part.1
    ∙ number_step _ a.volumes _ z f.volumes.1
    ∙ text_step _ a.set _ z
    ∙ long_text_step _ a.level _ z (path_short a f)
    ∙ text_step _ a.base _ z
    ∙ text_step _ a.cell _ z
    ∙ text_step _ a.permanent _ z
    ∙ number_last _ a.uses z f.uses

vol_head_again : (a : VolHeadFields) (z : List ℕ) → FitsVolHead a → vol_head_at (vol_head_bytes a ++ z) ≡ a
vol_head_again a z f =
    number_step _ a.dump _ z f.dump
    ∙ number_step _ a.index _ z f.index
    ∙ number_step _ a.fragment _ z f.fragment.1
    ∙ number_step _ a.volume _ z f.volume
    ∙ number_step _ a.clone _ z f.clone
    ∙ number_step _ a.from _ z f.from
    ∙ text_step _ a.name _ z
    ∙ text_step _ a.server _ z
    ∙ text_last _ a.partition z

-- the bytes that are used and those behind them, where so many are taken
taken : (n : ℕ) (bytes z : List ℕ) → length bytes ≡ n → take n (bytes ++ z) ≡ bytes
taken n bytes z size = ap (λ (k : ℕ). take k (bytes ++ z)) (sym size) ∙ take-append_seam bytes z

data_again : (a : DataFields) (z : List ℕ) → FitsData a → data_at (data_bytes a ++ z) ≡ a
data_again a z f =
    number_step _ a.dump _ z f.dump
    ∙ number_step _ a.index _ z f.index
    ∙ number_step _ a.used _ z (omega (arith, f.used.1))
    ∙ (λ i. record a { bytes = taken 16352 a.bytes z f.size i })

vol_end_again : (a : VolEndFields) (z : List ℕ) → FitsVolEnd a → vol_end_at (vol_end_bytes a ++ z) ≡ a
vol_end_again a z f =
    number_step _ a.dump _ z f.dump
    ∙ number_step _ a.index _ z f.index
    ∙ number_step _ a.fragment _ z f.fragment
    ∙ number_step _ a.last _ z (omega (arith, f.last))
    ∙ number_last _ a.bytes z f.bytes

dump_end_again : (a : DumpEndFields) (z : List ℕ) → FitsDumpEnd a → dump_end_at (dump_end_bytes a ++ z) ≡ a
dump_end_again a z f =
    number_step _ a.dump _ z f.dump
    ∙ number_step _ a.tape _ z f.tape
    ∙ number_last _ a.more z (omega (arith, f.more))

-- ---- blocks

-- the zeros at the end of a block of these fields
abbrev zeros_behind : ℕ → ℕ → List ℕ → List ℕ
zeros_behind version code fields = replicate (16384 - length (65 ∷ 70 ∷ 83 ∷ 84 ∷ version ∷ code ∷ 0 ∷ 0 ∷ fields)) 0

likely : (version code : ℕ) (fields : List ℕ) → likely_frame (block_of version code fields) ≡ fields_at version code (fields ++ zeros_behind version code fields)
likely version code fields = refl

likely_again : (f : Frame) → Fits f → likely_frame (spelling f) ≡ f
likely_again (Label a) f = likely 1 1 (label_bytes a) ∙ ap Label (label_again a (zeros_behind 1 1 (label_bytes a)) f)
likely_again (DumpHead a) f = elim (cases_Bool (a.uses == 0)) [
  | inl e ↦ ap (λ (b : Bool). likely_frame (if b then block_of 1 2 (plain_head_bytes a) else block_of 2 2 (dump_head_bytes a))) e ∙ likely 1 2 (plain_head_bytes a)
      ∙ ap DumpHead (plain_again a (zeros_behind 1 2 (plain_head_bytes a)) f (eqb-true a.uses 0 e))
  | inr e ↦ ap (λ (b : Bool). likely_frame (if b then block_of 1 2 (plain_head_bytes a) else block_of 2 2 (dump_head_bytes a))) e ∙ likely 2 2 (dump_head_bytes a)
      ∙ ap DumpHead (head_again a (zeros_behind 2 2 (dump_head_bytes a)) f)
]
likely_again (VolHead a) f = likely 1 3 (vol_head_bytes a) ∙ ap VolHead (vol_head_again a (zeros_behind 1 3 (vol_head_bytes a)) f)
likely_again (Data a) f = likely 1 4 (data_bytes a) ∙ ap Data (data_again a (zeros_behind 1 4 (data_bytes a)) f)
likely_again (VolEnd a) f = likely 1 5 (vol_end_bytes a) ∙ ap VolEnd (vol_end_again a (zeros_behind 1 5 (vol_end_bytes a)) f)
likely_again (DumpEnd a) f = likely 1 6 (dump_end_bytes a) ∙ ap DumpEnd (dump_end_again a (zeros_behind 1 6 (dump_end_bytes a)) f)

-- the frame that is read of bytes, and none where they are no frame's
abbrev IsFrameIn : List ℕ → Option Frame → Type 0
IsFrameIn bytes None = IsSpelled bytes → ⊥
IsFrameIn bytes (Some f) = Fits f × (bytes ≡ spelling f)

pub frame_read : Forms → (bytes : List ℕ) → IsFrameIn bytes (frame_in bytes)
unfolding frame_in
frame_read forms bytes = go (frame_test (likely_frame bytes)) (is_same_text bytes (spelling (likely_frame bytes))) refl refl
  where
    spelled : (g : Frame) → Fits g → bytes ≡ spelling g → likely_frame bytes ≡ g
    spelled g fits is = ap likely_frame is ∙ likely_again g fits

    go : (x y : Bool) → frame_test (likely_frame bytes) ≡ x → is_same_text bytes (spelling (likely_frame bytes)) ≡ y → IsFrameIn bytes (if x && y then Some (likely_frame bytes) else None)
    go true true e d = ((frame_fits forms (likely_frame bytes)).0 e, (same_text bytes (spelling (likely_frame bytes))).0 d)
    go true false e d = λ s. let same = spelled s.0 s.1 s.2 in
        let there : is_same_text bytes (spelling (likely_frame bytes)) ≡ true = (same_text bytes (spelling (likely_frame bytes))).1 (s.2 ∙ ap spelling (sym same)) in
        absurd (let no : false ≡ true = sym d ∙ there in cc)
    go false y e d = λ s. let same = spelled s.0 s.1 s.2 in
        let there : frame_test (likely_frame bytes) ≡ true = (frame_fits forms (likely_frame bytes)).1 (subst Fits (sym same) s.1) in
        absurd (let no : false ≡ true = sym e ∙ there in cc)

-- ---- tapes

item_read : Forms → (r : Record) → ReadsAs r (item_of r)
item_read forms (block_with bytes) = go (frame_in bytes) (frame_read forms bytes)
  where
    go : (o : Option Frame) → IsFrameIn bytes o → ReadsAs (block_with bytes) (item_for o)
    go None is = is
    go (Some f) is = is
item_read forms mark = tt
item_read forms bad = tt

pub tape_read : Forms → (tape : List Record) → Read tape (items_of tape)
tape_read forms [] = tt
tape_read forms (r ∷ tape) = (item_read forms r, tape_read forms tape)

pub frame_there : Forms → (bytes : List ℕ) (f : Frame) → frame_in bytes ≡ Some f → Fits f × (bytes ≡ spelling f)
frame_there forms bytes f is = subst (IsFrameIn bytes) is (frame_read forms bytes)

pub no_frame : Forms → (bytes : List ℕ) → frame_in bytes ≡ None → IsSpelled bytes → ⊥
no_frame forms bytes is = subst (IsFrameIn bytes) is (frame_read forms bytes)

pub read_again : Forms → (f : Frame) → Fits f → frame_in (spelling f) ≡ Some f
unfolding frame_in
read_again forms f fits =
    ap (λ (g : Frame). frame_if g (spelling f)) (likely_again f fits)
    ∙ ap (λ (b : Bool). if b then Some f else None) (and_from (frame_test f) (is_same_text (spelling f) (spelling f)) ((frame_fits forms f).1 fits) ((same_text (spelling f) (spelling f)).1 refl))
