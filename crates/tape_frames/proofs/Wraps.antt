-- The fields of a kind as frames of the kind.
use Rattle.std.proofs.Common.{◌≡◌, ℕ, ◌-◌, ◌≤◌, ◌==◌, Bool, true, false, cond, List, ◌++◌, length, replicate, refl, sym, ap, ◌∙◌, arith}
use Rattle.std.proofs.lemmas.Bool.{eqb-true, eqb-false, ne_eqb}
use Rattle.byte_formats.specs.Formats.{Format, Took, Sticks, filled}
use Rattle.byte_formats.proofs.FormatLaws.{Sole}
use Rattle.tape_frames.specs.declared.dump_head.DumpHeadFields.{DumpHeadFields}
use Rattle.tape_frames.specs.declared.frame.Frame.{Frame}
use Rattle.tape_frames.specs.declared.frame.Frame.TheVariants as frames
use Rattle.tape_frames.specs.declared.kind.Kind.{Kind}
use Rattle.tape_frames.specs.declared.kind.Kind.TheVariants as kinds
use Rattle.tape_frames.specs.Layouts.{plain_head_bytes, dump_head_bytes}
use Rattle.tape_frames.specs.Frames.{Fits}
use Rattle.tape_frames.specs.Kinds.{version, code, head_kind, kind_of, fields_of, frame_form}
use Rattle.tape_frames.specs.Formats.{label_form, plain_head_form, dump_head_form, vol_head_form, data_form, vol_end_form, dump_end_form}
use Rattle.tape_frames.proofs.Likes.{sole_label, sole_plain, sole_head, sole_vol_head, sole_data, sole_vol_end, sole_dump_end}

-- the fields of a frame of the kind
pub record Seen {X : Type 0} (F : Format X) (to : X → Frame) (f : Frame) : Type 0 where
  pub x : X
  pub is : F.Is x
  pub same : f ≡ to x

pub record Wrap {X : Type 0} (F : Format X) (k : Kind) (to : X → Frame) : Type 0 where
  pub is : (x : X) → F.Is x → Fits (to x) × (kind_of (to x) ≡ k)
  pub same : (x : X) → F.Is x → fields_of (to x) ≡ F.spelled x
  pub seen : (f : Frame) → Fits f → kind_of f ≡ k → Seen F to f

pad : ℕ → List ℕ → List ℕ
pad n bytes = bytes ++ replicate (n - length bytes) 0

pub wrap_took : {X : Type 0} (F : Format X) (k : Kind) (to : X → Frame) (n : ℕ) (bytes : List ℕ) (x : X) (rest : List ℕ) → Wrap F k to → Took (filled n F) bytes x rest → Took (filled n (frame_form k)) bytes (to x) rest
unfolding pad
wrap_took F k to n bytes x rest wrap took = record {
  is = wrap.is x took.is;
  joined = took.joined ∙ ap (λ (y : List ℕ). pad n y ++ rest) (sym (wrap.same x took.is));
}

pub wrap_sticks : {X : Type 0} (F : Format X) (k : Kind) (to : X → Frame) (n : ℕ) (bytes : List ℕ) (left : ℕ) → Wrap F k to → Sticks (filled n F) bytes left → Sticks (filled n (frame_form k)) bytes left
unfolding pad
wrap_sticks {X} F k to n bytes left wrap s = record {
  good = s.good;
  bad = s.bad;
  joined = s.joined;
  count = s.count;
  value = to s.value;
  is = wrap.is s.value s.is;
  more = s.more;
  wanting = s.wanting;
  begun = ap (pad n) (wrap.same s.value s.is) ∙ s.begun;
  here = λ b behind e f rest after is eq.
      let seen = wrap.seen f is.0 is.1 in
      let fields : fields_of f ≡ F.spelled seen.x = ap fields_of seen.same ∙ wrap.same seen.x seen.is in
      s.here b behind e seen.x rest after seen.is (eq ∙ ap (λ (y : List ℕ). pad n y ++ rest) fields);
}

pub wrap_sole : {X : Type 0} (F : Format X) (k : Kind) (to : X → Frame) → Wrap F k to → Sole F → Sole (frame_form k)
wrap_sole {X} F k to wrap sole = record { same = go }
  where
    go : (f g : Frame) (r s : List ℕ) → Fits f × (kind_of f ≡ k) → Fits g × (kind_of g ≡ k) → fields_of f ++ r ≡ fields_of g ++ s → (f ≡ g) × (r ≡ s)
    go f g r s isf isg e =
        let a = wrap.seen f isf.0 isf.1 in
        let b = wrap.seen g isg.0 isg.1 in
        let fa : fields_of f ≡ F.spelled a.x = ap fields_of a.same ∙ wrap.same a.x a.is in
        let gb : fields_of g ≡ F.spelled b.x = ap fields_of b.same ∙ wrap.same b.x b.is in
        let e2 : F.spelled a.x ++ r ≡ F.spelled b.x ++ s = ap (λ (y : List ℕ). y ++ r) (sym fa) ∙ e ∙ ap (λ (y : List ℕ). y ++ s) gb in
        let one = sole.same a.x b.x r s a.is b.is e2 in
        (a.same ∙ ap to one.0 ∙ sym b.same, one.1)

-- ---- each kind

head_code : (b : Bool) → code (cond b kinds.PlainHead kinds.DumpHead) ≡ 2
head_code true = refl
head_code false = refl

no_head : (a : DumpHeadFields) (k : Kind) → head_kind a ≡ k → (code k ≡ 2 → ⊥) → ⊥
no_head a k e not = not (sym (ap code e) ∙ head_code (a.uses == 0))

pub wrap_label : Wrap label_form kinds.Label frames.Label
wrap_label = record { is = λ a fits. (fits, refl); same = λ a fits. refl; seen = go }
  where
    go : (f : Frame) → Fits f → kind_of f ≡ kinds.Label → Seen label_form frames.Label f
    go (frames.Label a) fits e = record { x = a; is = fits; same = refl }
    go (frames.DumpHead a) fits e = absurd (no_head a kinds.Label e (λ z. omega (arith, z)))
    go (frames.VolHead a) fits e = absurd (omega (arith, ap code e))
    go (frames.Data a) fits e = absurd (omega (arith, ap code e))
    go (frames.VolEnd a) fits e = absurd (omega (arith, ap code e))
    go (frames.DumpEnd a) fits e = absurd (omega (arith, ap code e))

plain_uses : (n : ℕ) (b : Bool) → (n == 0) ≡ b → cond b kinds.PlainHead kinds.DumpHead ≡ kinds.PlainHead → n ≡ 0
plain_uses n true is e = eqb-true n 0 is
plain_uses n false is e = absurd (omega (arith, ap version e))

head_uses : (n : ℕ) (b : Bool) → (n == 0) ≡ b → cond b kinds.PlainHead kinds.DumpHead ≡ kinds.DumpHead → 1 ≤ n
head_uses n true is e = absurd (omega (arith, ap version e))
head_uses n false is e = let some : n ≡ 0 → ⊥ = eqb-false n 0 is in omega (arith, some)

some_uses : (n : ℕ) → 1 ≤ n → (n == 0) ≡ false
some_uses n some = ne_eqb n 0 (λ e. omega (arith, some, e))

pub wrap_plain : Wrap plain_head_form kinds.PlainHead frames.DumpHead
wrap_plain = record {
  is = λ a is. (is.0, ap (λ (n : ℕ). cond (n == 0) kinds.PlainHead kinds.DumpHead) is.1);
  same = λ a is. ap (λ (n : ℕ). cond (n == 0) (plain_head_bytes a) (dump_head_bytes a)) is.1;
  seen = go;
}
  where
    go : (f : Frame) → Fits f → kind_of f ≡ kinds.PlainHead → Seen plain_head_form frames.DumpHead f
    go (frames.DumpHead a) fits e = record { x = a; is = (fits, plain_uses a.uses (a.uses == 0) refl e); same = refl }
    go (frames.Label a) fits e = absurd (omega (arith, ap code e))
    go (frames.VolHead a) fits e = absurd (omega (arith, ap code e))
    go (frames.Data a) fits e = absurd (omega (arith, ap code e))
    go (frames.VolEnd a) fits e = absurd (omega (arith, ap code e))
    go (frames.DumpEnd a) fits e = absurd (omega (arith, ap code e))

pub wrap_head : Wrap dump_head_form kinds.DumpHead frames.DumpHead
wrap_head = record {
  is = λ a is. (is.0, ap (λ (b : Bool). cond b kinds.PlainHead kinds.DumpHead) (some_uses a.uses is.1));
  same = λ a is. ap (λ (b : Bool). cond b (plain_head_bytes a) (dump_head_bytes a)) (some_uses a.uses is.1);
  seen = go;
}
  where
    go : (f : Frame) → Fits f → kind_of f ≡ kinds.DumpHead → Seen dump_head_form frames.DumpHead f
    go (frames.DumpHead a) fits e = record { x = a; is = (fits, head_uses a.uses (a.uses == 0) refl e); same = refl }
    go (frames.Label a) fits e = absurd (omega (arith, ap code e))
    go (frames.VolHead a) fits e = absurd (omega (arith, ap code e))
    go (frames.Data a) fits e = absurd (omega (arith, ap code e))
    go (frames.VolEnd a) fits e = absurd (omega (arith, ap code e))
    go (frames.DumpEnd a) fits e = absurd (omega (arith, ap code e))

pub wrap_vol_head : Wrap vol_head_form kinds.VolHead frames.VolHead
wrap_vol_head = record { is = λ a fits. (fits, refl); same = λ a fits. refl; seen = go }
  where
    go : (f : Frame) → Fits f → kind_of f ≡ kinds.VolHead → Seen vol_head_form frames.VolHead f
    go (frames.VolHead a) fits e = record { x = a; is = fits; same = refl }
    go (frames.DumpHead a) fits e = absurd (no_head a kinds.VolHead e (λ z. omega (arith, z)))
    go (frames.Label a) fits e = absurd (omega (arith, ap code e))
    go (frames.Data a) fits e = absurd (omega (arith, ap code e))
    go (frames.VolEnd a) fits e = absurd (omega (arith, ap code e))
    go (frames.DumpEnd a) fits e = absurd (omega (arith, ap code e))

pub wrap_data : Wrap data_form kinds.Data frames.Data
wrap_data = record { is = λ a fits. (fits, refl); same = λ a fits. refl; seen = go }
  where
    go : (f : Frame) → Fits f → kind_of f ≡ kinds.Data → Seen data_form frames.Data f
    go (frames.Data a) fits e = record { x = a; is = fits; same = refl }
    go (frames.DumpHead a) fits e = absurd (no_head a kinds.Data e (λ z. omega (arith, z)))
    go (frames.Label a) fits e = absurd (omega (arith, ap code e))
    go (frames.VolHead a) fits e = absurd (omega (arith, ap code e))
    go (frames.VolEnd a) fits e = absurd (omega (arith, ap code e))
    go (frames.DumpEnd a) fits e = absurd (omega (arith, ap code e))

pub wrap_vol_end : Wrap vol_end_form kinds.VolEnd frames.VolEnd
wrap_vol_end = record { is = λ a fits. (fits, refl); same = λ a fits. refl; seen = go }
  where
    go : (f : Frame) → Fits f → kind_of f ≡ kinds.VolEnd → Seen vol_end_form frames.VolEnd f
    go (frames.VolEnd a) fits e = record { x = a; is = fits; same = refl }
    go (frames.DumpHead a) fits e = absurd (no_head a kinds.VolEnd e (λ z. omega (arith, z)))
    go (frames.Label a) fits e = absurd (omega (arith, ap code e))
    go (frames.VolHead a) fits e = absurd (omega (arith, ap code e))
    go (frames.Data a) fits e = absurd (omega (arith, ap code e))
    go (frames.DumpEnd a) fits e = absurd (omega (arith, ap code e))

pub wrap_dump_end : Wrap dump_end_form kinds.DumpEnd frames.DumpEnd
wrap_dump_end = record { is = λ a fits. (fits, refl); same = λ a fits. refl; seen = go }
  where
    go : (f : Frame) → Fits f → kind_of f ≡ kinds.DumpEnd → Seen dump_end_form frames.DumpEnd f
    go (frames.DumpEnd a) fits e = record { x = a; is = fits; same = refl }
    go (frames.DumpHead a) fits e = absurd (no_head a kinds.DumpEnd e (λ z. omega (arith, z)))
    go (frames.Label a) fits e = absurd (omega (arith, ap code e))
    go (frames.VolHead a) fits e = absurd (omega (arith, ap code e))
    go (frames.Data a) fits e = absurd (omega (arith, ap code e))
    go (frames.VolEnd a) fits e = absurd (omega (arith, ap code e))

pub sole_frame : (k : Kind) → Sole (frame_form k)
sole_frame kinds.Label = wrap_sole label_form kinds.Label frames.Label wrap_label sole_label
sole_frame kinds.PlainHead = wrap_sole plain_head_form kinds.PlainHead frames.DumpHead wrap_plain sole_plain
sole_frame kinds.DumpHead = wrap_sole dump_head_form kinds.DumpHead frames.DumpHead wrap_head sole_head
sole_frame kinds.VolHead = wrap_sole vol_head_form kinds.VolHead frames.VolHead wrap_vol_head sole_vol_head
sole_frame kinds.Data = wrap_sole data_form kinds.Data frames.Data wrap_data sole_data
sole_frame kinds.VolEnd = wrap_sole vol_end_form kinds.VolEnd frames.VolEnd wrap_vol_end sole_vol_end
sole_frame kinds.DumpEnd = wrap_sole dump_end_form kinds.DumpEnd frames.DumpEnd wrap_dump_end sole_dump_end
