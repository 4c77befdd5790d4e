-- The bytes behind a block's head, read to their end.
use Rattle.std.proofs.Common.{◌≡◌, ℕ, ◌-◌, ◌<◌, ◌≤◌, ◌==◌, Bool, true, false, cond, List, [], length, take, drop, refl, sym, ap, subst, ◌∙◌}
use Rattle.std.proofs.lemmas.Bool.{eqb-true}
use Rattle.bk_text.specs.Places.{FailsAt}
use Rattle.byte_formats.specs.Formats.{Format, Took, Sticks, filled}
use Rattle.tape_frames.specs.declared.dump_head.DumpHeadFields.{DumpHeadFields}
use Rattle.tape_frames.specs.declared.data.DataFields.{DataFields}
use Rattle.tape_frames.specs.declared.frame.Frame.{Frame}
use Rattle.tape_frames.specs.declared.frame.Frame.TheVariants as frames
use Rattle.tape_frames.specs.declared.kind.Kind.{Kind}
use Rattle.tape_frames.specs.declared.kind.Kind.TheVariants as kinds
use Rattle.tape_frames.specs.Blocks.{block_of, dump_head_block}
use Rattle.tape_frames.specs.Layouts.{plain_head_bytes, dump_head_bytes, FitsDumpHead, FitsData}
use Rattle.tape_frames.specs.Frames.{Fits, spelling, IsSpelled}
use Rattle.tape_frames.specs.Kinds.{head, frame_form}
use Rattle.tape_frames.specs.Formats.{dump_head_form, data_form}
use Rattle.tape_frames.proofs.Wraps.{wrap_took, wrap_sticks, wrap_head, wrap_data}
use Rattle.tape_frames.proofs.Places.{frame_took, frame_sticks, left_small, same_frame}

moved_took : {X : Type 0} (F : Format X) (block body : List ℕ) (x : X) → body ≡ drop 8 block → length body ≡ 16376 → Took (filled (length body) F) body x [] → Took (filled 16376 F) (drop 8 block) x []
moved_took F block body x is long took =
    subst (λ (b : List ℕ). Took (filled 16376 F) b x []) is (subst (λ (n : ℕ). Took (filled n F) body x []) long took)

moved_sticks : {X : Type 0} (F : Format X) (block body : List ℕ) (left : ℕ) → body ≡ drop 8 block → length body ≡ 16376 → Sticks (filled (length body) F) body left → Sticks (filled 16376 F) (drop 8 block) left
moved_sticks F block body left is long s =
    subst (λ (b : List ℕ). Sticks (filled 16376 F) b left) is (subst (λ (n : ℕ). Sticks (filled n F) body left) long s)

pub decoded : (k : Kind) (block body : List ℕ) (f : Frame) → take 8 block ≡ head k → body ≡ drop 8 block → length body ≡ 16376 → Took (filled (length body) (frame_form k)) body f [] → Fits f × (block ≡ spelling f)
decoded k block body f front is long took = frame_took k block f front (moved_took (frame_form k) block body f is long took)

pub refused : (k : Kind) (block body : List ℕ) (left : ℕ) → length block ≡ 16384 → take 8 block ≡ head k → body ≡ drop 8 block → length body ≡ 16376 → Sticks (filled (length body) (frame_form k)) body left
    → (16384 - left < 16384) × FailsAt IsSpelled block (16384 - left)
refused k block body left size front is long s = frame_sticks k block left size front (moved_sticks (frame_form k) block body left is long s)

pub refused_small : (k : Kind) (block body : List ℕ) (left : ℕ) → length block ≡ 16384 → body ≡ drop 8 block → length body ≡ 16376 → Sticks (filled (length body) (frame_form k)) body left → left ≤ 16384
refused_small k block body left size is long s = left_small k block left size (moved_sticks (frame_form k) block body left is long s)

-- ---- a piece of data

pub data_took : (block body : List ℕ) (a : DataFields) → take 8 block ≡ head kinds.Data → body ≡ drop 8 block → length body ≡ 16376 → Took (filled (length body) data_form) body a [] → FitsData a × (block ≡ spelling (frames.Data a))
data_took block body a front is long took =
    frame_took kinds.Data block (frames.Data a) front (wrap_took data_form kinds.Data frames.Data 16376 (drop 8 block) a [] wrap_data (moved_took data_form block body a is long took))

-- ---- a dump's head that tells uses

pub head_took : (block body : List ℕ) (a : DumpHeadFields) → take 8 block ≡ head kinds.DumpHead → body ≡ drop 8 block → length body ≡ 16376 → Took (filled (length body) dump_head_form) body a [] → FitsDumpHead a × (block ≡ dump_head_block a)
head_took block body a front is long took =
    frame_took kinds.DumpHead block (frames.DumpHead a) front (wrap_took dump_head_form kinds.DumpHead frames.DumpHead 16376 (drop 8 block) a [] wrap_head (moved_took dump_head_form block body a is long took))

same_fields : (a b : DumpHeadFields) → frames.DumpHead a ≡ frames.DumpHead b → a ≡ b
same_fields a b e = cc

pub same_uses : (block body : List ℕ) (a b : DumpHeadFields) → take 8 block ≡ head kinds.DumpHead → body ≡ drop 8 block → length body ≡ 16376 → Took (filled (length body) dump_head_form) body a []
    → FitsDumpHead b → block ≡ dump_head_block b → a.uses ≡ b.uses
same_uses block body a b front is long took fits block_is =
    let here = head_took block body a front is long took in
    ap (λ (x : DumpHeadFields). x.uses) (same_fields a b (same_frame (frames.DumpHead a) (frames.DumpHead b) here.0 fits (sym here.1 ∙ block_is)))

pub no_head : (block body : List ℕ) (left : ℕ) (b : DumpHeadFields) → length block ≡ 16384 → take 8 block ≡ head kinds.DumpHead → body ≡ drop 8 block → length body ≡ 16376 → Sticks (filled (length body) dump_head_form) body left
    → FitsDumpHead b → block ≡ dump_head_block b → ⊥
no_head block body left b size front is long s fits block_is =
    let stuck = wrap_sticks dump_head_form kinds.DumpHead frames.DumpHead 16376 (drop 8 block) left wrap_head (moved_sticks dump_head_form block body left is long s) in
    (frame_sticks kinds.DumpHead block left size front stuck).1.not_whole (frames.DumpHead b, fits, block_is)

front_2 : (fields : List ℕ) → take 8 (block_of 2 2 fields) ≡ head kinds.DumpHead
front_2 fields = refl

-- a block without the head of version 2 tells no uses
pub without_head : (block : List ℕ) (a : DumpHeadFields) → (take 8 block ≡ head kinds.DumpHead → ⊥) → block ≡ dump_head_block a → 0 ≡ a.uses
without_head block a not is = go (a.uses == 0) refl is
  where
    go : (b : Bool) → (a.uses == 0) ≡ b → block ≡ cond b (block_of 1 2 (plain_head_bytes a)) (block_of 2 2 (dump_head_bytes a)) → 0 ≡ a.uses
    go true e is = sym (eqb-true a.uses 0 e)
    go false e is = absurd (not (ap (take 8) is ∙ front_2 (dump_head_bytes a)))
