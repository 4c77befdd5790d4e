use Rattle.std.proofs.Common.{◌≡◌, ◌==◌, ℕ, false, [], ◌∷◌, ◌++◌, refl, sym, ap, ◌∙◌, inl, inr}
use Rattle.std.proofs.lemmas.Bool.{eq-eqb}
use Rattle.std.proofs.lemmas.Bool.Decides.{eqb_tells}
use Rattle.tape_frames.specs.declared.vol_head.VolHeadFields.{VolHeadFields}
use Rattle.budb_changes.specs.declared.records.VolRecordFields.{VolRecordFields}
use Rattle.tape_text.specs.Wholes.{Lying, volume_record}
use Rattle.tape_scan.specs.AssembledSteps.{seen}
use Rattle.tape_scan.specs.AssembledRecords.{told_lying, all_lying}
use Rattle.tape_scan.proofs.AssemblingRecords.{kept_step, passed_step}
use Rattle.tape_scan.proofs.assembling_records.add_volumes.Goals as goal
use Rattle.tape_scan.proofs.assembling_records.add_volumes.Goals.{then-fields-eq1+in_ok-volume_of+in_ok-push, else-fields-eq1}

not_one : (n : ℕ) → (n ≡ 1 → ⊥) → (n == 1) ≡ false
not_one n other = elim (eqb_tells n 1) [
  | inl both ↦ absurd (other both.1)
  | inr both ↦ both.0
]

pub loop-fragment-preserved : goal.loop-fragment-preserved
loop-fragment-preserved c =
    let fs = c.as_slice-fragment-items.result.now in
    let i = c.loop-fragment.fragment-index in
    let x = c.fragment-item.result in
    let tape = c.args.part.now.head.tape in
    let of = volume_record (all_lying (seen c.args.parts.now)) in
    let number : c.fields.result.now.fragment ≡ x.head.fragment = ap (λ (h : VolHeadFields). h.fragment) c.fields.ensures.value in
    elim c.if-fields-eq1.branch [
      | then-fields-eq1+in_ok-volume_of+in_ok-push w ↦
          kept_step of (λ (l : Lying). l.head.fragment == 1) (told_lying tape) c.args.volumes.now c.loop-fragment.volumes c.if-fields-eq1.volumes fs i x c.loop-fragment-test.true c.fragment-item.is c.loop-fragment.invariant
          (eq-eqb x.head.fragment 1 (sym number ∙ w.if-fields-eq1.true))
          (w.volumes-is ∙ w.in_ok-push.ensures.ok ∙ ap (λ (v : VolRecordFields). c.loop-fragment.volumes ++ v ∷ []) (w.in_ok-volume_of.ensures (told_lying tape x) refl))
      | else-fields-eq1 w ↦
          passed_step of (λ (l : Lying). l.head.fragment == 1) (told_lying tape) c.args.volumes.now c.loop-fragment.volumes c.if-fields-eq1.volumes fs i x c.loop-fragment-test.true c.fragment-item.is c.loop-fragment.invariant
          (not_one x.head.fragment (λ one. w.if-fields-eq1.false (number ∙ one))) w.volumes-is
    ]
