use Rattle.std.proofs.Common.{rules, ◌≡◌, ◌≢◌, ℕ, ◌<◌, List, ◌++◌, ◌∷◌, [], sym, ◌∙◌, ap, subst, arith}
use Rattle.std.specs.Prelude.{reverse, Some}
use Rattle.budb_changes.specs.declared.records.VolRecordFields.{VolRecordFields}
use Rattle.budb_changes.specs.declared.records.DumpRecordFields.{DumpRecordFields}
use Rattle.budb_fold.specs.Lookups.{VolumeDump, record_of, volume_of}
use Rattle.budb_fold.specs.Chains.{dump_of, Passes}
use Rattle.budb_fold.proofs.ChainLaws.{looked_up, ends_whole, pass_more, parent_below}
use Rattle.budb_index.proofs.index.Index.chain_of.Goals as goal

pub returns-then-fields-eq0 : goal.returns-then-fields-eq0
returns-then-fields-eq0 g c =
    ends_whole c.args.self.now.listed c.args.name.now c.args.id c.loop-step.upwards c.loop-step.next c.in_ok-dump.dump.now c.in_ok-volume.volume.now c.reversed.result c.loop-step.invariant.passes (sym (search rules)) (sym (search rules))
    (ap (λ (v : VolRecordFields). v.from) (sym c.fields.ensures.value) ∙ c.if-fields-eq0.true) (c.reversed.ensures ∙ ap reverse c.in_ok-push.ensures.ok)

pub loop-step-preserved : goal.loop-step-preserved
loop-step-preserved g c =
    let dump_is : record_of c.args.self.now.listed c.loop-step.next ≡ Some c.in_ok-dump.dump.now = sym (search rules) in
    let volume_is : volume_of c.in_ok-dump.dump.now c.args.name.now ≡ Some c.in_ok-volume.volume.now = sym (search rules) in
    let one : VolumeDump = record { dump = c.in_ok-dump.dump.now; volume = c.in_ok-volume.volume.now } in
    let found : dump_of c.args.self.now.listed c.args.name.now c.loop-step.next ≡ Some (record { dump = c.in_ok-dump.dump.now; volume = c.in_ok-volume.volume.now }) = looked_up c.args.self.now.listed c.args.name.now c.loop-step.next c.in_ok-dump.dump.now c.in_ok-volume.volume.now dump_is volume_is in
    let later : c.in_ok-volume.volume.now.from ≢ 0 = λ at_zero. c.if-fields-eq0.false (ap (λ (v : VolRecordFields). v.from) c.fields.ensures.value ∙ at_zero) in
    let parent : c.in_ok-dump.dump.now.parent ≡ c.fields-in-loop-step.result.now.parent = ap (λ (d : DumpRecordFields). d.parent) (sym c.fields-in-loop-step.ensures.value) in
    let more : Passes c.args.self.now.listed c.args.name.now c.args.id (c.loop-step.upwards ++ c.loop-step.next ∷ []) c.in_ok-dump.dump.now.parent =
    pass_more c.args.self.now.listed c.args.name.now c.args.id c.loop-step.upwards c.loop-step.next (record { dump = c.in_ok-dump.dump.now; volume = c.in_ok-volume.volume.now }) c.loop-step.invariant.passes found later in
    record {
      passes = subst (λ (l : List ℕ). Passes c.args.self.now.listed c.args.name.now c.args.id l c.fields-in-loop-step.result.now.parent) (sym c.in_ok-push.ensures.ok) (subst (Passes c.args.self.now.listed c.args.name.now c.args.id (c.loop-step.upwards ++ c.loop-step.next ∷ [])) parent more);
      down = λ below.
          (let lower : c.in_ok-dump.dump.now.parent < c.loop-step.next = parent_below c.args.self.now.listed c.args.name.now c.loop-step.next (record { dump = c.in_ok-dump.dump.now; volume = c.in_ok-volume.volume.now }) below found in
          omega (arith, lower, parent, c.loop-step.invariant.down below));
    }
