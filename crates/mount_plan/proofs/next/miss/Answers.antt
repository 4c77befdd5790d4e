use Rattle.std.proofs.Common.{◌≡◌, List, ℕ, inl, refl, sym, ap, ◌∙◌, subst}
use Rattle.budb_changes.specs.declared.records.DumpRecordFields.{DumpRecordFields}
use Rattle.tape_frames.specs.TapeNames.{numbered}
use Rattle.mount_plan.proofs.CourseLaws.{next_missing, kept_still}
use Rattle.mount_plan.proofs.next.miss.Goals as goal

pub returns-in-Ok-clause-goes : goal.returns-in-Ok-clause-goes
returns-in-Ok-clause-goes c = λ slots listed one id a seen first.
    let g = c.args.going.now in
    let d = c.args.dump.now in
    record {
      name = a.name;
      chain = a.chain;
      so_far = next_missing slots listed one d id g a seen c.args.tape _ _ first
          (c.in-Ok.ensures ∙ ap (λ (x : DumpRecordFields). numbered x.base c.args.tape) c.fields-fields.ensures.value)
          (ap (λ (x : DumpRecordFields). x.initial) c.fields-fields.ensures.value);
      kept = λ e is. kept_still slots listed one d id g a e is;
    }
