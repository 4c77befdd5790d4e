use Rattle.std.proofs.Common.{List, ℕ, inl, inr, refl, ap, ◌∙◌}
use Rattle.budb_changes.specs.declared.records.DumpRecordFields.{DumpRecordFields}
use Rattle.tape_frames.specs.TapeNames.{numbered}
use Rattle.restore_chain.specs.declared.fault.RestoreFault.TheVariants.{BadOnTape}
use Rattle.restore_chain.proofs.play_dump.bad_on_tape.Goals as goal

pub returns-in-Ok : goal.returns-in-Ok
returns-in-Ok c =
    let site = c.args.site in
    inl (ap (λ (t : List ℕ). BadOnTape t site.place) (c.in-Ok.ensures ∙ ap (λ (d : DumpRecordFields). numbered d.base site.tape) c.fields.ensures.value))

pub returns-in-Err : goal.returns-in-Err
returns-in-Err c = inr refl
