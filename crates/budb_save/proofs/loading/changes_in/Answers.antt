use Rattle.std.proofs.Common.{refl, subst}
use Rattle.std.specs.Prelude.{Err}
use Rattle.bk_text.specs.Places.{FailsAt}
use Rattle.budb_changes.specs.declared.fault.ChangeFault.{ChangeFault}
use Rattle.budb_changes.specs.Forms.{IsLog}
use Rattle.budb_changes.specs.Decodes.{Decodes}
use Rattle.budb_save.proofs.LoadLaws.{good_bytes, bad_byte}
use Rattle.budb_save.proofs.loading.changes_in.Goals as goal

pub returns-in-Ok-clause-read : goal.returns-in-Ok-clause-read
returns-in-Ok-clause-read c = λ tape has short end. good_bytes tape c.args.bytes.now c.in-Ok.changes has c.in-Ok.ensures.0 c.in-Ok.ensures.1

pub returns-in-Err-BadChange-clause-read : goal.returns-in-Err-BadChange-clause-read
returns-in-Err-BadChange-clause-read c = λ tape has short end.
    let bytes = c.args.bytes.now in
    let at = c.in-Err-BadChange.at in
    let fails : FailsAt IsLog bytes at = subst (λ (fault : ChangeFault). Decodes bytes (Err fault)) c.in-Err-BadChange.field-0-is c.in-Err-BadChange.ensures in
    (refl, bad_byte tape bytes at c.args.last c.place_of.result has fails short end (λ less fits. c.place_of.ensures.within less fits) (λ past. c.place_of.ensures.behind past))
