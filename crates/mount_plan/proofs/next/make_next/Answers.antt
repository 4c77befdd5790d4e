use Rattle.std.proofs.Common.{◌≡◌, Ok, Err, ℕ, List, [], ◌∷◌, sym, ap, ◌∙◌, subst, rules}
use Rattle.std.specs.Prelude.{Some}
use Rattle.budb_changes.specs.declared.records.VolRecordFields.{VolRecordFields}
use Rattle.budb_fold.specs.Lookups.{volume_of}
use Rattle.archive_model.specs.Holding.{called_for}
use Rattle.archive_model.specs.Plays.{PlaysOver}
use Rattle.restore_chain.specs.declared.fault.RestoreFault.{RestoreFault}
use Rattle.restore_chain.specs.declared.keeping.Kept.{Kept}
use Rattle.restore_chain.specs.Restoring.{Tells}
use Rattle.restore_chain.specs.Keeping.{AllRead}
use Rattle.mount_plan.proofs.next.make_next.Goals as goal

pub returns-in-Ok-clause-makes : goal.returns-in-Ok-clause-makes
returns-in-Ok-clause-makes c = λ slots v named read.
    let d = c.args.dump.now in
    let g = c.args.going.now in
    let name : c.bytes.result.now ≡ g.name = c.bytes.ensures.value in
    let all : c.as_slice-all.result.now ≡ g.kept.items = search rules in
    let plays = c.in-Ok.ensures.plays slots v (subst (λ (n : List ℕ). volume_of d n ≡ Some v) (sym name) named)
    (subst (λ (n : List ℕ). AllRead slots d (called_for d n) c.as_slice-all.result.now) (sym name) (subst (AllRead slots d (called_for d g.name)) (sym all) read)) in
    subst (λ (n : List ℕ). PlaysOver slots n c.args.base (d ∷ []) (Ok c.in-Ok.volume)) name plays

pub told_of-requires : goal.told_of-requires
told_of-requires c = λ is. c.in-Err.ensures.never (ap Err is)

pub returns-in-Ok-told_of-clause-makes : goal.returns-in-Ok-told_of-clause-makes
returns-in-Ok-told_of-clause-makes c = λ slots v named read.
    let d = c.args.dump.now in
    let g = c.args.going.now in
    let name : c.bytes.result.now ≡ g.name = c.bytes.ensures.value in
    let all : c.as_slice-all.result.now ≡ g.kept.items = search rules in
    let plays = c.in-Err.ensures.plays slots v (subst (λ (n : List ℕ). volume_of d n ≡ Some v) (sym name) named)
    (subst (λ (n : List ℕ). AllRead slots d (called_for d n) c.as_slice-all.result.now) (sym name) (subst (AllRead slots d (called_for d g.name)) (sym all) read)) in
    subst (λ (f : RestoreFault). Tells (PlaysOver slots g.name c.args.base (d ∷ [])) (Err f)) (sym c.in-Ok-told_of.ensures.is)
    (subst (λ (n : List ℕ). Tells (PlaysOver slots n c.args.base (d ∷ [])) (Err c.in-Err.fault)) name plays)
