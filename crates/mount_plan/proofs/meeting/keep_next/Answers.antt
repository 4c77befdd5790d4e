use Rattle.std.proofs.Common.{◌≡◌, refl, sym, ap, subst, ◌∙◌}
use Rattle.std.specs.Prelude.{ℕ, List, Some, is_some, OnOk}
use Rattle.budb_fold.specs.Lookups.{record_of, volume_of}
use Rattle.archive_model.specs.Holding.{called_for}
use Rattle.restore_chain.specs.Keeping.{AllKept, IsBegun, MayKeep}
use Rattle.mount_plan.proofs.CourseLaws.{may_keep, loaded_held, awaits_now, volume_there, on_ok_so}
use Rattle.mount_plan.proofs.meeting.keep_next.Goals as goal

pub keep_tape-requires-clause-loaded : goal.keep_tape-requires-clause-loaded
keep_tape-requires-clause-loaded g c = λ is. c.requires.loaded (loaded_held c.args.held c.args.going.now.fault (sym c.reading_for-reading.ensures ∙ is))

pub returns-clause-keeps : goal.returns-clause-keeps
returns-clause-keeps g c = λ told slots listed one id has held is none within next going.
    let P = g.P.Plant in
    let old = c.args.going.now in
    let d = c.args.dump.now in
    let v = volume_there slots listed one d id old going within next is in
    let may = is_some old.fault in
    let so = subst (MayKeep P slots d may c.args.tape c.args.plant.now) (sym c.reading_for-reading.ensures) (may_keep P slots d c.args.tape c.args.plant.now c.args.held old.fault held) in
    let keeps = subst (λ (n : List ℕ). volume_of d n ≡ Some v.0 → IsBegun slots d may (called_for d n) old.kept.items → OnOk c.keep_tape.result (AllKept slots d may (called_for d n) c.keep_tape.new.kept.items))
    c.bytes.ensures.value (λ named begun. c.keep_tape.ensures.keeps told slots may v.0 has so named begun) in
    on_ok_so c.keep_tape.result
    (λ all. awaits_now slots listed one d id old _ going none within next is refl refl refl refl refl refl all)
    (keeps v.1 (going.kept d (ap (record_of listed) next ∙ is)))
