use Rattle.std.proofs.Common.{◌≡◌, ◌+◌, ◌<◌, List, [], ◌∷◌, ◌++◌, length, ⊎_elim, ◌∙◌, ap, subst, arith, ℕ}
use Rattle.std.specs.Prelude.{Err}
use Rattle.plant_core.specs.Effects.{commits}
use Rattle.plant_effects.specs.Runs.{state_of, Done, Leaves}
use Rattle.plant_effects.proofs.Joining.{nothing_left, stays_both}
use Rattle.budb_changes.specs.declared.change.Change.{Change}
use Rattle.budb_changes.specs.declared.change.Change.TheVariants.{Take}
use Rattle.budb_changes.specs.Bytes.{encoded}
use Rattle.budb.specs.Kept.{Keeps}
use Rattle.budb.specs.Views.{BudbView}
use Rattle.budb.specs.declared.fault.CommitFault.{CommitFault}
use Rattle.backup_replies.specs.declared.refusals.Refusal.TheVariants.{LogFull}
use Rattle.backup_replies.specs.Texts.{refused_number}
use Rattle.backup_session.specs.Views.{SessionView}
use Rattle.backup_session.specs.Tapes.{labeled}
use Rattle.backup_session.proofs.Taking.{commit_leaves, full_turned, both_leave, both_turned}
use Rattle.dump_courses.proofs.Stopping.{on_stop, left_standing, left_same, only_that}
use Rattle.std.proofs.lemmas.Result.{err_from_is_err_and}
use Rattle.backup_session.specs.declared.stops.Stop.TheVariants as stops
use Rattle.backup_session.proofs.session.Session.take_and_label.Goals as goal

pub returns-in_err-refused_number-in-Err-LogFull-clause-leaves : goal.returns-in_err-refused_number-in-Err-LogFull-clause-leaves
returns-in_err-refused_number-in-Err-LogFull-clause-leaves g c = λ told w fits.
    let P = g.P.Plant in
    let old = c.args.plant.now in
    let mid = c.commit.new.plant in
    let is : c.as_slice.result.now ≡ Take c.args.initial ∷ [] = c.as_slice.ensures ∙ c.in_ok-changes.ensures in
    commit_leaves P w old c.args.self.now fits (g.met.P.Plant.log_told old told c.requires.sound) c.args.slot c.args.label.now (Take c.args.initial) mid (λ told survives image left. g.met.P.Plant.left old image told c.requires.sound survives left)
    (subst (λ (l : List Change). 268435456 < (P.view old).log_size + length (encoded l) → mid ≡ old) is c.commit.ensures.over_same)
    (subst (λ (l : List Change). Leaves P (commits (encoded l) ∷ []) old mid) is c.commit.ensures.leaves)

pub returns-in-Err-LogFull-clause-leaves : goal.returns-in-Err-LogFull-clause-leaves
returns-in-Err-LogFull-clause-leaves g c = λ told w fits.
    let P = g.P.Plant in
    let old = c.args.plant.now in
    let mid = c.commit.new.plant in
    let is : c.as_slice.result.now ≡ Take c.args.initial ∷ [] = c.as_slice.ensures ∙ c.in_ok-changes.ensures in
    commit_leaves P w old c.args.self.now fits (g.met.P.Plant.log_told old told c.requires.sound) c.args.slot c.args.label.now (Take c.args.initial) mid (λ told survives image left. g.met.P.Plant.left old image told c.requires.sound survives left)
    (subst (λ (l : List Change). 268435456 < (P.view old).log_size + length (encoded l) → mid ≡ old) is c.commit.ensures.over_same)
    (subst (λ (l : List Change). Leaves P (commits (encoded l) ∷ []) old mid) is c.commit.ensures.leaves)

pub returns-in-Err-Failed-clause-leaves : goal.returns-in-Err-Failed-clause-leaves
returns-in-Err-Failed-clause-leaves g c = λ told w fits.
    let P = g.P.Plant in
    let old = c.args.plant.now in
    let mid = c.commit.new.plant in
    let is : c.as_slice.result.now ≡ Take c.args.initial ∷ [] = c.as_slice.ensures ∙ c.in_ok-changes.ensures in
    commit_leaves P w old c.args.self.now fits (g.met.P.Plant.log_told old told c.requires.sound) c.args.slot c.args.label.now (Take c.args.initial) mid (λ told survives image left. g.met.P.Plant.left old image told c.requires.sound survives left)
    (subst (λ (l : List Change). 268435456 < (P.view old).log_size + length (encoded l) → mid ≡ old) is c.commit.ensures.over_same)
    (subst (λ (l : List Change). Leaves P (commits (encoded l) ∷ []) old mid) is c.commit.ensures.leaves)

pub returns-clause-leaves : goal.returns-clause-leaves
returns-clause-leaves g c = λ told w fits.
    let P = g.P.Plant in
    let old = c.args.plant.now in
    let mid = c.commit.new.plant in
    let is : c.as_slice.result.now ≡ Take c.args.initial ∷ [] = c.as_slice.ensures ∙ c.in_ok-changes.ensures in
    commit_leaves P w old c.args.self.now fits (g.met.P.Plant.log_told old told c.requires.sound) c.args.slot c.args.label.now (Take c.args.initial) mid (λ told survives image left. g.met.P.Plant.left old image told c.requires.sound survives left)
    (subst (λ (l : List Change). 268435456 < (P.view old).log_size + length (encoded l) → mid ≡ old) is c.commit.ensures.over_same)
    (subst (λ (l : List Change). Leaves P (commits (encoded l) ∷ []) old mid) is c.commit.ensures.leaves)

pub returns-in-Err-LogFull-clause-turned : goal.returns-in-Err-LogFull-clause-turned
returns-in-Err-LogFull-clause-turned g c = λ told w fits.
    let P = g.P.Plant in
    let old = c.args.plant.now in
    let mid = c.commit.new.plant in
    let arm = c.in-Err-LogFull in
    let is : c.as_slice.result.now ≡ Take c.args.initial ∷ [] = c.as_slice.ensures ∙ c.in_ok-changes.ensures in
    let full = arm.ensures.full arm.length (ap (λ (f : CommitFault). Err f) arm.field-0-is) in
    let over : 268435456 < (P.view old).log_size + length (encoded c.as_slice.result.now) = omega (arith, full.0, full.1) in
    let later : SessionView = record { config = c.self.inside.config; budb = c.commit.new.self; time = c.self.inside.time; groups = c.self.inside.groups } in
    full_turned P w old c.args.self.now fits (g.met.P.Plant.log_told old told c.requires.sound) c.args.slot c.args.label.now (Take c.args.initial) mid later c.new-in-Err-LogFull.result c.requires.sound
    (subst (λ (l : List Change). 268435456 < (P.view old).log_size + length (encoded l)) is over) (c.commit.ensures.over_same over)
    (ap (λ (b : BudbView). record { config = c.self.inside.config; budb = b; time = c.self.inside.time; groups = c.self.inside.groups }) arm.ensures.same ∙ c.self.view_is)
    (c.new-in-Err-LogFull.ensures ∙ c.in_ok-refused_number-in-Err-LogFull.ensures ∙ ap (refused_number LogFull) (full.1 ∙ ap (λ (l : List Change). (P.view old).log_size + length (encoded l)) is))

pub returns-in_err-write_label-in-Ok-clause-leaves : goal.returns-in_err-write_label-in-Ok-clause-leaves
returns-in_err-write_label-in-Ok-clause-leaves g c = λ told w fits.
    let P = g.P.Plant in
    let old = c.args.plant.now in
    let mid = c.commit.new.plant in
    let new = c.write_label.new.plant in
    let e = c.in-Ok.ensures in
    let is : c.as_slice.result.now ≡ Take c.args.initial ∷ [] = c.as_slice.ensures ∙ c.in_ok-changes.ensures in
    let never : 268435456 < (P.view old).log_size + length (encoded (Take c.args.initial ∷ [])) → ⊥ = subst (λ (l : List Change). 268435456 < (P.view old).log_size + length (encoded l) → ⊥) is (λ over. ⊎_elim (λ f. cc) (λ f. cc) (e.only_full over)) in
    both_leave P w old c.args.self.now fits (g.met.P.Plant.log_told old told c.requires.sound) c.args.slot c.args.label.now (Take c.args.initial) mid new never
    (subst (λ (l : List Change). Done P (commits (encoded l) ∷ []) old mid) is e.done)
    (subst (λ (l : List Change). Leaves P (commits (encoded l) ∷ []) old mid) is c.commit.ensures.leaves) c.write_label.ensures.leaves

pub returns-in-Ok-clause-leaves : goal.returns-in-Ok-clause-leaves
returns-in-Ok-clause-leaves g c = λ told w fits.
    let P = g.P.Plant in
    let old = c.args.plant.now in
    let mid = c.commit.new.plant in
    let new = c.write_label.new.plant in
    let e = c.in-Ok.ensures in
    let is : c.as_slice.result.now ≡ Take c.args.initial ∷ [] = c.as_slice.ensures ∙ c.in_ok-changes.ensures in
    let never : 268435456 < (P.view old).log_size + length (encoded (Take c.args.initial ∷ [])) → ⊥ = subst (λ (l : List Change). 268435456 < (P.view old).log_size + length (encoded l) → ⊥) is (λ over. ⊎_elim (λ f. cc) (λ f. cc) (e.only_full over)) in
    both_leave P w old c.args.self.now fits (g.met.P.Plant.log_told old told c.requires.sound) c.args.slot c.args.label.now (Take c.args.initial) mid new never
    (subst (λ (l : List Change). Done P (commits (encoded l) ∷ []) old mid) is e.done)
    (subst (λ (l : List Change). Leaves P (commits (encoded l) ∷ []) old mid) is c.commit.ensures.leaves) c.write_label.ensures.leaves

pub returns-in-Ok-clause-turned : goal.returns-in-Ok-clause-turned
returns-in-Ok-clause-turned g c = λ told w fits.
    let P = g.P.Plant in
    let old = c.args.plant.now in
    let mid = c.commit.new.plant in
    let new = c.write_label.new.plant in
    let e = c.in-Ok.ensures in
    let f = c.in_ok-write_label-in-Ok.ensures in
    let is : c.as_slice.result.now ≡ Take c.args.initial ∷ [] = c.as_slice.ensures ∙ c.in_ok-changes.ensures in
    let never : 268435456 < (P.view old).log_size + length (encoded (Take c.args.initial ∷ [])) → ⊥ = subst (λ (l : List Change). 268435456 < (P.view old).log_size + length (encoded l) → ⊥) is (λ over. ⊎_elim (λ f. cc) (λ f. cc) (e.only_full over)) in
    let later : SessionView = record { config = c.self.inside.config; budb = c.commit.new.self; time = c.self.inside.time; groups = c.self.inside.groups } in
    let kept : Keeps w.log (state_of P old).log c.self.inside.budb = record { form = fits.keeps.form; is = fits.state.log ∙ fits.keeps.is; fold = ap (λ (s : SessionView). s.budb.database) c.self.view_is ∙ fits.keeps.fold } in
    both_turned P w old c.args.self.now fits (g.met.P.Plant.log_told old told c.requires.sound) c.args.slot c.args.label.now (Take c.args.initial) mid new never
    (subst (λ (l : List Change). Done P (commits (encoded l) ∷ []) old mid) is e.done) later c.new.result told f.done
    (stays_both P old mid new c.commit.ensures.stays.stays c.write_label.ensures.stays.stays)
    (subst (λ (l : List Change). Keeps (w.log ++ l) (state_of P mid).log c.commit.new.self) is (e.keeps told w.log kept))
    (ap (λ (s : SessionView). s.time) c.self.view_is) (ap (λ (s : SessionView). s.config) c.self.view_is) (ap (λ (s : SessionView). s.groups) c.self.view_is) (c.new.ensures ∙ c.requires.reply)

pub returns-in_err-changes-clause-leaves : goal.returns-in_err-changes-clause-leaves
returns-in_err-changes-clause-leaves g c = λ told w fits.
    let P = g.P.Plant in
    let old = c.args.plant.now in
    nothing_left P (labeled w c.args.slot c.args.label.now (Take c.args.initial ∷ [])).effects old (λ told survives image left. g.met.P.Plant.left old image told c.requires.sound survives left)

pub returns-in_err-changes-clause-stopped : goal.returns-in_err-changes-clause-stopped
returns-in_err-changes-clause-stopped g c = λ told w fits. on_stop stops.Plant _ _ (λ other. left_standing g.P.Plant _ c.args.plant.now w.state c.requires.sound (λ _. fits.state))

pub returns-in_err-refused_number-in-Err-LogFull-clause-stopped : goal.returns-in_err-refused_number-in-Err-LogFull-clause-stopped
returns-in_err-refused_number-in-Err-LogFull-clause-stopped g c = λ told w fits.
    let arm = c.in-Err-LogFull in
    let full = arm.ensures.full arm.length (ap (λ (f : CommitFault). Err f) arm.field-0-is) in
    on_stop stops.Plant _ _ (λ other. left_same g.P.Plant _ c.args.plant.now c.commit.new.plant w.state (c.commit.ensures.over_same (subst (λ (n : ℕ). 268435456 < n) full.1 full.0)) c.requires.sound (λ _. fits.state))

pub returns-clause-stopped : goal.returns-clause-stopped
returns-clause-stopped g c = λ told w fits other.
    left_same g.P.Plant _ c.args.plant.now c.commit.new.plant w.state (c.in-Err-Memory.ensures.memory_same (ap (λ (f : CommitFault). Err f) c.in-Err-Memory.field-0-is)) c.requires.sound (λ _. fits.state)

pub returns-in_err-write_label-in-Ok-clause-unfailed : goal.returns-in_err-write_label-in-Ok-clause-unfailed
returns-in_err-write_label-in-Ok-clause-unfailed g c =
    let e = err_from_is_err_and c.from_residual-in_err-write_label-in-Ok.result c.from_residual-in_err-write_label-in-Ok.ensures.1 in
    only_that stops.Plant _ c.from_residual-in_err-write_label-in-Ok.result _ (e.1 ∙ ap Err e.2) (c.in_err-write_label-in-Ok.ensures.failed)

pub returns-in_err-write_label-in-Ok-clause-stopped : goal.returns-in_err-write_label-in-Ok-clause-stopped
returns-in_err-write_label-in-Ok-clause-stopped g c = λ told w fits.
    let e = err_from_is_err_and c.from_residual-in_err-write_label-in-Ok.result c.from_residual-in_err-write_label-in-Ok.ensures.1 in
    on_stop stops.Plant _ _ (only_that stops.Plant _ c.from_residual-in_err-write_label-in-Ok.result _ (e.1 ∙ ap Err e.2) (c.in_err-write_label-in-Ok.ensures.failed))
