use Rattle.std.proofs.Common.{◌≡◌, ℕ, ◌+◌, ◌<◌, List, [], ◌∷◌, ◌++◌, length, ⊎_elim, ◌∙◌, ap, subst, arith}
use Rattle.std.specs.Prelude.{Err}
use Rattle.plant_core.specs.Effects.{commits}
use Rattle.plant_effects.specs.Runs.{state_of, Done}
use Rattle.plant_effects.proofs.Joining.{nothing_left}
use Rattle.budb_changes.specs.declared.records.DumpRecordFields.{DumpRecordFields}
use Rattle.backup_replies.specs.Scans.{added_line}
use Rattle.budb_changes.specs.declared.change.Change.{Change}
use Rattle.budb_changes.specs.declared.change.Change.TheVariants as change
use Rattle.budb_changes.specs.Bytes.{encoded}
use Rattle.budb.specs.Kept.{Keeps}
use Rattle.budb.specs.Views.{BudbView}
use Rattle.budb.specs.declared.fault.CommitFault.{CommitFault}
use Rattle.backup_replies.specs.declared.refusals.Refusal.TheVariants.{LogFull}
use Rattle.backup_replies.specs.Texts.{refused_number}
use Rattle.backup_session.specs.Views.{SessionView}
use Rattle.backup_session.specs.Scanning.{time_with}
use Rattle.backup_session.proofs.ScanLaws.{add_left, full_is, full_stepped, room_is, added_stepped, added_stopped}
use Rattle.dump_courses.proofs.Stopping.{on_stop, left_standing, left_same}
use Rattle.backup_session.specs.declared.stops.Stop.TheVariants as stops
use Rattle.backup_session.proofs.session.Session.add.Goals as goal

pub returns-in_err-put_refused_number-in-Err-LogFull-clause-leaves : goal.returns-in_err-put_refused_number-in-Err-LogFull-clause-leaves
returns-in_err-put_refused_number-in-Err-LogFull-clause-leaves g c = λ told w fits.
    let P = g.P.Plant in
    let old = c.args.plant.now in
    let is : c.as_slice.result.now ≡ change.Found c.args.dump.now ∷ [] = c.as_slice.ensures ∙ c.in_ok-changes.ensures in
    add_left P w old c.args.self.now fits (g.met.P.Plant.log_told old told c.requires) c.args.dump.now c.as_slice.result.now is c.commit.new.plant (λ told survives image left. g.met.P.Plant.left old image told c.requires survives left) c.commit.ensures.over_same c.commit.ensures.leaves

pub returns-in-Err-LogFull-clause-leaves : goal.returns-in-Err-LogFull-clause-leaves
returns-in-Err-LogFull-clause-leaves g c = λ told w fits.
    let P = g.P.Plant in
    let old = c.args.plant.now in
    let is : c.as_slice.result.now ≡ change.Found c.args.dump.now ∷ [] = c.as_slice.ensures ∙ c.in_ok-changes.ensures in
    add_left P w old c.args.self.now fits (g.met.P.Plant.log_told old told c.requires) c.args.dump.now c.as_slice.result.now is c.commit.new.plant (λ told survives image left. g.met.P.Plant.left old image told c.requires survives left) c.commit.ensures.over_same c.commit.ensures.leaves

pub returns-in-Err-Failed-clause-leaves : goal.returns-in-Err-Failed-clause-leaves
returns-in-Err-Failed-clause-leaves g c = λ told w fits.
    let P = g.P.Plant in
    let old = c.args.plant.now in
    let is : c.as_slice.result.now ≡ change.Found c.args.dump.now ∷ [] = c.as_slice.ensures ∙ c.in_ok-changes.ensures in
    add_left P w old c.args.self.now fits (g.met.P.Plant.log_told old told c.requires) c.args.dump.now c.as_slice.result.now is c.commit.new.plant (λ told survives image left. g.met.P.Plant.left old image told c.requires survives left) c.commit.ensures.over_same c.commit.ensures.leaves

pub returns-clause-leaves : goal.returns-clause-leaves
returns-clause-leaves g c = λ told w fits.
    let P = g.P.Plant in
    let old = c.args.plant.now in
    let is : c.as_slice.result.now ≡ change.Found c.args.dump.now ∷ [] = c.as_slice.ensures ∙ c.in_ok-changes.ensures in
    add_left P w old c.args.self.now fits (g.met.P.Plant.log_told old told c.requires) c.args.dump.now c.as_slice.result.now is c.commit.new.plant (λ told survives image left. g.met.P.Plant.left old image told c.requires survives left) c.commit.ensures.over_same c.commit.ensures.leaves

pub returns-in_err-put_added-in-Ok-clause-leaves : goal.returns-in_err-put_added-in-Ok-clause-leaves
returns-in_err-put_added-in-Ok-clause-leaves g c = λ told w fits.
    let P = g.P.Plant in
    let old = c.args.plant.now in
    let is : c.as_slice.result.now ≡ change.Found c.args.dump.now ∷ [] = c.as_slice.ensures ∙ c.in_ok-changes.ensures in
    add_left P w old c.args.self.now fits (g.met.P.Plant.log_told old told c.requires) c.args.dump.now c.as_slice.result.now is c.commit.new.plant (λ told survives image left. g.met.P.Plant.left old image told c.requires survives left) c.commit.ensures.over_same c.commit.ensures.leaves

pub returns-in-Ok-clause-leaves : goal.returns-in-Ok-clause-leaves
returns-in-Ok-clause-leaves g c = λ told w fits.
    let P = g.P.Plant in
    let old = c.args.plant.now in
    let is : c.as_slice.result.now ≡ change.Found c.args.dump.now ∷ [] = c.as_slice.ensures ∙ c.in_ok-changes.ensures in
    add_left P w old c.args.self.now fits (g.met.P.Plant.log_told old told c.requires) c.args.dump.now c.as_slice.result.now is c.commit.new.plant (λ told survives image left. g.met.P.Plant.left old image told c.requires survives left) c.commit.ensures.over_same c.commit.ensures.leaves

pub returns-in-Err-LogFull-clause-full : goal.returns-in-Err-LogFull-clause-full
returns-in-Err-LogFull-clause-full g c = λ told w fits.
    let P = g.P.Plant in
    let old = c.args.plant.now in
    let arm = c.in-Err-LogFull in
    let is : c.as_slice.result.now ≡ change.Found c.args.dump.now ∷ [] = c.as_slice.ensures ∙ c.in_ok-changes.ensures in
    let full = arm.ensures.full arm.length (ap (λ (f : CommitFault). Err f) arm.field-0-is) in
    let over : 268435456 < (P.view old).log_size + length (encoded c.as_slice.result.now) = omega (arith, full.0, full.1) in
    full_is P w old c.args.self.now fits (g.met.P.Plant.log_told old told c.requires) c.args.dump.now (subst (λ (l : List Change). 268435456 < (P.view old).log_size + length (encoded l)) is over)

pub returns-in-Err-LogFull-clause-stepped : goal.returns-in-Err-LogFull-clause-stepped
returns-in-Err-LogFull-clause-stepped g c = λ told w fits.
    let P = g.P.Plant in
    let old = c.args.plant.now in
    let arm = c.in-Err-LogFull in
    let is : c.as_slice.result.now ≡ change.Found c.args.dump.now ∷ [] = c.as_slice.ensures ∙ c.in_ok-changes.ensures in
    let full = arm.ensures.full arm.length (ap (λ (f : CommitFault). Err f) arm.field-0-is) in
    let over : 268435456 < (P.view old).log_size + length (encoded c.as_slice.result.now) = omega (arith, full.0, full.1) in
    let later : SessionView = record { config = c.self.inside.config; budb = c.commit.new.self; time = c.self.inside.time; groups = c.self.inside.groups } in
    full_stepped P w old c.args.self.now fits (g.met.P.Plant.log_told old told c.requires) c.args.dump.now c.commit.new.plant later c.args.lines.now c.put_refused_number.new.line c.requires
    (subst (λ (l : List Change). 268435456 < (P.view old).log_size + length (encoded l)) is over) (c.commit.ensures.over_same over)
    (ap (λ (b : BudbView). record { config = c.self.inside.config; budb = b; time = c.self.inside.time; groups = c.self.inside.groups }) arm.ensures.same ∙ c.self.view_is)
    (c.in_ok-put_refused_number-in-Err-LogFull.ensures ∙ ap (λ (n : ℕ). c.args.lines.now ++ refused_number LogFull n) (full.1 ∙ ap (λ (l : List Change). (P.view old).log_size + length (encoded l)) is))

pub returns-in-Ok-clause-full : goal.returns-in-Ok-clause-full
returns-in-Ok-clause-full g c = λ told w fits.
    let P = g.P.Plant in
    let old = c.args.plant.now in
    let mid = c.commit.new.plant in
    let e = c.in-Ok.ensures in
    let is : c.as_slice.result.now ≡ change.Found c.args.dump.now ∷ [] = c.as_slice.ensures ∙ c.in_ok-changes.ensures in
    let never : 268435456 < (P.view old).log_size + length (encoded (change.Found c.args.dump.now ∷ [])) → ⊥ = subst (λ (l : List Change). 268435456 < (P.view old).log_size + length (encoded l) → ⊥) is (λ over. ⊎_elim (λ f. cc) (λ f. cc) (e.only_full over)) in
    room_is P w old c.args.self.now fits (g.met.P.Plant.log_told old told c.requires) c.args.dump.now never

pub returns-in-Ok-clause-stepped : goal.returns-in-Ok-clause-stepped
returns-in-Ok-clause-stepped g c = λ told w fits.
    let P = g.P.Plant in
    let old = c.args.plant.now in
    let mid = c.commit.new.plant in
    let e = c.in-Ok.ensures in
    let is : c.as_slice.result.now ≡ change.Found c.args.dump.now ∷ [] = c.as_slice.ensures ∙ c.in_ok-changes.ensures in
    let never : 268435456 < (P.view old).log_size + length (encoded (change.Found c.args.dump.now ∷ [])) → ⊥ = subst (λ (l : List Change). 268435456 < (P.view old).log_size + length (encoded l) → ⊥) is (λ over. ⊎_elim (λ f. cc) (λ f. cc) (e.only_full over)) in
    let later : SessionView = record { config = c.self.inside.config; budb = c.commit.new.self; time = c.time_with-time.result; groups = c.self.inside.groups } in
    let kept : Keeps w.log (state_of P old).log c.self.inside.budb = record { form = fits.keeps.form; is = fits.state.log ∙ fits.keeps.is; fold = ap (λ (s : SessionView). s.budb.database) c.self.view_is ∙ fits.keeps.fold } in
    added_stepped P w old c.args.self.now fits (g.met.P.Plant.log_told old told c.requires) c.args.dump.now mid later c.args.lines.now c.put_added.new.line told never
    (subst (λ (l : List Change). Done P (commits (encoded l) ∷ []) old mid) is e.done)
    c.commit.ensures.stays.stays
    (subst (λ (l : List Change). Keeps (w.log ++ l) (state_of P mid).log c.commit.new.self) is (e.keeps told w.log kept))
    (c.time_with-time.ensures ∙ ap (λ (s : SessionView). time_with s.time c.args.dump.now) c.self.view_is)
    (ap (λ (s : SessionView). s.config) c.self.view_is) (ap (λ (s : SessionView). s.groups) c.self.view_is) (c.in_ok-put_added-in-Ok.ensures ∙ ap (λ (x : DumpRecordFields). c.args.lines.now ++ added_line x.id) c.fields.ensures.value)

pub returns-in_err-changes-clause-leaves : goal.returns-in_err-changes-clause-leaves
returns-in_err-changes-clause-leaves g c = λ told w fits. nothing_left g.P.Plant _ c.args.plant.now (λ told survives image left. g.met.P.Plant.left c.args.plant.now image told c.requires survives left)

pub returns-in_err-changes-clause-stopped : goal.returns-in_err-changes-clause-stopped
returns-in_err-changes-clause-stopped g c = λ told w fits. on_stop stops.Plant _ _ (λ other. left_standing g.P.Plant _ c.args.plant.now w.state c.requires (λ _. fits.state))

pub returns-in_err-put_refused_number-in-Err-LogFull-clause-stopped : goal.returns-in_err-put_refused_number-in-Err-LogFull-clause-stopped
returns-in_err-put_refused_number-in-Err-LogFull-clause-stopped g c = λ told w fits.
    let arm = c.in-Err-LogFull in
    let full = arm.ensures.full arm.length (ap (λ (f : CommitFault). Err f) arm.field-0-is) in
    on_stop stops.Plant _ _ (λ other. left_same g.P.Plant _ c.args.plant.now c.commit.new.plant w.state (c.commit.ensures.over_same (subst (λ (n : ℕ). 268435456 < n) full.1 full.0)) c.requires (λ _. fits.state))

pub returns-clause-stopped : goal.returns-clause-stopped
returns-clause-stopped g c = λ told w fits other.
    left_same g.P.Plant _ c.args.plant.now c.commit.new.plant w.state (c.in-Err-Memory.ensures.memory_same (ap (λ (f : CommitFault). Err f) c.in-Err-Memory.field-0-is)) c.requires (λ _. fits.state)

pub returns-in_err-put_added-in-Ok-clause-stopped : goal.returns-in_err-put_added-in-Ok-clause-stopped
returns-in_err-put_added-in-Ok-clause-stopped g c = λ told w fits.
    let P = g.P.Plant in
    let old = c.args.plant.now in
    let mid = c.commit.new.plant in
    let e = c.in-Ok.ensures in
    let is : c.as_slice.result.now ≡ change.Found c.args.dump.now ∷ [] = c.as_slice.ensures ∙ c.in_ok-changes.ensures in
    let never : 268435456 < (P.view old).log_size + length (encoded (change.Found c.args.dump.now ∷ [])) → ⊥ = subst (λ (l : List Change). 268435456 < (P.view old).log_size + length (encoded l) → ⊥) is (λ over. ⊎_elim (λ f. cc) (λ f. cc) (e.only_full over)) in
    on_stop stops.Plant _ _ (λ other. added_stopped P w old c.args.self.now fits (g.met.P.Plant.log_told old told c.requires) c.args.dump.now mid never
    (subst (λ (l : List Change). Done P (commits (encoded l) ∷ []) old mid) is e.done))
