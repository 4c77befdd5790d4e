use Rattle.std.proofs.Common.{◌≡◌, [], ◌++◌, true, false, sym, ◌∙◌, ap, subst, ◌≢◌}
use Rattle.std.specs.Prelude.{OnOk, IfOk, Err, OnErr}
use Rattle.std.proofs.lemmas.List.{append-nil}
use Rattle.plant_effects.specs.Runs.{Leaves}
use Rattle.plant_effects.proofs.Joining.{nothing_left}
use Rattle.budb_changes.specs.declared.records.DumpRecordFields.{DumpRecordFields}
use Rattle.budb_fold.specs.declared.database.Database.{Database}
use Rattle.budb_fold.specs.Database.{has_dump}
use Rattle.backup_replies.specs.declared.refusals.Refusal.TheVariants.{DumpKnown, WrongParent}
use Rattle.backup_replies.specs.Texts.{refused_number, refused_numbers}
use Rattle.backup_session.specs.Views.{SessionView}
use Rattle.backup_session.specs.Scanning.{Step, added_if}
use Rattle.backup_session.specs.Fitting.{Stepped}
use Rattle.backup_session.proofs.ScanLaws.{said_stepped, known_is, wrong_is, over_is, free_is, listed_is}
use Rattle.backup_session.specs.declared.stops.Stop.TheVariants as stops
use Rattle.dump_courses.specs.Ahead.{LeftAhead}
use Rattle.dump_courses.proofs.Stopping.{on_stop, left_standing}
use Rattle.backup_session.proofs.session.Session.add_if.Goals as goal

pub returns-then-any_of_id-clause-leaves : goal.returns-then-any_of_id-clause-leaves
returns-then-any_of_id-clause-leaves g c = λ told w fits.
    let old = c.args.plant.now in
    nothing_left g.P.Plant (added_if w c.args.full c.args.dump.now).turn.effects old (λ told survives image left. g.met.P.Plant.left old image told c.requires survives left)

pub returns-then-has_wrong_parent-clause-leaves : goal.returns-then-has_wrong_parent-clause-leaves
returns-then-has_wrong_parent-clause-leaves g c = λ told w fits.
    let old = c.args.plant.now in
    nothing_left g.P.Plant (added_if w c.args.full c.args.dump.now).turn.effects old (λ told survives image left. g.met.P.Plant.left old image told c.requires survives left)

pub returns-then-full-clause-leaves : goal.returns-then-full-clause-leaves
returns-then-full-clause-leaves g c = λ told w fits.
    let old = c.args.plant.now in
    nothing_left g.P.Plant (added_if w c.args.full c.args.dump.now).turn.effects old (λ told survives image left. g.met.P.Plant.left old image told c.requires survives left)

pub returns-then-any_of_id-clause-stepped : goal.returns-then-any_of_id-clause-stepped
returns-then-any_of_id-clause-stepped g c = λ told w fits.
    let P = g.P.Plant in
    let old = c.args.plant.now in
    let full = c.args.full in
    let d = c.args.dump.now in
    let listed = c.as_slice.ensures ∙ ap (λ (x : Database). x.listed) (c.database.ensures ∙ ap (λ (s : SessionView). s.budb.database) c.self.view_is) in
    let is = known_is w full d (listed_is P w old c.args.self.now fits c.as_slice.result.now d.id c.any_of_id.result true listed (c.any_of_id.ensures ∙ ap (λ (x : DumpRecordFields). has_dump c.as_slice.result.now x.id) c.fields-fields.ensures.value) c.if-any_of_id.true) in
    subst (λ (s : Step). Stepped P w s.turn old old c.args.self.now c.args.lines.now c.put_refused_number.new.line) (sym is)
    (said_stepped P w old c.args.self.now (refused_number DumpKnown d.id) c.args.lines.now c.put_refused_number.new.line fits c.requires (c.in_ok-put_refused_number.ensures ∙ ap (λ (x : DumpRecordFields). c.args.lines.now ++ refused_number DumpKnown x.id) c.fields-fields.ensures.value))

pub returns-then-any_of_id-clause-full : goal.returns-then-any_of_id-clause-full
returns-then-any_of_id-clause-full g c = λ told w fits.
    let P = g.P.Plant in
    let old = c.args.plant.now in
    let full = c.args.full in
    let d = c.args.dump.now in
    let listed = c.as_slice.ensures ∙ ap (λ (x : Database). x.listed) (c.database.ensures ∙ ap (λ (s : SessionView). s.budb.database) c.self.view_is) in
    sym (ap (λ (s : Step). s.full) (known_is w full d (listed_is P w old c.args.self.now fits c.as_slice.result.now d.id c.any_of_id.result true listed (c.any_of_id.ensures ∙ ap (λ (x : DumpRecordFields). has_dump c.as_slice.result.now x.id) c.fields-fields.ensures.value) c.if-any_of_id.true)))

pub returns-then-has_wrong_parent-clause-stepped : goal.returns-then-has_wrong_parent-clause-stepped
returns-then-has_wrong_parent-clause-stepped g c = λ told w fits.
    let P = g.P.Plant in
    let old = c.args.plant.now in
    let full = c.args.full in
    let d = c.args.dump.now in
    let listed = c.as_slice.ensures ∙ ap (λ (x : Database). x.listed) (c.database.ensures ∙ ap (λ (s : SessionView). s.budb.database) c.self.view_is) in
    let is = wrong_is w full d (listed_is P w old c.args.self.now fits c.as_slice.result.now d.id c.any_of_id.result false listed (c.any_of_id.ensures ∙ ap (λ (x : DumpRecordFields). has_dump c.as_slice.result.now x.id) c.fields-fields.ensures.value) c.if-any_of_id.false) (sym c.has_wrong_parent.ensures ∙ c.if-has_wrong_parent.true) in
    subst (λ (s : Step). Stepped P w s.turn old old c.args.self.now c.args.lines.now c.put_refused_numbers.new.line) (sym is)
    (said_stepped P w old c.args.self.now (refused_numbers WrongParent d.id d.parent) c.args.lines.now c.put_refused_numbers.new.line fits c.requires (c.in_ok-put_refused_numbers.ensures ∙ ap (λ (x : DumpRecordFields). c.args.lines.now ++ refused_numbers WrongParent x.id x.parent) c.fields-fields.ensures.value))

pub returns-then-has_wrong_parent-clause-full : goal.returns-then-has_wrong_parent-clause-full
returns-then-has_wrong_parent-clause-full g c = λ told w fits.
    let P = g.P.Plant in
    let old = c.args.plant.now in
    let full = c.args.full in
    let d = c.args.dump.now in
    let listed = c.as_slice.ensures ∙ ap (λ (x : Database). x.listed) (c.database.ensures ∙ ap (λ (s : SessionView). s.budb.database) c.self.view_is) in
    sym (ap (λ (s : Step). s.full) (wrong_is w full d (listed_is P w old c.args.self.now fits c.as_slice.result.now d.id c.any_of_id.result false listed (c.any_of_id.ensures ∙ ap (λ (x : DumpRecordFields). has_dump c.as_slice.result.now x.id) c.fields-fields.ensures.value) c.if-any_of_id.false) (sym c.has_wrong_parent.ensures ∙ c.if-has_wrong_parent.true)))

pub returns-then-full-clause-stepped : goal.returns-then-full-clause-stepped
returns-then-full-clause-stepped g c = λ told w fits.
    let P = g.P.Plant in
    let old = c.args.plant.now in
    let full = c.args.full in
    let d = c.args.dump.now in
    let listed = c.as_slice.ensures ∙ ap (λ (x : Database). x.listed) (c.database.ensures ∙ ap (λ (s : SessionView). s.budb.database) c.self.view_is) in
    let is = over_is w full d (listed_is P w old c.args.self.now fits c.as_slice.result.now d.id c.any_of_id.result false listed (c.any_of_id.ensures ∙ ap (λ (x : DumpRecordFields). has_dump c.as_slice.result.now x.id) c.fields-fields.ensures.value) c.if-any_of_id.false) (sym c.has_wrong_parent.ensures ∙ c.if-has_wrong_parent.false) c.if-full.true in
    subst (λ (s : Step). Stepped P w s.turn old old c.args.self.now c.args.lines.now c.args.lines.now) (sym is)
    (said_stepped P w old c.args.self.now [] c.args.lines.now c.args.lines.now fits c.requires (sym (append-nil c.args.lines.now)))

pub returns-then-full-clause-full : goal.returns-then-full-clause-full
returns-then-full-clause-full g c = λ told w fits.
    let P = g.P.Plant in
    let old = c.args.plant.now in
    let full = c.args.full in
    let d = c.args.dump.now in
    let listed = c.as_slice.ensures ∙ ap (λ (x : Database). x.listed) (c.database.ensures ∙ ap (λ (s : SessionView). s.budb.database) c.self.view_is) in
    sym (ap (λ (s : Step). s.full) (over_is w full d (listed_is P w old c.args.self.now fits c.as_slice.result.now d.id c.any_of_id.result false listed (c.any_of_id.ensures ∙ ap (λ (x : DumpRecordFields). has_dump c.as_slice.result.now x.id) c.fields-fields.ensures.value) c.if-any_of_id.false) (sym c.has_wrong_parent.ensures ∙ c.if-has_wrong_parent.false) c.if-full.true))

pub returns-clause-stepped : goal.returns-clause-stepped
returns-clause-stepped g c = λ told w fits.
    let P = g.P.Plant in
    let old = c.args.plant.now in
    let full = c.args.full in
    let d = c.args.dump.now in
    let listed = c.as_slice.ensures ∙ ap (λ (x : Database). x.listed) (c.database.ensures ∙ ap (λ (s : SessionView). s.budb.database) c.self.view_is) in
    let is = free_is w full d (listed_is P w old c.args.self.now fits c.as_slice.result.now d.id c.any_of_id.result false listed (c.any_of_id.ensures ∙ ap (λ (x : DumpRecordFields). has_dump c.as_slice.result.now x.id) c.fields-fields.ensures.value) c.if-any_of_id.false) (sym c.has_wrong_parent.ensures ∙ c.if-has_wrong_parent.false) c.if-full.false in
    subst (λ (s : Step). OnOk c.add.result (Stepped P w s.turn old c.add.new.plant c.add.new.self c.args.lines.now c.add.new.lines)) (sym is) (c.add.ensures.stepped told w fits)

pub returns-clause-full : goal.returns-clause-full
returns-clause-full g c = λ told w fits.
    let P = g.P.Plant in
    let old = c.args.plant.now in
    let full = c.args.full in
    let d = c.args.dump.now in
    let listed = c.as_slice.ensures ∙ ap (λ (x : Database). x.listed) (c.database.ensures ∙ ap (λ (s : SessionView). s.budb.database) c.self.view_is) in
    let is = free_is w full d (listed_is P w old c.args.self.now fits c.as_slice.result.now d.id c.any_of_id.result false listed (c.any_of_id.ensures ∙ ap (λ (x : DumpRecordFields). has_dump c.as_slice.result.now x.id) c.fields-fields.ensures.value) c.if-any_of_id.false) (sym c.has_wrong_parent.ensures ∙ c.if-has_wrong_parent.false) c.if-full.false in
    subst (λ (s : Step). IfOk c.add.result (λ now. now ≡ s.full)) (sym is) (c.add.ensures.full told w fits)

pub returns-clause-leaves : goal.returns-clause-leaves
returns-clause-leaves g c = λ told w fits.
    let P = g.P.Plant in
    let old = c.args.plant.now in
    let full = c.args.full in
    let d = c.args.dump.now in
    let listed = c.as_slice.ensures ∙ ap (λ (x : Database). x.listed) (c.database.ensures ∙ ap (λ (s : SessionView). s.budb.database) c.self.view_is) in
    let is = free_is w full d (listed_is P w old c.args.self.now fits c.as_slice.result.now d.id c.any_of_id.result false listed (c.any_of_id.ensures ∙ ap (λ (x : DumpRecordFields). has_dump c.as_slice.result.now x.id) c.fields-fields.ensures.value) c.if-any_of_id.false) (sym c.has_wrong_parent.ensures ∙ c.if-has_wrong_parent.false) c.if-full.false in
    subst (λ (s : Step). Leaves P s.turn.effects old c.add.new.plant) (sym is) (c.add.ensures.leaves told w fits)

pub returns-in_err-put_refused_number-clause-leaves : goal.returns-in_err-put_refused_number-clause-leaves
returns-in_err-put_refused_number-clause-leaves g c = λ told w fits.
    let old = c.args.plant.now in
    nothing_left g.P.Plant (added_if w c.args.full c.args.dump.now).turn.effects old (λ told survives image left. g.met.P.Plant.left old image told c.requires survives left)

pub returns-in_err-put_refused_numbers-clause-leaves : goal.returns-in_err-put_refused_numbers-clause-leaves
returns-in_err-put_refused_numbers-clause-leaves g c = λ told w fits.
    let old = c.args.plant.now in
    nothing_left g.P.Plant (added_if w c.args.full c.args.dump.now).turn.effects old (λ told survives image left. g.met.P.Plant.left old image told c.requires survives left)

pub returns-in_err-put_refused_number-clause-stopped : goal.returns-in_err-put_refused_number-clause-stopped
returns-in_err-put_refused_number-clause-stopped g c = λ told w fits. on_stop stops.Plant _ _ (λ other. left_standing g.P.Plant _ c.args.plant.now w.state c.requires (λ _. fits.state))

pub returns-in_err-put_refused_numbers-clause-stopped : goal.returns-in_err-put_refused_numbers-clause-stopped
returns-in_err-put_refused_numbers-clause-stopped g c = λ told w fits. on_stop stops.Plant _ _ (λ other. left_standing g.P.Plant _ c.args.plant.now w.state c.requires (λ _. fits.state))

pub returns-clause-stopped : goal.returns-clause-stopped
returns-clause-stopped g c = λ told w fits.
    let P = g.P.Plant in
    let old = c.args.plant.now in
    let full = c.args.full in
    let d = c.args.dump.now in
    let listed = c.as_slice.ensures ∙ ap (λ (x : Database). x.listed) (c.database.ensures ∙ ap (λ (s : SessionView). s.budb.database) c.self.view_is) in
    let is = free_is w full d (listed_is P w old c.args.self.now fits c.as_slice.result.now d.id c.any_of_id.result false listed (c.any_of_id.ensures ∙ ap (λ (x : DumpRecordFields). has_dump c.as_slice.result.now x.id) c.fields-fields.ensures.value) c.if-any_of_id.false) (sym c.has_wrong_parent.ensures ∙ c.if-has_wrong_parent.false) c.if-full.false in
    subst (λ (s : Step). OnErr c.add.result (c.add.result ≢ Err stops.Plant → LeftAhead P s.turn.effects old c.add.new.plant)) (sym is) (c.add.ensures.stopped told w fits)
