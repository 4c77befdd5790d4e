use Rattle.std.proofs.Common.{◌≡◌, [], ◌∷◌, refl, ◌∙◌, ap, subst}
use Rattle.plant_core.specs.Effects.{replaces}
use Rattle.plant_effects.specs.Runs.{state_of}
use Rattle.plant_effects.proofs.Joining.{nothing_left}
use Rattle.budb_changes.specs.Bytes.{encoded}
use Rattle.budb_changes.specs.Forms.{AreChanges}
use Rattle.budb_fold.specs.declared.database.Database.{Database}
use Rattle.budb_fold.specs.Checkpoints.{checkpoint}
use Rattle.budb.proofs.Keeping.{keeps_checkpoint}
use Rattle.budb.proofs.database.Budb.checkpoint.Goals as goal

pub returns-in-Ok-replace_bytes-clause-keeps : goal.returns-in-Ok-replace_bytes-clause-keeps
returns-in-Ok-replace_bytes-clause-keeps g c = λ told log keeps.
    let P = g.P.Plant in
    let form : AreChanges (checkpoint c.args.self.now.database) = subst (λ (db : Database). AreChanges (checkpoint db)) c.database.ensures c.in-Ok.ensures.form in
    let bytes : c.as_slice.result.now ≡ encoded (checkpoint c.args.self.now.database) = c.as_slice.ensures ∙ c.in-Ok.ensures.bytes ∙ ap (λ (db : Database). encoded (checkpoint db)) c.database.ensures in
    keeps_checkpoint log c.as_slice.result.now (state_of P c.args.plant.now) (state_of P c.replace_bytes.new.plant) c.args.self.now c.args.self.now keeps form bytes (c.in-Ok-replace_bytes.ensures.done.state told) refl

pub returns-in-Err-clause-leaves : goal.returns-in-Err-clause-leaves
returns-in-Err-clause-leaves g c =
    let old = c.args.plant.now in
    nothing_left g.P.Plant (replaces (encoded (checkpoint c.args.self.now.database)) ∷ []) old (λ told survives image left. g.met.P.Plant.left old image told c.requires.sound survives left)
