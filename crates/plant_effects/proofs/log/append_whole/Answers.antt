use Rattle.std.proofs.Common.{[], ◌∷◌, ◌∙◌}
use Rattle.plant_core.specs.Effects.{commits}
use Rattle.plant_effects.specs.Runs.{state_of}
use Rattle.plant_effects.proofs.Joining.{quiet_call, quiet_both, reads_left}
use Rattle.plant_effects.proofs.OutputCalls.{commits_step, committed}
use Rattle.plant_effects.proofs.States.{grows_same, told_kept}
use Rattle.plant_effects.proofs.log.append_whole.Goals as goal

pub returns-in_err-log_put-clause-leaves : goal.returns-in_err-log_put-clause-leaves
returns-in_err-log_put-clause-leaves g c =
    let P = g.P.Plant in
    let laws = g.met.P.Plant in
    let old = c.args.plant.now in
    let mid = c.log_put.new.self in
    record {
      crash = λ told survives. (reads_left P (commits c.args.bytes.now ∷ []) old mid (λ told survives image left. laws.left old image told c.requires survives left) (λ told. c.log_put.ensures.crash told survives) c.log_put.ensures.stays).crash told survives;
      told = λ told. told_kept (commits c.args.bytes.now ∷ []) (state_of P old) (state_of P mid).told (c.log_put.ensures.stays.output told);
      grows = λ told. grows_same (state_of P old).told (state_of P mid).told (c.log_put.ensures.stays.output told);
    }

pub returns-in_err-log_put-clause-stays : goal.returns-in_err-log_put-clause-stays
returns-in_err-log_put-clause-stays g c = quiet_call g.P.Plant c.args.plant.now c.log_put.new.self c.log_put.ensures.stays c.log_put.ensures.cause.later

pub returns-in-Err-clause-leaves : goal.returns-in-Err-clause-leaves
returns-in-Err-clause-leaves g c =
    let P = g.P.Plant in
    let laws = g.met.P.Plant in
    let old = c.args.plant.now in
    let mid = c.log_put.new.self in
    let put = c.in_ok-log_put.ensures in
    record {
      crash = λ told survives. commits_step P c.args.bytes.now (state_of P mid).log old mid c.log_commit.new.self (λ told survives image left. laws.left old image told c.requires survives left) ((put.only.state told).log) told survives
          (c.log_put.ensures.crash told survives) (c.log_commit.ensures.crash told (put.survives told survives));
      told = λ told. told_kept (commits c.args.bytes.now ∷ []) (state_of P old) (state_of P c.log_commit.new.self).told (c.log_commit.ensures.stays.output told ∙ c.log_put.ensures.stays.output told);
      grows = λ told. grows_same (state_of P old).told (state_of P c.log_commit.new.self).told (c.log_commit.ensures.stays.output told ∙ c.log_put.ensures.stays.output told);
    }

pub returns-in-Err-clause-stays : goal.returns-in-Err-clause-stays
returns-in-Err-clause-stays g c =
    let P = g.P.Plant in
    quiet_both P c.args.plant.now c.log_put.new.self c.log_commit.new.self
    (quiet_call P c.args.plant.now c.log_put.new.self c.log_put.ensures.stays c.log_put.ensures.cause.later)
    (quiet_call P c.log_put.new.self c.log_commit.new.self c.log_commit.ensures.stays c.log_commit.ensures.cause.later)

pub returns-in-Ok-clause-leaves : goal.returns-in-Ok-clause-leaves
returns-in-Ok-clause-leaves g c =
    let P = g.P.Plant in
    let laws = g.met.P.Plant in
    let old = c.args.plant.now in
    let mid = c.log_put.new.self in
    let put = c.in_ok-log_put.ensures in
    record {
      crash = λ told survives. commits_step P c.args.bytes.now (state_of P mid).log old mid c.log_commit.new.self (λ told survives image left. laws.left old image told c.requires survives left) ((put.only.state told).log) told survives
          (c.log_put.ensures.crash told survives) (c.log_commit.ensures.crash told (put.survives told survives));
      told = λ told. told_kept (commits c.args.bytes.now ∷ []) (state_of P old) (state_of P c.log_commit.new.self).told (c.log_commit.ensures.stays.output told ∙ c.log_put.ensures.stays.output told);
      grows = λ told. grows_same (state_of P old).told (state_of P c.log_commit.new.self).told (c.log_commit.ensures.stays.output told ∙ c.log_put.ensures.stays.output told);
    }

pub returns-in-Ok-clause-stays : goal.returns-in-Ok-clause-stays
returns-in-Ok-clause-stays g c =
    let P = g.P.Plant in
    quiet_both P c.args.plant.now c.log_put.new.self c.log_commit.new.self
    (quiet_call P c.args.plant.now c.log_put.new.self c.log_put.ensures.stays c.log_put.ensures.cause.later)
    (quiet_call P c.log_put.new.self c.log_commit.new.self c.log_commit.ensures.stays c.log_commit.ensures.cause.later)

pub returns-in-Ok-clause-done : goal.returns-in-Ok-clause-done
returns-in-Ok-clause-done g c =
    let P = g.P.Plant in
    let put = c.in_ok-log_put.ensures in
    let kept = c.in-Ok.ensures in
    record {
      sound = kept.sound;
      survives = λ told survives. kept.survives told (put.survives told survives);
      state = λ told. committed P c.args.bytes.now (state_of P c.args.plant.now) (state_of P c.log_put.new.self) (state_of P c.log_commit.new.self) (put.only.state told) (kept.only.state told);
    }
