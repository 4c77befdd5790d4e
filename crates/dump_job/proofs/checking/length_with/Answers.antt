use Rattle.std.proofs.Common.{◌∙◌, ℕ, ◌+◌, ap}
use Rattle.dump_job.proofs.Beginnings.{length_alone, length_taking}
use Rattle.dump_job.proofs.checking.length_with.Goals as goal

pub returns-in-None : goal.returns-in-None
returns-in-None g c = λ id. rw c.in-None.is (ap (λ (n : ℕ). n + 5) c.log_len-length.ensures ∙ length_alone (g.P.Plant.view c.args.plant.now).log_size id)

pub returns-in-Some : goal.returns-in-Some
returns-in-Some g c = λ id. rw c.in-Some.is (ap (λ (n : ℕ). n + 5 + 5) c.log_len-length.ensures ∙ length_taking (g.P.Plant.view c.args.plant.now).log_size id c.in-Some.field-0)
