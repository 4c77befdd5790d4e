-- DUMPS SIDE BY SIDE: when one that runs has nothing to do with another.
use Rattle.std.specs.Prelude.{◌≡◌}
use Rattle.tape_config.specs.Ports.{AreApart}
use Rattle.dump_job.specs.declared.fields.JobFields.{JobFields}

-- A dump has nothing to do with another one: their ports have no slot in common, their ids differ, and neither is the other's parent.
pub record IsBeside (i j : JobFields) : Type 0 where
  pub ports : AreApart i.port j.port
  pub ids : i.head.id ≡ j.head.id → ⊥
  pub above : i.head.parent ≡ j.head.id → ⊥
  pub below : j.head.parent ≡ i.head.id → ⊥
