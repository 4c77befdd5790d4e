-- The contents of several dumps at once, and of one of them.
use Rattle.std.specs.Prelude.{◌≡◌, ℕ, List}
use Rattle.dump_job.specs.declared.order.DumpOrder.{DumpOrder}
use Rattle.dump_courses.specs.Scenes.{Scene}
use Rattle.dump_commands.specs.Answers.{Contents, place_of, given_at}

-- These contents have what a dump of this order gives, under its id, and under its parent's id what there was when it began.
pub record HasGrown (s : Scene) (o : DumpOrder) (id : ℕ) (contents grown : Contents) : Type 0 where
  pub own : (name : List ℕ) → grown id name ≡ given_at s o contents name (contents id name) (place_of s.cell o.volumes name)
  pub above : (name : List ℕ) → grown o.parent name ≡ contents o.parent name
