use Rattle.std.proofs.Common.{List, ◌∙◌, ap, rules, Vec}
use Rattle.std.specs.declared.alloc.Global.{Global}
use Rattle.plant_core.specs.declared.stored.Stored.{Stored}
use Rattle.plant_core.specs.Tapes.{records_at}
use Rattle.plant_core.proofs.TapeLists.{records_at_push_blank}
use Rattle.plant_core.proofs.stored.blank_tapes.Goals as goal

pub loop-index-preserved : goal.loop-index-preserved
loop-index-preserved c = record {
  count = search rules;
  blank = λ k. ap (λ (l : List (Vec Stored Global)). records_at l k) c.in_ok-push.ensures.items ∙ records_at_push_blank c.loop-index.tapes.items _ k c.new.ensures.items ∙ c.loop-index.invariant.blank k;
}
