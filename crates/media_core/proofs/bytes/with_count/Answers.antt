use Rattle.std.proofs.Common.{ℕ, List, ◌∙◌, ap, Vec, rules, arith}
use Rattle.std.specs.declared.alloc.Global.{Global}
use Rattle.media_core.specs.Events.{file_bytes}
use Rattle.media_core.proofs.Files.{file_bytes-take, file_bytes_push_empty}
use Rattle.media_core.proofs.bytes.with_count.Goals as goal

pub loop-alloc-init : goal.loop-alloc-init
loop-alloc-init c = record {
  few = omega (arith, c.truncate.ensures.len);
  same = λ k below. ap (λ (l : List (Vec ℕ Global)). file_bytes l k) c.truncate.ensures.items ∙ file_bytes-take c.args.files.items c.args.count k below;
}

pub loop-alloc-preserved : goal.loop-alloc-preserved
loop-alloc-preserved c = record {
  few = search rules;
  same = λ k below. ap (λ (l : List (Vec ℕ Global)). file_bytes l k) c.in_ok-push.ensures.items ∙ file_bytes_push_empty c.loop-alloc.files.items _ k c.new.ensures.items ∙ c.loop-alloc.invariant.same k below;
}
