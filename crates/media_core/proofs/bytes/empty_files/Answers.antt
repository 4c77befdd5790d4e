use Rattle.std.proofs.Common.{ℕ, List, ◌∙◌, ap, rules, Vec}
use Rattle.std.specs.declared.alloc.Global.{Global}
use Rattle.media_core.specs.Events.{file_bytes}
use Rattle.media_core.proofs.Files.{file_bytes_push_empty}
use Rattle.media_core.proofs.bytes.empty_files.Goals as goal

pub loop-index-preserved : goal.loop-index-preserved
loop-index-preserved c = record {
  count = search rules;
  empty = λ k. ap (λ (l : List (Vec ℕ Global)). file_bytes l k) c.in_ok-push.ensures.items ∙ file_bytes_push_empty c.loop-index.files.items _ k c.new.ensures.items ∙ c.loop-index.invariant.empty k;
}
