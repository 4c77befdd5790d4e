use Rattle.std.proofs.Common.{List, ℕ, Vec, ◌∙◌, ap}
use Rattle.std.specs.declared.alloc.Global.{Global}
use Rattle.media_core.specs.Events.{file_bytes}
use Rattle.media_core.proofs.Files.{file_bytes_push_empty}
use Rattle.media_core.proofs.bytes.make_room.Goals as goal

pub loop-alloc-preserved : goal.loop-alloc-preserved
loop-alloc-preserved c = λ k. ap (λ (l : List (Vec ℕ Global)). file_bytes l k) c.in_ok-push.ensures.items ∙ file_bytes_push_empty c.loop-alloc.files.items _ k c.new.ensures.items ∙ c.loop-alloc.invariant k
