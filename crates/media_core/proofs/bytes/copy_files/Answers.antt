use Rattle.std.proofs.Common.{◌≡◌, ◌<◌, length, ◌∙◌, rules, arith}
use Rattle.media_core.proofs.Files.{file_bytes_copied}
use Rattle.media_core.proofs.bytes.copy_files.Goals as goal

pub loop-file-preserved : goal.loop-file-preserved
loop-file-preserved c =
    let i = c.loop-file.invariant in
    let below : c.loop-file.file-index < length c.args.files.now = omega arith in
    let size : length c.loop-file.copy.items ≡ c.loop-file.file-index = search rules in
    let same : c.in_ok-to_vec.field-0.items ≡ c.deref.result.now = search rules in
    record {
      count = search rules;
      same = file_bytes_copied c.args.files.now c.loop-file.copy.items c.push.new.self.items c.loop-file.file-index c.file-item.result c.in_ok-to_vec.field-0 below c.file-item.is size i.same
          (same ∙ c.deref.ensures.value) c.in_ok-push.ensures.items;
    }
