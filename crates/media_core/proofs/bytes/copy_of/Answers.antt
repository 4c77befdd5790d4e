use Rattle.std.proofs.Common.{◌≡◌, sym, ◌∙◌, rules}
use Rattle.media_core.proofs.Files.{file_bytes_at, file_bytes_past}
use Rattle.media_core.proofs.bytes.copy_of.Goals as goal

pub returns-in_ok-copy-in-Some : goal.returns-in_ok-copy-in-Some
returns-in_ok-copy-in-Some c =
    let l = c.in-Some.ensures.lookup in
    let same : c.in_ok-copy-in-Some.copy.items ≡ c.deref.result.now = search rules in
    same ∙ c.deref.ensures.value ∙ sym (file_bytes_at c.args.files.now c.args.f c.in-Some.file.now l.3.0 l.1)

pub returns-in-None : goal.returns-in-None
returns-in-None c = c.new.ensures.items ∙ sym (file_bytes_past c.args.files.now c.args.f c.in-None.ensures.lookup.3)
