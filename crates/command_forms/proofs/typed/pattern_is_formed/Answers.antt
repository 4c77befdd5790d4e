use Rattle.bk_text.specs.Patterns.{IsPattern}
use Rattle.command_forms.proofs.typed.pattern_is_formed.Goals as goal

pub returns : goal.returns
returns c = (let is : IsPattern c.args.pattern.now = c.bytes-bytes.ensures.form in record { some = is.some; short = is.short; first = tt; each = is.each })
