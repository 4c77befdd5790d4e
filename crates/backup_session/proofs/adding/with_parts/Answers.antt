use Rattle.std.proofs.Common.{ℕ, List, ◌++◌, ◌∙◌, ap, append_assoc}
use Rattle.std.specs.List.{flat_map}
use Rattle.backup_replies.specs.Texts.{ok_line}
use Rattle.backup_session.specs.Scanning.{left_line}
use Rattle.backup_session.proofs.adding.with_parts.Goals as goal

pub returns : goal.returns
returns c = c.new.ensures ∙ c.into_bytes.ensures ∙ c.in_ok-piece.ensures.ok ∙ ap (λ (l : List ℕ). l ++ ok_line) c.in_ok-put_parts.ensures ∙ append_assoc c.args.lines (flat_map left_line c.args.parts.now) ok_line
