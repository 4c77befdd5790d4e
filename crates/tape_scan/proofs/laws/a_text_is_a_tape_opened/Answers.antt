use Rattle.tape_scan.proofs.OpenedLaws.{text_opened, nothing_text, label_text, opened_text}
use Rattle.tape_scan.proofs.laws.a_text_is_a_tape_opened.Goals as goal

pub returns-clause-only : goal.returns-clause-only
returns-clause-only c = text_opened

pub returns-clause-nothing : goal.returns-clause-nothing
returns-clause-nothing c = nothing_text

pub returns-clause-label : goal.returns-clause-label
returns-clause-label c = label_text

pub returns-clause-opened : goal.returns-clause-opened
returns-clause-opened c = opened_text
