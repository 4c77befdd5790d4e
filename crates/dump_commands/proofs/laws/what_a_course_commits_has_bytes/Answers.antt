use Rattle.dump_commands.proofs.FormLaws.{course_journaled}
use Rattle.dump_commands.proofs.laws.what_a_course_commits_has_bytes.Goals as goal

pub returns : goal.returns
returns c = course_journaled
