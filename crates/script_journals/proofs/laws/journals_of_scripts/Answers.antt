use Rattle.script_journals.proofs.DumpingScripts.{follows}
use Rattle.script_journals.proofs.laws.journals_of_scripts.Goals as goal

pub returns : goal.returns
returns c = follows (record { bytes = c.what_an_end_commits_has_bytes.ensures; time = c.what_an_end_leaves_has_forms.ensures.time; tapes = c.what_an_end_leaves_has_forms.ensures.tapes; contents = c.what_an_end_leaves_has_forms.ensures.contents }) c.form_tests.ensures.name
