use Rattle.script_journals.proofs.Scripts.{script_form}
use Rattle.script_journals.proofs.laws.scripts_keep_forms.Goals as goal

pub returns : goal.returns
returns c = script_form (record { bytes = c.what_an_end_commits_has_bytes.ensures; time = c.what_an_end_leaves_has_forms.ensures.time; tapes = c.what_an_end_leaves_has_forms.ensures.tapes; contents = c.what_an_end_leaves_has_forms.ensures.contents }) c.form_tests.ensures.name
