use Rattle.script_journals.proofs.Turns.{turn_follows, turn_form}
use Rattle.script_journals.proofs.laws.commands_keep_forms.Goals as goal

pub returns-clause-journal : goal.returns-clause-journal
returns-clause-journal c = λ w now command world form. turn_follows (record { bytes = c.what_an_end_commits_has_bytes.ensures; time = c.what_an_end_leaves_has_forms.ensures.time; tapes = c.what_an_end_leaves_has_forms.ensures.tapes; contents = c.what_an_end_leaves_has_forms.ensures.contents }) w now world.tapes world.log command form (λ asks. world)

pub returns-clause-forms : goal.returns-clause-forms
returns-clause-forms c = turn_form (record { bytes = c.what_an_end_commits_has_bytes.ensures; time = c.what_an_end_leaves_has_forms.ensures.time; tapes = c.what_an_end_leaves_has_forms.ensures.tapes; contents = c.what_an_end_leaves_has_forms.ensures.contents }) c.form_tests.ensures.name
