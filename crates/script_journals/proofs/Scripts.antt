-- What a line says has its forms, and so has the world behind a script.
use Rattle.std.proofs.Common.{◌≡◌, ℕ, Bool, true, false, List, [], ◌∷◌, refl}
use Rattle.std.specs.Prelude.{◌↔◌, if◌then◌else◌, IsTrue, Result, Ok, Err}
use Rattle.bk_text.specs.Alphabets.{IsName}
use Rattle.bk_text.specs.Tests.{name_test}
use Rattle.budb_changes.specs.declared.change.Change.{Change}
use Rattle.backup_words.specs.declared.command.Command.{Command}
use Rattle.backup_words.specs.declared.faults.WordFault.{WordFault}
use Rattle.backup_words.specs.Commands.{command_of}
use Rattle.backup_session.specs.Worlds.{World}
use Rattle.backup_script.specs.declared.item.Item.{Item}
use Rattle.backup_script.specs.declared.item.Item.TheVariants.{Silent, Quit, Runs, Refused}
use Rattle.backup_script.specs.Lines.{is_quit}
use Rattle.backup_script.specs.Items.{is_silent, said, item_of}
use Rattle.backup_script.specs.Scripts.{first_of, Outcome, then_outcome, one_line, script}
use Rattle.command_forms.specs.Forms.{HasForms}
use Rattle.command_forms.proofs.Lines.{line_form}
use Rattle.dump_forms.specs.Journals.{IsJournalAfter}
use Rattle.dump_forms.proofs.JournalLaws.{journal_joined}
use Rattle.script_journals.specs.Worlds.{IsWorldForm}
use Rattle.script_journals.proofs.TurnForms.{EndForms}
use Rattle.script_journals.proofs.Turns.{turn_form, told_form}

-- what a line says has its forms
abbrev pub ItemForms : Item → Type 0
ItemForms Silent = Unit {0}
ItemForms Quit = Unit {0}
ItemForms (Refused text) = Unit {0}
ItemForms (Runs command) = HasForms command

said_forms : (r : Result Command WordFault) → ((command : Command) → r ≡ Ok command → HasForms command) → ItemForms (said r)
said_forms (Ok command) forms = forms command refl
said_forms (Err fault) forms = tt

picked : (b : Bool) (i j : Item) → ItemForms i → ItemForms j → ItemForms (if b then i else j)
picked true i j is_i is_j = is_i
picked false i j is_i is_j = is_j

pub item_forms : (line : List ℕ) → ItemForms (item_of line)
unfolding item_of
item_forms line = picked (is_quit line) _ _ tt (picked (is_silent line) _ _ tt (said_forms (command_of line) (line_form line)))

module _ (ends : EndForms) (w : World) (ms : List ℕ) (form : IsWorldForm w) where
  -- behind a line the world has its forms again
  pub item_form : (tests : (text : List ℕ) → IsTrue (name_test text) ↔ IsName text) (item : Item) → ItemForms item → IsWorldForm (one_line w ms item).world
  item_form tests Silent forms = form
  item_form tests Quit forms = form
  item_form tests (Refused text) forms = told_form w text form
  item_form tests (Runs command) forms = turn_form ends tests w (first_of ms) command form forms

-- further lines, where the script goes on
pub further : (log : List Change) (s rest : Outcome) (b : Bool) → IsJournalAfter log s.effects s.world.log → (b ≡ true → IsJournalAfter s.world.log rest.effects rest.world.log)
    → let o = (if b then then_outcome s rest else s) in IsJournalAfter log o.effects o.world.log
further log s rest true first second = journal_joined log s.world.log rest.world.log s.effects rest.effects first (second refl)
further log s rest false first second = first

further_form : (s rest : Outcome) (b : Bool) → IsWorldForm s.world → IsWorldForm rest.world → IsWorldForm (if b then then_outcome s rest else s).world
further_form s rest true first second = second
further_form s rest false first second = first

module _ (ends : EndForms) (tests : (text : List ℕ) → IsTrue (name_test text) ↔ IsName text) where
  pub script_form : (w : World) (ms : List ℕ) (lines : List (List ℕ)) → IsWorldForm w → IsWorldForm (script w ms lines).world
  unfolding script
  script_form w ms [] form = form
  script_form w ms (line ∷ lines) form =
      let s = one_line w ms (item_of line) in
      let first : IsWorldForm s.world = item_form ends w ms form tests (item_of line) (item_forms line) in
      further_form s (script s.world s.moments lines) s.goes first (script_form s.world s.moments lines first)
