-- The journal of a script: where it dumps, of a world that has its forms; where it doesn't, of any world whose journal is of changes.
use Rattle.std.proofs.Common.{◌≡◌, ℕ, Bool, true, false, List, [], ◌∷◌, refl}
use Rattle.std.specs.Prelude.{◌↔◌, ◌||◌, IsTrue}
use Rattle.bk_text.specs.Alphabets.{IsName}
use Rattle.bk_text.specs.Tests.{name_test}
use Rattle.plant_core.specs.Effects.{tells}
use Rattle.budb_changes.specs.Forms.{AreChanges}
use Rattle.backup_session.specs.Asks.{asks_dump}
use Rattle.backup_session.specs.Bounded.{HasTapes}
use Rattle.backup_session.specs.Machine.{turn}
use Rattle.backup_session.specs.Worlds.{World}
use Rattle.backup_session.proofs.TapeBounds.{told_has_tapes}
use Rattle.backup_script.specs.declared.item.Item.{Item}
use Rattle.backup_script.specs.declared.item.Item.TheVariants.{Silent, Quit, Runs, Refused}
use Rattle.backup_script.specs.Items.{item_of}
use Rattle.backup_script.specs.Scripts.{first_of, one_line, script}
use Rattle.dump_forms.specs.Journals.{IsJournalAfter}
use Rattle.dump_forms.proofs.JournalLaws.{journal_joined}
use Rattle.script_journals.specs.Worlds.{IsWorldForm}
use Rattle.script_journals.specs.Dumping.{item_asks_dump, dumps_from, dumps_among, IsFormedFor}
use Rattle.script_journals.proofs.Following.{journal_form}
use Rattle.script_journals.proofs.Scripts.{ItemForms, item_forms, item_form, further}
use Rattle.script_journals.proofs.TurnForms.{EndForms}
use Rattle.script_journals.proofs.Turns.{turn_follows, turn_tapes}

-- ---- lines

module _ (ends : EndForms) (w : World) (ms : List ℕ) (has : HasTapes w) (log : AreChanges w.log) where
  item_follows : (item : Item) → ItemForms item → (item_asks_dump item ≡ true → IsWorldForm w) → let s = one_line w ms item in IsJournalAfter w.log s.effects s.world.log
  item_follows Silent forms formed = refl
  item_follows Quit forms formed = refl
  item_follows (Refused text) forms formed = refl
  item_follows (Runs command) forms formed =
      let t = turn w (first_of ms) command in
      journal_joined w.log t.log t.log t.effects (tells t.reply ∷ []) (turn_follows ends w (first_of ms) has log command forms formed) refl

  item_tapes : (item : Item) → ItemForms item → (item_asks_dump item ≡ true → IsWorldForm w) → HasTapes (one_line w ms item).world
  item_tapes Silent forms formed = has
  item_tapes Quit forms formed = has
  item_tapes (Refused text) forms formed = told_has_tapes w text has
  item_tapes (Runs command) forms formed = turn_tapes ends w (first_of ms) has command forms formed

-- one of two tests
first_or : (a b : Bool) → a ≡ true → (a || b) ≡ true
first_or true b is = refl
first_or false b is = absurd cc

second_or : (a b : Bool) → b ≡ true → (a || b) ≡ true
second_or true b is = refl
second_or false b is = is

-- a line that dumps, and one that is run behind another one
pub dump_here : (item : Item) (further : Bool) → item_asks_dump item ≡ true → dumps_from item further ≡ true
dump_here Silent further is = absurd cc
dump_here Quit further is = absurd cc
dump_here (Refused text) further is = absurd cc
dump_here (Runs command) further is = first_or (asks_dump command) further is

pub dump_later : (w : World) (ms : List ℕ) (item : Item) (further : Bool) → (one_line w ms item).goes ≡ true → further ≡ true → dumps_from item further ≡ true
dump_later w ms Silent further goes is = is
dump_later w ms Quit further goes is = absurd cc
dump_later w ms (Refused text) further goes is = is
dump_later w ms (Runs command) further goes is = second_or (asks_dump command) further is

module _ (ends : EndForms) (tests : (text : List ℕ) → IsTrue (name_test text) ↔ IsName text) where
  pub follows : (w : World) (ms : List ℕ) (lines : List (List ℕ)) → HasTapes w → AreChanges w.log → IsFormedFor w lines → IsJournalAfter w.log (script w ms lines).effects (script w ms lines).world.log
  unfolding script
  follows w ms [] has log formed = refl
  follows w ms (line ∷ lines) has log formed =
      let s = one_line w ms (item_of line) in
      let here : item_asks_dump (item_of line) ≡ true → IsWorldForm w = λ asks. formed (dump_here (item_of line) (dumps_among lines) asks) in
      let first = item_follows ends w ms has log (item_of line) (item_forms line) here in
      further w.log s (script s.world s.moments lines) s.goes first
      (λ goes. follows s.world s.moments lines (item_tapes ends w ms has log (item_of line) (item_forms line) here) (journal_form s.effects w.log s.world.log log first)
      (λ asks. item_form ends w ms (formed (dump_later w ms (item_of line) (dumps_among lines) goes asks)) tests (item_of line) (item_forms line)))
