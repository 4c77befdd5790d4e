-- The name of a configuration's cell is one of a server.
use Rattle.std.proofs.Common.{ℕ, ◌≡◌, List, [], ◌∷◌, Bool, true, false, cond, ◌&&◌, refl, subst}
use Rattle.std.specs.Prelude.{◌↔◌, Option, Some, None, Result, Ok, Err, IfSome, IsTrue}
use Rattle.std.specs.Str.Lines.{lines}
use Rattle.bk_text.specs.Alphabets.{IsHost}
use Rattle.bk_text.specs.Blanks.{is_same_text, words_of}
use Rattle.bk_text.specs.Tests.{host_test}
use Rattle.tape_config.specs.declared.line.Entry.{Entry}
use Rattle.tape_config.specs.declared.line.Line.{Line}
use Rattle.tape_config.specs.declared.fault.ConfigFault.{ConfigFault}
use Rattle.tape_config.specs.declared.fault.ConfigFault.TheVariants.{BadLine}
use Rattle.tape_config.specs.Words.{cell_word}
use Rattle.tape_config.specs.Lines.{words_name, cell_of, line_says}
use Rattle.tape_config.specs.Configs.{Settings, config_of, no_settings, next_entry, next_cell, with_entries, with_cell, next_line, next_number, lines_say}

settings_ok : (a b : Settings) → (let x : Result Settings ConfigFault = Ok a in x) ≡ Ok b → a ≡ b
settings_ok a b e = cc

settings_not_ok : (f : ConfigFault) (a : Settings) → (let x : Result Settings ConfigFault = Err f in x) ≡ Ok a → ⊥
settings_not_ok f a e = cc

with_entries_host : (before after : Settings) (r : Result (List Entry) ConfigFault) → IfSome before.cell IsHost → with_entries before r ≡ Ok after → IfSome after.cell IsHost
with_entries_host before after (Err fault) host e = absurd (settings_not_ok fault after e)
with_entries_host before after (Ok entries) host e = subst (λ (s : Settings). IfSome s.cell IsHost) (settings_ok (record before { entries = entries }) after e) host

with_cell_host : (number : ℕ) (before after : Settings) (name : List ℕ) (old : Option (List ℕ)) → IsHost name → with_cell before (next_cell number old name) ≡ Ok after → IfSome after.cell IsHost
with_cell_host number before after name (Some old) host e = absurd (settings_not_ok (BadLine number) after e)
with_cell_host number before after name None host e = subst (λ (s : Settings). IfSome s.cell IsHost) (settings_ok (record before { cell = Some name }) after e) host

line_host : (number : ℕ) (before after : Settings) (cell : Option (List ℕ)) (r : Option Line) → IfSome before.cell IsHost → IfSome cell IsHost → next_line number before cell r ≡ Ok after → IfSome after.cell IsHost
line_host number before after (Some name) r host named e = with_cell_host number before after name before.cell named e
line_host number before after None r host named e = with_entries_host before after (next_entry number before.entries r) host e

module _ (tests : (text : List ℕ) → IsTrue (host_test text) ↔ IsHost text) where
  words_host : (words : List (List ℕ)) → IfSome (words_name words) IsHost
  words_host [] = tt
  words_host (a ∷ []) = tt
  words_host (word ∷ name ∷ []) = by (is_same_text word cell_word) (host_test name) refl
    where
      by : (s t : Bool) → host_test name ≡ t → IfSome (cond (s && t) (Some name) None) IsHost
      by true true is = (tests name).0 is
      by true false is = tt
      by false t is = tt
  words_host (a ∷ b ∷ c ∷ more) = tt

  says_host : (lines : List (List ℕ)) (number : ℕ) (before after : Settings) → IfSome before.cell IsHost → lines_say number before lines ≡ Ok after → IfSome after.cell IsHost
  says_host [] number before after host e = subst (λ (s : Settings). IfSome s.cell IsHost) (settings_ok before after e) host
  says_host (line ∷ rest) number before after host e = go (λ later. says_host rest (next_number number) later after) (next_line number before (cell_of line) (line_says line)) refl e
    where
      go : ((later : Settings) → IfSome later.cell IsHost → lines_say (next_number number) later rest ≡ Ok after → IfSome after.cell IsHost) → (r : Result Settings ConfigFault) → next_line number before (cell_of line) (line_says line) ≡ r → ◌≡◌ {A = Result Settings ConfigFault} (elim r [ Ok later ↦ lines_say (next_number number) later rest | Err fault ↦ Err fault ]) (Ok after) → IfSome after.cell IsHost
      go on (Ok later) is e = on later (line_host number before later (cell_of line) (line_says line) host (words_host (words_of line)) is) e
      go on (Err fault) is e = absurd (settings_not_ok fault after e)

  pub cell_is_host : (bytes : List ℕ) (settings : Settings) → config_of bytes ≡ Ok settings → IfSome settings.cell IsHost
  cell_is_host bytes settings is = says_host (lines bytes) 1 no_settings settings tt is
