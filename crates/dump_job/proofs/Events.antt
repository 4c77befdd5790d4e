-- What a step did is its event: joined of what the calls in it did.
use Rattle.std.proofs.Common.{◌≡◌, ℕ, Bool, true, false, List, [], ◌∷◌, ◌++◌, Option, Some, None, map, refl, sym, ◌∙◌, ap, subst}
use Rattle.std.specs.Prelude.{◌==◌, if◌then◌else◌, Result, Ok, Err, IsTrue}
use Rattle.std.proofs.lemmas.List.{append-nil}
use Rattle.std.proofs.lemmas.List.Elements.{All-nil}
use Rattle.plant_core.specs.declared.fault.Failed.{Failed}
use Rattle.plant_core.specs.declared.plant.Plant.{Ghosts as Plant}
use Rattle.plant_core.specs.Crashes.{State}
use Rattle.plant_core.specs.Effects.{Effect, settles, come, putting_away}
use Rattle.plant_effects.specs.Runs.{state_of, loaded_of, Done, Leaves}
use Rattle.plant_effects.proofs.States.{come_append}
use Rattle.tape_text.specs.Items.{Item}
use Rattle.tape_writer.specs.Puts.{puts_on}
use Rattle.budb_changes.specs.declared.change.Change.{Change}
use Rattle.budb_changes.specs.Forms.{IsChange}
use Rattle.budb.specs.declared.fault.CommitFault.{CommitFault}
use Rattle.budb.specs.declared.fault.CommitFault.TheVariants as commit
use Rattle.budb.specs.Views.{BudbView}
use Rattle.budb.specs.Kept.{Keeps}
use Rattle.dump_job.specs.declared.answer.StepAnswer.{StepAnswer}
use Rattle.dump_job.specs.declared.answer.StepAnswer.TheVariants as answers
use Rattle.dump_job.specs.declared.fault.JobFault.TheVariants.{LogFull}
use Rattle.dump_job.specs.declared.fields.JobFields.{JobFields}
use Rattle.dump_job.specs.Reels.{turn_of, Turns}
use Rattle.dump_job.specs.Faults.{DoneBehindLoads, LeavesBehindLoads}
use Rattle.dump_job.specs.Closing.{committing, length_with, is_too_long, made_of, Closes, Makes}
use Rattle.dump_job.specs.Events.{Event}
use Rattle.dump_job.specs.Stepping.{HasStepped, Does, put_answer}
use Rattle.dump_job.proofs.Closings.{keeps_with, away_log}

-- ---- loads

-- a load puts no tape or one away
pub record IsAway (effects : List Effect) : Type 0 where
  pub away : List ℕ
  pub is : effects ≡ map settles away

away_by : (here : Bool) (j : ℕ) → IsAway (if here then [] else settles j ∷ [])
away_by true j = record { away = []; is = refl }
away_by false j = record { away = j ∷ []; is = refl }

pub away_of : (loaded : Option ℕ) (slot : ℕ) → IsAway (putting_away loaded slot)
away_of None slot = record { away = []; is = refl }
away_of (Some j) slot = away_by (j == slot) j

module _ {D : Type 0} (P : Plant D) where
  pub done_by_turn : (slot : ℕ) (es : List Effect) (old new : D) → Done P (turn_of P slot es old) old new → DoneBehindLoads P es old new
  done_by_turn slot es old new done =
      let one = away_of (loaded_of P old) slot in
      record { away = one.away; done = subst (λ (xs : List Effect). Done P (xs ++ es) old new) one.is done }

  pub left_by_turn : (slot : ℕ) (es : List Effect) (old new : D) → Leaves P (turn_of P slot es old) old new → LeavesBehindLoads P es old new
  left_by_turn slot es old new left =
      let one = away_of (loaded_of P old) slot in
      record { away = one.away; leaves = subst (λ (xs : List Effect). Leaves P (xs ++ es) old new) one.is left }

  log_by_turn : (slot : ℕ) (es : List Effect) (old : D) → ((s : State) → (come es s).log ≡ s.log) → (come (turn_of P slot es old) (state_of P old)).log ≡ (state_of P old).log
  log_by_turn slot es old same =
      let away = putting_away (loaded_of P old) slot in
      ap (λ (t : State). t.log) (come_append away es (state_of P old)) ∙ same (come away (state_of P old)) ∙ away_log (loaded_of P old) slot (state_of P old)

  keeps_by_turn : (slot : ℕ) (es : List Effect) (log : List Change) (budb : BudbView) (old new : D) → P.tells → ((s : State) → (come es s).log ≡ s.log) → Done P (turn_of P slot es old) old new
      → Keeps log (state_of P old).log budb → Keeps (log ++ []) (state_of P new).log budb
  keeps_by_turn slot es log budb old new tells same done keeps =
      subst (λ (l : List Change). Keeps l (state_of P new).log budb) (sym (append-nil log))
      (keeps_with log (state_of P old).log (state_of P new).log budb ((done.state tells).log ∙ log_by_turn slot es old same) keeps)

  -- ---- puts on the tape in hand

  pub does_put : (slot : ℕ) (es : List Effect) (result : Result Bool Failed) (budb : BudbView) (old new : D) (next k : JobFields) → P.tells → ((s : State) → (come es s).log ≡ s.log)
      → Turns P slot es result old new → (result ≡ Ok true → k ≡ next)
      → Does P (record { effects = es; changes = []; job = next; answer = answers.More }) (put_answer result) budb budb old new k
  does_put slot es (Ok true) budb old new next k tells same turns moved = record {
    answers = λ stepped. refl;
    job = λ stepped. moved refl;
    form = λ stepped. All-nil IsChange;
    database = λ stepped. refl;
    keeps = λ log keeps stepped. keeps_by_turn slot es log budb old new tells same (turns.done refl) keeps;
    done = λ stepped. done_by_turn slot es old new (turns.done refl);
    leaves = left_by_turn slot es old new turns.leaves;
  }
  does_put slot es (Ok false) budb old new next k tells same turns moved = record {
    answers = λ stepped. absurd stepped;
    job = λ stepped. absurd stepped;
    form = λ stepped. absurd stepped;
    database = λ stepped. absurd stepped;
    keeps = λ log keeps stepped. absurd stepped;
    done = λ stepped. absurd stepped;
    leaves = left_by_turn slot es old new turns.leaves;
  }
  does_put slot es (Err f) budb old new next k tells same turns moved = record {
    answers = λ stepped. absurd stepped;
    job = λ stepped. absurd stepped;
    form = λ stepped. absurd stepped;
    database = λ stepped. absurd stepped;
    keeps = λ log keeps stepped. absurd stepped;
    done = λ stepped. absurd stepped;
    leaves = left_by_turn slot es old new turns.leaves;
  }

  -- ---- the end of a part and the commit behind it

  -- the event by whether the log would be too long
  abbrev closing_if : Bool → ℕ → List Item → List Change → ℕ → JobFields → JobFields → StepAnswer → Event
  closing_if long slot items changes size next refused told = record {
    effects = puts_on slot items ++ committing (if long then [] else changes);
    changes = if long then [] else changes;
    job = if long then refused else next;
    answer = if long then answers.Refused (LogFull (length_with size changes)) else told;
  }

  not_long : (long : Bool) → (IsTrue long → ⊥) → long ≡ false
  not_long true never = absurd (never refl)
  not_long false never = refl

  -- whatever was answered
  pub left_by_close : (slot : ℕ) (items : List Item) (changes : List Change) (result : Result Bool CommitFault) (old new : D) → Closes P slot items changes result old new
      → LeavesBehindLoads P (puts_on slot items ++ committing (made_of (P.view old).log_size changes)) old new
  left_by_close slot items changes result old new closes = left_by_turn slot (puts_on slot items ++ committing (made_of (P.view old).log_size changes)) old new closes.leaves

  -- all was done
  pub does_close : (slot : ℕ) (items : List Item) (changes : List Change) (budb after : BudbView) (old new : D) (next refused k : JobFields) (told : StepAnswer) → P.tells
      → Closes P slot items changes (Ok true) old new → Makes P changes (Ok true) budb after old new → k ≡ next
      → Does P (closing_if (is_too_long (P.view old).log_size changes) slot items changes (P.view old).log_size next refused told) told budb after old new k
  does_close slot items changes budb after old new next refused k told tells closes makes moved =
      let size = (P.view old).log_size in
      let short : is_too_long size changes ≡ false = not_long (is_too_long size changes) (λ long. closes.too_long long refl) in
      subst (λ (b : Bool). Does P (closing_if b slot items changes size next refused told) told budb after old new k) (sym short) (record {
        answers = λ stepped. refl;
        job = λ stepped. moved;
        form = λ stepped. makes.form refl;
        database = λ stepped. makes.made refl;
        keeps = λ log keeps stepped. makes.keeps tells log keeps refl;
        done = λ stepped. done_by_turn slot (puts_on slot items ++ committing changes) old new (closes.done refl);
        leaves = left_by_turn slot (puts_on slot items ++ committing changes) old new
            (subst (λ (b : Bool). Leaves P (turn_of P slot (puts_on slot items ++ committing (if b then [] else changes)) old) old new) short closes.leaves);
      })

  -- the log would be too long
  pub does_full : (slot : ℕ) (items : List Item) (changes : List Change) (n : ℕ) (budb after : BudbView) (old new : D) (next refused k : JobFields) (told : StepAnswer) → P.tells
      → Closes P slot items changes (Err (commit.LogFull n)) old new → Makes P changes (Err (commit.LogFull n)) budb after old new → k ≡ refused
      → Does P (closing_if (is_too_long (P.view old).log_size changes) slot items changes (P.view old).log_size next refused told) (answers.Refused (LogFull n)) budb after old new k
  does_full slot items changes n budb after old new next refused k told tells closes makes moved =
      let size = (P.view old).log_size in
      let found = closes.full_length n refl in
      let long : is_too_long size changes ≡ true = found.0 in
      let alone : puts_on slot items ++ [] ≡ puts_on slot items = append-nil (puts_on slot items) in
      subst (λ (b : Bool). Does P (closing_if b slot items changes size next refused told) (answers.Refused (LogFull n)) budb after old new k) (sym long) (record {
        answers = λ stepped. ap (λ (m : ℕ). answers.Refused (LogFull m)) found.1;
        job = λ stepped. moved;
        form = λ stepped. All-nil IsChange;
        database = λ stepped. makes.same (λ is. cc);
        keeps = λ log keeps stepped. subst (λ (l : List Change). Keeps l (state_of P new).log after) (sym (append-nil log)) (makes.full_keeps tells log keeps n refl);
        done = λ stepped. done_by_turn slot (puts_on slot items ++ []) old new (subst (λ (es : List Effect). Done P (turn_of P slot es old) old new) (sym alone) (closes.full n refl));
        leaves = left_by_turn slot (puts_on slot items ++ []) old new
            (subst (λ (b : Bool). Leaves P (turn_of P slot (puts_on slot items ++ committing (if b then [] else changes)) old) old new) long closes.leaves);
      })

  -- no step was made
  pub does_none : (event : Event) (answer : StepAnswer) (budb after : BudbView) (old new : D) (k : JobFields) → (HasStepped answer → ⊥) → LeavesBehindLoads P event.effects old new
      → Does P event answer budb after old new k
  does_none event answer budb after old new k never left = record {
    answers = λ stepped. absurd (never stepped);
    job = λ stepped. absurd (never stepped);
    form = λ stepped. absurd (never stepped);
    database = λ stepped. absurd (never stepped);
    keeps = λ log keeps stepped. absurd (never stepped);
    done = λ stepped. absurd (never stepped);
    leaves = left;
  }
