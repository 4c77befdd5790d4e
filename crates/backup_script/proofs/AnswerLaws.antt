-- What is known of the next line, by how its run was answered.
use Rattle.std.proofs.Common.{◌≡◌, ◌≢◌, inl, inr, ℕ, ◌<◌, ◌≤◌, Bool, true, false, not, List, [], ◌∷◌, ◌++◌, length, All, refl, sym, ◌∙◌, ap, subst, append_assoc, Result, Ok, Err, IfOk, OnErr}
use Rattle.std.specs.Str.Lines.{lines, strip_carriage_return}
use Rattle.std.proofs.lemmas.List.{append-nil}
use Rattle.std.proofs.lemmas.List.Elements.{All-nil}
use Rattle.plant_core.specs.declared.plant.Plant.{Ghosts as Plant}
use Rattle.cell_core.specs.declared.cell.Cell.{Ghosts as Cell}
use Rattle.backup_session.specs.Worlds.{World}
use Rattle.backup_session.specs.Views.{SessionView}
use Rattle.backup_script.specs.declared.serving.Passed.{Passed}
use Rattle.backup_script.specs.declared.running.RunStop.{RunStop}
use Rattle.backup_script.specs.declared.serving.ServeStop.{ServeStop}
use Rattle.backup_script.specs.declared.serving.ServeStop.TheVariants.{Read, TooLong}
use Rattle.backup_script.specs.Lines.{is_feed, is_quit, TookPiece}
use Rattle.backup_script.specs.Items.{item_of}
use Rattle.backup_script.specs.Scripts.{one_line, script}
use Rattle.backup_script.specs.Running.{LeftWith, LineRan, LineLeft, ScriptRan, LinePassed, TookEnd, TakesNext}
use Rattle.backup_script.proofs.LineLaws.{none_ended, one_ended}
use Rattle.backup_script.proofs.ServingLaws.{line_passed, line_ended, line_left, last_ran, last_left}

pub flip : (b c : Bool) → b ≡ not c → b ≡ true → c ≡ false
flip b true is on = cc
flip b false is on = refl

pub flop : (b c : Bool) → b ≡ not c → b ≡ false → c ≡ true
flop b true is off = refl
flop b false is off = cc

-- ---- what was taken

pub took_line : (old new line : List ℕ) (taken : ℕ) (r : Result Passed ServeStop) → TookPiece old (10 ∷ new) line → IfOk r (λ passed. passed.goes ≡ not (is_quit (strip_carriage_return line))) → OnErr r (is_quit (strip_carriage_return line) ≡ false)
    → r ≢ Err Read → r ≢ Err TooLong → TakesNext old new taken r
took_line old new line taken (Ok passed) took goes other no_read no_long =
    (λ on. (line, took, flip passed.goes (is_quit (strip_carriage_return line)) goes on), λ off. inr (line, took, flop passed.goes (is_quit (strip_carriage_return line)) goes off))
took_line old new line taken (Err stop) took goes other no_read no_long = (
  line ++ 10 ∷ [],
  took.is ∙ sym (append_assoc line (10 ∷ []) new),
  λ short. elim short [
    | inl long ↦ absurd (no_long (ap (λ (e : ServeStop). Err e) long))
    | inr read ↦ absurd (no_read (ap (λ (e : ServeStop). Err e) read))
  ],
  one_ended line took.plain other,
)

not_both : (b : Bool) → b ≡ true → b ≡ false → ⊥
not_both true on off = cc
not_both false on off = cc

-- a last line, which no line feed has ended
pub took_last : (old new line : List ℕ) (taken : ℕ) (r : Result Passed ServeStop) → TookPiece old [] line → new ≡ [] → taken ≤ 16777216 → IfOk r (λ passed. passed.goes ≡ false) → TakesNext old new taken r
took_last old new line taken (Ok passed) took none few ends = (
  λ on. absurd (not_both passed.goes on ends),
  λ off. inl (none, few, subst (λ (l : List ℕ). All (λ b. is_feed b ≡ false) l) (sym (took.is ∙ append-nil line)) took.plain),
)
took_last old new line taken (Err stop) took none few ends = (line, took.is ∙ ap (λ (l : List ℕ). line ++ l) (sym none), λ short. took.plain, none_ended line took.plain)

-- nothing was there
pub took_none : (old new : List ℕ) (taken : ℕ) → (old ≡ []) × (new ≡ []) → taken ≤ 16777216 → TookEnd old new taken
took_none old new taken (empty, none) few = inl (none, few, subst (λ (l : List ℕ). All (λ b. is_feed b ≡ false) l) (sym empty) (All-nil (λ b. is_feed b ≡ false)))

-- the next line was taken in part
pub took_cut : (old new : List ℕ) (taken : ℕ) (stop : ServeStop) → ((piece : List ℕ) × TookPiece old new piece) → TakesNext old new taken (Err stop)
took_cut old new taken stop (piece, took) = (piece, took.is, λ short. took.plain, none_ended piece took.plain)

-- ---- what was run

module _ {D E : Type 0} (P : Plant D) (C : Cell E) (w : World) (ms input rest line read : List ℕ) (old new : D) (site : E) (session : SessionView) (left : List ℕ) (took : TookPiece input (10 ∷ rest) line) (is : read ≡ strip_carriage_return line) where
  abbrev Ran : Passed → Type 0
  Ran passed = LineRan P C (one_line w ms (item_of read)) old new site session left passed.goes

  ran_stripped : (passed : Passed) → Ran passed → LineRan P C (one_line w ms (item_of (strip_carriage_return line))) old new site session left passed.goes
  ran_stripped passed = subst (λ (l : List ℕ). LineRan P C (one_line w ms (item_of l)) old new site session left passed.goes) is

  pub passed_line : (r : Result Passed ServeStop) → IfOk r Ran → IfOk r (λ passed. passed.goes ≡ not (is_quit read)) → IfOk r (λ passed. passed.goes ≡ true → LinePassed P C w ms input rest old new site session left)
  passed_line (Ok passed) ran goes = λ on. line_passed P C w ms input rest line old new site took session left passed.goes (ap is_quit (sym is) ∙ flip passed.goes (is_quit read) goes on) on (ran_stripped passed ran)
  passed_line (Err stop) ran goes = tt

  pub ended_line : (r : Result Passed ServeStop) → IfOk r Ran → IfOk r (λ passed. passed.goes ≡ false → ScriptRan P C (script w ms (lines input)) old new site session left)
  ended_line (Ok passed) ran = λ off. line_ended P C w ms input rest line old new site took session left passed.goes off (ran_stripped passed ran)
  ended_line (Err stop) ran = tt

  pub left_line : (r : Result Passed ServeStop) → OnErr r (LineLeft P C w ms (item_of read) old new site left) → OnErr r (LeftWith P C w ms (lines input) [] old new site left)
  left_line (Ok passed) begun = tt
  left_line (Err stop) begun = line_left P C w ms input rest line old new site took left (subst (λ (l : List ℕ). LineLeft P C w ms (item_of l) old new site left) is begun)

module _ {D E : Type 0} (P : Plant D) (C : Cell E) (w : World) (ms input line read : List ℕ) (old new : D) (site : E) (session : SessionView) (left : List ℕ) (took : TookPiece input [] line) (some : 0 < length line) (is : read ≡ line) where
  pub ended_last : (r : Result Passed ServeStop) → IfOk r (λ passed. ScriptRan P C (script w ms (read ∷ [])) old new site session left) → IfOk r (λ passed. passed.goes ≡ false → ScriptRan P C (script w ms (lines input)) old new site session left)
  ended_last (Ok passed) ran = λ off. last_ran P C w ms input line old new site session left took some (subst (λ (l : List ℕ). ScriptRan P C (script w ms (l ∷ [])) old new site session left) is ran)
  ended_last (Err stop) ran = tt

  pub left_last : (r : Result Passed ServeStop) → OnErr r (LineLeft P C w ms (item_of read) old new site left) → OnErr r (LeftWith P C w ms (lines input) [] old new site left)
  left_last (Ok passed) begun = tt
  left_last (Err stop) begun = last_left P C w ms input line old new site left took some (subst (λ (l : List ℕ). LineLeft P C w ms (item_of l) old new site left) is begun)

pub not_false : (b : Bool) → not b ≡ false → b ≡ true
not_false true is = refl
not_false false is = cc

pub not_true : (b : Bool) → not b ≡ true → b ≡ false
not_true true is = cc
not_true false is = refl

pub err_is : (wanted stop : ServeStop) → ◌≡◌ {A = Result Bool ServeStop} (Err stop) (Err wanted) → stop ≡ wanted
err_is wanted stop is = cc

pub err_same : (wanted stop : RunStop) → ◌≡◌ {A = Result Bool RunStop} (Err stop) (Err wanted) → stop ≡ wanted
err_same wanted stop is = cc
