-- Commands one after the other: what comes of the first of them, and of one more.
use Rattle.std.proofs.Common.{◌≡◌, ℕ, zero, suc, ◌+◌, ◌<◌, Bool, List, [], ◌∷◌, ◌++◌, length, take, get_or, sym, ◌∙◌, ap, subst, arith}
use Rattle.plant_core.specs.declared.plant.Plant.{Ghosts as Plant}
use Rattle.plant_core.specs.Effects.{tells, comes}
use Rattle.plant_effects.specs.Runs.{state_of, Done, Stays}
use Rattle.plant_effects.proofs.States.{alike_both, alike_comes}
use Rattle.cell_core.specs.declared.cell.Cell.{Ghosts as Cell}
use Rattle.backup_words.specs.declared.command.Command.{Command}
use Rattle.backup_session.specs.Views.{SessionView, ReplyView}
use Rattle.backup_session.specs.Worlds.{World, Turn, at_moment, before_reply, with_told}
use Rattle.backup_session.specs.Machine.{turn}
use Rattle.backup_session.specs.Held.{HeldFor}
use Rattle.backup_session.specs.Fitting.{Fits, Turned}
use Rattle.rehearsal.specs.declared.batch.Batch.{Batch}
use Rattle.rehearsal.specs.Playing.{Stage, then_turn, given, played, FindsHeld, AllFindHeld, Reached}

-- a command was given and its reply told
module _ {D E : Type 0} (P : Plant D) (C : Cell E) where
  told_fits : (w : World) (text : List ℕ) (old new : D) (site : E) (session : SessionView) → Fits P C w old site session → P.tells → Done P (tells text ∷ []) old new → Stays P old new → Fits P C (with_told w text) new site session
  told_fits w text old new site session fits told done stays = record {
    keeps = fits.keeps;
    time = fits.time;
    config = fits.config;
    state = alike_both (comes (tells text) w.state) (comes (tells text) (state_of P old)) (state_of P new) (alike_comes (tells text) w.state (state_of P old) fits.state) (done.state told);
    settled = record { log = fits.settled.log; tapes = fits.settled.tapes };
    slots = stays.slots ∙ fits.slots;
    present = λ k. ap (λ (f : ℕ → Bool). f k) stays.present ∙ fits.present k;
    groups = fits.groups;
    cell = fits.cell;
  }

  pub reached_next : (s : Stage) (t : Turn) (old mid new : D) (site : E) (session : SessionView) (reply : ReplyView) (told more : List ℕ) → P.tells → Turned P C s.world t old mid site session reply
      → Done P (tells reply.text ∷ []) mid new → Stays P mid new → told ≡ s.told → more ≡ told ++ reply.text → Reached P C (then_turn s t) new site session more
  reached_next s t old mid new site session reply told more tells_all turned done stays so_far behind = record {
    fits = subst (λ (r : List ℕ). Fits P C (with_told (before_reply s.world t) r) new site session) turned.text (told_fits (before_reply s.world t) reply.text mid new site session turned.fits tells_all done stays);
    told = behind ∙ ap (λ (x : List ℕ). x ++ reply.text) so_far ∙ ap (λ (x : List ℕ). s.told ++ x) turned.text;
  }

-- ---- commands

given_next : (s : Stage) (now : ℕ) (commands : List Command) (i : ℕ) (command : Command) → i < length commands → command ≡ get_or commands i command
    → given s now (take (suc i) commands) ≡ (let before = given s now (take i commands) in then_turn before (turn before.world now command))
unfolding given
given_next s now [] i command below is = absurd (omega arith)
given_next s now (c ∷ cs) zero command below is = ap (λ (x : Command). then_turn s (turn s.world now x)) (sym is)
given_next s now (c ∷ cs) (suc i) command below is = given_next (then_turn s (turn s.world now c)) now cs i command (omega arith) is

pub given_more : (s : Stage) (now : ℕ) (commands : List Command) (i : ℕ) (command : Command) → i < length commands → command ≡ get_or commands i command
    → given s now (take (i + 1) commands) ≡ (let before = given s now (take i commands) in then_turn before (turn before.world now command))
given_more s now commands i command below is = ap (λ (n : ℕ). given s now (take n commands)) (let e : i + 1 ≡ suc i = omega arith in e) ∙ given_next s now commands i command below is

pub finds_at : (s : Stage) (now : ℕ) (commands : List Command) (i : ℕ) (command : Command) → i < length commands → command ≡ get_or commands i command → FindsHeld s now commands
    → HeldFor (at_moment (given s now (take i commands)).world now) command
unfolding given FindsHeld
finds_at s now [] i command below is finds = absurd (omega arith)
finds_at s now (c ∷ cs) zero command below is finds = subst (λ (x : Command). HeldFor (at_moment s.world now) x) (sym is) finds.0
finds_at s now (c ∷ cs) (suc i) command below is finds = finds_at (then_turn s (turn s.world now c)) now cs i command (omega arith) is finds.1

-- ---- batches

played_next : (s : Stage) (batches : List Batch) (i : ℕ) (batch : Batch) → i < length batches → batch ≡ get_or batches i batch
    → played s (take (suc i) batches) ≡ given (played s (take i batches)) batch.now batch.commands
unfolding played
played_next s [] i batch below is = absurd (omega arith)
played_next s (b ∷ bs) zero batch below is = ap (λ (x : Batch). given s x.now x.commands) (sym is)
played_next s (b ∷ bs) (suc i) batch below is = played_next (given s b.now b.commands) bs i batch (omega arith) is

pub played_more : (s : Stage) (batches : List Batch) (i : ℕ) (batch : Batch) → i < length batches → batch ≡ get_or batches i batch
    → played s (take (i + 1) batches) ≡ given (played s (take i batches)) batch.now batch.commands
played_more s batches i batch below is = ap (λ (n : ℕ). played s (take n batches)) (let e : i + 1 ≡ suc i = omega arith in e) ∙ played_next s batches i batch below is

pub all_find_at : (s : Stage) (batches : List Batch) (i : ℕ) (batch : Batch) → i < length batches → batch ≡ get_or batches i batch → AllFindHeld s batches
    → FindsHeld (played s (take i batches)) batch.now batch.commands
unfolding played AllFindHeld
all_find_at s [] i batch below is finds = absurd (omega arith)
all_find_at s (b ∷ bs) zero batch below is finds = subst (λ (x : Batch). FindsHeld s x.now x.commands) (sym is) finds.0
all_find_at s (b ∷ bs) (suc i) batch below is finds = all_find_at (given s b.now b.commands) bs i batch (omega arith) is finds.1
