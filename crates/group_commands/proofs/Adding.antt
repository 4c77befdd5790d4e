-- A dump that has begun is added to a pool.
use Rattle.std.proofs.Common.{zero, suc, ◌≡◌, ◌≢◌, ◌⊎◌, ℕ, ◌<◌, ◌≤◌, List, [], ◌∷◌, ◌++◌, length, inl, inr, sym, subst, ◌∙◌, arith}
use Rattle.std.specs.Prelude.{Some, None, slice_get}
use Rattle.plant_core.specs.declared.plant.Plant.{Ghosts as Plant}
use Rattle.plant_effects.specs.Runs.{StaysQuiet}
use Rattle.cell_core.specs.declared.cell.Cell.{Ghosts as Cell}
use Rattle.tape_config.specs.declared.port.PortFields.{PortFields}
use Rattle.tape_config.specs.Configs.{Settings, port_in}
use Rattle.tape_config.specs.Ports.{AreApart}
use Rattle.dump_job.specs.declared.fields.JobFields.{JobFields}
use Rattle.dump_job.specs.declared.fields.Phase.TheVariants as phase
use Rattle.dump_job.specs.Elsewhere.{IsOnPort, LeavesTapes}
use Rattle.dump_job.specs.Jobs.{FitsJob, HasPlaces}
use Rattle.backup_words.specs.declared.command.DumpCommand.{DumpCommand}
use Rattle.job_pool.specs.declared.jobs.PoolJob.{PoolJob}
use Rattle.job_pool.specs.Pooled.{FitsOne, FitsPool, HasAllPlaces}
use Rattle.job_pool.proofs.Turning.{stays_fit}
use Rattle.group_commands.specs.declared.began.Began.{Began}
use Rattle.group_commands.specs.declared.began.Began.TheVariants.{Runs}
use Rattle.group_commands.specs.Lines.{AreOfPool}
use Rattle.group_commands.specs.Begun.{AreOfOthers, IsOldOrAt, IsOfHeld}
use Rattle.group_commands.proofs.Jobs.{get_more}

-- ---- ports

pub apart_swap : (p q : PortFields) → AreApart p q → AreApart q p
apart_swap p q (inl below) = inr below
apart_swap p q (inr above) = inl above

pub some_port : (p q : PortFields) → Some p ≡ Some q → p ≡ q
some_port p q is = cc

-- the held dumps go to ports of different offsets
pub held_others : (config : Settings) (held : List DumpCommand) (count : ℕ) (a : DumpCommand) (jobs : List PoolJob) → slice_get held count ≡ Some a
    → ((n k : ℕ) (x y : DumpCommand) → slice_get held n ≡ Some x → slice_get held k ≡ Some y → n ≢ k → x.offset ≢ y.offset)
    → ((n : ℕ) (q : PoolJob) → slice_get jobs n ≡ Some q → IsOfHeld config held count q.job.port) → AreOfOthers config a.offset jobs
held_others config held count a jobs there unlike of_held n q at =
    let one = of_held n q at in
    record { other = one.command.offset; unlike = unlike count one.place a one.command there one.there (λ same. absurd (omega (arith, same, one.before))); at = one.at }

-- one more of them
pub held_more : (config : Settings) (held : List DumpCommand) (count next : ℕ) (a : DumpCommand) (old jobs : List PoolJob) → slice_get held count ≡ Some a → count < next
    → ((n : ℕ) (q : PoolJob) → slice_get old n ≡ Some q → IsOfHeld config held count q.job.port)
    → ((n : ℕ) (q : PoolJob) → slice_get jobs n ≡ Some q → IsOldOrAt config a.offset old n q)
    → (n : ℕ) (q : PoolJob) → slice_get jobs n ≡ Some q → IsOfHeld config held next q.job.port
held_more config held count next a old jobs there more of_held each n q at = elim (each n q at) [
  | inl was ↦ (let one = of_held n q was in record { place = one.place; command = one.command; there = one.there; before = omega (arith, one.before, more); at = one.at })
  | inr new ↦ record { place = count; command = a; there = there; before = more; at = new }
]

-- ---- a pool on a plant whose tapes were left

module _ {D : Type 0} (P : Plant D) (old new : D) (sound : P.sound new) (stays : StaysQuiet P old new) (tapes : P.tells → LeavesTapes P old new) where
  pub fits_still : (jobs : List PoolJob) → FitsPool P jobs old → FitsPool P jobs new
  fits_still jobs fit = record {
    sound = sound;
    each = λ n q at runs.
        (let one = fit.each n q at runs in
        record {
          going = one.going;
          fit = stays_fit P old new sound stays q.job (λ tells. tapes tells q.job.reel.slot) (λ k is tells. tapes tells k) one.fit;
          on = one.on;
        });
    apart = fit.apart;
  }

  -- with a dump more, on a port of its own
  pub fits_more : (jobs jobs_then : List PoolJob) (job : JobFields) → FitsPool P jobs old → FitsJob P job new → job.phase ≢ phase.Over → (P.tells → IsOnPort job) → ((n : ℕ) (q : PoolJob) → slice_get jobs n ≡ Some q → AreApart q.job.port job.port)
      → jobs_then ≡ jobs ++ record { job = job; steps = 0; end = None } ∷ [] → FitsPool P jobs_then new
  fits_more jobs jobs_then job fit fits going on ports is = subst (λ (l : List PoolJob). FitsPool P l new) (sym is) (record { sound = sound; each = each; apart = apart })
    where
      one : PoolJob
      one = record { job = job; steps = 0; end = None }

      still : FitsPool P jobs new
      still = fits_still jobs fit

      each : (n : ℕ) (q : PoolJob) → slice_get (jobs ++ record { job = job; steps = 0; end = None } ∷ []) n ≡ Some q → q.end ≡ None → FitsOne P q new
      each n q at runs = elim (get_more jobs (record { job = job; steps = 0; end = None }) n q at) [
        | inl was ↦ still.each n q was.1 runs
        | inr own ↦ subst (λ (x : PoolJob). FitsOne P x new) own.1 (record { going = going; fit = fits; on = on })
      ]

      apart : P.tells → (n k : ℕ) (q r : PoolJob) → slice_get (jobs ++ record { job = job; steps = 0; end = None } ∷ []) n ≡ Some q → slice_get (jobs ++ record { job = job; steps = 0; end = None } ∷ []) k ≡ Some r → q.end ≡ None → r.end ≡ None → n ≢ k → AreApart q.job.port r.job.port
      apart tells n k q r at_n at_k run_q run_r other = elim (get_more jobs (record { job = job; steps = 0; end = None }) n q at_n) [
        | inl was ↦ elim (get_more jobs (record { job = job; steps = 0; end = None }) k r at_k) [
          | inl also ↦ fit.apart tells n k q r was.1 also.1 run_q run_r other
          | inr own ↦ subst (λ (x : PoolJob). AreApart q.job.port x.job.port) own.1 (ports n q was.1)
        ]
        | inr own ↦ elim (get_more jobs (record { job = job; steps = 0; end = None }) k r at_k) [
          | inl was ↦ subst (λ (x : PoolJob). AreApart x.job.port r.job.port) own.1 (apart_swap r.job.port job.port (ports k r was.1))
          | inr also ↦ absurd (other (own.0 ∙ sym also.0))
        ]
      ]

-- its volumes are good ones of the cell, as those of the others are
pub places_more : {E : Type 0} (C : Cell E) (site : E) (jobs jobs_then : List PoolJob) (job : JobFields) → HasAllPlaces C jobs site → HasPlaces C job.places site → jobs_then ≡ jobs ++ record { job = job; steps = 0; end = None } ∷ [] → HasAllPlaces C jobs_then site
places_more C site jobs jobs_then job all has is = subst (λ (l : List PoolJob). HasAllPlaces C l site) (sym is) each
  where
    each : (n : ℕ) (q : PoolJob) → slice_get (jobs ++ record { job = job; steps = 0; end = None } ∷ []) n ≡ Some q → q.end ≡ None → HasPlaces C q.job.places site
    each n q at runs = elim (get_more jobs (record { job = job; steps = 0; end = None }) n q at) [
      | inl was ↦ all n q was.1 runs
      | inr own ↦ subst (λ (x : PoolJob). HasPlaces C x.job.places site) own.1 has
    ]

-- and it goes to the port of its offset
pub ports_more : (config : Settings) (offset : ℕ) (jobs jobs_then : List PoolJob) (job : JobFields) → port_in offset config.entries ≡ Some job.port → jobs_then ≡ jobs ++ record { job = job; steps = 0; end = None } ∷ []
    → (n : ℕ) (q : PoolJob) → slice_get jobs_then n ≡ Some q → IsOldOrAt config offset jobs n q
ports_more config offset jobs jobs_then job port is n q at = elim (get_more jobs (record { job = job; steps = 0; end = None }) n q (subst (λ (l : List PoolJob). slice_get l n ≡ Some q) is at)) [
  | inl was ↦ inl was.1
  | inr own ↦ inr (subst (λ (x : PoolJob). port_in offset config.entries ≡ Some x.job.port) own.1 port)
]

-- ---- what became of the held dumps

get_last : (began : List Began) (one : Began) (i : ℕ) (x : Began) → slice_get (began ++ one ∷ []) i ≡ Some x → (slice_get began i ≡ Some x) ⊎ (one ≡ x)
get_last [] one zero x at = (let same : one ≡ x = cc in inr same)
get_last [] one (suc i) x at = absurd (cc)
get_last (b ∷ began) one zero x at = inl at
get_last (b ∷ began) one (suc i) x at = get_last began one i x at

-- one more of them is one of the pool, if it was begun
pub pool_more : (began began_then : List Began) (one : Began) (jobs jobs_then : List PoolJob) → AreOfPool began jobs → length jobs ≤ length jobs_then → ((n : ℕ) → one ≡ Runs n → n < length jobs_then) → began_then ≡ began ++ one ∷ [] → AreOfPool began_then jobs_then
pool_more began began_then one jobs jobs_then old more new is = λ i n at.
    elim (get_last began one i (Runs n) (subst (λ (l : List Began). slice_get l i ≡ Some (Runs n)) is at)) [
      | inl was ↦ (let low = old i n was in omega (arith, low, more))
      | inr own ↦ new n own
    ]

-- ---- an empty pool

pub no_get : (jobs : List PoolJob) (n : ℕ) (q : PoolJob) → jobs ≡ [] → slice_get jobs n ≡ Some q → ⊥
no_get [] n q empty at = cc
no_get (x ∷ jobs) n q empty at = cc

pub no_began : (began : List Began) (i : ℕ) (x : Began) → began ≡ [] → slice_get began i ≡ Some x → ⊥
no_began [] i x empty at = cc
no_began (b ∷ began) i x empty at = cc

pub none_fits : {D : Type 0} (P : Plant D) (plant : D) (jobs : List PoolJob) → P.sound plant → jobs ≡ [] → FitsPool P jobs plant
none_fits P plant jobs sound empty = record {
  sound = sound;
  each = λ n q at runs. absurd (no_get jobs n q empty at);
  apart = λ tells n k q r at_n at_k run_q run_r other. absurd (no_get jobs n q empty at_n);
}
