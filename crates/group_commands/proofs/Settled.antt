-- What is settled behind the event of one of several dumps.
use Rattle.std.proofs.Common.{◌≡◌, ℕ, true, false, List, [], ◌∷◌, ◌++◌, length, take, refl, sym, ap, subst, ◌∙◌, inl, inr}
use Rattle.std.specs.Prelude.{◌==◌, if◌then◌else◌}
use Rattle.std.proofs.lemmas.Bool.{cases_Bool, eqb-true, eq-eqb}
use Rattle.plant_core.specs.Records.{Record}
use Rattle.plant_core.specs.Crashes.{State, IsSettled}
use Rattle.plant_core.specs.Effects.{Effect, commits, replaces, tells, puts, settles, cuts, comes, come}
use Rattle.dump_job.specs.declared.fields.JobFields.{JobFields}
use Rattle.dump_job.specs.declared.fields.Phase.{Phase}
use Rattle.dump_job.specs.declared.fields.Phase.TheVariants as phase
use Rattle.dump_job.specs.Events.{Around, event}
use Rattle.dump_courses.specs.Settled.{IsSettledBut, IsSettledAt, IsSettledFor}
use Rattle.dump_courses.proofs.SettledCourses.{event_settled}
use Rattle.group_commands.specs.Settled.{MayWait}
use Rattle.group_commands.proofs.Effects.{unequal}

-- ---- states that agree on one tape and on the log

pub record AgreeAt (c : ℕ) (s t : State) : Type 0 where
  pub tape : t.tape c ≡ s.tape c
  pub settled : t.settled c ≡ s.settled c
  pub log : t.log ≡ s.log
  pub log_settled : t.log_settled ≡ s.log_settled

agree_comes : (c : ℕ) (e : Effect) (s t : State) → AgreeAt c s t → AgreeAt c (comes e s) (comes e t)
agree_comes c (commits bytes) s t a = record { tape = a.tape; settled = a.settled; log = ap (λ (l : List ℕ). l ++ bytes) a.log; log_settled = ap (λ (l : List ℕ). length (l ++ bytes)) a.log }
agree_comes c (replaces bytes) s t a = record { tape = a.tape; settled = a.settled; log = refl; log_settled = refl }
agree_comes c (tells text) s t a = record { tape = a.tape; settled = a.settled; log = a.log; log_settled = a.log_settled }
agree_comes c (puts k r) s t a = record { tape = ap (λ (l : List Record). if c == k then l ++ r ∷ [] else l) a.tape; settled = a.settled; log = a.log; log_settled = a.log_settled }
agree_comes c (settles k) s t a = record { tape = a.tape; settled = λ i. if c == k then length (a.tape i) else a.settled i; log = a.log; log_settled = a.log_settled }
agree_comes c (cuts k n) s t a = record {
  tape = ap (λ (l : List Record). if c == k then take n l else l) a.tape;
  settled = λ i. if c == k then length (take n (a.tape i)) else a.settled i;
  log = a.log;
  log_settled = a.log_settled;
}

agree_come : (c : ℕ) (es : List Effect) (s t : State) → AgreeAt c s t → AgreeAt c (come es s) (come es t)
agree_come c [] s t a = a
agree_come c (e ∷ es) s t a = agree_come c es (comes e s) (comes e t) (agree_comes c e s t a)

-- the same state, in which all is settled but on one tape
abbrev rest_settled : ℕ → State → State
rest_settled c s = record s { settled = λ k. if k == c then s.settled k else length (s.tape k) }

rest_agrees : (c : ℕ) (s : State) → AgreeAt c s (rest_settled c s)
rest_agrees c s = (let hit : (c == c) ≡ true = eq-eqb c c refl in record { tape = refl; settled = rw hit refl; log = refl; log_settled = refl })

rest_but : (c : ℕ) (s : State) → s.log_settled ≡ length s.log → IsSettledBut c (rest_settled c s)
rest_but c s log = record { log = log; tapes = λ k other. (let miss : (k == c) ≡ false = unequal k c other in rw miss refl) }

rest_all : (c : ℕ) (s : State) → s.log_settled ≡ length s.log → s.settled c ≡ length (s.tape c) → IsSettled (rest_settled c s)
rest_all c s log own = record {
  log = log;
  tapes = λ k. elim (cases_Bool (k == c)) [
    | inl hit ↦ (let same : k ≡ c = eqb-true k c hit in let at : s.settled k ≡ length (s.tape k) = subst (λ (n : ℕ). s.settled n ≡ length (s.tape n)) (sym same) own in rw hit at)
    | inr miss ↦ rw miss refl
  ];
}

-- before an event: the tape in hand is settled where nothing may wait on it
rest_for : (p : Phase) (c : ℕ) (s : State) → s.log_settled ≡ length s.log → ((MayWait p → ⊥) → s.settled c ≡ length (s.tape c)) → IsSettledAt p c (rest_settled c s)
rest_for phase.Tape c s log own = rest_all c s log (own (λ waits. waits))
rest_for phase.Clone c s log own = rest_but c s log
rest_for phase.Head c s log own = rest_but c s log
rest_for phase.Piece c s log own = rest_but c s log
rest_for phase.VolumeEnd c s log own = rest_but c s log
rest_for phase.PartEnd c s log own = rest_but c s log
rest_for phase.DumpEnd c s log own = rest_but c s log
rest_for phase.Over c s log own = rest_all c s log (own (λ waits. waits))

-- behind it: so is the tape that was in hand, where nothing may wait on it any more
own_at : (p : Phase) (slot c : ℕ) (s : State) → IsSettledAt p slot s → (MayWait p → slot ≡ c → ⊥) → s.settled c ≡ length (s.tape c)
own_at phase.Tape slot c s is free = is.tapes c
own_at phase.Clone slot c s is free = is.tapes c (λ same. free tt (sym same))
own_at phase.Head slot c s is free = is.tapes c (λ same. free tt (sym same))
own_at phase.Piece slot c s is free = is.tapes c (λ same. free tt (sym same))
own_at phase.VolumeEnd slot c s is free = is.tapes c (λ same. free tt (sym same))
own_at phase.PartEnd slot c s is free = is.tapes c (λ same. free tt (sym same))
own_at phase.DumpEnd slot c s is free = is.tapes c (λ same. free tt (sym same))
own_at phase.Over slot c s is free = is.tapes c

log_at : (p : Phase) (slot : ℕ) (s : State) → IsSettledAt p slot s → s.log_settled ≡ length s.log
log_at phase.Tape slot s is = is.log
log_at phase.Clone slot s is = is.log
log_at phase.Head slot s is = is.log
log_at phase.Piece slot s is = is.log
log_at phase.VolumeEnd slot s is = is.log
log_at phase.PartEnd slot s is = is.log
log_at phase.DumpEnd slot s is = is.log
log_at phase.Over slot s is = is.log

module _ (a : Around) (j : JobFields) (s : State) (log : s.log_settled ≡ length s.log) (own : (MayWait j.phase → ⊥) → s.settled j.reel.slot ≡ length (s.tape j.reel.slot)) where
  abbrev c : ℕ
  c = j.reel.slot

  abbrev then_state : State
  then_state = come (event a j).effects s

  there : IsSettledFor (event a j).job (come (event a j).effects (rest_settled c s))
  there = event_settled a j (rest_settled c s) (rest_for j.phase c s log own)

  agrees : AgreeAt c then_state (come (event a j).effects (rest_settled c s))
  agrees = agree_come c (event a j).effects s (rest_settled c s) (rest_agrees c s)

  pub own_settled : (MayWait (event a j).job.phase → (event a j).job.reel.slot ≡ c → ⊥) → then_state.settled c ≡ length (then_state.tape c)
  own_settled free = sym agrees.settled ∙ own_at (event a j).job.phase (event a j).job.reel.slot c (come (event a j).effects (rest_settled c s)) there free ∙ ap length agrees.tape

  pub log_stays_settled : then_state.log_settled ≡ length then_state.log
  log_stays_settled = sym agrees.log_settled ∙ log_at (event a j).job.phase (event a j).job.reel.slot (come (event a j).effects (rest_settled c s)) there ∙ ap length agrees.log
