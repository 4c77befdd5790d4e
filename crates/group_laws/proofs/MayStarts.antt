-- EACH BEGIN OF A GROUP FINDS WHAT IT ASKS: it was checked at its moment as a dump alone is, and goes to a port of its own.
use Rattle.std.proofs.Common.{◌≡◌, ◌≢◌, ℕ, suc, ◌+◌, ◌-◌, ◌<◌, ◌≤◌, min, max, Bool, false, Option, Some, None, Ok, Err, List, [], ◌∷◌, length, refl, sym, ap, subst, ◌∙◌, arith, inl, inr}
use Rattle.std.specs.Prelude.{All, Result, slice_get, nat_le}
use Rattle.std.proofs.lemmas.Bool.{cases_Bool}
use Rattle.std.proofs.lemmas.List.Elements.{All-head, All-tail, All-append, All-push, All-weaker, All-contains}
use Rattle.byte_formats.specs.Forms.{IsFour}
use Rattle.cell_core.specs.Cells.{IsCell}
use Rattle.tape_config.specs.declared.port.PortFields.{PortFields}
use Rattle.tape_config.specs.Configs.{port_in}
use Rattle.tape_config.specs.Ports.{AreApart}
use Rattle.tape_frames.specs.TapeNames.{numbered}
use Rattle.tape_scan.specs.Slots.{Slot}
use Rattle.tape_answers.specs.Slots.{slots_of}
use Rattle.tape_choice.specs.declared.choosing.Chosen.{Chosen}
use Rattle.tape_choice.specs.Choice.{chosen, choice_of}
use Rattle.budb_changes.specs.declared.change.Change.{Change}
use Rattle.budb_changes.specs.declared.records.DumpRecordFields.{DumpRecordFields}
use Rattle.budb_changes.specs.Bytes.{encoded}
use Rattle.budb_changes.specs.Forms.{IsChange, AreChanges}
use Rattle.budb_fold.specs.Database.{after}
use Rattle.budb_fold.proofs.FoldKeeps.{kept_after}
use Rattle.budb.proofs.FoldForms.{forms_after}
use Rattle.dump_job.specs.declared.fault.JobFault.TheVariants.{NoTape}
use Rattle.dump_job.specs.declared.order.DumpOrder.{DumpOrder}
use Rattle.dump_job.specs.declared.first_tapes.FirstTape.{FirstTape}
use Rattle.dump_job.specs.Beginning.{wanting_of, taken_tape, taken_or_none, next_tape, tape_found, begin_changes, base_of, id_of}
use Rattle.dump_forms.specs.Forms.{HasForms}
use Rattle.dump_forms.proofs.BeginForms.{begin_forms}
use Rattle.dump_forms.proofs.SlotForms.{tapes_fit}
use Rattle.dump_laws.specs.Beginning.{HeadsAreBelow, HasParent, TakenBy}
use Rattle.dump_laws.proofs.BeginLaws.{first_found}
use Rattle.dump_courses.specs.Scenes.{Scene, database_in, slots_in, entries_in, whole_in}
use Rattle.backup_words.specs.declared.command.DumpCommand.{DumpCommand}
use Rattle.dump_commands.specs.Forms.{IsSceneForm, IsCommandForm}
use Rattle.dump_commands.specs.Refusals.{fault_of}
use Rattle.dump_commands.specs.Answers.{Contents, contents_with, tape_for}
use Rattle.dump_commands.specs.Starts.{Start, dump_start}
use Rattle.dump_commands.proofs.OrderForms.{asked}
use Rattle.dump_commands.proofs.Passing.{Passes as IsPassed, passes}
use Rattle.dump_archives.proofs.Clones.{in_list}
use Rattle.dump_archives.proofs.Contents.{grown_own}
use Rattle.dump_archives.proofs.Growing.{greatest_more}
use Rattle.dump_archives.proofs.Orders.{IsOrder, is_order, good_order}
use Rattle.job_pool.specs.declared.jobs.PoolJob.{PoolJob}
use Rattle.job_pool.specs.Pools.{PoolPoint, behind}
use Rattle.group_commands.specs.Groups.{IsHeld}
use Rattle.group_commands.specs.Begins.{id_in, job_in, start_event, scene_at, behind_begin, before_starts, starts_of, contents_behind}
use Rattle.pool_laws.specs.Grown.{HasGrown}
use Rattle.pool_laws.specs.Groups.{MayStart, MayAllStart}
use Rattle.pool_laws.specs.Underway.{IsGrown}
use Rattle.pool_laws.proofs.Grown.{dump_grown}
use Rattle.group_laws.specs.Forms.{ArePortsApart}
use Rattle.group_laws.proofs.Starts.{Passes, start_passes}
use Rattle.group_laws.proofs.HeldStarts.{scene_form_at}
use Rattle.group_laws.proofs.GroupContents.{top_in, top_begun, Ascend, later_same}

-- ---- its tape

by_choice : (initial : ℕ) (base : List ℕ) (number : ℕ) (c : Option Chosen) (t : FirstTape) → taken_or_none initial base number c ≡ Ok t → (x : Chosen) × (c ≡ Some x) × (taken_tape initial base number x ≡ t)
by_choice initial base number None t is = absurd (cc)
by_choice initial base number (Some x) t is = (x, refl, cc)

-- one that isn't appended takes its first tape
next_taken : (o : DumpOrder) (listed : List DumpRecordFields) (slots : List Slot) (initial : ℕ) (base : List ℕ) (number : ℕ) (t : FirstTape) → next_tape o listed slots initial base number ≡ Ok t → TakenBy o listed slots t
next_taken o listed slots initial base number t is = elim (cases_Bool (nat_le number 4294967295)) [
  | inl hit ↦
      (let x = by_choice initial base number (choice_of listed (chosen listed (wanting_of o listed initial (numbered base number)) o.port slots)) t (rw hit at is) in
      record { initial = initial; base = base; number = number; one = x.0; choice = x.1; is = x.2 })
  | inr miss ↦ absurd (let e : Err (NoTape (numbered base number)) ≡ Ok t = rw miss at is in cc)
]

found_fresh : (o : DumpOrder) (listed : List DumpRecordFields) (slots : List Slot) (whole : ℕ → Bool) (id : ℕ) (t : FirstTape) → o.append ≡ false → tape_found o listed slots whole id ≡ Ok t → TakenBy o listed slots t
found_fresh o listed slots whole id t fresh is = next_taken o listed slots id (base_of o) 1 t (rw fresh at is)

-- ---- its id

id_greater : (time greatest now : ℕ) → now ≡ time → time ≤ 4294967295 → greatest < 4294967295 → max greatest (time - 1) < min 4294967295 (max now (greatest + 1))
id_greater time greatest now same few less = omega (arith, same, few, less)

-- ---- what it finds

-- a listed dump has an id that was recorded
parent_low : (log : List Change) (parent : ℕ) → HasParent (after log).listed parent → parent ≤ (after log).greatest
parent_low log parent has = elim has [
  | inl none ↦ omega (arith, none)
  | inr listed ↦
      (let low : listed.0.id ≤ (after log).greatest = All-contains (λ (d : DumpRecordFields). d.id ≤ (after log).greatest) (after log).listed listed.0 (kept_after log).most listed.1 in
      omega (arith, low, listed.2))
]

-- its id is above all that are known at its moment
module _ (s : Scene) (p : PoolPoint) (few : IsFour s.time) (a : DumpCommand) (b : Start) (begun : Passes (scene_at s p) a b) where
  abbrev now : Scene
  now = scene_at s p

  found : (tape_found b.order (database_in now).listed (slots_in now) (whole_in now) (id_of b.order (database_in now)) ≡ Ok b.tape) × ((database_in now).greatest < 4294967295)
  unfolding tape_for
  found = first_found b.order (length (encoded now.log)) (database_in now).greatest (id_of b.order (database_in now)) (tape_found b.order (database_in now).listed (slots_in now) (whole_in now) (id_of b.order (database_in now))) b.tape begun.tape

  time_is : b.order.time ≡ s.time
  time_is = ap (λ (o : DumpOrder). o.time) begun.order

  above : top_in s.time p.log < id_in p.log b
  above = id_greater s.time (after p.log).greatest b.order.time time_is few found.1

-- what a begin asks, but for its contents and its port
module _ (s : Scene) (p : PoolPoint) (form : IsSceneForm (scene_at s p)) (a : DumpCommand) (command : IsCommandForm a) (b : Start) (begun : Passes (scene_at s p) a b) where
  ordered_so : IsOrder (scene_at s p) b.order
  ordered_so = subst (λ (o : DumpOrder). IsOrder (scene_at s p) o) (sym begun.order) (is_order (scene_at s p) form a begun.port command begun.asked)

  pass : IsPassed (entries_in (scene_at s p)) b.order (fault_of (tape_for (scene_at s p) b.order))
  pass = passes (entries_in (scene_at s p)) b.order (fault_of (tape_for (scene_at s p) b.order)) begun.none

  formed : AreChanges (begin_changes (id_in p.log b) b.tape.take) × HasForms (job_in p.log b)
  unfolding tape_for
  formed = begin_forms b.order (database_in (scene_at s p)) (slots_in (scene_at s p)) (whole_in (scene_at s p)) (length (encoded p.log)) b.tape ordered_so.form pass.some (forms_after p.log form.log).listed (tapes_fit s.slots s.present p.state.tape) begun.tape

  fresh_so : a.append ≡ false → b.order.append ≡ false
  fresh_so fresh = ap (λ (o : DumpOrder). o.append) begun.order ∙ fresh

  may_start : a.append ≡ false → HeadsAreBelow (slots_of s.slots s.present p.state.tape) s.time (after p.log).greatest → (top : ℕ) → top ≤ top_in s.time p.log → (grown : Contents) → IsGrown s s.time grown (job_in p.log b)
      → ((n : ℕ) (q : PoolJob) → slice_get p.jobs n ≡ Some q → AreApart q.job.port b.order.port) → MayStart s s.time top grown p b
  may_start fresh heads top low grown is_grown ports = record {
    few = ordered_so.form.time;
    unspent = (found s p form.time a b begun).1;
    heads = subst (λ (n : ℕ). HeadsAreBelow (slots_of s.slots s.present p.state.tape) n (after p.log).greatest) (sym ordered_so.time) heads;
    parent = ordered_so.parent;
    greater = (let high = above s p form.time a b begun in omega (arith, low, high));
    taken = found_fresh b.order (after p.log).listed (slots_in (scene_at s p)) (whole_in (scene_at s p)) (id_in p.log b) b.tape (fresh_so fresh) (found s p form.time a b begun).0;
    changes = formed.0;
    forms = formed.1;
    good = good_order (scene_at s p) b.order ordered_so pass.good;
    time_is = ordered_so.time;
    is_grown = is_grown;
    ports = ports;
  }

  -- the contents behind all begins are grown for it
  grown_for : IsCell s.cell → (starts : List Start) (contents : Contents) → Ascend s.time (behind p (start_event p b)) starts → IsGrown s s.time (contents_behind s p (b ∷ starts) contents) (job_in p.log b)
  grown_for is_cell starts contents ascend =
      let all : Ascend s.time p (b ∷ starts) = (above s p form.time a b begun, ascend) in
      let parent : b.order.parent ≤ (after p.log).greatest = parent_low p.log b.order.parent ordered_so.parent in
      let has : HasGrown (scene_at s p) b.order (id_in p.log b) contents (contents_behind s p (b ∷ starts) contents) = record {
        own = λ name. later_same s starts (behind p (start_event p b)) (contents_with (scene_at s p) b.order contents) (id_in p.log b) name ascend (top_begun s.time p b) ∙ grown_own (scene_at s p) b.order contents name;
        above = λ name. later_same s (b ∷ starts) p contents b.order.parent name all (omega (arith, parent));
      } in
      subst (λ (n : ℕ). IsGrown s n (contents_behind s p (b ∷ starts) contents) (job_in p.log b)) ordered_so.time
      (dump_grown (scene_at s p) b.order contents (contents_behind s p (b ∷ starts) contents) is_cell (job_in p.log b) has refl refl refl)

-- ---- one begin after the other

ascend_by : (s : Scene) (few : IsFour s.time) (p : PoolPoint) (a : DumpCommand) (held : List DumpCommand) → ((q : PoolPoint) → Ascend s.time q (starts_of s q held)) → (r : Result Start (List ℕ)) → dump_start (scene_at s p) a ≡ r
    → Ascend s.time p (before_starts r (starts_of s (behind_begin p r) held))
ascend_by s few p a held rest (Err text) is = rest p
ascend_by s few p a held rest (Ok b) is = (above s p few a b (start_passes (scene_at s p) a b is), rest (behind p (start_event p b)))

-- ids ascend
pub all_ascend : (s : Scene) → IsFour s.time → (held : List DumpCommand) (p : PoolPoint) → Ascend s.time p (starts_of s p held)
all_ascend s few [] p = tt
all_ascend s few (a ∷ held) p = ascend_by s few p a held (λ q. all_ascend s few held q) (dump_start (scene_at s p) a) refl

-- what is so of held dumps: none is appended, each has its forms, and no two go to one port
pub record AreHeld (held : List DumpCommand) : Type 0 where
  pub each : (n : ℕ) (a : DumpCommand) → slice_get held n ≡ Some a → IsHeld a
  pub ports : (n k : ℕ) (a b : DumpCommand) → slice_get held n ≡ Some a → slice_get held k ≡ Some b → n ≢ k → a.offset ≢ b.offset
  pub commands : All IsCommandForm held

rest_held : (a : DumpCommand) (held : List DumpCommand) → AreHeld (a ∷ held) → AreHeld held
rest_held a held are = record {
  each = λ n b at. are.each (suc n) b at;
  ports = λ n k b c at_n at_k other. are.ports (suc n) (suc k) b c at_n at_k (λ same. other (omega (arith, same)));
  commands = All-tail IsCommandForm a held are.commands;
}

-- a port of the configuration, to which none of these goes
abbrev IsOtherPort : Scene → List DumpCommand → PortFields → Type 0
IsOtherPort s held port = (offset : ℕ) × (port_in offset s.config.entries ≡ Some port) × ((k : ℕ) (a : DumpCommand) → slice_get held k ≡ Some a → offset ≢ a.offset)

abbrev GoesElsewhere : Scene → List DumpCommand → PoolJob → Type 0
GoesElsewhere s held q = IsOtherPort s held q.job.port

-- the same of fewer that are held
fewer_elsewhere : (s : Scene) (a : DumpCommand) (held : List DumpCommand) (jobs : List PoolJob) → All (GoesElsewhere s (a ∷ held)) jobs → All (GoesElsewhere s held) jobs
fewer_elsewhere s a held jobs all = All-weaker (GoesElsewhere s (a ∷ held)) (GoesElsewhere s held) (λ q other. (other.0, other.1, λ k c at. other.2 (suc k) c at)) jobs all

-- What is so at a moment between two begins, where these dumps are held yet: the journal can be written, no head is above the ids that are
-- known, and those that were begun go to ports of their own.
pub record IsMoment (s : Scene) (held : List DumpCommand) (p : PoolPoint) : Type 0 where
  pub log : AreChanges p.log
  pub heads : HeadsAreBelow (slots_of s.slots s.present p.state.tape) s.time (after p.log).greatest
  pub ports : All (GoesElsewhere s held) p.jobs

module _ (s : Scene) (form : IsSceneForm s) (is_cell : IsCell s.cell) (apart : ArePortsApart s.config.entries) where
  -- a dump that is refused leaves all as it was
  refused_moment : (a : DumpCommand) (held : List DumpCommand) (p : PoolPoint) → IsMoment s (a ∷ held) p → IsMoment s held p
  refused_moment a held p m = record {
    log = m.log;
    heads = m.heads;
    ports = fewer_elsewhere s a held p.jobs m.ports;
  }

  module _ (a : DumpCommand) (held : List DumpCommand) (are : AreHeld (a ∷ held)) (p : PoolPoint) (m : IsMoment s (a ∷ held) p) (b : Start) (begun : Passes (scene_at s p) a b) where
    abbrev next : PoolPoint
    next = behind p (start_event p b)

    command : IsCommandForm a
    command = All-head IsCommandForm a held are.commands

    port_there : port_in a.offset s.config.entries ≡ Some b.order.port
    port_there = asked s.config (after p.log) a begun.port begun.asked ∙ ap (λ (o : DumpOrder). Some o.port) (sym begun.order)

    ports_apart : (n : ℕ) (q : PoolJob) → slice_get p.jobs n ≡ Some q → AreApart q.job.port b.order.port
    ports_apart n q at = (let other = All-contains (GoesElsewhere s (a ∷ held)) p.jobs q m.ports (in_list p.jobs n q at) in apart other.0 a.offset q.job.port b.order.port (other.2 0 a refl) other.1 port_there)

    heads_then : HeadsAreBelow (slots_of s.slots s.present p.state.tape) s.time (after next.log).greatest
    heads_then k x n h at is = elim (m.heads k x n h at is) [
      | inl low ↦ inl (let more = greatest_more p.log (start_event p b).changes in omega (arith, low, more))
      | inr past ↦ inr past
    ]

    ports_then : All (GoesElsewhere s held) next.jobs
    ports_then =
        All-push (GoesElsewhere s held) p.jobs (record { job = job_in p.log b; steps = 0; end = None }) (fewer_elsewhere s a held p.jobs m.ports)
        (a.offset, port_there, λ k c at. are.ports 0 (suc k) a c refl at (λ same. absurd (omega (arith, same))))

    -- behind its begin the rest of them finds the next moment
    begun_moment : IsMoment s held next
    begun_moment = record {
      log = All-append IsChange p.log (start_event p b).changes m.log (formed s p (scene_form_at s p form m.log) a command b begun).0;
      heads = heads_then;
      ports = ports_then;
    }

    begun_may : (top : ℕ) → top ≤ top_in s.time p.log → (contents : Contents) → let starts = starts_of s next held in MayStart s s.time top (contents_behind s p (b ∷ starts) contents) p b
    begun_may top low contents =
        let starts : List Start = starts_of s next held in
        may_start s p (scene_form_at s p form m.log) a command b begun (are.each 0 a refl).fresh m.heads top low (contents_behind s p (b ∷ starts) contents)
        (grown_for s p (scene_form_at s p form m.log) a command b begun is_cell starts contents (all_ascend s form.time held next)) ports_apart

  -- so many of them, with the contents that all begins make
  abbrev May : List DumpCommand → PoolPoint → ℕ → Contents → Type 0
  May held p top contents = MayAllStart s s.time top (contents_behind s p (starts_of s p held) contents) p (starts_of s p held)

  may_by : (a : DumpCommand) (held : List DumpCommand) → AreHeld (a ∷ held) → ((q : PoolPoint) (top : ℕ) (contents : Contents) → IsMoment s held q → top ≤ top_in s.time q.log → May held q top contents) → (p : PoolPoint) (top : ℕ) (contents : Contents)
      → IsMoment s (a ∷ held) p → top ≤ top_in s.time p.log → (r : Result Start (List ℕ)) → dump_start (scene_at s p) a ≡ r
      → let starts = before_starts r (starts_of s (behind_begin p r) held) in MayAllStart s s.time top (contents_behind s p starts contents) p starts
  may_by a held are rest p top contents m low (Err text) is = rest p top contents (refused_moment a held p m) low
  may_by a held are rest p top contents m low (Ok b) is =
      let begun : Passes (scene_at s p) a b = start_passes (scene_at s p) a b is in (
        begun_may a held are p m b begun top low contents,
        rest (behind p (start_event p b)) (id_in p.log b) (contents_with (scene_at s p) b.order contents) (begun_moment a held are p m b begun) (top_begun s.time p b),
      )

  -- EACH OF THEM MAY BEGIN behind those before it.
  pub may_all : (held : List DumpCommand) → AreHeld held → (p : PoolPoint) (top : ℕ) (contents : Contents) → IsMoment s held p → top ≤ top_in s.time p.log → May held p top contents
  may_all [] are p top contents m low = tt
  may_all (a ∷ held) are p top contents m low =
      may_by a held are (λ q high more moment less. may_all held (rest_held a held are) q high more moment less) p top contents m low (dump_start (scene_at s p) a) refl
