-- A dump that is begun runs.
use Rattle.std.proofs.Common.{◌≡◌, ◌⊎◌, ℕ, ◌+◌, ◌<◌, ◌≤◌, Bool, true, false, not, Option, Some, None, Ok, Err, List, [], ◌∷◌, length, refl, sym, ap, subst, ◌∙◌, arith, inl, inr}
use Rattle.std.specs.Prelude.{◌==◌, nat_le, nat_lt, if◌then◌else◌, Result, Contains, slice_get}
use Rattle.std.proofs.lemmas.Bool.{eqb-true, cases_Bool}
use Rattle.std.proofs.lemmas.Bool.Decides.{nat_tests}
use Rattle.std.proofs.lemmas.List.Elements.{All-nil}
use Rattle.tape_frames.specs.declared.frame.Frame.TheVariants as frames
use Rattle.tape_frames.specs.declared.dump_head.DumpHeadFields.{DumpHeadFields}
use Rattle.tape_frames.specs.TapeNames.{numbered}
use Rattle.budb_changes.specs.declared.change.Change.{Change}
use Rattle.budb_changes.specs.declared.change.Change.TheVariants.{Begin}
use Rattle.budb_changes.specs.declared.records.VolRecordFields.{VolRecordFields}
use Rattle.budb_changes.specs.declared.records.DumpRecordFields.{DumpRecordFields}
use Rattle.budb_changes.specs.Bytes.{encoded}
use Rattle.budb_changes.specs.Forms.{AreChanges}
use Rattle.budb_fold.specs.declared.database.Database.{Database}
use Rattle.budb_fold.specs.Database.{is_initial, without, after}
use Rattle.budb_fold.specs.Lookups.{record_of}
use Rattle.plant_core.specs.Crashes.{State, seen_in}
use Rattle.plant_core.specs.Effects.{commits, come}
use Rattle.tape_text.specs.Items.{Says}
use Rattle.tape_text.specs.Texts.{Tape}
use Rattle.tape_scan.specs.Slots.{Slot, IsClosedAt}
use Rattle.tape_choice.specs.declared.wanting.Wanting.{Wanting}
use Rattle.tape_choice.specs.declared.choosing.Chosen.{Chosen}
use Rattle.tape_choice.specs.Choice.{forgotten, chosen, choice_of}
use Rattle.tape_choice.specs.Reads.{label_in}
use Rattle.archive_model.specs.Archives.{Archive, listed_of}
use Rattle.archive_model.specs.Settled.{HoldsSettled, AreHeld}
use Rattle.archive_model.specs.Turns.{HasOwnHeads}
use Rattle.tape_scan.proofs.ListLaws.{of_filter}
use Rattle.archive_model.proofs.AfterLaws.{untouched_behind, taken_behind, above_all}
use Rattle.archive_model.proofs.GrowLaws.{ids_below, none_of_id}
use Rattle.archive_model.proofs.JobLaws.{remaining_among}
use Rattle.archive_model.proofs.ListedLaws.{parents_below}
use Rattle.archive_model.proofs.RecordLaws.{record_is_there}
use Rattle.archive_model.proofs.SlotLaws.{passes_none}
use Rattle.archive_model.proofs.StepLaws.{untouched_commit, take_commit}
use Rattle.dump_job.specs.declared.order.DumpOrder.{DumpOrder}
use Rattle.dump_job.specs.declared.first_tapes.FirstTape.{FirstTape}
use Rattle.dump_job.specs.declared.fault.JobFault.{JobFault}
use Rattle.dump_job.specs.declared.fault.JobFault.TheVariants.{LogFull, IdsSpent, CapacityTooSmall, NoTape}
use Rattle.tape_choice.specs.declared.places.Place.{Place}
use Rattle.tape_choice.specs.declared.places.Appending.{Appending}
use Rattle.tape_choice.specs.declared.places.Appending.TheVariants.{NoSet, NotFound, Found}
use Rattle.tape_choice.specs.Append.{appending}
use Rattle.dump_job.specs.declared.fields.JobFields.{JobFields}
use Rattle.dump_job.specs.declared.fields.Phase.TheVariants as phase
use Rattle.dump_job.specs.Reels.{has_room}
use Rattle.dump_job.specs.Beginning.{new_id, are_spent, wanting_of, new_label, taken_tape, taken_or_none, next_tape, tape_found, begin_changes, length_with, fresh, unless_spent, unless_refused, tape_passed, counts_at, place_tape, tape_behind, tape_within, tape_by, base_of, id_of, first_tape, begun_job}
use Rattle.dump_laws.specs.Writing.{IsEnded}
use Rattle.dump_laws.specs.Running.{basis_of, ParentFits, Goes, IsAppended, IsChosen, RunsIn}
use Rattle.dump_laws.specs.Keeping.{AreAllHeld}
use Rattle.dump_laws.specs.Beginning.{HeadsAreBelow, HasParent, TakenBy, begun_archive, begun_records, nothing_made}
use Rattle.dump_laws.proofs.ChosenLaws.{IsChosenOf, chosen_of, without_taken, holds_none}
use Rattle.dump_laws.proofs.Stepping.{runs_by}

-- ---- the id

id_above : (time greatest : ℕ) → time ≤ 4294967295 → greatest < 4294967295 → (greatest < new_id time greatest) × (time ≤ new_id time greatest)
id_above time greatest few more = (omega arith, omega arith)

pub heads_below : (slots : List Slot) (time greatest : ℕ) → time ≤ 4294967295 → greatest < 4294967295 → HeadsAreBelow slots time greatest → (k : ℕ) (s : Slot) (n : ℕ) (h : DumpHeadFields) → slice_get slots k ≡ Some s → slice_get s.items n ≡ Some (Says (frames.DumpHead h)) → h.id < new_id time greatest
heads_below slots time greatest few more below k s n h at is =
    let above = id_above time greatest few more in
    elim (below k s n h at is) [
      | inl known ↦ omega (arith, known, above.0)
      | inr earlier ↦ omega (arith, earlier, above.1)
    ]

-- ---- the commit

begun_held : (take : Option ℕ) (id : ℕ) (s : State) (a : Archive) (records : List DumpRecordFields) → HoldsSettled s a records → AreChanges (begin_changes id take) → HoldsSettled (come (commits (encoded (begin_changes id take)) ∷ []) s) (begun_archive id take a) (begun_records take a records)
begun_held None id s a records held forms = untouched_commit s a records (Begin id ∷ []) held forms (tt, tt)
begun_held (Some initial) id s a records held forms = take_commit s a records (Begin id ∷ []) initial held forms (tt, tt)

among_begun : (take : Option ℕ) (a : Archive) (records : List DumpRecordFields) (e : DumpRecordFields) → Contains (begun_records take a records) e → Contains records e
among_begun None a records e there = there
among_begun (Some initial) a records e there = remaining_among (without (is_initial initial) (listed_of a)) a.slots records e there

pub listed_begun : (take : Option ℕ) (id : ℕ) (a : Archive) → listed_of (begun_archive id take a) ≡ without_taken take (listed_of a)
listed_begun None id a = untouched_behind a.log (Begin id ∷ []) (tt, tt)
listed_begun (Some initial) id a = taken_behind a.log (Begin id ∷ []) initial (tt, tt)

begun_among : (take : Option ℕ) (id : ℕ) (a : Archive) (e : DumpRecordFields) → Contains (listed_of (begun_archive id take a)) e → Contains (listed_of a) e
begun_among None id a e there = subst (λ (l : List DumpRecordFields). Contains l e) (listed_begun None id a) there
begun_among (Some initial) id a e there = (of_filter (λ (d : DumpRecordFields). not (is_initial initial d)) (listed_of a) e (subst (λ (l : List DumpRecordFields). Contains l e) (listed_begun (Some initial) id a) there)).0

pub begun_whole : (a : Archive) (id : ℕ) (take : Option ℕ) → AreAllHeld (listed_of a) a.slots → AreAllHeld (listed_of (begun_archive id take a)) a.slots
begun_whole a id take all d there = all d (begun_among take id a d there)

-- ---- the parent

unequal : (a b : ℕ) → (a ≡ b → ⊥) → (a == b) ≡ false
unequal a b other = elim (cases_Bool (a == b)) [
  | inl same ↦ absurd (other (eqb-true a b same))
  | inr miss ↦ miss
]

no_zero : (log : List Change) → record_of (after log).listed 0 ≡ None
no_zero log = passes_none (λ (d : DumpRecordFields). d.id == 0) (after log).listed (λ d there. unequal d.id 0 (λ same. absurd (omega (arith, parents_below log d there, same))))

module _ (s : State) (a : Archive) (records : List DumpRecordFields) (held : HoldsSettled s a records) (o : DumpOrder) (few : o.time ≤ 4294967295) (more : (after a.log).greatest < 4294967295) (below : HeadsAreBelow a.slots o.time (after a.log).greatest) (parent : HasParent (listed_of a) o.parent)
    (tape : FirstTape) (forms : AreChanges (begin_changes (new_id o.time (after a.log).greatest) tape.take)) where
  abbrev its_id : ℕ
  its_id = new_id o.time (after a.log).greatest

  abbrev begun : JobFields
  begun = begun_job o (listed_of a) its_id tape

  abbrev begun_state : State
  begun_state = come (commits (encoded (begin_changes its_id tape.take)) ∷ []) s

  all_below : (e : DumpRecordFields) → Contains records e → e.id < its_id
  all_below = ids_below (seen_in s) a records its_id held.seen (heads_below a.slots o.time (after a.log).greatest few more below) (id_above o.time (after a.log).greatest few more).0

  parent_below : o.parent < its_id
  parent_below = elim parent [
    | inl none ↦ omega (arith, none, (id_above o.time (after a.log).greatest few more).0)
    | inr some ↦ (let under : some.0.id < its_id = all_below some.0 (held.seen.kept.dumps.complete some.0 (inl some.1)) in omega (arith, under, some.2))
  ]

  begun_parent : ParentFits (basis_of begun)
  begun_parent = record {
    below = parent_below;
    none = λ none. ap (record_of (listed_of a)) none ∙ no_zero a.log;
    some = λ p is. (record_is_there (listed_of a) o.parent p is).1;
  }

  pub begun_goes : (front : Tape) → Goes begun_state (begun_archive its_id tape.take a) (begun_records tape.take a records) begun (nothing_made front)
  begun_goes front = record {
    held = begun_held tape.take its_id s a records held forms;
    new = λ e there. above_all (seen_in s) a records its_id held.seen all_below e (among_begun tape.take a records e there);
    parent = begun_parent;
    ended = record { linked = tt; begins = tt; each = All-nil (IsEnded begun.head 0); next = tt; number = refl };
    filled = refl;
    closed = All-nil (IsClosedAt a.slots);
    settled = λ l there. absurd (omega (arith, there.1));
    apart = λ l there same. absurd (omega (arith, there.1));
    count = refl;
    volumes = record {
      some = All-nil (λ (v : VolRecordFields). 1 ≤ length v.frags);
      clones = omega arith;
      cloned = λ i v c at clone. absurd (cc);
      dumped = λ i v c at clone. absurd (cc);
    };
  }

  pub begun_own : HasOwnHeads a.slots [] its_id
  begun_own = none_of_id a.slots its_id (heads_below a.slots o.time (after a.log).greatest few more below)

  -- Behind its begin a dump runs, where its tape is chosen so.
  pub begun_runs : (front : Tape) (slot : Slot) → slice_get a.slots tape.reel.slot ≡ Some slot
      → IsChosen (begun_archive its_id tape.take a) begun front slot tape.label → RunsIn begun_state (begun_archive its_id tape.take a) (begun_records tape.take a records) begun (nothing_made front)
  begun_runs front slot at chosen_is =
      runs_by begun_state (begun_archive its_id tape.take a) (begun_records tape.take a records) begun (nothing_made front) phase.Tape refl (begun_goes front) (record {
        slot = slot;
        at = at;
        chosen = chosen_is;
        none = refl;
        own = begun_own;
        comes = record { ended = refl; fragments = refl; pieces = refl; volumes = refl; clones = refl };
      })

  pub begun_kept : AreHeld s (commits (encoded (begin_changes its_id tape.take)) ∷ []) (record { archive = a; records = records } ∷ record { archive = begun_archive its_id tape.take a; records = begun_records tape.take a records } ∷ [])
  begun_kept = (held, begun_held tape.take its_id s a records held forms)

-- ---- the tape that is taken

not_spent : (greatest : ℕ) → are_spent greatest ≡ false → greatest < 4294967295
not_spent greatest miss = grind (arith, nat_tests)

full_passed : (size : ℕ) (t u : FirstTape) (b : Bool) → (if b then Err (LogFull size) else Ok t) ≡ Ok u → t ≡ u
full_passed size t u true is = absurd (cc)
full_passed size t u false is = cc

spent_passed : (size greatest id : ℕ) (t u : FirstTape) → unless_spent size greatest id t ≡ Ok u → (t ≡ u) × (are_spent greatest ≡ false)
spent_passed size greatest id t u is = elim (cases_Bool (are_spent greatest)) [
  | inl hit ↦ absurd (let e : Err IdsSpent ≡ Ok u = rw hit at is in cc)
  | inr miss ↦ (full_passed (length_with size id t.take) t u (nat_lt 268435456 (length_with size id t.take)) (rw miss at is), miss)
]

refused_passed : (o : DumpOrder) (size greatest id : ℕ) (t u : FirstTape) → unless_refused o size greatest id t ≡ Ok u → (t ≡ u) × (are_spent greatest ≡ false)
refused_passed o size greatest id t u is = elim (cases_Bool (has_room 6 3 (fresh o.port))) [
  | inl hit ↦ spent_passed size greatest id t u (rw hit at is)
  | inr miss ↦ absurd (let e : Err CapacityTooSmall ≡ Ok u = rw miss at is in cc)
]

pub first_found : (o : DumpOrder) (size greatest id : ℕ) (r : Result FirstTape JobFault) (u : FirstTape) → tape_passed o size greatest id r ≡ Ok u → (r ≡ Ok u) × (greatest < 4294967295)
first_found o size greatest id (Ok t) u is = (let x = refused_passed o size greatest id t u is in (ap Ok x.0, not_spent greatest x.1))
first_found o size greatest id (Err fault) u is = absurd (cc)

by_choice : (initial : ℕ) (base : List ℕ) (number : ℕ) (c : Option Chosen) (t : FirstTape) → taken_or_none initial base number c ≡ Ok t → (x : Chosen) × (c ≡ Some x) × (taken_tape initial base number x ≡ t)
by_choice initial base number None t is = absurd (cc)
by_choice initial base number (Some x) t is = (x, refl, cc)

next_taken : (o : DumpOrder) (listed : List DumpRecordFields) (slots : List Slot) (initial : ℕ) (base : List ℕ) (number : ℕ) (t : FirstTape) → next_tape o listed slots initial base number ≡ Ok t → TakenBy o listed slots t
next_taken o listed slots initial base number t is = elim (cases_Bool (nat_le number 4294967295)) [
  | inl hit ↦
      (let x = by_choice initial base number (choice_of listed (chosen listed (wanting_of o listed initial (numbered base number)) o.port slots)) t (rw hit at is) in
      record { initial = initial; base = base; number = number; one = x.0; choice = x.1; is = x.2 })
  | inr miss ↦ absurd (let e : Err (NoTape (numbered base number)) ≡ Ok t = rw miss at is in cc)
]

behind_taken : (o : DumpOrder) (listed : List DumpRecordFields) (slots : List Slot) (p : Place) (t : FirstTape) → tape_behind o listed slots p ≡ Ok t → (t ≡ place_tape p) ⊎ TakenBy o listed slots t
behind_taken o listed slots p t is = elim (cases_Bool (has_room 5 2 (counts_at o.port p))) [
  | inl hit ↦ inl (let e : Ok (place_tape p) ≡ Ok t = rw hit at is in cc)
  | inr miss ↦ inr (next_taken o listed slots p.initial p.base (p.tape + 1) t (rw miss at is))
]

within_taken : (o : DumpOrder) (listed : List DumpRecordFields) (slots : List Slot) (id : ℕ) (p : Place) (t : FirstTape) → tape_within o listed slots id p ≡ Ok t → (t ≡ place_tape p) ⊎ TakenBy o listed slots t
within_taken o listed slots id p t is = elim (cases_Bool (nat_le p.initial id)) [
  | inl hit ↦ behind_taken o listed slots p t (rw hit at is)
  | inr miss ↦ absurd (let e : Err (NoTape (numbered p.base p.tape)) ≡ Ok t = rw miss at is in cc)
]

by_taken : (o : DumpOrder) (listed : List DumpRecordFields) (slots : List Slot) (id : ℕ) (x : Appending) (t : FirstTape) → tape_by o listed slots id x ≡ Ok t → ((p : Place) × (x ≡ Found p) × (t ≡ place_tape p)) ⊎ TakenBy o listed slots t
by_taken o listed slots id NoSet t is = absurd (cc)
by_taken o listed slots id (NotFound base tape) t is = absurd (cc)
by_taken o listed slots id (Found p) t is = elim (within_taken o listed slots id p t is) [
  | inl placed ↦ inl (p, refl, placed)
  | inr taken ↦ inr taken
]

-- The tape on which a dump begins is the place behind the last dump of its volume set, or one that is taken.
pub found_taken : (o : DumpOrder) (listed : List DumpRecordFields) (slots : List Slot) (whole : ℕ → Bool) (id : ℕ) (t : FirstTape) → tape_found o listed slots whole id ≡ Ok t → ((p : Place) × (appending listed o.set o.port whole slots ≡ Found p) × (t ≡ place_tape p)) ⊎ TakenBy o listed slots t
found_taken o listed slots whole id t is = elim (cases_Bool o.append) [
  | inl hit ↦ by_taken o listed slots id (appending listed o.set o.port whole slots) t (rw hit at is)
  | inr miss ↦ inr (next_taken o listed slots id (base_of o) 1 t (rw miss at is))
]

-- ---- a dump that begins on a tape that is taken

module _ (s : State) (a : Archive) (records : List DumpRecordFields) (held : HoldsSettled s a records) (o : DumpOrder) (few : o.time ≤ 4294967295) (more : (after a.log).greatest < 4294967295) (below : HeadsAreBelow a.slots o.time (after a.log).greatest) (parent : HasParent (listed_of a) o.parent) where
  on_taken : (initial : ℕ) (base : List ℕ) (number : ℕ) (c : Chosen) → choice_of (listed_of a) (chosen (listed_of a) (wanting_of o (listed_of a) initial (numbered base number)) o.port a.slots) ≡ Some c → (forms : AreChanges (begin_changes (new_id o.time (after a.log).greatest) c.take))
      → let id = new_id o.time (after a.log).greatest in
      RunsIn (come (commits (encoded (begin_changes id c.take)) ∷ []) s) (begun_archive id c.take a) (begun_records c.take a records) (begun_job o (listed_of a) id (taken_tape initial base number c)) (nothing_made (record { label = new_label initial base number c.label; parts = [] }))
  on_taken initial base number c choice forms =
      let id : ℕ = new_id o.time (after a.log).greatest in
      let w : Wanting = wanting_of o (listed_of a) initial (numbered base number) in
      let x : IsChosenOf (listed_of a) w a.slots c = chosen_of (listed_of a) w o.port a.slots c choice in
      let listed_then : listed_of (begun_archive id c.take a) ≡ without_taken (forgotten (listed_of a) (label_in x.slot.items)) (listed_of a) = listed_begun c.take id a ∙ ap (λ (t : Option ℕ). without_taken t (listed_of a)) x.take in
      begun_runs s a records held o few more below parent (taken_tape initial base number c) forms
      (record { label = new_label initial base number c.label; parts = [] }) x.slot x.at (record {
        blocks = refl;
        marks = refl;
        initial = refl;
        number = refl;
        name = refl;
        permanent = refl;
        free = λ d tape there held_it. holds_none (listed_of a) w x.slot.items d tape x.passes (subst (λ (l : List DumpRecordFields). Contains l d) listed_then there) held_it;
      })

  pub taken_runs : (tape : FirstTape) → TakenBy o (listed_of a) a.slots tape → AreChanges (begin_changes (new_id o.time (after a.log).greatest) tape.take)
      → let id = new_id o.time (after a.log).greatest in
      (front : Tape) × RunsIn (come (commits (encoded (begin_changes id tape.take)) ∷ []) s) (begun_archive id tape.take a) (begun_records tape.take a records) (begun_job o (listed_of a) id tape) (nothing_made front)
  taken_runs tape by forms =
      let id : ℕ = new_id o.time (after a.log).greatest in
      let front : Tape = record { label = new_label by.initial by.base by.number by.one.label; parts = [] } in
      let changes : AreChanges (begin_changes id by.one.take) = subst (λ (t : FirstTape). AreChanges (begin_changes id t.take)) (sym by.is) forms in (
        front,
        subst (λ (t : FirstTape). RunsIn (come (commits (encoded (begin_changes id t.take)) ∷ []) s) (begun_archive id t.take a) (begun_records t.take a records) (begun_job o (listed_of a) id t) (nothing_made front)) by.is
            (on_taken by.initial by.base by.number by.one by.choice changes),
      )

  -- one that is appended
  pub appended_runs : (p : Place) (front : Tape) (slot : Slot) → slice_get a.slots p.slot ≡ Some slot
      → let id = new_id o.time (after a.log).greatest in let tape = place_tape p in let job = begun_job o (listed_of a) id tape in
      AreChanges (begin_changes id None) → IsAppended (begun_archive id None a) job slot front → RunsIn (come (commits (encoded (begin_changes id None)) ∷ []) s) (begun_archive id None a) records job (nothing_made front)
  appended_runs p front slot at forms appended =
      let id : ℕ = new_id o.time (after a.log).greatest in
      begun_runs s a records held o few more below parent (place_tape p) forms front slot at appended

-- the tape on which a dump begins
pub first_taken : (a : Archive) (o : DumpOrder) (slots : List Slot) (whole : ℕ → Bool) (size : ℕ) (tape : FirstTape) → first_tape (after a.log) slots whole o size ≡ Ok tape
    → (((p : Place) × (appending (listed_of a) o.set o.port whole slots ≡ Found p) × (tape ≡ place_tape p)) ⊎ TakenBy o (listed_of a) slots tape) × ((after a.log).greatest < 4294967295)
first_taken a o slots whole size tape is =
    let db : Database = after a.log in
    let x = first_found o size db.greatest (id_of o db) (tape_found o db.listed slots whole (id_of o db)) tape is in
    (found_taken o db.listed slots whole (id_of o db) tape x.0, x.1)
