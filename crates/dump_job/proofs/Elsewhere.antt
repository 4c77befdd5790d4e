-- What an event does: it is on the tape in hand and on the log alone, and leaves the dump on its port.
use Rattle.std.proofs.Common.{◌≡◌, ℕ, Bool, true, false, Option, Some, None, List, [], ◌∷◌, ◌++◌, take, refl, ◌∙◌, inl, inr, sym, ap, subst}
use Rattle.std.specs.Prelude.{◌≢◌, if◌then◌else◌, ◌==◌, ◌+◌, slice_get, ◌&&◌, nat_le, find, Contains, length, Result, Ok, Err, OnOk, OnErr, map}
use Rattle.std.proofs.lemmas.Bool.{cases_Bool, eqb-true, and_parts, leb-true}
use Rattle.vnode_model.specs.declared.listed.VolEntry.{VolEntry}
use Rattle.cell_core.specs.declared.stored.Stored.{Stored}
use Rattle.cell_core.specs.declared.stored.Taken.{Taken}
use Rattle.cell_core.specs.Calls.{entry_at, clone_at}
use Rattle.plant_core.specs.Crashes.{State}
use Rattle.plant_core.specs.Effects.{Effect, commits, replaces, tells, puts, settles, cuts, comes, come}
use Rattle.tape_text.specs.Items.{Item, Says, Filemark, Nothing}
use Rattle.tape_writer.specs.Puts.{put_on, puts_on}
use Rattle.budb_changes.specs.declared.change.Change.{Change}
use Rattle.tape_choice.specs.declared.choosing.Chosen.{Chosen}
use Rattle.dump_job.specs.declared.fields.Hand.{Hand}
use Rattle.dump_job.specs.declared.fields.JobFields.{JobFields}
use Rattle.dump_job.specs.declared.fields.Phase.{Phase}
use Rattle.dump_job.specs.declared.fields.Phase.TheVariants as phase
use Rattle.dump_job.specs.Reels.{counts_on, has_room}
use Rattle.dump_job.specs.Taping.{uses_for, tape_items, reel_begun, taped}
use Rattle.dump_job.specs.Cloning.{volumes_done}
use Rattle.dump_job.specs.Volumes.{head_items, piece_items, end_items, volume_ended}
use Rattle.dump_job.specs.Ending.{part_end_items, closed_part}
use Rattle.dump_job.specs.Passing.{next_choice, may_go_on, next_wanting, next_changes, part_passed, part_refused}
use Rattle.dump_job.specs.Closing.{committing, is_too_long, done_changes, dump_ended}
use Rattle.dump_job.specs.Events.{Around, Event, putting, items_at, clone_by, clone_from, part_end_by, head_event, piece_event, hand_event, event_by, event}
use Rattle.std.proofs.lemmas.List.Elements.{Contains-push_cases}
use Rattle.tape_config.specs.declared.port.PortFields.{PortFields}
use Rattle.tape_frames.specs.declared.label.LabelFields.{LabelFields}
use Rattle.budb_changes.specs.declared.records.DumpRecordFields.{DumpRecordFields}
use Rattle.tape_scan.specs.Slots.{Slot}
use Rattle.tape_choice.specs.declared.wanting.Wanting.{Wanting}
use Rattle.tape_choice.specs.Choice.{is_among, slot_passes, chosen, taking, choice_of}
use Rattle.archive_model.specs.Holding.{numbered_from}
use Rattle.plant_core.specs.declared.plant.Plant.{Ghosts as Plant}
use Rattle.plant_effects.specs.Runs.{state_of, Done}
use Rattle.tape_scan.specs.Looking.{Loads}
use Rattle.budb.specs.Views.{BudbView}
use Rattle.dump_job.specs.declared.answer.StepAnswer.{StepAnswer}
use Rattle.dump_job.specs.declared.answer.StepAnswer.TheVariants as answers
use Rattle.dump_job.specs.declared.cloning.CloneFault.{CloneFault}
use Rattle.dump_job.specs.Faults.{DoneBehindLoads}
use Rattle.dump_job.specs.Cloning.{Clones}
use Rattle.dump_job.specs.Stepping.{HasStepped, IsIdle, Does}
use Rattle.tape_config.specs.Ports.{IsAmong}
use Rattle.dump_job.specs.Elsewhere.{IsOnPort, LeavesOthers}
use Rattle.dump_job.specs.declared.fields.Filled.{Filled}
use Rattle.dump_job.specs.declared.fields.Reel.{Reel}

pub unequal : (a b : ℕ) → (a ≡ b → ⊥) → (a == b) ≡ false
unequal a b other = elim (cases_Bool (a == b)) [
  | inl same ↦ absurd (other (eqb-true a b same))
  | inr unlike ↦ unlike
]

-- each of these effects is a commit, or on the tape of this slot
abbrev pub AreOn : ℕ → List Effect → Type 0
AreOn k [] = Unit {0}
AreOn k (commits bytes ∷ es) = AreOn k es
AreOn k (replaces bytes ∷ es) = ⊥
AreOn k (tells text ∷ es) = ⊥
AreOn k (puts j r ∷ es) = (j ≡ k) × AreOn k es
AreOn k (settles j ∷ es) = (j ≡ k) × AreOn k es
AreOn k (cuts j n ∷ es) = (j ≡ k) × AreOn k es

-- ---- other tapes stay

pub stays_elsewhere : (k : ℕ) (es : List Effect) (s : State) → AreOn k es → (q : ℕ) → (q ≡ k → ⊥) → ((come es s).tape q ≡ s.tape q) × ((come es s).settled q ≡ s.settled q)
stays_elsewhere k [] s on q other = (refl, refl)
stays_elsewhere k (commits bytes ∷ es) s on q other = stays_elsewhere k es (comes (commits bytes) s) on q other
stays_elsewhere k (replaces bytes ∷ es) s on q other = absurd on
stays_elsewhere k (tells text ∷ es) s on q other = absurd on
stays_elsewhere k (puts j r ∷ es) s (same, on) q other =
    let rest = stays_elsewhere k es (comes (puts j r) s) on q other in
    let miss : (q == j) ≡ false = unequal q j (λ is. other (is ∙ same)) in
    let one : (comes (puts j r) s).tape q ≡ s.tape q = rw miss refl in
    (rest.0 ∙ one, rest.1)
stays_elsewhere k (settles j ∷ es) s (same, on) q other =
    let rest = stays_elsewhere k es (comes (settles j) s) on q other in
    let miss : (q == j) ≡ false = unequal q j (λ is. other (is ∙ same)) in
    let one : (comes (settles j) s).settled q ≡ s.settled q = rw miss refl in
    (rest.0, rest.1 ∙ one)
stays_elsewhere k (cuts j n ∷ es) s (same, on) q other =
    let rest = stays_elsewhere k es (comes (cuts j n) s) on q other in
    let miss : (q == j) ≡ false = unequal q j (λ is. other (is ∙ same)) in
    let one : (comes (cuts j n) s).tape q ≡ s.tape q = rw miss refl in
    let two : (comes (cuts j n) s).settled q ≡ s.settled q = rw miss refl in
    (rest.0 ∙ one, rest.1 ∙ two)

-- ---- what an event does

joined_on : (k : ℕ) (es fs : List Effect) → AreOn k es → AreOn k fs → AreOn k (es ++ fs)
joined_on k [] fs a b = b
joined_on k (commits bytes ∷ es) fs a b = joined_on k es fs a b
joined_on k (replaces bytes ∷ es) fs a b = absurd a
joined_on k (tells text ∷ es) fs a b = absurd a
joined_on k (puts j r ∷ es) fs a b = (a.0, joined_on k es fs a.1 b)
joined_on k (settles j ∷ es) fs a b = (a.0, joined_on k es fs a.1 b)
joined_on k (cuts j n ∷ es) fs a b = (a.0, joined_on k es fs a.1 b)

put_is_on : (k : ℕ) (i : Item) → AreOn k (put_on k i)
put_is_on k (Says f) = (refl, tt)
put_is_on k Filemark = (refl, (refl, tt))
put_is_on k Nothing = (refl, tt)

puts_are_on : (k : ℕ) (items : List Item) → AreOn k (puts_on k items)
unfolding puts_on
puts_are_on k [] = tt
puts_are_on k (i ∷ is) = joined_on k (put_on k i) (puts_on k is) (put_is_on k i) (puts_are_on k is)

committing_is_on : (k : ℕ) (changes : List Change) → AreOn k (committing changes)
committing_is_on k [] = tt
committing_is_on k (c ∷ cs) = tt

closing_is_on : (k : ℕ) (items : List Item) (changes : List Change) → AreOn k (puts_on k items ++ committing changes)
closing_is_on k items changes = joined_on k (puts_on k items) (committing changes) (puts_are_on k items) (committing_is_on k changes)

clone_by_on : (k : ℕ) (e : Option VolEntry) (c : Option Taken) (j : JobFields) → AreOn k (clone_by e c j).effects
clone_by_on k None c j = tt
clone_by_on k (Some e) None j = tt
clone_by_on k (Some e) (Some c) j = tt

clone_on : (k : ℕ) (cell : List Stored) (o : Option ℕ) (j : JobFields) → AreOn k (clone_from cell o j).effects
clone_on k cell None j = tt
clone_on k cell (Some place) j = clone_by_on k (entry_at cell place) (clone_at cell place j.time) j

part_on : (cut : Bool) (o : Option Chosen) (size : ℕ) (j : JobFields) → AreOn j.reel.slot (part_end_by cut o size j).effects
part_on cut None size j = puts_are_on j.reel.slot (part_end_items 1 j)
part_on cut (Some c) size j = closing_is_on j.reel.slot (part_end_items 1 j) (part_end_by cut (Some c) size j).changes

hand_on : (step : Hand → Event) (hand : Option Hand) (j : JobFields) → ((h : Hand) → AreOn j.reel.slot (step h).effects) → AreOn j.reel.slot (hand_event step hand j).effects
hand_on step None j each = tt
hand_on step (Some h) j each = each h

head_on : (room : Bool) (a : Around) (h : Hand) (j : JobFields) → has_room 4 2 (counts_on j.port j.reel) ≡ room → AreOn j.reel.slot (head_event a h j).effects
head_on true a h j room = rw room (puts_are_on j.reel.slot (head_items h))
head_on false a h j room = rw room (part_on false (next_choice a.listed a.slots j) a.log_size j)

piece_on : (room : Bool) (h : Hand) (j : JobFields) → has_room 3 2 (counts_on j.port j.reel) ≡ room → AreOn j.reel.slot (piece_event h j).effects
piece_on true h j room = rw room (puts_are_on j.reel.slot (piece_items h))
piece_on false h j room = rw room (puts_are_on j.reel.slot (end_items 0 h))

phase_on : (p : Phase) (a : Around) (j : JobFields) → AreOn j.reel.slot (event_by p a j).effects
phase_on phase.Tape a j = (refl, puts_are_on j.reel.slot (tape_items (uses_for j (items_at a.slots j.reel.slot)) j))
phase_on phase.Clone a j = clone_on j.reel.slot a.cell (slice_get j.places (length (volumes_done j))) j
phase_on phase.Head a j = hand_on (λ h. head_event a h j) j.hand j (λ h. head_on (has_room 4 2 (counts_on j.port j.reel)) a h j refl)
phase_on phase.Piece a j = hand_on (λ h. piece_event h j) j.hand j (λ h. piece_on (has_room 3 2 (counts_on j.port j.reel)) h j refl)
phase_on phase.VolumeEnd a j = hand_on (λ h. putting (end_items 1 h) j (volume_ended h j)) j.hand j (λ h. puts_are_on j.reel.slot (end_items 1 h))
phase_on phase.PartEnd a j = part_on true (next_choice a.listed a.slots j) a.log_size j
phase_on phase.DumpEnd a j = closing_is_on j.reel.slot (part_end_items 0 j) (event_by phase.DumpEnd a j).changes
phase_on phase.Over a j = tt

-- An event has its effects on the tape in hand, and commits.
pub event_on : (a : Around) (j : JobFields) → AreOn j.reel.slot (event a j).effects
event_on a j = phase_on j.phase a j

-- ---- a tape that is chosen

and_left : (a b : Bool) → (a && b) ≡ true → a ≡ true
and_left true b is = refl
and_left false b is = is

found_so : (test : ℕ × Slot → Bool) (n : ℕ) (slots : List Slot) (x : ℕ × Slot) → find test (numbered_from n slots) ≡ Some x → test x ≡ true
found_so test n [] x is = absurd (cc)
found_so test n (s ∷ slots) x is = elim (cases_Bool (test (n, s))) [
  | inl hit ↦ (let both : Some (n, s) ≡ Some x = rw hit at is in let same : (n, s) ≡ x = cc in ap test (sym same) ∙ hit)
  | inr miss ↦ (let later : find test (numbered_from (n + 1) slots) ≡ Some x = rw miss at is in found_so test (n + 1) slots x later)
]

among_in : (listed : List DumpRecordFields) (port : PortFields) (o : Option (ℕ × Slot)) (c : Chosen) → ((x : ℕ × Slot) → o ≡ Some x → is_among port x.0 ≡ true) → choice_of listed o ≡ Some c → IsAmong port c.slot
among_in listed port None c each is = absurd (cc)
among_in listed port (Some (k, s)) c each is =
    let same : taking listed k s.items ≡ c = cc in
    let slot : k ≡ c.slot = ap (λ (x : Chosen). x.slot) same in
    let both = and_parts (nat_le port.first k) (nat_le k port.last) (each (k, s) refl) in
    subst (IsAmong port) slot (leb-true port.first k both.0, leb-true k port.last both.1)

pub chosen_among : (listed : List DumpRecordFields) (w : Wanting) (port : PortFields) (slots : List Slot) (c : Chosen) → choice_of listed (chosen listed w port slots) ≡ Some c → IsAmong port c.slot
chosen_among listed w port slots c is =
    among_in listed port (chosen listed w port slots) c
    (λ x found. and_left (is_among port x.0) (slot_passes listed w x.0 x.1) (found_so (λ (y : ℕ × Slot). is_among port y.0 && slot_passes listed w y.0 y.1) 0 slots x found)) is

if_chosen : (b : Bool) (o : Option Chosen) (port : PortFields) (c : Chosen) → ((x : Chosen) → o ≡ Some x → IsAmong port x.slot) → (if b then o else None) ≡ Some c → IsAmong port c.slot
if_chosen true o port c each is = each c is
if_chosen false o port c each is = absurd (cc)

next_among : (a : Around) (j : JobFields) (c : Chosen) → next_choice a.listed a.slots j ≡ Some c → IsAmong j.port c.slot
next_among a j c is = if_chosen (may_go_on j) (choice_of a.listed (chosen a.listed (next_wanting a.listed j) j.port a.slots)) j.port c (λ x found. chosen_among a.listed (next_wanting a.listed j) j.port a.slots x found) is

-- ---- what stays

pub record Same (j k : JobFields) : Type 0 where
  pub port : k.port ≡ j.port
  pub on : IsOnPort j → IsOnPort k

same_self : (j : JobFields) → Same j j
same_self j = record { port = refl; on = λ on. on }

either_same : (long : Bool) (j k l : JobFields) → Same j k → Same j l → Same j (if long then k else l)
either_same true j k l a b = a
either_same false j k l a b = b

-- the same tapes
same_tapes : (j k : JobFields) → k.port ≡ j.port → k.reel.slot ≡ j.reel.slot → k.filled ≡ j.filled → Same j k
same_tapes j k port slot filled = record {
  port = port;
  on = λ on. record {
    reel = subst (λ (p : PortFields). IsAmong p k.reel.slot) (sym port) (subst (IsAmong j.port) (sym slot) on.reel);
    filled = λ f there. subst (λ (p : PortFields). IsAmong p f.slot) (sym port) (on.filled f (subst (λ (l : List Filled). Contains l f) filled there));
  };
}

clone_by_same : (e : Option VolEntry) (c : Option Taken) (j : JobFields) → Same j (clone_by e c j).job
clone_by_same None c j = same_self j
clone_by_same (Some e) None j = same_self j
clone_by_same (Some e) (Some c) j = same_tapes j (clone_by (Some e) (Some c) j).job refl refl refl

clone_same : (cell : List Stored) (o : Option ℕ) (j : JobFields) → Same j (clone_from cell o j).job
clone_same cell None j = same_self j
clone_same cell (Some place) j = clone_by_same (entry_at cell place) (clone_at cell place j.time) j

-- the next part, on a tape of the port
passed_same : (cut : Bool) (c : Chosen) (j : JobFields) → IsAmong j.port c.slot → Same j (part_passed cut c j)
passed_same cut c j among = record {
  port = refl;
  on = λ on. record {
    reel = among;
    filled = λ f there. elim (Contains-push_cases j.filled (record { slot = j.reel.slot; part = closed_part j }) f there) [
      | inl old ↦ on.filled f old
      | inr new ↦ subst (λ (x : Filled). IsAmong j.port x.slot) new on.reel
    ];
  };
}

part_same : (cut : Bool) (o : Option Chosen) (size : ℕ) (j : JobFields) → ((c : Chosen) → o ≡ Some c → IsAmong j.port c.slot) → Same j (part_end_by cut o size j).job
part_same cut None size j among = same_tapes j (part_refused j) refl refl refl
part_same cut (Some c) size j among = either_same (is_too_long size (next_changes (Some c))) j (part_refused j) (part_passed cut c j) (same_tapes j (part_refused j) refl refl refl) (passed_same cut c j (among c refl))

hand_same : (step : Hand → Event) (hand : Option Hand) (j : JobFields) → ((h : Hand) → Same j (step h).job) → Same j (hand_event step hand j).job
hand_same step None j each = same_self j
hand_same step (Some h) j each = each h

head_same : (room : Bool) (a : Around) (h : Hand) (j : JobFields) → has_room 4 2 (counts_on j.port j.reel) ≡ room → Same j (head_event a h j).job
head_same true a h j room = rw room (same_tapes j _ refl refl refl)
head_same false a h j room = rw room (part_same false (next_choice a.listed a.slots j) a.log_size j (next_among a j))

piece_same : (room : Bool) (h : Hand) (j : JobFields) → has_room 3 2 (counts_on j.port j.reel) ≡ room → Same j (piece_event h j).job
piece_same true h j room = rw room (same_tapes j _ refl refl refl)
piece_same false h j room = rw room (same_tapes j _ refl refl refl)

begun_slot : (label : Option LabelFields) (reel : Reel) → (reel_begun label reel).slot ≡ reel.slot
begun_slot None reel = refl
begun_slot (Some label) reel = refl

phase_same : (p : Phase) (a : Around) (j : JobFields) → Same j (event_by p a j).job
phase_same phase.Tape a j = same_tapes j (taped (uses_for j (items_at a.slots j.reel.slot)) j) refl (begun_slot j.label j.reel) refl
phase_same phase.Clone a j = clone_same a.cell (slice_get j.places (length (volumes_done j))) j
phase_same phase.Head a j = hand_same (λ h. head_event a h j) j.hand j (λ h. head_same (has_room 4 2 (counts_on j.port j.reel)) a h j refl)
phase_same phase.Piece a j = hand_same (λ h. piece_event h j) j.hand j (λ h. piece_same (has_room 3 2 (counts_on j.port j.reel)) h j refl)
phase_same phase.VolumeEnd a j = hand_same (λ h. putting (end_items 1 h) j (volume_ended h j)) j.hand j (λ h. same_tapes j (volume_ended h j) refl refl refl)
phase_same phase.PartEnd a j = part_same true (next_choice a.listed a.slots j) a.log_size j (next_among a j)
phase_same phase.DumpEnd a j = either_same (is_too_long a.log_size (done_changes j)) j (dump_ended j) (dump_ended j) (same_tapes j (dump_ended j) refl refl refl) (same_tapes j (dump_ended j) refl refl refl)
phase_same phase.Over a j = same_self j

pub event_same : (a : Around) (j : JobFields) → Same j (event a j).job
event_same a j = phase_same j.phase a j

-- ---- a step

behind_loads : (k : ℕ) (away : List ℕ) (es : List Effect) (s : State) → AreOn k es → (q : ℕ) → q ≢ k → (come (map settles away ++ es) s).tape q ≡ s.tape q
behind_loads k [] es s on q other = (stays_elsewhere k es s on q other).0
behind_loads k (x ∷ away) es s on q other = behind_loads k away es (comes (settles x) s) on q other

pub loads_leave : (away : List ℕ) (s : State) (q : ℕ) → (come (map settles away) s).tape q ≡ s.tape q
loads_leave [] s q = refl
loads_leave (x ∷ away) s q = loads_leave away (comes (settles x) s) q

module _ {D : Type 0} (P : Plant D) (tells : P.tells) (around : Around) (budb budb_then : BudbView) (old new : D) (j k : JobFields) where
  stepped_so : (answer : StepAnswer) → HasStepped answer → Does P (event around j) answer budb budb_then old new k → LeavesOthers P old new j k
  stepped_so answer stepped does = record {
    tapes = λ q other.
        (let done : DoneBehindLoads P (event around j).effects old new = does.done stepped in
        (done.done.state tells).tape q ∙ behind_loads j.reel.slot done.away (event around j).effects (state_of P old) (event_on around j) q other);
    port = ap (λ (x : JobFields). x.port) (does.job stepped) ∙ (event_same around j).port;
    on = λ on. subst IsOnPort (sym (does.job stepped)) ((event_same around j).on on);
  }

  idle_so : k ≡ j → Loads P old new → LeavesOthers P old new j k
  idle_so same loads = record {
    tapes = λ q other. (loads.done.state tells).tape q ∙ loads_leave loads.away (state_of P old) q;
    port = ap (λ (x : JobFields). x.port) same;
    on = λ on. subst IsOnPort (sym same) on;
  }

  pub leaves_others : (answer : StepAnswer) → Does P (event around j) answer budb budb_then old new k → (IsIdle answer → k ≡ j) → (IsIdle answer → Loads P old new) → answer ≢ answers.PlantFailed → LeavesOthers P old new j k
  leaves_others answers.More does same loads failed = stepped_so answers.More tt does
  leaves_others (answers.Done id) does same loads failed = stepped_so (answers.Done id) tt does
  leaves_others (answers.Refused fault) does same loads failed = stepped_so (answers.Refused fault) tt does
  leaves_others answers.PlantFailed does same loads failed = absurd (failed refl)
  leaves_others answers.CellFailed does same loads failed = idle_so (same tt) (loads tt)
  leaves_others answers.Memory does same loads failed = idle_so (same tt) (loads tt)

-- a clone, whatever the cell tells
pub clone_leaves : {D : Type 0} (P : Plant D) (told : Type 0) (cell : List Stored) (r : Result (Unit {0}) CloneFault) (plant : D) (j k : JobFields) → OnOk r (Clones told cell j k) → OnErr r (k ≡ j) → LeavesOthers P plant plant j k
clone_leaves P told cell (Ok none) plant j k clones same = record {
  tapes = λ q other. refl;
  port = ap (λ (x : JobFields). x.port) clones.is;
  on = λ on. subst IsOnPort (sym clones.is) ((clone_by_same (Some clones.entry) (Some clones.clone) j).on on);
}
clone_leaves P told cell (Err fault) plant j k clones same = record {
  tapes = λ q other. refl;
  port = ap (λ (x : JobFields). x.port) same;
  on = λ on. subst IsOnPort (sym same) on;
}
