-- The effects of an event are on the tape in hand and on the log alone.
use Rattle.std.proofs.Common.{◌≡◌, ℕ, Bool, true, false, Option, Some, None, List, [], ◌∷◌, ◌++◌, length, refl, ◌∙◌, inl, inr}
use Rattle.std.specs.Prelude.{◌==◌, slice_get}
use Rattle.std.proofs.lemmas.Bool.{cases_Bool, eqb-true}
use Rattle.vnode_model.specs.declared.listed.VolEntry.{VolEntry}
use Rattle.cell_core.specs.declared.stored.Stored.{Stored}
use Rattle.cell_core.specs.declared.stored.Taken.{Taken}
use Rattle.cell_core.specs.Calls.{entry_at, clone_at}
use Rattle.plant_core.specs.Crashes.{State}
use Rattle.plant_core.specs.Effects.{Effect, commits, replaces, tells, puts, settles, cuts, comes, come}
use Rattle.tape_text.specs.Items.{Item, Says, Filemark, Nothing}
use Rattle.tape_writer.specs.Puts.{put_on, puts_on}
use Rattle.budb_changes.specs.declared.change.Change.{Change}
use Rattle.tape_choice.specs.declared.choosing.Chosen.{Chosen}
use Rattle.dump_job.specs.declared.fields.Hand.{Hand}
use Rattle.dump_job.specs.declared.fields.JobFields.{JobFields}
use Rattle.dump_job.specs.declared.fields.Phase.{Phase}
use Rattle.dump_job.specs.declared.fields.Phase.TheVariants as phase
use Rattle.dump_job.specs.Reels.{counts_on, has_room}
use Rattle.dump_job.specs.Taping.{uses_for, tape_items}
use Rattle.dump_job.specs.Cloning.{volumes_done}
use Rattle.dump_job.specs.Volumes.{head_items, piece_items, end_items, volume_ended}
use Rattle.dump_job.specs.Ending.{part_end_items}
use Rattle.dump_job.specs.Passing.{next_choice}
use Rattle.dump_job.specs.Closing.{committing}
use Rattle.dump_job.specs.Events.{Around, Event, putting, items_at, clone_by, clone_from, part_end_by, head_event, piece_event, hand_event, event_by, event}

pub unequal : (a b : ℕ) → (a ≡ b → ⊥) → (a == b) ≡ false
unequal a b other = elim (cases_Bool (a == b)) [
  | inl same ↦ absurd (other (eqb-true a b same))
  | inr unlike ↦ unlike
]

-- each of these effects is a commit, or on the tape of this slot
abbrev pub AreOn : ℕ → List Effect → Type 0
AreOn k [] = Unit {0}
AreOn k (commits bytes ∷ es) = AreOn k es
AreOn k (replaces bytes ∷ es) = ⊥
AreOn k (tells text ∷ es) = ⊥
AreOn k (puts j r ∷ es) = (j ≡ k) × AreOn k es
AreOn k (settles j ∷ es) = (j ≡ k) × AreOn k es
AreOn k (cuts j n ∷ es) = (j ≡ k) × AreOn k es

-- ---- other tapes stay

pub stays_elsewhere : (k : ℕ) (es : List Effect) (s : State) → AreOn k es → (q : ℕ) → (q ≡ k → ⊥) → ((come es s).tape q ≡ s.tape q) × ((come es s).settled q ≡ s.settled q)
stays_elsewhere k [] s on q other = (refl, refl)
stays_elsewhere k (commits bytes ∷ es) s on q other = stays_elsewhere k es (comes (commits bytes) s) on q other
stays_elsewhere k (replaces bytes ∷ es) s on q other = absurd on
stays_elsewhere k (tells text ∷ es) s on q other = absurd on
stays_elsewhere k (puts j r ∷ es) s (same, on) q other =
    let rest = stays_elsewhere k es (comes (puts j r) s) on q other in
    let miss : (q == j) ≡ false = unequal q j (λ is. other (is ∙ same)) in
    let one : (comes (puts j r) s).tape q ≡ s.tape q = rw miss refl in
    (rest.0 ∙ one, rest.1)
stays_elsewhere k (settles j ∷ es) s (same, on) q other =
    let rest = stays_elsewhere k es (comes (settles j) s) on q other in
    let miss : (q == j) ≡ false = unequal q j (λ is. other (is ∙ same)) in
    let one : (comes (settles j) s).settled q ≡ s.settled q = rw miss refl in
    (rest.0, rest.1 ∙ one)
stays_elsewhere k (cuts j n ∷ es) s (same, on) q other =
    let rest = stays_elsewhere k es (comes (cuts j n) s) on q other in
    let miss : (q == j) ≡ false = unequal q j (λ is. other (is ∙ same)) in
    let one : (comes (cuts j n) s).tape q ≡ s.tape q = rw miss refl in
    let two : (comes (cuts j n) s).settled q ≡ s.settled q = rw miss refl in
    (rest.0 ∙ one, rest.1 ∙ two)

-- ---- what an event does

joined_on : (k : ℕ) (es fs : List Effect) → AreOn k es → AreOn k fs → AreOn k (es ++ fs)
joined_on k [] fs a b = b
joined_on k (commits bytes ∷ es) fs a b = joined_on k es fs a b
joined_on k (replaces bytes ∷ es) fs a b = absurd a
joined_on k (tells text ∷ es) fs a b = absurd a
joined_on k (puts j r ∷ es) fs a b = (a.0, joined_on k es fs a.1 b)
joined_on k (settles j ∷ es) fs a b = (a.0, joined_on k es fs a.1 b)
joined_on k (cuts j n ∷ es) fs a b = (a.0, joined_on k es fs a.1 b)

put_is_on : (k : ℕ) (i : Item) → AreOn k (put_on k i)
put_is_on k (Says f) = (refl, tt)
put_is_on k Filemark = (refl, (refl, tt))
put_is_on k Nothing = (refl, tt)

puts_are_on : (k : ℕ) (items : List Item) → AreOn k (puts_on k items)
unfolding puts_on
puts_are_on k [] = tt
puts_are_on k (i ∷ is) = joined_on k (put_on k i) (puts_on k is) (put_is_on k i) (puts_are_on k is)

committing_is_on : (k : ℕ) (changes : List Change) → AreOn k (committing changes)
committing_is_on k [] = tt
committing_is_on k (c ∷ cs) = tt

closing_is_on : (k : ℕ) (items : List Item) (changes : List Change) → AreOn k (puts_on k items ++ committing changes)
closing_is_on k items changes = joined_on k (puts_on k items) (committing changes) (puts_are_on k items) (committing_is_on k changes)

clone_by_on : (k : ℕ) (e : Option VolEntry) (c : Option Taken) (j : JobFields) → AreOn k (clone_by e c j).effects
clone_by_on k None c j = tt
clone_by_on k (Some e) None j = tt
clone_by_on k (Some e) (Some c) j = tt

clone_on : (k : ℕ) (cell : List Stored) (o : Option ℕ) (j : JobFields) → AreOn k (clone_from cell o j).effects
clone_on k cell None j = tt
clone_on k cell (Some place) j = clone_by_on k (entry_at cell place) (clone_at cell place j.time) j

part_on : (cut : Bool) (o : Option Chosen) (size : ℕ) (j : JobFields) → AreOn j.reel.slot (part_end_by cut o size j).effects
part_on cut None size j = puts_are_on j.reel.slot (part_end_items 1 j)
part_on cut (Some c) size j = closing_is_on j.reel.slot (part_end_items 1 j) (part_end_by cut (Some c) size j).changes

hand_on : (step : Hand → Event) (hand : Option Hand) (j : JobFields) → ((h : Hand) → AreOn j.reel.slot (step h).effects) → AreOn j.reel.slot (hand_event step hand j).effects
hand_on step None j each = tt
hand_on step (Some h) j each = each h

head_on : (room : Bool) (a : Around) (h : Hand) (j : JobFields) → has_room 4 2 (counts_on j.port j.reel) ≡ room → AreOn j.reel.slot (head_event a h j).effects
head_on true a h j room = rw room (puts_are_on j.reel.slot (head_items h))
head_on false a h j room = rw room (part_on false (next_choice a.listed a.slots j) a.log_size j)

piece_on : (room : Bool) (h : Hand) (j : JobFields) → has_room 3 2 (counts_on j.port j.reel) ≡ room → AreOn j.reel.slot (piece_event h j).effects
piece_on true h j room = rw room (puts_are_on j.reel.slot (piece_items h))
piece_on false h j room = rw room (puts_are_on j.reel.slot (end_items 0 h))

phase_on : (p : Phase) (a : Around) (j : JobFields) → AreOn j.reel.slot (event_by p a j).effects
phase_on phase.Tape a j = (refl, puts_are_on j.reel.slot (tape_items (uses_for j (items_at a.slots j.reel.slot)) j))
phase_on phase.Clone a j = clone_on j.reel.slot a.cell (slice_get j.places (length (volumes_done j))) j
phase_on phase.Head a j = hand_on (λ h. head_event a h j) j.hand j (λ h. head_on (has_room 4 2 (counts_on j.port j.reel)) a h j refl)
phase_on phase.Piece a j = hand_on (λ h. piece_event h j) j.hand j (λ h. piece_on (has_room 3 2 (counts_on j.port j.reel)) h j refl)
phase_on phase.VolumeEnd a j = hand_on (λ h. putting (end_items 1 h) j (volume_ended h j)) j.hand j (λ h. puts_are_on j.reel.slot (end_items 1 h))
phase_on phase.PartEnd a j = part_on true (next_choice a.listed a.slots j) a.log_size j
phase_on phase.DumpEnd a j = closing_is_on j.reel.slot (part_end_items 0 j) (event_by phase.DumpEnd a j).changes
phase_on phase.Over a j = tt

-- An event has its effects on the tape in hand, and commits.
pub event_on : (a : Around) (j : JobFields) → AreOn j.reel.slot (event a j).effects
event_on a j = phase_on j.phase a j
