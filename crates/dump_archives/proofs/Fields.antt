-- What each event of a dump leaves of its fields, and what its effects are.
use Rattle.std.proofs.Common.{◌≡◌, ℕ, ◌+◌, Bool, true, false, Option, Some, None, List, [], ◌∷◌, ◌++◌, length, refl, sym, ◌∙◌}
use Rattle.std.specs.Prelude.{if◌then◌else◌, nat_lt, ◌==◌, slice_get}
use Rattle.vnode_model.specs.declared.listed.VolEntry.{VolEntry}
use Rattle.cell_core.specs.declared.stored.Stored.{Stored}
use Rattle.cell_core.specs.declared.stored.Taken.{Taken}
use Rattle.cell_core.specs.Calls.{entry_at, clone_at}
use Rattle.plant_core.specs.Effects.{Effect, commits, replaces, tells, puts, settles, cuts}
use Rattle.tape_text.specs.Items.{Item, Says, Filemark, Nothing}
use Rattle.tape_writer.specs.Puts.{put_on, puts_on}
use Rattle.budb_changes.specs.declared.change.Change.{Change}
use Rattle.tape_choice.specs.declared.choosing.Chosen.{Chosen}
use Rattle.dump_job.specs.declared.answer.StepAnswer.{StepAnswer}
use Rattle.dump_job.specs.declared.fields.Hand.{Hand}
use Rattle.dump_job.specs.declared.fields.JobFields.{JobFields}
use Rattle.dump_job.specs.declared.fields.Phase.{Phase}
use Rattle.dump_job.specs.declared.fields.Phase.TheVariants as phase
use Rattle.dump_job.specs.Reels.{counts_on, has_room}
use Rattle.dump_job.specs.Taping.{uses_for, tape_items, phase_begun}
use Rattle.dump_job.specs.Cloning.{volumes_done}
use Rattle.dump_job.specs.Volumes.{head_items, piece_items, without_piece, end_items, volume_ended}
use Rattle.dump_job.specs.Ending.{part_end_items}
use Rattle.dump_job.specs.Passing.{next_choice, next_changes, part_passed, part_refused}
use Rattle.dump_job.specs.Closing.{committing, is_too_long, done_changes, dump_ended}
use Rattle.dump_job.specs.Events.{Around, Event, putting, items_at, clone_by, clone_from, part_end_by, head_event, piece_event, hand_event, event_by, event}
use Rattle.dump_courses.specs.Courses.{goes_on}

-- ---- what stays

-- the order, the time, and what a dump is throughout
pub record Same (j k : JobFields) : Type 0 where
  pub places : k.places ≡ j.places
  pub time : k.time ≡ j.time
  pub parent : k.parent ≡ j.parent
  pub id : k.head.id ≡ j.head.id
  pub above : k.head.parent ≡ j.head.parent

same_self : (j : JobFields) → Same j j
same_self j = record { places = refl; time = refl; parent = refl; id = refl; above = refl }

either_same : (long : Bool) (j k l : JobFields) → Same j k → Same j l → Same j (if long then k else l)
either_same true j k l a b = a
either_same false j k l a b = b

clone_by_same : (e : Option VolEntry) (c : Option Taken) (j : JobFields) → Same j (clone_by e c j).job
clone_by_same None c j = same_self j
clone_by_same (Some e) None j = same_self j
clone_by_same (Some e) (Some c) j = record { places = refl; time = refl; parent = refl; id = refl; above = refl }

clone_same : (cell : List Stored) (o : Option ℕ) (j : JobFields) → Same j (clone_from cell o j).job
clone_same cell None j = same_self j
clone_same cell (Some place) j = clone_by_same (entry_at cell place) (clone_at cell place j.time) j

part_same : (cut : Bool) (o : Option Chosen) (size : ℕ) (j : JobFields) → Same j (part_end_by cut o size j).job
part_same cut None size j = record { places = refl; time = refl; parent = refl; id = refl; above = refl }
part_same cut (Some c) size j =
    either_same (is_too_long size (next_changes (Some c))) j (part_refused j) (part_passed cut c j) (record { places = refl; time = refl; parent = refl; id = refl; above = refl }) (record { places = refl; time = refl; parent = refl; id = refl; above = refl })

hand_same : (step : Hand → Event) (hand : Option Hand) (j : JobFields) → ((h : Hand) → Same j (step h).job) → Same j (hand_event step hand j).job
hand_same step None j each = same_self j
hand_same step (Some h) j each = each h

head_same : (room : Bool) (a : Around) (h : Hand) (j : JobFields) → has_room 4 2 (counts_on j.port j.reel) ≡ room → Same j (head_event a h j).job
head_same true a h j room = rw room (record { places = refl; time = refl; parent = refl; id = refl; above = refl })
head_same false a h j room = rw room (part_same false (next_choice a.listed a.slots j) a.log_size j)

piece_same : (room : Bool) (h : Hand) (j : JobFields) → has_room 3 2 (counts_on j.port j.reel) ≡ room → Same j (piece_event h j).job
piece_same true h j room = rw room (record { places = refl; time = refl; parent = refl; id = refl; above = refl })
piece_same false h j room = rw room (record { places = refl; time = refl; parent = refl; id = refl; above = refl })

phase_same : (p : Phase) (a : Around) (j : JobFields) → Same j (event_by p a j).job
phase_same phase.Tape a j = record { places = refl; time = refl; parent = refl; id = refl; above = refl }
phase_same phase.Clone a j = clone_same a.cell (slice_get j.places (length (volumes_done j))) j
phase_same phase.Head a j = hand_same (λ h. head_event a h j) j.hand j (λ h. head_same (has_room 4 2 (counts_on j.port j.reel)) a h j refl)
phase_same phase.Piece a j = hand_same (λ h. piece_event h j) j.hand j (λ h. piece_same (has_room 3 2 (counts_on j.port j.reel)) h j refl)
phase_same phase.VolumeEnd a j = hand_same (λ h. putting (end_items 1 h) j (volume_ended h j)) j.hand j (λ h. record { places = refl; time = refl; parent = refl; id = refl; above = refl })
phase_same phase.PartEnd a j = part_same true (next_choice a.listed a.slots j) a.log_size j
phase_same phase.DumpEnd a j = either_same (is_too_long a.log_size (done_changes j)) j (dump_ended j) (dump_ended j) (record { places = refl; time = refl; parent = refl; id = refl; above = refl }) (record { places = refl; time = refl; parent = refl; id = refl; above = refl })
phase_same phase.Over a j = same_self j

pub event_same : (a : Around) (j : JobFields) → Same j (event a j).job
event_same a j = phase_same j.phase a j

-- ---- a dump that goes on isn't over

abbrev pub IsRunning : Phase → Type 0
IsRunning phase.Tape = Unit {0}
IsRunning phase.Clone = Unit {0}
IsRunning phase.Head = Unit {0}
IsRunning phase.Piece = Unit {0}
IsRunning phase.VolumeEnd = Unit {0}
IsRunning phase.PartEnd = Unit {0}
IsRunning phase.DumpEnd = Unit {0}
IsRunning phase.Over = ⊥

-- where an event isn't the last one
abbrev pub RunsOn : Event → Type 0
RunsOn e = goes_on e.answer ≡ true → IsRunning e.job.phase

no_more : false ≡ true → ⊥
no_more e = cc

either_running : (b : Bool) (p q : Phase) → IsRunning p → IsRunning q → IsRunning (if b then p else q)
either_running true p q a b = a
either_running false p q a b = b

begun_running : (hand : Option Hand) → IsRunning (phase_begun hand)
begun_running None = tt
begun_running (Some h) = tt

clone_by_running : (e : Option VolEntry) (c : Option Taken) (j : JobFields) → RunsOn (clone_by e c j)
clone_by_running None c j more = absurd (no_more more)
clone_by_running (Some e) None j more = absurd (no_more more)
clone_by_running (Some e) (Some c) j more = tt

clone_running : (cell : List Stored) (o : Option ℕ) (j : JobFields) → RunsOn (clone_from cell o j)
clone_running cell None j more = absurd (no_more more)
clone_running cell (Some place) j more = clone_by_running (entry_at cell place) (clone_at cell place j.time) j more

closing_running : (long : Bool) (refused next : JobFields) (told other : StepAnswer) → goes_on told ≡ false → IsRunning next.phase → goes_on (if long then told else other) ≡ true → IsRunning (if long then refused else next).phase
closing_running true refused next told other ends runs more = absurd (no_more (sym ends ∙ more))
closing_running false refused next told other ends runs more = runs

part_running : (cut : Bool) (o : Option Chosen) (size : ℕ) (j : JobFields) → RunsOn (part_end_by cut o size j)
part_running cut None size j more = absurd (no_more more)
part_running cut (Some c) size j more = closing_running (is_too_long size (next_changes (Some c))) (part_refused j) (part_passed cut c j) _ _ refl tt more

last_over : (long : Bool) (a b : StepAnswer) → goes_on a ≡ false → goes_on b ≡ false → goes_on (if long then a else b) ≡ true → ⊥
last_over true a b ends also more = no_more (sym ends ∙ more)
last_over false a b ends also more = no_more (sym also ∙ more)

hand_running : (step : Hand → Event) (hand : Option Hand) (j : JobFields) → ((h : Hand) → RunsOn (step h)) → RunsOn (hand_event step hand j)
hand_running step None j each more = absurd (no_more more)
hand_running step (Some h) j each more = each h more

head_running : (room : Bool) (a : Around) (h : Hand) (j : JobFields) → has_room 4 2 (counts_on j.port j.reel) ≡ room → RunsOn (head_event a h j)
head_running true a h j room = rw room (λ more. either_running (length h.stream == 0) phase.VolumeEnd phase.Piece tt tt)
head_running false a h j room = rw room (part_running false (next_choice a.listed a.slots j) a.log_size j)

piece_running : (room : Bool) (h : Hand) (j : JobFields) → has_room 3 2 (counts_on j.port j.reel) ≡ room → RunsOn (piece_event h j)
piece_running true h j room = rw room (λ more. either_running (length (without_piece h).stream == 0) phase.VolumeEnd phase.Piece tt tt)
piece_running false h j room = rw room (λ more. tt)

phase_running : (p : Phase) (a : Around) (j : JobFields) → RunsOn (event_by p a j)
phase_running phase.Tape a j more = begun_running j.hand
phase_running phase.Clone a j more = clone_running a.cell (slice_get j.places (length (volumes_done j))) j more
phase_running phase.Head a j more = hand_running (λ h. head_event a h j) j.hand j (λ h. head_running (has_room 4 2 (counts_on j.port j.reel)) a h j refl) more
phase_running phase.Piece a j more = hand_running (λ h. piece_event h j) j.hand j (λ h. piece_running (has_room 3 2 (counts_on j.port j.reel)) h j refl) more
phase_running phase.VolumeEnd a j more = hand_running (λ h. putting (end_items 1 h) j (volume_ended h j)) j.hand j (λ h also. either_running (nat_lt (h.head.index + 1) (length j.places)) phase.Clone phase.DumpEnd tt tt) more
phase_running phase.PartEnd a j more = part_running true (next_choice a.listed a.slots j) a.log_size j more
phase_running phase.DumpEnd a j more = absurd (last_over (is_too_long a.log_size (done_changes j)) _ _ refl refl more)
phase_running phase.Over a j more = absurd (no_more more)

pub event_runs : (a : Around) (j : JobFields) → RunsOn (event a j)
event_runs a j = phase_running j.phase a j

-- ---- effects: no tape is cut but by the first one, and the log isn't replaced

abbrev pub OnlyAdds : List Effect → Type 0
OnlyAdds [] = Unit {0}
OnlyAdds (commits bytes ∷ es) = OnlyAdds es
OnlyAdds (replaces bytes ∷ es) = ⊥
OnlyAdds (tells text ∷ es) = OnlyAdds es
OnlyAdds (puts k r ∷ es) = OnlyAdds es
OnlyAdds (settles k ∷ es) = OnlyAdds es
OnlyAdds (cuts k n ∷ es) = ⊥

abbrev pub CutsFirst : List Effect → Type 0
CutsFirst [] = Unit {0}
CutsFirst (commits bytes ∷ es) = OnlyAdds es
CutsFirst (replaces bytes ∷ es) = ⊥
CutsFirst (tells text ∷ es) = OnlyAdds es
CutsFirst (puts k r ∷ es) = OnlyAdds es
CutsFirst (settles k ∷ es) = OnlyAdds es
CutsFirst (cuts k n ∷ es) = OnlyAdds es

adds_first : (es : List Effect) → OnlyAdds es → CutsFirst es
adds_first [] none = tt
adds_first (commits bytes ∷ es) none = none
adds_first (replaces bytes ∷ es) none = absurd none
adds_first (tells text ∷ es) none = none
adds_first (puts k r ∷ es) none = none
adds_first (settles k ∷ es) none = none
adds_first (cuts k n ∷ es) none = absurd none

adds_joined : (es fs : List Effect) → OnlyAdds es → OnlyAdds fs → OnlyAdds (es ++ fs)
adds_joined [] fs a b = b
adds_joined (commits bytes ∷ es) fs a b = adds_joined es fs a b
adds_joined (replaces bytes ∷ es) fs a b = absurd a
adds_joined (tells text ∷ es) fs a b = adds_joined es fs a b
adds_joined (puts k r ∷ es) fs a b = adds_joined es fs a b
adds_joined (settles k ∷ es) fs a b = adds_joined es fs a b
adds_joined (cuts k n ∷ es) fs a b = absurd a

put_adds : (k : ℕ) (i : Item) → OnlyAdds (put_on k i)
put_adds k (Says f) = tt
put_adds k Filemark = tt
put_adds k Nothing = tt

puts_add : (k : ℕ) (items : List Item) → OnlyAdds (puts_on k items)
unfolding puts_on
puts_add k [] = tt
puts_add k (i ∷ is) = adds_joined (put_on k i) (puts_on k is) (put_adds k i) (puts_add k is)

committing_adds : (changes : List Change) → OnlyAdds (committing changes)
committing_adds [] = tt
committing_adds (c ∷ cs) = tt

closing_adds : (k : ℕ) (items : List Item) (changes : List Change) → CutsFirst (puts_on k items ++ committing changes)
closing_adds k items changes = adds_first (puts_on k items ++ committing changes) (adds_joined (puts_on k items) (committing changes) (puts_add k items) (committing_adds changes))

put_cuts : (k : ℕ) (items : List Item) → CutsFirst (puts_on k items)
put_cuts k items = adds_first (puts_on k items) (puts_add k items)

clone_by_cuts : (e : Option VolEntry) (c : Option Taken) (j : JobFields) → CutsFirst (clone_by e c j).effects
clone_by_cuts None c j = tt
clone_by_cuts (Some e) None j = tt
clone_by_cuts (Some e) (Some c) j = tt

clone_cuts : (cell : List Stored) (o : Option ℕ) (j : JobFields) → CutsFirst (clone_from cell o j).effects
clone_cuts cell None j = tt
clone_cuts cell (Some place) j = clone_by_cuts (entry_at cell place) (clone_at cell place j.time) j

part_cuts : (cut : Bool) (o : Option Chosen) (size : ℕ) (j : JobFields) → CutsFirst (part_end_by cut o size j).effects
part_cuts cut None size j = put_cuts j.reel.slot (part_end_items 1 j)
part_cuts cut (Some c) size j = closing_adds j.reel.slot (part_end_items 1 j) (part_end_by cut (Some c) size j).changes

hand_cuts : (step : Hand → Event) (hand : Option Hand) (j : JobFields) → ((h : Hand) → CutsFirst (step h).effects) → CutsFirst (hand_event step hand j).effects
hand_cuts step None j each = tt
hand_cuts step (Some h) j each = each h

head_cuts : (room : Bool) (a : Around) (h : Hand) (j : JobFields) → has_room 4 2 (counts_on j.port j.reel) ≡ room → CutsFirst (head_event a h j).effects
head_cuts true a h j room = rw room (put_cuts j.reel.slot (head_items h))
head_cuts false a h j room = rw room (part_cuts false (next_choice a.listed a.slots j) a.log_size j)

piece_cuts : (room : Bool) (h : Hand) (j : JobFields) → has_room 3 2 (counts_on j.port j.reel) ≡ room → CutsFirst (piece_event h j).effects
piece_cuts true h j room = rw room (put_cuts j.reel.slot (piece_items h))
piece_cuts false h j room = rw room (put_cuts j.reel.slot (end_items 0 h))

phase_cuts : (p : Phase) (a : Around) (j : JobFields) → CutsFirst (event_by p a j).effects
phase_cuts phase.Tape a j = puts_add j.reel.slot (tape_items (uses_for j (items_at a.slots j.reel.slot)) j)
phase_cuts phase.Clone a j = clone_cuts a.cell (slice_get j.places (length (volumes_done j))) j
phase_cuts phase.Head a j = hand_cuts (λ h. head_event a h j) j.hand j (λ h. head_cuts (has_room 4 2 (counts_on j.port j.reel)) a h j refl)
phase_cuts phase.Piece a j = hand_cuts (λ h. piece_event h j) j.hand j (λ h. piece_cuts (has_room 3 2 (counts_on j.port j.reel)) h j refl)
phase_cuts phase.VolumeEnd a j = hand_cuts (λ h. putting (end_items 1 h) j (volume_ended h j)) j.hand j (λ h. put_cuts j.reel.slot (end_items 1 h))
phase_cuts phase.PartEnd a j = part_cuts true (next_choice a.listed a.slots j) a.log_size j
phase_cuts phase.DumpEnd a j = closing_adds j.reel.slot (part_end_items 0 j) (event_by phase.DumpEnd a j).changes
phase_cuts phase.Over a j = tt

pub event_cuts : (a : Around) (j : JobFields) → CutsFirst (event a j).effects
event_cuts a j = phase_cuts j.phase a j
