-- How long the tapes are behind each event of a dump.
use Rattle.std.proofs.Common.{◌≡◌, ℕ, suc, ◌+◌, ◌≤◌, Bool, true, false, Option, Some, None, List, [], ◌∷◌, ◌++◌, length, refl, ap, ◌∙◌, arith, inl, inr, length-append, length-take}
use Rattle.std.specs.Prelude.{◌==◌, slice_get}
use Rattle.std.proofs.lemmas.Bool.{cases_Bool, eqb-true, eq-eqb}
use Rattle.vnode_model.specs.declared.listed.VolEntry.{VolEntry}
use Rattle.cell_core.specs.declared.stored.Stored.{Stored}
use Rattle.cell_core.specs.declared.stored.Taken.{Taken}
use Rattle.cell_core.specs.Calls.{entry_at, clone_at}
use Rattle.plant_core.specs.Records.{Record}
use Rattle.plant_core.specs.Crashes.{State}
use Rattle.plant_core.specs.Effects.{Effect, puts, cuts, comes, come}
use Rattle.plant_effects.proofs.States.{come_append}
use Rattle.budb_changes.specs.declared.change.Change.{Change}
use Rattle.tape_text.specs.Items.{Item, Says, Filemark, Nothing}
use Rattle.tape_writer.specs.Puts.{put_on, puts_on, begun}
use Rattle.tape_frames.specs.declared.label.LabelFields.{LabelFields}
use Rattle.tape_frames.specs.declared.dump_head.DumpHeadFields.{DumpHeadFields}
use Rattle.tape_choice.specs.declared.choosing.Chosen.{Chosen}
use Rattle.dump_job.specs.declared.fields.Hand.{Hand}
use Rattle.dump_job.specs.declared.fields.JobFields.{JobFields}
use Rattle.dump_job.specs.declared.fields.Phase.{Phase}
use Rattle.dump_job.specs.declared.fields.Phase.TheVariants as phase
use Rattle.dump_job.specs.Reels.{counts_on, has_room, records_on}
use Rattle.dump_job.specs.Taping.{uses_for, head_with, tape_items}
use Rattle.dump_job.specs.Cloning.{volumes_done}
use Rattle.dump_job.specs.Volumes.{head_items, piece_items, end_items, volume_ended}
use Rattle.dump_job.specs.Ending.{part_end_items}
use Rattle.dump_job.specs.Passing.{next_choice}
use Rattle.dump_job.specs.Closing.{committing}
use Rattle.dump_job.specs.Events.{Around, Event, putting, items_at, clone_by, clone_from, part_end_by, head_event, piece_event, hand_event, event_by, event}

-- ---- what effects make of a tape

-- what is so of the tape of a slot behind effects, and of all others: those stay, and this one has a few records more
pub record Lengthens (slot few : ℕ) (es : List Effect) : Type 0 where
  pub own : (s : State) → length ((come es s).tape slot) ≤ length (s.tape slot) + few
  pub others : (s : State) (k : ℕ) → (k ≡ slot → ⊥) → (come es s).tape k ≡ s.tape k

other_slot : (k slot : ℕ) → (k ≡ slot → ⊥) → (k == slot) ≡ false
other_slot k slot other = elim (cases_Bool (k == slot)) [
  | inl hit ↦ absurd (other (eqb-true k slot hit))
  | inr miss ↦ miss
]

nothing_lengthens : (slot few : ℕ) → Lengthens slot few []
nothing_lengthens slot few = record { own = λ s. omega arith; others = λ s k other. refl }

longer : (slot few more : ℕ) (es : List Effect) → few ≤ more → Lengthens slot few es → Lengthens slot more es
longer slot few more es le l = record { own = λ s. (let own = l.own s in omega (arith, own, le)); others = l.others }

then_lengthens : (slot few more : ℕ) (es fs : List Effect) → Lengthens slot few es → Lengthens slot more fs → Lengthens slot (few + more) (es ++ fs)
then_lengthens slot few more es fs a b = record {
  own = λ s.
      (let first = a.own s in
      let second = b.own (come es s) in
      let both : length ((come (es ++ fs) s).tape slot) ≡ length ((come fs (come es s)).tape slot) = ap (λ (t : State). length (t.tape slot)) (come_append es fs s) in
      omega (arith, first, second, both));
  others = λ s k other. ap (λ (t : State). t.tape k) (come_append es fs s) ∙ b.others (come es s) k other ∙ a.others s k other;
}

put_lengthens : (slot : ℕ) (r : Record) → Lengthens slot 1 (puts slot r ∷ [])
put_lengthens slot r = record {
  own = λ s. (let hit : (slot == slot) ≡ true = eq-eqb slot slot refl in let more = length-append (s.tape slot) (r ∷ []) in rw hit (omega (arith, more)));
  others = λ s k other. (let miss : (k == slot) ≡ false = other_slot k slot other in rw miss refl);
}

item_lengthens : (slot : ℕ) (i : Item) → Lengthens slot 1 (put_on slot i)
item_lengthens slot (Says f) = put_lengthens slot _
item_lengthens slot Filemark = (let one = put_lengthens slot _ in record { own = one.own; others = one.others })
item_lengthens slot Nothing = put_lengthens slot _

puts_lengthen : (slot : ℕ) (items : List Item) → Lengthens slot (length items) (puts_on slot items)
unfolding puts_on
puts_lengthen slot [] = nothing_lengthens slot 0
puts_lengthen slot (i ∷ is) = longer slot (1 + length is) (suc (length is)) (put_on slot i ++ puts_on slot is) (omega arith) (then_lengthens slot 1 (length is) (put_on slot i) (puts_on slot is) (item_lengthens slot i) (puts_lengthen slot is))

committing_lengthens : (slot : ℕ) (changes : List Change) → Lengthens slot 0 (committing changes)
committing_lengthens slot [] = nothing_lengthens slot 0
committing_lengthens slot (c ∷ cs) = record { own = λ s. omega arith; others = λ s k other. refl }

-- ---- each event but the tape step

closing_lengthens : (slot : ℕ) (items : List Item) (changes : List Change) → length items ≤ 2 → Lengthens slot 2 (puts_on slot items ++ committing changes)
closing_lengthens slot items changes few =
    longer slot (length items + 0) 2 (puts_on slot items ++ committing changes) (omega (arith, few)) (then_lengthens slot (length items) 0 (puts_on slot items) (committing changes) (puts_lengthen slot items) (committing_lengthens slot changes))

few_lengthen : (slot : ℕ) (items : List Item) → length items ≤ 2 → Lengthens slot 2 (puts_on slot items)
few_lengthen slot items few = longer slot (length items) 2 (puts_on slot items) few (puts_lengthen slot items)

clone_by_lengthens : (slot : ℕ) (e : Option VolEntry) (c : Option Taken) (j : JobFields) → Lengthens slot 2 (clone_by e c j).effects
clone_by_lengthens slot None c j = nothing_lengthens slot 2
clone_by_lengthens slot (Some e) None j = nothing_lengthens slot 2
clone_by_lengthens slot (Some e) (Some c) j = nothing_lengthens slot 2

clone_lengthens : (slot : ℕ) (cell : List Stored) (o : Option ℕ) (j : JobFields) → Lengthens slot 2 (clone_from cell o j).effects
clone_lengthens slot cell None j = nothing_lengthens slot 2
clone_lengthens slot cell (Some place) j = clone_by_lengthens slot (entry_at cell place) (clone_at cell place j.time) j

part_lengthens : (cut : Bool) (o : Option Chosen) (size : ℕ) (j : JobFields) → Lengthens j.reel.slot 2 (part_end_by cut o size j).effects
part_lengthens cut None size j = few_lengthen j.reel.slot (part_end_items 1 j) (omega arith)
part_lengthens cut (Some c) size j = closing_lengthens j.reel.slot (part_end_items 1 j) (part_end_by cut (Some c) size j).changes (omega arith)

hand_lengthens : (step : Hand → Event) (hand : Option Hand) (j : JobFields) → ((h : Hand) → Lengthens j.reel.slot 2 (step h).effects) → Lengthens j.reel.slot 2 (hand_event step hand j).effects
hand_lengthens step None j each = nothing_lengthens j.reel.slot 2
hand_lengthens step (Some h) j each = each h

head_lengthens : (room : Bool) (a : Around) (h : Hand) (j : JobFields) → has_room 4 2 (counts_on j.port j.reel) ≡ room → Lengthens j.reel.slot 2 (head_event a h j).effects
head_lengthens true a h j room = rw room (few_lengthen j.reel.slot (head_items h) (omega arith))
head_lengthens false a h j room = rw room (part_lengthens false (next_choice a.listed a.slots j) a.log_size j)

piece_lengthens : (room : Bool) (h : Hand) (j : JobFields) → has_room 3 2 (counts_on j.port j.reel) ≡ room → Lengthens j.reel.slot 2 (piece_event h j).effects
piece_lengthens true h j room = rw room (few_lengthen j.reel.slot (piece_items h) (omega arith))
piece_lengthens false h j room = rw room (few_lengthen j.reel.slot (end_items 0 h) (omega arith))

-- ---- the tape step

cut_long : (slot n : ℕ) (s : State) → length ((comes (cuts slot n) s).tape slot) ≤ n
cut_long slot n s = (let hit : (slot == slot) ≡ true = eq-eqb slot slot refl in let long = length-take n (s.tape slot) in rw hit (omega (arith, long)))

begun_long : (label : Option LabelFields) (head : DumpHeadFields) → length (begun label head) ≤ 3
begun_long None head = omega arith
begun_long (Some label) head = omega arith

-- the tape in hand has at most so many records behind an event, and the others stay
pub record Bounds (slot most : ℕ) (s : State) (es : List Effect) : Type 0 where
  pub own : length ((come es s).tape slot) ≤ most
  pub others : (k : ℕ) → (k ≡ slot → ⊥) → (come es s).tape k ≡ s.tape k

tape_bounds : (uses : ℕ) (j : JobFields) (s : State) → Bounds j.reel.slot (records_on j.reel + 3) s (cuts j.reel.slot (records_on j.reel) ∷ puts_on j.reel.slot (tape_items uses j))
tape_bounds uses j s =
    let slot : ℕ = j.reel.slot in
    let n : ℕ = records_on j.reel in
    let cut : State = comes (cuts slot n) s in
    let put = puts_lengthen slot (tape_items uses j) in
    let few : length (tape_items uses j) ≤ 3 = begun_long j.label (head_with uses j.head) in
    record {
      own = (let long = cut_long slot n s in let more = put.own cut in omega (arith, long, more, few));
      others = λ k other. put.others cut k other ∙ (let miss : (k == slot) ≡ false = other_slot k slot other in rw miss refl);
    }

in_bounds : (j : JobFields) (s : State) (es : List Effect) → length (s.tape j.reel.slot) ≤ records_on j.reel → Lengthens j.reel.slot 2 es → Bounds j.reel.slot (records_on j.reel + 3) s es
in_bounds j s es long l = record { own = (let own = l.own s in omega (arith, own, long)); others = l.others s }

-- what an event needs: the tape in hand has as many records as are counted, unless it is cut
abbrev pub IsCounted : Phase → JobFields → State → Type 0
IsCounted phase.Tape j s = Unit {0}
IsCounted phase.Clone j s = length (s.tape j.reel.slot) ≤ records_on j.reel
IsCounted phase.Head j s = length (s.tape j.reel.slot) ≤ records_on j.reel
IsCounted phase.Piece j s = length (s.tape j.reel.slot) ≤ records_on j.reel
IsCounted phase.VolumeEnd j s = length (s.tape j.reel.slot) ≤ records_on j.reel
IsCounted phase.PartEnd j s = length (s.tape j.reel.slot) ≤ records_on j.reel
IsCounted phase.DumpEnd j s = length (s.tape j.reel.slot) ≤ records_on j.reel
IsCounted phase.Over j s = ⊥

phase_bounds : (p : Phase) (a : Around) (j : JobFields) (s : State) → IsCounted p j s → Bounds j.reel.slot (records_on j.reel + 3) s (event_by p a j).effects
phase_bounds phase.Tape a j s counted = tape_bounds (uses_for j (items_at a.slots j.reel.slot)) j s
phase_bounds phase.Clone a j s counted = in_bounds j s (event_by phase.Clone a j).effects counted (clone_lengthens j.reel.slot a.cell (slice_get j.places (length (volumes_done j))) j)
phase_bounds phase.Head a j s counted = in_bounds j s (event_by phase.Head a j).effects counted (hand_lengthens (λ h. head_event a h j) j.hand j (λ h. head_lengthens (has_room 4 2 (counts_on j.port j.reel)) a h j refl))
phase_bounds phase.Piece a j s counted = in_bounds j s (event_by phase.Piece a j).effects counted (hand_lengthens (λ h. piece_event h j) j.hand j (λ h. piece_lengthens (has_room 3 2 (counts_on j.port j.reel)) h j refl))
phase_bounds phase.VolumeEnd a j s counted = in_bounds j s (event_by phase.VolumeEnd a j).effects counted (hand_lengthens (λ h. putting (end_items 1 h) j (volume_ended h j)) j.hand j (λ h. few_lengthen j.reel.slot (end_items 1 h) (omega arith)))
phase_bounds phase.PartEnd a j s counted = in_bounds j s (event_by phase.PartEnd a j).effects counted (part_lengthens true (next_choice a.listed a.slots j) a.log_size j)
phase_bounds phase.DumpEnd a j s counted = in_bounds j s (event_by phase.DumpEnd a j).effects counted (closing_lengthens j.reel.slot (part_end_items 0 j) (event_by phase.DumpEnd a j).changes (omega arith))
phase_bounds phase.Over a j s counted = absurd counted

pub event_bounds : (a : Around) (j : JobFields) (s : State) → IsCounted j.phase j s → Bounds j.reel.slot (records_on j.reel + 3) s (event a j).effects
event_bounds a j s counted = phase_bounds j.phase a j s counted
