-- What an event leaves of a dump: its port, its id and its parent's; and its tapes are the port's.
use Rattle.std.proofs.Common.{◌≡◌, ℕ, Bool, true, false, Option, Some, None, List, [], ◌∷◌, ◌++◌, refl, sym, ap, subst, inl, inr}
use Rattle.std.specs.Prelude.{if◌then◌else◌, ◌&&◌, nat_le, Contains, slice_get, length}
use Rattle.std.proofs.lemmas.Bool.{and_parts, leb-true}
use Rattle.std.proofs.lemmas.List.Elements.{Contains-push_cases}
use Rattle.vnode_model.specs.declared.listed.VolEntry.{VolEntry}
use Rattle.cell_core.specs.declared.stored.Stored.{Stored}
use Rattle.cell_core.specs.declared.stored.Taken.{Taken}
use Rattle.cell_core.specs.Calls.{entry_at, clone_at}
use Rattle.tape_config.specs.declared.port.PortFields.{PortFields}
use Rattle.tape_frames.specs.declared.label.LabelFields.{LabelFields}
use Rattle.budb_changes.specs.declared.records.DumpRecordFields.{DumpRecordFields}
use Rattle.tape_scan.specs.Slots.{Slot}
use Rattle.tape_choice.specs.declared.choosing.Chosen.{Chosen}
use Rattle.tape_choice.specs.declared.wanting.Wanting.{Wanting}
use Rattle.tape_choice.specs.Choice.{is_among, slot_passes, chosen, taking, choice_of}
use Rattle.dump_job.specs.declared.fields.Filled.{Filled}
use Rattle.dump_job.specs.declared.fields.Hand.{Hand}
use Rattle.dump_job.specs.declared.fields.Reel.{Reel}
use Rattle.dump_job.specs.declared.fields.JobFields.{JobFields}
use Rattle.dump_job.specs.declared.fields.Phase.{Phase}
use Rattle.dump_job.specs.declared.fields.Phase.TheVariants as phase
use Rattle.dump_job.specs.Reels.{counts_on, has_room}
use Rattle.dump_job.specs.Taping.{uses_for, reel_begun, taped}
use Rattle.dump_job.specs.Cloning.{volumes_done}
use Rattle.dump_job.specs.Volumes.{end_items, volume_ended}
use Rattle.dump_job.specs.Ending.{closed_part}
use Rattle.dump_job.specs.Passing.{may_go_on, next_wanting, next_choice, next_changes, part_passed, part_refused}
use Rattle.dump_job.specs.Closing.{is_too_long, done_changes, dump_ended}
use Rattle.dump_job.specs.Events.{Around, Event, putting, items_at, clone_by, clone_from, part_end_by, head_event, piece_event, hand_event, event_by, event}
use Rattle.dump_laws.proofs.ChosenLaws.{numbered_get, and_left}
use Rattle.dump_laws.specs.Made.{Basis}
use Rattle.dump_laws.specs.Running.{basis_of}
use Rattle.tape_config.specs.Ports.{IsAmong}
use Rattle.dump_job.specs.Elsewhere.{IsOnPort}

-- ---- a tape that is chosen

among_in : (listed : List DumpRecordFields) (port : PortFields) (o : Option (ℕ × Slot)) (c : Chosen) → ((x : ℕ × Slot) → o ≡ Some x → is_among port x.0 ≡ true) → choice_of listed o ≡ Some c → IsAmong port c.slot
among_in listed port None c each is = absurd (cc)
among_in listed port (Some (k, s)) c each is =
    let same : taking listed k s.items ≡ c = cc in
    let slot : k ≡ c.slot = ap (λ (x : Chosen). x.slot) same in
    let both = and_parts (nat_le port.first k) (nat_le k port.last) (each (k, s) refl) in
    subst (IsAmong port) slot (leb-true port.first k both.0, leb-true k port.last both.1)

pub chosen_among : (listed : List DumpRecordFields) (w : Wanting) (port : PortFields) (slots : List Slot) (c : Chosen) → choice_of listed (chosen listed w port slots) ≡ Some c → IsAmong port c.slot
chosen_among listed w port slots c is =
    among_in listed port (chosen listed w port slots) c
    (λ x found.
    (let place = numbered_get (λ (y : ℕ × Slot). is_among port y.0 && slot_passes listed w y.0 y.1) 0 slots x found in
    and_left (is_among port x.0) (slot_passes listed w x.0 x.1) place.3)) is

if_chosen : (b : Bool) (o : Option Chosen) (port : PortFields) (c : Chosen) → ((x : Chosen) → o ≡ Some x → IsAmong port x.slot) → (if b then o else None) ≡ Some c → IsAmong port c.slot
if_chosen true o port c each is = each c is
if_chosen false o port c each is = absurd (cc)

next_among : (a : Around) (j : JobFields) (c : Chosen) → next_choice a.listed a.slots j ≡ Some c → IsAmong j.port c.slot
next_among a j c is = if_chosen (may_go_on j) (choice_of a.listed (chosen a.listed (next_wanting a.listed j) j.port a.slots)) j.port c (λ x found. chosen_among a.listed (next_wanting a.listed j) j.port a.slots x found) is

-- ---- what stays

pub record Same (j k : JobFields) : Type 0 where
  pub port : k.port ≡ j.port
  pub id : k.head.id ≡ j.head.id
  pub above : k.head.parent ≡ j.head.parent
  pub basis : basis_of k ≡ basis_of j
  pub on : IsOnPort j → IsOnPort k

same_self : (j : JobFields) → Same j j
same_self j = record { port = refl; id = refl; above = refl; basis = refl; on = λ on. on }

either_same : (long : Bool) (j k l : JobFields) → Same j k → Same j l → Same j (if long then k else l)
either_same true j k l a b = a
either_same false j k l a b = b

-- the same tapes
same_tapes : (j k : JobFields) → k.port ≡ j.port → basis_of k ≡ basis_of j → k.reel.slot ≡ j.reel.slot → k.filled ≡ j.filled → Same j k
same_tapes j k port basis slot filled = record {
  port = port;
  id = ap (λ (b : Basis). b.id) basis;
  above = ap (λ (b : Basis). b.above) basis;
  basis = basis;
  on = λ on. record {
    reel = subst (λ (p : PortFields). IsAmong p k.reel.slot) (sym port) (subst (IsAmong j.port) (sym slot) on.reel);
    filled = λ f there. subst (λ (p : PortFields). IsAmong p f.slot) (sym port) (on.filled f (subst (λ (l : List Filled). Contains l f) filled there));
  };
}

clone_by_same : (e : Option VolEntry) (c : Option Taken) (j : JobFields) → Same j (clone_by e c j).job
clone_by_same None c j = same_self j
clone_by_same (Some e) None j = same_self j
clone_by_same (Some e) (Some c) j = same_tapes j (clone_by (Some e) (Some c) j).job refl refl refl refl

clone_same : (cell : List Stored) (o : Option ℕ) (j : JobFields) → Same j (clone_from cell o j).job
clone_same cell None j = same_self j
clone_same cell (Some place) j = clone_by_same (entry_at cell place) (clone_at cell place j.time) j

-- the next part, on a tape of the port
passed_same : (cut : Bool) (c : Chosen) (j : JobFields) → IsAmong j.port c.slot → Same j (part_passed cut c j)
passed_same cut c j among = record {
  port = refl;
  id = refl;
  above = refl;
  basis = refl;
  on = λ on. record {
    reel = among;
    filled = λ f there. elim (Contains-push_cases j.filled (record { slot = j.reel.slot; part = closed_part j }) f there) [
      | inl old ↦ on.filled f old
      | inr new ↦ subst (λ (x : Filled). IsAmong j.port x.slot) new on.reel
    ];
  };
}

part_same : (cut : Bool) (o : Option Chosen) (size : ℕ) (j : JobFields) → ((c : Chosen) → o ≡ Some c → IsAmong j.port c.slot) → Same j (part_end_by cut o size j).job
part_same cut None size j among = same_tapes j (part_refused j) refl refl refl refl
part_same cut (Some c) size j among = either_same (is_too_long size (next_changes (Some c))) j (part_refused j) (part_passed cut c j) (same_tapes j (part_refused j) refl refl refl refl) (passed_same cut c j (among c refl))

hand_same : (step : Hand → Event) (hand : Option Hand) (j : JobFields) → ((h : Hand) → Same j (step h).job) → Same j (hand_event step hand j).job
hand_same step None j each = same_self j
hand_same step (Some h) j each = each h

head_same : (room : Bool) (a : Around) (h : Hand) (j : JobFields) → has_room 4 2 (counts_on j.port j.reel) ≡ room → Same j (head_event a h j).job
head_same true a h j room = rw room (same_tapes j _ refl refl refl refl)
head_same false a h j room = rw room (part_same false (next_choice a.listed a.slots j) a.log_size j (next_among a j))

piece_same : (room : Bool) (h : Hand) (j : JobFields) → has_room 3 2 (counts_on j.port j.reel) ≡ room → Same j (piece_event h j).job
piece_same true h j room = rw room (same_tapes j _ refl refl refl refl)
piece_same false h j room = rw room (same_tapes j _ refl refl refl refl)

begun_slot : (label : Option LabelFields) (reel : Reel) → (reel_begun label reel).slot ≡ reel.slot
begun_slot None reel = refl
begun_slot (Some label) reel = refl

phase_same : (p : Phase) (a : Around) (j : JobFields) → Same j (event_by p a j).job
phase_same phase.Tape a j = same_tapes j (taped (uses_for j (items_at a.slots j.reel.slot)) j) refl refl (begun_slot j.label j.reel) refl
phase_same phase.Clone a j = clone_same a.cell (slice_get j.places (length (volumes_done j))) j
phase_same phase.Head a j = hand_same (λ h. head_event a h j) j.hand j (λ h. head_same (has_room 4 2 (counts_on j.port j.reel)) a h j refl)
phase_same phase.Piece a j = hand_same (λ h. piece_event h j) j.hand j (λ h. piece_same (has_room 3 2 (counts_on j.port j.reel)) h j refl)
phase_same phase.VolumeEnd a j = hand_same (λ h. putting (end_items 1 h) j (volume_ended h j)) j.hand j (λ h. same_tapes j (volume_ended h j) refl refl refl refl)
phase_same phase.PartEnd a j = part_same true (next_choice a.listed a.slots j) a.log_size j (next_among a j)
phase_same phase.DumpEnd a j = either_same (is_too_long a.log_size (done_changes j)) j (dump_ended j) (dump_ended j) (same_tapes j (dump_ended j) refl refl refl refl) (same_tapes j (dump_ended j) refl refl refl refl)
phase_same phase.Over a j = same_self j

pub event_same : (a : Around) (j : JobFields) → Same j (event a j).job
event_same a j = phase_same j.phase a j
