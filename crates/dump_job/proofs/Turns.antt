-- The step of each phase: what it asks of a dump that fits, what it did, and what is so of it whatever is told.
use Rattle.std.proofs.Common.{◌≡◌, ◌≢◌, ℕ, ◌+◌, ◌-◌, ◌<◌, ◌≤◌, Bool, true, false, List, [], ◌∷◌, ◌++◌, Option, Some, None, length, map, refl, sym, ◌∙◌, ap, subst, arith, length-append}
use Rattle.std.specs.Prelude.{◌==◌, nat_lt, if◌then◌else◌, Result, Ok, Err, OnOk, OnErr, IfSome, IsSome, IsTrue, All, slice_get, get_or}
use Rattle.std.proofs.lemmas.List.{append-nil, length-map}
use Rattle.std.proofs.lemmas.List.Elements.{All-nil, All-cons, All-head, All-tail}
use Rattle.std.proofs.lemmas.Option.{slice_get-get_or}
use Rattle.std.proofs.Math.Seq.{get_or-append_seam}
use Rattle.bk_text.specs.Alphabets.{IsTapeName}
use Rattle.byte_formats.specs.Forms.{IsMaybe}
use Rattle.vnode_model.specs.declared.listed.VolEntry.{VolEntry}
use Rattle.plant_core.specs.declared.fault.Failed.{Failed as PlantFault}
use Rattle.plant_core.specs.declared.plant.Plant.{Ghosts as Plant}
use Rattle.plant_core.specs.Crashes.{State}
use Rattle.plant_core.specs.Effects.{Effect, cuts, comes, come}
use Rattle.plant_core.specs.Records.{NoBad}
use Rattle.plant_effects.specs.Runs.{state_of, Done, Leaves}
use Rattle.plant_effects.proofs.Joining.{Fits, nothing_done, nothing_left, nothing_quiet}
use Rattle.cell_core.specs.declared.stored.Stored.{Stored}
use Rattle.cell_core.specs.declared.stored.Taken.{Taken}
use Rattle.cell_core.specs.Calls.{entry_at, clone_at}
use Rattle.tape_text.specs.Items.{Item, Read}
use Rattle.tape_scan.specs.Slots.{Slot}
use Rattle.tape_scan.specs.Looking.{HasSlots}
use Rattle.tape_writer.specs.Puts.{puts_on}
use Rattle.tape_writer.specs.Room.{HasRoom}
use Rattle.tape_choice.specs.declared.choosing.Chosen.{Chosen}
use Rattle.budb_changes.specs.declared.change.Change.{Change}
use Rattle.budb_changes.specs.declared.records.DumpRecordFields.{DumpRecordFields}
use Rattle.budb_changes.specs.Forms.{IsChange}
use Rattle.budb_changes.specs.Dumps.{IsNamed}
use Rattle.budb_fold.specs.declared.database.Database.{Database}
use Rattle.budb.specs.declared.fault.CommitFault.{CommitFault}
use Rattle.budb.specs.declared.fault.CommitFault.TheVariants as commit
use Rattle.budb.specs.Views.{BudbView}
use Rattle.budb.specs.Kept.{Keeps}
use Rattle.dump_job.specs.declared.answer.StepAnswer.{StepAnswer}
use Rattle.dump_job.specs.declared.answer.StepAnswer.TheVariants as answers
use Rattle.dump_job.specs.declared.cloning.CloneFault.{CloneFault}
use Rattle.dump_job.specs.declared.cloning.CloneFault.TheVariants as clone
use Rattle.dump_job.specs.declared.fault.JobFault.{JobFault}
use Rattle.dump_job.specs.declared.fault.JobFault.TheVariants.{NothingToAppend, NoTape, CapacityTooSmall, IdsSpent, LogFull, Failed, Memory}
use Rattle.dump_job.specs.declared.order.DumpOrder.{DumpOrder}
use Rattle.dump_job.specs.declared.first_tapes.FirstTape.{FirstTape}
use Rattle.dump_job.specs.declared.fields.Filled.{Filled}
use Rattle.dump_job.specs.declared.fields.Hand.{Hand}
use Rattle.dump_job.specs.declared.fields.JobFields.{JobFields}
use Rattle.dump_job.specs.declared.fields.Phase.{Phase}
use Rattle.dump_job.specs.declared.fields.Phase.TheVariants as phase
use Rattle.dump_job.specs.Reels.{records_on, with_more, counts_on, has_room, IsOn, turn_of, Turns}
use Rattle.dump_job.specs.Taping.{IsFor, uses_for, taped, tape_effects, IsTaped}
use Rattle.dump_job.specs.Cloning.{volumes_done, first_hand, cloned, Clones}
use Rattle.dump_job.specs.Ending.{part_end_items, closed_part, all_parts, place_of_part}
use Rattle.dump_job.specs.Settling.{last_filled, slot_in, last_cut_by, last_cut}
use Rattle.dump_job.specs.Beginning.{fresh, begun_job, IsReady}
use Rattle.dump_job.specs.Faults.{LeavesBehindLoads}
use Rattle.dump_job.specs.Closing.{committing, made_of, HasEnded, Closes, Makes, done_changes, dump_ended}
use Rattle.dump_job.specs.Passing.{next_choice, next_changes, next_name, part_passed, part_refused, closing_of, GoesBy, IsPassed, UnlessCutOff, PartEnds}
use Rattle.dump_job.specs.Events.{Around, Event, items_of, items_at, putting, tape_event, clone_by, clone_from, clone_event, part_end_by, part_end_event, dump_end_event, hand_event, head_event, piece_event, event_by, event}
use Rattle.dump_job.specs.Volumes.{head_items, headed, without_piece, piece_items, pieced, end_items, volume_ended, volume_cut}
use Rattle.dump_job.specs.Jobs.{IsAtTape, IsAtClone, IsAtHead, IsAtPiece, IsAtVolumeEnd, IsAt, IsInHand, IsJob, IsWholeIn, FitsTape, FitsAt, FitsJob}
use Rattle.dump_job.specs.Left.{left_of}
use Rattle.dump_job.specs.Stepping.{IsPlantAround, Does, TakesMemory, Steps, put_answer, clone_answer, pass_answer, done_answer}
use Rattle.dump_job.proofs.Closings.{puts_log}
use Rattle.dump_job.proofs.Jobs.{taped_is_job, cloned_is_job, headed_is_job, pieced_is_job, cut_is_job, ended_is_job, refused_is_job, passed_is_job}
use Rattle.dump_job.proofs.Left.{taped_less, cloned_less, headed_less, pieced_less, cut_less, ended_less, passed_less}
use Rattle.dump_job.proofs.Events.{done_by_turn, left_by_turn, does_put, does_close, does_full, does_none, left_by_close}
use Rattle.dump_job.proofs.Fits.{behind_no_tape, behind_not_over, after_no_tape, after_not_over, begun_no_tape, begun_not_over, fits_on, on_fits, steps_made, steps_failed, steps_memory, steps_cell, still_loads, lost_loads}

-- ---- lists

get_end : (filled : List Filled) (f : Filled) → slice_get (filled ++ f ∷ []) (length filled) ≡ Some f
get_end filled f =
    let within : length filled < length (filled ++ f ∷ []) = omega (arith, length-append filled (f ∷ [])) in
    slice_get-get_or (filled ++ f ∷ []) (length filled) f within ∙ ap (λ (x : Filled). Some x) (get_or-append_seam filled f [] f)

last_with : (filled : List Filled) (f : Filled) → last_filled (filled ++ f ∷ []) ≡ Some f.slot
last_with filled f =
    let long : length (filled ++ f ∷ []) - 1 ≡ length filled = omega (arith, length-append filled (f ∷ [])) in
    ap (λ (n : ℕ). slot_in (slice_get (filled ++ f ∷ []) n)) long ∙ ap slot_in (get_end filled f)

-- ---- what there is in hand

pub hand_there : (hand : Option Hand) → IsSome hand → (h : Hand) × (hand ≡ Some h)
hand_there None some = absurd (cc)
hand_there (Some h) some = (h, refl)

pub few_fragments : (j : JobFields) (hand : Option Hand) → IfSome hand (IsInHand j) → length j.filled ≤ 65534 → IfSome hand (λ h. h.head.fragment ≤ 4294967294)
few_fragments j None there few = tt
few_fragments j (Some h) there few = omega (arith, there.frags, there.fragment, few)

pub few_frags : (j : JobFields) (hand : Option Hand) → IfSome hand (IsInHand j) → length j.filled ≤ 65534 → IfSome hand (λ h. length h.frags ≤ 65534)
few_frags j None there few = tt
few_frags j (Some h) there few = omega (arith, there.frags, few)

pub few_all_parts : (j : JobFields) → length j.filled ≤ 65534 → length (all_parts j) ≤ 65535
few_all_parts j few = omega (arith, few, length-append (map place_of_part j.filled) (closed_part j ∷ []), length-map j.filled place_of_part)

pub all_named : (j : JobFields) (filled : List Filled) → All IsNamed (map place_of_part filled) → IsMaybe IsTapeName j.head.permanent → All IsNamed (map place_of_part filled ++ closed_part j ∷ [])
all_named j [] named form = All-cons IsNamed (closed_part j) [] form (All-nil IsNamed)
all_named j (f ∷ fs) named form = All-cons IsNamed f.part (map place_of_part fs ++ closed_part j ∷ []) (All-head IsNamed f.part (map place_of_part fs) named) (all_named j fs (All-tail IsNamed f.part (map place_of_part fs) named) form)

pub head_due : (j : JobFields) → j.phase ≡ phase.Head → IsJob j → IsAtHead j
head_due j at job = subst (λ (p : Phase). IsAt p j) at job.at

pub piece_due : (j : JobFields) → j.phase ≡ phase.Piece → IsJob j → IsAtPiece j
piece_due j at job = subst (λ (p : Phase). IsAt p j) at job.at

pub end_due : (j : JobFields) → j.phase ≡ phase.VolumeEnd → IsJob j → IsAtVolumeEnd j
end_due j at job = subst (λ (p : Phase). IsAt p j) at job.at

pub part_due : (j : JobFields) → j.phase ≡ phase.PartEnd → IsJob j → IsAtHead j
part_due j at job = subst (λ (p : Phase). IsAt p j) at job.at

pub last_due : (j : JobFields) → j.phase ≡ phase.DumpEnd → IsJob j → HasRoom 1 1 (counts_on j.port j.reel)
last_due j at job = subst (λ (p : Phase). IsAt p j) at job.at

pub clone_due : (j : JobFields) → j.phase ≡ phase.Clone → IsJob j → IsAtClone j
clone_due j at job = subst (λ (p : Phase). IsAt p j) at job.at

pub part_needs : (j : JobFields) → IsJob j → (j.head.part + 1 ≤ 4294967295) × IfSome j.hand (λ h. h.head.fragment ≤ 4294967294)
part_needs j job = (omega (arith, job.part, job.few_parts), few_fragments j j.hand job.hand job.few_parts)

pub few_done : (j : JobFields) → IsJob j → length (volumes_done j) ≤ 4294967295
few_done j job = omega (arith, job.volumes, job.few_volumes)

pub event_at : (around : Around) (j : JobFields) (p : Phase) → j.phase ≡ p → event around j ≡ event_by p around j
event_at around j p at = ap (λ (q : Phase). event_by q around j) at

-- ---- a step goes on

pub taped_goes : (uses : ℕ) (j k : JobFields) → k ≡ taped uses j → k.phase ≢ phase.Over
taped_goes uses j k is = subst (λ (x : JobFields). x.phase ≢ phase.Over) (sym is) (begun_not_over j.hand)

pub headed_goes : (h : Hand) (j k : JobFields) → k ≡ headed h j → k.phase ≢ phase.Over
headed_goes h j k is = subst (λ (x : JobFields). x.phase ≢ phase.Over) (sym is) (behind_not_over (length h.stream == 0))

pub pieced_goes : (h : Hand) (j k : JobFields) → k ≡ pieced h j → k.phase ≢ phase.Over
pieced_goes h j k is = subst (λ (x : JobFields). x.phase ≢ phase.Over) (sym is) (behind_not_over (length (without_piece h).stream == 0))

pub cut_goes : (h : Hand) (j k : JobFields) → k ≡ volume_cut j → k.phase ≢ phase.Over
cut_goes h j k is = subst (λ (x : JobFields). x.phase ≢ phase.Over) (sym is) (λ e. cc)

pub ended_goes : (h : Hand) (j k : JobFields) → k ≡ volume_ended h j → k.phase ≢ phase.Over
ended_goes h j k is = subst (λ (x : JobFields). x.phase ≢ phase.Over) (sym is) (after_not_over (nat_lt (h.head.index + 1) (length j.places)))

less_by : (j k next : JobFields) → k ≡ next → left_of next < left_of j → left_of k < left_of j
less_by j k next is less = subst (λ (x : JobFields). left_of x < left_of j) (sym is) less

pub taped_falls : (uses : ℕ) (j k : JobFields) → j.phase ≡ phase.Tape → k ≡ taped uses j → left_of k < left_of j
taped_falls uses j k at is = less_by j k (taped uses j) is (taped_less uses j at)

pub headed_falls : (h : Hand) (j k : JobFields) → j.phase ≡ phase.Head → j.hand ≡ Some h → IsJob j → k ≡ headed h j → left_of k < left_of j
headed_falls h j k at there job is = less_by j k (headed h j) is (headed_less h j at there)

pub pieced_falls : (h : Hand) (j k : JobFields) → j.phase ≡ phase.Piece → j.hand ≡ Some h → IsJob j → k ≡ pieced h j → left_of k < left_of j
pieced_falls h j k at there job is = less_by j k (pieced h j) is (pieced_less h j at there job)

pub cut_falls : (h : Hand) (j k : JobFields) → j.phase ≡ phase.Piece → j.hand ≡ Some h → IsJob j → k ≡ volume_cut j → left_of k < left_of j
cut_falls h j k at there job is = less_by j k (volume_cut j) is (cut_less j at)

pub ended_falls : (h : Hand) (j k : JobFields) → j.phase ≡ phase.VolumeEnd → j.hand ≡ Some h → IsJob j → k ≡ volume_ended h j → left_of k < left_of j
ended_falls h j k at there job is = less_by j k (volume_ended h j) is (ended_less h j at)

-- two views of the database that have the same in them
views_same : (a b : BudbView) → a.database ≡ b.database → a.prepared ≡ b.prepared → a ≡ b
views_same a b same both =
    ap (λ (d : Database). let v : BudbView = record { database = d; prepared = a.prepared } in v) same
    ∙ ap (λ (p : Option (List Change)). let v : BudbView = record { database = b.database; prepared = p } in v) both

-- ---- the tapes of slots

get_items : (slots : List Slot) (k : ℕ) → k < length slots → (s : Slot) × (slice_get slots k ≡ Some s)
get_items [] k within = absurd (omega (arith, within))
get_items (s ∷ ss) k within = (get_or (s ∷ ss) k s, slice_get-get_or (s ∷ ss) k s within)

module _ {D : Type 0} (P : Plant D) where
  pub read_at : (slots : List Slot) (k : ℕ) (plant : D) → k < (P.view plant).slots → HasSlots P slots plant → Read ((state_of P plant).tape k) (items_at slots k)
  read_at slots k plant within has =
      let one = get_items slots k (omega (arith, within, has.count)) in
      subst (λ (o : Option Slot). Read ((state_of P plant).tape k) (items_of o)) (sym one.1) (has.each k one.0 one.1).items

  -- ---- what a step asks of a dump that fits

  pub ready_of : (j : JobFields) (plant : D) → j.phase ≡ phase.Tape → FitsJob P j plant → IsReady P j plant
  ready_of j plant at fit =
      let tape : FitsTape P j plant = subst (λ (p : Phase). FitsAt P p j plant) at fit.tape in
      let due : IsAtTape j = subst (λ (p : Phase). IsAt p j) at fit.job.at in
      record { fit = tape.next; marks = fit.job.marks; few = due.few; room = due.room; spare = due.spare; uses = due.uses }

  pub on_of : (p : Phase) (j : JobFields) (plant : D) → j.phase ≡ p → p ≢ phase.Tape → FitsJob P j plant → IsOn P j.reel.slot (records_on j.reel) plant
  on_of p j plant at never fit = fits_on P j.phase j plant (λ is. never (sym at ∙ is)) fit.tape

  -- of a step that may be refused memory the tape in hand was begun
  pub on_head : (j : JobFields) (plant : D) → TakesMemory j.phase j → FitsJob P j plant → IsOn P j.reel.slot (records_on j.reel) plant
  on_head j plant taking fit = fits_on P j.phase j plant (λ is. subst (λ (p : Phase). TakesMemory p j) is taking) fit.tape

  -- ---- a dump fits again

  fits_made : (k next : JobFields) (plant : D) → k ≡ next → next.phase ≢ phase.Tape → IsJob next → IsOn P k.reel.slot (records_on k.reel) plant → FitsJob P k plant
  fits_made k next plant is never job on = subst (λ (x : JobFields). FitsJob P x plant) (sym is) (record {
    job = job;
    tape = on_fits P next.phase next plant never (subst (λ (x : JobFields). IsOn P x.reel.slot (records_on x.reel) plant) is on);
  })

  pub taped_fits : (uses : ℕ) (j k : JobFields) (plant : D) → j.phase ≡ phase.Tape → IsJob j → k ≡ taped uses j → HasRoom 4 2 (counts_on k.port k.reel)
      → IsOn P k.reel.slot (records_on k.reel) plant → FitsJob P k plant
  taped_fits uses j k plant at job is room on =
      fits_made k (taped uses j) plant is (begun_no_tape j.hand) (taped_is_job uses j at job (subst (λ (x : JobFields). HasRoom 4 2 (counts_on x.port x.reel)) is room)) on

  pub headed_fits : (h : Hand) (j k : JobFields) (plant : D) → j.phase ≡ phase.Head → j.hand ≡ Some h → IsJob j → k ≡ headed h j → HasRoom 3 2 (counts_on k.port k.reel)
      → IsOn P k.reel.slot (records_on k.reel) plant → FitsJob P k plant
  headed_fits h j k plant at there job is room on =
      fits_made k (headed h j) plant is (behind_no_tape (length h.stream == 0)) (headed_is_job h j there job (subst (λ (x : JobFields). HasRoom 3 2 (counts_on x.port x.reel)) is room)) on

  pub pieced_fits : (h : Hand) (j k : JobFields) (plant : D) → j.phase ≡ phase.Piece → j.hand ≡ Some h → IsJob j → k ≡ pieced h j → HasRoom 2 2 (counts_on k.port k.reel)
      → IsOn P k.reel.slot (records_on k.reel) plant → FitsJob P k plant
  pieced_fits h j k plant at there job is room on =
      fits_made k (pieced h j) plant is (behind_no_tape (length (without_piece h).stream == 0)) (pieced_is_job h j at there job (subst (λ (x : JobFields). HasRoom 2 2 (counts_on x.port x.reel)) is room)) on

  pub cut_fits : (h : Hand) (j k : JobFields) (plant : D) → j.phase ≡ phase.Piece → j.hand ≡ Some h → IsJob j → k ≡ volume_cut j → HasRoom 1 1 (counts_on k.port k.reel)
      → IsOn P k.reel.slot (records_on k.reel) plant → FitsJob P k plant
  cut_fits h j k plant at there job is room on =
      fits_made k (volume_cut j) plant is (λ e. cc) (cut_is_job h j there job (subst (λ (x : JobFields). HasRoom 1 1 (counts_on x.port x.reel)) is room)) on

  pub ended_fits : (h : Hand) (j k : JobFields) (plant : D) → j.phase ≡ phase.VolumeEnd → j.hand ≡ Some h → IsJob j → k ≡ volume_ended h j → HasRoom 1 1 (counts_on k.port k.reel)
      → IsOn P k.reel.slot (records_on k.reel) plant → FitsJob P k plant
  ended_fits h j k plant at there job is room on =
      fits_made k (volume_ended h j) plant is (after_no_tape (nat_lt (h.head.index + 1) (length j.places))) (ended_is_job h j there job (subst (λ (x : JobFields). HasRoom 1 1 (counts_on x.port x.reel)) is room)) on

  sound_of : (p : Phase) (j : JobFields) (plant : D) → FitsAt P p j plant → P.sound plant
  sound_of phase.Tape j plant fit = fit.next.sound
  sound_of phase.Clone j plant fit = fit.sound
  sound_of phase.Head j plant fit = fit.sound
  sound_of phase.Piece j plant fit = fit.sound
  sound_of phase.VolumeEnd j plant fit = fit.sound
  sound_of phase.PartEnd j plant fit = fit.sound
  sound_of phase.DumpEnd j plant fit = fit.sound
  sound_of phase.Over j plant fit = fit.sound

  pub sound_job : (j : JobFields) (plant : D) → FitsJob P j plant → P.sound plant
  sound_job j plant fit = sound_of j.phase j plant fit.tape

  -- ---- a dump that is begun

  pub begun_fits : (o : DumpOrder) (listed : List DumpRecordFields) (id : ℕ) (t : FirstTape) (j : JobFields) (plant : D) → j ≡ begun_job o listed id t → 1 ≤ length o.volumes
      → length o.volumes ≤ 4294967295 → HasRoom 6 3 (fresh o.port) → IsReady P j plant → FitsJob P j plant
  begun_fits o listed id t j plant is some few least ready =
      let due = subst (λ (x : JobFields). IsReady P x plant) is ready in
      subst (λ (x : JobFields). FitsJob P x plant) (sym is) (record {
        job = record {
          fresh = least;
          marks = due.marks;
          part = refl;
          few_parts = omega arith;
          named = All-nil IsNamed;
          hand = tt;
          volumes = omega arith;
          few_volumes = few;
          at = record { few = due.few; room = due.room; spare = due.spare; uses = due.uses; hand = omega (arith, some) };
        };
        tape = record { next = due.fit; last = tt };
      })

  -- ---- the tape that was cut last

  here_at : (p : Phase) (j : JobFields) (plant : D) → FitsAt P p j plant → IfSome (last_cut_by p j.filled j.reel.slot) (IsWholeIn P plant)
  here_at phase.Tape j plant fit = fit.last
  here_at phase.Clone j plant fit = record { here = fit.here; whole = fit.whole }
  here_at phase.Head j plant fit = record { here = fit.here; whole = fit.whole }
  here_at phase.Piece j plant fit = record { here = fit.here; whole = fit.whole }
  here_at phase.VolumeEnd j plant fit = record { here = fit.here; whole = fit.whole }
  here_at phase.PartEnd j plant fit = record { here = fit.here; whole = fit.whole }
  here_at phase.DumpEnd j plant fit = record { here = fit.here; whole = fit.whole }
  here_at phase.Over j plant fit = record { here = fit.here; whole = fit.whole }

  cut_parts : (last : Option ℕ) (plant : D) → IfSome last (IsWholeIn P plant)
      → IfSome last (λ slot. IsTrue ((P.view plant).present slot)) × IfSome last (λ slot. P.tells → NoBad ((state_of P plant).tape slot))
  cut_parts None plant there = (tt, tt)
  cut_parts (Some slot) plant there = (there.here, there.whole)

  pub settled_needs : (j : JobFields) (plant : D) → FitsJob P j plant
      → IfSome (last_cut j) (λ slot. IsTrue ((P.view plant).present slot)) × IfSome (last_cut j) (λ slot. P.tells → NoBad ((state_of P plant).tape slot))
  settled_needs j plant fit = cut_parts (last_cut j) plant (here_at j.phase j plant fit.tape)

  -- ---- tape

  tape_log : (uses : ℕ) (j : JobFields) (s : State) → (come (tape_effects uses j) s).log ≡ s.log
  tape_log uses j s = puts_log j.reel.slot _ (comes (cuts j.reel.slot (records_on j.reel)) s)

  pub does_tape : (result : Result Bool PlantFault) (around : Around) (budb : BudbView) (old new : D) (j k : JobFields) → j.reel.slot < (P.view old).slots → IsPlantAround P around budb old
      → (result ≡ Ok true → IsTaped P.tells ((state_of P old).tape j.reel.slot) j k)
      → ((items : List Item) → (P.tells → Read ((state_of P old).tape j.reel.slot) items) → Turns P j.reel.slot (tape_effects (uses_for j items) j) result old new)
      → Does P (tape_event (uses_for j (items_at around.slots j.reel.slot)) j) (put_answer result) budb budb old new k
  does_tape result around budb old new j k within near begun turns =
      let items = items_at around.slots j.reel.slot in
      let uses = uses_for j items in
      let read = read_at around.slots j.reel.slot old within near.slots in
      does_put P j.reel.slot (tape_effects uses j) result budb old new (taped uses j) k near.tells (tape_log uses j) (turns items (λ tells. read))
      (λ is. (begun is).is ∙ ap (λ (n : ℕ). taped n j) ((begun is).right near.tells items read))

  -- ---- puts of the volume in hand

  pub does_hand : (result : Result Bool PlantFault) (items : Hand → List Item) (next : Hand → JobFields) (budb : BudbView) (old new : D) (j k : JobFields) → IsSome j.hand → P.tells
      → ((h : Hand) → j.hand ≡ Some h → result ≡ Ok true → k ≡ next h) → ((h : Hand) → j.hand ≡ Some h → Turns P j.reel.slot (puts_on j.reel.slot (items h)) result old new)
      → Does P (hand_event (λ h. putting (items h) j (next h)) j.hand j) (put_answer result) budb budb old new k
  does_hand result items next budb old new j k some tells moved turns =
      let one = hand_there j.hand some in
      let h = one.0 in
      subst (λ (o : Option Hand). Does P (hand_event (λ h. putting (items h) j (next h)) o j) (put_answer result) budb budb old new k) (sym one.1)
      (does_put P j.reel.slot (puts_on j.reel.slot (items h)) result budb old new (next h) k tells (puts_log j.reel.slot (items h)) (turns h one.1) (moved h one.1))

  -- by whether there is room
  pub piece_by_room : (room : Bool) (j k : JobFields) (budb : BudbView) (old new : D) (answer : StepAnswer) → has_room 3 2 (counts_on j.port j.reel) ≡ room
      → Does P (hand_event (λ h. if room then putting (piece_items h) j (pieced h j) else putting (end_items 0 h) j (volume_cut j)) j.hand j) answer budb budb old new k
      → Does P (hand_event (λ h. piece_event h j) j.hand j) answer budb budb old new k
  piece_by_room room j k budb old new answer is does =
      subst (λ (b : Bool). Does P (hand_event (λ h. if b then putting (piece_items h) j (pieced h j) else putting (end_items 0 h) j (volume_cut j)) j.hand j) answer budb budb old new k) (sym is) does

  pub head_with_room : (around : Around) (j k : JobFields) (budb after : BudbView) (old new : D) (answer : StepAnswer) → has_room 4 2 (counts_on j.port j.reel) ≡ true
      → Does P (hand_event (λ h. putting (head_items h) j (headed h j)) j.hand j) answer budb after old new k
      → Does P (hand_event (λ h. head_event around h j) j.hand j) answer budb after old new k
  head_with_room around j k budb after old new answer is does =
      subst (λ (b : Bool). Does P (hand_event (λ h. if b then putting (head_items h) j (headed h j) else part_end_event false around j) j.hand j) answer budb after old new k) (sym is) does

  pub head_without_room : (around : Around) (j k : JobFields) (budb after : BudbView) (old new : D) (answer : StepAnswer) → IsSome j.hand → has_room 4 2 (counts_on j.port j.reel) ≡ false
      → Does P (part_end_event false around j) answer budb after old new k → Does P (hand_event (λ h. head_event around h j) j.hand j) answer budb after old new k
  head_without_room around j k budb after old new answer some is does =
      let one = hand_there j.hand some in
      subst (λ (o : Option Hand). Does P (hand_event (λ h. head_event around h j) o j) answer budb after old new k) (sym one.1)
      (subst (λ (b : Bool). Does P (if b then putting (head_items one.0) j (headed one.0 j) else part_end_event false around j) answer budb after old new k) (sym is) does)

  -- ---- clone

  clone_is : (cell : List Stored) (j : JobFields) (place : ℕ) (e : VolEntry) (c : Taken) → slice_get j.places (length (volumes_done j)) ≡ Some place → entry_at cell place ≡ Some e
      → clone_at cell place j.time ≡ Some c → clone_event cell j ≡ clone_by (Some e) (Some c) j
  clone_is cell j place e c next found taken =
      ap (λ (o : Option ℕ). clone_from cell o j) next ∙ ap (λ (o : Option VolEntry). clone_by o (clone_at cell place j.time) j) found ∙ ap (λ (o : Option Taken). clone_by (Some e) o j) taken

  pub does_clone : (told : Type 0) (cell : List Stored) (result : Result (Unit {0}) CloneFault) (budb : BudbView) (plant : D) (j k : JobFields) → told → P.sound plant → Fits P plant
      → OnOk result (Clones told cell j k) → Does P (clone_event cell j) (clone_answer result) budb budb plant plant k
  does_clone told cell (Ok none) budb plant j k tells sound fits clones =
      let is = clone_is cell j clones.place clones.entry clones.clone clones.next (clones.found tells) (clones.taken tells) in
      subst (λ (e : Event). Does P e answers.More budb budb plant plant k) (sym is) (record {
        answers = λ stepped. refl;
        job = λ stepped. clones.is;
        form = λ stepped. All-nil IsChange;
        database = λ stepped. refl;
        keeps = λ log keeps stepped. subst (λ (l : List Change). Keeps l (state_of P plant).log budb) (sym (append-nil log)) keeps;
        done = λ stepped. record { away = []; done = nothing_done P plant sound };
        leaves = record { away = []; leaves = nothing_left P [] plant fits };
      })
  does_clone told cell (Err clone.Failed) budb plant j k tells sound fits clones =
      does_none P (clone_event cell j) answers.CellFailed budb budb plant plant k (λ stepped. stepped) (record { away = []; leaves = nothing_left P (clone_event cell j).effects plant fits })
  does_clone told cell (Err clone.Memory) budb plant j k tells sound fits clones =
      does_none P (clone_event cell j) answers.Memory budb budb plant plant k (λ stepped. stepped) (record { away = []; leaves = nothing_left P (clone_event cell j).effects plant fits })

  pub steps_clone : (told : Type 0) (cell : List Stored) (result : Result (Unit {0}) CloneFault) (budb : BudbView) (plant : D) (j k : JobFields) → j.phase ≡ phase.Clone → P.sound plant → Fits P plant
      → FitsJob P j plant → budb.prepared ≡ None → OnOk result (Clones told cell j k) → OnOk result (IfSome k.hand (λ h. length h.stream < 1073741824)) → OnErr result (k ≡ j) → Steps P (clone_answer result) budb budb plant plant j k
  steps_clone told cell (Ok none) budb plant j k at sound fits fit nothing clones few same =
      let is = clones.is in
      let next = cloned clones.entry clones.clone j in
      let on = on_of phase.Clone j plant at (λ is. cc) fit in
      let short : length (first_hand j clones.entry clones.clone).stream < 1073741824 = subst (λ (x : JobFields). IfSome x.hand (λ h. length h.stream < 1073741824)) is few in
      let fit_next : FitsJob P next plant = record { job = cloned_is_job clones.entry clones.clone j at fit.job short; tape = on } in
      let less = cloned_less clones.entry clones.clone j (clone_due j at fit.job).left short in
      steps_made P answers.More budb budb plant plant j k tt (subst (λ (x : JobFields). FitsJob P x plant) (sym is) fit_next) (ap (λ (x : JobFields). x.places) is)
      (λ more over. let e : phase.Head ≡ phase.Over = sym (ap (λ (x : JobFields). x.phase) is) ∙ over in cc) (λ more. less_by j k next is less) (λ last. absurd last) nothing (nothing_quiet P plant) refl
  steps_clone told cell (Err clone.Failed) budb plant j k at sound fits fit nothing clones few same = steps_cell P budb plant j k fit sound fits nothing same
  steps_clone told cell (Err clone.Memory) budb plant j k at sound fits fit nothing clones few same =
      steps_memory P budb budb plant plant j k fit nothing refl same (still_loads P plant plant (nothing_done P plant sound) (nothing_left P [] plant fits) refl)
      (λ tells. subst (λ (p : Phase). TakesMemory p j) (sym at) tt) (nothing_quiet P plant) refl

  -- ---- the part end

  part_effects : (cut : Bool) (choice : Option Chosen) (size : ℕ) (j : JobFields)
      → (part_end_by cut choice size j).effects ≡ puts_on j.reel.slot (part_end_items 1 j) ++ committing (made_of size (next_changes choice))
  part_effects cut None size j = sym (append-nil (puts_on j.reel.slot (part_end_items 1 j)))
  part_effects cut (Some c) size j = refl

  part_left : (cut : Bool) (choice : Option Chosen) (old new : D) (j : JobFields)
      → LeavesBehindLoads P (puts_on j.reel.slot (part_end_items 1 j) ++ committing (made_of (P.view old).log_size (next_changes choice))) old new
      → LeavesBehindLoads P (part_end_by cut choice (P.view old).log_size j).effects old new
  part_left cut choice old new j left = subst (λ (es : List Effect). LeavesBehindLoads P es old new) (sym (part_effects cut choice (P.view old).log_size j)) left

  part_refuses : (cut : Bool) (name : List ℕ) (budb after : BudbView) (old new : D) (j k : JobFields) → P.tells → name ≡ next_name j → k ≡ part_refused j
      → Closes P j.reel.slot (part_end_items 1 j) [] (Ok true) old new → Makes P [] (Ok true) budb after old new
      → Does P (part_end_by cut None (P.view old).log_size j) (answers.Refused (NoTape name)) budb after old new k
  part_refuses cut name budb after old new j k tells named moved closes makes =
      let items = part_end_items 1 j in
      let slot = j.reel.slot in
      record {
        answers = λ stepped. ap (λ (n : List ℕ). answers.Refused (NoTape n)) named;
        job = λ stepped. moved;
        form = λ stepped. makes.form refl;
        database = λ stepped. makes.made refl;
        keeps = λ log keeps stepped. makes.keeps tells log keeps refl;
        done = λ stepped. done_by_turn P slot (puts_on slot items) old new (subst (λ (es : List Effect). Done P (turn_of P slot es old) old new) (append-nil (puts_on slot items)) (closes.done refl));
        leaves = part_left cut None old new j (left_by_close P slot items [] (Ok true) old new closes);
      }

  part_does : (cut : Bool) (result : Result Bool JobFault) (choice : Option Chosen) (budb after : BudbView) (old new : D) (j k : JobFields) → P.tells → GoesBy (next_name j) choice result
      → IsPassed cut choice result j k → Closes P j.reel.slot (part_end_items 1 j) (next_changes choice) (closing_of result) old new
      → Makes P (next_changes choice) (closing_of result) budb after old new → Does P (part_end_by cut choice (P.view old).log_size j) (pass_answer result) budb after old new k
  part_does cut (Ok true) None budb after old new j k tells goes moved closes makes = absurd (cc)
  part_does cut (Ok true) (Some c) budb after old new j k tells goes moved closes makes =
      does_close P j.reel.slot (part_end_items 1 j) (next_changes (Some c)) budb after old new (part_passed cut c j) (part_refused j) k answers.More tells closes makes (moved c refl)
  part_does cut (Ok false) choice budb after old new j k tells goes moved closes makes =
      does_none P (part_end_by cut choice (P.view old).log_size j) answers.Memory budb after old new k (λ stepped. stepped)
      (part_left cut choice old new j (left_by_close P j.reel.slot (part_end_items 1 j) (next_changes choice) (Ok false) old new closes))
  part_does cut (Err (NoTape name)) None budb after old new j k tells goes moved closes makes = part_refuses cut name budb after old new j k tells goes.1 moved closes makes
  part_does cut (Err (NoTape name)) (Some c) budb after old new j k tells goes moved closes makes = let e = goes.0 in absurd (cc)
  part_does cut (Err (LogFull n)) None budb after old new j k tells goes moved closes makes = absurd (cc)
  part_does cut (Err (LogFull n)) (Some c) budb after old new j k tells goes moved closes makes =
      does_full P j.reel.slot (part_end_items 1 j) (next_changes (Some c)) n budb after old new (part_passed cut c j) (part_refused j) k answers.More tells closes makes moved
  part_does cut (Err Failed) choice budb after old new j k tells goes moved closes makes =
      does_none P (part_end_by cut choice (P.view old).log_size j) answers.PlantFailed budb after old new k (λ stepped. stepped)
      (part_left cut choice old new j (left_by_close P j.reel.slot (part_end_items 1 j) (next_changes choice) (Err commit.Failed) old new closes))
  part_does cut (Err Memory) choice budb after old new j k tells goes moved closes makes =
      does_none P (part_end_by cut choice (P.view old).log_size j) answers.Memory budb after old new k (λ stepped. stepped)
      (part_left cut choice old new j (left_by_close P j.reel.slot (part_end_items 1 j) (next_changes choice) (Err commit.Memory) old new closes))
  part_does cut (Err NothingToAppend) choice budb after old new j k tells goes moved closes makes = absurd goes
  part_does cut (Err CapacityTooSmall) choice budb after old new j k tells goes moved closes makes = absurd goes
  part_does cut (Err IdsSpent) choice budb after old new j k tells goes moved closes makes = absurd goes

  -- the choice is the due one, unless it was cut off
  due_part : (cut : Bool) (result : Result Bool JobFault) (due choice : Option Chosen) (budb after : BudbView) (old new : D) (j k : JobFields)
      → UnlessCutOff result (due ≡ choice) → LeavesBehindLoads P (puts_on j.reel.slot (part_end_items 1 j) ++ committing (made_of (P.view old).log_size (next_changes due))) old new
      → Does P (part_end_by cut choice (P.view old).log_size j) (pass_answer result) budb after old new k → Does P (part_end_by cut due (P.view old).log_size j) (pass_answer result) budb after old new k
  due_part cut (Ok there) due choice budb after old new j k right left does =
      subst (λ (c : Option Chosen). Does P (part_end_by cut c (P.view old).log_size j) (pass_answer (Ok there)) budb after old new k) (sym right) does
  due_part cut (Err (NoTape name)) due choice budb after old new j k right left does =
      subst (λ (c : Option Chosen). Does P (part_end_by cut c (P.view old).log_size j) (pass_answer (Err (NoTape name))) budb after old new k) (sym right) does
  due_part cut (Err (LogFull n)) due choice budb after old new j k right left does =
      subst (λ (c : Option Chosen). Does P (part_end_by cut c (P.view old).log_size j) (pass_answer (Err (LogFull n))) budb after old new k) (sym right) does
  due_part cut (Err Failed) due choice budb after old new j k right left does =
      does_none P (part_end_by cut due (P.view old).log_size j) answers.PlantFailed budb after old new k (λ stepped. stepped) (part_left cut due old new j left)
  due_part cut (Err Memory) due choice budb after old new j k right left does =
      does_none P (part_end_by cut due (P.view old).log_size j) answers.Memory budb after old new k (λ stepped. stepped) (part_left cut due old new j left)
  due_part cut (Err NothingToAppend) due choice budb after old new j k right left does =
      does_none P (part_end_by cut due (P.view old).log_size j) answers.Memory budb after old new k (λ stepped. stepped) (part_left cut due old new j left)
  due_part cut (Err CapacityTooSmall) due choice budb after old new j k right left does =
      does_none P (part_end_by cut due (P.view old).log_size j) answers.Memory budb after old new k (λ stepped. stepped) (part_left cut due old new j left)
  due_part cut (Err IdsSpent) due choice budb after old new j k right left does =
      does_none P (part_end_by cut due (P.view old).log_size j) answers.Memory budb after old new k (λ stepped. stepped) (part_left cut due old new j left)

  right_for : (result : Result Bool JobFault) (T U : Type 0) → (T → U) → UnlessCutOff result T → UnlessCutOff result U
  right_for (Ok there) T U next right = next right
  right_for (Err (NoTape name)) T U next right = next right
  right_for (Err (LogFull n)) T U next right = next right
  right_for (Err Failed) T U next right = tt
  right_for (Err Memory) T U next right = tt
  right_for (Err NothingToAppend) T U next right = tt
  right_for (Err CapacityTooSmall) T U next right = tt
  right_for (Err IdsSpent) T U next right = tt

  pub does_part_end : (cut : Bool) (result : Result Bool JobFault) (around : Around) (budb after : BudbView) (old new : D) (j k : JobFields) → IsPlantAround P around budb old
      → PartEnds P cut result budb after old new j k
      → Leaves P (turn_of P j.reel.slot (puts_on j.reel.slot (part_end_items 1 j) ++ committing (made_of (P.view old).log_size (next_changes (next_choice budb.database.listed around.slots j)))) old) old new
      → Does P (part_end_event cut around j) (pass_answer result) budb after old new k
  does_part_end cut result around budb after old new j k near ended left =
      let due = next_choice budb.database.listed around.slots j in
      let size = (P.view old).log_size in
      let right = right_for result (P.tells → (slots : List Slot) → HasSlots P slots old → next_choice budb.database.listed slots j ≡ ended.choice) (due ≡ ended.choice)
      (λ told. told near.tells around.slots near.slots) ended.right in
      let behind = left_by_turn P j.reel.slot (puts_on j.reel.slot (part_end_items 1 j) ++ committing (made_of size (next_changes due))) old new left in
      let does = due_part cut result due ended.choice budb after old new j k right behind
      (part_does cut result ended.choice budb after old new j k near.tells ended.goes ended.moved ended.plant ended.database) in
      subst (λ (n : ℕ). Does P (part_end_by cut (next_choice around.listed around.slots j) n j) (pass_answer result) budb after old new k) (sym near.log_size)
      (subst (λ (ds : List DumpRecordFields). Does P (part_end_by cut (next_choice ds around.slots j) size j) (pass_answer result) budb after old new k) (sym near.listed) does)

  -- behind the end of a part the dump fits at the tape step of the next one
  passed_fits : (cut : Bool) (c : Chosen) (j : JobFields) (new : D) → IsJob j → IsSome j.hand → length j.filled + 1 ≤ 65534 → IsMaybe IsTapeName j.head.permanent
      → IsFor P c.slot 0 new → IsOn P j.reel.slot (records_on (with_more 1 1 j.reel)) new → FitsJob P (part_passed cut c j) new
  passed_fits cut c j new job some few form for on = record {
    job = passed_is_job cut c j job some few form;
    tape = record {
      next = for;
      last = subst (λ (o : Option ℕ). IfSome o (IsWholeIn P new)) (sym (last_with j.filled (record { slot = j.reel.slot; part = closed_part j }))) (record { here = on.here; whole = on.whole });
    };
  }

  part_steps : (cut : Bool) (result : Result Bool JobFault) (choice : Option Chosen) (budb after : BudbView) (old new : D) (j k : JobFields) → FitsJob P j old → budb.prepared ≡ None
      → IsSome j.hand → IsMaybe IsTapeName j.head.permanent → TakesMemory j.phase j → IfSome choice (λ c. length j.filled + 1 ≤ 65534) → GoesBy (next_name j) choice result
      → IsPassed cut choice result j k → Closes P j.reel.slot (part_end_items 1 j) (next_changes choice) (closing_of result) old new
      → Makes P (next_changes choice) (closing_of result) budb after old new → (result ≡ Ok true → IsFor P k.reel.slot (records_on k.reel) new)
      → (HasEnded (closing_of result) → IsOn P j.reel.slot (records_on (with_more 1 1 j.reel)) new) → Steps P (pass_answer result) budb after old new j k
  part_steps cut (Ok true) None budb after old new j k fit nothing some form taking few goes moved closes makes ready on = absurd (cc)
  part_steps cut (Ok true) (Some c) budb after old new j k fit nothing some form taking few goes moved closes makes ready on =
      let is = moved c refl in
      let for = subst (λ (x : JobFields). IsFor P x.reel.slot (records_on x.reel) new) is (ready refl) in
      let fits = passed_fits cut c j new fit.job some few form for (on tt) in
      steps_made P answers.More after budb old new j k tt (subst (λ (x : JobFields). FitsJob P x new) (sym is) fits) (ap (λ (x : JobFields). x.places) is)
      (λ more over. let e : phase.Tape ≡ phase.Over = sym (ap (λ (x : JobFields). x.phase) is) ∙ over in cc) (λ more. less_by j k (part_passed cut c j) is (passed_less cut c j few)) (λ last. absurd last) makes.nothing closes.stays (closes.cause.stays (λ e. cc))
  part_steps cut (Ok false) choice budb after old new j k fit nothing some form taking few goes moved closes makes ready on =
      steps_memory P after budb old new j k fit nothing (views_same after budb (makes.same (λ e. cc)) (makes.nothing ∙ sym nothing)) moved
      (lost_loads P j.reel.slot old new (λ tells. closes.told tells refl) (closes.lost refl) (closes.lost_size refl)) (λ tells. taking) closes.stays (closes.cause.stays (λ e. cc))
  part_steps cut (Err (NoTape name)) choice budb after old new j k fit nothing some form taking few goes moved closes makes ready on =
      let fits : FitsJob P (part_refused j) new = record { job = refused_is_job j fit.job; tape = on tt } in
      steps_made P (answers.Refused (NoTape name)) after budb old new j k tt (subst (λ (x : JobFields). FitsJob P x new) (sym moved) fits) (ap (λ (x : JobFields). x.places) moved)
      (λ more. absurd (cc)) (λ more. absurd (cc)) (λ last. ap (λ (x : JobFields). x.phase) moved) makes.nothing closes.stays (closes.cause.stays (λ e. cc))
  part_steps cut (Err (LogFull n)) choice budb after old new j k fit nothing some form taking few goes moved closes makes ready on =
      let fits : FitsJob P (part_refused j) new = record { job = refused_is_job j fit.job; tape = on tt } in
      steps_made P (answers.Refused (LogFull n)) after budb old new j k tt (subst (λ (x : JobFields). FitsJob P x new) (sym moved) fits) (ap (λ (x : JobFields). x.places) moved)
      (λ more. absurd (cc)) (λ more. absurd (cc)) (λ last. ap (λ (x : JobFields). x.phase) moved) makes.nothing closes.stays (closes.cause.stays (λ e. cc))
  part_steps cut (Err Failed) choice budb after old new j k fit nothing some form taking few goes moved closes makes ready on =
      steps_failed P after budb old new j k makes.nothing closes.stays (closes.cause.failed refl)
  part_steps cut (Err Memory) choice budb after old new j k fit nothing some form taking few goes moved closes makes ready on =
      steps_memory P after budb old new j k fit nothing (makes.memory refl) moved (still_loads P old new (closes.memory refl) (closes.memory_leaves refl) (closes.memory_numbers refl).log_size)
      (λ tells. taking) closes.stays (closes.cause.stays (λ e. cc))
  part_steps cut (Err NothingToAppend) choice budb after old new j k fit nothing some form taking few goes moved closes makes ready on = absurd goes
  part_steps cut (Err CapacityTooSmall) choice budb after old new j k fit nothing some form taking few goes moved closes makes ready on = absurd goes
  part_steps cut (Err IdsSpent) choice budb after old new j k fit nothing some form taking few goes moved closes makes ready on = absurd goes

  pub steps_part_end : (cut : Bool) (result : Result Bool JobFault) (budb after : BudbView) (old new : D) (j k : JobFields) → FitsJob P j old → budb.prepared ≡ None → IsAtHead j
      → IsMaybe IsTapeName j.head.permanent → TakesMemory j.phase j → PartEnds P cut result budb after old new j k → (result ≡ Ok true → IsFor P k.reel.slot (records_on k.reel) new)
      → (HasEnded (closing_of result) → IsOn P j.reel.slot (records_on (with_more 1 1 j.reel)) new) → Steps P (pass_answer result) budb after old new j k
  steps_part_end cut result budb after old new j k fit nothing at form taking ended ready on =
      part_steps cut result ended.choice budb after old new j k fit nothing at.hand form taking ended.parts ended.goes ended.moved ended.plant ended.database ready on

  -- ---- the dump end

  dump_does : (result : Result Bool CommitFault) (budb after : BudbView) (old new : D) (j k : JobFields) → P.tells → (HasEnded result → k ≡ dump_ended j)
      → Closes P j.reel.slot (part_end_items 0 j) (done_changes j) result old new → Makes P (done_changes j) result budb after old new
      → Does P (dump_end_event (P.view old).log_size j) (done_answer j.head.id result) budb after old new k
  dump_does (Ok true) budb after old new j k tells moved closes makes =
      does_close P j.reel.slot (part_end_items 0 j) (done_changes j) budb after old new (dump_ended j) (dump_ended j) k (answers.Done j.head.id) tells closes makes (moved tt)
  dump_does (Ok false) budb after old new j k tells moved closes makes =
      does_none P (dump_end_event (P.view old).log_size j) answers.Memory budb after old new k (λ stepped. stepped) (left_by_close P j.reel.slot (part_end_items 0 j) (done_changes j) (Ok false) old new closes)
  dump_does (Err (commit.LogFull n)) budb after old new j k tells moved closes makes =
      does_full P j.reel.slot (part_end_items 0 j) (done_changes j) n budb after old new (dump_ended j) (dump_ended j) k (answers.Done j.head.id) tells closes makes (moved tt)
  dump_does (Err commit.Failed) budb after old new j k tells moved closes makes =
      does_none P (dump_end_event (P.view old).log_size j) answers.PlantFailed budb after old new k (λ stepped. stepped) (left_by_close P j.reel.slot (part_end_items 0 j) (done_changes j) (Err commit.Failed) old new closes)
  dump_does (Err commit.Memory) budb after old new j k tells moved closes makes =
      does_none P (dump_end_event (P.view old).log_size j) answers.Memory budb after old new k (λ stepped. stepped) (left_by_close P j.reel.slot (part_end_items 0 j) (done_changes j) (Err commit.Memory) old new closes)

  pub does_dump_end : (result : Result Bool CommitFault) (around : Around) (budb after : BudbView) (old new : D) (j k : JobFields) → IsPlantAround P around budb old → (HasEnded result → k ≡ dump_ended j)
      → Closes P j.reel.slot (part_end_items 0 j) (done_changes j) result old new → Makes P (done_changes j) result budb after old new
      → Does P (dump_end_event around.log_size j) (done_answer j.head.id result) budb after old new k
  does_dump_end result around budb after old new j k near moved closes makes =
      subst (λ (n : ℕ). Does P (dump_end_event n j) (done_answer j.head.id result) budb after old new k) (sym near.log_size) (dump_does result budb after old new j k near.tells moved closes makes)

  pub steps_dump_end : (id : ℕ) (result : Result Bool CommitFault) (budb after : BudbView) (old new : D) (j k : JobFields) → FitsJob P j old → budb.prepared ≡ None → j.phase ≡ phase.DumpEnd
      → (HasEnded result → k ≡ dump_ended j) → (result ≡ Ok false → k ≡ j) → (result ≡ Err commit.Memory → k ≡ j)
      → Closes P j.reel.slot (part_end_items 0 j) (done_changes j) result old new → Makes P (done_changes j) result budb after old new
      → (HasEnded result → IsOn P j.reel.slot (records_on (with_more 1 1 j.reel)) new) → Steps P (done_answer id result) budb after old new j k
  steps_dump_end id (Ok true) budb after old new j k fit nothing at moved same memory closes makes on =
      let is = moved tt in
      let fits : FitsJob P (dump_ended j) new = record { job = refused_is_job j fit.job; tape = on tt } in
      steps_made P (answers.Done id) after budb old new j k tt (subst (λ (x : JobFields). FitsJob P x new) (sym is) fits) (ap (λ (x : JobFields). x.places) is)
      (λ more. absurd (cc)) (λ more. absurd (cc)) (λ last. ap (λ (x : JobFields). x.phase) is) makes.nothing closes.stays (closes.cause.stays (λ e. cc))
  steps_dump_end id (Ok false) budb after old new j k fit nothing at moved same memory closes makes on =
      steps_memory P after budb old new j k fit nothing (views_same after budb (makes.same (λ e. cc)) (makes.nothing ∙ sym nothing)) (same refl)
      (lost_loads P j.reel.slot old new (λ tells. closes.told tells refl) (closes.lost refl) (closes.lost_size refl))
      (λ tells. subst (λ (p : Phase). TakesMemory p j) (sym at) tt) closes.stays (closes.cause.stays (λ e. cc))
  steps_dump_end id (Err (commit.LogFull n)) budb after old new j k fit nothing at moved same memory closes makes on =
      let is = moved tt in
      let fits : FitsJob P (dump_ended j) new = record { job = refused_is_job j fit.job; tape = on tt } in
      steps_made P (answers.Refused (LogFull n)) after budb old new j k tt (subst (λ (x : JobFields). FitsJob P x new) (sym is) fits) (ap (λ (x : JobFields). x.places) is)
      (λ more. absurd (cc)) (λ more. absurd (cc)) (λ last. ap (λ (x : JobFields). x.phase) is) makes.nothing closes.stays (closes.cause.stays (λ e. cc))
  steps_dump_end id (Err commit.Failed) budb after old new j k fit nothing at moved same memory closes makes on =
      steps_failed P after budb old new j k makes.nothing closes.stays (closes.cause.failed refl)
  steps_dump_end id (Err commit.Memory) budb after old new j k fit nothing at moved same memory closes makes on =
      steps_memory P after budb old new j k fit nothing (makes.memory refl) (memory refl) (still_loads P old new (closes.memory refl) (closes.memory_leaves refl) (closes.memory_numbers refl).log_size)
      (λ tells. subst (λ (p : Phase). TakesMemory p j) (sym at) tt) closes.stays (closes.cause.stays (λ e. cc))
