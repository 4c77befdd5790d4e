-- A dump of good volumes finds each of them: none of its events is the last one but that behind which it is over.
use Rattle.std.proofs.Common.{zero, suc, ◌≡◌, ℕ, ◌+◌, ◌<◌, Bool, true, false, List, [], ◌∷◌, ◌++◌, length, refl, sym, subst, ◌∙◌, arith, length-append}
use Rattle.std.specs.Prelude.{if◌then◌else◌, ◌==◌, nat_lt, Option, Some, None, slice_get, All}
use Rattle.std.proofs.lemmas.Bool.{ltb-true}
use Rattle.std.proofs.lemmas.List.Elements.{All-head, All-tail}
use Rattle.vnode_model.specs.declared.listed.VolEntry.{VolEntry}
use Rattle.cell_core.specs.declared.stored.Stored.{Stored}
use Rattle.cell_core.specs.declared.stored.Image.{Image}
use Rattle.cell_core.specs.declared.stored.Image.TheVariants.{Good, Bad}
use Rattle.cell_core.specs.Calls.{entry_of_stored, entry_of, clone_of_image, clone_of, is_good_image, is_good}
use Rattle.plant_core.specs.Effects.{Effect}
use Rattle.tape_choice.specs.declared.choosing.Chosen.{Chosen}
use Rattle.budb_changes.specs.declared.change.Change.{Change}
use Rattle.budb_changes.specs.declared.records.VolRecordFields.{VolRecordFields}
use Rattle.dump_job.specs.declared.answer.StepAnswer.{StepAnswer}
use Rattle.dump_job.specs.declared.answer.StepAnswer.TheVariants as answers
use Rattle.dump_job.specs.declared.fields.Hand.{Hand}
use Rattle.dump_job.specs.declared.fields.JobFields.{JobFields}
use Rattle.dump_job.specs.declared.fields.Phase.{Phase}
use Rattle.dump_job.specs.declared.fields.Phase.TheVariants as phase
use Rattle.dump_job.specs.Reels.{counts_on, has_room}
use Rattle.dump_job.specs.Taping.{uses_for, phase_begun}
use Rattle.dump_job.specs.Cloning.{record_with, with_hand, volumes_done}
use Rattle.dump_job.specs.Volumes.{phase_behind, head_items, begun_at, headed, piece_items, without_piece, pieced, end_items, volume_ended, volume_cut}
use Rattle.dump_job.specs.Passing.{next_choice, next_changes, next_hand, part_passed, part_refused}
use Rattle.dump_job.specs.Closing.{is_too_long, done_changes, dump_ended}
use Rattle.dump_job.specs.Events.{Around, Event, putting, items_at, tape_event, clone_by, clone_from, part_end_by, dump_end_event, head_event, piece_event, hand_event, event_by, event}
use Rattle.dump_courses.specs.Courses.{goes_on}
use Rattle.dump_commands.proofs.EntryLaws.{IsGoodAt}

-- ---- what the next event needs

-- a volume is in hand, and counted
abbrev pub InHand : Option Hand → List VolRecordFields → Type 0
InHand None volumes = ⊥
InHand (Some h) volumes = h.head.index ≡ length volumes

-- so it is, or the first one is left
abbrev pub InHandOrFirst : Option Hand → List VolRecordFields → List ℕ → Type 0
InHandOrFirst None volumes places = length volumes < length places
InHandOrFirst (Some h) volumes places = h.head.index ≡ length volumes

-- by the phase: a volume to clone, or one in hand
abbrev pub HasAt : Phase → ℕ → Option Hand → List VolRecordFields → List ℕ → Type 0
HasAt phase.Tape tape hand volumes places = InHandOrFirst hand volumes places
HasAt phase.Clone tape hand volumes places = length (with_hand tape hand volumes) < length places
HasAt phase.Head tape hand volumes places = InHand hand volumes
HasAt phase.Piece tape hand volumes places = InHand hand volumes
HasAt phase.VolumeEnd tape hand volumes places = InHand hand volumes
HasAt phase.PartEnd tape hand volumes places = InHand hand volumes
HasAt phase.DumpEnd tape hand volumes places = Unit {0}
HasAt phase.Over tape hand volumes places = ⊥

-- a dump that runs has what its next event needs
abbrev pub HasNext : JobFields → Type 0
HasNext j = HasAt j.phase j.head.tape j.hand j.volumes j.places

-- Behind an event it has so again, of the same volumes, where it goes on; and else it is over.
pub record IsNext (j : JobFields) (e : Event) : Type 0 where
  pub places : e.job.places ≡ j.places
  pub has : goes_on e.answer ≡ true → HasNext e.job
  pub over : goes_on e.answer ≡ false → e.job.phase ≡ phase.Over

no_more : true ≡ false → ⊥
no_more e = cc

none_goes : false ≡ true → ⊥
none_goes e = cc

if_next : (b : Bool) (x y : Event) (j : JobFields) → IsNext j x → IsNext j y → IsNext j (if b then x else y)
if_next true x y j one other = one
if_next false x y j one other = other

-- ---- a tape

begun_has : (tape : ℕ) (hand : Option Hand) (volumes : List VolRecordFields) (places : List ℕ) → InHandOrFirst hand volumes places → HasAt (phase_begun hand) tape hand volumes places
begun_has tape None volumes places has = has
begun_has tape (Some h) volumes places has = has

tape_next : (uses : ℕ) (j : JobFields) → InHandOrFirst j.hand j.volumes j.places → IsNext j (tape_event uses j)
tape_next uses j has = record {
  places = refl;
  has = λ more. begun_has j.head.tape j.hand j.volumes j.places has;
  over = λ last. absurd (no_more last);
}

-- ---- a clone

place_there : (places : List ℕ) (n : ℕ) → n < length places → (p : ℕ) × (slice_get places n ≡ Some p)
place_there [] n within = absurd (omega (arith, within))
place_there (p ∷ places) zero within = (p, refl)
place_there (p ∷ places) (suc n) within = place_there places n (omega (arith, within))

good_there : (cell : List Stored) (places : List ℕ) (n p : ℕ) → All (IsGoodAt cell) places → slice_get places n ≡ Some p → IsGoodAt cell p
good_there cell [] n p good at = absurd (cc)
good_there cell (q ∷ places) zero p good at = (let same : q ≡ p = cc in subst (λ (x : ℕ). IsGoodAt cell x) same (All-head (IsGoodAt cell) q places good))
good_there cell (q ∷ places) (suc n) p good at = good_there cell places n p (All-tail (IsGoodAt cell) q places good) at

image_next : (cell : List Stored) (e : VolEntry) (image : Image) (j : JobFields) → is_good_image image ≡ true → IsNext j (clone_by (Some e) (clone_of_image cell image j.time) j)
image_next cell e (Good volume) j good = record { places = refl; has = λ more. refl; over = λ last. absurd (no_more last) }
image_next cell e (Bad at) j good = absurd (none_goes good)

stored_next : (cell : List Stored) (o : Option Stored) (j : JobFields) → is_good o ≡ true → IsNext j (clone_by (entry_of o) (clone_of cell o j.time) j)
stored_next cell None j good = absurd (none_goes good)
stored_next cell (Some s) j good = image_next cell (entry_of_stored s) s.image j good

clone_next : (cell : List Stored) (j : JobFields) → All (IsGoodAt cell) j.places → length (volumes_done j) < length j.places → IsNext j (clone_from cell (slice_get j.places (length (volumes_done j))) j)
clone_next cell j good left =
    let at = place_there j.places (length (volumes_done j)) left in
    subst (λ (o : Option ℕ). IsNext j (clone_from cell o j)) (sym at.1)
    (stored_next cell (slice_get cell at.0) j (good_there cell j.places (length (volumes_done j)) at.0 good at.1))

-- ---- the end of a part and of the dump

hand_on : (cut : Bool) (tape : ℕ) (hand : Option Hand) (volumes : List VolRecordFields) (places : List ℕ) → InHand hand volumes → InHandOrFirst (next_hand cut tape hand) volumes places
hand_on cut tape None volumes places has = absurd has
hand_on true tape (Some h) volumes places has = has
hand_on false tape (Some h) volumes places has = has

closing_next : (long : Bool) (effects : List Effect) (changes : List Change) (j refused next : JobFields) (full told : StepAnswer)
    → refused.places ≡ j.places → next.places ≡ j.places → goes_on full ≡ false → refused.phase ≡ phase.Over → (goes_on told ≡ true → HasNext next) → (goes_on told ≡ false → next.phase ≡ phase.Over)
    → IsNext j (record { effects = effects; changes = changes; job = if long then refused else next; answer = if long then full else told })
closing_next true effects changes j refused next full told one other stops over has last = record { places = one; has = λ more. absurd (no_more (sym more ∙ stops)); over = λ ends. over }
closing_next false effects changes j refused next full told one other stops over has last = record { places = other; has = has; over = last }

part_next : (cut : Bool) (o : Option Chosen) (size : ℕ) (j : JobFields) → InHand j.hand j.volumes → IsNext j (part_end_by cut o size j)
part_next cut None size j has = record { places = refl; has = λ more. absurd (none_goes more); over = λ last. refl }
part_next cut (Some c) size j has =
    closing_next (is_too_long size (next_changes (Some c))) (part_end_by cut (Some c) size j).effects (part_end_by cut (Some c) size j).changes j (part_refused j) (part_passed cut c j) _ answers.More
    refl refl refl refl (λ more. hand_on cut j.head.tape j.hand j.volumes j.places has) (λ last. absurd (no_more last))

end_next : (size : ℕ) (j : JobFields) → IsNext j (dump_end_event size j)
end_next size j =
    closing_next (is_too_long size (done_changes j)) (dump_end_event size j).effects (dump_end_event size j).changes j (dump_ended j) (dump_ended j) _ (answers.Done j.head.id)
    refl refl refl refl (λ more. absurd (none_goes more)) (λ last. refl)

-- ---- the volume in hand

behind_has : (left : List ℕ) (tape : ℕ) (h : Hand) (volumes : List VolRecordFields) (places : List ℕ) → h.head.index ≡ length volumes → HasAt (phase_behind left) tape (Some h) volumes places
behind_has left tape h volumes places is = by (length left == 0)
  where
    by : (b : Bool) → HasAt (if b then phase.VolumeEnd else phase.Piece) tape (Some h) volumes places
    by true = is
    by false = is

head_next : (a : Around) (h : Hand) (j : JobFields) → InHand j.hand j.volumes → h.head.index ≡ length j.volumes → IsNext j (head_event a h j)
head_next a h j has is =
    if_next (has_room 4 2 (counts_on j.port j.reel)) (putting (head_items h) j (headed h j)) (part_end_by false (next_choice a.listed a.slots j) a.log_size j) j
    (record { places = refl; has = λ more. behind_has h.stream j.head.tape (begun_at _ h) j.volumes j.places is; over = λ last. absurd (no_more last) })
    (part_next false (next_choice a.listed a.slots j) a.log_size j has)

piece_next : (h : Hand) (j : JobFields) → InHand j.hand j.volumes → h.head.index ≡ length j.volumes → IsNext j (piece_event h j)
piece_next h j has is =
    if_next (has_room 3 2 (counts_on j.port j.reel)) (putting (piece_items h) j (pieced h j)) (putting (end_items 0 h) j (volume_cut j)) j
    (record { places = refl; has = λ more. behind_has (without_piece h).stream j.head.tape (without_piece h) j.volumes j.places is; over = λ last. absurd (no_more last) })
    (record { places = refl; has = λ more. has; over = λ last. absurd (no_more last) })

-- behind a volume another one is left, or the dump's end is next
left_then : (more : Bool) (tape : ℕ) (h : Hand) (volumes : List VolRecordFields) (places : List ℕ) → nat_lt (h.head.index + 1) (length places) ≡ more → h.head.index ≡ length volumes → HasAt (if more then phase.Clone else phase.DumpEnd) tape (Some h) volumes places
left_then true tape h volumes places less is =
    let below : h.head.index + 1 < length places = ltb-true (h.head.index + 1) (length places) less in
    let count : length (volumes ++ record_with tape h ∷ []) ≡ length volumes + length (record_with tape h ∷ []) = length-append volumes (record_with tape h ∷ []) in
    omega (arith, below, count, is)
left_then false tape h volumes places less is = tt

volume_next : (h : Hand) (j : JobFields) → h.head.index ≡ length j.volumes → j.hand ≡ Some h → IsNext j (putting (end_items 1 h) j (volume_ended h j))
volume_next h j is same = record {
  places = refl;
  has = λ more. subst (λ (o : Option Hand). HasAt (volume_ended h j).phase j.head.tape o j.volumes j.places) (sym same) (left_then (nat_lt (h.head.index + 1) (length j.places)) j.head.tape h j.volumes j.places refl is);
  over = λ last. absurd (no_more last);
}

hand_next : (step : Hand → Event) (hand : Option Hand) (j : JobFields) → InHand hand j.volumes → ((h : Hand) → h.head.index ≡ length j.volumes → hand ≡ Some h → IsNext j (step h)) → IsNext j (hand_event step hand j)
hand_next step None j has each = absurd has
hand_next step (Some h) j has each = each h has refl

-- ---- each event

next_by : (p : Phase) (a : Around) (j : JobFields) → All (IsGoodAt a.cell) j.places → HasAt p j.head.tape j.hand j.volumes j.places → IsNext j (event_by p a j)
next_by phase.Tape a j good has = tape_next (uses_for j (items_at a.slots j.reel.slot)) j has
next_by phase.Clone a j good has = clone_next a.cell j good has
next_by phase.Head a j good has = hand_next (λ h. head_event a h j) j.hand j has (λ h is same. head_next a h j has is)
next_by phase.Piece a j good has = hand_next (λ h. piece_event h j) j.hand j has (λ h is same. piece_next h j has is)
next_by phase.VolumeEnd a j good has = hand_next (λ h. putting (end_items 1 h) j (volume_ended h j)) j.hand j has (λ h is same. volume_next h j is same)
next_by phase.PartEnd a j good has = part_next true (next_choice a.listed a.slots j) a.log_size j has
next_by phase.DumpEnd a j good has = end_next a.log_size j
next_by phase.Over a j good has = absurd has

pub event_next : (a : Around) (j : JobFields) → All (IsGoodAt a.cell) j.places → HasNext j → IsNext j (event a j)
event_next a j good has = next_by j.phase a j good has
