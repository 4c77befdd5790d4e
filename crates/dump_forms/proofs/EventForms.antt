-- Each event of a dump commits changes that can be written, and keeps the forms of the dump.
use Rattle.std.proofs.Common.{◌≡◌, ℕ, zero, suc, ◌+◌, ◌*◌, ◌<◌, ◌≤◌, Bool, true, false, Option, Some, None, List, [], ◌∷◌, ◌++◌, length, drop, map, refl, sym, subst, arith, inl, inr, length-append, length-drop}
use Rattle.std.specs.Prelude.{All, IsSome, IfSome, slice_get, nat_lt, ◌==◌, if◌then◌else◌, find}
use Rattle.std.specs.List.{list_any}
use Rattle.std.proofs.lemmas.Bool.{ltb-true, leb-true, cases_Bool}
use Rattle.std.proofs.lemmas.List.Elements.{All-nil, All-cons, All-head, All-tail, All-append}
use Rattle.bk_text.specs.Alphabets.{IsName, IsHost, IsTapeName}
use Rattle.bk_text.specs.Blanks.{is_same_text}
use Rattle.byte_formats.specs.Forms.{IsFour, IsMaybe}
use Rattle.vnode_model.specs.declared.listed.VolEntry.{VolEntry}
use Rattle.vnode_model.specs.declared.volumes.VolumeFields.{VolumeFields}
use Rattle.vnode_model.specs.Increments.{selected}
use Rattle.dump_stream.specs.Forms.{IsBytes}
use Rattle.dump_stream.specs.Allowed.{Allowed}
use Rattle.dump_stream.proofs.AllowedLaws.{selected_allowed}
use Rattle.cell_core.specs.declared.stored.Stored.{Stored}
use Rattle.cell_core.specs.declared.stored.Image.{Image}
use Rattle.cell_core.specs.declared.stored.Image.TheVariants.{Good, Bad}
use Rattle.cell_core.specs.declared.stored.Taken.{Taken}
use Rattle.cell_core.specs.Cells.{born}
use Rattle.cell_core.specs.Calls.{clone_time, entry_of_stored, entry_of, entry_at, clone_of_image, clone_of, clone_at}
use Rattle.tape_frames.specs.declared.label.LabelFields.{LabelFields}
use Rattle.tape_frames.specs.declared.vol_head.VolHeadFields.{VolHeadFields}
use Rattle.tape_frames.specs.Layouts.{FitsLabel, FitsDumpHead, FitsVolHead}
use Rattle.budb_changes.specs.declared.change.Change.{Change}
use Rattle.budb_changes.specs.declared.change.Change.TheVariants.{Take, Done}
use Rattle.budb_changes.specs.declared.records.TapePart.{TapePart}
use Rattle.budb_changes.specs.declared.records.VolRecordFields.{VolRecordFields}
use Rattle.budb_changes.specs.declared.records.DumpRecordFields.{DumpRecordFields}
use Rattle.budb_changes.specs.Forms.{IsTapePart, IsFrag, IsVolRecord, IsDumpRecord, IsChange, AreChanges}
use Rattle.budb_fold.specs.Database.{is_initial}
use Rattle.budb_fold.specs.Lookups.{volume_of, from_volume, from_of}
use Rattle.tape_text.specs.Items.{Item}
use Rattle.tape_writer.specs.Room.{HasRoom}
use Rattle.tape_config.specs.declared.port.PortFields.{PortFields}
use Rattle.tape_scan.specs.Slots.{Slot}
use Rattle.tape_choice.specs.declared.choosing.Chosen.{Chosen}
use Rattle.tape_choice.specs.declared.wanting.Wanting.{Wanting}
use Rattle.tape_choice.specs.Reads.{label_in}
use Rattle.tape_choice.specs.Choice.{forgotten, takes, permanent_in, chosen, choice_of}
use Rattle.dump_job.specs.declared.answer.StepAnswer.{StepAnswer}
use Rattle.dump_job.specs.declared.answer.StepAnswer.TheVariants as answers
use Rattle.dump_job.specs.declared.fields.Filled.{Filled}
use Rattle.dump_job.specs.declared.fields.Hand.{Hand}
use Rattle.dump_job.specs.declared.fields.JobFields.{JobFields}
use Rattle.dump_job.specs.declared.fields.Phase.{Phase}
use Rattle.dump_job.specs.declared.fields.Phase.TheVariants as phase
use Rattle.dump_job.specs.Reels.{records_on, counts_on, has_room}
use Rattle.dump_job.specs.Taping.{uses_for, head_at}
use Rattle.dump_job.specs.Cloning.{record_with, with_hand, volumes_done, from_time, first_head, first_hand, cloned}
use Rattle.dump_job.specs.Volumes.{headed, next_used, without_piece, pieced, end_items, volume_ended, volume_cut}
use Rattle.dump_job.specs.Ending.{place_of_part, closed_part, part_end_items, done_record}
use Rattle.dump_job.specs.Passing.{may_go_on, label_by, head_by, next_wanting, next_choice, next_hand, part_passed, part_refused}
use Rattle.dump_job.specs.Closing.{is_too_long, done_changes, dump_ended}
use Rattle.dump_job.specs.Jobs.{IsAtTape, IsAt, IsInHand}
use Rattle.dump_job.specs.Events.{Around, Event, idle, putting, items_at, tape_event, clone_by, clone_from, closing, part_end_by, dump_end_event, head_event, piece_event, hand_event, event_by, event}
use Rattle.dump_job.proofs.Jobs.{taped_is_job, cloned_is_job, headed_is_job, pieced_is_job, cut_is_job, ended_is_job, refused_is_job, passed_is_job}
use Rattle.dump_job.proofs.Streams.{written_long}
use Rattle.dump_job.proofs.Turns.{few_all_parts, head_due, piece_due, end_due, part_due, last_due, few_done}
use Rattle.dump_forms.proofs.StreamBytes.{written_bytes}
use Rattle.dump_forms.proofs.TapeNames.{label_fits}
use Rattle.dump_forms.proofs.Choices.{and_left, and_right, chosen_of, begun_room, head_fits}
use Rattle.cell_core.specs.Forms.{IsVolumeForm, IsImageForm, IsStoredForm}
use Rattle.dump_forms.specs.Forms.{LabelsFit, AroundHasForms, IsHandForm, HasForms, EventHasForms}

-- ---- options and lists

pub some_is : {A : Type 0} (P : A → Type 0) (o : Option A) (x : A) → o ≡ Some x → IfSome o P → P x
some_is P o x is there = subst (λ (y : Option _). IfSome y P) is there

pub found_has : {A : Type 0} (P : A → Type 0) (test : A → Bool) (xs : List A) → All P xs → IfSome (find test xs) P
found_has P test [] all = tt
found_has P test (x ∷ xs) all = elim (cases_Bool (test x)) [
  | inl hit ↦ rw hit (All-head P x xs all)
  | inr miss ↦ rw miss (found_has P test xs (All-tail P x xs all))
]

at_place : {A : Type 0} (P : A → Type 0) (xs : List A) (k : ℕ) (x : A) → All P xs → slice_get xs k ≡ Some x → P x
at_place P [] k x all is = absurd (cc)
at_place P (y ∷ ys) zero x all is = (let same : y ≡ x = cc in subst P same (All-head P y ys all))
at_place P (y ∷ ys) (suc k) x all is = at_place P ys k x (All-tail P y ys all) is

-- ---- records on a tape

-- There are no more records than a number of four bytes counts.
few_records : (j : JobFields) → HasForms j → HasRoom 1 1 (counts_on j.port j.reel) → records_on j.reel + 2 ≤ 4294967295
few_records j form room = omega (arith, room, form.capacity, form.job.marks)

head_room : (b m f cap : ℕ) → (b + 4) * 16384 + (m + 2) * f ≤ cap → (b + 1 + 3) * 16384 + (m + 0 + 2) * f ≤ cap
head_room b m f cap room = omega (arith, room)

piece_room : (b m f cap : ℕ) → (b + 3) * 16384 + (m + 2) * f ≤ cap → (b + 1 + 2) * 16384 + (m + 0 + 2) * f ≤ cap
piece_room b m f cap room = omega (arith, room)

end_room : (b m f cap : ℕ) → (b + 2) * 16384 + (m + 2) * f ≤ cap → (b + 1 + 1) * 16384 + (m + 1 + 1) * f ≤ cap
end_room b m f cap room = omega (arith, room)

-- ---- the tape step

first_at : (j : JobFields) (label : Option LabelFields) → HasForms j → j.reel.blocks * 16384 ≤ j.port.capacity → IsFour (head_at label j.reel)
first_at j None form few = omega (arith, few, form.capacity, form.job.marks)
first_at j (Some label) form few = omega (arith, few, form.capacity, form.job.marks)

tape_form : (items : List Item) (j : JobFields) → j.phase ≡ phase.Tape → HasForms j → EventHasForms (tape_event (uses_for j items) j)
tape_form items j at form =
    let tape : IsAtTape j = subst (λ (p : Phase). IsAt p j) at form.job.at in
    record {
      changes = All-nil IsChange;
      job = record {
        job = taped_is_job (uses_for j items) j at form.job (begun_room j j.label tape.room);
        capacity = form.capacity;
        time = form.time;
        parent = form.parent;
        head = head_fits j.head j.label items form.head;
        label = form.label;
        first = first_at j j.label form tape.few;
        filled = form.filled;
        hand = form.hand;
        volumes = form.volumes;
      };
    }

-- ---- the volume in hand as a record

record_form : (tape : ℕ) (h : Hand) → IsFour tape → IsHandForm h → length h.frags ≤ 65534 → IsVolRecord (record_with tape h)
record_form tape h four form few =
    let more = length-append h.frags (record { tape = tape; at = h.at } ∷ []) in
    record {
      name = form.head.name;
      id = form.head.volume;
      server = form.head.server;
      partition = form.head.partition;
      clone = form.head.clone;
      from = form.head.from;
      some = omega (arith, more);
      most = omega (arith, more, few);
      each = All-append IsFrag h.frags (record { tape = tape; at = h.at } ∷ []) form.each (All-cons IsFrag (record { tape = tape; at = h.at }) [] (record { tape = four; at = form.at }) (All-nil IsFrag));
    }

done_by : (tape : ℕ) (hand : Option Hand) (volumes : List VolRecordFields) (j : JobFields) → IsFour tape → IfSome hand IsHandForm → IfSome hand (IsInHand j) → length j.filled ≤ 65534 → All IsVolRecord volumes
    → All IsVolRecord (with_hand tape hand volumes)
done_by tape None volumes j four form there few all = all
done_by tape (Some h) volumes j four form there few all =
    All-append IsVolRecord volumes (record_with tape h ∷ []) all
    (All-cons IsVolRecord (record_with tape h) [] (record_form tape h four form (omega (arith, there.frags, few))) (All-nil IsVolRecord))

done_form : (j : JobFields) → HasForms j → All IsVolRecord (volumes_done j)
done_form j form = done_by j.head.tape j.hand j.volumes j form.head.tape.1 form.hand form.job.hand form.job.few_parts form.volumes

-- ---- the clone step

from_found : (o : Option VolRecordFields) (born : ℕ) → IfSome o IsVolRecord → IsFour (from_volume o born)
from_found None born form = omega arith
from_found (Some v) born form = elim (cases_Bool (nat_lt born v.clone)) [ inl hit ↦ rw hit form.clone | inr miss ↦ rw miss (omega arith) ]

from_form : (parent : Option DumpRecordFields) (name : List ℕ) (born : ℕ) → IfSome parent IsDumpRecord → IsFour (from_of parent name born)
from_form None name born form = omega arith
from_form (Some d) name born form = from_found (volume_of d name) born (found_has IsVolRecord (λ v. is_same_text v.name name) d.volumes form.each_volume)

time_form : (volume : VolumeFields) (now : ℕ) → IsFour now → IsVolumeForm volume → IsFour (clone_time volume now)
time_form volume now four form = elim (cases_Bool (volume.header.kind == 0)) [ inl hit ↦ rw hit four | inr miss ↦ rw miss (let created : volume.header.created < 4294967296 = form.header.created in omega (arith, created)) ]

-- what is cloned of a stored volume
record IsCloneForm (e : VolEntry) (c : Taken) : Type 0 where
  name : IsName e.name
  server : IsHost e.server
  partition : IsName e.partition
  time : IsFour c.time
  volume : IsVolumeForm c.volume

stored_clone : (cell : List Stored) (s : Stored) (image : Image) (now : ℕ) (c : Taken) → IsFour now → IsStoredForm s → IsImageForm image → clone_of_image cell image now ≡ Some c → IsCloneForm (entry_of_stored s) c
stored_clone cell s (Bad at) now c four form image is = absurd (cc)
stored_clone cell s (Good volume) now c four form image is =
    let same : record { time = clone_time volume now; born = born cell volume; volume = volume } ≡ c = cc in
    subst (IsCloneForm (entry_of_stored s)) same (record { name = form.name; server = form.server; partition = form.partition; time = time_form volume now four image; volume = image })

clone_found : (cell : List Stored) (o : Option Stored) (now : ℕ) (e : VolEntry) (c : Taken) → IsFour now → IfSome o IsStoredForm → entry_of o ≡ Some e → clone_of cell o now ≡ Some c → IsCloneForm e c
clone_found cell None now e c four form found taken = absurd (cc)
clone_found cell (Some s) now e c four form found taken =
    let same : entry_of_stored s ≡ e = cc in
    subst (λ (x : VolEntry). IsCloneForm x c) same (stored_clone cell s s.image now c four form form.image taken)

at_some : {A : Type 0} (P : A → Type 0) (xs : List A) (k : ℕ) (o : Option A) → All P xs → slice_get xs k ≡ o → IfSome o P
at_some P xs k None all is = tt
at_some P xs k (Some x) all is = at_place P xs k x all is

clone_forms : (cell : List Stored) (place now : ℕ) (e : VolEntry) (c : Taken) → IsFour now → All IsStoredForm cell → entry_at cell place ≡ Some e → clone_at cell place now ≡ Some c → IsCloneForm e c
clone_forms cell place now e c four all found taken = clone_found cell (slice_get cell place) now e c four (at_some IsStoredForm cell place (slice_get cell place) all refl) found taken

first_head_form : (j : JobFields) (e : VolEntry) (c : Taken) → HasForms j → IsCloneForm e c → FitsVolHead (first_head j e c)
first_head_form j e c form clone = record {
  dump = form.head.id;
  index = few_done j form.job;
  fragment = (omega arith, omega arith);
  volume = (let id : c.volume.header.id < 4294967296 = clone.volume.header.id in omega (arith, id));
  clone = clone.time;
  from = from_form j.parent e.name c.born form.parent;
  name = clone.name;
  server = clone.server;
  partition = clone.partition;
}

clone_allowed : (j : JobFields) (e : VolEntry) (c : Taken) → HasForms j → IsCloneForm e c → Allowed (selected c.volume (from_time j e c) c.time)
clone_allowed j e c form clone =
    let from = from_form j.parent e.name c.born form.parent in
    let time = clone.time in
    selected_allowed c.volume (from_time j e c) c.time (omega (arith, from)) (omega (arith, time)) clone.volume.header clone.volume.vnodes clone.volume.fit

-- What is cloned at a place of a cell is a stream that the types allow.
pub allowed_there : (cell : List Stored) (place : ℕ) (j : JobFields) (e : VolEntry) (c : Taken) → All IsStoredForm cell → HasForms j → entry_at cell place ≡ Some e → clone_at cell place j.time ≡ Some c → Allowed (selected c.volume (from_time j e c) c.time)
allowed_there cell place j e c all form found taken = clone_allowed j e c form (clone_forms cell place j.time e c form.time all found taken)

clone_short : (j : JobFields) (e : VolEntry) (c : Taken) → HasForms j → IsCloneForm e c → length (first_hand j e c).stream < 1073741824
clone_short j e c form clone = written_long (selected c.volume (from_time j e c) c.time) (clone_allowed j e c form clone)

first_hand_form : (j : JobFields) (e : VolEntry) (c : Taken) → HasForms j → IsCloneForm e c → IsHandForm (first_hand j e c)
first_hand_form j e c form clone =
    let allowed = clone_allowed j e c form clone in
    let long = written_long (selected c.volume (from_time j e c) c.time) allowed in
    record { head = first_head_form j e c form clone; each = All-nil IsFrag; at = omega arith; bytes = written_bytes (selected c.volume (from_time j e c) c.time) allowed; few = omega (arith, long) }

clone_made : (e : VolEntry) (c : Taken) (j : JobFields) → j.phase ≡ phase.Clone → HasForms j → IsCloneForm e c → HasForms (cloned e c j)
clone_made e c j at form clone = record {
  job = cloned_is_job e c j at form.job (clone_short j e c form clone);
  capacity = form.capacity;
  time = form.time;
  parent = form.parent;
  head = form.head;
  label = form.label;
  first = form.first;
  filled = form.filled;
  hand = first_hand_form j e c form clone;
  volumes = done_form j form;
}

idle_form : (a : StepAnswer) (j : JobFields) → HasForms j → EventHasForms (idle a j)
idle_form a j form = record { changes = All-nil IsChange; job = form }

clone_by_form : (e : Option VolEntry) (c : Option Taken) (cell : List Stored) (place : ℕ) (j : JobFields) → j.phase ≡ phase.Clone → All IsStoredForm cell → HasForms j → entry_at cell place ≡ e → clone_at cell place j.time ≡ c
    → EventHasForms (clone_by e c j)
clone_by_form None c cell place j at all form found taken = idle_form answers.CellFailed j form
clone_by_form (Some e) None cell place j at all form found taken = idle_form answers.CellFailed j form
clone_by_form (Some e) (Some c) cell place j at all form found taken = record { changes = All-nil IsChange; job = clone_made e c j at form (clone_forms cell place j.time e c form.time all found taken) }

clone_from_form : (cell : List Stored) (o : Option ℕ) (j : JobFields) → j.phase ≡ phase.Clone → All IsStoredForm cell → HasForms j → EventHasForms (clone_from cell o j)
clone_from_form cell None j at all form = idle_form answers.CellFailed j form
clone_from_form cell (Some place) j at all form = clone_by_form (entry_at cell place) (clone_at cell place j.time) cell place j at all form refl refl

-- ---- the end of a part

pub label_forms : (label : Option LabelFields) → IfSome label FitsLabel → IsMaybe IsTapeName (permanent_in label)
label_forms None form = inr refl
label_forms (Some a) form = form.permanent

take_forms : (listed : List DumpRecordFields) (label : Option LabelFields) → IfSome label FitsLabel → AreChanges (takes (forgotten listed label))
take_forms listed None form = All-nil IsChange
take_forms listed (Some a) form = elim (cases_Bool (list_any (is_initial a.initial) listed)) [
  | inl hit ↦ rw hit (All-cons IsChange (Take a.initial) [] form.initial (All-nil IsChange))
  | inr miss ↦ rw miss (All-nil IsChange)
]

pub record IsChosenForm (c : Chosen) : Type 0 where
  pub permanent : IsMaybe IsTapeName (permanent_in c.label)
  pub take : AreChanges (takes c.take)

pub chosen_form : (listed : List DumpRecordFields) (w : Wanting) (port : PortFields) (slots : List Slot) (c : Chosen) → LabelsFit slots → choice_of listed (chosen listed w port slots) ≡ Some c → IsChosenForm c
chosen_form listed w port slots c labels is =
    let one = chosen_of listed w port slots c is in
    let fits = labels c.slot one.slot one.at in
    record {
      permanent = subst (λ (o : Option LabelFields). IsMaybe IsTapeName (permanent_in o)) (sym one.label) (label_forms (label_in one.slot.items) fits);
      take = subst (λ (o : Option ℕ). AreChanges (takes o)) (sym one.take) (take_forms listed (label_in one.slot.items) fits);
    }

part_form : (j : JobFields) → HasForms j → HasRoom 1 1 (counts_on j.port j.reel) → IsTapePart (closed_part j)
part_form j form room = record {
  tape = form.head.tape.1;
  first = form.first;
  end = few_records j form room;
  marks = omega (arith, few_records j form room);
  uses = form.head.uses;
  permanent = form.head.permanent;
}

filled_with : (filled : List Filled) (f : Filled) → All IsTapePart (map place_of_part filled) → IsTapePart f.part → All IsTapePart (map place_of_part (filled ++ f ∷ []))
filled_with [] f there one = All-cons IsTapePart f.part [] one (All-nil IsTapePart)
filled_with (x ∷ xs) f there one =
    All-cons IsTapePart x.part (map place_of_part (xs ++ f ∷ [])) (All-head IsTapePart x.part (map place_of_part xs) there) (filled_with xs f (All-tail IsTapePart x.part (map place_of_part xs) there) one)

-- a next fragment has the next number
next_head : (h : VolHeadFields) → FitsVolHead h → h.fragment ≤ 4294967294 → FitsVolHead (record h { fragment = h.fragment + 1 })
next_head h form few = record {
  dump = form.dump;
  index = form.index;
  fragment = (omega arith, omega (arith, few));
  volume = form.volume;
  clone = form.clone;
  from = form.from;
  name = form.name;
  server = form.server;
  partition = form.partition;
}

hand_form : (cut : Bool) (tape : ℕ) (hand : Option Hand) (j : JobFields) → IsFour tape → length j.filled ≤ 65534 → IfSome hand (IsInHand j) → IfSome hand IsHandForm → IfSome (next_hand cut tape hand) IsHandForm
hand_form cut tape None j four few there form = tt
hand_form false tape (Some h) j four few there form = form
hand_form true tape (Some h) j four few there form = record {
  head = next_head h.head form.head (omega (arith, there.frags, there.fragment, few));
  each = All-append IsFrag h.frags (record { tape = tape; at = h.at } ∷ []) form.each (All-cons IsFrag (record { tape = tape; at = h.at }) [] (record { tape = four; at = form.at }) (All-nil IsFrag));
  at = form.at;
  bytes = form.bytes;
  few = form.few;
}

passed_head : (old : Option LabelFields) (j : JobFields) → HasForms j → j.head.tape < 4294967295 → IsMaybe IsTapeName (permanent_in old) → FitsDumpHead (head_by old j)
passed_head old j form more permanent = record {
  id = form.head.id;
  initial = form.head.initial;
  parent = form.head.parent;
  expires = form.head.expires;
  tape = (omega arith, omega (arith, more));
  part = (omega arith, omega (arith, form.job.part, form.job.few_parts));
  volumes = form.head.volumes;
  set = form.head.set;
  level = form.head.level;
  base = form.head.base;
  cell = form.head.cell;
  permanent = permanent;
  uses = omega arith;
  plain = λ none. absurd (omega (arith, none));
}

passed_label : (old : Option LabelFields) (j : JobFields) → HasForms j → j.head.tape < 4294967295 → IsMaybe IsTapeName (permanent_in old) → FitsLabel (label_by old j)
passed_label old j form more permanent =
    let first : IsFour j.head.initial = omega (arith, form.head.initial.1, form.head.id) in
    let next : IsFour (j.head.tape + 1) = omega (arith, more) in
    label_fits j.head.initial j.head.base (j.head.tape + 1) (permanent_in old) (form.head.initial.0, first) (omega arith, next) form.head.base permanent

passed_form : (cut : Bool) (c : Chosen) (j : JobFields) → HasForms j → IsSome j.hand → HasRoom 1 1 (counts_on j.port j.reel) → length j.filled < 65534 → j.head.tape < 4294967295 → IsChosenForm c → HasForms (part_passed cut c j)
passed_form cut c j form some room few more chosen = record {
  job = passed_is_job cut c j form.job some (omega (arith, few)) form.head.permanent;
  capacity = form.capacity;
  time = form.time;
  parent = form.parent;
  head = passed_head c.label j form more chosen.permanent;
  label = passed_label c.label j form more chosen.permanent;
  first = form.first;
  filled = filled_with j.filled (record { slot = j.reel.slot; part = closed_part j }) form.filled (part_form j form room);
  hand = hand_form cut j.head.tape j.hand j form.head.tape.1 form.job.few_parts form.job.hand form.hand;
  volumes = form.volumes;
}

refused_form : (j : JobFields) → HasForms j → HasForms (part_refused j)
refused_form j form = record {
  job = refused_is_job j form.job;
  capacity = form.capacity;
  time = form.time;
  parent = form.parent;
  head = form.head;
  label = form.label;
  first = form.first;
  filled = form.filled;
  hand = form.hand;
  volumes = form.volumes;
}

made_by : (long : Bool) (changes : List Change) → AreChanges changes → AreChanges (if long then [] else changes)
made_by true changes form = All-nil IsChange
made_by false changes form = form

one_of : (long : Bool) (j k : JobFields) → HasForms j → HasForms k → HasForms (if long then j else k)
one_of true j k form other = form
one_of false j k form other = other

closing_form : (items : List Item) (changes : List Change) (size : ℕ) (j next : JobFields) (told : StepAnswer) (refused : JobFields) → AreChanges changes → HasForms next → HasForms refused
    → EventHasForms (closing items changes size j next told refused)
closing_form items changes size j next told refused form next_form refused_form = record {
  changes = made_by (is_too_long size changes) changes form;
  job = one_of (is_too_long size changes) refused next refused_form next_form;
}

if_some : {A : Type 0} (b : Bool) (o : Option A) (x : A) → (if b then o else None) ≡ Some x → (b ≡ true) × (o ≡ Some x)
if_some true o x is = (refl, is)
if_some false o x is = absurd (cc)

part_end_form : (cut : Bool) (o : Option Chosen) (a : Around) (j : JobFields) → LabelsFit a.slots → HasForms j → IsSome j.hand → HasRoom 1 1 (counts_on j.port j.reel) → next_choice a.listed a.slots j ≡ o
    → EventHasForms (part_end_by cut o a.log_size j)
part_end_form cut None a j labels form some room is = record { changes = All-nil IsChange; job = refused_form j form }
part_end_form cut (Some c) a j labels form some room is =
    let both = if_some (may_go_on j) (choice_of a.listed (chosen a.listed (next_wanting a.listed j) j.port a.slots)) c is in
    let few : length j.filled < 65534 = ltb-true (length j.filled) 65534 (and_left (nat_lt (length j.filled) 65534) (nat_lt j.head.tape 4294967295) both.0) in
    let more : j.head.tape < 4294967295 = ltb-true j.head.tape 4294967295 (and_right (nat_lt (length j.filled) 65534) (nat_lt j.head.tape 4294967295) both.0) in
    let chosen = chosen_form a.listed (next_wanting a.listed j) j.port a.slots c labels both.1 in
    closing_form (part_end_items 1 j) (takes c.take) a.log_size j (part_passed cut c j) answers.More (part_refused j) chosen.take (passed_form cut c j form some room few more chosen) (refused_form j form)

-- ---- the end of the dump

parts_form : (filled : List Filled) (p : TapePart) → All IsTapePart (map place_of_part filled) → IsTapePart p → All IsTapePart (map place_of_part filled ++ p ∷ [])
parts_form filled p all one = All-append IsTapePart (map place_of_part filled) (p ∷ []) all (All-cons IsTapePart p [] one (All-nil IsTapePart))

-- the record of a dump has the form of records
done_record_form : (j : JobFields) → HasForms j → HasRoom 1 1 (counts_on j.port j.reel) → IsDumpRecord (done_record j)
done_record_form j form room = record {
  id = form.head.id;
  initial = omega (arith, form.head.initial.1, form.head.id);
  parent = form.head.parent;
  expires = form.head.expires;
  set = form.head.set;
  level = form.head.level;
  base = record { some = form.head.base.0.some; short = form.head.base.1; first = tt; each = form.head.base.0.each };
  few_tapes = few_all_parts j form.job.few_parts;
  each_tape = parts_form j.filled (closed_part j) form.filled (part_form j form room);
  few_volumes = few_done j form.job;
  each_volume = done_form j form;
  cell = form.head.cell;
}

dump_end_form : (size : ℕ) (j : JobFields) → HasForms j → HasRoom 1 1 (counts_on j.port j.reel) → EventHasForms (dump_end_event size j)
dump_end_form size j form room =
    closing_form (part_end_items 0 j) (done_changes j) size j (dump_ended j) (answers.Done j.head.id) (dump_ended j)
    (All-cons IsChange (Done (done_record j)) [] (done_record_form j form room) (All-nil IsChange)) (refused_form j form) (refused_form j form)

-- ---- the volume in hand

headed_form : (h : Hand) (j : JobFields) → j.hand ≡ Some h → HasForms j → HasRoom 1 1 (counts_on j.port j.reel) → HasRoom 4 2 (counts_on j.port j.reel) → HasForms (headed h j)
headed_form h j is form due room =
    let hand = some_is IsHandForm j.hand h is form.hand in
    let few = few_records j form due in
    record {
      job = headed_is_job h j is form.job (head_room j.reel.blocks j.reel.marks j.port.filemark j.port.capacity room);
      capacity = form.capacity;
      time = form.time;
      parent = form.parent;
      head = form.head;
      label = form.label;
      first = form.first;
      filled = form.filled;
      hand = record { head = hand.head; each = hand.each; at = omega (arith, few); bytes = hand.bytes; few = omega (arith, hand.few) };
      volumes = form.volumes;
    }

head_form : (room : Bool) (a : Around) (h : Hand) (j : JobFields) → j.phase ≡ phase.Head → j.hand ≡ Some h → AroundHasForms a → HasForms j → has_room 4 2 (counts_on j.port j.reel) ≡ room → EventHasForms (head_event a h j)
head_form true a h j at is around form room =
    let due = head_due j at form.job in
    rw room (record { changes = All-nil IsChange; job = headed_form h j is form due.room (leb-true _ _ room) })
head_form false a h j at is around form room =
    let due = head_due j at form.job in
    rw room (part_end_form false (next_choice a.listed a.slots j) a j around.labels form due.hand due.room refl)

all_drop : (n : ℕ) (xs : List ℕ) → IsBytes xs → IsBytes (drop n xs)
all_drop zero xs all = all
all_drop (suc n) [] all = all
all_drop (suc n) (x ∷ xs) all = all_drop n xs (All-tail (λ (b : ℕ). b < 256) x xs all)

-- behind a piece as many bytes more stand in the fragment as fewer are left
pieced_hand : (h : Hand) → IsHandForm h → IsHandForm (without_piece h)
pieced_hand h form =
    let n : ℕ = next_used h in
    let within : n ≤ length h.stream = omega arith in
    record { head = form.head; each = form.each; at = form.at; bytes = all_drop n h.stream form.bytes; few = omega (arith, form.few, within, length-drop n h.stream) }

pieced_form : (h : Hand) (j : JobFields) → j.phase ≡ phase.Piece → j.hand ≡ Some h → HasForms j → HasRoom 3 2 (counts_on j.port j.reel) → HasForms (pieced h j)
pieced_form h j at is form room =
    let hand = some_is IsHandForm j.hand h is form.hand in
    record {
      job = pieced_is_job h j at is form.job (piece_room j.reel.blocks j.reel.marks j.port.filemark j.port.capacity room);
      capacity = form.capacity;
      time = form.time;
      parent = form.parent;
      head = form.head;
      label = form.label;
      first = form.first;
      filled = form.filled;
      hand = pieced_hand h hand;
      volumes = form.volumes;
    }

cut_form : (h : Hand) (j : JobFields) → j.hand ≡ Some h → HasForms j → HasRoom 2 2 (counts_on j.port j.reel) → HasForms (volume_cut j)
cut_form h j is form room = record {
  job = cut_is_job h j is form.job (end_room j.reel.blocks j.reel.marks j.port.filemark j.port.capacity room);
  capacity = form.capacity;
  time = form.time;
  parent = form.parent;
  head = form.head;
  label = form.label;
  first = form.first;
  filled = form.filled;
  hand = form.hand;
  volumes = form.volumes;
}

piece_form : (room : Bool) (h : Hand) (j : JobFields) → j.phase ≡ phase.Piece → j.hand ≡ Some h → HasForms j → has_room 3 2 (counts_on j.port j.reel) ≡ room → EventHasForms (piece_event h j)
piece_form true h j at is form room = rw room (record { changes = All-nil IsChange; job = pieced_form h j at is form (leb-true _ _ room) })
piece_form false h j at is form room = rw room (record { changes = All-nil IsChange; job = cut_form h j is form (piece_due j at form.job).room })

ended_form : (h : Hand) (j : JobFields) → j.phase ≡ phase.VolumeEnd → j.hand ≡ Some h → HasForms j → HasForms (volume_ended h j)
ended_form h j at is form = record {
  job = ended_is_job h j is form.job (end_room j.reel.blocks j.reel.marks j.port.filemark j.port.capacity (end_due j at form.job).room);
  capacity = form.capacity;
  time = form.time;
  parent = form.parent;
  head = form.head;
  label = form.label;
  first = form.first;
  filled = form.filled;
  hand = form.hand;
  volumes = form.volumes;
}

-- ---- all events

by_hand : (step : Hand → Event) (hand : Option Hand) (j : JobFields) → HasForms j → ((h : Hand) → hand ≡ Some h → EventHasForms (step h)) → EventHasForms (hand_event step hand j)
by_hand step None j form each = idle_form answers.Memory j form
by_hand step (Some h) j form each = each h refl

by_phase : (p : Phase) (a : Around) (j : JobFields) → j.phase ≡ p → AroundHasForms a → HasForms j → EventHasForms (event_by p a j)
by_phase phase.Tape a j at around form = tape_form (items_at a.slots j.reel.slot) j at form
by_phase phase.Clone a j at around form = clone_from_form a.cell (slice_get j.places (length (volumes_done j))) j at around.cell form
by_phase phase.Head a j at around form = by_hand (λ h. head_event a h j) j.hand j form (λ h is. head_form (has_room 4 2 (counts_on j.port j.reel)) a h j at is around form refl)
by_phase phase.Piece a j at around form = by_hand (λ h. piece_event h j) j.hand j form (λ h is. piece_form (has_room 3 2 (counts_on j.port j.reel)) h j at is form refl)
by_phase phase.VolumeEnd a j at around form = by_hand (λ h. putting (end_items 1 h) j (volume_ended h j)) j.hand j form (λ h is. record { changes = All-nil IsChange; job = ended_form h j at is form })
by_phase phase.PartEnd a j at around form = (let due = part_due j at form.job in part_end_form true (next_choice a.listed a.slots j) a j around.labels form due.hand due.room refl)
by_phase phase.DumpEnd a j at around form = dump_end_form a.log_size j form (last_due j at form.job)
by_phase phase.Over a j at around form = idle_form answers.Memory j form

pub event_forms : (a : Around) (j : JobFields) → AroundHasForms a → HasForms j → EventHasForms (event a j)
event_forms a j around form = by_phase j.phase a j refl around form
