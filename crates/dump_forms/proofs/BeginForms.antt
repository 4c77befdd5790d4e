-- A dump that is begun has its forms, and the changes that begin it can be written.
use Rattle.std.proofs.Common.{◌≡◌, ℕ, zero, suc, ◌+◌, ◌*◌, ◌-◌, ◌≤◌, Bool, true, false, Option, Some, None, List, [], ◌∷◌, length, refl, sym, ap, subst, arith, inl, inr}
use Rattle.std.specs.Prelude.{All, IfSome, slice_get, nat_le, nat_lt, ◌==◌, ◌&&◌, if◌then◌else◌, take, Result, Ok, Err}
use Rattle.std.specs.List.{count_by}
use Rattle.std.proofs.lemmas.Bool.{leb-true, eqb-true, cases_Bool}
use Rattle.std.proofs.lemmas.List.Elements.{All-nil, All-cons, All-contains}
use Rattle.bk_text.specs.Alphabets.{IsTapeName}
use Rattle.byte_formats.specs.Forms.{IsFour, IsMaybe, IsBase, base_most}
use Rattle.tape_config.specs.declared.port.PortFields.{PortFields}
use Rattle.tape_frames.specs.declared.label.LabelFields.{LabelFields}
use Rattle.tape_frames.specs.declared.frame.Frame.{Frame}
use Rattle.tape_frames.specs.declared.frame.Frame.TheVariants as frames
use Rattle.tape_frames.specs.Layouts.{FitsLabel}
use Rattle.tape_frames.specs.Frames.{Fits}
use Rattle.tape_frames.specs.TapeNames.{numbered}
use Rattle.budb_changes.specs.declared.change.Change.TheVariants.{Begin}
use Rattle.budb_changes.specs.declared.records.TapePart.{TapePart}
use Rattle.budb_changes.specs.declared.records.DumpRecordFields.{DumpRecordFields}
use Rattle.budb_changes.specs.Forms.{IsTapePart, IsVolRecord, IsDumpRecord, IsChange, AreChanges}
use Rattle.budb_changes.specs.Dumps.{IsNamed}
use Rattle.budb_fold.specs.declared.database.Database.{Database}
use Rattle.budb_fold.specs.Lookups.{record_of}
use Rattle.tape_text.specs.Items.{Item, Says, Filemark, Nothing}
use Rattle.tape_scan.specs.Slots.{Slot}
use Rattle.tape_writer.specs.Room.{HasRoom}
use Rattle.tape_writer.specs.Filling.{uses_in}
use Rattle.archive_model.specs.Holding.{is_so, is_label_frame, is_head_frame, holds_at, holds, place_of}
use Rattle.tape_choice.specs.declared.choosing.Chosen.{Chosen}
use Rattle.tape_choice.specs.declared.places.Place.{Place}
use Rattle.tape_choice.specs.declared.places.Appending.{Appending}
use Rattle.tape_choice.specs.declared.places.Appending.TheVariants.{NoSet, NotFound, Found}
use Rattle.tape_choice.specs.Reads.{label_in}
use Rattle.tape_choice.specs.Choice.{takes, chosen, choice_of}
use Rattle.tape_choice.specs.Append.{is_mark, uses_told, uses_before, is_as_told, appending}
use Rattle.dump_job.specs.declared.fault.JobFault.{JobFault}
use Rattle.dump_job.specs.declared.fault.JobFault.TheVariants.{NoTape, CapacityTooSmall, IdsSpent, LogFull}
use Rattle.dump_job.specs.declared.order.DumpOrder.{DumpOrder}
use Rattle.dump_job.specs.declared.first_tapes.FirstTape.{FirstTape}
use Rattle.dump_job.specs.Reels.{has_room}
use Rattle.dump_job.specs.Beginning.{new_id, are_spent, length_with, base_of, wanting_of, taken_tape, taken_or_none, next_tape, counts_at, place_tape, tape_behind, tape_by, tape_found, begin_changes, fresh, unless_full, unless_spent, tape_passed, id_of, first_tape, begun_job}
use Rattle.dump_forms.proofs.Choices.{and_left, and_right}
use Rattle.dump_forms.proofs.AppendLaws.{found_behind}
use Rattle.dump_forms.specs.Forms.{LabelsFit, HasForms}
use Rattle.dump_forms.specs.Begins.{IsOrderForm, AllFit, label_of, IsTapeForm}
use Rattle.dump_forms.proofs.EventForms.{found_has, label_forms, IsChosenForm, chosen_form}
use Rattle.dump_forms.proofs.TapeNames.{label_fits}
use Rattle.dump_forms.proofs.BaseNames.{base_is_name, base_is_short}

-- ---- what stands on tapes

pub frames_fit : (slots : List Slot) → AllFit slots → LabelsFit slots
frames_fit slots fit k s at = of_items s.items refl
  where
    of_items : (items : List Item) → s.items ≡ items → IfSome (label_in items) FitsLabel
    of_items [] is = tt
    of_items (Filemark ∷ is) same = tt
    of_items (Nothing ∷ is) same = tt
    of_items (Says (frames.Label a) ∷ is) same = fit k s 0 (frames.Label a) at (ap (λ (x : List Item). slice_get x 0) same)
    of_items (Says (frames.DumpHead a) ∷ is) same = tt
    of_items (Says (frames.VolHead a) ∷ is) same = tt
    of_items (Says (frames.Data a) ∷ is) same = tt
    of_items (Says (frames.VolEnd a) ∷ is) same = tt
    of_items (Says (frames.DumpEnd a) ∷ is) same = tt

-- a record that is so says a frame
so_frame : (test : Frame → Bool) (o : Option Item) → is_so test o ≡ true → (f : Frame) × (o ≡ Some (Says f)) × (test f ≡ true)
so_frame test None is = absurd (cc)
so_frame test (Some (Says f)) is = (f, refl, is)
so_frame test (Some Filemark) is = absurd (cc)
so_frame test (Some Nothing) is = absurd (cc)

label_told : (initial tape : ℕ) (f : Frame) → Fits f → is_label_frame initial tape f ≡ true → 1 ≤ tape → 1 ≤ initial
label_told initial tape (frames.Label a) fits is some =
    let first : a.initial ≡ initial = eqb-true a.initial initial (and_left (a.initial == initial) (a.tape == tape) is) in
    let number : a.tape ≡ tape = eqb-true a.tape tape (and_right (a.initial == initial) (a.tape == tape) is) in
    elim fits.carries [
      | inl none ↦ absurd (omega (arith, none.1, number, some))
      | inr all ↦ not_none a.initial initial first all.0
    ]
  where
    not_none : (n m : ℕ) → n ≡ m → (n ≡ 0 → ⊥) → 1 ≤ m
    not_none zero m same some = absurd (some refl)
    not_none (suc n) m same some = omega (arith, same)
label_told initial tape (frames.DumpHead a) fits is some = absurd (cc)
label_told initial tape (frames.VolHead a) fits is some = absurd (cc)
label_told initial tape (frames.Data a) fits is some = absurd (cc)
label_told initial tape (frames.VolEnd a) fits is some = absurd (cc)
label_told initial tape (frames.DumpEnd a) fits is some = absurd (cc)

head_told : (id tape : ℕ) (f : Frame) → Fits f → is_head_frame id tape f ≡ true → 1 ≤ tape
head_told id tape (frames.DumpHead a) fits is = (let number : a.tape ≡ tape = eqb-true a.tape tape (and_right (a.id == id) (a.tape == tape) is) in omega (arith, number, fits.tape.0))
head_told id tape (frames.Label a) fits is = absurd (cc)
head_told id tape (frames.VolHead a) fits is = absurd (cc)
head_told id tape (frames.Data a) fits is = absurd (cc)
head_told id tape (frames.VolEnd a) fits is = absurd (cc)
head_told id tape (frames.DumpEnd a) fits is = absurd (cc)

-- What is held for a dump has a number above 0, and so has its dump set.
held_numbers : (d : DumpRecordFields) (tape : ℕ) (items : List Item) → ((n : ℕ) (f : Frame) → slice_get items n ≡ Some (Says f) → Fits f) → (o : Option TapePart) → holds_at o d tape items ≡ true → (1 ≤ d.initial) × (1 ≤ tape)
held_numbers d tape items fit None held = absurd (cc)
held_numbers d tape items fit (Some p) held =
    let label = so_frame (is_label_frame d.initial tape) (slice_get items 0) (and_left (is_so (is_label_frame d.initial tape) (slice_get items 0)) (is_so (is_head_frame d.id tape) (slice_get items p.first)) held) in
    let head = so_frame (is_head_frame d.id tape) (slice_get items p.first) (and_right (is_so (is_label_frame d.initial tape) (slice_get items 0)) (is_so (is_head_frame d.id tape) (slice_get items p.first)) held) in
    let some : 1 ≤ tape = head_told d.id tape head.0 (fit p.first head.0 head.1) head.2 in
    (label_told d.initial tape label.0 (fit 0 label.0 label.1) label.2 some, some)

-- the uses that records tell are a number of four bytes
uses_form : (i : Item) → ((f : Frame) → i ≡ Says f → Fits f) → IsFour (uses_in i)
uses_form Filemark fit = omega arith
uses_form Nothing fit = omega arith
uses_form (Says (frames.DumpHead a)) fit = (fit (frames.DumpHead a) refl).uses
uses_form (Says (frames.Label a)) fit = omega arith
uses_form (Says (frames.VolHead a)) fit = omega arith
uses_form (Says (frames.Data a)) fit = omega arith
uses_form (Says (frames.VolEnd a)) fit = omega arith
uses_form (Says (frames.DumpEnd a)) fit = omega arith

told_form : (end : ℕ) (items : List Item) → ((n : ℕ) (f : Frame) → slice_get items n ≡ Some (Says f) → Fits f) → IsFour (uses_told (take end items))
told_form zero items fit = omega arith
told_form (suc end) [] fit = omega arith
told_form (suc end) (i ∷ is) fit = elim (cases_Bool (uses_in i == 0)) [
  | inl hit ↦ rw hit (told_form end is (λ n f at. fit (suc n) f at))
  | inr miss ↦ rw miss (uses_form i (λ f same. fit 0 f (ap Some same)))
]

before_form : (end : ℕ) (items : List Item) → ((n : ℕ) (f : Frame) → slice_get items n ≡ Some (Says f) → Fits f) → (1 ≤ uses_before end items) × IsFour (uses_before end items)
before_form end items fit = elim (cases_Bool (uses_told (take end items) == 0)) [
  | inl hit ↦ rw hit (omega arith, omega arith)
  | inr miss ↦ rw miss (positive (uses_told (take end items)) miss, told_form end items fit)
]
  where
    positive : (n : ℕ) → (n == 0) ≡ false → 1 ≤ n
    positive zero is = absurd (cc)
    positive (suc n) is = omega arith

-- ---- a tape that is taken

if_ok : {A E : Type 0} (b : Bool) (r : Result A E) (e : E) (x : A) → (if b then r else Err e) ≡ Ok x → (b ≡ true) × (r ≡ Ok x)
if_ok true r e x is = (refl, is)
if_ok false r e x is = absurd (cc)

if_err : {A E : Type 0} (b : Bool) (e : E) (r : Result A E) (x : A) → (if b then Err e else r) ≡ Ok x → r ≡ Ok x
if_err true e r x is = absurd (cc)
if_err false e r x is = is

by_chosen : (initial : ℕ) (base : List ℕ) (number : ℕ) (o : Option Chosen) (t : FirstTape) → taken_or_none initial base number o ≡ Ok t → (c : Chosen) × (o ≡ Some c) × (taken_tape initial base number c ≡ t)
by_chosen initial base number None t is = absurd (cc)
by_chosen initial base number (Some c) t is = (c, refl, cc)

fresh_room : (f cap : ℕ) → 6 * 16384 + 3 * f ≤ cap → (0 + 1 + 5) * 16384 + (0 + 1 + 2) * f ≤ cap
fresh_room f cap room = omega (arith, room)

taken_form : (port : PortFields) (id initial : ℕ) (base : List ℕ) (number : ℕ) (c : Chosen) → HasRoom 6 3 (fresh port) → (1 ≤ initial) × (initial ≤ id) → (1 ≤ number) × IsFour number → IsTapeName base × (length base ≤ base_most)
    → IsChosenForm c → IsTapeForm port id (taken_tape initial base number c)
taken_form port id initial base number c room first counted named form = record {
  initial = first;
  tape = counted;
  base = named;
  permanent = form.permanent;
  label = refl;
  uses = (omega arith, omega arith);
  marks = omega arith;
  few = omega arith;
  room = fresh_room port.filemark port.capacity room;
  take = form.take;
}

next_form : (o : DumpOrder) (listed : List DumpRecordFields) (slots : List Slot) (id initial : ℕ) (base : List ℕ) (number : ℕ) (t : FirstTape) → LabelsFit slots → HasRoom 6 3 (fresh o.port) → (1 ≤ initial) × (initial ≤ id) → 1 ≤ number
    → IsTapeName base × (length base ≤ base_most) → next_tape o listed slots initial base number ≡ Ok t → IsTapeForm o.port id t
next_form o listed slots id initial base number t labels room first some named is =
    let choice : Option Chosen = choice_of listed (chosen listed (wanting_of o listed initial (numbered base number)) o.port slots) in
    let both = if_ok (nat_le number 4294967295) (taken_or_none initial base number choice) (NoTape (numbered base number)) t is in
    let four : number ≤ 4294967295 = leb-true number 4294967295 both.0 in
    let x = by_chosen initial base number choice t both.1 in
    subst (IsTapeForm o.port id) x.2 (taken_form o.port id initial base number x.0 room first (some, four) named (chosen_form listed (wanting_of o listed initial (numbered base number)) o.port slots x.0 labels x.1))

-- ---- a tape that is appended to

base_form : (base : List ℕ) → IsBase base → IsTapeName base × (length base ≤ base_most)
base_form base is = (record { some = is.some; short = omega (arith, is.short); first = tt; each = is.each }, is.short)

-- what is so of a place that is found
record IsPlaceForm (p : Place) : Type 0 where
  initial : 1 ≤ p.initial
  tape : (1 ≤ p.tape) × IsFour p.tape
  base : IsTapeName p.base × (length p.base ≤ base_most)
  permanent : IsMaybe IsTapeName p.permanent
  uses : (1 ≤ p.uses) × IsFour p.uses
  marks : p.marks ≤ p.blocks

some_part : (o : Option TapePart) (p : TapePart) → o ≡ Some p → IfSome o IsTapePart → IsTapePart p
some_part None p is form = absurd (cc)
some_part (Some q) p is form = (let same : q ≡ p = cc in subst IsTapePart same form)

place_form : (listed : List DumpRecordFields) (set : List ℕ) (port : PortFields) (whole : ℕ → Bool) (slots : List Slot) (p : Place) → All IsDumpRecord listed → AllFit slots → appending listed set port whole slots ≡ Found p → IsPlaceForm p
place_form listed set port whole slots p records fit is =
    let x = found_behind listed set port whole slots p is in
    let d : DumpRecordFields = x.one.dump in
    let part : TapePart = x.one.part in
    let items : List Item = x.slot.items in
    let record_form = All-contains IsDumpRecord listed d records x.last.there in
    let part_form : IsTapePart part = some_part (place_of d part.tape) part x.last.place (found_has IsTapePart (λ q. q.tape == part.tape) d.tapes record_form.each_tape) in
    let rest = and_right x.slot.here (holds d part.tape items && (whole x.number && is_as_told part items)) x.passes in
    let held = and_left (holds d part.tape items) (whole x.number && is_as_told part items) rest in
    let told = and_right (whole x.number) (is_as_told part items) (and_right (holds d part.tape items) (whole x.number && is_as_told part items) rest) in
    let counts = and_right (nat_le part.end (length items)) ((count_by is_mark (take part.end items) == part.marks) && nat_le part.marks (part.end - part.marks)) told in
    let few : part.marks ≤ part.end - part.marks = leb-true part.marks (part.end - part.marks) (and_right (count_by is_mark (take part.end items) == part.marks) (nat_le part.marks (part.end - part.marks)) counts) in
    let fits : (n : ℕ) (f : Frame) → slice_get items n ≡ Some (Says f) → Fits f = λ n f at. fit x.number x.slot n f x.at at in
    let numbers = held_numbers d part.tape items fits (place_of d part.tape) held in
    subst IsPlaceForm x.is (record {
      initial = numbers.0;
      tape = (numbers.1, part_form.tape);
      base = base_form d.base record_form.base;
      permanent = label_forms (label_in items) (frames_fit slots fit x.number x.slot x.at);
      uses = before_form part.end items fits;
      marks = few;
    })

few_blocks : (b m f cap : ℕ) → (b + 5) * 16384 + (m + 2) * f ≤ cap → b * 16384 ≤ cap
few_blocks b m f cap room = omega (arith, room)

behind_form : (port : PortFields) (id : ℕ) (p : Place) → IsPlaceForm p → p.initial ≤ id → HasRoom 5 2 (counts_at port p) → IsTapeForm port id (place_tape p)
behind_form port id p form within room = record {
  initial = (form.initial, within);
  tape = form.tape;
  base = form.base;
  permanent = form.permanent;
  label = tt;
  uses = form.uses;
  marks = form.marks;
  few = few_blocks p.blocks p.marks port.filemark port.capacity room;
  room = room;
  take = All-nil IsChange;
}

tape_behind_form : (o : DumpOrder) (listed : List DumpRecordFields) (slots : List Slot) (id : ℕ) (p : Place) (t : FirstTape) → LabelsFit slots → HasRoom 6 3 (fresh o.port) → IsPlaceForm p → p.initial ≤ id → (room : Bool)
    → has_room 5 2 (counts_at o.port p) ≡ room → (if room then Ok (place_tape p) else next_tape o listed slots p.initial p.base (p.tape + 1)) ≡ Ok t → IsTapeForm o.port id t
tape_behind_form o listed slots id p t labels fresh_has form within true room is = (let same : place_tape p ≡ t = cc in subst (IsTapeForm o.port id) same (behind_form o.port id p form within (leb-true _ _ room)))
tape_behind_form o listed slots id p t labels fresh_has form within false room is = next_form o listed slots id p.initial p.base (p.tape + 1) t labels fresh_has (form.initial, within) (omega arith) form.base is

appended_form : (o : DumpOrder) (listed : List DumpRecordFields) (slots : List Slot) (whole : ℕ → Bool) (id : ℕ) (a : Appending) (t : FirstTape) → All IsDumpRecord listed → AllFit slots → HasRoom 6 3 (fresh o.port)
    → appending listed o.set o.port whole slots ≡ a → tape_by o listed slots id a ≡ Ok t → IsTapeForm o.port id t
appended_form o listed slots whole id NoSet t records fit room found is = absurd (cc)
appended_form o listed slots whole id (NotFound base tape) t records fit room found is = absurd (cc)
appended_form o listed slots whole id (Found p) t records fit room found is =
    let form = place_form listed o.set o.port whole slots p records fit found in
    let both = if_ok (nat_le p.initial id) (tape_behind o listed slots p) (NoTape (numbered p.base p.tape)) t is in
    tape_behind_form o listed slots id p t (frames_fit slots fit) room form (leb-true p.initial id both.0) (has_room 5 2 (counts_at o.port p)) refl both.1

-- ---- the tape on which a dump begins

found_form : (o : DumpOrder) (listed : List DumpRecordFields) (slots : List Slot) (whole : ℕ → Bool) (id : ℕ) (t : FirstTape) → IsOrderForm o → All IsDumpRecord listed → AllFit slots → HasRoom 6 3 (fresh o.port) → 1 ≤ id
    → (append : Bool) → (if append then tape_by o listed slots id (appending listed o.set o.port whole slots) else next_tape o listed slots id (base_of o) 1) ≡ Ok t → IsTapeForm o.port id t
found_form o listed slots whole id t order records fit room some true is = appended_form o listed slots whole id (appending listed o.set o.port whole slots) t records fit room refl is
found_form o listed slots whole id t order records fit room some false is =
    next_form o listed slots id id (base_of o) 1 t (frames_fit slots fit) room (some, omega arith) (omega arith) (base_is_name o.set o.level order.set order.level, base_is_short o.set o.level order.set order.level) is

passed_room : (o : DumpOrder) (size greatest id : ℕ) (r : Result FirstTape JobFault) (t : FirstTape) → tape_passed o size greatest id r ≡ Ok t → HasRoom 6 3 (fresh o.port)
passed_room o size greatest id (Err fault) t is = absurd (cc)
passed_room o size greatest id (Ok u) t is = (let both = if_ok (has_room 6 3 (fresh o.port)) (unless_spent size greatest id u) CapacityTooSmall t is in leb-true _ _ both.0)

passed_found : (o : DumpOrder) (size greatest id : ℕ) (r : Result FirstTape JobFault) (t : FirstTape) → tape_passed o size greatest id r ≡ Ok t → r ≡ Ok t
passed_found o size greatest id (Err fault) t is = absurd (cc)
passed_found o size greatest id (Ok u) t is =
    let both = if_ok (has_room 6 3 (fresh o.port)) (unless_spent size greatest id u) CapacityTooSmall t is in
    let left = if_err (are_spent greatest) IdsSpent (unless_full (length_with size id u.take) u) t both.1 in
    if_err (nat_lt 268435456 (length_with size id u.take)) (LogFull (length_with size id u.take)) (Ok u) t left

pub first_form : (o : DumpOrder) (db : Database) (slots : List Slot) (whole : ℕ → Bool) (size : ℕ) (t : FirstTape) → IsOrderForm o → All IsDumpRecord db.listed → AllFit slots → first_tape db slots whole o size ≡ Ok t → IsTapeForm o.port (id_of o db) t
first_form o db slots whole size t order records fit is =
    let room = passed_room o size db.greatest (id_of o db) (tape_found o db.listed slots whole (id_of o db)) t is in
    let found = passed_found o size db.greatest (id_of o db) (tape_found o db.listed slots whole (id_of o db)) t is in
    found_form o db.listed slots whole (id_of o db) t order records fit room (some_id o.time db.greatest) o.append found
  where
    some_id : (time greatest : ℕ) → 1 ≤ new_id time greatest
    some_id time greatest = omega arith

-- ---- a dump that is begun

record_at : (listed : List DumpRecordFields) (id : ℕ) → All IsDumpRecord listed → IfSome (record_of listed id) IsDumpRecord
record_at listed id records = found_has IsDumpRecord (λ d. d.id == id) listed records

told_fits : (t : FirstTape) (o : Option LabelFields) → IfSome o (λ l. l ≡ label_of t) → FitsLabel (label_of t) → IfSome o FitsLabel
told_fits t None is fits = tt
told_fits t (Some label) is fits = subst FitsLabel (sym is) fits

begun_label : (port : PortFields) (id : ℕ) (t : FirstTape) → IsFour id → IsTapeForm port id t → IfSome t.label FitsLabel
begun_label port id t four form =
    let first : IsFour t.initial = omega (arith, form.initial.1, four) in
    told_fits t t.label form.label (label_fits t.initial t.base t.tape t.permanent (form.initial.0, first) form.tape form.base form.permanent)

pub begun_form : (o : DumpOrder) (listed : List DumpRecordFields) (id : ℕ) (t : FirstTape) → IsFour id → IsOrderForm o → 1 ≤ length o.volumes → All IsDumpRecord listed → HasRoom 6 3 (fresh o.port) → IsTapeForm o.port id t → HasForms (begun_job o listed id t)
begun_form o listed id t four order some records room form = record {
  job = record {
    fresh = room;
    marks = form.marks;
    part = refl;
    few_parts = omega arith;
    named = All-nil IsNamed;
    hand = tt;
    volumes = omega arith;
    few_volumes = order.few;
    at = record { few = form.few; room = form.room; spare = refl; uses = form.uses.0; hand = some };
  };
  capacity = order.capacity;
  time = order.time;
  parent = record_at listed o.parent records;
  head = record {
    id = four;
    initial = form.initial;
    parent = order.parent;
    expires = order.expires;
    tape = form.tape;
    part = (omega arith, omega arith);
    volumes = (some, order.few);
    set = order.set;
    level = order.level;
    base = form.base;
    cell = order.cell;
    permanent = form.permanent;
    uses = form.uses.1;
    plain = λ none. absurd (omega (arith, none, form.uses.0));
  };
  label = begun_label o.port id t four form;
  first = omega arith;
  filled = All-nil IsTapePart;
  hand = tt;
  volumes = All-nil IsVolRecord;
}

-- What begins the dump can be written, and the dump has its forms.
pub begin_forms : (o : DumpOrder) (db : Database) (slots : List Slot) (whole : ℕ → Bool) (size : ℕ) (t : FirstTape) → IsOrderForm o → 1 ≤ length o.volumes → All IsDumpRecord db.listed → AllFit slots → first_tape db slots whole o size ≡ Ok t
    → AreChanges (begin_changes (id_of o db) t.take) × HasForms (begun_job o db.listed (id_of o db) t)
begin_forms o db slots whole size t order some records fit is =
    let room = passed_room o size db.greatest (id_of o db) (tape_found o db.listed slots whole (id_of o db)) t is in
    let form = first_form o db slots whole size t order records fit is in
    let four = id_form o.time db.greatest in
    (All-cons IsChange (Begin (id_of o db)) (takes t.take) four form.take, begun_form o db.listed (id_of o db) t four order some records room form)
  where
    id_form : (time greatest : ℕ) → IsFour (new_id time greatest)
    id_form time greatest = omega arith
