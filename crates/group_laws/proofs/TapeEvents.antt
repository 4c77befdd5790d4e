-- What a dump puts on tapes: no event puts more on the tape in hand than was left for it, and a tape step leaves its tape with few records.
use Rattle.std.proofs.Common.{◌≡◌, ◌⊎◌, ℕ, zero, suc, ◌+◌, ◌-◌, ◌*◌, ◌≤◌, Bool, true, false, Option, Some, None, List, [], ◌∷◌, ◌++◌, length, length-append, map, take, refl, sym, ◌∙◌, ap, subst, arith, inl, inr}
use Rattle.std.specs.Prelude.{◌==◌, slice_get, if◌then◌else◌}
use Rattle.std.proofs.lemmas.List.{length-map}
use Rattle.plant_core.specs.Records.{Record}
use Rattle.plant_core.specs.Crashes.{State}
use Rattle.plant_core.specs.Effects.{cuts, comes, come}
use Rattle.plant_effects.proofs.States.{come_append}
use Rattle.vnode_model.specs.declared.listed.VolEntry.{VolEntry}
use Rattle.cell_core.specs.declared.stored.Stored.{Stored}
use Rattle.cell_core.specs.declared.stored.Taken.{Taken}
use Rattle.cell_core.specs.Calls.{entry_at, clone_at}
use Rattle.tape_frames.specs.declared.label.LabelFields.{LabelFields}
use Rattle.tape_frames.specs.declared.dump_head.DumpHeadFields.{DumpHeadFields}
use Rattle.tape_text.specs.Items.{Item, record_for}
use Rattle.tape_writer.specs.Room.{HasRoom}
use Rattle.tape_writer.specs.Puts.{begun, puts_on, with_items}
use Rattle.tape_writer.proofs.Standing.{stands}
use Rattle.tape_choice.specs.declared.choosing.Chosen.{Chosen}
use Rattle.budb_changes.specs.declared.change.Change.{Change}
use Rattle.dump_job.specs.declared.answer.StepAnswer.{StepAnswer}
use Rattle.dump_job.specs.declared.answer.StepAnswer.TheVariants as answers
use Rattle.dump_job.specs.declared.fields.Hand.{Hand}
use Rattle.dump_job.specs.declared.fields.JobFields.{JobFields}
use Rattle.dump_job.specs.declared.fields.Reel.{Reel}
use Rattle.dump_job.specs.declared.fields.Phase.{Phase}
use Rattle.dump_job.specs.declared.fields.Phase.TheVariants as phase
use Rattle.dump_job.specs.Reels.{records_on, counts_on, has_room}
use Rattle.dump_job.specs.Taping.{uses_for, head_with, tape_items, reel_begun, taped}
use Rattle.dump_job.specs.Cloning.{volumes_done}
use Rattle.dump_job.specs.Volumes.{head_items, headed, piece_items, pieced, end_items, volume_ended, volume_cut}
use Rattle.dump_job.specs.Ending.{part_end_items}
use Rattle.dump_job.specs.Passing.{next_choice, next_changes, part_passed, part_refused}
use Rattle.dump_job.specs.Closing.{committing, is_too_long, made_of, done_changes, dump_ended}
use Rattle.dump_job.specs.Jobs.{IsAt}
use Rattle.dump_job.specs.Events.{Around, Event, putting, items_at, tape_event, clone_by, clone_from, closing, part_end_by, part_end_event, head_event, piece_event, hand_event, event_by, event}
use Rattle.dump_forms.specs.Forms.{HasForms}

-- ---- what is left

-- what is so at one slot; nothing at others
abbrev pub at_slot : ℕ → ℕ → ℕ → ℕ
at_slot k slot n = if k == slot then n else 0

-- No tape of a port takes 500,000 records. How many more a dump puts at most on the tape in hand; before a tape step that cuts it isn't counted.
abbrev pub left_at : Phase → Reel → ℕ
left_at phase.Tape reel = 0
left_at phase.Clone reel = 500000 - records_on reel
left_at phase.Head reel = 500000 - records_on reel
left_at phase.Piece reel = 500000 - records_on reel
left_at phase.VolumeEnd reel = 500000 - records_on reel
left_at phase.PartEnd reel = 500000 - records_on reel
left_at phase.DumpEnd reel = 500000 - records_on reel
left_at phase.Over reel = 0

-- how many records more a dump puts at most on the tape of a slot before it cuts one
abbrev pub left_of : JobFields → ℕ → ℕ
left_of j k = at_slot k j.reel.slot (left_at j.phase j.reel)

-- so many records and so many that are left are no more than these; or they are few
abbrev pub Grows : ℕ → ℕ → ℕ → Type 0
Grows records left old = (records + left ≤ old) ⊎ (records + left ≤ 1000000)

left_most : (p : Phase) (reel : Reel) → left_at p reel ≤ 500000 - records_on reel
left_most phase.Tape reel = omega arith
left_most phase.Clone reel = omega arith
left_most phase.Head reel = omega arith
left_most phase.Piece reel = omega arith
left_most phase.VolumeEnd reel = omega arith
left_most phase.PartEnd reel = omega arith
left_most phase.DumpEnd reel = omega arith
left_most phase.Over reel = omega arith

if_less : (b : Bool) (m n : ℕ) → m ≤ n → (if b then m else 0) ≤ (if b then n else 0)
if_less true m n le = le
if_less false m n le = omega arith

if_both : (b : Bool) (m n l : ℕ) → m + n ≤ l → (if b then m else 0) + (if b then n else 0) ≤ (if b then l else 0)
if_both true m n l le = le
if_both false m n l le = omega arith

if_most : (b : Bool) (m n : ℕ) → m ≤ n → (if b then m else 0) ≤ n
if_most true m n le = le
if_most false m n le = omega arith

pub left_few : (j : JobFields) (k : ℕ) → left_of j k ≤ 500000
left_few j k =
    let most : left_at j.phase j.reel ≤ 500000 - records_on j.reel = left_most j.phase j.reel in
    if_most (k == j.reel.slot) (left_at j.phase j.reel) 500000 (omega (arith, most))

-- ---- items that are put

if_put : (b : Bool) (n : ℕ) (old new : List Record) → length new ≡ length old + n → length (if b then new else old) ≤ length old + (if b then n else 0)
if_put true n old new is = omega (arith, is)
if_put false n old new is = omega arith

put_at : (slot : ℕ) (items : List Item) (s : State) (k : ℕ) → length ((come (puts_on slot items) s).tape k) ≤ length (s.tape k) + at_slot k slot (length items)
put_at slot items s k =
    let all : List Record = s.tape k ++ map record_for items in
    let long : length all ≡ length (s.tape k) + length items = length-append (s.tape k) (map record_for items) ∙ ap (λ (n : ℕ). length (s.tape k) + n) (length-map items record_for) in
    let less : length ((with_items slot items s).tape k) ≤ length (s.tape k) + at_slot k slot (length items) = if_put (k == slot) (length items) (s.tape k) all long in
    subst (λ (l : List Record). length l ≤ length (s.tape k) + at_slot k slot (length items)) (sym ((stands slot items s).tape k)) less

-- What stands on the tapes and what is left is no more than what stood there and what was left on the tape in hand.
abbrev Falls : JobFields → JobFields → State → State → Type 0
Falls j next s t = (k : ℕ) → length (t.tape k) + left_of next k ≤ length (s.tape k) + at_slot k j.reel.slot (500000 - records_on j.reel)

-- items are put on the tape in hand, where so much is left behind them
put_falls : (j next : JobFields) (items : List Item) (s : State) → ((k : ℕ) → at_slot k j.reel.slot (length items) + left_of next k ≤ at_slot k j.reel.slot (500000 - records_on j.reel)) → Falls j next s (come (puts_on j.reel.slot items) s)
put_falls j next items s less k = omega (arith, put_at j.reel.slot items s k, less k)

-- the dump goes on with that tape, and the items are counted
goes_on_there : (j next : JobFields) (count : ℕ) → next.reel.slot ≡ j.reel.slot → records_on j.reel + count ≤ records_on next.reel → records_on j.reel + count ≤ 500000
    → (k : ℕ) → at_slot k j.reel.slot count + left_of next k ≤ at_slot k j.reel.slot (500000 - records_on j.reel)
goes_on_there j next count same counts room k =
    let most : left_at next.phase next.reel ≤ 500000 - records_on next.reel = left_most next.phase next.reel in
    let left : left_of next k ≡ at_slot k j.reel.slot (left_at next.phase next.reel) = ap (λ (slot : ℕ). at_slot k slot (left_at next.phase next.reel)) same in
    let less : at_slot k j.reel.slot count + at_slot k j.reel.slot (left_at next.phase next.reel) ≤ at_slot k j.reel.slot (500000 - records_on j.reel) =
    if_both (k == j.reel.slot) count (left_at next.phase next.reel) (500000 - records_on j.reel) (omega (arith, most, counts, room)) in
    omega (arith, left, less)

-- nothing is left for it
ends_there : (j next : JobFields) (count : ℕ) → left_at next.phase next.reel ≡ 0 → records_on j.reel + count ≤ 500000
    → (k : ℕ) → at_slot k j.reel.slot count + left_of next k ≤ at_slot k j.reel.slot (500000 - records_on j.reel)
ends_there j next count none room k =
    let left : left_of next k ≤ 0 = if_most (k == next.reel.slot) (left_at next.phase next.reel) 0 (omega (arith, none)) in
    let less : at_slot k j.reel.slot count ≤ at_slot k j.reel.slot (500000 - records_on j.reel) = if_less (k == j.reel.slot) count (500000 - records_on j.reel) (omega (arith, room)) in
    omega (arith, left, less)

-- ---- room

few_records : (j : JobFields) → HasForms j → HasRoom 1 1 (counts_on j.port j.reel) → records_on j.reel + 2 ≤ 500000
few_records j form room = omega (arith, room, form.capacity, form.job.marks)

few_stay : (j : JobFields) → HasForms j → j.reel.blocks * 16384 ≤ j.port.capacity → records_on j.reel + 3 ≤ 500000
few_stay j form few = omega (arith, few, form.capacity, form.job.marks)

less_room : (b m f cap : ℕ) → (b + 2) * 16384 + (m + 2) * f ≤ cap → (b + 1) * 16384 + (m + 1) * f ≤ cap
less_room b m f cap room = omega (arith, room)

-- ---- each event but a tape step

-- the dump is as it was, or has the same tape in hand, and nothing is put
stays_falls : (j next : JobFields) (s : State) → next.reel ≡ j.reel → Falls j next s s
stays_falls j next s same k =
    let most : left_at next.phase j.reel ≤ 500000 - records_on j.reel = left_most next.phase j.reel in
    let left : left_of next k ≡ at_slot k j.reel.slot (left_at next.phase j.reel) = ap (λ (r : Reel). at_slot k r.slot (left_at next.phase r)) same in
    let less : at_slot k j.reel.slot (left_at next.phase j.reel) ≤ at_slot k j.reel.slot (500000 - records_on j.reel) = if_less (k == j.reel.slot) (left_at next.phase j.reel) (500000 - records_on j.reel) most in
    omega (arith, left, less)

by_clone : (e : Option VolEntry) (c : Option Taken) (j : JobFields) (s : State) → Falls j (clone_by e c j).job s (come (clone_by e c j).effects s)
by_clone (Some e) (Some c) j s = stays_falls j (clone_by (Some e) (Some c) j).job s refl
by_clone (Some e) None j s = stays_falls j j s refl
by_clone None taken j s = stays_falls j j s refl

by_place : (cell : List Stored) (place : Option ℕ) (j : JobFields) (s : State) → Falls j (clone_from cell place j).job s (come (clone_from cell place j).effects s)
by_place cell None j s = stays_falls j j s refl
by_place cell (Some place) j s = by_clone (entry_at cell place) (clone_at cell place j.time) j s

-- commits leave the tapes
commit_tapes : (changes : List Change) (s : State) → (come (committing changes) s).tape ≡ s.tape
commit_tapes [] s = refl
commit_tapes (c ∷ cs) s = refl

by_length : (b : Bool) (refused next : JobFields) (Q : JobFields → Type 0) → Q refused → Q next → Q (if b then refused else next)
by_length true refused next Q first second = first
by_length false refused next Q first second = second

closing_falls : (items : List Item) (changes : List Change) (size : ℕ) (j next refused : JobFields) (told : StepAnswer) (s : State) → left_at refused.phase refused.reel ≡ 0 → left_at next.phase next.reel ≡ 0 → records_on j.reel + length items ≤ 500000
    → let e = closing items changes size j next told refused in Falls j e.job s (come e.effects s)
closing_falls items changes size j next refused told s first second room =
    let behind : State = come (puts_on j.reel.slot items) s in
    let put : Falls j (if is_too_long size changes then refused else next) s behind =
    by_length (is_too_long size changes) refused next (λ (x : JobFields). Falls j x s behind) (put_falls j refused items s (ends_there j refused (length items) first room)) (put_falls j next items s (ends_there j next (length items) second room)) in
    let same : (come (puts_on j.reel.slot items ++ committing (made_of size changes)) s).tape ≡ behind.tape =
    ap (λ (t : State). t.tape) (come_append (puts_on j.reel.slot items) (committing (made_of size changes)) s) ∙ commit_tapes (made_of size changes) behind in
    subst (λ (tape : ℕ → List Record). (k : ℕ) → length (tape k) + left_of (if is_too_long size changes then refused else next) k ≤ length (s.tape k) + at_slot k j.reel.slot (500000 - records_on j.reel)) (sym same) put

by_choice : (cut : Bool) (c : Option Chosen) (size : ℕ) (j : JobFields) (s : State) → records_on j.reel + 2 ≤ 500000 → Falls j (part_end_by cut c size j).job s (come (part_end_by cut c size j).effects s)
by_choice cut None size j s room = put_falls j (part_refused j) (part_end_items 1 j) s (ends_there j (part_refused j) 2 refl room)
by_choice cut (Some c) size j s room = closing_falls (part_end_items 1 j) (next_changes (Some c)) size j (part_passed cut c j) (part_refused j) answers.More s refl refl room

by_head : (b : Bool) (a : Around) (h : Hand) (j : JobFields) (s : State) → records_on j.reel + 2 ≤ 500000
    → let e = (if b then putting (head_items h) j (headed h j) else part_end_event false a j) in Falls j e.job s (come e.effects s)
by_head true a h j s room = put_falls j (headed h j) (head_items h) s (goes_on_there j (headed h j) 1 refl (omega arith) (omega (arith, room)))
by_head false a h j s room = by_choice false (next_choice a.listed a.slots j) a.log_size j s room

by_piece : (b : Bool) (h : Hand) (j : JobFields) (s : State) → records_on j.reel + 2 ≤ 500000
    → let e = (if b then putting (piece_items h) j (pieced h j) else putting (end_items 0 h) j (volume_cut j)) in Falls j e.job s (come e.effects s)
by_piece true h j s room = put_falls j (pieced h j) (piece_items h) s (goes_on_there j (pieced h j) 1 refl (omega arith) (omega (arith, room)))
by_piece false h j s room = put_falls j (volume_cut j) (end_items 0 h) s (goes_on_there j (volume_cut j) 2 refl (omega arith) room)

by_hand : (step : Hand → Event) (hand : Option Hand) (j : JobFields) (s : State) → ((h : Hand) → Falls j (step h).job s (come (step h).effects s)) → Falls j (hand_event step hand j).job s (come (hand_event step hand j).effects s)
by_hand step None j s each = stays_falls j j s refl
by_hand step (Some h) j s each = each h

-- ---- a tape step

begun_few : (label : Option LabelFields) (head : DumpHeadFields) → length (begun label head) ≤ 3
begun_few None head = omega arith
begun_few (Some label) head = omega arith

begun_slot : (label : Option LabelFields) (reel : Reel) → (reel_begun label reel).slot ≡ reel.slot
begun_slot None reel = refl
begun_slot (Some label) reel = refl

take_few : (n : ℕ) (xs : List Record) → length (take n xs) ≤ n
take_few zero xs = omega arith
take_few (suc n) [] = omega arith
take_few (suc n) (x ∷ xs) = omega (arith, take_few n xs)

take_less : (n : ℕ) (xs : List Record) → length (take n xs) ≤ length xs
take_less zero xs = omega arith
take_less (suc n) [] = omega arith
take_less (suc n) (x ∷ xs) = omega (arith, take_less n xs)

if_cut : (b : Bool) (n : ℕ) (xs : List Record) → length (if b then take n xs else xs) ≤ (if b then n else length xs)
if_cut true n xs = take_few n xs
if_cut false n xs = omega arith

if_taken : (b : Bool) (n : ℕ) (xs : List Record) → length (if b then take n xs else xs) ≤ length xs
if_taken true n xs = take_less n xs
if_taken false n xs = omega arith

-- a cut leaves no tape longer
pub cut_less : (slot n : ℕ) (s : State) (k : ℕ) → length ((comes (cuts slot n) s).tape k) ≤ length (s.tape k)
cut_less slot n s k = if_taken (k == slot) n (s.tape k)

-- at the slot there are few records then, and at others all is as before
if_grows : (b : Bool) (records left old count items : ℕ) → records ≤ (if b then count else old) + (if b then items else 0) → left ≤ (if b then 500000 else 0) → count + items ≤ 500000 → Grows records left old
if_grows true records left old count items here there few = inr (omega (arith, here, there, few))
if_grows false records left old count items here there few = inl (omega (arith, here, there))

more_grows : (records left old more : ℕ) → Grows records left old → Grows records left (old + more)
more_grows records left old more (inl le) = inl (omega (arith, le))
more_grows records left old more (inr few) = inr few

tape_grows : (uses : ℕ) (j : JobFields) (s : State) → records_on j.reel + 3 ≤ 500000 → (k : ℕ) → Grows (length ((come (tape_event uses j).effects s).tape k)) (left_of (taped uses j) k) (length (s.tape k))
tape_grows uses j s room k =
    let cut : State = comes (cuts j.reel.slot (records_on j.reel)) s in
    let items : List Item = tape_items uses j in
    let few : length items ≤ 3 = begun_few j.label (head_with uses j.head) in
    let most : left_at (taped uses j).phase (taped uses j).reel ≤ 500000 - records_on (taped uses j).reel = left_most (taped uses j).phase (taped uses j).reel in
    let left : left_of (taped uses j) k ≡ at_slot k j.reel.slot (left_at (taped uses j).phase (taped uses j).reel) = ap (λ (slot : ℕ). at_slot k slot (left_at (taped uses j).phase (taped uses j).reel)) (begun_slot j.label j.reel) in
    let less : at_slot k j.reel.slot (left_at (taped uses j).phase (taped uses j).reel) ≤ at_slot k j.reel.slot 500000 = if_less (k == j.reel.slot) (left_at (taped uses j).phase (taped uses j).reel) 500000 (omega (arith, most)) in
    let short : length (cut.tape k) ≤ (if k == j.reel.slot then records_on j.reel else length (s.tape k)) = if_cut (k == j.reel.slot) (records_on j.reel) (s.tape k) in
    if_grows (k == j.reel.slot) (length ((come (tape_event uses j).effects s).tape k)) (left_of (taped uses j) k) (length (s.tape k)) (records_on j.reel) (length items)
    (omega (arith, put_at j.reel.slot items cut k, short)) (omega (arith, left, less)) (omega (arith, few, room))

-- ---- each event

-- nothing is left for a dump that is over
over_falls : (j : JobFields) (s : State) (k : ℕ) → j.phase ≡ phase.Over → length (s.tape k) + left_of j k ≤ length (s.tape k) + at_slot k j.reel.slot 0
over_falls j s k at = (let left : left_of j k ≡ at_slot k j.reel.slot 0 = ap (λ (p : Phase). at_slot k j.reel.slot (left_at p j.reel)) at in omega (arith, left))

by_phase : (p : Phase) (a : Around) (j : JobFields) (s : State) → HasForms j → j.phase ≡ p → IsAt p j → (k : ℕ) → Grows (length ((come (event_by p a j).effects s).tape k)) (left_of (event_by p a j).job k) (length (s.tape k) + at_slot k j.reel.slot (left_at p j.reel))
by_phase phase.Tape a j s form at ready k =
    (let uses : ℕ = uses_for j (items_at a.slots j.reel.slot) in
    more_grows (length ((come (tape_event uses j).effects s).tape k)) (left_of (taped uses j) k) (length (s.tape k)) (at_slot k j.reel.slot 0) (tape_grows uses j s (few_stay j form ready.few) k))
by_phase phase.Clone a j s form at ready k = inl (by_place a.cell (slice_get j.places (length (volumes_done j))) j s k)
by_phase phase.Head a j s form at ready k = inl (by_hand (λ h. head_event a h j) j.hand j s (λ h. by_head (has_room 4 2 (counts_on j.port j.reel)) a h j s (few_records j form ready.room)) k)
by_phase phase.Piece a j s form at ready k =
    inl (by_hand (λ h. piece_event h j) j.hand j s (λ h. by_piece (has_room 3 2 (counts_on j.port j.reel)) h j s (few_records j form (less_room j.reel.blocks j.reel.marks j.port.filemark j.port.capacity ready.room))) k)
by_phase phase.VolumeEnd a j s form at ready k =
    inl
    (by_hand (λ h. putting (end_items 1 h) j (volume_ended h j)) j.hand j s
    (λ h. put_falls j (volume_ended h j) (end_items 1 h) s (goes_on_there j (volume_ended h j) 2 refl (omega arith) (few_records j form (less_room j.reel.blocks j.reel.marks j.port.filemark j.port.capacity ready.room)))) k)
by_phase phase.PartEnd a j s form at ready k = inl (by_choice true (next_choice a.listed a.slots j) a.log_size j s (few_records j form ready.room) k)
by_phase phase.DumpEnd a j s form at ready k = inl (closing_falls (part_end_items 0 j) (done_changes j) a.log_size j (dump_ended j) (dump_ended j) (answers.Done j.head.id) s refl refl (few_records j form ready) k)
by_phase phase.Over a j s form at ready k = inl (over_falls j s k at)

-- EACH EVENT leaves at each slot, with what is left for the dump there, no more than before; or few records.
pub event_grows : (a : Around) (j : JobFields) (s : State) → HasForms j → (k : ℕ) → Grows (length ((come (event a j).effects s).tape k)) (left_of (event a j).job k) (length (s.tape k) + left_of j k)
event_grows a j s form k = by_phase j.phase a j s form refl form.job.at k
