-- The course of a dump, event by event, and that it ends.
use Rattle.std.proofs.Common.{zero, suc, ◌≡◌, ℕ, ◌+◌, ◌*◌, ◌<◌, ◌≤◌, List, [], ◌∷◌, length, drop, Bool, true, false, inl, inr, refl, sym, ◌∙◌, ap, arith, length-append, length-drop}
use Rattle.std.specs.Prelude.{if◌then◌else◌, ◌==◌, ◌-◌, min, nat_lt, Option, Some, None, slice_get}
use Rattle.std.proofs.lemmas.Bool.{cases_Bool, false≢true, and_parts, ltb-true}
use Rattle.std.specs.List.{sum_by}
use Rattle.std.proofs.lemmas.List.Sums.{sum_by-cons}
use Rattle.vnode_model.specs.declared.listed.VolEntry.{VolEntry}
use Rattle.cell_core.specs.declared.stored.Stored.{Stored}
use Rattle.cell_core.specs.declared.stored.Taken.{Taken}
use Rattle.cell_core.specs.Calls.{entry_at, clone_at}
use Rattle.budb_changes.specs.declared.records.Frag.{Frag}
use Rattle.budb_changes.specs.declared.records.VolRecordFields.{VolRecordFields}
use Rattle.tape_choice.specs.declared.choosing.Chosen.{Chosen}
use Rattle.dump_job.specs.declared.answer.StepAnswer.TheVariants.{More, Done, Refused}
use Rattle.dump_job.specs.declared.fault.JobFault.{JobFault}
use Rattle.dump_job.specs.declared.fault.JobFault.TheVariants.{LogFull}
use Rattle.dump_job.specs.declared.fields.Hand.{Hand}
use Rattle.dump_job.specs.declared.fields.JobFields.{JobFields}
use Rattle.dump_job.specs.declared.fields.Phase.{Phase}
use Rattle.dump_job.specs.declared.fields.Phase.TheVariants as phase
use Rattle.dump_job.specs.Reels.{records_on, counts_on, has_room}
use Rattle.dump_job.specs.Taping.{taped, uses_for, phase_begun}
use Rattle.dump_job.specs.Cloning.{record_with, with_hand, volumes_done, first_hand, cloned}
use Rattle.dump_job.specs.Volumes.{phase_behind, head_items, begun_at, headed, piece_items, without_piece, pieced, end_items, volume_ended, volume_cut}
use Rattle.dump_job.specs.Passing.{may_go_on, next_choice, next_changes, next_frags, hand_with, part_passed}
use Rattle.dump_job.specs.Closing.{length_with, is_too_long, done_changes}
use Rattle.dump_job.specs.Events.{Around, Event, putting, items_at, clone_by, clone_from, part_end_by, part_end_event, dump_end_event, head_event, piece_event, hand_event, event_by, event}
use Rattle.dump_courses.specs.Scenes.{Scene}
use Rattle.dump_courses.specs.Courses.{Point, around, next_event, behind, stream_of, events_for, places_left, bytes_left, rank_of, events_left, Course, goes_on, last_event, event_then, course_by, course_within, course}

-- ---- how much is left

-- how much is left by what counts
left_by : ℕ → ℕ → ℕ → ℕ → ℕ
left_by volumes bytes filled rank = volumes + bytes + 10 * (65534 - filled) + rank

-- what is left of the volumes
volumes_left : List Stored → JobFields → ℕ
volumes_left cell j = sum_by (events_for j.parent cell j.time) (places_left j)

left_is : (cell : List Stored) (j : JobFields) → events_left cell j ≡ left_by (volumes_left cell j) (bytes_left j.hand) (length j.filled) (rank_of j.phase)
unfolding events_left left_by volumes_left
left_is cell j = refl

falls_by : (cell : List Stored) (old new : JobFields) → left_by (volumes_left cell new) (bytes_left new.hand) (length new.filled) (rank_of new.phase) < left_by (volumes_left cell old) (bytes_left old.hand) (length old.filled) (rank_of old.phase) → events_left cell new < events_left cell old
falls_by cell old new less = rw (left_is cell new, left_is cell old) less

-- the same volumes are left where as many are done
volumes_same : (cell : List Stored) (old new : JobFields) → new.parent ≡ old.parent → new.time ≡ old.time → new.places ≡ old.places → length (volumes_done new) ≡ length (volumes_done old) → volumes_left cell new ≡ volumes_left cell old
unfolding volumes_left
volumes_same cell old new parent time places done =
    λ i. sum_by (events_for (parent i) cell (time i)) (drop (done i) (places i))

-- ---- each event that isn't the last

abbrev pub FallsTo : List Stored → JobFields → Event → Type 0
FallsTo cell j e = goes_on e.answer ≡ true → events_left cell e.job < events_left cell j

less_rank : (v b f m n : ℕ) → m < n → left_by v b f m < left_by v b f n
unfolding left_by
less_rank v b f m n less = omega (arith, less)

-- a tape
rank_begun : (hand : Option Hand) → rank_of (phase_begun hand) < 5
rank_begun None = omega arith
rank_begun (Some h) = omega arith

tape_falls : (cell : List Stored) (uses : ℕ) (j : JobFields) → j.phase ≡ phase.Tape → events_left cell (taped uses j) < events_left cell j
tape_falls cell uses j at =
    let rank : rank_of j.phase ≡ 5 = ap rank_of at in
    let volumes : volumes_left cell (taped uses j) ≡ volumes_left cell j = volumes_same cell j (taped uses j) refl refl refl refl in
    falls_by cell j (taped uses j) (rw (volumes, rank) (less_rank (volumes_left cell j) (bytes_left j.hand) (length j.filled) (rank_of (phase_begun j.hand)) 5 (rank_begun j.hand)))

-- a clone
drop_next : (l : List ℕ) (n x : ℕ) → slice_get l n ≡ Some x → drop n l ≡ x ∷ drop (suc n) l
drop_next [] n x is = absurd (let e : None ≡ Some x = is in cc)
drop_next (y ∷ l) zero x is = let e : Some y ≡ Some x = is in let same : y ≡ x = cc in ap (λ (z : ℕ). z ∷ l) same
drop_next (y ∷ l) (suc n) x is = drop_next l n x is

one_more : (vs : List VolRecordFields) (t : ℕ) (h : Hand) → length (with_hand t (Some h) vs) ≡ suc (length vs)
one_more vs t h = omega (arith, length-append vs (record_with t h ∷ []))

sum_next : (f : ℕ → ℕ) (l : List ℕ) (n x : ℕ) → slice_get l n ≡ Some x → sum_by f (drop n l) ≡ f x + sum_by f (drop (suc n) l)
sum_next f l n x is = ap (sum_by f) (drop_next l n x is) ∙ sum_by-cons f x (drop (suc n) l)

volumes_next : (cell : List Stored) (e : VolEntry) (c : Taken) (j : JobFields) (place : ℕ) → slice_get j.places (length (volumes_done j)) ≡ Some place
    → volumes_left cell j ≡ events_for j.parent cell j.time place + volumes_left cell (cloned e c j)
unfolding volumes_left
volumes_next cell e c j place is =
    sum_next (events_for j.parent cell j.time) j.places (length (volumes_done j)) place is
    ∙ ap (λ (n : ℕ). events_for j.parent cell j.time place + sum_by (events_for j.parent cell j.time) (drop n j.places)) (sym (one_more (volumes_done j) j.head.tape (first_hand j e c)))

less_cloned : (rest bytes stream f : ℕ) → left_by rest stream f 4 < left_by ((10 + stream) + rest) bytes f 1
unfolding left_by
less_cloned rest bytes stream f = omega arith

clone_falls : (cell : List Stored) (e : VolEntry) (c : Taken) (j : JobFields) (place : ℕ) → j.phase ≡ phase.Clone → slice_get j.places (length (volumes_done j)) ≡ Some place → entry_at cell place ≡ Some e → clone_at cell place j.time ≡ Some c
    → events_left cell (cloned e c j) < events_left cell j
clone_falls cell e c j place at next entry clone =
    let rank : rank_of j.phase ≡ 1 = ap rank_of at in
    let volume : events_for j.parent cell j.time place ≡ 10 + length (first_hand j e c).stream = λ i. 10 + length (stream_of j.parent (entry i) (clone i)) in
    let volumes : volumes_left cell j ≡ (10 + length (first_hand j e c).stream) + volumes_left cell (cloned e c j) = volumes_next cell e c j place next ∙ ap (λ (n : ℕ). n + volumes_left cell (cloned e c j)) volume in
    falls_by cell j (cloned e c j) (rw (volumes, rank) (less_cloned (volumes_left cell (cloned e c j)) (bytes_left j.hand) (length (first_hand j e c).stream) (length j.filled)))

clone_by_falls : (cell : List Stored) (j : JobFields) (place : ℕ) (e : Option VolEntry) (c : Option Taken) → j.phase ≡ phase.Clone → slice_get j.places (length (volumes_done j)) ≡ Some place → entry_at cell place ≡ e → clone_at cell place j.time ≡ c
    → FallsTo cell j (clone_by e c j)
clone_by_falls cell j place (Some e) (Some c) at next entry clone = λ going. clone_falls cell e c j place at next entry clone
clone_by_falls cell j place (Some e) None at next entry clone = λ going. absurd (false≢true going)
clone_by_falls cell j place None c at next entry clone = λ going. absurd (false≢true going)

clone_from_falls : (cell : List Stored) (j : JobFields) (place : Option ℕ) → j.phase ≡ phase.Clone → slice_get j.places (length (volumes_done j)) ≡ place → FallsTo cell j (clone_from cell place j)
clone_from_falls cell j None at next = λ going. absurd (false≢true going)
clone_from_falls cell j (Some place) at next = clone_by_falls cell j place (entry_at cell place) (clone_at cell place j.time) at next refl refl

-- the next part
with_fewer : (v b f m n : ℕ) → f < 65534 → m < n + 10 → left_by v b (f + 1) m < left_by v b f n
unfolding left_by
with_fewer v b f m n some less = omega (arith, some, less)

bytes_by : (frags : Option (List Frag)) (hand : Option Hand) → bytes_left (hand_with frags hand) ≡ bytes_left hand
bytes_by frags None = refl
bytes_by None (Some h) = refl
bytes_by (Some frags) (Some h) = refl

done_by : (frags : Option (List Frag)) (hand : Option Hand) (t u : ℕ) (vs : List VolRecordFields) → length (with_hand t (hand_with frags hand) vs) ≡ length (with_hand u hand vs)
done_by frags None t u vs = refl
done_by None (Some h) t u vs = one_more vs t h ∙ sym (one_more vs u h)
done_by (Some frags) (Some h) t u vs = one_more vs t (record h { head = record h.head { fragment = h.head.fragment + 1 }; frags = frags }) ∙ sym (one_more vs u h)

one_filled : (j : JobFields) (c : Chosen) (cut : Bool) → length (part_passed cut c j).filled ≡ length j.filled + 1
one_filled j c cut = length-append j.filled _

chosen_then : (b : Bool) (x : Option Chosen) (c : Chosen) → (if b then x else None) ≡ Some c → b ≡ true
chosen_then true x c is = refl
chosen_then false x c is = absurd (let e : None ≡ Some c = is in cc)

part_falls : (cell : List Stored) (cut : Bool) (c : Chosen) (j : JobFields) → 2 ≤ rank_of j.phase → may_go_on j ≡ true → events_left cell (part_passed cut c j) < events_left cell j
part_falls cell cut c j rank may =
    let few : length j.filled < 65534 = ltb-true (length j.filled) 65534 (and_parts _ _ may).0 in
    let new : JobFields = part_passed cut c j in
    let volumes : volumes_left cell new ≡ volumes_left cell j = volumes_same cell j new refl refl refl (done_by (next_frags cut j.head.tape j.hand) j.hand (j.head.tape + 1) j.head.tape j.volumes) in
    let bytes : bytes_left new.hand ≡ bytes_left j.hand = bytes_by (next_frags cut j.head.tape j.hand) j.hand in
    falls_by cell j new (rw (volumes, bytes, one_filled j c cut) (with_fewer (volumes_left cell j) (bytes_left j.hand) (length j.filled) 5 (rank_of j.phase) few (omega (arith, rank))))

going_if : (b : Bool) (f : JobFault) → goes_on (if b then Refused f else More) ≡ true → b ≡ false
going_if true f going = absurd (false≢true going)
going_if false f going = refl

part_by_falls : (cell : List Stored) (cut : Bool) (choice : Option Chosen) (size : ℕ) (j : JobFields) → 2 ≤ rank_of j.phase → ((c : Chosen) → choice ≡ Some c → may_go_on j ≡ true) → FallsTo cell j (part_end_by cut choice size j)
part_by_falls cell cut None size j rank may = λ going. absurd (false≢true going)
part_by_falls cell cut (Some c) size j rank may = λ going.
    let short : is_too_long size (next_changes (Some c)) ≡ false = going_if (is_too_long size (next_changes (Some c))) _ going in
    rw short (part_falls cell cut c j rank (may c refl))

part_end_falls : (cut : Bool) (a : Around) (j : JobFields) → 2 ≤ rank_of j.phase → FallsTo a.cell j (part_end_event cut a j)
part_end_falls cut a j rank = part_by_falls a.cell cut (next_choice a.listed a.slots j) a.log_size j rank (λ c is. chosen_then (may_go_on j) _ c is)

-- the end of the dump
end_goes_not : (b : Bool) (id : ℕ) (f : JobFault) → goes_on (if b then Refused f else Done id) ≡ false
end_goes_not true id f = refl
end_goes_not false id f = refl

dump_end_falls : (cell : List Stored) (size : ℕ) (j : JobFields) → FallsTo cell j (dump_end_event size j)
dump_end_falls cell size j = λ going. absurd (false≢true (sym (end_goes_not (is_too_long size (done_changes j)) j.head.id (LogFull (length_with size (done_changes j)))) ∙ going))

-- the volume in hand
rank_behind : (left : List ℕ) → rank_of (phase_behind left) ≤ 3
rank_behind left = by (length left == 0)
  where
    by : (b : Bool) → rank_of (if b then phase.VolumeEnd else phase.Piece) ≤ 3
    by true = omega arith
    by false = omega arith

less_bytes : (v v2 b b2 x y f f2 m n : ℕ) → v2 ≡ v → b2 ≡ x → b ≡ y → f2 ≡ f → x + n < y + m → left_by v2 b2 f2 n < left_by v b f m
unfolding left_by
less_bytes v v2 b b2 x y f f2 m n left one other filled less = omega (arith, left, one, other, filled, less)

hand_falls : (cell : List Stored) (j new : JobFields) (h now : Hand) → j.hand ≡ Some h → new.hand ≡ Some now → new.parent ≡ j.parent → new.time ≡ j.time → new.places ≡ j.places → new.volumes ≡ j.volumes → new.filled ≡ j.filled
    → length now.stream + rank_of new.phase < length h.stream + rank_of j.phase → events_left cell new < events_left cell j
hand_falls cell j new h now in_hand in_new parent time places volumes filled less =
    let done : length (volumes_done new) ≡ length (volumes_done j) =
    (λ i. length (with_hand new.head.tape (in_new i) (volumes i))) ∙ one_more j.volumes new.head.tape now ∙ sym ((λ i. length (with_hand j.head.tape (in_hand i) j.volumes)) ∙ one_more j.volumes j.head.tape h) in
    let left : volumes_left cell new ≡ volumes_left cell j = volumes_same cell j new parent time places done in
    let bytes : bytes_left new.hand ≡ length now.stream = ap bytes_left in_new in
    let bytes_old : bytes_left j.hand ≡ length h.stream = ap bytes_left in_hand in
    falls_by cell j new (less_bytes _ _ _ _ _ _ _ _ _ _ left bytes bytes_old (ap length filled) less)

if_falls : (cell : List Stored) (j : JobFields) (b : Bool) (x y : Event) → FallsTo cell j x → FallsTo cell j y → FallsTo cell j (if b then x else y)
if_falls cell j true x y one other = one
if_falls cell j false x y one other = other

head_falls : (a : Around) (h : Hand) (j : JobFields) → j.phase ≡ phase.Head → j.hand ≡ Some h → FallsTo a.cell j (head_event a h j)
head_falls a h j at in_hand =
    let rank : rank_of j.phase ≡ 4 = ap rank_of at in
    let now : Hand = begun_at (records_on j.reel) h in
    if_falls a.cell j (has_room 4 2 (counts_on j.port j.reel)) (putting (head_items h) j (headed h j)) (part_end_event false a j)
    (λ going. hand_falls a.cell j (headed h j) h now in_hand refl refl refl refl refl refl (omega (arith, rank, rank_behind h.stream)))
    (part_end_falls false a j (omega (arith, rank)))

piece_less : (s : List ℕ) → length (drop (min 16352 (length s)) s) + rank_of (phase_behind (drop (min 16352 (length s)) s)) < length s + 3
piece_less [] = omega arith
piece_less (x ∷ s) =
    let n : ℕ = min 16352 (length (x ∷ s)) in
    let some : 1 ≤ min 16352 (length (x ∷ s)) = omega arith in
    omega (arith, length-drop (min 16352 (length (x ∷ s))) (x ∷ s), rank_behind (drop (min 16352 (length (x ∷ s))) (x ∷ s)), some)

piece_falls : (cell : List Stored) (h : Hand) (j : JobFields) → j.phase ≡ phase.Piece → j.hand ≡ Some h → FallsTo cell j (piece_event h j)
piece_falls cell h j at in_hand =
    let rank : rank_of j.phase ≡ 3 = ap rank_of at in
    if_falls cell j (has_room 3 2 (counts_on j.port j.reel)) (putting (piece_items h) j (pieced h j)) (putting (end_items 0 h) j (volume_cut j))
    (λ going. hand_falls cell j (pieced h j) h (without_piece h) in_hand refl refl refl refl refl refl (omega (arith, rank, piece_less h.stream)))
    (λ going. hand_falls cell j (volume_cut j) h h in_hand in_hand refl refl refl refl refl (omega (arith, rank)))

rank_ended : (b : Bool) → rank_of (if b then phase.Clone else phase.DumpEnd) ≤ 1
rank_ended true = omega arith
rank_ended false = omega arith

end_falls : (cell : List Stored) (h : Hand) (j : JobFields) → j.phase ≡ phase.VolumeEnd → j.hand ≡ Some h → FallsTo cell j (putting (end_items 1 h) j (volume_ended h j))
end_falls cell h j at in_hand = λ going.
    let rank : rank_of j.phase ≡ 2 = ap rank_of at in
    hand_falls cell j (volume_ended h j) h h in_hand in_hand refl refl refl refl refl (omega (arith, rank, rank_ended (nat_lt (h.head.index + 1) (length j.places))))

by_hand : (cell : List Stored) (j : JobFields) (step : Hand → Event) (hand : Option Hand) → j.hand ≡ hand → ((h : Hand) → j.hand ≡ Some h → FallsTo cell j (step h)) → FallsTo cell j (hand_event step hand j)
by_hand cell j step None in_hand falls = λ going. absurd (false≢true going)
by_hand cell j step (Some h) in_hand falls = falls h in_hand

by_phase : (p : Phase) (a : Around) (j : JobFields) → j.phase ≡ p → FallsTo a.cell j (event_by p a j)
by_phase phase.Tape a j at = λ going. tape_falls a.cell (uses_for j (items_at a.slots j.reel.slot)) j at
by_phase phase.Clone a j at = clone_from_falls a.cell j (slice_get j.places (length (volumes_done j))) at refl
by_phase phase.Head a j at = by_hand a.cell j (λ h. head_event a h j) j.hand refl (λ h in_hand. head_falls a h j at in_hand)
by_phase phase.Piece a j at = by_hand a.cell j (λ h. piece_event h j) j.hand refl (λ h in_hand. piece_falls a.cell h j at in_hand)
by_phase phase.VolumeEnd a j at = by_hand a.cell j (λ h. putting (end_items 1 h) j (volume_ended h j)) j.hand refl (λ h in_hand. end_falls a.cell h j at in_hand)
by_phase phase.PartEnd a j at = part_end_falls true a j (omega (arith, ap rank_of at))
by_phase phase.DumpEnd a j at = dump_end_falls a.cell a.log_size j
by_phase phase.Over a j at = λ going. absurd (false≢true going)

-- an event that isn't the last one leaves fewer
pub event_falls : (a : Around) (j : JobFields) → goes_on (event a j).answer ≡ true → events_left a.cell (event a j).job < events_left a.cell j
event_falls a j = by_phase j.phase a j refl

-- ---- the course

none_left : (s : Scene) (p : Point) → events_left s.cell p.job ≤ 0 → goes_on (next_event s p).answer ≡ false
none_left s p none = elim (cases_Bool (goes_on (next_event s p).answer)) [
  | inl hit ↦ absurd (let falls : events_left s.cell (next_event s p).job < events_left s.cell p.job = event_falls (around s p) p.job hit in omega (arith, falls, none))
  | inr miss ↦ miss
]

last_by : (rest : Point → Course) (p : Point) (e : Event) → goes_on e.answer ≡ false → course_by rest p e ≡ last_event p e
last_by rest p e last = rw last refl

more_by : (rest : Point → Course) (p : Point) (e : Event) → goes_on e.answer ≡ true → course_by rest p e ≡ event_then e (rest (behind p e))
more_by rest p e more = rw more refl

-- It doesn't depend on the bound, once that is large enough.
enough : (m n : ℕ) (s : Scene) (p : Point) → events_left s.cell p.job ≤ m → events_left s.cell p.job ≤ n → course_within m s p ≡ course_within n s p
enough zero zero s p one other = refl
enough zero (suc n) s p one other = sym (last_by (course_within n s) p (next_event s p) (none_left s p one))
enough (suc m) zero s p one other = last_by (course_within m s) p (next_event s p) (none_left s p other)
enough (suc m) (suc n) s p one other = elim (cases_Bool (goes_on (next_event s p).answer)) [
  | inl hit ↦
      let falls : events_left s.cell (next_event s p).job < events_left s.cell p.job = event_falls (around s p) p.job hit in
      more_by (course_within m s) p (next_event s p) hit
      ∙ ap (event_then (next_event s p)) (enough m n s (behind p (next_event s p)) (omega (arith, falls, one)) (omega (arith, falls, other)))
      ∙ sym (more_by (course_within n s) p (next_event s p) hit)
  | inr miss ↦ last_by (course_within m s) p (next_event s p) miss ∙ sym (last_by (course_within n s) p (next_event s p) miss)
]

course_is : (n : ℕ) (s : Scene) (p : Point) → events_left s.cell p.job ≤ n → course s p ≡ course_within n s p
unfolding course
course_is n s p within = enough (events_left s.cell p.job) n s p (omega arith) within

-- An event that isn't the last one is the first of the course that is left.
pub course_more : (s : Scene) (p : Point) → goes_on (next_event s p).answer ≡ true → course s p ≡ event_then (next_event s p) (course s (behind p (next_event s p)))
course_more s p more =
    let n : ℕ = events_left s.cell p.job in
    let falls : events_left s.cell (next_event s p).job < events_left s.cell p.job = event_falls (around s p) p.job more in
    course_is (suc (events_left s.cell p.job)) s p (omega arith)
    ∙ more_by (course_within (events_left s.cell p.job) s) p (next_event s p) more
    ∙ ap (event_then (next_event s p)) (sym (course_is (events_left s.cell p.job) s (behind p (next_event s p)) (omega (arith, falls))))

pub course_last : (s : Scene) (p : Point) → goes_on (next_event s p).answer ≡ false → course s p ≡ last_event p (next_event s p)
course_last s p last =
    course_is (suc (events_left s.cell p.job)) s p (omega arith) ∙ last_by (course_within (events_left s.cell p.job) s) p (next_event s p) last
