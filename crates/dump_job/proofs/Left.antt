-- Each step behind which a dump goes on makes less of what is left.
use Rattle.std.proofs.Common.{◌≡◌, ◌≢◌, ℕ, ◌+◌, ◌-◌, ◌<◌, ◌≤◌, Bool, true, false, List, [], ◌∷◌, Option, Some, None, length, refl, sym, ◌∙◌, ap, subst, arith, length-append, length-drop}
use Rattle.std.specs.Prelude.{◌==◌, nat_lt, if◌then◌else◌, IfSome}
use Rattle.vnode_model.specs.declared.listed.VolEntry.{VolEntry}
use Rattle.cell_core.specs.declared.stored.Taken.{Taken}
use Rattle.tape_choice.specs.declared.choosing.Chosen.{Chosen}
use Rattle.dump_job.specs.declared.fields.Hand.{Hand}
use Rattle.dump_job.specs.declared.fields.JobFields.{JobFields}
use Rattle.dump_job.specs.declared.fields.Phase.{Phase}
use Rattle.dump_job.specs.declared.fields.Phase.TheVariants as phase
use Rattle.dump_job.specs.Taping.{phase_begun, taped}
use Rattle.dump_job.specs.Cloning.{with_hand, volumes_done, first_hand, cloned}
use Rattle.dump_job.specs.Reels.{records_on}
use Rattle.dump_job.specs.Volumes.{begun_at as fragment_at, headed, next_used, without_piece, pieced, volume_ended, volume_cut}
use Rattle.dump_job.specs.Ending.{closed_part}
use Rattle.dump_job.specs.Passing.{with_filled, next_hand, part_passed}
use Rattle.dump_job.specs.Jobs.{IsAtPiece, IsAt, IsJob}
use Rattle.dump_job.specs.Left.{rank, bytes_left, volumes_left, parts_left, weighed, left_of}
use Rattle.dump_job.proofs.Jobs.{done_long, next_done}

-- ---- numbers

later_kind : (v b p k v2 b2 p2 k2 : ℕ) → v2 ≡ v → b2 ≡ b → p2 ≡ p → k2 < k → weighed v2 b2 p2 k2 < weighed v b p k
later_kind v b p k v2 b2 p2 k2 volumes bytes parts less = rw (volumes, bytes, parts) (omega (arith, less))

fewer_parts : (v b p k v2 b2 p2 k2 : ℕ) → v2 ≡ v → b2 ≡ b → p2 < p → k2 ≤ 7 → weighed v2 b2 p2 k2 < weighed v b p k
fewer_parts v b p k v2 b2 p2 k2 volumes bytes parts low = rw (volumes, bytes) (omega (arith, parts, low))

fewer_bytes : (v b p k v2 b2 p2 k2 : ℕ) → v2 ≡ v → b2 < b → p2 ≤ 65534 → k2 ≤ 7 → weighed v2 b2 p2 k2 < weighed v b p k
fewer_bytes v b p k v2 b2 p2 k2 volumes bytes parts low = rw volumes (omega (arith, bytes, parts, low))

fewer_volumes : (v b p k v2 b2 p2 k2 : ℕ) → v2 < v → b2 < 1073741824 → p2 ≤ 65534 → k2 ≤ 7 → weighed v2 b2 p2 k2 < weighed v b p k
fewer_volumes v b p k v2 b2 p2 k2 volumes bytes parts low = omega (arith, volumes, bytes, parts, low)

low_rank : (p : Phase) → rank p ≤ 7
low_rank phase.Tape = omega arith
low_rank phase.Clone = omega arith
low_rank phase.Head = omega arith
low_rank phase.Piece = omega arith
low_rank phase.VolumeEnd = omega arith
low_rank phase.PartEnd = omega arith
low_rank phase.DumpEnd = omega arith
low_rank phase.Over = omega arith

few_left : (n : ℕ) → 65534 - n ≤ 65534
few_left n = omega arith

-- ---- steps

begun_rank : (hand : Option Hand) → rank (phase_begun hand) < 5
begun_rank None = omega arith
begun_rank (Some h) = omega arith

pub taped_less : (uses : ℕ) (j : JobFields) → j.phase ≡ phase.Tape → left_of (taped uses j) < left_of j
taped_less uses j at =
    let first : rank j.phase ≡ 5 = ap rank at in
    later_kind (volumes_left j) (bytes_left j.hand) (parts_left j) (rank j.phase) (volumes_left j) (bytes_left j.hand) (parts_left j) (rank (phase_begun j.hand)) refl refl refl (omega (arith, first, begun_rank j.hand))

pub cloned_less : (e : VolEntry) (c : Taken) (j : JobFields) → length (volumes_done j) < length j.places → length (first_hand j e c).stream < 1073741824 → left_of (cloned e c j) < left_of j
cloned_less e c j left few =
    let more = done_long j.head.tape (first_hand j e c) (volumes_done j) in
    let k = cloned e c j in
    let less : volumes_left k < volumes_left j = omega (arith, more, left) in
    fewer_volumes (volumes_left j) (bytes_left j.hand) (parts_left j) (rank j.phase) (volumes_left k) (bytes_left k.hand) (parts_left k) (rank k.phase) less few (few_left (length k.filled)) (low_rank k.phase)

behind_rank : (over : Bool) → rank (if over then phase.VolumeEnd else phase.Piece) < 4
behind_rank true = omega arith
behind_rank false = omega arith

same_left : (h k : Hand) (j : JobFields) → j.hand ≡ Some h → length j.places - length (with_hand j.head.tape (Some k) j.volumes) ≡ volumes_left j
same_left h k j at =
    let before = ap (λ (o : Option Hand). length (with_hand j.head.tape o j.volumes)) at in
    ap (λ (n : ℕ). length j.places - n) (done_long j.head.tape k j.volumes ∙ sym (done_long j.head.tape h j.volumes) ∙ sym before)

pub headed_less : (h : Hand) (j : JobFields) → j.phase ≡ phase.Head → j.hand ≡ Some h → left_of (headed h j) < left_of j
headed_less h j at there =
    let k = headed h j in
    let first : rank j.phase ≡ 4 = ap rank at in
    let bytes : bytes_left k.hand ≡ bytes_left j.hand = sym (ap bytes_left there) in
    later_kind (volumes_left j) (bytes_left j.hand) (parts_left j) (rank j.phase) (volumes_left k) (bytes_left k.hand) (parts_left k) (rank k.phase)
    (same_left h (fragment_at (records_on j.reel) h) j there) bytes refl (omega (arith, first, behind_rank (length h.stream == 0)))

some_long : (s : List ℕ) → s ≢ [] → 1 ≤ length s
some_long [] some = absurd (some refl)
some_long (x ∷ xs) some = omega arith

piece_less : (h : Hand) → h.stream ≢ [] → length (without_piece h).stream < length h.stream
piece_less h some = omega (arith, length-drop (next_used h) h.stream, some_long h.stream some)

pub pieced_less : (h : Hand) (j : JobFields) → j.phase ≡ phase.Piece → j.hand ≡ Some h → IsJob j → left_of (pieced h j) < left_of j
pieced_less h j at there job =
    let k = pieced h j in
    let piece : IsAtPiece j = subst (λ (p : Phase). IsAt p j) at job.at in
    let some : h.stream ≢ [] = subst (λ (o : Option Hand). IfSome o (λ x. x.stream ≢ [])) there piece.left in
    let bytes : bytes_left k.hand < bytes_left j.hand = subst (λ (o : Option Hand). bytes_left k.hand < bytes_left o) (sym there) (piece_less h some) in
    fewer_bytes (volumes_left j) (bytes_left j.hand) (parts_left j) (rank j.phase) (volumes_left k) (bytes_left k.hand) (parts_left k) (rank k.phase)
    (same_left h (without_piece h) j there) bytes (few_left (length k.filled)) (low_rank k.phase)

pub cut_less : (j : JobFields) → j.phase ≡ phase.Piece → left_of (volume_cut j) < left_of j
cut_less j at =
    let first : rank j.phase ≡ 3 = ap rank at in
    later_kind (volumes_left j) (bytes_left j.hand) (parts_left j) (rank j.phase) (volumes_left j) (bytes_left j.hand) (parts_left j) 1 refl refl refl (omega (arith, first))

after_rank : (more : Bool) → rank (if more then phase.Clone else phase.DumpEnd) < 2
after_rank true = omega arith
after_rank false = omega arith

pub ended_less : (h : Hand) (j : JobFields) → j.phase ≡ phase.VolumeEnd → left_of (volume_ended h j) < left_of j
ended_less h j at =
    let first : rank j.phase ≡ 2 = ap rank at in
    later_kind (volumes_left j) (bytes_left j.hand) (parts_left j) (rank j.phase) (volumes_left j) (bytes_left j.hand) (parts_left j) (rank (volume_ended h j).phase) refl refl refl
    (omega (arith, first, after_rank (nat_lt (h.head.index + 1) (length j.places))))

next_bytes : (cut : Bool) (tape : ℕ) (hand : Option Hand) → bytes_left (next_hand cut tape hand) ≡ bytes_left hand
next_bytes cut tape None = refl
next_bytes true tape (Some h) = refl
next_bytes false tape (Some h) = refl

pub passed_less : (cut : Bool) (c : Chosen) (j : JobFields) → length j.filled + 1 ≤ 65534 → left_of (part_passed cut c j) < left_of j
passed_less cut c j few =
    let k = part_passed cut c j in
    let long : length (with_filled j) ≡ length j.filled + 1 = length-append j.filled (record { slot = j.reel.slot; part = closed_part j } ∷ []) in
    let parts : parts_left k < parts_left j = omega (arith, long, few) in
    fewer_parts (volumes_left j) (bytes_left j.hand) (parts_left j) (rank j.phase) (volumes_left k) (bytes_left k.hand) (parts_left k) (rank k.phase)
    (ap (λ (n : ℕ). length j.places - n) (next_done cut j.head.tape (j.head.tape + 1) j.hand j.volumes)) (next_bytes cut j.head.tape j.hand) parts (low_rank k.phase)
