-- What is so of a dump between two steps is so again behind each step.
use Rattle.std.proofs.Common.{◌≡◌, ◌≢◌, ℕ, ◌+◌, ◌*◌, ◌<◌, ◌≤◌, Bool, true, false, List, [], ◌∷◌, ◌++◌, Option, Some, None, length, map, refl, sym, ◌∙◌, ap, subst, arith, length-append, length-drop}
use Rattle.std.specs.Prelude.{◌==◌, nat_lt, if◌then◌else◌, All, IsSome, IfSome}
use Rattle.std.proofs.lemmas.Bool.{ltb-true}
use Rattle.std.proofs.lemmas.List.Elements.{All-nil, All-cons, All-head, All-tail}
use Rattle.std.proofs.Math.Nat.{mul-le-mul_right}
use Rattle.bk_text.specs.Alphabets.{IsTapeName}
use Rattle.byte_formats.specs.Forms.{IsMaybe}
use Rattle.vnode_model.specs.declared.listed.VolEntry.{VolEntry}
use Rattle.cell_core.specs.declared.stored.Taken.{Taken}
use Rattle.tape_frames.specs.declared.label.LabelFields.{LabelFields}
use Rattle.tape_writer.specs.Room.{Counts, HasRoom}
use Rattle.tape_choice.specs.declared.choosing.Chosen.{Chosen}
use Rattle.budb_changes.specs.declared.records.VolRecordFields.{VolRecordFields}
use Rattle.budb_changes.specs.Dumps.{IsNamed}
use Rattle.dump_job.specs.declared.fields.Filled.{Filled}
use Rattle.dump_job.specs.declared.fields.Hand.{Hand}
use Rattle.dump_job.specs.declared.fields.JobFields.{JobFields}
use Rattle.dump_job.specs.declared.fields.Phase.{Phase}
use Rattle.dump_job.specs.declared.fields.Phase.TheVariants as phase
use Rattle.dump_job.specs.declared.fields.Reel.{Reel}
use Rattle.dump_job.specs.Reels.{records_on, with_more, counts_on}
use Rattle.dump_job.specs.Taping.{reel_begun, phase_begun, taped}
use Rattle.dump_job.specs.Cloning.{record_with, with_hand, volumes_done, first_hand, cloned}
use Rattle.dump_job.specs.Volumes.{begun_at as fragment_at, headed, next_used, without_piece, pieced, volume_ended, volume_cut}
use Rattle.dump_job.specs.Ending.{place_of_part, closed_part}
use Rattle.dump_job.specs.Passing.{with_filled, frags_with, next_hand, part_passed, part_refused}
use Rattle.dump_job.specs.Jobs.{IsHandOrFirst, IsAtTape, IsAtClone, IsAtPiece, IsAt, IsInHand, IsJob}

-- ---- room

within_less : (b blocks m marks f : ℕ) → b ≤ blocks → m ≤ marks → b * 16384 + m * f ≤ blocks * 16384 + marks * f
within_less b blocks m marks f few few_marks = omega (arith, mul-le-mul_right f few_marks)

-- room for more is room for less
pub room_less : (blocks marks b m : ℕ) (c : Counts) → b ≤ blocks → m ≤ marks → HasRoom blocks marks c → HasRoom b m c
room_less blocks marks b m c few few_marks room =
    omega (arith, room, within_less (c.blocks + b) (c.blocks + blocks) (c.marks + m) (c.marks + marks) c.port.filemark (omega arith) (omega arith))

-- ---- volumes

-- as many volumes are done whatever tape the one in hand stands on
pub done_long : (tape : ℕ) (h : Hand) (volumes : List VolRecordFields) → length (with_hand tape (Some h) volumes) ≡ length volumes + 1
done_long tape h volumes = length-append volumes (record_with tape h ∷ [])

-- what is so of the volume in hand is so while parts and volumes stay
hand_same : (hand : Option Hand) (j k : JobFields) → k.filled ≡ j.filled → k.volumes ≡ j.volumes → IfSome hand (IsInHand j) → IfSome hand (IsInHand k)
hand_same None j k filled volumes there = tt
hand_same (Some h) j k filled volumes there = record {
  frags = subst (λ (fs : List Filled). length h.frags ≤ length fs) (sym filled) there.frags;
  fragment = there.fragment;
  index = there.index ∙ sym (ap length volumes);
  stream = there.stream;
}

-- ---- tape

begun_marks : (label : Option LabelFields) (reel : Reel) → reel.marks ≤ reel.blocks → (reel_begun label reel).marks ≤ (reel_begun label reel).blocks
begun_marks None reel few = omega (arith, few)
begun_marks (Some label) reel few = omega (arith, few)

begun_at : (hand : Option Hand) (uses : ℕ) (j : JobFields) → j.hand ≡ hand → HasRoom 1 1 (counts_on j.port (reel_begun j.label j.reel)) → IsHandOrFirst hand j → IsAt (phase_begun hand) (taped uses j)
begun_at None uses j is room left = record { room = room; left = left }
begun_at (Some h) uses j is room left = record { room = room; hand = subst (λ (o : Option Hand). IsSome o) (sym is) refl }

pub taped_is_job : (uses : ℕ) (j : JobFields) → j.phase ≡ phase.Tape → IsJob j → HasRoom 4 2 (counts_on (taped uses j).port (taped uses j).reel) → IsJob (taped uses j)
taped_is_job uses j at job room =
    let tape : IsAtTape j = subst (λ (p : Phase). IsAt p j) at job.at in
    record {
      fresh = job.fresh;
      marks = begun_marks j.label j.reel job.marks;
      part = job.part;
      few_parts = job.few_parts;
      named = job.named;
      hand = hand_same j.hand j (taped uses j) refl refl job.hand;
      volumes = job.volumes;
      few_volumes = job.few_volumes;
      at = begun_at j.hand uses j refl (room_less 4 2 1 1 (counts_on j.port (reel_begun j.label j.reel)) (omega arith) (omega arith) room) tape.hand;
    }

-- ---- clone

pub cloned_is_job : (e : VolEntry) (c : Taken) (j : JobFields) → j.phase ≡ phase.Clone → IsJob j → length (first_hand j e c).stream < 1073741824 → IsJob (cloned e c j)
cloned_is_job e c j at job few =
    let clone : IsAtClone j = subst (λ (p : Phase). IsAt p j) at job.at in
    let long = done_long j.head.tape (first_hand j e c) (volumes_done j) in
    record {
      fresh = job.fresh;
      marks = job.marks;
      part = job.part;
      few_parts = job.few_parts;
      named = job.named;
      hand = record { frags = omega arith; fragment = refl; index = refl; stream = few };
      volumes = omega (arith, long, clone.left);
      few_volumes = job.few_volumes;
      at = record { room = clone.room; hand = refl };
    }

-- ---- head and piece

some_left : (s : List ℕ) → (length s == 0) ≡ false → s ≢ []
some_left [] never is = cc
some_left (x ∷ xs) never is = cc

stream_at : (over : Bool) (h : Hand) (j : JobFields) → (length h.stream == 0) ≡ over → j.hand ≡ Some h → HasRoom 2 2 (counts_on j.port j.reel) → h.bytes ≤ 16352 * j.reel.blocks
    → IsAt (if over then phase.VolumeEnd else phase.Piece) j
stream_at true h j is at room few = record { room = room; hand = subst (λ (o : Option Hand). IsSome o) (sym at) refl }
stream_at false h j is at room few = record {
  room = room;
  hand = subst (λ (o : Option Hand). IsSome o) (sym at) refl;
  left = subst (λ (o : Option Hand). IfSome o (λ x. x.stream ≢ [])) (sym at) (some_left h.stream is);
  bytes = subst (λ (o : Option Hand). IfSome o (λ x. x.bytes ≤ 16352 * j.reel.blocks)) (sym at) few;
}

in_hand : (h : Hand) (j : JobFields) → j.hand ≡ Some h → IsJob j → IsInHand j h
in_hand h j at job = subst (λ (o : Option Hand). IfSome o (IsInHand j)) at job.hand

-- as many are done with another state of the same volume in hand
done_with : (h k : Hand) (j : JobFields) → j.hand ≡ Some h → IsJob j → length (with_hand j.head.tape (Some k) j.volumes) ≤ length j.places
done_with h k j at job =
    let before : length (with_hand j.head.tape (Some h) j.volumes) ≤ length j.places = subst (λ (o : Option Hand). length (with_hand j.head.tape o j.volumes) ≤ length j.places) at job.volumes in
    omega (arith, before, done_long j.head.tape h j.volumes, done_long j.head.tape k j.volumes)

pub headed_is_job : (h : Hand) (j : JobFields) → j.hand ≡ Some h → IsJob j → HasRoom 3 2 (counts_on (headed h j).port (headed h j).reel) → IsJob (headed h j)
headed_is_job h j at job room =
    let there = in_hand h j at job in
    record {
      fresh = job.fresh;
      marks = omega (arith, job.marks);
      part = job.part;
      few_parts = job.few_parts;
      named = job.named;
      hand = record { frags = there.frags; fragment = there.fragment; index = there.index; stream = there.stream };
      volumes = done_with h (fragment_at (records_on j.reel) h) j at job;
      few_volumes = job.few_volumes;
      at = stream_at (length h.stream == 0) (fragment_at (records_on j.reel) h) (headed h j) refl refl (room_less 3 2 2 2 (counts_on j.port (with_more 1 0 j.reel)) (omega arith) (omega arith) room) (omega arith);
    }

used_few : (h : Hand) (blocks : ℕ) → h.bytes ≤ 16352 * blocks → (without_piece h).bytes ≤ 16352 * (blocks + 1)
used_few h blocks few = omega (arith, few)

pub pieced_is_job : (h : Hand) (j : JobFields) → j.phase ≡ phase.Piece → j.hand ≡ Some h → IsJob j → HasRoom 2 2 (counts_on (pieced h j).port (pieced h j).reel) → IsJob (pieced h j)
pieced_is_job h j phased at job room =
    let there = in_hand h j at job in
    let piece : IsAtPiece j = subst (λ (p : Phase). IsAt p j) phased job.at in
    let few : h.bytes ≤ 16352 * j.reel.blocks = subst (λ (o : Option Hand). IfSome o (λ x. x.bytes ≤ 16352 * j.reel.blocks)) at piece.bytes in
    record {
      fresh = job.fresh;
      marks = omega (arith, job.marks);
      part = job.part;
      few_parts = job.few_parts;
      named = job.named;
      hand = record { frags = there.frags; fragment = there.fragment; index = there.index; stream = omega (arith, there.stream, length-drop (next_used h) h.stream) };
      volumes = done_with h (without_piece h) j at job;
      few_volumes = job.few_volumes;
      at = stream_at (length (without_piece h).stream == 0) (without_piece h) (pieced h j) refl refl room (used_few h j.reel.blocks few);
    }

-- ---- the end of a fragment

pub cut_is_job : (h : Hand) (j : JobFields) → j.hand ≡ Some h → IsJob j → HasRoom 1 1 (counts_on (volume_cut j).port (volume_cut j).reel) → IsJob (volume_cut j)
cut_is_job h j at job room = record {
  fresh = job.fresh;
  marks = omega (arith, job.marks);
  part = job.part;
  few_parts = job.few_parts;
  named = job.named;
  hand = hand_same j.hand j (volume_cut j) refl refl job.hand;
  volumes = job.volumes;
  few_volumes = job.few_volumes;
  at = record { room = room; hand = subst (λ (o : Option Hand). IsSome o) (sym at) refl };
}

next_at : (more : Bool) (h : Hand) (j k : JobFields) → nat_lt (h.head.index + 1) (length j.places) ≡ more → h.head.index ≡ length j.volumes
    → length (volumes_done k) ≡ length j.volumes + 1 → k.places ≡ j.places → HasRoom 1 1 (counts_on k.port k.reel) → IsAt (if more then phase.Clone else phase.DumpEnd) k
next_at true h j k is index done same room =
    let left : h.head.index + 1 < length j.places = ltb-true (h.head.index + 1) (length j.places) is in
    record { room = room; left = omega (arith, left, index, done, ap length same) }
next_at false h j k is index done same room = room

pub ended_is_job : (h : Hand) (j : JobFields) → j.hand ≡ Some h → IsJob j → HasRoom 1 1 (counts_on (volume_ended h j).port (volume_ended h j).reel) → IsJob (volume_ended h j)
ended_is_job h j at job room =
    let there = in_hand h j at job in
    let done : length (volumes_done j) ≡ length j.volumes + 1 = ap (λ (o : Option Hand). length (with_hand j.head.tape o j.volumes)) at ∙ done_long j.head.tape h j.volumes in
    record {
      fresh = job.fresh;
      marks = omega (arith, job.marks);
      part = job.part;
      few_parts = job.few_parts;
      named = job.named;
      hand = hand_same j.hand j (volume_ended h j) refl refl job.hand;
      volumes = job.volumes;
      few_volumes = job.few_volumes;
      at = next_at (nat_lt (h.head.index + 1) (length j.places)) h j (volume_ended h j) refl there.index done refl room;
    }

-- ---- the end of a part and of the dump

pub refused_is_job : (j : JobFields) → IsJob j → IsJob (part_refused j)
refused_is_job j job = record {
  fresh = job.fresh;
  marks = omega (arith, job.marks);
  part = job.part;
  few_parts = job.few_parts;
  named = job.named;
  hand = hand_same j.hand j (part_refused j) refl refl job.hand;
  volumes = job.volumes;
  few_volumes = job.few_volumes;
  at = tt;
}

-- the volume in hand on the next tape
next_in_hand : (cut : Bool) (tape : ℕ) (hand : Option Hand) (j k : JobFields) → IfSome hand (IsInHand j) → length k.filled ≡ length j.filled + 1 → k.volumes ≡ j.volumes
    → IfSome (next_hand cut tape hand) (IsInHand k)
next_in_hand cut tape None j k there long same = tt
next_in_hand true tape (Some h) j k there long same =
    let more = length-append h.frags (record { tape = tape; at = h.at } ∷ []) in
    record { frags = omega (arith, more, there.frags, long); fragment = omega (arith, more, there.fragment); index = there.index ∙ sym (ap length same); stream = there.stream }
next_in_hand false tape (Some h) j k there long same = record { frags = omega (arith, there.frags, long); fragment = there.fragment; index = there.index ∙ sym (ap length same); stream = there.stream }

pub next_done : (cut : Bool) (tape next : ℕ) (hand : Option Hand) (volumes : List VolRecordFields) → length (with_hand next (next_hand cut tape hand) volumes) ≡ length (with_hand tape hand volumes)
next_done cut tape next None volumes = refl
next_done true tape next (Some h) volumes = done_long next (record h { head = record h.head { fragment = h.head.fragment + 1 }; frags = frags_with tape h }) volumes ∙ sym (done_long tape h volumes)
next_done false tape next (Some h) volumes = done_long next h volumes ∙ sym (done_long tape h volumes)

next_some : (cut : Bool) (tape : ℕ) (hand : Option Hand) → IsSome hand → IsSome (next_hand cut tape hand)
next_some cut tape None some = some
next_some true tape (Some h) some = refl
next_some false tape (Some h) some = refl

hand_or_first : (hand : Option Hand) (j : JobFields) → IsSome hand → IsHandOrFirst hand j
hand_or_first None j some = absurd (cc)
hand_or_first (Some h) j some = tt

named_with : (filled : List Filled) (f : Filled) → All IsNamed (map place_of_part filled) → IsNamed f.part → All IsNamed (map place_of_part (filled ++ f ∷ []))
named_with [] f there one = All-cons IsNamed f.part [] one (All-nil IsNamed)
named_with (x ∷ xs) f there one = All-cons IsNamed x.part (map place_of_part (xs ++ f ∷ [])) (All-head IsNamed x.part (map place_of_part xs) there) (named_with xs f (All-tail IsNamed x.part (map place_of_part xs) there) one)

pub passed_is_job : (cut : Bool) (c : Chosen) (j : JobFields) → IsJob j → IsSome j.hand → length j.filled + 1 ≤ 65534 → IsMaybe IsTapeName j.head.permanent → IsJob (part_passed cut c j)
passed_is_job cut c j job some few form =
    let long : length (with_filled j) ≡ length j.filled + 1 = length-append j.filled (record { slot = j.reel.slot; part = closed_part j } ∷ []) in
    record {
      fresh = job.fresh;
      marks = omega arith;
      part = omega (arith, job.part, long);
      few_parts = omega (arith, few, long);
      named = named_with j.filled (record { slot = j.reel.slot; part = closed_part j }) job.named form;
      hand = next_in_hand cut j.head.tape j.hand j (part_passed cut c j) job.hand long refl;
      volumes = omega (arith, job.volumes, next_done cut j.head.tape (j.head.tape + 1) j.hand j.volumes);
      few_volumes = job.few_volumes;
      at = record {
        few = omega arith;
        room = job.fresh;
        spare = refl;
        uses = omega arith;
        hand = hand_or_first (next_hand cut j.head.tape j.hand) (part_passed cut c j) (next_some cut j.head.tape j.hand some);
      };
    }
