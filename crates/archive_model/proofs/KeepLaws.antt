-- What lies on the slots of an archive stays through the calls of a dump; and a restore of what was written is its clone.
use Rattle.std.proofs.Common.{◌≡◌, ℕ, zero, suc, ◌<◌, ◌≤◌, Bool, true, Option, Some, None, Ok, List, [], ◌∷◌, ◌++◌, length, take, sym, subst, arith}
use Rattle.std.specs.Prelude.{slice_get}
use Rattle.std.proofs.lemmas.Bool.{and_parts, and_from}
use Rattle.vnode_model.specs.declared.volumes.VolumeFields.{VolumeFields}
use Rattle.vnode_model.specs.Increments.{selected}
use Rattle.dump_stream.specs.Stream.{Spells}
use Rattle.dump_stream.proofs.WrittenLaws.{written_spells}
use Rattle.budb_changes.specs.declared.records.TapePart.{TapePart}
use Rattle.budb_changes.specs.declared.records.DumpRecordFields.{DumpRecordFields}
use Rattle.tape_frames.specs.declared.frame.Frame.{Frame}
use Rattle.tape_text.specs.Items.{Item}
use Rattle.tape_text.specs.Wholes.{record_with}
use Rattle.tape_scan.specs.Slots.{Slot}
use Rattle.archive_model.specs.Holding.{place_of, is_label_frame, is_head_frame, is_so, holds_at, holds, called_for, Lies, HasNoHead}
use Rattle.archive_model.specs.Plays.{HasStream, PlaysOver}
use Rattle.archive_model.specs.Clones.{Cloned, HaveClones, last_of, WrittenAs, AreWritten}
use Rattle.archive_model.proofs.HoldLaws.{head_none, append_keeps, cut_keeps}
use Rattle.archive_model.proofs.GivenLaws.{written_given}
use Rattle.archive_model.proofs.ChainLaws.{chain_plays}

-- ---- appends

-- a head of this dump that is found on a longer tape without more of its heads stands on the tape
head_before : (id tape n : ℕ) (xs ys : List Item) → HasNoHead id ys → is_so (is_head_frame id tape) (slice_get (xs ++ ys) n) ≡ true → (n < length xs) × (is_so (is_head_frame id tape) (slice_get xs n) ≡ true)
head_before id tape n [] ys none so = absurd (head_none id tape n ys none so)
head_before id tape zero (x ∷ xs) ys none so = (omega arith, so)
head_before id tape (suc n) (x ∷ xs) ys none so = let rest = head_before id tape n xs ys none so in (omega (arith, rest.0), rest.1)

label_before : (initial tape n : ℕ) (xs ys : List Item) → n < length xs → is_so (is_label_frame initial tape) (slice_get (xs ++ ys) 0) ≡ true → is_so (is_label_frame initial tape) (slice_get xs 0) ≡ true
label_before initial tape n [] ys lt so = absurd (omega arith)
label_before initial tape n (x ∷ xs) ys lt so = so

pub held_before : (o : Option TapePart) (d : DumpRecordFields) (tape : ℕ) (xs ys : List Item) → HasNoHead d.id ys → holds_at o d tape (xs ++ ys) ≡ true → holds_at o d tape xs ≡ true
held_before None d tape xs ys none held = absurd (cc)
held_before (Some p) d tape xs ys none held =
    let both = and_parts (is_so (is_label_frame d.initial tape) (slice_get (xs ++ ys) 0)) (is_so (is_head_frame d.id tape) (slice_get (xs ++ ys) p.first)) held in
    let head = head_before d.id tape p.first xs ys none both.1 in
    and_from (is_so (is_label_frame d.initial tape) (slice_get xs 0)) (is_so (is_head_frame d.id tape) (slice_get xs p.first)) (label_before d.initial tape p.first xs ys head.0 both.0) head.1

-- records without a head of a dump that are put on a tape keep what lies there of it
pub put_keeps : (d : DumpRecordFields) (items more : List Item) → HasNoHead d.id more → Lies d items → Lies d (items ++ more)
put_keeps d items more none lies tape p place held = append_keeps d p items more (lies tape p place (held_before (place_of d tape) d tape items more none held))

-- ---- cuts

so_before : (test : Frame → Bool) (n m : ℕ) (xs : List Item) → is_so test (slice_get (take n xs) m) ≡ true → is_so test (slice_get xs m) ≡ true
so_before test zero m xs so = absurd (cc)
so_before test (suc n) m [] so = absurd (cc)
so_before test (suc n) zero (x ∷ xs) so = so
so_before test (suc n) (suc m) (x ∷ xs) so = so_before test n m xs so

pub held_uncut : (o : Option TapePart) (d : DumpRecordFields) (tape n : ℕ) (xs : List Item) → holds_at o d tape (take n xs) ≡ true → holds_at o d tape xs ≡ true
held_uncut None d tape n xs held = absurd (cc)
held_uncut (Some p) d tape n xs held =
    let both = and_parts (is_so (is_label_frame d.initial tape) (slice_get (take n xs) 0)) (is_so (is_head_frame d.id tape) (slice_get (take n xs) p.first)) held in
    and_from (is_so (is_label_frame d.initial tape) (slice_get xs 0)) (is_so (is_head_frame d.id tape) (slice_get xs p.first)) (so_before (is_label_frame d.initial tape) n 0 xs both.0) (so_before (is_head_frame d.id tape) n p.first xs both.1)

-- A cut keeps what lies on a tape of a dump, where none of its places ends behind the cut.
pub cut_lies : (d : DumpRecordFields) (items : List Item) (n : ℕ) → ((tape : ℕ) (p : TapePart) → place_of d tape ≡ Some p → holds d tape items ≡ true → p.end ≤ n) → Lies d items → Lies d (take n items)
cut_lies d items n short lies tape p place held =
    let before : holds d tape items ≡ true = held_uncut (place_of d tape) d tape n items held in
    cut_keeps d p items n (short tape p place before) (lies tape p place before)

-- ---- restores

given_as : (slots : List Slot) (name : List ℕ) (d : DumpRecordFields) (c : Cloned) → WrittenAs slots name d c → HasStream slots d (called_for d name) (selected c.volume c.from c.time)
given_as slots name d c w =
    let same : record_with w.first.part.head (w.first ∷ w.others) ≡ d = (let e = w.record_is in cc) in
    let spells : Spells w.dumping.stream (selected c.volume c.from c.time) = subst (λ (b : List ℕ). Spells b (selected c.volume c.from c.time)) (sym w.stream) (written_spells (selected c.volume c.from c.time) w.allowed) in
    subst (λ (x : DumpRecordFields). HasStream slots x (called_for x name) (selected c.volume c.from c.time)) same (written_given slots w.first w.others name w.dumping (selected c.volume c.from c.time) w.put spells)

have_clones : (slots : List Slot) (name : List ℕ) (base : Option VolumeFields) (ds : List DumpRecordFields) (cs : List Cloned) → AreWritten slots name base ds cs → HaveClones slots name base ds cs
have_clones slots name base [] [] all = tt
have_clones slots name base [] (c ∷ cs) all = absurd all
have_clones slots name base (d ∷ ds) [] all = absurd all
have_clones slots name base (d ∷ ds) (c ∷ cs) all = (given_as slots name d c all.0, all.0.volume, all.1, have_clones slots name (Some c.volume) ds cs all.2)

-- what was written of a chain of clones plays to the last one
pub written_plays : (slots : List Slot) (name : List ℕ) (ds : List DumpRecordFields) (cs : List Cloned) (v : VolumeFields) → AreWritten slots name None ds cs → last_of None cs ≡ Some v → PlaysOver slots name None ds (Ok v)
written_plays slots name ds cs v all last = chain_plays slots name None ds cs v tt (have_clones slots name None ds cs all) last
