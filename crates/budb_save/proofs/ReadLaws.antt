-- The reading of a save tape as a function says what is so.
use Rattle.std.proofs.Common.{◌≡◌, ◌⊎◌, inl, inr, zero, suc, ℕ, ◌+◌, ◌-◌, ◌/◌, ◌^◌, ◌<◌, ◌≤◌, Bool, true, false, List, [], ◌∷◌, ◌++◌, length, take, drop, get_or, replicate, refl, sym, ◌∙◌, ap, subst, arith, append_assoc, length-append, length-drop}
use Rattle.std.specs.Prelude.{min, nat_lt, ◌==◌, ◌&&◌, ◌||◌, if◌then◌else◌, Option, Some, None, Result, Ok, Err, slice_get}
use Rattle.std.specs.Int.{w64, to_be_bytes, from_be_bytes}
use Rattle.std.proofs.lemmas.Bool.{cases_Bool, and_parts, and_from, eqb-true, ltb-true, ltb-false}
use Rattle.std.proofs.lemmas.Cmp.{nat_list_eq_equiv}
use Rattle.std.proofs.lemmas.List.{append-nil, length-replicate, length-take, length-take-le}
use Rattle.std.proofs.Math.Seq.{take-append_seam}
use Rattle.bk_text.specs.Alphabets.{IsTapeName}
use Rattle.bk_text.specs.Tests.{tape_name_test}
use Rattle.bk_text.specs.Blanks.{is_same_text}
use Rattle.bk_text.specs.declared.words.Alphabet.TheVariants.{AnyFirst}
use Rattle.bk_text.proofs.TestLaws.{word_of_test, test_of_word}
use Rattle.bk_text.specs.Places.{FailsAt}
use Rattle.byte_formats.specs.Bytes.{four, text1}
use Rattle.byte_formats.specs.Forms.{IsMaybe}
use Rattle.plant_core.specs.Records.{Record, block_with, mark, bad}
use Rattle.tape_frames.specs.declared.frame.Frame.TheVariants.{Label}
use Rattle.tape_frames.specs.Frames.{spelling}
use Rattle.archive_model.proofs.SourceLaws.{same_text}
use Rattle.budb_changes.specs.declared.change.Change.{Change}
use Rattle.budb_changes.specs.Bytes.{encoded}
use Rattle.budb_changes.specs.Forms.{IsLog}
use Rattle.log_readings.specs.Readings.{reading_of}
use Rattle.log_readings.proofs.Whole.{read_whole, read_fails}
use Rattle.budb_save.specs.declared.judging.Stage.{Stage}
use Rattle.budb_save.specs.declared.judging.Stage.TheVariants as stages
use Rattle.budb_save.specs.Blocks.{eight, head_block, data_block}
use Rattle.budb_save.specs.Saves.{Save, save_label, room, label_record, save_records, BeginsSave, HasSave, IsWrongAt, IsWanting}
use Rattle.budb_save.specs.Reading.{HasPieces, HasReadTo}
use Rattle.budb_save.specs.Loading.{SavesChanges, IsPlaceOf, IsBadSave}
use Rattle.budb_save.specs.ReadBack.{permanent_at, is_label_with, is_save_label, count_at, piece_at, head_with, piece_with, with_block, with_mark, with_record, ended, saved_from, block_of_byte, changes_or, changes_from, read_back}
use Rattle.budb_save.proofs.BlockLaws.{start, count_in, count_back, piece_of_block}
use Rattle.budb_save.proofs.SaveLaws.{head_taken, piece_taken, close_taken, head_refused, piece_refused, block_refused, mark_refused, bad_refused, read_is, read_wanting, read_wrong}
use Rattle.budb_save.proofs.PlaceLaws.{one_bad, one_list, not_bad}

-- ---- the label

-- the zeros behind a save's label
zeros_of : List ℕ → ℕ
zeros_of permanent = 16384 - length (replicate 32 0 ++ permanent)

behind_label : (permanent : List ℕ) → drop 32 (spelling (Label (save_label permanent))) ≡ permanent ++ replicate (zeros_of permanent) 0
unfolding four text1 zeros_of
behind_label permanent = refl

length_at : (permanent : List ℕ) → get_or (spelling (Label (save_label permanent))) 31 0 ≡ length permanent
unfolding four text1
length_at permanent = refl

permanent_is : (permanent : List ℕ) → permanent_at (spelling (Label (save_label permanent))) ≡ permanent
permanent_is permanent =
    ap (λ (n : ℕ). take n (drop 32 (spelling (Label (save_label permanent))))) (length_at permanent)
    ∙ ap (take (length permanent)) (behind_label permanent) ∙ take-append_seam permanent (replicate (zeros_of permanent) 0)

same_self : (text : List ℕ) → is_same_text text text ≡ true
same_self text = nat_list_eq_equiv.refl text

or_true : (b : Bool) → (b || true) ≡ true
or_true true = refl
or_true false = refl

name_true : (text : List ℕ) → IsMaybe IsTapeName text → (tape_name_test text || (length text == 0)) ≡ true
name_true text (inl is) = ap (λ (b : Bool). b || (length text == 0)) (test_of_word AnyFirst 80 text is)
name_true text (inr none) = ap (λ (t : List ℕ). tape_name_test t || (length t == 0)) none ∙ or_true (tape_name_test [])

none_long : (text : List ℕ) → (length text == 0) ≡ true → text ≡ []
none_long [] is = refl
none_long (b ∷ text) is = let none : length (b ∷ text) ≡ 0 = eqb-true (length (b ∷ text)) 0 is in absurd (omega (arith, none))

name_is : (text : List ℕ) → (tape_name_test text || (length text == 0)) ≡ true → IsMaybe IsTapeName text
name_is text is = elim (cases_Bool (tape_name_test text)) [
  | inl named ↦ inl (word_of_test AnyFirst 80 text named)
  | inr other ↦ inr (none_long text (sym (ap (λ (b : Bool). b || (length text == 0)) other) ∙ is))
]

-- the label of a save passes the test
pub label_passes : (permanent : List ℕ) → IsMaybe IsTapeName permanent → is_save_label (label_record permanent) ≡ true
label_passes permanent form =
    let block = spelling (Label (save_label permanent)) in
    ap (is_label_with block) (permanent_is permanent)
    ∙ and_from (tape_name_test permanent || (length permanent == 0)) (is_same_text block block) (name_true permanent form) (same_self block)

-- and no other record does
record LabelOf (r : Record) : Type 0 where
  permanent : List ℕ
  form : IsMaybe IsTapeName permanent
  is : r ≡ label_record permanent

label_is : (r : Record) → is_save_label r ≡ true → LabelOf r
label_is (block_with block) passes =
    let permanent = permanent_at block in
    let parts = and_parts (tape_name_test permanent || (length permanent == 0)) (is_same_text block (spelling (Label (save_label permanent)))) passes in
    record {
      permanent = permanent;
      form = name_is permanent parts.0;
      is = ap (λ (b : List ℕ). block_with b) (same_text block (spelling (Label (save_label permanent))) parts.1);
    }
label_is mark passes = absurd (cc)
label_is bad passes = absurd (cc)

-- a tape whose first record is no label of a save is bad there
same_first : (a b : Record) (more rest : List Record) → a ∷ more ≡ b ∷ rest → a ≡ b
same_first a b more rest same = cc

no_label : (r : Record) → is_save_label r ≡ false → BeginsSave (r ∷ []) → ⊥
no_label r other b =
    let first : label_record b.save.permanent ≡ r = same_first (label_record b.save.permanent) r _ b.more b.joined in
    let both : true ≡ false = sym (label_passes b.save.permanent b.is.permanent) ∙ ap is_save_label first ∙ other in
    absurd (cc)

-- ---- a head

small_count : (n : ℕ) → from_be_bytes w64 (to_be_bytes w64 n) < 2 ^ 64
small_count n = omega arith

small_eight : (n : ℕ) → from_be_bytes w64 (eight n) < 2 ^ 64
unfolding eight
small_eight n = small_count n

small_as : (n m : ℕ) → n ≡ m → m < 2 ^ 64 → n ≤ 18446744073709551615
small_as n m same small = omega (arith, same, small)

-- the count of a head has eight bytes
count_small : (block : List ℕ) → block ≡ head_block (count_at block) → count_at block ≤ 18446744073709551615
count_small block is = small_as (count_at block) (from_be_bytes w64 (eight (count_at block))) (ap count_at is ∙ ap (from_be_bytes w64) (count_in (count_at block))) (small_eight (count_at block))

-- a record was taken, or no save goes on with it
abbrev Takes : List ℕ → List Record → List ℕ → Record → Option (Stage × List ℕ) → Type 0
Takes permanent front bytes r None = BeginsSave (front ++ r ∷ []) → ⊥
Takes permanent front bytes r (Some next) = HasReadTo permanent (front ++ r ∷ []) next.0 (bytes ++ next.1)

head_takes : (permanent : List ℕ) (front : List Record) (bytes block : List ℕ) → front ≡ label_record permanent ∷ mark ∷ [] → bytes ≡ [] → Takes permanent front bytes (block_with block) (head_with block (count_at block))
head_takes permanent front bytes block are none = go (is_same_text block (head_block (count_at block))) refl
  where
    other : is_same_text block (head_block (count_at block)) ≡ false → (n : ℕ) → n < 2 ^ 64 → block ≡ head_block n → ⊥
    other not n few at =
        let count : count_at block ≡ n = ap count_at at ∙ count_back n few in
        let yes : is_same_text block (head_block (count_at block)) ≡ true = ap (λ (m : ℕ). is_same_text block (head_block m)) count ∙ ap (λ (b : List ℕ). is_same_text b (head_block n)) at ∙ same_self (head_block n) in
        let both : true ≡ false = sym yes ∙ not in
        absurd (cc)

    go : (b : Bool) → is_same_text block (head_block (count_at block)) ≡ b → Takes permanent front bytes (block_with block) (if b then Some (stages.Pieces (count_at block), []) else None)
    go true same =
        let is : block ≡ head_block (count_at block) = same_text block (head_block (count_at block)) same in
        subst (λ (b : List ℕ). HasPieces permanent (front ++ block_with block ∷ []) b (count_at block)) (sym (append-nil bytes)) (head_taken permanent front bytes block (count_at block) are none is (count_small block is))
    go false not = head_refused permanent front block are (other not)

-- ---- a piece

padded_long : (n : ℕ) (bytes : List ℕ) → length bytes ≤ n → length (bytes ++ replicate (n - length bytes) 0) ≡ n
padded_long n bytes few = omega (arith, length-append bytes (replicate (n - length bytes) 0), length-replicate {A = ℕ} (n - length bytes) 0)

four_long : (n : ℕ) → length (four n) ≡ 4
unfolding four
four_long n = refl

fields_long : (p : List ℕ) → length (start 2 ++ (four (length p) ++ (replicate 20 0 ++ p))) ≡ 32 + length p
fields_long p = omega (arith, length-append (four (length p)) (replicate 20 0 ++ p), four_long (length p))

block_long : (p : List ℕ) → length p ≤ 16352 → length (data_block p) ≡ 16384
block_long p few = padded_long 16384 (start 2 ++ (four (length p) ++ (replicate 20 0 ++ p))) (omega (arith, fields_long p, few))

-- a piece is as long as is told
piece_long : (block : List ℕ) (left : ℕ) → block ≡ data_block (piece_at left block) → length (piece_at left block) ≡ min left 16352
piece_long block left is =
    let few : length (piece_at left block) ≤ 16352 = omega (arith, length-take (min left 16352) (drop 32 block)) in
    let long : length block ≡ 16384 = ap length is ∙ block_long (piece_at left block) few in
    length-take-le (min left 16352) (drop 32 block) (omega (arith, long, length-drop 32 block))

piece_takes : (permanent : List ℕ) (front : List Record) (bytes : List ℕ) (left : ℕ) (block : List ℕ) → HasPieces permanent front bytes left → 0 < left → Takes permanent front bytes (block_with block) (piece_with block left (piece_at left block))
piece_takes permanent front bytes left block has some = go (is_same_text block (data_block (piece_at left block))) refl
  where
    other : is_same_text block (data_block (piece_at left block)) ≡ false → (piece : List ℕ) → length piece ≡ min left 16352 → block ≡ data_block piece → ⊥
    other not piece long at =
        let found : piece_at left block ≡ piece = piece_of_block block piece (min left 16352) long at in
        let yes : is_same_text block (data_block (piece_at left block)) ≡ true = ap (λ (p : List ℕ). is_same_text block (data_block p)) found ∙ ap (λ (b : List ℕ). is_same_text b (data_block piece)) at ∙ same_self (data_block piece) in
        let both : true ≡ false = sym yes ∙ not in
        absurd (cc)

    go : (b : Bool) → is_same_text block (data_block (piece_at left block)) ≡ b
        → Takes permanent front bytes (block_with block) (if b then Some (stages.Pieces (left - length (piece_at left block)), piece_at left block) else None)
    go true same =
        let is : block ≡ data_block (piece_at left block) = same_text block (data_block (piece_at left block)) same in
        piece_taken permanent front bytes left block (piece_at left block) has some (piece_long block left is) is
    go false not = piece_refused permanent front bytes left (min left 16352) block has some refl (other not)

-- ---- any record

block_takes : (permanent : List ℕ) (front : List Record) (stage : Stage) (bytes block : List ℕ) → HasReadTo permanent front stage bytes → Takes permanent front bytes (block_with block) (with_block stage block)
block_takes permanent front stages.Labelled bytes block has = block_refused permanent front stages.Labelled bytes block has tt
block_takes permanent front stages.Marked bytes block has = head_takes permanent front bytes block has.0 has.1
block_takes permanent front (stages.Pieces zero) bytes block has = block_refused permanent front (stages.Pieces 0) bytes block has refl
block_takes permanent front (stages.Pieces (suc n)) bytes block has = piece_takes permanent front bytes (suc n) block has (omega arith)
block_takes permanent front stages.Closed bytes block has = block_refused permanent front stages.Closed bytes block has tt

mark_takes : (permanent : List ℕ) (front : List Record) (stage : Stage) (bytes : List ℕ) → HasReadTo permanent front stage bytes → Takes permanent front bytes mark (with_mark stage)
mark_takes permanent front stages.Labelled bytes has = (ap (λ (l : List Record). l ++ mark ∷ []) has.0, append-nil bytes ∙ has.1)
mark_takes permanent front stages.Marked bytes has = mark_refused permanent front stages.Marked bytes has tt
mark_takes permanent front (stages.Pieces zero) bytes has =
    subst (λ (b : List ℕ). HasReadTo permanent (front ++ mark ∷ []) stages.Closed b) (sym (append-nil bytes)) (close_taken permanent front bytes 0 has refl)
mark_takes permanent front (stages.Pieces (suc n)) bytes has = mark_refused permanent front (stages.Pieces (suc n)) bytes has (omega arith)
mark_takes permanent front stages.Closed bytes has = mark_refused permanent front stages.Closed bytes has tt

record_takes : (permanent : List ℕ) (front : List Record) (stage : Stage) (bytes : List ℕ) (r : Record) → HasReadTo permanent front stage bytes → Takes permanent front bytes r (with_record stage r)
record_takes permanent front stage bytes (block_with block) has = block_takes permanent front stage bytes block has
record_takes permanent front stage bytes mark has = mark_takes permanent front stage bytes has
record_takes permanent front stage bytes bad has = bad_refused permanent front stage bytes has

-- ---- one behind the other

-- what is told of a tape's bytes
abbrev Tells : List Record → Result (List ℕ) ℕ → Type 0
Tells tape (Ok bytes) = HasSave tape bytes
Tells tape (Err place) = IsWrongAt tape place ⊎ (IsWanting tape × (place + 1 ≡ length tape))

last_place : (n m : ℕ) → n ≡ m → 0 < n → n - 1 + 1 ≡ m
last_place n m same some = omega (arith, same, some)

ends : (permanent : List ℕ) (tape : List Record) (stage : Stage) (bytes : List ℕ) (count : ℕ) → IsMaybe IsTapeName permanent → HasReadTo permanent tape stage bytes → count ≡ length tape → 0 < count → Tells tape (ended count stage bytes)
ends permanent tape stages.Labelled bytes count form has long some = inr (read_wanting permanent tape stages.Labelled bytes form has (λ is. absurd (cc)), last_place count (length tape) long some)
ends permanent tape stages.Marked bytes count form has long some = inr (read_wanting permanent tape stages.Marked bytes form has (λ is. absurd (cc)), last_place count (length tape) long some)
ends permanent tape (stages.Pieces left) bytes count form has long some = inr (read_wanting permanent tape (stages.Pieces left) bytes form has (λ is. absurd (cc)), last_place count (length tape) long some)
ends permanent tape stages.Closed bytes count form has long some = read_is permanent tape bytes form has

-- a record that was taken, and one with which no save goes on
steps : (permanent : List ℕ) (r : Record) (rs front : List Record) (stage : Stage) (bytes : List ℕ) (count : ℕ) → IsMaybe IsTapeName permanent → HasReadTo permanent front stage bytes → count ≡ length front
    → ((next : Stage) (more : List ℕ) → HasReadTo permanent (front ++ r ∷ []) next more → Tells (front ++ r ∷ rs) (saved_from (count + 1) next more rs))
    → (o : Option (Stage × List ℕ)) → Takes permanent front bytes r o → Tells (front ++ r ∷ rs) (elim o [ None ↦ Err count | Some next ↦ saved_from (count + 1) next.0 (bytes ++ next.1) rs ])
steps permanent r rs front stage bytes count form has long goes None refused =
    let tape = front ++ r ∷ rs in
    let taken : take count tape ≡ front = ap (λ (n : ℕ). take n tape) long ∙ take-append_seam front (r ∷ rs) in
    let more : take (count + 1) tape ≡ front ++ r ∷ [] =
    ap (λ (l : List Record). take (count + 1) l) (sym (append_assoc front (r ∷ []) rs))
    ∙ ap (λ (n : ℕ). take n ((front ++ r ∷ []) ++ rs)) (omega (arith, long, length-append front (r ∷ []))) ∙ take-append_seam (front ++ r ∷ []) rs in
    let next : take (count + 1) tape ≡ take count tape ++ r ∷ [] = more ∙ ap (λ (l : List Record). l ++ r ∷ []) (sym taken) in
    inl (read_wrong permanent tape count stage bytes r form (subst (λ (l : List Record). HasReadTo permanent l stage bytes) (sym taken) has) (omega (arith, long, length-append front (r ∷ rs))) next
    (subst (λ (l : List Record). BeginsSave (l ++ r ∷ []) → ⊥) (sym taken) refused))
steps permanent r rs front stage bytes count form has long goes (Some next) takes = goes next.0 (bytes ++ next.1) takes

walks : (permanent : List ℕ) → IsMaybe IsTapeName permanent → (rest front : List Record) (stage : Stage) (bytes : List ℕ) (count : ℕ) → HasReadTo permanent front stage bytes → count ≡ length front → 0 < count → Tells (front ++ rest) (saved_from count stage bytes rest)
walks permanent form [] front stage bytes count has long some = subst (λ (l : List Record). Tells l (ended count stage bytes)) (sym (append-nil front)) (ends permanent front stage bytes count form has long some)
walks permanent form (r ∷ rs) front stage bytes count has long some =
    steps permanent r rs front stage bytes count form has long
    (λ next more behind. subst (λ (l : List Record). Tells l (saved_from (count + 1) next more rs)) (append_assoc front (r ∷ []) rs)
    (walks permanent form rs (front ++ r ∷ []) next more (count + 1) behind (omega (arith, long, length-append front (r ∷ []))) (omega arith)))
    (with_record stage r) (record_takes permanent front stage bytes r has)

-- ---- the changes

-- what is told of a tape
abbrev Known : List Record → Result (List Change) ℕ → Type 0
Known tape (Ok changes) = SavesChanges tape changes
Known tape (Err place) = IsBadSave tape place

last_of : (n : ℕ) → 0 < n → n - 1 + 1 ≡ n
last_of n some = last_place n n refl some

byte_place : (tape : List Record) (bytes : List ℕ) (at : ℕ) → 0 < length tape → at ≤ length bytes → IsPlaceOf tape bytes at (block_of_byte (length bytes) (length tape) at)
byte_place tape bytes at some within = go (nat_lt at (length bytes)) refl
  where
    go : (b : Bool) → nat_lt at (length bytes) ≡ b → IsPlaceOf tape bytes at (if b then 3 + at / room else length tape - 1)
    go true less = inl (ltb-true at (length bytes) less, refl)
    go false past = inr (omega (arith, ltb-false at (length bytes) past, within), last_of (length tape) some)

changes_known : (tape : List Record) (bytes : List ℕ) (o : Result (List Change) ℕ) → 0 < length tape → HasSave tape bytes → reading_of bytes ≡ o → Known tape (changes_or (length bytes) (length tape) o)
changes_known tape bytes (Ok changes) some has is = let read = read_whole bytes changes is in record { form = read.0; saved = subst (HasSave tape) read.1 has }
changes_known tape bytes (Err at) some has is =
    let fails : FailsAt IsLog bytes at = read_fails bytes at is in
    inr (inr record { bytes = bytes; at = at; saved = has; fails = fails; is = byte_place tape bytes at some fails.within })

tape_known : (tape : List Record) (o : Result (List ℕ) ℕ) → 0 < length tape → Tells tape o → Known tape (changes_from (length tape) o)
tape_known tape (Ok bytes) some has = changes_known tape bytes (reading_of bytes) some has refl
tape_known tape (Err place) some (inl wrong) = inl wrong
tape_known tape (Err place) some (inr wanting) = inr (inl wanting)

-- some save begins with no record
nothing_begun : BeginsSave []
nothing_begun =
    let save : Save = record { permanent = []; pieces = [] } in
    record { save = save; is = record { permanent = inr refl; cut = tt; few = omega arith }; more = save_records save; joined = refl }

known : (r : Record) (rs : List Record) → Known (r ∷ rs) (read_back (r ∷ rs))
known r rs = go (is_save_label r) refl
  where
    go : (b : Bool) → is_save_label r ≡ b → Known (r ∷ rs) (if b then changes_from (length (r ∷ rs)) (saved_from 1 stages.Labelled [] rs) else Err 0)
    go true passes =
        let label = label_is r passes in
        tape_known (r ∷ rs) (saved_from 1 stages.Labelled [] rs) (omega arith) (walks label.permanent label.form rs (r ∷ []) stages.Labelled [] 1 (ap (λ (x : Record). x ∷ []) label.is, refl) refl (omega arith))
    go false other = inl record { within = omega arith; before = nothing_begun; here = no_label r other }

-- ---- the law

not_saved : (bytes : List ℕ) → HasSave [] bytes → ⊥
not_saved bytes has = let same : [] ≡ save_records has.save = has.whole in absurd (cc)

pub saves_whole : (tape : List Record) (changes : List Change) → read_back tape ≡ Ok changes → SavesChanges tape changes
saves_whole [] changes is = absurd (cc)
saves_whole (r ∷ rs) changes is = subst (Known (r ∷ rs)) is (known r rs)

pub bad_where : (tape : List Record) (place : ℕ) → 0 < length tape → read_back tape ≡ Err place → IsBadSave tape place
bad_where [] place some is = absurd (omega (arith, some))
bad_where (r ∷ rs) place some is = subst (Known (r ∷ rs)) is (known r rs)

pub read_again : (tape : List Record) (changes : List Change) → SavesChanges tape changes → read_back tape ≡ Ok changes
read_again [] changes saves = absurd (not_saved (encoded changes) saves.saved)
read_again (r ∷ rs) changes saves = go (read_back (r ∷ rs)) (known r rs)
  where
    go : (o : Result (List Change) ℕ) → Known (r ∷ rs) o → o ≡ Ok changes
    go (Ok others) k = ap (λ (cs : List Change). Ok cs) (one_list (r ∷ rs) others changes k saves)
    go (Err place) wrong = absurd (not_bad (r ∷ rs) changes place saves wrong)

no_bad_record : (place : ℕ) → IsBadSave [] place → ⊥
no_bad_record place (inl wrong) = absurd (omega (arith, wrong.within))
no_bad_record place (inr (inl wanting)) = absurd (omega (arith, wanting.1))
no_bad_record place (inr (inr byte)) = not_saved byte.bytes byte.saved

pub read_bad : (tape : List Record) (place : ℕ) → IsBadSave tape place → read_back tape ≡ Err place
read_bad [] place wrong = absurd (no_bad_record place wrong)
read_bad (r ∷ rs) place wrong = go (read_back (r ∷ rs)) (known r rs)
  where
    go : (o : Result (List Change) ℕ) → Known (r ∷ rs) o → o ≡ Err place
    go (Ok changes) k = absurd (not_bad (r ∷ rs) changes place k wrong)
    go (Err other) k = ap (λ (n : ℕ). Err n) (one_bad (r ∷ rs) other place k wrong)
