-- The place of a bad save is one, and a save of changes has none.
use Rattle.std.proofs.Common.{◌≡◌, ℕ, ◌+◌, ◌*◌, ◌/◌, ◌<◌, ◌≤◌, List, [], ◌∷◌, ◌++◌, length, map, take, drop, sym, ◌∙◌, ap, subst, arith, append_assoc, inl, inr, length-append}
use Rattle.std.specs.List.{concat}
use Rattle.std.proofs.lemmas.Bool.{cases_lt}
use Rattle.std.proofs.lemmas.List.{take-append-drop, take-take, append-nil, length-map}
use Rattle.bk_text.specs.Places.{FailsAt}
use Rattle.bk_text.proofs.Fails.{one_place}
use Rattle.plant_core.specs.Records.{Record, mark}
use Rattle.budb_changes.specs.declared.change.Change.{Change}
use Rattle.budb_changes.specs.Bytes.{encoded}
use Rattle.budb_changes.specs.Forms.{IsLog}
use Rattle.budb_changes.proofs.Logs.{same_changes}
use Rattle.budb_save.specs.Saves.{AreCut, piece_record, BeginsSave, HasSave, IsWrongAt, IsWanting}
use Rattle.budb_save.specs.Loading.{SavesChanges, IsPlaceOf, HasBadByte, IsBadSave}
use Rattle.budb_save.proofs.PieceLaws.{cut_few, cut_rest}
use Rattle.budb_save.proofs.StandLaws.{one_save}

-- ---- fronts

begins_front : (front more : List Record) → BeginsSave (front ++ more) → BeginsSave front
begins_front front more b = record { save = b.save; is = b.is; more = more ++ b.more; joined = b.joined ∙ append_assoc front more b.more }

begins_less : (tape : List Record) (n : ℕ) → BeginsSave tape → BeginsSave (take n tape)
begins_less tape n b = begins_front (take n tape) (drop n tape) (subst BeginsSave (sym (take-append-drop n tape)) b)

begins_whole : (tape : List Record) (bytes : List ℕ) → HasSave tape bytes → BeginsSave tape
begins_whole tape bytes has = record { save = has.save; is = has.is; more = []; joined = sym has.whole ∙ sym (append-nil tape) }

-- ---- a record that is wrong

not_begun : (tape : List Record) (place n : ℕ) → IsWrongAt tape place → place < n → BeginsSave (take n tape) → ⊥
not_begun tape place n wrong less b = wrong.here (subst BeginsSave (take-take (place + 1) n tape (omega arith)) (begins_less (take n tape) (place + 1) b))

one_wrong : (tape : List Record) (a b : ℕ) → IsWrongAt tape a → IsWrongAt tape b → a ≡ b
one_wrong tape a b first second = elim (cases_lt a b) [
  | inl less ↦ absurd (not_begun tape a b first less second.before)
  | inr more ↦ elim (cases_lt b a) [
    | inl less ↦ absurd (not_begun tape b a second less first.before)
    | inr same ↦ omega arith
  ]
]

not_wrong : (tape : List Record) (place : ℕ) → IsWrongAt tape place → BeginsSave tape → ⊥
not_wrong tape place wrong b = wrong.here (begins_less tape (place + 1) b)

not_wanting : (tape : List Record) (bytes : List ℕ) → IsWanting tape → HasSave tape bytes → ⊥
not_wanting tape bytes wanting has = wanting.not_whole has.save has.is has.whole

-- ---- a byte that is bad

same_end : (a b n : ℕ) → a + 1 ≡ n → b + 1 ≡ n → a ≡ b
same_end a b n first second = omega arith

same_place : (tape : List Record) (bytes : List ℕ) (at a b : ℕ) → IsPlaceOf tape bytes at a → IsPlaceOf tape bytes at b → a ≡ b
same_place tape bytes at a b (inl first) (inl second) = first.1 ∙ sym second.1
same_place tape bytes at a b (inl first) (inr second) = absurd (omega (arith, first.0, second.0))
same_place tape bytes at a b (inr first) (inl second) = absurd (omega (arith, first.0, second.0))
same_place tape bytes at a b (inr first) (inr second) = same_end a b (length tape) first.1 second.1

one_byte : (tape : List Record) (a b : ℕ) → HasBadByte tape a → HasBadByte tape b → a ≡ b
one_byte tape a b first second =
    let bytes : second.bytes ≡ first.bytes = one_save tape second.bytes first.bytes second.saved first.saved in
    let fails : FailsAt IsLog first.bytes second.at = subst (λ (l : List ℕ). FailsAt IsLog l second.at) bytes second.fails in
    let at : second.at ≡ first.at = one_place IsLog first.bytes second.at first.at fails first.fails in
    same_place tape first.bytes first.at a b first.is (subst (λ (n : ℕ). IsPlaceOf tape first.bytes n b) at (subst (λ (l : List ℕ). IsPlaceOf tape l second.at b) bytes second.is))

-- ---- all together

pub one_bad : (tape : List Record) (a b : ℕ) → IsBadSave tape a → IsBadSave tape b → a ≡ b
one_bad tape a b (inl first) (inl second) = one_wrong tape a b first second
one_bad tape a b (inl first) (inr (inl second)) = absurd (not_wrong tape a first second.0.before)
one_bad tape a b (inl first) (inr (inr second)) = absurd (not_wrong tape a first (begins_whole tape second.bytes second.saved))
one_bad tape a b (inr (inl first)) (inl second) = absurd (not_wrong tape b second first.0.before)
one_bad tape a b (inr (inl first)) (inr (inl second)) = same_end a b (length tape) first.1 second.1
one_bad tape a b (inr (inl first)) (inr (inr second)) = absurd (not_wanting tape second.bytes first.0 second.saved)
one_bad tape a b (inr (inr first)) (inl second) = absurd (not_wrong tape b second (begins_whole tape first.bytes first.saved))
one_bad tape a b (inr (inr first)) (inr (inl second)) = absurd (not_wanting tape first.bytes second.0 first.saved)
one_bad tape a b (inr (inr first)) (inr (inr second)) = one_byte tape a b first second

pub one_list : (tape : List Record) (a b : List Change) → SavesChanges tape a → SavesChanges tape b → a ≡ b
one_list tape a b first second = same_changes a b first.form second.form (one_save tape (encoded a) (encoded b) first.saved second.saved)

pub not_bad : (tape : List Record) (changes : List Change) (place : ℕ) → SavesChanges tape changes → IsBadSave tape place → ⊥
not_bad tape changes place saves (inl wrong) = not_wrong tape place wrong (begins_whole tape (encoded changes) saves.saved)
not_bad tape changes place saves (inr (inl wanting)) = not_wanting tape (encoded changes) wanting.0 saves.saved
not_bad tape changes place saves (inr (inr bad)) =
    bad.fails.not_whole (changes, saves.form, one_save tape bad.bytes (encoded changes) bad.saved saves.saved)

-- ---- the data block of a byte

-- so many pieces have no more bytes than go in
few_bytes : (ps : List (List ℕ)) → AreCut ps → length (concat ps) ≤ 16352 * length ps
few_bytes [] cut = omega arith
few_bytes (p ∷ ps) cut = omega (arith, cut_few p ps cut, few_bytes ps (cut_rest p ps cut), length-append p (concat ps))

piece_below : (at n : ℕ) → at < 16352 * n → at / 16352 < n
piece_below at n less = omega arith

record_count : (tape : List Record) (bytes : List ℕ) → (has : HasSave tape bytes) → length tape ≡ 4 + length has.save.pieces
record_count tape bytes has =
    let all = map piece_record has.save.pieces in
    ap length has.whole ∙ omega (arith, length-append all (mark ∷ []), length-map has.save.pieces piece_record)

-- the block with a byte is one of the tape's records
pub block_within : (tape : List Record) (bytes : List ℕ) (at : ℕ) → HasSave tape bytes → at < length bytes → 3 + at / 16352 < length tape
block_within tape bytes at has less =
    let count = record_count tape bytes has in
    let few = few_bytes has.save.pieces has.is.cut in
    let below : at / 16352 < length has.save.pieces = piece_below at (length has.save.pieces) (omega (arith, less, ap length has.bytes_are, few)) in
    omega arith
