-- How the bytes of a log are cut into records.
use Rattle.std.proofs.Common.{◌≡◌, ◌≢◌, ◌⊎◌, inl, inr, ℕ, ◌+◌, ◌-◌, ◌*◌, ◌<◌, ◌≤◌, min, List, [], ◌∷◌, ◌++◌, length, take, drop, get_or, slice_index, slice_get, Some, refl, sym, ◌∙◌, ap, arith, length-append, length-drop}
use Rattle.std.proofs.lemmas.Bool.{cases_eq, cases_lt}
use Rattle.std.proofs.lemmas.Bool.Decides.{nat_tests}
use Rattle.std.proofs.lemmas.List.{length-take, take-take, drop-take, take_at, drop_at, take_all, get_or-take, get_or_append_left, get_or-append_right}
use Rattle.std.proofs.lemmas.List.FromFn.{length-map-range_with_len, get_or-map-range_with_len, fill_by_all}
use Rattle.std.proofs.lemmas.Option.{slice_get-get_or}
use Rattle.crash_log.specs.Log.{span}
use Rattle.plant_core.specs.Records.{Record, block_with, mark, bad, NoBad}
use Rattle.plant_media.specs.Records.{record_of, count_of, records_of}

pub count_low : (n : ℕ) → n ≤ 16385 * count_of n
count_low n = omega arith

pub count_high : (n : ℕ) → 16385 * count_of n < n + 16385
count_high n = omega arith

pub count_is : (n k : ℕ) → n ≤ 16385 * k → 16385 * k < n + 16385 → count_of n ≡ k
count_is n k low high = omega arith

-- what a piece says
pub record_short : (piece : List ℕ) → length piece < 16385 → record_of piece ≡ bad
unfolding record_of
record_short piece short = grind (arith, nat_tests)

pub record_block : (piece : List ℕ) → length piece ≡ 16385 → slice_index piece 0 ≡ 0 → record_of piece ≡ block_with (drop 1 piece)
unfolding record_of
record_block piece long first = grind (arith, nat_tests)

pub record_mark : (piece : List ℕ) → length piece ≡ 16385 → slice_index piece 0 ≡ 1 → record_of piece ≡ mark
unfolding record_of
record_mark piece long first = grind (arith, nat_tests)

pub record_other : (piece : List ℕ) → slice_index piece 0 ≢ 0 → slice_index piece 0 ≢ 1 → record_of piece ≡ bad
unfolding record_of
record_other piece not_block not_mark = grind (arith, nat_tests)

-- the piece of a record
abbrev pub piece_of : List ℕ → ℕ → Record
piece_of bytes i = record_of (span (16385 * i) 16385 bytes)

pub records_count : (bytes : List ℕ) → length (records_of bytes) ≡ count_of (length bytes)
unfolding records_of
records_count bytes = length-map-range_with_len (piece_of bytes) 0 (count_of (length bytes))

pub records_get : (bytes : List ℕ) (i : ℕ) (d : Record) → i < count_of (length bytes) → get_or (records_of bytes) i d ≡ piece_of bytes i
unfolding records_of
records_get bytes i d within = get_or-map-range_with_len (piece_of bytes) 0 (count_of (length bytes)) i i d within (omega arith)

pub records_at : (bytes : List ℕ) (i : ℕ) → i < count_of (length bytes) → slice_get (records_of bytes) i ≡ Some (piece_of bytes i)
records_at bytes i within = slice_get-get_or (records_of bytes) i bad (omega (arith, records_count bytes)) ∙ ap (λ (r : Record). Some r) (records_get bytes i bad within)

-- records that stand so one by one are those of the bytes
pub records_by : (bytes : List ℕ) (tape : List Record) → length tape ≡ count_of (length bytes) → ((i : ℕ) → i < count_of (length bytes) → get_or tape i bad ≡ piece_of bytes i) → tape ≡ records_of bytes
unfolding records_of
records_by bytes tape long each = fill_by_all (piece_of bytes) tape (count_of (length bytes)) bad long each

-- the front of a list has the same span
span_front : (a m b : ℕ) (l : List ℕ) → a + m ≤ b → span a m (take b l) ≡ span a m l
span_front a m b l le =
    let sum : a + (b - a) ≡ b = omega arith in
    ap (λ (n : ℕ). take m (drop a (take n l))) (sym sum) ∙ ap (λ (k : List ℕ). take m k) (drop-take a (b - a) l) ∙ take-take m (b - a) (drop a l) (omega arith)

-- the first records are those of the first bytes
pub records_take : (n : ℕ) (bytes : List ℕ) → take n (records_of bytes) ≡ records_of (take (16385 * n) bytes)
records_take n bytes = records_by (take (16385 * n) bytes) (take n (records_of bytes)) size each
  where
    size : length (take n (records_of bytes)) ≡ count_of (length (take (16385 * n) bytes))
    size = length-take n (records_of bytes) ∙ sym (count_is (length (take (16385 * n) bytes)) (min n (length (records_of bytes)))
        (omega (arith, length-take (16385 * n) bytes, records_count bytes, count_low (length bytes)))
        (omega (arith, length-take (16385 * n) bytes, records_count bytes, count_high (length bytes))))

    each : (i : ℕ) → i < count_of (length (take (16385 * n) bytes)) → get_or (take n (records_of bytes)) i bad ≡ piece_of (take (16385 * n) bytes) i
    each i within =
        let below : i < n = omega (arith, size, length-take n (records_of bytes)) in
        get_or-take n (records_of bytes) i bad below
        ∙ records_get bytes i bad (omega (arith, size, length-take n (records_of bytes), records_count bytes))
        ∙ ap record_of (sym (span_front (16385 * i) 16385 (16385 * n) bytes (omega arith)))

-- a piece behind whole records is one record more
pub records_more : (bytes piece : List ℕ) (n : ℕ) → length bytes ≡ 16385 * n → length piece ≡ 16385 → records_of (bytes ++ piece) ≡ records_of bytes ++ record_of piece ∷ []
records_more bytes piece n size one = sym (records_by (bytes ++ piece) (records_of bytes ++ record_of piece ∷ []) long each)
  where
    before : length (records_of bytes) ≡ n
    before = records_count bytes ∙ count_is (length bytes) n (omega arith) (omega arith)

    now : count_of (length (bytes ++ piece)) ≡ n + 1
    now = count_is (length (bytes ++ piece)) (n + 1) (omega (arith, length-append bytes piece)) (omega (arith, length-append bytes piece))

    long : length (records_of bytes ++ record_of piece ∷ []) ≡ count_of (length (bytes ++ piece))
    long = omega (arith, length-append (records_of bytes) (record_of piece ∷ []), before, now)

    front : take (16385 * n) (bytes ++ piece) ≡ bytes
    front = take_at bytes piece (16385 * n) size

    at : (i : ℕ) → (i < n) ⊎ (n ≤ i) → i < n + 1 → get_or (records_of bytes ++ record_of piece ∷ []) i bad ≡ piece_of (bytes ++ piece) i
    at i (inl below) within =
        get_or_append_left (records_of bytes) (record_of piece ∷ []) bad i (omega (arith, before))
        ∙ records_get bytes i bad (omega (arith, before, records_count bytes))
        ∙ ap (λ (l : List ℕ). piece_of l i) (sym front)
        ∙ ap record_of (span_front (16385 * i) 16385 (16385 * n) (bytes ++ piece) (omega arith))
    at i (inr last) within =
        let is : i ≡ n = omega arith in
        let none : i - n ≡ 0 = omega arith in
        get_or-append_right (records_of bytes) (record_of piece ∷ []) n i bad before last
        ∙ ap (λ (k : ℕ). get_or (record_of piece ∷ []) k bad) none
        ∙ ap record_of (sym (ap (λ (k : ℕ). take 16385 (drop (16385 * k) (bytes ++ piece))) is ∙ ap (λ (l : List ℕ). take 16385 l) (drop_at bytes piece (16385 * n) size) ∙ take_all 16385 piece (omega arith)))

    each : (i : ℕ) → i < count_of (length (bytes ++ piece)) → get_or (records_of bytes ++ record_of piece ∷ []) i bad ≡ piece_of (bytes ++ piece) i
    each i within = at i (cases_lt i n) (omega (arith, now))

-- a tape without a bad record has no rest
pub whole_length : (bytes : List ℕ) → NoBad (records_of bytes) → length bytes ≡ 16385 * length (records_of bytes)
whole_length bytes whole = elim (cases_eq (length bytes) (16385 * count_of (length bytes))) [
  | inl is ↦ omega (arith, is, records_count bytes)
  | inr ne ↦
      let last : ℕ = count_of (length bytes) - 1 in
      let some : last < count_of (length bytes) = omega (arith, count_low (length bytes)) in
      absurd (whole last (records_at bytes last some ∙ ap (λ (r : Record). Some r) (record_short (span (16385 * last) 16385 bytes)
      (omega (arith, length-take 16385 (drop (16385 * last) bytes), length-drop (16385 * last) bytes, count_low (length bytes), ne)))))
]

pub records_none : records_of [] ≡ []
unfolding records_of
records_none = refl
