-- What a pick makes of a file, call by call.
use Rattle.std.proofs.Common.{◌≡◌, ◌≢◌, inl, inr, ℕ, ◌+◌, ◌-◌, ◌<◌, ◌≤◌, max, ◌==◌, if◌then◌else◌, Bool, true, false, List, [], ◌∷◌, ◌++◌, length, take, drop, replicate, slice_index, refl, sym, ◌∙◌, ap, arith, length-append, length-drop}
use Rattle.std.proofs.lemmas.Bool.{cases_lt}
use Rattle.std.proofs.lemmas.Bool.Decides.{nat_tests}
use Rattle.std.proofs.lemmas.List.{get_or_append_left, get_or-append_right, get_or-take, get_or-drop, get_or-replicate, length-take-le}
use Rattle.media_core.specs.declared.replay.Pick.{Pick}
use Rattle.media_core.specs.declared.replay.Pick.TheVariants.{Old, New, Torn}
use Rattle.media_core.specs.Media.{written}
use Rattle.media_core.specs.Disk.{Range, covers, IsFilled, IsPicked}

pub length-written : (at : ℕ) (bytes old : List ℕ) → at ≤ length old → length (written at bytes old) ≡ max (length old) (at + length bytes)
length-written at bytes old within = omega (arith, length-append (take at old ++ bytes) (drop (at + length bytes) old), length-append (take at old) bytes, length-take-le at old within, length-drop (at + length bytes) old)

-- the bytes of a file after a write, one by one
pub written_before : (at : ℕ) (bytes old : List ℕ) (i : ℕ) → at ≤ length old → i < at → slice_index (written at bytes old) i ≡ slice_index old i
written_before at bytes old i within below =
    let front : length (take at old) ≡ at = length-take-le at old within in
    get_or_append_left (take at old ++ bytes) (drop (at + length bytes) old) 0 i (omega (arith, front, length-append (take at old) bytes))
    ∙ get_or_append_left (take at old) bytes 0 i (omega (arith, front)) ∙ get_or-take at old i 0 below

pub written_in : (at : ℕ) (bytes old : List ℕ) (i : ℕ) → at ≤ length old → at ≤ i → i < at + length bytes → slice_index (written at bytes old) i ≡ slice_index bytes (i - at)
written_in at bytes old i within low high =
    let front : length (take at old) ≡ at = length-take-le at old within in
    get_or_append_left (take at old ++ bytes) (drop (at + length bytes) old) 0 i (omega (arith, front, length-append (take at old) bytes))
    ∙ get_or-append_right (take at old) bytes at i 0 front low

pub written_behind : (at : ℕ) (bytes old : List ℕ) (i : ℕ) → at ≤ length old → at + length bytes ≤ i → slice_index (written at bytes old) i ≡ slice_index old i
written_behind at bytes old i within behind =
    let front : length (take at old) ≡ at = length-take-le at old within in
    let both : length (take at old ++ bytes) ≡ at + length bytes = omega (arith, front, length-append (take at old) bytes) in
    let sum : at + length bytes + (i - (at + length bytes)) ≡ i = omega arith in
    get_or-append_right (take at old ++ bytes) (drop (at + length bytes) old) (at + length bytes) i 0 both behind
    ∙ get_or-drop (at + length bytes) old (i - (at + length bytes)) 0 ∙ ap (λ (j : ℕ). slice_index old j) sum

-- a range more
pub covers_here : (at n : ℕ) (loose : List Range) (i : ℕ) → at ≤ i → i < at + n → covers (record { at = at; size = n } ∷ loose) i ≡ true
covers_here at n loose i low high = grind (arith, nat_tests)

pub covers_before : (at n : ℕ) (loose : List Range) (i : ℕ) → i < at → covers (record { at = at; size = n } ∷ loose) i ≡ covers loose i
covers_before at n loose i below = grind (arith, nat_tests)

pub covers_behind : (at n : ℕ) (loose : List Range) (i : ℕ) → at + n ≤ i → covers (record { at = at; size = n } ∷ loose) i ≡ covers loose i
covers_behind at n loose i behind = grind (arith, nat_tests)

module _ (byte at : ℕ) (bytes old fill c : List ℕ) (loose : List Range) (same : fill ≡ replicate (length bytes) byte) (within : at ≤ length old) where
  abbrev more : List Range
  more = record { at = at; size = length bytes } ∷ loose

  abbrev Target : List ℕ → ℕ → Type 0
  Target new i = slice_index (written at fill c) i ≡ (if covers more i then byte else slice_index new i)

  fill_more : length fill ≡ length bytes → IsFilled byte old loose c → IsFilled byte (written at bytes old) more (written at fill c)
  fill_more size filled = record {
    size = omega (arith, length-written at fill c (omega (arith, filled.size)), length-written at bytes old within, filled.size, size);
    each = λ i below. elim (cases_lt i at) [
      | inl before ↦ kept i (covers_before at (length bytes) loose i before) (written_before at fill c i (omega (arith, filled.size)) before) (written_before at bytes old i within before) (omega (arith, filled.size))
      | inr from ↦ elim (cases_lt i (at + length bytes)) [
        | inl high ↦
            let value : slice_index fill (i - at) ≡ byte = ap (λ (l : List ℕ). slice_index l (i - at)) same ∙ get_or-replicate (length bytes) (i - at) byte 0 (omega arith) in
            written_in at fill c i (omega (arith, filled.size)) from (omega (arith, size)) ∙ value ∙ (λ j. if sym (covers_here at (length bytes) loose i from high) j then byte else slice_index (written at bytes old) i)
        | inr behind ↦ kept i (covers_behind at (length bytes) loose i behind) (written_behind at fill c i (omega (arith, filled.size)) (omega (arith, size))) (written_behind at bytes old i within behind)
            (omega (arith, below, size, length-written at fill c (omega (arith, filled.size))))
      ]
    ];
  }
    where
      kept : (i : ℕ) → covers more i ≡ covers loose i → slice_index (written at fill c) i ≡ slice_index c i → slice_index (written at bytes old) i ≡ slice_index old i → i < length c → Target (written at bytes old) i
      kept i covered first second below = first ∙ filled.each i below ∙ (λ j. if sym covered j then byte else sym second j)

  pub fill_where : (here : Bool) → length fill ≡ length bytes → IsFilled byte old loose c
      → IsFilled byte (if here then written at bytes old else old) (if here then more else loose) (if here then written at fill c else c)
  fill_where true size filled = fill_more size filled
  fill_where false size filled = filled

-- all of it is on the disk
pub picked_fresh : (pick : Pick) (bytes c : List ℕ) → c ≡ bytes → IsPicked pick bytes bytes [] c
picked_fresh Old bytes c same = same
picked_fresh New bytes c same = same
picked_fresh (Torn byte) bytes c same = record { size = ap length same; each = λ i below. ap (λ (l : List ℕ). slice_index l i) same }

pub picked_synced : (pick : Pick) (here : Bool) (synced bytes c : List ℕ) (loose : List Range) → (here ≡ true → c ≡ bytes) → (here ≡ false → IsPicked pick synced bytes loose c)
    → IsPicked pick (if here then bytes else synced) bytes (if here then [] else loose) c
picked_synced pick true synced bytes c loose same other = picked_fresh pick bytes c (same refl)
picked_synced pick false synced bytes c loose same other = other refl

-- whether two files are one
pub same_of : (k f : ℕ) → (k == f) ≡ true → k ≡ f
same_of k f is = grind (arith, nat_tests)

pub other_of : (k f : ℕ) → (k == f) ≡ false → k ≢ f
other_of k f is = λ same. absurd (grind (arith, nat_tests))
