-- What one event more makes of what a crash may leave, by the disk model.
use Rattle.std.proofs.Common.{◌≡◌, ◌≢◌, ◌⊎◌, inl, inr, ⊎_elim, ◌↔◌, ℕ, zero, suc, ◌+◌, ◌-◌, ◌<◌, ◌≤◌, min, max, nat_le, nat_lt, ◌&&◌, ◌==◌, if◌then◌else◌, Bool, true, false, List, [], ◌∷◌, ◌++◌, length, take, drop, get_or, map, slice_index, Vec, refl, sym, ◌∙◌, ap, subst, arith, length-drop}
use Rattle.std.specs.declared.alloc.Global.{Global}
use Rattle.std.specs.Prelude.{Contains}
use Rattle.std.specs.List.{range_with_len}
use Rattle.std.proofs.lemmas.Bool.{cases_lt, cases_eq}
use Rattle.std.proofs.lemmas.Bool.Decides.{nat_tests}
use Rattle.std.proofs.lemmas.List.{ext_get_or, get_or-take, get_or-drop, length-take, take_all}
use Rattle.std.proofs.lemmas.List.FromFn.{length-map-range_with_len, get_or-map-range_with_len}
use Rattle.media_core.specs.declared.event.Event.{Event}
use Rattle.media_core.specs.declared.event.Event.TheVariants.{Opened, Write, Sync, Tell}
use Rattle.crash_moments.specs.Telling.{IsFront}
use Rattle.crash_moments.proofs.Fronts.{whole_front, front_more, front_part, front_size}
use Rattle.media_core.specs.Media.{Torn, written}
use Rattle.media_core.specs.Disk.{Range, FileMayLeave, Piece, OutputMayLeave}
use Rattle.media_core.specs.Events.{Contents, blank, happens, after, file_bytes, FileLeft, ToldLeft, seen_after}
use Rattle.media_core.specs.Reads.{last_told}
use Rattle.media_core.specs.Laws.{written_torn}
use Rattle.media_core.proofs.Fill.{length-written, covers_before, covers_behind, covers_here, same_of, other_of}

-- a file that is all on the disk
fresh_allows : (b c : List ℕ) → c ≡ b → FileMayLeave b b [] c
fresh_allows b c same = record { no_shorter = omega (arith, ap length same); no_longer = omega (arith, ap length same); rest = λ i below out. ap (λ (l : List ℕ). slice_index l i) same }

pub fresh_only : (b c : List ℕ) → FileMayLeave b b [] c → c ≡ b
fresh_only b c allowed = ext_get_or 0 c b (omega (arith, allowed.no_shorter, allowed.no_longer)) (λ i below. allowed.rest i (omega (arith, allowed.no_longer)) refl)

-- A write of n bytes at an offset, over a file of which S is on the disk and a read gave B.
module _ (at n : ℕ) (S B : List ℕ) (loose : List Range) (within : at ≤ length B) where
  abbrev more : List Range
  more = record { at = at; size = n } ∷ loose

  torn_allows : (from c : List ℕ) (B' : List ℕ) → length B' ≡ max (length B) (at + n) → FileMayLeave S B loose from → Torn at n from c → FileMayLeave S B' more c
  torn_allows from c B' long allowed torn = record {
    no_shorter = omega (arith, allowed.no_shorter, torn.no_shorter);
    no_longer = omega (arith, allowed.no_longer, torn.no_longer, long);
    rest = λ i below out. elim (cases_lt i at) [
      | inl before ↦
          sym (get_or-take at c i 0 before) ∙ ap (λ (l : List ℕ). get_or l i 0) torn.before ∙ get_or-take at from i 0 before ∙ allowed.rest i below (sym (covers_before at n loose i before) ∙ out)
      | inr high ↦ elim (cases_lt i (at + n)) [
        | inl inside ↦ let both : true ≡ false = sym (covers_here at n loose i high inside) ∙ out in absurd (differ both)
        | inr behind ↦
            let sum : at + n + (i - (at + n)) ≡ i = omega arith in
            ap (λ (j : ℕ). get_or c j 0) (sym sum) ∙ sym (get_or-drop (at + n) c (i - (at + n)) 0) ∙ ap (λ (l : List ℕ). get_or l (i - (at + n)) 0) torn.after
            ∙ get_or-drop (at + n) from (i - (at + n)) 0 ∙ ap (λ (j : ℕ). get_or from j 0) sum ∙ allowed.rest i below (sym (covers_behind at n loose i behind) ∙ out)
      ]
    ];
  }
    where
      differ : true ≡ false → ⊥
      differ same = cc

  -- the image before a given one: in the range what is on the disk, elsewhere the same, and no longer than the file was
  module _ (c B' : List ℕ) (long : length B' ≡ max (length B) (at + n)) (short : length S ≤ length B) (allowed : FileMayLeave S B' more c) where
    inside : ℕ → Bool
    inside i = nat_le at i && (nat_lt i (at + n) && nat_lt i (length S))

    byte : ℕ → ℕ
    byte i = if inside i then slice_index S i else slice_index c i

    from : List ℕ
    from = map byte (range_with_len 0 (min (length c) (length B)))

    from_long : length from ≡ min (length c) (length B)
    unfolding from
    from_long = length-map-range_with_len byte 0 (min (length c) (length B))

    from_at : (i : ℕ) → i < min (length c) (length B) → slice_index from i ≡ byte i
    unfolding from
    from_at i below = get_or-map-range_with_len byte 0 (min (length c) (length B)) i i 0 below (omega arith)

    byte_out : (i : ℕ) → (i < at) ⊎ (at + n ≤ i) → byte i ≡ slice_index c i
    unfolding byte inside
    byte_out i (inl before) = grind (arith, nat_tests)
    byte_out i (inr behind) = grind (arith, nat_tests)

    byte_in : (i : ℕ) → at ≤ i → i < at + n → i < length S → byte i ≡ slice_index S i
    unfolding byte inside
    byte_in i low high below = grind (arith, nat_tests)

    from_torn : Torn at n from c
    from_torn = record {
      before = ext_get_or 0 (take at c) (take at from) (omega (arith, from_long, length-take at c, length-take at from)) (λ i below.
          let b : i < at = omega (arith, below, length-take at c) in
          get_or-take at c i 0 b ∙ sym (byte_out i (inl b)) ∙ sym (from_at i (omega (arith, below, length-take at c))) ∙ sym (get_or-take at from i 0 b));
      after = ext_get_or 0 (drop (at + n) c) (drop (at + n) from) (omega (arith, from_long, length-drop (at + n) c, length-drop (at + n) from, allowed.no_longer, long)) (λ i below.
          get_or-drop (at + n) c i 0 ∙ sym (byte_out (at + n + i) (inr (omega arith))) ∙ sym (from_at (at + n + i) (omega (arith, below, length-drop (at + n) c, allowed.no_longer, long))) ∙ sym (get_or-drop (at + n) from i 0));
      no_shorter = omega (arith, from_long);
      no_longer = omega (arith, from_long, allowed.no_longer, long);
    }

    from_allowed : FileMayLeave S B loose from
    from_allowed = record {
      no_shorter = omega (arith, from_long, allowed.no_shorter);
      no_longer = omega (arith, from_long);
      rest = λ i below out.
          let there : i < min (length c) (length B) = omega (arith, below, short, allowed.no_shorter) in
          from_at i there ∙ elim (cases_lt i at) [
            | inl before ↦ byte_out i (inl before) ∙ allowed.rest i below (covers_before at n loose i before ∙ out)
            | inr high ↦ elim (cases_lt i (at + n)) [
              | inl in_range ↦ byte_in i high in_range below
              | inr behind ↦ byte_out i (inr behind) ∙ allowed.rest i below (covers_behind at n loose i behind ∙ out)
            ]
          ];
    }

-- what a write leaves of a file: another one stays
pub record WriteLeaves (at n : ℕ) (is_other : Type 0) (left : List ℕ → Type 0) (c : List ℕ) : Type 0 where
  pub from : List ℕ
  pub was : left from
  pub torn : (is_other → ⊥) → Torn at n from c
  pub other : is_other → c ≡ from

-- what a sync leaves of a file
pub record SyncLeaves (bytes : List ℕ) (is_other : Type 0) (left : List ℕ → Type 0) (c : List ℕ) : Type 0 where
  pub was : left c
  pub synced : (is_other → ⊥) → c ≡ bytes

-- what a piece in progress leaves of the output
abbrev pub TellLeaves : List ℕ → List ℕ → (List ℕ → Type 0) → List ℕ → Type 0
TellLeaves taken piece left c = left c ⊎ ((n : ℕ) × (c ≡ taken ++ take n piece))

-- each of them for one file, whether it is this one or another
module _ (is_other : Type 0) (S B : List ℕ) (loose : List Range) where
  write_agrees : (here : Bool) → (here ≡ true → is_other → ⊥) → (here ≡ false → is_other) → (at : ℕ) (bytes : List ℕ) → at ≤ length B → length S ≤ length B → (c : List ℕ)
      → WriteLeaves at (length bytes) is_other (FileMayLeave S B loose) c ↔ FileMayLeave S (if here then written at bytes B else B) (if here then record { at = at; size = length bytes } ∷ loose else loose) c
  write_agrees true not_other other at bytes within short c = (
    λ w. torn_allows at (length bytes) S B loose within w.from c (written at bytes B) (length-written at bytes B within) w.was (w.torn (not_other refl)),
    λ allowed.
        let long = length-written at bytes B within in
        record {
          from = from at (length bytes) S B loose within c (written at bytes B) long short allowed;
          was = from_allowed at (length bytes) S B loose within c (written at bytes B) long short allowed;
          torn = λ here. from_torn at (length bytes) S B loose within c (written at bytes B) long short allowed;
          other = λ o. absurd (not_other refl o);
        },
  )
  write_agrees false not_other other at bytes within short c = (
    λ w. subst (FileMayLeave S B loose) (sym (w.other (other refl))) w.was,
    λ allowed. record { from = c; was = allowed; torn = λ here. absurd (here (other refl)); other = λ o. refl },
  )

  sync_agrees : (here : Bool) → (here ≡ true → is_other → ⊥) → (here ≡ false → is_other) → FileMayLeave S B loose B → (c : List ℕ)
      → SyncLeaves B is_other (FileMayLeave S B loose) c ↔ FileMayLeave (if here then B else S) B (if here then [] else loose) c
  sync_agrees true not_other other reads c = (
    λ w. fresh_allows B c (w.synced (not_other refl)),
    λ allowed. record { was = subst (FileMayLeave S B loose) (sym (fresh_only B c allowed)) reads; synced = λ here. fresh_only B c allowed },
  )
  sync_agrees false not_other other reads c = (λ w. w.was, λ allowed. record { was = allowed; synced = λ here. absurd (here (other refl)) })

piece_first : (p : Piece) (ps : List Piece) → Contains (p ∷ ps) p
piece_first p ps = (0, omega arith, refl)

piece_later : (p q : Piece) (ps : List Piece) → Contains ps q → Contains (p ∷ ps) q
piece_later p q ps (k, below, is) = (suc k, omega arith, is)

piece_cases : (p q : Piece) (ps : List Piece) → Contains (p ∷ ps) q → (q ≡ p) ⊎ Contains ps q
piece_cases p q ps (zero, below, is) = inl (sym is)
piece_cases p q ps (suc k, below, is) = inr (k, omega arith, is)

no_piece : (q : Piece) → Contains [] q → ⊥
no_piece q (k, below, is) = absurd (omega arith)

-- the output, with a piece more
tell_agrees : (first told piece : List ℕ) (pieces : List Piece) (c : List ℕ) → TellLeaves told piece (OutputMayLeave first pieces) c ↔ OutputMayLeave first (record { before = told; bytes = piece } ∷ pieces) c
tell_agrees first told piece pieces c = (
  λ w. ⊎_elim
      (λ l. ⊎_elim (λ is. inl is) (λ front. inr (record { piece = front.piece; among = piece_later (record { before = told; bytes = piece }) front.piece pieces front.among; size = front.size; is = front.is })) l)
      (λ more. inr (record { piece = record { before = told; bytes = piece }; among = piece_first (record { before = told; bytes = piece }) pieces; size = more.0; is = more.1 }))
      w,
  λ allowed. ⊎_elim
      (λ is. inl (inl is))
      (λ front. ⊎_elim
      (λ this. inr (front.size, front.is ∙ (λ i. (this i).before ++ take front.size (this i).bytes)))
      (λ rest. inl (inr (record { piece = front.piece; among = rest; size = front.size; is = front.is })))
      (piece_cases (record { before = told; bytes = piece }) front.piece pieces front.among))
      allowed,
)

pub none_told : (first : List ℕ) (c : List ℕ) → OutputMayLeave first [] c → c ≡ first
none_told first c allowed = ⊎_elim (λ is. is) (λ front. absurd (no_piece front.piece front.among)) allowed

-- a write, a sync and a piece more
pub write_left : (s : Contents) (f at : ℕ) (bytes : Vec ℕ Global) (k : ℕ) → FileLeft s k (s.bytes k) → (c : List ℕ)
    → WriteLeaves (min at (length (s.bytes k))) (length bytes.items) (k ≢ f) (FileLeft s k) c ↔ FileLeft (happens (Write f at bytes) s) k c
write_left s f at bytes k reads c = write_agrees (k ≢ f) (s.synced k) (s.bytes k) (s.loose k) (k == f) (λ is ne. ne (same_of k f is)) (other_of k f) (min at (length (s.bytes k))) bytes.items (omega arith) reads.no_shorter c

pub sync_left : (s : Contents) (f k : ℕ) → FileLeft s k (s.bytes k) → (c : List ℕ) → SyncLeaves (s.bytes k) (k ≢ f) (FileLeft s k) c ↔ FileLeft (happens (Sync f) s) k c
sync_left s f k reads c = sync_agrees (k ≢ f) (s.synced k) (s.bytes k) (s.loose k) (k == f) (λ is ne. ne (same_of k f is)) (other_of k f) reads c

pub tell_left : (s : Contents) (piece : Vec ℕ Global) (c : List ℕ) → TellLeaves s.told piece.items (ToldLeft s) c ↔ ToldLeft (happens (Tell piece) s) c
tell_left s piece c = tell_agrees s.told_first s.told piece.items s.pieces c

pub opened_left : (s : Contents) (files : Vec (Vec ℕ Global) Global) (told : Vec ℕ Global) (k : ℕ) (c : List ℕ) → FileLeft (happens (Opened files told) s) k c → c ≡ file_bytes files.items k
opened_left s files told k c left = fresh_only (file_bytes files.items k) c left

pub opened_allows : (s : Contents) (files : Vec (Vec ℕ Global) Global) (told : Vec ℕ Global) (k : ℕ) (c : List ℕ) → c ≡ file_bytes files.items k → FileLeft (happens (Opened files told) s) k c
opened_allows s files told k c is = fresh_allows (file_bytes files.items k) c is

write_reads : (f at : ℕ) (bytes : List ℕ) (left : List ℕ → Type 0) (old : List ℕ) (k : ℕ) → left old
    → WriteLeaves (min at (length old)) (length bytes) (k ≢ f) left (if k == f then written (min at (length old)) bytes old else old)
write_reads f at bytes left old k was = elim (cases_eq k f) [
  | inl same ↦
      let is : (if k == f then written (min at (length old)) bytes old else old) ≡ written (min at (length old)) bytes old = grind (arith, nat_tests) in
      record { from = old; was = was; torn = λ here. subst (λ (l : List ℕ). Torn (min at (length old)) (length bytes) old l) (sym is) (written_torn (min at (length old)) bytes old (omega arith)); other = λ ne. absurd (ne same) }
  | inr ne ↦
      let is : (if k == f then written (min at (length old)) bytes old else old) ≡ old = grind (arith, nat_tests) in
      record { from = old; was = was; torn = λ here. absurd (here ne); other = λ _. is }
]

-- What reads give is one of the images, and of each image what was told is a front of what was told.
pub record IsRead (s : Contents) : Type 0 where
  pub files : (k : ℕ) → FileLeft s k (s.bytes k)
  pub told : ToldLeft s s.told
  pub last : s.told ≡ last_told s.told_first s.pieces
  pub fronts : (c : List ℕ) → ToldLeft s c → IsFront c s.told

blank_read : IsRead blank
blank_read = record { files = λ k. fresh_allows [] [] refl; told = inl refl; last = refl; fronts = λ c left. whole_front c [] (none_told [] c left) }

told_front : (s : Contents) (piece : Vec ℕ Global) → ((c : List ℕ) → ToldLeft s c → IsFront c s.told) → (c : List ℕ) → TellLeaves s.told piece.items (ToldLeft s) c → IsFront c (s.told ++ piece.items)
told_front s piece fronts c (inl was) = front_more c s.told piece.items (fronts c was)
told_front s piece fronts c (inr (n, is)) = front_part s.told piece.items n c is

happens_read : (e : Event) (s : Contents) → IsRead s → IsRead (happens e s)
happens_read (Opened files told) s one = record {
  files = λ k. fresh_allows (file_bytes files.items k) (file_bytes files.items k) refl;
  told = inl refl;
  last = refl;
  fronts = λ c left. whole_front c told.items (none_told told.items c left);
}
happens_read (Write f at bytes) s one = record {
  files = λ k. (write_left s f at bytes k (one.files k) ((happens (Write f at bytes) s).bytes k)).0 (write_reads f at bytes.items (FileLeft s k) (s.bytes k) k (one.files k));
  told = one.told;
  last = one.last;
  fronts = one.fronts;
}
happens_read (Sync f) s one = record {
  files = λ k. (sync_left s f k (one.files k) (s.bytes k)).0 (record { was = one.files k; synced = λ here. refl });
  told = one.told;
  last = one.last;
  fronts = one.fronts;
}
happens_read (Tell piece) s one = record {
  files = one.files;
  told = (tell_left s piece (s.told ++ piece.items)).0 (inr (length piece.items, ap (λ (l : List ℕ). s.told ++ l) (sym (take_all (length piece.items) piece.items (omega arith)))));
  last = refl;
  fronts = λ c left. told_front s piece one.fronts c ((tell_left s piece c).1 left);
}

after_read : (es : List Event) (s : Contents) → IsRead s → IsRead (after es s)
after_read [] s one = one
after_read (e ∷ es) s one = after_read es (happens e s) (happens_read e s one)

pub always_read : (es : List Event) → IsRead (after es blank)
always_read es = after_read es blank blank_read

pub told_is_front : (es : List Event) (c : List ℕ) → ToldLeft (after es blank) c → c ≡ take (length c) (seen_after es).told
told_is_front es c left = front_size c (seen_after es).told ((always_read es).fronts c left)
