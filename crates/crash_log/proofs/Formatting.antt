-- A blank file and a damaged one are formatted: at each moment their log is empty.
use Rattle.std.proofs.Common.{◌≡◌, ◌≢◌, ◌⊎◌, inl, inr, ℕ, zero, suc, ◌+◌, ◌<◌, ◌≤◌, lit≤, true, false, List, [], ◌∷◌, ◌++◌, length, drop, refl, sym, ◌∙◌, ap, subst, arith, slice_index, length-drop}
use Rattle.std.proofs.lemmas.Bool.{cases_lt, cases_eq}
use Rattle.std.proofs.lemmas.Bool.Decides.{nat_tests}
use Rattle.std.proofs.lemmas.List.{length-take}
use Rattle.crash_moments.specs.Moments.{Moments, Leads}
use Rattle.crash_moments.proofs.Joining.{weakened, joined, stays}
use Rattle.media_core.specs.Media.{Image, Torn, AtFile, Holds, written}
use Rattle.media_core.specs.Laws.{written_torn}
use Rattle.crash_log.specs.Log.{span, place_of, IsFine, gate_at, place_at, is_good, log_of, is_damaged, HasLog}
use Rattle.crash_log.specs.State.{settled_bytes, empty_state}
use Rattle.crash_log.specs.Fit.{Stands, IsReady, IsStill, SameLog}
use Rattle.crash_log.specs.Format.{first_place, IsFront, HasNoGood, IsShut, IsPlaced, IsFormatted, Has}
use Rattle.crash_log.specs.declared.state.LogState.{LogState}
use Rattle.crash_log.specs.declared.state.Needs.{Needs}
use Rattle.crash_log.proofs.Spans.{torn_span, written_span}
use Rattle.crash_log.proofs.Slots.{Apart, stands_log, stands_whole, short_whole, none_good, shut_false, gate_torn_bad, bad_apart}

-- a file shorter than the slots has no good one
short_bad : (base : ℕ) (file : List ℕ) → length file < 8192 → is_good base file ≡ false
short_bad base file short = grind (arith, nat_tests)

pub blank_log : (file : List ℕ) → length file < 8192 → log_of file ≡ []
blank_log file short = none_good file (short_bad 0 file short) (short_bad 4096 file short)

first_apart : Apart 0 4096
first_apart = record { bases = inl (refl, refl) }

first_fine : IsFine first_place
first_fine = record { turn = omega arith; low = omega arith; high = lit≤ tt; small = omega arith }

first_stands : (file : List ℕ) → 8192 ≤ length file → gate_at 0 file ≡ 1 → place_at 0 file ≡ first_place → Stands 0 first_place [] file
first_stands file long gate place = record { gate = gate; place = place; bytes = refl; within = omega (arith, long) }

pub formatted_log : (file : List ℕ) → IsFormatted file → log_of file ≡ []
formatted_log file is = stands_log 0 4096 first_apart first_place [] file first_fine (first_stands file is.long is.gate is.place) (inl (shut_false 4096 file is.other))

pub formatted_whole : (file : List ℕ) → IsFormatted file → is_damaged file ≡ false
formatted_whole file is = stands_whole 0 4096 first_apart first_place [] file first_fine (first_stands file is.long is.gate is.place)

-- a file without a good slot is damaged
pub none_damaged : (file : List ℕ) → 8192 ≤ length file → is_good 0 file ≡ false → is_good 4096 file ≡ false → is_damaged file ≡ true
none_damaged file long first second = grind (arith, nat_tests)

gate_kept : (at n base : ℕ) (old new : List ℕ) → Torn at n old new → (base + 1 ≤ at) ⊎ (at + n ≤ base) → gate_at base new ≡ gate_at base old
gate_kept at n base old new torn away = ap (λ (l : List ℕ). slice_index l 0) (torn_span at n base 1 old new torn away)

place_kept : (at n base : ℕ) (old new : List ℕ) → Torn at n old new → (base + 1 + 23 ≤ at) ⊎ (at + n ≤ base + 1) → place_at base new ≡ place_at base old
place_kept at n base old new torn away = ap place_of (torn_span at n (base + 1) 23 old new torn away)

-- what each write may leave
front_torn : (old c : List ℕ) → length old < 8192 → Torn 0 8191 old c → log_of c ≡ []
front_torn old c short torn = blank_log c (omega (arith, torn.no_longer))

end_formats : (old c : List ℕ) → IsFront old → Torn 8191 1 old c → 8192 ≤ length c → IsFormatted c
end_formats old c front torn long = record {
  long = long;
  gate = gate_kept 8191 1 0 old c torn (inl (omega arith)) ∙ front.gate;
  place = place_kept 8191 1 0 old c torn (inl (omega arith)) ∙ front.place;
  other = λ is_one. front.other (sym (gate_kept 8191 1 4096 old c torn (inl (omega arith))) ∙ is_one);
}

end_torn : (old c : List ℕ) → IsFront old → Torn 8191 1 old c → log_of c ≡ []
end_torn old c front torn = elim (cases_lt (length c) 8192) [
  | inl short ↦ blank_log c short
  | inr long ↦ formatted_log c (end_formats old c front torn long)
]

end_whole : (old c : List ℕ) → IsFront old → Torn 8191 1 old c → is_damaged c ≡ false
end_whole old c front torn = elim (cases_lt (length c) 8192) [
  | inl short ↦ short_whole c short
  | inr long ↦ formatted_whole c (end_formats old c front torn long)
]

close_bad : (base : ℕ) (old c : List ℕ) → (base ≡ 0) ⊎ (base ≡ 4096) → HasNoGood old → gate_at base old ≡ 1 → Torn base 1 old c → HasNoGood c
close_bad base old c (inl is) bad gate torn =
    let t : Torn 0 1 old c = subst (λ (b : ℕ). Torn b 1 old c) is torn in
    record {
      long = omega (arith, bad.long, torn.no_shorter);
      first = gate_torn_bad 0 old c (omega (arith, bad.long)) t (subst (λ (b : ℕ). gate_at b old ≡ 1) is gate) bad.first;
      second = bad_apart 4096 0 (record { bases = inr (refl, refl) }) 0 1 old c (omega arith) (omega arith) (omega (arith, bad.long)) t bad.second;
    }
close_bad base old c (inr is) bad gate torn =
    let t : Torn 4096 1 old c = subst (λ (b : ℕ). Torn b 1 old c) is torn in
    record {
      long = omega (arith, bad.long, torn.no_shorter);
      first = bad_apart 0 4096 first_apart 4096 1 old c (omega arith) (omega arith) (omega (arith, bad.long)) t bad.first;
      second = gate_torn_bad 4096 old c (omega (arith, bad.long)) t (subst (λ (b : ℕ). gate_at b old ≡ 1) is gate) bad.second;
    }

pub bad_log : (file : List ℕ) → HasNoGood file → log_of file ≡ []
bad_log file bad = none_good file bad.first bad.second

pub bad_damaged : (file : List ℕ) → HasNoGood file → is_damaged file ≡ true
bad_damaged file bad = none_damaged file bad.long bad.first bad.second

-- a damaged file has no log to lose
was_damaged : (old c : List ℕ) → is_damaged old ≡ true → is_damaged old ≡ false → is_damaged c ≡ false
was_damaged old c damaged whole = absurd (cc)

shut_damaged : (file : List ℕ) → IsShut file → is_damaged file ≡ true
shut_damaged file shut = none_damaged file shut.long (shut_false 0 file shut.first) (shut_false 4096 file shut.second)

place_shut : (old c : List ℕ) → IsShut old → Torn 1 23 old c → IsShut c
place_shut old c shut torn = record {
  long = omega (arith, shut.long, torn.no_shorter);
  first = λ is_one. shut.first (sym (gate_kept 1 23 0 old c torn (inl (omega arith))) ∙ is_one);
  second = λ is_one. shut.second (sym (gate_kept 1 23 4096 old c torn (inr (omega arith))) ∙ is_one);
}

pub shut_log : (file : List ℕ) → IsShut file → log_of file ≡ []
shut_log file shut = none_good file (shut_false 0 file shut.first) (shut_false 4096 file shut.second)

open_other_shut : (old c : List ℕ) → IsPlaced old → Torn 0 1 old c → gate_at 4096 c ≢ 1
open_other_shut old c placed torn is_one = placed.shut.second (sym (gate_kept 0 1 4096 old c torn (inr (omega arith))) ∙ is_one)

open_formats : (old c : List ℕ) → IsPlaced old → Torn 0 1 old c → gate_at 0 c ≡ 1 → IsFormatted c
open_formats old c placed torn gate = record {
  long = omega (arith, placed.shut.long, torn.no_shorter);
  gate = gate;
  place = place_kept 0 1 0 old c torn (inr (omega arith)) ∙ placed.place;
  other = open_other_shut old c placed torn;
}

open_torn : (old c : List ℕ) → IsPlaced old → Torn 0 1 old c → log_of c ≡ []
open_torn old c placed torn = elim (cases_eq (gate_at 0 c) 1) [
  | inl is_open ↦ formatted_log c (open_formats old c placed torn is_open)
  | inr shut ↦ none_good c (shut_false 0 c shut) (shut_false 4096 c (open_other_shut old c placed torn))
]

-- a write that covers a shorter file
pub written_whole : (bytes old : List ℕ) → length old ≤ length bytes → written 0 bytes old ≡ bytes
written_whole bytes old short = let none : drop (0 + length bytes) old ≡ [] = no_more old (0 + length bytes) (omega arith) in
    ap (λ (l : List ℕ). [] ++ bytes ++ l) none ∙ append_nil bytes
  where
    no_more : (l : List ℕ) (n : ℕ) → length l ≤ n → drop n l ≡ []
    no_more [] zero le = refl
    no_more [] (suc n) le = refl
    no_more (x ∷ l) zero le = absurd (omega arith)
    no_more (x ∷ l) (suc n) le = no_more l n (omega arith)

    append_nil : (l : List ℕ) → l ++ [] ≡ l
    append_nil [] = refl
    append_nil (x ∷ l) = ap (λ (k : List ℕ). x ∷ k) (append_nil l)

module _ {D : Type 0} (moments : Moments D Image) (seen : D → Image) (f : ℕ) (old mid : D) where
  abbrev before : List ℕ
  before = (seen old).file f

  abbrev after : List ℕ
  after = (seen mid).file f

  abbrev Torns : ℕ → ℕ → Type 0
  Torns at n = Leads moments old mid (AtFile f (Torn at n))

  abbrev Empties : Type 0
  Empties = Leads moments old mid (AtFile f (HasLog []))

  torn_empties : (at n : ℕ) → IsStill moments seen f old → ((c : List ℕ) → Torn at n before c → log_of c ≡ []) → ((c : List ℕ) → Torn at n before c → is_damaged before ≡ false → is_damaged c ≡ false) → Torns at n → Empties
  torn_empties at n still empty whole leads = weakened moments old mid (AtFile f (Torn at n)) (AtFile f (HasLog [])) leads (λ a c was step. record {
    here =
        let torn = subst (λ (l : List ℕ). Torn at n l (c.file f)) (still a was) step.here in
        record { bytes = empty (c.file f) torn; whole = λ undamaged. whole (c.file f) torn (ap is_damaged (sym (still a was)) ∙ undamaged) };
    others = step.others;
    told = step.told;
  })

  pub front_empties : IsStill moments seen f old → length before < 8192 → Torns 0 8191 → Empties
  front_empties still short = torn_empties 0 8191 still (λ c. front_torn before c short) (λ c torn _. short_whole c (omega (arith, torn.no_longer, short)))

  pub front_has : (bytes : List ℕ) → IsFront bytes → length before < 8192 → Holds 0 bytes before after → IsStill moments seen f mid → Has moments seen IsFront f mid
  front_has bytes front short holds durable = record { still = durable; is = subst IsFront (sym (holds ∙ written_whole bytes before (omega (arith, front.size, short)))) front }

  pub end_empties : Has moments seen IsFront f old → Torns 8191 1 → Empties
  end_empties has = torn_empties 8191 1 has.still (λ c. end_torn before c has.is) (λ c torn _. end_whole before c has.is torn)

  torn_by : (at n : ℕ) (bytes : List ℕ) → length bytes ≡ n → at ≤ length before → Holds at bytes before after → Torn at n before after
  torn_by at n bytes size within holds = subst (Torn at n before) (sym holds) (subst (λ (k : ℕ). Torn at k before (written at bytes before)) size (written_torn at bytes before within))

  gate_by : (at v : ℕ) → at ≤ length before → Holds at (v ∷ []) before after → gate_at at after ≡ v
  gate_by at v within holds = ap (λ (l : List ℕ). gate_at at l) holds ∙ ap (λ (l : List ℕ). slice_index l 0) (written_span at (v ∷ []) before 1 within refl)

  pub end_has : Has moments seen IsFront f old → Holds 8191 (0 ∷ []) before after → IsStill moments seen f mid → Has moments seen IsFormatted f mid
  end_has has holds durable =
      let within : 8191 ≤ length before = omega (arith, has.is.size) in
      let bytes : span 8191 1 after ≡ 0 ∷ [] = ap (λ (l : List ℕ). span 8191 1 l) holds ∙ written_span 8191 (0 ∷ []) before 1 within refl in
      let size : length (span 8191 1 after) ≡ 1 = ap length bytes in
      let long : 8192 ≤ length after = omega (arith, size, length-take 1 (drop 8191 after), length-drop 8191 after) in
      record { still = durable; is = end_formats before after has.is (torn_by 8191 1 (0 ∷ []) refl within holds) long }

  pub close_empties : (base : ℕ) → (base ≡ 0) ⊎ (base ≡ 4096) → Has moments seen HasNoGood f old → gate_at base before ≡ 1 → Torns base 1 → Empties
  close_empties base which has gate = torn_empties base 1 has.still (λ c torn. bad_log c (close_bad base before c which has.is gate torn)) (λ c _. was_damaged before c (bad_damaged before has.is))

  base_within : (base : ℕ) → (base ≡ 0) ⊎ (base ≡ 4096) → HasNoGood before → base ≤ length before
  base_within base (inl is) bad = omega (arith, is)
  base_within base (inr is) bad = omega (arith, is, bad.long)

  pub close_has : (base : ℕ) → (base ≡ 0) ⊎ (base ≡ 4096) → Has moments seen HasNoGood f old → gate_at base before ≡ 1 → Holds base (0 ∷ []) before after → IsStill moments seen f mid → Has moments seen HasNoGood f mid
  close_has base which has gate holds durable = record { still = durable; is = close_bad base before after which has.is gate (torn_by base 1 (0 ∷ []) refl (base_within base which has.is) holds) }

  pub close_shut : (base : ℕ) → (base ≡ 0) ⊎ (base ≡ 4096) → Has moments seen HasNoGood f old → Holds base (0 ∷ []) before after → gate_at base after ≢ 1
  close_shut base which has holds is_one =
      let now : gate_at base after ≡ 0 = gate_by base 0 (base_within base which has.is) holds in
      let zero_is : 0 ≡ 1 = sym now ∙ is_one in
      absurd (omega (arith, zero_is))

  pub close_others : (base : ℕ) → (base ≡ 0) ⊎ (base ≡ 4096) → Has moments seen HasNoGood f old → Holds base (0 ∷ []) before after → (o : ℕ) → (o + 1 ≤ base) ⊎ (base + 1 ≤ o) → gate_at o after ≡ gate_at o before
  close_others base which has holds o away = gate_kept base 1 o before after (torn_by base 1 (0 ∷ []) refl (base_within base which has.is) holds) away

  pub place_empties : Has moments seen IsShut f old → Torns 1 23 → Empties
  place_empties has = torn_empties 1 23 has.still (λ c torn. shut_log c (place_shut before c has.is torn)) (λ c _. was_damaged before c (shut_damaged before has.is))

  pub place_has : (fields : List ℕ) → length fields ≡ 23 → place_of fields ≡ first_place → Has moments seen IsShut f old → Holds 1 fields before after → IsStill moments seen f mid → Has moments seen IsPlaced f mid
  place_has fields size place has holds durable =
      let within : 1 ≤ length before = omega (arith, has.is.long) in
      record {
        still = durable;
        is = record {
          shut = place_shut before after has.is (torn_by 1 23 fields size within holds);
          place = ap (λ (l : List ℕ). place_at 0 l) holds ∙ ap place_of (written_span 1 fields before 23 within size) ∙ place;
        };
      }

  pub open_empties : Has moments seen IsPlaced f old → Torns 0 1 → Empties
  open_empties has = torn_empties 0 1 has.still (λ c. open_torn before c has.is) (λ c _. was_damaged before c (shut_damaged before has.is.shut))

  pub open_has : Has moments seen IsPlaced f old → Holds 0 (1 ∷ []) before after → IsStill moments seen f mid → Has moments seen IsFormatted f mid
  open_has has holds durable = record { still = durable; is = open_formats before after has.is (torn_by 0 1 (1 ∷ []) refl (omega arith) holds) (gate_by 0 1 (omega arith) holds) }

-- where nothing is written
pub idle_empties : {D : Type 0} (moments : Moments D Image) (seen : D → Image) (f : ℕ) (old : D) → Has moments seen HasNoGood f old → Leads moments old old (AtFile f (HasLog []))
idle_empties moments seen f old has = weakened moments old old (λ a b. b ≡ a) (AtFile f (HasLog [])) (stays moments old) (λ a c was same.
    subst (AtFile f (HasLog []) a) (sym same) (record { here = record { bytes = ap log_of (has.still a was) ∙ bad_log ((seen old).file f) has.is; whole = λ whole. whole }; others = λ k ne. refl; told = refl }))

-- one after the other
pub empties_twice : {D : Type 0} (moments : Moments D Image) (f : ℕ) (old mid new : D) → Leads moments old mid (AtFile f (HasLog [])) → Leads moments mid new (AtFile f (HasLog [])) → Leads moments old new (AtFile f (HasLog []))
empties_twice moments f old mid new first second = joined moments old mid new (AtFile f (HasLog [])) (AtFile f (HasLog [])) (AtFile f (HasLog [])) first second (λ a b was step. step)
    (λ a b c was step left next. record { here = record { bytes = next.here.bytes; whole = λ whole. next.here.whole (step.here.whole whole) }; others = λ k ne. next.others k ne ∙ step.others k ne; told = next.told ∙ step.told })

-- what is formatted is ready
pub formatted_ready : {D : Type 0} (moments : Moments D Image) (seen : D → Image) (log : LogState) (needs : Needs) (media : D) → log ≡ empty_state log.file log.limit needs → Has moments seen IsFormatted log.file media → IsReady moments seen log media
formatted_ready moments seen log needs media empty has = subst (λ (l : LogState). IsReady moments seen l media) (sym empty) (record {
  fine = first_fine;
  put = omega (arith, has.is.long);
  stands = λ c left. let is = subst IsFormatted (sym (has.still c left)) has.is in first_stands (c.file log.file) is.long is.gate is.place;
  other = λ c left. let is = subst IsFormatted (sym (has.still c left)) has.is in is.other;
})

pub empty_same : (log : LogState) (needs : Needs) (old new : List ℕ) → log ≡ empty_state log.file log.limit needs → SameLog log old new
empty_same log needs old new empty = subst (λ (l : LogState). SameLog l old new) (sym empty) (record { settled = refl; put = refl })

pub empty_settled : (log : LogState) (needs : Needs) (file : List ℕ) → log ≡ empty_state log.file log.limit needs → settled_bytes log file ≡ []
empty_settled log needs file empty = ap (λ (l : LogState). settled_bytes l file) empty

pub as_settled : {D : Type 0} (moments : Moments D Image) (f : ℕ) (old new : D) (settled : List ℕ) → settled ≡ [] → Leads moments old new (AtFile f (HasLog [])) → Leads moments old new (AtFile f (HasLog settled))
as_settled moments f old new settled is leads = subst (λ (l : List ℕ). Leads moments old new (AtFile f (HasLog l))) (sym is) leads
