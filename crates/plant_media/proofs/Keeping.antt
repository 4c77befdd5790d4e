-- Calls on the media keep a plant sound, and one that survives a crash such a one.
use Rattle.std.proofs.Common.{◌≡◌, ◌≢◌, inl, inr, ℕ, ◌+◌, Bool, List, [], ◌∷◌, ◌++◌, length, take, Option, Some, None, IfSome, IsTrue, refl, sym, ◌∙◌, ap, subst, arith}
use Rattle.std.specs.Prelude.{if◌then◌else◌, ◌==◌}
use Rattle.std.proofs.lemmas.Bool.{cases_eq}
use Rattle.crash_moments.specs.Moments.{Moments}
use Rattle.media_core.specs.Media.{Image, AtFile}
use Rattle.crash_log.specs.Log.{Any}
use Rattle.crash_log.specs.Fit.{IsStill}
use Rattle.crash_log.specs.CrashLog.{damaged_of, log_bytes, settled_of}
use Rattle.crash_log.specs.declared.log.CrashLog.{CrashLog}
use Rattle.crash_log.proofs.Fitting.{fits_alone}
use Rattle.plant_core.specs.Crashes.{State, Alike}
use Rattle.plant_core.specs.Effects as effects
use Rattle.plant_core.specs.Effects.{Effect, puts, settles, cuts, comes, come, putting_away}
use Rattle.plant_core.specs.Records.{Record}
use Rattle.plant_media.specs.Stock.{tape_of, tape_shown}
use Rattle.plant_media.specs.Loaded.{tape_in, TapeSuits}
use Rattle.plant_media.specs.Slots.{slot_in, tape_at, shown, settled_in}
use Rattle.plant_media.specs.State.{JournalSuits}
use Rattle.plant_media.specs.Slotting.{if_same, if_other, at_loaded, at_other, settled_loaded, settled_other, which, some_is}
use Rattle.plant_media.specs.Taping.{LeavesNow}
use Rattle.plant_media.specs.declared.tape.Tape.{Tape}

-- the loaded tape is read the same where its file is
pub read_same : (tape : Tape) (a b : Image) → b.file (tape.slot + 1) ≡ a.file (tape.slot + 1) → tape_in tape b ≡ tape_in tape a
unfolding tape_in
read_same tape a b same = ap (λ (l : List ℕ). tape_shown (damaged_of tape.log) (log_bytes tape.log l)) same

module _ {D : Type 0} (tells : Type 0) (moments : Moments D Image) (seen : D → Image) (present : D → ℕ → Bool) (R : Image → Image → Type 0) (old new : D) (here : present new ≡ present old) (now : tells → LeavesNow moments old new R) where
  -- a file that the step leaves alone
  pub record Alone (f : ℕ) : Type 0 where
    pub images : (a b : Image) → R a b → b.file f ≡ a.file f
    pub reads : tells → (seen new).file f ≡ (seen old).file f

  pub still_alone : (f : ℕ) → Alone f → tells → IsStill moments seen f old → IsStill moments seen f new
  still_alone f alone told still c left =
      let step = now told c left in
      alone.images step.from c step.step ∙ still step.from step.was ∙ sym (alone.reads told)

  pub journal_alone : (log : CrashLog) → Alone 0 → JournalSuits tells moments seen present log old → JournalSuits tells moments seen present log new
  journal_alone log alone held = record {
    file = held.file;
    limit = held.limit;
    here = subst (λ (h : ℕ → Bool). IsTrue (h 0)) (sym here) held.here;
    whole = held.whole;
    fits = λ told. fits_alone moments seen log old (held.fits told) new R (now told)
        (λ a b step. ap (λ (f : ℕ). b.file f) held.file ∙ alone.images a b step ∙ ap (λ (f : ℕ). a.file f) (sym held.file))
        (ap (λ (f : ℕ). (seen new).file f) held.file ∙ alone.reads told ∙ ap (λ (f : ℕ). (seen old).file f) (sym held.file));
  }

  pub tape_alone : (tape : Tape) → Alone (tape.slot + 1) → TapeSuits tells moments seen present tape old → TapeSuits tells moments seen present tape new
  tape_alone tape alone held = record {
    file = held.file;
    limit = held.limit;
    here = subst (λ (h : ℕ → Bool). IsTrue (h (tape.slot + 1))) (sym here) held.here;
    within = held.within;
    room = held.room;
    fits = λ told. fits_alone moments seen tape.log old (held.fits told) new R (now told)
        (λ a b step. ap (λ (f : ℕ). b.file f) held.file ∙ alone.images a b step ∙ ap (λ (f : ℕ). a.file f) (sym held.file))
        (ap (λ (f : ℕ). (seen new).file f) held.file ∙ alone.reads told ∙ ap (λ (f : ℕ). (seen old).file f) (sym held.file));
    counted = λ told. held.counted told ∙ ap length (sym (read_same tape (seen old) (seen new) (alone.reads told)));
    settled = held.settled;
    damaged = held.damaged;
    still = λ told is. still_alone (tape.slot + 1) alone told (held.still told is);
  }

  pub loaded_alone : (tape : Option Tape) → ((k : ℕ) → Alone (k + 1)) → IfSome tape (λ t. TapeSuits tells moments seen present t old) → IfSome tape (λ t. TapeSuits tells moments seen present t new)
  loaded_alone None alone held = held
  loaded_alone (Some t) alone held = tape_alone t (alone t.slot) held

  pub others_alone : (tape : Option Tape) → ((k : ℕ) → slot_in tape ≢ Some k → Alone (k + 1)) → (tells → (k : ℕ) → slot_in tape ≢ Some k → IsStill moments seen (k + 1) old) → tells → (k : ℕ) → slot_in tape ≢ Some k → IsStill moments seen (k + 1) new
  others_alone tape alone still told k other = still_alone (k + 1) (alone k other) told (still told k other)

-- one file changes, and this isn't it
pub alone_at : {D : Type 0} (tells : Type 0) (moments : Moments D Image) (seen : D → Image) (present : D → ℕ → Bool) (g : ℕ) (R : List ℕ → List ℕ → Type 0) (old new : D) (here : present new ≡ present old) (now : tells → LeavesNow moments old new (AtFile g R))
    → (tells → AtFile g Any (seen old) (seen new)) → (f : ℕ) → f ≢ g → Alone tells moments seen present (AtFile g R) old new here now f
alone_at tells moments seen present g R old new here now frame f ne = record { images = λ a b step. step.others f ne; reads = λ told. (frame told).others f ne }

-- what is read after one file changed
module _ (journal : CrashLog) (tape : Option Tape) (old new : Image) where
  pub settled_same : ((k : ℕ) → new.file (k + 1) ≡ old.file (k + 1)) → settled_in tape new ≡ settled_in tape old
  settled_same same = λ i k. each k i
    where
      each : (k : ℕ) → settled_in tape new k ≡ settled_in tape old k
      each k = elim (which tape k) [
        | inl (t, is, slot) ↦
            ap (λ (o : Option Tape). settled_in o new k) is ∙ settled_loaded t new k (sym slot) ∙ sym (ap (λ (o : Option Tape). settled_in o old k) is ∙ settled_loaded t old k (sym slot))
        | inr other ↦ settled_other tape new k other ∙ ap (λ (l : List ℕ). length (tape_of l)) (same k) ∙ sym (settled_other tape old k other)
      ]

  pub tapes_same : ((k : ℕ) → new.file (k + 1) ≡ old.file (k + 1)) → (k : ℕ) → tape_at tape new k ≡ tape_at tape old k
  tapes_same same k = elim (which tape k) [
    | inl (t, is, slot) ↦
        ap (λ (o : Option Tape). tape_at o new k) is ∙ at_loaded t new k (sym slot)
        ∙ read_same t old new (same t.slot) ∙ sym (ap (λ (o : Option Tape). tape_at o old k) is ∙ at_loaded t old k (sym slot))
    | inr other ↦ at_other tape new k other ∙ ap tape_of (same k) ∙ sym (at_other tape old k other)
  ]

-- the log becomes this
pub log_alike : (journal now : CrashLog) (tape : Option Tape) (old new : Image) (bytes : List ℕ) (n : ℕ) → log_bytes now (new.file 0) ≡ bytes → settled_of now ≡ n → ((k : ℕ) → new.file (k + 1) ≡ old.file (k + 1)) → new.told ≡ old.told
    → Alike (record (shown journal tape old) { log = bytes; log_settled = n }) (shown now tape new)
unfolding shown
log_alike journal now tape old new bytes n log settled same told = record {
  log = log;
  tape = tapes_same journal tape old new same;
  told = told;
  log_settled = settled;
  settled = λ k. ap (λ (h : ℕ → ℕ). h k) (settled_same journal tape old new same);
}

-- a text is told
pub tell_alike : (journal : CrashLog) (tape : Option Tape) (old new : Image) (text : List ℕ) → new.file ≡ old.file → new.told ≡ old.told ++ text → Alike (comes (effects.tells text) (shown journal tape old)) (shown journal tape new)
unfolding shown
tell_alike journal tape old new text files told = record {
  log = ap (λ (h : ℕ → List ℕ). log_bytes journal (h 0)) files;
  tape = tapes_same journal tape old new (λ k. ap (λ (h : ℕ → List ℕ). h (k + 1)) files);
  told = told;
  log_settled = refl;
  settled = λ k. ap (λ (h : ℕ → ℕ). h k) (settled_same journal tape old new (λ i. ap (λ (h : ℕ → List ℕ). h (i + 1)) files));
}

-- the loaded tape becomes this
module _ (journal : CrashLog) (before : Option Tape) (t u : Tape) (is : before ≡ Some t) (slot : u.slot ≡ t.slot) (old new : Image) (frame : AtFile (t.slot + 1) Any old new) where
  abbrev after : Option Tape
  after = Some u

  away : (k : ℕ) → k ≢ t.slot → new.file (k + 1) ≡ old.file (k + 1)
  away k ne = frame.others (k + 1) (λ same. ne (omega (arith, same)))

  tape_other : (k : ℕ) → k ≢ t.slot → tape_at after new k ≡ tape_at before old k
  tape_other k ne =
      at_other after new k (λ same. ne (sym (some_is u.slot k same) ∙ slot)) ∙ ap tape_of (away k ne)
      ∙ sym (at_other before old k (λ same. ne (sym (some_is t.slot k (sym (ap slot_in is) ∙ same)))))

  settled_away : (k : ℕ) → k ≢ t.slot → settled_in after new k ≡ settled_in before old k
  settled_away k ne =
      settled_other after new k (λ same. ne (sym (some_is u.slot k same) ∙ slot)) ∙ ap (λ (l : List ℕ). length (tape_of l)) (away k ne)
      ∙ sym (settled_other before old k (λ same. ne (sym (some_is t.slot k (sym (ap slot_in is) ∙ same)))))

  tape_was : (k : ℕ) → k ≡ t.slot → tape_at before old k ≡ tape_in t old
  tape_was k same = ap (λ (o : Option Tape). tape_at o old k) is ∙ at_loaded t old k same

  settled_was : (k : ℕ) → k ≡ t.slot → settled_in before old k ≡ t.settled
  settled_was k same = ap (λ (o : Option Tape). settled_in o old k) is ∙ settled_loaded t old k same

  -- of the state that is meant, the loaded tape is given, and all else is as before
  module _ (k : ℕ) (at : k ≡ t.slot) (tape : ℕ → List Record) (settled : ℕ → ℕ) where
    pub tape_alike : tape k ≡ tape_in u new → settled k ≡ u.settled → ((j : ℕ) → j ≢ k → tape j ≡ tape_at before old j) → ((j : ℕ) → j ≢ k → settled j ≡ settled_in before old j)
        → Alike (record (shown journal before old) { tape = tape; settled = settled }) (shown journal after new)
    unfolding shown
    tape_alike here size others others_size = record {
      log = ap (λ (l : List ℕ). log_bytes journal l) (frame.others 0 (λ same. absurd (omega (arith, same))));
      tape = λ j. elim (cases_eq j k) [
        | inl same ↦ at_loaded u new j (same ∙ at ∙ sym slot) ∙ sym here ∙ ap tape (sym same)
        | inr ne ↦ tape_other j (λ eq. ne (eq ∙ sym at)) ∙ sym (others j ne)
      ];
      told = frame.told;
      log_settled = refl;
      settled = λ j. elim (cases_eq j k) [
        | inl same ↦ settled_loaded u new j (same ∙ at ∙ sym slot) ∙ sym size ∙ ap settled (sym same)
        | inr ne ↦ settled_away j (λ eq. ne (eq ∙ sym at)) ∙ sym (others_size j ne)
      ];
    }

  module _ (k : ℕ) (at : k ≡ t.slot) where
    pub put_alike : (r : Record) → tape_in u new ≡ tape_in t old ++ r ∷ [] → u.settled ≡ t.settled → Alike (comes (puts k r) (shown journal before old)) (shown journal after new)
    unfolding shown
    put_alike r more same = tape_alike k at (λ j. if j == k then tape_at before old j ++ r ∷ [] else tape_at before old j) (settled_in before old)
        (if_same k k (tape_at before old k ++ r ∷ []) (tape_at before old k) refl ∙ ap (λ (l : List Record). l ++ r ∷ []) (tape_was k at) ∙ sym more)
        (settled_was k at ∙ sym same)
        (λ j ne. if_other j k (tape_at before old j ++ r ∷ []) (tape_at before old j) ne)
        (λ j ne. refl)

    pub mark_alike : (r : Record) → tape_in u new ≡ tape_in t old ++ r ∷ [] → u.settled ≡ length (tape_in u new) → Alike (come (puts k r ∷ settles k ∷ []) (shown journal before old)) (shown journal after new)
    unfolding shown
    mark_alike r more all =
        let now : (if k == k then tape_at before old k ++ r ∷ [] else tape_at before old k) ≡ tape_in u new
        = if_same k k (tape_at before old k ++ r ∷ []) (tape_at before old k) refl ∙ ap (λ (l : List Record). l ++ r ∷ []) (tape_was k at) ∙ sym more in
        tape_alike k at (λ j. if j == k then tape_at before old j ++ r ∷ [] else tape_at before old j)
        (λ j. if j == k then length (if j == k then tape_at before old j ++ r ∷ [] else tape_at before old j) else settled_in before old j)
        now
        (if_same k k (length (if k == k then tape_at before old k ++ r ∷ [] else tape_at before old k)) (settled_in before old k) refl ∙ ap length now ∙ sym all)
        (λ j ne. if_other j k (tape_at before old j ++ r ∷ []) (tape_at before old j) ne)
        (λ j ne. if_other j k (length (if j == k then tape_at before old j ++ r ∷ [] else tape_at before old j)) (settled_in before old j) ne)

    pub cut_alike : (n : ℕ) → tape_in u new ≡ take n (tape_in t old) → u.settled ≡ length (tape_in u new) → Alike (comes (cuts k n) (shown journal before old)) (shown journal after new)
    unfolding shown
    cut_alike n kept all =
        let now : take n (tape_at before old k) ≡ tape_in u new = ap (take n) (tape_was k at) ∙ sym kept in
        tape_alike k at (λ j. if j == k then take n (tape_at before old j) else tape_at before old j) (λ j. if j == k then length (take n (tape_at before old j)) else settled_in before old j)
        (if_same k k (take n (tape_at before old k)) (tape_at before old k) refl ∙ now)
        (if_same k k (length (take n (tape_at before old k))) (settled_in before old k) refl ∙ ap length now ∙ sym all)
        (λ j ne. if_other j k (take n (tape_at before old j)) (tape_at before old j) ne)
        (λ j ne. if_other j k (length (take n (tape_at before old j))) (settled_in before old j) ne)

  -- it is read as before
  pub tape_stays : tape_in u new ≡ tape_in t old → (k : ℕ) → tape_at after new k ≡ tape_at before old k
  tape_stays same k = elim (cases_eq k t.slot) [
    | inl here ↦ at_loaded u new k (here ∙ sym slot) ∙ same ∙ sym (tape_was k here)
    | inr ne ↦ tape_other k ne
  ]

-- a load has settled all, and shows the same
pub load_alike : (loaded : Option ℕ) (slot : ℕ) (s t : State) → t.log ≡ s.log → ((k : ℕ) → t.tape k ≡ s.tape k) → t.told ≡ s.told → t.log_settled ≡ s.log_settled → ((k : ℕ) → t.settled k ≡ length (t.tape k))
    → ((k : ℕ) → loaded ≢ Some k → s.settled k ≡ length (s.tape k)) → loaded ≢ Some slot → Alike (come (putting_away loaded slot) s) t
load_alike None slot s t log tape told kept all others ne = record {
  log = log;
  tape = tape;
  told = told;
  log_settled = kept;
  settled = λ k. all k ∙ ap length (tape k) ∙ sym (others k (λ is. absurd (cc)));
}
load_alike (Some m) slot s t log tape told kept all others ne =
    let other : m ≢ slot = λ same. ne (ap (λ (n : ℕ). Some n) same) in
    subst (λ (es : List Effect). Alike (come es s) t) (sym (if_other m slot [] (settles m ∷ []) other)) (record {
      log = log;
      tape = tape;
      told = told;
      log_settled = kept;
      settled = λ k. all k ∙ ap length (tape k) ∙ sym (away k);
    })
  where
    away : (k : ℕ) → (if k == m then length (s.tape k) else s.settled k) ≡ length (s.tape k)
    away k = elim (cases_eq k m) [
      | inl same ↦ if_same k m (length (s.tape k)) (s.settled k) same
      | inr not ↦ if_other k m (length (s.tape k)) (s.settled k) not ∙ others k (λ is. not (sym (some_is m k is)))
    ]

-- a load of the loaded tape
pub again_alike : (loaded : Option ℕ) (slot : ℕ) (s : State) → loaded ≡ Some slot → Alike (come (putting_away loaded slot) s) s
again_alike loaded slot s is = subst (λ (es : List Effect). Alike (come es s) s) (sym (ap (λ (l : Option ℕ). putting_away l slot) is ∙ if_same slot slot [] (settles slot ∷ []) refl))
    (record { log = refl; tape = λ k. refl; told = refl; log_settled = refl; settled = λ k. refl })
