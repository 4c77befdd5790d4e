-- What the calls of a plant do, by those of the journal, of the loaded tape and of the media.
use Rattle.std.proofs.Common.{◌≡◌, ◌≢◌, inl, inr, ℕ, ◌+◌, ◌-◌, Bool, true, false, List, ◌++◌, length, Option, Some, IfSome, IsTrue, refl, sym, ◌∙◌, ap, subst, arith}
use Rattle.std.proofs.lemmas.List.{take_all}
use Rattle.std.proofs.Math.Nat.{le_refl}
use Rattle.std.proofs.lemmas.Bool.{cases_eq}
use Rattle.crash_moments.specs.Moments.{Moments, Leads}
use Rattle.crash_moments.proofs.Joining.{joined}
use Rattle.media_core.specs.Media as media
use Rattle.media_core.specs.Media.{Image, AtFile, Tells}
use Rattle.crash_log.specs.Log.{Any, HasLog, HasOneOf}
use Rattle.crash_log.specs.CrashLog.{file_of, settled_of, log_bytes, settled_log, state_of, FitsIts, IsNow}
use Rattle.crash_log.specs.Fit.{IsStill, Fits, as_read}
use Rattle.crash_log.proofs.Reading.{step_read}
use Rattle.crash_log.specs.declared.log.CrashLog.{CrashLog}
use Rattle.plant_core.specs.Crashes.{State, Alike}
use Rattle.plant_core.specs.Steps.{Same, OldOr, MaySettle}
use Rattle.plant_core.specs.Stock.{Stock}
use Rattle.plant_core.specs.Views.{OnlyFaults}
use Rattle.plant_media.specs.Stock.{tape_of, SameJournal, JournalOr}
use Rattle.plant_media.specs.Loaded.{tape_in, TapeSuits, TapeFits}
use Rattle.plant_media.specs.Slots.{slot_in, tape_at, shown, settled_in, slots_here}
use Rattle.plant_media.specs.State.{shown_of, moments_of, loaded_of, view_of, Suits, IsSound, SameBut}
use Rattle.plant_media.specs.Slotting.{shown_tape, shown_log, at_loaded, at_other, settled_loaded, settled_other, which, some_is, of_loaded}
use Rattle.plant_media.specs.Taping.{LeavesNow, at_file, tape_settled}
use Rattle.plant_media.specs.declared.tape.Tape.{Tape}
use Rattle.plant_media.specs.declared.plant.MediaPlant.{MediaPlant}
use Rattle.plant_media.proofs.Lifting.{journal_same, journal_or, lift_journal_same, lift_journal_or, not_zero, whole_is, slot_is}
use Rattle.plant_media.proofs.Keeping.{Alone, alone_at, still_alone, journal_alone, loaded_alone, others_alone, log_alike}

-- what is told of plants over media that were told the same
pub same_told : {D : Type 0} (seen : D → Image) (old new : MediaPlant D) → (seen new.media).told ≡ (seen old.media).told → (shown_of seen new).told ≡ (shown_of seen old).told
unfolding shown
same_told seen old new same = same

-- A call on the journal or a tape: of slots and counts only its own count may have changed, and it told nothing.
module _ {D : Type 0} (tells : Type 0) (seen : D → Image) (count : D → ℕ) (present : D → ℕ → Bool) (faults tell_faults : D → ℕ) (old : MediaPlant D) (media : D) where
  pub only_faults : (journal : CrashLog) (tape : Option Tape) → count media ≡ count old.media → present media ≡ present old.media → tell_faults media ≡ tell_faults old.media → (tells → (seen media).told ≡ (seen old.media).told)
      → OnlyFaults tells (view_of seen count present faults tell_faults old) (view_of seen count present faults tell_faults (record { media = media; journal = journal; tape = tape; loads = old.loads }))
  only_faults journal tape counted shown told untold = record {
    slots = ap (λ (n : ℕ). n - 1) counted;
    present = ap slots_here shown;
    loads = refl;
    tell_faults = told;
    output = λ is. same_told seen old (record { media = media; journal = journal; tape = tape; loads = old.loads }) (untold is);
  }

-- a file that is here, by its slot
pub file_here : (here : ℕ → Bool) (k : ℕ) → IsTrue (slots_here here k) → IsTrue (here (k + 1))
unfolding slots_here
file_here here k is = is

pub slot_here : (here : ℕ → Bool) (k f : ℕ) (b : Bool) → b ≡ here f → f ≡ k + 1 → b ≡ slots_here here k
unfolding slots_here
slot_here here k f b is same = is ∙ ap here same

pub none_here : (here : ℕ → Bool) (k : ℕ) → (IsTrue (here (k + 1)) → ⊥) → false ≡ slots_here here k
unfolding slots_here
none_here here k never = of (here (k + 1)) never
  where
    of : (b : Bool) → (IsTrue b → ⊥) → false ≡ b
    of true never = absurd (never refl)
    of false never = refl

-- twice
pub same_twice : (s t u : State) → SameBut s t → SameBut t u → SameBut s u
same_twice s t u first second = record { log = second.log ∙ first.log; tape = λ k. second.tape k ∙ first.tape k; told = second.told ∙ first.told; log_settled = second.log_settled ∙ first.log_settled }

-- the same tapes show the same
pub shown_same : (journal : CrashLog) (now before : Option Tape) (image : Image) → ((k : ℕ) → tape_at now image k ≡ tape_at before image k) → SameBut (shown journal before image) (shown journal now image)
unfolding shown
shown_same journal now before image each = record { log = refl; tape = each; told = refl; log_settled = refl }

-- a tape that was put away shows the same
pub put_away_same : (journal : CrashLog) (now before : Option Tape) (old new : Image) → new.file 0 ≡ old.file 0 → new.told ≡ old.told → ((k : ℕ) → tape_at now new k ≡ tape_at before old k) → SameBut (shown journal before old) (shown journal now new)
unfolding shown
put_away_same journal now before old new log told each = record { log = ap (log_bytes journal) log; tape = each; told = told; log_settled = refl }

-- the same media shows the same
pub read_alike : (journal : CrashLog) (tape : Option Tape) (old new : Image) → new ≡ old → Alike (shown journal tape old) (shown journal tape new)
read_alike journal tape old new same = subst (λ (i : Image). Alike (shown journal tape old) (shown journal tape i)) (sym same) (record { log = refl; tape = λ k. refl; told = refl; log_settled = refl; settled = λ k. refl })

module _ {D : Type 0} (tells : Type 0) (moments : Moments D Image) (seen : D → Image) (present : D → ℕ → Bool) (old : MediaPlant D) (suits : Suits tells moments seen present old) where
  pub held_tape : (t : Tape) → old.tape ≡ Some t → TapeSuits tells moments seen present t old.media
  held_tape t is = of_loaded (λ t. TapeSuits tells moments seen present t old.media) old.tape t is suits.loaded

  pub loaded_tape : (t : Tape) → old.tape ≡ Some t → (k : ℕ) → loaded_of old ≡ Some k → (shown_of seen old).tape k ≡ tape_in t (seen old.media)
  loaded_tape t is k at = whole_is seen old t is k (slot_is seen old t is k at)

  -- calls on the journal
  module _ (m : D) (j : CrashLog) where
    abbrev turned : MediaPlant D
    turned = record { media = m; journal = j; tape = old.tape; loads = old.loads }

    abbrev settled : List ℕ
    settled = settled_log old.journal ((seen old.media).file (file_of old.journal))

    pub put_crash : tells → Leads moments old.media m (AtFile (file_of old.journal) (HasLog settled)) → Leads (moments_of moments) old turned Same
    put_crash told leads = lift_journal_same moments old turned
        (at_file moments (file_of old.journal) 0 SameJournal old.media m suits.journal.file (journal_same moments seen old.journal old.media m (suits.journal.fits told) suits.journal.whole leads))

    pub turn_crash : tells → (bytes log : List ℕ) → bytes ≡ log → Leads moments old.media m (AtFile (file_of old.journal) (HasOneOf settled bytes)) → Leads (moments_of moments) old turned (OldOr log)
    turn_crash told bytes log is leads = lift_journal_or moments old turned log (subst (λ (l : List ℕ). Leads moments old.media m (AtFile 0 (JournalOr l))) is
        (at_file moments (file_of old.journal) 0 (JournalOr bytes) old.media m suits.journal.file (journal_or moments seen old.journal old.media m (suits.journal.fits told) suits.journal.whole bytes leads)))

    module _ (frame : tells → AtFile (file_of old.journal) Any (seen old.media) (seen m)) where
      frame_zero : tells → AtFile 0 Any (seen old.media) (seen m)
      frame_zero told = subst (λ (f : ℕ). AtFile f Any (seen old.media) (seen m)) suits.journal.file (frame told)

      files_same : tells → (k : ℕ) → (seen m).file (k + 1) ≡ (seen old.media).file (k + 1)
      files_same told k = (frame_zero told).others (k + 1) (not_zero k)

      pub journal_alike : tells → (bytes : List ℕ) (n : ℕ) → log_bytes j ((seen m).file (file_of old.journal)) ≡ bytes → settled_of j ≡ n → Alike (record (shown_of seen old) { log = bytes; log_settled = n }) (shown_of seen turned)
      journal_alike told bytes n is settled = log_alike old.journal j old.tape (seen old.media) (seen m) bytes n
          (subst (λ (f : ℕ). log_bytes j ((seen m).file f) ≡ bytes) suits.journal.file is) settled (files_same told) (frame_zero told).told

      module _ (here : present m ≡ present old.media) (R : List ℕ → List ℕ → Type 0) (now : tells → LeavesNow moments old.media m (AtFile (file_of old.journal) R)) where
        now_zero : tells → LeavesNow moments old.media m (AtFile 0 R)
        now_zero told = subst (λ (f : ℕ). LeavesNow moments old.media m (AtFile f R)) suits.journal.file (now told)

        away : (k : ℕ) → Alone tells moments seen present (AtFile 0 R) old.media m here now_zero (k + 1)
        away k = alone_at tells moments seen present 0 R old.media m here now_zero frame_zero (k + 1) (not_zero k)

        pub journal_suits : (n kept : ℕ) → IsNow old.journal n kept j → (tells → Fits moments seen (state_of j) m) → Suits tells moments seen present turned
        journal_suits n kept is fits = record {
          journal = record {
            file = is.file ∙ suits.journal.file;
            limit = is.limit ∙ suits.journal.limit;
            here = subst (λ (h : ℕ → Bool). IsTrue (h 0)) (sym here) suits.journal.here;
            whole = is.sound;
            fits = fits;
          };
          loaded = loaded_alone tells moments seen present (AtFile 0 R) old.media m here now_zero old.tape away suits.loaded;
          others = others_alone tells moments seen present (AtFile 0 R) old.media m here now_zero old.tape (λ k other. away k) suits.others;
        }

  -- the log as it is shown, by its file
  pub log_shown_is : log_bytes old.journal ((seen old.media).file (file_of old.journal)) ≡ (shown_of seen old).log
  log_shown_is = ap (λ (f : ℕ). log_bytes old.journal ((seen old.media).file f)) suits.journal.file ∙ sym (shown_log old.journal old.tape (seen old.media))

  -- calls on the loaded tape
  pub tape_suits : (m : D) (t u : Tape) → old.tape ≡ Some t → u.slot ≡ t.slot → (here : present m ≡ present old.media) (R : List ℕ → List ℕ → Type 0) (now : tells → LeavesNow moments old.media m (AtFile (t.slot + 1) R))
      → (tells → AtFile (t.slot + 1) Any (seen old.media) (seen m)) → TapeSuits tells moments seen present u m → Suits tells moments seen present (record { media = m; journal = old.journal; tape = Some u; loads = old.loads })
  tape_suits m t u is slot here R now frame held = record {
    journal = journal_alone tells moments seen present (AtFile (t.slot + 1) R) old.media m here now old.journal (away 0 (λ same. not_zero t.slot (sym same))) suits.journal;
    loaded = held;
    others = λ told k other.
        let ne : k + 1 ≢ t.slot + 1 = λ same. other (ap (λ (n : ℕ). Some n) (omega (arith, slot, same))) in
        still_alone tells moments seen present (AtFile (t.slot + 1) R) old.media m here now (k + 1) (away (k + 1) ne) told
        (suits.others told k (λ was. other (ap (λ (n : ℕ). Some n) slot ∙ sym (ap slot_in is) ∙ was)));
  }
    where
      away : (f : ℕ) → f ≢ t.slot + 1 → Alone tells moments seen present (AtFile (t.slot + 1) R) old.media m here now f
      away f ne = alone_at tells moments seen present (t.slot + 1) R old.media m here now frame f ne

  -- calls that only read
  module _ (m : D) (here : present m ≡ present old.media) (now : tells → LeavesNow moments old.media m media.Same) (same : tells → seen m ≡ seen old.media) where
    unchanged : (f : ℕ) → Alone tells moments seen present media.Same old.media m here now f
    unchanged f = record { images = λ a b is. ap (λ (i : Image). i.file f) is; reads = λ told. ap (λ (i : Image). i.file f) (same told) }

    pub read_suits : Suits tells moments seen present (record { media = m; journal = old.journal; tape = old.tape; loads = old.loads })
    read_suits = record {
      journal = journal_alone tells moments seen present media.Same old.media m here now old.journal (unchanged 0) suits.journal;
      loaded = loaded_alone tells moments seen present media.Same old.media m here now old.tape (λ k. unchanged (k + 1)) suits.loaded;
      others = others_alone tells moments seen present media.Same old.media m here now old.tape (λ k other. unchanged (k + 1)) suits.others;
    }

    -- another tape is taken up, once all of the loaded one is settled
    pub taken_suits : (t : Tape) (loads : ℕ) → IfSome old.tape (λ t. t.settled ≡ t.records) → TapeSuits tells moments seen present t m → Suits tells moments seen present (record { media = m; journal = old.journal; tape = Some t; loads = loads })
    taken_suits t loads all held = record {
      journal = read_suits.journal;
      loaded = held;
      others = λ told k other. still_alone tells moments seen present media.Same old.media m here now (k + 1) (unchanged (k + 1)) told (still told k);
    }
      where
        still : tells → (k : ℕ) → IsStill moments seen (k + 1) old.media
        still told k = elim (which old.tape k) [
          | inl (u, was, at) ↦ subst (λ (n : ℕ). IsStill moments seen (n + 1) old.media) at ((held_tape u was).still told (of_loaded (λ t. t.settled ≡ t.records) old.tape u was all))
          | inr not ↦ suits.others told k not
        ]

  -- calls on the output
  pub tell_suits : (m : D) (piece : List ℕ) → (here : present m ≡ present old.media) (now : tells → LeavesNow moments old.media m (Tells (seen old.media).told piece)) → (tells → (seen m).file ≡ (seen old.media).file) → (tells → (seen m).told ≡ (seen old.media).told ++ piece)
      → Suits tells moments seen present (record { media = m; journal = old.journal; tape = old.tape; loads = old.loads })
  tell_suits m piece here now files more = record {
    journal = journal_alone tells moments seen present (Tells (seen old.media).told piece) old.media m here now old.journal (all 0) suits.journal;
    loaded = loaded_alone tells moments seen present (Tells (seen old.media).told piece) old.media m here now old.tape (λ k. all (k + 1)) suits.loaded;
    others = others_alone tells moments seen present (Tells (seen old.media).told piece) old.media m here now old.tape (λ k other. all (k + 1)) suits.others;
  }
    where
      all : (f : ℕ) → Alone tells moments seen present (Tells (seen old.media).told piece) old.media m here now f
      all f = record { images = λ a b step. step.files f; reads = λ told. ap (λ (h : ℕ → List ℕ). h f) (files told) }

  -- what is shown then
  module _ (reads : tells → moments.may_leave old.media (seen old.media)) (t : Tape) (m : D) (slot : ℕ) (other : loaded_of old ≢ Some slot) (is : t.slot ≡ slot) (all : IfSome old.tape (λ t. t.settled ≡ t.records)) where
    taken_at : tells → tape_in t (seen old.media) ≡ tape_of ((seen old.media).file (slot + 1)) → (k : ℕ) → tape_at (Some t) (seen old.media) k ≡ tape_at old.tape (seen old.media) k
    taken_at told now k = elim (cases_eq k slot) [
      | inl same ↦
          at_loaded t (seen old.media) k (same ∙ sym is) ∙ now ∙ ap (λ (n : ℕ). tape_of ((seen old.media).file (n + 1))) (sym same)
          ∙ sym (at_other old.tape (seen old.media) k (λ eq. other (eq ∙ ap (λ (n : ℕ). Some n) same)))
      | inr ne ↦ at_other (Some t) (seen old.media) k (λ eq. ne (sym (some_is t.slot k eq) ∙ is)) ∙ (elim (which old.tape k) [
        | inl (u, was, at) ↦
            ap (λ (n : ℕ). tape_of ((seen old.media).file (n + 1))) (sym at)
            ∙ tape_settled tells moments seen present u old.media (held_tape u was) told (reads told) (of_loaded (λ t. t.settled ≡ t.records) old.tape u was all)
            ∙ sym (ap (λ (o : Option Tape). tape_at o (seen old.media) k) was ∙ at_loaded u (seen old.media) k (sym at))
        | inr not ↦ sym (at_other old.tape (seen old.media) k not)
      ])
    ]

    pub taken_state : (told : tells) → tape_in t (seen old.media) ≡ tape_of ((seen old.media).file (slot + 1)) → seen m ≡ seen old.media → SameBut (shown_of seen old) (shown old.journal (Some t) (seen m))
    taken_state told now same = subst (λ (i : Image). SameBut (shown_of seen old) (shown old.journal (Some t) i)) (sym same) (shown_same old.journal (Some t) old.tape (seen old.media) (taken_at told now))

  -- all of the tape that was taken up is settled
  pub taken_settled : (t : Tape) (m : D) → tells → TapeSuits tells moments seen present t m → t.settled ≡ t.records → (k : ℕ) → settled_in (Some t) (seen m) k ≡ length ((shown old.journal (Some t) (seen m)).tape k)
  taken_settled t m told held all k = elim (cases_eq k t.slot) [
    | inl same ↦
        settled_loaded t (seen m) k same ∙ all ∙ held.counted told
        ∙ sym (ap length (shown_tape old.journal (Some t) (seen m) k ∙ at_loaded t (seen m) k same))
    | inr ne ↦
        let other : slot_in (Some t) ≢ Some k = λ eq. ne (sym (some_is t.slot k eq)) in
        settled_other (Some t) (seen m) k other ∙ sym (ap length (shown_tape old.journal (Some t) (seen m) k ∙ at_other (Some t) (seen m) k other))
  ]

-- The same of what reads give: the calls keep a plant sound.
module _ {D : Type 0} (tells : Type 0) (seen : D → Image) (present : D → ℕ → Bool) (old : MediaPlant D) (sound : IsSound tells seen present old) (m : D) (here : present m ≡ present old.media) where
  pub journal_sound : (j : CrashLog) → (tells → AtFile (file_of old.journal) Any (seen old.media) (seen m)) → (n kept : ℕ) → IsNow old.journal n kept j → (tells → FitsIts seen j m)
      → IsSound tells seen present (record { media = m; journal = j; tape = old.tape; loads = old.loads })
  journal_sound j frame n kept is fits =
      journal_suits tells (as_read seen) seen present old sound m j frame here Any (λ told. step_read seen old.media m (AtFile (file_of old.journal) Any) (frame told)) n kept is fits

  pub tape_sound : (t u : Tape) → old.tape ≡ Some t → u.slot ≡ t.slot → (tells → AtFile (t.slot + 1) Any (seen old.media) (seen m)) → TapeFits tells seen present u m
      → IsSound tells seen present (record { media = m; journal = old.journal; tape = Some u; loads = old.loads })
  tape_sound t u is slot frame held =
      tape_suits tells (as_read seen) seen present old sound m t u is slot here Any (λ told. step_read seen old.media m (AtFile (t.slot + 1) Any) (frame told)) frame held

  pub read_sound : (tells → seen m ≡ seen old.media) → IsSound tells seen present (record { media = m; journal = old.journal; tape = old.tape; loads = old.loads })
  read_sound same = read_suits tells (as_read seen) seen present old sound m here (λ told. step_read seen old.media m media.Same (same told)) same

  pub taken_sound : (tells → seen m ≡ seen old.media) → (t : Tape) (loads : ℕ) → IfSome old.tape (λ t. t.settled ≡ t.records) → TapeFits tells seen present t m
      → IsSound tells seen present (record { media = m; journal = old.journal; tape = Some t; loads = loads })
  taken_sound same t loads all held = taken_suits tells (as_read seen) seen present old sound m here (λ told. step_read seen old.media m media.Same (same told)) same t loads all held

  pub tell_sound : (piece : List ℕ) → (tells → (seen m).file ≡ (seen old.media).file) → (tells → (seen m).told ≡ (seen old.media).told ++ piece)
      → IsSound tells seen present (record { media = m; journal = old.journal; tape = old.tape; loads = old.loads })
  tell_sound piece files more = tell_suits tells (as_read seen) seen present old sound m piece here (λ told. step_read seen old.media m (Tells (seen old.media).told piece) (record {
    files = λ k. ap (λ (h : ℕ → List ℕ). h k) (files told);
    told = inr (refl, (length piece, more told ∙ ap (λ (l : List ℕ). (seen old.media).told ++ l) (sym (take_all (length piece) piece (le_refl (length piece))))));
  })) files more

-- a step that settles, and one that changes nothing
pub settle_then : {D : Type 0} (moments : Moments (MediaPlant D) Stock) (loaded : Option ℕ) (slot : ℕ) (s : State) (old mid new : MediaPlant D) → Leads moments old mid (MaySettle loaded slot s) → Leads moments mid new Same → Leads moments old new (MaySettle loaded slot s)
settle_then moments loaded slot s old mid new first second = joined moments old mid new (MaySettle loaded slot s) Same (MaySettle loaded slot s) first second (λ a b was step. step)
    (λ a b c was step left same. subst (λ (i : Stock). MaySettle loaded slot s a i) (sym same) step)
