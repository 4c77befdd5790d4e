-- The end of a part and the commit behind it, joined of the two.
use Rattle.std.proofs.Common.{◌≡◌, ◌≢◌, ℕ, ◌<◌, Bool, true, false, List, [], ◌∷◌, ◌++◌, Option, Some, None, length, refl, sym, ◌∙◌, ap, subst, arith, append_assoc}
use Rattle.std.specs.Prelude.{◌==◌, if◌then◌else◌, nat_lt, Result, Ok, Err, IsTrue}
use Rattle.std.proofs.lemmas.Bool.{eqb-true, lt-ltb}
use Rattle.std.proofs.lemmas.List.{append-nil}
use Rattle.std.proofs.lemmas.List.Elements.{All-nil}
use Rattle.crash_moments.specs.Moments.{Rose}
use Rattle.plant_core.specs.declared.fault.Failed.{Failed}
use Rattle.plant_core.specs.declared.plant.Plant.{Ghosts as Plant}
use Rattle.plant_core.specs.Crashes.{State}
use Rattle.plant_core.specs.Records.{NoBad}
use Rattle.plant_core.specs.Effects.{Effect, commits, puts, settles, come, comes, putting_away}
use Rattle.plant_effects.specs.Runs.{state_of, loaded_of, Done, Leaves, SameNumbers, StaysQuiet}
use Rattle.plant_effects.proofs.Joining.{Fits, leaves_both, leaves_more, done_both, quiet_both, nothing_done, nothing_left, nothing_quiet, same_numbers, numbers_both}
use Rattle.plant_effects.proofs.States.{come_append}
use Rattle.tape_text.specs.Items.{Item, Says, Filemark, Nothing, record_for}
use Rattle.tape_writer.specs.Puts.{puts_on}
use Rattle.budb_changes.specs.declared.change.Change.{Change}
use Rattle.budb_changes.specs.Bytes.{encoded}
use Rattle.budb_changes.specs.Forms.{IsChange}
use Rattle.budb_fold.specs.declared.database.Database.{Database}
use Rattle.budb_fold.specs.Database.{after_from}
use Rattle.budb.specs.declared.fault.CommitFault.{CommitFault}
use Rattle.budb.specs.declared.fault.CommitFault.TheVariants as commit
use Rattle.budb.specs.Views.{BudbView}
use Rattle.budb.specs.Kept.{Keeps}
use Rattle.dump_job.specs.Reels.{turn_of, IsOn, Puts}
use Rattle.dump_job.specs.Closing.{committing, length_with, is_too_long, made_of, HasEnded, Commits, Closes, Makes}

-- ---- puts leave the log

pub puts_log : (k : ℕ) (items : List Item) (s : State) → (come (puts_on k items) s).log ≡ s.log
unfolding puts_on
puts_log k [] s = refl
puts_log k (Says f ∷ is) s = puts_log k is (comes (puts k (record_for (Says f))) s)
puts_log k (Filemark ∷ is) s = puts_log k is (comes (settles k) (comes (puts k (record_for Filemark)) s))
puts_log k (Nothing ∷ is) s = puts_log k is (comes (puts k (record_for Nothing)) s)

away_step : (here : Bool) (j : ℕ) (s : State) → (come (if here then [] else settles j ∷ []) s).log ≡ s.log
away_step true j s = refl
away_step false j s = refl

pub away_log : (loaded : Option ℕ) (slot : ℕ) (s : State) → (come (putting_away loaded slot) s).log ≡ s.log
away_log None slot s = refl
away_log (Some j) slot s = away_step (j == slot) j s

pub turn_log : (loaded : Option ℕ) (slot : ℕ) (items : List Item) (s : State) → (come (putting_away loaded slot ++ puts_on slot items) s).log ≡ s.log
turn_log loaded slot items s =
    let away = putting_away loaded slot in
    ap (λ (t : State). t.log) (come_append away (puts_on slot items) s) ∙ puts_log slot items (come away s) ∙ away_log loaded slot s

-- ---- changes that are some

pub committing_some : (cs : List Change) → cs ≢ [] → committing cs ≡ commits (encoded cs) ∷ []
committing_some [] some = absurd (some refl)
committing_some (c ∷ cs) some = refl

pub too_long_some : (size : ℕ) (cs : List Change) → cs ≢ [] → is_too_long size cs ≡ nat_lt 268435456 (length_with size cs)
too_long_some size [] some = absurd (some refl)
too_long_some size (c ∷ cs) some = refl

pub none_of : (cs : List Change) → (length cs == 0) ≡ true → cs ≡ []
none_of [] e = refl
none_of (c ∷ cs) e =
    let none : length (c ∷ cs) ≡ 0 = eqb-true (length (c ∷ cs)) 0 e in
    absurd (omega (arith, none))

pub none_long : length (encoded []) ≡ 0
unfolding encoded
none_long = refl

-- the same log is kept
pub keeps_with : (log : List Change) (old new : List ℕ) (budb : BudbView) → new ≡ old → Keeps log old budb → Keeps log new budb
keeps_with log old new budb same keeps = record { form = keeps.form; is = same ∙ keeps.is; fold = keeps.fold }

module _ {D : Type 0} (P : Plant D) where
  -- a commit for which there is no room
  pub commits_full : (changes : List Change) (n : ℕ) (old new : D) → changes ≢ [] → Fits P old → 268435456 < n → n ≡ length_with (P.view old).log_size changes
      → (268435456 < length_with (P.view old).log_size changes → new ≡ old) → StaysQuiet P old new → (P.view new).faults ≡ (P.view old).faults
      → Commits P changes (Err (commit.LogFull n)) old new
  commits_full changes n old new some fits over long same stays still =
      let size = (P.view old).log_size in
      let past : 268435456 < length_with size changes = subst (λ (m : ℕ). 268435456 < m) long over in
      let holds : is_too_long size changes ≡ true = too_long_some size changes some ∙ lt-ltb 268435456 (length_with size changes) past in
      let all : new ≡ old = same past in
      record {
        found = λ is. cc;
        never = λ is. cc;
        done = λ is. absurd (cc);
        full = λ m is. all;
        full_length = λ m is. (holds, (let e : m ≡ n = cc in e) ∙ long);
        too_long = λ held is. cc;
        leaves = subst (λ (d : D). Leaves P (committing (made_of size changes)) old d) (sym all) (nothing_left P (committing (made_of size changes)) old fits);
        log_size = λ is. absurd (cc);
        stays = stays;
        cause = record { later = stays.stays.faults; failed = λ is. absurd (cc); stays = λ never. still };
      }

  -- a commit leaves the tapes
  tape_under : (changes : List Change) (k : ℕ) (s : State) → (come (committing changes) s).tape k ≡ s.tape k
  tape_under [] k s = refl
  tape_under (c ∷ cs) k s = refl

  pub on_behind : (slot count : ℕ) (changes : List Change) (old new : D) → Done P (committing changes) old new → StaysQuiet P old new → IsOn P slot count old → IsOn P slot count new
  on_behind slot count changes old new done stays on =
      let same : P.tells → (state_of P new).tape slot ≡ (state_of P old).tape slot = λ tells. (done.state tells).tape slot ∙ tape_under changes slot (state_of P old) in
      record {
        sound = done.sound;
        here = subst (λ (present : ℕ → Bool). IsTrue (present slot)) (sym stays.stays.present) on.here;
        records = λ tells. ap length (same tells) ∙ on.records tells;
        whole = λ tells. subst NoBad (sym (same tells)) (on.whole tells);
      }

  -- the tape is there behind the commit as it was before it, be it that the commit was refused since the log would be too long
  pub on_committed : (slot count : ℕ) (changes : List Change) (result : Result Bool CommitFault) (old new : D) → Commits P changes result old new → IsOn P slot count old → HasEnded result
      → IsOn P slot count new
  on_committed slot count changes (Ok true) old new did on ended = on_behind slot count changes old new (did.done refl) did.stays on
  on_committed slot count changes (Ok false) old new did on ended = absurd ended
  on_committed slot count changes (Err (commit.LogFull n)) old new did on ended = subst (λ (d : D). IsOn P slot count d) (sym (did.full n refl)) on
  on_committed slot count changes (Err commit.Failed) old new did on ended = absurd ended
  on_committed slot count changes (Err commit.Memory) old new did on ended = absurd ended

  put_keeps : (slot : ℕ) (items : List Item) (log : List Change) (budb : BudbView) (old new : D) → P.tells → Done P (turn_of P slot (puts_on slot items) old) old new
      → Keeps log (state_of P old).log budb → Keeps log (state_of P new).log budb
  put_keeps slot items log budb old new tells done keeps =
      keeps_with log (state_of P old).log (state_of P new).log budb ((done.state tells).log ∙ turn_log (loaded_of P old) slot items (state_of P old)) keeps

  -- ---- the plant

  pub closes_then : (slot : ℕ) (items : List Item) (changes : List Change) (result : Result Bool CommitFault) (old mid new : D)
      → Puts P slot items (Ok true) old mid → Commits P changes result mid new → Closes P slot items changes result old new
  closes_then slot items changes result old mid new put rest =
      let away = putting_away (loaded_of P old) slot in
      let same : (P.view mid).faults ≡ (P.view old).faults = put.cause.stays in
      let size : (P.view mid).log_size ≡ (P.view old).log_size = put.log_size in
      let joined = append_assoc away (puts_on slot items) (committing changes) in
      let made = committing (made_of (P.view old).log_size changes) in
      let left = subst (λ (n : ℕ). Leaves P (committing (made_of n changes)) mid new) size rest.leaves in
      record {
        told = λ tells is. rest.found is;
        done = λ is. subst (λ (es : List Effect). Done P es old new) joined (done_both P (away ++ puts_on slot items) (committing changes) old mid new (put.done refl) (rest.done is));
        full = λ n is. subst (λ (d : D). Done P (away ++ puts_on slot items) old d) (sym (rest.full n is)) (put.done refl);
        full_length = λ n is. subst (λ (s : ℕ). IsTrue (is_too_long s changes) × (n ≡ length_with s changes)) size (rest.full_length n is);
        too_long = λ long. rest.too_long (subst (λ (s : ℕ). IsTrue (is_too_long s changes)) (sym size) long);
        lost = λ is. absurd (rest.found is);
        lost_size = λ is. absurd (rest.found is);
        memory = λ is. absurd (rest.never is);
        memory_leaves = λ is. absurd (rest.never is);
        memory_numbers = λ is. absurd (rest.never is);
        leaves = subst (λ (es : List Effect). Leaves P es old new) (append_assoc away (puts_on slot items) made) (leaves_both P (away ++ puts_on slot items) made old mid new (put.done refl) put.leaves left);
        log_size = λ is. rest.log_size is ∙ ap (λ (s : ℕ). length_with s changes) size;
        stays = quiet_both P old mid new put.stays rest.stays;
        cause = record {
          later = (quiet_both P old mid new put.stays rest.stays).stays.faults;
          failed = λ is. subst (λ (n : ℕ). Rose n (P.view new).faults) same (rest.cause.failed is);
          stays = λ never. rest.cause.stays never ∙ same;
        };
      }

  pub closes_lost : (slot : ℕ) (items : List Item) (changes : List Change) (old new : D) → Puts P slot items (Ok false) old new → Closes P slot items changes (Ok false) old new
  closes_lost slot items changes old new put =
      let away = putting_away (loaded_of P old) slot in
      let made = committing (made_of (P.view old).log_size changes) in
      record {
        told = λ tells is. put.told tells refl;
        done = λ is. absurd (cc);
        full = λ n is. absurd (cc);
        full_length = λ n is. absurd (cc);
        too_long = λ long is. absurd (cc);
        lost = λ is. put.lost refl;
        lost_size = λ is. put.log_size;
        memory = λ is. absurd (cc);
        memory_leaves = λ is. absurd (cc);
        memory_numbers = λ is. absurd (cc);
        leaves = subst (λ (es : List Effect). Leaves P es old new) (append_assoc away (puts_on slot items) made) (leaves_more P (away ++ puts_on slot items) made old new put.leaves);
        log_size = λ is. absurd (cc);
        stays = put.stays;
        cause = record { later = put.stays.stays.faults; failed = λ is. absurd (cc); stays = λ never. put.cause.stays };
      }

  pub closes_failed : (slot : ℕ) (items : List Item) (changes : List Change) (f : Failed) (old new : D) → Puts P slot items (Err f) old new → Closes P slot items changes (Err commit.Failed) old new
  closes_failed slot items changes f old new put =
      let away = putting_away (loaded_of P old) slot in
      let made = committing (made_of (P.view old).log_size changes) in
      record {
        told = λ tells is. absurd (cc);
        done = λ is. absurd (cc);
        full = λ n is. absurd (cc);
        full_length = λ n is. absurd (cc);
        too_long = λ long is. absurd (cc);
        lost = λ is. absurd (cc);
        lost_size = λ is. absurd (cc);
        memory = λ is. absurd (cc);
        memory_leaves = λ is. absurd (cc);
        memory_numbers = λ is. absurd (cc);
        leaves = subst (λ (es : List Effect). Leaves P es old new) (append_assoc away (puts_on slot items) made) (leaves_more P (away ++ puts_on slot items) made old new put.leaves);
        log_size = λ is. absurd (cc);
        stays = put.stays;
        cause = record { later = put.stays.stays.faults; failed = λ is. put.cause.failed; stays = λ never. absurd (never refl) };
      }

  -- memory was refused
  pub closes_memory : (slot : ℕ) (items : List Item) (changes : List Change) (s : D) → P.sound s → Fits P s → Closes P slot items changes (Err commit.Memory) s s
  closes_memory slot items changes s sound fits = record {
    told = λ tells is. absurd (cc);
    done = λ is. absurd (cc);
    full = λ n is. absurd (cc);
    full_length = λ n is. absurd (cc);
    too_long = λ long is. absurd (cc);
    lost = λ is. absurd (cc);
    lost_size = λ is. absurd (cc);
    memory = λ is. nothing_done P s sound;
    memory_leaves = λ is. nothing_left P [] s fits;
    memory_numbers = λ is. same_numbers P s;
    leaves = nothing_left P (turn_of P slot (puts_on slot items ++ committing (made_of (P.view s).log_size changes)) s) s fits;
    log_size = λ is. absurd (cc);
    stays = nothing_quiet P s;
    cause = record { later = (nothing_quiet P s).stays.faults; failed = λ is. absurd (cc); stays = λ never. refl };
  }

  -- nothing is committed
  pub closes_alone : (slot : ℕ) (items : List Item) (there : Bool) (old new : D) → Puts P slot items (Ok there) old new → Closes P slot items [] (Ok there) old new
  closes_alone slot items false old new put = closes_lost slot items [] old new put
  closes_alone slot items true old new put =
      let away = putting_away (loaded_of P old) slot in
      let joined : puts_on slot items ++ committing [] ≡ puts_on slot items = append-nil (puts_on slot items) in
      let size : (P.view new).log_size ≡ (P.view old).log_size = put.log_size in
      record {
        told = λ tells is. absurd (cc);
        done = λ is. subst (λ (es : List Effect). Done P (away ++ es) old new) (sym joined) (put.done refl);
        full = λ n is. absurd (cc);
        full_length = λ n is. absurd (cc);
        too_long = λ long is. absurd (cc);
        lost = λ is. absurd (cc);
        lost_size = λ is. absurd (cc);
        memory = λ is. absurd (cc);
        memory_leaves = λ is. absurd (cc);
        memory_numbers = λ is. absurd (cc);
        leaves = subst (λ (es : List Effect). Leaves P (away ++ es) old new) (sym joined) put.leaves;
        log_size = λ is. omega (arith, size, none_long);
        stays = put.stays;
        cause = record { later = put.stays.stays.faults; failed = λ is. absurd (cc); stays = λ never. put.cause.stays };
      }

  -- behind reads
  pub closes_behind : (slot : ℕ) (items : List Item) (changes : List Change) (result : Result Bool CommitFault) (old mid new : D)
      → Done P [] old mid → Leaves P [] old mid → SameNumbers P old mid → StaysQuiet P old mid → (P.view mid).faults ≡ (P.view old).faults
      → Closes P slot items changes result mid new → Closes P slot items changes result old new
  closes_behind slot items changes result old mid new done left numbers stays same rest =
      let size : (P.view mid).log_size ≡ (P.view old).log_size = numbers.log_size in
      let at : loaded_of P mid ≡ loaded_of P old = numbers.tape.loaded in
      let both = quiet_both P old mid new stays rest.stays in
      record {
        told = rest.told;
        done = λ is. subst (λ (l : Option ℕ). Done P (putting_away l slot ++ (puts_on slot items ++ committing changes)) old new) at (done_both P [] (turn_of P slot (puts_on slot items ++ committing changes) mid) old mid new done (rest.done is));
        full = λ n is. subst (λ (l : Option ℕ). Done P (putting_away l slot ++ puts_on slot items) old new) at (done_both P [] (turn_of P slot (puts_on slot items) mid) old mid new done (rest.full n is));
        full_length = λ n is. subst (λ (s : ℕ). IsTrue (is_too_long s changes) × (n ≡ length_with s changes)) size (rest.full_length n is);
        too_long = λ long. rest.too_long (subst (λ (s : ℕ). IsTrue (is_too_long s changes)) (sym size) long);
        lost = λ is. subst (λ (l : Option ℕ). Done P (putting_away l slot) old new) at (done_both P [] (putting_away (loaded_of P mid) slot) old mid new done (rest.lost is));
        lost_size = λ is. rest.lost_size is ∙ size;
        memory = λ is. done_both P [] [] old mid new done (rest.memory is);
        memory_leaves = λ is. leaves_both P [] [] old mid new done left (rest.memory_leaves is);
        memory_numbers = λ is. numbers_both P old mid new numbers (rest.memory_numbers is);
        leaves = subst (λ (n : ℕ). Leaves P (turn_of P slot (puts_on slot items ++ committing (made_of n changes)) old) old new) size
            (subst (λ (l : Option ℕ). Leaves P (putting_away l slot ++ (puts_on slot items ++ committing (made_of (P.view mid).log_size changes))) old new) at
            (leaves_both P [] (turn_of P slot (puts_on slot items ++ committing (made_of (P.view mid).log_size changes)) mid) old mid new done left rest.leaves));
        log_size = λ is. rest.log_size is ∙ ap (λ (s : ℕ). length_with s changes) size;
        stays = both;
        cause = record {
          later = both.stays.faults;
          failed = λ is. subst (λ (n : ℕ). Rose n (P.view new).faults) same (rest.cause.failed is);
          stays = λ never. rest.cause.stays never ∙ same;
        };
      }

  -- the plant failed before anything was put
  pub closes_cut_off : (slot : ℕ) (items : List Item) (changes : List Change) (old new : D) → Leaves P [] old new → StaysQuiet P old new
      → Rose (P.view old).faults (P.view new).faults → Closes P slot items changes (Err commit.Failed) old new
  closes_cut_off slot items changes old new left stays rose = record {
    told = λ tells is. absurd (cc);
    done = λ is. absurd (cc);
    full = λ n is. absurd (cc);
    full_length = λ n is. absurd (cc);
    too_long = λ long is. absurd (cc);
    lost = λ is. absurd (cc);
    lost_size = λ is. absurd (cc);
    memory = λ is. absurd (cc);
    memory_leaves = λ is. absurd (cc);
    memory_numbers = λ is. absurd (cc);
    leaves = leaves_more P [] (turn_of P slot (puts_on slot items ++ committing (made_of (P.view old).log_size changes)) old) old new left;
    log_size = λ is. absurd (cc);
    stays = stays;
    cause = record { later = stays.stays.faults; failed = λ is. rose; stays = λ never. absurd (never refl) };
  }

  -- ---- the database

  pub makes_behind : (changes : List Change) (result : Result Bool CommitFault) (budb after : BudbView) (old mid new : D) → Done P [] old mid
      → Makes P changes result budb after mid new → Makes P changes result budb after old new
  makes_behind changes result budb after old mid new done makes = record {
    form = makes.form;
    made = makes.made;
    same = makes.same;
    nothing = makes.nothing;
    memory = makes.memory;
    keeps = λ tells log keeps is. makes.keeps tells log (keeps_with log (state_of P old).log (state_of P mid).log budb (done.state tells).log keeps) is;
    full_keeps = λ tells log keeps n is. makes.full_keeps tells log (keeps_with log (state_of P old).log (state_of P mid).log budb (done.state tells).log keeps) n is;
  }

  pub makes_then : (slot : ℕ) (items : List Item) (changes : List Change) (result : Result Bool CommitFault) (budb after : BudbView) (old mid new : D)
      → Puts P slot items (Ok true) old mid → Makes P changes result budb after mid new → Makes P changes result budb after old new
  makes_then slot items changes result budb after old mid new put makes = record {
    form = makes.form;
    made = makes.made;
    same = makes.same;
    nothing = makes.nothing;
    memory = makes.memory;
    keeps = λ tells log keeps is. makes.keeps tells log (put_keeps slot items log budb old mid tells (put.done refl) keeps) is;
    full_keeps = λ tells log keeps n is. makes.full_keeps tells log (put_keeps slot items log budb old mid tells (put.done refl) keeps) n is;
  }

  pub makes_lost : (changes : List Change) (budb : BudbView) (old new : D) → budb.prepared ≡ None → Makes P changes (Ok false) budb budb old new
  makes_lost changes budb old new none = record {
    form = λ is. absurd (cc);
    made = λ is. absurd (cc);
    same = λ never. refl;
    nothing = none;
    memory = λ is. refl;
    keeps = λ tells log keeps is. absurd (cc);
    full_keeps = λ tells log keeps n is. absurd (cc);
  }

  pub makes_failed : (changes : List Change) (budb : BudbView) (old new : D) → budb.prepared ≡ None → Makes P changes (Err commit.Failed) budb budb old new
  makes_failed changes budb old new none = record {
    form = λ is. absurd (cc);
    made = λ is. absurd (cc);
    same = λ never. refl;
    nothing = none;
    memory = λ is. refl;
    keeps = λ tells log keeps is. absurd (cc);
    full_keeps = λ tells log keeps n is. absurd (cc);
  }

  pub makes_memory : (changes : List Change) (budb : BudbView) (old new : D) → budb.prepared ≡ None → Makes P changes (Err commit.Memory) budb budb old new
  makes_memory changes budb old new none = record {
    form = λ is. absurd (cc);
    made = λ is. absurd (cc);
    same = λ never. refl;
    nothing = none;
    memory = λ is. refl;
    keeps = λ tells log keeps is. absurd (cc);
    full_keeps = λ tells log keeps n is. absurd (cc);
  }

  -- nothing is committed
  pub makes_none : (slot : ℕ) (items : List Item) (result : Result Bool CommitFault) (budb : BudbView) (old new : D) → Closes P slot items [] result old new
      → budb.prepared ≡ None → Makes P [] result budb budb old new
  makes_none slot items result budb old new closes none =
      let joined : puts_on slot items ++ committing [] ≡ puts_on slot items = append-nil (puts_on slot items) in
      let away = putting_away (loaded_of P old) slot in
      record {
        form = λ is. All-nil IsChange;
        made = λ is. refl;
        same = λ never. refl;
        nothing = none;
        memory = λ is. refl;
        keeps = λ tells log keeps is. subst (λ (l : List Change). Keeps l (state_of P new).log budb) (sym (append-nil log))
            (put_keeps slot items log budb old new tells (subst (λ (es : List Effect). Done P (away ++ es) old new) joined (closes.done is)) keeps);
        full_keeps = λ tells log keeps n is. put_keeps slot items log budb old new tells (closes.full n is) keeps;
      }

  -- what was prepared is what is made
  pub makes_prepared : (changes : List Change) (result : Result Bool CommitFault) (budb ready after : BudbView) (old new : D) → ready.database ≡ budb.database
      → result ≢ Err commit.Memory → Makes P changes result ready after old new → Makes P changes result budb after old new
  makes_prepared changes result budb ready after old new same never makes = record {
    form = makes.form;
    made = λ is. subst (λ (db : Database). after.database ≡ after_from changes db) same (makes.made is);
    same = λ not. makes.same not ∙ same;
    nothing = makes.nothing;
    memory = λ is. absurd (never is);
    keeps = λ tells log keeps is. makes.keeps tells log (record { form = keeps.form; is = keeps.is; fold = same ∙ keeps.fold }) is;
    full_keeps = λ tells log keeps n is. makes.full_keeps tells log (record { form = keeps.form; is = keeps.is; fold = same ∙ keeps.fold }) n is;
  }
