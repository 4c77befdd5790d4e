-- From a plant over media to the media.
use Rattle.std.proofs.Common.{◌≡◌, inl, zero, suc, ℕ, ◌+◌, ◌-◌, ◌≤◌, Bool, true, IsTrue, List, [], ◌∷◌, ◌++◌, length, take, Some, None, refl, sym, ◌∙◌, ap, subst, arith}
use Rattle.std.proofs.lemmas.List.{take_all, append-nil}
use Rattle.crash_moments.specs.Moments.{Moments, Stepped, Leads, LeavesSince}
use Rattle.crash_moments.specs.Telling.{IsFront, Extends}
use Rattle.crash_moments.proofs.Fronts.{whole_front}
use Rattle.crash_moments.proofs.Joining.{joined, weakened, whole, mapped_leads, part_leaves}
use Rattle.media_core.specs.Media.{Image, Same}
use Rattle.media_core.specs.Still.{AreStill}
use Rattle.crash_log.specs.Log.{log_of, is_damaged}
use Rattle.plant_core.specs.Crashes.{State, LeftIn, IsSettled, Alike, seen_in}
use Rattle.plant_core.specs.Effects.{Effect, commits, replaces, tells, puts, settles, cuts, comes, come, told_by, Joint}
use Rattle.plant_core.specs.Stock.{Stock}
use Rattle.plant_effects.specs.Runs.{IsStartOf}
use Rattle.plant_effects.proofs.States.{told_is, grows_none, joint_none}
use Rattle.plant_media.specs.Stock.{stock_of, journal_of, log_shown, tape_of}
use Rattle.plant_media.specs.Slots.{slots_here, shown}
use Rattle.plant_media.specs.State.{media_of, moments_of, shown_of}
use Rattle.plant_media.specs.declared.plant.MediaPlant.{MediaPlant}
use Rattle.backup_script.specs.Running.{JointFrom}
use Rattle.backup_top.specs.Courses.{at_rest, SameFiles, SameStock}

-- ---- states

pub alike_same : (s t : State) → Alike s t → s ≡ t
alike_same s t alike = sym (λ i. record { log = alike.log i; tape = λ k. alike.tape k i; told = alike.told i; log_settled = alike.log_settled i; settled = λ k. alike.settled k i })

rest_settled : (s : State) → IsSettled s → at_rest s.log (seen_in s) ≡ s
rest_settled s settled = sym (λ i. record { log = s.log; tape = s.tape; told = s.told; log_settled = settled.log i; settled = λ k. settled.tapes k i })

some_same : (a b : List ℕ) → Some a ≡ Some b → a ≡ b
some_same a b same = cc

-- what a plant that was opened shows is at rest
pub opened_rests : (bytes : List ℕ) (stock : Stock) (s : State) → stock ≡ seen_in s → stock.log ≡ Some bytes → IsSettled s → at_rest bytes stock ≡ s
opened_rests bytes stock s shown is settled =
    let same : bytes ≡ s.log = some_same bytes s.log (sym is ∙ ap (λ (x : Stock). x.log) shown) in
    (λ i. at_rest (same i) (shown i)) ∙ rest_settled s settled

pub shown_log : (bytes : List ℕ) (stock : Stock) (s : State) → stock ≡ seen_in s → stock.log ≡ Some bytes → s.log ≡ bytes
shown_log bytes stock s shown is = sym (some_same bytes s.log (sym is ∙ ap (λ (x : Stock). x.log) shown))

-- effects settle the log
log_comes : (e : Effect) (s : State) → s.log_settled ≡ length s.log → (comes e s).log_settled ≡ length (comes e s).log
log_comes (commits bytes) s is = refl
log_comes (replaces bytes) s is = refl
log_comes (tells text) s is = is
log_comes (puts k r) s is = is
log_comes (settles k) s is = is
log_comes (cuts k n) s is = is

pub log_come : (es : List Effect) (s : State) → s.log_settled ≡ length s.log → (come es s).log_settled ≡ length (come es s).log
log_come [] s is = is
log_come (e ∷ es) s is = log_come es (comes e s) (log_comes e s is)

pub log_whole : (s : State) → s.log_settled ≡ length s.log → take s.log_settled s.log ≡ s.log
log_whole s is = ap (λ (n : ℕ). take n s.log) is ∙ take_all (length s.log) s.log (omega arith)

-- counts of files that leave as many slots, and files that are here by their slots
same_count : (m n : ℕ) → 1 ≤ m → 1 ≤ n → m - 1 ≡ n - 1 → m ≡ n
same_count m n some others same = omega (arith, some, others, same)

same_present : (here there : ℕ → Bool) → IsTrue (here 0) → IsTrue (there 0) → slots_here here ≡ slots_here there → (f : ℕ) → here f ≡ there f
unfolding slots_here
same_present here there first other same zero = first ∙ sym other
same_present here there first other same (suc k) =
    let next : suc k ≡ k + 1 = omega arith in
    ap here next ∙ ap (λ (p : ℕ → Bool). p k) same ∙ sym (ap there next)

pub same_files : {D : Type 0} (count : D → ℕ) (present : D → ℕ → Bool) (media first last back : D) → back ≡ last → ((s : D) → 1 ≤ count s) → ((s : D) → IsTrue (present s 0)) → count first ≡ count media → present first ≡ present media
    → count last - 1 ≡ count first - 1 → slots_here (present last) ≡ slots_here (present first) → SameFiles count present media back
same_files {D = D} count present media first last back is some here counted shown slots tapes = record {
  same_count = ap count is ∙ same_count (count last) (count first) (some last) (some first) slots ∙ counted;
  same_present = λ f. ap (λ (m : D). present m f) is ∙ same_present (present last) (present first) (here last) (here first) tapes f ∙ ap (λ (p : ℕ → Bool). p f) shown;
}

-- what a plant shows as told is what its media was told
pub shown_told : {D : Type 0} (seen : D → Image) (plant : MediaPlant D) (back : D) → back ≡ plant.media → (stock_of (seen back)).told ≡ (shown_of seen plant).told
unfolding shown
shown_told {D = D} seen plant back is = ap (λ (m : D). (seen m).told) is

-- what was told at the exit is a front of what was told at the entry and by these effects
pub told_to : (before after shown : List ℕ) (es : List Effect) (s : State) → before ≡ s.told → after ≡ shown → IsStartOf shown (come es s).told → IsFront after (before ++ told_by es)
told_to before after shown es s before_is after_is start = (length shown, after_is ∙ start ∙ ap (take (length shown)) (told_is es s ∙ ap (λ (l : List ℕ). l ++ told_by es) (sym before_is)))

-- and no less
pub least_to : (before after shown : List ℕ) (es : List Effect) (s : State) → before ≡ s.told → after ≡ shown → IsStartOf (come es s).told shown → IsFront (before ++ told_by es) after
least_to before after shown es s before_is after_is start =
    (length (come es s).told, ap (λ (l : List ℕ). l ++ told_by es) before_is ∙ sym (told_is es s) ∙ start ∙ ap (take (length (come es s).told)) (sym after_is))

pub untold_least : (before after : List ℕ) → after ≡ before → IsFront (before ++ []) after
untold_least before after same = whole_front (before ++ []) after (append-nil before ∙ sym same)

pub untold_to : (before after : List ℕ) → after ≡ before → IsFront after (before ++ [])
untold_to before after same = whole_front after (before ++ []) (same ∙ sym (append-nil before))

-- a damaged journal has no log
pub journal_damaged : (file : List ℕ) → is_damaged file ≡ true → journal_of file ≡ None
unfolding journal_of
journal_damaged file is = ap (λ (b : Bool). log_shown b (log_of file)) is

-- ---- images

module _ {D : Type 0} (time : Moments D Image) (seen : D → Image) (media : D) (bytes : List ℕ) where
  abbrev rest : State
  rest = at_rest bytes (stock_of (seen media))

  -- an image of files that wait for no sync is at rest
  pub still_left : AreStill time seen media → ((c : Image) → time.may_leave media c → IsFront c.told (seen media).told) → (stock_of (seen media)).log ≡ Some bytes → (c : Image) → time.may_leave media c → LeftIn rest (stock_of c)
  still_left still fronts is c left = record {
    log = ap journal_of (still 0 c left) ∙ is ∙ ap (λ (l : List ℕ). Some l) (sym (take_all (length bytes) bytes (omega arith)));
    tapes = λ k. record {
      count = length (tape_of ((seen media).file (k + 1)));
      low = omega arith;
      high = omega arith;
      is = inl (ap tape_of (still (k + 1) c left) ∙ sym (take_all (length (tape_of ((seen media).file (k + 1)))) (tape_of ((seen media).file (k + 1))) (omega arith)));
    };
    told = fronts c left;
  }

  module _ (back : D) (es : List Effect) (fits : (c : Image) → time.may_leave media c → LeftIn rest (stock_of c)) where
    -- nothing was done
    pub nothing_since : Leads time media back Same → LeavesSince time media back (λ a b. Joint rest es (stock_of a) (stock_of b))
    nothing_since leads = whole time media back (λ a b. Joint rest es (stock_of a) (stock_of b))
        (weakened time media back Same (λ a b. Joint rest es (stock_of a) (stock_of b)) leads
        (λ a b was same. joint_none rest es (stock_of a) (stock_of b) (subst (λ (x : Image). LeftIn rest (stock_of x)) (sym same) (fits a was)) (grows_none (stock_of a) (stock_of b) (ap (λ (x : Image). x.told) same))))
        (λ a was. joint_none rest es (stock_of a) (stock_of a) (fits a was) (grows_none (stock_of a) (stock_of a) refl))

    -- a plant was opened, and these effects were done in part or whole
    module _ (s : State) (plant end : MediaPlant D) (back_is : back ≡ end.media) (same_rest : rest ≡ s) (opening : Leads time media plant.media Same) (run : Leads (moments_of time) plant end (Joint s es)) where
      abbrev first : MediaPlant D
      first = record plant { media = media }

      all : Leads (moments_of time) first end (Joint rest es)
      all =
          let lead : Leads (moments_of time) first plant (λ a b. b ≡ a) = mapped_leads time media_of stock_of first plant Same (λ a b. b ≡ a) opening (λ a b was same. ap stock_of same) in
          joined (moments_of time) first plant end (λ a b. b ≡ a) (Joint rest es) (Joint rest es) lead (subst (λ (t : State). Leads (moments_of time) plant end (Joint t es)) (sym same_rest) run)
          (λ a b was same. joint_none rest es a b (subst (LeftIn rest) (sym (same ∙ was.is)) (fits was.from was.was)) (grows_none a b (ap (λ (x : Stock). x.told) same)))
          (λ a b c was same left next. record { count = next.count; within = next.within; left = next.left; grows = subst (λ (x : Stock). Extends x.told c.told) same next.grows })

      pub images_left : LeavesSince time media back (λ a b. Joint rest es (stock_of a) (stock_of b))
      images_left = subst (λ (m : D). LeavesSince time media m (λ a b. Joint rest es (stock_of a) (stock_of b))) (sym back_is)
          (part_leaves time media_of stock_of first end (Joint rest es) all (λ a was. joint_none rest es (stock_of a) (stock_of a) (fits a was) (grows_none (stock_of a) (stock_of a) refl)))

  -- what reads give at the end, where so many of these effects were done at least
  pub reads_past : (back : D) (es : List Effect) (low : ℕ) (s : State) (plant end : MediaPlant D) → back ≡ end.media → rest ≡ s → Leads time media plant.media Same → time.may_leave back (seen back)
      → ((c : Stock) → (moments_of time).may_leave end c → Stepped (moments_of time) plant (JointFrom low s es) c) → Stepped time media (λ a b. JointFrom low rest es (stock_of a) (stock_of b)) (seen back)
  reads_past back es low s plant end back_is same_rest opening reads past =
      let last = past (stock_of (seen back)) (record { from = seen back; was = subst (λ (m : D). time.may_leave m (seen back)) back_is reads; is = refl }) in
      let first = opening.now last.was.from last.was.was in
      let same : last.from ≡ stock_of first.from = last.was.is ∙ ap stock_of first.step in
      record {
        from = first.from;
        was = first.was;
        step = subst (λ (a : Stock). JointFrom low rest es a (stock_of (seen back))) same (subst (λ (t : State). JointFrom low t es last.from (stock_of (seen back))) (sym same_rest) last.step);
      }

  -- where it was only read
  pub nothing_same : (back : D) → Leads time media back Same → LeavesSince time media back SameStock
  nothing_same back leads = whole time media back SameStock (weakened time media back Same SameStock leads (λ a b was same. ap stock_of same)) (λ a was. refl)

  pub images_same : (back : D) (plant end : MediaPlant D) → back ≡ end.media → Leads time media plant.media Same → Leads (moments_of time) plant end (λ a b. b ≡ a) → LeavesSince time media back SameStock
  images_same back plant end back_is opening looks =
      let first : MediaPlant D = record plant { media = media } in
      let lead : Leads (moments_of time) first plant (λ a b. b ≡ a) = mapped_leads time media_of stock_of first plant Same (λ a b. b ≡ a) opening (λ a b was same. ap stock_of same) in
      let all : Leads (moments_of time) first end (λ a b. b ≡ a) = joined (moments_of time) first plant end (λ a b. b ≡ a) (λ a b. b ≡ a) (λ a b. b ≡ a) lead looks (λ a b was same. same) (λ a b c was same left next. next ∙ same) in
      subst (λ (m : D). LeavesSince time media m SameStock) (sym back_is) (part_leaves time media_of stock_of first end (λ a b. b ≡ a) all (λ a was. refl))

  pub same_later : (back : D) → Leads time media back Same → time.moment media ≤ time.moment back
  same_later back leads = leads.later

pub none_some : (bytes : List ℕ) → None ≡ Some bytes → ⊥
none_some bytes is = cc
