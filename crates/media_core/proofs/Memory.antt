-- What one event more makes of files in memory.
use Rattle.std.proofs.Common.{◌≡◌, ◌≢◌, inl, inr, ℕ, zero, suc, ◌<◌, ◌≤◌, min, ◌==◌, if◌then◌else◌, Bool, true, false, not, List, [], ◌∷◌, ◌++◌, length, take, slice_set, Vec, Err, replicate, refl, sym, ◌∙◌, ap, subst, arith}
use Rattle.std.specs.declared.alloc.Global.{Global}
use Rattle.std.proofs.lemmas.Bool.{cases_eq}
use Rattle.std.proofs.lemmas.Bool.Decides.{nat_tests}
use Rattle.crash_moments.specs.Moments.{Stepped, Leads, HasCause, history}
use Rattle.media_core.specs.declared.event.Event.{Event}
use Rattle.media_core.specs.declared.event.Event.TheVariants.{Opened, Write, Sync, Tell}
use Rattle.media_core.specs.declared.mem.MemMedia.{MemMedia}
use Rattle.media_core.specs.Media.{Image, Torn, AtFile, Tells, written}
use Rattle.media_core.specs.Events.{Contents, blank, happens, after, FileLeft, ToldLeft, IsLeft, Gains, TellsMore, seen_after, file_bytes, LeftAfter}
use Rattle.media_core.specs.Plan.{one_more}
use Rattle.media_core.specs.Presence.{is_here}
use Rattle.media_core.specs.Files.{events_of, seen_of}
use Rattle.media_core.proofs.DiskModel.{WriteLeaves, SyncLeaves, TellLeaves, write_left, sync_left, tell_left, opened_left, fresh_only, none_told, always_read}
use Rattle.crash_moments.proofs.Histories.{one_event}

abbrev Files : Type 0
Files = List (Vec ℕ Global)

pub after-push : (es : List Event) (e : Event) (s : Contents) → after (es ++ e ∷ []) s ≡ happens e (after es s)
after-push [] e s = refl
after-push (x ∷ es) e s = after-push es e (happens x s)

-- a failed call that is counted once
pub failed_once : {T E : Type 0} (e : E) (before mid now : ℕ) → before ≤ mid → mid ≤ now → now ≡ one_more before → HasCause {T = T} before now (Err e)
failed_once e before mid now first second once = record { later = omega arith; failed = omega (arith, once); stays = tt }

-- the files show the write
pub write_shows : (files files' : Files) (past past' : List Event) (f at : ℕ) (bytes : List ℕ)
    → ((k : ℕ) → file_bytes files k ≡ (seen_after past).file k) → at ≤ length (file_bytes files f)
    → ((k : ℕ) → file_bytes files' k ≡ (if k == f then written at bytes (file_bytes files k) else file_bytes files k))
    → Gains past past' f at bytes → (k : ℕ) → file_bytes files' k ≡ (seen_after past').file k
write_shows files files' past past' f at bytes shown within changed gains k =
    let e = Write f at gains.kept in
    let is : (seen_after past').file k ≡ (happens e (after past blank)).bytes k =
    ap (λ (es : List Event). (seen_after es).file k) gains.more ∙ ap (λ (s : Contents). s.bytes k) (after-push past e blank) in
    changed k ∙ same k (shown k) (gains.is) ∙ sym is
  where
    same : (k : ℕ) → file_bytes files k ≡ (after past blank).bytes k → gains.kept.items ≡ bytes
        → (if k == f then written at bytes (file_bytes files k) else file_bytes files k)
        ≡ (if k == f then written (min at (length ((after past blank).bytes k))) gains.kept.items ((after past blank).bytes k) else (after past blank).bytes k)
    same k shown_k bytes_are = elim (cases_eq k f) [
      | inl here ↦
          let at_is : min at (length ((after past blank).bytes k)) ≡ at = omega (arith, ap length shown_k, within, ap (λ (j : ℕ). length (file_bytes files j)) here) in
          (λ i. if k == f then written (sym at_is i) (sym bytes_are i) (shown_k i) else shown_k i)
      | inr other ↦
          let left : (if k == f then written at bytes (file_bytes files k) else file_bytes files k) ≡ file_bytes files k = grind (arith, nat_tests) in
          let right : (if k == f then written (min at (length ((after past blank).bytes k))) gains.kept.items ((after past blank).bytes k) else (after past blank).bytes k) ≡ (after past blank).bytes k = grind (arith, nat_tests) in
          left ∙ shown_k ∙ sym right
    ]

-- what a crash may leave after one event more
file_pushed : (past : List Event) (e : Event) (k : ℕ) (c : List ℕ) → LeftAfter (past ++ e ∷ []) k c → FileLeft (happens e (after past blank)) k c
file_pushed past e k c left = subst (λ (t : Contents). FileLeft t k c) (after-push past e blank) left

told_pushed : (past : List Event) (e : Event) (c : Image) → IsLeft (past ++ e ∷ []) c → ToldLeft (happens e (after past blank)) c.told
told_pushed past e c left = subst (λ (t : Contents). ToldLeft t c.told) (after-push past e blank) left.told

-- a crash may have torn it
pub write_leads : (old new : MemMedia) (f at : ℕ) (bytes : List ℕ) → at ≤ length ((seen_of old).file f) → Gains (events_of old) (events_of new) f at bytes
    → Leads (history events_of IsLeft) old new (AtFile f (Torn at (length bytes)))
write_leads old new f at bytes within gains = one_event events_of IsLeft old new (Write f at gains.kept) (AtFile f (Torn at (length bytes))) gains.more leaves
  where
    leaves : (c : Image) → IsLeft (events_of old ++ Write f at gains.kept ∷ []) c → Stepped (history events_of IsLeft) old (AtFile f (Torn at (length bytes))) c
    leaves c left =
        let s = after (events_of old) blank in
        let was : (k : ℕ) → WriteLeaves (min at (length (s.bytes k))) (length gains.kept.items) (k ≢ f) (FileLeft s k) (c.file k) = λ k.
        (write_left s f at gains.kept k ((always_read (events_of old)).files k) (c.file k)).1 (file_pushed (events_of old) (Write f at gains.kept) k (c.file k) (left.files k)) in
        let at_is : min at (length (s.bytes f)) ≡ at = omega arith in
        record {
          from = record { file = λ k. (was k).from; told = c.told };
          was = record { files = λ k. (was k).was; told = told_pushed (events_of old) (Write f at gains.kept) c left };
          step = record {
            here = subst (λ (a : ℕ). Torn a (length bytes) (was f).from (c.file f)) at_is
                (subst (λ (l : List ℕ). Torn (min at (length (s.bytes f))) (length l) (was f).from (c.file f)) gains.is ((was f).torn (λ ne. ne refl)));
            others = λ k ne. (was k).other ne;
            told = refl;
          };
        }

sync_was : (past : List Event) (f : ℕ) (k : ℕ) (c : List ℕ) → LeftAfter (past ++ Sync f ∷ []) k c → SyncLeaves ((after past blank).bytes k) (k ≢ f) (LeftAfter past k) c
sync_was past f k c left = (sync_left (after past blank) f k ((always_read past).files k) c).1 (file_pushed past (Sync f) k c left)

-- a sync is kept
pub sync_leads : (old new : MemMedia) (f : ℕ) → events_of new ≡ events_of old ++ Sync f ∷ [] → Leads (history events_of IsLeft) old new (λ a b. b ≡ a)
sync_leads old new f more = one_event events_of IsLeft old new (Sync f) (λ a b. b ≡ a) more (λ c left. record {
  from = c;
  was = record { files = λ k. (sync_was (events_of old) f k (c.file k) (left.files k)).was; told = told_pushed (events_of old) (Sync f) c left };
  step = refl;
})

abbrev the_seen : Contents → Image
the_seen s = record { file = s.bytes; told = s.told }

pub sync_shows : (past : List Event) (f : ℕ) → seen_after (past ++ Sync f ∷ []) ≡ seen_after past
sync_shows past f = ap the_seen (after-push past (Sync f) blank)

-- after it the file is what a read gives
pub sync_keeps : (past past' : List Event) (f : ℕ) → past' ≡ past ++ Sync f ∷ [] → (c : Image) → IsLeft past' c → c.file f ≡ (seen_after past').file f
sync_keeps past past' f more c left =
    (sync_was past f f (c.file f) (subst (λ (es : List Event). LeftAfter es f (c.file f)) more (left.files f))).synced (λ ne. ne refl)
    ∙ sym (ap (λ (es : List Event). (seen_after es).file f) more ∙ ap (λ (i : Image). i.file f) (sync_shows past f))

-- the files stay, and the output has the piece more
pub tell_shows : (past past' : List Event) (piece : List ℕ) → TellsMore past past' piece → seen_after past' ≡ record { file = (seen_after past).file; told = (seen_after past).told ++ piece }
tell_shows past past' piece more =
    ap seen_after more.more ∙ ap the_seen (after-push past (Tell more.kept) blank)
    ∙ (λ i. record { file = (seen_after past).file; told = (seen_after past).told ++ more.is i })

pub tell_leads : (old new : MemMedia) (piece : List ℕ) → TellsMore (events_of old) (events_of new) piece → Leads (history events_of IsLeft) old new (Tells (seen_of old).told piece)
tell_leads old new piece more = one_event events_of IsLeft old new (Tell more.kept) (Tells (seen_of old).told piece) more.more (λ c left.
    let s = after (events_of old) blank in
    let files : (k : ℕ) → FileLeft s k (c.file k) = λ k. file_pushed (events_of old) (Tell more.kept) k (c.file k) (left.files k) in
    let told : TellLeaves s.told more.kept.items (ToldLeft s) c.told = (tell_left s more.kept c.told).1 (told_pushed (events_of old) (Tell more.kept) c left) in
    elim told [
      | inl was ↦ record { from = c; was = record { files = files; told = was }; step = record { files = λ k. refl; told = inl refl } }
      | inr front ↦ record {
        from = record { file = c.file; told = s.told };
        was = record { files = files; told = (always_read (events_of old)).told };
        step = record { files = λ k. refl; told = inr (refl, (front.0, front.1 ∙ ap (λ (l : List ℕ). s.told ++ take front.0 l) more.is)) };
      }
    ])

pub write_told : (past past' : List Event) (f at : ℕ) (bytes : List ℕ) → Gains past past' f at bytes → (seen_after past').told ≡ (seen_after past).told
write_told past past' f at bytes gains = ap (λ (es : List Event). (seen_after es).told) gains.more ∙ ap (λ (s : Contents). s.told) (after-push past (Write f at gains.kept) blank)

pub tell_leads_as : (old new : MemMedia) (piece shown : List ℕ) → shown ≡ piece → TellsMore (events_of old) (events_of new) piece → Leads (history events_of IsLeft) old new (Tells (seen_of old).told shown)
tell_leads_as old new piece shown same more = subst (λ (l : List ℕ). Leads (history events_of IsLeft) old new (Tells (seen_of old).told l)) (sym same) (tell_leads old new piece more)

-- No image has bytes of a file that isn't one of the first n.
abbrev pub NoneFrom : ℕ → List Event → Type 0
NoneFrom n past = (k : ℕ) (c : List ℕ) → n ≤ k → LeftAfter past k c → c ≡ []

pub write_absent : (n : ℕ) (past past' : List Event) (f at : ℕ) (bytes : List ℕ) → f < n → NoneFrom n past → Gains past past' f at bytes → NoneFrom n past'
write_absent n past past' f at bytes below none gains k c from left =
    let s = after past blank in
    let now : LeftAfter (past ++ Write f at gains.kept ∷ []) k c = subst (λ (es : List Event). LeftAfter es k c) gains.more left in
    let was : WriteLeaves (min at (length (s.bytes k))) (length gains.kept.items) (k ≢ f) (FileLeft s k) c = (write_left s f at gains.kept k ((always_read past).files k) c).1 (file_pushed past (Write f at gains.kept) k c now) in
    was.other (λ same. let no : k < n = subst (λ (j : ℕ). j < n) (sym same) below in absurd (omega (arith, no, from))) ∙ none k was.from from was.was

pub sync_absent : (n : ℕ) (past past' : List Event) (f : ℕ) → NoneFrom n past → past' ≡ past ++ Sync f ∷ [] → NoneFrom n past'
sync_absent n past past' f none more k c from left = none k c from (sync_was past f k c (subst (λ (es : List Event). LeftAfter es k c) more left)).was

pub tell_absent : (n : ℕ) (past past' : List Event) (piece : List ℕ) → NoneFrom n past → TellsMore past past' piece → NoneFrom n past'
tell_absent n past past' piece none more k c from left = none k c from (file_pushed past (Tell more.kept) k c (subst (λ (es : List Event). LeftAfter es k c) more.more left))

pub opened_absent : (n : ℕ) (past past' : List Event) (files : Vec (Vec ℕ Global) Global) (told : Vec ℕ Global) → past ≡ [] → past' ≡ past ++ Opened files told ∷ [] → ((k : ℕ) → n ≤ k → file_bytes files.items k ≡ []) → NoneFrom n past'
opened_absent n past past' files told none more empty k c from left =
    let now : LeftAfter (Opened files told ∷ []) k c = subst (λ (es : List Event). LeftAfter es k c) (more ∙ ap (λ (es : List Event). es ++ Opened files told ∷ []) none) left in
    opened_left blank files told k c now ∙ empty k from

-- where nothing was asked, all of it is on the disk
pub new_still : (past : List Event) (c : Image) (k : ℕ) → past ≡ [] → IsLeft past c → c.file k ≡ (seen_after past).file k
new_still past c k none left =
    fresh_only [] (c.file k) (subst (λ (es : List Event). LeftAfter es k (c.file k)) none (left.files k)) ∙ sym (ap (λ (es : List Event). (seen_after es).file k) none)

pub new_told : (past : List Event) (c : Image) → past ≡ [] → IsLeft past c → c.told ≡ (seen_after past).told
new_told past c none left =
    none_told [] c.told (subst (λ (es : List Event). ToldLeft (after es blank) c.told) none left.told) ∙ sym (ap (λ (es : List Event). (seen_after es).told) none)

-- and so where files were opened
module _ (past past' : List Event) (files : Vec (Vec ℕ Global) Global) (told : Vec ℕ Global) (none : past ≡ []) (more : past' ≡ past ++ Opened files told ∷ []) where
  one : past' ≡ Opened files told ∷ []
  one = more ∙ ap (λ (es : List Event). es ++ Opened files told ∷ []) none

  pub opened_still : (c : Image) (k : ℕ) → IsLeft past' c → c.file k ≡ (seen_after past').file k
  opened_still c k left =
      opened_left blank files told k (c.file k) (subst (λ (es : List Event). LeftAfter es k (c.file k)) one (left.files k)) ∙ sym (ap (λ (es : List Event). (seen_after es).file k) one)

  pub opened_told : (c : Image) → IsLeft past' c → c.told ≡ (seen_after past').told
  opened_told c left =
      none_told told.items c.told (subst (λ (es : List Event). ToldLeft (after es blank) c.told) one left.told) ∙ sym (ap (λ (es : List Event). (seen_after es).told) one)

-- where none is away
pub all_here : (n k : ℕ) → k < n → is_here (replicate n false) k ≡ true
all_here zero k below = absurd (omega arith)
all_here (suc n) zero below = refl
all_here (suc n) (suc k) below = all_here n k (omega arith)

-- one file more or less is away
pub is_here-set_same : (aways : List Bool) (f : ℕ) (a : Bool) → f < length aways → is_here (slice_set aways f a) f ≡ not a
is_here-set_same [] f a below = absurd (omega arith)
is_here-set_same (b ∷ aways) zero a below = refl
is_here-set_same (b ∷ aways) (suc f) a below = is_here-set_same aways f a (omega arith)

pub is_here-set_other : (aways : List Bool) (f k : ℕ) (a : Bool) → k ≢ f → is_here (slice_set aways f a) k ≡ is_here aways k
is_here-set_other [] f k a other = refl
is_here-set_other (b ∷ aways) zero zero a other = absurd (other refl)
is_here-set_other (b ∷ aways) zero (suc k) a other = refl
is_here-set_other (b ∷ aways) (suc f) zero a other = refl
is_here-set_other (b ∷ aways) (suc f) (suc k) a other = is_here-set_other aways f k a (λ same. other (ap suc same))
