-- HEADS ON TAPES while effects come: none is above an id.
use Rattle.std.proofs.Common.{◌≡◌, ℕ, zero, suc, ◌≤◌, Bool, true, false, Some, List, [], ◌∷◌, ◌++◌, take, refl, sym, ap, subst, ◌∙◌, arith}
use Rattle.std.specs.Prelude.{slice_get, ◌==◌, if◌then◌else◌}
use Rattle.tape_frames.specs.declared.frame.Frame.TheVariants as frames
use Rattle.tape_frames.specs.declared.dump_head.DumpHeadFields.{DumpHeadFields}
use Rattle.plant_core.specs.Records.{Record}
use Rattle.plant_core.specs.Crashes.{State}
use Rattle.plant_core.specs.Effects.{Effect, commits, replaces, tells, puts, settles, cuts, comes, come}
use Rattle.tape_text.specs.Items.{Item, Says}
use Rattle.tape_scan.specs.Slots.{Slot}
use Rattle.tape_answers.specs.Reading.{items_of}
use Rattle.tape_answers.specs.Slots.{slot_of, slots_from, slots_of}
use Rattle.budb_changes.specs.declared.change.Change.{Change}
use Rattle.budb_fold.specs.Database.{after}
use Rattle.dump_forms.specs.Journals.{IsJournalAfter}
use Rattle.dump_archives.specs.Keeping.{HeadsUpTo}
use Rattle.dump_archives.proofs.Fields.{OnlyAdds, CutsFirst}
use Rattle.dump_archives.proofs.Growing.{greatest_more}

-- ---- tapes

-- each head of the second stands in the first
abbrev pub HasNoOther : List Item → List Item → Type 0
HasNoOther old new = (n : ℕ) (h : DumpHeadFields) → slice_get new n ≡ Some (Says (frames.DumpHead h)) → (m : ℕ) × (slice_get old m ≡ Some (Says (frames.DumpHead h)))

more_items : (xs ys : List Record) (m : ℕ) (i : Item) → slice_get (items_of xs) m ≡ Some i → slice_get (items_of (xs ++ ys)) m ≡ Some i
more_items [] ys m i at = absurd (cc)
more_items (x ∷ xs) ys zero i at = at
more_items (x ∷ xs) ys (suc m) i at = more_items xs ys m i at

pub fewer_items : (count : ℕ) (xs : List Record) (m : ℕ) (i : Item) → slice_get (items_of (take count xs)) m ≡ Some i → slice_get (items_of xs) m ≡ Some i
fewer_items zero xs m i at = absurd (cc)
fewer_items (suc count) [] m i at = absurd (cc)
fewer_items (suc count) (x ∷ xs) zero i at = at
fewer_items (suc count) (x ∷ xs) (suc m) i at = fewer_items count xs m i at

put_more : (b : Bool) (xs : List Record) (r : Record) (m : ℕ) (i : Item) → slice_get (items_of xs) m ≡ Some i → slice_get (items_of (if b then xs ++ r ∷ [] else xs)) m ≡ Some i
put_more true xs r m i at = more_items xs (r ∷ []) m i at
put_more false xs r m i at = at

slot_in : (present : ℕ → Bool) (t : ℕ → List Record) (first n k : ℕ) (s : Slot) → slice_get (slots_from first n present t) k ≡ Some s
    → (j : ℕ) × (slot_of present t j ≡ s) × ((u : ℕ → List Record) → slice_get (slots_from first n present u) k ≡ Some (slot_of present u j))
slot_in present t first zero k s at = absurd (cc)
slot_in present t first (suc n) zero s at = (let is : Some (slot_of present t first) ≡ Some s = at in let same : slot_of present t first ≡ s = cc in (first, same, λ u. refl))
slot_in present t first (suc n) (suc k) s at = slot_in present t (suc first) n k s at

-- tapes with no other heads have none above the id
pub slots_up : (id n : ℕ) (present : ℕ → Bool) (old new : ℕ → List Record) → ((k : ℕ) → HasNoOther (items_of (old k)) (items_of (new k))) → HeadsUpTo id (slots_of n present old) → HeadsUpTo id (slots_of n present new)
unfolding slots_of
slots_up id n present old new fewer up k s m h at is =
    let j = slot_in present new 0 n k s at in
    let there : slice_get (items_of (new j.0)) m ≡ Some (Says (frames.DumpHead h)) = ap (λ (x : Slot). slice_get x.items m) j.1 ∙ is in
    let other = fewer j.0 m h there in
    up k (slot_of present old j.0) other.0 h (j.2 old) other.1

pub heads_raised : (id more : ℕ) (slots : List Slot) → id ≤ more → HeadsUpTo id slots → HeadsUpTo more slots
heads_raised id more slots le up k s n h at is = (let low = up k s n h at is in omega (arith, low, le))

-- ---- effects

module _ (id n : ℕ) (present : ℕ → Bool) where
  abbrev pub UpTo : State → Type 0
  UpTo s = HeadsUpTo id (slots_of n present s.tape)

  -- So it is before the first of these effects and after each, and none of them replaces the log.
  abbrev pub StaysUpTo : State → List Effect → Type 0
  StaysUpTo s [] = UpTo s
  StaysUpTo s (commits bytes ∷ es) = UpTo s × StaysUpTo (comes (commits bytes) s) es
  StaysUpTo s (replaces bytes ∷ es) = ⊥
  StaysUpTo s (tells text ∷ es) = UpTo s × StaysUpTo (comes (tells text) s) es
  StaysUpTo s (puts k r ∷ es) = UpTo s × StaysUpTo (comes (puts k r) s) es
  StaysUpTo s (settles k ∷ es) = UpTo s × StaysUpTo (comes (settles k) s) es
  StaysUpTo s (cuts k count ∷ es) = UpTo s × StaysUpTo (comes (cuts k count) s) es

  stays_first : (es : List Effect) (s : State) → StaysUpTo s es → UpTo s
  stays_first [] s stays = stays
  stays_first (commits bytes ∷ es) s (up, rest) = up
  stays_first (replaces bytes ∷ es) s stays = absurd stays
  stays_first (tells text ∷ es) s (up, rest) = up
  stays_first (puts k r ∷ es) s (up, rest) = up
  stays_first (settles k ∷ es) s (up, rest) = up
  stays_first (cuts k count ∷ es) s (up, rest) = up

  pub stays_then : (es fs : List Effect) (s : State) → StaysUpTo s es → StaysUpTo (come es s) fs → StaysUpTo s (es ++ fs)
  stays_then [] fs s first second = second
  stays_then (commits bytes ∷ es) fs s (up, rest) second = (up, stays_then es fs (comes (commits bytes) s) rest second)
  stays_then (replaces bytes ∷ es) fs s stays second = absurd stays
  stays_then (tells text ∷ es) fs s (up, rest) second = (up, stays_then es fs (comes (tells text) s) rest second)
  stays_then (puts k r ∷ es) fs s (up, rest) second = (up, stays_then es fs (comes (puts k r) s) rest second)
  stays_then (settles k ∷ es) fs s (up, rest) second = (up, stays_then es fs (comes (settles k) s) rest second)
  stays_then (cuts k count ∷ es) fs s (up, rest) second = (up, stays_then es fs (comes (cuts k count) s) rest second)

  -- what stands in front of a record that is put stands there behind it
  before_put : (k : ℕ) (r : Record) (s : State) → UpTo (comes (puts k r) s) → UpTo s
  before_put k r s up = slots_up id n present (comes (puts k r) s).tape s.tape (λ j m h at. (m, put_more (j == k) (s.tape j) r m (Says (frames.DumpHead h)) at)) up

  adds_up : (es : List Effect) (s : State) → OnlyAdds es → UpTo (come es s) → StaysUpTo s es
  adds_up [] s adds up = up
  adds_up (commits bytes ∷ es) s adds up = (let rest = adds_up es (comes (commits bytes) s) adds up in (stays_first es (comes (commits bytes) s) rest, rest))
  adds_up (replaces bytes ∷ es) s adds up = absurd adds
  adds_up (tells text ∷ es) s adds up = (let rest = adds_up es (comes (tells text) s) adds up in (stays_first es (comes (tells text) s) rest, rest))
  adds_up (puts k r ∷ es) s adds up = (let rest = adds_up es (comes (puts k r) s) adds up in (before_put k r s (stays_first es (comes (puts k r) s) rest), rest))
  adds_up (settles k ∷ es) s adds up = (let rest = adds_up es (comes (settles k) s) adds up in (stays_first es (comes (settles k) s) rest, rest))
  adds_up (cuts k count ∷ es) s adds up = absurd adds

  -- an event: no head is above the id before it and behind it, so none is on its way
  pub event_up : (es : List Effect) (s : State) → CutsFirst es → UpTo s → UpTo (come es s) → StaysUpTo s es
  event_up [] s cut before behind = before
  event_up (commits bytes ∷ es) s cut before behind = (before, adds_up es (comes (commits bytes) s) cut behind)
  event_up (replaces bytes ∷ es) s cut before behind = absurd cut
  event_up (tells text ∷ es) s cut before behind = (before, adds_up es (comes (tells text) s) cut behind)
  event_up (puts k r ∷ es) s cut before behind = (before, adds_up es (comes (puts k r) s) cut behind)
  event_up (settles k ∷ es) s cut before behind = (before, adds_up es (comes (settles k) s) cut behind)
  event_up (cuts k count ∷ es) s cut before behind = (before, adds_up es (comes (cuts k count) s) cut behind)

  -- behind so many of them, and behind their changes
  pub stays_known : (count : ℕ) (es : List Effect) (s : State) (log changes : List Change) → StaysUpTo s es → id ≤ (after log).greatest → IsJournalAfter log (take count es) changes
      → (id ≤ (after changes).greatest) × UpTo (come (take count es) s)
  stays_known zero es s log changes stays le journal = (subst (λ (l : List Change). id ≤ (after l).greatest) (sym journal) le, stays_first es s stays)
  stays_known (suc count) [] s log changes stays le journal = (subst (λ (l : List Change). id ≤ (after l).greatest) (sym journal) le, stays)
  stays_known (suc count) (commits bytes ∷ es) s log changes (up, rest) le (more, are, journal) =
      (let grown = greatest_more log more in stays_known count es (comes (commits bytes) s) (log ++ more) changes rest (omega (arith, le, grown)) journal)
  stays_known (suc count) (replaces bytes ∷ es) s log changes stays le journal = absurd stays
  stays_known (suc count) (tells text ∷ es) s log changes (up, rest) le journal = stays_known count es (comes (tells text) s) log changes rest le journal
  stays_known (suc count) (puts k r ∷ es) s log changes (up, rest) le journal = stays_known count es (comes (puts k r) s) log changes rest le journal
  stays_known (suc count) (settles k ∷ es) s log changes (up, rest) le journal = stays_known count es (comes (settles k) s) log changes rest le journal
  stays_known (suc count) (cuts k m ∷ es) s log changes (up, rest) le journal = stays_known count es (comes (cuts k m) s) log changes rest le journal
