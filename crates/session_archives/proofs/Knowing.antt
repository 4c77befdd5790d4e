-- IDS ON TAPES STAY KNOWN where effects put no dump's head and the journal forgets no id.
use Rattle.std.proofs.Common.{◌≡◌, ◌⊎◌, inl, inr, ℕ, zero, suc, ◌≤◌, Bool, true, false, Some, List, [], ◌∷◌, ◌++◌, length, take, refl, sym, ap, subst, ◌∙◌, arith}
use Rattle.std.specs.Prelude.{slice_get, ◌==◌, if◌then◌else◌}
use Rattle.std.proofs.lemmas.List.{take_all}
use Rattle.tape_frames.specs.declared.frame.Frame.TheVariants as frames
use Rattle.tape_frames.specs.declared.dump_head.DumpHeadFields.{DumpHeadFields}
use Rattle.plant_core.specs.Records.{Record, bad}
use Rattle.plant_core.specs.Crashes.{State, IsTorn}
use Rattle.plant_core.specs.Effects.{Effect, commits, replaces, tells, puts, settles, cuts, comes, come}
use Rattle.tape_text.specs.Items.{Item, Says, Nothing}
use Rattle.tape_answers.specs.Reading.{item_of, items_of}
use Rattle.tape_answers.specs.Slots.{slots_of}
use Rattle.budb_changes.specs.declared.change.Change.{Change}
use Rattle.budb_changes.proofs.Logs.{same_changes}
use Rattle.budb_fold.specs.Database.{after}
use Rattle.dump_forms.specs.Journals.{AreBytesOf, IsJournalAfter}
use Rattle.dump_archives.specs.Keeping.{HeadsUpTo}
use Rattle.dump_archives.proofs.Growing.{greatest_more}
use Rattle.dump_archives.proofs.Heads.{HasNoOther, fewer_items, slots_up, heads_raised}

-- ---- tapes

abbrev pub IsNoHead : Item → Type 0
IsNoHead i = (h : DumpHeadFields) → i ≡ Says (frames.DumpHead h) → ⊥

in_front : (xs : List Record) (r : Record) (n : ℕ) (i : Item) → slice_get (items_of (xs ++ r ∷ [])) n ≡ Some i → (slice_get (items_of xs) n ≡ Some i) ⊎ (item_of r ≡ i)
in_front [] r zero i at = (let is : Some (item_of r) ≡ Some i = at in inr (cc))
in_front [] r (suc n) i at = absurd (cc)
in_front (x ∷ xs) r zero i at = inl at
in_front (x ∷ xs) r (suc n) i at = in_front xs r n i at

put_none : (b : Bool) (xs : List Record) (r : Record) → IsNoHead (item_of r) → HasNoOther (items_of xs) (items_of (if b then xs ++ r ∷ [] else xs))
put_none true xs r none n h at = elim (in_front xs r n (Says (frames.DumpHead h)) at) [
  | inl old ↦ (n, old)
  | inr new ↦ absurd (none h new)
]
put_none false xs r none n h at = (n, at)

cut_none : (b : Bool) (count : ℕ) (xs : List Record) → HasNoOther (items_of xs) (items_of (if b then take count xs else xs))
cut_none true count xs n h at = (n, fewer_items count xs n (Says (frames.DumpHead h)) at)
cut_none false count xs n h at = (n, at)

-- what a crash leaves of a tape has no other heads
pub torn_none : (settled : ℕ) (whole tape : List Record) → IsTorn settled whole tape → HasNoOther (items_of whole) (items_of tape)
torn_none settled whole tape torn n h at = elim torn.is [
  | inl same ↦ (n, fewer_items torn.count whole n (Says (frames.DumpHead h)) (ap (λ (l : List Record). slice_get (items_of l) n) (sym same) ∙ at))
  | inr cut ↦ elim (in_front (take torn.count whole) bad n (Says (frames.DumpHead h)) (ap (λ (l : List Record). slice_get (items_of l) n) (sym cut.1) ∙ at)) [
    | inl old ↦ (n, fewer_items torn.count whole n (Says (frames.DumpHead h)) old)
    | inr none ↦ absurd (let e : Nothing ≡ Says (frames.DumpHead h) = none in cc)
  ]
]

-- ---- effects

-- These effects lead from one journal to another that knows no fewer ids, and put no dump's head.
abbrev pub AddsNoHead : List Change → List Effect → List Change → Type 0
AddsNoHead log [] new = new ≡ log
AddsNoHead log (commits bytes ∷ es) new = (changes : List Change) × AreBytesOf changes bytes × AddsNoHead (log ++ changes) es new
AddsNoHead log (replaces bytes ∷ es) new = (changes : List Change) × AreBytesOf changes bytes × ((after log).greatest ≤ (after changes).greatest) × AddsNoHead changes es new
AddsNoHead log (tells text ∷ es) new = AddsNoHead log es new
AddsNoHead log (puts slot r ∷ es) new = IsNoHead (item_of r) × AddsNoHead log es new
AddsNoHead log (settles slot ∷ es) new = AddsNoHead log es new
AddsNoHead log (cuts slot count ∷ es) new = AddsNoHead log es new

pub adds_then : (es fs : List Effect) (log mid new : List Change) → AddsNoHead log es mid → AddsNoHead mid fs new → AddsNoHead log (es ++ fs) new
adds_then [] fs log mid new first second = subst (λ (l : List Change). AddsNoHead l fs new) first second
adds_then (commits bytes ∷ es) fs log mid new (changes, are, first) second = (changes, are, adds_then es fs (log ++ changes) mid new first second)
adds_then (replaces bytes ∷ es) fs log mid new (changes, are, more, first) second = (changes, are, more, adds_then es fs changes mid new first second)
adds_then (tells text ∷ es) fs log mid new first second = adds_then es fs log mid new first second
adds_then (puts k r ∷ es) fs log mid new (none, first) second = (none, adds_then es fs log mid new first second)
adds_then (settles k ∷ es) fs log mid new first second = adds_then es fs log mid new first second
adds_then (cuts k count ∷ es) fs log mid new first second = adds_then es fs log mid new first second

-- heads that stand on a tape behind them stood there
pub heads_were : (es : List Effect) (s : State) (log new : List Change) → AddsNoHead log es new → (k : ℕ) → HasNoOther (items_of (s.tape k)) (items_of ((come es s).tape k))
heads_were [] s log new adds k n h at = (n, at)
heads_were (commits bytes ∷ es) s log new (changes, are, rest) k n h at = heads_were es (comes (commits bytes) s) (log ++ changes) new rest k n h at
heads_were (replaces bytes ∷ es) s log new (changes, are, more, rest) k n h at = heads_were es (comes (replaces bytes) s) changes new rest k n h at
heads_were (tells text ∷ es) s log new rest k n h at = heads_were es (comes (tells text) s) log new rest k n h at
heads_were (puts j r ∷ es) s log new (none, rest) k n h at = (let was = heads_were es (comes (puts j r) s) log new rest k n h at in put_none (k == j) (s.tape k) r none was.0 h was.1)
heads_were (settles j ∷ es) s log new rest k n h at = heads_were es (comes (settles j) s) log new rest k n h at
heads_were (cuts j m ∷ es) s log new rest k n h at = (let was = heads_were es (comes (cuts j m) s) log new rest k n h at in cut_none (k == j) m (s.tape k) was.0 h was.1)

-- effects lead to one journal
pub journal_once : (es : List Effect) (log a b : List Change) → IsJournalAfter log es a → IsJournalAfter log es b → a ≡ b
journal_once [] log a b is also = is ∙ sym also
journal_once (commits bytes ∷ es) log a b (cs, are, is) (ds, too, also) =
    (let same : cs ≡ ds = same_changes cs ds are.form too.form (sym are.is ∙ too.is) in journal_once es (log ++ ds) a b (subst (λ (l : List Change). IsJournalAfter (log ++ l) es a) same is) also)
journal_once (replaces bytes ∷ es) log a b (cs, are, is) (ds, too, also) =
    (let same : cs ≡ ds = same_changes cs ds are.form too.form (sym are.is ∙ too.is) in journal_once es ds a b (subst (λ (l : List Change). IsJournalAfter l es a) same is) also)
journal_once (tells text ∷ es) log a b is also = journal_once es log a b is also
journal_once (puts k r ∷ es) log a b is also = journal_once es log a b is also
journal_once (settles k ∷ es) log a b is also = journal_once es log a b is also
journal_once (cuts k count ∷ es) log a b is also = journal_once es log a b is also

module _ (n : ℕ) (present : ℕ → Bool) where
  -- the ids on tapes are known to the journal
  abbrev pub Knows : List Change → State → Type 0
  Knows log s = HeadsUpTo (after log).greatest (slots_of n present s.tape)

  known_put : (k : ℕ) (r : Record) (s : State) (log : List Change) → IsNoHead (item_of r) → Knows log s → Knows log (comes (puts k r) s)
  known_put k r s log none known = slots_up (after log).greatest n present s.tape (comes (puts k r) s).tape (λ j. put_none (j == k) (s.tape j) r none) known

  known_cut : (k count : ℕ) (s : State) (log : List Change) → Knows log s → Knows log (comes (cuts k count) s)
  known_cut k count s log known = slots_up (after log).greatest n present s.tape (comes (cuts k count) s).tape (λ j. cut_none (j == k) count (s.tape j)) known

  known_after : (count : ℕ) (es : List Effect) (s : State) (log new : List Change) → AddsNoHead log es new → Knows log s → (changes : List Change) × IsJournalAfter log (take count es) changes × Knows changes (come (take count es) s)
  known_after zero es s log new adds known = (log, refl, known)
  known_after (suc count) [] s log new adds known = (log, refl, known)
  known_after (suc count) (commits bytes ∷ es) s log new (changes, are, rest) known =
      (let next = known_after count es (comes (commits bytes) s) (log ++ changes) new rest (heads_raised (after log).greatest (after (log ++ changes)).greatest (slots_of n present s.tape) (greatest_more log changes) known) in
      (next.0, (changes, are, next.1), next.2))
  known_after (suc count) (replaces bytes ∷ es) s log new (changes, are, more, rest) known =
      (let next = known_after count es (comes (replaces bytes) s) changes new rest (heads_raised (after log).greatest (after changes).greatest (slots_of n present s.tape) more known) in (next.0, (changes, are, next.1), next.2))
  known_after (suc count) (tells text ∷ es) s log new rest known = known_after count es (comes (tells text) s) log new rest known
  known_after (suc count) (puts k r ∷ es) s log new (none, rest) known = known_after count es (comes (puts k r) s) log new rest (known_put k r s log none known)
  known_after (suc count) (settles k ∷ es) s log new rest known = known_after count es (comes (settles k) s) log new rest known
  known_after (suc count) (cuts k m ∷ es) s log new rest known = known_after count es (comes (cuts k m) s) log new rest (known_cut k m s log known)

  -- behind so many of them, by the journal there
  pub known_at : (count : ℕ) (es : List Effect) (s : State) (log new changes : List Change) → AddsNoHead log es new → IsJournalAfter log (take count es) changes → Knows log s → Knows changes (come (take count es) s)
  known_at count es s log new changes adds journal known =
      let k = known_after count es s log new adds known in
      subst (λ (l : List Change). Knows l (come (take count es) s)) (journal_once (take count es) log k.0 changes k.1 journal) k.2

  -- behind as many as there are it is behind all
  pub known_whole : (es : List Effect) (s : State) (log new changes : List Change) → IsJournalAfter log (take (length es) es) changes → IsJournalAfter log es new → Knows changes (come (take (length es) es) s) → Knows new (come es s)
  known_whole es s log new changes journal whole known =
      let all : take (length es) es ≡ es = take_all (length es) es (omega arith) in
      let there : IsJournalAfter log es changes = subst (λ (l : List Effect). IsJournalAfter log l changes) all journal in
      subst (λ (l : List Change). Knows l (come es s)) (journal_once es log changes new there whole) (subst (λ (l : List Effect). Knows changes (come l s)) all known)

  pub known_behind : (es : List Effect) (s : State) (log new : List Change) → AddsNoHead log es new → IsJournalAfter log es new → Knows log s → Knows new (come es s)
  known_behind es s log new adds journal known = (let k = known_after (length es) es s log new adds known in known_whole es s log new k.0 k.1 journal k.2)
