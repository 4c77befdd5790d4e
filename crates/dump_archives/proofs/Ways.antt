-- An event that keeps an archive keeps, effect by effect, the archive of the tapes and of the changes so far.
use Rattle.std.proofs.Common.{◌≡◌, ℕ, Bool, Some, List, [], ◌∷◌, ◌++◌, map, sym, ap₂, subst, ◌∙◌, inl, inr}
use Rattle.std.specs.Prelude.{All, Contains, Result}
use Rattle.std.proofs.lemmas.List.Elements.{All-nil, All-cons, All-head, All-tail, All-append}
use Rattle.vnode_model.specs.declared.volumes.VolumeFields.{VolumeFields}
use Rattle.cell_core.specs.declared.stored.Taken.{Taken}
use Rattle.plant_core.specs.Records.{Record}
use Rattle.plant_core.specs.Crashes.{State}
use Rattle.plant_core.specs.Effects.{Effect, commits, replaces, tells, puts, settles, cuts, comes, come}
use Rattle.tape_scan.specs.Slots.{Slot}
use Rattle.tape_answers.specs.Slots.{slots_of}
use Rattle.budb.proofs.Keeping.{encoded_more}
use Rattle.budb_changes.specs.declared.records.DumpRecordFields.{DumpRecordFields}
use Rattle.budb_changes.specs.declared.change.Change.{Change}
use Rattle.budb_changes.specs.Bytes.{encoded}
use Rattle.budb_changes.specs.Forms.{IsChange, AreChanges}
use Rattle.budb_changes.proofs.Logs.{same_changes}
use Rattle.budb_fold.specs.Database.{after}
use Rattle.archive_model.specs.Archives.{Archive, Refusal, listed_of}
use Rattle.archive_model.specs.Settled.{HoldsSettled, Kept, AreHeld}
use Rattle.archive_model.specs.Turns.{is_here, StillHeld}
use Rattle.dump_job.specs.declared.fields.JobFields.{JobFields}
use Rattle.dump_forms.specs.Journals.{AreBytesOf, IsJournalAfter}
use Rattle.dump_laws.specs.Keeping.{IsBetween, IsOnTheWay, Keeps as KeepsDump}
use Rattle.dump_archives.proofs.Fields.{OnlyAdds, CutsFirst}
use Rattle.dump_archives.proofs.Keeping.{archive_at, HoldsAt, Keeps}
use Rattle.dump_archives.proofs.Slots.{ReadOnce, slots_again}

module _ (once : ReadOnce) (n : ℕ) (present : ℕ → Bool) (contents : ℕ → List ℕ → Result VolumeFields Refusal) (Is : DumpRecordFields → Type 0) (first : ℕ → List Record) (slots : List Slot) where
  -- An archive on the way: the slots that are here are the plant's, the contents are these, and each listed dump is held where it was on the
  -- slots in front of the way.
  pub record IsOn (x : Kept) : Type 0 where
    pub here : map is_here x.archive.slots ≡ map is_here (slots_of n present first)
    pub contents_are : x.archive.contents ≡ contents
    pub still : StillHeld (listed_of x.archive) slots x.archive.slots
    pub each : (d : DumpRecordFields) → Contains x.records d → Is d

  bytes_are : (bytes others : List ℕ) → Some bytes ≡ Some others → bytes ≡ others
  bytes_are bytes others same = cc

  its_log : (s : State) (log : List Change) (x : Kept) → s.log ≡ encoded log → AreChanges log → HoldsSettled s x.archive x.records → x.archive.log ≡ log
  its_log s log x is form held = same_changes x.archive.log log held.seen.changes form (sym (bytes_are s.log (encoded x.archive.log) held.seen.log) ∙ is)

  its_slots : (s : State) (x : Kept) → IsOn x → HoldsSettled s x.archive x.records → x.archive.slots ≡ slots_of n present s.tape
  its_slots s x on held = slots_again once present first s.tape n x.archive.slots on.here held.seen.tapes

  -- it is the archive of the tapes and of these changes
  held_at : (s : State) (log : List Change) (x : Kept) → s.log ≡ encoded log → AreChanges log → IsOn x → HoldsSettled s x.archive x.records → HoldsAt n present contents Is log s
  held_at s log x is form on held =
      let logs : x.archive.log ≡ log = its_log s log x is form held in
      let there : x.archive.slots ≡ slots_of n present s.tape = its_slots s x on held in
      let all : x.archive ≡ archive_at n present contents log s.tape = λ i. record { log = logs i; slots = there i; contents = on.contents_are i } in
      (x.records, subst (λ (a : Archive). HoldsSettled s a x.records) all held, on.each)

  abbrev pub AreOn : List Kept → Type 0
  AreOn ks = All IsOn ks

  on_first : (x : Kept) (ks : List Kept) → AreOn (x ∷ ks) → IsOn x
  on_first x ks on = All-head IsOn x ks on

  on_rest : (x : Kept) (ks : List Kept) → AreOn (x ∷ ks) → AreOn ks
  on_rest x ks on = All-tail IsOn x ks on

  joined_form : (log changes : List Change) → AreChanges log → AreChanges changes → AreChanges (log ++ changes)
  joined_form log changes form more = All-append IsChange log changes form more

  joined_bytes : (s : State) (log changes : List Change) (bytes : List ℕ) → s.log ≡ encoded log → AreBytesOf changes bytes → s.log ++ bytes ≡ encoded (log ++ changes)
  joined_bytes s log changes bytes is are = ap₂ (λ (a b : List ℕ). a ++ b) is are.is ∙ sym (encoded_more log changes)

  -- effects that cut nothing
  uncut : (es : List Effect) (s : State) (log new : List Change) (ks : List Kept) → OnlyAdds es → s.log ≡ encoded log → AreChanges log → IsJournalAfter log es new → AreHeld s es ks → AreOn ks → Keeps n present contents Is log s es new
  uncut [] s log new [] none is form journal held on = absurd held
  uncut [] s log new (x ∷ []) none is form journal held on = (held_at s log x is form (on_first x [] on) held, journal)
  uncut [] s log new (x ∷ y ∷ ks) none is form journal held on = absurd held
  uncut (commits bytes ∷ es) s log new [] none is form journal held on = absurd held
  uncut (commits bytes ∷ es) s log new (x ∷ ks) none is form (changes, are, journal) (held, rest) on =
      (held_at s log x is form (on_first x ks on) held, (changes, are, uncut es (comes (commits bytes) s) (log ++ changes) new ks none (joined_bytes s log changes bytes is are) (joined_form log changes form are.form) journal rest (on_rest x ks on)))
  uncut (replaces bytes ∷ es) s log new ks none is form journal held on = absurd none
  uncut (tells text ∷ es) s log new [] none is form journal held on = absurd held
  uncut (tells text ∷ es) s log new (x ∷ ks) none is form journal (held, rest) on = (held_at s log x is form (on_first x ks on) held, uncut es (comes (tells text) s) log new ks none is form journal rest (on_rest x ks on))
  uncut (puts k r ∷ es) s log new [] none is form journal held on = absurd held
  uncut (puts k r ∷ es) s log new (x ∷ ks) none is form journal (held, rest) on = (held_at s log x is form (on_first x ks on) held, uncut es (comes (puts k r) s) log new ks none is form journal rest (on_rest x ks on))
  uncut (settles k ∷ es) s log new [] none is form journal held on = absurd held
  uncut (settles k ∷ es) s log new (x ∷ ks) none is form journal (held, rest) on = (held_at s log x is form (on_first x ks on) held, uncut es (comes (settles k) s) log new ks none is form journal rest (on_rest x ks on))
  uncut (cuts k count ∷ es) s log new ks none is form journal held on = absurd none

  -- of archives that are held the first one is
  first_held : (es : List Effect) (s : State) (x : Kept) (ks : List Kept) → AreHeld s es (x ∷ ks) → HoldsSettled s x.archive x.records
  first_held [] s x [] held = held
  first_held [] s x (y ∷ ks) held = absurd held
  first_held (e ∷ es) s x ks held = held.0

  -- a cut, which is the first of these effects
  cut_then : (es : List Effect) (k count : ℕ) (s : State) (log new : List Change) (x : Kept) (ks : List Kept) → OnlyAdds es → s.log ≡ encoded log → AreChanges log → slots ≡ slots_of n present s.tape → IsJournalAfter log es new
      → HoldsSettled s x.archive x.records → AreHeld (comes (cuts k count) s) es ks → IsOn x → AreOn ks → Keeps n present contents Is log s (cuts k count ∷ es) new
  cut_then [] k count s log new x [] none is form there journal held rest on more = absurd rest
  cut_then (e ∷ es) k count s log new x [] none is form there journal held rest on more = absurd rest
  cut_then es k count s log new x (y ∷ ks) none is form there journal held rest on more =
      let t : State = comes (cuts k count) s in
      let next = first_held es t y ks rest in
      let mine : IsOn y = on_first y ks more in
      let logs : y.archive.log ≡ log = its_log t log y is form next in
      let still : StillHeld (listed_of y.archive) slots y.archive.slots = mine.still in
      let listed : StillHeld (after log).listed slots y.archive.slots = subst (λ (l : List Change). StillHeld (after l).listed slots y.archive.slots) logs still in
      let from : StillHeld (after log).listed (slots_of n present s.tape) y.archive.slots = subst (λ (l : List Slot). StillHeld (after log).listed l y.archive.slots) there listed in
      let to : StillHeld (after log).listed (slots_of n present s.tape) (slots_of n present t.tape) = subst (λ (l : List Slot). StillHeld (after log).listed (slots_of n present s.tape) l) (its_slots t y mine next) from in
      (held_at s log x is form on held, (to, uncut es t log new (y ∷ ks) none is form journal rest more))

  pub way : (es : List Effect) (s : State) (log new : List Change) (ks : List Kept) → CutsFirst es → s.log ≡ encoded log → AreChanges log → slots ≡ slots_of n present s.tape → IsJournalAfter log es new → AreHeld s es ks → AreOn ks → Keeps n present contents Is log s es new
  way [] s log new ks cut is form there journal held on = uncut [] s log new ks tt is form journal held on
  way (commits bytes ∷ es) s log new ks cut is form there journal held on = uncut (commits bytes ∷ es) s log new ks cut is form journal held on
  way (replaces bytes ∷ es) s log new ks cut is form there journal held on = absurd cut
  way (tells text ∷ es) s log new ks cut is form there journal held on = uncut (tells text ∷ es) s log new ks cut is form journal held on
  way (puts k r ∷ es) s log new ks cut is form there journal held on = uncut (puts k r ∷ es) s log new ks cut is form journal held on
  way (settles k ∷ es) s log new ks cut is form there journal held on = uncut (settles k ∷ es) s log new ks cut is form journal held on
  way (cuts k count ∷ es) s log new [] cut is form there journal held on = absurd held
  way (cuts k count ∷ es) s log new (x ∷ ks) cut is form there journal (held, rest) on = cut_then es k count s log new x ks cut is form there journal held rest (on_first x ks on) (on_rest x ks on)

  -- ---- an event that keeps an archive

  module _ (s : State) (a : Archive) (records : List DumpRecordFields) (contents2 : ℕ → List ℕ → Result VolumeFields Refusal) (clones : List Taken) (dumps : List DumpRecordFields) (effects : List Effect) (changes : List Change) (next : JobFields) (k : KeepsDump s a records contents2 clones dumps effects changes next)
      (mine : a.contents ≡ contents) (same : contents2 ≡ contents) (slots_are : a.slots ≡ slots) (old : (d : DumpRecordFields) → Contains records d → Is d) (join : (d : DumpRecordFields) → Contains dumps d → Is d) (here_are : map is_here a.slots ≡ map is_here (slots_of n present first)) where
    contents_between : (x : Archive) → IsBetween a k.last.archive.log k.last.archive.contents x → x.contents ≡ contents
    contents_between x (inl (log, inl old)) = old ∙ mine
    contents_between x (inl (log, inr last)) = last ∙ k.contents_are ∙ same
    contents_between x (inr (log, last)) = last ∙ k.contents_are ∙ same

    on_way : (x : Kept) → IsOnTheWay a k.last.archive records dumps x → IsOn x
    on_way x on = record {
      here = on.here ∙ here_are;
      contents_are = contents_between x.archive on.between;
      still = subst (λ (l : List Slot). StillHeld (listed_of x.archive) l x.archive.slots) slots_are on.still;
      each = λ d there. elim (on.dumps_are d there) [
        | inl was ↦ old d was
        | inr now ↦ join d now
      ];
    }

    all_on : (ks : List Kept) → All (IsOnTheWay a k.last.archive records dumps) ks → AreOn ks
    all_on [] on = All-nil IsOn
    all_on (x ∷ ks) on = All-cons IsOn x ks (on_way x (All-head (IsOnTheWay a k.last.archive records dumps) x ks on)) (all_on ks (All-tail (IsOnTheWay a k.last.archive records dumps) x ks on))

    last_on : IsOn k.last
    last_on = record {
      here = k.here ∙ here_are;
      contents_are = k.contents_are ∙ same;
      still = subst (λ (l : List Slot). StillHeld (listed_of k.last.archive) l k.last.archive.slots) slots_are k.still;
      each = λ d there. join d (k.dumps_are d there);
    }

    pub event_way : (log new : List Change) → CutsFirst effects → s.log ≡ encoded log → AreChanges log → slots ≡ slots_of n present s.tape → IsJournalAfter log effects new → Keeps n present contents Is log s effects new
    event_way log new cut is form there journal =
        way effects s log new (k.before ++ k.last ∷ []) cut is form there journal k.held (All-append IsOn k.before (k.last ∷ []) (all_on k.before k.each) (All-cons IsOn k.last [] last_on (All-nil IsOn)))

    -- the last of its archives is that of the tapes behind it
    pub last_slots : k.last.archive.slots ≡ slots_of n present (come effects s).tape
    last_slots = its_slots (come effects s) k.last last_on k.runs.held
