-- No effect that keeps the archive takes a tape from a dump that is listed behind it.
use Rattle.std.proofs.Common.{◌≡◌, ℕ, zero, suc, ◌+◌, Bool, true, false, Option, Some, None, List, [], ◌∷◌, ◌++◌, take, refl, sym, ap, subst, ◌∙◌, arith}
use Rattle.std.specs.Prelude.{Result, slice_get, if◌then◌else◌, ◌==◌}
use Rattle.std.proofs.lemmas.Bool.{and_parts, and_from}
use Rattle.std.proofs.lemmas.List.{map-append}
use Rattle.vnode_model.specs.declared.volumes.VolumeFields.{VolumeFields}
use Rattle.plant_core.specs.Records.{Record}
use Rattle.plant_core.specs.Crashes.{State}
use Rattle.plant_core.specs.Effects.{Effect, commits, replaces, tells, puts, settles, cuts, comes, come}
use Rattle.tape_frames.specs.declared.frame.Frame.{Frame}
use Rattle.tape_text.specs.Items.{Item}
use Rattle.tape_scan.specs.Slots.{Slot}
use Rattle.tape_answers.specs.Reading.{item_of, items_of}
use Rattle.tape_answers.specs.Slots.{slot_of, slots_from, slots_of}
use Rattle.budb_changes.specs.declared.records.TapePart.{TapePart}
use Rattle.budb_changes.specs.declared.records.DumpRecordFields.{DumpRecordFields}
use Rattle.budb_changes.specs.declared.change.Change.{Change}
use Rattle.budb_fold.specs.Database.{after}
use Rattle.archive_model.specs.Holding.{is_label_frame, is_head_frame, is_so, holds_at, holds, place_of}
use Rattle.archive_model.specs.Archives.{Refusal}
use Rattle.archive_model.specs.Turns.{StillHeld}
use Rattle.dump_forms.specs.Journals.{IsJournalAfter}
use Rattle.session_archives.proofs.Keeping.{Keeps}

-- ---- what is held stays held behind a put

so_more : (test : Frame → Bool) (items more : List Item) (n : ℕ) → is_so test (slice_get items n) ≡ true → is_so test (slice_get (items ++ more) n) ≡ true
so_more test [] more n so = (let none : false ≡ true = so in absurd (cc))
so_more test (i ∷ items) more zero so = so
so_more test (i ∷ items) more (suc n) so = so_more test items more n so

held_more_at : (o : Option TapePart) (d : DumpRecordFields) (tape : ℕ) (items more : List Item) → holds_at o d tape items ≡ true → holds_at o d tape (items ++ more) ≡ true
held_more_at None d tape items more held = held
held_more_at (Some p) d tape items more held =
    let parts = and_parts (is_so (is_label_frame d.initial tape) (slice_get items 0)) (is_so (is_head_frame d.id tape) (slice_get items p.first)) held in
    and_from _ _ (so_more (is_label_frame d.initial tape) items more 0 parts.0) (so_more (is_head_frame d.id tape) items more p.first parts.1)

held_more : (d : DumpRecordFields) (tape : ℕ) (rs more : List Record) → holds d tape (items_of rs) ≡ true → holds d tape (items_of (rs ++ more)) ≡ true
held_more d tape rs more held = subst (λ (l : List Item). holds d tape l ≡ true) (sym (map-append item_of rs more)) (held_more_at (place_of d tape) d tape (items_of rs) (items_of more) held)

module _ (present : ℕ → Bool) (old new : ℕ → List Record) where
  -- the slot of one number in both
  both_from : (first n j : ℕ) (t : Slot) → slice_get (slots_from first n present old) j ≡ Some t → (t ≡ slot_of present old (first + j)) × (slice_get (slots_from first n present new) j ≡ Some (slot_of present new (first + j)))
  both_from first zero j t at = absurd (cc)
  both_from first (suc n) zero t at =
      let place : first ≡ first + 0 = omega arith in
      let same : t ≡ slot_of present old first = cc in
      (same ∙ ap (slot_of present old) place, ap (λ (k : ℕ). Some (slot_of present new k)) place)
  both_from first (suc n) (suc j) t at =
      let place : suc first + j ≡ first + suc j = omega arith in
      let rest = both_from (suc first) n j t at in
      (rest.0 ∙ ap (slot_of present old) place, rest.1 ∙ ap (λ (k : ℕ). Some (slot_of present new k)) place)

  both_at : (n j : ℕ) (t : Slot) → slice_get (slots_of n present old) j ≡ Some t → (t ≡ slot_of present old j) × (slice_get (slots_of n present new) j ≡ Some (slot_of present new j))
  unfolding slots_of
  both_at n j t at =
      let place : 0 + j ≡ j = omega arith in
      let both = both_from 0 n j t at in
      (both.0 ∙ ap (slot_of present old) place, both.1 ∙ ap (λ (k : ℕ). Some (slot_of present new k)) place)

-- a tape, or one with a record more
put_more : (d : DumpRecordFields) (tape : ℕ) (b : Bool) (rs : List Record) (r : Record) → holds d tape (items_of rs) ≡ true → holds d tape (items_of (if b then rs ++ r ∷ [] else rs)) ≡ true
put_more d tape true rs r held = held_more d tape rs (r ∷ []) held
put_more d tape false rs r held = held

module _ (n : ℕ) (present : ℕ → Bool) (contents : ℕ → List ℕ → Result VolumeFields Refusal) where
  put_still : (listed : List DumpRecordFields) (s : State) (k : ℕ) (r : Record) → StillHeld listed (slots_of n present s.tape) (slots_of n present (comes (puts k r) s).tape)
  put_still listed s k r d tape j t there at held =
      let new = (comes (puts k r) s).tape in
      let both = both_at present s.tape new n j t at in
      (slot_of present new j, both.1, put_more d tape (j == k) (s.tape j) r (subst (λ (x : Slot). holds d tape x.items ≡ true) both.0 held))

  same_still : (listed : List DumpRecordFields) (slots : List Slot) → StillHeld listed slots slots
  same_still listed slots d tape j t there at held = (t, at, held)

  -- behind so many of the effects, and one more
  abbrev pub KeptStep : List Change → State → List Effect → Effect → Type 0
  KeptStep log s before e =
      (changes : List Change) × IsJournalAfter log (before ++ e ∷ []) changes × StillHeld (after changes).listed (slots_of n present (come before s).tape) (slots_of n present (come (before ++ e ∷ []) s).tape)

  pub kept_step : (count : ℕ) (es : List Effect) (s : State) (log new : List Change) → Keeps n present contents log s es new → (e : Effect) → slice_get es count ≡ Some e → KeptStep log s (take count es) e
  kept_step zero [] s log new keeps e at = absurd (cc)
  kept_step zero (commits bytes ∷ es) s log new (held, (changes, are, rest)) e at =
      (let same : commits bytes ≡ e = cc in subst (λ (x : Effect). KeptStep log s [] x) same (log ++ changes, (changes, are, refl), same_still (after (log ++ changes)).listed (slots_of n present s.tape)))
  kept_step zero (replaces bytes ∷ es) s log new (held, (changes, are, rest)) e at =
      (let same : replaces bytes ≡ e = cc in subst (λ (x : Effect). KeptStep log s [] x) same (changes, (changes, are, refl), same_still (after changes).listed (slots_of n present s.tape)))
  kept_step zero (tells text ∷ es) s log new (held, rest) e at = (let same : tells text ≡ e = cc in subst (λ (x : Effect). KeptStep log s [] x) same (log, refl, same_still (after log).listed (slots_of n present s.tape)))
  kept_step zero (puts k r ∷ es) s log new (held, rest) e at = (let same : puts k r ≡ e = cc in subst (λ (x : Effect). KeptStep log s [] x) same (log, refl, put_still (after log).listed s k r))
  kept_step zero (settles k ∷ es) s log new (held, rest) e at = (let same : settles k ≡ e = cc in subst (λ (x : Effect). KeptStep log s [] x) same (log, refl, same_still (after log).listed (slots_of n present s.tape)))
  kept_step zero (cuts k m ∷ es) s log new (held, (still, rest)) e at = (let same : cuts k m ≡ e = cc in subst (λ (x : Effect). KeptStep log s [] x) same (log, refl, still))
  kept_step (suc count) [] s log new keeps e at = absurd (cc)
  kept_step (suc count) (commits bytes ∷ es) s log new (held, (changes, are, rest)) e at = (let next = kept_step count es (comes (commits bytes) s) (log ++ changes) new rest e at in (next.0, (changes, are, next.1), next.2))
  kept_step (suc count) (replaces bytes ∷ es) s log new (held, (changes, are, rest)) e at = (let next = kept_step count es (comes (replaces bytes) s) changes new rest e at in (next.0, (changes, are, next.1), next.2))
  kept_step (suc count) (tells text ∷ es) s log new (held, rest) e at = kept_step count es (comes (tells text) s) log new rest e at
  kept_step (suc count) (puts k r ∷ es) s log new (held, rest) e at = kept_step count es (comes (puts k r) s) log new rest e at
  kept_step (suc count) (settles k ∷ es) s log new (held, rest) e at = kept_step count es (comes (settles k) s) log new rest e at
  kept_step (suc count) (cuts k m ∷ es) s log new (held, (still, rest)) e at = kept_step count es (comes (cuts k m) s) log new rest e at
