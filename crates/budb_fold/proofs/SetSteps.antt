-- One set more behind the changes of a checkpoint, and one change more behind a database.
use Rattle.std.proofs.Common.{zero, suc, ◌≡◌, ℕ, ◌+◌, ◌<◌, List, [], ◌∷◌, ◌++◌, length, take, get_or, refl, sym, ◌∙◌, ap, arith, append_assoc}
use Rattle.std.specs.List.{flat_map}
use Rattle.std.proofs.lemmas.Grind.{flat_map-append}
use Rattle.std.proofs.lemmas.List.{append-nil, take_more}
use Rattle.volume_sets.specs.declared.sets.SetEntry.{SetEntry}
use Rattle.volume_sets.specs.declared.sets.VolumeSet.{VolumeSet}
use Rattle.volume_sets.specs.Sets.{entries_at}
use Rattle.budb_changes.specs.declared.change.Change.{Change}
use Rattle.budb_fold.specs.declared.database.Database.{Database}
use Rattle.budb_fold.specs.Database.{after_change, after_from}
use Rattle.budb_fold.specs.Checkpoints.{set_changes}
use Rattle.budb_fold.proofs.Folds.{fold_more}

entries_get : (sets : List VolumeSet) (at : ℕ) (d : VolumeSet) → at < length sets → entries_at at sets ≡ (get_or sets at d).entries
entries_get [] at d within = absurd (omega (arith, within))
entries_get (s ∷ sets) zero d within = refl
entries_get (s ∷ sets) (suc n) d within = entries_get sets n d (omega (arith, within))

pub set_more : (old now new : List Change) (sets : List VolumeSet) (at : ℕ) (name : List ℕ) (entries : List SetEntry) → at < length sets → now ≡ old ++ flat_map set_changes (take at sets)
    → ((d : VolumeSet) → name ≡ (get_or sets at d).name) → entries ≡ entries_at at sets → new ≡ now ++ set_changes (record { name = name; entries = entries }) → new ≡ old ++ flat_map set_changes (take (at + 1) sets)
set_more old now new sets at name entries within now_is name_is entries_are new_is =
    let d : VolumeSet = record { name = []; entries = [] } in
    let s : VolumeSet = get_or sets at (record { name = []; entries = [] }) in
    let front : List Change = flat_map set_changes (take at sets) in
    let more : take (at + 1) sets ≡ take at sets ++ get_or sets at (record { name = []; entries = [] }) ∷ [] = take_more sets at (record { name = []; entries = [] }) within in
    let whole : front ++ set_changes s ≡ flat_map set_changes (take (at + 1) sets) =
    ap (λ (l : List Change). front ++ l) (sym (append-nil (set_changes s))) ∙ sym (flat_map-append set_changes (take at sets) (s ∷ [])) ∙ ap (flat_map set_changes) (sym more) in
    new_is ∙ ap (λ (n : List ℕ). now ++ set_changes (record { name = n; entries = entries })) (name_is d)
    ∙ ap (λ (es : List SetEntry). now ++ set_changes (record { name = s.name; entries = es })) (entries_are ∙ entries_get sets at d within)
    ∙ ap (λ (l : List Change). l ++ set_changes s) now_is ∙ append_assoc old front (set_changes s) ∙ ap (λ (l : List Change). old ++ l) whole

pub change_more : (changes : List Change) (i : ℕ) (change : Change) (db now : Database) → i < length changes → change ≡ get_or changes i change → now ≡ after_from (take i changes) db → after_change change now ≡ after_from (take (i + 1) changes) db
change_more changes i change db now within is now_is =
    ap (after_change change) now_is ∙ sym (fold_more (take i changes) (change ∷ []) db)
    ∙ ap (λ (c : Change). after_from (take i changes ++ c ∷ []) db) is ∙ ap (λ (l : List Change). after_from l db) (sym (take_more changes i change within))
