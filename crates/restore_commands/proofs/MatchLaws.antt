-- The test that tells whether a pattern matches a name, and whether an entry has a volume.
use Rattle.std.proofs.Common.{◌≡◌, ◌↔◌, ℕ, Bool, true, false, Option, Some, None, List, refl, sym, ap, ◌∙◌, subst}
use Rattle.std.specs.Prelude.{◌&&◌, ◌==◌, IsTrue, Decides}
use Rattle.std.proofs.lemmas.Bool.{and_parts, and_from, false_from_ne_true, eqb-true, eq-eqb}
use Rattle.std.proofs.lemmas.Slice.Eq.{slice_eq-Decides}
use Rattle.bk_text.specs.Blanks.{is_same_text}
use Rattle.bk_text.specs.Patterns.{Item, SpellsItems, IsPattern}
use Rattle.volume_sets.specs.declared.sets.SetEntry.{SetEntry}
use Rattle.volume_sets.specs.Reading.{item_mind}
use Rattle.volume_sets.specs.Matching.{match_items}
use Rattle.volume_sets.specs.Expansions.{Matches, IsAnyOr, SuitsNamed}
use Rattle.volume_sets.proofs.ReadLaws.{items_read}
use Rattle.budb_changes.specs.declared.records.VolRecordFields.{VolRecordFields}
use Rattle.budb_fold.specs.Lookups.{VolumeDump}
use Rattle.restore_commands.specs.Choices.{matched_by, is_matched, is_any_or, suits}

same_numbers : (a b : ℕ) → Decides (a == b) (a ≡ b)
same_numbers a b = (eqb-true a b, eq-eqb a b)

pub same_text : (a b : List ℕ) → is_same_text a b ≡ true → a ≡ b
same_text a b is = (slice_eq-Decides same_numbers a b (is_same_text a b) refl).0 is

pub text_same : (a b : List ℕ) → a ≡ b → is_same_text a b ≡ true
text_same a b same = (slice_eq-Decides same_numbers a b (is_same_text a b) refl).1 same

-- ---- patterns

test_is : (items : List Item) (pattern name : List ℕ) → SpellsItems items pattern → is_matched pattern name ≡ match_items items name
unfolding is_matched
test_is items pattern name spells = ap (λ (o : Option (List Item)). matched_by o name) (items_read items pattern (item_mind 0) spells)

tested : (pattern name : List ℕ) → IsPattern pattern → is_matched pattern name ≡ true → Matches pattern name
tested pattern name form is = (form.items, form.spells, sym (test_is form.items pattern name form.spells) ∙ is)

matches : (pattern name : List ℕ) → Matches pattern name → is_matched pattern name ≡ true
matches pattern name m = test_is m.0 pattern name m.1 ∙ m.2

pub match_tested : (pattern name : List ℕ) → IsPattern pattern → (IsTrue (is_matched pattern name) ↔ Matches pattern name)
match_tested pattern name form = (tested pattern name form, matches pattern name)

any_tested : (wanted : Option (List ℕ)) (found : List ℕ) → is_any_or wanted found ≡ true → IsAnyOr wanted found
any_tested None found is = tt
any_tested (Some wanted) found is = same_text wanted found is

any_is : (wanted : Option (List ℕ)) (found : List ℕ) → IsAnyOr wanted found → is_any_or wanted found ≡ true
any_is None found is = refl
any_is (Some wanted) found is = text_same wanted found is

module _ (one : VolumeDump) (entry : SetEntry) (form : IsPattern entry.pattern) where
  suits_tested : suits one entry ≡ true → SuitsNamed entry one.volume.server one.volume.partition one.volume.name
  suits_tested is =
      let first = and_parts (is_any_or entry.server one.volume.server) (is_any_or entry.partition one.volume.partition && is_matched entry.pattern one.volume.name) is in
      let rest = and_parts (is_any_or entry.partition one.volume.partition) (is_matched entry.pattern one.volume.name) first.1 in
      (any_tested entry.server one.volume.server first.0, any_tested entry.partition one.volume.partition rest.0, tested entry.pattern one.volume.name form rest.1)

  suits_is : SuitsNamed entry one.volume.server one.volume.partition one.volume.name → suits one entry ≡ true
  suits_is s =
      and_from (is_any_or entry.server one.volume.server) (is_any_or entry.partition one.volume.partition && is_matched entry.pattern one.volume.name) (any_is entry.server one.volume.server s.0)
      (and_from (is_any_or entry.partition one.volume.partition) (is_matched entry.pattern one.volume.name) (any_is entry.partition one.volume.partition s.1) (matches entry.pattern one.volume.name s.2))

  -- an answer that is true exactly where the entry has the volume
  pub suits_told : (told : Bool) → (IsTrue told ↔ SuitsNamed entry one.volume.server one.volume.partition one.volume.name) → told ≡ suits one entry
  suits_told true both = sym (suits_is (both.0 refl))
  suits_told false both = sym (false_from_ne_true (suits one entry) (λ is. let never : false ≡ true = both.1 (suits_tested is) in absurd (cc)))

  -- the same by what is read of the dump's record
  pub suits_by : (v : VolRecordFields) (server partition name : List ℕ) → v ≡ one.volume → server ≡ v.server → partition ≡ v.partition → name ≡ v.name → (told : Bool) → (IsTrue told ↔ SuitsNamed entry server partition name) → told ≡ suits one entry
  suits_by v server partition name is server_is partition_is name_is told both =
      suits_told told (subst (λ (n : List ℕ). IsTrue told ↔ SuitsNamed entry one.volume.server one.volume.partition n) (name_is ∙ ap (λ (w : VolRecordFields). w.name) is)
      (subst (λ (p : List ℕ). IsTrue told ↔ SuitsNamed entry one.volume.server p name) (partition_is ∙ ap (λ (w : VolRecordFields). w.partition) is)
      (subst (λ (s : List ℕ). IsTrue told ↔ SuitsNamed entry s partition name) (server_is ∙ ap (λ (w : VolRecordFields). w.server) is) both)))
