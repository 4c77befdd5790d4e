-- What is so of the database of every log, as its readers want it.
use Rattle.std.proofs.Common.{◌≡◌, ◌≢◌, ℕ, ◌<◌, List, [], ◌∷◌, ◌++◌, Bool, true, false, not, refl, sym, ◌∙◌, arith}
use Rattle.std.specs.Prelude.{◌↔◌, All, map, ◌==◌, nat_eq, nat_lt, if◌then◌else◌, IsTrue, Option, None, is_some, Ok, Err}
use Rattle.std.specs.List.{list_any, list_all, IsDistinct}
use Rattle.std.specs.Cmp.{IsEquivalence}
use Rattle.std.proofs.lemmas.Bool.{and_parts, eqb-true, eq-eqb}
use Rattle.std.proofs.lemmas.Bool.Decides.{nat_tests}
use Rattle.std.proofs.lemmas.Cmp.{nat_eq_equiv, nat_list_eq_equiv}
use Rattle.std.proofs.lemmas.List.Elements.{All-nil, All-cons, All-weaker}
use Rattle.bk_text.specs.Patterns.{IsPattern}
use Rattle.volume_sets.specs.Testing.{is_pattern}
use Rattle.volume_sets.specs.declared.sets.VolumeSet.{VolumeSet}
use Rattle.volume_sets.specs.declared.sets.SetsFault.TheVariants.{NoSuchSet}
use Rattle.volume_sets.specs.Sets.{has_set, entries_under, with_entries}
use Rattle.dump_levels.specs.declared.levels.Level.{Level}
use Rattle.bk_text.specs.Blanks.{is_same_text}
use Rattle.dump_levels.specs.Trees.{is_level}
use Rattle.budb_changes.specs.declared.records.VolRecordFields.{VolRecordFields}
use Rattle.budb_changes.specs.declared.records.DumpRecordFields.{DumpRecordFields}
use Rattle.budb_changes.specs.declared.change.Change.TheVariants.{AddEntry}
use Rattle.budb_fold.specs.declared.database.HostPort.{HostPort}
use Rattle.budb_fold.specs.declared.database.Database.{Database}
use Rattle.budb_fold.specs.Database.{is_dump, is_whole, has_dump, entry_of, with_sets, fits}
use Rattle.budb_fold.specs.FoldLaws.{IsOrderly, HasPatterns, IsWholeWithoutParent}
use Rattle.budb_fold.proofs.Behind.{Behind, behind_weaker, each_behind, at_place, distinct_behind, none_of_key}
use Rattle.budb_fold.proofs.SetKeeps.{HasPatternEntry, HasPatternEntries}
use Rattle.budb_fold.proofs.LevelKeeps.{IsNextLevel}
use Rattle.budb_fold.proofs.FoldKeeps.{Kept, IsNextDump, fit_parts, not_true}

distinct_from : {X K : Type 0} (key : X → K) (eq : K → K → Bool) → IsEquivalence eq → (xs : List X) → Behind (λ (b : List X) (x : X). list_any (λ y. eq (key y) (key x)) b ≡ false) [] xs → IsDistinct eq (map key xs)
unfolding IsDistinct
distinct_from {X} {K} key eq laws xs all =
    distinct_behind key eq laws [] xs tt (behind_weaker (λ (b : List X) (x : X). list_any (λ y. eq (key y) (key x)) b ≡ false) (λ (b : List X) (x : X). list_any (eq (key x)) (map key b) ≡ false) (λ b x none. sym (none_of_key key eq laws (key x) b) ∙ none) [] xs all)

each_whole : (volumes : List VolRecordFields) → list_all is_whole volumes ≡ true → All (λ volume. volume.from ≡ 0) volumes
each_whole [] all = All-nil (λ (v : VolRecordFields). v.from ≡ 0)
each_whole (v ∷ volumes) all =
    let parts = and_parts (is_whole v) (list_all is_whole volumes) all in
    All-cons (λ (x : VolRecordFields). x.from ≡ 0) v volumes (eqb-true v.from 0 parts.0) (each_whole volumes parts.1)

whole_if : (d : DumpRecordFields) → (if d.parent == 0 then list_all is_whole d.volumes else true) ≡ true → IsWholeWithoutParent d
whole_if d test none = (let zero_test : (d.parent == 0) ≡ true = eq-eqb d.parent 0 none in each_whole d.volumes (rw zero_test at test))

not_zero : (d : DumpRecordFields) → not (d.id == 0) ≡ true → d.id ≢ 0
not_zero d is same = absurd (let zero_test : (d.id == 0) ≡ true = eq-eqb d.id 0 same in let none : (d.id == 0) ≡ false = not_true (d.id == 0) is in cc)

lt_is : (a b : ℕ) → nat_lt a b ≡ true → a < b
lt_is a b is = grind (arith, nat_tests)

pub orderly : ((text : List ℕ) → IsTrue (is_pattern text) ↔ IsPattern text) → (db : Database) → Kept db → IsOrderly db
orderly test db kept = record {
  sets_once = distinct_from (λ (s : VolumeSet). s.name) is_same_text nat_list_eq_equiv db.sets kept.sets.once;
  patterns = All-weaker HasPatternEntries HasPatterns (λ set each. All-weaker HasPatternEntry (λ entry. IsPattern entry.pattern) (λ entry is. (test entry.pattern).0 is) set.entries each) db.sets kept.sets.patterns;
  levels_once = distinct_from (λ (l : Level). l.path) is_same_text nat_list_eq_equiv db.levels (behind_weaker IsNextLevel (λ (b : List Level) (l : Level). list_any (is_level l.path) b ≡ false) (λ b l next. next.new) [] db.levels kept.levels);
  levels_behind = λ k level at. (at_place IsNextLevel [] db.levels k level kept.levels at).upper;
  ports_once = distinct_from (λ (h : HostPort). h.port) nat_eq nat_eq_equiv db.hosts kept.hosts;
  ids_once = distinct_from (λ (d : DumpRecordFields). d.id) nat_eq nat_eq_equiv db.listed (behind_weaker IsNextDump (λ (b : List DumpRecordFields) (d : DumpRecordFields). list_any (is_dump d.id) b ≡ false) (λ b d fit. not_true (has_dump b d.id) (fit_parts d b fit).new) [] db.listed kept.listed);
  ids_not_zero = each_behind IsNextDump (λ (d : DumpRecordFields). d.id ≢ 0) (λ b d fit. not_zero d (fit_parts d b fit).some) [] db.listed kept.listed;
  parents_below = each_behind IsNextDump (λ (d : DumpRecordFields). d.parent < d.id) (λ b d fit. lt_is d.parent d.id (fit_parts d b fit).above) [] db.listed kept.listed;
  whole = each_behind IsNextDump IsWholeWithoutParent (λ b d fit. whole_if d (fit_parts d b fit).whole) [] db.listed kept.listed;
  greatest = kept.most;
}

-- what the test of a new entry tells
entry_test : (p h : Bool) (db : Database) (left : List VolumeSet) → is_some (if p then with_sets db (if h then Ok left else Err NoSuchSet) else None) ≡ true → (p ≡ true) × (h ≡ true)
entry_test true true db left fit = (refl, refl)
entry_test true false db left fit = absurd (cc)
entry_test false h db left fit = absurd (cc)

entry_passes : (p h : Bool) (db : Database) (left : List VolumeSet) → p ≡ true → h ≡ true → is_some (if p then with_sets db (if h then Ok left else Err NoSuchSet) else None) ≡ true
entry_passes true true db left is there = refl
entry_passes true false db left is there = absurd (cc)
entry_passes false h db left is there = absurd (cc)

pub entry_fits : ((text : List ℕ) → IsTrue (is_pattern text) ↔ IsPattern text) → (set : List ℕ) (server partition : Option (List ℕ)) (pattern : List ℕ) (db : Database) → (fits (AddEntry set server partition pattern) db ≡ true) ↔ (IsPattern pattern × (has_set set db.sets ≡ true))
entry_fits test set server partition pattern db =
    let left : List VolumeSet = with_entries set (entries_under set db.sets ++ entry_of server partition pattern ∷ []) db.sets in (
      (λ fit. (let both = entry_test (is_pattern pattern) (has_set set db.sets) db (with_entries set (entries_under set db.sets ++ entry_of server partition pattern ∷ []) db.sets) fit in ((test pattern).0 both.0, both.1))),
      (λ (form, there). entry_passes (is_pattern pattern) (has_set set db.sets) db (with_entries set (entries_under set db.sets ++ entry_of server partition pattern ∷ []) db.sets) ((test pattern).1 form) there),
    )
