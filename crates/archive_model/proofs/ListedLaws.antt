-- What is so of the listed dumps of every log: no two have one id, each has its parent below it, and none has an id above the greatest.
use Rattle.std.proofs.Common.{◌≡◌, ℕ, ◌<◌, true, false, Some, List, [], sym, ap, ◌∙◌, arith}
use Rattle.std.specs.Prelude.{Contains, map, nat_eq, nat_lt}
use Rattle.std.specs.List.{list_any, IsDistinct}
use Rattle.std.proofs.lemmas.Bool.Decides.{nat_tests}
use Rattle.std.proofs.lemmas.Cmp.{nat_eq_equiv}
use Rattle.std.proofs.lemmas.List.Elements.{All-contains}
use Rattle.budb_changes.specs.declared.records.DumpRecordFields.{DumpRecordFields}
use Rattle.budb_changes.specs.declared.change.Change.{Change}
use Rattle.budb_fold.specs.Database.{has_dump, after}
use Rattle.budb_fold.specs.Lookups.{record_of}
use Rattle.budb_fold.specs.Chains.{HaveParentsBelow}
use Rattle.budb_fold.proofs.Behind.{behind_weaker, each_behind, distinct_behind, none_of_key}
use Rattle.budb_fold.proofs.ChainLaws.{record_by_id as record_found}
use Rattle.budb_fold.proofs.FoldKeeps.{IsNextDump, fit_parts, not_true, kept_after}

lt_is : (a b : ℕ) → nat_lt a b ≡ true → a < b
lt_is a b is = grind (arith, nat_tests)

ids_distinct : (log : List Change) → IsDistinct nat_eq (map (λ (d : DumpRecordFields). d.id) (after log).listed)
unfolding IsDistinct
ids_distinct log =
    distinct_behind (λ (d : DumpRecordFields). d.id) nat_eq nat_eq_equiv [] (after log).listed tt
    (behind_weaker IsNextDump (λ (b : List DumpRecordFields) (d : DumpRecordFields). list_any (nat_eq d.id) (map (λ (x : DumpRecordFields). x.id) b) ≡ false)
    (λ b d fit. sym (none_of_key (λ (x : DumpRecordFields). x.id) nat_eq nat_eq_equiv d.id b) ∙ not_true (has_dump b d.id) (fit_parts d b fit).new) [] (after log).listed (kept_after log).listed)

-- no two listed dumps have one id
pub ids_once : (log : List Change) (d e : DumpRecordFields) → Contains (after log).listed d → Contains (after log).listed e → d.id ≡ e.id → d ≡ e
ids_once log d e a b same =
    let both : Some d ≡ Some e = sym (record_found (after log).listed d (ids_distinct log) a) ∙ ap (λ (n : ℕ). record_of (after log).listed n) same ∙ record_found (after log).listed e (ids_distinct log) b in
    cc

-- each has its parent below it
pub all_below : (log : List Change) → HaveParentsBelow (after log).listed
all_below log = each_behind IsNextDump (λ (x : DumpRecordFields). x.parent < x.id) (λ b x fit. lt_is x.parent x.id (fit_parts x b fit).above) [] (after log).listed (kept_after log).listed

pub parents_below : (log : List Change) (d : DumpRecordFields) → Contains (after log).listed d → d.parent < d.id
parents_below log d there = All-contains (λ (x : DumpRecordFields). x.parent < x.id) (after log).listed d (all_below log) there
