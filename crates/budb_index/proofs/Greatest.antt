-- The greatest id of a set's records at a level, a record at a time.
use Rattle.std.proofs.Common.{◌≡◌, ℕ, max, List, [], ◌∷◌, Bool, true, false, cond, Option, Some, None, refl, ap, arith}
use Rattle.std.specs.Prelude.{◌&&◌, if◌then◌else◌}
use Rattle.std.specs.Option.{unwrap_or}
use Rattle.std.specs.List.{filter}
use Rattle.bk_text.specs.Blanks.{is_same_text}
use Rattle.budb_changes.specs.declared.records.DumpRecordFields.{DumpRecordFields}
use Rattle.budb_fold.specs.Lookups.{greatest_id, greatest_at}
use Rattle.budb_index.specs.Walks.{dumps_of_set, greater}

-- those at a level
abbrev pub at_level : List ℕ → List DumpRecordFields → List DumpRecordFields
at_level level = filter (λ dump. is_same_text dump.level level)

filter_both : {X : Type 0} (p q : X → Bool) (xs : List X) → filter q (filter p xs) ≡ filter (λ x. p x && q x) xs
filter_both p q [] = refl
filter_both p q (x ∷ xs) = go (p x) (filter_both p q xs)
  where
    go : (b : Bool) → filter q (filter p xs) ≡ filter (λ y. p y && q y) xs → filter q (cond b (x ∷ filter p xs) (filter p xs)) ≡ cond (b && q x) (x ∷ filter (λ y. p y && q y) xs) (filter (λ y. p y && q y) xs)
    go true rest = ap (λ (l : List _). cond (q x) (x ∷ l) l) rest
    go false rest = rest

pub greatest_of_set : (listed : List DumpRecordFields) (set level : List ℕ) → greatest_id (at_level level (dumps_of_set set listed)) ≡ greatest_at listed set level
greatest_of_set listed set level = ap greatest_id (filter_both (λ (d : DumpRecordFields). is_same_text d.set set) (λ d. is_same_text d.level level) listed)

swap : (so_far rest : Option ℕ) (id : ℕ) → greater (greater (Some id) so_far) rest ≡ greater so_far (Some (max id (unwrap_or rest 0)))
swap None rest id = ap (λ (n : ℕ). Some (max n (unwrap_or rest 0))) (omega arith)
swap (Some k) rest id = ap Some (omega arith)

-- a record more
pub one_more : (level : List ℕ) (dump : DumpRecordFields) (rest : List DumpRecordFields) (so_far : Option ℕ) → greater (if is_same_text dump.level level then greater (Some dump.id) so_far else so_far) (greatest_id (at_level level rest)) ≡ greater so_far (greatest_id (at_level level (dump ∷ rest)))
one_more level dump rest so_far = go (is_same_text dump.level level)
  where
    go : (b : Bool) → greater (cond b (greater (Some dump.id) so_far) so_far) (greatest_id (at_level level rest)) ≡ greater so_far (greatest_id (cond b (dump ∷ at_level level rest) (at_level level rest)))
    go true = swap so_far (greatest_id (at_level level rest)) dump.id
    go false = refl

pub none_more : (so_far : Option ℕ) → greater so_far None ≡ so_far
none_more None = refl
none_more (Some id) = ap Some (omega arith)
