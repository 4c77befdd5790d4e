-- The entries of a volume's increment are fit.
use Rattle.std.proofs.Common.{◌≡◌, ℕ, ◌≤◌, Bool, true, false, cond, List, [], ◌∷◌, length, map, refl, sym, ap, subst, ◌∙◌, arith, rules}
use Rattle.std.specs.Prelude.{All, AllPairs, sum_by}
use Rattle.std.proofs.lemmas.List.{length-map}
use Rattle.std.proofs.lemmas.List.Elements.{All-nil, All-cons, All-head, All-tail}
use Rattle.std.proofs.lemmas.List.Sums.{sum_by-cons}
use Rattle.vnode_model.specs.declared.increments.Entry.{Entry}
use Rattle.vnode_model.specs.declared.increments.Entry.TheVariants.{Whole, Kept}
use Rattle.vnode_model.specs.declared.vnodes.Vnode.{Vnode}
use Rattle.vnode_model.specs.Limits.{StandsBefore, IsFit, AreFit, AreVolume, number_of, data_len, all_data}
use Rattle.vnode_model.specs.Increments.{is_whole_from, entry_from}

same_length : (es ds : List Entry) → map number_of es ≡ map number_of ds → length es ≡ length ds
same_length es ds same = sym (length-map es number_of) ∙ ap length same ∙ length-map ds number_of

-- entries with the numbers of fit ones, each fit for itself, with no more data
pub fit_like : (es ds : List Entry) → map number_of es ≡ map number_of ds → All IsFit es → sum_by data_len es ≤ all_data → AreFit ds → AreFit es
fit_like es ds same each small fit = record {
  few = omega (arith, fit.few, same_length es ds same);
  numbered = subst (All (λ (n : ℕ). 1 ≤ n)) (sym same) fit.numbered;
  ordered = subst (AllPairs StandsBefore) (sym same) fit.ordered;
  each = each;
  small = small;
}

number_either : (b : Bool) (v : Vnode) → number_of (cond b (Whole v) (Kept v.number v.uniq)) ≡ v.number
number_either true v = refl
number_either false v = refl

data_either : (b : Bool) (v : Vnode) → data_len (cond b (Whole v) (Kept v.number v.uniq)) ≤ length v.body
data_either true v = omega arith
data_either false v = omega arith

fit_either : (b : Bool) (v : Vnode) → IsFit (Whole v) → IsFit (cond b (Whole v) (Kept v.number v.uniq))
fit_either true v fit = fit
fit_either false v fit = search rules

numbers_same : (since : ℕ) (vs : List Vnode) → map number_of (map (entry_from since) vs) ≡ map number_of (map Whole vs)
numbers_same since [] = refl
numbers_same since (v ∷ vs) = let first = number_either (is_whole_from since v) v in let rest = numbers_same since vs in cc

data_less : (since : ℕ) (vs : List Vnode) → sum_by data_len (map (entry_from since) vs) ≤ sum_by data_len (map Whole vs)
data_less since [] = omega arith
data_less since (v ∷ vs) =
    omega (arith, data_either (is_whole_from since v) v, data_less since vs, sum_by-cons data_len (entry_from since v) (map (entry_from since) vs), sum_by-cons data_len (Whole v) (map Whole vs))

each_fit : (since : ℕ) (vs : List Vnode) → All IsFit (map Whole vs) → All IsFit (map (entry_from since) vs)
each_fit since [] each = All-nil IsFit
each_fit since (v ∷ vs) each =
    All-cons IsFit (entry_from since v) (map (entry_from since) vs) (fit_either (is_whole_from since v) v (All-head IsFit (Whole v) (map Whole vs) each))
    (each_fit since vs (All-tail IsFit (Whole v) (map Whole vs) each))

-- the entries of a volume's increment
pub fit_entries : (since : ℕ) (vs : List Vnode) → AreVolume vs → AreFit (map (entry_from since) vs)
fit_entries since vs fit =
    fit_like (map (entry_from since) vs) (map Whole vs) (numbers_same since vs) (each_fit since vs fit.each) (omega (arith, data_less since vs, fit.small)) fit
