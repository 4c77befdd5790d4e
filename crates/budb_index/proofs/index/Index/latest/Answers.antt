use Rattle.std.proofs.Common.{◌≡◌, ℕ, List, ◌++◌, Option, sym, ◌∙◌, ap}
use Rattle.std.specs.List.{filter}
use Rattle.std.proofs.lemmas.Result.{IfOk-weaker}
use Rattle.bk_text.specs.Bases.{backup_ending}
use Rattle.budb_fold.specs.Lookups.{VolumeDump, is_before, latest}
use Rattle.budb_index.specs.Latest.{best_of, name_dumps}
use Rattle.budb_index.proofs.Latest.{latest_alone, latest_of_both}
use Rattle.budb_index.proofs.index.Index.latest.Goals as goal

pub returns-then-ends_with : goal.returns-then-ends_with
returns-then-ends_with g c =
    c.in_ok-own.ensures.best
    ∙ latest_alone c.args.self.now.listed c.best_of_name.ensures.once c.args.name.now c.args.before (sym c.ends_with.ensures.value ∙ c.if-ends_with.true)

pub returns : goal.returns
returns g c =
    let listed = c.args.self.now.listed in
    let name = c.args.name.now in
    let before = c.args.before in
    let backup : c.as_slice.result.now ≡ name ++ backup_ending = c.as_slice.ensures ∙ c.in_ok-extend_from_slice.ensures.ok ∙ ap (λ (l : List ℕ). l ++ backup_ending) c.in_ok-backup.ensures in
    IfOk-weaker c.best_of_name-2.result (λ (found : Option VolumeDump). found ≡ best_of name c.in_ok-own.own (filter (is_before before) (name_dumps c.as_slice.result.now listed))) (λ (found : Option VolumeDump). found ≡ latest listed name before)
    (λ (found : Option VolumeDump) is.
    is
    ∙ ap (λ (n : List ℕ). best_of name c.in_ok-own.own (filter (is_before before) (name_dumps n listed))) backup
    ∙ ap (λ (o : Option VolumeDump). best_of name o (filter (is_before before) (name_dumps (name ++ backup_ending) listed))) c.in_ok-own.ensures.best
    ∙ latest_of_both listed c.best_of_name.ensures.once name before (sym c.ends_with.ensures.value ∙ c.if-ends_with.false))
    c.best_of_name-2.ensures.best
