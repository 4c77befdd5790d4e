use Rattle.std.proofs.Common.{◌≡◌, List, [], sym, ◌∙◌, ap, subst}
use Rattle.std.specs.Prelude.{Option, IfSome}
use Rattle.std.specs.Option.{unwrap_or}
use Rattle.plant_effects.specs.Runs.{state_of}
use Rattle.budb_changes.specs.declared.change.Change.{Change}
use Rattle.budb_changes.specs.Bytes.{encoded}
use Rattle.budb_changes.specs.Forms.{AreChanges}
use Rattle.budb_fold.specs.Database.{after_from}
use Rattle.budb.specs.declared.prepared.Prepared.{Prepared}
use Rattle.budb.specs.Views.{BudbView, prepared_of, changes_of, IsPrepared}
use Rattle.budb.proofs.Keeping.{keeps_more}
use Rattle.budb.proofs.Indexing.{lists_the_same}
use Rattle.budb.proofs.database.Budb.commit_prepared.Goals as goal

pub move_in-requires-clause-after : goal.move_in-requires-clause-after
move_in-requires-clause-after g c =
    let taken = c.take_ready-prepared.ensures in
    taken.database ∙ ap (λ (m : List Change). after_from m c.self.inside.database) (sym taken.changes)

pub invariant_of-self : goal.invariant_of-self
invariant_of-self g c =
    record {
      listed = c.self.invariant.listed;
      ready = subst (λ (p : Option Prepared). IfSome p (IsPrepared c.self.inside.database c.self.inside.index)) (sym c.take_ready-prepared.ensures.nothing) tt;
      copy = c.self.invariant.copy;
    }

pub invariant_of-self-2 : goal.invariant_of-self-2
invariant_of-self-2 g c =
    let taken = c.take_ready-prepared.ensures in
    record {
      listed = lists_the_same (unwrap_or (changes_of c.self.inside.prepared) []) _ c.self.inside.database _ c.self.inside.index.listed _ c.self.invariant.listed taken.coming (c.move_in.ensures.database ∙ taken.database) c.move_in.ensures.index;
      ready = subst (λ (p : Option Prepared). IfSome p (IsPrepared c.move_in.new.database c.move_in.new.index)) (sym taken.nothing) tt;
      copy = c.move_in.ensures.behind;
    }

pub returns-clause-keeps : goal.returns-clause-keeps
returns-clause-keeps g c told log keeps =
    let P = g.P.Plant in
    let taken = c.take_ready-prepared.ensures in
    let is : unwrap_or (changes_of c.self.inside.prepared) [] ≡ prepared_of c.args.self.now = ap prepared_of c.self.view_is in
    keeps_more log (prepared_of c.args.self.now) c.as_slice.result.now (state_of P c.args.plant.now) (state_of P c.append_bytes.new.plant) c.args.self.now _ keeps
    (subst AreChanges is taken.form)
    (c.as_slice.ensures ∙ taken.bytes ∙ ap encoded is)
    (c.in_ok-append_bytes.ensures.done.state told)
    (c.move_in.ensures.database ∙ taken.database ∙ ap (λ (m : List Change). after_from m c.self.inside.database) is ∙ ap (λ (b : BudbView). after_from (prepared_of c.args.self.now) b.database) c.self.view_is)
