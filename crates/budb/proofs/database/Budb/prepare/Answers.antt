use Rattle.std.proofs.Common.{List, sym, ◌∙◌, ap, subst}
use Rattle.std.specs.Prelude.{Option, IfSome}
use Rattle.budb_changes.specs.declared.change.Change.{Change}
use Rattle.budb_changes.specs.Bytes.{encoded}
use Rattle.budb_changes.specs.Forms.{AreChanges}
use Rattle.budb_fold.specs.declared.database.Database.{Database}
use Rattle.budb_fold.specs.Database.{after_from}
use Rattle.budb_index.specs.Relistings.{relistings_of, HasRoom}
use Rattle.budb.specs.declared.copies.Behind.{Behind}
use Rattle.budb.specs.Views.{BudbView, CatchesUp}
use Rattle.budb.proofs.Indexing.{none_ready}
use Rattle.budb.proofs.database.Budb.prepare.Goals as goal

pub invariant_of-self : goal.invariant_of-self
invariant_of-self c =
    record {
      listed = c.prepare.ensures.listed ∙ c.self.invariant.listed;
      ready = none_ready c.self.inside.database c.prepare.new.self c.self.inside.prepared (ap (λ (b : BudbView). b.prepared) c.self.view_is ∙ c.requires);
      copy = c.self.invariant.copy;
    }

pub invariant_of-self-in_err-copy : goal.invariant_of-self-in_err-copy
invariant_of-self-in_err-copy c =
    record {
      listed = c.prepare.ensures.listed ∙ c.self.invariant.listed;
      ready = none_ready c.self.inside.database c.prepare.new.self c.self.inside.prepared (ap (λ (b : BudbView). b.prepared) c.self.view_is ∙ c.requires);
      copy = subst (λ (b : Option Behind). IfSome b (CatchesUp c.self.inside.database)) (sym c.copy_of.ensures.nothing) tt;
    }

pub invariant_of-self-in_err-prepared : goal.invariant_of-self-in_err-prepared
invariant_of-self-in_err-prepared c =
    record {
      listed = c.prepare.ensures.listed ∙ c.self.invariant.listed;
      ready = none_ready c.self.inside.database c.prepare.new.self c.self.inside.prepared (ap (λ (b : BudbView). b.prepared) c.self.view_is ∙ c.requires);
      copy = subst (λ (b : Option Behind). IfSome b (CatchesUp c.self.inside.database)) (sym c.copy_of.ensures.nothing) tt;
    }

pub invariant_of-self-2 : goal.invariant_of-self-2
invariant_of-self-2 c =
    let made = c.in_ok-prepared.ensures in
    let follows = c.in_ok-coming.ensures in
    record {
      listed = c.prepare.ensures.listed ∙ c.self.invariant.listed;
      ready = record {
        form = subst AreChanges (sym made.changes) made.form;
        bytes = made.bytes ∙ ap encoded (sym made.changes);
        database = made.database ∙ ap (λ (m : List Change). after_from m c.in_ok-copy.copy) (sym made.changes) ∙ ap (λ (db : Database). after_from c.in_ok-prepared.prepared.changes db) c.in_ok-copy.ensures.copy;
        coming = made.coming ∙ follows.coming ∙ ap relistings_of (sym made.changes);
        room = subst (HasRoom c.prepare.new.self) (sym made.coming) follows.room;
      };
      copy = subst (λ (b : Option Behind). IfSome b (CatchesUp c.self.inside.database)) (sym c.copy_of.ensures.nothing) tt;
    }
