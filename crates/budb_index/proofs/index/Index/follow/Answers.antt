use Rattle.std.proofs.Common.{◌≡◌, List, ◌∷◌, sym, ◌∙◌, ap, subst, arith}
use Rattle.std.specs.Vec.Iter.{into_iter_items}
use Rattle.budb_index.specs.declared.relistings.Relisting.{Relisting}
use Rattle.budb_index.specs.Relistings.{relisted_from, HasRoom}
use Rattle.budb_index.proofs.index.Index.follow.Goals as goal

pub loop-one-init : goal.loop-one-init
loop-one-init g c =
    let left : into_iter_items c.into_iter-one-iterator.result ≡ c.args.coming = c.into_iter-one-iterator.ensures.into_iter_gives.0 ∙ c.into_vec-one-items.ensures in
    record {
      listed = ap (λ (l : List Relisting). relisted_from l c.args.self.now.listed) left;
      room = subst (HasRoom c.args.self.now) (sym left) c.requires;
    }

pub relist-requires : goal.relist-requires
relist-requires g c =
    let left : into_iter_items c.loop-one.one-iterator ≡ c.in-Some.one ∷ into_iter_items c.next.new.self = c.in-Some.ensures.steps.0 in
    let room = subst (HasRoom c.loop-one.self) left c.loop-one.invariant.room in
    record { records = omega (arith, room.records); frags = omega (arith, room.frags) }

pub loop-one-preserved : goal.loop-one-preserved
loop-one-preserved g c =
    let rest = into_iter_items c.next.new.self in
    let left : into_iter_items c.loop-one.one-iterator ≡ c.in-Some.one ∷ rest = c.in-Some.ensures.steps.0 in
    let room = subst (HasRoom c.loop-one.self) left c.loop-one.invariant.room in
    record {
      listed = ap (relisted_from rest) c.relist.ensures.listed ∙ sym (ap (λ (l : List Relisting). relisted_from l c.loop-one.self.listed) left) ∙ c.loop-one.invariant.listed;
      room = record { records = omega (arith, room.records, c.relist.ensures.records); frags = omega (arith, room.frags, c.relist.ensures.frags) };
    }
