use Rattle.std.proofs.Common.{◌≡◌, ◌+◌, ◌-◌, ◌≤◌, ℕ, List, ◌++◌, length, take, drop, refl, sym, subst, arith}
use Rattle.std.proofs.lemmas.List.{take_rest}
use Rattle.dump_stream.specs.Left.{left, Gives, Turns, IsOver}
use Rattle.dump_stream.proofs.LeftLaws.{gives_start, gives_more, all_room, all_left, put_rest}
use Rattle.dump_stream.proofs.places.give.Goals as goal

pub loop-count-init : goal.loop-count-init
loop-count-init c = gives_start (left c.args.vnodes.now c.args.from c.args.place.now) (left c.args.vnodes.now c.args.from c.args.place.now) c.args.into.now c.args.into.now refl refl

pub loop-count-preserved : goal.loop-count-preserved
loop-count-preserved c =
    let l = left c.args.vnodes.now c.args.from c.args.place.now in
    let l2 = left c.args.vnodes.now c.args.from c.loop-count.place in
    let l3 = left c.args.vnodes.now c.args.from c.turn.new.place in
    let n = c.loop-count.count in
    let filled = c.loop-count.into in
    let room = take (length filled - n) (drop n filled) in
    gives_more l l2 l3 c.args.into.now filled room c.turn.new.room _ n c.in-Some.more c.loop-count.invariant (take_rest filled n) c.in-Some.ensures.gives (put_rest filled c.turn.new.room n (omega (arith, c.loop-count-test.true)))

pub returns-in-None-clause-count : goal.returns-in-None-clause-count
returns-in-None-clause-count c =
    let l = left c.args.vnodes.now c.args.from c.args.place.now in
    let l2 = left c.args.vnodes.now c.args.from c.loop-count.place in
    all_left c.loop-count.count c.args.into.now l l2 c.loop-count.into c.loop-count.invariant c.in-None.ensures.none

pub returns-clause-count : goal.returns-clause-count
returns-clause-count c =
    let l = left c.args.vnodes.now c.args.from c.args.place.now in
    let l2 = left c.args.vnodes.now c.args.from c.loop-count.place in
    all_room c.loop-count.count c.args.into.now l l2 c.loop-count.into c.loop-count.invariant (omega (arith, c.loop-count-test.false, c.loop-count.auto.into))
