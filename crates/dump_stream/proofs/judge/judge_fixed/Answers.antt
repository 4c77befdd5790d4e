use Rattle.std.proofs.Common.{arith, length, drop}
use Rattle.dump_stream.proofs.FormLaws.{fixed_within, fixed_apart_short, fixed_apart_long, fixed_more, fixed_whole, begins_true, begins_false, bytes_from}
use Rattle.dump_stream.proofs.judge.judge_fixed.Goals as goal

pub returns-then-starts_with : goal.returns-then-starts_with
returns-then-starts_with c =
    let front = c.args.front.now in
    let p = c.args.payload.now in
    fixed_within front p (drop (length p) front) c.args.count (bytes_from front (λ i. omega (arith, c.type_inv.front i)))
    (begins_true front p c.starts_with.result c.starts_with.ensures.value c.if-starts_with.true) c.if-payload-front.true

pub returns-else-starts_with : goal.returns-else-starts_with
returns-else-starts_with c =
    fixed_apart_short c.args.front.now c.args.payload.now c.args.count c.if-payload-front.true
    (begins_false c.args.front.now c.args.payload.now c.starts_with.result c.starts_with.ensures.value c.if-starts_with.false)

pub returns-then-not-starts_with : goal.returns-then-not-starts_with
returns-then-not-starts_with c =
    fixed_apart_long c.args.front.now c.args.payload.now c.args.count c.if-payload-front.false
    (begins_false c.args.payload.now c.args.front.now c.starts_with-else-payload-front.result c.starts_with-else-payload-front.ensures.value c.if-not-starts_with.true)

pub returns-then-payload-front-2 : goal.returns-then-payload-front-2
returns-then-payload-front-2 c =
    let front = c.args.front.now in
    let p = c.args.payload.now in
    fixed_more front p (drop (length front) p) c.args.count (bytes_from p (λ i. omega (arith, c.type_inv.payload i)))
    (begins_true p front c.starts_with-else-payload-front.result c.starts_with-else-payload-front.ensures.value c.if-not-starts_with.false) c.if-payload-front-2.true

pub returns-then-payload-front-3 : goal.returns-then-payload-front-3
returns-then-payload-front-3 c =
    let front = c.args.front.now in
    let p = c.args.payload.now in
    fixed_whole front p (drop (length front) p) c.args.count (bytes_from p (λ i. omega (arith, c.type_inv.payload i)))
    (begins_true p front c.starts_with-else-payload-front.result c.starts_with-else-payload-front.ensures.value c.if-not-starts_with.false) (omega arith)
