use Rattle.std.proofs.Common.{◌≡◌, ◌<◌, ◌≤◌, ◌+◌, length, arith}
use Rattle.dump_stream.specs.Forms.{size_len, size_in}
use Rattle.dump_stream.proofs.FormLaws.{data_more, bytes_from}
use Rattle.dump_stream.proofs.judge.judge_data.Goals as goal

pub returns-then-payload-before : goal.returns-then-payload-before
returns-then-payload-before c =
    let p = c.args.payload.now in
    let wide = c.args.wide in
    let small : size_in wide p ≤ c.args.limit = omega (arith, c.size_at-size.ensures, c.if-size-limit.false) in
    let few : length p < size_len wide + size_in wide p = omega (arith, c.size_at-size.ensures, c.len_of_size-before.ensures, c.if-payload-before.true) in
    data_more wide c.args.limit p (bytes_from p (λ i. omega (arith, c.type_inv.payload i))) small few

pub returns-then-payload-before-2 : goal.returns-then-payload-before-2
returns-then-payload-before-2 c =
    let p = c.args.payload.now in
    let wide = c.args.wide in
    let small : size_in wide p ≤ c.args.limit = omega (arith, c.size_at-size.ensures, c.if-size-limit.false) in
    let all : length p ≡ size_len wide + size_in wide p = omega (arith, c.size_at-size.ensures, c.len_of_size-before.ensures, c.if-payload-before-2.true) in
    (bytes_from p (λ i. omega (arith, c.type_inv.payload i)), (small, all))
