use Rattle.std.proofs.Common.{◌≡◌, ◌+◌, ◌-◌, ◌++◌, ℕ, List, length, sym, ◌∙◌, ap, subst, arith, rules, inr}
use Rattle.std.proofs.lemmas.List.{length-append}
use Rattle.budb_links.specs.Keys.{Numbering, Ascending, numbers_in}
use Rattle.budb_links.specs.Stored.{numbers_from}
use Rattle.budb_links.proofs.Room.{numbers_long}
use Rattle.budb_links.proofs.numbers.Numbers.reserve.Goals as goal

pub invariant_of-self-then-have-total : goal.invariant_of-self-then-have-total
invariant_of-self-then-have-total c =
    let have = c.len-used.result + c.len.result in
    let count = c.args.total - have in
    let items = ap length c.add_free.ensures.items ∙ length-append c.reserve-then-have-total.new.self.items (numbers_from have count) in
    let more = numbers_long have count in
    let used = ap length c.reserve.ensures.items in
    let spare = ap length c.reserve-then-have-total.ensures.items in (
      subst Ascending (sym c.reserve.ensures.items) c.self.invariant.0,
      omega (arith, items, more, used, spare, c.len-used.ensures, c.len.ensures, c.in_ok-reserve.ensures.ok, c.self.inside.slots.ok.0, c.if-have-total.true),
      omega (arith, items, more, used, spare, c.len-used.ensures, c.len.ensures, c.in_ok-reserve-2.ensures.ok, c.add_free.ensures.capacity, c.self.inside.spare.ok.0, c.if-have-total.true),
    )

pub returns-in_ok-reserve-2-clause-spare : goal.returns-in_ok-reserve-2-clause-spare
returns-in_ok-reserve-2-clause-spare c =
    let have = c.len-used.result + c.len.result in
    let count = c.args.total - have in
    let is : have ≡ numbers_in c.args.self.now = search rules in
    (count, c.add_free.ensures.items ∙ ap (λ (t : List ℕ). t ++ numbers_from have count) c.reserve-then-have-total.ensures.items ∙ ap (λ (n : ℕ). c.self.inside.spare.items ++ numbers_from n count) is ∙ ap (λ (v : Numbering). v.spare ++ numbers_from (numbers_in c.args.self.now) count) c.self.view_is)

pub returns-in_ok-reserve-2-clause-ok : goal.returns-in_ok-reserve-2-clause-ok
returns-in_ok-reserve-2-clause-ok c =
    let have = c.len-used.result + c.len.result in
    let count = c.args.total - have in
    let items = ap length c.add_free.ensures.items ∙ length-append c.reserve-then-have-total.new.self.items (numbers_from have count) in
    let more = numbers_long have count in
    let used = ap length c.reserve.ensures.items in
    let spare = ap length c.reserve-then-have-total.ensures.items in
    omega (arith, items, more, used, spare, c.len-used.ensures, c.len.ensures, c.self.inside.slots.ok.0, c.self.inside.spare.ok.0, c.if-have-total.true)

pub returns-in_ok-reserve-2-clause-most : goal.returns-in_ok-reserve-2-clause-most
returns-in_ok-reserve-2-clause-most c =
    let have = c.len-used.result + c.len.result in
    let count = c.args.total - have in
    let items = ap length c.add_free.ensures.items ∙ length-append c.reserve-then-have-total.new.self.items (numbers_from have count) in
    let more = numbers_long have count in
    let used = ap length c.reserve.ensures.items in
    let spare = ap length c.reserve-then-have-total.ensures.items in
    inr (omega (arith, items, more, used, spare, c.len-used.ensures, c.len.ensures, c.self.inside.slots.ok.0, c.self.inside.spare.ok.0, c.if-have-total.true))
