use Rattle.std.proofs.Common.{◌≡◌, ◌+◌, ◌<◌, ◌++◌, ℕ, Option, length, ◌∙◌, ap, subst, arith}
use Rattle.std.proofs.lemmas.List.{length-append}
use Rattle.std.specs.Prelude.{Result, Ok, Err, OnOk, SomeIff}
use Rattle.budb_links.specs.Keys.{numbers_in}
use Rattle.budb_links.specs.Stored.{numbers_from}
use Rattle.budb_links.proofs.Room.{numbers_long}
use Rattle.budb_links.proofs.ids.widen.Goals as goal

on_ok : {T E P Q : Type 0} (r : Result T E) → (Q → P) → OnOk r Q → OnOk r P
on_ok (Ok v) f h = f h
on_ok (Err e) f h = tt

pub returns-else-is_err-clause-spare : goal.returns-else-is_err-clause-spare
returns-else-is_err-clause-spare c =
    let count = c.args.count in
    let old = c.args.ids.now in
    let parts = subst (λ (o : Option ℕ). SomeIff o (c.places-first.result + count < 18446744073709551616) (c.places-first.result + count)) c.in_ok-total.ensures.ok_part c.checked_add.ensures in
    let more = c.reserve-made.ensures.spare in
    on_ok
    c.reserve-made.result
    (λ whole.
    let long = ap length more.1 ∙ length-append old.spare (numbers_from (numbers_in old) more.0) in
    let used = ap length c.reserve-made.ensures.used in
    let is : more.0 ≡ count = omega (arith, whole, parts, long, used, numbers_long (numbers_in old) more.0, c.places-first.ensures, c.requires.places) in
    more.1 ∙ ap (λ (n : ℕ). old.spare ++ numbers_from (numbers_in old) n) is ∙ ap (λ (n : ℕ). old.spare ++ numbers_from n count) c.requires.places)
    c.reserve-made.ensures.ok
