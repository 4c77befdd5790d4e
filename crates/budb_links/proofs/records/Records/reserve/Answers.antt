use Rattle.std.proofs.Common.{◌≡◌, ◌<◌, ◌≤◌, ◌+◌, ◌-◌, ℕ, Option, length, ◌∙◌, ap, subst, arith}
use Rattle.std.specs.Prelude.{SomeIff}
use Rattle.budb_links.specs.Chained.{chain_of}
use Rattle.budb_links.specs.Entries.{Recorded}
use Rattle.budb_links.specs.Stored.{entries_of}
use Rattle.budb_links.specs.Keyed.{filed_records}
use Rattle.budb_links.proofs.Room.{Roomy, asked, asked_long, asked_numbers}
use Rattle.budb_links.proofs.IdLaws.{numbered_wider}
use Rattle.budb_links.proofs.KeyedStoring.{wider_keys}
use Rattle.budb_links.proofs.records.Records.reserve.Goals as goal

pub invariant_of-self-2 : goal.invariant_of-self-2
invariant_of-self-2 c =
    let count = c.args.records - c.free-spare.result in
    let parts = subst (λ (o : Option ℕ). SomeIff o (c.places-first.result + count < 18446744073709551616) (c.places-first.result + count)) c.in_ok-total.ensures.ok_part c.checked_add.ensures in
    let enough : length c.self.inside.shelf + count ≤ length c.reserve.new.self.rows = omega (arith, parts, c.in_ok-reserve.ensures.places, c.places-first.ensures) in
    let heads : 0 < length c.reserve.new.self.ends = omega (arith, c.in_ok-reserve.ensures.heads) in
    let es = (entries_of c.self.inside.shelf (chain_of c.self.inside.arena 0 0)) in
    let made = asked c.self.inside.arena c.reserve.new.self c.self.inside.shelf c.widen.new.shelf c.self.inside.ids.spare c.widen.new.ids.spare es count c.self.invariant.0 c.widen.result c.widen.ensures.slots c.widen.ensures.err c.widen.ensures.spare c.widen.ensures.err_ids c.reserve.ensures.chains c.reserve.ensures.kept_places c.reserve.ensures.kept_heads enough heads in
    let long = asked_long c.self.inside.shelf c.widen.new.shelf count c.widen.result c.widen.ensures.slots c.widen.ensures.err in
    let numbered = c.self.invariant.1 in
    let total = asked_numbers c.self.inside.ids c.widen.new.ids c.self.inside.shelf c.widen.new.shelf c.widen.result numbered.count c.widen.ensures.used c.widen.ensures.total c.widen.ensures.err c.widen.ensures.err_ids in
    let es' = entries_of c.widen.new.shelf (chain_of c.reserve.new.self 0 0) in
    let ids = numbered_wider c.self.inside.ids c.widen.new.ids (length c.self.inside.shelf) (length c.widen.new.shelf) es es' numbered c.widen.ensures.used total made.same in
    let keys = wider_keys c.self.inside.keys c.reserve-2.new.self (length c.self.inside.shelf) (length c.widen.new.shelf) (filed_records es) (filed_records es') c.self.invariant.2 c.reserve-2.ensures.keeps c.reserve-2.ensures.chains (omega (arith, long, parts, c.places-first.ensures, c.in_ok-reserve-2.ensures.rows)) (λ family h. omega (arith, long, parts, c.places-first.ensures, c.in_ok-reserve-2.ensures.room family)) (ap filed_records made.same) in
    (made.stores, ids, keys)

pub returns-clause-entries : goal.returns-clause-entries
returns-clause-entries c =
    let count = c.args.records - c.free-spare.result in
    let parts = subst (λ (o : Option ℕ). SomeIff o (c.places-first.result + count < 18446744073709551616) (c.places-first.result + count)) c.in_ok-total.ensures.ok_part c.checked_add.ensures in
    let enough : length c.self.inside.shelf + count ≤ length c.reserve.new.self.rows = omega (arith, parts, c.in_ok-reserve.ensures.places, c.places-first.ensures) in
    let heads : 0 < length c.reserve.new.self.ends = omega (arith, c.in_ok-reserve.ensures.heads) in
    let made = asked c.self.inside.arena c.reserve.new.self c.self.inside.shelf c.widen.new.shelf c.self.inside.ids.spare c.widen.new.ids.spare (entries_of c.self.inside.shelf (chain_of c.self.inside.arena 0 0)) count c.self.invariant.0 c.widen.result c.widen.ensures.slots c.widen.ensures.err c.widen.ensures.spare c.widen.ensures.err_ids c.reserve.ensures.chains c.reserve.ensures.kept_places c.reserve.ensures.kept_heads enough heads in
    made.same ∙ ap (λ (l : Recorded). l.entries) c.self.view_is
