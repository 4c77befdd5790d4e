use Rattle.std.proofs.Common.{length}
use Rattle.budb_links.specs.Keys.{numbers_in}
use Rattle.budb_links.proofs.KeyedLaws.{same_keeps, grown_numbers, room_from}
use Rattle.budb_links.proofs.keys.Keys.reserve.Goals as goal

pub returns-clause-keeps : goal.returns-clause-keeps
returns-clause-keeps c =
    let old = c.args.self.now in
    let arena = c.reserve.new.self in
    let room = length arena.ends in
    let names = same_keeps 0 old.arena arena old.names (c.reserve.ensures.chains 0) c.reserve.ensures.kept_heads c.requires.keeps.0 in
    let ids = same_keeps 1 old.arena arena old.ids (c.reserve.ensures.chains 1) c.reserve.ensures.kept_heads c.requires.keeps.1 in
    let heads = c.in_ok-reserve.ensures.heads in (
      grown_numbers 0 arena old.names c.reserve-2.new.self names c.reserve-2.ensures.used c.reserve-2.ensures.spare (room_from (numbers_in c.reserve-2.new.self) (numbers_in old.names) c.args.places room c.reserve-2.ensures.most names.heads heads),
      grown_numbers 1 arena old.ids c.reserve-3.new.self ids c.reserve-3.ensures.used c.reserve-3.ensures.spare (room_from (numbers_in c.reserve-3.new.self) (numbers_in old.ids) c.args.places room c.reserve-3.ensures.most ids.heads heads),
    )

pub returns-in_err-reserve-2-clause-keeps : goal.returns-in_err-reserve-2-clause-keeps
returns-in_err-reserve-2-clause-keeps c =
    let old = c.args.self.now in
    let arena = c.reserve.new.self in
    let names = same_keeps 0 old.arena arena old.names (c.reserve.ensures.chains 0) c.reserve.ensures.kept_heads c.requires.keeps.0 in
    let ids = same_keeps 1 old.arena arena old.ids (c.reserve.ensures.chains 1) c.reserve.ensures.kept_heads c.requires.keeps.1 in
    let heads = c.in_ok-reserve.ensures.heads in (
      grown_numbers 0 arena old.names c.reserve-2.new.self names c.reserve-2.ensures.used c.reserve-2.ensures.spare (room_from (numbers_in c.reserve-2.new.self) (numbers_in old.names) c.args.places (length arena.ends) c.reserve-2.ensures.most names.heads heads),
      ids,
    )
