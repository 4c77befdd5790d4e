use Rattle.std.proofs.Common.{◌+◌, refl}
use Rattle.dump_stream.specs.declared.places.Place.{Place}
use Rattle.dump_stream.proofs.LeftLaws.{end_begun}
use Rattle.dump_stream.proofs.places.begin_end.Goals as goal

pub returns-clause-left : goal.returns-clause-left
returns-clause-left c =
    let old = c.args.place.now in
    let new : Place = record { part = c.put_end.new.part; step = old.step + 1; taken = 0; given = 0 } in
    end_begun c.args.vnodes.now c.args.from old new c.requires.given c.requires.last c.put_end.ensures refl refl refl
