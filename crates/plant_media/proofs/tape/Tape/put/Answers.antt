use Rattle.std.proofs.Common.{◌++◌, [], ◌∷◌, ◌∙◌, ap, refl, arith}
use Rattle.plant_core.specs.Records.{Record}
use Rattle.plant_media.specs.Loaded.{tape_in}
use Rattle.plant_media.specs.Cutting.{record_block}
use Rattle.plant_media.proofs.tape.Tape.put.Goals as goal

pub returns-clause-tape : goal.returns-clause-tape
returns-clause-tape g c = λ told.
    c.in_ok-put_record.ensures.tape told ∙ ap (λ (r : Record). tape_in c.args.self.now (g.M.Media.seen c.args.media.now) ++ r ∷ []) (record_block (0 ∷ c.args.block.now) (omega arith) refl)
