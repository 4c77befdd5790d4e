use Rattle.std.proofs.Common.{ℕ, [], ◌∷◌, ◌++◌}
use Rattle.std.specs.List.{flat_map}
use Rattle.std.specs.Int.{w32, to_be_bytes}
use Rattle.dump_stream.proofs.PartLaws.{row2}
use Rattle.dump_stream.proofs.part.Part.times.Goals as goal

pub returns-clause-bytes : goal.returns-clause-bytes
returns-clause-bytes c = row2 c.args.self.now (c.args.tag ∷ 0 ∷ 2 ∷ []) (flat_map (to_be_bytes w32) (c.args.from ∷ c.args.to ∷ [])) c.field.ensures.bytes c.words.ensures.bytes
