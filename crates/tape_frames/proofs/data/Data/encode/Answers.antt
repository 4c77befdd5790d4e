use Rattle.std.proofs.Common.{◌++◌, ℕ, List, replicate, ap, ◌∙◌}
use Rattle.byte_formats.specs.Bytes.{four}
use Rattle.tape_frames.specs.declared.data.DataFields.{DataFields}
use Rattle.tape_frames.specs.Blocks.{padded, block_of}
use Rattle.tape_frames.specs.Layouts.{data_bytes}
use Rattle.tape_frames.proofs.Pages.{join}
use Rattle.tape_frames.proofs.data.Data.encode.Goals as goal

pub returns-clause-block : goal.returns-clause-block
returns-clause-block c =
    c.finish.ensures
    ∙ ap (padded 16384) (join c.new-page.result c.four.new.self c.piece.new.self (four c.self.inside.fields.dump) (four c.self.inside.fields.index ++ (four c.self.inside.fields.used ++ (replicate 12 0 ++ (c.self.inside.fields.bytes)))) (join c.four.new.self c.four-2.new.self c.piece.new.self (four c.self.inside.fields.index) (four c.self.inside.fields.used ++ (replicate 12 0 ++ (c.self.inside.fields.bytes))) (join c.four-2.new.self c.four-3.new.self c.piece.new.self (four c.self.inside.fields.used) (replicate 12 0 ++ (c.self.inside.fields.bytes)) (join c.four-3.new.self c.zeros.new.self c.piece.new.self (replicate 12 0) (c.self.inside.fields.bytes) (c.piece.ensures.value) (c.zeros.ensures.value)) (c.four-3.ensures.value)) (c.four-2.ensures.value)) (c.four.ensures.value))
    ∙ ap (λ (h : List ℕ). padded 16384 (h ++ data_bytes c.self.inside.fields)) c.new-page.ensures.value
    ∙ ap (λ (a : DataFields). block_of 1 4 (data_bytes a)) c.self.view_is
