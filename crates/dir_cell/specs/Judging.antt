-- What the bytes of an image are.
use Rattle.std.specs.Prelude.{◌≡◌, ◌⊎◌, ℕ, List, None, Ok}
use Rattle.vnode_model.specs.declared.volumes.VolumeFields.{VolumeFields}
use Rattle.vnode_model.specs.Increments.{applied}
use Rattle.dump_stream.specs.declared.input.Input.{Input}
use Rattle.dump_stream.specs.declared.input.Input.TheVariants.{Stream, Cut, Bad, Followed}
use Rattle.cell_core.specs.declared.stored.Image.{Image}
use Rattle.cell_core.specs.declared.stored.Image.TheVariants as images

-- a read/write or a backup volume, whose name is the image's
pub record MayStand (name : List ℕ) (volume : VolumeFields) : Type 0 where
  pub kind : (volume.header.kind ≡ 0) ⊎ (volume.header.kind ≡ 2)
  pub named : volume.header.name ≡ name

-- An image of a name is a volume where its bytes are one stream that says all of a volume which may stand there. Else it is
-- bad: at the place of the first wrong byte, at its length where it is cut short, and at 0 where its bytes begin with a stream.
abbrev pub IsJudged : List ℕ → Input → Image → Type 0
IsJudged name (Stream i) (images.Good volume) = (applied None i ≡ Ok volume) × MayStand name volume
IsJudged name (Stream i) (images.Bad at) = (at ≡ 0) × ((volume : VolumeFields) → applied None i ≡ Ok volume → MayStand name volume → ⊥)
IsJudged name (Cut length) (images.Bad at) = at ≡ length
IsJudged name (Bad place) (images.Bad at) = at ≡ place
IsJudged name (Followed length) (images.Bad at) = at ≡ 0
IsJudged name (Cut length) (images.Good volume) = ⊥
IsJudged name (Bad place) (images.Good volume) = ⊥
IsJudged name (Followed length) (images.Good volume) = ⊥
