-- What stands in a cell, as the types allow it: each number fits its bytes, and each text is one of its kind.
use Rattle.std.specs.Prelude.{All}
use Rattle.bk_text.specs.Alphabets.{IsName, IsHost}
use Rattle.vnode_model.specs.declared.volumes.VolumeFields.{VolumeFields}
use Rattle.vnode_model.specs.Limits.{AreVolume}
use Rattle.dump_stream.specs.Allowed.{AllowedHeader, AllowedVnode}
use Rattle.cell_core.specs.declared.stored.Stored.{Stored}
use Rattle.cell_core.specs.declared.stored.Image.{Image}
use Rattle.cell_core.specs.declared.stored.Image.TheVariants.{Good, Bad}

-- a volume with a header and vnodes whose numbers fit their bytes, and with vnodes in order and within the limits
pub record IsVolumeForm (v : VolumeFields) : Type 0 where
  pub header : AllowedHeader v.header
  pub vnodes : All AllowedVnode v.vnodes
  pub fit : AreVolume v.vnodes

-- an image whose volume, where it is a good one, is as the types allow it; of a bad one nothing is asked
abbrev pub IsImageForm : Image → Type 0
IsImageForm (Good volume) = IsVolumeForm volume
IsImageForm (Bad at) = Unit {0}

-- what is stored, with texts of their kinds as name, server and partition, and an image as the types allow it
pub record IsStoredForm (s : Stored) : Type 0 where
  pub name : IsName s.name
  pub server : IsHost s.server
  pub partition : IsName s.partition
  pub image : IsImageForm s.image
