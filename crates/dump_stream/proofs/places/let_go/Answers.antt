use Rattle.std.proofs.Common.{◌≡◌, ◌∙◌, ap}
use Rattle.vnode_model.specs.declared.volumes.VolumeFields.{VolumeFields}
use Rattle.dump_stream.specs.Left.{left}
use Rattle.dump_stream.proofs.LeftLaws.{none_behind_none}
use Rattle.dump_stream.proofs.places.let_go.Goals as goal

pub returns : goal.returns
returns c = λ since none.
    ap (λ (v : VolumeFields). left v.vnodes since c.args.place.now) c.clear.ensures ∙ none_behind_none c.args.volume.now.vnodes since c.args.place.now none
