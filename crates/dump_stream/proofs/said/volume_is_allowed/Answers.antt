use Rattle.std.proofs.Common.{subst}
use Rattle.std.specs.Prelude.{All}
use Rattle.dump_stream.specs.Allowed.{AllowedHeader, AllowedVnode}
use Rattle.dump_stream.proofs.AllowedLaws.{selected_allowed}
use Rattle.dump_stream.proofs.said.volume_is_allowed.Goals as goal

pub returns : goal.returns
returns c =
    selected_allowed c.args.volume.now c.args.from c.args.to c.number_is_allowed.ensures c.number_is_allowed-2.ensures (subst AllowedHeader c.header.ensures c.header_is_allowed.ensures)
    (subst (All AllowedVnode) c.vnodes.ensures.value c.vnodes_are_allowed.ensures) c.vnodes.ensures.form
