use Rattle.std.proofs.Common.{subst, sym}
use Rattle.vnode_model.specs.Headers.{IsVolHeader}
use Rattle.dump_stream.proofs.SoundLaws.{header_fits}
use Rattle.dump_stream.proofs.records.header_from.Goals as goal

pub new-requires : goal.new-requires
new-requires c = subst IsVolHeader (sym c.in_ok-header.ensures) (header_fits c.args.fields.now c.requires.listed)
