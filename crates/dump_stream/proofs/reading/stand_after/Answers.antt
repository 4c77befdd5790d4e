use Rattle.std.proofs.Common.{subst}
use Rattle.dump_stream.specs.declared.sofar.Sofar.TheVariants.{Vnode}
use Rattle.dump_stream.specs.Sound.{IsSound}
use Rattle.dump_stream.proofs.SoundLaws.{access_whole}
use Rattle.dump_stream.proofs.reading.stand_after.Goals as goal

pub after_vnode-requires : goal.after_vnode-requires
after_vnode-requires c =
    let v = c.in-Vnode in
    let sound : IsSound (Vnode v.made v.room v.number v.uniq v.fields) = subst IsSound v.is c.requires.sound in
    access_whole v.number v.room v.fields sound.0
