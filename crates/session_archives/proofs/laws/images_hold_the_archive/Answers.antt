use Rattle.session_archives.proofs.Images.{image_holds, joint_holds}
use Rattle.session_archives.proofs.laws.images_hold_the_archive.Goals as goal

pub returns-clause-behind : goal.returns-clause-behind
returns-clause-behind c = image_holds c.a_tape_is_read.ensures.one

pub returns-clause-on_the_way : goal.returns-clause-on_the_way
returns-clause-on_the_way c = joint_holds c.a_tape_is_read.ensures.one
