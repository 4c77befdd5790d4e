use Rattle.archive_model.proofs.StillLaws.{joint_holds}
use Rattle.archive_model.proofs.images.a_joint_image_holds_the_archive_of_its_count.Goals as goal

pub returns : goal.returns
returns c = λ es archives s old image held joint. joint_holds es archives s joint.count image held joint.within joint.left
