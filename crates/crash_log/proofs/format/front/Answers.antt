use Rattle.std.proofs.Common.{◌∙◌, ap, refl}
use Rattle.crash_log.specs.Log.{place_of}
use Rattle.crash_log.proofs.Front.{front_is}
use Rattle.crash_log.proofs.format.front.Goals as goal

pub returns : goal.returns
returns c = front_is c.copy_from_slice.new.self _ c.copy_from_slice.ensures.len (ap place_of c.copy_from_slice.ensures.after ∙ c.fields.ensures.place) refl
