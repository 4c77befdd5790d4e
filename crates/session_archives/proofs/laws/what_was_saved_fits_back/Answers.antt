use Rattle.backup_script.specs.Scripts.{script}
use Rattle.session_archives.proofs.SavedFits.{records, saved_held, saved_fits}
use Rattle.session_archives.proofs.laws.what_was_saved_fits_back.Goals as goal

pub returns-clause-held : goal.returns-clause-held
returns-clause-held c = λ w v moments lines held heads ready media.
    let u = (script w moments lines).world in
    let came = c.scripts_keep_the_archive.ensures.since w moments lines held ready in
    let later = c.scripts_keep_the_archive.ensures.behind w moments lines held ready in
    (records w u v held heads came later media, saved_held w u v held heads came later media)

pub returns-clause-fits : goal.returns-clause-fits
returns-clause-fits c = λ w v moments lines held heads ready media dumps are fair.
    let u = (script w moments lines).world in
    let came = c.scripts_keep_the_archive.ensures.since w moments lines held ready in
    let later = c.scripts_keep_the_archive.ensures.behind w moments lines held ready in
    saved_fits w u v held heads came later media dumps are fair
