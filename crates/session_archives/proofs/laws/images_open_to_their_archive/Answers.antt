use Rattle.session_archives.proofs.Images.{opened_again, known_again}
use Rattle.session_archives.proofs.laws.images_open_to_their_archive.Goals as goal

pub returns-clause-holds : goal.returns-clause-holds
returns-clause-holds c = λ w contents effects image start held v setting is log bytes tapes settled has group. opened_again w contents effects image held v setting is log tapes bytes start.within settled has group

pub returns-clause-ids : goal.returns-clause-ids
returns-clause-ids c = known_again
