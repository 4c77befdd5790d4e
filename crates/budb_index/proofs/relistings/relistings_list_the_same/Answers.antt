use Rattle.budb_index.proofs.Listing.{listed_same}
use Rattle.budb_index.proofs.relistings.relistings_list_the_same.Goals as goal

pub returns : goal.returns
returns c = listed_same
