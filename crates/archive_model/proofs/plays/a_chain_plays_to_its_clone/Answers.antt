use Rattle.std.proofs.Common.{None}
use Rattle.archive_model.proofs.ChainLaws.{chain_plays}
use Rattle.archive_model.proofs.plays.a_chain_plays_to_its_clone.Goals as goal

pub returns : goal.returns
returns c = λ slots name ds cs v. chain_plays slots name None ds cs v tt
