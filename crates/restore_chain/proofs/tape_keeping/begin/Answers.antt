use Rattle.std.proofs.Common.{◌≡◌, true, rules, arith}
use Rattle.archive_model.specs.Holding.{called_frags}
use Rattle.restore_chain.proofs.VolumeLaws.{length_called}
use Rattle.restore_chain.proofs.KeepLaws.{all_unread, begun_all}
use Rattle.restore_chain.proofs.tape_keeping.begin.Goals as goal

pub returns-then-is_begun-clause-begun : goal.returns-then-is_begun-clause-begun
returns-then-is_begun-clause-begun c = λ slots d may id index begun.
    let v = c.args.volume.now in
    let yes : c.is_begun.result ≡ true = search rules in
    begun_all slots d may (called_frags id index 1 v v.frags) c.args.kept.now.items (omega (arith, length_called id index 1 v v.frags, c.frag_count-count.ensures.count, c.frag_count-count.ensures.some, c.is_begun.ensures yes)) begun

pub returns-in-Ok-clause-begun : goal.returns-in-Ok-clause-begun
returns-in-Ok-clause-begun c = λ slots d may id index begun.
    let v = c.args.volume.now in
    all_unread slots d may (called_frags id index 1 v v.frags) c.in-Ok.begun.items (omega (arith, length_called id index 1 v v.frags, c.frag_count-count.ensures.count, c.in-Ok.ensures.count)) c.in-Ok.ensures.none
