use Rattle.std.proofs.Common.{◌≡◌, List, sym, subst, ◌∙◌}
use Rattle.archive_model.specs.Plays.{Piece}
use Rattle.restore_chain.specs.declared.keeping.Kept.{Kept}
use Rattle.restore_chain.specs.Playing.{Joins}
use Rattle.restore_chain.specs.Keeping.{IsRead}
use Rattle.restore_chain.proofs.KeepLaws.{read_turn}
use Rattle.restore_chain.proofs.kept_playing.join_one.Goals as goal

pub returns-in_ok-join_pieces-in-Whole-clause-turns : goal.returns-in_ok-join_pieces-in-Whole-clause-turns
returns-in_ok-join_pieces-in-Whole-clause-turns c = λ slots d call read.
    read_turn slots d call _ _ c.args.joined.now c.join_pieces.new.joined
    (subst (IsRead slots d call) c.in-Whole.is read)
    (subst (λ (l : List Piece). Joins l c.args.joined.now c.join_pieces.new.joined) c.as_slice.ensures c.in_ok-join_pieces-in-Whole.ensures.joins)

pub returns-in-Bad-clause-turns : goal.returns-in-Bad-clause-turns
returns-in-Bad-clause-turns c = λ slots d call read. subst (IsRead slots d call) c.in-Bad.is read

pub returns-in-Unread-clause-turns : goal.returns-in-Unread-clause-turns
returns-in-Unread-clause-turns c = λ slots d call read. absurd (subst (IsRead slots d call) c.in-Unread.is read)

pub returns-in-Missing-clause-turns : goal.returns-in-Missing-clause-turns
returns-in-Missing-clause-turns c = λ slots d call read. absurd (subst (IsRead slots d call) c.in-Missing.is read)

pub returns-in-Held-clause-turns : goal.returns-in-Held-clause-turns
returns-in-Held-clause-turns c = λ slots d call read. absurd (subst (IsRead slots d call) c.in-Held.is read)
