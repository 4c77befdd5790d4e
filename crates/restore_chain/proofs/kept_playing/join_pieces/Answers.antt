use Rattle.std.proofs.Common.{◌≡◌, ◌+◌, ◌<◌, ◌≤◌, List, [], ◌∷◌, ◌++◌, length, take, get_or, sym, ◌∙◌, ap, subst, arith}
use Rattle.std.proofs.lemmas.List.{take_more, take_all}
use Rattle.archive_model.specs.Plays.{Piece}
use Rattle.restore_chain.specs.Playing.{spot_of, Joins}
use Rattle.restore_chain.proofs.JoinLaws.{joins_none, joins_both}
use Rattle.restore_chain.proofs.kept_playing.join_pieces.Goals as goal

pub loop-kept-init : goal.loop-kept-init
loop-kept-init c = record { joins = joins_none c.args.joined.now; is_open = c.requires.is_open }

pub loop-kept-preserved : goal.loop-kept-preserved
loop-kept-preserved c =
    let ps = c.args.pieces.now in
    let i = c.loop-kept.kept-index in
    let p = c.kept-item.result in
    let within : i < length ps = omega (arith, c.loop-kept-test.true) in
    let front : take (i + 1) ps ≡ take i ps ++ p ∷ [] = take_more ps i p within ∙ ap (λ (x : Piece). take i ps ++ x ∷ []) (sym c.kept-item.is) in
    let one : record { spot = spot_of c.site.result; data_frame = c.fields.result.now } ∷ [] ≡ p ∷ [] = (λ i. record { spot = c.site.ensures i; data_frame = c.fields.ensures.is i } ∷ []) in
    record {
      joins = subst (λ (l : List Piece). Joins l c.args.joined.now c.take.new.self) (sym front)
          (joins_both (take i ps) (p ∷ []) c.args.joined.now c.loop-kept.joined c.take.new.self c.loop-kept.invariant.joins (subst (λ (l : List Piece). Joins l c.loop-kept.joined c.take.new.self) one c.in_ok-take.ensures.joins));
      is_open = c.in_ok-take.ensures.is_open;
    }

pub returns-clause-joins : goal.returns-clause-joins
returns-clause-joins c =
    let ps = c.args.pieces.now in
    let past : length ps ≤ c.loop-kept.kept-index = omega (arith, c.loop-kept-test.false) in
    subst (λ (l : List Piece). Joins l c.args.joined.now c.loop-kept.joined) (take_all c.loop-kept.kept-index ps past) c.loop-kept.invariant.joins
