use Rattle.std.proofs.Common.{◌≡◌, ◌<◌, ◌-◌, ℕ, List, [], ◌∷◌, ◌++◌, length, take, drop, refl, sym, ◌∙◌, ap, subst, arith, append_assoc, length-drop}
use Rattle.std.specs.Prelude.{map, min}
use Rattle.std.proofs.lemmas.List.{append-nil, map-append, take_all}
use Rattle.std.proofs.lemmas.Bool.{eqb-true, eqb-false}
use Rattle.plant_core.specs.Effects.{Effect}
use Rattle.plant_effects.specs.Runs.{OnLoaded, Done, Leaves}
use Rattle.plant_effects.proofs.Joining.{nothing_done, nothing_left, nothing_quiet, done_both, leaves_both, leaves_more, quiet_both}
use Rattle.plant_effects.proofs.TapeLaws.{block_is_fine}
use Rattle.budb_save.specs.Blocks.{data_block}
use Rattle.budb_save.specs.Saves.{piece_record, pieces_of}
use Rattle.budb_save.specs.Writing.{putting_piece, HasRoomFor}
use Rattle.budb_save.proofs.PieceLaws.{not_zero, pieces_none, pieces_step, count_step}
use Rattle.budb_save.proofs.PutLaws.{room_more, on_put}
use Rattle.budb_save.proofs.writing.put_pieces.Goals as goal

pub loop-rest-init : goal.loop-rest-init
loop-rest-init g c =
    let P = g.P.Plant in
    let old = c.args.plant.now in
    record {
      before = [];
      joined = refl;
      sound = c.requires.sound;
      done = λ k at. nothing_done P old c.requires.sound;
      leaves = λ k at. nothing_left P [] old (λ told survives x left. g.met.P.Plant.left old x told c.requires.sound survives left);
      loaded = refl;
      room = c.requires.room;
      log_size = refl;
      loads = refl;
      stays = nothing_quiet P old;
      faults = refl;
    }

pub returns-in_err-put_piece-clause-leaves : goal.returns-in_err-put_piece-clause-leaves
returns-in_err-put_piece-clause-leaves g c = λ k at.
    let P = g.P.Plant in
    let old = c.args.plant.now in
    let mid = c.loop-rest.plant in
    let new = c.put_piece.new.plant in
    let so_far = c.loop-rest.invariant in
    let rest = c.loop-rest.rest.now in
    let n = c.min-count.result in
    let some : 0 < length rest = not_zero (length rest) (eqb-false _ _ (sym c.is_empty.ensures ∙ c.loop-rest-test.true)) in
    let is : n ≡ min (length rest) 16352 = omega (arith, c.min-count.ensures) in
    let all : map (putting_piece k) (pieces_of c.args.bytes.now) ≡ map (putting_piece k) so_far.before ++ (putting_piece k (take n rest) ∷ map (putting_piece k) (pieces_of (drop n rest)))
    = ap (map (putting_piece k)) (so_far.joined ∙ ap (λ (l : List (List ℕ)). so_far.before ++ l) (pieces_step rest n some is)) ∙ map-append (putting_piece k) so_far.before (take n rest ∷ pieces_of (drop n rest)) in
    subst (λ (es : List Effect). Leaves P es old new) (sym all)
    (leaves_both P (map (putting_piece k) so_far.before) (putting_piece k (take n rest) ∷ map (putting_piece k) (pieces_of (drop n rest))) old mid new (so_far.done k at) (so_far.leaves k at)
    (leaves_more P (putting_piece k (take n rest) ∷ []) (map (putting_piece k) (pieces_of (drop n rest))) mid new (c.put_piece.ensures.leaves k (so_far.loaded ∙ at))))

pub loop-rest-preserved : goal.loop-rest-preserved
loop-rest-preserved g c =
    let P = g.P.Plant in
    let old = c.args.plant.now in
    let mid = c.loop-rest.plant in
    let new = c.put_piece.new.plant in
    let so_far = c.loop-rest.invariant in
    let e = c.in_ok-put_piece.ensures in
    let rest = c.loop-rest.rest.now in
    let n = c.min-count.result in
    let piece = take n rest in
    let some : 0 < length rest = not_zero (length rest) (eqb-false _ _ (sym c.is_empty.ensures ∙ c.loop-rest-test.true)) in
    let is : n ≡ min (length rest) 16352 = omega (arith, c.min-count.ensures) in
    let tail : drop n rest ≡ take (length rest - n) (drop n rest) = sym (take_all (length rest - n) (drop n rest) (omega (arith, length-drop n rest))) in
    record {
      before = so_far.before ++ piece ∷ [];
      joined =
          so_far.joined ∙ ap (λ (l : List (List ℕ)). so_far.before ++ l) (pieces_step rest n some is) ∙ sym (append_assoc so_far.before (piece ∷ []) (pieces_of (drop n rest)))
          ∙ ap (λ (l : List ℕ). (so_far.before ++ piece ∷ []) ++ pieces_of l) tail;
      sound = e.sound;
      done = λ k at.
          subst (λ (es : List Effect). Done P es old new) (sym (map-append (putting_piece k) so_far.before (piece ∷ [])))
          (done_both P (map (putting_piece k) so_far.before) (putting_piece k piece ∷ []) old mid new (so_far.done k at) (e.done k (so_far.loaded ∙ at)));
      leaves = λ k at.
          subst (λ (es : List Effect). Leaves P es old new) (sym (map-append (putting_piece k) so_far.before (piece ∷ [])))
          (leaves_both P (map (putting_piece k) so_far.before) (putting_piece k piece ∷ []) old mid new (so_far.done k at) (so_far.leaves k at) (c.put_piece.ensures.leaves k (so_far.loaded ∙ at)));
      loaded = e.loaded ∙ so_far.loaded;
      room =
          (let left : length (drop n rest) ≡ length rest - min (length rest) 16352 = length-drop n rest ∙ ap (λ (m : ℕ). length rest - m) is in
          subst (λ (l : List ℕ). OnLoaded P (HasRoomFor (length l)) new) tail
          (on_put P (HasRoomFor (length (drop n rest))) (HasRoomFor (length rest)) (piece_record piece) mid new
          (room_more (length rest) (length (drop n rest)) (piece_record piece) (block_is_fine (data_block piece)) (count_step (length rest) (length (drop n rest)) some left)) so_far.room e.loaded e.done));
      log_size = e.log_size ∙ so_far.log_size;
      loads = c.put_piece.ensures.loads ∙ so_far.loads;
      stays = quiet_both P old mid new so_far.stays e.stays;
      faults = e.cause.stays ∙ so_far.faults;
    }

pub returns-clause-done : goal.returns-clause-done
returns-clause-done g c = λ k at.
    let so_far = c.loop-rest.invariant in
    let none : length c.loop-rest.rest.now ≡ 0 = eqb-true _ _ (sym c.is_empty.ensures ∙ c.loop-rest-test.false) in
    let all : pieces_of c.args.bytes.now ≡ so_far.before = so_far.joined ∙ ap (λ (l : List (List ℕ)). so_far.before ++ l) (pieces_none c.loop-rest.rest.now none) ∙ append-nil so_far.before in
    subst (λ (ps : List (List ℕ)). Done g.P.Plant (map (putting_piece k) ps) c.args.plant.now c.loop-rest.plant) (sym all) (so_far.done k at)

pub returns-clause-leaves : goal.returns-clause-leaves
returns-clause-leaves g c = λ k at.
    let so_far = c.loop-rest.invariant in
    let none : length c.loop-rest.rest.now ≡ 0 = eqb-true _ _ (sym c.is_empty.ensures ∙ c.loop-rest-test.false) in
    let all : pieces_of c.args.bytes.now ≡ so_far.before = so_far.joined ∙ ap (λ (l : List (List ℕ)). so_far.before ++ l) (pieces_none c.loop-rest.rest.now none) ∙ append-nil so_far.before in
    subst (λ (ps : List (List ℕ)). Leaves g.P.Plant (map (putting_piece k) ps) c.args.plant.now c.loop-rest.plant) (sym all) (so_far.leaves k at)
