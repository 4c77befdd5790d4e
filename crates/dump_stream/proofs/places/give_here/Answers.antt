use Rattle.std.proofs.Common.{◌≡◌, ◌<◌, ◌≤◌, ℕ, List, [], ◌++◌, length, drop, ap, sym, subst, ◌∙◌, arith}
use Rattle.dump_stream.specs.Left.{step_data, behind, Gives}
use Rattle.dump_stream.proofs.LeftLaws.{gives_behind, append_nil_parts}
use Rattle.dump_stream.proofs.places.give_here.Goals as goal

pub returns-clause-gives : goal.returns-clause-gives
returns-clause-gives c =
    let place = c.args.place.now in
    let body = step_data c.args.vnodes.now c.args.from place.step in
    let taken2 = c.give_from-count.new.at in
    let given2 = c.give_from-count-2.new.at in
    let room = c.args.room.now in
    let room1 = c.give_from-count.new.room in
    let room2 = c.give_from-count-2.new.room in
    let n = c.give_from-count-2.result in
    let zero_is : c.give_from-count.result ≡ 0 = omega arith in
    let none : drop place.taken place.part ≡ [] = ap (λ (x : List ℕ). drop place.taken x) (sym c.as_slice.ensures) ∙ c.give_from-count.ensures.none zero_is c.requires in
    let first : Gives (drop place.taken place.part) (drop taken2 place.part) room room1 0 =
    subst (λ (x : List ℕ). Gives (drop place.taken x) (drop taken2 x) room room1 0) c.as_slice.ensures
    (subst (λ (k : ℕ). Gives (drop place.taken c.as_slice.result.now) (drop taken2 c.as_slice.result.now) room room1 k) zero_is c.give_from-count.ensures.gives) in
    let second : Gives (drop place.given body) (drop given2 body) room1 room2 n =
    subst (λ (x : List ℕ). Gives (drop place.given x) (drop given2 x) room1 room2 n) c.data_at-data.ensures c.give_from-count-2.ensures.gives in
    gives_behind (drop place.taken place.part) (drop taken2 place.part) (drop place.given body) (drop given2 body) (behind c.args.vnodes.now c.args.from place.step) room room1 room2 n none first second

pub returns-clause-none : goal.returns-clause-none
returns-clause-none c = λ zero2.
    let place = c.args.place.now in
    let body = step_data c.args.vnodes.now c.args.from place.step in
    let taken2 = c.give_from-count.new.at in
    let given2 = c.give_from-count-2.new.at in
    let room = c.args.room.now in
    let room1 = c.give_from-count.new.room in
    let room2 = c.give_from-count-2.new.room in
    let zero_is : c.give_from-count.result ≡ 0 = omega arith in
    let none : drop place.taken place.part ≡ [] = ap (λ (x : List ℕ). drop place.taken x) (sym c.as_slice.ensures) ∙ c.give_from-count.ensures.none zero_is c.requires in
    let first : Gives (drop place.taken place.part) (drop taken2 place.part) room room1 0 =
    subst (λ (x : List ℕ). Gives (drop place.taken x) (drop taken2 x) room room1 0) c.as_slice.ensures
    (subst (λ (k : ℕ). Gives (drop place.taken c.as_slice.result.now) (drop taken2 c.as_slice.result.now) room room1 k) zero_is c.give_from-count.ensures.gives) in
    let room_is : room1 ≡ room = first.filled_with in
    let some : 0 < length room1 = subst (λ (x : List ℕ). 0 < length x) (sym room_is) c.requires in
    let data_none : drop place.given body ≡ [] = ap (λ (x : List ℕ). drop place.given x) (sym c.data_at-data.ensures) ∙ c.give_from-count-2.ensures.none zero2 some in
    let second : Gives (drop place.given body) (drop given2 body) room1 room2 0 =
    subst (λ (x : List ℕ). Gives (drop place.given x) (drop given2 x) room1 room2 0) c.data_at-data.ensures
    (subst (λ (k : ℕ). Gives (drop place.given c.data_at-data.result.now) (drop given2 c.data_at-data.result.now) room1 room2 k) zero2 c.give_from-count-2.ensures.gives) in
    append_nil_parts (drop taken2 place.part) (drop given2 body) (first.after_is ∙ none) (second.after_is ∙ data_none)
