use Rattle.std.proofs.Common.{◌≡◌, ◌<◌, ◌+◌, [], ◌∷◌, ◌++◌, List, length, take, sym, ◌∙◌, ap, subst, arith}
use Rattle.std.proofs.lemmas.List.{take_more}
use Rattle.media_core.specs.declared.event.Event.{Event}
use Rattle.media_core.specs.Tracks.{Tracks}
use Rattle.media_core.proofs.replay.all_picked.Goals as goal

pub loop-event-preserved : goal.loop-event-preserved
loop-event-preserved c =
    let past = c.args.past.now in
    let n = c.loop-event.event-index in
    let below : n < length past = omega arith in
    let more : take (n + 1) past ≡ take n past ++ c.event-item.result ∷ [] = take_more past n c.event-item.result below ∙ ap (λ (e : Event). take n past ++ e ∷ []) (sym c.event-item.is) in
    subst (λ (es : List Event). Tracks c.args.pick es c.replay_event.new.files.items c.replay_event.new.picked.items) (sym more) (c.in_ok-replay_event.ensures (take n past) c.loop-event.invariant)
