use Rattle.std.proofs.Common.{◌≡◌, true, Ok, Err, sym, ◌∙◌, subst, rules}
use Rattle.restore_chain.specs.declared.fault.LookFault.TheVariants.{Failed, Memory}
use Rattle.restore_chain.specs.declared.play_volume.Turn.TheVariants as turns
use Rattle.restore_chain.specs.declared.play_fragment.Ended.{Ended}
use Rattle.restore_chain.specs.Playing.{lying_of, EndsSo}
use Rattle.tape_scan.proofs.Looking.{looks_none}
use Rattle.restore_chain.proofs.LoadLaws.{looks_err, looks_ok}
use Rattle.restore_chain.proofs.VolumeLaws.{held_here, frag_whole, frag_bad, one_there}
use Rattle.restore_chain.proofs.play_volume.play_frag.Goals as goal

pub returns-in-Err-clause-looks : goal.returns-in-Err-clause-looks
returns-in-Err-clause-looks g c =
    looks_none g.P.Plant Failed c.args.plant.now (Err Memory) c.requires.sound (λ told survives x left. g.met.P.Plant.left c.args.plant.now x told c.requires.sound survives left) (λ is. absurd (cc))

pub returns-then-not-here-clause-looks : goal.returns-then-not-here-clause-looks
returns-then-not-here-clause-looks g c =
    looks_none g.P.Plant Failed c.args.plant.now (Ok (turns.Bad (record { tape = c.in-Ok.called.tape; place = c.in-Ok.called.at }))) c.requires.sound
    (λ told survives x left. g.met.P.Plant.left c.args.plant.now x told c.requires.sound survives left) (λ is. absurd (cc))

pub returns-then-not-here-clause-turns : goal.returns-then-not-here-clause-turns
returns-then-not-here-clause-turns g c = λ told slots d call s has there held.
    let at = held_here slots d call.tape c.args.need.now.slot s held in
    let is_here : c.here.result ≡ true = c.here.ensures ∙ sym (has.each c.args.need.now.slot s at.0).here ∙ at.1 in
    absurd (search rules)

pub returns-in-Whole-clause-turns : goal.returns-in-Whole-clause-turns
returns-in-Whole-clause-turns g c = λ told slots d call s has there held.
    let at = held_here slots d call.tape c.args.need.now.slot s held in
    let same = one_there _ (lying_of c.in-Ok.called) call c.in-Ok.ensures there in
    let ends = c.in-Ok-play_on.ensures.ends told slots s has at.0 in
    frag_whole slots d call (lying_of c.in-Ok.called) c.args.need.now.slot s c.in-Whole.place c.args.joined.now c.play_on.new.joined same held
    (subst (λ (x : Ended). EndsSo (lying_of c.in-Ok.called) s.items c.args.joined.now c.play_on.new.joined x) c.in-Whole.is ends)

pub returns-clause-turns : goal.returns-clause-turns
returns-clause-turns g c = λ told slots d call s has there held.
    let at = held_here slots d call.tape c.args.need.now.slot s held in
    let same = one_there _ (lying_of c.in-Ok.called) call c.in-Ok.ensures there in
    let ends = c.in-Ok-play_on.ensures.ends told slots s has at.0 in
    frag_bad slots d call (lying_of c.in-Ok.called) c.args.need.now.slot s c.in-Bad.place c.args.joined.now c.play_on.new.joined same held
    (subst (λ (x : Ended). EndsSo (lying_of c.in-Ok.called) s.items c.args.joined.now c.play_on.new.joined x) c.in-Bad.is ends)

pub returns-in-Err-play_on-clause-looks : goal.returns-in-Err-play_on-clause-looks
returns-in-Err-play_on-clause-looks g c = looks_err g.P.Plant Failed c.in-Err-play_on.fault c.args.plant.now c.play_on.new.plant c.in-Err-play_on.ensures.looks

pub returns-in-Whole-clause-looks : goal.returns-in-Whole-clause-looks
returns-in-Whole-clause-looks g c = looks_ok g.P.Plant Failed c.in-Ok-play_on.ended _ c.args.plant.now c.play_on.new.plant c.in-Ok-play_on.ensures.looks

pub returns-clause-looks : goal.returns-clause-looks
returns-clause-looks g c = looks_ok g.P.Plant Failed c.in-Ok-play_on.ended _ c.args.plant.now c.play_on.new.plant c.in-Ok-play_on.ensures.looks
