use Rattle.std.proofs.Common.{arith}
use Rattle.std.proofs.lemmas.Bool.{iff_false}
use Rattle.std.proofs.lemmas.List.Elements.{All-nil}
use Rattle.bk_text.specs.Words.{Allowed}
use Rattle.bk_text.proofs.WordLaws.{goes_more}
use Rattle.bk_text.proofs.StatedLaws.{word_begun, word_stuck}
use Rattle.bk_text.proofs.stated.fault_in_stated.Goals as goal

pub loop-at-init : goal.loop-at-init
loop-at-init c = record { short = omega arith; first = λ lt. absurd (omega arith); each = All-nil (Allowed c.args.alphabet) }

pub returns-then-not-may_stand : goal.returns-then-not-may_stand
returns-then-not-may_stand c = word_stuck c.args.alphabet c.args.most c.args.count c.loop-at.at c.args.front.now c.requires.some c.requires.most c.requires.within c.loop-at-test.true c.loop-at.invariant (iff_false c.may_stand.ensures c.if-not-may_stand.true)

pub loop-at-preserved : goal.loop-at-preserved
loop-at-preserved c = goes_more c.args.alphabet c.args.most c.loop-at.at c.args.front.now c.loop-at-test.true c.loop-at.invariant (c.may_stand.ensures.0 c.if-not-may_stand.false)

pub returns : goal.returns
returns c = word_begun c.args.alphabet c.args.most c.args.count c.loop-at.at c.args.front.now c.requires.some c.requires.most c.requires.within (omega arith) c.loop-at.invariant
