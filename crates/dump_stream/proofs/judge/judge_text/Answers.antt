use Rattle.std.proofs.Common.{ℕ, [], ◌∷◌, ◌++◌, ◌∙◌, ap, arith}
use Rattle.std.proofs.lemmas.Bool.{iff_false}
use Rattle.dump_stream.proofs.FormLaws.{text_none, text_goes_on, text_bad, text_bad_front, bytes_from}
use Rattle.dump_stream.proofs.judge.judge_text.Goals as goal

pub returns-in-None : goal.returns-in-None
returns-in-None c = text_none c.args.payload.now c.in-None.ensures.cases

pub returns-else-is_message : goal.returns-else-is_message
returns-else-is_message c =
    text_bad c.args.payload.now c.in-Some.front.now
    (c.in-Some.ensures.cases.0 ∙ ap (λ (x : ℕ). c.in-Some.front.now ++ x ∷ []) c.if-last-eq0.true)
    (iff_false c.is_message.ensures c.if-is_message.false)

pub returns-then-is_message-2 : goal.returns-then-is_message-2
returns-then-is_message-2 c =
    text_goes_on c.args.payload.now (bytes_from c.args.payload.now (λ i. omega (arith, c.type_inv.payload i)))
    (c.is_message-else-last-eq0.ensures.0 c.if-is_message-2.true)

pub returns-else-is_message-2 : goal.returns-else-is_message-2
returns-else-is_message-2 c =
    text_bad_front c.args.payload.now c.in-Some.front.now c.in-Some.last.now c.in-Some.ensures.cases.0 c.if-last-eq0.false
    (iff_false c.is_message-else-last-eq0.ensures c.if-is_message-2.false)
