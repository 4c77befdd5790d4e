use Rattle.std.proofs.Common.{ℕ, [], ◌∷◌, ◌++◌, ◌∙◌, ap, arith}
use Rattle.std.proofs.lemmas.Bool.{iff_false}
use Rattle.dump_stream.proofs.FormLaws.{name_none, name_goes_on, name_bad, name_bad_front, bytes_from}
use Rattle.dump_stream.proofs.judge.judge_name.Goals as goal

pub returns-in-None : goal.returns-in-None
returns-in-None c = name_none c.args.payload.now c.in-None.ensures.cases

pub returns-else-is_name : goal.returns-else-is_name
returns-else-is_name c =
    name_bad c.args.payload.now c.in-Some.front.now
    (c.in-Some.ensures.cases.0 ∙ ap (λ (x : ℕ). c.in-Some.front.now ++ x ∷ []) c.if-last-eq0.true)
    (iff_false c.is_name.ensures.form c.if-is_name.false)

pub returns-then-is_name-2 : goal.returns-then-is_name-2
returns-then-is_name-2 c =
    name_goes_on c.args.payload.now (bytes_from c.args.payload.now (λ i. omega (arith, c.type_inv.payload i)))
    (c.is_name-else-last-eq0.ensures.form.0 c.if-is_name-2.true)

pub returns-else-is_name-2 : goal.returns-else-is_name-2
returns-else-is_name-2 c =
    name_bad_front c.args.payload.now c.in-Some.front.now c.in-Some.last.now c.in-Some.ensures.cases.0 c.if-last-eq0.false
    (iff_false c.is_name-else-last-eq0.ensures.form c.if-is_name-2.false)
