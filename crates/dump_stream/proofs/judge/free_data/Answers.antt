use Rattle.std.proofs.Common.{◌<◌, ◌≤◌, ◌+◌, length, arith, zero}
use Rattle.std.proofs.lemmas.Bool.{cases_lt}
use Rattle.std.proofs.Common.{inl, inr}
use Rattle.dump_stream.specs.declared.form.Form.TheVariants as forms
use Rattle.dump_stream.specs.Forms.{size_len, size_in}
use Rattle.dump_stream.proofs.FormLaws.{data_free, none_free, bytes_from}
use Rattle.dump_stream.proofs.judge.free_data.Goals as goal

pub returns-then-payload-before : goal.returns-then-payload-before
returns-then-payload-before c = λ q going bytes len. none_free (forms.Data c.args.wide c.args.limit) c.args.payload.now q going len

pub returns : goal.returns
returns c = λ q going bytes len.
    let p = c.args.payload.now in
    let wide = c.args.wide in
    let long : size_len wide ≤ length p = omega (arith, c.len_of_size-before.ensures, c.if-payload-before.false) in
    let small : size_in wide p ≤ c.args.limit = omega (arith, c.size_at-size.ensures, c.if-size-limit.false) in
    elim (cases_lt zero (length q)) [
      | inl some ↦
          let few : length p + length q < size_len wide + size_in wide p = omega (arith, c.size_at-size.ensures, c.len_of_size-before.ensures, c.saturating_sub.ensures, some, len) in
          data_free wide c.args.limit p q (bytes_from p (λ i. omega (arith, c.type_inv.payload i))) bytes long small few
      | inr none ↦ none_free (forms.Data wide c.args.limit) p q going none
    ]
