use Rattle.std.proofs.Common.{◌≡◌, ◌<◌, length, vec_len, sym, ◌∙◌, ap, arith, rules}
use Rattle.std.proofs.lemmas.Result.{err_from_is_err_and}
use Rattle.media_core.specs.Media.{written}
use Rattle.media_core.proofs.Files.{file_bytes_at, file_bytes_set, file_bytes_set_back}
use Rattle.media_core.proofs.bytes.overwrite_in.Goals as goal

pub overwrite-requires : goal.overwrite-requires
overwrite-requires c =
    let below : c.args.f < length c.args.files.now.items = search rules in
    let is = file_bytes_at c.args.files.now.items c.args.f c.index_mut.result.now below c.index_mut.ensures.value in
    let long : vec_len c.index_mut.result.now ≡ length c.index_mut.result.now.items = search rules in
    omega (arith, ap length is, c.requires.within, long)

pub returns-clause-ok : goal.returns-clause-ok
returns-clause-ok c = λ k.
    let below : c.args.f < length c.args.files.now.items = search rules in
    let is = file_bytes_at c.args.files.now.items c.args.f c.index_mut.result.now below c.index_mut.ensures.value in
    file_bytes_set c.args.files.now.items c.args.f c.overwrite.new.file (written c.args.at c.args.bytes.now) k below
    (c.in_ok-overwrite.ensures.ok ∙ ap (written c.args.at c.args.bytes.now) (sym is))

pub returns-in_err-overwrite-clause-err : goal.returns-in_err-overwrite-clause-err
returns-in_err-overwrite-clause-err c = let p = err_from_is_err_and c.from_residual.result c.from_residual.ensures.1 in rw p.1 (λ k.
    let below : c.args.f < length c.args.files.now.items = search rules in
    let is = file_bytes_at c.args.files.now.items c.args.f c.index_mut.result.now below c.index_mut.ensures.value in
    file_bytes_set_back c.args.files.now.items c.args.f c.overwrite.new.file k below (c.in_err-overwrite.ensures.err ∙ sym is))
