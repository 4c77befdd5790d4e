use Rattle.backup_top.proofs.archives.an_image_is_not_refused.Goals as goal

pub returns : goal.returns
returns g = λ c effects old image left finds. (let r = left.reopens finds in record { log = r.changes; form = r.form; is = r.is })
