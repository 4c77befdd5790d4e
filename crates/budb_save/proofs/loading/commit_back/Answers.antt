use Rattle.std.proofs.Common.{◌+◌, ◌≤◌, length, inl, inr, sym, ◌∙◌, ap, subst, arith}
use Rattle.std.specs.Prelude.{Err}
use Rattle.std.proofs.lemmas.Bool.{cases_lt}
use Rattle.budb_changes.specs.Bytes.{encoded}
use Rattle.budb_fold.specs.declared.database.Database.{Database}
use Rattle.budb_save.proofs.CountLaws.{listed_few}
use Rattle.budb_save.proofs.loading.commit_back.Goals as goal

pub count_listed-requires : goal.count_listed-requires
count_listed-requires g c =
    let P = g.P.Plant in
    let e = c.in-Ok.ensures in
    let few : length (encoded c.args.changes.now) ≤ 268435456 = elim (cases_lt 268435456 ((P.view c.args.plant.now).log_size + length (encoded c.args.changes.now))) [
      | inl over ↦ elim (e.only_full over) [ inl full ↦ absurd (cc) | inr none ↦ absurd (cc) ]
      | inr fits ↦ omega (arith, fits)
    ] in
    let listed : length c.commit.new.self.database.listed ≤ 4294967295
    = omega (arith, few, listed_few c.args.changes.now c.args.budb.now.database c.requires.none, ap (λ (db : Database). length db.listed) e.made) in
    subst (λ (db : Database). length db.listed ≤ 4294967295) (sym c.database.ensures) listed

pub returns-in-Ok-clause-count : goal.returns-in-Ok-clause-count
returns-in-Ok-clause-count g c = c.count_listed.ensures ∙ ap (λ (db : Database). length db.listed) c.database.ensures

pub returns-in-Ok-clause-within : goal.returns-in-Ok-clause-within
returns-in-Ok-clause-within g c =
    let P = g.P.Plant in
    let e = c.in-Ok.ensures in
    elim (cases_lt 268435456 ((P.view c.args.plant.now).log_size + length (encoded c.args.changes.now))) [
      | inl over ↦ elim (e.only_full over) [ inl full ↦ absurd (cc) | inr none ↦ absurd (cc) ]
      | inr fits ↦ omega (arith, fits, e.size)
    ]

pub returns-in-Err-LogFull-clause-refused : goal.returns-in-Err-LogFull-clause-refused
returns-in-Err-LogFull-clause-refused g c = c.in-Err-LogFull.ensures.full c.in-Err-LogFull.length (ap Err c.in-Err-LogFull.field-0-is)

pub returns-in-Err-LogFull-clause-plant_same : goal.returns-in-Err-LogFull-clause-plant_same
returns-in-Err-LogFull-clause-plant_same g c = λ well.
    let full = c.in-Err-LogFull.ensures.full c.in-Err-LogFull.length (ap Err c.in-Err-LogFull.field-0-is) in
    c.in-Err-LogFull.ensures.over_same (omega (arith, full.0, full.1))
