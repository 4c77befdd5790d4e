use Rattle.std.proofs.Common.{◌≡◌, Ok, refl, sym, subst, ap, ◌∙◌, arith, rules, length, true}
use Rattle.archive_model.specs.Holding.{called_frags}
use Rattle.restore_chain.specs.declared.fault.LookFault.TheVariants.{Failed}
use Rattle.restore_chain.specs.declared.keeping.Kept.{Kept}
use Rattle.std.specs.Prelude.{List}
use Rattle.restore_chain.specs.Keeping.{AllKept, MayKeep}
use Rattle.restore_chain.proofs.VolumeLaws.{length_called, there_at}
use Rattle.restore_chain.proofs.ReadLaws.{read_none, read_well, reads_as}
use Rattle.restore_chain.proofs.KeepLaws.{all_set, frag_tape}
use Rattle.restore_chain.proofs.tape_keeping.keep_at.Goals as goal

pub returns-then-not-lies_on-clause-reads : goal.returns-then-not-lies_on-clause-reads
returns-then-not-lies_on-clause-reads g c =
    read_well g.P.Plant Failed c.args.plant.now c.args.plant.now _ (read_none g.P.Plant c.args.plant.now c.requires.sound (λ told survives image left. g.met.P.Plant.left c.args.plant.now image told c.requires.sound survives left)) (λ is. absurd (cc))

pub returns-in-Ok-clause-keeps : goal.returns-in-Ok-clause-keeps
returns-in-Ok-clause-keeps g c = λ told slots d may has held all.
    let P = g.P.Plant in
    let v = c.args.volume.now in
    let cs = called_frags c.args.id c.args.index 1 v v.frags in
    let one = there_at cs c.args.place (omega (arith, length_called c.args.id c.args.index 1 v v.frags, c.requires.within)) in
    let on : c.lies_on.result ≡ true = search rules in
    let frag = there_at v.frags c.args.place c.requires.within in
    let tape = frag_tape c.args.id c.args.index 1 v v.frags c.args.place frag.0 one.0 frag.1 one.1 in
    let same : c.args.tape ≡ one.0.tape = sym (c.lies_on.ensures on frag.0 frag.1) ∙ sym tape in
    subst (λ (ks : List Kept). AllKept slots d may cs ks) (sym c.put_at.ensures)
    (all_set slots d may cs c.args.kept.now.items c.args.place one.0 c.in-Ok.found all one.1
    (c.in-Ok.ensures.keeps told slots d may one.0 has one.1 (subst (λ n. MayKeep P slots d may n c.args.plant.now c.args.reading) same held)))

pub returns-in-Ok-clause-reads : goal.returns-in-Ok-clause-reads
returns-in-Ok-clause-reads g c = reads_as g.P.Plant Failed Failed c.args.plant.now c.keep_one.new.plant _ _ (λ is. absurd (cc)) (λ is. absurd (cc)) c.in-Ok.ensures.reads

pub returns-in-Err-clause-reads : goal.returns-in-Err-clause-reads
returns-in-Err-clause-reads g c = reads_as g.P.Plant Failed Failed c.args.plant.now c.keep_one.new.plant _ _ (λ is. (cc)) (λ is. (cc)) c.in-Err.ensures.reads
