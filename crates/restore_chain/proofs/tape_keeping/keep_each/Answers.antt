use Rattle.std.proofs.Common.{◌≡◌, ◌<◌, length, Ok, Err, refl, sym, ◌∙◌, subst, arith}
use Rattle.restore_chain.specs.declared.fault.LookFault.TheVariants.{Failed}
use Rattle.restore_chain.proofs.ReadLaws.{read_none, read_both, read_then, read_well, slots_read, may_read, still_loaded}
use Rattle.restore_chain.proofs.tape_keeping.keep_each.Goals as goal

pub loop-place-init : goal.loop-place-init
loop-place-init g c = record {
  keeps = λ told slots d may has held all. all;
  all = c.requires.all;
  read = read_none g.P.Plant c.args.plant.now c.requires.sound (λ told survives image left. g.met.P.Plant.left c.args.plant.now image told c.requires.sound survives left);
}

pub keep_at-requires-clause-sound : goal.keep_at-requires-clause-sound
keep_at-requires-clause-sound g c = c.loop-place.invariant.read.done.sound

pub keep_at-requires-clause-loaded : goal.keep_at-requires-clause-loaded
keep_at-requires-clause-loaded g c = λ is. still_loaded g.P.Plant c.args.plant.now c.loop-place.plant c.loop-place.invariant.read (c.requires.loaded is)

pub loop-place-preserved : goal.loop-place-preserved
loop-place-preserved g c =
    let P = g.P.Plant in
    let so_far = c.loop-place.invariant in
    let old = c.args.plant.now in
    let mid = c.loop-place.plant in
    let new = c.keep_at.new.plant in
    record {
      keeps = λ told slots d may has held all.
          c.in-Ok.ensures.keeps told slots d may (slots_read P slots old mid so_far.read told has) (may_read P slots d may c.args.tape old mid c.args.reading so_far.read held) (so_far.keeps told slots d may has held all);
      all = c.keep_at.ensures.all ∙ so_far.all;
      read = read_both P Failed old mid new _ so_far.read c.in-Ok.ensures.reads (λ is. absurd (cc));
    }

pub returns-in-Err-clause-reads : goal.returns-in-Err-clause-reads
returns-in-Err-clause-reads g c = read_then g.P.Plant Failed c.args.plant.now c.loop-place.plant c.keep_at.new.plant _ c.loop-place.invariant.read c.in-Err.ensures.reads

pub returns-clause-reads : goal.returns-clause-reads
returns-clause-reads g c = read_well g.P.Plant Failed c.args.plant.now c.loop-place.plant _ c.loop-place.invariant.read (λ is. absurd (cc))

pub returns-clause-keeps : goal.returns-clause-keeps
returns-clause-keeps g c = λ told slots d may has held all. c.loop-place.invariant.keeps told slots d may has held all
