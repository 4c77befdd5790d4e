use Rattle.std.proofs.Common.{◌≡◌, sym, subst, ap, ◌∙◌}
use Rattle.std.proofs.lemmas.Result.{IfOk-weaker}
use Rattle.archive_model.specs.Holding.{called_frags}
use Rattle.tape_text.specs.Wholes.{Lying}
use Rattle.restore_chain.specs.declared.keeping.Reading.{Reading}
use Rattle.restore_chain.specs.Playing.{lying_of}
use Rattle.restore_chain.specs.Keeping.{IsReadOf, IsKept, MayKeep}
use Rattle.restore_chain.proofs.VolumeLaws.{one_there}
use Rattle.restore_chain.proofs.KeepLaws.{read_here, kept_read, loaded_is, frag_tape}
use Rattle.restore_chain.proofs.tape_keeping.keep_one.Goals as goal

pub returns-in-Missing-clause-keeps : goal.returns-in-Missing-clause-keeps
returns-in-Missing-clause-keeps g c = λ told slots d may call has at held. (
  sym (frag_tape c.args.id c.args.index 1 c.args.volume.now c.args.volume.now.frags c.args.place c.frag_at.result call c.frag_at.ensures at),
  subst (λ (r : Reading). MayKeep g.P.Plant slots d may call.tape c.args.plant.now r) c.in-Missing.is held,
)

pub returns-in-Held-clause-keeps : goal.returns-in-Held-clause-keeps
returns-in-Held-clause-keeps g c = λ told slots d may call has at held.
    subst (λ (r : Reading). MayKeep g.P.Plant slots d may call.tape c.args.plant.now r) c.in-Held.is held

pub returns-in-Ok-clause-keeps : goal.returns-in-Ok-clause-keeps
returns-in-Ok-clause-keeps g c = λ told slots d may call has at held.
    let P = g.P.Plant in
    let x = subst (λ (r : Reading). MayKeep P slots d may call.tape c.args.plant.now r) c.in-Loaded.is held in
    let same : lying_of c.in-Ok.called ≡ call = one_there _ (lying_of c.in-Ok.called) call c.in-Ok.ensures at in
    IfOk-weaker c.keep_fragment.result (IsReadOf (lying_of c.in-Ok.called) x.0.1.items) (IsKept slots d may call)
    (λ k read. kept_read slots d may call k (read_here slots d call k x.0 x.1 (subst (λ (l : Lying). IsReadOf l x.0.1.items k) same read)))
    (c.keep_fragment.ensures.read told x.0.1.items (loaded_is P slots c.args.plant.now d call.tape x.0 has x.1 x.2))
