use Rattle.std.proofs.Common.{◌<◌, ◌≤◌, length, sym, ◌∙◌, ap, subst}
use Rattle.media_core.specs.Presence.{here_is, here_past}
use Rattle.std.proofs.Common.{slice_index_or}
use Rattle.media_core.proofs.mem.MemMediaMedia.here.Goals as goal

pub returns-in-Some : goal.returns-in-Some
returns-in-Some c =
    let l = c.in-Some.ensures.lookup in
    let v = c.deref.ensures.value in
    let below : c.args.f < length c.args.self.now.away.items = subst (λ l. c.args.f < length l) v l.3.0 in
    sym (here_is c.args.self.now.away.items c.args.f c.in-Some.away.now below (l.1 ∙ ap (λ l. slice_index_or l c.args.f c.in-Some.away.now) v))

pub returns-in-None : goal.returns-in-None
returns-in-None c =
    let l = c.in-None.ensures.lookup in
    let past : length c.args.self.now.away.items ≤ c.args.f = subst (λ l. length l ≤ c.args.f) c.deref.ensures.value l.3 in
    sym (here_past c.args.self.now.away.items c.args.f past)
