use Rattle.std.proofs.Common.{◌≡◌, ◌<◌, ◌≤◌, length, vec_len, sym, ◌∙◌, ap, subst, rules, slice_index_or}
use Rattle.plant_core.proofs.TapeLists.{records_at_at, records_at_past, records_in-length}
use Rattle.plant_core.proofs.stored.count_in.Goals as goal

pub returns-in-Some : goal.returns-in-Some
returns-in-Some c =
    let l = c.in-Some.ensures.lookup in
    let v = c.deref.ensures.value in
    let below : c.args.slot < length c.args.tapes.now.items = subst (λ l. c.args.slot < length l) v l.3.0 in
    let is = records_at_at c.args.tapes.now.items c.args.slot c.in-Some.tape.now below (l.1 ∙ ap (λ l. slice_index_or l c.args.slot c.in-Some.tape.now) v) in
    let long : vec_len c.in-Some.tape.now ≡ length c.in-Some.tape.now.items = search rules in
    c.len.ensures ∙ long ∙ sym (records_in-length c.in-Some.tape.now.items) ∙ ap length (sym is)

pub returns-in-None : goal.returns-in-None
returns-in-None c =
    let l = c.in-None.ensures.lookup in
    sym (ap length (records_at_past c.args.tapes.now.items c.args.slot (subst (λ l. length l ≤ c.args.slot) c.deref.ensures.value l.3)))
