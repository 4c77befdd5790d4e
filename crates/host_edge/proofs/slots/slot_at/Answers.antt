use Rattle.std.proofs.Common.{sym, ◌∙◌, ap}
use Rattle.std.specs.Prelude.{is_some}
use Rattle.host_edge.specs.Here.{slot_is, slot_past}
use Rattle.host_edge.proofs.slots.slot_at.Goals as goal

pub returns-in-Some : goal.returns-in-Some
returns-in-Some g c =
    let l = c.in-Some.ensures.lookup in
    let here = slot_is c.args.slots.now c.args.slot c.in-Some.file.now l.3.0 l.1 in
    record {
      value = c.as_ref.ensures.value ∙ sym here;
      variant = c.as_ref.ensures.variant ∙ ap is_some (sym here);
    }

pub returns-in-None : goal.returns-in-None
returns-in-None g c =
    let past = slot_past c.args.slots.now c.args.slot c.in-None.ensures.lookup.3 in
    record { value = sym past; variant = ap is_some (sym past) }
