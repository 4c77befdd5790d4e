use Rattle.std.proofs.Common.{◌≡◌, sym, ◌∙◌, ap, subst, true}
use Rattle.std.specs.Prelude.{Option, Some, IfOk}
use Rattle.budb_changes.specs.declared.records.DumpRecordFields.{DumpRecordFields}
use Rattle.tape_choice.specs.declared.places.Place.{Place}
use Rattle.tape_choice.specs.Append.{LastPart}
use Rattle.tape_choice.specs.Surveys.{name_of}
use Rattle.tape_scan.proofs.Looking.{loads_none, leaves_loads, reads_are_loads, loads_both, leaves_after}
use Rattle.tape_choice.proofs.Loadings.{read_loaded, whole_loaded, unless_map}
use Rattle.tape_choice.proofs.PlaceLaws.{same_label}
use Rattle.tape_choice.proofs.appending.try_place.Goals as goal

pub returns-then-not-here-clause-loads : goal.returns-then-not-here-clause-loads
returns-then-not-here-clause-loads g c =
    let old = c.args.plant.now in
    loads_none g.P.Plant old c.requires.sound (λ told survives image left. g.met.P.Plant.left old image told c.requires.sound survives left)

pub returns-then-not-here-clause-leaves : goal.returns-then-not-here-clause-leaves
returns-then-not-here-clause-leaves g c = leaves_loads g.P.Plant c.args.plant.now c.args.plant.now (returns-then-not-here-clause-loads g c)

pub returns-clause-is : goal.returns-clause-is
returns-clause-is g c = λ told s whole here read are.
    let P = g.P.Plant in
    let old = c.args.plant.now in
    let mid = c.read_name.new.plant in
    let slot = c.args.slot in
    let l = c.args.last.now in
    let e = c.in_ok-permanent.ensures in
    let name = c.in-Some.permanent in
    let loads = reads_are_loads P old mid e.done c.read_name.ensures.leaves e.numbers in
    let is_here : s.here ≡ true = here ∙ sym c.here.ensures ∙ c.if-not-here.false in
    let named = sym c.in-Some.is ∙ e.is told s.items read ∙ ap (λ (d : DumpRecordFields). name_of d.initial c.last.inside.part.now.tape s.items) c.fields.ensures.value in
    let named_so : Some name ≡ name_of l.dump.initial l.part.tape s.items = subst (λ (m : LastPart). Some name ≡ name_of m.dump.initial m.part.tape s.items) c.last.view_is named in
    subst (λ (o : Option Place). IfOk c.look_behind.result (λ place. place ≡ o)) (same_label l whole slot s name c.requires.place is_here named_so)
    (c.look_behind.ensures.is told s.items (whole slot) (read_loaded P old mid slot s.items told loads read) (whole_loaded P old mid slot (whole slot) told loads are))

pub returns-clause-loads : goal.returns-clause-loads
returns-clause-loads g c =
    let P = g.P.Plant in
    let old = c.args.plant.now in
    let mid = c.read_name.new.plant in
    let new = c.look_behind.new.plant in
    unless_map c.look_behind.result (loads_both P old mid new (reads_are_loads P old mid c.in_ok-permanent.ensures.done c.read_name.ensures.leaves c.in_ok-permanent.ensures.numbers)) c.look_behind.ensures.loads

pub returns-clause-leaves : goal.returns-clause-leaves
returns-clause-leaves g c =
    let P = g.P.Plant in
    let old = c.args.plant.now in
    let mid = c.read_name.new.plant in
    leaves_after P old mid c.look_behind.new.plant (reads_are_loads P old mid c.in_ok-permanent.ensures.done c.read_name.ensures.leaves c.in_ok-permanent.ensures.numbers) c.look_behind.ensures.leaves
