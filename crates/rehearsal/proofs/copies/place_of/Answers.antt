use Rattle.std.proofs.Common.{◌≡◌, ℕ, true, false, List, Some, sym, ◌∙◌, ap, subst}
use Rattle.std.specs.Prelude.{Result, Option, IfOk}
use Rattle.bk_text.specs.Blanks.{is_same_text}
use Rattle.cell_core.specs.declared.fault.CellFault.{CellFault}
use Rattle.cell_core.specs.declared.stored.Stored.{Stored}
use Rattle.cell_core.specs.Calls.{entry_at}
use Rattle.rehearsal.specs.Copies.{StandsAt}
use Rattle.rehearsal.proofs.CopyLaws.{one_less, stands_good, stands_bad}
use Rattle.rehearsal.proofs.copies.place_of.Goals.{in-Good, in-Bad}
use Rattle.rehearsal.proofs.copies.place_of.Goals as goal

pub returns-then-eq-clause-place : goal.returns-then-eq-clause-place
returns-then-eq-clause-place g c = λ told.
    let so_far = c.loop-i.invariant in
    let cell = g.C.Cell.list c.args.cell.now in
    let name = c.args.name.now in
    let entry = c.in_ok-entry.entry in
    let is : entry_at cell c.loop-i.i ≡ Some entry = subst (λ (l : List Stored). entry_at l c.loop-i.i ≡ Some entry) (so_far.list told) (c.in_ok-entry.ensures.entry told) in
    let same : is_same_text entry.name name ≡ true = ap (λ (n : List ℕ). is_same_text n name) (sym c.bytes.ensures.value) ∙ sym c.eq.ensures ∙ c.if-eq.true in
    elim c.match-entry.branch [
      | in-Good w ↦
          subst (λ (r : Result (Option ℕ) CellFault). IfOk r (λ place. StandsAt name cell place)) (sym w.result-is)
          (stands_good name cell c.loop-i.i entry is w.in-Good.id w.in-Good.kind w.in-Good.latest (so_far.none told) same w.in-Good.is)
      | in-Bad w ↦
          subst (λ (r : Result (Option ℕ) CellFault). IfOk r (λ place. StandsAt name cell place)) (sym w.result-is)
          (stands_bad name cell c.loop-i.i entry is w.in-Bad.at (so_far.none told) same w.in-Bad.is)
    ]

pub loop-i-preserved : goal.loop-i-preserved
loop-i-preserved g c =
    let so_far = c.loop-i.invariant in
    let e = c.in_ok-entry.ensures in
    let cell = g.C.Cell.list c.args.cell.now in
    let name = c.args.name.now in
    let entry = c.in_ok-entry.entry in
    record {
      list = λ told. e.list told ∙ so_far.list told;
      size = e.size ∙ so_far.size;
      none = λ told.
          let is : entry_at cell c.loop-i.i ≡ Some entry = subst (λ (l : List Stored). entry_at l c.loop-i.i ≡ Some entry) (so_far.list told) (e.entry told) in
          let other : is_same_text entry.name name ≡ false = ap (λ (n : List ℕ). is_same_text n name) (sym c.bytes.ensures.value) ∙ sym c.eq.ensures ∙ c.if-eq.false in
          one_less name cell c.loop-i.i entry is (so_far.none told) other;
    }
