use Rattle.std.proofs.Common.{◌≡◌, ℕ, ◌+◌, ◌-◌, ◌*◌, ◌≤◌, List, Option, sym, ◌∙◌, ap, subst, arith}
use Rattle.cell_core.specs.declared.stored.Stored.{Stored}
use Rattle.rehearsal.specs.declared.copies.Copies.{Copies}
use Rattle.rehearsal.specs.Copies.{with_data, data_at, counted}
use Rattle.rehearsal.proofs.Counting.{with_few, with_small, counted_more}
use Rattle.rehearsal.proofs.copies.compare.Goals as goal

pub loop-volume-preserved : goal.loop-volume-preserved
loop-volume-preserved g c =
    let so_far = c.loop-volume.invariant in
    let cell = g.C.Cell.list c.args.cell.now in
    let v = c.loop-volume.volume in
    let found = c.in_ok-equal_data.field-0 in
    let e = c.in_ok-equal_data.ensures in
    let last : v + 1 - 1 ≡ v = omega arith in
    let next : v - 1 + 1 ≡ v = omega (arith, c.loop-volume.auto.volume) in
    record {
      list = λ told. e.list told ∙ so_far.list told;
      few = subst (λ (x : Copies). x.equal + 1 ≤ v + 1) (sym c.with-copies.ensures) (with_few c.loop-volume.copies found v so_far.few);
      small = subst (λ (x : Copies). x.bytes + 268435456 ≤ (v + 1) * 268435456) (sym c.with-copies.ensures) (with_small c.loop-volume.copies found v e.few so_far.small);
      so_far = λ told.
          let here : found ≡ data_at cell v = e.bytes told ∙ ap (λ (l : List Stored). data_at l v) (so_far.list told) in
          c.with-copies.ensures ∙ ap (λ (x : Copies). with_data x found) (so_far.so_far told) ∙ ap (λ (x : Option ℕ). with_data (counted cell (v - 1)) x) here ∙ counted_more cell (v - 1) v next ∙ ap (counted cell) (sym last);
    }
