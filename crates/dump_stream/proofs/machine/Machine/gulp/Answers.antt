use Rattle.std.proofs.Common.{◌<◌, ◌≤◌, ◌++◌, ◌∙◌, ℕ, List, length, take, sym, ap, subst, arith, length-take}
use Rattle.std.proofs.lemmas.List.Elements.{All-take}
use Rattle.dump_stream.specs.declared.form.Verdict.TheVariants.{More}
use Rattle.dump_stream.specs.Forms.{IsBytes, IsWhole, Judges}
use Rattle.dump_stream.proofs.FormLaws.{bytes_from}
use Rattle.dump_stream.proofs.StepLaws.{goes_on, gulped_at}
use Rattle.dump_stream.proofs.machine.Machine.gulp.Goals as goal

pub returns-in_ok-extend_from_slice-in-Some-clause-moved : goal.returns-in_ok-extend_from_slice-in-Some-clause-moved
returns-in_ok-extend_from_slice-in-Some-clause-moved c = λ going.
    let m = c.args.self.now in
    let form = c.in-Some.form in
    let piece = c.args.piece.now in
    let q : List ℕ = take c.min-count.result piece in
    let bytes : IsBytes q = All-take (λ (x : ℕ). x < 256) c.min-count.result piece (bytes_from piece (λ i. omega (arith, c.type_inv.piece i))) in
    let few : length q ≤ c.free_bytes-free.result = omega (arith, length-take c.min-count.result piece, c.min-count.ensures) in
    let so_far : Judges (IsWhole form) c.as_slice.result.now More = subst (λ (x : List ℕ). Judges (IsWhole form) x More) (sym c.as_slice.ensures) (goes_on m form c.in-Some.is going) in
    let more : Judges (IsWhole form) (m.payload ++ q) More = subst (λ (x : List ℕ). Judges (IsWhole form) (x ++ q) More) c.as_slice.ensures (c.free_bytes-free.ensures q so_far bytes few) in
    let taken = c.in_ok-extend_from_slice-in-Some.ensures.ok ∙ ap (λ (x : List ℕ). x ++ q) c.make_room.ensures in
    gulped_at m form q c.extend_from_slice.new.self c.in-Some.is taken more
