-- How an input is taken piece by piece.
use Rattle.std.proofs.Common.{◌≡◌, ℕ, ◌+◌, ◌<◌, ◌≤◌, List, ◌++◌, length, refl, sym, ◌∙◌, ap, arith, length-append, append_assoc, Err}
use Rattle.dump_stream.specs.declared.input.InputReader.{InputReader}
use Rattle.backup_top.specs.declared.input.ReadStop.{ReadStop}
use Rattle.backup_top.specs.declared.input.ReadStop.TheVariants.{Failed, TooLong, Memory}
use Rattle.backup_top.specs.Inputs.{TookUpTo, most_input}
use Rattle.dump_stream.specs.Inputs.{HasTaken}
use Rattle.backup_top.specs.Intakes.{TookPiece, TakesAll}

-- what was taken so far
pub record Taking {D : Type 0} (tells : Type 0) (left : D → List ℕ) (faults : D → ℕ) (old new : D) (intake : InputReader) : Type 0 where
  pub bytes : List ℕ
  pub holds : HasTaken bytes intake
  pub few : length bytes ≤ most_input + 1
  pub is : tells → left old ≡ bytes ++ left new
  pub same : faults new ≡ faults old

module _ {D : Type 0} (tells : Type 0) (left : D → List ℕ) (faults : D → ℕ) (old mid new : D) where
  -- one piece more
  pub taking_more : (before after : InputReader) (room : ℕ) (so_far : Taking tells left faults old mid before) → room + length so_far.bytes ≤ most_input + 1 → TookPiece tells (left mid) (left new) room so_far.bytes after → faults new ≡ faults mid → Taking tells left faults old new after
  taking_more before after room so_far few took same = record {
    bytes = so_far.bytes ++ took.piece;
    holds = took.holds;
    few = omega (arith, length-append so_far.bytes took.piece, took.few, few);
    is = λ told. so_far.is told ∙ ap (λ (l : List ℕ). so_far.bytes ++ l) (took.is told) ∙ sym (append_assoc so_far.bytes took.piece (left new));
    same = same ∙ so_far.same;
  }

  -- a read failed or memory ran out behind what was taken
  pub taking_stops : (before : InputReader) (room : ℕ) (so_far : Taking tells left faults old mid before) → room + length so_far.bytes ≤ most_input + 1 → (tells → TookUpTo room (left mid) (left new)) → tells → TookUpTo (most_input + 1) (left old) (left new)
  taking_stops before room so_far few took told = record {
    piece = so_far.bytes ++ (took told).piece;
    few = omega (arith, length-append so_far.bytes (took told).piece, (took told).few, few);
    is = so_far.is told ∙ ap (λ (l : List ℕ). so_far.bytes ++ l) (took told).is ∙ sym (append_assoc so_far.bytes (took told).piece (left new));
  }

  -- memory ran out, or a read failed; a longer input is told elsewhere
  pub stopped : (before : InputReader) (after : InputReader) (room : ℕ) (so_far : Taking tells left faults old mid before) → room + length so_far.bytes ≤ most_input + 1
      → (stop : ReadStop) → (stop ≡ TooLong → ⊥) → (tells → TookUpTo room (left mid) (left new)) → TakesAll tells (left old) (left new) after (Err stop)
  stopped before after room so_far few Failed short took = taking_stops before room so_far few took
  stopped before after room so_far few Memory short took = taking_stops before room so_far few took
  stopped before after room so_far few TooLong short took = absurd (short refl)

  -- more came than an input may have
  pub too_long : (before : InputReader) (so_far : Taking tells left faults old mid before) → most_input < before.taken → tells → (most_input < length (left old)) × TookUpTo (most_input + 1) (left old) (left mid)
  too_long before so_far more told =
      let is = so_far.is told in
      (omega (arith, so_far.holds.0, more, ap length is, length-append so_far.bytes (left mid)), record { piece = so_far.bytes; few = so_far.few; is = is })
