-- A piece behind bytes that were fed.
use Rattle.std.proofs.Common.{◌≡◌, ℕ, ◌+◌, ◌<◌, List, [], ◌++◌, length, take, Ok, sym, subst, arith, length-append, inl, inr}
use Rattle.std.proofs.Math.Seq.{take-append-add}
use Rattle.std.proofs.lemmas.Bool.{cases_lt}
use Rattle.std.proofs.lemmas.List.{append-nil, take-append-le}
use Rattle.dump_stream.specs.declared.machine.Machine.{Machine}
use Rattle.dump_stream.specs.declared.machine.Ran.TheVariants as ran
use Rattle.dump_stream.specs.declared.reader.Reader.{Reader}
use Rattle.dump_stream.specs.declared.reader.State.{State}
use Rattle.dump_stream.specs.Feeds.{HasFed, HasFedAt}
use Rattle.dump_stream.specs.Stream.{Spells}
use Rattle.dump_stream.specs.Reads.{Begins, IsBad, Answers, Runs}
use Rattle.dump_stream.proofs.ReadLaws.{begins_take}

pub fed_done : (bytes piece : List ℕ) (used : ℕ) (m : Machine) → (h : Runs bytes piece (ran.Ended used) m) → Answers (bytes ++ piece) (Ok (h.1, length bytes + used))
fed_done bytes piece used m h = (omega (arith, length-append bytes piece, h.0), subst (λ (x : List ℕ). Spells x h.1) (sym (take-append-add bytes piece used)) h.2)

pub fed_bad : (bytes piece : List ℕ) (at : ℕ) (m : Machine) → Runs bytes piece (ran.Stopped at) m → IsBad (bytes ++ piece) (length bytes + at)
fed_bad bytes piece at m h =
    let further : take (length bytes + at + 1) (bytes ++ piece) ≡ bytes ++ take (at + 1) piece = let e : length bytes + at + 1 ≡ length bytes + (at + 1) = omega arith in rw e (take-append-add bytes piece (at + 1)) in
    record {
      within = omega (arith, length-append bytes piece, h.0);
      begins = subst Begins (sym (take-append-add bytes piece at)) h.1;
      stops = subst (λ (x : List ℕ). Begins x → ⊥) (sym further) h.2;
      none = h.3;
    }

-- what stops stays so
pub bad_more : (bytes piece : List ℕ) (at : ℕ) → IsBad bytes at → IsBad (bytes ++ piece) at
bad_more bytes piece at h =
    let within : at < length bytes = h.within in
    let low : take at (bytes ++ piece) ≡ take at bytes = take-append-le at bytes piece (omega arith) in
    let high : take (at + 1) (bytes ++ piece) ≡ take (at + 1) bytes = take-append-le (at + 1) bytes piece (omega arith) in
    record {
      within = omega (arith, length-append bytes piece);
      begins = subst Begins (sym low) h.begins;
      stops = subst (λ (x : List ℕ). Begins x → ⊥) (sym high) h.stops;
      none = λ n i le s. elim (cases_lt (length bytes) n) [
        | inl lt ↦ h.stops (subst Begins high (begins_take (at + 1) n (bytes ++ piece) (omega arith) ([], i, subst (λ (x : List ℕ). Spells x i) (sym (append-nil (take n (bytes ++ piece)))) s)))
        | inr le2 ↦ h.none n i le2 (subst (λ (x : List ℕ). Spells x i) (take-append-le n bytes piece le2) s)
      ];
    }

-- what a reader that is in this state has read
pub at_state : (bytes : List ℕ) (r : Reader) (s : State) → r.state ≡ s → HasFed bytes r → HasFedAt bytes r.machine r.count s
unfolding HasFed
at_state bytes r s e h = subst (λ (x : State). HasFedAt bytes r.machine r.count x) e h

pub in_state : (bytes : List ℕ) (r : Reader) (s : State) → r.state ≡ s → HasFedAt bytes r.machine r.count s → HasFed bytes r
unfolding HasFed
in_state bytes r s e h = subst (λ (x : State). HasFedAt bytes r.machine r.count x) (sym e) h
