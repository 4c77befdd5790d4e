use Rattle.std.proofs.Common.{ℕ, ◌≡◌, List, ◌++◌, length}
use Rattle.std.specs.Prelude.{map, Some}
use Rattle.plant_effects.specs.Runs.{loaded_of, OnLoaded, Done, Leaves, StaysQuiet}
use Rattle.budb_save.specs.Saves.{pieces_of}
use Rattle.budb_save.specs.Writing.{putting_piece, HasRoomFor}
use Rattle.budb_save.proofs.writing.put_pieces.Given as goal

abbrev pub decreases-loop-rest : goal.decreases-loop-rest
decreases-loop-rest g l = length l.rest

abbrev pub invariant-loop-rest : goal.invariant-loop-rest
invariant-loop-rest g l =
    let P = g.P.Plant in
    record {
      before : List (List ℕ);
      joined : pieces_of l.fn.bytes ≡ before ++ pieces_of l.rest;
      sound : P.sound l.plant;
      done : (k : ℕ) → loaded_of P l.fn.plant ≡ Some k → Done P (map (putting_piece k) before) l.fn.plant l.plant;
      leaves : (k : ℕ) → loaded_of P l.fn.plant ≡ Some k → Leaves P (map (putting_piece k) before) l.fn.plant l.plant;
      loaded : loaded_of P l.plant ≡ loaded_of P l.fn.plant;
      room : OnLoaded P (HasRoomFor (length l.rest)) l.plant;
      log_size : (P.view l.plant).log_size ≡ (P.view l.fn.plant).log_size;
      loads : (P.view l.plant).loads ≡ (P.view l.fn.plant).loads;
      stays : StaysQuiet P l.fn.plant l.plant;
      faults : (P.view l.plant).faults ≡ (P.view l.fn.plant).faults;
    }
