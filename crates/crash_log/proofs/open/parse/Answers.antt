use Rattle.std.proofs.Common.{ℕ, List, take, sym, ◌∙◌, ap}
use Rattle.std.specs.Int.{w64, from_be_bytes}
use Rattle.std.proofs.lemmas.List.{get_or-drop, drop-drop}
use Rattle.crash_log.specs.Log.{place_of}
use Rattle.crash_log.proofs.open.parse.Goals as goal

pub returns-clause-place : goal.returns-clause-place
unfolding place_of
returns-clause-place c =
    let bytes = c.args.bytes.now in
    let turn = get_or-drop 1 bytes 0 0 in
    let start = ap (λ (l : List ℕ). from_be_bytes w64 (take 8 l)) (drop-drop 7 1 bytes) ∙ sym c.number.ensures in
    let size = ap (λ (l : List ℕ). from_be_bytes w64 (take 8 l)) (drop-drop 15 1 bytes) ∙ sym c.number-2.ensures in
    λ i. record { turn = turn i; start = start i; size = size i }
