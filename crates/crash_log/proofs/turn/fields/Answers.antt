use Rattle.std.proofs.Common.{◌≡◌, ◌∙◌, ap, arith}
use Rattle.std.specs.Int.{w64, from_be_bytes}
use Rattle.std.proofs.lemmas.Nat.{from_be_bytes-to_be_bytes_8}
use Rattle.crash_log.specs.Log.{place_of}
use Rattle.crash_log.proofs.turn.fields.Goals as goal

pub returns-clause-place : goal.returns-clause-place
unfolding place_of
returns-clause-place c =
    let a = c.bytes_of-s.ensures in
    let b = c.bytes_of-n.ensures in
    let s : from_be_bytes w64 c.bytes_of-s.result ≡ c.args.start = ap (from_be_bytes w64) a ∙ from_be_bytes-to_be_bytes_8 c.args.start (omega arith) in
    let n : from_be_bytes w64 c.bytes_of-n.result ≡ c.args.size = ap (from_be_bytes w64) b ∙ from_be_bytes-to_be_bytes_8 c.args.size (omega arith) in
    λ i. record { turn = c.args.turn; start = s i; size = n i }
