-- A tape of a file has few records.
use Rattle.std.proofs.Common.{◌≡◌, ℕ, ◌+◌, ◌^◌, ◌≤◌, Bool, true, false, List, [], length, drop, refl, arith}
use Rattle.std.specs.Prelude.{nat_le, ◌==◌, if◌then◌else◌}
use Rattle.std.proofs.lemmas.Bool.{and_parts, leb-true}
use Rattle.std.proofs.lemmas.List.{length-take}
use Rattle.media_core.specs.Media.{Image}
use Rattle.crash_log.specs.Log.{gate_at, place_at, is_fine, is_good, successor, named, log_of, is_damaged}
use Rattle.crash_log.specs.CrashLog.{damaged_of, log_bytes}
use Rattle.plant_media.specs.Cutting.{records_count, count_high}
use Rattle.plant_media.specs.Stock.{tape_shown, tape_of}
use Rattle.plant_media.specs.Loaded.{tape_in}
use Rattle.plant_media.specs.declared.tape.Tape.{Tape}

named_short : (base : ℕ) (file : List ℕ) → is_good base file ≡ true → length (named base file) ≤ 2 ^ 38
named_short base file good =
    let p = place_at base file in
    let fine = (and_parts (gate_at base file == 1) (is_fine p (length file)) good).1 in
    let start = (and_parts (nat_le p.turn 2) _ fine).1 in
    let high = (and_parts (nat_le 8192 p.start) _ start).1 in
    let size = (and_parts (nat_le p.start (2 ^ 40)) _ high).1 in
    let small : p.size ≤ 2 ^ 38 = leb-true p.size (2 ^ 38) (and_parts (nat_le p.size (2 ^ 38)) _ size).0 in
    omega (arith, small, length-take p.size (drop p.start file))

log_short : (file : List ℕ) → length (log_of file) ≤ 2 ^ 38
log_short file = go (is_good 4096 file) (is_good 0 file) ((place_at 4096 file).turn == successor (place_at 0 file).turn) refl refl
  where
    go : (second first later : Bool) → is_good 4096 file ≡ second → is_good 0 file ≡ first
        → length (if second then (if first then (if later then named 4096 file else named 0 file) else named 4096 file) else (if first then named 0 file else [])) ≤ 2 ^ 38
    go true true true is_second is_first = named_short 4096 file is_second
    go true true false is_second is_first = named_short 0 file is_first
    go true false later is_second is_first = named_short 4096 file is_second
    go false true later is_second is_first = named_short 0 file is_first
    go false false later is_second is_first = omega arith

shown_short : (b : Bool) (bytes : List ℕ) → length bytes ≤ 2 ^ 38 → length (tape_shown b bytes) ≤ 4294967295
shown_short true bytes short = omega arith
shown_short false bytes short = omega (arith, records_count bytes, count_high (length bytes), short)

-- one that a file stands for
pub few_in : (file : List ℕ) → length (tape_of file) ≤ 4294967295
unfolding tape_of
few_in file = shown_short (is_damaged file) (log_of file) (log_short file)

-- the loaded one, with what was put
pub few_loaded : (tape : Tape) (image : Image) → length (log_bytes tape.log (image.file (tape.slot + 1))) ≤ 2 ^ 38 → length (tape_in tape image) ≤ 4294967295
unfolding tape_in
few_loaded tape image short = shown_short (damaged_of tape.log) (log_bytes tape.log (image.file (tape.slot + 1))) short
