-- Whole logs: changes one behind another.
use Rattle.std.proofs.Common.{zero, suc, ◌≡◌, ℕ, ◌-◌, ◌<◌, ◌≤◌, List, [], ◌∷◌, ◌++◌, length, refl, sym, ap, subst, ◌∙◌, append_assoc, arith}
use Rattle.std.specs.Prelude.{Result, Ok, Err}
use Rattle.std.specs.List.{flat_map}
use Rattle.std.proofs.lemmas.List.{append-nil}
use Rattle.std.proofs.lemmas.List.Elements.{All-nil}
use Rattle.bk_text.specs.Places.{FailsAt}
use Rattle.bk_text.proofs.Fails.{one_place}
use Rattle.budb_changes.specs.declared.change.Change.{Change}
use Rattle.budb_changes.specs.Bytes.{encoded_change, encoded}
use Rattle.budb_changes.specs.Forms.{IsChange, AreChanges, IsLog}
use Rattle.budb_changes.specs.Formats.{change_form}
use Rattle.budb_changes.proofs.Logs.{log_fails, same_changes, one_more, fewer}
use Rattle.log_readings.specs.Readers.{Read}
use Rattle.log_readings.specs.Readings.{read_change, with_change, change_and, read_changes, from_front, reading_of}
use Rattle.log_readings.proofs.Answering.{Answers}
use Rattle.log_readings.proofs.EachKind.{reads_change}

-- behind these changes more stand, and then all of the bytes are read; or the bytes stop being those of changes
abbrev Goes : List ℕ → List Change → Result (List Change) ℕ → Type 0
Goes bytes xs (Ok ys) = AreChanges (xs ++ ys) × (bytes ≡ flat_map encoded_change (xs ++ ys))
Goes bytes xs (Err left) = FailsAt IsLog bytes (length bytes - left)

done : (xs : List Change) (bytes : List ℕ) → AreChanges xs → bytes ≡ flat_map encoded_change xs ++ [] → Goes bytes xs (Ok [])
done xs bytes is joined =
    let same : xs ≡ xs ++ [] = sym (append-nil xs) in
    (subst AreChanges same is, joined ∙ append-nil (flat_map encoded_change xs) ∙ ap (λ (zs : List Change). flat_map encoded_change zs) same)

with_one : (bytes : List ℕ) (xs : List Change) (c : Change) (out : Result (List Change) ℕ) → Goes bytes (xs ++ c ∷ []) out → Goes bytes xs (with_change c out)
unfolding with_change
with_one bytes xs c (Ok ys) goes = subst (λ (zs : List Change). AreChanges zs × (bytes ≡ flat_map encoded_change zs)) (append_assoc xs (c ∷ []) ys) goes
with_one bytes xs c (Err left) fails = fails

step : (xs : List Change) (bytes rest : List ℕ) (more : List ℕ → Result (List Change) ℕ) → AreChanges xs → bytes ≡ flat_map encoded_change xs ++ rest → 0 < length rest
    → ((ys : List Change) (after : List ℕ) → AreChanges ys → bytes ≡ flat_map encoded_change ys ++ after → length after < length rest → Goes bytes ys (more after))
    → (out : Read Change) → Answers change_form rest out → Goes bytes xs (change_and more out)
unfolding change_and
step xs bytes rest more is joined some next (Ok taken) took =
    let one = one_more xs taken.0 bytes rest taken.1 is joined took in
    with_one bytes xs taken.0 (more taken.1) (next (xs ++ taken.0 ∷ []) taken.1 one.0 one.1 (fewer taken.0 rest taken.1 took))
step xs bytes rest more is joined some next (Err left) s = log_fails xs bytes rest left (length bytes - left) is joined some s refl

goes : (n : ℕ) (xs : List Change) (bytes rest : List ℕ) → AreChanges xs → bytes ≡ flat_map encoded_change xs ++ rest → length rest ≤ n → Goes bytes xs (read_changes n rest)
unfolding read_changes
goes zero xs bytes [] is joined few = done xs bytes is joined
goes zero xs bytes (b ∷ r) is joined few = absurd (omega (arith, few))
goes (suc n) xs bytes [] is joined few = done xs bytes is joined
goes (suc n) xs bytes (b ∷ r) is joined few =
    step xs bytes (b ∷ r) (λ rest. read_changes n rest) is joined (omega arith) (λ ys after isy joinedy less. goes n ys bytes after isy joinedy (omega (arith, less, few))) (read_change (b ∷ r)) (reads_change.answers (b ∷ r))

-- the changes that the bytes spell, or where they stop
abbrev Known : List ℕ → Result (List Change) ℕ → Type 0
Known bytes (Ok changes) = AreChanges changes × (bytes ≡ encoded changes)
Known bytes (Err at) = FailsAt IsLog bytes at

placed : (bytes : List ℕ) (out : Result (List Change) ℕ) → Goes bytes [] out → Known bytes (from_front (length bytes) out)
unfolding from_front encoded
placed bytes (Ok changes) goes = goes
placed bytes (Err left) fails = fails

known : (bytes : List ℕ) → Known bytes (reading_of bytes)
unfolding reading_of
known bytes = placed bytes (read_changes (length bytes) bytes) (goes (length bytes) [] bytes bytes (All-nil IsChange) refl (omega arith))

pub read_again : (changes : List Change) → AreChanges changes → reading_of (encoded changes) ≡ Ok changes
read_again changes is = go (reading_of (encoded changes)) (known (encoded changes))
  where
    go : (out : Result (List Change) ℕ) → Known (encoded changes) out → out ≡ Ok changes
    go (Ok others) k = ap (λ (cs : List Change). Ok cs) (same_changes others changes k.0 is (sym k.1))
    go (Err at) fails = absurd (fails.not_whole (changes, is, refl))

pub read_whole : (bytes : List ℕ) (changes : List Change) → reading_of bytes ≡ Ok changes → AreChanges changes × (bytes ≡ encoded changes)
read_whole bytes changes e = subst (Known bytes) e (known bytes)

pub read_fails : (bytes : List ℕ) (at : ℕ) → reading_of bytes ≡ Err at → FailsAt IsLog bytes at
read_fails bytes at e = subst (Known bytes) e (known bytes)

pub read_stops : (bytes : List ℕ) (at : ℕ) → FailsAt IsLog bytes at → reading_of bytes ≡ Err at
read_stops bytes at fails = go (reading_of bytes) (known bytes)
  where
    go : (out : Result (List Change) ℕ) → Known bytes out → out ≡ Err at
    go (Ok changes) k = absurd (fails.not_whole (changes, k.0, k.1))
    go (Err other) others = ap (λ (n : ℕ). Err n) (one_place IsLog bytes other at others fails)
