-- That what reads give is one of the images: what the laws of files in memory rest on.
use Rattle.std.proofs.Common.{◌≡◌, inl, inr, ℕ, List, [], ◌∷◌, ◌++◌, length, refl, sym, ap, subst, arith}
use Rattle.std.proofs.lemmas.List.{take_all}
use Rattle.media_core.specs.Disk.{Piece, OutputMayLeave}

-- what was told at the start, or with the last piece
abbrev pub last_told : List ℕ → List Piece → List ℕ
last_told first [] = first
last_told first (p ∷ ps) = p.before ++ p.bytes

last_is_left : (first : List ℕ) (pieces : List Piece) → OutputMayLeave first pieces (last_told first pieces)
last_is_left first [] = inl refl
last_is_left first (p ∷ ps) = inr (record { piece = p; among = (0, omega arith, refl); size = length p.bytes; is = ap (λ (l : List ℕ). p.before ++ l) (sym (take_all (length p.bytes) p.bytes (omega arith))) })

pub told_is_left : (first : List ℕ) (pieces : List Piece) (told : List ℕ) → told ≡ last_told first pieces → OutputMayLeave first pieces told
told_is_left first pieces told last = subst (OutputMayLeave first pieces) (sym last) (last_is_left first pieces)
