-- The first bytes of a log without bytes.
use Rattle.std.proofs.Common.{◌≡◌, ℕ, List, ◌∷◌, ◌++◌, length, drop, replicate, slice_index, refl, sym, ◌∙◌, ap, arith, length-append}
use Rattle.std.proofs.lemmas.List.{get_or-take, get_or-drop, get_or-append_right, get_or-replicate, length-replicate, take-append-le, take_all}
use Rattle.crash_log.specs.Log.{span, place_of}
use Rattle.crash_log.specs.Format.{first_place, IsFront}

-- an open gate, the place of an empty log, and zeros
pub front_is : (fields rest : List ℕ) → length fields ≡ 23 → place_of fields ≡ first_place → rest ≡ replicate 8167 0 → IsFront (1 ∷ (fields ++ rest))
front_is fields rest long place is =
    let bytes : List ℕ = 1 ∷ (fields ++ rest) in
    let zeros : length rest ≡ 8167 = ap length is ∙ length-replicate {A = ℕ} 8167 0 in
    let here : span 1 23 bytes ≡ fields = take-append-le 23 fields rest (omega (arith, long)) ∙ take_all 23 fields (omega (arith, long)) in
    record {
      size = omega (arith, zeros, long, length-append fields rest);
      gate = refl;
      place = ap place_of here ∙ place;
      other = λ is_one.
          let zero_is : slice_index (span 4096 1 bytes) 0 ≡ 0 =
          get_or-take 1 (drop 4096 bytes) 0 0 (omega arith) ∙ get_or-drop 4096 bytes 0 0
          ∙ get_or-append_right (1 ∷ fields) rest 24 4096 0 (omega (arith, long)) (omega arith)
          ∙ ap (λ (l : List ℕ). slice_index l 4072) is ∙ get_or-replicate 8167 4072 0 0 (omega arith) in
          let no : 0 ≡ 1 = sym zero_is ∙ is_one in
          absurd (omega (arith, no));
    }
