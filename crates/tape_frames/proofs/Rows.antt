-- The fields of each kind as values one behind another: each is known by its bytes, and there is one.
use Rattle.std.proofs.Common.{◌≡◌, inl, ℕ, ◌<◌, ◌≤◌, ◌==◌, Bool, true, false, cond, List, ◌++◌, length, replicate, refl, sym, ap, ◌∙◌, lit≤, lit<}
use Rattle.std.proofs.lemmas.List.{length-replicate, drop-replicate}
use Rattle.std.proofs.lemmas.List.Elements.{All-replicate}
use Rattle.bk_text.specs.Alphabets.{IsName, IsHost, IsSetName, IsTapeName}
use Rattle.bk_text.specs.LevelPaths.{IsLevelPath}
use Rattle.bk_text.specs.declared.words.Alphabet.TheVariants as alphabets
use Rattle.byte_formats.specs.Forms.{IsBase}
use Rattle.byte_formats.specs.Formats.{Format, both, any_four, four_in, text1_of, text2_of, maybe}
use Rattle.byte_formats.proofs.FormatLaws.{Sole, Has, sole_both, has_both, split_same}
use Rattle.byte_formats.proofs.Leaves.{sole_four, has_four, has_text1, has_level}
use Rattle.byte_formats.proofs.Maybe.{sole_text, sole_maybe, has_maybe, sole_four_in, has_four_in}
use Rattle.byte_formats.proofs.Texts.{sole_name, sole_host, sole_set, sole_base, sole_level, has_name, has_host, has_set, has_base}
use Rattle.tape_frames.specs.Formats.{tape_of, IsAfs, afs_of, zeros_of, used_of}

-- ---- fields whose form an earlier one rules

least_most : (b : Bool) → cond b 0 1 ≤ cond b 0 4294967295
least_most true = lit≤ tt
least_most false = lit≤ tt

most_small : (b : Bool) → cond b 0 4294967295 ≤ 4294967295
most_small true = lit≤ tt
most_small false = lit≤ tt

pub sole_tape : (i : ℕ) → Sole (tape_of i)
sole_tape i = sole_four_in (cond (i == 0) 0 1) (cond (i == 0) 0 4294967295) (most_small (i == 0))

pub has_tape : (i : ℕ) → Has (tape_of i)
has_tape i = has_four_in (cond (i == 0) 0 1) (cond (i == 0) 0 4294967295) (least_most (i == 0))

pub sole_afs : (i : ℕ) → Sole (afs_of i)
sole_afs i = sole_text (IsAfs i)

pub has_afs : (i : ℕ) → Has (afs_of i)
has_afs i = let h = has_text1 alphabets.AnyFirst 80 (lit≤ tt) in record { value = h.value; is = inl h.is }

pub sole_zeros : (n : ℕ) → Sole (zeros_of n)
sole_zeros n = record { same = go }
  where
    go : (x y r s : List ℕ) → x ≡ replicate n 0 → y ≡ replicate n 0 → x ++ r ≡ y ++ s → (x ≡ y) × (r ≡ s)
    go x y r s isx isy e = split_same x y r s (ap length (isx ∙ sym isy)) e

pub has_zeros : (n : ℕ) → Has (zeros_of n)
has_zeros n = record { value = replicate n 0; is = refl }

pub sole_used : (n u : ℕ) → Sole (used_of n u)
sole_used n u = record { same = λ x y r s isx isy e. split_same x y r s (isx.0 ∙ sym isy.0) e }

pub has_used : (n u : ℕ) → Has (used_of n u)
has_used n u = record {
  value = replicate n 0;
  is = (length-replicate {A = ℕ} n 0, All-replicate (λ b. b < 256) n 0 (lit< tt), drop-replicate u n 0);
}

-- ---- label

abbrev pub label_4 : Format (List ℕ)
label_4 = maybe IsTapeName

pub sole_label_4 : Sole label_4
sole_label_4 = (sole_maybe IsTapeName)

pub has_label_4 : Has label_4
has_label_4 = (has_maybe IsTapeName)

abbrev pub label_3 : ℕ → Format (List ℕ × List ℕ)
label_3 i = both (afs_of i) (λ x. label_4)

pub sole_label_3 : (i : ℕ) → Sole (label_3 i)
sole_label_3 i = sole_both (afs_of i) (λ x. label_4) (sole_afs i) (λ x is. sole_label_4)

pub has_label_3 : (i : ℕ) → Has (label_3 i)
has_label_3 i = has_both (afs_of i) (λ x. label_4) (has_afs i) has_label_4

abbrev pub label_2 : ℕ → Format (ℕ × (List ℕ × List ℕ))
label_2 i = both (tape_of i) (λ x. label_3 i)

pub sole_label_2 : (i : ℕ) → Sole (label_2 i)
sole_label_2 i = sole_both (tape_of i) (λ x. label_3 i) (sole_tape i) (λ x is. (sole_label_3 i))

pub has_label_2 : (i : ℕ) → Has (label_2 i)
has_label_2 i = has_both (tape_of i) (λ x. label_3 i) (has_tape i) (has_label_3 i)

abbrev pub label_1 : Format (ℕ × (ℕ × (List ℕ × List ℕ)))
label_1 = both any_four (λ i. label_2 i)

pub sole_label_1 : Sole label_1
sole_label_1 = sole_both any_four (λ i. label_2 i) sole_four (λ i is. (sole_label_2 i))

pub has_label_1 : Has label_1
has_label_1 = has_both any_four (λ i. label_2 i) has_four (has_label_2 has_four.value)

-- ---- plain

abbrev pub plain_10 : Format (List ℕ)
plain_10 = text1_of IsBase

pub sole_plain_10 : Sole plain_10
sole_plain_10 = sole_base

pub has_plain_10 : Has plain_10
has_plain_10 = has_base

abbrev pub plain_9 : Format (List ℕ × List ℕ)
plain_9 = both (text2_of IsLevelPath) (λ x. plain_10)

pub sole_plain_9 : Sole plain_9
sole_plain_9 = sole_both (text2_of IsLevelPath) (λ x. plain_10) sole_level (λ x is. sole_plain_10)

pub has_plain_9 : Has plain_9
has_plain_9 = has_both (text2_of IsLevelPath) (λ x. plain_10) has_level has_plain_10

abbrev pub plain_8 : Format (List ℕ × (List ℕ × List ℕ))
plain_8 = both (text1_of IsSetName) (λ x. plain_9)

pub sole_plain_8 : Sole plain_8
sole_plain_8 = sole_both (text1_of IsSetName) (λ x. plain_9) sole_set (λ x is. sole_plain_9)

pub has_plain_8 : Has plain_8
has_plain_8 = has_both (text1_of IsSetName) (λ x. plain_9) has_set has_plain_9

abbrev pub plain_7 : Format (ℕ × (List ℕ × (List ℕ × List ℕ)))
plain_7 = both (four_in 1 4294967295) (λ x. plain_8)

pub sole_plain_7 : Sole plain_7
sole_plain_7 = sole_both (four_in 1 4294967295) (λ x. plain_8) (sole_four_in 1 4294967295 (lit≤ tt)) (λ x is. sole_plain_8)

pub has_plain_7 : Has plain_7
has_plain_7 = has_both (four_in 1 4294967295) (λ x. plain_8) (has_four_in 1 4294967295 (lit≤ tt)) has_plain_8

abbrev pub plain_6 : Format (ℕ × (ℕ × (List ℕ × (List ℕ × List ℕ))))
plain_6 = both (four_in 1 4294967295) (λ x. plain_7)

pub sole_plain_6 : Sole plain_6
sole_plain_6 = sole_both (four_in 1 4294967295) (λ x. plain_7) (sole_four_in 1 4294967295 (lit≤ tt)) (λ x is. sole_plain_7)

pub has_plain_6 : Has plain_6
has_plain_6 = has_both (four_in 1 4294967295) (λ x. plain_7) (has_four_in 1 4294967295 (lit≤ tt)) has_plain_7

abbrev pub plain_5 : Format (ℕ × (ℕ × (ℕ × (List ℕ × (List ℕ × List ℕ)))))
plain_5 = both (four_in 1 4294967295) (λ x. plain_6)

pub sole_plain_5 : Sole plain_5
sole_plain_5 = sole_both (four_in 1 4294967295) (λ x. plain_6) (sole_four_in 1 4294967295 (lit≤ tt)) (λ x is. sole_plain_6)

pub has_plain_5 : Has plain_5
has_plain_5 = has_both (four_in 1 4294967295) (λ x. plain_6) (has_four_in 1 4294967295 (lit≤ tt)) has_plain_6

abbrev pub plain_4 : Format (ℕ × (ℕ × (ℕ × (ℕ × (List ℕ × (List ℕ × List ℕ))))))
plain_4 = both any_four (λ x. plain_5)

pub sole_plain_4 : Sole plain_4
sole_plain_4 = sole_both any_four (λ x. plain_5) sole_four (λ x is. sole_plain_5)

pub has_plain_4 : Has plain_4
has_plain_4 = has_both any_four (λ x. plain_5) has_four has_plain_5

abbrev pub plain_3 : Format (ℕ × (ℕ × (ℕ × (ℕ × (ℕ × (List ℕ × (List ℕ × List ℕ)))))))
plain_3 = both any_four (λ x. plain_4)

pub sole_plain_3 : Sole plain_3
sole_plain_3 = sole_both any_four (λ x. plain_4) sole_four (λ x is. sole_plain_4)

pub has_plain_3 : Has plain_3
has_plain_3 = has_both any_four (λ x. plain_4) has_four has_plain_4

abbrev pub plain_2 : ℕ → Format (ℕ × (ℕ × (ℕ × (ℕ × (ℕ × (ℕ × (List ℕ × (List ℕ × List ℕ))))))))
plain_2 d = both (four_in 1 d) (λ x. plain_3)

pub sole_plain_2 : (d : ℕ) → d ≤ 4294967295 → Sole (plain_2 d)
sole_plain_2 d small = sole_both (four_in 1 d) (λ x. plain_3) (sole_four_in 1 d small) (λ x is. sole_plain_3)

pub has_plain_2 : (d : ℕ) → 1 ≤ d → Has (plain_2 d)
has_plain_2 d some = has_both (four_in 1 d) (λ x. plain_3) (has_four_in 1 d some) has_plain_3

abbrev pub plain_1 : Format (ℕ × (ℕ × (ℕ × (ℕ × (ℕ × (ℕ × (ℕ × (List ℕ × (List ℕ × List ℕ)))))))))
plain_1 = both (four_in 1 4294967295) (λ d. plain_2 d)

pub sole_plain_1 : Sole plain_1
sole_plain_1 = sole_both (four_in 1 4294967295) (λ d. plain_2 d) (sole_four_in 1 4294967295 (lit≤ tt)) (λ d is. (sole_plain_2 d is.1))

pub has_plain_1 : Has plain_1
has_plain_1 = has_both (four_in 1 4294967295) (λ d. plain_2 d) (has_four_in 1 4294967295 (lit≤ tt)) (has_plain_2 (has_four_in 1 4294967295 (lit≤ tt)).value (has_four_in 1 4294967295 (lit≤ tt)).is.0)

-- ---- vol_head

abbrev pub vol_head_9 : Format (List ℕ)
vol_head_9 = text1_of IsName

pub sole_vol_head_9 : Sole vol_head_9
sole_vol_head_9 = sole_name

pub has_vol_head_9 : Has vol_head_9
has_vol_head_9 = has_name

abbrev pub vol_head_8 : Format (List ℕ × List ℕ)
vol_head_8 = both (text1_of IsHost) (λ x. vol_head_9)

pub sole_vol_head_8 : Sole vol_head_8
sole_vol_head_8 = sole_both (text1_of IsHost) (λ x. vol_head_9) sole_host (λ x is. sole_vol_head_9)

pub has_vol_head_8 : Has vol_head_8
has_vol_head_8 = has_both (text1_of IsHost) (λ x. vol_head_9) has_host has_vol_head_9

abbrev pub vol_head_7 : Format (List ℕ × (List ℕ × List ℕ))
vol_head_7 = both (text1_of IsName) (λ x. vol_head_8)

pub sole_vol_head_7 : Sole vol_head_7
sole_vol_head_7 = sole_both (text1_of IsName) (λ x. vol_head_8) sole_name (λ x is. sole_vol_head_8)

pub has_vol_head_7 : Has vol_head_7
has_vol_head_7 = has_both (text1_of IsName) (λ x. vol_head_8) has_name has_vol_head_8

abbrev pub vol_head_6 : Format (ℕ × (List ℕ × (List ℕ × List ℕ)))
vol_head_6 = both any_four (λ x. vol_head_7)

pub sole_vol_head_6 : Sole vol_head_6
sole_vol_head_6 = sole_both any_four (λ x. vol_head_7) sole_four (λ x is. sole_vol_head_7)

pub has_vol_head_6 : Has vol_head_6
has_vol_head_6 = has_both any_four (λ x. vol_head_7) has_four has_vol_head_7

abbrev pub vol_head_5 : Format (ℕ × (ℕ × (List ℕ × (List ℕ × List ℕ))))
vol_head_5 = both any_four (λ x. vol_head_6)

pub sole_vol_head_5 : Sole vol_head_5
sole_vol_head_5 = sole_both any_four (λ x. vol_head_6) sole_four (λ x is. sole_vol_head_6)

pub has_vol_head_5 : Has vol_head_5
has_vol_head_5 = has_both any_four (λ x. vol_head_6) has_four has_vol_head_6

abbrev pub vol_head_4 : Format (ℕ × (ℕ × (ℕ × (List ℕ × (List ℕ × List ℕ)))))
vol_head_4 = both any_four (λ x. vol_head_5)

pub sole_vol_head_4 : Sole vol_head_4
sole_vol_head_4 = sole_both any_four (λ x. vol_head_5) sole_four (λ x is. sole_vol_head_5)

pub has_vol_head_4 : Has vol_head_4
has_vol_head_4 = has_both any_four (λ x. vol_head_5) has_four has_vol_head_5

abbrev pub vol_head_3 : Format (ℕ × (ℕ × (ℕ × (ℕ × (List ℕ × (List ℕ × List ℕ))))))
vol_head_3 = both (four_in 1 4294967295) (λ x. vol_head_4)

pub sole_vol_head_3 : Sole vol_head_3
sole_vol_head_3 = sole_both (four_in 1 4294967295) (λ x. vol_head_4) (sole_four_in 1 4294967295 (lit≤ tt)) (λ x is. sole_vol_head_4)

pub has_vol_head_3 : Has vol_head_3
has_vol_head_3 = has_both (four_in 1 4294967295) (λ x. vol_head_4) (has_four_in 1 4294967295 (lit≤ tt)) has_vol_head_4

abbrev pub vol_head_2 : Format (ℕ × (ℕ × (ℕ × (ℕ × (ℕ × (List ℕ × (List ℕ × List ℕ)))))))
vol_head_2 = both any_four (λ x. vol_head_3)

pub sole_vol_head_2 : Sole vol_head_2
sole_vol_head_2 = sole_both any_four (λ x. vol_head_3) sole_four (λ x is. sole_vol_head_3)

pub has_vol_head_2 : Has vol_head_2
has_vol_head_2 = has_both any_four (λ x. vol_head_3) has_four has_vol_head_3

abbrev pub vol_head_1 : Format (ℕ × (ℕ × (ℕ × (ℕ × (ℕ × (ℕ × (List ℕ × (List ℕ × List ℕ))))))))
vol_head_1 = both any_four (λ x. vol_head_2)

pub sole_vol_head_1 : Sole vol_head_1
sole_vol_head_1 = sole_both any_four (λ x. vol_head_2) sole_four (λ x is. sole_vol_head_2)

pub has_vol_head_1 : Has vol_head_1
has_vol_head_1 = has_both any_four (λ x. vol_head_2) has_four has_vol_head_2

-- ---- data

abbrev pub data_5 : ℕ → Format (List ℕ)
data_5 u = used_of 16352 u

pub sole_data_5 : (u : ℕ) → Sole (data_5 u)
sole_data_5 u = (sole_used 16352 u)

pub has_data_5 : (u : ℕ) → Has (data_5 u)
has_data_5 u = (has_used 16352 u)

abbrev pub data_4 : ℕ → Format (List ℕ × List ℕ)
data_4 u = both (zeros_of 12) (λ x. data_5 u)

pub sole_data_4 : (u : ℕ) → Sole (data_4 u)
sole_data_4 u = sole_both (zeros_of 12) (λ x. data_5 u) (sole_zeros 12) (λ x is. (sole_data_5 u))

pub has_data_4 : (u : ℕ) → Has (data_4 u)
has_data_4 u = has_both (zeros_of 12) (λ x. data_5 u) (has_zeros 12) (has_data_5 u)

abbrev pub data_3 : Format (ℕ × (List ℕ × List ℕ))
data_3 = both (four_in 1 16352) (λ u. data_4 u)

pub sole_data_3 : Sole data_3
sole_data_3 = sole_both (four_in 1 16352) (λ u. data_4 u) (sole_four_in 1 16352 (lit≤ tt)) (λ u is. (sole_data_4 u))

pub has_data_3 : Has data_3
has_data_3 = has_both (four_in 1 16352) (λ u. data_4 u) (has_four_in 1 16352 (lit≤ tt)) (has_data_4 (has_four_in 1 16352 (lit≤ tt)).value)

abbrev pub data_2 : Format (ℕ × (ℕ × (List ℕ × List ℕ)))
data_2 = both any_four (λ x. data_3)

pub sole_data_2 : Sole data_2
sole_data_2 = sole_both any_four (λ x. data_3) sole_four (λ x is. sole_data_3)

pub has_data_2 : Has data_2
has_data_2 = has_both any_four (λ x. data_3) has_four has_data_3

abbrev pub data_1 : Format (ℕ × (ℕ × (ℕ × (List ℕ × List ℕ))))
data_1 = both any_four (λ x. data_2)

pub sole_data_1 : Sole data_1
sole_data_1 = sole_both any_four (λ x. data_2) sole_four (λ x is. sole_data_2)

pub has_data_1 : Has data_1
has_data_1 = has_both any_four (λ x. data_2) has_four has_data_2

-- ---- vol_end

abbrev pub vol_end_5 : Format (ℕ)
vol_end_5 = any_four

pub sole_vol_end_5 : Sole vol_end_5
sole_vol_end_5 = sole_four

pub has_vol_end_5 : Has vol_end_5
has_vol_end_5 = has_four

abbrev pub vol_end_4 : Format (ℕ × ℕ)
vol_end_4 = both (four_in 0 1) (λ x. vol_end_5)

pub sole_vol_end_4 : Sole vol_end_4
sole_vol_end_4 = sole_both (four_in 0 1) (λ x. vol_end_5) (sole_four_in 0 1 (lit≤ tt)) (λ x is. sole_vol_end_5)

pub has_vol_end_4 : Has vol_end_4
has_vol_end_4 = has_both (four_in 0 1) (λ x. vol_end_5) (has_four_in 0 1 (lit≤ tt)) has_vol_end_5

abbrev pub vol_end_3 : Format (ℕ × (ℕ × ℕ))
vol_end_3 = both any_four (λ x. vol_end_4)

pub sole_vol_end_3 : Sole vol_end_3
sole_vol_end_3 = sole_both any_four (λ x. vol_end_4) sole_four (λ x is. sole_vol_end_4)

pub has_vol_end_3 : Has vol_end_3
has_vol_end_3 = has_both any_four (λ x. vol_end_4) has_four has_vol_end_4

abbrev pub vol_end_2 : Format (ℕ × (ℕ × (ℕ × ℕ)))
vol_end_2 = both any_four (λ x. vol_end_3)

pub sole_vol_end_2 : Sole vol_end_2
sole_vol_end_2 = sole_both any_four (λ x. vol_end_3) sole_four (λ x is. sole_vol_end_3)

pub has_vol_end_2 : Has vol_end_2
has_vol_end_2 = has_both any_four (λ x. vol_end_3) has_four has_vol_end_3

abbrev pub vol_end_1 : Format (ℕ × (ℕ × (ℕ × (ℕ × ℕ))))
vol_end_1 = both any_four (λ x. vol_end_2)

pub sole_vol_end_1 : Sole vol_end_1
sole_vol_end_1 = sole_both any_four (λ x. vol_end_2) sole_four (λ x is. sole_vol_end_2)

pub has_vol_end_1 : Has vol_end_1
has_vol_end_1 = has_both any_four (λ x. vol_end_2) has_four has_vol_end_2

-- ---- use

abbrev pub use_3 : Format (ℕ)
use_3 = four_in 1 4294967295

pub sole_use_3 : Sole use_3
sole_use_3 = (sole_four_in 1 4294967295 (lit≤ tt))

pub has_use_3 : Has use_3
has_use_3 = (has_four_in 1 4294967295 (lit≤ tt))

abbrev pub use_2 : Format (List ℕ × ℕ)
use_2 = both (maybe IsTapeName) (λ x. use_3)

pub sole_use_2 : Sole use_2
sole_use_2 = sole_both (maybe IsTapeName) (λ x. use_3) (sole_maybe IsTapeName) (λ x is. sole_use_3)

pub has_use_2 : Has use_2
has_use_2 = has_both (maybe IsTapeName) (λ x. use_3) (has_maybe IsTapeName) has_use_3

abbrev pub use_1 : Format (List ℕ × (List ℕ × ℕ))
use_1 = both (maybe IsHost) (λ x. use_2)

pub sole_use_1 : Sole use_1
sole_use_1 = sole_both (maybe IsHost) (λ x. use_2) (sole_maybe IsHost) (λ x is. sole_use_2)

pub has_use_1 : Has use_1
has_use_1 = has_both (maybe IsHost) (λ x. use_2) (has_maybe IsHost) has_use_2

-- ---- dump_end

abbrev pub dump_end_3 : Format (ℕ)
dump_end_3 = four_in 0 1

pub sole_dump_end_3 : Sole dump_end_3
sole_dump_end_3 = (sole_four_in 0 1 (lit≤ tt))

pub has_dump_end_3 : Has dump_end_3
has_dump_end_3 = (has_four_in 0 1 (lit≤ tt))

abbrev pub dump_end_2 : Format (ℕ × ℕ)
dump_end_2 = both any_four (λ x. dump_end_3)

pub sole_dump_end_2 : Sole dump_end_2
sole_dump_end_2 = sole_both any_four (λ x. dump_end_3) sole_four (λ x is. sole_dump_end_3)

pub has_dump_end_2 : Has dump_end_2
has_dump_end_2 = has_both any_four (λ x. dump_end_3) has_four has_dump_end_3

abbrev pub dump_end_1 : Format (ℕ × (ℕ × ℕ))
dump_end_1 = both any_four (λ x. dump_end_2)

pub sole_dump_end_1 : Sole dump_end_1
sole_dump_end_1 = sole_both any_four (λ x. dump_end_2) sole_four (λ x is. sole_dump_end_2)

pub has_dump_end_1 : Has dump_end_1
has_dump_end_1 = has_both any_four (λ x. dump_end_2) has_four has_dump_end_2
