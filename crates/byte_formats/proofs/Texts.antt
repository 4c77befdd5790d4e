-- Texts of each form behind their lengths: each is known by its bytes, and there is one. Pairs of values.
use Rattle.std.proofs.Common.{lit≤}
use Rattle.bk_text.specs.Alphabets.{IsName, IsHost, IsSetName}
use Rattle.bk_text.specs.LevelPaths.{IsLevelPath}
use Rattle.bk_text.specs.declared.words.Alphabet.TheVariants as alphabets
use Rattle.byte_formats.specs.Forms.{IsBase}
use Rattle.byte_formats.specs.Formats.{Format, pair, text1_of, text2_of}
use Rattle.byte_formats.proofs.FormatLaws.{Sole, Has, sole_both, has_both}
use Rattle.byte_formats.proofs.Leaves.{sole_text1, sole_text2, has_text1, word_bounds, path_bounds}

-- ---- texts

pub sole_name : Sole (text1_of IsName)
sole_name = sole_text1 1 31 IsName (word_bounds alphabets.Plain 31)

pub sole_host : Sole (text1_of IsHost)
sole_host = sole_text1 1 63 IsHost (word_bounds alphabets.Plain 63)

pub sole_set : Sole (text1_of IsSetName)
sole_set = sole_text1 1 31 IsSetName (word_bounds alphabets.NoPeriod 31)

pub sole_base : Sole (text1_of IsBase)
sole_base = sole_text1 1 69 IsBase (word_bounds alphabets.AnyFirst 69)

pub sole_level : Sole (text2_of IsLevelPath)
sole_level = sole_text2 2 256 IsLevelPath (lit≤ tt) path_bounds

pub has_name : Has (text1_of IsName)
has_name = has_text1 alphabets.Plain 31 (lit≤ tt)

pub has_host : Has (text1_of IsHost)
has_host = has_text1 alphabets.Plain 63 (lit≤ tt)

pub has_set : Has (text1_of IsSetName)
has_set = has_text1 alphabets.NoPeriod 31 (lit≤ tt)

pub has_base : Has (text1_of IsBase)
has_base = has_text1 alphabets.AnyFirst 69 (lit≤ tt)

-- ---- pairs

pub sole_pair : {X Y : Type 0} (F : Format X) (G : Format Y) → Sole F → Sole G → Sole (pair F G)
sole_pair F G f g = sole_both F (λ x. G) f (λ x is. g)

pub has_pair : {X Y : Type 0} (F : Format X) (G : Format Y) → Has F → Has G → Has (pair F G)
has_pair F G f g = has_both F (λ x. G) f g
