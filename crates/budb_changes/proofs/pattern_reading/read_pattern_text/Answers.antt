use Rattle.bk_text.specs.declared.words.Alphabet.TheVariants as alphabets
use Rattle.budb_changes.specs.Printable.{IsPatternBytes}
use Rattle.byte_formats.specs.Formats.{both, stated, two_in, text2_of}
use Rattle.byte_formats.proofs.FormatLaws.{stops_first, stops_second, took_both, stops_like, took_like}
use Rattle.byte_formats.proofs.Leaves.{sole_two, has_word, like_text2, word_bounds}
use Rattle.std.proofs.Common.{lit≤}
use Rattle.budb_changes.proofs.pattern_reading.read_pattern_text.Goals as goal

pub returns-in-Err : goal.returns-in-Err
returns-in-Err c = stops_like (both (two_in 1 128) (λ n. stated n IsPatternBytes)) (text2_of IsPatternBytes) (like_text2 1 128 IsPatternBytes (word_bounds alphabets.Printable 128)) _ _ (stops_first (two_in 1 128) (λ n. stated n IsPatternBytes) _ _ (λ n is. has_word alphabets.Printable 128 n is.0 is.1) c.in-Err.ensures)

pub returns-in-Err-read_word_of : goal.returns-in-Err-read_word_of
returns-in-Err-read_word_of c = stops_like (both (two_in 1 128) (λ n. stated n IsPatternBytes)) (text2_of IsPatternBytes) (like_text2 1 128 IsPatternBytes (word_bounds alphabets.Printable 128)) _ _ (stops_second (two_in 1 128) (λ n. stated n IsPatternBytes) _ _ _ _ (sole_two 1 128 (lit≤ tt)) c.in-Ok.ensures c.in-Err-read_word_of.ensures)

pub returns-in-Ok-read_word_of : goal.returns-in-Ok-read_word_of
unfolding like_text2
returns-in-Ok-read_word_of c = took_like (both (two_in 1 128) (λ n. stated n IsPatternBytes)) (text2_of IsPatternBytes) (like_text2 1 128 IsPatternBytes (word_bounds alphabets.Printable 128)) _ _ _ (took_both (two_in 1 128) (λ n. stated n IsPatternBytes) _ _ _ _ _ c.in-Ok.ensures c.in-Ok-read_word_of.ensures)
