use Rattle.bk_text.specs.Words.{IsWordOf}
use Rattle.byte_formats.specs.Formats.{both, stated, one_in, text1_of}
use Rattle.byte_formats.proofs.FormatLaws.{both_first, both_second, took_both, like_sticks, took_like}
use Rattle.byte_formats.proofs.Leaves.{sole_one, has_word, like_text1, word_bounds}
use Rattle.byte_formats.proofs.fronts.front_word1.Goals as goal

pub returns-in-Err : goal.returns-in-Err
returns-in-Err c = like_sticks (both (one_in 1 c.args.most) (λ n. stated n (IsWordOf c.args.alphabet c.args.most))) (text1_of (IsWordOf c.args.alphabet c.args.most)) (like_text1 1 c.args.most (IsWordOf c.args.alphabet c.args.most) (word_bounds c.args.alphabet c.args.most)) _ _ (both_first (one_in 1 c.args.most) (λ n. stated n (IsWordOf c.args.alphabet c.args.most)) _ _ (λ n is. has_word c.args.alphabet c.args.most n is.0 is.1) c.in-Err.ensures)

pub returns-in-Err-front_word_of : goal.returns-in-Err-front_word_of
returns-in-Err-front_word_of c = like_sticks (both (one_in 1 c.args.most) (λ n. stated n (IsWordOf c.args.alphabet c.args.most))) (text1_of (IsWordOf c.args.alphabet c.args.most)) (like_text1 1 c.args.most (IsWordOf c.args.alphabet c.args.most) (word_bounds c.args.alphabet c.args.most)) _ _ (both_second (one_in 1 c.args.most) (λ n. stated n (IsWordOf c.args.alphabet c.args.most)) _ _ _ _ (sole_one 1 c.args.most) c.in-Ok.ensures c.in-Err-front_word_of.ensures)

pub returns-in-Ok-front_word_of : goal.returns-in-Ok-front_word_of
unfolding like_text1
returns-in-Ok-front_word_of c = took_like (both (one_in 1 c.args.most) (λ n. stated n (IsWordOf c.args.alphabet c.args.most))) (text1_of (IsWordOf c.args.alphabet c.args.most)) (like_text1 1 c.args.most (IsWordOf c.args.alphabet c.args.most) (word_bounds c.args.alphabet c.args.most)) _ _ _ (took_both (one_in 1 c.args.most) (λ n. stated n (IsWordOf c.args.alphabet c.args.most)) _ _ _ _ _ c.in-Ok.ensures c.in-Ok-front_word_of.ensures)
