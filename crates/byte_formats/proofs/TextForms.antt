-- Words of an alphabet and a length as texts of their form.
use Rattle.std.proofs.Common.{ℕ, List}
use Rattle.bk_text.specs.Words.{IsWordOf}
use Rattle.byte_formats.specs.declared.text.Text.{Text}
use Rattle.byte_formats.specs.declared.text.Text.TheVariants.{Name, Host, SetName, TapeName, Base}
use Rattle.byte_formats.specs.Texts.{IsText, alphabet_of, most_of}
use Rattle.byte_formats.specs.Formats.{Took, Sticks, text1_of}

pub took_text : (form : Text) (bytes text rest : List ℕ) → Took (text1_of (IsWordOf (alphabet_of form) (most_of form))) bytes text rest → Took (text1_of (IsText form)) bytes text rest
took_text Name bytes text rest h = h
took_text Host bytes text rest h = h
took_text SetName bytes text rest h = h
took_text TapeName bytes text rest h = h
took_text Base bytes text rest h = h

pub text_sticks : (form : Text) (bytes : List ℕ) (left : ℕ) → Sticks (text1_of (IsWordOf (alphabet_of form) (most_of form))) bytes left → Sticks (text1_of (IsText form)) bytes left
text_sticks Name bytes left h = h
text_sticks Host bytes left h = h
text_sticks SetName bytes left h = h
text_sticks TapeName bytes left h = h
text_sticks Base bytes left h = h
