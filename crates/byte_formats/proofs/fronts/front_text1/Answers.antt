use Rattle.std.proofs.Common.{ℕ, subst}
use Rattle.bk_text.specs.declared.words.Alphabet.{Alphabet}
use Rattle.bk_text.specs.Words.{IsWordOf}
use Rattle.byte_formats.specs.Texts.{alphabet_of}
use Rattle.byte_formats.specs.Formats.{Took, Sticks, text1_of}
use Rattle.byte_formats.proofs.TextForms.{took_text, text_sticks}
use Rattle.byte_formats.proofs.fronts.front_text1.Goals as goal

pub returns-in-Err : goal.returns-in-Err
returns-in-Err c =
    text_sticks c.args.form c.args.bytes.now c.in-Err.left
    (subst (λ (n : ℕ). Sticks (text1_of (IsWordOf (alphabet_of c.args.form) n)) c.args.bytes.now c.in-Err.left) c.most.ensures.is
    (subst (λ (a : Alphabet). Sticks (text1_of (IsWordOf a c.most.result)) c.args.bytes.now c.in-Err.left) c.alphabet.ensures c.in-Err.ensures))

pub returns-in-Ok : goal.returns-in-Ok
returns-in-Ok c =
    took_text c.args.form c.args.bytes.now c.in-Ok.text.now c.in-Ok.rest.now
    (subst (λ (n : ℕ). Took (text1_of (IsWordOf (alphabet_of c.args.form) n)) c.args.bytes.now c.in-Ok.text.now c.in-Ok.rest.now) c.most.ensures.is
    (subst (λ (a : Alphabet). Took (text1_of (IsWordOf a c.most.result)) c.args.bytes.now c.in-Ok.text.now c.in-Ok.rest.now) c.alphabet.ensures c.in-Ok.ensures))
