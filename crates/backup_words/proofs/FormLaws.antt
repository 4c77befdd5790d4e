-- A word that passes the test of a form is of the form.
use Rattle.std.proofs.Common.{◌≡◌, ℕ, List, [], ◌∷◌, refl, inl, inr, Bool, true, false}
use Rattle.std.specs.Prelude.{◌⊎◌, ◌&&◌, ◌||◌, not, nat_le, All, Option, Some, None, is_some, if◌then◌else◌}
use Rattle.std.specs.List.{list_all}
use Rattle.std.proofs.lemmas.Bool.{and_parts, false≢true}
use Rattle.std.proofs.lemmas.List.Elements.{All-cons, All-nil}
use Rattle.bk_text.specs.declared.words.Alphabet.TheVariants.{Plain, NoPeriod, AnyFirst}
use Rattle.bk_text.specs.LevelPaths.{IsLevelPath}
use Rattle.bk_text.specs.Partitions.{without_slash}
use Rattle.bk_text.specs.Tests.{word_test, level_path_test}
use Rattle.bk_text.proofs.TestLaws.{word_of_test, path_of_test}
use Rattle.backup_words.specs.Fitting.{IsText}
use Rattle.backup_words.specs.Forms.{is_any, ends_in_backup, is_text, within}
use Rattle.backup_words.specs.declared.options.TextForm.{TextForm}
use Rattle.backup_words.specs.declared.options.TextForm.TheVariants.{SetName, Name, NewName, Host, Part, AnyHost, AnyPart, TapeName, LevelPath, Extension, Any}

all_of : {X : Type 0} (p : X → Bool) (P : X → Type 0) → ((x : X) → p x ≡ true → P x) → (xs : List X) → list_all p xs ≡ true → All P xs
all_of p P each [] e = All-nil P
all_of p P each (x ∷ xs) e = let q = and_parts (p x) (list_all p xs) e in All-cons P x xs (each x q.0) (all_of p P each xs q.1)

any_or : {P : Type 0} (a b : Bool) → (b ≡ true → P) → (a || b) ≡ true → (a ≡ true) ⊎ P
any_or true b form e = inl refl
any_or false b form e = inr (form e)

-- a word that passes its test is of its form
pub text_form : (form : TextForm) (word : List ℕ) → is_text form word ≡ true → IsText form word
text_form SetName word e = word_of_test NoPeriod 31 word e
text_form Name word e = word_of_test Plain 31 word e
text_form NewName word e = word_of_test Plain 31 word (and_parts (word_test Plain 31 word) (not (ends_in_backup word)) e).0
text_form Host word e = word_of_test Plain 63 word e
text_form Part word e = word_of_test Plain 31 (without_slash word) e
text_form AnyHost word e = any_or (is_any word) (word_test Plain 63 word) (word_of_test Plain 63 word) e
text_form AnyPart word e = any_or (is_any word) (word_test Plain 31 (without_slash word)) (word_of_test Plain 31 (without_slash word)) e
text_form TapeName word e = word_of_test AnyFirst 80 word e
text_form LevelPath word e = path_of_test word e
text_form Extension word e = tt
text_form Any word e = tt

pub levels_form : (words : List (List ℕ)) → list_all level_path_test words ≡ true → All IsLevelPath words
levels_form words e = all_of level_path_test IsLevelPath path_of_test words e

kept_by : (t : Bool) (n : ℕ) → is_some (if t then Some n else None) ≡ true → (if t then Some n else None) ≡ Some n
kept_by true n e = refl
kept_by false n e = absurd (false≢true e)

-- a number within limits is the number
pub number_kept : (least most : ℕ) (found : Option ℕ) → is_some (within least most found) ≡ true → within least most found ≡ found
number_kept least most None e = absurd (false≢true e)
number_kept least most (Some n) e = kept_by (nat_le least n && nat_le n most) n e
