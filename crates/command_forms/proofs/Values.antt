-- The value of an option whose words fit has its form.
use Rattle.std.proofs.Common.{◌≡◌, inl, inr, ℕ, ◌≤◌, Bool, true, false, not, List, [], ◌∷◌, refl, sym, subst, arith}
use Rattle.std.specs.Prelude.{All, ◌&&◌, nat_le, is_some, if◌then◌else◌, option_map, unwrap_or, Option, Some, None, IfSome, Result, Ok, Err, IfOk}
use Rattle.std.specs.List.{list_all}
use Rattle.std.proofs.lemmas.Bool.{and_parts, leb-true}
use Rattle.bk_text.specs.declared.expiry.Expiry.{Expiry}
use Rattle.bk_text.specs.declared.expiry.Expiry.TheVariants.{Unset}
use Rattle.bk_text.specs.Alphabets.{IsName, IsHost}
use Rattle.bk_text.specs.Digits.{digits_of}
use Rattle.bk_text.specs.LevelPaths.{IsLevelPath}
use Rattle.bk_text.specs.Partitions.{without_slash}
use Rattle.bk_text.specs.Patterns.{IsPattern}
use Rattle.bk_text.specs.Tests.{name_test, level_path_test}
use Rattle.byte_formats.specs.Forms.{IsTwo, IsAnyOr}
use Rattle.dump_levels.specs.declared.dates.DateFault.{DateFault}
use Rattle.dump_levels.specs.Expiries.{expiry_says}
use Rattle.volume_sets.specs.Testing.{pattern_place}
use Rattle.budb_changes.specs.Printable.{IsPatternBytes}
use Rattle.budb_changes.specs.Forms.{IsExpiry}
use Rattle.backup_words.specs.declared.options.OptionName.{OptionName}
use Rattle.backup_words.specs.declared.options.OptionName.TheVariants as option
use Rattle.backup_words.specs.declared.options.Need.{Need}
use Rattle.backup_words.specs.declared.options.Need.TheVariants.{Required}
use Rattle.backup_words.specs.declared.options.TextForm.{TextForm}
use Rattle.backup_words.specs.declared.options.TextForm.TheVariants.{NewName, AnyHost, AnyPart}
use Rattle.backup_words.specs.declared.options.Form.{Form}
use Rattle.backup_words.specs.declared.options.Form.TheVariants.{Text, Number, Pattern, Levels}
use Rattle.backup_words.specs.declared.faults.ValueFault.TheVariants.{Unfit, NoPattern}
use Rattle.backup_words.specs.Fitting.{IsText, Fits}
use Rattle.backup_words.specs.Forms.{is_text, is_any, ends_in_backup, within, number_within}
use Rattle.backup_words.specs.Table.{rule, port}
use Rattle.backup_words.specs.Words.{given}
use Rattle.backup_words.specs.Values.{unfit_unless, is_flag, is_excluded, values_fault, form_fault, given_fault, first_word, maybe_word, word_at, number_in, number_at, words_at, unless_any, ok_or_else, expiry_at}
use Rattle.backup_words.specs.Commands.{port_at}
use Rattle.backup_words.proofs.FormLaws.{text_form, levels_form}
use Rattle.backup_words.proofs.PatternLaws.{pattern_form}
use Rattle.command_forms.proofs.Expirations.{expiry_within}

-- ---- an option that is there has a value

record IsGiven (o : OptionName) (form : Form) (values : Option (List (List ℕ))) : Type 0 where
  value : List ℕ
  more : List (List ℕ)
  is : values ≡ Some (value ∷ more)
  good : values_fault o form value (value ∷ more) ≡ None

unfit : (o : OptionName) (b : Bool) → unfit_unless o b ≡ None → b ≡ true
unfit o true good = refl
unfit o false good = cc

some_values : (o : OptionName) (form : Form) (values : List (List ℕ)) → is_flag form ≡ false → form_fault o form values ≡ None → IsGiven o form (Some values)
some_values o form [] valued good = absurd (both (is_flag form) valued (unfit o (is_flag form) good))
  where
    both : (b : Bool) → b ≡ false → b ≡ true → ⊥
    both b off on = cc
some_values o form (value ∷ more) valued good = record { value = value; more = more; is = refl; good = good }

required : (words : List (List ℕ)) (o : OptionName) (form : Form) (values : Option (List (List ℕ))) → is_flag form ≡ false → not (is_some values) ≡ false → given_fault words (rule o Required form) values ≡ None → IsGiven o form values
required words o form None valued there good = cc
required words o form (Some values) valued there good = some_values o form values valued good

module _ (words : List (List ℕ)) (o : OptionName) where
  is_given : (form : Form) → is_flag form ≡ false → Fits words (rule o Required form) → IsGiven o form (given o words)
  is_given form valued fits = required words o form (given o words) valued fits.there fits.good

  -- ---- the values

  pub text_at : (form : TextForm) → Fits words (rule o Required (Text form)) → IsText form (word_at o words)
  text_at form fits =
      let it = is_given (Text form) refl fits in
      subst (λ (g : Option (List (List ℕ))). IsText form (unwrap_or (option_map first_word g) [])) (sym it.is) (text_form form it.value (unfit o (is_text form it.value) it.good))

  -- a new name has another ending than `.backup`
  pub new_at : Fits words (rule o Required (Text NewName)) → not (ends_in_backup (word_at o words)) ≡ true
  new_at fits =
      let it = is_given (Text NewName) refl fits in
      subst (λ (g : Option (List (List ℕ))). not (ends_in_backup (unwrap_or (option_map first_word g) [])) ≡ true) (sym it.is)
      (and_parts (name_test it.value) (not (ends_in_backup it.value)) (unfit o (is_text NewName it.value) it.good)).1

  pub pattern_at : Fits words (rule o Required Pattern) → IsPatternBytes (word_at o words)
  pattern_at fits =
      let it = is_given Pattern refl fits in
      let is : IsPattern it.value = pattern_form it.value (NoPattern (pattern_place it.value)) it.good in
      subst (λ (g : Option (List (List ℕ))). IsPatternBytes (unwrap_or (option_map first_word g) [])) (sym it.is) (record { some = is.some; short = is.short; first = tt; each = is.each })

  pub levels_at : Fits words (rule o Required Levels) → All IsLevelPath (words_at o words)
  levels_at fits =
      let it = is_given Levels refl fits in
      subst (λ (g : Option (List (List ℕ))). All IsLevelPath (unwrap_or g [])) (sym it.is) (levels_form (it.value ∷ it.more) (unfit o (list_all level_path_test (it.value ∷ it.more)) it.good))

-- the word of an option that may be left out
maybe_values : (words : List (List ℕ)) (o : OptionName) (need : Need) (form : TextForm) (values : Option (List (List ℕ))) → given_fault words (rule o need (Text form)) values ≡ None → IfSome (option_map first_word values) (IsText form)
maybe_values words o need form None good = tt
maybe_values words o need form (Some values) good = go (is_excluded words need) good
  where
    go : (b : Bool) → (if b then Some (Unfit o) else form_fault o (Text form) values) ≡ None → IfSome (option_map first_word (Some values)) (IsText form)
    go true bad = absurd (cc)
    go false fine =
        let it = some_values o (Text form) values refl fine in
        subst (λ (g : Option (List (List ℕ))). IfSome (option_map first_word g) (IsText form)) (sym it.is) (text_form form it.value (unfit o (is_text form it.value) it.good))

pub maybe_text : (words : List (List ℕ)) (o : OptionName) (need : Need) (form : TextForm) → Fits words (rule o need (Text form)) → IfSome (maybe_word o words) (IsText form)
maybe_text words o need form fits = maybe_values words o need form (given o words) fits.good

kept_most : (least most n : ℕ) (b : Bool) → (nat_le least n && nat_le n most) ≡ b → is_some (if b then Some n else None) ≡ true → n ≤ most
kept_most least most n true is some = leb-true n most (and_parts (nat_le least n) (nat_le n most) is).1
kept_most least most n false is some = absurd (cc)

number_most : (least most : ℕ) (found : Option ℕ) → is_some (within least most found) ≡ true → unwrap_or found 0 ≤ most
number_most least most None some = absurd (cc)
number_most least most (Some n) some = kept_most least most n (nat_le least n && nat_le n most) refl some

pub number_at_most : (words : List (List ℕ)) (o : OptionName) (least most : ℕ) → Fits words (rule o Required (Number least most)) → number_at o words ≤ most
number_at_most words o least most fits =
    let it = is_given words o (Number least most) refl fits in
    subst (λ (g : Option (List (List ℕ))). number_in (unwrap_or (option_map first_word g) []) ≤ most) (sym it.is)
    (number_most least most (digits_of 1 10 it.value) (unfit o (is_some (number_within least most it.value)) it.good))

-- a port offset, where it is there
port_most : (words : List (List ℕ)) (values : Option (List (List ℕ))) → given_fault words port values ≡ None → IsTwo (unwrap_or (option_map number_in (option_map first_word values)) 0)
port_most words None good = omega arith
port_most words (Some []) good = absurd (cc)
port_most words (Some (value ∷ more)) good = omega (arith, number_most 0 58510 (digits_of 1 10 value) (unfit option.Portoffset (is_some (number_within 0 58510 value)) good))

pub port_is_two : (words : List (List ℕ)) → Fits words port → IsTwo (port_at words)
port_is_two words fits = port_most words (given option.Portoffset words) fits.good

-- ---- any, or one of a form

host_unless : (word : List ℕ) (b : Bool) → is_any word ≡ b → IsText AnyHost word → IsAnyOr IsHost (if b then None else Some word)
host_unless word true is form = tt
host_unless word false is form = elim form [ inl any ↦ absurd (both (is_any word) is any) | inr host ↦ host ]
  where
    both : (b : Bool) → b ≡ false → b ≡ true → ⊥
    both b off on = cc

part_unless : (word : List ℕ) (b : Bool) → is_any word ≡ b → IsText AnyPart word → IsAnyOr IsName (option_map without_slash (if b then None else Some word))
part_unless word true is form = tt
part_unless word false is form = elim form [ inl any ↦ absurd (both (is_any word) is any) | inr part ↦ part ]
  where
    both : (b : Bool) → b ≡ false → b ≡ true → ⊥
    both b off on = cc

pub any_host : (word : List ℕ) → IsText AnyHost word → IsAnyOr IsHost (unless_any word)
any_host word form = host_unless word (is_any word) refl form

pub any_part : (word : List ℕ) → IsText AnyPart word → IsAnyOr IsName (option_map without_slash (unless_any word))
any_part word form = part_unless word (is_any word) refl form

-- a partition that may be left out
pub bare_part : (word : Option (List ℕ)) → IfSome word (λ w. IsName (without_slash w)) → IfSome (option_map without_slash word) IsName
bare_part None form = tt
bare_part (Some word) form = form

-- ---- expirations

said_or_unset : (r : Result Expiry DateFault) → IfOk r IsExpiry → IsExpiry (ok_or_else Unset r)
said_or_unset (Ok expiry) is = is
said_or_unset (Err fault) is = tt

pub expiry_form : (words : List (List ℕ)) (o : OptionName) → IsExpiry (expiry_at o words)
expiry_form words o = go (given o words)
  where
    go : (values : Option (List (List ℕ))) → IsExpiry (elim values [ None ↦ Unset | Some said ↦ ok_or_else Unset (expiry_says said) ])
    go None = tt
    go (Some said) = said_or_unset (expiry_says said) (expiry_within said)
