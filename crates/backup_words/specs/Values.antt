-- The values of options, and what is wrong with them.
use Rattle.std.specs.Prelude.{◌≡◌, ℕ, List, [], ◌∷◌, Bool, true, false, nat_lt, is_some, fold, if◌then◌else◌, option_map, unwrap_or, Option, Some, None, Result, Ok, Err}
use Rattle.std.specs.List.{list_all}
use Rattle.bk_text.specs.declared.expiry.Expiry.{Expiry as ExpiryOf}
use Rattle.bk_text.specs.declared.expiry.Expiry.TheVariants.{Unset}
use Rattle.bk_text.specs.Digits.{digits_of}
use Rattle.dump_levels.specs.declared.dates.DateFault.{DateFault}
use Rattle.dump_levels.specs.declared.dates.DateFault.TheVariants.{BadDate, DateOutOfRange}
use Rattle.dump_levels.specs.Dates.{date_says}
use Rattle.dump_levels.specs.Expiries.{expiry_says}
use Rattle.volume_sets.specs.Testing.{is_pattern}
use Rattle.backup_words.specs.declared.options.OptionName.{OptionName}
use Rattle.backup_words.specs.declared.options.Need.{Need}
use Rattle.backup_words.specs.declared.options.Need.TheVariants.{NotWith}
use Rattle.backup_words.specs.declared.options.Form.{Form}
use Rattle.backup_words.specs.declared.options.Form.TheVariants.{Flag, Text, Number, Pattern, Levels, Expiry, Date}
use Rattle.backup_words.specs.declared.options.Rule.{Rule}
use Rattle.backup_words.specs.declared.faults.ValueFault.{ValueFault}
use Rattle.backup_words.specs.declared.faults.ValueFault.TheVariants.{Unfit, NoPattern, NoDate, TooEarly}
use Rattle.bk_text.specs.Tests.{level_path_test}
use Rattle.volume_sets.specs.Testing.{pattern_place}
use Rattle.backup_words.specs.Forms.{is_text, is_any, number_within}
use Rattle.backup_words.specs.Words.{given, has, is_missing}

-- the option's value is refused, unless this is so
abbrev pub unfit_unless : OptionName → Bool → Option ValueFault
unfit_unless option true = None
unfit_unless option false = Some (Unfit option)

-- what is wrong with a date, if anything is
abbrev pub date_fault : {A : Type 0} → Result A DateFault → Option ValueFault
date_fault (Ok a) = None
date_fault (Err (BadDate at)) = Some (NoDate at)
date_fault (Err DateOutOfRange) = Some TooEarly

-- an option that takes no word
abbrev pub is_flag : Form → Bool
is_flag Flag = true
is_flag _ = false

-- what is wrong with values of which this is the first
abbrev pub values_fault : OptionName → Form → List ℕ → List (List ℕ) → Option ValueFault
values_fault option Flag value values = None
values_fault option (Text form) value values = unfit_unless option (is_text form value)
values_fault option (Number least most) value values = unfit_unless option (is_some (number_within least most value))
values_fault option Pattern value values = if is_pattern value then None else Some (NoPattern (pattern_place value))
values_fault option Levels value values = unfit_unless option (list_all level_path_test values)
values_fault option Expiry value values = date_fault (expiry_says values)
values_fault option Date value values = date_fault (date_says 0 60 2145916800 values)

-- what is wrong with the values of an option that is there: without a value each one but a flag is refused
abbrev pub form_fault : OptionName → Form → List (List ℕ) → Option ValueFault
form_fault option form [] = unfit_unless option (is_flag form)
form_fault option form (value ∷ values) = values_fault option form value (value ∷ values)

-- an option that isn't to be there with another one, which is
abbrev pub is_excluded : List (List ℕ) → Need → Bool
is_excluded words (NotWith other) = has other words
is_excluded words _ = false

-- what is wrong with the values of an option, where it is there
abbrev pub given_fault : List (List ℕ) → Rule → Option (List (List ℕ)) → Option ValueFault
given_fault words rule None = None
given_fault words rule (Some values) = if is_excluded words rule.need then Some (Unfit rule.option) else form_fault rule.option rule.form values

-- what is wrong with the option of a rule, if it is there
abbrev pub rule_fault : List (List ℕ) → Rule → Option ValueFault
rule_fault words rule = given_fault words rule (given rule.option words)

-- the numbers of refusals: the least is told
abbrev pub number_of : ValueFault → ℕ
number_of (Unfit option) = 4
number_of (NoPattern at) = 13
number_of (NoDate at) = 23
number_of TooEarly = 24

-- the one of the least number, and of one number the first
abbrev pub least : Option ValueFault → Option ValueFault → Option ValueFault
least None second = second
least (Some first) None = Some first
least (Some first) (Some second) = if nat_lt (number_of second) (number_of first) then Some second else Some first

-- What is wrong with the values of a line: of several faults the one with the least number, and of one number the first of the table.
abbrev pub value_fault : List (List ℕ) → List Rule → Option ValueFault
value_fault words rules = fold (λ found rule. least found (rule_fault words rule)) None rules

-- THE VALUES of options whose words fit.
abbrev pub first_word : List (List ℕ) → List ℕ
first_word [] = []
first_word (word ∷ words) = word

-- the word of an option that may be left out
abbrev pub maybe_word : OptionName → List (List ℕ) → Option (List ℕ)
maybe_word option words = option_map first_word (given option words)

-- the word of an option that is there
abbrev pub word_at : OptionName → List (List ℕ) → List ℕ
word_at option words = unwrap_or (maybe_word option words) []

-- the number that a word of one to ten digits writes; 0 where it is none
abbrev pub number_in : List ℕ → ℕ
number_in word = unwrap_or (digits_of 1 10 word) 0

-- the number behind an option
abbrev pub number_at : OptionName → List (List ℕ) → ℕ
number_at option words = number_in (word_at option words)

-- the number behind an option, where the option is there
abbrev pub maybe_number : OptionName → List (List ℕ) → Option ℕ
maybe_number option words = option_map number_in (maybe_word option words)

-- the words behind an option; none where it isn't there
abbrev pub words_at : OptionName → List (List ℕ) → List (List ℕ)
words_at option words = unwrap_or (given option words) []

-- none for ".*", which is any
abbrev pub unless_any : List ℕ → Option (List ℕ)
unless_any word = if is_any word then None else Some word

-- what a reader gave, or this where it gave a fault
abbrev pub ok_or_else : {A : Type 0} → A → Result A DateFault → A
ok_or_else other (Ok a) = a
ok_or_else other (Err fault) = other

-- the expiration behind an option; none is set where it isn't there
abbrev pub expiry_at : OptionName → List (List ℕ) → ExpiryOf
expiry_at option words = elim (given option words) [ None ↦ Unset | Some values ↦ ok_or_else Unset (expiry_says values) ]

-- The first second after the minute that a date names, in seconds since 1970 in UTC; 0 where it is none.
abbrev pub date_in : List (List ℕ) → ℕ
date_in values = ok_or_else 0 (date_says 0 60 2145916800 values)

-- the same of an option, where it is there
abbrev pub maybe_date : OptionName → List (List ℕ) → Option ℕ
maybe_date option words = option_map date_in (given option words)
