-- A volume that a line makes isn't named as a backup volume.
use Rattle.std.proofs.Common.{◌≡◌, ◌-◌, ℕ, Bool, true, false, List, [], ◌∷◌, ◌++◌, length, drop, refl, sym, ◌∙◌, ap, subst, arith}
use Rattle.std.specs.Prelude.{nat_lt, nat_eq, not, if◌then◌else◌, Option, Some, None, Result, Ok, Err}
use Rattle.std.specs.Cmp.Lexicographic.{pointwise}
use Rattle.std.specs.List.{position_or_len}
use Rattle.std.proofs.lemmas.List.{length-append}
use Rattle.bk_text.specs.Bases.{backup_ending}
use Rattle.bk_text.specs.Blanks.{words_of}
use Rattle.backup_words.specs.declared.kinds.Kind.{Kind}
use Rattle.backup_words.specs.declared.kinds.Kind.TheVariants.{Addvolset, Delvolset, Addvolentry, Delvolentry, Listvolsets, Adddump, Setexp, Deldump, Listdumps, Listhosts, Checkpoint, Addhost, Delhost, Labeltape, Readlabel, Scantape, Savedb, Restoredb, Dump, Together, Kill, End, Jobs, Deletedump, Dumpinfo, Volinfo, Dbverify, Volrestore, Diskrestore, Volsetrestore, VosCreate, VosWrite, VosRmvnode, VosBackup, VosRemove, VosListvol}
use Rattle.backup_words.specs.declared.options.OptionName.TheVariants as option
use Rattle.backup_words.specs.declared.command.Command.{Command}
use Rattle.backup_words.specs.declared.faults.WordFault.{WordFault}
use Rattle.backup_words.specs.declared.faults.WordFault.TheVariants.{NoSuchCommand, LineTooLong, NotAscii}
use Rattle.backup_words.specs.Forms.{ends_in_backup}
use Rattle.backup_words.specs.Kinds.{kind_of, name_length}
use Rattle.backup_words.specs.Table.{rules_of}
use Rattle.backup_words.specs.Fitting.{AllFit}
use Rattle.backup_words.specs.Values.{first_word, word_at}
use Rattle.backup_words.specs.Commands.{built, refusal, command_with, words_say, is_foreign, command_of}
use Rattle.backup_words.proofs.FitLaws.{fits_of}
use Rattle.command_forms.specs.NewNames.{IsApart, NamesApart}
use Rattle.command_forms.proofs.Values.{new_at}

drop_front : (xs ys : List ℕ) → drop (length xs) (xs ++ ys) ≡ ys
drop_front [] ys = refl
drop_front (x ∷ xs) ys = drop_front xs ys

ends_so : (base : List ℕ) → ends_in_backup (base ++ backup_ending) ≡ true
ends_so base =
    let far : length (base ++ backup_ending) - 7 ≡ length base = omega (arith, length-append base backup_ending) in
    ap (λ (n : ℕ). pointwise nat_eq backup_ending (drop n (base ++ backup_ending))) far ∙ ap (pointwise nat_eq backup_ending) (drop_front base backup_ending)

apart : (name : List ℕ) → not (ends_in_backup name) ≡ true → IsApart name
apart name other base ends = let e : false ≡ true = sym (ap not (ap ends_in_backup ends ∙ ends_so base)) ∙ other in cc

built_apart : (kind : Kind) (w : List (List ℕ)) → AllFit w (rules_of kind) → NamesApart (built kind w)
built_apart VosCreate w fit = apart (word_at option.Name w) (new_at w option.Name fit.1.1.0)
built_apart Addvolset w fit = tt
built_apart Delvolset w fit = tt
built_apart Addvolentry w fit = tt
built_apart Delvolentry w fit = tt
built_apart Listvolsets w fit = tt
built_apart Adddump w fit = tt
built_apart Setexp w fit = tt
built_apart Deldump w fit = tt
built_apart Listdumps w fit = tt
built_apart Listhosts w fit = tt
built_apart Checkpoint w fit = tt
built_apart Addhost w fit = tt
built_apart Delhost w fit = tt
built_apart Labeltape w fit = tt
built_apart Readlabel w fit = tt
built_apart Scantape w fit = tt
built_apart Savedb w fit = tt
built_apart Restoredb w fit = tt
built_apart Dump w fit = tt
built_apart Together w fit = tt
built_apart Kill w fit = tt
built_apart End w fit = tt
built_apart Jobs w fit = tt
built_apart Deletedump w fit = tt
built_apart Dumpinfo w fit = tt
built_apart Volinfo w fit = tt
built_apart Dbverify w fit = tt
built_apart Volrestore w fit = tt
built_apart Diskrestore w fit = tt
built_apart Volsetrestore w fit = tt
built_apart VosWrite w fit = tt
built_apart VosRmvnode w fit = tt
built_apart VosBackup w fit = tt
built_apart VosRemove w fit = tt
built_apart VosListvol w fit = tt

abbrev SaysApart : Result Command WordFault → Type 0
SaysApart (Ok command) = NamesApart command
SaysApart (Err fault) = Unit {0}

with_apart : (kind : Kind) (words : List (List ℕ)) (fault : Option WordFault) → refusal (rules_of kind) words ≡ fault → SaysApart (command_with kind words fault)
with_apart kind words None is = built_apart kind words (fits_of (rules_of kind) words is)
with_apart kind words (Some fault) is = tt

kind_apart : (words : List (List ℕ)) (found : Option Kind)
    → SaysApart (elim found [ None ↦ Err (NoSuchCommand (first_word words)) | Some kind ↦ command_with kind (drop (name_length kind) words) (refusal (rules_of kind) (drop (name_length kind) words)) ])
kind_apart words None = tt
kind_apart words (Some kind) = with_apart kind (drop (name_length kind) words) (refusal (rules_of kind) (drop (name_length kind) words)) refl

unless_told : (b : Bool) (fault : WordFault) (r : Result Command WordFault) → SaysApart r → SaysApart (if b then Err fault else r)
unless_told true fault r is = tt
unless_told false fault r is = is

line_says_apart : (line : List ℕ) → SaysApart (command_of line)
unfolding command_of
line_says_apart line =
    unless_told (nat_lt 4096 (length line)) LineTooLong _
    (unless_told (nat_lt (position_or_len is_foreign line) (length line)) (NotAscii (position_or_len is_foreign line)) (words_say (words_of line)) (kind_apart (words_of line) (kind_of (words_of line))))

pub line_apart : (line : List ℕ) (command : Command) → command_of line ≡ Ok command → NamesApart command
line_apart line command is = subst SaysApart is (line_says_apart line)
