-- A command that a line says has its forms.
use Rattle.std.proofs.Common.{◌≡◌, ℕ, Bool, true, false, List, length, drop, refl, subst, arith}
use Rattle.std.specs.Prelude.{All, nat_lt, if◌then◌else◌, Option, Some, None, Result, Ok, Err}
use Rattle.std.specs.List.{position_or_len}
use Rattle.std.proofs.lemmas.List.Elements.{All-drop}
use Rattle.bk_text.specs.Blanks.{words_of}
use Rattle.dump_stream.specs.Forms.{IsBytes}
use Rattle.backup_words.specs.declared.kinds.Kind.{Kind}
use Rattle.backup_words.specs.declared.kinds.Kind.TheVariants.{Addvolset, Delvolset, Addvolentry, Delvolentry, Listvolsets, Adddump, Setexp, Deldump, Listdumps, Listhosts, Checkpoint, Addhost, Delhost, Labeltape, Readlabel, Scantape, Savedb, Restoredb, Dump, Together, Kill, End, Jobs, Deletedump, Dumpinfo, Volinfo, Dbverify, Volrestore, Diskrestore, Volsetrestore, VosCreate, VosWrite, VosRmvnode, VosBackup, VosRemove, VosListvol}
use Rattle.backup_words.specs.declared.options.OptionName.TheVariants as option
use Rattle.backup_words.specs.declared.options.Need.TheVariants.{Free, NotWith}
use Rattle.backup_words.specs.declared.options.TextForm.TheVariants as text
use Rattle.backup_words.specs.declared.command.Command.{Command}
use Rattle.backup_words.specs.declared.faults.WordFault.{WordFault}
use Rattle.backup_words.specs.declared.faults.WordFault.TheVariants.{NoSuchCommand, LineTooLong, NotAscii}
use Rattle.backup_words.specs.Kinds.{kind_of, name_length}
use Rattle.backup_words.specs.Table.{rules_of}
use Rattle.backup_words.specs.Fitting.{AllFit}
use Rattle.backup_words.specs.Values.{first_word, maybe_word, word_at}
use Rattle.backup_words.specs.Commands.{built, refusal, command_with, words_say, is_foreign, command_of}
use Rattle.backup_words.proofs.FitLaws.{fits_of}
use Rattle.command_forms.specs.Forms.{HasForms}
use Rattle.command_forms.proofs.Words.{line_bytes, words_bytes, maybe_bytes}
use Rattle.command_forms.proofs.Values.{text_at, maybe_text, pattern_at, levels_at, number_at_most, port_is_two, any_host, any_part, bare_part, expiry_form}

built_form : (kind : Kind) (w : List (List ℕ)) → All IsBytes w → AllFit w (rules_of kind) → HasForms (built kind w)
built_form Addvolset w bytes fit = text_at w option.Name text.SetName fit.0
built_form Delvolset w bytes fit = text_at w option.Name text.SetName fit.0
built_form Addvolentry w bytes fit = (
  text_at w option.Name text.SetName fit.0,
  any_host (word_at option.Server w) (text_at w option.Server text.AnyHost fit.1.0),
  any_part (word_at option.Partition w) (text_at w option.Partition text.AnyPart fit.1.1.0),
  pattern_at w option.Volumes fit.1.1.1.0,
)
built_form Delvolentry w bytes fit = (text_at w option.Name text.SetName fit.0, number_at_most w option.Entry 1 4294967295 fit.1.0)
built_form Listvolsets w bytes fit = tt
built_form Adddump w bytes fit = (levels_at w option.Dump fit.0, expiry_form w option.Expires)
built_form Setexp w bytes fit = (levels_at w option.Dump fit.0, expiry_form w option.Expires)
built_form Deldump w bytes fit = text_at w option.Dump text.LevelPath fit.0
built_form Listdumps w bytes fit = tt
built_form Listhosts w bytes fit = tt
built_form Checkpoint w bytes fit = tt
built_form Addhost w bytes fit = (text_at w option.Tapehost text.Host fit.0, port_is_two w fit.1.0)
built_form Delhost w bytes fit = port_is_two w fit.1.0
built_form Labeltape w bytes fit = (maybe_text w option.Name Free text.TapeName fit.0, maybe_text w option.Pname (NotWith option.Name) text.TapeName fit.1.0)
built_form Readlabel w bytes fit = tt
built_form Scantape w bytes fit = tt
built_form Savedb w bytes fit = tt
built_form Restoredb w bytes fit = tt
built_form Dump w bytes fit = (text_at w option.Volumeset text.SetName fit.0, text_at w option.Dump text.LevelPath fit.1.0)
built_form Together w bytes fit = omega (arith, number_at_most w option.Schedule 0 2147483647 fit.0)
built_form Kill w bytes fit = (number_at_most w option.Job 0 4294967295 fit.0, number_at_most w option.After 0 4294967295 fit.1.0)
built_form End w bytes fit = tt
built_form Jobs w bytes fit = tt
built_form Deletedump w bytes fit = number_at_most w option.Dumpid 0 4294967295 fit.0
built_form Dumpinfo w bytes fit = tt
built_form Volinfo w bytes fit = tt
built_form Dbverify w bytes fit = tt
built_form Volrestore w bytes fit = (text_at w option.Server text.Host fit.0, text_at w option.Partition text.Part fit.1.0)
built_form Diskrestore w bytes fit = (
  text_at w option.Server text.Host fit.0,
  text_at w option.Partition text.Part fit.1.0,
  maybe_text w option.Newserver Free text.Host fit.1.1.0,
  bare_part (maybe_word option.Newpartition w) (maybe_text w option.Newpartition Free text.Part fit.1.1.1.0),
)
built_form Volsetrestore w bytes fit = tt
built_form VosCreate w bytes fit = (text_at w option.Server text.Host fit.0, text_at w option.Partition text.Part fit.1.0, text_at w option.Name text.NewName fit.1.1.0)
built_form VosWrite w bytes fit = (number_at_most w option.Vnode 1 4294967295 fit.1.0, maybe_bytes option.Text w bytes)
built_form VosRmvnode w bytes fit = tt
built_form VosBackup w bytes fit = tt
built_form VosRemove w bytes fit = tt
built_form VosListvol w bytes fit = tt

abbrev Says : Result Command WordFault → Type 0
Says (Ok command) = HasForms command
Says (Err fault) = Unit {0}

with_form : (kind : Kind) (words : List (List ℕ)) (fault : Option WordFault) → All IsBytes words → refusal (rules_of kind) words ≡ fault → Says (command_with kind words fault)
with_form kind words None bytes is = built_form kind words bytes (fits_of (rules_of kind) words is)
with_form kind words (Some fault) bytes is = tt

kind_form : (words : List (List ℕ)) (found : Option Kind) → All IsBytes words
    → Says (elim found [ None ↦ Err (NoSuchCommand (first_word words)) | Some kind ↦ command_with kind (drop (name_length kind) words) (refusal (rules_of kind) (drop (name_length kind) words)) ])
kind_form words None bytes = tt
kind_form words (Some kind) bytes = with_form kind (drop (name_length kind) words) (refusal (rules_of kind) (drop (name_length kind) words)) (All-drop IsBytes (name_length kind) words bytes) refl

unless_refused : (b : Bool) (fault : WordFault) (r : Result Command WordFault) → (b ≡ false → Says r) → Says (if b then Err fault else r)
unless_refused true fault r is = tt
unless_refused false fault r is = is refl

line_says : (line : List ℕ) → Says (command_of line)
unfolding command_of
line_says line =
    unless_refused (nat_lt 4096 (length line)) LineTooLong _
    (λ short. unless_refused (nat_lt (position_or_len is_foreign line) (length line)) (NotAscii (position_or_len is_foreign line)) (words_say (words_of line))
    (λ own. kind_form (words_of line) (kind_of (words_of line)) (words_bytes line (line_bytes line own))))

pub line_form : (line : List ℕ) (command : Command) → command_of line ≡ Ok command → HasForms command
line_form line command is = subst Says is (line_says line)
