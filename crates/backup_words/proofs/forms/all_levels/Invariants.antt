use Rattle.std.proofs.Common.{◌≡◌, drop}
use Rattle.std.specs.List.{list_all}
use Rattle.bk_text.specs.Tests.{level_path_test}
use Rattle.backup_words.proofs.forms.all_levels.Given as goal

abbrev pub invariant-loop-word : goal.invariant-loop-word
invariant-loop-word l = list_all level_path_test (drop l.word-index l.words) ≡ list_all level_path_test l.words
