use Rattle.bk_text.specs.declared.words.Alphabet.TheVariants.{Plain, NoPeriod, AnyFirst}
use Rattle.bk_text.proofs.TestLaws.{word_tells, path_tells, part_tells}
use Rattle.bk_text.proofs.forms.form_tests.Goals as goal

pub returns-clause-word : goal.returns-clause-word
returns-clause-word c = word_tells

pub returns-clause-name : goal.returns-clause-name
returns-clause-name c = word_tells Plain 31

pub returns-clause-host : goal.returns-clause-host
returns-clause-host c = word_tells Plain 63

pub returns-clause-set_name : goal.returns-clause-set_name
returns-clause-set_name c = word_tells NoPeriod 31

pub returns-clause-tape_name : goal.returns-clause-tape_name
returns-clause-tape_name c = word_tells AnyFirst 80

pub returns-clause-part : goal.returns-clause-part
returns-clause-part c = part_tells

pub returns-clause-element : goal.returns-clause-element
returns-clause-element c = word_tells AnyFirst 28

pub returns-clause-level_path : goal.returns-clause-level_path
returns-clause-level_path c = path_tells
