-- The reply to a line that is no command.
use Rattle.std.specs.Prelude.{ℕ, List, []}
use Rattle.backup_words.specs.declared.faults.WordFault.{WordFault}
use Rattle.backup_words.specs.declared.faults.WordFault.TheVariants as fault
use Rattle.backup_replies.specs.declared.refusals.Refusal.TheVariants.{NoSuchCommand, BadOption, MissingOption, BadValue, LineTooLong, NotAscii, BadPattern, BadDate, DateOutOfRange}
use Rattle.backup_replies.specs.Texts.{refused_alone, refused_word, refused_number}

-- what is told of each fault; nothing where memory was refused
abbrev pub word_refusal : WordFault → List ℕ
word_refusal (fault.NoSuchCommand word) = refused_word NoSuchCommand word
word_refusal (fault.BadOption word) = refused_word BadOption word
word_refusal (fault.MissingOption option) = refused_word MissingOption option
word_refusal (fault.BadValue option) = refused_word BadValue option
word_refusal fault.LineTooLong = refused_alone LineTooLong
word_refusal (fault.NotAscii at) = refused_number NotAscii at
word_refusal (fault.BadPattern at) = refused_number BadPattern at
word_refusal (fault.BadDate at) = refused_number BadDate at
word_refusal fault.DateOutOfRange = refused_alone DateOutOfRange
word_refusal fault.Memory = []
