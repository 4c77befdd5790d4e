-- The lines that examine tells. Numbers are plain decimals, names stand as they are, and a line feed ends each line.
use Rattle.std.specs.Prelude.{ℕ, List, [], ◌∷◌, ◌++◌, length, codes}
use Rattle.std.specs.Fmt.{decimal}
use Rattle.std.specs.List.{flat_map}
use Rattle.vnode_model.specs.declared.vnodes.VnodeKind.{VnodeKind}
use Rattle.vnode_model.specs.declared.vnodes.VnodeKind.TheVariants.{File, Directory, Symlink}
use Rattle.vnode_model.specs.declared.increments.Entry.{Entry}
use Rattle.vnode_model.specs.declared.increments.Entry.TheVariants.{Whole, Kept}
use Rattle.vnode_model.specs.declared.increments.Increment.{Increment}
use Rattle.backup_top.specs.declared.refusals.Refusal.{Refusal}
use Rattle.backup_top.specs.declared.refusals.Refusal.TheVariants.{BadImage, CutStream}
use Rattle.backup_top.specs.Refusals.{refusal_number, refusal_name}
use Rattle.dump_stream.specs.declared.input.Input.{Input}
use Rattle.dump_stream.specs.declared.input.Input.TheVariants.{Stream, Cut, Bad, Followed}

-- a word behind a space, and a number behind one
abbrev pub then_word : List ℕ → List ℕ
then_word word = 32 ∷ word

-- a number behind a space
abbrev pub then_number : ℕ → List ℕ
then_number n = 32 ∷ decimal n

-- what ends a line
abbrev pub line_feed : List ℕ
line_feed = 10 ∷ []

-- the word for the type of a vnode
abbrev pub kind_word : VnodeKind → List ℕ
kind_word File = codes "file"
kind_word Directory = codes "dir"
kind_word Symlink = codes "link"

-- number, uniquifier, size of the data and server modify time of a whole vnode; of a kept one the first two
abbrev pub entry_line : Entry → List ℕ
entry_line (Whole v) = kind_word v.kind ++ then_number v.number ++ then_number v.uniq ++ then_number (length v.body) ++ then_number v.server_modified ++ line_feed
entry_line (Kept number uniq) = codes "kept" ++ then_number number ++ then_number uniq ++ line_feed

-- the volume's name and id by the dump header, and the times of the increment
abbrev pub volume_line : Increment → List ℕ
volume_line i = codes "volume" ++ then_word i.dump_name ++ then_number i.dump_id ++ codes " from" ++ then_number i.from ++ codes " to" ++ then_number i.to ++ line_feed

-- the lines that are told of a stream: one of its volume, then one of each vnode
abbrev pub stream_lines : Increment → List ℕ
stream_lines i = volume_line i ++ flat_map entry_line i.entries

-- a refusal, by its number and its name
abbrev pub refused : Refusal → List ℕ
refused refusal = codes "refused" ++ then_number (refusal_number refusal) ++ then_word (refusal_name refusal)

-- the line of a stream that is cut off, with how many bytes of it there are
abbrev pub cut_line : ℕ → List ℕ
cut_line n = refused CutStream ++ then_number n ++ line_feed

-- the line of a stream that is wrong, with the place of its first wrong byte
abbrev pub bad_line : ℕ → List ℕ
bad_line at = refused BadImage ++ then_word (codes "stream") ++ then_number at ++ line_feed

-- the lines that are told of what was read: a stream, one cut off, a wrong one, or one with something behind it
abbrev pub lines_of : Input → List ℕ
lines_of (Stream i) = stream_lines i
lines_of (Cut n) = cut_line n
lines_of (Bad at) = bad_line at
lines_of (Followed at) = bad_line at

-- the line for words that are no mode's
abbrev pub usage_line : List ℕ
usage_line = codes "usage: afsbackup run | examine | rehearse N" ++ line_feed
