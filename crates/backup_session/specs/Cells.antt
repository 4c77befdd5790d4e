-- WHAT A COMMAND ON THE CELL IS ANSWERED, and how it leaves the cell. The cell's calls have the session's time.
use Rattle.std.specs.Prelude.{◌≡◌, ◌⊎◌, ℕ, ◌<◌, length, List, [], ◌∷◌, map, replicate, Option, Some, None, Result, Ok, Err}
use Rattle.vnode_model.specs.Limits.{most_data}
use Rattle.cell_core.specs.declared.fault.CellFault.{CellFault}
use Rattle.cell_core.specs.declared.fault.CellFault.TheVariants as fault
use Rattle.cell_core.specs.declared.stored.Stored.{Stored}
use Rattle.cell_core.specs.Calls.{Creation, entry_of_stored, after_create, after_write, after_remove_vnode, after_backup, after_remove}
use Rattle.backup_words.specs.declared.command.CellCommand.{CellCommand}
use Rattle.backup_words.specs.declared.command.CellCommand.TheVariants.{VosCreate, VosWrite, VosRmvnode, VosBackup, VosRemove, VosListvol}
use Rattle.backup_replies.specs.declared.refusals.Refusal.TheVariants.{NoVolume, VolumeExists, NoVnode, TooLarge, BadImage}
use Rattle.backup_replies.specs.Texts.{refused_word, refused_number, refused_at, ok_line}
use Rattle.backup_replies.specs.Volumes.{listed_lines}
use Rattle.backup_session.specs.Worlds.{last_cell}
use Rattle.backup_session.specs.Views.{ReplyView}

-- the reply to a command, and the lists that the cell has on the way
pub record CellAnswer : Type 0 where
  pub reply : List ℕ
  pub cells : List (List Stored)

-- a refusal tells the volume that the command names, or the number of the vnode
abbrev pub cell_refusal : List ℕ → ℕ → CellFault → List ℕ
cell_refusal name number fault.NoVolume = refused_word NoVolume name
cell_refusal name number fault.VolumeExists = refused_word VolumeExists name
cell_refusal name number fault.NoVnode = refused_number NoVnode number
cell_refusal name number fault.TooLarge = refused_word TooLarge name
cell_refusal name number (fault.BadImage at) = refused_at BadImage name at
cell_refusal name number fault.Failed = []
cell_refusal name number fault.Memory = []

-- the list that is due is left, or the command is refused
abbrev pub answered : List ℕ → ℕ → Result (List Stored) CellFault → CellAnswer
answered name number (Ok cell) = record { reply = ok_line; cells = cell ∷ [] }
answered name number (Err fault) = record { reply = cell_refusal name number fault; cells = [] }

-- the list with a new volume
abbrev pub created : Result Creation CellFault → Result (List Stored) CellFault
created (Ok creation) = Ok creation.list
created (Err fault) = Err fault

-- the data that a vnode gets: a text, or so many bytes `x`
abbrev pub data_for : Option (List ℕ) → Option ℕ → List ℕ
data_for (Some text) size = text
data_for None (Some size) = replicate size 120
data_for None None = []

-- what a command on the cell is answered, and the lists of volumes on the way
abbrev pub cell_answer : List Stored → ℕ → CellCommand → CellAnswer
cell_answer cell time (VosCreate server partition name) = answered name 0 (created (after_create cell server partition name time))
cell_answer cell time (VosWrite volume vnode text size) = answered volume vnode (after_write cell volume vnode (data_for text size) time)
cell_answer cell time (VosRmvnode volume vnode) = answered volume vnode (after_remove_vnode cell volume vnode time)
cell_answer cell time (VosBackup volume) = answered volume 0 (after_backup cell volume time)
cell_answer cell time (VosRemove volume) = answered volume 0 (after_remove cell volume)
cell_answer cell time VosListvol = record { reply = listed_lines (map entry_of_stored cell); cells = [] }

-- ---- inside the crate

-- data that is written in place of other data: the same, or both are more than a vnode takes
abbrev pub StandsFor : List ℕ → List ℕ → Type 0
StandsFor wanted given = (given ≡ wanted) ⊎ ((most_data < length given) × (most_data < length wanted))

-- a reply is this answer's, and the cell is left as it says
pub record IsAnswer (answer : CellAnswer) (reply : ReplyView) (old new : List Stored) : Type 0 where
  pub text : reply.text ≡ answer.reply
  pub list : new ≡ last_cell old answer.cells

-- what is told of the answer of a call
abbrev pub text_of : List ℕ → ℕ → Result (Unit {0}) CellFault → List ℕ
text_of name number (Ok done) = ok_line
text_of name number (Err fault) = cell_refusal name number fault

-- the answer of a call that makes a volume, without the id
abbrev pub without_id : Result ℕ CellFault → Result (Unit {0}) CellFault
without_id (Ok id) = Ok tt
without_id (Err fault) = Err fault
