-- A command on the cell keeps the form of its list.
use Rattle.std.proofs.Common.{◌≡◌, ℕ, zero, suc, ◌<◌, List, [], ◌∷◌, refl, arith}
use Rattle.std.specs.Prelude.{All, replicate, IfSome, Option, Some, None, Result, Ok, Err}
use Rattle.std.proofs.lemmas.List.Elements.{All-nil, All-cons, All-head, All-tail}
use Rattle.byte_formats.specs.Forms.{IsFour}
use Rattle.dump_stream.specs.Forms.{IsBytes}
use Rattle.cell_core.specs.declared.fault.CellFault.{CellFault}
use Rattle.cell_core.specs.declared.stored.Stored.{Stored}
use Rattle.cell_core.specs.Volumes.{written_volume, volume_without}
use Rattle.cell_core.specs.Calls.{Creation, after_create, after_write, after_remove_vnode, after_backup, after_remove}
use Rattle.cell_forms.specs.Forms.{IsCellForm}
use Rattle.cell_forms.proofs.Volumes.{write_keeps, removal_keeps}
use Rattle.cell_forms.proofs.Calls.{created_form, changed_form, backed_up_form, removed_form}
use Rattle.backup_words.specs.declared.command.CellCommand.{CellCommand}
use Rattle.backup_words.specs.declared.command.CellCommand.TheVariants.{VosCreate, VosWrite, VosRmvnode, VosBackup, VosRemove, VosListvol}
use Rattle.backup_session.specs.Worlds.{last_cell}
use Rattle.backup_session.specs.Cells.{answered, created, data_for, cell_answer}
use Rattle.command_forms.specs.Forms.{CellForms}

-- the last of lists
pub last_form : (cell : List Stored) (cells : List (List Stored)) → IsCellForm cell → All IsCellForm cells → IsCellForm (last_cell cell cells)
last_form cell [] form all = form
last_form cell (c ∷ cs) form all = last_form c cs (All-head IsCellForm c cs all) (All-tail IsCellForm c cs all)

one_form : (cell : List Stored) → IsCellForm cell → All IsCellForm (cell ∷ [])
one_form cell form = All-cons IsCellForm cell [] form (All-nil IsCellForm)

answered_form : (name : List ℕ) (number : ℕ) (r : Result (List Stored) CellFault) → ((new : List Stored) → r ≡ Ok new → IsCellForm new) → All IsCellForm (answered name number r).cells
answered_form name number (Ok cell) form = one_form cell (form cell refl)
answered_form name number (Err fault) form = All-nil IsCellForm

created_cells : (name : List ℕ) (number : ℕ) (r : Result Creation CellFault) → ((made : Creation) → r ≡ Ok made → IsCellForm made.list) → All IsCellForm (answered name number (created r)).cells
created_cells name number (Ok made) form = one_form made.list (form made refl)
created_cells name number (Err fault) form = All-nil IsCellForm

letters : (n : ℕ) → IsBytes (replicate n 120)
letters zero = All-nil (λ (b : ℕ). b < 256)
letters (suc n) = All-cons (λ (b : ℕ). b < 256) 120 (replicate n 120) (omega arith) (letters n)

data_bytes : (text : Option (List ℕ)) (size : Option ℕ) → IfSome text IsBytes → IsBytes (data_for text size)
data_bytes (Some text) size bytes = bytes
data_bytes None (Some size) bytes = letters size
data_bytes None None bytes = All-nil (λ (b : ℕ). b < 256)

pub cell_answer_form : (cell : List Stored) (time : ℕ) (command : CellCommand) → CellForms command → IsFour time → IsCellForm cell → All IsCellForm (cell_answer cell time command).cells
cell_answer_form cell time (VosCreate server partition name) has four form =
    created_cells name 0 (after_create cell server partition name time) (λ made is. created_form cell server partition name time has.0 has.1 has.2 four form made is)
cell_answer_form cell time (VosWrite volume vnode text size) has four form =
    answered_form volume vnode (after_write cell volume vnode (data_for text size) time)
    (λ new is. changed_form cell volume (written_volume vnode (data_for text size) time) (write_keeps vnode (data_for text size) time has.0 (data_bytes text size has.1) four) form new is)
cell_answer_form cell time (VosRmvnode volume vnode) has four form =
    answered_form volume vnode (after_remove_vnode cell volume vnode time) (λ new is. changed_form cell volume (volume_without vnode time) (removal_keeps vnode time four) form new is)
cell_answer_form cell time (VosBackup volume) has four form = answered_form volume 0 (after_backup cell volume time) (λ new is. backed_up_form cell volume time four form new is)
cell_answer_form cell time (VosRemove volume) has four form = answered_form volume 0 (after_remove cell volume) (λ new is. removed_form cell volume new form is)
cell_answer_form cell time VosListvol has four form = All-nil IsCellForm
