-- What reading keeps true of the fields and the entries so far.
use Rattle.std.specs.Prelude.{◌≡◌, ℕ, ◌+◌, ◌<◌, ◌≤◌, Bool, true, false, List, [], length, map, sum_by, All, Some, IfSome, IsSomeAnd}
use Rattle.vnode_model.specs.declared.increments.Entry.{Entry}
use Rattle.vnode_model.specs.Limits.{StandsBefore, AreFit, number_of, data_len, most_vnodes, all_data}
use Rattle.dump_stream.specs.declared.form.Form.TheVariants as forms
use Rattle.dump_stream.specs.declared.sofar.Field.{Field}
use Rattle.dump_stream.specs.declared.sofar.Sofar.{Sofar}
use Rattle.dump_stream.specs.declared.sofar.Sofar.TheVariants.{Start, Dump, Volume, Vnode, Ended}
use Rattle.dump_stream.specs.declared.machine.Machine.{Machine}
use Rattle.dump_stream.specs.declared.machine.Ran.{Ran}
use Rattle.dump_stream.specs.declared.machine.Ran.TheVariants as rans
use Rattle.dump_stream.specs.Forms.{IsWhole}
use Rattle.dump_stream.specs.Fields.{AreFields, payload_of}
use Rattle.dump_stream.specs.Stream.{dump_table, header_table, vnode_table}
use Rattle.dump_stream.specs.Machine.{form_at}
use Rattle.dump_stream.specs.Steps.{HasEnded}

-- the name is among the fields
abbrev pub IsNameThere : List Field → Type 0
IsNameThere fs = IsSomeAnd (payload_of 110 fs) (IsWhole forms.Name)

-- an access list has all its bytes
abbrev pub IsAccessWhole : List Field → Type 0
IsAccessWhole fs = IfSome (payload_of 65 fs) (λ p. length p ≡ 192)

-- entries that a vnode of this number may follow, where there is room for so much data
pub record MayFollow (entries : List Entry) (room n : ℕ) : Type 0 where
  pub fit : AreFit entries
  pub few : length entries < most_vnodes
  pub numbered : 1 ≤ n
  pub behind : All (λ m. StandsBefore m n) (map number_of entries)
  pub room_left : room + sum_by data_len entries ≡ all_data

-- The fields of this section keep its table, and the entries so far the order, the parity and the limits.
abbrev pub IsSound : Sofar → Type 0
IsSound Start = Unit {0}
IsSound (Dump fs) = AreFields dump_table [] fs
IsSound (Volume dump fs) = AreFields header_table [] fs
IsSound (Vnode made room n uniq fs) = AreFields (vnode_table n room) [] fs × MayFollow made.entries room n
IsSound (Ended made) = AreFit made.entries

-- what a machine has read is sound, and behind a tag it waits for the form that the tag has there
abbrev pub IsSoundMachine : Machine → Type 0
IsSoundMachine m = IsSound m.sofar × IfSome m.form (λ form. form_at m.sofar m.tag ≡ Some form)

-- the machine is sound where the byte fits (true); where it doesn't, nothing is said
abbrev pub SoundWhile : Bool → Machine → Type 0
SoundWhile true m = IsSoundMachine m
SoundWhile false m = Unit {0}

-- after a piece the machine is sound, and where a stream ended, it stands at its end; of a refusal nothing is said
abbrev pub SoundAfter : Ran → Machine → Type 0
SoundAfter rans.More m = IsSoundMachine m
SoundAfter (rans.Ended used) m = IsSoundMachine m × HasEnded m
SoundAfter (rans.Stopped at) m = Unit {0}
