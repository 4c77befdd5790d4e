-- What a program opens at its start, and how it ends where something can't be opened.
use Rattle.std.specs.Prelude.{◌⊎◌, ℕ, Vec, Result, Ok, Err}
use Rattle.std.specs.declared.alloc.Global.{Global}
use Rattle.host_edge.specs.declared.fault.EdgeFault.{EdgeFault}
use Rattle.host_edge.specs.declared.fault.EdgeFault.TheVariants.{Unreadable, TooMany, Memory}
use Rattle.host_edge.specs.declared.opening.Place.{Place}
use Rattle.host_edge.specs.declared.opening.Place.TheVariants as places
use Rattle.host_edge.specs.declared.opening.Unopened.{Unopened}
use Rattle.host_edge.specs.declared.opening.Opened.{Opened}

-- the program's exit status where this place can't be opened, for another cause than want of memory
abbrev pub number_of_place : Place → ℕ
number_of_place places.Media = 4
number_of_place places.Cell = 5
number_of_place places.Config = 11

-- want of memory is 6 wherever it comes, and any other fault is told by its place
abbrev pub number_of_fault : Place → EdgeFault → ℕ
number_of_fault place (Unreadable path cause) = number_of_place place
number_of_fault place TooMany = number_of_place place
number_of_fault place Memory = 6

-- the program's exit status where something couldn't be opened: 6 for want of memory, else 4, 5 or 11 by its place
abbrev pub exit_number : Unopened → ℕ
exit_number unopened = number_of_fault unopened.at unopened.fault

-- which answers come of the four: of the lock, the media, the cell and the configuration
pub record Answered (L M C : Type 0) : Type 1 where
  pub lock : Result L EdgeFault → Type 0
  pub media : Result M EdgeFault → Type 0
  pub cell : Result C EdgeFault → Type 0
  pub config : Result (Vec ℕ Global) EdgeFault → Type 0

-- the call at this place failed so, and all before it went well
abbrev pub StopsAt : {L M C : Type 0} → Answered L M C → Place → EdgeFault → Type 0
StopsAt {L = L} a places.Media fault = a.lock (Err fault) ⊎ ((l : L) × a.lock (Ok l) × a.media (Err fault))
StopsAt {L = L} {M = M} a places.Cell fault = (l : L) × (m : M) × a.lock (Ok l) × a.media (Ok m) × a.cell (Err fault)
StopsAt {L = L} {M = M} {C = C} a places.Config fault = (l : L) × (m : M) × (c : C) × a.lock (Ok l) × a.media (Ok m) × a.cell (Ok c) × a.config (Err fault)

-- all four are opened, or the first that failed is told
abbrev pub OpensFirst : {L M C : Type 0} → Answered L M C → Result (Opened L M C) Unopened → Type 0
OpensFirst a (Ok o) = a.lock (Ok o.lock) × a.media (Ok o.media) × a.cell (Ok o.cell) × a.config (Ok o.config)
OpensFirst a (Err unopened) = StopsAt a unopened.at unopened.fault
