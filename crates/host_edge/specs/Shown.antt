-- What files in a folder show.
use Rattle.std.specs.Prelude.{◌≡◌, ℕ, Bool, List, Option, Some}
use Rattle.std.specs.String.{string_bytes}
use Rattle.std.specs.declared.io.Error.{Error}
use Rattle.host_edge.specs.Slots.{file_among, is_here}
use Rattle.host_edge.specs.Waits.{IsAsLong}
use Rattle.host_edge.specs.declared.dir_media.DirMedia.{DirMedia}
use Rattle.host_edge.specs.declared.refusal.Refusal.{Refusal}
use Rattle.host_edge.specs.declared.waiting.Waiting.{Waiting}

-- the output
abbrev pub output_of : {R F W : Type 0} → DirMedia R F W → W
output_of media = media.output

-- how often a call on files was refused, and one on the output
abbrev pub faults_of : {R F W : Type 0} → DirMedia R F W → ℕ
faults_of media = media.faults

-- how often a call on the output was refused since the opening
abbrev pub tell_faults_of : {R F W : Type 0} → DirMedia R F W → ℕ
tell_faults_of media = media.tell_faults

-- which files are here
abbrev pub present_of : {R F W : Type 0} → DirMedia R F W → ℕ → Bool
present_of media f = is_here media.slots.items f

-- the file of a number, where it is here
abbrev pub file_of : {R F W : Type 0} → DirMedia R F W → ℕ → Option F
file_of media f = file_among media.journal media.slots.items f

-- the path of the folder
abbrev pub folder_of : {R F W : Type 0} → DirMedia R F W → List ℕ
folder_of media = string_bytes media.folder

-- A file was told to have the length that the opening found or this program left.
abbrev pub HasLength : {R F W : Type 0} → (F → ℕ → Type 0) → DirMedia R F W → ℕ → F → Type 0
HasLength measured media f file = IsAsLong measured media.lengths.items f file

-- what waits to be written
abbrev pub waiting_of : {R F W : Type 0} → DirMedia R F W → Waiting
waiting_of media = media.waiting

-- the call on a file that was refused last
abbrev pub refused_of : {R F W : Type 0} → DirMedia R F W → Option Refusal
refused_of media = media.refused

-- it was one on this file
abbrev pub IsRefusalAt : ℕ → Option Refusal → Type 0
IsRefusalAt f refused = (cause : Error) × (refused ≡ Some (record { file = f; cause = cause }))
