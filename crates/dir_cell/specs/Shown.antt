-- What a folder of images shows.
use Rattle.std.specs.Prelude.{ℕ, List, length, Option}
use Rattle.dir_cell.specs.declared.known.Known.{Known}
use Rattle.dir_cell.specs.declared.adapter.DirCell.{DirCell}
use Rattle.dir_cell.specs.declared.outside.Refusal.{Refusal}

-- what is known of its images
abbrev pub catalog_of : {R : Type 0} → DirCell R → List Known
catalog_of cell = cell.folder.images.items

-- how often a call was refused by the system
abbrev pub faults_of : {R : Type 0} → DirCell R → ℕ
faults_of cell = cell.faults

-- the call that the system refused last
abbrev pub refused_of : {R : Type 0} → DirCell R → Option Refusal
refused_of cell = cell.refused

-- how many names have images
abbrev pub size_of : {R : Type 0} → DirCell R → ℕ
size_of cell = length cell.folder.images.items
