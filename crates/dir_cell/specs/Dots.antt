-- Names that lead out of a folder.
use Rattle.std.specs.Prelude.{◌≡◌, ◌⊎◌, ℕ, List, codes}

-- the folder itself, or the one above
abbrev pub IsDots : List ℕ → Type 0
IsDots text = (text ≡ codes ".") ⊎ (text ≡ codes "..")

-- a server, a partition and a volume's name of which one is such a name: there is no place for an image
abbrev pub LeadsOut : List ℕ → List ℕ → List ℕ → Type 0
LeadsOut server partition name = IsDots server ⊎ (IsDots partition ⊎ IsDots name)
