-- Where the parts of a tape and their fragments stand.
use Rattle.std.specs.Prelude.{ℕ, ◌+◌, ◌==◌, if◌then◌else◌, List, [], ◌∷◌, length, sum_by}
use Rattle.tape_text.specs.Texts.{Fragment, Part, Tape}

-- how many items a fragment and a part have, and how many of a part's are filemarks
abbrev pub fragment_len : Fragment → ℕ
fragment_len f = length f.pieces + 3

-- how many items fragments have one behind another, their filemarks counted in
abbrev pub fragments_len : List Fragment → ℕ
fragments_len fs = sum_by fragment_len fs

-- how many items a part has: those of its fragments, its head, its end and the filemark behind it
abbrev pub part_len : Part → ℕ
part_len p = fragments_len p.fragments + 3

-- how many filemarks a part has: one behind each fragment, and one behind its end
abbrev pub part_marks : Part → ℕ
part_marks p = length p.fragments + 1

-- a fragment with the number of the record that its head is
pub record FoundFragment : Type 0 where
  pub fragment : Fragment
  pub at : ℕ

-- A part of a tape with the number of the record that its head is, the number behind its last filemark, and the filemarks
-- before that.
pub record FoundPart : Type 0 where
  pub part : Part
  pub first : ℕ
  pub end : ℕ
  pub marks : ℕ

-- fragments that stand from a record on
abbrev pub fragments_at : ℕ → List Fragment → List FoundFragment
fragments_at at [] = []
fragments_at at (f ∷ fs) = record { fragment = f; at = at } ∷ fragments_at (at + fragment_len f) fs

-- parts that stand from a record on, behind so many filemarks
abbrev pub parts_at : ℕ → ℕ → List Part → List FoundPart
parts_at at marks [] = []
parts_at at marks (p ∷ ps) =
    record { part = p; first = at; end = at + part_len p; marks = marks + part_marks p } ∷ parts_at (at + part_len p) (marks + part_marks p) ps

-- the parts of a tape: the first one's head is record 2
abbrev pub parts_of : Tape → List FoundPart
parts_of t = parts_at 2 1 t.parts

-- the fragments of a part, each with the number of its head's record on the tape; the first follows the part's head
abbrev pub fragments_of : FoundPart → List FoundFragment
fragments_of p = fragments_at (p.first + 1) p.part.fragments

-- the uses that the first head of version 2 tells, and 0 where there is none
abbrev pub uses_told : List Part → ℕ
uses_told [] = 0
uses_told (p ∷ ps) = if p.head.uses == 0 then uses_told ps else p.head.uses
