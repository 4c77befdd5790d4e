-- A base's vnodes, from which those that entries stand for are taken out in order.
use Rattle.std.specs.Prelude.{◌≡◌, ℕ, Bool, false, Option, Some, None, Result, Ok, Err, List, [], ◌∷◌, map, find, AllPairs}
use Rattle.std.specs.List.{filter_map}
use Rattle.vnode_model.specs.declared.vnodes.Vnode.{Vnode}
use Rattle.vnode_model.specs.declared.increments.Entry.{Entry}
use Rattle.vnode_model.specs.declared.applying.ApplyFault.{ApplyFault}
use Rattle.vnode_model.specs.declared.applying.ApplyFault.TheVariants.{BaseLacks, TooLarge, Memory}
use Rattle.vnode_model.specs.Limits.{StandsBefore, number_of}
use Rattle.vnode_model.specs.Increments.{is_named, vnode_for, first_lacking, uniq_of}

-- vnodes in the order of a volume's
abbrev pub AreOrdered : List Vnode → Type 0
AreOrdered vnodes = AllPairs StandsBefore (map (λ v. v.number) vnodes)

-- the first one stands before this number
abbrev pub BeginsBefore : ℕ → List Vnode → Type 0
BeginsBefore number [] = ⊥
BeginsBefore number (v ∷ vs) = StandsBefore v.number number

-- whether the first one has this number and this uniquifier
abbrev pub begins_named : ℕ → ℕ → List Vnode → Bool
begins_named number uniq [] = false
begins_named number uniq (v ∷ vs) = is_named number uniq v

-- the same vnodes of this number are found
abbrev pub SameAt : List Vnode → List Vnode → ℕ → Type 0
SameAt old new number = (uniq : ℕ) → find (is_named number uniq) new ≡ find (is_named number uniq) old

-- the same vnodes of each number behind this one are found
abbrev pub SameBehind : ℕ → List Vnode → List Vnode → Type 0
SameBehind number old new = (behind : ℕ) → StandsBefore number behind → SameAt old new behind

-- an entry's vnode, or the fault of an entry that is lacking
abbrev pub IsTaken : List Vnode → Entry → Result Vnode ApplyFault → Type 0
IsTaken base entry (Ok vnode) = vnode_for base entry ≡ Some vnode
IsTaken base entry (Err fault) = (vnode_for base entry ≡ None) × (fault ≡ BaseLacks (number_of entry) (uniq_of entry))

-- the fault of the first entry that is lacking, if there is one
abbrev pub IsLacking : Option Entry → ApplyFault → Type 0
IsLacking (Some entry) fault = fault ≡ BaseLacks (number_of entry) (uniq_of entry)
IsLacking None fault = ⊥

-- the vnodes of all entries, or the fault of the first one that is lacking
abbrev pub AreTaken : List Vnode → List Entry → Result (List Vnode) ApplyFault → Type 0
AreTaken base entries (Ok vnodes) = (first_lacking base entries ≡ None) × (vnodes ≡ filter_map (vnode_for base) entries)
AreTaken base entries (Err Memory) = Unit {0}
AreTaken base entries (Err (BaseLacks number uniq)) = IsLacking (first_lacking base entries) (BaseLacks number uniq)
AreTaken base entries (Err TooLarge) = ⊥
