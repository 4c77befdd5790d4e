-- The order, the parity and the limits of a volume's vnodes and of an increment's entries.
use Rattle.std.specs.Prelude.{◌≡◌, ◌⊎◌, ⊤, ℕ, ◌+◌, ◌%◌, ◌<◌, ◌≤◌, List, length, map, replicate, take, sum_by, All, AllPairs}
use Rattle.vnode_model.specs.declared.vnodes.VnodeKind.{VnodeKind}
use Rattle.vnode_model.specs.declared.vnodes.VnodeKind.TheVariants.{File, Directory, Symlink}
use Rattle.vnode_model.specs.declared.vnodes.Vnode.{Vnode}
use Rattle.vnode_model.specs.declared.increments.Entry.{Entry}
use Rattle.vnode_model.specs.declared.increments.Entry.TheVariants.{Whole, Kept}

-- ---- parity: directories have odd numbers, files and symbolic links even ones

-- an odd vnode number, as a directory has
abbrev pub IsOdd : ℕ → Type 0
IsOdd n = n % 2 ≡ 1

-- an even vnode number, as a file or a symbolic link has
abbrev pub IsEven : ℕ → Type 0
IsEven n = n % 2 ≡ 0

-- a number of the parity that vnodes of this kind have
abbrev pub KindFits : VnodeKind → ℕ → Type 0
KindFits File n = IsEven n
KindFits Directory n = IsOdd n
KindFits Symlink n = IsEven n

-- ---- order: directories come first, each class in ascending order

-- a vnode of the first number stands before one of the second: odd before even, and else the lesser number first
abbrev pub StandsBefore : ℕ → ℕ → Type 0
StandsBefore m n = (IsOdd m × IsEven n) ⊎ ((m % 2 ≡ n % 2) × (m < n))

-- a vnode's number is 1 or more and comes after the last one in this order, where 0 stands for none
abbrev pub ComesAfter : ℕ → ℕ → Type 0
ComesAfter last n = (1 ≤ n) × ((last ≡ 0) ⊎ StandsBefore last n)

-- ---- limits

-- the vnodes of a volume, the bytes of one vnode's data, and those of all of them
abbrev pub most_vnodes : ℕ
most_vnodes = 65536

-- the most bytes of one vnode's data: 16 MiB
abbrev pub most_data : ℕ
most_data = 16777216

-- the most bytes of the data of all vnodes of a volume, or of all entries of an increment, together: 256 MiB
abbrev pub all_data : ℕ
all_data = 268435456

-- only a directory has an access list other than zeros
abbrev pub AccessFits : VnodeKind → List ℕ → Type 0
AccessFits File access = access ≡ replicate 192 0
AccessFits Directory access = ⊤
AccessFits Symlink access = access ≡ replicate 192 0

-- ---- entries, and a volume's vnodes as whole ones

-- a vnode with a number of its kind's parity, zeros as access list unless a directory, and at most 16 MiB of data
pub record IsFitVnode (v : Vnode) : Type 0 where
  pub kind : KindFits v.kind v.number
  pub access : AccessFits v.kind v.access
  pub body : length v.body ≤ most_data

-- an entry whose vnode keeps the limits of one vnode, where it is whole; of a kept one nothing is asked
abbrev pub IsFit : Entry → Type 0
IsFit (Whole v) = IsFitVnode v
IsFit (Kept number uniq) = ⊤

-- the number of an entry's vnode, whether it is whole or kept
abbrev pub number_of : Entry → ℕ
number_of (Whole v) = v.number
number_of (Kept number uniq) = number

-- the bytes of data that an entry has: those of a whole vnode, and 0 for a kept one
abbrev pub data_len : Entry → ℕ
data_len (Whole v) = length v.body
data_len (Kept number uniq) = 0

-- Entries that have the order, the parity and the limits. They break them first at the least place such that the
-- entries up to it, with it, are not fit.
pub record AreFit (entries : List Entry) : Type 0 where
  pub few : length entries ≤ most_vnodes
  pub numbered : All (λ n. 1 ≤ n) (map number_of entries)
  pub ordered : AllPairs StandsBefore (map number_of entries)
  pub each : All IsFit entries
  pub small : sum_by data_len entries ≤ all_data

-- the first entry that breaks them
pub record BreakAt (entries : List Entry) (at : ℕ) : Type 0 where
  pub within : at < length entries
  pub before : AreFit (take at entries)
  pub here : AreFit (take (at + 1) entries) → ⊥
  pub whole : AreFit entries → ⊥

-- a volume's vnodes: the same of them as whole entries
abbrev pub AreVolume : List Vnode → Type 0
AreVolume vnodes = AreFit (map Whole vnodes)
