-- The vnodes of a volume, by number, and what a file server makes of one.
use Rattle.std.specs.Prelude.{ℕ, ◌+◌, ◌%◌, ◌/◌, ◌^◌, ◌==◌, if◌then◌else◌, List, [], length, replicate, sum_by, Option}
use Rattle.std.specs.declared.cmp.Ordering.{Ordering}
use Rattle.std.specs.Ordering.{nat_cmp, ordering_then}
use Rattle.vnode_model.specs.declared.vnodes.VnodeKind.{VnodeKind}
use Rattle.vnode_model.specs.declared.vnodes.VnodeKind.TheVariants.{File, Directory}
use Rattle.vnode_model.specs.declared.vnodes.Vnode.{Vnode}
use Rattle.cell_core.specs.Orders.{of_key, placed, without_key}

-- the order in which a volume's vnodes stand (`StandsBefore`, which a law proves it to be), as a comparison that lookups go by
abbrev pub number_order : ℕ → ℕ → Ordering
number_order m n = ordering_then (nat_cmp (n % 2) (m % 2)) (nat_cmp m n)

-- the number of a vnode, by which a volume's vnodes are in order
abbrev pub number_of_vnode : Vnode → ℕ
number_of_vnode v = v.number

-- the vnode of this number among a volume's vnodes; `None` where it is absent
abbrev pub vnode_of : ℕ → List Vnode → Option Vnode
vnode_of number vnodes = of_key number_order number_of_vnode number vnodes

-- a volume's vnodes with one more in its place, instead of the one that has its number
abbrev pub with_vnode : Vnode → List Vnode → List Vnode
with_vnode v vnodes = placed number_order number_of_vnode v vnodes

-- a volume's vnodes without the one of this number; the same ones where it is absent
abbrev pub without_vnode : ℕ → List Vnode → List Vnode
without_vnode number vnodes = without_key number_order number_of_vnode number vnodes

-- the directory that a new volume has: vnode 1, with mode 0755 (493) and one link
abbrev pub first_directory : ℕ → Vnode
first_directory now = record {
  number = 1;
  uniq = 1;
  kind = Directory;
  links = 1;
  data_version = 0;
  modified = now;
  author = 0;
  owner = 0;
  group = 0;
  mode = 493;
  parent = 0;
  server_modified = now;
  access = replicate 192 0;
  body = [];
}

-- the kind that a number is made as
abbrev pub kind_of_number : ℕ → VnodeKind
kind_of_number number = if (number % 2) == 1 then Directory else File

-- a vnode that is made with its data: mode 0644 (420), one link, in the first directory; the data counts as one change
abbrev pub made_vnode : ℕ → ℕ → List ℕ → ℕ → Vnode
made_vnode number uniq body now = record {
  number = number;
  uniq = uniq;
  kind = kind_of_number number;
  links = 1;
  data_version = 1;
  modified = now;
  author = 0;
  owner = 0;
  group = 0;
  mode = 420;
  parent = 1;
  server_modified = now;
  access = replicate 192 0;
  body = body;
}

-- a vnode whose data is replaced; the data version wraps at 2^32
abbrev pub rewritten_vnode : List ℕ → ℕ → Vnode → Vnode
rewritten_vnode body now v = record v { body = body; data_version = (v.data_version + 1) % (2 ^ 32); modified = now; server_modified = now }

-- what the vnodes use of a disk: each one's data in KiB, rounded up
abbrev pub kib_of : List Vnode → ℕ
kib_of vnodes = sum_by (λ v. (length v.body + 1023) / 1024) vnodes
