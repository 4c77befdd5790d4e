-- Entries by reference.
use Rattle.vnode_model.specs.declared.increments.Entry.{Entry}
use Rattle.vnode_model.specs.declared.increments.Entry.TheVariants.{Whole, Kept}
use Rattle.vnode_model.specs.declared.selecting.EntryRef.{EntryRef}
use Rattle.vnode_model.specs.declared.selecting.EntryRef.TheVariants as ref

-- the entry that it refers to
abbrev pub entry_of : EntryRef → Entry
entry_of (ref.Whole v) = Whole v.now
entry_of (ref.Kept number uniq) = Kept number uniq
