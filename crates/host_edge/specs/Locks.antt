-- What a lock shows.
use Rattle.host_edge.specs.declared.lock.FolderLock.{FolderLock}

-- the handle that has the lock
abbrev pub handle_of : {F : Type 0} → FolderLock F → F
handle_of lock = lock.handle
