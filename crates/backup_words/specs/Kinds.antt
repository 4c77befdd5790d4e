-- The names of commands.
use Rattle.std.specs.Prelude.{ℕ, List, [], ◌∷◌, Bool, ◌==◌, find, codes, if◌then◌else◌, Option, None}
use Rattle.bk_text.specs.Blanks.{is_same_text}
use Rattle.backup_words.specs.declared.kinds.Kind.{Kind}
use Rattle.backup_words.specs.declared.kinds.Kind.TheVariants.{Addvolset, Delvolset, Addvolentry, Delvolentry, Listvolsets, Adddump, Setexp, Deldump, Listdumps, Listhosts, Checkpoint, Addhost, Delhost, Labeltape, Readlabel, Scantape, Savedb, Restoredb, Dump, Together, Kill, End, Jobs, Deletedump, Dumpinfo, Volinfo, Dbverify, Volrestore, Diskrestore, Volsetrestore, VosCreate, VosWrite, VosRmvnode, VosBackup, VosRemove, VosListvol}

-- two equal texts
unfoldable pub is_same : List ℕ → List ℕ → Bool
is_same a b = is_same_text a b

-- the word that names a command; of two words the second
unfoldable pub kind_word : Kind → List ℕ
kind_word Addvolset = codes "addvolset"
kind_word Delvolset = codes "delvolset"
kind_word Addvolentry = codes "addvolentry"
kind_word Delvolentry = codes "delvolentry"
kind_word Listvolsets = codes "listvolsets"
kind_word Adddump = codes "adddump"
kind_word Setexp = codes "setexp"
kind_word Deldump = codes "deldump"
kind_word Listdumps = codes "listdumps"
kind_word Listhosts = codes "listhosts"
kind_word Checkpoint = codes "checkpoint"
kind_word Addhost = codes "addhost"
kind_word Delhost = codes "delhost"
kind_word Labeltape = codes "labeltape"
kind_word Readlabel = codes "readlabel"
kind_word Scantape = codes "scantape"
kind_word Savedb = codes "savedb"
kind_word Restoredb = codes "restoredb"
kind_word Dump = codes "dump"
kind_word Together = codes "together"
kind_word Kill = codes "kill"
kind_word End = codes "end"
kind_word Jobs = codes "jobs"
kind_word Deletedump = codes "deletedump"
kind_word Dumpinfo = codes "dumpinfo"
kind_word Volinfo = codes "volinfo"
kind_word Dbverify = codes "dbverify"
kind_word Volrestore = codes "volrestore"
kind_word Diskrestore = codes "diskrestore"
kind_word Volsetrestore = codes "volsetrestore"
kind_word VosCreate = codes "create"
kind_word VosWrite = codes "write"
kind_word VosRmvnode = codes "rmvnode"
kind_word VosBackup = codes "backup"
kind_word VosRemove = codes "remove"
kind_word VosListvol = codes "listvol"

-- the commands of one word
abbrev pub plain_kinds : List Kind
plain_kinds =
    Addvolset ∷ Delvolset ∷ Addvolentry ∷ Delvolentry ∷ Listvolsets ∷ Adddump ∷ Setexp ∷ Deldump ∷ Listdumps ∷ Listhosts ∷ Checkpoint ∷ Addhost ∷ Delhost ∷ Labeltape ∷ Readlabel ∷ Scantape ∷ Savedb ∷ Restoredb ∷ Dump ∷ Together ∷ Kill ∷ End ∷ Jobs ∷ Deletedump ∷ Dumpinfo ∷ Volinfo ∷ Dbverify ∷ Volrestore ∷ Diskrestore ∷ Volsetrestore ∷ []

-- the commands of two words, of which the first is "vos"
abbrev pub vos_kinds : List Kind
vos_kinds = VosCreate ∷ VosWrite ∷ VosRmvnode ∷ VosBackup ∷ VosRemove ∷ VosListvol ∷ []

-- of these commands the one that the word names
abbrev pub kind_among : List ℕ → List Kind → Option Kind
kind_among word kinds = find (λ kind. is_same word (kind_word kind)) kinds

-- the command that the word behind "vos" names
abbrev pub vos_kind : List (List ℕ) → Option Kind
vos_kind [] = None
vos_kind (word ∷ rest) = kind_among word vos_kinds

-- the command that words begin with
abbrev pub kind_of : List (List ℕ) → Option Kind
kind_of [] = None
kind_of (word ∷ rest) = if is_same word (codes "vos") then vos_kind rest else kind_among word plain_kinds

-- the number of words of its name
abbrev pub name_length : Kind → ℕ
name_length VosCreate = 2
name_length VosWrite = 2
name_length VosRmvnode = 2
name_length VosBackup = 2
name_length VosRemove = 2
name_length VosListvol = 2
name_length _ = 1
