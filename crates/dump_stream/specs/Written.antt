-- What is written: the one spelling in the writer's order.
use Rattle.std.specs.Prelude.{◌≡◌, ℕ, List, [], ◌∷◌, ◌++◌, length, map, Option, Some, None, if◌then◌else◌, ◌==◌}
use Rattle.std.specs.List.{flat_map}
use Rattle.std.specs.Int.{w16, w32, to_be_bytes}
use Rattle.vnode_model.specs.declared.headers.HeaderFields.{HeaderFields}
use Rattle.vnode_model.specs.declared.vnodes.Vnode.{Vnode}
use Rattle.vnode_model.specs.declared.vnodes.VnodeKind.{VnodeKind}
use Rattle.vnode_model.specs.declared.vnodes.VnodeKind.TheVariants.{File, Directory, Symlink}
use Rattle.vnode_model.specs.declared.increments.Entry.{Entry}
use Rattle.vnode_model.specs.declared.increments.Entry.TheVariants.{Whole, Kept}
use Rattle.vnode_model.specs.declared.increments.Increment.{Increment}
use Rattle.dump_stream.specs.declared.sofar.Field.{Field}
use Rattle.dump_stream.specs.Forms.{opening, closing}
use Rattle.dump_stream.specs.Fields.{spelled}
use Rattle.dump_stream.specs.Stream.{Section, section}

-- ---- fields by the kind of what they say; a number's most significant byte comes first

-- a field: this tag, and these bytes behind it
abbrev pub field : ℕ → List ℕ → Field
field tag p = record { tag = tag; payload = p }

-- a field of one byte
abbrev pub byte_field : ℕ → ℕ → Field
byte_field tag b = field tag (b ∷ [])

-- a field with a number of two bytes
abbrev pub short_field : ℕ → ℕ → Field
short_field tag n = field tag (to_be_bytes w16 n)

-- a field with a number of four bytes: an id, a count, or a time in seconds since 1970
abbrev pub number_field : ℕ → ℕ → Field
number_field tag n = field tag (to_be_bytes w32 n)

-- a field with a text, which a 0 byte ends
abbrev pub text_field : ℕ → List ℕ → Field
text_field tag text = field tag (text ++ 0 ∷ [])

-- a field with two times in seconds since 1970, behind their count, 2, in two bytes
abbrev pub times_field : ℕ → ℕ → ℕ → Field
times_field tag from to = field tag (to_be_bytes w16 2 ++ to_be_bytes w32 from ++ to_be_bytes w32 to)

-- a field with the uses on seven days, four bytes each, behind their count, 7, in two bytes
abbrev pub week_field : ℕ → List ℕ → Field
week_field tag week = field tag (to_be_bytes w16 7 ++ flat_map (to_be_bytes w32) week)

-- a field with data, behind their length in bytes, a number of four bytes
abbrev pub data_field : ℕ → List ℕ → Field
data_field tag body = field tag (to_be_bytes w32 (length body) ++ body)

-- ---- the fields of each section, in the writer's order; a number is written also where it is 0, a text also where it
-- is empty

-- the dump header's fields: its id, its name, and the times from and to, in seconds since 1970
abbrev pub dump_fields : Increment → List Field
dump_fields i =
    number_field 118 i.dump_id  -- v
    ∷ text_field 110 i.dump_name  -- n
    ∷ times_field 116 i.from i.to  -- t
    ∷ []

-- the volume update counter only where there is one
abbrev pub updates_fields : Option ℕ → List Field
updates_fields None = []
updates_fields (Some n) = number_field 86 n ∷ []  -- V

-- the volume header's 25 fields, and its update counter where there is one
abbrev pub header_fields : HeaderFields → List Field
header_fields h =
    number_field 105 h.id  -- i
    ∷ number_field 118 h.stamp  -- v
    ∷ text_field 110 h.name  -- n
    ∷ byte_field 115 h.in_service  -- s
    ∷ byte_field 98 h.blessed  -- b
    ∷ number_field 117 h.uniq  -- u
    ∷ byte_field 116 h.kind  -- t
    ∷ number_field 112 h.parent  -- p
    ∷ number_field 99 h.clone_id  -- c
    ∷ number_field 113 h.max_quota  -- q
    ∷ number_field 109 h.min_quota  -- m
    ∷ number_field 100 h.disk_used  -- d
    ∷ number_field 102 h.file_count  -- f
    ∷ number_field 97 h.account  -- a
    ∷ number_field 111 h.owner  -- o
    ∷ number_field 67 h.created  -- C
    ∷ number_field 65 h.accessed  -- A
    ∷ number_field 85 h.updated  -- U
    ∷ number_field 69 h.expires  -- E
    ∷ number_field 66 h.backed_up  -- B
    ∷ text_field 79 h.offline  -- O
    ∷ text_field 77 h.message  -- M
    ∷ week_field 87 h.week  -- W
    ∷ number_field 68 h.day_date  -- D
    ∷ number_field 90 h.day_use  -- Z
    ∷ updates_fields h.updates

-- the vnode types are 1 file, 2 directory and 3 symbolic link
abbrev pub kind_byte : VnodeKind → ℕ
kind_byte File = 1
kind_byte Directory = 2
kind_byte Symlink = 3

-- a group only where it isn't 0
abbrev pub group_fields : ℕ → List Field
group_fields group = if group == 0 then [] else number_field 103 group ∷ []  -- g

-- an access list only for a directory, also where it is zeros
abbrev pub access_fields : VnodeKind → List ℕ → List Field
access_fields File access = []
access_fields Directory access = field 65 access ∷ []  -- A
access_fields Symlink access = []

-- a whole vnode's fields, from its type (t) to its data (f)
abbrev pub vnode_fields : Vnode → List Field
vnode_fields v =
    byte_field 116 (kind_byte v.kind)  -- t
    ∷ short_field 108 v.links  -- l
    ∷ number_field 118 v.data_version  -- v
    ∷ number_field 109 v.modified  -- m
    ∷ number_field 97 v.author  -- a
    ∷ number_field 111 v.owner  -- o
    ∷ (group_fields v.group ++ (short_field 98 v.mode  -- g, b
    ∷ number_field 112 v.parent  -- p
    ∷ number_field 115 v.server_modified  -- s
    ∷ (access_fields v.kind v.access ++ data_field 102 v.body ∷ [])))  -- A, f

-- ---- sections and the stream

-- a vnode by number alone has no field
abbrev pub section_of : Entry → Section
section_of (Whole v) = record { head = to_be_bytes w32 v.number ++ to_be_bytes w32 v.uniq; fields = vnode_fields v }
section_of (Kept number uniq) = record { head = to_be_bytes w32 number ++ to_be_bytes w32 uniq; fields = [] }

-- This word is closed, so that a caller's proof sees a stream as one thing.
unfoldable pub written : Increment → List ℕ
written i =
    1 ∷ opening
    ++ flat_map spelled (dump_fields i)
    ++ 2 ∷ flat_map spelled (header_fields i.header)
    ++ flat_map section (map section_of i.entries)
    ++ 4 ∷ closing
