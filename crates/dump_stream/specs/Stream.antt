-- What bytes spell.
use Rattle.std.specs.Prelude.{◌≡◌, ◌-◌, min, replicate, ℕ, ◌+◌, ◌<◌, ◌%◌, Bool, true, false, List, [], ◌∷◌, ◌++◌, length, map, Option, Some, None, if◌then◌else◌, ◌==◌}
use Rattle.std.specs.List.{flat_map}
use Rattle.dump_stream.specs.declared.form.Form.TheVariants as forms
use Rattle.dump_stream.specs.declared.sofar.Field.{Field}
use Rattle.dump_stream.specs.declared.sofar.DumpHead.{DumpHead}
use Rattle.vnode_model.specs.declared.headers.HeaderFields.{HeaderFields}
use Rattle.vnode_model.specs.declared.vnodes.Vnode.{Vnode}
use Rattle.vnode_model.specs.declared.increments.Entry.{Entry}
use Rattle.vnode_model.specs.declared.increments.Entry.TheVariants.{Whole, Kept}
use Rattle.vnode_model.specs.declared.increments.Increment.{Increment}
use Rattle.vnode_model.specs.declared.vnodes.VnodeKind.{VnodeKind}
use Rattle.vnode_model.specs.declared.vnodes.VnodeKind.TheVariants.{File, Directory, Symlink}
use Rattle.vnode_model.specs.Limits.{most_vnodes, most_data, all_data}
use Rattle.dump_stream.specs.Forms.{IsWhole, opening, closing, number_from}
use Rattle.dump_stream.specs.Fields.{Table, AreFields, spelled, has, payload_of, number, byte, string, short, bytes_or, body_of, if_there}

-- the tags of each section
abbrev pub dump_table : Table
dump_table tag =
    if tag == 118 then Some (forms.Exact 4) else  -- v
    if tag == 110 then Some forms.Name else  -- n
    if tag == 116 then Some forms.Times else None  -- t

-- the 26 tags of the volume header, and the form of the bytes behind each; None for any other tag
abbrev pub header_table : Table
header_table tag =
    if tag == 105 then Some (forms.Exact 4) else  -- i
    if tag == 118 then Some (forms.Exact 4) else  -- v
    if tag == 110 then Some forms.Name else  -- n
    if tag == 115 then Some (forms.Exact 1) else  -- s
    if tag == 98 then Some (forms.Exact 1) else  -- b
    if tag == 117 then Some (forms.Exact 4) else  -- u
    if tag == 116 then Some forms.VolumeKind else  -- t
    if tag == 112 then Some (forms.Exact 4) else  -- p
    if tag == 99 then Some (forms.Exact 4) else  -- c
    if tag == 113 then Some (forms.Exact 4) else  -- q
    if tag == 109 then Some (forms.Exact 4) else  -- m
    if tag == 100 then Some (forms.Exact 4) else  -- d
    if tag == 102 then Some (forms.Exact 4) else  -- f
    if tag == 97 then Some (forms.Exact 4) else  -- a
    if tag == 111 then Some (forms.Exact 4) else  -- o
    if tag == 67 then Some (forms.Exact 4) else  -- C
    if tag == 65 then Some (forms.Exact 4) else  -- A
    if tag == 85 then Some (forms.Exact 4) else  -- U
    if tag == 69 then Some (forms.Exact 4) else  -- E
    if tag == 66 then Some (forms.Exact 4) else  -- B
    if tag == 79 then Some forms.Text else  -- O
    if tag == 77 then Some forms.Text else  -- M
    if tag == 87 then Some forms.Week else  -- W
    if tag == 68 then Some (forms.Exact 4) else  -- D
    if tag == 90 then Some (forms.Exact 4) else  -- Z
    if tag == 86 then Some (forms.Exact 4) else  -- V
    None

-- A directory has an odd number, and only it an access list. The data has its limit, and there is room for so much.
abbrev pub vnode_table : ℕ → ℕ → Table
vnode_table number room tag =
    if tag == 116 then Some (forms.Kind (number % 2 == 1)) else  -- t
    if tag == 108 then Some (forms.Exact 2) else  -- l
    if tag == 118 then Some (forms.Exact 4) else  -- v
    if tag == 109 then Some (forms.Exact 4) else  -- m
    if tag == 97 then Some (forms.Exact 4) else  -- a
    if tag == 111 then Some (forms.Exact 4) else  -- o
    if tag == 103 then Some (forms.Exact 4) else  -- g
    if tag == 98 then Some (forms.Exact 2) else  -- b
    if tag == 112 then Some (forms.Exact 4) else  -- p
    if tag == 115 then Some (forms.Exact 4) else  -- s
    if tag == 65 then (if number % 2 == 1 then Some (forms.Exact 192) else None) else  -- A
    if tag == 102 then Some (forms.Data false (min most_data room)) else  -- f
    if tag == 104 then Some (forms.Data true (min most_data room)) else  -- h
    None

-- what the fields of each section say
abbrev pub dump_of : List Field → DumpHead
dump_of fs = record {
  id = number (payload_of 118 fs) 0;
  name = string (payload_of 110 fs);
  from = number (payload_of 116 fs) 2;
  to = number (payload_of 116 fs) 6;
}

-- the uses on seven days, numbers of four bytes behind a count of two bytes; zeros where the field is absent
abbrev pub week_of : Option (List ℕ) → List ℕ
week_of o = number o 2 ∷ number o 6 ∷ number o 10 ∷ number o 14 ∷ number o 18 ∷ number o 22 ∷ number o 26 ∷ []

-- the volume header that the fields say: an absent number is 0, an absent text empty, an absent update counter None
abbrev pub header_of : List Field → HeaderFields
header_of fs = record {
  id = number (payload_of 105 fs) 0;
  stamp = number (payload_of 118 fs) 0;
  name = string (payload_of 110 fs);
  in_service = byte (payload_of 115 fs);
  blessed = byte (payload_of 98 fs);
  uniq = number (payload_of 117 fs) 0;
  kind = byte (payload_of 116 fs);
  parent = number (payload_of 112 fs) 0;
  clone_id = number (payload_of 99 fs) 0;
  max_quota = number (payload_of 113 fs) 0;
  min_quota = number (payload_of 109 fs) 0;
  disk_used = number (payload_of 100 fs) 0;
  file_count = number (payload_of 102 fs) 0;
  account = number (payload_of 97 fs) 0;
  owner = number (payload_of 111 fs) 0;
  created = number (payload_of 67 fs) 0;
  accessed = number (payload_of 65 fs) 0;
  updated = number (payload_of 85 fs) 0;
  expires = number (payload_of 69 fs) 0;
  backed_up = number (payload_of 66 fs) 0;
  offline = string (payload_of 79 fs);
  message = string (payload_of 77 fs);
  week = week_of (payload_of 87 fs);
  day_date = number (payload_of 68 fs) 0;
  day_use = number (payload_of 90 fs) 0;
  updates = if_there (payload_of 86 fs);
}

-- the vnode types are 1 file, 2 directory and 3 symbolic link
abbrev pub kind_of : ℕ → VnodeKind
kind_of byte = if byte == 1 then File else if byte == 2 then Directory else Symlink

-- the vnode of this number and uniquifier that the fields say: an absent number is 0, an absent access list zeros
abbrev pub vnode_of : ℕ → ℕ → List Field → Vnode
vnode_of n uniq fs = record {
  number = n;
  uniq = uniq;
  kind = kind_of (byte (payload_of 116 fs));
  links = short (payload_of 108 fs);
  data_version = number (payload_of 118 fs) 0;
  modified = number (payload_of 109 fs) 0;
  author = number (payload_of 97 fs) 0;
  owner = number (payload_of 111 fs) 0;
  group = number (payload_of 103 fs) 0;
  mode = short (payload_of 98 fs);
  parent = number (payload_of 112 fs) 0;
  server_modified = number (payload_of 115 fs) 0;
  access = bytes_or (payload_of 65 fs) (replicate 192 0);
  body = body_of fs;
}

-- a vnode section with no field is a vnode by number alone
abbrev pub entry_of : ℕ → ℕ → List Field → Entry
entry_of n uniq [] = Kept n uniq
entry_of n uniq (f ∷ fs) = Whole (vnode_of n uniq (f ∷ fs))

-- both headers must have a name, and a vnode with any field a type
abbrev pub IsNamed : List Field → Type 0
IsNamed fs = has 110 fs ≡ true

-- a vnode's fields are none at all, or its type (t) is among them
abbrev pub is_typed : List Field → Bool
is_typed [] = true
is_typed (f ∷ fs) = has 116 (f ∷ fs)

-- a vnode section: the number and the uniquifier behind the byte 3, and its fields
pub record Section : Type 0 where
  pub head : List ℕ
  pub fields : List Field

-- the bytes of a vnode section: the byte 3, its number and uniquifier, and its fields one behind the other
abbrev pub section : Section → List ℕ
section s = 3 ∷ s.head ++ flat_map spelled s.fields

-- the entry that a section says: its number is the first four bytes of its head, its uniquifier the next four
abbrev pub entry : Section → Entry
entry s = entry_of (number_from 0 s.head) (number_from 4 s.head) s.fields

-- a section that may follow the vnode of number `last` (0 for none), where there is room for so many bytes of data
pub record IsSection (room last : ℕ) (s : Section) : Type 0 where
  pub numbered : IsWhole (forms.Vnode last) s.head
  pub listed : AreFields (vnode_table (number_from 0 s.head) room) [] s.fields
  pub typed : is_typed s.fields ≡ true

-- Sections that may follow so many others, the last of which has this number, where there is room for so much data.
abbrev pub AreSections : ℕ → ℕ → ℕ → List Section → Type 0
AreSections count room last [] = Unit {0}
AreSections count room last (s ∷ ss) = (count < most_vnodes) × IsSection room last s × AreSections (count + 1) (room - length (body_of s.fields)) (number_from 0 s.head) ss

-- what the headers and the entries say together
abbrev pub increment : DumpHead → HeaderFields → List Entry → Increment
increment dump header entries = record {
  dump_id = dump.id;
  dump_name = dump.name;
  from = dump.from;
  to = dump.to;
  header = header;
  entries = entries;
}

-- the bytes of a whole stream, and what they say
pub record Spells (bytes : List ℕ) (i : Increment) : Type 0 where
  pub dump : List Field
  pub header : List Field
  pub vnodes : List Section
  pub bytes_are : bytes ≡ 1 ∷ opening ++ flat_map spelled dump ++ 2 ∷ flat_map spelled header ++ flat_map section vnodes ++ 4 ∷ closing
  pub dump_listed : AreFields dump_table [] dump
  pub dump_named : IsNamed dump
  pub header_listed : AreFields header_table [] header
  pub header_named : IsNamed header
  pub vnodes_listed : AreSections 0 all_data 0 vnodes
  pub says : i ≡ increment (dump_of dump) (header_of header) (map entry vnodes)
