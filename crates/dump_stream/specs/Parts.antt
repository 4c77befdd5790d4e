-- The bytes of a stream in the parts in which they are written: the headers, each vnode's section before its data, the
-- data, the end.
use Rattle.std.specs.Prelude.{◌≡◌, ℕ, List, [], ◌∷◌, ◌++◌, length, map, Option, None, Some}
use Rattle.std.specs.List.{flat_map}
use Rattle.std.specs.Int.{w32, to_be_bytes}
use Rattle.vnode_model.specs.declared.headers.HeaderFields.{HeaderFields}
use Rattle.vnode_model.specs.declared.vnodes.Vnode.{Vnode}
use Rattle.vnode_model.specs.declared.increments.Entry.{Entry}
use Rattle.vnode_model.specs.declared.increments.Entry.TheVariants.{Whole, Kept}
use Rattle.dump_stream.specs.declared.sofar.Field.{Field}
use Rattle.dump_stream.specs.Forms.{opening, closing}
use Rattle.dump_stream.specs.Fields.{spelled}
use Rattle.dump_stream.specs.Written.{byte_field, short_field, number_field, text_field, times_field, week_field, updates_fields, header_fields, kind_byte, group_fields, access_fields}

-- the room for them
abbrev pub most : ℕ
most = 2304

-- a field with a number of four bytes for each pair of a tag and a number, in this order
abbrev pub number_fields : List (ℕ × ℕ) → List Field
number_fields fields = map (λ f. number_field f.0 f.1) fields

-- ---- the headers

-- the dump header's fields: its id (v), its name (n) and two times in seconds since 1970 (t)
abbrev pub dump_fields_of : ℕ → List ℕ → ℕ → ℕ → List Field
dump_fields_of id name from to = number_field 118 id ∷ text_field 110 name ∷ times_field 116 from to ∷ []

-- the volume header's fields up to its dates, and the others
abbrev pub first_fields : HeaderFields → List Field
first_fields h =
    number_field 105 h.id
    ∷ number_field 118 h.stamp
    ∷ text_field 110 h.name
    ∷ byte_field 115 h.in_service
    ∷ byte_field 98 h.blessed
    ∷ number_field 117 h.uniq
    ∷ byte_field 116 h.kind
    ∷ []

-- the volume header's 13 numbers of four bytes, from its parent (p) to its backup time (B)
abbrev pub middle_fields : HeaderFields → List Field
middle_fields h =
    number_field 112 h.parent
    ∷ number_field 99 h.clone_id
    ∷ number_field 113 h.max_quota
    ∷ number_field 109 h.min_quota
    ∷ number_field 100 h.disk_used
    ∷ number_field 102 h.file_count
    ∷ number_field 97 h.account
    ∷ number_field 111 h.owner
    ∷ number_field 67 h.created
    ∷ number_field 65 h.accessed
    ∷ number_field 85 h.updated
    ∷ number_field 69 h.expires
    ∷ number_field 66 h.backed_up
    ∷ []

-- the volume header's messages (O, M), uses of a week (W) and of a day (D, Z), and update counter (V), if any
abbrev pub last_fields : HeaderFields → List Field
last_fields h =
    text_field 79 h.offline
    ∷ text_field 77 h.message
    ∷ week_field 87 h.week
    ∷ number_field 68 h.day_date
    ∷ number_field 90 h.day_use
    ∷ updates_fields h.updates

-- the bytes of a stream up to its first vnode: the opening, the dump header and the volume header
abbrev pub headers : ℕ → List ℕ → ℕ → ℕ → HeaderFields → List ℕ
headers id name from to h = 1 ∷ opening ++ flat_map spelled (dump_fields_of id name from to) ++ 2 ∷ flat_map spelled (header_fields h)

-- ---- a vnode's section

-- a vnode's fields from its type (t) to its group (g), which is there only where it isn't 0
abbrev pub early_fields : Vnode → List Field
early_fields v =
    byte_field 116 (kind_byte v.kind)
    ∷ short_field 108 v.links
    ∷ number_field 118 v.data_version
    ∷ number_field 109 v.modified
    ∷ number_field 97 v.author
    ∷ number_field 111 v.owner
    ∷ group_fields v.group

-- a vnode's fields from its mode (b) up to its data; only a directory has an access list (A)
abbrev pub late_fields : Vnode → List Field
late_fields v =
    short_field 98 v.mode
    ∷ number_field 112 v.parent
    ∷ number_field 115 v.server_modified
    ∷ access_fields v.kind v.access

-- the first 9 bytes of a vnode's section: the byte 3, its number and its uniquifier
abbrev pub kept_head : ℕ → ℕ → List ℕ
kept_head number uniq = 3 ∷ to_be_bytes w32 number ++ to_be_bytes w32 uniq

-- the section of a whole vnode, up to the length of its data
abbrev pub whole_head : Vnode → List ℕ
whole_head v =
    kept_head v.number v.uniq
    ++ flat_map spelled (early_fields v)
    ++ flat_map spelled (late_fields v)
    ++ 102 ∷ to_be_bytes w32 (length v.body)

-- an entry's section up to its data; of a vnode by number alone it is the whole section
abbrev pub head_of : Entry → List ℕ
head_of (Whole v) = whole_head v
head_of (Kept number uniq) = kept_head number uniq

-- an entry's data in bytes; a vnode by number alone has none
abbrev pub data_of : Entry → List ℕ
data_of (Whole v) = v.body
data_of (Kept number uniq) = []

-- ---- what is written when memory may be refused

-- these bytes were written, or a front of them
pub record HoldsFront (old bytes new : List ℕ) : Type 0 where
  pub front : List ℕ
  pub rest : List ℕ
  pub holds : new ≡ old ++ front
  pub is_front : front ++ rest ≡ bytes
