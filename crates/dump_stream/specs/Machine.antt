-- Reading from one field to the next: where it stands, what may come, and what is still to come.
use Rattle.std.specs.Prelude.{◌≡◌, ◌-◌, ℕ, ◌+◌, true, ◌&&◌, nat_lt, List, [], ◌∷◌, ◌++◌, length, map, Option, Some, None, if◌then◌else◌, ◌==◌}
use Rattle.std.specs.List.{flat_map}
use Rattle.dump_stream.specs.declared.form.Form.{Form}
use Rattle.dump_stream.specs.declared.form.Form.TheVariants as forms
use Rattle.dump_stream.specs.declared.sofar.Field.{Field}
use Rattle.dump_stream.specs.declared.sofar.Sofar.{Sofar}
use Rattle.dump_stream.specs.declared.sofar.Sofar.TheVariants.{Start, Dump, Volume, Vnode, Ended}
use Rattle.dump_stream.specs.declared.sofar.DumpHead.{DumpHead}
use Rattle.vnode_model.specs.declared.increments.Entry.{Entry}
use Rattle.vnode_model.specs.declared.increments.Increment.{Increment}
use Rattle.dump_stream.specs.Forms.{IsWhole, opening, closing, number_from}
use Rattle.dump_stream.specs.Fields.{Table, AreFields, spelled, has, used, body_of}
use Rattle.dump_stream.specs.Stream.{dump_table, header_table, vnode_table, dump_of, header_of, entry_of, entry, is_typed, IsNamed, Section, section, AreSections, increment}
use Rattle.vnode_model.specs.Limits.{most_vnodes, all_data}

-- ---- what may come, and where reading stands after it

-- the form behind a tag of the table that did not come before
abbrev pub field_at : Table → List Field → ℕ → Option Form
field_at table fs tag = if used tag fs then None else table tag

-- the form of the bytes behind this tag, or None where the tag may not stand here
abbrev pub form_at : Sofar → ℕ → Option Form
form_at Start tag = if tag == 1 then Some forms.Opening else None
form_at (Dump fs) tag =
    if tag == 2 then (if has 110 fs then Some (forms.Exact 0) else None) else field_at dump_table fs tag
form_at (Volume dump fs) tag =
    if tag == 3 then (if has 110 fs then Some (forms.Vnode 0) else None) else
    if tag == 4 then (if has 110 fs then Some forms.Closing else None) else field_at header_table fs tag
form_at (Vnode made room n uniq fs) tag =
    if tag == 3 then (if is_typed fs && nat_lt (length made.entries + 1) most_vnodes then Some (forms.Vnode n) else None) else
    if tag == 4 then (if is_typed fs then Some forms.Closing else None) else field_at (vnode_table n room) fs tag
form_at (Ended made) tag = None

-- the increment so far, with one more entry at its end
abbrev pub with_entry : Increment → Entry → Increment
with_entry made e = record made { entries = made.entries ++ e ∷ [] }

-- the increment that the two headers begin: it has no entry yet
abbrev pub begun : DumpHead → List Field → Increment
begun dump fs = increment dump (header_of fs) []

-- the fields so far, with one more at their end: this tag and the bytes behind it
abbrev pub with_field : List Field → ℕ → List ℕ → List Field
with_field fs tag p = fs ++ record { tag = tag; payload = p } ∷ []

-- where reading stands behind a tag and all its bytes: one more field, the next section, or the end of the stream
abbrev pub after : Sofar → ℕ → List ℕ → Sofar
after Start tag p = Dump []
after (Dump fs) tag p = if tag == 2 then Volume (dump_of fs) [] else Dump (with_field fs tag p)
after (Volume dump fs) tag p =
    if tag == 3 then Vnode (begun dump fs) all_data (number_from 0 p) (number_from 4 p) [] else
    if tag == 4 then Ended (begun dump fs) else Volume dump (with_field fs tag p)
after (Vnode made room n uniq fs) tag p =
    if tag == 3 then Vnode (with_entry made (entry_of n uniq fs)) (room - length (body_of fs)) (number_from 0 p) (number_from 4 p) [] else
    if tag == 4 then Ended (with_entry made (entry_of n uniq fs)) else Vnode made room n uniq (with_field fs tag p)
after (Ended made) tag p = Ended made

-- ---- what is still to come

-- fields of the table that may follow these, and then what K says of all of them and of the bytes behind
abbrev pub Fields : Table → List Field → (List Field → List ℕ → Type 0) → List ℕ → Type 0
Fields table before K bytes = (fs : List Field) × (rest : List ℕ) × AreFields table before fs × (bytes ≡ flat_map spelled fs ++ rest) × K (before ++ fs) rest

-- the rest of the bytes behind a tag, and then what K says of all of them and of the bytes behind
abbrev pub Payload : Form → List ℕ → (List ℕ → List ℕ → Type 0) → List ℕ → Type 0
Payload form p K bytes = (q : List ℕ) × (rest : List ℕ) × (bytes ≡ q ++ rest) × IsWhole form (p ++ q) × K (p ++ q) rest

-- vnode sections to the end of the stream
abbrev pub Sections : ℕ → ℕ → ℕ → Increment → Increment → List ℕ → Type 0
Sections count room last made i bytes = (ss : List Section) × AreSections count room last ss × (bytes ≡ flat_map section ss ++ 4 ∷ closing) × (i ≡ record made { entries = made.entries ++ map entry ss })

-- This vnode's fields are complete, and the bytes are the vnode sections behind it and the end; the stream says i.
abbrev pub AfterVnode : Increment → ℕ → ℕ → ℕ → Increment → List Field → List ℕ → Type 0
AfterVnode made room n uniq i fs bytes = (is_typed fs ≡ true) × Sections (length made.entries + 1) (room - length (body_of fs)) n (with_entry made (entry_of n uniq fs)) i bytes

-- The volume header has a name, and the bytes are all vnode sections and the end; the stream says i.
abbrev pub AfterHeader : DumpHead → Increment → List Field → List ℕ → Type 0
AfterHeader dump i fs bytes = IsNamed fs × Sections 0 all_data 0 (begun dump fs) i bytes

-- The dump header has a name, and the bytes are the byte 2, the volume header and the rest; the stream says i.
abbrev pub AfterDump : Increment → List Field → List ℕ → Type 0
AfterDump i fs bytes = IsNamed fs × (rest : List ℕ) × (bytes ≡ 2 ∷ rest) × Fields header_table [] (AfterHeader (dump_of fs) i) rest

-- From here these bytes end a stream, and the stream says i.
abbrev pub Rest : Sofar → List ℕ → Increment → Type 0
Rest Start bytes i = (rest : List ℕ) × (bytes ≡ 1 ∷ opening ++ rest) × Fields dump_table [] (AfterDump i) rest
Rest (Dump fs) bytes i = Fields dump_table fs (AfterDump i) bytes
Rest (Volume dump fs) bytes i = Fields header_table fs (AfterHeader dump i) bytes
Rest (Vnode made room n uniq fs) bytes i = Fields (vnode_table n room) fs (AfterVnode made room n uniq i) bytes
Rest (Ended made) bytes i = (bytes ≡ []) × (i ≡ made)
