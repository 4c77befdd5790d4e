-- The fields of a section.
use Rattle.std.specs.Prelude.{◌≡◌, ◌||◌, ◌&&◌, ℕ, Bool, false, List, [], ◌∷◌, ◌++◌, length, take, drop, Option, Some, None, is_some, if◌then◌else◌, ◌==◌, ◌-◌, slice_index}
use Rattle.std.specs.Int.{w16, from_be_bytes}
use Rattle.dump_stream.specs.declared.form.Form.{Form}
use Rattle.dump_stream.specs.declared.sofar.Field.{Field}
use Rattle.dump_stream.specs.Forms.{IsWhole, number_from}

-- a field is its tag and the bytes behind it
abbrev pub spelled : Field → List ℕ
spelled f = f.tag ∷ f.payload

-- the bytes behind a tag, where a field has it
abbrev pub payload_of : ℕ → List Field → Option (List ℕ)
payload_of tag [] = None
payload_of tag (f ∷ fs) = if f.tag == tag then Some f.payload else payload_of tag fs

-- whether one of the fields has this tag
abbrev pub has : ℕ → List Field → Bool
has tag fs = is_some (payload_of tag fs)

-- f and h both begin a vnode's data
abbrev pub is_data : ℕ → Bool
is_data tag = tag == 102 || tag == 104

-- whether a tag came before; of f and h one may come
abbrev pub used : ℕ → List Field → Bool
used tag fs = (is_data tag && (has 102 fs || has 104 fs)) || has tag fs

-- A table says which tags a section may have, and the form of each.
abbrev pub Table : Type 0
Table = ℕ → Option Form

-- the form that the table has for the tag, and bytes of that form
abbrev pub IsField : Table → Field → Type 0
IsField table f = (form : Form) × (table f.tag ≡ Some form) × IsWhole form f.payload

-- Fields that may follow those before them: each is in the table, and none has a tag that came before.
abbrev pub AreFields : Table → List Field → List Field → Type 0
AreFields table before [] = Unit {0}
AreFields table before (f ∷ fs) = IsField table f × (used f.tag before ≡ false) × AreFields table (before ++ f ∷ []) fs

-- a number is 0 where it is absent
abbrev pub number : Option (List ℕ) → ℕ → ℕ
number None at = 0
number (Some p) at = number_from at p

-- the first byte behind a tag, or 0 where the field is absent
abbrev pub byte : Option (List ℕ) → ℕ
byte None = 0
byte (Some p) = slice_index p 0

-- a string without the 0 byte at its end
abbrev pub string : Option (List ℕ) → List ℕ
string None = []
string (Some p) = take (length p - 1) p

-- a number of two bytes, the most significant one first, or 0 where the field is absent
abbrev pub short : Option (List ℕ) → ℕ
short None = 0
short (Some p) = from_be_bytes w16 p

-- the bytes behind a tag, or the given ones where the field is absent
abbrev pub bytes_or : Option (List ℕ) → List ℕ → List ℕ
bytes_or None d = d
bytes_or (Some p) d = p

-- the data behind its length
abbrev pub body : Option (List ℕ) → Option (List ℕ) → List ℕ
body None None = []
body None (Some q) = drop 8 q
body (Some p) o = drop 4 p

-- a vnode's data, from f (a length of four bytes) or else from h (one of eight); empty where both are absent
abbrev pub body_of : List Field → List ℕ
body_of fs = body (payload_of 102 fs) (payload_of 104 fs)

-- a number of four bytes, or None where the field is absent
abbrev pub if_there : Option (List ℕ) → Option ℕ
if_there None = None
if_there (Some p) = Some (number_from 0 p)
