-- What may stand behind a tag.
use Rattle.std.specs.Prelude.{◌≡◌, ◌⊎◌, ℕ, ◌+◌, ◌<◌, ◌≤◌, Bool, true, false, List, [], ◌∷◌, ◌++◌, length, drop, All}
use Rattle.std.specs.Int.{w32, w64, from_be_bytes}
use Rattle.bk_text.specs.Alphabets.{IsName}
use Rattle.vnode_model.specs.Headers.{IsMessage}
use Rattle.vnode_model.specs.Limits.{ComesAfter}
use Rattle.dump_stream.specs.declared.form.Form.{Form}
use Rattle.dump_stream.specs.declared.form.Form.TheVariants.{Exact, Opening, Closing, Times, Week, Name, Text, VolumeKind, Data, Kind, Vnode}
use Rattle.dump_stream.specs.declared.form.Verdict.{Verdict}
use Rattle.dump_stream.specs.declared.form.Verdict.TheVariants.{Whole, More, Never}

-- each of these numbers is a byte: below 256
abbrev pub IsBytes : List ℕ → Type 0
IsBytes bytes = All (λ b. b < 256) bytes

-- a stream begins with the byte 1 and the numbers B3A11322 and 1, and ends with the byte 4 and the number 3A214B6E
abbrev pub opening : List ℕ
opening = 0xb3 ∷ 0xa1 ∷ 0x13 ∷ 0x22 ∷ 0 ∷ 0 ∷ 0 ∷ 1 ∷ []

-- the four bytes behind the byte 4 at the end of a stream
abbrev pub closing : List ℕ
closing = 0x3a ∷ 0x21 ∷ 0x4b ∷ 0x6e ∷ []

-- these bytes, and so many more, whichever they are
abbrev pub IsFixed : List ℕ → ℕ → List ℕ → Type 0
IsFixed front count p = (rest : List ℕ) × (p ≡ front ++ rest) × (length rest ≡ count)

-- 2 for a directory, 1 or 3 for another vnode
abbrev pub IsKind : Bool → ℕ → Type 0
IsKind true kind = kind ≡ 2
IsKind false kind = (kind ≡ 1) ⊎ (kind ≡ 3)

-- numbers are big-endian: the number of four bytes that begins at this place
abbrev pub number_from : ℕ → List ℕ → ℕ
number_from at p = from_be_bytes w32 (drop at p)

-- a length of eight bytes, or of four
abbrev pub size_len : Bool → ℕ
size_len true = 8
size_len false = 4

-- the length in bytes that stands before data: a number of eight bytes, or of four
abbrev pub size_in : Bool → List ℕ → ℕ
size_in true p = from_be_bytes w64 p
size_in false p = from_be_bytes w32 p

-- a length that is at most the limit, and that many bytes
abbrev pub IsData : Bool → ℕ → List ℕ → Type 0
IsData wide limit p = (size_in wide p ≤ limit) × (length p ≡ size_len wide + size_in wide p)

-- a string is bytes other than 0, ended by a 0 byte
abbrev pub HasForm : Form → List ℕ → Type 0
HasForm (Exact count) p = IsFixed [] count p
HasForm Opening p = IsFixed opening 0 p
HasForm Closing p = IsFixed closing 0 p
HasForm Times p = IsFixed (0 ∷ 2 ∷ []) 8 p
HasForm Week p = IsFixed (0 ∷ 7 ∷ []) 28 p
HasForm Text p = (text : List ℕ) × (p ≡ text ++ 0 ∷ []) × IsMessage text
HasForm VolumeKind p = (kind : ℕ) × (p ≡ kind ∷ []) × (kind ≤ 2)
HasForm (Data wide limit) p = IsData wide limit p
HasForm Name p = (name : List ℕ) × (p ≡ name ++ 0 ∷ []) × IsName name
HasForm (Kind directory) p = (kind : ℕ) × (p ≡ kind ∷ []) × IsKind directory kind
HasForm (Vnode last) p = (length p ≡ 8) × ComesAfter last (number_from 0 p)

-- the bytes behind a tag, all of them
abbrev pub IsWhole : Form → List ℕ → Type 0
IsWhole form p = IsBytes p × HasForm form p

-- P is what is looked for: these bytes are it; or they begin it and aren't it yet; or they don't begin it.
abbrev pub Judges : (List ℕ → Type 0) → List ℕ → Verdict → Type 0
Judges P p Whole = P p
Judges P p More = (P p → ⊥) × (q : List ℕ) × P (p ++ q)
Judges P p Never = (q : List ℕ) → P (p ++ q) → ⊥

-- these bytes, and so many more, each of them below 256
abbrev pub IsFixedBytes : List ℕ → ℕ → List ℕ → Type 0
IsFixedBytes front count p = IsBytes p × IsFixed front count p
