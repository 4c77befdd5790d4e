-- Forms of values with their bytes, one behind another, and what reading such a value answers.
use Rattle.std.specs.Prelude.{◌≡◌, ℕ, ◌-◌, ◌<◌, ◌≤◌, List, [], ◌∷◌, ◌++◌, length, replicate, All, Option}
use Rattle.std.specs.List.{flat_map}
use Rattle.bk_text.specs.Places.{OfLength}
use Rattle.byte_formats.specs.declared.fault.ReadFault.{ReadFault}
use Rattle.byte_formats.specs.declared.fault.ReadFault.TheVariants.{Bad, Memory}
use Rattle.byte_formats.specs.Bytes.{two, four, text1, text2, any_or}
use Rattle.byte_formats.specs.Forms.{IsFour, IsAnyOr, IsMaybe}

-- values of a form, and the bytes of each
pub record Format (X : Type 0) : Type 1 where
  pub Is : X → Type 0
  pub spelled : X → List ℕ

-- a value stands at the front, and these bytes behind it
pub record Took {X : Type 0} (F : Format X) (bytes : List ℕ) (value : X) (rest : List ℕ) : Type 0 where
  pub is : F.Is value
  pub joined : bytes ≡ F.spelled value ++ rest

-- Some value begins with the bytes up to where so many are left, and wants more; none begins with one byte more.
pub record Sticks {X : Type 0} (F : Format X) (bytes : List ℕ) (left : ℕ) : Type 0 where
  pub good : List ℕ
  pub bad : List ℕ
  pub joined : bytes ≡ good ++ bad
  pub count : length bad ≡ left
  pub value : X
  pub is : F.Is value
  pub more : List ℕ
  pub wanting : 0 < length more
  pub begun : F.spelled value ≡ good ++ more
  pub here : (b : ℕ) (behind : List ℕ) → bad ≡ b ∷ behind → (x : X) (rest after : List ℕ) → F.Is x → good ++ (b ∷ after) ≡ F.spelled x ++ rest → ⊥

-- What a refused reading tells: how many bytes are left where the value sticks; of `Memory` nothing is said.
abbrev pub Stops : {X : Type 0} → Format X → List ℕ → ReadFault → Type 0
Stops F bytes (Bad left) = Sticks F bytes left
Stops F bytes Memory = Unit {0}

-- a value, and one behind it whose form it may rule
abbrev pub both : {X Y : Type 0} → Format X → (X → Format Y) → Format (X × Y)
both F G = record { Is = λ p. F.Is p.0 × (G p.0).Is p.1; spelled = λ p. F.spelled p.0 ++ (G p.0).spelled p.1 }

-- a value, and one behind it whose form is the same whatever the first one is
abbrev pub pair : {X Y : Type 0} → Format X → Format Y → Format (X × Y)
pair F G = both F (λ x. G)

-- so many values
abbrev pub times : {X : Type 0} → ℕ → Format X → Format (List X)
times n F = record { Is = λ xs. (length xs ≡ n) × All F.Is xs; spelled = flat_map F.spelled }

-- a text of so many bytes
abbrev pub stated : ℕ → (List ℕ → Type 0) → Format (List ℕ)
stated n Form = record { Is = OfLength n Form; spelled = λ text. text }

-- numbers within bounds
abbrev pub one_in : ℕ → ℕ → Format ℕ
one_in low high = record { Is = λ n. (low ≤ n) × (n ≤ high); spelled = λ n. n ∷ [] }

-- a number of two bytes, from the low bound to the high one, both counted in
abbrev pub two_in : ℕ → ℕ → Format ℕ
two_in low high = record { Is = λ n. (low ≤ n) × (n ≤ high); spelled = two }

-- any number of four bytes, the most significant one first
abbrev pub any_four : Format ℕ
any_four = record { Is = IsFour; spelled = four }

-- a number of four bytes, from the low bound to the high one, both counted in
abbrev pub four_in : ℕ → ℕ → Format ℕ
four_in low high = record { Is = λ n. (low ≤ n) × (n ≤ high); spelled = four }

-- texts behind their lengths
abbrev pub text1_of : (List ℕ → Type 0) → Format (List ℕ)
text1_of Form = record { Is = Form; spelled = text1 }

-- a text of this form behind its length in two bytes
abbrev pub text2_of : (List ℕ → Type 0) → Format (List ℕ)
text2_of Form = record { Is = Form; spelled = text2 }

-- a name of this form behind its length in one byte, or `None`, for any, as a length of 0
abbrev pub any_of : (List ℕ → Type 0) → Format (Option (List ℕ))
any_of Form = record { Is = IsAnyOr Form; spelled = any_or }

-- a text that may be empty, behind its length
abbrev pub maybe : (List ℕ → Type 0) → Format (List ℕ)
maybe Form = text1_of (IsMaybe Form)

-- a value that has no bytes: it is always the same
abbrev pub absent : {X : Type 0} → X → Format X
absent value = record { Is = λ x. x ≡ value; spelled = λ x. [] }

-- a value, and zeros behind it up to so many bytes
abbrev pub filled : {X : Type 0} → ℕ → Format X → Format X
filled n F = record { Is = F.Is; spelled = λ x. F.spelled x ++ replicate (n - length (F.spelled x)) 0 }
