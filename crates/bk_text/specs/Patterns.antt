-- The form of a pattern, and the items that it says.
use Rattle.std.specs.Prelude.{◌≡◌, ◌≢◌, ◌⊎◌, ℕ, ◌<◌, ◌≤◌, List, [], ◌∷◌, ◌++◌, length, All, Bool, true, false}

-- a character, or the characters from one to another
pub data Member : Type 0 where
  One : ℕ → Member
  Range : ℕ → ℕ → Member

-- what one character may be: any, this one, one that some member has, or one that no member has
pub data Choice : Type 0 where
  Any : Choice
  Same : ℕ → Choice
  Among : List Member → Choice
  Outside : List Member → Choice

-- one character of this choice, or where it is starred, any number of them
pub record Item : Type 0 where
  pub choice : Choice
  pub starred : Bool

-- a text of two parts, each of its own form
pub record Joined (Front Rest : List ℕ → Type 0) (text : List ℕ) : Type 0 where
  pub front : List ℕ
  pub rest : List ℕ
  pub are : text ≡ front ++ rest
  pub in_front : Front front
  pub in_rest : Rest rest

-- In a set a character stands for itself, unless it is ']', '\' or '-'; behind a '\' any does.
abbrev pub SpellsInSet : ℕ → List ℕ → Type 0
SpellsInSet c text = ((c ≢ 93) × (c ≢ 92) × (c ≢ 45) × (text ≡ c ∷ [])) ⊎ (text ≡ 92 ∷ c ∷ [])

-- a '-' behind the first end of a range, and then the last one
abbrev pub SpellsLast : ℕ → List ℕ → Type 0
SpellsLast last text = (back : List ℕ) × (text ≡ 45 ∷ back) × SpellsInSet last back

-- a member of a set as it is written: a character, or a range whose first end isn't above its last, with '-' between
abbrev pub SpellsMember : Member → List ℕ → Type 0
SpellsMember (One c) text = SpellsInSet c text
SpellsMember (Range first last) text = (first ≤ last) × Joined (SpellsInSet first) (SpellsLast last) text

-- members one behind another
abbrev pub SpellsMembers : List Member → List ℕ → Type 0
SpellsMembers [] text = text ≡ []
SpellsMembers (m ∷ ms) text = Joined (SpellsMember m) (SpellsMembers ms) text

-- nothing, or a plain '-'
abbrev pub SpellsDash : List Member → List ℕ → Type 0
SpellsDash members text = ((members ≡ []) × (text ≡ [])) ⊎ ((members ≡ One 45 ∷ []) × (text ≡ 45 ∷ []))

-- the inside of a set: at least one member, where a plain '-' stands first or last alone
pub record SpellsInside (members : List Member) (text : List ℕ) : Type 0 where
  pub first : List Member
  pub middle : List Member
  pub last : List Member
  pub first_text : List ℕ
  pub middle_text : List ℕ
  pub last_text : List ℕ
  pub are : members ≡ first ++ (middle ++ last)
  pub joined : text ≡ first_text ++ (middle_text ++ last_text)
  pub dash_first : SpellsDash first first_text
  pub spells : SpellsMembers middle middle_text
  pub dash_last : SpellsDash last last_text
  pub some : 0 < length members

-- a '^' right behind the '[' is no member: it makes the complement
abbrev pub IsNoCaret : List ℕ → Type 0
IsNoCaret text = (rest : List ℕ) → text ≡ 94 ∷ rest → ⊥

-- Outside of a set a character stands for itself, unless it is '.', '*', '[' or '\'; behind a '\' any does.
abbrev pub SpellsOutOfSet : ℕ → List ℕ → Type 0
SpellsOutOfSet c text = ((c ≢ 46) × (c ≢ 42) × (c ≢ 91) × (c ≢ 92) × (text ≡ c ∷ [])) ⊎ (text ≡ 92 ∷ c ∷ [])

-- a choice as it is written: '.' for any, a character, a set in '[' and ']', or its complement in '[^' and ']'
abbrev pub SpellsChoice : Choice → List ℕ → Type 0
SpellsChoice Any text = text ≡ 46 ∷ []
SpellsChoice (Same c) text = SpellsOutOfSet c text
SpellsChoice (Among members) text = (inside : List ℕ) × (text ≡ 91 ∷ (inside ++ 93 ∷ [])) × SpellsInside members inside × IsNoCaret inside
SpellsChoice (Outside members) text = (inside : List ℕ) × (text ≡ 91 ∷ 94 ∷ (inside ++ 93 ∷ [])) × SpellsInside members inside

-- one '*' behind what is starred
abbrev pub star_of : Bool → List ℕ
star_of true = 42 ∷ []
star_of false = []

-- an item as it is written: its choice, and behind it a '*' where it is starred
abbrev pub SpellsItem : Item → List ℕ → Type 0
SpellsItem item text = Joined (SpellsChoice item.choice) (λ rest. rest ≡ star_of item.starred) text

-- items one behind another
abbrev pub SpellsItems : List Item → List ℕ → Type 0
SpellsItems [] text = text ≡ []
SpellsItems (i ∷ is) text = Joined (SpellsItem i) (SpellsItems is) text

-- a byte of a pattern: 33 to 126
abbrev pub IsPatternByte : ℕ → Type 0
IsPatternByte b = (32 < b) × (b < 127)

-- a pattern: 1 to 128 bytes that spell items
pub record IsPattern (text : List ℕ) : Type 0 where
  pub some : 0 < length text
  pub short : length text ≤ 128
  pub each : All IsPatternByte text
  pub items : List Item
  pub spells : SpellsItems items text
