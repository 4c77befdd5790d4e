-- Where a text stops being of a form.
use Rattle.std.specs.Prelude.{◌≡◌, ℕ, ◌+◌, ◌<◌, ◌≤◌, List, ◌++◌, length, take}

-- some text of the form begins with these bytes
abbrev pub Begun : (List ℕ → Type 0) → List ℕ → Type 0
Begun Form front = (rest : List ℕ) × Form (front ++ rest)

-- A text that isn't of the form fails at the least number such that no text of the form begins with one byte more
-- than so many; where all of it begins a text of the form, at its length.
pub record FailsAt (Form : List ℕ → Type 0) (text : List ℕ) (at : ℕ) : Type 0 where
  pub within : at ≤ length text
  pub before : Begun Form (take at text)
  pub here : at < length text → Begun Form (take (at + 1) text) → ⊥
  pub not_whole : Form text → ⊥

-- a text of the form that has so many bytes, as where its length was stated before it
abbrev pub OfLength : ℕ → (List ℕ → Type 0) → List ℕ → Type 0
OfLength count Form text = Form text × (length text ≡ count)
