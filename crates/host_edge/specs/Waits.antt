-- Bytes that wait to be written to a file.
use Rattle.std.specs.Prelude.{◌≡◌, ◌≢◌, ◌⊎◌, ℕ, ◌+◌, List, [], ◌++◌, length, Option, Some, IfSome, slice_get}
use Rattle.host_edge.specs.declared.waiting.Waiting.{Waiting}

-- some wait for this file
abbrev pub IsFor : ℕ → Waiting → Type 0
IsFor f w = (w.file ≡ f) × (w.bytes.items ≢ [])

-- they may be behind those that wait: nothing waits, or they go on in the same file
abbrev pub GoOn : ℕ → ℕ → Waiting → Type 0
GoOn f at w = (w.bytes.items ≡ []) ⊎ ((w.file ≡ f) × (w.at + length w.bytes.items ≡ at))

-- These bytes of a file wait from now on behind those that did. Where some did, they are of the same file.
pub record HasJoined (f at : ℕ) (bytes : List ℕ) (old new : Waiting) : Type 0 where
  pub of_file : new.file ≡ f
  pub behind : new.at + length old.bytes.items ≡ at
  pub bytes_are : new.bytes.items ≡ old.bytes.items ++ bytes
  pub same_file : old.bytes.items ≢ [] → old.file ≡ f

-- What waited for this file was taken by it, and nothing waits any more.
pub record IsGiven {F : Type 0} (took : F → ℕ → List ℕ → Type 0) (file : Option F) (f : ℕ) (old new : Waiting) : Type 0 where
  pub was_for : IsFor f old
  pub taken : IfSome file (λ it. took it old.at old.bytes.items)
  pub none : new.bytes.items ≡ []

-- Nothing that waited is lost: it waits still, or its file took it.
abbrev pub IsKept : {F : Type 0} → (F → ℕ → List ℕ → Type 0) → Option F → ℕ → Waiting → Waiting → Type 0
IsKept took file f old new = (new ≡ old) ⊎ IsGiven took file f old new

-- nothing waits for the file
abbrev pub NoneFor : ℕ → Waiting → Type 0
NoneFor f w = IsFor f w → ⊥

-- The file took these bytes, and nothing waits for it.
pub record HasPassed {F : Type 0} (took : F → ℕ → List ℕ → Type 0) (file : Option F) (f at : ℕ) (bytes : List ℕ) (old new : Waiting) : Type 0 where
  pub took_them : IfSome file (λ it. took it at bytes)
  pub kept : IsKept took file f old new
  pub none : NoneFor f new

-- The file was told to have the length that stands for it among these.
abbrev pub IsAsLong : {F : Type 0} → (F → ℕ → Type 0) → List ℕ → ℕ → F → Type 0
IsAsLong measured lengths f file = (length : ℕ) × (slice_get lengths f ≡ Some length) × measured file length
