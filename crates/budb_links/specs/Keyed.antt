-- Chains by keys: a key with a number has the chain of that number.
use Rattle.std.specs.Prelude.{◌≡◌, ◌≢◌, ◌⊎◌, ℕ, zero, suc, ◌<◌, ◌≤◌, List, [], ◌∷◌, ◌++◌, length, map, Option, Some, None, if◌then◌else◌, Bool}
use Rattle.std.specs.List.{filter, AllByRecursion}
use Rattle.std.specs.Int.{w32, to_be_bytes}
use Rattle.bk_text.specs.Blanks.{is_same_text}
use Rattle.budb_links.specs.declared.keys.Keys.{Keys}
use Rattle.budb_links.specs.Stands.{Stand}
use Rattle.budb_links.specs.Chained.{Woven, stand_at, chain_of}
use Rattle.budb_links.specs.Entries.{Entry}
use Rattle.budb_links.specs.Keys.{Numbering, numbers_in, number_of, Ascending}

-- the chain of a number that may be wanting
abbrev pub chain_at : Woven → ℕ → Option ℕ → List Stand
chain_at arena family None = []
chain_at arena family (Some number) = chain_of arena family number

-- the chain of a key
abbrev pub chain_by : Woven → Numbering → ℕ → List ℕ → List Stand
chain_by arena numbers family key = chain_at arena family (number_of key numbers.used)

-- no number stands twice
abbrev pub Differ : List ℕ → Type 0
Differ [] = Unit {0}
Differ (n ∷ ns) = AllByRecursion (λ other. other ≢ n) ns × Differ ns

-- each key that has a number has a chain that isn't empty, and no other key has that number; the chains of all other
-- numbers are empty
pub record KeepsKeys (family : ℕ) (arena : Woven) (numbers : Numbering) : Type 0 where
  pub ascending : Ascending numbers.used
  pub one : (a b : List ℕ) (n : ℕ) → number_of a numbers.used ≡ Some n → number_of b numbers.used ≡ Some n → a ≡ b
  pub filled : (key : List ℕ) (n : ℕ) → number_of key numbers.used ≡ Some n → chain_of arena family n ≢ []
  pub below : (key : List ℕ) (n : ℕ) → number_of key numbers.used ≡ Some n → n < numbers_in numbers
  pub empty : AllByRecursion (λ n. (n < numbers_in numbers) × (chain_of arena family n ≡ [])) numbers.spare
  pub apart : Differ numbers.spare
  pub beyond : (n : ℕ) → numbers_in numbers ≤ n → chain_of arena family n ≡ []
  pub each : (n : ℕ) → (chain_of arena family n ≡ []) ⊎ ((key : List ℕ) × (number_of key numbers.used ≡ Some n))
  pub heads : numbers_in numbers ≤ length arena.ends

-- the number of a key, which it had or which is a spare one
pub record Entered (key : List ℕ) (number : ℕ) (old new : Numbering) : Type 0 where
  pub absent : number_of key old.used ≡ None
  pub used : (other : List ℕ) → number_of other new.used ≡ (if is_same_text key other then Some number else number_of other old.used)
  pub spare : old.spare ≡ new.spare ++ number ∷ []
  pub count : numbers_in new ≡ numbers_in old
  pub ascending : Ascending new.used

-- A key is given a number: the one it has, with nothing changed, or else the last of the spare ones.
abbrev pub Gives : List ℕ → ℕ → Numbering → Numbering → Type 0
Gives key number old new = ((number_of key old.used ≡ Some number) × (new ≡ old)) ⊎ Entered key number old new

-- ---- the two families

-- names have the one, ids the other
abbrev pub numbering : Keys → ℕ → Numbering
numbering keys zero = keys.names
numbering keys (suc family) = keys.ids

-- the key of a family: in family 0 the name, in any other the id in its four bytes, the highest first
abbrev pub key_in : ℕ → List ℕ → ℕ → List ℕ
key_in zero name id = name
key_in (suc family) name id = to_be_bytes w32 id

-- the members of the chain of a key in a family; empty where the key has no number
abbrev pub chain_in : Keys → ℕ → List ℕ → List Stand
chain_in keys family key = chain_by keys.arena (numbering keys family) family key

-- In both families each key with a number has a chain with members, and every other chain is empty.
abbrev pub KeepsBoth : Keys → Type 0
KeepsBoth keys = KeepsKeys 0 keys.arena keys.names × KeepsKeys 1 keys.arena keys.ids

-- ---- what stands by keys

-- what stands at a place, by a name and by an id
pub record Filed : Type 0 where
  pub place : ℕ
  pub id : ℕ
  pub name : List ℕ
  pub key_id : ℕ

-- its key in a family
abbrev pub key_of : ℕ → Filed → List ℕ
key_of family filed = key_in family filed.name filed.key_id

-- whether what stands at a place has this key, the name in family 0 and the id's bytes in family 1
abbrev pub has_key : ℕ → List ℕ → Filed → Bool
has_key family key filed = is_same_text (key_of family filed) key

-- the member of a chain that it is: its place, and the id of its dump
abbrev pub stand_for : Filed → Stand
stand_for filed = stand_at filed.place filed.id

-- the members that have a key in a family, in the order of the list
abbrev pub stands_by : ℕ → List ℕ → List Filed → List Stand
stands_by family key fs = map stand_for (filter (has_key family key) fs)

-- all of these stand in the chains of their keys, and there is room for as many as there are places
pub record StoresKeys (keys : Keys) (places : ℕ) (fs : List Filed) : Type 0 where
  pub keeps : KeepsBoth keys
  pub chains : (family : ℕ) (key : List ℕ) → family < 2 → chain_in keys family key ≡ stands_by family key fs
  pub rows : places ≤ length keys.arena.rows
  pub room : (family : ℕ) → family < 2 → places ≤ numbers_in (numbering keys family)

-- records stand by the name of their set and by their initial id
abbrev pub filed_record : Entry → Filed
filed_record entry = record { place = entry.place; id = entry.dump.id; name = entry.dump.set; key_id = entry.dump.initial }

-- each record as it stands by the name of its volume set and by its initial id, in the same order
abbrev pub filed_records : List Entry → List Filed
filed_records = map filed_record
