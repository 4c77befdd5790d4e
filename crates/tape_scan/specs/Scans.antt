-- What a scan of one tape finds: the longest front that is a tape text, and the parts that stand in it.
use Rattle.std.specs.Prelude.{◌≡◌, ℕ, ◌+◌, ◌<◌, ◌≤◌, Bool, nat_lt, nat_le, List, [], ◌∷◌, ◌++◌, length, take, sum_by, filter, Contains, ◌⊎◌}
use Rattle.tape_text.specs.Items.{Item}
use Rattle.tape_text.specs.Texts.{Part, Tape, tape_items, IsTape, IsText, part_items}
use Rattle.tape_text.specs.Parts.{FoundPart, part_len, part_marks, parts_of}

-- The front of a tape is as long as a tape text can be: so many items are one, and no more are.
pub record IsFront (items : List Item) (count : ℕ) : Type 0 where
  pub within : count ≤ length items
  pub text : IsText (take count items)
  pub stops : count < length items → IsText (take (count + 1) items) → ⊥

-- A scan of a tape: its front, as the beginning of some whole tape.
pub record Scan (items : List Item) : Type 0 where
  pub count : ℕ
  pub front : IsFront items count

-- a part all of which stands in so many records, and one whose head does
abbrev pub is_closed : ℕ → FoundPart → Bool
is_closed count p = nat_le p.end count

-- a part whose head is one of the first so many records of its tape
abbrev pub is_begun : ℕ → FoundPart → Bool
is_begun count p = nat_lt p.first count

-- The parts of which the head stands in the front; of their records those behind the front are not told. And those that stand
-- in it with their last filemark.
abbrev pub begun : {items : List Item} → Scan items → List FoundPart
begun s = filter (is_begun s.count) (parts_of s.front.text.whole)

-- the parts that stand in the front of a scan up to their last filemark, in order
abbrev pub closed : {items : List Item} → Scan items → List FoundPart
closed s = filter (is_closed s.count) (parts_of s.front.text.whole)

-- ---- a part more

-- a tape with a part behind its last one
abbrev pub with_part : Tape → Part → Tape
with_part t p = record { label = t.label; parts = t.parts ++ p ∷ [] }

-- where that part stands: from behind the tape's items on, behind the filemark of the label and those of all parts
abbrev pub next_found : Tape → Part → FoundPart
next_found t p = record {
  part = p;
  first = length (tape_items t);
  end = length (tape_items t) + part_len p;
  marks = 1 + sum_by part_marks t.parts + part_marks p;
}

-- ---- the same without a scan

-- A closed part of a tape: a front of the tape is a whole tape that has it. A scan finds just these.
pub record IsClosedIn (items : List Item) (p : FoundPart) : Type 0 where
  pub tape : Tape
  pub is : IsTape tape
  pub there : Contains (parts_of tape) p
  pub front : take p.end items ≡ tape_items tape

-- A begun part of a tape: its head stands in a front that is a tape text.
pub record IsBegunIn (items : List Item) (p : FoundPart) : Type 0 where
  pub count : ℕ
  pub within : count ≤ length items
  pub text : IsText (take count items)
  pub there : Contains (parts_of text.whole) p
  pub begun : p.first < count

-- ---- a text as far as it goes

-- a part is opened by these items: they begin it and are not all of it
pub record IsOpened (p : Part) (opened : List Item) : Type 0 where
  pub next : Item
  pub more : List Item
  pub joined : part_items p ≡ opened ++ next ∷ more

-- a whole tape, and behind it nothing, or what opens one more part of it
pub record IsTapeOpened (items : List Item) : Type 0 where
  pub tape : Tape
  pub is : IsTape tape
  pub opened : List Item
  pub items_are : items ≡ tape_items tape ++ opened
  pub part : (opened ≡ []) ⊎ ((p : Part) × IsTape (with_part tape p) × IsOpened p opened)
