-- Tape texts: a label and a filemark, and then parts of dumps. They are stated whole; a tape may end after any record of one.
use Rattle.std.specs.Prelude.{◌≡◌, ◌≢◌, ◌⊎◌, ℕ, ◌+◌, ◌<◌, Bool, false, ◌&&◌, ◌==◌, if◌then◌else◌, List, [], ◌∷◌, ◌++◌, map, sum_by, All, Contains}
use Rattle.std.specs.List.{flat_map}
use Rattle.std.specs.declared.cmp.Ordering.TheVariants.{Less}
use Rattle.std.specs.Ordering.{nat_cmp}
use Rattle.std.specs.Cmp.Lexicographic.{slice_cmp}
use Rattle.tape_frames.specs.declared.frame.Frame.TheVariants as frames
use Rattle.tape_frames.specs.declared.label.LabelFields.{LabelFields}
use Rattle.tape_frames.specs.declared.dump_head.DumpHeadFields.{DumpHeadFields}
use Rattle.tape_frames.specs.declared.vol_head.VolHeadFields.{VolHeadFields}
use Rattle.tape_frames.specs.declared.data.DataFields.{DataFields}
use Rattle.tape_frames.specs.declared.vol_end.VolEndFields.{VolEndFields}
use Rattle.tape_frames.specs.declared.dump_end.DumpEndFields.{DumpEndFields}
use Rattle.tape_frames.specs.TapeNames.{numbered}
use Rattle.tape_text.specs.Items.{Item, Says, Filemark, IsFitItem}

-- ---- the pieces of a tape

-- A fragment: a volume's data as far as they stand on one tape.
pub record Fragment : Type 0 where
  pub head : VolHeadFields
  pub pieces : List DataFields
  pub end : VolEndFields

-- A part: what one tape has of a dump.
pub record Part : Type 0 where
  pub head : DumpHeadFields
  pub fragments : List Fragment
  pub end : DumpEndFields

-- A tape: its label, and the parts of dumps behind it in the order in which they stand.
pub record Tape : Type 0 where
  pub label : LabelFields
  pub parts : List Part

-- ---- their items, in order

-- the item of a Data frame, one piece of a volume's stream
abbrev pub data_item : DataFields → Item
data_item d = Says (frames.Data d)

-- a fragment's frames; a filemark follows them
abbrev pub fragment_frames : Fragment → List Item
fragment_frames f = Says (frames.VolHead f.head) ∷ map data_item f.pieces ++ Says (frames.VolEnd f.end) ∷ []

-- a fragment's frames, and the filemark behind them
abbrev pub fragment_items : Fragment → List Item
fragment_items f = fragment_frames f ++ Filemark ∷ []

-- a part's items: its head, its fragments with a filemark behind each, its end, and a filemark
abbrev pub part_items : Part → List Item
part_items p = Says (frames.DumpHead p.head) ∷ flat_map fragment_items p.fragments ++ Says (frames.DumpEnd p.end) ∷ Filemark ∷ []

-- all items of a tape from record 0 on: its label, a filemark, and its parts one behind another
abbrev pub tape_items : Tape → List Item
tape_items t = Says (frames.Label t.label) ∷ Filemark ∷ flat_map part_items t.parts

-- ---- fragments

-- the bytes of a Data frame that are used at most
abbrev pub room : ℕ
room = 16352

-- One or more Data frames. Each has all the room used, but for the last one of a fragment that ends its volume.
abbrev pub AreFilled : ℕ → List DataFields → Type 0
AreFilled last [] = ⊥
AreFilled last (d ∷ []) = (d.used ≡ room) ⊎ (last ≡ 1)
AreFilled last (d ∷ e ∷ ds) = (d.used ≡ room) × AreFilled last (e ∷ ds)

-- a Data frame of this dump and this volume
abbrev pub IsPiece : ℕ → ℕ → DataFields → Type 0
IsPiece dump index d = (d.dump ≡ dump) × (d.index ≡ index)

-- the sum of the bytes of a volume's stream that Data frames carry; zeros behind the used bytes aren't counted
abbrev pub used_of : List DataFields → ℕ
used_of pieces = sum_by (λ d. d.used) pieces

-- The frames of a fragment agree with its head, and its end counts its bytes. The end's number of bytes has four bytes, so a sum
-- above 4,294,967,295 is that of no fragment.
pub record IsFragment (f : Fragment) : Type 0 where
  pub pieces : All (IsPiece f.head.dump f.head.index) f.pieces
  pub filled : AreFilled f.end.last f.pieces
  pub dump : f.end.dump ≡ f.head.dump
  pub index : f.end.index ≡ f.head.index
  pub fragment : f.end.fragment ≡ f.head.fragment
  pub bytes : f.end.bytes ≡ used_of f.pieces

-- ---- neighbours

-- each one and the next are so
abbrev pub Linked : {X : Type 0} → (X → X → Type 0) → List X → Type 0
Linked Next [] = Unit {0}
Linked Next (x ∷ []) = Unit {0}
Linked Next (x ∷ y ∷ ys) = Next x y × Linked Next (y ∷ ys)

-- one name stands before another in byte order
abbrev pub IsBefore : List ℕ → List ℕ → Type 0
IsBefore a b = slice_cmp nat_cmp a b ≡ Less

-- behind a volume's end comes the next volume, whose name is greater
abbrev pub NextVolume : VolHeadFields → VolHeadFields → Type 0
NextVolume a b = (b.index ≡ a.index + 1) × (b.fragment ≡ 1) × IsBefore a.name b.name

-- in a part a fragment is followed by another where it ends its volume
abbrev pub NextFragment : Fragment → Fragment → Type 0
NextFragment f g = (f.end.last ≡ 1) × NextVolume f.head g.head

-- ---- parts

-- whether the last of these fragments ends the last of so many volumes
abbrev pub ends_dump : ℕ → List Fragment → Bool
ends_dump volumes [] = false
ends_dump volumes (f ∷ []) = (f.end.last == 1) && (f.head.index + 1 == volumes)
ends_dump volumes (f ∷ g ∷ fs) = ends_dump volumes (g ∷ fs)

-- the first of these fragments is so; there is one
abbrev pub Begins : (Fragment → Type 0) → List Fragment → Type 0
Begins Is [] = ⊥
Begins Is (f ∷ fs) = Is f

-- a fragment of this dump, of one of so many volumes
abbrev pub IsOf : ℕ → ℕ → Fragment → Type 0
IsOf dump volumes f = (f.head.dump ≡ dump) × (f.head.index < volumes) × IsFragment f

-- a head of version 2, which tells how often its tape was used
abbrev pub TellsUses : Part → Type 0
TellsUses p = p.head.uses ≢ 0

-- A part on a tape of this label. The first part of a dump begins with its first volume; a later one goes on anywhere. A head of
-- version 2 has the label's permanent name.
pub record IsPart (label : LabelFields) (p : Part) : Type 0 where
  pub initial : p.head.initial ≡ label.initial
  pub tape : p.head.tape ≡ label.tape
  pub name : label.afs ≡ numbered p.head.base p.head.tape
  pub permanent : TellsUses p → p.head.permanent ≡ label.permanent
  pub begins : Begins (λ f. p.head.part ≡ 1 → (f.head.index ≡ 0) × (f.head.fragment ≡ 1)) p.fragments
  pub each : All (IsOf p.head.id p.head.volumes) p.fragments
  pub linked : Linked NextFragment p.fragments
  pub dump : p.end.dump ≡ p.head.id
  pub more : p.end.more ≡ (if ends_dump p.head.volumes p.fragments then 0 else 1)

-- Behind a part that ends its dump comes the first part of a dump with a greater id.
abbrev pub NextPart : Part → Part → Type 0
NextPart p q = (p.end.more ≡ 0) × (p.head.id < q.head.id) × (q.head.part ≡ 1)

-- heads of version 2 agree in uses
abbrev pub AgreeInUses : List Part → Type 0
AgreeInUses ps = (p q : Part) → Contains ps p → Contains ps q → TellsUses p → TellsUses q → p.head.uses ≡ q.head.uses

-- ---- tape texts

-- All of a tape, with its last part closed. A label without an initial dump has no parts.
pub record IsTape (t : Tape) : Type 0 where
  pub fit : All IsFitItem (tape_items t)
  pub none : t.label.initial ≡ 0 → t.parts ≡ []
  pub each : All (IsPart t.label) t.parts
  pub linked : Linked NextPart t.parts
  pub uses : AgreeInUses t.parts

-- these items begin a tape
pub record IsText (items : List Item) : Type 0 where
  pub whole : Tape
  pub more : List Item
  pub is : IsTape whole
  pub joined : tape_items whole ≡ items ++ more
