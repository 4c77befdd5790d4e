-- What a dump has put on its tapes between two of its steps, as parts of tape texts.
use Rattle.std.specs.Prelude.{◌≡◌, ℕ, ◌+◌, Option, List, [], ◌∷◌, ◌++◌, map}
use Rattle.std.specs.List.{flat_map}
use Rattle.tape_frames.specs.declared.frame.Frame.TheVariants as frames
use Rattle.tape_frames.specs.declared.dump_head.DumpHeadFields.{DumpHeadFields}
use Rattle.tape_frames.specs.declared.vol_head.VolHeadFields.{VolHeadFields}
use Rattle.tape_frames.specs.declared.data.DataFields.{DataFields}
use Rattle.cell_core.specs.declared.stored.Taken.{Taken}
use Rattle.budb_changes.specs.declared.records.Frag.{Frag}
use Rattle.budb_changes.specs.declared.records.VolRecordFields.{VolRecordFields}
use Rattle.budb_changes.specs.declared.records.DumpRecordFields.{DumpRecordFields}
use Rattle.tape_text.specs.Items.{Item, Says}
use Rattle.tape_text.specs.Texts.{Fragment, Part, Tape, data_item, fragment_items, tape_items, NextVolume}
use Rattle.tape_text.specs.Parts.{fragments_at}
use Rattle.tape_text.specs.Wholes.{Ends, Lying, lying_as, lying_in}
use Rattle.tape_scan.specs.Slots.{Located}
use Rattle.archive_model.specs.Holding.{placed_from, called_of}
use Rattle.dump_laws.specs.Neighbours.{GoesTo, LastIs}

-- The parts that are ended, each on its slot; what stands in front of the part in hand on its tape; the fragments of that part that
-- are ended, and the pieces of the one that is open; and a clone for each volume, that of the volume in hand as the last.
pub record Made : Type 0 where
  pub ended : List Located
  pub front : Tape
  pub fragments : List Fragment
  pub pieces : List DataFields
  pub clones : List Taken

-- What a dump is throughout: its id, its parent's id and record, and how many volumes it has.
pub record Basis : Type 0 where
  pub id : ℕ
  pub above : ℕ
  pub parent : Option DumpRecordFields
  pub count : ℕ

-- ---- the text

-- the part that lies there
abbrev pub part_at : Located → Part
part_at l = l.found.part

-- a fragment that isn't ended: its head and its pieces
abbrev pub opening_items : VolHeadFields → List DataFields → List Item
opening_items h pieces = Says (frames.VolHead h) ∷ map data_item pieces

-- the part in hand, with its ended fragments and what stands behind them
abbrev pub part_begun : DumpHeadFields → List Fragment → List Item → List Item
part_begun h fragments opened = Says (frames.DumpHead h) ∷ flat_map fragment_items fragments ++ opened

-- the tape in hand
abbrev pub items_begun : DumpHeadFields → Made → List Item → List Item
items_begun h m opened = tape_items m.front ++ part_begun h m.fragments opened

-- all fragments that are ended, tape by tape
abbrev pub all_fragments : Made → List Fragment
all_fragments m = flat_map (λ l. l.found.part.fragments) m.ended ++ m.fragments

-- ---- neighbours

-- With this head a part may begin behind the parts that are ended: the first volume's first fragment, or what goes on behind the last one.
abbrev pub MayBegin : List Located → VolHeadFields → Type 0
MayBegin [] h = (h.index ≡ 0) × (h.fragment ≡ 1)
MayBegin (l ∷ ls) h = LastIs (λ p. Ends (λ f. GoesTo f h) p.found.part.fragments) (l ∷ ls)

-- The next fragment of the part in hand may have this head.
abbrev pub MayCome : List Located → List Fragment → VolHeadFields → Type 0
MayCome ended [] h = MayBegin ended h
MayCome ended (f ∷ fs) h = Ends (λ g. (g.end.last ≡ 1) × NextVolume g.head h) (f ∷ fs)

-- ---- the places of fragments

-- where all of them lie
abbrev pub all_lying : ℕ → ℕ → Made → List Lying
all_lying tape first m = flat_map (λ l. lying_in l.found) m.ended ++ map (lying_as tape) (fragments_at (first + 1) m.fragments)

-- the fragments of a volume that goes on: none of them ends it
abbrev pub going_on : VolHeadFields → ℕ → List Frag → List Lying
going_on h fragment [] = []
going_on h fragment (f ∷ fs) = record { tape = f.tape; at = f.at; head = record h { fragment = fragment }; last = 0 } ∷ going_on h (fragment + 1) fs

-- the fragments of volumes that are done
abbrev pub done_lying : ℕ → List VolRecordFields → List Lying
done_lying id volumes = flat_map (called_of id) (placed_from 0 volumes)
