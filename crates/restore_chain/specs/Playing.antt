-- How a fragment is played, record by record.
use Rattle.std.specs.Prelude.{◌≡◌, ◌⊎◌, ℕ, ◌+◌, ◌-◌, ◌^◌, ◌<◌, ◌≤◌, Bool, true, false, if◌then◌else◌, Option, Some, None, IsSomeAnd, Result, Ok, Err, List, [], ◌∷◌, ◌++◌, length, map, take, drop, sum_by, slice_get, All}
use Rattle.std.specs.List.{flat_map}
use Rattle.plant_core.specs.declared.plant.Plant.{Ghosts as Plant}
use Rattle.plant_effects.specs.Runs.{state_of, loaded_of}
use Rattle.dump_stream.specs.Reads.{Begins, IsCut}
use Rattle.dump_stream.specs.Inputs.{HasTaken}
use Rattle.tape_frames.specs.declared.frame.Frame.{Frame}
use Rattle.tape_frames.specs.declared.frame.Frame.TheVariants as frames
use Rattle.tape_frames.specs.declared.data.DataFields.{DataFields}
use Rattle.tape_frames.specs.declared.vol_end.VolEndFields.{VolEndFields}
use Rattle.tape_frames.specs.Frames.{Fits, spelling, IsSpelled}
use Rattle.tape_frames.specs.Layouts.{FitsVolHead, FitsData}
use Rattle.tape_text.specs.Items.{Item, Says, Read}
use Rattle.tape_text.specs.Texts.{Fragment, data_item, room, AreFilled, IsPiece, used_of}
use Rattle.tape_text.specs.Wholes.{Lying}
use Rattle.tape_writer.specs.Filling.{bytes_of}
use Rattle.vnode_model.specs.declared.increments.IncrementFields.{IncrementFields}
use Rattle.vnode_model.specs.declared.volumes.VolumeFields.{VolumeFields}
use Rattle.vnode_model.specs.declared.applying.ApplyFault.{ApplyFault}
use Rattle.vnode_model.specs.declared.applying.ApplyFault.TheVariants as apply_faults
use Rattle.dump_stream.specs.Stream.{Spells}
use Rattle.budb_changes.specs.declared.records.DumpRecordFields.{DumpRecordFields}
use Rattle.tape_scan.specs.Slots.{Slot}
use Rattle.archive_model.specs.Holding.{holder_here}
use Rattle.archive_model.specs.Plays.{Spot, Piece, pieces_from, pieces_of, HasByte, StopsAt, StandsAt, IsFirstBad, StandsOn, AllStand, HasBadFrame, IsLastEnd, Gives}
use Rattle.restore_chain.specs.declared.fault.RestoreFault.{RestoreFault}
use Rattle.restore_chain.specs.declared.fault.RestoreFault.TheVariants as faults
use Rattle.restore_chain.specs.declared.play_called.Called.{Called}
use Rattle.restore_chain.specs.declared.play_called.Seen.{Seen}
use Rattle.restore_chain.specs.declared.play_judge.Judged.{Judged}
use Rattle.restore_chain.specs.declared.play_judge.Judged.TheVariants as judged
use Rattle.restore_chain.specs.declared.play_joined.Site.{Site}
use Rattle.restore_chain.specs.declared.play_joined.Joined.{Joined}
use Rattle.restore_chain.specs.declared.play_fragment.Step.{Step}
use Rattle.restore_chain.specs.declared.play_fragment.Step.TheVariants as steps
use Rattle.restore_chain.specs.declared.play_fragment.Ended.{Ended}
use Rattle.restore_chain.specs.declared.play_fragment.Ended.TheVariants as ended
use Rattle.restore_chain.specs.declared.play_volume.Turn.{Turn}
use Rattle.restore_chain.specs.declared.play_volume.Turn.TheVariants as turns
use Rattle.restore_chain.specs.declared.play_volume.Given.{Given}
use Rattle.restore_chain.specs.declared.play_volume.Given.TheVariants as given
use Rattle.restore_chain.specs.declared.chain_plan.TapeNeed.{TapeNeed}

-- ---- one record

-- the frame whose block these bytes are; none where they are no frame's
abbrev pub IsFrameOf : List ℕ → Option Frame → Type 0
IsFrameOf bytes (Some f) = Fits f × (bytes ≡ spelling f)
IsFrameOf bytes None = IsSpelled bytes → ⊥

-- what a record of a tape is as a frame: none where it isn't there, or is no frame's
abbrev pub IsSaidAt : List Item → ℕ → Option Frame → Type 0
IsSaidAt items place (Some f) = slice_get items place ≡ Some (Says f)
IsSaidAt items place None = (f : Frame) → slice_get items place ≡ Some (Says f) → ⊥

-- these are the items of the loaded tape
pub record ReadsLoaded {D : Type 0} (P : Plant D) (items : List Item) (plant : D) : Type 0 where
  pub slot : ℕ
  pub loaded : loaded_of P plant ≡ Some slot
  pub read : Read ((state_of P plant).tape slot) items

-- ---- the frames of a fragment that is called for

-- a fragment that is called for: its tape, its place, its head, and whether its volume ends with it
abbrev pub lying_of : Called → Lying
lying_of c = record { tape = c.tape; at = c.at; head = c.head; last = if c.ends then 1 else 0 }

-- what every fragment that is called for has
pub record IsFitCall (c : Lying) : Type 0 where
  pub head : FitsVolHead c.head
  pub last : c.last ≤ 1

-- the end that behind so many bytes is called for
abbrev pub end_of : Lying → ℕ → VolEndFields
end_of c sum = record { dump = c.head.dump; index = c.head.index; fragment = c.head.fragment; last = c.last; bytes = sum }

-- The next Data of a fragment: all before it had all the room used, it has too unless the volume ends with the fragment, and the
-- sum of bytes stays in four bytes.
pub record TakesPiece (c : Lying) (s : Seen) (d : DataFields) : Type 0 where
  pub is : IsPiece c.head.dump c.head.index d
  pub open_still : s.is_open ≡ true
  pub filled : (d.used ≡ room) ⊎ (c.last ≡ 1)
  pub small : s.sum + d.used ≤ 4294967295

-- how the record behind those seen so far is judged
abbrev pub Judges : Lying → Seen → Option Frame → Judged → Type 0
Judges c s found (judged.Piece d) = (found ≡ Some (frames.Data d)) × TakesPiece c s d
Judges c s found judged.End = (found ≡ Some (frames.VolEnd (end_of c s.sum))) × (s.some ≡ true)
Judges c s found judged.Bad = ((d : DataFields) → found ≡ Some (frames.Data d) → TakesPiece c s d → ⊥) × (found ≡ Some (frames.VolEnd (end_of c s.sum)) → s.some ≡ true → ⊥)

-- the Data so far of a fragment: where the last one has room left, no more may follow
abbrev pub AreOpen : ℕ → Bool → List DataFields → Type 0
AreOpen last true pieces = All (λ d. d.used ≡ room) pieces
AreOpen last false pieces = AreFilled last pieces × ((d : DataFields) (ds : List DataFields) → AreFilled last (pieces ++ d ∷ ds) → ⊥)

-- what was seen of a fragment: its Data so far
pub record HasSeen (c : Lying) (pieces : List DataFields) (s : Seen) : Type 0 where
  pub each : All (IsPiece c.head.dump c.head.index) pieces
  pub fit : All FitsData pieces
  pub sum : s.sum ≡ used_of pieces
  pub some : s.some ≡ true → 0 < length pieces
  pub none : s.some ≡ false → pieces ≡ []
  pub small : s.sum ≤ 4294967295
  pub filled : AreOpen c.last s.is_open pieces

-- The head and these Data stand in front of a record.
pub record StandsBefore (c : Lying) (items : List Item) (place : ℕ) (pieces : List DataFields) : Type 0 where
  pub place_is : place ≡ c.at + 1 + length pieces
  pub there : take (1 + length pieces) (drop c.at items) ≡ Says (frames.VolHead c.head) ∷ map data_item pieces

-- ---- the joined data of a volume's fragments

-- the bytes that these pieces have, one piece after the other
abbrev pub joined_bytes : List Piece → List ℕ
joined_bytes pieces = flat_map (λ p. bytes_of p.data_frame) pieces

-- how many bytes they have together
abbrev pub joined_used : List Piece → ℕ
joined_used pieces = sum_by (λ p. p.data_frame.used) pieces

-- a record of a tape, by the tape's number and the record's place
abbrev pub spot_of : Site → Spot
spot_of s = record { tape = s.tape; place = s.place }

-- The Data so far: what they have begins a stream, or the one is noted that has the first byte which no stream has there.
abbrev pub HasNoted : List Piece → Joined → Option Site → Type 0
HasNoted pieces j None = HasTaken (joined_bytes pieces) j.input × Begins (joined_bytes pieces)
HasNoted pieces j (Some site) = (at : ℕ) × StopsAt (joined_bytes pieces) at × HasByte pieces at (spot_of site)

-- Pieces were joined: each Data fits, and the first byte that no stream has there is noted, where there is one.
pub record HasJoined (pieces : List Piece) (j : Joined) : Type 0 where
  pub fit : All (λ p. FitsData p.data_frame) pieces
  pub noted : HasNoted pieces j j.noted

-- these Data were joined to those before, where all have at most 2^63 bytes
abbrev pub Joins : List Piece → Joined → Joined → Type 0
Joins more old new = (before : List Piece) → joined_used (before ++ more) ≤ 2 ^ 63 → HasJoined before old → HasJoined (before ++ more) new

-- ---- a record behind those seen, and a whole fragment

-- What one more record makes of a fragment: one Data more, the fragment whole, or its first bad record.
abbrev pub Steps : Lying → List Item → ℕ → List DataFields → Seen → Joined → Joined → Step → Type 0
Steps c items place pieces s old new steps.More =
    (d : DataFields) × StandsBefore c items (place + 1) (pieces ++ d ∷ []) × HasSeen c (pieces ++ d ∷ []) s × Joins (record { spot = record { tape = c.tape; place = place }; data_frame = d } ∷ []) old new
Steps c items place pieces s old new steps.Whole =
    StandsAt c items (record { head = c.head; pieces = pieces; end = end_of c (used_of pieces) }) × (new ≡ old)
Steps c items place pieces s old new steps.Bad = IsFirstBad c items place

-- A fragment stands, its end is this record, and its Data were joined; or this is its first bad record.
abbrev pub EndsSo : Lying → List Item → Joined → Joined → Ended → Type 0
EndsSo c items old new (ended.Whole place) =
    (f : Fragment) × StandsAt c items f × (place ≡ c.at + length f.pieces + 1) × Joins (pieces_from c.tape (c.at + 1) f.pieces) old new
EndsSo c items old new (ended.Bad place) = IsFirstBad c items place

-- ---- a volume's fragments

-- what data joined from these pieces gives, of which the last fragment's end is this
abbrev pub Finishes : List Piece → Site → Result IncrementFields Site → Type 0
Finishes pieces end (Ok i) = Spells (joined_bytes pieces) i
Finishes pieces end (Err site) = ((at : ℕ) × StopsAt (joined_bytes pieces) at × HasByte pieces at (spot_of site)) ⊎ (IsCut (joined_bytes pieces) × (site ≡ end))

-- each tape that is called for has a need, whose slot is the least one here that holds it
abbrev pub AreHeld : List Slot → DumpRecordFields → List Lying → List TapeNeed → Type 0
AreHeld slots d cs needs =
    (k : ℕ) (c : Lying) → slice_get cs k ≡ Some c → (n : TapeNeed) × (slice_get needs k ≡ Some n) × (s : Slot) × (holder_here d c.tape slots ≡ Some (n.slot, s))

-- how one fragment is played from the slot that holds its tape
abbrev pub Turns : List Slot → DumpRecordFields → Lying → Joined → Joined → Turn → Type 0
Turns slots d c old new (turns.Whole site) =
    (f : Fragment) × StandsOn slots d c f × (site.tape ≡ c.tape) × (site.place ≡ c.at + length f.pieces + 1) × Joins (pieces_from c.tape (c.at + 1) f.pieces) old new
Turns slots d c old new (turns.Bad site) = (site.tape ≡ c.tape) × IsSomeAnd (holder_here d c.tape slots) (λ s. IsFirstBad c s.1.items site.place)

-- fragments that stand, whose Data were joined, and the last one's end
pub record HaveStood (slots : List Slot) (d : DumpRecordFields) (cs : List Lying) (last : Site) (old new : Joined) : Type 0 where
  pub fragments : List Fragment
  pub stand : AllStand slots d cs fragments
  pub joins : Joins (pieces_of cs fragments) old new
  pub end : 0 < length cs → IsLastEnd cs fragments (spot_of last)

-- how all fragments are played
abbrev pub TurnsAll : List Slot → DumpRecordFields → List Lying → Joined → Joined → Turn → Type 0
TurnsAll slots d cs old new (turns.Whole last) = HaveStood slots d cs last old new
TurnsAll slots d cs old new (turns.Bad site) = HasBadFrame slots d cs (spot_of site)

-- what a volume's fragments in a dump give
abbrev pub GivesSo : List Slot → DumpRecordFields → List Lying → Given → Type 0
GivesSo slots d cs (given.Stream i) = Gives slots d cs (Ok i)
GivesSo slots d cs (given.Bad site) = Gives slots d cs (Err (spot_of site))

-- ---- a chain

-- what a restore answers where a base and an increment make this
abbrev pub Makes : Result VolumeFields ApplyFault → Result VolumeFields RestoreFault → Type 0
Makes defined (Ok volume) = defined ≡ Ok volume
Makes defined (Err faults.NoDump) = ⊥
Makes defined (Err (faults.MissingDump id)) = ⊥
Makes defined (Err (faults.MissingTape name initial)) = ⊥
Makes defined (Err (faults.BaseLacks number)) = (uniq : ℕ) × (defined ≡ Err (apply_faults.BaseLacks number uniq))
Makes defined (Err (faults.BadOnTape tape place)) = ⊥
Makes defined (Err faults.TooLarge) = defined ≡ Err apply_faults.TooLarge
Makes defined (Err faults.Failed) = ⊥
Makes defined (Err faults.Memory) = Unit {0}
