-- FRAGMENTS THAT ARE KEPT: what is read of one stays until its turn among the fragments of its volume.
use Rattle.std.specs.Prelude.{◌≡◌, ◌≢◌, ◌⊎◌, ℕ, ◌+◌, Bool, true, Option, Some, None, IsSomeAnd, Result, Err, List, [], ◌∷◌, ◌++◌, length}
use Rattle.crash_moments.specs.Moments.{HasCauseAt}
use Rattle.plant_core.specs.declared.plant.Plant.{Ghosts as Plant}
use Rattle.plant_effects.specs.Runs.{loaded_of, Done, Leaves, SameNumbers, StaysQuiet}
use Rattle.tape_frames.specs.declared.data.DataFields.{DataFields}
use Rattle.budb_changes.specs.declared.records.DumpRecordFields.{DumpRecordFields}
use Rattle.tape_text.specs.Items.{Item}
use Rattle.tape_text.specs.Texts.{Fragment, used_of}
use Rattle.tape_text.specs.Wholes.{Lying}
use Rattle.tape_scan.specs.Slots.{Slot}
use Rattle.archive_model.specs.Holding.{holder_here}
use Rattle.archive_model.specs.Plays.{Piece, pieces_from, StandsAt, IsFirstBad, StandsOn}
use Rattle.restore_chain.specs.declared.play_called.Seen.{Seen}
use Rattle.restore_chain.specs.declared.play_fragment.Step.{Step}
use Rattle.restore_chain.specs.declared.play_fragment.Step.TheVariants as steps
use Rattle.restore_chain.specs.declared.keeping.Kept.{Kept}
use Rattle.restore_chain.specs.declared.keeping.Kept.TheVariants as kept
use Rattle.restore_chain.specs.declared.keeping.Reading.{Reading}
use Rattle.restore_chain.specs.declared.keeping.Reading.TheVariants as readings
use Rattle.restore_chain.specs.Playing.{end_of, HasSeen, StandsBefore}

-- What a function that only reads the loaded tape does to a plant, whatever it answers; one of its errors is a fault of the plant.
pub record OnlyReads {D T E : Type 0} (P : Plant D) (fault : E) (old new : D) (result : Result T E) : Type 0 where
  pub done : result ≢ Err fault → Done P [] old new
  pub leaves : Leaves P [] old new
  pub numbers : result ≢ Err fault → SameNumbers P old new
  pub stays : StaysQuiet P old new
  pub cause : HasCauseAt fault (P.view old).faults (P.view new).faults result
  pub loads : (P.view new).loads ≡ (P.view old).loads

-- ---- one fragment

-- What one more record makes of a fragment: one Data more, the fragment whole, or its first bad record.
abbrev pub KeepsOn : Lying → List Item → ℕ → List DataFields → Seen → List Piece → List Piece → Step → Type 0
KeepsOn c items place ds s old new steps.More =
    (d : DataFields) × StandsBefore c items (place + 1) (ds ++ d ∷ []) × HasSeen c (ds ++ d ∷ []) s × (new ≡ old ++ record { spot = record { tape = c.tape; place = place }; data_frame = d } ∷ [])
KeepsOn c items place ds s old new steps.Whole = StandsAt c items (record { head = c.head; pieces = ds; end = end_of c (used_of ds) }) × (new ≡ old)
KeepsOn c items place ds s old new steps.Bad = IsFirstBad c items place

-- how a fragment was read from these items: it stands, its Data and its end being kept, or its first bad record is
abbrev pub IsReadOf : Lying → List Item → Kept → Type 0
IsReadOf c items kept.Unread = ⊥
IsReadOf c items (kept.Missing tape) = ⊥
IsReadOf c items kept.Held = ⊥
IsReadOf c items (kept.Whole pieces end) =
    (f : Fragment) × StandsAt c items f × (end.tape ≡ c.tape) × (end.place ≡ c.at + length f.pieces + 1) × (pieces ≡ pieces_from c.tape (c.at + 1) f.pieces)
IsReadOf c items (kept.Bad site) = (site.tape ≡ c.tape) × IsFirstBad c items site.place

-- the same from the least slot here that holds its tape
abbrev pub IsRead : List Slot → DumpRecordFields → Lying → Kept → Type 0
IsRead slots d c kept.Unread = ⊥
IsRead slots d c (kept.Missing tape) = ⊥
IsRead slots d c kept.Held = ⊥
IsRead slots d c (kept.Whole pieces end) =
    (f : Fragment) × StandsOn slots d c f × (end.tape ≡ c.tape) × (end.place ≡ c.at + length f.pieces + 1) × (pieces ≡ pieces_from c.tape (c.at + 1) f.pieces)
IsRead slots d c (kept.Bad site) = (site.tape ≡ c.tape) × IsSomeAnd (holder_here d c.tape slots) (λ s. IsFirstBad c s.1.items site.place)

-- What is kept of a fragment so far: nothing, that no slot here holds its tape, that one does, or what was read of it. That one does is
-- all that is kept only where this may be.
abbrev pub IsKept : List Slot → DumpRecordFields → Bool → Lying → Kept → Type 0
IsKept slots d may c kept.Unread = Unit {0}
IsKept slots d may c (kept.Missing tape) = (tape ≡ c.tape) × (holder_here d c.tape slots ≡ None)
IsKept slots d may c kept.Held = (may ≡ true) × (x : ℕ × Slot) × (holder_here d c.tape slots ≡ Some x)
IsKept slots d may c (kept.Whole pieces end) = IsRead slots d c (kept.Whole pieces end)
IsKept slots d may c (kept.Bad site) = IsRead slots d c (kept.Bad site)

-- ---- all fragments of a volume

-- of each fragment of a volume, in order, this is kept so far, and there are as many of both
abbrev pub AllKept : List Slot → DumpRecordFields → Bool → List Lying → List Kept → Type 0
AllKept slots d may [] [] = Unit {0}
AllKept slots d may (c ∷ cs) (k ∷ ks) = IsKept slots d may c k × AllKept slots d may cs ks
AllKept slots d may [] (k ∷ ks) = ⊥
AllKept slots d may (c ∷ cs) [] = ⊥

-- each fragment of a volume, in order, was read from its tape: to its end, or to its first bad place
abbrev pub AllRead : List Slot → DumpRecordFields → List Lying → List Kept → Type 0
AllRead slots d [] [] = Unit {0}
AllRead slots d (c ∷ cs) (k ∷ ks) = IsRead slots d c k × AllRead slots d cs ks
AllRead slots d [] (k ∷ ks) = ⊥
AllRead slots d (c ∷ cs) [] = ⊥

-- nothing was begun, or each fragment is kept so far
abbrev pub IsBegun : List Slot → DumpRecordFields → Bool → List Lying → List Kept → Type 0
IsBegun slots d may cs ks = (ks ≡ []) ⊎ AllKept slots d may cs ks

-- ---- what is done with the fragments of a tape

-- No slot here holds it, or one does, or that one's tape is loaded. That it is held is kept only where this may be.
abbrev pub MayKeep : {D : Type 0} → Plant D → List Slot → DumpRecordFields → Bool → ℕ → D → Reading → Type 0
MayKeep P slots d may tape plant readings.Missing = holder_here d tape slots ≡ None
MayKeep P slots d may tape plant readings.Held = (may ≡ true) × (x : ℕ × Slot) × (holder_here d tape slots ≡ Some x)
MayKeep P slots d may tape plant readings.Loaded = (x : ℕ × Slot) × (holder_here d tape slots ≡ Some x) × (loaded_of P plant ≡ Some x.0)
