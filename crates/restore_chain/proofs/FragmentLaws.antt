-- How far a fragment was played.
use Rattle.std.proofs.Common.{ℕ, ◌+◌, List, [], ◌∷◌, ◌++◌, sym, ◌∙◌, subst, arith}
use Rattle.plant_core.specs.declared.plant.Plant.{Ghosts as Plant}
use Rattle.plant_core.specs.Records.{Record}
use Rattle.plant_effects.specs.Runs.{Done, SameNumbers}
use Rattle.tape_frames.specs.declared.data.DataFields.{DataFields}
use Rattle.tape_text.specs.Items.{Item, Read}
use Rattle.tape_text.specs.Wholes.{Lying}
use Rattle.archive_model.specs.Plays.{Piece, pieces_from}
use Rattle.restore_chain.specs.declared.play_called.Seen.{Seen}
use Rattle.restore_chain.specs.declared.play_joined.Joined.{Joined}
use Rattle.restore_chain.specs.Playing.{ReadsLoaded, StandsBefore, HasSeen, Joins}
use Rattle.restore_chain.proofs.JoinLaws.{joins_both, pieces_more}

-- what only reads leaves the loaded tape's items
pub reads_stay : {D : Type 0} (P : Plant D) (items : List Item) (old new : D) → P.tells → Done P [] old new → SameNumbers P old new → ReadsLoaded P items old → ReadsLoaded P items new
reads_stay P items old new told done numbers reads = record {
  slot = reads.slot;
  loaded = numbers.tape.loaded ∙ reads.loaded;
  read = subst (λ (t : List Record). Read t items) (sym ((done.state told).tape reads.slot)) reads.read;
}

-- the Data in front of a record, and what they made of the joined data
pub record GoesTo (c : Lying) (items : List Item) (place : ℕ) (s : Seen) (old new : Joined) : Type 0 where
  pub pieces : List DataFields
  pub stands : StandsBefore c items place pieces
  pub seen : HasSeen c pieces s
  pub joins : Joins (pieces_from c.tape (c.at + 1) pieces) old new

-- one Data more
pub goes_more : (c : Lying) (items : List Item) (place : ℕ) (ds : List DataFields) (d : DataFields) (s : Seen) (old mid new : Joined)
    → StandsBefore c items place ds → StandsBefore c items (place + 1) (ds ++ d ∷ []) → HasSeen c (ds ++ d ∷ []) s → Joins (pieces_from c.tape (c.at + 1) ds) old mid
    → Joins (record { spot = record { tape = c.tape; place = place }; data_frame = d } ∷ []) mid new → GoesTo c items (place + 1) s old new
goes_more c items place ds d s old mid new was stands seen before more = record {
  pieces = ds ++ d ∷ [];
  stands = stands;
  seen = seen;
  joins = subst (λ (l : List Piece). Joins l old new) (sym (pieces_more c.tape (c.at + 1) ds d place (omega (arith, was.place_is))))
      (joins_both (pieces_from c.tape (c.at + 1) ds) (record { spot = record { tape = c.tape; place = place }; data_frame = d } ∷ []) old mid new before more);
}
