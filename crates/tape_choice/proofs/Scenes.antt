-- The slots of a plant while nothing is done to it.
use Rattle.std.proofs.Common.{◌≡◌, inl, inr, ℕ, ◌<◌, List, [], sym, ◌∙◌, ap, subst, arith}
use Rattle.std.specs.Prelude.{Some, slice_get, Bool}
use Rattle.std.proofs.lemmas.Option.{slice_get_cases}
use Rattle.plant_core.specs.declared.plant.Plant.{Ghosts as Plant}
use Rattle.plant_core.specs.Records.{Record}
use Rattle.plant_effects.specs.Runs.{state_of, Done, StaysQuiet}
use Rattle.tape_text.specs.Items.{Read}
use Rattle.tape_scan.specs.Slots.{Slot}
use Rattle.tape_scan.specs.Looking.{HasSlots}

module _ {D : Type 0} (P : Plant D) where
  -- a slot that is below their number is one of them
  pub slot_at : (slots : List Slot) (plant : D) (k : ℕ) → HasSlots P slots plant → k < (P.view plant).slots → (s : Slot) × (slice_get slots k ≡ Some s)
  slot_at slots plant k has below = elim ((slice_get_cases slots k).1) [
    | inl found ↦ (found.0, found.2)
    | inr past ↦ absurd (omega (arith, past.0, has.count))
  ]

  -- a slot is here or not as it was, and its tape says what it said
  pub here_still : (slots : List Slot) (old new : D) (k : ℕ) (s : Slot) → HasSlots P slots old → StaysQuiet P old new → slice_get slots k ≡ Some s → s.here ≡ (P.view new).present k
  here_still slots old new k s has stays at = (has.each k s at).here ∙ ap (λ (present : ℕ → Bool). present k) (sym stays.stays.present)

  pub read_still : (slots : List Slot) (old new : D) (k : ℕ) (s : Slot) → P.tells → HasSlots P slots old → Done P [] old new → slice_get slots k ≡ Some s → Read ((state_of P new).tape k) s.items
  read_still slots old new k s told has done at = subst (λ (tape : List Record). Read tape s.items) (sym ((done.state told).tape k)) (has.each k s at).items
