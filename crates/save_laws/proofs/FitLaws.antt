-- A tape that fits to save on carries no dump.
use Rattle.std.proofs.Common.{◌≡◌, true, List, [], ◌∷◌, subst}
use Rattle.std.specs.Prelude.{◌&&◌, ◌==◌}
use Rattle.std.proofs.lemmas.Bool.{and_parts, eqb-true}
use Rattle.tape_frames.specs.declared.frame.Frame.TheVariants as frames
use Rattle.tape_text.specs.Items.{Item, Says}
use Rattle.tape_scan.specs.Slots.{Slot}
use Rattle.budb_save.specs.declared.choosing.Wish.TheVariants.{Saving}
use Rattle.budb_save.specs.Choice.{name_fits, tape_fits, slot_fits}
use Rattle.save_laws.specs.Saving.{CarriesNone}

tape_none : (items : List Item) → tape_fits Saving items ≡ true → CarriesNone items
tape_none [] fits a at = absurd (cc)
tape_none (i ∷ is) fits a at =
    let first : i ≡ Says (frames.Label a) = cc in
    let fit : ((a.initial == 0) && name_fits Saving a.afs) ≡ true = subst (λ (x : Item). tape_fits Saving (x ∷ is) ≡ true) first fits in
    eqb-true a.initial 0 (and_parts (a.initial == 0) (name_fits Saving a.afs) fit).0

pub fits_none : (s : Slot) → slot_fits Saving s ≡ true → CarriesNone s.items
fits_none s fits = tape_none s.items (and_parts s.here (tape_fits Saving s.items) fits).1
