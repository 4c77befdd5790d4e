use Rattle.std.proofs.Common.{◌≡◌, ℕ, Bool, false, List, length, sym, ap, ◌∙◌}
use Rattle.std.specs.Prelude.{◌==◌, ◌||◌}
use Rattle.bk_text.specs.Blanks.{is_same_text}
use Rattle.budb_save.specs.Saves.{save_name}
use Rattle.budb_save.specs.declared.choosing.Wish.{Wish}
use Rattle.budb_save.specs.Choice.{name_fits}
use Rattle.budb_save.proofs.choosing.name_fits.Goals as goal

pub returns-else-is_empty : goal.returns-else-is_empty
returns-else-is_empty c =
    let afs = c.args.afs.now in
    let empty : (length afs == 0) ≡ false = sym c.is_empty.ensures ∙ c.if-is_empty.false in
    let named : c.as_slice.result.now ≡ save_name = c.as_slice.ensures in
    c.eq.ensures ∙ ap (λ (l : List ℕ). is_same_text afs l) named ∙ ap (λ (b : Bool). b || is_same_text afs save_name) (sym empty) ∙ ap (λ (w : Wish). name_fits w afs) (sym c.in-Saving.is)

pub returns-in-Reading : goal.returns-in-Reading
returns-in-Reading c =
    let afs = c.args.afs.now in
    let named : c.as_slice-in-Reading.result.now ≡ save_name = c.as_slice-in-Reading.ensures in
    c.eq-in-Reading.ensures ∙ ap (λ (l : List ℕ). is_same_text afs l) named ∙ ap (λ (w : Wish). name_fits w afs) (sym c.in-Reading.is)
