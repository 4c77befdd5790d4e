-- The id of a target, by what is seen of a cell, and how a restored volume is put.
use Rattle.std.proofs.Common.{◌≡◌, ℕ, Bool, true, false, List, [], ◌∷◌, refl, sym, ◌∙◌, ap, subst}
use Rattle.std.specs.Prelude.{Option, Some, None, is_none, Result, Ok, Err, map, find, max, nat_le, nat_lt, if◌then◌else◌, ◌^◌}
use Rattle.std.specs.List.{fold}
use Rattle.std.specs.Ordering.{is_eq}
use Rattle.std.proofs.lemmas.List.{length-map}
use Rattle.bk_text.specs.Tests.{name_test}
use Rattle.vnode_model.specs.declared.volumes.VolumeFields.{VolumeFields}
use Rattle.cell_core.specs.declared.fault.CellFault.{CellFault}
use Rattle.cell_core.specs.declared.fault.CellFault.TheVariants.{Failed, NoVolume, VolumeExists, NoVnode, TooLarge, BadImage, Memory}
use Rattle.cell_core.specs.declared.stored.Stored.{Stored}
use Rattle.cell_core.specs.declared.stored.Image.{Image}
use Rattle.cell_core.specs.declared.stored.Image.TheVariants.{Good, Bad}
use Rattle.cell_core.specs.Listings.{name_order, id_of, id_after, new_id}
use Rattle.cell_core.specs.Cells.{with_stored, stored_as, standing_of, id_for_new}
use Rattle.cell_core.specs.Calls.{stored_volume, put_where, after_put}
use Rattle.cell_core.specs.Answers.{Changes}
use Rattle.restore_target.specs.declared.looking.Seen.{Seen}
use Rattle.restore_target.specs.Seen.{seen_of, standing_seen, is_named, standing_in}
use Rattle.restore_target.specs.Targets.{standing_there, id_over, target_id, restored_as, put_with, after_restore}
use Rattle.restore_target.specs.Answers.{Tells}

module _ (name : List ℕ) where
  found_is : (cell : List Stored) → standing_in (find (is_named name) (map seen_of cell)) ≡ standing_there (stored_as name cell)
  found_is [] = refl
  found_is (s ∷ cell) = go (is_eq (name_order s.name name)) (found_is cell)
    where
      go : (b : Bool) → standing_in (find (is_named name) (map seen_of cell)) ≡ standing_there (stored_as name cell)
          → standing_in (if b then Some (seen_of s) else find (is_named name) (map seen_of cell)) ≡ standing_there (if b then Some s else stored_as name cell)
      go true rest = refl
      go false rest = rest

ids_are : (cell : List Stored) → map (λ (a : Seen). id_of (standing_seen a)) (map seen_of cell) ≡ map (λ (a : Stored). id_of (standing_of a)) cell
ids_are [] = refl
ids_are (s ∷ cell) = ap (λ (ids : List ℕ). id_of (standing_of s) ∷ ids) (ids_are cell)

new_by : ℕ → ℕ → Option ℕ
new_by count greatest = if nat_le 65536 count then None else (if nat_lt (id_after greatest) (2 ^ 32) then Some (id_after greatest) else None)

new_is : (cell : List Stored) → new_id standing_seen (map seen_of cell) ≡ id_for_new cell
unfolding new_by
new_is cell = (λ i. new_by (length-map cell seen_of i) (fold max 0 (ids_are cell i)))

pub target_is : (cell : List Stored) (name : List ℕ) (seen : List Seen) → seen ≡ map seen_of cell → name_test name ≡ true
    → id_over (standing_in (find (is_named name) seen)) (new_id standing_seen seen) ≡ target_id cell name
target_is cell name seen is named =
    ap (λ (l : List Seen). id_over (standing_in (find (is_named name) l)) (new_id standing_seen l)) is
    ∙ (λ i. id_over (found_is name cell i) (new_is cell i))
    ∙ sym (ap (λ (b : Bool). if b then id_over (standing_there (stored_as name cell)) (id_for_new cell) else Err TooLarge) named)

pub told_is : (due : Result ℕ CellFault) (old new : List Stored) → new ≡ old → Tells due old due new
told_is (Ok id) old new same = refl
told_is (Err Failed) old new same = (tt, same)
told_is (Err Memory) old new same = same
told_is (Err NoVolume) old new same = (refl, same)
told_is (Err VolumeExists) old new same = (refl, same)
told_is (Err NoVnode) old new same = (refl, same)
told_is (Err TooLarge) old new same = (refl, same)
told_is (Err (BadImage at)) old new same = (refl, same)

-- ---- putting

module _ (cell : List Stored) (server partition name : List ℕ) (now : ℕ) (volume : VolumeFields) where
  abbrev pub due_for : Result ℕ CellFault → Result (List Stored) CellFault
  due_for id = put_with cell server partition name now volume id

  -- refused, or given up
  pub refused_is : (due : Result ℕ CellFault) (fault : CellFault) (new : List Stored) → Tells due cell (Err fault) new → Changes (due_for due) cell (Err fault) new
  refused_is due Failed new told = told
  refused_is due Memory new told = told
  refused_is due NoVolume new told = (ap (put_with cell server partition name now volume) told.0, told.1)
  refused_is due VolumeExists new told = (ap (put_with cell server partition name now volume) told.0, told.1)
  refused_is due NoVnode new told = (ap (put_with cell server partition name now volume) told.0, told.1)
  refused_is due TooLarge new told = (ap (put_with cell server partition name now volume) told.0, told.1)
  refused_is due (BadImage at) new told = (ap (put_with cell server partition name now volume) told.0, told.1)

  -- what has the name lets it be put
  put_is : (id : ℕ) (o : Option Stored) (new : Option ℕ) → id_over (standing_there o) new ≡ Ok id → new ≡ id_for_new cell
      → put_where o cell (stored_volume server partition (restored_as name id now volume)) ≡ Ok (with_stored (stored_volume server partition (restored_as name id now volume)) cell)
  put_is id None None is free = absurd (cc)
  put_is id None (Some other) is free = ap (λ (o : Option ℕ). if is_none o then Err TooLarge else Ok (with_stored (stored_volume server partition (restored_as name id now volume)) cell)) (sym free)
  put_is id (Some s) new is free = go s.image refl
    where
      go : (image : Image) → s.image ≡ image → put_where (Some s) cell (stored_volume server partition (restored_as name id now volume)) ≡ Ok (with_stored (stored_volume server partition (restored_as name id now volume)) cell)
      go (Good v) at = rw at refl
      go (Bad at) there = absurd (let e : id_over (standing_there (Some s)) new ≡ Ok id = is in let f : Err (BadImage at) ≡ Ok id = rw there at e in cc)

  pub put_answers : (id : ℕ) (result : Result (Unit {0}) CellFault) (new : List Stored) → name_test name ≡ true → target_id cell name ≡ Ok id
      → Changes (after_put cell server partition (restored_as name id now volume)) cell result new → Changes (after_restore cell server partition name now volume) cell result new
  put_answers id result new named is changes =
      let over : id_over (standing_there (stored_as name cell)) (id_for_new cell) ≡ Ok id = sym (ap (λ (b : Bool). if b then id_over (standing_there (stored_as name cell)) (id_for_new cell) else Err TooLarge) named) ∙ is in
      let same : after_put cell server partition (restored_as name id now volume) ≡ after_restore cell server partition name now volume
      = put_is id (stored_as name cell) (id_for_new cell) over refl ∙ sym (ap (put_with cell server partition name now volume) is) in
      subst (λ (d : Result (List Stored) CellFault). Changes d cell result new) same changes
