-- What the function of what a tape's records say tells is what a scan tells.
use Rattle.std.proofs.Common.{◌≡◌, ℕ, suc, ◌+◌, ◌≤◌, Bool, true, false, Some, List, [], ◌∷◌, length, take, refl, sym, ◌∙◌, subst, arith}
use Rattle.std.specs.Prelude.{slice_get, if◌then◌else◌}
use Rattle.plant_core.specs.Records.{Record}
use Rattle.tape_text.specs.Items.{Item, Read}
use Rattle.tape_scan.specs.declared.scanning_walk.Walk.{Walk}
use Rattle.tape_scan.specs.declared.scanning_walk.Walk.TheVariants as walks
use Rattle.tape_scan.specs.Steps.{Continues, after, Walks, Walked}
use Rattle.tape_scan.specs.Sections.{IsScanOf}
use Rattle.tape_scan.proofs.ReachedScan.{scan_is}
use Rattle.tape_scan.proofs.ScanningLaws.{fit_by_reading}
use Rattle.tape_scan.specs.Continuing.{continues}
use Rattle.tape_scan.specs.Telling.{walk_from, sections_in}
use Rattle.tape_scan.proofs.ContinuingLaws.{goes}

-- a scan goes on from a place so many items ahead, and stops there
record Ahead (walk : Walk) (at : ℕ) (items : List Item) (end : ℕ × Walk) : Type 0 where
  count : ℕ
  place : end.0 ≡ at + count
  within : count ≤ length items
  taken : Walks walk at (take count items) end.1
  stops : (item : Item) → slice_get items count ≡ Some item → Continues end.1 item → ⊥

ahead : (walk : Walk) (at : ℕ) (items : List Item) (rs : List Record) → Read rs items → Ahead walk at items (walk_from walk at items)
ahead walk at [] rs read = record { count = 0; place = omega arith; within = omega arith; taken = refl; stops = λ item there on. absurd (cc) }
ahead walk at (i ∷ items) [] read = absurd read
ahead walk at (i ∷ items) (r ∷ rs) read = go (ahead (after at walk i) (at + 1) items rs read.1) (continues walk i) refl
  where
    same_item : (item : Item) → Some i ≡ Some item → i ≡ item
    same_item item same = cc

    go : Ahead (after at walk i) (at + 1) items (walk_from (after at walk i) (at + 1) items) → (b : Bool) → continues walk i ≡ b → Ahead walk at (i ∷ items) (if b then walk_from (after at walk i) (at + 1) items else (at, walk))
    go rest true on =
        let on_it = (goes walk i).0 on in
        record {
          count = suc rest.count;
          place = omega (arith, rest.place);
          within = omega (arith, rest.within);
          taken = (fit_by_reading walk r i read.0 on_it, on_it, rest.taken);
          stops = rest.stops;
        }
    go rest false off = record {
      count = 0;
      place = omega arith;
      within = omega arith;
      taken = refl;
      stops = λ item same on. let yes : continues walk i ≡ true = (goes walk i).1 (subst (Continues walk) (sym (same_item item same)) on) in absurd (let no : false ≡ true = sym off ∙ yes in cc);
    }

walked : (items : List Item) (rs : List Record) → Read rs items → Walked items (walk_from walks.Nothing 0 items).0 (walk_from walks.Nothing 0 items).1
walked items rs read =
    let a = ahead walks.Nothing 0 items rs read in
    let place : a.count ≡ (walk_from walks.Nothing 0 items).0 = omega (arith, a.place) in
    record {
      within = omega (arith, a.within, place);
      taken = subst (λ (n : ℕ). Walks walks.Nothing 0 (take n items) (walk_from walks.Nothing 0 items).1) place a.taken;
      stops = subst (λ (n : ℕ). (item : Item) → slice_get items n ≡ Some item → Continues (walk_from walks.Nothing 0 items).1 item → ⊥) place a.stops;
    }

pub told_of_items : (slot : ℕ) (tape : List Record) (items : List Item) → Read tape items → IsScanOf slot items (sections_in slot items)
unfolding sections_in
told_of_items slot tape items read = scan_is slot items (walk_from walks.Nothing 0 items).0 (walk_from walks.Nothing 0 items).1 (walked items tape read)
