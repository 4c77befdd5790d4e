-- A scan of some of the slots finds each listed dump whose tapes these hold, by its own record.
use Rattle.std.proofs.Common.{◌≡◌, ℕ, suc, true, Some, List, [], ◌∷◌, map, refl, sym, ap, subst, ◌∙◌, arith, inl}
use Rattle.std.specs.Prelude.{Result, All, Contains, slice_get}
use Rattle.std.proofs.lemmas.List.Elements.{All-nil, All-cons, All-head, All-tail, All-contains}
use Rattle.vnode_model.specs.declared.volumes.VolumeFields.{VolumeFields}
use Rattle.budb_changes.specs.declared.records.TapePart.{TapePart}
use Rattle.budb_changes.specs.declared.records.DumpRecordFields.{DumpRecordFields}
use Rattle.tape_text.specs.Texts.{Part}
use Rattle.tape_text.specs.Parts.{FoundPart}
use Rattle.tape_text.specs.Wholes.{IsWhole, tape_part, record_by}
use Rattle.tape_scan.specs.Scans.{IsClosedIn}
use Rattle.tape_scan.specs.Slots.{Slot, Located, IsClosedAt, IsFound}
use Rattle.tape_scan.specs.Scanned.{IsChosen, Scanned}
use Rattle.archive_model.specs.Holding.{holds}
use Rattle.archive_model.specs.Archives.{Refusal, IsHeld, AreHolders, IsKept}
use Rattle.archive_model.specs.Clones.{part_in}
use Rattle.archive_model.proofs.FoundLaws.{map_twice, contains_found, tapes_of_found}
use Rattle.archive_model.proofs.SlotLaws.{in_map}

some_slot : (s t : Slot) → Some s ≡ Some t → s ≡ t
some_slot s t same = cc

-- ---- from some slots to all

module _ (slots few : List Slot) (place : ℕ → ℕ) (at : (k : ℕ) (s : Slot) → slice_get few k ≡ Some s → slice_get slots (place k) ≡ Some s) where
  moved : Located → Located
  moved l = record { slot = place l.slot; found = l.found }

  closed_on_all : (ls : List Located) → All (IsClosedAt few) ls → All (IsClosedAt slots) (map moved ls)
  unfolding moved
  closed_on_all [] closed = All-nil (IsClosedAt slots)
  closed_on_all (l ∷ ls) closed =
      let c = All-head (IsClosedAt few) l ls closed in
      All-cons (IsClosedAt slots) (moved l) (map moved ls) (record { here = c.here; at = at l.slot c.here c.at; closed = c.closed }) (closed_on_all ls (All-tail (IsClosedAt few) l ls closed))

  same_founds : (ls : List Located) → map (λ (l : Located). l.found) (map moved ls) ≡ map (λ (l : Located). l.found) ls
  unfolding moved
  same_founds [] = refl
  same_founds (l ∷ ls) = ap (λ (t : List FoundPart). l.found ∷ t) (same_founds ls)

  same_parts : (ls : List Located) → map (λ (l : Located). l.found.part) (map moved ls) ≡ map (λ (l : Located). l.found.part) ls
  unfolding moved
  same_parts [] = refl
  same_parts (l ∷ ls) = ap (λ (t : List Part). l.found.part ∷ t) (same_parts ls)

  found_on_all : (ls : List Located) (d : DumpRecordFields) → IsFound few ls d → IsFound slots (map moved ls) d
  found_on_all ls d found = record {
    closed = closed_on_all ls found.closed;
    whole = subst IsWhole (sym (same_parts ls)) found.whole;
    record_is = ap record_by (same_founds ls) ∙ found.record_is;
  }

  pub found_also : (ls : List Located) (d : DumpRecordFields) → IsFound few ls d → (ms : List Located) × IsFound slots ms d
  found_also ls d found = (map moved ls, found_on_all ls d found)

module _ (listed records : List DumpRecordFields) (slots : List Slot) (contents : ℕ → List ℕ → Result VolumeFields Refusal) (kept : IsKept listed slots contents records)
    (few : List Slot) (place : ℕ → ℕ) (at : (k : ℕ) (s : Slot) → slice_get few k ≡ Some s → slice_get slots (place k) ≡ Some s) where
  -- what a scan of these slots finds under a listed id is the listed dump
  pub scanned_equal : (whole : List DumpRecordFields) (left : List Located) → Scanned few whole left → (d e : DumpRecordFields) → Contains listed d → Contains whole e → e.id ≡ d.id → e ≡ d
  scanned_equal whole left scan d e there found same =
      let chosen = All-contains (λ (x : DumpRecordFields). (parts : List Located) × IsChosen few parts x) whole e scan.each found in
      (let all = found_also slots few place at chosen.0 e chosen.1.found in kept.agree d e all.0 there all.1 same)

  -- ---- from all slots to these

  module _ (d : DumpRecordFields) (listed_there : Contains listed d) (held : IsHeld d few) (parts : List Located) (found : IsFound slots parts d) (holders : AreHolders d parts slots) where
    record IsMoved (ls ms : List Located) : Type 0 where
      closed : All (IsClosedAt few) ms
      founds : map (λ (l : Located). l.found) ms ≡ map (λ (l : Located). l.found) ls

    move : (ls : List Located) → ((l : Located) → Contains ls l → Contains parts l) → (ms : List Located) × IsMoved ls ms
    move [] sub = ([], record { closed = All-nil (IsClosedAt few); founds = refl })
    move (l ∷ ls) sub =
        let member : Contains parts l = sub l (0, omega arith, refl) in
        let rest = move ls (λ m there. sub m (suc there.0, omega (arith, there.1), there.2)) in
        let c : IsClosedAt slots l = All-contains (IsClosedAt slots) parts l found.closed member in
        let holder = All-contains (λ (x : Located). (s : Slot) × (slice_get slots x.slot ≡ Some s) × (holds d x.found.part.head.tape s.items ≡ true)) parts l holders member in
        let tape : Contains d.tapes (tape_part l.found) = subst (λ (ts : List TapePart). Contains ts (tape_part l.found)) (sym (tapes_of_found slots parts d found)) (in_map tape_part (map (λ x. x.found) parts) l.found (contains_found parts l member)) in
        let h = held (tape_part l.found) tape in
        let same : place h.0 ≡ l.slot = kept.held_once d l.found.part.head.tape (place h.0) l.slot h.1 holder.0 (kept.dumps.complete d (inl listed_there)) (at h.0 h.1 h.2) holder.1 h.3 holder.2 in
        let slot : c.here ≡ h.1 = some_slot c.here h.1 (sym c.at ∙ ap (λ (n : ℕ). slice_get slots n) (sym same) ∙ at h.0 h.1 h.2) in
        let here : Located = record { slot = h.0; found = l.found } in (
          here ∷ rest.0,
          record {
            closed = All-cons (IsClosedAt few) here rest.0 (record { here = h.1; at = h.2; closed = subst (λ (s : Slot). IsClosedIn s.items l.found) slot c.closed }) rest.1.closed;
            founds = ap (λ (t : List FoundPart). l.found ∷ t) rest.1.founds;
          },
        )

    found_on_few : (ms : List Located) × IsFound few ms d
    found_on_few =
        let m = move parts (λ l there. there) in
        let whole : IsWhole (map (λ (l : Located). l.found.part) m.0) = subst IsWhole (map_twice parts ∙ ap (λ (qs : List FoundPart). map part_in qs) (sym m.1.founds) ∙ sym (map_twice m.0)) found.whole in
        (m.0, record { closed = m.1.closed; whole = whole; record_is = ap record_by m.1.founds ∙ found.record_is })

  -- each listed dump whose tapes these slots hold is found, by its own record
  pub scanned_again : (whole : List DumpRecordFields) (left : List Located) → Scanned few whole left → (d : DumpRecordFields) → Contains listed d → IsHeld d few → Contains whole d
  scanned_again whole left scan d there held =
      let held_all : IsHeld d slots = λ p tape. (let h = held p tape in (place h.0, h.1, at h.0 h.1 h.2, h.3)) in
      let old = kept.whole d there held_all in
      let few_found = found_on_few d there held old.0 old.1 old.2 in
      let e = scan.complete few_found.0 d few_found.1 in
      subst (Contains whole) (scanned_equal whole left scan d e.0 there e.1 e.2) e.1
