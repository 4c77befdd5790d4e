-- What a job that writes a dump knows at its steps.
use Rattle.std.proofs.Common.{◌≡◌, ℕ, zero, suc, ◌≤◌, true, Some, List, [], ◌∷◌, ◌++◌, take, drop, refl, sym, ap, subst, ◌∙◌, inl, inr, append_assoc, length-append, map, length, ◌+◌, arith}
use Rattle.std.specs.Prelude.{◌||◌, All, Contains, slice_get}
use Rattle.std.proofs.lemmas.List.{take-append-drop}
use Rattle.std.proofs.lemmas.List.Elements.{All-contains, All-nil, All-cons, All-head, All-tail}
use Rattle.tape_frames.specs.declared.frame.Frame.TheVariants as frames
use Rattle.tape_frames.specs.declared.dump_head.DumpHeadFields.{DumpHeadFields}
use Rattle.tape_frames.specs.declared.label.LabelFields.{LabelFields}
use Rattle.budb_changes.specs.declared.records.TapePart.{TapePart}
use Rattle.budb_changes.specs.declared.records.DumpRecordFields.{DumpRecordFields}
use Rattle.plant_core.specs.Crashes.{State}
use Rattle.plant_core.specs.Effects.{puts, settles, cuts, comes}
use Rattle.tape_text.specs.Items.{Item, Says, Filemark, record_for, IsFitItem}
use Rattle.tape_text.specs.Wholes.{IsWhole, record_by}
use Rattle.tape_scan.specs.Scans.{IsBegunIn, IsClosedIn}
use Rattle.tape_scan.specs.Slots.{Slot, Located, IsClosedAt, IsFound}
use Rattle.archive_model.specs.Holding.{place_of, holds}
use Rattle.archive_model.specs.Archives.{Archive, listed_of}
use Rattle.archive_model.specs.Settled.{HoldsSettled, AreHeld}
use Rattle.budb_fold.specs.Database.{has_dump}
use Rattle.archive_model.specs.Turns.{with_items, with_slot, IsFreshHead, HasOwnHeads, is_there, remaining}
use Rattle.tape_scan.proofs.ListLaws.{of_filter}
use Rattle.tape_scan.proofs.ClosedLaws.{begun_longer}
use Rattle.tape_scan.proofs.HeadLaws.{begun_head}
use Rattle.archive_model.proofs.PutLaws.{with_get, closed_before, closed_under}
use Rattle.archive_model.proofs.DumpLaws.{mid_put_holds, cut_holds_all, part_end_holds}
use Rattle.archive_model.proofs.StepLaws.{settling_holds}
use Rattle.archive_model.proofs.OwnLaws.{some_part}
use Rattle.archive_model.proofs.ExampleLaws.{with_twice, marked_holds, two_puts}
use Rattle.tape_text.specs.Parts.{FoundPart}
use Rattle.tape_frames.specs.declared.dump_end.DumpEndFields.{DumpEndFields}

-- ---- heads of one's own

-- where each head of an id is that of one of its own parts, the head of another part is fresh
pub own_are_fresh : (slots : List Slot) (own : List Located) (h : DumpHeadFields) → All (IsClosedAt slots) own → HasOwnHeads slots own h.id → ((l : Located) → Contains own l → l.found.part.head.part ≡ h.part → ⊥) → IsFreshHead slots (Says (frames.DumpHead h))
own_are_fresh slots own h closed heads other h2 is m begun id part =
    let same : h ≡ h2 = cc in
    let here = begun_head begun.here.items m.found begun.begun in
    let l = heads m.slot begun.here m.found.first m.found.part.head begun.at here (id ∙ ap (λ (x : DumpHeadFields). x.id) (sym same)) in
    let c : IsClosedAt slots l.0 = All-contains (IsClosedAt slots) own l.0 closed l.1 in
    let slots_same : Some c.here ≡ Some begun.here = sym c.at ∙ ap (λ (n : ℕ). slice_get slots n) l.2 ∙ begun.at in
    let slot : c.here ≡ begun.here = cc in
    let stands : slice_get c.here.items l.0.found.first ≡ Some (Says (frames.DumpHead m.found.part.head)) = ap (λ (x : Slot). slice_get x.items l.0.found.first) slot ∙ ap (λ (n : ℕ). slice_get begun.here.items n) l.3 ∙ here in
    let head : l.0.found.part.head ≡ m.found.part.head = some_part slots l.0 c m.found.part.head stands in
    other l.0 l.1 (ap (λ (x : DumpHeadFields). x.part) head ∙ part ∙ ap (λ (x : DumpHeadFields). x.part) (sym same))

get_uncut : (n m : ℕ) (xs : List Item) (i : Item) → slice_get (take n xs) m ≡ Some i → slice_get xs m ≡ Some i
get_uncut zero m xs i is = absurd (cc)
get_uncut (suc n) m [] i is = absurd (cc)
get_uncut (suc n) zero (x ∷ xs) i is = is
get_uncut (suc n) (suc m) (x ∷ xs) i is = get_uncut n m xs i is

-- a cut keeps the heads that there are
pub cut_keeps_own : (slots : List Slot) (parts : List Located) (id k n : ℕ) (s : Slot) → slice_get slots k ≡ Some s → HasOwnHeads slots parts id → HasOwnHeads (with_items k (take n s.items) slots) parts id
cut_keeps_own slots parts id k n s at own j t m h at_j is same = elim (with_get k (take n s.items) slots j t at_j) [
  | inl here ↦
      (let cut : slice_get (take n s.items) m ≡ Some (Says (frames.DumpHead h)) = ap (λ (l : List Item). slice_get l m) (sym here.1) ∙ is in
      let l = own k s m h at (get_uncut n m s.items (Says (frames.DumpHead h)) cut) same in
      (l.0, l.1, l.2 ∙ sym here.0, l.3))
  | inr other ↦ own j t m h other.1 is same
]

-- ---- slots with other items

pub slot_with : (k : ℕ) (items : List Item) (slots : List Slot) (s : Slot) → slice_get slots k ≡ Some s → slice_get (with_items k items slots) k ≡ Some (record s { items = items })
slot_with k items [] s at = absurd (cc)
slot_with zero items (t ∷ slots) s at = (let same : t ≡ s = cc in ap (λ (x : Slot). Some (record x { items = items })) same)
slot_with (suc k) items (t ∷ slots) s at = slot_with k items slots s at

pub with_same : (k : ℕ) (slots : List Slot) (s : Slot) → slice_get slots k ≡ Some s → with_items k s.items slots ≡ slots
with_same k [] s at = refl
with_same zero (t ∷ slots) s at = (let same : s ≡ t = cc in ap (λ (x : Slot). record t { items = x.items } ∷ slots) same)
with_same (suc k) (t ∷ slots) s at = ap (λ (l : List Slot). t ∷ l) (with_same k slots s at)

pub slots_twice : (a : Archive) (k : ℕ) (xs ys : List Item) → with_slot (with_slot a k ys) k xs ≡ with_slot a k xs
slots_twice a k xs ys = ap (λ (l : List Slot). record { log = a.log; slots = l; contents = a.contents }) (with_twice k xs ys a.slots)

pub remaining_among : (listed : List DumpRecordFields) (slots : List Slot) (records : List DumpRecordFields) (d : DumpRecordFields) → Contains (remaining listed slots records) d → Contains records d
remaining_among listed slots records d there = (of_filter (λ (x : DumpRecordFields). has_dump listed x.id || is_there slots x) records d there).0

-- ---- the steps

fresh_cut : (slots : List Slot) (k n : ℕ) (s : Slot) (i : Item) → slice_get slots k ≡ Some s → IsFreshHead slots i → IsFreshHead (with_items k (take n s.items) slots) i
fresh_cut slots k n s i at fresh h is m begun id part = elim (with_get k (take n s.items) slots m.slot begun.here begun.at) [
  | inl here ↦
      (let front : IsBegunIn (take n s.items) m.found = subst (λ (l : List Item). IsBegunIn l m.found) here.1 begun.begun in
      let whole : IsBegunIn s.items m.found = subst (λ (l : List Item). IsBegunIn l m.found) (take-append-drop n s.items) (begun_longer (take n s.items) (drop n s.items) m.found front) in
      fresh h is m (record { here = s; at = ap (λ (j : ℕ). slice_get slots j) here.0 ∙ at; begun = whole }) id part)
  | inr other ↦ fresh h is m (record { here = begun.here; at = other.1; begun = begun.begun }) id part
]

labelled_has_none : (l : LabelFields) (n : ℕ) (h : DumpHeadFields) → slice_get (Says (frames.Label l) ∷ Filemark ∷ []) n ≡ Some (Says (frames.DumpHead h)) → ⊥
labelled_has_none l zero h is = absurd (cc)
labelled_has_none l (suc zero) h is = absurd (cc)
labelled_has_none l (suc (suc n)) h is = absurd (cc)

fresh_labelled : (slots : List Slot) (k : ℕ) (l : LabelFields) (i : Item) → IsFreshHead slots i → IsFreshHead (with_items k (Says (frames.Label l) ∷ Filemark ∷ []) slots) i
fresh_labelled slots k l i fresh h is m begun id part = elim (with_get k (Says (frames.Label l) ∷ Filemark ∷ []) slots m.slot begun.here begun.at) [
  | inl here ↦ absurd (labelled_has_none l m.found.first m.found.part.head (ap (λ (x : List Item). slice_get x m.found.first) (sym here.1) ∙ begun_head begun.here.items m.found begun.begun))
  | inr other ↦ fresh h is m (record { here = begun.here; at = other.1; begun = begun.begun }) id part
]

module _ (s : State) (a : Archive) (records : List DumpRecordFields) (held : HoldsSettled s a records) (k : ℕ) (t : Slot) (at : slice_get a.slots k ≡ Some t) (h : DumpHeadFields) (fit : IsFitItem (Says (frames.DumpHead h)))
    (new : (d : DumpRecordFields) → Contains records d → d.id ≡ h.id → ⊥) (fresh : IsFreshHead a.slots (Says (frames.DumpHead h))) where
  -- a tape that is appended to: its cut, and the head
  pub appended_holds : (n : ℕ) → ((d : DumpRecordFields) (tape : ℕ) (p : TapePart) → Contains (listed_of a) d → place_of d tape ≡ Some p → holds d tape t.items ≡ true → p.end ≤ n)
      → AreHeld s (cuts k n ∷ puts k (record_for (Says (frames.DumpHead h))) ∷ [])
      (record { archive = a; records = records } ∷ record { archive = with_slot a k (take n t.items); records = remaining (listed_of a) (with_items k (take n t.items) a.slots) records }
      ∷ record { archive = with_slot a k (take n t.items ++ Says (frames.DumpHead h) ∷ []); records = remaining (listed_of a) (with_items k (take n t.items) a.slots) records } ∷ [])
  appended_holds n behind =
      let few : List DumpRecordFields = remaining (listed_of a) (with_items k (take n t.items) a.slots) records in
      let cut : HoldsSettled (comes (cuts k n) s) (with_slot a k (take n t.items)) few = (cut_holds_all s a records held k t at n behind).0 in
      let put = mid_put_holds (comes (cuts k n) s) (with_slot a k (take n t.items)) few cut k (record t { items = take n t.items }) (slot_with k (take n t.items) a.slots t at) (Says (frames.DumpHead h)) fit
      (λ d there. ((λ same. new d (remaining_among (listed_of a) (with_items k (take n t.items) a.slots) records d there) (sym same)), tt)) (fresh_cut a.slots k n t (Says (frames.DumpHead h)) at fresh) (λ same. absurd (cc)) in
      (held, (cut, subst (λ (b : Archive). HoldsSettled (comes (puts k (record_for (Says (frames.DumpHead h)))) (comes (cuts k n) s)) b few) (slots_twice a k (take n t.items ++ Says (frames.DumpHead h) ∷ []) (take n t.items)) put))

  -- a tape that is taken: its cut to nothing, the label, its filemark, the settling, and the head
  pub taken_holds : (l : LabelFields) → IsFitItem (Says (frames.Label l)) → ((d : DumpRecordFields) (tape : ℕ) → Contains (listed_of a) d → holds d tape t.items ≡ true → ⊥)
      → AreHeld s (cuts k 0 ∷ puts k (record_for (Says (frames.Label l))) ∷ puts k (record_for Filemark) ∷ settles k ∷ puts k (record_for (Says (frames.DumpHead h))) ∷ [])
      (record { archive = a; records = records } ∷ record { archive = with_slot a k []; records = remaining (listed_of a) (with_items k [] a.slots) records }
      ∷ record { archive = with_slot a k (Says (frames.Label l) ∷ []); records = remaining (listed_of a) (with_items k [] a.slots) records }
      ∷ record { archive = with_slot a k (Says (frames.Label l) ∷ Filemark ∷ []); records = remaining (listed_of a) (with_items k [] a.slots) records }
      ∷ record { archive = with_slot a k (Says (frames.Label l) ∷ Filemark ∷ []); records = remaining (listed_of a) (with_items k [] a.slots) records }
      ∷ record { archive = with_slot a k (Says (frames.Label l) ∷ Filemark ∷ Says (frames.DumpHead h) ∷ []); records = remaining (listed_of a) (with_items k [] a.slots) records } ∷ [])
  taken_holds l fit_label free =
      let few : List DumpRecordFields = remaining (listed_of a) (with_items k [] a.slots) records in
      let one : List Item = Says (frames.Label l) ∷ [] in
      let two : List Item = Says (frames.Label l) ∷ Filemark ∷ [] in
      let cut : HoldsSettled (comes (cuts k 0) s) (with_slot a k []) few = (cut_holds_all s a records held k t at 0 (λ d tape p there place held_it. absurd (free d tape there held_it))).0 in
      let marked = marked_holds (comes (cuts k 0) s) (with_slot a k []) few cut k (record t { items = [] }) (slot_with k [] a.slots t at) (Says (frames.Label l)) fit_label (λ d there. tt) (λ x same. absurd (cc)) (λ same. absurd (cc)) (λ x same. absurd (cc)) in
      let first : HoldsSettled (comes (puts k (record_for (Says (frames.Label l)))) (comes (cuts k 0) s)) (with_slot a k one) few =
      subst (λ (b : Archive). HoldsSettled (comes (puts k (record_for (Says (frames.Label l)))) (comes (cuts k 0) s)) b few) (slots_twice a k one []) marked.1.0 in
      let second : HoldsSettled (comes (puts k (record_for Filemark)) (comes (puts k (record_for (Says (frames.Label l)))) (comes (cuts k 0) s))) (with_slot a k two) few =
      subst (λ (b : Archive). HoldsSettled (comes (puts k (record_for Filemark)) (comes (puts k (record_for (Says (frames.Label l)))) (comes (cuts k 0) s))) b few) (slots_twice a k two []) marked.1.1.0 in
      let third : HoldsSettled (comes (settles k) (comes (puts k (record_for Filemark)) (comes (puts k (record_for (Says (frames.Label l)))) (comes (cuts k 0) s)))) (with_slot a k two) few =
      settling_holds (comes (puts k (record_for Filemark)) (comes (puts k (record_for (Says (frames.Label l)))) (comes (cuts k 0) s))) (with_slot a k two) few k second in
      let put = mid_put_holds (comes (settles k) (comes (puts k (record_for Filemark)) (comes (puts k (record_for (Says (frames.Label l)))) (comes (cuts k 0) s)))) (with_slot a k two) few third k (record t { items = two }) (slot_with k two a.slots t at) (Says (frames.DumpHead h)) fit
      (λ d there. ((λ same. new d (remaining_among (listed_of a) (with_items k [] a.slots) records d there) (sym same)), tt)) (fresh_labelled a.slots k l (Says (frames.DumpHead h)) fresh) (λ same. absurd (cc)) in
      let fourth = subst (λ (b : Archive). HoldsSettled (comes (puts k (record_for (Says (frames.DumpHead h)))) (comes (settles k) (comes (puts k (record_for Filemark)) (comes (puts k (record_for (Says (frames.Label l)))) (comes (cuts k 0) s))))) b few)
      (slots_twice a k (Says (frames.Label l) ∷ Filemark ∷ Says (frames.DumpHead h) ∷ []) two) put in
      (held, (cut, (first, (second, (third, fourth)))))

-- ---- the end of a part

-- the end's frame, its filemark and the settling, where the dump goes on
pub part_ended_holds : (s : State) (a : Archive) (records : List DumpRecordFields) → HoldsSettled s a records → (k : ℕ) (t : Slot) → slice_get a.slots k ≡ Some t → (e : DumpEndFields) → IsFitItem (Says (frames.DumpEnd e)) → (q : FoundPart)
    → IsClosedIn (t.items ++ Says (frames.DumpEnd e) ∷ Filemark ∷ []) q → q.end ≡ length t.items + 2 → q.part.end.more ≡ 1 → ((l : Located) → IsClosedAt a.slots l → l.found.part.head.id ≡ q.part.head.id → l.found.part.end.more ≡ 0 → ⊥)
    → AreHeld s (puts k (record_for (Says (frames.DumpEnd e))) ∷ puts k (record_for Filemark) ∷ settles k ∷ [])
    (record { archive = a; records = records } ∷ record { archive = with_slot a k (t.items ++ Says (frames.DumpEnd e) ∷ []); records = records }
    ∷ record { archive = with_slot a k (t.items ++ Says (frames.DumpEnd e) ∷ Filemark ∷ []); records = records } ∷ record { archive = with_slot a k (t.items ++ Says (frames.DumpEnd e) ∷ Filemark ∷ []); records = records } ∷ [])
part_ended_holds s a records held k t at e fit q closed end goes_on none_ends =
    let one : List Item = t.items ++ Says (frames.DumpEnd e) ∷ [] in
    let first : HoldsSettled (comes (puts k (record_for (Says (frames.DumpEnd e)))) s) (with_slot a k one) records = mid_put_holds s a records held k t at (Says (frames.DumpEnd e)) fit (λ d there. tt) (λ h same. absurd (cc)) (λ same. absurd (cc)) in
    let both : one ++ Filemark ∷ [] ≡ t.items ++ Says (frames.DumpEnd e) ∷ Filemark ∷ [] = append_assoc t.items (Says (frames.DumpEnd e) ∷ []) (Filemark ∷ []) in
    let put = part_end_holds (comes (puts k (record_for (Says (frames.DumpEnd e)))) s) (with_slot a k one) records first k (record t { items = one }) (slot_with k one a.slots t at) q
    (subst (λ (l : List Item). IsClosedIn l q) (sym both) closed) (omega (arith, end, length-append t.items (Says (frames.DumpEnd e) ∷ []))) goes_on
    (λ l now id ends. none_ends l (closed_before (listed_of a) records a.slots a.contents held.seen.kept k t at (Says (frames.DumpEnd e)) (λ d there. tt) (λ h same. absurd (cc)) (λ same. absurd (cc)) l now) id ends) in
    let second : HoldsSettled (comes (puts k (record_for Filemark)) (comes (puts k (record_for (Says (frames.DumpEnd e)))) s)) (with_slot a k (t.items ++ Says (frames.DumpEnd e) ∷ Filemark ∷ [])) records =
    subst (λ (b : Archive). HoldsSettled (comes (puts k (record_for Filemark)) (comes (puts k (record_for (Says (frames.DumpEnd e)))) s)) b records) (two_puts a k t.items (Says (frames.DumpEnd e)) Filemark (record t { items = one }) refl) put in
    (held, (first, (second, settling_holds (comes (puts k (record_for Filemark)) (comes (puts k (record_for (Says (frames.DumpEnd e)))) s)) (with_slot a k (t.items ++ Says (frames.DumpEnd e) ∷ Filemark ∷ [])) records k second)))

-- ---- the last part

closed_all : (slots : List Slot) (k : ℕ) (t : Slot) → slice_get slots k ≡ Some t → (more : List Item) (own : List Located) (q : FoundPart) → All (IsClosedAt slots) own → IsClosedIn (t.items ++ more) q → All (IsClosedAt (with_items k (t.items ++ more) slots)) (own ++ record { slot = k; found = q } ∷ [])
closed_all slots k t at more [] q closed last =
    All-cons (IsClosedAt (with_items k (t.items ++ more) slots)) (record { slot = k; found = q }) [] (record { here = record t { items = t.items ++ more }; at = slot_with k (t.items ++ more) slots t at; closed = last }) (All-nil (IsClosedAt (with_items k (t.items ++ more) slots)))
closed_all slots k t at more (l ∷ own) q closed last =
    All-cons (IsClosedAt (with_items k (t.items ++ more) slots)) l (own ++ record { slot = k; found = q } ∷ []) (closed_under slots k t at more l (All-head (IsClosedAt slots) l own closed)) (closed_all slots k t at more own q (All-tail (IsClosedAt slots) l own closed) last)

-- a dump's parts so far, and one more that is closed behind a tape, are found there
pub last_part_found : (slots : List Slot) (k : ℕ) (t : Slot) → slice_get slots k ≡ Some t → (more : List Item) (own : List Located) (q : FoundPart) (d : DumpRecordFields) → All (IsClosedAt slots) own → IsClosedIn (t.items ++ more) q
    → IsWhole (map (λ (l : Located). l.found.part) (own ++ record { slot = k; found = q } ∷ [])) → record_by (map (λ (l : Located). l.found) (own ++ record { slot = k; found = q } ∷ [])) ≡ Some d → IsFound (with_items k (t.items ++ more) slots) (own ++ record { slot = k; found = q } ∷ []) d
last_part_found slots k t at more own q d closed last whole is = record { closed = closed_all slots k t at more own q closed last; whole = whole; record_is = is }
