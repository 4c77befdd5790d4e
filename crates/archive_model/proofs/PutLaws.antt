-- A record that is put on a tape: it adds at most one begun part and at most one closed part, and keeps what is there.
use Rattle.std.proofs.Common.{◌≡◌, ◌⊎◌, ℕ, zero, suc, true, Some, List, [], ◌∷◌, ◌++◌, length, take, refl, sym, ap, subst, ◌∙◌, arith, inl, inr, append_assoc, append-nil, length-append}
use Rattle.std.specs.Prelude.{Result, All, Contains, slice_get}
use Rattle.std.specs.List.{flat_map}
use Rattle.std.proofs.lemmas.List.{take_all}
use Rattle.std.proofs.lemmas.List.Elements.{All-nil, All-cons, All-head, All-tail}
use Rattle.vnode_model.specs.declared.volumes.VolumeFields.{VolumeFields}
use Rattle.tape_frames.specs.declared.frame.Frame.TheVariants as frames
use Rattle.tape_frames.specs.declared.dump_end.DumpEndFields.{DumpEndFields}
use Rattle.budb_changes.specs.declared.records.DumpRecordFields.{DumpRecordFields}
use Rattle.tape_text.specs.Items.{Item, Says, Filemark}
use Rattle.tape_text.specs.Texts.{Part, Tape, fragment_items, part_items, tape_items}
use Rattle.tape_text.specs.Parts.{FoundPart, parts_of, parts_at}
use Rattle.tape_scan.specs.Slots.{Slot, Located, IsClosedAt, IsBegunAt, IsFound, AreHeadsOnce}
use Rattle.archive_model.specs.Holding.{place_of, holds, HasNoHead}
use Rattle.archive_model.specs.Archives.{Refusal, AreDumps, IsKept}
use Rattle.tape_scan.specs.Scans.{IsClosedIn, IsBegunIn}
use Rattle.archive_model.specs.Turns.{with_items, IsFreshHead, EndsNoPart}
use Rattle.archive_model.proofs.Alike.{AreAlike}
use Rattle.tape_scan.proofs.ListLaws.{take_of_append, either, push_same, same_or_not}
use Rattle.archive_model.proofs.HoldLaws.{lies_within}
use Rattle.archive_model.proofs.KeepLaws.{held_before}
use Rattle.tape_scan.proofs.ClosedLaws.{closed_within, closed_by_front, begun_put}
use Rattle.archive_model.proofs.QuietLaws.{quiet_keeps}

-- ---- slots with other items on one

-- each slot is that one or as it was
pub with_get : (k : ℕ) (items : List Item) (slots : List Slot) (j : ℕ) (s : Slot) → slice_get (with_items k items slots) j ≡ Some s → ((j ≡ k) × (s.items ≡ items) × (t : Slot) × (slice_get slots k ≡ Some t)) ⊎ ((j ≡ k → ⊥) × (slice_get slots j ≡ Some s))
with_get k items [] j s at = absurd (cc)
with_get zero items (t ∷ slots) zero s at = (let same : record t { items = items } ≡ s = cc in inl (refl, sym (ap (λ (x : Slot). x.items) same), t, refl))
with_get zero items (t ∷ slots) (suc j) s at = inr ((λ same. absurd (omega (arith, same))), at)
with_get (suc k) items (t ∷ slots) zero s at = inr ((λ same. absurd (omega (arith, same))), at)
with_get (suc k) items (t ∷ slots) (suc j) s at = elim (with_get k items slots j s at) [
  | inl here ↦ inl (omega (arith, here.0), here.1, here.2, here.3)
  | inr other ↦ inr ((λ same. other.0 (omega (arith, same))), other.1)
]

pub with_there : (k : ℕ) (items : List Item) (slots : List Slot) (s : Slot) → slice_get slots k ≡ Some s → (t : Slot) × (slice_get (with_items k items slots) k ≡ Some t) × (t.items ≡ items)
with_there k items [] s at = absurd (cc)
with_there zero items (t ∷ slots) s at = (record t { items = items }, refl, refl)
with_there (suc k) items (t ∷ slots) s at = with_there k items slots s at

pub with_other : (k : ℕ) (items : List Item) (slots : List Slot) (j : ℕ) (s : Slot) → (j ≡ k → ⊥) → slice_get slots j ≡ Some s → slice_get (with_items k items slots) j ≡ Some s
with_other k items [] j s other at = absurd (cc)
with_other zero items (t ∷ slots) zero s other at = absurd (other refl)
with_other zero items (t ∷ slots) (suc j) s other at = at
with_other (suc k) items (t ∷ slots) zero s other at = at
with_other (suc k) items (t ∷ slots) (suc j) s other at = with_other k items slots j s (λ same. other (omega (arith, same))) at

-- ---- begun parts

-- what is closed stays closed under what is put behind
pub closed_under : (slots : List Slot) (k : ℕ) (s : Slot) → slice_get slots k ≡ Some s → (more : List Item) (l : Located) → IsClosedAt slots l → IsClosedAt (with_items k (s.items ++ more) slots) l
closed_under slots k s at more l c = elim (same_or_not l.slot k) [
  | inl same ↦
      (let new = with_there k (s.items ++ more) slots s at in
      let here : Some c.here ≡ Some s = sym c.at ∙ ap (λ (n : ℕ). slice_get slots n) same ∙ at in
      let slot : c.here ≡ s = cc in
      let old : IsClosedIn s.items l.found = subst (λ (x : Slot). IsClosedIn x.items l.found) slot c.closed in
      record {
        here = new.0;
        at = ap (λ (n : ℕ). slice_get (with_items k (s.items ++ more) slots) n) same ∙ new.1;
        closed = closed_by_front s.items new.0.items l.found (ap (λ (x : List Item). take l.found.end x) new.2 ∙ take_of_append l.found.end s.items more (closed_within s.items l.found old)) old;
      })
  | inr other ↦ record { here = c.here; at = with_other k (s.items ++ more) slots l.slot c.here other c.at; closed = c.closed }
]

-- ---- closed parts

last_part : (p : Part) (ps : List Part) → (before : List Item) × (e : DumpEndFields) × (flat_map part_items (p ∷ ps) ≡ before ++ Says (frames.DumpEnd e) ∷ Filemark ∷ [])
last_part p [] = (Says (frames.DumpHead p.head) ∷ flat_map fragment_items p.fragments, p.end, append-nil (part_items p))
last_part p (q ∷ ps) =
    let rest = last_part q ps in
    (part_items p ++ rest.0, rest.1, ap (λ (l : List Item). part_items p ++ l) rest.2 ∙ sym (append_assoc (part_items p) rest.0 (Says (frames.DumpEnd rest.1) ∷ Filemark ∷ [])))

-- a tape that has a part ends with a part's end and its filemark
tape_end : (t : Tape) (q : FoundPart) → Contains (parts_of t) q → (before : List Item) × (e : DumpEndFields) × (tape_items t ≡ before ++ Says (frames.DumpEnd e) ∷ Filemark ∷ [])
tape_end t q there = by_parts t.label t.parts there
  where
    by_parts : (label : _) (ps : List Part) → Contains (parts_at 2 1 ps) q → (before : List Item) × (e : DumpEndFields) × (tape_items (record { label = label; parts = ps }) ≡ before ++ Says (frames.DumpEnd e) ∷ Filemark ∷ [])
    by_parts label [] there = absurd (omega (arith, there.1))
    by_parts label (p ∷ ps) there =
        let last = last_part p ps in
        (Says (frames.Label label) ∷ Filemark ∷ last.0, last.1, ap (λ (l : List Item). Says (frames.Label label) ∷ Filemark ∷ l) last.2)

-- what is closed on a tape with a record more was closed before, but where the record is the filemark of a part's end
pub closed_put : (items : List Item) (i : Item) (q : FoundPart) → EndsNoPart items i → IsClosedIn (items ++ i ∷ []) q → IsClosedIn items q
closed_put items i q ends c = elim (either (length items) q.end) [
  | inl longer ↦
      (let all : take q.end (items ++ i ∷ []) ≡ items ++ i ∷ [] = take_all q.end (items ++ i ∷ []) (omega (arith, longer, length-append items (i ∷ []))) in
      let last = tape_end c.tape q c.there in
      let same : items ++ i ∷ [] ≡ (last.0 ++ Says (frames.DumpEnd last.1) ∷ []) ++ Filemark ∷ [] = sym all ∙ c.front ∙ last.2 ∙ sym (append_assoc last.0 (Says (frames.DumpEnd last.1) ∷ []) (Filemark ∷ [])) in
      let parts = push_same items (last.0 ++ Says (frames.DumpEnd last.1) ∷ []) i Filemark same in
      absurd (ends parts.1 last.0 last.1 parts.0))
  | inr short ↦ closed_by_front (items ++ i ∷ []) items q (sym (take_of_append q.end items (i ∷ []) short)) c
]

-- ---- the law of a put

module _ (listed records : List DumpRecordFields) (slots : List Slot) (contents : ℕ → List ℕ → Result VolumeFields Refusal) (kept : IsKept listed slots contents records)
    (k : ℕ) (s : Slot) (at : slice_get slots k ≡ Some s) (i : Item) (unnamed : (d : DumpRecordFields) → Contains records d → HasNoHead d.id (i ∷ [])) (fresh : IsFreshHead slots i) where
  abbrev pub slots_put : List Slot
  slots_put = with_items k (s.items ++ i ∷ []) slots

  pub alike_put : AreAlike records slots slots_put
  alike_put j t at_j = elim (with_get k (s.items ++ i ∷ []) slots j t at_j) [
    | inl here ↦ record {
      here = s;
      at = subst (λ (n : ℕ). slice_get slots n ≡ Some s) (sym here.0) at;
      common = s.items;
      gone = [];
      more = i ∷ [];
      old_is = sym (append-nil s.items);
      new_is = here.1;
      heads = unnamed;
      ends = λ d tape p there place held. lies_within d p s.items
          (kept.lie d k s there at tape p place (held_before (place_of d tape) d tape s.items (i ∷ []) (unnamed d there) (subst (λ (l : List Item). holds d tape l ≡ true) here.1 held)));
    }
    | inr other ↦ record {
      here = t;
      at = other.1;
      common = t.items;
      gone = [];
      more = [];
      old_is = sym (append-nil t.items);
      new_is = sym (append-nil t.items);
      heads = λ d there. tt;
      ends = λ d tape p there place held. lies_within d p t.items (kept.lie d j t there other.1 tape p place held);
    }
  ]

  closed_stays : (l : Located) → IsClosedAt slots l → IsClosedAt slots_put l
  closed_stays l c = closed_under slots k s at (i ∷ []) l c

  all_closed_stay : (parts : List Located) → All (IsClosedAt slots) parts → All (IsClosedAt slots_put) parts
  all_closed_stay [] closed = All-nil (IsClosedAt slots_put)
  all_closed_stay (l ∷ parts) closed = All-cons (IsClosedAt slots_put) l parts (closed_stays l (All-head (IsClosedAt slots) l parts closed)) (all_closed_stay parts (All-tail (IsClosedAt slots) l parts closed))

  pub found_stays : (parts : List Located) (d : DumpRecordFields) → IsFound slots parts d → IsFound slots_put parts d
  found_stays parts d found = record { closed = all_closed_stay parts found.closed; whole = found.whole; record_is = found.record_is }

  -- a part that is begun was begun, or its head is what was put
  pub begun_before : (l : Located) → IsBegunAt slots_put l → IsBegunAt slots l ⊎ ((l.slot ≡ k) × (l.found.first ≡ length s.items) × (i ≡ Says (frames.DumpHead l.found.part.head)))
  begun_before l b = elim (with_get k (s.items ++ i ∷ []) slots l.slot b.here b.at) [
    | inl here ↦ elim (begun_put s.items i l.found (subst (λ (x : List Item). IsBegunIn x l.found) here.1 b.begun)) [
      | inl old ↦ inl (record { here = s; at = ap (λ (n : ℕ). slice_get slots n) here.0 ∙ at; begun = old })
      | inr new ↦ inr (here.0, new.0, new.1)
    ]
    | inr other ↦ inl (record { here = b.here; at = other.1; begun = b.begun })
  ]

  pub heads_put : AreHeadsOnce slots_put
  heads_put l m a b id part = elim (begun_before l a) [
    | inl l_old ↦ elim (begun_before m b) [
      | inl m_old ↦ kept.heads_once l m l_old m_old id part
      | inr m_new ↦ absurd (fresh m.found.part.head m_new.2 l l_old id part)
    ]
    | inr l_new ↦ elim (begun_before m b) [
      | inl m_old ↦ absurd (fresh l.found.part.head l_new.2 m m_old (sym id) (sym part))
      | inr m_new ↦ (l_new.0 ∙ sym m_new.0, l_new.1 ∙ sym m_new.1)
    ]
  ]

  -- where no dump is found more, all dumps are kept
  module _ (found_before : (parts : List Located) (d : DumpRecordFields) → IsFound slots_put parts d → IsFound slots parts d) where
    dumps_put : AreDumps listed slots_put records
    dumps_put = record {
      sound = λ d there. elim (kept.dumps.sound d there) [
        | inl is_listed ↦ inl is_listed
        | inr un ↦ inr (record { parts = un.parts; found = found_stays un.parts d un.found; unlisted = un.unlisted; above = un.above })
      ];
      complete = λ d is. elim is [
        | inl is_listed ↦ kept.dumps.complete d (inl is_listed)
        | inr un ↦ kept.dumps.complete d (inr (record { parts = un.parts; found = found_before un.parts d un.found; unlisted = un.unlisted; above = un.above }))
      ];
    }

    pub put_keeps_dumps : IsKept listed slots_put contents records
    put_keeps_dumps = quiet_keeps listed listed records records slots slots_put contents kept (λ d there. there) (λ d there. there) (λ d there. kept.dumps.complete d (inl there)) alike_put dumps_put heads_put found_before

  -- in mid-dump no part is closed, so no dump is found more
  pub closed_before : EndsNoPart s.items i → (l : Located) → IsClosedAt slots_put l → IsClosedAt slots l
  closed_before ends l c = elim (with_get k (s.items ++ i ∷ []) slots l.slot c.here c.at) [
    | inl here ↦ record { here = s; at = ap (λ (n : ℕ). slice_get slots n) here.0 ∙ at; closed = closed_put s.items i l.found ends (subst (λ (x : List Item). IsClosedIn x l.found) here.1 c.closed) }
    | inr other ↦ record { here = c.here; at = other.1; closed = c.closed }
  ]

  all_closed_before : EndsNoPart s.items i → (parts : List Located) → All (IsClosedAt slots_put) parts → All (IsClosedAt slots) parts
  all_closed_before ends [] closed = All-nil (IsClosedAt slots)
  all_closed_before ends (l ∷ parts) closed = All-cons (IsClosedAt slots) l parts (closed_before ends l (All-head (IsClosedAt slots_put) l parts closed)) (all_closed_before ends parts (All-tail (IsClosedAt slots_put) l parts closed))

  pub mid_put_keeps : EndsNoPart s.items i → IsKept listed slots_put contents records
  mid_put_keeps ends = put_keeps_dumps (λ parts d found. record { closed = all_closed_before ends parts found.closed; whole = found.whole; record_is = found.record_is })
