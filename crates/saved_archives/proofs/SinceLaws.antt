-- Tapes since a moment: nothing came, more came, and a record was put.
use Rattle.std.proofs.Common.{◌≡◌, ℕ, zero, suc, ◌+◌, ◌<◌, ◌≤◌, true, Option, Some, None, List, [], ◌∷◌, ◌++◌, length, take, drop, refl, sym, ap, subst, ◌∙◌, arith, inl, inr, append_assoc, append-nil, length-append}
use Rattle.std.specs.Prelude.{slice_get}
use Rattle.std.proofs.lemmas.List.{take_all, take-append-drop, append_cancel_left}
use Rattle.tape_frames.specs.declared.frame.Frame.TheVariants as frames
use Rattle.budb_changes.specs.declared.records.TapePart.{TapePart}
use Rattle.budb_changes.specs.declared.records.DumpRecordFields.{DumpRecordFields}
use Rattle.tape_text.specs.Items.{Item, Says, Filemark, Nothing}
use Rattle.tape_text.specs.Parts.{FoundPart}
use Rattle.tape_scan.specs.Scans.{IsClosedIn}
use Rattle.tape_scan.specs.Slots.{Slot}
use Rattle.tape_scan.proofs.ListLaws.{take_of_append, either}
use Rattle.tape_scan.proofs.ClosedLaws.{closed_within, closed_by_front}
use Rattle.archive_model.specs.Holding.{place_of, holds_at, holds, HasNoHead, Lies}
use Rattle.archive_model.specs.Turns.{with_items, EndsNoPart}
use Rattle.archive_model.proofs.HoldLaws.{lies_within, lies_by_front}
use Rattle.archive_model.proofs.KeepLaws.{held_before}
use Rattle.archive_model.proofs.QuietLaws.{held_longer}
use Rattle.archive_model.proofs.PutLaws.{with_get, closed_put}
use Rattle.saved_archives.specs.Since.{Ids, IsIn, IsSince, AreSince}

-- ---- fronts

front_of : (xs ys : List Item) → take (length xs) (xs ++ ys) ≡ xs
front_of xs ys = take_of_append (length xs) xs ys (omega arith) ∙ take_all (length xs) xs (omega arith)

-- of two fronts of one list the longer one begins with the shorter one
pub front_in : (xs ys us vs : List Item) → xs ++ ys ≡ us ++ vs → length us ≤ length xs → xs ≡ us ++ drop (length us) xs
front_in xs ys us vs same le =
    let front : take (length us) xs ≡ us = sym (take_of_append (length us) xs ys le) ∙ ap (λ (l : List Item). take (length us) l) same ∙ front_of us vs in
    sym (take-append-drop (length us) xs) ∙ ap (λ (l : List Item). l ++ drop (length us) xs) front

-- ---- heads

no_head_front : (id : ℕ) (xs ys : List Item) → HasNoHead id (xs ++ ys) → HasNoHead id xs
no_head_front id [] ys none = tt
no_head_front id (Says (frames.DumpHead a) ∷ xs) ys none = (none.0, no_head_front id xs ys none.1)
no_head_front id (Says (frames.Label a) ∷ xs) ys none = no_head_front id xs ys none
no_head_front id (Says (frames.VolHead a) ∷ xs) ys none = no_head_front id xs ys none
no_head_front id (Says (frames.Data a) ∷ xs) ys none = no_head_front id xs ys none
no_head_front id (Says (frames.VolEnd a) ∷ xs) ys none = no_head_front id xs ys none
no_head_front id (Says (frames.DumpEnd a) ∷ xs) ys none = no_head_front id xs ys none
no_head_front id (Filemark ∷ xs) ys none = no_head_front id xs ys none
no_head_front id (Nothing ∷ xs) ys none = no_head_front id xs ys none

pub no_head_both : (id : ℕ) (xs ys : List Item) → HasNoHead id xs → HasNoHead id ys → HasNoHead id (xs ++ ys)
no_head_both id [] ys none rest = rest
no_head_both id (Says (frames.DumpHead a) ∷ xs) ys none rest = (none.0, no_head_both id xs ys none.1 rest)
no_head_both id (Says (frames.Label a) ∷ xs) ys none rest = no_head_both id xs ys none rest
no_head_both id (Says (frames.VolHead a) ∷ xs) ys none rest = no_head_both id xs ys none rest
no_head_both id (Says (frames.Data a) ∷ xs) ys none rest = no_head_both id xs ys none rest
no_head_both id (Says (frames.VolEnd a) ∷ xs) ys none rest = no_head_both id xs ys none rest
no_head_both id (Says (frames.DumpEnd a) ∷ xs) ys none rest = no_head_both id xs ys none rest
no_head_both id (Filemark ∷ xs) ys none rest = no_head_both id xs ys none rest
no_head_both id (Nothing ∷ xs) ys none rest = no_head_both id xs ys none rest

pub no_head_behind : (id : ℕ) (xs ys : List Item) → HasNoHead id (xs ++ ys) → HasNoHead id ys
no_head_behind id [] ys none = none
no_head_behind id (Says (frames.DumpHead a) ∷ xs) ys none = no_head_behind id xs ys none.1
no_head_behind id (Says (frames.Label a) ∷ xs) ys none = no_head_behind id xs ys none
no_head_behind id (Says (frames.VolHead a) ∷ xs) ys none = no_head_behind id xs ys none
no_head_behind id (Says (frames.Data a) ∷ xs) ys none = no_head_behind id xs ys none
no_head_behind id (Says (frames.VolEnd a) ∷ xs) ys none = no_head_behind id xs ys none
no_head_behind id (Says (frames.DumpEnd a) ∷ xs) ys none = no_head_behind id xs ys none
no_head_behind id (Filemark ∷ xs) ys none = no_head_behind id xs ys none
no_head_behind id (Nothing ∷ xs) ys none = no_head_behind id xs ys none

-- ---- what is so of a tape since a moment

module _ (which : Ids) (old new : List Item) (a : IsSince which old new) where
  pub since_front : (n : ℕ) → n ≤ length a.common → take n new ≡ take n old
  since_front n le =
      ap (λ (l : List Item). take n l) a.new_is ∙ take_of_append n a.common a.more le ∙ sym (take_of_append n a.common a.gone le) ∙ ap (λ (l : List Item). take n l) (sym a.old_is)

  pub since_held : (d : DumpRecordFields) (tape : ℕ) → IsIn which d.id → holds d tape new ≡ true → holds d tape old ≡ true
  since_held d tape le held =
      let short : holds_at (place_of d tape) d tape a.common ≡ true = held_before (place_of d tape) d tape a.common a.more (a.heads d.id le) (ap (λ (l : List Item). holds_at (place_of d tape) d tape l) (sym a.new_is) ∙ held) in
      ap (λ (l : List Item). holds_at (place_of d tape) d tape l) a.old_is ∙ held_longer (place_of d tape) d tape a.common a.gone short

  pub since_lies : (d : DumpRecordFields) → IsIn which d.id → Lies d old → Lies d new
  since_lies d le lies tape p place held = lies_by_front d p old new (since_front p.end (a.ends d tape p le lies place held)) (lies tape p place (since_held d tape le held))

  pub since_closed : (q : FoundPart) → IsIn which q.part.head.id → IsClosedIn new q → IsClosedIn old q
  since_closed q le c = closed_by_front new old q (sym (since_front q.end (a.closed q c le))) c

-- ---- nothing came

pub same_since : (which : Ids) (items : List Item) → IsSince which items items
same_since which items = record {
  common = items;
  gone = [];
  more = [];
  old_is = sym (append-nil items);
  new_is = sym (append-nil items);
  heads = λ id le. tt;
  closed = λ q c le. closed_within items q c;
  ends = λ d tape p le lies place held. lies_within d p items (lies tape p place held);
}

pub all_same : (which : Ids) (slots : List Slot) → AreSince which slots slots
all_same which slots k s at = (s, at, same_since which s.items)

-- ---- more came

module _ (which : Ids) (old mid new : List Item) (a : IsSince which old mid) (b : IsSince which mid new) where
  shorter : length b.common ≤ length a.common → IsSince which old new
  shorter le =
      let split : a.common ≡ b.common ++ drop (length b.common) a.common = front_in a.common a.more b.common b.gone (sym a.new_is ∙ b.old_is) le in
      record {
        common = b.common;
        gone = drop (length b.common) a.common ++ a.gone;
        more = b.more;
        old_is = a.old_is ∙ ap (λ (l : List Item). l ++ a.gone) split ∙ append_assoc b.common (drop (length b.common) a.common) a.gone;
        new_is = b.new_is;
        heads = b.heads;
        closed = b.closed;
        ends = λ d tape p low lies place held. b.ends d tape p low (since_lies which old mid a d low lies) place held;
      }

  longer : length a.common ≤ length b.common → IsSince which old new
  longer le =
      let split : b.common ≡ a.common ++ drop (length a.common) b.common = front_in b.common b.gone a.common a.more (sym b.old_is ∙ a.new_is) le in
      let rest : a.more ≡ drop (length a.common) b.common ++ b.gone =
      append_cancel_left a.common a.more (drop (length a.common) b.common ++ b.gone) (sym a.new_is ∙ b.old_is ∙ ap (λ (l : List Item). l ++ b.gone) split ∙ append_assoc a.common (drop (length a.common) b.common) b.gone) in
      record {
        common = a.common;
        gone = a.gone;
        more = drop (length a.common) b.common ++ b.more;
        old_is = a.old_is;
        new_is = b.new_is ∙ ap (λ (l : List Item). l ++ b.more) split ∙ append_assoc a.common (drop (length a.common) b.common) b.more;
        heads = λ id low. no_head_both id (drop (length a.common) b.common) b.more (no_head_front id (drop (length a.common) b.common) b.gone (subst (HasNoHead id) rest (a.heads id low))) (b.heads id low);
        closed = λ q c low. a.closed q (since_closed which mid new b q low c) low;
        ends = λ d tape p low lies place held. a.ends d tape p low lies place (since_held which mid new b d tape low held);
      }

  pub both_since : IsSince which old new
  both_since = elim (either (length a.common) (length b.common)) [
    | inl lt ↦ longer (omega (arith, lt))
    | inr le ↦ shorter le
  ]

pub all_both : (which : Ids) (slots between behind : List Slot) → AreSince which slots between → AreSince which between behind → AreSince which slots behind
all_both which slots between behind a b k s at =
    let y = b k s at in
    let x = a k y.0 y.1 in
    (x.0, x.1, both_since which x.0.items y.0.items s.items x.2 y.2)

-- ---- fewer ids

pub fewer_since : (which few : Ids) (slots slots2 : List Slot) → ((id : ℕ) → IsIn few id → IsIn which id) → AreSince which slots slots2 → AreSince few slots slots2
fewer_since which few slots slots2 sub since k s at =
    let x = since k s at in (
      x.0,
      x.1,
      record {
        common = x.2.common;
        gone = x.2.gone;
        more = x.2.more;
        old_is = x.2.old_is;
        new_is = x.2.new_is;
        heads = λ id one. x.2.heads id (sub id one);
        closed = λ q c one. x.2.closed q c (sub q.part.head.id one);
        ends = λ d tape p one lies place held. x.2.ends d tape p (sub d.id one) lies place held;
      },
    )

-- ---- one tape

pub with_since : (which : Ids) (k : ℕ) (slots : List Slot) (s : Slot) (items : List Item) → slice_get slots k ≡ Some s → IsSince which s.items items → AreSince which slots (with_items k items slots)
with_since which k slots s items at since j t at_j = elim (with_get k items slots j t at_j) [
  | inl here ↦ (s, ap (λ (n : ℕ). slice_get slots n) here.0 ∙ at, subst (IsSince which s.items) (sym here.1) since)
  | inr other ↦ (t, other.1, same_since which t.items)
]

put_since : (which : Ids) (items : List Item) (i : Item) → ((id : ℕ) → IsIn which id → HasNoHead id (i ∷ [])) → ((q : FoundPart) → IsClosedIn (items ++ i ∷ []) q → q.end ≡ length items + 1 → IsIn which q.part.head.id → ⊥) → IsSince which items (items ++ i ∷ [])
put_since which items i none newer = record {
  common = items;
  gone = [];
  more = i ∷ [];
  old_is = sym (append-nil items);
  new_is = refl;
  heads = none;
  closed = λ q c le. elim (either (length items) q.end) [
    | inl beyond ↦ absurd (newer q c (omega (arith, beyond, closed_within (items ++ i ∷ []) q c, length-append items (i ∷ []))) le)
    | inr short ↦ short
  ];
  ends = λ d tape p le lies place held. lies_within d p items (lies tape p place (held_before (place_of d tape) d tape items (i ∷ []) (none d.id le) held));
}

pub put_all_since : (which : Ids) (slots : List Slot) (k : ℕ) (s : Slot) → slice_get slots k ≡ Some s → (i : Item) → ((id : ℕ) → IsIn which id → HasNoHead id (i ∷ []))
    → ((q : FoundPart) → IsClosedIn (s.items ++ i ∷ []) q → q.end ≡ length s.items + 1 → IsIn which q.part.head.id → ⊥) → AreSince which slots (with_items k (s.items ++ i ∷ []) slots)
put_all_since which slots k s at i none newer = with_since which k slots s (s.items ++ i ∷ []) at (put_since which s.items i none newer)

-- a record that ends no part
pub put_within_since : (which : Ids) (slots : List Slot) (k : ℕ) (s : Slot) → slice_get slots k ≡ Some s → (i : Item) → ((id : ℕ) → IsIn which id → HasNoHead id (i ∷ [])) → EndsNoPart s.items i → AreSince which slots (with_items k (s.items ++ i ∷ []) slots)
put_within_since which slots k s at i none within =
    put_all_since which slots k s at i none (λ q c end one. absurd (omega (arith, end, closed_within s.items q (closed_put s.items i q within c))))
