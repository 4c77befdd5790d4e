-- Fragments that are kept, one after the other.
use Rattle.std.proofs.Common.{◌≡◌, inl, inr, ℕ, zero, suc, ◌+◌, ◌<◌, Bool, Option, Some, None, List, [], ◌∷◌, ◌++◌, length, set, get_or, slice_get, refl, sym, ◌∙◌, ap, subst, arith}
use Rattle.std.specs.Prelude.{IsSomeAnd, All}
use Rattle.std.proofs.lemmas.List.Elements.{All-head, All-tail}
use Rattle.plant_core.specs.declared.plant.Plant.{Ghosts as Plant}
use Rattle.tape_frames.specs.declared.frame.Frame.TheVariants as frames
use Rattle.tape_frames.specs.declared.data.DataFields.{DataFields}
use Rattle.budb_changes.specs.declared.records.Frag.{Frag}
use Rattle.budb_changes.specs.declared.records.VolRecordFields.{VolRecordFields}
use Rattle.budb_changes.specs.declared.records.DumpRecordFields.{DumpRecordFields}
use Rattle.tape_text.specs.Items.{Item}
use Rattle.tape_text.specs.Texts.{used_of}
use Rattle.tape_text.specs.Wholes.{Lying}
use Rattle.tape_scan.specs.Slots.{Slot}
use Rattle.tape_scan.specs.Looking.{HasSlots}
use Rattle.archive_model.specs.Holding.{called_head, called_frags, holder_here}
use Rattle.archive_model.specs.Plays.{Piece, pieces_from, StandsAt, IsFirstBad}
use Rattle.restore_chain.specs.declared.play_called.Seen.{Seen}
use Rattle.restore_chain.specs.declared.play_joined.Site.{Site}
use Rattle.restore_chain.specs.declared.play_joined.Joined.{Joined}
use Rattle.restore_chain.specs.declared.play_fragment.Step.TheVariants as steps
use Rattle.restore_chain.specs.declared.play_volume.Turn.TheVariants as turns
use Rattle.restore_chain.specs.declared.keeping.Kept.{Kept}
use Rattle.restore_chain.specs.declared.keeping.Kept.TheVariants as kept
use Rattle.restore_chain.specs.Playing.{ReadsLoaded, end_of, HasSeen, StandsBefore, Joins, Turns}
use Rattle.restore_chain.specs.Keeping.{KeepsOn, IsReadOf, IsRead, IsKept, AllKept, AllRead, IsBegun}
use Rattle.restore_chain.proofs.JoinLaws.{pieces_more}
use Rattle.restore_chain.proofs.VolumeLaws.{held_here, turn_whole, turn_bad}

-- ---- one fragment

-- the Data in front of a record, and what is kept of them
pub record KeepsTo (c : Lying) (items : List Item) (place : ℕ) (s : Seen) (pieces : List Piece) : Type 0 where
  pub ds : List DataFields
  pub stands : StandsBefore c items place ds
  pub seen : HasSeen c ds s
  pub are : pieces ≡ pieces_from c.tape (c.at + 1) ds

pub keeps_more : (c : Lying) (items : List Item) (place : ℕ) (was s : Seen) (old new : List Piece) (so_far : KeepsTo c items place was old) → KeepsOn c items place so_far.ds s old new steps.More → KeepsTo c items (place + 1) s new
keeps_more c items place was s old new so_far (d, stands, seen, more) = record {
  ds = so_far.ds ++ d ∷ [];
  stands = stands;
  seen = seen;
  are = more ∙ ap (λ (l : List Piece). l ++ record { spot = record { tape = c.tape; place = place }; data_frame = d } ∷ []) so_far.are
      ∙ sym (pieces_more c.tape (c.at + 1) so_far.ds d place (omega (arith, so_far.stands.place_is)));
}

pub keeps_whole : (c : Lying) (items : List Item) (place tape : ℕ) (was s : Seen) (old new : List Piece) → tape ≡ c.tape → (so_far : KeepsTo c items place was old) → KeepsOn c items place so_far.ds s old new steps.Whole
    → IsReadOf c items (kept.Whole new (record { tape = tape; place = place }))
keeps_whole c items place tape was s old new same so_far (stands, none) = (
  record { head = c.head; pieces = so_far.ds; end = end_of c (used_of so_far.ds) },
  stands,
  same,
  omega (arith, so_far.stands.place_is),
  none ∙ so_far.are,
)

-- from the slot that holds the tape
pub read_here : (slots : List Slot) (d : DumpRecordFields) (c : Lying) (k : Kept) (x : ℕ × Slot) → holder_here d c.tape slots ≡ Some x → IsReadOf c x.1.items k → IsRead slots d c k
read_here slots d c kept.Unread x held is = absurd is
read_here slots d c (kept.Missing tape) x held is = absurd is
read_here slots d c kept.Held x held is = absurd is
read_here slots d c (kept.Whole pieces end) x held (f, stands, tape, place, are) = (f, turn_whole slots d c x.0 x.1 f held stands, tape, place, are)
read_here slots d c (kept.Bad site) x held (tape, bad) = (tape, turn_bad slots d c x.0 site.place x.1 held bad)

pub kept_read : (slots : List Slot) (d : DumpRecordFields) (may : Bool) (c : Lying) (k : Kept) → IsRead slots d c k → IsKept slots d may c k
kept_read slots d may c kept.Unread is = absurd is
kept_read slots d may c (kept.Missing tape) is = absurd is
kept_read slots d may c kept.Held is = absurd is
kept_read slots d may c (kept.Whole pieces end) is = is
kept_read slots d may c (kept.Bad site) is = is

-- the loaded tape is that of the slot
pub loaded_is : {D : Type 0} (P : Plant D) (slots : List Slot) (plant : D) (d : DumpRecordFields) (tape : ℕ) (x : ℕ × Slot) → HasSlots P slots plant → holder_here d tape slots ≡ Some x → (P.view plant).loaded ≡ Some x.0 → ReadsLoaded P x.1.items plant
loaded_is P slots plant d tape x has held loaded = record {
  slot = x.0;
  loaded = loaded;
  read = (has.each x.0 x.1 (held_here slots d tape x.0 x.1 held).0).items;
}

-- ---- all of a volume's

pub all_length : (slots : List Slot) (d : DumpRecordFields) (may : Bool) (cs : List Lying) (ks : List Kept) → AllKept slots d may cs ks → length ks ≡ length cs
all_length slots d may [] [] all = refl
all_length slots d may [] (k ∷ ks) all = absurd all
all_length slots d may (c ∷ cs) [] all = absurd all
all_length slots d may (c ∷ cs) (k ∷ ks) all = ap suc (all_length slots d may cs ks all.1)

pub all_set : (slots : List Slot) (d : DumpRecordFields) (may : Bool) (cs : List Lying) (ks : List Kept) (i : ℕ) (c : Lying) (k : Kept) → AllKept slots d may cs ks → slice_get cs i ≡ Some c → IsKept slots d may c k → AllKept slots d may cs (set ks i k)
all_set slots d may [] [] i c k all at is = absurd (cc)
all_set slots d may [] (j ∷ ks) i c k all at is = absurd all
all_set slots d may (b ∷ cs) [] i c k all at is = absurd all
all_set slots d may (b ∷ cs) (j ∷ ks) zero c k all at is =
    let same : b ≡ c = cc in
    (subst (λ (x : Lying). IsKept slots d may x k) (sym same) is, all.1)
all_set slots d may (b ∷ cs) (j ∷ ks) (suc i) c k all at is = (all.0, all_set slots d may cs ks i c k all.1 at is)

pub all_unread : (slots : List Slot) (d : DumpRecordFields) (may : Bool) (cs : List Lying) (ks : List Kept) → length ks ≡ length cs → All (λ k. k ≡ kept.Unread) ks → AllKept slots d may cs ks
all_unread slots d may [] [] long none = tt
all_unread slots d may [] (k ∷ ks) long none = absurd (omega (arith, long))
all_unread slots d may (c ∷ cs) [] long none = absurd (omega (arith, long))
all_unread slots d may (c ∷ cs) (k ∷ ks) long none =
    (subst (IsKept slots d may c) (sym (All-head (λ x. x ≡ kept.Unread) k ks none)) tt, all_unread slots d may cs ks (omega (arith, long)) (All-tail (λ x. x ≡ kept.Unread) k ks none))

-- ---- how they are played

pub read_turn : (slots : List Slot) (d : DumpRecordFields) (c : Lying) (pieces : List Piece) (end : Site) (old new : Joined) → IsRead slots d c (kept.Whole pieces end) → Joins pieces old new → Turns slots d c old new (turns.Whole end)
read_turn slots d c pieces end old new (f, stands, tape, place, are) joins = (f, stands, tape, place, subst (λ (l : List Piece). Joins l old new) are joins)

-- the fragment at a place, and what was read of it
pub read_at : (slots : List Slot) (d : DumpRecordFields) (cs : List Lying) (ks : List Kept) (i : ℕ) (k : Kept) → AllRead slots d cs ks → slice_get ks i ≡ Some k → (c : Lying) × (slice_get cs i ≡ Some c) × IsRead slots d c k
read_at slots d [] [] i k all at = absurd (cc)
read_at slots d [] (j ∷ ks) i k all at = absurd all
read_at slots d (c ∷ cs) [] i k all at = absurd all
read_at slots d (c ∷ cs) (j ∷ ks) zero k all at =
    let same : j ≡ k = cc in
    (c, refl, subst (IsRead slots d c) same all.0)
read_at slots d (c ∷ cs) (j ∷ ks) (suc i) k all at = read_at slots d cs ks i k all.1 at

pub read_length : (slots : List Slot) (d : DumpRecordFields) (cs : List Lying) (ks : List Kept) → AllRead slots d cs ks → length ks ≡ length cs
read_length slots d [] [] all = refl
read_length slots d [] (k ∷ ks) all = absurd all
read_length slots d (c ∷ cs) [] all = absurd all
read_length slots d (c ∷ cs) (k ∷ ks) all = ap suc (read_length slots d cs ks all.1)

-- the tape of a fragment that is called for is the record's
pub frag_tape : (dump index n : ℕ) (v : VolRecordFields) (frags : List Frag) (i : ℕ) (f : Frag) (c : Lying) → slice_get frags i ≡ Some f → slice_get (called_frags dump index n v frags) i ≡ Some c → c.tape ≡ f.tape
frag_tape dump index n v [] i f c at called = absurd (cc)
frag_tape dump index n v (g ∷ []) zero f c at called =
    let same : g ≡ f = cc in
    let is : record { tape = g.tape; at = g.at; head = called_head dump index n v; last = 1 } ≡ c = cc in
    sym (ap (λ (x : Lying). x.tape) is) ∙ ap (λ (x : Frag). x.tape) same
frag_tape dump index n v (g ∷ []) (suc i) f c at called = absurd (cc)
frag_tape dump index n v (g ∷ h ∷ fs) zero f c at called =
    let same : g ≡ f = cc in
    let is : record { tape = g.tape; at = g.at; head = called_head dump index n v; last = 0 } ≡ c = cc in
    sym (ap (λ (x : Lying). x.tape) is) ∙ ap (λ (x : Frag). x.tape) same
frag_tape dump index n v (g ∷ h ∷ fs) (suc i) f c at called = frag_tape dump index (n + 1) v (h ∷ fs) i f c at called

-- where something is kept, each fragment is
pub begun_all : (slots : List Slot) (d : DumpRecordFields) (may : Bool) (cs : List Lying) (ks : List Kept) → 0 < length ks → IsBegun slots d may cs ks → AllKept slots d may cs ks
begun_all slots d may cs ks some (inl none) = absurd (omega (arith, some, ap length none))
begun_all slots d may cs ks some (inr all) = all

pub item_at : {X : Type 0} (xs : List X) (i : ℕ) (x : X) → i < length xs → x ≡ get_or xs i x → slice_get xs i ≡ Some x
item_at [] i x within is = absurd (omega (arith, within))
item_at (y ∷ xs) zero x within is = ap Some (sym is)
item_at (y ∷ xs) (suc i) x within is = item_at xs i x (omega (arith, within)) is
