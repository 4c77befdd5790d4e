-- What the archive came of it comes of behind a turn that brings no dump.
use Rattle.std.proofs.Common.{◌≡◌, inl, inr, ℕ, zero, suc, ◌<◌, ◌≤◌, max, Some, List, [], ◌∷◌, refl, sym, ap, subst, arith}
use Rattle.std.specs.Prelude.{Result, Contains, slice_get}
use Rattle.vnode_model.specs.declared.volumes.VolumeFields.{VolumeFields}
use Rattle.tape_frames.specs.declared.frame.Frame.TheVariants as frames
use Rattle.budb_changes.specs.declared.records.DumpRecordFields.{DumpRecordFields}
use Rattle.budb_changes.specs.declared.change.Change.{Change}
use Rattle.budb_fold.specs.Database.{after}
use Rattle.tape_text.specs.Items.{Item, Says, Filemark, Nothing}
use Rattle.tape_scan.specs.Slots.{Slot}
use Rattle.tape_answers.specs.Slots.{slot_of}
use Rattle.archive_model.specs.Archives.{Archive, Refusal, listed_of, IsKept}
use Rattle.archive_model.specs.Holding.{HasNoHead}
use Rattle.archive_model.proofs.JobLaws.{slot_with}
use Rattle.saved_archives.specs.Since.{Ids, UpTo, IsSince, AreSince, ComesOf}
use Rattle.saved_archives.proofs.SinceLaws.{all_same}
use Rattle.saved_archives.proofs.CutLaws.{anew_since}
use Rattle.saved_archives.proofs.JoinLaws.{found_was}
use Rattle.saved_archives.proofs.ArchiveLaws.{found_record, comes_of_both}
use Rattle.dump_archives.specs.Keeping.{IsKnownId}
use Rattle.backup_session.specs.Worlds.{World, Turn, archive_of, before_reply}
use Rattle.session_archives.specs.Since.{CameSince}
use Rattle.session_archives.proofs.Slots.{slot_there, slot_told}
use Rattle.session_archives.proofs.Kept.{Finds}
use Rattle.session_archives.proofs.Bringing.{IsBare, SaysOrIsBare}
use Rattle.session_archives.proofs.ReadyTapes.{KeepsOrder}

-- ---- tapes

bare_rest : (i : Item) (items : List Item) → IsBare (i ∷ items) → IsBare items
bare_rest i items bare = record { no_head = λ n h at. bare.no_head (suc n) h at }

bare_none : (id : ℕ) (items : List Item) → IsBare items → HasNoHead id items
bare_none id [] bare = tt
bare_none id (Says (frames.DumpHead a) ∷ items) bare = absurd (bare.no_head 0 a refl)
bare_none id (Says (frames.Label a) ∷ items) bare = bare_none id items (bare_rest (Says (frames.Label a)) items bare)
bare_none id (Says (frames.VolHead a) ∷ items) bare = bare_none id items (bare_rest (Says (frames.VolHead a)) items bare)
bare_none id (Says (frames.Data a) ∷ items) bare = bare_none id items (bare_rest (Says (frames.Data a)) items bare)
bare_none id (Says (frames.VolEnd a) ∷ items) bare = bare_none id items (bare_rest (Says (frames.VolEnd a)) items bare)
bare_none id (Says (frames.DumpEnd a) ∷ items) bare = bare_none id items (bare_rest (Says (frames.DumpEnd a)) items bare)
bare_none id (Filemark ∷ items) bare = bare_none id items (bare_rest Filemark items bare)
bare_none id (Nothing ∷ items) bare = bare_none id items (bare_rest Nothing items bare)

-- each slot says what it said, or is bare
says_since : (which : Ids) (slots slots2 : List Slot) → SaysOrIsBare slots slots2 → ((k : ℕ) (s : Slot) → slice_get slots2 k ≡ Some s → (t : Slot) × (slice_get slots k ≡ Some t)) → AreSince which slots slots2
says_since which slots slots2 says there k s at = elim (says k s at) [
  | inl same ↦
      (let here = all_same which slots k same.0 same.1 in
      (here.0, here.1, subst (λ (items : List Item). IsSince which here.0.items items) same.2 here.2))
  | inr bare ↦
      (let t = there k s at in
      anew_since which slots k t.0 t.1 s.items (λ id low. bare_none id s.items bare) k (record t.0 { items = s.items }) (slot_with k s.items slots t.0 t.1))
]

-- ---- archives

-- an id that none of these has passed
all_below : (ds : List DumpRecordFields) → (h : ℕ) × ((d : DumpRecordFields) → Contains ds d → d.id ≤ h)
all_below [] = (0, λ d there. absurd (omega (arith, there.1)))
all_below (x ∷ ds) = (let rest = all_below ds in (max x.id rest.0, below x ds rest.0 rest.1))
  where
    below : (x : DumpRecordFields) (ds : List DumpRecordFields) (h : ℕ) → ((d : DumpRecordFields) → Contains ds d → d.id ≤ h) → (d : DumpRecordFields) → Contains (x ∷ ds) d → d.id ≤ max x.id h
    below x ds h low d (zero, within, is) = (let same : x.id ≡ d.id = ap (λ (y : DumpRecordFields). y.id) is in omega (arith, same))
    below x ds h low d (suc n, within, is) = (let less = low d (n, omega (arith, within), is) in omega (arith, less))

-- the same contents, and tapes that are since what they were for all dumps
since_comes : (a b : Archive) (records : List DumpRecordFields) → IsKept (listed_of a) a.slots a.contents records → b.contents ≡ a.contents → ((which : Ids) → AreSince which a.slots b.slots) → (greatest : ℕ) (before : Archive) → ComesOf greatest before a → ComesOf greatest before b
since_comes a b records kept same since greatest before comes =
    let most = all_below records in
    let h : ℕ = max greatest most.0 in
    let low : (d : DumpRecordFields) → Contains records d → d.id ≤ h = λ d there. (let le = most.1 d there in omega (arith, le)) in
    comes_of_both greatest h before a b (listed_of a) records (omega arith) kept low comes (record {
      tapes = since (UpTo h);
      contents = λ id name le. ap (λ (c : ℕ → List ℕ → Result VolumeFields Refusal). c id name) same;
      given = λ parts d name v found above lt is.
          (let was = found_was (UpTo d.id) a.slots b.slots (since (UpTo d.id)) parts d (omega arith) found in
          let le = low d (found_record (listed_of a) records a.slots a.contents kept parts d was above) in
          absurd (omega (arith, lt, le)));
    })

-- ---- worlds

-- an id that is known is so later, and where more are
pub known_more : (time now greatest more id : ℕ) → time ≤ now → greatest ≤ more → IsKnownId time greatest id → IsKnownId now more id
known_more time now greatest more id later grown (inl le) = inl (omega (arith, le, grown))
known_more time now greatest more id later grown (inr lt) = inr (omega (arith, lt, later))

pub came_itself : (w : World) → CameSince w w
came_itself w = record { known = λ id known. known; comes = λ greatest before known comes. comes }

pub came_then : (w v u : World) → CameSince w v → CameSince v u → CameSince w u
came_then w v u first second = record {
  known = λ id known. second.known id (first.known id known);
  comes = λ greatest before known comes. second.comes greatest before (first.known greatest known) (first.comes greatest before known comes);
}

-- the same journal, time and archive
pub same_came : (w v : World) → v.log ≡ w.log → v.time ≡ w.time → archive_of v ≡ archive_of w → CameSince w v
same_came w v log time same = record {
  known = λ id known. subst (λ (n : ℕ). IsKnownId n (after v.log).greatest id) (sym time) (subst (λ (l : List Change). IsKnownId w.time (after l).greatest id) (sym log) known);
  comes = λ greatest before known comes. subst (λ (x : Archive). ComesOf greatest before x) (sym same) comes;
}

-- a turn that brings no dump
pub order_came : (w : World) (t : Turn) → Finds w → t.contents ≡ w.contents → KeepsOrder w t → CameSince w (before_reply w t)
order_came w t finds contents keeps =
    let v : World = before_reply w t in
    let there : (k : ℕ) (s : Slot) → slice_get (archive_of v).slots k ≡ Some s → (x : Slot) × (slice_get (archive_of w).slots k ≡ Some x) =
    λ k s at. (slot_of w.setting.present w.state.tape k, slot_there w.setting.present w.state.tape w.setting.slots k (slot_told w.setting.present v.state.tape w.setting.slots k s at).0) in
    record {
      known = λ id known. known_more w.time t.time (after w.log).greatest (after t.log).greatest id keeps.later keeps.brings.greatest known;
      comes = λ greatest before known comes.
          since_comes (archive_of w) (archive_of v) finds.holds.0 finds.holds.1.seen.kept contents (λ which. says_since which (archive_of w).slots (archive_of v).slots keeps.brings.says there) greatest before comes;
    }
