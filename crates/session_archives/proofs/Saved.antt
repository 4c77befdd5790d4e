-- A SAVE OF THE DATABASE keeps the archive, effect by effect. It puts no dump's head.
use Rattle.std.proofs.Common.{◌≡◌, inl, inr, ℕ, ◌<◌, Bool, true, false, Some, List, [], ◌∷◌, ◌++◌, length, map, replicate, IsTrue, refl, sym, ap, subst, ◌∙◌}
use Rattle.std.specs.Prelude.{Option, None, Result, slice_get, ◌==◌}
use Rattle.std.proofs.lemmas.Bool.{cases_Bool, eq-eqb}
use Rattle.vnode_model.specs.declared.volumes.VolumeFields.{VolumeFields}
use Rattle.bk_text.specs.Alphabets.{IsTapeName}
use Rattle.byte_formats.specs.Bytes.{four}
use Rattle.byte_formats.specs.Forms.{IsMaybe}
use Rattle.plant_core.specs.Records.{Record, block_with, mark}
use Rattle.plant_core.specs.Crashes.{State}
use Rattle.plant_core.specs.Effects.{puts, settles, cuts, comes, come}
use Rattle.tape_frames.specs.declared.label.LabelFields.{LabelFields}
use Rattle.tape_frames.specs.declared.dump_head.DumpHeadFields.{DumpHeadFields}
use Rattle.tape_frames.specs.declared.frame.Frame.{Frame}
use Rattle.tape_frames.specs.declared.frame.Frame.TheVariants as frames
use Rattle.tape_frames.specs.Frames.{IsSpelled}
use Rattle.tape_text.specs.Items.{Item, Says, Filemark, Nothing}
use Rattle.tape_scan.specs.Slots.{Slot}
use Rattle.tape_answers.specs.Reading.{frame_in, item_for, item_of, items_of}
use Rattle.tape_answers.specs.Slots.{slot_of, slots_of}
use Rattle.budb_changes.specs.declared.records.DumpRecordFields.{DumpRecordFields}
use Rattle.budb_changes.specs.declared.change.Change.{Change}
use Rattle.budb_fold.specs.Database.{after}
use Rattle.archive_model.specs.Archives.{Refusal, listed_of}
use Rattle.archive_model.specs.Settled.{HoldsSettled, AreHeld}
use Rattle.archive_model.specs.Turns.{with_items, with_slot, remaining, StillHeld}
use Rattle.budb_save.specs.Blocks.{eight, head_block, data_block}
use Rattle.budb_save.specs.Saves.{save_label, label_record, head_record, piece_record, pieces_of}
use Rattle.budb_save.specs.Writing.{putting_front, putting_piece, putting_pieces, putting_save}
use Rattle.save_laws.specs.Saving.{CarriesNone, closing}
use Rattle.save_laws.proofs.ForeignLaws.{listed_stay}
use Rattle.save_laws.proofs.SaveHolds.{block_foreign, label_fits, database_holds}
use Rattle.session_archives.proofs.Slots.{ReadOnce, slots_again, with_here, slot_there, slot_told}
use Rattle.session_archives.proofs.Keeping.{archive_at, HoldsAt, Keeps}
use Rattle.session_archives.proofs.Effects.{seen_at}
use Rattle.session_archives.proofs.Knowing.{IsNoHead, AddsNoHead, heads_were}
use Rattle.session_archives.proofs.Kept.{Reads}
use Rattle.session_archives.proofs.Labels.{label_no_head, mark_no_head}
use Rattle.session_archives.proofs.Present.{TouchesHere, stays}
use Rattle.session_archives.proofs.Bringing.{IsBare, SaysOrIsBare}

-- ---- no dump's head is put

module _ (reads : Reads) where
  foreign_no_head : (bytes : List ℕ) → (IsSpelled bytes → ⊥) → IsNoHead (item_of (block_with bytes))
  foreign_no_head bytes foreign h is = go (frame_in bytes) refl is
    where
      go : (o : Option Frame) → frame_in bytes ≡ o → item_for o ≡ Says (frames.DumpHead h) → ⊥
      go None none says = (let e : Nothing ≡ Says (frames.DumpHead h) = says in cc)
      go (Some f) some says = (let read = reads.frame bytes f some in foreign (f, read.0, read.1))

  pieces_add : (log : List Change) (k : ℕ) (ps : List (List ℕ)) → AddsNoHead log (map (putting_piece k) ps ++ (puts k mark ∷ settles k ∷ [])) log
  pieces_add log k [] = (mark_no_head, refl)
  pieces_add log k (p ∷ ps) = (foreign_no_head (data_block p) (block_foreign 2 (four (length p) ++ (replicate 20 0 ++ p))), pieces_add log k ps)

  pub save_adds : (log : List Change) (k : ℕ) (permanent bytes : List ℕ) → IsMaybe IsTapeName permanent → AddsNoHead log (putting_save k (save_label permanent) bytes) log
  save_adds log k permanent bytes form = (
    label_no_head reads (save_label permanent) (label_fits permanent form),
    (mark_no_head, (foreign_no_head (head_block (length bytes)) (block_foreign 1 (eight (length bytes))), pieces_add log k (pieces_of bytes))),
  )

-- ---- it is on one tape

module _ (present : ℕ → Bool) where
  pieces_here : (k : ℕ) (ps : List (List ℕ)) → IsTrue (present k) → TouchesHere present (map (putting_piece k) ps ++ (puts k mark ∷ settles k ∷ []))
  pieces_here k [] here = (here, (here, tt))
  pieces_here k (p ∷ ps) here = (here, pieces_here k ps here)

  pub save_here : (k : ℕ) (label : LabelFields) (bytes : List ℕ) → IsTrue (present k) → TouchesHere present (putting_save k label bytes)
  save_here k label bytes here = (here, (here, (here, (here, (here, pieces_here k (pieces_of bytes) here)))))

-- ---- each effect keeps the archive

module _ (n : ℕ) (present : ℕ → Bool) (contents : ℕ → List ℕ → Result VolumeFields Refusal) (once : ReadOnce) where
  module _ (start : State) (log : List Change) (few : List DumpRecordFields) (k : ℕ) where
    held_at : (s : State) (items : List Item) → HoldsSettled s (with_slot (archive_at n present contents log start.tape) k items) few → HoldsAt n present contents log s
    held_at s items held = seen_at n present contents once s log (with_items k items (slots_of n present start.tape)) start.tape few (with_here k items (slots_of n present start.tape)) held

    pieces_keep : (s : State) (items : List Item) (ps : List (List ℕ)) → AreHeld s (map (putting_piece k) ps ++ (puts k mark ∷ settles k ∷ [])) (closing (archive_at n present contents log start.tape) few k items (map piece_record ps))
        → Keeps n present contents log s (map (putting_piece k) ps ++ (puts k mark ∷ settles k ∷ [])) log
    pieces_keep s items [] (here, (marked, settled)) = (held_at s items here, (held_at (comes (puts k mark) s) (items ++ Filemark ∷ []) marked, (held_at (comes (settles k) (comes (puts k mark) s)) (items ++ Filemark ∷ []) settled, refl)))
    pieces_keep s items (p ∷ ps) (here, rest) = (held_at s items here, pieces_keep (comes (puts k (piece_record p)) s) (items ++ Nothing ∷ []) ps rest)

  pub saved_at : (s : State) (log : List Change) (k : ℕ) (permanent bytes : List ℕ) → HoldsAt n present contents log s → k < n → IsMaybe IsTapeName permanent → CarriesNone (items_of (s.tape k))
      → Keeps n present contents log s (putting_save k (save_label permanent) bytes) log
  saved_at s log k permanent bytes (records, held) below form none =
      let a = archive_at n present contents log s.tape in
      let slots = slots_of n present s.tape in
      let t = slot_of present s.tape k in
      let at : slice_get slots k ≡ Some t = slot_there present s.tape n k below in
      let few = remaining (listed_of a) (with_items k [] slots) records in
      let all = database_holds s a records held k t at none permanent bytes form in
      let label = Says (frames.Label (save_label permanent)) in
      let s1 = comes (cuts k 0) s in
      let s2 = comes (puts k (label_record permanent)) s1 in
      let s3 = comes (puts k mark) s2 in
      let s4 = comes (settles k) s3 in
      let s5 = comes (puts k (head_record (length bytes))) s4 in
      let still : StillHeld (after log).listed slots (slots_of n present s1.tape) =
      subst (λ (x : List Slot). StillHeld (after log).listed slots x) (slots_again once present s.tape s1.tape n (with_items k [] slots) (with_here k [] slots) all.1.0.seen.tapes) (listed_stay s a records held k t at none) in (
        (records, held),
        (
          still,
          (
            held_at s log few k s1 [] all.1.0,
            (
              held_at s log few k s2 (label ∷ []) all.1.1.0,
              (
                held_at s log few k s3 (label ∷ Filemark ∷ []) all.1.1.1.0,
                (held_at s log few k s4 (label ∷ Filemark ∷ []) all.1.1.1.1.0, pieces_keep s log few k s5 (label ∷ Filemark ∷ Nothing ∷ []) (pieces_of bytes) all.1.1.1.1.1),
              ),
            ),
          ),
        ),
      )

-- ---- each slot says what it said, or has no dump's head

module _ (reads : Reads) (n : ℕ) (present : ℕ → Bool) (s : State) (log : List Change) (k : ℕ) (permanent bytes : List ℕ) (form : IsMaybe IsTapeName permanent) where
  abbrev behind : State
  behind = come (putting_save k (save_label permanent) bytes) s

  no_tape_else : (j : ℕ) → (j == k) ≡ false → behind.tape j ≡ s.tape j
  no_tape_else j miss = (stays (λ (i : ℕ). i == k) j (λ hit. (let e : false ≡ true = sym miss ∙ hit in absurd (cc))) (putting_save k (save_label permanent) bytes) s (save_here (λ (i : ℕ). i == k) k (save_label permanent) bytes (eq-eqb k k refl))).0

  blank_tape : (j : ℕ) → (j == k) ≡ true → (comes (cuts k 0) s).tape j ≡ []
  blank_tape j hit = rw hit refl

  no_head : (j : ℕ) → (j == k) ≡ true → (m : ℕ) (h : DumpHeadFields) → slice_get (items_of (behind.tape j)) m ≡ Some (Says (frames.DumpHead h)) → ⊥
  no_head j hit m h is =
      let was = heads_were (putting_front k (save_label permanent) (length bytes) ++ putting_pieces k bytes) (comes (cuts k 0) s) log log (save_adds reads log k permanent bytes form) j m h is in
      let e : None ≡ Some (Says (frames.DumpHead h)) = ap (λ (l : List Record). slice_get (items_of l) was.0) (sym (blank_tape j hit)) ∙ was.1 in
      cc

  pub slots_say : SaysOrIsBare (slots_of n present s.tape) (slots_of n present behind.tape)
  slots_say j t at =
      let told = slot_told present behind.tape n j t at in
      let its : t.items ≡ items_of (behind.tape j) = ap (λ (x : Slot). x.items) told.1 in
      elim (cases_Bool (j == k)) [
        | inl hit ↦ inr (subst IsBare (sym its) (record { no_head = no_head j hit }))
        | inr miss ↦ inl (slot_of present s.tape j, slot_there present s.tape n j told.0, ap items_of (sym (no_tape_else j miss)) ∙ sym its)
      ]
