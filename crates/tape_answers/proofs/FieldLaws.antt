-- The tests of fields tell exactly the fields that fit.
use Rattle.std.proofs.Common.{◌≡◌, ◌≢◌, ◌⊎◌, ℕ, ◌-◌, ◌<◌, ◌≤◌, not, List, [], length, drop, replicate}
use Rattle.std.specs.Prelude.{◌==◌, ◌&&◌, ◌↔◌, IsTrue, All}
use Rattle.std.specs.Bool.{Decides}
use Rattle.std.proofs.lemmas.Bool.Decides.{Decides-eqb, Decides-like, Decides-not, Decides-and, Decides-or}
use Rattle.bk_text.specs.Alphabets.{IsName, IsHost, IsSetName, IsTapeName}
use Rattle.bk_text.specs.LevelPaths.{IsLevelPath}
use Rattle.bk_text.specs.Tests.{name_test, host_test, set_name_test, tape_name_test, level_path_test}
use Rattle.byte_formats.specs.Forms.{IsMaybe, base_most}
use Rattle.tape_frames.specs.declared.label.LabelFields.{LabelFields}
use Rattle.tape_frames.specs.declared.dump_head.DumpHeadFields.{DumpHeadFields}
use Rattle.tape_frames.specs.declared.vol_head.VolHeadFields.{VolHeadFields}
use Rattle.tape_frames.specs.declared.data.DataFields.{DataFields}
use Rattle.tape_frames.specs.declared.vol_end.VolEndFields.{VolEndFields}
use Rattle.tape_frames.specs.declared.dump_end.DumpEndFields.{DumpEndFields}
use Rattle.tape_frames.specs.declared.frame.Frame.{Frame}
use Rattle.tape_frames.specs.declared.frame.Frame.TheVariants.{Label, DumpHead, VolHead, Data, VolEnd, DumpEnd}
use Rattle.tape_frames.specs.Layouts.{FitsLabel, FitsDumpHead, FitsVolHead, FitsData, FitsVolEnd, FitsDumpEnd}
use Rattle.tape_frames.specs.Frames.{Fits}
use Rattle.tape_answers.specs.FieldTests.{is_empty, label_carries, label_test, head_is_plain, head_numbers, head_texts, head_test, vol_head_test, data_test, vol_end_test, dump_end_test, frame_test}
use Rattle.tape_scan.proofs.Deciding.{upto, other, where_same, same_text}
use Rattle.tape_answers.proofs.Deciding.{four_fits, counted_fits, empty_text, maybe_text, bytes_fit}

-- what the tests of texts tell
pub record Forms : Type 0 where
  pub name : (text : List ℕ) → IsTrue (name_test text) ↔ IsName text
  pub host : (text : List ℕ) → IsTrue (host_test text) ↔ IsHost text
  pub set_name : (text : List ℕ) → IsTrue (set_name_test text) ↔ IsSetName text
  pub tape_name : (text : List ℕ) → IsTrue (tape_name_test text) ↔ IsTapeName text
  pub level_path : (text : List ℕ) → IsTrue (level_path_test text) ↔ IsLevelPath text

module _ (forms : Forms) where
  name_fits : (text : List ℕ) → Decides (name_test text) (IsName text)
  name_fits text = let f = forms.name text in (f.0, f.1)

  host_fits : (text : List ℕ) → Decides (host_test text) (IsHost text)
  host_fits text = let f = forms.host text in (f.0, f.1)

  set_fits : (text : List ℕ) → Decides (set_name_test text) (IsSetName text)
  set_fits text = let f = forms.set_name text in (f.0, f.1)

  tape_name_fits : (text : List ℕ) → Decides (tape_name_test text) (IsTapeName text)
  tape_name_fits text = let f = forms.tape_name text in (f.0, f.1)

  level_fits : (text : List ℕ) → Decides (level_path_test text) (IsLevelPath text)
  level_fits text = let f = forms.level_path text in (f.0, f.1)

  carries_fits : (a : LabelFields) → Decides (label_carries a) (((a.initial ≡ 0) × (a.tape ≡ 0)) ⊎ ((a.initial ≢ 0) × (a.tape ≢ 0) × (a.afs ≢ [])))
  carries_fits a =
      let none : Decides ((a.initial == 0) && (a.tape == 0)) ((a.initial ≡ 0) × (a.tape ≡ 0)) = Decides-and _ _ (Decides-eqb a.initial 0) (Decides-eqb a.tape 0) in
      let named : Decides (not (is_empty a.afs)) (a.afs ≢ []) = not_empty a.afs in
      let some : Decides (not (a.initial == 0) && (not (a.tape == 0) && not (is_empty a.afs))) ((a.initial ≢ 0) × (a.tape ≢ 0) × (a.afs ≢ [])) =
      Decides-like _ (λ (p : (a.initial ≢ 0) × ((a.tape ≢ 0) × (a.afs ≢ []))). (p.0, p.1.0, p.1.1)) (λ q. (q.0, (q.1, q.2))) (Decides-and _ _ (other a.initial 0) (Decides-and _ _ (other a.tape 0) (not_empty a.afs))) in
      Decides-or _ _ none some
    where
      not_empty : (text : List ℕ) → Decides (not (is_empty text)) (text ≢ [])
      not_empty text = Decides-not (is_empty text) (empty_text text)

  label_fits : (a : LabelFields) → Decides (label_test a) (FitsLabel a)
  unfolding label_test
  label_fits a = Decides-like _
      (λ (p : (a.initial ≤ 4294967295) × ((a.tape ≤ 4294967295) × (IsMaybe IsTapeName a.afs × (IsMaybe IsTapeName a.permanent × (((a.initial ≡ 0) × (a.tape ≡ 0)) ⊎ ((a.initial ≢ 0) × (a.tape ≢ 0) × (a.afs ≢ []))))))).
      record { initial = p.0; tape = p.1.0; afs = p.1.1.0; permanent = p.1.1.1.0; carries = p.1.1.1.1 })
      (λ f. (f.initial, (f.tape, (f.afs, (f.permanent, f.carries)))))
      (Decides-and _ _ (four_fits a.initial) (Decides-and _ _ (four_fits a.tape) (Decides-and _ _ (maybe_text IsTapeName tape_name_test a.afs (tape_name_fits a.afs)) (Decides-and _ _ (maybe_text IsTapeName tape_name_test a.permanent (tape_name_fits a.permanent)) (carries_fits a)))))

  plain_fits : (a : DumpHeadFields) → Decides (head_is_plain a) (a.uses ≡ 0 → (a.cell ≡ []) × (a.permanent ≡ []))
  plain_fits a = where_same a.uses 0 (is_empty a.cell && is_empty a.permanent) (Decides-and _ _ (empty_text a.cell) (empty_text a.permanent))

  record Numbers (a : DumpHeadFields) : Type 0 where
    id : a.id ≤ 4294967295
    initial : (1 ≤ a.initial) × (a.initial ≤ a.id)
    parent : a.parent ≤ 4294967295
    expires : a.expires ≤ 4294967295
    tape : (1 ≤ a.tape) × (a.tape ≤ 4294967295)
    part : (1 ≤ a.part) × (a.part ≤ 4294967295)
    volumes : (1 ≤ a.volumes) × (a.volumes ≤ 4294967295)
    uses : a.uses ≤ 4294967295

  numbers_fit : (a : DumpHeadFields) → Decides (head_numbers a) (Numbers a)
  numbers_fit a = Decides-like _
      (λ (p : (a.id ≤ 4294967295) × (((1 ≤ a.initial) × (a.initial ≤ a.id)) × ((a.parent ≤ 4294967295) × ((a.expires ≤ 4294967295) × (((1 ≤ a.tape) × (a.tape ≤ 4294967295)) × (((1 ≤ a.part) × (a.part ≤ 4294967295)) × (((1 ≤ a.volumes) × (a.volumes ≤ 4294967295)) × (a.uses ≤ 4294967295)))))))).
      record { id = p.0; initial = p.1.0; parent = p.1.1.0; expires = p.1.1.1.0; tape = p.1.1.1.1.0; part = p.1.1.1.1.1.0; volumes = p.1.1.1.1.1.1.0; uses = p.1.1.1.1.1.1.1 })
      (λ f. (f.id, (f.initial, (f.parent, (f.expires, (f.tape, (f.part, (f.volumes, f.uses))))))))
      (Decides-and _ _ (four_fits a.id) (Decides-and _ _ (Decides-and _ _ (upto 1 a.initial) (upto a.initial a.id)) (Decides-and _ _ (four_fits a.parent) (Decides-and _ _ (four_fits a.expires)
      (Decides-and _ _ (counted_fits a.tape) (Decides-and _ _ (counted_fits a.part) (Decides-and _ _ (counted_fits a.volumes) (four_fits a.uses))))))))

  record Texts (a : DumpHeadFields) : Type 0 where
    set : IsSetName a.set
    level : IsLevelPath a.level
    base : IsTapeName a.base × (length a.base ≤ base_most)
    cell : IsMaybe IsHost a.cell
    permanent : IsMaybe IsTapeName a.permanent

  texts_fit : (a : DumpHeadFields) → Decides (head_texts a) (Texts a)
  texts_fit a = Decides-like _
      (λ (p : IsSetName a.set × (IsLevelPath a.level × ((IsTapeName a.base × (length a.base ≤ base_most)) × (IsMaybe IsHost a.cell × IsMaybe IsTapeName a.permanent)))).
      record { set = p.0; level = p.1.0; base = p.1.1.0; cell = p.1.1.1.0; permanent = p.1.1.1.1 })
      (λ f. (f.set, (f.level, (f.base, (f.cell, f.permanent)))))
      (Decides-and _ _ (set_fits a.set) (Decides-and _ _ (level_fits a.level) (Decides-and _ _ (Decides-and _ _ (tape_name_fits a.base) (upto (length a.base) base_most))
      (Decides-and _ _ (maybe_text IsHost host_test a.cell (host_fits a.cell)) (maybe_text IsTapeName tape_name_test a.permanent (tape_name_fits a.permanent))))))

  head_fits : (a : DumpHeadFields) → Decides (head_test a) (FitsDumpHead a)
  unfolding head_test
  head_fits a = Decides-like _
      (λ (p : Numbers a × (Texts a × (a.uses ≡ 0 → (a.cell ≡ []) × (a.permanent ≡ [])))).
      record { id = p.0.id; initial = p.0.initial; parent = p.0.parent; expires = p.0.expires; tape = p.0.tape; part = p.0.part; volumes = p.0.volumes; set = p.1.0.set; level = p.1.0.level; base = p.1.0.base; cell = p.1.0.cell; permanent = p.1.0.permanent; uses = p.0.uses; plain = p.1.1 })
      (λ f. (record { id = f.id; initial = f.initial; parent = f.parent; expires = f.expires; tape = f.tape; part = f.part; volumes = f.volumes; uses = f.uses }, (record { set = f.set; level = f.level; base = f.base; cell = f.cell; permanent = f.permanent }, f.plain)))
      (Decides-and _ _ (numbers_fit a) (Decides-and _ _ (texts_fit a) (plain_fits a)))

  vol_head_fits : (a : VolHeadFields) → Decides (vol_head_test a) (FitsVolHead a)
  unfolding vol_head_test
  vol_head_fits a = Decides-like _
      (λ (p : ((a.dump ≤ 4294967295) × ((a.index ≤ 4294967295) × (((1 ≤ a.fragment) × (a.fragment ≤ 4294967295)) × ((a.volume ≤ 4294967295) × ((a.clone ≤ 4294967295) × (a.from ≤ 4294967295)))))) × (IsName a.name × (IsHost a.server × IsName a.partition))).
      record { dump = p.0.0; index = p.0.1.0; fragment = p.0.1.1.0; volume = p.0.1.1.1.0; clone = p.0.1.1.1.1.0; from = p.0.1.1.1.1.1; name = p.1.0; server = p.1.1.0; partition = p.1.1.1 })
      (λ f. ((f.dump, (f.index, (f.fragment, (f.volume, (f.clone, f.from))))), (f.name, (f.server, f.partition))))
      (Decides-and _ _ (Decides-and _ _ (four_fits a.dump) (Decides-and _ _ (four_fits a.index) (Decides-and _ _ (counted_fits a.fragment) (Decides-and _ _ (four_fits a.volume) (Decides-and _ _ (four_fits a.clone) (four_fits a.from))))))
      (Decides-and _ _ (name_fits a.name) (Decides-and _ _ (host_fits a.server) (name_fits a.partition))))

  data_fits : (a : DataFields) → Decides (data_test a) (FitsData a)
  unfolding data_test
  data_fits a = Decides-like _
      (λ (p : (a.dump ≤ 4294967295) × ((a.index ≤ 4294967295) × (((1 ≤ a.used) × (a.used ≤ 16352)) × ((length a.bytes ≡ 16352) × (All (λ b. b < 256) a.bytes × (drop a.used a.bytes ≡ replicate (16352 - a.used) 0)))))).
      record { dump = p.0; index = p.1.0; used = p.1.1.0; size = p.1.1.1.0; bytes = p.1.1.1.1.0; rest = p.1.1.1.1.1 })
      (λ f. (f.dump, (f.index, (f.used, (f.size, (f.bytes, f.rest))))))
      (Decides-and _ _ (four_fits a.dump) (Decides-and _ _ (four_fits a.index) (Decides-and _ _ (Decides-and _ _ (upto 1 a.used) (upto a.used 16352))
      (Decides-and _ _ (Decides-eqb (length a.bytes) 16352) (Decides-and _ _ (bytes_fit a.bytes) (same_text (drop a.used a.bytes) (replicate (16352 - a.used) 0)))))))

  vol_end_fits : (a : VolEndFields) → Decides (vol_end_test a) (FitsVolEnd a)
  unfolding vol_end_test
  vol_end_fits a = Decides-like _
      (λ (p : (a.dump ≤ 4294967295) × ((a.index ≤ 4294967295) × ((a.fragment ≤ 4294967295) × ((a.last ≤ 1) × (a.bytes ≤ 4294967295))))).
      record { dump = p.0; index = p.1.0; fragment = p.1.1.0; last = p.1.1.1.0; bytes = p.1.1.1.1 })
      (λ f. (f.dump, (f.index, (f.fragment, (f.last, f.bytes)))))
      (Decides-and _ _ (four_fits a.dump) (Decides-and _ _ (four_fits a.index) (Decides-and _ _ (four_fits a.fragment) (Decides-and _ _ (upto a.last 1) (four_fits a.bytes)))))

  dump_end_fits : (a : DumpEndFields) → Decides (dump_end_test a) (FitsDumpEnd a)
  unfolding dump_end_test
  dump_end_fits a = Decides-like _
      (λ (p : (a.dump ≤ 4294967295) × ((a.tape ≤ 4294967295) × (a.more ≤ 1))). record { dump = p.0; tape = p.1.0; more = p.1.1 })
      (λ f. (f.dump, (f.tape, f.more)))
      (Decides-and _ _ (four_fits a.dump) (Decides-and _ _ (four_fits a.tape) (upto a.more 1)))

  pub frame_fits : (f : Frame) → Decides (frame_test f) (Fits f)
  frame_fits (Label a) = label_fits a
  frame_fits (DumpHead a) = head_fits a
  frame_fits (VolHead a) = vol_head_fits a
  frame_fits (Data a) = data_fits a
  frame_fits (VolEnd a) = vol_end_fits a
  frame_fits (DumpEnd a) = dump_end_fits a
