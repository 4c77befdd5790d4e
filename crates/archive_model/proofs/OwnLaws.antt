-- A new dump is held once where no slot has another head of its id; and dumps as they are said of listed records alone.
use Rattle.std.proofs.Common.{◌≡◌, ◌⊎◌, ℕ, zero, suc, ◌<◌, ◌≤◌, true, false, Option, Some, None, List, [], ◌∷◌, ◌++◌, map, drop, refl, sym, ap, subst, ◌∙◌, arith, inl, inr}
use Rattle.std.specs.Prelude.{Result, Contains, slice_get, ◌==◌}
use Rattle.std.proofs.lemmas.Bool.{and_parts, eqb-true, eq-eqb}
use Rattle.std.proofs.lemmas.List.{take-append-drop}
use Rattle.std.proofs.lemmas.List.Elements.{All-contains}
use Rattle.vnode_model.specs.declared.volumes.VolumeFields.{VolumeFields}
use Rattle.tape_frames.specs.declared.frame.Frame.TheVariants as frames
use Rattle.tape_frames.specs.declared.dump_head.DumpHeadFields.{DumpHeadFields}
use Rattle.budb_changes.specs.declared.records.TapePart.{TapePart}
use Rattle.budb_changes.specs.declared.records.DumpRecordFields.{DumpRecordFields}
use Rattle.budb_fold.specs.Database.{is_dump, has_dump}
use Rattle.plant_core.specs.Crashes.{State}
use Rattle.archive_model.specs.Settled.{IsSettledOn}
use Rattle.tape_text.specs.Items.{Item, Says, Filemark, Nothing}
use Rattle.tape_text.specs.Texts.{Linked, tape_items}
use Rattle.tape_text.specs.Parts.{FoundPart}
use Rattle.tape_text.specs.Wholes.{NextTape}
use Rattle.tape_scan.specs.Slots.{Slot, Located, IsClosedAt, IsFound, AreHeadsOnce}
use Rattle.archive_model.specs.Holding.{place_of, is_label_frame, is_head_frame, is_so, holds_at, holds, LiesOn, Lies}
use Rattle.archive_model.specs.Clones.{part_in}
use Rattle.archive_model.specs.Archives.{Refusal, IsUnlisted, AreDumps, AreContents, AreHeldOnce, IsHeld, AreHolders, IsKept}
use Rattle.archive_model.specs.Turns.{HasOwnHeads}
use Rattle.archive_model.proofs.WholeLaws.{later_of, tail_linked}
use Rattle.tape_scan.proofs.PlaceLaws.{head_stands}
use Rattle.archive_model.proofs.FoundLaws.{whole_linked, contains_found, found_on}
use Rattle.archive_model.proofs.CutLaws.{any_from}
use Rattle.tape_scan.proofs.ClosedLaws.{found_once}

-- ---- heads

head_of_test : (id tape : ℕ) (o : Option Item) → is_so (is_head_frame id tape) o ≡ true → (h : DumpHeadFields) × (o ≡ Some (Says (frames.DumpHead h))) × (h.id ≡ id) × (h.tape ≡ tape)
head_of_test id tape None so = absurd (cc)
head_of_test id tape (Some Filemark) so = absurd (cc)
head_of_test id tape (Some Nothing) so = absurd (cc)
head_of_test id tape (Some (Says (frames.Label a))) so = absurd (cc)
head_of_test id tape (Some (Says (frames.VolHead a))) so = absurd (cc)
head_of_test id tape (Some (Says (frames.Data a))) so = absurd (cc)
head_of_test id tape (Some (Says (frames.VolEnd a))) so = absurd (cc)
head_of_test id tape (Some (Says (frames.DumpEnd a))) so = absurd (cc)
head_of_test id tape (Some (Says (frames.DumpHead a))) so = (let both = and_parts (a.id == id) (a.tape == tape) so in (a, refl, eqb-true a.id id both.0, eqb-true a.tape tape both.1))

held_head : (o : Option TapePart) (d : DumpRecordFields) (tape : ℕ) (items : List Item) → holds_at o d tape items ≡ true → (p : TapePart) × (h : DumpHeadFields) × (slice_get items p.first ≡ Some (Says (frames.DumpHead h))) × (h.id ≡ d.id) × (h.tape ≡ tape)
held_head None d tape items held = absurd (cc)
held_head (Some p) d tape items held =
    let both = and_parts (is_so (is_label_frame d.initial tape) (slice_get items 0)) (is_so (is_head_frame d.id tape) (slice_get items p.first)) held in
    let h = head_of_test d.id tape (slice_get items p.first) both.1 in
    (p, h.0, h.1, h.2, h.3)

pub some_part : (slots : List Slot) (l : Located) (c : IsClosedAt slots l) (h : DumpHeadFields) → slice_get c.here.items l.found.first ≡ Some (Says (frames.DumpHead h)) → l.found.part.head ≡ h
some_part slots l c h is =
    let all : c.here.items ≡ tape_items c.closed.tape ++ drop l.found.end c.here.items = sym (take-append-drop l.found.end c.here.items) ∙ ap (λ (x : List Item). x ++ drop l.found.end c.here.items) c.closed.front in
    let own : slice_get c.here.items l.found.first ≡ Some (Says (frames.DumpHead l.found.part.head)) = ap (λ (x : List Item). slice_get x l.found.first) all ∙ head_stands c.closed.tape l.found (drop l.found.end c.here.items) c.closed.there in
    let same : Some (Says (frames.DumpHead l.found.part.head)) ≡ Some (Says (frames.DumpHead h)) = sym own ∙ is in
    cc

same_tape : (ls : List Located) (l m : Located) → Linked NextTape (map part_in (map (λ x. x.found) ls)) → Contains ls l → Contains ls m → l.found.part.head.tape ≡ m.found.part.head.tape → l ≡ m
same_tape [] l m linked a b same = absurd (omega (arith, a.1))
same_tape (x ∷ ls) l m linked (zero, within, is) (zero, within2, is2) same = sym is ∙ is2
same_tape (x ∷ ls) l m linked (zero, within, is) (suc k, within2, is2) same =
    let later : x.found.part.head.tape < m.found.part.head.tape = All-contains (λ (r : FoundPart). x.found.part.head.tape < r.part.head.tape) (map (λ y. y.found) ls) m.found (later_of x.found (map (λ y. y.found) ls) linked) (contains_found ls m (k, omega (arith, within2), is2)) in
    let first : x.found.part.head.tape ≡ l.found.part.head.tape = ap (λ (y : Located). y.found.part.head.tape) is in
    absurd (omega (arith, later, first, same))
same_tape (x ∷ ls) l m linked (suc k, within, is) (zero, within2, is2) same =
    let later : x.found.part.head.tape < l.found.part.head.tape = All-contains (λ (r : FoundPart). x.found.part.head.tape < r.part.head.tape) (map (λ y. y.found) ls) l.found (later_of x.found (map (λ y. y.found) ls) linked) (contains_found ls l (k, omega (arith, within), is)) in
    let first : x.found.part.head.tape ≡ m.found.part.head.tape = ap (λ (y : Located). y.found.part.head.tape) is2 in
    absurd (omega (arith, later, first, same))
same_tape (x ∷ ls) l m linked (suc k, within, is) (suc j, within2, is2) same = same_tape ls l m (tail_linked x.found (map (λ y. y.found) ls) linked) (k, omega (arith, within), is) (j, omega (arith, within2), is2) same

module _ (slots : List Slot) (parts : List Located) (d : DumpRecordFields) (found : IsFound slots parts d) (own : HasOwnHeads slots parts d.id) where
  its_part : (tape j : ℕ) (s : Slot) → slice_get slots j ≡ Some s → holds d tape s.items ≡ true → (l : Located) × Contains parts l × (l.slot ≡ j) × (l.found.part.head.tape ≡ tape)
  its_part tape j s at held =
      let h = held_head (place_of d tape) d tape s.items held in
      let l = own j s h.0.first h.1 at h.2 h.3 in
      let c : IsClosedAt slots l.0 = All-contains (IsClosedAt slots) parts l.0 found.closed l.1 in
      let here : Some c.here ≡ Some s = sym c.at ∙ ap (λ (n : ℕ). slice_get slots n) l.2 ∙ at in
      let slot : c.here ≡ s = cc in
      let head : slice_get c.here.items l.0.found.first ≡ Some (Says (frames.DumpHead h.1)) = ap (λ (x : Slot). slice_get x.items l.0.found.first) slot ∙ ap (λ (n : ℕ). slice_get s.items n) l.3 ∙ h.2 in
      (l.0, l.1, l.2, ap (λ (x : DumpHeadFields). x.tape) (some_part slots l.0 c h.1 head) ∙ h.4)

  only_one : (e : DumpRecordFields) → Contains (d ∷ []) e → d ≡ e
  only_one e (zero, within, is) = is
  only_one e (suc k, within, is) = absurd (omega (arith, within))

  held_on_one : (tape j k : ℕ) (s t : Slot) → slice_get slots j ≡ Some s → slice_get slots k ≡ Some t → holds d tape s.items ≡ true → holds d tape t.items ≡ true → j ≡ k
  held_on_one tape j k s t at_j at_k held_j held_k =
      let l = its_part tape j s at_j held_j in
      let m = its_part tape k t at_k held_k in
      let same : l.0 ≡ m.0 = same_tape parts l.0 m.0 (whole_linked slots parts d found) l.1 m.1 (l.3 ∙ sym m.3) in
      sym l.2 ∙ ap (λ (x : Located). x.slot) same ∙ m.2

  -- where each head of a dump's id is that of one of its parts, no tape of it is held twice
  pub own_held_once : AreHeldOnce (d ∷ []) slots
  own_held_once e tape j k s t there at_j at_k held_j held_k =
      let same : e ≡ d = sym (only_one e there) in
      held_on_one tape j k s t at_j at_k (subst (λ (x : DumpRecordFields). holds x tape s.items ≡ true) same held_j) (subst (λ (x : DumpRecordFields). holds x tape t.items ≡ true) same held_k)

-- ---- what is settled

-- where each part of a found dump is settled, and none of its tapes is held twice, it is settled wherever it is held
pub parts_settled : (st : State) (slots : List Slot) (parts : List Located) (d : DumpRecordFields) → IsFound slots parts d → AreHeldOnce (d ∷ []) slots → ((l : Located) → Contains parts l → l.found.end ≤ st.settled l.slot) → IsSettledOn st slots d
parts_settled st slots parts d found once each k t tape p at place held =
    let on = found_on slots parts d tape p found place in
    let same : on.part.slot ≡ k = once d tape on.part.slot k on.closed.here t (0, omega arith, refl) on.closed.at at on.held held in
    let end : on.part.found.end ≡ p.end = ap (λ (x : TapePart). x.end) on.place in
    let there : on.part.found.end ≤ st.settled on.part.slot = each on.part on.there in
    let here : on.part.found.end ≤ st.settled k = subst (λ (n : ℕ). on.part.found.end ≤ st.settled n) same there in
    omega (arith, end, here)

-- ---- what is said of listed records alone

module _ (listed records : List DumpRecordFields) (slots : List Slot) (contents : ℕ → List ℕ → Result VolumeFields Refusal) (ids : (d e : DumpRecordFields) → Contains listed d → Contains listed e → d.id ≡ e.id → d ≡ e) (dumps : AreDumps listed slots records) (held_once : AreHeldOnce records slots) (heads_once : AreHeadsOnce slots)
    (lie : (d : DumpRecordFields) (k : ℕ) (s : Slot) → Contains listed d → slice_get slots k ≡ Some s → Lies d s.items) (whole : (d : DumpRecordFields) → Contains listed d → IsHeld d slots → (parts : List Located) × IsFound slots parts d × AreHolders d parts slots)
    (agree : (d e : DumpRecordFields) (parts : List Located) → Contains listed d → IsFound slots parts e → e.id ≡ d.id → e ≡ d) (contents_are : AreContents slots contents records) where
  not_listed : (d e : DumpRecordFields) → Contains listed d → has_dump listed e.id ≡ false → d.id ≡ e.id → ⊥
  not_listed d e there none same = absurd (let hit : true ≡ false = sym (any_from (is_dump e.id) listed d there (eq-eqb d.id e.id same)) ∙ none in cc)

  one_of : (d e : DumpRecordFields) → Contains listed d ⊎ IsUnlisted listed slots d → Contains listed e ⊎ IsUnlisted listed slots e → d.id ≡ e.id → d ≡ e
  one_of d e (inl a) (inl b) same = ids d e a b same
  one_of d e (inl a) (inr b) same = absurd (not_listed d e a b.unlisted same)
  one_of d e (inr a) (inl b) same = absurd (not_listed e d b a.unlisted (sym same))
  one_of d e (inr a) (inr b) same = found_once slots heads_once a.parts b.parts d e a.found b.found same

  lies_of : (d : DumpRecordFields) (k : ℕ) (s : Slot) → Contains records d → slice_get slots k ≡ Some s → Contains listed d ⊎ IsUnlisted listed slots d → Lies d s.items
  lies_of d k s there at (inl a) tape p place held = lie d k s a at tape p place held
  lies_of d k s there at (inr un) tape p place held =
      let on = found_on slots un.parts d tape p un.found place in
      let same : on.part.slot ≡ k = held_once d tape on.part.slot k on.closed.here s there on.closed.at at on.held held in
      let here : Some on.closed.here ≡ Some s = sym on.closed.at ∙ ap (λ (n : ℕ). slice_get slots n) same ∙ at in
      let slot : on.closed.here ≡ s = cc in
      subst (λ (x : Slot). LiesOn d p x.items) slot on.lies

  -- Dumps are kept where this is so of the listed ones.
  pub said_of_listed : IsKept listed slots contents records
  said_of_listed = record {
    dumps = dumps;
    ids_once = λ d e a b same. one_of d e (dumps.sound d a) (dumps.sound e b) same;
    held_once = held_once;
    heads_once = heads_once;
    lie = λ d k s there at. lies_of d k s there at (dumps.sound d there);
    whole = whole;
    agree = agree;
    contents_are = contents_are;
  }
