-- Each step of a dump keeps the archive.
use Rattle.std.proofs.Common.{◌≡◌, ◌⊎◌, ℕ, zero, suc, ◌+◌, ◌<◌, ◌≤◌, Bool, true, false, Option, Some, None, List, [], ◌∷◌, ◌++◌, length, map, take, drop, refl, sym, ap, subst, ◌∙◌, arith, inl, inr, append-nil, length-append}
use Rattle.std.specs.Prelude.{nat_lt, nat_le, if◌then◌else◌, IfSome, All, Contains, slice_get}
use Rattle.std.proofs.lemmas.Bool.{cases_Bool, leb-true}
use Rattle.std.proofs.lemmas.Bool.Decides.{nat_tests}
use Rattle.std.proofs.lemmas.List.Elements.{All-nil, All-cons}
use Rattle.vnode_model.specs.declared.increments.IncrementFields.{IncrementFields}
use Rattle.vnode_model.specs.Increments.{selected}
use Rattle.dump_stream.specs.Written.{written}
use Rattle.tape_frames.specs.declared.frame.Frame.TheVariants as frames
use Rattle.tape_frames.specs.declared.label.LabelFields.{LabelFields}
use Rattle.tape_frames.specs.Layouts.{FitsLabel}
use Rattle.vnode_model.specs.declared.listed.VolEntry.{VolEntry}
use Rattle.cell_core.specs.declared.stored.Taken.{Taken}
use Rattle.cell_core.specs.Calls.{clone_at}
use Rattle.budb_changes.specs.declared.change.Change.{Change}
use Rattle.budb_changes.specs.declared.records.VolRecordFields.{VolRecordFields}
use Rattle.budb_changes.specs.declared.records.DumpRecordFields.{DumpRecordFields}
use Rattle.budb_changes.specs.Forms.{AreChanges}
use Rattle.plant_core.specs.Crashes.{State}
use Rattle.plant_core.specs.Effects.{Effect, cuts, comes, come}
use Rattle.plant_effects.proofs.States.{come_append}
use Rattle.tape_text.specs.Items.{Item, Says, Filemark, IsFitItem}
use Rattle.tape_text.specs.Texts.{Fragment, IsBefore, NextVolume}
use Rattle.tape_text.specs.Wholes.{Ends}
use Rattle.tape_scan.specs.Slots.{Slot}
use Rattle.tape_writer.specs.Puts.{puts_on, begun}
use Rattle.tape_writer.specs.Room.{HasRoom, taken_by}
use Rattle.tape_choice.specs.declared.choosing.Chosen.{Chosen}
use Rattle.tape_choice.specs.Choice.{takes, chosen, choice_of}
use Rattle.archive_model.specs.Archives.{Archive, listed_of}
use Rattle.archive_model.specs.Settled.{HoldsSettled, Kept, AreHeld}
use Rattle.archive_model.specs.Turns.{with_items, with_log, with_slot, is_here, remaining, StillHeld}
use Rattle.archive_model.proofs.DumpLaws.{held_then}
use Rattle.archive_model.proofs.ExampleLaws.{with_twice}
use Rattle.archive_model.proofs.JobLaws.{remaining_among, slot_with}
use Rattle.archive_model.proofs.StillLaws.{cut_still_held}
use Rattle.dump_job.specs.declared.fields.Hand.{Hand}
use Rattle.dump_job.specs.declared.fields.JobFields.{JobFields}
use Rattle.dump_job.specs.declared.fields.Phase.{Phase}
use Rattle.dump_job.specs.declared.fields.Phase.TheVariants as phase
use Rattle.dump_job.specs.Reels.{records_on, with_more, counts_on, has_room}
use Rattle.dump_job.specs.Taping.{uses_by, uses_for, head_with, reel_begun, phase_begun}
use Rattle.dump_job.specs.Cloning.{record_with, with_hand, volumes_done, from_time, cloned}
use Rattle.dump_job.specs.Volumes.{head_items, headed, next_used, next_piece, piece_items, pieced, fragment_end, end_items, volume_ended, volume_cut}
use Rattle.dump_job.specs.Ending.{part_end, part_end_items}
use Rattle.dump_job.specs.Closing.{committing, is_too_long}
use Rattle.dump_job.specs.Passing.{may_go_on, next_wanting, next_choice, next_hand, part_passed, part_refused}
use Rattle.dump_job.specs.Events.{Around, Event, clone_by, clone_from, head_event, piece_event, part_end_event, part_end_by, event_by, items_of, items_at}
use Rattle.dump_laws.specs.Made.{Made, opening_items, MayCome}
use Rattle.dump_laws.specs.Running.{basis_of, Goes, IsOpen, IsChosen, Comes, BeforeTape, CloneGoes, BeforeClone, BeforeHead, HasOpenFragment, BeforePiece, BeforeVolumeEnd, BeforePartEnd, BeforeDumpEnd, WithHand, Before, UnlessOver, RunsIn}
use Rattle.dump_laws.specs.Keeping.{IsFormedHand, IsFormed, HasRoomBefore, CloneIsFair, one_more, clone_for, IsOnTheWay, Keeps}
use Rattle.dump_laws.proofs.NeighbourLaws.{ends_so, get_within}
use Rattle.dump_laws.proofs.PutLaws.{AreOwn, same_put, more_put, front_put}
use Rattle.dump_laws.proofs.OpenSince.{only_pieces_none, open_since}
use Rattle.saved_archives.specs.Since.{AreSince, OtherThan}
use Rattle.saved_archives.proofs.SinceLaws.{all_same}
use Rattle.saved_archives.proofs.CutLaws.{cut_all_since, anew_since}
use Rattle.dump_laws.proofs.StreamLaws.{with_fragment}
use Rattle.dump_laws.proofs.StayingLaws.{still_self, still_then, still_put, still_free}
use Rattle.dump_laws.proofs.FormLaws.{end_fits, fragment_end_fits, piece_fits, head_fits}
use Rattle.dump_laws.proofs.FragmentSteps.{phase_left, phase_over, head_held, head_goes, head_before, piece_held, piece_goes, piece_before, piece_last, end_held, end_goes, end_open, done_behind, cut_behind}
use Rattle.dump_laws.proofs.CloneSteps.{is_cloned}
use Rattle.dump_laws.proofs.CloneGoes.{clone_with, first_clone_goes, first_clone, later_clone_goes, later_clone}
use Rattle.dump_laws.proofs.ChosenLaws.{IsChosenOf, chosen_of}
use Rattle.dump_laws.proofs.PartEnds.{EndsEarly, end_held as part_held_all, end_held_last}
use Rattle.dump_laws.proofs.PartPasses.{passed_made, passed_archive, passed_records, among_passed, took_among, take_held, passed_goes, passed_before, comes_cut, comes_whole}
use Rattle.dump_laws.proofs.TapeSteps.{taped_with, taken_held, taken_goes, taken_open, appended_held, appended_goes, appended_open, begun_room, begun_before}

-- ---- what a dump runs by

unless_over : (p : Phase) (X : Type 0) → X → UnlessOver p X
unless_over phase.Tape X x = x
unless_over phase.Clone X x = x
unless_over phase.Head X x = x
unless_over phase.Piece X x = x
unless_over phase.VolumeEnd X x = x
unless_over phase.PartEnd X x = x
unless_over phase.DumpEnd X x = x
unless_over phase.Over X x = tt

pub runs_by : (s : State) (a : Archive) (records : List DumpRecordFields) (j : JobFields) (m : Made) (p : Phase) → j.phase ≡ p → Goes s a records j m → Before a j m p → RunsIn s a records j m
runs_by s a records j m p is g b = record { held = g.held; goes = unless_over j.phase (Goes s a records j m) g; before = subst (Before a j m) (sym is) b }

pub runs_over : (s : State) (a : Archive) (records : List DumpRecordFields) (j : JobFields) (m : Made) → j.phase ≡ phase.Over → HoldsSettled s a records → RunsIn s a records j m
runs_over s a records j m is held = record { held = held; goes = subst (λ (p : Phase). UnlessOver p (Goes s a records j m)) (sym is) tt; before = subst (Before a j m) (sym is) tt }

-- ---- archives on the way

pub here_same : (k : ℕ) (items : List Item) (slots : List Slot) → map is_here (with_items k items slots) ≡ map is_here slots
here_same k items [] = refl
here_same zero items (t ∷ slots) = refl
here_same (suc k) items (t ∷ slots) = ap (λ (l : List Bool). t.here ∷ l) (here_same k items slots)

-- an archive with other items on one slot
pub slot_on : (a z : Archive) (records dumps : List DumpRecordFields) (k : ℕ) (items : List Item) (few : List DumpRecordFields) → StillHeld (listed_of a) a.slots (with_items k items a.slots) → ((d : DumpRecordFields) → Contains few d → Contains records d) → IsOnTheWay a z records dumps (record { archive = with_slot a k items; records = few })
slot_on a z records dumps k items few still among = record { between = inl (refl, inl refl); here = here_same k items a.slots; still = still; listed = λ d there. inl there; dumps_are = λ d there. inl (among d there) }

pub put_on_way : (a z : Archive) (records dumps : List DumpRecordFields) (k : ℕ) (s : Slot) (more : List Item) → slice_get a.slots k ≡ Some s → IsOnTheWay a z records dumps (record { archive = with_slot a k (s.items ++ more); records = records })
put_on_way a z records dumps k s more at = slot_on a z records dumps k (s.items ++ more) records (still_put (listed_of a) a.slots k s more at) (λ d there. there)

pub first_on : (a z : Archive) (records dumps : List DumpRecordFields) → IsOnTheWay a z records dumps (record { archive = a; records = records })
first_on a z records dumps = record { between = inl (refl, inl refl); here = refl; still = still_self (listed_of a) a.slots; listed = λ d there. inl there; dumps_are = λ d there. inl there }

module _ (a z : Archive) (records dumps : List DumpRecordFields) where
  abbrev On : Kept → Type 0
  On x = IsOnTheWay a z records dumps x

  pub on_one : (x : Kept) → On x → All On (x ∷ [])
  on_one x p = All-cons On x [] p (All-nil On)

  pub on_two : (x y : Kept) → On x → On y → All On (x ∷ y ∷ [])
  on_two x y p q = All-cons On x (y ∷ []) p (on_one y q)

  pub on_three : (x y w : Kept) → On x → On y → On w → All On (x ∷ y ∷ w ∷ [])
  on_three x y w p q r = All-cons On x (y ∷ w ∷ []) p (on_two y w q r)

  pub on_four : (x y w v : Kept) → On x → On y → On w → On v → All On (x ∷ y ∷ w ∷ v ∷ [])
  on_four x y w v p q r t = All-cons On x (y ∷ w ∷ v ∷ []) p (on_three y w v q r t)

  pub on_five : (x y w v u : Kept) → On x → On y → On w → On v → On u → All On (x ∷ y ∷ w ∷ v ∷ u ∷ [])
  on_five x y w v u p q r t o = All-cons On x (y ∷ w ∷ v ∷ u ∷ []) p (on_four y w v u q r t o)

-- ---- tests

le_true : (a b : ℕ) → a ≤ b → nat_le a b ≡ true
le_true a b le = grind (arith, nat_tests)

le_not : (a b : ℕ) → nat_le a b ≡ false → a ≤ b → ⊥
le_not a b miss le = absurd (let hit : nat_le a b ≡ true = le_true a b le in let e : true ≡ false = sym hit ∙ miss in cc)

lt_not : (a b : ℕ) → nat_lt a b ≡ false → b ≤ a
lt_not a b miss = grind (arith, nat_tests)

lack_room : (j : JobFields) (blocks marks : ℕ) → has_room blocks marks (counts_on j.port j.reel) ≡ false → HasRoom blocks marks (counts_on j.port j.reel) → ⊥
lack_room j blocks marks miss enough = le_not (taken_by j.port (j.reel.blocks + blocks) (j.reel.marks + marks)) j.port.capacity miss enough

has_enough : (j : JobFields) (blocks marks : ℕ) → has_room blocks marks (counts_on j.port j.reel) ≡ true → HasRoom blocks marks (counts_on j.port j.reel)
has_enough j blocks marks hit = leb-true (taken_by j.port (j.reel.blocks + blocks) (j.reel.marks + marks)) j.port.capacity hit

-- ---- the clone step

written_some : (i : IncrementFields) → written i ≡ [] → ⊥
unfolding written
written_some i same = absurd (cc)

module _ (s : State) (a : Archive) (records : List DumpRecordFields) (around : Around) (j : JobFields) (m : Made) (g : Goes s a records j m) where
  clone_kept : (next : JobFields) (m2 : Made) → RunsIn s a records next m2 → Keeps s a records a.contents m2.clones records [] [] next
  clone_kept next m2 runs = record {
    before = [];
    last = record { archive = a; records = records };
    made = m2;
    held = g.held;
    log = sym (append-nil a.log);
    contents_are = refl;
    here = refl;
    still = still_self (listed_of a) a.slots;
    listed = λ d there. inl there;
    each = All-nil (IsOnTheWay a a records records);
    runs = runs;
    clones_are = refl;
    dumps_are = λ d there. there;
    put = same_put s a records g.held next.head.id;
    since = all_same (OtherThan next.head.id) a.slots;
    gives = λ d there. inl there;
  }

  parent_known : (known : List DumpRecordFields) → CloneIsFair a known around j → (p : DumpRecordFields) → j.parent ≡ Some p → Contains known p × (p.id ≡ j.head.parent)
  parent_known known c p is = (c.parent p is, g.parent.some p is)

  clone_by_hand : (known : List DumpRecordFields) (c : CloneIsFair a known around j) (o : Option Hand) → j.hand ≡ o → IsOpen a j m [] → CloneGoes a j m o → Keeps s a records a.contents (m.clones ++ c.clone ∷ []) records [] [] (cloned c.entry c.clone j)
  clone_by_hand known c None is open_part n =
      let none : volumes_done j ≡ j.volumes = ap (λ (o : Option Hand). with_hand j.head.tape o j.volumes) is in
      let cloned_is = is_cloned around.cell c.cell a.contents known j.time c.place j.time c.entry c.clone c.fair c.listed c.taken (basis_of j) (parent_known known c) c.allowed in
      let count : length j.volumes ≡ 0 = ap length n.0.volumes in
      let within : 0 < length j.places = omega (arith, get_within j.places (length (volumes_done j)) c.place c.at) in
      let goes = first_clone_goes s a records j m g open_part c.entry c.clone cloned_is (written_some (selected c.clone.volume (from_time j c.entry c.clone) c.clone.time)) in
      let before = first_clone s a records j m g open_part c.entry c.clone cloned_is (written_some (selected c.clone.volume (from_time j c.entry c.clone) c.clone.time)) n.0 within n.1 in
      let m2 : Made = record m { clones = m.clones ++ c.clone ∷ [] } in
      subst (λ (vs : List VolRecordFields). Keeps s a records a.contents (m.clones ++ c.clone ∷ []) records [] [] (clone_with vs c.entry c.clone j)) (sym none)
      (clone_kept (clone_with j.volumes c.entry c.clone j) m2 (runs_by s a records (clone_with j.volumes c.entry c.clone j) m2 phase.Head refl goes before))
  clone_by_hand known c (Some h) is open_part d =
      let vs : List VolRecordFields = j.volumes ++ record_with j.head.tape h ∷ [] in
      let none : volumes_done j ≡ vs = ap (λ (o : Option Hand). with_hand j.head.tape o j.volumes) is in
      let cloned_is = is_cloned around.cell c.cell a.contents known j.time c.place j.time c.entry c.clone c.fair c.listed c.taken (basis_of j) (parent_known known c) c.allowed in
      let at = get_within j.places (length (volumes_done j)) c.place c.at in
      let within : length j.volumes + 1 < length j.places = omega (arith, at, ap length none, length-append j.volumes (record_with j.head.tape h ∷ [])) in
      let after : IsBefore h.head.name c.entry.name = subst (λ (o : Option Hand). IfSome o (λ (x : Hand). IsBefore x.head.name c.entry.name)) is c.after in
      let some = written_some (selected c.clone.volume (from_time j c.entry c.clone) c.clone.time) in
      let goes = later_clone_goes s a records j m g open_part c.entry c.clone cloned_is some h d in
      let before = later_clone s a records j m g open_part c.entry c.clone cloned_is some h d within after in
      let m2 : Made = record m { clones = m.clones ++ c.clone ∷ [] } in
      subst (λ (l : List VolRecordFields). Keeps s a records a.contents (m.clones ++ c.clone ∷ []) records [] [] (clone_with l c.entry c.clone j)) (sym none)
      (clone_kept (clone_with vs c.entry c.clone j) m2 (runs_by s a records (clone_with vs c.entry c.clone j) m2 phase.Head refl goes before))

  abbrev KeepsOver : List Taken → Event → Type 0
  KeepsOver clones e = Keeps s a records a.contents clones records e.effects e.changes e.job

  abbrev KeepsBy : Event → Type 0
  KeepsBy e = KeepsOver m.clones e

  pub clone_keeps : (known : List DumpRecordFields) → BeforeClone a j m → (c : CloneIsFair a known around j) → KeepsOver (one_more m.clones (clone_for around.cell j.time (slice_get j.places (length (volumes_done j))))) (event_by phase.Clone around j)
  clone_keeps known b c =
      let made : KeepsOver (m.clones ++ c.clone ∷ []) (clone_by (Some c.entry) (Some c.clone) j) = clone_by_hand known c j.hand refl b.open_part b.hand in
      subst (λ (o : Option ℕ). KeepsOver (one_more m.clones (clone_for around.cell j.time o)) (clone_from around.cell o j)) (sym c.at)
      (subst (λ (o : Option VolEntry). KeepsOver (one_more m.clones (clone_at around.cell c.place j.time)) (clone_by o (clone_at around.cell c.place j.time) j)) (sym c.listed)
      (subst (λ (o : Option Taken). KeepsOver (one_more m.clones o) (clone_by (Some c.entry) o j)) (sym c.taken) made))

  -- ---- the tape step

  tape_by : (b : BeforeTape a j m) (label : Option LabelFields) → j.label ≡ label → IsChosen a j m.front b.slot label → IfSome label FitsLabel → HasRoom 4 2 (counts_on j.port (reel_begun label j.reel)) → (uses : ℕ) → IsFitItem (Says (frames.DumpHead (head_with uses j.head)))
      → (uses ≡ uses_by label j.head.uses b.slot.items) → Keeps s a records a.contents m.clones records (cuts j.reel.slot (records_on j.reel) ∷ puts_on j.reel.slot (begun label (head_with uses j.head))) [] (taped_with label uses j)
  tape_by b (Some label) is t fit_label enough uses fit known =
      let k : ℕ = j.reel.slot in
      let all : List Item = Says (frames.Label label) ∷ Filemark ∷ Says (frames.DumpHead (head_with uses j.head)) ∷ [] in
      let z : Archive = with_slot a k all in
      let m2 : Made = record m { front = record { label = label; parts = [] } } in
      let few = remaining (listed_of a) (with_items k [] a.slots) records in
      let free = λ (l : List Item). still_free (listed_of a) a.slots k b.slot l b.at t.free in
      let among : (d : DumpRecordFields) → Contains few d → Contains records d = remaining_among (listed_of a) (with_items k [] a.slots) records in
      record {
        before =
            record { archive = a; records = records } ∷ record { archive = with_slot a k []; records = few } ∷ record { archive = with_slot a k (Says (frames.Label label) ∷ []); records = few } ∷ record { archive = with_slot a k (Says (frames.Label label) ∷ Filemark ∷ []); records = few }
            ∷ record { archive = with_slot a k (Says (frames.Label label) ∷ Filemark ∷ []); records = few } ∷ [];
        last = record { archive = z; records = few };
        made = m2;
        held = taken_held s a records j m g b uses fit label t fit_label;
        log = sym (append-nil a.log);
        contents_are = refl;
        here = here_same k all a.slots;
        still = free all;
        listed = λ d there. inl there;
        each = on_five a z records records _ _ _ _ _ (first_on a z records records) (slot_on a z records records k [] few (free []) among) (slot_on a z records records k (Says (frames.Label label) ∷ []) few (free (Says (frames.Label label) ∷ [])) among) (slot_on a z records records k (Says (frames.Label label) ∷ Filemark ∷ []) few (free (Says (frames.Label label) ∷ Filemark ∷ [])) among) (slot_on a z records records k (Says (frames.Label label) ∷ Filemark ∷ []) few (free (Says (frames.Label label) ∷ Filemark ∷ [])) among);
        runs =
            runs_by (come (cuts k (records_on j.reel) ∷ puts_on k all) s) z few (taped_with (Some label) uses j) m2 (phase_begun j.hand) refl (taken_goes s a records j m g b uses fit label t fit_label)
            (begun_before a j m (record { label = label; parts = [] }) all (Some label) uses j.hand refl b.comes b.none enough (taken_open s a records j m g b uses fit label t fit_label));
        clones_are = refl;
        dumps_are = among;
        put = front_put s a records g.held j.head.id k b.slot 0 all b.at (λ other no. ((λ same. no (sym same)), tt)) (λ d tape p there place holds_it. absurd (t.free d tape there holds_it));
        since = anew_since (OtherThan j.head.id) a.slots k b.slot b.at all (λ other no. ((λ same. no (sym same)), tt));
        gives = λ d there. inl (among d there);
      }
  tape_by b None is t fit_label enough uses fit known =
      let k : ℕ = j.reel.slot in
      let front : List Item = take (records_on j.reel) b.slot.items in
      let all : List Item = front ++ Says (frames.DumpHead (head_with uses j.head)) ∷ [] in
      let z : Archive = with_slot a k all in
      let few = remaining (listed_of a) (with_items k front a.slots) records in
      let among : (d : DumpRecordFields) → Contains few d → Contains records d = remaining_among (listed_of a) (with_items k front a.slots) records in
      let cut : StillHeld (listed_of a) a.slots (with_items k front a.slots) = cut_still_held (listed_of a) records a.slots a.contents g.held.seen.kept k (records_on j.reel) b.slot b.at t.behind in
      let put : StillHeld (listed_of a) (with_items k front a.slots) (with_items k all (with_items k front a.slots)) =
      still_put (listed_of a) (with_items k front a.slots) k (record b.slot { items = front }) (Says (frames.DumpHead (head_with uses j.head)) ∷ []) (slot_with k front a.slots b.slot b.at) in
      let both : StillHeld (listed_of a) a.slots (with_items k all a.slots) =
      subst (λ (l : List Slot). StillHeld (listed_of a) a.slots l) (with_twice k all front a.slots) (still_then (listed_of a) a.slots (with_items k front a.slots) (with_items k all (with_items k front a.slots)) cut put) in
      record {
        before = record { archive = a; records = records } ∷ record { archive = with_slot a k front; records = few } ∷ [];
        last = record { archive = z; records = few };
        made = m;
        held = appended_held s a records j m g b uses fit t known;
        log = sym (append-nil a.log);
        contents_are = refl;
        here = here_same k all a.slots;
        still = both;
        listed = λ d there. inl there;
        each = on_two a z records records _ _ (first_on a z records records) (slot_on a z records records k front few cut among);
        runs =
            runs_by (come (cuts k (records_on j.reel) ∷ puts_on k (Says (frames.DumpHead (head_with uses j.head)) ∷ [])) s) z few (taped_with None uses j) m (phase_begun j.hand) refl (appended_goes s a records j m g b uses fit t known)
            (begun_before a j m m.front all None uses j.hand refl b.comes b.none enough (appended_open s a records j m g b uses fit t known));
        clones_are = refl;
        dumps_are = among;
        put = front_put s a records g.held j.head.id k b.slot (records_on j.reel) (Says (frames.DumpHead (head_with uses j.head)) ∷ []) b.at (λ other no. ((λ same. no (sym same)), tt)) t.behind;
        since = cut_all_since (OtherThan j.head.id) a.slots k b.slot b.at (records_on j.reel) m.front (Says (frames.DumpHead (head_with uses j.head)) ∷ []) t.stands (λ other no. ((λ same. no (sym same)), tt));
        gives = λ d there. inl (among d there);
      }

  pub tape_keeps : (b : BeforeTape a j m) → IsFormed j → HasRoomBefore j → around.slots ≡ a.slots → KeepsBy (event_by phase.Tape around j)
  tape_keeps b form enough slots =
      let items : items_at around.slots j.reel.slot ≡ b.slot.items =
      ap (λ (l : List Slot). items_at l j.reel.slot) slots ∙ ap (λ (o : Option Slot). items_of o) b.at in
      let uses : ℕ = uses_for j (items_at around.slots j.reel.slot) in
      tape_by b j.label refl b.chosen form.label (begun_room j j.label enough) uses (head_fits j.head j.label (items_at around.slots j.reel.slot) form.head) (ap (uses_by j.label j.head.uses) items)

  -- ---- the steps of the volume in hand

  -- one frame was put on the tape in hand
  one_put : (t : Slot) (items : List Item) → slice_get a.slots j.reel.slot ≡ Some t → (next : JobFields) (m2 : Made) → m2.clones ≡ m.clones → AreOwn next.head.id items → AreSince (OtherThan next.head.id) a.slots (with_items j.reel.slot (t.items ++ items) a.slots) → AreHeld s (puts_on j.reel.slot items) (record { archive = a; records = records } ∷ record { archive = with_slot a j.reel.slot (t.items ++ items); records = records } ∷ [])
      → RunsIn (come (puts_on j.reel.slot items) s) (with_slot a j.reel.slot (t.items ++ items)) records next m2 → Keeps s a records a.contents m.clones records (puts_on j.reel.slot items) [] next
  one_put t items at next m2 clones own since held runs =
      let z : Archive = with_slot a j.reel.slot (t.items ++ items) in
      record {
        before = record { archive = a; records = records } ∷ [];
        last = record { archive = z; records = records };
        made = m2;
        held = held;
        log = sym (append-nil a.log);
        contents_are = refl;
        here = here_same j.reel.slot (t.items ++ items) a.slots;
        still = still_put (listed_of a) a.slots j.reel.slot t items at;
        listed = λ d there. inl there;
        each = on_one a z records records _ (first_on a z records records);
        runs = runs;
        clones_are = clones;
        dumps_are = λ d there. there;
        put = more_put s a records g.held next.head.id j.reel.slot t items at own;
        since = since;
        gives = λ d there. inl there;
      }

  end_put : (h : Hand) (x : HasOpenFragment a j h m) (last : ℕ) (next : JobFields) (m2 : Made) → m2.clones ≡ m.clones → next.head.id ≡ j.head.id → IsFitItem (Says (frames.VolEnd (fragment_end last h)))
      → RunsIn (come (puts_on j.reel.slot (end_items last h)) s) (with_slot a j.reel.slot (x.open_part.slot.items ++ end_items last h)) records next m2 → Keeps s a records a.contents m.clones records (puts_on j.reel.slot (end_items last h)) [] next
  end_put h x last next m2 clones id fit runs =
      let k : ℕ = j.reel.slot in
      let one : List Item = x.open_part.slot.items ++ Says (frames.VolEnd (fragment_end last h)) ∷ [] in
      let all : List Item = x.open_part.slot.items ++ end_items last h in
      let z : Archive = with_slot a k all in
      record {
        before = record { archive = a; records = records } ∷ record { archive = with_slot a k one; records = records } ∷ record { archive = z; records = records } ∷ [];
        last = record { archive = z; records = records };
        made = m2;
        held = end_held s a records j m g h x last fit;
        log = sym (append-nil a.log);
        contents_are = refl;
        here = here_same k all a.slots;
        still = still_put (listed_of a) a.slots k x.open_part.slot (end_items last h) x.open_part.at;
        listed = λ d there. inl there;
        each = on_three a z records records _ _ _ (first_on a z records records) (put_on_way a z records records k x.open_part.slot (Says (frames.VolEnd (fragment_end last h)) ∷ []) x.open_part.at) (put_on_way a z records records k x.open_part.slot (end_items last h) x.open_part.at);
        runs = runs;
        clones_are = clones;
        dumps_are = λ d there. there;
        put = more_put s a records g.held next.head.id k x.open_part.slot (end_items last h) x.open_part.at (λ other no. tt);
        since = open_since a j m (opening_items h.head m.pieces) x.open_part next.head.id id (λ other. only_pieces_none other m.pieces) (end_items last h) (λ other no. tt);
        gives = λ d there. inl there;
      }

  nothing_or : (xs : List ℕ) → (xs ≡ []) ⊎ (xs ≡ [] → ⊥)
  nothing_or [] = inl refl
  nothing_or (x ∷ xs) = inr (λ same. absurd (cc))

  piece_put : (h : Hand) → j.hand ≡ Some h → BeforePiece a j h m → IsFormedHand h → Keeps s a records a.contents m.clones records (puts_on j.reel.slot (piece_items h)) [] (pieced h j)
  piece_put h is b form =
      let fit : IsFitItem (Says (frames.Data (next_piece h))) = piece_fits h form b.left in
      let t : Slot = b.fragment.open_part.slot in
      let m2 : Made = record m { pieces = m.pieces ++ next_piece h ∷ [] } in
      let goes = piece_goes s a records j m g h b fit in
      let z : Archive = with_slot a j.reel.slot (t.items ++ piece_items h) in
      one_put t (piece_items h) b.fragment.open_part.at (pieced h j) m2 refl (λ other no. tt) (open_since a j m (opening_items h.head m.pieces) b.fragment.open_part j.head.id refl (λ other. only_pieces_none other m.pieces) (piece_items h) (λ other no. tt)) (piece_held s a records j m g h b fit)
      (elim (nothing_or (drop (next_used h) h.stream)) [
        | inl none ↦ runs_by (come (puts_on j.reel.slot (piece_items h)) s) z records (pieced h j) m2 phase.VolumeEnd (phase_over (drop (next_used h) h.stream) none) goes (piece_last s a records j m g h b none)
        | inr some ↦ runs_by (come (puts_on j.reel.slot (piece_items h)) s) z records (pieced h j) m2 phase.Piece (phase_left (drop (next_used h) h.stream) some) goes (piece_before s a records j m g h b some)
      ])

  cut_put : (h : Hand) → j.hand ≡ Some h → BeforePiece a j h m → IsFormedHand h → (m.pieces ≡ [] → ⊥) → Keeps s a records a.contents m.clones records (puts_on j.reel.slot (end_items 0 h)) [] (volume_cut j)
  cut_put h is b form some =
      let x = b.fragment in
      let fit : IsFitItem (Says (frames.VolEnd (fragment_end 0 h))) = fragment_end_fits h 0 form (omega arith) in
      let f : Fragment = record { head = h.head; pieces = m.pieces; end = fragment_end 0 h } in
      let z : Archive = with_slot a j.reel.slot (x.open_part.slot.items ++ end_items 0 h) in
      end_put h x 0 (volume_cut j) (with_fragment m f) refl refl fit
      (runs_by (come (puts_on j.reel.slot (end_items 0 h)) s) z records (volume_cut j) (with_fragment m f) phase.PartEnd refl (end_goes s a records j m g h x 0 phase.PartEnd fit)
      (subst (λ (o : Option Hand). WithHand (λ (y : Hand). BeforePartEnd z (volume_cut j) y (with_fragment m f)) o) (sym is) (cut_behind s a records j m g h b some)))

  pub piece_keeps : (h : Hand) → j.hand ≡ Some h → BeforePiece a j h m → IsFormedHand h → KeepsBy (piece_event h j)
  piece_keeps h is b form = elim (cases_Bool (has_room 3 2 (counts_on j.port j.reel))) [
    | inl hit ↦ rw hit (piece_put h is b form)
    | inr miss ↦ rw miss (cut_put h is b form (λ none. absurd (lack_room j 3 2 miss (b.room none))))
  ]

  volume_end_put : (h : Hand) → j.hand ≡ Some h → BeforeVolumeEnd a j h m → IsFormedHand h → Keeps s a records a.contents m.clones records (puts_on j.reel.slot (end_items 1 h)) [] (volume_ended h j)
  volume_end_put h is b form =
      let x = b.fragment in
      let fit : IsFitItem (Says (frames.VolEnd (fragment_end 1 h))) = fragment_end_fits h 1 form (omega arith) in
      let f : Fragment = record { head = h.head; pieces = m.pieces; end = fragment_end 1 h } in
      let m2 : Made = with_fragment m f in
      let z : Archive = with_slot a j.reel.slot (x.open_part.slot.items ++ end_items 1 h) in
      let last : JobFields = record j { reel = with_more 1 1 j.reel; phase = phase.DumpEnd } in
      let more : JobFields = record j { reel = with_more 1 1 j.reel; phase = phase.Clone } in
      end_put h x 1 (volume_ended h j) m2 refl refl fit
      (elim (cases_Bool (nat_lt (h.head.index + 1) (length j.places))) [
        | inl hit ↦
            rw hit
            (runs_by (come (puts_on j.reel.slot (end_items 1 h)) s) z records more m2 phase.Clone refl (end_goes s a records j m g h x 1 phase.Clone fit)
            (record { open_part = end_open s a records j m g h x 1 phase.Clone b.filled; hand = subst (CloneGoes z more m2) (sym is) (done_behind s a records j m g h x phase.Clone b.over) }))
        | inr miss ↦
            (let all : h.head.index + 1 ≡ j.head.volumes = omega (arith, lt_not (h.head.index + 1) (length j.places) miss, x.hand.goes.fits.below, g.count) in
            rw miss
            (runs_by (come (puts_on j.reel.slot (end_items 1 h)) s) z records last m2 phase.DumpEnd refl (end_goes s a records j m g h x 1 phase.DumpEnd fit)
            (subst (λ (o : Option Hand). WithHand (λ (y : Hand). BeforeDumpEnd z last y m2) o) (sym is)
            (record { open_part = end_open s a records j m g h x 1 phase.DumpEnd b.filled; hand = done_behind s a records j m g h x phase.DumpEnd b.over; all = all }))))
      ])

  pub volume_end_keeps : (h : Hand) → j.hand ≡ Some h → BeforeVolumeEnd a j h m → IsFormedHand h → Keeps s a records a.contents m.clones records (puts_on j.reel.slot (end_items 1 h)) [] (volume_ended h j)
  volume_end_keeps h is b form = volume_end_put h is b form

  -- ---- the end of a part

  ended_list : (o : IsOpen a j m []) (z : Archive) → All (IsOnTheWay a z records records)
      (record { archive = a; records = records } ∷ record { archive = with_slot a j.reel.slot (o.slot.items ++ Says (frames.DumpEnd (part_end 1 j)) ∷ []); records = records } ∷ record { archive = with_slot a j.reel.slot (o.slot.items ++ part_end_items 1 j); records = records } ∷ [])
  ended_list o z =
      on_three a z records records _ _ _ (first_on a z records records) (put_on_way a z records records j.reel.slot o.slot (Says (frames.DumpEnd (part_end 1 j)) ∷ []) o.at) (put_on_way a z records records j.reel.slot o.slot (part_end_items 1 j) o.at)

  -- the dump doesn't go on
  part_refused_kept : (o : IsOpen a j m []) → EndsEarly j.head.volumes m.fragments → IsFitItem (Says (frames.DumpEnd (part_end 1 j))) → Keeps s a records a.contents m.clones records (puts_on j.reel.slot (part_end_items 1 j)) [] (part_refused j)
  part_refused_kept o early fit =
      let z : Archive = with_slot a j.reel.slot (o.slot.items ++ part_end_items 1 j) in
      let held = part_held_all s a records j m g o early fit in
      record {
        before = record { archive = a; records = records } ∷ record { archive = with_slot a j.reel.slot (o.slot.items ++ Says (frames.DumpEnd (part_end 1 j)) ∷ []); records = records } ∷ record { archive = z; records = records } ∷ [];
        last = record { archive = z; records = records };
        made = m;
        held = held;
        log = sym (append-nil a.log);
        contents_are = refl;
        here = here_same j.reel.slot (o.slot.items ++ part_end_items 1 j) a.slots;
        still = still_put (listed_of a) a.slots j.reel.slot o.slot (part_end_items 1 j) o.at;
        listed = λ d there. inl there;
        each = ended_list o z;
        runs = runs_over (come (puts_on j.reel.slot (part_end_items 1 j)) s) z records (part_refused j) m refl (end_held_last s a records j m g o early fit);
        clones_are = refl;
        dumps_are = λ d there. there;
        put = more_put s a records g.held j.head.id j.reel.slot o.slot (part_end_items 1 j) o.at (λ other no. tt);
        since = open_since a j m [] o j.head.id refl (λ other. tt) (part_end_items 1 j) (λ other no. tt);
        gives = λ d there. inl there;
      }

  -- the next tape's dump set is forgotten, where one is
  took : (o : IsOpen a j m []) → EndsEarly j.head.volumes m.fragments → IsFitItem (Says (frames.DumpEnd (part_end 1 j))) → (take : Option ℕ) → AreChanges (takes take) → (next : JobFields) (m2 : Made) → m2.clones ≡ m.clones → next.head.id ≡ j.head.id
      → RunsIn (come (committing (takes take)) (come (puts_on j.reel.slot (part_end_items 1 j)) s)) (passed_archive take (with_slot a j.reel.slot (o.slot.items ++ part_end_items 1 j))) (passed_records take (with_slot a j.reel.slot (o.slot.items ++ part_end_items 1 j)) records) next m2
      → Keeps s a records a.contents m.clones records (puts_on j.reel.slot (part_end_items 1 j) ++ committing (takes take)) (takes take) next
  took o early fit None forms next m2 clones id runs =
      let k : ℕ = j.reel.slot in
      let y : Archive = with_slot a k (o.slot.items ++ part_end_items 1 j) in
      let z : Archive = passed_archive None y in
      let same : y ≡ z = ap (λ (l : List Change). with_log y l) (sym (append-nil a.log)) in
      let puts_all : puts_on k (part_end_items 1 j) ≡ puts_on k (part_end_items 1 j) ++ [] = sym (append-nil (puts_on k (part_end_items 1 j))) in
      let first : List Kept = record { archive = a; records = records } ∷ record { archive = with_slot a k (o.slot.items ++ Says (frames.DumpEnd (part_end 1 j)) ∷ []); records = records } ∷ record { archive = y; records = records } ∷ [] in
      record {
        before = first;
        last = record { archive = z; records = records };
        made = m2;
        held = subst (λ (es : List Effect). AreHeld s es (first ++ record { archive = z; records = records } ∷ [])) puts_all
            (subst (λ (x : Archive). AreHeld s (puts_on k (part_end_items 1 j)) (first ++ record { archive = x; records = records } ∷ [])) same (part_held_all s a records j m g o early fit));
        log = refl;
        contents_are = refl;
        here = here_same k (o.slot.items ++ part_end_items 1 j) a.slots;
        still = still_put (listed_of z) a.slots k o.slot (part_end_items 1 j) o.at;
        listed = λ d there. inl (took_among None y d there);
        each = ended_list o z;
        runs = subst (λ (t : State). RunsIn t z records next m2) (sym (come_append (puts_on k (part_end_items 1 j)) [] s)) runs;
        clones_are = clones;
        dumps_are = λ d there. there;
        put = more_put s a records g.held next.head.id k o.slot (part_end_items 1 j) o.at (λ other no. tt);
        since = open_since a j m [] o next.head.id id (λ other. tt) (part_end_items 1 j) (λ other no. tt);
        gives = λ d there. inl there;
      }
  took o early fit (Some initial) forms next m2 clones id runs =
      let k : ℕ = j.reel.slot in
      let y : Archive = with_slot a k (o.slot.items ++ part_end_items 1 j) in
      let z : Archive = passed_archive (Some initial) y in
      let few : List DumpRecordFields = passed_records (Some initial) y records in
      let first : List Kept = record { archive = a; records = records } ∷ record { archive = with_slot a k (o.slot.items ++ Says (frames.DumpEnd (part_end 1 j)) ∷ []); records = records } ∷ record { archive = y; records = records } ∷ [] in
      let ended : State = come (puts_on k (part_end_items 1 j)) s in
      record {
        before = first ++ record { archive = y; records = records } ∷ [];
        last = record { archive = z; records = few };
        made = m2;
        held = held_then s (puts_on k (part_end_items 1 j)) (committing (takes (Some initial))) first (record { archive = y; records = records }) (record { archive = z; records = few } ∷ []) (part_held_all s a records j m g o early fit)
            (end_held_last s a records j m g o early fit, take_held (Some initial) ended y records (end_held_last s a records j m g o early fit) forms);
        log = refl;
        contents_are = refl;
        here = here_same k (o.slot.items ++ part_end_items 1 j) a.slots;
        still = still_put (listed_of z) a.slots k o.slot (part_end_items 1 j) o.at;
        listed = λ d there. inl (took_among (Some initial) y d there);
        each = on_four a z records records _ _ _ _ (first_on a z records records) (put_on_way a z records records k o.slot (Says (frames.DumpEnd (part_end 1 j)) ∷ []) o.at) (put_on_way a z records records k o.slot (part_end_items 1 j) o.at) (put_on_way a z records records k o.slot (part_end_items 1 j) o.at);
        runs = subst (λ (t : State). RunsIn t z few next m2) (sym (come_append (puts_on k (part_end_items 1 j)) (committing (takes (Some initial))) s)) runs;
        clones_are = clones;
        dumps_are = λ d there. among_passed (Some initial) y records d there;
        put = more_put s a records g.held next.head.id k o.slot (part_end_items 1 j) o.at (λ other no. tt);
        since = open_since a j m [] o next.head.id id (λ other. tt) (part_end_items 1 j) (λ other no. tt);
        gives = λ d there. inl (among_passed (Some initial) y records d there);
      }

  choice_is : (c : Chosen) (b : Bool) (o : Option Chosen) → (if b then o else None) ≡ Some c → o ≡ Some c
  choice_is c true o is = is
  choice_is c false o is = absurd (cc)

  closed_by : (cut : Bool) (o : IsOpen a j m []) → (early : EndsEarly j.head.volumes m.fragments) → (fit : IsFitItem (Says (frames.DumpEnd (part_end 1 j)))) → (c : Chosen) → next_choice (listed_of a) a.slots j ≡ Some c → (t : Bool) → AreChanges (if t then [] else takes c.take)
      → ((chosen : IsChosenOf (listed_of a) (next_wanting (listed_of a) j) a.slots c) → AreChanges (takes c.take) → BeforeTape (passed_archive c.take (with_slot a j.reel.slot (o.slot.items ++ part_end_items 1 j))) (part_passed cut c j) (passed_made j m))
      → Keeps s a records a.contents m.clones records (puts_on j.reel.slot (part_end_items 1 j) ++ committing (if t then [] else takes c.take)) (if t then [] else takes c.take) (if t then part_refused j else part_passed cut c j)
  closed_by cut o early fit c is true forms before =
      subst (λ (es : List Effect). Keeps s a records a.contents m.clones records es [] (part_refused j)) (sym (append-nil (puts_on j.reel.slot (part_end_items 1 j)))) (part_refused_kept o early fit)
  closed_by cut o early fit c is false forms before =
      let chosen_is : IsChosenOf (listed_of a) (next_wanting (listed_of a) j) a.slots c = chosen_of (listed_of a) (next_wanting (listed_of a) j) j.port a.slots c (choice_is c (may_go_on j) (choice_of (listed_of a) (chosen (listed_of a) (next_wanting (listed_of a) j) j.port a.slots)) is) in
      let y : Archive = with_slot a j.reel.slot (o.slot.items ++ part_end_items 1 j) in
      took o early fit c.take forms (part_passed cut c j) (passed_made j m) refl refl
      (runs_by (come (committing (takes c.take)) (come (puts_on j.reel.slot (part_end_items 1 j)) s)) (passed_archive c.take y) (passed_records c.take y records) (part_passed cut c j) (passed_made j m) phase.Tape refl
      (passed_goes s a records j m g o early fit c chosen_is forms cut) (before chosen_is forms))

  part_by : (cut : Bool) (o : IsOpen a j m []) → (early : EndsEarly j.head.volumes m.fragments) → (fit : IsFitItem (Says (frames.DumpEnd (part_end 1 j)))) → (size : ℕ) (choice : Option Chosen) → next_choice (listed_of a) a.slots j ≡ choice → AreChanges (part_end_by cut choice size j).changes
      → ((c : Chosen) (chosen : IsChosenOf (listed_of a) (next_wanting (listed_of a) j) a.slots c) → AreChanges (takes c.take) → BeforeTape (passed_archive c.take (with_slot a j.reel.slot (o.slot.items ++ part_end_items 1 j))) (part_passed cut c j) (passed_made j m))
      → KeepsBy (part_end_by cut choice size j)
  part_by cut o early fit size None is forms before = part_refused_kept o early fit
  part_by cut o early fit size (Some c) is forms before = closed_by cut o early fit c is (is_too_long size (takes c.take)) forms (before c)

  same_choice : around.listed ≡ listed_of a → around.slots ≡ a.slots → next_choice (listed_of a) a.slots j ≡ next_choice around.listed around.slots j
  same_choice listed slots = ap (λ (l : List DumpRecordFields). next_choice l a.slots j) (sym listed) ∙ ap (λ (l : List Slot). next_choice around.listed l j) (sym slots)

  pub part_end_keeps : (h : Hand) → j.hand ≡ Some h → BeforePartEnd a j h m → IsFormed j → around.listed ≡ listed_of a → around.slots ≡ a.slots → AreChanges (part_end_event true around j).changes → KeepsBy (part_end_event true around j)
  part_end_keeps h is b form listed slots forms =
      let early : EndsEarly j.head.volumes m.fragments = inl (ends_so (λ (f : Fragment). (f.head ≡ h.head) × (f.end.last ≡ 0)) (λ (f : Fragment). f.end.last ≡ 0) m.fragments (λ f x. x.1) b.last) in
      let fit : IsFitItem (Says (frames.DumpEnd (part_end 1 j))) = end_fits j 1 form.head (omega arith) in
      let o : IsOpen a j m [] = b.open_part in
      part_by true o early fit around.log_size (next_choice around.listed around.slots j) (same_choice listed slots) forms
      (λ c chosen_is changes.
      passed_before s a records j m g o early fit c chosen_is changes true
      (subst (λ (x : Option Hand). Comes (passed_archive c.take (with_slot a j.reel.slot (o.slot.items ++ part_end_items 1 j))) (part_passed true c j) (passed_made j m) (next_hand true j.head.tape x)) (sym is)
      (comes_cut s a records j m g o early fit c chosen_is changes true h b)))

  -- ---- the head of a fragment

  head_put : (h : Hand) → j.hand ≡ Some h → BeforeHead a j h m → HasRoom 4 2 (counts_on j.port j.reel) → IsFormedHand h → Keeps s a records a.contents m.clones records (puts_on j.reel.slot (head_items h)) [] (headed h j)
  head_put h is b enough form =
      let t : Slot = b.open_part.slot in
      let z : Archive = with_slot a j.reel.slot (t.items ++ head_items h) in
      one_put t (head_items h) b.open_part.at (headed h j) m refl (λ other no. tt) (open_since a j m [] b.open_part j.head.id refl (λ other. tt) (head_items h) (λ other no. tt)) (head_held s a records j m g h b form.head)
      (runs_by (come (puts_on j.reel.slot (head_items h)) s) z records (headed h j) m phase.Piece (phase_left h.stream b.left) (head_goes s a records j m g h b form.head) (head_before s a records j m g h b enough))

  come_ends : (h : Hand) (fs : List Fragment) → MayCome m.ended fs h.head → (fs ≡ [] → ⊥) → Ends (λ f. (f.end.last ≡ 1) × NextVolume f.head h.head) fs
  come_ends h [] comes some = absurd (some refl)
  come_ends h (f ∷ fs) comes some = comes

  full_put : (h : Hand) → j.hand ≡ Some h → (b : BeforeHead a j h m) → (m.fragments ≡ [] → ⊥) → IsFormed j → around.listed ≡ listed_of a → around.slots ≡ a.slots → AreChanges (part_end_event false around j).changes → KeepsBy (part_end_event false around j)
  full_put h is b some form listed slots forms =
      let last = come_ends h m.fragments b.hand.comes some in
      let below : h.head.index < j.head.volumes = b.hand.goes.fits.below in
      let early : EndsEarly j.head.volumes m.fragments = inr (ends_so (λ (f : Fragment). (f.end.last ≡ 1) × NextVolume f.head h.head) (λ (f : Fragment). f.head.index + 1 < j.head.volumes) m.fragments (λ f x. omega (arith, x.1.0, below)) last) in
      let fit : IsFitItem (Says (frames.DumpEnd (part_end 1 j))) = end_fits j 1 form.head (omega arith) in
      let o : IsOpen a j m [] = b.open_part in
      part_by false o early fit around.log_size (next_choice around.listed around.slots j) (same_choice listed slots) forms
      (λ c chosen_is changes.
      passed_before s a records j m g o early fit c chosen_is changes false
      (subst (λ (x : Option Hand). Comes (passed_archive c.take (with_slot a j.reel.slot (o.slot.items ++ part_end_items 1 j))) (part_passed false c j) (passed_made j m) (next_hand false j.head.tape x)) (sym is)
      (comes_whole s a records j m g o early fit c chosen_is changes false h b last)))

  pub head_keeps : (h : Hand) → j.hand ≡ Some h → BeforeHead a j h m → IsFormed j → IsFormedHand h → around.listed ≡ listed_of a → around.slots ≡ a.slots → AreChanges (head_event around h j).changes → KeepsBy (head_event around h j)
  head_keeps h is b form hand listed slots forms = elim (cases_Bool (has_room 4 2 (counts_on j.port j.reel))) [
    | inl hit ↦ rw hit (head_put h is b (has_enough j 4 2 hit) hand)
    | inr miss ↦
        (let changes : AreChanges (part_end_event false around j).changes = rw miss at forms in
        rw miss (full_put h is b (λ none. lack_room j 4 2 miss (b.room none)) form listed slots changes))
  ]
