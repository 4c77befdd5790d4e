-- Each event of a dump keeps the archive.
use Rattle.std.proofs.Common.{◌≡◌, ℕ, zero, suc, Bool, true, false, Option, Some, None, List, [], ◌∷◌, ◌++◌, refl, sym, ap, subst, ◌∙◌, arith, inl, inr, append-nil}
use Rattle.std.specs.Prelude.{if◌then◌else◌, IfSome, Result, All, Contains, slice_get}
use Rattle.std.proofs.lemmas.List.Elements.{All-nil, All-head, All-tail, Contains-push_cases}
use Rattle.vnode_model.specs.declared.volumes.VolumeFields.{VolumeFields}
use Rattle.cell_core.specs.declared.stored.Taken.{Taken}
use Rattle.tape_frames.specs.declared.frame.Frame.TheVariants as frames
use Rattle.budb_changes.specs.declared.change.Change.{Change}
use Rattle.budb_changes.specs.declared.change.Change.TheVariants.{Done}
use Rattle.budb_changes.specs.declared.records.VolRecordFields.{VolRecordFields}
use Rattle.budb_fold.specs.Lookups.{volume_of}
use Rattle.budb_changes.specs.declared.records.DumpRecordFields.{DumpRecordFields}
use Rattle.budb_changes.specs.Forms.{AreChanges}
use Rattle.plant_core.specs.Crashes.{State}
use Rattle.plant_core.specs.Effects.{Effect, come, Joint}
use Rattle.plant_core.specs.Stock.{Stock}
use Rattle.tape_text.specs.Items.{Item, Says, Filemark, IsFitItem}
use Rattle.tape_writer.specs.Puts.{puts_on}
use Rattle.archive_model.specs.Archives.{Archive, Refusal, listed_of}
use Rattle.archive_model.specs.Settled.{Kept}
use Rattle.archive_model.specs.Turns.{with_items, with_log, with_slot, with_contents, GivesNext, StillHeld}
use Rattle.dump_job.specs.declared.fields.Hand.{Hand}
use Rattle.dump_job.specs.declared.fields.JobFields.{JobFields}
use Rattle.dump_job.specs.declared.fields.Phase.{Phase}
use Rattle.dump_job.specs.declared.fields.Phase.TheVariants as phase
use Rattle.dump_job.specs.Cloning.{record_with, with_hand, volumes_done}
use Rattle.dump_job.specs.Volumes.{volume_ended, end_items}
use Rattle.dump_job.specs.Ending.{part_end, part_end_items, done_record}
use Rattle.dump_job.specs.Closing.{committing, is_too_long, done_changes, dump_ended}
use Rattle.dump_job.specs.Events.{Around, Event, putting, head_event, piece_event, part_end_event, hand_event, event_by, event}
use Rattle.dump_laws.specs.Made.{Made}
use Rattle.dump_laws.specs.Running.{basis_of, Goes, BeforeHead, BeforePiece, BeforeVolumeEnd, BeforePartEnd, BeforeDumpEnd, WithHand, Before, UnlessOver, RunsIn}
use Rattle.dump_laws.specs.Growing.{with_dump, record_done}
use Rattle.dump_laws.specs.Keeping.{IsFormedHand, IsFormed, Asks, MayStep, contents_behind, clones_behind, dumps_behind, AreAllHeld, IsBetween, IsOnTheWay, Keeps, ImageHolds}
use Rattle.archive_model.proofs.FoundLaws.{found_held}
use Rattle.archive_model.proofs.StillLaws.{joint_holds}
use Rattle.dump_laws.proofs.NeighbourLaws.{get_more}
use Rattle.tape_scan.specs.Slots.{Slot}
use Rattle.archive_model.proofs.JobLaws.{slot_with}
use Rattle.dump_laws.proofs.StayingLaws.{still_self, still_then, still_put, still_whole}
use Rattle.dump_laws.proofs.PutLaws.{same_put, twice_put}
use Rattle.dump_laws.proofs.OpenSince.{twice_since}
use Rattle.saved_archives.specs.Since.{OtherThan}
use Rattle.saved_archives.proofs.SinceLaws.{all_same}
use Rattle.dump_laws.proofs.FormLaws.{end_fits}
use Rattle.dump_laws.proofs.DumpEnds.{gives_there, ended_done, ended_unlisted}
use Rattle.dump_laws.proofs.Stepping.{runs_over, here_same, first_on, put_on_way, on_three, on_four, clone_keeps, tape_keeps, head_keeps, piece_keeps, volume_end_keeps, part_end_keeps}

module _ (s : State) (a : Archive) (records : List DumpRecordFields) (around : Around) (j : JobFields) (m : Made) where
  abbrev KeepsOver : (ℕ → List ℕ → Result VolumeFields Refusal) → List Taken → List DumpRecordFields → Event → Type 0
  KeepsOver contents clones dumps e = Keeps s a records contents clones dumps e.effects e.changes e.job

  abbrev KeepsTo : (ℕ → List ℕ → Result VolumeFields Refusal) → Event → Type 0
  KeepsTo contents e = KeepsOver contents m.clones records e

  abbrev with_done : List DumpRecordFields
  with_done = records ++ done_record j ∷ []

  -- ---- the end of a dump

  abbrev grown : ℕ → List ℕ → Result VolumeFields Refusal
  grown = with_dump a.contents (basis_of j) m.clones

  -- a tape on which more was put twice
  twice_held : (listed : List DumpRecordFields) (t : Slot) (more next : List Item) → slice_get a.slots j.reel.slot ≡ Some t → StillHeld listed a.slots (with_items j.reel.slot ((t.items ++ more) ++ next) (with_items j.reel.slot (t.items ++ more) a.slots))
  twice_held listed t more next at =
      let k : ℕ = j.reel.slot in
      let one : List Slot = with_items k (t.items ++ more) a.slots in
      still_then listed a.slots one (with_items k ((t.items ++ more) ++ next) one) (still_put listed a.slots k t more at) (still_put listed one k (record t { items = t.items ++ more }) next (slot_with k (t.items ++ more) a.slots t at))

  twice_on : (z : Archive) (t : Slot) (more next : List Item) (records2 : List DumpRecordFields) → slice_get a.slots j.reel.slot ≡ Some t → z.contents ≡ grown → ((d : DumpRecordFields) → Contains records2 d → Contains with_done d)
      → IsOnTheWay a z records with_done (record { archive = with_contents (with_slot (with_slot a j.reel.slot (t.items ++ more)) j.reel.slot ((t.items ++ more) ++ next)) grown; records = records2 })
  twice_on z t more next records2 at contents among = record {
    between = inl (refl, inr (sym contents));
    here = here_same j.reel.slot ((t.items ++ more) ++ next) (with_items j.reel.slot (t.items ++ more) a.slots) ∙ here_same j.reel.slot (t.items ++ more) a.slots;
    still = twice_held (listed_of a) t more next at;
    listed = λ d there. inl there;
    dumps_are = λ d there. inr (among d there);
  }

  -- the dumps with the one that is made
  one_joins : (vs : List VolRecordFields) → volumes_done j ≡ vs → (d : DumpRecordFields) → Contains (records ++ record_done j vs ∷ []) d → Contains with_done d
  one_joins vs none d there = subst (λ (l : List VolRecordFields). Contains (records ++ record_done j l ∷ []) d) (sym none) there

  dump_listed : (g : Goes s a records j m) (h : Hand) (b : BeforeDumpEnd a j h m) → volumes_done j ≡ j.volumes ++ record_with j.head.tape h ∷ [] → IsFitItem (Says (frames.DumpEnd (part_end 0 j))) → AreChanges (Done (record_done j (j.volumes ++ record_with j.head.tape h ∷ [])) ∷ [])
      → Keeps s a records grown m.clones with_done (puts_on j.reel.slot (part_end_items 0 j) ++ committing (Done (record_done j (j.volumes ++ record_with j.head.tape h ∷ [])) ∷ [])) (Done (record_done j (j.volumes ++ record_with j.head.tape h ∷ [])) ∷ []) (dump_ended j)
  unfolding puts_on
  dump_listed g h b none fit forms =
      let d : DumpRecordFields = record_done j (j.volumes ++ record_with j.head.tape h ∷ []) in
      let k : ℕ = j.reel.slot in
      let one : List Item = b.open_part.slot.items ++ Says (frames.DumpEnd (part_end 0 j)) ∷ [] in
      let put : Archive = with_slot a k one in
      let ended : Archive = with_contents (with_slot put k (one ++ Filemark ∷ [])) grown in
      let z : Archive = with_log ended (a.log ++ Done d ∷ []) in
      let held = ended_done s a records j m g h b fit forms in
      record {
        before = record { archive = a; records = records } ∷ record { archive = put; records = records } ∷ record { archive = ended; records = records ++ d ∷ [] } ∷ record { archive = ended; records = records ++ d ∷ [] } ∷ [];
        last = record { archive = z; records = records ++ d ∷ [] };
        made = m;
        held = held;
        log = refl;
        contents_are = refl;
        here = here_same k (one ++ Filemark ∷ []) put.slots ∙ here_same k one a.slots;
        still = twice_held (listed_of z) b.open_part.slot (Says (frames.DumpEnd (part_end 0 j)) ∷ []) (Filemark ∷ []) b.open_part.at;
        listed = λ e there. elim (held.1.1.0.seen.kept.dumps.sound e (held.1.1.1.1.seen.kept.dumps.complete e (inl there))) [
          | inl old ↦ inl old
          | inr new ↦ inr (found_held z.slots new.parts e new.found)
        ];
        each = on_four a z records with_done _ _ _ _ (first_on a z records with_done) (put_on_way a z records with_done k b.open_part.slot (Says (frames.DumpEnd (part_end 0 j)) ∷ []) b.open_part.at) (twice_on z b.open_part.slot (Says (frames.DumpEnd (part_end 0 j)) ∷ []) (Filemark ∷ []) (records ++ d ∷ []) b.open_part.at refl (one_joins (j.volumes ++ record_with j.head.tape h ∷ []) none)) (twice_on z b.open_part.slot (Says (frames.DumpEnd (part_end 0 j)) ∷ []) (Filemark ∷ []) (records ++ d ∷ []) b.open_part.at refl (one_joins (j.volumes ++ record_with j.head.tape h ∷ []) none));
        runs = runs_over (come (puts_on k (part_end_items 0 j) ++ committing (Done d ∷ [])) s) z (records ++ d ∷ []) (dump_ended j) m refl held.1.1.1.1;
        clones_are = refl;
        dumps_are = one_joins (j.volumes ++ record_with j.head.tape h ∷ []) none;
        put = twice_put s a records g.held j.head.id k b.open_part.slot (Says (frames.DumpEnd (part_end 0 j)) ∷ []) (Filemark ∷ []) b.open_part.at (λ other no. tt);
        since = twice_since a j m [] b.open_part j.head.id refl (λ other. tt) (Says (frames.DumpEnd (part_end 0 j)) ∷ []) (Filemark ∷ []) (λ other no. tt);
        gives = λ e there. elim (Contains-push_cases records d e there) [
          | inl old ↦ inl old
          | inr same ↦ inr (subst (λ (x : DumpRecordFields). (name : List ℕ) (v : VolRecordFields) → volume_of x name ≡ Some v → GivesNext z.slots z.contents x name v) same (gives_there s a records j m g h b fit))
        ];
      }

  dump_unlisted : (g : Goes s a records j m) (h : Hand) (b : BeforeDumpEnd a j h m) → volumes_done j ≡ j.volumes ++ record_with j.head.tape h ∷ [] → IsFitItem (Says (frames.DumpEnd (part_end 0 j))) → Keeps s a records grown m.clones with_done (puts_on j.reel.slot (part_end_items 0 j)) [] (dump_ended j)
  unfolding puts_on
  dump_unlisted g h b none fit =
      let d : DumpRecordFields = record_done j (j.volumes ++ record_with j.head.tape h ∷ []) in
      let k : ℕ = j.reel.slot in
      let one : List Item = b.open_part.slot.items ++ Says (frames.DumpEnd (part_end 0 j)) ∷ [] in
      let put : Archive = with_slot a k one in
      let z : Archive = with_contents (with_slot put k (one ++ Filemark ∷ [])) grown in
      let held = ended_unlisted s a records j m g h b fit in
      record {
        before = record { archive = a; records = records } ∷ record { archive = put; records = records } ∷ record { archive = z; records = records ++ d ∷ [] } ∷ [];
        last = record { archive = z; records = records ++ d ∷ [] };
        made = m;
        held = held;
        log = sym (append-nil a.log);
        contents_are = refl;
        here = here_same k (one ++ Filemark ∷ []) put.slots ∙ here_same k one a.slots;
        still = twice_held (listed_of z) b.open_part.slot (Says (frames.DumpEnd (part_end 0 j)) ∷ []) (Filemark ∷ []) b.open_part.at;
        listed = λ e there. inl there;
        each = on_three a z records with_done _ _ _ (first_on a z records with_done) (put_on_way a z records with_done k b.open_part.slot (Says (frames.DumpEnd (part_end 0 j)) ∷ []) b.open_part.at) (twice_on z b.open_part.slot (Says (frames.DumpEnd (part_end 0 j)) ∷ []) (Filemark ∷ []) (records ++ d ∷ []) b.open_part.at refl (one_joins (j.volumes ++ record_with j.head.tape h ∷ []) none));
        runs = runs_over (come (puts_on k (part_end_items 0 j)) s) z (records ++ d ∷ []) (dump_ended j) m refl held.1.1.1;
        clones_are = refl;
        dumps_are = one_joins (j.volumes ++ record_with j.head.tape h ∷ []) none;
        put = twice_put s a records g.held j.head.id k b.open_part.slot (Says (frames.DumpEnd (part_end 0 j)) ∷ []) (Filemark ∷ []) b.open_part.at (λ other no. tt);
        since = twice_since a j m [] b.open_part j.head.id refl (λ other. tt) (Says (frames.DumpEnd (part_end 0 j)) ∷ []) (Filemark ∷ []) (λ other no. tt);
        gives = λ e there. elim (Contains-push_cases records d e there) [
          | inl old ↦ inl old
          | inr same ↦ inr (subst (λ (x : DumpRecordFields). (name : List ℕ) (v : VolRecordFields) → volume_of x name ≡ Some v → GivesNext z.slots z.contents x name v) same (gives_there s a records j m g h b fit))
        ];
      }

  dump_closed : (g : Goes s a records j m) (h : Hand) (b : BeforeDumpEnd a j h m) → volumes_done j ≡ j.volumes ++ record_with j.head.tape h ∷ [] → IsFitItem (Says (frames.DumpEnd (part_end 0 j))) → (t : Bool) → AreChanges (if t then [] else Done (record_done j (j.volumes ++ record_with j.head.tape h ∷ [])) ∷ [])
      → Keeps s a records grown m.clones with_done (puts_on j.reel.slot (part_end_items 0 j) ++ committing (if t then [] else Done (record_done j (j.volumes ++ record_with j.head.tape h ∷ [])) ∷ [])) (if t then [] else Done (record_done j (j.volumes ++ record_with j.head.tape h ∷ [])) ∷ [])
      (if t then dump_ended j else dump_ended j)
  dump_closed g h b none fit true forms = subst (λ (es : List Effect). Keeps s a records grown m.clones with_done es [] (dump_ended j)) (sym (append-nil (puts_on j.reel.slot (part_end_items 0 j)))) (dump_unlisted g h b none fit)
  dump_closed g h b none fit false forms = dump_listed g h b none fit forms

  dump_end_by : (g : Goes s a records j m) → IsFormed j → (o : Option Hand) → j.hand ≡ o → WithHand (λ h. BeforeDumpEnd a j h m) o → AreChanges (event_by phase.DumpEnd around j).changes → KeepsOver grown m.clones with_done (event_by phase.DumpEnd around j)
  dump_end_by g form None is b forms = absurd b
  dump_end_by g form (Some h) is b forms =
      let fit : IsFitItem (Says (frames.DumpEnd (part_end 0 j))) = end_fits j 0 form.head (omega arith) in
      let vs : List VolRecordFields = j.volumes ++ record_with j.head.tape h ∷ [] in
      let none : volumes_done j ≡ vs = ap (λ (o : Option Hand). with_hand j.head.tape o j.volumes) is in
      let long : Bool = is_too_long around.log_size (done_changes j) in
      let changes : AreChanges (if long then [] else Done (record_done j vs) ∷ []) = subst (λ (l : List VolRecordFields). AreChanges (if long then [] else Done (record_done j l) ∷ [])) none forms in
      subst
      (λ (l : List VolRecordFields). Keeps s a records grown m.clones with_done (puts_on j.reel.slot (part_end_items 0 j) ++ committing (if long then [] else Done (record_done j l) ∷ [])) (if long then [] else Done (record_done j l) ∷ []) (if long then dump_ended j else dump_ended j)) (sym none)
      (dump_closed g h b none fit long changes)

  -- ---- by the phase

  formed_hand : IsFormed j → (h : Hand) → j.hand ≡ Some h → IsFormedHand h
  formed_hand form h is = subst (λ (o : Option Hand). IfSome o IsFormedHand) is form.hand

  head_by : Goes s a records j m → IsFormed j → around.listed ≡ listed_of a → around.slots ≡ a.slots → (o : Option Hand) → j.hand ≡ o → WithHand (λ h. BeforeHead a j h m) o → AreChanges (hand_event (λ h. head_event around h j) o j).changes → KeepsTo a.contents (hand_event (λ h. head_event around h j) o j)
  head_by g form listed slots None is b forms = absurd b
  head_by g form listed slots (Some h) is b forms = head_keeps s a records around j m g h is b form (formed_hand form h is) listed slots forms

  piece_by : Goes s a records j m → IsFormed j → (o : Option Hand) → j.hand ≡ o → WithHand (λ h. BeforePiece a j h m) o → KeepsTo a.contents (hand_event (λ h. piece_event h j) o j)
  piece_by g form None is b = absurd b
  piece_by g form (Some h) is b = piece_keeps s a records around j m g h is b (formed_hand form h is)

  volume_end_by : Goes s a records j m → IsFormed j → (o : Option Hand) → j.hand ≡ o → WithHand (λ h. BeforeVolumeEnd a j h m) o → KeepsTo a.contents (hand_event (λ h. putting (end_items 1 h) j (volume_ended h j)) o j)
  volume_end_by g form None is b = absurd b
  volume_end_by g form (Some h) is b = volume_end_keeps s a records around j m g h is b (formed_hand form h is)

  part_end_by_hand : Goes s a records j m → IsFormed j → around.listed ≡ listed_of a → around.slots ≡ a.slots → (o : Option Hand) → j.hand ≡ o → WithHand (λ h. BeforePartEnd a j h m) o → AreChanges (part_end_event true around j).changes → KeepsTo a.contents (part_end_event true around j)
  part_end_by_hand g form listed slots None is b forms = absurd b
  part_end_by_hand g form listed slots (Some h) is b forms = part_end_keeps s a records around j m g h is b form listed slots forms

  by_phase : (known : List DumpRecordFields) → RunsIn s a records j m → IsFormed j → around.listed ≡ listed_of a → around.slots ≡ a.slots → (p : Phase) → UnlessOver p (Goes s a records j m) → Before a j m p → Asks a known around j p → AreChanges (event_by p around j).changes → KeepsOver (contents_behind a j m p) (clones_behind around j m p) (dumps_behind records j p) (event_by p around j)
  by_phase known r form listed slots phase.Tape g b asks forms = tape_keeps s a records around j m g b form asks slots
  by_phase known r form listed slots phase.Clone g b asks forms = clone_keeps s a records around j m g known b asks
  by_phase known r form listed slots phase.Head g b asks forms = head_by g form listed slots j.hand refl b forms
  by_phase known r form listed slots phase.Piece g b asks forms = piece_by g form j.hand refl b
  by_phase known r form listed slots phase.VolumeEnd g b asks forms = volume_end_by g form j.hand refl b
  by_phase known r form listed slots phase.PartEnd g b asks forms = part_end_by_hand g form listed slots j.hand refl b forms
  by_phase known r form listed slots phase.DumpEnd g b asks forms = dump_end_by g form j.hand refl b forms
  by_phase known r form listed slots phase.Over g b asks forms = record {
    before = [];
    last = record { archive = a; records = records };
    made = m;
    held = r.held;
    log = sym (append-nil a.log);
    contents_are = refl;
    here = refl;
    still = still_self (listed_of a) a.slots;
    listed = λ d there. inl there;
    each = All-nil (IsOnTheWay a a records records);
    runs = r;
    clones_are = refl;
    dumps_are = λ d there. there;
    put = same_put s a records r.held j.head.id;
    since = all_same (OtherThan j.head.id) a.slots;
    gives = λ d there. inl there;
  }

  -- Each event keeps the archive: what it puts and commits is held settled, step by step, and the dump runs on.
  pub each_event : RunsIn s a records j m → (known : List DumpRecordFields) → MayStep a known around j → KeepsOver (contents_behind a j m j.phase) (clones_behind around j m j.phase) (dumps_behind records j j.phase) (event around j)
  each_event r known may = by_phase known r may.form may.listed may.slots j.phase r.goes r.before may.asks may.changes

-- ---- images

on_the_way : (Is : Kept → Type 0) (before : List Kept) (x : Kept) (count : ℕ) → All Is before → slice_get before count ≡ Some x → Is x
on_the_way Is [] x count each at = absurd (cc)
on_the_way Is (y ∷ before) x zero each at = (let same : y ≡ x = cc in subst Is same (All-head Is y before each))
on_the_way Is (y ∷ before) x (suc count) each at = on_the_way Is before x count (All-tail Is y before each) at

-- what is between one archive and another is between it and the other's log and contents by any name
between_as : (a z : Archive) (log : List Change) (contents : ℕ → List ℕ → Result VolumeFields Refusal) (x : Archive) → z.log ≡ log → z.contents ≡ contents → IsBetween a z.log z.contents x → IsBetween a log contents x
between_as a z log contents x logs same (inl (old, inl stays)) = inl (old, inl stays)
between_as a z log contents x logs same (inl (old, inr new)) = inl (old, inr (new ∙ same))
between_as a z log contents x logs same (inr (new, all)) = inr (new ∙ logs, all ∙ same)

-- What a crash leaves of effects that keep an archive holds an archive on the way.
pub image_holds : (s : State) (a : Archive) (records : List DumpRecordFields) (contents : ℕ → List ℕ → Result VolumeFields Refusal) (clones : List Taken) (dumps : List DumpRecordFields) (effects : List Effect) (changes : List Change) (next : JobFields) → Keeps s a records contents clones dumps effects changes next → (old c : Stock) → Joint s effects old c → ImageHolds a (a.log ++ changes) contents c
image_holds s a records contents clones dumps effects changes next k old c joint =
    let x = joint_holds effects (k.before ++ k.last ∷ []) s joint.count c k.held joint.within joint.left in
    let way : IsOnTheWay a k.last.archive records dumps x.0 = elim (get_more k.before k.last joint.count x.0 x.1) [
      | inl early ↦ on_the_way (IsOnTheWay a k.last.archive records dumps) k.before x.0 joint.count k.each early
      | inr last ↦ subst (IsOnTheWay a k.last.archive records dumps) last.1 (record { between = inr (refl, refl); here = k.here; still = k.still; listed = k.listed; dumps_are = λ d there. inr (k.dumps_are d there) })
    ] in
    record {
      moment = x.0;
      slots = x.2;
      between = between_as a k.last.archive (a.log ++ changes) contents x.0.archive k.log k.contents_are way.between;
      here = x.3 ∙ way.here;
      still = still_then (listed_of x.0.archive) a.slots x.0.archive.slots x.2 way.still x.4;
      listed = λ d there. elim (way.listed d there) [
        | inl old ↦ inl old
        | inr new ↦ inr (still_whole (listed_of x.0.archive) x.0.archive.slots x.2 d x.4 there new)
      ];
      holds = x.5;
    }

-- and so each image within an event
pub event_image : (s : State) (a : Archive) (records : List DumpRecordFields) (around : Around) (j : JobFields) (m : Made) → RunsIn s a records j m → (known : List DumpRecordFields) → MayStep a known around j → (old c : Stock) → Joint s (event around j).effects old c
    → ImageHolds a (a.log ++ (event around j).changes) (contents_behind a j m j.phase) c
event_image s a records around j m r known may old c joint =
    image_holds s a records (contents_behind a j m j.phase) (clones_behind around j m j.phase) (dumps_behind records j j.phase) (event around j).effects (event around j).changes (event around j).job (each_event s a records around j m r known may) old c joint

-- What keeps an archive keeps all tapes of listed dumps held, and so does what a crash leaves of it.
pub all_held_on : (s : State) (a : Archive) (records : List DumpRecordFields) (contents : ℕ → List ℕ → Result VolumeFields Refusal) (clones : List Taken) (dumps : List DumpRecordFields) (effects : List Effect) (changes : List Change) (next : JobFields) → (k : Keeps s a records contents clones dumps effects changes next) → AreAllHeld (listed_of a) a.slots
    → AreAllHeld (listed_of k.last.archive) k.last.archive.slots
all_held_on s a records contents clones dumps effects changes next k all d there = elim (k.listed d there) [
  | inl old ↦ still_whole (listed_of k.last.archive) a.slots k.last.archive.slots d k.still there (all d old)
  | inr new ↦ new
]

pub all_held_left : (a : Archive) (log : List Change) (contents : ℕ → List ℕ → Result VolumeFields Refusal) (c : Stock) → (i : ImageHolds a log contents c) → AreAllHeld (listed_of a) a.slots → AreAllHeld (listed_of i.moment.archive) i.slots
all_held_left a log contents c i all d there = elim (i.listed d there) [
  | inl old ↦ still_whole (listed_of i.moment.archive) a.slots i.slots d i.still there (all d old)
  | inr new ↦ new
]
