-- A dump that runs stays running beside the event of another one.
use Rattle.std.proofs.Common.{◌≡◌, ◌⊎◌, ℕ, ◌≤◌, true, Option, Some, None, List, [], ◌∷◌, ◌++◌, map, take, refl, sym, ap, subst, ◌∙◌, arith, inl, inr}
use Rattle.std.specs.Prelude.{Result, All, Contains, slice_get, length}
use Rattle.vnode_model.specs.declared.volumes.VolumeFields.{VolumeFields}
use Rattle.tape_frames.specs.declared.frame.Frame.TheVariants as frames
use Rattle.tape_frames.specs.declared.label.LabelFields.{LabelFields}
use Rattle.tape_frames.specs.declared.dump_head.DumpHeadFields.{DumpHeadFields}
use Rattle.budb_changes.specs.declared.change.Change.{Change}
use Rattle.budb_changes.specs.declared.records.DumpRecordFields.{DumpRecordFields}
use Rattle.budb_changes.specs.declared.records.TapePart.{TapePart}
use Rattle.budb_fold.specs.Database.{after}
use Rattle.plant_core.specs.Records.{Record}
use Rattle.plant_core.specs.Crashes.{State}
use Rattle.plant_core.specs.Effects.{come}
use Rattle.tape_text.specs.Items.{Item, Says, Read}
use Rattle.tape_text.specs.Texts.{Tape}
use Rattle.tape_scan.specs.Slots.{Slot, Located, IsClosedAt}
use Rattle.tape_answers.specs.Reading.{items_of}
use Rattle.archive_model.specs.Holding.{place_of, holds}
use Rattle.archive_model.specs.Archives.{Archive, Refusal, listed_of}
use Rattle.archive_model.specs.Settled.{HoldsSettled}
use Rattle.archive_model.proofs.HoldLaws.{unheaded}
use Rattle.archive_model.proofs.SlotLaws.{in_map}
use Rattle.dump_job.specs.declared.fields.Filled.{Filled}
use Rattle.dump_job.specs.declared.fields.Hand.{Hand}
use Rattle.dump_job.specs.declared.fields.JobFields.{JobFields}
use Rattle.dump_job.specs.declared.fields.Phase.{Phase}
use Rattle.dump_job.specs.declared.fields.Phase.TheVariants as phase
use Rattle.dump_job.specs.Ending.{done_record}
use Rattle.dump_job.specs.Reels.{records_on}
use Rattle.dump_job.specs.Events.{Around, Event, event}
use Rattle.dump_laws.specs.Made.{Made}
use Rattle.dump_laws.specs.Running.{basis_of, filled_as, Goes, OwnHeads, IsOpen, HandIsToCome, HandIsThere, HandDone, NoHand, IsTaken, IsAppended, IsChosen, Comes, BeforeTape, CloneGoes, BeforeClone, BeforeHead, HasOpenFragment, BeforePiece, BeforeVolumeEnd, BeforePartEnd, BeforeDumpEnd, WithHand, Before, UnlessOver, RunsIn}
use Rattle.dump_laws.specs.Keeping.{contents_behind, clones_behind, dumps_behind, Keeps}
use Rattle.dump_laws.proofs.DumpEnds.{others_told}
use Rattle.tape_config.specs.Ports.{IsAmong, AreApart}
use Rattle.tape_config.proofs.PortLaws.{none_of_both}
use Rattle.dump_job.specs.Elsewhere.{IsOnPort}
use Rattle.pool_laws.specs.Beside.{IsBeside}
use Rattle.group_commands.proofs.Effects.{stays_elsewhere, event_on}
use Rattle.pool_laws.proofs.Slots.{here_get, closed_there, has_no, no_heads, in_front_or_more, uncut_get}
use Rattle.pool_laws.proofs.Lists.{event_lists, dump_there}
use Rattle.pool_laws.proofs.Framing.{ReadOnce, ended_among, LeavesAlone, runs_on}

-- contents under other ids
behind_same : (p : Phase) (a : Archive) (i : JobFields) (n : Made) (id : ℕ) (name : List ℕ) → (id ≡ i.head.id → ⊥) → contents_behind a i n p id name ≡ a.contents id name
behind_same phase.Tape a i n id name other = refl
behind_same phase.Clone a i n id name other = refl
behind_same phase.Head a i n id name other = refl
behind_same phase.Piece a i n id name other = refl
behind_same phase.VolumeEnd a i n id name other = refl
behind_same phase.PartEnd a i n id name other = refl
behind_same phase.DumpEnd a i n id name other = others_told a.contents (basis_of i) n.clones id name other
behind_same phase.Over a i n id name other = refl

-- the heads of a dump that is at its end
own_at_end : (a : Archive) (i : JobFields) (n : Made) (o : Option Hand) → WithHand (λ h. BeforeDumpEnd a i h n) o → OwnHeads a.slots n.ended i.head.id i.reel.slot i.first
own_at_end a i n None b = absurd b
own_at_end a i n (Some h) b = b.open_part.own

-- One dump, another one, and what the event of the first has kept.
module _ (once : ReadOnce) (s : State) (a : Archive) (records : List DumpRecordFields) (around : Around) (i : JobFields) (n : Made) (ri : RunsIn s a records i n) (on_i : IsOnPort i)
    (k : Keeps s a records (contents_behind a i n i.phase) (clones_behind around i n i.phase) (dumps_behind records i i.phase) (event around i).effects (event around i).changes (event around i).job) (id_then : (event around i).job.head.id ≡ i.head.id) where
  abbrev e : Event
  e = event around i

  abbrev z : Archive
  z = k.last.archive

  -- ---- slots

  pub tape_stays : (q : ℕ) → (q ≡ i.reel.slot → ⊥) → ((come e.effects s).tape q ≡ s.tape q) × ((come e.effects s).settled q ≡ s.settled q)
  tape_stays q other = stays_elsewhere i.reel.slot e.effects s (event_on around i) q other

  pub at_then : (q : ℕ) → (q ≡ i.reel.slot → ⊥) → (t : Slot) → slice_get a.slots q ≡ Some t → slice_get z.slots q ≡ Some t
  at_then q other t at =
      let x = here_get z.slots a.slots k.here q t at in
      let u : Slot = x.0 in
      let new : u.items ≡ items_of ((come e.effects s).tape q) = once ((come e.effects s).tape q) u.items (k.runs.held.seen.tapes q u x.1) in
      let old : t.items ≡ items_of (s.tape q) = once (s.tape q) t.items (ri.held.seen.tapes q t at) in
      let items : u.items ≡ t.items = new ∙ ap items_of (tape_stays q other).0 ∙ sym old in
      let here : u.here ≡ t.here = x.2 in
      let same : u ≡ t = λ y. record { here = here y; items = items y } in
      x.1 ∙ ap Some same

  pub at_before : (q : ℕ) → (q ≡ i.reel.slot → ⊥) → (u : Slot) → slice_get z.slots q ≡ Some u → slice_get a.slots q ≡ Some u
  at_before q other u at =
      let x = here_get a.slots z.slots (sym k.here) q u at in
      x.1 ∙ sym (at_then q other x.0 x.1) ∙ at

  -- ---- what the first is to the second

  pub contents_same : (id : ℕ) (name : List ℕ) → (id ≡ i.head.id → ⊥) → z.contents id name ≡ a.contents id name
  contents_same id name other = ap (λ (c : ℕ → List ℕ → Result VolumeFields Refusal). c id name) k.contents_are ∙ behind_same i.phase a i n id name other

  goes_at_end : i.phase ≡ phase.DumpEnd → Goes s a records i n
  goes_at_end is = subst (λ (p : Phase). UnlessOver p (Goes s a records i n)) is ri.goes

  own_heads : i.phase ≡ phase.DumpEnd → OwnHeads a.slots n.ended i.head.id i.reel.slot i.first
  own_heads is = own_at_end a i n i.hand (subst (Before a i n) is ri.before)

  -- at its end it is held on its own slots alone
  held_elsewhere : i.phase ≡ phase.DumpEnd → (q : ℕ) (t : Slot) → (IsAmong i.port q → ⊥) → slice_get a.slots q ≡ Some t → (d : DumpRecordFields) (tape : ℕ) → d.id ≡ i.head.id → holds d tape t.items ≡ true → ⊥
  held_elsewhere is q t outside at d tape id held =
      unheaded d tape t.items
      (no_heads d.id t.items
      (λ x h stands same. elim (own_heads is q t x h at stands (same ∙ id)) [
        | inl ended ↦ outside (subst (IsAmong i.port) ended.2 (ended_among s a records i n (goes_at_end is) on_i ended.0 ended.1))
        | inr here ↦ outside (subst (IsAmong i.port) (sym here.0) on_i.reel)
      ]))
      held

  module _ (j : JobFields) (m : Made) (rj : RunsIn s a records j m) (on_j : IsOnPort j) (beside : IsBeside i j) where
    outside : (q : ℕ) → IsAmong j.port q → IsAmong i.port q → ⊥
    outside q of_j of_i = none_of_both i.port j.port beside.ports q of_i of_j

    other : (q : ℕ) → IsAmong j.port q → q ≡ i.reel.slot → ⊥
    other q of_j same = outside q of_j (subst (IsAmong i.port) (sym same) on_i.reel)

    above_same : (name : List ℕ) → z.contents j.head.parent name ≡ a.contents j.head.parent name
    above_same name = contents_same j.head.parent name beside.below

    head_before : (q x : ℕ) (u : Slot) (h : DumpHeadFields) → slice_get z.slots q ≡ Some u → slice_get u.items x ≡ Some (Says (frames.DumpHead h)) → h.id ≡ j.head.id → (t : Slot) × (slice_get a.slots q ≡ Some t) × (slice_get t.items x ≡ Some (Says (frames.DumpHead h)))
    head_before q x u h at is same =
        let p = k.put q u at in
        let there : slice_get (take p.2.front p.0.items ++ p.2.more) x ≡ Some (Says (frames.DumpHead h)) = ap (λ (l : List Item). slice_get l x) (sym p.2.items) ∙ is in
        elim (in_front_or_more (take p.2.front p.0.items) p.2.more x (Says (frames.DumpHead h)) there) [
          | inl front ↦ (p.0, p.1, uncut_get p.2.front p.0.items x (Says (frames.DumpHead h)) front)
          | inr more ↦ absurd (has_no j.head.id p.2.more more.0 h (p.2.own j.head.id (λ is_same. beside.ids (sym (is_same ∙ id_then)))) more.1 same)
        ]

    -- what is listed now was listed, or isn't held on the other's slots
    listed_or_not : (q : ℕ) (t : Slot) → IsAmong j.port q → slice_get a.slots q ≡ Some t → (d : DumpRecordFields) (tape : ℕ) → Contains (listed_of z) d → holds d tape t.items ≡ true → Contains (listed_of a) d
    listed_or_not q t of_j at d tape there held = elim (event_lists around a.log i d (subst (λ (l : List Change). Contains (after l).listed d) k.log there)) [
      | inl old ↦ old
      | inr new ↦ absurd (held_elsewhere new.0 q t (outside q of_j) at d tape (sym (ap (λ (x : DumpRecordFields). x.id) new.1)) held)
    ]

    pub left_alone : LeavesAlone s (come e.effects s) a z records k.last.records j
    left_alone = record {
      held = k.runs.held;
      slots = λ q x of_j at. at_then q (other q of_j) x at;
      settled = λ q of_j. (let same = (tape_stays q (other q of_j)).1 in omega (arith, same));
      heads = head_before;
      above = above_same;
      listed = λ q x of_j at d tape there held. listed_or_not q x of_j at d tape there held;
      new = λ d there. elim (dump_there records i d (k.dumps_are d there)) [
        | inl old ↦ inl old
        | inr new ↦ inr ((λ same. beside.ids (ap (λ (x : DumpRecordFields). x.id) new ∙ same)), (λ same. beside.above (ap (λ (x : DumpRecordFields). x.parent) new ∙ same)))
      ];
    }

    -- A dump that runs runs on beside the event of another one.
    pub runs_beside : RunsIn (come e.effects s) z k.last.records j m
    runs_beside = runs_on s (come e.effects s) a z records k.last.records j m rj on_j left_alone
