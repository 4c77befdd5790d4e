-- A dump runs on behind whatever leaves it what is its own.
use Rattle.std.proofs.Common.{◌≡◌, ◌⊎◌, ℕ, ◌≤◌, true, Option, Some, None, List, [], ◌∷◌, ◌++◌, map, take, refl, sym, ap, subst, ◌∙◌, arith, inl, inr}
use Rattle.std.specs.Prelude.{Result, All, Contains, slice_get, length}
use Rattle.vnode_model.specs.declared.volumes.VolumeFields.{VolumeFields}
use Rattle.tape_frames.specs.declared.frame.Frame.TheVariants as frames
use Rattle.tape_frames.specs.declared.label.LabelFields.{LabelFields}
use Rattle.tape_frames.specs.declared.dump_head.DumpHeadFields.{DumpHeadFields}
use Rattle.budb_changes.specs.declared.change.Change.{Change}
use Rattle.budb_changes.specs.declared.records.DumpRecordFields.{DumpRecordFields}
use Rattle.budb_changes.specs.declared.records.TapePart.{TapePart}
use Rattle.budb_fold.specs.Database.{after}
use Rattle.plant_core.specs.Records.{Record}
use Rattle.plant_core.specs.Crashes.{State}
use Rattle.plant_core.specs.Effects.{come}
use Rattle.tape_text.specs.Items.{Item, Says, Read}
use Rattle.tape_text.specs.Texts.{Tape}
use Rattle.tape_scan.specs.Slots.{Slot, Located, IsClosedAt}
use Rattle.tape_answers.specs.Reading.{items_of}
use Rattle.archive_model.specs.Holding.{place_of, holds}
use Rattle.archive_model.specs.Archives.{Archive, Refusal, listed_of}
use Rattle.archive_model.specs.Settled.{HoldsSettled}
use Rattle.archive_model.proofs.HoldLaws.{unheaded}
use Rattle.archive_model.proofs.SlotLaws.{in_map}
use Rattle.dump_job.specs.declared.fields.Filled.{Filled}
use Rattle.dump_job.specs.declared.fields.Hand.{Hand}
use Rattle.dump_job.specs.declared.fields.JobFields.{JobFields}
use Rattle.dump_job.specs.declared.fields.Phase.{Phase}
use Rattle.dump_job.specs.declared.fields.Phase.TheVariants as phase
use Rattle.dump_job.specs.Ending.{done_record}
use Rattle.dump_job.specs.Reels.{records_on}
use Rattle.dump_job.specs.Events.{Around, Event, event}
use Rattle.dump_laws.specs.Made.{Made}
use Rattle.dump_laws.specs.Running.{basis_of, filled_as, Goes, OwnHeads, IsOpen, HandIsToCome, HandIsThere, HandDone, NoHand, IsTaken, IsAppended, IsChosen, Comes, BeforeTape, CloneGoes, BeforeClone, BeforeHead, HasOpenFragment, BeforePiece, BeforeVolumeEnd, BeforePartEnd, BeforeDumpEnd, WithHand, Before, UnlessOver, RunsIn}
use Rattle.dump_laws.specs.Keeping.{contents_behind, clones_behind, dumps_behind, Keeps}
use Rattle.dump_laws.proofs.DumpEnds.{others_told}
use Rattle.tape_config.specs.Ports.{IsAmong, AreApart}
use Rattle.dump_job.specs.Elsewhere.{IsOnPort}
use Rattle.pool_laws.specs.Beside.{IsBeside}
use Rattle.group_commands.proofs.Effects.{stays_elsewhere, event_on}
use Rattle.pool_laws.proofs.Slots.{here_get, closed_there, has_no, no_heads, in_front_or_more, uncut_get}
use Rattle.pool_laws.proofs.Lists.{event_lists, dump_there}
use Rattle.pool_laws.proofs.Volumes.{volumes_so, goes_so, comes_so}

-- a tape's records say one list of items
abbrev pub ReadOnce : Type 0
ReadOnce = (records : List Record) (items : List Item) → Read records items → items ≡ items_of records

-- what is so unless a dump is over
pub unless_over : (p : Phase) (S T : Type 0) → (S → T) → UnlessOver p S → UnlessOver p T
unless_over phase.Tape S T f holds = f holds
unless_over phase.Clone S T f holds = f holds
unless_over phase.Head S T f holds = f holds
unless_over phase.Piece S T f holds = f holds
unless_over phase.VolumeEnd S T f holds = f holds
unless_over phase.PartEnd S T f holds = f holds
unless_over phase.DumpEnd S T f holds = f holds
unless_over phase.Over S T f holds = holds

-- the slots of the ended parts are the port's
pub ended_among : (s : State) (a : Archive) (records : List DumpRecordFields) (j : JobFields) (m : Made) → Goes s a records j m → IsOnPort j → (l : Located) → Contains m.ended l → IsAmong j.port l.slot
ended_among s a records j m g on l there =
    let filled : Contains (map filled_as m.ended) (filled_as l) = in_map filled_as m.ended l there in
    on.filled (filled_as l) (subst (λ (fs : List Filled). Contains fs (filled_as l)) (sym g.filled) filled)

-- WHAT LEAVES A DUMP ALONE: from one state and archive to others. The slots of its port are as they were, and as much of them is settled; each head
-- of its id stood there before; its parent's contents stay; what is held on its slots of dumps that are listed now was listed before; and a dump that
-- there wasn't before has nothing to do with it.
pub record LeavesAlone (s t : State) (a z : Archive) (records records2 : List DumpRecordFields) (j : JobFields) : Type 0 where
  pub held : HoldsSettled t z records2
  pub slots : (q : ℕ) (x : Slot) → IsAmong j.port q → slice_get a.slots q ≡ Some x → slice_get z.slots q ≡ Some x
  pub settled : (q : ℕ) → IsAmong j.port q → s.settled q ≤ t.settled q
  pub heads : (q x : ℕ) (u : Slot) (h : DumpHeadFields) → slice_get z.slots q ≡ Some u → slice_get u.items x ≡ Some (Says (frames.DumpHead h)) → h.id ≡ j.head.id → (v : Slot) × (slice_get a.slots q ≡ Some v) × (slice_get v.items x ≡ Some (Says (frames.DumpHead h)))
  pub above : (name : List ℕ) → z.contents j.head.parent name ≡ a.contents j.head.parent name
  pub listed : (q : ℕ) (x : Slot) → IsAmong j.port q → slice_get a.slots q ≡ Some x → (d : DumpRecordFields) (tape : ℕ) → Contains (listed_of z) d → holds d tape x.items ≡ true → Contains (listed_of a) d
  pub new : (d : DumpRecordFields) → Contains records2 d → Contains records d ⊎ ((d.id ≡ j.head.id → ⊥) × (d.parent ≡ j.head.id → ⊥))

module _ (s t : State) (a z : Archive) (records records2 : List DumpRecordFields) (j : JobFields) (m : Made) (rj : RunsIn s a records j m) (on_j : IsOnPort j) (alone : LeavesAlone s t a z records records2 j) where
  own_then : (slot first : ℕ) → OwnHeads a.slots m.ended j.head.id slot first → OwnHeads z.slots m.ended j.head.id slot first
  own_then slot first own q u x h at is same = (let b = alone.heads q x u h at is same in own q b.0 x h b.1 b.2 same)

  -- ---- it goes on

  goes_then : Goes s a records j m → Goes t z records2 j m
  goes_then g = record {
    held = alone.held;
    new = λ d there. elim (alone.new d there) [
      | inl old ↦ g.new d old
      | inr other ↦ other
    ];
    parent = g.parent;
    ended = g.ended;
    filled = g.filled;
    closed = closed_there a.slots z.slots m.ended (λ l there x at. alone.slots l.slot x (ended_among s a records j m g on_j l there) at) g.closed;
    settled = λ l there. (let more = alone.settled l.slot (ended_among s a records j m g on_j l there) in let old = g.settled l there in omega (arith, more, old));
    apart = g.apart;
    count = g.count;
    volumes = volumes_so a.contents z.contents (basis_of j) alone.above j.volumes m g.volumes;
  }

  open_then : (opened : List Item) → IsOpen a j m opened → IsOpen z j m opened
  open_then opened o = record {
    slot = o.slot;
    at = alone.slots j.reel.slot o.slot on_j.reel o.at;
    items = o.items;
    front = o.front;
    first = o.first;
    marks = o.marks;
    count = o.count;
    fragments = o.fragments;
    own = own_then j.reel.slot j.first o.own;
  }

  to_come : (h : Hand) → HandIsToCome a j h m → HandIsToCome z j h m
  to_come h x = comes_so a.contents z.contents (basis_of j) alone.above j.volumes j.head.tape j.first h.head h.frags h.stream m x

  is_there : (h : Hand) → HandIsThere a j h m → HandIsThere z j h m
  is_there h x = goes_so a.contents z.contents (basis_of j) alone.above (length j.volumes) h.head h.frags h.stream m x

  -- ---- before the tape step

  chosen_then : (label : Option LabelFields) (x0 : Slot) (front : Tape) → slice_get a.slots j.reel.slot ≡ Some x0 → IsChosen a j front x0 label → IsChosen z j front x0 label
  chosen_then None x0 front at x = record {
    within = x.within;
    stands = x.stands;
    fits = x.fits;
    marks = x.marks;
    behind = λ d tape p there place held. x.behind d tape p (alone.listed j.reel.slot x0 on_j.reel at d tape there held) place held;
  }
  chosen_then (Some label) x0 front at x = record {
    blocks = x.blocks;
    marks = x.marks;
    initial = x.initial;
    number = x.number;
    name = x.name;
    permanent = x.permanent;
    free = λ d tape there held. x.free d tape (alone.listed j.reel.slot x0 on_j.reel at d tape there held) held;
  }

  comes_then : (o : Option Hand) → Comes a j m o → Comes z j m o
  comes_then None x = x
  comes_then (Some h) x = (to_come h x.0, x.1, x.2)

  tape_then : BeforeTape a j m → BeforeTape z j m
  tape_then b = record {
    slot = b.slot;
    at = alone.slots j.reel.slot b.slot on_j.reel b.at;
    chosen = chosen_then j.label b.slot m.front b.at b.chosen;
    none = b.none;
    own = λ q u x h at is same. (let old = alone.heads q x u h at is same in b.own q old.0 x h old.1 old.2 same);
    comes = comes_then j.hand b.comes;
  }

  -- ---- before the other steps

  clone_goes_then : (o : Option Hand) → CloneGoes a j m o → CloneGoes z j m o
  clone_goes_then None x = x
  clone_goes_then (Some h) x = record { goes = is_there h x.goes; over = x.over; none = x.none; last = x.last; lying = x.lying }

  clone_then : BeforeClone a j m → BeforeClone z j m
  clone_then b = record { open_part = open_then [] b.open_part; hand = clone_goes_then j.hand b.hand }

  head_then : (h : Hand) → BeforeHead a j h m → BeforeHead z j h m
  head_then h b = record { open_part = open_then [] b.open_part; hand = to_come h b.hand; none = b.none; left = b.left; room = b.room }

  fragment_then : (h : Hand) → HasOpenFragment a j h m → HasOpenFragment z j h m
  fragment_then h b = record { open_part = open_then _ b.open_part; hand = to_come h b.hand; at = b.at; bytes = b.bytes; each = b.each }

  piece_then : (h : Hand) → BeforePiece a j h m → BeforePiece z j h m
  piece_then h b = record { fragment = fragment_then h b.fragment; full = b.full; left = b.left; room = b.room }

  volume_end_then : (h : Hand) → BeforeVolumeEnd a j h m → BeforeVolumeEnd z j h m
  volume_end_then h b = record { fragment = fragment_then h b.fragment; filled = b.filled; over = b.over }

  part_end_then : (h : Hand) → BeforePartEnd a j h m → BeforePartEnd z j h m
  part_end_then h b = record { open_part = open_then [] b.open_part; goes = is_there h b.goes; none = b.none; left = b.left; last = b.last; lying = b.lying }

  dump_end_then : (h : Hand) → BeforeDumpEnd a j h m → BeforeDumpEnd z j h m
  dump_end_then h b = record {
    open_part = open_then [] b.open_part;
    hand = record { goes = is_there h b.hand.goes; over = b.hand.over; none = b.hand.none; last = b.hand.last; lying = b.hand.lying };
    all = b.all;
  }

  with_then : (X Y : Hand → Type 0) (o : Option Hand) → ((h : Hand) → X h → Y h) → WithHand X o → WithHand Y o
  with_then X Y None f x = x
  with_then X Y (Some h) f x = f h x

  before_then : (p : Phase) → Before a j m p → Before z j m p
  before_then phase.Tape b = tape_then b
  before_then phase.Clone b = clone_then b
  before_then phase.Head b = with_then (λ h. BeforeHead a j h m) (λ h. BeforeHead z j h m) j.hand head_then b
  before_then phase.Piece b = with_then (λ h. BeforePiece a j h m) (λ h. BeforePiece z j h m) j.hand piece_then b
  before_then phase.VolumeEnd b = with_then (λ h. BeforeVolumeEnd a j h m) (λ h. BeforeVolumeEnd z j h m) j.hand volume_end_then b
  before_then phase.PartEnd b = with_then (λ h. BeforePartEnd a j h m) (λ h. BeforePartEnd z j h m) j.hand part_end_then b
  before_then phase.DumpEnd b = with_then (λ h. BeforeDumpEnd a j h m) (λ h. BeforeDumpEnd z j h m) j.hand dump_end_then b
  before_then phase.Over b = b

  -- A dump that runs runs on behind what leaves it alone.
  pub runs_on : RunsIn t z records2 j m
  runs_on = record {
    held = alone.held;
    goes = unless_over j.phase (Goes s a records j m) (Goes t z records2 j m) goes_then rj.goes;
    before = before_then j.phase rj.before;
  }
