-- Loads between the events of a dump: they settle tapes, and a dump runs on behind them.
use Rattle.std.proofs.Common.{◌≡◌, ℕ, ◌≤◌, Bool, true, false, List, [], ◌∷◌, ◌++◌, map, length, refl, sym, subst, arith}
use Rattle.std.specs.Prelude.{◌==◌, if◌then◌else◌, Result, Contains}
use Rattle.std.proofs.lemmas.Bool.{eqb-true}
use Rattle.std.proofs.lemmas.List.Elements.{All-cons, All-contains}
use Rattle.vnode_model.specs.declared.volumes.VolumeFields.{VolumeFields}
use Rattle.cell_core.specs.declared.stored.Taken.{Taken}
use Rattle.budb_changes.specs.declared.change.Change.{Change}
use Rattle.budb_changes.specs.declared.records.DumpRecordFields.{DumpRecordFields}
use Rattle.plant_core.specs.Crashes.{State, Alike}
use Rattle.plant_core.specs.Effects.{Effect, settles, comes, come, Joint}
use Rattle.plant_core.specs.Stock.{Stock}
use Rattle.tape_scan.specs.Slots.{Located, IsClosedAt}
use Rattle.tape_scan.proofs.ClosedLaws.{closed_within}
use Rattle.archive_model.specs.Archives.{Archive, Refusal}
use Rattle.archive_model.specs.Settled.{HoldsSettled}
use Rattle.archive_model.proofs.AlikeLaws.{alike_hold}
use Rattle.archive_model.proofs.StepLaws.{read_length, settling_holds}
use Rattle.dump_job.specs.declared.fields.JobFields.{JobFields}
use Rattle.dump_job.specs.declared.fields.Phase.{Phase}
use Rattle.dump_job.specs.declared.fields.Phase.TheVariants as phase
use Rattle.dump_job.specs.Events.{Around, event}
use Rattle.dump_laws.specs.Made.{Made}
use Rattle.dump_laws.specs.Running.{Goes, UnlessOver, RunsIn}
use Rattle.dump_laws.specs.Keeping.{MayStep, contents_behind, clones_behind, dumps_behind, IsOnTheWay, Keeps, ImageHolds}
use Rattle.dump_laws.proofs.Stepping.{first_on}
use Rattle.dump_laws.proofs.EventLaws.{each_event, image_holds}

-- ---- from one state to another

-- what is so unless a dump is over
unless_over : (p : Phase) (S T : Type 0) → (S → T) → UnlessOver p S → UnlessOver p T
unless_over phase.Tape S T f holds = f holds
unless_over phase.Clone S T f holds = f holds
unless_over phase.Head S T f holds = f holds
unless_over phase.Piece S T f holds = f holds
unless_over phase.VolumeEnd S T f holds = f holds
unless_over phase.PartEnd S T f holds = f holds
unless_over phase.DumpEnd S T f holds = f holds
unless_over phase.Over S T f holds = holds

-- in another state that holds the archive, where the ended parts are settled too
goes_in : (s t : State) (a : Archive) (records : List DumpRecordFields) (j : JobFields) (m : Made) → HoldsSettled t a records → ((l : Located) → Contains m.ended l → l.found.end ≤ t.settled l.slot) → Goes s a records j m → Goes t a records j m
goes_in s t a records j m held settled g = record {
  held = held;
  new = g.new;
  parent = g.parent;
  ended = g.ended;
  filled = g.filled;
  closed = g.closed;
  settled = settled;
  apart = g.apart;
  count = g.count;
  volumes = g.volumes;
}

-- ---- the same state by another name

pub alike_runs : (s t : State) (a : Archive) (records : List DumpRecordFields) (j : JobFields) (m : Made) → Alike s t → RunsIn s a records j m → RunsIn t a records j m
alike_runs s t a records j m alike r =
    let held : HoldsSettled t a records = alike_hold s t a records alike r.held in
    record {
      held = held;
      goes = unless_over j.phase (Goes s a records j m) (Goes t a records j m) (λ g. goes_in s t a records j m held (λ l there. subst (λ (n : ℕ). l.found.end ≤ n) (sym (alike.settled l.slot)) (g.settled l there)) g) r.goes;
      before = r.before;
    }

-- ---- loads

-- a number within what is settled, where one tape is settled
within_settled : (j k n m : ℕ) (t : Bool) → (j == k) ≡ t → (j ≡ k → n ≤ m) → (l : ℕ) → n ≤ l → n ≤ (if j == k then m else l)
within_settled j k n m true same here l before = (let le : n ≤ m = here (eqb-true j k same) in rw same le)
within_settled j k n m false same here l before = rw same before

-- an ended part is settled still
ended_settled : (s : State) (a : Archive) (records : List DumpRecordFields) (j : JobFields) (m : Made) (k : ℕ) → Goes s a records j m → (l : Located) → Contains m.ended l → l.found.end ≤ (comes (settles k) s).settled l.slot
ended_settled s a records j m k g l there =
    let c : IsClosedAt a.slots l = All-contains (IsClosedAt a.slots) m.ended l g.closed there in
    let within : l.found.end ≤ length c.here.items = closed_within c.here.items l.found c.closed in
    within_settled l.slot k l.found.end (length (s.tape l.slot)) (l.slot == k) refl (λ same. omega (arith, within, read_length (s.tape l.slot) c.here.items (g.held.seen.tapes l.slot c.here c.at))) (s.settled l.slot) (g.settled l there)

load_runs : (s : State) (a : Archive) (records : List DumpRecordFields) (j : JobFields) (m : Made) (k : ℕ) → RunsIn s a records j m → RunsIn (comes (settles k) s) a records j m
load_runs s a records j m k r =
    let held : HoldsSettled (comes (settles k) s) a records = settling_holds s a records k r.held in
    record {
      held = held;
      goes = unless_over j.phase (Goes s a records j m) (Goes (comes (settles k) s) a records j m) (λ g. goes_in s (comes (settles k) s) a records j m held (ended_settled s a records j m k g) g) r.goes;
      before = r.before;
    }

-- Behind loads a dump runs on.
pub loads_run : (away : List ℕ) (s : State) (a : Archive) (records : List DumpRecordFields) (j : JobFields) (m : Made) → RunsIn s a records j m → RunsIn (come (map settles away) s) a records j m
loads_run [] s a records j m r = r
loads_run (k ∷ away) s a records j m r = loads_run away (comes (settles k) s) a records j m (load_runs s a records j m k r)

-- ---- what keeps an archive behind loads keeps it

behind_loads : (away : List ℕ) (s : State) (a : Archive) (records : List DumpRecordFields) (contents : ℕ → List ℕ → Result VolumeFields Refusal) (clones : List Taken) (dumps : List DumpRecordFields) (effects : List Effect) (changes : List Change) (next : JobFields)
    → HoldsSettled s a records → Keeps (come (map settles away) s) a records contents clones dumps effects changes next → Keeps s a records contents clones dumps (map settles away ++ effects) changes next
behind_loads [] s a records contents clones dumps effects changes next held k = k
behind_loads (n ∷ away) s a records contents clones dumps effects changes next held k =
    let r = behind_loads away (comes (settles n) s) a records contents clones dumps effects changes next (settling_holds s a records n held) k in
    record {
      before = record { archive = a; records = records } ∷ r.before;
      last = r.last;
      made = r.made;
      held = (held, r.held);
      log = r.log;
      contents_are = r.contents_are;
      here = r.here;
      still = r.still;
      listed = r.listed;
      each = All-cons (IsOnTheWay a r.last.archive records dumps) (record { archive = a; records = records }) r.before (first_on a r.last.archive records dumps) r.each;
      runs = r.runs;
      clones_are = r.clones_are;
      dumps_are = r.dumps_are;
      put = r.put;
      since = r.since;
      gives = r.gives;
    }

-- A step, which is an event behind loads, keeps the archive.
pub step_keeps : (s : State) (a : Archive) (records : List DumpRecordFields) (around : Around) (j : JobFields) (m : Made) → RunsIn s a records j m → (known : List DumpRecordFields) → MayStep a known around j → (away : List ℕ)
    → Keeps s a records (contents_behind a j m j.phase) (clones_behind around j m j.phase) (dumps_behind records j j.phase) (map settles away ++ (event around j).effects) (event around j).changes (event around j).job
step_keeps s a records around j m r known may away =
    behind_loads away s a records (contents_behind a j m j.phase) (clones_behind around j m j.phase) (dumps_behind records j j.phase) (event around j).effects (event around j).changes (event around j).job r.held
    (each_event (come (map settles away) s) a records around j m (loads_run away s a records j m r) known may)

-- and so does each image within it
pub step_image : (s : State) (a : Archive) (records : List DumpRecordFields) (around : Around) (j : JobFields) (m : Made) → RunsIn s a records j m → (known : List DumpRecordFields) → MayStep a known around j → (away : List ℕ) (old c : Stock)
    → Joint s (map settles away ++ (event around j).effects) old c → ImageHolds a (a.log ++ (event around j).changes) (contents_behind a j m j.phase) c
step_image s a records around j m r known may away old c joint =
    image_holds s a records (contents_behind a j m j.phase) (clones_behind around j m j.phase) (dumps_behind records j j.phase) (map settles away ++ (event around j).effects) (event around j).changes (event around j).job (step_keeps s a records around j m r known may away) old c joint
