-- What an archive came of the archive comes of that an event leaves.
use Rattle.std.proofs.Common.{◌≡◌, ℕ, ◌<◌, ◌≤◌, List, sym, ap, subst, ◌∙◌, arith, inl, inr}
use Rattle.std.specs.Prelude.{Result, Contains}
use Rattle.vnode_model.specs.declared.volumes.VolumeFields.{VolumeFields}
use Rattle.cell_core.specs.declared.stored.Taken.{Taken}
use Rattle.budb_changes.specs.declared.records.DumpRecordFields.{DumpRecordFields}
use Rattle.budb_changes.specs.declared.records.VolRecordFields.{VolRecordFields}
use Rattle.budb_changes.specs.declared.change.Change.{Change}
use Rattle.plant_core.specs.Crashes.{State}
use Rattle.plant_core.specs.Effects.{Effect}
use Rattle.tape_scan.specs.Slots.{Slot}
use Rattle.archive_model.specs.Archives.{Archive, Refusal, listed_of, IsKept}
use Rattle.archive_model.specs.Turns.{with_contents, GivesNext}
use Rattle.saved_archives.specs.Since.{AreSince, OtherThan, ComesOf}
use Rattle.saved_archives.proofs.ArchiveLaws.{found_record, comes_of_step}
use Rattle.dump_job.specs.declared.fields.JobFields.{JobFields}
use Rattle.dump_laws.specs.Keeping.{Keeps}
use Rattle.dump_archives.specs.Keeping.{ComesOn}

-- an archive of these slots and contents, whatever its log is
pub comes_as : (greatest : ℕ) (before a b : Archive) → a.slots ≡ b.slots → a.contents ≡ b.contents → ComesOf greatest before a → ComesOf greatest before b
comes_as greatest before a b slots contents comes =
    let all : record a { slots = b.slots; contents = b.contents } ≡ a = λ i. record a { slots = sym slots i; contents = sym contents i } in
    let there : ComesOf greatest before (record a { slots = b.slots; contents = b.contents }) = subst (λ (x : Archive). ComesOf greatest before x) (sym all) comes in
    record { tapes = there.tapes; contents = there.contents; given = there.given }

-- contents that are the same under two ids
gives_same : (slots : List Slot) (contents contents2 : ℕ → List ℕ → Result VolumeFields Refusal) (d : DumpRecordFields) (name : List ℕ) (v : VolRecordFields) → contents2 d.id name ≡ contents d.id name → contents2 d.parent name ≡ contents d.parent name
    → GivesNext slots contents d name v → GivesNext slots contents2 d name v
gives_same slots contents contents2 d name v own parent gives = record {
  increment = gives.increment;
  stream = gives.stream;
  whole = λ none. (let w = gives.whole none in (w.0, w.1, own ∙ w.2));
  follows = λ later old is. (let f = gives.follows later old (sym parent ∙ is) in (f.0, f.1, own ∙ f.2));
  faulty = λ later r is. own ∙ gives.faulty later r (sym parent ∙ is);
}

-- contents under ids from this one on may join, where no dump has such an id
pub contents_come : (floor : ℕ) (a : Archive) (contents : ℕ → List ℕ → Result VolumeFields Refusal) (listed records : List DumpRecordFields) → IsKept listed a.slots a.contents records → ((d : DumpRecordFields) → Contains records d → d.id < floor)
    → ((id : ℕ) (name : List ℕ) → id < floor → contents id name ≡ a.contents id name) → ComesOn floor a (with_contents a contents)
contents_come floor a contents listed records kept low same greatest before less comes = record {
  tapes = comes.tapes;
  contents = λ id name le. same id name (omega (arith, le, less)) ∙ comes.contents id name le;
  given = λ parts d name v found above newer is.
      (let below : d.id < floor = low d (found_record listed records a.slots a.contents kept parts d found above) in
      gives_same a.slots a.contents contents d name v (same d.id name below) (same d.parent name (omega (arith, above, below))) (comes.given parts d name v found above newer is));
}

-- an event of a dump, none of whose ids another dump has
module _ (s : State) (a : Archive) (records : List DumpRecordFields) (contents : ℕ → List ℕ → Result VolumeFields Refusal) (clones : List Taken) (dumps : List DumpRecordFields) (effects : List Effect) (changes : List Change) (next : JobFields) (k : Keeps s a records contents clones dumps effects changes next)
    (own : ℕ) (id : next.head.id ≡ own) (kept : IsKept (listed_of a) a.slots a.contents records) (new : (d : DumpRecordFields) → Contains records d → (d.id ≡ own → ⊥) × (d.parent ≡ own → ⊥)) (same : a.contents ≡ contents) where
  contents_stay : (n : ℕ) (name : List ℕ) → k.last.archive.contents n name ≡ a.contents n name
  contents_stay n name = ap (λ (c : ℕ → List ℕ → Result VolumeFields Refusal). c n name) (k.contents_are ∙ sym same)

  pub event_comes : ComesOn own a k.last.archive
  event_comes greatest before less comes =
      let z : Archive = k.last.archive in
      comes_of_step greatest own before a z (listed_of a) records less kept (λ d there. (new d there).1) comes (subst (λ (n : ℕ). AreSince (OtherThan n) a.slots z.slots) id k.since) (λ n name other. contents_stay n name)
      (λ parts d name v found above is has. elim (k.gives d (found_record (listed_of z) k.last.records z.slots z.contents k.runs.held.seen.kept parts d found above)) [
        | inl old ↦ absurd ((new d old).0 is)
        | inr gives ↦ gives name v has
      ])
