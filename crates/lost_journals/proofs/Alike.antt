-- What archives that list the same dumps, with the same contents, give to restores.
use Rattle.std.proofs.Common.{◌≡◌, ℕ, Option, Some, None, Ok, Err, List, refl, sym, ap, subst, ◌∙◌, inl}
use Rattle.std.specs.Prelude.{Result, find}
use Rattle.std.specs.List.{flat_map}
use Rattle.vnode_model.specs.declared.volumes.VolumeFields.{VolumeFields}
use Rattle.budb_changes.specs.declared.records.DumpRecordFields.{DumpRecordFields}
use Rattle.budb_fold.specs.Lookups.{VolumeDump, latest}
use Rattle.budb_fold.specs.Chains.{IsChain}
use Rattle.archive_model.specs.Plays.{records_of}
use Rattle.archive_model.specs.Archives.{Archive, Need, needs, needs_of, is_missing, unless_missing, listed_of, looked_up_by, LooksUpOne, LooksUp}
use Rattle.archive_model.proofs.ListedLaws.{ids_once}
use Rattle.archive_model.proofs.RecordLaws.{chain_has_record, chain_of_more, records_of_more, chain_records_there}
use Rattle.archive_model.proofs.SlotLaws.{none_passes, passes_none}
use Rattle.lost_journals.specs.Archives.{HasItsContents, ListSame, AreHereToo}
use Rattle.lost_journals.proofs.Latest.{latest_also}
use Rattle.lost_journals.proofs.Placed.{need_of}

module _ (a b : Archive) (same : ListSame a b) (has : HasItsContents a b) (here : AreHereToo a b) where
  by_tapes : (one : VolumeDump) (ids : List ℕ) (volume : VolumeFields) (o : Option Need) → find (is_missing a.slots) (needs (listed_of a) ids one.volume.name) ≡ o → IsChain (listed_of a) one.dump.id one.volume.name (Ok ids)
      → Ok volume ≡ unless_missing o (a.contents one.dump.id one.volume.name) → Ok volume ≡ looked_up_by b one (Ok ids)
  by_tapes one ids volume (Some n) found chain is = absurd (cc)
  by_tapes one ids volume None found chain is =
      let over = chain_of_more (listed_of a) (listed_of b) (ids_once b.log) same.again one.dump.id one.volume.name ids chain in
      let records : records_of (listed_of b) ids ≡ records_of (listed_of a) ids = records_of_more (listed_of a) (listed_of b) (ids_once b.log) same.again ids over.1 in
      let none : find (is_missing b.slots) (needs (listed_of a) ids one.volume.name) ≡ None =
      passes_none (is_missing b.slots) (needs (listed_of a) ids one.volume.name) (λ n needed.
      here n (chain_records_there (listed_of a) ids n.dump (need_of one.volume.name (records_of (listed_of a) ids) n needed)) (none_passes (is_missing a.slots) (needs (listed_of a) ids one.volume.name) n found needed)) in
      let there : find (is_missing b.slots) (needs (listed_of b) ids one.volume.name) ≡ None = ap (λ (ds : List DumpRecordFields). find (is_missing b.slots) (flat_map (needs_of one.volume.name) ds)) records ∙ none in
      let d = chain_has_record (listed_of a) one.dump.id one.volume.name ids chain in
      let contents : b.contents one.dump.id one.volume.name ≡ a.contents one.dump.id one.volume.name = subst (λ (id : ℕ). b.contents id one.volume.name ≡ a.contents id one.volume.name) d.2 (has d.0 one.volume.name (inl d.1)) in
      is ∙ sym contents ∙ ap (λ (o : Option Need). unless_missing o (b.contents one.dump.id one.volume.name)) (sym there)

  by_chain : (one : VolumeDump) (volume : VolumeFields) (chain : Result (List ℕ) ℕ) → IsChain (listed_of a) one.dump.id one.volume.name chain → Ok volume ≡ looked_up_by a one chain
      → (other : Result (List ℕ) ℕ) × IsChain (listed_of b) one.dump.id one.volume.name other × (Ok volume ≡ looked_up_by b one other)
  by_chain one volume (Err missing) chain is = absurd (cc)
  by_chain one volume (Ok ids) chain is =
      let over = chain_of_more (listed_of a) (listed_of b) (ids_once b.log) same.again one.dump.id one.volume.name ids chain in
      (Ok ids, over.0, by_tapes one ids volume (find (is_missing a.slots) (needs (listed_of a) ids one.volume.name)) refl chain is)

  by_latest : (name : List ℕ) (before : Option ℕ) (volume : VolumeFields) (o : Option VolumeDump) → latest (listed_of a) name before ≡ o → LooksUpOne a o (Ok volume) → LooksUpOne b (latest (listed_of b) name before) (Ok volume)
  by_latest name before volume None is looks = absurd (cc)
  by_latest name before volume (Some one) is looks =
      let found : latest (listed_of b) name before ≡ Some one = latest_also name before (listed_of a) (listed_of b) (ids_once a.log) same.again same.others one is in
      subst (λ (o : Option VolumeDump). LooksUpOne b o (Ok volume)) (sym found) (by_chain one volume looks.0 looks.1 looks.2)

  -- a restore that gives a volume gives it again
  pub restored_alike : (name : List ℕ) (before : Option ℕ) (volume : VolumeFields) → LooksUp a name before (Ok volume) → LooksUp b name before (Ok volume)
  restored_alike name before volume looks = by_latest name before volume (latest (listed_of a) name before) refl looks
