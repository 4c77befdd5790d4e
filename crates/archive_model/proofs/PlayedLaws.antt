-- What a play of a listed dump's chain gives from the slots that are here is what its look-up gives.
use Rattle.std.proofs.Common.{◌≡◌, ℕ, true, Option, Some, None, Ok, List, sym, ap, subst, ◌∙◌, inl}
use Rattle.std.specs.Prelude.{Result, Contains, find, slice_get, IsSomeAnd, ◌==◌, ◌&&◌}
use Rattle.std.specs.List.{flat_map}
use Rattle.std.proofs.lemmas.Bool.{and_parts, eqb-true}
use Rattle.vnode_model.specs.declared.volumes.VolumeFields.{VolumeFields}
use Rattle.budb_changes.specs.declared.records.TapePart.{TapePart}
use Rattle.budb_changes.specs.declared.records.DumpRecordFields.{DumpRecordFields}
use Rattle.budb_fold.specs.Lookups.{VolumeDump, latest}
use Rattle.budb_fold.specs.Chains.{IsChain}
use Rattle.tape_text.specs.Texts.{Fragment}
use Rattle.tape_text.specs.Wholes.{Lying}
use Rattle.tape_scan.specs.Slots.{Slot}
use Rattle.archive_model.specs.Holding.{place_of, called_for, holds, holder_here}
use Rattle.archive_model.specs.Plays.{StandsAt, StandsOn, PlayFault, records_of, PlaysOver, Plays}
use Rattle.archive_model.specs.Archives.{Archive, Refusal, Need, needs, needs_of, is_missing, is_unheld, unless_missing, all_here, listed_of, refused_by, looked_up_by, LooksUpOne, LooksUp, IsKept}
use Rattle.archive_model.proofs.HoldLaws.{lies_stands}
use Rattle.archive_model.proofs.OnceLaws.{plays_once}
use Rattle.archive_model.proofs.QuietLaws.{held_place, called_among}
use Rattle.archive_model.proofs.RecordLaws.{chain_has_record, chain_of_more, records_of_more, chain_records_there, plays_too}
use Rattle.archive_model.proofs.SlotLaws.{in_map, in_flat, none_passes, passes_none, find_is, find_slot, some_if, stands_here, held_need}

-- each tape that is needed is held on a slot here, where none is the first that isn't
record IsHere (slots : List Slot) (n : Need) : Type 0 where
  found : ℕ × Slot
  holder : holder_here n.dump n.tape slots ≡ Some found
  number : ℕ
  at : slice_get slots number ≡ Some found.1
  held : holds n.dump n.tape found.1.items ≡ true

need_here : (slots : List Slot) (all : List Need) (n : Need) → find (is_missing slots) all ≡ None → Contains all n → IsHere slots n
need_here slots all n none there =
    let x = some_if (holder_here n.dump n.tape slots) (none_passes (is_missing slots) all n none there) in
    let k = find_slot (λ t. t.here && holds n.dump n.tape t.items) 0 slots x.0 x.1 in
    record { found = x.0; holder = x.1; number = k.0; at = k.1; held = (and_parts x.0.1.here (holds n.dump n.tape x.0.1.items) k.2).1 }

stands_there : (o : Option (ℕ × Slot)) (s : ℕ × Slot) (c : Lying) (f : Fragment) → o ≡ Some s → StandsAt c s.1.items f → IsSomeAnd o (λ x. StandsAt c x.1.items f)
stands_there o s c f is stands = rw is stands

module _ (listed records : List DumpRecordFields) (slots : List Slot) (contents : ℕ → List ℕ → Result VolumeFields Refusal) (kept : IsKept listed slots contents records) where
  listed_there : (e : DumpRecordFields) → Contains listed e → Contains records e
  listed_there e there = kept.dumps.complete e (inl there)

  both_stand : (d : DumpRecordFields) (name : List ℕ) (c : Lying) → Contains records d → Contains (called_for d name) c → IsHere slots (record { dump = d; tape = c.tape }) → (f : Fragment) × StandsOn slots d c f × StandsOn (all_here slots) d c f
  both_stand d name c there called here =
      let p = held_place (place_of d c.tape) d c.tape here.found.1.items here.held in
      let number : c.tape ≡ p.0.tape = sym (eqb-true p.0.tape c.tape (find_is (λ (x : TapePart). x.tape == c.tape) d.tapes p.0 p.1).1) in
      let f = lies_stands d p.0 here.found.1.items c (kept.lie d here.number here.found.1 there here.at c.tape p.0 p.1 here.held) (called_among d name c called) number in (
        f.0,
        stands_there (holder_here d c.tape slots) here.found c f.0 here.holder f.1,
        stands_here slots d c f.0 here.number here.found.1 here.at here.held (λ j t at_j held_j. kept.held_once d c.tape j here.number t here.found.1 there at_j here.at held_j here.held) f.1,
      )

  played_is_contents : (e : DumpRecordFields) (name ids : List ℕ) (outcome : Result VolumeFields PlayFault) → Contains listed e → IsChain listed e.id name (Ok ids) → find (is_missing slots) (needs listed ids name) ≡ None → Plays slots listed ids name outcome → contents e.id name ≡ refused_by outcome
  played_is_contents e name ids outcome there chain none plays =
      let over = chain_of_more listed records kept.ids_once listed_there e.id name ids chain in
      let same : records_of records ids ≡ records_of listed ids = records_of_more listed records kept.ids_once listed_there ids over.1 in
      let held : find (is_unheld slots) (needs listed ids name) ≡ None =
      passes_none (is_unheld slots) (needs listed ids name) (λ n needed. (let here = need_here slots (needs listed ids name) n none needed in held_need slots n here.number here.found.1 here.at here.held)) in
      let old = kept.contents_are e name ids (listed_there e there) over.0 (ap (λ (ds : List DumpRecordFields). find (is_unheld slots) (flat_map (needs_of name) ds)) same ∙ held) in
      let theirs : PlaysOver (all_here slots) name None (records_of listed ids) old.0 = subst (λ (ds : List DumpRecordFields). PlaysOver (all_here slots) name None ds old.0) same old.1 in
      let ours : PlaysOver (all_here slots) name None (records_of listed ids) outcome =
      plays_too slots (all_here slots) name (records_of listed ids) None outcome (λ d in_chain c called.
      both_stand d name c (listed_there d (chain_records_there listed ids d in_chain)) called
      (need_here slots (needs listed ids name) (record { dump = d; tape = c.tape }) none (in_flat (needs_of name) (records_of listed ids) d (record { dump = d; tape = c.tape }) in_chain (in_map (λ (x : Lying). record { dump = d; tape = x.tape }) (called_for d name) c called)))) plays in
      old.2 ∙ ap refused_by (plays_once (all_here slots) name None (records_of listed ids) old.0 outcome theirs ours)

looked_up_at : (a : Archive) (one : VolumeDump) (ids : List ℕ) (outcome : Result VolumeFields Refusal) → find (is_missing a.slots) (needs (listed_of a) ids one.volume.name) ≡ None → a.contents one.dump.id one.volume.name ≡ outcome → outcome ≡ looked_up_by a one (Ok ids)
looked_up_at a one ids outcome none is = sym (ap (λ (n : Option Need). unless_missing n (a.contents one.dump.id one.volume.name)) none ∙ is)

-- what is played for a look-up is what it gives
pub played_is_looked_up : (a : Archive) (records : List DumpRecordFields) → IsKept (listed_of a) a.slots a.contents records → (name : List ℕ) (before : Option ℕ) (one : VolumeDump) (ids : List ℕ) (outcome : Result VolumeFields PlayFault)
    → latest (listed_of a) name before ≡ Some one → IsChain (listed_of a) one.dump.id one.volume.name (Ok ids) → find (is_missing a.slots) (needs (listed_of a) ids one.volume.name) ≡ None
    → Plays a.slots (listed_of a) ids one.volume.name outcome → LooksUp a name before (refused_by outcome)
played_is_looked_up a records kept name before one ids outcome found chain none plays =
    let p = chain_has_record (listed_of a) one.dump.id one.volume.name ids chain in
    let is : a.contents p.0.id one.volume.name ≡ refused_by outcome =
    played_is_contents (listed_of a) records a.slots a.contents kept p.0 one.volume.name ids outcome p.1 (subst (λ (n : ℕ). IsChain (listed_of a) n one.volume.name (Ok ids)) (sym p.2) chain) none plays in
    let same : a.contents one.dump.id one.volume.name ≡ refused_by outcome = ap (λ (n : ℕ). a.contents n one.volume.name) (sym p.2) ∙ is in
    subst (λ (o : Option VolumeDump). LooksUpOne a o (refused_by outcome)) (sym found) (Ok ids, chain, looked_up_at a one ids (refused_by outcome) none same)
