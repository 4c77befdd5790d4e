-- What is told of a plan is what is told of its dump and its chain.
use Rattle.std.proofs.Common.{◌≡◌, ℕ, ◌-◌, Bool, Option, Some, None, List, [], ◌∷◌, ◌++◌, length, map, refl, sym, ap, ◌∙◌, arith, length-append}
use Rattle.std.specs.Prelude.{Ok, reverse, slice_get, if◌then◌else◌}
use Rattle.std.specs.List.{flat_map}
use Rattle.std.specs.Option.{unwrap_or}
use Rattle.std.proofs.lemmas.List.{reverse-append}
use Rattle.budb_changes.specs.declared.records.DumpRecordFields.{DumpRecordFields}
use Rattle.budb_fold.specs.Lookups.{VolumeDump}
use Rattle.budb_fold.specs.Chains.{IsChain, HaveParentsBelow}
use Rattle.budb_fold.proofs.ChainLaws.{one_outcome}
use Rattle.tape_frames.specs.TapeNames.{numbered}
use Rattle.tape_scan.specs.Slots.{Slot}
use Rattle.archive_model.specs.Holding.{holder_here}
use Rattle.archive_model.specs.Archives.{Need, needs}
use Rattle.restore_chain.specs.declared.chain_plan.TapeNeed.{TapeNeed}
use Rattle.restore_chain.specs.declared.chain_plan.ChainPlan.{ChainPlan}
use Rattle.restore_chain.specs.Planning.{located_by, located, PlansChain, PlansFor}
use Rattle.restore_chain.specs.Answers.{chain_in}
use Rattle.restore_chain.proofs.AnswerLaws.{chain_in_is}
use Rattle.backup_replies.specs.Restores.{restored_line, would_restore_line, need_line}
use Rattle.restore_commands.specs.Answers.{need_lines, lines_along, lines_by, lines_of}
use Rattle.restore_commands.specs.Steps.{last_id, tape_line, planned_lines}

-- ---- the dump that a chain ends with

at_end : (xs : List ℕ) (x : ℕ) → slice_get (xs ++ x ∷ []) (length xs) ≡ Some x
at_end [] x = refl
at_end (y ∷ xs) x = at_end xs x

last_pushed : (xs : List ℕ) (x : ℕ) → last_id (xs ++ x ∷ []) ≡ x
last_pushed xs x =
    let size : length (xs ++ x ∷ []) - 1 ≡ length xs = omega (arith, length-append xs (x ∷ [])) in
    ap (λ (n : ℕ). unwrap_or (slice_get (xs ++ x ∷ []) n) 0) size ∙ ap (λ (o : Option ℕ). unwrap_or o 0) (at_end xs x)

pub ends_with_it : (records : List DumpRecordFields) (id : ℕ) (name ids : List ℕ) → IsChain records id name (Ok ids) → last_id ids ≡ id
ends_with_it records id name ids ([], (whole, pass, is_whole, are)) = ap last_id are ∙ sym pass
ends_with_it records id name ids (i ∷ passed, (whole, pass, is_whole, are)) =
    ap last_id (are ∙ ap (λ (l : List ℕ). whole ∷ l) (reverse-append (i ∷ []) passed)) ∙ last_pushed (whole ∷ reverse passed) i ∙ pass.0

-- ---- the tapes

line_of : (n : Need) (o : Option (ℕ × Slot)) (t : TapeNeed) → located_by n o ≡ Some t → need_line (numbered n.dump.base n.tape) n.dump.initial ≡ tape_line t
line_of n None t is = absurd (cc)
line_of n (Some s) t is =
    let x : TapeNeed = record { name = numbered n.dump.base n.tape; initial = n.dump.initial; tape = n.tape; slot = s.0 } in
    let e : x ≡ t = cc in
    ap tape_line e

pub tapes_told : (slots : List Slot) (ns : List Need) (ts : List TapeNeed) → map (located slots) ns ≡ map Some ts → need_lines ns ≡ flat_map tape_line ts
tapes_told slots [] [] is = refl
tapes_told slots [] (t ∷ ts) is = absurd (cc)
tapes_told slots (n ∷ ns) [] is = absurd (cc)
tapes_told slots (n ∷ ns) (t ∷ ts) is =
    let first : located slots n ≡ Some t = cc in
    let rest : map (located slots) ns ≡ map Some ts = cc in
    let line : need_line (numbered n.dump.base n.tape) n.dump.initial ≡ tape_line t = line_of n (holder_here n.dump n.tape slots) t first in
    let others : need_lines ns ≡ flat_map tape_line ts = tapes_told slots ns ts rest in
    (λ i. line i ++ others i)

-- ---- a plan

module _ (slots : List Slot) (listed : List DumpRecordFields) (below : HaveParentsBelow listed) (is_trial : Bool) (target : List ℕ) (plan : ChainPlan) where
  along : (one : VolumeDump) → PlansChain slots listed one plan → lines_along is_trial target listed one plan.dumps ≡ planned_lines is_trial target plan
  along one plans =
      let id : one.dump.id ≡ last_id plan.dumps = sym (ends_with_it listed one.dump.id one.volume.name plan.dumps plans.chain) in
      let tapes : need_lines (needs listed plan.dumps one.volume.name) ≡ flat_map tape_line plan.tapes = tapes_told slots (needs listed plan.dumps one.volume.name) plan.tapes plans.tapes in
      (λ i. if is_trial then would_restore_line target (id i) (length plan.dumps) ++ tapes i else restored_line target (id i) (length plan.dumps))

  pub told_by_plan : (found : Option VolumeDump) → PlansFor slots listed found (Ok plan) → lines_of is_trial target listed found ≡ planned_lines is_trial target plan
  told_by_plan None plans = absurd plans
  told_by_plan (Some one) plans =
      let chain : chain_in listed one.dump.id one.volume.name ≡ Ok plan.dumps = one_outcome listed one.dump.id one.volume.name (chain_in listed one.dump.id one.volume.name) (Ok plan.dumps) (chain_in_is listed one.dump.id one.volume.name below) plans.chain in
      ap (lines_by is_trial target listed one) chain ∙ along one plans
