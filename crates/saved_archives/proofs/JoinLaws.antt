-- Dumps that were listed at a moment, and what came since: both are kept by the tapes that there are now.
use Rattle.std.proofs.Common.{◌≡◌, ◌⊎◌, ℕ, zero, suc, ◌<◌, ◌≤◌, Bool, true, false, not, Option, Some, None, Ok, List, [], ◌∷◌, ◌++◌, refl, sym, ap, subst, ◌∙◌, arith, inl, inr}
use Rattle.std.specs.Prelude.{Result, All, Contains, find, filter, nat_le}
use Rattle.std.specs.List.{flat_map}
use Rattle.std.proofs.lemmas.Bool.{cases_Bool, eq-eqb}
use Rattle.std.proofs.lemmas.Bool.Decides.{nat_tests}
use Rattle.std.proofs.lemmas.List.Elements.{All-nil, All-cons, All-head, All-tail, Contains-append_cases, Contains-append_left, Contains-append_right}
use Rattle.vnode_model.specs.declared.volumes.VolumeFields.{VolumeFields}
use Rattle.budb_changes.specs.declared.records.DumpRecordFields.{DumpRecordFields}
use Rattle.budb_fold.specs.Database.{is_dump, has_dump}
use Rattle.budb_fold.specs.Lookups.{VolumeDump, record_of}
use Rattle.budb_fold.specs.Chains.{volume_in, dump_of, Passes, IsChain}
use Rattle.tape_scan.specs.Slots.{Slot, Located, IsClosedAt, IsFound}
use Rattle.tape_scan.proofs.ListLaws.{contains_filter, of_filter, either}
use Rattle.archive_model.specs.Plays.{PlayFault, PlaysOver, records_of, Plays}
use Rattle.archive_model.specs.Archives.{Refusal, needs, needs_of, is_unheld, all_here, refused_by, IsUnlisted, AreDumps, IsKept}
use Rattle.archive_model.proofs.Alike.{AreAlike}
use Rattle.archive_model.proofs.CutLaws.{any_from}
use Rattle.archive_model.proofs.RecordLaws.{AreIdsOnce, record_is_there, record_by_id, its_record, chain_of_more, records_of_more}
use Rattle.archive_model.proofs.QuietLaws.{lies_now, whole_stays, contents_stay, once}
use Rattle.archive_model.proofs.EndLaws.{part_id}
use Rattle.archive_model.proofs.ContentsLaws.{contents_grow}
use Rattle.saved_archives.specs.Since.{Ids, IsIn, UpTo, AreSince, with_listed, AreGivenSince}
use Rattle.saved_archives.proofs.SinceLaws.{since_closed}

le_is : (a b : ℕ) → nat_le a b ≡ true → a ≤ b
le_is a b is = grind (arith, nat_tests)

is_le : (a b : ℕ) → a ≤ b → nat_le a b ≡ true
is_le a b le = grind (arith, nat_tests)

-- ---- what was found

module _ (which : Ids) (slots slots2 : List Slot) (since : AreSince which slots slots2) where
  part_was : (l : Located) → IsIn which l.found.part.head.id → IsClosedAt slots2 l → IsClosedAt slots l
  part_was l le c = (let x = since l.slot c.here c.at in record { here = x.0; at = x.1; closed = since_closed which x.0.items c.here.items x.2 l.found le c.closed })

  parts_were : (parts : List Located) → ((l : Located) → Contains parts l → IsIn which l.found.part.head.id) → All (IsClosedAt slots2) parts → All (IsClosedAt slots) parts
  parts_were [] le closed = All-nil (IsClosedAt slots)
  parts_were (l ∷ parts) le closed =
      All-cons (IsClosedAt slots) l parts (part_was l (le l (0, omega arith, refl)) (All-head (IsClosedAt slots2) l parts closed))
      (parts_were parts (λ m there. le m (suc there.0, omega (arith, there.1), there.2)) (All-tail (IsClosedAt slots2) l parts closed))

  pub found_was : (parts : List Located) (d : DumpRecordFields) → IsIn which d.id → IsFound slots2 parts d → IsFound slots parts d
  found_was parts d le is = record { closed = parts_were parts (λ l there. subst (IsIn which) (sym (part_id slots2 parts d l is there)) le) is.closed; whole = is.whole; record_is = is.record_is }

module _ (g : ℕ) (listed records found : List DumpRecordFields) (slots slots2 : List Slot) (contents contents2 : ℕ → List ℕ → Result VolumeFields Refusal)
    (kept : IsKept listed slots contents records) (low : (d : DumpRecordFields) → Contains records d → d.id ≤ g) (above : (d : DumpRecordFields) → Contains listed d → d.parent < d.id)
    (since : AreSince (UpTo g) slots slots2) (bare : IsKept [] slots2 contents2 found)
    (same : (id : ℕ) (name : List ℕ) → id ≤ g → contents2 id name ≡ contents id name) (next : AreGivenSince g slots2 contents2) where
  other : DumpRecordFields → Bool
  other d = not (has_dump listed d.id)

  listed_low : (d : DumpRecordFields) → Contains listed d → d.id ≤ g
  listed_low d there = low d (kept.dumps.complete d (inl there))

  -- ---- a dump of all

  listed_all : (d : DumpRecordFields) → Contains listed d → Contains (with_listed listed found) d
  listed_all d there = Contains-append_left listed (filter (λ (x : DumpRecordFields). not (has_dump listed x.id)) found) d there

  record IsOther (d : DumpRecordFields) : Type 0 where
    there : Contains found d
    un : IsUnlisted listed slots2 d

  none_has : (b : Bool) → not b ≡ true → b ≡ false
  none_has true is = absurd (cc)
  none_has false is = refl

  other_un : (d : DumpRecordFields) → has_dump listed d.id ≡ false → Contains [] d ⊎ IsUnlisted [] slots2 d → IsUnlisted listed slots2 d
  other_un d none (inl there) = absurd (omega (arith, there.1))
  other_un d none (inr un) = record { parts = un.parts; found = un.found; unlisted = none; above = un.above }

  of_all : (d : DumpRecordFields) → Contains (with_listed listed found) d → Contains listed d ⊎ IsOther d
  of_all d there = elim (Contains-append_cases listed (filter (λ (x : DumpRecordFields). not (has_dump listed x.id)) found) d there) [
    | inl is_listed ↦ inl is_listed
    | inr is_other ↦
        (let o = of_filter (λ (x : DumpRecordFields). not (has_dump listed x.id)) found d is_other in
        inr (record { there = o.0; un = other_un d (none_has (has_dump listed d.id) o.1) (bare.dumps.sound d o.0) }))
  ]

  other_all : (d : DumpRecordFields) → IsUnlisted listed slots2 d → Contains (with_listed listed found) d
  other_all d un =
      Contains-append_right listed (filter (λ (x : DumpRecordFields). not (has_dump listed x.id)) found) d
      (contains_filter (λ (x : DumpRecordFields). not (has_dump listed x.id)) found d (bare.dumps.complete d (inr (record { parts = un.parts; found = un.found; unlisted = refl; above = un.above }))) (ap not un.unlisted))

  below : (d : DumpRecordFields) → Contains (with_listed listed found) d → d.parent < d.id
  below d there = elim (of_all d there) [
    | inl is_listed ↦ above d is_listed
    | inr o ↦ o.un.above
  ]

  was : (d : DumpRecordFields) → Contains (with_listed listed found) d → d.id ≤ g → Contains records d
  was d there le = elim (of_all d there) [
    | inl is_listed ↦ kept.dumps.complete d (inl is_listed)
    | inr o ↦ kept.dumps.complete d (inr (record { parts = o.un.parts; found = found_was (UpTo g) slots slots2 since o.un.parts d le o.un.found; unlisted = o.un.unlisted; above = o.un.above }))
  ]

  -- ---- those of ids up to the greatest

  abbrev old_ones : List DumpRecordFields
  old_ones = filter (λ (d : DumpRecordFields). nat_le d.id g) (with_listed listed found)

  in_old : (d : DumpRecordFields) → Contains (with_listed listed found) d → d.id ≤ g → Contains old_ones d
  in_old d there le = contains_filter (λ (x : DumpRecordFields). nat_le x.id g) (with_listed listed found) d there (is_le d.id g le)

  of_old : (d : DumpRecordFields) → Contains old_ones d → Contains (with_listed listed found) d × (d.id ≤ g)
  of_old d there = (let o = of_filter (λ (x : DumpRecordFields). nat_le x.id g) (with_listed listed found) d there in (o.0, le_is d.id g o.1))

  stay : (d : DumpRecordFields) → Contains old_ones d → Contains records d
  stay d there = (let o = of_old d there in was d o.0 o.1)

  listed_stay : (d : DumpRecordFields) → Contains listed d → Contains listed d
  listed_stay d there = there

  listed_old : (d : DumpRecordFields) → Contains listed d → Contains old_ones d
  listed_old d there = in_old d (listed_all d there) (listed_low d there)

  alike : AreAlike old_ones slots slots2
  alike k s at = (let x = since k s at in record {
    here = x.0;
    at = x.1;
    common = x.2.common;
    gone = x.2.gone;
    more = x.2.more;
    old_is = x.2.old_is;
    new_is = x.2.new_is;
    heads = λ d there. x.2.heads d.id (of_old d there).1;
    ends = λ d tape p there place held. x.2.ends d tape p (of_old d there).1 (kept.lie d k x.0 (stay d there) x.1) place held;
  })

  -- ---- ids

  not_both : (d e : DumpRecordFields) → Contains listed d → IsOther e → d.id ≡ e.id → ⊥
  not_both d e there o id =
      let some : has_dump listed e.id ≡ true = any_from (is_dump e.id) listed d there (eq-eqb d.id e.id id) in
      absurd (let both : true ≡ false = sym some ∙ o.un.unlisted in cc)

  ids : AreIdsOnce (with_listed listed found)
  ids d e a b id = elim (of_all d a) [
    | inl d_listed ↦ elim (of_all e b) [
      | inl e_listed ↦ kept.ids_once d e (kept.dumps.complete d (inl d_listed)) (kept.dumps.complete e (inl e_listed)) id
      | inr e_other ↦ absurd (not_both d e d_listed e_other id)
    ]
    | inr d_other ↦ elim (of_all e b) [
      | inl e_listed ↦ absurd (not_both e d e_listed d_other (sym id))
      | inr e_other ↦ bare.ids_once d e d_other.there e_other.there id
    ]
  ]

  ids_old : AreIdsOnce old_ones
  ids_old d e a b id = ids d e (of_old d a).0 (of_old e b).0 id

  -- ---- chains of those of ids up to the greatest

  old_record : (id : ℕ) (e : DumpRecordFields) → id ≤ g → record_of (with_listed listed found) id ≡ Some e → Contains (with_listed listed found) e × (e.id ≡ id) × (record_of old_ones id ≡ Some e)
  old_record id e le is =
      let here = record_is_there (with_listed listed found) id e is in
      (here.0, here.1, record_by_id old_ones e id ids_old (in_old e here.0 (omega (arith, le, here.1))) here.1)

  old_dump : (name : List ℕ) (id : ℕ) (e : VolumeDump) → id ≤ g → dump_of (with_listed listed found) name id ≡ Some e → (e.dump.parent ≤ g) × (dump_of old_ones name id ≡ Some e)
  old_dump name id e le is =
      let record_is : record_of (with_listed listed found) id ≡ Some e.dump = its_record (record_of (with_listed listed found) id) name e is in
      let old = old_record id e.dump le record_is in
      (omega (arith, le, old.1, below e.dump old.0), ap (λ (o : Option DumpRecordFields). volume_in o name) (old.2 ∙ sym record_is) ∙ is)

  old_pass : (name : List ℕ) (id : ℕ) (passed : List ℕ) (to : ℕ) → id ≤ g → Passes (with_listed listed found) name id passed to → Passes old_ones name id passed to × (to ≤ g)
  old_pass name id [] to le is = (is, omega (arith, le, is))
  old_pass name id (i ∷ passed) to le (is, (e, e_is, later, rest)) =
      let old = old_dump name id e le e_is in
      let up = old_pass name e.dump.parent passed to old.0 rest in
      ((is, (e, old.1, later, up.0)), up.1)

  old_chain : (id : ℕ) (name chain : List ℕ) → id ≤ g → IsChain (with_listed listed found) id name (Ok chain) → IsChain old_ones id name (Ok chain)
  old_chain id name chain le (passed, (whole, pass, (e, is, at_zero), chain_is)) =
      let up = old_pass name id passed whole le pass in
      (passed, (whole, up.0, (e, (old_dump name whole e up.1 is).1, at_zero), chain_is))

  -- ---- contents

  abbrev HasOutcome : DumpRecordFields → List ℕ → List ℕ → Type 0
  HasOutcome d name chain = (outcome : Result VolumeFields PlayFault) × Plays (all_here slots2) (with_listed listed found) chain name outcome × (contents2 d.id name ≡ refused_by outcome)

  old_contents : (d : DumpRecordFields) (name chain : List ℕ) → Contains (with_listed listed found) d → d.id ≤ g → IsChain (with_listed listed found) d.id name (Ok chain) → find (is_unheld slots2) (needs (with_listed listed found) chain name) ≡ None → HasOutcome d name chain
  old_contents d name chain there le is held =
      let short : IsChain old_ones d.id name (Ok chain) = old_chain d.id name chain le is in
      let over = chain_of_more old_ones (with_listed listed found) ids (λ x in_few. (of_old x in_few).0) d.id name chain short in
      let records_same : records_of (with_listed listed found) chain ≡ records_of old_ones chain = records_of_more old_ones (with_listed listed found) ids (λ x in_few. (of_old x in_few).0) chain over.1 in
      let held_old : find (is_unheld slots2) (needs old_ones chain name) ≡ None = ap (λ (ds : List DumpRecordFields). find (is_unheld slots2) (flat_map (needs_of name) ds)) (sym records_same) ∙ held in
      let old = contents_stay listed listed records old_ones slots slots2 contents kept stay listed_stay listed_old alike d name chain (in_old d there le) short held_old in
      (old.0, subst (λ (ds : List DumpRecordFields). PlaysOver (all_here slots2) name None ds old.0) (sym records_same) old.1, same d.id name le ∙ old.2)

  newer_other : (d : DumpRecordFields) → g < d.id → Contains (with_listed listed found) d → IsOther d
  newer_other d lt there = elim (of_all d there) [
    | inl is_listed ↦ absurd (omega (arith, lt, listed_low d is_listed))
    | inr o ↦ o
  ]

  all_contents : (n : ℕ) (d : DumpRecordFields) (name chain : List ℕ) → d.id ≤ n → Contains (with_listed listed found) d → IsChain (with_listed listed found) d.id name (Ok chain) → find (is_unheld slots2) (needs (with_listed listed found) chain name) ≡ None → HasOutcome d name chain
  all_contents zero d name chain le there is held = old_contents d name chain there (omega (arith, le)) is held
  all_contents (suc n) d name chain le there is held = elim (either g d.id) [
    | inr old ↦ old_contents d name chain there old is held
    | inl newer ↦ contents_grow (with_listed listed found) slots2 contents2 d ids there
        (λ p name2 chain2 p_there id p_is p_held. all_contents n p name2 chain2 (omega (arith, le, id, below d there)) p_there p_is p_held)
        (λ name2 v v_is. (let o = newer_other d newer there in next o.un.parts d name2 v o.un.found o.un.above newer v_is)) name chain is held
  ]

  -- ---- the law

  dumps : AreDumps listed slots2 (with_listed listed found)
  dumps = record {
    sound = λ d there. elim (of_all d there) [
      | inl is_listed ↦ inl is_listed
      | inr o ↦ inr o.un
    ];
    complete = λ d is. elim is [
      | inl is_listed ↦ listed_all d is_listed
      | inr un ↦ other_all d un
    ];
  }

  pub joined_kept : IsKept listed slots2 contents2 (with_listed listed found)
  joined_kept = record {
    dumps = dumps;
    ids_once = ids;
    held_once = λ d tape j k s t there at_j at_k held_j held_k. elim (of_all d there) [
      | inl is_listed ↦ once listed listed records old_ones slots slots2 contents kept stay listed_stay listed_old alike d tape j k s t (listed_old d is_listed) at_j at_k held_j held_k
      | inr o ↦ bare.held_once d tape j k s t o.there at_j at_k held_j held_k
    ];
    heads_once = bare.heads_once;
    lie = λ d k s there at tape p place held. elim (of_all d there) [
      | inl is_listed ↦ lies_now listed listed records old_ones slots slots2 contents kept stay listed_stay listed_old alike d tape k s p (listed_old d is_listed) at place held
      | inr o ↦ bare.lie d k s o.there at tape p place held
    ];
    whole = λ d there held. whole_stays listed listed records old_ones slots slots2 contents kept stay listed_stay listed_old alike d there held;
    agree = λ d e parts there is id. kept.agree d e parts there (found_was (UpTo g) slots slots2 since parts e (omega (arith, id, listed_low d there)) is) id;
    contents_are = λ d name chain there is held. all_contents d.id d name chain (omega arith) there is held;
  }
