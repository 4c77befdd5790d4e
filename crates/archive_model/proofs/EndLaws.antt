-- The filemark that ends a part: no dump more where the dump goes on, and one dump more where it ends.
use Rattle.std.proofs.Common.{◌≡◌, ◌⊎◌, ℕ, zero, suc, ◌+◌, ◌<◌, false, Option, Some, None, Ok, List, [], ◌∷◌, ◌++◌, length, map, refl, sym, ap, subst, ◌∙◌, arith, inl, inr, length-append}
use Rattle.std.specs.Prelude.{Result, All, Contains, slice_get, find}
use Rattle.std.specs.List.{flat_map}
use Rattle.std.proofs.lemmas.List.Elements.{All-nil, All-cons, All-head, All-tail, All-contains, Contains-append_left, Contains-push, Contains-push_cases}
use Rattle.vnode_model.specs.declared.volumes.VolumeFields.{VolumeFields}
use Rattle.tape_frames.specs.declared.dump_head.DumpHeadFields.{DumpHeadFields}
use Rattle.budb_changes.specs.declared.records.VolRecordFields.{VolRecordFields}
use Rattle.budb_changes.specs.declared.records.DumpRecordFields.{DumpRecordFields}
use Rattle.budb_fold.specs.Database.{has_dump}
use Rattle.budb_fold.specs.Lookups.{VolumeDump, record_of, volume_of}
use Rattle.budb_fold.specs.Chains.{volume_in, dump_of, Passes, IsChain}
use Rattle.tape_text.specs.Items.{Item, Filemark}
use Rattle.tape_text.specs.Texts.{Part, Linked}
use Rattle.tape_text.specs.Parts.{FoundPart, part_len, part_marks, parts_at}
use Rattle.tape_text.specs.Wholes.{Agree, NextTape, EndsWhole}
use Rattle.tape_scan.specs.Slots.{Slot, Located, IsClosedAt, IsFound}
use Rattle.archive_model.specs.Holding.{LiesOn, Lies}
use Rattle.archive_model.specs.Clones.{part_in}
use Rattle.archive_model.specs.Plays.{PlayFault, PlaysOver, records_of, Plays}
use Rattle.archive_model.specs.Archives.{Refusal, needs, needs_of, is_unheld, all_here, refused_by, IsUnlisted, AreHeldOnce, IsKept}
use Rattle.tape_scan.specs.Scans.{IsClosedIn}
use Rattle.archive_model.specs.Turns.{with_items, IsFreshHead, ContentsGrow, GivesNext}
use Rattle.archive_model.proofs.Alike.{AreAlike}
use Rattle.tape_scan.proofs.PlaceLaws.{parts_amid, part_long}
use Rattle.tape_scan.proofs.ListLaws.{take_of_append, either}
use Rattle.archive_model.proofs.WholeLaws.{all_agree, agree_self}
use Rattle.tape_scan.proofs.ClosedLaws.{closed_by_front, closed_within, in_longer, found_once}
use Rattle.archive_model.proofs.FoundLaws.{found_on, whole_linked, contains_found}
use Rattle.archive_model.proofs.RecordLaws.{AreIdsOnce, record_is_there, record_by_id, its_record, chain_of_more, records_of_more}
use Rattle.archive_model.proofs.QuietLaws.{lies_now, whole_stays, contents_stay, once}
use Rattle.archive_model.proofs.PutLaws.{with_get, alike_put, heads_put, found_stays, put_keeps_dumps}
use Rattle.archive_model.proofs.ContentsLaws.{contents_grow}

-- ---- parts by their ends

unique_end : (at marks : ℕ) (ps : List Part) (p q : FoundPart) → Contains (parts_at at marks ps) p → Contains (parts_at at marks ps) q → p.end ≡ q.end → p ≡ q
unique_end at marks [] p q a b same = absurd (omega (arith, a.1))
unique_end at marks (x ∷ ps) p q (zero, within, is) (zero, within2, is2) same = sym is ∙ is2
unique_end at marks (x ∷ ps) p q (zero, within, is) (suc k, within2, is2) same =
    let end : p.end ≡ at + part_len x = ap (λ (y : FoundPart). y.end) (sym is) in
    let later = parts_amid (at + part_len x) (marks + part_marks x) ps q (k, omega (arith, within2), is2) in
    absurd (omega (arith, end, later.1, later.3, same, part_long q.part))
unique_end at marks (x ∷ ps) p q (suc k, within, is) (zero, within2, is2) same =
    let end : q.end ≡ at + part_len x = ap (λ (y : FoundPart). y.end) (sym is2) in
    let later = parts_amid (at + part_len x) (marks + part_marks x) ps p (k, omega (arith, within), is) in
    absurd (omega (arith, end, later.1, later.3, same, part_long p.part))
unique_end at marks (x ∷ ps) p q (suc k, within, is) (suc j, within2, is2) same = unique_end (at + part_len x) (marks + part_marks x) ps p q (k, omega (arith, within), is) (j, omega (arith, within2), is2) same

same_end : (items : List Item) (p q : FoundPart) → IsClosedIn items p → IsClosedIn items q → p.end ≡ q.end → p ≡ q
same_end items p q c e same = unique_end 2 1 e.tape.parts p q (in_longer items p q c e (omega (arith, same))) e.there same

last_ends : (parts : List Located) → EndsWhole (map (λ l. l.found.part) parts) → (m : Located) × Contains parts m × (m.found.part.end.more ≡ 0)
last_ends [] ends = absurd ends
last_ends (l ∷ []) ends = (l, (0, omega arith, refl), ends)
last_ends (l ∷ m ∷ parts) ends = (let rest = last_ends (m ∷ parts) ends in (rest.0, (suc rest.1.0, omega (arith, rest.1.1), rest.1.2), rest.2))

agree_in : (h : DumpHeadFields) (l : Located) (ls : List Located) (m : Located) → Agree h l.found.part.head → Linked NextTape (map part_in (map (λ x. x.found) (l ∷ ls))) → Contains (l ∷ ls) m → m.found.part.head.id ≡ h.id
agree_in h l ls m agree linked there = (All-contains (λ (r : FoundPart). Agree h r.part.head) (l.found ∷ map (λ x. x.found) ls) m.found (all_agree h l.found (map (λ x. x.found) ls) agree linked) (contains_found (l ∷ ls) m there)).id

-- all parts of a dump that is found have its id
pub part_id : (slots : List Slot) (parts : List Located) (d : DumpRecordFields) (m : Located) → IsFound slots parts d → Contains parts m → m.found.part.head.id ≡ d.id
part_id slots [] d m found there = absurd (omega (arith, there.1))
part_id slots (l ∷ ls) d m found there =
    let first : l.found.part.head.id ≡ d.id = (let e = found.record_is in cc) in
    agree_in l.found.part.head l ls m (agree_self l.found.part.head) (whole_linked slots (l ∷ ls) d found) there ∙ first

-- ---- chains over one record more

module _ (records : List DumpRecordFields) (d : DumpRecordFields) (once_more : AreIdsOnce (records ++ d ∷ [])) (no_child : (e : DumpRecordFields) → Contains records e → e.parent ≡ d.id → ⊥) where
  old_record : (id : ℕ) (e : DumpRecordFields) → (id ≡ d.id → ⊥) → record_of (records ++ d ∷ []) id ≡ Some e → Contains records e × (record_of records id ≡ Some e)
  old_record id e other is =
      let found = record_is_there (records ++ d ∷ []) id e is in
      elim (Contains-push_cases records d e found.0) [
        | inl old ↦ (old, record_by_id records e id (λ a b a_there b_there same. once_more a b (Contains-append_left records (d ∷ []) a a_there) (Contains-append_left records (d ∷ []) b b_there) same) old found.1)
        | inr new ↦ absurd (other (sym found.1 ∙ sym (ap (λ (x : DumpRecordFields). x.id) new)))
      ]

  old_dump : (name : List ℕ) (id : ℕ) (e : VolumeDump) → (id ≡ d.id → ⊥) → dump_of (records ++ d ∷ []) name id ≡ Some e → Contains records e.dump × (dump_of records name id ≡ Some e)
  old_dump name id e other is =
      let record_is : record_of (records ++ d ∷ []) id ≡ Some e.dump = its_record (record_of (records ++ d ∷ []) id) name e is in
      let old = old_record id e.dump other record_is in
      (old.0, ap (λ (o : Option DumpRecordFields). volume_in o name) (old.1 ∙ sym record_is) ∙ is)

  old_pass : (name : List ℕ) (id : ℕ) (passed : List ℕ) (to : ℕ) → (id ≡ d.id → ⊥) → Passes (records ++ d ∷ []) name id passed to → Passes records name id passed to × (to ≡ d.id → ⊥)
  old_pass name id [] to other same = (same, λ is. other (same ∙ is))
  old_pass name id (i ∷ passed) to other (same, (e, is, later, rest)) =
      let old = old_dump name id e other is in
      let up = old_pass name e.dump.parent passed to (no_child e.dump old.0) rest in
      ((same, (e, old.1, later, up.0)), up.1)

  -- a chain that the record isn't in is as before
  pub old_chain : (id : ℕ) (name ids : List ℕ) → (id ≡ d.id → ⊥) → IsChain (records ++ d ∷ []) id name (Ok ids) → IsChain records id name (Ok ids)
  old_chain id name ids other (passed, (whole, pass, (e, is, at_zero), ids_are)) =
      let up = old_pass name id passed whole other pass in
      let old = old_dump name whole e up.1 is in
      (passed, (whole, up.0, (e, old.1, at_zero), ids_are))

-- ---- the filemark

module _ (listed records : List DumpRecordFields) (slots : List Slot) (contents : ℕ → List ℕ → Result VolumeFields Refusal) (kept : IsKept listed slots contents records)
    (k : ℕ) (s : Slot) (at : slice_get slots k ≡ Some s) (q : FoundPart) (closed : IsClosedIn (s.items ++ Filemark ∷ []) q) (end : q.end ≡ length s.items + 1) where
  no_head : IsFreshHead slots Filemark
  no_head h same = absurd (cc)

  -- a part that is closed then was closed, or is the one that the filemark ends
  pub or_new : (l : Located) → IsClosedAt (with_items k (s.items ++ Filemark ∷ []) slots) l → IsClosedAt slots l ⊎ (l.found ≡ q)
  or_new l c = elim (with_get k (s.items ++ Filemark ∷ []) slots l.slot c.here c.at) [
    | inl here ↦
        (let now : IsClosedIn (s.items ++ Filemark ∷ []) l.found = subst (λ (x : List Item). IsClosedIn x l.found) here.1 c.closed in
        elim (either (length s.items) l.found.end) [
          | inl longer ↦ inr (same_end (s.items ++ Filemark ∷ []) l.found q now closed (omega (arith, longer, end, closed_within (s.items ++ Filemark ∷ []) l.found now, length-append s.items (Filemark ∷ []))))
          | inr short ↦ inl (record {
            here = s;
            at = ap (λ (n : ℕ). slice_get slots n) here.0 ∙ at;
            closed = closed_by_front (s.items ++ Filemark ∷ []) s.items l.found (sym (take_of_append l.found.end s.items (Filemark ∷ []) short)) now;
          })
        ])
    | inr other ↦ inl (record { here = c.here; at = other.1; closed = c.closed })
  ]

  all_or_new : (parts : List Located) → All (IsClosedAt (with_items k (s.items ++ Filemark ∷ []) slots)) parts → All (IsClosedAt slots) parts ⊎ ((l : Located) × Contains parts l × (l.found ≡ q))
  all_or_new [] closed_all = inl (All-nil (IsClosedAt slots))
  all_or_new (l ∷ parts) closed_all = elim (or_new l (All-head (IsClosedAt (with_items k (s.items ++ Filemark ∷ []) slots)) l parts closed_all)) [
    | inr new ↦ inr (l, (0, omega arith, refl), new)
    | inl old ↦ elim (all_or_new parts (All-tail (IsClosedAt (with_items k (s.items ++ Filemark ∷ []) slots)) l parts closed_all)) [
      | inl rest ↦ inl (All-cons (IsClosedAt slots) l parts old rest)
      | inr new ↦ inr (new.0, (suc new.1.0, omega (arith, new.1.1), new.1.2), new.2)
    ]
  ]

  -- ---- a dump that goes on

  module _ (goes_on : q.part.end.more ≡ 1) (none_ends : (l : Located) → IsClosedAt slots l → l.found.part.head.id ≡ q.part.head.id → l.found.part.end.more ≡ 0 → ⊥) where
    none_more : (parts : List Located) (e : DumpRecordFields) → IsFound (with_items k (s.items ++ Filemark ∷ []) slots) parts e → IsFound slots parts e
    none_more parts e found = elim (all_or_new parts found.closed) [
      | inl old ↦ record { closed = old; whole = found.whole; record_is = found.record_is }
      | inr new ↦
          (let last = last_ends parts found.whole.ends in
          let id : last.0.found.part.head.id ≡ q.part.head.id = part_id (with_items k (s.items ++ Filemark ∷ []) slots) parts e last.0 found last.1 ∙ sym (part_id (with_items k (s.items ++ Filemark ∷ []) slots) parts e new.0 found new.1) ∙ ap (λ (p : FoundPart). p.part.head.id) new.2 in
          elim (or_new last.0 (All-contains (IsClosedAt (with_items k (s.items ++ Filemark ∷ []) slots)) parts last.0 found.closed last.1)) [
            | inl old ↦ absurd (none_ends last.0 old id last.2)
            | inr same ↦ absurd (let e01 : 0 ≡ 1 = sym last.2 ∙ ap (λ (p : FoundPart). p.part.end.more) same ∙ goes_on in omega (arith, e01))
          ])
    ]

    -- The filemark that ends a part of a dump that goes on keeps all dumps, and adds none.
    pub part_end_keeps : IsKept listed (with_items k (s.items ++ Filemark ∷ []) slots) contents records
    part_end_keeps = put_keeps_dumps listed records slots contents kept k s at Filemark (λ d there. tt) no_head none_more

  -- ---- a dump that ends

  module _ (d : DumpRecordFields) (parts : List Located) (found : IsFound (with_items k (s.items ++ Filemark ∷ []) slots) parts d) (id : q.part.head.id ≡ d.id)
      (new : (e : DumpRecordFields) → Contains records e → e.id ≡ d.id → ⊥) (no_child : (e : DumpRecordFields) → Contains records e → e.parent ≡ d.id → ⊥) (unlisted : has_dump listed d.id ≡ false) (above : d.parent < d.id)
      (held_once : AreHeldOnce (d ∷ []) (with_items k (s.items ++ Filemark ∷ []) slots))
      (contents2 : ℕ → List ℕ → Result VolumeFields Refusal) (others : (id2 : ℕ) (name : List ℕ) → (id2 ≡ d.id → ⊥) → contents2 id2 name ≡ contents id2 name) where
    or_this : (ps : List Located) (e : DumpRecordFields) → IsFound (with_items k (s.items ++ Filemark ∷ []) slots) ps e → IsFound slots ps e ⊎ (d ≡ e)
    or_this ps e is = elim (all_or_new ps is.closed) [
      | inl old ↦ inl (record { closed = old; whole = is.whole; record_is = is.record_is })
      | inr has ↦
          (let same : e.id ≡ d.id = sym (part_id (with_items k (s.items ++ Filemark ∷ []) slots) ps e has.0 is has.1) ∙ ap (λ (p : FoundPart). p.part.head.id) has.2 ∙ id in
          inr (found_once (with_items k (s.items ++ Filemark ∷ []) slots) (heads_put listed records slots contents kept k s at Filemark (λ x there. tt) no_head) parts ps d e found is (sym same)))
    ]

    ids : AreIdsOnce (records ++ d ∷ [])
    ids a b a_there b_there same = elim (Contains-push_cases records d a a_there) [
      | inl a_old ↦ elim (Contains-push_cases records d b b_there) [
        | inl b_old ↦ kept.ids_once a b a_old b_old same
        | inr b_new ↦ absurd (new a a_old (same ∙ sym (ap (λ (x : DumpRecordFields). x.id) b_new)))
      ]
      | inr a_new ↦ elim (Contains-push_cases records d b b_there) [
        | inl b_old ↦ absurd (new b b_old (sym same ∙ sym (ap (λ (x : DumpRecordFields). x.id) a_new)))
        | inr b_new ↦ sym a_new ∙ b_new
      ]
    ]

    dump_there : (e : DumpRecordFields) → Contains listed e ⊎ IsUnlisted listed (with_items k (s.items ++ Filemark ∷ []) slots) e → Contains (records ++ d ∷ []) e
    dump_there e (inl is_listed) = Contains-append_left records (d ∷ []) e (kept.dumps.complete e (inl is_listed))
    dump_there e (inr un) = elim (or_this un.parts e un.found) [
      | inl old ↦ Contains-append_left records (d ∷ []) e (kept.dumps.complete e (inr (record { parts = un.parts; found = old; unlisted = un.unlisted; above = un.above })))
      | inr same ↦ subst (Contains (records ++ d ∷ [])) same (Contains-push records d)
    ]

    there_dump : (e : DumpRecordFields) → Contains (records ++ d ∷ []) e → Contains listed e ⊎ IsUnlisted listed (with_items k (s.items ++ Filemark ∷ []) slots) e
    there_dump e there = elim (Contains-push_cases records d e there) [
      | inl old ↦ elim (kept.dumps.sound e old) [
        | inl is_listed ↦ inl is_listed
        | inr un ↦ inr (record { parts = un.parts; found = found_stays listed records slots contents kept k s at Filemark (λ x in_records. tt) no_head un.parts e un.found; unlisted = un.unlisted; above = un.above })
      ]
      | inr same ↦ inr (subst (IsUnlisted listed (with_items k (s.items ++ Filemark ∷ []) slots)) same (record { parts = parts; found = found; unlisted = unlisted; above = above }))
    ]

    lies_new : (j : ℕ) (t : Slot) → slice_get (with_items k (s.items ++ Filemark ∷ []) slots) j ≡ Some t → Lies d t.items
    lies_new j t at_j tape p place held =
        let on = found_on (with_items k (s.items ++ Filemark ∷ []) slots) parts d tape p found place in
        let same : on.part.slot ≡ j = held_once d tape on.part.slot j on.closed.here t (0, omega arith, refl) on.closed.at at_j on.held held in
        let here : Some on.closed.here ≡ Some t = sym on.closed.at ∙ ap (λ (n : ℕ). slice_get (with_items k (s.items ++ Filemark ∷ []) slots) n) same ∙ at_j in
        let slot : on.closed.here ≡ t = cc in
        subst (λ (x : Slot). LiesOn d p x.items) slot on.lies

    stay : (e : DumpRecordFields) → Contains records e → Contains records e
    stay e there = there

    is_there : (e : DumpRecordFields) → Contains listed e → Contains records e
    is_there e there = kept.dumps.complete e (inl there)

    alike : AreAlike records slots (with_items k (s.items ++ Filemark ∷ []) slots)
    alike = alike_put listed records slots contents kept k s at Filemark (λ x in_records. tt) no_head

    old_contents : (e : DumpRecordFields) (name chain : List ℕ) → Contains records e → IsChain (records ++ d ∷ []) e.id name (Ok chain) → find (is_unheld (with_items k (s.items ++ Filemark ∷ []) slots)) (needs (records ++ d ∷ []) chain name) ≡ None
        → (outcome : Result VolumeFields PlayFault) × Plays (all_here (with_items k (s.items ++ Filemark ∷ []) slots)) (records ++ d ∷ []) chain name outcome × (contents2 e.id name ≡ refused_by outcome)
    old_contents e name chain there is held =
        let not_new : e.id ≡ d.id → ⊥ = new e there in
        let old_is : IsChain records e.id name (Ok chain) = old_chain records d ids no_child e.id name chain not_new is in
        let over = chain_of_more records (records ++ d ∷ []) ids (λ x in_records. Contains-append_left records (d ∷ []) x in_records) e.id name chain old_is in
        let same : records_of (records ++ d ∷ []) chain ≡ records_of records chain = records_of_more records (records ++ d ∷ []) ids (λ x in_records. Contains-append_left records (d ∷ []) x in_records) chain over.1 in
        let held_old : find (is_unheld (with_items k (s.items ++ Filemark ∷ []) slots)) (needs records chain name) ≡ None = ap (λ (ds : List DumpRecordFields). find (is_unheld (with_items k (s.items ++ Filemark ∷ []) slots)) (flat_map (needs_of name) ds)) (sym same) ∙ held in
        let old = contents_stay listed listed records records slots (with_items k (s.items ++ Filemark ∷ []) slots) contents kept stay stay_listed is_there alike e name chain there old_is held_old in
        (old.0, subst (λ (ds : List DumpRecordFields). PlaysOver (all_here (with_items k (s.items ++ Filemark ∷ []) slots)) name None ds old.0) (sym same) old.1, others e.id name not_new ∙ old.2)
      where
        stay_listed : (x : DumpRecordFields) → Contains listed x → Contains listed x
        stay_listed x in_listed = in_listed

    -- The filemark that ends a dump adds it to the dumps, with its contents, and keeps all others.
    pub dump_end_keeps : ContentsGrow (with_items k (s.items ++ Filemark ∷ []) slots) contents2 (records ++ d ∷ []) d → IsKept listed (with_items k (s.items ++ Filemark ∷ []) slots) contents2 (records ++ d ∷ [])
    dump_end_keeps grow = record {
      dumps = record { sound = there_dump; complete = dump_there };
      ids_once = ids;
      held_once = λ e tape i j t u there at_i at_j held_i held_j. elim (Contains-push_cases records d e there) [
        | inl old ↦ once listed listed records records slots (with_items k (s.items ++ Filemark ∷ []) slots) contents kept stay (λ x in_listed. in_listed) is_there alike e tape i j t u old at_i at_j held_i held_j
        | inr same ↦ held_once e tape i j t u (0, omega arith, same) at_i at_j held_i held_j
      ];
      heads_once = heads_put listed records slots contents kept k s at Filemark (λ x in_records. tt) no_head;
      lie = λ e j t there at_j. elim (Contains-push_cases records d e there) [
        | inl old ↦ (λ tape p place held. lies_now listed listed records records slots (with_items k (s.items ++ Filemark ∷ []) slots) contents kept stay (λ x in_listed. in_listed) is_there alike e tape j t p old at_j place held)
        | inr same ↦ subst (λ (x : DumpRecordFields). Lies x t.items) same (lies_new j t at_j)
      ];
      whole = λ e there held. whole_stays listed listed records records slots (with_items k (s.items ++ Filemark ∷ []) slots) contents kept stay (λ x in_listed. in_listed) is_there alike e there held;
      agree = λ e x ps there is same. elim (or_this ps x is) [
        | inl old ↦ kept.agree e x ps there old same
        | inr this ↦ absurd (new e (is_there e there) (sym same ∙ sym (ap (λ (y : DumpRecordFields). y.id) this)))
      ];
      contents_are = λ e name chain there is held. elim (Contains-push_cases records d e there) [
        | inl old ↦ old_contents e name chain old is held
        | inr same ↦ subst (λ (x : DumpRecordFields). IsChain (records ++ d ∷ []) x.id name (Ok chain) → (outcome : Result VolumeFields PlayFault) × Plays (all_here (with_items k (s.items ++ Filemark ∷ []) slots)) (records ++ d ∷ []) chain name outcome × (contents2 x.id name ≡ refused_by outcome)) same (λ chain_is. grow name chain chain_is held) is
      ];
    }

    -- and its contents are what it gives next
    pub dump_end_given : ((name : List ℕ) (v : VolRecordFields) → volume_of d name ≡ Some v → GivesNext (with_items k (s.items ++ Filemark ∷ []) slots) contents2 d name v) → IsKept listed (with_items k (s.items ++ Filemark ∷ []) slots) contents2 (records ++ d ∷ [])
    dump_end_given gives =
        dump_end_keeps (contents_grow (records ++ d ∷ []) (with_items k (s.items ++ Filemark ∷ []) slots) contents2 d ids (Contains-push records d)
        (λ p name chain there same is held. elim (Contains-push_cases records d p there) [
          | inl old ↦ old_contents p name chain old is held
          | inr own ↦ absurd (omega (arith, above, same, ap (λ (x : DumpRecordFields). x.id) own))
        ]) gives)
