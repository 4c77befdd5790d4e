-- The dump that its last part makes: found whole, with the record that the dump has.
use Rattle.std.proofs.Common.{◌≡◌, ℕ, zero, suc, ◌+◌, ◌<◌, ◌≤◌, false, Some, List, [], ◌∷◌, ◌++◌, length, map, refl, sym, ap, subst, ◌∙◌, arith, inl, inr}
use Rattle.std.specs.Prelude.{All, Contains, sum_by}
use Rattle.std.specs.List.{flat_map}
use Rattle.std.proofs.lemmas.Bool.{eqb-true, cases_Bool}
use Rattle.std.proofs.lemmas.List.Elements.{All-head}
use Rattle.tape_frames.specs.declared.dump_head.DumpHeadFields.{DumpHeadFields}
use Rattle.budb_changes.specs.declared.records.TapePart.{TapePart}
use Rattle.budb_changes.specs.declared.records.VolRecordFields.{VolRecordFields}
use Rattle.budb_changes.specs.declared.records.DumpRecordFields.{DumpRecordFields}
use Rattle.budb_fold.specs.Database.{is_dump, has_dump}
use Rattle.tape_text.specs.Texts.{Part, tape_items, Linked}
use Rattle.tape_text.specs.Parts.{FoundPart, fragments_at, part_marks}
use Rattle.tape_text.specs.Wholes.{Agree, NextTape, EndsWhole, BeginsWhole, IsWhole, tape_part, Lying, lying_as, lying_in, volume_records, record_with, record_by}
use Rattle.tape_scan.specs.Scans.{next_found}
use Rattle.tape_scan.specs.Slots.{Slot, Located}
use Rattle.archive_model.specs.Archives.{Archive}
use Rattle.archive_model.specs.Turns.{HasOwnHeads}
use Rattle.archive_model.proofs.CutLaws.{any_is}
use Rattle.dump_job.specs.declared.fields.JobFields.{JobFields}
use Rattle.dump_job.specs.Reels.{records_on}
use Rattle.dump_job.specs.Ending.{part_end, closed_part, place_of_part, all_parts}
use Rattle.dump_laws.specs.Made.{Made, part_at, all_lying, done_lying}
use Rattle.dump_laws.specs.Writing.{IsEnded, EndedFit, FragmentsFit, BeginsEnded}
use Rattle.dump_laws.specs.Running.{filled_as, OwnHeads, IsOpen}
use Rattle.dump_laws.specs.Growing.{record_done}
use Rattle.dump_laws.proofs.NeighbourLaws.{linked_more, map_more, flat_more}
use Rattle.dump_laws.proofs.PartLaws.{next_part, ends_there}
use Rattle.dump_laws.proofs.RecordLaws.{records_again}

-- the part in hand, with its end
abbrev pub part_with : ℕ → JobFields → Made → Part
part_with more j m = record { head = j.head; fragments = m.fragments; end = part_end more j }

abbrev pub found_with : ℕ → JobFields → Made → FoundPart
found_with more j m = next_found m.front (part_with more j m)

abbrev pub located_with : ℕ → JobFields → Made → Located
located_with more j m = record { slot = j.reel.slot; found = found_with more j m }

-- ---- its place

pub closed_as : (a : Archive) (j : JobFields) (m : Made) (more : ℕ) → IsOpen a j m [] → tape_part (found_with more j m) ≡ closed_part j
closed_as a j m more o =
    let first : length (tape_items m.front) ≡ j.first = sym o.first in
    let end : (found_with more j m).end ≡ records_on j.reel + 2 = omega (arith, ends_there m.front j.head m.fragments (part_end more j) o.slot.items o.items, o.count) in
    let marks : 1 + sum_by part_marks m.front.parts + part_marks (part_with more j m) ≡ j.reel.marks + 1 = omega (arith, o.marks) in
    λ i. record { tape = j.head.tape; first = first i; end = end i; marks = marks i; uses = j.head.uses; permanent = j.head.permanent }

filled_places : (ls : List Located) → map place_of_part (map filled_as ls) ≡ map tape_part (map (λ l. l.found) ls)
filled_places [] = refl
filled_places (l ∷ ls) = ap (λ (ps : List TapePart). tape_part l.found ∷ ps) (filled_places ls)

places_are : (a : Archive) (j : JobFields) (m : Made) (more : ℕ) → IsOpen a j m [] → j.filled ≡ map filled_as m.ended → map tape_part (map (λ l. l.found) (m.ended ++ located_with more j m ∷ [])) ≡ all_parts j
places_are a j m more o filled =
    ap (map tape_part) (map_more (λ (l : Located). l.found) m.ended (located_with more j m)) ∙ map_more tape_part (map (λ (l : Located). l.found) m.ended) (found_with more j m)
    ∙ ap (λ (p : TapePart). map tape_part (map (λ (l : Located). l.found) m.ended) ++ p ∷ []) (closed_as a j m more o)
    ∙ ap (λ (ps : List TapePart). ps ++ closed_part j ∷ []) (sym (filled_places m.ended) ∙ ap (map place_of_part) (sym filled))

-- ---- its volumes

lying_through : (ls : List Located) → flat_map lying_in (map (λ l. l.found) ls) ≡ flat_map (λ l. lying_in l.found) ls
lying_through [] = refl
lying_through (l ∷ ls) = ap (λ (x : List Lying). lying_in l.found ++ x) (lying_through ls)

lying_are : (a : Archive) (j : JobFields) (m : Made) (more : ℕ) → IsOpen a j m [] → flat_map lying_in (map (λ l. l.found) (m.ended ++ located_with more j m ∷ [])) ≡ all_lying j.head.tape j.first m
lying_are a j m more o =
    lying_through (m.ended ++ located_with more j m ∷ []) ∙ flat_more (λ (l : Located). lying_in l.found) m.ended (located_with more j m)
    ∙ ap (λ (n : ℕ). flat_map (λ (l : Located). lying_in l.found) m.ended ++ map (lying_as j.head.tape) (fragments_at (n + 1) m.fragments)) (sym o.first)

-- ---- its record

agree_record : (g h : DumpHeadFields) (tapes : List TapePart) (volumes : List VolRecordFields) → Agree g h
    → record { id = g.id; initial = g.initial; parent = g.parent; expires = g.expires; set = g.set; level = g.level; base = g.base; tapes = tapes; volumes = volumes; cell = g.cell }
    ≡ (let d : DumpRecordFields = record { id = h.id; initial = h.initial; parent = h.parent; expires = h.expires; set = h.set; level = h.level; base = h.base; tapes = tapes; volumes = volumes; cell = h.cell } in d)
agree_record g h tapes volumes agree =
    let a = sym agree.id in let b = sym agree.initial in let c = sym agree.parent in let d = sym agree.expires in let e = sym agree.set in let f = sym agree.level in let k = sym agree.base in let l = sym agree.cell in
    λ i. record { id = a i; initial = b i; parent = c i; expires = d i; set = e i; level = f i; base = k i; tapes = tapes; volumes = volumes; cell = l i }

record_of_all : (j : JobFields) (volumes : List VolRecordFields) (q : FoundPart) (qs : List FoundPart) → Agree q.part.head j.head → map tape_part (q ∷ qs) ≡ all_parts j → volume_records (flat_map lying_in (q ∷ qs)) ≡ volumes → record_with q.part.head (q ∷ qs) ≡ record_done j volumes
record_of_all j volumes q qs agree tapes read =
    agree_record q.part.head j.head (map tape_part (q ∷ qs)) (volume_records (flat_map lying_in (q ∷ qs))) agree
    ∙ (λ i. record { id = j.head.id; initial = j.head.initial; parent = j.head.parent; expires = j.head.expires; set = j.head.set; level = j.head.level; base = j.head.base; tapes = tapes i; volumes = read i; cell = j.head.cell })

self_agrees : (h : DumpHeadFields) → Agree h h
self_agrees h = record { id = refl; initial = refl; parent = refl; expires = refl; volumes = refl; set = refl; level = refl; base = refl; cell = refl }

-- the record of the parts, the one in hand as the last
its_record : (j : JobFields) (volumes : List VolRecordFields) (ended : List Located) (l : Located) → l.found.part.head ≡ j.head → All (IsEnded j.head (length ended)) ended → map tape_part (map (λ x. x.found) (ended ++ l ∷ [])) ≡ all_parts j
    → volume_records (flat_map lying_in (map (λ x. x.found) (ended ++ l ∷ []))) ≡ volumes → record_by (map (λ x. x.found) (ended ++ l ∷ [])) ≡ Some (record_done j volumes)
its_record j volumes [] l head each tapes read = ap Some (record_of_all j volumes l.found [] (subst (Agree l.found.part.head) head (self_agrees l.found.part.head)) tapes read)
its_record j volumes (e ∷ ended) l head each tapes read =
    ap Some (record_of_all j volumes e.found (map (λ (x : Located). x.found) (ended ++ l ∷ [])) (All-head (IsEnded j.head (length (e ∷ ended))) e ended each).agree tapes read)

pub record_is : (a : Archive) (j : JobFields) (m : Made) (more : ℕ) (volumes : List VolRecordFields) → IsOpen a j m [] → EndedFit j.head m.ended → j.filled ≡ map filled_as m.ended → All (λ v. 1 ≤ length v.frags) volumes
    → all_lying j.head.tape j.first m ≡ done_lying j.head.id volumes → record_by (map (λ x. x.found) (m.ended ++ located_with more j m ∷ [])) ≡ Some (record_done j volumes)
record_is a j m more volumes o ended filled some lying =
    its_record j volumes m.ended (located_with more j m) refl ended.each (places_are a j m more o filled) (ap volume_records (lying_are a j m more o ∙ lying) ∙ records_again j.head.id volumes some)

-- ---- it is whole

ends_more_whole : (ps : List Part) (p : Part) → p.end.more ≡ 0 → EndsWhole (ps ++ p ∷ [])
ends_more_whole [] p last = last
ends_more_whole (q ∷ []) p last = last
ends_more_whole (q ∷ r ∷ ps) p last = ends_more_whole (r ∷ ps) p last

begins_whole : (ended : List Located) (l : Located) → BeginsEnded ended → l.found.part.head.part ≡ length ended + 1 → BeginsWhole (map part_at (ended ++ l ∷ []))
begins_whole [] l begins number = number
begins_whole (e ∷ ended) l begins number = begins

pub whole_with : (j : JobFields) (m : Made) → EndedFit j.head m.ended → FragmentsFit j.head.id j.head.volumes m.ended m.fragments → (m.fragments ≡ [] → ⊥) → IsWhole (map part_at (m.ended ++ located_with 0 j m ∷ []))
whole_with j m ended fragments some =
    let p : Part = part_with 0 j m in
    let all : map part_at (m.ended ++ located_with 0 j m ∷ []) ≡ map part_at m.ended ++ p ∷ [] = map_more part_at m.ended (located_with 0 j m) in
    record {
      begins = begins_whole m.ended (located_with 0 j m) ended.begins ended.number;
      linked = subst (Linked NextTape) (sym all) (linked_more NextTape (map part_at m.ended) p ended.linked (next_part j.head m.ended m.fragments (part_end 0 j) ended fragments some));
      ends = subst EndsWhole (sym all) (ends_more_whole (map part_at m.ended) p refl);
    }

-- ---- its heads

in_front : (ls : List Located) (x l : Located) → Contains ls l → Contains (ls ++ x ∷ []) l
in_front [] x l there = absurd (omega (arith, there.1))
in_front (y ∷ ls) x l (zero, within, is) = (0, omega arith, is)
in_front (y ∷ ls) x l (suc k, within, is) = (let rest = in_front ls x l (k, omega (arith, within), is) in (suc rest.0, omega (arith, rest.1), rest.2))

in_last : (ls : List Located) (x : Located) → Contains (ls ++ x ∷ []) x
in_last [] x = (0, omega arith, refl)
in_last (y ∷ ls) x = (let rest = in_last ls x in (suc rest.0, omega (arith, rest.1), rest.2))

pub own_of : (slots : List Slot) (ended : List Located) (id slot first : ℕ) (x : Located) → x.slot ≡ slot → x.found.first ≡ first → OwnHeads slots ended id slot first → HasOwnHeads slots (ended ++ x ∷ []) id
own_of slots ended id slot first x slot_is first_is own k t n h at is same = elim (own k t n h at is same) [
  | inl old ↦ (old.0, in_front ended x old.0 old.1, old.2, old.3)
  | inr here ↦ (x, in_last ended x, slot_is ∙ sym here.0, first_is ∙ sym here.1)
]

-- ---- it fits a database that lists dumps of other ids

pub none_listed : (listed : List DumpRecordFields) (id : ℕ) → ((e : DumpRecordFields) → Contains listed e → e.id ≡ id → ⊥) → has_dump listed id ≡ false
none_listed listed id other = elim (cases_Bool (has_dump listed id)) [
  | inl hit ↦ (let x = any_is (is_dump id) listed hit in absurd (other x.0 x.1 (eqb-true x.0.id id x.2)))
  | inr miss ↦ miss
]
