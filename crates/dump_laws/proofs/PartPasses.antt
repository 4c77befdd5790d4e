-- Behind a part's end the dump goes on on the next tape: what is so before that tape's step.
use Rattle.std.proofs.Common.{◌≡◌, ℕ, zero, suc, ◌+◌, ◌<◌, ◌≤◌, Bool, true, false, not, Option, Some, None, List, [], ◌∷◌, ◌++◌, length, map, refl, sym, ap, subst, ◌∙◌, arith, inl, inr, append-nil, length-append}
use Rattle.std.specs.Prelude.{◌==◌, Result, All, Contains}
use Rattle.std.specs.List.{flat_map, list_any}
use Rattle.std.proofs.lemmas.Bool.{eq-eqb}
use Rattle.std.proofs.lemmas.List.Elements.{All-nil, All-cons}
use Rattle.vnode_model.specs.declared.volumes.VolumeFields.{VolumeFields}
use Rattle.tape_frames.specs.declared.frame.Frame.TheVariants as frames
use Rattle.tape_frames.specs.declared.data.DataFields.{DataFields}
use Rattle.tape_frames.specs.declared.label.LabelFields.{LabelFields}
use Rattle.tape_frames.specs.declared.dump_head.DumpHeadFields.{DumpHeadFields}
use Rattle.tape_frames.specs.declared.vol_head.VolHeadFields.{VolHeadFields}
use Rattle.budb_changes.specs.declared.change.Change.{Change}
use Rattle.budb_changes.specs.declared.records.TapePart.{TapePart}
use Rattle.budb_changes.specs.declared.records.Frag.{Frag}
use Rattle.budb_changes.specs.declared.records.VolRecordFields.{VolRecordFields}
use Rattle.budb_changes.specs.declared.records.DumpRecordFields.{DumpRecordFields}
use Rattle.budb_changes.specs.Forms.{AreChanges}
use Rattle.budb_fold.specs.Database.{is_initial, without, after}
use Rattle.plant_core.specs.Crashes.{State}
use Rattle.plant_core.specs.Effects.{come}
use Rattle.tape_text.specs.Items.{Says, Filemark, IsFitItem}
use Rattle.tape_text.specs.Texts.{Fragment, NextVolume, Linked}
use Rattle.tape_text.specs.Parts.{fragments_at}
use Rattle.tape_text.specs.Wholes.{Ends, Agree, NextTape, Lying, lying_as, lying_in, next_head}
use Rattle.tape_scan.specs.Slots.{Located, IsClosedAt}
use Rattle.tape_writer.specs.Puts.{puts_on}
use Rattle.tape_writer.specs.Filling.{bytes_of, fragment_bytes, of_index, IsDumped}
use Rattle.tape_writer.proofs.Standing.{stands}
use Rattle.tape_choice.specs.declared.choosing.Chosen.{Chosen}
use Rattle.tape_choice.specs.Choice.{takes, forgotten}
use Rattle.tape_choice.specs.Reads.{label_in}
use Rattle.archive_model.specs.Archives.{Archive, Refusal, listed_of}
use Rattle.archive_model.specs.Settled.{HoldsSettled}
use Rattle.archive_model.specs.Turns.{with_items, with_log, with_slot, remaining, HasOwnHeads}
use Rattle.tape_scan.proofs.ListLaws.{of_filter}
use Rattle.archive_model.proofs.AfterLaws.{taken_behind}
use Rattle.archive_model.proofs.CutLaws.{any_from}
use Rattle.archive_model.proofs.JobLaws.{slot_with, remaining_among}
use Rattle.archive_model.proofs.PutLaws.{with_other}
use Rattle.archive_model.proofs.SlotLaws.{in_map}
use Rattle.archive_model.proofs.StepLaws.{read_length, take_commit}
use Rattle.dump_job.specs.declared.fields.Filled.{Filled}
use Rattle.dump_job.specs.declared.fields.Hand.{Hand}
use Rattle.dump_job.specs.declared.fields.JobFields.{JobFields}
use Rattle.dump_job.specs.Ending.{part_end, part_end_items, closed_part}
use Rattle.dump_job.specs.Closing.{committing}
use Rattle.dump_job.specs.Passing.{slot_of, slots_taken, next_wanting, head_by, next_hand, part_passed}
use Rattle.dump_laws.specs.Neighbours.{GoesTo}
use Rattle.dump_laws.specs.Made.{Made, Basis, MayBegin, part_at, all_fragments, all_lying, going_on, done_lying}
use Rattle.dump_laws.specs.Writing.{IsEnded, IsNextHead, EndedFit, FragmentsFit, VolumesFit, dumping_of, HasHead, HandStreams, BeginsEnded}
use Rattle.dump_laws.specs.Running.{basis_of, filled_as, Goes, IsOpen, BeforeTape, BeforeHead, BeforePartEnd, Comes}
use Rattle.dump_laws.proofs.NeighbourLaws.{ends_so, in_more, last_more, all_more, all_so, linked_more, map_more, flat_more}
use Rattle.dump_laws.proofs.PartLaws.{next_part}
use Rattle.dump_laws.proofs.OwnLaws.{IsNoHead, own_put, all_closed_elsewhere}
use Rattle.dump_laws.proofs.GoingLaws.{other_settled}
use Rattle.dump_laws.proofs.EndingLaws.{part_with, located_with, closed_as, own_of}
use Rattle.dump_laws.proofs.ChosenLaws.{IsChosenOf, without_taken, holds_none}
use Rattle.dump_laws.proofs.PartEnds.{EndsEarly, early_some, closed_there, end_there, end_held}

-- what was made when the part in hand is ended
abbrev pub passed_made : JobFields → Made → Made
passed_made j m = record m { ended = m.ended ++ located_with 1 j m ∷ []; fragments = []; pieces = [] }

all_passed : (j : JobFields) (m : Made) → all_fragments (passed_made j m) ≡ all_fragments m
all_passed j m = append-nil (flat_map (λ (l : Located). l.found.part.fragments) (m.ended ++ located_with 1 j m ∷ [])) ∙ flat_more (λ (l : Located). l.found.part.fragments) m.ended (located_with 1 j m)

volumes_passed : (contents : ℕ → List ℕ → Result VolumeFields Refusal) (b : Basis) (volumes : List VolRecordFields) (j : JobFields) (m : Made) → VolumesFit contents b volumes m → VolumesFit contents b volumes (passed_made j m)
volumes_passed contents b volumes j m fit = record {
  some = fit.some;
  clones = fit.clones;
  cloned = fit.cloned;
  dumped = λ i v c at clone. subst (λ (fs : List Fragment). IsDumped b.id i fs (dumping_of v c)) (sym (all_passed j m)) (fit.dumped i v c at clone);
}

-- the volume in hand, with another number of its next fragment
hand_passed : (contents : ℕ → List ℕ → Result VolumeFields Refusal) (b : Basis) (done : ℕ) (head : VolHeadFields) (fragment : ℕ) (left : List ℕ) (j : JobFields) (m : Made) → m.pieces ≡ [] → HandStreams contents b done head left m → HandStreams contents b done (record head { fragment = fragment }) left (passed_made j m)
hand_passed contents b done head fragment left j m none x = record {
  clone = x.clone;
  at = x.at;
  last = x.last;
  cloned = x.cloned;
  heads = subst (λ (fs : List Fragment). All (HasHead head) (of_index head.index fs)) (sym (all_passed j m)) x.heads;
  stream =
      ap (λ (fs : List Fragment). (flat_map fragment_bytes (of_index head.index fs) ++ []) ++ left) (all_passed j m)
      ∙ ap (λ (l : List DataFields). (flat_map fragment_bytes (of_index head.index (all_fragments m)) ++ flat_map bytes_of l) ++ left) (sym none) ∙ x.stream;
}

-- ---- the ended parts

ended_begins : (ended : List Located) (l : Located) → BeginsEnded ended → l.found.part.head.part ≡ length ended + 1 → BeginsEnded (ended ++ l ∷ [])
ended_begins [] l begins number = number
ended_begins (e ∷ ended) l begins number = begins

agree_by : (h : DumpHeadFields) (old : Option LabelFields) (j : JobFields) → Agree h j.head → Agree h (head_by old j)
agree_by h old j x = record { id = x.id; initial = x.initial; parent = x.parent; expires = x.expires; volumes = x.volumes; set = x.set; level = x.level; base = x.base; cell = x.cell }

ended_passed : (j : JobFields) (m : Made) (old : Option LabelFields) → EndedFit j.head m.ended → FragmentsFit j.head.id j.head.volumes m.ended m.fragments → (m.fragments ≡ [] → ⊥) → EndedFit (head_by old j) (m.ended ++ located_with 1 j m ∷ [])
ended_passed j m old fit fragments some =
    let l : Located = located_with 1 j m in
    let count : length (m.ended ++ l ∷ []) ≡ length m.ended + 1 = length-append m.ended (l ∷ []) in
    let self : Agree j.head (head_by old j) = record { id = refl; initial = refl; parent = refl; expires = refl; volumes = refl; set = refl; level = refl; base = refl; cell = refl } in
    record {
      linked = subst (Linked NextTape) (sym (map_more part_at m.ended l)) (linked_more NextTape (map part_at m.ended) (part_with 1 j m) fit.linked (next_part j.head m.ended m.fragments (part_end 1 j) fit fragments some));
      begins = ended_begins m.ended l fit.begins fit.number;
      each = all_more (IsEnded (head_by old j) (length (m.ended ++ l ∷ []))) m.ended l
          (all_so (IsEnded j.head (length m.ended)) (IsEnded (head_by old j) (length (m.ended ++ l ∷ []))) m.ended
          (λ e x. record { agree = agree_by e.found.part.head old j x.agree; more = x.more; number = omega (arith, x.number, count) }) fit.each)
          (record { agree = self; more = refl; number = omega (arith, fit.number, count) });
      next = last_more (IsNextHead (head_by old j)) m.ended l (refl, refl);
      number = omega (arith, fit.number, count);
    }

-- ---- the log

-- a commit of a take, where there is one
abbrev pub passed_archive : Option ℕ → Archive → Archive
passed_archive take a = with_log a (a.log ++ takes take)

abbrev pub passed_records : Option ℕ → Archive → List DumpRecordFields → List DumpRecordFields
passed_records None a records = records
passed_records (Some initial) a records = remaining (without (is_initial initial) (listed_of a)) a.slots records

pub take_held : (take : Option ℕ) (s : State) (a : Archive) (records : List DumpRecordFields) → HoldsSettled s a records → AreChanges (takes take) → HoldsSettled (come (committing (takes take)) s) (passed_archive take a) (passed_records take a records)
take_held None s a records held forms = subst (λ (l : List Change). HoldsSettled s (with_log a l) records) (sym (append-nil a.log)) held
take_held (Some initial) s a records held forms = take_commit s a records [] initial held forms tt

pub among_passed : (take : Option ℕ) (a : Archive) (records : List DumpRecordFields) (e : DumpRecordFields) → Contains (passed_records take a records) e → Contains records e
among_passed None a records e there = there
among_passed (Some initial) a records e there = remaining_among (without (is_initial initial) (listed_of a)) a.slots records e there

pub listed_passed : (take : Option ℕ) (a : Archive) → listed_of (passed_archive take a) ≡ without_taken take (listed_of a)
listed_passed None a = ap (λ (l : List Change). (after l).listed) (append-nil a.log)
listed_passed (Some initial) a = taken_behind a.log [] initial tt

pub took_among : (take : Option ℕ) (a : Archive) (e : DumpRecordFields) → Contains (listed_of (passed_archive take a)) e → Contains (listed_of a) e
took_among None a e there = subst (λ (l : List DumpRecordFields). Contains l e) (listed_passed None a) there
took_among (Some initial) a e there = (of_filter (λ (d : DumpRecordFields). not (is_initial initial d)) (listed_of a) e (subst (λ (l : List DumpRecordFields). Contains l e) (listed_passed (Some initial) a) there)).0

same_settled : (take : Option ℕ) (s : State) (k : ℕ) → (come (committing (takes take)) s).settled k ≡ s.settled k
same_settled None s k = refl
same_settled (Some initial) s k = refl

-- ---- the slots that are taken

front_of : {X : Type 0} (xs ys : List X) (x : X) → Contains xs x → Contains (xs ++ ys) x
front_of [] ys x there = absurd (omega (arith, there.1))
front_of (y ∷ xs) ys x (zero, within, is) = (0, omega arith, is)
front_of (y ∷ xs) ys x (suc k, within, is) = (let rest = front_of xs ys x (k, omega (arith, within), is) in (suc rest.0, omega (arith, rest.1), rest.2))

taken_slot : (ended : List Located) (filled : List Filled) (k : ℕ) (l : Located) → filled ≡ map filled_as ended → Contains ended l → Contains (map slot_of filled ++ k ∷ []) l.slot
taken_slot ended filled k l same there =
    let one : Contains (map slot_of (map filled_as ended)) l.slot = in_map slot_of (map filled_as ended) (filled_as l) (in_map filled_as ended l there) in
    let two : Contains (map slot_of filled) l.slot = subst (λ (fs : List Filled). Contains (map slot_of fs) l.slot) (sym same) one in
    front_of (map slot_of filled) (k ∷ []) l.slot two

last_of : {X : Type 0} (xs : List X) (x : X) → Contains (xs ++ x ∷ []) x
last_of [] x = (0, omega arith, refl)
last_of (y ∷ xs) x = (let rest = last_of xs x in (suc rest.0, omega (arith, rest.1), rest.2))

not_taken : (used : List ℕ) (k n : ℕ) → list_any (λ (u : ℕ). u == k) used ≡ false → Contains used n → n ≡ k → ⊥
not_taken used k n unused there same = absurd (let hit : list_any (λ (u : ℕ). u == k) used ≡ true = any_from (λ (u : ℕ). u == k) used n there (eq-eqb n k same) in let e : true ≡ false = sym hit ∙ unused in cc)

-- ---- the places of fragments

lying_passed : (tape : ℕ) (a : Archive) (j : JobFields) (m : Made) → IsOpen a j m [] → all_lying tape j.first (passed_made j m) ≡ all_lying j.head.tape j.first m
lying_passed tape a j m o =
    append-nil (flat_map (λ (l : Located). lying_in l.found) (m.ended ++ located_with 1 j m ∷ [])) ∙ flat_more (λ (l : Located). lying_in l.found) m.ended (located_with 1 j m)
    ∙ ap (λ (n : ℕ). flat_map (λ (l : Located). lying_in l.found) m.ended ++ map (lying_as j.head.tape) (fragments_at (n + 1) m.fragments)) (sym o.first)

going_same : (head : VolHeadFields) (other fragment : ℕ) (frags : List Frag) → going_on (record head { fragment = other }) fragment frags ≡ going_on head fragment frags
going_same head other fragment [] = refl
going_same head other fragment (f ∷ frags) = ap (λ (l : List Lying). record { tape = f.tape; at = f.at; head = record head { fragment = fragment }; last = 0 } ∷ l) (going_same head other (fragment + 1) frags)

begin_last : (ended : List Located) (l : Located) (head : VolHeadFields) → Ends (λ f. GoesTo f head) l.found.part.fragments → MayBegin (ended ++ l ∷ []) head
begin_last [] l head ends = ends
begin_last (e ∷ ended) l head ends = last_more (λ (p : Located). Ends (λ f. GoesTo f head) p.found.part.fragments) (e ∷ ended) l ends

-- ---- the step

module _ (s : State) (a : Archive) (records : List DumpRecordFields) (j : JobFields) (m : Made) (g : Goes s a records j m) (o : IsOpen a j m []) (early : EndsEarly j.head.volumes m.fragments) (fit : IsFitItem (Says (frames.DumpEnd (part_end 1 j)))) where
  abbrev ended_archive : Archive
  ended_archive = with_slot a j.reel.slot (o.slot.items ++ part_end_items 1 j)

  abbrev ended_state : State
  ended_state = come (puts_on j.reel.slot (part_end_items 1 j)) s

  ended_held : HoldsSettled ended_state ended_archive records
  unfolding puts_on
  ended_held = (end_held s a records j m g o early fit).1.1.1

  ended_closed : All (IsClosedAt (with_items j.reel.slot (o.slot.items ++ part_end_items 1 j) a.slots)) (m.ended ++ located_with 1 j m ∷ [])
  ended_closed =
      all_more (IsClosedAt (with_items j.reel.slot (o.slot.items ++ part_end_items 1 j) a.slots)) m.ended (located_with 1 j m) (all_closed_elsewhere j.reel.slot (o.slot.items ++ part_end_items 1 j) a.slots m.ended g.apart g.closed)
      (record { here = record o.slot { items = o.slot.items ++ part_end_items 1 j }; at = slot_with j.reel.slot (o.slot.items ++ part_end_items 1 j) a.slots o.slot o.at; closed = closed_there s a records j m g o early fit })

  its_settled : ended_state.settled j.reel.slot ≡ length o.slot.items + 2
  its_settled =
      let alike : (j.reel.slot == j.reel.slot) ≡ true = eq-eqb j.reel.slot j.reel.slot refl in
      let long : length (s.tape j.reel.slot) ≡ length o.slot.items = read_length (s.tape j.reel.slot) o.slot.items (g.held.seen.tapes j.reel.slot o.slot o.at) in
      let counted : length (s.tape j.reel.slot) + 1 + 1 ≡ length o.slot.items + 2 = omega (arith, long) in
      (stands j.reel.slot (part_end_items 1 j) s).settled j.reel.slot ∙ rw alike counted

  ended_settled : (l : Located) → Contains (m.ended ++ located_with 1 j m ∷ []) l → l.found.end ≤ ended_state.settled l.slot
  ended_settled l there = elim (in_more m.ended (located_with 1 j m) l there) [
    | inl old ↦ subst (λ (n : ℕ). l.found.end ≤ n) (sym (other_settled j.reel.slot l.slot (part_end_items 1 j) s (g.apart l old))) (g.settled l old)
    | inr new ↦
        (let end : (located_with 1 j m).found.end ≤ ended_state.settled j.reel.slot = omega (arith, end_there s a records j m g o early fit, its_settled) in
        subst (λ (x : Located). x.found.end ≤ ended_state.settled x.slot) new end)
  ]

  ended_own : HasOwnHeads (with_items j.reel.slot (o.slot.items ++ part_end_items 1 j) a.slots) (m.ended ++ located_with 1 j m ∷ []) j.head.id
  ended_own =
      let none : All IsNoHead (part_end_items 1 j) = All-cons IsNoHead (Says (frames.DumpEnd (part_end 1 j))) (Filemark ∷ []) (λ x same. absurd (cc)) (All-cons IsNoHead Filemark [] (λ x same. absurd (cc)) (All-nil IsNoHead)) in
      own_of (with_items j.reel.slot (o.slot.items ++ part_end_items 1 j) a.slots) m.ended j.head.id j.reel.slot j.first (located_with 1 j m) refl (sym o.first)
      (own_put a.slots m.ended j.head.id j.reel.slot j.first j.reel.slot o.slot (part_end_items 1 j) o.at none o.own)

  module _ (c : Chosen) (chosen : IsChosenOf (listed_of a) (next_wanting (listed_of a) j) a.slots c) (forms : AreChanges (takes c.take)) (cut : Bool) where
    other_slot : c.slot ≡ j.reel.slot → ⊥
    other_slot same = not_taken (slots_taken j) c.slot j.reel.slot chosen.unused (last_of (map slot_of j.filled) j.reel.slot) (sym same)

    apart_passed : (l : Located) → Contains (m.ended ++ located_with 1 j m ∷ []) l → l.slot ≡ c.slot → ⊥
    apart_passed l there same = elim (in_more m.ended (located_with 1 j m) l there) [
      | inl old ↦ not_taken (slots_taken j) c.slot l.slot chosen.unused (taken_slot m.ended j.filled j.reel.slot l g.filled old) same
      | inr new ↦ other_slot (sym same ∙ ap (λ (x : Located). x.slot) (sym new))
    ]

    listed_then : listed_of (passed_archive c.take ended_archive) ≡ without_taken (forgotten (listed_of a) (label_in chosen.slot.items)) (listed_of a)
    listed_then = listed_passed c.take ended_archive ∙ ap (λ (t : Option ℕ). without_taken t (listed_of a)) chosen.take

    filled_passed : j.filled ++ record { slot = j.reel.slot; part = closed_part j } ∷ [] ≡ map filled_as (m.ended ++ located_with 1 j m ∷ [])
    filled_passed =
        ap (λ (fs : List Filled). fs ++ record { slot = j.reel.slot; part = closed_part j } ∷ []) g.filled
        ∙ ap (λ (p : TapePart). map filled_as m.ended ++ record { slot = j.reel.slot; part = p } ∷ []) (sym (closed_as a j m 1 o)) ∙ sym (map_more filled_as m.ended (located_with 1 j m))

    pub passed_goes : Goes (come (committing (takes c.take)) ended_state) (passed_archive c.take ended_archive) (passed_records c.take ended_archive records) (part_passed cut c j) (passed_made j m)
    passed_goes = record {
      held = take_held c.take ended_state ended_archive records ended_held forms;
      new = λ e there. g.new e (among_passed c.take ended_archive records e there);
      parent = g.parent;
      ended = ended_passed j m c.label g.ended o.fragments (early_some j.head.volumes m.fragments early);
      filled = filled_passed;
      closed = ended_closed;
      settled = λ l there. subst (λ (n : ℕ). l.found.end ≤ n) (sym (same_settled c.take ended_state l.slot)) (ended_settled l there);
      apart = apart_passed;
      count = g.count;
      volumes = volumes_passed a.contents (basis_of j) j.volumes j m g.volumes;
    }

    pub passed_before : Comes (passed_archive c.take ended_archive) (part_passed cut c j) (passed_made j m) (next_hand cut j.head.tape j.hand) → BeforeTape (passed_archive c.take ended_archive) (part_passed cut c j) (passed_made j m)
    passed_before comes = record {
      slot = chosen.slot;
      at = with_other j.reel.slot (o.slot.items ++ part_end_items 1 j) a.slots c.slot chosen.slot other_slot chosen.at;
      chosen = record {
        blocks = refl;
        marks = refl;
        initial = refl;
        number = refl;
        name = refl;
        permanent = refl;
        free = λ d tape there held. holds_none (listed_of a) (next_wanting (listed_of a) j) chosen.slot.items d tape chosen.passes (subst (λ (l : List DumpRecordFields). Contains l d) listed_then there) held;
      };
      none = refl;
      own = ended_own;
      comes = comes;
    }

    -- the volume in hand was cut
    pub comes_cut : (h : Hand) → BeforePartEnd a j h m → Comes (passed_archive c.take ended_archive) (part_passed cut c j) (passed_made j m) (next_hand true j.head.tape (Some h))
    comes_cut h b =
        let head : VolHeadFields = record h.head { fragment = h.head.fragment + 1 } in
        let frags : List Frag = h.frags ++ record { tape = j.head.tape; at = h.at } ∷ [] in
        let ends : Ends (λ f. GoesTo f head) m.fragments =
        ends_so (λ (f : Fragment). (f.head ≡ h.head) × (f.end.last ≡ 0)) (λ (f : Fragment). GoesTo f head) m.fragments (λ f is. inl (is.1, ap (λ (x : VolHeadFields). next_head x) (sym is.0))) b.last in (
          record {
            goes = record {
              fits = record {
                dump = b.goes.fits.dump;
                index = b.goes.fits.index;
                below = b.goes.fits.below;
                fragment = omega (arith, b.goes.fits.fragment, length-append h.frags (record { tape = j.head.tape; at = h.at } ∷ []));
              };
              streams = hand_passed a.contents (basis_of j) (length j.volumes) h.head (h.head.fragment + 1) h.stream j m b.none b.goes.streams;
              below = subst (All (λ (f : Fragment). f.head.index < length j.volumes + 1)) (sym (all_passed j m)) b.goes.below;
            };
            comes = begin_last m.ended (located_with 1 j m) head ends;
            lying = lying_passed (j.head.tape + 1) a j m o ∙ b.lying ∙ ap (λ (l : List Lying). done_lying j.head.id j.volumes ++ l) (sym (going_same h.head (h.head.fragment + 1) 1 frags));
          },
          b.left,
          refl,
        )

    -- no fragment of the volume in hand was put on this tape
    pub comes_whole : (h : Hand) → (b : BeforeHead a j h m) → Ends (λ g. (g.end.last ≡ 1) × NextVolume g.head h.head) m.fragments → Comes (passed_archive c.take ended_archive) (part_passed cut c j) (passed_made j m) (next_hand false j.head.tape (Some h))
    comes_whole h b last =
        let ends : Ends (λ f. GoesTo f h.head) m.fragments = ends_so (λ (f : Fragment). (f.end.last ≡ 1) × NextVolume f.head h.head) (λ (f : Fragment). GoesTo f h.head) m.fragments (λ f is. inr is) last in (
          record {
            goes = record {
              fits = b.hand.goes.fits;
              streams = hand_passed a.contents (basis_of j) (length j.volumes) h.head h.head.fragment h.stream j m b.none b.hand.goes.streams;
              below = subst (All (λ (f : Fragment). f.head.index < length j.volumes + 1)) (sym (all_passed j m)) b.hand.goes.below;
            };
            comes = begin_last m.ended (located_with 1 j m) h.head ends;
            lying = lying_passed (j.head.tape + 1) a j m o ∙ b.hand.lying;
          },
          b.left,
          refl,
        )
