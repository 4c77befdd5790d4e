-- Wherever a scan stands, what it has read can be made whole.
use Rattle.std.proofs.Common.{◌≡◌, ℕ, ◌+◌, ◌-◌, ◌<◌, ◌≤◌, Bool, true, false, Option, Some, List, [], ◌∷◌, ◌++◌, length, map, refl, sym, ap, subst, ◌∙◌, arith, inl, inr, append-nil}
use Rattle.std.specs.Prelude.{All, drop, replicate, if◌then◌else◌}
use Rattle.std.proofs.lemmas.List.{length-replicate, drop-replicate}
use Rattle.std.proofs.lemmas.List.Elements.{All-nil, All-cons, All-replicate}
use Rattle.bk_text.specs.Alphabets.{IsNameByte, IsNoDash, IsWord}
use Rattle.tape_frames.specs.declared.frame.Frame.TheVariants as frames
use Rattle.tape_frames.specs.declared.label.LabelFields.{LabelFields}
use Rattle.tape_frames.specs.declared.dump_head.DumpHeadFields.{DumpHeadFields}
use Rattle.tape_frames.specs.declared.vol_head.VolHeadFields.{VolHeadFields}
use Rattle.tape_frames.specs.declared.data.DataFields.{DataFields}
use Rattle.tape_frames.specs.declared.vol_end.VolEndFields.{VolEndFields}
use Rattle.tape_frames.specs.declared.dump_end.DumpEndFields.{DumpEndFields}
use Rattle.tape_frames.specs.Layouts.{FitsLabel, FitsVolHead, FitsData, FitsVolEnd, FitsDumpEnd}
use Rattle.tape_text.specs.Items.{Item, Says, Filemark}
use Rattle.tape_text.specs.Texts.{Fragment, Part, Tape, tape_items, used_of, IsTape}
use Rattle.tape_text.specs.Parts.{fragments_len, fragments_at}
use Rattle.tape_scan.specs.declared.sections.FragFound.{FragFound}
use Rattle.tape_scan.specs.Scans.{with_part}
use Rattle.tape_scan.specs.Steps.{last_of, ends_last, EndBehind, OpensFragment, AddsPiece, EndsFragment, EndsPart}
use Rattle.tape_scan.proofs.OpenedLaws.{label_tape, nothing_text}
use Rattle.tape_scan.proofs.ReachedLists.{by_last, last_frag}
use Rattle.tape_scan.proofs.ReachedGood.{GoodPart, GoodFragment}
use Rattle.tape_scan.proofs.ReachedNext.{Good, Went, went}
use Rattle.tape_scan.proofs.Reached.{Reached, at_front, labeled, between, in_part, in_fragment, behind_fragment, behind_part, next, tape_len, closed_frag, part_at, frag_at, is_some, whole_part, whole_fragment, Stands}

pub record Completed (s : Reached) : Type 0 where
  pub whole : Tape
  pub more : List Item
  pub is : IsTape whole
  pub stands : Stands s whole more

by_next : (s : Reached) (i : Item) → Went s i → Completed (next s i) → Completed s
by_next s i step c = record { whole = c.whole; more = i ∷ c.more; is = c.is; stands = step.back c.whole c.more c.stands }

done_between : (t : Tape) → IsTape t → Completed (between t)
done_between t is = record { whole = t; more = []; is = is; stands = record { rest = []; whole = ap (λ (l : List Part). let x : Tape = record { label = t.label; parts = l } in x) (append-nil t.parts); items = refl } }

done_labeled : (l : LabelFields) → FitsLabel l → Completed (labeled l)
done_labeled l fit = by_next (labeled l) Filemark (went (labeled l) Filemark fit tt tt) (done_between (record { label = l; parts = [] }) (label_tape l fit))

done_front : Completed at_front
done_front = (let text = nothing_text in record { whole = text.whole; more = tape_items text.whole; is = text.is; stands = record { rest = text.whole; whole = refl; items = refl } })

done_behind_part : (t : Tape) (p : Part) → IsTape (with_part t p) → Completed (behind_part t p)
done_behind_part t p good = by_next (behind_part t p) Filemark (went (behind_part t p) Filemark good tt tt) (done_between (with_part t p) good)

-- ---- a part with fragments may end

a_bit : (b : Bool) → (if b then 0 else 1) ≤ 1
a_bit true = omega arith
a_bit false = omega arith

done_part : (t : Tape) (h : DumpHeadFields) (fs before : List Fragment) (f : Fragment) → fs ≡ before ++ f ∷ [] → GoodPart t h fs → Completed (in_part t h fs)
done_part t h fs before f same good =
    let found : FragFound = closed_frag (record { fragment = f; at = tape_len t + 1 + fragments_len before }) in
    let bit : Bool = ends_last h.volumes (closed_frag (record { fragment = f; at = tape_len t + 1 + fragments_len before })) in
    let e : DumpEndFields = record { dump = h.id; tape = 0; more = if ends_last h.volumes (closed_frag (record { fragment = f; at = tape_len t + 1 + fragments_len before })) then 0 else 1 } in
    let there : EndBehind h.volumes (last_of (map closed_frag (fragments_at (tape_len t + 1) (before ++ f ∷ [])))) e =
    subst (λ (o : Option FragFound). EndBehind h.volumes o e) (sym (last_frag (tape_len t + 1) before f)) (let own : EndBehind h.volumes (Some (closed_frag (record { fragment = f; at = tape_len t + 1 + fragments_len before }))) e = refl in own) in
    let ends : EndsPart (part_at t h fs) e = record { dump = refl; more = subst (λ (l : List Fragment). EndBehind h.volumes (last_of (map closed_frag (fragments_at (tape_len t + 1) l))) e) (sym same) there } in
    let fit : FitsDumpEnd e = record { dump = good.fit.id; tape = omega arith; more = a_bit (ends_last h.volumes (closed_frag (record { fragment = f; at = tape_len t + 1 + fragments_len before }))) } in
    let step = went (in_part t h fs) (Says (frames.DumpEnd e)) good fit ends in
    by_next (in_part t h fs) (Says (frames.DumpEnd e)) step (done_behind_part t (whole_part h fs e) step.good)

done_behind_fragment : (t : Tape) (h : DumpHeadFields) (fs : List Fragment) (f : Fragment) → GoodPart t h (fs ++ f ∷ []) → Completed (behind_fragment t h fs f)
done_behind_fragment t h fs f good = by_next (behind_fragment t h fs f) Filemark (went (behind_fragment t h fs f) Filemark good tt tt) (done_part t h (fs ++ f ∷ []) fs f refl good)

-- ---- a fragment with pieces may end its volume

done_fragment : (t : Tape) (h : DumpHeadFields) (fs : List Fragment) (v : VolHeadFields) (ds : List DataFields) → is_some ds ≡ true → GoodFragment t h fs v ds → Completed (in_fragment t h fs v ds)
done_fragment t h fs v ds some good =
    let e : VolEndFields = record { dump = v.dump; index = v.index; fragment = v.fragment; last = 1; bytes = used_of ds } in
    let ends : EndsFragment (frag_at t fs v ds) e = record { some = some; filled = inr refl; dump = refl; index = refl; fragment = refl; bytes = refl } in
    let fit : FitsVolEnd e = record { dump = good.fit.dump; index = good.fit.index; fragment = good.fit.fragment.1; last = omega arith; bytes = good.sum } in
    let step = went (in_fragment t h fs v ds) (Says (frames.VolEnd e)) good fit ends in
    by_next (in_fragment t h fs v ds) (Says (frames.VolEnd e)) step (done_behind_fragment t h fs (whole_fragment v ds e) step.good)

-- ---- a fragment without pieces may get a full one

-- the room of a piece, not computed
room_of_piece : (n : ℕ) × (n ≡ 16352)
room_of_piece = (16352, refl)

zeros_fit : (n : ℕ) (d : DataFields) → n ≡ 16352 → d.used ≡ n → d.bytes ≡ replicate n 0 → d.dump ≤ 4294967295 → d.index ≤ 4294967295 → FitsData d
zeros_fit n d full used bytes dump index =
    let long : length d.bytes ≡ 16352 = ap length bytes ∙ length-replicate n 0 ∙ full in
    let zeros : All (λ b. b < 256) (replicate n 0) = All-replicate (λ b. b < 256) n 0 (omega arith) in
    let rest : drop d.used d.bytes ≡ replicate (16352 - d.used) 0 = ap (λ (l : List ℕ). drop d.used l) bytes ∙ drop-replicate d.used n 0 ∙ ap (λ (k : ℕ). replicate (k - d.used) 0) full in
    record { dump = dump; index = index; used = (omega (arith, used, full), omega (arith, used, full)); size = long; bytes = subst (All (λ b. b < 256)) (sym bytes) zeros; rest = rest }

done_opened : (t : Tape) (h : DumpHeadFields) (fs : List Fragment) (v : VolHeadFields) → GoodFragment t h fs v [] → Completed (in_fragment t h fs v [])
done_opened t h fs v good =
    let d : DataFields = record { dump = v.dump; index = v.index; used = room_of_piece.0; bytes = replicate room_of_piece.0 0 } in
    let fit : FitsData d = zeros_fit room_of_piece.0 d room_of_piece.1 refl refl good.fit.dump good.fit.index in
    let adds : AddsPiece (frag_at t fs v []) d = record { dump = refl; index = refl; full = refl; bytes = omega (arith, room_of_piece.1) } in
    let step = went (in_fragment t h fs v []) (Says (frames.Data d)) good fit adds in
    by_next (in_fragment t h fs v []) (Says (frames.Data d)) step (done_fragment t h fs v (d ∷ []) refl step.good)

-- ---- a part without fragments may get one

a_word : (most : ℕ) → 1 ≤ most → IsWord IsNameByte IsNoDash most (97 ∷ [])
a_word most some = record {
  some = omega arith;
  short = omega arith;
  first = λ e. absurd (omega (arith, e));
  each = All-cons IsNameByte 97 [] (omega arith, omega arith, λ e. absurd (omega (arith, e))) (All-nil IsNameByte);
}

done_empty : (t : Tape) (h : DumpHeadFields) → GoodPart t h [] → Completed (in_part t h [])
done_empty t h good =
    let v : VolHeadFields = record { dump = h.id; index = 0; fragment = 1; volume = 0; clone = 0; from = 0; name = 97 ∷ []; server = 97 ∷ []; partition = 97 ∷ [] } in
    let fit : FitsVolHead v = record { dump = good.fit.id; index = omega arith; fragment = (omega arith, omega arith); volume = omega arith; clone = omega arith; from = omega arith; name = a_word 31 (omega arith); server = a_word 63 (omega arith); partition = a_word 31 (omega arith) } in
    let opens : OpensFragment (part_at t h []) v = record { dump = refl; index = omega (arith, good.fit.volumes.0); next = λ one. (refl, refl) } in
    let step = went (in_part t h []) (Says (frames.VolHead v)) good fit opens in
    by_next (in_part t h []) (Says (frames.VolHead v)) step (done_opened t h [] v step.good)

pub completed : (s : Reached) → Good s → Completed s
completed at_front good = done_front
completed (labeled l) good = done_labeled l good
completed (between t) good = done_between t good
completed (in_part t h []) good = done_empty t h good
completed (in_part t h (f ∷ fs)) good = elim (by_last (f ∷ fs)) [
  | inl none ↦ absurd (cc)
  | inr b ↦ done_part t h (f ∷ fs) b.0 b.1 b.2 good
]
completed (in_fragment t h fs v []) good = done_opened t h fs v good
completed (in_fragment t h fs v (d ∷ ds)) good = done_fragment t h fs v (d ∷ ds) refl good
completed (behind_fragment t h fs f) good = done_behind_fragment t h fs f good
completed (behind_part t p) good = done_behind_part t p good
