-- A dump that is appended runs behind its begin.
use Rattle.std.proofs.Common.{◌≡◌, ℕ, zero, suc, ◌+◌, ◌-◌, ◌<◌, ◌≤◌, Bool, true, false, Some, None, List, [], ◌∷◌, ◌++◌, length, take, drop, refl, sym, ap, subst, ◌∙◌, arith, inl, inr}
use Rattle.std.specs.Prelude.{◌==◌, ◌&&◌, nat_le, Contains, slice_get, sum_by}
use Rattle.std.specs.List.{count_by}
use Rattle.std.proofs.lemmas.Bool.{eqb-true, cases_Bool, leb-true}
use Rattle.std.proofs.lemmas.List.{take-append-drop}
use Rattle.std.proofs.lemmas.List.Elements.{All-contains}
use Rattle.tape_frames.specs.declared.frame.Frame.TheVariants as frames
use Rattle.tape_frames.specs.TapeNames.{numbered}
use Rattle.budb_changes.specs.declared.records.TapePart.{TapePart}
use Rattle.budb_changes.specs.declared.records.DumpRecordFields.{DumpRecordFields}
use Rattle.budb_changes.specs.Bytes.{encoded}
use Rattle.budb_changes.specs.Forms.{AreChanges}
use Rattle.budb_fold.specs.Database.{after}
use Rattle.plant_core.specs.Crashes.{State}
use Rattle.plant_core.specs.Effects.{commits, come}
use Rattle.tape_text.specs.Items.{Item, Says}
use Rattle.tape_text.specs.Texts.{Part, Tape, tape_items, TellsUses, IsPart}
use Rattle.tape_text.specs.Parts.{part_marks}
use Rattle.tape_scan.proofs.PlaceLaws.{found_part_is, head_stands}
use Rattle.tape_choice.specs.declared.places.Place.{Place}
use Rattle.tape_choice.specs.declared.places.Appending.TheVariants.{Found}
use Rattle.tape_choice.specs.Choice.{permanent_in}
use Rattle.tape_choice.specs.Append.{is_mark, is_as_told, uses_told, uses_before, place_behind, appending}
use Rattle.archive_model.specs.Holding.{place_of, holds, LiesOn}
use Rattle.archive_model.specs.Archives.{Archive, listed_of}
use Rattle.archive_model.specs.Settled.{HoldsSettled}
use Rattle.archive_model.proofs.StillLaws.{ends_in_order}
use Rattle.dump_job.specs.declared.order.DumpOrder.{DumpOrder}
use Rattle.dump_job.specs.Beginning.{new_id, place_tape, begin_changes, begun_job}
use Rattle.dump_laws.specs.Writing.{FrontFits}
use Rattle.dump_laws.specs.Running.{IsAppended, RunsIn}
use Rattle.dump_laws.specs.Beginning.{HeadsAreBelow, HasParent, begun_archive, nothing_made}
use Rattle.dump_laws.proofs.ChosenLaws.{and_left, and_right}
use Rattle.dump_laws.proofs.AppendLaws.{IsFoundBehind, found_behind}
use Rattle.dump_laws.proofs.FrontLaws.{its_label, label_of_held, last_found, snoc_same, uses_of_tape}
use Rattle.dump_laws.proofs.BeginLaws.{heads_below, listed_begun, appended_runs}

length_front : (n : ℕ) (xs : List Item) → n ≤ length xs → length (take n xs) ≡ n
length_front zero xs le = refl
length_front (suc n) [] le = absurd (omega (arith, le))
length_front (suc n) (x ∷ xs) le = omega (arith, length_front n xs (omega (arith, le)))

unequal : (a b : ℕ) → (a ≡ b → ⊥) → (a == b) ≡ false
unequal a b other = elim (cases_Bool (a == b)) [
  | inl same ↦ absurd (other (eqb-true a b same))
  | inr miss ↦ miss
]

module _ (s : State) (a : Archive) (records : List DumpRecordFields) (held : HoldsSettled s a records) (o : DumpOrder) (few : o.time ≤ 4294967295) (more : (after a.log).greatest < 4294967295) (below : HeadsAreBelow a.slots o.time (after a.log).greatest) (parent : HasParent (listed_of a) o.parent)
    (whole : ℕ → Bool) (p : Place) (f : IsFoundBehind (listed_of a) whole a.slots p) where
  abbrev its_dump : DumpRecordFields
  its_dump = f.one.dump

  abbrev its_part : TapePart
  its_part = f.one.part

  abbrev its_items : List Item
  its_items = f.slot.items

  abbrev its_id : ℕ
  its_id = new_id o.time (after a.log).greatest

  abbrev its_place : Place
  its_place = place_behind its_dump its_part f.number its_items

  stays : (holds its_dump its_part.tape its_items && (whole f.number && is_as_told its_part its_items)) ≡ true
  stays = and_right f.slot.here (holds its_dump its_part.tape its_items && (whole f.number && is_as_told its_part its_items)) f.passes

  told : is_as_told its_part its_items ≡ true
  told = and_right (whole f.number) (is_as_told its_part its_items) (and_right (holds its_dump its_part.tape its_items) (whole f.number && is_as_told its_part its_items) stays)

  within : its_part.end ≤ length its_items
  within = leb-true its_part.end (length its_items) (and_left (nat_le its_part.end (length its_items)) ((count_by is_mark (take its_part.end its_items) == its_part.marks) && nat_le its_part.marks (its_part.end - its_part.marks)) told)

  few_marks : its_part.marks ≤ its_part.end - its_part.marks
  few_marks =
      leb-true its_part.marks (its_part.end - its_part.marks)
      (and_right (count_by is_mark (take its_part.end its_items) == its_part.marks) (nat_le its_part.marks (its_part.end - its_part.marks))
      (and_right (nat_le its_part.end (length its_items)) ((count_by is_mark (take its_part.end its_items) == its_part.marks) && nat_le its_part.marks (its_part.end - its_part.marks)) told))

  lies : LiesOn its_dump its_part its_items
  lies =
      held.seen.kept.lie its_dump f.number f.slot (held.seen.kept.dumps.complete its_dump (inl f.last.there)) f.at its_part.tape its_part f.last.place
      (and_left (holds its_dump its_part.tape its_items) (whole f.number && is_as_told its_part its_items) stays)

  long : length (tape_items lies.tape) ≡ its_part.end
  long = sym (ap length lies.front) ∙ length_front its_part.end its_items within

  last_part : (before : List Part) × (lies.tape.parts ≡ before ++ lies.found.part ∷ []) × (lies.found.marks ≡ 1 + sum_by part_marks lies.tape.parts)
  last_part = last_found lies.tape lies.found lies.there (ap (λ (x : TapePart). x.end) lies.place ∙ sym long)

  its_own : IsPart lies.tape.label lies.found.part
  its_own = All-contains (IsPart lies.tape.label) lies.tape.parts lies.found.part lies.is.each (found_part_is 2 1 lies.tape.parts lies.found lies.there)

  its_head : slice_get its_items lies.found.first ≡ Some (Says (frames.DumpHead lies.found.part.head))
  its_head =
      let all : its_items ≡ tape_items lies.tape ++ drop its_part.end its_items = sym (take-append-drop its_part.end its_items) ∙ ap (λ (l : List Item). l ++ drop its_part.end its_items) lies.front in
      ap (λ (l : List Item). slice_get l lies.found.first) all ∙ head_stands lies.tape lies.found (drop its_part.end its_items) lies.there

  its_number : lies.found.part.head.tape ≡ its_part.tape
  its_number = ap (λ (x : TapePart). x.tape) lies.place

  uses_are : (q : Part) → Contains lies.tape.parts q → TellsUses q → q.head.uses ≡ uses_before its_part.end its_items
  uses_are q there tells =
      let told_uses : uses_told (take its_part.end its_items) ≡ q.head.uses = ap uses_told lies.front ∙ uses_of_tape lies.tape q lies.is there tells in
      let miss : (uses_told (take its_part.end its_items) == 0) ≡ false = unequal (uses_told (take its_part.end its_items)) 0 (λ none. absurd (tells (sym told_uses ∙ none))) in
      let all : uses_before its_part.end its_items ≡ q.head.uses = rw miss told_uses in
      sym all

  not_blank : lies.tape.label.initial ≡ 0 → ⊥
  not_blank zero_is =
      let none : lies.tape.parts ≡ [] = lies.is.none zero_is in
      let there : Contains lies.tape.parts lies.found.part = found_part_is 2 1 lies.tape.parts lies.found lies.there in
      absurd (omega (arith, there.1, ap length none))

  front_fits : FrontFits lies.tape (begun_job o (listed_of a) its_id (place_tape its_place)).head
  front_fits = record {
    tape = lies.is;
    some = not_blank;
    initial = sym lies.heads.initial ∙ its_own.initial;
    number = sym its_number ∙ its_own.tape;
    name = its_own.name ∙ ap (λ (l : List ℕ). numbered l lies.found.part.head.tape) lies.heads.base ∙ ap (numbered its_dump.base) its_number;
    permanent = ap permanent_in (its_label its_part.end its_items lies.tape lies.front);
    behind = λ before q same.
        (let one : lies.found.part ≡ q = snoc_same last_part.0 before lies.found.part q (sym last_part.1 ∙ same) in
        let goes : lies.found.part.end.more ≡ 0 = lies.ends.last f.last.last in
        let under : lies.found.part.head.id < its_id = heads_below a.slots o.time (after a.log).greatest few more below f.number f.slot lies.found.first lies.found.part.head f.at its_head in
        (ap (λ (x : Part). x.end.more) (sym one) ∙ goes, subst (λ (x : Part). x.head.id < its_id) one under, refl));
    uses = uses_are;
  }

  whole_end : its_part.end ≡ its_part.end - its_part.marks + its_part.marks
  whole_end = omega (arith, few_marks)

  is_appended : IsAppended (begun_archive its_id None a) (begun_job o (listed_of a) its_id (place_tape its_place)) f.slot lies.tape
  is_appended = record {
    within = omega (arith, whole_end, within);
    stands = subst (λ (n : ℕ). take n its_items ≡ tape_items lies.tape) whole_end lies.front;
    fits = front_fits;
    marks = sym (ap (λ (x : TapePart). x.marks) lies.place) ∙ last_part.2;
    behind = λ e tape q there place held_it.
        (let listed : Contains (listed_of a) e = subst (λ (l : List DumpRecordFields). Contains l e) (listed_begun None its_id a) there in
        let label = label_of_held e tape its_items lies.tape.label held_it (its_label its_part.end its_items lies.tape lies.front) in
        let mine = label_of_held its_dump its_part.tape its_items lies.tape.label (and_left (holds its_dump its_part.tape its_items) (whole f.number && is_as_told its_part its_items) stays) (its_label its_part.end its_items lies.tape lies.front) in
        let initial : e.initial ≡ f.initial = sym label.0 ∙ mine.0 ∙ f.last.initial_is in
        let number : tape ≡ its_part.tape = sym label.1 ∙ mine.1 in
        let le : e.id ≤ its_dump.id = f.last.latest e q listed initial (ap (place_of e) (sym number) ∙ place) in
        let other : LiesOn e q its_items = held.seen.kept.lie e f.number f.slot (held.seen.kept.dumps.complete e (inl listed)) f.at tape q place held_it in
        let before : q.end ≤ its_part.end = ends_in_order e its_dump q its_part its_items other lies le in
        omega (arith, before, whole_end));
  }

  found_runs : AreChanges (begin_changes its_id None) → (front : Tape) × RunsIn (come (commits (encoded (begin_changes its_id None)) ∷ []) s) (begun_archive its_id None a) records (begun_job o (listed_of a) its_id (place_tape p)) (nothing_made front)
  found_runs forms =
      subst (λ (x : Place). (front : Tape) × RunsIn (come (commits (encoded (begin_changes its_id None)) ∷ []) s) (begun_archive its_id None a) records (begun_job o (listed_of a) its_id (place_tape x)) (nothing_made front)) f.is
      (lies.tape, appended_runs s a records held o few more below parent its_place lies.tape f.slot f.at forms is_appended)

-- A dump that is appended behind the last listed dump of its tape runs behind its begin.
pub appending_runs : (s : State) (a : Archive) (records : List DumpRecordFields) → HoldsSettled s a records → (o : DumpOrder) → o.time ≤ 4294967295 → (after a.log).greatest < 4294967295 → HeadsAreBelow a.slots o.time (after a.log).greatest → HasParent (listed_of a) o.parent
    → (whole : ℕ → Bool) (p : Place) → appending (listed_of a) o.set o.port whole a.slots ≡ Found p → let id = new_id o.time (after a.log).greatest in AreChanges (begin_changes id None)
    → (front : Tape) × RunsIn (come (commits (encoded (begin_changes id None)) ∷ []) s) (begun_archive id None a) records (begun_job o (listed_of a) id (place_tape p)) (nothing_made front)
appending_runs s a records held o few more below parent whole p is forms = found_runs s a records held o few more below parent whole p (found_behind (listed_of a) o.set o.port whole a.slots p is) forms
