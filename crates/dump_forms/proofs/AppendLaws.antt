-- A dump that is appended begins behind the last listed dump of its tape.
use Rattle.std.proofs.Common.{◌≡◌, ℕ, zero, suc, ◌≤◌, Bool, true, false, Option, Some, None, List, [], ◌∷◌, length, map, refl, sym, ap, subst, ◌∙◌, arith}
use Rattle.std.specs.Prelude.{◌==◌, ◌&&◌, max, is_some, Contains, slice_get}
use Rattle.std.specs.Option.{unwrap_or}
use Rattle.std.specs.List.{filter, flat_map}
use Rattle.std.proofs.lemmas.Bool.{eq-eqb, eqb-true}
use Rattle.tape_config.specs.declared.port.PortFields.{PortFields}
use Rattle.budb_changes.specs.declared.records.TapePart.{TapePart}
use Rattle.budb_changes.specs.declared.records.DumpRecordFields.{DumpRecordFields}
use Rattle.budb_fold.specs.Database.{is_dump, is_initial}
use Rattle.budb_fold.specs.Lookups.{greatest_id}
use Rattle.tape_scan.specs.Slots.{Slot}
use Rattle.tape_scan.proofs.ListLaws.{of_filter, contains_filter}
use Rattle.tape_choice.specs.declared.places.Place.{Place}
use Rattle.tape_choice.specs.declared.places.Appending.TheVariants.{Found}
use Rattle.tape_choice.specs.Choice.{is_among}
use Rattle.tape_choice.specs.Append.{greatest, with_id, latest_of, append_set, tapes_in, last_tape, lies_on, last_dump, append_passes, append_slot, place_behind, found_in, LastPart, part_on, part_of, last_part_on, last_part, no_tape, appending_behind, appending_to, appending}
use Rattle.archive_model.specs.Holding.{place_of}
use Rattle.archive_model.proofs.SlotLaws.{find_is, in_map, in_flat}
use Rattle.dump_forms.proofs.Choices.{numbered_get, and_left, and_right}

-- ---- the greatest

greatest_none : (ns : List ℕ) → greatest ns ≡ None → ns ≡ []
greatest_none [] is = refl
greatest_none (n ∷ ns) is = absurd (cc)

some_is : (a b : ℕ) → Some a ≡ Some b → a ≡ b
some_is a b is = cc

over_rest : (m g n : ℕ) (rest o : Option ℕ) → rest ≡ o → max m (unwrap_or rest 0) ≡ g → (rest ≡ None → ⊥) → ((h : ℕ) → rest ≡ Some h → n ≤ h) → n ≤ g
over_rest m g n rest None is top some le = absurd (some is)
over_rest m g n rest (Some h) is top some le =
    let below : n ≤ h = le h is in
    let value : unwrap_or rest 0 ≡ h = ap (λ (o : Option ℕ). unwrap_or o 0) is in
    omega (arith, below, top, value)

greatest_most : (ns : List ℕ) (g n : ℕ) → greatest ns ≡ Some g → Contains ns n → n ≤ g
greatest_most [] g n is there = absurd (omega (arith, there.1))
greatest_most (m ∷ ns) g n is (zero, within, same) = (let top : max m (unwrap_or (greatest ns) 0) ≡ g = some_is (max m (unwrap_or (greatest ns) 0)) g is in omega (arith, top, same))
greatest_most (m ∷ ns) g n is (suc k, within, same) =
    over_rest m g n (greatest ns) (greatest ns) refl (some_is (max m (unwrap_or (greatest ns) 0)) g is) (λ none. absurd (let long : length ns ≡ 0 = ap length (greatest_none ns none) in omega (arith, within, long)))
    (λ h some. greatest_most ns h n some (k, omega (arith, within), same))

id_none : (ds : List DumpRecordFields) → greatest_id ds ≡ None → ds ≡ []
id_none [] is = refl
id_none (d ∷ ds) is = absurd (cc)

id_most : (ds : List DumpRecordFields) (g : ℕ) (d : DumpRecordFields) → greatest_id ds ≡ Some g → Contains ds d → d.id ≤ g
id_most [] g d is there = absurd (omega (arith, there.1))
id_most (e ∷ ds) g d is (zero, within, same) = (let top : max e.id (unwrap_or (greatest_id ds) 0) ≡ g = some_is (max e.id (unwrap_or (greatest_id ds) 0)) g is in omega (arith, top, ap (λ (x : DumpRecordFields). x.id) same))
id_most (e ∷ ds) g d is (suc k, within, same) =
    over_rest e.id g d.id (greatest_id ds) (greatest_id ds) refl (some_is (max e.id (unwrap_or (greatest_id ds) 0)) g is) (λ none. absurd (let long : length ds ≡ 0 = ap length (id_none ds none) in omega (arith, within, long)))
    (λ h some. id_most ds h d some (k, omega (arith, within), same))

latest_by : (ds : List DumpRecordFields) (o : Option ℕ) (d : DumpRecordFields) → greatest_id ds ≡ o → with_id ds o ≡ Some d → Contains ds d × ((e : DumpRecordFields) → Contains ds e → e.id ≤ d.id)
latest_by ds None d top is = absurd (cc)
latest_by ds (Some id) d top is =
    let found = find_is (is_dump id) ds d is in
    let same : d.id ≡ id = eqb-true d.id id found.1 in
    (found.0, λ e there. (let le : e.id ≤ id = id_most ds id e top there in omega (arith, le, same)))

both_true : (a b : Bool) → a ≡ true → b ≡ true → (a && b) ≡ true
both_true true b first second = second
both_true false b first second = first

-- ---- the last listed dump of the last tape

-- The last listed dump of a dump set's last tape, and its place there.
pub record IsLastPart (listed : List DumpRecordFields) (initial : ℕ) (l : LastPart) : Type 0 where
  pub there : Contains listed l.dump
  pub initial_is : l.dump.initial ≡ initial
  pub place : place_of l.dump l.part.tape ≡ Some l.part
  pub last : (q : TapePart) → Contains l.dump.tapes q → q.tape ≤ l.part.tape
  pub latest : (e : DumpRecordFields) (p : TapePart) → Contains listed e → e.initial ≡ initial → place_of e l.part.tape ≡ Some p → e.id ≤ l.dump.id

by_part : (listed : List DumpRecordFields) (initial tape : ℕ) (d : DumpRecordFields) (l : LastPart) → last_tape listed initial ≡ Some tape → last_dump listed initial tape ≡ Some d → (o : Option TapePart) → place_of d tape ≡ o → part_on tape d o ≡ Some l → IsLastPart listed initial l
by_part listed initial tape d l top is None at made = absurd (cc)
by_part listed initial tape d l top is (Some p) at made =
    let one : record { dump = d; part = p } ≡ l = cc in
    let found = find_is (λ (q : TapePart). q.tape == tape) d.tapes p at in
    let number : p.tape ≡ tape = eqb-true p.tape tape found.1 in
    let late = latest_by (filter (lies_on initial tape) listed) (greatest_id (filter (lies_on initial tape) listed)) d refl is in
    let here = of_filter (lies_on initial tape) listed d late.0 in
    let own : is_initial initial d ≡ true = and_left (is_initial initial d) (is_some (place_of d tape)) here.1 in
    let set : d.initial ≡ initial = eqb-true d.initial initial own in
    let facts : IsLastPart listed initial (record { dump = d; part = p }) = record {
      there = here.0;
      initial_is = set;
      place = ap (place_of d) number ∙ at;
      last = λ q inside.
          (let mine : tapes_in initial d ≡ map (λ (x : TapePart). x.tape) d.tapes = rw own refl in
          let member : Contains (tapes_in initial d) q.tape = subst (λ (ns : List ℕ). Contains ns q.tape) (sym mine) (in_map (λ (x : TapePart). x.tape) d.tapes q inside) in
          let le : q.tape ≤ tape = greatest_most (flat_map (tapes_in initial) listed) tape q.tape top (in_flat (tapes_in initial) listed d q.tape here.0 member) in
          omega (arith, le, number));
      latest = λ e x inside same placed.
          (let on : place_of e tape ≡ Some x = ap (place_of e) (sym number) ∙ placed in
          let lies : lies_on initial tape e ≡ true = both_true (is_initial initial e) (is_some (place_of e tape)) (eq-eqb e.initial initial same) (ap is_some on) in
          late.1 e (contains_filter (lies_on initial tape) listed e inside lies));
    } in
    subst (IsLastPart listed initial) one facts

by_dump : (listed : List DumpRecordFields) (initial tape : ℕ) (l : LastPart) → last_tape listed initial ≡ Some tape → (o : Option DumpRecordFields) → last_dump listed initial tape ≡ o → part_of tape o ≡ Some l → IsLastPart listed initial l
by_dump listed initial tape l top None is made = absurd (cc)
by_dump listed initial tape l top (Some d) is made = by_part listed initial tape d l top is (place_of d tape) refl made

by_tape : (listed : List DumpRecordFields) (initial : ℕ) (l : LastPart) (o : Option ℕ) → last_tape listed initial ≡ o → last_part_on listed initial o ≡ Some l → IsLastPart listed initial l
by_tape listed initial l None top made = absurd (cc)
by_tape listed initial l (Some tape) top made = by_dump listed initial tape l top (last_dump listed initial tape) refl made

-- ---- the slot

-- what is known of a place that was found
pub record IsFoundBehind (listed : List DumpRecordFields) (whole : ℕ → Bool) (slots : List Slot) (p : Place) : Type 0 where
  pub initial : ℕ
  pub one : LastPart
  pub last : IsLastPart listed initial one
  pub number : ℕ
  pub slot : Slot
  pub at : slice_get slots number ≡ Some slot
  pub passes : append_passes one.dump one.part whole number slot ≡ true
  pub is : place_behind one.dump one.part number slot.items ≡ p

found_is : (a b : Place) → Found a ≡ Found b → a ≡ b
found_is a b is = cc

by_slot : (listed : List DumpRecordFields) (initial : ℕ) (port : PortFields) (whole : ℕ → Bool) (slots : List Slot) (l : LastPart) (p : Place) → IsLastPart listed initial l → (o : Option (ℕ × Slot)) → append_slot l.dump l.part port whole slots ≡ o → found_in l.dump l.part o ≡ Found p → IsFoundBehind listed whole slots p
by_slot listed initial port whole slots l p last None is made = absurd (cc)
by_slot listed initial port whole slots l p last (Some (k, s)) is made =
    let x = numbered_get (λ (y : ℕ × Slot). is_among port y.0 && append_passes l.dump l.part whole y.0 y.1) 0 slots (k, s) is in
    let index : x.0 ≡ k = omega (arith, x.1) in
    record {
      initial = initial;
      one = l;
      last = last;
      number = k;
      slot = s;
      at = ap (λ (n : ℕ). slice_get slots n) (sym index) ∙ x.2;
      passes = and_right (is_among port k) (append_passes l.dump l.part whole k s) x.3;
      is = found_is (place_behind l.dump l.part k s.items) p made;
    }

no_place : (o : Option DumpRecordFields) (p : Place) → no_tape o ≡ Found p → ⊥
no_place None p is = absurd (cc)
no_place (Some d) p is = absurd (cc)

by_last : (listed : List DumpRecordFields) (port : PortFields) (whole : ℕ → Bool) (slots : List Slot) (initial : ℕ) (p : Place) (o : Option LastPart) → last_part listed initial ≡ o → appending_behind listed port whole slots initial o ≡ Found p → IsFoundBehind listed whole slots p
by_last listed port whole slots initial p None is made = absurd (no_place (latest_of (filter (is_initial initial) listed)) p made)
by_last listed port whole slots initial p (Some l) is made = by_slot listed initial port whole slots l p (by_tape listed initial l (last_tape listed initial) refl is) (append_slot l.dump l.part port whole slots) refl made

by_set : (listed : List DumpRecordFields) (port : PortFields) (whole : ℕ → Bool) (slots : List Slot) (p : Place) (o : Option ℕ) → appending_to listed port whole slots o ≡ Found p → IsFoundBehind listed whole slots p
by_set listed port whole slots p None made = absurd (cc)
by_set listed port whole slots p (Some initial) made = by_last listed port whole slots initial p (last_part listed initial) refl made

pub found_behind : (listed : List DumpRecordFields) (set : List ℕ) (port : PortFields) (whole : ℕ → Bool) (slots : List Slot) (p : Place) → appending listed set port whole slots ≡ Found p → IsFoundBehind listed whole slots p
found_behind listed set port whole slots p is = by_set listed port whole slots p (append_set listed set) is
