-- The clones of a dump are those of the places of its order, and each next one is a good one of a fair cell.
use Rattle.std.proofs.Common.{◌≡◌, ◌⊎◌, ℕ, zero, suc, ◌+◌, ◌<◌, ◌≤◌, Bool, true, false, Option, Some, None, List, [], ◌∷◌, ◌++◌, length, map, get_or, refl, sym, ap, subst, ◌∙◌, arith, inl, inr, length-append}
use Rattle.std.specs.Prelude.{All, Contains, IfSome, slice_get, find}
use Rattle.std.proofs.lemmas.Bool.{cases_Bool}
use Rattle.std.proofs.lemmas.List.Elements.{All-contains}
use Rattle.std.specs.declared.cmp.Ordering.TheVariants.{Less}
use Rattle.bk_text.specs.Blanks.{is_same_text}
use Rattle.vnode_model.specs.declared.listed.VolEntry.{VolEntry}
use Rattle.vnode_model.specs.declared.volumes.VolumeFields.{VolumeFields}
use Rattle.cell_core.specs.declared.stored.Stored.{Stored}
use Rattle.cell_core.specs.declared.stored.Image.{Image}
use Rattle.cell_core.specs.declared.stored.Image.TheVariants.{Good, Bad}
use Rattle.cell_core.specs.declared.stored.Taken.{Taken}
use Rattle.cell_core.specs.Cells.{IsCell, IsImageOf, born}
use Rattle.cell_core.specs.Listings.{name_order}
use Rattle.cell_core.specs.Calls.{clone_time, state_of, entry_of_stored, entry_of, entry_at, clone_of_image, clone_of, clone_at}
use Rattle.cell_core.specs.Fairness.{Fair}
use Rattle.budb_changes.specs.declared.records.DumpRecordFields.{DumpRecordFields}
use Rattle.tape_text.specs.Texts.{IsBefore}
use Rattle.archive_model.specs.Archives.{Archive}
use Rattle.archive_model.specs.Sources.{dumped_by}
use Rattle.dump_job.specs.declared.fields.Hand.{Hand}
use Rattle.dump_job.specs.declared.fields.JobFields.{JobFields}
use Rattle.dump_job.specs.Cloning.{record_with, with_hand, volumes_done}
use Rattle.dump_job.specs.Events.{Around}
use Rattle.cell_core.specs.Forms.{IsStoredForm}
use Rattle.dump_forms.specs.Forms.{HasForms}
use Rattle.dump_forms.proofs.EventForms.{allowed_there}
use Rattle.dump_laws.specs.Made.{Made}
use Rattle.dump_laws.specs.Growing.{is_clone_of}
use Rattle.dump_laws.specs.Running.{CloneGoes}
use Rattle.dump_laws.specs.Keeping.{CloneIsFair}
use Rattle.dump_commands.specs.Expanding.{some_suits, places_from, expansion}
use Rattle.dump_commands.specs.Refusals.{bad_by, bad_or, first_bad}
use Rattle.dump_commands.specs.Answers.{is_at, place_of}

-- ---- lists

got : {X : Type 0} (xs : List X) (i : ℕ) (x d : X) → slice_get xs i ≡ Some x → (i < length xs) × (get_or xs i d ≡ x)
got [] i x d is = absurd (cc)
got (y ∷ xs) zero x d is = (omega arith, cc)
got (y ∷ xs) (suc i) x d is = (let rest = got xs i x d is in (omega (arith, rest.0), rest.1))

pub in_list : {X : Type 0} (xs : List X) (i : ℕ) (x : X) → slice_get xs i ≡ Some x → Contains xs x
in_list [] i x is = absurd (cc)
in_list (y ∷ xs) zero x is = (0, omega arith, cc)
in_list (y ∷ xs) (suc i) x is = (let rest = in_list xs i x is in (suc rest.0, omega (arith, rest.1), rest.2))

within_get : {X : Type 0} (xs : List X) (i : ℕ) → i < length xs → (x : X) × (slice_get xs i ≡ Some x)
within_get [] i lt = absurd (omega (arith, lt))
within_get (x ∷ xs) zero lt = (x, refl)
within_get (x ∷ xs) (suc i) lt = within_get xs i (omega (arith, lt))

one_some : {X : Type 0} (o : Option X) (x y : X) → o ≡ Some x → o ≡ Some y → x ≡ y
one_some o x y a b = (let e : Some x ≡ Some y = sym a ∙ b in cc)

-- ---- what stands at a place

-- a good volume stands there
pub record IsGoodAt (cell : List Stored) (place : ℕ) : Type 0 where
  pub stored : Stored
  pub volume : VolumeFields
  pub at : slice_get cell place ≡ Some stored
  pub good : stored.image ≡ Good volume

abbrev pub its_clone : List Stored → ℕ → VolumeFields → Taken
its_clone cell now volume = record { time = clone_time volume now; born = born cell volume; volume = volume }

pub good_entry : (cell : List Stored) (place : ℕ) → (g : IsGoodAt cell place) → entry_at cell place ≡ Some (entry_of_stored g.stored)
good_entry cell place g = ap entry_of g.at

pub good_clone : (cell : List Stored) (place now : ℕ) → (g : IsGoodAt cell place) → clone_at cell place now ≡ Some (its_clone cell now g.volume)
good_clone cell place now g = ap (λ (o : Option Stored). clone_of cell o now) g.at ∙ ap (λ (i : Image). clone_of_image cell i now) g.good

-- a clone is one of what stands there
clone_image : (cell : List Stored) (image : Image) (now : ℕ) (c : Taken) → clone_of_image cell image now ≡ Some c → (image ≡ Good c.volume) × (c ≡ its_clone cell now c.volume)
clone_image cell (Good v) now c is =
    let same : its_clone cell now v ≡ c = cc in
    (ap (λ (x : Taken). Good x.volume) same, sym same ∙ ap (λ (x : Taken). its_clone cell now x.volume) same)
clone_image cell (Bad at) now c is = absurd (cc)

clone_some : (cell : List Stored) (o : Option Stored) (now : ℕ) (c : Taken) → clone_of cell o now ≡ Some c → (x : Stored) × (o ≡ Some x) × (x.image ≡ Good c.volume) × (c ≡ its_clone cell now c.volume)
clone_some cell None now c is = absurd (cc)
clone_some cell (Some x) now c is = (let rest = clone_image cell x.image now c is in (x, refl, rest.0, rest.1))

-- it has the name of what stands there
pub record IsCloneAt (cell : List Stored) (place now : ℕ) (c : Taken) : Type 0 where
  pub stored : Stored
  pub at : slice_get cell place ≡ Some stored
  pub good : stored.image ≡ Good c.volume
  pub is : c ≡ its_clone cell now c.volume
  pub name : c.volume.header.name ≡ stored.name

pub clone_there : (cell : List Stored) → IsCell cell → (place now : ℕ) (c : Taken) → clone_at cell place now ≡ Some c → IsCloneAt cell place now c
clone_there cell is_cell place now c is =
    let x = clone_some cell (slice_get cell place) now c is in
    let image : IsImageOf x.0.name x.0.image = All-contains (λ (s : Stored). IsImageOf s.name s.image) cell x.0 is_cell.images (in_list cell place x.0 x.1) in
    let stands : IsImageOf x.0.name (Good c.volume) = subst (IsImageOf x.0.name) x.2 image in
    record { stored = x.0; at = x.1; good = x.2; is = x.3; name = stands.0 }

-- what stands further on has a greater name
names_ascend : (cell : List Stored) → IsCell cell → (i j : ℕ) (a b : Stored) → slice_get cell i ≡ Some a → slice_get cell j ≡ Some b → i < j → IsBefore a.name b.name
names_ascend cell is_cell i j a b at_i at_j lt =
    let one = got cell i a a at_i in
    let two = got cell j b a at_j in
    let pair = is_cell.ordered i j a lt two.0 in
    subst (λ (x : Stored). name_order a.name x.name ≡ Less) two.1 (subst (λ (x : Stored). name_order x.name (get_or cell j a).name ≡ Less) one.1 pair)

-- ---- the places of an order

-- these numbers ascend from this one on
abbrev pub AreUp : ℕ → List ℕ → Type 0
AreUp from [] = Unit {0}
AreUp from (p ∷ ps) = (from ≤ p) × AreUp (suc p) ps

higher_up : (from below : ℕ) (ps : List ℕ) → below ≤ from → AreUp from ps → AreUp below ps
higher_up from below [] le up = tt
higher_up from below (p ∷ ps) le up = (omega (arith, le, up.0), up.1)

places_up : (such : VolEntry → Bool) (at : ℕ) (cell : List VolEntry) → AreUp at (places_from such at cell)
places_up such at [] = tt
places_up such at (v ∷ cell) = elim (cases_Bool (such v)) [
  | inl hit ↦ rw hit (omega arith, subst (λ (n : ℕ). AreUp n (places_from such (at + 1) cell)) (let e : at + 1 ≡ suc at = omega arith in e) (places_up such (at + 1) cell))
  | inr miss ↦ rw miss (higher_up (at + 1) at (places_from such (at + 1) cell) (omega arith) (places_up such (at + 1) cell))
]

pub expansion_up : (entries : List _) (cell : List VolEntry) → AreUp 0 (expansion entries cell)
unfolding expansion
expansion_up entries cell = places_up (some_suits entries) 0 cell

next_up : (from : ℕ) (ps : List ℕ) (n p q : ℕ) → AreUp from ps → slice_get ps n ≡ Some p → slice_get ps (suc n) ≡ Some q → p < q
next_up from [] n p q up at next = absurd (cc)
next_up from (x ∷ []) zero p q up at next = absurd (cc)
next_up from (x ∷ y ∷ ps) zero p q up at next = (let a : x ≡ p = cc in let b : y ≡ q = cc in omega (arith, a, b, up.1.0))
next_up from (x ∷ ps) (suc n) p q up at next = next_up (suc x) ps n p q up.1 at next

-- each place of an order is one of the cell's list
first_within : (at count n p : ℕ) (rest : List ℕ) → ((k : ℕ) → slice_get rest k ≡ Some p → p < at + 1 + count) → slice_get (at ∷ rest) n ≡ Some p → p < at + suc count
first_within at count zero p rest each is = (let e : at ≡ p = cc in omega (arith, e))
first_within at count (suc n) p rest each is = (let less = each n is in omega (arith, less))

places_within : (such : VolEntry → Bool) (at : ℕ) (cell : List VolEntry) (n p : ℕ) → slice_get (places_from such at cell) n ≡ Some p → p < at + length cell
places_within such at [] n p is = absurd (cc)
places_within such at (v ∷ cell) n p is = elim (cases_Bool (such v)) [
  | inl hit ↦ first_within at (length cell) n p (places_from such (at + 1) cell) (λ k there. places_within such (at + 1) cell k p there) (rw hit at is)
  | inr miss ↦ (let rest = places_within such (at + 1) cell n p (rw miss at is) in omega (arith, rest))
]

pub expansion_within : (entries : List _) (cell : List VolEntry) (n p : ℕ) → slice_get (expansion entries cell) n ≡ Some p → p < length cell
unfolding expansion
expansion_within entries cell n p is = (let rest = places_within (some_suits entries) 0 cell n p is in omega (arith, rest))

get_map : (cell : List Stored) (n : ℕ) → slice_get (map entry_of_stored cell) n ≡ entry_of (slice_get cell n)
get_map [] n = refl
get_map (s ∷ cell) zero = refl
get_map (s ∷ cell) (suc n) = get_map cell n

-- where no image among some volumes is bad each is good
not_bad : (name : List ℕ) (image : Image) (rest : Option (List ℕ)) → bad_by name (state_of image) rest ≡ None → (v : VolumeFields) × (image ≡ Good v) × (rest ≡ None)
not_bad name (Good v) rest none = (v, refl, none)
not_bad name (Bad at) rest none = absurd (cc)

entry_bad : (o : Option Stored) (s : Stored) (rest : Option (List ℕ)) → o ≡ Some s → bad_or (entry_of o) rest ≡ None → (v : VolumeFields) × (s.image ≡ Good v) × (rest ≡ None)
entry_bad None s rest at none = absurd (cc)
entry_bad (Some x) s rest at none =
    let same : x ≡ s = cc in
    subst (λ (y : Stored). (v : VolumeFields) × (y.image ≡ Good v) × (rest ≡ None)) same (not_bad x.name x.image rest none)

first_good : (cell : List Stored) (q : ℕ) (places : List ℕ) (n p : ℕ) → IsGoodAt cell q → ((k : ℕ) → slice_get places k ≡ Some p → IsGoodAt cell p) → slice_get (q ∷ places) n ≡ Some p → IsGoodAt cell p
first_good cell q places zero p good each at = (let same : q ≡ p = cc in subst (IsGoodAt cell) same good)
first_good cell q places (suc n) p good each at = each n at

pub good_places : (cell : List Stored) (places : List ℕ) → first_bad (map entry_of_stored cell) places ≡ None → ((n p : ℕ) → slice_get places n ≡ Some p → p < length cell) → (n p : ℕ) → slice_get places n ≡ Some p → IsGoodAt cell p
good_places cell [] none within n p at = absurd (cc)
good_places cell (q ∷ places) none within n p at =
    let there = within_get cell q (within 0 q refl) in
    let mine : bad_or (entry_of (slice_get cell q)) (first_bad (map entry_of_stored cell) places) ≡ None = subst (λ (o : Option VolEntry). bad_or o (first_bad (map entry_of_stored cell) places) ≡ None) (get_map cell q) none in
    let good = entry_bad (slice_get cell q) there.0 (first_bad (map entry_of_stored cell) places) there.1 mine in
    first_good cell q places n p (record { stored = there.0; volume = good.0; at = there.1; good = good.1 }) (λ k is. good_places cell places good.2 (λ i x place. within (suc i) x place) k p is) at

-- what an order has: good volumes of the cell, in order
pub record HasGoodPlaces (cell : List Stored) (places : List ℕ) : Type 0 where
  pub up : AreUp 0 places
  pub good : (n p : ℕ) → slice_get places n ≡ Some p → IsGoodAt cell p

-- ---- the clones so far

abbrev pub AreFirstClones : List Stored → ℕ → List ℕ → List Taken → Type 0
AreFirstClones cell now places [] = Unit {0}
AreFirstClones cell now [] (c ∷ cs) = ⊥
AreFirstClones cell now (p ∷ ps) (c ∷ cs) = (clone_at cell p now ≡ Some c) × AreFirstClones cell now ps cs

pub clones_more : (cell : List Stored) (now : ℕ) (places : List ℕ) (cs : List Taken) (p : ℕ) (c : Taken) → AreFirstClones cell now places cs → slice_get places (length cs) ≡ Some p → clone_at cell p now ≡ Some c → AreFirstClones cell now places (cs ++ c ∷ [])
clones_more cell now [] [] p c are at is = absurd (cc)
clones_more cell now (q ∷ places) [] p c are at is = (let same : q ≡ p = cc in (ap (λ (n : ℕ). clone_at cell n now) same ∙ is, tt))
clones_more cell now [] (d ∷ cs) p c are at is = absurd are
clones_more cell now (q ∷ places) (d ∷ cs) p c are at is = (are.0, clones_more cell now places cs p c are.1 at is)

pub clone_place : (cell : List Stored) (now : ℕ) (places : List ℕ) (cs : List Taken) (i : ℕ) (c : Taken) → AreFirstClones cell now places cs → slice_get cs i ≡ Some c → (p : ℕ) × (slice_get places i ≡ Some p) × (clone_at cell p now ≡ Some c)
clone_place cell now places [] i c are at = absurd (cc)
clone_place cell now [] (d ∷ cs) i c are at = absurd are
clone_place cell now (q ∷ places) (d ∷ cs) zero c are at = (let same : d ≡ c = cc in (q, refl, are.0 ∙ ap Some same))
clone_place cell now (q ∷ places) (d ∷ cs) (suc i) c are at = clone_place cell now places cs i c are.1 at

-- ---- the next one

-- the name of the volume in hand is before that of the next one
name_after : (cell : List Stored) → IsCell cell → (a : Archive) (j : JobFields) (m : Made) (o : Option Hand) → j.hand ≡ o → CloneGoes a j m o → AreUp 0 j.places → AreFirstClones cell j.time j.places m.clones → (place : ℕ) (next : Stored)
    → slice_get j.places (length (volumes_done j)) ≡ Some place → slice_get cell place ≡ Some next → IfSome o (λ h. IsBefore h.head.name next.name)
name_after cell is_cell a j m None is goes up are place next at there = tt
name_after cell is_cell a j m (Some h) is d up are place next at there =
    let x = d.goes.streams in
    let before = clone_place cell j.time j.places m.clones (length j.volumes) x.clone are x.at in
    let c : IsCloneAt cell before.0 j.time x.clone = clone_there cell is_cell before.0 j.time x.clone before.2 in
    let count : length (volumes_done j) ≡ suc (length j.volumes) =
    ap (λ (y : Option Hand). length (with_hand j.head.tape y j.volumes)) is ∙ (let e : length (j.volumes ++ record_with j.head.tape h ∷ []) ≡ suc (length j.volumes) = omega (arith, length-append j.volumes (record_with j.head.tape h ∷ [])) in e) in
    let less : before.0 < place = next_up 0 j.places (length j.volumes) before.0 place up before.1 (ap (λ (n : ℕ). slice_get j.places n) (sym count) ∙ at) in
    let name : h.head.name ≡ c.stored.name = x.cloned.name_is ∙ c.name in
    subst (λ (n : List ℕ). IsBefore n next.name) (sym name) (names_ascend cell is_cell before.0 place c.stored next c.at there less)

pub next_clone : (around : Around) → IsCell around.cell → All IsStoredForm around.cell → (a : Archive) (known : List DumpRecordFields) (j : JobFields) (m : Made) → HasGoodPlaces around.cell j.places → HasForms j
    → Fair around.cell (dumped_by a.contents known) j.time → ((p : DumpRecordFields) → j.parent ≡ Some p → Contains known p) → AreFirstClones around.cell j.time j.places m.clones → CloneGoes a j m j.hand → length (volumes_done j) < length j.places → CloneIsFair a known around j
next_clone around is_cell stored a known j m good forms fair parent are goes left =
    let at = within_get j.places (length (volumes_done j)) left in
    let g : IsGoodAt around.cell at.0 = good.good (length (volumes_done j)) at.0 at.1 in
    record {
      place = at.0;
      entry = entry_of_stored g.stored;
      clone = its_clone around.cell j.time g.volume;
      at = at.1;
      listed = good_entry around.cell at.0 g;
      taken = good_clone around.cell at.0 j.time g;
      after = name_after around.cell is_cell a j m j.hand refl goes good.up are at.0 g.stored at.1 g.at;
      cell = is_cell;
      fair = fair;
      parent = parent;
      allowed = allowed_there around.cell at.0 j (entry_of_stored g.stored) (its_clone around.cell j.time g.volume) stored forms (good_entry around.cell at.0 g) (good_clone around.cell at.0 j.time g);
    }

-- ---- all clones, by their names

at_hit : (name : List ℕ) (o : Option VolEntry) (e : VolEntry) (rest : Option ℕ) (place : ℕ) → o ≡ Some e → is_same_text e.name name ≡ true → is_at name o rest place ≡ Some place
at_hit name o e rest place is hit = ap (λ (x : Option VolEntry). is_at name x rest place) is ∙ (rw hit refl)

at_miss : (name : List ℕ) (o : Option VolEntry) (e : VolEntry) (rest : Option ℕ) (place : ℕ) → o ≡ Some e → is_same_text e.name name ≡ false → is_at name o rest place ≡ rest
at_miss name o e rest place is miss = ap (λ (x : Option VolEntry). is_at name x rest place) is ∙ (rw miss refl)

-- the clone of a name is that of the first place at which the cell has a volume of this name
abbrev pub FindsAt : List Stored → ℕ → List ℕ → List Taken → List ℕ → Type 0
FindsAt cell now places cs name =
    ((find (is_clone_of name) cs ≡ None) × (place_of cell places name ≡ None))
    ⊎ ((p : ℕ) × (c : Taken) × (find (is_clone_of name) cs ≡ Some c) × (place_of cell places name ≡ Some p) × (clone_at cell p now ≡ Some c))

pub found_at : (cell : List Stored) → IsCell cell → (now : ℕ) (places : List ℕ) (cs : List Taken) → AreFirstClones cell now places cs → length cs ≡ length places → (name : List ℕ) → FindsAt cell now places cs name
found_at cell is_cell now [] [] are same name = inl (refl, refl)
found_at cell is_cell now (p ∷ places) [] are same name = absurd (omega (arith, same))
found_at cell is_cell now [] (c ∷ cs) are same name = absurd are
found_at cell is_cell now (p ∷ places) (c ∷ cs) are same name =
    let x : IsCloneAt cell p now c = clone_there cell is_cell p now c are.0 in
    let entry : entry_at cell p ≡ Some (entry_of_stored x.stored) = ap entry_of x.at in
    let rest = found_at cell is_cell now places cs are.1 (omega (arith, same)) name in
    elim (cases_Bool (is_same_text x.stored.name name)) [
      | inl hit ↦
          (let mine : is_same_text c.volume.header.name name ≡ true = ap (λ (n : List ℕ). is_same_text n name) x.name ∙ hit in
          inr (p, c, rw mine refl, at_hit name (entry_at cell p) (entry_of_stored x.stored) (place_of cell places name) p entry hit, are.0))
      | inr miss ↦
          (let mine : is_same_text c.volume.header.name name ≡ false = ap (λ (n : List ℕ). is_same_text n name) x.name ∙ miss in
          let skip : place_of cell (p ∷ places) name ≡ place_of cell places name = at_miss name (entry_at cell p) (entry_of_stored x.stored) (place_of cell places name) p entry miss in
          let find_skip : find (is_clone_of name) (c ∷ cs) ≡ find (is_clone_of name) cs = rw mine refl in
          elim rest [
            | inl none ↦ inl (find_skip ∙ none.0, skip ∙ none.1)
            | inr some ↦ inr (some.0, some.1, find_skip ∙ some.2, skip ∙ some.3, some.4)
          ])
    ]
