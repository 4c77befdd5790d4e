-- Several dumps that are forgotten by one commit; and the heads of a dump's own id under a put.
use Rattle.std.proofs.Common.{◌≡◌, ◌⊎◌, ℕ, zero, suc, Some, List, [], ◌∷◌, ◌++◌, length, map, refl, sym, ap, ◌∙◌, arith, inl, inr}
use Rattle.std.specs.Prelude.{Contains, slice_get}
use Rattle.std.proofs.lemmas.Bool.{cases_Bool}
use Rattle.tape_frames.specs.declared.frame.Frame.TheVariants as frames
use Rattle.tape_frames.specs.declared.dump_head.DumpHeadFields.{DumpHeadFields}
use Rattle.budb_changes.specs.declared.records.DumpRecordFields.{DumpRecordFields}
use Rattle.budb_changes.specs.declared.change.Change.TheVariants.{Forget}
use Rattle.budb_fold.specs.declared.database.Database.{Database}
use Rattle.budb_changes.specs.Bytes.{encoded}
use Rattle.budb_changes.specs.Forms.{AreChanges}
use Rattle.budb_fold.specs.Database.{is_dump, without, after_change, after_from, after}
use Rattle.plant_core.specs.Crashes.{State}
use Rattle.tape_text.specs.Items.{Item, Says}
use Rattle.tape_scan.specs.Slots.{Slot, Located}
use Rattle.archive_model.specs.Archives.{Archive, listed_of}
use Rattle.plant_core.specs.Effects.{commits, comes}
use Rattle.archive_model.specs.Settled.{HoldsSettled}
use Rattle.archive_model.specs.Turns.{with_items, remaining, is_one_of, HasOwnHeads}
use Rattle.archive_model.proofs.LogLaws.{forgotten}
use Rattle.archive_model.proofs.PutLaws.{with_get}
use Rattle.archive_model.proofs.StepLaws.{forgetting_commit}

without_no : (xs : List DumpRecordFields) → without (is_one_of []) xs ≡ xs
without_no [] = refl
without_no (x ∷ xs) = ap (λ (l : List DumpRecordFields). x ∷ l) (without_no xs)

without_twice : (id : ℕ) (ids : List ℕ) (xs : List DumpRecordFields) → without (is_one_of ids) (without (is_dump id) xs) ≡ without (is_one_of (id ∷ ids)) xs
without_twice id ids [] = refl
without_twice id ids (x ∷ xs) = elim (cases_Bool (is_dump id x)) [
  | inl hit ↦ rw hit (without_twice id ids xs)
  | inr miss ↦ elim (cases_Bool (is_one_of ids x)) [
    | inl of ↦ rw (miss, of) (without_twice id ids xs)
    | inr off ↦ rw (miss, off) (ap (λ (l : List DumpRecordFields). x ∷ l) (without_twice id ids xs))
  ]
]

pub forgets_all : (ids : List ℕ) (db : Database) → (after_from (map Forget ids) db).listed ≡ without (is_one_of ids) db.listed
forgets_all [] db = sym (without_no db.listed)
forgets_all (id ∷ ids) db = forgets_all ids (after_change (Forget id) db) ∙ ap (without (is_one_of ids)) (forgotten id db) ∙ without_twice id ids db.listed

-- a commit that forgets several dumps
pub forgets_commit : (s : State) (a : Archive) (records : List DumpRecordFields) (ids : List ℕ) → HoldsSettled s a records → AreChanges (map Forget ids)
    → HoldsSettled (comes (commits (encoded (map Forget ids))) s) (record a { log = a.log ++ map Forget ids }) (remaining (without (is_one_of ids) (listed_of a)) a.slots records)
forgets_commit s a records ids held form = forgetting_commit s a records (map Forget ids) (is_one_of ids) held form (forgets_all ids (after a.log))

-- ---- heads of one's own

in_longer_list : (xs : List Item) (i : Item) (n : ℕ) (j : Item) → slice_get (xs ++ i ∷ []) n ≡ Some j → (slice_get xs n ≡ Some j) ⊎ ((n ≡ length xs) × (i ≡ j))
in_longer_list [] i zero j is = inr (refl, cc)
in_longer_list [] i (suc n) j is = absurd (cc)
in_longer_list (x ∷ xs) i zero j is = inl is
in_longer_list (x ∷ xs) i (suc n) j is = elim (in_longer_list xs i n j is) [
  | inl old ↦ inl old
  | inr new ↦ inr (omega (arith, new.0), new.1)
]

-- a put that is no head of the id keeps the heads that there are; one that is adds its own
pub heads_stay_own : (slots : List Slot) (parts more : List Located) (id k : ℕ) (s : Slot) (i : Item) → slice_get slots k ≡ Some s → HasOwnHeads slots parts id → ((l : Located) → Contains parts l → Contains more l)
    → ((h : DumpHeadFields) → i ≡ Says (frames.DumpHead h) → h.id ≡ id → (l : Located) × Contains more l × (l.slot ≡ k) × (l.found.first ≡ length s.items)) → HasOwnHeads (with_items k (s.items ++ i ∷ []) slots) more id
heads_stay_own slots parts more id k s i at own sub new j t n h at_j is same = elim (with_get k (s.items ++ i ∷ []) slots j t at_j) [
  | inl here ↦ elim (in_longer_list s.items i n (Says (frames.DumpHead h)) (ap (λ (l : List Item). slice_get l n) (sym here.1) ∙ is)) [
    | inl old ↦
        (let l = own k s n h at old same in
        (l.0, sub l.0 l.1, l.2 ∙ sym here.0, l.3))
    | inr put ↦
        (let l = new h put.1 same in
        (l.0, l.1, l.2 ∙ sym here.0, l.3 ∙ sym put.0))
  ]
  | inr other ↦
      (let l = own j t n h other.1 is same in
      (l.0, sub l.0 l.1, l.2, l.3))
]
