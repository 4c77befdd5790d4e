-- What a dump has put on tapes leaves other dumps' heads as they were.
use Rattle.std.proofs.Common.{◌≡◌, ◌⊎◌, ℕ, zero, suc, Bool, true, false, Some, List, [], ◌∷◌, ◌++◌, take, refl, sym, ap, ◌∙◌, arith, inl, inr}
use Rattle.std.specs.Prelude.{slice_get, ◌==◌}
use Rattle.std.proofs.lemmas.Bool.{eqb-true, eq-eqb, cases_Bool}
use Rattle.tape_frames.specs.declared.frame.Frame.TheVariants as frames
use Rattle.tape_frames.specs.declared.dump_head.DumpHeadFields.{DumpHeadFields}
use Rattle.budb_changes.specs.declared.records.DumpRecordFields.{DumpRecordFields}
use Rattle.tape_text.specs.Items.{Item, Says, Filemark, Nothing}
use Rattle.tape_scan.specs.Slots.{Slot}
use Rattle.archive_model.specs.Holding.{HasNoHead}
use Rattle.dump_laws.specs.Keeping.{HavePut}
use Rattle.dump_archives.specs.Keeping.{HeadsUpTo}

-- ---- heads

has_no : (id : ℕ) (items : List Item) (n : ℕ) (h : DumpHeadFields) → HasNoHead id items → slice_get items n ≡ Some (Says (frames.DumpHead h)) → h.id ≡ id → ⊥
has_no id [] n h none at is = absurd (cc)
has_no id (Says (frames.DumpHead g) ∷ items) zero h none at is = (let same : Some (Says (frames.DumpHead g)) ≡ Some (Says (frames.DumpHead h)) = at in let heads : g ≡ h = cc in none.0 (ap (λ (x : DumpHeadFields). x.id) heads ∙ is))
has_no id (Says (frames.DumpHead g) ∷ items) (suc n) h none at is = has_no id items n h none.1 at is
has_no id (Says (frames.Label g) ∷ items) zero h none at is = absurd (cc)
has_no id (Says (frames.Label g) ∷ items) (suc n) h none at is = has_no id items n h none at is
has_no id (Says (frames.VolHead g) ∷ items) zero h none at is = absurd (cc)
has_no id (Says (frames.VolHead g) ∷ items) (suc n) h none at is = has_no id items n h none at is
has_no id (Says (frames.Data g) ∷ items) zero h none at is = absurd (cc)
has_no id (Says (frames.Data g) ∷ items) (suc n) h none at is = has_no id items n h none at is
has_no id (Says (frames.VolEnd g) ∷ items) zero h none at is = absurd (cc)
has_no id (Says (frames.VolEnd g) ∷ items) (suc n) h none at is = has_no id items n h none at is
has_no id (Says (frames.DumpEnd g) ∷ items) zero h none at is = absurd (cc)
has_no id (Says (frames.DumpEnd g) ∷ items) (suc n) h none at is = has_no id items n h none at is
has_no id (Filemark ∷ items) zero h none at is = absurd (cc)
has_no id (Filemark ∷ items) (suc n) h none at is = has_no id items n h none at is
has_no id (Nothing ∷ items) zero h none at is = absurd (cc)
has_no id (Nothing ∷ items) (suc n) h none at is = has_no id items n h none at is

in_front_or_more : (xs more : List Item) (n : ℕ) (i : Item) → slice_get (xs ++ more) n ≡ Some i → (slice_get xs n ≡ Some i) ⊎ ((k : ℕ) × (slice_get more k ≡ Some i))
in_front_or_more [] more n i at = inr (n, at)
in_front_or_more (x ∷ xs) more zero i at = inl at
in_front_or_more (x ∷ xs) more (suc n) i at = in_front_or_more xs more n i at

uncut_get : (count : ℕ) (xs : List Item) (n : ℕ) (i : Item) → slice_get (take count xs) n ≡ Some i → slice_get xs n ≡ Some i
uncut_get zero xs n i at = absurd (cc)
uncut_get (suc count) [] n i at = absurd (cc)
uncut_get (suc count) (x ∷ xs) zero i at = at
uncut_get (suc count) (x ∷ xs) (suc n) i at = uncut_get count xs n i at

pub heads_on : (id : ℕ) (listed : List DumpRecordFields) (old new : List Slot) → HavePut id listed old new → HeadsUpTo id old → HeadsUpTo id new
heads_on id listed old new put heads k t n h at is =
    let x = put k t at in
    let p = x.2 in
    let there : slice_get (take p.front x.0.items ++ p.more) n ≡ Some (Says (frames.DumpHead h)) = ap (λ (l : List Item). slice_get l n) (sym p.items) ∙ is in
    elim (in_front_or_more (take p.front x.0.items) p.more n (Says (frames.DumpHead h)) there) [
      | inl front ↦ heads k x.0 n h x.1 (uncut_get p.front x.0.items n (Says (frames.DumpHead h)) front)
      | inr more ↦ elim (cases_Bool (h.id == id)) [
        | inl hit ↦ (let same : h.id ≡ id = eqb-true h.id id hit in omega (arith, same))
        | inr miss ↦ absurd (has_no h.id p.more more.0 h (p.own h.id (λ same. not_both (h.id == id) (hit_of h.id id same) miss)) more.1 refl)
      ]
    ]
  where
    hit_of : (a b : ℕ) → a ≡ b → (a == b) ≡ true
    hit_of a b same = eq-eqb a b same

    not_both : (b : Bool) → b ≡ true → b ≡ false → ⊥
    not_both b hit miss = absurd (let e : true ≡ false = sym hit ∙ miss in cc)
