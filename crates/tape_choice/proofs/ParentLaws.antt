-- The chain of a dump's parents ends before all listed dumps are passed.
use Rattle.std.proofs.Common.{zero, suc, ◌≡◌, inl, inr, ℕ, ◌+◌, ◌<◌, ◌≤◌, List, [], ◌∷◌, length, refl, ◌∙◌, ap, subst, arith}
use Rattle.std.specs.Prelude.{Option, Some, None, Contains, nat_lt, ◌==◌, if◌then◌else◌}
use Rattle.std.proofs.lemmas.Bool.{cases_Bool, eqb-true}
use Rattle.std.proofs.lemmas.Grind.{common_steps}
use Rattle.budb_changes.specs.declared.records.DumpRecordFields.{DumpRecordFields}
use Rattle.budb_fold.specs.Lookups.{record_of}
use Rattle.budb_fold.specs.Chains.{HaveParentsBelow}
use Rattle.archive_model.proofs.SlotLaws.{find_is}
use Rattle.tape_choice.specs.Choice.{upwards}
use Rattle.tape_choice.specs.Parents.{Reaches, IsReached}

-- how many of these dumps have an id below this
below : ℕ → List DumpRecordFields → ℕ
below n [] = 0
below n (d ∷ ds) = if nat_lt d.id n then below n ds + 1 else below n ds

below_none : (n : ℕ) → below n [] ≡ 0
unfolding below
below_none n = refl

below_more : (n : ℕ) (d : DumpRecordFields) (ds : List DumpRecordFields) → below n (d ∷ ds) ≡ (if nat_lt d.id n then below n ds + 1 else below n ds)
unfolding below
below_more n d ds = refl

below_length : (n : ℕ) (ds : List DumpRecordFields) → below n ds ≤ length ds
below_length n [] = omega (arith, below_none n)
below_length n (d ∷ ds) =
    let rest = below_length n ds in
    let here = below_more n d ds in
    elim (cases_Bool (nat_lt d.id n)) [
      | inl hit ↦ (let e : below n (d ∷ ds) ≡ below n ds + 1 = rw hit at here in omega arith)
      | inr miss ↦ (let e : below n (d ∷ ds) ≡ below n ds = rw miss at here in omega arith)
    ]

below_rises : (m n : ℕ) (ds : List DumpRecordFields) → m ≤ n → below m ds ≤ below n ds
below_rises m n [] le = omega (arith, below_none m, below_none n)
below_rises m n (d ∷ ds) le =
    let rest = below_rises m n ds le in
    let first = below_more m d ds in
    let second = below_more n d ds in
    grind (arith, common_steps)

below_passes : (m n : ℕ) (ds : List DumpRecordFields) (p : DumpRecordFields) → Contains ds p → m ≤ p.id → p.id < n → below m ds + 1 ≤ below n ds
below_passes m n [] p there low high = absurd (omega (arith, there.1))
below_passes m n (d ∷ ds) p (zero, within, is) low high =
    let same : d.id ≡ p.id = ap (λ (x : DumpRecordFields). x.id) is in
    let rest = below_rises m n ds (omega arith) in
    let first = below_more m d ds in
    let second = below_more n d ds in
    grind (arith, common_steps)
below_passes m n (d ∷ ds) p (suc k, within, is) low high =
    let rest = below_passes m n ds p (k, omega (arith, within), is) low high in
    let first = below_more m d ds in
    let second = below_more n d ds in
    grind (arith, common_steps)

-- the record of an id is listed, and has it
listed_with : (listed : List DumpRecordFields) (id : ℕ) (p : DumpRecordFields) → record_of listed id ≡ Some p → Contains listed p × (p.id ≡ id)
listed_with listed id p is =
    let found = find_is (λ dump. dump.id == id) listed p is in
    (found.0, eqb-true p.id id found.1)

reached_within : (listed : List DumpRecordFields) → HaveParentsBelow listed → (n id : ℕ) (passed : List DumpRecordFields) (d : DumpRecordFields) → below (suc id) listed ≤ n → Reaches listed id passed d → Contains (upwards listed n (record_of listed id)) d
reached_within listed lower zero id [] d few reached =
    let at = listed_with listed id d reached in
    absurd (omega (arith, below_passes id (suc id) listed d at.0 (omega (arith, at.1)) (omega (arith, at.1))))
reached_within listed lower zero id (p ∷ passed) d few reached =
    let at = listed_with listed id p reached.0 in
    absurd (omega (arith, below_passes id (suc id) listed p at.0 (omega (arith, at.1)) (omega (arith, at.1))))
reached_within listed lower (suc n) id [] d few reached = rw reached (0, omega arith, refl)
reached_within listed lower (suc n) id (p ∷ passed) d few reached =
    let at = listed_with listed id p reached.0 in
    let parent : p.parent < p.id = subst (λ (x : DumpRecordFields). x.parent < x.id) at.0.2 (lower at.0.0 p at.0.1) in
    let passes = below_passes id (suc id) listed p at.0 (omega (arith, at.1)) (omega (arith, at.1)) in
    let rises = below_rises (suc p.parent) id listed (omega (arith, at.1)) in
    let rest = reached_within listed lower n p.parent passed d (omega arith) reached.1 in
    let is = reached.0 in
    rw is (suc rest.0, omega (arith, rest.1), rest.2)

within_reached : (listed : List DumpRecordFields) (n id : ℕ) (o : Option DumpRecordFields) (d : DumpRecordFields) → record_of listed id ≡ o → Contains (upwards listed n o) d → IsReached listed id d
within_reached listed zero id o d is there = absurd (omega (arith, there.1))
within_reached listed (suc n) id None d is there = absurd (omega (arith, there.1))
within_reached listed (suc n) id (Some p) d is (zero, within, at) = record { passed = []; reached = is ∙ ap (λ (x : DumpRecordFields). Some x) at }
within_reached listed (suc n) id (Some p) d is (suc k, within, at) =
    let rest = within_reached listed n p.parent (record_of listed p.parent) d refl (k, omega (arith, within), at) in
    record { passed = p ∷ rest.passed; reached = (is, rest.reached) }

pub all_reached : (listed : List DumpRecordFields) (id : ℕ) (d : DumpRecordFields) → HaveParentsBelow listed → IsReached listed id d → Contains (upwards listed (length listed) (record_of listed id)) d
all_reached listed id d lower reached = reached_within listed lower (length listed) id reached.passed d (below_length (suc id) listed) reached.reached

pub only_reached : (listed : List DumpRecordFields) (id : ℕ) (d : DumpRecordFields) → Contains (upwards listed (length listed) (record_of listed id)) d → IsReached listed id d
only_reached listed id d there = within_reached listed (length listed) id (record_of listed id) d refl there
