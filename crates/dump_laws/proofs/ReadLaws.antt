-- What is settled isn't read: states of which reads give the same read the same behind every effect.
use Rattle.std.proofs.Common.{◌≡◌, ℕ, Some, List, [], ◌∷◌, ◌++◌, take, refl, ap}
use Rattle.std.specs.Prelude.{◌==◌, if◌then◌else◌}
use Rattle.plant_core.specs.Crashes.{State, seen_in}
use Rattle.plant_core.specs.Effects.{Effect, commits, replaces, tells, puts, settles, cuts, comes, come}
use Rattle.plant_core.specs.Records.{Record}
use Rattle.dump_laws.specs.Rest.{settled_whole}

-- reads give the same of both
pub record ReadsAlike (s t : State) : Type 0 where
  pub log : t.log ≡ s.log
  pub tape : t.tape ≡ s.tape
  pub told : t.told ≡ s.told

reads_comes : (e : Effect) (s t : State) → ReadsAlike s t → ReadsAlike (comes e s) (comes e t)
reads_comes (commits bytes) s t alike = record { log = ap (λ (l : List ℕ). l ++ bytes) alike.log; tape = alike.tape; told = alike.told }
reads_comes (replaces bytes) s t alike = record { log = refl; tape = alike.tape; told = alike.told }
reads_comes (tells text) s t alike = record { log = alike.log; tape = alike.tape; told = ap (λ (l : List ℕ). l ++ text) alike.told }
reads_comes (puts k r) s t alike = record { log = alike.log; tape = ap (λ (f : ℕ → List Record). λ (j : ℕ). if j == k then f j ++ r ∷ [] else f j) alike.tape; told = alike.told }
reads_comes (settles k) s t alike = record { log = alike.log; tape = alike.tape; told = alike.told }
reads_comes (cuts k n) s t alike = record { log = alike.log; tape = ap (λ (f : ℕ → List Record). λ (j : ℕ). if j == k then take n (f j) else f j) alike.tape; told = alike.told }

pub reads_come : (es : List Effect) (s t : State) → ReadsAlike s t → ReadsAlike (come es s) (come es t)
reads_come [] s t alike = alike
reads_come (e ∷ es) s t alike = reads_come es (comes e s) (comes e t) (reads_comes e s t alike)

pub seen_alike : (s t : State) → ReadsAlike s t → seen_in t ≡ seen_in s
seen_alike s t alike = λ i. record { log = Some (alike.log i); tape = alike.tape i; told = alike.told i }

-- a state that is settled whole
pub alike_at_rest : (s : State) → ReadsAlike s (settled_whole s)
alike_at_rest s = record { log = refl; tape = refl; told = refl }
