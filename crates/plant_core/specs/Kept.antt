-- What holds of a plant in memory whatever was asked of it. The laws of the trait, of such a plant.
use Rattle.std.proofs.Common.{◌≡◌, inl, ℕ, ◌^◌, ◌≤◌, ◌<◌, nat_lt, ◌==◌, if◌then◌else◌, Bool, true, false, List, [], ◌∷◌, ◌++◌, length, take, IsTrue, Option, Some, refl, sym, ap, arith, length-append}
use Rattle.std.proofs.lemmas.List.{take_all}
use Rattle.std.proofs.lemmas.Bool.Decides.{nat_tests}
use Rattle.plant_core.specs.declared.event.Event.{Event}
use Rattle.plant_core.specs.declared.event.Event.TheVariants.{Put, Settle, Cut, LogPut, LogCommit, LogReplace, Tell}
use Rattle.plant_core.specs.Records.{Record}
use Rattle.plant_core.specs.Tapes.{record_of}
use Rattle.plant_core.specs.Crashes.{State, IsWithin, blank, settled_part}
use Rattle.plant_core.specs.Past.{happens, after, IsLeft}
use Rattle.plant_core.specs.Shown.{count_at}

pub put_within : (here : Bool) (n : ℕ) (tape : List Record) (r : Record) → n ≤ length tape → n ≤ length (if here then tape ++ r ∷ [] else tape)
put_within true n tape r within = omega (arith, within, length-append tape (r ∷ []))
put_within false n tape r within = within

settle_within : (here : Bool) (n : ℕ) (tape : List Record) → n ≤ length tape → (if here then length tape else n) ≤ length tape
settle_within true n tape within = omega arith
settle_within false n tape within = within

cut_within : (here : Bool) (n m : ℕ) (tape : List Record) → m ≤ length tape → (if here then length (take n tape) else m) ≤ length (if here then take n tape else tape)
cut_within true n m tape within = omega arith
cut_within false n m tape within = within

happens_within : (e : Event) (s : State) → IsWithin s → IsWithin (happens e s)
happens_within (Put k stored) s w = record { log = w.log; tapes = λ j. put_within (j == k) (s.settled j) (s.tape j) (record_of stored) (w.tapes j) }
happens_within (Settle k) s w = record { log = w.log; tapes = λ j. settle_within (j == k) (s.settled j) (s.tape j) (w.tapes j) }
happens_within (Cut k n) s w = record { log = w.log; tapes = λ j. cut_within (j == k) n (s.settled j) (s.tape j) (w.tapes j) }
happens_within (LogPut bytes) s w = record { log = omega (arith, w.log, length-append s.log bytes.items); tapes = w.tapes }
happens_within LogCommit s w = record { log = omega arith; tapes = w.tapes }
happens_within (LogReplace bytes) s w = record { log = omega arith; tapes = w.tapes }
happens_within (Tell bytes) s w = record { log = w.log; tapes = w.tapes }

after_within : (es : List Event) (s : State) → IsWithin s → IsWithin (after es s)
after_within [] s w = w
after_within (e ∷ es) s w = after_within es (happens e s) (happens_within e s w)

pub always_within : (es : List Event) → IsWithin (after es blank)
always_within es = after_within es blank (record { log = omega arith; tapes = λ k. omega arith })

-- what is settled is one of the images
pub settled_is_left : (es : List Event) → IsLeft es (settled_part (after es blank))
settled_is_left es =
    let s = after es blank in
    let w = always_within es in
    record {
      log = refl;
      tapes = λ k. record { count = s.settled k; low = omega arith; high = w.tapes k; is = inl refl };
      told = (length s.told, sym (take_all (length s.told) s.told (omega arith)));
    }

-- a number is below another
pub is_below : (k n : ℕ) → IsTrue (nat_lt k n) → k < n
is_below k n is = grind (arith, nat_tests)

pub below_is : (k n : ℕ) → k < n → IsTrue (nat_lt k n)
below_is k n is = grind (arith, nat_tests)

-- the records of the loaded tape
pub records_are : (loaded : Option ℕ) (k : ℕ) (s : State) → loaded ≡ Some k → count_at loaded s ≡ length (s.tape k)
records_are loaded k s is = ap (λ (l : Option ℕ). count_at l s) is

-- a log within its limit is within the law's
pub short_log : (bytes log : List ℕ) → bytes ≡ log → length bytes ≤ 268435456 → length log ≤ 2 ^ 38
short_log bytes log same short = omega (arith, ap length same, short)

-- a tape within its limit is within the law's
pub short_tape : (kept tape : List Record) → kept ≡ tape → length kept ≤ 524288 → length tape ≤ 4294967295
short_tape kept tape same short = omega (arith, ap length same, short)
