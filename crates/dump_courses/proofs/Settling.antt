-- What is settled of the tapes when records are put on one of them: all but that one, and that one too behind a filemark.
use Rattle.std.proofs.Common.{◌≡◌, ◌≢◌, ℕ, List, [], ◌∷◌, length, take, false, inl, inr, refl, sym, ◌∙◌}
use Rattle.std.specs.Prelude.{if◌then◌else◌, ◌==◌}
use Rattle.std.proofs.lemmas.Bool.{cases_Bool, eqb-true, eq-eqb, false≢true}
use Rattle.plant_core.specs.Crashes.{State, IsSettled}
use Rattle.plant_core.specs.Effects.{commits, puts, settles, cuts, comes, come}
use Rattle.plant_core.specs.Records.{Record, mark}
use Rattle.plant_effects.proofs.States.{come_append}
use Rattle.tape_text.specs.Items.{Item, Says, Filemark, Nothing, record_for}
use Rattle.tape_writer.specs.Puts.{put_on, puts_on}
use Rattle.dump_courses.specs.Settled.{IsSettledBut}

pub settled_but : (slot : ℕ) (s : State) → IsSettled s → IsSettledBut slot s
settled_but slot s is = record { log = is.log; tapes = λ k other. is.tapes k }

-- an effect on the tape of a slot leaves the others alone
other_slot : (k slot : ℕ) → k ≢ slot → (k == slot) ≡ false
other_slot k slot other = elim (cases_Bool (k == slot)) [
  | inl hit ↦ absurd (other (eqb-true k slot hit))
  | inr miss ↦ miss
]

put_settled : (slot : ℕ) (r : Record) (s : State) → IsSettledBut slot s → IsSettledBut slot (comes (puts slot r) s)
put_settled slot r s is = record { log = is.log; tapes = λ k other. rw (other_slot k slot other) (is.tapes k other) }

mark_settled : (slot : ℕ) (s : State) → IsSettledBut slot s → IsSettled (comes (settles slot) s)
mark_settled slot s is = record { log = is.log; tapes = λ k. by k }
  where
    by : (k : ℕ) → (if k == slot then length (s.tape k) else s.settled k) ≡ length (s.tape k)
    by k = elim (cases_Bool (k == slot)) [
      | inl hit ↦ rw hit refl
      | inr miss ↦ rw miss (is.tapes k (λ same. false≢true (sym miss ∙ eq-eqb k slot same)))
    ]

pub cut_settled : (slot n : ℕ) (s : State) → IsSettledBut slot s → IsSettled (comes (cuts slot n) s)
cut_settled slot n s is = record { log = is.log; tapes = λ k. by k }
  where
    by : (k : ℕ) → (if k == slot then length (take n (s.tape k)) else s.settled k) ≡ length (if k == slot then take n (s.tape k) else s.tape k)
    by k = elim (cases_Bool (k == slot)) [
      | inl hit ↦ rw hit refl
      | inr miss ↦ rw miss (is.tapes k (λ same. false≢true (sym miss ∙ eq-eqb k slot same)))
    ]

pub commit_settled : (bytes : List ℕ) (s : State) → IsSettled s → IsSettled (comes (commits bytes) s)
commit_settled bytes s is = record { log = refl; tapes = is.tapes }

put_item : (slot : ℕ) (i : Item) (s : State) → IsSettledBut slot s → IsSettledBut slot (come (put_on slot i) s)
put_item slot (Says f) s is = put_settled slot (record_for (Says f)) s is
put_item slot Filemark s is = settled_but slot (come (put_on slot Filemark) s) (mark_settled slot (comes (puts slot mark) s) (put_settled slot mark s is))
put_item slot Nothing s is = put_settled slot (record_for Nothing) s is

-- whatever is put on it
pub puts_settled : (slot : ℕ) (items : List Item) (s : State) → IsSettledBut slot s → IsSettledBut slot (come (puts_on slot items) s)
unfolding puts_on
puts_settled slot [] s is = is
puts_settled slot (i ∷ items) s is =
    let step : IsSettledBut slot (come (puts_on slot items) (come (put_on slot i) s)) = puts_settled slot items (come (put_on slot i) s) (put_item slot i s is) in
    rw (come_append (put_on slot i) (puts_on slot items) s) step

-- a frame and a filemark behind it
pub end_settled : (slot : ℕ) (i : Item) (s : State) → IsSettledBut slot s → IsSettled (come (puts_on slot (i ∷ Filemark ∷ [])) s)
unfolding puts_on
end_settled slot i s is =
    let marked : IsSettled (comes (settles slot) (comes (puts slot mark) (come (put_on slot i) s))) = mark_settled slot (comes (puts slot mark) (come (put_on slot i) s)) (put_settled slot mark (come (put_on slot i) s) (put_item slot i s is)) in
    rw (come_append (put_on slot i) (puts_on slot (Filemark ∷ [])) s) marked
