-- The worlds in which the sessions of a rehearsal begin, and the media that stand in them.
use Rattle.std.proofs.Common.{◌≡◌, ◌≢◌, ℕ, zero, suc, ◌+◌, ◌-◌, ◌<◌, ◌≤◌, Bool, true, false, not, List, [], ◌∷◌, Some, refl, sym, ◌∙◌, ap, arith, IsTrue, inl, inr, ◌⊎◌}
use Rattle.std.specs.Prelude.{nat_lt, ◌&&◌, ◌==◌}
use Rattle.std.proofs.lemmas.Bool.{cases_lt}
use Rattle.std.proofs.lemmas.List.Elements.{All-nil}
use Rattle.media_core.specs.Media.{Image, nothing}
use Rattle.media_core.specs.declared.event.Event.{Event}
use Rattle.media_core.specs.Events.{seen_after}
use Rattle.media_core.specs.Emptied.{NoJournal}
use Rattle.plant_media.specs.Stock.{journal_of, tape_of}
use Rattle.plant_media.specs.Records.{records_of}
use Rattle.cell_core.specs.declared.stored.Stored.{Stored}
use Rattle.budb_changes.specs.Bytes.{encoded}
use Rattle.backup_words.specs.declared.command.Command.{Command}
use Rattle.backup_session.specs.Worlds.{Setting}
use Rattle.backup_session.specs.Machine.{turn}
use Rattle.rehearsal.specs.declared.batch.Batch.{Batch}
use Rattle.rehearsal.specs.Playing.{Stage, then_turn, given, played}
use Rattle.rehearsal.specs.Commands.{first_session, second_session}
use Rattle.rehearsal.specs.Sessions.{blank_world, all_here, one_out, setting, start, dumped, lost, scanned, put_back, Begins, Stands, HasFiles}

-- ---- a session keeps its setting

given_setting : (s : Stage) (now : ℕ) (commands : List Command) → (given s now commands).world.setting ≡ s.world.setting
unfolding given
given_setting s now [] = refl
given_setting s now (c ∷ cs) = given_setting (then_turn s (turn s.world now c)) now cs

pub played_setting : (s : Stage) (batches : List Batch) → (played s batches).world.setting ≡ s.world.setting
unfolding played
played_setting s [] = refl
played_setting s (b ∷ bs) = played_setting (given s b.now b.commands) bs ∙ given_setting s b.now b.commands

pub dumped_setting : (n : ℕ) → (dumped n).world.setting ≡ setting all_here
unfolding dumped
dumped_setting n = played_setting (start blank_world) (first_session n)

pub scanned_setting : (n : ℕ) → (scanned n).world.setting ≡ setting one_out
unfolding scanned lost
scanned_setting n = played_setting (start (lost n)) (second_session n)

-- ---- where each session begins

pub blank_begins : Begins blank_world
blank_begins = record { config = refl; time = refl; groups = refl }

pub lost_begins : (n : ℕ) → Begins (lost n)
unfolding lost
lost_begins n = record { config = refl; time = refl; groups = refl }

pub put_back_begins : (n : ℕ) → Begins (put_back n)
unfolding put_back
put_back_begins n = record { config = refl; time = refl; groups = refl }

-- ---- media in these worlds

empty_journal : journal_of [] ≡ Some []
unfolding journal_of
empty_journal = refl

empty_tape : tape_of [] ≡ []
unfolding tape_of records_of
empty_tape = refl

pub blank_stands : (image : Image) (cell : List Stored) → image ≡ nothing → cell ≡ [] → Stands blank_world image cell
unfolding encoded
blank_stands image cell is none = record {
  form = All-nil _;
  journal = refl;
  settled = record { log = refl; tapes = λ k. refl };
  log = ap (λ (x : Image). journal_of (x.file 0)) is ∙ empty_journal;
  tape = λ k. ap (λ (x : Image). tape_of (x.file (k + 1))) is ∙ empty_tape;
  told = ap (λ (x : Image). x.told) is;
  cell = none;
}

pub lost_stands : (n : ℕ) (old new : List Event) (cell : List Stored) → Stands (dumped n).world (seen_after old) cell → NoJournal old new → Stands (lost n) (seen_after new) cell
unfolding lost encoded
lost_stands n old new cell stands emptied = record {
  form = All-nil _;
  journal = refl;
  settled = record { log = refl; tapes = λ k. refl };
  log = ap journal_of emptied.bytes ∙ empty_journal;
  tape = λ k. ap tape_of (emptied.others (k + 1) (λ is. absurd (omega (arith, is)))).bytes ∙ stands.tape k;
  told = emptied.told ∙ stands.told;
  cell = stands.cell;
}

pub back_in_stands : (n : ℕ) (image : Image) (cell : List Stored) → Stands (scanned n).world image cell → Stands (put_back n) image cell
unfolding put_back
back_in_stands n image cell stands = record {
  form = stands.form;
  journal = refl;
  settled = record { log = refl; tapes = λ k. refl };
  log = stands.log ∙ ap (λ (l : List ℕ). Some l) stands.journal;
  tape = stands.tape;
  told = stands.told;
  cell = stands.cell;
}

-- ---- files

four_true : (k : ℕ) → k < 4 → nat_lt k 4 ≡ true
four_true k lt = grind (arith, lt)

four_false : (k : ℕ) → 4 ≤ k → nat_lt k 4 ≡ false
four_false k le = grind (arith, le)

pub blank_files : (count : ℕ) (present : ℕ → Bool) → count ≡ 5 → ((k : ℕ) → k < 5 → IsTrue (present k)) → ((k : ℕ) → IsTrue (present k) → k < count) → HasFiles blank_world count present
blank_files count present is here below = record {
  slots = ap (λ (c : ℕ). c - 1) is;
  present = λ k. elim (cases_lt k 4) [
    | inl lt ↦ of_true (present (k + 1)) (here (k + 1) (omega (arith, lt))) ∙ sym (four_true k lt)
    | inr le ↦ of_false (present (k + 1)) (λ there. omega (arith, le, below (k + 1) there, is)) ∙ sym (four_false k le)
  ];
}
  where
    of_true : (b : Bool) → IsTrue b → b ≡ true
    of_true b is = is

    of_false : (b : Bool) → (IsTrue b → ⊥) → b ≡ false
    of_false true never = absurd (never refl)
    of_false false never = refl

and_true : (b : Bool) → b ≡ (b && true)
and_true true = refl
and_true false = refl

and_false : (b : Bool) → false ≡ (b && false)
and_false true = refl
and_false false = refl

same_two : (k : ℕ) → k ≡ 2 → (k == 2) ≡ true
same_two k is = grind (arith, is)

other_two : (k : ℕ) → (k ≡ 2 → ⊥) → (k == 2) ≡ false
other_two k other = grind (arith, other)

two_or_not : (k : ℕ) → (k ≡ 2) ⊎ (k ≡ 2 → ⊥)
two_or_not zero = inr (λ is. absurd (omega (arith, is)))
two_or_not (suc zero) = inr (λ is. absurd (omega (arith, is)))
two_or_not (suc (suc zero)) = inl refl
two_or_not (suc (suc (suc k))) = inr (λ is. absurd (omega (arith, is)))

pub lost_files : (n count count2 : ℕ) (present present2 : ℕ → Bool) → HasFiles (dumped n).world count present → count2 ≡ count → present2 3 ≡ false → ((k : ℕ) → k ≢ 3 → present2 k ≡ present k) → HasFiles (lost n) count2 present2
unfolding lost
lost_files n count count2 present present2 files same out others = record {
  slots = ap (λ (c : ℕ). c - 1) same ∙ files.slots ∙ ap (λ (x : Setting). x.slots) (dumped_setting n);
  present = λ k. elim (two_or_not k) [
    | inl is ↦ ap (λ (j : ℕ). present2 (j + 1)) is ∙ out ∙ and_false (nat_lt k 4) ∙ ap (λ (b : Bool). nat_lt k 4 && not b) (sym (same_two k is))
    | inr other ↦ others (k + 1) (λ is. other (omega (arith, is))) ∙ files.present k ∙ ap (λ (x : Setting). x.present k) (dumped_setting n) ∙ and_true (nat_lt k 4) ∙ ap (λ (b : Bool). nat_lt k 4 && not b) (sym (other_two k other))
  ];
}

pub put_back_files : (n count count2 : ℕ) (present present2 : ℕ → Bool) → HasFiles (scanned n).world count present → count2 ≡ count → present2 3 ≡ true → ((k : ℕ) → k ≢ 3 → present2 k ≡ present k) → HasFiles (put_back n) count2 present2
unfolding put_back
put_back_files n count count2 present present2 files same back others = record {
  slots = ap (λ (c : ℕ). c - 1) same ∙ files.slots ∙ ap (λ (x : Setting). x.slots) (scanned_setting n);
  present = λ k. elim (two_or_not k) [
    | inl is ↦ ap (λ (j : ℕ). present2 (j + 1)) is ∙ back ∙ ap (λ (j : ℕ). nat_lt j 4) (sym is)
    | inr other ↦ others (k + 1) (λ is. other (omega (arith, is))) ∙ files.present k ∙ ap (λ (x : Setting). x.present k) (scanned_setting n) ∙ ap (λ (b : Bool). nat_lt k 4 && not b) (other_two k other) ∙ sym (and_true (nat_lt k 4))
  ];
}
