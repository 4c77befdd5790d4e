-- The name of a save's label, its capacity, and what is done for the tape that was picked.
use Rattle.std.proofs.Common.{◌≡◌, ℕ, ◌+◌, ◌<◌, ◌≤◌, Bool, true, false, true≢false, List, [], ◌++◌, length, inl, inr, refl, sym, ◌∙◌, ap, subst, arith}
use Rattle.std.specs.Prelude.{Option, Result, Ok, Err, min, nat_lt}
use Rattle.std.proofs.lemmas.Bool.{cases_lt, lt-ltb}
use Rattle.std.proofs.lemmas.List.Elements.{All-from_recursion}
use Rattle.bk_text.specs.Alphabets.{IsNameByte, IsTapeName}
use Rattle.byte_formats.specs.Forms.{IsMaybe}
use Rattle.plant_core.specs.declared.plant.Plant.{Ghosts as Plant}
use Rattle.plant_core.specs.Crashes.{State}
use Rattle.plant_core.specs.Effects.{Effect, come}
use Rattle.plant_core.specs.Records.{Record}
use Rattle.plant_effects.specs.Runs.{state_of, Done}
use Rattle.plant_effects.proofs.States.{come_append}
use Rattle.tape_config.specs.declared.port.PortFields.{PortFields}
use Rattle.tape_writer.specs.Room.{taken_by}
use Rattle.budb_save.specs.declared.choosing.Picked.{Picked}
use Rattle.budb_save.specs.declared.saving.Saved.{Saved}
use Rattle.budb_save.specs.declared.fault.SaveFault.{SaveFault}
use Rattle.budb_save.specs.declared.fault.SaveFault.TheVariants.{NoTape, TooBig, Failed, Memory}
use Rattle.budb_save.specs.Saves.{save_name, save_label, save_records, save_of, piece_count, HasSave}
use Rattle.budb_save.specs.Writing.{putting_save}
use Rattle.budb_save.specs.Faults.{UnlessStopped, WhereRefused}
use Rattle.budb_save.specs.Saving.{is_too_big, saved_in, putting_on, effects_in}
use Rattle.budb_save.proofs.StandLaws.{stands, has_bytes}

pub name_fits : IsTapeName save_name
name_fits = record {
  some = omega arith;
  short = omega arith;
  first = tt;
  each = All-from_recursion IsNameByte save_name ((omega arith, omega arith, λ e. absurd (omega (arith, e))), ((omega arith, omega arith, λ e. absurd (omega (arith, e))), ((omega arith, omega arith, λ e. absurd (omega (arith, e))), ((omega arith, omega arith, λ e. absurd (omega (arith, e))), ((omega arith, omega arith, λ e. absurd (omega (arith, e))), ((omega arith, omega arith, λ e. absurd (omega (arith, e))), ((omega arith, omega arith, λ e. absurd (omega (arith, e))), ((omega arith, omega arith, λ e. absurd (omega (arith, e))), ((omega arith, omega arith, λ e. absurd (omega (arith, e))), ((omega arith, omega arith, λ e. absurd (omega (arith, e))), ((omega arith, omega arith, λ e. absurd (omega (arith, e))), ((omega arith, omega arith, λ e. absurd (omega (arith, e))), ((omega arith, omega arith, λ e. absurd (omega (arith, e))), ((omega arith, omega arith, λ e. absurd (omega (arith, e))), tt))))))))))))));
}

-- ---- the capacity

-- more bytes than a tape has room for
pub over_big : (port : PortFields) (count : ℕ) → port.capacity < count → is_too_big port count ≡ true
over_big port count over = lt-ltb port.capacity (taken_by port (piece_count count + 2) 2) (omega (arith, over))

not_both : (b : Bool) → b ≡ true → b ≡ false → ⊥
not_both b hit miss = true≢false (sym hit ∙ miss)

-- bytes that are counted no further than over each capacity
pub capped : (port : PortFields) (count : ℕ) → port.capacity ≤ 4000000000 → nat_lt port.capacity (taken_by port (piece_count (min count 4000000001) + 2) 2) ≡ is_too_big port count
capped port count within = elim (cases_lt 4000000000 count) [
  | inl over ↦ lt-ltb port.capacity (taken_by port (piece_count (min count 4000000001) + 2) 2) (omega (arith, over, within)) ∙ sym (over_big port count (omega (arith, over, within)))
  | inr few ↦ (let same : min count 4000000001 ≡ count = omega (arith, few) in ap (λ (n : ℕ). nat_lt port.capacity (taken_by port (piece_count n + 2) 2)) same)
]

pub fit_few : (port : PortFields) (count : ℕ) → port.capacity ≤ 4000000000 → is_too_big port count ≡ false → count ≤ 4000000000
fit_few port count within fits = elim (cases_lt 4000000000 count) [
  | inl over ↦ absurd (not_both (is_too_big port count) (over_big port count (omega (arith, over, within))) fits)
  | inr few ↦ few
]

pub big_answer : (port : PortFields) (slot count : ℕ) → is_too_big port count ≡ true → Err TooBig ≡ saved_in port slot count
big_answer port slot count big = rw big refl

abbrev pub saved_so : ℕ → ℕ → Result Saved SaveFault
saved_so slot count = Ok (record { bytes = count; slot = slot })

pub fit_answer : (port : PortFields) (slot count : ℕ) → is_too_big port count ≡ false → saved_so slot count ≡ saved_in port slot count
fit_answer port slot count fits = rw fits refl

pub big_effects : (port : PortFields) (p : Picked) (loaded : Option ℕ) (bytes : List ℕ) → is_too_big port (length bytes) ≡ true → [] ≡ effects_in port p loaded bytes
big_effects port p loaded bytes big = rw big refl

pub fit_effects : (port : PortFields) (p : Picked) (loaded : Option ℕ) (bytes : List ℕ) → is_too_big port (length bytes) ≡ false → putting_on p loaded bytes ≡ effects_in port p loaded bytes
fit_effects port p loaded bytes fits = rw fits refl

-- ---- what holds of an answer

pub stopped_map : {A B : Type 0} (r : Result Saved SaveFault) → (A → B) → UnlessStopped r A → UnlessStopped r B
stopped_map (Ok saved) f a = f a
stopped_map (Err NoTape) f a = f a
stopped_map (Err TooBig) f a = f a
stopped_map (Err Failed) f a = tt
stopped_map (Err Memory) f a = tt

pub refused_map : {A B : Type 0} (r : Result Saved SaveFault) → (A → B) → WhereRefused r A → WhereRefused r B
refused_map (Ok saved) f a = tt
refused_map (Err NoTape) f a = f a
refused_map (Err TooBig) f a = f a
refused_map (Err Failed) f a = tt
refused_map (Err Memory) f a = f a

-- ---- the tape afterwards

module _ {D : Type 0} (P : Plant D) where
  pub saved_tape : (es : List Effect) (k : ℕ) (permanent bytes : List ℕ) (old new : D) → P.tells → Done P (es ++ putting_save k (save_label permanent) bytes) old new → (state_of P new).tape k ≡ save_records (save_of permanent bytes)
  saved_tape es k permanent bytes old new told done =
      let save = putting_save k (save_label permanent) bytes in
      (done.state told).tape k ∙ ap (λ (s : State). s.tape k) (come_append es save (state_of P old)) ∙ stands (come es (state_of P old)) k permanent bytes

  pub saved_has : (es : List Effect) (k : ℕ) (permanent bytes : List ℕ) (old new : D) → P.tells → IsMaybe IsTapeName permanent → length bytes ≤ 4000000000
      → Done P (es ++ putting_save k (save_label permanent) bytes) old new → HasSave ((state_of P new).tape k) bytes
  saved_has es k permanent bytes old new told form few done =
      subst (λ (tape : List Record). HasSave tape bytes) (sym (saved_tape es k permanent bytes old new told done)) (has_bytes permanent bytes form (omega (arith, few)))
