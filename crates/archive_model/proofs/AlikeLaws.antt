-- States that are alike hold alike, and archives that are held are held at the beginning and at the end.
use Rattle.std.proofs.Common.{ℕ, ◌≤◌, Some, List, [], ◌∷◌, ◌++◌, length, sym, ap, subst, ◌∙◌}
use Rattle.budb_changes.specs.declared.records.DumpRecordFields.{DumpRecordFields}
use Rattle.plant_core.specs.Crashes.{State, Alike}
use Rattle.plant_core.specs.Effects.{Effect, comes, come}
use Rattle.plant_core.specs.Records.{Record}
use Rattle.tape_text.specs.Items.{Read}
use Rattle.archive_model.specs.Archives.{Archive}
use Rattle.archive_model.specs.Settled.{HoldsSettled, Kept, AreHeld}

pub alike_hold : (s t : State) (a : Archive) (records : List DumpRecordFields) → Alike s t → HoldsSettled s a records → HoldsSettled t a records
alike_hold s t a records same held = record {
  seen = record {
    changes = held.seen.changes;
    log = ap (λ (l : List ℕ). Some l) same.log ∙ held.seen.log;
    tapes = λ k u at. subst (λ (rs : List Record). Read rs u.items) (sym (same.tape k)) (held.seen.tapes k u at);
    others = λ k none. same.tape k ∙ held.seen.others k none;
    kept = held.seen.kept;
  };
  log = same.log_settled ∙ held.log ∙ ap length (sym same.log);
  settled = λ k u d tape p at there place holds_it. subst (λ (n : ℕ). p.end ≤ n) (sym (same.settled k)) (held.settled k u d tape p at there place holds_it);
}

pub held_first : (s : State) (es : List Effect) (a : Kept) (more : List Kept) → AreHeld s es (a ∷ more) → HoldsSettled s a.archive a.records
held_first s [] a [] held = held
held_first s [] a (b ∷ more) held = absurd held
held_first s (e ∷ es) a more held = held.0

none_held : (s : State) (es : List Effect) → AreHeld s es [] → ⊥
none_held s [] held = held
none_held s (e ∷ es) held = held

pub held_last : (s : State) (es : List Effect) (archives : List Kept) (a : Kept) → AreHeld s es (archives ++ a ∷ []) → HoldsSettled (come es s) a.archive a.records
held_last s [] [] a held = held
held_last s [] (b ∷ []) a held = absurd held
held_last s [] (b ∷ c ∷ archives) a held = absurd held
held_last s (e ∷ es) [] a held = absurd (none_held (comes e s) es held.1)
held_last s (e ∷ es) (b ∷ archives) a held = held_last (comes e s) es archives a held.1
