-- What a blank tape has: nothing. And what is found whole is a dump.
use Rattle.std.proofs.Common.{◌≡◌, ℕ, zero, suc, ◌<◌, true, Option, Some, None, List, [], take, sym, subst, arith, inl, inr}
use Rattle.std.specs.Prelude.{Result, Contains}
use Rattle.std.proofs.lemmas.Bool.{cases_Bool, eqb-true}
use Rattle.vnode_model.specs.declared.volumes.VolumeFields.{VolumeFields}
use Rattle.budb_changes.specs.declared.records.TapePart.{TapePart}
use Rattle.budb_changes.specs.declared.records.DumpRecordFields.{DumpRecordFields}
use Rattle.budb_fold.specs.Database.{is_dump, has_dump}
use Rattle.tape_text.specs.Texts.{Tape, tape_items}
use Rattle.tape_text.specs.Parts.{FoundPart}
use Rattle.tape_scan.specs.Scans.{IsClosedIn, IsBegunIn}
use Rattle.tape_scan.specs.Slots.{Slot, Located, IsFound}
use Rattle.archive_model.specs.Holding.{holds_at}
use Rattle.archive_model.specs.Archives.{Refusal, IsDump, IsKept}
use Rattle.archive_model.proofs.CutLaws.{any_is}

empty_take : (n : ℕ) (t : Tape) → take n [] ≡ tape_items t → ⊥
empty_take zero t same = absurd (cc)
empty_take (suc n) t same = absurd (cc)

pub blank_closed : (p : FoundPart) → IsClosedIn [] p → ⊥
blank_closed p stands = empty_take p.end stands.tape stands.front

pub blank_begun : (p : FoundPart) → IsBegunIn [] p → ⊥
blank_begun p stands = absurd (omega (arith, stands.begun, stands.within))

pub nothing_held : (o : Option TapePart) (d : DumpRecordFields) (tape : ℕ) → holds_at o d tape [] ≡ true → ⊥
nothing_held None d tape held = absurd (cc)
nothing_held (Some p) d tape held = absurd (cc)

-- what is found whole is a dump, where its parent is below it
pub found_dump : (listed records : List DumpRecordFields) (slots : List Slot) (contents : ℕ → List ℕ → Result VolumeFields Refusal) → IsKept listed slots contents records
    → (ls : List Located) (d : DumpRecordFields) → IsFound slots ls d → d.parent < d.id → IsDump listed slots d
found_dump listed records slots contents kept ls d found above = elim (cases_Bool (has_dump listed d.id)) [
  | inl some ↦
      (let e = any_is (is_dump d.id) listed some in
      inl (subst (Contains listed) (sym (kept.agree e.0 d ls e.1 found (sym (eqb-true e.0.id d.id e.2)))) e.1))
  | inr none ↦ inr (record { parts = ls; found = found; unlisted = none; above = above })
]
