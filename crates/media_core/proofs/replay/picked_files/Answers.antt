use Rattle.std.proofs.Common.{◌≤◌, inl, inr, ℕ, List, length, sym, ◌∙◌, subst, arith}
use Rattle.std.proofs.lemmas.Bool.{cases_lt}
use Rattle.media_core.specs.Events.{file_bytes, LeftAfter, PickedAfter}
use Rattle.media_core.proofs.Files.{file_bytes_past}
use Rattle.media_core.proofs.replay.picked_files.Goals as goal

pub returns-clause-left : goal.returns-clause-left
returns-clause-left c = λ k. elim (cases_lt k c.args.count) [
  | inl below ↦ subst (λ (l : List ℕ). LeftAfter c.args.past.now k l) (sym (c.in_ok-files.ensures.same k below)) (c.in_ok-picked.ensures.left k)
  | inr past ↦
      let none = c.requires.absent k (file_bytes c.in_ok-picked.picked.items k) past (c.in_ok-picked.ensures.left k) in
      let long : length c.in_ok-files.files.items ≤ k = search (arith, past, c.in_ok-files.ensures.count) in
      subst (λ (l : List ℕ). LeftAfter c.args.past.now k l) (none ∙ sym (file_bytes_past c.in_ok-files.files.items k long)) (c.in_ok-picked.ensures.left k)
]

pub returns-clause-picked : goal.returns-clause-picked
returns-clause-picked c = λ k. elim (cases_lt k c.args.count) [
  | inl below ↦ subst (λ (l : List ℕ). PickedAfter c.args.pick c.args.past.now k l) (sym (c.in_ok-files.ensures.same k below)) (c.in_ok-picked.ensures.picked k)
  | inr past ↦
      let none = c.requires.absent k (file_bytes c.in_ok-picked.picked.items k) past (c.in_ok-picked.ensures.left k) in
      let long : length c.in_ok-files.files.items ≤ k = search (arith, past, c.in_ok-files.ensures.count) in
      subst (λ (l : List ℕ). PickedAfter c.args.pick c.args.past.now k l) (none ∙ sym (file_bytes_past c.in_ok-files.files.items k long)) (c.in_ok-picked.ensures.picked k)
]
