-- What images were told of pieces that are told one after the other.
use Rattle.std.proofs.Common.{◌≡◌, inl, inr, List, ◌++◌, take, drop, ℕ, sym, ◌∙◌, subst}
use Rattle.std.proofs.lemmas.List.{take-append-drop}
use Rattle.crash_moments.specs.Moments.{Moments, Leads}
use Rattle.crash_moments.proofs.Joining.{stays, joined, weakened}
use Rattle.media_core.specs.Media.{Image, Tells}
use Rattle.backup_top.specs.Tells.{ToldFront, TellsOn}
use Rattle.backup_top.proofs.TellLaws.{none_told, first_told, second_told}

-- more lines behind them
wider : (first second taken : List ℕ) (a b : Image) → TellsOn first taken a b → TellsOn (first ++ second) taken a b
wider first second taken a b step = elim step [
  | inl same ↦ inl same
  | inr (x, y) ↦ inr (first_told first second taken a.told x, first_told first second taken b.told y)
]

both : (first second taken mid : List ℕ) (a b c : Image) → mid ≡ taken ++ first → TellsOn first taken a b → TellsOn second mid b c → TellsOn (first ++ second) taken a c
both first second taken mid a b c is one two = elim two [
  | inl same ↦ elim one [
    | inl still ↦ inl (same ∙ still)
    | inr (x, y) ↦ inr (first_told first second taken a.told x, subst (ToldFront (first ++ second) taken) (sym same) (first_told first second taken b.told y))
  ]
  | inr (x, y) ↦ elim one [
    | inl still ↦ inr (subst (ToldFront (first ++ second) taken) still (second_told first second taken mid b.told is x), second_told first second taken mid c.told is y)
    | inr (p, q) ↦ inr (first_told first second taken a.told p, second_told first second taken mid c.told is y)
  ]
]

tells_on : (taken piece : List ℕ) (a b : Image) → Tells taken piece a b → TellsOn piece taken a b
tells_on taken piece a b step = elim step.told [
  | inl same ↦ inl same
  | inr (all, (n, more)) ↦ inr (subst (ToldFront piece taken) (sym all) (none_told piece taken), (take n piece, (drop n piece, sym (take-append-drop n piece)), more))
]

module _ {D : Type 0} (time : Moments D Image) where
  -- nothing was told
  pub on_none : (lines taken : List ℕ) (s : D) → Leads time s s (TellsOn lines taken)
  on_none lines taken s = weakened time s s (λ a b. b ≡ a) (TellsOn lines taken) (stays time s) (λ a b was same. inl (same_told a b same))
    where
      same_told : (a b : Image) → b ≡ a → b.told ≡ a.told
      same_told a b same i = (same i).told

  pub on_wider : (first second taken : List ℕ) (old new : D) → Leads time old new (TellsOn first taken) → Leads time old new (TellsOn (first ++ second) taken)
  on_wider first second taken old new leads = weakened time old new (TellsOn first taken) (TellsOn (first ++ second) taken) leads (λ a b was step. wider first second taken a b step)

  -- the first lines, and then the second ones
  pub on_both : (first second taken mid_told : List ℕ) (old mid new : D) → mid_told ≡ taken ++ first → Leads time old mid (TellsOn first taken) → Leads time mid new (TellsOn second mid_told) → Leads time old new (TellsOn (first ++ second) taken)
  on_both first second taken mid_told old mid new is one two = joined time old mid new (TellsOn first taken) (TellsOn second mid_told) (TellsOn (first ++ second) taken) one two
      (λ a b was step. wider first second taken a b step) (λ a b c was step left next. both first second taken mid_told a b c is step next)

  -- a piece more, as the media takes it
  pub on_piece : (first piece taken mid_told : List ℕ) (old mid new : D) → mid_told ≡ taken ++ first → Leads time old mid (TellsOn first taken) → Leads time mid new (Tells mid_told piece) → Leads time old new (TellsOn (first ++ piece) taken)
  on_piece first piece taken mid_told old mid new is one two = on_both first piece taken mid_told old mid new is one (weakened time mid new (Tells mid_told piece) (TellsOn piece mid_told) two (λ a b was step. tells_on mid_told piece a b step))

  pub on_same : (lines others taken : List ℕ) (old new : D) → lines ≡ others → Leads time old new (TellsOn lines taken) → Leads time old new (TellsOn others taken)
  on_same lines others taken old new same = subst (λ (l : List ℕ). Leads time old new (TellsOn l taken)) same
