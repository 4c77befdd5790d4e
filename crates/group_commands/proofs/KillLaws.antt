-- The kills of held dumps one by one, by their numbers in the pool.
use Rattle.std.proofs.Common.{◌≡◌, ℕ, ◌+◌, ◌<◌, Option, Some, None, List, [], ◌∷◌, ◌++◌, length, take, get_or, refl, sym, ap, ◌∙◌}
use Rattle.std.specs.Prelude.{slice_get}
use Rattle.std.proofs.lemmas.List.{take_more}
use Rattle.job_pool.specs.declared.turn.Kill.{Kill}
use Rattle.group_commands.specs.declared.began.Began.{Began}
use Rattle.group_commands.specs.Begins.{number_of, with_kill, kills_of}

with_front : (o : Option ℕ) (after : ℕ) (rest more : List Kill) → with_kill o after (rest ++ more) ≡ with_kill o after rest ++ more
with_front None after rest more = refl
with_front (Some n) after rest more = refl

kills_more : (began : List Began) (kills : List Kill) (k : Kill) → kills_of began (kills ++ k ∷ []) ≡ kills_of began kills ++ with_kill (number_of (slice_get began k.job)) k.after []
kills_more began [] k = refl
kills_more began (x ∷ kills) k =
    ap (with_kill (number_of (slice_get began x.job)) x.after) (kills_more began kills k)
    ∙ with_front (number_of (slice_get began x.job)) x.after (kills_of began kills) (with_kill (number_of (slice_get began k.job)) k.after [])

-- one kill more
pub kills_next : (began : List Began) (kills : List Kill) (i : ℕ) (d : Kill) (made more : List Kill) → i < length kills
    → more ≡ made ++ with_kill (number_of (slice_get began (get_or kills i d).job)) (get_or kills i d).after [] → made ≡ kills_of began (take i kills) → more ≡ kills_of began (take (i + 1) kills)
kills_next began kills i d made more within then so_far =
    let k : Kill = get_or kills i d in
    then ∙ ap (λ (l : List Kill). l ++ with_kill (number_of (slice_get began k.job)) k.after []) so_far ∙ sym (kills_more began (take i kills) k) ∙ ap (kills_of began) (sym (take_more kills i d within))
