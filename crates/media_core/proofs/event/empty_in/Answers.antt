use Rattle.std.proofs.Common.{◌≡◌, [], ◌∷◌, ◌++◌, ℕ, List, sym, subst}
use Rattle.media_core.specs.declared.event.Event.{Event}
use Rattle.media_core.specs.declared.event.Event.TheVariants.{Write}
use Rattle.media_core.specs.Events.{blank, after}
use Rattle.media_core.specs.Emptied.{NoJournal}
use Rattle.media_core.proofs.Emptying.{pushed, opened_emptied, write_emptied, write_same, sync_same, tell_same}
use Rattle.media_core.proofs.event.empty_in.Goals as goal

-- the event as it was matched
was : (es es' : List Event) (e m e' : Event) → e ≡ m → NoJournal (es ++ m ∷ []) (es' ++ e' ∷ []) → NoJournal (es ++ e ∷ []) (es' ++ e' ∷ [])
was es es' e m e' is step = subst (λ (x : Event). NoJournal (es ++ x ∷ []) (es' ++ e' ∷ [])) (sym is) step

pub returns-in-Opened : goal.returns-in-Opened
returns-in-Opened c = λ es es' emptied. was es es' _ _ _ c.in-Opened.is
    (pushed es es' _ _ (opened_emptied (after es blank) (after es' blank) c.in-Opened.files c.empty_first.new.files c.in-Opened.field-1 c.empty_first.ensures.first c.empty_first.ensures.others))

pub returns-then-f-eq0 : goal.returns-then-f-eq0
returns-then-f-eq0 c = λ es es' emptied.
    let zero_is : c.in-Write.f ≡ 0 = c.if-f-eq0.true in
    was es es' _ _ _ c.in-Write.is
    (subst (λ (f : ℕ). NoJournal (es ++ Write f c.in-Write.field-1 c.in-Write.bytes ∷ []) (es' ++ Write f c.in-Write.field-1 c.clear.new.self ∷ [])) (sym zero_is)
    (pushed es es' _ _ (write_emptied (after es blank) (after es' blank) emptied c.in-Write.field-1 c.in-Write.bytes c.clear.new.self c.clear.ensures.items)))

pub returns-else-f-eq0 : goal.returns-else-f-eq0
returns-else-f-eq0 c = λ es es' emptied. was es es' _ _ _ c.in-Write.is
    (pushed es es' _ _ (write_same (after es blank) (after es' blank) emptied c.in-Write.f c.in-Write.field-1 c.in-Write.bytes c.if-f-eq0.false))

pub returns-in-Sync : goal.returns-in-Sync
returns-in-Sync c = λ es es' emptied.
    subst (λ (x : Event). NoJournal (es ++ x ∷ []) (es' ++ x ∷ [])) (sym c.in-Sync.is) (pushed es es' _ _ (sync_same (after es blank) (after es' blank) emptied c.in-Sync.field-0))

pub returns-in-Tell : goal.returns-in-Tell
returns-in-Tell c = λ es es' emptied.
    subst (λ (x : Event). NoJournal (es ++ x ∷ []) (es' ++ x ∷ [])) (sym c.in-Tell.is) (pushed es es' _ _ (tell_same (after es blank) (after es' blank) emptied c.in-Tell.field-0))
