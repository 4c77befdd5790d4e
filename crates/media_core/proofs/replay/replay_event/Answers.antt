use Rattle.std.proofs.Common.{◌≡◌, ℕ, [], ◌∷◌, ◌++◌, List, length, replicate, Vec, refl, sym, ◌∙◌, ap, subst, rules}
use Rattle.std.specs.declared.alloc.Global.{Global}
use Rattle.media_core.specs.declared.event.Event.{Event}
use Rattle.media_core.specs.declared.replay.Pick.{Pick}
use Rattle.media_core.specs.Events.{file_bytes}
use Rattle.media_core.specs.Tracks.{Tracks}
use Rattle.media_core.proofs.Tracking.{Rewritten, opens, tells, syncs, loses, keeps_new, keeps_torn}
use Rattle.media_core.proofs.replay.replay_event.Goals as goal

-- the event and the pick, as they were matched
matched : (pick pick' : Pick) (es : List Event) (e e' : Event) (files picked files' picked' : List (Vec ℕ Global)) → pick ≡ pick' → e ≡ e' → (Tracks pick' es files picked → Tracks pick' (es ++ e' ∷ []) files' picked')
    → Tracks pick es files picked → Tracks pick (es ++ e ∷ []) files' picked'
matched pick pick' es e e' files picked files' picked' pick_is is step tracks =
    subst (λ (p : Pick). Tracks p (es ++ e ∷ []) files' picked') (sym pick_is)
    (subst (λ (x : Event). Tracks pick' (es ++ x ∷ []) files' picked') (sym is) (step (subst (λ (p : Pick). Tracks p es files picked) pick_is tracks)))

rewrites : (f at : ℕ) (bytes bytes' : List ℕ) (old new : List (Vec ℕ Global)) → bytes ≡ bytes' → Rewritten f at bytes old new → Rewritten f at bytes' old new
rewrites f at bytes bytes' old new same writes = subst (λ (l : List ℕ). Rewritten f at l old new) same writes

pub returns-in_ok-second-in-Opened : goal.returns-in_ok-second-in-Opened
returns-in_ok-second-in-Opened c = λ es tracks.
    subst (λ (x : Event). Tracks c.args.pick (es ++ x ∷ []) c.in_ok-first-in-Opened.first.items c.in_ok-second-in-Opened.second.items) (sym c.in-Opened.is)
    (opens c.args.pick es c.in-Opened.opened c.in-Opened.field-1 c.in_ok-first-in-Opened.first.items c.in_ok-second-in-Opened.second.items
    (λ k. c.in_ok-first-in-Opened.ensures.same k ∙ ap (λ (l : List (Vec ℕ Global)). file_bytes l k) c.deref.ensures.value)
    (λ k. c.in_ok-second-in-Opened.ensures.same k ∙ ap (λ (l : List (Vec ℕ Global)). file_bytes l k) c.deref-in-Opened.ensures.value))

pub returns-in-Tell : goal.returns-in-Tell
returns-in-Tell c = λ es. matched c.args.pick c.args.pick es c.args.event.now _ c.args.files.now.items c.args.picked.now.items c.args.files.now.items c.args.picked.now.items refl c.in-Tell.is
    (tells c.args.pick es c.in-Tell.field-0 c.args.files.now.items c.args.picked.now.items)

pub returns-in_ok-replay_sync-in-Sync : goal.returns-in_ok-replay_sync-in-Sync
returns-in_ok-replay_sync-in-Sync c = λ es. matched c.args.pick c.args.pick es c.args.event.now _ c.args.files.now.items c.args.picked.now.items c.args.files.now.items c.replay_sync.new.picked.items refl c.in-Sync.is
    (λ tracks. syncs c.args.pick es c.in-Sync.f c.args.files.now.items c.args.picked.now.items c.replay_sync.new.picked.items tracks
    (c.in_ok-replay_sync-in-Sync.ensures.same ∙ ap (λ (l : List (Vec ℕ Global)). file_bytes l c.in-Sync.f) c.deref-in-Sync.ensures.value) c.in_ok-replay_sync-in-Sync.ensures.others)

pub returns-in_ok-replay_write-in-Old : goal.returns-in_ok-replay_write-in-Old
returns-in_ok-replay_write-in-Old c = λ es. matched c.args.pick _ es c.args.event.now _ c.args.files.now.items c.args.picked.now.items c.replay_write.new.files.items c.args.picked.now.items c.in-Old.is c.in-Write.is
    (loses es c.in-Write.f c.in-Write.at c.in-Write.bytes c.args.files.now.items c.replay_write.new.files.items c.args.picked.now.items
    (rewrites c.in-Write.f c.in-Write.at _ c.in-Write.bytes.items c.args.files.now.items c.replay_write.new.files.items c.deref-in-Old.ensures.value c.in_ok-replay_write-in-Old.ensures))

pub returns-in_ok-replay_write-in-New-2 : goal.returns-in_ok-replay_write-in-New-2
returns-in_ok-replay_write-in-New-2 c = λ es. matched c.args.pick _ es c.args.event.now _ c.args.files.now.items c.args.picked.now.items c.replay_write-in-New-2.new.files.items c.replay_write-in-New.new.files.items c.in-New.is c.in-Write.is
    (keeps_new es c.in-Write.f c.in-Write.at c.in-Write.bytes c.args.files.now.items c.replay_write-in-New-2.new.files.items c.args.picked.now.items
    (rewrites c.in-Write.f c.in-Write.at _ c.in-Write.bytes.items c.args.files.now.items c.replay_write-in-New-2.new.files.items c.deref-in-New-2.ensures.value c.in_ok-replay_write-in-New-2.ensures)
    c.deref-in-New.result.now (ap length c.deref-in-New.ensures.value) c.replay_write-in-New.new.files.items c.in_ok-replay_write-in-New.ensures c.deref-in-New.ensures.value)

pub returns-in_ok-replay_write-in-Torn-2 : goal.returns-in_ok-replay_write-in-Torn-2
returns-in_ok-replay_write-in-Torn-2 c = λ es.
    let size : length c.deref-in-Torn.result.now ≡ length c.in-Write.bytes.items = search rules in
    let fill : c.deref-in-Torn.result.now ≡ replicate (length c.in-Write.bytes.items) c.in-Torn.byte = search rules in
    matched c.args.pick _ es c.args.event.now _ c.args.files.now.items c.args.picked.now.items c.replay_write-in-Torn-2.new.files.items c.replay_write-in-Torn.new.files.items c.in-Torn.is c.in-Write.is
    (keeps_torn es c.in-Write.f c.in-Write.at c.in-Write.bytes c.args.files.now.items c.replay_write-in-Torn-2.new.files.items c.args.picked.now.items
    (rewrites c.in-Write.f c.in-Write.at _ c.in-Write.bytes.items c.args.files.now.items c.replay_write-in-Torn-2.new.files.items c.deref-in-Torn-2.ensures.value c.in_ok-replay_write-in-Torn-2.ensures)
    c.deref-in-Torn.result.now size c.replay_write-in-Torn.new.files.items c.in_ok-replay_write-in-Torn.ensures c.in-Torn.byte fill)
