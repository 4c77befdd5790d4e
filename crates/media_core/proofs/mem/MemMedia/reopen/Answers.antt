use Rattle.std.proofs.Common.{ℕ, List, sym, ◌∙◌, subst}
use Rattle.media_core.specs.declared.event.Event.{Event}
use Rattle.media_core.specs.Events.{after, blank, ToldLeft, LeftAfter, PickedAfter, file_bytes}
use Rattle.media_core.proofs.DiskModel.{always_read}
use Rattle.media_core.proofs.mem.MemMedia.reopen.Goals as goal

pub returns-clause-left : goal.returns-clause-left
returns-clause-left c =
    let m = c.args.self in
    record {
      files = λ k.
          subst (λ (l : List ℕ). LeftAfter m.past.items k l) (sym (c.in_ok-media.ensures.files k))
          (subst (λ (es : List Event). LeftAfter es k (file_bytes c.in_ok-files.files.items k)) c.deref.ensures.value (c.in_ok-files.ensures.left k));
      told = subst (λ (l : List ℕ). ToldLeft (after m.past.items blank) l) (sym (c.in_ok-media.ensures.told ∙ m.told_kept)) (always_read m.past.items).told;
    }

pub returns-clause-picked : goal.returns-clause-picked
returns-clause-picked c = λ k.
    subst (λ (l : List ℕ). PickedAfter c.args.pick c.args.self.past.items k l) (sym (c.in_ok-media.ensures.files k))
    (subst (λ (es : List Event). PickedAfter c.args.pick es k (file_bytes c.in_ok-files.files.items k)) c.deref.ensures.value (c.in_ok-files.ensures.picked k))
