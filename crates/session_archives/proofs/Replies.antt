-- WHERE A REPLY IS TOLD, all that was put before it is settled.
use Rattle.std.proofs.Common.{◌≡◌, ◌⊎◌, inl, inr, ℕ, Bool, true, false, List, [], ◌∷◌, ◌++◌, length, length-append, refl, sym, ◌∙◌, ap, subst, append_assoc, arith}
use Rattle.std.specs.Prelude.{if◌then◌else◌}
use Rattle.plant_core.specs.Crashes.{IsSettled}
use Rattle.plant_core.specs.Effects.{Effect, tells, come, told_by}
use Rattle.plant_effects.proofs.States.{come_append}
use Rattle.backup_session.specs.Worlds.{World, before_reply}
use Rattle.backup_session.specs.Machine.{turn}
use Rattle.backup_session.proofs.Silent.{told_by-append, turn_silent}
use Rattle.backup_script.specs.declared.item.Item.{Item}
use Rattle.backup_script.specs.declared.item.Item.TheVariants.{Silent, Quit, Runs, Refused}
use Rattle.backup_script.specs.Scripts.{first_of, Outcome, then_outcome, one_line}
use Rattle.script_journals.proofs.Scripts.{ItemForms}
use Rattle.session_archives.specs.Held.{HoldsWorld, RepliesSettle}
use Rattle.session_archives.proofs.Scripts.{ReadyForItem}
use Rattle.session_archives.proofs.TurnLeads.{Lower, turn_leads}

no_effect : (before after : List Effect) (e : Effect) → [] ≡ before ++ e ∷ after → ⊥
no_effect [] after e is = cc
no_effect (b ∷ before) after e is = cc

-- an effect among those of two lists is one of the first, or one of the second
among : (es fs before after : List Effect) (e : Effect) → es ++ fs ≡ before ++ e ∷ after → ((more : List Effect) × (es ≡ before ++ e ∷ more)) ⊎ ((rest : List Effect) × (before ≡ es ++ rest) × (fs ≡ rest ++ e ∷ after))
among [] fs before after e is = inr (before, refl, is)
among (x ∷ es) fs [] after e is = (let first : x ≡ e = cc in inl (es, ap (λ (y : Effect). y ∷ es) first))
among (x ∷ es) fs (b ∷ before) after e is =
    let first : x ≡ b = cc in
    let further : es ++ fs ≡ before ++ e ∷ after = cc in
    elim (among es fs before after e further) [
      | inl here ↦ inl (here.0, ap (λ (y : Effect). y ∷ es) first ∙ ap (λ (l : List Effect). b ∷ l) here.1)
      | inr there ↦ inr (there.0, ap (λ (y : Effect). y ∷ before) (sym first) ∙ ap (λ (l : List Effect). x ∷ l) there.1, there.2)
    ]

-- effects that tell nothing have no reply
no_reply : (w : World) (es : List Effect) → told_by es ≡ [] → RepliesSettle w es
no_reply w es silent before after reply is some = absurd (omega (arith, some, ap (λ (l : List Effect). length (told_by l)) is, ap length silent, ap length (told_by-append before (tells reply ∷ after)), length-append (told_by before) (told_by (tells reply ∷ after)), length-append reply (told_by after)))

pub settles_nowhere : (w : World) → RepliesSettle w []
settles_nowhere w = no_reply w [] refl

one_reply : (w : World) (text : List ℕ) → IsSettled w.state → RepliesSettle w (tells text ∷ [])
one_reply w text settled [] after reply is some = settled
one_reply w text settled (b ∷ before) after reply is some = (let rest : [] ≡ before ++ tells reply ∷ after = cc in absurd (no_effect before after (tells reply) rest))

-- effects behind others
pub settle_both : (w v : World) (es fs : List Effect) → v.state ≡ come es w.state → RepliesSettle w es → RepliesSettle v fs → RepliesSettle w (es ++ fs)
settle_both w v es fs state first second before after reply is some = elim (among es fs before after (tells reply) is) [
  | inl here ↦ first before here.0 reply here.1 some
  | inr there ↦
      (let whole : come there.0 v.state ≡ come before w.state = ap (come there.0) state ∙ sym (come_append es there.0 w.state) ∙ ap (λ (l : List Effect). come l w.state) (sym there.1) in
      subst IsSettled whole (second there.0 after reply there.2 some))
]

-- the first of effects
pub settle_first : (w : World) (es more : List Effect) → RepliesSettle w (es ++ more) → RepliesSettle w es
settle_first w es more all before after reply is some = all before (after ++ more) reply (ap (λ (l : List Effect). l ++ more) is ∙ append_assoc before (tells reply ∷ after) more) some

-- a line
pub line_settles : (laws : Lower) (w : World) (ms : List ℕ) (held : HoldsWorld w) (item : Item) → ItemForms item → ReadyForItem w ms item → RepliesSettle w (one_line w ms item).effects
line_settles laws w ms held Silent forms ready = settles_nowhere w
line_settles laws w ms held Quit forms ready = settles_nowhere w
line_settles laws w ms held (Refused text) forms ready = one_reply w text held.settled
line_settles laws w ms held (Runs command) forms ready =
    let t = turn w (first_of ms) command in
    settle_both w (before_reply w t) t.effects (tells t.reply ∷ []) refl (no_reply w t.effects (turn_silent w (first_of ms) command))
    (one_reply (before_reply w t) t.reply (turn_leads laws w (first_of ms) held command forms (record { ready = ready.ready; back = ready.back })).finds.settled)

-- lines behind one that goes on
pub further_settles : (w : World) (s rest : Outcome) (b : Bool) → s.world.state ≡ come s.effects w.state → RepliesSettle w s.effects → (b ≡ true → RepliesSettle s.world rest.effects) → RepliesSettle w (if b then then_outcome s rest else s).effects
further_settles w s rest true state first second = settle_both w s.world s.effects rest.effects state first (second refl)
further_settles w s rest false state first second = first
