-- A turn that keeps the archive, and one that is but a reply.
use Rattle.std.proofs.Common.{◌≡◌, ℕ, ◌<◌, Bool, true, false, List, IsTrue, refl, sym, subst}
use Rattle.std.specs.Prelude.{Some, None, ◌↔◌, if◌then◌else◌}
use Rattle.bk_text.specs.Alphabets.{IsTapeName}
use Rattle.bk_text.specs.Tests.{tape_name_test}
use Rattle.plant_core.specs.Crashes.{IsSettled}
use Rattle.plant_core.specs.Effects.{come}
use Rattle.tape_frames.specs.declared.frame.Frame.{Frame}
use Rattle.tape_frames.specs.Frames.{Fits, spelling, IsSpelled}
use Rattle.tape_answers.specs.Reading.{frame_in}
use Rattle.backup_session.specs.declared.groups.Groups.{Groups}
use Rattle.backup_session.specs.Worlds.{World, Turn, Contents, before_reply}
use Rattle.backup_session.specs.Turns.{said}
use Rattle.session_archives.proofs.Slots.{ReadOnce}
use Rattle.session_archives.proofs.Knowing.{AddsNoHead}
use Rattle.session_archives.proofs.Keeping.{HoldsAt, Keeps, keeps_last}

-- how blocks and tapes are read
pub record Reads : Type 0 where
  pub tests : (text : List ℕ) → IsTrue (tape_name_test text) ↔ IsTapeName text
  pub one : (f g : Frame) → Fits f → Fits g → spelling f ≡ spelling g → f ≡ g
  pub frame : (bytes : List ℕ) (f : Frame) → frame_in bytes ≡ Some f → Fits f × (bytes ≡ spelling f)
  pub none : (bytes : List ℕ) → frame_in bytes ≡ None → IsSpelled bytes → ⊥
  pub once : ReadOnce

-- each state on the way of a turn holds the archive, all is settled behind it, the dumps have what they had, and no dump's head is put
pub record TurnKeeps (w : World) (t : Turn) : Type 0 where
  pub keeps : Keeps w.setting.slots w.setting.present w.contents w.log w.state t.effects t.log
  pub settled : IsSettled (come t.effects w.state)
  pub contents : t.contents ≡ w.contents
  pub adds : AddsNoHead w.log t.effects t.log

-- what a turn finds: the plant holds the archive, all is settled, and the slots that are here are among the plant's
pub record Finds (w : World) : Type 0 where
  pub holds : HoldsAt w.setting.slots w.setting.present w.contents w.log w.state
  pub settled : IsSettled w.state
  pub within : (k : ℕ) → IsTrue (w.setting.present k) → k < w.setting.slots

-- and so does a turn find it behind this one, before the reply is told
pub finds_behind : (w : World) (t : Turn) → Finds w → TurnKeeps w t → Finds (before_reply w t)
finds_behind w t finds keeps = record {
  holds = subst (λ (c : Contents). HoldsAt w.setting.slots w.setting.present c t.log (come t.effects w.state)) (sym keeps.contents) (keeps_last w.setting.slots w.setting.present w.contents t.effects w.state w.log t.log keeps.keeps);
  settled = keeps.settled;
  within = finds.within;
}

module _ (w : World) where
  pub said_keeps : Finds w → (text : List ℕ) → TurnKeeps w (said w text)
  said_keeps finds text = record { keeps = (finds.holds, refl); settled = finds.settled; contents = refl; adds = refl }

  -- and so is one that leaves other groups besides
  pub left_keeps : Finds w → (text : List ℕ) (groups : Groups) → TurnKeeps w (record (said w text) { groups = groups })
  left_keeps finds text groups = record { keeps = (finds.holds, refl); settled = finds.settled; contents = refl; adds = refl }

  pub picked : (b : Bool) (s t : Turn) → TurnKeeps w s → TurnKeeps w t → TurnKeeps w (if b then s else t)
  picked true s t is_s is_t = is_s
  picked false s t is_s is_t = is_t
