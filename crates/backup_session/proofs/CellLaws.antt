-- What the calls of a cell answer, and data that is more than a vnode takes.
use Rattle.std.proofs.Common.{◌≡◌, inl, inr, ℕ, ◌+◌, ◌<◌, Bool, false, List, length, refl, sym, ◌∙◌, ap, subst, arith}
use Rattle.std.specs.Prelude.{nat_le, ◌==◌, ◌&&◌, if◌then◌else◌, Option, Some, None, Result, Ok, Err}
use Rattle.std.proofs.lemmas.Bool.Decides.{nat_tests}
use Rattle.vnode_model.specs.declared.vnodes.Vnode.{Vnode}
use Rattle.vnode_model.specs.declared.volumes.VolumeFields.{VolumeFields}
use Rattle.vnode_model.specs.Limits.{most_data, most_vnodes, all_data}
use Rattle.vnode_model.specs.Increments.{data_of}
use Rattle.cell_core.specs.declared.fault.CellFault.{CellFault}
use Rattle.cell_core.specs.declared.fault.CellFault.TheVariants.{Failed, NoVolume, VolumeExists, NoVnode, TooLarge, BadImage, Memory}
use Rattle.cell_core.specs.declared.stored.Stored.{Stored}
use Rattle.cell_core.specs.declared.stored.Image.{Image}
use Rattle.cell_core.specs.declared.stored.Image.TheVariants.{Good, Bad}
use Rattle.cell_core.specs.Answers.{Changes, Creates}
use Rattle.cell_core.specs.Cells.{stored_as}
use Rattle.cell_core.specs.Vnodes.{vnode_of, with_vnode, made_vnode, rewritten_vnode}
use Rattle.cell_core.specs.Volumes.{updated_volume, within_limits, written_over, written_volume}
use Rattle.cell_core.specs.Calls.{Creation, with_outcome, image_after, put_back, after_change_where, after_write}
use Rattle.backup_session.specs.Views.{ReplyView}
use Rattle.backup_session.specs.Fitting.{OnTheWay}
use Rattle.backup_session.specs.Cells.{answered, created, text_of, without_id, StandsFor, IsAnswer}

module _ (name : List ℕ) (number : ℕ) (due : Result (List Stored) CellFault) (old new : List Stored) where
  refused_is : (fault : CellFault) (reply : ReplyView) → due ≡ Err fault → new ≡ old → reply.text ≡ text_of name number (Err fault) → IsAnswer (answered name number due) reply old new
  refused_is fault reply is same text = subst (λ (d : Result (List Stored) CellFault). IsAnswer (answered name number d) reply old new) (sym is) (record { text = text; list = same })

  -- a call was answered, and this is the reply
  pub answered_is : (answer : Result (Unit {0}) CellFault) (reply : ReplyView) → Changes due old answer new → (answer ≡ Err Failed → ⊥) → (answer ≡ Err Memory → ⊥) → reply.text ≡ text_of name number answer → IsAnswer (answered name number due) reply old new
  answered_is (Ok done) reply changes went kept text = subst (λ (d : Result (List Stored) CellFault). IsAnswer (answered name number d) reply old new) (sym changes) (record { text = text; list = refl })
  answered_is (Err Failed) reply changes went kept text = absurd (went refl)
  answered_is (Err Memory) reply changes went kept text = absurd (kept refl)
  answered_is (Err NoVolume) reply changes went kept text = refused_is NoVolume reply changes.0 changes.1 text
  answered_is (Err VolumeExists) reply changes went kept text = refused_is VolumeExists reply changes.0 changes.1 text
  answered_is (Err NoVnode) reply changes went kept text = refused_is NoVnode reply changes.0 changes.1 text
  answered_is (Err TooLarge) reply changes went kept text = refused_is TooLarge reply changes.0 changes.1 text
  answered_is (Err (BadImage at)) reply changes went kept text = refused_is (BadImage at) reply changes.0 changes.1 text

  same_way : (cells : List (List Stored)) → new ≡ old → OnTheWay old cells new
  same_way cells same = (0, omega arith, sym same)

  -- whatever was answered
  pub on_the_way : (answer : Result (Unit {0}) CellFault) → Changes due old answer new → OnTheWay old (answered name number due).cells new
  on_the_way (Ok done) changes = subst (λ (d : Result (List Stored) CellFault). OnTheWay old (answered name number d).cells new) (sym changes) (1, omega arith, refl)
  on_the_way (Err Failed) changes = same_way (answered name number due).cells changes.1
  on_the_way (Err Memory) changes = same_way (answered name number due).cells changes
  on_the_way (Err NoVolume) changes = same_way (answered name number due).cells changes.1
  on_the_way (Err VolumeExists) changes = same_way (answered name number due).cells changes.1
  on_the_way (Err NoVnode) changes = same_way (answered name number due).cells changes.1
  on_the_way (Err TooLarge) changes = same_way (answered name number due).cells changes.1
  on_the_way (Err (BadImage at)) changes = same_way (answered name number due).cells changes.1

-- a call that makes a volume, without the id
pub creates : (due : Result Creation CellFault) (old new : List Stored) (answer : Result ℕ CellFault) → Creates due old answer new → Changes (created due) old (without_id answer) new
creates due old new (Ok id) is = ap created is
creates due old new (Err Failed) is = is
creates due old new (Err Memory) is = is
creates due old new (Err NoVolume) is = (ap created is.0, is.1)
creates due old new (Err VolumeExists) is = (ap created is.0, is.1)
creates due old new (Err NoVnode) is = (ap created is.0, is.1)
creates due old new (Err TooLarge) is = (ap created is.0, is.1)
creates due old new (Err (BadImage at)) is = (ap created is.0, is.1)

-- ---- too much data

over : (n m : ℕ) → m < n → nat_le n m ≡ false
over n m lt = grind (arith, nat_tests)

refused_data : (body : List ℕ) (volume : VolumeFields) → most_data < length body → within_limits body volume ≡ Err TooLarge
refused_data body volume long =
    ap (λ (b : Bool). if b && (nat_le (length volume.vnodes) most_vnodes && nat_le (data_of volume.vnodes) all_data) then Ok volume else Err TooLarge) (over (length body) most_data long)

module _ (a b : List ℕ) (long_a : most_data < length a) (long_b : most_data < length b) (number now : ℕ) where
  over_same : (there : Option Vnode) (volume : VolumeFields) → written_over there volume number a now ≡ written_over there volume number b now
  over_same (Some v) volume =
      refused_data a (updated_volume (with_vnode (rewritten_vnode a now v) volume.vnodes) volume.header.uniq now volume) long_a
      ∙ sym (refused_data b (updated_volume (with_vnode (rewritten_vnode b now v) volume.vnodes) volume.header.uniq now volume) long_b)
  over_same None volume = ap (λ (r : Result VolumeFields CellFault). if volume.header.uniq == 4294967295 then Err TooLarge else r)
      (refused_data a (updated_volume (with_vnode (made_vnode number volume.header.uniq a now) volume.vnodes) (volume.header.uniq + 1) now volume) long_a
      ∙ sym (refused_data b (updated_volume (with_vnode (made_vnode number volume.header.uniq b now) volume.vnodes) (volume.header.uniq + 1) now volume) long_b))

  volume_same : (volume : VolumeFields) → written_volume number a now volume ≡ written_volume number b now volume
  volume_same volume = ap (λ (r : Result VolumeFields CellFault). if number == 0 then Err TooLarge else r) (over_same (vnode_of number volume.vnodes) volume)

image_same : (image : Image) (s : Stored) (f g : VolumeFields → Result VolumeFields CellFault) → ((v : VolumeFields) → f v ≡ g v) → image_after image s f ≡ image_after image s g
image_same (Good volume) s f g same = ap (λ (r : Result VolumeFields CellFault). if volume.header.kind == 0 then with_outcome s r else Err NoVolume) (same volume)
image_same (Bad at) s f g same = refl

change_same : (there : Option Stored) (cell : List Stored) (f g : VolumeFields → Result VolumeFields CellFault) → ((v : VolumeFields) → f v ≡ g v) → after_change_where there cell f ≡ after_change_where there cell g
change_same (Some s) cell f g same = ap (put_back cell) (image_same s.image s f g same)
change_same None cell f g same = refl

-- data that stands for other data leaves the same
pub stands_for : (cell : List Stored) (name : List ℕ) (number : ℕ) (wanted given : List ℕ) (now : ℕ) → StandsFor wanted given → after_write cell name number given now ≡ after_write cell name number wanted now
stands_for cell name number wanted given now (inl is) = ap (λ (body : List ℕ). after_write cell name number body now) is
stands_for cell name number wanted given now (inr longs) = change_same (stored_as name cell) cell _ _ (volume_same given wanted longs.0 longs.1 number now)
