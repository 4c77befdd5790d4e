-- What a crash leaves of a plant that holds the archive, and plants that hold one at the start.
use Rattle.std.proofs.Common.{◌≡◌, ℕ, zero, suc, ◌<◌, Bool, Some, List, [], take, IsTrue, sym, ap, subst, ◌∙◌}
use Rattle.std.proofs.lemmas.List.Elements.{All-nil, All-cons}
use Rattle.plant_core.specs.Records.{Record}
use Rattle.plant_core.specs.Stock.{Stock, IsNothing}
use Rattle.plant_core.specs.Crashes.{seen_in, IsSettled, LeftIn}
use Rattle.plant_core.specs.Effects.{Effect, come, Joint}
use Rattle.tape_text.specs.Items.{Read}
use Rattle.tape_scan.specs.Slots.{Slot}
use Rattle.tape_answers.specs.Reading.{items_of}
use Rattle.tape_answers.specs.Slots.{slot_of, slots_from, slots_of}
use Rattle.budb_changes.specs.declared.change.Change.{Change}
use Rattle.budb_changes.specs.declared.records.DumpRecordFields.{DumpRecordFields}
use Rattle.budb_fold.specs.Database.{after}
use Rattle.archive_model.specs.Archives.{Archive, listed_of, Holds, AreBlank}
use Rattle.archive_model.specs.Turns.{StillHeld, remaining}
use Rattle.archive_model.proofs.StillLaws.{image_still_held}
use Rattle.archive_model.proofs.DumpLaws.{rest_holds}
use Rattle.archive_model.proofs.HeldLaws.{blank_holds}
use Rattle.backup_session.specs.Worlds.{World, Setting, Contents, archive_of}
use Rattle.backup_session.specs.Bounded.{HasTapes}
use Rattle.script_journals.specs.Worlds.{HasGroupForm}
use Rattle.dump_archives.specs.Keeping.{KnowsIds}
use Rattle.dump_archives.proofs.Heads.{slots_up}
use Rattle.session_archives.specs.Held.{HoldsWorld, archive_with, HoldsAfter, HoldsOnTheWay, HoldsImage}
use Rattle.session_archives.proofs.Knowing.{torn_none}
use Rattle.session_archives.proofs.Slots.{ReadOnce, slots_again}

pub image_holds : ReadOnce → (w : World) (contents : Contents) (effects : List Effect) (image : Stock) → HoldsAfter w contents effects → LeftIn (come effects w.state) image → HoldsImage w contents effects image
image_holds once w contents effects image held left =
    let s = come effects w.state in
    let a = archive_with w contents held.changes s.tape in
    let found = image_still_held s image a held.records held.holds left in
    let same : found.0 ≡ slots_of w.setting.slots w.setting.present image.tape = slots_again once w.setting.present s.tape image.tape w.setting.slots found.0 found.1 found.3.tapes in
    record {
      changes = held.changes;
      journal = held.journal;
      records = remaining (listed_of a) found.0 held.records;
      holds = subst (λ (l : List Slot). Holds image (record a { slots = l }) (remaining (listed_of a) found.0 held.records)) same found.3;
      still = subst (λ (l : List Slot). StillHeld (listed_of a) a.slots l) same found.2;
      ids = λ known. slots_up (after held.changes).greatest w.setting.slots w.setting.present s.tape image.tape (λ k. torn_none (s.settled k) (s.tape k) (image.tape k) (left.tapes k)) (held.ids known);
    }

pub joint_holds : ReadOnce → (w : World) (contents : ℕ → Contents) (effects : List Effect) (old image : Stock) → HoldsOnTheWay w contents effects → (joint : Joint w.state effects old image)
    → HoldsImage w (contents joint.count) (take joint.count effects) image
joint_holds once w contents effects old image way joint = image_holds once w (contents joint.count) (take joint.count effects) image (way joint.count) joint.left

-- all is settled at the start
pub world_at_rest : (w : World) (records : List DumpRecordFields) → Holds (seen_in w.state) (archive_of w) records → IsSettled w.state → ((k : ℕ) → IsTrue (w.setting.present k) → k < w.setting.slots) → HasTapes w → HasGroupForm w.groups.open → HoldsWorld w
world_at_rest w records held settled within has group = record { records = records; holds = rest_holds w.state (archive_of w) records held settled.log settled.tapes; settled = settled; within = within; tapes = has; group = group }

-- ---- an image that is opened again

module _ (w : World) (contents : Contents) (effects : List Effect) (image : Stock) (held : HoldsImage w contents effects image) (v : World) (setting : v.setting ≡ w.setting) (is : v.contents ≡ contents) (log : v.log ≡ held.changes) (tapes : (k : ℕ) → v.state.tape k ≡ image.tape k) where
  same_archive : archive_with w contents held.changes image.tape ≡ archive_of v
  same_archive =
      let x = sym setting in
      let tape : image.tape ≡ v.state.tape = λ i. λ k. sym (tapes k) i in
      λ i. record { log = sym log i; slots = slots_of (x i).slots (x i).present (tape i); contents = sym is i }

  seen_again : image.log ≡ Some v.state.log → Holds (seen_in v.state) (archive_of v) held.records
  seen_again bytes =
      let h = subst (λ (a : Archive). Holds image a held.records) same_archive held.holds in
      record {
        changes = h.changes;
        log = sym bytes ∙ h.log;
        tapes = λ k s at. subst (λ (rs : List Record). Read rs s.items) (sym (tapes k)) (h.tapes k s at);
        others = λ k none. tapes k ∙ h.others k none;
        kept = h.kept;
      }

  pub known_again : KnowsIds (archive_of w) → KnowsIds (archive_of v)
  known_again known = subst KnowsIds same_archive (held.ids known)

  pub opened_again : image.log ≡ Some v.state.log → ((k : ℕ) → IsTrue (w.setting.present k) → k < w.setting.slots) → IsSettled v.state → HasTapes v → HasGroupForm v.groups.open → HoldsWorld v
  opened_again bytes within settled has group = world_at_rest v held.records (seen_again bytes) settled (subst (λ (x : Setting). (k : ℕ) → IsTrue (x.present k) → k < x.slots) (sym setting) within) has group

-- ---- blank tapes

module _ (present : ℕ → Bool) (tape : ℕ → List Record) (none : (k : ℕ) → tape k ≡ []) where
  from_blank : (first n : ℕ) → AreBlank (slots_from first n present tape)
  from_blank first zero = All-nil (λ (s : Slot). s.items ≡ [])
  from_blank first (suc n) = All-cons (λ (s : Slot). s.items ≡ []) (slot_of present tape first) (slots_from (suc first) n present tape) (ap items_of (none first)) (from_blank (suc first) n)

  pub slots_blank : (n : ℕ) → AreBlank (slots_of n present tape)
  unfolding slots_of
  slots_blank n = from_blank 0 n

pub blank_world : (w : World) → w.log ≡ [] → IsNothing (seen_in w.state) → IsSettled w.state → ((k : ℕ) → IsTrue (w.setting.present k) → k < w.setting.slots) → HasTapes w → HasGroupForm w.groups.open → HoldsWorld w
blank_world w empty nothing settled within has group =
    let slots = slots_of w.setting.slots w.setting.present w.state.tape in
    let held = blank_holds (seen_in w.state) slots w.contents nothing (slots_blank w.setting.present w.state.tape nothing.tapes w.setting.slots) in
    world_at_rest w [] (subst (λ (l : List Change). Holds (seen_in w.state) (record { log = l; slots = slots; contents = w.contents }) []) (sym empty) held) settled within has group
