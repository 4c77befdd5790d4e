-- The archive on the way of a script, behind it, and in what a crash leaves.
use Rattle.std.proofs.Common.{◌≡◌, inl, ℕ, ◌<◌, Bool, List, length, IsTrue, refl, sym, subst, arith}
use Rattle.std.proofs.lemmas.List.{take_all}
use Rattle.plant_core.specs.Crashes.{State, LeftIn, IsSettled, settled_part, seen_in}
use Rattle.plant_core.specs.Effects.{Effect, come}
use Rattle.plant_core.specs.Stock.{Stock}
use Rattle.tape_config.specs.Configs.{Settings}
use Rattle.cell_core.specs.declared.stored.Stored.{Stored}
use Rattle.budb_changes.specs.declared.change.Change.{Change}
use Rattle.budb_changes.specs.Bytes.{encoded}
use Rattle.archive_model.specs.Archives.{Holds}
use Rattle.backup_session.specs.Worlds.{World, Contents, archive_of}
use Rattle.backup_session.specs.Bounded.{HasTapes}
use Rattle.backup_session.specs.Held.{HoldsArchive}
use Rattle.backup_script.specs.Scripts.{Outcome, script}
use Rattle.script_journals.specs.Worlds.{HasGroupForm}
use Rattle.session_archives.specs.Held.{HoldsWorld, HoldsAfter, HoldsOnTheWay, contents_on, HoldsImage}
use Rattle.session_archives.specs.Ready.{IsReadyFor}
use Rattle.session_archives.proofs.Images.{world_at_rest}
use Rattle.backup_top.specs.Courses.{Course, KeepsArchive, at_rest, world_at}

-- scripts keep the archive on the way
abbrev pub ScriptsKeep : Type 0
ScriptsKeep = (w : World) (moments : List ℕ) (lines : List (List ℕ)) → HoldsWorld w → IsReadyFor w moments lines → HoldsOnTheWay w (contents_on w moments lines) (script w moments lines).effects

-- what a crash leaves of effects that keep the archive holds it
abbrev pub ImagesHold : Type 0
ImagesHold = (w : World) (contents : Contents) (effects : List Effect) (image : Stock) → HoldsAfter w contents effects → LeftIn (come effects w.state) image → HoldsImage w contents effects image

-- what is settled is left
settled_left : (s : State) → IsSettled s → LeftIn s (settled_part s)
settled_left s settled = record {
  log = refl;
  tapes = λ k. record { count = s.settled k; low = omega arith; high = omega (arith, settled.tapes k); is = inl refl };
  told = (length s.told, sym (take_all (length s.told) s.told (omega arith)));
}

-- behind a script the media hold the archive
pub keeps_media : ImagesHold → (c : Course) (s : Outcome) → c.after ≡ settled_part (come s.effects c.world.state) → s.world.state ≡ come s.effects c.world.state → HoldsAfter c.world s.world.contents s.effects → HoldsWorld s.world → KeepsArchive c s
keeps_media hold c s back state whole held =
    let settled : IsSettled (come s.effects c.world.state) = subst IsSettled state held.settled in
    let left : LeftIn (come s.effects c.world.state) c.after = subst (LeftIn (come s.effects c.world.state)) (sym back) (settled_left (come s.effects c.world.state) settled) in
    record { world = held; media = hold c.world s.world.contents s.effects c.after whole left }

-- media that hold the archive at the entry, where all is settled
pub holds_world : (w : World) → HasTapes w → ((k : ℕ) → IsTrue (w.setting.present k) → k < w.setting.slots) → IsSettled w.state → HasGroupForm w.groups.open → HoldsArchive w → HoldsWorld w
holds_world w has within settled group held = world_at_rest w held.0 held.1 settled within has group

-- what is left is what a next run finds
pub image_enters : (config later : Settings) (files : ℕ) (present : ℕ → Bool) (log : List Change) (cell next : List Stored) (before contents : Contents) (old image : Stock) (effects : List Effect)
    → (held : HoldsImage (world_at config files present log cell before old) contents effects image) → HoldsArchive (world_at later files present held.changes next contents image)
image_enters config later files present log cell next before contents old image effects held =
    let same : image ≡ seen_in (at_rest (encoded held.changes) image) = λ i. record { log = held.holds.log i; tape = image.tape; told = image.told } in
    (held.records, subst (λ (x : Stock). Holds x (archive_of (world_at later files present held.changes next contents image)) held.records) same held.holds)
