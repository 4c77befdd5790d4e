-- How a dump is a turn: what a session finds is the scene of its world.
use Rattle.std.proofs.Common.{◌≡◌, ℕ, Bool, ◌∙◌, ap}
use Rattle.plant_core.specs.declared.plant.Plant.{Ghosts as Plant}
use Rattle.plant_effects.specs.Runs.{Stays}
use Rattle.cell_core.specs.declared.cell.Cell.{Ghosts as Cell}
use Rattle.budb.specs.Views.{BudbView}
use Rattle.dump_courses.specs.Scenes.{Finds}
use Rattle.dump_commands.specs.declared.told.Dumped.{Dumped}
use Rattle.dump_commands.specs.Answers.{Answer, IsAnswered}
use Rattle.backup_session.specs.declared.groups.Groups.{Groups}
use Rattle.backup_session.specs.Views.{SessionView, ReplyView}
use Rattle.backup_session.specs.Worlds.{World}
use Rattle.backup_session.specs.Dumps.{scene_of, answered}
use Rattle.backup_session.specs.Fitting.{Stands, TurnDone}

module _ {D E : Type 0} (P : Plant D) (C : Cell E) (w : World) (old : D) (site : E) (session : SessionView) (stands : Stands P C w old site session) where
  pub dump_finds : Finds P C (scene_of w) session.config session.budb old site session.time
  dump_finds = record {
    config = stands.config;
    time = stands.time;
    scene = record {
      keeps = stands.keeps;
      state = stands.state;
      slots = stands.slots;
      present = stands.present;
      cell = stands.cell;
    };
  }

  -- it was answered, and so are the groups behind it
  pub dump_turned : (a : Answer) (groups : Groups) (budb : BudbView) (new : D) (there : E) (told : Dumped) (later : SessionView) (reply : ReplyView) → IsAnswered P (scene_of w) a budb old new told → Stays P old new → C.list there ≡ C.list site
      → later.config ≡ session.config → later.budb ≡ budb → later.time ≡ told.time → later.groups ≡ groups → reply.text ≡ told.text
      → TurnDone P C w (record (answered w a) { groups = groups }) old new there later reply
  dump_turned a groups budb new there told later reply is stays list config budb_is time groups_are text = record {
    done = is.done;
    text = text ∙ is.text;
    stands = record {
      keeps = record { form = is.keeps.form; is = is.keeps.is; fold = ap (λ (b : BudbView). b.database) budb_is ∙ is.keeps.fold };
      time = time ∙ is.time;
      config = config ∙ stands.config;
      state = is.state;
      slots = stays.slots ∙ stands.slots;
      present = λ k. ap (λ (p : ℕ → Bool). p k) stays.present ∙ stands.present k;
      groups = groups_are;
      cell = list ∙ stands.cell;
    };
    settles = is.settled;
  }
