-- A session over a plant begins in the world in which the plant and the cell stand, and leaves them in one.
use Rattle.std.proofs.Common.{◌≡◌, ℕ, ◌+◌, ◌-◌, Bool, List, length, take, Some, sym, ◌∙◌, ap, subst, arith}
use Rattle.std.proofs.lemmas.List.{take_all}
use Rattle.media_core.specs.Media.{Image}
use Rattle.plant_core.specs.declared.plant.Plant.{Ghosts as Plant}
use Rattle.plant_core.specs.Crashes.{State, Alike, IsSettled, seen_in, settled_part}
use Rattle.plant_core.specs.Stock.{Stock}
use Rattle.plant_effects.specs.Runs.{state_of}
use Rattle.plant_media.specs.Stock.{stock_of}
use Rattle.plant_media.specs.Slots.{slots_here}
use Rattle.cell_core.specs.declared.cell.Cell.{Ghosts as Cell}
use Rattle.cell_core.specs.declared.stored.Stored.{Stored}
use Rattle.tape_config.specs.Configs.{Settings}
use Rattle.budb_changes.specs.declared.change.Change.{Change}
use Rattle.budb_changes.specs.Bytes.{encoded}
use Rattle.budb_changes.specs.Forms.{AreChanges}
use Rattle.budb_changes.proofs.Logs.{same_changes}
use Rattle.backup_session.specs.Worlds.{World, Setting, Contents}
use Rattle.backup_session.specs.Views.{SessionView}
use Rattle.backup_session.specs.Opening.{opened, no_groups, first_time}
use Rattle.backup_session.specs.Fitting.{Fits, Stands as StandsThere}
use Rattle.backup_session.proofs.Settling.{stands_fit}
use Rattle.rehearsal.specs.Playing.{StandsOn}
use Rattle.rehearsal.specs.Sessions.{Stands, HasFiles}

-- ---- states

pub alike_same : (s t : State) → Alike s t → s ≡ t
alike_same s t alike = sym (λ i. record { log = alike.log i; tape = λ k. alike.tape k i; told = alike.told i; log_settled = alike.log_settled i; settled = λ k. alike.settled k i })

pub settled_whole : (s : State) → IsSettled s → settled_part s ≡ seen_in s
settled_whole s settled = λ i. record {
  log = Some ((ap (λ (n : ℕ). take n s.log) settled.log ∙ take_all (length s.log) s.log (omega arith)) i);
  tape = λ k. (ap (λ (n : ℕ). take n (s.tape k)) (settled.tapes k) ∙ take_all (length (s.tape k)) (s.tape k) (omega arith)) i;
  told = s.told;
}

some_same : (a b : List ℕ) → Some a ≡ Some b → a ≡ b
some_same a b same = cc

-- settled states of which reads give the same are the same
alike_seen : (s t : State) → IsSettled s → IsSettled t → s.log ≡ t.log → ((k : ℕ) → s.tape k ≡ t.tape k) → s.told ≡ t.told → Alike s t
alike_seen s t settled_s settled_t log tape told = record {
  log = sym log;
  tape = λ k. sym (tape k);
  told = sym told;
  log_settled = settled_t.log ∙ ap length (sym log) ∙ sym settled_s.log;
  settled = λ k. settled_t.tapes k ∙ ap length (sym (tape k)) ∙ sym (settled_s.tapes k);
}

-- ---- a plant

world_same : (w : World) (config : Settings) (slots : ℕ) (here : ℕ → Bool) (cell : List Stored) (shown : State) → config ≡ w.setting.config → slots ≡ w.setting.slots → ((k : ℕ) → here k ≡ w.setting.present k) → cell ≡ w.cell
    → w.time ≡ first_time w.log w.cell → w.groups ≡ no_groups → w.state ≡ shown → opened (record { config = config; slots = slots; present = here }) w.log cell w.contents shown ≡ w
world_same w config slots here cell shown config_is slots_is here_is cell_is time_is groups_is state_is =
    let time : first_time w.log cell ≡ w.time = ap (first_time w.log) cell_is ∙ sym time_is in
    λ i. record w { setting = record { config = config_is i; slots = slots_is i; present = λ k. here_is k i }; time = time i; cell = cell_is i; state = sym state_is i; groups = sym groups_is i }

module _ {D E : Type 0} (P : Plant D) (C : Cell E) where
  -- the session that is opened fits the world
  pub opened_stands : (w : World) (config : Settings) (old new : D) (site site2 : E) (session : SessionView) → StandsOn P C w old site → config ≡ w.setting.config → w.time ≡ first_time w.log w.cell → w.groups ≡ no_groups
      → (log : List Change) → AreChanges log → (state_of P old).log ≡ encoded log
      → ((contents : Contents) → StandsThere P C (opened (record { config = config; slots = (P.view old).slots; present = (P.view old).present }) log (C.list site) contents (state_of P old)) new site2 session)
      → Fits P C w new site2 session
  opened_stands w config old new site site2 session stands config_is time_is groups_is log form is opens =
      let state = alike_same w.state (state_of P old) stands.state in
      let same : log ≡ w.log = same_changes log w.log form stands.form (sym is ∙ stands.state.log ∙ stands.journal) in
      let setting : Setting = record { config = config; slots = (P.view old).slots; present = (P.view old).present } in
      let fits = stands_fit P C (opened setting log (C.list site) w.contents (state_of P old)) new site2 session (subst IsSettled state stands.settled) (opens w.contents) in
      let there = world_same w config (P.view old).slots (P.view old).present (C.list site) (state_of P old) config_is stands.slots stands.present stands.cell time_is groups_is state in
      subst (λ (x : World). Fits P C x new site2 session) there
      (subst (λ (l : List Change). Fits P C (opened (record { config = config; slots = (P.view old).slots; present = (P.view old).present }) l (C.list site) w.contents (state_of P old)) new site2 session) same fits)

  -- what a session leaves
  pub left_stands : (w : World) (plant : D) (site : E) (session : SessionView) → Fits P C w plant site session → StandsOn P C w plant site
  left_stands w plant site session fits = record {
    form = fits.keeps.form;
    journal = fits.keeps.is;
    state = fits.state;
    settled = fits.settled;
    slots = fits.slots;
    present = fits.present;
    cell = fits.cell;
  }

-- ---- media

-- the plant that is opened on media stands in their world
pub opened_alike : (w : World) (image : Image) (cell : List Stored) (shown : State) → Stands w image cell → stock_of image ≡ seen_in shown → IsSettled shown → Alike w.state shown
opened_alike w image cell shown stands is settled =
    alike_seen w.state shown stands.settled settled (some_same w.state.log shown.log (sym stands.log ∙ ap (λ (x : Stock). x.log) is)) (λ k. sym (stands.tape k) ∙ ap (λ (x : Stock). x.tape k) is) (sym stands.told ∙ ap (λ (x : Stock). x.told) is)

-- and the media that it hands back stand in the world in which it stood
pub back_stands : (w : World) (image : Image) (cell : List Stored) (shown : State) → AreChanges w.log → w.state.log ≡ encoded w.log → IsSettled w.state → Alike w.state shown → cell ≡ w.cell → stock_of image ≡ settled_part shown → Stands w image cell
back_stands w image cell shown form journal settled alike cell_is is =
    let state = alike_same w.state shown alike in
    let whole : stock_of image ≡ seen_in w.state = is ∙ ap settled_part (sym state) ∙ settled_whole w.state settled in
    record {
      form = form;
      journal = journal;
      settled = settled;
      log = ap (λ (x : Stock). x.log) whole;
      tape = λ k. ap (λ (x : Stock). x.tape k) whole;
      told = ap (λ (x : Stock). x.told) whole;
      cell = cell_is;
    }

-- the plant that is opened on the files of a world, beside its cell
pub record Opened (w : World) (image : Image) (cell : List Stored) (shown : State) (count slots : ℕ) (present here : ℕ → Bool) : Type 0 where
  pub alike : Alike w.state shown
  pub slots_are : slots ≡ w.setting.slots
  pub here_are : (k : ℕ) → here k ≡ w.setting.present k

pub files_opened : (w : World) (image : Image) (cell : List Stored) (shown : State) (count : ℕ) (present : ℕ → Bool) → Stands w image cell → HasFiles w count present → stock_of image ≡ seen_in shown → IsSettled shown
    → Opened w image cell shown count (count - 1) present (slots_here present)
unfolding slots_here
files_opened w image cell shown count present stands files is settled = record { alike = opened_alike w image cell shown stands is settled; slots_are = files.slots; here_are = files.present }

pub files_left : (w : World) (count : ℕ) (present : ℕ → Bool) → count - 1 ≡ w.setting.slots → ((k : ℕ) → slots_here present k ≡ w.setting.present k) → HasFiles w count present
unfolding slots_here
files_left w count present slots here = record { slots = slots; present = here }

-- other files that read the same stand in the same world
pub stands_same : (w : World) (image other : Image) (cell : List Stored) → Stands w image cell → stock_of other ≡ stock_of image → Stands w other cell
stands_same w image other cell stands same = record {
  form = stands.form;
  journal = stands.journal;
  settled = stands.settled;
  log = ap (λ (x : Stock). x.log) same ∙ stands.log;
  tape = λ k. ap (λ (x : Stock). x.tape k) same ∙ stands.tape k;
  told = ap (λ (x : Stock). x.told) same ∙ stands.told;
  cell = stands.cell;
}

pub files_same : (w : World) (count others : ℕ) (present here : ℕ → Bool) → HasFiles w count present → others - 1 ≡ count - 1 → ((k : ℕ) → here (k + 1) ≡ present (k + 1)) → HasFiles w others here
files_same w count others present here files slots tapes = record { slots = slots ∙ files.slots; present = λ k. tapes k ∙ files.present k }
