-- How a command in a group, and one on groups, is a turn.
use Rattle.std.proofs.Common.{◌≡◌, inl, ℕ, Bool, true, false, Option, Some, None, List, [], ◌∷◌, refl, sym, ◌∙◌, ap, subst}
use Rattle.std.specs.Prelude.{is_some, codes, Result, Ok, Err, IfOk}
use Rattle.plant_core.specs.declared.plant.Plant.{Ghosts as Plant}
use Rattle.cell_core.specs.declared.cell.Cell.{Ghosts as Cell}
use Rattle.cell_core.specs.declared.stored.Stored.{Stored}
use Rattle.budb_changes.specs.declared.records.DumpRecordFields.{DumpRecordFields}
use Rattle.budb_fold.specs.declared.database.Database.{Database}
use Rattle.volume_sets.specs.declared.sets.SetEntry.{SetEntry}
use Rattle.volume_sets.specs.Sets.{entries_of}
use Rattle.dump_courses.proofs.Ahead.{standing_ahead}
use Rattle.backup_words.specs.declared.command.Command.{Command}
use Rattle.backup_words.specs.declared.command.Command.TheVariants as commands
use Rattle.backup_words.specs.declared.command.CellCommand.{CellCommand}
use Rattle.backup_words.specs.declared.command.DatabaseCommand.{DatabaseCommand}
use Rattle.backup_words.specs.declared.command.TapeCommand.{TapeCommand}
use Rattle.backup_words.specs.declared.command.TapeCommand.TheVariants as tapes
use Rattle.backup_words.specs.declared.command.GroupCommand.{GroupCommand}
use Rattle.backup_words.specs.declared.command.GroupCommand.TheVariants as groups
use Rattle.backup_words.specs.declared.command.RestoreCommand.{RestoreCommand}
use Rattle.backup_words.specs.declared.command.RestoredVolumes.{RestoredVolumes}
use Rattle.backup_words.specs.declared.command.RestoredVolumes.TheVariants.{One, OfDisk, OfSet}
use Rattle.backup_words.specs.declared.command.Wanted.{Wanted}
use Rattle.restore_commands.specs.Answers.{Manner}
use Rattle.restore_commands.specs.Choices.{set_choices, disk_choices}
use Rattle.restore_commands.specs.Leaving.{MayPutEach, MayPutNamed}
use Rattle.backup_words.specs.FirstWords.{command_word}
use Rattle.backup_replies.specs.declared.refusals.Refusal.TheVariants.{InGroup, NoGroup}
use Rattle.backup_replies.specs.Texts.{refused_word}
use Rattle.group_commands.specs.Groups.{GroupView, Told}
use Rattle.group_commands.specs.Answers.{group_answer}
use Rattle.backup_session.specs.declared.groups.Groups.{Groups}
use Rattle.backup_session.specs.Views.{SessionView, ReplyView}
use Rattle.backup_session.specs.Worlds.{World, Turn}
use Rattle.backup_session.specs.Turns.{said}
use Rattle.backup_session.specs.Asks.{asks_archive}
use Rattle.backup_session.specs.Dumps.{scene_of}
use Rattle.backup_session.specs.Restores.{manner_at, MayPutVolumes, MayRestore}
use Rattle.backup_session.specs.Groups.{with_open, left_open, barred, no_group, ended_turn, group_in, in_group, group_alone, is_end, ends_group, LeavesGroups}
use Rattle.backup_session.specs.Machine.{alone, done_in, done}
use Rattle.backup_session.specs.Fitting.{Stands, TurnDone, SomeRestore, OnGroups}

-- ---- a turn of the groups alone

-- a reply, and groups
abbrev pub told_turn : World → Turn → Turn
told_turn w t = record (said w t.reply) { groups = t.groups }

-- it was done
pub groups_turned : {D E : Type 0} (P : Plant D) (C : Cell E) (w : World) (t : Turn) (old : D) (site : E) (session later : SessionView) (reply : ReplyView) → Stands P C w old site session → P.sound old → t ≡ told_turn w t → OnGroups t session later reply
    → TurnDone P C w t old old site later reply
groups_turned P C w t old site session later reply stands sound is on = subst (λ (x : Turn). TurnDone P C w x old old site later reply) (sym is) (record {
  done = standing_ahead P old w.state sound (λ _. stands.state);
  text = on.text;
  stands = subst (λ (s : SessionView). Stands P C (record w { groups = t.groups }) old site s) (sym on.session) (record {
    keeps = stands.keeps;
    time = stands.time;
    config = stands.config;
    state = stands.state;
    slots = stands.slots;
    present = stands.present;
    groups = refl;
    cell = stands.cell;
  });
  settles = λ whole. whole;
})

-- a command on groups outside of one is such a turn
pub alone_told : (w : World) (command : GroupCommand) → group_alone w command ≡ told_turn w (group_alone w command)
alone_told w (groups.Together schedule) = refl
alone_told w (groups.Kill job after) = refl
alone_told w groups.End = refl
alone_told w groups.Jobs = refl

-- and so is each in one but its end
told_in : (w : World) (g : GroupView) (command : GroupCommand) → is_end command ≡ false → group_in w g command ≡ told_turn w (group_in w g command)
told_in w g (groups.Together schedule) more = refl
told_in w g (groups.Kill job after) more = refl
told_in w g groups.End more = absurd (cc)
told_in w g groups.Jobs more = refl

pub group_told : (w : World) (g : GroupView) (command : Command) → ends_group command ≡ false → in_group w g command ≡ told_turn w (in_group w g command)
group_told w g (commands.Database command) more = refl
group_told w g (commands.Tape command) more = refl
group_told w g (commands.Cell command) more = refl
group_told w g (commands.Dump command) more = refl
group_told w g (commands.Group command) more = told_in w g command more
group_told w g (commands.Restore command) more = refl

-- the end of a group
end_of : (w : World) (g : GroupView) (command : GroupCommand) → is_end command ≡ true → group_in w g command ≡ ended_turn w (group_answer (scene_of w) g)
end_of w g (groups.Together schedule) ends = absurd (cc)
end_of w g (groups.Kill job after) ends = absurd (cc)
end_of w g groups.End ends = refl
end_of w g groups.Jobs ends = absurd (cc)

pub group_ends : (w : World) (g : GroupView) (command : Command) → ends_group command ≡ true → in_group w g command ≡ ended_turn w (group_answer (scene_of w) g)
group_ends w g (commands.Database command) ends = absurd (cc)
group_ends w g (commands.Tape command) ends = absurd (cc)
group_ends w g (commands.Cell command) ends = absurd (cc)
group_ends w g (commands.Dump command) ends = absurd (cc)
group_ends w g (commands.Group command) ends = end_of w g command ends
group_ends w g (commands.Restore command) ends = absurd (cc)

-- ---- what each line leaves

pub same_some : (v g : GroupView) → Some v ≡ Some g → v ≡ g
same_some v g is = cc

-- the group that is open has taken a line
pub told_left : (w : World) (all new : Groups) (v g later : GroupView) (text : List ℕ) (takes : GroupView → Told) → all ≡ w.groups → w.groups.open ≡ Some g → all.open ≡ Some v → new ≡ with_open later all
    → record { group = later; text = text } ≡ takes v → LeavesGroups (left_open w (takes g)) new text
told_left w all new v g later text takes same opened found behind told =
    let is : v ≡ g = same_some v g (sym found ∙ ap (λ (x : Groups). x.open) same ∙ opened) in
    let so : record { group = later; text = text } ≡ takes g = told ∙ ap takes is in
    record { groups = behind ∙ (λ i. with_open (so i).group (same i)); reply = ap (λ (t : Told). t.text) so }

-- a line was refused
pub barred_left : {F : Type 0} (w : World) (command : Command) (all : Groups) (r : Result (List ℕ) F) → all ≡ w.groups → IfOk r (λ text. text ≡ refused_word InGroup (command_word command)) → IfOk r (LeavesGroups (barred w command) all)
barred_left w command all (Ok text) same is = record { groups = same; reply = is }
barred_left w command all (Err e) same is = tt

pub no_group_left : {F : Type 0} (w : World) (command : GroupCommand) (all : Groups) (word : List ℕ) (r : Result (List ℕ) F) → all ≡ w.groups → command_word (commands.Group command) ≡ word → IfOk r (λ text. text ≡ refused_word NoGroup word)
    → IfOk r (LeavesGroups (no_group w command) all)
no_group_left w command all word (Ok text) same of is = record { groups = same; reply = is ∙ ap (refused_word NoGroup) (sym of) }
no_group_left w command all word (Err e) same of is = tt

pub barred_word : {F : Type 0} (w : World) (command : GroupCommand) (all : Groups) (word : List ℕ) (r : Result (List ℕ) F) → all ≡ w.groups → command_word (commands.Group command) ≡ word → IfOk r (λ text. text ≡ refused_word InGroup word)
    → IfOk r (LeavesGroups (barred w (commands.Group command)) all)
barred_word w command all word (Ok text) same of is = record { groups = same; reply = is ∙ ap (refused_word InGroup) (sym of) }
barred_word w command all word (Err e) same of is = tt

pub together_word : (schedule : ℕ) → command_word (commands.Group (groups.Together schedule)) ≡ codes "together"
unfolding command_word
together_word schedule = refl

pub jobs_word : command_word (commands.Group groups.Jobs) ≡ codes "jobs"
unfolding command_word
jobs_word = refl

pub kill_word : (job after : ℕ) → command_word (commands.Group (groups.Kill job after)) ≡ codes "kill"
unfolding command_word
kill_word job after = refl

pub end_word : command_word (commands.Group groups.End) ≡ codes "end"
unfolding command_word
end_word = refl

-- lines that a group doesn't take
module _ (w : World) (g : GroupView) (command : Command) where
  pub bars_database : (c : DatabaseCommand) → command ≡ commands.Database c → in_group w g command ≡ barred w command
  bars_database c is = subst (λ (x : Command). in_group w g x ≡ barred w x) (sym is) refl

  pub bars_tape : (c : TapeCommand) → command ≡ commands.Tape c → in_group w g command ≡ barred w command
  bars_tape c is = subst (λ (x : Command). in_group w g x ≡ barred w x) (sym is) refl

  pub bars_cell : (c : CellCommand) → command ≡ commands.Cell c → in_group w g command ≡ barred w command
  bars_cell c is = subst (λ (x : Command). in_group w g x ≡ barred w x) (sym is) refl

  pub bars_restore : (c : RestoreCommand) → command ≡ commands.Restore c → in_group w g command ≡ barred w command
  bars_restore c is = subst (λ (x : Command). in_group w g x ≡ barred w x) (sym is) refl

-- ---- by the group that is open

pub done_open : (w : World) (g : GroupView) (command : Command) → w.groups.open ≡ Some g → in_group w g command ≡ done w command
done_open w g command is = sym (ap (λ (o : Option GroupView). done_in w o command) is)

pub done_alone : (w : World) (command : Command) → w.groups.open ≡ None → alone w command ≡ done w command
done_alone w command is = sym (ap (λ (o : Option GroupView). done_in w o command) is)

-- which one it is
some_open : (o : Option GroupView) → is_some o ≡ true → (g : GroupView) × (o ≡ Some g)
some_open (Some g) is = (g, refl)
some_open None is = absurd (cc)

none_open : (o : Option GroupView) → is_some o ≡ false → o ≡ None
none_open (Some g) is = absurd (cc)
none_open None is = refl

module _ {D E : Type 0} (P : Plant D) (C : Cell E) (w : World) (old : D) (site : E) (session : SessionView) (stands : Stands P C w old site session) (found : Bool) (is : found ≡ is_some session.groups.open) where
  there : found ≡ is_some w.groups.open
  there = is ∙ ap (λ (all : Groups). is_some all.open) stands.groups

  pub which_open : found ≡ true → (g : GroupView) × (w.groups.open ≡ Some g)
  which_open so = some_open w.groups.open (sym there ∙ so)

  pub no_open : found ≡ false → w.groups.open ≡ None
  no_open so = none_open w.groups.open (sym there ∙ so)

-- ---- a restore in a group is refused

-- a command on groups asks no archive
pub groups_ask_none : (command : GroupCommand) → asks_archive (commands.Group command) ≡ false
groups_ask_none (groups.Together schedule) = refl
groups_ask_none (groups.Kill job after) = refl
groups_ask_none groups.End = refl
groups_ask_none groups.Jobs = refl

-- nor does one on tapes
pub tapes_ask_none : (command : TapeCommand) → asks_archive (commands.Tape command) ≡ false
tapes_ask_none (tapes.Labeltape name pname offset slot) = refl
tapes_ask_none (tapes.Readlabel offset slot) = refl
tapes_ask_none (tapes.Scantape dbadd offset) = refl
tapes_ask_none (tapes.Savedb offset) = refl
tapes_ask_none (tapes.Restoredb offset) = refl

module _ {D E : Type 0} (P : Plant D) (C : Cell E) (w : World) (g : GroupView) (old new : D) (site : E) (session : SessionView) (reply : ReplyView) where
  -- its reply is that of a restore that puts nothing
  pub barred_restore : (command : Command) → asks_archive command ≡ true → TurnDone P C w (in_group w g command) old new site session reply → SomeRestore P C w old new site session reply
  barred_restore (commands.Database command) asks turned = absurd (cc)
  barred_restore (commands.Tape command) asks turned = (let both : false ≡ true = sym (tapes_ask_none command) ∙ asks in absurd (cc))
  barred_restore (commands.Cell command) asks turned = absurd (cc)
  barred_restore (commands.Dump command) asks turned = absurd (cc)
  barred_restore (commands.Group command) asks turned = (let both : false ≡ true = sym (groups_ask_none command) ∙ asks in absurd (cc))
  barred_restore (commands.Restore command) asks turned = record { answer = record { reply = (in_group w g (commands.Restore command)).reply; cells = [] }; turned = turned }

-- nothing was put
none_put : (manner : Manner) (choices : List Wanted) (s : List Stored) → MayPutEach manner choices s s
none_put manner [] s = refl
none_put manner (c ∷ choices) s = (s, inl refl, none_put manner choices s)

none_named : (manner : Manner) (listed : List DumpRecordFields) (entries : Option (List SetEntry)) (s : List Stored) → MayPutNamed manner listed entries s s
none_named manner listed None s = refl
none_named manner listed (Some entries) s = none_put manner (set_choices listed entries) s

none_of : (db : Database) (manner : Manner) (volumes : RestoredVolumes) (s : List Stored) → MayPutVolumes db manner volumes s s
none_of db manner (One wanted) s = inl refl
none_of db manner (OfDisk disk) s = none_put manner (disk_choices db.listed disk) s
none_of db manner (OfSet name) s = none_named manner db.listed (entries_of name db.sets) s

pub none_restored : (db : Database) (time : ℕ) (command : RestoreCommand) (old new : List Stored) → new ≡ old → MayRestore db time command old new
none_restored db time command old new same = subst (λ (l : List Stored). MayRestore db time command old l) (sym same) (none_of db (manner_at time command) command.volumes old)
