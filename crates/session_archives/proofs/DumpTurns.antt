-- The turn of a dump keeps the archive, with what the dump has from its first effect on, and leaves a ready world in order; so does the turn in
-- which a group ends.
use Rattle.std.proofs.Common.{List, length, refl}
use Rattle.std.specs.Prelude.{All, None}
use Rattle.plant_core.specs.Effects.{come}
use Rattle.budb_changes.specs.declared.records.DumpRecordFields.{DumpRecordFields}
use Rattle.dump_forms.specs.Journals.{IsJournalAfter}
use Rattle.dump_courses.specs.Scenes.{Scene}
use Rattle.backup_words.specs.declared.command.DumpCommand.{DumpCommand}
use Rattle.dump_commands.specs.Forms.{IsSceneForm, IsCommandForm, AreShort, AreVolumes}
use Rattle.dump_commands.specs.Answers.{Contents, Answer, dump_answer}
use Rattle.group_commands.specs.Groups.{GroupView}
use Rattle.group_commands.specs.Answers.{GroupAnswer, group_answer}
use Rattle.group_laws.specs.Forms.{IsGroupForm, ArePortsApart}
use Rattle.dump_archives.specs.Asking.{AsksOfScene}
use Rattle.dump_archives.specs.Keeping.{HoldsOnTheWay, EachKeepsListed, ComesSince, AsksBehind}
use Rattle.backup_words.specs.declared.command.Command.TheVariants.{Dump}
use Rattle.backup_session.specs.Bounded.{HasTapes}
use Rattle.backup_session.specs.declared.groups.Groups.{Groups}
use Rattle.backup_session.specs.Worlds.{World, Turn, archive_of, last_cell, before_reply}
use Rattle.backup_session.specs.Dumps.{scene_of, answered, dump_turn}
use Rattle.backup_session.specs.Groups.{ended_turn}
use Rattle.command_forms.specs.Forms.{HasForms}
use Rattle.script_journals.specs.Worlds.{HasGroupForm, IsWorldForm}
use Rattle.script_journals.proofs.TurnForms.{scene_form}
use Rattle.session_archives.specs.Ready.{IsInOrder, IsReady}
use Rattle.session_archives.specs.Since.{CameSince}
use Rattle.session_archives.proofs.Kept.{Finds}
use Rattle.session_archives.proofs.Knowing.{known_whole}
use Rattle.session_archives.proofs.Leading.{LeadsTurn}
use Rattle.session_archives.proofs.Orders.{fair_to_any}

-- what is so of each dump: the laws of the crates below
pub record DumpLaws : Type 0 where
  pub bytes : (s : Scene) (a : DumpCommand) → IsSceneForm s → IsCommandForm a → IsJournalAfter s.log (dump_answer s a).effects (dump_answer s a).log
  pub volumes : (s : Scene) (a : DumpCommand) (contents : Contents) → IsSceneForm s → AreVolumes contents → AreVolumes ((dump_answer s a).contents contents)
  pub way : (s : Scene) (a : DumpCommand) (contents : Contents) (records : List DumpRecordFields) → IsCommandForm a → AsksOfScene s contents records → HoldsOnTheWay s (dump_answer s a) contents
  pub listed : (s : Scene) (a : DumpCommand) (contents : Contents) (records : List DumpRecordFields) → IsCommandForm a → AsksOfScene s contents records → EachKeepsListed s (dump_answer s a).effects
  pub behind : (s : Scene) (a : DumpCommand) (contents : Contents) (records : List DumpRecordFields) → IsCommandForm a → AsksOfScene s contents records → AsksBehind s (dump_answer s a) ((dump_answer s a).contents contents)

-- what is so of the end of each group: those on groups
pub record EndLaws : Type 0 where
  pub bytes : (s : Scene) (g : GroupView) → IsSceneForm s → All IsCommandForm g.held → IsJournalAfter s.log (group_answer s g).answer.effects (group_answer s g).answer.log
  pub volumes : (s : Scene) (g : GroupView) (contents : Contents) → IsSceneForm s → AreVolumes contents → AreVolumes ((group_answer s g).answer.contents contents)
  pub way : (s : Scene) (g : GroupView) (contents : Contents) (records : List DumpRecordFields) → IsGroupForm g → ArePortsApart s.config.entries → AsksOfScene s contents records → HoldsOnTheWay s (group_answer s g).answer contents
  pub listed : (s : Scene) (g : GroupView) (contents : Contents) (records : List DumpRecordFields) → IsGroupForm g → ArePortsApart s.config.entries → AsksOfScene s contents records → EachKeepsListed s (group_answer s g).answer.effects
  pub behind : (s : Scene) (g : GroupView) (contents : Contents) (records : List DumpRecordFields) → IsGroupForm g → ArePortsApart s.config.entries → AsksOfScene s contents records
      → AsksBehind s (group_answer s g).answer ((group_answer s g).answer.contents contents)

-- ---- what dumps ask

module _ (w : World) (has : HasTapes w) (finds : Finds w) (group : HasGroupForm w.groups.open) (ready : IsReady w) where
  -- a world that is held and ready has its forms
  pub ready_form : IsWorldForm w
  ready_form = record {
    tapes = has;
    log = finds.holds.1.seen.changes;
    cell = ready.order.form;
    contents = ready.order.fit.volumes;
    time = ready.order.four;
    name = ready.name;
    ports = ready.ports;
    group = group;
  }

  asks : AsksOfScene (scene_of w) w.contents finds.holds.0
  asks = record {
    form = scene_form w ready_form;
    holds = finds.holds.1;
    settled = finds.settled;
    short = has.records;
    cell = ready.order.form.list;
    fair = ready.order.fit.fair finds.holds.0 finds.holds.1.seen.kept.dumps;
    made = ready.order.made;
    named = ready.order.fit.named;
    heads = ready.order.fit.heads;
  }

-- ---- what dumps make

-- What is so of an answer to what a world has, be it that of a dump or of the end of a group.
record AnswerKeeps (w : World) (answer : Answer) : Type 0 where
  pub bytes : IsJournalAfter w.log answer.effects answer.log
  pub volumes : AreVolumes (answer.contents w.contents)
  pub way : HoldsOnTheWay (scene_of w) answer w.contents
  pub listed : EachKeepsListed (scene_of w) answer.effects
  pub behind : AsksBehind (scene_of w) answer (answer.contents w.contents)

module _ (w : World) (finds : Finds w) (ready : IsReady w) (answer : Answer) (keeps : AnswerKeeps w answer) (groups : Groups) where
  -- the answer as a turn, behind which these groups are left
  abbrev its_turn : Turn
  its_turn = record (answered w answer) { groups = groups }

  finds_dumped : Finds (before_reply w its_turn)
  finds_dumped = record { holds = (keeps.behind.records, keeps.behind.asks.holds); settled = keeps.behind.asks.settled; within = finds.within }

  leads_dumped : LeadsTurn w its_turn
  leads_dumped = record {
    way = λ count.
        (let held = keeps.way count in
        record { changes = held.changes; journal = held.journal; records = held.records; holds = held.holds; ids = held.ids });
    listed = λ count e at.
        (let kept = keeps.listed count e at in
        record { changes = kept.changes; journal = kept.journal; still = kept.still });
    journal = keeps.bytes;
    state = refl;
    setting = refl;
    finds = finds_dumped;
    ids = λ known.
        (let all = keeps.way (length answer.effects) in
        known_whole w.setting.slots w.setting.present answer.effects w.state w.log answer.log all.changes all.journal keeps.bytes (all.ids known));
  }

  short_dumped : AreShort (come answer.effects w.state).tape
  short_dumped = keeps.behind.asks.short

  order_dumped : IsInOrder w.cell its_turn.time (archive_of (before_reply w its_turn))
  order_dumped =
      let then = archive_of (before_reply w its_turn) in
      record {
        form = ready.order.form;
        four = keeps.behind.asks.form.time;
        made = keeps.behind.asks.made;
        fit = record {
          fair = λ records are. fair_to_any w.cell answer.time then keeps.behind.records records keeps.behind.asks.holds.seen.kept.dumps are.sound keeps.behind.asks.fair;
          named = keeps.behind.asks.named;
          heads = keeps.behind.asks.heads;
          volumes = keeps.volumes;
        };
      }

-- ---- as a command says it

module _ (laws : DumpLaws) (w : World) (has : HasTapes w) (finds : Finds w) (group : HasGroupForm w.groups.open) (ready : IsReady w) where
  dump_keeps : (a : DumpCommand) → IsCommandForm a → AnswerKeeps w (dump_answer (scene_of w) a)
  dump_keeps a form = (let asked = asks w has finds group ready in record {
    bytes = laws.bytes (scene_of w) a asked.form form;
    volumes = laws.volumes (scene_of w) a w.contents asked.form ready.order.fit.volumes;
    way = laws.way (scene_of w) a w.contents finds.holds.0 form asked;
    listed = laws.listed (scene_of w) a w.contents finds.holds.0 form asked;
    behind = laws.behind (scene_of w) a w.contents finds.holds.0 form asked;
  })

  pub dump_leads : (command : DumpCommand) → HasForms (Dump command) → LeadsTurn w (dump_turn w command)
  dump_leads command form = leads_dumped w finds ready (dump_answer (scene_of w) command) (dump_keeps command (record { set = form.0; level = form.1 })) w.groups

  pub dump_short : (command : DumpCommand) → HasForms (Dump command) → AreShort (come (dump_turn w command).effects w.state).tape
  dump_short command form = short_dumped w finds ready (dump_answer (scene_of w) command) (dump_keeps command (record { set = form.0; level = form.1 })) w.groups

  pub dump_order : (command : DumpCommand) → HasForms (Dump command) → let t = dump_turn w command in IsInOrder (last_cell w.cell t.cells) t.time (archive_of (before_reply w t))
  dump_order command form = order_dumped w finds ready (dump_answer (scene_of w) command) (dump_keeps command (record { set = form.0; level = form.1 })) w.groups

module _ (laws : EndLaws) (w : World) (has : HasTapes w) (finds : Finds w) (group : HasGroupForm w.groups.open) (ready : IsReady w) (g : GroupView) (form : IsGroupForm g) where
  abbrev its_answer : GroupAnswer
  its_answer = group_answer (scene_of w) g

  end_keeps : AnswerKeeps w its_answer.answer
  end_keeps = (let asked = asks w has finds group ready in record {
    bytes = laws.bytes (scene_of w) g asked.form form.commands;
    volumes = laws.volumes (scene_of w) g w.contents asked.form ready.order.fit.volumes;
    way = laws.way (scene_of w) g w.contents finds.holds.0 form ready.apart asked;
    listed = laws.listed (scene_of w) g w.contents finds.holds.0 form ready.apart asked;
    behind = laws.behind (scene_of w) g w.contents finds.holds.0 form ready.apart asked;
  })

  pub end_leads : LeadsTurn w (ended_turn w (group_answer (scene_of w) g))
  end_leads = leads_dumped w finds ready its_answer.answer end_keeps (record { «open» = None; jobs = its_answer.jobs })

  pub end_short : AreShort (come (group_answer (scene_of w) g).answer.effects w.state).tape
  end_short = short_dumped w finds ready its_answer.answer end_keeps (record { «open» = None; jobs = its_answer.jobs })

  pub end_order : let t = ended_turn w (group_answer (scene_of w) g) in IsInOrder (last_cell w.cell t.cells) t.time (archive_of (before_reply w t))
  end_order = order_dumped w finds ready its_answer.answer end_keeps (record { «open» = None; jobs = its_answer.jobs })

-- ---- what the archive came of

-- what is so of each dump, and of the end of each group
pub record SinceLaws : Type 0 where
  pub dumps : (s : Scene) (a : DumpCommand) (contents : Contents) (records : List DumpRecordFields) → IsCommandForm a → AsksOfScene s contents records → ComesSince s (dump_answer s a) contents
  pub ends : (s : Scene) (g : GroupView) (contents : Contents) (records : List DumpRecordFields) → IsGroupForm g → ArePortsApart s.config.entries → AsksOfScene s contents records → ComesSince s (group_answer s g).answer contents

module _ (laws : SinceLaws) (w : World) (has : HasTapes w) (finds : Finds w) (group : HasGroupForm w.groups.open) (ready : IsReady w) where
  pub dump_came : (command : DumpCommand) → HasForms (Dump command) → CameSince w (before_reply w (dump_turn w command))
  dump_came command form =
      let since = laws.dumps (scene_of w) command w.contents finds.holds.0 (record { set = form.0; level = form.1 }) (asks w has finds group ready) in
      record { known = since.known; comes = since.comes }

  pub end_came : (g : GroupView) → IsGroupForm g → CameSince w (before_reply w (ended_turn w (group_answer (scene_of w) g)))
  end_came g form =
      let since = laws.ends (scene_of w) g w.contents finds.holds.0 form ready.apart (asks w has finds group ready) in
      record { known = since.known; comes = since.comes }
