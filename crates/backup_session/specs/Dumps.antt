-- WHAT A DUMP MAKES OF A WORLD: what its definition says of the scene that it finds.
use Rattle.backup_words.specs.declared.command.DumpCommand.{DumpCommand}
use Rattle.dump_courses.specs.Scenes.{Scene}
use Rattle.dump_commands.specs.Answers.{Answer, dump_answer}
use Rattle.backup_session.specs.Worlds.{World, Turn}
use Rattle.backup_session.specs.Turns.{said}

-- what a dump finds of a world: all but what the dumps have, which no call reads
abbrev pub scene_of : World → Scene
scene_of w = record {
  config = w.setting.config;
  present = w.setting.present;
  slots = w.setting.slots;
  log = w.log;
  cell = w.cell;
  state = w.state;
  time = w.time;
}

-- an answer, as a turn: the cell stays as it is
abbrev pub answered : World → Answer → Turn
answered w answer = record (said w answer.reply) { effects = answer.effects; log = answer.log; time = answer.time; contents = answer.contents w.contents }

-- what a dump makes of a world
abbrev pub dump_turn : World → DumpCommand → Turn
dump_turn w command = answered w (dump_answer (scene_of w) command)
