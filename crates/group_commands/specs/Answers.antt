-- WHAT THE END OF A GROUP MAKES of what it finds.
use Rattle.std.specs.Prelude.{List, ◌++◌}
use Rattle.backup_words.specs.declared.command.DumpCommand.{DumpCommand}
use Rattle.backup_replies.specs.Texts.{ok_line}
use Rattle.dump_courses.specs.Scenes.{Scene}
use Rattle.dump_commands.specs.Answers.{Answer}
use Rattle.dump_commands.specs.Starts.{Start}
use Rattle.job_pool.specs.Pools.{PoolCourse}
use Rattle.group_commands.specs.declared.began.Began.{Began}
use Rattle.group_commands.specs.declared.told.ToldJob.{ToldJob}
use Rattle.group_commands.specs.Groups.{GroupView}
use Rattle.group_commands.specs.Begins.{first_point, begins, starts_of, kills_of, group_course, time_behind, contents_behind}
use Rattle.group_commands.specs.Lines.{held_texts, told_jobs}

-- what comes of it, and the dumps that it began
pub record GroupAnswer : Type 0 where
  pub answer : Answer
  pub jobs : List ToldJob

-- what comes of a course of a group, by what became of each held dump
abbrev pub ended : Scene → List DumpCommand → List Began → List Start → PoolCourse → GroupAnswer
ended s held began starts c = record {
  answer = record {
    effects = c.effects;
    reply = held_texts 1 held began c.jobs ++ ok_line;
    log = c.log;
    time = time_behind s.time (first_point s) starts;
    contents = contents_behind s (first_point s) starts;
  };
  jobs = told_jobs 1 began c.jobs;
}

-- what comes of held dumps with their kills, by a schedule
abbrev pub ended_by : Scene → GroupView → List Began → List Start → GroupAnswer
ended_by s g began starts = ended s g.held began starts (group_course s (kills_of began g.kills) g.schedule (first_point s) starts)

-- THE END OF A GROUP: the held dumps begin in order, those that aren't refused take turns by the schedule until none runs, and then it is told how
-- each ended. All effects are one list.
unfoldable pub group_answer : Scene → GroupView → GroupAnswer
group_answer s g = ended_by s g (begins s (first_point s) g.held) (starts_of s (first_point s) g.held)
