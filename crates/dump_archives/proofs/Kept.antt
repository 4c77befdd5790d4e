-- AN ANSWER THAT KEEPS THE ARCHIVE: what is so of each one, be it of a dump or of several.
use Rattle.std.proofs.Common.{◌≡◌, ℕ, List, take}
use Rattle.budb_changes.specs.declared.records.DumpRecordFields.{DumpRecordFields}
use Rattle.budb_changes.specs.declared.change.Change.{Change}
use Rattle.budb_fold.specs.Database.{after}
use Rattle.plant_core.specs.Effects.{come}
use Rattle.dump_forms.specs.Journals.{IsJournalAfter}
use Rattle.dump_courses.specs.Scenes.{Scene, database_in}
use Rattle.dump_commands.specs.Answers.{Contents, Answer}
use Rattle.dump_archives.specs.Asking.{archive_with, archive_in}
use Rattle.dump_archives.specs.Keeping.{IsKnown, KnowsIds, HoldsOnTheWay, EachKeepsListed, ComesSince, AsksBehind}
use Rattle.dump_archives.proofs.Keeping.{Keeps, kept_after}
use Rattle.dump_archives.proofs.Staying.{kept_step}

-- an answer keeps the archive with its contents, and behind it all that a dump asks is so again
pub record KeptBy (s : Scene) (contents : Contents) (a : Answer) : Type 0 where
  pub keeps : Keeps s.slots s.present (a.contents contents) (IsKnown a.time (after a.log).greatest) s.log s.state a.effects a.log
  pub behind : AsksBehind s a (a.contents contents)
  pub others : (d : DumpRecordFields) (name : List ℕ) → IsKnown s.time (database_in s).greatest d → a.contents contents d.id name ≡ contents d.id name
  pub ids : (count : ℕ) (changes : List Change) → IsJournalAfter s.log (take count a.effects) changes → KnowsIds (archive_in s contents) → KnowsIds (archive_with s (a.contents contents) changes (come (take count a.effects) s.state).tape)
  pub since : ComesSince s a contents

pub on_the_way : (s : Scene) (contents : Contents) (a : Answer) → KeptBy s contents a → HoldsOnTheWay s a contents
on_the_way s contents a kept count =
    let x = kept_after s.slots s.present (a.contents contents) (IsKnown a.time (after a.log).greatest) count a.effects s.state s.log a.log kept.keeps in
    record { changes = x.0; journal = x.1; records = x.2.0; holds = x.2.1; known = x.2.2; ids = kept.ids count x.0 x.1 }

pub each_keeps_listed : (s : Scene) (contents : Contents) (a : Answer) → KeptBy s contents a → EachKeepsListed s a.effects
each_keeps_listed s contents a kept count e at =
    let x = kept_step s.slots s.present (a.contents contents) (IsKnown a.time (after a.log).greatest) count a.effects s.state s.log a.log kept.keeps e at in
    record { changes = x.0; journal = x.1; still = x.2 }
