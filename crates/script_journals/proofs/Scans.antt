-- The journal of a scan: each dump that is added is one commit of a change that has bytes.
use Rattle.std.proofs.Common.{ℕ, Bool, true, false, List, [], ◌∷◌, refl}
use Rattle.std.specs.Prelude.{All, nat_lt, if◌then◌else◌}
use Rattle.std.specs.List.{fold}
use Rattle.std.proofs.lemmas.List.Elements.{All-nil, All-cons, All-head, All-tail}
use Rattle.tape_answers.specs.Assembling.{found_in}
use Rattle.budb_changes.specs.declared.records.DumpRecordFields.{DumpRecordFields}
use Rattle.budb_changes.specs.declared.change.Change.{Change}
use Rattle.budb_changes.specs.declared.change.Change.TheVariants as change
use Rattle.budb_changes.specs.Forms.{IsDumpRecord, IsChange}
use Rattle.budb_fold.specs.Database.{after, has_dump}
use Rattle.backup_session.specs.Worlds.{World, before_reply}
use Rattle.backup_session.specs.Turns.{length_with}
use Rattle.backup_session.specs.Scanning.{scans_of, Step, says, has_wrong_parent, added, added_if, with_dump, adding, dumps_turn, slots_turn}
use Rattle.dump_forms.specs.Journals.{IsJournalAfter}
use Rattle.dump_forms.proofs.JournalLaws.{journal_joined}
use Rattle.script_journals.proofs.Following.{own_bytes}

-- of a step from a world
abbrev Follows : List Change → Step → Type 0
Follows log s = IsJournalAfter log s.turn.effects s.turn.log

picked : (log : List Change) (b : Bool) (s t : Step) → Follows log s → Follows log t → Follows log (if b then s else t)
picked log true s t is_s is_t = is_s
picked log false s t is_s is_t = is_t

added_follows : (w : World) (d : DumpRecordFields) → IsDumpRecord d → Follows w.log (added w d)
added_follows w d form =
    picked w.log (nat_lt 268435456 (length_with w (change.Found d ∷ []))) _ _ refl (change.Found d ∷ [], own_bytes (change.Found d ∷ []) (All-cons IsChange (change.Found d) [] form (All-nil IsChange)), refl)

one_follows : (w : World) (full : Bool) (d : DumpRecordFields) → IsDumpRecord d → Follows w.log (added_if w full d)
one_follows w full d form = picked w.log (has_dump (after w.log).listed d.id) _ _ refl (picked w.log (has_wrong_parent d) _ _ refl (picked w.log full _ _ refl (added_follows w d form)))

steps_follow : (w : World) (s : Step) (ds : List DumpRecordFields) → Follows w.log s → All IsDumpRecord ds → Follows w.log (fold (with_dump w) s ds)
steps_follow w s [] so_far forms = so_far
steps_follow w s (d ∷ ds) so_far forms =
    let here = before_reply w s.turn in
    let one = added_if here s.full d in
    steps_follow w (with_dump w s d) ds (journal_joined w.log s.turn.log one.turn.log s.turn.effects one.turn.effects so_far (one_follows here s.full d (All-head IsDumpRecord d ds forms))) (All-tail IsDumpRecord d ds forms)

adding_follows : (w : World) (ds : List DumpRecordFields) → All IsDumpRecord ds → Follows w.log (adding w ds)
unfolding adding
adding_follows w ds forms = steps_follow w (says w false []) ds refl forms

dumps_follow : (w : World) (dbadd : Bool) (ds : List DumpRecordFields) → All IsDumpRecord ds → IsJournalAfter w.log (dumps_turn w dbadd ds).effects (dumps_turn w dbadd ds).log
dumps_follow w true ds forms = adding_follows w ds forms
dumps_follow w false ds forms = refl

pub slots_follow : (w : World) (dbadd : Bool) (slots : List ℕ) → All IsDumpRecord (found_in (scans_of w.state.tape slots)).whole → IsJournalAfter w.log (slots_turn w dbadd slots).effects (slots_turn w dbadd slots).log
unfolding slots_turn
slots_follow w dbadd slots forms = dumps_follow w dbadd (found_in (scans_of w.state.tape slots)).whole forms
