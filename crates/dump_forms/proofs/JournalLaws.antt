-- The journal behind each event of a dump: the changes that the event commits stand behind it.
use Rattle.std.proofs.Common.{◌≡◌, ℕ, Bool, true, false, Option, Some, None, List, [], ◌∷◌, ◌++◌, length, refl, sym, subst, append-nil}
use Rattle.std.specs.Prelude.{slice_get}
use Rattle.std.proofs.lemmas.List.{append_assoc}
use Rattle.plant_core.specs.Effects.{Effect, commits, replaces, tells, puts, settles, cuts}
use Rattle.vnode_model.specs.declared.listed.VolEntry.{VolEntry}
use Rattle.cell_core.specs.declared.stored.Stored.{Stored}
use Rattle.cell_core.specs.declared.stored.Taken.{Taken}
use Rattle.cell_core.specs.Calls.{entry_at, clone_at}
use Rattle.tape_text.specs.Items.{Item, Says, Filemark, Nothing}
use Rattle.tape_writer.specs.Puts.{put_on, puts_on}
use Rattle.budb_changes.specs.declared.change.Change.{Change}
use Rattle.budb_changes.specs.Forms.{AreChanges}
use Rattle.tape_choice.specs.declared.choosing.Chosen.{Chosen}
use Rattle.dump_job.specs.declared.fields.Hand.{Hand}
use Rattle.dump_job.specs.declared.fields.JobFields.{JobFields}
use Rattle.dump_job.specs.declared.fields.Phase.{Phase}
use Rattle.dump_job.specs.declared.fields.Phase.TheVariants as phase
use Rattle.dump_job.specs.Reels.{counts_on, has_room}
use Rattle.dump_job.specs.Taping.{uses_for, tape_items}
use Rattle.dump_job.specs.Cloning.{volumes_done}
use Rattle.dump_job.specs.Volumes.{head_items, piece_items, end_items, volume_ended}
use Rattle.dump_job.specs.Ending.{part_end_items}
use Rattle.dump_job.specs.Passing.{next_choice}
use Rattle.dump_job.specs.Closing.{committing}
use Rattle.dump_job.specs.Events.{Around, Event, putting, items_at, clone_by, clone_from, part_end_by, part_end_event, head_event, piece_event, hand_event, event_by, event}
use Rattle.dump_forms.specs.Journals.{IsJournalAfter}

-- ---- effects one behind another

-- effects behind which a journal stays go before others
put_then : (log new : List Change) (k : ℕ) (i : Item) (es : List Effect) → IsJournalAfter log es new → IsJournalAfter log (put_on k i ++ es) new
put_then log new k (Says f) es j = j
put_then log new k Filemark es j = j
put_then log new k Nothing es j = j

puts_then : (log new : List Change) (k : ℕ) (items : List Item) (es : List Effect) → IsJournalAfter log es new → IsJournalAfter log (puts_on k items ++ es) new
unfolding puts_on
puts_then log new k [] es j = j
puts_then log new k (i ∷ is) es j =
    subst (λ (x : List Effect). IsJournalAfter log x new) (sym (append_assoc (put_on k i) (puts_on k is) es)) (put_then log new k i (puts_on k is ++ es) (puts_then log new k is es j))

-- a journal after some effects and after others behind these
pub journal_joined : (log mid new : List Change) (es fs : List Effect) → IsJournalAfter log es mid → IsJournalAfter mid fs new → IsJournalAfter log (es ++ fs) new
journal_joined log mid new [] fs is rest = subst (λ (l : List Change). IsJournalAfter l fs new) is rest
journal_joined log mid new (commits bytes ∷ es) fs is rest = (is.0, is.1, journal_joined (log ++ is.0) mid new es fs is.2 rest)
journal_joined log mid new (replaces bytes ∷ es) fs is rest = (is.0, is.1, journal_joined is.0 mid new es fs is.2 rest)
journal_joined log mid new (tells text ∷ es) fs is rest = journal_joined log mid new es fs is rest
journal_joined log mid new (puts slot r ∷ es) fs is rest = journal_joined log mid new es fs is rest
journal_joined log mid new (settles slot ∷ es) fs is rest = journal_joined log mid new es fs is rest
journal_joined log mid new (cuts slot count ∷ es) fs is rest = journal_joined log mid new es fs is rest

-- ---- events

-- a journal after an event
abbrev pub IsJournaled : List Change → Event → Type 0
IsJournaled log e = IsJournalAfter log e.effects (log ++ e.changes)

committed : (log changes : List Change) → AreChanges changes → IsJournalAfter log (committing changes) (log ++ changes)
committed log [] form = append-nil log
committed log (c ∷ cs) form = (c ∷ cs, record { form = form; is = refl }, refl)

put_alone : (log : List Change) (k : ℕ) (items : List Item) → IsJournalAfter log (puts_on k items) (log ++ [])
put_alone log k items =
    subst (λ (x : List Effect). IsJournalAfter log x (log ++ [])) (append-nil (puts_on k items)) (puts_then log (log ++ []) k items [] (append-nil log))

clone_by_quiet : (log : List Change) (e : Option VolEntry) (c : Option Taken) (j : JobFields) → IsJournaled log (clone_by e c j)
clone_by_quiet log None c j = append-nil log
clone_by_quiet log (Some e) None j = append-nil log
clone_by_quiet log (Some e) (Some c) j = append-nil log

clone_quiet : (log : List Change) (cell : List Stored) (o : Option ℕ) (j : JobFields) → IsJournaled log (clone_from cell o j)
clone_quiet log cell None j = append-nil log
clone_quiet log cell (Some place) j = clone_by_quiet log (entry_at cell place) (clone_at cell place j.time) j

part_end_journaled : (log : List Change) (cut : Bool) (o : Option Chosen) (size : ℕ) (j : JobFields) → AreChanges (part_end_by cut o size j).changes → IsJournaled log (part_end_by cut o size j)
part_end_journaled log cut None size j form = put_alone log j.reel.slot (part_end_items 1 j)
part_end_journaled log cut (Some c) size j form =
    let changes = (part_end_by cut (Some c) size j).changes in
    puts_then log (log ++ changes) j.reel.slot (part_end_items 1 j) (committing changes) (committed log changes form)

head_journaled : (log : List Change) (room : Bool) (a : Around) (h : Hand) (j : JobFields) → has_room 4 2 (counts_on j.port j.reel) ≡ room → AreChanges (head_event a h j).changes → IsJournaled log (head_event a h j)
head_journaled log true a h j room form = rw room (put_alone log j.reel.slot (head_items h))
head_journaled log false a h j room form =
    let changes : AreChanges (part_end_event false a j).changes = rw room at form in
    rw room (part_end_journaled log false (next_choice a.listed a.slots j) a.log_size j changes)

piece_journaled : (log : List Change) (room : Bool) (h : Hand) (j : JobFields) → has_room 3 2 (counts_on j.port j.reel) ≡ room → IsJournaled log (piece_event h j)
piece_journaled log true h j room = rw room (put_alone log j.reel.slot (piece_items h))
piece_journaled log false h j room = rw room (put_alone log j.reel.slot (end_items 0 h))

by_hand : (log : List Change) (step : Hand → Event) (hand : Option Hand) (j : JobFields) → AreChanges (hand_event step hand j).changes → ((h : Hand) → AreChanges (step h).changes → IsJournaled log (step h))
    → IsJournaled log (hand_event step hand j)
by_hand log step None j form each = append-nil log
by_hand log step (Some h) j form each = each h form

by_phase : (log : List Change) (p : Phase) (a : Around) (j : JobFields) → AreChanges (event_by p a j).changes → IsJournaled log (event_by p a j)
by_phase log phase.Tape a j form = put_alone log j.reel.slot (tape_items (uses_for j (items_at a.slots j.reel.slot)) j)
by_phase log phase.Clone a j form = clone_quiet log a.cell (slice_get j.places (length (volumes_done j))) j
by_phase log phase.Head a j form = by_hand log (λ h. head_event a h j) j.hand j form (λ h made. head_journaled log (has_room 4 2 (counts_on j.port j.reel)) a h j refl made)
by_phase log phase.Piece a j form = by_hand log (λ h. piece_event h j) j.hand j form (λ h made. piece_journaled log (has_room 3 2 (counts_on j.port j.reel)) h j refl)
by_phase log phase.VolumeEnd a j form = by_hand log (λ h. putting (end_items 1 h) j (volume_ended h j)) j.hand j form (λ h made. put_alone log j.reel.slot (end_items 1 h))
by_phase log phase.PartEnd a j form = part_end_journaled log true (next_choice a.listed a.slots j) a.log_size j form
by_phase log phase.DumpEnd a j form =
    (let changes = (event_by phase.DumpEnd a j).changes in
    puts_then log (log ++ changes) j.reel.slot (part_end_items 0 j) (committing changes) (committed log changes form))
by_phase log phase.Over a j form = append-nil log

pub event_journaled : (log : List Change) (a : Around) (j : JobFields) → AreChanges (event a j).changes → IsJournaled log (event a j)
event_journaled log a j form = by_phase log j.phase a j form
