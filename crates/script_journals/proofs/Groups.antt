-- The dumps that an open group holds have their forms behind each command.
use Rattle.std.proofs.Common.{◌≡◌, ◌≢◌, ◌⊎◌, ℕ, zero, suc, ◌≤◌, Bool, true, false, List, [], ◌∷◌, ◌++◌, length, length-append, refl, sym, ap, subst, ◌∙◌, arith, inl, inr}
use Rattle.std.specs.Prelude.{slice_get, nat_lt, nat_le, ◌&&◌, ◌||◌, if◌then◌else◌, Option, Some, None, Result, Ok, Err, codes}
use Rattle.std.specs.List.{fold, list_any}
use Rattle.std.proofs.lemmas.Bool.{leb-false, eqb-false}
use Rattle.std.proofs.lemmas.List.Elements.{All-nil, All-cons, All-append}
use Rattle.tape_config.specs.declared.port.PortFields.{PortFields}
use Rattle.tape_frames.specs.declared.label.LabelFields.{LabelFields}
use Rattle.tape_answers.specs.Assembling.{found_in}
use Rattle.budb_changes.specs.declared.records.DumpRecordFields.{DumpRecordFields}
use Rattle.budb_changes.specs.declared.change.Change.{Change}
use Rattle.budb_changes.specs.declared.change.Change.TheVariants as change
use Rattle.budb_changes.specs.Bytes.{encoded}
use Rattle.budb_fold.specs.Database.{after, has_dump}
use Rattle.budb_fold.specs.Checkpoints.{checkpoint}
use Rattle.backup_words.specs.declared.command.Command.{Command}
use Rattle.backup_words.specs.declared.command.Command.TheVariants.{Database, Tape, Cell, Dump, Group, Restore}
use Rattle.backup_words.specs.declared.command.TapeCommand.{TapeCommand}
use Rattle.backup_words.specs.declared.command.TapeCommand.TheVariants.{Labeltape, Readlabel, Scantape, Savedb, Restoredb}
use Rattle.backup_words.specs.declared.command.DumpCommand.{DumpCommand}
use Rattle.backup_words.specs.declared.command.GroupCommand.{GroupCommand}
use Rattle.backup_words.specs.declared.command.GroupCommand.TheVariants.{Together, Kill, End, Jobs}
use Rattle.command_forms.specs.Forms.{HasForms}
use Rattle.dump_commands.specs.Forms.{IsCommandForm}
use Rattle.group_commands.specs.Groups.{GroupView, IsHeld, Told, opened, is_to_port, barred_option, room_refusal, hold_refusal, held_or, hold, kill}
use Rattle.group_laws.specs.Forms.{IsGroupForm}
use Rattle.backup_session.specs.declared.groups.Groups.{Groups}
use Rattle.backup_session.specs.declared.verdict.Verdict.{Verdict}
use Rattle.backup_session.specs.declared.verdict.Verdict.TheVariants.{Refuses, Makes, Shortens, Shows}
use Rattle.backup_session.specs.Worlds.{World, Turn, at_moment, before_reply}
use Rattle.backup_session.specs.Turns.{length_with}
use Rattle.backup_session.specs.Verdicts.{verdict}
use Rattle.backup_session.specs.Labels.{label_of}
use Rattle.backup_session.specs.Scanning.{port_of, slots_here, scans_of, has_wrong_parent, Step, says, added_if, with_dump, adding, dumps_turn, slots_turn, scan_turn}
use Rattle.backup_session.specs.Saves.{saved_turn, back_turn}
use Rattle.backup_session.specs.Tapes.{slot_of, read_turn, new_label, taken, labeled, label_turn, tape_turn}
use Rattle.backup_session.specs.Groups.{group_in, in_group, group_alone}
use Rattle.backup_session.specs.Machine.{carried, alone, done_in, turn}
use Rattle.backup_session.proofs.SaveTurns.{by_save, by_back}
use Rattle.script_journals.specs.Worlds.{HasGroupForm}

-- ---- a group

-- what stands at a place of a list with one more at its end
pushed : {A : Type 0} (xs : List A) (x y : A) (n : ℕ) → slice_get (xs ++ x ∷ []) n ≡ Some y → (slice_get xs n ≡ Some y) ⊎ ((n ≡ length xs) × (x ≡ y))
pushed [] x y zero at = inr (refl, cc)
pushed [] x y (suc n) at = absurd cc
pushed (z ∷ xs) x y zero at = inl at
pushed (z ∷ xs) x y (suc n) at = elim (pushed xs x y n at) [
  | inl old ↦ inl old
  | inr last ↦ inr (omega (arith, last.0), last.1)
]

-- neither of two tests has told a refusal
neither : (p q : Bool) (x y : List ℕ) → (if p then Some x else if q then Some y else None) ≡ None → (p ≡ false) × (q ≡ false)
neither true q x y is = absurd cc
neither false true x y is = absurd cc
neither false false x y is = (refl, refl)

-- none of a list passes a test
none_passes : {A : Type 0} (p : A → Bool) (xs : List A) → list_any p xs ≡ false → (n : ℕ) (x : A) → slice_get xs n ≡ Some x → p x ≡ false
none_passes p [] none n x at = absurd cc
none_passes {A = A} p (z ∷ xs) none n x at = by (p z) refl none n at (none_passes p xs)
  where
    by : (b : Bool) → p z ≡ b → (b || list_any p xs) ≡ false → (n : ℕ) → slice_get (z ∷ xs) n ≡ Some x → (list_any p xs ≡ false → (n : ℕ) (x : A) → slice_get xs n ≡ Some x → p x ≡ false) → p x ≡ false
    by true is none n at further = absurd cc
    by false is none zero at further = (let same : z ≡ x = cc in ap p (sym same) ∙ is)
    by false is none (suc n) at further = further none n x at

opened_form : (schedule : ℕ) → IsGroupForm (opened schedule)
opened_form schedule = record { group = record { few = omega arith; each = λ n a at. absurd cc; ports = λ n k a b at also differ. absurd cc }; commands = All-nil IsCommandForm }

module _ (g : GroupView) (form : IsGroupForm g) (a : DumpCommand) (command : IsCommandForm a) where
  is_held : barred_option a ≡ None → IsHeld a
  is_held free = (let both = neither a.append a.trial (codes "-append") (codes "-n") free in record { fresh = both.0; real = both.1 })

  module _ (held : IsHeld a) (other : list_any (is_to_port a.offset) g.held ≡ false) (room : nat_le 16 (length g.held) ≡ false) where
    -- no held dump goes to its port
    apart : (n : ℕ) (b : DumpCommand) → slice_get g.held n ≡ Some b → b.offset ≢ a.offset
    apart n b at = eqb-false b.offset a.offset (none_passes (is_to_port a.offset) g.held other n b at)

    each : (n : ℕ) (b : DumpCommand) → slice_get (g.held ++ a ∷ []) n ≡ Some b → IsHeld b
    each n b at = elim (pushed g.held a b n at) [
      | inl old ↦ form.group.each n b old
      | inr last ↦ subst IsHeld last.1 held
    ]

    ports : (n k : ℕ) (b c : DumpCommand) → slice_get (g.held ++ a ∷ []) n ≡ Some b → slice_get (g.held ++ a ∷ []) k ≡ Some c → n ≢ k → b.offset ≢ c.offset
    ports n k b c at also differ same = elim (pushed g.held a b n at) [
      | inl old ↦ elim (pushed g.held a c k also) [
        | inl second ↦ form.group.ports n k b c old second differ same
        | inr last ↦ apart n b old (same ∙ ap (λ (x : DumpCommand). x.offset) (sym last.1))
      ]
      | inr last ↦ elim (pushed g.held a c k also) [
        | inl second ↦ apart k c second (sym same ∙ ap (λ (x : DumpCommand). x.offset) (sym last.1))
        | inr both ↦ differ (last.0 ∙ sym both.0)
      ]
    ]

    few : length (g.held ++ a ∷ []) ≤ 16
    few = omega (arith, leb-false 16 (length g.held) room, length-append g.held (a ∷ []))

    -- with it the group has its forms
    held_form : IsGroupForm (record g { held = g.held ++ a ∷ [] })
    held_form = record { group = record { few = few; each = each; ports = ports }; commands = All-append IsCommandForm g.held (a ∷ []) form.commands (All-cons IsCommandForm a [] command (All-nil IsCommandForm)) }

  by_room : IsHeld a → (o : Option (List ℕ)) → room_refusal g a ≡ o → IsGroupForm (held_or g a o).group
  by_room held (Some text) is = form
  by_room held None is = (let both = neither (list_any (is_to_port a.offset) g.held) (nat_le 16 (length g.held)) _ _ is in held_form held both.0 both.1)

  by_option : (o : Option (List ℕ)) → barred_option a ≡ o → IsGroupForm (held_or g a (hold_refusal g a o)).group
  by_option (Some word) is = form
  by_option None is = by_room (is_held is) (room_refusal g a) refl

  -- a dump in a group
  hold_form : IsGroupForm (hold g a).group
  unfolding hold
  hold_form = by_option (barred_option a) refl

told_either : (b : Bool) (s t : Told) → IsGroupForm s.group → IsGroupForm t.group → IsGroupForm (if b then s else t).group
told_either true s t is_s is_t = is_s
told_either false s t is_s is_t = is_t

-- a kill
kill_form : (g : GroupView) (job after : ℕ) → IsGroupForm g → IsGroupForm (kill g job after).group
unfolding kill
kill_form g job after form =
    told_either (nat_le 1 job && nat_le job (length g.held)) _ _
    (record { group = record { few = form.group.few; each = form.group.each; ports = form.group.ports }; commands = form.commands }) form

-- ---- turns that leave the groups as they are

module _ (w : World) where
  abbrev Stays : Turn → Type 0
  Stays t = t.groups ≡ w.groups

  picked : (b : Bool) (s t : Turn) → Stays s → Stays t → Stays (if b then s else t)
  picked true s t is_s is_t = is_s
  picked false s t is_s is_t = is_t

  carried_stays : (v : Verdict) → Stays (carried w v)
  carried_stays (Refuses text) = refl
  carried_stays (Shows text) = refl
  carried_stays (Makes changes text) = picked (nat_lt 268435456 (length_with w changes)) _ _ refl refl
  carried_stays Shortens = picked (nat_lt 268435456 (length (encoded (checkpoint (after w.log))))) _ _ refl refl

  labeled_stays : (slot : ℕ) (a : LabelFields) (changes : List Change) → Stays (labeled w slot a changes)
  labeled_stays slot a [] = refl
  labeled_stays slot a (c ∷ cs) = picked (nat_lt 268435456 (length_with w (c ∷ cs))) _ _ refl refl

  label_stays : (name pname : Option (List ℕ)) (r : Result ℕ (List ℕ)) → Stays (label_turn w name pname r)
  label_stays name pname (Err text) = refl
  label_stays name pname (Ok slot) = labeled_stays slot (new_label (label_of (w.state.tape slot)) name pname) (taken (after w.log).listed (label_of (w.state.tape slot)))

  read_stays : (r : Result ℕ (List ℕ)) → Stays (read_turn w r)
  read_stays (Err text) = refl
  read_stays (Ok slot) = refl

  save_stays : (port : Result PortFields (List ℕ)) → Stays (saved_turn w port)
  save_stays port = by_save w Stays (λ text. refl) (λ p bytes few. refl) port

  back_stays : (port : Result PortFields (List ℕ)) → Stays (back_turn w port)
  back_stays port = by_back w Stays (λ text. refl) port (λ changes comes. refl)

step_stays : (w : World) (b : Bool) (s t : Step) → Stays w s.turn → Stays w t.turn → Stays w (if b then s else t).turn
step_stays w true s t is_s is_t = is_s
step_stays w false s t is_s is_t = is_t

added_stays : (w : World) (full : Bool) (d : DumpRecordFields) → Stays w (added_if w full d).turn
added_stays w full d =
    step_stays w (has_dump (after w.log).listed d.id) _ _ refl (step_stays w (has_wrong_parent d) _ _ refl (step_stays w full _ _ refl (step_stays w (nat_lt 268435456 (length_with w (change.Found d ∷ []))) _ _ refl refl)))

steps_stay : (w : World) (s : Step) (ds : List DumpRecordFields) → Stays w s.turn → Stays w (fold (with_dump w) s ds).turn
steps_stay w s [] so_far = so_far
steps_stay w s (d ∷ ds) so_far = steps_stay w (with_dump w s d) ds (added_stays (before_reply w s.turn) s.full d ∙ so_far)

adding_stays : (w : World) (ds : List DumpRecordFields) → Stays w (adding w ds).turn
unfolding adding
adding_stays w ds = steps_stay w (says w false []) ds refl

dumps_stay : (w : World) (dbadd : Bool) (ds : List DumpRecordFields) → Stays w (dumps_turn w dbadd ds)
dumps_stay w true ds = adding_stays w ds
dumps_stay w false ds = refl

slots_stay : (w : World) (dbadd : Bool) (slots : List ℕ) → Stays w (slots_turn w dbadd slots)
unfolding slots_turn
slots_stay w dbadd slots = dumps_stay w dbadd (found_in (scans_of w.state.tape slots)).whole

scan_stays : (w : World) (dbadd : Bool) (port : Result PortFields (List ℕ)) → Stays w (scan_turn w dbadd port)
scan_stays w dbadd (Err text) = refl
scan_stays w dbadd (Ok port) = slots_stay w dbadd (slots_here w.setting.present port)

tape_stays : (w : World) (command : TapeCommand) → Stays w (tape_turn w command)
tape_stays w (Labeltape name pname offset slot) = label_stays w name pname (slot_of w.setting (after w.log).hosts offset slot)
tape_stays w (Readlabel offset slot) = read_stays w (slot_of w.setting (after w.log).hosts offset slot)
tape_stays w (Scantape dbadd offset) = scan_stays w dbadd (port_of w.setting.config (after w.log).hosts offset)
tape_stays w (Savedb offset) = save_stays w (port_of w.setting.config (after w.log).hosts offset)
tape_stays w (Restoredb offset) = back_stays w (port_of w.setting.config (after w.log).hosts offset)

-- ---- a command

module _ (w : World) (form : HasGroupForm w.groups.open) where
  abbrev Formed : Turn → Type 0
  Formed t = HasGroupForm t.groups.open

  kept : (t : Turn) → Stays w t → Formed t
  kept t same = subst (λ (x : Groups). HasGroupForm x.open) (sym same) form

  group_alone_form : (command : GroupCommand) → Formed (group_alone w command)
  group_alone_form (Together schedule) = opened_form schedule
  group_alone_form (Kill job after) = form
  group_alone_form End = form
  group_alone_form Jobs = form

  alone_form : (command : Command) → Formed (alone w command)
  alone_form (Database command) = kept (carried w (verdict (after w.log) command)) (carried_stays w (verdict (after w.log) command))
  alone_form (Tape command) = kept (tape_turn w command) (tape_stays w command)
  alone_form (Cell command) = form
  alone_form (Dump command) = form
  alone_form (Group command) = group_alone_form command
  alone_form (Restore command) = form

  module _ (g : GroupView) (group : IsGroupForm g) where
    group_in_form : (command : GroupCommand) → Formed (group_in w g command)
    group_in_form (Together schedule) = form
    group_in_form (Kill job after) = kill_form g job after group
    group_in_form End = tt
    group_in_form Jobs = form

    in_form : (command : Command) → HasForms command → Formed (in_group w g command)
    in_form (Database command) has = form
    in_form (Tape command) has = form
    in_form (Cell command) has = form
    in_form (Dump command) has = hold_form g group command (record { set = has.0; level = has.1 })
    in_form (Group command) has = group_in_form command
    in_form (Restore command) has = form

  done_form : (o : Option GroupView) → HasGroupForm o → (command : Command) → HasForms command → Formed (done_in w o command)
  done_form None group command has = alone_form command
  done_form (Some g) group command has = in_form g group command has

pub turn_group : (w : World) (now : ℕ) (command : Command) → HasForms command → HasGroupForm w.groups.open → HasGroupForm (turn w now command).groups.open
unfolding turn
turn_group w now command has form = done_form (at_moment w now) form w.groups.open form command has
