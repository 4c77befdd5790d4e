-- Each restore of a rehearsal finds media that hold the archive of the dumps.
use Rattle.std.proofs.Common.{◌≡◌, ◌≢◌, inl, inr, ℕ, ◌<◌, ◌≤◌, Bool, true, false, List, [], ◌∷◌, refl, sym, ◌∙◌, ap, arith, IsTrue, All}
use Rattle.std.proofs.lemmas.Bool.{eqb-true}
use Rattle.std.proofs.lemmas.List.Elements.{All-nil, All-head, All-tail}
use Rattle.std.specs.Prelude.{◌&&◌, ◌==◌, not, if◌then◌else◌, nat_lt, Some, None, Ok, Contains}
use Rattle.vnode_model.specs.declared.volumes.VolumeFields.{VolumeFields}
use Rattle.bk_text.specs.Alphabets.{IsHost}
use Rattle.byte_formats.specs.Forms.{IsFour, IsMaybe}
use Rattle.tape_config.specs.declared.port.PortFields.{PortFields}
use Rattle.tape_config.specs.declared.line.DeviceLine.{DeviceLine}
use Rattle.tape_config.specs.Configs.{port_in, port_with, or_else, name_or_nothing}
use Rattle.tape_config.specs.Ports.{AreApart}
use Rattle.budb_changes.specs.declared.change.Change.{Change}
use Rattle.budb_changes.specs.Bytes.{encoded}
use Rattle.plant_core.specs.Crashes.{seen_in, IsSettled}
use Rattle.plant_core.specs.Stock.{IsNothing}
use Rattle.cell_core.specs.Fairness.{Fair, NoneIsMadeAfter, NoSourceHasBackupName}
use Rattle.cell_forms.specs.Forms.{IsCellForm}
use Rattle.cell_core.specs.Forms.{IsVolumeForm}
use Rattle.backup_words.specs.declared.command.Command.{Command}
use Rattle.backup_session.specs.Asks.{asks_archive}
use Rattle.backup_session.specs.Bounded.{HasTapes}
use Rattle.backup_session.specs.Held.{HoldsArchive, HeldWhere, HeldFor}
use Rattle.backup_session.specs.Machine.{turn}
use Rattle.backup_session.specs.Worlds.{World, Setting, after_turn, at_moment}
use Rattle.command_forms.specs.Forms.{HasForms}
use Rattle.command_forms.specs.NewNames.{NamesApart}
use Rattle.session_archives.specs.Held.{HoldsWorld}
use Rattle.session_archives.specs.Ready.{IsReady, RestoresApart, FitsBackFor, IsReadyForCommand}
use Rattle.session_archives.proofs.BackLines.{nothing_asked}
use Rattle.session_archives.proofs.TurnLeads.{ready_later}
use Rattle.rehearsal.specs.declared.batch.Batch.{Batch}
use Rattle.rehearsal.specs.Commands.{first_session, second_session, third_session}
use Rattle.rehearsal.specs.Playing.{Stage, then_turn, given, played, FindsHeld, AllFindHeld}
use Rattle.rehearsal.specs.Sessions.{blank_world, all_here, one_out, setting, reopened, start, dumped, lost, scanned, put_back}
use Rattle.lost_journals.specs.Worlds.{HasTapesOf}
use Rattle.rehearsal.proofs.Forms.{Tests, IsMade, IsRead, AreMade, AreRead, first_made, second_read, third_read}
use Rattle.rehearsal.proofs.Worlds.{dumped_setting, scanned_setting}

-- the laws of the crates below; of blank worlds, what they say of the one in which a rehearsal begins
pub record Laws : Type 0 where
  pub tests : Tests
  pub keep : (w : World) (now : ℕ) (command : Command) → HasForms command → HoldsWorld w → IsReadyForCommand (at_moment w now) command → HoldsWorld (after_turn w (turn w now command))
  pub ready : (w : World) (now : ℕ) (command : Command) → HasForms command → NamesApart command → RestoresApart w command → FitsBackFor (at_moment w now) command → HoldsWorld w → IsReady (at_moment w now) → IsReady (after_turn w (turn w now command))
  pub blank : IsNothing (seen_in blank_world.state) → IsSettled blank_world.state → ((k : ℕ) → IsTrue (blank_world.setting.present k) → k < blank_world.setting.slots) → HasTapes blank_world → HoldsWorld blank_world
  pub blank_ready : let w = blank_world in IsNothing (seen_in w.state) → IsCellForm w.cell → Fair w.cell [] w.time → NoneIsMadeAfter w.time w.cell → NoSourceHasBackupName w.cell → IsFour w.time
      → ((id : ℕ) (name : List ℕ) (volume : VolumeFields) → w.contents id name ≡ Ok volume → IsVolumeForm volume) → IsMaybe IsHost (name_or_nothing w.setting.config.cell)
      → ((offset : ℕ) (port : PortFields) → port_in offset w.setting.config.entries ≡ Some port → port.capacity ≤ 4000000000)
      → ((one other : ℕ) (p q : PortFields) → one ≢ other → port_in one w.setting.config.entries ≡ Some p → port_in other w.setting.config.entries ≡ Some q → AreApart p q) → IsReady w
  pub none : (w v : World) → HoldsWorld w → HasTapesOf w v → v.log ≡ [] → v.state.log ≡ [] → HoldsWorld v
  pub same : (w v : World) → HoldsWorld w → HasTapesOf w v → v.log ≡ w.log → v.state.log ≡ w.state.log → HoldsWorld v

-- ---- what a command finds

held_where : (b : Bool) (w : World) → HoldsArchive w → HeldWhere b w
held_where true w held = held
held_where false w held = tt

finds : (w : World) (now : ℕ) (command : Command) → HoldsWorld w → HeldFor (at_moment w now) command
finds w now command held = held_where (asks_archive command) (at_moment w now) (held.records, held.holds.seen)

nothing_in : {X : Type 0} (x : X) → Contains [] x → ⊥
nothing_in x there = omega (arith, there.1)

abbrev one_device : DeviceLine
one_device = record { offset = 0; capacity = 2147483648; filemark = 0; first = 0; last = 3 }

-- a world that is opened behind another one stands on its tapes
reopens : (w : World) (before present : ℕ → Bool) (log : List Change) → w.setting ≡ setting before → ((k : ℕ) → IsTrue (present k) → k < 4) → HasTapesOf w (reopened present log w)
reopens w before present log is within = record {
  slots = sym (ap (λ (x : Setting). x.slots) is);
  here = λ k here. (within k here, omega (arith, within k here));
  tapes = λ k. inl refl;
  alone = refl;
  settled = record { log = refl; tapes = λ k. refl };
  contents = λ d name there. refl;
}

-- the log's bytes are those of the changes
journal_held : (w : World) → HoldsWorld w → encoded w.log ≡ w.state.log
journal_held w held = same w.state.log (encoded w.log) held.holds.seen.log
  where
    same : (a b : List ℕ) → Some a ≡ Some b → b ≡ a
    same a b is = cc

module _ (laws : Laws) where
  -- ---- the first session: a world that is ready

  record Ready (s : Stage) : Type 0 where
    pub held : HoldsWorld s.world
    pub ready : IsReady s.world

  made_next : (s : Stage) (now : ℕ) (command : Command) → IsMade command → Ready s → Ready (then_turn s (turn s.world now command))
  made_next s now command made is = record {
    held = laws.keep s.world now command made.forms is.held (record { ready = λ asks. ready_later s.world now is.ready; back = nothing_asked (at_moment s.world now) command made.no_saved });
    ready = laws.ready s.world now command made.forms made.named (made.restores s.world) (nothing_asked (at_moment s.world now) command made.no_saved) is.held (ready_later s.world now is.ready);
  }

  made_given : (s : Stage) (now : ℕ) (commands : List Command) → All IsMade commands → Ready s → FindsHeld s now commands × Ready (given s now commands)
  unfolding given FindsHeld
  made_given s now [] made is = (tt, is)
  made_given s now (c ∷ cs) made is =
      let rest = made_given (then_turn s (turn s.world now c)) now cs (All-tail IsMade c cs made) (made_next s now c (All-head IsMade c cs made) is) in
      ((finds s.world now c is.held, rest.0), rest.1)

  made_played : (s : Stage) (batches : List Batch) → All (AreMade laws.tests) batches → Ready s → AllFindHeld s batches × Ready (played s batches)
  unfolding played AllFindHeld
  made_played s [] made is = (tt, is)
  made_played s (b ∷ bs) made is =
      let here = made_given s b.now b.commands (All-head (AreMade laws.tests) b bs made) is in
      let rest = made_played (given s b.now b.commands) bs (All-tail (AreMade laws.tests) b bs made) here.1 in
      ((here.0, rest.0), rest.1)

  -- ---- the others: no command dumps

  dumps_not : (command : Command) (w : World) → IsRead command → IsReadyForCommand w command
  dumps_not command w read = record {
    ready = λ asks. absurd (let e : true ≡ false = sym asks ∙ read.no_dump in cc);
    back = nothing_asked w command read.no_saved;
  }

  read_given : (s : Stage) (now : ℕ) (commands : List Command) → All IsRead commands → HoldsWorld s.world → FindsHeld s now commands × HoldsWorld (given s now commands).world
  unfolding given FindsHeld
  read_given s now [] read held = (tt, held)
  read_given s now (c ∷ cs) read held =
      let rest = read_given (then_turn s (turn s.world now c)) now cs (All-tail IsRead c cs read) (laws.keep s.world now c (All-head IsRead c cs read).forms held (dumps_not c (at_moment s.world now) (All-head IsRead c cs read))) in
      ((finds s.world now c held, rest.0), rest.1)

  read_played : (s : Stage) (batches : List Batch) → All (AreRead laws.tests) batches → HoldsWorld s.world → AllFindHeld s batches × HoldsWorld (played s batches).world
  unfolding played AllFindHeld
  read_played s [] read held = (tt, held)
  read_played s (b ∷ bs) read held =
      let here = read_given s b.now b.commands (All-head (AreRead laws.tests) b bs read) held in
      let rest = read_played (given s b.now b.commands) bs (All-tail (AreRead laws.tests) b bs read) here.1 in
      ((here.0, rest.0), rest.1)

  -- ---- the blank world

  here_within : (k : ℕ) → IsTrue (nat_lt k 4) → k < 4
  here_within k here = grind (arith, here)

  one_within : (k : ℕ) → IsTrue (nat_lt k 4 && not (k == 2)) → k < 4
  one_within k here = here_within k (first_true (nat_lt k 4) (not (k == 2)) here)
    where
      first_true : (a b : Bool) → IsTrue (a && b) → IsTrue a
      first_true true b is = refl
      first_true false b is = is

  port_within : (offset : ℕ) (port : PortFields) (b : Bool) → port_with offset true (or_else (if b then Some one_device else None) None) ≡ Some port → port.capacity ≤ 4000000000
  port_within offset port true is = (let e : port.capacity ≡ 2147483648 = capacity_of port (record { offset = offset; capacity = 2147483648; filemark = 0; first = 0; last = 3; name_check = true }) (sym is) in omega (arith, e))
    where
      capacity_of : (p q : PortFields) → Some p ≡ Some q → p.capacity ≡ q.capacity
      capacity_of p q same = (let e : p ≡ q = cc in ap (λ (x : PortFields). x.capacity) e)
  port_within offset port false is = absurd cc

  no_port : (offset : ℕ) (port : PortFields) → port_in offset blank_world.setting.config.entries ≡ Some port → port.capacity ≤ 4000000000
  no_port offset port is = port_within offset port (0 == offset) is

  -- it has one port alone
  first_port : (offset : ℕ) (port : PortFields) (b : Bool) → port_with offset true (or_else (if b then Some one_device else None) None) ≡ Some port → b ≡ true
  first_port offset port true is = refl
  first_port offset port false is = absurd cc

  one_port : (offset : ℕ) (port : PortFields) → port_in offset blank_world.setting.config.entries ≡ Some port → 0 ≡ offset
  one_port offset port is = eqb-true 0 offset (first_port offset port (0 == offset) is)

  ports_apart : (one other : ℕ) (p q : PortFields) → one ≢ other → port_in one blank_world.setting.config.entries ≡ Some p → port_in other blank_world.setting.config.entries ≡ Some q → AreApart p q
  ports_apart one other p q differ is also = absurd (differ (sym (one_port one p is) ∙ one_port other q also))

  no_cell : IsCellForm []
  no_cell = record { list = record { few = omega arith; ordered = λ i j d lt below. absurd (omega (arith, below)); images = All-nil _ }; volumes = All-nil _ }

  no_fair : Fair [] [] blank_world.time
  no_fair = record {
    times = All-nil _;
    volumes = All-nil _;
    own = λ s new d old there. absurd (nothing_in s there);
    of_backup = λ s new d old there. absurd (nothing_in s there);
    backup = λ s new b old there. absurd (nothing_in s there);
  }

  blank_held : HoldsWorld blank_world
  blank_held = laws.blank (record { log = refl; tapes = λ k. refl; told = refl }) (record { log = refl; tapes = λ k. refl }) here_within
      (record { slots = λ k here. omega (arith, here_within k here); records = λ k. omega arith })

  blank_is_ready : IsReady blank_world
  blank_is_ready = laws.blank_ready (record { log = refl; tapes = λ k. refl; told = refl }) no_cell no_fair (All-nil _) (All-nil _) (omega arith) (λ id name volume is. absurd cc) (inr refl) no_port ports_apart

  -- ---- the three sessions

  first_all : (n : ℕ) → n ≤ 200 → AllFindHeld (start blank_world) (first_session n) × Ready (dumped n)
  unfolding dumped
  first_all n few = made_played (start blank_world) (first_session n) (first_made laws.tests n few) (record { held = blank_held; ready = blank_is_ready })

  lost_held : (n : ℕ) → n ≤ 200 → HoldsWorld (lost n)
  unfolding lost encoded
  lost_held n few = laws.none (dumped n).world (reopened one_out [] (dumped n).world) (first_all n few).1.held (reopens (dumped n).world all_here one_out [] (dumped_setting n) one_within) refl refl

  second_all : (n : ℕ) → n ≤ 200 → AllFindHeld (start (lost n)) (second_session n) × HoldsWorld (scanned n).world
  unfolding scanned
  second_all n few = read_played (start (lost n)) (second_session n) (second_read laws.tests n few) (lost_held n few)

  put_back_held : (n : ℕ) → n ≤ 200 → HoldsWorld (put_back n)
  unfolding put_back
  put_back_held n few = laws.same (scanned n).world (reopened all_here (scanned n).world.log (scanned n).world) (second_all n few).1 (reopens (scanned n).world one_out all_here (scanned n).world.log (scanned_setting n) here_within) refl (journal_held (scanned n).world (second_all n few).1)

  pub first_finds : (n : ℕ) → n ≤ 200 → AllFindHeld (start blank_world) (first_session n)
  first_finds n few = (first_all n few).0

  pub second_finds : (n : ℕ) → n ≤ 200 → AllFindHeld (start (lost n)) (second_session n)
  second_finds n few = (second_all n few).0

  pub third_finds : (n : ℕ) → n ≤ 200 → AllFindHeld (start (put_back n)) (third_session n)
  third_finds n few = (read_played (start (put_back n)) (third_session n) (third_read laws.tests n few) (put_back_held n few)).0
