-- BEFORE AND BEHIND ALL TURNS: a scene that has all that a dump asks has it for several, and has it again when none of them runs.
use Rattle.std.proofs.Common.{◌≡◌, ◌⊎◌, ℕ, zero, suc, ◌+◌, ◌-◌, ◌<◌, ◌≤◌, Bool, Some, None, List, [], ◌∷◌, ◌++◌, length, max, refl, sym, ap, subst, ◌∙◌, arith, inl, inr}
use Rattle.std.specs.Prelude.{All, Contains, slice_get}
use Rattle.cell_core.specs.Cells.{IsCell}
use Rattle.cell_core.specs.Fairness.{Fair, NoneIsMadeAfter, NoSourceHasBackupName}
use Rattle.cell_core.specs.Forms.{IsStoredForm}
use Rattle.tape_frames.specs.declared.frame.Frame.TheVariants as frames
use Rattle.tape_frames.specs.declared.dump_head.DumpHeadFields.{DumpHeadFields}
use Rattle.budb_changes.specs.declared.records.DumpRecordFields.{DumpRecordFields}
use Rattle.budb_fold.specs.Database.{after}
use Rattle.plant_core.specs.Crashes.{State, seen_in, IsSettled}
use Rattle.tape_text.specs.Items.{Says}
use Rattle.tape_scan.specs.Slots.{Slot}
use Rattle.tape_answers.specs.Slots.{slots_of}
use Rattle.archive_model.specs.Archives.{Archive, listed_of}
use Rattle.archive_model.specs.Settled.{HoldsSettled}
use Rattle.archive_model.specs.Sources.{dumped_by}
use Rattle.archive_model.proofs.GrowLaws.{ids_below}
use Rattle.dump_laws.specs.Made.{Made}
use Rattle.dump_laws.specs.Beginning.{HeadsAreBelow}
use Rattle.dump_courses.specs.Scenes.{Scene, database_in, slots_in}
use Rattle.dump_commands.specs.Answers.{Contents}
use Rattle.dump_archives.specs.Asking.{archive_in, AsksOfScene}
use Rattle.dump_archives.specs.Keeping.{HeadsUpTo}
use Rattle.dump_archives.proofs.Contents.{free_contents, dumped_same}
use Rattle.dump_archives.proofs.Fairs.{fewer_fair}
use Rattle.dump_archives.proofs.Keeping.{archive_at}
use Rattle.job_pool.specs.declared.jobs.PoolJob.{PoolJob}
use Rattle.job_pool.specs.Pools.{PoolPoint}
use Rattle.pool_laws.specs.Underway.{AllUnderway}
use Rattle.job_pool.specs.Schedules.{AllEnded}
use Rattle.pool_laws.specs.Left.{LeftBehind}

-- the greatest id that a head on tapes may have in front of the first begin
abbrev pub first_top : ℕ → ℕ → ℕ
first_top time greatest = max greatest (time - 1)

heads_first : (slots : List Slot) (time greatest : ℕ) → HeadsAreBelow slots time greatest → HeadsUpTo (first_top time greatest) slots
heads_first slots time greatest heads k s n h at is = elim (heads k s n h at is) [
  | inl le ↦ omega (arith, le)
  | inr lt ↦ omega (arith, lt)
]

heads_less : (slots : List Slot) (time greatest : ℕ) → HeadsAreBelow slots time greatest → (k : ℕ) (x : Slot) (n : ℕ) (h : DumpHeadFields) → slice_get slots k ≡ Some x → slice_get x.items n ≡ Some (Says (frames.DumpHead h)) → h.id < first_top time greatest + 1
heads_less slots time greatest heads k x n h at is = (let le = heads_first slots time greatest heads k x n h at is in omega (arith, le))

module _ (s : Scene) (contents grown : Contents) (records : List DumpRecordFields) (asks : AsksOfScene s contents records) where
  abbrev top : ℕ
  top = first_top s.time (database_in s).greatest

  low : (d : DumpRecordFields) → Contains records d → d.id ≤ top
  low d there =
      (let less : d.id < top + 1 = ids_below (seen_in s.state) (archive_in s contents) records (top + 1) asks.holds.seen (heads_less (slots_in s) s.time (database_in s).greatest asks.heads) (omega arith) d there in omega (arith, less))

  -- In front of the first begin no dump runs, and the contents may be those behind the last turn already.
  pub none_underway : ((d : DumpRecordFields) (name : List ℕ) → Contains records d → grown d.id name ≡ contents d.id name) → AllUnderway s s.time top grown (record { log = s.log; state = s.state; jobs = [] })
  none_underway same = record {
    archive = archive_in s grown;
    records = records;
    known = records;
    put = λ n. record { ended = []; front = record { label = record { initial = 0; tape = 0; afs = []; permanent = [] }; parts = [] }; fragments = []; pieces = []; clones = [] };
    stands = record {
      log_is = refl;
      slots = refl;
      contents_are = refl;
      held = free_contents s.state (archive_in s contents) records grown asks.holds same;
      all_known = λ d there. there;
      low = low;
      fair = subst (λ (l : List _). Fair s.cell l s.time) (sym (dumped_same grown contents records same)) asks.fair;
      heads = heads_first (slots_in s) s.time (database_in s).greatest asks.heads;
      short = asks.short;
    };
    each = λ n q at runs. absurd (cc);
    apart = λ n k q r at_n at_k run_q run_r other. absurd (cc);
    rest = record { log = asks.settled.log; tapes = λ c free. asks.settled.tapes c };
  }

module _ (s : Scene) (time top : ℕ) (grown : Contents) where
  pub all_left : (p : PoolPoint) → AllUnderway s time top grown p → AllEnded p.jobs → LeftBehind s time top grown p
  all_left p u ended =
      let st = u.stands in
      let all : u.archive ≡ archive_at s.slots s.present grown p.log p.state.tape = λ i. record { log = st.log_is i; slots = st.slots i; contents = st.contents_are i } in
      record {
        settled = record { log = u.rest.log; tapes = λ c. u.rest.tapes c (λ n q at runs waits same. ended n q at runs) };
        records = u.records;
        holds = subst (λ (x : Archive). HoldsSettled p.state x u.records) all st.held;
        fair = fewer_fair s.cell grown u.known u.records time st.fair st.all_known;
        heads = st.heads;
        short = st.short;
      }
