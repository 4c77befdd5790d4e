-- A script keeps the archive, line by line, and leaves a ready world ready.
use Rattle.std.proofs.Common.{◌≡◌, ℕ, ◌-◌, ◌≤◌, arith, Bool, true, false, List, [], ◌∷◌, length, refl, ap}
use Rattle.std.specs.Prelude.{◌&&◌, nat_lt, if◌then◌else◌, Result, Ok, Err}
use Rattle.backup_words.specs.declared.command.Command.{Command}
use Rattle.backup_words.specs.declared.faults.WordFault.{WordFault}
use Rattle.backup_words.specs.Commands.{command_of}
use Rattle.byte_formats.specs.Forms.{IsFour}
use Rattle.media_core.specs.Later.{later}
use Rattle.backup_session.specs.Worlds.{World, Contents, archive_of, at_moment, with_told}
use Rattle.backup_session.proofs.Room.{full_true, room_false}
use Rattle.backup_script.specs.declared.item.Item.{Item}
use Rattle.backup_script.specs.declared.item.Item.TheVariants.{Silent, Quit, Runs, Refused}
use Rattle.backup_script.specs.Lines.{is_quit}
use Rattle.backup_script.specs.Items.{is_silent, said, item_of}
use Rattle.backup_script.specs.Scripts.{first_of, Outcome, then_outcome, one_line, script}
use Rattle.backup_script.specs.Held.{IfItGoes, IsHeldThroughout}
use Rattle.command_forms.specs.NewNames.{NamesApart}
use Rattle.command_forms.proofs.NewNames.{line_apart}
use Rattle.script_journals.specs.Dumping.{item_asks_dump, dumps_among}
use Rattle.script_journals.proofs.Scripts.{ItemForms, item_forms}
use Rattle.script_journals.proofs.DumpingScripts.{dump_here, dump_later}
use Rattle.session_archives.specs.Held.{HoldsWorld, contents_on, RepliesSettle}
use Rattle.session_archives.specs.Ready.{IsReady, RestoresApartOn, RestoresApartThroughout, FitsBackOn, FitsBackThroughout, left_behind, time_by, time_at_first, at_first, IsReadyFor}
use Rattle.session_archives.proofs.Orders.{moment_four, order_later}
use Rattle.session_archives.proofs.BackLines.{fits_throughout}
use Rattle.session_archives.proofs.Leading.{Leads, leads_nowhere, leads_then}
use Rattle.session_archives.proofs.TurnLeads.{Lower, finds_of}
use Rattle.session_archives.specs.Since.{CameSince}
use Rattle.session_archives.proofs.DumpTurns.{SinceLaws}
use Rattle.session_archives.proofs.Sinces.{came_itself, came_then}
use Rattle.session_archives.proofs.Scripts.{ReadyForItem, line_leads, line_holds, line_came, line_finds}
use Rattle.session_archives.proofs.Replies.{settles_nowhere, line_settles, further_settles}
use Rattle.session_archives.proofs.ReadyTurns.{turn_ready}

-- ---- what a line says makes no volume under the name of a backup volume

abbrev ItemApart : Item → Type 0
ItemApart Silent = Unit {0}
ItemApart Quit = Unit {0}
ItemApart (Refused text) = Unit {0}
ItemApart (Runs command) = NamesApart command

said_apart : (r : Result Command WordFault) → ((command : Command) → r ≡ Ok command → NamesApart command) → ItemApart (said r)
said_apart (Ok command) apart = apart command refl
said_apart (Err fault) apart = tt

either : (b : Bool) (i j : Item) → ItemApart i → ItemApart j → ItemApart (if b then i else j)
either true i j is_i is_j = is_i
either false i j is_i is_j = is_j

item_apart : (line : List ℕ) → ItemApart (item_of line)
unfolding item_of
item_apart line = either (is_quit line) _ _ tt (either (is_silent line) _ _ tt (said_apart (command_of line) (line_apart line)))

-- ---- where a script goes on

goes_on : (b : Bool) (Here : Type 0) → (b ≡ true → Here) → IfItGoes b Here
goes_on true Here here = here refl
goes_on false Here here = tt

if_it_goes : (b : Bool) (Here : Type 0) → IfItGoes b Here → b ≡ true → Here
if_it_goes true Here here is = here
if_it_goes false Here here is = absurd cc

-- what is read back on the first line fits the media, and so it does on those behind it
first_fits : (w : World) (ms line : List ℕ) (lines : List (List ℕ)) → FitsBackThroughout w ms (line ∷ lines) → FitsBackOn (at_moment w (first_of ms)) (item_of line)
unfolding FitsBackThroughout
first_fits w ms line lines fits = fits.0

further_fits : (w : World) (ms line : List ℕ) (lines : List (List ℕ)) → FitsBackThroughout w ms (line ∷ lines) → let s = one_line w ms (item_of line) in s.goes ≡ true → FitsBackThroughout s.world s.moments lines
unfolding FitsBackThroughout
further_fits w ms line lines fits goes =
    let s = one_line w ms (item_of line) in
    if_it_goes s.goes (FitsBackThroughout s.world s.moments lines) fits.1 goes

-- ---- contents on the way

-- what dumps have behind a line that goes on or not, and behind those after it
abbrev behind_line : Bool → ℕ → Contents → (ℕ → Contents) → ℕ → Contents
behind_line b size here later count = if b && nat_lt size count then later (count - size) else here

further : (w : World) (s rest : Outcome) (later : ℕ → Contents) (b : Bool) → Leads w (λ count. s.world.contents) s.effects s.world → (b ≡ true → Leads s.world later rest.effects rest.world)
    → let o = (if b then then_outcome s rest else s) in Leads w (behind_line b (length s.effects) s.world.contents later) o.effects o.world
further w s rest later true first second =
    leads_then w s.world rest.world s.effects rest.effects (λ count. s.world.contents) later (behind_line true (length s.effects) s.world.contents later)
    (λ count le. ap (λ (t : Bool). if t then later (count - length s.effects) else s.world.contents) (room_false (length s.effects) count le))
    (λ count lt. ap (λ (t : Bool). if t then later (count - length s.effects) else s.world.contents) (full_true (length s.effects) count lt)) first (second refl)
further w s rest later false first second = first

-- ---- lines

told_ready : (w : World) (text : List ℕ) (time : ℕ) → IsReady (record w { time = time }) → IsReady (record (with_told w text) { time = time })
told_ready w text time ready = record { order = ready.order; name = ready.name; ports = ready.ports; apart = ready.apart }

ready_now : (w : World) → IsReady (record w { time = w.time }) → IsReady w
ready_now w ready = record { order = ready.order; name = ready.name; ports = ready.ports; apart = ready.apart }

-- the time at the first command is no earlier, and has four bytes
pub time_later : (time : ℕ) (ms : List ℕ) (lines : List (List ℕ)) → time ≤ time_at_first time ms lines
unfolding time_at_first
time_later time ms [] = omega arith
time_later time ms (line ∷ lines) = by (item_of line) (time_later time (left_behind ms (item_of line)) lines)
  where
    by : (item : Item) → time ≤ time_at_first time (left_behind ms (item_of line)) lines → time ≤ time_by time ms item (time_at_first time (left_behind ms (item_of line)) lines)
    by Silent further = further
    by Quit further = omega arith
    by (Refused text) further = further
    by (Runs command) further = omega arith

pub time_four : (time : ℕ) (ms : List ℕ) (lines : List (List ℕ)) → IsFour time → IsFour (time_at_first time ms lines)
unfolding time_at_first
time_four time ms [] four = four
time_four time ms (line ∷ lines) four = by (item_of line) (time_four time (left_behind ms (item_of line)) lines four)
  where
    by : (item : Item) → IsFour (time_at_first time (left_behind ms (item_of line)) lines) → IsFour (time_by time ms item (time_at_first time (left_behind ms (item_of line)) lines))
    by Silent further = further
    by Quit further = four
    by (Refused text) further = further
    by (Runs command) further = moment_four time (first_of ms) four

-- so a world that is ready is ready at the first command
pub ready_at_first : (w : World) (ms : List ℕ) (lines : List (List ℕ)) → IsReady w → IsReady (at_first w ms lines)
ready_at_first w ms lines ready = record {
  order = order_later w.cell w.time (time_at_first w.time ms lines) (archive_of w) ready.order (time_later w.time ms lines) (time_four w.time ms lines ready.order.four);
  name = ready.name;
  ports = ready.ports;
  apart = ready.apart;
}

module _ (laws : Lower) where
  -- what stands behind a line is ready at the first command of those after it
  line_ready : (w : World) (ms : List ℕ) (lines : List (List ℕ)) → HoldsWorld w → (item : Item) → IsReady (record w { time = time_by w.time ms item (time_at_first w.time (left_behind ms item) lines) }) → ItemForms item → ItemApart item → RestoresApartOn w item
      → FitsBackOn (at_moment w (first_of ms)) item → let s = one_line w ms item in s.goes ≡ true → IsReady (at_first s.world s.moments lines)
  line_ready w ms lines held Silent ready forms named apart back goes = ready
  line_ready w ms lines held Quit ready forms named apart back goes = absurd cc
  line_ready w ms lines held (Refused text) ready forms named apart back goes = told_ready w text (time_at_first w.time (later ms) lines) ready
  line_ready w ms lines held (Runs command) ready forms named apart back goes =
      let s = one_line w ms (Runs command) in
      ready_at_first s.world s.moments lines (turn_ready laws w (first_of ms) held ready command forms named apart back)

  -- and ready where the script ends there
  line_ends : (w : World) (ms : List ℕ) (further : ℕ) → HoldsWorld w → (item : Item) → IsReady (record w { time = time_by w.time ms item further }) → ItemForms item → ItemApart item → RestoresApartOn w item → let s = one_line w ms item in s.goes ≡ false → IsReady s.world
  line_ends w ms further held Silent ready forms named apart ends = absurd cc
  line_ends w ms further held Quit ready forms named apart ends = ready_now w ready
  line_ends w ms further held (Refused text) ready forms named apart ends = absurd cc
  line_ends w ms further held (Runs command) ready forms named apart ends = absurd cc

  -- a line that dumps finds a world that is ready at its moment
  line_finds_ready : (w : World) (ms : List ℕ) (further : ℕ) (item : Item) → IsReady (record w { time = time_by w.time ms item further }) → item_asks_dump item ≡ true → IsReady (at_moment w (first_of ms))
  line_finds_ready w ms further Silent ready asks = absurd cc
  line_finds_ready w ms further Quit ready asks = absurd cc
  line_finds_ready w ms further (Refused text) ready asks = absurd cc
  line_finds_ready w ms further (Runs command) ready asks = ready

  -- ---- what is asked of the world on the way

  module _ (w : World) (ms : List ℕ) (line : List ℕ) (lines : List (List ℕ)) (ready : IsReadyFor w ms (line ∷ lines)) where
    fits : FitsBackThroughout w ms (line ∷ lines)
    fits = fits_throughout w ms (line ∷ lines) ready.back

    -- in front of the first line
    ready_first : ReadyForItem w ms (item_of line)
    unfolding time_at_first
    ready_first = record {
      ready = λ asks. line_finds_ready w ms (time_at_first w.time (left_behind ms (item_of line)) lines) (item_of line) (ready.dumps (dump_here (item_of line) (dumps_among lines) asks)).0 asks;
      back = first_fits w ms line lines fits;
    }

    -- and behind it
    ready_further : HoldsWorld w → let s = one_line w ms (item_of line) in s.goes ≡ true → IsReadyFor s.world s.moments lines
    unfolding RestoresApartThroughout time_at_first
    ready_further held goes =
        let s = one_line w ms (item_of line) in
        record {
          dumps = λ asks.
              (let both = ready.dumps (dump_later w ms (item_of line) (dumps_among lines) goes asks) in (
                line_ready w ms lines held (item_of line) both.0 (item_forms line) (item_apart line) both.1.0 (first_fits w ms line lines fits) goes,
                if_it_goes s.goes (RestoresApartThroughout s.world s.moments lines) both.1.1 goes,
              ));
          back = λ reads. further_fits w ms line lines fits goes;
        }

  -- ---- scripts

  pub script_leads : (w : World) (ms : List ℕ) (lines : List (List ℕ)) → HoldsWorld w → IsReadyFor w ms lines → Leads w (contents_on w ms lines) (script w ms lines).effects (script w ms lines).world
  unfolding script contents_on
  script_leads w ms [] held ready = leads_nowhere w (finds_of w held)
  script_leads w ms (line ∷ lines) held ready =
      let s = one_line w ms (item_of line) in
      let first = ready_first w ms line lines ready in
      further w s (script s.world s.moments lines) (contents_on s.world s.moments lines) s.goes (line_leads laws w ms held (item_of line) (item_forms line) first)
      (λ goes. script_leads s.world s.moments lines (line_holds laws w ms held (item_of line) (item_forms line) first) (ready_further w ms line lines ready held goes))

  pub script_settles : (w : World) (ms : List ℕ) (lines : List (List ℕ)) → HoldsWorld w → IsReadyFor w ms lines → RepliesSettle w (script w ms lines).effects
  unfolding script
  script_settles w ms [] held ready = settles_nowhere w
  script_settles w ms (line ∷ lines) held ready =
      let s = one_line w ms (item_of line) in
      let first = ready_first w ms line lines ready in
      further_settles w s (script s.world s.moments lines) s.goes (line_leads laws w ms held (item_of line) (item_forms line) first).state (line_settles laws w ms held (item_of line) (item_forms line) first)
      (λ goes. script_settles s.world s.moments lines (line_holds laws w ms held (item_of line) (item_forms line) first) (ready_further w ms line lines ready held goes))

  further_holds : (s rest : Outcome) (b : Bool) → HoldsWorld s.world → (b ≡ true → HoldsWorld rest.world) → HoldsWorld (if b then then_outcome s rest else s).world
  further_holds s rest true first second = second refl
  further_holds s rest false first second = first

  pub script_holds : (w : World) (ms : List ℕ) (lines : List (List ℕ)) → HoldsWorld w → IsReadyFor w ms lines → HoldsWorld (script w ms lines).world
  unfolding script
  script_holds w ms [] held ready = held
  script_holds w ms (line ∷ lines) held ready =
      let s = one_line w ms (item_of line) in
      let first = line_holds laws w ms held (item_of line) (item_forms line) (ready_first w ms line lines ready) in
      further_holds s (script s.world s.moments lines) s.goes first (λ goes. script_holds s.world s.moments lines first (ready_further w ms line lines ready held goes))

  further_came : (w : World) (s rest : Outcome) (b : Bool) → CameSince w s.world → (b ≡ true → CameSince s.world rest.world) → CameSince w (if b then then_outcome s rest else s).world
  further_came w s rest true first second = came_then w s.world rest.world first (second refl)
  further_came w s rest false first second = first

  -- what the archive came of it comes of behind the script
  pub script_came : SinceLaws → (w : World) (ms : List ℕ) (lines : List (List ℕ)) → HoldsWorld w → IsReadyFor w ms lines → CameSince w (script w ms lines).world
  unfolding script
  script_came since w ms [] held ready = came_itself w
  script_came since w ms (line ∷ lines) held ready =
      let s = one_line w ms (item_of line) in
      let first = ready_first w ms line lines ready in
      further_came w s (script s.world s.moments lines) s.goes (line_came laws w ms held since (item_of line) (item_forms line) first)
      (λ goes. script_came since s.world s.moments lines (line_holds laws w ms held (item_of line) (item_forms line) first) (ready_further w ms line lines ready held goes))

  pub script_finds : (w : World) (ms : List ℕ) (lines : List (List ℕ)) → HoldsWorld w → IsReadyFor w ms lines → IsHeldThroughout w ms lines
  unfolding IsHeldThroughout
  script_finds w ms [] held ready = tt
  script_finds w ms (line ∷ lines) held ready =
      let s = one_line w ms (item_of line) in (
        line_finds w ms (item_of line) (finds_of w held),
        goes_on s.goes (IsHeldThroughout s.world s.moments lines)
            (λ goes. script_finds s.world s.moments lines (line_holds laws w ms held (item_of line) (item_forms line) (ready_first w ms line lines ready)) (ready_further w ms line lines ready held goes)),
      )

  further_ready : (s rest : Outcome) (b : Bool) → (b ≡ false → IsReady s.world) → (b ≡ true → IsReady rest.world) → IsReady (if b then then_outcome s rest else s).world
  further_ready s rest true first second = second refl
  further_ready s rest false first second = first refl

  pub script_ready : (w : World) (ms : List ℕ) (lines : List (List ℕ)) → RestoresApartThroughout w ms lines → FitsBackThroughout w ms lines → HoldsWorld w → IsReady (at_first w ms lines) → IsReady (script w ms lines).world
  unfolding script RestoresApartThroughout time_at_first
  script_ready w ms [] apart back held ready = ready_now w ready
  script_ready w ms (line ∷ lines) apart back held ready =
      let s = one_line w ms (item_of line) in
      let here = first_fits w ms line lines back in
      let later_on = time_at_first w.time (left_behind ms (item_of line)) lines in
      further_ready s (script s.world s.moments lines) s.goes
      (λ ends. line_ends w ms later_on held (item_of line) ready (item_forms line) (item_apart line) apart.0 ends)
      (λ goes. script_ready s.world s.moments lines (if_it_goes s.goes (RestoresApartThroughout s.world s.moments lines) apart.1 goes) (further_fits w ms line lines back goes)
      (line_holds laws w ms held (item_of line) (item_forms line) (record { ready = line_finds_ready w ms later_on (item_of line) ready; back = here }))
      (line_ready w ms lines held (item_of line) ready (item_forms line) (item_apart line) apart.0 here goes))
