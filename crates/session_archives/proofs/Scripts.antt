-- Each line of a script keeps the archive, and each of its commands finds it.
use Rattle.std.proofs.Common.{◌≡◌, ℕ, Bool, true, false, List, refl}
use Rattle.backup_session.specs.Asks.{asks_archive}
use Rattle.backup_session.specs.Worlds.{World, at_moment}
use Rattle.backup_session.specs.Bounded.{HasTapes}
use Rattle.backup_session.specs.Held.{HeldWhere}
use Rattle.backup_session.specs.Machine.{turn}
use Rattle.backup_session.proofs.TapeBounds.{told_has_tapes}
use Rattle.backup_script.specs.declared.item.Item.{Item}
use Rattle.backup_script.specs.declared.item.Item.TheVariants.{Silent, Quit, Runs, Refused}
use Rattle.backup_script.specs.Scripts.{first_of, one_line}
use Rattle.backup_script.specs.Held.{HeldForLine}
use Rattle.script_journals.specs.Dumping.{item_asks_dump}
use Rattle.script_journals.specs.Worlds.{HasGroupForm}
use Rattle.script_journals.proofs.Groups.{turn_group}
use Rattle.script_journals.proofs.Scripts.{ItemForms}
use Rattle.session_archives.specs.Held.{HoldsWorld}
use Rattle.session_archives.specs.Ready.{IsReady, FitsBackOn}
use Rattle.session_archives.specs.Since.{CameSince}
use Rattle.session_archives.proofs.Kept.{Finds}
use Rattle.session_archives.proofs.Leading.{Leads, leads_nowhere, leads_told, leads_replied}
use Rattle.session_archives.proofs.TurnLeads.{Lower, finds_of, world_of, finds_later, turn_leads, turn_tapes}
use Rattle.session_archives.proofs.DumpTurns.{SinceLaws}
use Rattle.session_archives.proofs.Sinces.{same_came}
use Rattle.session_archives.proofs.SinceTurns.{turn_came}

-- ---- lines

-- a line that dumps finds a world that is ready at its moment, and what one reads back fits the media
pub record ReadyForItem (w : World) (ms : List ℕ) (item : Item) : Type 0 where
  pub ready : item_asks_dump item ≡ true → IsReady (at_moment w (first_of ms))
  pub back : FitsBackOn (at_moment w (first_of ms)) item

module _ (laws : Lower) (w : World) (ms : List ℕ) (held : HoldsWorld w) where
  pub line_leads : (item : Item) → ItemForms item → ReadyForItem w ms item → Leads w (λ count. (one_line w ms item).world.contents) (one_line w ms item).effects (one_line w ms item).world
  line_leads Silent forms ready = leads_nowhere w (finds_of w held)
  line_leads Quit forms ready = leads_nowhere w (finds_of w held)
  line_leads (Refused text) forms ready = leads_told w text (finds_of w held)
  line_leads (Runs command) forms ready = leads_replied w (turn w (first_of ms) command) (turn_leads laws w (first_of ms) held command forms (record { ready = ready.ready; back = ready.back }))

  line_tapes : (item : Item) → ItemForms item → ReadyForItem w ms item → HasTapes (one_line w ms item).world
  line_tapes Silent forms ready = held.tapes
  line_tapes Quit forms ready = held.tapes
  line_tapes (Refused text) forms ready = told_has_tapes w text held.tapes
  line_tapes (Runs command) forms ready = turn_tapes laws w (first_of ms) held command forms (record { ready = ready.ready; back = ready.back })

  line_group : (item : Item) → ItemForms item → HasGroupForm (one_line w ms item).world.groups.open
  line_group Silent forms = held.group
  line_group Quit forms = held.group
  line_group (Refused text) forms = held.group
  line_group (Runs command) forms = turn_group w (first_of ms) command forms held.group

  -- so the world behind it is held
  pub line_holds : (item : Item) → ItemForms item → ReadyForItem w ms item → HoldsWorld (one_line w ms item).world
  line_holds item forms ready = world_of (one_line w ms item).world (line_tapes item forms ready) (line_leads item forms ready).finds (line_group item forms)

  -- and what the archive came of it comes of there
  pub line_came : SinceLaws → (item : Item) → ItemForms item → ReadyForItem w ms item → CameSince w (one_line w ms item).world
  line_came since Silent forms ready = same_came w (one_line w ms Silent).world refl refl refl
  line_came since Quit forms ready = same_came w (one_line w ms Quit).world refl refl refl
  line_came since (Refused text) forms ready = same_came w (one_line w ms (Refused text)).world refl refl refl
  line_came since (Runs command) forms ready = turn_came laws since w (first_of ms) held command forms (record { ready = ready.ready; back = ready.back })

-- ---- what a line finds

asked_or_not : (b : Bool) (w : World) → Finds w → HeldWhere b w
asked_or_not true w finds = (finds.holds.0, finds.holds.1.seen)
asked_or_not false w finds = tt

pub line_finds : (w : World) (ms : List ℕ) (item : Item) → Finds w → HeldForLine w ms item
line_finds w ms Silent finds = tt
line_finds w ms Quit finds = tt
line_finds w ms (Refused text) finds = tt
line_finds w ms (Runs command) finds = asked_or_not (asks_archive command) (at_moment w (first_of ms)) (finds_later w (first_of ms) finds)
