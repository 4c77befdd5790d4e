-- What lines find, and what those in front of others and behind them find.
use Rattle.std.proofs.Common.{◌≡◌, ℕ, Bool, true, false, List, [], ◌∷◌, ◌++◌, All, refl}
use Rattle.std.specs.Prelude.{if◌then◌else◌}
use Rattle.std.proofs.lemmas.List.Elements.{All-head, All-tail}
use Rattle.backup_session.specs.Asks.{asks_archive}
use Rattle.backup_session.specs.Worlds.{World, at_moment}
use Rattle.backup_session.specs.Held.{HeldWhere}
use Rattle.backup_script.specs.declared.item.Item.{Item}
use Rattle.backup_script.specs.declared.item.Item.TheVariants.{Silent, Quit, Runs, Refused}
use Rattle.backup_script.specs.Items.{item_of}
use Rattle.backup_script.specs.Scripts.{Outcome, first_of, one_line, then_outcome, script}
use Rattle.backup_script.specs.Held.{HeldForLine, IfItGoes, IsHeldThroughout, item_asks_archive, line_asks_archive}

-- the first line
pub held_first : (w : World) (ms line : List ℕ) (lines : List (List ℕ)) → IsHeldThroughout w ms (line ∷ lines) → HeldForLine w ms (item_of line)
unfolding IsHeldThroughout
held_first w ms line lines held = held.0

further : (b : Bool) (Here There : Type 0) → (Here → There) → IfItGoes b Here → IfItGoes b There
further true Here There on here = on here
further false Here There on none = tt

-- the first lines
pub held_front : (ran more : List (List ℕ)) (w : World) (ms : List ℕ) → IsHeldThroughout w ms (ran ++ more) → IsHeldThroughout w ms ran
unfolding IsHeldThroughout
held_front [] more w ms held = tt
held_front (line ∷ ran) more w ms held =
    let s = one_line w ms (item_of line) in
    (held.0, further s.goes (IsHeldThroughout s.world s.moments (ran ++ more)) (IsHeldThroughout s.world s.moments ran) (held_front ran more s.world s.moments) held.1)

-- the lines behind them
later : (s rest : Outcome) (At : World → List ℕ → Type 0) (Here : Type 0) (b : Bool) → (rest.goes ≡ true → Here → At rest.world rest.moments)
    → (if b then then_outcome s rest else s).goes ≡ true → s.goes ≡ b → IfItGoes b Here → At (if b then then_outcome s rest else s).world (if b then then_outcome s rest else s).moments
later s rest At Here true on goes is here = on goes here
later s rest At Here false on goes is none = absurd (cc)

pub held_behind : (ran more : List (List ℕ)) (w : World) (ms : List ℕ) → (script w ms ran).goes ≡ true → IsHeldThroughout w ms (ran ++ more) → IsHeldThroughout (script w ms ran).world (script w ms ran).moments more
unfolding script IsHeldThroughout
held_behind [] more w ms goes held = held
held_behind (line ∷ ran) more w ms goes held =
    let s = one_line w ms (item_of line) in
    later s (script s.world s.moments ran) (λ v ns. IsHeldThroughout v ns more) (IsHeldThroughout s.world s.moments (ran ++ more)) s.goes (held_behind ran more s.world s.moments) goes refl held.1

-- ---- lines that don't ask the archive

never : true ≡ false → ⊥
never is = cc

where_none : (b : Bool) (w : World) → b ≡ false → HeldWhere b w
where_none true w none = absurd (never none)
where_none false w none = tt

item_none : (w : World) (ms : List ℕ) (item : Item) → item_asks_archive item ≡ false → HeldForLine w ms item
item_none w ms Silent none = tt
item_none w ms Quit none = tt
item_none w ms (Refused text) none = tt
item_none w ms (Runs command) none = where_none (asks_archive command) (at_moment w (first_of ms)) none

goes_on : (b : Bool) (Here : Type 0) → Here → IfItGoes b Here
goes_on true Here here = here
goes_on false Here here = tt

pub held_unasked : (w : World) (ms : List ℕ) (lines : List (List ℕ)) → All (λ line. line_asks_archive line ≡ false) lines → IsHeldThroughout w ms lines
unfolding IsHeldThroughout
held_unasked w ms [] none = tt
held_unasked w ms (line ∷ lines) none =
    let s = one_line w ms (item_of line) in (
      item_none w ms (item_of line) (All-head (λ l. line_asks_archive l ≡ false) line lines none),
      goes_on s.goes (IsHeldThroughout s.world s.moments lines) (held_unasked s.world s.moments lines (All-tail (λ l. line_asks_archive l ≡ false) line lines none)),
    )
