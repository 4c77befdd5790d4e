-- What comes of lines that stand behind one another. Nothing here speaks of a single command.
use Rattle.std.proofs.Common.{◌≡◌, ℕ, Bool, true, false, List, [], ◌∷◌, ◌++◌, refl, sym, ◌∙◌, ap, append_assoc}
use Rattle.std.specs.Prelude.{if◌then◌else◌}
use Rattle.std.proofs.lemmas.List.{append-nil}
use Rattle.backup_session.specs.Worlds.{World}
use Rattle.backup_script.specs.Items.{item_of}
use Rattle.backup_script.specs.Scripts.{Outcome, nothing, then_outcome, one_line, script}

pub then_then : (r s t : Outcome) → then_outcome r (then_outcome s t) ≡ then_outcome (then_outcome r s) t
then_then r s t = λ i. record t { effects = sym (append_assoc r.effects s.effects t.effects) i }

pub then_nothing : (s : Outcome) → s.goes ≡ true → then_outcome s (nothing s.world s.moments true) ≡ s
then_nothing s goes = λ i. record s { effects = append-nil s.effects i; goes = sym goes i }

-- a line alone
alone : (s : Outcome) (b : Bool) → s.goes ≡ b → (if b then then_outcome s (nothing s.world s.moments true) else s) ≡ s
alone s true goes = then_nothing s goes
alone s false stops = refl

pub script_one : (w : World) (ms : List ℕ) (line : List ℕ) → script w ms (line ∷ []) ≡ one_line w ms (item_of line)
unfolding script
script_one w ms line = let s = one_line w ms (item_of line) in alone s s.goes refl

-- more lines behind these, which don't end the script
more_behind : (s rest more : Outcome) (after : World → List ℕ → Outcome) (b : Bool) → s.goes ≡ b → (rest.goes ≡ true → more ≡ then_outcome rest (after rest.world rest.moments)) → (if b then then_outcome s rest else s).goes ≡ true
    → (if b then then_outcome s more else s) ≡ then_outcome (if b then then_outcome s rest else s) (after (if b then then_outcome s rest else s).world (if b then then_outcome s rest else s).moments)
more_behind s rest more after true is further on = ap (then_outcome s) (further on) ∙ then_then s rest (after rest.world rest.moments)
more_behind s rest more after false is further on = absurd (cc)

pub script_more : (ran more : List (List ℕ)) (w : World) (ms : List ℕ) → (script w ms ran).goes ≡ true
    → script w ms (ran ++ more) ≡ then_outcome (script w ms ran) (script (script w ms ran).world (script w ms ran).moments more)
unfolding script
script_more [] more w ms goes = refl
script_more (line ∷ ran) more w ms goes =
    let s = one_line w ms (item_of line) in
    more_behind s (script s.world s.moments ran) (script s.world s.moments (ran ++ more)) (λ v ns. script v ns more) s.goes refl (script_more ran more s.world s.moments) goes

-- lines behind the end of a script change nothing
end_behind : (s rest more : Outcome) (b : Bool) → (rest.goes ≡ false → more ≡ rest) → (if b then then_outcome s rest else s).goes ≡ false → (if b then then_outcome s more else s) ≡ (if b then then_outcome s rest else s)
end_behind s rest more true further off = ap (then_outcome s) (further off)
end_behind s rest more false further off = refl

pub script_ended : (ran more : List (List ℕ)) (w : World) (ms : List ℕ) → (script w ms ran).goes ≡ false → script w ms (ran ++ more) ≡ script w ms ran
unfolding script
script_ended [] more w ms stops = absurd (cc)
script_ended (line ∷ ran) more w ms stops =
    let s = one_line w ms (item_of line) in
    end_behind s (script s.world s.moments ran) (script s.world s.moments (ran ++ more)) s.goes (script_ended ran more s.world s.moments) stops
