-- The stages of a script.
use Rattle.std.proofs.Common.{◌≡◌, ◌⊎◌, inl, inr, ℕ, Bool, true, false, List, [], ◌∷◌, ◌++◌, refl, sym, ◌∙◌, ap, subst, append_assoc}
use Rattle.std.specs.Prelude.{if◌then◌else◌}
use Rattle.std.proofs.lemmas.List.{append-nil}
use Rattle.plant_core.specs.Effects.{Effect, tells}
use Rattle.backup_session.specs.Worlds.{World}
use Rattle.backup_session.specs.Machine.{turn}
use Rattle.backup_script.specs.declared.item.Item.{Item}
use Rattle.backup_script.specs.declared.item.Item.TheVariants.{Silent, Quit, Runs, Refused}
use Rattle.backup_script.specs.Items.{item_of}
use Rattle.backup_script.specs.Scripts.{first_of, Outcome, then_outcome, one_line, script, Stage, between, ending, InsideLine, OnLine, WhereItGoes, IsStage}

-- a stage behind these effects
abbrev pub behind : List Effect → Stage → Stage
behind before stage = record { cell = stage.cell; effects = before ++ stage.effects; moments = stage.moments; whole = before ++ stage.whole }

ending_behind : (before first more : List Effect) (w : World) (ms : List ℕ) (stage : Stage) → stage ≡ ending first more w ms → behind before stage ≡ ending (before ++ first) more w ms
ending_behind before first more w ms stage is =
    let same : behind before (ending first more w ms) ≡ ending (before ++ first) more w ms = λ i. record { cell = w.cell; effects = sym (append_assoc before first more) i; moments = ms; whole = before ++ first } in
    ap (behind before) is ∙ same

inside_behind : (before first : List Effect) (w : World) (ms : List ℕ) (item : Item) (stage : Stage) → InsideLine first w ms item stage → InsideLine (before ++ first) w ms item (behind before stage)
inside_behind before first w ms Silent stage inside = absurd inside
inside_behind before first w ms Quit stage inside = absurd inside
inside_behind before first w ms (Refused text) stage inside = ap (behind before) inside
inside_behind before first w ms (Runs command) stage inside =
    (inside.0, ap (λ (es : List Effect). before ++ es) inside.1 ∙ sym (append_assoc before first (turn w (first_of ms) command).effects), inside.2, ap (λ (es : List Effect). before ++ es) inside.3)

line_behind : (before first : List Effect) (w : World) (ms : List ℕ) (item : Item) (stage : Stage) → OnLine first w ms item stage → OnLine (before ++ first) w ms item (behind before stage)
line_behind before first w ms item stage on = elim on [
  | inl front ↦ inl (ap (behind before) front)
  | inr rest ↦ elim rest [
    | inl inside ↦ inr (inl (inside_behind before first w ms item stage inside))
    | inr end ↦ let s = one_line w ms item in inr (inr (ending_behind before first s.effects s.world s.moments stage end))
  ]
]

-- in front of all lines
pub stage_front : (first : List Effect) (w : World) (ms : List ℕ) (lines : List (List ℕ)) → IsStage first w ms lines (between first w ms)
unfolding IsStage
stage_front first w ms [] = refl
stage_front first w ms (line ∷ lines) = inl (inl refl)

further_behind : (b : Bool) (Here There : Type 0) → (Here → There) → WhereItGoes b Here → WhereItGoes b There
further_behind true Here There on here = on here
further_behind false Here There on never = never

pub stage_behind : (before first : List Effect) (w : World) (ms : List ℕ) (lines : List (List ℕ)) (stage : Stage) → IsStage first w ms lines stage → IsStage (before ++ first) w ms lines (behind before stage)
unfolding IsStage
stage_behind before first w ms [] stage is = ap (behind before) is
stage_behind before first w ms (line ∷ lines) stage is =
    let s = one_line w ms (item_of line) in
    elim is [
      | inl on ↦ inl (line_behind before first w ms (item_of line) stage on)
      | inr later ↦ inr (further_behind s.goes (IsStage (first ++ s.effects) s.world s.moments lines stage) (IsStage ((before ++ first) ++ s.effects) s.world s.moments lines (behind before stage))
          (λ here. subst (λ (es : List Effect). IsStage es s.world s.moments lines (behind before stage)) (sym (append_assoc before first s.effects)) (stage_behind before (first ++ s.effects) s.world s.moments lines stage here)) later)
    ]

-- behind the first lines
later_on : (first : List Effect) (s rest : Outcome) (At : List Effect → World → List ℕ → Type 0) (Here : Type 0) (b : Bool) → s.goes ≡ b
    → (rest.goes ≡ true → At ((first ++ s.effects) ++ rest.effects) rest.world rest.moments → Here)
    → (if b then then_outcome s rest else s).goes ≡ true
    → At (first ++ (if b then then_outcome s rest else s).effects) (if b then then_outcome s rest else s).world (if b then then_outcome s rest else s).moments → WhereItGoes b Here
later_on first s rest At Here true is further on at = further on (subst (λ (es : List Effect). At es rest.world rest.moments) (sym (append_assoc first s.effects rest.effects)) at)
later_on first s rest At Here false is further on at = absurd (cc)

pub stage_later : (first : List Effect) (w : World) (ms : List ℕ) (ran more : List (List ℕ)) (stage : Stage) → (script w ms ran).goes ≡ true
    → IsStage (first ++ (script w ms ran).effects) (script w ms ran).world (script w ms ran).moments more stage → IsStage first w ms (ran ++ more) stage
unfolding script IsStage
stage_later first w ms [] more stage goes is = subst (λ (es : List Effect). IsStage es w ms more stage) (append-nil first) is
stage_later first w ms (line ∷ ran) more stage goes is =
    let s = one_line w ms (item_of line) in
    inr (later_on first s (script s.world s.moments ran) (λ es v ns. IsStage es v ns more stage) (IsStage (first ++ s.effects) s.world s.moments (ran ++ more) stage) s.goes refl
    (stage_later (first ++ s.effects) s.world s.moments ran more stage) goes is)

-- behind a line that ends the script: it has no effects
never : true ≡ false → ⊥
never is = cc

stops_on : (first : List Effect) (w : World) (ms : List ℕ) (item : Item) → let s = one_line w ms item in s.goes ≡ false → OnLine first w ms item (between (first ++ s.effects) s.world s.moments)
stops_on first w ms Silent stops = absurd (never stops)
stops_on first w ms Quit stops = inl (ap (λ (es : List Effect). between es w ms) (append-nil first))
stops_on first w ms (Refused text) stops = absurd (never stops)
stops_on first w ms (Runs command) stops = absurd (never stops)

-- behind all lines
last_on : (first : List Effect) (w : World) (ms : List ℕ) (item : Item) (rest : Outcome) (At : List Effect → World → List ℕ → Stage → Type 0) (b : Bool) → (one_line w ms item).goes ≡ b
    → let s = one_line w ms item in At (first ++ s.effects) s.world s.moments (between ((first ++ s.effects) ++ rest.effects) rest.world rest.moments)
    → let whole = if b then then_outcome s rest else s in OnLine first w ms item (between (first ++ whole.effects) whole.world whole.moments)
    ⊎ WhereItGoes b (At (first ++ s.effects) s.world s.moments (between (first ++ whole.effects) whole.world whole.moments))
last_on first w ms item rest At true is at = let s = one_line w ms item in inr (subst (λ (es : List Effect). At (first ++ s.effects) s.world s.moments (between es rest.world rest.moments)) (append_assoc first s.effects rest.effects) at)
last_on first w ms item rest At false is at = inl (stops_on first w ms item is)

pub stage_last : (first : List Effect) (w : World) (ms : List ℕ) (lines : List (List ℕ)) → IsStage first w ms lines (between (first ++ (script w ms lines).effects) (script w ms lines).world (script w ms lines).moments)
unfolding script IsStage
stage_last first w ms [] = ap (λ (es : List Effect). between es w ms) (append-nil first)
stage_last first w ms (line ∷ lines) =
    let s = one_line w ms (item_of line) in
    last_on first w ms (item_of line) (script s.world s.moments lines) (λ es v ns stage. IsStage es v ns lines stage) s.goes refl (stage_last (first ++ s.effects) s.world s.moments lines)

-- ---- what may be done by a stage is a front of what the script does

abbrev IsFront : List Effect → List Effect → Type 0
IsFront front whole = (more : List Effect) × (whole ≡ front ++ more)

front_more : (a b c : List Effect) → IsFront a b → IsFront b c → IsFront a c
front_more a b c one two = (one.0 ++ two.0, two.1 ∙ ap (λ (l : List Effect). l ++ two.0) one.1 ∙ append_assoc a one.0 two.0)

-- all of a line
line_front : (first : List Effect) (s rest : Outcome) (b : Bool) → IsFront (first ++ s.effects) (first ++ (if b then then_outcome s rest else s).effects)
line_front first s rest true = (rest.effects, sym (append_assoc first s.effects rest.effects))
line_front first s rest false = ([], sym (append-nil (first ++ s.effects)))

inside_front : (first : List Effect) (w : World) (ms : List ℕ) (item : Item) (stage : Stage) → InsideLine first w ms item stage → IsFront stage.effects (first ++ (one_line w ms item).effects)
inside_front first w ms Silent stage inside = absurd inside
inside_front first w ms Quit stage inside = absurd inside
inside_front first w ms (Refused text) stage inside = (tells text ∷ [], ap (λ (x : Stage). x.effects ++ tells text ∷ []) (sym inside))
inside_front first w ms (Runs command) stage inside =
    let t = turn w (first_of ms) command in
    (tells t.reply ∷ [], sym (append_assoc first t.effects (tells t.reply ∷ [])) ∙ ap (λ (es : List Effect). es ++ tells t.reply ∷ []) (sym inside.1))

on_front : (first : List Effect) (w : World) (ms : List ℕ) (item : Item) (stage : Stage) → OnLine first w ms item stage → IsFront stage.effects (first ++ (one_line w ms item).effects)
on_front first w ms item stage on =
    let s = one_line w ms item in
    elim on [
      | inl front ↦ (s.effects, ap (λ (x : Stage). x.effects ++ s.effects) (sym front))
      | inr later ↦ elim later [
        | inl inside ↦ inside_front first w ms item stage inside
        | inr end ↦ ([], ap (λ (x : Stage). x.effects) (sym end) ∙ sym (append-nil stage.effects))
      ]
    ]

further_front : (first : List Effect) (s rest : Outcome) (stage : Stage) (b : Bool) → WhereItGoes b (IsFront stage.effects ((first ++ s.effects) ++ rest.effects)) → IsFront stage.effects (first ++ (if b then then_outcome s rest else s).effects)
further_front first s rest stage true (more, is) = (more, sym (append_assoc first s.effects rest.effects) ∙ is)
further_front first s rest stage false never = absurd never

pub stage_whole : (first : List Effect) (w : World) (ms : List ℕ) (lines : List (List ℕ)) (stage : Stage) → IsStage first w ms lines stage
    → (more : List Effect) × (first ++ (script w ms lines).effects ≡ stage.effects ++ more)
unfolding script IsStage
stage_whole first w ms [] stage is = ([], ap (λ (x : Stage). x.effects ++ []) (sym is))
stage_whole first w ms (line ∷ lines) stage is =
    let s = one_line w ms (item_of line) in
    let rest = script s.world s.moments lines in
    elim is [
      | inl on ↦ front_more stage.effects (first ++ s.effects) (first ++ (if s.goes then then_outcome s rest else s).effects) (on_front first w ms (item_of line) stage on) (line_front first s rest s.goes)
      | inr later ↦ further_front first s rest stage s.goes
          (further_behind s.goes (IsStage (first ++ s.effects) s.world s.moments lines stage) (IsFront stage.effects ((first ++ s.effects) ++ rest.effects)) (stage_whole (first ++ s.effects) s.world s.moments lines stage) later)
    ]

-- ---- what is whole by a stage

inside_whole : (first : List Effect) (w : World) (ms : List ℕ) (item : Item) (stage : Stage) → InsideLine first w ms item stage → stage.whole ≡ first
inside_whole first w ms Silent stage inside = absurd inside
inside_whole first w ms Quit stage inside = absurd inside
inside_whole first w ms (Refused text) stage inside = ap (λ (x : Stage). x.whole) inside
inside_whole first w ms (Runs command) stage inside = inside.3

-- on a line it is what stands in front of the line
pub line_whole : (first : List Effect) (w : World) (ms : List ℕ) (item : Item) (stage : Stage) → OnLine first w ms item stage → stage.whole ≡ first
line_whole first w ms item stage on = elim on [
  | inl front ↦ ap (λ (x : Stage). x.whole) front
  | inr later ↦ elim later [
    | inl inside ↦ inside_whole first w ms item stage inside
    | inr end ↦ ap (λ (x : Stage). x.whole) end
  ]
]
