-- The loop over a script: what is known between two lines, and what comes of it at each end.
use Rattle.std.proofs.Common.{◌≡◌, ◌⊎◌, inl, inr, ℕ, ◌+◌, ◌≤◌, Bool, true, false, ◌||◌, List, [], ◌∷◌, ◌++◌, length, All, refl, sym, ◌∙◌, ap, subst, arith, append_assoc, length-append, Err}
use Rattle.std.specs.Str.Lines.{lines, strip_carriage_return}
use Rattle.std.proofs.lemmas.List.{append-nil}
use Rattle.std.proofs.lemmas.List.Folds.{list_any-append}
use Rattle.plant_core.specs.declared.plant.Plant.{Ghosts as Plant}
use Rattle.plant_core.specs.Effects.{Effect}
use Rattle.plant_effects.specs.Runs.{Done}
use Rattle.plant_effects.proofs.Joining.{Fits as FitsPlant, done_both, leaves_both}
use Rattle.cell_core.specs.declared.cell.Cell.{Ghosts as Cell}
use Rattle.backup_session.specs.Worlds.{World}
use Rattle.backup_session.specs.Views.{SessionView}
use Rattle.backup_session.specs.Fitting.{Fits}
use Rattle.backup_script.specs.Lines.{is_feed, ended, is_quit, has_quit, TookPiece}
use Rattle.backup_script.specs.Scripts.{Outcome, nothing, then_outcome, script, between, IsStage}
use Rattle.backup_script.specs.Held.{IsHeldThroughout}
use Rattle.backup_script.specs.Running.{Went, AreBegun, LeftAt, LeftWith, ScriptRan, LinePassed, Took, TookAll, TookToQuit, TookTooMany, TookToFault, WentShort, IsOneLine, TookEnd, TakesNext, Takes, HasUsed}
use Rattle.backup_script.specs.declared.serving.ServeStop.{ServeStop}
use Rattle.backup_script.specs.declared.serving.ServeStop.TheVariants.{Read, Plant as PlantStop, Cell as CellStop, Output, TooLong, Memory}
use Rattle.backup_script.proofs.LineLaws.{AreLines, no_lines, one_line_more, lines_cut, line_first, ended_first, or_false, one_no_quit}
use Rattle.backup_script.proofs.ScriptLaws.{script_more}
use Rattle.backup_script.proofs.HeldLaws.{held_behind}
use Rattle.backup_script.proofs.PastLaws.{past_whole, past_both, least_whole, least_both}
use Rattle.backup_script.proofs.StageLaws.{behind, stage_behind, stage_later, stage_last}
use Rattle.backup_script.proofs.ServingLaws.{no_lines_ran}

-- ---- bytes

-- The bytes taken so far are these whole lines, none of which is `quit`.
pub record Reading (input rest : List ℕ) (ran : List (List ℕ)) : Type 0 where
  pub bytes : List ℕ
  pub is : input ≡ bytes ++ rest
  pub are : AreLines bytes ran
  pub no_quit : has_quit ran ≡ false

pub reading_starts : (input : List ℕ) → Reading input input []
reading_starts input = record { bytes = []; is = refl; are = no_lines; no_quit = refl }

pub reading_more : (input rest rest2 : List ℕ) (ran : List (List ℕ)) (line : List ℕ) → Reading input rest ran → TookPiece rest (10 ∷ rest2) line → is_quit (strip_carriage_return line) ≡ false → Reading input rest2 (ran ++ strip_carriage_return line ∷ [])
reading_more input rest rest2 ran line so took not_quit = record {
  bytes = so.bytes ++ line ++ 10 ∷ [];
  is = so.is ∙ ap (λ (l : List ℕ). so.bytes ++ l) took.is ∙ sym (append_assoc so.bytes line (10 ∷ rest2)) ∙ sym (append_assoc (so.bytes ++ line) (10 ∷ []) rest2);
  are = one_line_more so.bytes line ran so.are took.plain;
  no_quit = list_any-append is_quit ran (strip_carriage_return line ∷ []) ∙ or_false (has_quit ran) (is_quit (strip_carriage_return line) || false) so.no_quit (or_false (is_quit (strip_carriage_return line)) false not_quit refl);
}

module _ (input rest : List ℕ) (ran : List (List ℕ)) (so : Reading input rest ran) where
  pub lines_all : lines input ≡ ran ++ lines rest
  lines_all = ap (λ (l : List ℕ). lines l) so.is ∙ so.are.lines rest

  -- how many bytes
  pub bytes_taken : length input ≡ length so.bytes + length rest
  bytes_taken = ap length so.is ∙ length-append so.bytes rest

  -- a piece more
  pub took_more : (new piece : List ℕ) (n : ℕ) → rest ≡ piece ++ new → length input ≡ length new + n → n ≤ 16777217 → Took input new
  took_more new piece n is count few = record {
    taken = so.bytes ++ piece;
    is = whole;
    few = omega (arith, count, few, ap length whole, length-append (so.bytes ++ piece) new);
  }
    where
      whole : input ≡ (so.bytes ++ piece) ++ new
      whole = so.is ∙ ap (λ (l : List ℕ). so.bytes ++ l) is ∙ sym (append_assoc so.bytes piece new)

  pub took_too_many : (new piece : List ℕ) → rest ≡ piece ++ new → All (λ b. is_feed b ≡ false) piece → length input ≡ length new + 16777217 → TookTooMany input new
  unfolding took_more
  took_too_many new piece is plain count =
      let t = took_more new piece 16777217 is count (omega arith) in
      record {
        took = t;
        many = omega (arith, count, ap length so.is, length-append so.bytes rest, ap length is, length-append piece new, length-append so.bytes piece);
        no_quit = ap has_quit (lines_cut so.bytes piece ran so.are plain) ∙ so.no_quit;
      }

  -- the lines that were ended, with those of a piece
  ended_lines : (piece : List ℕ) → lines (ended (so.bytes ++ piece)) ≡ ran ++ lines (ended piece)
  ended_lines piece = ap (λ (l : List ℕ). lines l) (so.are.ended piece) ∙ so.are.lines (ended piece)

  pub lines_begun : (w : World) (ms piece : List ℕ) (whole : List Effect) → IsOneLine (lines (ended piece)) → whole ≡ (script w ms ran).effects → AreBegun w ms (lines (ended (so.bytes ++ piece))) whole
  lines_begun w ms piece whole one is = elim one [
    | inl none ↦ inl (is ∙ ap (λ (ls : List (List ℕ)). (script w ms ls).effects) (sym (ended_lines piece ∙ ap (λ (ls : List (List ℕ)). ran ++ ls) none ∙ append-nil ran)))
    | inr (line, same, other) ↦ inr (ran, line, ended_lines piece ∙ ap (λ (ls : List (List ℕ)). ran ++ ls) same, is)
  ]

  pub took_to_fault : (new piece : List ℕ) (n : ℕ) → rest ≡ piece ++ new → IsOneLine (lines (ended piece)) → length input ≡ length new + n → n ≤ 16777217 → TookToFault input new
  unfolding took_more
  took_to_fault new piece n is one count few = record {
    took = took_more new piece n is count few;
    no_quit = ap has_quit (ended_lines piece) ∙ list_any-append is_quit ran (lines (ended piece)) ∙ or_false (has_quit ran) (has_quit (lines (ended piece))) so.no_quit (one_no_quit (lines (ended piece)) one);
  }

  pub took_end : (new : List ℕ) (n : ℕ) → TookEnd rest new n → length input ≡ length new + n → n ≤ 16777217 → TookAll input new ⊎ TookToQuit input new
  unfolding took_more
  took_end new n end count few = elim end [
    | inl (none, most, plain) ↦ inl (record {
      none_left = none;
      few = omega (arith, count, ap length none, most);
      no_quit = ap (λ (l : List ℕ). has_quit (lines (ended l))) so.is ∙ ap has_quit (lines_cut so.bytes rest ran so.are plain) ∙ so.no_quit;
    })
    | inr (line, took, quits) ↦ inr (record {
      took = took_more new (line ++ 10 ∷ []) n (took.is ∙ sym (append_assoc line (10 ∷ []) new)) count few;
      whole = so.are.ended (line ++ 10 ∷ []) ∙ ap (λ (l : List ℕ). so.bytes ++ l) (ended_first line []);
      quit = record {
        before = ran;
        line = strip_carriage_return line;
        is = ap (λ (l : List ℕ). lines l) (sym (append-nil (so.bytes ++ (line ++ 10 ∷ []))) ∙ append_assoc so.bytes (line ++ 10 ∷ []) []) ∙ so.are.lines ((line ++ 10 ∷ []) ++ []) ∙ ap (λ (ls : List (List ℕ)). ran ++ ls) (ap (λ (l : List ℕ). lines l) (append-nil (line ++ 10 ∷ [])) ∙ line_first line [] took.plain);
        quit = quits;
        first = so.no_quit;
      };
    })
  ]

-- ---- lines

module _ {D E : Type 0} (P : Plant D) (C : Cell E) where
  module _ (w : World) (ms : List ℕ) (ran more : List (List ℕ)) (old mid new : D) (site : E) (session : SessionView) (left : List ℕ) (so : ScriptRan P C (script w ms ran) old mid site session left) (goes : (script w ms ran).goes ≡ true) where
    abbrev s : Outcome
    s = script w ms ran

    -- lines run behind these
    pub ran_behind : (site2 : E) (session2 : SessionView) (left2 : List ℕ) → ScriptRan P C (script s.world left more) mid new site2 session2 left2
        → ScriptRan P C (script w ms (ran ++ more)) old new site2 session2 left2
    ran_behind site2 session2 left2 next = subst (λ (o : Outcome). ScriptRan P C o old new site2 session2 left2) (sym (script_more ran more w ms goes)) (joined (subst (λ (m : List ℕ). ScriptRan P C (script s.world m more) mid new site2 session2 left2) so.went.moments next))
      where
        joined : ScriptRan P C (script s.world s.moments more) mid new site2 session2 left2 → ScriptRan P C (then_outcome s (script s.world s.moments more)) old new site2 session2 left2
        joined then = record {
          went = record { done = done_both P s.effects (script s.world s.moments more).effects old mid new so.went.done then.went.done; fits = then.went.fits; moments = then.went.moments };
          leaves = leaves_both P s.effects (script s.world s.moments more).effects old mid new so.went.done so.leaves then.leaves;
        }

    -- lines begun behind these
    pub left_behind : (site2 : E) (left2 : List ℕ) → LeftWith P C s.world left more [] mid new site2 left2 → LeftWith P C w ms (ran ++ more) s.effects old new site2 left2
    left_behind site2 left2 begun =
        let first = subst (λ (m : List ℕ). LeftWith P C s.world m more [] mid new site2 left2) so.went.moments begun in
        let now = first.at in
        record {
          at = record {
            stage = behind s.effects now.stage;
            on_the_way = stage_later [] w ms ran more (behind s.effects now.stage) goes
                (subst (λ (es : List Effect). IsStage es s.world s.moments more (behind s.effects now.stage)) (append-nil s.effects) (stage_behind s.effects [] s.world s.moments more now.stage now.on_the_way));
            cell = now.cell;
            clock = now.clock;
            leaves = leaves_both P s.effects now.stage.effects old mid new so.went.done so.leaves now.leaves;
            past = past_both P s.effects now.stage.effects now.stage.whole old mid new so.went.done so.leaves now.past;
            least = least_both P s.effects now.stage.whole old mid new so.went.done now.least;
          };
          whole_is = ap (λ (es : List Effect). s.effects ++ es) first.whole_is ∙ append-nil s.effects;
        }

    -- nothing was run behind these
    pub nothing_behind : (site2 : E) (session2 : SessionView) (left2 : List ℕ) → Went P C (nothing s.world left true) mid new site2 session2 left2 → Went P C s old new site2 session2 left2
    nothing_behind site2 session2 left2 next = record {
      done = subst (λ (es : List Effect). Done P es old new) (append-nil s.effects) (done_both P s.effects [] old mid new so.went.done next.done);
      fits = next.fits;
      moments = next.moments ∙ so.went.moments;
    }

  -- ---- between two lines

  pub record Serving (w : World) (ms input : List ℕ) (old now : D) (site : E) (session : SessionView) (left rest : List ℕ) : Type 0 where
    pub ran : List (List ℕ)
    pub reading : Reading input rest ran
    pub so_far : ScriptRan P C (script w ms ran) old now site session left
    pub goes : (script w ms ran).goes ≡ true

  goes_first : (w : World) (ms : List ℕ) → (script w ms []).goes ≡ true
  unfolding script
  goes_first w ms = refl

  pub serving_starts : (w : World) (ms input : List ℕ) (s : D) (site : E) (session : SessionView) → P.sound s → FitsPlant P s → Fits P C w s site session → Serving w ms input s s site session ms input
  serving_starts w ms input s site session sound fits_plant fits = record {
    ran = [];
    reading = reading_starts input;
    so_far = no_lines_ran P C w ms s site session sound fits_plant fits;
    goes = goes_first w ms;
  }

  module _ (w : World) (ms input : List ℕ) (old now : D) (site : E) (session : SessionView) (left rest : List ℕ) (so : Serving w ms input old now site session left rest) where
    abbrev here : Outcome
    here = script w ms so.ran

    pub serving_fits : Fits P C here.world now site session
    serving_fits = so.so_far.went.fits

    pub serving_held : IsHeldThroughout w ms (lines input) → IsHeldThroughout here.world left (lines rest)
    serving_held held = subst (λ (m : List ℕ). IsHeldThroughout here.world m (lines rest)) (sym so.so_far.went.moments)
        (held_behind so.ran (lines rest) w ms so.goes (subst (λ (ls : List (List ℕ)). IsHeldThroughout w ms ls) (lines_all input rest so.ran so.reading) held))

    -- one line more
    pub serving_more : (new : D) (site2 : E) (session2 : SessionView) (left2 rest2 : List ℕ) → LinePassed P C here.world left rest rest2 now new site2 session2 left2 → Serving w ms input old new site2 session2 left2 rest2
    serving_more new site2 session2 left2 rest2 passed =
        let l = strip_carriage_return passed.line in
        record {
          ran = so.ran ++ l ∷ [];
          reading = reading_more input rest rest2 so.ran passed.line so.reading passed.took passed.not_quit;
          so_far = ran_behind w ms so.ran (l ∷ []) old now new site session left so.so_far so.goes site2 session2 left2 passed.ran;
          goes = ap (λ (o : Outcome). o.goes) (script_more so.ran (l ∷ []) w ms so.goes) ∙ ap (λ (m : List ℕ). (script here.world m (l ∷ [])).goes) (sym so.so_far.went.moments) ∙ passed.goes;
        }

    -- the script was run to its end
    pub serving_ended : (new : D) (site2 : E) (session2 : SessionView) (left2 : List ℕ) → ScriptRan P C (script here.world left (lines rest)) now new site2 session2 left2
        → ScriptRan P C (script w ms (lines input)) old new site2 session2 left2
    serving_ended new site2 session2 left2 next =
        subst (λ (ls : List (List ℕ)). ScriptRan P C (script w ms ls) old new site2 session2 left2) (sym (lines_all input rest so.ran so.reading))
        (ran_behind w ms so.ran (lines rest) old now new site session left so.so_far so.goes site2 session2 left2 next)

    pub serving_left : (new : D) (site2 : E) (left2 rest2 piece : List ℕ) (n : ℕ) → rest ≡ piece ++ rest2 → IsOneLine (lines (ended piece)) → length input ≡ length rest2 + n → n ≤ 16777217 → LeftWith P C here.world left (lines rest) [] now new site2 left2
        → LeftAt P C w ms input rest2 old new site2 left2
    unfolding took_more
    serving_left new site2 left2 rest2 piece n is one count few begun =
        let all = subst (λ (ls : List (List ℕ)). LeftWith P C w ms ls here.effects old new site2 left2) (sym (lines_all input rest so.ran so.reading))
        (left_behind w ms so.ran (lines rest) old now new site session left so.so_far so.goes site2 left2 begun) in
        record {
          at = all.at;
          took = took_more input rest so.ran so.reading rest2 piece n is count few;
          begun = inr (lines_begun input rest so.ran so.reading w ms piece all.at.stage.whole one all.whole_is);
        }

    pub serving_short : (new : D) (site2 : E) (session2 : SessionView) (left2 rest2 piece : List ℕ) (n : ℕ) → rest ≡ piece ++ rest2 → All (λ b. is_feed b ≡ false) piece → length input ≡ length rest2 + n → n ≤ 16777217
        → Went P C (nothing here.world left true) now new site2 session2 left2 → WentShort P C w ms input rest2 old new site2 session2 left2
    unfolding took_more
    serving_short new site2 session2 left2 rest2 piece n is plain count few next = record {
      took = took_more input rest so.ran so.reading rest2 piece n is count few;
      went = subst (λ (ls : List (List ℕ)). Went P C (script w ms ls) old new site2 session2 left2) (sym (lines_cut so.reading.bytes piece so.ran so.reading.are plain))
          (nothing_behind w ms so.ran [] old now new site session left so.so_far so.goes site2 session2 left2 next);
    }

  -- where all of it was run, the stage is the last one
  pub all_left : (w : World) (ms input rest : List ℕ) (old new : D) (site : E) (session : SessionView) (left : List ℕ) → Took input rest → FitsPlant P new → ScriptRan P C (script w ms (lines input)) old new site session left
      → LeftAt P C w ms input rest old new site left
  all_left w ms input rest old new site session left took fits ran =
      let s = script w ms (lines input) in
      record {
        at = record {
          stage = between s.effects s.world s.moments;
          on_the_way = stage_last [] w ms (lines input);
          cell = ran.went.fits.cell;
          clock = ran.went.moments;
          leaves = ran.leaves;
          past = past_whole P s.effects old new ran.went.done ran.leaves fits;
          least = least_whole P s.effects old new ran.went.done;
        };
        took = took;
        begun = inl refl;
      }

-- ---- what was taken at an end

pub took_at_end : (old new : List ℕ) → TookAll old new ⊎ TookToQuit old new → Took old new
took_at_end old new end = elim end [
  | inl all ↦ record { taken = old; is = sym (append-nil old) ∙ ap (λ (l : List ℕ). old ++ l) (sym all.none_left); few = omega (arith, all.few) }
  | inr quit ↦ quit.took
]

pub stop_takes : (input rest new : List ℕ) (ran : List (List ℕ)) (n : ℕ) (stop : ServeStop) → Reading input rest ran → TakesNext rest new n (Err stop) → length input ≡ length new + n → n ≤ 16777217 → (stop ≡ TooLong → n ≡ 16777217) → Takes input new (Err stop)
stop_takes input rest new ran n TooLong so (piece, is, plain, one) count few long = took_too_many input rest ran so new piece is (plain (inl refl)) (omega (arith, count, long refl))
stop_takes input rest new ran n Read so (piece, is, plain, one) count few long = took_to_fault input rest ran so new piece n is one count few
stop_takes input rest new ran n PlantStop so (piece, is, plain, one) count few long = took_to_fault input rest ran so new piece n is one count few
stop_takes input rest new ran n CellStop so (piece, is, plain, one) count few long = took_to_fault input rest ran so new piece n is one count few
stop_takes input rest new ran n Output so (piece, is, plain, one) count few long = took_to_fault input rest ran so new piece n is one count few
stop_takes input rest new ran n Memory so (piece, is, plain, one) count few long = took_to_fault input rest ran so new piece n is one count few

-- ---- the moments of the clock

-- a moment that the last of the lines used was used since the start
pub used_behind : (old mid new : List ℕ) → length mid ≤ length old → length new ≤ length mid → HasUsed mid new → HasUsed old new
used_behind old [] new before fewer used = λ many. omega arith
used_behind old (m ∷ []) new before fewer used = λ many. omega arith
used_behind old (m ∷ n ∷ ms) new before fewer used = λ many. omega (arith, used (omega arith))
