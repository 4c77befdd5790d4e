-- What is done in each image of now: the effects that are whole. And what they tell was told.
use Rattle.std.proofs.Common.{◌+◌, ℕ, List, [], ◌++◌, length, take, sym, ◌∙◌, ap, subst, arith, length-append}
use Rattle.std.proofs.lemmas.List.{take_all}
use Rattle.std.proofs.Math.Seq.{take-append-add}
use Rattle.plant_core.specs.declared.plant.Plant.{Ghosts as Plant}
use Rattle.plant_core.specs.Crashes.{State, LeftIn}
use Rattle.plant_core.specs.Effects.{Effect, come}
use Rattle.plant_effects.specs.Runs.{state_of, IsStartOf, Done, Leaves}
use Rattle.plant_effects.proofs.States.{alike_come, come_append, left_alike, grows_same, grows_twice}
use Rattle.plant_effects.proofs.Joining.{Fits as FitsPlant}
use Rattle.backup_script.specs.Running.{LeavesPast}

module _ {D : Type 0} (P : Plant D) where
  -- nothing is whole
  pub past_none : (es : List Effect) (old new : D) → Leaves P es old new → LeavesPast P [] es old new
  past_none es old new leaves = λ told survives image was.
      let at = (leaves.crash told survives).now image was in
      record { from = at.from; was = at.was; step = record { joint = at.step; low_is = omega arith } }

  -- all is done
  pub past_whole : (es : List Effect) (old new : D) → Done P es old new → Leaves P es old new → FitsPlant P new → LeavesPast P es es old new
  past_whole es old new done leaves fits = λ told survives image was.
      let at = (leaves.crash told survives).now image was in
      record {
        from = at.from;
        was = at.was;
        step = record {
          joint = record {
            count = length es;
            within = omega arith;
            left = subst (λ (l : List Effect). LeftIn (come l (state_of P old)) image) (sym (take_all (length es) es (omega arith)))
                (left_alike (come es (state_of P old)) (state_of P new) image (done.state told) (fits told (done.survives told survives) image was));
            grows = at.step.grows;
          };
          low_is = omega arith;
        };
      }

  -- all of the first effects was done, and then others, of which these are whole
  pub past_both : (es fs whole : List Effect) (old mid new : D) → Done P es old mid → Leaves P es old mid → LeavesPast P whole fs mid new → LeavesPast P (es ++ whole) (es ++ fs) old new
  past_both es fs whole old mid new done first second = λ told survives image was.
      let next = second told (done.survives told survives) image was in
      let at = (first.crash told survives).now next.from next.was in
      let more = next.step.joint in
      record {
        from = at.from;
        was = at.was;
        step = record {
          joint = record {
            count = length es + more.count;
            within = omega (arith, more.within, length-append es fs);
            left = subst (λ (l : List Effect). LeftIn (come l (state_of P old)) image) (sym (take-append-add es fs more.count))
                (subst (λ (t : State). LeftIn t image) (sym (come_append es (take more.count fs) (state_of P old)))
                (left_alike (come (take more.count fs) (come es (state_of P old))) (come (take more.count fs) (state_of P mid)) image (alike_come (take more.count fs) (come es (state_of P old)) (state_of P mid) (done.state told)) more.left));
            grows = grows_twice at.from next.from image at.step.grows more.grows;
          };
          low_is = omega (arith, next.step.low_is, length-append es whole);
        };
      }

  -- ---- the least that was told

  pub least_none : (es : List Effect) (old new : D) → Leaves P es old new → P.tells → IsStartOf (come [] (state_of P old)).told (state_of P new).told
  least_none es old new leaves told = leaves.grows told

  pub least_whole : (es : List Effect) (old new : D) → Done P es old new → P.tells → IsStartOf (come es (state_of P old)).told (state_of P new).told
  least_whole es old new done told = grows_same (come es (state_of P old)).told (state_of P new).told (done.state told).told

  pub least_both : (es whole : List Effect) (old mid new : D) → Done P es old mid → (P.tells → IsStartOf (come whole (state_of P mid)).told (state_of P new).told)
      → P.tells → IsStartOf (come (es ++ whole) (state_of P old)).told (state_of P new).told
  least_both es whole old mid new done least told =
      subst (λ (l : List ℕ). IsStartOf l (state_of P new).told)
      ((alike_come whole (come es (state_of P old)) (state_of P mid) (done.state told)).told ∙ ap (λ (s : State). s.told) (sym (come_append es whole (state_of P old))))
      (least told)
