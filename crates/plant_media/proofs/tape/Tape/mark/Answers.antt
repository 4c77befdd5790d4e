use Rattle.std.proofs.Common.{◌≡◌, ℕ, ◌+◌, List, [], ◌∷◌, ◌++◌, length, ◌∙◌, ap, arith, refl}
use Rattle.plant_core.specs.Records.{Record, mark}
use Rattle.plant_media.specs.Records.{record_of}
use Rattle.plant_media.specs.Loaded.{tape_in}
use Rattle.plant_media.specs.Cutting.{record_mark}
use Rattle.plant_media.specs.Taping.{tape_then, turn_at}
use Rattle.plant_media.proofs.tape.Tape.mark.Goals as goal

-- a mark with zeros behind it is a mark
marked : (old new : List Record) (zeros : List ℕ) → length zeros ≡ 16384 → new ≡ old ++ record_of (1 ∷ zeros) ∷ [] → new ≡ old ++ mark ∷ []
marked old new zeros long is = is ∙ ap (λ (r : Record). old ++ r ∷ []) (record_mark (1 ∷ zeros) (omega (arith, long)) refl)

pub returns-in_err-commit-clause-crash : goal.returns-in_err-commit-clause-crash
returns-in_err-commit-clause-crash g c = λ told survives.
    let m = g.M.Media in
    let tape = c.args.self.now in
    let e = c.in_ok-put_record.ensures in
    tape_then m.time (tape.slot + 1) (tape_in tape (m.seen c.args.media.now) ++ mark ∷ []) c.args.media.now c.put_record.new.media c.commit.new.media (c.put_record.ensures.crash told survives)
    (turn_at m.time (c.put_record.new.self.slot + 1) (tape.slot + 1) _ (tape_in tape (m.seen c.args.media.now) ++ mark ∷ []) c.put_record.new.media c.commit.new.media (ap (λ (k : ℕ). k + 1) e.slot)
    (marked (tape_in tape (m.seen c.args.media.now)) (tape_in c.put_record.new.self (m.seen c.put_record.new.media)) _ (omega arith) (e.tape told)) (c.commit.ensures.crash told (e.survives told survives)))

pub returns-clause-crash : goal.returns-clause-crash
returns-clause-crash g c = λ told survives.
    let m = g.M.Media in
    let tape = c.args.self.now in
    let e = c.in_ok-put_record.ensures in
    tape_then m.time (tape.slot + 1) (tape_in tape (m.seen c.args.media.now) ++ mark ∷ []) c.args.media.now c.put_record.new.media c.commit.new.media (c.put_record.ensures.crash told survives)
    (turn_at m.time (c.put_record.new.self.slot + 1) (tape.slot + 1) _ (tape_in tape (m.seen c.args.media.now) ++ mark ∷ []) c.put_record.new.media c.commit.new.media (ap (λ (k : ℕ). k + 1) e.slot)
    (marked (tape_in tape (m.seen c.args.media.now)) (tape_in c.put_record.new.self (m.seen c.put_record.new.media)) _ (omega arith) (e.tape told)) (c.commit.ensures.crash told (e.survives told survives)))

pub returns-clause-tape : goal.returns-clause-tape
returns-clause-tape g c = λ told.
    c.in_ok-commit.ensures.tape told ∙ marked (tape_in c.args.self.now (g.M.Media.seen c.args.media.now)) _ _ (omega arith) (c.in_ok-put_record.ensures.tape told)
