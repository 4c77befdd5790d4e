use Rattle.std.proofs.lemmas.Result.{err_from_is_err_and}
use Rattle.bk_text.specs.Alphabets.{IsSetName}
use Rattle.bk_text.specs.LevelPaths.{IsLevelPath}
use Rattle.byte_formats.specs.Forms.{IsBase}
use Rattle.byte_formats.specs.Formats.{text1_of, text2_of}
use Rattle.budb_changes.specs.Formats.{numbers}
use Rattle.byte_formats.proofs.FormatLaws.{stops_first, stops_second, took_both}
use Rattle.byte_formats.proofs.Texts.{sole_set, sole_level, has_base}
use Rattle.budb_changes.proofs.Layouts.{sole_numbers, heading_1, heading_2, has_heading_1, has_heading_2}
use Rattle.budb_changes.proofs.record_reading.read_heading.Goals as goal

pub returns-in_err-numbers : goal.returns-in_err-numbers
returns-in_err-numbers c =
    let p = err_from_is_err_and c.from_residual.result c.from_residual.ensures.1 in
    rw (p.1, p.2) (stops_first numbers (λ x. heading_1) _ _ (λ x is. has_heading_1) c.in_err-numbers.ensures)

pub returns-in_err-set : goal.returns-in_err-set
returns-in_err-set c =
    let p = err_from_is_err_and c.from_residual-in_err-set.result c.from_residual-in_err-set.ensures.1 in
    rw (p.1, p.2) (stops_second numbers (λ x. heading_1) _ _ _ _ sole_numbers c.in_ok-numbers.ensures (stops_first (text1_of IsSetName) (λ x. heading_2) _ _ (λ x is. has_heading_2) c.in_err-set.ensures))

pub returns-in_err-level : goal.returns-in_err-level
returns-in_err-level c =
    let p = err_from_is_err_and c.from_residual-in_err-level.result c.from_residual-in_err-level.ensures.1 in
    rw (p.1, p.2) (stops_second numbers (λ x. heading_1) _ _ _ _ sole_numbers c.in_ok-numbers.ensures (stops_second (text1_of IsSetName) (λ x. heading_2) _ _ _ _ sole_set c.in_ok-set.ensures (stops_first (text2_of IsLevelPath) (λ x. text1_of IsBase) _ _ (λ x is. has_base) c.in_err-level.ensures)))

pub returns-in_err-base : goal.returns-in_err-base
returns-in_err-base c =
    let p = err_from_is_err_and c.from_residual-in_err-base.result c.from_residual-in_err-base.ensures.1 in
    rw (p.1, p.2) (stops_second numbers (λ x. heading_1) _ _ _ _ sole_numbers c.in_ok-numbers.ensures (stops_second (text1_of IsSetName) (λ x. heading_2) _ _ _ _ sole_set c.in_ok-set.ensures (stops_second (text2_of IsLevelPath) (λ x. text1_of IsBase) _ _ _ _ sole_level c.in_ok-level.ensures c.in_err-base.ensures)))

pub returns : goal.returns
returns c = took_both numbers (λ x. heading_1) _ _ _ _ _ c.in_ok-numbers.ensures (took_both (text1_of IsSetName) (λ x. heading_2) _ _ _ _ _ c.in_ok-set.ensures (took_both (text2_of IsLevelPath) (λ x. text1_of IsBase) _ _ _ _ _ c.in_ok-level.ensures c.in_ok-base.ensures))
