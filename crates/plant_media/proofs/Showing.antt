-- A record of the loaded tape is shown.
use Rattle.std.proofs.Common.{◌≡◌, ◌≢◌, ℕ, ◌+◌, ◌*◌, ◌<◌, ◌≤◌, Bool, true, false, List, [], ◌∷◌, length, take, drop, slice_index, slice_get, Some, None, refl, sym, ◌∙◌, ap, subst, arith, length-drop}
use Rattle.std.proofs.lemmas.List.{length-take, drop-take, drop-drop, get_or-take}
use Rattle.crash_moments.specs.Moments.{Moments}
use Rattle.media_core.specs.Media.{Image}
use Rattle.crash_log.specs.Log.{span}
use Rattle.crash_log.specs.CrashLog.{file_of, length_of, damaged_of, log_bytes}
use Rattle.plant_core.specs.Records.{Record, block_with, mark, bad, Shows, ShowsAt, ShowsFirst}
use Rattle.plant_core.specs.declared.record.Kind.{Kind}
use Rattle.plant_core.specs.declared.record.Kind.TheVariants.{Block, Mark, Bad}
use Rattle.plant_media.specs.Records.{record_of}
use Rattle.plant_media.specs.Loaded.{tape_in, TapeSuits}
use Rattle.plant_media.specs.declared.tape.Tape.{Tape}
use Rattle.plant_media.specs.Cutting.{records_at, records_count, record_short, record_block, record_mark, record_other}
use Rattle.plant_media.specs.Shown.{loaded_damaged}
use Rattle.plant_media.specs.Taping.{read_whole, bytes_size}

-- the first record, where there is one
pub shows_first : (tape : List Record) (kind : Kind) (into : List ℕ) → ShowsAt tape 0 kind into → ShowsFirst tape (Some kind) into
shows_first [] kind into at = let none : None ≡ Some at.found = at.is in absurd (cc)
shows_first (x ∷ tape) kind into at = (kind, (refl, subst (λ (r : Record). Shows r kind into) (sym first) at.shown))
  where
    first : x ≡ at.found
    first = let same : Some x ≡ Some at.found = at.is in cc

pub shows_none : (tape : List Record) (into : List ℕ) → length tape ≡ 0 → ShowsFirst tape None into
shows_none [] into none = refl
shows_none (x ∷ tape) into none = absurd (omega arith)

module _ {D : Type 0} (tells : Type 0) (moments : Moments D Image) (seen : D → Image) (present : D → ℕ → Bool) (tape : Tape) (media : D) (held : TapeSuits tells moments seen present tape media) (told : tells) (i : ℕ) (within : i < tape.records) (into : List ℕ) where
  abbrev bytes : List ℕ
  bytes = log_bytes tape.log ((seen media).file (file_of tape.log))

  abbrev piece : List ℕ
  piece = span (16385 * i) 16385 bytes

  abbrev Shown : Kind → Type 0
  Shown kind = ShowsAt (tape_in tape (seen media)) i kind into

  pub shows_damaged : damaged_of tape.log ≡ true → Shown Bad
  shows_damaged damaged =
      let is = loaded_damaged tape (seen media) damaged in
      let first : i ≡ 0 = omega (arith, within, held.counted told, ap length is) in
      record { found = bad; is = (λ j. slice_get (is j) (first j)); shown = refl }

  module _ (whole : damaged_of tape.log ≡ false) where
    at_piece : slice_get (tape_in tape (seen media)) i ≡ Some (record_of piece)
    at_piece =
        let is = read_whole tells moments seen present tape media held told whole in
        ap (λ (l : List Record). slice_get l i) is ∙ records_at bytes i (omega (arith, within, held.counted told, ap length is, records_count bytes))

    by_piece : (kind : Kind) (r : Record) → record_of piece ≡ r → Shows r kind into → Shown kind
    by_piece kind r is shown = record { found = r; is = at_piece ∙ ap (λ (x : Record). Some x) is; shown = shown }

    pub shows_short : length_of tape.log < 16385 * i + 16385 → Shown Bad
    shows_short short = by_piece Bad bad (record_short piece
        (omega (arith, length-take 16385 (drop (16385 * i) bytes), length-drop (16385 * i) bytes, bytes_size tells moments seen present tape media held told))) refl

    module _ (long : 16385 * i + 16385 ≤ length_of tape.log) (at : ℕ) (place : at ≡ 16385 * i) (head : List ℕ) (read : head ≡ take 1 (drop at bytes)) where
      size : length piece ≡ 16385
      size = omega (arith, length-take 16385 (drop (16385 * i) bytes), length-drop (16385 * i) bytes, bytes_size tells moments seen present tape media held told)

      first : slice_index piece 0 ≡ slice_index head 0
      first = get_or-take 16385 (drop (16385 * i) bytes) 0 0 (omega arith)
          ∙ sym (ap (λ (l : List ℕ). slice_index l 0) (read ∙ ap (λ (n : ℕ). take 1 (drop n bytes)) place) ∙ get_or-take 1 (drop (16385 * i) bytes) 0 0 (omega arith))

      pub shows_block : slice_index head 0 ≡ 0 → (n : ℕ) → n ≡ 16384 → into ≡ take n (drop (at + 1) bytes) → Shown Block
      shows_block is n all rest =
          let tail : drop 1 piece ≡ into = drop-take 1 16384 (drop (16385 * i) bytes) ∙ ap (λ (l : List ℕ). take 16384 l) (drop-drop 1 (16385 * i) bytes)
          ∙ sym (rest ∙ (λ j. take (all j) (drop (place j + 1) bytes))) in
          by_piece Block (block_with (drop 1 piece)) (record_block piece size (first ∙ is)) (refl, sym tail)

      pub shows_mark : slice_index head 0 ≡ 1 → Shown Mark
      shows_mark is = by_piece Mark mark (record_mark piece size (first ∙ is)) refl

      pub shows_other : slice_index head 0 ≢ 0 → slice_index head 0 ≢ 1 → Shown Bad
      shows_other not_block not_mark = by_piece Bad bad (record_other piece (λ is. not_block (sym first ∙ is)) (λ is. not_mark (sym first ∙ is))) refl
