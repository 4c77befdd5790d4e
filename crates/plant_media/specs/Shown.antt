-- What a file and a loaded tape show, by whether they are damaged.
use Rattle.std.proofs.Common.{◌≡◌, ◌⊎◌, inl, inr, ℕ, ◌+◌, Bool, true, false, List, [], ◌∷◌, Some, slice_get, refl, sym, ◌∙◌, ap}
use Rattle.media_core.specs.Media.{Image}
use Rattle.crash_log.specs.Log.{log_of, is_damaged}
use Rattle.crash_log.specs.CrashLog.{damaged_of, log_bytes}
use Rattle.plant_core.specs.Records.{Record, bad, NoBad}
use Rattle.plant_media.specs.Records.{records_of}
use Rattle.plant_media.specs.Stock.{tape_shown, tape_of, log_shown, journal_of}
use Rattle.plant_media.specs.Loaded.{tape_in}
use Rattle.plant_media.specs.declared.tape.Tape.{Tape}

pub either : (b : Bool) → (b ≡ true) ⊎ (b ≡ false)
either true = inl refl
either false = inr refl

pub tape_damaged : (file : List ℕ) → is_damaged file ≡ true → tape_of file ≡ bad ∷ []
unfolding tape_of
tape_damaged file is = ap (λ (b : Bool). tape_shown b (log_of file)) is

pub tape_whole : (file : List ℕ) → is_damaged file ≡ false → tape_of file ≡ records_of (log_of file)
unfolding tape_of
tape_whole file is = ap (λ (b : Bool). tape_shown b (log_of file)) is

pub journal_whole : (file : List ℕ) → is_damaged file ≡ false → journal_of file ≡ Some (log_of file)
unfolding journal_of
journal_whole file is = ap (λ (b : Bool). log_shown b (log_of file)) is

pub loaded_damaged : (tape : Tape) (image : Image) → damaged_of tape.log ≡ true → tape_in tape image ≡ bad ∷ []
unfolding tape_in
loaded_damaged tape image is = ap (λ (b : Bool). tape_shown b (log_bytes tape.log (image.file (tape.slot + 1)))) is

pub loaded_whole : (tape : Tape) (image : Image) (f : ℕ) (bytes : List ℕ) → f ≡ tape.slot + 1 → damaged_of tape.log ≡ false → log_bytes tape.log (image.file f) ≡ bytes → tape_in tape image ≡ records_of bytes
unfolding tape_in
loaded_whole tape image f bytes file is same =
    ap (λ (b : Bool). tape_shown b (log_bytes tape.log (image.file (tape.slot + 1)))) is
    ∙ ap (λ (n : ℕ). records_of (log_bytes tape.log (image.file n))) (sym file) ∙ ap records_of same

-- the loaded tape is read as its file stands, where its log is that of the file
pub loaded_is : (tape : Tape) (image : Image) (f : ℕ) → f ≡ tape.slot + 1 → damaged_of tape.log ≡ is_damaged (image.file f) → log_bytes tape.log (image.file f) ≡ log_of (image.file f) → tape_in tape image ≡ tape_of (image.file f)
unfolding tape_in tape_of
loaded_is tape image f file damaged bytes =
    ap (λ (n : ℕ). tape_shown (damaged_of tape.log) (log_bytes tape.log (image.file n))) (sym file) ∙ (λ i. tape_shown (damaged i) (bytes i))

-- one bad record is one
pub bad_is_bad : (tape : List Record) → tape ≡ bad ∷ [] → NoBad tape → ⊥
bad_is_bad tape is whole = whole 0 (ap (λ (l : List Record). slice_get l 0) is)
