-- Readers of the parts of changes.
use Rattle.std.specs.Prelude.{ℕ, List, [], ◌==◌, if◌then◌else◌}
use Rattle.bk_text.specs.declared.expiry.Expiry.{Expiry}
use Rattle.bk_text.specs.declared.expiry.Expiry.TheVariants.{Unset, Never, At, In}
use Rattle.byte_formats.specs.declared.text.Text.TheVariants.{Name, Host, SetName, TapeName, Base}
use Rattle.budb_changes.specs.declared.version.Version.{Version}
use Rattle.budb_changes.specs.declared.version.Version.TheVariants.{One, Two}
use Rattle.budb_changes.specs.declared.records.TapePart.{TapePart}
use Rattle.budb_changes.specs.declared.records.Frag.{Frag}
use Rattle.budb_changes.specs.declared.records.VolRecordFields.{VolRecordFields}
use Rattle.budb_changes.specs.declared.records.DumpRecordFields.{DumpRecordFields}
use Rattle.log_readings.specs.Readers.{Reader, read_as, read_both, read_pair, read_times, read_absent, read_one, read_two, read_four}
use Rattle.log_readings.specs.Texts.{read_text, read_level, read_maybe}

-- 0 none, 1 never, 2 at a moment, 3 in years, months and days
unfoldable pub read_expiry_fields : ℕ → Reader Expiry
read_expiry_fields kind =
    if kind == 0 then read_absent Unset
    else if kind == 1 then read_absent Never
    else if kind == 2 then read_as (λ moment. At moment) read_four
    else read_as (λ p. In p.0 p.1.0 p.1.1) (read_pair (read_two 0 65535) (read_pair (read_two 0 65535) (read_two 0 65535)))

unfoldable pub read_expiry : Reader Expiry
read_expiry = read_as (λ p. p.1) (read_both (read_one 0 3) read_expiry_fields)

unfoldable pub read_numbers : Reader (ℕ × (ℕ × (ℕ × ℕ)))
read_numbers = read_pair read_four (read_pair read_four (read_pair read_four read_four))

-- what version 2 tells of a tape besides: how often it was used, and its permanent name
unfoldable pub read_use : Version → Reader (ℕ × List ℕ)
read_use One = read_absent (0, [])
read_use Two = read_pair read_four (read_maybe (read_text TapeName))

unfoldable pub read_tape : Version → Reader TapePart
read_tape version =
    read_as (λ p. record { tape = p.0.0; first = p.0.1.0; end = p.0.1.1.0; marks = p.0.1.1.1; uses = p.1.0; permanent = p.1.1 }) (read_pair read_numbers (read_use version))

unfoldable pub read_frag : Reader Frag
read_frag = read_as (λ p. record { tape = p.0; at = p.1 }) (read_pair read_four read_four)

-- fragments and tapes behind their count in two bytes, volumes behind theirs in four
unfoldable pub read_frags : Reader (List Frag)
read_frags = read_as (λ p. p.1) (read_both (read_two 1 65535) (λ n. read_times n read_frag))

unfoldable pub read_tapes : Version → Reader (List TapePart)
read_tapes version = read_as (λ p. p.1) (read_both (read_two 0 65535) (λ n. read_times n (read_tape version)))

unfoldable pub read_volume : Reader VolRecordFields
read_volume =
    read_as (λ p. record { name = p.0; id = p.1.0; server = p.1.1.0; partition = p.1.1.1.0; clone = p.1.1.1.1.0; from = p.1.1.1.1.1.0; frags = p.1.1.1.1.1.1 })
    (read_pair (read_text Name) (read_pair read_four (read_pair (read_text Host) (read_pair (read_text Name) (read_pair read_four (read_pair read_four read_frags))))))

unfoldable pub read_volumes : Reader (List VolRecordFields)
read_volumes = read_as (λ p. p.1) (read_both read_four (λ n. read_times n read_volume))

-- what a record of either version begins with
unfoldable pub read_heading : Reader ((ℕ × (ℕ × (ℕ × ℕ))) × (List ℕ × (List ℕ × List ℕ)))
read_heading = read_pair read_numbers (read_pair (read_text SetName) (read_pair read_level (read_text Base)))

-- the cell, of which version 2 alone tells
unfoldable pub read_cell : Version → Reader (List ℕ)
read_cell One = read_absent []
read_cell Two = read_maybe (read_text Host)

unfoldable pub read_dump : Version → Reader DumpRecordFields
read_dump version =
    read_as (λ p. record {
      id = p.0.0.0;
      initial = p.0.0.1.0;
      parent = p.0.0.1.1.0;
      expires = p.0.0.1.1.1;
      set = p.0.1.0;
      level = p.0.1.1.0;
      base = p.0.1.1.1;
      tapes = p.1.0;
      volumes = p.1.1.0;
      cell = p.1.1.1;
    }) (read_pair read_heading (read_pair (read_tapes version) (read_pair read_volumes (read_cell version))))
