-- The parts of changes.
use Rattle.std.proofs.Common.{zero, suc, ℕ, ◌≤◌, [], arith, lit≤}
use Rattle.bk_text.specs.Alphabets.{IsName, IsHost, IsSetName, IsTapeName}
use Rattle.bk_text.specs.LevelPaths.{IsLevelPath}
use Rattle.byte_formats.specs.Forms.{IsBase}
use Rattle.byte_formats.specs.declared.text.Text.TheVariants.{Name, Host, SetName, TapeName, Base}
use Rattle.byte_formats.specs.Formats.{both, pair, times, one_in, two_in, any_four, text1_of, text2_of, maybe}
use Rattle.budb_changes.specs.declared.version.Version.{Version}
use Rattle.budb_changes.specs.declared.version.Version.TheVariants.{One, Two}
use Rattle.budb_changes.specs.Formats.{expiry_form, expiry_of_kind, use_form, cell_form, tape_form, tapes_form, frag_form, frags_form, volume_form, volumes_form, dump_form, numbers, heading}
use Rattle.budb_changes.proofs.ChangeKinds.{sole_unset, sole_never, has_expiry_kind, took_unset, took_never, span, span_1, like_moment, like_span, like_expiry}
use Rattle.budb_changes.proofs.Layouts.{tape_0, like_tape, like_tapes, like_frag, like_frags, volume_0, volume_1, volume_2, volume_3, volume_4, volume_5, like_volume, like_volumes, heading_1, heading_2, dump_0, dump_1, dump_2, like_dump}
use Rattle.log_readings.specs.Readers.{read_absent, read_both, read_pair, read_times, read_one, read_two, read_four}
use Rattle.log_readings.specs.Texts.{read_text, read_level, read_maybe}
use Rattle.log_readings.specs.Records.{read_expiry_fields, read_expiry, read_numbers, read_use, read_tape, read_frag, read_frags, read_tapes, read_volume, read_volumes, read_heading, read_cell, read_dump}
use Rattle.log_readings.proofs.Answering.{Reads, reads_one, reads_like, reads_both, reads_pair, reads_times, reads_absent}
use Rattle.log_readings.proofs.Numbers.{any_two, reads_two, reads_any_two, reads_four}
use Rattle.log_readings.proofs.Stated.{reads_name, reads_host, reads_set, reads_tape_name, reads_base, reads_level, reads_maybe}

-- ---- expirations

reads_unset : Reads (expiry_of_kind 0) (read_expiry_fields 0)
unfolding read_expiry_fields read_absent
reads_unset = record { sole = sole_unset; has = has_expiry_kind 0 (lit≤ tt, lit≤ tt); answers = λ bytes. took_unset bytes }

reads_never : Reads (expiry_of_kind 1) (read_expiry_fields 1)
unfolding read_expiry_fields read_absent
reads_never = record { sole = sole_never; has = has_expiry_kind 1 (lit≤ tt, lit≤ tt); answers = λ bytes. took_never bytes }

reads_moment : Reads (expiry_of_kind 2) (read_expiry_fields 2)
unfolding read_expiry_fields like_moment
reads_moment = reads_like any_four (expiry_of_kind 2) read_four like_moment reads_four

reads_span : Reads (expiry_of_kind 3) (read_expiry_fields 3)
unfolding read_expiry_fields like_span
reads_span =
    reads_like span (expiry_of_kind 3) (read_pair (read_two 0 65535) (read_pair (read_two 0 65535) (read_two 0 65535))) like_span
    (reads_pair any_two span_1 (read_two 0 65535) (read_pair (read_two 0 65535) (read_two 0 65535)) reads_any_two
    (reads_pair any_two any_two (read_two 0 65535) (read_two 0 65535) reads_any_two reads_any_two))

reads_expiry_kind : (k : ℕ) → k ≤ 3 → Reads (expiry_of_kind k) (read_expiry_fields k)
reads_expiry_kind zero most = reads_unset
reads_expiry_kind (suc zero) most = reads_never
reads_expiry_kind (suc (suc zero)) most = reads_moment
reads_expiry_kind (suc (suc (suc zero))) most = reads_span
reads_expiry_kind (suc (suc (suc (suc k)))) most = absurd (omega (arith, most))

pub reads_expiry : Reads expiry_form read_expiry
unfolding read_expiry like_expiry
reads_expiry =
    reads_like (both (one_in 0 3) expiry_of_kind) expiry_form (read_both (read_one 0 3) read_expiry_fields) like_expiry
    (reads_both (one_in 0 3) expiry_of_kind (read_one 0 3) read_expiry_fields (reads_one 0 3 (lit≤ tt)) (λ k is. reads_expiry_kind k is.1))

-- ---- tapes

reads_numbers : Reads numbers read_numbers
unfolding read_numbers
reads_numbers =
    reads_pair any_four (pair any_four (pair any_four any_four)) read_four (read_pair read_four (read_pair read_four read_four)) reads_four
    (reads_pair any_four (pair any_four any_four) read_four (read_pair read_four read_four) reads_four (reads_pair any_four any_four read_four read_four reads_four reads_four))

reads_use : (version : Version) → Reads (use_form version) (read_use version)
unfolding read_use
reads_use One = reads_absent (0, [])
reads_use Two = reads_pair any_four (maybe IsTapeName) read_four (read_maybe (read_text TapeName)) reads_four (reads_maybe IsTapeName (read_text TapeName) reads_tape_name)

reads_tape : (version : Version) → Reads (tape_form version) (read_tape version)
unfolding read_tape like_tape
reads_tape version =
    reads_like (tape_0 version) (tape_form version) (read_pair read_numbers (read_use version)) (like_tape version)
    (reads_pair numbers (use_form version) read_numbers (read_use version) reads_numbers (reads_use version))

reads_tapes : (version : Version) → Reads (tapes_form version) (read_tapes version)
unfolding read_tapes like_tapes
reads_tapes version =
    reads_like (both (two_in 0 65535) (λ n. times n (tape_form version))) (tapes_form version) (read_both (read_two 0 65535) (λ n. read_times n (read_tape version))) (like_tapes version)
    (reads_both (two_in 0 65535) (λ n. times n (tape_form version)) (read_two 0 65535) (λ n. read_times n (read_tape version)) reads_any_two (λ n is. reads_times n (tape_form version) (read_tape version) (reads_tape version)))

-- ---- fragments and volumes

reads_frag : Reads frag_form read_frag
unfolding read_frag like_frag
reads_frag = reads_like (pair any_four any_four) frag_form (read_pair read_four read_four) like_frag (reads_pair any_four any_four read_four read_four reads_four reads_four)

reads_frags : Reads frags_form read_frags
unfolding read_frags like_frags
reads_frags =
    reads_like (both (two_in 1 65535) (λ n. times n frag_form)) frags_form (read_both (read_two 1 65535) (λ n. read_times n read_frag)) like_frags
    (reads_both (two_in 1 65535) (λ n. times n frag_form) (read_two 1 65535) (λ n. read_times n read_frag) (reads_two 1 65535 (lit≤ tt) (lit≤ tt)) (λ n is. reads_times n frag_form read_frag reads_frag))

reads_volume : Reads volume_form read_volume
unfolding read_volume like_volume
reads_volume =
    reads_like volume_0 volume_form (read_pair (read_text Name) (read_pair read_four (read_pair (read_text Host) (read_pair (read_text Name) (read_pair read_four (read_pair read_four read_frags)))))) like_volume
    (reads_pair (text1_of IsName) volume_1 (read_text Name) (read_pair read_four (read_pair (read_text Host) (read_pair (read_text Name) (read_pair read_four (read_pair read_four read_frags))))) reads_name
    (reads_pair any_four volume_2 read_four (read_pair (read_text Host) (read_pair (read_text Name) (read_pair read_four (read_pair read_four read_frags)))) reads_four
    (reads_pair (text1_of IsHost) volume_3 (read_text Host) (read_pair (read_text Name) (read_pair read_four (read_pair read_four read_frags))) reads_host
    (reads_pair (text1_of IsName) volume_4 (read_text Name) (read_pair read_four (read_pair read_four read_frags)) reads_name
    (reads_pair any_four volume_5 read_four (read_pair read_four read_frags) reads_four
    (reads_pair any_four frags_form read_four read_frags reads_four reads_frags))))))

reads_volumes : Reads volumes_form read_volumes
unfolding read_volumes like_volumes
reads_volumes =
    reads_like (both any_four (λ n. times n volume_form)) volumes_form (read_both read_four (λ n. read_times n read_volume)) like_volumes
    (reads_both any_four (λ n. times n volume_form) read_four (λ n. read_times n read_volume) reads_four (λ n is. reads_times n volume_form read_volume reads_volume))

-- ---- dumps

reads_heading : Reads heading read_heading
unfolding read_heading
reads_heading =
    reads_pair numbers heading_1 read_numbers (read_pair (read_text SetName) (read_pair read_level (read_text Base))) reads_numbers
    (reads_pair (text1_of IsSetName) heading_2 (read_text SetName) (read_pair read_level (read_text Base)) reads_set
    (reads_pair (text2_of IsLevelPath) (text1_of IsBase) read_level (read_text Base) reads_level reads_base))

reads_cell : (version : Version) → Reads (cell_form version) (read_cell version)
unfolding read_cell
reads_cell One = reads_absent []
reads_cell Two = reads_maybe IsHost (read_text Host) reads_host

pub reads_dump : (version : Version) → Reads (dump_form version) (read_dump version)
unfolding read_dump like_dump
reads_dump version =
    reads_like (dump_0 version) (dump_form version) (read_pair read_heading (read_pair (read_tapes version) (read_pair read_volumes (read_cell version)))) (like_dump version)
    (reads_pair heading (dump_1 version) read_heading (read_pair (read_tapes version) (read_pair read_volumes (read_cell version))) reads_heading
    (reads_pair (tapes_form version) (dump_2 version) (read_tapes version) (read_pair read_volumes (read_cell version)) (reads_tapes version)
    (reads_pair volumes_form (cell_form version) read_volumes (read_cell version) reads_volumes (reads_cell version))))
