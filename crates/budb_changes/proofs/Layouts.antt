-- The parts of records, as values one behind another.
use Rattle.std.proofs.Common.{◌≡◌, inr, ℕ, List, [], ◌∷◌, ◌∙◌, length, refl, ap, arith, lit≤}
use Rattle.std.specs.Prelude.{All}
use Rattle.std.proofs.lemmas.List.Elements.{All-nil, All-cons}
use Rattle.bk_text.specs.Alphabets.{IsName, IsHost, IsSetName, IsTapeName}
use Rattle.bk_text.specs.LevelPaths.{IsLevelPath}
use Rattle.bk_text.specs.declared.words.Alphabet.TheVariants as alphabets
use Rattle.byte_formats.specs.Forms.{IsBase, IsMaybe}
use Rattle.byte_formats.specs.Formats.{Format, both, pair, times, two_in, any_four, text1_of, text2_of, maybe, absent}
use Rattle.byte_formats.proofs.FormatLaws.{Sole, Has, Like, sole_both, sole_like, sole_times, has_both, has_like}
use Rattle.byte_formats.proofs.Leaves.{sole_two, sole_four, has_four, sole_text2, has_text2, has_level, word_bounds}
use Rattle.byte_formats.proofs.Maybe.{sole_maybe, has_maybe, sole_absent, has_absent}
use Rattle.byte_formats.proofs.Texts.{sole_name, sole_host, sole_set, sole_base, sole_level, has_name, has_host, has_set, has_base, sole_pair, has_pair}
use Rattle.budb_changes.specs.declared.version.Version.{Version}
use Rattle.budb_changes.specs.declared.version.Version.TheVariants.{One, Two}
use Rattle.budb_changes.specs.declared.records.TapePart.{TapePart}
use Rattle.budb_changes.specs.declared.records.Frag.{Frag}
use Rattle.budb_changes.specs.declared.records.VolRecordFields.{VolRecordFields}
use Rattle.budb_changes.specs.declared.records.DumpRecordFields.{DumpRecordFields}
use Rattle.budb_changes.specs.Printable.{IsPatternBytes}
use Rattle.budb_changes.specs.Bytes.{use_bytes, tape_bytes, tapes_bytes, frag_bytes, frags_bytes, volume_bytes, volumes_bytes, heading_bytes, cell_bytes, dump_bytes}
use Rattle.budb_changes.specs.Forms.{IsDumpRecord}
use Rattle.budb_changes.specs.Formats.{numbers, heading, use_form, cell_form, TellsPart, Tells, IsTape, tape_form, tapes_form, frag_form, frags_form, volume_form, volumes_form, dump_form}

-- ---- patterns

pub sole_pattern : Sole (text2_of IsPatternBytes)
sole_pattern = sole_text2 1 128 IsPatternBytes (lit≤ tt) (word_bounds alphabets.Printable 128)

pub has_pattern : Has (text2_of IsPatternBytes)
has_pattern = has_text2 alphabets.Printable 128 (lit≤ tt)

-- ---- four numbers, and a tape's part

pub sole_numbers : Sole numbers
sole_numbers = sole_pair any_four (pair any_four (pair any_four any_four)) sole_four (sole_pair any_four (pair any_four any_four) sole_four (sole_pair any_four any_four sole_four sole_four))

pub has_numbers : Has numbers
has_numbers = has_pair any_four (pair any_four (pair any_four any_four)) has_four (has_pair any_four (pair any_four any_four) has_four (has_pair any_four any_four has_four has_four))

pub sole_use : (version : Version) → Sole (use_form version)
sole_use One = sole_absent (0, [])
sole_use Two = sole_pair any_four (maybe IsTapeName) sole_four (sole_maybe IsTapeName)

pub has_use : (version : Version) → Has (use_form version)
has_use One = has_absent (0, [])
has_use Two = has_pair any_four (maybe IsTapeName) has_four (has_maybe IsTapeName)

abbrev pub tape_0 : Version → Format ((ℕ × (ℕ × (ℕ × ℕ))) × (ℕ × List ℕ))
tape_0 version = pair numbers (use_form version)

pub sole_tape_0 : (version : Version) → Sole (tape_0 version)
sole_tape_0 version = sole_pair numbers (use_form version) sole_numbers (sole_use version)

pub has_tape_0 : (version : Version) → Has (tape_0 version)
has_tape_0 version = has_pair numbers (use_form version) has_numbers (has_use version)

abbrev pub part_of : (ℕ × (ℕ × (ℕ × ℕ))) × (ℕ × List ℕ) → TapePart
part_of p = record { tape = p.0.0; first = p.0.1.0; end = p.0.1.1.0; marks = p.0.1.1.1; uses = p.1.0; permanent = p.1.1 }

abbrev pub part_fields : TapePart → (ℕ × (ℕ × (ℕ × ℕ))) × (ℕ × List ℕ)
part_fields t = ((t.tape, (t.first, (t.end, t.marks))), (t.uses, t.permanent))

pub part_there : (version : Version) (p : (ℕ × (ℕ × (ℕ × ℕ))) × (ℕ × List ℕ)) → (tape_0 version).Is p → IsTape version (part_of p)
part_there One p is =
    let uses : p.1.0 ≡ 0 = ap (λ (q : ℕ × List ℕ). q.0) is.1 in
    let permanent : p.1.1 ≡ [] = ap (λ (q : ℕ × List ℕ). q.1) is.1 in (
      record { tape = is.0.0; first = is.0.1.0; end = is.0.1.1.0; marks = is.0.1.1.1; uses = omega (arith, uses); permanent = inr permanent },
      record { uses = uses; permanent = permanent },
    )
part_there Two p is = (
  record { tape = is.0.0; first = is.0.1.0; end = is.0.1.1.0; marks = is.0.1.1.1; uses = is.1.0; permanent = is.1.1 },
  tt,
)

pub part_back : (version : Version) (t : TapePart) → IsTape version t → (tape_0 version).Is (part_fields t)
part_back One t is = ((is.0.tape, (is.0.first, (is.0.end, is.0.marks))), ap (λ (n : ℕ). (n, t.permanent)) is.1.uses ∙ ap (λ (text : List ℕ). (0, text)) is.1.permanent)
part_back Two t is = ((is.0.tape, (is.0.first, (is.0.end, is.0.marks))), (is.0.uses, is.0.permanent))

pub part_same : (version : Version) (t : TapePart) → tape_bytes version t ≡ (tape_0 version).spelled (part_fields t)
unfolding tape_bytes use_bytes
part_same One t = refl
part_same Two t = refl

unfoldable pub like_tape : (version : Version) → Like (tape_0 version) (tape_form version)
like_tape version = record {
  to = part_of;
  from = part_fields;
  there = part_there version;
  back = part_back version;
  again = λ p is. refl;
  restored = λ t is. refl;
  same = λ t is. part_same version t;
}

pub sole_tape : (version : Version) → Sole (tape_form version)
sole_tape version = sole_like (tape_0 version) (tape_form version) (like_tape version) (sole_tape_0 version)

pub has_tape : (version : Version) → Has (tape_form version)
has_tape version = has_like (tape_0 version) (tape_form version) (like_tape version) (has_tape_0 version)

unfoldable pub like_tapes : (version : Version) → Like (both (two_in 0 65535) (λ n. times n (tape_form version))) (tapes_form version)
unfolding tapes_bytes
like_tapes version = record {
  to = λ p. p.1;
  from = λ ts. (length ts, ts);
  there = λ p is. (omega (arith, is.0.1, is.1.0), is.1.1);
  back = λ ts is. ((omega arith, is.0), (refl, is.1));
  again = λ p is. ap (λ (n : ℕ). (n, p.1)) is.1.0;
  restored = λ ts is. refl;
  same = λ ts is. refl;
}

pub sole_tapes : (version : Version) → Sole (tapes_form version)
sole_tapes version = sole_like (both (two_in 0 65535) (λ n. times n (tape_form version))) (tapes_form version) (like_tapes version) (sole_both (two_in 0 65535) (λ n. times n (tape_form version)) (sole_two 0 65535 (lit≤ tt)) (λ n is. sole_times n (tape_form version) (sole_tape version)))

pub has_tapes : (version : Version) → Has (tapes_form version)
has_tapes version = record { value = []; is = (lit≤ tt, λ k d lt. absurd (omega (arith, lt))) }

-- ---- fragments

unfoldable pub like_frag : Like (pair any_four any_four) frag_form
unfolding frag_bytes
like_frag = record {
  to = λ p. record { tape = p.0; at = p.1 };
  from = λ f. (f.tape, f.at);
  there = λ p is. record { tape = is.0; at = is.1 };
  back = λ f is. (is.tape, is.at);
  again = λ p is. refl;
  restored = λ f is. refl;
  same = λ f is. refl;
}

pub sole_frag : Sole frag_form
sole_frag = sole_like (pair any_four any_four) frag_form like_frag (sole_pair any_four any_four sole_four sole_four)

pub has_frag : Has frag_form
has_frag = has_like (pair any_four any_four) frag_form like_frag (has_pair any_four any_four has_four has_four)

unfoldable pub like_frags : Like (both (two_in 1 65535) (λ n. times n frag_form)) frags_form
unfolding frags_bytes
like_frags = record {
  to = λ p. p.1;
  from = λ fs. (length fs, fs);
  there = λ p is. (omega (arith, is.0.0, is.1.0), omega (arith, is.0.1, is.1.0), is.1.1);
  back = λ fs is. ((is.0, is.1), (refl, is.2));
  again = λ p is. ap (λ (n : ℕ). (n, p.1)) is.1.0;
  restored = λ fs is. refl;
  same = λ fs is. refl;
}

pub sole_frags : Sole frags_form
sole_frags = sole_like (both (two_in 1 65535) (λ n. times n frag_form)) frags_form like_frags (sole_both (two_in 1 65535) (λ n. times n frag_form) (sole_two 1 65535 (lit≤ tt)) (λ n is. sole_times n frag_form sole_frag))

pub has_frags : Has frags_form
has_frags = record { value = has_frag.value ∷ []; is = (omega arith, omega arith, All-cons frag_form.Is has_frag.value [] has_frag.is (All-nil frag_form.Is)) }

-- ---- volume

abbrev pub volume_5 : Format (ℕ × (List Frag))
volume_5 = pair any_four frags_form

abbrev pub volume_4 : Format (ℕ × (ℕ × (List Frag)))
volume_4 = pair any_four volume_5

abbrev pub volume_3 : Format ((List ℕ) × (ℕ × (ℕ × (List Frag))))
volume_3 = pair (text1_of IsName) volume_4

abbrev pub volume_2 : Format ((List ℕ) × ((List ℕ) × (ℕ × (ℕ × (List Frag)))))
volume_2 = pair (text1_of IsHost) volume_3

abbrev pub volume_1 : Format (ℕ × ((List ℕ) × ((List ℕ) × (ℕ × (ℕ × (List Frag))))))
volume_1 = pair any_four volume_2

abbrev pub volume_0 : Format ((List ℕ) × (ℕ × ((List ℕ) × ((List ℕ) × (ℕ × (ℕ × (List Frag)))))))
volume_0 = pair (text1_of IsName) volume_1

pub sole_volume_5 : Sole volume_5
sole_volume_5 = sole_pair any_four frags_form sole_four sole_frags

pub has_volume_5 : Has volume_5
has_volume_5 = has_pair any_four frags_form has_four has_frags

pub sole_volume_4 : Sole volume_4
sole_volume_4 = sole_pair any_four volume_5 sole_four sole_volume_5

pub has_volume_4 : Has volume_4
has_volume_4 = has_pair any_four volume_5 has_four has_volume_5

pub sole_volume_3 : Sole volume_3
sole_volume_3 = sole_pair (text1_of IsName) volume_4 sole_name sole_volume_4

pub has_volume_3 : Has volume_3
has_volume_3 = has_pair (text1_of IsName) volume_4 has_name has_volume_4

pub sole_volume_2 : Sole volume_2
sole_volume_2 = sole_pair (text1_of IsHost) volume_3 sole_host sole_volume_3

pub has_volume_2 : Has volume_2
has_volume_2 = has_pair (text1_of IsHost) volume_3 has_host has_volume_3

pub sole_volume_1 : Sole volume_1
sole_volume_1 = sole_pair any_four volume_2 sole_four sole_volume_2

pub has_volume_1 : Has volume_1
has_volume_1 = has_pair any_four volume_2 has_four has_volume_2

pub sole_volume_0 : Sole volume_0
sole_volume_0 = sole_pair (text1_of IsName) volume_1 sole_name sole_volume_1

pub has_volume_0 : Has volume_0
has_volume_0 = has_pair (text1_of IsName) volume_1 has_name has_volume_1

unfoldable pub like_volume : Like volume_0 volume_form
unfolding volume_bytes
like_volume = record {
  to = λ p. record { name = p.0; id = p.1.0; server = p.1.1.0; partition = p.1.1.1.0; clone = p.1.1.1.1.0; from = p.1.1.1.1.1.0; frags = p.1.1.1.1.1.1 };
  from = λ v. (v.name, (v.id, (v.server, (v.partition, (v.clone, (v.from, v.frags))))));
  there = λ p is. record {
    name = is.0;
    id = is.1.0;
    server = is.1.1.0;
    partition = is.1.1.1.0;
    clone = is.1.1.1.1.0;
    from = is.1.1.1.1.1.0;
    some = is.1.1.1.1.1.1.0;
    most = is.1.1.1.1.1.1.1;
    each = is.1.1.1.1.1.1.2;
  };
  back = λ v is. (is.name, (is.id, (is.server, (is.partition, (is.clone, (is.from, (is.some, is.most, is.each)))))));
  again = λ p is. refl;
  restored = λ v is. refl;
  same = λ v is. refl;
}

pub sole_volume : Sole volume_form
sole_volume = sole_like volume_0 volume_form like_volume sole_volume_0

pub has_volume : Has volume_form
has_volume = has_like volume_0 volume_form like_volume has_volume_0

unfoldable pub like_volumes : Like (both any_four (λ n. times n volume_form)) volumes_form
unfolding volumes_bytes
like_volumes = record {
  to = λ p. p.1;
  from = λ vs. (length vs, vs);
  there = λ p is. (omega (arith, is.0, is.1.0), is.1.1);
  back = λ vs is. (is.0, (refl, is.1));
  again = λ p is. ap (λ (n : ℕ). (n, p.1)) is.1.0;
  restored = λ vs is. refl;
  same = λ vs is. refl;
}

pub sole_volumes : Sole volumes_form
sole_volumes = sole_like (both any_four (λ n. times n volume_form)) volumes_form like_volumes (sole_both any_four (λ n. times n volume_form) sole_four (λ n is. sole_times n volume_form sole_volume))

pub has_volumes : Has volumes_form
has_volumes = record { value = []; is = (lit≤ tt, λ k d lt. absurd (omega (arith, lt))) }

-- ---- dump

abbrev pub heading_2 : Format (List ℕ × List ℕ)
heading_2 = pair (text2_of IsLevelPath) (text1_of IsBase)

abbrev pub heading_1 : Format (List ℕ × (List ℕ × List ℕ))
heading_1 = pair (text1_of IsSetName) heading_2

pub has_heading_2 : Has heading_2
has_heading_2 = has_pair (text2_of IsLevelPath) (text1_of IsBase) has_level has_base

pub has_heading_1 : Has heading_1
has_heading_1 = has_pair (text1_of IsSetName) heading_2 has_set has_heading_2

pub sole_heading : Sole heading
sole_heading = sole_pair numbers heading_1 sole_numbers (sole_pair (text1_of IsSetName) heading_2 sole_set (sole_pair (text2_of IsLevelPath) (text1_of IsBase) sole_level sole_base))

pub has_heading : Has heading
has_heading = has_pair numbers heading_1 has_numbers has_heading_1

pub sole_cell : (version : Version) → Sole (cell_form version)
sole_cell One = sole_absent []
sole_cell Two = sole_maybe IsHost

pub has_cell : (version : Version) → Has (cell_form version)
has_cell One = has_absent []
has_cell Two = has_maybe IsHost

pub cell_named : (version : Version) (cell : List ℕ) → (cell_form version).Is cell → IsMaybe IsHost cell
cell_named One cell is = inr is
cell_named Two cell is = is

abbrev pub dump_2 : Version → Format (List VolRecordFields × List ℕ)
dump_2 version = pair volumes_form (cell_form version)

abbrev pub dump_1 : Version → Format (List TapePart × (List VolRecordFields × List ℕ))
dump_1 version = pair (tapes_form version) (dump_2 version)

abbrev pub dump_0 : Version → Format (((ℕ × (ℕ × (ℕ × ℕ))) × (List ℕ × (List ℕ × List ℕ))) × (List TapePart × (List VolRecordFields × List ℕ)))
dump_0 version = pair heading (dump_1 version)

pub has_dump_2 : (version : Version) → Has (dump_2 version)
has_dump_2 version = has_pair volumes_form (cell_form version) has_volumes (has_cell version)

pub has_dump_1 : (version : Version) → Has (dump_1 version)
has_dump_1 version = has_pair (tapes_form version) (dump_2 version) (has_tapes version) (has_dump_2 version)

pub sole_dump_0 : (version : Version) → Sole (dump_0 version)
sole_dump_0 version = sole_pair heading (dump_1 version) sole_heading (sole_pair (tapes_form version) (dump_2 version) (sole_tapes version) (sole_pair volumes_form (cell_form version) sole_volumes (sole_cell version)))

pub has_dump_0 : (version : Version) → Has (dump_0 version)
has_dump_0 version = has_pair heading (dump_1 version) has_heading (has_dump_1 version)

abbrev pub dump_of : ((ℕ × (ℕ × (ℕ × ℕ))) × (List ℕ × (List ℕ × List ℕ))) × (List TapePart × (List VolRecordFields × List ℕ)) → DumpRecordFields
dump_of p = record {
  id = p.0.0.0;
  initial = p.0.0.1.0;
  parent = p.0.0.1.1.0;
  expires = p.0.0.1.1.1;
  set = p.0.1.0;
  level = p.0.1.1.0;
  base = p.0.1.1.1;
  tapes = p.1.0;
  volumes = p.1.1.0;
  cell = p.1.1.1;
}

abbrev pub dump_fields : DumpRecordFields → ((ℕ × (ℕ × (ℕ × ℕ))) × (List ℕ × (List ℕ × List ℕ))) × (List TapePart × (List VolRecordFields × List ℕ))
dump_fields d = (((d.id, (d.initial, (d.parent, d.expires))), (d.set, (d.level, d.base))), (d.tapes, (d.volumes, d.cell)))

-- the fields of a record but for what versions differ in
pub dump_is : (version : Version) (p : ((ℕ × (ℕ × (ℕ × ℕ))) × (List ℕ × (List ℕ × List ℕ))) × (List TapePart × (List VolRecordFields × List ℕ))) → (dump_0 version).Is p → IsMaybe IsHost p.1.1.1 → IsDumpRecord (dump_of p)
dump_is version p is cell = record {
  id = is.0.0.0;
  initial = is.0.0.1.0;
  parent = is.0.0.1.1.0;
  expires = is.0.0.1.1.1;
  set = is.0.1.0;
  level = is.0.1.1.0;
  base = is.0.1.1.1;
  few_tapes = is.1.0.0;
  each_tape = λ k d lt. (is.1.0.1 k d lt).0;
  few_volumes = is.1.1.0.0;
  each_volume = is.1.1.0.1;
  cell = cell;
}

pub dump_there : (version : Version) (p : ((ℕ × (ℕ × (ℕ × ℕ))) × (List ℕ × (List ℕ × List ℕ))) × (List TapePart × (List VolRecordFields × List ℕ))) → (dump_0 version).Is p → IsDumpRecord (dump_of p) × Tells version (dump_of p)
dump_there One p is = (dump_is One p is (inr is.1.1.1), record { tapes = λ k d lt. (is.1.0.1 k d lt).1; cell = is.1.1.1 })
dump_there Two p is = (dump_is Two p is is.1.1.1, tt)

pub dump_parts : (version : Version) (d : DumpRecordFields) → IsDumpRecord d → All (TellsPart version) d.tapes → (cell_form version).Is d.cell → (dump_0 version).Is (dump_fields d)
dump_parts version d is tells cell = (((is.id, (is.initial, (is.parent, is.expires))), (is.set, (is.level, is.base))), ((is.few_tapes, λ k e lt. (is.each_tape k e lt, tells k e lt)), ((is.few_volumes, is.each_volume), cell)))

pub dump_back : (version : Version) (d : DumpRecordFields) → IsDumpRecord d × Tells version d → (dump_0 version).Is (dump_fields d)
dump_back One d is = dump_parts One d is.0 is.1.tapes is.1.cell
dump_back Two d is = dump_parts Two d is.0 (λ k e lt. tt) is.0.cell

pub dump_same : (version : Version) (d : DumpRecordFields) → dump_bytes version d ≡ (dump_0 version).spelled (dump_fields d)
unfolding dump_bytes heading_bytes cell_bytes
dump_same One d = refl
dump_same Two d = refl

unfoldable pub like_dump : (version : Version) → Like (dump_0 version) (dump_form version)
like_dump version = record {
  to = dump_of;
  from = dump_fields;
  there = dump_there version;
  back = dump_back version;
  again = λ p is. refl;
  restored = λ d is. refl;
  same = λ d is. dump_same version d;
}

pub sole_dump : (version : Version) → Sole (dump_form version)
sole_dump version = sole_like (dump_0 version) (dump_form version) (like_dump version) (sole_dump_0 version)

pub has_dump : (version : Version) → Has (dump_form version)
has_dump version = has_like (dump_0 version) (dump_form version) (like_dump version) (has_dump_0 version)
