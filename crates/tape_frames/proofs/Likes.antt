-- The fields of each kind, one behind another, as its struct.
use Rattle.std.proofs.Common.{◌≡◌, ◌≢◌, ◌⊎◌, inl, inr, ℕ, ◌≤◌, ◌==◌, Bool, true, false, cond, List, [], ◌++◌, length, replicate, refl, sym, ap, ◌∙◌, append_assoc, arith, lit≤}
use Rattle.std.proofs.lemmas.Bool.{eqb-true, eqb-false}
use Rattle.bk_text.specs.Alphabets.{IsTapeName}
use Rattle.byte_formats.specs.Bytes.{four, text1}
use Rattle.byte_formats.specs.Forms.{IsFour, IsMaybe}
use Rattle.byte_formats.specs.Formats.{Format, both, text1_of, maybe}
use Rattle.byte_formats.proofs.FormatLaws.{Sole, Like, sole_both, sole_like}
use Rattle.byte_formats.proofs.Bases.{short_base, base_name}
use Rattle.tape_frames.specs.declared.label.LabelFields.{LabelFields}
use Rattle.tape_frames.specs.declared.dump_head.DumpHeadFields.{DumpHeadFields}
use Rattle.tape_frames.specs.declared.vol_head.VolHeadFields.{VolHeadFields}
use Rattle.tape_frames.specs.declared.data.DataFields.{DataFields}
use Rattle.tape_frames.specs.declared.vol_end.VolEndFields.{VolEndFields}
use Rattle.tape_frames.specs.declared.dump_end.DumpEndFields.{DumpEndFields}
use Rattle.tape_frames.specs.Layouts.{plain_head_bytes, dump_head_bytes, FitsLabel, FitsDumpHead}
use Rattle.tape_frames.specs.Formats.{IsAfs, afs_of, label_form, plain_head_form, dump_head_form, vol_head_form, data_form, vol_end_form, dump_end_form}
use Rattle.tape_frames.proofs.Rows.{label_1, plain_1, use_1, vol_head_1, data_1, vol_end_1, dump_end_1, sole_label_1, sole_plain_1, sole_use_1, sole_vol_head_1, sole_data_1, sole_vol_end_1, sole_dump_end_1}

-- ---- a label

abbrev pub LabelRow : Type 0
LabelRow = ℕ × (ℕ × (List ℕ × List ℕ))

abbrev pub label_to : LabelRow → LabelFields
label_to p = record { initial = p.0; tape = p.1.0; afs = p.1.1.0; permanent = p.1.1.1 }

abbrev pub label_from : LabelFields → LabelRow
label_from a = (a.initial, (a.tape, (a.afs, a.permanent)))

abbrev pub Carries : ℕ → ℕ → List ℕ → Type 0
Carries i t afs = ((i ≡ 0) × (t ≡ 0)) ⊎ ((i ≢ 0) × (t ≢ 0) × (afs ≢ []))

pub some_name : (text : List ℕ) → IsTapeName text → text ≢ []
some_name text is e = let some : 1 ≤ length text = is.some in omega (arith, some, ap length e)

pub carries : (i t : ℕ) (afs : List ℕ) (b : Bool) → (i == 0) ≡ b → (cond b 0 1 ≤ t) × (t ≤ cond b 0 4294967295) → IsAfs i afs → Carries i t afs
carries i t afs true e bounds is = inl (eqb-true i 0 e, omega (arith, bounds.1))
carries i t afs false e bounds (inl name) = inr (eqb-false i 0 e, (λ z. omega (arith, bounds.0, z)), some_name afs name)
carries i t afs false e bounds (inr none) = absurd (eqb-false i 0 e none.0)

pub tape_four : (t : ℕ) (b : Bool) → t ≤ cond b 0 4294967295 → IsFour t
tape_four t true le = omega (arith, le)
tape_four t false le = le

pub maybe_afs : (i : ℕ) (afs : List ℕ) → IsAfs i afs → IsMaybe IsTapeName afs
maybe_afs i afs (inl name) = inl name
maybe_afs i afs (inr none) = inr none.1

pub bounds_of : (t : ℕ) (b : Bool) → (b ≡ true → t ≡ 0) → (b ≡ false → t ≢ 0) → IsFour t → (cond b 0 1 ≤ t) × (t ≤ cond b 0 4294967295)
bounds_of t true zero some fits = let e : t ≡ 0 = zero refl in (omega arith, omega (arith, e))
bounds_of t false zero some fits = let e : t ≢ 0 = some refl in (omega (arith, e), fits)

pub tape_bounds : (i t : ℕ) (afs : List ℕ) → IsFour t → Carries i t afs → (cond (i == 0) 0 1 ≤ t) × (t ≤ cond (i == 0) 0 4294967295)
tape_bounds i t afs fits (inl none) = bounds_of t (i == 0) (λ e. none.1) (λ e. absurd (eqb-false i 0 e none.0)) fits
tape_bounds i t afs fits (inr some) = bounds_of t (i == 0) (λ e. absurd (some.0 (eqb-true i 0 e))) (λ e. some.1) fits

pub afs_back : (i t : ℕ) (afs : List ℕ) → IsMaybe IsTapeName afs → Carries i t afs → IsAfs i afs
afs_back i t afs (inl name) c = inl name
afs_back i t afs (inr none) (inl zero) = inr (zero.0, none)
afs_back i t afs (inr none) (inr some) = absurd (some.2 none)

pub afs_of_none : (i : ℕ) (afs : List ℕ) → i ≡ 0 → IsMaybe IsTapeName afs → IsAfs i afs
afs_of_none i afs zero (inl name) = inl name
afs_of_none i afs zero (inr none) = inr (zero, none)

pub name_afs : (i : ℕ) (afs : List ℕ) → i ≢ 0 → IsAfs i afs → IsTapeName afs
name_afs i afs some (inl name) = name
name_afs i afs some (inr none) = absurd (some none.0)

pub label_there : (p : LabelRow) → label_1.Is p → FitsLabel (label_to p)
label_there p is = record {
  initial = is.0;
  tape = tape_four p.1.0 (p.0 == 0) is.1.0.1;
  afs = maybe_afs p.0 p.1.1.0 is.1.1.0;
  permanent = is.1.1.1;
  carries = carries p.0 p.1.0 p.1.1.0 (p.0 == 0) refl is.1.0 is.1.1.0;
}

pub label_back : (a : LabelFields) → FitsLabel a → label_1.Is (label_from a)
label_back a is = (is.initial, (tape_bounds a.initial a.tape a.afs is.tape is.carries, (afs_back a.initial a.tape a.afs is.afs is.carries, is.permanent)))

unfoldable pub like_label : Like label_1 label_form
like_label = record {
  to = label_to;
  from = label_from;
  there = label_there;
  back = label_back;
  again = λ p is. refl;
  restored = λ a is. refl;
  same = λ a is. refl;
}

pub sole_label : Sole label_form
sole_label = sole_like label_1 label_form like_label sole_label_1

-- the AFS name by the initial id

unfoldable pub like_afs_none : (i : ℕ) → i ≡ 0 → Like (maybe IsTapeName) (afs_of i)
like_afs_none i zero = record {
  to = λ text. text;
  from = λ text. text;
  there = λ text is. afs_of_none i text zero is;
  back = λ text is. maybe_afs i text is;
  again = λ text is. refl;
  restored = λ text is. refl;
  same = λ text is. refl;
}

unfoldable pub like_afs_some : (i : ℕ) → i ≢ 0 → Like (text1_of IsTapeName) (afs_of i)
like_afs_some i some = record {
  to = λ text. text;
  from = λ text. text;
  there = λ text is. inl is;
  back = λ text is. name_afs i text some is;
  again = λ text is. refl;
  restored = λ text is. refl;
  same = λ text is. refl;
}

-- ---- a dump's head in version 1

abbrev pub HeadRow : Type 0
HeadRow = ℕ × (ℕ × (ℕ × (ℕ × (ℕ × (ℕ × (ℕ × (List ℕ × (List ℕ × List ℕ))))))))

abbrev pub plain_to : HeadRow → DumpHeadFields
plain_to p = record {
  id = p.0;
  initial = p.1.0;
  parent = p.1.1.0;
  expires = p.1.1.1.0;
  tape = p.1.1.1.1.0;
  part = p.1.1.1.1.1.0;
  volumes = p.1.1.1.1.1.1.0;
  set = p.1.1.1.1.1.1.1.0;
  level = p.1.1.1.1.1.1.1.1.0;
  base = p.1.1.1.1.1.1.1.1.1;
  cell = [];
  permanent = [];
  uses = 0;
}

abbrev pub plain_from : DumpHeadFields → HeadRow
plain_from a = (a.id, (a.initial, (a.parent, (a.expires, (a.tape, (a.part, (a.volumes, (a.set, (a.level, a.base)))))))))

pub plain_there : (p : HeadRow) → plain_1.Is p → plain_head_form.Is (plain_to p)
plain_there p is = (
  record {
    id = is.0.1;
    initial = is.1.0;
    parent = is.1.1.0;
    expires = is.1.1.1.0;
    tape = is.1.1.1.1.0;
    part = is.1.1.1.1.1.0;
    volumes = is.1.1.1.1.1.1.0;
    set = is.1.1.1.1.1.1.1.0;
    level = is.1.1.1.1.1.1.1.1.0;
    base = (base_name p.1.1.1.1.1.1.1.1.1 is.1.1.1.1.1.1.1.1.1, is.1.1.1.1.1.1.1.1.1.short);
    cell = inr refl;
    permanent = inr refl;
    uses = lit≤ tt;
    plain = λ e. (refl, refl);
  },
  refl,
)

pub plain_back : (a : DumpHeadFields) → FitsDumpHead a → plain_1.Is (plain_from a)
plain_back a is =
    let first : 1 ≤ a.id = omega (arith, is.initial) in
    ((first, is.id), (is.initial, (is.parent, (is.expires, (is.tape, (is.part, (is.volumes, (is.set, (is.level, short_base a.base is.base.0 is.base.1)))))))))

-- a head is known by the fields of version 1 where it tells no uses
abbrev with_use : DumpHeadFields → List ℕ → List ℕ → ℕ → DumpHeadFields
with_use a cell permanent uses = record {
  id = a.id;
  initial = a.initial;
  parent = a.parent;
  expires = a.expires;
  tape = a.tape;
  part = a.part;
  volumes = a.volumes;
  set = a.set;
  level = a.level;
  base = a.base;
  cell = cell;
  permanent = permanent;
  uses = uses;
}

pub bare : (a : DumpHeadFields) → a.cell ≡ [] → a.permanent ≡ [] → a.uses ≡ 0 → plain_to (plain_from a) ≡ a
bare a cell permanent uses =
    ap (λ (c : List ℕ). with_use a c [] 0) (sym cell) ∙ ap (λ (p : List ℕ). with_use a a.cell p 0) (sym permanent) ∙ ap (λ (u : ℕ). with_use a a.cell a.permanent u) (sym uses)

pub plain_restored : (a : DumpHeadFields) → FitsDumpHead a × (a.uses ≡ 0) → plain_to (plain_from a) ≡ a
plain_restored a is = bare a (is.0.plain is.1).0 (is.0.plain is.1).1 is.1

unfoldable pub like_plain : Like plain_1 plain_head_form
like_plain = record {
  to = plain_to;
  from = plain_from;
  there = plain_there;
  back = λ a is. plain_back a is.0;
  again = λ p is. refl;
  restored = plain_restored;
  same = λ a is. refl;
}

pub sole_plain : Sole plain_head_form
sole_plain = sole_like plain_1 plain_head_form like_plain sole_plain_1

-- ---- a dump's head in version 2

abbrev pub head_1 : Format (DumpHeadFields × (List ℕ × (List ℕ × ℕ)))
head_1 = both plain_head_form (λ x. use_1)

abbrev pub head_to : DumpHeadFields × (List ℕ × (List ℕ × ℕ)) → DumpHeadFields
head_to p = record {
  id = p.0.id;
  initial = p.0.initial;
  parent = p.0.parent;
  expires = p.0.expires;
  tape = p.0.tape;
  part = p.0.part;
  volumes = p.0.volumes;
  set = p.0.set;
  level = p.0.level;
  base = p.0.base;
  cell = p.1.0;
  permanent = p.1.1.0;
  uses = p.1.1.1;
}

abbrev pub head_from : DumpHeadFields → DumpHeadFields × (List ℕ × (List ℕ × ℕ))
head_from a = (plain_to (plain_from a), (a.cell, (a.permanent, a.uses)))

pub head_there : (p : DumpHeadFields × (List ℕ × (List ℕ × ℕ))) → head_1.Is p → FitsDumpHead (head_to p) × (1 ≤ p.1.1.1)
head_there p is = (
  record {
    id = is.0.0.id;
    initial = is.0.0.initial;
    parent = is.0.0.parent;
    expires = is.0.0.expires;
    tape = is.0.0.tape;
    part = is.0.0.part;
    volumes = is.0.0.volumes;
    set = is.0.0.set;
    level = is.0.0.level;
    base = is.0.0.base;
    cell = is.1.0;
    permanent = is.1.1.0;
    uses = is.1.1.1.1;
    plain = λ e. let some : 1 ≤ p.1.1.1 = is.1.1.1.0 in absurd (omega (arith, some, e));
  },
  is.1.1.1.0,
)

pub head_back : (a : DumpHeadFields) → FitsDumpHead a → 1 ≤ a.uses → head_1.Is (head_from a)
head_back a is some = (plain_there (plain_from a) (plain_back a is), (is.cell, (is.permanent, (some, is.uses))))

pub head_again : (p : DumpHeadFields × (List ℕ × (List ℕ × ℕ))) → FitsDumpHead p.0 × (p.0.uses ≡ 0) → head_from (head_to p) ≡ p
head_again p is = ap (λ (a : DumpHeadFields). (a, p.1)) (plain_restored p.0 is)

pub head_same : (a : DumpHeadFields) → dump_head_bytes a ≡ plain_head_bytes a ++ (text1 a.cell ++ (text1 a.permanent ++ four a.uses))
head_same a = sym (simp append_assoc)

unfoldable pub like_head : Like head_1 dump_head_form
like_head = record {
  to = head_to;
  from = head_from;
  there = head_there;
  back = λ a is. head_back a is.0 is.1;
  again = λ p is. head_again p is.0;
  restored = λ a is. refl;
  same = λ a is. head_same a;
}

pub sole_head : Sole dump_head_form
sole_head = sole_like head_1 dump_head_form like_head (sole_both plain_head_form (λ x. use_1) sole_plain (λ x is. sole_use_1))

-- ---- a volume's head

abbrev pub VolHeadRow : Type 0
VolHeadRow = ℕ × (ℕ × (ℕ × (ℕ × (ℕ × (ℕ × (List ℕ × (List ℕ × List ℕ)))))))

abbrev pub vol_head_to : VolHeadRow → VolHeadFields
vol_head_to p = record {
  dump = p.0;
  index = p.1.0;
  fragment = p.1.1.0;
  volume = p.1.1.1.0;
  clone = p.1.1.1.1.0;
  from = p.1.1.1.1.1.0;
  name = p.1.1.1.1.1.1.0;
  server = p.1.1.1.1.1.1.1.0;
  partition = p.1.1.1.1.1.1.1.1;
}

abbrev pub vol_head_from : VolHeadFields → VolHeadRow
vol_head_from a = (a.dump, (a.index, (a.fragment, (a.volume, (a.clone, (a.from, (a.name, (a.server, a.partition))))))))

unfoldable pub like_vol_head : Like vol_head_1 vol_head_form
like_vol_head = record {
  to = vol_head_to;
  from = vol_head_from;
  there = λ p is. record {
    dump = is.0;
    index = is.1.0;
    fragment = is.1.1.0;
    volume = is.1.1.1.0;
    clone = is.1.1.1.1.0;
    from = is.1.1.1.1.1.0;
    name = is.1.1.1.1.1.1.0;
    server = is.1.1.1.1.1.1.1.0;
    partition = is.1.1.1.1.1.1.1.1;
  };
  back = λ a is. (is.dump, (is.index, (is.fragment, (is.volume, (is.clone, (is.from, (is.name, (is.server, is.partition))))))));
  again = λ p is. refl;
  restored = λ a is. refl;
  same = λ a is. refl;
}

pub sole_vol_head : Sole vol_head_form
sole_vol_head = sole_like vol_head_1 vol_head_form like_vol_head sole_vol_head_1

-- ---- a piece of data

abbrev pub DataRow : Type 0
DataRow = ℕ × (ℕ × (ℕ × (List ℕ × List ℕ)))

abbrev pub data_to : DataRow → DataFields
data_to p = record { dump = p.0; index = p.1.0; used = p.1.1.0; bytes = p.1.1.1.1 }

abbrev pub data_from : DataFields → DataRow
data_from a = (a.dump, (a.index, (a.used, (replicate 12 0, a.bytes))))

unfoldable pub like_data : Like data_1 data_form
like_data = record {
  to = data_to;
  from = data_from;
  there = λ p is. record { dump = is.0; index = is.1.0; used = is.1.1.0; size = is.1.1.1.1.0; bytes = is.1.1.1.1.1; rest = is.1.1.1.1.2 };
  back = λ a is. (is.dump, (is.index, (is.used, (refl, (is.size, is.bytes, is.rest)))));
  again = λ p is. ap (λ (z : List ℕ). (p.0, (p.1.0, (p.1.1.0, (z, p.1.1.1.1))))) (sym is.1.1.1.0);
  restored = λ a is. refl;
  same = λ a is. refl;
}

pub sole_data : Sole data_form
sole_data = sole_like data_1 data_form like_data sole_data_1

-- ---- the end of a fragment, and of a part

abbrev pub VolEndRow : Type 0
VolEndRow = ℕ × (ℕ × (ℕ × (ℕ × ℕ)))

abbrev pub vol_end_to : VolEndRow → VolEndFields
vol_end_to p = record { dump = p.0; index = p.1.0; fragment = p.1.1.0; last = p.1.1.1.0; bytes = p.1.1.1.1 }

abbrev pub vol_end_from : VolEndFields → VolEndRow
vol_end_from a = (a.dump, (a.index, (a.fragment, (a.last, a.bytes))))

unfoldable pub like_vol_end : Like vol_end_1 vol_end_form
like_vol_end = record {
  to = vol_end_to;
  from = vol_end_from;
  there = λ p is. record { dump = is.0; index = is.1.0; fragment = is.1.1.0; last = is.1.1.1.0.1; bytes = is.1.1.1.1 };
  back = λ a is. (is.dump, (is.index, (is.fragment, ((omega arith, is.last), is.bytes))));
  again = λ p is. refl;
  restored = λ a is. refl;
  same = λ a is. refl;
}

pub sole_vol_end : Sole vol_end_form
sole_vol_end = sole_like vol_end_1 vol_end_form like_vol_end sole_vol_end_1

abbrev pub DumpEndRow : Type 0
DumpEndRow = ℕ × (ℕ × ℕ)

abbrev pub dump_end_to : DumpEndRow → DumpEndFields
dump_end_to p = record { dump = p.0; tape = p.1.0; more = p.1.1 }

abbrev pub dump_end_from : DumpEndFields → DumpEndRow
dump_end_from a = (a.dump, (a.tape, a.more))

unfoldable pub like_dump_end : Like dump_end_1 dump_end_form
like_dump_end = record {
  to = dump_end_to;
  from = dump_end_from;
  there = λ p is. record { dump = is.0; tape = is.1.0; more = is.1.1.1 };
  back = λ a is. (is.dump, (is.tape, (omega arith, is.more)));
  again = λ p is. refl;
  restored = λ a is. refl;
  same = λ a is. refl;
}

pub sole_dump_end : Sole dump_end_form
sole_dump_end = sole_like dump_end_1 dump_end_form like_dump_end sole_dump_end_1
