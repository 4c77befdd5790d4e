-- How long a volume's stream may be.
use Rattle.std.proofs.Common.{◌≡◌, ℕ, ◌+◌, ◌*◌, ◌^◌, ◌<◌, ◌≤◌, Bool, true, false, List, [], ◌∷◌, ◌++◌, length, map, refl, sym, subst, arith, length-append}
use Rattle.std.specs.Prelude.{Option, Some, None, All, sum_by, if◌then◌else◌, ◌==◌}
use Rattle.std.specs.List.{flat_map}
use Rattle.std.specs.Int.{w32, to_be_bytes}
use Rattle.std.proofs.lemmas.List.Sums.{sum_by-cons}
use Rattle.std.proofs.lemmas.List.Elements.{All-head, All-tail}
use Rattle.vnode_model.specs.declared.headers.HeaderFields.{HeaderFields}
use Rattle.vnode_model.specs.declared.vnodes.Vnode.{Vnode}
use Rattle.vnode_model.specs.declared.vnodes.VnodeKind.{VnodeKind}
use Rattle.vnode_model.specs.declared.vnodes.VnodeKind.TheVariants.{File, Directory, Symlink}
use Rattle.vnode_model.specs.declared.increments.Entry.{Entry}
use Rattle.vnode_model.specs.declared.increments.Entry.TheVariants.{Whole, Kept}
use Rattle.vnode_model.specs.declared.increments.Increment.{Increment}
use Rattle.vnode_model.specs.Limits.{data_len}
use Rattle.dump_stream.specs.declared.sofar.Field.{Field}
use Rattle.dump_stream.specs.Forms.{opening, closing}
use Rattle.dump_stream.specs.Fields.{spelled}
use Rattle.dump_stream.specs.Stream.{section}
use Rattle.dump_stream.specs.Written.{short_field, number_field, data_field, dump_fields, updates_fields, header_fields, group_fields, access_fields, vnode_fields, section_of, written}
use Rattle.dump_stream.specs.Allowed.{AllowedHeader, AllowedEntry, Allowed}

abbrev size_of : Field → ℕ
size_of f = 1 + length f.payload

-- the bytes of fields
abbrev sizes : List Field → ℕ
sizes [] = 0
sizes (f ∷ fs) = size_of f + sizes fs

sizes_append : (fs gs : List Field) → sizes (fs ++ gs) ≡ sizes fs + sizes gs
sizes_append [] gs = omega arith
sizes_append (f ∷ fs) gs = omega (arith, sizes_append fs gs)

spelled_long : (fs : List Field) → length (flat_map spelled fs) ≡ sizes fs
spelled_long [] = refl
spelled_long (f ∷ fs) = omega (arith, length-append (spelled f) (flat_map spelled fs), spelled_long fs)

-- ---- vnodes

group_by : (none : Bool) (group : ℕ) → sizes (if none then [] else number_field 103 group ∷ []) ≤ 5
group_by true group = omega arith
group_by false group = omega arith

access_long : (kind : VnodeKind) (access : List ℕ) → length access ≡ 192 → sizes (access_fields kind access) ≤ 193
access_long File access long = omega arith
access_long Directory access long = omega (arith, long)
access_long Symlink access long = omega arith

data_long : (v : Vnode) → length v.access ≡ 192 → sizes (access_fields v.kind v.access ++ data_field 102 v.body ∷ []) ≤ 198 + length v.body
data_long v long =
    omega (arith, sizes_append (access_fields v.kind v.access) (data_field 102 v.body ∷ []), access_long v.kind v.access long, length-append (to_be_bytes w32 (length v.body)) v.body)

-- the fields behind the group
abbrev vnode_rest : Vnode → List Field
vnode_rest v = short_field 98 v.mode ∷ number_field 112 v.parent ∷ number_field 115 v.server_modified ∷ (access_fields v.kind v.access ++ data_field 102 v.body ∷ [])

vnode_long : (v : Vnode) → length v.access ≡ 192 → sizes (vnode_fields v) ≤ 300 + length v.body
vnode_long v long =
    omega (arith, sizes_append (group_fields v.group) (vnode_rest v), group_by (v.group == 0) v.group, data_long v long)

entry_long : (e : Entry) → AllowedEntry e → length (section (section_of e)) ≤ 400 + data_len e
entry_long (Whole v) allowed =
    omega (arith, length-append (to_be_bytes w32 v.number ++ to_be_bytes w32 v.uniq) (flat_map spelled (vnode_fields v)), spelled_long (vnode_fields v), vnode_long v allowed.access_len)
entry_long (Kept number uniq) allowed = omega arith

entries_long : (es : List Entry) → All AllowedEntry es → length (flat_map section (map section_of es)) ≤ 400 * length es + sum_by data_len es
entries_long [] allowed = omega arith
entries_long (e ∷ es) allowed =
    omega (arith, length-append (section (section_of e)) (flat_map section (map section_of es)), entry_long e (All-head AllowedEntry e es allowed), entries_long es (All-tail AllowedEntry e es allowed), sum_by-cons data_len e es)

-- ---- headers

week_long : (week : List ℕ) → length (flat_map (to_be_bytes w32) week) ≡ 4 * length week
week_long [] = refl
week_long (d ∷ ds) = omega (arith, length-append (to_be_bytes w32 d) (flat_map (to_be_bytes w32) ds), week_long ds)

updates_long : (updates : Option ℕ) → sizes (updates_fields updates) ≤ 5
updates_long None = omega arith
updates_long (Some n) = omega arith

header_long : (h : HeaderFields) → AllowedHeader h → length (flat_map spelled (header_fields h)) ≤ 3000
header_long h allowed =
    omega (
      arith,
      spelled_long (header_fields h),
      updates_long h.updates,
      week_long h.week,
      allowed.days,
      allowed.name.short,
      allowed.limits.offline.short,
      allowed.limits.message.short,
      length-append h.name (0 ∷ []),
      length-append h.offline (0 ∷ []),
      length-append h.message (0 ∷ []),
    )

dump_long : (i : Increment) → Allowed i → length (flat_map spelled (dump_fields i)) ≤ 100
dump_long i allowed = omega (arith, spelled_long (dump_fields i), allowed.dump_name.short, length-append i.dump_name (0 ∷ []))

joined_long : (a b c d e : List ℕ) → length (a ++ b ++ c ++ d ++ e) ≡ length a + length b + length c + length d + length e
joined_long a b c d e = omega (arith, length-append (a ++ b ++ c ++ d) e, length-append (a ++ b ++ c) d, length-append (a ++ b) c, length-append a b)

few_long : (first second third : List ℕ) (few most : ℕ) → length first ≤ 100 → length second ≤ 3000 → length third ≤ 400 * few + most → few ≤ 65536 → most ≤ 268435456
    → length (1 ∷ opening) + length first + length (2 ∷ second) + length third + length (4 ∷ closing) < 2 ^ 30
few_long first second third few most f s t n d = omega (arith, f, s, t, n, d)

-- A stream has fewer than 2^30 bytes.
pub written_long : (i : Increment) → Allowed i → length (written i) < 2 ^ 30
unfolding written
written_long i allowed =
    let first = flat_map spelled (dump_fields i) in
    let second = flat_map spelled (header_fields i.header) in
    let third = flat_map section (map section_of i.entries) in
    subst (λ (n : ℕ). n < 2 ^ 30) (sym (joined_long (1 ∷ opening) first (2 ∷ second) third (4 ∷ closing)))
    (few_long first second third (length i.entries) (sum_by data_len i.entries) (dump_long i allowed) (header_long i.header allowed.header)
    (entries_long i.entries allowed.entries) allowed.fit.few allowed.fit.small)
