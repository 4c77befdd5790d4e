-- What is written of an increment that its type allows is a spelling of it.
use Rattle.std.proofs.Common.{◌≡◌, ◌⊎◌, ℕ, zero, suc, ◌+◌, ◌-◌, ◌*◌, ◌%◌, ◌<◌, ◌≤◌, ◌^◌, min, Bool, true, false, not, eqb, List, [], ◌∷◌, ◌++◌, length, map, take, drop, replicate, get_or, Option, Some, None, Ok, refl, sym, ap, subst, ◌∙◌, append_assoc, inl, inr, arith, length-append, lit<}
use Rattle.std.specs.Prelude.{All, AllPairs, IfSome, sum_by, ◌&&◌}
use Rattle.std.specs.List.{flat_map}
use Rattle.std.specs.Int.{w16, w32, to_be_bytes, from_be_bytes}
use Rattle.std.proofs.lemmas.List.{append-nil, take-append-le, take_all, take_at, length-replicate}
use Rattle.std.proofs.lemmas.List.Elements.{All-nil, All-cons, All-head, All-tail, All-append, All-weaker, All-from_recursion}
use Rattle.std.proofs.lemmas.List.Sums.{sum_by-cons}
use Rattle.std.proofs.lemmas.Bool.{cases_eq, cases_Bool, ne_eqb, eqb-true, and_parts, eq-eqb}
use Rattle.std.proofs.lemmas.Nat.{from_be_bytes-to_be_bytes_2, from_be_bytes-to_be_bytes_4}
use Rattle.bk_text.specs.Alphabets.{IsName, IsNameByte}
use Rattle.vnode_model.specs.declared.headers.HeaderFields.{HeaderFields}
use Rattle.vnode_model.specs.declared.vnodes.Vnode.{Vnode}
use Rattle.vnode_model.specs.declared.vnodes.VnodeKind.{VnodeKind}
use Rattle.vnode_model.specs.declared.vnodes.VnodeKind.TheVariants.{File, Directory, Symlink}
use Rattle.vnode_model.specs.declared.increments.Entry.{Entry}
use Rattle.vnode_model.specs.declared.increments.Entry.TheVariants.{Whole, Kept}
use Rattle.vnode_model.specs.declared.increments.IncrementFields.{IncrementFields}
use Rattle.vnode_model.specs.Headers.{IsMessage, IsVolHeader}
use Rattle.vnode_model.specs.Limits.{IsOdd, IsEven, KindFits, AccessFits, IsFit, IsFitVnode, StandsBefore, AreFit, number_of, data_len, most_vnodes, most_data, all_data, ComesAfter}
use Rattle.dump_stream.specs.declared.form.Form.{Form}
use Rattle.dump_stream.specs.declared.form.Form.TheVariants as forms
use Rattle.dump_stream.specs.declared.sofar.Field.{Field}
use Rattle.dump_stream.specs.Forms.{IsBytes, IsKind, IsWhole, number_from, opening, closing}
use Rattle.dump_stream.specs.Fields.{Table, IsField, AreFields, used, spelled, payload_of, number, short, bytes_or, if_there, body_of}
use Rattle.dump_stream.specs.Stream.{dump_table, header_table, vnode_table, dump_of, week_of, header_of, kind_of, entry_of, entry, is_typed, Section, section, IsSection, AreSections, Spells}
use Rattle.dump_stream.specs.Reads.{Answers}
use Rattle.dump_stream.specs.Written.{field, byte_field, short_field, number_field, text_field, times_field, week_field, data_field, dump_fields, updates_fields, header_fields, kind_byte, group_fields, access_fields, vnode_fields, section_of, written}
use Rattle.dump_stream.specs.Allowed.{IsNumber, IsShort, AllowedHeader, AllowedVnode, AllowedEntry, Allowed}
use Rattle.dump_stream.proofs.FormLaws.{literal}

-- ---- fields listed by their forms and by their tags

abbrev Each : Table → List Field → Type 0
Each table [] = Unit {0}
Each table (f ∷ fs) = IsField table f × Each table fs

abbrev fresh : List Field → List Field → Bool
fresh before [] = true
fresh before (f ∷ fs) = not (used f.tag before) && fresh (before ++ f ∷ []) fs

each_append : (table : Table) (a b : List Field) → Each table a → Each table b → Each table (a ++ b)
each_append table [] b h k = k
each_append table (f ∷ a) b h k = (h.0, each_append table a b h.1 k)

not_true : (b : Bool) → not b ≡ true → b ≡ false
not_true true e = sym e
not_true false e = refl

listed : (table : Table) (before fs : List Field) → Each table fs → fresh before fs ≡ true → AreFields table before fs
listed table before [] h new = tt
listed table before (f ∷ fs) h new =
    let both = and_parts (not (used f.tag before)) (fresh (before ++ f ∷ []) fs) new in
    (h.0, not_true (used f.tag before) both.0, listed table (before ++ f ∷ []) fs h.1 both.1)

-- ---- bytes of each kind of field

two_bytes : (n : ℕ) → IsShort n → IsBytes (to_be_bytes w16 n)
two_bytes n lt = All-from_recursion (λ (x : ℕ). x < 256) (to_be_bytes w16 n) (omega arith, (omega arith, tt))

four_bytes : (n : ℕ) → IsNumber n → IsBytes (to_be_bytes w32 n)
four_bytes n lt = All-from_recursion (λ (x : ℕ). x < 256) (to_be_bytes w32 n) (omega arith, (omega arith, (omega arith, (omega arith, tt))))

one_byte : (b : ℕ) → b < 256 → IsBytes (b ∷ [])
one_byte b lt = All-from_recursion (λ (x : ℕ). x < 256) (b ∷ []) (lt, tt)

joined_bytes : (a b : List ℕ) → IsBytes a → IsBytes b → IsBytes (a ++ b)
joined_bytes a b h k = All-append (λ (x : ℕ). x < 256) a b h k

-- the number that was written, whatever follows it
four_back : (n : ℕ) (rest : List ℕ) → IsNumber n → from_be_bytes w32 (to_be_bytes w32 n ++ rest) ≡ n
four_back n rest lt = from_be_bytes-to_be_bytes_4 n lt

two_back : (n : ℕ) → IsShort n → from_be_bytes w16 (to_be_bytes w16 n) ≡ n
two_back n lt = from_be_bytes-to_be_bytes_2 n lt

byte_whole : (b : ℕ) → b < 256 → IsWhole (forms.Exact 1) (b ∷ [])
byte_whole b lt = (one_byte b lt, (b ∷ [], refl, refl))

short_whole : (n : ℕ) → IsShort n → IsWhole (forms.Exact 2) (to_be_bytes w16 n)
short_whole n lt = (two_bytes n lt, (to_be_bytes w16 n, refl, refl))

number_whole : (n : ℕ) → IsNumber n → IsWhole (forms.Exact 4) (to_be_bytes w32 n)
number_whole n lt = (four_bytes n lt, (to_be_bytes w32 n, refl, refl))

name_whole : (name : List ℕ) → IsName name → IsWhole forms.Name (name ++ 0 ∷ [])
name_whole name h =
    (joined_bytes name (0 ∷ []) (All-weaker IsNameByte (λ (x : ℕ). x < 256) (λ x b. omega (arith, b.1)) name h.each) (literal (0 ∷ []) refl), (name, refl, h))

text_whole : (text : List ℕ) → IsBytes text → IsMessage text → IsWhole forms.Text (text ++ 0 ∷ [])
text_whole text fits h = (joined_bytes text (0 ∷ []) fits (literal (0 ∷ []) refl), (text, refl, h))

text_back : (text : List ℕ) → take (length (text ++ 0 ∷ []) - 1) (text ++ 0 ∷ []) ≡ text
text_back text = take_at text (0 ∷ []) (length (text ++ 0 ∷ []) - 1) (omega (arith, length-append text (0 ∷ [])))

times_whole : (a b : ℕ) → IsNumber a → IsNumber b → IsWhole forms.Times (times_field 116 a b).payload
times_whole a b lt lt2 = (
  joined_bytes (0 ∷ 2 ∷ []) (to_be_bytes w32 a ++ to_be_bytes w32 b) (literal (0 ∷ 2 ∷ []) refl) (joined_bytes (to_be_bytes w32 a) (to_be_bytes w32 b) (four_bytes a lt) (four_bytes b lt2)),
  (to_be_bytes w32 a ++ to_be_bytes w32 b, refl, refl),
)

week_bytes : (week : List ℕ) → All IsNumber week → IsBytes (flat_map (to_be_bytes w32) week)
week_bytes [] h = All-nil (λ (x : ℕ). x < 256)
week_bytes (n ∷ week) h = joined_bytes (to_be_bytes w32 n) (flat_map (to_be_bytes w32) week) (four_bytes n (All-head IsNumber n week h)) (week_bytes week (All-tail IsNumber n week h))

week_len : (week : List ℕ) → length (flat_map (to_be_bytes w32) week) ≡ 4 * length week
week_len [] = refl
week_len (n ∷ week) = omega (arith, week_len week)

week_whole : (week : List ℕ) → All IsNumber week → length week ≡ 7 → IsWhole forms.Week (week_field 87 week).payload
week_whole week h len = (
  joined_bytes (0 ∷ 7 ∷ []) (flat_map (to_be_bytes w32) week) (literal (0 ∷ 7 ∷ []) refl) (week_bytes week h),
  (flat_map (to_be_bytes w32) week, refl, omega (arith, week_len week)),
)

week_back : (week : List ℕ) → All IsNumber week → length week ≡ 7 → week_of (Some (week_field 87 week).payload) ≡ week
week_back [] h len = absurd (omega arith)
week_back (a ∷ []) h len = absurd (omega arith)
week_back (a ∷ b ∷ []) h len = absurd (omega arith)
week_back (a ∷ b ∷ c ∷ []) h len = absurd (omega arith)
week_back (a ∷ b ∷ c ∷ d ∷ []) h len = absurd (omega arith)
week_back (a ∷ b ∷ c ∷ d ∷ e ∷ []) h len = absurd (omega arith)
week_back (a ∷ b ∷ c ∷ d ∷ e ∷ f ∷ []) h len = absurd (omega arith)
week_back (a ∷ b ∷ c ∷ d ∷ e ∷ f ∷ g ∷ []) h len =
    let ea = four_back a [] (h 0 0 (omega arith)) in
    let eb = four_back b [] (h 1 0 (omega arith)) in
    let ec = four_back c [] (h 2 0 (omega arith)) in
    let ed = four_back d [] (h 3 0 (omega arith)) in
    let ee = four_back e [] (h 4 0 (omega arith)) in
    let ef = four_back f [] (h 5 0 (omega arith)) in
    let eg = four_back g [] (h 6 0 (omega arith)) in
    rw (ea, eb, ec, ed, ee, ef, eg) refl
week_back (a ∷ b ∷ c ∷ d ∷ e ∷ f ∷ g ∷ x ∷ week) h len = absurd (omega arith)

data_whole : (body : List ℕ) (limit : ℕ) → IsBytes body → length body ≤ limit → length body ≤ most_data → IsWhole (forms.Data false limit) (to_be_bytes w32 (length body) ++ body)
data_whole body limit fits small most =
    let lt : length body < 2 ^ 32 = omega arith in
    let back : from_be_bytes w32 (to_be_bytes w32 (length body) ++ body) ≡ length body = four_back (length body) body lt in
    (joined_bytes (to_be_bytes w32 (length body)) body (four_bytes (length body) lt) fits, (omega (arith, back), omega (arith, back)))

access_whole : (access : List ℕ) → IsBytes access → length access ≡ 192 → IsWhole (forms.Exact 192) access
access_whole access fits len = (fits, (access, refl, len))

-- ---- the dump header

dump_listed : (i : IncrementFields) → Allowed i → AreFields dump_table [] (dump_fields i)
dump_listed i h = listed dump_table [] (dump_fields i)
    ((forms.Exact 4, refl, number_whole i.dump_id h.dump_id), ((forms.Name, refl, name_whole i.dump_name h.dump_name), ((forms.Times, refl, times_whole i.from i.to h.from h.to), tt)))
    refl

-- ---- the volume header

updates_each : (u : Option ℕ) → IfSome u IsNumber → Each header_table (updates_fields u)
updates_each None h = tt
updates_each (Some n) h = ((forms.Exact 4, refl, number_whole n h), tt)

updates_back : (u : Option ℕ) → IfSome u IsNumber → if_there (payload_of 86 (updates_fields u)) ≡ u
updates_back None h = refl
updates_back (Some n) h = ap Some (four_back n [] h)

number_is : (tag n : ℕ) → header_table tag ≡ Some (forms.Exact 4) → IsNumber n → IsField header_table (number_field tag n)
number_is tag n at lt = (forms.Exact 4, at, number_whole n lt)

byte_is : (tag b : ℕ) → header_table tag ≡ Some (forms.Exact 1) → b < 256 → IsField header_table (byte_field tag b)
byte_is tag b at lt = (forms.Exact 1, at, byte_whole b lt)

message_is : (tag : ℕ) (text : List ℕ) → header_table tag ≡ Some forms.Text → IsBytes text → IsMessage text → IsField header_table (text_field tag text)
message_is tag text at fits h = (forms.Text, at, text_whole text fits h)

header_each : (h : HeaderFields) → AllowedHeader h → Each header_table (header_fields h)
header_each h k = (
  number_is 105 h.id refl k.id,
  (
    number_is 118 h.stamp refl k.stamp,
    (
      (forms.Name, refl, name_whole h.name k.name),
      (
        byte_is 115 h.in_service refl k.in_service,
        (
          byte_is 98 h.blessed refl k.blessed,
          (
            number_is 117 h.uniq refl k.uniq,
            (
              (forms.VolumeKind, refl, (one_byte h.kind (omega (arith, k.limits.kind)), (h.kind, refl, k.limits.kind))),
              (
                number_is 112 h.parent refl k.parent,
                (
                  number_is 99 h.clone_id refl k.clone_id,
                  (
                    number_is 113 h.max_quota refl k.max_quota,
                    (
                      number_is 109 h.min_quota refl k.min_quota,
                      (
                        number_is 100 h.disk_used refl k.disk_used,
                        (
                          number_is 102 h.file_count refl k.file_count,
                          (
                            number_is 97 h.account refl k.account,
                            (
                              number_is 111 h.owner refl k.owner,
                              (
                                number_is 67 h.created refl k.created,
                                (
                                  number_is 65 h.accessed refl k.accessed,
                                  (
                                    number_is 85 h.updated refl k.updated,
                                    (
                                      number_is 69 h.expires refl k.expires,
                                      (
                                        number_is 66 h.backed_up refl k.backed_up,
                                        (
                                          message_is 79 h.offline refl k.offline k.limits.offline,
                                          (
                                            message_is 77 h.message refl k.message k.limits.message,
                                            (
                                              (forms.Week, refl, week_whole h.week k.week k.days),
                                              (
                                                number_is 68 h.day_date refl k.day_date,
                                                (
                                                  number_is 90 h.day_use refl k.day_use,
                                                  updates_each h.updates k.updates,
                                                ),
                                              ),
                                            ),
                                          ),
                                        ),
                                      ),
                                    ),
                                  ),
                                ),
                              ),
                            ),
                          ),
                        ),
                      ),
                    ),
                  ),
                ),
              ),
            ),
          ),
        ),
      ),
    ),
  ),
)

header_fresh : (h : HeaderFields) (u : Option ℕ) → h.updates ≡ u → fresh [] (header_fields h) ≡ true
header_fresh h None e = rw e refl
header_fresh h (Some n) e = rw e refl

header_listed : (h : HeaderFields) → AllowedHeader h → AreFields header_table [] (header_fields h)
header_listed h k = listed header_table [] (header_fields h) (header_each h k) (header_fresh h h.updates refl)

same_header : {id id2 : ℕ} {stamp stamp2 : ℕ} {name name2 : List ℕ} {in_service : ℕ} {blessed : ℕ} {uniq uniq2 : ℕ} {kind : ℕ} {parent parent2 : ℕ} {clone_id clone_id2 : ℕ} {max_quota max_quota2 : ℕ} {min_quota min_quota2 : ℕ} {disk_used disk_used2 : ℕ} {file_count file_count2 : ℕ} {account account2 : ℕ} {owner owner2 : ℕ} {created created2 : ℕ} {accessed accessed2 : ℕ} {updated updated2 : ℕ} {expires expires2 : ℕ} {backed_up backed_up2 : ℕ} {offline offline2 : List ℕ} {message message2 : List ℕ} {week week2 : List ℕ} {day_date day_date2 : ℕ} {day_use day_use2 : ℕ} {updates updates2 : Option ℕ}
    → id ≡ id2 → stamp ≡ stamp2 → name ≡ name2 → uniq ≡ uniq2 → parent ≡ parent2 → clone_id ≡ clone_id2 → max_quota ≡ max_quota2 → min_quota ≡ min_quota2 → disk_used ≡ disk_used2 → file_count ≡ file_count2 → account ≡ account2 → owner ≡ owner2 → created ≡ created2 → accessed ≡ accessed2 → updated ≡ updated2 → expires ≡ expires2 → backed_up ≡ backed_up2 → offline ≡ offline2 → message ≡ message2 → week ≡ week2 → day_date ≡ day_date2 → day_use ≡ day_use2 → updates ≡ updates2
    → (let a : HeaderFields = record { id = id; stamp = stamp; name = name; in_service = in_service; blessed = blessed; uniq = uniq; kind = kind; parent = parent; clone_id = clone_id; max_quota = max_quota; min_quota = min_quota; disk_used = disk_used; file_count = file_count; account = account; owner = owner; created = created; accessed = accessed; updated = updated; expires = expires; backed_up = backed_up; offline = offline; message = message; week = week; day_date = day_date; day_use = day_use; updates = updates } in let b : HeaderFields = record { id = id2; stamp = stamp2; name = name2; in_service = in_service; blessed = blessed; uniq = uniq2; kind = kind; parent = parent2; clone_id = clone_id2; max_quota = max_quota2; min_quota = min_quota2; disk_used = disk_used2; file_count = file_count2; account = account2; owner = owner2; created = created2; accessed = accessed2; updated = updated2; expires = expires2; backed_up = backed_up2; offline = offline2; message = message2; week = week2; day_date = day_date2; day_use = day_use2; updates = updates2 } in a ≡ b)
same_header e0 e1 e2 e3 e4 e5 e6 e7 e8 e9 e10 e11 e12 e13 e14 e15 e16 e17 e18 e19 e20 e21 e22 = cc

header_back : (h : HeaderFields) → AllowedHeader h → header_of (header_fields h) ≡ h
header_back h k = same_header
    (four_back h.id [] k.id)
    (four_back h.stamp [] k.stamp)
    (text_back h.name)
    (four_back h.uniq [] k.uniq)
    (four_back h.parent [] k.parent)
    (four_back h.clone_id [] k.clone_id)
    (four_back h.max_quota [] k.max_quota)
    (four_back h.min_quota [] k.min_quota)
    (four_back h.disk_used [] k.disk_used)
    (four_back h.file_count [] k.file_count)
    (four_back h.account [] k.account)
    (four_back h.owner [] k.owner)
    (four_back h.created [] k.created)
    (four_back h.accessed [] k.accessed)
    (four_back h.updated [] k.updated)
    (four_back h.expires [] k.expires)
    (four_back h.backed_up [] k.backed_up)
    (text_back h.offline)
    (text_back h.message)
    (week_back h.week k.week k.days)
    (four_back h.day_date [] k.day_date)
    (four_back h.day_use [] k.day_use)
    (updates_back h.updates k.updates)

-- ---- a vnode's section

group_each : (n room group : ℕ) → IsNumber group → Each (vnode_table n room) (group_fields group)
group_each n room group lt = elim (cases_Bool (eqb group 0)) [
  | inl e ↦ rw e tt
  | inr e ↦ rw e ((forms.Exact 4, refl, number_whole group lt), tt)
]

access_each : (n room : ℕ) (kind : VnodeKind) (access : List ℕ) → KindFits kind n → IsBytes access → length access ≡ 192 → Each (vnode_table n room) (access_fields kind access)
access_each n room File access h fits len = tt
access_each n room Directory access h fits len =
    let odd : eqb (n % 2) 1 ≡ true = eq-eqb (n % 2) 1 h in
    let at : vnode_table n room 65 ≡ Some (forms.Exact 192) = rw odd refl in
    ((forms.Exact 192, at, access_whole access fits len), tt)
access_each n room Symlink access h fits len = tt

even_apart : (n : ℕ) → n % 2 ≡ 0 → eqb (n % 2) 1 ≡ false
even_apart n h = rw h refl

kind_whole : (n : ℕ) (kind : VnodeKind) → KindFits kind n → IsWhole (forms.Kind (eqb (n % 2) 1)) (kind_byte kind ∷ [])
kind_whole n File h = rw (even_apart n h) (one_byte 1 (lit< tt), (1, refl, inl refl))
kind_whole n Directory h = let odd : eqb (n % 2) 1 ≡ true = eq-eqb (n % 2) 1 h in rw odd (one_byte 2 (lit< tt), (2, refl, refl))
kind_whole n Symlink h = rw (even_apart n h) (one_byte 3 (lit< tt), (3, refl, inr refl))

vnode_number : (n room tag value : ℕ) → vnode_table n room tag ≡ Some (forms.Exact 4) → IsNumber value → IsField (vnode_table n room) (number_field tag value)
vnode_number n room tag value at lt = (forms.Exact 4, at, number_whole value lt)

vnode_short : (n room tag value : ℕ) → vnode_table n room tag ≡ Some (forms.Exact 2) → IsShort value → IsField (vnode_table n room) (short_field tag value)
vnode_short n room tag value at lt = (forms.Exact 2, at, short_whole value lt)

vnode_each : (room : ℕ) (v : Vnode) → AllowedVnode v → IsFitVnode v → length v.body ≤ room → Each (vnode_table v.number room) (vnode_fields v)
vnode_each room v h fit small =
    let n = v.number in
    let table = vnode_table n room in
    let last : Each table (data_field 102 v.body ∷ []) =
    ((forms.Data false (min most_data room), refl, data_whole v.body (min most_data room) h.body (omega (arith, fit.body)) fit.body), tt) in
    let behind : Each table (access_fields v.kind v.access ++ data_field 102 v.body ∷ []) =
    each_append table (access_fields v.kind v.access) (data_field 102 v.body ∷ []) (access_each n room v.kind v.access fit.kind h.access h.access_len) last in
    let second : Each table (short_field 98 v.mode ∷ number_field 112 v.parent ∷ number_field 115 v.server_modified ∷ (access_fields v.kind v.access ++ data_field 102 v.body ∷ [])) =
    (vnode_short n room 98 v.mode refl h.mode, (vnode_number n room 112 v.parent refl h.parent, (vnode_number n room 115 v.server_modified refl h.server_modified, behind))) in
    let third = each_append table (group_fields v.group) (short_field 98 v.mode ∷ number_field 112 v.parent ∷ number_field 115 v.server_modified ∷ (access_fields v.kind v.access ++ data_field 102 v.body ∷ []))
    (group_each n room v.group h.group) second in (
      (forms.Kind (eqb (n % 2) 1), refl, kind_whole n v.kind fit.kind),
      (
        vnode_short n room 108 v.links refl h.links,
        (
          vnode_number n room 118 v.data_version refl h.data_version,
          (
            vnode_number n room 109 v.modified refl h.modified,
            (
              vnode_number n room 97 v.author refl h.author,
              (vnode_number n room 111 v.owner refl h.owner, third),
            ),
          ),
        ),
      ),
    )

vnode_fresh : (v : Vnode) (kind : VnodeKind) (none : Bool) → v.kind ≡ kind → eqb v.group 0 ≡ none → fresh [] (vnode_fields v) ≡ true
vnode_fresh v File true e d = rw (e, d) refl
vnode_fresh v File false e d = rw (e, d) refl
vnode_fresh v Directory true e d = rw (e, d) refl
vnode_fresh v Directory false e d = rw (e, d) refl
vnode_fresh v Symlink true e d = rw (e, d) refl
vnode_fresh v Symlink false e d = rw (e, d) refl

vnode_listed : (room : ℕ) (v : Vnode) → AllowedVnode v → IsFitVnode v → length v.body ≤ room → AreFields (vnode_table v.number room) [] (vnode_fields v)
vnode_listed room v h fit small = listed (vnode_table v.number room) [] (vnode_fields v) (vnode_each room v h fit small) (vnode_fresh v v.kind (eqb v.group 0) refl refl)

-- a field behind the group, and one behind the access list
past_group : (group tag : ℕ) (tail : List Field) → eqb 103 tag ≡ false → payload_of tag (group_fields group ++ tail) ≡ payload_of tag tail
past_group group tag tail apart = elim (cases_Bool (eqb group 0)) [
  | inl e ↦ rw e refl
  | inr e ↦ rw (e, apart) refl
]

past_access : (kind : VnodeKind) (access : List ℕ) (tag : ℕ) (tail : List Field) → eqb 65 tag ≡ false → payload_of tag (access_fields kind access ++ tail) ≡ payload_of tag tail
past_access File access tag tail apart = refl
past_access Directory access tag tail apart = rw apart refl
past_access Symlink access tag tail apart = refl

group_back : (group : ℕ) (tail : List Field) → IsNumber group → payload_of 103 tail ≡ None → number (payload_of 103 (group_fields group ++ tail)) 0 ≡ group
group_back group tail lt none = elim (cases_Bool (eqb group 0)) [
  | inl e ↦ let zero_is : group ≡ 0 = eqb-true group 0 e in rw (e, none) (sym zero_is)
  | inr e ↦ rw e (four_back group [] lt)
]

access_back : (kind : VnodeKind) (access : List ℕ) (tail : List Field) → AccessFits kind access → payload_of 65 tail ≡ None → bytes_or (payload_of 65 (access_fields kind access ++ tail)) (replicate 192 0) ≡ access
access_back File access tail h none = rw none (sym h)
access_back Directory access tail h none = refl
access_back Symlink access tail h none = rw none (sym h)

kind_back : (kind : VnodeKind) → kind_of (kind_byte kind) ≡ kind
kind_back File = refl
kind_back Directory = refl
kind_back Symlink = refl

same_vnode : {number number2 : ℕ} {uniq uniq2 : ℕ} {kind kind2 : VnodeKind} {links links2 : ℕ} {data_version data_version2 : ℕ} {modified modified2 : ℕ} {author author2 : ℕ} {owner owner2 : ℕ} {group group2 : ℕ} {mode mode2 : ℕ} {parent parent2 : ℕ} {server_modified server_modified2 : ℕ} {access access2 : List ℕ} {body body2 : List ℕ}
    → number ≡ number2 → uniq ≡ uniq2 → kind ≡ kind2 → links ≡ links2 → data_version ≡ data_version2 → modified ≡ modified2 → author ≡ author2 → owner ≡ owner2 → group ≡ group2 → mode ≡ mode2 → parent ≡ parent2 → server_modified ≡ server_modified2 → access ≡ access2 → body ≡ body2
    → (let a : Vnode = record { number = number; uniq = uniq; kind = kind; links = links; data_version = data_version; modified = modified; author = author; owner = owner; group = group; mode = mode; parent = parent; server_modified = server_modified; access = access; body = body } in let b : Vnode = record { number = number2; uniq = uniq2; kind = kind2; links = links2; data_version = data_version2; modified = modified2; author = author2; owner = owner2; group = group2; mode = mode2; parent = parent2; server_modified = server_modified2; access = access2; body = body2 } in a ≡ b)
same_vnode e0 e1 e2 e3 e4 e5 e6 e7 e8 e9 e10 e11 e12 e13 = cc

abbrev behind_mode : Vnode → List Field
behind_mode v = number_field 112 v.parent ∷ number_field 115 v.server_modified ∷ (access_fields v.kind v.access ++ data_field 102 v.body ∷ [])

body_back : (v : Vnode) → body_of (vnode_fields v) ≡ v.body
body_back v =
    let at : payload_of 102 (vnode_fields v) ≡ Some (data_field 102 v.body).payload =
    past_group v.group 102 (short_field 98 v.mode ∷ behind_mode v) refl ∙ past_access v.kind v.access 102 (data_field 102 v.body ∷ []) refl in
    rw at refl

vnode_back : (v : Vnode) → AllowedVnode v → IsFitVnode v → entry (section_of (Whole v)) ≡ Whole v
vnode_back v h fit =
    let tail = short_field 98 v.mode ∷ behind_mode v in
    let last = data_field 102 v.body ∷ [] in
    let mode_at : payload_of 98 (vnode_fields v) ≡ Some (to_be_bytes w16 v.mode) = past_group v.group 98 tail refl in
    let parent_at : payload_of 112 (vnode_fields v) ≡ Some (to_be_bytes w32 v.parent) = past_group v.group 112 tail refl in
    let server_at : payload_of 115 (vnode_fields v) ≡ Some (to_be_bytes w32 v.server_modified) = past_group v.group 115 tail refl in
    let no_group : payload_of 103 tail ≡ None = past_access v.kind v.access 103 last refl in
    let access_at : payload_of 65 (vnode_fields v) ≡ payload_of 65 (access_fields v.kind v.access ++ last) = past_group v.group 65 tail refl in
    ap Whole (same_vnode
    (four_back v.number (to_be_bytes w32 v.uniq) h.number)
    (four_back v.uniq [] h.uniq)
    (kind_back v.kind)
    (two_back v.links h.links)
    (four_back v.data_version [] h.data_version)
    (four_back v.modified [] h.modified)
    (four_back v.author [] h.author)
    (four_back v.owner [] h.owner)
    (group_back v.group tail h.group no_group)
    (ap short mode_at ∙ two_back v.mode h.mode)
    (ap (λ (o : Option (List ℕ)). number o 0) parent_at ∙ four_back v.parent [] h.parent)
    (ap (λ (o : Option (List ℕ)). number o 0) server_at ∙ four_back v.server_modified [] h.server_modified)
    (ap (λ (o : Option (List ℕ)). bytes_or o (replicate 192 0)) access_at ∙ access_back v.kind v.access last fit.access refl)
    (body_back v))

entry_back : (e : Entry) → AllowedEntry e → IsFit e → entry (section_of e) ≡ e
entry_back (Whole v) h fit = vnode_back v h fit
entry_back (Kept n uniq) h fit = rw (four_back n (to_be_bytes w32 uniq) h.0, four_back uniq [] h.1) refl

entries_back : (es : List Entry) → All AllowedEntry es → All IsFit es → map entry (map section_of es) ≡ es
entries_back [] h fit = refl
entries_back (e ∷ es) h fit =
    ap (λ (x : Entry). x ∷ map entry (map section_of es)) (entry_back e (All-head AllowedEntry e es h) (All-head IsFit e es fit))
    ∙ ap (λ (x : List Entry). e ∷ x) (entries_back es (All-tail AllowedEntry e es h) (All-tail IsFit e es fit))

-- ---- sections in their order

head_number : (e : Entry) → AllowedEntry e → number_from 0 (section_of e).head ≡ number_of e
head_number (Whole v) h = four_back v.number (to_be_bytes w32 v.uniq) h.number
head_number (Kept n uniq) h = four_back n (to_be_bytes w32 uniq) h.0

section_data : (e : Entry) → length (body_of (section_of e).fields) ≡ data_len e
section_data (Whole v) = ap length (body_back v)
section_data (Kept n uniq) = refl

eight_whole : (last n uniq : ℕ) → IsNumber n → IsNumber uniq → ComesAfter last n → IsWhole (forms.Vnode last) (to_be_bytes w32 n ++ to_be_bytes w32 uniq)
eight_whole last n uniq lt lt2 after =
    (joined_bytes (to_be_bytes w32 n) (to_be_bytes w32 uniq) (four_bytes n lt) (four_bytes uniq lt2), (refl, rw (four_back n (to_be_bytes w32 uniq) lt) after))

section_is : (last room : ℕ) (e : Entry) → ComesAfter last (number_of e) → AllowedEntry e → IsFit e → data_len e ≤ room → IsSection room last (section_of e)
section_is last room (Whole v) after h fit small = record {
  numbered = eight_whole last v.number v.uniq h.number h.uniq after;
  listed = subst (λ (n : ℕ). AreFields (vnode_table n room) [] (vnode_fields v)) (sym (four_back v.number (to_be_bytes w32 v.uniq) h.number)) (vnode_listed room v h fit small);
  typed = refl;
}
section_is last room (Kept n uniq) after h fit small = record {
  numbered = eight_whole last n uniq h.0 h.1 after;
  listed = tt;
  typed = refl;
}

-- the last number is 0 for none, or stands before all that follow
abbrev Leads : ℕ → List Entry → Type 0
Leads last es = (last ≡ 0) ⊎ All (λ n. StandsBefore last n) (map number_of es)

pairs_head : (R : ℕ → ℕ → Type 0) (x : ℕ) (xs : List ℕ) → AllPairs R (x ∷ xs) → All (λ y. R x y) xs
pairs_head R x xs h = λ k d lt. h zero (suc k) d (omega arith) (omega arith)

pairs_tail : (R : ℕ → ℕ → Type 0) (x : ℕ) (xs : List ℕ) → AllPairs R (x ∷ xs) → AllPairs R xs
pairs_tail R x xs h = λ i j d lt within. h (suc i) (suc j) d (omega arith) (omega arith)

comes_after : (last : ℕ) (e : Entry) (es : List Entry) → Leads last (e ∷ es) → 1 ≤ number_of e → ComesAfter last (number_of e)
comes_after last e es (inl none) some = (some, inl none)
comes_after last e es (inr before) some = (some, inr (All-head (λ n. StandsBefore last n) (number_of e) (map number_of es) before))

sections_are : (count room last : ℕ) (es : List Entry) → count + length es ≤ most_vnodes → All (λ n. 1 ≤ n) (map number_of es) → AllPairs StandsBefore (map number_of es) → Leads last es
    → All IsFit es → All AllowedEntry es → sum_by data_len es ≤ room → AreSections count room last (map section_of es)
sections_are count room last [] few some ordered leads fit h small = tt
sections_are count room last (e ∷ es) few some ordered leads fit h small =
    let n = number_of e in
    let ns = map number_of es in
    let here = All-head AllowedEntry e es h in
    let fits = All-head IsFit e es fit in
    let sum : sum_by data_len (e ∷ es) ≡ data_len e + sum_by data_len es = sum_by-cons data_len e es in
    let behind = sections_are (count + 1) (room - data_len e) n es (omega arith) (All-tail (λ m. 1 ≤ m) n ns some) (pairs_tail StandsBefore n ns ordered) (inr (pairs_head StandsBefore n ns ordered))
    (All-tail IsFit e es fit) (All-tail AllowedEntry e es h) (omega (arith, sum)) in (
      omega arith,
      section_is last room e (comes_after last e es leads (All-head (λ m. 1 ≤ m) n ns some)) here fits (omega (arith, sum)),
      subst (λ (m : ℕ). AreSections (count + 1) (room - length (body_of (section_of e).fields)) m (map section_of es)) (sym (head_number e here))
          (subst (λ (k : ℕ). AreSections (count + 1) (room - k) n (map section_of es)) (sym (section_data e)) behind),
    )

-- ---- the stream

same_increment : {dump_id dump_id2 : ℕ} {dump_name dump_name2 : List ℕ} {from from2 : ℕ} {to to2 : ℕ} {header header2 : HeaderFields} {entries entries2 : List Entry}
    → dump_id ≡ dump_id2 → dump_name ≡ dump_name2 → from ≡ from2 → to ≡ to2 → header ≡ header2 → entries ≡ entries2
    → (let a : IncrementFields = record { dump_id = dump_id; dump_name = dump_name; from = from; to = to; header = header; entries = entries } in let b : IncrementFields = record { dump_id = dump_id2; dump_name = dump_name2; from = from2; to = to2; header = header2; entries = entries2 } in a ≡ b)
same_increment e0 e1 e2 e3 e4 e5 = cc

pub written_spells : (i : IncrementFields) → Allowed i → Spells (written i) i
unfolding written
written_spells i h = record {
  dump = dump_fields i;
  header = header_fields i.header;
  vnodes = map section_of i.entries;
  bytes_are = refl;
  dump_listed = dump_listed i h;
  dump_named = refl;
  header_listed = header_listed i.header h.header;
  header_named = refl;
  vnodes_listed = sections_are 0 all_data 0 i.entries (omega (arith, h.fit.few)) h.fit.numbered h.fit.ordered (inl refl) h.fit.each h.entries h.fit.small;
  says = sym (same_increment (four_back i.dump_id [] h.dump_id) (text_back i.dump_name) (four_back i.from (to_be_bytes w32 i.to) h.from) (four_back i.to [] h.to) (header_back i.header h.header) (entries_back i.entries h.entries h.fit.each));
}

pub written_answers : (i : IncrementFields) (more : List ℕ) → Allowed i → Answers (written i ++ more) (Ok (i, length (written i)))
written_answers i more h =
    (omega (arith, length-append (written i) more), subst (λ (x : List ℕ). Spells x i) (sym (take_at (written i) more (length (written i)) refl)) (written_spells i h))
