-- What a stream says is an increment that its type allows.
use Rattle.std.proofs.Common.{◌≡◌, ◌⊎◌, ℕ, ◌+◌, ◌-◌, ◌*◌, ◌%◌, ◌<◌, ◌≤◌, ◌^◌, min, Bool, true, false, eqb, List, [], ◌∷◌, ◌++◌, length, map, take, drop, replicate, get_or, Option, Some, None, refl, sym, ap, subst, ◌∙◌, append_assoc, inl, inr, arith, length-append, lit<}
use Rattle.std.specs.Prelude.{All, IfSome, IsSomeAnd, sum_by, slice_index}
use Rattle.std.specs.Int.{w16, w32, from_be_bytes}
use Rattle.std.proofs.lemmas.List.{append-nil, get_or_past, length-replicate}
use Rattle.std.proofs.lemmas.List.Elements.{All-nil, All-cons, All-take, All-drop, All-get_or, All-replicate, All-from_recursion}
use Rattle.std.proofs.lemmas.Bool.{cases_lt, cases_Bool}
use Rattle.bk_text.specs.Alphabets.{IsName}
use Rattle.vnode_model.specs.declared.vnodes.Vnode.{Vnode}
use Rattle.vnode_model.specs.declared.increments.Entry.{Entry}
use Rattle.vnode_model.specs.declared.increments.Entry.TheVariants.{Whole, Kept}
use Rattle.vnode_model.specs.declared.increments.IncrementFields.{IncrementFields}
use Rattle.vnode_model.specs.Limits.{StandsBefore, IsFit, AreFit, number_of, data_len, most_vnodes, most_data, all_data, ComesAfter}
use Rattle.dump_stream.specs.declared.form.Form.{Form}
use Rattle.dump_stream.specs.declared.form.Form.TheVariants as forms
use Rattle.dump_stream.specs.declared.sofar.Field.{Field}
use Rattle.dump_stream.specs.Forms.{IsBytes, IsWhole, number_from}
use Rattle.dump_stream.specs.Fields.{Table, AreFields, has, payload_of, number, byte, string, short, bytes_or, body, body_of, if_there}
use Rattle.dump_stream.specs.Stream.{dump_table, header_table, vnode_table, dump_of, week_of, header_of, vnode_of, entry_of, entry, is_typed, Section, IsSection, AreSections, Spells}
use Rattle.dump_stream.specs.Sound.{IsNameThere, IsAccessWhole, MayFollow}
use Rattle.dump_stream.specs.Allowed.{IsNumber, IsShort, AllowedHeader, AllowedVnode, AllowedEntry, Allowed}
use Rattle.dump_stream.proofs.FormLaws.{literal}
use Rattle.dump_stream.proofs.SoundLaws.{payload_fits, there, front_is, header_fits, named_volume, access_whole, body_small, entry_fits, entry_number, entry_data, none_fit, pushed_fit, first_follows, next_follows}

-- ---- what bytes say has its width

byte_at : (p : List ℕ) (at : ℕ) → IsBytes p → get_or p at 0 < 256
byte_at p at h = elim (cases_lt at (length p)) [
  | inl lt ↦ All-get_or (λ (x : ℕ). x < 256) p at 0 lt h
  | inr ge ↦ let past : get_or p at 0 ≡ 0 = get_or_past p at 0 ge in omega (arith, past)
]

four_small : (p : List ℕ) → IsBytes p → from_be_bytes w32 p < 2 ^ 32
four_small p h = omega (arith, byte_at p 0 h, byte_at p 1 h, byte_at p 2 h, byte_at p 3 h)

two_small : (p : List ℕ) → IsBytes p → from_be_bytes w16 p < 2 ^ 16
two_small p h = omega (arith, byte_at p 0 h, byte_at p 1 h)

payload_bytes : (table : Table) (before fs : List Field) → AreFields table before fs → (tag : ℕ) → IfSome (payload_of tag fs) IsBytes
payload_bytes table before [] h tag = tt
payload_bytes table before (f ∷ fs) h tag = elim (cases_Bool (eqb f.tag tag)) [
  | inl e ↦ rw e h.0.2.0
  | inr e ↦ rw e (payload_bytes table (before ++ f ∷ []) fs h.2 tag)
]

number_small : (o : Option (List ℕ)) (at : ℕ) → IfSome o IsBytes → IsNumber (number o at)
number_small None at h = lit< tt
number_small (Some p) at h = four_small (drop at p) (All-drop (λ (x : ℕ). x < 256) at p h)

short_small : (o : Option (List ℕ)) → IfSome o IsBytes → IsShort (short o)
short_small None h = lit< tt
short_small (Some p) h = two_small p h

byte_small : (o : Option (List ℕ)) → IfSome o IsBytes → byte o < 256
byte_small None h = lit< tt
byte_small (Some p) h = byte_at p 0 h

string_bytes_of : (o : Option (List ℕ)) → IfSome o IsBytes → IsBytes (string o)
string_bytes_of None h = All-nil (λ (x : ℕ). x < 256)
string_bytes_of (Some p) h = All-take (λ (x : ℕ). x < 256) (length p - 1) p h

week_small : (o : Option (List ℕ)) → IfSome o IsBytes → All IsNumber (week_of o)
week_small o h = All-from_recursion IsNumber (week_of o)
    (number_small o 2 h, (number_small o 6 h, (number_small o 10 h, (number_small o 14 h, (number_small o 18 h, (number_small o 22 h, (number_small o 26 h, tt)))))))

updates_small : (o : Option (List ℕ)) → IfSome o IsBytes → IfSome (if_there o) IsNumber
updates_small None h = tt
updates_small (Some p) h = number_small (Some p) 0 h

access_bytes : (o : Option (List ℕ)) → IfSome o IsBytes → IsBytes (bytes_or o (replicate 192 0))
access_bytes None h = All-replicate (λ (x : ℕ). x < 256) 192 0 (lit< tt)
access_bytes (Some p) h = h

access_length : (o : Option (List ℕ)) → IfSome o (λ p. length p ≡ 192) → length (bytes_or o (replicate 192 0)) ≡ 192
access_length None h = length-replicate {A = ℕ} 192 0
access_length (Some p) h = h

body_bytes : (o w : Option (List ℕ)) → IfSome o IsBytes → IfSome w IsBytes → IsBytes (body o w)
body_bytes None None h k = All-nil (λ (x : ℕ). x < 256)
body_bytes None (Some q) h k = All-drop (λ (x : ℕ). x < 256) 8 q k
body_bytes (Some p) w h k = All-drop (λ (x : ℕ). x < 256) 4 p h

name_in : (o : Option (List ℕ)) → IsSomeAnd o (IsWhole forms.Name) → IsName (string o)
name_in None h = absurd h
name_in (Some p) h = subst IsName (sym (ap (λ (x : List ℕ). take (length x - 1) x) h.1.1 ∙ front_is h.1.0 0)) h.1.2

name_is : (fs : List Field) → IsNameThere fs → IsName (string (payload_of 110 fs))
name_is fs h = name_in (payload_of 110 fs) h

named_dump : (fs : List Field) → AreFields dump_table [] fs → has 110 fs ≡ true → IsNameThere fs
named_dump fs h e = there (payload_of 110 fs) (IsWhole forms.Name) (payload_fits dump_table [] fs 110 forms.Name h refl) e

header_allowed : (fs : List Field) → AreFields header_table [] fs → has 110 fs ≡ true → AllowedHeader (header_of fs)
header_allowed fs h named =
    let p : (tag : ℕ) → IfSome (payload_of tag fs) IsBytes = payload_bytes header_table [] fs h in record {
      id = number_small (payload_of 105 fs) 0 (p 105);
      stamp = number_small (payload_of 118 fs) 0 (p 118);
      name = name_is fs (named_volume fs h named);
      in_service = byte_small (payload_of 115 fs) (p 115);
      blessed = byte_small (payload_of 98 fs) (p 98);
      uniq = number_small (payload_of 117 fs) 0 (p 117);
      parent = number_small (payload_of 112 fs) 0 (p 112);
      clone_id = number_small (payload_of 99 fs) 0 (p 99);
      max_quota = number_small (payload_of 113 fs) 0 (p 113);
      min_quota = number_small (payload_of 109 fs) 0 (p 109);
      disk_used = number_small (payload_of 100 fs) 0 (p 100);
      file_count = number_small (payload_of 102 fs) 0 (p 102);
      account = number_small (payload_of 97 fs) 0 (p 97);
      owner = number_small (payload_of 111 fs) 0 (p 111);
      created = number_small (payload_of 67 fs) 0 (p 67);
      accessed = number_small (payload_of 65 fs) 0 (p 65);
      updated = number_small (payload_of 85 fs) 0 (p 85);
      expires = number_small (payload_of 69 fs) 0 (p 69);
      backed_up = number_small (payload_of 66 fs) 0 (p 66);
      offline = string_bytes_of (payload_of 79 fs) (p 79);
      message = string_bytes_of (payload_of 77 fs) (p 77);
      week = week_small (payload_of 87 fs) (p 87);
      days = refl;
      day_date = number_small (payload_of 68 fs) 0 (p 68);
      day_use = number_small (payload_of 90 fs) 0 (p 90);
      updates = updates_small (payload_of 86 fs) (p 86);
      limits = header_fits fs h;
    }

vnode_allowed : (n uniq room : ℕ) (fs : List Field) → AreFields (vnode_table n room) [] fs → IsNumber n → IsNumber uniq → AllowedVnode (vnode_of n uniq fs)
vnode_allowed n uniq room fs h n_small uniq_small =
    let p : (tag : ℕ) → IfSome (payload_of tag fs) IsBytes = payload_bytes (vnode_table n room) [] fs h in record {
      number = n_small;
      uniq = uniq_small;
      links = short_small (payload_of 108 fs) (p 108);
      data_version = number_small (payload_of 118 fs) 0 (p 118);
      modified = number_small (payload_of 109 fs) 0 (p 109);
      author = number_small (payload_of 97 fs) 0 (p 97);
      owner = number_small (payload_of 111 fs) 0 (p 111);
      group = number_small (payload_of 103 fs) 0 (p 103);
      parent = number_small (payload_of 112 fs) 0 (p 112);
      server_modified = number_small (payload_of 115 fs) 0 (p 115);
      mode = short_small (payload_of 98 fs) (p 98);
      access = access_bytes (payload_of 65 fs) (p 65);
      access_len = access_length (payload_of 65 fs) (access_whole n room fs h);
      body = body_bytes (payload_of 102 fs) (payload_of 104 fs) (p 102) (p 104);
    }

entry_allowed : (n uniq room : ℕ) (fs : List Field) → AreFields (vnode_table n room) [] fs → IsNumber n → IsNumber uniq → AllowedEntry (entry_of n uniq fs)
entry_allowed n uniq room [] h n_small uniq_small = (n_small, uniq_small)
entry_allowed n uniq room (f ∷ fs) h n_small uniq_small = vnode_allowed n uniq room (f ∷ fs) h n_small uniq_small

sections_allowed : (count room last : ℕ) (ss : List Section) → AreSections count room last ss → All AllowedEntry (map entry ss)
sections_allowed count room last [] h = All-nil AllowedEntry
sections_allowed count room last (s ∷ ss) h =
    let head_fits : IsBytes s.head = h.1.numbered.0 in
    let n = number_from 0 s.head in
    let n_small : IsNumber n = number_small (Some s.head) 0 head_fits in
    let uniq_small : IsNumber (number_from 4 s.head) = number_small (Some s.head) 4 head_fits in
    All-cons AllowedEntry (entry s) (map entry ss) (entry_allowed n (number_from 4 s.head) room s.fields h.1.listed n_small uniq_small)
    (sections_allowed (count + 1) (room - length (body_of s.fields)) n ss h.2)

-- ---- sections that may follow so many others say fit entries

sections_fit : (made : List Entry) (count room last : ℕ) (ss : List Section) → AreFit made → count ≡ length made → ((n : ℕ) → length made < most_vnodes → ComesAfter last n → MayFollow made room n)
    → AreSections count room last ss → AreFit (made ++ map entry ss)
sections_fit made count room last [] fit counted follows h = subst AreFit (sym (append-nil made)) fit
sections_fit made count room last (s ∷ ss) fit counted follows h =
    let n = number_from 0 s.head in
    let uniq = number_from 4 s.head in
    let e = entry s in
    let after : ComesAfter last n = h.1.numbered.1.1 in
    let may : MayFollow made room n = follows n (omega (arith, counted, h.0)) after in
    let fits : IsFit e = entry_fits n room uniq s.fields h.1.listed h.1.typed in
    let number_is : number_of e ≡ n = entry_number n uniq s.fields in
    let len : data_len e ≡ length (body_of s.fields) = entry_data n uniq s.fields in
    let small = body_small n room s.fields h.1.listed in
    let within : data_len e ≤ room = omega (arith, small, len) in
    let pushed : AreFit (made ++ e ∷ []) = pushed_fit made room n e may fits number_is within in
    let next : (m : ℕ) → length (made ++ e ∷ []) < most_vnodes → ComesAfter n m → MayFollow (made ++ e ∷ []) (room - length (body_of s.fields)) m =
    λ m few later. subst (λ (k : ℕ). MayFollow (made ++ e ∷ []) (room - k) m) len (next_follows made room n m e may fits number_is within (omega (arith, few, length-append made (e ∷ []))) later) in
    subst AreFit (append_assoc made (e ∷ []) (map entry ss))
    (sections_fit (made ++ e ∷ []) (count + 1) (room - length (body_of s.fields)) n ss pushed (omega (arith, counted, length-append made (e ∷ []))) next h.2)

said_at : (bytes : List ℕ) (i : IncrementFields) (h : Spells bytes i) → Allowed (record {
  dump_id = (dump_of h.dump).id;
  dump_name = (dump_of h.dump).name;
  from = (dump_of h.dump).from;
  to = (dump_of h.dump).to;
  header = header_of h.header;
  entries = map entry h.vnodes;
})
said_at bytes i h =
    let p : (tag : ℕ) → IfSome (payload_of tag h.dump) IsBytes = payload_bytes dump_table [] h.dump h.dump_listed in record {
      dump_id = number_small (payload_of 118 h.dump) 0 (p 118);
      dump_name = name_is h.dump (named_dump h.dump h.dump_listed h.dump_named);
      from = number_small (payload_of 116 h.dump) 2 (p 116);
      to = number_small (payload_of 116 h.dump) 6 (p 116);
      header = header_allowed h.header h.header_listed h.header_named;
      entries = sections_allowed 0 all_data 0 h.vnodes h.vnodes_listed;
      fit = sections_fit [] 0 all_data 0 h.vnodes none_fit refl (λ n few after. first_follows n after) h.vnodes_listed;
    }

pub said_allowed : (bytes : List ℕ) (i : IncrementFields) → Spells bytes i → Allowed i
said_allowed bytes i h = subst Allowed (sym h.says) (said_at bytes i h)
