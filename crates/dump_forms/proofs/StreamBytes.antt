-- What is written of an increment that its type allows is bytes.
use Rattle.std.proofs.Common.{◌≡◌, ℕ, ◌<◌, Bool, true, false, List, [], ◌∷◌, ◌++◌, length, map, Option, Some, None, refl, sym, subst, arith}
use Rattle.std.specs.Prelude.{All, if◌then◌else◌, ◌==◌}
use Rattle.std.specs.List.{flat_map}
use Rattle.std.specs.Int.{w16, w32, to_be_bytes}
use Rattle.std.proofs.lemmas.List.Elements.{All-nil, All-cons, All-head, All-tail, All-append, All-weaker, All-from_recursion}
use Rattle.bk_text.specs.Alphabets.{IsName, IsNameByte}
use Rattle.vnode_model.specs.declared.headers.HeaderFields.{HeaderFields}
use Rattle.vnode_model.specs.declared.vnodes.Vnode.{Vnode}
use Rattle.vnode_model.specs.declared.vnodes.VnodeKind.{VnodeKind}
use Rattle.vnode_model.specs.declared.vnodes.VnodeKind.TheVariants.{File, Directory, Symlink}
use Rattle.vnode_model.specs.declared.increments.Entry.{Entry}
use Rattle.vnode_model.specs.declared.increments.Entry.TheVariants.{Whole, Kept}
use Rattle.vnode_model.specs.declared.increments.Increment.{Increment}
use Rattle.dump_stream.specs.declared.sofar.Field.{Field}
use Rattle.dump_stream.specs.Forms.{IsBytes, opening, closing}
use Rattle.dump_stream.specs.Fields.{spelled}
use Rattle.dump_stream.specs.Stream.{section}
use Rattle.dump_stream.specs.Written.{byte_field, short_field, number_field, text_field, times_field, week_field, data_field, dump_fields, updates_fields, header_fields, kind_byte, group_fields, access_fields, vnode_fields, section_of, written}
use Rattle.dump_stream.specs.Allowed.{AllowedHeader, AllowedVnode, AllowedEntry, Allowed}

-- ---- bytes

both : (a b : List ℕ) → IsBytes a → IsBytes b → IsBytes (a ++ b)
both a b h k = All-append (λ (x : ℕ). x < 256) a b h k

first : (b : ℕ) (bs : List ℕ) → b < 256 → IsBytes bs → IsBytes (b ∷ bs)
first b bs lt h = All-cons (λ (x : ℕ). x < 256) b bs lt h

none : IsBytes []
none = All-nil (λ (x : ℕ). x < 256)

two_bytes : (n : ℕ) → IsBytes (to_be_bytes w16 n)
two_bytes n = All-from_recursion (λ (x : ℕ). x < 256) (to_be_bytes w16 n) (omega arith, (omega arith, tt))

four_bytes : (n : ℕ) → IsBytes (to_be_bytes w32 n)
four_bytes n = All-from_recursion (λ (x : ℕ). x < 256) (to_be_bytes w32 n) (omega arith, (omega arith, (omega arith, (omega arith, tt))))

name_bytes : (name : List ℕ) → IsName name → IsBytes name
name_bytes name h = All-weaker IsNameByte (λ (x : ℕ). x < 256) (λ x b. omega (arith, b.1)) name h.each

week_bytes : (week : List ℕ) → IsBytes (flat_map (to_be_bytes w32) week)
week_bytes [] = none
week_bytes (n ∷ week) = both (to_be_bytes w32 n) (flat_map (to_be_bytes w32) week) (four_bytes n) (week_bytes week)

-- ---- fields

record OfBytes (f : Field) : Type 0 where
  tag : f.tag < 256
  payload : IsBytes f.payload

abbrev AreOfBytes : List Field → Type 0
AreOfBytes [] = Unit {0}
AreOfBytes (f ∷ fs) = OfBytes f × AreOfBytes fs

spelled_bytes : (fs : List Field) → AreOfBytes fs → IsBytes (flat_map spelled fs)
spelled_bytes [] h = none
spelled_bytes (f ∷ fs) h = both (spelled f) (flat_map spelled fs) (first f.tag f.payload h.0.tag h.0.payload) (spelled_bytes fs h.1)

joined : (fs gs : List Field) → AreOfBytes fs → AreOfBytes gs → AreOfBytes (fs ++ gs)
joined [] gs h k = k
joined (f ∷ fs) gs h k = (h.0, joined fs gs h.1 k)

number_is : (tag n : ℕ) → tag < 256 → OfBytes (number_field tag n)
number_is tag n lt = record { tag = lt; payload = four_bytes n }

short_is : (tag n : ℕ) → tag < 256 → OfBytes (short_field tag n)
short_is tag n lt = record { tag = lt; payload = two_bytes n }

byte_is : (tag b : ℕ) → tag < 256 → b < 256 → OfBytes (byte_field tag b)
byte_is tag b lt small = record { tag = lt; payload = first b [] small none }

text_is : (tag : ℕ) (text : List ℕ) → tag < 256 → IsBytes text → OfBytes (text_field tag text)
text_is tag text lt h = record { tag = lt; payload = both text (0 ∷ []) h (first 0 [] (omega arith) none) }

times_is : (tag from to : ℕ) → tag < 256 → OfBytes (times_field tag from to)
times_is tag from to lt = record { tag = lt; payload = both (to_be_bytes w16 2) (to_be_bytes w32 from ++ to_be_bytes w32 to) (two_bytes 2) (both (to_be_bytes w32 from) (to_be_bytes w32 to) (four_bytes from) (four_bytes to)) }

week_is : (tag : ℕ) (week : List ℕ) → tag < 256 → OfBytes (week_field tag week)
week_is tag week lt = record { tag = lt; payload = both (to_be_bytes w16 7) (flat_map (to_be_bytes w32) week) (two_bytes 7) (week_bytes week) }

data_is : (tag : ℕ) (body : List ℕ) → tag < 256 → IsBytes body → OfBytes (data_field tag body)
data_is tag body lt h = record { tag = lt; payload = both (to_be_bytes w32 (length body)) body (four_bytes (length body)) h }

-- ---- the headers

dump_are : (i : Increment) → Allowed i → AreOfBytes (dump_fields i)
dump_are i h = (number_is 118 i.dump_id (omega arith), (text_is 110 i.dump_name (omega arith) (name_bytes i.dump_name h.dump_name), (times_is 116 i.from i.to (omega arith), tt)))

updates_are : (u : Option ℕ) → AreOfBytes (updates_fields u)
updates_are None = tt
updates_are (Some n) = (number_is 86 n (omega arith), tt)

abbrev behind_week : HeaderFields → List Field
behind_week h = number_field 68 h.day_date ∷ number_field 90 h.day_use ∷ updates_fields h.updates

abbrev times_of : HeaderFields → List Field
times_of h =
    number_field 67 h.created ∷ number_field 65 h.accessed ∷ number_field 85 h.updated ∷ number_field 69 h.expires ∷ number_field 66 h.backed_up ∷ text_field 79 h.offline ∷ text_field 77 h.message ∷ week_field 87 h.week ∷ behind_week h

abbrev counts_of : HeaderFields → List Field
counts_of h =
    number_field 99 h.clone_id ∷ number_field 113 h.max_quota ∷ number_field 109 h.min_quota ∷ number_field 100 h.disk_used ∷ number_field 102 h.file_count ∷ number_field 97 h.account ∷ number_field 111 h.owner ∷ times_of h

behind_are : (h : HeaderFields) → AreOfBytes (behind_week h)
behind_are h = (number_is 68 h.day_date (omega arith), (number_is 90 h.day_use (omega arith), updates_are h.updates))

times_are : (h : HeaderFields) → AllowedHeader h → AreOfBytes (times_of h)
times_are h k =
    (number_is 67 h.created (omega arith), (number_is 65 h.accessed (omega arith), (number_is 85 h.updated (omega arith), (number_is 69 h.expires (omega arith), (number_is 66 h.backed_up (omega arith), (text_is 79 h.offline (omega arith) k.offline, (text_is 77 h.message (omega arith) k.message, (week_is 87 h.week (omega arith), behind_are h))))))))

counts_are : (h : HeaderFields) → AllowedHeader h → AreOfBytes (counts_of h)
counts_are h k =
    (number_is 99 h.clone_id (omega arith), (number_is 113 h.max_quota (omega arith), (number_is 109 h.min_quota (omega arith), (number_is 100 h.disk_used (omega arith), (number_is 102 h.file_count (omega arith), (number_is 97 h.account (omega arith), (number_is 111 h.owner (omega arith), times_are h k)))))))

header_are : (h : HeaderFields) → AllowedHeader h → AreOfBytes (header_fields h)
header_are h k =
    (number_is 105 h.id (omega arith), (number_is 118 h.stamp (omega arith), (text_is 110 h.name (omega arith) (name_bytes h.name k.name), (byte_is 115 h.in_service (omega arith) k.in_service, (byte_is 98 h.blessed (omega arith) k.blessed, (number_is 117 h.uniq (omega arith), (byte_is 116 h.kind (omega arith) (omega (arith, k.limits.kind)), (number_is 112 h.parent (omega arith), counts_are h k))))))))

-- ---- the vnodes

group_by : (none : Bool) (group : ℕ) → AreOfBytes (if none then [] else number_field 103 group ∷ [])
group_by true group = tt
group_by false group = (number_is 103 group (omega arith), tt)

access_are : (kind : VnodeKind) (access : List ℕ) → IsBytes access → AreOfBytes (access_fields kind access)
access_are File access h = tt
access_are Directory access h = (record { tag = omega arith; payload = h }, tt)
access_are Symlink access h = tt

kind_small : (kind : VnodeKind) → kind_byte kind < 256
kind_small File = omega arith
kind_small Directory = omega arith
kind_small Symlink = omega arith

abbrev data_of : Vnode → List Field
data_of v = access_fields v.kind v.access ++ data_field 102 v.body ∷ []

abbrev rest_of : Vnode → List Field
rest_of v = short_field 98 v.mode ∷ number_field 112 v.parent ∷ number_field 115 v.server_modified ∷ data_of v

rest_are : (v : Vnode) → AllowedVnode v → AreOfBytes (rest_of v)
rest_are v k =
    (short_is 98 v.mode (omega arith), (number_is 112 v.parent (omega arith), (number_is 115 v.server_modified (omega arith), joined (access_fields v.kind v.access) (data_field 102 v.body ∷ []) (access_are v.kind v.access k.access) (data_is 102 v.body (omega arith) k.body, tt))))

vnode_are : (v : Vnode) → AllowedVnode v → AreOfBytes (vnode_fields v)
vnode_are v k =
    (byte_is 116 (kind_byte v.kind) (omega arith) (kind_small v.kind), (short_is 108 v.links (omega arith), (number_is 118 v.data_version (omega arith), (number_is 109 v.modified (omega arith), (number_is 97 v.author (omega arith), (number_is 111 v.owner (omega arith), joined (group_fields v.group) (rest_of v) (group_by (v.group == 0) v.group) (rest_are v k)))))))

section_bytes : (e : Entry) → AllowedEntry e → IsBytes (section (section_of e))
section_bytes (Whole v) k =
    first 3 ((to_be_bytes w32 v.number ++ to_be_bytes w32 v.uniq) ++ flat_map spelled (vnode_fields v)) (omega arith)
    (both (to_be_bytes w32 v.number ++ to_be_bytes w32 v.uniq) (flat_map spelled (vnode_fields v)) (both (to_be_bytes w32 v.number) (to_be_bytes w32 v.uniq) (four_bytes v.number) (four_bytes v.uniq)) (spelled_bytes (vnode_fields v) (vnode_are v k)))
section_bytes (Kept number uniq) k =
    first 3 ((to_be_bytes w32 number ++ to_be_bytes w32 uniq) ++ []) (omega arith)
    (both (to_be_bytes w32 number ++ to_be_bytes w32 uniq) [] (both (to_be_bytes w32 number) (to_be_bytes w32 uniq) (four_bytes number) (four_bytes uniq)) none)

sections_bytes : (es : List Entry) → All AllowedEntry es → IsBytes (flat_map section (map section_of es))
sections_bytes [] h = none
sections_bytes (e ∷ es) h = both (section (section_of e)) (flat_map section (map section_of es)) (section_bytes e (All-head AllowedEntry e es h)) (sections_bytes es (All-tail AllowedEntry e es h))

opening_bytes : IsBytes opening
opening_bytes = All-from_recursion (λ (x : ℕ). x < 256) opening (omega arith, (omega arith, (omega arith, (omega arith, (omega arith, (omega arith, (omega arith, (omega arith, tt))))))))

closing_bytes : IsBytes closing
closing_bytes = All-from_recursion (λ (x : ℕ). x < 256) closing (omega arith, (omega arith, (omega arith, (omega arith, tt))))

-- the stream, part by part
spelled_as : (i : Increment) → written i ≡ 1 ∷ opening ++ flat_map spelled (dump_fields i) ++ 2 ∷ flat_map spelled (header_fields i.header) ++ flat_map section (map section_of i.entries) ++ 4 ∷ closing
unfolding written
spelled_as i = refl

all_bytes : (dump header vnodes : List ℕ) → IsBytes dump → IsBytes header → IsBytes vnodes → IsBytes (1 ∷ opening ++ dump ++ 2 ∷ header ++ vnodes ++ 4 ∷ closing)
all_bytes dump header vnodes a b c =
    let opened : List ℕ = (1 ∷ opening) ++ dump in
    let headed : List ℕ = opened ++ (2 ∷ header) in
    let one : IsBytes opened = both (1 ∷ opening) dump (first 1 opening (omega arith) opening_bytes) a in
    let two : IsBytes headed = both opened (2 ∷ header) one (first 2 header (omega arith) b) in
    both (headed ++ vnodes) (4 ∷ closing) (both headed vnodes two c) (first 4 closing (omega arith) closing_bytes)

pub written_bytes : (i : Increment) → Allowed i → IsBytes (written i)
written_bytes i k =
    subst IsBytes (sym (spelled_as i))
    (all_bytes (flat_map spelled (dump_fields i)) (flat_map spelled (header_fields i.header)) (flat_map section (map section_of i.entries)) (spelled_bytes (dump_fields i) (dump_are i k)) (spelled_bytes (header_fields i.header) (header_are i.header k.header)) (sections_bytes i.entries k.entries))
