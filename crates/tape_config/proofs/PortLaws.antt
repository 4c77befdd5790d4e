-- The device lines of a configuration keep their limits, and have no slot in common.
use Rattle.std.proofs.Common.{zero, suc, ℕ, ◌-◌, ◌<◌, ◌≤◌, ◌≡◌, ◌≢◌, ◌⊎◌, List, [], ◌∷◌, ◌++◌, length, take, drop, get_or, slice_index, Bool, true, false, cond, ◌==◌, ◌&&◌, ◌||◌, refl, sym, ◌∙◌, ap, subst, arith, inl, inr, eqb, leb, true≢false}
use Rattle.std.specs.Prelude.{Option, Some, None, Result, Ok, Err, IfSome, AllPairs}
use Rattle.std.specs.List.{list_any, All, starts_with, before_first, after_first}
use Rattle.std.proofs.lemmas.Bool.{cases_lt, leb-true, leb-false, eqb-true, eqb-false}
use Rattle.std.proofs.lemmas.List.Elements.{All-nil, All-push, All-get_or}
use Rattle.std.proofs.lemmas.List.Quantifiers.{all_pairs_push}
use Rattle.tape_config.specs.declared.line.DeviceLine.{DeviceLine}
use Rattle.tape_config.specs.declared.line.Entry.{Entry}
use Rattle.tape_config.specs.declared.line.Entry.TheVariants.{Device, NameCheck}
use Rattle.tape_config.specs.declared.line.Line.{Line}
use Rattle.tape_config.specs.declared.line.Line.TheVariants.{Nothing, Says}
use Rattle.tape_config.specs.declared.port.PortFields.{PortFields}
use Rattle.tape_config.specs.declared.fault.ConfigFault.{ConfigFault}
use Rattle.tape_config.specs.declared.fault.ConfigFault.TheVariants.{BadLine, PortTwice, SlotTwice}
use Rattle.std.specs.Str.Lines.{lines}
use Rattle.bk_text.specs.Digits.{number_of}
use Rattle.bk_text.specs.Blanks.{words_of, is_same_word}
use Rattle.tape_config.specs.Numbers.{count_of, up_to, has_plain_front, plain_of, unit_of, reduced, sized, size_of, capacity_of}
use Rattle.tape_config.specs.Words.{in_order, slots_of, slots_word, switch_of, name_check_word, is_dash}
use Rattle.tape_config.specs.Lines.{offset_of, device_line, check_line, words_say, line_says, cell_of}
use Rattle.tape_config.specs.Configs.{Settings, IsConfig, no_settings, has_port, has_slot, next_device, next_entry, next_cell, with_entries, with_cell, next_line, next_number, lines_say, config_of, device_if, device_at, or_else, checks_names, port_with, port_in}
use Rattle.tape_config.specs.Ports.{IsWithinLimits, IsAmong, AreApart}

-- a device line within its limits
pub record IsSoundDevice (d : DeviceLine) : Type 0 where
  pub offset : d.offset ≤ 58510
  pub some : 0 < d.capacity
  pub capacity : d.capacity ≤ 4000000000
  pub filemark : d.filemark ≤ 4000000000
  pub ordered : d.first ≤ d.last
  pub last : d.last ≤ 65535

abbrev pub IsSoundEntry : Entry → Type 0
IsSoundEntry (Device d) = IsSoundDevice d
IsSoundEntry (NameCheck _ _) = Unit {0}

abbrev pub IsSoundLine : Line → Type 0
IsSoundLine (Says entry) = IsSoundEntry entry
IsSoundLine Nothing = Unit {0}

-- numbers keep their limits
up_to_within : (most : ℕ) (r : Option ℕ) → IfSome (up_to most r) (λ n. n ≤ most)
up_to_within most None = tt
up_to_within most (Some n) = go (leb n most) refl
  where
    go : (t : Bool) → leb n most ≡ t → IfSome (cond t (Some n) None) (λ n. n ≤ most)
    go true is = leb-true n most is
    go false is = tt

plain_within : (most : ℕ) (word : List ℕ) → IfSome (plain_of most word) (λ n. n ≤ most)
plain_within most word = go (has_plain_front word)
  where
    go : (t : Bool) → IfSome (cond t (up_to most (number_of word)) None) (λ n. n ≤ most)
    go true = up_to_within most (number_of word)
    go false = tt

reduced_within : (unit : ℕ) (r : Option ℕ) → IfSome (reduced unit r) (λ n. n ≤ 4000000000)
reduced_within unit None = tt
reduced_within unit (Some n) = omega arith

size_within : (word : List ℕ) → IfSome (size_of word) (λ n. n ≤ 4000000000)
size_within word = go (unit_of (slice_index word (length word - 1)))
  where
    go : (u : Option ℕ) → IfSome (sized u word) (λ n. n ≤ 4000000000)
    go None = reduced_within 1 (count_of word)
    go (Some unit) = reduced_within unit (count_of (take (length word - 1) word))

abbrev AreSlots : ℕ × ℕ → Type 0
AreSlots slots = (slots.0 ≤ slots.1) × (slots.1 ≤ 65535)

in_order_within : (a b : Option ℕ) → IfSome b (λ n. n ≤ 65535) → IfSome (in_order a b) AreSlots
in_order_within None b within = tt
in_order_within (Some first) None within = tt
in_order_within (Some first) (Some last) within = go (leb first last) refl
  where
    go : (t : Bool) → leb first last ≡ t → IfSome (cond t (Some (first, last)) None) AreSlots
    go true is = (leb-true first last is, within)
    go false is = tt

slots_within : (word : List ℕ) → IfSome (slots_of word) AreSlots
slots_within word = go (starts_with eqb word slots_word)
  where
    go : (t : Bool) → IfSome (cond t (in_order (plain_of 65535 (before_first is_dash (drop 6 word))) (plain_of 65535 (after_first is_dash (drop 6 word)))) None) AreSlots
    go true = in_order_within (plain_of 65535 (before_first is_dash (drop 6 word))) (plain_of 65535 (after_first is_dash (drop 6 word))) (plain_within 65535 (after_first is_dash (drop 6 word)))
    go false = tt

positive : (n : ℕ) → (n ≡ 0 → ⊥) → 0 < n
positive n some = omega arith

capacity_within : (size : ℕ) → size ≤ 4000000000 → (0 < capacity_of size) × (capacity_of size ≤ 4000000000)
capacity_within size within = go (eqb size 0) refl
  where
    go : (t : Bool) → eqb size 0 ≡ t → (0 < cond t 2147483648 size) × (cond t 2147483648 size ≤ 4000000000)
    go true is = (omega arith, omega arith)
    go false is = (positive size (eqb-false size 0 is), within)

-- so do device lines, and all that a line says
device_sound : (c f : Option ℕ) (s : Option (ℕ × ℕ)) (o : Option ℕ) → IfSome c (λ n. n ≤ 4000000000) → IfSome f (λ n. n ≤ 4000000000) → IfSome s AreSlots → IfSome o (λ n. n ≤ 58510) → IfSome (device_line c f s o) IsSoundLine
device_sound (Some c) (Some f) (Some s) (Some o) cs fs ss os = record { offset = os; some = (capacity_within c cs).0; capacity = (capacity_within c cs).1; filemark = fs; ordered = ss.0; last = ss.1 }
device_sound None f s o cs fs ss os = tt
device_sound (Some c) None s o cs fs ss os = tt
device_sound (Some c) (Some f) None o cs fs ss os = tt
device_sound (Some c) (Some f) (Some s) None cs fs ss os = tt

check_sound : (on : Option Bool) (o : Option ℕ) → IfSome (check_line on o) IsSoundLine
check_sound None o = tt
check_sound (Some on) None = tt
check_sound (Some on) (Some o) = tt

words_sound : (words : List (List ℕ)) → IfSome (words_say words) IsSoundLine
words_sound [] = tt
words_sound (a ∷ []) = tt
words_sound (a ∷ b ∷ []) = device_sound (Some 0) (Some 0) (slots_of a) (offset_of b) (omega arith) (omega arith) (slots_within a) (plain_within 58510 b)
words_sound (a ∷ b ∷ c ∷ []) = go (is_same_word a name_check_word)
  where
    go : (t : Bool) → IfSome (cond t (check_line (switch_of b) (offset_of c)) None) IsSoundLine
    go true = check_sound (switch_of b) (offset_of c)
    go false = tt
words_sound (a ∷ b ∷ c ∷ d ∷ []) = device_sound (size_of a) (size_of b) (slots_of c) (offset_of d) (size_within a) (size_within b) (slots_within c) (plain_within 58510 d)
words_sound (a ∷ b ∷ c ∷ d ∷ e ∷ more) = tt

line_sound : (line : List ℕ) → IfSome (line_says line) IsSoundLine
line_sound line = go (slice_index line 0 == 35)
  where
    go : (t : Bool) → IfSome (cond t (Some Nothing) (words_say (words_of line))) IsSoundLine
    go true = tt
    go false = words_sound (words_of line)

-- two device lines have two ports, and no slot in common
abbrev pub AreApartEntries : Entry → Entry → Type 0
AreApartEntries (Device d) (Device e) = (d.offset ≢ e.offset) × ((d.last < e.first) ⊎ (e.last < d.first))
AreApartEntries _ _ = Unit {0}

pub record AreSound (lines : List Entry) : Type 0 where
  pub each : All IsSoundEntry lines
  pub apart : AllPairs AreApartEntries lines

slots_apart : (d e : DeviceLine) → has_slot e.first e.last (Device d) ≡ false → (d.last < e.first) ⊎ (e.last < d.first)
slots_apart d e none = go (leb d.first e.last) refl
  where
    go : (t : Bool) → leb d.first e.last ≡ t → (d.last < e.first) ⊎ (e.last < d.first)
    go false is = inr (leb-false d.first e.last is)
    go true is = inl (leb-false e.first d.last (sym (ap (λ (t : Bool). t && leb e.first d.last) is) ∙ none))

apart_by : (x : Entry) (e : DeviceLine) → has_port e.offset x ≡ false → has_slot e.first e.last x ≡ false → AreApartEntries x (Device e)
apart_by (NameCheck o on) e port slot = tt
apart_by (Device d) e port slot = (eqb-false d.offset e.offset port, slots_apart d e slot)

apart_check : (x : Entry) (offset : ℕ) (on : Bool) → AreApartEntries x (NameCheck offset on)
apart_check (NameCheck o b) offset on = tt
apart_check (Device d) offset on = tt

or_parts : (a b : Bool) → (a || b) ≡ false → (a ≡ false) × (b ≡ false)
or_parts true b none = absurd (true≢false none)
or_parts false b none = (refl, none)

none_passes : (p : Entry → Bool) (xs : List Entry) (k : ℕ) (d : Entry) → list_any p xs ≡ false → k < length xs → p (get_or xs k d) ≡ false
none_passes p [] k d none within = absurd (omega arith)
none_passes p (x ∷ xs) zero d none within = (or_parts (p x) (list_any p xs) none).0
none_passes p (x ∷ xs) (suc j) d none within = none_passes p xs j d (or_parts (p x) (list_any p xs) none).1 (omega arith)

push_device : (before : List Entry) (d : DeviceLine) → AreSound before → IsSoundDevice d → list_any (has_port d.offset) before ≡ false → list_any (has_slot d.first d.last) before ≡ false → AreSound (before ++ Device d ∷ [])
push_device before d sound device ports slots = record {
  each = All-push IsSoundEntry before (Device d) sound.each device;
  apart = all_pairs_push AreApartEntries before (Device d) sound.apart (λ k default within. apart_by (get_or before k default) d (none_passes (has_port d.offset) before k default ports within) (none_passes (has_slot d.first d.last) before k default slots within));
}

push_check : (before : List Entry) (offset : ℕ) (on : Bool) → AreSound before → AreSound (before ++ NameCheck offset on ∷ [])
push_check before offset on sound = record {
  each = All-push IsSoundEntry before (NameCheck offset on) sound.each tt;
  apart = all_pairs_push AreApartEntries before (NameCheck offset on) sound.apart (λ k default within. apart_check (get_or before k default) offset on);
}

ok_is : (a b : List Entry) → (let x : Result (List Entry) ConfigFault = Ok a in x) ≡ Ok b → a ≡ b
ok_is a b e = cc

not_ok : (f : ConfigFault) (a : List Entry) → (let x : Result (List Entry) ConfigFault = Err f in x) ≡ Ok a → ⊥
not_ok f a e = cc

device_next : (number : ℕ) (before after : List Entry) (d : DeviceLine) → AreSound before → IsSoundDevice d → next_device number before d ≡ Ok after → AreSound after
device_next number before after d sound device e = go (list_any (has_port d.offset) before) (list_any (has_slot d.first d.last) before) refl refl e
  where
    go : (s t : Bool) → list_any (has_port d.offset) before ≡ s → list_any (has_slot d.first d.last) before ≡ t → cond s (Err (PortTwice number)) (cond t (Err (SlotTwice number)) (Ok (before ++ Device d ∷ []))) ≡ Ok after → AreSound after
    go true t ports slots e = absurd (not_ok (PortTwice number) after e)
    go false true ports slots e = absurd (not_ok (SlotTwice number) after e)
    go false false ports slots e = subst AreSound (ok_is (before ++ Device d ∷ []) after e) (push_device before d sound device ports slots)

entry_next : (number : ℕ) (before after : List Entry) (r : Option Line) → AreSound before → IfSome r IsSoundLine → next_entry number before r ≡ Ok after → AreSound after
entry_next number before after None sound line e = absurd (not_ok (BadLine number) after e)
entry_next number before after (Some Nothing) sound line e = subst AreSound (ok_is before after e) sound
entry_next number before after (Some (Says (Device d))) sound line e = device_next number before after d sound line e
entry_next number before after (Some (Says (NameCheck offset on))) sound line e = subst AreSound (ok_is (before ++ NameCheck offset on ∷ []) after e) (push_check before offset on sound)

settings_ok : (a b : Settings) → (let x : Result Settings ConfigFault = Ok a in x) ≡ Ok b → a ≡ b
settings_ok a b e = cc

settings_not_ok : (f : ConfigFault) (a : Settings) → (let x : Result Settings ConfigFault = Err f in x) ≡ Ok a → ⊥
settings_not_ok f a e = cc

with_entries_sound : (before after : Settings) (r : Result (List Entry) ConfigFault) → ((entries : List Entry) → r ≡ Ok entries → AreSound entries) → with_entries before r ≡ Ok after → AreSound after.entries
with_entries_sound before after (Err fault) sound e = absurd (settings_not_ok fault after e)
with_entries_sound before after (Ok entries) sound e = subst (λ (s : Settings). AreSound s.entries) (settings_ok (record before { entries = entries }) after e) (sound entries refl)

with_cell_sound : (before after : Settings) (r : Result (Option (List ℕ)) ConfigFault) → AreSound before.entries → with_cell before r ≡ Ok after → AreSound after.entries
with_cell_sound before after (Err fault) sound e = absurd (settings_not_ok fault after e)
with_cell_sound before after (Ok cell) sound e = subst (λ (s : Settings). AreSound s.entries) (settings_ok (record before { cell = cell }) after e) sound

line_next : (number : ℕ) (before after : Settings) (cell : Option (List ℕ)) (r : Option Line) → AreSound before.entries → IfSome r IsSoundLine → next_line number before cell r ≡ Ok after → AreSound after.entries
line_next number before after (Some name) r sound line e = with_cell_sound before after (next_cell number before.cell name) sound e
line_next number before after None r sound line e = with_entries_sound before after (next_entry number before.entries r) (λ entries is. entry_next number before.entries entries r sound line is) e

says_sound : (lines : List (List ℕ)) (number : ℕ) (before after : Settings) → AreSound before.entries → lines_say number before lines ≡ Ok after → AreSound after.entries
says_sound [] number before after sound e = subst (λ (s : Settings). AreSound s.entries) (settings_ok before after e) sound
says_sound (line ∷ rest) number before after sound e = go (λ later. says_sound rest (next_number number) later after) (next_line number before (cell_of line) (line_says line)) refl e
  where
    go : ((later : Settings) → AreSound later.entries → lines_say (next_number number) later rest ≡ Ok after → AreSound after.entries) → (r : Result Settings ConfigFault) → next_line number before (cell_of line) (line_says line) ≡ r → ◌≡◌ {A = Result Settings ConfigFault} (elim r [ Ok later ↦ lines_say (next_number number) later rest | Err fault ↦ Err fault ]) (Ok after) → AreSound after.entries
    go on (Ok later) is e = on later (line_next number before later (cell_of line) (line_says line) sound (line_sound line) is) e
    go on (Err fault) is e = absurd (settings_not_ok fault after e)

nothing_sound : AreSound []
nothing_sound = record { each = All-nil IsSoundEntry; apart = λ i j d before below. absurd (omega arith) }

pub config_sound : (settings : Settings) → IsConfig settings → AreSound settings.entries
config_sound kept is = says_sound (lines is.bytes) 1 no_settings kept nothing_sound is.says

some_is : (f d : DeviceLine) → Some f ≡ Some d → f ≡ d
some_is f d e = cc

-- the device line of a port is one of the lines
pub record StandsAt (lines : List Entry) (offset : ℕ) (d : DeviceLine) : Type 0 where
  pub at : ℕ
  pub within : at < length lines
  pub is : (default : Entry) → get_or lines at default ≡ Device d
  pub offset_is : d.offset ≡ offset

found_if : (offset : ℕ) (x : Entry) (d : DeviceLine) → device_if offset x ≡ Some d → (x ≡ Device d) × (d.offset ≡ offset)
found_if offset (NameCheck o on) d e = absurd cc
found_if offset (Device f) d e = go (eqb f.offset offset) refl e
  where
    go : (t : Bool) → eqb f.offset offset ≡ t → cond t (Some f) None ≡ Some d → (Device f ≡ Device d) × (d.offset ≡ offset)
    go true is e = (cc, sym (ap (λ (x : DeviceLine). x.offset) (some_is f d e)) ∙ eqb-true f.offset offset is)
    go false is e = absurd cc

stands_next : (x : Entry) (xs : List Entry) (offset : ℕ) (d : DeviceLine) → StandsAt xs offset d → StandsAt (x ∷ xs) offset d
stands_next x xs offset d stands = record { at = suc stands.at; within = omega (arith, stands.within); is = stands.is; offset_is = stands.offset_is }

pub stands_at : (lines : List Entry) (offset : ℕ) (d : DeviceLine) → device_at offset lines ≡ Some d → StandsAt lines offset d
stands_at [] offset d e = absurd cc
stands_at (x ∷ xs) offset d e = go (stands_at xs offset d) (device_if offset x) refl e
  where
    go : (device_at offset xs ≡ Some d → StandsAt xs offset d) → (r : Option DeviceLine) → device_if offset x ≡ r → or_else r (device_at offset xs) ≡ Some d → StandsAt (x ∷ xs) offset d
    go on None is e = stands_next x xs offset d (on e)
    go on (Some f) is e = let there = found_if offset x d (is ∙ e) in record { at = 0; within = omega arith; is = λ default. there.0; offset_is = there.1 }

line_device : (lines : List Entry) (offset : ℕ) (d : DeviceLine) → AreSound lines → StandsAt lines offset d → IsSoundDevice d
line_device lines offset d sound stands = subst IsSoundEntry (stands.is (NameCheck 0 true)) (All-get_or IsSoundEntry lines stands.at (NameCheck 0 true) stands.within sound.each)

pub device_within : (lines : List Entry) (offset : ℕ) (on : Bool) (r : Option DeviceLine) → AreSound lines → device_at offset lines ≡ r → IfSome (port_with offset on r) IsWithinLimits
device_within lines offset on None sound e = tt
device_within lines offset on (Some d) sound e =
    let stands = stands_at lines offset d e in
    let device = line_device lines offset d sound stands in
    record { offset = subst (λ (o : ℕ). o ≤ 58510) stands.offset_is device.offset; some = device.some; capacity = device.capacity; filemark = device.filemark; ordered = device.ordered; last = device.last }

-- ports of two offsets have no slot in common
abbrev HaveNone : DeviceLine → DeviceLine → Type 0
HaveNone d e = (d.last < e.first) ⊎ (e.last < d.first)

swapped : (d e : DeviceLine) → HaveNone d e → HaveNone e d
swapped d e (inl before) = inr before
swapped d e (inr behind) = inl behind

pair_at : (lines : List Entry) (i j : ℕ) (d e : DeviceLine) → AllPairs AreApartEntries lines → i < j → j < length lines → ((x : Entry) → get_or lines i x ≡ Device d) → ((x : Entry) → get_or lines j x ≡ Device e) → HaveNone d e
pair_at lines i j d e pairs before within is_d is_e = (subst (λ (x : Entry). AreApartEntries (Device d) x) (is_e (NameCheck 0 true)) (subst (λ (x : Entry). AreApartEntries x (get_or lines j (NameCheck 0 true))) (is_d (NameCheck 0 true)) (pairs i j (NameCheck 0 true) before within))).1

same_device : (d e : DeviceLine) → Device d ≡ Device e → d ≡ e
same_device d e same = cc

devices_apart : (lines : List Entry) (a b : ℕ) (d e : DeviceLine) → AreSound lines → a ≢ b → StandsAt lines a d → StandsAt lines b e → HaveNone d e
devices_apart lines a b d e sound other at_a at_b = elim (cases_lt at_a.at at_b.at) [
  | inl before ↦ pair_at lines at_a.at at_b.at d e sound.apart before at_b.within at_a.is at_b.is
  | inr rest ↦ elim (cases_lt at_b.at at_a.at) [
    | inl behind ↦ swapped e d (pair_at lines at_b.at at_a.at e d sound.apart behind at_a.within at_b.is at_a.is)
    | inr not_behind ↦
        let place : at_a.at ≡ at_b.at = omega arith in
        let same : d ≡ e = same_device d e (sym (at_a.is (NameCheck 0 true)) ∙ ap (λ (k : ℕ). get_or lines k (NameCheck 0 true)) place ∙ at_b.is (NameCheck 0 true)) in
        absurd (other (sym at_a.offset_is ∙ ap (λ (x : DeviceLine). x.offset) same ∙ at_b.offset_is))
  ]
]

some_port : (q port : PortFields) → Some q ≡ Some port → q ≡ port
some_port q port e = cc

pub apart_by_devices : (lines : List Entry) (a b : ℕ) (on said : Bool) (r s : Option DeviceLine) (port : PortFields) → AreSound lines → a ≢ b → device_at a lines ≡ r → device_at b lines ≡ s → port_with b said s ≡ Some port → IfSome (port_with a on r) (λ p. AreApart p port)
apart_by_devices lines a b on said None s port sound other is_r is_s e = tt
apart_by_devices lines a b on said (Some d) None port sound other is_r is_s e = absurd cc
apart_by_devices lines a b on said (Some d) (Some f) port sound other is_r is_s e =
    let told : PortFields = record { offset = b; capacity = f.capacity; filemark = f.filemark; first = f.first; last = f.last; name_check = said } in
    subst (λ (q : PortFields). (d.last < q.first) ⊎ (q.last < d.first)) (some_port told port e) (devices_apart lines a b d f sound other (stands_at lines a d is_r) (stands_at lines b f is_s))

-- no slot is one of two ports that have none in common
pub none_of_both : (p q : PortFields) → AreApart p q → (k : ℕ) → IsAmong p k → IsAmong q k → ⊥
none_of_both p q (inl before) k of_p of_q = omega (arith, before, of_p.1, of_q.0)
none_of_both p q (inr behind) k of_p of_q = omega (arith, behind, of_p.0, of_q.1)

-- two ports of a configuration
pub ports_apart : (bytes : List ℕ) (settings : Settings) → config_of bytes ≡ Ok settings → (a b : ℕ) (p q : PortFields) → a ≢ b → port_in a settings.entries ≡ Some p → port_in b settings.entries ≡ Some q → AreApart p q
ports_apart bytes settings is a b p q other is_p is_q =
    let lines = settings.entries in
    subst (λ (r : Option PortFields). IfSome r (λ x. AreApart x q)) is_p
    (apart_by_devices lines a b (checks_names a lines) (checks_names b lines) (device_at a lines) (device_at b lines) q (config_sound settings (record { bytes = bytes; says = is })) other refl refl is_q)
