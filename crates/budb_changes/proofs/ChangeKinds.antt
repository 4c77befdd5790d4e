-- Changes and expirations, kind by kind.
use Rattle.std.proofs.Common.{zero, suc, ◌≡◌, ℕ, ◌≤◌, List, [], ◌∷◌, ◌++◌, refl, sym, ap, ◌∙◌, arith, lit≤, Option, None}
use Rattle.bk_text.specs.Alphabets.{IsName, IsHost, IsSetName}
use Rattle.bk_text.specs.LevelPaths.{IsLevelPath}
use Rattle.bk_text.specs.declared.expiry.Expiry.{Expiry}
use Rattle.bk_text.specs.declared.expiry.Expiry.TheVariants as expiries
use Rattle.budb_changes.specs.declared.version.Version.TheVariants.{One, Two}
use Rattle.budb_changes.specs.declared.records.DumpRecordFields.{DumpRecordFields}
use Rattle.budb_changes.specs.declared.change.Change.{Change}
use Rattle.budb_changes.specs.declared.change.Change.TheVariants as changes
use Rattle.budb_changes.specs.Printable.{IsPatternBytes}
use Rattle.budb_changes.specs.Bytes.{expiry_kind, expiry_fields, expiry_bytes, kind_of, fields_of, encoded_change}
use Rattle.budb_changes.specs.Forms.{IsExpiry, IsChange}
use Rattle.byte_formats.specs.Formats.{Format, Took, both, pair, one_in, two_in, any_four, text1_of, text2_of, any_of}
use Rattle.budb_changes.specs.Formats.{expiry_form, expiry_of_kind, dump_form, change_form, of_kind}
use Rattle.byte_formats.proofs.FormatLaws.{Sole, Has, Like, sole_both, sole_like, has_like}
use Rattle.byte_formats.proofs.Leaves.{sole_one, sole_two, has_two, sole_four, has_four, sole_any, has_any}
use Rattle.byte_formats.proofs.Texts.{sole_name, sole_host, sole_set, sole_level, has_host, has_set, sole_pair, has_pair}
use Rattle.budb_changes.proofs.Layouts.{sole_pattern, has_pattern, sole_dump, has_dump}
use Rattle.byte_formats.proofs.Leaves.{has_level, word_bounds}
use Rattle.bk_text.specs.declared.words.Alphabet.TheVariants as alphabets

-- ---- expirations

abbrev pub any_two : Format ℕ
any_two = two_in 0 65535

pub sole_any_two : Sole any_two
sole_any_two = sole_two 0 65535 (lit≤ tt)

pub has_any_two : Has any_two
has_any_two = has_two 0 65535 (lit≤ tt)

abbrev pub span_1 : Format (ℕ × ℕ)
span_1 = pair any_two any_two

abbrev pub span : Format (ℕ × (ℕ × ℕ))
span = pair any_two span_1

pub sole_span_1 : Sole span_1
sole_span_1 = sole_pair any_two any_two sole_any_two sole_any_two

pub has_span_1 : Has span_1
has_span_1 = has_pair any_two any_two has_any_two has_any_two

pub moment_of : Expiry → ℕ
moment_of (expiries.At n) = n
moment_of other = 0

pub moment_back : (e : Expiry) → (expiry_kind e ≡ 2) × IsExpiry e → any_four.Is (moment_of e)
unfolding moment_of expiry_kind
moment_back (expiries.At n) h = h.1
moment_back other h = absurd (omega (arith, h.0))

pub moment_again : (e : Expiry) → (expiry_kind e ≡ 2) × IsExpiry e → expiries.At (moment_of e) ≡ e
unfolding moment_of expiry_kind
moment_again (expiries.At n) h = refl
moment_again other h = absurd (omega (arith, h.0))

pub moment_same : (e : Expiry) → (expiry_kind e ≡ 2) × IsExpiry e → expiry_fields e ≡ any_four.spelled (moment_of e)
unfolding moment_of expiry_kind expiry_fields
moment_same (expiries.At n) h = refl
moment_same other h = absurd (omega (arith, h.0))

unfoldable pub like_moment : Like any_four (expiry_of_kind 2)
unfolding moment_of expiry_kind
like_moment = record { to = λ n. expiries.At n; from = moment_of; there = λ n is. (refl, is); back = moment_back; again = λ n is. refl; restored = moment_again; same = moment_same }

pub span_of : Expiry → ℕ × (ℕ × ℕ)
span_of (expiries.In years months days) = (years, (months, days))
span_of other = (0, (0, 0))

pub span_back : (e : Expiry) → (expiry_kind e ≡ 3) × IsExpiry e → span.Is (span_of e)
unfolding span_of expiry_kind
span_back (expiries.In years months days) h = ((omega arith, h.1.0), ((omega arith, h.1.1), (omega arith, h.1.2)))
span_back other h = absurd (omega (arith, h.0))

abbrev pub in_of : ℕ × (ℕ × ℕ) → Expiry
in_of p = expiries.In p.0 p.1.0 p.1.1

pub span_again : (e : Expiry) → (expiry_kind e ≡ 3) × IsExpiry e → in_of (span_of e) ≡ e
unfolding span_of expiry_kind in_of
span_again (expiries.In years months days) h = refl
span_again other h = absurd (omega (arith, h.0))

pub span_same : (e : Expiry) → (expiry_kind e ≡ 3) × IsExpiry e → expiry_fields e ≡ span.spelled (span_of e)
unfolding span_of expiry_kind expiry_fields
span_same (expiries.In years months days) h = refl
span_same other h = absurd (omega (arith, h.0))

unfoldable pub like_span : Like span (expiry_of_kind 3)
unfolding span_of expiry_kind in_of
like_span = record { to = in_of; from = span_of; there = λ p is. (refl, (is.0.1, is.1.0.1, is.1.1.1)); back = span_back; again = λ p is. refl; restored = span_again; same = span_same }

unset_same : (e f : Expiry) → (expiry_kind e ≡ 0) × IsExpiry e → (expiry_kind f ≡ 0) × IsExpiry f → (e ≡ f) × (expiry_fields e ≡ [])
unfolding expiry_kind expiry_fields
unset_same expiries.Unset expiries.Unset h i = (refl, refl)
unset_same expiries.Unset other h i = absurd (omega (arith, i.0))
unset_same other f h i = absurd (omega (arith, h.0))

never_same : (e f : Expiry) → (expiry_kind e ≡ 1) × IsExpiry e → (expiry_kind f ≡ 1) × IsExpiry f → (e ≡ f) × (expiry_fields e ≡ [])
unfolding expiry_kind expiry_fields
never_same expiries.Never expiries.Never h i = (refl, refl)
never_same expiries.Never other h i = absurd (omega (arith, i.0))
never_same other f h i = absurd (omega (arith, h.0))

pub sole_unset : Sole (expiry_of_kind 0)
sole_unset = record { same = λ x y r s isx isy e. ((unset_same x y isx isy).0, ap (λ (z : List ℕ). z ++ r) (sym (unset_same x y isx isy).1) ∙ e ∙ ap (λ (z : List ℕ). z ++ s) (unset_same y x isy isx).1) }

pub sole_never : Sole (expiry_of_kind 1)
sole_never = record { same = λ x y r s isx isy e. ((never_same x y isx isy).0, ap (λ (z : List ℕ). z ++ r) (sym (never_same x y isx isy).1) ∙ e ∙ ap (λ (z : List ℕ). z ++ s) (never_same y x isy isx).1) }

pub sole_expiry_kind : (k : ℕ) → (0 ≤ k) × (k ≤ 3) → Sole (expiry_of_kind k)
sole_expiry_kind zero is = sole_unset
sole_expiry_kind (suc zero) is = sole_never
sole_expiry_kind (suc (suc zero)) is = sole_like any_four (expiry_of_kind 2) like_moment sole_four
sole_expiry_kind (suc (suc (suc zero))) is = sole_like span (expiry_of_kind 3) like_span (sole_pair any_two span_1 sole_any_two sole_span_1)
sole_expiry_kind (suc (suc (suc (suc k)))) is = absurd (omega (arith, is.1))

pub took_unset : (bytes : List ℕ) → Took (expiry_of_kind 0) bytes expiries.Unset bytes
unfolding expiry_kind expiry_fields
took_unset bytes = record { is = (refl, tt); joined = refl }

pub took_never : (bytes : List ℕ) → Took (expiry_of_kind 1) bytes expiries.Never bytes
unfolding expiry_kind expiry_fields
took_never bytes = record { is = (refl, tt); joined = refl }

pub has_expiry_kind : (k : ℕ) → (0 ≤ k) × (k ≤ 3) → Has (expiry_of_kind k)
unfolding expiry_kind
has_expiry_kind zero is = record { value = expiries.Unset; is = (refl, tt) }
has_expiry_kind (suc zero) is = record { value = expiries.Never; is = (refl, tt) }
has_expiry_kind (suc (suc zero)) is = record { value = expiries.At 0; is = (refl, lit≤ tt) }
has_expiry_kind (suc (suc (suc zero))) is = record { value = expiries.In 0 0 0; is = (refl, (lit≤ tt, lit≤ tt, lit≤ tt)) }
has_expiry_kind (suc (suc (suc (suc k)))) is = absurd (omega (arith, is.1))

pub expiry_bounds : (e : Expiry) → (0 ≤ expiry_kind e) × (expiry_kind e ≤ 3)
unfolding expiry_kind
expiry_bounds expiries.Unset = (lit≤ tt, lit≤ tt)
expiry_bounds expiries.Never = (lit≤ tt, lit≤ tt)
expiry_bounds (expiries.At n) = (lit≤ tt, lit≤ tt)
expiry_bounds (expiries.In years months days) = (lit≤ tt, lit≤ tt)

unfoldable pub like_expiry : Like (both (one_in 0 3) expiry_of_kind) expiry_form
unfolding expiry_bytes
like_expiry = record {
  to = λ p. p.1;
  from = λ e. (expiry_kind e, e);
  there = λ p is. is.1.1;
  back = λ e is. (expiry_bounds e, (refl, is));
  again = λ p is. ap (λ (n : ℕ). (n, p.1)) is.1.0;
  restored = λ e is. refl;
  same = λ e is. refl;
}

pub sole_expiry : Sole expiry_form
sole_expiry = sole_like (both (one_in 0 3) expiry_of_kind) expiry_form like_expiry (sole_both (one_in 0 3) expiry_of_kind (sole_one 0 3) sole_expiry_kind)

pub has_expiry : Has expiry_form
has_expiry = record { value = expiries.Unset; is = tt }

-- ---- the fields of changes

pub sole_any_host : Sole (any_of IsHost)
sole_any_host = sole_any IsHost (λ text is. (word_bounds alphabets.Plain 63 text is).0) sole_host

pub sole_any_name : Sole (any_of IsName)
sole_any_name = sole_any IsName (λ text is. (word_bounds alphabets.Plain 31 text is).0) sole_name

abbrev pub entry_2 : Format (Option (List ℕ) × List ℕ)
entry_2 = pair (any_of IsName) (text2_of IsPatternBytes)

abbrev pub entry_1 : Format (Option (List ℕ) × (Option (List ℕ) × List ℕ))
entry_1 = pair (any_of IsHost) entry_2

abbrev pub entry : Format (List ℕ × (Option (List ℕ) × (Option (List ℕ) × List ℕ)))
entry = pair (text1_of IsSetName) entry_1

pub sole_entry : Sole entry
sole_entry = sole_pair (text1_of IsSetName) entry_1 sole_set (sole_pair (any_of IsHost) entry_2 sole_any_host (sole_pair (any_of IsName) (text2_of IsPatternBytes) sole_any_name sole_pattern))

pub has_entry_2 : Has entry_2
has_entry_2 = has_pair (any_of IsName) (text2_of IsPatternBytes) (has_any IsName) has_pattern

pub has_entry_1 : Has entry_1
has_entry_1 = has_pair (any_of IsHost) entry_2 (has_any IsHost) has_entry_2

abbrev pub numbered : Format (List ℕ × ℕ)
numbered = pair (text1_of IsSetName) any_four

abbrev pub expiring : Format (List ℕ × Expiry)
expiring = pair (text2_of IsLevelPath) expiry_form

abbrev pub hosting : Format (List ℕ × ℕ)
hosting = pair (text1_of IsHost) any_two

pub no_dump : DumpRecordFields
no_dump = record { id = 0; initial = 0; parent = 0; expires = 0; set = []; level = []; base = []; tapes = []; volumes = []; cell = [] }

-- AddSet
pub from_1 : Change → List ℕ
from_1 (changes.AddSet set) = set
from_1 other = []

abbrev pub to_1 : List ℕ → Change
to_1 p = changes.AddSet p

pub back_1 : (c : Change) → (kind_of c ≡ 1) × IsChange c → (text1_of IsSetName).Is (from_1 c)
unfolding from_1 kind_of
back_1 (changes.AddSet set) h = h.1
back_1 other h = absurd (omega (arith, h.0))

pub restored_1 : (c : Change) → (kind_of c ≡ 1) × IsChange c → to_1 (from_1 c) ≡ c
unfolding from_1 to_1 kind_of
restored_1 (changes.AddSet set) h = refl
restored_1 other h = absurd (omega (arith, h.0))

pub same_1 : (c : Change) → (kind_of c ≡ 1) × IsChange c → fields_of c ≡ (text1_of IsSetName).spelled (from_1 c)
unfolding from_1 kind_of fields_of
same_1 (changes.AddSet set) h = refl
same_1 other h = absurd (omega (arith, h.0))

unfoldable pub like_1 : Like (text1_of IsSetName) (of_kind 1)
unfolding from_1 to_1 kind_of
like_1 = record { to = to_1; from = from_1; there = λ p is. (refl, is); back = back_1; again = λ p is. refl; restored = restored_1; same = same_1 }

-- DelSet
pub from_2 : Change → List ℕ
from_2 (changes.DelSet set) = set
from_2 other = []

abbrev pub to_2 : List ℕ → Change
to_2 p = changes.DelSet p

pub back_2 : (c : Change) → (kind_of c ≡ 2) × IsChange c → (text1_of IsSetName).Is (from_2 c)
unfolding from_2 kind_of
back_2 (changes.DelSet set) h = h.1
back_2 other h = absurd (omega (arith, h.0))

pub restored_2 : (c : Change) → (kind_of c ≡ 2) × IsChange c → to_2 (from_2 c) ≡ c
unfolding from_2 to_2 kind_of
restored_2 (changes.DelSet set) h = refl
restored_2 other h = absurd (omega (arith, h.0))

pub same_2 : (c : Change) → (kind_of c ≡ 2) × IsChange c → fields_of c ≡ (text1_of IsSetName).spelled (from_2 c)
unfolding from_2 kind_of fields_of
same_2 (changes.DelSet set) h = refl
same_2 other h = absurd (omega (arith, h.0))

unfoldable pub like_2 : Like (text1_of IsSetName) (of_kind 2)
unfolding from_2 to_2 kind_of
like_2 = record { to = to_2; from = from_2; there = λ p is. (refl, is); back = back_2; again = λ p is. refl; restored = restored_2; same = same_2 }

-- AddEntry
pub from_3 : Change → List ℕ × (Option (List ℕ) × (Option (List ℕ) × List ℕ))
from_3 (changes.AddEntry set server partition pattern) = (set, (server, (partition, pattern)))
from_3 other = ([], (None, (None, [])))

abbrev pub to_3 : List ℕ × (Option (List ℕ) × (Option (List ℕ) × List ℕ)) → Change
to_3 p = changes.AddEntry p.0 p.1.0 p.1.1.0 p.1.1.1

pub back_3 : (c : Change) → (kind_of c ≡ 3) × IsChange c → entry.Is (from_3 c)
unfolding from_3 kind_of
back_3 (changes.AddEntry set server partition pattern) h = (h.1.0, (h.1.1, (h.1.2, h.1.3)))
back_3 other h = absurd (omega (arith, h.0))

pub restored_3 : (c : Change) → (kind_of c ≡ 3) × IsChange c → to_3 (from_3 c) ≡ c
unfolding from_3 to_3 kind_of
restored_3 (changes.AddEntry set server partition pattern) h = refl
restored_3 other h = absurd (omega (arith, h.0))

pub same_3 : (c : Change) → (kind_of c ≡ 3) × IsChange c → fields_of c ≡ entry.spelled (from_3 c)
unfolding from_3 kind_of fields_of
same_3 (changes.AddEntry set server partition pattern) h = refl
same_3 other h = absurd (omega (arith, h.0))

unfoldable pub like_3 : Like entry (of_kind 3)
unfolding from_3 to_3 kind_of
like_3 = record { to = to_3; from = from_3; there = λ p is. (refl, (is.0, is.1.0, is.1.1.0, is.1.1.1)); back = back_3; again = λ p is. refl; restored = restored_3; same = same_3 }

-- DelEntry
pub from_4 : Change → List ℕ × ℕ
from_4 (changes.DelEntry set number) = (set, number)
from_4 other = ([], 0)

abbrev pub to_4 : List ℕ × ℕ → Change
to_4 p = changes.DelEntry p.0 p.1

pub back_4 : (c : Change) → (kind_of c ≡ 4) × IsChange c → numbered.Is (from_4 c)
unfolding from_4 kind_of
back_4 (changes.DelEntry set number) h = (h.1.0, h.1.1)
back_4 other h = absurd (omega (arith, h.0))

pub restored_4 : (c : Change) → (kind_of c ≡ 4) × IsChange c → to_4 (from_4 c) ≡ c
unfolding from_4 to_4 kind_of
restored_4 (changes.DelEntry set number) h = refl
restored_4 other h = absurd (omega (arith, h.0))

pub same_4 : (c : Change) → (kind_of c ≡ 4) × IsChange c → fields_of c ≡ numbered.spelled (from_4 c)
unfolding from_4 kind_of fields_of
same_4 (changes.DelEntry set number) h = refl
same_4 other h = absurd (omega (arith, h.0))

unfoldable pub like_4 : Like numbered (of_kind 4)
unfolding from_4 to_4 kind_of
like_4 = record { to = to_4; from = from_4; there = λ p is. (refl, (is.0, is.1)); back = back_4; again = λ p is. refl; restored = restored_4; same = same_4 }

-- AddLevel
pub from_5 : Change → List ℕ × Expiry
from_5 (changes.AddLevel level expiry) = (level, expiry)
from_5 other = ([], expiries.Unset)

abbrev pub to_5 : List ℕ × Expiry → Change
to_5 p = changes.AddLevel p.0 p.1

pub back_5 : (c : Change) → (kind_of c ≡ 5) × IsChange c → expiring.Is (from_5 c)
unfolding from_5 kind_of
back_5 (changes.AddLevel level expiry) h = (h.1.0, h.1.1)
back_5 other h = absurd (omega (arith, h.0))

pub restored_5 : (c : Change) → (kind_of c ≡ 5) × IsChange c → to_5 (from_5 c) ≡ c
unfolding from_5 to_5 kind_of
restored_5 (changes.AddLevel level expiry) h = refl
restored_5 other h = absurd (omega (arith, h.0))

pub same_5 : (c : Change) → (kind_of c ≡ 5) × IsChange c → fields_of c ≡ expiring.spelled (from_5 c)
unfolding from_5 kind_of fields_of
same_5 (changes.AddLevel level expiry) h = refl
same_5 other h = absurd (omega (arith, h.0))

unfoldable pub like_5 : Like expiring (of_kind 5)
unfolding from_5 to_5 kind_of
like_5 = record { to = to_5; from = from_5; there = λ p is. (refl, (is.0, is.1)); back = back_5; again = λ p is. refl; restored = restored_5; same = same_5 }

-- SetExpiry
pub from_6 : Change → List ℕ × Expiry
from_6 (changes.SetExpiry level expiry) = (level, expiry)
from_6 other = ([], expiries.Unset)

abbrev pub to_6 : List ℕ × Expiry → Change
to_6 p = changes.SetExpiry p.0 p.1

pub back_6 : (c : Change) → (kind_of c ≡ 6) × IsChange c → expiring.Is (from_6 c)
unfolding from_6 kind_of
back_6 (changes.SetExpiry level expiry) h = (h.1.0, h.1.1)
back_6 other h = absurd (omega (arith, h.0))

pub restored_6 : (c : Change) → (kind_of c ≡ 6) × IsChange c → to_6 (from_6 c) ≡ c
unfolding from_6 to_6 kind_of
restored_6 (changes.SetExpiry level expiry) h = refl
restored_6 other h = absurd (omega (arith, h.0))

pub same_6 : (c : Change) → (kind_of c ≡ 6) × IsChange c → fields_of c ≡ expiring.spelled (from_6 c)
unfolding from_6 kind_of fields_of
same_6 (changes.SetExpiry level expiry) h = refl
same_6 other h = absurd (omega (arith, h.0))

unfoldable pub like_6 : Like expiring (of_kind 6)
unfolding from_6 to_6 kind_of
like_6 = record { to = to_6; from = from_6; there = λ p is. (refl, (is.0, is.1)); back = back_6; again = λ p is. refl; restored = restored_6; same = same_6 }

-- DelLevel
pub from_7 : Change → List ℕ
from_7 (changes.DelLevel level) = level
from_7 other = []

abbrev pub to_7 : List ℕ → Change
to_7 p = changes.DelLevel p

pub back_7 : (c : Change) → (kind_of c ≡ 7) × IsChange c → (text2_of IsLevelPath).Is (from_7 c)
unfolding from_7 kind_of
back_7 (changes.DelLevel level) h = h.1
back_7 other h = absurd (omega (arith, h.0))

pub restored_7 : (c : Change) → (kind_of c ≡ 7) × IsChange c → to_7 (from_7 c) ≡ c
unfolding from_7 to_7 kind_of
restored_7 (changes.DelLevel level) h = refl
restored_7 other h = absurd (omega (arith, h.0))

pub same_7 : (c : Change) → (kind_of c ≡ 7) × IsChange c → fields_of c ≡ (text2_of IsLevelPath).spelled (from_7 c)
unfolding from_7 kind_of fields_of
same_7 (changes.DelLevel level) h = refl
same_7 other h = absurd (omega (arith, h.0))

unfoldable pub like_7 : Like (text2_of IsLevelPath) (of_kind 7)
unfolding from_7 to_7 kind_of
like_7 = record { to = to_7; from = from_7; there = λ p is. (refl, is); back = back_7; again = λ p is. refl; restored = restored_7; same = same_7 }

-- AddHost
pub from_8 : Change → List ℕ × ℕ
from_8 (changes.AddHost host port) = (host, port)
from_8 other = ([], 0)

abbrev pub to_8 : List ℕ × ℕ → Change
to_8 p = changes.AddHost p.0 p.1

pub back_8 : (c : Change) → (kind_of c ≡ 8) × IsChange c → hosting.Is (from_8 c)
unfolding from_8 kind_of
back_8 (changes.AddHost host port) h = (h.1.0, (omega arith, h.1.1))
back_8 other h = absurd (omega (arith, h.0))

pub restored_8 : (c : Change) → (kind_of c ≡ 8) × IsChange c → to_8 (from_8 c) ≡ c
unfolding from_8 to_8 kind_of
restored_8 (changes.AddHost host port) h = refl
restored_8 other h = absurd (omega (arith, h.0))

pub same_8 : (c : Change) → (kind_of c ≡ 8) × IsChange c → fields_of c ≡ hosting.spelled (from_8 c)
unfolding from_8 kind_of fields_of
same_8 (changes.AddHost host port) h = refl
same_8 other h = absurd (omega (arith, h.0))

unfoldable pub like_8 : Like hosting (of_kind 8)
unfolding from_8 to_8 kind_of
like_8 = record { to = to_8; from = from_8; there = λ p is. (refl, (is.0, is.1.1)); back = back_8; again = λ p is. refl; restored = restored_8; same = same_8 }

-- DelHost
pub from_9 : Change → ℕ
from_9 (changes.DelHost port) = port
from_9 other = 0

abbrev pub to_9 : ℕ → Change
to_9 p = changes.DelHost p

pub back_9 : (c : Change) → (kind_of c ≡ 9) × IsChange c → any_two.Is (from_9 c)
unfolding from_9 kind_of
back_9 (changes.DelHost port) h = (omega arith, h.1)
back_9 other h = absurd (omega (arith, h.0))

pub restored_9 : (c : Change) → (kind_of c ≡ 9) × IsChange c → to_9 (from_9 c) ≡ c
unfolding from_9 to_9 kind_of
restored_9 (changes.DelHost port) h = refl
restored_9 other h = absurd (omega (arith, h.0))

pub same_9 : (c : Change) → (kind_of c ≡ 9) × IsChange c → fields_of c ≡ any_two.spelled (from_9 c)
unfolding from_9 kind_of fields_of
same_9 (changes.DelHost port) h = refl
same_9 other h = absurd (omega (arith, h.0))

unfoldable pub like_9 : Like any_two (of_kind 9)
unfolding from_9 to_9 kind_of
like_9 = record { to = to_9; from = from_9; there = λ p is. (refl, is.1); back = back_9; again = λ p is. refl; restored = restored_9; same = same_9 }

-- Begin
pub from_10 : Change → ℕ
from_10 (changes.Begin id) = id
from_10 other = 0

abbrev pub to_10 : ℕ → Change
to_10 p = changes.Begin p

pub back_10 : (c : Change) → (kind_of c ≡ 10) × IsChange c → any_four.Is (from_10 c)
unfolding from_10 kind_of
back_10 (changes.Begin id) h = h.1
back_10 other h = absurd (omega (arith, h.0))

pub restored_10 : (c : Change) → (kind_of c ≡ 10) × IsChange c → to_10 (from_10 c) ≡ c
unfolding from_10 to_10 kind_of
restored_10 (changes.Begin id) h = refl
restored_10 other h = absurd (omega (arith, h.0))

pub same_10 : (c : Change) → (kind_of c ≡ 10) × IsChange c → fields_of c ≡ any_four.spelled (from_10 c)
unfolding from_10 kind_of fields_of
same_10 (changes.Begin id) h = refl
same_10 other h = absurd (omega (arith, h.0))

unfoldable pub like_10 : Like any_four (of_kind 10)
unfolding from_10 to_10 kind_of
like_10 = record { to = to_10; from = from_10; there = λ p is. (refl, is); back = back_10; again = λ p is. refl; restored = restored_10; same = same_10 }

-- Take
pub from_11 : Change → ℕ
from_11 (changes.Take initial) = initial
from_11 other = 0

abbrev pub to_11 : ℕ → Change
to_11 p = changes.Take p

pub back_11 : (c : Change) → (kind_of c ≡ 11) × IsChange c → any_four.Is (from_11 c)
unfolding from_11 kind_of
back_11 (changes.Take initial) h = h.1
back_11 other h = absurd (omega (arith, h.0))

pub restored_11 : (c : Change) → (kind_of c ≡ 11) × IsChange c → to_11 (from_11 c) ≡ c
unfolding from_11 to_11 kind_of
restored_11 (changes.Take initial) h = refl
restored_11 other h = absurd (omega (arith, h.0))

pub same_11 : (c : Change) → (kind_of c ≡ 11) × IsChange c → fields_of c ≡ any_four.spelled (from_11 c)
unfolding from_11 kind_of fields_of
same_11 (changes.Take initial) h = refl
same_11 other h = absurd (omega (arith, h.0))

unfoldable pub like_11 : Like any_four (of_kind 11)
unfolding from_11 to_11 kind_of
like_11 = record { to = to_11; from = from_11; there = λ p is. (refl, is); back = back_11; again = λ p is. refl; restored = restored_11; same = same_11 }

-- Done1
pub from_12 : Change → DumpRecordFields
from_12 (changes.Done1 dump) = dump
from_12 other = no_dump

abbrev pub to_12 : DumpRecordFields → Change
to_12 p = changes.Done1 p

pub back_12 : (c : Change) → (kind_of c ≡ 12) × IsChange c → (dump_form One).Is (from_12 c)
unfolding from_12 kind_of
back_12 (changes.Done1 dump) h = h.1
back_12 other h = absurd (omega (arith, h.0))

pub restored_12 : (c : Change) → (kind_of c ≡ 12) × IsChange c → to_12 (from_12 c) ≡ c
unfolding from_12 to_12 kind_of
restored_12 (changes.Done1 dump) h = refl
restored_12 other h = absurd (omega (arith, h.0))

pub same_12 : (c : Change) → (kind_of c ≡ 12) × IsChange c → fields_of c ≡ (dump_form One).spelled (from_12 c)
unfolding from_12 kind_of fields_of
same_12 (changes.Done1 dump) h = refl
same_12 other h = absurd (omega (arith, h.0))

unfoldable pub like_12 : Like (dump_form One) (of_kind 12)
unfolding from_12 to_12 kind_of
like_12 = record { to = to_12; from = from_12; there = λ p is. (refl, is); back = back_12; again = λ p is. refl; restored = restored_12; same = same_12 }

-- Forget
pub from_13 : Change → ℕ
from_13 (changes.Forget id) = id
from_13 other = 0

abbrev pub to_13 : ℕ → Change
to_13 p = changes.Forget p

pub back_13 : (c : Change) → (kind_of c ≡ 13) × IsChange c → any_four.Is (from_13 c)
unfolding from_13 kind_of
back_13 (changes.Forget id) h = h.1
back_13 other h = absurd (omega (arith, h.0))

pub restored_13 : (c : Change) → (kind_of c ≡ 13) × IsChange c → to_13 (from_13 c) ≡ c
unfolding from_13 to_13 kind_of
restored_13 (changes.Forget id) h = refl
restored_13 other h = absurd (omega (arith, h.0))

pub same_13 : (c : Change) → (kind_of c ≡ 13) × IsChange c → fields_of c ≡ any_four.spelled (from_13 c)
unfolding from_13 kind_of fields_of
same_13 (changes.Forget id) h = refl
same_13 other h = absurd (omega (arith, h.0))

unfoldable pub like_13 : Like any_four (of_kind 13)
unfolding from_13 to_13 kind_of
like_13 = record { to = to_13; from = from_13; there = λ p is. (refl, is); back = back_13; again = λ p is. refl; restored = restored_13; same = same_13 }

-- Found1
pub from_14 : Change → DumpRecordFields
from_14 (changes.Found1 dump) = dump
from_14 other = no_dump

abbrev pub to_14 : DumpRecordFields → Change
to_14 p = changes.Found1 p

pub back_14 : (c : Change) → (kind_of c ≡ 14) × IsChange c → (dump_form One).Is (from_14 c)
unfolding from_14 kind_of
back_14 (changes.Found1 dump) h = h.1
back_14 other h = absurd (omega (arith, h.0))

pub restored_14 : (c : Change) → (kind_of c ≡ 14) × IsChange c → to_14 (from_14 c) ≡ c
unfolding from_14 to_14 kind_of
restored_14 (changes.Found1 dump) h = refl
restored_14 other h = absurd (omega (arith, h.0))

pub same_14 : (c : Change) → (kind_of c ≡ 14) × IsChange c → fields_of c ≡ (dump_form One).spelled (from_14 c)
unfolding from_14 kind_of fields_of
same_14 (changes.Found1 dump) h = refl
same_14 other h = absurd (omega (arith, h.0))

unfoldable pub like_14 : Like (dump_form One) (of_kind 14)
unfolding from_14 to_14 kind_of
like_14 = record { to = to_14; from = from_14; there = λ p is. (refl, is); back = back_14; again = λ p is. refl; restored = restored_14; same = same_14 }

-- Done
pub from_15 : Change → DumpRecordFields
from_15 (changes.Done dump) = dump
from_15 other = no_dump

abbrev pub to_15 : DumpRecordFields → Change
to_15 p = changes.Done p

pub back_15 : (c : Change) → (kind_of c ≡ 15) × IsChange c → (dump_form Two).Is (from_15 c)
unfolding from_15 kind_of
back_15 (changes.Done dump) h = (h.1, tt)
back_15 other h = absurd (omega (arith, h.0))

pub restored_15 : (c : Change) → (kind_of c ≡ 15) × IsChange c → to_15 (from_15 c) ≡ c
unfolding from_15 to_15 kind_of
restored_15 (changes.Done dump) h = refl
restored_15 other h = absurd (omega (arith, h.0))

pub same_15 : (c : Change) → (kind_of c ≡ 15) × IsChange c → fields_of c ≡ (dump_form Two).spelled (from_15 c)
unfolding from_15 kind_of fields_of
same_15 (changes.Done dump) h = refl
same_15 other h = absurd (omega (arith, h.0))

unfoldable pub like_15 : Like (dump_form Two) (of_kind 15)
unfolding from_15 to_15 kind_of
like_15 = record { to = to_15; from = from_15; there = λ p is. (refl, is.0); back = back_15; again = λ p is. refl; restored = restored_15; same = same_15 }

-- Found
pub from_16 : Change → DumpRecordFields
from_16 (changes.Found dump) = dump
from_16 other = no_dump

abbrev pub to_16 : DumpRecordFields → Change
to_16 p = changes.Found p

pub back_16 : (c : Change) → (kind_of c ≡ 16) × IsChange c → (dump_form Two).Is (from_16 c)
unfolding from_16 kind_of
back_16 (changes.Found dump) h = (h.1, tt)
back_16 other h = absurd (omega (arith, h.0))

pub restored_16 : (c : Change) → (kind_of c ≡ 16) × IsChange c → to_16 (from_16 c) ≡ c
unfolding from_16 to_16 kind_of
restored_16 (changes.Found dump) h = refl
restored_16 other h = absurd (omega (arith, h.0))

pub same_16 : (c : Change) → (kind_of c ≡ 16) × IsChange c → fields_of c ≡ (dump_form Two).spelled (from_16 c)
unfolding from_16 kind_of fields_of
same_16 (changes.Found dump) h = refl
same_16 other h = absurd (omega (arith, h.0))

unfoldable pub like_16 : Like (dump_form Two) (of_kind 16)
unfolding from_16 to_16 kind_of
like_16 = record { to = to_16; from = from_16; there = λ p is. (refl, is.0); back = back_16; again = λ p is. refl; restored = restored_16; same = same_16 }

-- ---- changes

pub sole_kind : (c : Change) → Sole (of_kind (kind_of c))
unfolding kind_of
sole_kind (changes.AddSet set) = sole_like (text1_of IsSetName) (of_kind 1) like_1 sole_set
sole_kind (changes.DelSet set) = sole_like (text1_of IsSetName) (of_kind 2) like_2 sole_set
sole_kind (changes.AddEntry set server partition pattern) = sole_like entry (of_kind 3) like_3 sole_entry
sole_kind (changes.DelEntry set number) = sole_like numbered (of_kind 4) like_4 (sole_pair (text1_of IsSetName) any_four sole_set sole_four)
sole_kind (changes.AddLevel level expiry) = sole_like expiring (of_kind 5) like_5 (sole_pair (text2_of IsLevelPath) expiry_form sole_level sole_expiry)
sole_kind (changes.SetExpiry level expiry) = sole_like expiring (of_kind 6) like_6 (sole_pair (text2_of IsLevelPath) expiry_form sole_level sole_expiry)
sole_kind (changes.DelLevel level) = sole_like (text2_of IsLevelPath) (of_kind 7) like_7 sole_level
sole_kind (changes.AddHost host port) = sole_like hosting (of_kind 8) like_8 (sole_pair (text1_of IsHost) any_two sole_host sole_any_two)
sole_kind (changes.DelHost port) = sole_like any_two (of_kind 9) like_9 sole_any_two
sole_kind (changes.Begin id) = sole_like any_four (of_kind 10) like_10 sole_four
sole_kind (changes.Take initial) = sole_like any_four (of_kind 11) like_11 sole_four
sole_kind (changes.Done1 dump) = sole_like (dump_form One) (of_kind 12) like_12 (sole_dump One)
sole_kind (changes.Forget id) = sole_like any_four (of_kind 13) like_13 sole_four
sole_kind (changes.Found1 dump) = sole_like (dump_form One) (of_kind 14) like_14 (sole_dump One)
sole_kind (changes.Done dump) = sole_like (dump_form Two) (of_kind 15) like_15 (sole_dump Two)
sole_kind (changes.Found dump) = sole_like (dump_form Two) (of_kind 16) like_16 (sole_dump Two)

pub has_kind : (k : ℕ) → (1 ≤ k) × (k ≤ 16) → Has (of_kind k)
has_kind zero is = absurd (omega (arith, is.0))
has_kind (suc zero) is = has_like (text1_of IsSetName) (of_kind 1) like_1 has_set
has_kind (suc (suc zero)) is = has_like (text1_of IsSetName) (of_kind 2) like_2 has_set
has_kind (suc (suc (suc zero))) is = has_like entry (of_kind 3) like_3 (has_pair (text1_of IsSetName) entry_1 has_set has_entry_1)
has_kind (suc (suc (suc (suc zero)))) is = has_like numbered (of_kind 4) like_4 (has_pair (text1_of IsSetName) any_four has_set has_four)
has_kind (suc (suc (suc (suc (suc zero))))) is = has_like expiring (of_kind 5) like_5 (has_pair (text2_of IsLevelPath) expiry_form has_level has_expiry)
has_kind (suc (suc (suc (suc (suc (suc zero)))))) is = has_like expiring (of_kind 6) like_6 (has_pair (text2_of IsLevelPath) expiry_form has_level has_expiry)
has_kind (suc (suc (suc (suc (suc (suc (suc zero))))))) is = has_like (text2_of IsLevelPath) (of_kind 7) like_7 has_level
has_kind (suc (suc (suc (suc (suc (suc (suc (suc zero)))))))) is = has_like hosting (of_kind 8) like_8 (has_pair (text1_of IsHost) any_two has_host has_any_two)
has_kind (suc (suc (suc (suc (suc (suc (suc (suc (suc zero))))))))) is = has_like any_two (of_kind 9) like_9 has_any_two
has_kind (suc (suc (suc (suc (suc (suc (suc (suc (suc (suc zero)))))))))) is = has_like any_four (of_kind 10) like_10 has_four
has_kind (suc (suc (suc (suc (suc (suc (suc (suc (suc (suc (suc zero))))))))))) is = has_like any_four (of_kind 11) like_11 has_four
has_kind (suc (suc (suc (suc (suc (suc (suc (suc (suc (suc (suc (suc zero)))))))))))) is = has_like (dump_form One) (of_kind 12) like_12 (has_dump One)
has_kind (suc (suc (suc (suc (suc (suc (suc (suc (suc (suc (suc (suc (suc zero))))))))))))) is = has_like any_four (of_kind 13) like_13 has_four
has_kind (suc (suc (suc (suc (suc (suc (suc (suc (suc (suc (suc (suc (suc (suc zero)))))))))))))) is = has_like (dump_form One) (of_kind 14) like_14 (has_dump One)
has_kind (suc (suc (suc (suc (suc (suc (suc (suc (suc (suc (suc (suc (suc (suc (suc zero))))))))))))))) is = has_like (dump_form Two) (of_kind 15) like_15 (has_dump Two)
has_kind (suc (suc (suc (suc (suc (suc (suc (suc (suc (suc (suc (suc (suc (suc (suc (suc zero)))))))))))))))) is = has_like (dump_form Two) (of_kind 16) like_16 (has_dump Two)
has_kind (suc (suc (suc (suc (suc (suc (suc (suc (suc (suc (suc (suc (suc (suc (suc (suc (suc k))))))))))))))))) is = absurd (omega (arith, is.1))

pub kind_bounds : (c : Change) → (1 ≤ kind_of c) × (kind_of c ≤ 16)
unfolding kind_of
kind_bounds (changes.AddSet set) = (lit≤ tt, lit≤ tt)
kind_bounds (changes.DelSet set) = (lit≤ tt, lit≤ tt)
kind_bounds (changes.AddEntry set server partition pattern) = (lit≤ tt, lit≤ tt)
kind_bounds (changes.DelEntry set number) = (lit≤ tt, lit≤ tt)
kind_bounds (changes.AddLevel level expiry) = (lit≤ tt, lit≤ tt)
kind_bounds (changes.SetExpiry level expiry) = (lit≤ tt, lit≤ tt)
kind_bounds (changes.DelLevel level) = (lit≤ tt, lit≤ tt)
kind_bounds (changes.AddHost host port) = (lit≤ tt, lit≤ tt)
kind_bounds (changes.DelHost port) = (lit≤ tt, lit≤ tt)
kind_bounds (changes.Begin id) = (lit≤ tt, lit≤ tt)
kind_bounds (changes.Take initial) = (lit≤ tt, lit≤ tt)
kind_bounds (changes.Done1 dump) = (lit≤ tt, lit≤ tt)
kind_bounds (changes.Forget id) = (lit≤ tt, lit≤ tt)
kind_bounds (changes.Found1 dump) = (lit≤ tt, lit≤ tt)
kind_bounds (changes.Done dump) = (lit≤ tt, lit≤ tt)
kind_bounds (changes.Found dump) = (lit≤ tt, lit≤ tt)

unfoldable pub like_change : Like (both (one_in 1 16) of_kind) change_form
unfolding encoded_change
like_change = record {
  to = λ p. p.1;
  from = λ c. (kind_of c, c);
  there = λ p is. is.1.1;
  back = λ c is. (kind_bounds c, (refl, is));
  again = λ p is. ap (λ (n : ℕ). (n, p.1)) is.1.0;
  restored = λ c is. refl;
  same = λ c is. refl;
}

pub sole_change : Sole change_form
unfolding encoded_change
sole_change = record { same = go }
  where
    go : (c d : Change) (r s : List ℕ) → IsChange c → IsChange d → encoded_change c ++ r ≡ encoded_change d ++ s → (c ≡ d) × (r ≡ s)
    go c d r s isc isd e =
        let e2 : kind_of c ∷ (fields_of c ++ r) ≡ kind_of d ∷ (fields_of d ++ s) = e in
        let kinds : kind_of c ≡ kind_of d = cc in
        let tails : fields_of c ++ r ≡ fields_of d ++ s = cc in
        (sole_kind c).same c d r s (refl, isc) (sym kinds, isd) tails
