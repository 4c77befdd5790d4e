-- Wherever reading stands between two fields, some bytes end a stream.
use Rattle.std.proofs.Common.{◌≡◌, ℕ, ◌+◌, ◌-◌, ◌<◌, ◌%◌, Bool, true, false, eqb, List, [], ◌∷◌, ◌++◌, length, refl, arith, inl, inr, lit<}
use Rattle.std.proofs.lemmas.Bool.{cases_Bool, eq-eqb}
use Rattle.std.proofs.lemmas.List.Elements.{All-from_recursion, All-cons, All-append}
use Rattle.dump_stream.specs.declared.form.Form.TheVariants as forms
use Rattle.dump_stream.specs.declared.sofar.Field.{Field}
use Rattle.dump_stream.specs.declared.sofar.Sofar.{Sofar}
use Rattle.dump_stream.specs.declared.sofar.Sofar.TheVariants.{Start, Dump, Volume, Vnode, Ended}
use Rattle.dump_stream.specs.declared.sofar.DumpHead.{DumpHead}
use Rattle.vnode_model.specs.declared.increments.Increment.{Increment}
use Rattle.bk_text.specs.Alphabets.{IsNameByte}
use Rattle.vnode_model.specs.Limits.{all_data}
use Rattle.dump_stream.specs.Forms.{IsBytes, IsWhole, opening, closing}
use Rattle.dump_stream.specs.Fields.{has, body_of}
use Rattle.dump_stream.specs.Stream.{dump_table, header_table, vnode_table, dump_of, is_typed, entry_of}
use Rattle.dump_stream.specs.Machine.{Fields, with_field, with_entry, begun, AfterVnode, AfterHeader, AfterDump, Rest}
use Rattle.dump_stream.proofs.Laws.{Fields_behind, Fields_from}
use Rattle.dump_stream.proofs.Tags.{Sections_end}

-- some bytes end a stream from here
abbrev pub Completes : Sofar → Type 0
Completes s = (bs : List ℕ) × (i : Increment) × IsBytes bs × Rest s bs i

-- the name 'a'
a_name : List ℕ
a_name = 97 ∷ 0 ∷ []

name_whole : IsWhole forms.Name a_name
unfolding a_name
name_whole = (
  All-from_recursion (λ b. b < 256) a_name (lit< tt, (lit< tt, tt)),
  (97 ∷ [], refl, record { some = lit< tt; short = omega arith; first = λ e. cc; each = All-from_recursion IsNameByte (97 ∷ []) ((lit< tt, lit< tt, λ e. cc), tt) }),
)

-- a directory's type, or a file's
kind_byte : Bool → ℕ
kind_byte true = 2
kind_byte false = 1

kind_whole : (directory : Bool) → IsWhole (forms.Kind directory) (kind_byte directory ∷ [])
unfolding kind_byte
kind_whole true = (All-from_recursion (λ b. b < 256) (2 ∷ []) (lit< tt, tt), (2, refl, refl))
kind_whole false = (All-from_recursion (λ b. b < 256) (1 ∷ []) (lit< tt, tt), (1, refl, inl refl))

-- a field that was added is there
has_added : (tag : ℕ) (p : List ℕ) (fs : List Field) → has tag (with_field fs tag p) ≡ true
has_added tag p [] = let e : eqb tag tag ≡ true = eq-eqb tag tag refl in rw e refl
has_added tag p (f ∷ fs) = elim (cases_Bool (eqb f.tag tag)) [
  | inl e ↦ rw e refl
  | inr e ↦ rw e (has_added tag p fs)
]

-- from the end of the header's fields
header_named : (dump : DumpHead) (fs : List Field) → has 110 fs ≡ true → Fields header_table fs (AfterHeader dump (begun dump fs)) (4 ∷ closing)
header_named dump fs named = Fields_behind header_table fs (AfterHeader dump (begun dump fs)) (4 ∷ closing) (named, Sections_end 0 all_data 0 (begun dump fs))

ending : IsBytes (4 ∷ closing)
ending = All-from_recursion (λ b. b < 256) (4 ∷ closing) (lit< tt, (lit< tt, (lit< tt, (lit< tt, (lit< tt, tt)))))

named_ending : IsBytes (110 ∷ 97 ∷ 0 ∷ 4 ∷ closing)
named_ending = All-from_recursion (λ b. b < 256) (110 ∷ 97 ∷ 0 ∷ 4 ∷ closing) (lit< tt, (lit< tt, (lit< tt, (lit< tt, (lit< tt, (lit< tt, (lit< tt, (lit< tt, tt))))))))

header_completes : (dump : DumpHead) (fs : List Field) → (bs : List ℕ) × (i : Increment) × IsBytes bs × Fields header_table fs (AfterHeader dump i) bs
unfolding a_name
header_completes dump fs = elim (cases_Bool (has 110 fs)) [
  | inl named ↦ (4 ∷ closing, begun dump fs, ending, header_named dump fs named)
  | inr unnamed ↦
      let fs1 = with_field fs 110 a_name in (
        110 ∷ 97 ∷ 0 ∷ 4 ∷ closing,
        begun dump fs1,
        named_ending,
        Fields_from header_table fs (AfterHeader dump (begun dump fs1)) 110 (97 ∷ 0 ∷ 4 ∷ closing)
            (forms.Name, refl, unnamed, (a_name, 4 ∷ closing, refl, name_whole, header_named dump fs1 (has_added 110 a_name fs))),
      )
]

byte_then : (b : ℕ) (bs : List ℕ) → b < 256 → IsBytes bs → IsBytes (b ∷ bs)
byte_then b bs lt h = All-cons (λ (x : ℕ). x < 256) b bs lt h

dump_completes : (fs : List Field) → (bs : List ℕ) × (i : Increment) × IsBytes bs × Fields dump_table fs (AfterDump i) bs
unfolding a_name
dump_completes fs = elim (cases_Bool (has 110 fs)) [
  | inl named ↦
      let h = header_completes (dump_of fs) [] in
      (2 ∷ h.0, h.1, byte_then 2 h.0 (lit< tt) h.2, Fields_behind dump_table fs (AfterDump h.1) (2 ∷ h.0) (named, h.0, refl, h.3))
  | inr unnamed ↦
      let fs1 = with_field fs 110 a_name in
      let h = header_completes (dump_of fs1) [] in
      let bytes = byte_then 110 (97 ∷ 0 ∷ 2 ∷ h.0) (lit< tt) (byte_then 97 (0 ∷ 2 ∷ h.0) (lit< tt) (byte_then 0 (2 ∷ h.0) (lit< tt) (byte_then 2 h.0 (lit< tt) h.2))) in (
        110 ∷ 97 ∷ 0 ∷ 2 ∷ h.0,
        h.1,
        bytes,
        Fields_from dump_table fs (AfterDump h.1) 110 (97 ∷ 0 ∷ 2 ∷ h.0) (
          forms.Name,
          refl,
          unnamed,
          (
            a_name,
            2 ∷ h.0,
            refl,
            name_whole,
            Fields_behind dump_table fs1 (AfterDump h.1) (2 ∷ h.0) (has_added 110 a_name fs, h.0, refl, h.3),
          ),
        ),
      )
]

-- a vnode's fields with a type added
typed_added : (p : List ℕ) (fs : List Field) → is_typed (with_field fs 116 p) ≡ true
typed_added p [] = refl
typed_added p (f ∷ fs) = has_added 116 p (f ∷ fs)

untyped_has_none : (fs : List Field) → is_typed fs ≡ false → has 116 fs ≡ false
untyped_has_none [] e = absurd cc
untyped_has_none (f ∷ fs) e = e

kind_below : (directory : Bool) → kind_byte directory < 256
unfolding kind_byte
kind_below true = lit< tt
kind_below false = lit< tt

vnode_completes : (made : Increment) (room n uniq : ℕ) (fs : List Field) → Completes (Vnode made room n uniq fs)
vnode_completes made room n uniq fs = elim (cases_Bool (is_typed fs)) [
  | inl typed ↦
      let i = with_entry made (entry_of n uniq fs) in
      (4 ∷ closing, i, ending, Fields_behind (vnode_table n room) fs (AfterVnode made room n uniq i) (4 ∷ closing) (typed, Sections_end (length made.entries + 1) (room - length (body_of fs)) n i))
  | inr untyped ↦
      let directory = eqb (n % 2) 1 in
      let p : List ℕ = kind_byte directory ∷ [] in
      let fs1 = with_field fs 116 p in
      let i = with_entry made (entry_of n uniq fs1) in (
        116 ∷ kind_byte directory ∷ 4 ∷ closing,
        i,
        byte_then 116 (kind_byte directory ∷ 4 ∷ closing) (lit< tt) (byte_then (kind_byte directory) (4 ∷ closing) (kind_below directory) ending),
        Fields_from (vnode_table n room) fs (AfterVnode made room n uniq i) 116 (kind_byte directory ∷ 4 ∷ closing) (
          forms.Kind directory,
          refl,
          untyped_has_none fs untyped,
          (
            p,
            4 ∷ closing,
            refl,
            kind_whole directory,
            Fields_behind (vnode_table n room) fs1 (AfterVnode made room n uniq i) (4 ∷ closing) (typed_added p fs, Sections_end (length made.entries + 1) (room - length (body_of fs1)) n i),
          ),
        ),
      )
]

start_completes : Completes Start
start_completes =
    let h = dump_completes [] in (
      1 ∷ opening ++ h.0,
      h.1,
      All-append (λ (x : ℕ). x < 256) (1 ∷ opening) h.0 (All-from_recursion (λ b. b < 256) (1 ∷ opening) (lit< tt, (lit< tt, (lit< tt, (lit< tt, (lit< tt, (lit< tt, (lit< tt, (lit< tt, (lit< tt, tt)))))))))) h.2,
      (h.0, refl, h.3),
    )

pub completes : (s : Sofar) → Completes s
completes Start = start_completes
completes (Dump fs) = dump_completes fs
completes (Volume dump fs) = let h = header_completes dump fs in (h.0, h.1, h.2, h.3)
completes (Vnode made room n uniq fs) = vnode_completes made room n uniq fs
completes (Ended made) = ([], made, All-from_recursion (λ b. b < 256) [] tt, (refl, refl))
