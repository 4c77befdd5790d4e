-- A machine and the bytes that it has read.
use Rattle.std.proofs.Common.{◌≡◌, ℕ, zero, suc, ◌+◌, ◌-◌, ◌<◌, ◌≤◌, true, List, [], ◌∷◌, ◌++◌, length, get_or, take, drop, Option, Some, None, Result, Ok, Err, refl, sym, ap, subst, ◌∙◌, append_assoc, arith, inl, inr, length-append, length-drop, length-take}
use Rattle.std.proofs.lemmas.List.{append-nil, take_all, take-append-drop, take-take, nil_from_length, take_more, drop_more}
use Rattle.std.proofs.Math.Seq.{take-add}
use Rattle.std.specs.List.{flat_map}
use Rattle.std.proofs.lemmas.Bool.{cases_lt, cases_order}
use Rattle.dump_stream.specs.declared.form.Form.{Form}
use Rattle.dump_stream.specs.declared.sofar.Sofar.{Sofar}
use Rattle.dump_stream.specs.declared.sofar.Sofar.TheVariants.{Start, Ended}
use Rattle.dump_stream.specs.declared.machine.Machine.{Machine}
use Rattle.dump_stream.specs.declared.machine.Ran.TheVariants as ran
use Rattle.dump_stream.specs.declared.answers.StreamFault.{StreamFault}
use Rattle.dump_stream.specs.declared.answers.StreamFault.TheVariants.{Cut, Bad, Memory}
use Rattle.vnode_model.specs.declared.increments.Increment.{Increment}
use Rattle.dump_stream.specs.Forms.{IsWhole, opening, closing}
use Rattle.dump_stream.specs.Fields.{spelled}
use Rattle.dump_stream.specs.Stream.{section, Spells}
use Rattle.dump_stream.specs.Machine.{Payload, after, form_at, Rest}
use Rattle.dump_stream.specs.Steps.{RestAt, Ends, GoesOnAt, Moves, IsDead, Steps, EndsWith, HasEnded}
use Rattle.dump_stream.specs.Reads.{Begins, IsCut, IsBad, Answers, Agree, HasRead, IsAt, Runs}
use Rattle.dump_stream.proofs.FormLaws.{front_part, prefix_free}
use Rattle.dump_stream.proofs.Tags.{Rest_tag, Rest_nil}
use Rattle.dump_stream.proofs.Completes.{completes}

-- ---- the definition, and the rest from the start

regroup : (d h v : List ℕ) → 1 ∷ opening ++ d ++ 2 ∷ h ++ v ++ 4 ∷ closing ≡ 1 ∷ opening ++ (d ++ 2 ∷ (h ++ (v ++ 4 ∷ closing)))
regroup d h v = simp append_assoc

pub Spells_rest : (bytes : List ℕ) (i : Increment) → Spells bytes i → Rest Start bytes i
Spells_rest bytes i h =
    let vnodes : List ℕ = flat_map section h.vnodes ++ 4 ∷ closing in
    let header : List ℕ = flat_map spelled h.header ++ vnodes in
    let dump : List ℕ = flat_map spelled h.dump ++ 2 ∷ header in (
      dump,
      h.bytes_are ∙ regroup (flat_map spelled h.dump) (flat_map spelled h.header) (flat_map section h.vnodes),
      (
        h.dump,
        2 ∷ header,
        h.dump_listed,
        refl,
        (
          h.dump_named,
          header,
          refl,
          (
            h.header,
            vnodes,
            h.header_listed,
            refl,
            (h.header_named, (h.vnodes, h.vnodes_listed, refl, h.says)),
          ),
        ),
      ),
    )

pub Rest_spells : (bytes : List ℕ) (i : Increment) → Rest Start bytes i → Spells bytes i
Rest_spells bytes i h =
    let d = h.2 in
    let k = d.4.3 in
    let ss = k.4.1 in
    record {
      dump = d.0;
      header = k.0;
      vnodes = ss.0;
      bytes_are = cc (h.1, d.3, d.4.2, k.3, ss.2, regroup (flat_map spelled d.0) (flat_map spelled k.0) (flat_map section ss.0));
      dump_listed = d.2;
      dump_named = d.4.0;
      header_listed = k.2;
      header_named = k.4.0;
      vnodes_listed = ss.1;
      says = ss.3;
    }

-- ---- no stream begins another

one_form : (o : Option Form) (f g : Form) → o ≡ Some f → o ≡ Some g → g ≡ f
one_form o f g d e = cc

same_front : (form : Form) (q1 r1 q2 r2 : List ℕ) → q1 ++ r1 ≡ q2 ++ r2 → IsWhole form q1 → IsWhole form q2 → (q2 ≡ q1) × (r1 ≡ r2)
same_front form q1 r1 q2 r2 e whole1 whole2 = elim (cases_lt (length q2) (length q1)) [
  | inl lt ↦
      let h = front_part q2 r2 q1 r1 (sym e) (omega arith) in
      let none : h.0 ≡ [] = prefix_free form q2 h.0 whole2 (subst (IsWhole form) h.1 whole1) in
      (sym (h.1 ∙ ap (λ (x : List ℕ). q2 ++ x) none ∙ append-nil q2), sym (h.2 ∙ ap (λ (x : List ℕ). x ++ r1) none))
  | inr le ↦
      let h = front_part q1 r1 q2 r2 e le in
      let none : h.0 ≡ [] = prefix_free form q1 h.0 whole1 (subst (IsWhole form) h.1 whole2) in
      (h.1 ∙ ap (λ (x : List ℕ). q1 ++ x) none ∙ append-nil q1, h.2 ∙ ap (λ (x : List ℕ). x ++ r2) none)
]

-- bytes that end a stream don't begin other bytes that do
one_end : (fuel : ℕ) (s : Sofar) (bs more : List ℕ) (i j : Increment) → length bs < fuel → Rest s bs i → Rest s (bs ++ more) j → (more ≡ []) × (j ≡ i)
one_end zero s bs more i j lt h k = absurd (omega arith)
one_end (suc fuel) s [] more i j lt h k =
    let at : s ≡ Ended i = Rest_nil s i h in
    let k1 : Rest (Ended i) more j = subst (λ (x : Sofar). Rest x more j) at k in
    k1
one_end (suc fuel) s (t ∷ bs) more i j lt h k =
    let a = Rest_tag s t bs i h in
    let b = Rest_tag s t (bs ++ more) j k in
    let form_is : b.0 ≡ a.0 = one_form (form_at s t) a.0 b.0 a.1 b.1 in
    let p = a.2 in
    let q : Payload a.0 [] (λ x r. Rest (after s t x) r j) (bs ++ more) = subst (λ (f : Form). Payload f [] (λ x r. Rest (after s t x) r j) (bs ++ more)) form_is b.2 in
    let cut : p.0 ++ (p.1 ++ more) ≡ q.0 ++ q.1 = sym (append_assoc p.0 p.1 more) ∙ ap (λ (x : List ℕ). x ++ more) (sym p.2) ∙ q.2 in
    let same = same_front a.0 p.0 (p.1 ++ more) q.0 q.1 cut p.3 q.3 in
    let k1 : Rest (after s t p.0) (p.1 ++ more) j = subst (λ (x : List ℕ). Rest (after s t p.0) x j) (sym same.1) (subst (λ (x : List ℕ). Rest (after s t x) q.1 j) same.0 q.4) in
    one_end fuel (after s t p.0) p.1 more i j (omega (arith, ap length p.2, length-append p.0 p.1)) p.4 k1

pub one_stream : (bytes more : List ℕ) (i j : Increment) → Spells bytes i → Spells (bytes ++ more) j → (more ≡ []) × (j ≡ i)
one_stream bytes more i j h k = one_end (suc (length bytes)) Start bytes more i j (omega arith) (Spells_rest bytes i h) (Spells_rest (bytes ++ more) j k)

-- ---- a machine

pub read_none : (m : Machine) → m ≡ record { sofar = Start; tag = 0; form = None; payload = [] } → HasRead [] m
read_none m e = subst (λ (x : Machine). HasRead [] x) (sym e) (tt, λ more i. (λ h. Spells_rest more i h, λ h. Rest_spells more i h))

pub read_more : (bytes : List ℕ) (byte : ℕ) (m new : Machine) → HasRead bytes m → Moves (λ more. Ends m (byte ∷ more)) new → HasRead (bytes ++ byte ∷ []) new
read_more bytes byte m new h k = (
  k.0,
  λ more i.
      let e : (bytes ++ byte ∷ []) ++ more ≡ bytes ++ byte ∷ more = append_assoc bytes (byte ∷ []) more in (
        λ s. (k.1 more i).0 ((h.1 (byte ∷ more) i).0 (subst (λ (x : List ℕ). Spells x i) e s)),
        λ r. subst (λ (x : List ℕ). Spells x i) (sym e) ((h.1 (byte ∷ more) i).1 ((k.1 more i).1 r)),
      ),
)

pub read_dead : (bytes : List ℕ) (byte : ℕ) (m : Machine) → HasRead bytes m → IsDead (λ more. Ends m (byte ∷ more)) → Begins (bytes ++ byte ∷ []) → ⊥
read_dead bytes byte m h dead b =
    dead b.0 b.1 ((h.1 (byte ∷ b.0) b.1).0 (subst (λ (x : List ℕ). Spells x b.1) (append_assoc bytes (byte ∷ []) b.0) b.2))

goes_somewhere : (o : Option Form) (s : Sofar) (tag : ℕ) (p : List ℕ) → GoesOnAt o p → (bs : List ℕ) × (i : Increment) × RestAt o s tag p bs i
goes_somewhere None s tag p going = let c = completes s in (c.0, c.1, c.3)
goes_somewhere (Some form) s tag p going =
    let c = completes (after s tag (p ++ going.1)) in
    (going.1 ++ c.0, c.1, (going.1, c.0, refl, going.2, c.3))

-- whatever was read begins a stream
pub read_begins : (bytes : List ℕ) (m : Machine) → HasRead bytes m → Begins bytes
read_begins bytes m h = let c = goes_somewhere m.form m.sofar m.tag m.payload h.0 in (c.0, c.1, (h.1 c.0 c.1).1 c.2)

ends_none : (o : Option Form) (s : Sofar) (tag : ℕ) (p : List ℕ) (i : Increment) → GoesOnAt o p → RestAt o s tag p [] i → (o ≡ None) × (s ≡ Ended i)
ends_none None s tag p i going h = (refl, Rest_nil s i h)
ends_none (Some form) s tag p i going h =
    absurd (going.0 (let none : h.0 ≡ [] = nil_from_length h.0 (omega (arith, ap length h.2, length-append h.0 h.1)) in
    subst (IsWhole form) (ap (λ (x : List ℕ). p ++ x) none ∙ append-nil p) h.3))

-- a stream has ended exactly where the machine says so
pub read_ends : (bytes : List ℕ) (m : Machine) (i : Increment) → HasRead bytes m → Spells bytes i → EndsWith m i
read_ends bytes m i h s = ends_none m.form m.sofar m.tag m.payload i h.0 ((h.1 [] i).0 (subst (λ (x : List ℕ). Spells x i) (sym (append-nil bytes)) s))

pub read_whole : (bytes : List ℕ) (m : Machine) (i : Increment) → HasRead bytes m → EndsWith m i → Spells bytes i
read_whole bytes m i h e =
    let r : Rest (Ended i) [] i = (refl, refl) in
    let r1 : Ends m [] i = subst (λ (o : Option Form). RestAt o m.sofar m.tag m.payload [] i) (sym e.0) (subst (λ (x : Sofar). Rest x [] i) (sym e.1) r) in
    subst (λ (x : List ℕ). Spells x i) (append-nil bytes) ((h.1 [] i).1 r1)

-- ---- a piece

-- No front of the bytes is a stream, where none ended before this byte, and none goes on with it.
no_front : (front rest x y : List ℕ) (b : ℕ) (i : Increment) → Begins front → (Spells front i → ⊥) → (Begins (front ++ b ∷ []) → ⊥)
    → x ++ y ≡ front ++ b ∷ rest → Spells x i → ⊥
no_front front rest x y b i begins unended stops e s = elim (cases_lt (length front) (length x)) [
  | inl lt ↦
      let h = front_part front (b ∷ rest) x y (sym e) (omega arith) in
      longer h.0 h.1 h.2 (omega (arith, ap length h.1, length-append front h.0))
  | inr le ↦
      let h = front_part x y front (b ∷ rest) e le in
      let on : Spells (x ++ (h.0 ++ begins.0)) begins.1 = subst (λ (t : List ℕ). Spells t begins.1) (ap (λ (t : List ℕ). t ++ begins.0) h.1 ∙ append_assoc x h.0 begins.0) begins.2 in
      let none : h.0 ++ begins.0 ≡ [] = (one_stream x (h.0 ++ begins.0) i begins.1 s on).0 in
      let none0 : h.0 ≡ [] = nil_from_length h.0 (omega (arith, ap length none, length-append h.0 begins.0)) in
      unended (subst (λ (t : List ℕ). Spells t i) (sym (h.1 ∙ ap (λ (t : List ℕ). x ++ t) none0 ∙ append-nil x)) s)
]
  where
    longer : (r : List ℕ) → x ≡ front ++ r → b ∷ rest ≡ r ++ y → 0 < length r → ⊥
    longer [] x_is e2 lt = omega arith
    longer (c ∷ r) x_is e2 lt =
        let same : c ≡ b = cc in
        let x_is2 : x ≡ (front ++ b ∷ []) ++ r = x_is ∙ ap (λ (t : ℕ). front ++ t ∷ r) same ∙ sym (append_assoc front (b ∷ []) r) in
        stops (r, i, subst (λ (t : List ℕ). Spells t i) x_is2 s)

pub run_none : (bytes piece : List ℕ) (m : Machine) → IsAt bytes m → IsAt (bytes ++ take 0 piece) m
run_none bytes piece m h = subst (λ (x : List ℕ). IsAt x m) (sym (append-nil bytes)) h

one_further : (bytes piece : List ℕ) (at byte : ℕ) → at < length piece → byte ≡ get_or piece at 0 → (bytes ++ take at piece) ++ byte ∷ [] ≡ bytes ++ take (at + 1) piece
one_further bytes piece at byte lt is =
    append_assoc bytes (take at piece) (byte ∷ []) ∙ ap (λ (x : ℕ). bytes ++ (take at piece ++ x ∷ [])) is ∙ ap (λ (x : List ℕ). bytes ++ x) (sym (take_more piece at 0 lt))

-- a piece up to one byte, that byte and the others
cut_at : (bytes piece : List ℕ) (at byte : ℕ) → at < length piece → byte ≡ get_or piece at 0 → bytes ++ piece ≡ (bytes ++ take at piece) ++ byte ∷ drop (at + 1) piece
cut_at bytes piece at byte lt is =
    ap (λ (x : List ℕ). bytes ++ x) (sym (take-append-drop at piece)) ∙ sym (append_assoc bytes (take at piece) (drop at piece))
    ∙ ap (λ (x : List ℕ). (bytes ++ take at piece) ++ x) (drop_more piece at 0 lt ∙ ap (λ (x : ℕ). x ∷ drop (at + 1) piece) (sym is))

module _ (bytes piece : List ℕ) (at byte : ℕ) (m new : Machine) (lt : at < length piece) (is : byte ≡ get_or piece at 0) (so_far : IsAt (bytes ++ take at piece) m) where
  pub run_read : Steps (λ more. Ends m (byte ∷ more)) true new → HasRead (bytes ++ take (at + 1) piece) new
  run_read h = subst (λ (x : List ℕ). HasRead x new) (one_further bytes piece at byte lt is) (read_more (bytes ++ take at piece) byte m new so_far.0 h)

  pub run_more : Steps (λ more. Ends m (byte ∷ more)) true new → (HasEnded new → ⊥) → IsAt (bytes ++ take (at + 1) piece) new
  run_more h unended = (run_read h, unended)

  pub run_ended : Steps (λ more. Ends m (byte ∷ more)) true new → HasEnded new → Runs bytes piece (ran.Ended (at + 1)) new
  run_ended h e = (omega arith, e.0, read_whole (bytes ++ take (at + 1) piece) new e.0 (run_read h) e.1, e.1)

  pub run_stopped : IsDead (λ more. Ends m (byte ∷ more)) → Runs bytes piece (ran.Stopped at) new
  run_stopped dead =
      let front : List ℕ = bytes ++ take at piece in
      let begins : Begins front = read_begins front m so_far.0 in
      let stops : Begins (front ++ byte ∷ []) → ⊥ = read_dead front byte m so_far.0 dead in (
        lt,
        begins,
        subst (λ (x : List ℕ). Begins x → ⊥) (one_further bytes piece at byte lt is) stops,
        λ n i le s. no_front front (drop (at + 1) piece) (take n (bytes ++ piece)) (drop n (bytes ++ piece)) byte i begins
            (λ s0. so_far.1 (i, read_ends front m i so_far.0 s0)) stops (take-append-drop n (bytes ++ piece) ∙ cut_at bytes piece at byte lt is) s,
      )

-- many bytes at once: so many of those that are left of a piece
abbrev pub next_bytes : List ℕ → ℕ → ℕ → List ℕ
next_bytes piece at count = take count (take (length piece - at) (drop at piece))

next_is : (piece : List ℕ) (at count : ℕ) → next_bytes piece at count ≡ take count (drop at piece)
next_is piece at count = ap (λ (x : List ℕ). take count x) (take_all (length piece - at) (drop at piece) (omega (arith, length-drop at piece)))

pub next_within : (piece : List ℕ) (at count : ℕ) → at ≤ length piece → count ≤ length (take (length piece - at) (drop at piece)) → at + count ≤ length piece
next_within piece at count within le = omega (arith, length-take (length piece - at) (drop at piece), length-drop at piece)

pub run_gulped : (bytes piece : List ℕ) (at count : ℕ) (m new : Machine) → IsAt (bytes ++ take at piece) m → Moves (λ more. Ends m (next_bytes piece at count ++ more)) new → (HasEnded new → HasEnded m) → IsAt (bytes ++ take (at + count) piece) new
run_gulped bytes piece at count m new so_far k ended =
    let q : List ℕ = next_bytes piece at count in
    let all : (bytes ++ take at piece) ++ q ≡ bytes ++ take (at + count) piece =
    append_assoc bytes (take at piece) q ∙ ap (λ (x : List ℕ). bytes ++ (take at piece ++ x)) (next_is piece at count) ∙ ap (λ (x : List ℕ). bytes ++ x) (sym (take-add at count piece)) in
    let read : HasRead ((bytes ++ take at piece) ++ q) new = (
      k.0,
      λ more i.
          let e : ((bytes ++ take at piece) ++ q) ++ more ≡ (bytes ++ take at piece) ++ (q ++ more) = append_assoc (bytes ++ take at piece) q more in (
            λ s. (k.1 more i).0 ((so_far.0.1 (q ++ more) i).0 (subst (λ (x : List ℕ). Spells x i) e s)),
            λ r. subst (λ (x : List ℕ). Spells x i) (sym e) ((so_far.0.1 (q ++ more) i).1 ((k.1 more i).1 r)),
          ),
    ) in
    (subst (λ (x : List ℕ). HasRead x new) all read, λ h. so_far.1 (ended h))

-- ---- one answer

shorter_first : (bytes : List ℕ) (i j : Increment) (m n : ℕ) → m ≤ n → n ≤ length bytes → Spells (take m bytes) i → Spells (take n bytes) j → (m ≡ n) × (j ≡ i)
shorter_first bytes i j m n le within s t =
    let cut : take n bytes ≡ take m bytes ++ drop m (take n bytes) =
    sym (take-append-drop m (take n bytes)) ∙ ap (λ (x : List ℕ). x ++ drop m (take n bytes)) (take-take m n bytes le) in
    let one = one_stream (take m bytes) (drop m (take n bytes)) i j s (subst (λ (x : List ℕ). Spells x j) cut t) in
    (omega (arith, ap length cut, ap length one.0, length-append (take m bytes) (drop m (take n bytes)), length-take m bytes, length-take n bytes), one.1)

same_pair : (a b : Increment × ℕ) → a.0 ≡ b.0 → a.1 ≡ b.1 → a ≡ b
same_pair a b d e = ap (λ (x : Increment). (x, a.1)) d ∙ ap (λ (x : ℕ). (b.0, x)) e

found_once : (bytes : List ℕ) (a b : Increment × ℕ) → (a.1 ≤ length bytes) × Spells (take a.1 bytes) a.0 → (b.1 ≤ length bytes) × Spells (take b.1 bytes) b.0 → a ≡ b
found_once bytes a b h k = elim (cases_lt b.1 a.1) [
  | inl lt ↦ let one = shorter_first bytes b.0 a.0 b.1 a.1 (omega arith) h.0 k.1 h.1 in same_pair a b one.1 (sym one.0)
  | inr le ↦ let one = shorter_first bytes a.0 b.0 a.1 b.1 le k.0 h.1 k.1 in same_pair a b (sym one.1) one.0
]

cut_not_found : (bytes : List ℕ) (n : ℕ) (i : Increment) → Spells (take n bytes) i → IsCut bytes → ⊥
cut_not_found bytes n i s h =
    let cut : bytes ++ h.0 ∷ h.1 ≡ take n bytes ++ (drop n bytes ++ h.0 ∷ h.1) =
    ap (λ (x : List ℕ). x ++ h.0 ∷ h.1) (sym (take-append-drop n bytes)) ∙ append_assoc (take n bytes) (drop n bytes) (h.0 ∷ h.1) in
    let one = one_stream (take n bytes) (drop n bytes ++ h.0 ∷ h.1) i h.2 s (subst (λ (x : List ℕ). Spells x h.2) cut h.3) in
    absurd (omega (arith, ap length one.0, length-append (drop n bytes) (h.0 ∷ h.1)))

-- the first bytes of what begins a stream begin one
begins_front : (x y : List ℕ) → Begins (x ++ y) → Begins x
begins_front x y h = (y ++ h.0, h.1, subst (λ (t : List ℕ). Spells t h.1) (append_assoc x y h.0) h.2)

pub begins_take : (m n : ℕ) (bytes : List ℕ) → m ≤ n → Begins (take n bytes) → Begins (take m bytes)
begins_take m n bytes le h =
    begins_front (take m bytes) (drop m (take n bytes))
    (subst Begins (sym (take-append-drop m (take n bytes)) ∙ ap (λ (x : List ℕ). x ++ drop m (take n bytes)) (take-take m n bytes le)) h)

cut_not_bad : (bytes : List ℕ) (at : ℕ) → IsCut bytes → IsBad bytes at → ⊥
cut_not_bad bytes at h k =
    let all : Begins bytes = (h.0 ∷ h.1, h.2, h.3) in
    k.stops (begins_front (take (at + 1) bytes) (drop (at + 1) bytes) (subst Begins (sym (take-append-drop (at + 1) bytes)) all))

bad_once : (bytes : List ℕ) (m n : ℕ) → IsBad bytes m → IsBad bytes n → m ≡ n
bad_once bytes m n h k = elim (cases_order m n) [
  | inl e ↦ e
  | inr o ↦ elim o [
    | inl lt ↦ absurd (h.stops (begins_take (m + 1) n bytes (omega arith) k.begins))
    | inr lt ↦ absurd (k.stops (begins_take (n + 1) m bytes (omega arith) h.begins))
  ]
]

pub one_answer : (bytes : List ℕ) (a b : Result (Increment × ℕ) StreamFault) → Answers bytes a → Answers bytes b → Agree a b
one_answer bytes (Err Memory) b h k = inl refl
one_answer bytes (Ok a) (Err Memory) h k = inr (inl refl)
one_answer bytes (Err Cut) (Err Memory) h k = inr (inl refl)
one_answer bytes (Err (Bad m)) (Err Memory) h k = inr (inl refl)
one_answer bytes (Ok a) (Ok b) h k = inr (inr (ap (λ (x : Increment × ℕ). Ok x) (found_once bytes a b h k)))
one_answer bytes (Ok a) (Err Cut) h k = absurd (cut_not_found bytes a.1 a.0 h.1 k)
one_answer bytes (Ok a) (Err (Bad n)) h k = absurd (k.none a.1 a.0 h.0 h.1)
one_answer bytes (Err Cut) (Ok b) h k = absurd (cut_not_found bytes b.1 b.0 k.1 h)
one_answer bytes (Err Cut) (Err Cut) h k = inr (inr refl)
one_answer bytes (Err Cut) (Err (Bad n)) h k = absurd (cut_not_bad bytes n h k)
one_answer bytes (Err (Bad m)) (Ok b) h k = absurd (h.none b.1 b.0 k.0 k.1)
one_answer bytes (Err (Bad m)) (Err Cut) h k = absurd (cut_not_bad bytes m k h)
one_answer bytes (Err (Bad m)) (Err (Bad n)) h k = inr (inr (ap (λ (x : ℕ). Err (Bad x)) (bad_once bytes m n h k)))

-- ---- what the pieces of one slice answer

pub whole_more : (bytes : List ℕ) (m : Machine) → IsAt bytes m → IsCut bytes
whole_more bytes m h = more_of (read_begins bytes m h.0)
  where
    more_of : Begins bytes → IsCut bytes
    more_of b = split b.0 b.1 b.2
      where
        split : (more : List ℕ) (i : Increment) → Spells (bytes ++ more) i → IsCut bytes
        split [] i s = absurd (h.1 (i, read_ends bytes m i h.0 (subst (λ (x : List ℕ). Spells x i) (append-nil bytes) s)))
        split (b0 ∷ more) i s = (b0, more, i, s)

pub at_start : (m : Machine) → m ≡ record { sofar = Start; tag = 0; form = None; payload = [] } → IsAt [] m
at_start m e = (read_none m e, λ h. let x : Start ≡ Ended h.0 = sym (ap (λ (y : Machine). y.sofar) e) ∙ h.1.1 in cc)

pub stopped_bad : (bytes : List ℕ) (at : ℕ) (m : Machine) → Runs [] bytes (ran.Stopped at) m → IsBad bytes at
stopped_bad bytes at m h = record { within = h.0; begins = h.1; stops = h.2; none = h.3 }

-- a machine that has ended says one increment
pub one_end_says : (m : Machine) (i j : Increment) → EndsWith m i → EndsWith m j → i ≡ j
one_end_says m i j h k = let e : Ended i ≡ Ended j = cc (h.1, k.1) in cc
