-- A play has one outcome.
use Rattle.std.proofs.Common.{◌≡◌, ◌⊎◌, ℕ, ◌+◌, ◌-◌, ◌<◌, ◌≤◌, Option, Some, None, Ok, Err, List, [], ◌∷◌, ◌++◌, length, map, take, drop, refl, sym, ap, subst, ◌∙◌, arith, inl, inr, append_assoc, append-nil, length-take, length-drop}
use Rattle.std.specs.Prelude.{Result, IsSomeAnd, sum_by}
use Rattle.std.specs.List.{flat_map}
use Rattle.std.proofs.lemmas.List.{take-append-drop, take_all}
use Rattle.std.proofs.lemmas.List.Sums.{sum_by-cons}
use Rattle.vnode_model.specs.declared.volumes.VolumeFields.{VolumeFields}
use Rattle.vnode_model.specs.declared.increments.IncrementFields.{IncrementFields}
use Rattle.vnode_model.specs.declared.applying.ApplyFault.{ApplyFault}
use Rattle.vnode_model.specs.declared.applying.ApplyFault.TheVariants as faults
use Rattle.vnode_model.specs.Increments.{applied}
use Rattle.dump_stream.specs.declared.answers.StreamFault.{StreamFault}
use Rattle.dump_stream.specs.declared.answers.StreamFault.TheVariants as streams
use Rattle.dump_stream.specs.Stream.{Spells}
use Rattle.dump_stream.specs.Reads.{IsCut, Answers, Agree}
use Rattle.dump_stream.proofs.ReadLaws.{one_answer}
use Rattle.tape_frames.specs.declared.frame.Frame.TheVariants as frames
use Rattle.budb_changes.specs.declared.records.DumpRecordFields.{DumpRecordFields}
use Rattle.tape_text.specs.Items.{Item, Says}
use Rattle.tape_text.specs.Texts.{Fragment, data_item, fragment_frames}
use Rattle.tape_text.specs.Wholes.{Lying}
use Rattle.tape_writer.specs.Filling.{fragment_bytes}
use Rattle.tape_scan.specs.Slots.{Slot}
use Rattle.archive_model.specs.Holding.{called_for, holder_here}
use Rattle.archive_model.specs.Plays.{StandsAt, IsFirstBad, Spot, StandsOn, AllStand, HasBadFrame, Piece, pieces_of, HasByte, IsLastEnd, StopsAt, HasBadStream, HasStream, Gives, PlayFault, after_applied, after_given, IsMade, PlaysOver}
use Rattle.tape_text.proofs.TextLaws.{pieces_apart, same_fragment}
use Rattle.tape_scan.proofs.ScanLaws.{front_and_rest}
use Rattle.tape_scan.proofs.ListLaws.{either, no_more}

-- ---- one fragment

frames_shape : (f : Fragment) (xs : List Item) → fragment_frames f ++ xs ≡ Says (frames.VolHead f.head) ∷ map data_item f.pieces ++ Says (frames.VolEnd f.end) ∷ xs
frames_shape f xs = simp append_assoc

pub frames_apart : (f g : Fragment) (xs ys : List Item) → fragment_frames f ++ xs ≡ fragment_frames g ++ ys → (f ≡ g) × (xs ≡ ys)
frames_apart f g xs ys same =
    let shaped : Says (frames.VolHead f.head) ∷ map data_item f.pieces ++ Says (frames.VolEnd f.end) ∷ xs ≡ Says (frames.VolHead g.head) ∷ map data_item g.pieces ++ Says (frames.VolEnd g.end) ∷ ys = sym (frames_shape f xs) ∙ same ∙ frames_shape g ys in
    let heads : f.head ≡ g.head = cc in
    let rest : map data_item f.pieces ++ Says (frames.VolEnd f.end) ∷ xs ≡ map data_item g.pieces ++ Says (frames.VolEnd g.end) ∷ ys = cc in
    let parts = pieces_apart f.pieces g.pieces f.end g.end xs ys rest in
    (same_fragment f.head g.head f.pieces g.pieces f.end g.end heads parts.0 parts.1, parts.2)

standing : (c : Lying) (items : List Item) (f : Fragment) → StandsAt c items f → drop c.at items ≡ fragment_frames f ++ drop (length (fragment_frames f)) (drop c.at items)
standing c items f s = sym (take-append-drop (length (fragment_frames f)) (drop c.at items)) ∙ ap (λ t. t ++ drop (length (fragment_frames f)) (drop c.at items)) s.there

stands_once : (c : Lying) (items : List Item) (f g : Fragment) → StandsAt c items f → StandsAt c items g → f ≡ g
stands_once c items f g s r =
    (frames_apart f g (drop (length (fragment_frames f)) (drop c.at items)) (drop (length (fragment_frames g)) (drop c.at items)) (sym (standing c items f s) ∙ standing c items g r)).0

stands_not_bad : (c : Lying) (items : List Item) (f : Fragment) (n : ℕ) → StandsAt c items f → IsFirstBad c items n → ⊥
stands_not_bad c items f n s bad =
    let long : length (fragment_frames f) ≤ length (drop c.at items) = omega (arith, ap length s.there, length-take (length (fragment_frames f)) (drop c.at items)) in
    elim (either (n - c.at) (length (fragment_frames f))) [
      | inl short ↦ elim bad.here [
        | inl gone ↦ absurd (omega (arith, gone, long, short, bad.behind, length-drop c.at items))
        | inr none ↦ none (record {
          fragment = f;
          is = s.is;
          more = drop (n + 1 - c.at) (take (length (fragment_frames f)) (drop c.at items));
          joined = sym s.there ∙ front_and_rest (n + 1 - c.at) (length (fragment_frames f)) (drop c.at items) (omega (arith, bad.behind));
        })
      ]
      | inr far ↦
          (let g = bad.before in
          let front : take (n - c.at) (drop c.at items) ≡ fragment_frames f ++ drop (length (fragment_frames f)) (take (n - c.at) (drop c.at items)) =
          front_and_rest (length (fragment_frames f)) (n - c.at) (drop c.at items) far ∙ ap (λ t. t ++ drop (length (fragment_frames f)) (take (n - c.at) (drop c.at items))) s.there in
          let longer : fragment_frames g.fragment ++ [] ≡ fragment_frames f ++ (drop (length (fragment_frames f)) (take (n - c.at) (drop c.at items)) ++ g.next ∷ g.more) =
          append-nil (fragment_frames g.fragment) ∙ g.joined ∙ ap (λ t. t ++ g.next ∷ g.more) front ∙ append_assoc (fragment_frames f) (drop (length (fragment_frames f)) (take (n - c.at) (drop c.at items))) (g.next ∷ g.more) in
          no_more (drop (length (fragment_frames f)) (take (n - c.at) (drop c.at items))) g.next g.more (frames_apart g.fragment f [] (drop (length (fragment_frames f)) (take (n - c.at) (drop c.at items)) ++ g.next ∷ g.more) longer).1)
    ]

not_before : (c : Lying) (items : List Item) (n m : ℕ) → IsFirstBad c items n → IsFirstBad c items m → n < m → ⊥
not_before c items n m bad later lt = elim bad.here [
  | inl gone ↦ absurd (omega (arith, later.there n bad.behind lt))
  | inr none ↦
      (let g = later.before in
      none (record {
        fragment = g.fragment;
        is = g.is;
        more = drop (n + 1 - c.at) (take (m - c.at) (drop c.at items)) ++ g.next ∷ g.more;
        joined =
            g.joined ∙ ap (λ t. t ++ g.next ∷ g.more) (front_and_rest (n + 1 - c.at) (m - c.at) (drop c.at items) (omega (arith, bad.behind, later.behind)))
            ∙ append_assoc (take (n + 1 - c.at) (drop c.at items)) (drop (n + 1 - c.at) (take (m - c.at) (drop c.at items))) (g.next ∷ g.more);
      }))
]

bad_once : (c : Lying) (items : List Item) (n m : ℕ) → IsFirstBad c items n → IsFirstBad c items m → n ≡ m
bad_once c items n m a b = elim (either n m) [
  | inl lt ↦ absurd (not_before c items n m a b lt)
  | inr le ↦ elim (either m n) [
    | inl lt ↦ absurd (not_before c items m n b a lt)
    | inr ge ↦ omega arith
  ]
]

-- ---- on the slot that holds it

on_once : (o : Option (ℕ × Slot)) (c : Lying) (f g : Fragment) → IsSomeAnd o (λ s. StandsAt c s.1.items f) → IsSomeAnd o (λ s. StandsAt c s.1.items g) → f ≡ g
on_once None c f g s r = absurd s
on_once (Some slot) c f g s r = stands_once c slot.1.items f g s r

on_not_bad : (o : Option (ℕ × Slot)) (c : Lying) (f : Fragment) (n : ℕ) → IsSomeAnd o (λ s. StandsAt c s.1.items f) → IsSomeAnd o (λ s. IsFirstBad c s.1.items n) → ⊥
on_not_bad None c f n s r = absurd s
on_not_bad (Some slot) c f n s r = stands_not_bad c slot.1.items f n s r

on_bad_once : (o : Option (ℕ × Slot)) (c : Lying) (n m : ℕ) → IsSomeAnd o (λ s. IsFirstBad c s.1.items n) → IsSomeAnd o (λ s. IsFirstBad c s.1.items m) → n ≡ m
on_bad_once None c n m s r = absurd s
on_bad_once (Some slot) c n m s r = bad_once c slot.1.items n m s r

pub all_once : (slots : List Slot) (d : DumpRecordFields) (cs : List Lying) (fs gs : List Fragment) → AllStand slots d cs fs → AllStand slots d cs gs → fs ≡ gs
all_once slots d [] [] [] s r = refl
all_once slots d [] [] (g ∷ gs) s r = absurd r
all_once slots d [] (f ∷ fs) gs s r = absurd s
all_once slots d (c ∷ cs) [] gs s r = absurd s
all_once slots d (c ∷ cs) (f ∷ fs) [] s r = absurd r
all_once slots d (c ∷ cs) (f ∷ fs) (g ∷ gs) s r =
    let first : f ≡ g = on_once (holder_here d c.tape slots) c f g s.0 r.0 in
    let rest : fs ≡ gs = all_once slots d cs fs gs s.1 r.1 in
    cc

-- a fragment among those that stand stands
one_stands : (slots : List Slot) (d : DumpRecordFields) (before : List Lying) (c : Lying) (behind : List Lying) (fs : List Fragment) → AllStand slots d (before ++ c ∷ behind) fs → (f : Fragment) × StandsOn slots d c f
one_stands slots d [] c behind [] s = absurd s
one_stands slots d [] c behind (f ∷ fs) s = (f, s.0)
one_stands slots d (b ∷ before) c behind [] s = absurd s
one_stands slots d (b ∷ before) c behind (f ∷ fs) s = one_stands slots d before c behind fs s.1

pub frame_or_stand : (slots : List Slot) (d : DumpRecordFields) (cs : List Lying) (fs : List Fragment) (spot : Spot) → AllStand slots d cs fs → HasBadFrame slots d cs spot → ⊥
frame_or_stand slots d cs fs spot stand bad =
    let one = one_stands slots d bad.before bad.bad bad.behind fs (subst (λ (l : List Lying). AllStand slots d l fs) bad.joined stand) in
    on_not_bad (holder_here d bad.bad.tape slots) bad.bad one.0 spot.place one.1 bad.place

split_once : (slots : List Slot) (d : DumpRecordFields) (before : List Lying) (c : Lying) (behind before2 : List Lying) (c2 : Lying) (behind2 : List Lying) (fs gs : List Fragment) → before ++ c ∷ behind ≡ before2 ++ c2 ∷ behind2 → AllStand slots d before fs → AllStand slots d before2 gs
    → ((f : Fragment) → StandsOn slots d c f → ⊥) → ((f : Fragment) → StandsOn slots d c2 f → ⊥) → c ≡ c2
split_once slots d [] c behind [] c2 behind2 fs gs same s r not not2 = cc
split_once slots d [] c behind (b ∷ before2) c2 behind2 fs [] same s r not not2 = absurd r
split_once slots d [] c behind (b ∷ before2) c2 behind2 fs (g ∷ gs) same s r not not2 = let first : b ≡ c = cc in absurd (not g (subst (λ (x : Lying). StandsOn slots d x g) first r.0))
split_once slots d (b ∷ before) c behind [] c2 behind2 [] gs same s r not not2 = absurd s
split_once slots d (b ∷ before) c behind [] c2 behind2 (f ∷ fs) gs same s r not not2 = let first : b ≡ c2 = cc in absurd (not2 f (subst (λ (x : Lying). StandsOn slots d x f) first s.0))
split_once slots d (a ∷ before) c behind (b ∷ before2) c2 behind2 [] gs same s r not not2 = absurd s
split_once slots d (a ∷ before) c behind (b ∷ before2) c2 behind2 (f ∷ fs) [] same s r not not2 = absurd r
split_once slots d (a ∷ before) c behind (b ∷ before2) c2 behind2 (f ∷ fs) (g ∷ gs) same s r not not2 =
    let rest : before ++ c ∷ behind ≡ before2 ++ c2 ∷ behind2 = cc in split_once slots d before c behind before2 c2 behind2 fs gs rest s.1 r.1 not not2

same_spot : (tape place tape2 place2 : ℕ) → tape ≡ tape2 → place ≡ place2 → record { tape = tape; place = place } ≡ (let s : Spot = record { tape = tape2; place = place2 } in s)
same_spot tape place tape2 place2 t p = cc

frames_once : (slots : List Slot) (d : DumpRecordFields) (cs : List Lying) (a b : Spot) → HasBadFrame slots d cs a → HasBadFrame slots d cs b → a ≡ b
frames_once slots d cs a b x y =
    let same : x.bad ≡ y.bad = split_once slots d x.before x.bad x.behind y.before y.bad y.behind x.fragments y.fragments (sym x.joined ∙ y.joined) x.stand y.stand
    (λ f s. on_not_bad (holder_here d x.bad.tape slots) x.bad f a.place s x.place) (λ f s. on_not_bad (holder_here d y.bad.tape slots) y.bad f b.place s y.place) in
    let moved : IsSomeAnd (holder_here d y.bad.tape slots) (λ s. IsFirstBad y.bad s.1.items a.place) = subst (λ (c : Lying). IsSomeAnd (holder_here d c.tape slots) (λ s. IsFirstBad c s.1.items a.place)) same x.place in
    same_spot a.tape a.place b.tape b.place (x.tape ∙ ap (λ (c : Lying). c.tape) same ∙ sym y.tape) (on_bad_once (holder_here d y.bad.tape slots) y.bad a.place b.place moved y.place)

-- ---- streams

whole_answer : (bytes : List ℕ) (i : IncrementFields) → Spells bytes i → Answers bytes (Ok (i, length bytes))
whole_answer bytes i spells = (omega arith, subst (λ (b : List ℕ). Spells b i) (sym (take_all (length bytes) bytes (omega arith))) spells)

pair_parts : (i j : IncrementFields) (n m : ℕ) (e : StreamFault) → Agree (Ok (i, n)) (Ok (j, m)) → (i ≡ j) × (n ≡ m)
pair_parts i j n m e (inl memory) = absurd (cc)
pair_parts i j n m e (inr (inl memory)) = absurd (cc)
pair_parts i j n m e (inr (inr same)) = let pair : (i, n) ≡ (j, m) = cc in (ap (λ (x : IncrementFields × ℕ). x.0) pair, ap (λ (x : IncrementFields × ℕ). x.1) pair)

ok_once : (bytes : List ℕ) (i j : IncrementFields) (n m : ℕ) → Answers bytes (Ok (i, n)) → Answers bytes (Ok (j, m)) → (i ≡ j) × (n ≡ m)
ok_once bytes i j n m a b = pair_parts i j n m streams.Cut (one_answer bytes (Ok (i, n)) (Ok (j, m)) a b)

apart : (i : IncrementFields) (n : ℕ) (e : StreamFault) → (e ≡ streams.Memory → ⊥) → Agree (Ok (i, n)) (Err e) → ⊥
apart i n e told (inl memory) = absurd (cc)
apart i n e told (inr (inl memory)) = told (cc)
apart i n e told (inr (inr same)) = absurd (cc)

not_both : (bytes : List ℕ) (i : IncrementFields) (n : ℕ) (e : StreamFault) → (e ≡ streams.Memory → ⊥) → Answers bytes (Ok (i, n)) → Answers bytes (Err e) → ⊥
not_both bytes i n e told a b = apart i n e told (one_answer bytes (Ok (i, n)) (Err e) a b)

not_cut : (bytes : List ℕ) (at : ℕ) → StopsAt bytes at → IsCut bytes → ⊥
not_cut bytes at (inr whole) cut = not_both bytes whole.1 at streams.Cut (λ same. absurd (cc)) (omega (arith, whole.0), whole.2) cut
not_cut bytes at (inl bad) cut = elim (one_answer bytes (Err streams.Cut) (Err (streams.Bad at)) cut bad) [
  | inl memory ↦ absurd (cc)
  | inr rest ↦ elim rest [
    | inl memory ↦ absurd (cc)
    | inr same ↦ absurd (cc)
  ]
]

stops_once : (bytes : List ℕ) (n m : ℕ) → StopsAt bytes n → StopsAt bytes m → n ≡ m
stops_once bytes n m (inl a) (inl b) = elim (one_answer bytes (Err (streams.Bad n)) (Err (streams.Bad m)) a b) [
  | inl memory ↦ absurd (cc)
  | inr rest ↦ elim rest [
    | inl memory ↦ absurd (cc)
    | inr same ↦ cc
  ]
]
stops_once bytes n m (inl a) (inr b) = absurd (not_both bytes b.1 m (streams.Bad n) (λ same. absurd (cc)) (omega (arith, b.0), b.2) a)
stops_once bytes n m (inr a) (inl b) = absurd (not_both bytes a.1 n (streams.Bad m) (λ same. absurd (cc)) (omega (arith, a.0), a.2) b)
stops_once bytes n m (inr a) (inr b) = (ok_once bytes a.1 b.1 n m (omega (arith, a.0), a.2) (omega (arith, b.0), b.2)).1

spells_not_stops : (bytes : List ℕ) (i : IncrementFields) (at : ℕ) → Spells bytes i → StopsAt bytes at → ⊥
spells_not_stops bytes i at spells (inl bad) = not_both bytes i (length bytes) (streams.Bad at) (λ same. absurd (cc)) (whole_answer bytes i spells) bad
spells_not_stops bytes i at spells (inr whole) =
    absurd (let same = (ok_once bytes i whole.1 (length bytes) at (whole_answer bytes i spells) (omega (arith, whole.0), whole.2)).1 in omega (arith, same, whole.0))

-- ---- places of bytes

piece_once : (at : ℕ) (before : List Piece) (p : Piece) (behind before2 : List Piece) (q : Piece) (behind2 : List Piece) → before ++ p ∷ behind ≡ before2 ++ q ∷ behind2
    → sum_by (λ x. x.data_frame.used) before ≤ at → at < sum_by (λ x. x.data_frame.used) before + p.data_frame.used
    → sum_by (λ x. x.data_frame.used) before2 ≤ at → at < sum_by (λ x. x.data_frame.used) before2 + q.data_frame.used → p ≡ q
piece_once at [] p behind [] q behind2 same low high low2 high2 = cc
piece_once at [] p behind (b ∷ before2) q behind2 same low high low2 high2 =
    let first : p ≡ b = cc in
    absurd (omega (arith, high, low2, ap (λ (x : Piece). x.data_frame.used) first, sum_by-cons (λ (x : Piece). x.data_frame.used) b before2))
piece_once at (a ∷ before) p behind [] q behind2 same low high low2 high2 =
    let first : a ≡ q = cc in
    absurd (omega (arith, high2, low, ap (λ (x : Piece). x.data_frame.used) first, sum_by-cons (λ (x : Piece). x.data_frame.used) a before))
piece_once at (a ∷ before) p behind (b ∷ before2) q behind2 same low high low2 high2 =
    let first : a ≡ b = cc in
    let rest : before ++ p ∷ behind ≡ before2 ++ q ∷ behind2 = cc in
    let used = ap (λ (x : Piece). x.data_frame.used) first in
    piece_once (at - a.data_frame.used) before p behind before2 q behind2 rest
    (omega (arith, low, sum_by-cons (λ (x : Piece). x.data_frame.used) a before)) (omega (arith, low, high, sum_by-cons (λ (x : Piece). x.data_frame.used) a before))
    (omega (arith, used, low2, sum_by-cons (λ (x : Piece). x.data_frame.used) b before2)) (omega (arith, used, low2, high2, sum_by-cons (λ (x : Piece). x.data_frame.used) b before2))

byte_once : (pieces : List Piece) (at : ℕ) (a b : Spot) → HasByte pieces at a → HasByte pieces at b → a ≡ b
byte_once pieces at a b x y =
    let same : x.piece ≡ y.piece = piece_once at x.before x.piece x.behind y.before y.piece y.behind (sym x.joined ∙ y.joined) x.low x.high y.low y.high in
    x.is ∙ ap (λ (p : Piece). p.spot) same ∙ sym y.is

last_once : (cs : List Lying) (fs : List Fragment) (a b : Spot) → IsLastEnd cs fs a → IsLastEnd cs fs b → a ≡ b
last_once [] fs a b x y = absurd x
last_once (c ∷ cs) [] a b x y = absurd x
last_once (c ∷ cs) (f ∷ []) a b x y = same_spot a.tape a.place b.tape b.place (x.0 ∙ sym y.0) (x.1 ∙ sym y.1)
last_once (c ∷ cs) (f ∷ g ∷ fs) a b x y = last_once cs (g ∷ fs) a b x y

stream_stops_once : (cs : List Lying) (fs : List Fragment) (a b : Spot)
    → ((at : ℕ) × StopsAt (flat_map fragment_bytes fs) at × HasByte (pieces_of cs fs) at a) ⊎ (IsCut (flat_map fragment_bytes fs) × IsLastEnd cs fs a)
    → ((at : ℕ) × StopsAt (flat_map fragment_bytes fs) at × HasByte (pieces_of cs fs) at b) ⊎ (IsCut (flat_map fragment_bytes fs) × IsLastEnd cs fs b) → a ≡ b
stream_stops_once cs fs a b (inl x) (inl y) =
    let same : x.0 ≡ y.0 = stops_once (flat_map fragment_bytes fs) x.0 y.0 x.1 y.1 in
    byte_once (pieces_of cs fs) y.0 a b (subst (λ (n : ℕ). HasByte (pieces_of cs fs) n a) same x.2) y.2
stream_stops_once cs fs a b (inl x) (inr y) = absurd (not_cut (flat_map fragment_bytes fs) x.0 x.1 y.0)
stream_stops_once cs fs a b (inr x) (inl y) = absurd (not_cut (flat_map fragment_bytes fs) y.0 y.1 x.0)
stream_stops_once cs fs a b (inr x) (inr y) = last_once cs fs a b x.1 y.1

streams_stop_once : (slots : List Slot) (d : DumpRecordFields) (cs : List Lying) (a b : Spot) → HasBadStream slots d cs a → HasBadStream slots d cs b → a ≡ b
streams_stop_once slots d cs a b x y =
    let same : y.fragments ≡ x.fragments = all_once slots d cs y.fragments x.fragments y.stand x.stand in
    stream_stops_once cs x.fragments a b x.stops
    (subst (λ (fs : List Fragment). ((at : ℕ) × StopsAt (flat_map fragment_bytes fs) at × HasByte (pieces_of cs fs) at b) ⊎ (IsCut (flat_map fragment_bytes fs) × IsLastEnd cs fs b)) same y.stops)

says_or_stops : (cs : List Lying) (fs : List Fragment) (i : IncrementFields) (b : Spot) → Spells (flat_map fragment_bytes fs) i
    → ((at : ℕ) × StopsAt (flat_map fragment_bytes fs) at × HasByte (pieces_of cs fs) at b) ⊎ (IsCut (flat_map fragment_bytes fs) × IsLastEnd cs fs b) → ⊥
says_or_stops cs fs i b spells (inl x) = spells_not_stops (flat_map fragment_bytes fs) i x.0 spells x.1
says_or_stops cs fs i b spells (inr x) = not_both (flat_map fragment_bytes fs) i (length (flat_map fragment_bytes fs)) streams.Cut (λ same. absurd (cc)) (whole_answer (flat_map fragment_bytes fs) i spells) x.0

stream_or_stops : (slots : List Slot) (d : DumpRecordFields) (cs : List Lying) (i : IncrementFields) (b : Spot) → HasStream slots d cs i → HasBadStream slots d cs b → ⊥
stream_or_stops slots d cs i b x y =
    let same : y.fragments ≡ x.fragments = all_once slots d cs y.fragments x.fragments y.stand x.stand in
    says_or_stops cs x.fragments i b x.spells
    (subst (λ (fs : List Fragment). ((at : ℕ) × StopsAt (flat_map fragment_bytes fs) at × HasByte (pieces_of cs fs) at b) ⊎ (IsCut (flat_map fragment_bytes fs) × IsLastEnd cs fs b)) same y.stops)

streams_once : (slots : List Slot) (d : DumpRecordFields) (cs : List Lying) (i j : IncrementFields) → HasStream slots d cs i → HasStream slots d cs j → i ≡ j
streams_once slots d cs i j x y =
    let same : y.fragments ≡ x.fragments = all_once slots d cs y.fragments x.fragments y.stand x.stand in
    let spells : Spells (flat_map fragment_bytes x.fragments) j = subst (λ (fs : List Fragment). Spells (flat_map fragment_bytes fs) j) same y.spells in
    (ok_once (flat_map fragment_bytes x.fragments) i j (length (flat_map fragment_bytes x.fragments)) (length (flat_map fragment_bytes x.fragments)) (whole_answer (flat_map fragment_bytes x.fragments) i x.spells) (whole_answer (flat_map fragment_bytes x.fragments) j spells)).0

-- ---- outcomes

pub gives_once : (slots : List Slot) (d : DumpRecordFields) (cs : List Lying) (a b : Result IncrementFields Spot) → Gives slots d cs a → Gives slots d cs b → a ≡ b
gives_once slots d cs (Ok i) (Ok j) x y = ap (λ t. Ok t) (streams_once slots d cs i j x y)
gives_once slots d cs (Ok i) (Err b) x (inl y) = absurd (frame_or_stand slots d cs x.fragments b x.stand y)
gives_once slots d cs (Ok i) (Err b) x (inr y) = absurd (stream_or_stops slots d cs i b x y)
gives_once slots d cs (Err a) (Ok j) (inl x) y = absurd (frame_or_stand slots d cs y.fragments a y.stand x)
gives_once slots d cs (Err a) (Ok j) (inr x) y = absurd (stream_or_stops slots d cs j a y x)
gives_once slots d cs (Err a) (Err b) (inl x) (inl y) = ap (λ t. Err t) (frames_once slots d cs a b x y)
gives_once slots d cs (Err a) (Err b) (inl x) (inr y) = absurd (frame_or_stand slots d cs y.fragments a y.stand x)
gives_once slots d cs (Err a) (Err b) (inr x) (inl y) = absurd (frame_or_stand slots d cs x.fragments b x.stand y)
gives_once slots d cs (Err a) (Err b) (inr x) (inr y) = ap (λ t. Err t) (streams_stop_once slots d cs a b x y)

applied_once : (r : Result VolumeFields ApplyFault) (K : VolumeFields → Result VolumeFields PlayFault → Type 0) (a b : Result VolumeFields PlayFault) → ((v : VolumeFields) → K v a → K v b → a ≡ b) → after_applied r (λ v. K v a) a → after_applied r (λ v. K v b) b → a ≡ b
applied_once (Ok v) K a b once x y = once v x y
applied_once (Err (faults.BaseLacks n u)) K a b once x y = x ∙ sym y
applied_once (Err faults.TooLarge) K a b once x y = x ∙ sym y
applied_once (Err faults.Memory) K a b once x y = absurd x

made_once : (base : Option VolumeFields) (a b : Result VolumeFields PlayFault) → IsMade base a → IsMade base b → a ≡ b
made_once None a b x y = absurd x
made_once (Some v) a b x y = x ∙ sym y

given_once : (slots : List Slot) (name : List ℕ) (d : DumpRecordFields) (ds : List DumpRecordFields) (base : Option VolumeFields) (given : Result IncrementFields Spot) (a b : Result VolumeFields PlayFault) → ((v : VolumeFields) → PlaysOver slots name (Some v) ds a → PlaysOver slots name (Some v) ds b → a ≡ b)
    → after_given d base given (λ v. PlaysOver slots name (Some v) ds a) a → after_given d base given (λ v. PlaysOver slots name (Some v) ds b) b → a ≡ b
given_once slots name d ds base (Ok i) a b once x y = applied_once (applied base i) (λ v o. PlaysOver slots name (Some v) ds o) a b once x y
given_once slots name d ds base (Err spot) a b once x y = x ∙ sym y

-- a play has one outcome
pub plays_once : (slots : List Slot) (name : List ℕ) (base : Option VolumeFields) (ds : List DumpRecordFields) (a b : Result VolumeFields PlayFault) → PlaysOver slots name base ds a → PlaysOver slots name base ds b → a ≡ b
plays_once slots name base [] a b x y = made_once base a b x y
plays_once slots name base (d ∷ ds) a b x y =
    let same : y.0 ≡ x.0 = gives_once slots d (called_for d name) y.0 x.0 y.1 x.1 in
    given_once slots name d ds base x.0 a b (λ v p q. plays_once slots name (Some v) ds a b p q) x.2
    (subst (λ (g : Result IncrementFields Spot). after_given d base g (λ v. PlaysOver slots name (Some v) ds b) b) same y.2)
