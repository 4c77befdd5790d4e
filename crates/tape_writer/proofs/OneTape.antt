-- What is left of the volumes, and the room of a tape, fix the fragments of a tape.
use Rattle.std.proofs.Common.{◌≡◌, ◌⊎◌, inl, inr, ℕ, ◌+◌, ◌<◌, ◌≤◌, Option, Some, List, [], ◌∷◌, ◌++◌, length, sym, ap, subst, ◌∙◌, arith}
use Rattle.std.specs.Prelude.{All, ◌==◌, sum_by}
use Rattle.std.proofs.Math.Nat.{mul-le-mul_right}
use Rattle.std.proofs.lemmas.Bool.{cases_lt, cases_Bool, eqb-true, eqb-false}
use Rattle.std.proofs.lemmas.List.{append_cancel_left}
use Rattle.std.proofs.lemmas.List.Elements.{All-head, All-tail}
use Rattle.std.proofs.lemmas.List.Sums.{sum_by-cons}
use Rattle.tape_config.specs.declared.port.PortFields.{PortFields}
use Rattle.tape_frames.specs.declared.data.DataFields.{DataFields}
use Rattle.tape_text.specs.Texts.{Fragment, AreFilled, Linked, NextFragment}
use Rattle.tape_text.specs.Wholes.{GoesOn, Ends}
use Rattle.tape_writer.specs.Filling.{Dumping, fragment_blocks, fragment_bytes}
use Rattle.tape_writer.specs.Room.{taken_by}
use Rattle.tape_writer.proofs.OneFragment.{IsWell, Follows, GoesFar, bytes_at, bytes_first, bytes_other, some_behind, same_head, same_first}

-- of each volume the same bytes
abbrev pub SameBytes : ℕ → List Fragment → List Fragment → Type 0
SameBytes n xs ys = (i : ℕ) → i < n → bytes_at i xs ≡ bytes_at i ys

same_tail : (n : ℕ) (f : Fragment) (xs ys : List Fragment) → SameBytes n (f ∷ xs) (f ∷ ys) → SameBytes n xs ys
same_tail n f xs ys same i below = elim (cases_Bool (f.head.index == i)) [
  | inl here ↦
      (let at : f.head.index ≡ i = eqb-true f.head.index i here in
      append_cancel_left (fragment_bytes f) (bytes_at i xs) (bytes_at i ys) (sym (bytes_first i f xs at) ∙ same i below ∙ bytes_first i f ys at))
  | inr other ↦
      (let apart = eqb-false f.head.index i other in
      sym (bytes_other i f xs apart) ∙ same i below ∙ bytes_other i f ys apart)
]

-- A tape is left behind this fragment, where so much is on it: the dump ends there, or the tape is full.
abbrev pub LeftAt : PortFields → ℕ → ℕ → ℕ → List Fragment → Fragment → Type 0
LeftAt port n blocks marks rest f =
    ((f.end.last ≡ 1) × (f.head.index + 1 ≡ n))
    ⊎ ((rest ≡ [] → ⊥) × (((f.end.last ≡ 0) × (port.capacity < taken_by port (blocks + 1) (marks + 0))) ⊎ ((f.end.last ≡ 1) × (port.capacity < taken_by port (blocks + 3) (marks + 1)))))

-- fragments of a tape that has so many blocks and filemarks with them, and those of the tapes behind it
pub record Side (port : PortFields) (dump : ℕ) (volumes : List Dumping) (blocks marks : ℕ) (fs rest : List Fragment) : Type 0 where
  pub linked : Linked GoesOn (fs ++ rest)
  pub inside : Linked NextFragment fs
  pub well : All (IsWell dump volumes) (fs ++ rest)
  pub stays : taken_by port (blocks + 0) (marks + 0) ≤ port.capacity
  pub leaves : Ends (LeftAt port (length volumes) blocks marks rest) fs

takes_more : (port : PortFields) (b c m n : ℕ) → b ≤ c → m ≤ n → taken_by port b m ≤ taken_by port c n
takes_more port b c m n blocks marks = omega (arith, blocks, mul-le-mul_right port.filemark marks)

-- what has no room isn't there
overflows : (port : PortFields) (b c m n : ℕ) → port.capacity < taken_by port b m → taken_by port c n ≤ port.capacity → b ≤ c → m ≤ n → ⊥
overflows port b c m n lacks stays blocks marks = absurd (omega (arith, lacks, stays, takes_more port b c m n blocks marks))

blocks_of : List Fragment → ℕ
blocks_of fs = sum_by fragment_blocks fs

-- a fragment that isn't the last of its volume isn't shorter than another there
not_shorter : (port : PortFields) (n b m tp mp tq mq : ℕ) (rest : List Fragment) (f g : Fragment) (gs : List Fragment) → f.end.last ≡ 0 → tp ≡ b + sum_by fragment_blocks (f ∷ []) → mp ≡ m + 1 → tq ≡ b + sum_by fragment_blocks (g ∷ gs) → mq ≡ m + length (g ∷ gs)
    → LeftAt port n tp mp rest f → taken_by port (tq + 0) (mq + 0) ≤ port.capacity → length g.pieces ≤ length f.pieces
not_shorter port n b m tp mp tq mq rest f g gs last tps mps tqs mqs left stays = elim (cases_lt (length f.pieces) (length g.pieces)) [
  | inl longer ↦ elim left [
    | inl ended ↦ absurd (omega (arith, ended.0, last))
    | inr full ↦ elim full.1 [
      | inl lacks ↦ absurd (overflows port (tp + 1) (tq + 0) (mp + 0) (mq + 0) lacks.1 stays (omega (arith, tps, tqs, longer, sum_by-cons fragment_blocks f [], sum_by-cons fragment_blocks g gs)) (omega (arith, mps, mqs)))
      | inr lacks ↦ absurd (omega (arith, lacks.0, last))
    ]
  ]
  | inr le ↦ le
]

goes_far : (port : PortFields) (dump : ℕ) (volumes : List Dumping) (b m tp mp tq mq : ℕ) (rest : List Fragment) (f g : Fragment) (gs : List Fragment) → tp ≡ b + sum_by fragment_blocks (f ∷ []) → mp ≡ m + 1 → tq ≡ b + sum_by fragment_blocks (g ∷ gs) → mq ≡ m + length (g ∷ gs)
    → Side port dump volumes tp mp (f ∷ []) rest → taken_by port (tq + 0) (mq + 0) ≤ port.capacity → f.end.last ≡ 0 → GoesFar f rest g
goes_far port dump volumes b m tp mp tq mq rest f g gs tps mps tqs mqs side stays last = record {
  some = some_behind dump volumes f rest side.linked (All-tail (IsWell dump volumes) f rest side.well) last (elim side.leaves [
    | inl ended ↦ absurd (omega (arith, ended.0, last))
    | inr full ↦ full.0
  ]);
  long = not_shorter port (length volumes) b m tp mp tq mq rest f g gs last tps mps tqs mqs side.leaves stays;
}

-- a fragment has a piece
some_piece : (last : ℕ) (ds : List DataFields) → AreFilled last ds → 1 ≤ length ds
some_piece last [] filled = absurd filled
some_piece last (d ∷ ds) filled = omega arith

-- a tape isn't left where another one goes on
left_early : (port : PortFields) (dump : ℕ) (volumes : List Dumping) (b m tp mp tq mq : ℕ) (rest more : List Fragment) (f h : Fragment) (hs : List Fragment) → tp ≡ b + sum_by fragment_blocks (f ∷ []) → mp ≡ m + 1 → tq ≡ b + sum_by fragment_blocks (f ∷ h ∷ hs) → mq ≡ m + length (f ∷ h ∷ hs)
    → LeftAt port (length volumes) tp mp rest f → Side port dump volumes tq mq (f ∷ h ∷ hs) more → ⊥
left_early port dump volumes b m tp mp tq mq rest more f h hs tps mps tqs mqs left side =
    let next = side.inside.0 in
    let well = All-head (IsWell dump volumes) h (hs ++ more) (All-tail (IsWell dump volumes) f (h ∷ hs ++ more) side.well) in
    let piece = some_piece h.end.last h.pieces well.own.filled in
    elim left [
      | inl ended ↦ absurd (omega (arith, ended.1, next.1.0, well.within))
      | inr full ↦ elim full.1 [
        | inl lacks ↦ absurd (omega (arith, lacks.0, next.0))
        | inr lacks ↦ overflows port (tp + 3) (tq + 0) (mp + 1) (mq + 0) lacks.1 side.stays
            (omega (arith, tps, tqs, piece, sum_by-cons fragment_blocks f [], sum_by-cons fragment_blocks f (h ∷ hs), sum_by-cons fragment_blocks h hs)) (omega (arith, mps, mqs))
      ]
    ]

pub same_fragments : (port : PortFields) (dump : ℕ) (volumes : List Dumping) (prev : Option Fragment) (b m tp mp tq mq : ℕ) (f : Fragment) (fs : List Fragment) (g : Fragment) (gs xs ys : List Fragment)
    → tp ≡ b + sum_by fragment_blocks (f ∷ fs) → mp ≡ m + length (f ∷ fs) → tq ≡ b + sum_by fragment_blocks (g ∷ gs) → mq ≡ m + length (g ∷ gs)
    → Side port dump volumes tp mp (f ∷ fs) xs → Side port dump volumes tq mq (g ∷ gs) ys → Follows prev f → Follows prev g → SameBytes (length volumes) (f ∷ fs ++ xs) (g ∷ gs ++ ys) → f ∷ fs ≡ g ∷ gs
same_fragments port dump volumes prev b m tp mp tq mq f [] g [] xs ys tps mps tqs mqs one two a c same =
    let wf = All-head (IsWell dump volumes) f xs one.well in
    let wg = All-head (IsWell dump volumes) g ys two.well in
    let head = same_head dump volumes prev f g wf wg a c in
    let first : f ≡ g = same_first dump volumes f g xs ys wf wg head one.linked two.linked (same f.head.index wf.within)
    (goes_far port dump volumes b m tp mp tq mq xs f g [] tps mps tqs mqs one two.stays) (goes_far port dump volumes b m tq mq tp mp ys g f [] tqs mqs tps mps two one.stays) in
    ap (λ (x : Fragment). x ∷ []) first
same_fragments port dump volumes prev b m tp mp tq mq f [] g (h ∷ hs) xs ys tps mps tqs mqs one two a c same =
    let wf = All-head (IsWell dump volumes) f xs one.well in
    let wg = All-head (IsWell dump volumes) g (h ∷ hs ++ ys) two.well in
    let head = same_head dump volumes prev f g wf wg a c in
    let first : f ≡ g = same_first dump volumes f g xs (h ∷ hs ++ ys) wf wg head one.linked two.linked (same f.head.index wf.within)
    (goes_far port dump volumes b m tp mp tq mq xs f g (h ∷ hs) tps mps tqs mqs one two.stays) (λ zero. absurd (omega (arith, zero, two.inside.0.0))) in
    absurd (left_early port dump volumes b m tp mp tq mq xs ys f h hs tps mps (subst (λ (x : Fragment). tq ≡ b + sum_by fragment_blocks (x ∷ h ∷ hs)) (sym first) tqs) mqs one.leaves
    (subst (λ (x : Fragment). Side port dump volumes tq mq (x ∷ h ∷ hs) ys) (sym first) two))
same_fragments port dump volumes prev b m tp mp tq mq f (h ∷ hs) g [] xs ys tps mps tqs mqs one two a c same =
    let wf = All-head (IsWell dump volumes) f (h ∷ hs ++ xs) one.well in
    let wg = All-head (IsWell dump volumes) g ys two.well in
    let head = same_head dump volumes prev f g wf wg a c in
    let first : f ≡ g = same_first dump volumes f g (h ∷ hs ++ xs) ys wf wg head one.linked two.linked (same f.head.index wf.within)
    (λ zero. absurd (omega (arith, zero, one.inside.0.0))) (goes_far port dump volumes b m tq mq tp mp ys g f (h ∷ hs) tqs mqs tps mps two one.stays) in
    absurd (left_early port dump volumes b m tq mq tp mp ys xs g h hs tqs mqs (subst (λ (x : Fragment). tp ≡ b + sum_by fragment_blocks (x ∷ h ∷ hs)) first tps) mps two.leaves
    (subst (λ (x : Fragment). Side port dump volumes tp mp (x ∷ h ∷ hs) xs) first one))
same_fragments port dump volumes prev b m tp mp tq mq f (h ∷ hs) g (k ∷ ks) xs ys tps mps tqs mqs one two a c same =
    let wf = All-head (IsWell dump volumes) f (h ∷ hs ++ xs) one.well in
    let wg = All-head (IsWell dump volumes) g (k ∷ ks ++ ys) two.well in
    let head = same_head dump volumes prev f g wf wg a c in
    let first : f ≡ g = same_first dump volumes f g (h ∷ hs ++ xs) (k ∷ ks ++ ys) wf wg head one.linked two.linked (same f.head.index wf.within)
    (λ zero. absurd (omega (arith, zero, one.inside.0.0))) (λ zero. absurd (omega (arith, zero, two.inside.0.0))) in
    let blocks : fragment_blocks g ≡ fragment_blocks f = ap fragment_blocks (sym first) in
    let rest : h ∷ hs ≡ k ∷ ks = same_fragments port dump volumes (Some f) (b + fragment_blocks f) (m + 1) tp mp tq mq h hs k ks xs ys
    (omega (arith, tps, sum_by-cons fragment_blocks f (h ∷ hs))) (omega (arith, mps)) (omega (arith, tqs, blocks, sum_by-cons fragment_blocks g (k ∷ ks))) (omega (arith, mqs))
    (record { linked = one.linked.1; inside = one.inside.1; well = All-tail (IsWell dump volumes) f (h ∷ hs ++ xs) one.well; stays = one.stays; leaves = one.leaves })
    (record { linked = two.linked.1; inside = two.inside.1; well = All-tail (IsWell dump volumes) g (k ∷ ks ++ ys) two.well; stays = two.stays; leaves = two.leaves })
    one.linked.0 (subst (λ (x : Fragment). Follows (Some x) k) (sym first) two.linked.0)
    (same_tail (length volumes) f (h ∷ hs ++ xs) (k ∷ ks ++ ys) (subst (λ (x : Fragment). SameBytes (length volumes) (f ∷ h ∷ hs ++ xs) (x ∷ k ∷ ks ++ ys)) (sym first) same)) in
    λ i. first i ∷ rest i
