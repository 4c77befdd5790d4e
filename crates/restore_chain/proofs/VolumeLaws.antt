-- A volume's fragments that stand one after the other.
use Rattle.std.proofs.Common.{◌≡◌, inl, inr, ℕ, zero, suc, ◌+◌, ◌-◌, ◌*◌, ◌<◌, ◌≤◌, true, Option, Some, None, List, [], ◌∷◌, ◌++◌, length, take, drop, slice_get, refl, sym, ◌∙◌, ap, subst, arith, append_assoc}
use Rattle.std.specs.Prelude.{IsSomeAnd, Ok, Err, Contains, ◌&&◌, if◌then◌else◌, ◌==◌}
use Rattle.std.specs.List.{flat_map}
use Rattle.std.proofs.lemmas.List.{append-nil, take_all}
use Rattle.std.proofs.lemmas.List.Concat.{flat_map-append}
use Rattle.std.proofs.lemmas.List.Sums.{sum_by-cons, sum_by-append}
use Rattle.std.proofs.lemmas.Option.{slice_get_within}
use Rattle.std.proofs.lemmas.Bool.{and_parts}
use Rattle.std.proofs.lemmas.Bool.Decides.{nat_tests}
use Rattle.vnode_model.specs.declared.increments.IncrementFields.{IncrementFields}
use Rattle.dump_stream.specs.Stream.{Spells}
use Rattle.dump_stream.specs.Reads.{IsCut}
use Rattle.tape_frames.specs.declared.vol_head.VolHeadFields.{VolHeadFields}
use Rattle.tape_frames.specs.declared.data.DataFields.{DataFields}
use Rattle.budb_changes.specs.declared.records.Frag.{Frag}
use Rattle.budb_changes.specs.declared.records.VolRecordFields.{VolRecordFields}
use Rattle.budb_changes.specs.declared.records.DumpRecordFields.{DumpRecordFields}
use Rattle.tape_text.specs.Texts.{Fragment, used_of}
use Rattle.tape_text.specs.Wholes.{Lying}
use Rattle.tape_writer.specs.Filling.{bytes_of, fragment_bytes}
use Rattle.tape_scan.specs.Slots.{Slot}
use Rattle.archive_model.specs.Holding.{called_head, called_frags, holds, numbered_from, holder_here}
use Rattle.archive_model.specs.Plays.{StandsAt, IsCalled, StandsOn, AllStand, HasBadFrame, Spot, Piece, pieces_from, pieces_of, IsLastEnd, IsFirstBad, StopsAt, Gives}
use Rattle.archive_model.proofs.SlotLaws.{find_is, first_or_later}
use Rattle.restore_chain.specs.declared.chain_plan.TapeNeed.{TapeNeed}
use Rattle.restore_chain.specs.declared.play_joined.Site.{Site}
use Rattle.restore_chain.specs.declared.play_joined.Joined.{Joined}
use Rattle.restore_chain.specs.Playing.{spot_of, joined_bytes, joined_used, Joins, HasJoined, AreHeld, HaveStood, EndsSo, Turns, Finishes}
use Rattle.restore_chain.specs.declared.play_fragment.Ended.TheVariants as ended
use Rattle.restore_chain.specs.declared.play_volume.Turn.TheVariants as turns
use Rattle.restore_chain.proofs.PieceLaws.{end_fits}
use Rattle.restore_chain.proofs.JoinLaws.{joins_both, joins_none}

-- ---- what a record calls for, by its place

same_lying : (c : Lying) (tape at last : ℕ) (head : VolHeadFields) → c.tape ≡ tape → c.at ≡ at → c.head ≡ head → c.last ≡ last → record { tape = tape; at = at; head = head; last = last } ≡ c
same_lying c tape at last head t a h l = fields c.tape tape c.at at c.head head c.last last t a h l
  where
    fields : (a b e f : ℕ) (h k : VolHeadFields) (m n : ℕ) → a ≡ b → e ≡ f → h ≡ k → m ≡ n → record { tape = b; at = f; head = k; last = n } ≡ (let x : Lying = record { tape = a; at = e; head = h; last = m } in x)
    fields a b e f h k m n p q r s = cc

pub called_at : (dump index n : ℕ) (v : VolRecordFields) (frags : List Frag) (i : ℕ) (f : Frag) (c : Lying) → slice_get frags i ≡ Some f → c.tape ≡ f.tape → c.at ≡ f.at → c.head ≡ called_head dump index (n + i) v
    → (i + 1 ≡ length frags → c.last ≡ 1) → ((i + 1 ≡ length frags → ⊥) → c.last ≡ 0) → slice_get (called_frags dump index n v frags) i ≡ Some c
called_at dump index n v [] i f c is tape at head last other = absurd (let lt = slice_get_within [] i f is in omega arith)
called_at dump index n v (g ∷ []) zero f c is tape at head last other =
    let same : g ≡ f = cc in
    let number : n + 0 ≡ n = omega arith in
    ap Some (same_lying c g.tape g.at 1 (called_head dump index n v) (tape ∙ ap (λ (x : Frag). x.tape) (sym same)) (at ∙ ap (λ (x : Frag). x.at) (sym same)) (head ∙ ap (λ (k : ℕ). called_head dump index k v) number) (last refl))
called_at dump index n v (g ∷ []) (suc i) f c is tape at head last other = absurd (let lt = slice_get_within [] i f is in omega arith)
called_at dump index n v (g ∷ h ∷ fs) zero f c is tape at head last other =
    let same : g ≡ f = cc in
    let number : n + 0 ≡ n = omega arith in
    ap Some (same_lying c g.tape g.at 0 (called_head dump index n v) (tape ∙ ap (λ (x : Frag). x.tape) (sym same)) (at ∙ ap (λ (x : Frag). x.at) (sym same)) (head ∙ ap (λ (k : ℕ). called_head dump index k v) number) (other (λ e. omega arith)))
called_at dump index n v (g ∷ h ∷ fs) (suc i) f c is tape at head last other =
    let number : n + suc i ≡ n + 1 + i = omega arith in
    called_at dump index (n + 1) v (h ∷ fs) i f c is tape at (head ∙ ap (λ (k : ℕ). called_head dump index k v) number) (λ e. last (omega arith)) (λ no. other (λ e. no (omega arith)))

pub length_called : (dump index n : ℕ) (v : VolRecordFields) (frags : List Frag) → length (called_frags dump index n v frags) ≡ length frags
length_called dump index n v [] = refl
length_called dump index n v (f ∷ []) = refl
length_called dump index n v (f ∷ g ∷ fs) = ap suc (length_called dump index (n + 1) v (g ∷ fs))

-- ---- lists

pub there_at : {X : Type 0} (xs : List X) (k : ℕ) → k < length xs → (x : X) × (slice_get xs k ≡ Some x)
there_at [] k lt = absurd (omega arith)
there_at (x ∷ xs) zero lt = (x, refl)
there_at (x ∷ xs) (suc k) lt = there_at xs k (omega arith)

pub take_one : {X : Type 0} (xs : List X) (k : ℕ) (x : X) → slice_get xs k ≡ Some x → take (suc k) xs ≡ take k xs ++ x ∷ []
take_one [] k x is = absurd (let lt = slice_get_within [] k x is in omega arith)
take_one (y ∷ xs) zero x is = cc
take_one {X} (y ∷ xs) (suc k) x is = ap (λ (l : List X). y ∷ l) (take_one xs k x is)

pub split_at : {X : Type 0} (xs : List X) (k : ℕ) (x : X) → slice_get xs k ≡ Some x → xs ≡ take k xs ++ x ∷ drop (suc k) xs
split_at [] k x is = absurd (let lt = slice_get_within [] k x is in omega arith)
split_at (y ∷ xs) zero x is = cc
split_at {X} (y ∷ xs) (suc k) x is = ap (λ (l : List X). y ∷ l) (split_at xs k x is)

-- ---- one fragment more

stand_more : (slots : List Slot) (d : DumpRecordFields) (cs : List Lying) (fs : List Fragment) (c : Lying) (f : Fragment) → AllStand slots d cs fs → StandsOn slots d c f → AllStand slots d (cs ++ c ∷ []) (fs ++ f ∷ [])
stand_more slots d [] [] c f stand one = (one, tt)
stand_more slots d [] (g ∷ fs) c f stand one = absurd stand
stand_more slots d (b ∷ cs) [] c f stand one = absurd stand
stand_more slots d (b ∷ cs) (g ∷ fs) c f stand one = (stand.0, stand_more slots d cs fs c f stand.1 one)

pieces_push : (slots : List Slot) (d : DumpRecordFields) (cs : List Lying) (fs : List Fragment) (c : Lying) (f : Fragment) → AllStand slots d cs fs → pieces_of (cs ++ c ∷ []) (fs ++ f ∷ []) ≡ pieces_of cs fs ++ pieces_from c.tape (c.at + 1) f.pieces
pieces_push slots d [] [] c f stand = append-nil (pieces_from c.tape (c.at + 1) f.pieces)
pieces_push slots d [] (g ∷ fs) c f stand = absurd stand
pieces_push slots d (b ∷ cs) [] c f stand = absurd stand
pieces_push slots d (b ∷ cs) (g ∷ fs) c f stand =
    ap (λ (l : List Piece). pieces_from b.tape (b.at + 1) g.pieces ++ l) (pieces_push slots d cs fs c f stand.1) ∙ sym (append_assoc (pieces_from b.tape (b.at + 1) g.pieces) (pieces_of cs fs) (pieces_from c.tape (c.at + 1) f.pieces))

last_push : (slots : List Slot) (d : DumpRecordFields) (cs : List Lying) (fs : List Fragment) (c : Lying) (f : Fragment) (spot : Spot) → AllStand slots d cs fs → spot.tape ≡ c.tape → spot.place ≡ c.at + length f.pieces + 1 → IsLastEnd (cs ++ c ∷ []) (fs ++ f ∷ []) spot
last_push slots d [] [] c f spot stand tape place = (tape, place)
last_push slots d [] (g ∷ fs) c f spot stand tape place = absurd stand
last_push slots d (b ∷ cs) [] c f spot stand tape place = absurd stand
last_push slots d (b ∷ []) (g ∷ []) c f spot stand tape place = (tape, place)
last_push slots d (b ∷ []) (g ∷ h ∷ fs) c f spot stand tape place = absurd stand.1
last_push slots d (b ∷ e ∷ cs) (g ∷ []) c f spot stand tape place = absurd stand.1
last_push slots d (b ∷ e ∷ cs) (g ∷ h ∷ fs) c f spot stand tape place = last_push slots d (e ∷ cs) (h ∷ fs) c f spot stand.1 tape place

pub stood_none : (slots : List Slot) (d : DumpRecordFields) (last : Site) (j : Joined) → HaveStood slots d [] last j j
stood_none slots d last j = record { fragments = []; stand = tt; joins = joins_none j; end = λ some. absurd (omega arith) }

pub stood_more : (slots : List Slot) (d : DumpRecordFields) (cs : List Lying) (k : ℕ) (c : Lying) (last site : Site) (old mid new : Joined) → slice_get cs k ≡ Some c
    → HaveStood slots d (take k cs) last old mid → Turns slots d c mid new (turns.Whole site) → HaveStood slots d (take (k + 1) cs) site old new
stood_more slots d cs k c last site old mid new there stood turn =
    let front : take k cs ++ c ∷ [] ≡ take (k + 1) cs = sym (take_one cs k c there) ∙ ap (λ (n : ℕ). take n cs) (let e : suc k ≡ k + 1 = omega arith in e) in
    subst (λ (l : List Lying). HaveStood slots d l site old new) front (record {
      fragments = stood.fragments ++ turn.0 ∷ [];
      stand = stand_more slots d (take k cs) stood.fragments c turn.0 stood.stand turn.1;
      joins = subst (λ (l : List Piece). Joins l old new) (sym (pieces_push slots d (take k cs) stood.fragments c turn.0 stood.stand))
          (joins_both (pieces_of (take k cs) stood.fragments) (pieces_from c.tape (c.at + 1) turn.0.pieces) old mid new stood.joins turn.4);
      end = λ some. last_push slots d (take k cs) stood.fragments c turn.0 (spot_of site) stood.stand turn.2 turn.3;
    })

pub bad_turn : (slots : List Slot) (d : DumpRecordFields) (cs : List Lying) (k : ℕ) (c : Lying) (last site : Site) (old mid new : Joined) → slice_get cs k ≡ Some c
    → HaveStood slots d (take k cs) last old mid → Turns slots d c mid new (turns.Bad site) → HasBadFrame slots d cs (spot_of site)
bad_turn slots d cs k c last site old mid new there stood turn = record {
  before = take k cs;
  bad = c;
  behind = drop (suc k) cs;
  joined = split_at cs k c there;
  fragments = stood.fragments;
  stand = stood.stand;
  tape = turn.0;
  place = turn.1;
}

-- ---- their data

from_bytes : (tape at : ℕ) (ds : List DataFields) → joined_bytes (pieces_from tape at ds) ≡ flat_map bytes_of ds
from_bytes tape at [] = refl
from_bytes tape at (d ∷ ds) = ap (λ (l : List ℕ). bytes_of d ++ l) (from_bytes tape (at + 1) ds)

from_used : (tape at : ℕ) (ds : List DataFields) → joined_used (pieces_from tape at ds) ≡ used_of ds
from_used tape at [] = refl
from_used tape at (d ∷ ds) = omega (arith, from_used tape (at + 1) ds, sum_by-cons (λ (x : DataFields). x.used) d ds, sum_by-cons (λ (x : Piece). x.data_frame.used) (record { spot = record { tape = tape; place = at }; data_frame = d }) (pieces_from tape (at + 1) ds))

pub bytes_are : (slots : List Slot) (d : DumpRecordFields) (cs : List Lying) (fs : List Fragment) → AllStand slots d cs fs → joined_bytes (pieces_of cs fs) ≡ flat_map fragment_bytes fs
bytes_are slots d [] [] stand = refl
bytes_are slots d [] (f ∷ fs) stand = absurd stand
bytes_are slots d (c ∷ cs) [] stand = absurd stand
bytes_are slots d (c ∷ cs) (f ∷ fs) stand =
    flat_map-append (λ (x : Piece). bytes_of x.data_frame) (pieces_from c.tape (c.at + 1) f.pieces) (pieces_of cs fs)
    ∙ ap (λ (l : List ℕ). l ++ joined_bytes (pieces_of cs fs)) (from_bytes c.tape (c.at + 1) f.pieces) ∙ ap (λ (l : List ℕ). fragment_bytes f ++ l) (bytes_are slots d cs fs stand.1)

called_of : (o : Option (ℕ × Slot)) (c : Lying) (f : Fragment) → IsSomeAnd o (λ s. StandsAt c s.1.items f) → IsCalled c f
called_of None c f stands = absurd stands
called_of (Some s) c f stands = stands.is

few_one : (slots : List Slot) (d : DumpRecordFields) (c : Lying) (f : Fragment) → StandsOn slots d c f → used_of f.pieces ≤ 4294967295
few_one slots d c f stands =
    let called = called_of (holder_here d c.tape slots) c f stands in
    omega (arith, called.is.bytes, (end_fits f called.fit).bytes)

pub few_all : (slots : List Slot) (d : DumpRecordFields) (cs : List Lying) (fs : List Fragment) → AllStand slots d cs fs → joined_used (pieces_of cs fs) ≤ 4294967295 * length cs
few_all slots d [] [] stand = omega arith
few_all slots d [] (f ∷ fs) stand = absurd stand
few_all slots d (c ∷ cs) [] stand = absurd stand
few_all slots d (c ∷ cs) (f ∷ fs) stand =
    let rest = few_all slots d cs fs stand.1 in
    omega (arith, rest, few_one slots d c f stand.0, from_used c.tape (c.at + 1) f.pieces, sum_by-append (λ (x : Piece). x.data_frame.used) (pieces_from c.tape (c.at + 1) f.pieces) (pieces_of cs fs))

-- all of it was joined to nothing
pub joined_all : (slots : List Slot) (d : DumpRecordFields) (cs : List Lying) (last : Site) (old new : Joined) → length cs ≤ 65535 → HasJoined [] old → (stood : HaveStood slots d cs last old new) → HasJoined (pieces_of cs stood.fragments) new
joined_all slots d cs last old new few none stood = stood.joins [] (let most = few_all slots d cs stood.fragments stood.stand in omega arith) none

-- ---- what they give

pub gives_stream : (slots : List Slot) (d : DumpRecordFields) (cs : List Lying) (last : Site) (old new : Joined) (i : IncrementFields) (stood : HaveStood slots d cs last old new) → Finishes (pieces_of cs stood.fragments) last (Ok i) → Gives slots d cs (Ok i)
gives_stream slots d cs last old new i stood spells = record { fragments = stood.fragments; stand = stood.stand; spells = subst (λ (l : List ℕ). Spells l i) (bytes_are slots d cs stood.fragments stood.stand) spells }

pub gives_bad : (slots : List Slot) (d : DumpRecordFields) (cs : List Lying) (last site : Site) (old new : Joined) (stood : HaveStood slots d cs last old new) → 0 < length cs → Finishes (pieces_of cs stood.fragments) last (Err site) → Gives slots d cs (Err (spot_of site))
gives_bad slots d cs last site old new stood some (inl stops) = inr (record {
  fragments = stood.fragments;
  stand = stood.stand;
  stops = inl (stops.0, subst (λ (l : List ℕ). StopsAt l stops.0) (bytes_are slots d cs stood.fragments stood.stand) stops.1, stops.2);
})
gives_bad slots d cs last site old new stood some (inr cut) = inr (record {
  fragments = stood.fragments;
  stand = stood.stand;
  stops = inr (subst IsCut (bytes_are slots d cs stood.fragments stood.stand) cut.0, subst (λ (x : Site). IsLastEnd cs stood.fragments (spot_of x)) (sym cut.1) (stood.end some));
})

-- ---- the slot that holds a tape

numbered_at : (n k : ℕ) (s : Slot) (slots : List Slot) → Contains (numbered_from n slots) (k, s) → (n ≤ k) × (slice_get slots (k - n) ≡ Some s)
numbered_at n k s [] there = absurd (omega (arith, there.1))
numbered_at n k s (t ∷ slots) there = elim (first_or_later (n, t) (numbered_from (n + 1) slots) (k, s) there) [
  | inl same ↦
      (let number : n ≡ k = ap (λ (x : ℕ × Slot). x.0) same in
      let none : k - n ≡ 0 = omega arith in
      (omega arith, ap (slice_get (t ∷ slots)) none ∙ ap (λ (x : ℕ × Slot). Some x.1) same))
  | inr later ↦
      (let rest = numbered_at (n + 1) k s slots later in
      let one : k - n ≡ suc (k - (n + 1)) = omega (arith, rest.0) in
      (omega (arith, rest.0), ap (slice_get (t ∷ slots)) one ∙ rest.1))
]

pub held_here : (slots : List Slot) (d : DumpRecordFields) (tape k : ℕ) (s : Slot) → holder_here d tape slots ≡ Some (k, s) → (slice_get slots k ≡ Some s) × (s.here ≡ true)
held_here slots d tape k s is =
    let found = find_is (λ (x : ℕ × Slot). x.1.here && holds d tape x.1.items) (numbered_from 0 slots) (k, s) is in
    let at = numbered_at 0 k s slots found.0 in
    let same : k - 0 ≡ k = omega arith in
    (ap (slice_get slots) (sym same) ∙ at.1, (and_parts s.here (holds d tape s.items) found.1).0)

-- a fragment that was played from it
pub turn_whole : (slots : List Slot) (d : DumpRecordFields) (c : Lying) (k : ℕ) (s : Slot) (f : Fragment) → holder_here d c.tape slots ≡ Some (k, s) → StandsAt c s.items f → StandsOn slots d c f
turn_whole slots d c k s f is stands = subst (λ (o : Option (ℕ × Slot)). IsSomeAnd o (λ x. StandsAt c x.1.items f)) (sym is) stands

pub turn_bad : (slots : List Slot) (d : DumpRecordFields) (c : Lying) (k place : ℕ) (s : Slot) → holder_here d c.tape slots ≡ Some (k, s) → IsFirstBad c s.items place → IsSomeAnd (holder_here d c.tape slots) (λ x. IsFirstBad c x.1.items place)
turn_bad slots d c k place s is bad = subst (λ (o : Option (ℕ × Slot)). IsSomeAnd o (λ x. IsFirstBad c x.1.items place)) (sym is) bad

pub frag_whole : (slots : List Slot) (d : DumpRecordFields) (c called : Lying) (k : ℕ) (s : Slot) (place : ℕ) (old new : Joined) → called ≡ c → holder_here d c.tape slots ≡ Some (k, s) → EndsSo called s.items old new (ended.Whole place)
    → Turns slots d c old new (turns.Whole (record { tape = called.tape; place = place }))
frag_whole slots d c called k s place old new same held ends =
    let e = subst (λ (l : Lying). EndsSo l s.items old new (ended.Whole place)) same ends in
    (e.0, turn_whole slots d c k s e.0 held e.1, ap (λ (l : Lying). l.tape) same, e.2, e.3)

pub frag_bad : (slots : List Slot) (d : DumpRecordFields) (c called : Lying) (k : ℕ) (s : Slot) (place : ℕ) (old new : Joined) → called ≡ c → holder_here d c.tape slots ≡ Some (k, s) → EndsSo called s.items old new (ended.Bad place)
    → Turns slots d c old new (turns.Bad (record { tape = called.tape; place = place }))
frag_bad slots d c called k s place old new same held ends = (ap (λ (l : Lying). l.tape) same, turn_bad slots d c k place s held (subst (λ (l : Lying). EndsSo l s.items old new (ended.Bad place)) same ends))

pub one_there : {X : Type 0} (o : Option X) (x y : X) → o ≡ Some x → o ≡ Some y → x ≡ y
one_there o x y a b = cc

-- all of them were played
pub all_taken : (slots : List Slot) (d : DumpRecordFields) (cs : List Lying) (n : ℕ) (last : Site) (old new : Joined) → length cs ≤ n → HaveStood slots d (take n cs) last old new → HaveStood slots d cs last old new
all_taken slots d cs n last old new past stood = subst (λ (l : List Lying). HaveStood slots d l last old new) (take_all n cs past) stood

-- the need of a fragment
pub held_at : (slots : List Slot) (d : DumpRecordFields) (cs : List Lying) (needs : List TapeNeed) (k : ℕ) (n : TapeNeed) → AreHeld slots d cs needs → k < length cs → slice_get needs k ≡ Some n
    → (c : Lying) × (slice_get cs k ≡ Some c) × (s : Slot) × (holder_here d c.tape slots ≡ Some (n.slot, s))
held_at slots d cs needs k n held lt at =
    let one = there_at cs k lt in
    let found = held k one.0 one.1 in
    let same : found.0 ≡ n = one_there (slice_get needs k) found.0 n found.1 at in
    (one.0, one.1, found.2, subst (λ (x : TapeNeed). holder_here d one.0.tape slots ≡ Some (x.slot, found.2)) same found.3)

pub held_some : (slots : List Slot) (d : DumpRecordFields) (cs : List Lying) (needs : List TapeNeed) (k : ℕ) → AreHeld slots d cs needs → k < length cs → slice_get needs k ≡ None → ⊥
held_some slots d cs needs k held lt none =
    let one = there_at cs k lt in
    let found = held k one.0 one.1 in
    let e : Some found.0 ≡ None = sym found.1 ∙ none in
    absurd (cc)

-- whether it is the last one
pub last_is : (a b n : ℕ) → n ≡ b → a ≡ b → ◌≡◌ {A = ℕ} (if a == n then 1 else 0) 1
last_is a b n same is = grind (arith, nat_tests)

pub last_not : (a b n : ℕ) → n ≡ b → (a ≡ b → ⊥) → ◌≡◌ {A = ℕ} (if a == n then 1 else 0) 0
last_not a b n same is = grind (arith, nat_tests)
