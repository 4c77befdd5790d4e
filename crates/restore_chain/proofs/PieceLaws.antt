-- A fragment that is called for, as far as it stands.
use Rattle.std.proofs.Common.{◌≡◌, ◌⊎◌, inl, inr, ℕ, zero, suc, ◌+◌, ◌-◌, ◌<◌, ◌≤◌, Bool, true, false, Option, Some, None, List, [], ◌∷◌, ◌++◌, length, map, take, drop, replicate, slice_get, refl, sym, ◌∙◌, ap, subst, arith, append_assoc, length-append, length-take, length-drop}
use Rattle.std.specs.Prelude.{All, ◌==◌}
use Rattle.std.proofs.lemmas.Bool.Decides.{nat_tests}
use Rattle.std.proofs.lemmas.Bool.{false≢true}
use Rattle.std.proofs.lemmas.List.{length-replicate, drop-replicate}
use Rattle.std.proofs.lemmas.List.Sums.{sum_by-cons, sum_by-append}
use Rattle.std.proofs.lemmas.List.Elements.{All-nil, All-cons, All-head, All-tail, All-push, All-append, All-replicate}
use Rattle.std.proofs.lemmas.Option.{slice_get_within, slice_get_cases}
use Rattle.tape_frames.specs.declared.frame.Frame.{Frame}
use Rattle.tape_frames.specs.declared.frame.Frame.TheVariants as frames
use Rattle.tape_frames.specs.declared.vol_head.VolHeadFields.{VolHeadFields}
use Rattle.tape_frames.specs.declared.data.DataFields.{DataFields}
use Rattle.tape_frames.specs.declared.vol_end.VolEndFields.{VolEndFields}
use Rattle.tape_frames.specs.Layouts.{FitsData, FitsVolEnd}
use Rattle.tape_text.specs.Items.{Item, Says, IsFitItem}
use Rattle.tape_text.specs.Texts.{Fragment, data_item, fragment_frames, room, AreFilled, IsPiece, used_of}
use Rattle.tape_text.specs.Wholes.{Lying}
use Rattle.archive_model.specs.Plays.{IsCalled, BeginsCalled, GoesOnCalled, StandsAt, IsFirstBad}
use Rattle.restore_chain.specs.declared.play_called.Seen.{Seen}
use Rattle.restore_chain.specs.declared.play_judge.Judged.TheVariants as judged
use Rattle.restore_chain.specs.Playing.{IsSaidAt, IsFitCall, end_of, TakesPiece, Judges, AreOpen, HasSeen, StandsBefore}

-- ---- lists

all_at : {X : Type 0} (P : X → Type 0) (xs : List X) (x : X) (ys : List X) → All P (xs ++ x ∷ ys) → P x
all_at P [] x ys all = All-head P x ys all
all_at P (y ∷ xs) x ys all = all_at P xs x ys (All-tail P y (xs ++ x ∷ ys) all)

all_one : {X : Type 0} (P : X → Type 0) (x : X) → P x → All P (x ∷ [])
all_one P x is = All-cons P x [] is (All-nil P)

none_short : (items : List Item) (k : ℕ) → slice_get items k ≡ None → length items ≤ k
none_short [] k is = omega arith
none_short (i ∷ items) zero is = absurd (cc)
none_short (i ∷ items) (suc k) is = let le = none_short items k is in omega arith

-- the items from a place on, up to one that is there
front_from : (items : List Item) (n : ℕ) (x : Item) → slice_get items n ≡ Some x → take (suc n) items ≡ take n items ++ x ∷ []
front_from [] n x is = absurd (let lt = slice_get_within [] n x is in omega arith)
front_from (i ∷ items) zero x is = cc
front_from (i ∷ items) (suc n) x is = ap (λ (l : List Item). i ∷ l) (front_from items n x is)

get_behind : (items : List Item) (at n k : ℕ) (x : Item) → k ≡ at + n → slice_get items k ≡ Some x → slice_get (drop at items) n ≡ Some x
get_behind items zero n k x same is = ap (slice_get items) (let e : n ≡ k = omega arith in e) ∙ is
get_behind [] (suc at) n k x same is = absurd (let lt = slice_get_within [] k x is in omega arith)
get_behind (i ∷ items) (suc at) n zero x same is = absurd (omega arith)
get_behind (i ∷ items) (suc at) n (suc k) x same is = get_behind items at n k x (omega arith) is

front_with : (items : List Item) (at n m k : ℕ) (x : Item) → k ≡ at + n → m ≡ n + 1 → slice_get items k ≡ Some x → take m (drop at items) ≡ take n (drop at items) ++ x ∷ []
front_with items at n m k x same next is =
    let e : m ≡ suc n = omega arith in
    ap (λ (i : ℕ). take i (drop at items)) e ∙ front_from (drop at items) n x (get_behind items at n k x same is)

-- ---- what is called for behind some Data

-- behind some Data of a fragment comes another one, or its end
frames_split : (ps qs : List DataFields) (x : Item) (e : VolEndFields) (more : List Item) → map data_item qs ++ Says (frames.VolEnd e) ∷ [] ≡ map data_item ps ++ x ∷ more
    → ((d : DataFields) × (ds : List DataFields) × (x ≡ data_item d) × (qs ≡ ps ++ d ∷ ds)) ⊎ ((x ≡ Says (frames.VolEnd e)) × (qs ≡ ps))
frames_split [] [] x e more same = inr (cc, refl)
frames_split [] (q ∷ qs) x e more same = inl (q, qs, cc, refl)
frames_split (p ∷ ps) [] x e more same = absurd (cc)
frames_split (p ∷ ps) (q ∷ qs) x e more same =
    let first : p ≡ q = cc in
    let rest : map data_item qs ++ Says (frames.VolEnd e) ∷ [] ≡ map data_item ps ++ x ∷ more = cc in
    elim (frames_split ps qs x e more rest) [
      | inl h ↦ let there : qs ≡ ps ++ h.0 ∷ h.1 = h.3 in inl (h.0, h.1, h.2, cc)
      | inr h ↦ let there : qs ≡ ps = h.1 in inr (h.0, cc)
    ]

-- a record that goes on a fragment with these Data
abbrev pub ComesNext : Lying → List DataFields → Item → Type 0
ComesNext c ps x = (f : Fragment) × IsCalled c f × (((d : DataFields) × (ds : List DataFields) × (x ≡ data_item d) × (f.pieces ≡ ps ++ d ∷ ds)) ⊎ ((x ≡ Says (frames.VolEnd f.end)) × (f.pieces ≡ ps)))

begins_next : (c : Lying) (ps : List DataFields) (x : Item) → BeginsCalled c ((Says (frames.VolHead c.head) ∷ map data_item ps) ++ x ∷ []) → ComesNext c ps x
begins_next c ps x b =
    let f = b.fragment in
    let whole : Says (frames.VolHead f.head) ∷ (map data_item f.pieces ++ Says (frames.VolEnd f.end) ∷ []) ≡ Says (frames.VolHead c.head) ∷ (map data_item ps ++ x ∷ b.more) = b.joined ∙ append_assoc (Says (frames.VolHead c.head) ∷ map data_item ps) (x ∷ []) b.more in
    let rest : map data_item f.pieces ++ Says (frames.VolEnd f.end) ∷ [] ≡ map data_item ps ++ x ∷ b.more = cc in
    (f, b.is, frames_split ps f.pieces x f.end b.more rest)

filled_at : (last : ℕ) (ps : List DataFields) (d : DataFields) (ds : List DataFields) → AreFilled last (ps ++ d ∷ ds) → (d.used ≡ room) ⊎ (last ≡ 1)
filled_at last [] d [] filled = filled
filled_at last [] d (e ∷ ds) filled = inl filled.0
filled_at last (p ∷ []) d ds filled = filled_at last [] d ds filled.1
filled_at last (p ∷ q ∷ ps) d ds filled = filled_at last (q ∷ ps) d ds filled.1

some_filled : (last : ℕ) → AreFilled last [] → ⊥
some_filled last filled = filled

-- Data that have all the room used are filled
full_filled : (last : ℕ) (p : DataFields) (ps : List DataFields) → All (λ d. d.used ≡ room) (p ∷ ps) → AreFilled last (p ∷ ps)
full_filled last p [] all = inl (All-head (λ d. d.used ≡ room) p [] all)
full_filled last p (q ∷ ps) all = (All-head (λ d. d.used ≡ room) p (q ∷ ps) all, full_filled last q ps (All-tail (λ d. d.used ≡ room) p (q ∷ ps) all))

-- and the last one need not, where the volume ends
last_filled : (ps : List DataFields) (d : DataFields) → All (λ x. x.used ≡ room) ps → AreFilled 1 (ps ++ d ∷ [])
last_filled [] d all = inr refl
last_filled (p ∷ []) d all = (All-head (λ x. x.used ≡ room) p [] all, inr refl)
last_filled (p ∷ q ∷ ps) d all = (All-head (λ x. x.used ≡ room) p (q ∷ ps) all, last_filled (q ∷ ps) d (All-tail (λ x. x.used ≡ room) p (q ∷ ps) all))

-- behind one that has room left comes none
no_more_filled : (last : ℕ) (ps : List DataFields) (d e : DataFields) (ds : List DataFields) → (d.used ≡ room → ⊥) → AreFilled last ((ps ++ d ∷ []) ++ e ∷ ds) → ⊥
no_more_filled last [] d e ds not filled = not filled.0
no_more_filled last (p ∷ []) d e ds not filled = no_more_filled last [] d e ds not filled.1
no_more_filled last (p ∷ q ∷ ps) d e ds not filled = no_more_filled last (q ∷ ps) d e ds not filled.1

open_filled : (last : ℕ) (open_still : Bool) (p : DataFields) (ps : List DataFields) → AreOpen last open_still (p ∷ ps) → AreFilled last (p ∷ ps)
open_filled last true p ps open_ = full_filled last p ps open_
open_filled last false p ps open_ = open_.0

open_more : (last : ℕ) (open_still : Bool) (ps : List DataFields) (d : DataFields) (ds : List DataFields) → AreOpen last open_still ps → AreFilled last (ps ++ d ∷ ds) → open_still ≡ true
open_more last true ps d ds open_ filled = refl
open_more last false ps d ds open_ filled = absurd (open_.1 d ds filled)

used_more : (ps : List DataFields) (d : DataFields) (ds : List DataFields) → used_of (ps ++ d ∷ ds) ≡ used_of ps + (d.used + used_of ds)
used_more ps d ds = sum_by-append (λ (x : DataFields). x.used) ps (d ∷ ds) ∙ ap (λ n. used_of ps + n) (sum_by-cons (λ (x : DataFields). x.used) d ds)

pub end_fits : (f : Fragment) → All IsFitItem (fragment_frames f) → FitsVolEnd f.end
end_fits f fit = all_at IsFitItem (Says (frames.VolHead f.head) ∷ map data_item f.pieces) (Says (frames.VolEnd f.end)) [] fit

-- ---- both ways

-- a Data that goes on a fragment is taken
takes : (c : Lying) (ps : List DataFields) (s : Seen) (f : Fragment) (d : DataFields) (ds : List DataFields) → HasSeen c ps s → IsCalled c f → f.pieces ≡ ps ++ d ∷ ds → TakesPiece c s d
takes c ps s f d ds seen called are =
    let filled : AreFilled c.last (ps ++ d ∷ ds) = subst (λ (l : ℕ). AreFilled l (ps ++ d ∷ ds)) called.last (subst (AreFilled f.end.last) are called.is.filled) in
    let own : IsPiece f.head.dump f.head.index d = all_at (IsPiece f.head.dump f.head.index) ps d ds (subst (All (IsPiece f.head.dump f.head.index)) are called.is.pieces) in
    let total : f.end.bytes ≡ used_of ps + (d.used + used_of ds) = called.is.bytes ∙ ap used_of are ∙ used_more ps d ds in
    let fit = end_fits f called.fit in
    record {
      is = subst (λ (h : VolHeadFields). IsPiece h.dump h.index d) called.head own;
      open_still = open_more c.last s.is_open ps d ds seen.filled filled;
      filled = filled_at c.last ps d ds filled;
      small = omega (arith, total, seen.sum, fit.bytes);
    }

same_end : (e : VolEndFields) (c : Lying) (sum : ℕ) → e.dump ≡ c.head.dump → e.index ≡ c.head.index → e.fragment ≡ c.head.fragment → e.last ≡ c.last → e.bytes ≡ sum → e ≡ end_of c sum
same_end e c sum dump index fragment last bytes = same_fields e.dump c.head.dump e.index c.head.index e.fragment c.head.fragment e.last c.last e.bytes sum dump index fragment last bytes
  where
    same_fields : (a a' b b' f f' l l' n n' : ℕ) → a ≡ a' → b ≡ b' → f ≡ f' → l ≡ l' → n ≡ n'
        → record { dump = a; index = b; fragment = f; last = l; bytes = n } ≡ (let r : VolEndFields = record { dump = a'; index = b'; fragment = f'; last = l'; bytes = n' } in r)
    same_fields a a' b b' f f' l l' n n' p q r t u = cc

-- an end that ends one is the one
ends : (c : Lying) (ps : List DataFields) (s : Seen) (f : Fragment) → HasSeen c ps s → IsCalled c f → f.pieces ≡ ps → (f.end ≡ end_of c s.sum) × (s.some ≡ true)
ends c ps s f seen called are =
    let h : f.head ≡ c.head = called.head in
    let i = called.is in
    (same_end f.end c s.sum (i.dump ∙ ap (λ (x : VolHeadFields). x.dump) h) (i.index ∙ ap (λ (x : VolHeadFields). x.index) h) (i.fragment ∙ ap (λ (x : VolHeadFields). x.fragment) h) called.last (i.bytes ∙ ap used_of are ∙ sym seen.sum), by s.some refl)
  where
    by : (b : Bool) → s.some ≡ b → b ≡ true
    by true is = refl
    by false is = absurd (some_filled f.end.last (subst (AreFilled f.end.last) (are ∙ seen.none is) called.is.filled))

-- a frame that is judged bad, or no frame, goes on no fragment
bad_ends : (c : Lying) (items : List Item) (place : ℕ) (ps : List DataFields) (s : Seen) (found : Option Frame) (x : Item) → HasSeen c ps s → IsSaidAt items place found → Judges c s found judged.Bad → slice_get items place ≡ Some x
    → ComesNext c ps x → ⊥
bad_ends c items place ps s found x seen said bad there (f, called, inl h) =
    bad.0 h.0 (said_is found (frames.Data h.0) said (there ∙ ap Some h.2)) (takes c ps s f h.0 h.1 seen called h.3)
  where
    said_is : (o : Option Frame) (g : Frame) → IsSaidAt items place o → slice_get items place ≡ Some (Says g) → o ≡ Some g
    said_is (Some f) g said is = cc
    said_is None g said is = absurd (said g is)
bad_ends c items place ps s found x seen said bad there (f, called, inr h) =
    let e = ends c ps s f seen called h.1 in
    bad.1 (said_is found (frames.VolEnd (end_of c s.sum)) said (there ∙ ap Some (h.0 ∙ ap (λ (y : VolEndFields). Says (frames.VolEnd y)) e.0))) e.1
  where
    said_is : (o : Option Frame) (g : Frame) → IsSaidAt items place o → slice_get items place ≡ Some (Says g) → o ≡ Some g
    said_is (Some f) g said is = cc
    said_is None g said is = absurd (said g is)

-- ---- what stands begins a fragment

end_of_fits : (c : Lying) (sum : ℕ) → IsFitCall c → sum ≤ 4294967295 → FitsVolEnd (end_of c sum)
end_of_fits c sum fit small = record { dump = fit.head.dump; index = fit.head.index; fragment = fit.head.fragment.1; last = fit.last; bytes = small }

fit_pieces : (ps : List DataFields) → All FitsData ps → All IsFitItem (map data_item ps)
fit_pieces [] all = All-nil IsFitItem
fit_pieces (p ∷ ps) all = All-cons IsFitItem (data_item p) (map data_item ps) (All-head FitsData p ps all) (fit_pieces ps (All-tail FitsData p ps all))

fit_frames : (c : Lying) (ps : List DataFields) (sum : ℕ) → IsFitCall c → All FitsData ps → sum ≤ 4294967295 → All IsFitItem (Says (frames.VolHead c.head) ∷ map data_item ps ++ Says (frames.VolEnd (end_of c sum)) ∷ [])
fit_frames c ps sum fit all small = All-append IsFitItem (Says (frames.VolHead c.head) ∷ map data_item ps) (Says (frames.VolEnd (end_of c sum)) ∷ [])
    (All-cons IsFitItem (Says (frames.VolHead c.head)) (map data_item ps) fit.head (fit_pieces ps all)) (all_one IsFitItem (Says (frames.VolEnd (end_of c sum))) (end_of_fits c sum fit small))

-- Data behind which the end may come make a fragment
pub made_called : (c : Lying) (ps : List DataFields) (sum : ℕ) → IsFitCall c → All (IsPiece c.head.dump c.head.index) ps → All FitsData ps → AreFilled c.last ps → sum ≡ used_of ps → sum ≤ 4294967295
    → IsCalled c (record { head = c.head; pieces = ps; end = end_of c sum })
made_called c ps sum fit each all filled total small = record {
  head = refl;
  last = refl;
  is = record { pieces = each; filled = filled; dump = refl; index = refl; fragment = refl; bytes = total };
  fit = fit_frames c ps sum fit all small;
}

-- a Data of zeros, for the fragment that a head alone begins
filler : Lying → ℕ → DataFields
filler c n = record { dump = c.head.dump; index = c.head.index; used = n; bytes = replicate n 0 }

filler_fits : (c : Lying) (n : ℕ) → n ≡ 16352 → IsFitCall c → FitsData (filler c n)
unfolding filler
filler_fits c n is fit = record {
  dump = fit.head.dump;
  index = fit.head.index;
  used = (omega (arith, is), omega (arith, is));
  size = length-replicate n 0 ∙ is;
  bytes = All-replicate (λ b. b < 256) n 0 (omega arith);
  rest = drop-replicate n n 0 ∙ ap (λ (k : ℕ). replicate k 0) (omega (arith, is));
}

filler_of : (c : Lying) → IsFitCall c → (d : DataFields) × IsPiece c.head.dump c.head.index d × FitsData d × (d.used ≡ 16352)
unfolding filler
filler_of c fit = with_room 16352 refl
  where
    with_room : (n : ℕ) → n ≡ 16352 → (d : DataFields) × IsPiece c.head.dump c.head.index d × FitsData d × (d.used ≡ 16352)
    with_room n is = (filler c n, (refl, refl), filler_fits c n is fit, is)

used_one : (d : DataFields) → d.used ≡ used_of (d ∷ [])
used_one d = omega (arith, sum_by-cons (λ (x : DataFields). x.used) d [])

-- what stands before a record goes on
pub goes_on : (c : Lying) (ps : List DataFields) (s : Seen) → IsFitCall c → HasSeen c ps s → s.sum ≤ 4294967295 → GoesOnCalled c (Says (frames.VolHead c.head) ∷ map data_item ps)
goes_on c [] s fit seen small =
    let d = filler_of c fit in
    record {
      fragment = record { head = c.head; pieces = d.0 ∷ []; end = end_of c d.0.used };
      is = made_called c (d.0 ∷ []) d.0.used fit (all_one (IsPiece c.head.dump c.head.index) d.0 d.1) (all_one FitsData d.0 d.2) (inl d.3) (used_one d.0) (omega (arith, d.3));
      next = data_item d.0;
      more = Says (frames.VolEnd (end_of c d.0.used)) ∷ [];
      joined = refl;
    }
goes_on c (p ∷ ps) s fit seen small = record {
  fragment = record { head = c.head; pieces = p ∷ ps; end = end_of c s.sum };
  is = made_called c (p ∷ ps) s.sum fit seen.each seen.fit (open_filled c.last s.is_open p ps seen.filled) seen.sum small;
  next = Says (frames.VolEnd (end_of c s.sum));
  more = [];
  joined = refl;
}

-- nothing goes on either
pub goes_on_none : (c : Lying) → IsFitCall c → GoesOnCalled c []
goes_on_none c fit =
    let d = filler_of c fit in
    record {
      fragment = record { head = c.head; pieces = d.0 ∷ []; end = end_of c d.0.used };
      is = made_called c (d.0 ∷ []) d.0.used fit (all_one (IsPiece c.head.dump c.head.index) d.0 d.1) (all_one FitsData d.0 d.2) (inl d.3) (used_one d.0) (omega (arith, d.3));
      next = Says (frames.VolHead c.head);
      more = data_item d.0 ∷ Says (frames.VolEnd (end_of c d.0.used)) ∷ [];
      joined = refl;
    }

-- ---- the first bad record

pub stands_long : (c : Lying) (items : List Item) (place : ℕ) (ps : List DataFields) → StandsBefore c items place ps → place ≤ length items
stands_long c items place ps stands =
    let n = ap length stands.there in
    let m = length_map ps in
    omega (arith, stands.place_is, n, m, length-take (1 + length ps) (drop c.at items), length-drop c.at items)
  where
    length_map : (ps : List DataFields) → length (map data_item ps) ≡ length ps
    length_map [] = refl
    length_map (p ∷ ps) = ap suc (length_map ps)

front_is : (c : Lying) (items : List Item) (place : ℕ) (ps : List DataFields) → StandsBefore c items place ps → take (place - c.at) (drop c.at items) ≡ Says (frames.VolHead c.head) ∷ map data_item ps
front_is c items place ps stands =
    let count : place - c.at ≡ 1 + length ps = omega (arith, stands.place_is) in
    ap (λ (n : ℕ). take n (drop c.at items)) count ∙ stands.there

-- with the next item
pub front_more : (c : Lying) (items : List Item) (place : ℕ) (ps : List DataFields) (x : Item) → StandsBefore c items place ps → slice_get items place ≡ Some x → take (place + 1 - c.at) (drop c.at items) ≡ (Says (frames.VolHead c.head) ∷ map data_item ps) ++ x ∷ []
front_more c items place ps x stands there =
    front_with items c.at (1 + length ps) (place + 1 - c.at) place x (omega (arith, stands.place_is)) (omega (arith, stands.place_is)) there ∙ ap (λ (l : List Item). l ++ x ∷ []) stands.there

pub bad_here : (c : Lying) (items : List Item) (place : ℕ) (ps : List DataFields) (s : Seen) (found : Option Frame) → IsFitCall c → StandsBefore c items place ps → HasSeen c ps s → s.sum ≤ 4294967295 → IsSaidAt items place found → Judges c s found judged.Bad → IsFirstBad c items place
bad_here c items place ps s found fit stands seen small said bad = record {
  behind = omega (arith, stands.place_is);
  there = λ n low high. let long = stands_long c items place ps stands in omega arith;
  before = subst (GoesOnCalled c) (sym (front_is c items place ps stands)) (goes_on c ps s fit seen small);
  here = elim (slice_get_cases items place).1 [
    | inl some ↦ inr (λ begins. bad_ends c items place ps s found some.0 seen said bad some.2 (begins_next c ps some.0 (subst (BeginsCalled c) (front_more c items place ps some.0 stands some.2) begins)))
    | inr none ↦ inl none.0
  ];
}

-- the end of the tape comes in mid-fragment
pub bad_past : (c : Lying) (items : List Item) (place : ℕ) (ps : List DataFields) (s : Seen) → IsFitCall c → StandsBefore c items place ps → HasSeen c ps s → s.sum ≤ 4294967295 → length items ≤ place → IsFirstBad c items place
bad_past c items place ps s fit stands seen small past = record {
  behind = omega (arith, stands.place_is);
  there = λ n low high. let long = stands_long c items place ps stands in omega arith;
  before = subst (GoesOnCalled c) (sym (front_is c items place ps stands)) (goes_on c ps s fit seen small);
  here = inl past;
}

first_of : (at : ℕ) (items : List Item) (x : Item) → slice_get items at ≡ Some x → take 1 (drop at items) ≡ x ∷ []
first_of at items x is = front_with items at 0 1 at x (omega arith) (omega arith) is

begins_head : (c : Lying) (x : Item) → BeginsCalled c (x ∷ []) → x ≡ Says (frames.VolHead c.head)
begins_head c x b =
    let f = b.fragment in
    let whole : Says (frames.VolHead f.head) ∷ (map data_item f.pieces ++ Says (frames.VolEnd f.end) ∷ []) ≡ x ∷ b.more = b.joined in
    let first : Says (frames.VolHead f.head) ≡ x = cc in
    sym first ∙ ap (λ (h : VolHeadFields). Says (frames.VolHead h)) b.is.head

-- the head isn't the one that is called for
pub bad_head : (c : Lying) (items : List Item) → IsFitCall c → (slice_get items c.at ≡ Some (Says (frames.VolHead c.head)) → ⊥) → IsFirstBad c items c.at
bad_head c items fit other =
    let none : 0 ≡ c.at - c.at = omega arith in
    let one : c.at + 1 - c.at ≡ 1 = omega arith in
    record {
      behind = omega arith;
      there = λ n low high. absurd (omega arith);
      before = subst (λ (n : ℕ). GoesOnCalled c (take n (drop c.at items))) none (goes_on_none c fit);
      here = elim (slice_get_cases items c.at).1 [
        | inl some ↦ inr (λ begins. other (some.2 ∙ ap Some (begins_head c some.0 (subst (BeginsCalled c) (ap (λ (n : ℕ). take n (drop c.at items)) one ∙ first_of c.at items some.0 some.2) begins))))
        | inr none_there ↦ inl none_there.0
      ];
    }

-- ---- a fragment that stands

pub stands_first : (c : Lying) (items : List Item) → slice_get items c.at ≡ Some (Says (frames.VolHead c.head)) → StandsBefore c items (c.at + 1) []
stands_first c items is = record { place_is = omega arith; there = first_of c.at items (Says (frames.VolHead c.head)) is }

pub seen_none : (c : Lying) → HasSeen c [] (record { sum = 0; some = false; is_open = true })
seen_none c = record {
  each = All-nil (IsPiece c.head.dump c.head.index);
  fit = All-nil FitsData;
  sum = refl;
  some = λ is. absurd (false≢true is);
  none = λ is. refl;
  small = omega arith;
  filled = All-nil (λ d. d.used ≡ room);
}

length_frames : (c : Lying) (ps : List DataFields) (e : VolEndFields) → length (Says (frames.VolHead c.head) ∷ map data_item ps ++ Says (frames.VolEnd e) ∷ []) ≡ 1 + length ps + 1
length_frames c ps e = omega (arith, length-append (map data_item ps) (Says (frames.VolEnd e) ∷ []), length_map ps)
  where
    length_map : (ps : List DataFields) → length (map data_item ps) ≡ length ps
    length_map [] = refl
    length_map (p ∷ ps) = ap suc (length_map ps)

filled_now : (c : Lying) (ps : List DataFields) (s : Seen) → HasSeen c ps s → s.some ≡ true → AreFilled c.last ps
filled_now c [] s seen some = absurd (let lt = seen.some some in omega arith)
filled_now c (p ∷ ps) s seen some = open_filled c.last s.is_open p ps seen.filled

pub stands_whole : (c : Lying) (items : List Item) (place : ℕ) (ps : List DataFields) (s : Seen) → IsFitCall c → StandsBefore c items place ps → HasSeen c ps s → s.sum ≤ 4294967295 → s.some ≡ true → slice_get items place ≡ Some (Says (frames.VolEnd (end_of c s.sum)))
    → StandsAt c items (record { head = c.head; pieces = ps; end = end_of c (used_of ps) })
stands_whole c items place ps s fit stands seen small some there =
    let e : VolEndFields = end_of c (used_of ps) in
    let x : Item = Says (frames.VolEnd e) in
    let count : length (Says (frames.VolHead c.head) ∷ map data_item ps ++ Says (frames.VolEnd e) ∷ []) ≡ place + 1 - c.at = omega (arith, length_frames c ps e, stands.place_is) in
    let found : slice_get items place ≡ Some x = there ∙ ap (λ (n : ℕ). Some (Says (frames.VolEnd (end_of c n)))) seen.sum in
    record {
      is = made_called c ps (used_of ps) fit seen.each seen.fit (filled_now c ps s seen some) refl (omega (arith, seen.sum));
      there = ap (λ (n : ℕ). take n (drop c.at items)) count ∙ front_more c items place ps x stands found;
    }

-- ---- one Data more

pub stands_more : (c : Lying) (items : List Item) (place : ℕ) (ps : List DataFields) (d : DataFields) → StandsBefore c items place ps → slice_get items place ≡ Some (Says (frames.Data d)) → StandsBefore c items (place + 1) (ps ++ d ∷ [])
stands_more c items place ps d stands there =
    let more : length (ps ++ d ∷ []) ≡ length ps + 1 = length-append ps (d ∷ []) in
    let count : 1 + length (ps ++ d ∷ []) ≡ place + 1 - c.at = omega (arith, stands.place_is, more) in
    record {
      place_is = omega (arith, stands.place_is, more);
      there = ap (λ (n : ℕ). take n (drop c.at items)) count ∙ front_more c items place ps (data_item d) stands there ∙ ap (λ (l : List Item). Says (frames.VolHead c.head) ∷ l) (map_more ps);
    }
  where
    map_more : (ps : List DataFields) → map data_item ps ++ data_item d ∷ [] ≡ map data_item (ps ++ d ∷ [])
    map_more [] = refl
    map_more (p ∷ ps) = ap (λ (l : List Item). data_item p ∷ l) (map_more ps)

open_now : (last : ℕ) (ps : List DataFields) (d : DataFields) (full : Bool) → All (λ x. x.used ≡ room) ps → (d.used ≡ room) ⊎ (last ≡ 1) → (full ≡ true → d.used ≡ room) → (full ≡ false → d.used ≡ room → ⊥) → AreOpen last full (ps ++ d ∷ [])
open_now last ps d true all filled full_is not_full = All-push (λ x. x.used ≡ room) ps d all (full_is refl)
open_now last ps d false all (inl is) full_is not_full = absurd (not_full refl is)
open_now last ps d false all (inr is) full_is not_full = (subst (λ (n : ℕ). AreFilled n (ps ++ d ∷ [])) (sym is) (last_filled ps d all), λ e es. no_more_filled last ps d e es (not_full refl))

was_open : (last : ℕ) (open_still : Bool) (ps : List DataFields) → open_still ≡ true → AreOpen last open_still ps → All (λ x. x.used ≡ room) ps
was_open last true ps is open_ = open_
was_open last false ps is open_ = absurd (false≢true is)

pub seen_more : (c : Lying) (ps : List DataFields) (s : Seen) (d : DataFields) (full : Bool) → HasSeen c ps s → TakesPiece c s d → FitsData d → (full ≡ true → d.used ≡ room) → (full ≡ false → d.used ≡ room → ⊥)
    → HasSeen c (ps ++ d ∷ []) (record { sum = s.sum + d.used; some = true; is_open = full })
seen_more c ps s d full seen taken fits full_is not_full = record {
  each = All-push (IsPiece c.head.dump c.head.index) ps d seen.each taken.is;
  fit = All-push FitsData ps d seen.fit fits;
  sum = omega (arith, seen.sum, used_more ps d []);
  some = λ is. omega (arith, length-append ps (d ∷ []));
  none = λ is. absurd (false≢true (sym is));
  small = taken.small;
  filled = open_now c.last ps d full (was_open c.last s.is_open ps taken.open_still seen.filled) taken.filled full_is not_full;
}

-- ---- what was said and judged

pub said_of : (items : List Item) (place : ℕ) (found : Option Frame) (f : Frame) → IsSaidAt items place found → found ≡ Some f → slice_get items place ≡ Some (Says f)
said_of items place found f said is = subst (IsSaidAt items place) is said

pub same_of : (j k : ℕ) → (j == k) ≡ true → j ≡ k
same_of j k is = grind (arith, nat_tests)

pub other_of : (j k : ℕ) → (j == k) ≡ false → j ≡ k → ⊥
other_of j k is = grind (arith, nat_tests)

pub same_said : (items : List Item) (place : ℕ) (f g : Frame) → slice_get items place ≡ Some (Says f) → slice_get items place ≡ Some (Says g) → f ≡ g
same_said items place f g a b = cc
