-- Where the code stands behind the longest front that it takes, it has found what a scan tells.
use Rattle.std.proofs.Common.{◌≡◌, ℕ, zero, suc, ◌+◌, ◌<◌, Some, None, List, [], ◌∷◌, ◌++◌, length, take, refl, sym, ap, subst, ◌∙◌, arith, append_assoc, length-take}
use Rattle.std.specs.Prelude.{All, slice_get, nat_lt, if◌then◌else◌}
use Rattle.std.proofs.lemmas.List.Elements.{All-tail}
use Rattle.tape_text.specs.Items.{Item, IsFitItem}
use Rattle.tape_text.specs.Texts.{Tape, tape_items, IsTape, IsText}
use Rattle.tape_scan.specs.declared.scanning_walk.Walk.{Walk}
use Rattle.tape_scan.specs.declared.sections.Sections.{Sections}
use Rattle.tape_scan.specs.Scans.{Scan}
use Rattle.tape_scan.specs.Sections.{told_by, IsScanOf}
use Rattle.tape_scan.specs.Steps.{Continues, after, sections_of, Walks, Walked}
use Rattle.tape_scan.proofs.ClosedLaws.{one_count}
use Rattle.tape_scan.proofs.ReachedAhead.{stands_next, stands_on}
use Rattle.tape_scan.proofs.ReachedFollows.{follows}
use Rattle.tape_scan.proofs.ReachedLists.{all_behind}
use Rattle.tape_scan.proofs.ReachedNext.{Good, went}
use Rattle.tape_scan.proofs.ReachedTold.{told_tape, told_where}
use Rattle.tape_scan.proofs.ReachedWhole.{Completed, completed}
use Rattle.tape_scan.proofs.Reached.{Reached, at_front, next, run, at_of, walk_at, whole_tape, Stands}

-- ---- what the code takes stands in a whole tape

record Ran (s : Reached) (at : ℕ) (items : List Item) (walk : Walk) : Type 0 where
  good : Good (run s items)
  is : walk ≡ walk_at (run s items)
  count : at_of (run s items) ≡ at + length items
  back : (w : Tape) (more : List Item) → Stands (run s items) w more → Stands s w (items ++ more)

ran : (s : Reached) (at : ℕ) (items : List Item) (walk : Walk) → Good s → at ≡ at_of s → Walks (walk_at s) at items walk → Ran s at items walk
ran s at [] walk good same walks = record { good = good; is = walks; count = omega (arith, same); back = λ w more stands. stands }
ran s at (i ∷ items) walk good same walks =
    let step = went s i good walks.0 walks.1 in
    let here : after at (walk_at s) i ≡ walk_at (next s i) = ap (λ (n : ℕ). after n (walk_at s) i) same ∙ sym step.walk in
    let rest : Walks (walk_at (next s i)) (at + 1) items walk = subst (λ (x : Walk). Walks x (at + 1) items walk) here walks.2 in
    let later = ran (next s i) (at + 1) items walk step.good (omega (arith, same, step.count)) rest in
    record {
      good = later.good;
      is = later.is;
      count = omega (arith, later.count);
      back = λ w more stands. step.back w (items ++ more) (later.back w more stands);
    }

-- ---- what stands in a whole tape is taken

record Reads (s : Reached) (items : List Item) : Type 0 where
  good : Good (run s items)
  count : at_of (run s items) ≡ at_of s + length items

reads : (s : Reached) (w : Tape) (items more : List Item) → Good s → IsTape w → All IsFitItem (items ++ more) → Stands s w (items ++ more) → Reads s items
reads s w [] more good is fits stands = record { good = good; count = omega arith }
reads s w (i ∷ items) more good is fits stands =
    let goes : Continues (walk_at s) i = follows s stands.rest i (items ++ more) (subst IsTape (sym stands.whole) is) fits stands.items in
    let fit : IsFitItem i = fits 0 i (omega arith) in
    let step = went s i good fit goes in
    let later = reads (next s i) w items more step.good is (All-tail IsFitItem i (items ++ more) fits) (stands_next s w i (items ++ more) stands) in
    record { good = later.good; count = omega (arith, later.count, step.count) }

text_stands : (w : Tape) (items : List Item) → tape_items w ≡ items → Stands at_front w items
text_stands w items same = record { rest = w; whole = refl; items = same }

-- ---- fronts

front_suc : (items : List Item) (n : ℕ) → n < length items → (i : Item) × (slice_get items n ≡ Some i) × (take (suc n) items ≡ take n items ++ i ∷ [])
front_suc [] n lt = absurd (omega arith)
front_suc (x ∷ items) zero lt = (x, refl, refl)
front_suc (x ∷ items) (suc n) lt = (let rest = front_suc items n (omega arith) in (rest.0, rest.1, ap (λ (l : List Item). x ∷ l) rest.2))

front_more : (items : List Item) (n : ℕ) → n < length items → (i : Item) × (slice_get items n ≡ Some i) × (take (n + 1) items ≡ take n items ++ i ∷ [])
front_more items n lt =
    let same : n + 1 ≡ suc n = omega arith in
    let front = front_suc items n lt in
    (front.0, front.1, ap (λ (k : ℕ). take k items) same ∙ front.2)

-- ---- a scan of a tape tells what the code finds where it stands

module _ (slot : ℕ) (items : List Item) (s : Scan items) where
  front_stands : Stands at_front s.front.text.whole (take s.count items ++ s.front.text.more)
  front_stands = text_stands s.front.text.whole (take s.count items ++ s.front.text.more) s.front.text.joined

  front_reads : Reads at_front (take s.count items)
  front_reads = reads at_front s.front.text.whole (take s.count items) s.front.text.more tt s.front.text.is (subst (All IsFitItem) s.front.text.joined s.front.text.is.fit) front_stands

  front_count : at_of (run at_front (take s.count items)) ≡ s.count
  front_count = omega (arith, front_reads.count, s.front.within, length-take s.count items)

  pub told_is : told_by slot s ≡ sections_of slot (if nat_lt s.count (length items) then Some s.count else None) (walk_at (run at_front (take s.count items)))
  told_is =
      let stands : Stands (run at_front (take s.count items)) s.front.text.whole s.front.text.more = stands_on at_front s.front.text.whole (take s.count items) s.front.text.more front_stands in
      ap (λ (w : Tape). told_tape slot (if nat_lt s.count (length items) then Some s.count else None) s.count w) (sym stands.whole)
      ∙ ap (λ (n : ℕ). told_tape slot (if nat_lt s.count (length items) then Some s.count else None) n (whole_tape (run at_front (take s.count items)) stands.rest)) (sym front_count)
      ∙ told_where slot (if nat_lt s.count (length items) then Some s.count else None) (run at_front (take s.count items)) stands.rest

-- one tape is told once
pub told_once : (slot : ℕ) (items : List Item) (one other : Sections) → IsScanOf slot items one → IsScanOf slot items other → one ≡ other
told_once slot items one other (a, a_is) (b, b_is) =
    a_is ∙ told_is slot items a ∙ ap (λ (n : ℕ). sections_of slot (if nat_lt n (length items) then Some n else None) (walk_at (run at_front (take n items)))) (one_count items a b) ∙ sym (told_is slot items b) ∙ sym b_is

-- ---- what the code finds is what a scan tells

module _ (slot : ℕ) (items : List Item) (n : ℕ) (walk : Walk) (walked : Walked items n walk) where
  behind : Ran at_front 0 (take n items) walk
  behind = ran at_front 0 (take n items) walk tt refl walked.taken

  all_of_it : Completed (run at_front (take n items))
  all_of_it = completed (run at_front (take n items)) behind.good

  front_text : IsText (take n items)
  front_text =
      let stands = behind.back all_of_it.whole all_of_it.more all_of_it.stands in
      record { whole = all_of_it.whole; more = all_of_it.more; is = all_of_it.is; joined = ap tape_items (sym stands.whole) ∙ stands.items }

  no_longer : n < length items → IsText (take (n + 1) items) → ⊥
  no_longer lt text =
      let item = front_more items n lt in
      let joined : tape_items text.whole ≡ take n items ++ (item.0 ∷ text.more) =
      text.joined ∙ ap (λ (l : List Item). l ++ text.more) item.2 ∙ append_assoc (take n items) (item.0 ∷ []) text.more in
      let stands : Stands (run at_front (take n items)) text.whole (item.0 ∷ text.more) = stands_on at_front text.whole (take n items) (item.0 ∷ text.more) (text_stands text.whole (take n items ++ (item.0 ∷ text.more)) joined) in
      let fits : All IsFitItem (take n items ++ (item.0 ∷ text.more)) = subst (All IsFitItem) joined text.is.fit in
      let goes : Continues (walk_at (run at_front (take n items))) item.0 =
      follows (run at_front (take n items)) stands.rest item.0 text.more (subst IsTape (sym stands.whole) text.is) (all_behind IsFitItem (take n items) (item.0 ∷ text.more) fits) stands.items in
      walked.stops item.0 item.1 (subst (λ (x : Walk). Continues x item.0) (sym behind.is) goes)

  the_scan : Scan items
  the_scan = record { count = n; front = record { within = walked.within; text = front_text; stops = no_longer } }

  pub scan_is : IsScanOf slot items (sections_of slot (if nat_lt n (length items) then Some n else None) walk)
  unfolding the_scan
  scan_is = (the_scan, ap (λ (x : Walk). sections_of slot (if nat_lt n (length items) then Some n else None) x) behind.is ∙ sym (told_is slot items the_scan))
