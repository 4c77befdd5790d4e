-- What a scan tells is what the code has found where it stands.
use Rattle.std.proofs.Common.{◌≡◌, ℕ, ◌+◌, ◌<◌, ◌≤◌, Bool, true, false, Option, Some, None, List, [], ◌∷◌, ◌++◌, length, map, refl, sym, ap, ◌∙◌, arith, append-nil, length-append}
use Rattle.std.specs.Prelude.{filter, sum_by, nat_lt, ◌==◌, if◌then◌else◌}
use Rattle.std.specs.List.{flat_map}
use Rattle.std.proofs.lemmas.Bool.{lt-ltb, le-ltb, le-leb, lt-leb}
use Rattle.std.proofs.lemmas.List.{map-append}
use Rattle.std.proofs.lemmas.List.Elements.{filter-append}
use Rattle.std.proofs.lemmas.List.Sums.{sum_by-cons, sum_by-append}
use Rattle.tape_text.specs.Texts.{Fragment, Part, Tape, part_items}
use Rattle.tape_text.specs.Parts.{FoundFragment, FoundPart, fragment_len, fragments_len, part_len, part_marks, fragments_at, fragments_of, parts_at, parts_of}
use Rattle.tape_scan.specs.declared.sections.FragFound.{FragFound}
use Rattle.tape_scan.specs.declared.sections.PartFound.{PartFound}
use Rattle.tape_scan.specs.declared.sections.Sections.{Sections}
use Rattle.tape_scan.specs.Scans.{is_begun}
use Rattle.tape_scan.specs.Sections.{end_at, told_fragment, is_headed, told_part}
use Rattle.tape_scan.specs.Steps.{sections_of}
use Rattle.tape_scan.proofs.ScanLaws.{part_length}
use Rattle.tape_scan.proofs.Reached.{Reached, at_front, labeled, between, in_part, in_fragment, behind_fragment, behind_part, tape_len, at_of, closed_frag, closed_part, walk_at, Rest, longer, whole_part, whole_fragment, whole_tape}

-- ---- places of lists one behind another

pub parts_long : (ps : List Part) → length (flat_map part_items ps) ≡ sum_by part_len ps
parts_long [] = refl
parts_long (p ∷ ps) = omega (arith, length-append (part_items p) (flat_map part_items ps), part_length p, parts_long ps, sum_by-cons part_len p ps)

pub tape_long : (t : Tape) → tape_len t ≡ 2 + sum_by part_len t.parts
tape_long t = omega (arith, parts_long t.parts)

pub parts_at_append : (at marks : ℕ) (ps qs : List Part) (at2 marks2 : ℕ) → at2 ≡ at + sum_by part_len ps → marks2 ≡ marks + sum_by part_marks ps → parts_at at marks (ps ++ qs) ≡ parts_at at marks ps ++ parts_at at2 marks2 qs
parts_at_append at marks [] qs at2 marks2 e f =
    let first : at ≡ at2 = omega (arith, e) in
    let second : marks ≡ marks2 = omega (arith, f) in
    cc
parts_at_append at marks (p ∷ ps) qs at2 marks2 e f =
    ap (λ (l : List FoundPart). record { part = p; first = at; end = at + part_len p; marks = marks + part_marks p } ∷ l)
    (parts_at_append (at + part_len p) (marks + part_marks p) ps qs at2 marks2 (omega (arith, e, sum_by-cons part_len p ps)) (omega (arith, f, sum_by-cons part_marks p ps)))

pub fragments_at_append : (at : ℕ) (fs gs : List Fragment) (at2 : ℕ) → at2 ≡ at + fragments_len fs → fragments_at at (fs ++ gs) ≡ fragments_at at fs ++ fragments_at at2 gs
fragments_at_append at [] gs at2 e =
    let first : at ≡ at2 = omega (arith, e) in
    cc
fragments_at_append at (f ∷ fs) gs at2 e =
    ap (λ (l : List FoundFragment). record { fragment = f; at = at } ∷ l) (fragments_at_append (at + fragment_len f) fs gs at2 (omega (arith, e, sum_by-cons fragment_len f fs)))

-- ---- fragments

abbrev frag_told : Bool → FoundFragment → FragFound
frag_told ended f = record { head = f.fragment.head; at = f.at; last = if ended then Some (f.fragment.end.last == 1) else None }

frag_closed : (n : ℕ) (f : FoundFragment) → end_at f < n → told_fragment n f ≡ closed_frag f
frag_closed n f lt = ap (λ (b : Bool). frag_told b f) (lt-ltb (end_at f) n lt)

frag_open : (n : ℕ) (f : FoundFragment) → n ≤ end_at f → told_fragment n f ≡ frag_told false f
frag_open n f le = ap (λ (b : Bool). frag_told b f) (le-ltb (end_at f) n le)

filter_keeps : {X : Type 0} (test : X → Bool) (x : X) (xs : List X) → test x ≡ true → filter test (x ∷ xs) ≡ x ∷ filter test xs
filter_keeps test x xs keeps = rw keeps refl

filter_drops : {X : Type 0} (test : X → Bool) (x : X) (xs : List X) → test x ≡ false → filter test (x ∷ xs) ≡ filter test xs
filter_drops test x xs drops = rw drops refl

abbrev told_frags : ℕ → List FoundFragment → List FragFound
told_frags n fs = map (told_fragment n) (filter (is_headed n) fs)

told_frags_cons : (n : ℕ) (f : FoundFragment) (fs : List FoundFragment) → f.at < n → told_frags n (f ∷ fs) ≡ told_fragment n f ∷ told_frags n fs
told_frags_cons n f fs lt = ap (λ (l : List FoundFragment). map (told_fragment n) l) (filter_keeps (is_headed n) f fs (lt-ltb f.at n lt))

none_headed : (n at : ℕ) (fs : List Fragment) → n ≤ at → told_frags n (fragments_at at fs) ≡ []
none_headed n at [] le = refl
none_headed n at (f ∷ fs) le =
    ap (λ (l : List FoundFragment). map (told_fragment n) l) (filter_drops (is_headed n) (record { fragment = f; at = at }) (fragments_at (at + fragment_len f) fs) (le-ltb at n le))
    ∙ none_headed n (at + fragment_len f) fs (omega arith)

all_frags : (n at : ℕ) (fs : List Fragment) → at + fragments_len fs ≤ n → told_frags n (fragments_at at fs) ≡ map closed_frag (fragments_at at fs)
all_frags n at [] le = refl
all_frags n at (f ∷ fs) le =
    let long = sum_by-cons fragment_len f fs in
    let first = told_frags_cons n (record { fragment = f; at = at }) (fragments_at (at + fragment_len f) fs) (omega (arith, long)) in
    let here : told_fragment n (record { fragment = f; at = at }) ≡ closed_frag (record { fragment = f; at = at }) = frag_closed n (record { fragment = f; at = at }) (omega (arith, long)) in
    let rest : told_frags n (fragments_at (at + fragment_len f) fs) ≡ map closed_frag (fragments_at (at + fragment_len f) fs) = all_frags n (at + fragment_len f) fs (omega (arith, long)) in
    first ∙ ap (λ (x : FragFound). x ∷ told_frags n (fragments_at (at + fragment_len f) fs)) here ∙ ap (λ (l : List FragFound). closed_frag (record { fragment = f; at = at }) ∷ l) rest

told_frags_append : (n : ℕ) (xs ys : List FoundFragment) → told_frags n (xs ++ ys) ≡ told_frags n xs ++ told_frags n ys
told_frags_append n xs ys = ap (λ (l : List FoundFragment). map (told_fragment n) l) (filter-append (is_headed n) xs ys) ∙ map-append (told_fragment n) (filter (is_headed n) xs) (filter (is_headed n) ys)

-- the first ones are told whole
frags_and : (n at : ℕ) (fs gs : List Fragment) (at2 : ℕ) → at2 ≡ at + fragments_len fs → at2 ≤ n → told_frags n (fragments_at at (fs ++ gs)) ≡ map closed_frag (fragments_at at fs) ++ told_frags n (fragments_at at2 gs)
frags_and n at fs gs at2 e le =
    ap (λ (l : List FoundFragment). told_frags n l) (fragments_at_append at fs gs at2 e) ∙ told_frags_append n (fragments_at at fs) (fragments_at at2 gs)
    ∙ ap (λ (l : List FragFound). l ++ told_frags n (fragments_at at2 gs)) (all_frags n at fs (omega (arith, e)))

-- and nothing behind them
frags_alone : (n at : ℕ) (fs gs : List Fragment) (at2 : ℕ) → at2 ≡ at + fragments_len fs → at2 ≡ n → told_frags n (fragments_at at (fs ++ gs)) ≡ map closed_frag (fragments_at at fs)
frags_alone n at fs gs at2 e same =
    frags_and n at fs gs at2 e (omega (arith, same)) ∙ ap (λ (l : List FragFound). map closed_frag (fragments_at at fs) ++ l) (none_headed n at2 gs (omega (arith, same))) ∙ append-nil (map closed_frag (fragments_at at fs))

-- a fragment behind them of which the end isn't there
frags_open : (n at : ℕ) (fs : List Fragment) (f : Fragment) (gs : List Fragment) (at2 : ℕ) → at2 ≡ at + fragments_len fs → at2 < n → n ≤ at2 + length f.pieces + 1
    → told_frags n (fragments_at at (fs ++ f ∷ gs)) ≡ map closed_frag (fragments_at at fs) ++ frag_told false (record { fragment = f; at = at2 }) ∷ []
frags_open n at fs f gs at2 e lt le =
    let found : FoundFragment = record { fragment = f; at = at2 } in
    frags_and n at fs (f ∷ gs) at2 e (omega (arith, lt)) ∙ ap (λ (l : List FragFound). map closed_frag (fragments_at at fs) ++ l)
    (told_frags_cons n (record { fragment = f; at = at2 }) (fragments_at (at2 + fragment_len f) gs) lt ∙ ap (λ (x : FragFound). x ∷ told_frags n (fragments_at (at2 + fragment_len f) gs)) (frag_open n (record { fragment = f; at = at2 }) le)
    ∙ ap (λ (l : List FragFound). frag_told false (record { fragment = f; at = at2 }) ∷ l) (none_headed n (at2 + fragment_len f) gs (omega (arith, le))))

-- a fragment behind them of which the end is the last record
frags_ended : (n at : ℕ) (fs : List Fragment) (f : Fragment) (gs : List Fragment) (at2 : ℕ) → at2 ≡ at + fragments_len fs → n ≡ at2 + length f.pieces + 2
    → told_frags n (fragments_at at (fs ++ f ∷ gs)) ≡ map closed_frag (fragments_at at (fs ++ f ∷ []))
frags_ended n at fs f gs at2 e long =
    frags_and n at fs (f ∷ gs) at2 e (omega (arith, long)) ∙ ap (λ (l : List FragFound). map closed_frag (fragments_at at fs) ++ l)
    (told_frags_cons n (record { fragment = f; at = at2 }) (fragments_at (at2 + fragment_len f) gs) (omega (arith, long))
    ∙ ap (λ (x : FragFound). x ∷ told_frags n (fragments_at (at2 + fragment_len f) gs)) (frag_closed n (record { fragment = f; at = at2 }) (omega (arith, long)))
    ∙ ap (λ (l : List FragFound). closed_frag (record { fragment = f; at = at2 }) ∷ l) (none_headed n (at2 + fragment_len f) gs (omega (arith, long))))
    ∙ sym (ap (λ (l : List FoundFragment). map closed_frag l) (fragments_at_append at fs (f ∷ []) at2 e) ∙ map-append closed_frag (fragments_at at fs) (record { fragment = f; at = at2 } ∷ []))

-- ---- parts

abbrev part_told : Bool → FoundPart → List FragFound → PartFound
part_told closed p frags = record {
  head = p.part.head;
  first = p.first;
  end = if closed then Some p.end else None;
  marks = if closed then p.marks else 0;
  more = if closed then p.part.end.more == 1 else false;
  frags = frags;
}

part_closed : (n : ℕ) (p : FoundPart) → p.end ≡ p.first + part_len p.part → p.end ≤ n → told_part n p ≡ closed_part p
part_closed n p long le =
    ap (λ (b : Bool). part_told b p (told_frags n (fragments_of p))) (le-leb p.end n le)
    ∙ ap (λ (l : List FragFound). part_told true p l) (all_frags n (p.first + 1) p.part.fragments (omega (arith, long)))

part_open : (n : ℕ) (p : FoundPart) → n < p.end → told_part n p ≡ part_told false p (told_frags n (fragments_of p))
part_open n p lt = ap (λ (b : Bool). part_told b p (told_frags n (fragments_of p))) (lt-leb p.end n lt)

abbrev told_parts : ℕ → List FoundPart → List PartFound
told_parts n ps = map (told_part n) (filter (is_begun n) ps)

told_parts_cons : (n : ℕ) (p : FoundPart) (ps : List FoundPart) → p.first < n → told_parts n (p ∷ ps) ≡ told_part n p ∷ told_parts n ps
told_parts_cons n p ps lt = ap (λ (l : List FoundPart). map (told_part n) l) (filter_keeps (is_begun n) p ps (lt-ltb p.first n lt))

none_begun : (n at marks : ℕ) (ps : List Part) → n ≤ at → told_parts n (parts_at at marks ps) ≡ []
none_begun n at marks [] le = refl
none_begun n at marks (p ∷ ps) le =
    ap (λ (l : List FoundPart). map (told_part n) l) (filter_drops (is_begun n) (record { part = p; first = at; end = at + part_len p; marks = marks + part_marks p }) (parts_at (at + part_len p) (marks + part_marks p) ps) (le-ltb at n le))
    ∙ none_begun n (at + part_len p) (marks + part_marks p) ps (omega arith)

all_parts : (n at marks : ℕ) (ps : List Part) → at + sum_by part_len ps ≤ n → told_parts n (parts_at at marks ps) ≡ map closed_part (parts_at at marks ps)
all_parts n at marks [] le = refl
all_parts n at marks (p ∷ ps) le =
    let long = sum_by-cons part_len p ps in
    let first = told_parts_cons n (record { part = p; first = at; end = at + part_len p; marks = marks + part_marks p }) (parts_at (at + part_len p) (marks + part_marks p) ps) (omega (arith, long)) in
    let here : told_part n (record { part = p; first = at; end = at + part_len p; marks = marks + part_marks p }) ≡ closed_part (record { part = p; first = at; end = at + part_len p; marks = marks + part_marks p }) =
    part_closed n (record { part = p; first = at; end = at + part_len p; marks = marks + part_marks p }) refl (omega (arith, long)) in
    let rest : told_parts n (parts_at (at + part_len p) (marks + part_marks p) ps) ≡ map closed_part (parts_at (at + part_len p) (marks + part_marks p) ps) = all_parts n (at + part_len p) (marks + part_marks p) ps (omega (arith, long)) in
    first ∙ ap (λ (x : PartFound). x ∷ told_parts n (parts_at (at + part_len p) (marks + part_marks p) ps)) here
    ∙ ap (λ (l : List PartFound). closed_part (record { part = p; first = at; end = at + part_len p; marks = marks + part_marks p }) ∷ l) rest

told_parts_append : (n : ℕ) (xs ys : List FoundPart) → told_parts n (xs ++ ys) ≡ told_parts n xs ++ told_parts n ys
told_parts_append n xs ys = ap (λ (l : List FoundPart). map (told_part n) l) (filter-append (is_begun n) xs ys) ∙ map-append (told_part n) (filter (is_begun n) xs) (filter (is_begun n) ys)

-- behind closed parts
parts_and : (n : ℕ) (t : Tape) (qs : List Part) → tape_len t ≤ n → told_parts n (parts_of (longer t qs)) ≡ map closed_part (parts_of t) ++ told_parts n (parts_at (tape_len t) (1 + sum_by part_marks t.parts) qs)
parts_and n t qs le =
    let long = tape_long t in
    ap (λ (l : List FoundPart). told_parts n l) (parts_at_append 2 1 t.parts qs (tape_len t) (1 + sum_by part_marks t.parts) long refl)
    ∙ told_parts_append n (parts_of t) (parts_at (tape_len t) (1 + sum_by part_marks t.parts) qs)
    ∙ ap (λ (l : List PartFound). l ++ told_parts n (parts_at (tape_len t) (1 + sum_by part_marks t.parts) qs)) (all_parts n 2 1 t.parts (omega (arith, long)))

-- alone
parts_alone : (t : Tape) (qs : List Part) → told_parts (tape_len t) (parts_of (longer t qs)) ≡ map closed_part (parts_of t)
parts_alone t qs =
    parts_and (tape_len t) t qs (omega arith) ∙ ap (λ (l : List PartFound). map closed_part (parts_of t) ++ l) (none_begun (tape_len t) (tape_len t) (1 + sum_by part_marks t.parts) qs (omega arith))
    ∙ append-nil (map closed_part (parts_of t))

-- and an open part
parts_open : (n : ℕ) (t : Tape) (p : Part) (qs : List Part) (frags : List FragFound) → tape_len t < n → n < tape_len t + part_len p → told_frags n (fragments_at (tape_len t + 1) p.fragments) ≡ frags
    → told_parts n (parts_of (longer t (p ∷ qs))) ≡ map closed_part (parts_of t) ++ record { head = p.head; first = tape_len t; end = None; marks = 0; more = false; frags = frags } ∷ []
parts_open n t p qs frags lt short same =
    parts_and n t (p ∷ qs) (omega (arith, lt)) ∙ ap (λ (l : List PartFound). map closed_part (parts_of t) ++ l)
    (told_parts_cons n (record { part = p; first = tape_len t; end = tape_len t + part_len p; marks = 1 + sum_by part_marks t.parts + part_marks p }) (parts_at (tape_len t + part_len p) (1 + sum_by part_marks t.parts + part_marks p) qs) lt
    ∙ ap (λ (l : List PartFound). told_part n (record { part = p; first = tape_len t; end = tape_len t + part_len p; marks = 1 + sum_by part_marks t.parts + part_marks p }) ∷ l) (none_begun n (tape_len t + part_len p) (1 + sum_by part_marks t.parts + part_marks p) qs (omega (arith, short)))
    ∙ ap (λ (x : PartFound). x ∷ []) (part_open n (record { part = p; first = tape_len t; end = tape_len t + part_len p; marks = 1 + sum_by part_marks t.parts + part_marks p }) short)
    ∙ ap (λ (l : List FragFound). record { head = p.head; first = tape_len t; end = None; marks = 0; more = false; frags = l } ∷ []) same)

-- ---- all that is told of a front of so many records of a whole tape

abbrev pub told_tape : ℕ → Option ℕ → ℕ → Tape → Sections
told_tape slot stop n w = record {
  slot = slot;
  label = if nat_lt 0 n then Some w.label else None;
  parts = told_parts n (parts_of w);
  stop = stop;
}

same_sections : (slot : ℕ) (stop : Option ℕ) (n : ℕ) (w : Tape) (parts : List PartFound) → 0 < n → told_parts n (parts_of w) ≡ parts → told_tape slot stop n w ≡ record { slot = slot; label = Some w.label; parts = parts; stop = stop }
same_sections slot stop n w parts lt same =
    ap (λ (b : Bool). let s : Sections = record { slot = slot; label = if b then Some w.label else None; parts = told_parts n (parts_of w); stop = stop } in s) (lt-ltb 0 n lt)
    ∙ ap (λ (l : List PartFound). let s : Sections = record { slot = slot; label = Some w.label; parts = l; stop = stop } in s) same

fragments_more : (fs : List Fragment) (f : Fragment) (gs : List Fragment) → fragments_len (fs ++ f ∷ gs) ≡ fragments_len fs + fragment_len f + fragments_len gs
fragments_more fs f gs = omega (arith, sum_by-append fragment_len fs (f ∷ gs), sum_by-cons fragment_len f gs)

pub told_where : (slot : ℕ) (stop : Option ℕ) (s : Reached) (rest : Rest s) → told_tape slot stop (at_of s) (whole_tape s rest) ≡ sections_of slot stop (walk_at s)
told_where slot stop at_front w = ap (λ (l : List PartFound). let s : Sections = record { slot = slot; label = None; parts = l; stop = stop } in s) (none_begun 0 2 1 w.parts (omega arith))
told_where slot stop (labeled l) ps = same_sections slot stop 1 (record { label = l; parts = ps }) [] (omega arith) (none_begun 1 2 1 ps (omega arith))
told_where slot stop (between t) ps = same_sections slot stop (tape_len t) (longer t ps) (map closed_part (parts_of t)) (omega (arith, tape_long t)) (parts_alone t ps)
told_where slot stop (in_part t h fs) (gs, e, ps) =
    let n : ℕ = tape_len t + 1 + fragments_len fs in
    let long = sum_by-append fragment_len fs gs in
    same_sections slot stop (tape_len t + 1 + fragments_len fs) (longer t (whole_part h (fs ++ gs) e ∷ ps)) _ (omega arith)
    (parts_open (tape_len t + 1 + fragments_len fs) t (whole_part h (fs ++ gs) e) ps (map closed_frag (fragments_at (tape_len t + 1) fs)) (omega arith) (omega (arith, long))
    (frags_alone (tape_len t + 1 + fragments_len fs) (tape_len t + 1) fs gs (tape_len t + 1 + fragments_len fs) refl refl))
told_where slot stop (in_fragment t h fs v ds) (es, ve, gs, e, ps) =
    let long = fragments_more fs (whole_fragment v (ds ++ es) ve) gs in
    let pieces = length-append ds es in
    same_sections slot stop (tape_len t + 1 + fragments_len fs + 1 + length ds) (longer t (whole_part h (fs ++ whole_fragment v (ds ++ es) ve ∷ gs) e ∷ ps)) _ (omega arith)
    (parts_open (tape_len t + 1 + fragments_len fs + 1 + length ds) t (whole_part h (fs ++ whole_fragment v (ds ++ es) ve ∷ gs) e) ps
    (map closed_frag (fragments_at (tape_len t + 1) fs) ++ frag_told false (record { fragment = whole_fragment v (ds ++ es) ve; at = tape_len t + 1 + fragments_len fs }) ∷ []) (omega arith) (omega (arith, long, pieces))
    (frags_open (tape_len t + 1 + fragments_len fs + 1 + length ds) (tape_len t + 1) fs (whole_fragment v (ds ++ es) ve) gs (tape_len t + 1 + fragments_len fs) refl (omega arith) (omega (arith, pieces))))
told_where slot stop (behind_fragment t h fs f) (gs, e, ps) =
    let long = fragments_more fs f gs in
    same_sections slot stop (tape_len t + 1 + fragments_len fs + 1 + length f.pieces + 1) (longer t (whole_part h (fs ++ f ∷ gs) e ∷ ps)) _ (omega arith)
    (parts_open (tape_len t + 1 + fragments_len fs + 1 + length f.pieces + 1) t (whole_part h (fs ++ f ∷ gs) e) ps (map closed_frag (fragments_at (tape_len t + 1) (fs ++ f ∷ []))) (omega arith) (omega (arith, long))
    (frags_ended (tape_len t + 1 + fragments_len fs + 1 + length f.pieces + 1) (tape_len t + 1) fs f gs (tape_len t + 1 + fragments_len fs) refl (omega arith)))
told_where slot stop (behind_part t p) ps =
    same_sections slot stop (tape_len t + 1 + fragments_len p.fragments + 1) (longer t (p ∷ ps)) _ (omega arith)
    (parts_open (tape_len t + 1 + fragments_len p.fragments + 1) t p ps (map closed_frag (fragments_at (tape_len t + 1) p.fragments)) (omega arith) (omega arith)
    (all_frags (tape_len t + 1 + fragments_len p.fragments + 1) (tape_len t + 1) p.fragments (omega arith)))
