-- Texts that spell items, and texts that spell none.
use Rattle.std.proofs.Common.{◌≡◌, ◌≢◌, ◌⊎◌, ℕ, ◌<◌, ◌≤◌, List, [], ◌∷◌, ◌++◌, length, append_assoc, refl, sym, ◌∙◌, ap, subst, arith, Bool, true, false, inl, inr}
use Rattle.std.proofs.lemmas.List.{append-nil}
use Rattle.bk_text.specs.Patterns.{Member, Choice, Item, SpellsInSet, SpellsMember, SpellsMembers, SpellsDash, SpellsInside, SpellsChoice, SpellsItems, IsNoCaret, star_of}
use Rattle.bk_text.specs.Patterns.Member.{One, Range}
use Rattle.bk_text.specs.Patterns.Choice.{Any, Same, Among, Outside}

abbrev item : Choice → Bool → Item
item choice starred = record { choice = choice; starred = starred }

-- heads and tails of equal texts
head_is : (x y : ℕ) (xs ys : List ℕ) → x ∷ xs ≡ y ∷ ys → x ≡ y
head_is x y xs ys e = cc

tail_is : (x y : ℕ) (xs ys : List ℕ) → x ∷ xs ≡ y ∷ ys → xs ≡ ys
tail_is x y xs ys e = cc

clash : (x y : ℕ) (xs ys : List ℕ) → (x ≡ y → ⊥) → x ∷ xs ≡ y ∷ ys → ⊥
clash x y xs ys apart e = apart (head_is x y xs ys e)

some_bytes : (x : ℕ) (xs : List ℕ) → [] ≡ x ∷ xs → ⊥
some_bytes x xs e = cc

-- a front that is known, before the rest
moved : (front known rest text : List ℕ) → front ≡ known → front ++ rest ≡ text → known ++ rest ≡ text
moved front known rest text same e = ap (λ (l : List ℕ). l ++ rest) (sym same) ∙ e

-- one item, and nothing behind it
alone : (choice : Choice) (starred : Bool) (front : List ℕ) → SpellsChoice choice front → SpellsItems (item choice starred ∷ []) (front ++ star_of starred)
alone choice starred front is = record { front = front ++ star_of starred; rest = []; are = sym (append-nil (front ++ star_of starred)); in_front = record { front = front; rest = star_of starred; are = refl; in_front = is; in_rest = refl }; in_rest = refl }

plain : (c : ℕ) → c ≢ 93 → c ≢ 92 → c ≢ 45 → SpellsInSet c (c ∷ [])
plain c a b d = inl (a, b, d, refl)

one : (c : ℕ) (text : List ℕ) → SpellsInSet c text → SpellsMembers (One c ∷ []) text
one c text is = record { front = text; rest = []; are = sym (append-nil text); in_front = is; in_rest = refl }

-- 'a*', '\*'
pub row_star : SpellsItems (item (Same 97) true ∷ []) (97 ∷ 42 ∷ [])
row_star = alone (Same 97) true (97 ∷ []) (inl (λ e. omega arith, λ e. omega arith, λ e. omega arith, λ e. omega arith, refl))

pub row_escaped : SpellsItems (item (Same 42) false ∷ []) (92 ∷ 42 ∷ [])
row_escaped = alone (Same 42) false (92 ∷ 42 ∷ []) (inr refl)

-- '[a-]', '[-a]', '[\]]'
letter : SpellsInSet 97 (97 ∷ [])
letter = plain 97 (λ e. omega arith) (λ e. omega arith) (λ e. omega arith)

pub row_dash_last : SpellsItems (item (Among (One 97 ∷ One 45 ∷ [])) false ∷ []) (91 ∷ 97 ∷ 45 ∷ 93 ∷ [])
row_dash_last = alone (Among (One 97 ∷ One 45 ∷ [])) false (91 ∷ 97 ∷ 45 ∷ 93 ∷ []) (
  97 ∷ 45 ∷ [],
  refl,
  record {
    first = [];
    middle = One 97 ∷ [];
    last = One 45 ∷ [];
    first_text = [];
    middle_text = 97 ∷ [];
    last_text = 45 ∷ [];
    are = refl;
    joined = refl;
    dash_first = inl (refl, refl);
    spells = one 97 (97 ∷ []) letter;
    dash_last = inr (refl, refl);
    some = omega arith;
  },
  λ rest e. clash _ _ _ _ (λ same. omega arith) e,
)

pub row_dash_first : SpellsItems (item (Among (One 45 ∷ One 97 ∷ [])) false ∷ []) (91 ∷ 45 ∷ 97 ∷ 93 ∷ [])
row_dash_first = alone (Among (One 45 ∷ One 97 ∷ [])) false (91 ∷ 45 ∷ 97 ∷ 93 ∷ []) (
  45 ∷ 97 ∷ [],
  refl,
  record {
    first = One 45 ∷ [];
    middle = One 97 ∷ [];
    last = [];
    first_text = 45 ∷ [];
    middle_text = 97 ∷ [];
    last_text = [];
    are = refl;
    joined = refl;
    dash_first = inr (refl, refl);
    spells = one 97 (97 ∷ []) letter;
    dash_last = inl (refl, refl);
    some = omega arith;
  },
  λ rest e. clash _ _ _ _ (λ same. omega arith) e,
)

pub row_bracket : SpellsItems (item (Among (One 93 ∷ [])) false ∷ []) (91 ∷ 92 ∷ 93 ∷ 93 ∷ [])
row_bracket = alone (Among (One 93 ∷ [])) false (91 ∷ 92 ∷ 93 ∷ 93 ∷ []) (
  92 ∷ 93 ∷ [],
  refl,
  record {
    first = [];
    middle = One 93 ∷ [];
    last = [];
    first_text = [];
    middle_text = 92 ∷ 93 ∷ [];
    last_text = [];
    are = refl;
    joined = refl;
    dash_first = inl (refl, refl);
    spells = one 93 (92 ∷ 93 ∷ []) (inr refl);
    dash_last = inl (refl, refl);
    some = omega arith;
  },
  λ rest e. clash _ _ _ _ (λ same. omega arith) e,
)

-- no item begins with a star: '*a', 'a**'
choice_first : (choice : Choice) (front rest t : List ℕ) → SpellsChoice choice front → front ++ rest ≡ 42 ∷ t → ⊥
choice_first Any front rest t is e = clash 46 42 rest t (λ same. omega arith) (moved front (46 ∷ []) rest (42 ∷ t) is e)
choice_first (Same c) front rest t (inl (dot, star, bracket, slash, same)) e = star (head_is c 42 rest t (moved front (c ∷ []) rest (42 ∷ t) same e))
choice_first (Same c) front rest t (inr same) e = clash 92 42 (c ∷ rest) t (λ same. omega arith) (moved front (92 ∷ c ∷ []) rest (42 ∷ t) same e)
choice_first (Among ms) front rest t (inside, same, more, caret) e = clash 91 42 ((inside ++ 93 ∷ []) ++ rest) t (λ same. omega arith) (moved front (91 ∷ (inside ++ 93 ∷ [])) rest (42 ∷ t) same e)
choice_first (Outside ms) front rest t (inside, same, more) e = clash 91 42 (94 ∷ ((inside ++ 93 ∷ []) ++ rest)) t (λ same. omega arith) (moved front (91 ∷ 94 ∷ (inside ++ 93 ∷ [])) rest (42 ∷ t) same e)

-- the first item apart
first_of_items : (i : Item) (is : List Item) (text : List ℕ) → SpellsItems (i ∷ is) text → (front : List ℕ) × (rest : List ℕ) × SpellsChoice i.choice front × (text ≡ front ++ (star_of i.starred ++ rest)) × SpellsItems is rest
first_of_items i is text spells = (spells.in_front.front, spells.rest, spells.in_front.in_front, spells.are ∙ ap (λ (l : List ℕ). l ++ spells.rest) spells.in_front.are ∙ append_assoc spells.in_front.front spells.in_front.rest spells.rest ∙ ap (λ (l : List ℕ). spells.in_front.front ++ (l ++ spells.rest)) spells.in_front.in_rest, spells.in_rest)

pub no_star_first : (is : List Item) (t : List ℕ) → SpellsItems is (42 ∷ t) → ⊥
no_star_first [] t e = some_bytes 42 t (sym e)
no_star_first (i ∷ is) t spells = let (front, rest, choice, are, more) = first_of_items i is (42 ∷ t) spells in choice_first i.choice front (star_of i.starred ++ rest) t choice (sym are)

-- 'a**'
after_letter : (choice : Choice) (front rest : List ℕ) (t : List ℕ) → SpellsChoice choice front → front ++ rest ≡ 97 ∷ t → rest ≡ t
after_letter Any front rest t is e = absurd (clash 46 97 rest t (λ same. omega arith) (moved front (46 ∷ []) rest (97 ∷ t) is e))
after_letter (Same c) front rest t (inl (dot, star, bracket, slash, same)) e = tail_is c 97 rest t (moved front (c ∷ []) rest (97 ∷ t) same e)
after_letter (Same c) front rest t (inr same) e = absurd (clash 92 97 (c ∷ rest) t (λ same. omega arith) (moved front (92 ∷ c ∷ []) rest (97 ∷ t) same e))
after_letter (Among ms) front rest t (inside, same, more, caret) e = absurd (clash 91 97 ((inside ++ 93 ∷ []) ++ rest) t (λ same. omega arith) (moved front (91 ∷ (inside ++ 93 ∷ [])) rest (97 ∷ t) same e))
after_letter (Outside ms) front rest t (inside, same, more) e = absurd (clash 91 97 (94 ∷ ((inside ++ 93 ∷ []) ++ rest)) t (λ same. omega arith) (moved front (91 ∷ 94 ∷ (inside ++ 93 ∷ [])) rest (97 ∷ t) same e))

two_stars_by : (is : List Item) (starred : Bool) (rest : List ℕ) → SpellsItems is rest → star_of starred ++ rest ≡ 42 ∷ 42 ∷ [] → ⊥
two_stars_by is true rest more e = no_star_first is [] (subst (SpellsItems is) (tail_is 42 42 rest (42 ∷ []) e) more)
two_stars_by is false rest more e = no_star_first is (42 ∷ []) (subst (SpellsItems is) e more)

pub row_two_stars : (is : List Item) → SpellsItems is (97 ∷ 42 ∷ 42 ∷ []) → ⊥
row_two_stars [] e = some_bytes 97 (42 ∷ 42 ∷ []) (sym e)
row_two_stars (i ∷ is) spells =
    let (front, rest, choice, are, more) = first_of_items i is (97 ∷ 42 ∷ 42 ∷ []) spells in
    two_stars_by is i.starred rest more (after_letter i.choice front (star_of i.starred ++ rest) (42 ∷ 42 ∷ []) choice (sym are))

-- what begins with '[' begins with a set
abbrev SetAt : List ℕ → Type 0
SetAt t = (ms : List Member) × (inside : List ℕ) × (more : List ℕ) × SpellsInside ms inside × (((t ≡ inside ++ 93 ∷ more) × IsNoCaret inside) ⊎ (t ≡ 94 ∷ (inside ++ 93 ∷ more)))

closed : (inside rest : List ℕ) → (inside ++ 93 ∷ []) ++ rest ≡ inside ++ 93 ∷ rest
closed inside rest = append_assoc inside (93 ∷ []) rest

set_by : (choice : Choice) (front rest t : List ℕ) → SpellsChoice choice front → front ++ rest ≡ 91 ∷ t → SetAt t
set_by Any front rest t is e = absurd (clash 46 91 rest t (λ same. omega arith) (moved front (46 ∷ []) rest (91 ∷ t) is e))
set_by (Same c) front rest t (inl (dot, star, bracket, slash, same)) e = absurd (bracket (head_is c 91 rest t (moved front (c ∷ []) rest (91 ∷ t) same e)))
set_by (Same c) front rest t (inr same) e = absurd (clash 92 91 (c ∷ rest) t (λ same. omega arith) (moved front (92 ∷ c ∷ []) rest (91 ∷ t) same e))
set_by (Among ms) front rest t (inside, same, more, caret) e = (ms, inside, rest, more, inl (sym (tail_is 91 91 ((inside ++ 93 ∷ []) ++ rest) t (moved front (91 ∷ (inside ++ 93 ∷ [])) rest (91 ∷ t) same e)) ∙ closed inside rest, caret))
set_by (Outside ms) front rest t (inside, same, more) e = (ms, inside, rest, more, inr (sym (tail_is 91 91 (94 ∷ ((inside ++ 93 ∷ []) ++ rest)) t (moved front (91 ∷ 94 ∷ (inside ++ 93 ∷ [])) rest (91 ∷ t) same e)) ∙ ap (λ (l : List ℕ). 94 ∷ l) (closed inside rest)))

set_at : (is : List Item) (t : List ℕ) → SpellsItems is (91 ∷ t) → SetAt t
set_at [] t e = absurd (some_bytes 91 t (sym e))
set_at (i ∷ is) t spells = let (front, rest, choice, are, more) = first_of_items i is (91 ∷ t) spells in set_by i.choice front (star_of i.starred ++ rest) t choice (sym are)

-- no member begins with ']' or with a plain '-'
abbrev IsStop : ℕ → Type 0
IsStop b = (b ≡ 93) ⊎ (b ≡ 45)

no_escape : (b : ℕ) → IsStop b → 92 ≡ b → ⊥
no_escape b (inl is) e = omega arith
no_escape b (inr is) e = omega arith

in_set_first : (c b : ℕ) (text rest t : List ℕ) → SpellsInSet c text → IsStop b → text ++ rest ≡ b ∷ t → ⊥
in_set_first c b text rest t (inl (bracket, slash, dash, same)) (inl is) e = bracket (head_is c b rest t (moved text (c ∷ []) rest (b ∷ t) same e) ∙ is)
in_set_first c b text rest t (inl (bracket, slash, dash, same)) (inr is) e = dash (head_is c b rest t (moved text (c ∷ []) rest (b ∷ t) same e) ∙ is)
in_set_first c b text rest t (inr same) stop e = no_escape b stop (head_is 92 b (c ∷ rest) t (moved text (92 ∷ c ∷ []) rest (b ∷ t) same e))

range_parts : (front back text rest : List ℕ) → text ≡ front ++ back → text ++ rest ≡ front ++ (back ++ rest)
range_parts front back text rest same = ap (λ (l : List ℕ). l ++ rest) same ∙ append_assoc front back rest

member_first : (m : Member) (b : ℕ) (text rest t : List ℕ) → SpellsMember m text → IsStop b → text ++ rest ≡ b ∷ t → ⊥
member_first (One c) b text rest t is stop e = in_set_first c b text rest t is stop e
member_first (Range x y) b text rest t (ordered, is) stop e = in_set_first x b is.front (is.rest ++ rest) t is.in_front stop (sym (range_parts is.front is.rest text rest is.are) ∙ e)

members_first : (m : Member) (ms : List Member) (b : ℕ) (text rest t : List ℕ) → SpellsMembers (m ∷ ms) text → IsStop b → text ++ rest ≡ b ∷ t → ⊥
members_first m ms b text rest t are stop e = member_first m b are.front (are.rest ++ rest) t are.in_front stop (sym (range_parts are.front are.rest text rest are.are) ∙ e)

-- the inside of a set, its parts apart
three : (a b c inside more t : List ℕ) → inside ≡ a ++ (b ++ c) → inside ++ 93 ∷ more ≡ t → a ++ (b ++ (c ++ 93 ∷ more)) ≡ t
three a b c inside more t same e = sym (append_assoc a (b ++ c) (93 ∷ more) ∙ ap (λ (l : List ℕ). a ++ l) (append_assoc b c (93 ∷ more))) ∙ ap (λ (l : List ℕ). l ++ 93 ∷ more) (sym same) ∙ e

none_or_dash : (first middle last : List Member) (at bt ct more t : List ℕ) → SpellsDash first at → SpellsMembers middle bt → SpellsDash last ct → 0 < length (first ++ (middle ++ last)) → at ++ (bt ++ (ct ++ 93 ∷ more)) ≡ 93 ∷ t → ⊥
none_or_dash first middle last at bt ct more t (inr (one, same)) spells end some e = clash 45 93 (bt ++ (ct ++ 93 ∷ more)) t (λ same. omega arith) (moved at (45 ∷ []) (bt ++ (ct ++ 93 ∷ more)) (93 ∷ t) same e)
none_or_dash first (m ∷ ms) last at bt ct more t (inl (none, same)) spells end some e = members_first m ms 93 bt (ct ++ 93 ∷ more) t spells (inl refl) (moved at [] (bt ++ (ct ++ 93 ∷ more)) (93 ∷ t) same e)
none_or_dash first [] last at bt ct more t (inl (none, same)) spells (inr (one, dash)) some e = clash 45 93 (93 ∷ more) t (λ same. omega arith) (moved ct (45 ∷ []) (93 ∷ more) (93 ∷ t) dash (moved bt [] (ct ++ 93 ∷ more) (93 ∷ t) spells (moved at [] (bt ++ (ct ++ 93 ∷ more)) (93 ∷ t) same e)))
none_or_dash first [] last at bt ct more t (inl (none, same)) spells (inl (nothing, dash)) some e = let empty : first ++ ([] ++ last) ≡ [] = ap (λ (l : List Member). l ++ last) none ∙ nothing in absurd (omega (arith, ap length empty))

inside_first : (ms : List Member) (inside more t : List ℕ) → SpellsInside ms inside → inside ++ 93 ∷ more ≡ 93 ∷ t → ⊥
inside_first ms inside more t is e = none_or_dash is.first is.middle is.last is.first_text is.middle_text is.last_text more t is.dash_first is.spells is.dash_last (subst (λ (l : List Member). 0 < length l) is.are is.some) (three is.first_text is.middle_text is.last_text inside more (93 ∷ t) is.joined e)

-- '[]', '[]a]', and all else that begins so
pub row_no_member : (is : List Item) (t : List ℕ) → SpellsItems is (91 ∷ 93 ∷ t) → ⊥
row_no_member is t spells = go (set_at is (93 ∷ t) spells)
  where
    go : SetAt (93 ∷ t) → ⊥
    go (ms, inside, more, are, inl (same, caret)) = inside_first ms inside more t are (sym same)
    go (ms, inside, more, are, inr same) = clash 93 94 t (inside ++ 93 ∷ more) (λ e. omega arith) same

-- '[^]', and all else that begins so
caret_first : (inside more t : List ℕ) → IsNoCaret inside → 94 ∷ t ≡ inside ++ 93 ∷ more → ⊥
caret_first [] more t caret e = clash 94 93 t more (λ same. omega arith) e
caret_first (b ∷ bs) more t caret e = caret bs (ap (λ (c : ℕ). c ∷ bs) (sym (head_is 94 b t (bs ++ 93 ∷ more) e)))

pub row_no_member_outside : (is : List Item) (t : List ℕ) → SpellsItems is (91 ∷ 94 ∷ 93 ∷ t) → ⊥
row_no_member_outside is t spells = go (set_at is (94 ∷ 93 ∷ t) spells)
  where
    go : SetAt (94 ∷ 93 ∷ t) → ⊥
    go (ms, inside, more, are, inl (same, caret)) = caret_first inside more (93 ∷ t) caret same
    go (ms, inside, more, are, inr same) = inside_first ms inside more t are (sym (tail_is 94 94 (93 ∷ t) (inside ++ 93 ∷ more) same))

-- a plain '-' that is not the last of its set is no member
dash_stuck : (middle last : List Member) (bt ct more t : List ℕ) (x : ℕ) → SpellsMembers middle bt → SpellsDash last ct → bt ++ (ct ++ 93 ∷ more) ≡ 45 ∷ x ∷ t → x ≢ 93 → ⊥
dash_stuck (m ∷ ms) last bt ct more t x spells end e other = members_first m ms 45 bt (ct ++ 93 ∷ more) (x ∷ t) spells (inr refl) e
dash_stuck [] last bt ct more t x spells (inl (none, same)) e other = clash 93 45 more (x ∷ t) (λ same. omega arith) (moved ct [] (93 ∷ more) (45 ∷ x ∷ t) same (moved bt [] (ct ++ 93 ∷ more) (45 ∷ x ∷ t) spells e))
dash_stuck [] last bt ct more t x spells (inr (one, same)) e other = other (sym (head_is 93 x more t (tail_is 45 45 (93 ∷ more) (x ∷ t) (moved ct (45 ∷ []) (93 ∷ more) (45 ∷ x ∷ t) same (moved bt [] (ct ++ 93 ∷ more) (45 ∷ x ∷ t) spells e)))))

-- a character of a set that is no end of it
abbrev IsInner : ℕ → Type 0
IsInner b = (b ≢ 45) × (b ≢ 93) × (b ≢ 92)

-- what follows a range from b to y
abbrev AfterRange : ℕ → ℕ → List ℕ → List ℕ → Type 0
AfterRange b y more u = (b ≤ y) × (middle : List Member) × (last : List Member) × (bt : List ℕ) × (ct : List ℕ) × SpellsMembers middle bt × SpellsDash last ct × (bt ++ (ct ++ 93 ∷ more) ≡ u)

range_end : (p q b y : ℕ) (ms last : List Member) (back rest ct more u : List ℕ) → p ≤ q → p ≡ b → IsInner y → SpellsInSet q back → SpellsMembers ms rest → SpellsDash last ct → back ++ (rest ++ (ct ++ 93 ∷ more)) ≡ y ∷ u → AfterRange b y more u
range_end p q b y ms last back rest ct more u ordered first inner (inl (bracket, slash, dash, same)) spells end e =
    let e' : q ∷ (rest ++ (ct ++ 93 ∷ more)) ≡ y ∷ u = moved back (q ∷ []) (rest ++ (ct ++ 93 ∷ more)) (y ∷ u) same e in
    (omega (arith, head_is q y (rest ++ (ct ++ 93 ∷ more)) u e'), ms, last, rest, ct, spells, end, tail_is q y (rest ++ (ct ++ 93 ∷ more)) u e')
range_end p q b y ms last back rest ct more u ordered first inner (inr same) spells end e =
    absurd (inner.2 (sym (head_is 92 y (q ∷ (rest ++ (ct ++ 93 ∷ more))) u (moved back (92 ∷ q ∷ []) (rest ++ (ct ++ 93 ∷ more)) (y ∷ u) same e))))

range_first : (p q b y : ℕ) (ms last : List Member) (front back rest ct more u : List ℕ) → p ≤ q → IsInner b → IsInner y → SpellsInSet p front → SpellsInSet q back → SpellsMembers ms rest → SpellsDash last ct → front ++ (45 ∷ (back ++ (rest ++ (ct ++ 93 ∷ more)))) ≡ b ∷ 45 ∷ y ∷ u → AfterRange b y more u
range_first p q b y ms last front back rest ct more u ordered inner inner' (inl (bracket, slash, dash, same)) is spells end e =
    let tail = back ++ (rest ++ (ct ++ 93 ∷ more)) in
    let e' : p ∷ 45 ∷ tail ≡ b ∷ 45 ∷ y ∷ u = moved front (p ∷ []) (45 ∷ tail) (b ∷ 45 ∷ y ∷ u) same e in
    range_end p q b y ms last back rest ct more u ordered (head_is p b (45 ∷ tail) (45 ∷ y ∷ u) e') inner' is spells end (tail_is 45 45 tail (y ∷ u) (tail_is p b (45 ∷ tail) (45 ∷ y ∷ u) e'))
range_first p q b y ms last front back rest ct more u ordered inner inner' (inr same) is spells end e =
    let tail = back ++ (rest ++ (ct ++ 93 ∷ more)) in
    absurd (inner.2 (sym (head_is 92 b (p ∷ 45 ∷ tail) (45 ∷ y ∷ u) (moved front (92 ∷ p ∷ []) (45 ∷ tail) (b ∷ 45 ∷ y ∷ u) same e))))

member_range : (m : Member) (ms last : List Member) (b y : ℕ) (front rest ct more u : List ℕ) → IsInner b → IsInner y → SpellsMember m front → SpellsMembers ms rest → SpellsDash last ct → front ++ (rest ++ (ct ++ 93 ∷ more)) ≡ b ∷ 45 ∷ y ∷ u → AfterRange b y more u
member_range (One c) ms last b y front rest ct more u inner inner' (inl (bracket, slash, dash, same)) spells end e =
    absurd (dash_stuck ms last rest ct more u y spells end (tail_is c b (rest ++ (ct ++ 93 ∷ more)) (45 ∷ y ∷ u) (moved front (c ∷ []) (rest ++ (ct ++ 93 ∷ more)) (b ∷ 45 ∷ y ∷ u) same e)) inner'.1)
member_range (One c) ms last b y front rest ct more u inner inner' (inr same) spells end e =
    absurd (inner.2 (sym (head_is 92 b (c ∷ (rest ++ (ct ++ 93 ∷ more))) (45 ∷ y ∷ u) (moved front (92 ∷ c ∷ []) (rest ++ (ct ++ 93 ∷ more)) (b ∷ 45 ∷ y ∷ u) same e))))
member_range (Range p q) ms last b y front rest ct more u inner inner' (ordered, is) spells end e =
    let (back, same, is_last) = is.in_rest in
    let R = rest ++ (ct ++ 93 ∷ more) in
    range_first p q b y ms last is.front back rest ct more u ordered inner inner' is.in_front is_last spells end
    (ap (λ (l : List ℕ). is.front ++ (l ++ R)) (sym same) ∙ sym (range_parts is.front is.rest front R is.are) ∙ e)

parts_range : (first middle last : List Member) (at bt ct more u : List ℕ) (b y : ℕ) → IsInner b → IsInner y → SpellsDash first at → SpellsMembers middle bt → SpellsDash last ct → at ++ (bt ++ (ct ++ 93 ∷ more)) ≡ b ∷ 45 ∷ y ∷ u → AfterRange b y more u
parts_range first middle last at bt ct more u b y inner inner' (inr (one, same)) spells end e = absurd (inner.0 (sym (head_is 45 b (bt ++ (ct ++ 93 ∷ more)) (45 ∷ y ∷ u) (moved at (45 ∷ []) (bt ++ (ct ++ 93 ∷ more)) (b ∷ 45 ∷ y ∷ u) same e))))
parts_range first [] last at bt ct more u b y inner inner' (inl (none, same)) spells (inr (one, dash)) e = absurd (inner.0 (sym (head_is 45 b (93 ∷ more) (45 ∷ y ∷ u) (moved ct (45 ∷ []) (93 ∷ more) (b ∷ 45 ∷ y ∷ u) dash (moved bt [] (ct ++ 93 ∷ more) (b ∷ 45 ∷ y ∷ u) spells (moved at [] (bt ++ (ct ++ 93 ∷ more)) (b ∷ 45 ∷ y ∷ u) same e))))))
parts_range first [] last at bt ct more u b y inner inner' (inl (none, same)) spells (inl (nothing, dash)) e = absurd (inner.1 (sym (head_is 93 b more (45 ∷ y ∷ u) (moved ct [] (93 ∷ more) (b ∷ 45 ∷ y ∷ u) dash (moved bt [] (ct ++ 93 ∷ more) (b ∷ 45 ∷ y ∷ u) spells (moved at [] (bt ++ (ct ++ 93 ∷ more)) (b ∷ 45 ∷ y ∷ u) same e))))))
parts_range first (m ∷ ms) last at bt ct more u b y inner inner' (inl (none, same)) spells end e =
    member_range m ms last b y spells.front spells.rest ct more u inner inner' spells.in_front spells.in_rest end (sym (range_parts spells.front spells.rest bt (ct ++ 93 ∷ more) spells.are) ∙ moved at [] (bt ++ (ct ++ 93 ∷ more)) (b ∷ 45 ∷ y ∷ u) same e)

set_range : (is : List Item) (b y : ℕ) (u : List ℕ) → IsInner b → IsInner y → b ≢ 94 → SpellsItems is (91 ∷ b ∷ 45 ∷ y ∷ u) → (more : List ℕ) × AfterRange b y more u
set_range is b y u inner inner' no_caret spells = go (set_at is (b ∷ 45 ∷ y ∷ u) spells)
  where
    go : SetAt (b ∷ 45 ∷ y ∷ u) → (more : List ℕ) × AfterRange b y more u
    go (ms, inside, more, are, inl (same, caret)) = (more, parts_range are.first are.middle are.last are.first_text are.middle_text are.last_text more u b y inner inner' are.dash_first are.spells are.dash_last (three are.first_text are.middle_text are.last_text inside more (b ∷ 45 ∷ y ∷ u) are.joined (sym same)))
    go (ms, inside, more, are, inr same) = absurd (no_caret (head_is b 94 (45 ∷ y ∷ u) (inside ++ 93 ∷ more) same))

-- '[z-a]', and all else that begins so
pub row_falling : (is : List Item) (t : List ℕ) → SpellsItems is (91 ∷ 122 ∷ 45 ∷ 97 ∷ t) → ⊥
row_falling is t spells =
    let (more, after) = set_range is 122 97 t (λ e. omega arith, λ e. omega arith, λ e. omega arith) (λ e. omega arith, λ e. omega arith, λ e. omega arith) (λ e. omega arith) spells in
    absurd (omega (arith, after.0))

-- '[a-b-c]', and all else that begins so
pub row_dash_inside : (is : List Item) (t : List ℕ) → SpellsItems is (91 ∷ 97 ∷ 45 ∷ 98 ∷ 45 ∷ 99 ∷ t) → ⊥
row_dash_inside is t spells = go (set_range is 97 98 (45 ∷ 99 ∷ t) (λ e. omega arith, λ e. omega arith, λ e. omega arith) (λ e. omega arith, λ e. omega arith, λ e. omega arith) (λ e. omega arith) spells)
  where
    go : (more : List ℕ) × AfterRange 97 98 more (45 ∷ 99 ∷ t) → ⊥
    go (more, (ordered, middle, last, bt, ct, spelled, end, same)) = dash_stuck middle last bt ct more t 99 spelled end same (λ e. omega arith)
