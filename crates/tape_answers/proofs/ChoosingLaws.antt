-- The first ways through the dumps, by ascending ids.
use Rattle.std.proofs.Common.{◌≡◌, ◌⊎◌, inl, inr, ℕ, ◌<◌, ◌≤◌, Bool, true, false, List, [], ◌∷◌, refl, sym, ◌∙◌, ap, subst, arith}
use Rattle.std.specs.Prelude.{◌==◌, nat_lt, if◌then◌else◌, Contains, All}
use Rattle.std.proofs.lemmas.Bool.{ltb-true, ltb-false, eqb-true, eqb-false}
use Rattle.tape_scan.specs.declared.sections.PartFound.{PartFound}
use Rattle.tape_answers.specs.Assembling.{Placed, Way, way_from, begins_dump, way_id, with_way, ways_in}
use Rattle.tape_answers.proofs.ListLaws.{here, there, here_or_there, nowhere, all_members, above, Ascends}

-- ---- one way more

way_there : (w : Way) (ws : List Way) → Contains (with_way w ws) w
way_there w [] = here w []
way_there w (v ∷ vs) = go (nat_lt (way_id w) (way_id v)) (way_id w == way_id v) (way_there w vs)
  where
    go : (a b : Bool) → Contains (with_way w vs) w → Contains (if a then w ∷ (v ∷ vs) else (if b then w ∷ vs else v ∷ with_way w vs)) w
    go true b again = here w (v ∷ vs)
    go false true again = here w vs
    go false false again = there v (with_way w vs) w again

other_kept : (w : Way) (ws : List Way) (x : Way) → Contains ws x → (way_id x ≡ way_id w → ⊥) → Contains (with_way w ws) x
other_kept w [] x member other = absurd (nowhere x member)
other_kept w (v ∷ vs) x member other = go (nat_lt (way_id w) (way_id v)) (way_id w == way_id v) refl (λ rest. other_kept w vs x rest other)
  where
    go : (a b : Bool) → (way_id w == way_id v) ≡ b → (Contains vs x → Contains (with_way w vs) x) → Contains (if a then w ∷ (v ∷ vs) else (if b then w ∷ vs else v ∷ with_way w vs)) x
    go true b e again = there w (v ∷ vs) x member
    go false true e again = elim (here_or_there v vs x member) [
      | inl is ↦ absurd (other (ap way_id (sym is) ∙ sym (eqb-true (way_id w) (way_id v) e)))
      | inr rest ↦ there w vs x rest
    ]
    go false false e again = elim (here_or_there v vs x member) [
      | inl is ↦ subst (Contains (v ∷ with_way w vs)) is (here v (with_way w vs))
      | inr rest ↦ there v (with_way w vs) x (again rest)
    ]

-- it is that way, or one of the others, which have other ids
abbrev IsEither : Way → List Way → Way → Type 0
IsEither w ws x = (w ≡ x) ⊎ (Contains ws x × (way_id x ≡ way_id w → ⊥))

either_way : (w : Way) (ws : List Way) (x : Way) → Ascends way_id ws → Contains (with_way w ws) x → IsEither w ws x
either_way w [] x up member = elim (here_or_there w [] x member) [
  | inl is ↦ inl is
  | inr rest ↦ absurd (nowhere x rest)
]
either_way w (v ∷ vs) x up member = go (nat_lt (way_id w) (way_id v)) (way_id w == way_id v) refl refl (either_way w vs x up.1) member
  where
    from : Contains (v ∷ vs) x → way_id v ≤ way_id x
    from rest = elim (here_or_there v vs x rest) [
      | inl is ↦ (let same : way_id v ≡ way_id x = ap way_id is in omega (arith, same))
      | inr later ↦ (let more = above way_id v vs x up.0 later in omega (arith, more))
    ]

    go : (a b : Bool) → nat_lt (way_id w) (way_id v) ≡ a → (way_id w == way_id v) ≡ b → (Contains (with_way w vs) x → IsEither w vs x)
        → Contains (if a then w ∷ (v ∷ vs) else (if b then w ∷ vs else v ∷ with_way w vs)) x → IsEither w (v ∷ vs) x
    go true b d e again there_x = elim (here_or_there w (v ∷ vs) x there_x) [
      | inl is ↦ inl is
      | inr rest ↦ inr (rest, (λ same. absurd (let less = ltb-true (way_id w) (way_id v) d in let more = from rest in omega (arith, less, more, same))))
    ]
    go false true d e again there_x = elim (here_or_there w vs x there_x) [
      | inl is ↦ inl is
      | inr rest ↦ inr (there v vs x rest, (λ same. absurd (let one = eqb-true (way_id w) (way_id v) e in let more = above way_id v vs x up.0 rest in omega (arith, one, more, same))))
    ]
    go false false d e again there_x = elim (here_or_there v (with_way w vs) x there_x) [
      | inl is ↦ inr (subst (Contains (v ∷ vs)) is (here v vs), (λ same. eqb-false (way_id w) (way_id v) e (sym same ∙ ap way_id (sym is))))
      | inr rest ↦ elim (again rest) [
        | inl is ↦ inl is
        | inr found ↦ inr (there v vs x found.0, found.1)
      ]
    ]

ways_ascend : (w : Way) (ws : List Way) → Ascends way_id ws → Ascends way_id (with_way w ws)
ways_ascend w [] up = (all_members (λ x. way_id w < way_id x) [] (λ x member. absurd (nowhere x member)), tt)
ways_ascend w (v ∷ vs) up = go (nat_lt (way_id w) (way_id v)) (way_id w == way_id v) refl refl (ways_ascend w vs up.1)
  where
    go : (a b : Bool) → nat_lt (way_id w) (way_id v) ≡ a → (way_id w == way_id v) ≡ b → Ascends way_id (with_way w vs) → Ascends way_id (if a then w ∷ (v ∷ vs) else (if b then w ∷ vs else v ∷ with_way w vs))
    go true b d e again = (
      all_members (λ x. way_id w < way_id x) (v ∷ vs) (λ x member. elim (here_or_there v vs x member) [
        | inl is ↦ (let less = ltb-true (way_id w) (way_id v) d in let same : way_id v ≡ way_id x = ap way_id is in omega (arith, less, same))
        | inr rest ↦ (let less = ltb-true (way_id w) (way_id v) d in let more = above way_id v vs x up.0 rest in omega (arith, less, more))
      ]),
      up,
    )
    go false true d e again = (
      all_members (λ x. way_id w < way_id x) vs (λ x member. let one = eqb-true (way_id w) (way_id v) e in let more = above way_id v vs x up.0 member in omega (arith, one, more)),
      up.1,
    )
    go false false d e again = (
      all_members (λ x. way_id v < way_id x) (with_way w vs) (λ x member. elim (either_way w vs x up.1 member) [
        | inl is ↦ (let less = ltb-false (way_id w) (way_id v) d in let same : way_id w ≡ way_id x = ap way_id is in strictly less (λ one. eqb-false (way_id w) (way_id v) e (sym one)) same)
        | inr found ↦ above way_id v vs x up.0 found.0
      ]),
      again,
    )
      where
        strictly : {a b c : ℕ} → a ≤ b → (a ≡ b → ⊥) → b ≡ c → a < c
        strictly le other same = omega (arith, le, other, same)

-- ---- the ways of the dumps that begin with some parts

pub record IsWayOf (all : List PartFound) (zs : List Placed) (w : Way) : Type 0 where
  pub member : Contains zs w.begin
  pub begins : begins_dump all w.begin ≡ true
  pub is : way_from all w.begin ≡ w
  pub first : (y : Placed) → Contains zs y → begins_dump all y ≡ true → y.part.head.id ≡ way_id w → w.begin.at ≤ y.at

pub record AreWaysOf (all : List PartFound) (zs : List Placed) (ws : List Way) : Type 0 where
  pub each : (w : Way) → Contains ws w → IsWayOf all zs w
  pub up : Ascends way_id ws
  pub complete : (y : Placed) → Contains zs y → begins_dump all y ≡ true → (w : Way) × Contains ws w × (way_id w ≡ y.part.head.id)

same_or_not : (a b : ℕ) → (a ≡ b) ⊎ (a ≡ b → ⊥)
same_or_not a b = go (a == b) refl
  where
    go : (t : Bool) → (a == b) ≡ t → (a ≡ b) ⊎ (a ≡ b → ⊥)
    go true e = inl (eqb-true a b e)
    go false e = inr (eqb-false a b e)

passed : (all : List PartFound) (z : Placed) (zs : List Placed) (ws : List Way) → begins_dump all z ≡ false → AreWaysOf all zs ws → AreWaysOf all (z ∷ zs) ws
passed all z zs ws off rest =
    let not_this : (y : Placed) → Contains (z ∷ zs) y → begins_dump all y ≡ true → Contains zs y = λ y member on. elim (here_or_there z zs y member) [
      | inl is ↦ absurd (let no : false ≡ true = sym off ∙ ap (begins_dump all) is ∙ on in cc)
      | inr later ↦ later
    ] in
    record {
      each = λ w member. let one = rest.each w member in record {
        member = there z zs w.begin one.member;
        begins = one.begins;
        is = one.is;
        first = λ y at on same. one.first y (not_this y at on) on same;
      };
      up = rest.up;
      complete = λ y member on. rest.complete y (not_this y member on) on;
    }

begun : (all : List PartFound) (z : Placed) (zs : List Placed) (ws : List Way) → All (λ (y : Placed). z.at < y.at) zs → begins_dump all z ≡ true → AreWaysOf all zs ws → AreWaysOf all (z ∷ zs) (with_way (way_from all z) ws)
begun all z zs ws later on rest =
    let w = way_from all z in
    record {
      each = λ x member. elim (either_way (way_from all z) ws x rest.up member) [
        | inl is ↦ subst (IsWayOf all (z ∷ zs)) is (record {
          member = here z zs;
          begins = on;
          is = refl;
          first = λ y at begins same. elim (here_or_there z zs y at) [
            | inl this ↦ (let place : z.at ≡ y.at = ap (λ (p : Placed). p.at) this in omega (arith, place))
            | inr behind ↦ (let more = above (λ (p : Placed). p.at) z zs y later behind in omega (arith, more))
          ];
        })
        | inr found ↦ (let one = rest.each x found.0 in record {
          member = there z zs x.begin one.member;
          begins = one.begins;
          is = one.is;
          first = λ y at begins same. elim (here_or_there z zs y at) [
            | inl this ↦ absurd (found.1 (sym same ∙ ap (λ (p : Placed). p.part.head.id) (sym this)))
            | inr behind ↦ one.first y behind begins same
          ];
        })
      ];
      up = ways_ascend (way_from all z) ws rest.up;
      complete = λ y at begins. elim (here_or_there z zs y at) [
        | inl this ↦ (way_from all z, way_there (way_from all z) ws, ap (λ (p : Placed). p.part.head.id) this)
        | inr behind ↦ (let found = rest.complete y behind begins in elim (same_or_not (way_id found.0) (way_id (way_from all z))) [
          | inl same ↦ (way_from all z, way_there (way_from all z) ws, sym same ∙ found.2)
          | inr other ↦ (found.0, other_kept (way_from all z) ws found.0 found.1 other, found.2)
        ])
      ];
    }

pub ways_are : (all : List PartFound) (zs : List Placed) → Ascends (λ (z : Placed). z.at) zs → AreWaysOf all zs (ways_in all zs)
ways_are all [] up = record { each = λ w member. absurd (nowhere w member); up = tt; complete = λ y member on. absurd (nowhere y member) }
ways_are all (z ∷ zs) up = go (ways_are all zs up.1) (begins_dump all z) refl
  where
    go : AreWaysOf all zs (ways_in all zs) → (b : Bool) → begins_dump all z ≡ b → AreWaysOf all (z ∷ zs) (if b then with_way (way_from all z) (ways_in all zs) else ways_in all zs)
    go rest true on = begun all z zs (ways_in all zs) up.0 on rest
    go rest false off = passed all z zs (ways_in all zs) off rest
