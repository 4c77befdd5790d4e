-- How far a chain was played, one dump more, and what is answered in the end.
use Rattle.std.proofs.Common.{◌≡◌, ◌≢◌, inl, inr, ℕ, zero, suc, ◌+◌, ◌<◌, ◌≤◌, Bool, true, false, Option, Some, None, Ok, Err, List, [], ◌∷◌, ◌++◌, length, map, take, drop, set, get_or, slice_get, refl, sym, ◌∙◌, ap, subst, arith, append_assoc}
use Rattle.std.specs.Prelude.{Result, OnOk, IfSome, All, find, is_some, is_none, IsSomeAnd}
use Rattle.std.specs.List.{flat_map, filter_map, cons_option, list_any}
use Rattle.std.proofs.lemmas.List.{take_more, take_all, drop_all, take-append-drop, take-append-le}
use Rattle.std.proofs.lemmas.List.Elements.{All-nil, All-cons, All-head, All-tail, All-append, filter_map-append}
use Rattle.std.proofs.lemmas.Grind.{flat_map-append}
use Rattle.plant_core.specs.declared.plant.Plant.{Ghosts as Plant}
use Rattle.vnode_model.specs.declared.volumes.VolumeFields.{VolumeFields}
use Rattle.budb_changes.specs.declared.records.VolRecordFields.{VolRecordFields}
use Rattle.budb_changes.specs.declared.records.DumpRecordFields.{DumpRecordFields}
use Rattle.budb_fold.specs.Lookups.{VolumeDump, record_of, volume_of, latest}
use Rattle.budb_fold.specs.Chains.{IsChain, HaveParentsBelow}
use Rattle.budb_fold.proofs.ChainLaws.{chain_dumped}
use Rattle.tape_frames.specs.TapeNames.{numbered}
use Rattle.tape_text.specs.Wholes.{Lying}
use Rattle.tape_scan.specs.Slots.{Slot}
use Rattle.archive_model.specs.Holding.{holder_here, called_for}
use Rattle.archive_model.specs.Plays.{PlayFault, StandsAt, IsFirstBad, IsMade, records_of, PlaysOver, Plays}
use Rattle.archive_model.specs.Archives.{Need, needs, needs_of, is_missing}
use Rattle.restore_chain.specs.declared.chain_plan.TapeNeed.{TapeNeed}
use Rattle.restore_chain.specs.declared.chain_plan.ChainPlan.{ChainPlan}
use Rattle.restore_chain.specs.declared.fault.RestoreFault.{RestoreFault}
use Rattle.restore_chain.specs.declared.fault.RestoreFault.TheVariants as faults
use Rattle.restore_chain.specs.declared.keeping.Kept.{Kept}
use Rattle.restore_chain.specs.declared.keeping.Kept.TheVariants as kept
use Rattle.restore_chain.specs.declared.keeping.Reading.TheVariants as readings
use Rattle.restore_chain.specs.Planning.{located, number_of, needs_in, needs_for, IsFirstMissing, PlansChain, PlansFor, Plans}
use Rattle.restore_chain.specs.Restoring.{Tells, PlaysPlan}
use Rattle.restore_chain.specs.Keeping.{IsRead, AllKept, AllRead, IsBegun, MayKeep}
use Rattle.restore_chain.proofs.ReadLaws.{HasRead}
use Rattle.restore_chain.proofs.ChainNeeds.{dump_needs, needs_more}
use Rattle.restore_chain.proofs.PlayLaws.{HasVolume, dumped_at, drop_here, plays_on, plays_off, tells_err}
use Rattle.mount_plan.specs.declared.course.Missed.{Missed}
use Rattle.mount_plan.specs.declared.course.Going.{Going}
use Rattle.mount_plan.specs.declared.course.Course.{Course}
use Rattle.mount_plan.specs.declared.course.Course.TheVariants as courses
use Rattle.mount_plan.specs.declared.fault.Played.{Played}
use Rattle.mount_plan.specs.declared.fault.Played.TheVariants as played
use Rattle.mount_plan.specs.Outcomes.{AnswersName, AnswersNames}
use Rattle.mount_plan.specs.Courses.{AreHere, PlayedSo, FaultedSo, IsSoFar, IsGoing, IsCourseFor, IsCourse, AreCourses, is_unread, missing_tape, first_of, first_missing, IsHeldSo, reading_of, Awaits, IsOutcome, IsOutcomeOf, AreOutcomes}

-- ---- the fragments of a dump

abbrev need_of : DumpRecordFields → Lying → Need
need_of d c = record { dump = d; tape = c.tape }

some_holder : (o : Option (ℕ × Slot)) (P : ℕ × Slot → Type 0) → IsSomeAnd o P → is_none o ≡ false
some_holder None P is = absurd is
some_holder (Some x) P is = refl

-- a fragment that was read has a slot that holds its tape
read_here : (slots : List Slot) (d : DumpRecordFields) (c : Lying) (k : Kept) → IsRead slots d c k → is_missing slots (need_of d c) ≡ false
read_here slots d c kept.Unread is = absurd is
read_here slots d c (kept.Missing tape) is = absurd is
read_here slots d c kept.Held is = absurd is
read_here slots d c (kept.Whole pieces end) is = some_holder (holder_here d c.tape slots) (λ s. StandsAt c s.1.items is.0) is.1
read_here slots d c (kept.Bad site) is = some_holder (holder_here d c.tape slots) (λ s. IsFirstBad c s.1.items site.place) is.1

find_past : (slots : List Slot) (n : Need) (ns : List Need) → is_missing slots n ≡ false → find (is_missing slots) (n ∷ ns) ≡ find (is_missing slots) ns
find_past slots n ns here = rw here refl

find_now : (slots : List Slot) (n : Need) (ns : List Need) → is_missing slots n ≡ true → find (is_missing slots) (n ∷ ns) ≡ Some n
find_now slots n ns missing = rw missing refl

-- the first one that is missing
pub find_missing : (slots : List Slot) (d : DumpRecordFields) (may : Bool) (cs : List Lying) (ks : List Kept) (more : List Need) (tape : ℕ) → AllKept slots d may cs ks → list_any is_unread ks ≡ false → first_missing ks ≡ Some tape
    → find (is_missing slots) (map (need_of d) cs ++ more) ≡ Some (record { dump = d; tape = tape })
find_missing slots d may [] [] more tape all seen is = absurd (cc)
find_missing slots d may [] (k ∷ ks) more tape all seen is = absurd all
find_missing slots d may (c ∷ cs) [] more tape all seen is = absurd all
find_missing slots d may (c ∷ cs) (kept.Unread ∷ ks) more tape all seen is = absurd (cc)
find_missing slots d may (c ∷ cs) (kept.Missing t ∷ ks) more tape all seen is =
    let same : t ≡ tape = cc in
    let gone : is_missing slots (need_of d c) ≡ true = ap is_none all.0.1 in
    find_now slots (need_of d c) (map (need_of d) cs ++ more) gone ∙ ap (λ (n : ℕ). Some (record { dump = d; tape = n })) (sym all.0.0 ∙ same)
find_missing slots d may (c ∷ cs) (kept.Held ∷ ks) more tape all seen is =
    find_past slots (need_of d c) (map (need_of d) cs ++ more) (ap is_none all.0.2) ∙ find_missing slots d may cs ks more tape all.1 seen is
find_missing slots d may (c ∷ cs) (kept.Whole pieces end ∷ ks) more tape all seen is =
    find_past slots (need_of d c) (map (need_of d) cs ++ more) (read_here slots d c (kept.Whole pieces end) all.0) ∙ find_missing slots d may cs ks more tape all.1 seen is
find_missing slots d may (c ∷ cs) (kept.Bad site ∷ ks) more tape all seen is =
    find_past slots (need_of d c) (map (need_of d) cs ++ more) (read_here slots d c (kept.Bad site) all.0) ∙ find_missing slots d may cs ks more tape all.1 seen is

-- none is missing
pub all_here : (slots : List Slot) (d : DumpRecordFields) (may : Bool) (cs : List Lying) (ks : List Kept) → AllKept slots d may cs ks → list_any is_unread ks ≡ false → first_missing ks ≡ None → AreHere slots (map (need_of d) cs)
all_here slots d may [] [] all seen is = All-nil (λ n. is_missing slots n ≡ false)
all_here slots d may [] (k ∷ ks) all seen is = absurd all
all_here slots d may (c ∷ cs) [] all seen is = absurd all
all_here slots d may (c ∷ cs) (kept.Unread ∷ ks) all seen is = absurd (cc)
all_here slots d may (c ∷ cs) (kept.Missing t ∷ ks) all seen is = absurd (cc)
all_here slots d may (c ∷ cs) (kept.Held ∷ ks) all seen is = All-cons (λ n. is_missing slots n ≡ false) (need_of d c) (map (need_of d) cs) (ap is_none all.0.2) (all_here slots d may cs ks all.1 seen is)
all_here slots d may (c ∷ cs) (kept.Whole pieces end ∷ ks) all seen is =
    All-cons (λ n. is_missing slots n ≡ false) (need_of d c) (map (need_of d) cs) (read_here slots d c (kept.Whole pieces end) all.0) (all_here slots d may cs ks all.1 seen is)
all_here slots d may (c ∷ cs) (kept.Bad site ∷ ks) all seen is =
    All-cons (λ n. is_missing slots n ≡ false) (need_of d c) (map (need_of d) cs) (read_here slots d c (kept.Bad site) all.0) (all_here slots d may cs ks all.1 seen is)

-- where no fault came before, all were read
pub all_read : (slots : List Slot) (d : DumpRecordFields) (may : Bool) (cs : List Lying) (ks : List Kept) → may ≡ false → AllKept slots d may cs ks → list_any is_unread ks ≡ false → first_missing ks ≡ None → AllRead slots d cs ks
all_read slots d may [] [] never all seen is = tt
all_read slots d may [] (k ∷ ks) never all seen is = absurd all
all_read slots d may (c ∷ cs) [] never all seen is = absurd all
all_read slots d may (c ∷ cs) (kept.Unread ∷ ks) never all seen is = absurd (cc)
all_read slots d may (c ∷ cs) (kept.Missing t ∷ ks) never all seen is = absurd (cc)
all_read slots d may (c ∷ cs) (kept.Held ∷ ks) never all seen is = absurd (let both : true ≡ false = sym all.0.0 ∙ never in cc)
all_read slots d may (c ∷ cs) (kept.Whole pieces end ∷ ks) never all seen is = (all.0, all_read slots d may cs ks never all.1 seen is)
all_read slots d may (c ∷ cs) (kept.Bad site ∷ ks) never all seen is = (all.0, all_read slots d may cs ks never all.1 seen is)

pub first_later : (ks : List Kept) (i : ℕ) (k : Kept) → i < length ks → k ≡ get_or ks i k → missing_tape k ≡ None → first_missing (drop i ks) ≡ first_missing (drop (i + 1) ks)
first_later [] i k within at none = absurd (omega (arith, within))
first_later (j ∷ ks) zero k within at none = ap (λ (x : Kept). first_of (missing_tape x) (first_missing ks)) (sym at) ∙ ap (λ (o : Option ℕ). first_of o (first_missing ks)) none
first_later (j ∷ ks) (suc i) k within at none =
    first_later ks i k (omega (arith, within)) at none ∙ ap (λ (m : ℕ). first_missing (drop m (j ∷ ks))) (let e : suc (i + 1) ≡ suc i + 1 = omega arith in e)

pub first_now : (ks : List Kept) (i : ℕ) (k : Kept) (tape : ℕ) → i < length ks → k ≡ get_or ks i k → missing_tape k ≡ Some tape → first_missing (drop i ks) ≡ Some tape
first_now [] i k tape within at is = absurd (omega (arith, within))
first_now (j ∷ ks) zero k tape within at is = ap (λ (x : Kept). first_of (missing_tape x) (first_missing ks)) (sym at) ∙ ap (λ (o : Option ℕ). first_of o (first_missing ks)) is
first_now (j ∷ ks) (suc i) k tape within at is = first_now ks i k tape (omega (arith, within)) at is

pub first_none : (ks : List Kept) (n : ℕ) → length ks ≤ n → first_missing (drop n ks) ≡ None
first_none ks n past = ap first_missing (drop_all n ks past)

-- what may be done with the fragments on a tape
pub may_keep : {D : Type 0} (P : Plant D) (slots : List Slot) (d : DumpRecordFields) (tape : ℕ) (plant : D) (held : Bool) (fault : Option RestoreFault) → IsHeldSo P slots d tape plant held → MayKeep P slots d (is_some fault) tape plant (reading_of held fault)
may_keep P slots d tape plant false None is = is
may_keep P slots d tape plant false (Some f) is = is
may_keep P slots d tape plant true None is = is
may_keep P slots d tape plant true (Some f) (x, held, loaded) = (refl, x, held)

pub loaded_held : (held : Bool) (fault : Option RestoreFault) → reading_of held fault ≡ readings.Loaded → held ≡ true
loaded_held true fault is = refl
loaded_held false None is = absurd (cc)
loaded_held false (Some f) is = absurd (cc)

-- ---- the tapes of a chain

missing_behind : (slots : List Slot) (front more : List Need) → AreHere slots front → find (is_missing slots) (front ++ more) ≡ find (is_missing slots) more
missing_behind slots [] more here = refl
missing_behind slots (n ∷ front) more here =
    find_past slots n (front ++ more) (All-head (λ m. is_missing slots m ≡ false) n front here) ∙ missing_behind slots front more (All-tail (λ m. is_missing slots m ≡ false) n front here)

module _ (listed : List DumpRecordFields) (name ids : List ℕ) (count : ℕ) (d : DumpRecordFields) (within : count < length ids) (is : record_of listed (get_or ids count 0) ≡ Some d) where
  records_here : records_of listed (drop count ids) ≡ d ∷ records_of listed (drop (count + 1) ids)
  records_here = ap (records_of listed) (drop_here ids count within) ∙ ap (λ (o : Option DumpRecordFields). cons_option o (records_of listed (drop (count + 1) ids))) is

  needs_here : needs listed (take (count + 1) ids) name ≡ needs listed (take count ids) name ++ needs_of name d
  needs_here =
      ap (λ (xs : List ℕ). needs listed xs name) (take_more ids count 0 within)
      ∙ needs_more listed (take count ids) (get_or ids count 0) name
      ∙ ap (λ (o : Option DumpRecordFields). needs listed (take count ids) name ++ needs_for name o) is
      ∙ ap (λ (ns : List Need). needs listed (take count ids) name ++ ns) (sym (dump_needs name d))

  needs_split : needs listed ids name ≡ needs listed (take count ids) name ++ (needs_of name d ++ needs listed (drop (count + 1) ids) name)
  needs_split =
      ap (λ (xs : List ℕ). needs listed xs name) (sym (take-append-drop count ids))
      ∙ ap (flat_map (needs_of name)) (filter_map-append (record_of listed) (take count ids) (drop count ids))
      ∙ flat_map-append (needs_of name) (records_of listed (take count ids)) (records_of listed (drop count ids))
      ∙ ap (λ (ds : List DumpRecordFields). needs listed (take count ids) name ++ flat_map (needs_of name) ds) records_here

  module _ (slots : List Slot) where
    -- the first that is missing is one of the dump
    pub misses : (may : Bool) (ks : List Kept) (tape initial : ℕ) (missed : List ℕ) → AreHere slots (needs listed (take count ids) name) → AllKept slots d may (called_for d name) ks → list_any is_unread ks ≡ false → first_missing ks ≡ Some tape
        → missed ≡ numbered d.base tape → initial ≡ d.initial → IsFirstMissing slots (needs listed ids name) missed initial
    misses may ks tape initial missed here all seen first named initial_is = record {
      need = record { dump = d; tape = tape };
      first = ap (find (is_missing slots)) needs_split ∙ missing_behind slots (needs listed (take count ids) name) (needs_of name d ++ needs listed (drop (count + 1) ids) name) here
          ∙ find_missing slots d may (called_for d name) ks (needs listed (drop (count + 1) ids) name) tape all seen first;
      named = named;
      initial_is = initial_is;
    }

    pub here_more : (may : Bool) (ks : List Kept) → AreHere slots (needs listed (take count ids) name) → AllKept slots d may (called_for d name) ks → list_any is_unread ks ≡ false → first_missing ks ≡ None → AreHere slots (needs listed (take (count + 1) ids) name)
    here_more may ks here all seen first =
        subst (AreHere slots) (sym needs_here) (All-append (λ n. is_missing slots n ≡ false) (needs listed (take count ids) name) (needs_of name d) here (all_here slots d may (called_for d name) ks all seen first))

    pub played_on : (base : Option VolumeFields) (v : VolumeFields) → PlayedSo slots listed name ids count base → AreHere slots (needs listed (take (count + 1) ids) name) → PlaysOver slots name base (d ∷ []) (Ok v) → PlayedSo slots listed name ids (count + 1) (Some v)
    played_on base v so_far here plays = record {
      here = here;
      whole = λ outcome behind. so_far.whole outcome (subst (λ (ds : List DumpRecordFields). PlaysOver slots name base ds outcome) (sym records_here)
          (plays_on slots name d (records_of listed (drop (count + 1) ids)) base v outcome plays behind));
    }

    pub played_off : (base : Option VolumeFields) (f : RestoreFault) → PlayedSo slots listed name ids count base → AreHere slots (needs listed (take (count + 1) ids) name) → Tells (PlaysOver slots name base (d ∷ [])) (Err f) → FaultedSo slots listed name ids (count + 1) f
    played_off base f so_far here tells = record {
      here = here;
      tells = tells_err (PlaysOver slots name base (d ∷ [])) (Plays slots listed ids name) f
          (λ g one. so_far.whole (Err g) (subst (λ (ds : List DumpRecordFields). PlaysOver slots name base ds (Err g)) (sym records_here) (plays_off slots name d (records_of listed (drop (count + 1) ids)) base g one))) tells;
    }

-- ---- in the end

by_holder : (slots : List Slot) (n : Need) (o : Option (ℕ × Slot)) → holder_here n.dump n.tape slots ≡ o → is_none o ≡ false → (t : TapeNeed) × (located slots n ≡ Some t)
by_holder slots n None is some = absurd (cc)
by_holder slots n (Some s) is some = (record { name = numbered n.dump.base n.tape; initial = n.dump.initial; tape = n.tape; slot = s.0 }, rw is refl)

-- all tapes are located that are here
located_all : (slots : List Slot) (ns : List Need) → AreHere slots ns → (ts : List TapeNeed) × (map (located slots) ns ≡ map Some ts)
located_all slots [] here = ([], refl)
located_all slots (n ∷ ns) here =
    let one = by_holder slots n (holder_here n.dump n.tape slots) refl (All-head (λ m. is_missing slots m ≡ false) n ns here) in
    let rest = located_all slots ns (All-tail (λ m. is_missing slots m ≡ false) n ns here) in
    (one.0 ∷ rest.0, (λ i. one.1 i ∷ rest.1 i))

module _ (slots : List Slot) (listed : List DumpRecordFields) (one : VolumeDump) (g : Going) (going : IsGoing slots listed one g) where
  here_all : length g.dumps ≤ g.played → AreHere slots (needs listed (take g.played g.dumps) g.name) → AreHere slots (needs listed g.dumps one.volume.name)
  here_all over here = subst (λ (n : List ℕ). AreHere slots (needs listed g.dumps n)) going.name (subst (λ (ids : List ℕ). AreHere slots (needs listed ids g.name)) (take_all g.played g.dumps over) here)

  -- the plan of the chain
  pub planned : length g.dumps ≤ g.played → AreHere slots (needs listed (take g.played g.dumps) g.name) → (plan : ChainPlan) × (plan.name ≡ g.name) × (plan.dumps ≡ g.dumps) × PlansChain slots listed one plan
  planned over here =
      let found = located_all slots (needs listed g.dumps one.volume.name) (here_all over here) in
      (record { name = g.name; dumps = g.dumps; tapes = found.0 }, refl, refl, record { name = going.name; chain = going.chain; tapes = found.1 })

  made : (volume : VolumeFields) → length g.dumps ≤ g.played → PlayedSo slots listed g.name g.dumps g.played (Some volume) → Plays slots listed g.dumps g.name (Ok volume)
  made volume over so_far = so_far.whole (Ok volume) (subst (λ (ids : List ℕ). PlaysOver slots g.name (Some volume) (records_of listed ids) (Ok volume)) (sym (drop_all g.played g.dumps over)) refl)

-- what is answered for a chain is what a restore of its name alone gives
answers_going : (slots : List Slot) (listed : List DumpRecordFields) (before : Option ℕ) (name : List ℕ) (one : VolumeDump) (g : Going) (p : Played) (volume : Option VolumeFields) (fault : Option RestoreFault) (missing : Option Missed)
    → latest listed name before ≡ Some one → g.volume ≡ volume → IsGoing slots listed one g → IsSoFar slots listed g.name g.dumps g.played volume fault missing → IsOutcomeOf g fault missing p → AnswersName slots listed before name p
answers_going slots listed before name one g p volume fault (Some m) is same going so_far outcome =
    subst (AnswersName slots listed before name) (sym outcome)
    (inl (subst (λ (o : Option VolumeDump). PlansFor slots listed o (Err (faults.MissingTape m.name m.initial))) (sym is)
    (record { dumps = g.dumps; chain = going.chain; missing = subst (λ (n : List ℕ). IsFirstMissing slots (needs listed g.dumps n) m.name m.initial) going.name so_far })))
answers_going slots listed before name one g p volume (Some f) None is same going so_far (over, outcome) =
    let plan = planned slots listed one g going over so_far.here in
    let tells : Tells (Plays slots listed plan.0.dumps plan.0.name) (Err f) = subst (λ (ids : List ℕ). Tells (Plays slots listed ids plan.0.name) (Err f)) (sym plan.2) (subst (λ (n : List ℕ). Tells (Plays slots listed g.dumps n) (Err f)) (sym plan.1) so_far.tells) in
    subst (AnswersName slots listed before name) (sym outcome)
    (inr (plan.0, subst (λ (o : Option VolumeDump). PlansFor slots listed o (Ok plan.0)) (sym is) plan.3, tells))
answers_going slots listed before name one g p volume None None is same going so_far (over, v, made_is, outcome) =
    let plan = planned slots listed one g going over so_far.here in
    let own = subst (PlayedSo slots listed g.name g.dumps g.played) (sym same ∙ made_is) so_far in
    let plays : Plays slots listed g.dumps g.name (Ok v) = made slots listed one g going v over own in
    let tells : Plays slots listed plan.0.dumps plan.0.name (Ok v) = subst (λ (ids : List ℕ). Plays slots listed ids plan.0.name (Ok v)) (sym plan.2) (subst (λ (n : List ℕ). Plays slots listed g.dumps n (Ok v)) (sym plan.1) plays) in
    subst (AnswersName slots listed before name) (sym outcome) (plan.0, subst (λ (o : Option VolumeDump). PlansFor slots listed o (Ok plan.0)) (sym is) plan.3, tells)

answers_one : (slots : List Slot) (listed : List DumpRecordFields) (before : Option ℕ) (name : List ℕ) (found : Option VolumeDump) (c : Course) (p : Played) → latest listed name before ≡ found → IsCourseFor slots listed found c → IsOutcome c p → AnswersName slots listed before name p
answers_one slots listed before name None courses.NoDump p is course outcome = subst (AnswersName slots listed before name) (sym outcome) (inl (subst (λ (o : Option VolumeDump). PlansFor slots listed o (Err faults.NoDump)) (sym is) tt))
answers_one slots listed before name None (courses.MissingDump id) p is course outcome = absurd course
answers_one slots listed before name None (courses.Going g) p is course outcome = absurd course
answers_one slots listed before name (Some one) courses.NoDump p is course outcome = absurd course
answers_one slots listed before name (Some one) (courses.MissingDump id) p is course outcome =
    subst (AnswersName slots listed before name) (sym outcome) (inl (subst (λ (o : Option VolumeDump). PlansFor slots listed o (Err (faults.MissingDump id))) (sym is) course))
answers_one slots listed before name (Some one) (courses.Going g) p is course outcome = answers_going slots listed before name one g p g.volume g.fault g.missing is refl course course.so_far outcome

pub answers_all : (slots : List Slot) (listed : List DumpRecordFields) (before : Option ℕ) (names : List (List ℕ)) (cs : List Course) (ps : List Played) → AreCourses slots listed before names cs → AreOutcomes cs ps → AnswersNames slots listed before names ps
answers_all slots listed before [] [] [] are outcomes = tt
answers_all slots listed before [] [] (p ∷ ps) are outcomes = absurd outcomes
answers_all slots listed before [] (c ∷ cs) ps are outcomes = absurd are
answers_all slots listed before (name ∷ names) [] ps are outcomes = absurd are
answers_all slots listed before (name ∷ names) (c ∷ cs) [] are outcomes = absurd outcomes
answers_all slots listed before (name ∷ names) (c ∷ cs) (p ∷ ps) are outcomes = (answers_one slots listed before name (latest listed name before) c p refl are.0 outcomes.0, answers_all slots listed before names cs ps are.1 outcomes.1)

-- ---- lists of courses

pub courses_more : (slots : List Slot) (listed : List DumpRecordFields) (before : Option ℕ) (names : List (List ℕ)) (cs : List Course) (name : List ℕ) (c : Course) → AreCourses slots listed before names cs → IsCourse slots listed before name c → AreCourses slots listed before (names ++ name ∷ []) (cs ++ c ∷ [])
courses_more slots listed before [] [] name c are is = (is, tt)
courses_more slots listed before [] (b ∷ cs) name c are is = absurd are
courses_more slots listed before (n ∷ names) [] name c are is = absurd are
courses_more slots listed before (n ∷ names) (b ∷ cs) name c are is = (are.0, courses_more slots listed before names cs name c are.1 is)

-- one that goes on
pub courses_set : (slots : List Slot) (listed : List DumpRecordFields) (before : Option ℕ) (names : List (List ℕ)) (cs : List Course) (i : ℕ) (d c : Course) → i < length cs → ((name : List ℕ) → IsCourse slots listed before name (get_or cs i d) → IsCourse slots listed before name c)
    → AreCourses slots listed before names cs → AreCourses slots listed before names (set cs i c)
courses_set slots listed before [] [] i d c within goes are = absurd (omega (arith, within))
courses_set slots listed before [] (b ∷ cs) i d c within goes are = absurd are
courses_set slots listed before (n ∷ names) [] i d c within goes are = absurd are
courses_set slots listed before (n ∷ names) (b ∷ cs) zero d c within goes are = (goes n are.0, are.1)
courses_set slots listed before (n ∷ names) (b ∷ cs) (suc i) d c within goes are = (are.0, courses_set slots listed before names cs i d c (omega (arith, within)) goes are.1)

-- as many as there are names
pub courses_count : (slots : List Slot) (listed : List DumpRecordFields) (before : Option ℕ) (names : List (List ℕ)) (cs : List Course) → AreCourses slots listed before names cs → length cs ≡ length names
courses_count slots listed before [] [] are = refl
courses_count slots listed before [] (c ∷ cs) are = absurd are
courses_count slots listed before (n ∷ names) [] are = absurd are
courses_count slots listed before (n ∷ names) (c ∷ cs) are = ap suc (courses_count slots listed before names cs are.1)

-- what a slice of all of them was left with is all of them
pub all_new : (len : ℕ) (new items : List Course) → length new ≡ len → take len (new ++ drop (length new) items) ≡ new
all_new len new items long = take-append-le len new (drop (length new) items) (omega (arith, long)) ∙ take_all len new (omega (arith, long))

pub outcomes_more : (cs : List Course) (ps : List Played) (c : Course) (p : Played) → AreOutcomes cs ps → IsOutcome c p → AreOutcomes (cs ++ c ∷ []) (ps ++ p ∷ [])
outcomes_more [] [] c p are is = (is, tt)
outcomes_more [] (q ∷ ps) c p are is = absurd are
outcomes_more (b ∷ cs) [] c p are is = absurd are
outcomes_more (b ∷ cs) (q ∷ ps) c p are is = (are.0, outcomes_more cs ps c p are.1 is)

-- ---- before anything was played

pub misses_dump : (listed : List DumpRecordFields) (one : VolumeDump) (id : ℕ) (name : List ℕ) (missing : ℕ) → id ≡ one.dump.id → name ≡ one.volume.name → (HaveParentsBelow listed → IsChain listed id name (Err missing)) → HaveParentsBelow listed → IsChain listed one.dump.id one.volume.name (Err missing)
misses_dump listed one id name missing is_id is_name chain below =
    subst (λ (n : ℕ). IsChain listed n one.volume.name (Err missing)) is_id (subst (λ (n : List ℕ). IsChain listed id n (Err missing)) is_name (chain below))

so_far_none : (slots : List Slot) (listed : List DumpRecordFields) (name ids : List ℕ) → PlayedSo slots listed name ids 0 None
so_far_none slots listed name ids = record { here = All-nil (λ n. is_missing slots n ≡ false); whole = λ outcome plays. plays }

pub begins : (slots : List Slot) (listed : List DumpRecordFields) (one : VolumeDump) (id : ℕ) (name ids : List ℕ) (g : Going) → id ≡ one.dump.id → name ≡ one.volume.name → g.name ≡ name → g.dumps ≡ ids → g.played ≡ 0 → g.volume ≡ None → g.fault ≡ None → g.missing ≡ None → g.kept.items ≡ []
    → IsChain listed id name (Ok ids) → IsGoing slots listed one g
begins slots listed one id name ids g is_id is_name named dumps none no_volume no_fault no_missing empty chain = record {
  name = named ∙ is_name;
  chain = subst (λ (l : List ℕ). IsChain listed one.dump.id one.volume.name (Ok l)) (sym dumps) (subst (λ (n : ℕ). IsChain listed n one.volume.name (Ok ids)) is_id (subst (λ (n : List ℕ). IsChain listed id n (Ok ids)) is_name chain));
  so_far = subst (IsSoFar slots listed g.name g.dumps g.played g.volume g.fault) (sym no_missing)
      (subst (λ (f : Option RestoreFault). IsSoFar slots listed g.name g.dumps g.played g.volume f None) (sym no_fault)
      (subst (λ (v : Option VolumeFields). PlayedSo slots listed g.name g.dumps g.played v) (sym no_volume)
      (subst (λ (n : ℕ). PlayedSo slots listed g.name g.dumps n None) (sym none) (so_far_none slots listed g.name g.dumps))));
  kept = λ d is. inl empty;
}

-- ---- one dump more

-- what a chain has of the dump that it waits for
pub awaited : (slots : List Slot) (listed : List DumpRecordFields) (one : VolumeDump) (d : DumpRecordFields) (id : ℕ) (g : Going) → Awaits slots listed one d id g → record_of listed (get_or g.dumps g.played 0) ≡ Some d
awaited slots listed one d id g a = ap (record_of listed) a.next ∙ a.record_is

one_dump : (o : Option DumpRecordFields) (x y : DumpRecordFields) → o ≡ Some x → o ≡ Some y → x ≡ y
one_dump o x y a b = cc

pub has_it : (slots : List Slot) (listed : List DumpRecordFields) (one : VolumeDump) (d : DumpRecordFields) (id : ℕ) (g : Going) → Awaits slots listed one d id g → (v : VolRecordFields) × (volume_of d g.name ≡ Some v)
has_it slots listed one d id g a =
    let at : HasVolume listed one.volume.name (get_or g.dumps g.played 0) = dumped_at listed one.volume.name g.dumps g.played a.within (chain_dumped listed one.dump.id one.volume.name g.dumps a.chain) in
    let same : at.dump ≡ d = one_dump (record_of listed (get_or g.dumps g.played 0)) at.dump d at.is (awaited slots listed one d id g a) in
    (at.volume, ap (volume_of d) a.name ∙ ap (λ (x : DumpRecordFields). volume_of x one.volume.name) (sym same) ∙ at.named)

-- what stays where a chain goes on
pub record GoesOn (old new : Going) : Type 0 where
  pub name : new.name ≡ old.name
  pub dumps : new.dumps ≡ old.dumps
  pub played : new.played ≡ old.played + 1
  pub missing : new.missing ≡ None
  pub kept : new.kept.items ≡ []

pub goes_on : (slots : List Slot) (listed : List DumpRecordFields) (one : VolumeDump) (old new : Going) → old.name ≡ one.volume.name → IsChain listed one.dump.id one.volume.name (Ok old.dumps) → GoesOn old new
    → IsSoFar slots listed old.name old.dumps (old.played + 1) new.volume new.fault None → IsGoing slots listed one new
goes_on slots listed one old new name chain on so_far = record {
  name = on.name ∙ name;
  chain = subst (λ (l : List ℕ). IsChain listed one.dump.id one.volume.name (Ok l)) (sym on.dumps) chain;
  so_far = subst (IsSoFar slots listed new.name new.dumps new.played new.volume new.fault) (sym on.missing)
      (subst (λ (n : ℕ). IsSoFar slots listed new.name new.dumps n new.volume new.fault None) (sym on.played)
      (subst (λ (l : List ℕ). IsSoFar slots listed new.name l (old.played + 1) new.volume new.fault None) (sym on.dumps)
      (subst (λ (n : List ℕ). IsSoFar slots listed n old.dumps (old.played + 1) new.volume new.fault None) (sym on.name) so_far)));
  kept = λ d is. inl on.kept;
}

module _ (slots : List Slot) (listed : List DumpRecordFields) (one : VolumeDump) (d : DumpRecordFields) (id : ℕ) (g : Going) (a : Awaits slots listed one d id g) (seen : list_any is_unread g.kept.items ≡ false) where
  played_here : g.fault ≡ None → PlayedSo slots listed g.name g.dumps g.played g.volume
  played_here none = subst (λ (f : Option RestoreFault). IsSoFar slots listed g.name g.dumps g.played g.volume f None) none a.so_far

  here_of : (volume : Option VolumeFields) (fault : Option RestoreFault) → IsSoFar slots listed g.name g.dumps g.played volume fault None → AreHere slots (needs listed (take g.played g.dumps) g.name)
  here_of volume None so_far = so_far.here
  here_of volume (Some f) so_far = so_far.here

  here_now : AreHere slots (needs listed (take g.played g.dumps) g.name)
  here_now = here_of g.volume g.fault a.so_far

  here_next : first_missing g.kept.items ≡ None → AreHere slots (needs listed (take (g.played + 1) g.dumps) g.name)
  here_next first = here_more listed g.name g.dumps g.played d a.within (awaited slots listed one d id g a) slots (is_some g.fault) g.kept.items here_now a.all seen first

  -- all its fragments were read
  pub read_all : first_missing g.kept.items ≡ None → g.fault ≡ None → AllRead slots d (called_for d g.name) g.kept.items
  read_all first none = all_read slots d (is_some g.fault) (called_for d g.name) g.kept.items (ap is_some none) a.all seen first

  pub next_made : first_missing g.kept.items ≡ None → g.fault ≡ None → (v : VolumeFields) → PlaysOver slots g.name g.volume (d ∷ []) (Ok v) → IsSoFar slots listed g.name g.dumps (g.played + 1) (Some v) None None
  next_made first none v plays = played_on listed g.name g.dumps g.played d a.within (awaited slots listed one d id g a) slots g.volume v (played_here none) (here_next first) plays

  pub next_faulted : first_missing g.kept.items ≡ None → g.fault ≡ None → (f : RestoreFault) (volume : Option VolumeFields) → Tells (PlaysOver slots g.name g.volume (d ∷ [])) (Err f) → IsSoFar slots listed g.name g.dumps (g.played + 1) volume (Some f) None
  next_faulted first none f volume tells = played_off listed g.name g.dumps g.played d a.within (awaited slots listed one d id g a) slots g.volume f (played_here none) (here_next first) tells

  still_faulted : (fault : Option RestoreFault) (volume : Option VolumeFields) → is_some fault ≡ true → first_missing g.kept.items ≡ None → IsSoFar slots listed g.name g.dumps g.played volume fault None → IsSoFar slots listed g.name g.dumps (g.played + 1) volume fault None
  still_faulted None volume some first so_far = absurd (cc)
  still_faulted (Some f) volume some first so_far = record { here = here_next first; tells = so_far.tells }

  pub next_passed : first_missing g.kept.items ≡ None → is_some g.fault ≡ true → IsSoFar slots listed g.name g.dumps (g.played + 1) g.volume g.fault None
  next_passed first some = still_faulted g.fault g.volume some first a.so_far

  -- a tape of it is missing
  pub next_missing : (tape initial : ℕ) (missed : List ℕ) → first_missing g.kept.items ≡ Some tape → missed ≡ numbered d.base tape → initial ≡ d.initial → IsFirstMissing slots (needs listed g.dumps g.name) missed initial
  next_missing tape initial missed first named initial_is = misses listed g.name g.dumps g.played d a.within (awaited slots listed one d id g a) slots (is_some g.fault) g.kept.items tape initial missed here_now a.all seen first named initial_is

pub none_there : (o : Option RestoreFault) → is_some o ≡ false → o ≡ None
none_there None is = refl
none_there (Some f) is = absurd (cc)

-- what is kept of the dump stays so
pub kept_still : (slots : List Slot) (listed : List DumpRecordFields) (one : VolumeDump) (d : DumpRecordFields) (id : ℕ) (g : Going) → Awaits slots listed one d id g
    → (e : DumpRecordFields) → record_of listed (get_or g.dumps g.played 0) ≡ Some e → IsBegun slots e (is_some g.fault) (called_for e g.name) g.kept.items
kept_still slots listed one d id g a e is =
    let same : d ≡ e = one_dump (record_of listed (get_or g.dumps g.played 0)) d e (awaited slots listed one d id g a) is in
    inr (subst (λ (x : DumpRecordFields). AllKept slots x (is_some g.fault) (called_for x g.name) g.kept.items) same a.all)

pub waits_still : (slots : List Slot) (listed : List DumpRecordFields) (one : VolumeDump) (d : DumpRecordFields) (id : ℕ) (g : Going) → Awaits slots listed one d id g → IsGoing slots listed one g
waits_still slots listed one d id g a = record {
  name = a.name;
  chain = a.chain;
  so_far = subst (IsSoFar slots listed g.name g.dumps g.played g.volume g.fault) (sym a.none) a.so_far;
  kept = kept_still slots listed one d id g a;
}

-- what was kept on a tape
pub awaits_now : (slots : List Slot) (listed : List DumpRecordFields) (one : VolumeDump) (d : DumpRecordFields) (id : ℕ) (old new : Going) → IsGoing slots listed one old → old.missing ≡ None → old.played < length old.dumps → get_or old.dumps old.played 0 ≡ id → record_of listed id ≡ Some d
    → new.name ≡ old.name → new.dumps ≡ old.dumps → new.played ≡ old.played → new.volume ≡ old.volume → new.fault ≡ old.fault → new.missing ≡ old.missing
    → AllKept slots d (is_some old.fault) (called_for d old.name) new.kept.items → Awaits slots listed one d id new
awaits_now slots listed one d id old new going none within next is name dumps played volume fault missing all = record {
  name = name ∙ going.name;
  chain = subst (λ (l : List ℕ). IsChain listed one.dump.id one.volume.name (Ok l)) (sym dumps) going.chain;
  so_far = subst (λ (f : Option RestoreFault). IsSoFar slots listed new.name new.dumps new.played new.volume f None) (sym fault)
      (subst (λ (v : Option VolumeFields). IsSoFar slots listed new.name new.dumps new.played v old.fault None) (sym volume)
      (subst (λ (n : ℕ). IsSoFar slots listed new.name new.dumps n old.volume old.fault None) (sym played)
      (subst (λ (l : List ℕ). IsSoFar slots listed new.name l old.played old.volume old.fault None) (sym dumps)
      (subst (λ (n : List ℕ). IsSoFar slots listed n old.dumps old.played old.volume old.fault None) (sym name)
      (subst (IsSoFar slots listed old.name old.dumps old.played old.volume old.fault) none going.so_far)))));
  none = missing ∙ none;
  within = omega (arith, within, played, ap length dumps);
  next = ap (λ (l : List ℕ). get_or l new.played 0) dumps ∙ ap (λ (n : ℕ). get_or old.dumps n 0) played ∙ next;
  record_is = is;
  all = subst (λ (f : Option RestoreFault). AllKept slots d (is_some f) (called_for d new.name) new.kept.items) (sym fault) (subst (λ (n : List ℕ). AllKept slots d (is_some old.fault) (called_for d n) new.kept.items) (sym name) all);
}

pub volume_there : (slots : List Slot) (listed : List DumpRecordFields) (one : VolumeDump) (d : DumpRecordFields) (id : ℕ) (g : Going) → IsGoing slots listed one g → g.played < length g.dumps → get_or g.dumps g.played 0 ≡ id → record_of listed id ≡ Some d → (v : VolRecordFields) × (volume_of d g.name ≡ Some v)
volume_there slots listed one d id g going within next is =
    let at : HasVolume listed one.volume.name (get_or g.dumps g.played 0) = dumped_at listed one.volume.name g.dumps g.played within (chain_dumped listed one.dump.id one.volume.name g.dumps going.chain) in
    let same : at.dump ≡ d = one_dump (record_of listed (get_or g.dumps g.played 0)) at.dump d at.is (ap (record_of listed) next ∙ is) in
    (at.volume, ap (volume_of d) going.name ∙ ap (λ (x : DumpRecordFields). volume_of x one.volume.name) (sym same) ∙ at.named)

pub on_ok_so : {T E : Type 0} {X Y : Type 0} (r : Result T E) → (X → Y) → OnOk r X → OnOk r Y
on_ok_so (Ok x) so is = so is
on_ok_so (Err e) so is = tt

pub course_goes : {T E : Type 0} (slots : List Slot) (listed : List DumpRecordFields) (found : Option VolumeDump) (old new : Going) (r : Result T E) → ((one : VolumeDump) → IsGoing slots listed one old → OnOk r (IsGoing slots listed one new))
    → IsCourseFor slots listed found (courses.Going old) → OnOk r (IsCourseFor slots listed found (courses.Going new))
course_goes slots listed None old new r so course = absurd course
course_goes slots listed (Some one) old new r so course = so one course

pub held_still : {D : Type 0} (P : Plant D) (slots : List Slot) (d : DumpRecordFields) (tape : ℕ) (old new : D) (held : Bool) → HasRead P old new → IsHeldSo P slots d tape old held → IsHeldSo P slots d tape new held
held_still P slots d tape old new true read (x, is, loaded) = (x, is, read.numbers.tape.loaded ∙ loaded)
held_still P slots d tape old new false read is = is

-- what was found of a tape
held_by : {D : Type 0} (P : Plant D) (slots : List Slot) (d : DumpRecordFields) (tape : ℕ) (plant : D) (o : Option (ℕ × Slot)) (found : Option ℕ) → holder_here d tape slots ≡ o → found ≡ number_of o → IfSome found (λ slot. (P.view plant).loaded ≡ Some slot) → IsHeldSo P slots d tape plant (is_some found)
held_by P slots d tape plant None None is same loaded = is
held_by P slots d tape plant None (Some k) is same loaded = absurd (cc)
held_by P slots d tape plant (Some x) None is same loaded = absurd (cc)
held_by P slots d tape plant (Some x) (Some k) is same loaded =
    let number : k ≡ x.0 = cc in
    (x, is, loaded ∙ ap Some number)

pub held_found : {D : Type 0} (P : Plant D) (slots : List Slot) (d : DumpRecordFields) (tape : ℕ) (plant : D) (found : Option ℕ) → found ≡ number_of (holder_here d tape slots) → IfSome found (λ slot. (P.view plant).loaded ≡ Some slot) → IsHeldSo P slots d tape plant (is_some found)
held_found P slots d tape plant found same loaded = held_by P slots d tape plant (holder_here d tape slots) found refl same loaded

pub loaded_some : {D : Type 0} (P : Plant D) (plant : D) (found : Option ℕ) → IfSome found (λ slot. (P.view plant).loaded ≡ Some slot) → is_some found ≡ true → is_some (P.view plant).loaded ≡ true
loaded_some P plant None loaded is = absurd (cc)
loaded_some P plant (Some k) loaded is = ap is_some loaded

-- ---- what is answered for a chain that is over

pub outcome_missing : (g : Going) (m : Missed) (p : Played) → g.missing ≡ Some m → p ≡ played.Refused (faults.MissingTape m.name m.initial) → IsOutcome (courses.Going g) p
outcome_missing g m p is same = subst (λ (o : Option Missed). IsOutcomeOf g g.fault o p) (sym is) same

pub outcome_fault : (g : Going) (f : RestoreFault) (p : Played) → g.missing ≡ None → g.fault ≡ Some f → length g.dumps ≤ g.played → p ≡ played.Refused f → IsOutcome (courses.Going g) p
outcome_fault g f p none is over same = subst (λ (o : Option Missed). IsOutcomeOf g g.fault o p) (sym none) (subst (λ (o : Option RestoreFault). IsOutcomeOf g o None p) (sym is) (over, same))

pub outcome_volume : (g : Going) (v : VolumeFields) (p : Played) → g.missing ≡ None → g.fault ≡ None → length g.dumps ≤ g.played → g.volume ≡ Some v → p ≡ played.Volume v → IsOutcome (courses.Going g) p
outcome_volume g v p none well over is same = subst (λ (o : Option Missed). IsOutcomeOf g g.fault o p) (sym none) (subst (λ (o : Option RestoreFault). IsOutcomeOf g o None p) (sym well) (over, v, is, same))
