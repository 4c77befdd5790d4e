-- The tape step: the chosen tape is cut, and the part is begun on it.
use Rattle.std.proofs.Common.{◌≡◌, ◌⊎◌, ℕ, zero, suc, ◌+◌, ◌≤◌, false, Option, Some, None, List, [], ◌∷◌, ◌++◌, length, map, take, refl, sym, ap, subst, ◌∙◌, arith, inl, inr, length-append}
use Rattle.std.specs.Prelude.{◌==◌, Result, Contains, slice_get}
use Rattle.std.specs.List.{flat_map}
use Rattle.std.proofs.lemmas.Bool.{eqb-true, cases_Bool}
use Rattle.std.proofs.lemmas.List.Elements.{All-nil, All-contains}
use Rattle.vnode_model.specs.declared.volumes.VolumeFields.{VolumeFields}
use Rattle.tape_config.specs.declared.port.PortFields.{PortFields}
use Rattle.tape_frames.specs.declared.frame.Frame.TheVariants as frames
use Rattle.tape_frames.specs.declared.label.LabelFields.{LabelFields}
use Rattle.tape_frames.specs.declared.dump_head.DumpHeadFields.{DumpHeadFields}
use Rattle.tape_frames.specs.declared.vol_head.VolHeadFields.{VolHeadFields}
use Rattle.budb_changes.specs.declared.records.Frag.{Frag}
use Rattle.budb_changes.specs.declared.records.VolRecordFields.{VolRecordFields}
use Rattle.budb_changes.specs.declared.records.DumpRecordFields.{DumpRecordFields}
use Rattle.plant_core.specs.Crashes.{State}
use Rattle.plant_core.specs.Effects.{cuts, comes, come}
use Rattle.tape_text.specs.Items.{Item, Says, Filemark, IsFitItem}
use Rattle.tape_text.specs.Texts.{Fragment, Part, Tape, tape_items, IsOf}
use Rattle.tape_text.specs.Parts.{fragments_at}
use Rattle.tape_text.specs.Wholes.{Lying, lying_as, lying_in}
use Rattle.tape_scan.specs.Slots.{Slot, Located}
use Rattle.tape_scan.proofs.OpenedLaws.{label_tape}
use Rattle.tape_writer.specs.Puts.{puts_on}
use Rattle.tape_writer.specs.Room.{HasRoom, with_label, taken_by}
use Rattle.archive_model.specs.Archives.{Archive, Refusal, listed_of}
use Rattle.archive_model.specs.Settled.{AreHeld}
use Rattle.archive_model.specs.Turns.{with_items, with_slot, remaining, IsFreshHead, HasOwnHeads}
use Rattle.archive_model.proofs.JobLaws.{slot_with, own_are_fresh, remaining_among, taken_holds, appended_holds}
use Rattle.archive_model.proofs.PutLaws.{with_get}
use Rattle.dump_job.specs.declared.fields.Hand.{Hand}
use Rattle.dump_job.specs.declared.fields.JobFields.{JobFields}
use Rattle.dump_job.specs.Reels.{records_on, counts_on}
use Rattle.dump_job.specs.Taping.{head_with, reel_begun, head_at, phase_begun}
use Rattle.dump_laws.specs.Made.{Made, Basis, part_begun, all_lying}
use Rattle.dump_laws.specs.Writing.{IsEnded, EndedFit, FrontFits, FragmentsFit, VolumesFit, HandGoes}
use Rattle.dump_laws.specs.Running.{basis_of, Goes, IsOpen, OwnHeads, IsTaken, IsAppended, BeforeTape, CloneGoes, BeforeHead, Comes, WithHand, Before}
use Rattle.dump_laws.proofs.NeighbourLaws.{all_so, get_more}
use Rattle.dump_laws.proofs.OpenPartLaws.{get_uncut}
use Rattle.dump_laws.proofs.OwnLaws.{all_closed_elsewhere}
use Rattle.dump_laws.proofs.GoingLaws.{other_settled}

-- the job behind the tape step, by its label
abbrev pub taped_with : Option LabelFields → ℕ → JobFields → JobFields
taped_with label uses j = record j { head = head_with uses j.head; spare = None; reel = reel_begun label j.reel; first = head_at label j.reel; phase = phase_begun j.hand }

-- what the front of the tape is from now on
abbrev pub with_front : Tape → Made → Made
with_front front m = record m { front = front }

-- ---- what doesn't depend on it

ended_with : (uses : ℕ) (h : DumpHeadFields) (ended : List Located) → EndedFit h ended → EndedFit (head_with uses h) ended
ended_with uses h ended fit = record {
  linked = fit.linked;
  begins = fit.begins;
  each = all_so (IsEnded h (length ended)) (IsEnded (head_with uses h) (length ended)) ended
      (λ l x. record {
        agree = record {
          id = x.agree.id;
          initial = x.agree.initial;
          parent = x.agree.parent;
          expires = x.agree.expires;
          volumes = x.agree.volumes;
          set = x.agree.set;
          level = x.agree.level;
          base = x.agree.base;
          cell = x.agree.cell;
        };
        more = x.more;
        number = x.number;
      })
      fit.each;
  next = fit.next;
  number = fit.number;
}

volumes_with : (contents : ℕ → List ℕ → Result VolumeFields Refusal) (b : Basis) (volumes : List VolRecordFields) (front : Tape) (m : Made) → VolumesFit contents b volumes m → VolumesFit contents b volumes (with_front front m)
volumes_with contents b volumes front m fit = record { some = fit.some; clones = fit.clones; cloned = fit.cloned; dumped = fit.dumped }

goes_front : (contents : ℕ → List ℕ → Result VolumeFields Refusal) (b : Basis) (done : ℕ) (head : VolHeadFields) (frags : List Frag) (left : List ℕ) (front : Tape) (m : Made) → HandGoes contents b done head frags left m → HandGoes contents b done head frags left (with_front front m)
goes_front contents b done head frags left front m x = record {
  fits = x.fits;
  streams = record { clone = x.streams.clone; at = x.streams.at; last = x.streams.last; cloned = x.streams.cloned; heads = x.streams.heads; stream = x.streams.stream };
  below = x.below;
}

-- without fragments of the part in hand it doesn't matter where the part begins
lying_anywhere : (tape first next : ℕ) (m : Made) → m.fragments ≡ [] → all_lying tape next m ≡ all_lying tape first m
lying_anywhere tape first next m none =
    let before : List Lying = flat_map (λ l. lying_in l.found) m.ended in
    ap (λ (fs : List Fragment). before ++ map (lying_as tape) (fragments_at (next + 1) fs)) none ∙ sym (ap (λ (fs : List Fragment). before ++ map (lying_as tape) (fragments_at (first + 1) fs)) none)

no_fragments_fit : (id volumes : ℕ) (ended : List Located) (fs : List Fragment) → fs ≡ [] → FragmentsFit id volumes ended fs
no_fragments_fit id volumes ended [] none = record { begins = tt; each = All-nil (IsOf id volumes); linked = tt }
no_fragments_fit id volumes ended (f ∷ fs) none = absurd (cc)

settled_cut : (k j n : ℕ) (items : List Item) (s : State) → (j ≡ k → ⊥) → (come (cuts k n ∷ puts_on k items) s).settled j ≡ s.settled j
settled_cut k j n items s other =
    let unlike : (j == k) ≡ false = elim (cases_Bool (j == k)) [
      | inl same ↦ absurd (other (eqb-true j k same))
      | inr miss ↦ miss
    ] in
    other_settled k j items (comes (cuts k n) s) other ∙ rw unlike refl

-- ---- heads

own_begun : (slots : List Slot) (ended : List Located) (id k : ℕ) (items : List Item) (first : ℕ) → HasOwnHeads slots ended id → ((n : ℕ) (h : DumpHeadFields) → slice_get items n ≡ Some (Says (frames.DumpHead h)) → h.id ≡ id → ((l : Located) × Contains ended l × (l.slot ≡ k) × (l.found.first ≡ n)) ⊎ (n ≡ first))
    → OwnHeads (with_items k items slots) ended id k first
own_begun slots ended id k items first own here j t n h at is same = elim (with_get k items slots j t at) [
  | inl x ↦
      (let there : slice_get items n ≡ Some (Says (frames.DumpHead h)) = ap (λ (l : List Item). slice_get l n) (sym x.1) ∙ is in
      elim (here n h there same) [
        | inl old ↦ inl (old.0, old.1, old.2 ∙ sym x.0, old.3)
        | inr new ↦ inr (x.0, new)
      ])
  | inr x ↦ inl (own j t n h x.1 is same)
]

length_front : (n : ℕ) (xs : List Item) → n ≤ length xs → length (take n xs) ≡ n
length_front zero xs le = refl
length_front (suc n) [] le = absurd (omega (arith, le))
length_front (suc n) (x ∷ xs) le = omega (arith, length_front n xs (omega (arith, le)))

labelled_head : (l : LabelFields) (g : DumpHeadFields) (n : ℕ) (h : DumpHeadFields) → slice_get (Says (frames.Label l) ∷ Filemark ∷ Says (frames.DumpHead g) ∷ []) n ≡ Some (Says (frames.DumpHead h)) → n ≡ 2
labelled_head l g zero h is = absurd (cc)
labelled_head l g (suc zero) h is = absurd (cc)
labelled_head l g (suc (suc zero)) h is = refl
labelled_head l g (suc (suc (suc n))) h is = absurd (cc)

empty_snoc : (before : List Part) (q : Part) → [] ≡ before ++ q ∷ [] → ⊥
empty_snoc [] q is = absurd (cc)
empty_snoc (p ∷ before) q is = absurd (cc)

-- ---- a tape that is taken

module _ (s : State) (a : Archive) (records : List DumpRecordFields) (j : JobFields) (m : Made) (g : Goes s a records j m) (b : BeforeTape a j m) (uses : ℕ) (fit : IsFitItem (Says (frames.DumpHead (head_with uses j.head)))) where
  new_head : (d : DumpRecordFields) → Contains records d → d.id ≡ j.head.id → ⊥
  new_head d there = (g.new d there).0

  fresh_head : IsFreshHead a.slots (Says (frames.DumpHead (head_with uses j.head)))
  fresh_head =
      own_are_fresh a.slots m.ended (head_with uses j.head) g.closed b.own
      (λ l there same.
      (let number : l.found.part.head.part ≤ length m.ended = (All-contains (IsEnded j.head (length m.ended)) m.ended l g.ended.each there).number in
      absurd (omega (arith, number, same, g.ended.number))))

  module _ (label : LabelFields) (t : IsTaken a j b.slot label) (fit_label : IsFitItem (Says (frames.Label label))) where
    abbrev taken_items : List Item
    taken_items = Says (frames.Label label) ∷ Filemark ∷ Says (frames.DumpHead (head_with uses j.head)) ∷ []

    abbrev taken_front : Tape
    taken_front = record { label = label; parts = [] }

    abbrev taken_records : List DumpRecordFields
    taken_records = remaining (listed_of a) (with_items j.reel.slot [] a.slots) records

    pub taken_held : AreHeld s (cuts j.reel.slot (records_on j.reel) ∷ puts_on j.reel.slot taken_items)
        (record { archive = a; records = records } ∷ record { archive = with_slot a j.reel.slot []; records = taken_records } ∷ record { archive = with_slot a j.reel.slot (Says (frames.Label label) ∷ []); records = taken_records }
        ∷ record { archive = with_slot a j.reel.slot (Says (frames.Label label) ∷ Filemark ∷ []); records = taken_records } ∷ record { archive = with_slot a j.reel.slot (Says (frames.Label label) ∷ Filemark ∷ []); records = taken_records }
        ∷ record { archive = with_slot a j.reel.slot taken_items; records = taken_records } ∷ [])
    unfolding puts_on
    taken_held =
        let none : 0 ≡ records_on j.reel = omega (arith, t.blocks, t.marks) in
        subst
        (λ (n : ℕ). AreHeld s (cuts j.reel.slot n ∷ puts_on j.reel.slot taken_items)
        (record { archive = a; records = records } ∷ record { archive = with_slot a j.reel.slot []; records = taken_records } ∷ record { archive = with_slot a j.reel.slot (Says (frames.Label label) ∷ []); records = taken_records }
        ∷ record { archive = with_slot a j.reel.slot (Says (frames.Label label) ∷ Filemark ∷ []); records = taken_records } ∷ record { archive = with_slot a j.reel.slot (Says (frames.Label label) ∷ Filemark ∷ []); records = taken_records }
        ∷ record { archive = with_slot a j.reel.slot taken_items; records = taken_records } ∷ [])) none
        (taken_holds s a records g.held j.reel.slot b.slot b.at (head_with uses j.head) fit new_head fresh_head label fit_label t.free)

    pub taken_goes : Goes (come (cuts j.reel.slot (records_on j.reel) ∷ puts_on j.reel.slot taken_items) s) (with_slot a j.reel.slot taken_items) taken_records (taped_with (Some label) uses j) (with_front taken_front m)
    unfolding puts_on
    taken_goes = record {
      held = taken_held.1.1.1.1.1;
      new = λ e there. g.new e (remaining_among (listed_of a) (with_items j.reel.slot [] a.slots) records e there);
      parent = g.parent;
      ended = ended_with uses j.head m.ended g.ended;
      filled = g.filled;
      closed = all_closed_elsewhere j.reel.slot taken_items a.slots m.ended g.apart g.closed;
      settled = λ l there. subst (λ (n : ℕ). l.found.end ≤ n) (sym (settled_cut j.reel.slot l.slot (records_on j.reel) taken_items s (g.apart l there))) (g.settled l there);
      apart = g.apart;
      count = g.count;
      volumes = volumes_with a.contents (basis_of j) j.volumes taken_front m g.volumes;
    }

    pub taken_open : IsOpen (with_slot a j.reel.slot taken_items) (taped_with (Some label) uses j) (with_front taken_front m) []
    taken_open =
        record {
          slot = record b.slot { items = taken_items };
          at = slot_with j.reel.slot taken_items a.slots b.slot b.at;
          items = sym (ap (λ (fs : List Fragment). tape_items taken_front ++ part_begun (head_with uses j.head) fs []) b.none);
          front = record {
            tape = label_tape label fit_label;
            some = λ zero_is. absurd (omega (arith, fit.initial.0, t.initial, zero_is));
            initial = t.initial;
            number = t.number;
            name = t.name;
            permanent = t.permanent;
            behind = λ before q is. absurd (empty_snoc before q is);
            uses = λ q there tells. absurd (omega (arith, there.1));
          };
          first = omega (arith, t.blocks, t.marks);
          marks = omega (arith, t.marks, ap length b.none);
          count = omega (arith, t.blocks, t.marks);
          fragments = no_fragments_fit j.head.id j.head.volumes m.ended m.fragments b.none;
          own = own_begun a.slots m.ended j.head.id j.reel.slot taken_items (head_at (Some label) j.reel) b.own (λ n h is same. inr (labelled_head label (head_with uses j.head) n h is ∙ omega (arith, t.blocks, t.marks)));
        }

  -- ---- a tape that is appended to

  module _ (t : IsAppended a j b.slot m.front) (known : uses ≡ j.head.uses) where
    abbrev front_items : List Item
    front_items = take (records_on j.reel) b.slot.items

    abbrev appended_items : List Item
    appended_items = front_items ++ Says (frames.DumpHead (head_with uses j.head)) ∷ []

    abbrev appended_records : List DumpRecordFields
    appended_records = remaining (listed_of a) (with_items j.reel.slot front_items a.slots) records

    pub appended_held : AreHeld s (cuts j.reel.slot (records_on j.reel) ∷ puts_on j.reel.slot (Says (frames.DumpHead (head_with uses j.head)) ∷ []))
        (record { archive = a; records = records } ∷ record { archive = with_slot a j.reel.slot front_items; records = appended_records } ∷ record { archive = with_slot a j.reel.slot appended_items; records = appended_records } ∷ [])
    unfolding puts_on
    appended_held = appended_holds s a records g.held j.reel.slot b.slot b.at (head_with uses j.head) fit new_head fresh_head (records_on j.reel) t.behind

    pub appended_goes : Goes (come (cuts j.reel.slot (records_on j.reel) ∷ puts_on j.reel.slot (Says (frames.DumpHead (head_with uses j.head)) ∷ [])) s) (with_slot a j.reel.slot appended_items) appended_records (taped_with None uses j) m
    unfolding puts_on
    appended_goes = record {
      held = appended_held.1.1;
      new = λ e there. g.new e (remaining_among (listed_of a) (with_items j.reel.slot front_items a.slots) records e there);
      parent = g.parent;
      ended = ended_with uses j.head m.ended g.ended;
      filled = g.filled;
      closed = all_closed_elsewhere j.reel.slot appended_items a.slots m.ended g.apart g.closed;
      settled = λ l there. subst (λ (n : ℕ). l.found.end ≤ n) (sym (settled_cut j.reel.slot l.slot (records_on j.reel) (Says (frames.DumpHead (head_with uses j.head)) ∷ []) s (g.apart l there))) (g.settled l there);
      apart = g.apart;
      count = g.count;
      volumes = g.volumes;
    }

    front_long : length front_items ≡ records_on j.reel
    front_long = length_front (records_on j.reel) b.slot.items t.within

    appended_own : (n : ℕ) (h : DumpHeadFields) → slice_get appended_items n ≡ Some (Says (frames.DumpHead h)) → h.id ≡ j.head.id → ((l : Located) × Contains m.ended l × (l.slot ≡ j.reel.slot) × (l.found.first ≡ n)) ⊎ (n ≡ records_on j.reel)
    appended_own n h is same = elim (get_more front_items (Says (frames.DumpHead (head_with uses j.head))) n (Says (frames.DumpHead h)) is) [
      | inl old ↦ inl (b.own j.reel.slot b.slot n h b.at (get_uncut (records_on j.reel) n b.slot.items (Says (frames.DumpHead h)) old) same)
      | inr new ↦ inr (new.0 ∙ front_long)
    ]

    pub appended_open : IsOpen (with_slot a j.reel.slot appended_items) (taped_with None uses j) m []
    appended_open = record {
      slot = record b.slot { items = appended_items };
      at = slot_with j.reel.slot appended_items a.slots b.slot b.at;
      items = ap (λ (l : List Item). l ++ Says (frames.DumpHead (head_with uses j.head)) ∷ []) t.stands ∙ sym (ap (λ (fs : List Fragment). tape_items m.front ++ part_begun (head_with uses j.head) fs []) b.none);
      front = subst (λ (n : ℕ). FrontFits m.front (head_with n j.head)) (sym known) t.fits;
      first = sym front_long ∙ ap length t.stands;
      marks = omega (arith, t.marks, ap length b.none);
      count = omega (arith, front_long, length-append front_items (Says (frames.DumpHead (head_with uses j.head)) ∷ []));
      fragments = no_fragments_fit j.head.id j.head.volumes m.ended m.fragments b.none;
      own = own_begun a.slots m.ended j.head.id j.reel.slot appended_items (records_on j.reel) b.own appended_own;
    }

-- ---- what comes then

taken_room : (port : PortFields) (blocks marks : ℕ) → taken_by port (blocks + 1 + 5) (marks + 1 + 2) ≤ port.capacity → taken_by port (blocks + 2 + 4) (marks + 1 + 2) ≤ port.capacity
taken_room port blocks marks enough = (let e : blocks + 1 + 5 ≡ blocks + 2 + 4 = omega arith in subst (λ (n : ℕ). taken_by port n (marks + 1 + 2) ≤ port.capacity) e enough)

appended_room : (port : PortFields) (blocks marks : ℕ) → taken_by port (blocks + 5) (marks + 2) ≤ port.capacity → taken_by port (blocks + 1 + 4) (marks + 0 + 2) ≤ port.capacity
appended_room port blocks marks enough =
    let e : blocks + 5 ≡ blocks + 1 + 4 = omega arith in
    let f : marks + 2 ≡ marks + 0 + 2 = omega arith in
    subst (λ (n : ℕ). taken_by port (blocks + 1 + 4) n ≤ port.capacity) f (subst (λ (n : ℕ). taken_by port n (marks + 2) ≤ port.capacity) e enough)

pub begun_room : (j : JobFields) (label : Option LabelFields) → HasRoom 5 2 (with_label label (counts_on j.port j.reel)) → HasRoom 4 2 (counts_on j.port (reel_begun label j.reel))
begun_room j None enough = appended_room j.port j.reel.blocks j.reel.marks enough
begun_room j (Some label) enough = taken_room j.port j.reel.blocks j.reel.marks enough

pub begun_before : (a : Archive) (j : JobFields) (m : Made) (front : Tape) (items : List Item) (label : Option LabelFields) (uses : ℕ) (hand : Option Hand) → j.hand ≡ hand → Comes a j m hand → m.fragments ≡ [] → HasRoom 4 2 (counts_on j.port (reel_begun label j.reel))
    → IsOpen (with_slot a j.reel.slot items) (taped_with label uses j) (with_front front m) [] → Before (with_slot a j.reel.slot items) (taped_with label uses j) (with_front front m) (phase_begun hand)
begun_before a j m front items label uses None is n none enough o = record {
  open_part = o;
  hand = subst (λ (x : Option Hand). CloneGoes (with_slot a j.reel.slot items) (taped_with label uses j) (with_front front m) x) (sym is)
      (record { ended = n.ended; fragments = n.fragments; pieces = n.pieces; volumes = n.volumes; clones = n.clones }, enough);
}
begun_before a j m front items label uses (Some h) is x none enough o =
    subst (λ (y : Option Hand). WithHand (λ z. BeforeHead (with_slot a j.reel.slot items) (taped_with label uses j) z (with_front front m)) y) (sym is) (record {
      open_part = o;
      hand = record {
        goes = goes_front a.contents (basis_of j) (length j.volumes) h.head h.frags h.stream front m x.0.goes;
        comes = x.0.comes;
        lying = lying_anywhere j.head.tape j.first (head_at label j.reel) m none ∙ x.0.lying;
      };
      none = x.2;
      left = x.1;
      room = λ same. enough;
    })
