-- The steps of a volume in hand: a fragment's head, a piece, and a fragment's end.
use Rattle.std.proofs.Common.{◌≡◌, ℕ, zero, suc, ◌+◌, ◌-◌, ◌≤◌, false, Some, List, [], ◌∷◌, ◌++◌, length, take, drop, refl, sym, ap, subst, ◌∙◌, arith, inl, inr, append_assoc, length-append, length-drop}
use Rattle.std.specs.Prelude.{◌==◌, All, replicate}
use Rattle.std.specs.List.{flat_map}
use Rattle.std.proofs.lemmas.Bool.{eqb-true, cases_Bool}
use Rattle.std.proofs.lemmas.List.{take-append-drop, take-append-le, take_all}
use Rattle.std.proofs.lemmas.List.Elements.{All-nil, All-head, All-tail}
use Rattle.std.proofs.lemmas.List.Sums.{sum_by-cons}
use Rattle.tape_frames.specs.declared.frame.Frame.TheVariants as frames
use Rattle.tape_frames.specs.declared.data.DataFields.{DataFields}
use Rattle.tape_frames.specs.declared.vol_head.VolHeadFields.{VolHeadFields}
use Rattle.budb_changes.specs.declared.records.VolRecordFields.{VolRecordFields}
use Rattle.budb_changes.specs.declared.records.DumpRecordFields.{DumpRecordFields}
use Rattle.plant_core.specs.Crashes.{State}
use Rattle.plant_core.specs.Effects.{come}
use Rattle.tape_text.specs.Items.{Item, Says, IsFitItem}
use Rattle.tape_text.specs.Texts.{Fragment, data_item, fragment_items, tape_items, room, AreFilled, IsPiece, used_of, IsOf}
use Rattle.tape_text.specs.Wholes.{Lying}
use Rattle.tape_writer.specs.Filling.{bytes_of}
use Rattle.tape_writer.specs.Puts.{puts_on}
use Rattle.tape_writer.specs.Room.{HasRoom, taken_by}
use Rattle.tape_config.specs.declared.port.PortFields.{PortFields}
use Rattle.archive_model.specs.Archives.{Archive}
use Rattle.archive_model.specs.Holding.{called_of}
use Rattle.archive_model.specs.Settled.{AreHeld}
use Rattle.archive_model.specs.Turns.{with_slot}
use Rattle.tape_scan.proofs.ListLaws.{either}
use Rattle.archive_model.proofs.ExampleLaws.{volume_end_holds}
use Rattle.dump_job.specs.declared.fields.Hand.{Hand}
use Rattle.dump_job.specs.declared.fields.JobFields.{JobFields}
use Rattle.dump_job.specs.declared.fields.Phase.{Phase}
use Rattle.dump_job.specs.declared.fields.Phase.TheVariants as phase
use Rattle.dump_job.specs.Reels.{records_on, with_more, counts_on}
use Rattle.dump_job.specs.Cloning.{record_with}
use Rattle.dump_job.specs.Volumes.{phase_behind, head_items, begun_at, headed, next_used, next_piece, piece_items, without_piece, pieced, fragment_end, end_items, volume_cut}
use Rattle.dump_laws.specs.Made.{Made, opening_items, part_begun, all_lying, going_on, done_lying}
use Rattle.dump_laws.specs.Writing.{VolumesFit, HandGoes}
use Rattle.dump_laws.specs.Running.{basis_of, Goes, IsOpen, BeforeHead, HasOpenFragment, BeforePiece, BeforeVolumeEnd, BeforePartEnd, HandDone}
use Rattle.dump_laws.proofs.NeighbourLaws.{all_more, map_more, ends_more}
use Rattle.dump_laws.proofs.PartLaws.{fragments_length}
use Rattle.dump_laws.proofs.LyingLaws.{HeadsOf, lying_more, done_more, called_last, going_more}
use Rattle.dump_laws.proofs.StreamLaws.{with_fragment, done_with, goes_with, with_piece}
use Rattle.dump_laws.proofs.GoingLaws.{frame_put_holds, goes_put, open_put, open_ended, fragments_more}

-- ---- what follows a piece

unequal : (a b : ℕ) → (a ≡ b → ⊥) → (a == b) ≡ false
unequal a b other = elim (cases_Bool (a == b)) [
  | inl same ↦ absurd (other (eqb-true a b same))
  | inr unlike ↦ unlike
]

pub phase_left : (left : List ℕ) → (left ≡ [] → ⊥) → phase_behind left ≡ phase.Piece
phase_left [] some = absurd (some refl)
phase_left (b ∷ left) some = (let unlike : (length (b ∷ left) == 0) ≡ false = unequal (length (b ∷ left)) 0 (λ same. absurd (omega (arith, same))) in rw unlike refl)

pub phase_over : (left : List ℕ) → left ≡ [] → phase_behind left ≡ phase.VolumeEnd
phase_over [] none = refl
phase_over (b ∷ left) none = absurd (cc)

-- ---- room

room_less : (port : PortFields) (blocks marks : ℕ) → taken_by port (blocks + 4) (marks + 2) ≤ port.capacity → taken_by port (blocks + 1 + 3) (marks + 0 + 2) ≤ port.capacity
room_less port blocks marks room =
    let b : blocks + 4 ≡ blocks + 1 + 3 = omega arith in
    let c : marks + 2 ≡ marks + 0 + 2 = omega arith in
    subst (λ (n : ℕ). taken_by port (blocks + 1 + 3) n ≤ port.capacity) c (subst (λ (n : ℕ). taken_by port n (marks + 2) ≤ port.capacity) b room)

-- ---- pieces

used_more : (ps : List DataFields) (p : DataFields) → used_of (ps ++ p ∷ []) ≡ used_of ps + p.used
used_more [] p = omega (arith, sum_by-cons (λ (d : DataFields). d.used) p [])
used_more (d ∷ ps) p = omega (arith, used_more ps p, sum_by-cons (λ (d : DataFields). d.used) d (ps ++ p ∷ []), sum_by-cons (λ (d : DataFields). d.used) d ps)

filled_last : (ps : List DataFields) (p : DataFields) → All (λ d. d.used ≡ room) ps → AreFilled 1 (ps ++ p ∷ [])
filled_last [] p full = inr refl
filled_last (d ∷ []) p full = (All-head (λ d. d.used ≡ room) d [] full, inr refl)
filled_last (d ∷ e ∷ ps) p full = (All-head (λ d. d.used ≡ room) d (e ∷ ps) full, filled_last (e ∷ ps) p (All-tail (λ d. d.used ≡ room) d (e ∷ ps) full))

pub filled_full : (ps : List DataFields) → (ps ≡ [] → ⊥) → All (λ d. d.used ≡ room) ps → AreFilled 0 ps
filled_full [] some full = absurd (some refl)
filled_full (d ∷ []) some full = inl (All-head (λ d. d.used ≡ room) d [] full)
filled_full (d ∷ e ∷ ps) some full = (All-head (λ d. d.used ≡ room) d (e ∷ ps) full, filled_full (e ∷ ps) (λ same. absurd (cc)) (All-tail (λ d. d.used ≡ room) d (e ∷ ps) full))

some_more : {X : Type 0} (xs : List X) (x : X) → xs ++ x ∷ [] ≡ [] → ⊥
some_more [] x same = absurd (cc)
some_more (y ∷ xs) x same = absurd (cc)

none_long : (left : List ℕ) → length left ≡ 0 → left ≡ []
none_long [] none = refl
none_long (b ∷ left) none = absurd (omega (arith, none))

length_take : (n : ℕ) (xs : List ℕ) → n ≤ length xs → length (take n xs) ≡ n
length_take zero xs le = refl
length_take (suc n) [] le = absurd (omega (arith, le))
length_take (suc n) (x ∷ xs) le = omega (arith, length_take n xs (omega (arith, le)))

-- a piece has the next bytes of the stream
next_bytes : (h : Hand) → h.stream ≡ bytes_of (next_piece h) ++ drop (next_used h) h.stream
next_bytes h =
    let n : ℕ = next_used h in
    let front : List ℕ = take n h.stream in
    let zeros : List ℕ = replicate (16352 - n) 0 in
    let within : n ≤ length h.stream = omega arith in
    let long : length front ≡ n = length_take n h.stream within in
    let le : n ≤ length front = omega (arith, long) in
    let again : take n front ≡ front = take_all n front (omega (arith, long)) in
    let piece : take n (front ++ zeros) ≡ front = take-append-le n front zeros le ∙ again in
    sym (take-append-drop n h.stream) ∙ ap (λ (l : List ℕ). l ++ drop n h.stream) (sym piece)

next_full : (h : Hand) → (drop (next_used h) h.stream ≡ [] → ⊥) → next_used h ≡ 16352
next_full h some = elim (either 16352 (length h.stream)) [
  | inl lt ↦ omega (arith, lt)
  | inr le ↦ absurd (some (none_long (drop (next_used h) h.stream) (omega (arith, length-drop (next_used h) h.stream, le))))
]

module _ (s : State) (a : Archive) (records : List DumpRecordFields) (j : JobFields) (m : Made) (g : Goes s a records j m) (h : Hand) where
  -- ---- the head of a fragment

  pub head_held : (b : BeforeHead a j h m) → IsFitItem (Says (frames.VolHead h.head))
      → AreHeld s (puts_on j.reel.slot (head_items h)) (record { archive = a; records = records } ∷ record { archive = with_slot a j.reel.slot (b.open_part.slot.items ++ head_items h); records = records } ∷ [])
  unfolding puts_on
  head_held b fit = (g.held, frame_put_holds s a records g.held j.reel.slot b.open_part.slot b.open_part.at (frames.VolHead h.head) fit tt)

  pub head_goes : (b : BeforeHead a j h m) → IsFitItem (Says (frames.VolHead h.head)) → Goes (come (puts_on j.reel.slot (head_items h)) s) (with_slot a j.reel.slot (b.open_part.slot.items ++ head_items h)) records (headed h j) m
  unfolding puts_on
  head_goes b fit =
      goes_put s a records j m g b.open_part.slot (head_items h) b.open_part.at 1 0 (Some (begun_at (records_on j.reel) h)) (phase_behind h.stream) m.fragments m.pieces
      (frame_put_holds s a records g.held j.reel.slot b.open_part.slot b.open_part.at (frames.VolHead h.head) fit tt) g.volumes

  pub head_before : (b : BeforeHead a j h m) → HasRoom 4 2 (counts_on j.port j.reel) → BeforePiece (with_slot a j.reel.slot (b.open_part.slot.items ++ head_items h)) (headed h j) (begun_at (records_on j.reel) h) m
  head_before b enough =
      let o = b.open_part in
      let made = open_put a j m [] o (frames.VolHead h.head) (λ x same. absurd (cc)) (Some (begun_at (records_on j.reel) h)) (phase_behind h.stream) m.pieces in
      record {
        fragment = record {
          open_part = subst (λ (ps : List DataFields). IsOpen (with_slot a j.reel.slot (o.slot.items ++ head_items h)) (headed h j) m (opening_items h.head ps)) (sym b.none) made;
          hand = b.hand;
          at = omega (arith, o.count, ap length o.items, o.first, length-append (tape_items m.front) (part_begun j.head m.fragments []), length-append (flat_map fragment_items m.fragments) [], fragments_length m.fragments);
          bytes = sym (ap used_of b.none);
          each = subst (All (IsPiece h.head.dump h.head.index)) (sym b.none) (All-nil (IsPiece h.head.dump h.head.index));
        };
        full = subst (All (λ (d : DataFields). d.used ≡ room)) (sym b.none) (All-nil (λ (d : DataFields). d.used ≡ room));
        left = b.left;
        room = λ none. room_less j.port j.reel.blocks j.reel.marks enough;
      }

  -- ---- a piece

  pub piece_held : (b : BeforePiece a j h m) → IsFitItem (Says (frames.Data (next_piece h)))
      → AreHeld s (puts_on j.reel.slot (piece_items h)) (record { archive = a; records = records } ∷ record { archive = with_slot a j.reel.slot (b.fragment.open_part.slot.items ++ piece_items h); records = records } ∷ [])
  unfolding puts_on
  piece_held b fit = (g.held, frame_put_holds s a records g.held j.reel.slot b.fragment.open_part.slot b.fragment.open_part.at (frames.Data (next_piece h)) fit tt)

  volumes_piece : (ps : List DataFields) → VolumesFit a.contents (basis_of j) j.volumes (record m { pieces = ps })
  volumes_piece ps = record { some = g.volumes.some; clones = g.volumes.clones; cloned = g.volumes.cloned; dumped = g.volumes.dumped }

  pub piece_goes : (b : BeforePiece a j h m) → IsFitItem (Says (frames.Data (next_piece h)))
      → Goes (come (puts_on j.reel.slot (piece_items h)) s) (with_slot a j.reel.slot (b.fragment.open_part.slot.items ++ piece_items h)) records (pieced h j) (record m { pieces = m.pieces ++ next_piece h ∷ [] })
  unfolding puts_on
  piece_goes b fit =
      goes_put s a records j m g b.fragment.open_part.slot (piece_items h) b.fragment.open_part.at 1 0 (Some (without_piece h)) (phase_behind (without_piece h).stream) m.fragments (m.pieces ++ next_piece h ∷ [])
      (frame_put_holds s a records g.held j.reel.slot b.fragment.open_part.slot b.fragment.open_part.at (frames.Data (next_piece h)) fit tt) (volumes_piece (m.pieces ++ next_piece h ∷ []))

  piece_open : (b : BeforePiece a j h m) → HasOpenFragment (with_slot a j.reel.slot (b.fragment.open_part.slot.items ++ piece_items h)) (pieced h j) (without_piece h) (record m { pieces = m.pieces ++ next_piece h ∷ [] })
  piece_open b =
      let x = b.fragment in
      let o = x.open_part in
      let p : DataFields = next_piece h in
      let ps : List DataFields = m.pieces ++ p ∷ [] in
      let made = open_put a j m (opening_items h.head m.pieces) o (frames.Data p) (λ y same. absurd (cc)) (Some (without_piece h)) (phase_behind (without_piece h).stream) ps in
      let shape : opening_items h.head m.pieces ++ Says (frames.Data p) ∷ [] ≡ opening_items h.head ps = ap (λ (l : List Item). Says (frames.VolHead h.head) ∷ l) (sym (map_more data_item m.pieces p)) in
      record {
        open_part = subst (λ (l : List Item). IsOpen (with_slot a j.reel.slot (o.slot.items ++ piece_items h)) (pieced h j) (record m { pieces = ps }) l) shape made;
        hand = record {
          goes = record {
            fits = x.hand.goes.fits;
            streams = with_piece a.contents (basis_of j) (length j.volumes) h.head h.stream (drop (next_used h) h.stream) m p (next_bytes h) x.hand.goes.streams;
            below = x.hand.goes.below;
          };
          comes = x.hand.comes;
          lying = x.hand.lying;
        };
        at = x.at;
        bytes = omega (arith, x.bytes, used_more m.pieces p);
        each = all_more (IsPiece h.head.dump h.head.index) m.pieces p x.each (refl, refl);
      }

  -- more of the stream is left
  pub piece_before : (b : BeforePiece a j h m) → (drop (next_used h) h.stream ≡ [] → ⊥) → BeforePiece (with_slot a j.reel.slot (b.fragment.open_part.slot.items ++ piece_items h)) (pieced h j) (without_piece h) (record m { pieces = m.pieces ++ next_piece h ∷ [] })
  piece_before b some = record {
    fragment = piece_open b;
    full = all_more (λ (d : DataFields). d.used ≡ room) m.pieces (next_piece h) b.full (next_full h some);
    left = some;
    room = λ none. absurd (some_more m.pieces (next_piece h) none);
  }

  -- nothing is left
  pub piece_last : (b : BeforePiece a j h m) → drop (next_used h) h.stream ≡ [] → BeforeVolumeEnd (with_slot a j.reel.slot (b.fragment.open_part.slot.items ++ piece_items h)) (pieced h j) (without_piece h) (record m { pieces = m.pieces ++ next_piece h ∷ [] })
  piece_last b none = record { fragment = piece_open b; filled = filled_last m.pieces (next_piece h) b.full; over = none }

  -- ---- the end of a fragment

  pub end_held : (x : HasOpenFragment a j h m) (last : ℕ) → IsFitItem (Says (frames.VolEnd (fragment_end last h)))
      → AreHeld s (puts_on j.reel.slot (end_items last h))
      (record { archive = a; records = records } ∷ record { archive = with_slot a j.reel.slot (x.open_part.slot.items ++ Says (frames.VolEnd (fragment_end last h)) ∷ []); records = records }
      ∷ record { archive = with_slot a j.reel.slot (x.open_part.slot.items ++ end_items last h); records = records } ∷ record { archive = with_slot a j.reel.slot (x.open_part.slot.items ++ end_items last h); records = records } ∷ [])
  unfolding puts_on
  end_held x last fit = volume_end_holds s a records g.held j.reel.slot x.open_part.slot x.open_part.at (fragment_end last h) fit

  is_fragment : (x : HasOpenFragment a j h m) (last : ℕ) → AreFilled last m.pieces → IsOf j.head.id j.head.volumes (record { head = h.head; pieces = m.pieces; end = fragment_end last h })
  is_fragment x last filled = (x.hand.goes.fits.dump, x.hand.goes.fits.below, record { pieces = x.each; filled = filled; dump = refl; index = refl; fragment = refl; bytes = x.bytes })

  pub end_goes : (x : HasOpenFragment a j h m) (last : ℕ) (p : Phase) → IsFitItem (Says (frames.VolEnd (fragment_end last h)))
      → Goes (come (puts_on j.reel.slot (end_items last h)) s) (with_slot a j.reel.slot (x.open_part.slot.items ++ end_items last h)) records (record j { reel = with_more 1 1 j.reel; phase = p }) (with_fragment m (record { head = h.head; pieces = m.pieces; end = fragment_end last h }))
  unfolding puts_on
  end_goes x last p fit =
      let f : Fragment = record { head = h.head; pieces = m.pieces; end = fragment_end last h } in
      goes_put s a records j m g x.open_part.slot (end_items last h) x.open_part.at 1 1 j.hand p (m.fragments ++ f ∷ []) [] (end_held x last fit).1.1.1 (done_with a.contents (basis_of j) j.volumes m f x.hand.goes.fits.index g.volumes)

  pub end_open : (x : HasOpenFragment a j h m) (last : ℕ) (p : Phase) → AreFilled last m.pieces
      → IsOpen (with_slot a j.reel.slot (x.open_part.slot.items ++ end_items last h)) (record j { reel = with_more 1 1 j.reel; phase = p }) (with_fragment m (record { head = h.head; pieces = m.pieces; end = fragment_end last h })) []
  end_open x last p filled =
      open_ended a j m h.head (fragment_end last h) x.open_part p
      (fragments_more j.head.id j.head.volumes m.ended m.fragments (record { head = h.head; pieces = m.pieces; end = fragment_end last h }) x.open_part.fragments x.hand.comes (is_fragment x last filled))

  pub end_hand : (x : HasOpenFragment a j h m) (last : ℕ) → HandGoes a.contents (basis_of j) (length j.volumes) h.head h.frags h.stream (with_fragment m (record { head = h.head; pieces = m.pieces; end = fragment_end last h }))
  end_hand x last = goes_with a.contents (basis_of j) (length j.volumes) h.head h.frags h.stream m (record { head = h.head; pieces = m.pieces; end = fragment_end last h }) refl refl x.hand.goes

  end_lying : (x : HasOpenFragment a j h m) (last : ℕ)
      → all_lying j.head.tape j.first (with_fragment m (record { head = h.head; pieces = m.pieces; end = fragment_end last h })) ≡ done_lying j.head.id j.volumes ++ (going_on h.head 1 h.frags ++ record { tape = j.head.tape; at = h.at; head = h.head; last = last } ∷ [])
  end_lying x last =
      let f : Fragment = record { head = h.head; pieces = m.pieces; end = fragment_end last h } in
      let here : List Lying = record { tape = j.head.tape; at = h.at; head = h.head; last = last } ∷ [] in
      lying_more j.head.tape j.first m f ∙ ap (λ (n : ℕ). all_lying j.head.tape j.first m ++ record { tape = j.head.tape; at = n; head = h.head; last = last } ∷ []) (sym x.at) ∙ ap (λ (l : List Lying). l ++ here) x.hand.lying
      ∙ append_assoc (done_lying j.head.id j.volumes) (going_on h.head 1 h.frags) here

  this_head : (x : HasOpenFragment a j h m) → record h.head { fragment = 1 + length h.frags } ≡ h.head
  this_head x = (let e : 1 + length h.frags ≡ h.head.fragment = omega (arith, x.hand.goes.fits.fragment) in ap (λ (n : ℕ). record h.head { fragment = n }) e)

  -- the volume is ended
  pub done_behind : (x : HasOpenFragment a j h m) (p : Phase) → h.stream ≡ []
      → HandDone (with_slot a j.reel.slot (x.open_part.slot.items ++ end_items 1 h)) (record j { reel = with_more 1 1 j.reel; phase = p }) h (with_fragment m (record { head = h.head; pieces = m.pieces; end = fragment_end 1 h }))
  done_behind x p over =
      let f : Fragment = record { head = h.head; pieces = m.pieces; end = fragment_end 1 h } in
      let v : VolRecordFields = record_with j.head.tape h in
      let heads : HeadsOf j.head.id (length j.volumes) v h.head = record {
        dump = x.hand.goes.fits.dump;
        place = x.hand.goes.fits.index;
        volume = refl;
        clone = refl;
        from = refl;
        name = refl;
        server = refl;
        partition = refl;
      } in
      let called : called_of j.head.id (length j.volumes, v) ≡ going_on h.head 1 h.frags ++ record { tape = j.head.tape; at = h.at; head = h.head; last = 1 } ∷ [] =
      called_last j.head.id (length j.volumes) 1 v h.head h.frags (record { tape = j.head.tape; at = h.at }) heads
      ∙ ap (λ (y : VolHeadFields). going_on h.head 1 h.frags ++ record { tape = j.head.tape; at = h.at; head = y; last = 1 } ∷ []) (this_head x) in
      record {
        goes = end_hand x 1;
        over = over;
        none = refl;
        last = ends_more (λ (y : Fragment). (y.head ≡ h.head) × (y.end.last ≡ 1)) m.fragments f (refl, refl);
        lying = end_lying x 1 ∙ ap (λ (l : List Lying). done_lying j.head.id j.volumes ++ l) (sym called) ∙ sym (done_more j.head.id j.volumes v);
      }

  -- the tape is full before the volume ends
  pub cut_behind : (b : BeforePiece a j h m) → (m.pieces ≡ [] → ⊥) → BeforePartEnd (with_slot a j.reel.slot (b.fragment.open_part.slot.items ++ end_items 0 h)) (volume_cut j) h (with_fragment m (record { head = h.head; pieces = m.pieces; end = fragment_end 0 h }))
  cut_behind b some =
      let x = b.fragment in
      let f : Fragment = record { head = h.head; pieces = m.pieces; end = fragment_end 0 h } in
      let going : going_on h.head 1 (h.frags ++ record { tape = j.head.tape; at = h.at } ∷ []) ≡ going_on h.head 1 h.frags ++ record { tape = j.head.tape; at = h.at; head = h.head; last = 0 } ∷ [] =
      going_more h.head 1 h.frags (record { tape = j.head.tape; at = h.at }) ∙ ap (λ (y : VolHeadFields). going_on h.head 1 h.frags ++ record { tape = j.head.tape; at = h.at; head = y; last = 0 } ∷ []) (this_head x) in
      record {
        open_part = end_open x 0 phase.PartEnd (filled_full m.pieces some b.full);
        goes = end_hand x 0;
        none = refl;
        left = b.left;
        last = ends_more (λ (y : Fragment). (y.head ≡ h.head) × (y.end.last ≡ 0)) m.fragments f (refl, refl);
        lying = end_lying x 0 ∙ ap (λ (l : List Lying). done_lying j.head.id j.volumes ++ l) (sym going);
      }
