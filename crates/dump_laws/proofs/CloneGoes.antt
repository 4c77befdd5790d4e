-- What is so behind a clone step.
use Rattle.std.proofs.Common.{◌≡◌, ℕ, ◌+◌, ◌<◌, ◌≤◌, false, Option, Some, List, [], ◌∷◌, ◌++◌, length, map, refl, sym, ap, subst, ◌∙◌, arith, inl, inr, append-nil, length-append}
use Rattle.std.specs.Prelude.{◌==◌, Result, All, slice_get}
use Rattle.std.specs.List.{flat_map}
use Rattle.std.proofs.lemmas.Bool.{eqb-true, cases_Bool}
use Rattle.std.proofs.lemmas.List.Elements.{All-nil}
use Rattle.vnode_model.specs.declared.volumes.VolumeFields.{VolumeFields}
use Rattle.vnode_model.specs.declared.listed.VolEntry.{VolEntry}
use Rattle.vnode_model.specs.Increments.{selected}
use Rattle.dump_stream.specs.Written.{written}
use Rattle.tape_frames.specs.declared.vol_head.VolHeadFields.{VolHeadFields}
use Rattle.cell_core.specs.declared.stored.Taken.{Taken}
use Rattle.budb_changes.specs.declared.records.VolRecordFields.{VolRecordFields}
use Rattle.budb_changes.specs.declared.records.DumpRecordFields.{DumpRecordFields}
use Rattle.plant_core.specs.Crashes.{State}
use Rattle.tape_text.specs.Texts.{Fragment, NextVolume, IsBefore}
use Rattle.tape_text.specs.Parts.{fragments_at}
use Rattle.tape_text.specs.Wholes.{lying_as, lying_in}
use Rattle.tape_writer.specs.Filling.{head_of, bytes_of, fragment_bytes, of_index, IsDumped}
use Rattle.tape_writer.specs.Room.{HasRoom}
use Rattle.archive_model.specs.Archives.{Archive, Refusal}
use Rattle.tape_scan.specs.Slots.{Located}
use Rattle.dump_job.specs.declared.fields.Hand.{Hand}
use Rattle.dump_job.specs.declared.fields.JobFields.{JobFields}
use Rattle.dump_job.specs.declared.fields.Phase.TheVariants as phase
use Rattle.dump_job.specs.Reels.{counts_on}
use Rattle.dump_job.specs.Cloning.{record_with, from_time}
use Rattle.dump_laws.specs.Made.{Made, Basis, all_fragments, MayBegin, MayCome, all_lying, done_lying}
use Rattle.dump_laws.specs.Writing.{IsCloned, dumping_of, VolumesFit, HasHead, HandStreams, HandGoes, AreBelow}
use Rattle.dump_laws.specs.Running.{basis_of, Goes, IsOpen, HandDone, NoHand, LastWas, BeforeHead}
use Rattle.dump_laws.proofs.NeighbourLaws.{ends_so, get_more, get_within, get_before, all_more, filter_none, all_so}

unequal : (a b : ℕ) → (a ≡ b → ⊥) → (a == b) ≡ false
unequal a b other = elim (cases_Bool (a == b)) [
  | inl same ↦ absurd (other (eqb-true a b same))
  | inr unlike ↦ unlike
]

get_last : {X : Type 0} (xs : List X) (x : X) → slice_get (xs ++ x ∷ []) (length xs) ≡ Some x
get_last [] x = refl
get_last (y ∷ xs) x = get_last xs x

-- ---- the volume that is done

none_of_index : (count : ℕ) (fs : List Fragment) → AreBelow count fs → of_index count fs ≡ []
none_of_index count fs below =
    filter_none (λ f. f.head.index == count) fs (all_so (λ (f : Fragment). f.head.index < count) (λ (f : Fragment). (f.head.index == count) ≡ false) fs (λ f lt. unequal f.head.index count (λ same. absurd (omega (arith, lt, same)))) below)

hand_dumped : (contents : ℕ → List ℕ → Result VolumeFields Refusal) (b : Basis) (done tape : ℕ) (h : Hand) (m : Made) (x : HandStreams contents b done h.head h.stream m) → h.stream ≡ [] → m.pieces ≡ [] → h.head.dump ≡ b.id → IsDumped b.id h.head.index (all_fragments m) (dumping_of (record_with tape h) x.clone)
hand_dumped contents b done tape h m x over none dump =
    let fs : List Fragment = of_index h.head.index (all_fragments m) in
    let before : List ℕ = flat_map fragment_bytes fs in
    let whole : (before ++ flat_map bytes_of m.pieces) ++ h.stream ≡ before =
    ap (λ (l : List ℕ). (before ++ flat_map bytes_of m.pieces) ++ l) over ∙ append-nil (before ++ flat_map bytes_of m.pieces) ∙ ap (λ l. before ++ flat_map bytes_of l) none ∙ append-nil before in
    record {
      heads = all_so (HasHead h.head) (λ (f : Fragment). f.head ≡ head_of b.id h.head.index f.head.fragment (dumping_of (record_with tape h) x.clone)) fs (λ f is. is ∙ ap (λ (n : ℕ). record h.head { dump = n; fragment = f.head.fragment }) dump) x.heads;
      stream = sym whole ∙ x.stream;
    }

same_clone : (o : Option Taken) (c d : Taken) → o ≡ Some c → o ≡ Some d → c ≡ d
same_clone o c d a b = (let e : Some c ≡ Some d = sym a ∙ b in cc)

-- the volumes with the one that was in hand
pub volumes_more : (contents : ℕ → List ℕ → Result VolumeFields Refusal) (b : Basis) (volumes : List VolRecordFields) (tape : ℕ) (h : Hand) (m : Made) → VolumesFit contents b volumes m → HandGoes contents b (length volumes) h.head h.frags h.stream m → h.stream ≡ [] → m.pieces ≡ []
    → VolumesFit contents b (volumes ++ record_with tape h ∷ []) m
volumes_more contents b volumes tape h m fit goes over none =
    let v : VolRecordFields = record_with tape h in
    let x = goes.streams in
    record {
      some = all_more (λ (w : VolRecordFields). 1 ≤ length w.frags) volumes v fit.some (omega (arith, length-append h.frags (record { tape = tape; at = h.at } ∷ [])));
      clones = omega (arith, x.last, length-append volumes (v ∷ []));
      cloned = λ i w c at clone. elim (get_more volumes v i w at) [
        | inl old ↦ fit.cloned i w c old clone
        | inr new ↦
            (let same : x.clone ≡ c = same_clone (slice_get m.clones i) x.clone c (ap (λ (n : ℕ). slice_get m.clones n) new.0 ∙ x.at) clone in
            subst (λ (y : VolRecordFields). IsCloned contents b y.name y.clone y.from c) new.1 (subst (λ (y : Taken). IsCloned contents b v.name v.clone v.from y) same x.cloned))
      ];
      dumped = λ i w c at clone. elim (get_more volumes v i w at) [
        | inl old ↦ fit.dumped i w c old clone
        | inr new ↦
            (let same : x.clone ≡ c = same_clone (slice_get m.clones i) x.clone c (ap (λ (n : ℕ). slice_get m.clones n) new.0 ∙ x.at) clone in
            let place : h.head.index ≡ i = goes.fits.index ∙ sym new.0 in
            let mine : IsDumped b.id h.head.index (all_fragments m) (dumping_of v x.clone) = hand_dumped contents b (length volumes) tape h m x over none goes.fits.dump in
            subst (λ (y : VolRecordFields). IsDumped b.id i (all_fragments m) (dumping_of y c)) new.1 (subst (λ (y : Taken). IsDumped b.id i (all_fragments m) (dumping_of v y)) same (subst (λ (n : ℕ). IsDumped b.id n (all_fragments m) (dumping_of v x.clone)) place mine)))
      ];
    }

-- a clone more
volumes_clone : (contents : ℕ → List ℕ → Result VolumeFields Refusal) (b : Basis) (volumes : List VolRecordFields) (m : Made) (c : Taken) → VolumesFit contents b volumes m → VolumesFit contents b volumes (record m { clones = m.clones ++ c ∷ [] })
volumes_clone contents b volumes m c fit =
    let old : (i : ℕ) (v : VolRecordFields) → slice_get volumes i ≡ Some v → slice_get (m.clones ++ c ∷ []) i ≡ slice_get m.clones i =
    λ i v at. get_before m.clones (c ∷ []) i (omega (arith, get_within volumes i v at, fit.clones)) in
    record {
      some = fit.some;
      clones = omega (arith, fit.clones, length-append m.clones (c ∷ []));
      cloned = λ i v d at clone. fit.cloned i v d at (sym (old i v at) ∙ clone);
      dumped = λ i v d at clone. fit.dumped i v d at (sym (old i v at) ∙ clone);
    }

-- ---- the volume that comes into hand

first_goes : (contents : ℕ → List ℕ → Result VolumeFields Refusal) (b : Basis) (count : ℕ) (m : Made) (c : Taken) (head : VolHeadFields) → length m.clones ≡ count → head.dump ≡ b.id → head.index ≡ count → head.index < b.count → head.fragment ≡ 1
    → IsCloned contents b head.name head.clone head.from c → AreBelow count (all_fragments m) → m.pieces ≡ [] → HandGoes contents b count head [] (written (selected c.volume head.from head.clone)) (record m { clones = m.clones ++ c ∷ [] })
first_goes contents b count m c head clones dump index below fragment cloned none_there none =
    let empty : of_index head.index (all_fragments m) ≡ [] = ap (λ (n : ℕ). of_index n (all_fragments m)) index ∙ none_of_index count (all_fragments m) none_there in
    let left : List ℕ = written (selected c.volume head.from head.clone) in
    record {
      fits = record { dump = dump; index = index; below = below; fragment = omega (arith, fragment) };
      streams = record {
        clone = c;
        at = ap (λ (n : ℕ). slice_get (m.clones ++ c ∷ []) n) (sym clones) ∙ get_last m.clones c;
        last = omega (arith, clones, length-append m.clones (c ∷ []));
        cloned = cloned;
        heads = subst (All (HasHead head)) (sym empty) (All-nil (HasHead head));
        stream = ap (λ (l : List Fragment). (flat_map fragment_bytes l ++ flat_map bytes_of m.pieces) ++ left) empty ∙ ap (λ l. ([] ++ flat_map bytes_of l) ++ left) none;
      };
      below = all_so (λ (f : Fragment). f.head.index < count) (λ (f : Fragment). f.head.index < count + 1) (all_fragments m) (λ f lt. omega (arith, lt)) none_there;
    }

-- the job with the next volume in hand, where these are done
abbrev pub clone_with : List VolRecordFields → VolEntry → Taken → JobFields → JobFields
clone_with volumes e c j = record j {
  volumes = volumes;
  hand = Some (record {
    head = record {
      dump = j.head.id;
      index = length volumes;
      fragment = 1;
      volume = c.volume.header.id;
      clone = c.time;
      from = from_time j e c;
      name = e.name;
      server = e.server;
      partition = e.partition;
    };
    stream = written (selected c.volume (from_time j e c) c.time);
    frags = [];
    at = 0;
    bytes = 0;
  });
  phase = phase.Head;
}

abbrev pub next_head_of : List VolRecordFields → VolEntry → Taken → JobFields → VolHeadFields
next_head_of volumes e c j = record {
  dump = j.head.id;
  index = length volumes;
  fragment = 1;
  volume = c.volume.header.id;
  clone = c.time;
  from = from_time j e c;
  name = e.name;
  server = e.server;
  partition = e.partition;
}

abbrev pub next_hand_of : List VolRecordFields → VolEntry → Taken → JobFields → Hand
next_hand_of volumes e c j = record { head = next_head_of volumes e c j; stream = written (selected c.volume (from_time j e c) c.time); frags = []; at = 0; bytes = 0 }

goes_cloned : (s : State) (a : Archive) (records : List DumpRecordFields) (j : JobFields) (m : Made) (volumes : List VolRecordFields) (e : VolEntry) (c : Taken) → Goes s a records j m → VolumesFit a.contents (basis_of j) volumes m → Goes s a records (clone_with volumes e c j) (record m { clones = m.clones ++ c ∷ [] })
goes_cloned s a records j m volumes e c g fit = record {
  held = g.held;
  new = g.new;
  parent = g.parent;
  ended = g.ended;
  filled = g.filled;
  closed = g.closed;
  settled = g.settled;
  apart = g.apart;
  count = g.count;
  volumes = volumes_clone a.contents (basis_of j) volumes m c fit;
}

open_cloned : (a : Archive) (j : JobFields) (m : Made) (volumes : List VolRecordFields) (e : VolEntry) (c : Taken) → IsOpen a j m [] → IsOpen a (clone_with volumes e c j) (record m { clones = m.clones ++ c ∷ [] }) []
open_cloned a j m volumes e c o = record { slot = o.slot; at = o.at; items = o.items; front = o.front; first = o.first; marks = o.marks; count = o.count; fragments = o.fragments; own = o.own }

module _ (s : State) (a : Archive) (records : List DumpRecordFields) (j : JobFields) (m : Made) (g : Goes s a records j m) (o : IsOpen a j m []) (e : VolEntry) (c : Taken) (cloned : IsCloned a.contents (basis_of j) e.name c.time (from_time j e c) c)
    (some : written (selected c.volume (from_time j e c) c.time) ≡ [] → ⊥) where
  -- ---- the first volume

  no_fragments : NoHand j m → all_fragments m ≡ []
  no_fragments n = ap (λ (ls : List Located). flat_map (λ l. l.found.part.fragments) ls ++ m.fragments) n.ended ∙ n.fragments

  pub first_clone_goes : Goes s a records (clone_with j.volumes e c j) (record m { clones = m.clones ++ c ∷ [] })
  first_clone_goes = goes_cloned s a records j m j.volumes e c g g.volumes

  pub first_clone : (n : NoHand j m) → 0 < length j.places → HasRoom 4 2 (counts_on j.port j.reel) → BeforeHead a (clone_with j.volumes e c j) (next_hand_of j.volumes e c j) (record m { clones = m.clones ++ c ∷ [] })
  first_clone n within enough =
      let count : length j.volumes ≡ 0 = ap length n.volumes in
      let head : VolHeadFields = next_head_of j.volumes e c j in
      let below : length j.volumes < j.head.volumes = omega (arith, count, within, g.count) in
      let none_there : AreBelow (length j.volumes) (all_fragments m) = subst (AreBelow (length j.volumes)) (sym (no_fragments n)) (All-nil (λ (f : Fragment). f.head.index < length j.volumes)) in
      let clones : length m.clones ≡ length j.volumes = ap length n.clones ∙ sym count in
      let begins : MayBegin m.ended head = subst (λ (ls : List Located). MayBegin ls head) (sym n.ended) (count, refl) in
      let comes : MayCome m.ended m.fragments head = subst (λ (fs : List Fragment). MayCome m.ended fs head) (sym n.fragments) begins in
      let nothing : all_lying j.head.tape j.first m ≡ [] =
      ap (λ (ls : List Located). flat_map (λ l. lying_in l.found) ls ++ map (lying_as j.head.tape) (fragments_at (j.first + 1) m.fragments)) n.ended
      ∙ ap (λ (fs : List Fragment). map (lying_as j.head.tape) (fragments_at (j.first + 1) fs)) n.fragments in
      record {
        open_part = open_cloned a j m j.volumes e c o;
        hand = record {
          goes = first_goes a.contents (basis_of j) (length j.volumes) m c head clones refl refl below refl cloned none_there n.pieces;
          comes = comes;
          lying = nothing ∙ ap (λ (vs : List VolRecordFields). done_lying j.head.id vs ++ []) (sym n.volumes);
        };
        none = n.pieces;
        left = some;
        room = λ none. enough;
      }

  -- ---- a later one

  pub later_clone_goes : (h : Hand) → HandDone a j h m → Goes s a records (clone_with (j.volumes ++ record_with j.head.tape h ∷ []) e c j) (record m { clones = m.clones ++ c ∷ [] })
  later_clone_goes h d = goes_cloned s a records j m (j.volumes ++ record_with j.head.tape h ∷ []) e c g (volumes_more a.contents (basis_of j) j.volumes j.head.tape h m g.volumes d.goes d.over d.none)

  next_comes : (h : Hand) (head : VolHeadFields) (fs : List Fragment) → head.index ≡ h.head.index + 1 → head.fragment ≡ 1 → IsBefore h.head.name head.name → LastWas h.head 1 fs → MayCome m.ended fs head
  next_comes h head [] index fragment before last = absurd last
  next_comes h head (f ∷ fs) index fragment before last =
      ends_so (λ (x : Fragment). (x.head ≡ h.head) × (x.end.last ≡ 1)) (λ (x : Fragment). (x.end.last ≡ 1) × NextVolume x.head head) (f ∷ fs) (λ x is. (is.1, subst (λ (y : VolHeadFields). NextVolume y head) (sym is.0) (index, fragment, before))) last

  some_fragments : (head : VolHeadFields) (fs : List Fragment) → LastWas head 1 fs → fs ≡ [] → ⊥
  some_fragments head [] last none = last
  some_fragments head (f ∷ fs) last none = absurd (cc)

  pub later_clone : (h : Hand) → (d : HandDone a j h m) → length j.volumes + 1 < length j.places → IsBefore h.head.name e.name
      → BeforeHead a (clone_with (j.volumes ++ record_with j.head.tape h ∷ []) e c j) (next_hand_of (j.volumes ++ record_with j.head.tape h ∷ []) e c j) (record m { clones = m.clones ++ c ∷ [] })
  later_clone h d within before =
      let v : VolRecordFields = record_with j.head.tape h in
      let vs : List VolRecordFields = j.volumes ++ v ∷ [] in
      let count : length vs ≡ length j.volumes + 1 = length-append j.volumes (v ∷ []) in
      let head : VolHeadFields = next_head_of vs e c j in
      let below : length vs < j.head.volumes = omega (arith, count, within, g.count) in
      let none_there : AreBelow (length vs) (all_fragments m) = subst (λ (n : ℕ). AreBelow n (all_fragments m)) (sym count) d.goes.below in
      let clones : length m.clones ≡ length vs = omega (arith, d.goes.streams.last, count) in
      let index : length vs ≡ h.head.index + 1 = omega (arith, count, d.goes.fits.index) in
      record {
        open_part = open_cloned a j m vs e c o;
        hand = record {
          goes = first_goes a.contents (basis_of j) (length vs) m c head clones refl refl below refl cloned none_there d.none;
          comes = next_comes h head m.fragments index refl before d.last;
          lying = d.lying ∙ sym (append-nil (done_lying j.head.id vs));
        };
        none = d.none;
        left = some;
        room = λ none. absurd (some_fragments h.head m.fragments d.last none);
      }
