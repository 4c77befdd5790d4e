-- What is dumped of each volume, when a fragment comes.
use Rattle.std.proofs.Common.{◌≡◌, ℕ, ◌+◌, ◌<◌, true, false, List, [], ◌∷◌, ◌++◌, length, refl, sym, ap, subst, ◌∙◌, arith, inl, inr, append_assoc, append-nil}
use Rattle.std.specs.Prelude.{◌==◌, Result, All}
use Rattle.std.specs.List.{flat_map}
use Rattle.std.proofs.lemmas.Bool.{eq-eqb, eqb-true, cases_Bool}
use Rattle.std.proofs.lemmas.List.Elements.{All-nil, All-cons}
use Rattle.vnode_model.specs.declared.volumes.VolumeFields.{VolumeFields}
use Rattle.tape_frames.specs.declared.data.DataFields.{DataFields}
use Rattle.tape_frames.specs.declared.vol_head.VolHeadFields.{VolHeadFields}
use Rattle.budb_changes.specs.declared.records.Frag.{Frag}
use Rattle.budb_changes.specs.declared.records.VolRecordFields.{VolRecordFields}
use Rattle.tape_text.specs.Texts.{Fragment}
use Rattle.tape_writer.specs.Filling.{head_of, bytes_of, fragment_bytes, of_index}
use Rattle.archive_model.specs.Archives.{Refusal}
use Rattle.dump_laws.specs.Made.{Made, Basis, all_fragments}
use Rattle.dump_laws.specs.Writing.{dumping_of, VolumesFit, HasHead, HandStreams, HandGoes}
use Rattle.dump_laws.proofs.NeighbourLaws.{flat_more, filter_append, filter_none, get_within, all_more}

-- a fragment more
abbrev pub with_fragment : Made → Fragment → Made
with_fragment m f = record m { fragments = m.fragments ++ f ∷ []; pieces = [] }

pub all_with : (m : Made) (f : Fragment) → all_fragments (with_fragment m f) ≡ all_fragments m ++ f ∷ []
all_with m f = sym (append_assoc (flat_map (λ l. l.found.part.fragments) m.ended) m.fragments (f ∷ []))

apart : (a b : ℕ) → (a ≡ b → ⊥) → (a == b) ≡ false
apart a b other = elim (cases_Bool (a == b)) [
  | inl same ↦ absurd (other (eqb-true a b same))
  | inr unlike ↦ unlike
]

of_other : (index : ℕ) (fs : List Fragment) (f : Fragment) → (f.head.index ≡ index → ⊥) → of_index index (fs ++ f ∷ []) ≡ of_index index fs
of_other index fs f other =
    let unlike : (f.head.index == index) ≡ false = apart f.head.index index other in
    filter_append (λ g. g.head.index == index) fs (f ∷ []) ∙ ap (λ (l : List Fragment). of_index index fs ++ l) (filter_none (λ g. g.head.index == index) (f ∷ []) (All-cons (λ g. (g.head.index == index) ≡ false) f [] unlike (All-nil (λ g. (g.head.index == index) ≡ false))))
    ∙ append-nil (of_index index fs)

one_of : (index : ℕ) (f : Fragment) → f.head.index ≡ index → of_index index (f ∷ []) ≡ f ∷ []
one_of index f same = (let alike : (f.head.index == index) ≡ true = eq-eqb f.head.index index same in rw alike refl)

of_same : (index : ℕ) (fs : List Fragment) (f : Fragment) → f.head.index ≡ index → of_index index (fs ++ f ∷ []) ≡ of_index index fs ++ f ∷ []
of_same index fs f same = filter_append (λ g. g.head.index == index) fs (f ∷ []) ∙ ap (λ (l : List Fragment). of_index index fs ++ l) (one_of index f same)

-- the volumes that are done are as before
pub done_with : (contents : ℕ → List ℕ → Result VolumeFields Refusal) (b : Basis) (volumes : List VolRecordFields) (m : Made) (f : Fragment) → f.head.index ≡ length volumes → VolumesFit contents b volumes m → VolumesFit contents b volumes (with_fragment m f)
done_with contents b volumes m f index fit = record {
  some = fit.some;
  clones = fit.clones;
  cloned = fit.cloned;
  dumped = λ i v c at clone.
      (let old = fit.dumped i v c at clone in
      let below : i < length volumes = get_within volumes i v at in
      let same : of_index i (all_fragments (with_fragment m f)) ≡ of_index i (all_fragments m) = ap (of_index i) (all_with m f) ∙ of_other i (all_fragments m) f (λ is. absurd (omega (arith, below, is, index))) in
      record {
        heads = subst (All (λ g. g.head ≡ head_of b.id i g.head.fragment (dumping_of v c))) (sym same) old.heads;
        stream = ap (flat_map fragment_bytes) same ∙ old.stream;
      });
}

-- and the volume in hand has a fragment more
pub hand_with : (contents : ℕ → List ℕ → Result VolumeFields Refusal) (b : Basis) (done : ℕ) (head : VolHeadFields) (left : List ℕ) (m : Made) (f : Fragment) → f.head ≡ head → f.pieces ≡ m.pieces → HandStreams contents b done head left m → HandStreams contents b done head left (with_fragment m f)
hand_with contents b done head left m f is pieces old =
    let index : f.head.index ≡ head.index = ap (λ (h : VolHeadFields). h.index) is in
    let same : of_index head.index (all_fragments (with_fragment m f)) ≡ of_index head.index (all_fragments m) ++ f ∷ [] = ap (of_index head.index) (all_with m f) ∙ of_same head.index (all_fragments m) f index in
    let fits : HasHead head f = (let n : f.head.fragment ≡ head.fragment = ap (λ (h : VolHeadFields). h.fragment) is in is ∙ ap (λ (k : ℕ). record head { fragment = k }) (sym n)) in
    let before : List ℕ = flat_map fragment_bytes (of_index head.index (all_fragments m)) in
    let bytes : flat_map fragment_bytes (of_index head.index (all_fragments (with_fragment m f))) ≡ before ++ flat_map bytes_of m.pieces =
    ap (flat_map fragment_bytes) same ∙ flat_more fragment_bytes (of_index head.index (all_fragments m)) f ∙ ap (λ (l : List DataFields). before ++ flat_map bytes_of l) pieces in
    record {
      clone = old.clone;
      at = old.at;
      last = old.last;
      cloned = old.cloned;
      heads = subst (All (HasHead head)) (sym same) (all_more (HasHead head) (of_index head.index (all_fragments m)) f old.heads fits);
      stream = ap (λ (l : List ℕ). (l ++ []) ++ left) bytes ∙ ap (λ (l : List ℕ). l ++ left) (append-nil (before ++ flat_map bytes_of m.pieces)) ∙ old.stream;
    }

pub goes_with : (contents : ℕ → List ℕ → Result VolumeFields Refusal) (b : Basis) (done : ℕ) (head : VolHeadFields) (frags : List Frag) (left : List ℕ) (m : Made) (f : Fragment) → f.head ≡ head → f.pieces ≡ m.pieces → HandGoes contents b done head frags left m → HandGoes contents b done head frags left (with_fragment m f)
goes_with contents b done head frags left m f is pieces old =
    let index : f.head.index ≡ head.index = ap (λ (h : VolHeadFields). h.index) is in
    let place : head.index ≡ done = old.fits.index in
    let below : f.head.index < done + 1 = omega (arith, index, place) in
    record {
      fits = old.fits;
      streams = hand_with contents b done head left m f is pieces old.streams;
      below = subst (All (λ g. g.head.index < done + 1)) (sym (all_with m f)) (all_more (λ g. g.head.index < done + 1) (all_fragments m) f old.below below);
    }

-- ---- a piece more

pub with_piece : (contents : ℕ → List ℕ → Result VolumeFields Refusal) (b : Basis) (done : ℕ) (head : VolHeadFields) (left rest : List ℕ) (m : Made) (d : DataFields) → left ≡ bytes_of d ++ rest → HandStreams contents b done head left m → HandStreams contents b done head rest (record m { pieces = m.pieces ++ d ∷ [] })
with_piece contents b done head left rest m d is old =
    let before : List ℕ = flat_map fragment_bytes (of_index head.index (all_fragments m)) in
    let put : List ℕ = flat_map bytes_of m.pieces in
    record {
      clone = old.clone;
      at = old.at;
      last = old.last;
      cloned = old.cloned;
      heads = old.heads;
      stream =
          ap (λ (l : List ℕ). (before ++ l) ++ rest) (flat_more bytes_of m.pieces d) ∙ ap (λ (l : List ℕ). l ++ rest) (sym (append_assoc before put (bytes_of d))) ∙ append_assoc (before ++ put) (bytes_of d) rest ∙ ap (λ (l : List ℕ). (before ++ put) ++ l) (sym is) ∙ old.stream;
    }
