-- The fragments of a record are taken out, each when it is the first of its dump.
use Rattle.std.proofs.Common.{◌≡◌, ◌≢◌, ◌⊎◌, inl, inr, ℕ, zero, suc, ◌+◌, ◌<◌, ◌^◌, List, [], ◌∷◌, length, map, get_or, true, false, not, eqb, Some, None, sym, ◌∙◌, ap, arith, ⊎_elim}
use Rattle.std.specs.Prelude.{slice_get}
use Rattle.std.specs.Int.{w32, to_be_bytes, from_be_bytes}
use Rattle.std.proofs.lemmas.Nat.{from_be_bytes-to_be_bytes_4}
use Rattle.std.proofs.lemmas.Bool.{cases_eq, cases_Bool, eq-eqb, ne_eqb, not_from_true, not_from_false}
use Rattle.std.proofs.lemmas.List.{length-map}
use Rattle.std.specs.List.{AllByRecursion}
use Rattle.budb_changes.specs.declared.records.VolRecordFields.{VolRecordFields}
use Rattle.budb_changes.specs.declared.records.DumpRecordFields.{DumpRecordFields}
use Rattle.budb_links.specs.declared.frags.FragPlace.{FragPlace}
use Rattle.budb_links.specs.declared.frags.Frags.{Frags}
use Rattle.budb_links.specs.Stands.{Stand, first_place}
use Rattle.budb_links.specs.Frags.{Placed, dump_frags, fragments, without_dump}
use Rattle.budb_links.specs.Stored.{slot_at}
use Rattle.budb_links.specs.Keyed.{Filed, has_key, stand_for, stands_by, chain_in}
use Rattle.budb_links.specs.Filing.{filed_frag, filed_frags, HasFrag, Files, HasNamed, without_frag, with_dump, AreOfDump, IsOwn}
use Rattle.budb_links.proofs.Places.{filter_keeps, filter_drops}
use Rattle.budb_links.proofs.KeyLaws.{same_text, text_same}
use Rattle.budb_links.proofs.KeyedLaws.{no_first}
use Rattle.budb_links.proofs.FragStoring.{Marked}
use Rattle.budb_links.proofs.Lists.{filter_all, filter_twice, filter_parts, all_so}

pub bytes_same : (a b : ℕ) → a < 2 ^ 32 → b < 2 ^ 32 → to_be_bytes w32 a ≡ to_be_bytes w32 b → a ≡ b
bytes_same a b h k same =
    sym (from_be_bytes-to_be_bytes_4 a h) ∙ ap (from_be_bytes w32) same ∙ from_be_bytes-to_be_bytes_4 b k

-- ---- the first one of a dump

-- a fragment of the dump of this key stands at the place
abbrev pub KeyAt : ℕ → List ℕ → List Placed → Type 0
KeyAt place key [] = ⊥
KeyAt place key (p ∷ ps) = ((p.place ≡ place) × (to_be_bytes w32 p.fragment.which.id ≡ key)) ⊎ KeyAt place key ps

first_key : (place : ℕ) (key : List ℕ) (ps : List Placed) → first_place (stands_by 1 key (filed_frags ps)) None ≡ Some place → KeyAt place key ps
first_key place key [] first = absurd (let no : ⊥ = cc in no)
first_key place key (p ∷ ps) first =
    let t = has_key 1 key in
    ⊎_elim
    (λ (h : t (filed_frag p) ≡ true).
    let here = sym (ap (λ (l : List Filed). first_place (map stand_for l) None) (filter_keeps t (filed_frag p) (filed_frags ps) h)) ∙ first in
    let at : p.place ≡ place = cc in
    inl (at, same_text (to_be_bytes w32 p.fragment.which.id) key h))
    (λ (h : t (filed_frag p) ≡ false).
    inr (first_key place key ps (sym (ap (λ (l : List Filed). first_place (map stand_for l) None) (filter_drops t (filed_frag p) (filed_frags ps) h)) ∙ first)))
    (cases_Bool (t (filed_frag p)))

no_key : (id : ℕ) (ps : List Placed) → stands_by 1 (to_be_bytes w32 id) (filed_frags ps) ≡ [] → AllByRecursion (λ p. p.fragment.which.id ≢ id) ps
no_key id [] none = tt
no_key id (p ∷ ps) none =
    let t = has_key 1 (to_be_bytes w32 id) in
    ⊎_elim
    (λ (h : t (filed_frag p) ≡ true).
    let some = sym (ap (map stand_for) (filter_keeps t (filed_frag p) (filed_frags ps) h)) ∙ none in
    absurd (let no : ⊥ = cc in no))
    (λ (h : t (filed_frag p) ≡ false). (
      (λ same.
          let both = sym h ∙ text_same (to_be_bytes w32 p.fragment.which.id) (to_be_bytes w32 id) (ap (to_be_bytes w32) same) in
          let no : ⊥ = cc in
          no),
      no_key id ps (sym (ap (map stand_for) (filter_drops t (filed_frag p) (filed_frags ps) h)) ∙ none),
    ))
    (cases_Bool (t (filed_frag p)))

-- which one it is, by its mark
pub record First (frags : Frags) (place : ℕ) (key : List ℕ) (ps : List Placed) : Type 0 where
  pub which : FragPlace
  pub marked : slot_at frags.marks.items place ≡ Some which
  pub key_is : to_be_bytes w32 which.id ≡ key
  pub small : which.id < 2 ^ 32
  pub has : HasFrag place ps

key_marked : (frags : Frags) (place : ℕ) (key : List ℕ) (ps : List Placed) → Marked frags.marks.items ps → AllByRecursion (λ p. p.fragment.which.id < 2 ^ 32) ps → KeyAt place key ps → First frags place key ps
key_marked frags place key [] m s h = absurd h
key_marked frags place key (p ∷ ps) m s (inl h) = record {
  which = p.fragment.which;
  marked = sym (ap (slot_at frags.marks.items) h.0) ∙ m.0;
  key_is = h.1;
  small = s.0;
  has = inl h.0;
}
key_marked frags place key (p ∷ ps) m s (inr h) =
    let r = key_marked frags place key ps m.1 s.1 h in
    record { which = r.which; marked = r.marked; key_is = r.key_is; small = r.small; has = inr r.has }

pub first_is : (frags : Frags) (place : ℕ) (key : List ℕ) (ps : List Placed) → Files frags ps → first_place (chain_in frags.keys 1 key) None ≡ Some place → First frags place key ps
first_is frags place key ps f first =
    let k = f.keyed in
    key_marked frags place key ps f.holds f.small (first_key place key ps (sym (ap (λ (ss : List Stand). first_place ss None) (k.chains 1 key (omega arith))) ∙ first))

-- the mark that was read is the first one's, and so is its dump
pub first_own : (frags : Frags) (place id : ℕ) (mark : FragPlace) (ps : List Placed) → Files frags ps → first_place (chain_in frags.keys 1 (to_be_bytes w32 id)) None ≡ Some place → slot_at frags.marks.items place ≡ Some mark → id < 2 ^ 32 → mark.id ≡ id
first_own frags place id mark ps f first read small =
    let r = first_is frags place (to_be_bytes w32 id) ps f first in
    let both = sym r.marked ∙ read in
    let same : r.which ≡ mark = cc in
    sym (ap (λ (w : FragPlace). w.id) same) ∙ bytes_same r.which.id id r.small small r.key_is

pub own_placed : (frags : Frags) (place id : ℕ) (mark : FragPlace) (ps : List Placed) → Marked frags.marks.items ps → slot_at frags.marks.items place ≡ Some mark → mark.id ≡ id → IsOwn place id ps
own_placed frags place id mark [] m read same = tt
own_placed frags place id mark (p ∷ ps) m read same = (
  (λ at.
      let both = sym m.0 ∙ ap (slot_at frags.marks.items) at ∙ read in
      let is : p.fragment.which ≡ mark = cc in
      ap (λ (w : FragPlace). w.id) is ∙ same),
  own_placed frags place id mark ps m.1 read same,
)

-- its volume
pub record Named (dump : DumpRecordFields) (place : ℕ) (mark : FragPlace) (ps : List Placed) : Type 0 where
  pub volume : VolRecordFields
  pub there : slice_get dump.volumes mark.volume ≡ Some volume
  pub named : HasNamed place dump.id volume.name ps

pub named_by : (frags : Frags) (dump : DumpRecordFields) (place : ℕ) (mark : FragPlace) (ps : List Placed) → Marked frags.marks.items ps → AreOfDump dump ps → slot_at frags.marks.items place ≡ Some mark → mark.id ≡ dump.id → HasFrag place ps → Named dump place mark ps
named_by frags dump place mark [] m own read same has = absurd has
named_by frags dump place mark (p ∷ ps) m own read same (inl at) =
    let both = sym m.0 ∙ ap (slot_at frags.marks.items) at ∙ read in
    let is : p.fragment.which ≡ mark = cc in
    let id_is = ap (λ (w : FragPlace). w.id) is ∙ same in
    let of = own.0 id_is in
    record {
      volume = of.0;
      there = ap (λ (w : FragPlace). slice_get dump.volumes w.volume) (sym is) ∙ of.1;
      named = inl (at, id_is, of.2);
    }
named_by frags dump place mark (p ∷ ps) m own read same (inr has) =
    let r = named_by frags dump place mark ps m.1 own.1 read same has in
    record { volume = r.volume; there = r.there; named = inr r.named }

pub there_is : (vs : List VolRecordFields) (i : ℕ) (v : VolRecordFields) → slice_get vs i ≡ Some v → (i < length vs) × ((d : VolRecordFields) → get_or vs i d ≡ v)
there_is [] i v at = absurd (let no : ⊥ = cc in no)
there_is (w ∷ vs) zero v at = let same : w ≡ v = cc in (omega arith, λ d. same)
there_is (w ∷ vs) (suc i) v at = let rest = there_is vs i v at in (omega (arith, rest.0), rest.1)

-- ---- one after another

other_dropped : (a b : ℕ) → not (eqb a b) ≡ false → a ≡ b
other_dropped a b h =
    ⊎_elim
    (λ (same : a ≡ b). same)
    (λ (ne : a ≡ b → ⊥). let both = sym (not_from_false (eqb a b) (ne_eqb a b ne)) ∙ h in absurd (let no : ⊥ = cc in no))
    (cases_eq a b)

-- the fragments of other dumps stay
pub others_left : (place id : ℕ) (ps : List Placed) → IsOwn place id ps → without_dump id (without_frag place ps) ≡ without_dump id ps
others_left place id ps own =
    filter_twice
    (λ (p : Placed). not (eqb p.fragment.which.id id))
    (λ (p : Placed). not (eqb p.place place))
    ps
    (all_so (λ (p : Placed). p.place ≡ place → p.fragment.which.id ≡ id) (λ p. not (eqb p.place place) ≡ false → not (eqb p.fragment.which.id id) ≡ false) (λ p h d. not_from_true (eqb p.fragment.which.id id) (eq-eqb p.fragment.which.id id (h (other_dropped p.place place d)))) ps own)

-- where none is left
pub none_left : (frags : Frags) (id : ℕ) (ps : List Placed) → Files frags ps → first_place (chain_in frags.keys 1 (to_be_bytes w32 id)) None ≡ None → without_dump id ps ≡ ps
none_left frags id ps f none =
    let k = f.keyed in
    let empty = sym (k.chains 1 (to_be_bytes w32 id) (omega arith)) ∙ no_first (chain_in frags.keys 1 (to_be_bytes w32 id)) none in
    filter_all (λ (p : Placed). not (eqb p.fragment.which.id id)) ps (all_so (λ (p : Placed). p.fragment.which.id ≢ id) (λ p. not (eqb p.fragment.which.id id) ≡ true) (λ p ne. not_from_false (eqb p.fragment.which.id id) (ne_eqb p.fragment.which.id id ne)) ps (no_key id ps empty))

-- as many went as the record has
pub as_many : (dump : DumpRecordFields) (ps : List Placed) → fragments (with_dump dump.id ps) ≡ dump_frags dump → length (dump_frags dump) + length (without_dump dump.id ps) ≡ length ps
as_many dump ps whole =
    let parts = filter_parts (λ (p : Placed). eqb p.fragment.which.id dump.id) ps in
    let own = sym (length-map (with_dump dump.id ps) (λ (p : Placed). p.fragment)) ∙ ap length whole in
    omega (arith, parts, own)
