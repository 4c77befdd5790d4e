-- Where fragments lie, and the records of volumes that name their places.
use Rattle.std.proofs.Common.{◌≡◌, ℕ, ◌+◌, List, [], ◌∷◌, ◌++◌, length, map, sym, ap, ◌∙◌, arith, append_assoc}
use Rattle.std.specs.List.{flat_map}
use Rattle.std.proofs.lemmas.List.Sums.{sum_by-cons}
use Rattle.tape_frames.specs.declared.vol_head.VolHeadFields.{VolHeadFields}
use Rattle.budb_changes.specs.declared.records.Frag.{Frag}
use Rattle.budb_changes.specs.declared.records.VolRecordFields.{VolRecordFields}
use Rattle.tape_text.specs.Texts.{Fragment}
use Rattle.tape_text.specs.Parts.{FoundFragment, fragment_len, fragments_len, fragments_at}
use Rattle.tape_text.specs.Wholes.{Lying, lying_as, lying_in}
use Rattle.archive_model.specs.Holding.{called_head, called_frags, called_of, placed_from}
use Rattle.dump_laws.specs.Made.{Made, all_lying, going_on, done_lying}
use Rattle.dump_laws.proofs.NeighbourLaws.{map_more, flat_more}

-- ---- one fragment more

fragments_at_more : (at : ℕ) (fs : List Fragment) (f : Fragment) → fragments_at at (fs ++ f ∷ []) ≡ fragments_at at fs ++ record { fragment = f; at = at + fragments_len fs } ∷ []
fragments_at_more at [] f = (let e : at ≡ at + 0 = omega arith in ap (λ (n : ℕ). record { fragment = f; at = n } ∷ []) e)
fragments_at_more at (g ∷ fs) f =
    let e : at + fragment_len g + fragments_len fs ≡ at + fragments_len (g ∷ fs) = omega (arith, sum_by-cons fragment_len g fs) in
    let here : FoundFragment = record { fragment = g; at = at } in
    ap (λ (l : List FoundFragment). here ∷ l) (fragments_at_more (at + fragment_len g) fs f ∙ ap (λ (n : ℕ). fragments_at (at + fragment_len g) fs ++ record { fragment = f; at = n } ∷ []) e)

pub lying_more : (tape first : ℕ) (m : Made) (f : Fragment)
    → all_lying tape first (record m { fragments = m.fragments ++ f ∷ []; pieces = [] }) ≡ all_lying tape first m ++ record { tape = tape; at = first + 1 + fragments_len m.fragments; head = f.head; last = f.end.last } ∷ []
lying_more tape first m f =
    let before : List Lying = flat_map (λ l. lying_in l.found) m.ended in
    let here : Lying = record { tape = tape; at = first + 1 + fragments_len m.fragments; head = f.head; last = f.end.last } in
    ap (λ (l : List FoundFragment). before ++ map (lying_as tape) l) (fragments_at_more (first + 1) m.fragments f)
    ∙ ap (λ (l : List Lying). before ++ l) (map_more (lying_as tape) (fragments_at (first + 1) m.fragments) (record { fragment = f; at = first + 1 + fragments_len m.fragments }))
    ∙ sym (append_assoc before (map (lying_as tape) (fragments_at (first + 1) m.fragments)) (here ∷ []))

-- ---- one volume more

placed_more : (n : ℕ) (vs : List VolRecordFields) (v : VolRecordFields) → placed_from n (vs ++ v ∷ []) ≡ placed_from n vs ++ (n + length vs, v) ∷ []
placed_more n [] v = (let e : n ≡ n + 0 = omega arith in ap (λ (k : ℕ). (k, v) ∷ []) e)
placed_more n (w ∷ vs) v =
    let e : n + 1 + length vs ≡ n + length (w ∷ vs) = omega arith in
    ap (λ (l : List (ℕ × VolRecordFields)). (n, w) ∷ l) (placed_more (n + 1) vs v ∙ ap (λ (k : ℕ). placed_from (n + 1) vs ++ (k, v) ∷ []) e)

pub done_more : (id : ℕ) (vs : List VolRecordFields) (v : VolRecordFields) → done_lying id (vs ++ v ∷ []) ≡ done_lying id vs ++ called_of id (length vs, v)
done_more id vs v =
    ap (λ (l : List (ℕ × VolRecordFields)). flat_map (called_of id) l) (placed_more 0 vs v) ∙ flat_more (called_of id) (placed_from 0 vs) (0 + length vs, v)
    ∙ (let e : 0 + length vs ≡ length vs = omega arith in ap (λ (k : ℕ). done_lying id vs ++ called_of id (k, v)) e)

-- a head of a volume's fragment is as its record calls for it
pub record HeadsOf (id index : ℕ) (v : VolRecordFields) (head : VolHeadFields) : Type 0 where
  pub dump : head.dump ≡ id
  pub place : head.index ≡ index
  pub volume : head.volume ≡ v.id
  pub clone : head.clone ≡ v.clone
  pub from : head.from ≡ v.from
  pub name : head.name ≡ v.name
  pub server : head.server ≡ v.server
  pub partition : head.partition ≡ v.partition

called_as : (id index fragment : ℕ) (v : VolRecordFields) (head : VolHeadFields) → HeadsOf id index v head → called_head id index fragment v ≡ record head { fragment = fragment }
called_as id index fragment v head is =
    let a = is.dump in let b = is.place in let c = is.volume in let d = is.clone in let e = is.from in let f = is.name in let g = is.server in let h = is.partition in
    cc

called_step : (id index fragment : ℕ) (v : VolRecordFields) (head : VolHeadFields) (f : Frag) (frags : List Frag) (last : Frag) (rest : List Lying) → HeadsOf id index v head
    → rest ≡ going_on head (fragment + 1) frags ++ record { tape = last.tape; at = last.at; head = record head { fragment = fragment + 1 + length frags }; last = 1 } ∷ []
    → record { tape = f.tape; at = f.at; head = called_head id index fragment v; last = 0 } ∷ rest ≡ going_on head fragment (f ∷ frags) ++ record { tape = last.tape; at = last.at; head = record head { fragment = fragment + length (f ∷ frags) }; last = 1 } ∷ []
called_step id index fragment v head f frags last rest is same =
    let e : fragment + 1 + length frags ≡ fragment + length (f ∷ frags) = omega arith in
    let here : Lying = record { tape = f.tape; at = f.at; head = record head { fragment = fragment }; last = 0 } in
    ap (λ (h : VolHeadFields). record { tape = f.tape; at = f.at; head = h; last = 0 } ∷ rest) (called_as id index fragment v head is)
    ∙ ap (λ (l : List Lying). here ∷ l) (same ∙ ap (λ (k : ℕ). going_on head (fragment + 1) frags ++ record { tape = last.tape; at = last.at; head = record head { fragment = k }; last = 1 } ∷ []) e)

-- The last fragment of a volume ends it: its fragments are those that went on, and it.
pub called_last : (id index fragment : ℕ) (v : VolRecordFields) (head : VolHeadFields) (frags : List Frag) (last : Frag) → HeadsOf id index v head
    → called_frags id index fragment v (frags ++ last ∷ []) ≡ going_on head fragment frags ++ record { tape = last.tape; at = last.at; head = record head { fragment = fragment + length frags }; last = 1 } ∷ []
called_last id index fragment v head [] last is =
    let e : fragment ≡ fragment + 0 = omega arith in
    ap (λ (h : VolHeadFields). record { tape = last.tape; at = last.at; head = h; last = 1 } ∷ []) (called_as id index fragment v head is ∙ ap (λ (k : ℕ). record head { fragment = k }) e)
called_last id index fragment v head (f ∷ []) last is = called_step id index fragment v head f [] last (called_frags id index (fragment + 1) v (last ∷ [])) is (called_last id index (fragment + 1) v head [] last is)
called_last id index fragment v head (f ∷ g ∷ frags) last is = called_step id index fragment v head f (g ∷ frags) last (called_frags id index (fragment + 1) v (g ∷ frags ++ last ∷ [])) is (called_last id index (fragment + 1) v head (g ∷ frags) last is)

pub going_more : (head : VolHeadFields) (fragment : ℕ) (frags : List Frag) (f : Frag) → going_on head fragment (frags ++ f ∷ []) ≡ going_on head fragment frags ++ record { tape = f.tape; at = f.at; head = record head { fragment = fragment + length frags }; last = 0 } ∷ []
going_more head fragment [] f =
    let e : fragment ≡ fragment + 0 = omega arith in ap (λ (k : ℕ). record { tape = f.tape; at = f.at; head = record head { fragment = k }; last = 0 } ∷ []) e
going_more head fragment (g ∷ frags) f =
    let e : fragment + 1 + length frags ≡ fragment + length (g ∷ frags) = omega arith in
    let here : Lying = record { tape = g.tape; at = g.at; head = record head { fragment = fragment }; last = 0 } in
    ap (λ (l : List Lying). here ∷ l) (going_more head (fragment + 1) frags f ∙ ap (λ (k : ℕ). going_on head (fragment + 1) frags ++ record { tape = f.tape; at = f.at; head = record head { fragment = k }; last = 0 } ∷ []) e)
