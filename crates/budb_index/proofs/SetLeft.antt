-- What is left of the chain of a volume set, and of that of a volume's name.
use Rattle.std.proofs.Common.{◌≡◌, ℕ, ◌+◌, List, [], ◌∷◌, map, Option, Some, refl, sym, ◌∙◌, ap}
use Rattle.std.specs.Prelude.{slice_get}
use Rattle.std.specs.List.{filter}
use Rattle.bk_text.specs.Blanks.{is_same_text}
use Rattle.budb_links.specs.declared.frags.FragPlace.{FragPlace}
use Rattle.budb_links.specs.Entries.{Entry, dumps_of, places_of, record_at, of_set}
use Rattle.budb_links.specs.Frags.{Fragment, Placed, fragments, frag_places, frag_at, of_volume, frags_of}
use Rattle.budb_links.specs.Linked.{Linked, listed}
use Rattle.budb_links.specs.Keyed.{Differ}
use Rattle.budb_links.proofs.Lists.{filter_mapped}
use Rattle.budb_index.specs.Walks.{set_left, volume_left, dumps_of_set, frags_named}
use Rattle.budb_index.proofs.Members.{record_read, frag_read}
use Rattle.budb_index.proofs.Walking.{Turned, begins, turned}

-- ---- records of a set

pub set_begins : (key : List ℕ) (links : Linked) (at : Option ℕ) → at ≡ slice_get (places_of (of_set key links.entries)) 0 → set_left key at links.entries ≡ dumps_of_set key (listed links)
set_begins key links at is =
    ap (λ (o : Option ℕ). set_left key o links.entries) is
    ∙ ap dumps_of (begins (λ (e : Entry). e.place) (of_set key links.entries))
    ∙ sym (filter_mapped (λ (e : Entry). e.dump) (λ d. is_same_text d.set key) links.entries)

pub set_turns : (key : List ℕ) (es : List Entry) (at next : Option ℕ) (k place : ℕ) → Differ (places_of es) → at ≡ slice_get (places_of (of_set key es)) k → at ≡ Some place → next ≡ slice_get (places_of (of_set key es)) (k + 1) → Turned (record_at place es) (set_left key at es) (set_left key next es)
set_turns key es at next k place d stands is behind =
    turned (λ (e : Entry). e.place) (λ (e : Entry). e.dump) (λ (p : ℕ). record_at p es) (λ (e : Entry). is_same_text e.dump.set key) es at next k place d (λ e h. record_read es e h d) stands is behind

-- ---- fragments of a name

pub volume_begins : (key : List ℕ) (links : Linked) (at : Option ℕ) → fragments links.frags ≡ frags_of (listed links) → at ≡ slice_get (frag_places (of_volume key links.frags)) 0 → volume_left key at links.frags ≡ frags_named key (listed links)
volume_begins key links at whole is =
    ap (λ (o : Option ℕ). volume_left key o links.frags) is
    ∙ ap (map (λ (p : Placed). p.fragment.which)) (begins (λ (p : Placed). p.place) (of_volume key links.frags))
    ∙ parts (of_volume key links.frags)
    ∙ ap (map (λ (f : Fragment). f.which)) (sym (filter_mapped (λ (p : Placed). p.fragment) (λ f. is_same_text f.name key) links.frags))
    ∙ ap (λ (fs : List Fragment). map (λ (f : Fragment). f.which) (filter (λ f. is_same_text f.name key) fs)) whole
  where
    parts : (ps : List Placed) → map (λ (p : Placed). p.fragment.which) ps ≡ map (λ (f : Fragment). f.which) (fragments ps)
    parts [] = refl
    parts (p ∷ ps) = ap (λ (l : List FragPlace). p.fragment.which ∷ l) (parts ps)

pub volume_turns : (key : List ℕ) (ps : List Placed) (at next : Option ℕ) (k place : ℕ) → Differ (frag_places ps) → at ≡ slice_get (frag_places (of_volume key ps)) k → at ≡ Some place → next ≡ slice_get (frag_places (of_volume key ps)) (k + 1) → Turned (frag_at place ps) (volume_left key at ps) (volume_left key next ps)
volume_turns key ps at next k place d stands is behind =
    turned (λ (p : Placed). p.place) (λ (p : Placed). p.fragment.which) (λ (n : ℕ). frag_at n ps) (λ (p : Placed). is_same_text p.fragment.name key) ps at next k place d (λ p h. frag_read ps p h d) stands is behind
