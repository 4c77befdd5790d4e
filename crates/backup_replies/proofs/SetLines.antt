-- The lines of sets, one after the other.
use Rattle.std.proofs.Common.{◌≡◌, zero, suc, ℕ, ◌+◌, ◌<◌, List, [], ◌∷◌, ◌++◌, length, take, get_or, refl, sym, ◌∙◌, ap, arith, append_assoc}
use Rattle.std.proofs.lemmas.List.{append-nil, take_more, length-take-le}
use Rattle.volume_sets.specs.declared.sets.SetEntry.{SetEntry}
use Rattle.volume_sets.specs.declared.sets.VolumeSet.{VolumeSet}
use Rattle.volume_sets.specs.Sets.{entries_at}
use Rattle.std.specs.List.{flat_map}
use Rattle.std.proofs.lemmas.Grind.{flat_map-append}
use Rattle.backup_replies.specs.Sets.{set_entry_line, entries_lines, set_lines}

pub entries-append : (n : ℕ) (xs ys : List SetEntry) → entries_lines n (xs ++ ys) ≡ entries_lines n xs ++ entries_lines (n + length xs) ys
entries-append n [] ys = ap (λ (m : ℕ). entries_lines m ys) (omega arith)
entries-append n (x ∷ xs) ys =
    ap (λ (l : List ℕ). set_entry_line n x ++ l) (entries-append (n + 1) xs ys ∙ ap (λ (m : ℕ). entries_lines (n + 1) xs ++ entries_lines m ys) (omega arith))
    ∙ sym (append_assoc (set_entry_line n x) (entries_lines (n + 1) xs) (entries_lines (n + length (x ∷ xs)) ys))

-- one entry more
pub entry_more : (entries : List SetEntry) (i : ℕ) (d : SetEntry) → i < length entries → entries_lines 1 (take (i + 1) entries) ≡ entries_lines 1 (take i entries) ++ set_entry_line (i + 1) (get_or entries i d)
entry_more entries i d within =
    ap (entries_lines 1) (take_more entries i d within) ∙ entries-append 1 (take i entries) (get_or entries i d ∷ [])
    ∙ ap (λ (l : List ℕ). entries_lines 1 (take i entries) ++ l) (append-nil (set_entry_line (1 + length (take i entries)) (get_or entries i d)) ∙ ap (λ (m : ℕ). set_entry_line m (get_or entries i d)) (omega (arith, length-take-le i entries (omega arith))))

-- the set at a place has the entries at that place
pub entries_there : (sets : List VolumeSet) (i : ℕ) (d : VolumeSet) → i < length sets → entries_at i sets ≡ (get_or sets i d).entries
entries_there [] i d within = absurd (omega arith)
entries_there (set ∷ sets) zero d within = refl
entries_there (set ∷ sets) (suc i) d within = entries_there sets i d (omega arith)

pub entry_step : (old now new : List ℕ) (entries : List SetEntry) (i : ℕ) (e : SetEntry) → i < length entries → now ≡ old ++ entries_lines 1 (take i entries) → e ≡ get_or entries i e → new ≡ now ++ set_entry_line (i + 1) e → new ≡ old ++ entries_lines 1 (take (i + 1) entries)
entry_step old now new entries i e within now_is is new_is =
    new_is ∙ ap (λ (l : List ℕ). l ++ set_entry_line (i + 1) e) now_is ∙ append_assoc old (entries_lines 1 (take i entries)) (set_entry_line (i + 1) e)
    ∙ ap (λ (l : List ℕ). old ++ l) (ap (λ (x : SetEntry). entries_lines 1 (take i entries) ++ set_entry_line (i + 1) x) is ∙ sym (entry_more entries i e within))

pub set_there : (sets : List VolumeSet) (i : ℕ) (name : List ℕ) (entries : List SetEntry) (d : VolumeSet) → i < length sets → ((d : VolumeSet) → name ≡ (get_or sets i d).name) → entries ≡ entries_at i sets → record { name = name; entries = entries } ≡ get_or sets i d
set_there sets i name entries d within name_is entries_are =
    ap (λ (n : List ℕ). record { name = n; entries = entries }) (name_is d) ∙ ap (λ (es : List SetEntry). record { name = (get_or sets i d).name; entries = es }) (entries_are ∙ entries_there sets i d within)

pub set_step : (now new : List ℕ) (sets : List VolumeSet) (i : ℕ) → i < length sets → now ≡ flat_map set_lines (take i sets) → ((d : VolumeSet) → new ≡ now ++ set_lines (get_or sets i d)) → new ≡ flat_map set_lines (take (i + 1) sets)
set_step now new sets i within now_is new_is =
    let d : VolumeSet = record { name = []; entries = [] } in
    new_is d ∙ ap (λ (l : List ℕ). l ++ set_lines (get_or sets i d)) now_is
    ∙ sym (ap (flat_map set_lines) (take_more sets i d within) ∙ flat_map-append set_lines (take i sets) (get_or sets i d ∷ []) ∙ ap (λ (l : List ℕ). flat_map set_lines (take i sets) ++ l) (append-nil (set_lines (get_or sets i d))))
