-- No two records have a place.
use Rattle.std.proofs.Common.{◌≡◌, ◌≢◌, ℕ, List, [], ◌∷◌, Option, Some, sym, ◌∙◌, ap}
use Rattle.std.specs.List.{AllByRecursion}
use Rattle.budb_changes.specs.declared.records.DumpRecordFields.{DumpRecordFields}
use Rattle.budb_links.specs.Entries.{Entry, places_of}
use Rattle.budb_links.specs.Stored.{slot_at, DistinctIds}
use Rattle.budb_links.specs.Keyed.{Differ}

-- records that stand at their places, and have other ids than one, stand at other places
others_apart : (slots : List (Option DumpRecordFields)) (own : Entry) (es : List Entry) → slot_at slots own.place ≡ Some own.dump → AllByRecursion (λ e. slot_at slots e.place ≡ Some e.dump) es → AllByRecursion (λ e. e.dump.id ≢ own.dump.id) es → AllByRecursion (λ (n : ℕ). n ≢ own.place) (places_of es)
others_apart slots own [] here holds ids = tt
others_apart slots own (e ∷ es) here holds ids = (
  (λ same.
      let both : Some e.dump ≡ Some own.dump = sym holds.0 ∙ ap (slot_at slots) same ∙ here in
      let is : e.dump ≡ own.dump = cc in
      ids.0 (ap (λ (d : DumpRecordFields). d.id) is)),
  others_apart slots own es here holds.1 ids.1,
)

pub places_apart : (slots : List (Option DumpRecordFields)) (es : List Entry) → AllByRecursion (λ e. slot_at slots e.place ≡ Some e.dump) es → DistinctIds es → Differ (places_of es)
places_apart slots [] holds ids = tt
places_apart slots (e ∷ es) holds ids = (others_apart slots e es holds.0 holds.1 ids.0, places_apart slots es holds.1 ids.1)
