-- What a chain needs, dump by dump and fragment by fragment.
use Rattle.std.proofs.Common.{◌≡◌, ℕ, ◌+◌, ◌<◌, Option, Some, None, List, [], ◌∷◌, ◌++◌, length, map, take, get_or, refl, sym, ap, ◌∙◌, inl, inr}
use Rattle.std.specs.Prelude.{find}
use Rattle.std.specs.List.{flat_map, filter_map}
use Rattle.std.proofs.lemmas.Bool.{cases_Bool}
use Rattle.std.proofs.lemmas.List.{append-nil, take_more}
use Rattle.std.proofs.lemmas.List.Elements.{filter_map-append}
use Rattle.std.proofs.lemmas.Grind.{flat_map-append}
use Rattle.bk_text.specs.Blanks.{is_same_text}
use Rattle.budb_changes.specs.declared.records.Frag.{Frag}
use Rattle.budb_changes.specs.declared.records.VolRecordFields.{VolRecordFields}
use Rattle.budb_changes.specs.declared.records.DumpRecordFields.{DumpRecordFields}
use Rattle.budb_fold.specs.Lookups.{record_of, volume_of}
use Rattle.tape_text.specs.Wholes.{Lying}
use Rattle.archive_model.specs.Holding.{called_frags, called_at, placed_from}
use Rattle.archive_model.specs.Plays.{records_of}
use Rattle.archive_model.specs.Archives.{Need, needs, needs_of}
use Rattle.restore_chain.specs.Planning.{need_at, needs_by, needs_for, needs_in}

module _ (d : DumpRecordFields) where
  need_for : Lying → Need
  need_for c = record { dump = d; tape = c.tape }

  frags_need : (index fragment : ℕ) (v : VolRecordFields) (fs : List Frag) → map (λ c. record { dump = d; tape = c.tape }) (called_frags d.id index fragment v fs) ≡ map (need_at d) fs
  frags_need index fragment v [] = refl
  frags_need index fragment v (f ∷ []) = refl
  frags_need index fragment v (f ∷ g ∷ fs) = ap (λ (ns : List Need). need_at d f ∷ ns) (frags_need index (fragment + 1) v (g ∷ fs))

  volumes_need : (name : List ℕ) (index : ℕ) (vs : List VolRecordFields) → map (λ c. record { dump = d; tape = c.tape }) (called_at d.id (find (λ v. is_same_text v.1.name name) (placed_from index vs))) ≡ needs_by d (find (λ v. is_same_text v.name name) vs)
  volumes_need name index [] = refl
  volumes_need name index (v ∷ vs) = elim (cases_Bool (is_same_text v.name name)) [
    | inl hit ↦ rw hit (frags_need index 1 v v.frags)
    | inr miss ↦ rw miss (volumes_need name (index + 1) vs)
  ]

-- a dump needs the tapes of the volume's fragments
pub dump_needs : (name : List ℕ) (d : DumpRecordFields) → needs_of name d ≡ needs_by d (volume_of d name)
dump_needs name d = volumes_need d name 0 d.volumes

one_needs : (name : List ℕ) (found : Option DumpRecordFields) (records : List DumpRecordFields) → records ≡ filter_map (λ (o : Option DumpRecordFields). o) (found ∷ []) → flat_map (needs_of name) records ≡ needs_for name found
one_needs name None records is = ap (flat_map (needs_of name)) is
one_needs name (Some d) records is = ap (flat_map (needs_of name)) is ∙ append-nil (needs_of name d) ∙ dump_needs name d

last_records : (records : List DumpRecordFields) (id : ℕ) → records_of records (id ∷ []) ≡ filter_map (λ (o : Option DumpRecordFields). o) (record_of records id ∷ [])
last_records records id = refl

-- one dump more
pub needs_more : (listed : List DumpRecordFields) (ids : List ℕ) (id : ℕ) (name : List ℕ) → needs listed (ids ++ id ∷ []) name ≡ needs listed ids name ++ needs_in listed name id
needs_more listed ids id name =
    ap (flat_map (needs_of name)) (filter_map-append (record_of listed) ids (id ∷ []))
    ∙ flat_map-append (needs_of name) (records_of listed ids) (records_of listed (id ∷ []))
    ∙ ap (λ (ns : List Need). needs listed ids name ++ ns) (one_needs name (record_of listed id) (records_of listed (id ∷ [])) (last_records listed id))

pub needs_step : (listed : List DumpRecordFields) (ids : List ℕ) (i : ℕ) (name : List ℕ) (old new : List Need) → i < length ids → old ≡ needs listed (take i ids) name → new ≡ old ++ needs_in listed name (get_or ids i 0) → new ≡ needs listed (take (i + 1) ids) name
needs_step listed ids i name old new within so_far more =
    more ∙ ap (λ (ns : List Need). ns ++ needs_in listed name (get_or ids i 0)) so_far ∙ sym (needs_more listed (take i ids) (get_or ids i 0) name) ∙ ap (λ (xs : List ℕ). needs listed xs name) (sym (take_more ids i 0 within))
