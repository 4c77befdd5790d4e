use Rattle.std.proofs.Common.{◌≡◌, ℕ, List, length, get_or, Some, sym, ◌∙◌, ap, subst, arith}
use Rattle.std.specs.Int.{w32, to_be_bytes}
use Rattle.budb_changes.specs.declared.records.VolRecordFields.{VolRecordFields}
use Rattle.budb_links.specs.declared.frags.FragPlace.{FragPlace}
use Rattle.budb_links.specs.Stored.{slot_at}
use Rattle.budb_links.specs.Filing.{HasNamed}
use Rattle.budb_links.proofs.FragUnlinking.{first_is, first_own, own_placed, named_by, there_is}
use Rattle.budb_links.proofs.volumes.unlink_first.Goals as goal

pub bounds-volumes-volume : goal.bounds-volumes-volume
bounds-volumes-volume g c =
    let frags = c.args.frags.now in
    let dump = c.args.dump.now in
    let mark : FragPlace = c.in-Some.mark in
    let ps = c.requires.files.0 in
    let f = c.requires.files.1 in
    let read : slot_at frags.marks.items c.args.place ≡ Some mark = sym c.mark.ensures ∙ c.in-Some.is in
    let r = first_is frags c.args.place (to_be_bytes w32 c.args.id) ps f c.requires.first in
    let same = first_own frags c.args.place c.args.id mark ps f c.requires.first read (omega (arith, c.ranges.id.fits)) in
    let n = named_by frags dump c.args.place mark ps f.holds c.requires.files.2 read (same ∙ c.requires.id_is) r.has in
    let there = there_is dump.volumes mark.volume n.volume n.there in
    omega (arith, there.0, ap length c.as_slice-volumes.ensures)

pub unlink-requires-clause-files : goal.unlink-requires-clause-files
unlink-requires-clause-files g c =
    let frags = c.args.frags.now in
    let dump = c.args.dump.now in
    let mark : FragPlace = c.in-Some.mark in
    let ps = c.requires.files.0 in
    let f = c.requires.files.1 in
    let read : slot_at frags.marks.items c.args.place ≡ Some mark = sym c.mark.ensures ∙ c.in-Some.is in
    let r = first_is frags c.args.place (to_be_bytes w32 c.args.id) ps f c.requires.first in
    let same = first_own frags c.args.place c.args.id mark ps f c.requires.first read (omega (arith, c.ranges.id.fits)) in
    let n = named_by frags dump c.args.place mark ps f.holds c.requires.files.2 read (same ∙ c.requires.id_is) r.has in
    let there = there_is dump.volumes mark.volume n.volume n.there in
    let v : VolRecordFields = c.index-volumes-volume.result in
    let is : v ≡ n.volume = c.index-volumes-volume.is ∙ ap (λ (l : List VolRecordFields). get_or l mark.volume v) c.as_slice-volumes.ensures ∙ there.1 v in
    let name = c.bytes.ensures.value ∙ ap (λ (x : VolRecordFields). x.name) (c.fields-fields.ensures.value ∙ is) in
    let by_name = subst (λ (k : List ℕ). HasNamed c.args.place dump.id k ps) (sym name) n.named in
    (ps, f, subst (λ (k : ℕ). HasNamed c.args.place k c.bytes.result.now ps) (sym c.requires.id_is) by_name)

pub returns-in-Some-clause-own : goal.returns-in-Some-clause-own
returns-in-Some-clause-own g c = λ ps f.
    let frags = c.args.frags.now in
    let mark : FragPlace = c.in-Some.mark in
    let read : slot_at frags.marks.items c.args.place ≡ Some mark = sym c.mark.ensures ∙ c.in-Some.is in
    let same = first_own frags c.args.place c.args.id mark ps f c.requires.first read (omega (arith, c.ranges.id.fits)) in
    own_placed frags c.args.place c.args.id mark ps f.holds read same

pub returns-in_default-clause-files : goal.returns-in_default-clause-files
returns-in_default-clause-files g c =
    let r = first_is c.args.frags.now c.args.place (to_be_bytes w32 c.args.id) c.requires.files.0 c.requires.files.1 c.requires.first in
    let both = sym c.in_default.is ∙ c.mark.ensures ∙ r.marked in
    absurd (let no : ⊥ = cc in no)

pub returns-in_default-clause-own : goal.returns-in_default-clause-own
returns-in_default-clause-own g c =
    let r = first_is c.args.frags.now c.args.place (to_be_bytes w32 c.args.id) c.requires.files.0 c.requires.files.1 c.requires.first in
    let both = sym c.in_default.is ∙ c.mark.ensures ∙ r.marked in
    absurd (let no : ⊥ = cc in no)

pub returns-in_default-clause-spare : goal.returns-in_default-clause-spare
returns-in_default-clause-spare g c =
    let r = first_is c.args.frags.now c.args.place (to_be_bytes w32 c.args.id) c.requires.files.0 c.requires.files.1 c.requires.first in
    let both = sym c.in_default.is ∙ c.mark.ensures ∙ r.marked in
    absurd (let no : ⊥ = cc in no)
