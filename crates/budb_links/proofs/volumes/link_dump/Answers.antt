use Rattle.std.proofs.Common.{◌≡◌, ◌<◌, ◌++◌, ℕ, List, length, take, get_or, sym, ◌∙◌, ap, subst, arith}
use Rattle.std.proofs.lemmas.List.{append_assoc, map-append, length-append}
use Rattle.budb_changes.specs.declared.records.VolRecordFields.{VolRecordFields}
use Rattle.budb_links.specs.Frags.{Fragment, Placed, volume_frags, volumes_frags, fragments}
use Rattle.budb_links.specs.Filing.{Files}
use Rattle.budb_links.proofs.FragLists.{volumes_more, volumes_within, volume_long}
use Rattle.budb_links.proofs.volumes.link_dump.Goals as goal

pub link_volume-requires-clause-room : goal.link_volume-requires-clause-room
link_volume-requires-clause-room g c =
    let dump = c.args.dump.now in
    let volumes = dump.volumes in
    let v : VolRecordFields = c.index-volumes-volume.result in
    let i = c.loop-volume.volume in
    let below : i < length volumes = omega (arith, c.loop-volume-test.true, ap length c.as_slice-volumes.ensures) in
    let is : v ≡ get_or volumes i v = c.index-volumes-volume.is ∙ ap (λ (l : List VolRecordFields). get_or l i v) c.as_slice-volumes.ensures in
    let within = volumes_within dump.id 0 volumes i v below is in
    let long = ap (λ (x : VolRecordFields). length x.frags) c.fields-fields.ensures.value in
    omega (arith, within, long, c.len.ensures, c.loop-volume.invariant.spare, c.requires.room)

pub loop-volume-preserved : goal.loop-volume-preserved
loop-volume-preserved g c =
    let dump = c.args.dump.now in
    let volumes = dump.volumes in
    let v : VolRecordFields = c.index-volumes-volume.result in
    let i = c.loop-volume.volume in
    let below : i < length volumes = omega (arith, c.loop-volume-test.true, ap length c.as_slice-volumes.ensures) in
    let is : v ≡ get_or volumes i v = c.index-volumes-volume.is ∙ ap (λ (l : List VolRecordFields). get_or l i v) c.as_slice-volumes.ensures in
    let more = volumes_more dump.id volumes i v below is in
    let fields = c.fields-fields.ensures.value in
    let name = c.bytes.ensures.value ∙ ap (λ (x : VolRecordFields). x.name) fields in
    let count = c.len.ensures ∙ ap (λ (x : VolRecordFields). length x.frags) fields in
    let front = volumes_frags dump.id 0 (take i volumes) in
    let here = volume_frags dump.id i v.name 0 (length v.frags) in
    let same =
    ap (λ (n : ℕ). volume_frags n i c.bytes.result.now 0 c.len.result) c.requires.id_is
    ∙ ap (λ (k : List ℕ). volume_frags dump.id i k 0 c.len.result) name
    ∙ ap (volume_frags dump.id i v.name 0) count in
    let long = sym (ap length more) ∙ length-append front here in
    let own = volume_long dump.id i v.name 0 (length v.frags) in
    record {
      files = λ ps f.
          let now = c.loop-volume.invariant.files ps f in
          let one = c.link_volume.ensures.files _ now.1 in (
            now.0 ++ one.0,
            subst (Files c.link_volume.new.frags) (append_assoc ps now.0 one.0) one.1,
            map-append (λ (q : Placed). q.fragment) now.0 one.0
                ∙ ap (λ (t : List Fragment). t ++ fragments one.0) now.2
                ∙ ap (λ (t : List Fragment). front ++ t) (one.2 ∙ same)
                ∙ more,
          );
      spare = omega (arith, c.loop-volume.invariant.spare, c.link_volume.ensures.spare, long, own, count);
      cost = omega (arith, c.loop-volume.invariant.cost, c.link_volume.ensures.cost, long, own, count);
    }
