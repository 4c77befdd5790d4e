use Rattle.std.proofs.Common.{◌≡◌, ◌<◌, List, length, take, get_or, sym, ◌∙◌, ap, arith}
use Rattle.std.proofs.lemmas.List.{length-append}
use Rattle.budb_changes.specs.declared.records.VolRecordFields.{VolRecordFields}
use Rattle.budb_changes.specs.declared.records.DumpRecordFields.{DumpRecordFields}
use Rattle.budb_links.specs.Frags.{volume_frags, volumes_frags}
use Rattle.budb_links.proofs.FragLists.{volumes_more, volume_long}
use Rattle.budb_links.proofs.volumes.frag_count.Goals as goal

pub loop-volume-preserved : goal.loop-volume-preserved
loop-volume-preserved c =
    let dump = c.args.dump.now in
    let volumes = dump.volumes in
    let listed = c.as_slice-volumes.ensures ∙ ap (λ (d : DumpRecordFields). d.volumes) c.fields.ensures.value in
    let v : VolRecordFields = c.index-volumes-volume.result in
    let i = c.loop-volume.volume in
    let below : i < length volumes = omega (arith, c.loop-volume-test.true, ap length listed) in
    let is : v ≡ get_or volumes i v = c.index-volumes-volume.is ∙ ap (λ (l : List VolRecordFields). get_or l i v) listed in
    let count = c.len-count.ensures ∙ ap (λ (x : VolRecordFields). length x.frags) c.fields-in-loop-volume.ensures.value in
    let long = sym (ap length (volumes_more dump.id volumes i v below is)) ∙ length-append (volumes_frags dump.id 0 (take i volumes)) (volume_frags dump.id i v.name 0 (length v.frags)) in
    let form = c.fields-in-loop-volume.ensures.form in
    record {
      count = omega (arith, c.loop-volume.invariant.count, long, volume_long dump.id i v.name 0 (length v.frags), count);
      small = omega (arith, c.loop-volume.invariant.small, c.len-count.ensures, count, form.1);
    }
