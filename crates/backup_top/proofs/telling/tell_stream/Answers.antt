use Rattle.std.proofs.Common.{◌≡◌, ◌++◌, ◌∙◌, ap, subst, List}
use Rattle.std.specs.List.{flat_map}
use Rattle.vnode_model.specs.declared.increments.IncrementFields.{IncrementFields}
use Rattle.vnode_model.specs.declared.increments.Entry.{Entry}
use Rattle.backup_top.specs.Tells.{ToldFront}
use Rattle.backup_top.specs.Replies.{entry_line, volume_line}
use Rattle.crash_moments.specs.Moments.{Leads}
use Rattle.backup_top.specs.Tells.{TellsOn}
use Rattle.backup_top.proofs.TellLaws.{first_told, second_told, both_told, only_more}
use Rattle.backup_top.proofs.ImageLaws.{on_both, on_wider}
use Rattle.backup_top.proofs.telling.tell_stream.Goals as goal

pub returns-in-Err-clause-told : goal.returns-in-Err-clause-told
returns-in-Err-clause-told g c = λ told. record {
  ok = tt;
  err = first_told (volume_line c.args.increment.now) (flat_map entry_line c.args.increment.now.entries) _ _ (c.in-Err.ensures.told _ c.line_of_volume.ensures told).err;
}

pub returns-in-Err-tell_entries-clause-told : goal.returns-in-Err-tell_entries-clause-told
returns-in-Err-tell_entries-clause-told g c = λ told. record {
  ok = tt;
  err = second_told (volume_line c.args.increment.now) (flat_map entry_line c.args.increment.now.entries) _ _ _ (c.in-Ok.ensures.told _ c.line_of_volume.ensures told).ok
      (let same : c.as_slice.result.now ≡ c.args.increment.now.entries = c.as_slice.ensures ∙ ap (λ (f : IncrementFields). f.entries) c.fields.ensures.value in
      subst (λ (es : List Entry). ToldFront (flat_map entry_line es) (g.M.Media.seen c.tell_line.new.media).told (g.M.Media.seen c.tell_entries.new.media).told) same (c.in-Err-tell_entries.ensures.told told).err);
}

pub returns-in-Ok-tell_entries-clause-told : goal.returns-in-Ok-tell_entries-clause-told
returns-in-Ok-tell_entries-clause-told g c = λ told. record {
  ok = both_told (volume_line c.args.increment.now) (flat_map entry_line c.args.increment.now.entries) _ _ _ (c.in-Ok.ensures.told _ c.line_of_volume.ensures told).ok
      (let same : c.as_slice.result.now ≡ c.args.increment.now.entries = c.as_slice.ensures ∙ ap (λ (f : IncrementFields). f.entries) c.fields.ensures.value in
      (c.in-Ok-tell_entries.ensures.told told).ok ∙ ap (λ (es : List Entry). (g.M.Media.seen c.tell_line.new.media).told ++ flat_map entry_line es) same);
  err = tt;
}

pub returns-in-Err-tell_entries-clause-only : goal.returns-in-Err-tell_entries-clause-only
returns-in-Err-tell_entries-clause-only g c = only_more _ _ _ _ _ _ _ _ _ _ c.in-Ok.ensures.only c.in-Err-tell_entries.ensures.only

pub returns-in-Ok-tell_entries-clause-only : goal.returns-in-Ok-tell_entries-clause-only
returns-in-Ok-tell_entries-clause-only g c = only_more _ _ _ _ _ _ _ _ _ _ c.in-Ok.ensures.only c.in-Ok-tell_entries.ensures.only

pub returns-in-Err-clause-images : goal.returns-in-Err-clause-images
returns-in-Err-clause-images g c = λ told.
    on_wider g.M.Media.time (volume_line c.args.increment.now) (flat_map entry_line c.args.increment.now.entries) _ c.args.media.now _ (c.in-Err.ensures.images _ c.line_of_volume.ensures told)

pub returns-in-Err-tell_entries-clause-images : goal.returns-in-Err-tell_entries-clause-images
returns-in-Err-tell_entries-clause-images g c = λ told.
    let same : c.as_slice.result.now ≡ c.args.increment.now.entries = c.as_slice.ensures ∙ ap (λ (f : IncrementFields). f.entries) c.fields.ensures.value in
    on_both g.M.Media.time (volume_line c.args.increment.now) (flat_map entry_line c.args.increment.now.entries) _ _ c.args.media.now _ _ (c.in-Ok.ensures.told _ c.line_of_volume.ensures told).ok (c.in-Ok.ensures.images _ c.line_of_volume.ensures told)
    (subst (λ (es : List Entry). Leads g.M.Media.time c.tell_line.new.media c.tell_entries.new.media (TellsOn (flat_map entry_line es) (g.M.Media.seen c.tell_line.new.media).told)) same (c.in-Err-tell_entries.ensures.images told))

pub returns-in-Ok-tell_entries-clause-images : goal.returns-in-Ok-tell_entries-clause-images
returns-in-Ok-tell_entries-clause-images g c = λ told.
    let same : c.as_slice.result.now ≡ c.args.increment.now.entries = c.as_slice.ensures ∙ ap (λ (f : IncrementFields). f.entries) c.fields.ensures.value in
    on_both g.M.Media.time (volume_line c.args.increment.now) (flat_map entry_line c.args.increment.now.entries) _ _ c.args.media.now _ _ (c.in-Ok.ensures.told _ c.line_of_volume.ensures told).ok (c.in-Ok.ensures.images _ c.line_of_volume.ensures told)
    (subst (λ (es : List Entry). Leads g.M.Media.time c.tell_line.new.media c.tell_entries.new.media (TellsOn (flat_map entry_line es) (g.M.Media.seen c.tell_line.new.media).told)) same (c.in-Ok-tell_entries.ensures.images told))
