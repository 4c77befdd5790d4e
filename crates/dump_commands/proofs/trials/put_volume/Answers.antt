use Rattle.std.proofs.Common.{◌≡◌, ◌++◌, ℕ, List, sym, ◌∙◌, ap}
use Rattle.std.specs.Option.{option_copied}
use Rattle.budb_fold.specs.Lookups.{from_of}
use Rattle.backup_replies.specs.Restores.{would_volume_line}
use Rattle.dump_commands.proofs.EntryLaws.{line_is}
use Rattle.dump_commands.proofs.trials.put_volume.Goals as goal

pub returns-clause-lines : goal.returns-clause-lines
returns-clause-lines g c = λ told.
    let from : c.from_of-from.result ≡ from_of (option_copied c.args.parent) c.args.entry.now.name c.in_ok-clone.clone.born =
    c.from_of-from.ensures ∙ ap (λ (name : List ℕ). from_of (option_copied c.args.parent) name c.in_ok-clone.clone.born) c.bytes.ensures.value in
    c.in_ok-put_would_volume.ensures
    ∙ ap (λ (l : List ℕ). c.args.lines.now ++ l)
    ((λ i. would_volume_line (c.bytes-2.ensures.value i) (from i))
    ∙ sym (line_is (option_copied c.args.parent) (g.C.Cell.list c.args.cell.now) c.args.time c.args.place c.args.entry.now c.in_ok-clone.clone (c.requires.entry told) (c.in_ok-clone.ensures.clone told)))
