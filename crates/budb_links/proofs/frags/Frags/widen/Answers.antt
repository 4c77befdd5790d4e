use Rattle.std.proofs.Common.{◌≡◌, ◌-◌, ◌++◌, ℕ, length, refl, ◌∙◌, ap, arith}
use Rattle.std.proofs.lemmas.List.{length-append}
use Rattle.budb_links.specs.declared.frags.Frags.{Frags}
use Rattle.budb_links.specs.Stored.{numbers_from}
use Rattle.budb_links.proofs.Room.{numbers_long}
use Rattle.budb_links.proofs.FragStoring.{widened_files}
use Rattle.budb_links.proofs.frags.Frags.widen.Goals as goal

pub add_free-requires-clause-room : goal.add_free-requires-clause-room
add_free-requires-clause-room c =
    let f = c.requires.files.1 in
    omega (arith, c.requires.prepared.free, f.all, c.len-spare.ensures, c.args.self.now.free.ok.0)

pub returns-then-spare-count-clause-files : goal.returns-then-spare-count-clause-files
returns-then-spare-count-clause-files c = λ ps f.
    let old = c.args.self.now in
    let more = c.args.count - c.len-spare.result in
    let spare : c.len-spare.result ≡ length old.free.items = omega (arith, c.len-spare.ensures, old.free.ok.0) in
    let first : c.len-first.result ≡ length old.marks.items = omega (arith, c.len-first.ensures, old.marks.ok.0) in
    let p = c.requires.prepared in
    let new : Frags = record { keys = old.keys; marks = c.add_blanks.new.slots; free = c.add_free.new.free } in
    widened_files old new ps more f refl c.add_blanks.ensures (c.add_free.ensures.items ∙ ap (λ (n : ℕ). old.free.items ++ numbers_from n more) first) c.add_free.ensures.capacity (omega (arith, p.free, spare)) (omega (arith, p.rows, spare)) (λ family h. omega (arith, p.room family h, spare))

pub returns-then-spare-count-clause-room : goal.returns-then-spare-count-clause-room
returns-then-spare-count-clause-room c =
    let old = c.args.self.now in
    let more = c.args.count - c.len-spare.result in
    let long = ap length c.add_free.ensures.items ∙ length-append old.free.items (numbers_from c.len-first.result more) in
    omega (arith, long, numbers_long c.len-first.result more, c.len-spare.ensures, old.free.ok.0)
