use Rattle.std.proofs.Common.{Some, refl, arith}
use Rattle.std.specs.Vec.{with_item}
use Rattle.budb_links.specs.declared.frags.Frags.{Frags}
use Rattle.budb_links.proofs.FragStoring.{mark_in, row_there, number_there, fresh_there, short_there, linked_files}
use Rattle.budb_links.proofs.frags.Frags.link.Given as given
use Rattle.budb_links.proofs.frags.Frags.link.Goals as goal

pub index_mut-requires : goal.index_mut-requires
index_mut-requires g c =
    let within = mark_in c.args.self.now c.requires.files.0 c.requires.files.1 c.take_last-place.new.self.items c.take_last-place.result c.take_last-place.ensures.items in
    omega (arith, within, c.args.self.now.marks.ok.0)

pub link-requires-clause-room : goal.link-requires-clause-room
link-requires-clause-room g c = λ family h absent.
    number_there c.args.self.now c.requires.files.0 c.requires.files.1 c.take_last-place.new.self.items c.take_last-place.result c.take_last-place.ensures.items family h

pub link-requires-clause-place_in : goal.link-requires-clause-place_in
link-requires-clause-place_in g c =
    row_there c.args.self.now c.requires.files.0 c.requires.files.1 c.take_last-place.new.self.items c.take_last-place.result c.take_last-place.ensures.items

pub link-requires-clause-fresh : goal.link-requires-clause-fresh
link-requires-clause-fresh g c = λ family head h.
    fresh_there c.args.self.now c.requires.files.0 c.requires.files.1 c.take_last-place.new.self.items c.take_last-place.result c.take_last-place.ensures.items family head h

pub link-requires-clause-few : goal.link-requires-clause-few
link-requires-clause-few g c = λ family head h.
    short_there c.args.self.now c.requires.files.0 c.requires.files.1 c.take_last-place.new.self.items c.take_last-place.result c.take_last-place.ensures.items family head h

abbrev made : (g : given.Over) (c : goal.After-link g) → Frags
made g c = record {
  keys = c.link.new.self;
  marks = with_item c.args.self.now.marks c.take_last-place.result (Some c.args.which);
  free = c.take_last-place.new.self;
}

pub returns-clause-files : goal.returns-clause-files
returns-clause-files g c = λ ps f. (
  c.take_last-place.result,
  linked_files c.args.self.now ps f c.take_last-place.new.self.items c.take_last-place.result c.take_last-place.ensures.items (made g c) c.args.which c.args.name.now c.requires.small refl c.take_last-place.ensures.capacity refl c.link.ensures.keeps c.link.ensures.chains c.link.ensures.rows c.link.ensures.room,
)
