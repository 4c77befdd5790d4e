use Rattle.std.proofs.Common.{None, refl, arith}
use Rattle.std.specs.Vec.{with_item}
use Rattle.budb_links.specs.declared.frags.Frags.{Frags}
use Rattle.budb_links.proofs.FragStoring.{named_frag, among_there, full_there, within_there, row_within, free_room, unlinked_files}
use Rattle.budb_links.proofs.frags.Frags.unlink.Given as given
use Rattle.budb_links.proofs.frags.Frags.unlink.Goals as goal

pub unlink-requires-clause-place_in : goal.unlink-requires-clause-place_in
unlink-requires-clause-place_in g c =
    row_within c.args.self.now c.requires.files.0 c.requires.files.1 c.args.place (named_frag c.args.place c.args.id c.args.name.now c.requires.files.0 c.requires.files.2)

pub unlink-requires-clause-stands : goal.unlink-requires-clause-stands
unlink-requires-clause-stands g c = λ family h.
    among_there c.args.self.now c.requires.files.0 c.args.place c.args.id c.args.name.now c.requires.files.1 c.requires.files.2 family h

pub index_mut-requires : goal.index_mut-requires
index_mut-requires g c =
    let within = within_there c.args.self.now c.requires.files.0 c.requires.files.1 c.args.place (named_frag c.args.place c.args.id c.args.name.now c.requires.files.0 c.requires.files.2) in
    omega (arith, within, c.args.self.now.marks.ok.0)

pub push_reserved-requires : goal.push_reserved-requires
push_reserved-requires g c =
    let room = free_room c.args.self.now c.requires.files.0 c.requires.files.1 c.args.place (named_frag c.args.place c.args.id c.args.name.now c.requires.files.0 c.requires.files.2) in
    omega (arith, room, c.args.self.now.free.ok.0)

abbrev made : (g : given.Over) (c : goal.After-push_reserved g) → Frags
made g c = record {
  keys = c.unlink.new.self;
  marks = with_item c.args.self.now.marks c.args.place None;
  free = c.push_reserved.new.self;
}

pub returns-clause-files : goal.returns-clause-files
returns-clause-files g c = λ ps f.
    let old = c.args.self.now in
    let full = full_there old c.requires.files.0 c.requires.files.1 c.args.place (named_frag c.args.place c.args.id c.args.name.now c.requires.files.0 c.requires.files.2) in
    unlinked_files old ps f c.args.place (f.only c.args.place full.0 full.1) (made g c) c.push_reserved.ensures.items c.push_reserved.ensures.capacity refl c.unlink.ensures.keeps c.unlink.ensures.chains c.unlink.ensures.rows c.unlink.ensures.room
