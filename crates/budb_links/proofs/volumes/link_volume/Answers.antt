use Rattle.std.proofs.Common.{◌++◌, ◌∷◌, [], List, sym, ◌∙◌, ap, subst, refl, arith}
use Rattle.std.proofs.lemmas.List.{append-nil, append_assoc, map-append}
use Rattle.budb_links.specs.Frags.{Fragment, Placed, frag_place, fragment_of, placed_at}
use Rattle.budb_links.specs.Filing.{Files}
use Rattle.budb_links.proofs.FragLists.{volume_more}
use Rattle.budb_links.proofs.volumes.link_volume.Goals as goal

pub loop-frag-init : goal.loop-frag-init
loop-frag-init g c = record {
  files = λ ps f. ([], subst (Files c.args.frags.now) (sym (append-nil ps)) f, refl);
  spare = omega arith;
  cost = omega arith;
}

pub link-requires-clause-files : goal.link-requires-clause-files
link-requires-clause-files g c =
    let now = c.loop-frag.invariant.files c.requires.files.0 c.requires.files.1 in
    (_, now.1)

pub loop-frag-preserved : goal.loop-frag-preserved
loop-frag-preserved g c = record {
  files = λ ps f.
      let now = c.loop-frag.invariant.files ps f in
      let one = c.link.ensures.files _ now.1 in
      let which = frag_place c.args.id c.args.volume c.loop-frag.frag in
      let p = placed_at one.0 (fragment_of which c.args.name.now) in (
        now.0 ++ p ∷ [],
        subst (Files c.link.new.self) (append_assoc ps now.0 (p ∷ [])) one.1,
        map-append (λ (q : Placed). q.fragment) now.0 (p ∷ [])
            ∙ ap (λ (t : List Fragment). t ++ fragment_of which c.args.name.now ∷ []) now.2
            ∙ volume_more c.args.id c.args.volume c.args.name.now c.loop-frag.frag,
      );
  spare = omega (arith, c.loop-frag.invariant.spare, c.link.ensures.spare);
  cost = omega (arith, c.loop-frag.invariant.cost, c.link.ensures.cost);
}
