use Rattle.std.proofs.Common.{ℕ, List, length, None, refl, sym, ◌∙◌, ap, subst, arith}
use Rattle.budb_links.specs.Stands.{first_place}
use Rattle.budb_links.specs.Keyed.{chain_in}
use Rattle.budb_links.specs.Filing.{Files, without_frag}
use Rattle.budb_links.proofs.Lists.{all_filter}
use Rattle.budb_links.proofs.FragLists.{are_of_dump}
use Rattle.budb_links.proofs.FragUnlinking.{others_left, none_left, as_many}
use Rattle.budb_links.proofs.volumes.unlink_dump.Goals as goal

pub loop-place-init : goal.loop-place-init
loop-place-init g c = record {
  files = λ ps f whole. (ps, f, are_of_dump c.args.dump.now ps whole, refl);
  places = refl;
  cost = omega arith;
}

pub loop-place-preserved : goal.loop-place-preserved
loop-place-preserved g c = record {
  files = λ ps f whole.
      let dump = c.args.dump.now in
      let now = c.loop-place.invariant.files ps f whole in (
        without_frag c.in-Some.place now.0,
        c.unlink_first.ensures.files now.0 now.1,
        all_filter _ _ now.0 now.2,
        others_left c.in-Some.place dump.id now.0 (c.unlink_first.ensures.own now.0 now.1) ∙ now.3,
      );
  places = c.unlink_first.ensures.places ∙ c.loop-place.invariant.places;
  cost = omega (arith, c.loop-place.invariant.cost, c.unlink_first.ensures.spare, c.unlink_first.ensures.cost);
}

pub returns-clause-files : goal.returns-clause-files
returns-clause-files g c = λ ps f whole.
    let id = c.args.dump.now.id in
    let now = c.loop-place.invariant.files ps f whole in
    let key = c.as_slice.ensures ∙ c.to_be_bytes-key.ensures in
    let none = ap (λ (k : List ℕ). first_place (chain_in c.loop-place.frags.keys 1 k) None) (sym key) ∙ sym c.first_of_dump.ensures ∙ c.in_default.is in
    subst (Files c.loop-place.frags) (sym (none_left c.loop-place.frags id now.0 now.1 none) ∙ now.3) now.1

pub returns-clause-spare : goal.returns-clause-spare
returns-clause-spare g c =
    let dump = c.args.dump.now in
    let ps = c.requires.files.0 in
    let f = c.requires.files.1 in
    let whole = c.requires.files.2 in
    let now = c.loop-place.invariant.files ps f whole in
    let last = now.1 in
    let key = c.as_slice.ensures ∙ c.to_be_bytes-key.ensures in
    let none = ap (λ (k : List ℕ). first_place (chain_in c.loop-place.frags.keys 1 k) None) (sym key) ∙ sym c.first_of_dump.ensures ∙ c.in_default.is in
    let left = ap length (sym (none_left c.loop-place.frags dump.id now.0 now.1 none) ∙ now.3) in
    omega (arith, last.all, f.all, left, as_many dump ps whole, c.loop-place.invariant.places)

pub returns-clause-cost : goal.returns-clause-cost
returns-clause-cost g c =
    let dump = c.args.dump.now in
    let ps = c.requires.files.0 in
    let f = c.requires.files.1 in
    let whole = c.requires.files.2 in
    let now = c.loop-place.invariant.files ps f whole in
    let last = now.1 in
    let key = c.as_slice.ensures ∙ c.to_be_bytes-key.ensures in
    let none = ap (λ (k : List ℕ). first_place (chain_in c.loop-place.frags.keys 1 k) None) (sym key) ∙ sym c.first_of_dump.ensures ∙ c.in_default.is in
    let left = ap length (sym (none_left c.loop-place.frags dump.id now.0 now.1 none) ∙ now.3) in
    omega (arith, c.loop-place.invariant.cost, last.all, f.all, left, as_many dump ps whole, c.loop-place.invariant.places)
