use Rattle.std.proofs.Common.{◌≡◌, ◌+◌, ◌-◌, ◌≤◌, ◌<◌, ℕ, List, length, get_or, set, refl, ap, subst, sym, ◌∙◌, arith}
use Rattle.std.specs.Prelude.{Result, Ok}
use Rattle.std.proofs.lemmas.List.{get_or_default}
use Rattle.std.proofs.lemmas.List.Sums.{sum_by_more_le}
use Rattle.vnode_model.specs.declared.vnodes.Vnode.{Vnode}
use Rattle.vnode_model.specs.declared.volumes.VolumeFields.{VolumeFields}
use Rattle.vnode_model.specs.Limits.{AreVolume, most_data, all_data}
use Rattle.vnode_model.specs.Increments.{data_of}
use Rattle.vnode_model.specs.declared.headers.HeaderFields.{HeaderFields}
use Rattle.cell_core.specs.declared.fault.CellFault.{CellFault}
use Rattle.cell_core.specs.Vnodes.{rewritten_vnode}
use Rattle.cell_core.specs.Volumes.{updated_header}
use Rattle.cell_core.specs.Changing.{volume_from}
use Rattle.cell_core.proofs.ChangeLaws.{volume_there, long_there, large_there, written_there}
use Rattle.cell_core.proofs.changes.write_there.Goals as goal

-- the data of all but the vnode, in what was counted
counted : (vs shown : List Vnode) (at all len : ℕ) (u : Vnode) → shown ≡ vs → all ≡ data_of shown → len ≡ length u.body → at < length vs → u ≡ get_or vs at u → (all ≡ data_of vs) × (len ≤ all) × (len ≡ length u.body)
counted vs shown at all len u same is len_is within u_is =
    let total : all ≡ data_of vs = is ∙ ap data_of same in
    let part = sum_by_more_le (λ (v : Vnode). length v.body) vs at u within in
    let body : length u.body ≡ length (get_or vs at u).body = ap (λ (v : Vnode). length v.body) u_is in
    (total, omega (arith, part, total, len_is, body), len_is)

record Wrote (vs : List Vnode) (at : ℕ) (v w : Vnode) (body : List ℕ) (now : ℕ) : Type 0 where
  is : w ≡ rewritten_vnode body now v
  small : data_of vs + length body ≤ all_data + length v.body
  volume : AreVolume (set vs at w)

wrote : (vs shown : List Vnode) (at all len : ℕ) (u v w : Vnode) (body copy : List ℕ) (now : ℕ) → AreVolume vs → at < length vs → shown ≡ vs → all ≡ data_of shown → len ≡ length u.body → u ≡ get_or vs at u → v ≡ get_or vs at v
    → copy ≡ body → w ≡ rewritten_vnode copy now v → length body ≤ most_data → (all - len) + length body ≤ all_data → Wrote vs at v w body now
wrote vs shown at all len u v w body copy now fit within same all_is len_is u_is v_is copied w_is short room =
    let n = counted vs shown at all len u same all_is len_is within u_is in
    let one : u ≡ v = u_is ∙ (get_or_default vs at u v within ∙ sym v_is) in
    let bodies : length u.body ≡ length v.body = ap (λ (x : Vnode). length x.body) one in
    let is : w ≡ rewritten_vnode body now v = w_is ∙ ap (λ (b : List ℕ). rewritten_vnode b now v) copied in
    let small : data_of vs + length body ≤ all_data + length v.body = omega (arith, n.0, n.1, n.2, bodies, room) in
    record { is = is; small = small; volume = subst (λ (x : Vnode). AreVolume (set vs at x)) (sym is) (volume_there vs at v body now fit within v_is short small) }

abbrev done_with : VolumeFields → Result VolumeFields CellFault
done_with volume = Ok volume

pub update_header-requires : goal.update_header-requires
update_header-requires c =
    let done = wrote c.args.vnodes.now.items c.deref.result.now c.args.at c.data_of.result c.len.result c.index.result.now c.index_mut.result.now c.rewrite.new.vnode c.args.body.now c.in_ok-copy.copy c.args.now c.requires.volume (omega arith) c.deref.ensures.value
    c.data_of.ensures.value c.len.ensures c.index.ensures c.index_mut.ensures.value c.in_ok-copy.ensures c.rewrite.ensures (omega arith) c.if-others-body-gt-ALL_DATA.false in
    subst AreVolume (sym c.deref-2.ensures.value) done.volume

pub returns-clause-volume : goal.returns-clause-volume
returns-clause-volume c =
    let done = wrote c.args.vnodes.now.items c.deref.result.now c.args.at c.data_of.result c.len.result c.index.result.now c.index_mut.result.now c.rewrite.new.vnode c.args.body.now c.in_ok-copy.copy c.args.now c.requires.volume (omega arith) c.deref.ensures.value
    c.data_of.ensures.value c.len.ensures c.index.ensures c.index_mut.ensures.value c.in_ok-copy.ensures c.rewrite.ensures (omega arith) c.if-others-body-gt-ALL_DATA.false in
    done.volume

pub returns-clause-answer : goal.returns-clause-answer
returns-clause-answer c = λ k found.
    let vs : List Vnode = c.args.vnodes.now.items in
    let done = wrote vs c.deref.result.now c.args.at c.data_of.result c.len.result c.index.result.now c.index_mut.result.now c.rewrite.new.vnode c.args.body.now c.in_ok-copy.copy c.args.now c.requires.volume (omega arith) c.deref.ensures.value
    c.data_of.ensures.value c.len.ensures c.index.ensures c.index_mut.ensures.value c.in_ok-copy.ensures c.rewrite.ensures (omega arith) c.if-others-body-gt-ALL_DATA.false in
    let header : c.update_header.new.header ≡ updated_header (set vs c.args.at c.rewrite.new.vnode) c.args.now c.args.header.now = c.update_header.ensures ∙ ap (λ (l : List Vnode). updated_header l c.args.now c.args.header.now) c.deref-2.ensures.value in
    written_there vs c.args.at c.index_mut.result.now c.args.body.now c.args.now c.requires.volume (omega arith) c.index_mut.ensures.value k found c.args.header.now (omega arith) done.small
    ∙ (ap (λ (x : Vnode). done_with (volume_from (updated_header (set vs c.args.at x) c.args.now c.args.header.now) (set vs c.args.at x))) (sym done.is)
    ∙ ap (λ (h : HeaderFields). done_with (volume_from h (set vs c.args.at c.rewrite.new.vnode))) (sym header))

pub returns-then-body-gt-MOST_DATA-clause-answer : goal.returns-then-body-gt-MOST_DATA-clause-answer
returns-then-body-gt-MOST_DATA-clause-answer c = λ k found. (
  long_there c.args.vnodes.now.items c.args.at c.index.result.now c.args.body.now c.args.now c.requires.volume (omega arith) c.index.ensures k found c.args.header.now c.if-body-gt-MOST_DATA.true,
  refl,
)

pub returns-then-others-body-gt-ALL_DATA-clause-answer : goal.returns-then-others-body-gt-ALL_DATA-clause-answer
returns-then-others-body-gt-ALL_DATA-clause-answer c = λ k found.
    let n = counted c.args.vnodes.now.items c.deref.result.now c.args.at c.data_of.result c.len.result c.index.result.now c.deref.ensures.value c.data_of.ensures.value c.len.ensures (omega arith) c.index.ensures in
    (large_there c.args.vnodes.now.items c.args.at c.index.result.now c.args.body.now c.args.now c.requires.volume (omega arith) c.index.ensures k found c.args.header.now (omega (arith, n.0, n.1, n.2, c.if-others-body-gt-ALL_DATA.true)), refl)
