-- A chain of increments gives its last volume, and what applying gives is a volume.
use Rattle.std.proofs.Common.{◌≡◌, ℕ, ◌<◌, ◌≤◌, Bool, true, false, cond, leb, Option, Some, None, Result, Ok, Err, List, [], ◌∷◌, map, refl, sym, ap, subst, ◌∙◌, arith}
use Rattle.std.specs.Prelude.{fold}
use Rattle.std.specs.List.{filter_map}
use Rattle.std.proofs.lemmas.Bool.{leb-true}
use Rattle.vnode_model.specs.declared.vnodes.Vnode.{Vnode}
use Rattle.vnode_model.specs.declared.headers.HeaderFields.{HeaderFields}
use Rattle.vnode_model.specs.declared.increments.Entry.{Entry}
use Rattle.vnode_model.specs.declared.increments.IncrementFields.{IncrementFields}
use Rattle.vnode_model.specs.declared.volumes.VolumeFields.{VolumeFields}
use Rattle.vnode_model.specs.declared.applying.ApplyFault.{ApplyFault}
use Rattle.vnode_model.specs.declared.applying.ApplyFault.TheVariants.{TooLarge}
use Rattle.vnode_model.specs.Limits.{AreFit, AreVolume, all_data}
use Rattle.vnode_model.specs.Increments.{vnode_for, first_lacking, data_of, vnodes_of, applied_unless, applied, selected}
use Rattle.vnode_model.specs.Chains.{IsBase, ComesBehind, Link, increment_of, IsChain, last_of, as_base, applied_on, all_applied, WholeRestores, ChainRestores, AppliedIsVolume}
use Rattle.vnode_model.proofs.FollowLaws.{stand_none}
use Rattle.vnode_model.proofs.ApplyLaws.{found_fit, restores}

-- a volume without vnodes
abbrev bare : VolumeFields → VolumeFields
bare new = record { header = new.header; vnodes = [] }

-- no time is before 0, so that nothing need stand in the base
pub whole_restores : WholeRestores
whole_restores new until fit = restores (bare new) new 0 until stand_none.fit fit (λ k d lt before. absurd (omega (arith, before)))

restores_behind : (base : Option VolumeFields) (link : Link) → IsBase base → AreVolume link.volume.vnodes → ComesBehind base link.since link.volume → applied base (increment_of link) ≡ Ok link.volume
restores_behind None link is fit since = subst (λ (s : ℕ). applied None (selected link.volume s link.until) ≡ Ok link.volume) (sym since) (whole_restores link.volume link.until fit)
restores_behind (Some old) link is fit follows = restores old link.volume link.since link.until is fit follows

pub chain_restores : ChainRestores
chain_restores base [] is chain = refl
chain_restores base (link ∷ links) is chain =
    ap (λ (r : Result VolumeFields ApplyFault). fold applied_on (as_base r) (map increment_of links)) (restores_behind base link is chain.0 chain.1)
    ∙ chain_restores (Some link.volume) links chain.0 chain.2

-- ---- what applying gives

base_fit : (base : Option VolumeFields) → IsBase base → AreVolume (vnodes_of base)
base_fit None is = stand_none.fit
base_fit (Some volume) is = is

small_ok : (small : Bool) (header : HeaderFields) (vs : List Vnode) (volume : VolumeFields) → cond small (Ok (record { header = header; vnodes = vs })) (Err TooLarge) ≡ Ok volume → (small ≡ true) × (vs ≡ volume.vnodes)
small_ok true header vs volume is = let same : (record { header = header; vnodes = vs }) ≡ volume = cc in (refl, ap (λ (x : VolumeFields). x.vnodes) same)
small_ok false header vs volume is = absurd (cc)

unless_ok : (lacking : Option Entry) (header : HeaderFields) (vs : List Vnode) (volume : VolumeFields) → applied_unless lacking header vs ≡ Ok volume → (lacking ≡ None) × (data_of vs ≤ all_data) × (vs ≡ volume.vnodes)
unless_ok (Some e) header vs volume is = absurd (cc)
unless_ok None header vs volume is =
    let parts = small_ok (leb (data_of vs) all_data) header vs volume is in (refl, leb-true (data_of vs) all_data parts.0, parts.1)

pub applied_fit : AppliedIsVolume
applied_fit base increment volume is each ok =
    let vs : List Vnode = filter_map (vnode_for (vnodes_of base)) increment.entries in
    let parts = unless_ok (first_lacking (vnodes_of base) increment.entries) increment.header vs volume ok in
    subst AreVolume parts.2 (found_fit (vnodes_of base) increment.entries (base_fit base is) each parts.0 parts.1)
