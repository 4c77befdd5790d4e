-- What is said of a cell has one proof at most.
use Rattle.std.proofs.Common.{◌≡◌, ℕ, ◌%◌, ◌<◌, inl, inr, ap, sym, ◌∙◌, List, arith}
use Rattle.std.proofs.Props.{props}
use Rattle.vnode_model.specs.declared.vnodes.VnodeKind.{VnodeKind}
use Rattle.vnode_model.specs.declared.vnodes.VnodeKind.TheVariants.{File, Directory, Symlink}
use Rattle.vnode_model.specs.declared.increments.Entry.{Entry}
use Rattle.vnode_model.specs.declared.increments.Entry.TheVariants.{Whole, Kept}
use Rattle.vnode_model.specs.Limits.{IsOdd, IsEven, StandsBefore, KindFits, AccessFits, IsFit}
use Rattle.cell_core.specs.declared.stored.Stored.{Stored}
use Rattle.cell_core.specs.declared.stored.Image.{Image}
use Rattle.cell_core.specs.declared.stored.Image.TheVariants.{Good, Bad}
use Rattle.cell_core.specs.Cells.{IsImageOf, IsCell}

pub kind_prop : (kind : VnodeKind) (n : ℕ) → IsProp (KindFits kind n)
kind_prop File n = hlevel props
kind_prop Directory n = hlevel props
kind_prop Symlink n = hlevel props

pub access_prop : (kind : VnodeKind) (access : List ℕ) → IsProp (AccessFits kind access)
access_prop File access = hlevel props
access_prop Directory access = hlevel props
access_prop Symlink access = hlevel props

pub fit_prop : (e : Entry) → IsProp (IsFit e)
fit_prop (Whole v) = hlevel (kind_prop, access_prop, props)
fit_prop (Kept number uniq) = hlevel props

pub stands_prop : (m n : ℕ) → IsProp (StandsBefore m n)
stands_prop m n (inl a) (inl b) = let p : IsProp (IsOdd m × IsEven n) = hlevel props in ap (λ (x : IsOdd m × IsEven n). inl x) (p a b)
stands_prop m n (inl a) (inr b) = absurd (let e : 0 ≡ 1 = sym a.1 ∙ (sym b.0 ∙ a.0) in omega (arith, e))
stands_prop m n (inr a) (inl b) = absurd (let e : 0 ≡ 1 = sym b.1 ∙ (sym a.0 ∙ b.0) in omega (arith, e))
stands_prop m n (inr a) (inr b) = let p : IsProp ((m % 2 ≡ n % 2) × (m < n)) = hlevel props in ap (λ (x : (m % 2 ≡ n % 2) × (m < n)). inr x) (p a b)

pub image_prop : (name : List ℕ) (image : Image) → IsProp (IsImageOf name image)
image_prop name (Good volume) = hlevel (stands_prop, fit_prop, props)
image_prop name (Bad at) = hlevel props

pub cell_prop : (cell : List Stored) → IsProp (IsCell cell)
cell_prop cell = hlevel (image_prop, props)
