use Rattle.std.proofs.Common.{ℕ, subst, sym}
use Rattle.byte_formats.specs.Formats.{Took, Stops, any_four}
use Rattle.budb_changes.specs.Formats.{expiry_of_kind}
use Rattle.byte_formats.proofs.FormatLaws.{stops_like, took_like}
use Rattle.bk_text.specs.declared.expiry.Expiry.TheVariants as expiries
use Rattle.budb_changes.proofs.ChangeKinds.{like_moment, took_unset, took_never}
use Rattle.budb_changes.proofs.change_reading.read_expiry_of.Goals as goal

pub returns-in-0 : goal.returns-in-0
returns-in-0 c = subst (λ (k : ℕ). Took (expiry_of_kind k) c.args.bytes.now expiries.Unset c.args.bytes.now) (sym c.in-0.is) (took_unset c.args.bytes.now)

pub returns-in-1 : goal.returns-in-1
returns-in-1 c = subst (λ (k : ℕ). Took (expiry_of_kind k) c.args.bytes.now expiries.Never c.args.bytes.now) (sym c.in-1.is) (took_never c.args.bytes.now)

pub returns-in-Err : goal.returns-in-Err
returns-in-Err c = subst (λ (k : ℕ). Stops (expiry_of_kind k) c.args.bytes.now c.in-Err.fault) (sym c.in-2.is) (stops_like any_four (expiry_of_kind 2) like_moment _ _ c.in-Err.ensures)

pub returns-in-Ok : goal.returns-in-Ok
unfolding like_moment
returns-in-Ok c = subst (λ (k : ℕ). Took (expiry_of_kind k) c.args.bytes.now (expiries.At c.in-Ok.moment) c.in-Ok.rest.now) (sym c.in-2.is) (took_like any_four (expiry_of_kind 2) like_moment _ _ _ c.in-Ok.ensures)
