use Rattle.std.proofs.Common.{◌-◌, ◌≡◌, ◌++◌, List, [], ℕ, length, subst, sym, ap, ◌∙◌, arith, length-append, refl}
use Rattle.std.specs.List.{flat_map}
use Rattle.std.proofs.lemmas.Bool.{eqb-true, eqb-false}
use Rattle.std.proofs.lemmas.List.{append-nil, nil_from_length}
use Rattle.std.proofs.lemmas.List.Elements.{All-nil}
use Rattle.budb_changes.specs.declared.change.Change.{Change}
use Rattle.budb_changes.specs.Bytes.{encoded_change, encoded}
use Rattle.budb_changes.specs.Forms.{IsChange, AreChanges}
use Rattle.byte_formats.specs.Formats.{Sticks}
use Rattle.budb_changes.specs.Formats.{change_form}
use Rattle.budb_changes.proofs.Logs.{one_more, fewer, log_fails}
use Rattle.budb_changes.proofs.decoding.decode.Goals as goal

pub loop-rest-init : goal.loop-rest-init
loop-rest-init c = record { each = subst AreChanges (sym c.new-changes.ensures) (All-nil IsChange); joined = ap (λ (xs : List Change). flat_map encoded_change xs ++ c.args.bytes.now) (sym c.new-changes.ensures) }

pub loop-rest-smaller : goal.loop-rest-smaller
loop-rest-smaller c = fewer _ _ _ c.in-Ok.ensures

pub loop-rest-preserved : goal.loop-rest-preserved
loop-rest-preserved c =
    let more = one_more c.loop-rest.changes c.in-Ok.change c.args.bytes.now c.loop-rest.rest.now c.in-Ok.after.now c.loop-rest.invariant.each c.loop-rest.invariant.joined c.in-Ok.ensures in
    record {
      each = subst AreChanges (sym c.in_ok-push-in-Ok.ensures.ok) more.0;
      joined = more.1 ∙ ap (λ (xs : List Change). flat_map encoded_change xs ++ c.in-Ok.after.now) (sym c.in_ok-push-in-Ok.ensures.ok);
    }

pub overflow_sub-result : goal.overflow_sub-result
overflow_sub-result c =
    let s : Sticks change_form c.loop-rest.rest.now c.in-Err-Bad.left = rw c.in-Err-Bad.field-0-is at c.in-Err-Bad.ensures in
    omega (arith, ap length s.joined, length-append s.good s.bad, s.count, ap length c.loop-rest.invariant.joined, length-append (flat_map encoded_change c.loop-rest.changes) c.loop-rest.rest.now)

pub returns-in-Err-Bad : goal.returns-in-Err-Bad
returns-in-Err-Bad c =
    let s : Sticks change_form c.loop-rest.rest.now c.in-Err-Bad.left = rw c.in-Err-Bad.field-0-is at c.in-Err-Bad.ensures in
    let some : length c.loop-rest.rest.now ≡ 0 → ⊥ = eqb-false _ _ (sym c.is_empty.ensures ∙ c.loop-rest-test.true) in
    rw c.in-Err-Bad.field-0-is (log_fails c.loop-rest.changes c.args.bytes.now c.loop-rest.rest.now c.in-Err-Bad.left (length c.args.bytes.now - c.in-Err-Bad.left) c.loop-rest.invariant.each c.loop-rest.invariant.joined (omega (arith, some)) s refl)

pub returns : goal.returns
unfolding encoded
returns c =
    let none : c.loop-rest.rest.now ≡ [] = nil_from_length c.loop-rest.rest.now (eqb-true _ _ (sym c.is_empty.ensures ∙ c.loop-rest-test.false)) in
    (c.loop-rest.invariant.each, c.loop-rest.invariant.joined ∙ ap (λ (x : List ℕ). flat_map encoded_change c.loop-rest.changes ++ x) none ∙ append-nil (flat_map encoded_change c.loop-rest.changes))
