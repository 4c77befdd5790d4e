use Rattle.std.proofs.Common.{◌≡◌, ℕ, List, get_or}
use Rattle.std.proofs.lemmas.List.{get_or_default}
use Rattle.budb_changes.specs.declared.records.Frag.{Frag}
use Rattle.budb_changes.specs.Bytes.{frag_bytes}
use Rattle.budb_changes.specs.Forms.{IsFrag}
use Rattle.byte_formats.proofs.Puts.{more_bytes, more_form}
use Rattle.budb_changes.proofs.writing.put_frags.Goals as goal

pub loop-frag-preserved : goal.loop-frag-preserved
loop-frag-preserved c =
    let xs : List Frag = c.args.frags.now in
    let i : ℕ = c.loop-frag.frag-index in
    let zero : Frag = record { tape = 0; at = 0 } in
    let x : Frag = get_or xs i zero in
    let is : x ≡ get_or xs i x = get_or_default xs i zero x c.loop-frag-test.true in
    record {
      bytes = more_bytes frag_bytes xs i x c.args.out.now c.loop-frag.out c.put_frag.new.out c.loop-frag-test.true is c.loop-frag.invariant.bytes c.in_ok-put_frag.ensures.bytes;
      form = more_form IsFrag xs i x c.loop-frag-test.true is c.loop-frag.invariant.form c.in_ok-put_frag.ensures.form;
    }
