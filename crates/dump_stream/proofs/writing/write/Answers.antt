use Rattle.std.proofs.Common.{◌≡◌, ℕ, List, ◌∷◌, ◌++◌, ap, ◌∙◌}
use Rattle.vnode_model.specs.declared.increments.Entry.{Entry}
use Rattle.vnode_model.specs.declared.increments.IncrementFields.{IncrementFields}
use Rattle.dump_stream.specs.Forms.{closing}
use Rattle.dump_stream.specs.Written.{written}
use Rattle.dump_stream.specs.Parts.{headers, HoldsFront}
use Rattle.dump_stream.proofs.PartLaws.{row2, sections_of, front_none, front_behind, front_first, front_is, on_err}
use Rattle.dump_stream.proofs.writing.write.Goals as goal

abbrev headers_of : IncrementFields → List ℕ
headers_of i = headers i.dump_id i.dump_name i.from i.to i.header

pub returns-in_err-write_entries-clause-err : goal.returns-in_err-write_entries-clause-err
unfolding written
returns-in_err-write_entries-clause-err c =
    let i = c.args.increment.now in
    let old = c.args.out.now in
    let new = c.write_entries.new.out in
    let is = c.fields-fields.ensures.value in
    let e1 : c.piece.new.self ≡ old ++ headers_of i = c.in_ok-piece.ensures.ok ∙ ap (λ (x : List ℕ). old ++ x) (c.as_slice.ensures ∙ c.put_headers.ensures ∙ ap headers_of is) in
    let es_are : c.as_slice-2.result.now ≡ i.entries = c.as_slice-2.ensures ∙ ap (λ (x : IncrementFields). x.entries) is in
    let here : HoldsFront c.piece.new.self (sections_of i.entries) new = front_is c.piece.new.self (sections_of c.as_slice-2.result.now) (sections_of i.entries) new (ap sections_of es_are) c.in_err-write_entries.ensures.err in
    let behind = front_behind old c.piece.new.self (headers_of i) (sections_of i.entries) new e1 here in
    on_err c.from_residual-in_err-write_entries.result (HoldsFront old (written i) new) (front_first old (headers_of i ++ sections_of i.entries) (4 ∷ closing) new behind)

pub returns-in_err-piece-2-clause-err : goal.returns-in_err-piece-2-clause-err
unfolding written
returns-in_err-piece-2-clause-err c =
    let i = c.args.increment.now in
    let old = c.args.out.now in
    let new = c.piece-2.new.self in
    let is = c.fields-fields.ensures.value in
    let e1 : c.piece.new.self ≡ old ++ headers_of i = c.in_ok-piece.ensures.ok ∙ ap (λ (x : List ℕ). old ++ x) (c.as_slice.ensures ∙ c.put_headers.ensures ∙ ap headers_of is) in
    let es_are : c.as_slice-2.result.now ≡ i.entries = c.as_slice-2.ensures ∙ ap (λ (x : IncrementFields). x.entries) is in
    let e2 : c.write_entries.new.out ≡ c.piece.new.self ++ sections_of i.entries = c.in_ok-write_entries.ensures.ok ∙ ap (λ (x : List Entry). c.piece.new.self ++ sections_of x) es_are in
    let upto = row2 old (headers_of i) (sections_of i.entries) e1 e2 in
    let none = front_none c.write_entries.new.out (4 ∷ closing) new c.in_err-piece-2.ensures.err in
    on_err c.from_residual-in_err-piece-2.result (HoldsFront old (written i) new) (front_behind old c.write_entries.new.out (headers_of i ++ sections_of i.entries) (4 ∷ closing) new upto none)

pub returns-clause-ok : goal.returns-clause-ok
unfolding written
returns-clause-ok c =
    let i = c.args.increment.now in
    let old = c.args.out.now in
    let is = c.fields-fields.ensures.value in
    let e1 : c.piece.new.self ≡ old ++ headers_of i = c.in_ok-piece.ensures.ok ∙ ap (λ (x : List ℕ). old ++ x) (c.as_slice.ensures ∙ c.put_headers.ensures ∙ ap headers_of is) in
    let es_are : c.as_slice-2.result.now ≡ i.entries = c.as_slice-2.ensures ∙ ap (λ (x : IncrementFields). x.entries) is in
    let e2 : c.write_entries.new.out ≡ c.piece.new.self ++ sections_of i.entries = c.in_ok-write_entries.ensures.ok ∙ ap (λ (x : List Entry). c.piece.new.self ++ sections_of x) es_are in
    let e3 : c.piece-2.new.self ≡ c.write_entries.new.out ++ 4 ∷ closing = c.in_ok-piece-2.ensures.ok ∙ ap (λ (x : List ℕ). c.write_entries.new.out ++ x) (c.as_slice-3.ensures ∙ c.put_end.ensures) in
    row2 old (headers_of i ++ sections_of i.entries) (4 ∷ closing) (row2 old (headers_of i) (sections_of i.entries) e1 e2) e3
