use Rattle.std.proofs.Common.{◌≡◌, ℕ, ◌<◌, ◌^◌, Some, None, refl, sym, ◌∙◌, ap, subst, arith}
use Rattle.std.specs.Prelude.{slice_get}
use Rattle.std.specs.Option.{option_copied}
use Rattle.budb_changes.specs.declared.records.DumpRecordFields.{DumpRecordFields}
use Rattle.budb_links.specs.Entries.{places_of, record_at, of_initial}
use Rattle.budb_fold.specs.Database.{is_initial, without}
use Rattle.budb_index.specs.Indexed.{Indexed}
use Rattle.budb_index.specs.Kept.{IsOfInitial}
use Rattle.budb_index.proofs.Initials.{none_left, first_is, is_of, no_other}
use Rattle.budb_index.proofs.index.Index.first_of_initial.Goals as goal

pub returns-in_err-place-clause-none : goal.returns-in_err-place-clause-none
returns-in_err-place-clause-none g c = λ none.
    let es = c.self.inside.links.entries in
    let text = c.as_slice.result.now in
    let key = c.as_slice.ensures ∙ c.to_be_bytes-key.ensures in
    let at : slice_get (places_of (of_initial text es)) 0 ≡ None = sym (c.walk_initial.ensures.first refl) ∙ c.in_err-place.was in
    subst (λ (x : Indexed). without (is_initial c.args.initial) x.listed ≡ x.listed) c.self.view_is (none_left c.args.initial es text key at)

pub returns-in_err-dump-clause-none : goal.returns-in_err-dump-clause-none
returns-in_err-dump-clause-none g c = λ none.
    let es = c.self.inside.links.entries in
    let place = c.in_ok-place.place in
    let text = c.as_slice.result.now in
    let key = c.as_slice.ensures ∙ c.to_be_bytes-key.ensures in
    let at : slice_get (places_of (of_initial text es)) 0 ≡ Some place = sym (c.walk_initial.ensures.first refl) ∙ c.in_ok-place.was in
    let f = first_is c.args.initial es text place key at c.record_at.ensures.apart c.self.invariant.once in
    let both : None ≡ Some f.dump = sym (ap option_copied c.in_err-dump.was) ∙ c.record_at.ensures.record ∙ f.read in
    absurd (let no : ⊥ = cc in no)

pub returns-then-initial_of-initial-clause-some : goal.returns-then-initial_of-initial-clause-some
returns-then-initial_of-initial-clause-some g c = λ id same.
    let es = c.self.inside.links.entries in
    let place = c.in_ok-place.place in
    let dump = c.in_ok-dump.dump.now in
    let text = c.as_slice.result.now in
    let key = c.as_slice.ensures ∙ c.to_be_bytes-key.ensures in
    let at : slice_get (places_of (of_initial text es)) 0 ≡ Some place = sym (c.walk_initial.ensures.first refl) ∙ c.in_ok-place.was in
    let f = first_is c.args.initial es text place key at c.record_at.ensures.apart c.self.invariant.once in
    let read : record_at place es ≡ Some dump = sym c.record_at.ensures.record ∙ ap option_copied c.in_ok-dump.was in
    let own : IsOfInitial c.args.initial dump.id c.args.self.now.listed = subst (λ (x : Indexed). IsOfInitial c.args.initial dump.id x.listed) c.self.view_is (is_of c.args.initial es place c.initial_of.result dump f read c.initial_of.ensures.is c.if-initial_of-initial.true c.self.invariant.once) in
    let told : c.fields.result.now.id ≡ id = cc in
    let is : dump.id ≡ id = sym (ap (λ (d : DumpRecordFields). d.id) c.fields.ensures.value) ∙ told in
    subst (λ (n : ℕ). IsOfInitial c.args.initial n c.args.self.now.listed) is own

pub returns-else-initial_of-initial-clause-none : goal.returns-else-initial_of-initial-clause-none
returns-else-initial_of-initial-clause-none g c = λ none.
    let es = c.self.inside.links.entries in
    let place = c.in_ok-place.place in
    let dump = c.in_ok-dump.dump.now in
    let text = c.as_slice.result.now in
    let key = c.as_slice.ensures ∙ c.to_be_bytes-key.ensures in
    let at : slice_get (places_of (of_initial text es)) 0 ≡ Some place = sym (c.walk_initial.ensures.first refl) ∙ c.in_ok-place.was in
    let f = first_is c.args.initial es text place key at c.record_at.ensures.apart c.self.invariant.once in
    let read : record_at place es ≡ Some dump = sym c.record_at.ensures.record ∙ ap option_copied c.in_ok-dump.was in
    let small : c.args.initial < 2 ^ 32 = omega arith in
    absurd (c.if-initial_of-initial.false (no_other c.args.initial es place c.initial_of.result dump f read c.initial_of.ensures.is c.initial_of.ensures.small small))
