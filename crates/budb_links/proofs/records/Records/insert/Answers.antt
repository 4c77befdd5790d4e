use Rattle.std.proofs.Common.{◌≡◌, ◌<◌, ◌^◌, ◌++◌, ◌∷◌, [], ℕ, List, Option, Some, None, cond, length, sym, ◌∙◌, ap, subst, arith}
use Rattle.std.proofs.lemmas.List.{length-set, length-map}
use Rattle.budb_changes.specs.declared.records.DumpRecordFields.{DumpRecordFields}
use Rattle.std.specs.Int.{w32, to_be_bytes}
use Rattle.bk_text.specs.Blanks.{is_same_text}
use Rattle.budb_links.specs.Chained.{chain_of}
use Rattle.budb_links.specs.Entries.{Entry, Recorded, entry_at, dumps_of, record_of}
use Rattle.budb_links.specs.Keys.{number_of}
use Rattle.budb_links.specs.Stored.{entries_of, Stores}
use Rattle.budb_links.specs.Keyed.{filed_record, filed_records}
use Rattle.budb_links.proofs.Inserting.{Pushed, slot_in, row_in, heads_in, fresh_in, apart_in, some_in, short_in, insert_stores, insert_is}
use Rattle.budb_links.proofs.IdLaws.{unnumbered, numbered_more}
use Rattle.budb_links.proofs.KeyedStoring.{spare_there, fresh_by, short_by, linked_keys, filed_push, filed_apart}
use Rattle.budb_links.proofs.records.Records.insert.Given as given
use Rattle.budb_links.proofs.records.Records.insert.Goals as goal

pub enter-place-requires-clause-absent : goal.enter-place-requires-clause-absent
enter-place-requires-clause-absent g c =
    let same = c.id_of-id.ensures.is in
    let fresh = ap (λ (l : Recorded). record_of c.args.dump.id (dumps_of l.entries)) c.self.view_is ∙ c.requires.fresh in
    let here = subst (λ (n : ℕ). record_of n (dumps_of (entries_of c.self.inside.shelf (chain_of c.self.inside.arena 0 0))) ≡ None) (sym same) fresh in
    unnumbered c.self.inside.ids (length c.self.inside.shelf) (entries_of c.self.inside.shelf (chain_of c.self.inside.arena 0 0)) c.id_of-id.result c.id_of-id.ensures.small c.self.invariant.1 here

pub push-requires-clause-place_in : goal.push-requires-clause-place_in
push-requires-clause-place_in g c = row_in c.self.inside.arena c.self.inside.shelf c.self.inside.ids.spare c.enter-place.new.self.spare c.enter-place.result (entries_of c.self.inside.shelf (chain_of c.self.inside.arena 0 0)) c.self.invariant.0 c.enter-place.ensures.spare

pub push-requires-clause-head_in : goal.push-requires-clause-head_in
push-requires-clause-head_in g c =
    let heads = heads_in c.self.inside.arena c.self.inside.shelf c.self.inside.ids.spare c.enter-place.new.self.spare c.enter-place.result (entries_of c.self.inside.shelf (chain_of c.self.inside.arena 0 0)) c.self.invariant.0 c.enter-place.ensures.spare in
    omega (arith, heads)

pub push-requires-clause-fresh : goal.push-requires-clause-fresh
push-requires-clause-fresh g c = λ other. fresh_in c.self.inside.arena c.self.inside.shelf c.self.inside.ids.spare c.enter-place.new.self.spare c.enter-place.result (entries_of c.self.inside.shelf (chain_of c.self.inside.arena 0 0)) c.self.invariant.0 c.enter-place.ensures.spare other

pub push-requires-clause-few : goal.push-requires-clause-few
push-requires-clause-few g c = short_in c.self.inside.arena c.self.inside.shelf c.self.inside.ids.spare c.enter-place.new.self.spare c.enter-place.result (entries_of c.self.inside.shelf (chain_of c.self.inside.arena 0 0)) c.self.invariant.0 c.enter-place.ensures.spare 0

few_filed : (es : List Entry) {places : ℕ} → length es < places → length (filed_records es) < places
few_filed es some = omega (arith, length-map es filed_record, some)

pub link-requires-clause-room : goal.link-requires-clause-room
link-requires-clause-room g c = λ family h absent.
    let es = entries_of c.self.inside.shelf (chain_of c.self.inside.arena 0 0) in
    let some = some_in c.self.inside.arena c.self.inside.shelf c.self.inside.ids.spare c.enter-place.new.self.spare c.enter-place.result es c.self.invariant.0 c.enter-place.ensures.spare in
    spare_there c.self.inside.keys (length c.self.inside.shelf) (filed_records es) c.self.invariant.2 family h (few_filed es some)

pub link-requires-clause-place_in : goal.link-requires-clause-place_in
link-requires-clause-place_in g c =
    let within = slot_in c.self.inside.arena c.self.inside.shelf c.self.inside.ids.spare c.enter-place.new.self.spare c.enter-place.result (entries_of c.self.inside.shelf (chain_of c.self.inside.arena 0 0)) c.self.invariant.0 c.enter-place.ensures.spare in
    let keys = c.self.invariant.2 in
    omega (arith, within, keys.rows)

pub link-requires-clause-fresh : goal.link-requires-clause-fresh
link-requires-clause-fresh g c = λ family head h.
    let es = entries_of c.self.inside.shelf (chain_of c.self.inside.arena 0 0) in
    let apart = apart_in c.self.inside.arena c.self.inside.shelf c.self.inside.ids.spare c.enter-place.new.self.spare c.enter-place.result es c.self.invariant.0 c.enter-place.ensures.spare in
    fresh_by c.self.inside.keys (length c.self.inside.shelf) (filed_records es) c.self.invariant.2 family h c.enter-place.result head (filed_apart c.enter-place.result es apart)

pub link-requires-clause-few : goal.link-requires-clause-few
link-requires-clause-few g c = λ family head h.
    let es = entries_of c.self.inside.shelf (chain_of c.self.inside.arena 0 0) in
    let some = some_in c.self.inside.arena c.self.inside.shelf c.self.inside.ids.spare c.enter-place.new.self.spare c.enter-place.result es c.self.invariant.0 c.enter-place.ensures.spare in
    short_by c.self.inside.keys (length c.self.inside.shelf) (filed_records es) c.self.invariant.2 family h head (few_filed es some)

pub put-requires : goal.put-requires
put-requires g c = slot_in c.self.inside.arena c.self.inside.shelf c.self.inside.ids.spare c.enter-place.new.self.spare c.enter-place.result (entries_of c.self.inside.shelf (chain_of c.self.inside.arena 0 0)) c.self.invariant.0 c.enter-place.ensures.spare

first : (g : given.Over) (c : goal.After-put g) → Pushed c.self.inside.arena c.push.new.self 0 0 c.enter-place.result c.args.dump.id
first g c =
    let same = c.id_of-id.ensures.is in
    subst
    (Pushed c.self.inside.arena c.push.new.self 0 0 c.enter-place.result)
    same
    (record {
      chain = c.push.ensures.chain;
      others = c.push.ensures.others;
      families = c.push.ensures.families;
      places = c.push.ensures.places;
      heads = c.push.ensures.heads;
    })

entries : (g : given.Over) (c : goal.After-put g) → entries_of c.put.new.self (chain_of c.push.new.self 0 0) ≡ entries_of c.self.inside.shelf (chain_of c.self.inside.arena 0 0) ++ entry_at c.enter-place.result c.args.dump ∷ []
entries g c =
    let fresh = ap (λ (l : Recorded). record_of c.args.dump.id (dumps_of l.entries)) c.self.view_is ∙ c.requires.fresh in
    let made = insert_is c.self.inside.arena c.push.new.self c.self.inside.shelf c.self.inside.ids.spare c.enter-place.new.self.spare c.enter-place.result (entries_of c.self.inside.shelf (chain_of c.self.inside.arena 0 0)) c.self.invariant.0 c.enter-place.ensures.spare c.args.dump fresh (first g c) in
    ap (λ (t : List (Option DumpRecordFields)). entries_of t (chain_of c.push.new.self 0 0)) c.put.ensures.slots ∙ made

pub invariant_of-self : goal.invariant_of-self
invariant_of-self g c =
    let fresh = ap (λ (l : Recorded). record_of c.args.dump.id (dumps_of l.entries)) c.self.view_is ∙ c.requires.fresh in
    let made = insert_stores c.self.inside.arena c.push.new.self c.self.inside.shelf c.self.inside.ids.spare c.enter-place.new.self.spare c.enter-place.result (entries_of c.self.inside.shelf (chain_of c.self.inside.arena 0 0)) c.self.invariant.0 c.enter-place.ensures.spare c.args.dump fresh (first g c) in
    let stores = subst (λ (t : List (Option DumpRecordFields)). Stores c.push.new.self t c.enter-place.new.self.spare (entries_of t (chain_of c.push.new.self 0 0))) (sym c.put.ensures.slots) made in
    let long = ap length c.put.ensures.slots ∙ length-set c.self.inside.shelf c.enter-place.result (Some c.args.dump) in
    let fields = c.fields-fields.ensures.value in
    let es = entries_of c.self.inside.shelf (chain_of c.self.inside.arena 0 0) in
    let es' = entries_of c.put.new.self (chain_of c.push.new.self 0 0) in
    let filed = filed_push es es' c.enter-place.result c.args.dump c.bytes.result.now c.fields-fields.result.now.initial c.id_of-id.result (c.bytes.ensures.value ∙ ap (λ (d : DumpRecordFields). d.set) fields) (ap (λ (d : DumpRecordFields). d.initial) fields) (c.id_of-id.ensures.is) (entries g c) in
    let keys = linked_keys c.self.inside.keys c.link.new.self (length c.self.inside.shelf) (length c.put.new.self) (filed_records es) (filed_records es') c.enter-place.result c.bytes.result.now c.fields-fields.result.now.initial c.id_of-id.result c.self.invariant.2 c.link.ensures.keeps c.link.ensures.chains c.link.ensures.rows c.link.ensures.room long filed in
    let same = c.id_of-id.ensures.is in
    let small = subst (λ (n : ℕ). n < 2 ^ 32) same c.id_of-id.ensures.small in
    let used = subst (λ (n : ℕ). (other : List ℕ) → number_of other c.enter-place.new.self.used ≡ cond (is_same_text (to_be_bytes w32 n) other) (Some c.enter-place.result) (number_of other c.self.inside.ids.used)) same c.enter-place.ensures.used in
    let ids = numbered_more c.self.inside.ids c.enter-place.new.self (length c.self.inside.shelf) (length c.put.new.self) c.enter-place.result es es' c.args.dump c.self.invariant.1 fresh small used c.enter-place.ensures.count long (entries g c) in
    (stores, ids, keys)

pub returns-clause-entries : goal.returns-clause-entries
returns-clause-entries g c =
    (c.enter-place.result, entries g c ∙ ap (λ (l : Recorded). l.entries ++ entry_at c.enter-place.result c.args.dump ∷ []) c.self.view_is)
