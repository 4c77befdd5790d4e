use Rattle.std.proofs.Common.{◌≡◌, ◌+◌, ◌++◌, ◌∷◌, [], ℕ, List, Option, Some, None, length, refl, sym, ◌∙◌, ap, subst, arith}
use Rattle.std.proofs.lemmas.List.{length-set, length-append}
use Rattle.std.proofs.lemmas.Bool.{cond-true}
use Rattle.std.specs.Prelude.{is_some, IsSome}
use Rattle.budb_changes.specs.declared.records.DumpRecordFields.{DumpRecordFields}
use Rattle.budb_links.specs.Stands.{Among}
use Rattle.budb_links.specs.Chained.{chain_of}
use Rattle.budb_links.specs.Entries.{Recorded, dumps_of, record_of, without_id}
use Rattle.budb_links.specs.Keys.{given_back}
use Rattle.budb_links.specs.Stored.{entries_of, Stores}
use Rattle.budb_links.specs.Keyed.{key_in, filed_records}
use Rattle.budb_links.proofs.Storing.{slot_of, found_record}
use Rattle.budb_links.proofs.Unlinking.{Cut, none_less, found_in_slots, found_in_rows, among_all, agreed, found_value, found_some, unlink_stores, unlink_is}
use Rattle.budb_links.proofs.IdLaws.{found_by, numbered_less}
use Rattle.budb_links.proofs.KeyedStoring.{stands_where, among_keys, unlinked_keys, filed_without}
use Rattle.budb_links.proofs.records.Records.unlink.Given as given
use Rattle.budb_links.proofs.records.Records.unlink.Goals as goal

pub look-row-requires : goal.look-row-requires
look-row-requires g c = found_in_rows c.self.inside.arena c.self.inside.shelf c.self.inside.ids.spare (entries_of c.self.inside.shelf (chain_of c.self.inside.arena 0 0)) c.self.invariant.0 c.args.id c.in-Some.place (found_by c.self.inside.ids (length c.self.inside.shelf) (entries_of c.self.inside.shelf (chain_of c.self.inside.arena 0 0)) c.args.id c.find.result (Some c.in-Some.place) c.self.invariant.1 c.find.ensures.small c.find.ensures.place c.in-Some.is)

pub cut-requires-clause-stands : goal.cut-requires-clause-stands
cut-requires-clause-stands g c =
    let among = among_all c.self.inside.arena c.self.inside.shelf c.self.inside.ids.spare (entries_of c.self.inside.shelf (chain_of c.self.inside.arena 0 0)) c.self.invariant.0 c.args.id c.in-Some.place (found_by c.self.inside.ids (length c.self.inside.shelf) (entries_of c.self.inside.shelf (chain_of c.self.inside.arena 0 0)) c.args.id c.find.result (Some c.in-Some.place) c.self.invariant.1 c.find.ensures.small c.find.ensures.place c.in-Some.is) in
    subst (λ (n : ℕ). Among c.in-Some.place (chain_of c.self.inside.arena 0 n)) (sym (c.look-row.ensures.heads 0 0 among)) among

pub cut-requires-clause-link : goal.cut-requires-clause-link
cut-requires-clause-link g c = c.look-row.ensures.links 0

pub take-taken-requires : goal.take-taken-requires
take-taken-requires g c = found_in_slots c.self.inside.arena c.self.inside.shelf c.self.inside.ids.spare (entries_of c.self.inside.shelf (chain_of c.self.inside.arena 0 0)) c.self.invariant.0 c.args.id c.in-Some.place (found_by c.self.inside.ids (length c.self.inside.shelf) (entries_of c.self.inside.shelf (chain_of c.self.inside.arena 0 0)) c.args.id c.find.result (Some c.in-Some.place) c.self.invariant.1 c.find.ensures.small c.find.ensures.place c.in-Some.is)

first : (g : given.Over) (c : goal.After-unlink_keys g) → Cut c.self.inside.arena c.cut.new.self 0 c.in-Some.place
first g c = record {
  chains = c.cut.ensures.chains;
  families = c.cut.ensures.families;
  places = c.cut.ensures.places;
  heads = c.cut.ensures.heads;
}

spare : (g : given.Over) (c : goal.After-unlink_keys g) → c.leave.new.self.spare ≡ c.self.inside.ids.spare ++ c.in-Some.place ∷ []
spare g c = c.leave.ensures.spare ∙ ap (given_back c.self.inside.ids.spare) (sym c.find.ensures.place ∙ c.in-Some.is)

pub unlink_keys-requires-clause-there : goal.unlink_keys-requires-clause-there
unlink_keys-requires-clause-there g c =
    let some = found_some c.self.inside.arena c.self.inside.shelf c.self.inside.ids.spare (entries_of c.self.inside.shelf (chain_of c.self.inside.arena 0 0)) c.self.invariant.0 c.args.id c.in-Some.place (found_by c.self.inside.ids (length c.self.inside.shelf) (entries_of c.self.inside.shelf (chain_of c.self.inside.arena 0 0)) c.args.id c.find.result (Some c.in-Some.place) c.self.invariant.1 c.find.ensures.small c.find.ensures.place c.in-Some.is) in
    subst IsSome (sym (c.take-taken.ensures.value ∙ some.1)) refl

pub unlink_keys-requires-clause-place_in : goal.unlink_keys-requires-clause-place_in
unlink_keys-requires-clause-place_in g c =
    let within = found_in_slots c.self.inside.arena c.self.inside.shelf c.self.inside.ids.spare (entries_of c.self.inside.shelf (chain_of c.self.inside.arena 0 0)) c.self.invariant.0 c.args.id c.in-Some.place (found_by c.self.inside.ids (length c.self.inside.shelf) (entries_of c.self.inside.shelf (chain_of c.self.inside.arena 0 0)) c.args.id c.find.result (Some c.in-Some.place) c.self.invariant.1 c.find.ensures.small c.find.ensures.place c.in-Some.is) in
    let keys = c.self.invariant.2 in
    omega (arith, within, keys.rows)

pub unlink_keys-requires-clause-stands : goal.unlink_keys-requires-clause-stands
unlink_keys-requires-clause-stands g c = λ family dump h is.
    let stores = c.self.invariant.0 in
    let keys = c.self.invariant.2 in
    let full = sym c.take-taken.ensures.value ∙ is in
    let es = entries_of c.self.inside.shelf (chain_of c.self.inside.arena 0 0) in
    let stands = among_keys family c.in-Some.place dump.set dump.initial (filed_records es) (stands_where c.in-Some.place dump c.self.inside.shelf es stores.holds full (stores.only c.in-Some.place dump full)) in
    subst (Among c.in-Some.place) (sym (keys.chains family (key_in family dump.set dump.initial) h)) stands

entries : (g : given.Over) (c : goal.After-unlink_keys g) → entries_of c.take-taken.new.self (chain_of c.cut.new.self 0 0) ≡ without_id c.args.id (entries_of c.self.inside.shelf (chain_of c.self.inside.arena 0 0))
entries g c =
    let made = unlink_is c.self.inside.arena c.self.inside.shelf c.self.inside.ids.spare (entries_of c.self.inside.shelf (chain_of c.self.inside.arena 0 0)) c.self.invariant.0 c.args.id c.in-Some.place (found_by c.self.inside.ids (length c.self.inside.shelf) (entries_of c.self.inside.shelf (chain_of c.self.inside.arena 0 0)) c.args.id c.find.result (Some c.in-Some.place) c.self.invariant.1 c.find.ensures.small c.find.ensures.place c.in-Some.is) c.cut.new.self (first g c) in
    ap (λ (t : List (Option DumpRecordFields)). entries_of t (chain_of c.cut.new.self 0 0)) c.take-taken.ensures.slots ∙ made

pub invariant_of-self : goal.invariant_of-self
invariant_of-self g c =
    let made = unlink_stores c.self.inside.arena c.self.inside.shelf c.self.inside.ids.spare (entries_of c.self.inside.shelf (chain_of c.self.inside.arena 0 0)) c.self.invariant.0 c.args.id c.in-Some.place (found_by c.self.inside.ids (length c.self.inside.shelf) (entries_of c.self.inside.shelf (chain_of c.self.inside.arena 0 0)) c.args.id c.find.result (Some c.in-Some.place) c.self.invariant.1 c.find.ensures.small c.find.ensures.place c.in-Some.is) c.cut.new.self (first g c) in
    let slots = subst (λ (t : List (Option DumpRecordFields)). Stores c.cut.new.self t (c.self.inside.ids.spare ++ c.in-Some.place ∷ []) (entries_of t (chain_of c.cut.new.self 0 0))) (sym c.take-taken.ensures.slots) made in
    let stores = subst (λ (t : List ℕ). Stores c.cut.new.self c.take-taken.new.self t (entries_of c.take-taken.new.self (chain_of c.cut.new.self 0 0))) (sym (spare g c)) slots in
    let long = ap length c.take-taken.ensures.slots ∙ length-set c.self.inside.shelf c.in-Some.place None in
    let same = agreed c.self.inside.arena c.self.inside.shelf c.self.inside.ids.spare (entries_of c.self.inside.shelf (chain_of c.self.inside.arena 0 0)) c.self.invariant.0 c.args.id c.in-Some.place (found_by c.self.inside.ids (length c.self.inside.shelf) (entries_of c.self.inside.shelf (chain_of c.self.inside.arena 0 0)) c.args.id c.find.result (Some c.in-Some.place) c.self.invariant.1 c.find.ensures.small c.find.ensures.place c.in-Some.is) in
    let es = entries_of c.self.inside.shelf (chain_of c.self.inside.arena 0 0) in
    let es' = entries_of c.take-taken.new.self (chain_of c.cut.new.self 0 0) in
    let filed = ap filed_records (entries g c) ∙ filed_without c.args.id c.in-Some.place es same in
    let ids = numbered_less c.self.inside.ids c.leave.new.self (length c.self.inside.shelf) (length c.take-taken.new.self) c.args.id es es' c.self.invariant.1 c.find.ensures.small c.leave.ensures.used c.leave.ensures.count long (entries g c) in
    let keys = unlinked_keys c.self.inside.keys c.unlink_keys.new.keys (length c.self.inside.shelf) (length c.take-taken.new.self) (filed_records es) (filed_records es') c.in-Some.place c.self.invariant.2 c.unlink_keys.ensures.keeps c.unlink_keys.ensures.chains c.unlink_keys.ensures.rows c.unlink_keys.ensures.room long filed in
    (stores, ids, keys)

pub returns-in-None-clause-record : goal.returns-in-None-clause-record
returns-in-None-clause-record g c =
    let stores = c.self.invariant.0 in
    let found = found_record c.self.inside.ids c.self.inside.shelf (length c.self.inside.shelf) (entries_of c.self.inside.shelf (chain_of c.self.inside.arena 0 0)) c.args.id c.find.ensures.small c.self.invariant.1 stores.holds in
    ap (slot_of c.self.inside.shelf) (sym c.in-None.is ∙ c.find.ensures.place) ∙ found ∙ ap (λ (l : Recorded). record_of c.args.id (dumps_of l.entries)) c.self.view_is

pub returns-in-None-clause-entries : goal.returns-in-None-clause-entries
returns-in-None-clause-entries g c =
    let less = none_less c.self.inside.arena c.self.inside.shelf c.self.inside.ids.spare (entries_of c.self.inside.shelf (chain_of c.self.inside.arena 0 0)) c.self.invariant.0 c.args.id (found_by c.self.inside.ids (length c.self.inside.shelf) (entries_of c.self.inside.shelf (chain_of c.self.inside.arena 0 0)) c.args.id c.find.result None c.self.invariant.1 c.find.ensures.small c.find.ensures.place c.in-None.is) in
    rw (← c.self.view_is) less

pub returns-in-Some-clause-record : goal.returns-in-Some-clause-record
returns-in-Some-clause-record g c =
    let value = found_value c.self.inside.arena c.self.inside.shelf c.self.inside.ids.spare (entries_of c.self.inside.shelf (chain_of c.self.inside.arena 0 0)) c.self.invariant.0 c.args.id c.in-Some.place (found_by c.self.inside.ids (length c.self.inside.shelf) (entries_of c.self.inside.shelf (chain_of c.self.inside.arena 0 0)) c.args.id c.find.result (Some c.in-Some.place) c.self.invariant.1 c.find.ensures.small c.find.ensures.place c.in-Some.is) in
    c.take-taken.ensures.value ∙ value ∙ ap (λ (l : Recorded). record_of c.args.id (dumps_of l.entries)) c.self.view_is

pub returns-in-Some-clause-entries : goal.returns-in-Some-clause-entries
returns-in-Some-clause-entries g c = entries g c ∙ ap (λ (l : Recorded). without_id c.args.id l.entries) c.self.view_is

pub returns-in-Some-clause-spare : goal.returns-in-Some-clause-spare
returns-in-Some-clause-spare g c =
    let some = found_some c.self.inside.arena c.self.inside.shelf c.self.inside.ids.spare (entries_of c.self.inside.shelf (chain_of c.self.inside.arena 0 0)) c.self.invariant.0 c.args.id c.in-Some.place (found_by c.self.inside.ids (length c.self.inside.shelf) (entries_of c.self.inside.shelf (chain_of c.self.inside.arena 0 0)) c.args.id c.find.result (Some c.in-Some.place) c.self.invariant.1 c.find.ensures.small c.find.ensures.place c.in-Some.is) in
    let taken = ap (is_some {T = DumpRecordFields}) (c.take-taken.ensures.value ∙ some.1) in
    let long = ap length (spare g c) ∙ length-append c.self.inside.ids.spare (c.in-Some.place ∷ []) in
    let seen = ap (λ (l : Recorded). l.spare_records) c.self.view_is in
    long ∙ ap (λ (n : ℕ). n + 1) seen ∙ sym (cond-true (is_some c.take-taken.result) (c.args.self.now.spare_records + 1) c.args.self.now.spare_records taken)
