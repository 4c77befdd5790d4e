use Rattle.std.proofs.Common.{◌≡◌, ℕ, List, length, refl, ◌∙◌, ap}
use Rattle.std.specs.Prelude.{Result, Ok, Err, OnErr}
use Rattle.budb_links.specs.Entries.{Recorded}
use Rattle.budb_links.specs.Frags.{Placed}
use Rattle.budb_links.specs.Linked.{Linked}
use Rattle.budb_links.specs.Filing.{frags_in}
use Rattle.budb_links.proofs.FragRecords.{roomier_frags}
use Rattle.budb_links.proofs.links.Links.reserve.Goals as goal

on_err : {T E P : Type 0} (r : Result T E) → P → OnErr r P
on_err (Ok x) p = tt
on_err (Err e) p = p

abbrev seen : Recorded → List Placed → ℕ → Linked
seen records frags spare = record { entries = records.entries; frags = frags; spare_records = records.spare_records; spare_frags = spare }

same_seen : (a b : Recorded) (ps qs : List Placed) (m n : ℕ) → a ≡ b → ps ≡ qs → m ≡ n → seen a ps m ≡ seen b qs n
same_seen a b ps qs m n h k l =
    ap (λ (r : Recorded). seen r ps m) h ∙ ap (λ (t : List Placed). seen b t m) k ∙ ap (seen b qs) l

pub invariant_of-self : goal.invariant_of-self
invariant_of-self c =
    let frags = c.self.inside.frags in
    let es = c.self.inside.records.entries in
    let k = roomier_frags frags c.prepare.new.self es es c.self.invariant (c.prepare.ensures.files (frags_in frags.keys es) c.self.invariant.files) refl in
    k.keeps

pub returns-in_err-prepare-clause-frags : goal.returns-in_err-prepare-clause-frags
returns-in_err-prepare-clause-frags c =
    let frags = c.self.inside.frags in
    let es = c.self.inside.records.entries in
    let k = roomier_frags frags c.prepare.new.self es es c.self.invariant (c.prepare.ensures.files (frags_in frags.keys es) c.self.invariant.files) refl in
    k.same ∙ ap (λ (l : Linked). l.frags) c.self.view_is

pub returns-in_err-prepare-clause-err : goal.returns-in_err-prepare-clause-err
returns-in_err-prepare-clause-err c =
    let frags = c.self.inside.frags in
    let records = c.self.inside.records in
    let es = records.entries in
    let k = roomier_frags frags c.prepare.new.self es es c.self.invariant (c.prepare.ensures.files (frags_in frags.keys es) c.self.invariant.files) refl in
    on_err c.from_residual.result (same_seen records records (frags_in c.prepare.new.self.keys es) (frags_in frags.keys es) (length c.prepare.new.self.free.items) (length frags.free.items) refl k.same (ap length c.prepare.ensures.free) ∙ c.self.view_is)

pub invariant_of-self-in_err-reserve : goal.invariant_of-self-in_err-reserve
invariant_of-self-in_err-reserve c =
    let frags = c.self.inside.frags in
    let es = c.self.inside.records.entries in
    let k = roomier_frags frags c.prepare.new.self es c.reserve.new.self.entries c.self.invariant (c.prepare.ensures.files (frags_in frags.keys es) c.self.invariant.files) c.reserve.ensures.entries in
    k.keeps

pub returns-in_err-reserve-clause-frags : goal.returns-in_err-reserve-clause-frags
returns-in_err-reserve-clause-frags c =
    let frags = c.self.inside.frags in
    let es = c.self.inside.records.entries in
    let k = roomier_frags frags c.prepare.new.self es c.reserve.new.self.entries c.self.invariant (c.prepare.ensures.files (frags_in frags.keys es) c.self.invariant.files) c.reserve.ensures.entries in
    k.same ∙ ap (λ (l : Linked). l.frags) c.self.view_is

pub returns-in_err-reserve-clause-err : goal.returns-in_err-reserve-clause-err
returns-in_err-reserve-clause-err c =
    let frags = c.self.inside.frags in
    let records = c.self.inside.records in
    let es = records.entries in
    let k = roomier_frags frags c.prepare.new.self es c.reserve.new.self.entries c.self.invariant (c.prepare.ensures.files (frags_in frags.keys es) c.self.invariant.files) c.reserve.ensures.entries in
    on_err c.from_residual-in_err-reserve.result (same_seen c.reserve.new.self records (frags_in c.prepare.new.self.keys c.reserve.new.self.entries) (frags_in frags.keys es) (length c.prepare.new.self.free.items) (length frags.free.items) c.in_err-reserve.ensures.err k.same (ap length c.prepare.ensures.free) ∙ c.self.view_is)

pub invariant_of-self-2 : goal.invariant_of-self-2
invariant_of-self-2 c =
    let frags = c.self.inside.frags in
    let es = c.self.inside.records.entries in
    let ps = frags_in frags.keys es in
    let k = roomier_frags frags c.widen.new.self es c.reserve.new.self.entries c.self.invariant (c.widen.ensures.files ps (c.prepare.ensures.files ps c.self.invariant.files)) c.reserve.ensures.entries in
    k.keeps

pub returns-clause-frags : goal.returns-clause-frags
returns-clause-frags c =
    let frags = c.self.inside.frags in
    let es = c.self.inside.records.entries in
    let ps = frags_in frags.keys es in
    let k = roomier_frags frags c.widen.new.self es c.reserve.new.self.entries c.self.invariant (c.widen.ensures.files ps (c.prepare.ensures.files ps c.self.invariant.files)) c.reserve.ensures.entries in
    k.same ∙ ap (λ (l : Linked). l.frags) c.self.view_is
