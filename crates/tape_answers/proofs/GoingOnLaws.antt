-- The tests of told parts tell exactly which part goes on which.
use Rattle.std.proofs.Common.{◌≡◌, ◌⊎◌, inl, inr, ◌+◌, Bool, true, false, List, refl, sym, ap}
use Rattle.std.specs.Prelude.{Option, Some, None, is_some, IsSome, slice_get}
use Rattle.std.specs.Bool.{Decides}
use Rattle.std.proofs.lemmas.Bool.Decides.{Decides-eqb, Decides-like, Decides-and}
use Rattle.tape_frames.specs.declared.dump_head.DumpHeadFields.{DumpHeadFields}
use Rattle.tape_frames.specs.declared.vol_head.VolHeadFields.{VolHeadFields}
use Rattle.tape_text.specs.Texts.{NextVolume}
use Rattle.tape_text.specs.Wholes.{Agree, next_head}
use Rattle.tape_scan.specs.declared.sections.FragFound.{FragFound}
use Rattle.tape_scan.specs.declared.sections.PartFound.{PartFound}
use Rattle.tape_scan.specs.AssembledSteps.{ToldGoesOn, AreGoneOn, ToldNext, IsEnding, BeginsSo}
use Rattle.tape_scan.specs.Steps.{last_of}
use Rattle.tape_scan.proofs.AssemblingSteps.{none_ends, gone_on, not_gone_on}
use Rattle.tape_answers.specs.GoingOn.{heads_agree, is_next_fragment, goes_on_by, fragment_goes_on, ends_in, fragments_go_on, goes_on, is_ending}
use Rattle.tape_scan.proofs.Deciding.{is_itself, is_off, never, same_text}
use Rattle.tape_scan.proofs.ContinuingLaws.{next_volume}

agree : (a b : DumpHeadFields) → Decides (heads_agree a b) (Agree a b)
unfolding heads_agree
agree a b = Decides-like _
    (λ (p : (b.id ≡ a.id) × ((b.initial ≡ a.initial) × ((b.parent ≡ a.parent) × ((b.expires ≡ a.expires) × ((b.volumes ≡ a.volumes) × ((b.set ≡ a.set) × ((b.level ≡ a.level) × ((b.base ≡ a.base) × (b.cell ≡ a.cell))))))))).
    record { id = p.0; initial = p.1.0; parent = p.1.1.0; expires = p.1.1.1.0; volumes = p.1.1.1.1.0; set = p.1.1.1.1.1.0; level = p.1.1.1.1.1.1.0; base = p.1.1.1.1.1.1.1.0; cell = p.1.1.1.1.1.1.1.1 })
    (λ f. (f.id, (f.initial, (f.parent, (f.expires, (f.volumes, (f.set, (f.level, (f.base, f.cell)))))))))
    (Decides-and _ _ (Decides-eqb b.id a.id) (Decides-and _ _ (Decides-eqb b.initial a.initial) (Decides-and _ _ (Decides-eqb b.parent a.parent) (Decides-and _ _ (Decides-eqb b.expires a.expires) (Decides-and _ _ (Decides-eqb b.volumes a.volumes)
    (Decides-and _ _ (same_text b.set a.set) (Decides-and _ _ (same_text b.level a.level) (Decides-and _ _ (same_text b.base a.base) (same_text b.cell a.cell)))))))))

next_fragment : (a b : VolHeadFields) → Decides (is_next_fragment a b) (b ≡ next_head a)
unfolding is_next_fragment
next_fragment a b = Decides-like _
    (λ (p : (b.dump ≡ a.dump) × ((b.index ≡ a.index) × ((b.fragment ≡ a.fragment + 1) × ((b.volume ≡ a.volume) × ((b.clone ≡ a.clone) × ((b.from ≡ a.from) × ((b.name ≡ a.name) × ((b.server ≡ a.server) × (b.partition ≡ a.partition))))))))).
    (λ i. record { dump = p.0 i; index = p.1.0 i; fragment = p.1.1.0 i; volume = p.1.1.1.0 i; clone = p.1.1.1.1.0 i; from = p.1.1.1.1.1.0 i; name = p.1.1.1.1.1.1.0 i; server = p.1.1.1.1.1.1.1.0 i; partition = p.1.1.1.1.1.1.1.1 i }))
    (λ (e : b ≡ next_head a). (ap (λ (h : VolHeadFields). h.dump) e, (ap (λ (h : VolHeadFields). h.index) e, (ap (λ (h : VolHeadFields). h.fragment) e, (ap (λ (h : VolHeadFields). h.volume) e, (ap (λ (h : VolHeadFields). h.clone) e, (ap (λ (h : VolHeadFields). h.from) e, (ap (λ (h : VolHeadFields). h.name) e, (ap (λ (h : VolHeadFields). h.server) e, ap (λ (h : VolHeadFields). h.partition) e)))))))))
    (Decides-and _ _ (Decides-eqb b.dump a.dump) (Decides-and _ _ (Decides-eqb b.index a.index) (Decides-and _ _ (Decides-eqb b.fragment (a.fragment + 1)) (Decides-and _ _ (Decides-eqb b.volume a.volume) (Decides-and _ _ (Decides-eqb b.clone a.clone) (Decides-and _ _ (Decides-eqb b.from a.from)
    (Decides-and _ _ (same_text b.name a.name) (Decides-and _ _ (same_text b.server a.server) (same_text b.partition a.partition)))))))))

head_on : (o : Option Bool) (a b : VolHeadFields) → Decides (goes_on_by o a b) (((o ≡ Some false) × (b ≡ next_head a)) ⊎ ((o ≡ Some true) × NextVolume a b))
head_on None a b = never no
  where
    no : ((None ≡ Some false) × (b ≡ next_head a)) ⊎ ((None ≡ Some true) × NextVolume a b) → ⊥
    no (inl both) = absurd (let e : None ≡ Some false = both.0 in cc)
    no (inr both) = absurd (let e : None ≡ Some true = both.0 in cc)
head_on (Some false) a b = ((λ e. inl (refl, (next_fragment a b).0 e)), back)
  where
    back : ((Some false ≡ Some false) × (b ≡ next_head a)) ⊎ ((Some false ≡ Some true) × NextVolume a b) → is_next_fragment a b ≡ true
    back (inl both) = (next_fragment a b).1 both.1
    back (inr both) = absurd (let e : Some false ≡ Some true = both.0 in cc)
head_on (Some true) a b = ((λ e. inr (refl, (next_volume a b).0 e)), back)
  where
    back : ((Some true ≡ Some false) × (b ≡ next_head a)) ⊎ ((Some true ≡ Some true) × NextVolume a b) → goes_on_by (Some true) a b ≡ true
    back (inl both) = absurd (let e : Some true ≡ Some false = both.0 in cc)
    back (inr both) = (next_volume a b).1 both.1

fragment_on : (f g : FragFound) → Decides (fragment_goes_on f g) (ToldGoesOn f g)
fragment_on f g = head_on f.last f.head g.head

fragments_on : (fs gs : List FragFound) → Decides (fragments_go_on fs gs) (AreGoneOn fs gs)
fragments_on fs gs = go (last_of fs) (slice_get gs 0) refl refl
  where
    go : (o p : Option FragFound) → last_of fs ≡ o → slice_get gs 0 ≡ p → Decides (ends_in o p) (AreGoneOn fs gs)
    go None p e d = never (none_ends (λ f. BeginsSo (λ g. ToldGoesOn f g) gs) fs (sym e))
    go (Some f) None e d = never (not_gone_on fs gs f (sym e) (sym d))
    go (Some f) (Some g) e d = let both = gone_on fs gs f g (sym e) (sym d) in ((λ on. both.0 ((fragment_on f g).0 on)), (λ on. (fragment_on f g).1 (both.1 on)))

pub next_told : (p q : PartFound) → Decides (goes_on p q) (ToldNext p q)
unfolding goes_on
next_told p q = Decides-like _
    (λ (t : IsSome p.end × (IsSome q.end × ((p.more ≡ true) × (Agree p.head q.head × ((q.head.part ≡ p.head.part + 1) × ((q.head.tape ≡ p.head.tape + 1) × AreGoneOn p.frags q.frags)))))).
    record { closed = t.0; next_closed = t.1.0; more = t.1.1.0; agree = t.1.1.1.0; part = t.1.1.1.1.0; tape = t.1.1.1.1.1.0; goes_on = t.1.1.1.1.1.1 })
    (λ n. (n.closed, (n.next_closed, (n.more, (n.agree, (n.part, (n.tape, n.goes_on)))))))
    (Decides-and _ _ (is_itself (is_some p.end)) (Decides-and _ _ (is_itself (is_some q.end)) (Decides-and _ _ (is_itself p.more) (Decides-and _ _ (agree p.head q.head)
    (Decides-and _ _ (Decides-eqb q.head.part (p.head.part + 1)) (Decides-and _ _ (Decides-eqb q.head.tape (p.head.tape + 1)) (fragments_on p.frags q.frags)))))))

pub ending_told : (p : PartFound) → Decides (is_ending p) (IsEnding p)
unfolding is_ending
ending_told p = Decides-and _ _ (is_itself (is_some p.end)) (is_off p.more)
