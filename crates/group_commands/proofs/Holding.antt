-- What a group is behind a dump that is held and behind a kill.
use Rattle.std.proofs.Common.{zero, suc, ◌≡◌, ◌≢◌, ℕ, ◌+◌, ◌<◌, ◌≤◌, Bool, true, false, Option, Some, None, List, [], ◌∷◌, ◌++◌, length, refl, sym, ap, subst, ◌∙◌, arith, inl, inr, length-append}
use Rattle.std.specs.Prelude.{if◌then◌else◌, ◌==◌, ◌-◌, ◌&&◌, ◌||◌, nat_le, slice_get, codes, Result, Ok, Err, IfOk}
use Rattle.std.specs.List.{list_any}
use Rattle.std.proofs.lemmas.Bool.{eq-eqb, leb-false}
use Rattle.backup_words.specs.declared.command.DumpCommand.{DumpCommand}
use Rattle.backup_replies.specs.declared.refusals.Refusal.TheVariants.{BadOption, BadValue, PortBusy, GroupFull}
use Rattle.backup_replies.specs.Texts.{refused_word, refused_number, ok_line}
use Rattle.backup_replies.specs.Groups.{held_line}
use Rattle.job_pool.specs.declared.turn.Kill.{Kill}
use Rattle.group_commands.specs.Groups.{GroupView, IsHeld, IsGroup, is_to_port, barred_option, room_refusal, hold_refusal, Told, held_or, hold, kill}
use Rattle.group_commands.proofs.Jobs.{get_more}

-- ---- a group that was opened

pub opened_is_group : (schedule : ℕ) (held : List DumpCommand) (kills : List Kill) → held ≡ [] → IsGroup (record { schedule = schedule; held = held; kills = kills })
opened_is_group schedule held kills none =
    let empty : IsGroup (record { schedule = schedule; held = []; kills = kills }) = record { few = omega arith; each = λ n a at. absurd (cc); ports = λ n k a b at_n at_k other. absurd (cc) } in
    subst (λ (l : List DumpCommand). IsGroup (record { schedule = schedule; held = l; kills = kills })) (sym none) empty

-- it is of the dumps alone
pub same_held : (g h : GroupView) → h.held ≡ g.held → IsGroup g → IsGroup h
same_held g h same is = record {
  few = subst (λ (l : List DumpCommand). length l ≤ 16) (sym same) is.few;
  each = subst (λ (l : List DumpCommand). (n : ℕ) (a : DumpCommand) → slice_get l n ≡ Some a → IsHeld a) (sym same) is.each;
  ports = subst (λ (l : List DumpCommand). (n k : ℕ) (a b : DumpCommand) → slice_get l n ≡ Some a → slice_get l k ≡ Some b → n ≢ k → a.offset ≢ b.offset) (sym same) is.ports;
}

-- ---- a dump that nothing refuses

split_if : (b : Bool) (x : List ℕ) (rest : Option (List ℕ)) → (if b then Some x else rest) ≡ None → (b ≡ false) × (rest ≡ None)
split_if true x rest is = absurd (cc)
split_if false x rest is = (refl, is)

none_barred : (g : GroupView) (a : DumpCommand) (o : Option (List ℕ)) → hold_refusal g a o ≡ None → (o ≡ None) × (room_refusal g a ≡ None)
none_barred g a None is = (refl, is)
none_barred g a (Some word) is = absurd (let e : Some (refused_word BadOption word) ≡ None = is in cc)

or_false : (p q : Bool) → (p || q) ≡ false → (p ≡ false) × (q ≡ false)
or_false true q is = absurd (cc)
or_false false q is = (refl, is)

none_there : (offset : ℕ) (held : List DumpCommand) (n : ℕ) (b : DumpCommand) → list_any (is_to_port offset) held ≡ false → slice_get held n ≡ Some b → b.offset ≡ offset → ⊥
none_there offset [] n b none at same = absurd (cc)
none_there offset (x ∷ held) zero b none at same =
    let it : x ≡ b = cc in
    let hit : (x.offset == offset) ≡ true = eq-eqb x.offset offset (ap (λ (y : DumpCommand). y.offset) it ∙ same) in
    let e : true ≡ false = sym hit ∙ (or_false (is_to_port offset x) (list_any (is_to_port offset) held) none).0 in
    absurd (cc)
none_there offset (x ∷ held) (suc n) b none at same = none_there offset held n b (or_false (is_to_port offset x) (list_any (is_to_port offset) held) none).1 at same

-- what lets a dump be held
record MayHold (g : GroupView) (a : DumpCommand) : Type 0 where
  its : IsHeld a
  free : list_any (is_to_port a.offset) g.held ≡ false
  few : length g.held < 16

may_hold : (g : GroupView) (a : DumpCommand) → hold_refusal g a (barred_option a) ≡ None → MayHold g a
may_hold g a is =
    let one = none_barred g a (barred_option a) is in
    let fresh = split_if a.append (codes "-append") (if a.trial then Some (codes "-n") else None) one.0 in
    let real = split_if a.trial (codes "-n") None fresh.1 in
    let free = split_if (list_any (is_to_port a.offset) g.held) (refused_number PortBusy a.offset) (if nat_le 16 (length g.held) then Some (refused_number GroupFull 16) else None) one.1 in
    let few = split_if (nat_le 16 (length g.held)) (refused_number GroupFull 16) None free.1 in
    record { its = record { fresh = fresh.0; real = real.0 }; free = free.0; few = leb-false 16 (length g.held) few.0 }

-- A group stays one with a dump that nothing refuses.
pub held_is_group : (g h : GroupView) (a : DumpCommand) → IsGroup g → hold_refusal g a (barred_option a) ≡ None → h.held ≡ g.held ++ a ∷ [] → IsGroup h
held_is_group g h a is none same = same_held (record g { held = g.held ++ a ∷ [] }) h same (record {
  few = (let few = may.few in let more : length (g.held ++ a ∷ []) ≡ length g.held + length (a ∷ []) = length-append g.held (a ∷ []) in omega (arith, few, more));
  each = λ n b at. elim (get_more g.held a n b at) [
    | inl old ↦ is.each n b old.1
    | inr new ↦ subst (λ (x : DumpCommand). IsHeld x) new.1 may.its
  ];
  ports = λ n k b c at_n at_k other. elim (get_more g.held a n b at_n) [
    | inl old ↦ elim (get_more g.held a k c at_k) [
      | inl also ↦ is.ports n k b c old.1 also.1 other
      | inr new ↦ λ equal. none_there a.offset g.held n b may.free old.1 (equal ∙ sym (ap (λ (x : DumpCommand). x.offset) new.1))
    ]
    | inr new ↦ elim (get_more g.held a k c at_k) [
      | inl old ↦ λ equal. none_there a.offset g.held k c may.free old.1 (sym equal ∙ sym (ap (λ (x : DumpCommand). x.offset) new.1))
      | inr also ↦ absurd (other (new.0 ∙ sym also.0))
    ]
  ];
})
  where
    may : MayHold g a
    may = may_hold g a none

-- ---- what is told

pub hold_held : (g : GroupView) (a : DumpCommand) → hold_refusal g a (barred_option a) ≡ None → hold g a ≡ record { group = record g { held = g.held ++ a ∷ [] }; text = held_line (length g.held + 1) }
unfolding hold
hold_held g a none = ap (held_or g a) none

pub hold_refused : (g : GroupView) (a : DumpCommand) (text : List ℕ) → hold_refusal g a (barred_option a) ≡ Some text → hold g a ≡ record { group = g; text = text }
unfolding hold
hold_refused g a text is = ap (held_or g a) is

pub kill_there : (g : GroupView) (job after : ℕ) → (nat_le 1 job && nat_le job (length g.held)) ≡ true → kill g job after ≡ record { group = record g { kills = g.kills ++ record { job = job - 1; after = after } ∷ [] }; text = ok_line }
unfolding kill
kill_there g job after is = rw is refl

pub kill_nowhere : (g : GroupView) (job after : ℕ) → (nat_le 1 job && nat_le job (length g.held)) ≡ false → kill g job after ≡ record { group = g; text = refused_word BadValue (codes "-job") }
unfolding kill
kill_nowhere g job after is = rw is refl

abbrev pub told : GroupView → List ℕ → Told
told g text = record { group = g; text = text }

pub told_held : (g now : GroupView) (a : DumpCommand) (held : List DumpCommand) (text : List ℕ) → g ≡ now → hold_refusal now a (barred_option a) ≡ None → held ≡ g.held ++ a ∷ [] → text ≡ held_line (length g.held + 1)
    → told (record g { held = held }) text ≡ hold now a
told_held g now a held text is none same line =
    let here : hold_refusal g a (barred_option a) ≡ None = subst (λ (v : GroupView). hold_refusal v a (barred_option a) ≡ None) (sym is) none in
    ap (λ (l : List DumpCommand). told (record g { held = l }) text) same ∙ ap (told (record g { held = g.held ++ a ∷ [] })) line ∙ sym (hold_held g a here) ∙ ap (λ (v : GroupView). hold v a) is

pub told_killed : (g now : GroupView) (job after : ℕ) (kills : List Kill) (text : List ℕ) → g ≡ now → (nat_le 1 job && nat_le job (length g.held)) ≡ true → kills ≡ g.kills ++ record { job = job - 1; after = after } ∷ [] → text ≡ ok_line
    → told (record g { kills = kills }) text ≡ kill now job after
told_killed g now job after kills text is there same line =
    ap (λ (l : List Kill). told (record g { kills = l }) text) same ∙ ap (told (record g { kills = g.kills ++ record { job = job - 1; after = after } ∷ [] })) line ∙ sym (kill_there g job after there) ∙ ap (λ (v : GroupView). kill v job after) is

pub told_nowhere : (g now : GroupView) (job after : ℕ) (text : List ℕ) → g ≡ now → (nat_le 1 job && nat_le job (length g.held)) ≡ false → text ≡ refused_word BadValue (codes "-job") → told now text ≡ kill now job after
told_nowhere g now job after text is nowhere line =
    ap (λ (v : GroupView). told v text) (sym is) ∙ ap (told g) line ∙ sym (kill_nowhere g job after nowhere) ∙ ap (λ (v : GroupView). kill v job after) is

pub nowhere_told : {E : Type 0} (g now : GroupView) (job after : ℕ) (r : Result (List ℕ) E) → g ≡ now → (nat_le 1 job && nat_le job (length g.held)) ≡ false → IfOk r (λ line. line ≡ refused_word BadValue (codes "-job")) → IfOk r (λ text. told now text ≡ kill now job after)
nowhere_told g now job after (Ok text) is nowhere line = told_nowhere g now job after text is nowhere line
nowhere_told g now job after (Err e) is nowhere line = tt
