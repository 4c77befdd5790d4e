-- Dumps that are added one after the other: what is listed behind them.
use Rattle.std.proofs.Common.{◌≡◌, inl, inr, ℕ, zero, suc, ◌+◌, ◌<◌, ◌≤◌, Bool, true, false, not, List, [], ◌∷◌, ◌++◌, length, refl, sym, ◌∙◌, ap, subst, arith, length-append, append_assoc, append-nil}
use Rattle.std.specs.Prelude.{All, AllPairs, filter, ◌==◌, ◌&&◌, ◌||◌, nat_lt, nat_le, if◌then◌else◌}
use Rattle.std.specs.List.{fold, list_all}
use Rattle.std.proofs.lemmas.Bool.{cases_Bool, cases_lt, or_parts, or_from, and_from}
use Rattle.std.proofs.lemmas.Bool.Decides.{nat_tests}
use Rattle.std.proofs.lemmas.List.{map-append}
use Rattle.std.proofs.lemmas.List.Elements.{All-nil, All-head, All-tail, All-push, All-weaker}
use Rattle.std.proofs.lemmas.List.Folds.{list_any-append}
use Rattle.budb_changes.specs.declared.records.DumpRecordFields.{DumpRecordFields}
use Rattle.budb_changes.specs.declared.change.Change.{Change}
use Rattle.budb_changes.specs.declared.change.Change.TheVariants as change
use Rattle.budb_changes.specs.Bytes.{encoded}
use Rattle.budb_fold.specs.Database.{after, is_dump, has_dump, is_whole, fits_record}
use Rattle.budb_fold.proofs.FoldKeeps.{fit_from}
use Rattle.budb.proofs.Keeping.{encoded_more}
use Rattle.archive_model.proofs.AfterLaws.{recorded_behind}
use Rattle.backup_session.specs.Worlds.{World, before_reply}
use Rattle.backup_session.specs.Turns.{length_with}
use Rattle.backup_replies.specs.declared.refusals.Refusal.TheVariants.{LogFull}
use Rattle.backup_replies.specs.Texts.{refused_number}
use Rattle.backup_session.specs.Scanning.{Step, says, has_wrong_parent, recorded, added, added_if, with_dump, adding}
use Rattle.backup_session.proofs.ScanLaws.{known_is, wrong_is, over_is, free_is}
use Rattle.tape_answers.proofs.ListLaws.{Ascends}
use Rattle.backup_session.specs.Listing.{may_be_listed, found_changes, HasRoom, IsFullAt, IsRoomFor}

-- ---- what may be listed

none_among : (n id : ℕ) (ls : List DumpRecordFields) → n < id → All (λ e. e.id ≤ n) ls → has_dump ls id ≡ false
none_among n id [] lt all = refl
none_among n id (e ∷ ls) lt all =
    let low = All-head (λ (x : DumpRecordFields). x.id ≤ n) e ls all in
    or_from (e.id == id) (has_dump ls id) (grind (arith, nat_tests)) (none_among n id ls lt (All-tail (λ (x : DumpRecordFields). x.id ≤ n) e ls all))

listed_before : (listed ls : List DumpRecordFields) (n id : ℕ) → n < id → All (λ e. e.id ≤ n) ls → has_dump (listed ++ ls) id ≡ has_dump listed id
listed_before listed ls n id lt all = list_any-append (is_dump id) listed ls ∙ ap (λ (b : Bool). has_dump listed id || b) (none_among n id ls lt all) ∙ or_no (has_dump listed id)
  where
    or_no : (b : Bool) → (b || false) ≡ b
    or_no true = refl
    or_no false = refl

below_by : (a b : ℕ) → nat_le a b ≡ false → nat_lt b a ≡ true
below_by a b is = grind (arith, nat_tests)

some_id : (id : ℕ) → 0 < id → not (id == 0) ≡ true
some_id id lt = grind (arith, nat_tests)

-- where there is no parent all volumes are whole
whole_by : (none whole : Bool) → (none && not whole) ≡ false → (if none then whole else true) ≡ true
whole_by true true is = refl
whole_by true false is = absurd (cc)
whole_by false whole is = refl

fits_listed : (d : DumpRecordFields) (listed : List DumpRecordFields) → 0 < d.id → has_dump listed d.id ≡ false → has_wrong_parent d ≡ false → fits_record d listed ≡ true
fits_listed d listed some unknown right =
    let parts = or_parts (nat_le d.id d.parent) ((d.parent == 0) && not (list_all is_whole d.volumes)) right in
    fit_from d listed (record {
      some = some_id d.id some;
      new = ap not unknown;
      above = below_by d.id d.parent parts.0;
      whole = whole_by (d.parent == 0) (list_all is_whole d.volumes) parts.1;
    })

may_be : (listed : List DumpRecordFields) (d : DumpRecordFields) → has_dump listed d.id ≡ false → has_wrong_parent d ≡ false → may_be_listed listed d ≡ true
may_be listed d unknown right = and_from (not (has_dump listed d.id)) (not (has_wrong_parent d)) (ap not unknown) (ap not right)

may_not_known : (listed : List DumpRecordFields) (d : DumpRecordFields) → has_dump listed d.id ≡ true → may_be_listed listed d ≡ false
may_not_known listed d known = ap (λ (b : Bool). not b && not (has_wrong_parent d)) known

may_not_wrong : (listed : List DumpRecordFields) (d : DumpRecordFields) → has_wrong_parent d ≡ true → may_be_listed listed d ≡ false
may_not_wrong listed d wrong = ap (λ (b : Bool). not (has_dump listed d.id) && not b) wrong ∙ and_no (not (has_dump listed d.id))
  where
    and_no : (b : Bool) → (b && false) ≡ false
    and_no true = refl
    and_no false = refl

filter_yes : (p : DumpRecordFields → Bool) (d : DumpRecordFields) (ds : List DumpRecordFields) → p d ≡ true → filter p (d ∷ ds) ≡ d ∷ filter p ds
filter_yes p d ds is = ap (λ (b : Bool). if b then d ∷ filter p ds else filter p ds) is

filter_no : (p : DumpRecordFields → Bool) (d : DumpRecordFields) (ds : List DumpRecordFields) → p d ≡ false → filter p (d ∷ ds) ≡ filter p ds
filter_no p d ds is = ap (λ (b : Bool). if b then d ∷ filter p ds else filter p ds) is

-- ---- so far

-- behind the first of some dumps these are listed, none with an id above this number
record AreListed (w : World) (n : ℕ) (ls : List DumpRecordFields) (s : Step) : Type 0 where
  log : s.turn.log ≡ w.log ++ found_changes ls
  database : (after s.turn.log).listed ≡ (after w.log).listed ++ ls
  room : HasRoom w.log ls
  low : All (λ e. e.id ≤ n) ls

-- of the others so many are listed behind all of them
record Rest (w : World) (ls ds : List DumpRecordFields) (log : List Change) : Type 0 where
  listed : List DumpRecordFields
  more : List DumpRecordFields
  are : filter (may_be_listed (after w.log).listed) ds ≡ listed ++ more
  log_is : log ≡ w.log ++ found_changes (ls ++ listed)
  database : (after log).listed ≡ (after w.log).listed ++ (ls ++ listed)
  room : HasRoom w.log (ls ++ listed)
  full : IsFullAt w.log (ls ++ listed) more

-- none of them
none_more : (w : World) (n : ℕ) (ls ds : List DumpRecordFields) (s : Step) (more : List DumpRecordFields) → AreListed w n ls s → filter (may_be_listed (after w.log).listed) ds ≡ more → IsFullAt w.log ls more → Rest w ls ds s.turn.log
none_more w n ls ds s more so are full =
    let same : ls ≡ ls ++ [] = sym (append-nil ls) in
    record {
      listed = [];
      more = more;
      are = are;
      log_is = so.log ∙ ap (λ (l : List DumpRecordFields). w.log ++ found_changes l) same;
      database = so.database ∙ ap (λ (l : List DumpRecordFields). (after w.log).listed ++ l) same;
      room = subst (HasRoom w.log) same so.room;
      full = subst (λ (l : List DumpRecordFields). IsFullAt w.log l more) same full;
    }

-- one that may not be listed
passed_by : (w : World) (ls ds : List DumpRecordFields) (d : DumpRecordFields) (log : List Change) → may_be_listed (after w.log).listed d ≡ false → Rest w ls ds log → Rest w ls (d ∷ ds) log
passed_by w ls ds d log refused rest = record {
  listed = rest.listed;
  more = rest.more;
  are = filter_no (may_be_listed (after w.log).listed) d ds refused ∙ rest.are;
  log_is = rest.log_is;
  database = rest.database;
  room = rest.room;
  full = rest.full;
}

-- one that is listed
one_listed : (w : World) (ls ds : List DumpRecordFields) (d : DumpRecordFields) (log : List Change) → may_be_listed (after w.log).listed d ≡ true → Rest w (ls ++ d ∷ []) ds log → Rest w ls (d ∷ ds) log
one_listed w ls ds d log may rest =
    let same : (ls ++ d ∷ []) ++ rest.listed ≡ ls ++ d ∷ rest.listed = append_assoc ls (d ∷ []) rest.listed in
    record {
      listed = d ∷ rest.listed;
      more = rest.more;
      are = filter_yes (may_be_listed (after w.log).listed) d ds may ∙ ap (λ (l : List DumpRecordFields). d ∷ l) rest.are;
      log_is = rest.log_is ∙ ap (λ (l : List DumpRecordFields). w.log ++ found_changes l) same;
      database = rest.database ∙ ap (λ (l : List DumpRecordFields). (after w.log).listed ++ l) same;
      room = subst (HasRoom w.log) same rest.room;
      full = subst (λ (l : List DumpRecordFields). IsFullAt w.log l rest.more) same rest.full;
    }

-- ---- a full log

over_step : (w : World) (full : Bool) (d : DumpRecordFields) → full ≡ true → ((added_if w full d).full ≡ true) × ((added_if w full d).turn.log ≡ w.log)
over_step w full d is = elim (cases_Bool (has_dump (after w.log).listed d.id)) [
  | inl known ↦ (ap (λ (s : Step). s.full) (known_is w full d known) ∙ is, ap (λ (s : Step). s.turn.log) (known_is w full d known))
  | inr unknown ↦ elim (cases_Bool (has_wrong_parent d)) [
    | inl wrong ↦ (ap (λ (s : Step). s.full) (wrong_is w full d unknown wrong) ∙ is, ap (λ (s : Step). s.turn.log) (wrong_is w full d unknown wrong))
    | inr right ↦ (ap (λ (s : Step). s.full) (over_is w full d unknown right is), ap (λ (s : Step). s.turn.log) (over_is w full d unknown right is))
  ]
]

stopped : (w : World) (s : Step) (ds : List DumpRecordFields) → s.full ≡ true → (fold (with_dump w) s ds).turn.log ≡ s.turn.log
stopped w s [] full = refl
stopped w s (d ∷ ds) full = (let step = over_step (before_reply w s.turn) s.full d full in stopped w (with_dump w s d) ds step.0 ∙ step.1)

-- ---- one dump

added_over : (w : World) (d : DumpRecordFields) → 268435456 < length_with w (change.Found d ∷ []) → ((added w d).full ≡ true) × ((added w d).turn.log ≡ w.log)
added_over w d over = go (nat_lt 268435456 (length_with w (change.Found d ∷ []))) (grind (arith, nat_tests))
  where
    go : (b : Bool) → b ≡ true → let s = (if b then says w true (refused_number LogFull (length_with w (change.Found d ∷ []))) else record { turn = recorded w d; full = false }) in (s.full ≡ true) × (s.turn.log ≡ w.log)
    go true is = (refl, refl)
    go false is = absurd (cc)

added_with_room : (w : World) (d : DumpRecordFields) → length_with w (change.Found d ∷ []) ≤ 268435456 → ((added w d).full ≡ false) × ((added w d).turn.log ≡ w.log ++ change.Found d ∷ [])
added_with_room w d room = go (nat_lt 268435456 (length_with w (change.Found d ∷ []))) (grind (arith, nat_tests))
  where
    go : (b : Bool) → b ≡ false → let s = (if b then says w true (refused_number LogFull (length_with w (change.Found d ∷ []))) else record { turn = recorded w d; full = false }) in (s.full ≡ false) × (s.turn.log ≡ w.log ++ change.Found d ∷ [])
    go true is = absurd (cc)
    go false is = (refl, refl)

-- a log with the record of one more
pub with_one : (log : List Change) (ls : List DumpRecordFields) (d : DumpRecordFields) → (log ++ found_changes ls) ++ change.Found d ∷ [] ≡ log ++ found_changes (ls ++ d ∷ [])
with_one log ls d = append_assoc log (found_changes ls) (change.Found d ∷ []) ∙ ap (λ (cs : List Change). log ++ cs) (sym (map-append change.Found ls (d ∷ [])))

one_long : (log now : List Change) (ls : List DumpRecordFields) (d : DumpRecordFields) → now ≡ log ++ found_changes ls → length (encoded (log ++ found_changes (ls ++ d ∷ []))) ≡ length (encoded now) + length (encoded (change.Found d ∷ []))
one_long log now ls d is =
    ap (λ (cs : List Change). length (encoded cs)) (sym (ap (λ (cs : List Change). cs ++ change.Found d ∷ []) is ∙ with_one log ls d))
    ∙ ap (λ (bytes : List ℕ). length bytes) (encoded_more now (change.Found d ∷ [])) ∙ length-append (encoded now) (encoded (change.Found d ∷ []))

has_room : (log : List Change) (ls : List DumpRecordFields) (d : DumpRecordFields) → length (encoded (log ++ found_changes (ls ++ d ∷ []))) ≤ 268435456 → HasRoom log (ls ++ d ∷ [])
has_room log [] d room = room
has_room log (l ∷ ls) d room = room

module _ (w : World) where
  now_listed : (n : ℕ) (ls : List DumpRecordFields) (s : Step) (d : DumpRecordFields) → AreListed w n ls s → n < d.id → has_dump (after s.turn.log).listed d.id ≡ has_dump (after w.log).listed d.id
  now_listed n ls s d so lt = ap (λ (l : List DumpRecordFields). has_dump l d.id) so.database ∙ listed_before (after w.log).listed ls n d.id lt so.low

  -- the step of a dump that is passed by
  same_listed : (n : ℕ) (ls : List DumpRecordFields) (s t : Step) → AreListed w n ls s → t.turn.log ≡ s.turn.log → AreListed w n ls t
  same_listed n ls s t so same = record {
    log = same ∙ so.log;
    database = ap (λ (cs : List Change). (after cs).listed) same ∙ so.database;
    room = so.room;
    low = so.low;
  }

  -- and of one that is listed
  next_listed : (n : ℕ) (ls : List DumpRecordFields) (s t : Step) (d : DumpRecordFields) → AreListed w n ls s → n < d.id → fits_record d (after s.turn.log).listed ≡ true → length_with (before_reply w s.turn) (change.Found d ∷ []) ≤ 268435456
      → t.turn.log ≡ s.turn.log ++ change.Found d ∷ [] → AreListed w d.id (ls ++ d ∷ []) t
  next_listed n ls s t d so lt fit room is = record {
    log = is ∙ ap (λ (cs : List Change). cs ++ change.Found d ∷ []) so.log ∙ with_one w.log ls d;
    database = ap (λ (cs : List Change). (after cs).listed) is ∙ recorded_behind s.turn.log (change.Found d) d (inr refl) fit ∙ ap (λ (l : List DumpRecordFields). l ++ d ∷ []) so.database ∙ append_assoc (after w.log).listed ls (d ∷ []);
    room = has_room w.log ls d (omega (arith, room, one_long w.log s.turn.log ls d so.log));
    low = All-push (λ (e : DumpRecordFields). e.id ≤ d.id) ls d (All-weaker (λ (e : DumpRecordFields). e.id ≤ n) (λ (e : DumpRecordFields). e.id ≤ d.id) (λ e le. omega (arith, le, lt)) ls so.low) (omega arith);
  }

  rest_from : (n : ℕ) (ls : List DumpRecordFields) (s : Step) (ds : List DumpRecordFields) → AreListed w n ls s → s.full ≡ false → All (λ d. n < d.id) ds → Ascends (λ d. d.id) ds → Rest w ls ds (fold (with_dump w) s ds).turn.log
  rest_from n ls s [] so free above up = none_more w n ls [] s [] so refl tt
  rest_from n ls s (d ∷ ds) so free above up =
      let here : World = before_reply w s.turn in
      let lt = All-head (λ (x : DumpRecordFields). n < x.id) d ds above in
      let rest_above = All-tail (λ (x : DumpRecordFields). n < x.id) d ds above in
      let known_as = now_listed n ls s d so lt in
      elim (cases_Bool (has_dump (after w.log).listed d.id)) [
        | inl known ↦
            (let step = known_is here s.full d (known_as ∙ known) in
            passed_by w ls ds d _ (may_not_known (after w.log).listed d known)
            (rest_from n ls (with_dump w s d) ds (same_listed n ls s (with_dump w s d) so (ap (λ (t : Step). t.turn.log) step)) (ap (λ (t : Step). t.full) step ∙ free) rest_above up.1))
        | inr unknown ↦ elim (cases_Bool (has_wrong_parent d)) [
          | inl wrong ↦
              (let step = wrong_is here s.full d (known_as ∙ unknown) wrong in
              passed_by w ls ds d _ (may_not_wrong (after w.log).listed d wrong)
              (rest_from n ls (with_dump w s d) ds (same_listed n ls s (with_dump w s d) so (ap (λ (t : Step). t.turn.log) step)) (ap (λ (t : Step). t.full) step ∙ free) rest_above up.1))
          | inr right ↦
              (let step = free_is here s.full d (known_as ∙ unknown) right free in
              let may = may_be (after w.log).listed d unknown right in
              elim (cases_lt 268435456 (length_with here (change.Found d ∷ []))) [
                | inl over ↦
                    (let done = added_over here d over in
                    let end = stopped w (with_dump w s d) ds (ap (λ (t : Step). t.full) step ∙ done.0) ∙ ap (λ (t : Step). t.turn.log) step ∙ done.1 in
                    subst (Rest w ls (d ∷ ds)) (sym end)
                    (none_more w n ls (d ∷ ds) s (d ∷ filter (may_be_listed (after w.log).listed) ds) so (filter_yes (may_be_listed (after w.log).listed) d ds may) (omega (arith, over, one_long w.log s.turn.log ls d so.log))))
                | inr room ↦
                    (let done = added_with_room here d room in
                    let fit = fits_listed d (after s.turn.log).listed (omega (arith, lt)) (known_as ∙ unknown) right in
                    one_listed w ls ds d _ may
                    (rest_from d.id (ls ++ d ∷ []) (with_dump w s d) ds (next_listed n ls s (with_dump w s d) d so lt fit room (ap (λ (t : Step). t.turn.log) step ∙ done.1)) (ap (λ (t : Step). t.full) step ∙ done.0) up.0 up.1))
              ])
        ]
      ]

-- ---- all of them

pub ascends_of : {X : Type 0} (key : X → ℕ) (xs : List X) → AllPairs (λ x y. key x < key y) xs → Ascends key xs
ascends_of key [] pairs = tt
ascends_of key (x ∷ xs) pairs = (
  (λ k d within. pairs zero (suc k) d (omega arith) (omega arith)),
  ascends_of key xs (λ i j d lt within. pairs (suc i) (suc j) d (omega arith) (omega arith)),
)

-- what is listed behind them
pub record Added (w : World) (dumps : List DumpRecordFields) (log : List Change) : Type 0 where
  pub listed : List DumpRecordFields
  pub room : IsRoomFor w.log (filter (may_be_listed (after w.log).listed) dumps) listed
  pub log_is : log ≡ w.log ++ found_changes listed
  pub database : (after log).listed ≡ (after w.log).listed ++ listed

pub adding_lists : (w : World) (dumps : List DumpRecordFields) → All (λ d. 0 < d.id) dumps → AllPairs (λ d e. d.id < e.id) dumps → Added w dumps (adding w dumps).turn.log
unfolding adding
adding_lists w dumps some up =
    let start : Step = says w false [] in
    let rest = rest_from w 0 [] start dumps (record { log = sym (append-nil w.log); database = sym (append-nil (after w.log).listed); room = tt; low = All-nil (λ (e : DumpRecordFields). e.id ≤ 0) }) refl some (ascends_of (λ (d : DumpRecordFields). d.id) dumps up) in
    record {
      listed = rest.listed;
      room = record { more = rest.more; are = rest.are; room = rest.room; full = rest.full };
      log_is = rest.log_is;
      database = rest.database;
    }
