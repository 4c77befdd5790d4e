-- EFFECTS THAT LEAD FROM ONE WORLD TO ANOTHER, while the plant holds the archive, with what the dumps have behind so many of them.
use Rattle.std.proofs.Common.{◌≡◌, inl, inr, ℕ, ◌-◌, ◌<◌, ◌≤◌, List, [], ◌∷◌, ◌++◌, length, take, refl, sym, ap, subst, ◌∙◌, arith}
use Rattle.std.proofs.lemmas.Bool.{cases_lt}
use Rattle.std.proofs.lemmas.List.{append_assoc, take-append-le}
use Rattle.plant_core.specs.Crashes.{State}
use Rattle.plant_core.specs.Effects.{Effect, tells, come}
use Rattle.plant_effects.proofs.States.{come_append}
use Rattle.tape_answers.specs.Slots.{slots_of}
use Rattle.budb_changes.specs.declared.change.Change.{Change}
use Rattle.budb_changes.specs.declared.records.DumpRecordFields.{DumpRecordFields}
use Rattle.budb_fold.specs.Database.{after}
use Rattle.archive_model.specs.Settled.{HoldsSettled}
use Rattle.archive_model.specs.Turns.{StillHeld}
use Rattle.dump_forms.specs.Journals.{IsJournalAfter}
use Rattle.dump_forms.proofs.JournalLaws.{journal_joined}
use Rattle.dump_archives.specs.Keeping.{HeadsUpTo, KnowsIds}
use Rattle.backup_session.specs.Worlds.{World, Turn, Setting, Contents, archive_of, before_reply, with_told, after_turn, at_moment}
use Rattle.backup_session.proofs.Settling.{settled_told}
use Rattle.session_archives.specs.Held.{HoldsAfter, HoldsOnTheWay, KeepsListed, EachKeepsListed}
use Rattle.session_archives.proofs.Lists.{taken_behind, got_first, got_second}
use Rattle.session_archives.proofs.Keeping.{Keeps, kept_after, keeps_journal}
use Rattle.session_archives.proofs.Knowing.{AddsNoHead, known_at, known_behind}
use Rattle.session_archives.proofs.Effects.{told_at}
use Rattle.session_archives.proofs.Staying.{kept_step}
use Rattle.session_archives.proofs.Kept.{TurnKeeps, Finds, finds_behind}

-- On the way of these effects the plant holds the archive; behind them stands a world of the same setting, whose journal is theirs.
pub record Leads (w : World) (contents : ℕ → Contents) (es : List Effect) (v : World) : Type 0 where
  pub way : HoldsOnTheWay w contents es
  pub listed : EachKeepsListed w es
  pub journal : IsJournalAfter w.log es v.log
  pub state : v.state ≡ come es w.state
  pub setting : v.setting ≡ w.setting
  pub finds : Finds v
  pub ids : KnowsIds (archive_of w) → KnowsIds (archive_of v)

-- before the reply of a turn, with what the dumps have behind it
abbrev pub LeadsTurn : World → Turn → Type 0
LeadsTurn w t = Leads w (λ count. t.contents) t.effects (before_reply w t)

-- ---- one behind the other

abbrev HoldsIn : Setting → Contents → List Change → State → List DumpRecordFields → Type 0
HoldsIn x contents log s records = HoldsSettled s (record { log = log; slots = slots_of x.slots x.present s.tape; contents = contents }) records

-- the same archive, of equals
holds_moved : (x y : Setting) (c d : Contents) (log : List Change) (s t : State) (records : List DumpRecordFields) → x ≡ y → c ≡ d → s ≡ t → HoldsIn x c log s records → HoldsIn y d log t records
holds_moved x y c d log s t records settings contents states held =
    subst (λ (z : Setting). HoldsIn z d log t records) settings (subst (λ (e : Contents). HoldsIn x e log t records) contents (subst (λ (u : State). HoldsIn x c log u records) states held))

abbrev KnowsIn : Setting → List Change → State → Type 0
KnowsIn x log s = HeadsUpTo (after log).greatest (slots_of x.slots x.present s.tape)

known_moved : (x y : Setting) (log : List Change) (s t : State) → x ≡ y → s ≡ t → KnowsIn x log s → KnowsIn y log t
known_moved x y log s t settings states known = subst (λ (z : Setting). KnowsIn z log t) settings (subst (λ (u : State). KnowsIn x log u) states known)

abbrev StillIn : Setting → List DumpRecordFields → State → State → Type 0
StillIn x listed s t = StillHeld listed (slots_of x.slots x.present s.tape) (slots_of x.slots x.present t.tape)

still_moved : (x y : Setting) (listed : List DumpRecordFields) (s t u v : State) → x ≡ y → s ≡ u → t ≡ v → StillIn x listed s t → StillIn y listed u v
still_moved x y listed s t u v settings first second still =
    subst (λ (z : Setting). StillIn z listed u v) settings (subst (λ (r : State). StillIn x listed u r) second (subst (λ (r : State). StillIn x listed r t) first still))

module _ (w v : World) (es : List Effect) (journal : IsJournalAfter w.log es v.log) (state : v.state ≡ come es w.state) (setting : v.setting ≡ w.setting) (ids : KnowsIds (archive_of w) → KnowsIds (archive_of v)) where
  come_from : (fs : List Effect) → come fs v.state ≡ come (es ++ fs) w.state
  come_from fs = ap (come fs) state ∙ sym (come_append es fs w.state)

  -- behind effects of the second world
  held_behind : (c : Contents) (fs : List Effect) → HoldsAfter v c fs → HoldsAfter w c (es ++ fs)
  held_behind c fs held = record {
    changes = held.changes;
    journal = journal_joined w.log v.log held.changes es fs journal held.journal;
    records = held.records;
    holds = holds_moved v.setting w.setting c c held.changes (come fs v.state) (come (es ++ fs) w.state) held.records setting refl (come_from fs) held.holds;
    ids = λ known. known_moved v.setting w.setting held.changes (come fs v.state) (come (es ++ fs) w.state) setting (come_from fs) (held.ids (ids known));
  }

  listed_behind : (fs : List Effect) (e : Effect) → KeepsListed v fs e → KeepsListed w (es ++ fs) e
  listed_behind fs e keeps =
      let flat : (es ++ fs) ++ e ∷ [] ≡ es ++ (fs ++ e ∷ []) = append_assoc es fs (e ∷ []) in
      record {
        changes = keeps.changes;
        journal = subst (λ (l : List Effect). IsJournalAfter w.log l keeps.changes) (sym flat) (journal_joined w.log v.log keeps.changes es (fs ++ e ∷ []) journal keeps.journal);
        still = still_moved v.setting w.setting _ (come fs v.state) (come (fs ++ e ∷ []) v.state) (come (es ++ fs) w.state) (come ((es ++ fs) ++ e ∷ []) w.state) setting (come_from fs)
            (come_from (fs ++ e ∷ []) ∙ ap (λ (l : List Effect). come l w.state) (sym flat)) keeps.still;
      }

-- behind all of the effects, with the contents of the world there
pub leads_whole : (w v : World) (contents : ℕ → Contents) (es : List Effect) → Leads w contents es v → HoldsAfter w v.contents es
leads_whole w v contents es leads = record {
  changes = v.log;
  journal = leads.journal;
  records = leads.finds.holds.0;
  holds = holds_moved v.setting w.setting v.contents v.contents v.log v.state (come es w.state) leads.finds.holds.0 leads.setting refl leads.state leads.finds.holds.1;
  ids = λ known. known_moved v.setting w.setting v.log v.state (come es w.state) leads.setting leads.state (leads.ids known);
}

-- The contents of both are those of the first up to its end, and those of the second behind that.
pub leads_then : (w v u : World) (es fs : List Effect) (first second both : ℕ → Contents) → ((count : ℕ) → count ≤ length es → both count ≡ first count) → ((count : ℕ) → length es < count → both count ≡ second (count - length es))
    → Leads w first es v → Leads v second fs u → Leads w both (es ++ fs) u
leads_then w v u es fs first second both near far one two = record {
  way = way;
  listed = listed;
  journal = journal_joined w.log v.log u.log es fs one.journal two.journal;
  state = two.state ∙ come_from w v es one.journal one.state one.setting one.ids fs;
  setting = two.setting ∙ one.setting;
  finds = two.finds;
  ids = λ known. two.ids (one.ids known);
}
  where
    way : HoldsOnTheWay w both (es ++ fs)
    way count = elim (cases_lt (length es) count) [
      | inl past ↦
          let held = held_behind w v es one.journal one.state one.setting one.ids (second (count - length es)) (take (count - length es) fs) (two.way (count - length es)) in
          subst (λ (l : List Effect). HoldsAfter w (both count) l) (sym (taken_behind es fs count (omega (arith, past)))) (subst (λ (c : Contents). HoldsAfter w c (es ++ take (count - length es) fs)) (sym (far count past)) held)
      | inr within ↦ subst (λ (l : List Effect). HoldsAfter w (both count) l) (sym (take-append-le count es fs within)) (subst (λ (c : Contents). HoldsAfter w c (take count es)) (sym (near count within)) (one.way count))
    ]

    listed : EachKeepsListed w (es ++ fs)
    listed count e at = elim (cases_lt count (length es)) [
      | inl within ↦ subst (λ (l : List Effect). KeepsListed w l e) (sym (take-append-le count es fs (omega (arith, within)))) (one.listed count e (got_first es fs count e within at))
      | inr past ↦ subst (λ (l : List Effect). KeepsListed w l e) (sym (taken_behind es fs count past))
          (listed_behind w v es one.journal one.state one.setting one.ids (take (count - length es) fs) e (two.listed (count - length es) e (got_second es fs count e past at)))
    ]

-- ---- effects that bring no dump

leads_kept : (w v : World) (es : List Effect) → Keeps w.setting.slots w.setting.present w.contents w.log w.state es v.log → v.state ≡ come es w.state → v.setting ≡ w.setting → v.contents ≡ w.contents → Finds v → AddsNoHead w.log es v.log → Leads w (λ count. v.contents) es v
leads_kept w v es keeps state setting contents finds adds = record {
  way = λ count.
      (let k = kept_after w.setting.slots w.setting.present w.contents count es w.state w.log v.log keeps in
      subst (λ (c : Contents). HoldsAfter w c (take count es)) (sym contents) (record {
        changes = k.0;
        journal = k.1;
        records = k.2.0;
        holds = k.2.1;
        ids = known_at w.setting.slots w.setting.present count es w.state w.log v.log k.0 adds k.1;
      }));
  listed = λ count e at.
      (let k = kept_step w.setting.slots w.setting.present w.contents count es w.state w.log v.log keeps e at in
      record { changes = k.0; journal = k.1; still = k.2 });
  journal = keeps_journal w.setting.slots w.setting.present w.contents es w.state w.log v.log keeps;
  state = state;
  setting = setting;
  finds = finds;
  ids = λ known. known_moved w.setting v.setting v.log (come es w.state) v.state (sym setting) (sym state)
      (known_behind w.setting.slots w.setting.present es w.state w.log v.log adds (keeps_journal w.setting.slots w.setting.present w.contents es w.state w.log v.log keeps) known);
}

pub leads_nowhere : (w : World) → Finds w → Leads w (λ count. w.contents) [] w
leads_nowhere w finds = leads_kept w w [] (finds.holds, refl) refl refl refl finds refl

pub leads_turn : (w : World) (t : Turn) → Finds w → TurnKeeps w t → LeadsTurn w t
leads_turn w t finds keeps = leads_kept w (before_reply w t) t.effects keeps.keeps refl refl keeps.contents (finds_behind w t finds keeps) keeps.adds

finds_told : (w : World) (text : List ℕ) → Finds w → Finds (with_told w text)
finds_told w text finds = record { holds = told_at w.setting.slots w.setting.present w.contents w.state w.log text finds.holds; settled = settled_told text w.state finds.settled; within = finds.within }

pub leads_told : (w : World) (text : List ℕ) → Finds w → Leads w (λ count. w.contents) (tells text ∷ []) (with_told w text)
leads_told w text finds = (let behind = finds_told w text finds in leads_kept w (with_told w text) (tells text ∷ []) (finds.holds, (behind.holds, refl)) refl refl refl behind refl)

-- ---- turns

-- a turn and its reply
pub leads_replied : (w : World) (t : Turn) → LeadsTurn w t → Leads w (λ count. t.contents) (t.effects ++ tells t.reply ∷ []) (after_turn w t)
leads_replied w t leads =
    leads_then w (before_reply w t) (after_turn w t) t.effects (tells t.reply ∷ []) (λ count. t.contents) (λ count. t.contents) (λ count. t.contents) (λ count le. refl) (λ count lt. refl) leads
    (leads_told (before_reply w t) t.reply leads.finds)

-- a turn at another moment of the same world
pub leads_later : (w : World) (now : ℕ) (t : Turn) → LeadsTurn (at_moment w now) t → LeadsTurn w t
leads_later w now t leads = record {
  way = λ count. (let held = leads.way count in record { changes = held.changes; journal = held.journal; records = held.records; holds = held.holds; ids = held.ids });
  listed = λ count e at. (let keeps = leads.listed count e at in record { changes = keeps.changes; journal = keeps.journal; still = keeps.still });
  journal = leads.journal;
  state = leads.state;
  setting = leads.setting;
  finds = leads.finds;
  ids = leads.ids;
}
