-- Volumes that are restored one after the other.
use Rattle.std.proofs.Common.{zero, suc, ◌≡◌, inl, ℕ, ◌+◌, ◌<◌, ◌≤◌, List, [], ◌∷◌, ◌++◌, length, take, drop, get_or, refl, sym, ap, ◌∙◌, subst, arith, append_assoc}
use Rattle.std.specs.Prelude.{Contains}
use Rattle.std.proofs.lemmas.List.{take_more, drop_more, drop_all}
use Rattle.std.proofs.lemmas.List.Elements.{Contains-append_left}
use Rattle.cell_core.specs.declared.stored.Stored.{Stored}
use Rattle.archive_model.specs.Archives.{Archive}
use Rattle.backup_replies.specs.Texts.{ok_line}
use Rattle.backup_words.specs.declared.command.Wanted.{Wanted}
use Rattle.restore_commands.specs.Answers.{Manner, VolumeAnswer, RestoreAnswer, volume_answer, last_cell, told_lines, behind, all_answer}
use Rattle.restore_commands.specs.Leaving.{IsAnswer, OnTheWay, MayPut, MayPutEach}
use Rattle.restore_commands.specs.Steps.{in_front, SoFar}

-- ---- lists one behind another

last_both : (old : List Stored) (xs ys : List (List Stored)) → last_cell old (xs ++ ys) ≡ last_cell (last_cell old xs) ys
last_both old [] ys = refl
last_both old (x ∷ xs) ys = last_both x xs ys

one_later : (old : List Stored) (cells : List (List Stored)) (new : List Stored) → Contains cells new → Contains (old ∷ cells) new
one_later old cells new (k, within, is) = (suc k, omega (arith, within), is)

-- a list on the way behind these is one on the way of all
way_behind : (old : List Stored) (xs ys : List (List Stored)) (new : List Stored) → OnTheWay (last_cell old xs) ys new → OnTheWay old (xs ++ ys) new
way_behind old [] ys new on = on
way_behind old (x ∷ xs) ys new on = one_later old (x ∷ (xs ++ ys)) new (way_behind x xs ys new on)

way_front : (old : List Stored) (xs ys : List (List Stored)) (new : List Stored) → OnTheWay old xs new → OnTheWay old (xs ++ ys) new
way_front old xs ys new on = Contains-append_left (old ∷ xs) ys new on

way_here : (now : List Stored) (cells : List (List Stored)) → OnTheWay now cells now
way_here now cells = (0, omega arith, refl)

-- ---- answers one behind another

front_behind : (lines : List ℕ) (cells : List (List Stored)) (v : VolumeAnswer) (r : RestoreAnswer) → in_front lines cells (behind v r) ≡ in_front (lines ++ told_lines v.told) (cells ++ v.cells) r
front_behind lines cells v r =
    let replies : lines ++ (told_lines v.told ++ r.reply) ≡ (lines ++ told_lines v.told) ++ r.reply = sym (append_assoc lines (told_lines v.told) r.reply) in
    let lists : cells ++ (v.cells ++ r.cells) ≡ (cells ++ v.cells) ++ r.cells = sym (append_assoc cells v.cells r.cells) in
    (λ i. record { reply = replies i; cells = lists i })

front_front : (lines told : List ℕ) (cells more : List (List Stored)) (r : RestoreAnswer) → in_front lines cells (in_front told more r) ≡ in_front (lines ++ told) (cells ++ more) r
front_front lines told cells more r =
    let replies : lines ++ (told ++ r.reply) ≡ (lines ++ told) ++ r.reply = sym (append_assoc lines told r.reply) in
    let lists : cells ++ (more ++ r.cells) ≡ (cells ++ more) ++ r.cells = sym (append_assoc cells more r.cells) in
    (λ i. record { reply = replies i; cells = lists i })

-- the rest of them, from the next one on
pub rest_from : (choices : List Wanted) (count : ℕ) (choice : Wanted) → count < length choices → choice ≡ get_or choices count choice → drop count choices ≡ choice ∷ drop (count + 1) choices
rest_from choices count choice within here = drop_more choices count choice within ∙ ap (λ (x : Wanted). x ∷ drop (count + 1) choices) (sym here)

module _ (a : Archive) (manner : Manner) (choices : List Wanted) (old : List Stored) where
  pub none_so_far : SoFar a manner choices old choices [] old
  none_so_far = record { cells = []; list = refl; due = refl }

  -- one more was restored
  pub next_so_far : (choice : Wanted) (rest : List Wanted) (lines more : List ℕ) (now new : List Stored) → SoFar a manner choices old (choice ∷ rest) lines now
      → more ≡ lines ++ told_lines (volume_answer a now manner choice).told → new ≡ last_cell now (volume_answer a now manner choice).cells → SoFar a manner choices old rest more new
  next_so_far choice rest lines more now new so_far told list =
      let v = volume_answer a now manner choice in
      record {
        cells = so_far.cells ++ v.cells;
        list = list ∙ ap (λ (s : List Stored). last_cell s v.cells) so_far.list ∙ sym (last_both old so_far.cells v.cells);
        due =
            so_far.due
            ∙ front_behind lines so_far.cells v (all_answer a (last_cell now v.cells) manner rest)
            ∙ ap (λ (s : List Stored). in_front (lines ++ told_lines v.told) (so_far.cells ++ v.cells) (all_answer a s manner rest)) (sym list)
            ∙ ap (λ (l : List ℕ). in_front l (so_far.cells ++ v.cells) (all_answer a new manner rest)) (sym told);
      }

  -- several more were
  pub joined_so_far : (batch rest : List Wanted) (lines told : List ℕ) (now new : List Stored) → SoFar a manner choices old (batch ++ rest) lines now → SoFar a manner (batch ++ rest) now rest told new → SoFar a manner choices old rest (lines ++ told) new
  joined_so_far batch rest lines told now new so_far more = record {
    cells = so_far.cells ++ more.cells;
    list = more.list ∙ ap (λ (s : List Stored). last_cell s more.cells) so_far.list ∙ sym (last_both old so_far.cells more.cells);
    due = so_far.due ∙ ap (in_front lines so_far.cells) more.due ∙ front_front lines told so_far.cells more.cells (all_answer a new manner rest);
  }

  pub one_more_so_far : (count : ℕ) (choice : Wanted) (lines more : List ℕ) (now new : List Stored) → count < length choices → choice ≡ get_or choices count choice → SoFar a manner choices old (drop count choices) lines now
      → more ≡ lines ++ told_lines (volume_answer a now manner choice).told → new ≡ last_cell now (volume_answer a now manner choice).cells → SoFar a manner choices old (drop (count + 1) choices) more new
  one_more_so_far count choice lines more now new within here so_far told list =
      next_so_far choice (drop (count + 1) choices) lines more now new (subst (λ (cs : List Wanted). SoFar a manner choices old cs lines now) (rest_from choices count choice within here) so_far) told list

  -- none is left
  pub all_told : (lines reply : List ℕ) (now : List Stored) → SoFar a manner choices old [] lines now → reply ≡ lines ++ ok_line → IsAnswer (all_answer a old manner choices) reply old now
  all_told lines reply now so_far is =
      subst (λ (r : RestoreAnswer). IsAnswer r reply old now) (sym so_far.due)
      (record { reply_is = is; list = so_far.list ∙ sym (last_both old so_far.cells []) })

  pub past_so_far : (count : ℕ) (lines : List ℕ) (now : List Stored) → length choices ≤ count → SoFar a manner choices old (drop count choices) lines now → SoFar a manner choices old [] lines now
  past_so_far count lines now past so_far = subst (λ (cs : List Wanted). SoFar a manner choices old cs lines now) (drop_all count choices past) so_far

  -- while those that are left are restored
  pub rest_left : (rest : List Wanted) (lines : List ℕ) (now new : List Stored) → SoFar a manner choices old rest lines now → OnTheWay now (all_answer a now manner rest).cells new → OnTheWay old (all_answer a old manner choices).cells new
  rest_left rest lines now new so_far on =
      let cells = (all_answer a now manner rest).cells in
      subst (λ (r : RestoreAnswer). OnTheWay old r.cells new) (sym so_far.due)
      (way_behind old so_far.cells cells new (subst (λ (s : List Stored). OnTheWay s cells new) so_far.list on))

  -- the cell between two of them
  pub all_left : (rest : List Wanted) (lines : List ℕ) (now : List Stored) → SoFar a manner choices old rest lines now → OnTheWay old (all_answer a old manner choices).cells now
  all_left rest lines now so_far = rest_left rest lines now now so_far (way_here now (all_answer a now manner rest).cells)

  -- and while one of them is restored
  pub next_left : (choice : Wanted) (rest : List Wanted) (lines : List ℕ) (now new : List Stored) → SoFar a manner choices old (choice ∷ rest) lines now → OnTheWay now (volume_answer a now manner choice).cells new → OnTheWay old (all_answer a old manner choices).cells new
  next_left choice rest lines now new so_far on =
      let v = volume_answer a now manner choice in
      rest_left (choice ∷ rest) lines now new so_far (way_front now v.cells (all_answer a (last_cell now v.cells) manner rest).cells new on)

  pub one_left : (count : ℕ) (choice : Wanted) (lines : List ℕ) (now new : List Stored) → count < length choices → choice ≡ get_or choices count choice → SoFar a manner choices old (drop count choices) lines now
      → OnTheWay now (volume_answer a now manner choice).cells new → OnTheWay old (all_answer a old manner choices).cells new
  one_left count choice lines now new within here so_far on =
      next_left choice (drop (count + 1) choices) lines now new (subst (λ (cs : List Wanted). SoFar a manner choices old cs lines now) (rest_from choices count choice within here) so_far) on

-- ---- whatever stands on the tapes

module _ (manner : Manner) where
  pub none_put : (choices : List Wanted) (s : List Stored) → MayPutEach manner choices s s
  none_put [] s = refl
  none_put (c ∷ choices) s = (s, inl refl, none_put choices s)

  put_last : (choices : List Wanted) (c : Wanted) (old now new : List Stored) → MayPutEach manner choices old now → MayPut manner c now new → MayPutEach manner (choices ++ c ∷ []) old new
  put_last [] c old now new same put = (new, subst (λ (s : List Stored). MayPut manner c s new) same put, refl)
  put_last (d ∷ choices) c old now new (mid, first, rest) put = (mid, first, put_last choices c mid now new rest put)

  pub one_more_put : (choices : List Wanted) (i : ℕ) (c : Wanted) (old now new : List Stored) → i < length choices → c ≡ get_or choices i c → MayPutEach manner (take i choices) old now → MayPut manner c now new → MayPutEach manner (take (i + 1) choices) old new
  one_more_put choices i c old now new within here before put =
      subst (λ (cs : List Wanted). MayPutEach manner cs old new) (sym (take_more choices i c within ∙ ap (λ (x : Wanted). take i choices ++ x ∷ []) (sym here))) (put_last (take i choices) c old now new before put)

  -- where no more of them are put
  pub put_so_far : (choices : List Wanted) (i : ℕ) (old now : List Stored) → MayPutEach manner (take i choices) old now → MayPutEach manner choices old now
  put_so_far choices zero old now same = subst (MayPutEach manner choices old) (sym same) (none_put choices old)
  put_so_far [] (suc i) old now same = same
  put_so_far (c ∷ choices) (suc i) old now (mid, first, rest) = (mid, first, put_so_far choices i mid now rest)

  -- those of one list and those of another behind it
  pub put_both : (xs ys : List Wanted) (old now new : List Stored) → MayPutEach manner xs old now → MayPutEach manner ys now new → MayPutEach manner (xs ++ ys) old new
  put_both [] ys old now new same put = subst (λ (s : List Stored). MayPutEach manner ys s new) same put
  put_both (c ∷ xs) ys old now new (mid, first, rest) put = (mid, first, put_both xs ys mid now new rest put)
