-- What was asked, without what was asked of file 0.
use Rattle.std.proofs.Common.{◌≡◌, ◌≢◌, ℕ, zero, suc, ◌+◌, ◌<◌, ◌≤◌, min, ◌==◌, if◌then◌else◌, List, [], ◌∷◌, ◌++◌, length, take, drop, get_or, slice_set, Vec, refl, sym, ◌∙◌, ap, subst, arith, length-set}
use Rattle.std.specs.declared.alloc.Global.{Global}
use Rattle.std.proofs.lemmas.Bool.Decides.{nat_tests}
use Rattle.std.proofs.lemmas.List.{take_more, take_more_set, get_or-drop, drop-drop, drop-set-lt}
use Rattle.media_core.specs.declared.event.Event.{Event}
use Rattle.media_core.specs.declared.event.Event.TheVariants.{Opened, Write, Sync, Tell}
use Rattle.media_core.specs.Media.{written}
use Rattle.media_core.specs.Disk.{Range, FileMayLeave}
use Rattle.media_core.specs.Events.{Contents, blank, happens, after, file_bytes, FileLeft}
use Rattle.media_core.specs.Emptied.{SameFile, IsEmptied, NoJournal}
use Rattle.media_core.proofs.Fill.{length-written}
use Rattle.media_core.proofs.Memory.{after-push}

length_zero : (l : List ℕ) → length l ≤ 0 → l ≡ []
length_zero [] none = refl
length_zero (x ∷ l) none = absurd (omega arith)

written_none : (at : ℕ) (bytes old : List ℕ) → bytes ≡ [] → old ≡ [] → written (min at (length old)) bytes old ≡ []
written_none at bytes old none empty =
    let a : length bytes ≡ 0 = ap length none in
    let b : length old ≡ 0 = ap length empty in
    length_zero (written (min at (length old)) bytes old) (omega (arith, a, b, length-written (min at (length old)) bytes old (omega arith)))

if_other : {A : Type 0} (k f : ℕ) (a b : A) → k ≢ f → (if k == f then a else b) ≡ b
if_other k f a b other = grind (arith, nat_tests)

-- one event more on both sides
pub pushed : (es es' : List Event) (e e' : Event) → IsEmptied (happens e (after es blank)) (happens e' (after es' blank)) → NoJournal (es ++ e ∷ []) (es' ++ e' ∷ [])
pushed es es' e e' step =
    subst (λ (s : Contents). IsEmptied s (after (es' ++ e' ∷ []) blank)) (sym (after-push es e blank))
    (subst (λ (s : Contents). IsEmptied (happens e (after es blank)) s) (sym (after-push es' e' blank)) step)

pub opened_emptied : (s s' : Contents) (files files' : Vec (Vec ℕ Global) Global) (told : Vec ℕ Global) → file_bytes files'.items 0 ≡ [] → ((k : ℕ) → k ≢ 0 → file_bytes files'.items k ≡ file_bytes files.items k)
    → IsEmptied (happens (Opened files told) s) (happens (Opened files' told) s')
opened_emptied s s' files files' told first same = record {
  bytes = first;
  others = λ k ne. record { bytes = same k ne; synced = same k ne; loose = refl };
  told = refl;
  told_first = refl;
  pieces = refl;
}

module _ (s s' : Contents) (emptied : IsEmptied s s') where
  pub write_emptied : (at : ℕ) (bytes bytes' : Vec ℕ Global) → bytes'.items ≡ [] → IsEmptied (happens (Write 0 at bytes) s) (happens (Write 0 at bytes') s')
  write_emptied at bytes bytes' none = record {
    bytes = written_none at bytes'.items (s'.bytes 0) none emptied.bytes;
    others = λ k ne. record {
      bytes = if_other k 0 (written (min at (length (s'.bytes k))) bytes'.items (s'.bytes k)) (s'.bytes k) ne ∙ (emptied.others k ne).bytes ∙ sym (if_other k 0 (written (min at (length (s.bytes k))) bytes.items (s.bytes k)) (s.bytes k) ne);
      synced = (emptied.others k ne).synced;
      loose = if_other k 0 (record { at = min at (length (s'.bytes k)); size = length bytes'.items } ∷ s'.loose k) (s'.loose k) ne ∙ (emptied.others k ne).loose
          ∙ sym (if_other k 0 (record { at = min at (length (s.bytes k)); size = length bytes.items } ∷ s.loose k) (s.loose k) ne);
    };
    told = emptied.told;
    told_first = emptied.told_first;
    pieces = emptied.pieces;
  }

  pub write_same : (f at : ℕ) (bytes : Vec ℕ Global) → f ≢ 0 → IsEmptied (happens (Write f at bytes) s) (happens (Write f at bytes) s')
  write_same f at bytes tape = record {
    bytes = if_other 0 f (written (min at (length (s'.bytes 0))) bytes.items (s'.bytes 0)) (s'.bytes 0) (λ is. tape (sym is)) ∙ emptied.bytes;
    others = λ k ne.
        let b = (emptied.others k ne).bytes in
        let l = (emptied.others k ne).loose in
        record {
          bytes = λ i. if k == f then written (min at (length (b i))) bytes.items (b i) else b i;
          synced = (emptied.others k ne).synced;
          loose = λ i. if k == f then record { at = min at (length (b i)); size = length bytes.items } ∷ l i else l i;
        };
    told = emptied.told;
    told_first = emptied.told_first;
    pieces = emptied.pieces;
  }

  pub sync_same : (f : ℕ) → IsEmptied (happens (Sync f) s) (happens (Sync f) s')
  sync_same f = record {
    bytes = emptied.bytes;
    others = λ k ne.
        let o = emptied.others k ne in
        record {
          bytes = o.bytes;
          synced = λ i. if k == f then o.bytes i else o.synced i;
          loose = λ i. if k == f then [] else o.loose i;
        };
    told = emptied.told;
    told_first = emptied.told_first;
    pieces = emptied.pieces;
  }

  pub tell_same : (piece : Vec ℕ Global) → IsEmptied (happens (Tell piece) s) (happens (Tell piece) s')
  tell_same piece = record {
    bytes = emptied.bytes;
    others = λ k ne. let o = emptied.others k ne in record { bytes = o.bytes; synced = o.synced; loose = o.loose };
    told = λ i. emptied.told i ++ piece.items;
    told_first = emptied.told_first;
    pieces = λ i. record { before = emptied.told i; bytes = piece.items } ∷ emptied.pieces i;
  }

-- one event more is gone through
module _ (old past : List Event) (i : ℕ) (cur e : Event) (below : i < length old) (size : length past ≡ length old) (is : cur ≡ get_or past i cur) (rest : drop i past ≡ drop i old) where
  pub size_more : length (slice_set past i e) ≡ length old
  size_more = length-set past i e ∙ size

  pub rest_more : drop (i + 1) (slice_set past i e) ≡ drop (i + 1) old
  rest_more = drop-set-lt (i + 1) past i e (omega arith) ∙ sym (drop-drop 1 i past) ∙ ap (λ (l : List Event). drop 1 l) rest ∙ drop-drop 1 i old

  found : get_or old i cur ≡ cur
  found =
      let sum : i + 0 ≡ i = omega arith in
      ap (λ (n : ℕ). get_or old n cur) (sym sum) ∙ sym (get_or-drop i old 0 cur) ∙ ap (λ (l : List Event). get_or l 0 cur) (sym rest) ∙ get_or-drop i past 0 cur ∙ ap (λ (n : ℕ). get_or past n cur) sum ∙ sym is

  pub done_more : ((es es' : List Event) → NoJournal es es' → NoJournal (es ++ cur ∷ []) (es' ++ e ∷ [])) → NoJournal (take i old) (take i past) → NoJournal (take (i + 1) old) (take (i + 1) (slice_set past i e))
  done_more step done =
      let a : take (i + 1) old ≡ take i old ++ cur ∷ [] = take_more old i cur below ∙ ap (λ (x : Event). take i old ++ x ∷ []) found in
      let b : take (i + 1) (slice_set past i e) ≡ take i past ++ e ∷ [] =
      take_more_set past i e (omega (arith, below, size)) in
      subst (λ (l : List Event). NoJournal l (take (i + 1) (slice_set past i e))) (sym a) (subst (λ (l : List Event). NoJournal (take i old ++ cur ∷ []) l) (sym b) (step (take i old) (take i past) done))

-- a crash may leave the same of a file
pub same_left : (s s' : Contents) (k : ℕ) (c : List ℕ) → SameFile s s' k → FileLeft s' k c → FileLeft s k c
same_left s s' k c same left = subst (λ (l : List Range). FileMayLeave (s.synced k) (s.bytes k) l c) same.loose (subst (λ (l : List ℕ). FileMayLeave (s.synced k) l (s'.loose k) c) same.bytes (subst (λ (l : List ℕ). FileMayLeave l (s'.bytes k) (s'.loose k) c) same.synced left))

-- the first file is emptied
pub emptied_shown : (files files' : List (Vec ℕ Global)) (past past' : List Event) → ((k : ℕ) → file_bytes files k ≡ (after past blank).bytes k) → file_bytes files' 0 ≡ []
    → ((k : ℕ) → k ≢ 0 → file_bytes files' k ≡ file_bytes files k) → NoJournal past past' → (k : ℕ) → file_bytes files' k ≡ (after past' blank).bytes k
emptied_shown files files' past past' shown first others emptied zero = first ∙ sym emptied.bytes
emptied_shown files files' past past' shown first others emptied (suc k) =
    let ne : suc k ≢ 0 = λ is. absurd (omega (arith, is)) in
    others (suc k) ne ∙ shown (suc k) ∙ sym (emptied.others (suc k) ne).bytes
