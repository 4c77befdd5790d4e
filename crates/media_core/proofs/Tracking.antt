-- Playing an event again keeps track of what a crash may leave.
use Rattle.std.proofs.Common.{◌≡◌, ◌≢◌, inl, inr, ℕ, min, ◌==◌, if◌then◌else◌, replicate, List, [], ◌∷◌, ◌++◌, length, Vec, refl, sym, ◌∙◌, ap, subst, arith}
use Rattle.std.specs.declared.alloc.Global.{Global}
use Rattle.std.proofs.lemmas.Bool.{cases_eq}
use Rattle.std.proofs.lemmas.Bool.Decides.{nat_tests}
use Rattle.media_core.specs.declared.event.Event.{Event}
use Rattle.media_core.specs.declared.event.Event.TheVariants.{Opened, Write, Sync, Tell}
use Rattle.media_core.specs.declared.replay.Pick.{Pick}
use Rattle.media_core.specs.declared.replay.Pick.TheVariants as P
use Rattle.media_core.specs.Media.{Torn, written}
use Rattle.media_core.specs.Events.{Contents, blank, happens, after, file_bytes, FileLeft, LeftAfter}
use Rattle.media_core.proofs.DiskModel.{write_left, sync_left, opened_allows, always_read}
use Rattle.media_core.specs.Laws.{written_torn}
use Rattle.media_core.specs.Tracks.{Tracks, SameLengths}
use Rattle.media_core.specs.Disk.{IsPicked}
use Rattle.media_core.proofs.Fill.{length-written, fill_where, picked_fresh, picked_synced, same_of, other_of}
use Rattle.media_core.proofs.Memory.{after-push}

abbrev Files : Type 0
Files = List (Vec ℕ Global)

abbrev PickedIn : Pick → Contents → ℕ → List ℕ → Type 0
PickedIn pick s k = IsPicked pick (s.synced k) (s.bytes k) (s.loose k)

tracks_step : (pick : Pick) (es : List Event) (e : Event) (files picked : Files) → ((k : ℕ) → file_bytes files k ≡ (happens e (after es blank)).bytes k)
    → ((k : ℕ) → FileLeft (happens e (after es blank)) k (file_bytes picked k)) → SameLengths pick files picked → ((k : ℕ) → PickedIn pick (happens e (after es blank)) k (file_bytes picked k)) → Tracks pick (es ++ e ∷ []) files picked
tracks_step pick es e files picked bytes left lengths made =
    let push = after-push es e blank in
    record {
      bytes = λ k. bytes k ∙ sym (ap (λ (s : Contents). s.bytes k) push);
      left = λ k. subst (λ (s : Contents). FileLeft s k (file_bytes picked k)) (sym push) (left k);
      lengths = lengths;
      is = λ k. subst (λ (s : Contents). PickedIn pick s k (file_bytes picked k)) (sym push) (made k);
    }

same_lengths : (pick : Pick) (files picked : Files) → ((k : ℕ) → length (file_bytes picked k) ≡ length (file_bytes files k)) → SameLengths pick files picked
same_lengths P.Old files picked same = tt
same_lengths P.New files picked same = same
same_lengths (P.Torn b) files picked same = same

pub opens : (pick : Pick) (es : List Event) (opened : Vec (Vec ℕ Global) Global) (told : Vec ℕ Global) (files picked : Files) → ((k : ℕ) → file_bytes files k ≡ file_bytes opened.items k) → ((k : ℕ) → file_bytes picked k ≡ file_bytes opened.items k)
    → Tracks pick (es ++ Opened opened told ∷ []) files picked
opens pick es opened told files picked first second = tracks_step pick es (Opened opened told) files picked first (λ k. opened_allows (after es blank) opened told k (file_bytes picked k) (second k)) (same_lengths pick files picked (λ k. ap length (second k ∙ sym (first k))))
    (λ k. picked_fresh pick (file_bytes opened.items k) (file_bytes picked k) (second k))

pub tells : (pick : Pick) (es : List Event) (piece : Vec ℕ Global) (files picked : Files) → Tracks pick es files picked → Tracks pick (es ++ Tell piece ∷ []) files picked
tells pick es piece files picked tracks = tracks_step pick es (Tell piece) files picked tracks.bytes tracks.left tracks.lengths tracks.is

one_of : (files picked picked' : Files) (f : ℕ) → file_bytes picked' f ≡ file_bytes files f → ((k : ℕ) → k ≢ f → file_bytes picked' k ≡ file_bytes picked k) → ((k : ℕ) → length (file_bytes picked k) ≡ length (file_bytes files k)) → (k : ℕ) → length (file_bytes picked' k) ≡ length (file_bytes files k)
one_of files picked picked' f here others same k = elim (cases_eq k f) [
  | inl is ↦ ap (λ (j : ℕ). length (file_bytes picked' j)) is ∙ ap length here ∙ sym (ap (λ (j : ℕ). length (file_bytes files j)) is)
  | inr ne ↦ ap length (others k ne) ∙ same k
]

one_length : (pick : Pick) (files picked picked' : Files) (f : ℕ) → file_bytes picked' f ≡ file_bytes files f → ((k : ℕ) → k ≢ f → file_bytes picked' k ≡ file_bytes picked k) → SameLengths pick files picked → SameLengths pick files picked'
one_length P.Old files picked picked' f here others same = tt
one_length P.New files picked picked' f here others same = one_of files picked picked' f here others same
one_length (P.Torn b) files picked picked' f here others same = one_of files picked picked' f here others same

pub syncs : (pick : Pick) (es : List Event) (f : ℕ) (files picked picked' : Files) → Tracks pick es files picked → file_bytes picked' f ≡ file_bytes files f → ((k : ℕ) → k ≢ f → file_bytes picked' k ≡ file_bytes picked k)
    → Tracks pick (es ++ Sync f ∷ []) files picked'
syncs pick es f files picked picked' tracks here others = tracks_step pick es (Sync f) files picked' tracks.bytes left (one_length pick files picked picked' f here others tracks.lengths)
    (λ k. let s = after es blank in picked_synced pick (k == f) (s.synced k) (s.bytes k) (file_bytes picked' k) (s.loose k) (λ is. now k (same_of k f is))
    (λ no. subst (λ (l : List ℕ). PickedIn pick s k l) (sym (others k (other_of k f no))) (tracks.is k)))
  where
    now : (k : ℕ) → k ≡ f → file_bytes picked' k ≡ (after es blank).bytes k
    now k is = ap (λ (j : ℕ). file_bytes picked' j) is ∙ here ∙ ap (λ (j : ℕ). file_bytes files j) (sym is) ∙ tracks.bytes k

    left : (k : ℕ) → FileLeft (happens (Sync f) (after es blank)) k (file_bytes picked' k)
    left k = (sync_left (after es blank) f k ((always_read es).files k) (file_bytes picked' k)).0 (elim (cases_eq k f) [
      | inl is ↦ record { was = subst (λ (l : List ℕ). LeftAfter es k l) (sym (now k is)) ((always_read es).files k); synced = λ _. now k is }
      | inr ne ↦ record { was = subst (λ (l : List ℕ). LeftAfter es k l) (sym (others k ne)) (tracks.left k); synced = λ no. absurd (no ne) }
    ])

torn_same : (at n : ℕ) (l : List ℕ) → Torn at n l l
torn_same at n l = record { before = refl; after = refl; no_shorter = omega arith; no_longer = omega arith }

-- what a write makes of a file
abbrev pub Rewritten : ℕ → ℕ → List ℕ → Files → Files → Type 0
Rewritten f at bytes old new = (k : ℕ) → file_bytes new k ≡ (if k == f then written (min at (length (file_bytes old k))) bytes (file_bytes old k) else file_bytes old k)

module _ (es : List Event) (f at : ℕ) (bytes : Vec ℕ Global) (files files' picked : Files) (writes : Rewritten f at bytes.items files files') where
  shown : ((k : ℕ) → file_bytes files k ≡ (after es blank).bytes k) → (k : ℕ) → file_bytes files' k ≡ (happens (Write f at bytes) (after es blank)).bytes k
  shown is k = writes k ∙ (λ i. if k == f then written (min at (length (is k i))) bytes.items (is k i) else is k i)

  pub loses : Tracks P.Old es files picked → Tracks P.Old (es ++ Write f at bytes ∷ []) files' picked
  loses tracks = tracks_step P.Old es (Write f at bytes) files' picked (shown tracks.bytes)
      (λ k. (write_left (after es blank) f at bytes k ((always_read es).files k) (file_bytes picked k)).0
      (record { from = file_bytes picked k; was = tracks.left k; torn = λ _. torn_same _ _ (file_bytes picked k); other = λ _. refl })) tt tracks.is

  module _ (fill : List ℕ) (size : length fill ≡ length bytes.items) (picked' : Files) (fills : Rewritten f at fill picked picked') where
    fill_here : (k : ℕ) → k ≡ f → file_bytes picked' k ≡ written (min at (length (file_bytes picked k))) fill (file_bytes picked k)
    fill_here k is = fills k ∙ grind (arith, nat_tests)

    fill_other : (k : ℕ) → k ≢ f → file_bytes picked' k ≡ file_bytes picked k
    fill_other k ne = fills k ∙ grind (arith, nat_tests)

    write_here : (k : ℕ) → k ≡ f → file_bytes files' k ≡ written (min at (length (file_bytes files k))) bytes.items (file_bytes files k)
    write_here k is = writes k ∙ grind (arith, nat_tests)

    write_other : (k : ℕ) → k ≢ f → file_bytes files' k ≡ file_bytes files k
    write_other k ne = writes k ∙ grind (arith, nat_tests)

    left : ((k : ℕ) → file_bytes files k ≡ (after es blank).bytes k) → ((k : ℕ) → LeftAfter es k (file_bytes picked k)) → ((k : ℕ) → length (file_bytes picked k) ≡ length (file_bytes files k))
        → (k : ℕ) → FileLeft (happens (Write f at bytes) (after es blank)) k (file_bytes picked' k)
    left is was same k = (write_left (after es blank) f at bytes k ((always_read es).files k) (file_bytes picked' k)).0 (record {
      from = file_bytes picked k;
      was = was k;
      torn = λ here. let here_is : k ≡ f = elim (cases_eq k f) [ inl e ↦ e | inr ne ↦ absurd (here ne) ] in
          let place : min at (length (file_bytes picked k)) ≡ min at (length ((after es blank).bytes k)) = ap (λ (n : ℕ). min at n) (same k ∙ ap length (is k)) in
          subst (λ (l : List ℕ). Torn (min at (length ((after es blank).bytes k))) (length bytes.items) (file_bytes picked k) l) (sym (fill_here k here_is))
          (subst (λ (n : ℕ). Torn n (length bytes.items) (file_bytes picked k) (written (min at (length (file_bytes picked k))) fill (file_bytes picked k))) place
          (subst (λ (n : ℕ). Torn (min at (length (file_bytes picked k))) n (file_bytes picked k) (written (min at (length (file_bytes picked k))) fill (file_bytes picked k))) size
          (written_torn (min at (length (file_bytes picked k))) fill (file_bytes picked k) (omega arith))));
      other = λ ne. fill_other k ne;
    })

    lengths : ((k : ℕ) → length (file_bytes picked k) ≡ length (file_bytes files k)) → (k : ℕ) → length (file_bytes picked' k) ≡ length (file_bytes files' k)
    lengths same k = elim (cases_eq k f) [
      | inl is ↦ omega (
        arith,
        ap length (fill_here k is),
        ap length (write_here k is),
        same k,
        size,
        length-written (min at (length (file_bytes picked k))) fill (file_bytes picked k) (omega arith),
        length-written (min at (length (file_bytes files k))) bytes.items (file_bytes files k) (omega arith),
      )
      | inr ne ↦ ap length (fill_other k ne) ∙ same k ∙ sym (ap length (write_other k ne))
    ]

    pub keeps_new : fill ≡ bytes.items → Tracks P.New es files picked → Tracks P.New (es ++ Write f at bytes ∷ []) files' picked'
    keeps_new same tracks = tracks_step P.New es (Write f at bytes) files' picked' (shown tracks.bytes) (left tracks.bytes tracks.left tracks.lengths) (lengths tracks.lengths)
        (λ k. fills k ∙ (λ i. if k == f then written (min at (length (tracks.is k i))) (same i) (tracks.is k i) else tracks.is k i))

    pub keeps_torn : (b : ℕ) → fill ≡ replicate (length bytes.items) b → Tracks (P.Torn b) es files picked → Tracks (P.Torn b) (es ++ Write f at bytes ∷ []) files' picked'
    keeps_torn b same tracks = tracks_step (P.Torn b) es (Write f at bytes) files' picked' (shown tracks.bytes) (left tracks.bytes tracks.left tracks.lengths) (lengths tracks.lengths) filled
      where
        filled : (k : ℕ) → PickedIn (P.Torn b) (happens (Write f at bytes) (after es blank)) k (file_bytes picked' k)
        filled k =
            let s = after es blank in
            let place : min at (length (file_bytes picked k)) ≡ min at (length (s.bytes k)) = ap (λ (n : ℕ). min at n) (tracks.is k).size in
            let is : file_bytes picked' k ≡ (if k == f then written (min at (length (s.bytes k))) fill (file_bytes picked k) else file_bytes picked k) =
            fills k ∙ (λ i. if k == f then written (place i) fill (file_bytes picked k) else file_bytes picked k) in
            subst (λ (l : List ℕ). PickedIn (P.Torn b) (happens (Write f at bytes) s) k l) (sym is)
            (fill_where b (min at (length (s.bytes k))) bytes.items (s.bytes k) fill (file_bytes picked k) (s.loose k) same (omega arith) (k == f) size (tracks.is k))
