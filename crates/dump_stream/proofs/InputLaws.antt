-- How a whole input is judged as its pieces come, and what it is.
use Rattle.std.proofs.Common.{◌≡◌, ◌⊎◌, inl, inr, ℕ, ◌+◌, ◌<◌, ◌≤◌, List, [], ◌∷◌, ◌++◌, length, take, drop, Result, Ok, Err, refl, sym, ◌∙◌, ap, subst, arith, length-append, append_assoc}
use Rattle.std.proofs.lemmas.List.{take-append-drop, take-append-le, take_all, append-nil, nil_from_length}
use Rattle.vnode_model.specs.declared.increments.Increment.{Increment}
use Rattle.dump_stream.specs.Stream.{Spells}
use Rattle.dump_stream.specs.Reads.{Begins, IsCut, IsBad, Answers, Agree}
use Rattle.dump_stream.specs.Feeds.{HasFed, IsGoing, IsDone}
use Rattle.dump_stream.specs.declared.answers.StreamFault.{StreamFault}
use Rattle.dump_stream.specs.declared.answers.StreamFault.TheVariants as faults
use Rattle.dump_stream.specs.declared.reader.Reader.{Reader}
use Rattle.dump_stream.specs.declared.reader.State.TheVariants as states
use Rattle.dump_stream.specs.declared.input.Input.{Input}
use Rattle.dump_stream.specs.declared.input.Input.TheVariants as inputs
use Rattle.dump_stream.specs.declared.input.InputReader.{InputReader}
use Rattle.dump_stream.specs.declared.input.Judged.{Judged}
use Rattle.dump_stream.specs.declared.input.Judged.TheVariants.{Going, Ended, Bad}
use Rattle.dump_stream.specs.Inputs.{IsEnded, IsFollowed, IsInput, HoldsAt, IsOpenAt, IsOpen, HasTaken}
use Rattle.dump_stream.proofs.ReadLaws.{one_stream, one_answer, whole_more}
use Rattle.dump_stream.proofs.FeedLaws.{bad_more, at_state}

-- a stream that was fed with all of a piece
pub ended_now : (bytes piece : List ℕ) (reader : Reader) (at : ℕ) (i : Increment) → HasFed (bytes ++ piece) reader → IsDone reader
    → at ≤ length (bytes ++ piece) → Spells (take at (bytes ++ piece)) i → IsEnded (bytes ++ piece) reader at
ended_now bytes piece reader at i fed done within spells = record {
  front = bytes ++ piece;
  more = [];
  is = sym (append-nil (bytes ++ piece));
  fed = fed;
  done = done;
  within = within;
  says = i;
  spells = spells;
}

-- it stays so as more comes
pub ended_more : (bytes piece : List ℕ) (reader : Reader) (at : ℕ) → IsEnded bytes reader at → IsEnded (bytes ++ piece) reader at
ended_more bytes piece reader at ended = record {
  front = ended.front;
  more = ended.more ++ piece;
  is = ap (λ (l : List ℕ). l ++ piece) ended.is ∙ append_assoc ended.front ended.more piece;
  fed = ended.fed;
  done = ended.done;
  within = ended.within;
  says = ended.says;
  spells = ended.spells;
}

-- bytes follow a stream that ended before the last byte
pub followed : (bytes : List ℕ) (reader : Reader) (at : ℕ) → at < length bytes → IsEnded bytes reader at → IsFollowed bytes at
followed bytes reader at lt ended = (lt, ended.says, subst (λ (l : List ℕ). Spells l ended.says) (sym (take-append-le at ended.front ended.more ended.within) ∙ ap (take at) (sym ended.is)) ended.spells)

-- a stream that ended with the last byte: what the reader says of its front is what all the bytes say
pub whole : (bytes : List ℕ) (reader : Reader) (at : ℕ) (i : Increment) → length bytes ≤ at → IsEnded bytes reader at
    → ((front : List ℕ) → HasFed front reader → (n : ℕ) × ((n ≤ length front) × Spells (take n front) i)) → Spells bytes i
whole bytes reader at i le ended says =
    let front = ended.front in
    let lengths : length bytes ≡ length front + length ended.more = ap length ended.is ∙ length-append front ended.more in
    let no_more : length ended.more ≡ 0 = omega (arith, lengths, le, ended.within) in
    let all : bytes ≡ front = ended.is ∙ ap (λ (l : List ℕ). front ++ l) (nil_from_length ended.more no_more) ∙ append-nil front in
    let at_is : take at front ≡ front = take_all at front (omega (arith, lengths, no_more, le)) in
    let stream : Spells front ended.says = subst (λ (l : List ℕ). Spells l ended.says) at_is ended.spells in
    let found = says front ended.fed in
    let split : take found.0 front ++ drop found.0 front ≡ front = take-append-drop found.0 front in
    let one : (drop found.0 front ≡ []) × (ended.says ≡ i) = one_stream (take found.0 front) (drop found.0 front) i ended.says found.1.1 (subst (λ (l : List ℕ). Spells l ended.says) (sym split) stream) in
    subst (λ (l : List ℕ). Spells l i) (sym all) (subst (Spells front) one.1 stream)

-- a reader of which it is known what was taken is open
open_at : (bytes : List ℕ) (reader : Reader) (judged : Judged) → HoldsAt bytes reader judged → IsOpenAt reader judged
open_at bytes reader Going held = (held.1, held.2)
open_at bytes reader (Ended at) held = held.done
open_at bytes reader (Bad at) held = tt

pub taken_open : (bytes : List ℕ) (input : InputReader) → HasTaken bytes input → IsOpen input
taken_open bytes input held = open_at bytes input.reader input.judged held.1

-- what was judged stays judged
pub judged_more : (bytes piece : List ℕ) (reader : Reader) (judged : Judged) → ((at : ℕ) × (judged ≡ Ended at)) ⊎ ((at : ℕ) × (judged ≡ Bad at)) → HoldsAt bytes reader judged → HoldsAt (bytes ++ piece) reader judged
judged_more bytes piece reader judged (inl (at, is)) held = subst (HoldsAt (bytes ++ piece) reader) (sym is) (ended_more bytes piece reader at (subst (HoldsAt bytes reader) is held))
judged_more bytes piece reader judged (inr (at, is)) held = subst (HoldsAt (bytes ++ piece) reader) (sym is) (bad_more bytes piece at (subst (HoldsAt bytes reader) is held))

-- ---- the place at which the bytes so far stop

-- a reader that goes on was fed a proper prefix
pub going_cut : (bytes : List ℕ) (reader : Reader) → HasFed bytes reader → IsGoing reader → IsCut bytes
unfolding IsGoing
going_cut bytes reader fed going = whole_more bytes reader.machine (at_state bytes reader states.Going going fed).0

pub going_begins : (bytes : List ℕ) (reader : Reader) → HasFed bytes reader → IsGoing reader → Begins bytes
going_begins bytes reader fed going =
    let cut = going_cut bytes reader fed going in
    (cut.0 ∷ cut.1, cut.2, cut.3)

-- a stream that ended with the last byte begins one
pub ended_begins : (bytes : List ℕ) (reader : Reader) (at : ℕ) → length bytes ≤ at → IsEnded bytes reader at → Begins bytes
ended_begins bytes reader at le ended =
    let front = ended.front in
    let lengths : length bytes ≡ length front + length ended.more = ap length ended.is ∙ length-append front ended.more in
    let no_more : length ended.more ≡ 0 = omega (arith, lengths, le, ended.within) in
    let all : bytes ≡ front = ended.is ∙ ap (λ (l : List ℕ). front ++ l) (nil_from_length ended.more no_more) ∙ append-nil front in
    let at_is : take at front ≡ front = take_all at front (omega (arith, lengths, no_more, le)) in
    let spells : Spells bytes ended.says = subst (λ (l : List ℕ). Spells l ended.says) (sym all) (subst (λ (l : List ℕ). Spells l ended.says) at_is ended.spells) in
    ([], ended.says, subst (λ (l : List ℕ). Spells l ended.says) (sym (append-nil bytes)) spells)

-- ---- an input is one thing

stream_answer : (bytes : List ℕ) (i : Increment) → Spells bytes i → Answers bytes (Ok (i, length bytes))
stream_answer bytes i spells = (omega arith, subst (λ (l : List ℕ). Spells l i) (sym (take_all (length bytes) bytes (omega arith))) spells)

-- answers that are no want of memory
same : (bytes : List ℕ) (a b : Result (Increment × ℕ) StreamFault) → Answers bytes a → Answers bytes b → (a ≡ Err faults.Memory → ⊥) → (b ≡ Err faults.Memory → ⊥) → a ≡ b
same bytes a b h k some other = agree (one_answer bytes a b h k)
  where
    agree : Agree a b → a ≡ b
    agree (inl none) = absurd (some none)
    agree (inr (inl none)) = absurd (other none)
    agree (inr (inr e)) = e

one_pair : (a b : Increment × ℕ) (r : Result (Increment × ℕ) StreamFault) → r ≡ Ok a → r ≡ Ok b → a ≡ b
one_pair a b r h k = cc

one_place : (m n : ℕ) (r : Result (Increment × ℕ) StreamFault) → r ≡ Err (faults.Bad m) → r ≡ Err (faults.Bad n) → m ≡ n
one_place m n r h k = cc

pub one_thing : (bytes : List ℕ) (a b : Input) → IsInput bytes a → IsInput bytes b → a ≡ b
one_thing bytes (inputs.Stream i) (inputs.Stream j) h k =
    let e = same bytes (Ok (i, length bytes)) (Ok (j, length bytes)) (stream_answer bytes i h) (stream_answer bytes j k) (λ none. cc) (λ none. cc) in
    ap (λ (x : Increment × ℕ). inputs.Stream x.0) (one_pair (i, length bytes) (j, length bytes) (Ok (i, length bytes)) refl e)
one_thing bytes (inputs.Stream i) (inputs.Cut m) h k = absurd (let e = same bytes (Ok (i, length bytes)) (Err faults.Cut) (stream_answer bytes i h) k.0 (λ none. cc) (λ none. cc) in cc)
one_thing bytes (inputs.Stream i) (inputs.Bad at) h k = absurd (let e = same bytes (Ok (i, length bytes)) (Err (faults.Bad at)) (stream_answer bytes i h) k (λ none. cc) (λ none. cc) in cc)
one_thing bytes (inputs.Stream i) (inputs.Followed at) h k =
    let e = same bytes (Ok (i, length bytes)) (Ok (k.1, at)) (stream_answer bytes i h) (omega (arith, k.0), k.2) (λ none. cc) (λ none. cc) in
    let at_is : length bytes ≡ at = ap (λ (x : Increment × ℕ). x.1) (one_pair (i, length bytes) (k.1, at) (Ok (i, length bytes)) refl e) in
    absurd (omega (arith, at_is, k.0))
one_thing bytes (inputs.Cut m) (inputs.Stream i) h k = absurd (let e = same bytes (Ok (i, length bytes)) (Err faults.Cut) (stream_answer bytes i k) h.0 (λ none. cc) (λ none. cc) in cc)
one_thing bytes (inputs.Cut m) (inputs.Cut n) h k = ap (λ (x : ℕ). inputs.Cut x) (h.1 ∙ sym k.1)
one_thing bytes (inputs.Cut m) (inputs.Bad at) h k = absurd (let e = same bytes (Err faults.Cut) (Err (faults.Bad at)) h.0 k (λ none. cc) (λ none. cc) in cc)
one_thing bytes (inputs.Cut m) (inputs.Followed at) h k = absurd (let e = same bytes (Err faults.Cut) (Ok (k.1, at)) h.0 (omega (arith, k.0), k.2) (λ none. cc) (λ none. cc) in cc)
one_thing bytes (inputs.Bad at) (inputs.Stream i) h k = absurd (let e = same bytes (Ok (i, length bytes)) (Err (faults.Bad at)) (stream_answer bytes i k) h (λ none. cc) (λ none. cc) in cc)
one_thing bytes (inputs.Bad at) (inputs.Cut m) h k = absurd (let e = same bytes (Err faults.Cut) (Err (faults.Bad at)) k.0 h (λ none. cc) (λ none. cc) in cc)
one_thing bytes (inputs.Bad at) (inputs.Bad place) h k =
    let e = same bytes (Err (faults.Bad at)) (Err (faults.Bad place)) h k (λ none. cc) (λ none. cc) in
    ap (λ (x : ℕ). inputs.Bad x) (one_place at place (Err (faults.Bad at)) refl e)
one_thing bytes (inputs.Bad at) (inputs.Followed place) h k = absurd (let e = same bytes (Err (faults.Bad at)) (Ok (k.1, place)) h (omega (arith, k.0), k.2) (λ none. cc) (λ none. cc) in cc)
one_thing bytes (inputs.Followed at) (inputs.Stream i) h k =
    let e = same bytes (Ok (i, length bytes)) (Ok (h.1, at)) (stream_answer bytes i k) (omega (arith, h.0), h.2) (λ none. cc) (λ none. cc) in
    let at_is : length bytes ≡ at = ap (λ (x : Increment × ℕ). x.1) (one_pair (i, length bytes) (h.1, at) (Ok (i, length bytes)) refl e) in
    absurd (omega (arith, at_is, h.0))
one_thing bytes (inputs.Followed at) (inputs.Cut m) h k = absurd (let e = same bytes (Err faults.Cut) (Ok (h.1, at)) k.0 (omega (arith, h.0), h.2) (λ none. cc) (λ none. cc) in cc)
one_thing bytes (inputs.Followed at) (inputs.Bad place) h k = absurd (let e = same bytes (Err (faults.Bad place)) (Ok (h.1, at)) k (omega (arith, h.0), h.2) (λ none. cc) (λ none. cc) in cc)
one_thing bytes (inputs.Followed at) (inputs.Followed place) h k =
    let e = same bytes (Ok (h.1, at)) (Ok (k.1, place)) (omega (arith, h.0), h.2) (omega (arith, k.0), k.2) (λ none. cc) (λ none. cc) in
    ap (λ (x : Increment × ℕ). inputs.Followed x.1) (one_pair (h.1, at) (k.1, place) (Ok (h.1, at)) refl e)
