-- The joined data of fragments, and the record at which they stop being a stream.
use Rattle.std.proofs.Common.{◌≡◌, ◌⊎◌, inl, inr, ℕ, ◌+◌, ◌-◌, ◌^◌, ◌<◌, ◌≤◌, Option, Some, None, List, [], ◌∷◌, ◌++◌, length, take, drop, refl, sym, ◌∙◌, ap, subst, arith, append_assoc, length-append, length-drop}
use Rattle.std.specs.Prelude.{All}
use Rattle.std.proofs.lemmas.Bool.{cases_lt}
use Rattle.std.proofs.lemmas.List.{take-append-drop, take-append-le, length-take-le, append-nil}
use Rattle.std.proofs.lemmas.List.Concat.{flat_map-append}
use Rattle.std.proofs.lemmas.List.Elements.{All-nil, All-head, All-tail, All-push}
use Rattle.std.proofs.lemmas.List.Sums.{sum_by-cons, sum_by-append}
use Rattle.dump_stream.specs.Stream.{Spells}
use Rattle.dump_stream.specs.Reads.{Begins, IsBad}
use Rattle.dump_stream.specs.Inputs.{IsFollowed, HasTaken, HoldsAt}
use Rattle.dump_stream.specs.declared.reader.Reader.{Reader}
use Rattle.dump_stream.specs.declared.input.InputReader.{InputReader}
use Rattle.dump_stream.specs.declared.input.Judged.{Judged}
use Rattle.dump_stream.specs.declared.input.Judged.TheVariants as judgements
use Rattle.dump_stream.proofs.InputLaws.{going_begins, ended_begins}
use Rattle.dump_stream.proofs.ReadLaws.{one_stream}
use Rattle.dump_stream.proofs.FeedLaws.{bad_more}
use Rattle.tape_frames.specs.declared.data.DataFields.{DataFields}
use Rattle.tape_frames.specs.Layouts.{FitsData}
use Rattle.tape_writer.specs.Filling.{bytes_of}
use Rattle.archive_model.specs.Plays.{Spot, Piece, pieces_from, HasByte, StopsAt}
use Rattle.restore_chain.specs.declared.play_joined.Site.{Site}
use Rattle.restore_chain.specs.declared.play_joined.Joined.{Joined}
use Rattle.restore_chain.specs.Playing.{joined_bytes, joined_used, spot_of, HasNoted, HasJoined, Joins}

-- ---- lengths

piece_length : (d : DataFields) → FitsData d → length (bytes_of d) ≡ d.used
piece_length d fits = length-take-le d.used d.bytes (omega (arith, fits.size, fits.used.1))

pub bytes_length : (ps : List Piece) → All (λ p. FitsData p.data_frame) ps → length (joined_bytes ps) ≡ joined_used ps
bytes_length [] fit = refl
bytes_length (p ∷ ps) fit = omega (arith, length-append (bytes_of p.data_frame) (joined_bytes ps), piece_length p.data_frame (All-head (λ x. FitsData x.data_frame) p ps fit), bytes_length ps (All-tail (λ x. FitsData x.data_frame) p ps fit), sum_by-cons (λ (x : Piece). x.data_frame.used) p ps)

bytes_more : (ps : List Piece) (p : Piece) → joined_bytes (ps ++ p ∷ []) ≡ joined_bytes ps ++ bytes_of p.data_frame
bytes_more ps p = flat_map-append (λ (x : Piece). bytes_of x.data_frame) ps (p ∷ []) ∙ ap (λ (l : List ℕ). joined_bytes ps ++ l) (append-nil (bytes_of p.data_frame))

-- ---- fronts of streams

begins_front : (n : ℕ) (bytes : List ℕ) → Begins bytes → Begins (take n bytes)
begins_front n bytes b = (drop n bytes ++ b.0, b.1, subst (λ (l : List ℕ). Spells l b.1) (ap (λ (l : List ℕ). l ++ b.0) (sym (take-append-drop n bytes)) ∙ append_assoc (take n bytes) (drop n bytes) b.0) b.2)

-- where bytes begin a stream, and with more behind them they don't, the first byte that is wrong is one of these
pub stops_behind : (bytes more : List ℕ) (at : ℕ) → Begins bytes → StopsAt (bytes ++ more) at → length bytes ≤ at
stops_behind bytes more at begins (inl bad) = elim (cases_lt at (length bytes)) [
  | inl before ↦ absurd (bad.stops (subst Begins (sym (take-append-le (at + 1) bytes more (omega arith))) (begins_front (at + 1) bytes begins)))
  | inr behind ↦ behind
]
stops_behind bytes more at begins (inr whole) = elim (cases_lt at (length bytes)) [
  | inl before ↦
      (let front : Spells (take at bytes) whole.1 = subst (λ (l : List ℕ). Spells l whole.1) (take-append-le at bytes more (omega arith)) whole.2 in
      let all : Spells (take at bytes ++ (drop at bytes ++ begins.0)) begins.1 = subst (λ (l : List ℕ). Spells l begins.1) (ap (λ (l : List ℕ). l ++ begins.0) (sym (take-append-drop at bytes)) ∙ append_assoc (take at bytes) (drop at bytes) begins.0) begins.2 in
      let none : drop at bytes ++ begins.0 ≡ [] = (one_stream (take at bytes) (drop at bytes ++ begins.0) whole.1 begins.1 front all).0 in
      absurd (omega (arith, ap length none, length-append (drop at bytes) begins.0, length-drop at bytes)))
  | inr behind ↦ behind
]

stops_within : (bytes : List ℕ) (at : ℕ) → StopsAt bytes at → at < length bytes
stops_within bytes at (inl bad) = bad.within
stops_within bytes at (inr whole) = whole.0

-- what stops stays so
pub stops_more : (bytes more : List ℕ) (at : ℕ) → StopsAt bytes at → StopsAt (bytes ++ more) at
stops_more bytes more at (inl bad) = inl (bad_more bytes more at bad)
stops_more bytes more at (inr whole) = inr (omega (arith, whole.0, length-append bytes more), whole.1, subst (λ (l : List ℕ). Spells l whole.1) (sym (take-append-le at bytes more (omega (arith, whole.0)))) whole.2)

-- ---- the byte's record

byte_more : (ps : List Piece) (p : Piece) (at : ℕ) (spot : Spot) → HasByte ps at spot → HasByte (ps ++ p ∷ []) at spot
byte_more ps p at spot has = record {
  before = has.before;
  piece = has.piece;
  behind = has.behind ++ p ∷ [];
  joined = ap (λ (l : List Piece). l ++ p ∷ []) has.joined ∙ append_assoc has.before (has.piece ∷ has.behind) (p ∷ []);
  low = has.low;
  high = has.high;
  is = has.is;
}

byte_here : (ps : List Piece) (p : Piece) (at : ℕ) → joined_used ps ≤ at → at < joined_used ps + p.data_frame.used → HasByte (ps ++ p ∷ []) at p.spot
byte_here ps p at low high = record { before = ps; piece = p; behind = []; joined = refl; low = low; high = high; is = refl }

-- ---- one Data more

noted_more : (ps : List Piece) (p : Piece) (j : Joined) (noted : Option Site) → (site : Site) → noted ≡ Some site → HasNoted ps j noted → (at : ℕ) × StopsAt (joined_bytes (ps ++ p ∷ [])) at × HasByte (ps ++ p ∷ []) at (spot_of site)
noted_more ps p j (Some other) site is has =
    let same : other ≡ site = cc in
    (has.0, subst (λ (l : List ℕ). StopsAt l has.0) (sym (bytes_more ps p)) (stops_more (joined_bytes ps) (bytes_of p.data_frame) has.0 has.1), byte_more ps p has.0 (spot_of site) (subst (λ (s : Site). HasByte ps has.0 (spot_of s)) same has.2))
noted_more ps p j None site is has = absurd (cc)

-- where it was noted before
pub joined_noted : (ps : List Piece) (p : Piece) (j : Joined) (site : Site) → j.noted ≡ Some site → FitsData p.data_frame → HasJoined ps j → HasJoined (ps ++ p ∷ []) j
joined_noted ps p j site is fits has = record {
  fit = All-push (λ x. FitsData x.data_frame) ps p has.fit fits;
  noted = subst (HasNoted (ps ++ p ∷ []) j) (sym is) (noted_more ps p j j.noted site is has.noted);
}

-- where this one stops being a stream
pub joined_stops : (ps : List Piece) (p : Piece) (old new : Joined) (site : Site) (at : ℕ) → old.noted ≡ None → new.noted ≡ Some site → spot_of site ≡ p.spot → FitsData p.data_frame → HasJoined ps old → StopsAt (joined_bytes ps ++ bytes_of p.data_frame) at → HasJoined (ps ++ p ∷ []) new
joined_stops ps p old new site at none is spot fits has stops =
    let begins : Begins (joined_bytes ps) = (subst (HasNoted ps old) none has.noted).1 in
    let long = bytes_length ps has.fit in
    let low : joined_used ps ≤ at = omega (arith, long, stops_behind (joined_bytes ps) (bytes_of p.data_frame) at begins stops) in
    let high : at < joined_used ps + p.data_frame.used = omega (arith, long, stops_within (joined_bytes ps ++ bytes_of p.data_frame) at stops, length-append (joined_bytes ps) (bytes_of p.data_frame), piece_length p.data_frame fits) in
    record {
      fit = All-push (λ x. FitsData x.data_frame) ps p has.fit fits;
      noted = subst (HasNoted (ps ++ p ∷ []) new) (sym is) (at, subst (λ (l : List ℕ). StopsAt l at) (sym (bytes_more ps p)) stops, subst (HasByte (ps ++ p ∷ []) at) (sym spot) (byte_here ps p at low high));
    }

pub joined_stopped : (ps : List Piece) (p : Piece) (old new : Joined) (site : Site) (at : ℕ) → old.noted ≡ None → new.noted ≡ Some site → spot_of site ≡ p.spot → FitsData p.data_frame → HasJoined ps old
    → IsBad (joined_bytes ps ++ bytes_of p.data_frame) at ⊎ IsFollowed (joined_bytes ps ++ bytes_of p.data_frame) at → HasJoined (ps ++ p ∷ []) new
joined_stopped ps p old new site at none is spot fits has (inl bad) = joined_stops ps p old new site at none is spot fits has (inl bad)
joined_stopped ps p old new site at none is spot fits has (inr whole) = joined_stops ps p old new site at none is spot fits has (inr whole)

-- where it goes on
pub joined_begins : (ps : List Piece) (p : Piece) (old new : Joined) → new.noted ≡ None → FitsData p.data_frame → HasJoined ps old → HasTaken (joined_bytes ps ++ bytes_of p.data_frame) new.input → Begins (joined_bytes ps ++ bytes_of p.data_frame) → HasJoined (ps ++ p ∷ []) new
joined_begins ps p old new is fits has taken begins = record {
  fit = All-push (λ x. FitsData x.data_frame) ps p has.fit fits;
  noted = subst (HasNoted (ps ++ p ∷ []) new) (sym is) (subst (λ (l : List ℕ). HasTaken l new.input) (sym (bytes_more ps p)) taken, subst Begins (sym (bytes_more ps p)) begins);
}

-- what was taken of a reader that goes on
pub taken_of : (ps : List Piece) (j : Joined) → j.noted ≡ None → HasJoined ps j → HasTaken (joined_bytes ps) j.input
taken_of ps j none has = (subst (HasNoted ps j) none has.noted).0

-- ---- one after the other

pub joins_none : (j : Joined) → Joins [] j j
joins_none j = λ before few has. subst (λ (l : List Piece). HasJoined l j) (sym (append-nil before)) has

pub joins_both : (one two : List Piece) (old mid new : Joined) → Joins one old mid → Joins two mid new → Joins (one ++ two) old new
joins_both one two old mid new first second = λ before few has.
    let all : before ++ (one ++ two) ≡ (before ++ one) ++ two = sym (append_assoc before one two) in
    let few_all : joined_used ((before ++ one) ++ two) ≤ 2 ^ 63 = subst (λ (l : List Piece). joined_used l ≤ 2 ^ 63) all few in
    let few_one : joined_used (before ++ one) ≤ 2 ^ 63 = omega (arith, few_all, sum_by-append (λ (x : Piece). x.data_frame.used) (before ++ one) two) in
    subst (λ (l : List Piece). HasJoined l new) (sym all) (second (before ++ one) few_all (first before few_one has))

pub pieces_more : (tape at : ℕ) (ds : List DataFields) (d : DataFields) (place : ℕ) → place ≡ at + length ds → pieces_from tape at (ds ++ d ∷ []) ≡ pieces_from tape at ds ++ record { spot = record { tape = tape; place = place }; data_frame = d } ∷ []
pieces_more tape at [] d place is = let e : at ≡ place = omega arith in ap (λ (n : ℕ). record { spot = record { tape = tape; place = n }; data_frame = d } ∷ []) e
pieces_more tape at (x ∷ ds) d place is = ap (λ (l : List Piece). record { spot = record { tape = tape; place = at }; data_frame = x } ∷ l) (pieces_more tape (at + 1) ds d place (omega arith))

-- no data begins a stream
begins_nil : (reader : Reader) (judged : Judged) → HoldsAt [] reader judged → Begins []
begins_nil reader judgements.Going held = going_begins [] reader held.0 held.2
begins_nil reader (judgements.Ended at) held = ended_begins [] reader at (omega arith) held
begins_nil reader (judgements.Bad at) held = absurd (let lt = held.within in omega arith)

pub no_data : (input : InputReader) → HasTaken [] input → HasJoined [] (record { input = input; noted = None })
no_data input taken = record { fit = All-nil (λ p. FitsData p.data_frame); noted = (taken, begins_nil input.reader input.judged taken.1) }

-- so many bytes are few
pub few_bytes : (ps : List Piece) (p : Piece) → All (λ x. FitsData x.data_frame) ps → FitsData p.data_frame → joined_used (ps ++ p ∷ []) ≤ 2 ^ 63 → length (joined_bytes ps) + length (bytes_of p.data_frame) < 2 ^ 64
few_bytes ps p fit fits few = omega (arith, few, bytes_length ps fit, piece_length p.data_frame fits, sum_by-append (λ (x : Piece). x.data_frame.used) ps (p ∷ []), sum_by-cons (λ (x : Piece). x.data_frame.used) p [])

-- ---- the end of the data

no_stop : (bytes : List ℕ) (at : ℕ) → Begins bytes → StopsAt bytes at → ⊥
no_stop bytes at begins stops =
    let behind = stops_behind bytes [] at begins (subst (λ (l : List ℕ). StopsAt l at) (sym (append-nil bytes)) stops) in
    absurd (omega (arith, behind, stops_within bytes at stops))

begins_of : (ps : List Piece) (j : Joined) → j.noted ≡ None → HasJoined ps j → Begins (joined_bytes ps)
begins_of ps j none has = (subst (HasNoted ps j) none has.noted).1

pub noted_of : (ps : List Piece) (j : Joined) (site : Site) → j.noted ≡ Some site → HasJoined ps j → (at : ℕ) × StopsAt (joined_bytes ps) at × HasByte ps at (spot_of site)
noted_of ps j site is has = subst (HasNoted ps j) is has.noted

pub not_bad : (ps : List Piece) (j : Joined) (at : ℕ) → j.noted ≡ None → HasJoined ps j → IsBad (joined_bytes ps) at → ⊥
not_bad ps j at none has bad = no_stop (joined_bytes ps) at (begins_of ps j none has) (inl bad)

pub not_followed : (ps : List Piece) (j : Joined) (at : ℕ) → j.noted ≡ None → HasJoined ps j → IsFollowed (joined_bytes ps) at → ⊥
not_followed ps j at none has whole = no_stop (joined_bytes ps) at (begins_of ps j none has) (inr whole)
