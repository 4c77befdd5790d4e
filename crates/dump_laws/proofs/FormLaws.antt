-- The frames that a dump puts fit, by the forms of its fields.
use Rattle.std.proofs.Common.{◌≡◌, ℕ, zero, suc, ◌-◌, ◌<◌, ◌≤◌, Option, Some, None, List, [], ◌∷◌, ◌++◌, length, take, drop, refl, arith, length-append}
use Rattle.std.specs.Prelude.{All, replicate}
use Rattle.std.proofs.lemmas.List.Elements.{All-nil, All-cons, All-head, All-tail}
use Rattle.tape_frames.specs.declared.label.LabelFields.{LabelFields}
use Rattle.tape_frames.specs.declared.dump_head.DumpHeadFields.{DumpHeadFields}
use Rattle.tape_frames.specs.Layouts.{FitsDumpHead, FitsData, FitsVolEnd, FitsDumpEnd}
use Rattle.tape_text.specs.Items.{Item}
use Rattle.tape_scan.proofs.ListLaws.{All_join}
use Rattle.dump_job.specs.declared.fields.Hand.{Hand}
use Rattle.dump_job.specs.declared.fields.JobFields.{JobFields}
use Rattle.dump_job.specs.Taping.{uses_by, head_with}
use Rattle.dump_job.specs.Volumes.{next_used, next_piece, fragment_end}
use Rattle.dump_job.specs.Ending.{part_end}
use Rattle.dump_laws.specs.Keeping.{IsFormedHand}

pub end_fits : (j : JobFields) (more : ℕ) → FitsDumpHead j.head → more ≤ 1 → FitsDumpEnd (part_end more j)
end_fits j more head le = record { dump = head.id; tape = head.tape.1; more = le }

pub fragment_end_fits : (h : Hand) (last : ℕ) → IsFormedHand h → last ≤ 1 → FitsVolEnd (fragment_end last h)
fragment_end_fits h last form le = record { dump = form.head.dump; index = form.head.index; fragment = form.head.fragment.1; last = le; bytes = form.count }

-- ---- a piece

length_front : (n : ℕ) (xs : List ℕ) → n ≤ length xs → length (take n xs) ≡ n
length_front zero xs le = refl
length_front (suc n) [] le = absurd (omega (arith, le))
length_front (suc n) (x ∷ xs) le = omega (arith, length_front n xs (omega (arith, le)))

all_front : (n : ℕ) (xs : List ℕ) → All (λ b. b < 256) xs → All (λ b. b < 256) (take n xs)
all_front zero xs all = All-nil (λ (b : ℕ). b < 256)
all_front (suc n) [] all = All-nil (λ (b : ℕ). b < 256)
all_front (suc n) (x ∷ xs) all = All-cons (λ (b : ℕ). b < 256) x (take n xs) (All-head (λ (b : ℕ). b < 256) x xs all) (all_front n xs (All-tail (λ (b : ℕ). b < 256) x xs all))

all_zeros : (n : ℕ) → All (λ b. b < 256) (replicate n 0)
all_zeros zero = All-nil (λ (b : ℕ). b < 256)
all_zeros (suc n) = All-cons (λ (b : ℕ). b < 256) 0 (replicate n 0) (omega arith) (all_zeros n)

length_zeros : (n : ℕ) → length {A = ℕ} (replicate n 0) ≡ n
length_zeros zero = refl
length_zeros (suc n) = omega (arith, length_zeros n)

drop_front : (xs ys : List ℕ) (n : ℕ) → length xs ≡ n → drop n (xs ++ ys) ≡ ys
drop_front [] ys zero long = refl
drop_front [] ys (suc n) long = absurd (omega (arith, long))
drop_front (x ∷ xs) ys zero long = absurd (omega (arith, long))
drop_front (x ∷ xs) ys (suc n) long = drop_front xs ys n (omega (arith, long))

some_long : (xs : List ℕ) → (xs ≡ [] → ⊥) → 1 ≤ length xs
some_long [] some = absurd (some refl)
some_long (x ∷ xs) some = omega arith

pub piece_fits : (h : Hand) → IsFormedHand h → (h.stream ≡ [] → ⊥) → FitsData (next_piece h)
piece_fits h form some =
    let n : ℕ = next_used h in
    let within : n ≤ length h.stream = omega arith in
    let long : length (take n h.stream) ≡ n = length_front n h.stream within in
    let least : 1 ≤ length h.stream = some_long h.stream some in
    let most : n ≤ 16352 = omega arith in
    record {
      dump = form.head.dump;
      index = form.head.index;
      used = (omega (arith, least), most);
      size = omega (arith, length-append (take n h.stream) (replicate (16352 - n) 0), long, length_zeros (16352 - n), most);
      bytes = All_join (λ (b : ℕ). b < 256) (take n h.stream) (replicate (16352 - n) 0) (all_front n h.stream form.bytes) (all_zeros (16352 - n));
      rest = drop_front (take n h.stream) (replicate (16352 - n) 0) n long;
    }

-- ---- a head with the uses of its tape

pub head_fits : (h : DumpHeadFields) (label : Option LabelFields) (old : List Item) → FitsDumpHead h → FitsDumpHead (head_with (uses_by label h.uses old) h)
head_fits h None old form = form
head_fits h (Some label) old form = record {
  id = form.id;
  initial = form.initial;
  parent = form.parent;
  expires = form.expires;
  tape = form.tape;
  part = form.part;
  volumes = form.volumes;
  set = form.set;
  level = form.level;
  base = form.base;
  cell = form.cell;
  permanent = form.permanent;
  uses = omega arith;
  plain = λ none. absurd (omega (arith, none));
}
