-- What the code takes of a tape's items, record by record.
use Rattle.std.proofs.Common.{◌≡◌, ℕ, zero, suc, ◌+◌, ◌<◌, ◌≤◌, Bool, Option, Some, None, List, [], ◌∷◌, ◌++◌, length, take, refl, sym, ap, subst, ◌∙◌, arith, inl, inr, length-take}
use Rattle.std.specs.Prelude.{Result, Err, slice_get, nat_lt, ◌==◌, if◌then◌else◌}
use Rattle.std.proofs.lemmas.Bool.{cases_Bool, lt-ltb, le-ltb}
use Rattle.plant_core.specs.Crashes.{State}
use Rattle.plant_core.specs.Effects.{settles, come, putting_away}
use Rattle.plant_core.specs.Records.{Record, block_with, mark, bad}
use Rattle.tape_frames.specs.declared.data.DataFields.{DataFields}
use Rattle.tape_frames.specs.declared.frame.Frame.TheVariants as frames
use Rattle.tape_text.specs.Items.{Item, Says, Filemark, Nothing, ReadsAs, Read, IsFitItem}
use Rattle.tape_scan.specs.declared.scanning_walk.Walk.{Walk}
use Rattle.tape_scan.specs.declared.scanning_walk.Walk.TheVariants as walks
use Rattle.tape_scan.specs.declared.scanning_walk.TapeItem.{TapeItem}
use Rattle.tape_scan.specs.declared.scanning_walk.TapeItem.TheVariants as read
use Rattle.tape_scan.specs.Steps.{IsOf, ReadsAt, Continues, after, marks_in, Walks, Walked}

-- ---- the tape stays

-- what is settled when another tape is loaded changes no records
pub same_records : (loaded : Option ℕ) (slot : ℕ) (s : State) (k : ℕ) → (come (putting_away loaded slot) s).tape k ≡ s.tape k
same_records None slot s k = refl
same_records (Some j) slot s k = elim (cases_Bool (j == slot)) [
  | inl is ↦ ap (λ (b : Bool). (come (if b then [] else settles j ∷ []) s).tape k) is
  | inr other ↦ ap (λ (b : Bool). (come (if b then [] else settles j ∷ []) s).tape k) other
]

pub stop_there : (place long : ℕ) → place < long → Some place ≡ (if nat_lt place long then Some place else None)
stop_there place long lt = sym (ap (λ (b : Bool). if b then Some place else None) (lt-ltb place long lt))

pub no_stop : (place long : ℕ) → long ≤ place → None ≡ (if nat_lt place long then Some place else None)
no_stop place long le = sym (ap (λ (b : Bool). if b then Some place else None) (le-ltb place long le))

-- ---- errors

same_error : {T E : Type 0} (e f : E) → (let r : Result T E = Err e in r) ≡ Err f → e ≡ f
same_error e f is = cc

-- what is so at one error is so where that error is handed on
pub handed_at : {T U E : Type 0} (one e : E) (r : Result U E) (Q : Type 0) → r ≡ Err e → ((let q : Result T E = Err e in q) ≡ Err one → Q) → r ≡ Err one → Q
handed_at {E = E} one e r Q is next that = next (ap (λ (x : E). Err x) (same_error e one (sym is ∙ that)))

-- ---- what was read

-- of whatever was read there is an item
pub some_item : (item : TapeItem) → (said : Item) × IsOf item said
some_item (read.Label a) = (Says (frames.Label a), refl)
some_item (read.DumpHead a) = (Says (frames.DumpHead a), refl)
some_item (read.VolHead a) = (Says (frames.VolHead a), refl)
some_item (read.Piece p) =
    let d : DataFields = record { dump = p.dump; index = p.index; used = p.used; bytes = [] } in
    (Says (frames.Data d), (d, refl, record { dump = refl; index = refl; used = refl }))
some_item (read.VolEnd a) = (Says (frames.VolEnd a), refl)
some_item (read.DumpEnd a) = (Says (frames.DumpEnd a), refl)
some_item read.Filemark = (Filemark, refl)
some_item read.Nothing = (Nothing, refl)

-- ---- marks

-- a mark more at most
pub marks_after : (at : ℕ) (walk : Walk) (item : Item) → Continues walk item → marks_in walk ≤ at → marks_in (after at walk item) ≤ at + 1
marks_after at (walks.Nothing) (Says (frames.Label x)) goes le = omega arith
marks_after at (walks.Nothing) (Says (frames.DumpHead x)) goes le = absurd goes
marks_after at (walks.Nothing) (Says (frames.VolHead x)) goes le = absurd goes
marks_after at (walks.Nothing) (Says (frames.Data x)) goes le = absurd goes
marks_after at (walks.Nothing) (Says (frames.VolEnd x)) goes le = absurd goes
marks_after at (walks.Nothing) (Says (frames.DumpEnd x)) goes le = absurd goes
marks_after at (walks.Nothing) Filemark goes le = absurd goes
marks_after at (walks.Nothing) Nothing goes le = absurd goes
marks_after at (walks.Labeled l) (Says g) goes le = absurd goes
marks_after at (walks.Labeled l) Filemark goes le = omega arith
marks_after at (walks.Labeled l) Nothing goes le = absurd goes
marks_after at (walks.Between t) (Says (frames.Label x)) goes le = absurd goes
marks_after at (walks.Between t) (Says (frames.DumpHead x)) goes le = omega arith
marks_after at (walks.Between t) (Says (frames.VolHead x)) goes le = absurd goes
marks_after at (walks.Between t) (Says (frames.Data x)) goes le = absurd goes
marks_after at (walks.Between t) (Says (frames.VolEnd x)) goes le = absurd goes
marks_after at (walks.Between t) (Says (frames.DumpEnd x)) goes le = absurd goes
marks_after at (walks.Between t) Filemark goes le = absurd goes
marks_after at (walks.Between t) Nothing goes le = absurd goes
marks_after at (walks.InPart t p) (Says (frames.Label x)) goes le = absurd goes
marks_after at (walks.InPart t p) (Says (frames.DumpHead x)) goes le = absurd goes
marks_after at (walks.InPart t p) (Says (frames.VolHead x)) goes le = omega arith
marks_after at (walks.InPart t p) (Says (frames.Data x)) goes le = absurd goes
marks_after at (walks.InPart t p) (Says (frames.VolEnd x)) goes le = absurd goes
marks_after at (walks.InPart t p) (Says (frames.DumpEnd x)) goes le = omega arith
marks_after at (walks.InPart t p) Filemark goes le = absurd goes
marks_after at (walks.InPart t p) Nothing goes le = absurd goes
marks_after at (walks.InFragment t p f) (Says (frames.Label x)) goes le = absurd goes
marks_after at (walks.InFragment t p f) (Says (frames.DumpHead x)) goes le = absurd goes
marks_after at (walks.InFragment t p f) (Says (frames.VolHead x)) goes le = absurd goes
marks_after at (walks.InFragment t p f) (Says (frames.Data x)) goes le = omega arith
marks_after at (walks.InFragment t p f) (Says (frames.VolEnd x)) goes le = omega arith
marks_after at (walks.InFragment t p f) (Says (frames.DumpEnd x)) goes le = absurd goes
marks_after at (walks.InFragment t p f) Filemark goes le = absurd goes
marks_after at (walks.InFragment t p f) Nothing goes le = absurd goes
marks_after at (walks.BehindFragment t p) (Says g) goes le = absurd goes
marks_after at (walks.BehindFragment t p) Filemark goes le = omega arith
marks_after at (walks.BehindFragment t p) Nothing goes le = absurd goes
marks_after at (walks.BehindPart t p more) (Says g) goes le = absurd goes
marks_after at (walks.BehindPart t p more) Filemark goes le = omega arith
marks_after at (walks.BehindPart t p more) Nothing goes le = absurd goes

-- ---- what continues a text fits

nothing_stops : (walk : Walk) → Continues walk Nothing → IsFitItem Nothing
nothing_stops (walks.Nothing) goes = goes
nothing_stops (walks.Labeled l) goes = goes
nothing_stops (walks.Between t) goes = goes
nothing_stops (walks.InPart t p) goes = goes
nothing_stops (walks.InFragment t p f) goes = goes
nothing_stops (walks.BehindFragment t p) goes = goes
nothing_stops (walks.BehindPart t p more) goes = goes

pub fit_by_reading : (walk : Walk) (r : Record) (item : Item) → ReadsAs r item → Continues walk item → IsFitItem item
fit_by_reading walk (block_with bytes) (Says f) reads goes = reads.0
fit_by_reading walk (block_with bytes) Filemark reads goes = tt
fit_by_reading walk (block_with bytes) Nothing reads goes = nothing_stops walk goes
fit_by_reading walk mark (Says f) reads goes = absurd reads
fit_by_reading walk mark Filemark reads goes = tt
fit_by_reading walk mark Nothing reads goes = nothing_stops walk goes
fit_by_reading walk bad (Says f) reads goes = absurd reads
fit_by_reading walk bad Filemark reads goes = tt
fit_by_reading walk bad Nothing reads goes = nothing_stops walk goes

-- ---- items of records

pub read_long : (rs : List Record) (items : List Item) → Read rs items → length items ≡ length rs
read_long [] [] read = refl
read_long [] (i ∷ items) read = absurd read
read_long (r ∷ rs) [] read = absurd read
read_long (r ∷ rs) (i ∷ items) read = (let rest = read_long rs items read.1 in omega (arith, rest))

-- a record says one thing
abbrev pub OneItem : Type 0
OneItem = (r : Record) (i j : Item) → ReadsAs r i → ReadsAs r j → i ≡ j

pub read_there : OneItem → (rs : List Record) (items : List Item) (n : ℕ) (item : Item) → Read rs items → ReadsAt rs n item → slice_get items n ≡ Some item
read_there one [] [] n item read there = absurd (let none : None ≡ Some there.found = there.is in cc)
read_there one [] (i ∷ items) n item read there = absurd read
read_there one (r ∷ rs) [] n item read there = absurd read
read_there one (r ∷ rs) (i ∷ items) zero item read there =
    let same : r ≡ there.found = (let e : Some r ≡ Some there.found = there.is in cc) in
    ap Some (one r i item read.0 (subst (λ (x : Record). ReadsAs x item) (sym same) there.reads))
read_there one (r ∷ rs) (i ∷ items) (suc n) item read there = read_there one rs items n item read.1 (record { found = there.found; is = there.is; reads = there.reads })

-- ---- one item more

walks_push : (walk : Walk) (at : ℕ) (items : List Item) (now : Walk) (item : Item) (place : ℕ) → place ≡ at + length items → Walks walk at items now → IsFitItem item → Continues now item → Walks walk at (items ++ item ∷ []) (after place now item)
walks_push walk at [] now item place same is fit goes =
    let here : at ≡ place = omega (arith, same) in
    (fit, subst (λ (w : Walk). Continues w item) is goes, ap (λ (n : ℕ). after n now item) (sym here) ∙ ap (λ (w : Walk). after at w item) is)
walks_push walk at (i ∷ items) now item place same is fit goes = (is.0, is.1, walks_push (after at walk i) (at + 1) items now item place (omega (arith, same)) is.2 fit goes)

take_suc : (items : List Item) (n : ℕ) (item : Item) → slice_get items n ≡ Some item → take (suc n) items ≡ take n items ++ item ∷ []
take_suc [] n item there = absurd (let none : None ≡ Some item = there in cc)
take_suc (x ∷ items) zero item there =
    let same : x ≡ item = (let e : Some x ≡ Some item = there in cc) in
    ap (λ (y : Item). y ∷ []) same
take_suc (x ∷ items) (suc n) item there = ap (λ (l : List Item). x ∷ l) (take_suc items n item there)

take_push : (items : List Item) (n : ℕ) (item : Item) → slice_get items n ≡ Some item → take (n + 1) items ≡ take n items ++ item ∷ []
take_push items n item there = (let same : n + 1 ≡ suc n = omega arith in ap (λ (k : ℕ). take k items) same ∙ take_suc items n item there)

within : (items : List Item) (n : ℕ) (item : Item) → slice_get items n ≡ Some item → n < length items
within [] n item there = absurd (let none : None ≡ Some item = there in cc)
within (x ∷ items) zero item there = omega arith
within (x ∷ items) (suc n) item there = (let rest = within items n item there in omega (arith, rest))

past_end : (items : List Item) (n : ℕ) (item : Item) → length items ≤ n → slice_get items n ≡ Some item → ⊥
past_end items n item le there = absurd (omega (arith, le, within items n item there))

pub taken_more : OneItem → (rs : List Record) (items : List Item) (n : ℕ) (walk : Walk) (item : Item) → Read rs items → ReadsAt rs n item → Continues walk item → Walks walks.Nothing 0 (take n items) walk → Walks walks.Nothing 0 (take (n + 1) items) (after n walk item)
taken_more one rs items n walk item read there goes is =
    let found : slice_get items n ≡ Some item = read_there one rs items n item read there in
    let long : n ≡ 0 + length (take n items) = omega (arith, within items n item found, length-take n items) in
    subst (λ (l : List Item). Walks walks.Nothing 0 l (after n walk item)) (sym (take_push items n item found)) (walks_push walks.Nothing 0 (take n items) walk item n long is (fit_by_reading walk there.found item there.reads goes) goes)

-- the scan stops at a record
pub stopped : OneItem → (rs : List Record) (items : List Item) (n : ℕ) (walk : Walk) (item : Item) → Read rs items → ReadsAt rs n item → (Continues walk item → ⊥) → Walks walks.Nothing 0 (take n items) walk → Walked items n walk
stopped one rs items n walk item read there ends taken =
    let found : slice_get items n ≡ Some item = read_there one rs items n item read there in
    record {
      within = omega (arith, within items n item found);
      taken = taken;
      stops = λ other at goes. (let same : item ≡ other = (let e : Some item ≡ Some other = sym found ∙ at in cc) in ends (subst (λ (x : Item). Continues walk x) (sym same) goes));
    }

-- or at the end of the tape
pub ended : (rs : List Record) (items : List Item) (n : ℕ) (walk : Walk) → Read rs items → n ≡ length rs → Walks walks.Nothing 0 (take n items) walk → Walked items n walk
ended rs items n walk read end is = record {
  within = omega (arith, end, read_long rs items read);
  taken = is;
  stops = λ item at goes. past_end items n item (omega (arith, end, read_long rs items read)) at;
}

-- ---- every tape is read

said : (r : Record) → ((item : Item) → ReadsAs r item → ⊥) → ⊥
said (block_with bytes) never = never Nothing (λ spelled. never (Says spelled.0) (spelled.1, spelled.2))
said mark never = never Filemark tt
said bad never = never Nothing tt

pub not_unread : (tape : List Record) → ((items : List Item) → Read tape items → ⊥) → ⊥
not_unread [] never = never [] tt
not_unread (r ∷ tape) never = said r (λ item reads. not_unread tape (λ items read. never (item ∷ items) (reads, read)))
