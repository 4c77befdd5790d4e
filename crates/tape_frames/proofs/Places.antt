-- A block is a head and fields: which frame it is, and where it stops being one.
use Rattle.std.proofs.Common.{◌≡◌, ℕ, ◌+◌, ◌-◌, ◌<◌, ◌≤◌, ◌==◌, Bool, true, false, cond, List, [], ◌∷◌, ◌++◌, length, take, drop, get_or, replicate, refl, sym, ap, subst, ◌∙◌, append_assoc, arith, length-append, length-drop}
use Rattle.std.proofs.lemmas.List.{append-nil, length-take-le, take_at, take-append-drop, take-append-le, length-replicate}
use Rattle.bk_text.specs.Places.{FailsAt}
use Rattle.bk_text.proofs.Fails.{stops_at}
use Rattle.byte_formats.specs.Formats.{Took, Sticks, filled}
use Rattle.tape_frames.specs.declared.frame.Frame.{Frame}
use Rattle.tape_frames.specs.declared.frame.Frame.TheVariants as frames
use Rattle.tape_frames.specs.declared.kind.Kind.{Kind}
use Rattle.tape_frames.specs.declared.kind.Kind.TheVariants as kinds
use Rattle.tape_frames.specs.Layouts.{label_bytes, plain_head_bytes, dump_head_bytes, vol_head_bytes, data_bytes, vol_end_bytes, dump_end_bytes}
use Rattle.tape_frames.specs.Blocks.{padded, block_of}
use Rattle.tape_frames.specs.Frames.{Fits, spelling, IsSpelled}
use Rattle.tape_frames.specs.Kinds.{version, code, head, kind_of, fields_of, frame_form}
use Rattle.tape_frames.specs.Heads.{HeadSticks}
use Rattle.tape_frames.proofs.Wraps.{sole_frame}
use Rattle.tape_frames.proofs.Rooms.{short_fields, has_frame}

-- ---- kinds

kind_from : ℕ → ℕ → Kind
kind_from v n = cond (v == 2) kinds.DumpHead (cond (n == 2) kinds.PlainHead (cond (n == 3) kinds.VolHead (cond (n == 4) kinds.Data (cond (n == 5) kinds.VolEnd (cond (n == 6) kinds.DumpEnd kinds.Label)))))

kind_again : (k : Kind) → kind_from (version k) (code k) ≡ k
unfolding kind_from
kind_again kinds.Label = refl
kind_again kinds.PlainHead = refl
kind_again kinds.DumpHead = refl
kind_again kinds.VolHead = refl
kind_again kinds.Data = refl
kind_again kinds.VolEnd = refl
kind_again kinds.DumpEnd = refl

same_kind : (k l : Kind) → version k ≡ version l → code k ≡ code l → k ≡ l
same_kind k l v e = sym (kind_again k) ∙ ap (λ (n : ℕ). kind_from n (code k)) v ∙ ap (kind_from (version l)) e ∙ kind_again l

-- ---- blocks

-- what stands behind the head
abbrev pub body : Frame → List ℕ
body f = fields_of f ++ replicate (16376 - length (fields_of f)) 0

block_split : (k : Kind) (bytes : List ℕ) → padded 16384 (head k ++ bytes) ≡ head k ++ (bytes ++ replicate (16376 - length bytes) 0)
block_split k bytes =
    let count : 16384 - length (head k ++ bytes) ≡ 16376 - length bytes = omega (arith, length-append (head k) bytes) in
    append_assoc (head k) bytes (replicate (16384 - length (head k ++ bytes)) 0) ∙ ap (λ (n : ℕ). head k ++ (bytes ++ replicate n 0)) count

block_head : (b : Bool) (x y : List ℕ) → cond b (block_of 1 2 x) (block_of 2 2 y) ≡ head (cond b kinds.PlainHead kinds.DumpHead) ++ (cond b x y ++ replicate (16376 - length (cond b x y)) 0)
block_head true x y = block_split kinds.PlainHead x
block_head false x y = block_split kinds.DumpHead y

pub block_parts : (f : Frame) → spelling f ≡ head (kind_of f) ++ body f
block_parts (frames.Label a) = block_split kinds.Label (label_bytes a)
block_parts (frames.DumpHead a) = block_head (a.uses == 0) (plain_head_bytes a) (dump_head_bytes a)
block_parts (frames.VolHead a) = block_split kinds.VolHead (vol_head_bytes a)
block_parts (frames.Data a) = block_split kinds.Data (data_bytes a)
block_parts (frames.VolEnd a) = block_split kinds.VolEnd (vol_end_bytes a)
block_parts (frames.DumpEnd a) = block_split kinds.DumpEnd (dump_end_bytes a)

head_code : (k : Kind) (more : List ℕ) → get_or (head k ++ more) 5 0 ≡ code k
head_code k more = refl

head_version : (k : Kind) (more : List ℕ) → get_or (head k ++ more) 4 0 ≡ version k
head_version k more = refl

head_drop : (k : Kind) (more : List ℕ) → drop 8 (head k ++ more) ≡ more
head_drop k more = refl

pub spelled_parts : (k : Kind) (more : List ℕ) (f : Frame) → head k ++ more ≡ spelling f → (kind_of f ≡ k) × (more ≡ body f)
spelled_parts k more f e =
    let e2 : head k ++ more ≡ head (kind_of f) ++ body f = e ∙ block_parts f in
    let codes : code k ≡ code (kind_of f) = sym (head_code k more) ∙ ap (λ (x : List ℕ). get_or x 5 0) e2 ∙ head_code (kind_of f) (body f) in
    let versions : version k ≡ version (kind_of f) = sym (head_version k more) ∙ ap (λ (x : List ℕ). get_or x 4 0) e2 ∙ head_version (kind_of f) (body f) in
    (same_kind (kind_of f) k (sym versions) (sym codes), sym (head_drop k more) ∙ ap (drop 8) e2 ∙ head_drop (kind_of f) (body f))

parted : (k : Kind) (block : List ℕ) → take 8 block ≡ head k → block ≡ head k ++ drop 8 block
parted k block front = sym (take-append-drop 8 block) ∙ ap (λ (x : List ℕ). x ++ drop 8 block) front

body_long : (f : Frame) → Fits f → length (body f) ≡ 16376
body_long f fits =
    let short = short_fields f fits in
    let zeros : List ℕ = replicate (16376 - length (fields_of f)) 0 in
    omega (arith, short, length-append (fields_of f) zeros, length-replicate {A = ℕ} (16376 - length (fields_of f)) 0)

spelled_of : (k : Kind) (f : Frame) → kind_of f ≡ k → head k ++ body f ≡ spelling f
spelled_of k f is = ap (λ (x : Kind). head x ++ body f) (sym is) ∙ sym (block_parts f)

-- ---- answers

pub frame_took : (k : Kind) (block : List ℕ) (f : Frame) → take 8 block ≡ head k → Took (filled 16376 (frame_form k)) (drop 8 block) f [] → Fits f × (block ≡ spelling f)
frame_took k block f front took =
    (took.is.0, parted k block front ∙ ap (λ (x : List ℕ). head k ++ x) (took.joined ∙ append-nil (body f)) ∙ spelled_of k f took.is.1)

-- the bytes before the first bad one, and this
one_more : (k : Kind) (block good : List ℕ) (b : ℕ) (behind : List ℕ) → block ≡ head k ++ (good ++ (b ∷ behind)) → take (8 + length good + 1) block ≡ head k ++ (good ++ (b ∷ []))
one_more k block good b behind is =
    let front : List ℕ = head k ++ (good ++ (b ∷ [])) in
    let whole : block ≡ front ++ behind = is ∙ ap (λ (x : List ℕ). head k ++ x) (sym (append_assoc good (b ∷ []) behind)) ∙ sym (append_assoc (head k) (good ++ (b ∷ [])) behind) in
    let long : length front ≡ 8 + length good + 1 = omega (arith, length-append (head k) (good ++ (b ∷ [])), length-append good (b ∷ [])) in
    ap (take (8 + length good + 1)) whole ∙ take_at front behind (8 + length good + 1) long

none_more : (k : Kind) (block good : List ℕ) (bad : List ℕ) → block ≡ head k ++ (good ++ bad) → take (8 + length good) block ≡ head k ++ good
none_more k block good bad is =
    let long : length (head k ++ good) ≡ 8 + length good = omega (arith, length-append (head k) good) in
    ap (take (8 + length good)) (is ∙ sym (append_assoc (head k) good bad)) ∙ take_at (head k ++ good) bad (8 + length good) long

fails_behind : (k : Kind) (block : List ℕ) (left : ℕ) (s : Sticks (filled 16376 (frame_form k)) (drop 8 block) left) (b : ℕ) (behind : List ℕ) → block ≡ head k ++ drop 8 block → s.bad ≡ b ∷ behind → FailsAt IsSpelled block (8 + length s.good)
fails_behind k block left s b behind parts is =
    let joined : block ≡ head k ++ (s.good ++ (b ∷ behind)) = parts ∙ ap (λ (x : List ℕ). head k ++ x) (s.joined ∙ ap (λ (x : List ℕ). s.good ++ x) is) in
    let lt : 8 + length s.good < length block = omega (arith, ap length joined, length-append (head k) (s.good ++ (b ∷ behind)), length-append s.good (b ∷ behind)) in
    let begun : head k ++ s.good ++ s.more ≡ spelling s.value = append_assoc (head k) s.good s.more ∙ ap (λ (x : List ℕ). head k ++ x) (sym s.begun) ∙ spelled_of k s.value s.is.1 in
    stops_at IsSpelled block (8 + length s.good) lt
    (s.more, (s.value, s.is.0, ap (λ (x : List ℕ). x ++ s.more) (none_more k block s.good (b ∷ behind) joined) ∙ begun))
    (λ (rest, (f, fits, e)).
    let e2 : head k ++ ((s.good ++ (b ∷ [])) ++ rest) ≡ spelling f
    = sym (append_assoc (head k) (s.good ++ (b ∷ [])) rest) ∙ ap (λ (x : List ℕ). x ++ rest) (sym (one_more k block s.good b behind joined)) ∙ e in
    let two = spelled_parts k ((s.good ++ (b ∷ [])) ++ rest) f e2 in
    s.here b behind is f [] rest (fits, two.0) (sym (append_assoc s.good (b ∷ []) rest) ∙ two.1 ∙ sym (append-nil (body f))))

pub frame_sticks : (k : Kind) (block : List ℕ) (left : ℕ) → length block ≡ 16384 → take 8 block ≡ head k → Sticks (filled 16376 (frame_form k)) (drop 8 block) left → (16384 - left < 16384) × FailsAt IsSpelled block (16384 - left)
frame_sticks k block left long front s =
    let goods : length s.good + left ≡ 16376 = omega (arith, s.count, ap length s.joined, length-append s.good s.bad, length-drop 8 block, long) in
    let some : 0 < left = omega (arith, goods, s.wanting, ap length s.begun, length-append s.good s.more, body_long s.value s.is.0) in
    let place : 8 + length s.good ≡ 16384 - left = omega (arith, goods) in
    (omega (arith, some), subst (FailsAt IsSpelled block) place (go s.bad refl (omega (arith, some, s.count))))
  where
    go : (bad : List ℕ) → s.bad ≡ bad → 0 < length bad → FailsAt IsSpelled block (8 + length s.good)
    go [] is lt = absurd (omega (arith, lt))
    go (b ∷ behind) is lt = fails_behind k block left s b behind (parted k block front) is

pub left_small : (k : Kind) (block : List ℕ) (left : ℕ) → length block ≡ 16384 → Sticks (filled 16376 (frame_form k)) (drop 8 block) left → left ≤ 16384
left_small k block left long s = omega (arith, s.count, ap length s.joined, length-append s.good s.bad, length-drop 8 block, long)

-- what a block of a frame begins with
front_of : (f : Frame) (n : ℕ) → n ≤ 8 → take n (spelling f) ≡ take n (head (kind_of f))
front_of f n le = ap (take n) (block_parts f) ∙ take-append-le n (head (kind_of f)) (body f) le

begun_front : (block more : List ℕ) (n : ℕ) → n ≤ length block → take n (take n block ++ more) ≡ take n block
begun_front block more n le = take_at (take n block) more n (length-take-le n block le)

pub head_fails : (block : List ℕ) (at : ℕ) → length block ≡ 16384 → HeadSticks block at → (at < 16384) × FailsAt IsSpelled block at
head_fails block at long s =
    let k = s.before.0 in
    let x = has_frame k in
    let is : head k ++ body x.value ≡ take at block ++ (s.before.1 ++ body x.value) = ap (λ (y : List ℕ). y ++ body x.value) s.before.2 ∙ append_assoc (take at block) s.before.1 (body x.value) in
    let small : at + 1 ≤ 8 = omega (arith, s.within) in (
      omega (arith, s.within),
      stops_at IsSpelled block at (omega (arith, s.within, long)) (s.before.1 ++ body x.value, (x.value, x.is.0, sym is ∙ spelled_of k x.value x.is.1))
          (λ (more, (f, fits, e)). s.here (kind_of f) (sym (front_of f (at + 1) small) ∙ ap (take (at + 1)) (sym e) ∙ begun_front block more (at + 1) (omega (arith, s.within, long)))),
    )

pub same_frame : (f g : Frame) → Fits f → Fits g → spelling f ≡ spelling g → f ≡ g
same_frame f g ff gf e =
    let k = kind_of f in
    let two = spelled_parts k (body f) g (spelled_of k f refl ∙ e) in
    ((sole_frame k).same f g (replicate (16376 - length (fields_of f)) 0) (replicate (16376 - length (fields_of g)) 0) (ff, refl) (gf, two.0) two.1).0
