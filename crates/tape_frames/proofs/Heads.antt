-- The first eight bytes.
use Rattle.std.proofs.Common.{zero, suc, ◌≡◌, ℕ, ◌+◌, ◌<◌, List, ◌++◌, take, drop, get_or, refl, sym, ap, subst, ◌∙◌, arith, ◌⊎◌, inl, inr}
use Rattle.std.proofs.lemmas.List.{take-append-drop, take-take, get_or-take}
use Rattle.std.proofs.lemmas.Bool.{cases_eq}
use Rattle.tape_frames.specs.declared.kind.Kind.{Kind}
use Rattle.tape_frames.specs.Kinds.{head, version, code}
use Rattle.tape_frames.specs.Heads.{HeadSticks, Differs}

-- but for version and kind, all heads are the same
head_same : (k l : Kind) (at : ℕ) → (at ≡ 4 → ⊥) → (at ≡ 5 → ⊥) → get_or (head k) at 0 ≡ get_or (head l) at 0
head_same k l zero other not = refl
head_same k l (suc zero) other not = refl
head_same k l (suc (suc zero)) other not = refl
head_same k l (suc (suc (suc zero))) other not = refl
head_same k l (suc (suc (suc (suc zero)))) other not = absurd (other refl)
head_same k l (suc (suc (suc (suc (suc zero))))) other not = absurd (not refl)
head_same k l (suc (suc (suc (suc (suc (suc zero)))))) other not = refl
head_same k l (suc (suc (suc (suc (suc (suc (suc zero))))))) other not = refl
head_same k l (suc (suc (suc (suc (suc (suc (suc (suc at)))))))) other not = refl

-- a byte of the front that two lists share
shared : (a b : List ℕ) (n i : ℕ) → i < n → take n a ≡ take n b → get_or a i 0 ≡ get_or b i 0
shared a b n i lt e = sym (get_or-take n a i 0 lt) ∙ ap (λ (x : List ℕ). get_or x i 0) e ∙ get_or-take n b i 0 lt

sticks_here : (k l : Kind) (block : List ℕ) (at : ℕ) → ((m : Kind) → version m ≡ get_or block 4 0 → version k ≡ get_or block 4 0)
    → ((m : Kind) → version m ≡ get_or block 4 0 → code m ≡ get_or block 5 0 → code k ≡ get_or block 5 0)
    → (get_or (head k) at 0 ≡ get_or block at 0 → ⊥) → take (at + 1) (head l) ≡ take (at + 1) block → (at ≡ 4) ⊎ (at ≡ 4 → ⊥) → (at ≡ 5) ⊎ (at ≡ 5 → ⊥) → ⊥
sticks_here k l block at by_version by_code differs same (inl is) five =
    let here : version l ≡ get_or block 4 0 = shared (head l) block (at + 1) 4 (omega (arith, is)) same in
    differs (subst (λ (i : ℕ). get_or (head k) i 0 ≡ get_or block i 0) (sym is) (by_version l here))
sticks_here k l block at by_version by_code differs same (inr other) (inl is) =
    let before : version l ≡ get_or block 4 0 = shared (head l) block (at + 1) 4 (omega (arith, is)) same in
    let here : code l ≡ get_or block 5 0 = shared (head l) block (at + 1) 5 (omega (arith, is)) same in
    differs (subst (λ (i : ℕ). get_or (head k) i 0 ≡ get_or block i 0) (sym is) (by_code l before here))
sticks_here k l block at by_version by_code differs same (inr other) (inr not) = differs (head_same k l at other not ∙ shared (head l) block (at + 1) at (omega arith) same)

pub head_sticks : (k : Kind) (block : List ℕ) (at : ℕ) → ((l : Kind) → version l ≡ get_or block 4 0 → version k ≡ get_or block 4 0)
    → ((l : Kind) → version l ≡ get_or block 4 0 → code l ≡ get_or block 5 0 → code k ≡ get_or block 5 0) → Differs (head k) (take 8 block) at → HeadSticks block at
head_sticks k block at by_version by_code differs =
    let small : at < 8 = differs.0 in
    let not : get_or (head k) at 0 ≡ get_or block at 0 → ⊥ = λ e. differs.2 (e ∙ sym (get_or-take 8 block at 0 small)) in
    let front : take at (head k) ≡ take at block = differs.1 ∙ take-take at 8 block (omega arith) in
    record {
      within = small;
      before = (k, drop at (head k), sym (take-append-drop at (head k)) ∙ ap (λ (x : List ℕ). x ++ drop at (head k)) front);
      here = λ l same. sticks_here k l block at by_version by_code not same (cases_eq at 4) (cases_eq at 5);
    }

pub differs_not : (a b : List ℕ) (at : ℕ) → Differs a b at → a ≡ b → ⊥
differs_not a b at differs e = differs.2 (ap (λ (x : List ℕ). get_or x at 0) e)
