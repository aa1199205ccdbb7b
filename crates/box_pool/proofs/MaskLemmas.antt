-- The bits of a mask.
use Rattle.std.proofs.Common.{◌≡◌, ◌≢◌, ℕ, zero, suc, ◌+◌, ◌*◌, ◌^◌, ◌<◌, ◌≤◌, List, [], ◌∷◌, length, get_or, set, replicate, cond, arith, refl, sym, ap, inl, inr, ◌∙◌}
use Rattle.std.proofs.lemmas.Bool.{cases_eq, eq-eqb, ne_eqb}
use Rattle.std.proofs.lemmas.Nat.{pow_pos, pow_below}
use Rattle.std.proofs.Math.Nat.{pow-succ'}
use Rattle.box_pool.specs.Masks.{flag, mask_of}

pub no_flag : (n : ℕ) → n ≡ 0 → flag n ≡ 0
no_flag n e = ap (λ t. cond t 0 1) (eq-eqb n 0 e)

pub one_flag : (n : ℕ) → n ≢ 0 → flag n ≡ 1
one_flag n ne = ap (λ t. cond t 0 1) (ne_eqb n 0 ne)

flag_small : (n : ℕ) → flag n ≤ 1
flag_small n = elim (cases_eq n 0) [
  | inl e ↦ omega (arith, no_flag n e)
  | inr ne ↦ omega (arith, one_flag n ne)
]

flag_zero : (n : ℕ) → flag n ≡ 0 → n ≡ 0
flag_zero n e = elim (cases_eq n 0) [
  | inl z ↦ z
  | inr ne ↦ absurd (omega (arith, one_flag n ne, e))
]

power_suc : (i : ℕ) → 2 ^ suc i ≡ 2 * 2 ^ i
power_suc i = pow-succ' 2 i

-- a list gets its first node
pub mask_more : (ns : List ℕ) (i m : ℕ) → i < length ns → get_or ns i 0 ≡ 0 → m ≢ 0
    → mask_of (set ns i m) ≡ mask_of ns + 2 ^ i
unfolding mask_of
mask_more [] i m lt none some = absurd (omega arith)
mask_more (n ∷ ns) zero m lt none some = omega (arith, no_flag n none, one_flag m some)
mask_more (n ∷ ns) (suc i) m lt none some = omega (arith, mask_more ns i m (omega arith) none some, power_suc i)

-- a list loses its last node
pub mask_less : (ns : List ℕ) (i m : ℕ) → i < length ns → get_or ns i 0 ≢ 0 → m ≡ 0
    → mask_of (set ns i m) + 2 ^ i ≡ mask_of ns
unfolding mask_of
mask_less [] i m lt some none = absurd (omega arith)
mask_less (n ∷ ns) zero m lt some none = omega (arith, one_flag n some, no_flag m none)
mask_less (n ∷ ns) (suc i) m lt some none = omega (arith, mask_less ns i m (omega arith) some none, power_suc i)

-- a list keeps having a node
pub mask_same : (ns : List ℕ) (i m : ℕ) → i < length ns → get_or ns i 0 ≢ 0 → m ≢ 0
    → mask_of (set ns i m) ≡ mask_of ns
unfolding mask_of
mask_same [] i m lt some still = absurd (omega arith)
mask_same (n ∷ ns) zero m lt some still = omega (arith, one_flag n some, one_flag m still)
mask_same (n ∷ ns) (suc i) m lt some still = omega (arith, mask_same ns i m (omega arith) some still)

pub mask_small : (ns : List ℕ) → mask_of ns < 2 ^ length ns
unfolding mask_of
mask_small [] = omega arith
mask_small (n ∷ ns) = omega (arith, mask_small ns, flag_small n, power_suc (length ns))

pub mask_zero : (ns : List ℕ) (k : ℕ) → mask_of ns ≡ 0 → get_or ns k 0 ≡ 0
unfolding mask_of
mask_zero [] k e = refl
mask_zero (n ∷ ns) zero e = flag_zero n (omega (arith, e))
mask_zero (n ∷ ns) (suc k) e = mask_zero ns k (omega (arith, e))

pub mask_top : (ns : List ℕ) (j : ℕ) → 2 ^ j ≤ mask_of ns → mask_of ns < 2 ^ suc j
    → (get_or ns j 0 ≢ 0) × ((k : ℕ) → j < k → get_or ns k 0 ≡ 0)
unfolding mask_of
mask_top [] j low high = absurd (omega (arith, low, pow_pos j))
mask_top (n ∷ ns) zero low high = ((λ e. absurd (omega (arith, low, high, no_flag n e))), later)
  where
    later : (k : ℕ) → 0 < k → get_or (n ∷ ns) k 0 ≡ 0
    later zero lt = absurd (omega arith)
    later (suc k) lt = mask_zero ns k (omega (arith, high, low))
mask_top (n ∷ ns) (suc j) low high =
    let inner = mask_top ns j (omega (arith, low, power_suc j, flag_small n)) (omega (arith, high, power_suc (suc j), flag_small n)) in
    (inner.0, later inner.1)
  where
    later : ((k : ℕ) → j < k → get_or ns k 0 ≡ 0) → (k : ℕ) → suc j < k → get_or (n ∷ ns) k 0 ≡ 0
    later rest zero lt = absurd (omega arith)
    later rest (suc k) lt = rest k (omega (arith, lt))

-- the mask after a list lost a node
pub mask_after : (ns : List ℕ) (i left mask after : ℕ) → i < length ns → get_or ns i 0 ≢ 0
    → mask ≡ mask_of ns
    → (left ≡ 0 → after + 2 ^ i ≡ mask) → (left ≢ 0 → after ≡ mask)
    → after ≡ mask_of (set ns i left)
mask_after ns i left mask after lt some is emptied same = elim (cases_eq left 0) [
  | inl e ↦ let less = mask_less ns i left lt some e in let cut = emptied e in omega (arith, less, cut, is)
  | inr ne ↦ same ne ∙ is ∙ sym (mask_same ns i left lt some ne)
]

-- the bit of a list that has a node
pub has_bit : (ns : List ℕ) (i : ℕ) → i < length ns → get_or ns i 0 ≢ 0 → 2 ^ i ≤ mask_of ns
has_bit ns i lt some = let less = mask_less ns i 0 lt some refl in omega (arith, less)

pub mask_room : (ns : List ℕ) (i : ℕ) → i < length ns → length ns ≡ 48 → mask_of ns + 2 ^ i < 2 ^ 64
mask_room ns i lt e =
    let low = mask_small ns in let bit = pow_below i (length ns) lt in
    let high : 2 ^ length ns ≡ 2 ^ 48 = ap (λ k. 2 ^ k) e in
    omega (arith, low, bit, high)

pub mask_none : (n : ℕ) → mask_of (replicate n 0) ≡ 0
unfolding mask_of
mask_none zero = refl
mask_none (suc n) = omega (arith, mask_none n)
