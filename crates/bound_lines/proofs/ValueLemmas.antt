-- Values that are spelled alike are one value, and their words hold no blank.
use Rattle.std.proofs.Common.{◌≡◌, ℕ, ◌<◌, ◌≤◌, ℤ, [], get_or, lit<, arith}
use Rattle.std.specs.Prelude.{codes}
use Rattle.std.specs.Fmt.{decimal, signed_decimal}
use Rattle.std.specs.Coded.{le_prop}
use mathlib.Core.HLevel.{is_prop→PathP}
use Rattle.grid_model.specs.Sizes.{IsWithin}
use Rattle.grid_model.proofs.OrderLemmas.{le_prop as int_prop}
use Rattle.log_tokens.proofs.NumberLemmas.{one_number}
use Rattle.step_lines.specs.OneSpelling.{IsWord, AreWords, within_word, count_word, count_same, at_index}
use Rattle.sat_model.specs.declared.half_spaces.HalfSpace.{HalfSpace}
use Rattle.sat_model.specs.declared.row_sums.Term.{Term}
use Rattle.sat_model.specs.declared.row_sums.RowSum.{RowSum}
use Rattle.bound_lines.specs.declared.bound_head.BoundHead.{BoundHead}
use Rattle.bound_lines.specs.BoundLines.{bound_words, sum_words}

within_prop : (n : ℕ) (z : ℤ) (p q : IsWithin n z) → p ≡ q
within_prop n z p q = λ i. record {
  low = int_prop _ z p.low q.low i;
  high = int_prop z _ p.high q.high i;
}

-- ---- values

same_half : (a b : HalfSpace) → a.x ≡ b.x → a.y ≡ b.y → a.z ≡ b.z → a.most ≡ b.most → a ≡ b
same_half a b x y z most = λ i. record {
  x = x i;
  y = y i;
  z = z i;
  most = most i;
  x_within = is_prop→PathP (λ j. IsWithin 1000000 (x j)) (λ j. within_prop 1000000 (x j)) a.x_within b.x_within i;
  y_within = is_prop→PathP (λ j. IsWithin 1000000 (y j)) (λ j. within_prop 1000000 (y j)) a.y_within b.y_within i;
  z_within = is_prop→PathP (λ j. IsWithin 1000000 (z j)) (λ j. within_prop 1000000 (z j)) a.z_within b.z_within i;
  most_within = is_prop→PathP (λ j. IsWithin 9000000000000000000 (most j)) (λ j. within_prop 9000000000000000000 (most j)) a.most_within b.most_within i;
}

same_head : (a b : BoundHead) → a.half ≡ b.half → a.sums ≡ b.sums → a ≡ b
same_head a b half sums = λ i. record {
  half = half i;
  sums = sums i;
  some_sums = is_prop→PathP (λ j. 1 ≤ sums j) (λ j. le_prop) a.some_sums b.some_sums i;
  few_sums = is_prop→PathP (λ j. sums j ≤ 64) (λ j. le_prop) a.few_sums b.few_sums i;
}

same_term : (a b : Term) → a.place ≡ b.place → a.multiplier ≡ b.multiplier → a ≡ b
same_term a b place multiplier = λ i. record {
  place = place i;
  multiplier = multiplier i;
  place_low = is_prop→PathP (λ j. place j < 64) (λ j. le_prop) a.place_low b.place_low i;
  multiplier_within = is_prop→PathP (λ j. IsWithin 1048576 (multiplier j)) (λ j. within_prop 1048576 (multiplier j)) a.multiplier_within b.multiplier_within i;
}

same_sum : (a b : RowSum) → a.aim ≡ b.aim → a.first ≡ b.first → a.second ≡ b.second
    → a.third ≡ b.third → a.fourth ≡ b.fourth → a.fifth ≡ b.fifth → a ≡ b
same_sum a b aim first second third fourth fifth = λ i. record {
  aim = aim i;
  first = first i;
  second = second i;
  third = third i;
  fourth = fourth i;
  fifth = fifth i;
  aim_low = is_prop→PathP (λ j. aim j ≤ 17592186044416) (λ j. le_prop) a.aim_low b.aim_low i;
}

-- ---- from their words

term_from : (a b : Term) → decimal a.place ≡ decimal b.place
    → signed_decimal a.multiplier ≡ signed_decimal b.multiplier → a ≡ b
term_from a b p q =
    same_term a b (count_same 63 a.place b.place (lit< tt) (omega (arith, a.place_low)) (omega (arith, b.place_low)) p)
    (one_number 1048576 a.multiplier b.multiplier (lit< tt) a.multiplier_within b.multiplier_within q)

pub one_head : (a b : BoundHead) → bound_words a ≡ bound_words b → a ≡ b
one_head a b e =
    let w : (k : ℕ) → get_or (bound_words a) k [] ≡ get_or (bound_words b) k [] = λ k. at_index k (bound_words a) (bound_words b) e in
    let component = λ (m n : ℤ) (f : IsWithin 1000000 m) (g : IsWithin 1000000 n). one_number 1000000 m n (lit< tt) f g in
    same_head a b
    (same_half a.half b.half (component a.half.x b.half.x a.half.x_within b.half.x_within (w 0)) (component a.half.y b.half.y a.half.y_within b.half.y_within (w 1))
    (component a.half.z b.half.z a.half.z_within b.half.z_within (w 2)) (one_number 9000000000000000000 a.half.most b.half.most (lit< tt) a.half.most_within b.half.most_within (w 3)))
    (count_same 64 a.sums b.sums (lit< tt) a.few_sums b.few_sums (w 4))

pub one_sum : (a b : RowSum) → sum_words a ≡ sum_words b → a ≡ b
one_sum a b e =
    let w : (k : ℕ) → get_or (sum_words a) k [] ≡ get_or (sum_words b) k [] = λ k. at_index k (sum_words a) (sum_words b) e in
    same_sum a b (count_same 17592186044416 a.aim b.aim (lit< tt) a.aim_low b.aim_low (w 0))
    (term_from a.first b.first (w 1) (w 2)) (term_from a.second b.second (w 3) (w 4)) (term_from a.third b.third (w 5) (w 6))
    (term_from a.fourth b.fourth (w 7) (w 8)) (term_from a.fifth b.fifth (w 9) (w 10))

-- ---- words

place_word : (t : Term) → IsWord (decimal t.place)
place_word t = count_word 63 t.place (lit< tt) (omega (arith, t.place_low))

multiplier_word : (t : Term) → IsWord (signed_decimal t.multiplier)
multiplier_word t = within_word 1048576 t.multiplier (lit< tt) t.multiplier_within

pub head_are : (h : BoundHead) → AreWords (bound_words h)
head_are h = (
  within_word 1000000 h.half.x (lit< tt) h.half.x_within,
  (
    within_word 1000000 h.half.y (lit< tt) h.half.y_within,
    (
      within_word 1000000 h.half.z (lit< tt) h.half.z_within,
      (
        within_word 9000000000000000000 h.half.most (lit< tt) h.half.most_within,
        (count_word 64 h.sums (lit< tt) h.few_sums, tt),
      ),
    ),
  ),
)

pub sum_are : (s : RowSum) → AreWords (sum_words s)
sum_are s = (
  count_word 17592186044416 s.aim (lit< tt) s.aim_low,
  (
    place_word s.first,
    (
      multiplier_word s.first,
      (
        place_word s.second,
        (
          multiplier_word s.second,
          (
            place_word s.third,
            (
              multiplier_word s.third,
              (
                place_word s.fourth,
                (
                  multiplier_word s.fourth,
                  (place_word s.fifth, (multiplier_word s.fifth, tt)),
                ),
              ),
            ),
          ),
        ),
      ),
    ),
  ),
)

pub bound_is : IsWord (codes "bound")
bound_is = (lit< tt, (lit< tt, (lit< tt, (lit< tt, (lit< tt, tt)))))

pub by_is : IsWord (codes "by")
by_is = (lit< tt, (lit< tt, tt))
