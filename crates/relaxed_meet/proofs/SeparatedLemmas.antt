-- Offsets that part the clock spans show that no number lies in enough of them.
use Rattle.std.proofs.Common.{◌≡◌, ℕ, ◌+◌, ◌-◌, ◌≤◌, arith, List, [], ◌∷◌, length, count_by, cond, Bool, true, false, refl}
use Rattle.std.specs.Prelude.{ℤ, pos, ◌-ℤ◌, ◌≤ℤ◌, ◌<ℤ◌}
use Rattle.std.proofs.lemmas.Int.{ints, by_lt_z}
use Rattle.std.proofs.lemmas.List.{length-map}
use Rattle.std.proofs.lemmas.List.Sums.{sum_by-cons}
use lib.Signed.{le_z, lt_z}
use Rattle.sat_model.specs.declared.rows.Row.{Row}
use Rattle.grid_model.specs.declared.boxes.Box3.{Box3}
use Rattle.grid_model.specs.Boxes.{grid_box}
use Rattle.sat_model.specs.ClockSpans.{clock_spans, clock_ends}
use Rattle.sat_model.specs.Relaxed.{holds, LiesInRelaxed}
use Rattle.sat_model.proofs.ClockLemmas.{near_le_far}
use Rattle.grid_model.proofs.PointLemmas.{le_from}
use Rattle.relaxed_meet.specs.Separated.{lows_above, highs_to, NoneLiesBetween}
use Rattle.std.proofs.lemmas.Bool.{and_parts as both}

abbrev pub AreOrdered : List (ℤ × ℤ) → Type 0
AreOrdered [] = Unit {0}
AreOrdered (t ∷ spans) = (t.0 ≤ℤ t.1) × AreOrdered spans

-- one span holds b, lies above it or lies below it, and only one of these
one_of : (a b c : Bool) → (a ≡ true → b ≡ true → ⊥) → (a ≡ true → c ≡ true → ⊥)
    → (b ≡ true → c ≡ true → ⊥) → cond a 1 0 + cond b 1 0 + cond c 1 0 ≤ 1
one_of true true c f g h = absurd (f refl refl)
one_of true false true f g h = absurd (g refl refl)
one_of true false false f g h = omega arith
one_of false true true f g h = absurd (h refl refl)
one_of false true false f g h = omega arith
one_of false false true f g h = omega arith
one_of false false false f g h = omega arith

lt_of : (a b : ℤ) → lt_z a b ≡ true → a <ℤ b
lt_of a b h = omega (arith, ints)

missed : (b low high : ℤ) (spans : List (ℤ × ℤ)) → low <ℤ b → b ≤ℤ high → AreOrdered spans
    → count_by (λ t. holds t b) spans + lows_above high spans + highs_to low spans ≤ length spans
missed b low high [] h k o = omega arith
missed b low high (t ∷ spans) h k o =
    omega (
      arith,
      sum_by-cons (λ t. cond (holds t b) 1 0) t spans,
      sum_by-cons (λ t. cond (lt_z high t.0) 1 0) t spans,
      sum_by-cons (λ t. cond (le_z t.1 low) 1 0) t spans,
      one_of (holds t b) (lt_z high t.0) (le_z t.1 low)
          (λ e f. let x = le_from t.0 b (both (le_z t.0 b) (le_z b t.1) e).0 in let y = lt_of high t.0 f in omega (arith, ints))
          (λ e f. let x = le_from b t.1 (both (le_z t.0 b) (le_z b t.1) e).1 in let y = le_from t.1 low f in omega (arith, ints))
          (λ e f. let x = lt_of high t.0 e in let y = le_from t.1 low f in let z = o.0 in omega (arith, ints)),
      missed b low high spans h k o.1,
    )

-- each offset has enough low ends above it and enough high ends to it, for ranks from j on; enough low ends are above
-- the last number too
abbrev pub AreSeparated : ℕ → ℤ → ℕ → List ℤ → List (ℤ × ℤ) → Type 0
AreSeparated q high j [] spans = q + 1 ≤ lows_above high spans + j
AreSeparated q high j (s ∷ more) spans = (q + 1 ≤ lows_above s spans + j) × (j + 1 ≤ highs_to s spans) × AreSeparated q high (j + 1) more spans

too_many_missed : (q j : ℕ) (high b low : ℤ) (offsets : List ℤ) (spans : List (ℤ × ℤ))
    → AreOrdered spans → low <ℤ b → b ≤ℤ high → j ≤ highs_to low spans
    → AreSeparated q high j offsets spans → count_by (λ t. holds t b) spans + q + 1 ≤ length spans
too_many_missed q j high b low [] spans o h t k are = omega (arith, missed b low high spans h t o, are, k)
too_many_missed q j high b low (s ∷ more) spans o h t k are = by_lt_z s b
    (λ less. too_many_missed q (j + 1) high b s more spans o less t are.1 are.2)
    (λ not_less. omega (arith, missed b low s spans h not_less o, are.0, k))

-- ---- the offsets of the greatest ranks, which are found first

pub record ArePartedFrom (q passed : ℕ) (high : ℤ) (spans : List (ℤ × ℤ)) : Type 0 where
  pub offsets : List ℤ
  pub are : AreSeparated q high (q + 1 - passed) offsets spans

pub none_parted : (q passed : ℕ) (high : ℤ) (spans : List (ℤ × ℤ)) → passed ≤ lows_above high spans
    → ArePartedFrom q passed high spans
none_parted q passed high spans h = record { offsets = []; are = omega (arith, h) }

pub one_parted : (q passed rank : ℕ) (s high : ℤ) (spans : List (ℤ × ℤ)) → passed ≤ q
    → rank ≡ q - passed → passed + 1 ≤ lows_above s spans → rank + 1 ≤ highs_to s spans
    → ArePartedFrom q passed high spans → ArePartedFrom q (passed + 1) high spans
one_parted q passed rank s high spans h r above up_to had = record {
  offsets = s ∷ had.offsets;
  are =
      let now : q + 1 - (passed + 1) ≡ rank = omega (arith, r, h) in
      let before : q + 1 - passed ≡ rank + 1 = omega (arith, r, h) in
      rw now (omega (arith, r, h, above), up_to, rw before at had.are);
}

ordered : (part : Box3) (rows : List Row) → AreOrdered (clock_spans (grid_box part) rows)
ordered part [] = record {}
ordered part (row ∷ rows) = (omega (arith, ints, near_le_far row part, row.range.ordered, row.err.ordered), ordered part rows)

pub parted_none : (q passed below above : ℕ) (part : Box3) (rows : List Row)
    → q + 1 ≤ passed + below
    → ((high : ℤ) → above ≤ lows_above high (clock_spans (grid_box part) rows) → ArePartedFrom q passed high (clock_spans (grid_box part) rows))
    → NoneLiesBetween rows (grid_box part) q below above
parted_none q passed below above part rows whole parted low high b k a h t lies =
    let spans = clock_spans (grid_box part) rows in
    let same : length spans ≡ length rows = length-map rows (clock_ends (grid_box part)) in
    let had = parted high a in
    omega (arith, too_many_missed q (q + 1 - passed) high b low had.offsets spans (ordered part rows) h t (omega (arith, whole, k)) had.are, same, lies)

-- ---- offsets at one side of spans

pub none_below : (q : ℕ) (s : ℤ) (part : Box3) (rows : List Row)
    → q + 1 ≤ lows_above s (clock_spans (grid_box part) rows)
    → (b : ℤ) → LiesInRelaxed (clock_spans (grid_box part) rows) (length rows - q) b → s <ℤ b
none_below q s part rows h b lies =
    let spans = clock_spans (grid_box part) rows in
    let same : length spans ≡ length rows = length-map rows (clock_ends (grid_box part)) in
    by_lt_z s b
    (λ less. less)
    (λ not_less. absurd (omega (arith, missed b (b -ℤ pos 1) s spans (omega (arith, ints)) not_less (ordered part rows), same, h, lies)))

pub none_above : (q : ℕ) (s : ℤ) (part : Box3) (rows : List Row)
    → q + 1 ≤ highs_to s (clock_spans (grid_box part) rows)
    → (b : ℤ) → LiesInRelaxed (clock_spans (grid_box part) rows) (length rows - q) b → b ≤ℤ s
none_above q s part rows h b lies =
    let spans = clock_spans (grid_box part) rows in
    let same : length spans ≡ length rows = length-map rows (clock_ends (grid_box part)) in
    by_lt_z s b
    (λ less. absurd (omega (arith, missed b s b spans less (omega (arith, ints)) (ordered part rows), same, h, lies)))
    (λ not_less. not_less)
