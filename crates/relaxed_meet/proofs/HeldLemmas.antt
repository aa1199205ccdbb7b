-- Orders and their tests, and the inner spans that hold a number.
use Rattle.std.proofs.Common.{◌≡◌, true, false, List, [], ◌∷◌, map, count_by, cond, arith, ◌∙◌, refl, sym, ap}
use Rattle.std.specs.Prelude.{ℤ, ◌≤ℤ◌, ◌<ℤ◌}
use Rattle.std.proofs.lemmas.Int.{ints}
use Rattle.std.proofs.lemmas.List.Sums.{sum_by-cons}
use lib.Signed.{le_z}
use Rattle.sat_model.specs.declared.rows.Row.{Row}
use Rattle.sat_model.specs.Relaxed.{holds}
use Rattle.grid_model.proofs.PointLemmas.{le_to as le_true}

-- a number past the low end is held where it isn't past the high end
pub held_above : (s : ℤ × ℤ) (b lo hi b' hi' : ℤ) → ◌≡◌ {A = ℤ × ℤ} (lo, hi) s → lo ≤ℤ b → b' ≡ b
    → hi' ≡ hi → le_z b' hi' ≡ holds s b
held_above s b lo hi b' hi' e low same_b same_hi =
    let low_holds : le_z lo b ≡ true = le_true lo b low in
    let at_lo : lo ≡ s.0 = ap (λ (t : ℤ × ℤ). t.0) e in
    let at_hi : hi ≡ s.1 = ap (λ (t : ℤ × ℤ). t.1) e in
    let low_there : le_z s.0 b ≡ true = cc in
    let same : le_z b' hi' ≡ le_z b s.1 = cc in
    rw low_there same

pub none_held : (s : ℤ × ℤ) (b : ℤ) → s.1 <ℤ s.0 → false ≡ holds s b
none_held s b h = grind (arith, ints)

-- the rows are counted by their spans
pub count_spans : (ends_of : Row → ℤ × ℤ) (b : ℤ) (rows : List Row)
    → count_by (λ row. holds (ends_of row) b) rows ≡ count_by (λ s. holds s b) (map ends_of rows)
count_spans ends_of b [] = refl
count_spans ends_of b (row ∷ rows) =
    sum_by-cons (λ r. cond (holds (ends_of r) b) 1 0) row rows
    ∙ rw (count_spans ends_of b rows) (sym (sum_by-cons (λ s. cond (holds s b) 1 0) (ends_of row) (map ends_of rows)))
