-- F e sqrt(A) sin E_k in three steps: the ends of each, and that rounding each time loses nothing.
use Rattle.std.proofs.Common.{◌≡◌, ℕ, ◌+◌, ◌*◌, ◌/◌, ◌^◌, arith, lit≤, ap, ◌∙◌, sym, subst}
use Rattle.std.specs.Prelude.{ℤ, pos, neg_ℤ, ◌*ℤ◌, ◌≤ℤ◌}
use Rattle.std.proofs.lemmas.Int.{ints}
use lib.IntN.{*ℤ_comm}
use Rattle.grid_model.specs.Angles.{unit}
use Rattle.gnss_model.specs.EarthModel.{relativity}
use Rattle.grid_model.specs.Intervals.{Between, Ends}
use Rattle.grid_model.specs.Products.{least_product, greatest_product}
use Rattle.gnss_model.specs.RecordBounds.{LiesFrom, eccentricity_bound, least_root_a, greatest_root_a}
use Rattle.grid_model.specs.Rounding.{Near, IsTightRound}
use Rattle.gnss_model.specs.Systems.{relativity_of}
use Rattle.grid_model.specs.declared.spans.Wide.{Wide}
use Rattle.gnss_model.specs.declared.systems.System.{System}
use Rattle.gnss_model.specs.declared.systems.System.TheVariants.{Gps, Galileo}
use Rattle.grid_model.proofs.ProductLemmas.{mul_assoc, mul_neg}
use Rattle.grid_model.proofs.EndsLemmas.{product_ends, wider_ends}
use Rattle.fix_interval.proofs.NearLemmas.{FractionWithin, held_fraction, fraction_product}
use Rattle.sat_clock.specs.ClockSizes.{focus_size, height_size, relative_size}
use Rattle.sat_clock.proofs.ClockLemmas.{natural_ends}

-- ---- ends

abbrev focus_width : ℕ
focus_width = (eccentricity_bound + greatest_root_a) / 10 ^ 12 + 1 + 4

pub e_ends : (e : Wide) → LiesFrom (pos 0) (pos eccentricity_bound) e
    → Ends eccentricity_bound 1 e.lo e.hi
e_ends e f = natural_ends eccentricity_bound (pos 0) e (record { le = tt }) f

pub root_ends : (s : Wide) → LiesFrom (pos least_root_a) (pos greatest_root_a) s
    → Ends greatest_root_a 1 s.lo s.hi
root_ends s f = natural_ends greatest_root_a (pos least_root_a) s (record { le = tt }) f

-- that of GPS is the greatest
pub factor_ends : (y : System)
    → Ends relativity 0 (neg_ℤ (pos (relativity_of y))) (neg_ℤ (pos (relativity_of y)))
factor_ends Gps = record { order = record { le = tt }; low = record { low = record { le = tt }; high = record { le = tt } }; high = record { low = record { le = tt }; high = record { le = tt } }; width = record { le = tt } }
factor_ends (Galileo message) = record { order = record { le = tt }; low = record { low = record { le = tt }; high = record { le = tt } }; high = record { low = record { le = tt }; high = record { le = tt } }; width = record { le = tt } }

pub focus_ends : (e s : Wide) (a b c d l h : ℤ) → LiesFrom (pos 0) (pos eccentricity_bound) e
    → LiesFrom (pos least_root_a) (pos greatest_root_a) s → a ≡ e.lo → b ≡ e.hi → c ≡ s.lo
    → d ≡ s.hi → l ≤ℤ h
    → IsTightRound (least_product a b c d) (pos (10 ^ 12)) (greatest_product a b c d) (pos (10 ^ 12)) l h
    → Ends focus_size focus_width l h
focus_ends e s a b c d l h f g p q r u o t =
    product_ends eccentricity_bound 1 greatest_root_a 1 (eccentricity_bound * greatest_root_a / 10 ^ 12 + 1) ((eccentricity_bound + greatest_root_a) / 10 ^ 12 + 1) a b c d (pos (10 ^ 12)) l h
    (rw (p, q) (e_ends e f)) (rw (r, u) (root_ends s g)) (record { lt = tt }) (record { le = tt }) (record { le = tt }) o t

abbrev height_width : ℕ → ℕ
height_width w = (focus_size / unit + 1) * w + 2 * focus_width + 4

height_spread : (w : ℕ)
    → pos (focus_size * w + (unit + 8) * focus_width) ≤ℤ pos (((focus_size / unit + 1) * w + 2 * focus_width) * unit)
height_spread w = omega (arith, ints)

pub height_ends : (w : ℕ) (a b c d l h : ℤ) → Ends focus_size focus_width a b
    → Ends (unit + 8) w c d → l ≤ℤ h
    → IsTightRound (least_product a b c d) (pos unit) (greatest_product a b c d) (pos unit) l h
    → Ends height_size (height_width w) l h
height_ends w a b c d l h e f o t = product_ends focus_size focus_width (unit + 8) w (focus_size * (unit + 8) / unit + 1) ((focus_size / unit + 1) * w + 2 * focus_width) a b c d (pos unit) l h e f (record { lt = tt }) (record { le = tt }) (height_spread w) o t

relative_spread : (w : ℕ)
    → pos (height_size * 0 + relativity * height_width w) ≤ℤ pos ((w / 1000 + 1) * 10 ^ 19)
relative_spread w = omega (arith, ints)

pub relative_ends : (w : ℕ) (a b f g l h : ℤ) → Ends height_size (height_width w) a b
    → Ends relativity 0 f g → l ≤ℤ h
    → IsTightRound (least_product a b f g) (pos (10 ^ 19)) (greatest_product a b f g) (pos (10 ^ 19)) l h
    → Ends relative_size (w / 1000 + 5) l h
relative_ends w a b f g l h e k o t = wider_ends _ _ _ _ _ _ (lit≤ tt) (omega arith) (product_ends height_size (height_width w) relativity 0 (height_size * relativity / 10 ^ 19 + 1) (w / 1000 + 1) a b f g (pos (10 ^ 19)) l h e k (record { lt = tt }) (record { le = tt }) (relative_spread w) o t)

-- ---- values

sign_out : (r e s x : ℤ) → neg_ℤ (((r *ℤ e) *ℤ s) *ℤ x) ≡ ((e *ℤ s) *ℤ x) *ℤ neg_ℤ r
sign_out r e s x =
    ap neg_ℤ (ap (λ (z : ℤ). z *ℤ x) (mul_assoc r e s) ∙ mul_assoc r (e *ℤ s) x ∙ *ℤ_comm r ((e *ℤ s) *ℤ x)) ∙ sym (mul_neg ((e *ℤ s) *ℤ x) r)

pub relative_held : (y : System) (e s x v a b l h i j : ℤ) → a ≤ℤ b → l ≤ℤ h →
    ((u : ℤ) → Near (e *ℤ s) (pos (10 ^ 12)) u → Between a b u) →
    ((c u : ℤ) → Between a b c → Near (c *ℤ x) (pos unit) u → Between l h u) →
    ((c u : ℤ) → Between l h c → Near (c *ℤ neg_ℤ (pos (relativity_of y))) (pos (10 ^ 19)) u → Between i j u) →
    Near (neg_ℤ (((pos (relativity_of y) *ℤ e) *ℤ s) *ℤ x)) (pos (10 ^ 47)) v → Between i j v
relative_held y e s x v a b l h i j o p f g k n =
    let focus : FractionWithin a b (e *ℤ s) (pos (10 ^ 12)) = held_fraction (e *ℤ s) (pos (10 ^ 12)) a b (record { lt = tt }) f in
    let height : FractionWithin l h ((e *ℤ s) *ℤ x) (pos (10 ^ 28)) = held_fraction ((e *ℤ s) *ℤ x) (pos (10 ^ 28)) l h (record { lt = tt }) (λ u m. fraction_product a b (e *ℤ s) (pos (10 ^ 12)) x (pos unit) l h o (record { lt = tt }) (record { lt = tt }) focus g u m) in
    fraction_product l h ((e *ℤ s) *ℤ x) (pos (10 ^ 28)) (neg_ℤ (pos (relativity_of y))) (pos (10 ^ 19)) i j p (record { lt = tt }) (record { lt = tt }) height k v (subst (λ (z : ℤ). Near z (pos (10 ^ 47)) v) (sign_out (pos (relativity_of y)) e s x) n)
