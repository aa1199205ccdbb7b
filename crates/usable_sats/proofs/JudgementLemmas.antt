-- A satellite is judged in one way, and a usable one is known by one value of its codes and elements.
use Rattle.std.proofs.Common.{◌≡◌, ℕ, ◌<◌, ◌≤◌, arith, refl, sym, ap, subst, ◌∙◌, inl, inr, List, Some, None, slice_get}
use Rattle.std.specs.Prelude.{ℤ, Option}
use Rattle.std.proofs.Math.Nat.{eq-or-lt_of_le}
use Rattle.std.proofs.lemmas.Int.{ints}
use Rattle.std.proofs.lemmas.Option.{same_Some}
use Rattle.exact_decimal.specs.declared.decimal.Decimal.{Decimal}
use Rattle.exact_decimal.specs.declared.unit.Unit.TheVariants.{Length}
use Rattle.rinex_nav.specs.ElementsOf.{IsRounded, AreElements}
use Rattle.rinex_nav.specs.FieldBounds.{IsFirstOutside}
use Rattle.rinex_nav.specs.declared.record.NavRecord.{NavRecord}
use Rattle.rinex_obs.specs.declared.obs.SatObs.{SatObs}
use Rattle.grid_model.specs.Boxes.{GridBox}
use Rattle.gnss_model.specs.Pseudorange.{Codes}
use Rattle.gnss_model.specs.declared.satellites.Signal.{Signal}
use Rattle.gnss_model.specs.declared.satellites.Signal.TheVariants.{Single, Dual}
use Rattle.gnss_model.specs.declared.satellites.Skip.{Skip}
use Rattle.gnss_model.specs.declared.delays.Delays.{Delays}
use Rattle.grid_model.specs.declared.spans.Wide.{Wide}
use Rattle.usable_sats.proofs.ElementLemmas.{one_rounded, same_elements}
use Rattle.usable_sats.specs.Usability.{Sighting, AreThere, HaveValue, IsMeasured, IsItsRecord, IsHealthy, IsFresh, IsFit, IsNearest, IsUsable, LacksFit, IsSkip, IsJudged}

-- ---- one value

pub first_outside_one : (fields : List Decimal) (j k : ℕ) → IsFirstOutside fields j
    → IsFirstOutside fields k → j ≡ k
first_outside_one fields j k f g =
    let up : j < k → ⊥ = λ h. f.outside (g.before j f.from h) in
    let down : k < j → ⊥ = λ h. g.outside (f.before k g.from h) in
    omega (arith, up, down)

pub nearest_one : (records : List NavRecord) (Meets : ℕ → NavRecord → ℤ → Type 0)
    → ((i : ℕ) (r : NavRecord) (age : ℤ) → Meets i r age → slice_get records i ≡ Some r)
    → (i j : ℕ) (r s : NavRecord) (a b : ℤ) → IsNearest Meets i r a → IsNearest Meets j s b → r ≡ s
nearest_one records Meets at i j r s a b m n =
    let age : a ≡ b = omega (arith, ints, m.least j s b n.meets, n.least i r a m.meets) in
    let up = m.last j s (subst (λ (z : ℤ). Meets j s z) (sym age) n.meets) in
    let down = n.last i r (subst (λ (z : ℤ). Meets i r z) age m.meets) in
    let place : i ≡ j = omega (arith, up, down) in
    same_Some r s (sym (at i r a m.meets) ∙ (ap (slice_get records) place ∙ at j s b n.meets))

same_codes : (c d : Codes) → c.first ≡ d.first → c.second ≡ d.second → c ≡ d
same_codes c d p q = λ i. record { first = p i; second = q i }

one_code : (o : Option Decimal) (v w : Wide) → (d : Decimal) × (o ≡ Some d) × IsRounded v d Length
    → (d : Decimal) × (o ≡ Some d) × IsRounded w d Length → v ≡ w
one_code o v w f g =
    let same = same_Some f.0 g.0 (sym f.1 ∙ g.1) in
    one_rounded g.0 Length v w (subst (λ (q : Decimal). IsRounded v q Length) same f.2) g.2

pub value_one : (signal : Signal) (seen : SatObs) (c d : Codes) → HaveValue signal seen c
    → HaveValue signal seen d → c ≡ d
value_one (Single code) seen c d f g = same_codes c d (one_code seen.first c.first d.first (f.0, f.1, f.2) (g.0, g.1, g.2)) (f.3 ∙ sym g.3)
value_one (Dual code other) seen c d f g =
    let first = one_code seen.first c.first d.first f.0 g.0 in
    let second = one_code seen.second f.1.1 g.1.1 (f.1.0, f.1.2, f.1.4) (g.1.0, g.1.2, g.1.4) in
    same_codes c d first (f.1.3 ∙ (ap (λ (w : Wide). Some w) second ∙ sym g.1.3))

module _ (a : Sighting) where
  pub codes_one : (u v : IsUsable a) → u.measured.codes ≡ v.measured.codes
  codes_one u v = value_one a.signal a.seen u.measured.codes v.measured.codes u.measured.values v.measured.values

  pub elements_one : (u v : IsUsable a) → u.el ≡ v.el
  elements_one u v =
      let same = nearest_one a.records (IsFit a) (λ i r age p. p.fresh.healthy.its.at) u.i v.i u.r v.r u.age v.age u.used v.used in
      same_elements v.r u.el v.el (subst (λ (r : NavRecord). AreElements r u.el) same u.elements) v.elements

-- ---- one judgement

pub have_there : (signal : Signal) (seen : SatObs) (c : Codes) → HaveValue signal seen c
    → AreThere signal seen
have_there (Single code) seen c v = (v.0, v.1)
have_there (Dual code other) seen c v = ((v.0.0, v.0.1), (v.1.0, v.1.2))

module _ (a : Sighting) where
  there : IsMeasured a → AreThere a.signal a.seen
  there m = have_there a.signal a.seen m.codes m.values

  -- who fails a test passes those before it
  passes_1 : (s : Skip) → IsSkip a s → 1 < s.number → AreThere a.signal a.seen
  passes_1 s (inl x) h = absurd (omega (arith, x.0))
  passes_1 s (inr (inl x)) h = x.2.there
  passes_1 s (inr (inr (inl x))) h = there x.2.measured
  passes_1 s (inr (inr (inr (inl x)))) h = there x.2.measured
  passes_1 s (inr (inr (inr (inr (inl x))))) h = there x.2.measured
  passes_1 s (inr (inr (inr (inr (inr x))))) h = there x.1.measured

  passes_2 : (s : Skip) → IsSkip a s → 2 < s.number → IsMeasured a
  passes_2 s (inl x) h = absurd (omega (arith, x.0))
  passes_2 s (inr (inl x)) h = absurd (omega (arith, x.0))
  passes_2 s (inr (inr (inl x))) h = x.2.measured
  passes_2 s (inr (inr (inr (inl x)))) h = x.2.measured
  passes_2 s (inr (inr (inr (inr (inl x))))) h = x.2.measured
  passes_2 s (inr (inr (inr (inr (inr x))))) h = x.1.measured

  passes_3 : (s : Skip) → IsSkip a s → 3 < s.number → (i : ℕ) × (r : NavRecord) × IsItsRecord a i r
  passes_3 s (inl x) h = absurd (omega (arith, x.0))
  passes_3 s (inr (inl x)) h = absurd (omega (arith, x.0))
  passes_3 s (inr (inr (inl x))) h = absurd (omega (arith, x.0))
  passes_3 s (inr (inr (inr (inl x)))) h = x.2.some
  passes_3 s (inr (inr (inr (inr (inl x))))) h = (x.2.some.0, x.2.some.1, x.2.some.2.its)
  passes_3 s (inr (inr (inr (inr (inr x))))) h = (x.1.i, x.1.r, x.1.nearest.meets.healthy.its)

  passes_4 : (s : Skip) → IsSkip a s → 4 < s.number → (i : ℕ) × (r : NavRecord) × IsHealthy a i r
  passes_4 s (inl x) h = absurd (omega (arith, x.0))
  passes_4 s (inr (inl x)) h = absurd (omega (arith, x.0))
  passes_4 s (inr (inr (inl x))) h = absurd (omega (arith, x.0))
  passes_4 s (inr (inr (inr (inl x)))) h = absurd (omega (arith, x.0))
  passes_4 s (inr (inr (inr (inr (inl x))))) h = x.2.some
  passes_4 s (inr (inr (inr (inr (inr x))))) h = (x.1.i, x.1.r, x.1.nearest.meets.healthy)

  lacks_fit : (s : Skip) → IsSkip a s → 5 < s.number → LacksFit a s.field
  lacks_fit s (inl x) h = absurd (omega (arith, x.0))
  lacks_fit s (inr (inl x)) h = absurd (omega (arith, x.0))
  lacks_fit s (inr (inr (inl x))) h = absurd (omega (arith, x.0))
  lacks_fit s (inr (inr (inr (inl x)))) h = absurd (omega (arith, x.0))
  lacks_fit s (inr (inr (inr (inr (inl x))))) h = absurd (omega (arith, x.0))
  lacks_fit s (inr (inr (inr (inr (inr x))))) h = x.1

  last_test : (s : Skip) → IsSkip a s → s.number ≤ 6
  last_test s (inl x) = omega (arith, x.0)
  last_test s (inr (inl x)) = omega (arith, x.0)
  last_test s (inr (inr (inl x))) = omega (arith, x.0)
  last_test s (inr (inr (inr (inl x)))) = omega (arith, x.0)
  last_test s (inr (inr (inr (inr (inl x))))) = omega (arith, x.0)
  last_test s (inr (inr (inr (inr (inr x))))) = omega (arith, x.0)

  no_field : (s : Skip) → IsSkip a s → s.number ≤ 5 → s.field ≡ 0
  no_field s (inl x) h = x.1
  no_field s (inr (inl x)) h = x.1
  no_field s (inr (inr (inl x))) h = x.1
  no_field s (inr (inr (inr (inl x)))) h = x.1
  no_field s (inr (inr (inr (inr (inl x))))) h = x.1
  no_field s (inr (inr (inr (inr (inr x))))) h = absurd (omega (arith, x.0))

  -- and fails no other
  not_later : (s t : Skip) → IsSkip a s → IsSkip a t → s.number < t.number → ⊥
  not_later s t (inl x) g h = x.2 (passes_1 t g (omega (arith, x.0)))
  not_later s t (inr (inl x)) g h = x.2.out (passes_2 t g (omega (arith, x.0)))
  not_later s t (inr (inr (inl x))) g h =
      let p = passes_3 t g (omega (arith, x.0)) in
      x.2.none p.0 p.1 p.2
  not_later s t (inr (inr (inr (inl x)))) g h =
      let p = passes_4 t g (omega (arith, x.0)) in
      x.2.none p.0 p.1 p.2
  not_later s t (inr (inr (inr (inr (inl x))))) g h =
      let p = lacks_fit t g (omega (arith, x.0)) in
      x.2.none p.i p.r p.age p.nearest.meets
  not_later s t (inr (inr (inr (inr (inr x))))) g h = absurd (omega (arith, x.0, last_test t g))

  not_usable : (s : Skip) → IsSkip a s → IsUsable a → ⊥
  not_usable s (inl x) u = x.2 (there u.measured)
  not_usable s (inr (inl x)) u = x.2.out u.measured
  not_usable s (inr (inr (inl x))) u = x.2.none u.i u.r u.used.meets.fresh.healthy.its
  not_usable s (inr (inr (inr (inl x)))) u = x.2.none u.i u.r u.used.meets.fresh.healthy
  not_usable s (inr (inr (inr (inr (inl x))))) u = x.2.none u.i u.r u.age u.used.meets.fresh
  not_usable s (inr (inr (inr (inr (inr x))))) u = x.1.none u.i u.r u.age u.used.meets

  one_fit : (j k : ℕ) → LacksFit a j → LacksFit a k → j ≡ k
  one_fit j k f g =
      let same = nearest_one a.records (IsFresh a) (λ i r age p. p.healthy.its.at) f.i g.i f.r g.r f.age g.age f.nearest g.nearest in
      first_outside_one g.r.fields j k (subst (λ (r : NavRecord). IsFirstOutside r.fields j) same f.first) g.first

  one_skip : (s t : Skip) → IsSkip a s → IsSkip a t → s ≡ t
  one_skip s t f g =
      let up = not_later s t f g in
      let down = not_later t s g f in
      let number : s.number ≡ t.number = omega (arith, up, down) in
      let field : s.field ≡ t.field = elim (eq-or-lt_of_le {n = s.number} {m = 6} (last_test s f)) [
        | inl last ↦ one_fit s.field t.field (lacks_fit s f (omega (arith, last))) (lacks_fit t g (omega (arith, last, number)))
        | inr less ↦ no_field s f (omega arith) ∙ sym (no_field t g (omega (arith, number)))
      ] in
      λ i. record { number = number i; field = field i }

  not_both : (delays : Delays) (root : GridBox) (s : Skip) → IsJudged delays root a (Some s)
      → IsJudged delays root a None → ⊥
  not_both delays root s (inl f) (usable, high) = not_usable s f usable
  not_both delays root s (inr f) (usable, high) = f.low high

  one_reason : (delays : Delays) (root : GridBox) (s t : Skip) → IsJudged delays root a (Some s)
      → IsJudged delays root a (Some t) → s ≡ t
  one_reason delays root s t (inl f) (inl g) = one_skip s t f g
  one_reason delays root s t (inl f) (inr g) = absurd (not_usable s f g.usable)
  one_reason delays root s t (inr f) (inl g) = absurd (not_usable t g f.usable)
  one_reason delays root s t (inr f) (inr g) =
      let number = f.number ∙ sym g.number in
      let field = f.field ∙ sym g.field in
      λ i. record { number = number i; field = field i }

  pub judgement_one : (delays : Delays) (root : GridBox) (x y : Option Skip)
      → IsJudged delays root a x → IsJudged delays root a y → x ≡ y
  judgement_one delays root None None f g = refl
  judgement_one delays root None (Some t) f g = absurd (not_both delays root t g f)
  judgement_one delays root (Some s) None f g = absurd (not_both delays root s f g)
  judgement_one delays root (Some s) (Some t) f g = ap (λ (k : Skip). Some k) (one_reason delays root s t f g)
