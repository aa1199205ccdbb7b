-- The codes of a satellite have one value, and it is in range where their decimals are.
use Rattle.std.proofs.Common.{◌≡◌, ℕ, sym, ap, subst, ◌∙◌, List, Some}
use Rattle.std.specs.Prelude.{pos, Option, None, IsNone, IsSome}
use Rattle.std.proofs.lemmas.Option.{same_Some}
use Rattle.exact_decimal.specs.Units.{LiesBetween}
use Rattle.exact_decimal.specs.declared.decimal.Decimal.{Decimal}
use Rattle.exact_decimal.specs.declared.unit.Unit.TheVariants.{Length}
use Rattle.exact_decimal.proofs.Limits.{below_floor, above_ceiling, some_parts}
use Rattle.rinex_nav.specs.ElementsOf.{IsRounded}
use Rattle.rinex_obs.specs.declared.obs.SatObs.{SatObs}
use Rattle.gnss_model.specs.Pseudorange.{Codes}
use Rattle.gnss_model.specs.declared.satellites.Signal.TheVariants.{Dual}
use Rattle.grid_model.specs.declared.spans.Wide.{Wide}
use Rattle.gnss_model.specs.declared.systems.System.{System}
use Rattle.usable_sats.proofs.ElementLemmas.{one_rounded}
use Rattle.usable_sats.specs.Usability.{HaveValue, IsPlausible, IsCombinationPlausible, ArePlausibleWith, ArePlausible}

pub lies_between : (d : Decimal) (w : Wide) → IsRounded w d Length → IsPlausible w.lo w.hi 1
    → LiesBetween d.digits d.ten Length (pos 15000000000000) (pos 40000000000000)
lies_between d w r p = record {
  from = (below_floor _ _ _ w.lo (some_parts d.ten Length) r.floor).0 p.from;
  to = (above_ceiling _ _ _ w.hi (some_parts d.ten Length) r.ceiling).0 p.to;
}

pub not_none : (o : Option Wide) → IsNone o → IsSome o → ⊥
not_none None n s = absurd cc
not_none (Some w) n s = absurd cc

-- where the combination is out of range no value of the codes is within
pub pair_out : (system : System) (seen : SatObs) (a b : List ℕ) (d e : Decimal) (v w : Wide)
    → seen.first ≡ Some d → seen.second ≡ Some e → IsRounded v d Length → IsRounded w e Length
    → (IsCombinationPlausible system v w → ⊥) → (codes : Codes) → HaveValue (Dual a b) seen codes
    → ArePlausible system codes → ⊥
pair_out system seen a b d e v w first second r s out codes values plausible =
    let one = values.0 in
    let two = values.1 in
    let d_is = same_Some one.0 d (sym one.1 ∙ first) in
    let e_is = same_Some two.0 e (sym two.2 ∙ second) in
    let v_is = one_rounded d Length codes.first v (subst (λ (q : Decimal). IsRounded codes.first q Length) d_is one.2) r in
    let w_is = one_rounded e Length two.1 w (subst (λ (q : Decimal). IsRounded two.1 q Length) e_is two.4) s in
    let firsts = subst (λ (q : Wide). ArePlausibleWith system q codes.second) v_is plausible in
    let both = subst (ArePlausibleWith system v) (two.3 ∙ ap (λ (q : Wide). Some q) w_is) firsts in
    out both.2
