-- How far a made satellite is from the earth's centre: from 26,298 to 26,802 km.
use Rattle.std.proofs.Common.{◌≡◌, ℕ, ◌*◌, ◌^◌, ◌≤◌, List, ap, subst, arith, lit≤}
use Rattle.std.specs.Prelude.{ℤ, pos, ◌+ℤ◌, ◌*ℤ◌, ◌≤ℤ◌, ◌<ℤ◌}
use Rattle.std.proofs.lemmas.Int.{ints}
use Rattle.exact_decimal.specs.declared.decimal.Decimal.{Decimal}
use Rattle.exact_decimal.specs.declared.unit.Unit.TheVariants.{Ratio, RootA}
use Rattle.broadcast_orbit.proofs.ChainDistance.{chain_keeps_radius, chain_radius}
use Rattle.broadcast_orbit.proofs.Distances.{AreRadii, radius_slack}
use Rattle.broadcast_orbit.proofs.PairLemmas.{product_between, square_natural}
use Rattle.rinex_nav.specs.ElementsOf.{IsRounded, AreElements}
use Rattle.rinex_nav.specs.FieldBounds.{field_of}
use Rattle.rinex_nav.specs.Reading.{plain_record}
use Rattle.rinex_nav.specs.Records.{Broadcast}
use Rattle.rinex_nav.specs.declared.record.NavRecord.{NavRecord}
use Rattle.grid_model.specs.Intervals.{Between, Close}
use Rattle.gnss_model.specs.OrbitChain.{OrbitChain}
use Rattle.gnss_model.specs.RecordBounds.{IsValue}
use Rattle.gnss_model.specs.Turn.{Turn}
use Rattle.grid_model.specs.declared.boxes.Pos.{Pos}
use Rattle.gnss_model.specs.declared.elements.Elements.{Elements}
use Rattle.grid_model.specs.declared.spans.Wide.{Wide}
use Rattle.broadcast_orbit.proofs.TurnKeeps.{IsTurnBound, turn_keeps}
use Rattle.made_input.specs.MadeRecords.{made_broadcast}

-- ---- the fields

-- 5,153.6 m^(1/2) in 10^-12
abbrev made_root : ℕ
made_root = 5153600000000000

-- 0.008 in 10^-16
abbrev most_eccentric : ℕ
most_eccentric = 8 * 10 ^ 13

pub record IsMadeEllipse (el : Elements) : Type 0 where
  pub root_a : (v : ℤ) → IsValue el.root_a v → Between (pos made_root) (pos made_root) v
  pub e : (v : ℤ) → IsValue el.e v → v ≤ℤ pos most_eccentric

root_value : (w : Wide) (v : ℤ) → pos (5153600000000 * 1000) <ℤ ((w.lo *ℤ pos 1) +ℤ pos 1)
    → (w.hi *ℤ pos 1) <ℤ (pos (5153600000000 * 1000) +ℤ pos 1) → IsValue w v
    → Between (pos made_root) (pos made_root) v
root_value w v a b is = record { from = omega (arith, ints, a, is.from); to = omega (arith, ints, b, is.to) }

e_value : (k : ℕ) (w : Wide) (v : ℤ) → k ≤ 8 → (w.hi *ℤ pos 1) <ℤ (pos (k * 10 ^ 12 * 10) +ℤ pos 1)
    → IsValue w v → v ≤ℤ pos most_eccentric
e_value k w v few b is = omega (arith, ints, few, b, is.to)

pub made_ellipse : (k u : ℕ) (r : NavRecord) (el : Elements) → k ≤ 8
    → plain_record r ≡ made_broadcast k u → AreElements r el → IsMadeEllipse el
made_ellipse k u r el few numbers a =
    let fields : r.fields ≡ (made_broadcast k u).fields = ap (λ (b : Broadcast). b.fields) numbers in
    let root = subst (λ (fs : List Decimal). IsRounded el.root_a (field_of fs 10) RootA) fields a.root_a in
    let e = subst (λ (fs : List Decimal). IsRounded el.e (field_of fs 8) Ratio) fields a.e in
    record {
      root_a = λ v. root_value el.root_a v root.floor.gt root.ceiling.lt;
      e = λ v. e_value k el.e v few e.ceiling.lt;
    }

-- ---- the distance, in um

abbrev least_radius : ℕ
least_radius = 26300 * 10 ^ 9

abbrev greatest_radius : ℕ
greatest_radius = 26800 * 10 ^ 9

-- before the turn by the flight time
abbrev sent_low : ℕ
sent_low = 26299 * 10 ^ 9

abbrev sent_high : ℕ
sent_high = 26801 * 10 ^ 9

-- and after it
abbrev pub seen_low : ℕ
seen_low = 26298 * 10 ^ 9

abbrev pub seen_high : ℕ
seen_high = 26802 * 10 ^ 9

-- by how much the turn may change the square
abbrev turn_loss : ℕ
turn_loss = 110 * 10 ^ 12

turn_bound : IsTurnBound sent_high turn_loss
turn_bound = lit≤ tt

made_radii : AreRadii made_root made_root most_eccentric least_radius greatest_radius
made_radii = record {
  axis_low = 26559592959999;
  axis_high = 26559592960001;
  axis_from = lit≤ tt;
  axis_to = lit≤ tt;
  ellipse = lit≤ tt;
  radius_from = lit≤ tt;
  radius_to = lit≤ tt;
}

sent_by : (rr v : ℤ)
    → Between (pos (least_radius * least_radius)) (pos (greatest_radius * greatest_radius)) rr
    → Close radius_slack rr v → Between (pos (sent_low * sent_low)) (pos (sent_high * sent_high)) v
sent_by rr v b c = record { from = omega (arith, ints, b.from, c.below); to = omega (arith, ints, b.to, c.above) }

seen_by : (R S Z : ℤ) → Between (pos (sent_low * sent_low)) (pos (sent_high * sent_high)) (R +ℤ Z)
    → Close turn_loss R S
    → Between (pos (seen_low * seen_low)) (pos (seen_high * seen_high)) (S +ℤ Z)
seen_by R S Z d c = record { from = omega (arith, ints, d.from, c.below); to = omega (arith, ints, d.to, c.above) }

flat_most : (R Z : ℤ) → pos 0 ≤ℤ Z → (R +ℤ Z) ≤ℤ pos (sent_high * sent_high)
    → R ≤ℤ pos (sent_high * sent_high)
flat_most R Z h k = omega (arith, ints)

pub seen_distance : (el : Elements) (n t x y z tx ty : ℤ) (p : Pos) (range : ℕ) → IsMadeEllipse el
    → OrbitChain el n t x y z → Turn p x y z tx ty range
    → Between (pos (seen_low * seen_low)) (pos (seen_high * seen_high)) ((tx *ℤ tx) +ℤ (ty *ℤ ty) +ℤ (z *ℤ z))
seen_distance el n t x y z tx ty p range made o turn =
    let r = chain_radius made_root made_root most_eccentric least_radius greatest_radius el n t x y z made_radii o (made.root_a o.f.root_a o.fields.root_a_is) (made.e o.f.e o.fields.e_is) in
    let sent = sent_by (o.radius *ℤ o.radius) ((x *ℤ x) +ℤ (y *ℤ y) +ℤ (z *ℤ z)) (product_between least_radius greatest_radius least_radius greatest_radius o.radius o.radius r r) (chain_keeps_radius el n t x y z o) in
    seen_by ((x *ℤ x) +ℤ (y *ℤ y)) ((tx *ℤ tx) +ℤ (ty *ℤ ty)) (z *ℤ z) sent
    (turn_keeps sent_high turn_loss range p x y z tx ty (flat_most ((x *ℤ x) +ℤ (y *ℤ y)) (z *ℤ z) (square_natural z) sent.to) turn_bound turn)
