use Rattle.std.proofs.Common.{rules, refl, arith, FitsSigned}
use Rattle.std.specs.Prelude.{pos, ◌≤ℤ◌}
use Rattle.std.specs.Int.{w128}
use Rattle.std.proofs.lemmas.Int.{to_z-of_z, ints}
use Rattle.gnss_model.specs.RecordBounds.{IsNearTime}
use Rattle.rinex_nav.specs.Weeks.{IsNearestWeek}
use Rattle.rinex_nav.proofs.WeekLemmas.{is_near}
use Rattle.rinex_nav.proofs.record.NavRecord.elements.Goals as goal

pub nearest_week-requires-clause-toe_to : goal.nearest_week-requires-clause-toe_to
nearest_week-requires-clause-toe_to c =
    let f : FitsSigned w128 c.in_ok-toe_week.toe_week.lo = search rules in
    let within = c.in_ok-toe_week.ensures.fields.0.1 in
    let to : c.in_ok-toe_week.toe_week.lo ≤ℤ pos 604800000000000000 = omega (arith, ints, within.to, c.in_ok-toe_week.toe_week.ordered) in
    simp to_z-of_z to

pub invariant_of-result : goal.invariant_of-result
invariant_of-result c =
    let f1 : FitsSigned w128 c.args.self.now.toc = search rules in
    let f2 : FitsSigned w128 c.in_ok-toe_week.toe_week.lo = search rules in
    let f3 : FitsSigned w128 c.nearest_week.result = search rules in
    let week = c.nearest_week.ensures in
    let nearest : IsNearestWeek c.args.self.now.toc c.in_ok-toe_week.toe_week.lo c.nearest_week.result = simp to_z-of_z at week in
    let near : IsNearTime c.args.self.now.toc c.nearest_week.result c.in_ok-toe_week.toe_week = is_near _ _ _ nearest c.in_ok-toe_week.ensures.fields.0.1 in
    record {
      toc_from = simp to_z-of_z c.args.self.now.toc_from;
      toc_under = simp to_z-of_z c.args.self.now.toc_under;
      toc_near = simp to_z-of_z near;
      toe_within = c.in_ok-toe_week.ensures.fields.0.1;
      toe_under = c.in_ok-toe_week.ensures.fields.0.2;
      af0_within = c.in_ok-af0.ensures.fields.0.1;
      af1_within = c.in_ok-af0.ensures.fields.1.1;
      af2_within = c.in_ok-af0.ensures.fields.2.1;
      tgd_within = c.in_ok-tgd.ensures.field.1;
      root_a_within = c.in_ok-cuc.ensures.fields.3.1;
      e_within = c.in_ok-cuc.ensures.fields.1.1;
      m0_within = c.in_ok-crs.ensures.fields.2.1;
      dn_within = c.in_ok-crs.ensures.fields.1.1;
      cuc_within = c.in_ok-cuc.ensures.fields.0.1;
      cus_within = c.in_ok-cuc.ensures.fields.2.1;
      crc_within = c.in_ok-i0.ensures.fields.1.1;
      crs_within = c.in_ok-crs.ensures.fields.0.1;
      cic_within = c.in_ok-toe_week.ensures.fields.1.1;
      cis_within = c.in_ok-toe_week.ensures.fields.3.1;
      i0_within = c.in_ok-i0.ensures.fields.0.1;
      idot_within = c.in_ok-idot.ensures.field.1;
      om0_within = c.in_ok-toe_week.ensures.fields.2.1;
      om_dot_within = c.in_ok-i0.ensures.fields.3.1;
      omega_within = c.in_ok-i0.ensures.fields.2.1;
    }

pub returns-clause-elements : goal.returns-clause-elements
returns-clause-elements c =
    let f1 : FitsSigned w128 c.args.self.now.toc = search rules in
    let f2 : FitsSigned w128 c.in_ok-toe_week.toe_week.lo = search rules in
    let f3 : FitsSigned w128 c.nearest_week.result = search rules in
    let week = c.nearest_week.ensures in
    let nearest : IsNearestWeek c.args.self.now.toc c.in_ok-toe_week.toe_week.lo c.nearest_week.result = simp to_z-of_z at week in
    record {
      toc = simp to_z-of_z refl;
      week_start = simp to_z-of_z nearest;
      af0 = c.in_ok-af0.ensures.fields.0.0;
      af1 = c.in_ok-af0.ensures.fields.1.0;
      af2 = c.in_ok-af0.ensures.fields.2.0;
      crs = c.in_ok-crs.ensures.fields.0.0;
      dn = c.in_ok-crs.ensures.fields.1.0;
      m0 = c.in_ok-crs.ensures.fields.2.0;
      cuc = c.in_ok-cuc.ensures.fields.0.0;
      e = c.in_ok-cuc.ensures.fields.1.0;
      cus = c.in_ok-cuc.ensures.fields.2.0;
      root_a = c.in_ok-cuc.ensures.fields.3.0;
      toe_week = c.in_ok-toe_week.ensures.fields.0.0;
      cic = c.in_ok-toe_week.ensures.fields.1.0;
      om0 = c.in_ok-toe_week.ensures.fields.2.0;
      cis = c.in_ok-toe_week.ensures.fields.3.0;
      i0 = c.in_ok-i0.ensures.fields.0.0;
      crc = c.in_ok-i0.ensures.fields.1.0;
      omega = c.in_ok-i0.ensures.fields.2.0;
      om_dot = c.in_ok-i0.ensures.fields.3.0;
      idot = c.in_ok-idot.ensures.field.0;
      tgd = c.in_ok-tgd.ensures.field.0;
    }

pub returns-clause-outside : goal.returns-clause-outside
returns-clause-outside c = λ k. (λ e. absurd cc, λ first. absurd (first.outside (c.in_ok-tgd.ensures.before k first.from (omega (arith, first.to)))))
