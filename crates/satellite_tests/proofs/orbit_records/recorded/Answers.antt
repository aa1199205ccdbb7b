use Rattle.std.proofs.Common.{arith}
use Rattle.std.proofs.lemmas.Int.{ints}
use Rattle.satellite_tests.proofs.orbit_records.recorded.Goals as goal

pub invariant_of-result-5 : goal.invariant_of-result-5
invariant_of-result-5 c = record {
  toc_from = omega (arith, ints);
  toc_under = omega (arith, ints);
  toc_near = record { low = record { low = omega (arith, ints); high = omega (arith, ints) }; high = record { low = omega (arith, ints); high = omega (arith, ints) } };
  toe_within = record { from = omega (arith, ints); to = omega (arith, ints); narrow = omega (arith, ints) };
  toe_under = omega (arith, ints);
  af0_within = record { from = omega (arith, ints); to = omega (arith, ints); narrow = omega (arith, ints) };
  af1_within = record { from = omega (arith, ints); to = omega (arith, ints); narrow = omega (arith, ints) };
  af2_within = record { from = omega (arith, ints); to = omega (arith, ints); narrow = omega (arith, ints) };
  tgd_within = record { from = omega (arith, ints); to = omega (arith, ints); narrow = omega (arith, ints) };
  root_a_within = record { from = omega (arith, ints); to = omega (arith, ints); narrow = omega (arith, ints) };
  e_within = record { from = omega (arith, ints); to = omega (arith, ints); narrow = omega (arith, ints) };
  m0_within = record { from = omega (arith, ints); to = omega (arith, ints); narrow = omega (arith, ints) };
  dn_within = record { from = omega (arith, ints); to = omega (arith, ints); narrow = omega (arith, ints) };
  cuc_within = record { from = omega (arith, ints); to = omega (arith, ints); narrow = omega (arith, ints) };
  cus_within = record { from = omega (arith, ints); to = omega (arith, ints); narrow = omega (arith, ints) };
  crc_within = record { from = omega (arith, ints); to = omega (arith, ints); narrow = omega (arith, ints) };
  crs_within = record { from = omega (arith, ints); to = omega (arith, ints); narrow = omega (arith, ints) };
  cic_within = record { from = omega (arith, ints); to = omega (arith, ints); narrow = omega (arith, ints) };
  cis_within = record { from = omega (arith, ints); to = omega (arith, ints); narrow = omega (arith, ints) };
  i0_within = record { from = omega (arith, ints); to = omega (arith, ints); narrow = omega (arith, ints) };
  idot_within = record { from = omega (arith, ints); to = omega (arith, ints); narrow = omega (arith, ints) };
  om0_within = record { from = omega (arith, ints); to = omega (arith, ints); narrow = omega (arith, ints) };
  om_dot_within = record { from = omega (arith, ints); to = omega (arith, ints); narrow = omega (arith, ints) };
  omega_within = record { from = omega (arith, ints); to = omega (arith, ints); narrow = omega (arith, ints) };
}
