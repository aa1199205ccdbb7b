-- The fields of made records are inside their bounds.
use Rattle.std.proofs.Common.{ℕ, zero, suc, ◌+◌, ◌*◌, ◌<◌, ◌≤◌, arith, inl, inr}
use Rattle.std.specs.Prelude.{pos, neg_ℤ, nat_lt}
use Rattle.std.proofs.lemmas.Int.{ints}
use Rattle.std.proofs.lemmas.Bool.{cases_Bool}
use Rattle.exact_decimal.specs.Units.{LiesBetween}
use Rattle.exact_decimal.specs.declared.unit.Unit.TheVariants.{Ratio}
use Rattle.rinex_nav.specs.FieldBounds.{AreInside}
use Rattle.made_input.specs.MadeRecords.{made_broadcast, thousandths}

angle : (n : ℕ) → n < 6000
    → LiesBetween (thousandths n).digits (thousandths n).ten Ratio (neg_ℤ (pos 70000000000000000)) (pos 70000000000000000)
angle n h = elim (cases_Bool (nat_lt n 1000)) [
  | inl e ↦ rw e (record { from = omega (arith, ints); to = omega (arith, ints) })
  | inr e ↦ rw e (record { from = omega (arith, ints); to = omega (arith, ints) })
]

pub inside : (k u : ℕ) → k ≤ 8 → u ≤ 99 → AreInside (made_broadcast k u).fields
inside k u few draw zero from to = absurd (omega arith)
inside k u few draw (suc zero) from to = record { from = omega (arith, ints); to = omega (arith, ints) }
inside k u few draw (suc (suc zero)) from to = record { from = omega (arith, ints); to = omega (arith, ints) }
inside k u few draw (suc (suc (suc zero))) from to = record { from = omega (arith, ints); to = omega (arith, ints) }
inside k u few draw (suc (suc (suc (suc zero)))) from to = record { from = omega (arith, ints); to = omega (arith, ints) }
inside k u few draw (suc (suc (suc (suc (suc zero))))) from to = record { from = omega (arith, ints); to = omega (arith, ints) }
inside k u few draw (suc (suc (suc (suc (suc (suc zero)))))) from to = angle (700 * k + u) (omega arith)
inside k u few draw (suc (suc (suc (suc (suc (suc (suc zero))))))) from to = record { from = omega (arith, ints); to = omega (arith, ints) }
inside k u few draw (suc (suc (suc (suc (suc (suc (suc (suc zero)))))))) from to = record { from = omega (arith, ints); to = omega (arith, ints) }
inside k u few draw (suc (suc (suc (suc (suc (suc (suc (suc (suc zero))))))))) from to = record { from = omega (arith, ints); to = omega (arith, ints) }
inside k u few draw (suc (suc (suc (suc (suc (suc (suc (suc (suc (suc zero)))))))))) from to = record { from = omega (arith, ints); to = omega (arith, ints) }
inside k u few draw (suc (suc (suc (suc (suc (suc (suc (suc (suc (suc (suc zero))))))))))) from to = record { from = omega (arith, ints); under = omega (arith, ints) }
inside k u few draw (suc (suc (suc (suc (suc (suc (suc (suc (suc (suc (suc (suc zero)))))))))))) from to = record { from = omega (arith, ints); to = omega (arith, ints) }
inside k u few draw (suc (suc (suc (suc (suc (suc (suc (suc (suc (suc (suc (suc (suc zero))))))))))))) from to = record { from = omega (arith, ints); to = omega (arith, ints) }
inside k u few draw (suc (suc (suc (suc (suc (suc (suc (suc (suc (suc (suc (suc (suc (suc zero)))))))))))))) from to = record { from = omega (arith, ints); to = omega (arith, ints) }
inside k u few draw (suc (suc (suc (suc (suc (suc (suc (suc (suc (suc (suc (suc (suc (suc (suc zero))))))))))))))) from to = record { from = omega (arith, ints); to = omega (arith, ints) }
inside k u few draw (suc (suc (suc (suc (suc (suc (suc (suc (suc (suc (suc (suc (suc (suc (suc (suc zero)))))))))))))))) from to = record { from = omega (arith, ints); to = omega (arith, ints) }
inside k u few draw (suc (suc (suc (suc (suc (suc (suc (suc (suc (suc (suc (suc (suc (suc (suc (suc (suc zero))))))))))))))))) from to = record { from = omega (arith, ints); to = omega (arith, ints) }
inside k u few draw (suc (suc (suc (suc (suc (suc (suc (suc (suc (suc (suc (suc (suc (suc (suc (suc (suc (suc zero)))))))))))))))))) from to = record { from = omega (arith, ints); to = omega (arith, ints) }
inside k u few draw (suc (suc (suc (suc (suc (suc (suc (suc (suc (suc (suc (suc (suc (suc (suc (suc (suc (suc (suc zero))))))))))))))))))) from to = record { from = omega (arith, ints); to = omega (arith, ints) }
inside k u few draw (suc (suc (suc (suc (suc (suc (suc (suc (suc (suc (suc (suc (suc (suc (suc (suc (suc (suc (suc (suc zero)))))))))))))))))))) from to = record { from = omega (arith, ints); to = omega (arith, ints) }
inside k u few draw (suc (suc (suc (suc (suc (suc (suc (suc (suc (suc (suc (suc (suc (suc (suc (suc (suc (suc (suc (suc (suc n))))))))))))))))))))) from to = absurd (omega arith)
