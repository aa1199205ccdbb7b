-- The records of made satellites: what each navigation record of the made input says.
use Rattle.std.specs.Prelude.{ℕ, zero, suc, ◌+◌, ◌*◌, ◌%◌, ◌^◌, ◌<◌, ◌≤◌, ◌≡◌, ◌⊎◌, ℤ, pos, neg_ℤ}
use Rattle.std.specs.Prelude.{◌-ℤ◌, nat_lt, cond, true, false, List, [], ◌∷◌}
use Rattle.std.specs.List.{AllByRecursion}
use Rattle.exact_decimal.specs.declared.decimal.Decimal.{Decimal}
use Rattle.rinex_text.specs.Dates.{gps_time}
use Rattle.rinex_nav.specs.Records.{Broadcast}
use Rattle.made_texts.specs.declared.ephemeris.Ephemeris.{Ephemeris}
use Rattle.made_texts.specs.declared.field_number.FieldNumber.{FieldNumber}
use Rattle.made_input.specs.Generator.{drawn}

-- ---- numbers, as a field with twelve decimals has them

abbrev pub decimal_of : ℤ → ℤ → Decimal
decimal_of digits ten = record { digits = digits; ten = ten }

-- digit / 10^places
abbrev pub plain_number : ℕ → ℕ → Decimal
plain_number digit places = decimal_of (pos (digit * 10 ^ 12)) (neg_ℤ (pos places) -ℤ pos 12)

-- n / 1000
abbrev pub thousandths : ℕ → Decimal
thousandths n = cond (nat_lt n 1000) (decimal_of (pos (n * 10 ^ 10)) (neg_ℤ (pos 13))) (decimal_of
    (pos (n * 10 ^ 9)) (neg_ℤ (pos 12)))

abbrev pub nothing : Decimal
nothing = decimal_of (pos 0) (neg_ℤ (pos 12))

-- ---- a record

-- satellite k with the draw u, healthy, with the clock time 2024-01-07 02:00:00: of the 20 fields
-- that are read (in their order in the record) af0 is k * 10^-5, M0 is (700 k + u) / 1000, e is k /
-- 1000, the root of the semi-major axis 5153.6, toe 7200, Omega_0 the rest of k by 6, i_0 0.96,
-- omega 0.5, Omega's rate -8 * 10^-9, and the group delay -10^-8
abbrev pub made_broadcast : ℕ → ℕ → Broadcast
made_broadcast k u = record {
  sat = record { system = 71; number = k };
  toc = pos (gps_time 2024 1 7 2 0 0);
  healthy = true;
  fields =
      plain_number k 5 ∷ nothing ∷ nothing ∷ nothing ∷ nothing ∷ thousandths (700 * k + u)
      ∷ nothing ∷ plain_number k 3 ∷ nothing ∷ decimal_of (pos 5153600000000) (neg_ℤ (pos 9))
      ∷ decimal_of (pos 7200000000000) (neg_ℤ (pos 9)) ∷ nothing ∷ plain_number (k % 6) 0 ∷ nothing
      ∷ decimal_of (pos 9600000000000) (neg_ℤ (pos 13)) ∷ nothing ∷ plain_number 5 1
      ∷ decimal_of (neg_ℤ (pos 8000000000000)) (neg_ℤ (pos 21))
      ∷ nothing ∷ decimal_of (neg_ℤ (pos 1000000000000)) (neg_ℤ (pos 20)) ∷ [];
}

-- ---- those of a seed

-- behind the three draws of the place
abbrev pub mean_draw : ℕ → ℕ → ℕ
mean_draw seed k = drawn seed (2 + k) 100

-- so many satellites, the first of them k
abbrev pub made_from : ℕ → ℕ → ℕ → List Broadcast
made_from seed k zero = []
made_from seed k (suc n) = made_broadcast k (mean_draw seed k) ∷ made_from seed (k + 1) n

abbrev pub made_records : ℕ → List Broadcast
made_records seed = made_from seed 1 8

-- ---- how their fields are written

-- the digit before the point is zero only where the number is, a zero has no sign, and nor has a
-- power that is zero
abbrev pub IsWellWritten : FieldNumber → Type 0
IsWellWritten w =
    (w ≡ record { negative = false; digits = 0; negative_power = false; power = 0 })
    ⊎ ((10 ^ 12 ≤ w.digits) × (w.digits < 10 ^ 13) × (w.power ≤ 99) × ((w.power ≡ 0)
    → w.negative_power ≡ false))

pub record AreWellWritten (r : Ephemeris) : Type 0 where
  pub clock : IsWellWritten r.af0 × IsWellWritten r.af1 × IsWellWritten r.af2
  pub swings : IsWellWritten r.cuc × IsWellWritten r.cus × IsWellWritten r.crc
      × IsWellWritten r.crs × IsWellWritten r.cic × IsWellWritten r.cis
  pub ellipse : IsWellWritten r.root_a × IsWellWritten r.e × IsWellWritten r.m0
      × IsWellWritten r.dn × IsWellWritten r.toe
  pub plane : IsWellWritten r.i0 × IsWellWritten r.idot × IsWellWritten r.om0
      × IsWellWritten r.om_dot × IsWellWritten r.omega
  pub delay : IsWellWritten r.tgd

abbrev pub AllWellWritten : List Ephemeris → Type 0
AllWellWritten records = AllByRecursion AreWellWritten records
