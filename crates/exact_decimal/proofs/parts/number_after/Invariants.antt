use Rattle.std.proofs.Common.{◌≡◌, ◌-◌, ◌^◌, ◌<◌, length, drop}
use Rattle.std.specs.Str.Parse.{digits_value_after}
use Rattle.exact_decimal.proofs.parts.number_after.Given as goal

abbrev pub invariant-loop-digit : goal.invariant-loop-digit
invariant-loop-digit l = record {
  value : digits_value_after 10 l.number (drop l.digit-index l.digits) ≡ digits_value_after 10 l.fn.front l.digits;
  room : l.number < 10 ^ (18 - (length l.digits - l.digit-index));
}
