use Rattle.std.proofs.Common.{◌≡◌, ◌+◌, ◌-◌, List, Result}
use Rattle.rinex_text.specs.declared.fault.Fault.{Fault}
use Rattle.rinex_obs.specs.Types.{Code, Types, codes_from}
use Rattle.rinex_obs.specs.Reading.{IsFound}
use Rattle.rinex_obs.proofs.types.more_codes.Given as goal

-- what the codes that are left give, behind those so far, is what all give
abbrev pub invariant-codes : goal.invariant-codes
invariant-codes l = record {
  seen : l.more.seen ≡ l.fn.found.seen + l.place;
  count : l.more.count ≡ l.fn.found.count;
  codes : (types : Types) → IsFound l.signal types l.fn.found
      → (codes : List Code) × IsFound l.signal (record { count = types.count; codes = codes }) l.more × ((answer : Result (List Code) Fault) → codes_from l.text l.place (l.missing - l.place) codes answer → codes_from l.text 0 l.missing types.codes answer);
}
