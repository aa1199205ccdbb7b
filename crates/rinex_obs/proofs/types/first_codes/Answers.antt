use Rattle.std.proofs.Common.{◌<◌, [], refl, inl, arith}
use Rattle.rinex_obs.specs.Types.{Types, more_codes, first_codes}
use Rattle.rinex_obs.specs.Reading.{IsFound}
use Rattle.rinex_obs.proofs.TypesLemmas.{stands_on, none_second}
use Rattle.rinex_obs.proofs.types.first_codes.Goals as goal

pub returns : goal.returns
returns c =
    let types : Types = record { count = c.in-Some.count; codes = [] } in
    let some : 0 < c.in-Some.count = omega (arith, c.if-count-eq0.false) in
    stands_on (IsFound c.args.signal.now) (more_codes c.args.text.now types) (first_codes c.args.text.now) (λ answer h. inl (c.in-Some.count, c.in-Some.ensures.number, inl (some, h)))
    c.more_codes.result (c.more_codes.ensures types (record { count = refl; seen = refl; first = refl; second = none_second c.args.signal.now }))
