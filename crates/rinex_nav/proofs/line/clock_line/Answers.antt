use Rattle.std.proofs.Common.{ℕ, ap, Result, Ok, ◌≡◌, ◌<◌, true, refl, arith, inl, inr, to_z-of_z, FitsSigned, rules}
use Rattle.std.specs.Prelude.{ℤ}
use Rattle.rinex_text.specs.declared.fault.Fault.{Fault}
use Rattle.rinex_nav.specs.Fields.{Three}
use Rattle.rinex_nav.specs.Records.{Clock}
use mir.Syntax.{w128}
use Rattle.std.specs.List.{list_all}
use Rattle.rinex_text.specs.Bodies.{is_printable}
use Rattle.rinex_text.specs.Headers.{IsShort}
use Rattle.rinex_text.specs.Reading.{plain_line}
use Rattle.rinex_nav.proofs.line.clock_line.Goals as goal

abbrev with_letter : ℕ → ℕ → ℤ → Three → Result Clock Fault
with_letter letter number toc clock = Ok (record { system = letter; number = number }, toc, clock)

pub returns-in_default-last_fields-clause-line : goal.returns-in_default-last_fields-clause-line
returns-in_default-last_fields-clause-line c =
    let short : IsShort (plain_line c.args.line) = search rules in
    let printable : list_all is_printable c.args.line.text.now ≡ true = search rules in
    let few : c.args.count < 200000 = omega arith in
    inl (short, inl (printable, inl (c.in-Some.number, c.in-Some.ensures.number, inl (few, inl (c.in-Some-clock_time.toc, c.in-Some-clock_time.ensures.time, inr (c.in_default-last_fields.ensures.none, refl))))))

pub returns-clause-line : goal.returns-clause-line
returns-clause-line c =
    let short : IsShort (plain_line c.args.line) = search rules in
    let printable : list_all is_printable c.args.line.text.now ≡ true = search rules in
    let few : c.args.count < 200000 = omega arith in
    let fits : FitsSigned w128 c.in-Some-clock_time.toc = search rules in
    simp to_z-of_z
    (inl (short, inl (printable, inl (c.in-Some.number, c.in-Some.ensures.number, inl (few, inl (c.in-Some-clock_time.toc, c.in-Some-clock_time.ensures.time, inl (c.in-Some-last_fields.clock, c.in-Some-last_fields.ensures.numbers, ap (λ (letter : ℕ). with_letter letter c.in-Some.number c.in-Some-clock_time.toc c.in-Some-last_fields.clock) c.column.ensures)))))))
