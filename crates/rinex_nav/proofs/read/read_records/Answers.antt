use Rattle.std.proofs.Common.{◌≡◌, ◌+◌, length, sym, ap, ◌∙◌, true, false, arith}
use Rattle.std.proofs.lemmas.List.{length-append}
use Rattle.std.proofs.lemmas.Result.{err_from_is_err_and}
use Rattle.rinex_text.specs.Reading.{plain_line}
use Rattle.rinex_nav.specs.Files.{BeginsRecord}
use Rattle.rinex_nav.specs.Reading.{listed_of}
use Rattle.rinex_nav.proofs.RecordLemmas.{record_fault, record_on, long_fault, all_read, listed_one}
use Rattle.rinex_nav.proofs.read.read_records.Goals as goal
use Rattle.std.proofs.lemmas.Bool.{both_ways}

pub returns-in_err-found-clause-fault : goal.returns-in_err-found-clause-fault
returns-in_err-found-clause-fault c =
    let p = err_from_is_err_and c.from_residual.result c.from_residual.ensures.1 in
    let begins : BeginsRecord c.args.galileo (plain_line c.in-Some.line) = rw c.column.ensures at (sym c.is_read.ensures ∙ c.if-is_read.true) in
    rw (p.1, p.2) (c.lines.invariant.reads _ (record_fault c.args.galileo _ _ _ _ _ _ c.in-Some.ensures.line begins c.in_err-found.ensures.fault))

pub lines-preserved-then-is_read : goal.lines-preserved-then-is_read
lines-preserved-then-is_read c =
    let begins : BeginsRecord c.args.galileo (plain_line c.in-Some.line) = rw c.column.ensures at (sym c.is_read.ensures ∙ c.if-is_read.true) in
    let left = c.in_ok-found.ensures.left in
    let items = c.in_ok-keep.ensures.items in
    let more : length c.keep.new.records.items ≡ length c.lines.records.items + length (listed_of c.in_ok-found.found) = ap length items ∙ length-append c.lines.records.items (listed_of c.in_ok-found.found) in
    record {
      reads = λ answer h. record_on c.args.galileo _ _ c.in_ok-found.found _ _ _ _ _ _ _ _ _ answer items c.in-Some.ensures.line begins c.in_ok-found.ensures.record left.enough left.number left.lines c.lines.invariant.reads h;
      few = omega (arith, c.in_ok-found.ensures.few);
      kept = omega (arith, more, listed_one c.in_ok-found.found, c.lines.invariant.kept);
      index = c.in_ok-keep.ensures.index c.lines.invariant.index;
    }

pub returns-then-not-is_short-clause-fault : goal.returns-then-not-is_short-clause-fault
returns-then-not-is_short-clause-fault c =
    rw c.new-refusal.ensures
    (c.lines.invariant.reads _ (long_fault c.args.galileo _ _ _ _ _ c.in-Some.ensures.line
    (λ b. let e : c.is_read.result ≡ true = c.is_read.ensures ∙ rw c.column.ensures b in let f : c.is_read.result ≡ false = c.if-is_read.false in absurd cc)
    (λ s. both_ways _ c.if-not-is_short.true (c.is_short.ensures.1 s))))

pub returns-clause-records : goal.returns-clause-records
returns-clause-records c = all_read c.args.galileo _ _ _ _ _ _ c.in_default.ensures.end c.lines.invariant.reads
