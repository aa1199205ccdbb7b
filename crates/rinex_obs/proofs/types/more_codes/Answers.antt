use Rattle.std.proofs.Common.{◌+◌, ◌-◌, ◌++◌, ◌∷◌, [], sym, ◌∙◌, arith}
use Rattle.rinex_text.specs.declared.fault.Fault.TheVariants.{BadCount}
use Rattle.rinex_obs.proofs.TypesLemmas.{code_step, code_fault, codes_fault}
use Rattle.rinex_obs.proofs.types.more_codes.Goals as goal
use Rattle.std.proofs.lemmas.Bool.{both_ways}

pub returns-then-is_blank_text : goal.returns-then-is_blank_text
returns-then-is_blank_text c = λ types is.
    let inv = c.codes.invariant.codes types is in
    let blank = sym c.is_blank_text.ensures ∙ c.if-is_blank_text.true in
    codes_fault c.args.text.now types c.min-missing.result BadCount (omega (arith, c.min-missing.ensures, is.count, is.seen))
    (inv.2 _ (code_fault c.args.text.now c.codes.place _ (c.min-missing.result - (c.codes.place + 1)) inv.0 c.code_at-code.result (omega (arith, c.codes-test.true)) c.code_at-code.ensures
    (λ solid. both_ways _ solid blank)))

pub codes-preserved : goal.codes-preserved
codes-preserved c = record {
  seen = omega (arith, c.with-more.ensures.seen, c.codes.invariant.seen);
  count = c.with-more.ensures.count ∙ c.codes.invariant.count;
  codes = λ types is.
      let inv = c.codes.invariant.codes types is in
      let solid = sym c.is_blank_text.ensures ∙ c.if-is_blank_text.false in (
        inv.0 ++ c.code_at-code.result ∷ [],
        c.with-more.ensures.found (record { count = types.count; codes = inv.0 }) inv.1,
        λ answer h. inv.2 answer (code_step c.args.text.now c.codes.place _ (c.codes.place + 1) (c.min-missing.result - (c.codes.place + 1)) inv.0 c.code_at-code.result answer
            (omega (arith, c.codes-test.true)) (omega arith) c.code_at-code.ensures solid h),
      );
}
