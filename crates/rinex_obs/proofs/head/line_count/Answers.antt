use Rattle.exact_decimal.specs.Counts.{IsCount}
use Rattle.rinex_text.specs.Columns.{columns_of}
use Rattle.rinex_obs.specs.Epochs.{IsLineCount}
use Rattle.rinex_obs.proofs.HeadLemmas.{none_on, count_of_lines}
use Rattle.rinex_obs.proofs.head.line_count.Goals as goal

pub returns-clause-none : goal.returns-clause-none
returns-clause-none c =
    none_on (IsCount (columns_of c.args.text.now 33 35)) (IsLineCount (columns_of c.args.text.now 33 35))
    (λ lines is. count_of_lines _ _ _ lines c.columns.ensures.value c.is_blank_text.ensures c.if-is_blank_text.false is) _ c.three_digits.ensures.none
