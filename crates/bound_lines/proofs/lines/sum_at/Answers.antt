use Rattle.std.proofs.Common.{◌≡◌, [], ◌∷◌, arith}
use Rattle.std.proofs.lemmas.Slice.Eq.{text_from_reads}
use Rattle.log_tokens.specs.Words.{words_left}
use Rattle.bound_lines.specs.BoundLines.{sum_words}
use Rattle.bound_lines.proofs.ValueLemmas.{one_sum, sum_are, by_is}
use Rattle.bound_lines.proofs.LineLemmas.{read_fields}
use Rattle.bound_lines.proofs.lines.sum_at.Goals as goal

pub returns-in-by : goal.returns-in-by
returns-in-by c =
    let name : c.in_ok-word.word.now ≡ 98 ∷ 121 ∷ [] = text_from_reads c.in_ok-word.word.now (98 ∷ 121 ∷ []) (omega arith) (omega arith, (omega arith, tt)) in
    read_fields sum_words (98 ∷ 121 ∷ []) by_is sum_are one_sum c.args.line.now c.in_ok-word.word.now (words_left c.in_ok-word.rest) c.sum_fields.result
    c.in_ok-word.ensures.found name c.sum_fields.ensures
