use Rattle.std.proofs.Common.{◌≡◌, [], ◌∷◌, arith}
use Rattle.std.proofs.lemmas.Slice.Eq.{text_from_reads}
use Rattle.log_tokens.specs.Words.{words_left}
use Rattle.bound_lines.specs.BoundLines.{bound_words}
use Rattle.bound_lines.proofs.ValueLemmas.{one_head, head_are, bound_is}
use Rattle.bound_lines.proofs.LineLemmas.{read_fields}
use Rattle.bound_lines.proofs.lines.bound_at.Goals as goal

pub returns-in-bound : goal.returns-in-bound
returns-in-bound c =
    let name : c.in_ok-word.word.now ≡ 98 ∷ 111 ∷ 117 ∷ 110 ∷ 100 ∷ [] = text_from_reads c.in_ok-word.word.now (98 ∷ 111 ∷ 117 ∷ 110 ∷ 100 ∷ []) (omega arith) (omega arith, (omega arith, (omega arith, (omega arith, (omega arith, tt))))) in
    read_fields bound_words (98 ∷ 111 ∷ 117 ∷ 110 ∷ 100 ∷ []) bound_is head_are one_head c.args.line.now c.in_ok-word.word.now (words_left c.in_ok-word.rest) c.bound_fields.result
    c.in_ok-word.ensures.found name c.bound_fields.ensures
