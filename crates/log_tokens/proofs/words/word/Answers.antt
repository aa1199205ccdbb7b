use Rattle.std.proofs.Common.{◌≡◌, ◌+◌, ◌-◌, ◌∙◌, suc, take, drop, length, ap, arith}
use Rattle.std.proofs.lemmas.Grind.{common_steps}
use Rattle.log_tokens.specs.Words.{words_left}
use Rattle.log_tokens.proofs.WordLemmas.{words-only, words-first}
use Rattle.log_tokens.proofs.words.word.Goals as goal

pub returns-in-Some-clause-found : goal.returns-in-Some-clause-found
returns-in-Some-clause-found c =
    let line = c.in_ok-bytes.bytes.now in
    let end = c.in-Some.end in
    let first = c.in-Some.ensures in
    let whole = words-first line end (λ k lt. first.0.before k (omega arith) lt) first.0.high first.1 in
    let rest : take (length line - (end + 1)) (drop (end + 1) line) ≡ drop (suc end) line = grind (arith, common_steps) in
    ap words_left c.in_ok-bytes.was ∙ rw rest whole

pub returns-in-None-clause-found : goal.returns-in-None-clause-found
returns-in-None-clause-found c =
    ap words_left c.in_ok-bytes.was ∙ words-only c.in_ok-bytes.bytes.now (λ k lt. c.in-None.ensures k (omega arith) lt)
