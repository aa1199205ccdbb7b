use Rattle.std.proofs.Common.{sym, ◌∙◌}
use Rattle.rinex_obs.proofs.CodeLemmas.{place_kept, place_new, place_none}
use Rattle.rinex_obs.proofs.found.place_with.Goals as goal

pub returns-then-is_some-clause-place : goal.returns-then-is_some-clause-place
returns-then-is_some-clause-place c = λ codes e n. place_kept c.args.found c.args.wanted.now c.args.code.now codes (sym c.is_some.ensures ∙ c.if-is_some.true) e

pub returns-then-eq-clause-place : goal.returns-then-eq-clause-place
returns-then-eq-clause-place c = λ codes e n.
    place_new c.args.found c.args.wanted.now c.args.code.now codes c.args.seen (sym c.is_some.ensures ∙ c.if-is_some.false) e (sym c.eq.ensures ∙ c.if-eq.true) n

pub returns-clause-place : goal.returns-clause-place
returns-clause-place c = λ codes e n.
    place_none c.args.found c.args.wanted.now c.args.code.now codes (sym c.is_some.ensures ∙ c.if-is_some.false) e (sym c.eq.ensures ∙ c.if-eq.false)
