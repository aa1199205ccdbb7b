use Rattle.std.proofs.Common.{map, sym, ◌∙◌}
use Rattle.error_bounds.specs.Reading.{components}
use Rattle.error_bounds.proofs.DirectionLemmas.{another_number, all_read}
use Rattle.error_bounds.proofs.directions.listed.Goals as goal

pub returns-then-not-is_few : goal.returns-then-not-is_few
returns-then-not-is_few c = another_number c.args.items.now (sym c.is_few.ensures ∙ c.if-not-is_few.true)

pub returns-in-Some : goal.returns-in-Some
returns-in-Some c =
    all_read c.args.items.now (map components c.in-Some.vectors.items) (sym c.is_few.ensures ∙ c.if-not-is_few.false) (sym (rw c.in-Some.is at c.vectors.ensures))
