use Rattle.sharpness_laws.proofs.LineLemmas.{empty_shown, inner_shown}
use Rattle.range_contractor.proofs.BoxLemmas.{lies_through}
use Rattle.sharpness_laws.proofs.laws.clear_boxes_are_shown.Goals as goal

pub returns-clause-empty : goal.returns-clause-empty
returns-clause-empty g c = λ source search whole part margin q rows box are whole_lies lies enough.
    empty_shown (g.S.RowSource.meaning source) (g.met.S.RowSource.sound source) search box whole part (lies_through part whole search.root lies whole_lies) lies margin enough q rows are

pub returns-clause-inner : goal.returns-clause-inner
returns-clause-inner g c = λ source search whole part margin q rows box are whole_lies lies enough.
    inner_shown (g.S.RowSource.meaning source) (g.met.S.RowSource.sound source) search box whole part (lies_through part whole search.root lies whole_lies) lies margin enough q rows are
