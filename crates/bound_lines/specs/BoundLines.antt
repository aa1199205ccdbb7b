-- The lines of a certified bound: first that of its half-space, and then one for each of the sums of
-- rows that show it. All that is asked of the values is kept by their types.
use Rattle.std.specs.Prelude.{ℕ, List, [], ◌∷◌, ◌++◌, codes}
use Rattle.std.specs.Fmt.{decimal, signed_decimal}
use Rattle.log_tokens.specs.Words.{joined}
use Rattle.sat_model.specs.declared.half_spaces.HalfSpace.{HalfSpace}
use Rattle.sat_model.specs.declared.row_sums.Term.{Term}
use Rattle.sat_model.specs.declared.row_sums.RowSum.{RowSum}
use Rattle.bound_lines.specs.declared.bound_head.BoundHead.{BoundHead}

abbrev pub Any : {X : Type 0} → X → Type 0
Any x = Unit {0}

-- ---- the words behind the first

-- d, and at most what d.p is
abbrev pub half_space_words : HalfSpace → List (List ℕ)
half_space_words h =
    signed_decimal h.x ∷ signed_decimal h.y ∷ signed_decimal h.z ∷ signed_decimal h.most ∷ []

-- and how many sums follow
abbrev pub bound_words : BoundHead → List (List ℕ)
bound_words b = half_space_words b.half ++ decimal b.sums ∷ []

abbrev pub term_words : Term → List (List ℕ)
term_words t = decimal t.place ∷ signed_decimal t.multiplier ∷ []

-- how many times d is in the sum, and its five rows with their multipliers
abbrev pub sum_words : RowSum → List (List ℕ)
sum_words s =
    decimal s.aim ∷ (term_words s.first ++ (term_words s.second ++ (term_words s.third
    ++ (term_words s.fourth ++ term_words s.fifth))))

-- ---- the one spelling of each line, without its LF

abbrev pub bound_text : BoundHead → List ℕ
bound_text b = joined (codes "bound" ∷ bound_words b)

abbrev pub sum_text : RowSum → List ℕ
sum_text s = joined (codes "by" ∷ sum_words s)
