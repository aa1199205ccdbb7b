-- The bounds of a body that passes hold what fits, and so a log that passes covers it.
use Rattle.std.proofs.Common.{◌≡◌, ℕ, ◌≤◌, arith, List, [], ◌∷◌, length, true, inl, inr, refl, subst, sym, Option, None, Some}
use Rattle.std.specs.Prelude.{ℤ, Contains}
use Rattle.std.proofs.lemmas.List.Elements.{Contains-append_right}
use Rattle.grid_model.specs.Boxes.{GridBox, box_holds}
use Rattle.grid_model.specs.declared.boxes.Pos.{Pos}
use Rattle.sat_model.specs.Bounds.{BoundValue}
use Rattle.sat_model.specs.BoxTests.{test_in}
use Rattle.sat_model.specs.Cover.{IsPossibleByAll, numbers_from, EpochCover, AreBounding, BodyCover, BlockCover, BlocksCover, RowCover}
use Rattle.sat_model.specs.Events.{Event, Made, Renewed, RowsOver, steps_in, renewals_in}
use Rattle.sat_model.specs.Fitting.{AllBut}
use Rattle.sat_model.specs.Fold.{pieces}
use Rattle.sat_model.specs.HalfSpaces.{IsInHalfSpace}
use Rattle.sat_model.specs.KeptHulls.{kept_hull}
use Rattle.sat_model.specs.Logs.{Body, Block, LogValue, first_rows}
use Rattle.sat_model.specs.MovedFaces.{hull_under}
use Rattle.sat_model.specs.Renewals.{LineFact, AnyLine}
use Rattle.sat_model.specs.ShownBounds.{rows_behind, AreOver, AreShownOver}
use Rattle.sat_model.specs.Stages.{first_stage}
use Rattle.sat_model.specs.Verdicts.{BodyPassesBy, BodyPasses, BlocksPass, Judged}
use Rattle.sat_model.specs.declared.rules.Rules.{Rules}
use Rattle.sat_model.proofs.CoverLemmas.{inside_holds, epoch_cover, rows_fit}
use Rattle.sat_model.proofs.EpochLemmas.{HullHolds, hull_held, fits_in_half_space}
use Rattle.sat_model.proofs.FaceLemmas.{held_under}

-- the rows in use at the end are the first ones or those of a renewal
are_among : (rows : RowsOver) (events : List Event)
    → Contains (rows ∷ renewals_in events) (rows_behind rows events)
are_among rows [] = (0, omega arith, refl)
are_among rows (Made step ∷ events) = are_among rows events
are_among rows (Renewed new ∷ events) =
    Contains-append_right (rows ∷ []) (new ∷ renewals_in events) (rows_behind new events) (are_among new events)

-- what is needed of the rows by which bounds are shown over a hull
record AreSuited (hull : GridBox) (first : RowsOver) (events : List Event) (rows : RowsOver)
    : Type 0 where
  one : Contains (first ∷ renewals_in events) rows
  few : length rows.rows ≤ length first.rows
  holds : (p : Pos) → box_holds first.part p ≡ true → box_holds hull p ≡ true
      → box_holds rows.part p ≡ true

module _ (Meets : LineFact) (rules : Rules) (block : Block) (body : Body)
    (passes : BodyPassesBy Meets rules block body) where
  epoch : EpochCover rules.outliers (first_rows block body) body.events
  epoch = epoch_cover Meets rules body.done (test_in rules block) body.root body.events passes.events

  suited : (hull : GridBox) (rows : RowsOver) → AreOver hull (first_rows block body) body.events rows
      → AreSuited hull (first_rows block body) body.events rows
  suited hull rows (inl last) = record {
    one = subst (Contains (first_rows block body ∷ renewals_in body.events)) (sym last.1) (are_among (first_rows block body) body.events);
    few = rw last.1 (rows_fit Meets (first_rows block body) rules body.done 0 (first_stage (test_in rules block) body.root)
        body.events (first_rows block body) passes.events (omega arith));
    holds = λ p inside held. rw last.1 (inside_holds hull (rows_behind (first_rows block body) body.events).part p last.0 held);
  }
  suited hull rows (inr first) = record {
    one = rw first.1 (0, omega arith, refl);
    few = rw first.1 (omega arith);
    holds = λ p inside held. rw first.1 inside;
  }

  -- what fits anywhere in the root lies in a hull
  abbrev Holds : Option GridBox → Type 0
  Holds hull = (p : Pos) (b : ℤ) → box_holds body.root p ≡ true
      → AllBut rules.outliers (IsPossibleByAll (first_rows block body ∷ renewals_in body.events) p b)
      (numbers_from 0 (length (first_rows block body).rows)) → HullHolds hull p

  bounding : (hull : Option GridBox) → Holds hull → (bounds : List BoundValue)
      → AreShownOver rules.outliers (first_rows block body) body.events hull bounds
      → AreBounding rules.outliers (first_rows block body) (renewals_in body.events) bounds
  bounding hull holds [] shown = tt
  bounding hull holds (bound ∷ more) shown =
      let here = shown.0 in
      let fit = suited here.part here.over here.are_over in
      let within : (p : Pos) (b : ℤ) → box_holds body.root p ≡ true
      → AllBut rules.outliers (IsPossibleByAll (first_rows block body ∷ renewals_in body.events) p b)
      (numbers_from 0 (length (first_rows block body).rows)) → IsInHalfSpace bound.half p =
      λ p b inside fits.
      let held = subst (λ (o : Option GridBox). HullHolds o p) here.is_hull (holds p b inside fits) in
      fits_in_half_space bound.half rules.outliers (first_rows block body) (renewals_in body.events) here.over here.part
      bound.sums fit.one fit.few here.shows p b held (fit.holds p inside held) fits in (
        within,
        bounding (hull_under bound.half hull)
            (λ p b inside fits. held_under bound.half hull p (holds p b inside fits) (within p b inside fits)) more shown.1,
      )

  pub body_cover : BodyCover rules.outliers (first_rows block body) body
  body_cover = record {
    epoch = epoch;
    bounded = bounding (kept_hull (pieces body.root (steps_in body.events)))
        (λ p b inside fits. hull_held (pieces body.root (steps_in body.events)) p b (epoch.covers p b inside fits)) body.bounds passes.bounds;
  }

-- ---- a log

block_cover : (rules : Rules) (block : Block) (body : Option Body) → BodyPasses rules block body
    → BlockCover rules.outliers block body
block_cover rules block None h = tt
block_cover rules block (Some body) h = body_cover AnyLine rules block body h

blocks_cover : (rules : Rules) (before : Option ℕ) (blocks : List Block)
    → BlocksPass rules before blocks → BlocksCover rules.outliers blocks
blocks_cover rules before [] h = tt
blocks_cover rules before (block ∷ more) h = (block_cover rules block block.body h.0.body, blocks_cover rules (Some block.index) more h.1)

pub row_cover : (log : LogValue) → Judged log → RowCover log
row_cover log h = blocks_cover log.rules None log.blocks h
