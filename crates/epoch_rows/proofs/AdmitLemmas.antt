-- A log that paves the rows of some searches is admitted by all own lines of theirs.
use Rattle.std.proofs.Common.{◌≡◌, ℕ, zero, suc, ◌<◌, Bool, List, [], ◌∷◌, length, map, refl, sym, ap, subst, ◌∙◌, arith}
use Rattle.std.specs.Prelude.{pos, Option, None, Some, is_none, slice_get}
use Rattle.std.specs.List.{AllByRecursion}
use Rattle.epoch_rows.specs.Grown.{AreGrownLines, HasBody}
use Rattle.epoch_rows.specs.Renewed.{Hand, hand_of, maker_of}
use Rattle.epoch_rows.specs.Solved.{IsSolved, AreSolved}
use Rattle.bound_directions.specs.declared.directions.Directions.{Directions}
use Rattle.epoch_selection.specs.Searches.{Search}
use Rattle.log_writer.specs.Pavings.{BodyExtends, HasRun}
use Rattle.paving.specs.Renewing.{Maker}
use Rattle.paving_log_check.specs.Admissible.{IsOf, AdmitsFrom}
use Rattle.paving_log_check.specs.Epochs.{BodyPassesAt, EpochPasses}
use Rattle.paving_log_check.specs.Lines.{expected, SatsPass}
use Rattle.paving_log_check.specs.OwnLines.{OwnLines, renewals_of, usable_of, IsOwnOf, AreOwn, HaveEachRow, AreWhole}
use Rattle.paving_log_check.specs.Renewed.{HoldsGiven}
use Rattle.grid_model.specs.Boxes.{GridBox}
use Rattle.grid_model.specs.Lengths.{spare_of}
use Rattle.gnss_model.specs.Delays.{err_spare_of}
use Rattle.gnss_model.specs.declared.delays.Delays.{Delays}
use Rattle.sat_model.specs.BoxTests.{test_in}
use Rattle.sat_model.specs.Events.{RowsOver, renewals_in}
use Rattle.sat_model.specs.Logs.{Body, Block, is_few, rows_of, first_rows}
use Rattle.sat_model.specs.Stages.{first_stage}
use Rattle.sat_model.specs.Verdicts.{CountsRows, BodyPasses, BlockPasses, BlocksPass, NoneRepeats}
use Rattle.sat_model.specs.declared.rows.Row.{Row}
use Rattle.sat_model.specs.declared.rows.SatEntry.{SatEntry}
use Rattle.sat_model.specs.declared.rules.Rules.{Rules}
use Rattle.paving_log_check.proofs.FitLemmas.{AreInBoxes}
use Rattle.sat_rows.specs.Meanings.{Meaning, IsSound}
use Rattle.sat_rows.specs.OwnRows.{AreLinesOf}
use Rattle.sat_rows.specs.declared.lines.SatLine.{SatLine}
use Rattle.epoch_rows.proofs.AgreeLemmas.{HasPoint, AllAgree, LineAgrees, lines_agree, skips_agree, same_usable, grown_sats, names_of}
use Rattle.epoch_rows.proofs.MakerLemmas.{IsGiven, row_given, run_given}
use Rattle.epoch_rows.proofs.PlaceLemmas.{each_at, each_as}
use Rattle.epoch_rows.proofs.RenewedLemmas.{RowAt, row_at, given_held, own_renewed, all_meet}
use Rattle.log_writer.proofs.LogLemmas.{same_few as few_as}

-- ---- satellite lines

-- lines k of both agree
record AgreeAt (delays : Delays) (entries : List SatEntry) (lines : List SatLine) (k : ℕ) : Type 0 where
  theirs : SatEntry
  theirs_at : slice_get entries k ≡ Some theirs
  ours : SatLine
  ours_at : slice_get lines k ≡ Some ours
  agree : LineAgrees delays theirs ours

agree_at : (delays : Delays) (entries : List SatEntry) (lines : List SatLine) (k : ℕ)
    → AllAgree delays entries lines → k < length entries → AgreeAt delays entries lines k
agree_at delays [] [] k all within = absurd (omega arith)
agree_at delays [] (line ∷ lines) k all within = absurd all
agree_at delays (e ∷ entries) [] k all within = absurd all
agree_at delays (e ∷ entries) (line ∷ lines) zero all within = record { theirs = e; theirs_at = refl; ours = line; ours_at = refl; agree = all.0 }
agree_at delays (e ∷ entries) (line ∷ lines) (suc k) all within =
    let a = agree_at delays entries lines k all.1 (omega arith) in
    record { theirs = a.theirs; theirs_at = a.theirs_at; ours = a.ours; ours_at = a.ours_at; agree = a.agree }

sats_pass : (delays : Delays) (entries : List SatEntry) (lines : List SatLine)
    → AllAgree delays entries lines → NoneRepeats entries → SatsPass delays entries lines
sats_pass delays entries lines all once k within =
    let a = agree_at delays entries lines k all within in
    record {
      is_expected = record { theirs = a.theirs; theirs_at = a.theirs_at; ours = a.ours; ours_at = a.ours_at; same = a.agree.same; once = once k };
      passes = a.agree.passes;
    }

as_many : (delays : Delays) (entries : List SatEntry) (lines : List SatLine)
    → AllAgree delays entries lines → length lines ≡ length entries
as_many delays [] [] all = refl
as_many delays [] (line ∷ lines) all = absurd all
as_many delays (e ∷ entries) [] all = absurd all
as_many delays (e ∷ entries) (line ∷ lines) all = ap suc (as_many delays entries lines all.1)

-- ---- bodies

-- a finished block has a body where the one that was given has, with the same root
-- the body is that of a run from the root, over the rows that were given
record IsRunOver (directions : Option Directions) (maker : Maker) (rules : Rules) (delays : Delays) (root : GridBox) (own : List SatLine) (block : Block) (body : Body) : Type 0 where
  same_root : body.root ≡ root
  grown : AreGrownLines (pos (spare_of root)) (pos (err_spare_of root delays)) own block.sats
  run : HasRun directions maker rules block body

run_over : (directions : Option Directions) (maker : Maker) (rules : Rules) (delays : Delays) (root : GridBox) (own : List SatLine) (sats : List SatEntry) (block : Block) (given : Option Body) (body : Body)
    → HasBody delays root own sats given → block.sats ≡ sats
    → BodyExtends (HasRun directions maker rules) block given (Some body)
    → IsRunOver directions maker rules delays root own block body
run_over directions maker rules delays root own sats block None body has same is = absurd is
run_over directions maker rules delays root own sats block (Some given) body has same is = record {
  same_root = is.0 ∙ ap (λ (b : Body). b.root) has.1;
  grown = rw same has.0;
  run = is.1;
}

-- ---- the log

-- each is in a search box with a point in it
abbrev pub HavePoints : List Search → Type 0
HavePoints searches = AllByRecursion (λ search. HasPoint search.root) searches

pub boxes_of : (searches : List Search) → HavePoints searches → AreInBoxes searches
boxes_of [] points = tt
boxes_of (search ∷ rest) points = (points.0.box, boxes_of rest points.1)

-- by what a source says of satellites
module _ (m : Meaning) (sound : IsSound m) (renews : Bool) (directions : Option Directions) (rules : Rules) where
  module _ (search : Search) (has : HasPoint search.root) where
    sats_agree : (own other : List SatLine) (sats : List SatEntry) (body : Option Body)
        → AreLinesOf m search.root search.epoch own → AreLinesOf m search.root search.epoch other
        → HasBody m.delays search.root own sats body
        → AllAgree m.delays sats (expected (is_none body) other)
    sats_agree own other sats None a b body =
        rw body (skips_agree m sound search.root search.epoch.tag has search.epoch.sats.items own other a b)
    sats_agree own other sats (Some given) a b body =
        lines_agree m sound search.root search.epoch.tag has search.epoch.sats.items own other sats a b body.0

    module _ (before : Option ℕ) (block : Block) (s : IsSolved m renews directions rules search block) (passes : BlockPasses rules before block) where
      is_of : IsOf rules before search.epoch block
      is_of = record { later = passes.head.later; suits = passes.head.suits; index = s.made.index ∙ s.grown.index; tag = s.made.ps ∙ s.grown.ps }

      hand : Hand
      hand = hand_of search s.given

      same_few : is_few block ≡ is_few s.given
      same_few = few_as (HasRun directions (maker_of m renews (Some (hand_of search s.given))) rules) block s.given.body block.body s.made.body

      block_agrees : (other : List SatLine) → AreLinesOf m search.root search.epoch other
          → AllAgree m.delays block.sats (expected (is_few block) other)
      block_agrees other are = rw (s.made.sats, same_few) (sats_agree s.grown.own other s.given.sats s.given.body s.grown.are_own are s.grown.body)

      -- its body is that of a run over the rows that were given
      run_of : (body : Body) → block.body ≡ Some body
          → IsRunOver directions (maker_of m renews (Some (hand_of search s.given))) rules m.delays search.root s.grown.own block body
      run_of body is =
          let maker = maker_of m renews (Some (hand_of search s.given)) in
          run_over directions maker rules m.delays search.root s.grown.own s.given.sats block s.given.body body s.grown.body s.made.sats
          (subst (λ (b : Option Body). BodyExtends (HasRun directions maker rules) block s.given.body b) is s.made.body)

      -- each renewed row of the body is one of the satellite in its place
      rows_at : (other : List SatLine) → AreLinesOf m search.root search.epoch other → (body : Body)
          → IsRunOver directions (maker_of m renews (Some (hand_of search s.given))) rules m.delays search.root s.grown.own block body
          → AllByRecursion (λ (new : RowsOver). (i : ℕ) (row : Row) → slice_get new.rows i ≡ Some row → RowAt m search (usable_of search.epoch.sats.items other) new.part i row) (renewals_in body.events)
      unfolding hand
      rows_at other are body r =
          let maker = maker_of m renews (Some hand) in
          let by = pos (spare_of search.root) in
          let err_by = pos (err_spare_of search.root m.delays) in
          let sats = search.epoch.sats.items in
          let names = names_of m sound search.root search.epoch.tag has by err_by sats s.grown.own block.sats s.grown.are_own r.grown in
          let usable = ap (λ (entries : List SatEntry). map (λ (row : Row). row.sat) (rows_of entries)) (sym s.made.sats)
          ∙ grown_sats m sound search.root search.epoch.tag has by err_by sats s.grown.own other block.sats s.grown.are_own are r.grown in
          each_as (IsGiven maker rules (length (rows_of block.sats))) _ (renewals_in body.events)
          (λ new given i row at. row_at m search block.sats other passes.sats names hand refl usable new.part i row (row_given maker rules new.part new.rows i row given.rows at))
          (run_given maker rules directions block body r.run)

      body_at : (own : OwnLines) → IsOwnOf m search (renewals_of block.body) own
          → (theirs : Option Body) → block.body ≡ theirs → BodyPasses rules block theirs
          → BodyPassesAt m.delays rules search.root own.renewed block theirs
      body_at own are None is pass = tt
      body_at own are (Some body) is pass =
          let r = run_of body is in
          let renewed = subst (λ (theirs : Option Body). IsOwnOf m search (renewals_of theirs) own) is are in
          let rows = rows_at own.lines are.lines body r in (
            r.same_root,
            record {
              events = all_meet (HoldsGiven m.delays own.renewed) (first_rows block body) rules body.done (first_stage (test_in rules block) body.root) body.events
                  (λ j new i row at there. given_held m search sound has.box (usable_of search.epoch.sats.items own.lines) (renewals_in body.events) own.renewed renewed.renewed j new i row at
                  (each_at _ (renewals_in body.events) j new rows at i row there)) pass.events;
              bounds = pass.bounds;
            },
          )

      -- a renewal has a row for each that counts
      renewed_counts : (theirs : Option Body) → block.body ≡ theirs
          → CountsRows (is_none theirs) block.n block.sats
          → AllByRecursion (λ new. length new.rows ≡ block.n) (renewals_of theirs)
      renewed_counts None is counts = tt
      renewed_counts (Some body) is counts =
          let maker = maker_of m renews (Some (hand_of search s.given)) in
          let r = run_of body is in
          each_as (IsGiven maker rules (length (rows_of block.sats))) _ (renewals_in body.events) (λ new given. given.many ∙ counts) (run_given maker rules directions block body r.run)

      epoch_passes : (own : OwnLines) → IsOwnOf m search (renewals_of block.body) own
          → EpochPasses m.delays rules search.root own block
      epoch_passes own are =
          let all = block_agrees own.lines are.lines in
          record {
            counts = record {
              rows = passes.head.counts;
              renewed = renewed_counts block.body refl passes.head.counts;
              usable = s.made.n ∙ (s.grown.n ∙ same_usable m sound search.root search.epoch.tag has search.epoch.sats.items s.grown.own own.lines s.grown.are_own are.lines);
            };
            sats = sats_pass m.delays block.sats (expected (is_few block) own.lines) all passes.sats;
            whole = omega (arith, as_many m.delays block.sats (expected (is_few block) own.lines) all);
            body = body_at own are block.body refl passes.body;
          }

      -- the own lines and rows that those of the block were made of
      pub own_of_block : (own : OwnLines) × IsOwnOf m search (renewals_of block.body) own × HaveEachRow (renewals_of block.body) own.renewed
      own_of_block = own_behind block.body refl
        where
          own_behind : (theirs : Option Body) → block.body ≡ theirs
              → (own : OwnLines) × IsOwnOf m search (renewals_of theirs) own × HaveEachRow (renewals_of theirs) own.renewed
          own_behind None is = (record { lines = s.grown.own; renewed = [] }, record { lines = s.grown.are_own; renewed = tt }, tt)
          own_behind (Some body) is =
              let r = run_of body is in
              let (renewed, are, whole) = own_renewed m search (usable_of search.epoch.sats.items s.grown.own) (renewals_in body.events) (rows_at s.grown.own s.grown.are_own body r) in
              (record { lines = s.grown.own; renewed = renewed }, record { lines = s.grown.are_own; renewed = are }, whole)

  pub admits_from : (before : Option ℕ) (searches : List Search) (blocks : List Block)
      → HavePoints searches → AreSolved m renews directions rules searches blocks
      → BlocksPass rules before blocks
      → (owns : List OwnLines) → AreOwn m searches blocks owns
      → AdmitsFrom m.delays rules before owns searches blocks
  admits_from before [] [] points solved pass [] are = tt
  admits_from before [] [] points solved pass (own ∷ owns) are = absurd are
  admits_from before [] (block ∷ blocks) points solved pass owns are = absurd solved
  admits_from before (search ∷ rest) [] points solved pass owns are = absurd solved
  admits_from before (search ∷ rest) (block ∷ blocks) points solved pass [] are = is_of search points.0 before block solved.0 pass.0
  admits_from before (search ∷ rest) (block ∷ blocks) points solved pass (own ∷ owns) are = (
    is_of search points.0 before block solved.0 pass.0,
    epoch_passes search points.0 before block solved.0 pass.0 own are.0,
    admits_from (Some block.index) rest blocks points.1 solved.1 pass.1 owns are.1,
  )

  -- the own lines that the rows were made of, all of them
  pub owns_of : (before : Option ℕ) (searches : List Search) (blocks : List Block)
      → HavePoints searches → AreSolved m renews directions rules searches blocks
      → BlocksPass rules before blocks
      → (owns : List OwnLines) × AreOwn m searches blocks owns × (length owns ≡ length searches) × AreWhole owns blocks
  owns_of before [] [] points solved pass = ([], tt, refl, tt)
  owns_of before [] (block ∷ blocks) points solved pass = absurd solved
  owns_of before (search ∷ rest) [] points solved pass = absurd solved
  owns_of before (search ∷ rest) (block ∷ blocks) points solved pass =
      let (own, is, each_row) = own_of_block search points.0 before block solved.0 pass.0 in
      let (owns, are, each, whole) = owns_of (Some block.index) rest blocks points.1 solved.1 pass.1 in
      (own ∷ owns, (is, are), ap suc each, (each_row, whole))
