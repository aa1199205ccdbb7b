-- What is found by rows that are formed of bases is found by own rows of the usable satellites.
use Rattle.std.proofs.Common.{◌≡◌, ℕ, arith, List, [], ◌∷◌, length, sym, ap, ◌∙◌, Option, None, Some, Result, Ok, Err}
use Rattle.std.specs.Prelude.{ℤ, IfOk, MatchOption}
use Rattle.std.specs.List.{AllByRecursion}
use Rattle.epoch_selection.specs.Searches.{Search}
use Rattle.rinex_obs.specs.declared.obs.SatObs.{SatObs}
use Rattle.gnss_model.specs.declared.delays.Delays.{Delays}
use Rattle.grid_model.specs.Boxes.{GridBox}
use Rattle.grid_model.specs.declared.memory.NoMemory.{NoMemory}
use Rattle.sat_model.specs.Events.{RowsOver}
use Rattle.sat_model.specs.Logs.{Block}
use Rattle.sat_model.specs.declared.rows.Row.{Row}
use Rattle.sat_model.specs.declared.rules.Rules.{Rules}
use Rattle.sat_model.proofs.CoverLemmas.{inside_holds}
use Rattle.sat_rows.specs.Bases.{CanForm, AreBasesOf}
use Rattle.sat_rows.specs.Meanings.{Meaning}
use Rattle.sat_rows.specs.OwnRows.{AreOwnLines, AreLinesOf, usable_in}
use Rattle.sat_rows.specs.declared.bases.Base.{Base}
use Rattle.sat_rows.specs.declared.lines.SatLine.{SatLine}
use Rattle.sat_rows.specs.declared.lines.SatLine.TheVariants.{Usable, Skipped}
use Rattle.sat_rows.proofs.PartLemmas.{own_of_points}
use Rattle.gnss_model.specs.Delays.{AreDelays}
use Rattle.paving_log_check.specs.Bases.{AreReady}
use Rattle.paving_log_check.specs.Checked.{EpochAccepted, EpochRefused}
use Rattle.paving_log_check.specs.Forming.{AreFormed, AreAllFormed, AreAsMany, own_lines, EpochHolds, EpochBreaks}
use Rattle.paving_log_check.specs.OwnLines.{renewals_of, usable_of, AreOwnRows, AreRenewed, IsOwnOf, HaveEachRow}
use Rattle.paving_log_check.specs.declared.verdict.Fault.{Fault}
use Rattle.paving_log_check.proofs.BeforeLemmas.{fails_whole}
use Rattle.paving_log_check.proofs.NarrowLemmas.{epoch_narrow}

-- where each renewal has as many rows as there are bases, a row is formed for each line
each_row : (bases : List Base) (renewals : List RowsOver) (renewed : List (List Row)) (n : ℕ)
    → length bases ≡ n
    → AllByRecursion (λ new. length new.rows ≡ n) renewals → AreAsMany bases renewals renewed
    → HaveEachRow renewals renewed
each_row bases [] [] n same each many = tt
each_row bases [] (given ∷ more) n same each many = absurd many
each_row bases (new ∷ renewals) [] n same each many = absurd many
each_row bases (new ∷ renewals) (given ∷ more) n same each many =
    (omega (arith, same, each.0, many.0), each_row bases renewals more n same each.1 many.1)

module _ (m : Meaning) (root : GridBox) (tag : ℤ) where
  bases_ready : (sats : List SatObs) (lines : List SatLine) (bases : List Base)
      → AreBasesOf m root tag sats lines bases → AllByRecursion (CanForm m.delays root) bases
  bases_ready [] lines bases are = rw are tt
  bases_ready (seen ∷ sats) [] bases are = absurd are
  bases_ready (seen ∷ sats) (Usable row ∷ lines) bases (None, rest, is, has, more) = absurd has
  bases_ready (seen ∷ sats) (Usable row ∷ lines) bases (Some base, rest, is, has, more) =
      rw is (record { narrow = has.narrow; search = has.search; high = has.high }, bases_ready sats lines rest more)
  bases_ready (seen ∷ sats) (Skipped sat skip ∷ lines) bases (None, rest, is, has, more) = rw is (bases_ready sats lines rest more)
  bases_ready (seen ∷ sats) (Skipped sat skip ∷ lines) bases (Some base, rest, is, has, more) = absurd has

  pub ready_by : (delays : Delays) (sats : List SatObs) (lines : List SatLine) (bases : List Base)
      → delays ≡ m.delays → AreDelays delays → AreBasesOf m root tag sats lines bases
      → AreReady delays root bases
  ready_by delays sats lines bases same within are = record { within = within; each = rw same (bases_ready sats lines bases are) }

  bases_many : (sats : List SatObs) (lines : List SatLine) (bases : List Base)
      → AreOwnLines m root tag sats lines → AreBasesOf m root tag sats lines bases
      → length bases ≡ usable_in lines
  bases_many [] [] bases own are = ap length are
  bases_many [] (line ∷ lines) bases own are = absurd own
  bases_many (seen ∷ sats) [] bases own are = absurd own
  bases_many (seen ∷ sats) (Usable row ∷ lines) bases own (None, rest, is, has, more) = absurd has
  bases_many (seen ∷ sats) (Usable row ∷ lines) bases own (Some base, rest, is, has, more) = omega (arith, ap length is, bases_many sats lines rest own.1 more)
  bases_many (seen ∷ sats) (Skipped sat skip ∷ lines) bases own (None, rest, is, has, more) = omega (arith, ap length is, bases_many sats lines rest own.1 more)
  bases_many (seen ∷ sats) (Skipped sat skip ∷ lines) bases own (Some base, rest, is, has, more) = absurd has

  formed_own : (part : GridBox) (sats : List SatObs) (lines : List SatLine) (bases : List Base) (given : List Row)
      → AreBasesOf m root tag sats lines bases
      → AreFormed m.delays root part bases given
      → AreOwnRows m part tag (usable_of sats lines) given
  formed_own part sats lines bases [] are formed = tt
  formed_own part [] lines bases (ours ∷ given) are formed = absurd (rw are at formed)
  formed_own part (seen ∷ sats) [] bases (ours ∷ given) are formed = absurd are
  formed_own part (seen ∷ sats) (Usable row ∷ lines) bases (ours ∷ given) (None, rest, is, has, more) formed = absurd has
  formed_own part (seen ∷ sats) (Usable row ∷ lines) bases (ours ∷ given) (Some base, rest, is, has, more) formed =
      let f : AreFormed m.delays root part (base ∷ rest) (ours ∷ given) = rw is at formed in
      (own_of_points m root tag seen base part ours has (λ p. inside_holds part root p f.0.0) f.0.1, formed_own part sats lines rest given more f.1)
  formed_own part (seen ∷ sats) (Skipped sat skip ∷ lines) bases (ours ∷ given) (None, rest, is, has, more) formed =
      formed_own part sats lines rest (ours ∷ given) more (rw is at formed)
  formed_own part (seen ∷ sats) (Skipped sat skip ∷ lines) bases (ours ∷ given) (Some base, rest, is, has, more) formed = absurd has

  all_own : (sats : List SatObs) (lines : List SatLine) (bases : List Base) (renewals : List RowsOver) (renewed : List (List Row))
      → AreBasesOf m root tag sats lines bases
      → AreAllFormed m.delays root bases renewals renewed
      → AreRenewed m tag (usable_of sats lines) renewals renewed
  all_own sats lines bases renewals [] are formed = tt
  all_own sats lines bases [] (given ∷ more) are formed = absurd formed
  all_own sats lines bases (new ∷ renewals) (given ∷ more) are formed =
      (formed_own new.part sats lines bases given are formed.0, all_own sats lines bases renewals more are formed.1)

module _ (m : Meaning) (rules : Rules) (search : Search) (lines : List SatLine) (bases : List Base) (block : Block)
    (own : AreLinesOf m search.root search.epoch lines) (are : AreBasesOf m search.root search.epoch.tag search.epoch.sats.items lines bases) where
  answered : (found : Option Fault)
      → MatchOption found (EpochHolds m.delays rules search.root lines bases block) (λ fault. EpochBreaks m.delays rules search.root lines bases block fault)
      → MatchOption found (EpochAccepted m rules search block) (λ fault. EpochRefused m rules search block fault)
  answered None h =
      let counts = h.passes.counts in
      record {
        own = own_lines lines h.renewed;
        are_own = record { lines = own; renewed = all_own m search.root search.epoch.tag search.epoch.sats.items lines bases (renewals_of block.body) h.renewed are h.formed };
        whole = each_row bases (renewals_of block.body) h.renewed block.n
            (bases_many m search.root search.epoch.tag search.epoch.sats.items lines bases own are ∙ sym counts.usable) counts.renewed h.many;
        passes = h.passes;
      }
  answered (Some fault) f =
      let is : IsOwnOf m search (renewals_of block.body) (own_lines lines f.renewed) = record { lines = own; renewed = all_own m search.root search.epoch.tag search.epoch.sats.items lines bases (renewals_of block.body) f.renewed are f.formed } in
      record {
        own = own_lines lines f.renewed;
        are_own = is;
        whole = fails_whole m.delays rules search.root lines bases block f.renewed fault
            (λ counts. bases_many m search.root search.epoch.tag search.epoch.sats.items lines bases own are ∙ sym counts.usable) f.fails f.many;
        fails = f.fails;
        narrow = epoch_narrow m rules search (own_lines lines f.renewed) block fault is f.fails;
      }

  -- what the tests of a block find is found against the files
  pub epoch_answered : (result : Result (Option Fault) NoMemory)
      → IfOk result (λ found. MatchOption found (EpochHolds m.delays rules search.root lines bases block) (λ fault. EpochBreaks m.delays rules search.root lines bases block fault))
      → IfOk result (λ found. MatchOption found (EpochAccepted m rules search block) (λ fault. EpochRefused m rules search block fault))
  epoch_answered (Ok found) h = answered found h
  epoch_answered (Err e) h = tt
