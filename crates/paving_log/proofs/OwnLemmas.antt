-- The tests of a block's own lines, block by block.
use Rattle.std.proofs.Common.{◌≡◌, ℕ, suc, ◌+◌, ◌<◌, ◌≤◌, arith, cond, Bool, true, false, List, [], ◌∷◌, length, get_or, drop, map, refl, sym, ap, ◌∙◌, add-one, Option, None, Some, inl, inr}
use Rattle.std.specs.Prelude.{count_by}
use Rattle.std.specs.List.{AllByRecursion}
use Rattle.std.proofs.Math.ListN.{get_or-map}
use Rattle.std.proofs.Math.Seq.{drop-cons}
use Rattle.std.proofs.lemmas.Grind.{common_steps}
use Rattle.std.proofs.lemmas.List.{length-append, length-map}
use Rattle.std.proofs.lemmas.List.Sums.{sum_by-cons}
use Rattle.sat_model.specs.declared.rules.Rules.{Rules}
use Rattle.sat_model.specs.declared.rows.SatEntry.{SatEntry}
use Rattle.sat_model.specs.declared.rows.SatEntry.TheVariants as entry
use Rattle.std.specs.Prelude.{is_none}
use Rattle.sat_model.specs.Logs.{Body, Block, LogValue, is_few, rows_of}
use Rattle.sat_model.specs.Verdicts.{SuitsNumber, CountsRows}
use Rattle.sat_model.proofs.VerdictLemmas.{head_not_both}
use Rattle.log_lines.specs.declared.line.Form.TheVariants as form
use Rattle.log_lines.specs.declared.line.LogLine.TheVariants as lines
use Rattle.paving_log.specs.declared.log.Log.{Log}
use Rattle.paving_log.specs.declared.log.LogEpoch.{LogEpoch}
use Rattle.paving_log.specs.RowsText.{IsNumberedIn, OwnPasses, OwnFails, AllOwnPass, FirstOwnFails, HasOwnFault, has_row, IsPavable}
use Rattle.log_lines.specs.Text.{paved_lines, block_lines, BlockFits}
use Rattle.paving_log.specs.Values.{block_of, log_value}
use Rattle.sat_model.proofs.FaultLemmas.{one_repeat}

-- ---- the rows among the satellite lines

pub count_rows : (sats : List SatEntry) → count_by has_row sats ≡ length (rows_of sats)
count_rows [] = refl
count_rows (entry.Row row ∷ more) = omega (arith, sum_by-cons (λ e. cond (has_row e) 1 0) (entry.Row row) more, count_rows more)
count_rows (entry.Skipped sat skip ∷ more) = omega (arith, sum_by-cons (λ e. cond (has_row e) 1 0) (entry.Skipped sat skip) more, count_rows more)

pub rows_le_lines : (sats : List SatEntry) → length (rows_of sats) ≤ length sats
rows_le_lines [] = omega arith
rows_le_lines (entry.Row row ∷ more) = omega (arith, rows_le_lines more)
rows_le_lines (entry.Skipped sat skip ∷ more) = omega (arith, rows_le_lines more)

-- ---- a block of a log

-- block i of the log is this one
pub record IsBlockAt (log : LogValue) (i : ℕ) (block : Block) : Type 0 where
  pub at : drop i log.blocks ≡ block ∷ drop (i + 1) log.blocks

pub block_at : (log : Log) {epochs : List LogEpoch} (i : ℕ) (epoch : LogEpoch)
    → epochs ≡ log.epochs.items
    → i < length epochs → epoch ≡ get_or epochs i epoch
    → IsBlockAt (log_value log) i (block_of epoch)
block_at log {epochs = epochs} i epoch items within is = record {
  at = rw (← items, add-one, drop-cons (map block_of epochs) i (block_of epoch) (omega (arith, length-map epochs block_of)))
      (ap (λ (b : Block). b ∷ drop (suc i) (map block_of epochs)) (get_or-map block_of epochs i epoch ∙ ap block_of (sym is)));
}

pub no_block : (log : Log) {epochs : List LogEpoch} (i : ℕ) → epochs ≡ log.epochs.items
    → length epochs ≤ i → drop i (log_value log).blocks ≡ []
no_block log {epochs = epochs} i items ended =
    let same = length-map log.epochs.items block_of in
    let short : length (map block_of log.epochs.items) ≤ i = omega (arith, ap length items) in
    grind (arith, common_steps)

-- ---- the tests from a block on

-- the blocks from number i on decide, behind a block of the index before
pub record IsTestedTo (log : LogValue) (before : Option ℕ) (i : ℕ) : Type 0 where
  pub pass : AllOwnPass log.rules before (drop i log.blocks) → AllOwnPass log.rules None log.blocks
  pub fail : (line number : ℕ) → FirstOwnFails log.rules before (drop i log.blocks) line number
      → FirstOwnFails log.rules None log.blocks line number
  pub next : ℕ
  pub numbered : IsNumberedIn form.Rows next (drop i log.blocks)

tested_here : {log : LogValue} {before : Option ℕ} {i : ℕ} {b : Block} (t : IsTestedTo log before i)
    → IsBlockAt log i b
    → (b.line ≡ t.next) × IsNumberedIn form.Rows (t.next + length (block_lines form.Rows b)) (drop (i + 1) log.blocks)
tested_here t here = rw here.at at t.numbered

pub tested_more : {log : LogValue} {before : Option ℕ} {i : ℕ} {b : Block} → IsTestedTo log before i
    → IsBlockAt log i b → OwnPasses log.rules before b
    → IsTestedTo log (Some b.index) (i + 1)
tested_more {b = b} t here passes = record {
  pass = λ h. t.pass (rw here.at (passes, h));
  fail = λ line number h. t.fail line number (rw here.at (inr (passes, h)));
  next = t.next + length (block_lines form.Rows b);
  numbered = (tested_here t here).1;
}

pub tested_fails : {log : LogValue} {before : Option ℕ} {i : ℕ} {b : Block} (line number : ℕ)
    → IsTestedTo log before i → IsBlockAt log i b
    → OwnFails log.rules before b line number → HasOwnFault log line
tested_fails line number t here fails = (number, t.fail line number (rw here.at (inl fails)))

pub tested_all : {log : LogValue} {before : Option ℕ} {i : ℕ} → IsTestedTo log before i
    → drop i log.blocks ≡ [] → AllOwnPass log.rules None log.blocks
tested_all t ended = t.pass (rw ended tt)

last_number : (next : ℕ) (blocks : List Block) → IsNumberedIn form.Rows next blocks
    → next ≤ 4000000001
last_number next [] h = h
last_number next (b ∷ more) h = omega (arith, last_number (next + length (block_lines form.Rows b)) more h.1)

-- a failing line is one of the block's
own_within : (rules : Rules) (before : Option ℕ) (b : Block) (line number : ℕ)
    → OwnFails rules before b line number → line < b.line + length (block_lines form.Rows b)
own_within rules before b line number f =
    let long = length-append (map lines.Sat b.sats) (paved_lines form.Rows b.body) in
    let same = length-map b.sats lines.Sat in
    elim f [
      | inl head ↦ omega (arith, long, same, head.1)
      | inr (head, (k, first, is_line), n) ↦ omega (arith, long, same, first.repeats.is_line)
    ]

pub own_line_fits : {log : LogValue} {before : Option ℕ} {i : ℕ} {b : Block} (line number : ℕ)
    → IsTestedTo log before i → IsBlockAt log i b
    → OwnFails log.rules before b line number → line ≤ 4000000000
own_line_fits {log = log} {before = before} {i = i} {b = b} line number t here fails =
    let (first, rest) = tested_here t here in
    omega (arith, own_within log.rules before b line number fails, last_number (t.next + length (block_lines form.Rows b)) (drop (i + 1) log.blocks) rest)

-- ---- one first line fails

own_not_both : (rules : Rules) (before : Option ℕ) (b : Block) (line number : ℕ)
    → OwnPasses rules before b → OwnFails rules before b line number → ⊥
own_not_both rules before b line number h f = elim f [
  | inl head ↦ head_not_both rules before b number h.head head.0
  | inr (head, (k, first, is_line), n) ↦ h.sats k first.repeats
]

one_own_line : (rules : Rules) (before : Option ℕ) (b : Block) (l n k m : ℕ)
    → OwnFails rules before b l n → OwnFails rules before b k m → l ≡ k
one_own_line rules before b l n k m (inl (head, e)) (inl (again, f)) = e ∙ sym f
one_own_line rules before b l n k m (inl (head, e)) (inr (passes, rest, f)) = absurd (head_not_both rules before b n passes head)
one_own_line rules before b l n k m (inr (passes, rest, e)) (inl (head, f)) = absurd (head_not_both rules before b m passes head)
one_own_line rules before b l n k m (inr (passes, (i, first, at), e)) (inr (again, (j, other, line), f)) = omega (arith, one_repeat b.sats i j first other)

-- where all pass, none is the first that fails
pub all_not_both : (rules : Rules) (before : Option ℕ) (blocks : List Block) (line number : ℕ)
    → AllOwnPass rules before blocks → FirstOwnFails rules before blocks line number → ⊥
all_not_both rules before [] line number h f = f
all_not_both rules before (b ∷ more) line number h f = elim f [
  | inl fails ↦ own_not_both rules before b line number h.0 fails
  | inr later ↦ all_not_both rules (Some b.index) more line number h.1 later.1
]

pub one_first_line : (rules : Rules) (before : Option ℕ) (blocks : List Block) (l n k m : ℕ)
    → FirstOwnFails rules before blocks l n → FirstOwnFails rules before blocks k m → l ≡ k
one_first_line rules before [] l n k m f g = absurd f
one_first_line rules before (b ∷ more) l n k m (inl f) (inl g) = one_own_line rules before b l n k m f g
one_first_line rules before (b ∷ more) l n k m (inl f) (inr (passes, g)) = absurd (own_not_both rules before b l n passes f)
one_first_line rules before (b ∷ more) l n k m (inr (passes, f)) (inl g) = absurd (own_not_both rules before b k m passes g)
one_first_line rules before (b ∷ more) l n k m (inr (passes, f)) (inr (again, g)) = one_first_line rules (Some b.index) more l n k m f g

-- ---- what the tests give a paving

suited : (few : Bool) (q n : ℕ) (sats : List SatEntry) → few ≡ false → SuitsNumber few q n
    → CountsRows few n sats → q + 4 ≤ length (rows_of sats)
suited true q n sats is suits counts = absurd cc
suited false q n sats is suits counts = omega arith

bodied : (rules : Rules) (b : Block) (body : Option Body) → b.body ≡ body → is_few b ≡ false
    → rules.outliers + 4 ≤ length (rows_of b.sats) → length (rows_of b.sats) ≤ 64
    → IsPavable rules b
bodied rules b None is few enough most = absurd (let none = ap is_none is in cc)
bodied rules b (Some body) is few enough most = record { body = body; is_body = is; enough = enough; at_most = most }

pavable : (rules : Rules) (before : Option ℕ) (b : Block) → BlockFits form.Rows b
    → OwnPasses rules before b → is_few b ≡ false → IsPavable rules b
pavable rules before b fits passes few =
    bodied rules b b.body refl few (suited (is_few b) rules.outliers b.n b.sats few passes.head.suits passes.head.counts) (omega (arith, rows_le_lines b.sats, fits.at_most))

pub all_pavable : (rules : Rules) (before : Option ℕ) (blocks : List Block)
    → AllByRecursion (BlockFits form.Rows) blocks → AllOwnPass rules before blocks
    → AllByRecursion (λ b. is_few b ≡ false → IsPavable rules b) blocks
all_pavable rules before [] fit passes = tt
all_pavable rules before (b ∷ more) fit passes = (pavable rules before b fit.0 passes.0, all_pavable rules (Some b.index) more fit.1 passes.1)
