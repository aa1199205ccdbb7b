-- What the reader of rows answers is held to.
use Rattle.std.proofs.Common.{◌≡◌, ℕ, List, None, sym, ap, subst, ◌∙◌, inl, inr}
use Rattle.std.specs.Prelude.{Result, Ok, Err, IfOk, IfErr, ◌⊎◌}
use Rattle.sat_model.specs.Logs.{LogValue}
use Rattle.log_lines.specs.declared.line.Kind.TheVariants as kind
use Rattle.log_lines.specs.declared.line.Place.TheVariants as place
use Rattle.paving_log.specs.declared.log.Log.{Log}
use Rattle.paving_log.specs.declared.log.LogError.{LogError}
use Rattle.paving_log.specs.declared.log.LogError.TheVariants as error
use Rattle.paving_log.specs.Answers.{GivesLog, GivesFault}
use Rattle.paving_log.specs.RowsText.{IsRowsText, FirstRowsFault, HasOwnFault, ArePavable}
use Rattle.paving_log.specs.Values.{log_value}
use Rattle.paving_log.proofs.FaultLemmas.{one_fault}
use Rattle.paving_log.proofs.LogLemmas.{one_spelled, spelled_has_no_fault}
use Rattle.paving_log.proofs.OwnLemmas.{all_not_both, one_first_line, all_pavable}

-- the text of rows has no fault
rows_have_no_fault : (log : LogValue) (text : List ℕ) (e : LogError) → IsRowsText log text
    → FirstRowsFault text e → ⊥
rows_have_no_fault log text e is (inl fault) = spelled_has_no_fault kind.Rows log text e is.spelling fault
rows_have_no_fault log text e is (inr fails) =
    let same = one_spelled kind.Rows log fails.log text is.spelling fails.spelling in
    let f = subst (λ (l : LogValue). HasOwnFault l fails.line) (sym same) fails.fails in
    all_not_both log.rules None log.blocks fails.line f.0 is.passes f.1

-- a text has one first fault at most
one_rows_fault : (text : List ℕ) (e f : LogError) → FirstRowsFault text e → FirstRowsFault text f
    → e ≡ f
one_rows_fault text e f (inl first) (inl second) = one_fault (place.First kind.Rows) text 1 e f first second
one_rows_fault text e f (inl first) (inr second) = absurd (spelled_has_no_fault kind.Rows second.log text e second.spelling first)
one_rows_fault text e f (inr first) (inl second) = absurd (spelled_has_no_fault kind.Rows first.log text f first.spelling second)
one_rows_fault text e f (inr first) (inr second) =
    let same = one_spelled kind.Rows first.log second.log text first.spelling second.spelling in
    let x = subst (λ (l : LogValue). HasOwnFault l first.line) same first.fails in
    let y = second.fails in
    let line = one_first_line second.log.rules None second.log.blocks first.line x.0 second.line y.0 x.1 y.1 in
    first.error ∙ ap (λ (n : ℕ). error.BadLog n 5) line ∙ sym second.error

-- an answer that is right both ways gives the rows of a text
pub gives_rows : (result : Result Log LogError) (text : List ℕ)
    → IfOk result (λ read. IsRowsText (log_value read) text)
    → IfErr result (λ e. (e ≡ error.NoMemory) ⊎ FirstRowsFault text e)
    → (log : LogValue) → IsRowsText log text → GivesLog log result
gives_rows (Ok read) text value fault log is = one_spelled kind.Rows (log_value read) log text value.spelling is.spelling
gives_rows (Err e) text value (inl none) log is = none
gives_rows (Err e) text value (inr fault) log is = absurd (rows_have_no_fault log text e is fault)

-- and the first fault of a text
pub gives_rows_fault : (result : Result Log LogError) (text : List ℕ)
    → IfOk result (λ read. IsRowsText (log_value read) text)
    → IfErr result (λ e. (e ≡ error.NoMemory) ⊎ FirstRowsFault text e)
    → (e : LogError) → FirstRowsFault text e → GivesFault e result
gives_rows_fault (Ok read) text value fault e first = rows_have_no_fault (log_value read) text e value first
gives_rows_fault (Err f) text value (inl none) e first = inr none
gives_rows_fault (Err f) text value (inr fault) e first = inl (one_rows_fault text f e fault first)

-- and rows that can be paved
pub gives_pavable : (result : Result Log LogError) (text : List ℕ)
    → IfOk result (λ read. IsRowsText (log_value read) text)
    → IfOk result (λ read. ArePavable (log_value read))
gives_pavable (Ok read) text value = all_pavable read.rules None (log_value read).blocks value.spelling.fits.blocks value.passes
gives_pavable (Err e) text value = tt
