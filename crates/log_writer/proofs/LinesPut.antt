-- Lines that are put one after another, up to the one that breaks.
use Rattle.std.proofs.Common.{◌≡◌, ℕ, zero, suc, ◌+◌, ◌<◌, ◌≤◌, List, [], ◌∷◌, ◌++◌, length, map, take, drop, get_or, refl, sym, ap, subst, ◌∙◌, arith, Some, Err, length-append, take-append-drop}
use Rattle.std.specs.Prelude.{◌↔◌, OnOk, IfErr, Result, Ok}
use Rattle.std.proofs.lemmas.List.{map-append, length-map, take_all}
use Rattle.std.specs.List.{AllByRecursion}
use Rattle.log_lines.specs.Rows.{RowFits}
use Rattle.sat_model.specs.Events.{RowsOver}
use Rattle.paving.specs.RenewalLines.{renewal_lines}
use Rattle.paving.specs.declared.steps.StepFault.{StepFault}
use Rattle.paving.specs.declared.steps.StepFault.TheVariants as step_fault
use Rattle.log_lines.specs.declared.line.LogLine.{LogLine}
use Rattle.log_lines.specs.Lines.{text_of}
use Rattle.paving_log.proofs.LineLemmas.{text_of-append}
use Rattle.log_writer.specs.declared.fault.WriteFault.{WriteFault}
use Rattle.log_writer.specs.declared.fault.WriteFault.TheVariants as why
use Rattle.log_writer.specs.Pieces.{Piece, piece, log_bytes, alone, row_pieces}
use Rattle.log_writer.specs.Steps.{in_paving, BrokeAfter}
use Rattle.log_writer.specs.Writing.{Seen, Went, Ended, Written}
use Rattle.log_writer.proofs.FaultLemmas.{went_left, the_err, err_is}
use Rattle.log_writer.proofs.SatLemmas.{IsItemAt, one_longer}
use Rattle.log_writer.proofs.TextLemmas.{alone_text}
use Rattle.log_writer.proofs.WritingLemmas.{went_none, ended_behind, ended_before}

-- ---- the place of a line

got_map : {X Y : Type 0} (f : X → Y) (xs : List X) (i : ℕ) (x : X)
    → get_or (map f xs) i (f x) ≡ f (get_or xs i x)
got_map f [] i x = refl
got_map f (first ∷ xs) zero x = refl
got_map f (first ∷ xs) (suc i) x = got_map f xs i x

pub map_at : {X Y : Type 0} (f : X → Y) (xs : List X) (i : ℕ) (x : X) → IsItemAt xs i x
    → IsItemAt (map f xs) i (f x)
map_at f xs i x at = record {
  within = omega (arith, at.within, length-map xs f);
  is = ap f at.is ∙ sym (got_map f xs i x);
}

pub all_taken : {X : Type 0} (f : X → LogLine) (xs : List X) (i : ℕ) → length xs ≤ i
    → take i (map f xs) ≡ map f xs
all_taken f xs i le = take_all i (map f xs) (omega (arith, le, length-map xs f))

-- ---- the line that broke

broke_full : (fault : WriteFault) (room before here more : ℕ) (all : ℕ) → before + here ≡ room
    → all ≡ before + more → (fault ≡ why.Full) ↔ (here < more) → (fault ≡ why.Full) ↔ (room < all)
broke_full fault room before here more all left same (f, g) = (λ e. omega (arith, f e, left, same), λ less. g (omega (arith, less, left, same)))

full_fault : {P : Type 0} (fault : WriteFault) → ((the_err fault ≡ Err why.Full) ↔ P)
    → (fault ≡ why.Full) ↔ P
full_fault fault (f, g) = (λ e. f (ap Err e), λ p. err_is fault why.Full (g p))

-- the line broke, by its bytes
record LineBroke (b c : Seen) (l : LogLine) (fault : WriteFault) : Type 0 where
  ended : Ended b (alone l ∷ []) fault c
  full : (fault ≡ why.Full) ↔ (b.left < length (text_of (l ∷ [])))

by_bytes : (b c : Seen) (l : LogLine) (fault : WriteFault) (bytes : List ℕ)
    → bytes ≡ text_of (l ∷ []) → Ended b (piece bytes [] ∷ []) fault c
    → ((the_err fault ≡ Err why.Full) ↔ (b.left < length bytes)) → LineBroke b c l fault
by_bytes b c l fault bytes is ended full = record {
  ended = subst (λ (line : List ℕ). Ended b (piece line [] ∷ []) fault c) is ended;
  full = full_fault fault (subst (λ (line : List ℕ). (the_err fault ≡ Err why.Full) ↔ (b.left < length line)) is full);
}

-- line i broke behind those before it
pub line_broke : (a b c : Seen) (lines : List LogLine) (i : ℕ) (l : LogLine) (fault : WriteFault) (bytes : List ℕ)
    → IsItemAt lines i l → Went a (map alone (take i lines)) b
    → bytes ≡ text_of (l ∷ []) → Ended b (piece bytes [] ∷ []) fault c
    → ((the_err fault ≡ Err why.Full) ↔ (b.left < length bytes)) → BrokeAfter a lines i fault c
line_broke a b c lines i l fault bytes at went is ended full =
    let broke = by_bytes b c l fault bytes is ended full in
    let more : take i lines ++ l ∷ [] ≡ take (i + 1) lines = one_longer lines i l at in
    let text : length (text_of (take (i + 1) lines)) ≡ length (log_bytes (map alone (take i lines))) + length (text_of (l ∷ []))
    = omega (
      arith,
      ap (λ (ls : List LogLine). length (text_of ls)) more,
      ap length (text_of-append (take i lines) (l ∷ [])),
      length-append (text_of (take i lines)) (text_of (l ∷ [])),
      ap length (alone_text (take i lines)),
    ) in
    record {
      ended = subst (λ (ps : List Piece). Ended a ps fault c) (sym (map-append alone (take i lines) (l ∷ [])) ∙ ap (map alone) more)
          (ended_behind a b c (map alone (take i lines)) (alone l ∷ []) fault went broke.ended);
      full = broke_full fault a.left (length (log_bytes (map alone (take i lines)))) b.left (length (text_of (l ∷ []))) (length (text_of (take (i + 1) lines)))
          (went_left a b (map alone (take i lines)) went) text broke.full;
    }

-- the first line broke
pub first_broke : (a c : Seen) (l : LogLine) (lines : List LogLine) (fault : WriteFault) (bytes : List ℕ)
    → bytes ≡ text_of (l ∷ []) → Ended a (piece bytes [] ∷ []) fault c
    → ((the_err fault ≡ Err why.Full) ↔ (a.left < length bytes))
    → BrokeAfter a (l ∷ lines) 0 fault c
first_broke a c l lines fault bytes is ended full = line_broke a a c (l ∷ lines) 0 l fault bytes (record { within = omega arith; is = refl }) (went_none a) is ended full

-- a later line broke
pub later_broke : (a b c : Seen) (l : LogLine) (lines : List LogLine) (taken : ℕ) (fault : WriteFault)
    → Went a (alone l ∷ []) b → BrokeAfter b lines taken fault c
    → BrokeAfter a (l ∷ lines) (taken + 1) fault c
later_broke a b c l lines taken fault went broke =
    let next : taken + 1 + 1 ≡ suc (taken + 1) = omega arith in
    let front : take (taken + 1 + 1) (l ∷ lines) ≡ l ∷ take (taken + 1) lines = ap (λ (n : ℕ). take n (l ∷ lines)) next in
    let text : length (text_of (take (taken + 1 + 1) (l ∷ lines))) ≡ length (log_bytes (alone l ∷ [])) + length (text_of (take (taken + 1) lines))
    = omega (
      arith,
      ap (λ (ls : List LogLine). length (text_of ls)) front,
      ap length (text_of-append (l ∷ []) (take (taken + 1) lines)),
      length-append (text_of (l ∷ [])) (text_of (take (taken + 1) lines)),
      ap length (alone_text (l ∷ [])),
    ) in
    record {
      ended = subst (λ (ls : List LogLine). Ended a (map alone ls) fault c) (sym front)
          (ended_behind a b c (alone l ∷ []) (map alone (take (taken + 1) lines)) fault went broke.ended);
      full = broke_full fault a.left (length (log_bytes (alone l ∷ []))) b.left (length (text_of (take (taken + 1) lines))) (length (text_of (take (taken + 1 + 1) (l ∷ lines))))
          (went_left a b (alone l ∷ []) went) text broke.full;
    }

-- all lines, of which the first ones broke off
pub among_all : (a c : Seen) (lines : List LogLine) (n : ℕ) (fault : WriteFault)
    → Ended a (map alone (take n lines)) fault c → Ended a (map alone lines) fault c
among_all a c lines n fault ended =
    subst (λ (ps : List Piece). Ended a ps fault c) (sym (map-append alone (take n lines) (drop n lines)) ∙ ap (map alone) (take-append-drop n lines))
    (ended_before a c (map alone (take n lines)) (map alone (drop n lines)) fault ended)

-- the lines of rows that are renewed, by how the writing ended
pub renewal_wrote : (a c : Seen) (new : RowsOver) (r : Result (Unit {0}) WriteFault)
    → AllByRecursion RowFits new.rows
    → OnOk r (AllByRecursion RowFits new.rows → Went a (row_pieces new) c)
    → IfErr r (λ (fault : WriteFault). (taken : ℕ) × (taken ≤ length new.rows)
    × (AllByRecursion RowFits new.rows → BrokeAfter a (renewal_lines new) taken fault c))
    → Written a (row_pieces new) r c
renewal_wrote a c new (Ok done) fit went broke = went fit
renewal_wrote a c new (Err fault) fit went (taken, le, broke) = among_all a c (renewal_lines new) (taken + 1) fault (broke fit).ended

-- ---- what a paving is told

pub full_told : (fault : WriteFault) (told : StepFault) → in_paving fault ≡ Some told
    → (told ≡ step_fault.Full) ↔ (fault ≡ why.Full)
full_told why.Log told is = (λ e. absurd cc, λ e. absurd cc)
full_told why.Out told is = (λ e. absurd cc, λ e. absurd cc)
full_told why.Full told is = (λ e. refl, λ e. cc)
full_told why.NoMemory told is = (λ e. absurd cc, λ e. absurd cc)

pub both_ways : {A B C : Type 0} → (A ↔ B) → (B ↔ C) → A ↔ C
both_ways (f, g) (h, k) = (λ a. h (f a), λ c. g (k c))
