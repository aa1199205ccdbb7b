-- The position in an observation file's header, where it is wanted.
use Rattle.std.proofs.Common.{◌≡◌, ℕ, ◌+◌, Bool, true, List, [], ◌∷◌, Option, None, Some, Ok, inl}
use Rattle.std.proofs.Common.{inr, refl, sym, ap, subst, arith}
use Rattle.std.specs.Prelude.{ℤ, pos, ◌+ℤ◌, ◌*ℤ◌, ◌<ℤ◌, ◌≤ℤ◌}
use Rattle.std.proofs.lemmas.Int.{ints}
use borrow.Author.Differences.{down}
use Rattle.error_bounds.specs.Reading.{IsKnown, IsEnough}
use Rattle.error_bounds.specs.declared.settings.Centre.{Centre}
use Rattle.error_bounds.specs.declared.settings.Centre.TheVariants.{Header as AtHeader, At}
use Rattle.exact_decimal.proofs.Units.{power_some}
use Rattle.exact_decimal.specs.Units.{denominator, shift_of}
use Rattle.exact_decimal.specs.declared.decimal.Decimal.{Decimal}
use Rattle.exact_decimal.specs.declared.unit.Unit.TheVariants.{Length}
use Rattle.rinex_obs.specs.Files.{Observations, obs_file_by, IsObsFileBy}
use Rattle.rinex_obs.specs.Header.{Coordinates, IsCoordinate, IsPosition, Header, Wanted}
use Rattle.rinex_obs.specs.Header.{header_end, Start, header_lines}
use Rattle.rinex_obs.specs.declared.sought.Sought.{Sought}
use Rattle.rinex_text.proofs.OnlyLemmas.{ok_same}
use Rattle.rinex_text.specs.Lines.{TextLine, lines_of}
use Rattle.grid_model.proofs.ProductLemmas.{add_mul, mul_lt_back, mul_le_back}
use Rattle.grid_model.specs.Sizes.{IsWithin}
use Rattle.grid_model.specs.declared.boxes.Pos.{Pos}
use Rattle.input_files.specs.Inputs.{wants_position}

-- a floor lies between the bounds of its number
floor_from : (low num den q : ℤ) → pos 0 <ℤ den → (low *ℤ den) ≤ℤ num → num <ℤ (q *ℤ den +ℤ den)
    → low ≤ℤ q
floor_from low num den q some from under =
    let k : low <ℤ (q +ℤ pos 1) =
    mul_lt_back low (q +ℤ pos 1) den some (omega (arith, ints, add_mul q (pos 1) den)) in
    omega (arith, ints)

floor_to : (high num den q : ℤ) → pos 0 <ℤ den → num ≤ℤ (high *ℤ den) → (q *ℤ den) ≤ℤ num
    → q ≤ℤ high
floor_to high num den q some to le = mul_le_back q high den some (omega (arith, ints))

within : (number : Decimal) (um : ℤ) → IsCoordinate number um → IsWithin 8500000000000 um
within number um is =
    let some : pos 0 <ℤ pos (denominator number.ten Length) =
    omega (arith, ints, power_some (down (shift_of number.ten Length))) in record {
      low = floor_from _ _ _ um some is.within.from is.floor.gt;
      high = floor_to _ _ _ um some is.within.to is.floor.le;
    }

position_known : (coordinates : Option Coordinates) (point : Option Pos)
    → IsPosition true coordinates point → IsKnown point
position_known None point is = absurd is
position_known (Some coordinates) None is = absurd is
position_known (Some coordinates) (Some point) is =
    record {
      x = within coordinates.0 point.x is.x;
      y = within coordinates.1 point.y is.y;
      z =
          within coordinates.2 point.z is.z;
    }

end_known : (sought : Sought) (header : Header) (end : Wanted × Option Pos)
    → header_end sought true header (Ok end) → IsKnown end.1
end_known sought header end (inl (complete, inl (wanted, are, inl (point, is, e)))) =
    subst IsKnown (sym (ap (λ (w : Wanted × Option Pos). w.1) (ok_same end (wanted, point) e)))
    (position_known header.position point is)
end_known sought header end (inl (complete, inl (wanted, are, inr (none, e)))) = cc
end_known sought header end (inl (complete, inr (none, e))) = cc
end_known sought header end (inr (incomplete, e)) = cc

lines_known : (sought : Sought) (header : Header) (number : ℕ) (lines : List TextLine)
    (start : Start) → header_lines sought true header number lines (Ok start)
    → IsKnown start.position
lines_known sought header number [] start e = cc
lines_known sought header number (line ∷ more) start (inl (short, inl (is_end, inl (end, is, e)))) =
    subst IsKnown (sym (ap (λ (s : Start). s.position) (ok_same start _ e)))
    (end_known sought header end is)
lines_known sought header number (line ∷ more) start (inl (short, inl (is_end, inr (f, is, e)))) =
    cc
lines_known sought header number (line ∷ more) start
    (inl (short, inr (goes_on, inl (next, is, rest)))) =
    lines_known sought next (number + 1) more start rest
lines_known sought header number (line ∷ more) start (inl (short, inr (goes_on, inr (f, is, e)))) =
    cc
lines_known sought header number (line ∷ more) start (inr (long, e)) = cc

file_known : (rising : Bool) (sought : Sought) (lines : List TextLine) (o : Observations)
    → obs_file_by rising sought true lines (Ok o) → IsKnown o.position
file_known rising sought lines o (inl (version, is, inl (start, starts, inl (epochs, are, e)))) =
    subst IsKnown (sym (ap (λ (p : Observations). p.position) (ok_same o _ e)))
    (lines_known sought _ version.number version.lines start starts)
file_known rising sought lines o (inl (version, is, inl (start, starts, inr (f, are, e)))) = cc
file_known rising sought lines o (inl (version, is, inr (f, starts, e))) = cc
file_known rising sought lines o (inr (f, is, e)) = cc

-- where the position is wanted, it is there
pub known : (rising : Bool) (sought : Sought) (position : Bool) (bytes : List ℕ) (o : Observations)
    → IsObsFileBy rising sought position bytes o → position ≡ true → IsKnown o.position
known rising sought position bytes o is wanted =
    file_known rising sought (lines_of bytes) o
    (subst (λ (p : Bool). obs_file_by rising sought p (lines_of bytes) (Ok o)) wanted is)

pub enough : (centre : Centre) (point : Option Pos) → (wants_position centre ≡ true → IsKnown point)
    → IsEnough centre point
enough AtHeader point there = there refl
enough (At p) point there = tt
