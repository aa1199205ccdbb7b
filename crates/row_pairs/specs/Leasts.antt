-- The least product of a slope and a way from the middle of a side, and the least of three of them.
use Rattle.std.specs.Prelude.{◌≡◌, ℤ, ◌-ℤ◌, ◌*ℤ◌, ◌≤ℤ◌, true}
use Rattle.grid_model.specs.declared.boxes.Pos.{Pos}
use Rattle.grid_model.specs.Boxes.{GridBox, middle, box_holds}
use Rattle.sat_model.specs.Pairs.{FormValue, tilt}

pub record IsLeastTerm (slope lo hi r : ℤ) : Type 0 where
  pub at : ℤ
  pub from : lo ≤ℤ at
  pub to : at ≤ℤ hi
  pub is : slope *ℤ (at -ℤ middle (record { lo = lo; hi = hi })) ≡ r
  pub least : (n : ℤ) → lo ≤ℤ n → n ≤ℤ hi
      → r ≤ℤ (slope *ℤ (n -ℤ middle (record { lo = lo; hi = hi })))

-- of what the first function is above the second
pub record IsLeastLead (part : GridBox) (f g : FormValue) (r : ℤ) : Type 0 where
  pub at : Pos
  pub inside : box_holds part at ≡ true
  pub is : tilt f part at -ℤ tilt g part at ≡ r
  pub least : (p : Pos) → box_holds part p ≡ true → r ≤ℤ (tilt f part p -ℤ tilt g part p)
