-- What the search of a code gives is a made code.
use Rattle.std.proofs.Common.{◌≡◌, ℕ, ◌+◌, ◌*◌, ◌≤◌, subst, arith}
use Rattle.std.specs.Prelude.{ℤ, pos, ◌+ℤ◌, ◌-ℤ◌, ◌*ℤ◌, ◌≤ℤ◌}
use Rattle.std.proofs.lemmas.Int.{ints}
use Rattle.gnss_model.specs.declared.elements.Elements.{Elements}
use Rattle.code_simulation.specs.Residuals.{Residual, ResidualsAtMost, ResidualsAtLeast, um_of}
use Rattle.code_simulation.specs.SearchSizes.{last_code, one_width, pair_width}
use Rattle.code_simulation.proofs.ResidualExists.{residual_exists}
use Rattle.made_input.specs.Generator.{drawn}
use Rattle.made_input.specs.MadeCodes.{AreElementsOf, IsMadeCode, goal_by, place_of, tag_of}
use Rattle.made_input.specs.MadeRecords.{made_broadcast, mean_draw}

in_um : (n : ℕ) (code : ℤ) → code ≡ pos n -ℤ pos 20000000000 → code *ℤ pos 1000 ≡ um_of n
in_um n code is = omega (arith, ints, is)

pub made_code : (seed j k n draw : ℕ) (el : Elements) (code : ℤ) → code ≡ pos n -ℤ pos 20000000000
    → n ≤ last_code → draw ≡ drawn seed (10 + 8 * j + k) 4001
    → AreElementsOf (made_broadcast k (mean_draw seed k)) el
    → ResidualsAtLeast el (tag_of j) (place_of seed) n (goal_by draw j k -ℤ pos pair_width)
    → ResidualsAtMost el (tag_of j) (place_of seed) n (goal_by draw j k +ℤ pos one_width)
    → IsMadeCode seed j k code
made_code seed j k n draw el code is few drawn_is elements least most =
    let um = in_um n code is in
    record {
      el = el;
      elements = elements;
      from = omega (arith, ints, is);
      to = omega (arith, ints, is, few);
      some = residual_exists el (tag_of j) (place_of seed) (code *ℤ pos 1000);
      near = λ v r.
          let moved = subst (λ (z : ℤ). Residual el (tag_of j) (place_of seed) z v) um r in
          record {
            from = subst (λ (d : ℕ). (goal_by d j k -ℤ pos pair_width) ≤ℤ v) drawn_is (least v moved);
            to = subst (λ (d : ℕ). v ≤ℤ (goal_by d j k +ℤ pos one_width)) drawn_is (most v moved);
          };
    }
