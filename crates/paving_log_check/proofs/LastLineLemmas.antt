-- The fault of a paved block stands on one of its lines, so it is told whatever comes behind it.
use Rattle.std.proofs.Common.{◌≡◌, ℕ, ◌+◌, ◌<◌, arith, List, length, inl, inr, refl, sym, ap, subst, Option, None, Some}
use Rattle.epoch_selection.specs.Searches.{Search}
use Rattle.paving_log_check.proofs.BlockLemmas.{body_within}
use Rattle.paving_log_check.specs.Admissible.{BlockFault}
use Rattle.paving_log_check.specs.Epochs.{BodyFailsAt, EpochFails}
use Rattle.paving_log_check.specs.OwnLines.{OwnLines}
use Rattle.paving_log_check.specs.Renewed.{own_tests}
use Rattle.paving_log_check.specs.declared.verdict.Fault.{Fault}
use Rattle.grid_model.specs.Boxes.{GridBox}
use Rattle.sat_model.specs.Bounds.{lines_of_bounds}
use Rattle.sat_model.specs.Events.{lines_of_all}
use Rattle.sat_model.specs.Logs.{Body, Block, lines_in, lines_of_body}
use Rattle.sat_model.specs.declared.rules.Rules.{Rules}
use Rattle.gnss_model.specs.declared.delays.Delays.{Delays}

module _ (delays : Delays) (rules : Rules) (root : GridBox) (own : OwnLines) (block : Block) (body : Body) (paved : block.body ≡ Some body) where
  many : lines_in block ≡ 3 + length block.sats + lines_of_all body.events + lines_of_bounds body.bounds
  many =
      let here : lines_of_body block.body ≡ 2 + lines_of_all body.events + lines_of_bounds body.bounds = ap lines_of_body paved in
      omega (arith, here)

  body_on_line : (other : Body) (fault : Fault) → other ≡ body
      → BodyFailsAt delays rules root own.renewed block other fault
      → fault.line < block.line + lines_in block
  body_on_line other fault same (inl f) = omega (arith, f.line, many)
  body_on_line other fault same (inr f) =
      let within = body_within (own_tests delays own.renewed) rules block other f.k fault f.fails in
      let long : lines_of_all other.events ≡ lines_of_all body.events = ap (λ (b : Body). lines_of_all b.events) same in
      let far : lines_of_bounds other.bounds ≡ lines_of_bounds body.bounds = ap (λ (b : Body). lines_of_bounds b.bounds) same in
      omega (arith, f.line, many, within, long, far)

  some_body : (other : Body) → block.body ≡ Some other → other ≡ body
  some_body other is = cc

  pub fault_on_line : (fault : Fault) → EpochFails delays rules root own block fault
      → fault.line < block.line + lines_in block
  fault_on_line fault (inl f) = omega (arith, f.line, many)
  fault_on_line fault (inr (inl f)) = omega (arith, f.line, many, f.fails.is_line)
  fault_on_line fault (inr (inr (inl f))) = omega (arith, f.line, many)
  fault_on_line fault (inr (inr (inr f))) = body_on_line f.body fault (some_body f.body f.is_body) f.fails

-- so it is told whatever may come behind the block
paved_fault : (delays : Delays) (rules : Rules) (behind : ℕ) (own : OwnLines) (search : Search) (rest real : List Search) (block : Block) (more : List Block) (fault : Fault) (body : Body)
    → block.body ≡ Some body → behind ≡ block.line + lines_in block
    → BlockFault delays rules behind own search rest block more fault
    → BlockFault delays rules behind own search real block more fault
paved_fault delays rules behind own search rest real block more fault body paved is (inl f) =
    inl (f.0, λ last. absurd (omega (arith, last, is, fault_on_line delays rules search.root own block body paved fault f.0)))
paved_fault delays rules behind own search rest real block more fault body paved is (inr f) =
    absurd (omega (arith, f.1.2, is, fault_on_line delays rules search.root own block body paved f.1.0 f.1.1))

-- where a block of few satellites leaves the same searches, what is told before them is told before these
pub same_fault : (delays : Delays) (rules : Rules) (behind : ℕ) (own : OwnLines) (search : Search) (rest real : List Search) (body : Option Body) (block : Block) (more : List Block) (fault : Fault)
    → block.body ≡ body → behind ≡ block.line + lines_in block → (body ≡ None → real ≡ rest)
    → BlockFault delays rules behind own search rest block more fault
    → BlockFault delays rules behind own search real block more fault
same_fault delays rules behind own search rest real None block more fault has is few f =
    subst (λ (left : List Search). BlockFault delays rules behind own search left block more fault) (sym (few refl)) f
same_fault delays rules behind own search rest real (Some body) block more fault has is few f =
    paved_fault delays rules behind own search rest real block more fault body has is f
