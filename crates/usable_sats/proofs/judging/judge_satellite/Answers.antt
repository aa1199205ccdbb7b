use Rattle.std.proofs.Common.{refl, inr}
use Rattle.grid_model.specs.Boxes.{grid_box}
use Rattle.usable_sats.specs.Usability.{IsHigh}
use Rattle.usable_sats.proofs.judging.judge_satellite.Goals as goal

pub returns-else-is_high : goal.returns-else-is_high
returns-else-is_high c =
    let low : IsHigh c.args.settings.now.delays (grid_box c.args.root.now) → ⊥ = λ high. let e = c.is_high.ensures.1 high in let f = c.if-is_high.false in cc in
    rw c.skipped.ensures (inr (record { usable = c.in-Usable.ensures.usable; low = low; number = refl; field = refl }))
