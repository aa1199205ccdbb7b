use Rattle.std.proofs.Common.{sym, subst, arith}
use Rattle.std.specs.List.{AllByRecursion}
use Rattle.grid_model.specs.declared.boxes.Pos.{Pos}
use Rattle.made_texts.specs.ObsText.{observed_from}
use Rattle.made_input.specs.PlaceFits.{FitsAt}
use Rattle.made_input.proofs.FitLemmas.{fits_in_each}
use Rattle.made_input.proofs.fits.place_fits.Goals as goal

pub returns : goal.returns
returns c seed count made records settings m few read value =
    subst (λ (p : Pos). AllByRecursion (FitsAt records settings p) (observed_from 1 m.epochs)) (sym m.place)
    (fits_in_each seed records settings read value 1 0 m.epochs m.epochs_are (omega (arith, m.count_is, few)))
