-- In what the mappings of the two delays differ. The troposphere's is that of Black and Eisner,
-- 1.001 / sqrt(0.002001 + sin^2 E), E being the elevation (`Mapping`). The ionosphere's is the
-- obliquity factor of RTCA DO-229, A.4.4.10.4, where all delay is that of a thin shell at h = 350
-- km above an earth of the radius Re = 6378.1363 km: 1 / sqrt(1 - (Re cos E / (Re + h))^2), which
-- is 1 / sqrt(1 - F^2 + (F sin E)^2) with F = Re / (Re + h).
use Rattle.std.specs.Prelude.{ℕ, ◌*◌, ◌^◌}
use Rattle.gnss_model.specs.declared.delays.Layer.{Layer}
use Rattle.gnss_model.specs.declared.delays.Layer.TheVariants.{Troposphere, Ionosphere}

-- the numerator, 1.001 or 1, in 10^-3
abbrev pub layer_scale : Layer → ℕ
layer_scale Troposphere = 1001
layer_scale Ionosphere = 1000

-- the floor below the root, 0.002001 or 1 - F^2, in 10^-32 and cut off
abbrev pub layer_floor : Layer → ℕ
layer_floor Troposphere = 2001 * 10 ^ 26
layer_floor Ionosphere = 10133458172795012207442187408082

-- the factor of the sine, 1 or F, as a fraction: Re over Re + h in 0.1 m
abbrev pub layer_part : Layer → ℕ
layer_part Troposphere = 1
layer_part Ionosphere = 63781363

abbrev pub layer_whole : Layer → ℕ
layer_whole Troposphere = 1
layer_whole Ionosphere = 67281363

-- how long a box has to be, in um, for a mapping to spread by 1 over it (or by less)
abbrev pub layer_room : Layer → ℕ
layer_room Troposphere = 3 * 10 ^ 9
layer_room Ionosphere = 175 * 10 ^ 9
