-- How large and how wide a mapping may be over a box. Lengths are in um, mappings in 10^-16.
use Rattle.std.specs.Prelude.{ℕ, ◌+◌, ◌*◌, ◌/◌, ◌^◌}
use Rattle.grid_model.specs.Boxes.{GridBox}
use Rattle.grid_model.specs.Lengths.{longest_length}
use Rattle.gnss_model.specs.Layers.{layer_room}
use Rattle.gnss_model.specs.declared.delays.Layer.{Layer}

-- a coordinate of a turned place
abbrev pub turned_reach : ℕ
turned_reach = 61 * 10 ^ 12

-- a mapping: 30
abbrev pub mapped_amount : ℕ
mapped_amount = 3 * 10 ^ 17

-- a delay straight up of at most 100 m, mapped, in um
abbrev pub delay_amount : ℕ
delay_amount = 3 * 10 ^ 9 + 2

-- how wide a mapping may be over a box whose longest side is d
abbrev pub width_over : Layer → ℕ → ℕ
width_over layer d = 10 ^ 11 + 10 ^ 16 * d / layer_room layer

abbrev pub mapped_width : Layer → GridBox → ℕ
mapped_width layer part = width_over layer (longest_length part)
