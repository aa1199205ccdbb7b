-- The delays straight up, where spans are declared of them, and how wide the bounds may be that are
-- mapped from them (`Mapping`). Lengths are in um.
use Rattle.std.specs.Prelude.{◌≡◌, ℕ, ◌+◌, ◌*◌, ◌/◌, ◌^◌, max, nat_abs, Bool, ◌&&◌}
use Rattle.std.specs.Prelude.{Option, None, Some, is_none}
use Rattle.grid_model.specs.Boxes.{GridBox}
use Rattle.grid_model.specs.Lengths.{longest_length}
use Rattle.grid_model.specs.Sizes.{IsWithin}
use Rattle.grid_model.specs.declared.spans.Span.{Span}
use Rattle.gnss_model.specs.Layers.{layer_room}
use Rattle.gnss_model.specs.declared.delays.Delays.{Delays}
use Rattle.gnss_model.specs.declared.delays.Layer.{Layer}
use Rattle.gnss_model.specs.declared.delays.Layer.TheVariants.{Troposphere, Ionosphere}

-- no span is declared, so nothing is mapped
abbrev pub is_plain : Delays → Bool
is_plain delays = is_none delays.zenith && is_none delays.vertical

-- the ends of the span, where there is one, are within n
pub record IsDelayWithin (n : ℕ) (delay : Option Span) : Type 0 where
  pub low : (s : Span) → delay ≡ Some s → IsWithin n s.lo
  pub high : (s : Span) → delay ≡ Some s → IsWithin n s.hi

-- the troposphere's within 10 m, the ionosphere's within 100 m
pub record AreDelays (delays : Delays) : Type 0 where
  pub zenith : IsDelayWithin (10 ^ 7) delays.zenith
  pub vertical : IsDelayWithin (10 ^ 8) delays.vertical

-- the greater amount of the ends of a span
abbrev pub span_amount : Span → ℕ
span_amount s = max (nat_abs s.lo) (nat_abs s.hi)

-- how far a delay of this amount straight up may spread over a box whose longest side is d
abbrev pub spare_over : Layer → ℕ → ℕ → ℕ
spare_over layer amount d = 2000 + amount * d / layer_room layer

-- ... over a search box, where a span is declared of it
abbrev pub delay_spare : Layer → GridBox → Option Span → ℕ
delay_spare layer root None = 0
delay_spare layer root (Some s) = spare_over layer (span_amount s) (longest_length root)

-- how wide the span of a row's low ends of the error, and that of its high ends, may be over a
-- search box
abbrev pub err_spare_of : GridBox → Delays → ℕ
err_spare_of root delays =
    delay_spare Troposphere root delays.zenith + delay_spare Ionosphere root delays.vertical
