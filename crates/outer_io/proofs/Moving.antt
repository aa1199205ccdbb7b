-- A slot that moves on.
use Rattle.std.proofs.Common.{◌≡◌, ℕ, ◌+◌, Option, None, Some, ap, ◌∙◌, arith}
use Rattle.std.specs.Option.{option_map}
use Rattle.outer_io.specs.declared.slots.Slot.{Slot}
use Rattle.outer_io.specs.Slots.{at, put}
use Rattle.outer_io.specs.Told.{Told, moved}
use Rattle.outer_io.proofs.SlotLemmas.{at-put, put-put}

moved-moved : (slot : Slot) (m n : ℕ) (t : Told)
    → moved slot n (moved slot m t) ≡ moved slot (m + n) t
moved-moved slot m n t =
    let from : ((at t.positions slot).from + m) + n ≡ (at t.positions slot).from + (m + n) = omega arith in
    simp (at-put, put-put) (λ i. record t { positions = put t.positions slot (record { name = (at t.positions slot).name; from = from i }) })

pub moved-more : (slot : Slot) (m n : ℕ) (a b c : Option Told)
    → b ≡ option_map (moved slot m) a → c ≡ option_map (moved slot n) b
    → c ≡ option_map (moved slot (m + n)) a
moved-more slot m n None b c before then = then ∙ ap (option_map (moved slot n)) before
moved-more slot m n (Some t) b c before then = then ∙ ap (option_map (moved slot n)) before ∙ ap Some (moved-moved slot m n t)
