use Rattle.std.proofs.Common.{◌≡◌, ℕ, length, None, Option, replicate, List, inl, inr, arith, refl, sym, ap, ◌∙◌}
use Rattle.std.proofs.lemmas.Bool.{cases_lt}
use Rattle.std.proofs.lemmas.List.{get_or-replicate, get_or_past}
use Rattle.std.proofs.Math.ListN.{length-replicate}
use Rattle.box_pool.specs.declared.item.Node.{Node}
use Rattle.box_pool.specs.Chains.{node_at}
use Rattle.box_pool.proofs.ChainLemmas.{all_spare, none_at, empty_at}
use Rattle.box_pool.proofs.MaskLemmas.{mask_none}
use Rattle.box_pool.proofs.pool.Pool.with_nodes.Goals as goal

nothing_at : (slots : List (Option Node)) (n : ℕ) → slots ≡ replicate n None → (i : ℕ)
    → node_at slots i ≡ None
nothing_at slots n made i = ap (λ (s : List (Option Node)). node_at s i) made ∙ elim (cases_lt i n) [
  | inl lt ↦ get_or-replicate n i None None lt
  | inr le ↦ get_or_past (replicate n None) i None (omega (arith, le, length-replicate {A = Option Node} n None))
]

pub invariant_of-result : goal.invariant_of-result
invariant_of-result c =
    let made = c.in_ok-base.ensures in (
      record { cells_at = made.0; deed_at = made.2; deed_len = made.3; deed_alloc = made.4; length = ap length made.1 ∙ length-replicate c.args.n None; few = c.requires.few },
      all_spare c.in_ok-base.cells.slots c.args.n (nothing_at c.in_ok-base.cells.slots c.args.n made.1),
      sym (mask_none 48),
      (refl, refl),
    )

pub returns-clause-empty : goal.returns-clause-empty
returns-clause-empty c = λ bucket.
    empty_at c.in_ok-base.cells.slots (replicate 48 0) (replicate 48 0) (replicate 48 0) 0 c.args.n 0 c.args.n
    (all_spare c.in_ok-base.cells.slots c.args.n (nothing_at c.in_ok-base.cells.slots c.args.n c.in_ok-base.ensures.1)) refl bucket (none_at bucket 48)
