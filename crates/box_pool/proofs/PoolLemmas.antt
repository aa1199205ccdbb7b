-- A pool's block stays the same.
use Rattle.std.proofs.Common.{◌≡◌, ℕ, length, set, Option, ap, ◌∙◌}
use Rattle.std.proofs.Math.ListN.{length-set}
use Rattle.std.specs.declared.alloc.Global.{Global}
use Rattle.box_pool.specs.declared.block.Base.{Base}
use Rattle.box_pool.specs.declared.block.Cells.{Cells}
use Rattle.box_pool.specs.declared.block.Deed.{Deed}
use Rattle.box_pool.specs.declared.item.Node.{Node}
use Rattle.box_pool.specs.Blocks.{IsBlock}

pub block_kept : (base : Base Node) (old new : Cells Node) (deed : Deed Node Global) (alloc : Global) (nodes : ℕ) (i : ℕ) (v : Option Node)
    → IsBlock base old deed alloc nodes → new.at ≡ old.at → new.slots ≡ set old.slots i v
    → IsBlock base new deed alloc nodes
block_kept base old new deed alloc nodes i v k at slots = record {
  cells_at = at ∙ k.cells_at;
  deed_at = k.deed_at;
  deed_len = k.deed_len;
  deed_alloc = k.deed_alloc;
  length = ap length slots ∙ length-set old.slots i v ∙ k.length;
  few = k.few;
}
