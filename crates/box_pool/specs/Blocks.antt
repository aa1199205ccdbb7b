-- The parts of a pool are those of one block. No public clause cites it.
use Rattle.std.specs.Prelude.{◌≡◌, ◌≤◌, ℕ, length}
use Rattle.std.specs.declared.alloc.Global.{Global}
use Rattle.box_pool.specs.declared.block.Base.{Base}
use Rattle.box_pool.specs.declared.block.Cells.{Cells}
use Rattle.box_pool.specs.declared.block.Deed.{Deed}
use Rattle.box_pool.specs.declared.item.Node.{Node}

pub record IsBlock (base : Base Node) (cells : Cells Node) (deed : Deed Node Global)
    (alloc : Global) (nodes : ℕ) : Type 0 where
  pub cells_at : cells.at ≡ base.ptr
  pub deed_at : deed.at ≡ base.ptr
  pub deed_len : deed.len ≡ nodes
  pub deed_alloc : deed.alloc ≡ alloc
  pub length : length cells.slots ≡ nodes
  pub few : nodes ≤ 200001
