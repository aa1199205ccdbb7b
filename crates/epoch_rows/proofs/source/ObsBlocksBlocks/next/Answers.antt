use Rattle.std.proofs.Common.{refl, sym, ap, ◌∙◌, Bool, Some}
use Rattle.epoch_selection.specs.Searches.{search_in}
use Rattle.grid_model.specs.Boxes.{grid_box}
use Rattle.paving_log.specs.Values.{block_of}
use Rattle.subpaving.specs.LiveValues.{box_option}
use Rattle.epoch_rows.specs.EpochsLeft.{index_of, searches_behind}
use Rattle.epoch_rows.specs.Renewed.{hand_of}
use Rattle.epoch_rows.proofs.NextLemmas.{comes_first, follows, keeps_part, rest_ready, serves}
use Rattle.epoch_rows.proofs.source.ObsBlocksBlocks.next.Goals as goal

pub returns-in_default-clause-gives : goal.returns-in_default-clause-gives
returns-in_default-clause-gives g c =
    let told = c.walk_behind-walk.ensures in (
      refl,
      refl,
      refl,
      record {
        over = λ kept blocks. sym (told.searches blocks) ∙ c.in_default.ensures.first (told.ready c.requires.1 kept) blocks;
        lost = c.lost_at-self.ensures;
      },
    )

pub returns-clause-ready : goal.returns-clause-ready
returns-clause-ready g c =
    let blocks = c.args.self.now in
    let taken = c.in-Some.ensures in
    let first = sym c.walk_behind-walk.ensures.epochs ∙ taken.epochs in (
      rest_ready (g.S.RowSource.meaning blocks.source.now) (index_of blocks.given) _ _ c.in-Some.epoch.now first c.requires.0,
      keeps_part (g.W.Walk.may_keep c.next.new.self) (grid_box c.in-Some.root) taken.part taken.nothing,
      c.requires.2,
    )

pub returns-clause-gives : goal.returns-clause-gives
returns-clause-gives g c =
    let blocks = c.args.self.now in
    let told = c.walk_behind-walk.ensures in
    let taken = c.in-Some.ensures in
    let epoch = c.in-Some.epoch.now in
    let root = grid_box c.in-Some.root in
    let block = block_of c.in_ok-next.next.block in
    let walk = c.next.new.self in (
      refl,
      refl,
      c.in_ok-next.ensures.renews ∙ c.active-renews.ensures,
      record {
        hand = hand_of (search_in root epoch) block;
        next = record {
          epoch = epoch;
          root = c.in-Some.root;
          first = sym told.epochs ∙ taken.epochs;
          box = taken.sized;
          is_first = λ kept. comes_first g.W.Walk.keeps (g.W.Walk.behind walk) (c.requires.2 walk)
              (g.W.Walk.searches c.walk_behind-walk.result) (searches_behind (g.W.Walk.searches blocks.walk) (g.W.Walk.behind blocks.walk) blocks.given (box_option c.args.kept))
              told.searches epoch root _ _ c.is_few.ensures (taken.first (told.ready c.requires.1 kept));
          grown = c.in_ok-next.ensures.grown;
          last = ap (λ (few : Bool). Some (record { index = epoch.index; root = root; few = few })) c.is_few.ensures;
          hand = refl;
        };
        is_maker = λ on. c.in_ok-next.ensures.maker (c.active-renews.ensures ∙ on);
      },
    )

pub returns-clause-serves : goal.returns-clause-serves
returns-clause-serves g c active =
    let blocks = c.args.self.now in
    let made = c.in_ok-next.ensures in
    let first = sym c.walk_behind-walk.ensures.epochs ∙ c.in-Some.ensures.epochs in
    serves (g.S.RowSource.meaning blocks.source.now) (index_of blocks.given) _ _ c.in-Some.epoch.now first c.requires.0
    blocks.rules (grid_box c.in-Some.root) (block_of c.in_ok-next.next.block) made.grown c.in_ok-next.next.maker (made.maker (sym made.renews ∙ active))

pub returns-clause-active : goal.returns-clause-active
returns-clause-active g c = c.in_ok-next.ensures.renews ∙ c.active-renews.ensures

pub returns-clause-follows : goal.returns-clause-follows
returns-clause-follows g c =
    let blocks = c.args.self.now in
    let made = c.in_ok-next.ensures in
    let first = sym c.walk_behind-walk.ensures.epochs ∙ c.in-Some.ensures.epochs in
    follows (g.S.RowSource.meaning blocks.source.now) (index_of blocks.given) _ _ c.in-Some.epoch.now first c.requires.0
    blocks.rules (grid_box c.in-Some.root) (block_of c.in_ok-next.next.block) made.grown made.fits
