use Rattle.std.proofs.Common.{◌≡◌, refl, ap, ◌∙◌, to_z-of_z, to_z, of_z, FitsSigned, rules}
use mir.Syntax.{w128}
use Rattle.std.specs.Prelude.{pos}
use Rattle.grid_model.specs.Boxes.{grid_box}
use Rattle.grid_model.specs.Lengths.{spare_of}
use Rattle.gnss_model.specs.Delays.{err_spare_of}
use Rattle.epoch_selection.specs.Searches.{search_in}
use Rattle.epoch_rows.proofs.BaseLemmas.{few_bases, bases_of_rows, can_form}
use Rattle.epoch_rows.proofs.BlockLemmas.{header_fits, bare_fits, few_usable, few_skips, skips_skipped, few_grown, skip_entries, grown_entries}
use Rattle.epoch_rows.proofs.blocks.block.Goals as goal
use Rattle.paving_log.specs.Values.{body_value}

pub invariant_of-result : goal.invariant_of-result
invariant_of-result g c =
    let s = g.S.RowSource in
    let seen = c.args.epoch.now in
    let h = c.in_ok-own.ensures in
    record {
      at_most = few_skips (s.meaning c.args.source.now) (grid_box c.args.root.now) seen c.in_ok-own.own.lines.items _ h.lines c.deref.ensures.value _
          c.in_ok-skip_lines.ensures;
    }

pub returns-then-n-from-clause-fits : goal.returns-then-n-from-clause-fits
returns-then-n-from-clause-fits g c =
    let fits : FitsSigned w128 c.args.epoch.now.tag = search rules in
    let same : to_z w128 (of_z w128 c.args.epoch.now.tag) ≡ c.args.epoch.now.tag = simp to_z-of_z refl in
    let s = g.S.RowSource in
    let source = c.args.source.now in
    let seen = c.args.epoch.now in
    let root = grid_box c.args.root.now in
    let h = c.in_ok-own.ensures in
    let own = c.in_ok-own.own.lines.items in
    let items = c.in_ok-skip_lines.field-0.items in
    record {
      header = header_fits seen.index c.in_ok-own.own.usable _ seen.tag same c.requires.index seen.tag_from seen.tag_under
          (few_usable (s.meaning source) root seen own own h.lines refl _ h.usable);
      sats = skip_entries (s.meaning source) root seen own _ h.lines c.deref.ensures.value c.requires.skips c.requires.named items c.in_ok-skip_lines.ensures;
      at_most = few_skips (s.meaning source) root seen own _ h.lines c.deref.ensures.value items c.in_ok-skip_lines.ensures;
      body = skips_skipped (s.meaning source) root seen own _ h.lines c.deref.ensures.value items c.in_ok-skip_lines.ensures;
    }

pub returns-then-n-from-clause-maker : goal.returns-then-n-from-clause-maker
returns-then-n-from-clause-maker g c =
    let m = g.S.RowSource.meaning c.args.source.now in
    let search = search_in (grid_box c.args.root.now) c.args.epoch.now in
    let made = c.empty.ensures in λ active. record {
      root = ap grid_box made.root;
      delays = made.delays ∙ c.delays-delays.ensures.value;
      bases = few_bases m search c.deref.result.now c.in_ok-skip_lines.field-0.items c.empty.result.bases.items c.in_ok-skip_lines.ensures made.bases;
    }

pub of_bases-requires-clause-bases : goal.of_bases-requires-clause-bases
of_bases-requires-clause-bases g c =
    let m = g.S.RowSource.meaning c.args.source.now in
    let own = c.in_ok-own.own in
    rw c.delays-delays.ensures.value (can_form m (search_in (grid_box c.args.root.now) c.args.epoch.now) own.lines.items own.bases.items c.in_ok-own.ensures.bases)

pub invariant_of-result-2 : goal.invariant_of-result-2
invariant_of-result-2 g c =
    let s = g.S.RowSource in
    let seen = c.args.epoch.now in
    let h = c.in_ok-own.ensures in
    record {
      at_most = few_grown (s.meaning c.args.source.now) (grid_box c.args.root.now) seen c.in_ok-own.own.lines.items _ h.lines c.deref-2.ensures.value
          (pos (spare_of (grid_box c.args.root.now))) (pos (err_spare_of (grid_box c.args.root.now) c.delays-delays.result)) _ c.in_ok-grown_lines.ensures;
    }

pub returns-clause-fits : goal.returns-clause-fits
returns-clause-fits g c =
    let fits : FitsSigned w128 c.args.epoch.now.tag = search rules in
    let same : to_z w128 (of_z w128 c.args.epoch.now.tag) ≡ c.args.epoch.now.tag = simp to_z-of_z refl in
    let s = g.S.RowSource in
    let source = c.args.source.now in
    let seen = c.args.epoch.now in
    let root = grid_box c.args.root.now in
    let h = c.in_ok-own.ensures in
    let own = c.in_ok-own.own.lines.items in
    let items = c.in_ok-grown_lines.field-0.items in
    record {
      header = header_fits seen.index c.in_ok-own.own.usable _ seen.tag same c.requires.index seen.tag_from seen.tag_under
          (few_usable (s.meaning source) root seen own own h.lines refl _ h.usable);
      sats = grown_entries (s.meaning source) root seen own _ h.lines c.deref-2.ensures.value c.requires.skips c.requires.named (pos (spare_of root)) (pos (err_spare_of root c.delays-delays.result)) items c.in_ok-grown_lines.ensures;
      at_most = few_grown (s.meaning source) root seen own _ h.lines c.deref-2.ensures.value (pos (spare_of root)) (pos (err_spare_of root c.delays-delays.result)) items c.in_ok-grown_lines.ensures;
      body = bare_fits (body_value c.body_over.result) c.args.root.now c.body_over.ensures;
    }

pub returns-clause-maker : goal.returns-clause-maker
returns-clause-maker g c =
    let m = g.S.RowSource.meaning c.args.source.now in
    let root = grid_box c.args.root.now in
    let own = c.in_ok-own.own in
    let h = c.in_ok-own.ensures in
    let made = c.of_bases.ensures in
    let grown = rw c.deref-2.ensures.value at c.in_ok-grown_lines.ensures in λ active. record {
      root = ap grid_box made.root;
      delays = made.delays ∙ c.delays-delays.ensures.value;
      bases = rw (made.bases active) (bases_of_rows m (search_in root c.args.epoch.now) (pos (spare_of root)) (pos (err_spare_of root c.delays-delays.result))
          own.lines.items c.in_ok-grown_lines.field-0.items own.bases.items h.lines grown h.bases);
    }
