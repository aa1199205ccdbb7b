use Rattle.std.proofs.Common.{◌≡◌, List, [], ◌∷◌, ◌++◌, map, refl, sym, subst, to_z, of_z, arith}
use mir.Syntax.{w128}
use Rattle.std.proofs.lemmas.Int.{ints}
use Rattle.std.proofs.lemmas.Result.{err_from_is_err_and}
use Rattle.grid_model.specs.Boxes.{grid_box}
use Rattle.log_lines.specs.declared.line.LogLine.{LogLine}
use Rattle.log_lines.specs.declared.line.LogLine.TheVariants as line
use Rattle.log_lines.specs.declared.line.Place.TheVariants as place
use Rattle.log_tokens.specs.Fields.{IsTime}
use Rattle.paving_log.specs.EventValues.{events_of}
use Rattle.log_lines.specs.Order.{place_behind_root}
use Rattle.log_lines.specs.Rows.{CornersFit, corners_of}
use Rattle.paving_log.specs.Taking.{stepped_lines, place_behind_steps, bounds_lines, TakesTo}
use Rattle.paving_log.specs.Values.{bound_value}
use Rattle.paving_log.proofs.PartLemmas.{body_joined, parts_fit}
use Rattle.paving_log.proofs.LineLemmas.{refuses_behind}
use Rattle.paving_log.proofs.BlockLemmas.{paved_taken, takes_to_behind}
use Rattle.paving_log.proofs.FitLemmas.{sat_parts}
use Rattle.paving_log.proofs.EndLemmas.{end_on}
use Rattle.paving_log.proofs.read.paved_block.Goals as goal

pub closing-requires : goal.closing-requires
closing-requires c = end_on c.requires.whole c.in_ok-sats.ensures.taken

pub returns-in_err-events-clause-refused : goal.returns-in_err-events-clause-refused
returns-in_err-events-clause-refused c =
    let p = err_from_is_err_and c.from_residual-in_err-events.result c.from_residual-in_err-events.ensures.1 in
    let n = c.args.opening.header.n in
    rw (p.1, p.2) (refuses_behind (place.Satellites c.args.form n 0) (place_behind_root c.args.form n) c.args.lines c.in_ok-sats.left (map line.Sat c.in_ok-sats.sats.items ++ line.Root c.in_ok-sats.corners ∷ []) _ c.in_ok-sats.ensures.taken c.in_err-events.ensures.refused)

pub box_of-requires : goal.box_of-requires
box_of-requires c =
    let n = c.args.opening.header.n in
    (sat_parts c.args.form n 0 c.in_ok-sats.sats.items (line.Root c.in_ok-sats.corners ∷ []) (place_behind_root c.args.form n) (omega arith) c.in_ok-sats.ensures.taken.leads).rest.0

pub returns-in_err-bounds-clause-refused : goal.returns-in_err-bounds-clause-refused
returns-in_err-bounds-clause-refused c =
    let p = err_from_is_err_and c.from_residual-in_err-bounds.result c.from_residual-in_err-bounds.ensures.1 in
    let n = c.args.opening.header.n in
    let sats = c.in_ok-sats.sats.items in
    let stepped = stepped_lines c.args.form (events_of c.in_ok-events.events) c.in_ok-events.done in
    let taken = paved_taken c.args.form n c.args.lines c.in_ok-sats.left c.in_ok-events.left sats c.in_ok-sats.corners c.in_ok-sats.corners stepped (place_behind_steps c.args.form) refl
    c.in_ok-sats.ensures.taken c.in_ok-events.ensures.taken in
    rw (p.1, p.2) (refuses_behind (place.Satellites c.args.form n 0) (place_behind_steps c.args.form) c.args.lines c.in_ok-events.left (map line.Sat sats ++ line.Root c.in_ok-sats.corners ∷ stepped) _ taken c.in_err-bounds.ensures.refused)

pub returns-clause-taken : goal.returns-clause-taken
returns-clause-taken c =
    let f = c.args.form in
    let n = c.args.opening.header.n in
    let sats = c.in_ok-sats.sats.items in
    let said = corners_of (grid_box c.box_of.result) in
    let events = events_of c.in_ok-events.events in
    let done = c.in_ok-events.done in
    let bounds = map bound_value c.in_ok-bounds.bounds.items in
    let stepped = stepped_lines f events done in
    let first = paved_taken f n c.args.lines c.in_ok-sats.left c.in_ok-events.left sats c.in_ok-sats.corners said stepped (place_behind_steps f) c.box_of.ensures
    c.in_ok-sats.ensures.taken c.in_ok-events.ensures.taken in
    let whole = takes_to_behind f (place.Satellites f n 0) (place_behind_steps f) c.args.lines c.in_ok-events.left c.in_ok-bounds.left (map line.Sat sats ++ line.Root said ∷ stepped)
    (bounds_lines f bounds) c.in_ok-bounds.next first c.in_ok-bounds.ensures.taken in
    rw (c.shrink_to_fit.ensures.items, c.shrink_to_fit-2.ensures.items)
    (subst (λ (ls : List LogLine). TakesTo f (place.Satellites f n 0) c.args.lines ls c.in_ok-bounds.next c.in_ok-bounds.left) (body_joined f sats said events done bounds) whole)

pub returns-clause-fits : goal.returns-clause-fits
returns-clause-fits c =
    let h = c.args.opening.header in
    let time = c.requires.header.ps in
    let same : to_z w128 (of_z w128 h.ps) ≡ h.ps = omega (arith, ints, time.0, time.1) in
    let sats = sat_parts c.args.form h.n 0 c.in_ok-sats.sats.items (line.Root c.in_ok-sats.corners ∷ []) (place_behind_root c.args.form h.n) (omega arith) c.in_ok-sats.ensures.taken.leads in
    record {
      header = record { index = c.requires.header.index; ps = subst IsTime (sym same) time; n = c.requires.header.n };
      sats = rw c.shrink_to_fit.ensures.items sats.fit;
      at_most = rw c.shrink_to_fit.ensures.items c.in_ok-sats.ensures.at_most;
      body = (
        subst CornersFit (sym c.box_of.ensures) sats.rest.0,
        rw c.shrink_to_fit-2.ensures.items (parts_fit c.args.form h.n (events_of c.in_ok-events.events) c.in_ok-events.done (map bound_value c.in_ok-bounds.bounds.items) c.in_ok-events.ensures.fits c.in_ok-bounds.ensures.fits),
      );
    }
