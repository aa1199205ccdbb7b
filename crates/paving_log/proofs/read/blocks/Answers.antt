use Rattle.std.proofs.Common.{◌≡◌, ◌<◌, List, [], ◌∷◌, ◌++◌, map, Some, None, ap, subst, sym, ◌∙◌, refl}
use Rattle.std.specs.List.{flat_map}
use Rattle.std.specs.Prelude.{Option}
use Rattle.std.proofs.lemmas.List.{map-append}
use Rattle.std.proofs.lemmas.Result.{err_from_is_err_and}
use Rattle.sat_model.specs.Logs.{Block}
use Rattle.log_lines.specs.declared.line.Form.{Form}
use Rattle.log_lines.specs.declared.line.LogLine.{LogLine}
use Rattle.log_lines.specs.declared.line.Place.TheVariants as place
use Rattle.paving_log.specs.declared.lines.Lines.{Lines}
use Rattle.paving_log.specs.declared.lines.Opening.{Opening}
use Rattle.log_lines.specs.Text.{first_line, block_lines, body_lines}
use Rattle.paving_log.specs.Taking.{block_place, TakesTo}
use Rattle.paving_log.specs.Values.{block_of}
use Rattle.paving_log.proofs.LineLemmas.{refuses_behind}
use Rattle.paving_log.proofs.FitLemmas.{opening_fits}
use Rattle.paving_log.proofs.EndLemmas.{end_to}
use Rattle.paving_log.proofs.NumberingLemmas.{TakesSoFar, none_taken, block_on, blocks_ended, block_takes, left_over}
use Rattle.paving_log.proofs.read.blocks.Goals as goal

-- the blocks so far, with the first line of the next
opened : (f : Form) (start left : Lines) (blocks : List Block) (next : Option Opening) (o : Opening)
    → next ≡ Some o → TakesSoFar f start blocks next left → TakesSoFar f start blocks (Some o) left
opened f start left blocks next o is so_far = subst (λ (n : Option Opening). TakesSoFar f start blocks n left) is so_far

pub each-init : goal.each-init
each-init c = none_taken c.args.form c.args.lines c.in_ok-next.left _ c.in_ok-next.next (ap (map block_of) c.new-epochs.ensures.items) c.in_ok-next.ensures.taken

pub block-requires : goal.block-requires
block-requires c =
    let so_far = opened c.args.form c.args.lines c.each.left (map block_of c.each.epochs.items) c.each.next c.in-Some.opening c.in-Some.is c.each.invariant in
    record {
      whole = end_to c.args.form (place.Between c.args.form) c.args.lines c.each.left (flat_map (block_lines c.args.form) (map block_of c.each.epochs.items)) (Some c.in-Some.opening) c.args.text.now.value.items c.requires so_far.taken;
      header = opening_fits c.args.form (place.Between c.args.form) c.args.lines c.each.left _ c.in-Some.opening so_far.taken;
    }

pub returns-in_err-epoch-clause-refused : goal.returns-in_err-epoch-clause-refused
returns-in_err-epoch-clause-refused c =
    let p = err_from_is_err_and c.from_residual-in_err-epoch.result c.from_residual-in_err-epoch.ensures.1 in
    let o = c.in-Some.opening in
    let so_far = opened c.args.form c.args.lines c.each.left (map block_of c.each.epochs.items) c.each.next o c.in-Some.is c.each.invariant in
    rw (p.1, p.2) (refuses_behind (place.Between c.args.form) (block_place c.args.form o.few o.header) c.args.lines c.each.left (flat_map (block_lines c.args.form) (map block_of c.each.epochs.items) ++ first_line o.few o.header ∷ []) _ so_far.taken.taken c.in_err-epoch.ensures.refused)

smaller : (f : Form) (mid new : Lines) (ls : List LogLine) (here next : Option Opening) (o : Opening)
    → here ≡ Some o → TakesTo f (block_place f o.few o.header) mid ls next new
    → left_over next new < left_over here mid
smaller f mid new ls here next o is taken = rw is (block_takes f (block_place f o.few o.header) mid new ls next taken)

pub each-smaller : goal.each-smaller
each-smaller c = smaller c.args.form c.each.left c.in_ok-epoch.behind (body_lines c.args.form (block_of c.in_ok-epoch.epoch)) c.each.next c.in_ok-epoch.after c.in-Some.opening c.in-Some.is c.in_ok-epoch.ensures.taken

pub each-preserved : goal.each-preserved
each-preserved c =
    let so_far = opened c.args.form c.args.lines c.each.left (map block_of c.each.epochs.items) c.each.next c.in-Some.opening c.in-Some.is c.each.invariant in
    let one = block_on c.args.form c.args.lines c.each.left c.in_ok-epoch.behind (map block_of c.each.epochs.items) c.in-Some.opening (block_of c.in_ok-epoch.epoch) c.in_ok-epoch.after so_far
    c.in_ok-epoch.ensures.opened c.in_ok-epoch.ensures.fits c.in_ok-epoch.ensures.taken in
    let pushed : map block_of c.each.epochs.items ++ block_of c.in_ok-epoch.epoch ∷ [] ≡ map block_of c.push.new.self.items = sym (ap (map block_of) c.in_ok-push.ensures.items ∙ map-append block_of c.each.epochs.items (c.in_ok-epoch.epoch ∷ [])) in
    subst (λ (bs : List Block). TakesSoFar c.args.form c.args.lines bs c.in_ok-epoch.after c.in_ok-epoch.behind) pushed one

none_left : (next : Option Opening) → ((o : Opening) → next ≡ Some o → ⊥) → next ≡ None
none_left None none = refl
none_left (Some o) none = absurd (none o refl)

pub returns-clause-taken : goal.returns-clause-taken
returns-clause-taken c = blocks_ended c.args.form c.args.lines c.each.left (map block_of c.each.epochs.items) c.each.next (none_left c.each.next c.in_default.not-Some) c.each.invariant
