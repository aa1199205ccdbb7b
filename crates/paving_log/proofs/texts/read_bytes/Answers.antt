use Rattle.std.proofs.Common.{◌≡◌, ◌∙◌, ℕ, ◌+◌, ◌≤◌, List, [], ◌++◌, map, length, ap, subst, sym, arith}
use Rattle.std.specs.List.{flat_map}
use Rattle.std.proofs.lemmas.Result.{err_from_is_err_and}
use Rattle.log_lines.specs.declared.line.Place.TheVariants as place
use Rattle.log_lines.specs.Lines.{text_of}
use Rattle.log_lines.specs.Order.{has_version, form_of}
use Rattle.paving_log.specs.RowsText.{IsNumberedIn}
use Rattle.log_lines.specs.Text.{head_lines, block_lines}
use Rattle.paving_log.specs.Values.{block_of}
use Rattle.paving_log.proofs.EndLemmas.{end_on}
use Rattle.paving_log.proofs.LineLemmas.{refusal_behind, text_of-append}
use Rattle.log_lines.proofs.OrderLemmas.{only_true}
use Rattle.paving_log.proofs.NumberingLemmas.{length-text_of, numbered_up_to}
use Rattle.paving_log.proofs.texts.read_bytes.Goals as goal

pub blocks-requires : goal.blocks-requires
blocks-requires c = end_on (record { front = []; parts = sym c.requires.whole }) c.in_ok-version.ensures.taken

pub returns-in_err-epochs-clause-fault : goal.returns-in_err-epochs-clause-fault
returns-in_err-epochs-clause-fault c =
    let p = err_from_is_err_and c.from_residual-in_err-epochs.result c.from_residual-in_err-epochs.ensures.1 in
    let between = place.Between (form_of c.args.kind c.in_ok-version.version) in
    let refused = rw c.form_of.ensures at c.in_err-epochs.ensures.refused in
    rw (p.1, p.2) (refusal_behind (place.First c.args.kind) between _ c.in_ok-version.left (head_lines c.in_ok-version.version c.in_ok-version.rules) _ c.in_ok-version.ensures.taken refused)

pub returns-clause-value : goal.returns-clause-value
returns-clause-value c =
    let f = form_of c.args.kind c.in_ok-version.version in
    let head = c.in_ok-version.ensures.taken in
    let blocks = rw c.form_of.ensures at c.in_ok-epochs.ensures.taken in
    let heads = head_lines c.in_ok-version.version c.in_ok-version.rules in
    let lines = flat_map (block_lines f) (map block_of c.in_ok-epochs.epochs.items) in
    let third : c.in_ok-version.left.number ≡ 3 = omega (arith, head.number) in
    let last : c.in_ok-version.left.number + length lines ≤ 4000000001 = omega (arith, c.in_ok-version.left.room, ap length blocks.parts, length-text_of lines) in
    record {
      fits = record {
        version = head.leads.0;
        has_version = only_true (has_version c.args.kind c.in_ok-version.version) _ _ head.leads.2;
        pairs = c.in_ok-version.ensures.pairs;
        blocks = blocks.fit;
      };
      numbered = subst (λ (n : ℕ). IsNumberedIn f n (map block_of c.in_ok-epochs.epochs.items)) third (numbered_up_to f _ _ _ blocks.numbered last);
      spelled = head.parts ∙ ap (λ (t : List ℕ). text_of heads ++ t) blocks.parts ∙ sym (text_of-append heads lines);
    }
