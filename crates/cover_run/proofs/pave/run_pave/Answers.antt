use Rattle.std.proofs.Common.{ℕ, false, [], ◌∷◌, List, length, map, refl, ap, subst}
use Rattle.std.specs.Vec.Iter.{into_iter_items}
use Rattle.input_files.proofs.ReadingLemmas.{found_value, named_fair}
use Rattle.input_files.specs.Logs.{rows_text}
use Rattle.log_writer.proofs.MapLemmas.{text_map}
use Rattle.log_writer.specs.RowsFrom.{of_rows}
use Rattle.log_writer.specs.Sizes.{most_bytes}
use Rattle.log_writer.specs.Texts.{IsText}
use Rattle.log_writer.specs.declared.blocks.LogBlocks.{LogBlocks}
use Rattle.outer_io.specs.declared.slots.Slot.TheVariants as slot
use Rattle.paving_log.specs.Values.{block_of, log_value}
use Rattle.sat_model.specs.Logs.{Block}
use Rattle.cover_run.proofs.RunLemmas.{run_ok}
use Rattle.cover_run.proofs.WritingLemmas.{writes_as, writes_behind, writes_suits, written_known}
use Rattle.cover_run.specs.Paving.{IsPaved}
use Rattle.cover_run.specs.Writing.{Answer}
use Rattle.cover_run.proofs.pave.run_pave.Goals as goal

pub returns : goal.returns
returns g c =
    let limits = c.args.limits.now in
    let rows = c.in-Ok.given in
    let made = c.of_log-blocks.ensures in
    let blocks_of = λ (blocks : LogBlocks). map block_of (into_iter_items blocks.rest) in
    let s = c.write_named.result in
    let fair = named_fair limits rows_text c.args.rows.now in
    let last = c.write_named.new.blocks in
    let text_of = λ (answer : Answer) (bytes said : List ℕ). subst
    (λ (blocks : List Block). IsText of_rows rows.rules blocks (blocks_of last) limits.log answer
    bytes said) made.rest in
    let wrote = writes_as [] _ _ _ _ limits.log _ _ _ (IsPaved (log_value rows) limits.log)
    (λ answer bytes said text. (
      blocks_of last,
      text_of answer bytes said (text_map _ of_rows
          blocks_of (λ old hull next new gave. gave) (λ blocks. refl) refl rows.rules
          c.of_log-blocks.result last limits.log answer bytes said text),
    ))
    (ap (λ (blocks : List Block). most_bytes false (length blocks) rows.rules.bisections) made.rest)
    s c.write_named.ensures.log in
    let does = writes_behind ((slot.Rows, c.args.rows.now) ∷ []) _ _ _ _ _ rows c.in-Ok.ensures.only refl refl
    limits.log _ (IsPaved (log_value rows) limits.log) s wrote in
    run_ok _ _ _ _ s rows (found_value _ _ _ _ _ _ _ fair c.in-Ok.ensures.found) does
    (writes_suits _ _ _ _ _ _ _ _ s does) (written_known s)
