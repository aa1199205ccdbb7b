use Rattle.std.proofs.Common.{refl, true}
use Rattle.command_words.specs.Seen.{files_asked}
use Rattle.input_files.proofs.InputLemmas.{inputs_fair}
use Rattle.input_files.proofs.ReadingLemmas.{found_value}
use Rattle.input_files.specs.Inputs.{input_files}
use Rattle.cover_run.proofs.RunLemmas.{run_ok, run_err}
use Rattle.cover_run.proofs.WritingLemmas.{writes_behind, writes_suits, written_known}
use Rattle.cover_run.specs.Chosen.{chosen_in}
use Rattle.cover_run.specs.Tracking.{IsTrack}
use Rattle.cover_run.proofs.tracking.run_track.Goals as goal

pub returns-in-Ok : goal.returns-in-Ok
returns-in-Ok g c =
    let i = c.in-Ok.inputs in
    let limits = c.args.limits.now in
    let names = files_asked c.args.words.now in
    let fair = inputs_fair limits names true in
    let s = c.write_track.result in
    let does = writes_behind (input_files names) _ _ _ _ _ i c.in-Ok.ensures.only refl refl limits.log _
    (IsTrack (chosen_in names) i limits.log) s
    (rw c.chosen_in.ensures at c.write_track.ensures) in
    run_ok _ _ _ _ s i (found_value _ _ _ _ _ _ _ fair c.in-Ok.ensures.found) does
    (writes_suits _ _ _ _ _ _ _ _ s does) (written_known s)

pub returns-in-Err : goal.returns-in-Err
returns-in-Err g c =
    run_err _ _ _ _ c.say.result c.in-Err.notice c.in-Err.ensures.found c.in-Err.ensures.only
    c.say.ensures.status c.say.ensures.line refl
