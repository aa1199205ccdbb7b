use Rattle.std.proofs.Common.{◌≡◌, ◌≢◌, [], sym, ap, ◌∙◌}
use Rattle.std.specs.Prelude.{if◌then◌else◌, None}
use Rattle.clap.specs.Faults.{fault_of}
use Rattle.clap.specs.Simple.{HasMatchesOf, subcommand_of}
use Rattle.clap.specs.Walk.{is_empty}
use Rattle.command_words.specs.Program.{program}
use Rattle.command_words.specs.Commands.{command_said}
use Rattle.command_words.specs.Seen.{texts}
use Rattle.command_words.proofs.LevelLemmas.{simple}
use Rattle.command_words.proofs.MatchLemmas.{some_fault}
use Rattle.command_words.proofs.matches.command_of.Goals as goal

pub returns-in-Some-clause-command : goal.returns-in-Some-clause-command
returns-in-Some-clause-command c =
    let words = texts c.args.words.now in
    let given : (fault_of program words ≡ []) × HasMatchesOf program words c.in-Some.matches = rw c.in-Some.is at c.in_ok-matches.ensures in
    c.command_said.ensures.command
    ∙ ap command_said (given.1 simple).1
    ∙ sym (ap (λ k. if is_empty k then command_said (subcommand_of program words) else None) given.0)

pub returns-in-None-clause-command : goal.returns-in-None-clause-command
returns-in-None-clause-command c =
    let words = texts c.args.words.now in
    let some : fault_of program words ≢ [] = rw c.in-None.is at c.in_ok-matches.ensures in
    sym (ap (λ b. if b then command_said (subcommand_of program words) else None) (some_fault (fault_of program words) some))
