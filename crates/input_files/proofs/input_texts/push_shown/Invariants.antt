use Rattle.std.proofs.Common.{◌≡◌, ◌++◌, length, drop}
use Rattle.std.specs.Str.{chars}
use Rattle.input_files.specs.InputTexts.{shown_chars}
use Rattle.input_files.proofs.input_texts.push_shown.Given as goal

abbrev pub invariant-characters : goal.invariant-characters
invariant-characters l =
    l.line.bytes ++ shown_chars (drop (length l.yielded) (chars l.text)) ≡ l.initial.line.bytes ++
    shown_chars (chars l.text)
