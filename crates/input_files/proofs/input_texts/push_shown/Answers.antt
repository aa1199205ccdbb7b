use Rattle.std.proofs.Common.{◌≤◌, length, ap, lit<, arith, length-append}
use Rattle.std.proofs.lemmas.Iterator.{YieldsList-from_chars}
use Rattle.std.proofs.lemmas.Iterator.Consumers.{YieldsList-turn, YieldsList-end}
use Rattle.std.proofs.lemmas.List.{length_push}
use Rattle.std.specs.Str.{chars}
use Rattle.input_files.proofs.ShownLemmas.{has_room, shown_more, shown_all, shown_short}
use Rattle.input_files.specs.InputTexts.{shown_chars}
use Rattle.input_files.proofs.input_texts.push_shown.Goals as goal

pub push-requires : goal.push-requires
push-requires c =
    let t = YieldsList-turn (YieldsList-from_chars c.args.text.now c.utf8.text cc)
    c.characters.yielded _ c.characters.yielded_by _ _ c.in-Some.c c.in-Some.is
    c.next.ensures.steps in (
      lit< tt,
      rw c.shown_of.ensures (has_room c.args.line.now.bytes c.characters.line.bytes
          c.args.text.now (length c.characters.yielded) c.in-Some.c c.utf8.text t
          c.characters.invariant c.requires),
    )

pub characters-preserved : goal.characters-preserved
characters-preserved c =
    let t = YieldsList-turn (YieldsList-from_chars c.args.text.now c.utf8.text cc)
    c.characters.yielded _ c.characters.yielded_by _ _ c.in-Some.c c.in-Some.is
    c.next.ensures.steps in
    rw (c.push.ensures.bytes, c.shown_of.ensures, length_push c.characters.yielded c.in-Some.c)
    (shown_more c.args.line.now.bytes c.characters.line.bytes (chars c.args.text.now)
    (length c.characters.yielded) c.in-Some.c t c.characters.invariant)

pub returns-clause-pushed : goal.returns-clause-pushed
returns-clause-pushed c =
    let t = YieldsList-end (YieldsList-from_chars c.args.text.now c.utf8.text cc)
    c.characters.yielded _ c.characters.yielded_by _ _ c.in-None.is c.next.ensures.steps in
    let le : length (chars c.args.text.now) ≤ length c.characters.yielded = omega (arith, t.1) in
    shown_all c.args.line.now.bytes c.characters.line.bytes (chars c.args.text.now)
    (length c.characters.yielded) le c.characters.invariant

pub returns-clause-length : goal.returns-clause-length
returns-clause-length c =
    let t = YieldsList-end (YieldsList-from_chars c.args.text.now c.utf8.text cc)
    c.characters.yielded _ c.characters.yielded_by _ _ c.in-None.is c.next.ensures.steps in
    let le : length (chars c.args.text.now) ≤ length c.characters.yielded = omega (arith, t.1) in
    let all = shown_all c.args.line.now.bytes c.characters.line.bytes (chars c.args.text.now)
    (length c.characters.yielded) le c.characters.invariant in
    omega (
      arith,
      ap length all,
      length-append c.args.line.now.bytes
          (shown_chars (chars c.args.text.now)),
      shown_short c.args.text.now c.utf8.text,
    )
