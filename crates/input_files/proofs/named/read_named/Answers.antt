use Rattle.std.proofs.Common.{Err, ap}
use Rattle.std.proofs.lemmas.Result.{err_from_is_err_and}
use Rattle.input_files.proofs.FileReads.{found_unread, found_text, only_one, unread_ends, text_ends}
use Rattle.input_files.specs.Reading.{limit_of}
use Rattle.input_files.proofs.named.read_named.Goals as goal

pub returns-in_err-bytes-clause-found : goal.returns-in_err-bytes-clause-found
returns-in_err-bytes-clause-found g c =
    let p = err_from_is_err_and c.from_residual.result c.from_residual.ensures.1 in
    let b = c.in_err-bytes.ensures in
    rw (p.1, p.2) (found_unread c.args.limits.now (g.G.Grammar.text c.args.grammar.now)
    c.args.name.now _ _ (g.H.Shelf.reliable c.read_file.new.shelf) c.role.result
    c.in_err-bytes.field-0.0 c.role.ensures (record {
      unread = b.refusals;
      long = λ e. b.too_long (limit_of c.args.limits.now c.role.result) (ap Err e);
      missing = λ e. let m = b.missing e in cc;
      fault = λ e. b.fault (ap Err e);
    }))

pub returns-in_err-bytes-clause-only : goal.returns-in_err-bytes-clause-only
returns-in_err-bytes-clause-only g c =
    let p = err_from_is_err_and c.from_residual.result c.from_residual.ensures.1 in
    let b = c.in_err-bytes.ensures in
    rw (p.1, p.2) (only_one c.role.result (g.G.Grammar.text c.args.grammar.now).role
    c.args.name.now _ _ (Err c.in_err-bytes.field-0.0) c.role.ensures b.touches
    (unread_ends c.role.result _ c.in_err-bytes.field-0.0 b.refusals))

pub returns-clause-found : goal.returns-clause-found
returns-clause-found g c =
    let b = c.in_ok-bytes.ensures in
    found_text c.args.limits.now (g.G.Grammar.text c.args.grammar.now) c.args.name.now _ _
    (g.H.Shelf.reliable c.read_file.new.shelf) c.role.result c.in_ok-bytes.bytes.items _
    c.role.ensures b.whole b.within c.read.ensures.gives c.read.ensures.same

pub returns-clause-only : goal.returns-clause-only
returns-clause-only g c =
    only_one c.role.result (g.G.Grammar.text c.args.grammar.now).role c.args.name.now _ _ c.read.result
    c.role.ensures c.in_ok-bytes.ensures.touches
    (text_ends (g.G.Grammar.text c.args.grammar.now) c.in_ok-bytes.bytes.items c.read.result
    c.read.ensures.gives)
