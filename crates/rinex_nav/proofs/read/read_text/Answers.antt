use Rattle.std.proofs.Common.{inl}
use Rattle.rinex_text.specs.Lines.{lines_of}
use Rattle.rinex_text.specs.Reading.{behind_of, body_left}
use Rattle.rinex_nav.specs.Files.{nav_file_of, records_from}
use Rattle.rinex_text.specs.Reading.{Refuses}
use Rattle.rinex_text.proofs.TakeLemmas.{refuses_on}
use Rattle.rinex_nav.proofs.RecordLemmas.{in_body, err_on}
use Rattle.rinex_nav.proofs.read.read_text.Goals as goal

pub returns-clause-fault : goal.returns-clause-fault
returns-clause-fault c =
    err_on (Refuses (records_from c.args.galileo 0 c.new.result.lines.number 0 (body_left c.new.result))) (Refuses (nav_file_of c.args.galileo (lines_of c.args.bytes.now))) c.read_records.result
    (refuses_on (records_from c.args.galileo 0 c.new.result.lines.number 0 (body_left c.new.result)) (nav_file_of c.args.galileo (lines_of c.args.bytes.now))
    (λ refused h.
    inl (
      behind_of c.in-Ok.lines,
      c.in-Ok.ensures,
      inl (
        behind_of c.in-Ok-behind_header.lines,
        c.in-Ok-behind_header.ensures,
        in_body c.args.galileo _ _ _ _ _ c.new.ensures.number c.new.ensures.lines h,
      ),
    )))
    c.read_records.ensures.fault
