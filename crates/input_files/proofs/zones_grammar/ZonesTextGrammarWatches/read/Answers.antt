use Rattle.std.proofs.Common.{sym}
use Rattle.input_files.proofs.GrammarLemmas.{read_settles}
use Rattle.input_files.proofs.OneZones.{named_no_text, one_value}
use Rattle.input_files.specs.Zones.{zones_text, zones_value}
use Rattle.input_files.proofs.zones_grammar.ZonesTextGrammarWatches.read.Goals as goal

pub returns-in-Ok-clause-same : goal.returns-in-Ok-clause-same
returns-in-Ok-clause-same c =
    let bytes = c.deref.result.now in
    let read = zones_value c.in-Ok.watches in
    rw (sym c.deref.ensures.value) (read_settles zones_text bytes read
    (λ other is. one_value bytes read other c.in-Ok.ensures.value is)
    (named_no_text bytes (λ line fails. c.in-Ok.ensures.first line fails)))
