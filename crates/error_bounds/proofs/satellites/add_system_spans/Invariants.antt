use Rattle.std.proofs.Common.{◌≡◌, ◌++◌}
use Rattle.toml.specs.View.{table_view}
use Rattle.error_bounds.specs.Keys.{first_found, own_tests, sats_from}
use Rattle.error_bounds.specs.Reading.{AreListed, with_ends}
use Rattle.error_bounds.specs.Texts.{own_extra}
use Rattle.error_bounds.proofs.satellites.add_system_spans.Given as goal

abbrev pub invariant-numbers : goal.invariant-numbers
invariant-numbers l = record {
  tests : first_found (own_tests (table_view l.members) (sats_from l.system l.number)) ≡ first_found (own_tests (table_view l.members) (sats_from l.system 1));
  extra : with_ends l.spans.items ++ own_extra (table_view l.members) (sats_from l.system l.number) ≡ with_ends l.fn.spans.items ++ own_extra (table_view l.members) (sats_from l.system 1);
  listed : AreListed (record { system = l.system; number = 1 }) l.fn.spans.items
      → AreListed (record { system = l.system; number = l.number }) l.spans.items;
}
