use Rattle.std.proofs.Common.{◌≡◌, ◌++◌, map, string_bytes}
use Rattle.toml.specs.View.{members_view}
use Rattle.error_bounds.specs.Names.{strangers}
use Rattle.error_bounds.specs.Scopes.{knows, printed_in}
use Rattle.error_bounds.proofs.names.add_unknown.Given as goal

abbrev pub invariant-loop-name : goal.invariant-loop-name
invariant-loop-name l = record {
  can : goal.iterator-loop-name.can_next l.name-iterator;
  finite : goal.iterator-loop-name.is_finite l.name-iterator;
  names : map string_bytes l.names.items ++ strangers (knows l.scope) (printed_in l.scope) (members_view l.name-iterator)
      ≡ map string_bytes l.fn.names.items ++ strangers (knows l.fn.scope) (printed_in l.fn.scope) (members_view l.fn.members.entries);
}
