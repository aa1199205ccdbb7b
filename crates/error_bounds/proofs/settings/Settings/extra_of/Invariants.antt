use Rattle.std.proofs.Common.{◌≡◌, drop}
use Rattle.error_bounds.specs.Reading.{with_ends, extra_for}
use Rattle.error_bounds.proofs.settings.Settings.extra_of.Given as goal

abbrev pub invariant-entries : goal.invariant-entries
invariant-entries l =
    extra_for l.sat (with_ends (drop l.entry-index l.entry-items)) ≡ extra_for l.sat (with_ends l.entry-items)
