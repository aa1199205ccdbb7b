use Rattle.std.proofs.Common.{string_bytes}
use Rattle.error_bounds.proofs.NameLemmas.{first_of_texts}
use Rattle.error_bounds.proofs.names.check_names.Goals as goal

pub returns-in-Some-clause-fault : goal.returns-in-Some-clause-fault
returns-in-Some-clause-fault c =
    let first = rw c.deref.ensures.value at c.in-Some.ensures in (
      string_bytes c.in-Some.name.now,
      rw (← c.in_ok-names.ensures) (first_of_texts c.in_ok-names.names.items c.in-Some.name.now first.0 first.1),
      rw c.as_str.ensures.value at c.new.ensures,
    )
