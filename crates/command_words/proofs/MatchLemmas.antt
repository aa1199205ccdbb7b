-- From what clap answers to the command.
use Rattle.std.proofs.Common.{◌≡◌, ◌≢◌, false, [], ◌∷◌, length, arith, refl}
use Rattle.std.proofs.lemmas.Bool.{ne_eqb}
use Rattle.clap.specs.Kinds.{Kinds}
use Rattle.clap.specs.Walk.{is_empty}

pub some_fault : (faults : Kinds) → faults ≢ [] → is_empty faults ≡ false
some_fault [] some = absurd (some refl)
some_fault (k ∷ ks) some = ne_eqb (length (k ∷ ks)) 0 (λ e. absurd (omega (arith, e)))
