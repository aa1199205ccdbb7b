-- Lists of files in which no two have one name.
use Rattle.std.proofs.Common.{◌≡◌, [], ◌∷◌, nat_eq, codes, refl}
use Rattle.std.specs.List.{IsDistinct}
use lib.Pointwise.{pointwise}
use Rattle.outer_io.specs.Store.{NamedBytes, HaveOwnNames, name_in}

names_differ : IsDistinct (pointwise nat_eq) (codes "a.obs" ∷ codes "a.nav" ∷ codes "a.toml" ∷ codes "a.log" ∷ [])
unfolding IsDistinct
names_differ = ((refl, (refl, (refl, tt))), ((refl, (refl, tt)), ((refl, tt), (tt, tt))))

pub four_own_names : (a b c d : NamedBytes) → name_in a ≡ codes "a.obs" → name_in b ≡ codes "a.nav"
    → name_in c ≡ codes "a.toml" → name_in d ≡ codes "a.log" → HaveOwnNames (a ∷ b ∷ c ∷ d ∷ [])
four_own_names a b c d e f g h = rw (e, f, g, h) names_differ
