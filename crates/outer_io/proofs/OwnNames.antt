-- Lists of files in which no two have one name.
use Rattle.std.proofs.Common.{◌≡◌, ◌≤◌, List, length, map, nat_eq, arith}
use Rattle.std.proofs.lemmas.List.{length-map}
use Rattle.std.proofs.lemmas.Map.Keys.{IsDistinct-from_apart}
use lib.Pointwise.{pointwise}
use Rattle.outer_io.specs.Store.{NamedBytes, HaveOwnNames, name_in}

-- one file alone, or none
pub few_have_own_names : (files : List NamedBytes) → length files ≤ 1 → HaveOwnNames files
few_have_own_names files few =
    let names : length (map name_in files) ≡ length files = length-map files name_in in
    IsDistinct-from_apart (pointwise nat_eq) (map name_in files) (λ i j d less below. absurd (omega arith))
