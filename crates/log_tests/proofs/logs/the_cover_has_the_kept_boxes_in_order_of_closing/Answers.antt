use Rattle.std.proofs.Common.{rules, refl}
use Rattle.log_tests.proofs.logs.the_cover_has_the_kept_boxes_in_order_of_closing.Goals as goal

pub cover-requires : goal.cover-requires
cover-requires g c = ((_, refl, search rules), ((_, refl, search rules), ((_, refl), ((_, refl), ((_, refl), tt)))))
