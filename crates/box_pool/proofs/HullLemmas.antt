-- The least box round items.
use Rattle.std.proofs.Common.{◌≡◌, ◌≢◌, ℕ, zero, suc, ◌+◌, List, [], ◌∷◌, ◌++◌, take, Option, Some, None, arith, append_assoc, refl, sym, ap, subst, ◌∙◌}
use Rattle.grid_model.specs.Boxes.{GridBox, grid_box, IsInside}
use Rattle.grid_model.specs.declared.boxes.Box3.{Box3}
use Rattle.box_pool.specs.declared.item.Item.{Item}
use Rattle.box_pool.specs.Lists.{list_at, AllEmpty}
use Rattle.box_pool.specs.Hulls.{AllItemsInside, IsHull, IsHullOf, IsHullOfAll}
use Rattle.std.specs.Prelude.{MatchOption}
use Rattle.grid_model.proofs.BoxLemmas.{lies_trans, lies_refl}

pub all_wider : (items : List Item) (a b : GridBox) → AllItemsInside items a → IsInside a b
    → AllItemsInside items b
all_wider [] a b p q = tt
all_wider (item ∷ items) a b p q = (lies_trans (grid_box item.part) a b p.0 q, all_wider items a b p.1 q)

pub all_push : (items : List Item) (item : Item) (a : GridBox) → AllItemsInside items a
    → IsInside (grid_box item.part) a → AllItemsInside (items ++ item ∷ []) a
all_push [] item a p q = (q, tt)
all_push (i ∷ items) item a p q = (p.0, all_push items item a p.1 q)

pub all_left : (items others : List Item) (a : GridBox) → AllItemsInside (items ++ others) a
    → AllItemsInside items a
all_left [] others a p = tt
all_left (i ∷ items) others a p = (p.0, all_left items others a p.1)

pub all_right : (items others : List Item) (a : GridBox) → AllItemsInside (items ++ others) a
    → AllItemsInside others a
all_right [] others a p = p
all_right (i ∷ items) others a p = all_right items others a p.1

pub all_both : (items others : List Item) (a : GridBox) → AllItemsInside items a
    → AllItemsInside others a → AllItemsInside (items ++ others) a
all_both [] others a p q = q
all_both (i ∷ items) others a p q = (p.0, all_both items others a p.1 q)

not_nil : (items : List Item) (item : Item) → (items ++ item ∷ []) ≢ []
not_nil [] item e = cc
not_nil (i ∷ items) item e = cc

-- one item alone
pub hull_one : (items : List Item) (item : Item) → items ≡ []
    → IsHull (items ++ item ∷ []) (grid_box item.part)
hull_one items item e = record {
  some = not_nil items item;
  holds = all_push items item (grid_box item.part) (subst (λ xs. AllItemsInside xs (grid_box item.part)) (sym e) tt) (lies_refl (grid_box item.part));
  least = λ whole all. (all_right items (item ∷ []) whole all).0;
}

pub hull_more : (items : List Item) (item : Item) (hull now : GridBox) → IsHull items hull
    → IsInside hull now → IsInside (grid_box item.part) now
    → ((whole : GridBox) → IsInside hull whole → IsInside (grid_box item.part) whole → IsInside now whole)
    → IsHull (items ++ item ∷ []) now
hull_more items item hull now k wider holds least = record {
  some = not_nil items item;
  holds = all_push items item now (all_wider items hull now k.holds wider) holds;
  least = λ whole all. least whole (k.least whole (all_left items (item ∷ []) whole all)) (all_right items (item ∷ []) whole all).0;
}

-- the items of all lists
unfoldable pub flat : List (List Item) → List Item
flat [] = []
flat (items ∷ lists) = items ++ flat lists

append_nil : (xs : List Item) → xs ++ [] ≡ xs
append_nil [] = refl
append_nil (x ∷ xs) = ap (λ ys. x ∷ ys) (append_nil xs)

flat_next : (lists : List (List Item)) (i : ℕ)
    → flat (take (suc i) lists) ≡ flat (take i lists) ++ list_at lists i
unfolding flat
flat_next [] zero = refl
flat_next [] (suc i) = refl
flat_next (items ∷ lists) zero = append_nil items
flat_next (items ∷ lists) (suc i) = ap (λ xs. items ++ xs) (flat_next lists i) ∙ sym (append_assoc items (flat (take i lists)) (list_at lists i))

pub flat_more : (lists : List (List Item)) (i : ℕ)
    → flat (take (i + 1) lists) ≡ flat (take i lists) ++ list_at lists i
flat_more lists i = let next : i + 1 ≡ suc i = omega arith in ap (λ k. flat (take k lists)) next ∙ flat_next lists i

all_at : (lists : List (List Item)) (a : GridBox) → AllItemsInside (flat lists) a → (bucket : ℕ)
    → AllItemsInside (list_at lists bucket) a
unfolding flat
all_at [] a p bucket = tt
all_at (items ∷ lists) a p zero = all_left items (flat lists) a p
all_at (items ∷ lists) a p (suc bucket) = all_at lists a (all_right items (flat lists) a p) bucket

all_flat : (lists : List (List Item)) (a : GridBox)
    → ((bucket : ℕ) → AllItemsInside (list_at lists bucket) a) → AllItemsInside (flat lists) a
unfolding flat
all_flat [] a p = tt
all_flat (items ∷ lists) a p = all_both items (flat lists) a (p 0) (all_flat lists a (λ bucket. p (suc bucket)))

nil_both : (xs ys : List Item) → xs ++ ys ≡ [] → (xs ≡ []) × (ys ≡ [])
nil_both [] ys e = (refl, e)
nil_both (x ∷ xs) ys e = cc

pub none_flat : (lists : List (List Item)) → flat lists ≡ [] → AllEmpty lists
unfolding flat
none_flat [] e bucket = refl
none_flat (items ∷ lists) e zero = (nil_both items (flat lists) e).0
none_flat (items ∷ lists) e (suc bucket) = none_flat lists (nil_both items (flat lists) e).1 bucket

flat_none : (lists : List (List Item)) → AllEmpty lists → flat lists ≡ []
unfolding flat
flat_none [] e = refl
flat_none (items ∷ lists) e = ap (λ xs. xs ++ flat lists) (e 0) ∙ flat_none lists (λ bucket. e (suc bucket))

pub least_flat : (lists : List (List Item)) (hull : GridBox) → IsHull (flat lists) hull
    → IsHullOfAll lists hull
least_flat lists hull k = record {
  some = λ e. k.some (flat_none lists e);
  holds = all_at lists hull k.holds;
  least = λ whole all. k.least whole (all_flat lists whole all);
}

-- one list more, item by item
pub append_to_nil : (xs ys : List Item) → ys ≡ [] → xs ++ ys ≡ xs
append_to_nil xs ys e = ap (λ zs. xs ++ zs) e ∙ append_nil xs

pub hull_all : (lists : List (List Item)) (hull : Option Box3) → IsHullOf (flat lists) hull
    → MatchOption hull (AllEmpty lists) (λ h. IsHullOfAll lists (grid_box h))
hull_all lists None k = none_flat lists k
hull_all lists (Some hull) k = least_flat lists (grid_box hull) k
